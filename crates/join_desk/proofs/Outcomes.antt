-- What comes of one volume more.
use Rattle.std.specs.Prelude.{◌≡◌, ◌≢◌, ◌↔◌, ℕ, ◌+◌, List, [], ◌∷◌, ◌-◌, ◌≤◌, length, take, drop, Bool, true, false, not, IsTrue}
use Rattle.std.specs.Prelude.{Result, IfOk}
use Rattle.journal_lines.specs.declared.line.Line.{Line}
use Rattle.volume_join.specs.Joined.{behind_head}
use Rattle.journal_lines.specs.declared.line.Journal.{Journal}
use Rattle.std.proofs.Common.{get_or, arith, ap, subst, refl, inl, inr}
use Rattle.journal_archive.specs.declared.outline.FiledVolume.{FiledVolume}
use Rattle.open_volume.specs.declared.volume.VolumeSoFar.{VolumeSoFar}
use Rattle.order_book.specs.Replayed.{IsLegal}
use Rattle.archive_files.specs.Showing.{IsCopyOf}
use Rattle.archive_files.specs.Torn.{IsUntornCopyOf}
use Rattle.volume_join.specs.declared.error.JoinError.{JoinError}
use Rattle.volume_join.specs.Joining.{Joining, one, with_next, IsContinuation, HasRoom, IsRefused, IsRuleRefusal}
use Rattle.join_desk.specs.declared.outcome.JoinOutcome.{JoinOutcome}
use Rattle.join_desk.specs.declared.outcome.JoinOutcome.TheVariants.{Joined, Refused}
use Rattle.volume_spans.specs.declared.refusal.JoinRefusal.{JoinRefusal}
use Rattle.join_desk.proofs.Rows.{behind_first}
use Rattle.volume_spans.specs.Refusals.{IsRefusalAt}
use Rattle.join_desk.specs.Joined.{journal_of, IsReadBefore, IsLeftOut, IsOutcomeFrom, IsOutcome}

module _ (had : ℕ → List ℕ → Type 0) (j : Joining) (count before : ℕ) (f : FiledVolume) (fs : List FiledVolume) (v : VolumeSoFar)
    (copy : IsReadBefore had fs f v) where
  pub left_out : IsLeftOut fs v → IsOutcomeFrom had j count before (f ∷ fs) (Joined (journal_of j) count)
  left_out h = (v, copy, inl (h, refl))

  pub one_more : (outcome : JoinOutcome) (k : Joining) → (IsLeftOut fs v → ⊥) → k ≡ with_next j v.journal
      → IsContinuation j.last v.journal → HasRoom j v.journal
      → IsOutcomeFrom had k (count + 1) f.file fs outcome
      → IsOutcomeFrom had j count before (f ∷ fs) outcome
  one_more outcome k kept is goes room h = (
    v,
    copy,
    inr (inl (
      kept,
      (
        goes,
        room,
        subst (λ (x : Joining). IsOutcomeFrom had x (count + 1) f.file fs outcome) is h,
      ),
    )),
  )

  pub one_refused : (outcome : JoinOutcome) (e : JoinError) → (IsLeftOut fs v → ⊥) → IsRefused j v.journal e
      → ((r : JoinRefusal) × IsRefusalAt before f.file e r × (outcome ≡ Refused r))
      → IsOutcomeFrom had j count before (f ∷ fs) outcome
  one_refused outcome e kept refused h = (v, copy, inr (inr (kept, (e, h.0, refused, h.1, h.2))))

  pub alone : (outcome : JoinOutcome) (k : Joining) → k ≡ one v.journal → IsLegal v.journal
      → IsOutcomeFrom had k 1 f.file fs outcome → IsOutcome had (f ∷ fs) outcome
  alone outcome k is legal h =
      (v, copy, inl (legal, subst (λ (x : Joining). IsOutcomeFrom had x 1 f.file fs outcome) is h))

  pub alone_refused : (outcome : JoinOutcome) (e : JoinError) → IsRuleRefusal v.journal e
      → ((r : JoinRefusal) × IsRefusalAt f.file f.file e r × (outcome ≡ Refused r))
      → IsOutcome had (f ∷ fs) outcome
  alone_refused outcome e refused h = (v, copy, inr (e, h.0, refused, h.1, h.2))

-- a volume has nothing behind its head lines where it doesn't have something
nothing_behind : (ls : List Line) → ((ls ≡ [] → ⊥) → ⊥) → ls ≡ []
nothing_behind [] h = refl
nothing_behind (l ∷ ls) h = absurd (h (λ e. cc))

pub not_told : (ls : List Line) (told : Bool) → (IsTrue told ↔ (behind_head ls ≢ []))
    → IsTrue (not told) ↔ (behind_head ls ≡ [])
not_told ls true both = (λ h. absurd (cc), λ h. absurd (both.0 refl h))
not_told ls false both = (λ h. nothing_behind (behind_head ls) (λ some. let t = both.1 some in cc), λ h. refl)

-- ---- volumes that are put together one after the other

-- what comes of the volumes that are left, behind what is joined, is what comes of all
pub record IsOnward (had : ℕ → List ℕ → Type 0) (begun : Joining) (first : ℕ) (later : List FiledVolume)
    (j : Joining) (count before : ℕ) (rest : List FiledVolume) : Type 0 where
  pub each : (outcome : JoinOutcome) → IsOutcomeFrom had j count before rest outcome
      → IsOutcomeFrom had begun 1 first later outcome
  pub counted : count + length rest ≡ 1 + length later

pub go_begun : (had : ℕ → List ℕ → Type 0) (begun : Joining) (first : ℕ) (later : List FiledVolume)
    → IsOnward had begun first later begun 1 first later
go_begun had begun first later = record { each = λ outcome h. h; counted = refl }

module _ (had : ℕ → List ℕ → Type 0) (begun : Joining) (first : ℕ) (later : List FiledVolume) (j : Joining)
    (count before : ℕ) where
  pub go_more : (f : FiledVolume) (fs : List FiledVolume) (v : VolumeSoFar) (k : Joining)
      → IsOnward had begun first later j count before (f ∷ fs)
      → IsReadBefore had fs f v → (IsLeftOut fs v → ⊥) → k ≡ with_next j v.journal → IsContinuation j.last v.journal
      → HasRoom j v.journal → IsOnward had begun first later k (count + 1) f.file fs
  go_more f fs v k onward copy kept is goes room = record {
    each = λ outcome h. onward.each outcome (one_more had j count before f fs v copy outcome k kept is goes room h);
    counted = (let e = onward.counted in omega arith);
  }

  pub end_left : (f : FiledVolume) (fs : List FiledVolume) (v : VolumeSoFar)
      → IsOnward had begun first later j count before (f ∷ fs)
      → IsReadBefore had fs f v → IsLeftOut fs v
      → IsOutcomeFrom had begun 1 first later (Joined (journal_of j) count)
  end_left f fs v onward copy out = onward.each _ (left_out had j count before f fs v copy out)

  pub end_refused : (f : FiledVolume) (fs : List FiledVolume) (v : VolumeSoFar) (e : JoinError) (outcome : JoinOutcome)
      → IsOnward had begun first later j count before (f ∷ fs)
      → IsReadBefore had fs f v → (IsLeftOut fs v → ⊥) → IsRefused j v.journal e
      → ((r : JoinRefusal) × IsRefusalAt before f.file e r × (outcome ≡ Refused r))
      → IsOutcomeFrom had begun 1 first later outcome
  end_refused f fs v e outcome onward copy kept refused h =
      onward.each outcome (one_refused had j count before f fs v copy outcome e kept refused h)

  pub end_all : (journal : Journal) → IsOnward had begun first later j count before [] → journal ≡ journal_of j
      → IsOutcomeFrom had begun 1 first later (Joined journal count)
  end_all journal onward is = onward.each (Joined journal count) (ap (λ (x : Journal). Joined x count) is)

  pub go_step : (rest : List FiledVolume) (f : FiledVolume) (v : VolumeSoFar) (k : Joining) → 1 ≤ length rest
      → f ≡ get_or rest 0 f → IsOnward had begun first later j count before rest
      → IsReadBefore had (take (length rest - 1) (drop 1 rest)) f v → (IsLeftOut (take (length rest - 1) (drop 1 rest)) v → ⊥)
      → k ≡ with_next j v.journal → IsContinuation j.last v.journal → HasRoom j v.journal
      → IsOnward had begun first later k (count + 1) f.file (take (length rest - 1) (drop 1 rest))
  go_step rest f v k some first_is onward copy kept is goes room =
      go_more f (take (length rest - 1) (drop 1 rest)) v k
      (subst (IsOnward had begun first later j count before) (behind_first rest f some first_is) onward)
      copy kept is goes room

-- ---- how a volume is read

module _ {E : Type 0} (had : ℕ → List ℕ → Type 0) (f : FiledVolume) where
  pub read_last : (later : List FiledVolume) (r : Result VolumeSoFar E) → later ≡ []
      → IfOk r (IsCopyOf (had f.file) f) → IfOk r (IsReadBefore had later f)
  read_last [] r none copy = copy
  read_last (g ∷ gs) r none copy = absurd (cc)

  pub read_before : (later : List FiledVolume) (r : Result VolumeSoFar E) → (later ≡ [] → ⊥)
      → IfOk r (IsUntornCopyOf (had f.file) f) → IfOk r (IsReadBefore had later f)
  read_before [] r some copy = absurd (some refl)
  read_before (g ∷ gs) r some copy = copy
