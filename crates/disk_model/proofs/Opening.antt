-- What a loss of power leaves while a torn end is cut off.
use Rattle.std.proofs.Common.{◌≡◌, ◌⊎◌, inl, inr, ⊎_elim, ℕ, zero, suc, ◌<◌, ◌≤◌, min, List, [], ◌∷◌, length, take}
use Rattle.std.proofs.Common.{get_or, refl, sym, ◌∙◌, ap, subst, arith, Result, Ok, Err}
use Rattle.std.proofs.lemmas.List.{take_all, take_at, length-append, get_or-take}
use Rattle.disk_model.specs.Disk.{Call, opened, cut, flushed, failed, file_after, StandsIn, AllLeft, LeavesOnly}
use Rattle.disk_model.specs.Disk.{at_first, then_also}
use Rattle.disk_model.specs.Devices.{Notes, NotesSync}
use Rattle.disk_model.specs.declared.device.DeviceError.{DeviceError}
use Rattle.disk_model.specs.Lines.{text_of, recovered, IsWholeLines}
use Rattle.disk_model.specs.Open.{lines_in, synced_in, IsOpen}
use Rattle.disk_model.proofs.Lines.{parts, recovered_text}
use Rattle.disk_model.proofs.Left.{left_same}
use Rattle.disk_model.proofs.Calls.{left_failed, left_open}

shorter_octet : (n : ℕ) (l : List ℕ) (i : ℕ) → (get_or (take n l) i 0 ≡ 0) ⊎ (get_or (take n l) i 0 ≡ get_or l i 0)
shorter_octet zero l i = inl refl
shorter_octet (suc n) [] i = inl refl
shorter_octet (suc n) (x ∷ l) zero = inr refl
shorter_octet (suc n) (x ∷ l) (suc i) = shorter_octet n l i

module _ (content : List ℕ) (n : ℕ) (is : n ≡ length (text_of (recovered content))) where
  abbrev Same : List ℕ → Type 0
  Same c = recovered c ≡ recovered content

  abbrev first : List Call
  first = opened content ∷ []

  abbrev shorter : List Call
  shorter = cut n ∷ first

  cut_text : take n content ≡ text_of (recovered content)
  cut_text = ap (λ (l : List ℕ). take n l) (parts content).split
      ∙ take_at (text_of (recovered content)) (parts content).end n (sym is)

  within : n ≤ length content
  within = omega (
    arith,
    is,
    ap length (parts content).split,
    length-append (text_of (recovered content)) (parts content).end,
  )

  two : {A B : Type 0} → A ⊎ B → B ⊎ A
  two (inl a) = inr a
  two (inr b) = inl b

  left_at_first : AllLeft Same first
  left_at_first c left =
      left_same content (parts content).end c (parts content).split (parts content).nothing (parts content).lines
      (omega (arith, left.no_shorter, within, is))
      (λ i lt. left.front i (omega (arith, lt, within, is))) (λ i. two (left.rest i))

  three : (i b : ℕ) → StandsIn (take n content ∷ content ∷ []) i b → (b ≡ 0) ⊎ (b ≡ get_or content i 0)
  three i b (inl e) = ⊎_elim (λ z. inl (e ∙ z)) (λ s. inr (e ∙ s)) (shorter_octet n content i)
  three i b (inr (inl e)) = inr e
  three i b (inr (inr e)) = inl e

  left_shorter : AllLeft Same shorter
  left_shorter c left =
      left_same content (parts content).end c (parts content).split (parts content).nothing (parts content).lines
      (omega (arith, left.no_shorter, within, is))
      (λ i lt. let low : i < min n (length content) = omega (arith, lt, within, is) in
      left.front i low ∙ get_or-take n content i 0 (omega (arith, lt, is)))
      (λ i. three i (get_or c i 0) (left.rest i))

  lines_cut : lines_in shorter ≡ recovered content
  lines_cut = ap recovered cut_text ∙ recovered_text (recovered content) (parts content).lines

  whole_cut : IsWholeLines (take n content)
  whole_cut = cut_text ∙ ap text_of (sym lines_cut)

  pub open_cut : IsOpen (flushed ∷ shorter)
  open_cut = record {
    usable = refl;
    whole = whole_cut;
    synced = subst IsWholeLines (sym (take_all (length (take n content)) (take n content) (omega arith))) whole_cut;
    within = omega arith;
    settled = refl;
  }

  pub synced_cut : synced_in (flushed ∷ shorter) ≡ recovered content
  synced_cut = ap recovered (take_all (length (take n content)) (take n content) (omega arith)) ∙ lines_cut

  left_cut : AllLeft Same (flushed ∷ shorter)
  left_cut c left =
      let f = left_open (flushed ∷ shorter) open_cut c left in
      f.same ∙ take_all f.count (lines_in (flushed ∷ shorter))
      (omega (arith, f.enough, ap length synced_cut, ap length lines_cut)) ∙ lines_cut

  pub during_cut : (r : Result (Unit {0}) DeviceError) (new : List Call) → Notes r (cut n) first new
      → LeavesOnly Same first new
  during_cut (Ok done) new notes = subst (LeavesOnly Same first) (sym notes)
      (then_also (cut n) first (at_first left_at_first) left_shorter)
  during_cut (Err e) new notes =
      subst (LeavesOnly Same first) (sym notes)
      (then_also failed shorter (then_also (cut n) first (at_first left_at_first) left_shorter)
      (λ c left. left_shorter c (left_failed (file_after shorter) c left)))

  pub during_both : (r : Result (Unit {0}) DeviceError) (mid new : List Call) → mid ≡ shorter → NotesSync r mid new
      → LeavesOnly Same first new
  during_both (Ok done) mid new at notes =
      subst (LeavesOnly Same first) (sym (notes ∙ ap (λ (l : List Call). flushed ∷ l) at))
      (then_also flushed shorter (then_also (cut n) first (at_first left_at_first) left_shorter) left_cut)
  during_both (Err e) mid new at notes =
      subst (LeavesOnly Same first) (sym (notes ∙ ap (λ (l : List Call). failed ∷ l) at))
      (then_also failed shorter (then_also (cut n) first (at_first left_at_first) left_shorter)
      (λ c left. left_shorter c (left_failed (file_after shorter) c left)))

  pub opened_lines : (new : List Call) → new ≡ flushed ∷ shorter
      → IsOpen new × (lines_in new ≡ recovered content) × (synced_in new ≡ recovered content)
  opened_lines new at = (subst IsOpen (sym at) open_cut, ap lines_in at ∙ lines_cut, ap synced_in at ∙ synced_cut)

  -- ---- from the calls before

  pub cut_from : (old : List Call) → old ≡ first → (r : Result (Unit {0}) DeviceError) (new : List Call)
      → Notes r (cut n) old new → LeavesOnly Same old new
  cut_from old at r new notes = subst (λ (l : List Call). LeavesOnly Same l new) (sym at)
      (during_cut r new (subst (λ (l : List Call). Notes r (cut n) l new) at notes))

  pub both_from : (old mid : List Call) → old ≡ first → mid ≡ cut n ∷ old
      → (r : Result (Unit {0}) DeviceError) (new : List Call) → NotesSync r mid new → LeavesOnly Same old new
  both_from old mid at also r new notes =
      subst (λ (l : List Call). LeavesOnly Same l new) (sym at)
      (during_both r mid new (also ∙ ap (λ (l : List Call). cut n ∷ l) at) notes)

  pub opened_from : (old mid new : List Call) → old ≡ first → mid ≡ cut n ∷ old → new ≡ flushed ∷ mid
      → IsOpen new × (lines_in new ≡ recovered content) × (synced_in new ≡ recovered content)
  opened_from old mid new at also last = opened_lines new (last
      ∙ ap (λ (l : List Call). flushed ∷ l) (also ∙ ap (λ (l : List Call). cut n ∷ l) at))
