-- A run that grows line by line is a run of the pair: in time, near the clocks, of two journals that break no rule, and
-- what is taken was sent.
use Rattle.std.specs.Prelude.{◌≡◌, ◌+◌, ◌<◌, ◌≤◌, ◌∷◌, ◌++◌, [], if◌then◌else◌, Bool, List, false, filter, map, true, ℕ}
use Rattle.std.specs.Prelude.{⊤}
use Rattle.std.proofs.Common.{◌∙◌, ap, append_assoc, arith, refl, subst, sym}
use Rattle.binding_rules.specs.declared.message.PartnerMessage.{PartnerMessage}
use Rattle.binding_rules.specs.declared.role.Role.TheVariants.{Primary, Secondary}
use Rattle.binding_rules.specs.declared.role.Role.{Role}
use Rattle.binding_rules.specs.Role.{is_side, partner_of}
use Rattle.journal_lines.specs.declared.line.Line.{Line}
use Rattle.journal_lines.specs.declared.event.Event.TheVariants.{Send, Take}
use Rattle.journal_lines.specs.Close.{is_close, until_close}
use Rattle.book_rules.specs.Volumes.{AreSteps, book_after}
use Rattle.book_state.specs.Book.{BookState, blank}
use Rattle.book_rules.specs.NextHead.{AreLegal}
use Rattle.book_rules.specs.Rules.{IsStep}
use Rattle.book_rules.specs.declared.rule.Rule.TheVariants.{Sequence}
use Rattle.book_state.specs.Effects.{after}
use Rattle.attribution.specs.Run.{At, IsRun, KeepsSkew, Step, lines_of}
use Rattle.pair_world.specs.PairWorld.{steps_of}
use Rattle.pair_world.specs.PairSafe.{first_volume}
use Rattle.pair_world.proofs.Lists.{IsSentAt, at_append, at_below, at_split, book_append, lines_other, lines_same}
use Rattle.pair_world.proofs.Lists.{own_side, side_same, steps_append}
use Rattle.pair_world.proofs.Kept.{by_bool}
use Rattle.pair_world.proofs.Effects.{by_test}
use Rattle.pair_world.proofs.Phases.{by_word}

abbrev pub IsSentBefore : List Step → Role → ℕ → PartnerMessage → Type 0
IsSentBefore run side i m = (j : ℕ) × (t : Step) × (j < i) × At run j t × (t.side ≡ side) × (t.line.event ≡ Send m)

-- the book that a side's lines in a run lead to
abbrev pub book_in : Role → List Step → BookState
book_in side run = book_after (blank side 1) (lines_of side run)

pub record Trace (skew moment : ℕ) (run : List Step) : Type 0 where
  pub late : (i : ℕ) (s : Step) → At run i s → s.moment ≤ moment
  pub in_time : (i j : ℕ) (s t : Step) → i ≤ j → At run i s → At run j t → s.moment ≤ t.moment
  pub near : (i : ℕ) (s : Step) → At run i s → (s.line.reading ≤ s.moment + skew) × (s.moment ≤ s.line.reading + skew)
  pub read : (side : Role) → (book_in side run).reading ≤ moment + skew
  pub legal : (side : Role) → AreSteps (blank side 1) (lines_of side run)
  pub sent : (i : ℕ) (s : Step) (m : PartnerMessage) → At run i s → s.line.event ≡ Take m
      → IsSentBefore run (partner_of s.side) i m

pub blank_trace : (skew moment : ℕ) → Trace skew moment []
blank_trace skew moment = record {
  late = λ i s at. absurd (cc);
  in_time = λ i j s t le at at'. absurd (cc);
  near = λ i s at. absurd (cc);
  read = λ side. omega arith;
  legal = λ side. tt;
  sent = λ i s m at is. absurd (cc);
}

pub trace_later : (skew moment n : ℕ) (run : List Step) → Trace skew moment run → Trace skew (moment + n) run
trace_later skew moment n run h = record {
  late = λ i s at. let le = h.late i s at in omega arith;
  in_time = h.in_time;
  near = h.near;
  read = λ side. let le = h.read side in omega arith;
  legal = h.legal;
  sent = h.sent;
}

-- a further line changes its side's book, and no other
pub book_on : (run : List Step) (t : Step) (side : Role) → book_in side (run ++ t ∷ [])
    ≡ (if is_side side t.side then after (book_in side run) t.line else book_in side run)
book_on run t side = by_side (is_side side t.side) refl where
  by_side : (b : Bool) → is_side side t.side ≡ b → book_in side (run ++ t ∷ [])
      ≡ (if b then after (book_in side run) t.line else book_in side run)
  by_side true e = ap (book_after (blank side 1)) (lines_same side run t e)
      ∙ book_append (blank side 1) (lines_of side run) t.line
  by_side false e = ap (book_after (blank side 1)) (lines_other side run t e)

module _ (skew moment : ℕ) (run : List Step) (h : Trace skew moment run) (t : Step) (now : t.moment ≡ moment)
    (ahead : t.line.reading ≤ moment + skew) (behind : moment ≤ t.line.reading + skew)
    (fed : (m : PartnerMessage) → t.line.event ≡ Take m → IsSentAt (partner_of t.side) run m)
    (step : IsStep (book_in t.side run) t.line) where
  late_on : (i : ℕ) (s : Step) → At (run ++ t ∷ []) i s → s.moment ≤ moment
  late_on i s at = by_word (at_split run t i s at) (λ old. h.late i s old)
      (λ e. subst (λ (x : Step). x.moment ≤ moment) e.1 (omega arith))

  in_time_on : (i j : ℕ) (s u : Step) → i ≤ j → At (run ++ t ∷ []) i s → At (run ++ t ∷ []) j u → s.moment ≤ u.moment
  in_time_on i j s u le at at' = by_word (at_split run t j u at')
      (λ old'. by_word (at_split run t i s at) (λ old. h.in_time i j s u le old old') (λ e. let lt =
      at_below run j u old' in let z = e.0 in absurd (omega arith)))
      (λ e. let l = late_on i s at in subst (λ (x : Step). s.moment ≤ x.moment) e.1 (omega arith))

  near_on : (i : ℕ) (s : Step) → At (run ++ t ∷ []) i s → (s.line.reading ≤ s.moment + skew)
      × (s.moment ≤ s.line.reading + skew)
  near_on i s at = by_word (at_split run t i s at) (λ old. h.near i s old)
      (λ e. subst (λ (x : Step). (x.line.reading ≤ x.moment + skew) × (x.moment ≤ x.line.reading + skew)) e.1
      (omega arith, omega arith))

  sent_on : (i : ℕ) (s : Step) (m : PartnerMessage) → At (run ++ t ∷ []) i s → s.line.event ≡ Take m
      → IsSentBefore (run ++ t ∷ []) (partner_of s.side) i m
  sent_on i s m at is = by_word (at_split run t i s at)
      (λ old. let r = h.sent i s m old is in (r.0, r.1, r.2, at_append run t r.0 r.1 r.3, r.4, r.5))
      (λ e.
      let is_t : t.line.event ≡ Take m = ap (λ (x : Step). x.line.event) e.1 ∙ is in
      let r = fed m is_t in
      let lt = at_below run r.0 r.1 r.2 in
      let z = e.0 in
      (r.0, r.1, omega arith, at_append run t r.0 r.1 r.2, r.3 ∙ ap (λ (x : Step). partner_of x.side) e.1, r.4))

  read_on : (side : Role) → (book_in side (run ++ t ∷ [])).reading ≤ moment + skew
  read_on side = subst (λ (b : BookState). b.reading ≤ moment + skew) (sym (book_on run t side))
      (by_test (λ (b : BookState). b.reading ≤ moment + skew) (is_side side t.side) (after (book_in side run) t.line)
      (book_in side run) (λ _. ahead) (λ _. h.read side))

  legal_on : (side : Role) → AreSteps (blank side 1) (lines_of side (run ++ t ∷ []))
  legal_on side = by_bool (is_side side t.side)
      (λ e. subst (AreSteps (blank side 1)) (sym (lines_same side run t e))
      (steps_append (blank side 1) (lines_of side run) t.line (h.legal side)
      (subst (λ z. IsStep (book_in z run) t.line) (side_same side t.side e) step)))
      (λ e. subst (AreSteps (blank side 1)) (sym (lines_other side run t e)) (h.legal side))

  pub trace_on : Trace skew moment (run ++ t ∷ [])
  trace_on = record {
    late = late_on;
    in_time = in_time_on;
    near = near_on;
    read = read_on;
    legal = legal_on;
    sent =
        sent_on;
  }

-- a journal that breaks no rule has its only close line last
no_more : (b : BookState) (ls : List Line) → b.closed ≡ true → AreSteps b ls → ls ≡ []
no_more b [] closed h = refl
no_more b (l ∷ ls) closed h = let z = (h.0 Sequence).is_open in absurd (cc)

until : (b : BookState) (ls : List Line) → AreSteps b ls → until_close ls ≡ ls
until b [] h = refl
until b (l ∷ ls) h = by_close (is_close l.event) refl (until (after b l) ls h.1) where
  by_close : (t : Bool) → is_close l.event ≡ t → until_close ls ≡ ls
      → (if t then l ∷ [] else l ∷ until_close ls) ≡ l ∷ ls
  by_close true e rest = ap (λ z. l ∷ z) (sym (no_more (after b l) ls e h.1))
  by_close false e rest = ap (λ z. l ∷ z) rest

pub is_run : (skew moment : ℕ) (run : List Step) → Trace skew moment run
    → IsRun AreLegal first_volume run × KeepsSkew skew first_volume run
is_run skew moment run h = (
  record {
    in_time = h.in_time;
    legal = λ side. subst (AreSteps (blank side 1)) (sym (until (blank side 1) (lines_of side run) (h.legal side)))
        (h.legal side);
    sent = λ i s m at within is. h.sent i s m at is;
  },
  λ i s at within. h.near i s at,
)

append_nil : (xs : List Step) → xs ++ [] ≡ xs
append_nil [] = refl
append_nil (x ∷ xs) = ap (λ z. x ∷ z) (append_nil xs)

-- several lines of one side, at one moment, none of which takes
abbrev pub AreAt : ℕ → List Line → Type 0
AreAt moment [] = ⊤
AreAt moment (l ∷ ls) = (l.reading ≡ moment) × ((m : PartnerMessage) → l.event ≡ Take m → ⊥) × AreAt moment ls

pub trace_lines : (skew moment : ℕ) (side : Role) (ls : List Line) (run : List Step) → Trace skew moment run
    → AreSteps (book_in side run) ls → AreAt moment ls
    → Trace skew moment (run ++ steps_of side moment ls)
trace_lines skew moment side [] run h steps at = subst (Trace skew moment) (sym (append_nil run)) h
trace_lines skew moment side (l ∷ ls) run h steps at =
    let e = at.0 in
    let t : Step = record { side = side; moment = moment; line = l } in
    let on = trace_on skew moment run h t refl (omega arith) (omega arith) (λ m is. absurd (at.1 m is)) steps.0 in
    let book : book_in side (run ++ t ∷ []) ≡ after (book_in side run) l =
    ap (book_after (blank side 1)) (lines_same side run t (own_side side))
    ∙ book_append (blank side 1) (lines_of side run) l in
    subst (Trace skew moment) (append_assoc run (t ∷ []) (steps_of side moment ls))
    (trace_lines skew moment side ls (run ++ t ∷ []) on (subst (λ b. AreSteps b ls) (sym book) steps.1) at.2)

-- the lines of steps of one side
pub lines_of_own : (side : Role) (moment : ℕ) (ls : List Line) → lines_of side (steps_of side moment ls) ≡ ls
lines_of_own side moment [] = refl
lines_of_own side moment (l ∷ ls) = by_side (is_side side side) (own_side side) (lines_of_own side moment ls) where
  by_side : (b : Bool) → b ≡ true → lines_of side (steps_of side moment ls) ≡ ls
      → map (λ (s : Step). s.line) (if b then record { side = side; moment = moment; line = l }
      ∷ filter (λ (s : Step). is_side side s.side) (steps_of side moment ls) else filter
      (λ (s : Step). is_side side s.side) (steps_of side moment ls)) ≡ l ∷ ls
  by_side true e h = ap (λ z. l ∷ z) h
  by_side false e h = absurd (cc)

pub lines_of_partner : (side : Role) (moment : ℕ) (ls : List Line)
    → lines_of side (steps_of (partner_of side) moment ls) ≡ []
lines_of_partner side moment [] = refl
lines_of_partner Primary moment (l ∷ ls) = lines_of_partner Primary moment ls
lines_of_partner Secondary moment (l ∷ ls) = lines_of_partner Secondary moment ls
