-- Two journals have one answer, and three texts one verdict.
use Rattle.std.specs.Prelude.{◌≡◌, ◌≢◌, Result, Err}
use Rattle.std.proofs.Common.{sym, ◌∙◌, ap, inl, inr}
use Rattle.binding_rules.specs.declared.role.Role.{Role}
use Rattle.binding_rules.specs.declared.role.Role.TheVariants.{Primary, Secondary}
use Rattle.journal_lines.specs.declared.line.Journal.{Journal}
use Rattle.journal_lines.specs.Head.{volume_number}
use Rattle.causal_order.specs.Journals.{Journals, journals_of}
use Rattle.book_rules.specs.Laws.{LegalIsUnbroken, OneFirstBroken}
use Rattle.journal_merge.specs.declared.merged.Merged.{Merged}
use Rattle.journal_merge.specs.declared.merged.MergeError.{MergeError}
use Rattle.journal_merge.specs.declared.merged.MergeError.TheVariants.{Unsent as NoSend, Differs as OtherSend}
use Rattle.journal_merge.specs.declared.merged.MergeError.TheVariants.{Circular as NoOrder, Memory}
use Rattle.journal_merge.specs.Interleaving.{HasInterleaving}
use Rattle.journal_merge.specs.Refusals.{AreMatched}
use Rattle.journal_merge.specs.Answer.{IsMergeAnswer, AnswerIsOne}
use Rattle.journal_merge.specs.Laws.{PlacedOnce}
use Rattle.attribution.specs.declared.verdict.Verdict.{Verdict}
use Rattle.attribution.specs.declared.verdict.Verdict.TheVariants.{Accepted, Rule, Unsent, Differs, Circular}
use Rattle.auditor.specs.declared.pair.Checked.TheVariants.{Legal, Refused}
use Rattle.auditor.specs.Pair.{IsBroken, IsUnbroken, AreMessagesRefused, IsPairRefused, IsPairLegal, CheckedOnce}

-- the refusal that a merge's error is told as
told : MergeError → Verdict
told (NoSend r) = Unsent r
told (OtherSend r) = Differs r
told NoOrder = Circular
told Memory = Accepted

abbrev failed : MergeError → Result Merged MergeError
failed e = Err e

-- a refusal of messages is the answer of a merge
abbrev IsTold : Journals → Verdict → Type 0
IsTold js v = (e : MergeError) × IsMergeAnswer js (failed e) × (failed e ≢ failed Memory) × (v ≡ told e)

refused_told : (js : Journals) (v : Verdict) → AreMessagesRefused js v → IsTold js v
unfolding told
refused_told js v (inl h) = (NoSend h.0, h.2, (λ x. absurd (cc)), h.1)
refused_told js v (inr (inl h)) = (OtherSend h.1.0, (h.0, h.1.2), (λ x. absurd (cc)), h.1.1)
refused_told js v (inr (inr h)) = (NoOrder, (h.0, h.2), (λ x. absurd (cc)), h.1)

module _ (broken : LegalIsUnbroken) (first : OneFirstBroken) (answers : AnswerIsOne) (placed : PlacedOnce) where
  unbroken_not : (side : Role) (j : Journal) (v : Verdict) → IsUnbroken side j → IsBroken side j v → ⊥
  unbroken_not side j v u h = broken side (volume_number j.head) j.lines h.0 h.1 u h.3

  broken_once : (side : Role) (j : Journal) (v w : Verdict) → IsBroken side j v → IsBroken side j w → v ≡ w
  broken_once side j v w h g =
      let same = first side (volume_number j.head) j.lines h.0 g.0 h.1 g.1 h.3 g.3 in
      h.2 ∙ (ap (λ n. Rule side n h.1) same.0 ∙ (ap (λ r. Rule side g.0 r) same.1 ∙ sym g.2))

  messages_once : (js : Journals) (v w : Verdict) → AreMessagesRefused js v → AreMessagesRefused js w → v ≡ w
  messages_once js v w h g =
      let x = refused_told js v h in
      let y = refused_told js w g in
      let same : failed x.0 ≡ failed y.0 = answers js (failed x.0) (failed y.0) x.2 y.2 x.1 y.1 in
      let e : x.0 ≡ y.0 = cc in
      x.3 ∙ (ap told e ∙ sym y.3)

  messages_not : (js : Journals) (v : Verdict) → AreMatched js → HasInterleaving js → AreMessagesRefused js v → ⊥
  messages_not js v matched has (inl h) = matched.0 h.0 h.2.0
  messages_not js v matched has (inr (inl h)) = matched.1 h.1.0 h.1.2.0
  messages_not js v matched has (inr (inr h)) = h.2 has

  pub refused_once : (a b : Journal) (v w : Verdict) → IsPairRefused a b v → IsPairRefused a b w → v ≡ w
  refused_once a b v w (inl h) (inl g) = broken_once Primary a v w h g
  refused_once a b v w (inl h) (inr (p, g)) = absurd (unbroken_not Primary a v p h)
  refused_once a b v w (inr (p, h)) (inl g) = absurd (unbroken_not Primary a w p g)
  refused_once a b v w (inr (p, inl h)) (inr (q, inl g)) = broken_once Secondary b v w h g
  refused_once a b v w (inr (p, inl h)) (inr (q, inr (s, g))) = absurd (unbroken_not Secondary b v s h)
  refused_once a b v w (inr (p, inr (s, h))) (inr (q, inl g)) = absurd (unbroken_not Secondary b w s g)
  refused_once a b v w (inr (p, inr (s, h))) (inr (q, inr (t, g))) = messages_once (journals_of a b) v w h g

  pub legal_not : (a b : Journal) (v : Verdict) → IsPairLegal a b → IsPairRefused a b v → ⊥
  legal_not a b v legal (inl h) = unbroken_not Primary a v legal.0 h
  legal_not a b v legal (inr (p, inl h)) = unbroken_not Secondary b v legal.1 h
  legal_not a b v legal (inr (p, inr (q, h))) = messages_not (journals_of a b) v legal.2 legal.3 h

  pub checked_once : CheckedOnce
  checked_once a b (Legal m) (Legal n) h g =
      ap (λ rs. Legal (record { refs = rs })) (placed (journals_of a b) m.refs n.refs h.1 g.1)
  checked_once a b (Legal m) (Refused w) h g = absurd (legal_not a b w h.0 g)
  checked_once a b (Refused v) (Legal n) h g = absurd (legal_not a b v g.0 h)
  checked_once a b (Refused v) (Refused w) h g = ap Refused (refused_once a b v w h g)
