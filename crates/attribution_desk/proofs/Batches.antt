-- Certificates one after another: their texts, the rulings on them and the lines of these.
use Rattle.std.specs.Prelude.{map}
use Rattle.std.proofs.Common.{Bool, true, false, cond, ◌≡◌, ℕ, suc, ◌+◌, ◌<◌, ◌≤◌, List, [], ◌∷◌, ◌++◌, length, take}
use Rattle.std.proofs.Common.{drop, get_or, flat_map, replicate, Option, Some, None, Result, Ok, Err, inl, inr, refl}
use Rattle.std.proofs.Common.{sym, ap, subst, ◌∙◌, append_assoc, append-nil, arith}
use Rattle.std.proofs.lemmas.List.{at_drop_more, length-take-le, take-append-drop}
use Rattle.std.proofs.Math.ListN.{drop_of_length-le}
use Rattle.journal_lines.specs.declared.line.Journal.{Journal}
use Rattle.journal_lines.specs.declared.fault.JournalFault.{JournalFault}
use Rattle.binding_rules.specs.declared.role.Role.TheVariants.{Primary, Secondary}
use Rattle.causal_order.specs.declared.certificate.Certificate.{Certificate}
use Rattle.causal_order.specs.declared.fault.CertificateFault.{CertificateFault}
use Rattle.causal_order.specs.Journals.{journals_of}
use Rattle.attribution.specs.declared.verdict.Verdict.{Verdict as VerdictValue}
use Rattle.pair_judgement.specs.declared.judging.Judgement.{Judgement}
use Rattle.pair_judgement.specs.declared.judging.Judgement.TheVariants.{Verdict}
use Rattle.attribution.specs.declared.verdict.Verdict.TheVariants.{Certificate as FaultOf, Journal as JournalVerdict}
use Rattle.attribution.specs.FirstRefusal.{IsVerdict}
use Rattle.pair_judgement.specs.Judgements.{judgement_line}
use Rattle.pair_judgement.specs.PairJudgements.{IsRuledOut, IsFit}
use Rattle.parallel_check.specs.Verdicts.{AreVerdicts as AllJudged}
use Rattle.attribution_desk.specs.Input.{text_length}
use Rattle.attribution_desk.specs.Intake.{IsWholeText, TextGoesOn}
use Rattle.attribution_desk.specs.Batch.{AreTexts, AreRuled}
use Rattle.attribution_desk.specs.Claims.{AreGathered, AreRuledOn, woven}
use Rattle.attribution_desk.specs.declared.certificates.CertificateText.{CertificateText}
use Rattle.attribution_desk.specs.Claims.{texts_of}
use Rattle.attribution_desk.specs.Input.{begins_with_end, first_length}
use Rattle.text_fields.specs.Cuts.{split, joined}
use Rattle.text_fields.proofs.CutLaws.{joined-split}
use Rattle.std.proofs.lemmas.List.{map-append}
use Rattle.attribution_desk.proofs.EndLines.{all_of}

-- ---- the length of the first text

pub goes_on_from_none : (line : List ℕ) → line ≡ [] → TextGoesOn [] line
goes_on_from_none line is = rw is (record { unbroken = tt; alike = λ more. omega arith })

pub length_of_whole : (rest : List ℕ) (n : ℕ) → n ≤ length rest → IsWholeText (take n rest) → n ≡ text_length rest
length_of_whole rest n le whole = sym (length-take-le n rest le)
    ∙ (sym (whole (drop n rest)) ∙ ap text_length (take-append-drop n rest))

pub length_of_all : (rest line : List ℕ) → TextGoesOn rest line → length rest ≡ text_length rest
length_of_all rest line h = sym (all_of rest line h)

-- ---- texts one after another

some_by : (b : Bool) (n later : ℕ) → 0 < n → 0 < later → 0 < cond b n later
some_by true n later p q = p
some_by false n later p q = q

some_first : (lines : List (List ℕ)) → 0 < length (joined 10 lines) → 0 < first_length lines
unfolding first_length
some_first [] lt = absurd (omega arith)
some_first (last ∷ []) lt = lt
some_first (line ∷ next ∷ lines) lt = some_by (begins_with_end line) (length line + 1)
    (length line + 1 + first_length (next ∷ lines)) (omega arith) (omega arith)

pub some_text : (rest : List ℕ) → 0 < length rest → 0 < text_length rest
some_text rest lt = some_first (split 10 rest) (omega (arith, ap length (joined-split 10 rest)))

pub none_left : {X : Type 0} (rest : List X) → length rest ≡ 0 → rest ≡ []
none_left [] e = refl
none_left (b ∷ rest) e = absurd (omega (arith, e))

pub one_text : (rest text behind : List ℕ) (n : ℕ) (more : List (List ℕ)) → n ≡ text_length rest → 0 < length rest
    → text ≡ take n rest → behind ≡ drop n rest → AreTexts behind more → AreTexts rest (text ∷ more)
one_text rest text behind n more is some front back h = (
  (λ none. absurd (omega (arith, some, ap length none))),
  front ∙ ap (λ (k : ℕ). take k rest) is,
  subst (λ (r : List ℕ). AreTexts r more) (back ∙ ap (λ (k : ℕ). drop k rest) is) h,
)

pub one_claim : (claims longer : List CertificateText) (claim : CertificateText) (more : List (List ℕ)) → longer ≡ claims ++ claim ∷ []
    → texts_of longer ++ more ≡ texts_of claims ++ claim.text.now ∷ more
one_claim claims longer claim more e = ap (λ (cs : List CertificateText). texts_of cs ++ more) e
    ∙ (ap (λ (t : List (List ℕ)). t ++ more) (map-append (λ (c : CertificateText). c.text.now) claims (claim ∷ []))
    ∙ append_assoc (texts_of claims) (claim.text.now ∷ []) more)

pub texts_kept : (old new : List CertificateText) → length new ≡ length old
    → ((i : ℕ) (d : CertificateText) → i < length old → (get_or new i d).text ≡ (get_or old i d).text)
    → texts_of new ≡ texts_of old
texts_kept [] [] len each = refl
texts_kept (x ∷ xs) (y ∷ ys) len each =
    let first = each 0 x (omega arith) in
    let rest = texts_kept xs ys (omega (arith, len)) (λ i d lt. each (suc i) d (omega (arith, lt))) in
    rw (first, rest) refl
texts_kept [] (y ∷ ys) len each = absurd (omega (arith, len))
texts_kept (x ∷ xs) [] len each = absurd (omega (arith, len))

-- ---- the lines of rulings

pub line_more : (vs : List Judgement) (i : ℕ) (d : Judgement) (line longer : List ℕ) → i < length vs
    → line ++ flat_map judgement_line (drop i vs) ≡ flat_map judgement_line vs
    → longer ≡ line ++ judgement_line (get_or vs i d) → longer ++ flat_map judgement_line (drop (i + 1) vs)
    ≡ flat_map judgement_line vs
line_more vs i d line longer lt h e =
    let rest = flat_map judgement_line (drop (i + 1) vs) in
    ap (λ (t : List ℕ). t ++ rest) e ∙ (append_assoc line (judgement_line (get_or vs i d)) rest
    ∙ (sym (ap (λ (t : List ℕ). line ++ t) (at_drop_more (flat_map judgement_line) vs i d lt)) ∙ h))

pub line_whole : (vs : List Judgement) (i : ℕ) (line : List ℕ) → length vs ≤ i
    → line ++ flat_map judgement_line (drop i vs) ≡ flat_map judgement_line vs → line ≡ flat_map judgement_line vs
line_whole vs i line le h = sym (append-nil line)
    ∙ (sym (ap (λ (r : List Judgement). line ++ flat_map judgement_line r) (drop_of_length-le vs le)) ∙ h)

-- ---- rulings woven with faults

module _ (faults : List (Option CertificateFault)) (i : ℕ) (d : Option CertificateFault)
    (out rest target : List Judgement) (lt : i < length faults) (h : out ++ woven (drop i faults) rest ≡ target) where
  here : out ++ woven (get_or faults i d ∷ drop (i + 1) faults) rest ≡ target
  here = sym (ap (λ (t : List Judgement). out ++ t)
      (at_drop_more (λ (fs : List (Option CertificateFault)). woven fs rest) faults i d lt)) ∙ h

  pub woven_fault : (f : CertificateFault) (longer : List Judgement) → get_or faults i d ≡ Some f
      → longer ≡ out ++ Verdict (FaultOf f) ∷ [] → longer ++ woven (drop (i + 1) faults) rest ≡ target
  woven_fault f longer is e =
      ap (λ (t : List Judgement). t ++ woven (drop (i + 1) faults) rest) e
      ∙ (append_assoc out (Verdict (FaultOf f) ∷ []) (woven (drop (i + 1) faults) rest)
      ∙ (sym (ap (λ (o : Option CertificateFault). out ++ woven (o ∷ drop (i + 1) faults) rest) is) ∙ here))

  pub woven_ruling : (v : Judgement) (others longer : List Judgement) → get_or faults i d ≡ None → rest ≡ v ∷ others
      → longer ≡ out ++ v ∷ [] → longer ++ woven (drop (i + 1) faults) others ≡ target
  woven_ruling v others longer is front e =
      ap (λ (t : List Judgement). t ++ woven (drop (i + 1) faults) others) e
      ∙ (append_assoc out (v ∷ []) (woven (drop (i + 1) faults) others)
      ∙ (sym (ap (λ (r : List Judgement). out ++ woven (None ∷ drop (i + 1) faults) r) front)
      ∙ (sym (ap (λ (o : Option CertificateFault). out ++ woven (o ∷ drop (i + 1) faults) rest) is)
      ∙ here)))

  pub woven_short : get_or faults i d ≡ None → rest ≡ [] → out ≡ target
  woven_short is none =
      sym (append-nil out) ∙ (sym (ap (λ (r : List Judgement). out ++ woven (None ∷ drop (i + 1) faults) r) none)
      ∙ (sym (ap (λ (o : Option CertificateFault). out ++ woven (o ∷ drop (i + 1) faults) rest) is) ∙ here))

pub woven_whole : (faults : List (Option CertificateFault)) (i : ℕ) (out rest target : List Judgement) → length faults ≤ i
    → out ++ woven (drop i faults) rest ≡ target → out ≡ target
woven_whole faults i out rest target le h = sym (append-nil out)
    ∙ (sym (ap (λ (fs : List (Option CertificateFault)). out ++ woven fs rest) (drop_of_length-le faults le)) ∙ h)

-- ---- rulings on certificates

pub all_refused : (a b : Journal) (skew transit : ℕ) (r : Judgement) → IsRuledOut a b skew r → (cs : List Certificate)
    → AreRuledOn a b skew transit cs (replicate (length cs) r)
all_refused a b skew transit r out [] = tt
all_refused a b skew transit r out (c ∷ cs) = (inl out, all_refused a b skew transit r out cs)

module _ (a b : Journal) (skew transit : ℕ) (fit : IsFit a b skew) where
  tail_judged : (c : Certificate) (cs : List Certificate) (v : VerdictValue) (vs : List VerdictValue)
      → AllJudged (journals_of a b) skew transit (c ∷ cs) (v ∷ vs) → AllJudged (journals_of a b) skew transit cs vs
  tail_judged c cs v vs h = record {
    count = let n = h.count in omega (arith, n);
    each = λ n w is. let at = h.each (suc n) w is in
        record { certificate = at.certificate; here = at.here; verdict = at.verdict };
  }

  first_judged : (c : Certificate) (cs : List Certificate) (v : VerdictValue) (vs : List VerdictValue)
      → AllJudged (journals_of a b) skew transit (c ∷ cs) (v ∷ vs) → IsVerdict (journals_of a b) skew transit c v
  first_judged c cs v vs h = let at = h.each 0 v refl in
      subst (λ (x : Certificate). IsVerdict (journals_of a b) skew transit x v)
      (let same : Some c ≡ Some at.certificate = at.here in cc) at.verdict

  pub all_audited : (cs : List Certificate) (vs : List VerdictValue) → AllJudged (journals_of a b) skew transit cs vs
      → AreRuledOn a b skew transit cs (map Verdict vs)
  all_audited [] [] h = tt
  all_audited (c ∷ cs) (v ∷ vs) h = (inr (fit, first_judged c cs v vs h), all_audited cs vs (tail_judged c cs v vs h))
  all_audited [] (v ∷ vs) h = let n = h.count in absurd (omega (arith, n))
  all_audited (c ∷ cs) [] h = let n = h.count in absurd (omega (arith, n))

-- ---- rulings on texts

pub all_of_fault_a : (fault : JournalFault) (b : Result Journal JournalFault) (skew transit : ℕ)
    (texts : List (List ℕ)) → AreRuled (Err fault) b skew transit texts
    (replicate (length texts) (Verdict (JournalVerdict Primary fault)))
all_of_fault_a fault b skew transit [] = tt
all_of_fault_a fault b skew transit (text ∷ texts) = (refl, all_of_fault_a fault b skew transit texts)

pub all_of_fault_b : (a : Journal) (fault : JournalFault) (skew transit : ℕ) (texts : List (List ℕ))
    → AreRuled (Ok a) (Err fault) skew transit texts
    (replicate (length texts) (Verdict (JournalVerdict Secondary fault)))
all_of_fault_b a fault skew transit [] = tt
all_of_fault_b a fault skew transit (text ∷ texts) = (refl, all_of_fault_b a fault skew transit texts)

pub all_woven : (a b : Journal) (skew transit : ℕ) (texts : List (List ℕ)) (faults : List (Option CertificateFault))
    (cs : List Certificate) (vs : List Judgement)
    → AreGathered texts faults cs → AreRuledOn a b skew transit cs vs
    → AreRuled (Ok a) (Ok b) skew transit texts (woven faults vs)
all_woven a b skew transit [] [] [] [] g h = tt
all_woven a b skew transit (text ∷ texts) (Some fault ∷ faults) cs vs g h =
    (rw g.0 refl, all_woven a b skew transit texts faults cs vs g.1 h)
all_woven a b skew transit (text ∷ texts) (None ∷ faults) (c ∷ cs) (v ∷ vs) g h =
    (rw g.0 h.0, all_woven a b skew transit texts faults cs vs g.1 h.1)
all_woven a b skew transit [] [] [] (v ∷ vs) g h = absurd h
all_woven a b skew transit [] [] (c ∷ cs) vs g h = absurd g
all_woven a b skew transit [] (f ∷ faults) cs vs g h = absurd g
all_woven a b skew transit (text ∷ texts) [] cs vs g h = absurd g
all_woven a b skew transit (text ∷ texts) (None ∷ faults) [] vs g h = absurd g
all_woven a b skew transit (text ∷ texts) (None ∷ faults) (c ∷ cs) [] g h = absurd h
