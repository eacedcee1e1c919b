-- Certificates that wait for their verdict, one after the other.
use Rattle.std.specs.Prelude.{◌≡◌, ℕ, ◌+◌, ◌<◌, ◌≤◌, ◌⊎◌, List, [], ◌∷◌, ◌++◌, Some, slice_get, length, Result}
use Rattle.std.specs.Prelude.{Ok, Err}
use Rattle.std.proofs.Common.{zero, suc, arith, sym, ◌∙◌, ap, subst, inl, inr, refl, drop, append_assoc, append-nil}
use Rattle.std.proofs.Common.{get_or, set}
use Rattle.std.proofs.lemmas.List.{map-append}
use Rattle.std.proofs.lemmas.Option.{slice_get-get_or}
use Rattle.journal_lines.specs.declared.line.Journal.{Journal}
use Rattle.journal_lines.specs.declared.fault.JournalFault.{JournalFault}
use Rattle.causal_order.specs.Journals.{journals_of}
use Rattle.causal_order.specs.declared.certificate.Certificate.{Certificate as Claimed}
use Rattle.causal_order.specs.declared.fault.CertificateFault.{CertificateFault}
use Rattle.certificate.specs.Faults.{certificate_of}
use Rattle.attribution.specs.declared.verdict.Verdict.TheVariants.{Certificate as CertificateVerdict}
use Rattle.pair_judgement.specs.declared.judging.Judgement.{Judgement}
use Rattle.pair_judgement.specs.declared.judging.Judgement.TheVariants.{Verdict}
use Rattle.journal_archive.specs.declared.pair.PairJournals.{PairJournals}
use Rattle.journal_archive.specs.Shown.{read_of, ShownAreSnapshots}
use Rattle.attribution_desk.specs.declared.certificates.CertificateText.{CertificateText}
use Rattle.attribution_desk.specs.Claims.{texts_of}
use Rattle.attribution_desk.specs.Batch.{AreRuled}
use Rattle.attribution_desk.specs.Judgements.{IsJudgementOfJournals, IsJudgementOfParsed}
use Rattle.attribution_desk.specs.Laws.{AcceptedRulingsAreTrue}
use Rattle.journal_archive.specs.declared.pair_lookup.VolumePair.{VolumePair}
use Rattle.journal_archive.specs.declared.archive.Archive.{Archive}
use Rattle.archive_files.specs.Showing.{AreShownBy, AreClosed, AreBorneOut}
use Rattle.archive_desk.specs.declared.judging.ArchiveJudgement.TheVariants.{Ruled, Faulty, Lacking}
use Rattle.archive_desk.specs.declared.waiting.PendingState.{PendingState}
use Rattle.archive_desk.specs.declared.waiting.PendingState.TheVariants.{Shown, Judged}
use Rattle.archive_desk.specs.declared.waiting.PendingCertificate.{PendingCertificate}
use Rattle.archive_desk.specs.declared.waiting.Member.{Member}
use Rattle.archive_desk.specs.Judging.{AreRuledOver}
use Rattle.archive_desk.specs.Waiting.{IsPlaced, ArePlaced, texts_waiting, AreMembers, texts_among, IsPending}
use Rattle.archive_desk.specs.Waiting.{AreWaiting}
use Rattle.archive_desk.proofs.Dropping.{drop_more, drop_end}

-- ---- lists with one item more

pub at_or : {X : Type 0} (xs : List X) (x y : X) (k : ℕ) → slice_get (xs ++ x ∷ []) k ≡ Some y
    → (slice_get xs k ≡ Some y) ⊎ ((k ≡ length xs) × (x ≡ y))
at_or [] x y zero h = inr (refl, cc)
at_or [] x y (suc k) h = absurd (cc)
at_or (z ∷ zs) x y zero h = inl h
at_or (z ∷ zs) x y (suc k) h = elim (at_or zs x y k h) [ inl a ↦ inl a | inr e ↦ inr (ap suc e.0, e.1) ]

pub at_within : {X : Type 0} (xs : List X) (x : X) (k : ℕ) → slice_get xs k ≡ Some x → k < length xs
at_within [] x k h = absurd (cc)
at_within (y ∷ ys) x zero h = omega arith
at_within (y ∷ ys) x (suc k) h = let lt = at_within ys x k h in omega arith

pub length_more : {X : Type 0} (xs : List X) (x : X) → length (xs ++ x ∷ []) ≡ suc (length xs)
length_more [] x = refl
length_more (y ∷ ys) x = ap suc (length_more ys x)

-- ---- before any file is read

pub texts_more : (claims : List CertificateText) (i : ℕ) (c : CertificateText) (ws new : List PendingCertificate) (w : PendingCertificate)
    → i < length claims → c ≡ get_or claims i c → w.text ≡ c.text → new ≡ ws ++ w ∷ []
    → texts_waiting ws ++ texts_of (drop i claims) ≡ texts_of claims
    → texts_waiting new ++ texts_of (drop (i + 1) claims) ≡ texts_of claims
texts_more claims i c ws new w lt at same is h =
    let rest = texts_of (drop (i + 1) claims) in
    ap (λ (xs : List PendingCertificate). texts_waiting xs ++ rest) is
    ∙ (ap (λ (t : List (List ℕ)). t ++ rest) (map-append (λ (x : PendingCertificate). x.text.now) ws (w ∷ []))
    ∙ (append_assoc (texts_waiting ws) (w.text.now ∷ []) rest
    ∙ (ap (λ t. texts_waiting ws ++ (t.now ∷ rest)) same
    ∙ (sym (ap (λ (cs : List CertificateText). texts_waiting ws ++ texts_of cs) (drop_more claims i c lt at)) ∙ h))))

pub texts_all : (claims : List CertificateText) (i : ℕ) (ws : List PendingCertificate) → length claims ≤ i
    → texts_waiting ws ++ texts_of (drop i claims) ≡ texts_of claims → texts_waiting ws ≡ texts_of claims
texts_all claims i ws le h =
    sym (append-nil (texts_waiting ws))
    ∙ (sym (ap (λ (cs : List CertificateText). texts_waiting ws ++ texts_of cs) (drop_end claims i le)) ∙ h)

pub placed_more : (archive : Archive) (skew transit : ℕ) (ws new : List PendingCertificate) (w : PendingCertificate) → new ≡ ws ++ w ∷ []
    → IsPlaced archive skew transit (certificate_of w.text.now) w.pending → ArePlaced archive skew transit ws
    → ArePlaced archive skew transit new
placed_more archive skew transit ws new w is placed are k v at =
    elim (at_or ws w v k (subst (λ (xs : List PendingCertificate). slice_get xs k ≡ Some v) is at)) [
      | inl old ↦ are k v old
      | inr e ↦ subst (λ (x : PendingCertificate). IsPlaced archive skew transit (certificate_of x.text.now) x.pending) e.1 placed
    ]

-- ---- those of one pair of volumes

-- what stands at an index
pub item_at : {X : Type 0} (xs : List X) (i : ℕ) (x : X) → i < length xs → x ≡ get_or xs i x
    → slice_get xs i ≡ Some x
item_at {X} xs i x lt is = slice_get-get_or xs i x lt ∙ ap (λ (y : X). Some y) (sym is)

pub no_members : (ws : List PendingCertificate) (pair : VolumePair) (ms : List Member) → ms ≡ [] → AreMembers ws pair ms
no_members ws pair [] none i m at = absurd (cc)
no_members ws pair (x ∷ ms) none i m at = absurd (cc)

pub member_more : (ws : List PendingCertificate) (pair : VolumePair) (ms new : List Member) (m : Member) (w : PendingCertificate)
    → slice_get ws m.place ≡ Some w → w.text ≡ m.text → w.pending ≡ Shown pair → new ≡ ms ++ m ∷ []
    → AreMembers ws pair ms → AreMembers ws pair new
member_more ws pair ms new m w at same shown is are i n has =
    elim (at_or ms m n i (subst (λ (xs : List Member). slice_get xs i ≡ Some n) is has)) [
      | inl old ↦ are i n old
      | inr e ↦ subst (λ (x : Member). (v : PendingCertificate) × (slice_get ws x.place ≡ Some v) × (v.text.now ≡ x.text.now)
          × (v.pending ≡ Shown pair)) e.1 (w, at, ap (λ t. t.now) same, shown)
    ]

pub claims_more : (ms : List Member) (i : ℕ) (m : Member) (cs new : List CertificateText) (c : CertificateText)
    → i < length ms → m ≡ get_or ms i m → c.text ≡ m.text → new ≡ cs ++ c ∷ []
    → texts_of cs ++ texts_among (drop i ms) ≡ texts_among ms
    → texts_of new ++ texts_among (drop (i + 1) ms) ≡ texts_among ms
claims_more ms i m cs new c lt at same is h =
    let rest = texts_among (drop (i + 1) ms) in
    ap (λ (xs : List CertificateText). texts_of xs ++ rest) is
    ∙ (ap (λ (t : List (List ℕ)). t ++ rest) (map-append (λ (x : CertificateText). x.text.now) cs (c ∷ []))
    ∙ (append_assoc (texts_of cs) (c.text.now ∷ []) rest
    ∙ (ap (λ t. texts_of cs ++ (t.now ∷ rest)) same
    ∙ (sym (ap (λ (xs : List Member). texts_of cs ++ texts_among xs) (drop_more ms i m lt at)) ∙ h))))

pub claims_all : (ms : List Member) (i : ℕ) (cs : List CertificateText) → length ms ≤ i
    → texts_of cs ++ texts_among (drop i ms) ≡ texts_among ms → texts_of cs ≡ texts_among ms
claims_all ms i cs le h =
    sym (append-nil (texts_of cs))
    ∙ (sym (ap (λ (xs : List Member). texts_of cs ++ texts_among xs) (drop_end ms i le)) ∙ h)

-- what was placed waits
pub placed_wait : (had : ℕ → List ℕ → Type 0) (archive : Archive) (skew transit : ℕ) (ws : List PendingCertificate)
    → ArePlaced archive skew transit ws → AreWaiting had archive skew transit ws
placed_wait had archive skew transit ws placed k w at =
    by (certificate_of w.text.now) w.pending (placed k w at)
  where
    by : (certificate : Result Claimed CertificateFault) (p : PendingState) → IsPlaced archive skew transit certificate p
        → IsPending had archive skew transit certificate p
    by certificate (Shown pair) h = h
    by (Ok claim) (Judged (Lacking side lack)) h = (h, λ none. absurd none)
    by (Ok claim) (Judged (Ruled pair ruling)) h = absurd h
    by (Ok claim) (Judged (Faulty ruling)) h = absurd h
    by (Err fault) (Judged judged) h =
        let is : judged ≡ Faulty (Verdict (CertificateVerdict fault)) = cc in
        (is, tt)

-- ---- one that is judged

set_at : (ws : List PendingCertificate) (p k : ℕ) (x v : PendingCertificate) → slice_get (set ws p x) k ≡ Some v
    → (slice_get ws k ≡ Some v) ⊎ (x ≡ v)
set_at [] p k x v h = inl h
set_at (w ∷ ws) zero zero x v h = inr cc
set_at (w ∷ ws) zero (suc k) x v h = inl h
set_at (w ∷ ws) (suc p) zero x v h = inl h
set_at (w ∷ ws) (suc p) (suc k) x v h = set_at ws p k x v h

texts_set : (ws : List PendingCertificate) (p : ℕ) (x u : PendingCertificate) → slice_get ws p ≡ Some u → x.text ≡ u.text
    → texts_waiting (set ws p x) ≡ texts_waiting ws
texts_set [] p x u at same = refl
texts_set (w ∷ ws) zero x u at same =
    let is : w ≡ u = cc in
    ap (λ t. t.now ∷ texts_waiting ws) (same ∙ ap (λ (y : PendingCertificate). y.text) (sym is))
texts_set (w ∷ ws) (suc p) x u at same = ap (λ (ts : List (List ℕ)). w.text.now ∷ ts) (texts_set ws p x u at same)

text_at : (ws : List PendingCertificate) (p : ℕ) (u : PendingCertificate) → slice_get ws p ≡ Some u
    → slice_get (texts_waiting ws) p ≡ Some u.text.now
text_at [] p u at = absurd (cc)
text_at (w ∷ ws) zero u at = let is : w ≡ u = cc in ap (λ (y : PendingCertificate). Some y.text.now) is
text_at (w ∷ ws) (suc p) u at = text_at ws p u at

pub same_length : (ws vs : List PendingCertificate) → texts_waiting ws ≡ texts_waiting vs → length ws ≡ length vs
same_length [] [] e = refl
same_length [] (v ∷ vs) e = absurd (cc)
same_length (w ∷ ws) [] e = absurd (cc)
same_length (w ∷ ws) (v ∷ vs) e =
    let rest : texts_waiting ws ≡ texts_waiting vs = cc in
    ap suc (same_length ws vs rest)

text_among : (ms : List Member) (i : ℕ) (m : Member) → slice_get ms i ≡ Some m
    → slice_get (texts_among ms) i ≡ Some m.text.now
text_among [] i m at = absurd (cc)
text_among (x ∷ ms) zero m at = let is : x ≡ m = cc in ap (λ (y : Member). Some y.text.now) is
text_among (x ∷ ms) (suc i) m at = text_among ms i m at

among_length : (ms : List Member) → length (texts_among ms) ≡ length ms
among_length [] = refl
among_length (m ∷ ms) = ap suc (among_length ms)

count_of : (a b : Result Journal JournalFault) (skew transit : ℕ) (texts : List (List ℕ)) (rs : List Judgement)
    → AreRuled a b skew transit texts rs → length rs ≡ length texts
count_of a b skew transit [] [] h = refl
count_of a b skew transit (text ∷ texts) (r ∷ rs) h = ap suc (count_of a b skew transit texts rs h.1)
count_of a b skew transit [] (r ∷ rs) h = absurd h
count_of a b skew transit (text ∷ texts) [] h = absurd h

ruled_at : (a b : Result Journal JournalFault) (skew transit : ℕ) (texts : List (List ℕ)) (rs : List Judgement) (i : ℕ)
    (text : List ℕ) (r : Judgement) → AreRuled a b skew transit texts rs → slice_get texts i ≡ Some text
    → slice_get rs i ≡ Some r → IsJudgementOfParsed a b skew transit (certificate_of text) r
ruled_at a b skew transit [] rs i text r h x y = absurd (cc)
ruled_at a b skew transit (t ∷ texts) [] i text r h x y = absurd h
ruled_at a b skew transit (t ∷ texts) (s ∷ rs) zero text r h x y =
    let one : t ≡ text = cc in
    let other : s ≡ r = cc in
    subst (λ z. IsJudgementOfParsed a b skew transit (certificate_of z) r) one
    (subst (λ z. IsJudgementOfParsed a b skew transit (certificate_of t) z) other h.0)
ruled_at a b skew transit (t ∷ texts) (s ∷ rs) (suc i) text r h x y =
    ruled_at a b skew transit texts rs i text r h.1 x y

-- a ruling over the journals that a pair of volumes shows
module _ (had : ℕ → List ℕ → Type 0) (archive : Archive) (skew transit : ℕ) (pair : VolumePair)
    (law : AcceptedRulingsAreTrue) (snaps : ShownAreSnapshots) where
  ruling_stands : (shown : PairJournals) → AreShownBy had pair shown → AreClosed shown → AreBorneOut had archive pair
      → (certificate : Result Claimed CertificateFault) (r : Judgement)
      → IsPlaced archive skew transit certificate (Shown pair)
      → IsJudgementOfParsed (Ok shown.primary) (Ok shown.secondary) skew transit certificate r
      → IsPending had archive skew transit certificate (Judged (Ruled pair r))
  ruling_stands shown is closed borne (Ok claim) r placed ruled = (
    (shown, (placed, is, closed, borne), ruled),
    λ accepted. (
        let v = is.0 in
        let w = is.1 in
        let read = ap (λ (s : PairJournals). journals_of s.primary s.secondary) is.4 ∙ snaps v.journal w.journal in (
          v,
          w,
          is.2,
          is.3,
          law shown.primary shown.secondary skew transit claim
              (subst (λ z. IsJudgementOfJournals shown.primary shown.secondary skew transit claim z) accepted ruled)
              (read_of v.journal w.journal) read,
        )),
  )
  ruling_stands shown is closed borne (Err fault) r placed ruled = absurd (cc)

  module _ (old : List PendingCertificate) (ms : List Member) (claims : List CertificateText) (rulings : List Judgement)
      (members : AreMembers old pair ms) (texts : texts_of claims ≡ texts_among ms)
      (waits : AreWaiting had archive skew transit old)
      (over : AreRuledOver had archive pair skew transit (texts_of claims) rulings) where
    ruled : AreRuledOver had archive pair skew transit (texts_among ms) rulings
    ruled = subst (λ (ts : List (List ℕ)). AreRuledOver had archive pair skew transit ts rulings) texts over

    -- each has its ruling
    pub has_ruling : (i : ℕ) → i < length ms → i < length rulings
    has_ruling i lt =
        let n = count_of (Ok ruled.0.primary) (Ok ruled.0.secondary) skew transit (texts_among ms) rulings ruled.4 in
        let c = among_length ms in
        omega arith

    module _ (ws : List PendingCertificate) (same : texts_waiting ws ≡ texts_waiting old) (i : ℕ) (m : Member)
        (at : slice_get ms i ≡ Some m) where
      own : (w : PendingCertificate) × (slice_get old m.place ≡ Some w) × (w.text.now ≡ m.text.now) × (w.pending ≡ Shown pair)
      own = members i m at

      -- it stands among them
      pub stands : m.place < length ws
      stands = let lt = at_within old own.0 m.place own.1 in let e = same_length ws old same in omega arith

      placed : IsPlaced archive skew transit (certificate_of m.text.now) (Shown pair)
      placed = subst (λ t. IsPlaced archive skew transit (certificate_of t) (Shown pair)) own.2
          (subst (IsPending had archive skew transit (certificate_of own.0.text.now)) own.3
          (waits m.place own.0 own.1))

      text_is : (u : PendingCertificate) → slice_get ws m.place ≡ Some u → u.text.now ≡ m.text.now
      text_is u here =
          let one : Some u.text.now ≡ Some own.0.text.now = sym (text_at ws m.place u here)
          ∙ (ap (λ (ts : List (List ℕ)). slice_get ts m.place) same ∙ text_at old m.place own.0 own.1) in
          let is : u.text.now ≡ own.0.text.now = cc in
          is ∙ own.2

      pub one_judged : (r : Judgement) → slice_get rulings i ≡ Some r → (x d : PendingCertificate)
          → x.text ≡ (get_or ws m.place d).text → x.pending ≡ Judged (Ruled pair r)
          → AreWaiting had archive skew transit ws
          → (texts_waiting (set ws m.place x) ≡ texts_waiting old)
          × AreWaiting had archive skew transit (set ws m.place x)
      one_judged r has x d text pending are =
          let u = get_or ws m.place d in
          let here : slice_get ws m.place ≡ Some u = slice_get-get_or ws m.place d stands in
          let own_text : x.text.now ≡ m.text.now = ap (λ t. t.now) text ∙ text_is u here in
          let stood = ruling_stands ruled.0 ruled.1 ruled.2 ruled.3 (certificate_of m.text.now) r placed
          (ruled_at (Ok ruled.0.primary) (Ok ruled.0.secondary) skew transit (texts_among ms) rulings i m.text.now r
          ruled.4 (text_among ms i m at) has) in
          let good : IsPending had archive skew transit (certificate_of x.text.now) x.pending =
          subst (λ t. IsPending had archive skew transit (certificate_of t) x.pending) (sym own_text)
          (subst (IsPending had archive skew transit (certificate_of m.text.now)) (sym pending) stood) in (
            texts_set ws m.place x u here text ∙ same,
            λ k v h. elim (set_at ws m.place k x v h) [
              | inl there ↦ are k v there
              | inr e ↦ subst (λ (y : PendingCertificate). IsPending had archive skew transit (certificate_of y.text.now) y.pending)
                  e good
            ],
          )
