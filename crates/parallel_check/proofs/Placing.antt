-- What is written where all seats come together.
use Rattle.std.proofs.Common.{◌≡◌, ◌⊎◌, ℕ, zero, suc, ◌+◌, ◌<◌, ◌≤◌, List, [], ◌∷◌, ◌++◌, length, map, get_or, set}
use Rattle.std.proofs.Common.{length-set, drop, cond, inl, inr, ⊎_elim, refl, sym, ap, ◌∙◌, subst, arith}
use Rattle.std.specs.Prelude.{nat_eq, if◌then◌else◌, slice_get, Some, All}
use Rattle.std.proofs.lemmas.List.Sums.{sum_by-cons}
use Rattle.std.proofs.lemmas.List.Elements.{All-get_or, All-from_get_or}
use Rattle.std.proofs.lemmas.List.{get_or-set_same, get_or-set_other}
use Rattle.std.proofs.lemmas.Option.{get_or_from_slice_get, slice_get_within}
use Rattle.std.proofs.lemmas.Bool.Decides.{nat_tests}
use mathlib.Core.Logic.{dite}
use native.Mathlib.Decide.{ℕ_discrete}
use Rattle.attribution.specs.declared.verdict.Verdict.{Verdict}
use Rattle.attribution.specs.declared.verdict.Verdict.TheVariants.{Accepted}
use Rattle.parallel_check.specs.Counting.{times, once_below}
use Rattle.parallel_check.specs.declared.drawing.IndexedVerdict.{IndexedVerdict}
use Rattle.parallel_check.specs.Findings.{IsRight, IsDrawn, Settled, placed}
use Rattle.parallel_check.proofs.Dealing.{times_push, times_append}

abbrev index_of : IndexedVerdict → ℕ
index_of f = f.index

times_cons : (x n : ℕ) (numbers : List ℕ) → times x (n ∷ numbers) ≡ (if nat_eq n x then 1 else 0) + times x numbers
times_cons x n numbers = sum_by-cons (λ (k : ℕ). cond (nat_eq k x) 1 0) n numbers

abbrev hit : ℕ → ℕ → ℕ
hit n x = if nat_eq n x then 1 else 0

not_same : (x n : ℕ) → x < n → hit n x ≡ 0
not_same x n h = grind (arith, nat_tests)

same_once : (n : ℕ) → hit n n ≡ 1
same_once n = grind (arith, nat_tests)

differ : (x n : ℕ) → (n ≡ x → ⊥) → hit n x ≡ 0
differ x n h = grind (arith, nat_tests)

-- a verdict is written at an index: each index that had its verdict has it
pub put_keeps : (Q : ℕ → Verdict → Type 0) (verdicts : List Verdict) (at : ℕ) (v : Verdict) → Q at v
    → at < length verdicts
    → (x : ℕ) (d : Verdict) → Q x (get_or verdicts x d) → Q x (get_or (set verdicts at v) x d)
put_keeps Q verdicts at v is within x d was =
    dite (ℕ_discrete x at)
    (λ e. subst (λ (y : ℕ). Q y (get_or (set verdicts at v) y d)) (sym e)
    (subst (Q at) (sym (get_or-set_same verdicts at v d within)) is))
    (λ ne. subst (Q x) (sym (get_or-set_other verdicts at x v d ne)) was)

pub put_here : (Q : ℕ → Verdict → Type 0) (verdicts : List Verdict) (at : ℕ) (v : Verdict) → Q at v
    → at < length verdicts
    → (d : Verdict) → Q at (get_or (set verdicts at v) at d)
put_here Q verdicts at v is within d = subst (Q at) (sym (get_or-set_same verdicts at v d within)) is

-- one more is put
pub placed_step : (found : List IndexedVerdict) (k : ℕ) (f : IndexedVerdict) (verdicts : List Verdict) → k < length found
    → placed (drop k found) verdicts ≡ placed (drop (k + 1) found)
    (set verdicts (get_or found k f).index (get_or found k f).verdict)
placed_step [] k f verdicts here = absurd (omega arith)
placed_step (first ∷ found) zero f verdicts here = refl
placed_step (first ∷ found) (suc k) f verdicts here =
    let next : suc (k + 1) ≡ suc k + 1 = omega arith in
    let g = get_or found k f in
    placed_step found k f verdicts (omega arith)
    ∙ ap (λ (n : ℕ). placed (drop n (first ∷ found)) (set verdicts g.index g.verdict)) next

-- all are put
pub placed_end : (found : List IndexedVerdict) (k : ℕ) (verdicts : List Verdict) → length found ≤ k
    → placed (drop k found) verdicts ≡ verdicts
placed_end [] zero verdicts past = refl
placed_end [] (suc k) verdicts past = refl
placed_end (first ∷ found) zero verdicts past = absurd (omega arith)
placed_end (first ∷ found) (suc k) verdicts past = placed_end found k verdicts (omega arith)

abbrev AreRight : (Q : ℕ → Verdict → Type 0) → ℕ → List IndexedVerdict → Type 0
AreRight Q count found = (k : ℕ) (f : IndexedVerdict) → k < length found → IsRight Q count (get_or found k f)

-- an index that had its verdict has it when others are put
pub placed_keeps : (Q : ℕ → Verdict → Type 0) (count : ℕ) (found : List IndexedVerdict) (verdicts : List Verdict)
    → AreRight Q count found → length verdicts ≡ count
    → (x : ℕ) (d : Verdict) → Q x (get_or verdicts x d) → Q x (get_or (placed found verdicts) x d)
placed_keeps Q count [] verdicts right room x d was = was
placed_keeps Q count (f ∷ found) verdicts right room x d was =
    let first = right 0 f (omega arith) in
    let within = first.within in
    placed_keeps Q count found (set verdicts f.index f.verdict) (λ k g h. right (suc k) g (omega arith))
    (length-set verdicts f.index f.verdict ∙ room) x d
    (put_keeps Q verdicts f.index f.verdict first.verdict (omega arith) x d was)

-- what was found at an index is its verdict there
pub placed_there : (Q : ℕ → Verdict → Type 0) (count : ℕ) (found : List IndexedVerdict) (verdicts : List Verdict)
    → AreRight Q count found → length verdicts ≡ count
    → (k : ℕ) (g : IndexedVerdict) (d : Verdict) → k < length found
    → Q (get_or found k g).index (get_or (placed found verdicts) (get_or found k g).index d)
placed_there Q count [] verdicts right room k g d here = absurd (omega arith)
placed_there Q count (f ∷ found) verdicts right room zero g d here =
    let first = right 0 f (omega arith) in
    let within = first.within in
    placed_keeps Q count found (set verdicts f.index f.verdict) (λ k h at. right (suc k) h (omega arith))
    (length-set verdicts f.index f.verdict ∙ room) f.index d
    (put_here Q verdicts f.index f.verdict first.verdict (omega arith) d)
placed_there Q count (f ∷ found) verdicts right room (suc k) g d here =
    placed_there Q count found (set verdicts f.index f.verdict) (λ j h at. right (suc j) h (omega arith))
    (length-set verdicts f.index f.verdict ∙ room) k g d (omega arith)

-- a number among those of what was found has a place there
found_at : (x : ℕ) (found : List IndexedVerdict) (f : IndexedVerdict) → 0 < times x (map index_of found)
    → (k : ℕ) × (k < length found) × ((get_or found k f).index ≡ x)
found_at x [] f among = absurd (omega arith)
found_at x (first ∷ found) f among =
    dite (ℕ_discrete first.index x)
    (λ e. (0, omega arith, e))
    (λ ne.
    let t = times_cons x first.index (map index_of found) in
    let z = differ x first.index ne in
    let later = found_at x found f (omega arith) in
    (suc later.0, omega (arith, later.1), later.2))

some_or_none : (n : ℕ) → (0 < n) ⊎ (n ≡ 0)
some_or_none zero = inr refl
some_or_none (suc n) = inl (omega arith)

pub settle_step : (Q : ℕ → Verdict → Type 0) (count : ℕ) (verdicts : List Verdict) (numbers more : List ℕ)
    (found : List IndexedVerdict) → Settled Q count numbers verdicts → IsDrawn Q count more found
    → length verdicts ≡ count → Settled Q count (numbers ++ more) (placed found verdicts)
settle_step Q count verdicts numbers more found settled drawn room = record { each = at_index }
  where
    right : AreRight Q count found
    right k f h = All-get_or (IsRight Q count) found k f h drawn.right

    at_index : (x : ℕ) (d : Verdict) → x < count → 0 < times x (numbers ++ more)
        → Q x (get_or (placed found verdicts) x d)
    at_index x d here among =
        let last = drawn.last in
        let past : count ≤ last = drawn.past in
        let all = ap (times x) drawn.numbers_are ∙ times_push x last (map index_of found) in
        let none = not_same x last (omega arith) in
        let split = times_append x numbers more in
        ⊎_elim
        (λ (before : 0 < times x numbers). placed_keeps Q count found verdicts right room x d
        (settled.each x d here before))
        (λ (not : times x numbers ≡ 0).
        let f : IndexedVerdict = record { index = 0; verdict = Accepted } in
        let at = found_at x found f (omega arith) in
        subst (λ (y : ℕ). Q y (get_or (placed found verdicts) y d)) at.2
        (placed_there Q count found verdicts right room at.0 f d at.1))
        (some_or_none (times x numbers))

-- what was found has room
pub has_room : (Q : ℕ → Verdict → Type 0) (count : ℕ) (found : List IndexedVerdict) (verdicts : List Verdict)
    → All (IsRight Q count) found → length verdicts ≡ count → All (λ (f : IndexedVerdict). f.index < length verdicts) found
has_room Q count found verdicts right room =
    All-from_get_or (λ (f : IndexedVerdict). f.index < length verdicts) found (record { index = 0; verdict = Accepted })
    (λ k h. let within =
    (All-get_or (IsRight Q count) found k (record { index = 0; verdict = Accepted }) h right).within in omega arith)

pub past_step : (Q : ℕ → Verdict → Type 0) (count : ℕ) (numbers more : List ℕ) (found : List IndexedVerdict)
    → IsDrawn Q count more found → (n : ℕ) × (count ≤ n) × (0 < times n (numbers ++ more))
past_step Q count numbers more found drawn =
    let last = drawn.last in
    let all = ap (times last) drawn.numbers_are ∙ times_push last last (map index_of found) in
    let one = same_once last in
    let split = times_append last numbers more in
    (last, drawn.past, omega arith)

below_bound : (n bound : ℕ) → 0 < once_below n bound → n < bound
below_bound n bound h = grind (arith, nat_tests)

one_below : (x bound : ℕ) → x < bound → once_below x bound ≡ 1
one_below x bound h = grind (arith, nat_tests)

-- where each number below some bound was drawn, and one that is no index, each index has its verdict
pub all_settled : (Q : ℕ → Verdict → Type 0) (count : ℕ) (numbers : List ℕ) (verdicts : List Verdict) (bound : ℕ)
    → Settled Q count numbers verdicts → ((x : ℕ) → times x numbers ≡ once_below x bound)
    → ((n : ℕ) × (count ≤ n) × (0 < times n numbers)) → (x : ℕ) (d : Verdict) → x < count → Q x (get_or verdicts x d)
all_settled Q count numbers verdicts bound settled all past x d h =
    let n = past.0 in
    let far : count ≤ n = past.1 in
    let there = below_bound n bound (subst (λ (t : ℕ). 0 < t) (all n) past.2) in
    settled.each x d h (let one = all x ∙ one_below x bound (omega arith) in omega arith)

-- as the list of all verdicts
pub all_each : (Q : ℕ → Verdict → Type 0) (count : ℕ) (verdicts : List Verdict)
    → ((x : ℕ) (d : Verdict) → x < count → Q x (get_or verdicts x d)) → length verdicts ≡ count
    → (n : ℕ) (v : Verdict) → slice_get verdicts n ≡ Some v → Q n v
all_each Q count verdicts all len n v at =
    let within = slice_get_within verdicts n v at in
    subst (Q n) (get_or_from_slice_get verdicts n v v at) (all n v (omega arith))
