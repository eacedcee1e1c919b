-- Each step keeps the rule.
use Rattle.std.proofs.Common.{◌≡◌, ◌≢◌, ◌⊎◌, ℕ, zero, suc, ◌+◌, ◌%◌, ◌^◌, ◌<◌, ◌≤◌, List, [], ◌∷◌, ◌++◌, length, set}
use Rattle.std.proofs.Common.{cond, Bool, true, false, inl, inr, ⊎_elim, refl, sym, ap, ◌∙◌, subst, arith, length-set}
use Rattle.std.specs.Prelude.{slice_index, sum_by, nat_eq, nat_lt, if◌then◌else◌}
use Rattle.std.proofs.lemmas.List.Sums.{sum_by-cons, sum_by_push, sum_by-append}
use Rattle.std.proofs.lemmas.Bool.Decides.{nat_tests}
use mathlib.Core.Option.{some, some-injective, some-ne-none}
use lib.ListN.{get_elem?}
use Rattle.atomic_table.specs.Table.{Act, Allows, Splits, Joins, opening, step}
use Rattle.atomic_table.proofs.Lists.{at_set, at_snoc}
use Rattle.parallel_check.specs.Counting.{times, once_below}
use Rattle.parallel_check.specs.declared.word.View.{View}
use Rattle.parallel_check.specs.Drawing.{whole, fresh, cut, joined, spent, drew, Fits, parts_of, ended_of, IsDealt}
use Rattle.parallel_check.specs.Drawing.{IsSoundDrawing, Drew}

-- a total after a change of one view
total_set : (f : View → ℕ) (views : List View) (id : ℕ) (v w : View) → get_elem? views id ≡ some v
    → sum_by f (set views id w) + f v ≡ sum_by f views + f w
total_set f [] id v w at = absurd (some-ne-none v (sym at))
total_set f (x ∷ views) zero v w at =
    let same : f x ≡ f v = ap f (some-injective x v at) in
    omega (arith, sum_by-cons f x views, sum_by-cons f w views)
total_set f (x ∷ views) (suc id) v w at =
    let rest = total_set f views id v w at in
    omega (arith, sum_by-cons f x views, sum_by-cons f x (set views id w))

-- one view's part of a total
total_at : (f : View → ℕ) (views : List View) (id : ℕ) (v : View) → get_elem? views id ≡ some v → f v ≤ sum_by f views
total_at f [] id v at = absurd (some-ne-none v (sym at))
total_at f (x ∷ views) zero v at =
    let same : f x ≡ f v = ap f (some-injective x v at) in
    omega (arith, sum_by-cons f x views)
total_at f (x ∷ views) (suc id) v at =
    let rest = total_at f views id v at in
    omega (arith, sum_by-cons f x views)

total_le : (f h : View → ℕ) (views : List View) → ((j : ℕ) (v : View) → get_elem? views j ≡ some v → f v ≤ h v)
    → sum_by f views ≤ sum_by h views
total_le f h [] each = omega arith
total_le f h (x ∷ views) each =
    let first : f x ≤ h x = each 0 x refl in
    let rest = total_le f h views (λ j v at. each (suc j) v at) in
    omega (arith, sum_by-cons f x views, sum_by-cons h x views)

word_set : (words : List ℕ) (m : ℕ) → 0 < length words → slice_index (set words 0 m) 0 ≡ m
word_set [] m any = absurd (omega arith)
word_set (x ∷ words) m any = refl

pub times_push : (x n : ℕ) (numbers : List ℕ) → times x (numbers ++ n ∷ [])
    ≡ times x numbers + (if nat_eq n x then 1 else 0)
times_push x n numbers = sum_by_push (λ (k : ℕ). cond (nat_eq k x) 1 0) numbers n

pub times_append : (x : ℕ) (xs ys : List ℕ) → times x (xs ++ ys) ≡ times x xs + times x ys
times_append x xs ys = sum_by-append (λ (k : ℕ). cond (nat_eq k x) 1 0) xs ys

once_more : (x n : ℕ) → once_below x (n + 1) ≡ once_below x n + (if nat_eq n x then 1 else 0)
once_more x n = grind (arith, nat_tests)

ended_drew : (v : View) (n : ℕ) → ((n < v.limit) × ((drew v n).ended ≡ v.ended))
    ⊎ ((v.limit ≤ n) × ((drew v n).ended ≡ v.ended + 1))
ended_drew v n = by_test (nat_lt n v.limit) refl
  where
    by_test : (b : Bool) → nat_lt n v.limit ≡ b → ((n < v.limit) × ((drew v n).ended ≡ v.ended))
        ⊎ ((v.limit ≤ n) × ((drew v n).ended ≡ v.ended + 1))
    by_test true is = inl (grind (arith, nat_tests), ap (λ (t : Bool). if t then v.ended else v.ended + 1) is)
    by_test false is = inr (grind (arith, nat_tests), ap (λ (t : Bool). if t then v.ended else v.ended + 1) is)

fits_set : (limit : ℕ) (views : List View) (id : ℕ) (w : View)
    → ((j : ℕ) (v : View) → get_elem? views j ≡ some v → Fits limit v) → Fits limit w → (j : ℕ) (v : View)
    → get_elem? (set views id w) j ≡ some v → Fits limit v
fits_set limit views id w each fits j v at =
    ⊎_elim
    (λ (t : (j ≡ id) × (w ≡ v)). subst (Fits limit) t.1 fits)
    (λ (t : (j ≢ id) × (get_elem? views j ≡ some v)). each j v t.1)
    (at_set views id j w v at)

few_ended : (limit : ℕ) (words : List ℕ) (views : List View) → IsDealt limit words views → ended_of views ≤ 64
few_ended limit words views dealt =
    let few = total_le (λ (v : View). v.ended) (λ (v : View). v.parts) views (λ j v at. (dealt.each j v at).ended) in
    let all = dealt.parts in
    omega arith

-- a draw
dealt_draw : (limit id n m : ℕ) (words : List ℕ) (views : List View) (v : View) → IsDealt limit words views
    → get_elem? views id ≡ some v → slice_index words 0 ≡ n → m ≡ n + 1
    → v.limit ≡ limit → v.ended < v.parts → IsDealt limit (set words 0 m) (set views id (drew v n))
dealt_draw limit id n m words views v dealt at is more same left =
    let w = drew v n in
    let word : slice_index (set words 0 m) 0 ≡ m = word_set words m dealt.word in
    let parts = total_set (λ (u : View). u.parts) views id v w at in
    let ended = total_set (λ (u : View). u.ended) views id v w at in
    let old = dealt.parts in
    let within = dealt.within in
    let how = ended_drew v n in record {
      word = omega (arith, dealt.word, length-set words 0 m);
      parts = omega arith;
      numbers = λ x.
          let t = total_set (λ (u : View). times x u.numbers) views id v w at in
          let p = times_push x n v.numbers in
          let o = dealt.numbers x ∙ ap (once_below x) is in
          let q = once_more x n in
          let e : once_below x (slice_index (set words 0 m) 0) ≡ once_below x (n + 1) =
          ap (once_below x) (word ∙ more) in
          omega arith;
      within = ⊎_elim
          (λ (t : (n < v.limit) × (w.ended ≡ v.ended)). let a = t.0 in let b = t.1 in omega arith)
          (λ (t : (v.limit ≤ n) × (w.ended ≡ v.ended + 1)). let a = t.0 in let b = t.1 in omega arith)
          how;
      each = fits_set limit views id w dealt.each record {
        ended = ⊎_elim
            (λ (t : (n < v.limit) × (w.ended ≡ v.ended)). let b = t.1 in omega arith)
            (λ (t : (v.limit ≤ n) × (w.ended ≡ v.ended + 1)). let b = t.1 in omega arith)
            how;
        idle = λ none. absurd (omega arith);
        limit = λ any. same;
      };
    }

small_mod : (n : ℕ) → n + 1 < 2 ^ 64 → (n + 1) % 2 ^ 64 ≡ n + 1
small_mod n small = omega arith

pub draws : (limit slots id : ℕ) (v : View) (out : List (ℕ × ℕ)) → v.limit ≡ limit → v.ended < v.parts → limit < 2 ^ 63
    → Allows (IsSoundDrawing {S = ℕ} limit) slots id (v, out) 0 (λ n. (n + 1) % 2 ^ 64)
    (Drew (step slots 0 1 0 mathlib.Core.Option.none) (v, out))
draws limit slots id v out same left few s dealt homes at small =
    let n = slice_index s.words 0 in
    let ended = few_ended limit s.words s.views dealt in
    let within = dealt.within in
    let more : (n + 1) % 2 ^ 64 ≡ n + 1 = small_mod n (omega arith) in (
      drew v n,
      Act.keeps,
      tt,
      dealt_draw limit id n ((n + 1) % 2 ^ 64) s.words s.views v dealt at refl more same left,
      (refl, refl),
    )

pub begins : (limit : ℕ) → IsSoundDrawing {S = ℕ} limit (opening (0 ∷ []) [] (whole limit))
begins limit = record {
  word = omega arith;
  parts = refl;
  numbers = λ x. grind (arith, nat_tests);
  within = omega arith;
  each = one;
}
  where
    one : (j : ℕ) (v : View) → get_elem? (whole limit ∷ []) j ≡ some v → Fits limit v
    one zero v at = subst (Fits limit) (some-injective _ _ at) record {
      ended = omega arith;
      idle = λ none. refl;
      limit = λ any. refl;
    }
    one (suc j) v at = absurd (some-ne-none v (sym at))

-- a seat is split
pub splits : (limit id : ℕ) (v : View) → v.limit ≡ limit → v.ended < v.parts → v.numbers ≡ []
    → Splits (IsSoundDrawing {S = ℕ} limit) id v (cut v) (fresh v)
splits limit id v same left none s dealt at =
    let views = s.views in
    let cutting = set views id (cut v) in
    let parts = total_set (λ (u : View). u.parts) views id v (cut v) at in
    let parts' = sum_by_push (λ (u : View). u.parts) cutting (fresh v) in
    let ended = total_set (λ (u : View). u.ended) views id v (cut v) at in
    let ended' = sum_by_push (λ (u : View). u.ended) cutting (fresh v) in
    let old = dealt.parts in
    let within = dealt.within in record {
      word = dealt.word;
      parts = omega arith;
      numbers = λ x.
          let t = total_set (λ (u : View). times x u.numbers) views id v (cut v) at in
          let p = sum_by_push (λ (u : View). times x u.numbers) cutting (fresh v) in
          let o = dealt.numbers x in
          omega arith;
      within = omega arith;
      each = λ j u at'.
          ⊎_elim
          (λ (was : get_elem? cutting j ≡ some u). fits_set limit views id (cut v) dealt.each record {
            ended =
                omega arith;
            idle = λ no_part. none;
            limit = λ any. same;
          } j u was)
          (λ (is : fresh v ≡ u). subst (Fits limit) is record {
            ended = omega arith;
            idle = λ no_part. refl;
            limit =
                λ any. same;
          })
          (at_snoc cutting (fresh v) u j at');
    }

-- a seat takes in another
pub joins : (limit id : ℕ) (v : View) (other : ℕ) (w : View) → v.limit ≡ limit
    → Joins (IsSoundDrawing {S = ℕ} limit) id v other w (joined v w) spent
joins limit id v other w same s dealt at apart there =
    let views = s.views in
    let both = joined v w in
    let one = set views id both in
    let parts = total_set (λ (u : View). u.parts) views id v both at in
    let parts' = total_set (λ (u : View). u.parts) one other w spent there in
    let ended = total_set (λ (u : View). u.ended) views id v both at in
    let ended' = total_set (λ (u : View). u.ended) one other w spent there in
    let old = dealt.parts in
    let within = dealt.within in
    let mine = dealt.each id v at in
    let theirs = ⊎_elim
    (λ (t : (other ≡ id) × (both ≡ w)). absurd (apart t.0))
    (λ (t : (other ≢ id) × (get_elem? views other ≡ some w)). dealt.each other w t.1)
    (at_set views id other both w there) in
    let mine_ended = mine.ended in
    let theirs_ended = theirs.ended in record {
      word = dealt.word;
      parts = omega arith;
      numbers = λ x.
          let t = total_set (λ (u : View). times x u.numbers) views id v both at in
          let t' = total_set (λ (u : View). times x u.numbers) one other w spent there in
          let a = times_append x v.numbers w.numbers in
          let o = dealt.numbers x in
          omega arith;
      within = omega arith;
      each = fits_set limit one other spent
          (fits_set limit views id both dealt.each record {
            ended = omega arith;
            idle = λ none. λ i. mine.idle (omega arith) i ++ theirs.idle (omega arith) i;
            limit = λ any. same;
          })
          record { ended = omega arith; idle = λ none. refl; limit = λ any. absurd (omega arith) };
    }

none_idle : (f : View → ℕ) (views : List View) → parts_of views ≡ 0
    → ((j : ℕ) (u : View) → get_elem? views j ≡ some u → u.parts ≡ 0 → f u ≡ 0) → sum_by f views ≡ 0
none_idle f [] none idle = refl
none_idle f (x ∷ views) none idle =
    let p = sum_by-cons (λ (u : View). u.parts) x views in
    let first : f x ≡ 0 = idle 0 x refl (omega arith) in
    let rest = none_idle f views (omega arith) (λ j u at. idle (suc j) u at) in
    omega (arith, sum_by-cons f x views)

alone : (f : View → ℕ) (views : List View) (id : ℕ) (v : View) → get_elem? views id ≡ some v → parts_of views ≡ v.parts
    → ((j : ℕ) (u : View) → get_elem? views j ≡ some u → u.parts ≡ 0 → f u ≡ 0) → sum_by f views ≡ f v
alone f [] id v at all idle = absurd (some-ne-none v (sym at))
alone f (x ∷ views) zero v at all idle =
    let p = sum_by-cons (λ (u : View). u.parts) x views in
    let same : x ≡ v = some-injective x v at in
    let same_parts : x.parts ≡ v.parts = ap (λ (u : View). u.parts) same in
    let same_f : f x ≡ f v = ap f same in
    let rest = none_idle f views (omega arith) (λ j u at'. idle (suc j) u at') in
    omega (arith, sum_by-cons f x views)
alone f (x ∷ views) (suc id) v at all idle =
    let p = sum_by-cons (λ (u : View). u.parts) x views in
    let mine = total_at (λ (u : View). u.parts) views id v at in
    let first : f x ≡ 0 = idle 0 x refl (omega arith) in
    let rest = alone f views id v at (omega arith) (λ j u at'. idle (suc j) u at') in
    omega (arith, sum_by-cons f x views)

-- the view with every part has all numbers below the word
pub learns : (limit : ℕ) (words : List ℕ) (views : List View) (id : ℕ) (v : View) → IsDealt limit words views
    → get_elem? views id ≡ some v → v.parts ≡ 64 → (x : ℕ) → times x v.numbers ≡ once_below x (slice_index words 0)
learns limit words views id v dealt at whole_of x =
    sym (alone (λ (u : View). times x u.numbers) views id v at (dealt.parts ∙ sym whole_of)
    (λ j u at' none. ap (times x) ((dealt.each j u at').idle none)))
    ∙ dealt.numbers x
