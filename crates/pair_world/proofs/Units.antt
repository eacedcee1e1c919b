-- Two units of one list of pools that share an address are one.
use Rattle.std.specs.Prelude.{◌≡◌, ◌+◌, ◌-◌, ◌*◌, ◌/◌, ◌%◌, ◌^◌, ◌≤◌, ◌==◌, ◌∷◌, [], All, Contains as Has, List, true}
use Rattle.std.specs.Prelude.{ℕ}
use Rattle.std.proofs.Common.{◌∙◌, ap, arith, refl, shr-shr, subst, suc, sym}
use Rattle.std.proofs.lemmas.List.Elements.{All-head, All-tail}
use Rattle.std.proofs.lemmas.Bool.{and_parts, eqb-true, or_cases}
use Rattle.std.proofs.lemmas.Nat.{shr_split}
use Rattle.prefix_range.specs.Prefix.{HasAddress, IsPrefix, Prefix, size_of}
use Rattle.book_state.specs.Places.{AreDisjoint, IsPool}
use Rattle.book_state.specs.declared.pool.Pool.{Pool}
use Rattle.book_state.specs.Book.{is_in, is_unit}
use Rattle.pair_world.proofs.Phases.{by_word}

-- equal first bits are equal at a shorter length too
fewer_bits : (x y k n : ℕ) → k ≤ n → n ≤ 128 → x / size_of n ≡ y / size_of n → x / size_of k ≡ y / size_of k
fewer_bits x y k n le limit e =
    let d : 128 - k ≡ (128 - n) + (n - k) = omega arith in
    rw d ((sym (shr-shr x (128 - n) (n - k)) ∙ ap (λ z. z / 2 ^ (n - k)) e) ∙ shr-shr y (128 - n) (n - k))

same_address : (x y w : ℕ) → x / 2 ^ w ≡ y / 2 ^ w → x % 2 ^ w ≡ 0 → y % 2 ^ w ≡ 0 → x ≡ y
same_address x y w e f g = ((sym (shr_split x w) ∙ ap (λ z. z * 2 ^ w + x % 2 ^ w) e)
    ∙ ap (λ r. y / 2 ^ w * 2 ^ w + r) (f ∙ sym g)) ∙ shr_split y w

-- a unit of the pool
record IsUnitIn (q : Pool) (p : Prefix) : Type 0 where
  long : p.length ≡ q.unit_length
  first : p.address / size_of q.prefix.length ≡ q.prefix.address / size_of q.prefix.length

unit_of : (q : Pool) (p : Prefix) → is_in q p ≡ true → IsUnitIn q p
unit_of q p h =
    let x = and_parts (p.length == q.unit_length)
    (p.address / size_of q.prefix.length == q.prefix.address / size_of q.prefix.length) h in
    record {
      long = eqb-true p.length q.unit_length x.0;
      first =
          eqb-true (p.address / size_of q.prefix.length) (q.prefix.address / size_of q.prefix.length) x.1;
    }

in_pool : (q : Pool) (p : Prefix) (a : ℕ) → IsPool q → IsUnitIn q p → HasAddress p a → HasAddress q.prefix a
in_pool q p a pool of has = (
  has.0,
  fewer_bits a p.address q.prefix.length p.length (let s = pool.longer in let l = of.long in
      omega arith) (let s = pool.short in let l = of.long in omega arith) has.1 ∙ of.first,
)

-- of one pool
same_unit : (q : Pool) (p o : Prefix) (a : ℕ) → IsUnitIn q p → IsUnitIn q o → IsPrefix p → IsPrefix o → HasAddress p a
    → HasAddress o a → p ≡ o
same_unit q p o a of_p of_o pre_p pre_o has_p has_o =
    let length : p.length ≡ o.length = of_p.long ∙ sym of_o.long in
    let both : p.address / size_of p.length ≡ o.address / size_of p.length =
    sym has_p.1 ∙ subst (λ n. a / size_of n ≡ o.address / size_of n) (sym length) has_o.1 in
    let address : p.address ≡ o.address = same_address p.address o.address (128 - p.length) both pre_p.host_bits
    (subst (λ n. o.address % size_of n ≡ 0) (sym length) pre_o.host_bits) in
    let make : ℕ → ℕ → Prefix = λ x n. record { address = x; length = n } in
    ap (λ z. make z p.length) address ∙ ap (λ z. make o.address z) length

later : (q r : Pool) (rest : List Pool) → Has rest r → Has (q ∷ rest) r
later q r rest h = (suc h.0, (let l = h.1 in omega arith), h.2)

-- a pool of the list has the unit's addresses
pool_with : (pools : List Pool) (p : Prefix) (a : ℕ) → All IsPool pools → is_unit pools p ≡ true → HasAddress p a
    → (q : Pool) × Has pools q × HasAddress q.prefix a
pool_with [] p a each e has = absurd (cc)
pool_with (q ∷ qs) p a each e has = by_word (or_cases (is_in q p) (is_unit qs p) e)
    (λ t. (q, (0, omega arith, refl), in_pool q p a (All-head IsPool q qs each) (unit_of q p t) has))
    (λ t. let r = pool_with qs p a (All-tail IsPool q qs each) t has in (r.0, later q r.0 qs r.1, r.2))

pub one_unit : (pools : List Pool) (p o : Prefix) (a : ℕ) → All IsPool pools → AreDisjoint pools
    → is_unit pools p ≡ true → is_unit pools o ≡ true → IsPrefix p → IsPrefix o → HasAddress p a → HasAddress o a
    → p ≡ o
one_unit [] p o a each apart e f pre_p pre_o has_p has_o = absurd (cc)
one_unit (q ∷ qs) p o a each apart e f pre_p pre_o has_p has_o = by_word (or_cases (is_in q p) (is_unit qs p) e)
    (λ x. by_word (or_cases (is_in q o) (is_unit qs o) f)
    (λ y. same_unit q p o a (unit_of q p x) (unit_of q o y) pre_p pre_o has_p has_o)
    (λ y. let r = pool_with qs o a (All-tail IsPool q qs each) y has_o in
    absurd (apart.0 r.0 r.1 (a, in_pool q p a (All-head IsPool q qs each) (unit_of q p x) has_p, r.2))))
    (λ x. by_word (or_cases (is_in q o) (is_unit qs o) f)
    (λ y. let r = pool_with qs p a (All-tail IsPool q qs each) x has_p in
    absurd (apart.0 r.0 r.1 (a, in_pool q o a (All-head IsPool q qs each) (unit_of q o y) has_o, r.2)))
    (λ y. one_unit qs p o a (All-tail IsPool q qs each) apart.1 x y pre_p pre_o has_p has_o))
