-- The groups of an address.
use Rattle.std.proofs.Common.{◌≡◌, ℕ, zero, suc, ◌-◌, ◌/◌, ◌%◌, ◌<◌, ◌≤◌, List, [], ◌∷◌, ◌++◌, length, refl, sym, ap}
use Rattle.std.proofs.Common.{◌∙◌, append_assoc, sub-one, length-append, arith}
use Rattle.std.proofs.lemmas.List.{length-map, map-append}
use Rattle.std.specs.Prelude.{map}
use Rattle.text_fields.specs.Cuts.{joined}
use Rattle.prefix_range.specs.Text.{groups_of, group_text, address_text}

joined_snoc : (stop : ℕ) (words : List (List ℕ)) (word : List ℕ) → 0 < length words
    → joined stop (words ++ word ∷ []) ≡ joined stop words ++ (stop ∷ word)
joined_snoc stop [] word some = absurd (omega arith)
joined_snoc stop (a ∷ []) word some = refl
joined_snoc stop (a ∷ b ∷ words) word some =
    ap (λ (t : List ℕ). a ++ stop ∷ t) (joined_snoc stop (b ∷ words) word (omega arith))
    ∙ sym (append_assoc a (stop ∷ joined stop (b ∷ words)) (stop ∷ word))

pub length-groups : (n a : ℕ) → length (groups_of n a) ≡ n
unfolding groups_of
length-groups zero a = refl
length-groups (suc n) a = omega (
  arith,
  length-append (groups_of n (a / 65536)) (a % 65536 ∷ []),
  length-groups n (a / 65536),
)

pub groups_more : (n a : ℕ) → 1 < n → joined 58 (map group_text (groups_of n a))
    ≡ joined 58 (map group_text (groups_of (n - 1) (a / 65536))) ++ 58 ∷ [] ++ group_text (a % 65536)
unfolding groups_of
groups_more zero a some = absurd (omega arith)
groups_more (suc n) a some =
    let len : 0 < length (map group_text (groups_of n (a / 65536))) =
    omega (arith, length-map (groups_of n (a / 65536)) group_text, length-groups n (a / 65536)) in
    rw sub-one (ap (joined 58) (map-append group_text (groups_of n (a / 65536)) (a % 65536 ∷ []))
    ∙ joined_snoc 58 (map group_text (groups_of n (a / 65536))) (group_text (a % 65536)) len
    ∙ sym (append_assoc (joined 58 (map group_text (groups_of n (a / 65536)))) (58 ∷ []) (group_text (a % 65536))))

pub groups_one : (n a : ℕ) → 0 < n → n ≤ 1 → joined 58 (map group_text (groups_of n a)) ≡ group_text (a % 65536)
unfolding groups_of
groups_one zero a some le = absurd (omega arith)
groups_one (suc zero) a some le = refl
groups_one (suc (suc n)) a some le = absurd (omega arith)

pub address_groups : (a : ℕ) → address_text a ≡ joined 58 (map group_text (groups_of 8 a))
unfolding address_text
address_groups a = refl
