-- The prefix that is read of a text is spelled so, and a prefix that is spelled is read again.
use Rattle.std.proofs.Common.{◌≡◌, ℕ, zero, suc, ◌+◌, ◌*◌, ◌/◌, ◌%◌, ◌<◌, ◌≤◌, ◌^◌, true, cond, eqb, ltb, leb, List, []}
use Rattle.std.proofs.Common.{◌∷◌, ◌++◌, length, Some, None, refl, sym, ap, subst, ◌∙◌, append_assoc, append-nil}
use Rattle.std.proofs.Common.{add-zero, zero-add, arith, lit<}
use Rattle.std.specs.Prelude.{map, option_map}
use Rattle.std.specs.List.{AllByRecursion}
use Rattle.std.specs.Fmt.{decimal}
use Rattle.std.specs.Int.{w16, to_be_bytes, from_be_bytes}
use Rattle.std.proofs.lemmas.List.{length-map}
use Rattle.std.proofs.lemmas.Bool.{eqb-true, eq-eqb, leb-true, le-leb, ltb-true, lt-ltb}
use Rattle.std.proofs.lemmas.Nat.{be_bytes_2, from_be_bytes-to_be_bytes_2, div_below}
use Rattle.text_fields.specs.Parsing.{◌>>=◌}
use Rattle.text_fields.specs.Cuts.{joined, split, Lacks, AllLack}
use Rattle.text_fields.specs.Octets.{AreOctets, hex, octets_of}
use Rattle.text_fields.specs.Number.{number_of}
use Rattle.text_fields.proofs.Steps.{bind_some, map_some, some_is, chosen}
use Rattle.text_fields.proofs.CutLaws.{split-joined, joined-split, Lacks-joined}
use Rattle.text_fields.proofs.NumberLaws.{number_takes, number_again, decimal_lacks}
use Rattle.text_fields.proofs.OctetLaws.{octets_take, octets_again, length-hex, octets_are_bytes, hex_lacks}
use Rattle.text_fields.proofs.OctetLaws.{hex_lacks_colon}
use Rattle.prefix_range.specs.Prefix.{Prefix, IsPrefix, size_of}
use Rattle.prefix_range.specs.Text.{groups_of, group_text, address_text, prefix_text, group_of, with_group, address_on}
use Rattle.prefix_range.specs.Text.{address_of, made, parts_prefix, prefix_word}
use Rattle.prefix_range.specs.Spelling.{value_on}
use Rattle.prefix_range.proofs.Groups.{length-groups}

-- ---- one group

pub group_octets : (g : ℕ) → g < 65536 → AreOctets (to_be_bytes w16 g)
group_octets g lt = (omega arith, (omega arith, tt))

pub group_takes : (word : List ℕ) (g : ℕ) → group_of word ≡ Some g → (word ≡ group_text g) × (g < 65536)
unfolding group_of
group_takes word g e =
    let c = chosen (eqb (length word) 4) (option_map (from_be_bytes w16) (octets_of word)) g e in
    let m = map_some (octets_of word) (from_be_bytes w16) g c.1 in
    let o = octets_take word m.0 m.1 in
    let fits = octets_are_bytes m.0 o.1 in
    let len : length m.0 ≡ 2 = omega (arith, ap length o.0, length-hex m.0, eqb-true _ _ c.0) in
    let back : to_be_bytes w16 g ≡ m.0 = be_bytes_2 m.0 g len fits (sym m.2) in
    let below : from_be_bytes w16 m.0 < 65536 = omega (arith, fits 0, fits 1) in
    (o.0 ∙ ap hex (sym back), omega (arith, below, m.2))

pub group_again : (g : ℕ) → g < 65536 → group_of (group_text g) ≡ Some g
unfolding group_of
group_again g lt = rw (octets_again (to_be_bytes w16 g) (group_octets g lt), from_be_bytes-to_be_bytes_2 g lt) refl

-- ---- groups and the address that they make

AreGroups : List ℕ → Type 0
AreGroups groups = AllByRecursion (λ g. g < 65536) groups

value-append : (address : ℕ) (groups : List ℕ) (g : ℕ) → value_on address (groups ++ g ∷ [])
    ≡ 65536 * value_on address groups + g
unfolding value_on
value-append address [] g = refl
value-append address (h ∷ groups) g = value-append (65536 * address + h) groups g

grows : (groups : List ℕ) (address : ℕ) → address ≤ value_on address groups
unfolding value_on
grows [] address = omega arith
grows (g ∷ groups) address = omega (arith, grows groups (65536 * address + g))

-- the groups of an address make it
pub groups-value : (n address : ℕ) → address < 65536 ^ n → value_on 0 (groups_of n address) ≡ address
unfolding value_on groups_of
groups-value zero address lt = omega arith
groups-value (suc n) address lt =
    let below : address / 65536 < 65536 ^ n = div_below address 65536 (65536 ^ n) (lit< tt) (omega (arith, lt)) in
    let rest = groups-value n (address / 65536) below in
    value-append 0 (groups_of n (address / 65536)) (address % 65536) ∙ omega (arith, rest)

-- and groups are those of the address that they make
value-groups : (k address : ℕ) (groups : List ℕ) → AreGroups groups
    → groups_of (k + length groups) (value_on address groups) ≡ groups_of k address ++ groups
unfolding value_on AreGroups groups_of
value-groups k address [] h = simp add-zero (sym (append-nil (groups_of k address)))
value-groups k address (g ∷ groups) h =
    let more : k + suc (length groups) ≡ suc k + length groups = omega arith in
    let high : (65536 * address + g) / 65536 ≡ address = omega (arith, h.0) in
    let low : (65536 * address + g) % 65536 ≡ g = omega (arith, h.0) in
    ap (λ (n : ℕ). groups_of n (value_on (65536 * address + g) groups)) more
    ∙ (value-groups (suc k) (65536 * address + g) groups h.1
    ∙ (rw (high, low) (append_assoc (groups_of k address) (g ∷ []) groups)))

are_groups : (n address : ℕ) → AreGroups (groups_of n address)
unfolding AreGroups groups_of
are_groups zero address = tt
are_groups (suc n) address = more (groups_of n (address / 65536)) (are_groups n (address / 65536))
  where
    more : (groups : List ℕ) → AllByRecursion (λ g. g < 65536) groups
        → AllByRecursion (λ g. g < 65536) (groups ++ address % 65536 ∷ [])
    more [] h = (omega arith, tt)
    more (g ∷ groups) h = (h.0, more groups h.1)

-- ---- addresses

Reads : ℕ → ℕ → List (List ℕ) → ℕ → Type 0
Reads n address words a = (groups : List ℕ) × (words ≡ map group_text groups) × (length groups ≡ n) × AreGroups groups
    × (a ≡ value_on address groups)

with_takes : (address g m : ℕ) → with_group address g ≡ Some m → (65536 * address + g ≡ m) × (m < 2 ^ 128)
unfolding with_group
with_takes address g m e =
    let c = chosen (ltb (65536 * address + g) (2 ^ 128)) (Some (65536 * address + g)) m e in
    let same : 65536 * address + g ≡ m = some_is _ _ c.1 in
    (same, omega (arith, ltb-true (65536 * address + g) (2 ^ 128) c.0, same))

address_takes : (n address : ℕ) (words : List (List ℕ)) (a : ℕ) → address < 2 ^ 128
    → address_on n address words ≡ Some a → Reads n address words a × (a < 2 ^ 128)
unfolding address_on Reads value_on AreGroups
address_takes zero address [] a lt e = let same : address ≡ a = some_is _ _ e in
    (([], refl, refl, tt, sym same), omega (arith, lt, same))
address_takes zero address (word ∷ words) a lt e = absurd cc
address_takes (suc n) address [] a lt e = absurd cc
address_takes (suc n) address (word ∷ words) a lt e =
    let g = bind_some (group_of word) (λ g. with_group address g >>= λ m. address_on n m words) a e in
    let m = bind_some (with_group address g.0) (λ m. address_on n m words) a g.2 in
    let group = group_takes word g.0 g.1 in
    let w = with_takes address g.0 m.0 m.1 in
    let rest = address_takes n m.0 words a w.1 m.2 in
    let r = rest.0 in
    let both : word ∷ words ≡ group_text g.0 ∷ map group_text r.0 =
    ap (λ (x : List ℕ). x ∷ words) group.0 ∙ ap (λ (xs : List (List ℕ)). group_text g.0 ∷ xs) r.1 in
    ((g.0 ∷ r.0, both, omega (arith, r.2), (group.1, r.3), r.4 ∙ ap (λ (x : ℕ). value_on x r.0) (sym w.0)), rest.1)

address_again : (groups : List ℕ) (address : ℕ) → AreGroups groups → value_on address groups < 2 ^ 128
    → address_on (length groups) address (map group_text groups) ≡ Some (value_on address groups)
unfolding address_on with_group value_on AreGroups
address_again [] address h lt = refl
address_again (g ∷ groups) address h lt =
    let fits : ltb (65536 * address + g) (2 ^ 128) ≡ true =
    lt-ltb _ _ (omega (arith, grows groups (65536 * address + g), lt)) in
    rw (group_again g h.0, fits) (address_again groups (65536 * address + g) h.1 lt)

words_lack : (groups : List ℕ) → AreGroups groups → AllLack 58 (map group_text groups)
unfolding AreGroups
words_lack [] h = tt
words_lack (g ∷ groups) h = (hex_lacks_colon (to_be_bytes w16 g) (group_octets g h.0), words_lack groups h.1)

low_lack : (stop : ℕ) (groups : List ℕ) → stop < 48 → AllLack stop (map group_text groups)
low_lack stop [] low = tt
low_lack stop (g ∷ groups) low = (hex_lacks stop (to_be_bytes w16 g) low, low_lack stop groups low)

pub address_lacks : (stop address : ℕ) → stop < 48 → Lacks stop (address_text address)
unfolding address_text
address_lacks stop address low = Lacks-joined stop 58 (map group_text (groups_of 8 address))
    (low_lack stop (groups_of 8 address) low) (λ e. absurd (omega arith))

pub text_takes : (text : List ℕ) (a : ℕ) → address_of text ≡ Some a → (text ≡ address_text a) × (a < 2 ^ 128)
unfolding Reads address_text groups_of
text_takes text a e =
    let t = address_takes 8 0 (split 58 text) a (lit< tt) e in
    let r = t.0 in
    let same : groups_of 8 a ≡ r.0 = ap (groups_of 8) r.4
    ∙ (ap (λ (n : ℕ). groups_of n (value_on 0 r.0)) (sym r.2)
    ∙ (ap (λ (n : ℕ). groups_of n (value_on 0 r.0)) (sym (zero-add (length r.0))) ∙ value-groups 0 0 r.0 r.3))
    in (
      sym (joined-split 58 text) ∙ (ap (joined 58) r.1
          ∙ ap (λ (gs : List ℕ). joined 58 (map group_text gs)) (sym same)),
      t.1,
    )

some_words : (words : List (List ℕ)) → 0 < length words → AllLack 58 words → split 58 (joined 58 words) ≡ words
some_words [] some h = absurd (omega arith)
some_words (w ∷ words) some h = split-joined 58 w words h

pub text_again : (a : ℕ) → a < 2 ^ 128 → address_of (address_text a) ≡ Some a
unfolding address_text
text_again a lt =
    let groups = groups_of 8 a in
    let n : length groups ≡ 8 = length-groups 8 a in
    let words : split 58 (address_text a) ≡ map group_text groups =
    some_words (map group_text groups) (omega (arith, length-map groups group_text, n))
    (words_lack groups (are_groups 8 a)) in
    let value : value_on 0 groups ≡ a = groups-value 8 a (omega (arith, lt)) in
    ap (address_on 8 0) words ∙ (ap (λ (k : ℕ). address_on k 0 (map group_text groups)) (sym n)
    ∙ (address_again groups 0 (are_groups 8 a) (omega (arith, value, lt)) ∙ ap (λ (x : ℕ). Some x) value))

-- ---- prefixes

pub prefix_lacks : (stop : ℕ) (p : Prefix) → stop < 47 → IsPrefix p → Lacks stop (prefix_text p)
prefix_lacks stop p low h =
    Lacks-joined stop 47 (address_text p.address ∷ decimal p.length ∷ []) (
      address_lacks stop p.address (omega arith),
      (decimal_lacks stop p.length (omega arith) (omega (arith, h.short)), tt),
    ) (λ e. absurd (omega arith))

made_takes : (a n : ℕ) (p : Prefix) → a < 2 ^ 128 → made a n ≡ Some p → IsPrefix p × (a ≡ p.address) × (n ≡ p.length)
made_takes a n p lt e =
    let c = chosen (leb n 128) (cond (eqb (a % size_of n) 0) (Some (record { address = a; length = n })) None) p e in
    let d = chosen (eqb (a % size_of n) 0) (Some (record { address = a; length = n })) p c.1 in
    let is : record { address = a; length = n } ≡ p = some_is _ p d.1 in
    subst (λ (q : Prefix). IsPrefix q × (a ≡ q.address) × (n ≡ q.length)) is
    (record { short = leb-true n 128 c.0; address = lt; host_bits = eqb-true _ _ d.0 }, refl, refl)

made_again : (p : Prefix) → IsPrefix p → made p.address p.length ≡ Some p
made_again p h = rw (le-leb p.length 128 h.short, eq-eqb (p.address % size_of p.length) 0 h.host_bits) refl

parts_take : (parts : List (List ℕ)) (p : Prefix) → parts_prefix parts ≡ Some p
    → (parts ≡ address_text p.address ∷ decimal p.length ∷ []) × IsPrefix p
parts_take [] p e = absurd cc
parts_take (a ∷ []) p e = absurd cc
parts_take (a ∷ n ∷ []) p e =
    let x = bind_some (address_of a) (λ x. number_of n >>= λ y. made x y) p e in
    let y = bind_some (number_of n) (λ y. made x.0 y) p x.2 in
    let address = text_takes a x.0 x.1 in
    let number = number_takes n y.0 y.1 in
    let m = made_takes x.0 y.0 p address.1 y.2 in (
      ap (λ (w : List ℕ). w ∷ n ∷ []) (address.0 ∙ ap address_text m.1)
          ∙ ap (λ (w : List ℕ). address_text p.address ∷ w ∷ []) (number.0 ∙ ap decimal m.2),
      m.0,
    )
parts_take (a ∷ n ∷ b ∷ more) p e = absurd cc

pub prefix_takes : (word : List ℕ) (p : Prefix) → prefix_word word ≡ Some p → (word ≡ prefix_text p) × IsPrefix p
unfolding prefix_word
prefix_takes word p e =
    let t = parts_take (split 47 word) p e in
    (sym (joined-split 47 word) ∙ ap (joined 47) t.0, t.1)

pub prefix_again : (p : Prefix) → IsPrefix p → prefix_word (prefix_text p) ≡ Some p
unfolding prefix_word
prefix_again p h =
    let length : p.length < 2 ^ 64 = omega (arith, h.short) in
    let parts : split 47 (prefix_text p) ≡ address_text p.address ∷ decimal p.length ∷ [] =
    split-joined 47 (address_text p.address) (decimal p.length ∷ []) (
      address_lacks 47 p.address (lit< tt),
      (decimal_lacks 47 p.length (lit< tt) length, tt),
    ) in
    ap parts_prefix parts ∙ rw (text_again p.address h.address, number_again p.length length) (made_again p h)
