-- What is read of a text is spelled so, what is spelled is read again, and each refusal says what is spelled.
use Rattle.std.proofs.Common.{◌≡◌, ◌≢◌, ℕ, ◌%◌, ◌<◌, ◌≤◌, List, [], ◌∷◌, Option, Some, None, refl, sym, ap, subst, ◌∙◌}
use Rattle.std.proofs.Common.{arith, inl, inr}
use Rattle.std.specs.Prelude.{Result, Ok, Err, IfOk, IsErrOf, ◌↔◌}
use Rattle.std.proofs.lemmas.Bool.{eq-eqb, ne_eqb, lt-ltb, le-ltb, cases_lt, cases_eq}
use Rattle.text_fields.specs.Parsing.{◌>>=◌, Finds}
use Rattle.text_fields.specs.Cuts.{joined, split}
use Rattle.text_fields.proofs.Steps.{bind_some, some_is}
use Rattle.text_fields.proofs.CutLaws.{split-joined, joined-split}
use Rattle.prefix_range.specs.declared.error.PrefixError.{PrefixError}
use Rattle.prefix_range.specs.declared.error.PrefixError.TheVariants.{LengthOver128, HostBits, Text}
use Rattle.prefix_range.specs.Prefix.{Prefix, IsPrefix, size_of}
use Rattle.prefix_range.specs.Spelling.{Spells}
use Rattle.prefix_range.specs.Parsing.{numeral_in, text_address, parts_spelled, spelled, prefix_in, prefix_spelled}
use Rattle.prefix_range.proofs.GroupLaws.{numeral_takes, numeral_again, numeral_lacks}
use Rattle.prefix_range.proofs.AddressLaws.{address_takes, address_again, address_lacks_slash}

-- ---- texts

parts_take : (text : List ℕ) (parts : List (List ℕ)) (x : ℕ × ℕ) → text ≡ joined 47 parts
    → parts_spelled parts ≡ Some x → Spells text x.0 x.1
parts_take text [] x t e = absurd cc
parts_take text (front ∷ []) x t e = absurd cc
parts_take text (front ∷ digits ∷ more ∷ parts) x t e = absurd cc
parts_take text (front ∷ digits ∷ []) x t e =
    let a = bind_some (text_address front) (λ a. numeral_in 10 3 digits >>= λ n. Some (a, n)) x e in
    let n = bind_some (numeral_in 10 3 digits) (λ n. Some (a.0, n)) x a.2 in
    let both = some_is _ _ n.2 in
    let address : a.0 ≡ x.0 = ap (λ (y : ℕ × ℕ). y.0) both in
    let length : n.0 ≡ x.1 = ap (λ (y : ℕ × ℕ). y.1) both in
    record {
      front = front;
      digits = digits;
      text_is = t;
      spells =
          address_takes front x.0 (a.1 ∙ ap (λ (k : ℕ). Some k) address);
      numeral =
          numeral_takes 10 3 digits x.1 (n.1 ∙ ap (λ (k : ℕ). Some k) length);
    }

pub spells_takes : (text : List ℕ) (x : ℕ × ℕ) → spelled text ≡ Some x → Spells text x.0 x.1
unfolding spelled
spells_takes text x e = parts_take text (split 47 text) x (sym (joined-split 47 text)) e

pub spells_again : (text : List ℕ) (address length : ℕ) → Spells text address length
    → spelled text ≡ Some (address, length)
unfolding spelled
spells_again text address length h =
    let parts : split 47 text ≡ h.front ∷ h.digits ∷ [] =
    ap (split 47) h.text_is ∙ split-joined 47 h.front (h.digits ∷ []) (
      address_lacks_slash h.front address h.spells,
      (numeral_lacks 10 3 47 h.digits length refl h.numeral, tt),
    ) in
    ap parts_spelled parts ∙ rw (
      address_again h.front address h.spells,
      numeral_again 10 3 h.digits length h.numeral,
    ) refl

-- ---- answers

pub found_is : (o read : Option (ℕ × ℕ)) → Finds (λ s. s) o read → o ≡ read
found_is None read e = sym e
found_is (Some x) read e = sym e

-- what is made of an address and a length, by cases
data Made (a n : ℕ) : Type 0 where
  Long : 128 < n → prefix_in a n ≡ Err LengthOver128 → Made a n
  Bits : n ≤ 128 → a % size_of n ≢ 0 → prefix_in a n ≡ Err HostBits → Made a n
  Fine : n ≤ 128 → a % size_of n ≡ 0 → prefix_in a n ≡ Ok (record { address = a; length = n }) → Made a n

made : (a n : ℕ) → Made a n
made a n =
    elim (cases_lt 128 n) [
      | inl long ↦ Long long (rw (lt-ltb 128 n long) refl)
      | inr short ↦
          elim (cases_eq (a % size_of n) 0) [
            | inl fine ↦ Fine short fine (rw (le-ltb 128 n short, eq-eqb (a % size_of n) 0 fine) refl)
            | inr bits ↦ Bits short bits (rw (le-ltb 128 n short, ne_eqb (a % size_of n) 0 bits) refl)
          ]
    ]

abbrev pub Found : List ℕ → Result Prefix PrefixError → Type 0
Found text r = IfOk r (λ p. Spells text p.address p.length × IsPrefix p)

pub found : (text : List ℕ) (r : Result Prefix PrefixError) → r ≡ prefix_spelled (spelled text)
    → IfOk r (λ p. IsPrefix p) → Found text r
found text (Err e) made_is whole = tt
found text (Ok p) made_is whole = (by (spelled text) refl made_is, whole)
  where
    by : (o : Option (ℕ × ℕ)) → spelled text ≡ o → Ok p ≡ prefix_spelled o → Spells text p.address p.length
    by None e is = absurd cc
    by (Some x) e is = from x e (made x.0 x.1) is
      where
        from : (x : ℕ × ℕ) → spelled text ≡ Some x → Made x.0 x.1 → Ok p ≡ prefix_in x.0 x.1
            → Spells text p.address p.length
        from x e (Long long is) both = absurd cc
        from x e (Bits short bits is) both = absurd cc
        from x e (Fine short fine is) both =
            let same : p ≡ record { address = x.0; length = x.1 } = cc in
            subst (λ (q : Prefix). Spells text q.address q.length) (sym same) (spells_takes text x e)

pub only : (text : List ℕ) (p : Prefix) → IsPrefix p → Spells text p.address p.length
    → prefix_spelled (spelled text) ≡ Ok p
only text p h spells = ap prefix_spelled (spells_again text p.address p.length spells) ∙ fine (made p.address p.length)
  where
    fine : Made p.address p.length → prefix_in p.address p.length ≡ Ok p
    fine (Long long is) = absurd (omega (arith, h.short))
    fine (Bits short bits is) = absurd (bits h.host_bits)
    fine (Fine short low is) = is

pub no_text : (text : List ℕ) → IsErrOf (prefix_spelled (spelled text)) Text
    ↔ ((address length : ℕ) → Spells text address length → ⊥)
no_text text = by (spelled text) refl
  where
    by : (o : Option (ℕ × ℕ)) → spelled text ≡ o → IsErrOf (prefix_spelled o) Text
        ↔ ((address length : ℕ) → Spells text address length → ⊥)
    by None e = (λ _ a n h. let again = spells_again text a n h in absurd cc, λ _. refl)
    by (Some x) e = (λ bad. absurd (other (made x.0 x.1) bad), λ none. absurd (none x.0 x.1 (spells_takes text x e)))
      where
        other : Made x.0 x.1 → prefix_in x.0 x.1 ≡ Err Text → ⊥
        other (Long long is) bad = cc
        other (Bits short bits is) bad = cc
        other (Fine short fine is) bad = cc

pub too_long : (text : List ℕ) → IsErrOf (prefix_spelled (spelled text)) LengthOver128
    ↔ ((address : ℕ) × (length : ℕ) × Spells text address length × (128 < length))
too_long text = (
  by (spelled text) refl,
  λ w. ap prefix_spelled (spells_again text w.0 w.1 w.2)
      ∙ long_is (made w.0 w.1) w.3,
)
  where
    long_is : {a n : ℕ} → Made a n → 128 < n → prefix_in a n ≡ Err LengthOver128
    long_is (Long long is) lt = is
    long_is (Bits short bits is) lt = absurd (omega arith)
    long_is (Fine short fine is) lt = absurd (omega arith)

    by : (o : Option (ℕ × ℕ)) → spelled text ≡ o → prefix_spelled o ≡ Err LengthOver128
        → (address : ℕ) × (length : ℕ) × Spells text address length × (128 < length)
    by None e bad = absurd cc
    by (Some x) e bad = (x.0, x.1, spells_takes text x e, long (made x.0 x.1) bad)
      where
        long : {a n : ℕ} → Made a n → prefix_in a n ≡ Err LengthOver128 → 128 < n
        long (Long lt is) bad = lt
        long (Bits short bits is) bad = absurd cc
        long (Fine short fine is) bad = absurd cc

pub host_bits : (text : List ℕ) → IsErrOf (prefix_spelled (spelled text)) HostBits
    ↔ ((address : ℕ) × (length : ℕ) × Spells text address length × (length ≤ 128) × (address % size_of length ≢ 0))
host_bits text = (
  by (spelled text) refl,
  λ w. ap prefix_spelled (spells_again text w.0 w.1 w.2)
      ∙ bits_are (made w.0 w.1) w.3 w.4,
)
  where
    bits_are : {a n : ℕ} → Made a n → n ≤ 128 → a % size_of n ≢ 0 → prefix_in a n ≡ Err HostBits
    bits_are (Long long is) le bits = absurd (omega arith)
    bits_are (Bits short more is) le bits = is
    bits_are (Fine short fine is) le bits = absurd (bits fine)

    by : (o : Option (ℕ × ℕ)) → spelled text ≡ o → prefix_spelled o ≡ Err HostBits
        → (address : ℕ) × (length : ℕ) × Spells text address length × (length ≤ 128) × (address % size_of length ≢ 0)
    by None e bad = absurd cc
    by (Some x) e bad = let b = found_bits (made x.0 x.1) bad in (x.0, x.1, spells_takes text x e, b.0, b.1)
      where
        found_bits : {a n : ℕ} → Made a n → prefix_in a n ≡ Err HostBits → (n ≤ 128) × (a % size_of n ≢ 0)
        found_bits (Long lt is) bad = absurd cc
        found_bits (Bits short bits is) bad = (short, bits)
        found_bits (Fine short fine is) bad = absurd cc
