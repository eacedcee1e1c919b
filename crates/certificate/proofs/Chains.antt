-- A chain is read reference by reference.
use Rattle.std.proofs.Common.{◌≡◌, ◌≢◌, ℕ, ◌+◌, ◌<◌, ◌≤◌, Bool, true, false, cond, leb, List, [], ◌∷◌, ◌++◌, length}
use Rattle.std.proofs.Common.{Option, Some, None, refl, sym, ap, ◌∙◌, append_assoc, append-nil, arith}
use Rattle.std.specs.Prelude.{option_map}
use Rattle.std.proofs.lemmas.Bool.{le-leb, leb-true}
use Rattle.std.proofs.lemmas.List.{length-append}
use Rattle.causal_order.specs.declared.reference.Ref.{Ref}
use Rattle.certificate.specs.Lines.{ref_of, refs_of, chain_in}

-- references behind those that were read
abbrev behind_refs : List Ref → Option (List Ref) → Option (List Ref)
behind_refs refs more = option_map (λ rs. refs ++ rs) more

-- the references that were read of all words, up to those that are left
pub record IsRead (all : List (List ℕ)) (refs : List Ref) (left : List (List ℕ)) : Type 0 where
  pub value : behind_refs refs (refs_of left) ≡ refs_of all
  pub count : length refs + length left ≡ length all
  pub few : length refs ≤ 1024

none_before : (o : Option (List Ref)) → behind_refs [] o ≡ o
none_before None = refl
none_before (Some refs) = refl

pub begins : (all : List (List ℕ)) → IsRead all [] all
begins all = record { value = none_before (refs_of all); count = omega arith; few = omega arith }

one_more : (refs : List Ref) (r : Ref) (o : Option (List Ref))
    → behind_refs (refs ++ r ∷ []) o ≡ behind_refs refs (option_map (λ rs. r ∷ rs) o)
one_more refs r None = refl
one_more refs r (Some more) = ap (λ (rs : List Ref). Some rs) (append_assoc refs (r ∷ []) more)

read_one : (word : List ℕ) (words : List (List ℕ)) (r : Ref) → ref_of word ≡ Some r
    → refs_of (word ∷ words) ≡ option_map (λ rs. r ∷ rs) (refs_of words)
unfolding refs_of
read_one word words r e = rw e refl

read_none : (word : List ℕ) (words : List (List ℕ)) → ref_of word ≡ None → refs_of (word ∷ words) ≡ None
unfolding refs_of
read_none word words e = rw e refl

pub goes_on : (all : List (List ℕ)) (refs : List Ref) (word : List ℕ) (left : List (List ℕ)) (r : Ref)
    → IsRead all refs (word ∷ left) → length refs ≢ 1024 → ref_of word ≡ Some r → IsRead all (refs ++ r ∷ []) left
goes_on all refs word left r h room e = record {
  value = one_more refs r (refs_of left) ∙ (ap (behind_refs refs) (sym (read_one word left r e)) ∙ h.value);
  count = omega (arith, h.count, length-append refs (r ∷ []));
  few = omega (arith, h.few, length-append refs (r ∷ []));
}

pub ends : (all : List (List ℕ)) (refs : List Ref) → IsRead all refs [] → chain_in all ≡ Some refs
unfolding chain_in refs_of
ends all refs h =
    let value : refs_of all ≡ Some refs = sym h.value ∙ ap (λ (rs : List Ref). Some rs) (append-nil refs) in
    rw (le-leb (length all) 1024 (omega (arith, h.count, h.few))) value

too_many : (all : List (List ℕ)) → 1024 < length all → chain_in all ≡ None
unfolding chain_in
too_many all many = by (leb (length all) 1024) refl
  where
    by : (b : Bool) → leb (length all) 1024 ≡ b → cond b (refs_of all) None ≡ None
    by true p = absurd (omega (arith, leb-true (length all) 1024 p))
    by false p = refl

pub is_full : (all : List (List ℕ)) (refs : List Ref) (word : List ℕ) (left : List (List ℕ))
    → IsRead all refs (word ∷ left) → length refs ≡ 1024 → chain_in all ≡ None
is_full all refs word left h full = too_many all (omega (arith, h.count))

without : (all : List (List ℕ)) → refs_of all ≡ None → chain_in all ≡ None
unfolding chain_in
without all none = by (leb (length all) 1024)
  where
    by : (b : Bool) → cond b (refs_of all) None ≡ None
    by true = none
    by false = refl

pub is_none : (all : List (List ℕ)) (refs : List Ref) (word : List ℕ) (left : List (List ℕ))
    → IsRead all refs (word ∷ left) → ref_of word ≡ None → chain_in all ≡ None
is_none all refs word left h e = without all (sym h.value ∙ ap (behind_refs refs) (read_none word left e))

-- what the next word makes of the references so far
pub ruleset next_word = (ends, begins, goes_on, is_full, is_none)
