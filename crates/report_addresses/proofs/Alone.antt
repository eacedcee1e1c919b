-- The prefix of an address alone, as it is read.
use Rattle.std.proofs.Common.{◌≡◌, ◌∙◌, refl, sym, ap, subst, arith, ℕ, ◌%◌, ◌==◌, true, List, [], ◌∷◌, ◌++◌, Option, Some, None}
use Rattle.std.proofs.Common.{codes}
use Rattle.std.specs.Prelude.{option_map, Result, Ok, Err}
use Rattle.std.proofs.lemmas.Bool.{eq-eqb}
use Rattle.text_fields.specs.Cuts.{split, Lacks}
use Rattle.text_fields.specs.Parsing.{◌>>=◌}
use Rattle.text_fields.proofs.CutLaws.{split-cons}
use Rattle.prefix_range.specs.Prefix.{Prefix, size_of}
use Rattle.prefix_range.specs.Parsing.{text_address, spelled, parts_spelled, prefix_spelled, numeral_in}
use Rattle.prefix_range.specs.Spelling.{digits_on, with_digit}
use Rattle.prefix_range.specs.declared.error.PrefixError.{PrefixError}
use Rattle.report_addresses.specs.ReportAddresses.{alone}

-- the prefix that reading found
abbrev pub found : Result Prefix PrefixError → Option Prefix
found (Ok p) = Some p
found (Err e) = None

whole_length : numeral_in 10 3 (codes "128") ≡ Some 128
unfolding numeral_in digits_on with_digit
whole_length = refl

no_host_bits : (a : ℕ) → (a % size_of 128 == 0) ≡ true
no_host_bits a = eq-eqb (a % size_of 128) 0 (omega arith)

by_address : (address : Option ℕ) → found (prefix_spelled (address >>= λ a. Some (a, 128))) ≡ option_map alone address
by_address None = refl
by_address (Some a) = rw (no_host_bits a) refl

parts : (text : List ℕ) → parts_spelled (text ∷ codes "128" ∷ []) ≡ (text_address text >>= λ a. Some (a, 128))
parts text = rw whole_length refl

cuts : (text : List ℕ) → Lacks 47 text → split 47 (text ++ codes "/128") ≡ text ∷ codes "128" ∷ []
unfolding split
cuts text lacks = split-cons 47 text (codes "128") lacks

pub is_alone : (text whole : List ℕ) → whole ≡ text ++ codes "/128" → Lacks 47 text
    → found (prefix_spelled (spelled whole)) ≡ option_map alone (text_address text)
unfolding spelled
is_alone text whole e lacks =
    rw (e, cuts text lacks, parts text) (by_address (text_address text))
