-- References have no spaces, line feeds or marks of chains.
use Rattle.std.proofs.Common.{◌≡◌, ◌≢◌, ℕ, ◌<◌, true, leb, List, [], ◌∷◌, arith, lit<}
use Rattle.std.specs.Prelude.{map}
use Rattle.std.specs.Char.{is_ascii_digit}
use Rattle.std.specs.Fmt.{decimal}
use Rattle.std.specs.Str.{all_ascii_digits}
use Rattle.std.specs.List.{AllByRecursion}
use Rattle.std.proofs.lemmas.Bool.{leb-true}
use Rattle.std.proofs.lemmas.Fmt.{digits_decimal}
use Rattle.text_fields.specs.Cuts.{Lacks, AllLack}
use Rattle.text_fields.proofs.NumberLaws.{own, decimal_lacks}
use Rattle.text_fields.proofs.CutLaws.{Lacks-joined}
use Rattle.text_fields.proofs.Steps.{both}
use Rattle.binding_rules.specs.declared.role.Role.{Role}
use Rattle.binding_rules.specs.declared.role.Role.TheVariants.{Primary, Secondary}
use Rattle.causal_order.specs.declared.reference.Ref.{Ref}
use Rattle.certificate.specs.Spelling.{letter_of, ref_text, chain_text, IsReference}

-- no digit is a mark of a chain
digits_lack : (ds : List ℕ) → all_ascii_digits ds ≡ true → Lacks 62 ds
digits_lack [] d = tt
digits_lack (b ∷ ds) d =
    let t = both (is_ascii_digit b) (all_ascii_digits ds) d in
    let r = both (leb 48 b) (leb b 57) t.0 in
    (λ e. absurd (omega (arith, leb-true b 57 r.1)), digits_lack ds t.1)

letter_lacks : (stop : ℕ) (side : Role) → stop < 65 → letter_of side ≢ stop
letter_lacks stop Primary lt e = absurd (omega arith)
letter_lacks stop Secondary lt e = absurd (omega arith)

pub ref_lacks : (stop : ℕ) (r : Ref) → stop < 48 → IsReference r → Lacks stop (ref_text r)
ref_lacks stop r low h = (
  letter_lacks stop r.side (omega arith),
  decimal_lacks stop r.number low (omega (arith, h.most)),
)

pub links_lack : (refs : List Ref) → AllByRecursion IsReference refs → AllLack 62 (map ref_text refs)
links_lack [] h = tt
links_lack (r ∷ refs) h = (
  (
    letter_lacks 62 r.side (lit< tt),
    digits_lack (decimal r.number)
        (digits_decimal own r.number (omega (arith, h.0.most))),
  ),
  links_lack refs h.1,
)

refs_lack : (stop : ℕ) (refs : List Ref) → stop < 48 → AllByRecursion IsReference refs
    → AllLack stop (map ref_text refs)
refs_lack stop [] low h = tt
refs_lack stop (r ∷ refs) low h = (ref_lacks stop r low h.0, refs_lack stop refs low h.1)

pub chain_lacks : (stop : ℕ) (chain : List Ref) → stop < 48 → AllByRecursion IsReference chain
    → Lacks stop (chain_text chain)
chain_lacks stop chain low h = Lacks-joined stop 62 (map ref_text chain) (refs_lack stop chain low h)
    (λ e. absurd (omega arith))
