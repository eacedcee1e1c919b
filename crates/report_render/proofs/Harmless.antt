-- What is escaped is harmless.
use Rattle.std.proofs.Common.{◌≡◌, ◌≢◌, ℕ, Bool, true, false, List, [], ◌∷◌, ◌++◌, codes, refl, arith, rules}
use Rattle.std.proofs.Common.{if◌then◌else◌, ◌==◌, ◌||◌}
use Rattle.std.specs.List.{flat_map, AllByRecursion}
use Rattle.std.proofs.lemmas.Bool.Decides.{nat_tests}
use Rattle.report_render.specs.Escaping.{entity, escaped, ENTITIES, IsInert, IsHarmless, AmpersandsBegin, BeginsWithEntity}
use Rattle.report_render.specs.Escaping.{EscapedIsHarmless}

differs : (o n : ℕ) → (o == n) ≡ false → o ≢ n
differs o n e = grind (arith, nat_tests)

-- an octet that isn't special, before what is harmless
plain : (o : ℕ) (text : List ℕ) → (o == 38) ≡ false → (o == 60) ≡ false → (o == 62) ≡ false → (o == 34) ≡ false
    → (o == 39) ≡ false → IsHarmless text → IsHarmless (o ∷ text)
plain o text amp less greater quote apostrophe h = record {
  inert = (
    record {
      less = differs o 60 less;
      greater = differs o 62 greater;
      quote = differs o 34 quote;
      apostrophe = differs o 39 apostrophe;
    },
    h.inert,
  );
  ampersands = ((λ e. absurd (differs o 38 amp e)), h.ampersands);
}

-- an ampersand that begins a reference, before what is harmless
ampersand : (text : List ℕ) → BeginsWithEntity (38 ∷ text) → IsHarmless text → IsHarmless (38 ∷ text)
ampersand text b h = record {
  inert = (
    record {
      less = differs 38 60 refl;
      greater = differs 38 62 refl;
      quote = differs 38 34 refl;
      apostrophe = differs 38 39 refl;
    },
    h.inert,
  );
  ampersands = ((λ e. b), h.ampersands);
}

-- a letter of a reference
letter : (o : ℕ) (text : List ℕ) → (o == 38 || o == 60 || o == 62 || o == 34 || o == 39) ≡ false
    → IsHarmless text → IsHarmless (o ∷ text)
letter o text e h = plain o text (grind (arith, nat_tests)) (grind (arith, nat_tests)) (grind (arith, nat_tests)) (grind (arith, nat_tests)) (grind (arith, nat_tests)) h

amp_harmless : (text : List ℕ) → IsHarmless text → IsHarmless (codes "&amp;" ++ text)
amp_harmless text h = ampersand _ (0, codes "&amp;", text, refl, refl)
    (letter 97 _ refl (letter 109 _ refl (letter 112 _ refl (letter 59 _ refl h))))

less_harmless : (text : List ℕ) → IsHarmless text → IsHarmless (codes "&lt;" ++ text)
less_harmless text h = ampersand _ (1, codes "&lt;", text, refl, refl)
    (letter 108 _ refl (letter 116 _ refl (letter 59 _ refl h)))

greater_harmless : (text : List ℕ) → IsHarmless text → IsHarmless (codes "&gt;" ++ text)
greater_harmless text h = ampersand _ (2, codes "&gt;", text, refl, refl)
    (letter 103 _ refl (letter 116 _ refl (letter 59 _ refl h)))

quote_harmless : (text : List ℕ) → IsHarmless text → IsHarmless (codes "&quot;" ++ text)
quote_harmless text h = ampersand _ (3, codes "&quot;", text, refl, refl)
    (letter 113 _ refl (letter 117 _ refl (letter 111 _ refl (letter 116 _ refl (letter 59 _ refl h)))))

apostrophe_harmless : (text : List ℕ) → IsHarmless text → IsHarmless (codes "&#39;" ++ text)
apostrophe_harmless text h = ampersand _ (4, codes "&#39;", text, refl, refl)
    (letter 35 _ refl (letter 51 _ refl (letter 57 _ refl (letter 59 _ refl h))))

entity_harmless : (o : ℕ) (text : List ℕ) → IsHarmless text → IsHarmless (entity o ++ text)
entity_harmless o text h =
    elim (o == 38) as (λ v. (o == 38) ≡ v → IsHarmless ((if v then codes "&amp;" else if o == 60 then codes "&lt;"
    else if o == 62 then codes "&gt;" else if o == 34 then codes "&quot;" else if o == 39 then codes "&#39;" else o ∷ []) ++ text)) [
      | true ↦ λ a. amp_harmless text h
      | false ↦ λ a. elim (o == 60) as (λ v. (o == 60) ≡ v → IsHarmless ((if v then codes "&lt;"
          else if o == 62 then codes "&gt;" else if o == 34 then codes "&quot;" else if o == 39 then codes "&#39;" else o ∷ []) ++ text)) [
            | true ↦ λ b. less_harmless text h
            | false ↦ λ b. elim (o == 62) as (λ v. (o == 62) ≡ v → IsHarmless ((if v then codes "&gt;"
                else if o == 34 then codes "&quot;" else if o == 39 then codes "&#39;" else o ∷ []) ++ text)) [
                  | true ↦ λ c. greater_harmless text h
                  | false ↦ λ c. elim (o == 34) as (λ v. (o == 34) ≡ v → IsHarmless ((if v then codes "&quot;"
                      else if o == 39 then codes "&#39;" else o ∷ []) ++ text)) [
                        | true ↦ λ d. quote_harmless text h
                        | false ↦ λ d. elim (o == 39) as (λ v. (o == 39) ≡ v → IsHarmless ((if v then codes "&#39;" else o ∷ []) ++ text)) [
                          | true ↦ λ e. apostrophe_harmless text h
                          | false ↦ λ e. plain o text a b c d e h
                        ] refl
                      ] refl
                ] refl
          ] refl
    ] refl

pub all_harmless : EscapedIsHarmless
all_harmless [] = record { inert = search rules; ampersands = search rules }
all_harmless (o ∷ text) = entity_harmless o (escaped text) (all_harmless text)
