-- A word or a field that is read is spelled so, and what is spelled so is read.
use Rattle.std.proofs.Common.{◌≡◌, ◌≢◌, ℕ, ◌≤◌, ◌^◌, Bool, true, false, cond, eqb, leb, List, [], ◌∷◌, length, Some}
use Rattle.std.proofs.Common.{None, refl, sym, ap, subst, ◌∙◌, arith}
use Rattle.std.specs.Prelude.{option_map, map}
use Rattle.std.specs.List.{AllByRecursion}
use Rattle.std.proofs.lemmas.List.{length-map}
use Rattle.text_fields.specs.Cuts.{joined, split}
use Rattle.text_fields.proofs.Cutting.{split_some}
use Rattle.text_fields.proofs.CutLaws.{joined-split, split-joined}
use Rattle.std.specs.Str.{bytes_eq}
use Rattle.std.proofs.lemmas.Bool.{eqb-true, leb-true, le-leb}
use Rattle.std.proofs.lemmas.Slice.Eq.{bytes_eq-Decides}
use Rattle.text_fields.specs.Parsing.{alone, ◌>>=◌}
use Rattle.text_fields.proofs.Steps.{bind_some, map_some, chosen, some_is}
use Rattle.text_fields.proofs.WordLaws.{word_takes, word_again}
use Rattle.line_words.specs.Words.{number_within}
use Rattle.line_words.proofs.WordLaws.{first_takes, within_takes, within_again}
use Rattle.binding_rules.specs.declared.role.Role.{Role}
use Rattle.binding_rules.specs.declared.role.Role.TheVariants.{Primary, Secondary}
use Rattle.causal_order.specs.declared.reference.Ref.{Ref}
use Rattle.certificate.specs.Spelling.{letter_of, ref_text, chain_text, IsReference, IsChain}
use Rattle.certificate.specs.Lines.{keyword, keyword_at, side_of, ref_of, refs_of, chain_in, chain_of, ref_at, chain_at}
use Rattle.certificate.proofs.RefPlain.{links_lack}

-- ---- words that stand alone

pub alone_takes : {A : Type 0} (x y : A) (rest : List (List ℕ)) → alone x rest ≡ Some y → (rest ≡ []) × (x ≡ y)
alone_takes x y [] e = (refl, some_is x y e)
alone_takes x y (word ∷ rest) e = absurd cc

-- ---- keywords

pub keyword_takes : (text : List ℕ) (words : List (List ℕ)) (t : List ℕ) (rest : List (List ℕ))
    → keyword_at text words ≡ Some (t, rest) → words ≡ text ∷ rest
unfolding keyword
keyword_takes text words t rest e =
    let w = word_takes (keyword text) words t rest e in
    let c = chosen (bytes_eq w.0 text) (Some text) t w.2 in
    w.1 ∙ ap (λ (word : List ℕ). word ∷ rest) ((bytes_eq-Decides w.0 text).0 c.0)

pub keyword_again : (text : List ℕ) (rest : List (List ℕ)) → keyword_at text (text ∷ rest) ≡ Some (text, rest)
unfolding keyword
keyword_again text rest = word_again (keyword text) text rest text (rw ((bytes_eq-Decides text text).1 refl) refl)

-- ---- references

side_takes : (letter : ℕ) (side : Role) → side_of letter ≡ Some side → letter ≡ letter_of side
unfolding side_of
side_takes letter side e = by (eqb letter 65) (eqb letter 66) refl refl e
  where
    by : (a b : Bool) → eqb letter 65 ≡ a → eqb letter 66 ≡ b → cond a (Some Primary) (cond b (Some Secondary) None)
        ≡ Some side → letter ≡ letter_of side
    by true b p q e = eqb-true letter 65 p ∙ ap letter_of (some_is Primary side e)
    by false true p q e = eqb-true letter 66 q ∙ ap letter_of (some_is Secondary side e)
    by false false p q e = absurd cc

side_again : (side : Role) → side_of (letter_of side) ≡ Some side
unfolding side_of
side_again Primary = refl
side_again Secondary = refl

pub ref_takes : (word : List ℕ) (r : Ref) → ref_of word ≡ Some r → (word ≡ ref_text r) × IsReference r
unfolding ref_of
ref_takes [] r e = absurd cc
ref_takes (letter ∷ digits) r e =
    let s = bind_some (side_of letter) (λ side. number_within (2 ^ 20) digits
    >>= λ number. cond (leb 1 number) (Some (record { side = side; number = number })) None) r e in
    let n = bind_some (number_within (2 ^ 20) digits) (λ number.
    cond (leb 1 number) (Some (record { side = s.0; number = number })) None) r s.2 in
    let c = chosen (leb 1 n.0) (Some (record { side = s.0; number = n.0 })) r n.2 in
    let made : Ref = record { side = s.0; number = n.0 } in
    let is : made ≡ r = some_is made r c.1 in
    let letter_is : letter ≡ letter_of s.0 = side_takes letter s.0 s.1 in
    let d = within_takes (2 ^ 20) digits n.0 n.1 in
    subst (λ (q : Ref). (letter ∷ digits ≡ ref_text q) × IsReference q) is (
      ap (λ (x : ℕ). x ∷ digits) letter_is ∙ ap (λ (ds : List ℕ). letter_of s.0 ∷ ds) d.0,
      record { least = leb-true 1 n.0 c.0; most = d.1 },
    )

pub ref_again : (r : Ref) → IsReference r → ref_of (ref_text r) ≡ Some r
unfolding ref_of
ref_again r h = rw (
  side_again r.side,
  within_again (2 ^ 20) r.number h.most (omega (arith, h.most)),
  le-leb 1 r.number h.least,
) refl

pub ref_at_takes : (words : List (List ℕ)) (r : Ref) (rest : List (List ℕ)) → ref_at words ≡ Some (r, rest)
    → (words ≡ ref_text r ∷ rest) × IsReference r
ref_at_takes words r rest e = first_takes IsReference ref_of ref_text ref_takes words r rest e

pub ref_at_again : (r : Ref) (rest : List (List ℕ)) → IsReference r → ref_at (ref_text r ∷ rest) ≡ Some (r, rest)
ref_at_again r rest h = word_again ref_of (ref_text r) rest r (ref_again r h)

-- ---- chains

refs_take : (words : List (List ℕ)) (refs : List Ref) → refs_of words ≡ Some refs
    → (words ≡ map ref_text refs) × AllByRecursion IsReference refs
unfolding refs_of
refs_take [] refs e = subst (λ (rs : List Ref). ([] ≡ map ref_text rs) × AllByRecursion IsReference rs)
    (some_is [] refs e) (refl, tt)
refs_take (word ∷ words) refs e =
    let r = bind_some (ref_of word) (λ r. option_map (λ rs. r ∷ rs) (refs_of words)) refs e in
    let m = map_some (refs_of words) (λ rs. r.0 ∷ rs) refs r.2 in
    let t = ref_takes word r.0 r.1 in
    let on = refs_take words m.0 m.1 in
    subst (λ (rs : List Ref). (word ∷ words ≡ map ref_text rs) × AllByRecursion IsReference rs) m.2
    (ap (λ (w : List ℕ). w ∷ words) t.0 ∙ ap (λ (ws : List (List ℕ)). ref_text r.0 ∷ ws) on.0, (t.1, on.1))

refs_again : (refs : List Ref) → AllByRecursion IsReference refs → refs_of (map ref_text refs) ≡ Some refs
unfolding refs_of
refs_again [] h = refl
refs_again (r ∷ refs) h = rw (ref_again r h.0, refs_again refs h.1) refl

some_length : (words : List (List ℕ)) → words ≢ [] → 1 ≤ length words
some_length [] some = absurd (some refl)
some_length (word ∷ words) some = omega arith

chain_takes : (word : List ℕ) (chain : List Ref) → chain_of word ≡ Some chain
    → (word ≡ chain_text chain) × IsChain chain
unfolding chain_in
chain_takes word chain e =
    let c = chosen (leb (length (split 62 word)) 1024) (refs_of (split 62 word)) chain e in
    let t = refs_take (split 62 word) chain c.1 in
    let count : length (split 62 word) ≡ length chain = ap length t.0 ∙ length-map chain ref_text in (
      sym (joined-split 62 word) ∙ ap (joined 62) t.0,
      record {
        some =
            omega (arith, count, some_length (split 62 word) (split_some 62 word));
        few =
            omega (arith, count, leb-true (length (split 62 word)) 1024 c.0);
        references = t.1;
      },
    )

few_again : (words : List (List ℕ)) → length words ≤ 1024 → chain_in words ≡ refs_of words
unfolding chain_in
few_again words few = rw (le-leb (length words) 1024 few) refl

chain_again : (chain : List Ref) → IsChain chain → chain_of (chain_text chain) ≡ Some chain
chain_again [] h = absurd (omega (arith, h.some))
chain_again (r ∷ chain) h =
    ap chain_in (split-joined 62 (ref_text r) (map ref_text chain) (links_lack (r ∷ chain) h.references))
    ∙ (few_again (map ref_text (r ∷ chain)) (omega (arith, h.few, length-map (r ∷ chain) ref_text))
    ∙ refs_again (r ∷ chain) h.references)

pub chain_at_takes : (words : List (List ℕ)) (chain : List Ref) (rest : List (List ℕ))
    → chain_at words ≡ Some (chain, rest) → (words ≡ chain_text chain ∷ rest) × IsChain chain
chain_at_takes words chain rest e = first_takes IsChain chain_of chain_text chain_takes words chain rest e

pub chain_at_again : (chain : List Ref) (rest : List (List ℕ)) → IsChain chain
    → chain_at (chain_text chain ∷ rest) ≡ Some (chain, rest)
chain_at_again chain rest h = word_again chain_of (chain_text chain) rest chain (chain_again chain h)
