-- A text is cut where two colons stand, and groups with a colon between each two have no such place.
use Rattle.std.proofs.Common.{◌≡◌, ℕ, Bool, true, false, cond, List, [], ◌∷◌, ◌++◌, drop, Option, Some, None, refl, sym}
use Rattle.std.proofs.Common.{ap, ◌∙◌, append_assoc, append-nil, arith, eqb, ◌&&◌}
use Rattle.std.specs.Prelude.{option_map}
use Rattle.std.proofs.lemmas.Bool.{ne_eqb, eqb-true, and_parts}
use Rattle.text_fields.specs.Cuts.{joined, Lacks}
use Rattle.text_fields.proofs.Steps.{map_some, some_is}
use Rattle.prefix_range.specs.Spelling.{IsNumeral, AreGroups}
use Rattle.prefix_range.specs.Parsing.{begins, cut}
use Rattle.prefix_range.proofs.GroupLaws.{numeral_lacks}

-- ---- what is cut is the text

begins_with : (text : List ℕ) → begins 58 text ≡ true → text ≡ 58 ∷ drop 1 text
begins_with [] e = absurd cc
begins_with (b ∷ text) e = ap (λ (x : ℕ). x ∷ text) (eqb-true b 58 e)

abbrev parts : List ℕ → List ℕ → Option (List ℕ × List ℕ)
parts front back = Some (front, back)

abbrev later : ℕ → List ℕ × List ℕ → List ℕ × List ℕ
later b x = (b ∷ x.0, x.1)

here_takes : (b : ℕ) (text front back : List ℕ) → (eqb b 58 && begins 58 text) ≡ true
    → parts [] (drop 1 text) ≡ parts front back → b ∷ text ≡ front ++ 58 ∷ 58 ∷ back
here_takes b text front back here e =
    let p = and_parts (eqb b 58) (begins 58 text) here in
    let both = some_is _ _ e in
    let first : [] ≡ front = ap (λ (x : List ℕ × List ℕ). x.0) both in
    let second : drop 1 text ≡ back = ap (λ (x : List ℕ × List ℕ). x.1) both in
    let whole : b ∷ text ≡ 58 ∷ 58 ∷ drop 1 text = ap (λ (x : ℕ). x ∷ text) (eqb-true b 58 p.0)
    ∙ ap (λ (x : List ℕ). 58 ∷ x) (begins_with text p.1) in
    whole ∙ (ap (λ (x : List ℕ). 58 ∷ 58 ∷ x) second ∙ ap (λ (x : List ℕ). x ++ 58 ∷ 58 ∷ back) first)

later_takes : (b : ℕ) (text front back : List ℕ) → ((f g : List ℕ) → cut text ≡ Some (f, g) → text ≡ f ++ 58 ∷ 58 ∷ g)
    → option_map (later b) (cut text) ≡ parts front back → b ∷ text ≡ front ++ 58 ∷ 58 ∷ back
later_takes b text front back rest e =
    let m = map_some (cut text) (later b) (front, back) e in
    let first : b ∷ m.0.0 ≡ front = ap (λ (x : List ℕ × List ℕ). x.0) m.2 in
    let second : m.0.1 ≡ back = ap (λ (x : List ℕ × List ℕ). x.1) m.2 in
    ap (λ (x : List ℕ). b ∷ x) (rest m.0.0 m.0.1 m.1)
    ∙ (ap (λ (x : List ℕ). x ++ 58 ∷ 58 ∷ m.0.1) first ∙ ap (λ (x : List ℕ). front ++ 58 ∷ 58 ∷ x) second)

either_takes : (b : ℕ) (text front back : List ℕ) (t : Bool) → (eqb b 58 && begins 58 text) ≡ t
    → ((f g : List ℕ) → cut text ≡ Some (f, g) → text ≡ f ++ 58 ∷ 58 ∷ g)
    → cond t (parts [] (drop 1 text)) (option_map (later b) (cut text)) ≡ parts front back
    → b ∷ text ≡ front ++ 58 ∷ 58 ∷ back
either_takes b text front back true here rest e = here_takes b text front back here e
either_takes b text front back false here rest e = later_takes b text front back rest e

pub cut_takes : (text front back : List ℕ) → cut text ≡ Some (front, back) → text ≡ front ++ 58 ∷ 58 ∷ back
unfolding cut
cut_takes [] front back e = absurd cc
cut_takes (b ∷ text) front back e = either_takes b text front back (eqb b 58 && begins 58 text) refl
    (λ f g found. cut_takes text f g found) e

-- ---- words that lack colons are passed over

abbrev pub with_front : List ℕ → Option (List ℕ × List ℕ) → Option (List ℕ × List ℕ)
with_front word found = option_map (λ x. (word ++ x.0, x.1)) found

front_front : (a b : List ℕ) (found : Option (List ℕ × List ℕ))
    → with_front a (with_front b found) ≡ with_front (a ++ b) found
front_front a b None = refl
front_front a b (Some x) = ap (λ (w : List ℕ). Some (w, x.1)) (sym (append_assoc a b x.0))

front_nothing : (found : Option (List ℕ × List ℕ)) → found ≡ with_front [] found
front_nothing None = refl
front_nothing (Some x) = refl

cut_skip : (word text : List ℕ) → Lacks 58 word → cut (word ++ text) ≡ with_front word (cut text)
unfolding cut
cut_skip [] text h = front_nothing (cut text)
cut_skip (b ∷ word) text h = rw (ne_eqb b 58 h.0, cut_skip word text h.1) (front_front (b ∷ []) word (cut text))

cut_colon : (text : List ℕ) → begins 58 text ≡ false → cut (58 ∷ text) ≡ with_front (58 ∷ []) (cut text)
unfolding cut
cut_colon text other = rw other refl

-- a numeral and what follows begin with no colon
numeral_begins : (base most : ℕ) (word : List ℕ) (n : ℕ) (text : List ℕ) → IsNumeral base most word n
    → begins 58 (word ++ text) ≡ false
numeral_begins base most [] n text h = let some = h.some in absurd (omega arith)
numeral_begins base most (b ∷ word) n text h = ne_eqb b 58 (numeral_lacks base most 58 (b ∷ word) n refl h).0

joined_begins : (word : List ℕ) (words : List (List ℕ)) (groups : List ℕ) (text : List ℕ)
    → AreGroups (word ∷ words) groups → begins 58 (joined 58 (word ∷ words) ++ text) ≡ false
joined_begins word words [] text h = absurd h
joined_begins word [] (g ∷ groups) text h = numeral_begins 16 4 word g text h.0
joined_begins word (next ∷ words) (g ∷ groups) text h =
    ap (begins 58) (append_assoc word (58 ∷ joined 58 (next ∷ words)) text)
    ∙ numeral_begins 16 4 word g ((58 ∷ joined 58 (next ∷ words)) ++ text) h.0

pub cut_joined : (words : List (List ℕ)) (groups : List ℕ) (text : List ℕ) → AreGroups words groups
    → cut (joined 58 words ++ text) ≡ with_front (joined 58 words) (cut text)
cut_joined [] groups text h = front_nothing (cut text)
cut_joined (word ∷ words) [] text h = absurd h
cut_joined (word ∷ []) (g ∷ groups) text h = cut_skip word text (numeral_lacks 16 4 58 word g refl h.0)
cut_joined (word ∷ next ∷ words) (g ∷ groups) text h =
    let rest = joined 58 (next ∷ words) in
    let behind : cut (58 ∷ (rest ++ text)) ≡ with_front (58 ∷ []) (with_front rest (cut text)) =
    cut_colon (rest ++ text) (joined_begins next words groups text h.1)
    ∙ ap (with_front (58 ∷ [])) (cut_joined (next ∷ words) groups text h.1) in
    ap cut (append_assoc word (58 ∷ rest) text)
    ∙ (cut_skip word (58 ∷ (rest ++ text)) (numeral_lacks 16 4 58 word g refl h.0)
    ∙ (ap (with_front word) (behind ∙ front_front (58 ∷ []) rest (cut text)) ∙ front_front word (58 ∷ rest) (cut text)))

pub cut_nothing : (words : List (List ℕ)) (groups : List ℕ) → AreGroups words groups → cut (joined 58 words) ≡ None
unfolding cut
cut_nothing words groups h = ap cut (sym (append-nil (joined 58 words))) ∙ cut_joined words groups [] h

pub cut_again : (words : List (List ℕ)) (groups : List ℕ) (back : List ℕ) → AreGroups words groups
    → cut (joined 58 words ++ 58 ∷ 58 ∷ back) ≡ Some (joined 58 words, back)
unfolding cut
cut_again words groups back h =
    cut_joined words groups (58 ∷ 58 ∷ back) h ∙ ap (λ (w : List ℕ). Some (w, back)) (append-nil (joined 58 words))
