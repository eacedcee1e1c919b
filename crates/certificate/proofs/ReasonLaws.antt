-- Orders and reasons that are read are spelled so, and those that are spelled so are read.
use Rattle.std.proofs.Common.{◌≡◌, ℕ, Bool, true, false, cond, List, [], ◌∷◌, ◌++◌, Option, Some, None, refl, sym, ap}
use Rattle.std.proofs.Common.{subst, ◌∙◌, append_assoc}
use Rattle.std.specs.Prelude.{option_map, codes}
use Rattle.std.specs.Str.{bytes_eq}
use Rattle.std.proofs.lemmas.Slice.Eq.{bytes_eq-Decides}
use Rattle.text_fields.specs.Parsing.{◌>>=◌}
use Rattle.text_fields.proofs.Steps.{bind_some, map_some, some_is}
use Rattle.causal_order.specs.declared.reference.Ref.{Ref}
use Rattle.causal_order.specs.declared.order.Precedes.{Precedes}
use Rattle.causal_order.specs.declared.order.Precedes.TheVariants.{Chain, Clock}
use Rattle.causal_order.specs.declared.certificate.ClearReason.{ClearReason}
use Rattle.causal_order.specs.declared.certificate.ClearReason.TheVariants.{Before, After}
use Rattle.causal_order.specs.declared.certificate.Reason.{Reason}
use Rattle.causal_order.specs.declared.certificate.Reason.TheVariants.{Early, Late, Released}
use Rattle.certificate.specs.Spelling.{ref_text, chain_text, order_words, why_words, latest_words, reason_words}
use Rattle.certificate.specs.Spelling.{IsChain, IsOrder, IsWhy, IsReason}
use Rattle.certificate.specs.Lines.{keyword_at, ref_at, chain_at, clock_at, order_by, order_at, why_by, why_at}
use Rattle.certificate.specs.Lines.{released_at, reason_by, reason_at}
use Rattle.certificate.proofs.WordLaws.{keyword_takes, keyword_again, ref_at_takes, ref_at_again, chain_at_takes}
use Rattle.certificate.proofs.WordLaws.{chain_at_again}

-- one word more in front
front : (word : List ℕ) (a b : List (List ℕ)) → a ≡ b → word ∷ a ≡ word ∷ b
front word a b e = ap (λ (ws : List (List ℕ)). word ∷ ws) e

-- what was read by its words: they are spelled so, and the value is in the format's ranges
abbrev Spells : {Y : Type 0} → (Y → List (List ℕ)) → (Y → Type 0) → List (List ℕ) → Y → List (List ℕ) → Type 0
Spells spell IsY words y rest = (words ≡ spell y ++ rest) × IsY y

-- a value that is made of another, by the keyword in front
mapped : {X Y : Type 0} (of_x : X → List (List ℕ)) (IsX : X → Type 0) (of_y : Y → List (List ℕ)) (IsY : Y
    → Type 0) (make : X → Y) (text : List ℕ) (found : Option (X × List (List ℕ))) (word : List ℕ)
    (words : List (List ℕ)) (y : Y) (rest : List (List ℕ))
    → ((x : X) (left : List (List ℕ)) → found ≡ Some (x, left) → (words ≡ of_x x ++ left) × IsX x)
    → ((x : X) → of_y (make x) ≡ text ∷ of_x x) → ((x : X) → IsX x → IsY (make x))
    → bytes_eq word text ≡ true → option_map {U = Y × List (List ℕ)} (λ x. (make x.0, x.1)) found ≡ Some (y, rest)
    → (word ∷ words ≡ of_y y ++ rest) × IsY y
mapped {X = X} {Y = Y} of_x IsX of_y IsY make text found word words y rest takes spelled valid same e =
    let m = map_some found (λ x. (make x.0, x.1)) (y, rest) e in
    let t = takes m.0.0 m.0.1 m.1 in
    let value : make m.0.0 ≡ y = ap (λ (p : Y × List (List ℕ)). p.0) m.2 in
    let left : m.0.1 ≡ rest = ap (λ (p : Y × List (List ℕ)). p.1) m.2 in
    let key : word ≡ text = (bytes_eq-Decides word text).0 same in
    let whole : word ∷ words ≡ of_y (make m.0.0) ++ rest =
    ap (λ (w : List ℕ). w ∷ words) key ∙ (front text _ _ (t.0 ∙ ap (λ (ws : List (List ℕ)). of_x m.0.0 ++ ws) left)
    ∙ ap (λ (ws : List (List ℕ)). ws ++ rest) (sym (spelled m.0.0))) in
    subst (λ (q : Y). (word ∷ words ≡ of_y q ++ rest) × IsY q) value (whole, valid m.0.0 t.1)

-- a chain's one word
abbrev chain_word : List Ref → List (List ℕ)
chain_word chain = chain_text chain ∷ []

-- the keyword itself in front
keyed : {A : Type 0} (make : List ℕ → A) (word text : List ℕ) → bytes_eq word text ≡ true → make text ≡ make word
keyed make word text same = ap make (sym ((bytes_eq-Decides word text).0 same))

-- ---- orders

clock_takes : (words : List (List ℕ)) (o : Precedes) (rest : List (List ℕ)) → clock_at words ≡ Some (o, rest)
    → (codes "clock" ∷ words ≡ order_words o ++ rest) × IsOrder o
unfolding clock_at
clock_takes words o rest e =
    let l = bind_some (chain_at words) (λ l. chain_at l.1 >>= λ k. Some (Clock l.0 k.0, k.1)) (o, rest) e in
    let k = bind_some (chain_at l.0.1) (λ k. Some (Clock l.0.0 k.0, k.1)) (o, rest) l.2 in
    let latest = chain_at_takes words l.0.0 l.0.1 l.1 in
    let earliest = chain_at_takes l.0.1 k.0.0 k.0.1 k.1 in
    subst (λ (x : Precedes × List (List ℕ)). (codes "clock" ∷ words ≡ order_words x.0 ++ x.1) × IsOrder x.0)
    (some_is (Clock l.0.0 k.0.0, k.0.1) (o, rest) k.2)
    (front (codes "clock") _ _ (latest.0 ∙ front (chain_text l.0.0) _ _ earliest.0), (latest.1, earliest.1))

pub order_takes : (words : List (List ℕ)) (o : Precedes) (rest : List (List ℕ)) → order_at words ≡ Some (o, rest)
    → (words ≡ order_words o ++ rest) × IsOrder o
unfolding order_by
order_takes [] o rest e = absurd cc
order_takes (word ∷ words) o rest e = by (bytes_eq word (codes "chain")) (bytes_eq word (codes "clock")) refl refl e
  where
    by : (a b : Bool) → bytes_eq word (codes "chain") ≡ a → bytes_eq word (codes "clock") ≡ b
        → cond a (option_map {U = Precedes × List (List ℕ)} (λ x. (Chain x.0, x.1)) (chain_at words))
        (cond b (clock_at words) None) ≡ Some (o, rest) → (word ∷ words ≡ order_words o ++ rest) × IsOrder o
    by true b p q e = mapped chain_word IsChain order_words IsOrder Chain (codes "chain")
        (chain_at words) word words o rest (chain_at_takes words) (λ chain. refl) (λ chain h. h) p e
    by false true p q e =
        let t = clock_takes words o rest e in
        (ap (λ (w : List ℕ). w ∷ words) ((bytes_eq-Decides word (codes "clock")).0 q) ∙ t.0, t.1)
    by false false p q e = absurd cc

pub order_again : (o : Precedes) (rest : List (List ℕ)) → IsOrder o → order_at (order_words o ++ rest) ≡ Some (o, rest)
unfolding order_by clock_at
order_again (Chain chain) rest h = rw (chain_at_again chain rest h) refl
order_again (Clock latest earliest) rest h =
    rw (chain_at_again latest (chain_text earliest ∷ rest) h.0, chain_at_again earliest rest h.1) refl

-- ---- releases that are cleared

pub why_takes : (words : List (List ℕ)) (w : ClearReason) (rest : List (List ℕ)) → why_at words ≡ Some (w, rest)
    → (words ≡ why_words w ++ rest) × IsWhy w
unfolding why_by
why_takes [] w rest e = absurd cc
why_takes (word ∷ words) w rest e = by (bytes_eq word (codes "before")) (bytes_eq word (codes "after")) refl refl e
  where
    by : (a b : Bool) → bytes_eq word (codes "before") ≡ a → bytes_eq word (codes "after") ≡ b
        → cond a (option_map {U = ClearReason × List (List ℕ)} (λ x. (Before x.0, x.1)) (order_at words))
        (cond b (option_map {U = ClearReason × List (List ℕ)} (λ x. (After x.0, x.1)) (chain_at words)) None)
        ≡ Some (w, rest) → (word ∷ words ≡ why_words w ++ rest) × IsWhy w
    by true b p q e = mapped order_words IsOrder why_words IsWhy Before (codes "before")
        (order_at words) word words w rest (order_takes words) (λ o. refl) (λ o h. h) p e
    by false true p q e = mapped chain_word IsChain why_words IsWhy After (codes "after")
        (chain_at words) word words w rest (chain_at_takes words) (λ chain. refl) (λ chain h. h) q e
    by false false p q e = absurd cc

pub why_again : (w : ClearReason) (rest : List (List ℕ)) → IsWhy w → why_at (why_words w ++ rest) ≡ Some (w, rest)
unfolding why_by
why_again (Before order) rest h = rw (order_again order rest h) refl
why_again (After chain) rest h = rw (chain_at_again chain rest h) refl

-- ---- other clients' grants

released_takes : (words : List (List ℕ)) (r : Reason) (rest : List (List ℕ)) → released_at words ≡ Some (r, rest)
    → (codes "released" ∷ words ≡ reason_words r ++ rest) × IsReason r
unfolding released_at
released_takes words r rest e =
    let g = bind_some (ref_at words) (λ g. order_at g.1 >>= λ o. keyword_at (codes "latest") o.1 >>= λ k. chain_at k.1
    >>= λ l. Some (Released g.0 o.0 l.0, l.1)) (r, rest) e in
    let o = bind_some (order_at g.0.1) (λ o. keyword_at (codes "latest") o.1 >>= λ k. chain_at k.1
    >>= λ l. Some (Released g.0.0 o.0 l.0, l.1)) (r, rest) g.2 in
    let k = bind_some (keyword_at (codes "latest") o.0.1) (λ k. chain_at k.1
    >>= λ l. Some (Released g.0.0 o.0.0 l.0, l.1)) (r, rest) o.2 in
    let l = bind_some (chain_at k.0.1) (λ l. Some (Released g.0.0 o.0.0 l.0, l.1)) (r, rest) k.2 in
    let release = ref_at_takes words g.0.0 g.0.1 g.1 in
    let order = order_takes g.0.1 o.0.0 o.0.1 o.1 in
    let latest = chain_at_takes k.0.1 l.0.0 l.0.1 l.1 in
    let tail : o.0.1 ≡ latest_words l.0.0 ++ l.0.1 = keyword_takes (codes "latest") o.0.1 k.0.0 k.0.1 k.1
    ∙ front (codes "latest") _ _ latest.0 in
    let words_are : g.0.1 ≡ (order_words o.0.0 ++ latest_words l.0.0) ++ l.0.1 =
    order.0 ∙ (ap (λ (ws : List (List ℕ)). order_words o.0.0 ++ ws) tail
    ∙ sym (append_assoc (order_words o.0.0) (latest_words l.0.0) l.0.1)) in
    subst (λ (x : Reason × List (List ℕ)). (codes "released" ∷ words ≡ reason_words x.0 ++ x.1) × IsReason x.0)
    (some_is (Released g.0.0 o.0.0 l.0.0, l.0.1) (r, rest) l.2)
    (front (codes "released") _ _ (release.0 ∙ front (ref_text g.0.0) _ _ words_are), (release.1, order.1, latest.1))

pub reason_takes : (words : List (List ℕ)) (r : Reason) (rest : List (List ℕ)) → reason_at words ≡ Some (r, rest)
    → (words ≡ reason_words r ++ rest) × IsReason r
unfolding reason_by
reason_takes [] r rest e = absurd cc
reason_takes (word ∷ words) r rest e = by (bytes_eq word (codes "early")) (bytes_eq word (codes "late"))
    (bytes_eq word (codes "released")) refl refl refl e
  where
    by : (a b d : Bool) → bytes_eq word (codes "early") ≡ a → bytes_eq word (codes "late") ≡ b
        → bytes_eq word (codes "released") ≡ d → cond a (option_map {U =
        Reason × List (List ℕ)} (λ x. (Early x.0, x.1)) (chain_at words))
        (cond b (option_map {U = Reason × List (List ℕ)} (λ x. (Late x.0, x.1)) (chain_at words))
        (cond d (released_at words) None)) ≡ Some (r, rest) → (word ∷ words ≡ reason_words r ++ rest)
        × IsReason r
    by true b d p q s e = mapped chain_word IsChain reason_words IsReason Early (codes "early")
        (chain_at words) word words r rest (chain_at_takes words) (λ chain. refl) (λ chain h. h) p e
    by false true d p q s e = mapped chain_word IsChain reason_words IsReason Late (codes "late")
        (chain_at words) word words r rest (chain_at_takes words) (λ chain. refl) (λ chain h. h) q e
    by false false true p q s e =
        let t = released_takes words r rest e in
        (ap (λ (w : List ℕ). w ∷ words) ((bytes_eq-Decides word (codes "released")).0 s) ∙ t.0, t.1)
    by false false false p q s e = absurd cc

released_again : (release : Ref) (order : Precedes) (latest : List Ref) (rest : List (List ℕ))
    → IsReason (Released release order latest)
    → released_at (ref_text release ∷ (order_words order ++ (latest_words latest ++ rest)))
    ≡ Some (Released release order latest, rest)
unfolding released_at
released_again release order latest rest h =
    rw (
      ref_at_again release (order_words order ++ (latest_words latest ++ rest)) h.0,
      order_again order (latest_words latest ++ rest) h.1,
      keyword_again (codes "latest") (chain_text latest ∷ rest),
      chain_at_again latest rest h.2,
    ) refl

pub reason_again : (r : Reason) (rest : List (List ℕ)) → IsReason r
    → reason_at (reason_words r ++ rest) ≡ Some (r, rest)
unfolding reason_by
reason_again (Early chain) rest h = rw (chain_at_again chain rest h) refl
reason_again (Late chain) rest h = rw (chain_at_again chain rest h) refl
reason_again (Released release order latest) rest h =
    ap (λ (ws : List (List ℕ)). released_at (ref_text release ∷ ws))
    (append_assoc (order_words order) (latest_words latest) rest) ∙ released_again release order latest rest h
