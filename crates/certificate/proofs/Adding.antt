-- What a line adds to a certificate, and to its lines.
use Rattle.std.proofs.Common.{◌≡◌, ℕ, Bool, true, false, cond, eqb, List, [], ◌∷◌, ◌++◌, length, Some, None, refl, sym}
use Rattle.std.proofs.Common.{ap, subst, ◌∙◌, append_assoc, append-nil, arith}
use Rattle.std.specs.Prelude.{codes, map, option_map}
use Rattle.std.specs.Str.{bytes_eq}
use Rattle.std.specs.List.{flat_map, AllByRecursion}
use Rattle.std.proofs.lemmas.Bool.{eqb-true, eq-eqb}
use Rattle.std.proofs.lemmas.Slice.Eq.{bytes_eq-Decides}
use Rattle.std.proofs.lemmas.List.{map-append}
use Rattle.std.proofs.lemmas.Grind.{flat_map-append}
use Rattle.std.proofs.lemmas.List.Concat.{flat_map-cons}
use Rattle.text_fields.specs.Parsing.{◌>>=◌}
use Rattle.text_fields.proofs.Steps.{bind_some, map_some, chosen}
use Rattle.causal_order.specs.declared.certificate.Certificate.{Certificate}
use Rattle.causal_order.specs.declared.certificate.Clear.{Clear}
use Rattle.causal_order.specs.declared.certificate.Piece.{Piece}
use Rattle.causal_order.specs.declared.certificate.Foreign.{Foreign}
use Rattle.certificate.specs.Spelling.{clear_words, piece_words, foreign_words, line_text, opening_lines, piece_lines}
use Rattle.certificate.specs.Spelling.{lines_of, IsClear, IsPiece, IsForeign, IsClaim}
use Rattle.certificate.specs.Lines.{piece_in, clear_in, foreign_in, with_piece, with_cleared, with_clear, with_foreign}
use Rattle.certificate.specs.Lines.{with_words, with_line}
use Rattle.certificate.proofs.LineLaws.{piece_takes, piece_again, clear_takes, clear_again, foreign_takes}
use Rattle.certificate.proofs.LineLaws.{foreign_again}
use Rattle.certificate.proofs.Plain.{all_append}
use Rattle.certificate.proofs.Clearing.{clearing, cleared_last, cleared_takes}

nil_from_length : {X : Type 0} (xs : List X) → length xs ≡ 0 → xs ≡ []
nil_from_length [] e = refl
nil_from_length (x ∷ xs) e = absurd (omega arith)

-- ---- the lines

abbrev pub clear_line : Clear → List ℕ
clear_line c = line_text (clear_words c)

abbrev pub foreign_line : Foreign → List ℕ
foreign_line f = line_text (foreign_words f)

-- one piece's lines behind the others'
last_piece : (ps : List Piece) (p : Piece) → flat_map piece_lines (ps ++ p ∷ []) ≡ flat_map piece_lines ps
    ++ piece_lines p
last_piece ps p = flat_map-append piece_lines ps (p ∷ [])
    ∙ ap (λ (ls : List (List ℕ)). flat_map piece_lines ps ++ ls) (flat_map-cons piece_lines p []
    ∙ append-nil (piece_lines p))

-- before all other clients' grants, a line that is added to the pieces' is added to all
added : (c : Certificate) (ps : List Piece) (line : List ℕ) → c.foreign ≡ []
    → flat_map piece_lines ps ≡ flat_map piece_lines c.pieces ++ line ∷ []
    → lines_of (record c { pieces = ps }) ≡ lines_of c ++ line ∷ []
added c ps line none pieces =
    let more : flat_map piece_lines ps ++ map foreign_line c.foreign
    ≡ (flat_map piece_lines c.pieces ++ map foreign_line c.foreign) ++ line ∷ [] =
    subst (λ (fs : List Foreign). flat_map piece_lines ps ++ map foreign_line fs
    ≡ (flat_map piece_lines c.pieces ++ map foreign_line fs) ++ line ∷ []) (sym none)
    (append-nil (flat_map piece_lines ps) ∙ (pieces
    ∙ ap (λ (ls : List (List ℕ)). ls ++ line ∷ []) (sym (append-nil (flat_map piece_lines c.pieces))))) in
    ap (λ (ls : List (List ℕ)). opening_lines c ++ ls) more

lines-piece : (c : Certificate) (p : Piece) → p.clear ≡ [] → c.foreign ≡ []
    → lines_of (record c { pieces = c.pieces ++ p ∷ [] }) ≡ lines_of c ++ line_text (piece_words p) ∷ []
lines-piece c p clear none =
    added c (c.pieces ++ p ∷ []) (line_text (piece_words p)) none
    (last_piece c.pieces p ∙ ap (λ (cs : List Clear). flat_map piece_lines c.pieces
    ++ line_text (piece_words p) ∷ map clear_line cs) clear)

lines-clear : (c : Certificate) (front : List Piece) (p : Piece) (clear : Clear) → c.pieces ≡ front ++ p ∷ []
    → c.foreign ≡ [] → lines_of (record c { pieces = front ++ clearing p clear ∷ [] }) ≡ lines_of c
    ++ line_text (clear_words clear) ∷ []
lines-clear c front p clear are none =
    let now : flat_map piece_lines c.pieces ≡ flat_map piece_lines front ++ piece_lines p =
    ap (flat_map piece_lines) are ∙ last_piece front p in
    let more : piece_lines (clearing p clear) ≡ piece_lines p ++ clear_line clear ∷ [] =
    ap (λ (ls : List (List ℕ)). line_text (piece_words p) ∷ ls) (map-append clear_line p.clear (clear ∷ [])) in
    added c (front ++ clearing p clear ∷ []) (clear_line clear) none
    (last_piece front (clearing p clear)
    ∙ (ap (λ (ls : List (List ℕ)). flat_map piece_lines front ++ ls) more
    ∙ (sym (append_assoc (flat_map piece_lines front) (piece_lines p) (clear_line clear ∷ []))
    ∙ ap (λ (ls : List (List ℕ)). ls ++ clear_line clear ∷ []) (sym now))))

lines-foreign : (c : Certificate) (f : Foreign) → lines_of (record c { foreign = c.foreign ++ f ∷ [] }) ≡ lines_of c
    ++ line_text (foreign_words f) ∷ []
lines-foreign c f =
    let more : flat_map piece_lines c.pieces ++ map foreign_line (c.foreign ++ f ∷ [])
    ≡ (flat_map piece_lines c.pieces ++ map foreign_line c.foreign) ++ line_text (foreign_words f) ∷ [] =
    ap (λ (ls : List (List ℕ)). flat_map piece_lines c.pieces ++ ls) (map-append foreign_line c.foreign (f ∷ []))
    ∙ sym (append_assoc (flat_map piece_lines c.pieces) _ _) in
    ap (λ (ls : List (List ℕ)). opening_lines c ++ ls) more

-- ---- what was read

-- a line's words added this to the certificate, and the line to its lines
pub record Adds (c : Certificate) (words : List (List ℕ)) (more : Certificate) : Type 0 where
  pub claim : IsClaim more
  pub lines : lines_of more ≡ lines_of c ++ line_text words ∷ []

with_pieces : (c : Certificate) (ps : List Piece) → IsClaim c → AllByRecursion IsPiece ps
    → IsClaim (record c { pieces = ps })
with_pieces c ps h pieces = record {
  holder = h.holder;
  prefix = h.prefix;
  from = h.from;
  to = h.to;
  pieces = pieces;
  foreign = h.foreign;
}

adds_piece : (c : Certificate) (words : List (List ℕ)) (more : Certificate) → IsClaim c
    → with_piece c words ≡ Some more → Adds c (codes "piece" ∷ words) more
unfolding with_piece
adds_piece c words more h e =
    let b = chosen (eqb (length c.foreign) 0)
    (option_map (λ p. record c { pieces = c.pieces ++ p ∷ [] }) (piece_in words)) more e in
    let m = map_some (piece_in words) (λ p. record c { pieces = c.pieces ++ p ∷ [] }) more b.1 in
    let p = piece_takes words m.0 m.1 in
    let none : c.foreign ≡ [] = nil_from_length c.foreign (eqb-true _ _ b.0) in
    subst (λ (d : Certificate). Adds c (codes "piece" ∷ words) d) m.2 (record {
      claim = with_pieces c (c.pieces ++ m.0 ∷ []) h (all_append IsPiece c.pieces (m.0 ∷ []) h.pieces (p.1, tt));
      lines = lines-piece c m.0 p.2 none ∙ ap (λ (ws : List (List ℕ)). lines_of c ++ line_text ws ∷ []) (sym p.0);
    })

pub all_front : {X : Type 0} (P : X → Type 0) (xs ys : List X) → AllByRecursion P (xs ++ ys) → AllByRecursion P xs
all_front P [] ys h = tt
all_front P (x ∷ xs) ys h = (h.0, all_front P xs ys h.1)

pub all_back : {X : Type 0} (P : X → Type 0) (xs ys : List X) → AllByRecursion P (xs ++ ys) → AllByRecursion P ys
all_back P [] ys h = h
all_back P (x ∷ xs) ys h = all_back P xs ys h.1

clearing_is : (p : Piece) (clear : Clear) → IsPiece p → IsClear clear → IsPiece (clearing p clear)
clearing_is p clear h k = record {
  grant = h.grant;
  from = h.from;
  to = h.to;
  latest = h.latest;
  earliest = h.earliest;
  clear = all_append IsClear p.clear (clear ∷ []) h.clear (k, tt);
}

adds_clear : (c : Certificate) (words : List (List ℕ)) (more : Certificate) → IsClaim c
    → with_clear c words ≡ Some more → Adds c (codes "clear" ∷ words) more
unfolding with_clear
adds_clear c words more h e =
    let b = chosen (eqb (length c.foreign) 0) (clear_in words >>= λ clear.
    option_map (λ ps. record c { pieces = ps }) (with_cleared c.pieces clear)) more e in
    let k = bind_some (clear_in words) (λ clear. option_map (λ ps. record c { pieces = ps })
    (with_cleared c.pieces clear)) more b.1 in
    let m = map_some (with_cleared c.pieces k.0) (λ ps. record c { pieces = ps }) more k.2 in
    let t = cleared_takes c.pieces m.0 k.0 m.1 in
    let x = clear_takes words k.0 k.1 in
    let none : c.foreign ≡ [] = nil_from_length c.foreign (eqb-true _ _ b.0) in
    let old : AllByRecursion IsPiece (t.0 ++ t.1 ∷ []) = subst (AllByRecursion IsPiece) t.2 h.pieces in
    let new : AllByRecursion IsPiece (t.0 ++ clearing t.1 k.0 ∷ []) =
    all_append IsPiece t.0 (clearing t.1 k.0 ∷ []) (all_front IsPiece t.0 (t.1 ∷ []) old)
    (clearing_is t.1 k.0 (all_back IsPiece t.0 (t.1 ∷ []) old).0 x.1, tt) in
    let made : Adds c (codes "clear" ∷ words) (record c { pieces = t.0 ++ clearing t.1 k.0 ∷ [] }) = record {
      claim = with_pieces c (t.0 ++ clearing t.1 k.0 ∷ []) h new;
      lines = lines-clear c t.0 t.1 k.0 t.2 none
          ∙ ap (λ (ws : List (List ℕ)). lines_of c ++ line_text ws ∷ []) (sym x.0);
    } in
    subst (λ (d : Certificate). Adds c (codes "clear" ∷ words) d)
    (ap (λ (ps : List Piece). record c { pieces = ps }) (sym t.3) ∙ m.2) made

adds_foreign : (c : Certificate) (words : List (List ℕ)) (more : Certificate) → IsClaim c
    → with_foreign c words ≡ Some more → Adds c (codes "foreign" ∷ words) more
unfolding with_foreign
adds_foreign c words more h e =
    let m = map_some (foreign_in words) (λ f. record c { foreign = c.foreign ++ f ∷ [] }) more e in
    let f = foreign_takes words m.0 m.1 in
    subst (λ (d : Certificate). Adds c (codes "foreign" ∷ words) d) m.2 (record {
      claim = record {
        holder = h.holder;
        prefix = h.prefix;
        from = h.from;
        to = h.to;
        pieces = h.pieces;
        foreign = all_append IsForeign c.foreign (m.0 ∷ []) h.foreign (f.1, tt);
      };
      lines = lines-foreign c m.0 ∙ ap (λ (ws : List (List ℕ)). lines_of c ++ line_text ws ∷ []) (sym f.0);
    })

adds_words : (c : Certificate) (word : List ℕ) (words : List (List ℕ)) (more : Certificate) → IsClaim c
    → with_words c word words ≡ Some more → Adds c (word ∷ words) more
unfolding with_words
adds_words c word words more h e = by (bytes_eq word (codes "piece")) (bytes_eq word (codes "clear"))
    (bytes_eq word (codes "foreign")) refl refl refl e
  where
    by : (a b d : Bool) → bytes_eq word (codes "piece") ≡ a → bytes_eq word (codes "clear") ≡ b
        → bytes_eq word (codes "foreign") ≡ d → cond a (with_piece c words)
        (cond b (with_clear c words) (cond d (with_foreign c words) None)) ≡ Some more → Adds c (word ∷ words) more
    by true b d p q r e = subst (λ (w : List ℕ). Adds c (w ∷ words) more)
        (sym ((bytes_eq-Decides word (codes "piece")).0 p)) (adds_piece c words more h e)
    by false true d p q r e = subst (λ (w : List ℕ). Adds c (w ∷ words) more)
        (sym ((bytes_eq-Decides word (codes "clear")).0 q)) (adds_clear c words more h e)
    by false false true p q r e = subst (λ (w : List ℕ). Adds c (w ∷ words) more)
        (sym ((bytes_eq-Decides word (codes "foreign")).0 r)) (adds_foreign c words more h e)
    by false false false p q r e = absurd cc

pub adds_line : (c : Certificate) (words : List (List ℕ)) (more : Certificate) → IsClaim c
    → with_line c words ≡ Some more → Adds c words more
adds_line c [] more h e = absurd cc
adds_line c (word ∷ words) more h e = adds_words c word words more h e

-- ---- what is read again

-- a piece before its releases
abbrev pub bare : Piece → Piece
bare p = record p { clear = [] }

pub piece_added : (c : Certificate) (p : Piece) → c.foreign ≡ [] → IsPiece p
    → with_line c (piece_words p) ≡ Some (record c { pieces = c.pieces ++ bare p ∷ [] })
unfolding with_words with_piece
piece_added c p none h = rw (eq-eqb (length c.foreign) 0 (ap length none), piece_again p h) refl

pub clear_added : (c : Certificate) (front : List Piece) (p : Piece) (clear : Clear) → c.foreign ≡ []
    → c.pieces ≡ front ++ p ∷ [] → IsClear clear → with_line c (clear_words clear)
    ≡ Some (record c { pieces = front ++ clearing p clear ∷ [] })
unfolding with_words with_clear
clear_added c front p clear none are h =
    rw (
      eq-eqb (length c.foreign) 0 (ap length none),
      clear_again clear h,
      ap (λ (ps : List Piece). with_cleared ps clear) are ∙ cleared_last front p clear,
    ) refl

pub foreign_added : (c : Certificate) (f : Foreign) → IsForeign f
    → with_line c (foreign_words f) ≡ Some (record c { foreign = c.foreign ++ f ∷ [] })
unfolding with_words with_foreign
foreign_added c f h = rw (foreign_again f h) refl
