-- The certificate that is read of a text is spelled so, and a certificate that is spelled is read.
use Rattle.std.proofs.Common.{◌≡◌, ℕ, suc, ◌+◌, ◌<◌, ◌≤◌, Bool, true, false, ◌&&◌, cond, leb, List, [], ◌∷◌, ◌++◌}
use Rattle.std.proofs.Common.{length, Option, Some, Result, Ok, Err, refl, sym, ap, subst, ◌∙◌, append_assoc}
use Rattle.std.proofs.Common.{append-nil, arith}
use Rattle.std.specs.Prelude.{map, IfOk}
use Rattle.std.specs.Str.{bytes_eq}
use Rattle.std.specs.List.{flat_map, AllByRecursion}
use Rattle.std.proofs.lemmas.Bool.{leb-true, le-leb}
use Rattle.std.proofs.lemmas.Slice.Eq.{bytes_eq-Decides}
use Rattle.std.proofs.lemmas.List.{length-append, length-map}
use Rattle.std.proofs.lemmas.List.Concat.{flat_map-cons}
use Rattle.text_fields.specs.Cuts.{joined, split, Lacks, AllLack}
use Rattle.text_fields.proofs.CutLaws.{joined-split, joined-ended, split-ended}
use Rattle.causal_order.specs.declared.certificate.Certificate.{Certificate}
use Rattle.causal_order.specs.declared.certificate.Piece.{Piece}
use Rattle.causal_order.specs.declared.certificate.Foreign.{Foreign}
use Rattle.causal_order.specs.declared.fault.CertificateFault.{CertificateFault}
use Rattle.causal_order.specs.declared.fault.CertificateFault.TheVariants.{Head, Form}
use Rattle.certificate.specs.declared.error.CertificateError.{CertificateError}
use Rattle.certificate.specs.Spelling.{head_text, end_text, holder_words, prefix_words, interval_words, piece_words}
use Rattle.certificate.specs.Spelling.{clear_words, foreign_words, line_text, opening_lines, piece_lines, lines_of}
use Rattle.certificate.specs.Spelling.{certificate_lines, certificate_text, IsClear, IsPiece, IsForeign, IsClaim}
use Rattle.certificate.specs.Spelling.{IsWritten}
use Rattle.certificate.specs.Lines.{holder_in, prefix_in, interval_in, with_line}
use Rattle.text_fields.specs.Parsing.{◌>>!◌, Gives}
use Rattle.certificate.specs.Faults.{or_form, line_before, head_at, value_at, ended_by, claim_on, opening_at}
use Rattle.certificate.specs.Faults.{certificate_in, certificate_of, fault_of, opened}
use Rattle.certificate.proofs.FaultSteps.{done, ok_is, bind_ok, form_ok}
use Rattle.certificate.proofs.LineLaws.{holder_takes, holder_again, prefix_takes, prefix_again, interval_takes}
use Rattle.certificate.proofs.LineLaws.{interval_again}
use Rattle.certificate.proofs.Plain.{all_append, lacks_test, IsPlainLine, line_lacks, line_words, holder_plain}
use Rattle.certificate.proofs.Plain.{prefix_plain_line, interval_plain, piece_plain, clear_plain, foreign_plain}
use Rattle.certificate.proofs.Adding.{clear_line, foreign_line, bare, adds_line, piece_added, clear_added}
use Rattle.certificate.proofs.Adding.{foreign_added}
use Rattle.certificate.proofs.Clearing.{clearing}
use Rattle.causal_order.specs.declared.certificate.Clear.{Clear}

-- ---- lines

fits_takes : (a b : Bool) (number : ℕ) (line w : List ℕ) → cond (a && b) (Ok line) (Err (Form number)) ≡ Ok w
    → (a ≡ true) × (line ≡ w)
fits_takes true true number line w e = (refl, cc)
fits_takes true false number line w e = absurd cc
fits_takes false b number line w e = absurd cc

before_takes : (number : ℕ) (line : List ℕ) (left : List (List ℕ)) (w : List ℕ) → line_before number line left ≡ Ok w
    → (line ≡ w) × (number ≤ 65536)
before_takes number line (next ∷ left) w e =
    let t = fits_takes (leb number 65536) (leb (length line) 32767) number line w e in
    (t.1, leb-true number 65536 t.0)
before_takes number [] [] w e = absurd cc
before_takes number (b ∷ line) [] w e = absurd cc

before_again : (number : ℕ) (line : List ℕ) (left : List (List ℕ)) → number ≤ 65536 → length line ≤ 32767
    → 0 < length left → line_before number line left ≡ Ok line
before_again number line [] few short some = absurd (omega arith)
before_again number line (next ∷ left) few short some =
    rw (le-leb number 65536 few, le-leb (length line) 32767 short) refl

-- a text is the line of its words
words_line : (line : List ℕ) (words : List (List ℕ)) → split 32 line ≡ words → line ≡ line_text words
words_line line words e = sym (joined-split 32 line) ∙ ap (joined 32) e

-- a line by whose words a value was read
value_takes : {A : Type 0} (read : List (List ℕ) → Option A) (number : ℕ) (lines : List (List ℕ)) (x : A)
    (left : List (List ℕ)) → value_at read number lines ≡ Ok (x, left)
    → (line : List ℕ) × (lines ≡ line ∷ left) × (read (split 32 line) ≡ Some x)
value_takes read number [] x left e = absurd cc
value_takes {A = A} read number (line ∷ rest) x left e =
    let l = bind_ok (line_before number line rest >>! λ w. Ok (w, rest))
    (λ l. or_form number (read (split 32 l.0)) >>! λ y. Ok (y, l.1)) (x, left) e in
    let w = bind_ok (line_before number line rest) (λ w. Ok (w, rest)) l.0 l.1 in
    let v = bind_ok (or_form number (read (split 32 l.0.0))) (λ y. Ok (y, l.0.1)) (x, left) l.2 in
    let same : line ≡ l.0.0 = (before_takes number line rest w.0 w.1).0
    ∙ ap (λ (p : List ℕ × List (List ℕ)). p.0) (ok_is (w.0, rest) l.0 w.2) in
    let rest_is : rest ≡ left = ap (λ (p : List ℕ × List (List ℕ)). p.1) (ok_is (w.0, rest) l.0 w.2)
    ∙ ap (λ (p : A × List (List ℕ)). p.1) (ok_is (v.0, l.0.1) (x, left) v.2) in
    let value : v.0 ≡ x = ap (λ (p : A × List (List ℕ)). p.0) (ok_is (v.0, l.0.1) (x, left) v.2) in (
      line,
      ap (λ (ls : List (List ℕ)). line ∷ ls) rest_is,
      ap (λ (t : List ℕ). read (split 32 t)) same
          ∙ (form_ok number (read (split 32 l.0.0)) v.0 v.1 ∙ ap (λ (y : A). Some y) value),
    )

value_again : {A : Type 0} (read : List (List ℕ) → Option A) (number : ℕ) (words left : List (List ℕ)) (x : A)
    → number ≤ 65536 → IsPlainLine words → read words ≡ Some x → 0 < length left
    → value_at read number (line_text words ∷ left) ≡ Ok (x, left)
value_again read number words left x few plain e some =
    rw (before_again number (line_text words) left few plain.short some, line_words words plain, e) refl

-- ---- the lines behind the interval

ended_takes : (c d : Certificate) (left : List (List ℕ)) → ended_by c left ≡ Ok d → (left ≡ [] ∷ []) × (c ≡ d)
ended_takes c d [] e = absurd cc
ended_takes c d ([] ∷ []) e = (refl, cc)
ended_takes c d ([] ∷ next ∷ left) e = absurd cc
ended_takes c d ((b ∷ line) ∷ left) e = absurd cc

-- what reading the lines from here on makes known: all lines together are those of the certificate, and an empty piece
abbrev Completes : List (List ℕ) → Type 0
Completes left = (number : ℕ) (c d : Certificate) (all : List (List ℕ)) → number ≡ suc (length (lines_of c))
    → IsClaim c → all ≡ lines_of c ++ left → claim_on number c left ≡ Ok d
    → IsWritten d × (all ≡ certificate_lines d ++ [] ∷ [])

claim_step : (line : List ℕ) (left : List (List ℕ)) (number : ℕ) (c d : Certificate) (all : List (List ℕ)) (end : Bool)
    → Completes left → number ≡ suc (length (lines_of c)) → number ≤ 65536 → IsClaim c
    → all ≡ lines_of c ++ line ∷ left → bytes_eq line end_text ≡ end
    → cond end (ended_by c left) (or_form number (with_line c (split 32 line)) >>! λ more.
    claim_on (suc number) more left) ≡ Ok d → IsWritten d × (all ≡ certificate_lines d ++ [] ∷ [])
claim_step line left number c d all true later n few h whole p e =
    let t = ended_takes c d left e in
    let is : line ≡ end_text = (bytes_eq-Decides line end_text).0 p in
    let lines : all ≡ certificate_lines c ++ [] ∷ [] =
    whole ∙ (ap (λ (l : List ℕ). lines_of c ++ l ∷ left) is
    ∙ (ap (λ (ls : List (List ℕ)). lines_of c ++ end_text ∷ ls) t.0
    ∙ sym (append_assoc (lines_of c) (end_text ∷ []) ([] ∷ [])))) in
    subst (λ (x : Certificate). IsWritten x × (all ≡ certificate_lines x ++ [] ∷ [])) t.1
    (record { claim = h; lines = omega (arith, length-append (lines_of c) (end_text ∷ [])) }, lines)
claim_step line left number c d all false later n few h whole p e =
    let f = bind_ok (or_form number (with_line c (split 32 line))) (λ more. claim_on (suc number) more left) d e in
    let a = adds_line c (split 32 line) f.0 h (form_ok number (with_line c (split 32 line)) f.0 f.1) in
    let lines : lines_of f.0 ≡ lines_of c ++ line ∷ [] = a.lines
    ∙ ap (λ (l : List ℕ). lines_of c ++ l ∷ []) (joined-split 32 line) in
    let count : suc number ≡ suc (length (lines_of f.0)) =
    omega (arith, ap length lines, length-append (lines_of c) (line ∷ [])) in
    let on : all ≡ lines_of f.0 ++ left = whole
    ∙ (sym (append_assoc (lines_of c) (line ∷ []) left) ∙ ap (λ (ls : List (List ℕ)). ls ++ left) (sym lines)) in
    later (suc number) f.0 d all count a.claim on f.2

claim_takes : (left : List (List ℕ)) → Completes left
unfolding claim_on
claim_takes [] number c d all n h whole e = absurd cc
claim_takes (line ∷ left) number c d all n h whole e =
    let w = bind_ok (line_before number line left)
    (λ w. cond (bytes_eq w end_text) (ended_by c left) (or_form number (with_line c (split 32 w)) >>! λ more.
    claim_on (suc number) more left)) d e in
    let b = before_takes number line left w.0 w.1 in
    let f = sym b.0 in
    let on = subst (λ (l : List ℕ). cond (bytes_eq l end_text) (ended_by c left)
    (or_form number (with_line c (split 32 l)) >>! λ more. claim_on (suc number) more left) ≡ Ok d) f w.2 in
    claim_step line left number c d all (bytes_eq line end_text) (claim_takes left) n b.1 h whole refl on

-- ---- the whole text

head_takes : (lines left : List (List ℕ)) → head_at lines ≡ Ok left → lines ≡ head_text ∷ left
head_takes [] left e = absurd cc
head_takes (line ∷ []) left e = absurd cc
head_takes (line ∷ next ∷ rest) left e = by (bytes_eq line head_text) refl e
  where
    by : (b : Bool) → bytes_eq line head_text ≡ b → cond b (Ok (next ∷ rest)) (Err Head) ≡ Ok left
        → line ∷ next ∷ rest ≡ head_text ∷ left
    by true p e = ap (λ (l : List ℕ). l ∷ next ∷ rest) ((bytes_eq-Decides line head_text).0 p)
        ∙ ap (λ (ls : List (List ℕ)). head_text ∷ ls) (ok_is (next ∷ rest) left e)
    by false p e = absurd cc

behind : (line : List ℕ) (a b : List (List ℕ)) → a ≡ b → line ∷ a ≡ line ∷ b
behind line a b e = ap (λ (ls : List (List ℕ)). line ∷ ls) e

first : (l m : List ℕ) (a b : List (List ℕ)) → l ≡ m → a ≡ b → l ∷ a ≡ m ∷ b
first l m a b e f = ap (λ (x : List ℕ). x ∷ a) e ∙ behind m a b f

-- what the first four lines made known
record Opens (lines : List (List ℕ)) (c : Certificate) (left : List (List ℕ)) : Type 0 where
  claim : IsClaim c
  count : length (lines_of c) ≡ 4
  whole : lines ≡ lines_of c ++ left

opening_takes : (lines : List (List ℕ)) (c : Certificate) (left : List (List ℕ)) → opening_at lines ≡ Ok (c, left)
    → Opens lines c left
unfolding opening_at
opening_takes lines c left e =
    let a = bind_ok (head_at lines) (λ left. value_at holder_in 2 left >>! λ h. value_at prefix_in 3 h.1 >>! λ p.
    value_at interval_in 4 p.1 >>! λ i. done (opened h.0 p.0 i.0, i.1)) (c, left) e in
    let h = bind_ok (value_at holder_in 2 a.0) (λ h. value_at prefix_in 3 h.1 >>! λ p.
    value_at interval_in 4 p.1 >>! λ i. done (opened h.0 p.0 i.0, i.1)) (c, left) a.2 in
    let p = bind_ok (value_at prefix_in 3 h.0.1) (λ p. value_at interval_in 4 p.1 >>! λ i.
    done (opened h.0.0 p.0 i.0, i.1)) (c, left) h.2 in
    let i = bind_ok (value_at interval_in 4 p.0.1) (λ i. done (opened h.0.0 p.0.0 i.0, i.1)) (c, left) p.2 in
    let hl = value_takes holder_in 2 a.0 h.0.0 h.0.1 h.1 in
    let pl = value_takes prefix_in 3 h.0.1 p.0.0 p.0.1 p.1 in
    let il = value_takes interval_in 4 p.0.1 i.0.0 i.0.1 i.1 in
    let holder = holder_takes (split 32 hl.0) h.0.0 hl.2 in
    let prefix = prefix_takes (split 32 pl.0) p.0.0 pl.2 in
    let interval = interval_takes (split 32 il.0) i.0.0 il.2 in
    let opening : Opens lines (opened h.0.0 p.0.0 i.0.0) i.0.1 = record {
      claim = record {
        holder = holder.1;
        prefix = prefix.1;
        from = interval.1;
        to = interval.2;
        pieces = tt;
        foreign =
            tt;
      };
      count = refl;
      whole = head_takes lines a.0 a.1 ∙ behind head_text _ _ (hl.1 ∙ first _ _ _ _ (words_line hl.0 _ holder.0)
          (pl.1 ∙ first _ _ _ _ (words_line pl.0 _ prefix.0) (il.1
          ∙ first _ _ _ _ (words_line il.0 _ interval.0) refl)));
    } in
    subst (λ (x : Certificate × List (List ℕ)). Opens lines x.0 x.1)
    (ok_is (opened h.0.0 p.0.0 i.0.0, i.0.1) (c, left) i.2) opening

certificate_takes : (lines : List (List ℕ)) (c : Certificate) → certificate_in lines ≡ Ok c
    → IsWritten c × (lines ≡ certificate_lines c ++ [] ∷ [])
certificate_takes lines c e =
    let o = bind_ok (opening_at lines) (λ o. claim_on 5 o.0 o.1) c e in
    let t = opening_takes lines o.0.0 o.0.1 o.1 in
    claim_takes o.0.1 5 o.0.0 c lines (omega (arith, t.count)) t.claim t.whole o.2

pub text_takes : (text : List ℕ) (c : Certificate) → certificate_of text ≡ Ok c
    → IsWritten c × (text ≡ certificate_text c)
text_takes text c e =
    let t = certificate_takes (split 10 text) c e in
    (t.0, sym (joined-split 10 text) ∙ (ap (joined 10) t.1 ∙ joined-ended 10 (certificate_lines c)))

-- ---- what is spelled

end_again : (number : ℕ) (c : Certificate) → number ≤ 65536 → claim_on number c (end_text ∷ [] ∷ []) ≡ Ok c
unfolding claim_on
end_again number c few = rw (before_again number end_text ([] ∷ []) few (omega arith) (omega arith)) refl

-- one more line, where others stand behind it
line_again : (number : ℕ) (c more : Certificate) (words left : List (List ℕ)) → number ≤ 65536 → IsPlainLine words
    → bytes_eq (line_text words) end_text ≡ false → with_line c words ≡ Some more → 0 < length left
    → claim_on number c (line_text words ∷ left) ≡ claim_on (suc number) more left
unfolding claim_on
line_again number c more words left few plain other adds some =
    rw (before_again number (line_text words) left few plain.short some, other, line_words words plain, adds) refl

some_left : (lines : List (List ℕ)) → 0 < length (lines ++ end_text ∷ [] ∷ [])
some_left lines = omega (arith, length-append lines (end_text ∷ [] ∷ []))

foreign_again : (fs : List Foreign) (number : ℕ) (c : Certificate) → AllByRecursion IsForeign fs
    → number + length fs ≤ 65536 → claim_on number c (map foreign_line fs ++ end_text ∷ [] ∷ [])
    ≡ Ok (record c { foreign = c.foreign ++ fs })
foreign_again [] number c h few = end_again number c (omega arith)
    ∙ ap (λ (fs : List Foreign). Ok (record c { foreign = fs })) (sym (append-nil c.foreign))
foreign_again (f ∷ fs) number c h few =
    let later : List (List ℕ) = map foreign_line fs in
    line_again number c (record c { foreign = c.foreign ++ f ∷ [] }) (foreign_words f) (later ++ end_text ∷ [] ∷ [])
    (omega arith) (foreign_plain f h.0) refl (foreign_added c f h.0) (some_left later)
    ∙ (foreign_again fs (suc number) (record c { foreign = c.foreign ++ f ∷ [] }) h.1 (omega arith)
    ∙ ap (λ (gs : List Foreign). Ok (record c { foreign = gs })) (append_assoc c.foreign (f ∷ []) fs))

some_behind : (lines left : List (List ℕ)) → 0 < length left → 0 < length (lines ++ left)
some_behind lines left some = omega (arith, length-append lines left)

-- releases behind their piece, where other lines stand behind them
clears_again : (cs : List Clear) (number later : ℕ) (c : Certificate) (front : List Piece) (p : Piece)
    (left : List (List ℕ)) → c.foreign ≡ [] → c.pieces ≡ front ++ p ∷ [] → AllByRecursion IsClear cs
    → later ≡ number + length cs → later ≤ 65536 → 0 < length left
    → claim_on number c (map clear_line cs ++ left) ≡ claim_on later
    (record c { pieces = front ++ record p { clear = p.clear ++ cs } ∷ [] }) left
clears_again [] number later c front p left none are h count few some =
    let whole : front ++ record p { clear = p.clear ++ [] } ∷ [] ≡ c.pieces =
    ap (λ (cs : List Clear). front ++ record p { clear = cs } ∷ []) (append-nil p.clear) ∙ sym are in
    let same : number ≡ later = omega arith in
    ap (λ (n : ℕ). claim_on n c left) same ∙ ap (λ (ps : List Piece). claim_on later (record c { pieces = ps }) left)
    (sym whole)
clears_again (x ∷ cs) number later c front p left none are h count few some =
    let more : Certificate = record c { pieces = front ++ clearing p x ∷ [] } in
    line_again number c more (clear_words x) (map clear_line cs ++ left) (omega arith) (clear_plain x h.0) refl
    (clear_added c front p x none are h.0) (some_behind (map clear_line cs) left some)
    ∙ (clears_again cs (suc number) later more front (clearing p x) left none refl h.1 (omega arith) few some
    ∙ ap (λ (cs : List Clear). claim_on later (record c { pieces = front ++ record p { clear = cs } ∷ [] }) left)
    (append_assoc p.clear (x ∷ []) cs))

-- a piece and its releases
piece_again : (p : Piece) (number later : ℕ) (c : Certificate) (left : List (List ℕ)) → c.foreign ≡ [] → IsPiece p
    → later ≡ number + length (piece_lines p) → later ≤ 65536 → 0 < length left
    → claim_on number c (piece_lines p ++ left) ≡ claim_on later (record c { pieces = c.pieces ++ p ∷ [] }) left
piece_again p number later c left none h count few some =
    let more : Certificate = record c { pieces = c.pieces ++ bare p ∷ [] } in
    let clears : length (piece_lines p) ≡ suc (length p.clear) = omega (arith, length-map p.clear clear_line) in
    line_again number c more (piece_words p) (map clear_line p.clear ++ left) (omega arith) (piece_plain p h) refl
    (piece_added c p none h) (some_behind (map clear_line p.clear) left some)
    ∙ clears_again p.clear (suc number) later more c.pieces (bare p) left none refl h.clear (omega arith) few some

pieces_again : (ps : List Piece) (number later : ℕ) (c : Certificate) (left : List (List ℕ)) → c.foreign ≡ []
    → AllByRecursion IsPiece ps → later ≡ number + length (flat_map piece_lines ps) → later ≤ 65536 → 0 < length left
    → claim_on number c (flat_map piece_lines ps ++ left) ≡ claim_on later (record c { pieces = c.pieces ++ ps }) left
pieces_again [] number later c left none h count few some =
    let same : number ≡ later = omega arith in
    ap (λ (n : ℕ). claim_on n c left) same ∙ ap (λ (ps : List Piece). claim_on later (record c { pieces = ps }) left)
    (sym (append-nil c.pieces))
pieces_again (p ∷ ps) number later c left none h count few some =
    let more : Certificate = record c { pieces = c.pieces ++ p ∷ [] } in
    let cut : flat_map piece_lines (p ∷ ps) ≡ piece_lines p ++ flat_map piece_lines ps =
    flat_map-cons piece_lines p ps in
    let lines : length (flat_map piece_lines (p ∷ ps)) ≡ length (piece_lines p) + length (flat_map piece_lines ps) =
    ap length cut ∙ length-append (piece_lines p) (flat_map piece_lines ps) in
    let next : ℕ = number + length (piece_lines p) in
    let first_is : claim_on number c (piece_lines p ++ (flat_map piece_lines ps ++ left))
    ≡ claim_on next more (flat_map piece_lines ps ++ left) =
    piece_again p number next c (flat_map piece_lines ps ++ left) none h.0 refl (omega (arith, lines))
    (some_behind (flat_map piece_lines ps) left some) in
    let later_is : claim_on next more (flat_map piece_lines ps ++ left)
    ≡ claim_on later (record c { pieces = (c.pieces ++ p ∷ []) ++ ps }) left =
    pieces_again ps next later more left none h.1 (omega (arith, lines)) few some in
    ap (λ (ls : List (List ℕ)). claim_on number c (ls ++ left)) cut
    ∙ (ap (claim_on number c) (append_assoc (piece_lines p) (flat_map piece_lines ps) left)
    ∙ (first_is ∙ (later_is ∙ ap (λ (qs : List Piece). claim_on later (record c { pieces = qs }) left)
    (append_assoc c.pieces (p ∷ []) ps))))

-- no line of a certificate has a line feed
foreign_lack : (fs : List Foreign) → AllByRecursion IsForeign fs → AllLack 10 (map foreign_line fs)
foreign_lack [] h = tt
foreign_lack (f ∷ fs) h = (line_lacks (foreign_words f) (foreign_plain f h.0), foreign_lack fs h.1)

clears_lack : (cs : List Clear) → AllByRecursion IsClear cs → AllLack 10 (map clear_line cs)
clears_lack [] h = tt
clears_lack (x ∷ cs) h = (line_lacks (clear_words x) (clear_plain x h.0), clears_lack cs h.1)

pieces_lack : (ps : List Piece) → AllByRecursion IsPiece ps → AllLack 10 (flat_map piece_lines ps)
pieces_lack [] h = tt
pieces_lack (p ∷ ps) h =
    subst (AllLack 10) (sym (flat_map-cons piece_lines p ps))
    (all_append (Lacks 10) (piece_lines p) (flat_map piece_lines ps)
    (line_lacks (piece_words p) (piece_plain p h.0), clears_lack p.clear h.0.clear) (pieces_lack ps h.1))

lines_lack : (c : Certificate) → IsClaim c → AllLack 10 (certificate_lines c)
lines_lack c h =
    let opening : AllLack 10 (opening_lines c) = (
      lacks_test 10 head_text refl,
      (
        line_lacks (holder_words c.holder) (holder_plain c.holder h.holder),
        (
          line_lacks (prefix_words c.prefix) (prefix_plain_line c.prefix h.prefix),
          (line_lacks (interval_words c.from c.to) (interval_plain c.from c.to h.from h.to), tt),
        ),
      ),
    ) in
    let others : AllLack 10 (flat_map piece_lines c.pieces ++ map foreign_line c.foreign) =
    all_append (Lacks 10) (flat_map piece_lines c.pieces) (map foreign_line c.foreign) (pieces_lack c.pieces h.pieces)
    (foreign_lack c.foreign h.foreign) in
    all_append (Lacks 10) (lines_of c) (end_text ∷ [])
    (all_append (Lacks 10) (opening_lines c) (flat_map piece_lines c.pieces
    ++ map foreign_line c.foreign) opening others) (lacks_test 10 end_text refl, tt)

opening_again : (c : Certificate) (left : List (List ℕ)) → IsClaim c → 0 < length left
    → opening_at (opening_lines c ++ left) ≡ Ok (opened c.holder c.prefix (c.from, c.to), left)
unfolding opening_at
opening_again c left h some =
    let holder = value_again holder_in 2 (holder_words c.holder)
    (line_text (prefix_words c.prefix) ∷ line_text (interval_words c.from c.to) ∷ left) c.holder (omega arith)
    (holder_plain c.holder h.holder) (holder_again c.holder h.holder) (omega arith) in
    let prefix = value_again prefix_in 3 (prefix_words c.prefix)
    (line_text (interval_words c.from c.to) ∷ left) c.prefix (omega arith) (prefix_plain_line c.prefix h.prefix)
    (prefix_again c.prefix h.prefix) (omega arith) in
    let interval = value_again interval_in 4 (interval_words c.from c.to) left (c.from, c.to) (omega arith)
    (interval_plain c.from c.to h.from h.to) (interval_again c.from c.to h.from h.to) some in
    rw (holder, prefix, interval) refl

certificate_again : (c : Certificate) → IsWritten c → certificate_in (certificate_lines c ++ [] ∷ []) ≡ Ok c
certificate_again c h =
    let pieces : List (List ℕ) = flat_map piece_lines c.pieces in
    let foreign : List (List ℕ) = map foreign_line c.foreign in
    let left : List (List ℕ) = ((pieces ++ foreign) ++ end_text ∷ []) ++ [] ∷ [] in
    let regrouped : left ≡ pieces ++ (foreign ++ end_text ∷ [] ∷ []) =
    append_assoc (pieces ++ foreign) (end_text ∷ []) ([] ∷ []) ∙ append_assoc pieces foreign (end_text ∷ [] ∷ []) in
    let some : 0 < length left = omega (arith, length-append ((pieces ++ foreign) ++ end_text ∷ []) ([] ∷ [])) in
    let count : 5 + length pieces + length c.foreign ≤ 65536 =
    omega (
      arith,
      h.lines,
      length-append (lines_of c) (end_text ∷ []),
      length-append pieces foreign,
      length-map c.foreign foreign_line,
    ) in
    let start : Certificate = opened c.holder c.prefix (c.from, c.to) in
    let next : ℕ = 5 + length pieces in
    let read_pieces : claim_on 5 start (pieces ++ (foreign ++ end_text ∷ [] ∷ []))
    ≡ claim_on next (record start { pieces = c.pieces }) (foreign ++ end_text ∷ [] ∷ []) =
    pieces_again c.pieces 5 next start (foreign ++ end_text ∷ [] ∷ []) refl h.claim.pieces refl (omega (arith, count))
    (some_left foreign) in
    let read_foreign : claim_on next (record start { pieces = c.pieces }) (foreign ++ end_text ∷ [] ∷ []) ≡ Ok c =
    foreign_again c.foreign next (record start { pieces = c.pieces }) h.claim.foreign (omega (arith, count)) in
    rw (opening_again c left h.claim some) (ap (λ (ls : List (List ℕ)). claim_on 5 start ls) regrouped
    ∙ (read_pieces ∙ read_foreign))

pub text_again : (c : Certificate) → IsWritten c → certificate_of (certificate_text c) ≡ Ok c
text_again c h = ap certificate_in (split-ended 10 (certificate_lines c) (lines_lack c h.claim)) ∙ certificate_again c h

-- what the reader promises follows from what its answer is
pub is_found : (text : List ℕ) (r : Result Certificate CertificateError)
    → Gives fault_of (λ c. c) r (certificate_of text) → IfOk r (λ c. IsWritten c × (text ≡ certificate_text c))
is_found text (Ok c) given = text_takes text c given
is_found text (Err e) given = tt

pub is_only : (text : List ℕ) (r : Result Certificate CertificateError)
    → Gives fault_of (λ c. c) r (certificate_of text) → (c : Certificate) → IsWritten c → text ≡ certificate_text c
    → Gives fault_of (λ c. c) r (Ok c)
is_only text r given c h e = subst (λ (x : Result Certificate CertificateFault). Gives fault_of (λ c. c) r x)
    (ap certificate_of e ∙ text_again c h) given
