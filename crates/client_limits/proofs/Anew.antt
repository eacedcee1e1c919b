-- A map by octets, with one holder's units changed.
use Rattle.std.proofs.Common.{◌≡◌, ℕ, Bool, true, false, List, [], ◌∷◌, length, arith, Option, ap, sym, ◌∙◌, subst, refl}
use Rattle.std.specs.Prelude.{if◌then◌else◌}
use Rattle.std.specs.declared.cmp.Ordering.{Ordering}
use Rattle.std.specs.declared.alloc.Global.{Global}
use Rattle.std.specs.declared.vec.Vec.{Vec}
use Rattle.std.specs.Ordering.{nat_cmp, is_eq, eq_by_cmp}
use Rattle.std.specs.Str.{bytes_eq}
use Rattle.std.specs.Map.{KeepsOthers}
use Rattle.std.specs.BTreeMap.{BTreeMap, get_by, is_at}
use Rattle.std.specs.Cmp.Lexicographic.{slice_cmp}
use Rattle.std.proofs.lemmas.Map.Text.{is_eq-slice_cmp}
use Rattle.std.proofs.lemmas.Slice.Eq.{bytes_eq-Decides}
use Rattle.prefix_range.specs.Prefix.{Prefix}
use Rattle.client_limits.specs.Holders.{at_octets, listed, units_in}

abbrev pub by_items : Vec ℕ Global → Vec ℕ Global → Ordering
by_items x y = slice_cmp nat_cmp x.items y.items

same_items : (octets : List ℕ) (k : Vec ℕ Global) → is_at (at_octets octets) k ≡ true → octets ≡ k.items
same_items octets k e = (bytes_eq-Decides octets k.items).0 (sym (is_eq-slice_cmp octets k.items) ∙ e)

key_test : (octets : List ℕ) (x y : Vec ℕ Global) → is_at (at_octets octets) x ≡ true
    → is_at (at_octets octets) y ≡ eq_by_cmp by_items x y
key_test octets x y e =
    subst (λ (o : List ℕ). is_eq (slice_cmp nat_cmp o y.items) ≡ is_eq (slice_cmp nat_cmp x.items y.items))
    (sym (same_items octets x e)) refl

apart : (holder h : List ℕ) → bytes_eq holder h ≡ false → (k : Vec ℕ Global) → is_at (at_octets holder) k ≡ true
    → is_at (at_octets h) k ≡ false
apart holder h differ k e = by_test (is_at (at_octets h) k) refl where
  by_test : (t : Bool) → is_at (at_octets h) k ≡ t → t ≡ false
  by_test true f =
      let one = same_items holder k e in
      let other = same_items h k f in
      let yes = (bytes_eq-Decides holder h).1 (one ∙ sym other) in
      absurd (cc)
  by_test false f = refl

-- what is found for any octets
pub found_anew : {X : Type 0} (m n : BTreeMap (Vec ℕ Global) X) (key : List ℕ) (w : Option X)
    → get_by (at_octets key) n ≡ w → KeepsOthers (eq_by_cmp by_items) (is_at (at_octets key)) m.entries n.entries
    → (h : List ℕ) → get_by (at_octets h) n ≡ (if bytes_eq key h then w else get_by (at_octets h) m)
unfolding KeepsOthers
found_anew {X} m n key w is others h = by_test (bytes_eq key h) refl where
  by_test : (t : Bool) → bytes_eq key h ≡ t
      → get_by (at_octets h) n ≡ (if t then w else get_by (at_octets h) m)
  by_test true e = subst (λ (o : List ℕ). get_by (at_octets o) n ≡ w) ((bytes_eq-Decides key h).0 e) is
  by_test false e = others (is_at (at_octets h)) (key_test h) (apart key h e)

listed_if : (t : Bool) (w v : Option (Vec Prefix Global)) → listed (if t then w else v)
    ≡ (if t then listed w else listed v)
listed_if true w v = refl
listed_if false w v = refl

pub listed_anew : (m n : BTreeMap (Vec ℕ Global) (Vec Prefix Global)) (holder : List ℕ) (w : Option (Vec Prefix Global))
    → get_by (at_octets holder) n ≡ w
    → KeepsOthers (eq_by_cmp by_items) (is_at (at_octets holder)) m.entries n.entries
    → (h : List ℕ) → units_in n h ≡ (if bytes_eq holder h then listed w else units_in m h)
listed_anew m n holder w is others h =
    ap listed (found_anew m n holder w is others h) ∙ listed_if (bytes_eq holder h) w (get_by (at_octets h) m)

pub no_items : (ps : List Prefix) → length ps ≡ 0 → ps ≡ []
no_items [] e = refl
no_items (p ∷ ps) e = absurd (omega arith)

-- what is the same at the octets themselves is the same at all
pub listed_again : (m n : BTreeMap (Vec ℕ Global) (Vec Prefix Global)) (holder : List ℕ) (w : Option (Vec Prefix Global))
    → get_by (at_octets holder) n ≡ w
    → KeepsOthers (eq_by_cmp by_items) (is_at (at_octets holder)) m.entries n.entries
    → listed w ≡ units_in m holder → (h : List ℕ) → units_in n h ≡ units_in m h
listed_again m n holder w is others same h =
    listed_anew m n holder w is others h ∙ by_test (bytes_eq holder h) refl where
      by_test : (t : Bool) → bytes_eq holder h ≡ t → (if t then listed w else units_in m h) ≡ units_in m h
      by_test true e = subst (λ (o : List ℕ). listed w ≡ units_in m o) ((bytes_eq-Decides holder h).0 e) same
      by_test false e = refl
