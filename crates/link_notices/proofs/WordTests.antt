-- The test of a program's word is what it is a test of.
use Rattle.std.proofs.Common.{◌≡◌, ℕ, ◌&&◌, true, leb, List, [], ◌∷◌, length, refl, arith}
use Rattle.std.specs.List.{list_all, AllByRecursion}
use Rattle.std.proofs.lemmas.Bool.{leb-true, le-leb}
use Rattle.text_fields.specs.Cuts.{Lacks}
use Rattle.text_fields.proofs.Steps.{both}
use Rattle.link_notices.specs.Words.{is_visible, is_program_word, IsVisible, IsProgramWord}

each_visible : (word : List ℕ) → list_all is_visible word ≡ true → AllByRecursion IsVisible word
each_visible [] e = tt
each_visible (b ∷ word) e =
    let t = both (is_visible b) (list_all is_visible word) e in
    let v = both (leb 33 b) (leb b 126) t.0 in
    ((leb-true 33 b v.0, leb-true b 126 v.1), each_visible word t.1)

all_visible : (word : List ℕ) → AllByRecursion IsVisible word → list_all is_visible word ≡ true
all_visible [] h = refl
all_visible (b ∷ word) h = rw (le-leb 33 b h.0.0, le-leb b 126 h.0.1, all_visible word h.1) refl

pub word_fits : (word : List ℕ) → is_program_word word ≡ true → IsProgramWord word
word_fits word e =
    let s = both (leb 1 (length word)) (leb (length word) 64 && list_all is_visible word) e in
    let f = both (leb (length word) 64) (list_all is_visible word) s.1 in
    record {
      some = leb-true 1 (length word) s.0;
      few = leb-true (length word) 64 f.0;
      visible = each_visible word f.1;
    }

pub word_tests : (word : List ℕ) → IsProgramWord word → is_program_word word ≡ true
word_tests word h = rw (
  le-leb 1 (length word) h.some,
  le-leb (length word) 64 h.few,
  all_visible word h.visible,
) refl

-- a visible character is no space
pub word_lacks : (word : List ℕ) → AllByRecursion IsVisible word → Lacks 32 word
word_lacks [] h = tt
word_lacks (b ∷ word) h = let least = h.0.0 in ((λ e. absurd (omega arith)), word_lacks word h.1)
