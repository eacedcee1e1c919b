-- A text without its line feed.
use Rattle.std.specs.Prelude.{◌≡◌, ◌≢◌, ◌==◌, ℕ, List, [], ◌∷◌, ◌++◌, length, Bool, true, false}
use Rattle.std.proofs.Common.{refl, sym, ap, subst, ◌∙◌, arith}
use Rattle.std.proofs.lemmas.Bool.{eqb-true}
use Rattle.std.specs.List.{IsLastAndRest}
use Rattle.std.specs.declared.alloc.Global.{Global}
use Rattle.std.specs.declared.vec.Vec.{Vec}
use Rattle.serde_json.specs.Data.{array, no_items}
use Rattle.serde_json.specs.View.{view, items_view}
use Rattle.serde_json.specs.declared.value.Value.{Value, Array}
use Rattle.serde_json.proofs.Views.{view-Array}
use Rattle.report_data.specs.Fields.{IsText}
use Rattle.answer_data.specs.Texts.{AreEach, AreTexts, cuts_in, lines_in, without_feed}

pub without_added : (line : List ℕ) → without_feed (line ++ 10 ∷ []) ≡ line
unfolding without_feed
without_added [] = refl
without_added (b ∷ []) = refl
without_added (b ∷ c ∷ line) = ap (λ (t : List ℕ). b ∷ t) (without_added (c ∷ line))

kept : (line : List ℕ) (b : ℕ) → (b == 10) ≡ false → without_feed (line ++ b ∷ []) ≡ line ++ b ∷ []
unfolding without_feed
kept [] b other = rw other refl
kept (a ∷ []) b other = ap (λ (t : List ℕ). a ∷ t) (kept [] b other)
kept (a ∷ c ∷ line) b other = ap (λ (t : List ℕ). a ∷ t) (kept (c ∷ line) b other)

no_feed : (b : ℕ) (t : Bool) → (b == 10) ≡ t → b ≢ 10 → (b == 10) ≡ false
no_feed b true e other = absurd (other (eqb-true b 10 e))
no_feed b false e other = e

pub feed_goes : (text line : List ℕ) (b : ℕ) → IsLastAndRest text b line → b ≡ 10 → line ≡ without_feed text
feed_goes text line b is feed =
    sym (ap without_feed (is.0 ∙ ap (λ (x : ℕ). line ++ x ∷ []) feed) ∙ without_added line)

pub none_goes : (text line : List ℕ) (b : ℕ) → IsLastAndRest text b line → b ≢ 10 → text ≡ without_feed text
none_goes text line b is other =
    is.0 ∙ (sym (kept line b (no_feed b (b == 10) refl other)) ∙ ap without_feed (sym is.0))

pub none_of : (text : List ℕ) → length text ≡ 0 → text ≡ without_feed text
unfolding without_feed
none_of [] e = refl
none_of (b ∷ text) e = absurd (omega (arith, e))

no_cuts : (line : List ℕ) → length line ≡ 0 → AreEach IsText (cuts_in line) no_items
no_cuts [] e = tt
no_cuts (b ∷ line) e = absurd (omega (arith, e))

pub empty_lines : (text line : List ℕ) (values : Vec Value Global) → line ≡ without_feed text → length line ≡ 0
    → values.items ≡ [] → AreTexts (lines_in text) (view (Array values))
empty_lines text line values is none empty = (
  no_items,
  subst (λ (t : List ℕ). AreEach IsText (cuts_in t) no_items) is (no_cuts line none),
  view-Array values ∙ ap (λ (vs : List Value). array (items_view vs)) empty,
)
