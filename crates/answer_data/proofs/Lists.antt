-- Lists of values, one more.
use Rattle.std.specs.Prelude.{◌≡◌, ℕ, ◌+◌, ◌<◌, List, [], ◌∷◌, ◌++◌, length, take, get_or}
use Rattle.std.proofs.Common.{refl, sym, subst, ap, ◌∙◌, append_assoc, append-nil}
use Rattle.std.specs.List.{flat_map}
use Rattle.std.proofs.lemmas.List.{take_more, map-append}
use Rattle.std.proofs.lemmas.List.Concat.{flat_map-cons}
use Rattle.std.specs.declared.alloc.Global.{Global}
use Rattle.std.specs.declared.vec.Vec.{Vec}
use Rattle.serde_json.specs.Data.{Data}
use Rattle.serde_json.specs.View.{view, items_view}
use Rattle.serde_json.specs.declared.value.Value.{Value, Array}
use Rattle.serde_json.proofs.Views.{view-Array}
use Rattle.report_data.specs.Fields.{IsText}
use Rattle.answer_data.specs.Texts.{AreEach, IsArrayOf, AreTexts, octets_of}

pub each_more : {A : Type 0} (form : A → Data → Type 0) (xs : List A) (x : A) (vs : List Value) (v : Value)
    → AreEach form xs (items_view vs) → form x (view v) → AreEach form (xs ++ x ∷ []) (items_view (vs ++ v ∷ []))
each_more form [] x [] v are is = (is, tt)
each_more form [] x (w ∷ ws) v are is = absurd are
each_more form (y ∷ ys) x [] v are is = absurd are
each_more form (y ∷ ys) x (w ∷ ws) v are is = (are.0, each_more form ys x ws v are.1 is)

pub each_step : {A : Type 0} (form : A → Data → Type 0) (xs : List A) (i : ℕ) (d : A) (vs : List Value) (v : Value)
    → i < length xs → AreEach form (take i xs) (items_view vs) → form (get_or xs i d) (view v)
    → AreEach form (take (i + 1) xs) (items_view (vs ++ v ∷ []))
each_step form xs i d vs v h are is = rw (take_more xs i d h) (each_more form (take i xs) (get_or xs i d) vs v are is)

pub octets_more : (ts : List (Vec ℕ Global)) (t : Vec ℕ Global)
    → octets_of (ts ++ t ∷ []) ≡ octets_of ts ++ t.items ∷ []
octets_more ts t = map-append (λ x. x.items) ts (t ∷ [])

pub texts_step : (xs : List (Vec ℕ Global)) (i : ℕ) (d : Vec ℕ Global) (vs : List Value) (v : Value)
    → i < length xs → AreEach IsText (octets_of (take i xs)) (items_view vs) → IsText (get_or xs i d).items (view v)
    → AreEach IsText (octets_of (take (i + 1) xs)) (items_view (vs ++ v ∷ []))
texts_step xs i d vs v h are is = rw (take_more xs i d h, octets_more (take i xs) (get_or xs i d))
    (each_more IsText (octets_of (take i xs)) (get_or xs i d).items vs v are is)

pub is_array : {A : Type 0} (form : A → Data → Type 0) (xs : List A) (values : Vec Value Global)
    → AreEach form xs (items_view values.items) → IsArrayOf form xs (view (Array values))
is_array form xs values are = (items_view values.items, are, view-Array values)

pub array_of_two : {A : Type 0} (form : A → Data → Type 0) (x y : A) (u v : Value) (values : Vec Value Global)
    → values.items ≡ u ∷ v ∷ [] → form x (view u) → form y (view v)
    → IsArrayOf form (x ∷ y ∷ []) (view (Array values))
array_of_two form x y u v values are first second = is_array form (x ∷ y ∷ []) values
    (subst (λ (vs : List Value). AreEach form (x ∷ y ∷ []) (items_view vs)) (sym are) (first, (second, tt)))

-- ---- cuts of a text

-- these values stand for the cuts before those that are left
pub record AreCutSoFar (all : List (List ℕ)) (vs : List Value) (left : List (List ℕ)) : Type 0 where
  pub done : List (List ℕ)
  pub all_are : all ≡ done ++ left
  pub are : AreEach IsText done (items_view vs)

pub cuts_begun : (all : List (List ℕ)) → AreCutSoFar all [] all
cuts_begun all = record { done = []; all_are = refl; are = tt }

pub cut_more : (all : List (List ℕ)) (vs : List Value) (v : Value) (line : List ℕ) (left : List (List ℕ))
    → AreCutSoFar all vs (line ∷ left) → IsText line (view v) → AreCutSoFar all (vs ++ v ∷ []) left
cut_more all vs v line left so is = record {
  done = so.done ++ line ∷ [];
  all_are = so.all_are ∙ sym (append_assoc so.done (line ∷ []) left);
  are = each_more IsText so.done line vs v so.are is;
}

pub all_cut : (all : List (List ℕ)) (values : Vec Value Global) → AreCutSoFar all values.items []
    → AreTexts all (view (Array values))
all_cut all values so = is_array IsText all values
    (subst (λ (ts : List (List ℕ)). AreEach IsText ts (items_view values.items))
    (sym (so.all_are ∙ append-nil so.done)) so.are)

-- ---- more texts of each cut

-- the texts that were there and those of all cuts are those so far, and what comes of the cuts that are left
pub record IsGatheredSoFar (of : List ℕ → List (List ℕ)) (before : List (List ℕ)) (all : List (List ℕ))
    (now : List (List ℕ)) (left : List (List ℕ)) : Type 0 where
  pub same : before ++ flat_map of all ≡ now ++ flat_map of left

pub gathering : (of : List ℕ → List (List ℕ)) (before all : List (List ℕ)) → IsGatheredSoFar of before all before all
gathering of before all = record { same = refl }

pub one_gathered : (of : List ℕ → List (List ℕ)) (before all now new : List (List ℕ)) (line : List ℕ)
    (left : List (List ℕ)) → IsGatheredSoFar of before all now (line ∷ left) → new ≡ now ++ of line
    → IsGatheredSoFar of before all new left
one_gathered of before all now new line left so is = record {
  same = so.same ∙ (ap (λ (t : List (List ℕ)). now ++ t) (flat_map-cons of line left)
      ∙ (sym (append_assoc now (of line) (flat_map of left)) ∙ ap (λ (t : List (List ℕ)). t ++ flat_map of left) (sym is)));
}

pub all_gathered : (of : List ℕ → List (List ℕ)) (before all now : List (List ℕ)) → IsGatheredSoFar of before all now []
    → now ≡ before ++ flat_map of all
all_gathered of before all now so = sym (so.same ∙ append-nil now)
