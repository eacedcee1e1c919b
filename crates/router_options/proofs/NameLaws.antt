-- What is read as a name is what the text spells.
use Rattle.std.proofs.Common.{◌≡◌, ℕ, ◌≤◌, ◌<◌, ◌+◌, Bool, true, false, List, [], ◌∷◌, ◌++◌, length, Result, Ok, Err, refl, sym, ap}
use Rattle.std.proofs.Common.{subst, ◌∙◌, arith, append_assoc, append-nil, length-append}
use Rattle.std.specs.Prelude.{◌==◌, nat_lt, not, IfOk, if◌then◌else◌}
use Rattle.std.specs.List.{flat_map, AllByRecursion}
use Rattle.std.proofs.lemmas.Bool.Decides.{nat_tests}
use Rattle.text_fields.specs.Cuts.{split}
use Rattle.text_fields.specs.Parsing.{◌>>!◌}
use Rattle.router_options.specs.declared.error.NameError.{NameError}
use Rattle.router_options.specs.declared.error.NameError.TheVariants.{EmptyLabel, LongLabel, Character, TooLong, Memory}
use Rattle.router_options.specs.Names.{are_name_octets, IsLabel, label_octets, name_octets, IsNameOf, with_label, labels_on}
use Rattle.router_options.specs.Names.{ended, name_in, Gives}

bind_ok : {A B : Type 0} (r : Result A NameError) (f : A → Result B NameError) (y : B) → (r >>! f) ≡ Ok y
    → (x : A) × (r ≡ Ok x) × (f x ≡ Ok y)
bind_ok (Ok x) f y e = (x, refl, e)
bind_ok (Err fault) f y e = absurd cc

label_takes : (out label more : List ℕ) → with_label out label ≡ Ok more
    → IsLabel label × (more ≡ out ++ label_octets label)
unfolding with_label
label_takes out label more e =
    by (length label == 0) (nat_lt 63 (length label)) (are_name_octets label) refl refl refl e
  where
    by : (a b c : Bool) → (length label == 0) ≡ a → nat_lt 63 (length label) ≡ b → are_name_octets label ≡ c
        → (if a then Err EmptyLabel else if b then Err LongLabel else if not c then Err Character
        else Ok (out ++ label_octets label)) ≡ Ok more
        → IsLabel label × (more ≡ out ++ label_octets label)
    by true b c ta tb tc e = absurd cc
    by false true c ta tb tc e = absurd cc
    by false false false ta tb tc e = absurd cc
    by false false true ta tb tc e = (
      record {
        some = grind (arith, nat_tests);
        most = grind (arith, nat_tests);
        octets = tc;
      },
      (let same : out ++ label_octets label ≡ more = cc in sym same),
    )

label_again : (out label : List ℕ) → IsLabel label → with_label out label ≡ Ok (out ++ label_octets label)
unfolding with_label
label_again out label h =
    let some : (length label == 0) ≡ false = (let s = h.some in grind (arith, nat_tests)) in
    let most : nat_lt 63 (length label) ≡ false = (let m = h.most in grind (arith, nat_tests)) in
    rw (some, most, h.octets) refl

labels_takes : (out : List ℕ) (labels : List (List ℕ)) (all : List ℕ) → labels_on out labels ≡ Ok all
    → AllByRecursion IsLabel labels × (all ≡ out ++ flat_map label_octets labels)
unfolding labels_on
labels_takes out [] all e = (tt, (let same : out ≡ all = cc in sym same ∙ sym (append-nil out)))
labels_takes out (label ∷ labels) all e =
    let b = bind_ok (with_label out label) _ all e in
    let first = label_takes out label b.0 b.1 in
    let rest = labels_takes b.0 labels all b.2 in (
      (first.0, rest.0),
      rest.1 ∙ (ap (λ (xs : List ℕ). xs ++ flat_map label_octets labels) first.1
          ∙ append_assoc out (label_octets label) (flat_map label_octets labels)),
    )

labels_again : (out : List ℕ) (labels : List (List ℕ)) → AllByRecursion IsLabel labels
    → labels_on out labels ≡ Ok (out ++ flat_map label_octets labels)
unfolding labels_on
labels_again out [] h = ap (λ (xs : List ℕ). Ok xs) (sym (append-nil out))
labels_again out (label ∷ labels) h =
    rw (label_again out label h.0) (labels_again (out ++ label_octets label) labels h.1
    ∙ ap (λ (xs : List ℕ). Ok xs) (append_assoc out (label_octets label) (flat_map label_octets labels)))

pub name_takes : (text n : List ℕ) → name_in text ≡ Ok n → IsNameOf (split 46 text) n
unfolding name_in
name_takes text n e =
    let b = bind_ok (labels_on [] (split 46 text)) ended n e in
    let l = labels_takes [] (split 46 text) b.0 b.1 in
    by b.0 l.1 l.0 (nat_lt (length b.0) 255) refl b.2
  where
    by : (out : List ℕ) → out ≡ flat_map label_octets (split 46 text) → AllByRecursion IsLabel (split 46 text) → (t : Bool)
        → nat_lt (length out) 255 ≡ t → (if t then Ok (out ++ 0 ∷ []) else Err TooLong) ≡ Ok n
        → IsNameOf (split 46 text) n
    by out is each true t e =
        let same : out ++ 0 ∷ [] ≡ n = cc in
        let few : length (out ++ 0 ∷ []) ≤ 255 =
        (let l = length-append out (0 ∷ []) in grind (arith, nat_tests)) in
        record {
          each = each;
          spelled = sym same ∙ ap (λ (xs : List ℕ). xs ++ 0 ∷ []) is;
          most = subst (λ (xs : List ℕ). length xs ≤ 255) same few;
        }
    by out is each false t e = absurd cc

pub name_again : (text n : List ℕ) → IsNameOf (split 46 text) n → name_in text ≡ Ok n
unfolding name_in
name_again text n h =
    let out = flat_map label_octets (split 46 text) in
    let few : nat_lt (length out) 255 ≡ true =
    (let m = h.most in let s = ap length h.spelled in let l = length-append out (0 ∷ []) in grind (arith, nat_tests)) in
    rw (labels_again [] (split 46 text) h.each, few) (ap (λ (xs : List ℕ). Ok xs) (sym h.spelled))

-- ---- what a function gives that gives what parsing gives

pub is_found : (text : List ℕ) (r : Result (List ℕ) NameError) → Gives (λ n. n) r (name_in text)
    → IfOk r (λ n. IsNameOf (split 46 text) n)
is_found text (Ok n) h = name_takes text n h
is_found text (Err e) h = tt

pub is_only : (text n : List ℕ) (r : Result (List ℕ) NameError) → Gives (λ x. x) r (name_in text)
    → IsNameOf (split 46 text) n → Gives (λ x. x) r (Ok n)
is_only text n r h spelled = subst (λ (parsed : Result (List ℕ) NameError). Gives (λ x. x) r parsed)
    (name_again text n spelled) h

-- ---- the loop over labels

pub goes_on : (out more : List ℕ) (label : List ℕ) (labels : List (List ℕ)) (all : Result (List ℕ) NameError)
    → labels_on out (label ∷ labels) ≡ all → with_label out label ≡ Ok more → labels_on more labels ≡ all
unfolding labels_on
goes_on out more label labels all so step =
    sym (ap (λ (r : Result (List ℕ) NameError). r >>! λ m. labels_on m labels) step) ∙ so

stops : (out label : List ℕ) (labels : List (List ℕ)) (fault : NameError) → with_label out label ≡ Err fault
    → labels_on out (label ∷ labels) ≡ Err fault
unfolding labels_on
stops out label labels fault step = ap (λ (r : Result (List ℕ) NameError). r >>! λ m. labels_on m labels) step

-- an error of one label is that of all
pub fails : {X : Type 0} (view : X → List ℕ) (out new : List ℕ) (label : List ℕ) (labels : List (List ℕ))
    (all : Result (List ℕ) NameError) (e : NameError) → labels_on out (label ∷ labels) ≡ all
    → Gives {X = Unit {0}} {Y = List ℕ} (λ _. new) (Err e) (with_label out label)
    → Gives {X = X} {Y = List ℕ} view (Err e) all
fails view out new label labels all EmptyLabel so h = sym so ∙ stops out label labels EmptyLabel h
fails view out new label labels all LongLabel so h = sym so ∙ stops out label labels LongLabel h
fails view out new label labels all Character so h = sym so ∙ stops out label labels Character h
fails view out new label labels all TooLong so h = sym so ∙ stops out label labels TooLong h
fails view out new label labels all Memory so h = tt

pub ends : (out : List ℕ) (all : Result (List ℕ) NameError) → labels_on out [] ≡ all → all ≡ Ok out
unfolding labels_on
ends out all so = sym so

-- an error where nothing says that a text spells no name is want of memory
pub errs : (text n : List ℕ) (e : NameError) → Gives {X = List ℕ} {Y = List ℕ} (λ x. x) (Err e) (name_in text)
    → IsNameOf (split 46 text) n → Gives {X = List ℕ} {Y = List ℕ} (λ x. x) (Err e) (Ok n)
errs text n e h spelled = is_only text n (Err e) h spelled
