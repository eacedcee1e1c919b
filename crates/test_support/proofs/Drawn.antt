-- What is drawn is what a loss of power may leave.
use Rattle.std.proofs.Common.{◌≡◌, ◌⊎◌, inl, inr, ⊎_elim, ℕ, zero, suc, ◌<◌, ◌≤◌, List, [], ◌∷◌, ◌++◌, length, take}
use Rattle.std.proofs.Common.{get_or, refl, sym, ◌∙◌, ap, subst, arith, Result, Ok, Err, Vec, Global}
use Rattle.std.specs.Prelude.{IfOk}
use Rattle.std.proofs.Math.Seq.{get_or-append_seam}
use Rattle.std.proofs.lemmas.Bool.{cases_lt}
use Rattle.std.proofs.lemmas.List.{get_or_append_left, get_or-take, get_or_past, length-take-le, length-append}
use Rattle.disk_model.specs.Disk.{File, StandsIn, IsLeft}
use Rattle.test_support.specs.Mirror.{file_of, Mirrors}
use Rattle.test_support.specs.declared.state.FileState.{FileState}

pub zero_stands : (contents : List (List ℕ)) (place octet : ℕ) → octet ≡ 0 → StandsIn contents place octet
zero_stands [] place octet is = is
zero_stands (c ∷ cs) place octet is = inr (zero_stands cs place octet is)

-- each octet so far may be left of the file, and past its end a content counts as zeros
pub record IsFront (f : File) (content : List ℕ) : Type 0 where
  pub front : (place : ℕ) → place < length content → place < f.synced
      → get_or content place 0 ≡ get_or f.written place 0
  pub rest : (place : ℕ) → StandsIn (f.written ∷ f.under) place (get_or content place 0)

pub sure_front : (f : File) (n : ℕ) → n ≤ length f.written → IsFront f (take n f.written)
sure_front f n few = record {
  front = λ place within below. get_or-take n f.written place 0 (omega (arith, within, length-take-le n f.written few));
  rest = λ place. ⊎_elim
      (λ before. inl (get_or-take n f.written place 0 before))
      (λ past. zero_stands (f.written ∷ f.under) place (get_or (take n f.written) place 0)
      (get_or_past (take n f.written) place 0 (omega (arith, past, length-take-le n f.written few))))
      (cases_lt place n);
}

-- what a place holds after one octet more
pushed_place : (c : List ℕ) (x place : ℕ) → (get_or (c ++ x ∷ []) place 0 ≡ get_or c place 0)
    ⊎ ((place ≡ length c) × (get_or (c ++ x ∷ []) place 0 ≡ x))
pushed_place [] x zero = inr (refl, refl)
pushed_place [] x (suc place) = inl refl
pushed_place (y ∷ c) x zero = inl refl
pushed_place (y ∷ c) x (suc place) = ⊎_elim (λ e. inl e) (λ p. inr (ap suc p.0, p.1)) (pushed_place c x place)

pub more_front : (f : File) (c : List ℕ) (x : ℕ) → IsFront f c
    → (length c < f.synced → x ≡ get_or f.written (length c) 0)
    → StandsIn (f.written ∷ f.under) (length c) x → IsFront f (c ++ x ∷ [])
more_front f c x so_far same stands = record {
  front = λ place within below. ⊎_elim
      (λ before. get_or_append_left c (x ∷ []) 0 place before ∙ so_far.front place before below)
      (λ past.
      let last : length c ≡ place = omega (arith, past, within, length-append c (x ∷ [])) in
      subst (λ n. n < f.synced → get_or (c ++ x ∷ []) n 0 ≡ get_or f.written n 0) last
      (λ low. get_or-append_seam c x [] 0 ∙ same low) below)
      (cases_lt place (length c));
  rest = λ place. ⊎_elim
      (λ e. subst (λ octet. StandsIn (f.written ∷ f.under) place octet) (sym e) (so_far.rest place))
      (λ p. subst (λ octet. StandsIn (f.written ∷ f.under) place octet) (sym p.1)
      (subst (λ n. StandsIn (f.written ∷ f.under) n x) (sym p.0) stands))
      (pushed_place c x place);
}

pub is_left : (f : File) (c : List ℕ) → IsFront f c → f.synced ≤ length c → IsLeft f c
is_left f c all long = record {
  no_shorter = long;
  front = λ place below. all.front place (omega (arith, below, long)) below;
  rest = all.rest;
}

stands_in_file : (s : FileState) (f : File) → Mirrors s f → (place octet : ℕ)
    → StandsIn (s.written.items ∷ s.under.items ∷ []) place octet
    → StandsIn (f.written ∷ f.under) place octet
stands_in_file s f m place octet (inl e) = inl (e ∙ ap (λ (w : List ℕ). get_or w place 0) m.written)
stands_in_file s f m place octet (inr (inl e)) = inr (subst (λ n. StandsIn f.under place n) (sym e) (m.under place))
stands_in_file s f m place octet (inr (inr none)) = inr (zero_stands f.under place octet none)

-- what is left of the state is left of the file that it mirrors
pub left_of_mirror : (s : FileState) (f : File) → Mirrors s f → (c : List ℕ) → IsLeft (file_of s) c → IsLeft f c
left_of_mirror s f m c left = record {
  no_shorter = omega (arith, left.no_shorter, m.synced);
  front = λ place below. left.front place (omega (arith, below, m.synced))
      ∙ ap (λ (w : List ℕ). get_or w place 0) m.written;
  rest = λ place. stands_in_file s f m place (get_or c place 0) (left.rest place);
}

pub drawn_of_mirror : {E : Type 0} (s : FileState) (f : File) → Mirrors s f → (drawn : Result (Vec ℕ Global) E)
    → IfOk drawn (λ c. IsLeft (file_of s) c.items) → IfOk drawn (λ c. IsLeft f c.items)
drawn_of_mirror s f m (Ok c) left = left_of_mirror s f m c.items left
drawn_of_mirror s f m (Err e) left = left
