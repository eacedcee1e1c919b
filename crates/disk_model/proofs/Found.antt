-- What is found in a folder whose volumes are settled.
use Rattle.std.proofs.Common.{◌≡◌, inl, inr, ℕ, ◌+◌, ◌≤◌, List, [], ◌∷◌, ◌++◌, length, map, take, refl, ◌∙◌, ap, arith}
use Rattle.std.proofs.lemmas.List.{take_all, length-map}
use Rattle.disk_model.specs.Disk.{Call, file_after, IsLeft, AllLeft}
use Rattle.disk_model.specs.Lines.{recovered, AreFirst}
use Rattle.disk_model.specs.Open.{lines_in}
use Rattle.disk_model.proofs.Calls.{left_open}
use Rattle.disk_model.specs.Volumes.{HasSettled, AreAllSettled, AreLeftOf, AreFound, VolumesAreLeft}

one_found : (file : List Call) (lines : List (List ℕ)) (c : List ℕ) → HasSettled file lines
    → IsLeft (file_after file) c → recovered c ≡ lines
one_found file lines c h left =
    let f = left_open file h.is_open c left in
    f.same ∙ take_all f.count (lines_in file) (omega (arith, f.enough, ap length h.synced_are, ap length h.lines_are))
    ∙ h.lines_are

-- one volume more in front
in_front : (content : List ℕ) (contents : List (List ℕ)) (volume : List (List ℕ)) (volumes : List (List (List ℕ)))
    (lines : List (List ℕ)) (least : ℕ) → recovered content ≡ volume
    → AreFound volumes lines least contents → AreFound (volume ∷ volumes) lines least (content ∷ contents)
in_front content contents volume volumes lines least is (inl e) = inl (λ i. is i ∷ e i)
in_front content contents volume volumes lines least is (inr f) = inr (f.0, f.1, f.2, (λ i. is i ∷ f.3 i))

module _ (last : List Call) (lines : List (List ℕ)) (least : ℕ) (first : AllLeft (AreFirst lines least) last) where
  found : (files : List (List Call)) (volumes : List (List (List ℕ))) (contents : List (List ℕ))
      → AreAllSettled files volumes → AreLeftOf (files ++ last ∷ []) contents
      → length volumes ≤ length contents → length contents ≤ length volumes + 1 → AreFound volumes lines least contents
  found [] [] [] are left least' most = inl refl
  found [] [] (c ∷ []) are left least' most = let f = first c left.0 in
      inr (f.count, f.enough, f.within, ap (λ (l : List (List ℕ)). l ∷ []) f.same)
  found [] [] (c ∷ d ∷ contents) are left least' most = absurd left.1
  found [] (v ∷ volumes) contents are left least' most = absurd are
  found (f ∷ files) [] contents are left least' most = absurd are
  found (f ∷ files) (v ∷ volumes) [] are left least' most = absurd (omega (arith, least'))
  found (f ∷ files) (v ∷ volumes) (c ∷ contents) are left least' most =
      in_front c contents v volumes lines least (one_found f v c are.0 left.0)
      (found files volumes contents are.1 left.1 (omega (arith, least')) (omega (arith, most)))

-- and where there are more than these volumes, one of them is the last
the_last : (volumes : List (List (List ℕ))) (lines : List (List ℕ)) (least : ℕ) (contents : List (List ℕ))
    → length volumes + 1 ≤ length contents → AreFound volumes lines least contents
    → (count : ℕ) × (least ≤ count) × (count ≤ length lines)
    × (map recovered contents ≡ volumes ++ take count lines ∷ [])
the_last volumes lines least contents more (inl e) =
    absurd (omega (arith, more, ap length e, length-map contents recovered))
the_last volumes lines least contents more (inr f) = f

pub volumes_are_left : VolumesAreLeft
volumes_are_left names files volumes last lines least are first sure most contents left =
    let all = found last lines least first files volumes contents are left.each
    (omega (arith, sure, left.names_left.0)) (omega (arith, most, left.names_left.1)) in
    (all, λ there. the_last volumes lines least contents (omega (arith, there, left.names_left.0)) all)
