-- Times of a picture.
use Rattle.std.proofs.Common.{◌≡◌, ℕ, ◌^◌, ◌<◌, ◌≤◌, List, [], ◌++◌, inl, inr}
use Rattle.std.specs.Fmt.{decimal}
use Rattle.time_text.specs.Time.{IsTimeText}
use Rattle.std.specs.List.Sorted.{IsNonDecreasing, IsPermutation}
use Rattle.report_render.specs.declared.picture.Picture.{Picture}
use Rattle.report_render.specs.declared.labels.PictureLabels.{PictureLabels}
use Rattle.report_render.specs.Labels.{IsAxisTime, AreLabels}
use Rattle.report_render.specs.Drawing.{moments_of, picture_svg, IsSvg}

pub utc_of : (m : ℕ) (text time : List ℕ) → m ≤ 2 ^ 48 → IsTimeText m text → time ≡ [] ++ text → IsAxisTime m time
utc_of m text time small h e = inl (small, rw (e) h)

pub number_of : (m : ℕ) (text : List ℕ) → 2 ^ 48 < m → text ≡ [] ++ decimal m → IsAxisTime m text
number_of m text large e = inr (large, e)

pub drawn_so : (p : Picture) (axis : List ℕ) (l : PictureLabels) (text : List ℕ) → IsNonDecreasing axis
    → IsPermutation (moments_of p) axis → AreLabels p l → text ≡ picture_svg axis p l → IsSvg p text
drawn_so p axis l text s w a d = record {
  axis = axis;
  sorted = s;
  whole = w;
  labels = l;
  labels_are = a;
  drawn = d;
}
