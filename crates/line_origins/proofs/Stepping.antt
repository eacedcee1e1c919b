-- Parts, found and taken one after the other.
use Rattle.std.specs.Prelude.{◌≡◌, ℕ, ◌+◌, true, false, List, [], ◌∷◌, ◌++◌, length, Some}
use Rattle.std.proofs.Common.{◌∙◌, ap, refl}
use Rattle.volume_join.specs.Joined.{unclosed, behind_head}
use Rattle.volume_spans.specs.declared.reading.ReadVolume.{ReadVolume}
use Rattle.line_origins.specs.declared.parts.VolumePart.{VolumePart}
use Rattle.line_origins.specs.Parts.{lines_in, next_part, parts_from, has_line, origin_at, origin_in}

both_over : (xs ys zs : List VolumePart) → (xs ++ ys) ++ zs ≡ xs ++ (ys ++ zs)
both_over [] ys zs = refl
both_over (x ∷ xs) ys zs = ap (λ ws. x ∷ ws) (both_over xs ys zs)

-- one volume more stands behind
pub part_more : (xs all : List VolumePart) (p : VolumePart) (n : ℕ) (r : ReadVolume) (rs : List ReadVolume)
    → xs ++ parts_from p n (r ∷ rs) ≡ all
    → (xs ++ record p { until = n } ∷ [])
    ++ parts_from (next_part n r) (n + length (unclosed (behind_head (lines_in r)))) rs ≡ all
part_more xs all p n r rs h =
    both_over xs (record p { until = n } ∷ []) (parts_from (next_part n r) (n + length (unclosed (behind_head (lines_in r)))) rs)
    ∙ h

pub has_first : (p : VolumePart) (ps : List VolumePart) (n : ℕ) → has_line p n ≡ true
    → origin_in (p ∷ ps) n ≡ Some (origin_at p n)
has_first p ps n e = rw e refl

pub has_later : (p : VolumePart) (ps : List VolumePart) (n : ℕ) → has_line p n ≡ false
    → origin_in (p ∷ ps) n ≡ origin_in ps n
has_later p ps n e = rw e refl
