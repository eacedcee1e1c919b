-- The nonce of 24 octets that were drawn and 8 that are the mark.
use Rattle.std.specs.Prelude.{◌≡◌, ◌≤◌, ℕ, List, ◌++◌, length, take, drop}
use Rattle.std.proofs.Common.{arith, ap, ◌∙◌, append-nil, length-append, length-drop, length-take-le}
use borrow.Rule.Slice.PartMut.{put_mid}
use Rattle.std.proofs.lemmas.List.{drop_at, drop-drop, drop_all}
use Rattle.std.proofs.lemmas.Slice.{take-put_mid_below, take-put_mid}

module _ (front zeros back : List ℕ) (short : length front ≡ 24) (whole : length zeros ≡ 32) where
  whole_still : length (put_mid 0 24 zeros front) ≡ 32
  whole_still = omega (arith, length-append front (drop 24 zeros), length-drop 24 zeros)

  pub nonce_drawn : take 24 (put_mid 24 8 (put_mid 0 24 zeros front) back) ≡ front
  nonce_drawn = take-put_mid_below 24 8 (put_mid 0 24 zeros front) back 24 (omega arith) (omega (arith, whole_still))
      ∙ take-put_mid 0 24 zeros front 24 (omega arith) (omega arith)

  pub nonce_end : drop 24 (put_mid 24 8 (put_mid 0 24 zeros front) back) ≡ back
  nonce_end = let xs = put_mid 0 24 zeros front in
      drop_at (take 24 xs) (back ++ drop 8 (drop 24 xs)) 24 (length-take-le 24 xs (omega (arith, whole_still)))
      ∙ ap (λ ys. back ++ ys) (drop-drop 8 24 xs ∙ drop_all 32 xs (omega (arith, whole_still)))
      ∙ append-nil back
