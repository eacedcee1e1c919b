-- What is left within a call.
use Rattle.std.proofs.Common.{◌≡◌, ◌⊎◌, inl, inr, ⊎_elim, ℕ, zero, suc, ◌<◌, List, [], ◌∷◌, ◌++◌, length, take, get_or}
use Rattle.std.proofs.Common.{refl, sym, ◌∙◌, arith}
use Rattle.std.proofs.lemmas.List.{get_or_append_left, get_or-take}
use Rattle.disk_model.specs.Disk.{StandsIn}
use Rattle.disk_model.specs.Laws.{WithinAnAppend, WithinACut, WithinASync}

zero_stands : (contents : List (List ℕ)) (i b : ℕ) → b ≡ 0 → StandsIn contents i b
zero_stands [] i b is = is
zero_stands (c ∷ cs) i b is = inr (zero_stands cs i b is)

part_octet : (w o : List ℕ) (n i : ℕ) → (get_or (w ++ take n o) i 0 ≡ 0)
    ⊎ (get_or (w ++ take n o) i 0 ≡ get_or (w ++ o) i 0)
part_octet [] o zero i = inl refl
part_octet [] [] (suc n) i = inl refl
part_octet [] (x ∷ o) (suc n) zero = inr refl
part_octet [] (x ∷ o) (suc n) (suc i) = part_octet [] o n i
part_octet (x ∷ w) o n zero = inr refl
part_octet (x ∷ w) o n (suc i) = part_octet w o n i

part_stands : (w o : List ℕ) (n i b : ℕ) (under : List (List ℕ)) → StandsIn ((w ++ take n o) ∷ under) i b
    → StandsIn ((w ++ o) ∷ under) i b
part_stands w o n i b under (inl e) = ⊎_elim (λ z. inr (zero_stands under i b (e ∙ z))) (λ s. inl (e ∙ s))
    (part_octet w o n i)
part_stands w o n i b under (inr s) = inr s

pub within_an_append : WithinAnAppend
within_an_append f octets n c sound left = record {
  no_shorter = left.no_shorter;
  front = λ i lt.
      let low : i < length f.written = omega (arith, lt, sound) in
      left.front i lt ∙ get_or_append_left f.written (take n octets) 0 i low
      ∙ sym (get_or_append_left f.written octets 0 i low);
  rest = λ i. part_stands f.written octets n i (get_or c i 0) f.under (left.rest i);
}

pub within_a_cut : WithinACut
within_a_cut f n c left = record {
  no_shorter = omega (arith, left.no_shorter);
  front = λ i lt. left.front i (omega (arith, lt)) ∙ sym (get_or-take n f.written i 0 (omega (arith, lt)));
  rest = λ i. inr (left.rest i);
}

only_written : (w : List ℕ) (under : List (List ℕ)) (i b : ℕ) → StandsIn (w ∷ []) i b → StandsIn (w ∷ under) i b
only_written w under i b (inl e) = inl e
only_written w under i b (inr z) = inr (zero_stands under i b z)

pub within_a_sync : WithinASync
within_a_sync f c sound left = record {
  no_shorter = omega (arith, left.no_shorter, sound);
  front = λ i lt. left.front i (omega (arith, lt, sound));
  rest = λ i. only_written f.written f.under i (get_or c i 0) (left.rest i);
}
