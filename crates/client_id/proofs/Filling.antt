-- An array of zeros whose front is written.
use Rattle.std.proofs.Common.{◌≡◌, ◌-◌, ◌≤◌, ℕ, suc, ◌<◌, get_or, Option, Some, None, List, [], ◌∷◌, ◌++◌, length, take}
use Rattle.std.proofs.Common.{drop, refl, arith}
use Rattle.std.specs.Prelude.{replicate, option_map}
use Rattle.std.proofs.lemmas.List.{drop-replicate, length-append, length-replicate}
use Rattle.std.proofs.Math.Seq.{drop-append_seam, take-append_seam}
use Rattle.std.proofs.lemmas.List.{length-take}
use Rattle.text_fields.specs.Octets.{AreOctets}
use Rattle.client_id.specs.Octets.{IsPadded, padded}
use Rattle.client_id.specs.Duid.{IsDuid}

-- what copy_from_slice leaves of zeros
pub filled_zeros : (octets : List ℕ) (n : ℕ) → n ≡ length octets → octets ++ drop n (replicate 130 0) ≡ padded octets
filled_zeros octets n e = rw (e, drop-replicate) refl

-- the octets of an array that was filled from them are a value's
pub is_padded : (octets : List ℕ) → AreOctets octets → 3 ≤ length octets → length octets ≤ 130
    → IsPadded (padded octets) (length octets)
is_padded octets fits least most = record {
  least = least;
  most = most;
  whole = omega (
    arith,
    length-append octets (replicate (130 - length octets) 0),
    length-replicate {A = ℕ} (130 - length octets) 0,
  );
  fits = rw (take-append_seam octets (replicate (130 - length octets) 0)) fits;
  zeros = drop-append_seam octets (replicate (130 - length octets) 0);
}

-- and the octets of such an array are an identifier
pub is_duid : (bytes : List ℕ) (len : ℕ) → IsPadded bytes len → IsDuid (take len bytes)
is_duid bytes len h = let n = length-take len bytes in
    record { fits = h.fits; least = omega (arith, h.least, h.most, h.whole, n); most = omega (arith, h.most, n) }

-- octets, from each place of a slice
pub bytes_are_octets : (octets : List ℕ) → ((k : ℕ) → get_or octets k 0 < 256) → AreOctets octets
bytes_are_octets [] h = tt
bytes_are_octets (x ∷ octets) h = (h 0, bytes_are_octets octets (λ k. h (suc k)))

-- octets that were read into the front of zeros
pub filled_front : (o : Option (List ℕ)) (octets : List ℕ) (n : ℕ) → o ≡ Some octets → n ≡ length octets
    → option_map padded o ≡ Some (octets ++ drop n (replicate 130 0))
filled_front o octets n e long = rw (e, filled_zeros octets n long) refl

pub filled_none : (o : Option (List ℕ)) → o ≡ None → option_map padded o ≡ None
filled_none o e = rw e refl
