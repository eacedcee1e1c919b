-- A list but for one unit, unit by unit.
use Rattle.std.proofs.Common.{◌≡◌, ℕ, ◌+◌, ◌==◌, ◌<◌, Bool, true, false, List, [], ◌∷◌, ◌++◌, take, length, get_or, ap, sym, ◌∙◌, refl, add-one, arith}
use Rattle.std.specs.Prelude.{if◌then◌else◌}
use Rattle.std.proofs.Math.Seq.{take-suc}
use Rattle.std.proofs.lemmas.Bool.Decides.{nat_tests}
use Rattle.prefix_range.specs.Prefix.{Prefix}
use Rattle.client_limits.specs.Holders.{without}

one_more : (address : ℕ) (ps : List Prefix) (p : Prefix) → without address (ps ++ p ∷ [])
    ≡ (if p.address == address then without address ps else without address ps ++ p ∷ [])
one_more address [] p = refl
one_more address (q ∷ qs) p = by_tests (q.address == address) (p.address == address) (one_more address qs p) where
  by_tests : (s t : Bool)
      → without address (qs ++ p ∷ []) ≡ (if t then without address qs else without address qs ++ p ∷ [])
      → (if s then without address (qs ++ p ∷ []) else q ∷ without address (qs ++ p ∷ []))
      ≡ (if t then (if s then without address qs else q ∷ without address qs)
      else (if s then without address qs else q ∷ without address qs) ++ p ∷ [])
  by_tests true true e = e
  by_tests true false e = e
  by_tests false true e = ap (λ (xs : List Prefix). q ∷ xs) e
  by_tests false false e = ap (λ (xs : List Prefix). q ∷ xs) e

by_next : (address : ℕ) (ps : List Prefix) (i : ℕ) (p : Prefix) → i < length ps → p ≡ get_or ps i p
    → without address (take (i + 1) ps)
    ≡ (if p.address == address then without address (take i ps) else without address (take i ps) ++ p ∷ [])
by_next address ps i p lt is =
    let longer : take (i + 1) ps ≡ take i ps ++ p ∷ [] =
    rw (add-one, take-suc ps i p lt) (ap (λ (k : Prefix). take i ps ++ k ∷ []) (sym is)) in
    ap (without address) longer ∙ one_more address (take i ps) p

pub passed_over : (address : ℕ) (ps : List Prefix) (i : ℕ) (p : Prefix) → i < length ps → p ≡ get_or ps i p
    → p.address ≡ address → without address (take (i + 1) ps) ≡ without address (take i ps)
passed_over address ps i p lt is same = by_test (p.address == address) refl (by_next address ps i p lt is) where
  by_test : (t : Bool) → (p.address == address) ≡ t → without address (take (i + 1) ps)
      ≡ (if t then without address (take i ps) else without address (take i ps) ++ p ∷ [])
      → without address (take (i + 1) ps) ≡ without address (take i ps)
  by_test true e h = h
  by_test false e h = absurd (grind (arith, nat_tests))

pub taken_over : (address : ℕ) (ps : List Prefix) (i : ℕ) (p : Prefix) → i < length ps → p ≡ get_or ps i p
    → (p.address ≡ address → ⊥) → without address (take (i + 1) ps) ≡ without address (take i ps) ++ p ∷ []
taken_over address ps i p lt is other = by_test (p.address == address) refl (by_next address ps i p lt is) where
  by_test : (t : Bool) → (p.address == address) ≡ t → without address (take (i + 1) ps)
      ≡ (if t then without address (take i ps) else without address (take i ps) ++ p ∷ [])
      → without address (take (i + 1) ps) ≡ without address (take i ps) ++ p ∷ []
  by_test true e h = absurd (other (grind (arith, nat_tests)))
  by_test false e h = h
