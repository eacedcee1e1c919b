-- A field that is read is spelled so, and a field that is spelled is read again.
use Rattle.std.proofs.Common.{◌≡◌, ℕ, suc, ◌+◌, ◌^◌, ◌<◌, ◌≤◌, Bool, true, false, cond, eqb, ltb, leb, List, [], ◌∷◌}
use Rattle.std.proofs.Common.{◌++◌, length, get_or, take, drop, Some, None, refl, sym, ap, subst, ◌∙◌, append_assoc}
use Rattle.std.proofs.Common.{arith, inl, inr}
use Rattle.std.specs.List.{find}
use Rattle.std.specs.Int.{Width, w32, w64, w128, byte_len, from_be_bytes}
use Rattle.std.proofs.lemmas.Bool.{cases_lt, eqb-true, ltb-false, le-ltb, leb-true, le-leb}
use Rattle.std.proofs.lemmas.List.{take_at, drop_at, take-append-drop, length-append, length-take, get_or-drop}
use Rattle.std.proofs.lemmas.List.{get_or-take, get_or_past}
use Rattle.std.proofs.lemmas.Nat.{be_bytes_4, be_bytes_8, from_be_bytes-to_be_bytes_4, from_be_bytes-to_be_bytes_8}
use Rattle.text_fields.proofs.Steps.{bind_some, map_some, some_is, chosen}
use Rattle.failover_message.specs.Frames.{number_octets, count_octets}
use Rattle.failover_message.specs.Parsing.{number_at, limited_at, octets_at, coded_at}
use Rattle.failover_message.proofs.CodeLaws.{IsTable}
use Rattle.failover_message.proofs.Sixteen.{be_octets_16, from_be_octets_16}

-- each is an octet
abbrev pub IsBytes : List ℕ → Type 0
IsBytes bytes = (i : ℕ) → get_or bytes i 0 < 256

pub IsBytes-drop : (n : ℕ) (bytes : List ℕ) → IsBytes bytes → IsBytes (drop n bytes)
IsBytes-drop n bytes h i = rw get_or-drop (h (n + i))

pub IsBytes-take : (n : ℕ) (bytes : List ℕ) → IsBytes bytes → IsBytes (take n bytes)
IsBytes-take n bytes h i =
    elim (cases_lt i n) [
      | inl lt ↦ rw (get_or-take n bytes i 0 lt) (h i)
      | inr le ↦ rw (get_or_past (take n bytes) i 0 (omega (arith, length-take n bytes))) (omega arith)
    ]

pub IsBytes-rest : (b : ℕ) (bytes : List ℕ) → IsBytes (b ∷ bytes) → IsBytes bytes
IsBytes-rest b bytes h i = h (suc i)

-- what a reader took from the front
pub record Takes (bytes text rest : List ℕ) : Type 0 where
  pub parts : bytes ≡ text ++ rest
  pub fits : IsBytes rest

pub Takes-then : {a x b y c : List ℕ} → Takes a x b → Takes b y c → Takes a (x ++ y) c
Takes-then {x = x} {y = y} {c = c} p q =
    record { parts = p.parts ∙ ap (λ (t : List ℕ). x ++ t) q.parts ∙ sym (append_assoc x y c); fits = q.fits }

pub none_is : {A : Type 0} (x : A) → None ≡ Some x → ⊥
none_is x e = cc

-- ---- numbers

pub record IsWide (w : Width) (limit : ℕ) : Type 0 where
  pub len : (n : ℕ) → length (number_octets w n) ≡ byte_len w
  pub back : (bytes : List ℕ) → length bytes ≡ byte_len w → IsBytes bytes
      → number_octets w (from_be_bytes w bytes) ≡ bytes
  pub again : (n : ℕ) → n < limit → from_be_bytes w (number_octets w n) ≡ n
  pub below : (bytes : List ℕ) → IsBytes bytes → from_be_bytes w bytes < limit

pub wide32 : IsWide w32 (2 ^ 32)
unfolding number_octets
wide32 = record {
  len = λ n. refl;
  back = λ bytes len fits. be_bytes_4 bytes _ len fits refl;
  again = λ n lt. from_be_bytes-to_be_bytes_4 n lt;
  below = λ bytes fits. omega (arith, fits 0, fits 1, fits 2, fits 3);
}

pub wide64 : IsWide w64 (2 ^ 64)
unfolding number_octets
wide64 = record {
  len = λ n. refl;
  back = λ bytes len fits. be_bytes_8 bytes _ len fits refl;
  again = λ n lt. from_be_bytes-to_be_bytes_8 n lt;
  below = λ bytes fits. omega (arith, fits 0, fits 1, fits 2, fits 3, fits 4, fits 5, fits 6, fits 7);
}

pub wide128 : IsWide w128 (2 ^ 128)
unfolding number_octets
wide128 = record {
  len = λ n. refl;
  back = λ bytes len fits. be_octets_16 bytes _ len fits refl;
  again = λ n lt. from_be_octets_16 n lt;
  below = λ bytes fits. omega (
    arith,
    fits 0,
    fits 1,
    fits 2,
    fits 3,
    fits 4,
    fits 5,
    fits 6,
    fits 7,
    fits 8,
    fits 9,
    fits 10,
    fits 11,
    fits 12,
    fits 13,
    fits 14,
    fits 15,
  );
}

read_when : (b : Bool) (x y : ℕ × List ℕ) → cond b None (Some x) ≡ Some y → (b ≡ false) × (x ≡ y)
read_when true x y e = absurd cc
read_when false x y e = (refl, cc)

pub number_takes : (w : Width) (limit : ℕ) (wide : IsWide w limit) (bytes : List ℕ) (x : ℕ × List ℕ) → IsBytes bytes
    → number_at w bytes ≡ Some x → Takes bytes (number_octets w x.0) x.1 × (x.0 < limit)
unfolding number_at
number_takes w limit wide bytes x fits e =
    let g = read_when (ltb (length bytes) (byte_len w)) (
      from_be_bytes w (take (byte_len w) bytes),
      drop (byte_len w) bytes,
    ) x e in
    let long : byte_len w ≤ length bytes = ltb-false _ _ g.0 in
    let front = wide.back (take (byte_len w) bytes) (omega (arith, length-take (byte_len w) bytes))
    (IsBytes-take (byte_len w) bytes fits) in
    let whole : Takes bytes (number_octets w (from_be_bytes w (take (byte_len w) bytes))) (drop (byte_len w) bytes) =
    record {
      parts = rw front (sym (take-append-drop (byte_len w) bytes));
      fits =
          IsBytes-drop (byte_len w) bytes fits;
    } in
    subst (λ (p : ℕ × List ℕ). Takes bytes (number_octets w p.0) p.1 × (p.0 < limit)) g.1 (
      whole,
      wide.below (take (byte_len w) bytes) (IsBytes-take (byte_len w) bytes fits),
    )

pub number_again : (w : Width) (limit : ℕ) (wide : IsWide w limit) (n : ℕ) (rest : List ℕ) → n < limit
    → number_at w (number_octets w n ++ rest) ≡ Some (n, rest)
unfolding number_at
number_again w limit wide n rest lt =
    let len = wide.len n in
    let long : ltb (length (number_octets w n ++ rest)) (byte_len w) ≡ false =
    le-ltb _ _ (omega (arith, length-append (number_octets w n) rest)) in
    rw (
      long,
      take_at (number_octets w n) rest (byte_len w) len,
      drop_at (number_octets w n) rest (byte_len w) len,
      wide.again n lt,
    ) refl

pub limited_takes : (limit : ℕ) (bytes : List ℕ) (x : ℕ × List ℕ) → IsBytes bytes → limited_at limit bytes ≡ Some x
    → Takes bytes (count_octets x.0) x.1 × (x.0 ≤ limit)
unfolding limited_at
limited_takes limit bytes x fits e =
    let n = bind_some (number_at w64 bytes) (λ n. cond (leb n.0 limit) (Some n) None) x e in
    let c = chosen (leb n.0.0 limit) (Some n.0) x n.2 in
    let t = number_takes w64 (2 ^ 64) wide64 bytes n.0 fits n.1 in
    subst (λ (y : ℕ × List ℕ). Takes bytes (count_octets y.0) y.1 × (y.0 ≤ limit)) (some_is _ _ c.1) (
      t.0,
      leb-true n.0.0 limit c.0,
    )

pub limited_again : (limit n : ℕ) (rest : List ℕ) → n ≤ limit → n < 2 ^ 64
    → limited_at limit (count_octets n ++ rest) ≡ Some (n, rest)
unfolding limited_at
limited_again limit n rest le lt = rw (number_again w64 (2 ^ 64) wide64 n rest lt, le-leb n limit le) refl

-- ---- codes and rows of octets

-- what is found passes the test
pub found_passes : {A : Type 0} (test : A → Bool) (xs : List A) (y : A) → find test xs ≡ Some y → test y ≡ true
found_passes test [] y e = absurd cc
found_passes {A} test (x ∷ xs) y e = by (test x) refl (found_passes test xs y) e
  where
    by : (b : Bool) → test x ≡ b → (find test xs ≡ Some y → test y ≡ true) → cond b (Some x) (find test xs) ≡ Some y
        → test y ≡ true
    by true is later e = ap test (sym (some_is x y e)) ∙ is
    by false is later e = later e

pub coded_takes : {A : Type 0} (code_of : A → ℕ) (values : List A) (bytes : List ℕ) (x : A × List ℕ) → IsBytes bytes
    → coded_at code_of values bytes ≡ Some x → Takes bytes (code_of x.0 ∷ []) x.1
unfolding coded_at
coded_takes code_of values [] x fits e = absurd (none_is x e)
coded_takes {A} code_of values (code ∷ bytes) x fits e =
    let m = map_some (find (λ value. eqb (code_of value) code) values) (λ value. (value, bytes)) x e in
    let is : code_of m.0 ≡ code = eqb-true _ _ (found_passes (λ value. eqb (code_of value) code) values m.0 m.1) in
    subst (λ (y : A × List ℕ). Takes (code ∷ bytes) (code_of y.0 ∷ []) y.1) m.2
    (record { parts = ap (λ (n : ℕ). n ∷ bytes) (sym is); fits = IsBytes-rest code bytes fits })

pub coded_again : {A : Type 0} (code_of : A → ℕ) (values : List A) → IsTable code_of values → (a : A) (rest : List ℕ)
    → coded_at code_of values (code_of a ∷ rest) ≡ Some (a, rest)
unfolding coded_at
coded_again code_of values table a rest = rw (table a) refl

pub octets_take : (n : ℕ) (bytes : List ℕ) (x : List ℕ × List ℕ) → IsBytes bytes → octets_at n bytes ≡ Some x
    → Takes bytes x.0 x.1 × (length x.0 ≡ n) × IsBytes x.0
unfolding octets_at
octets_take n bytes x fits e = by (ltb (length bytes) n) (ltb-false (length bytes) n) e
  where
    by : (b : Bool) → (b ≡ false → n ≤ length bytes) → cond b None (Some (take n bytes, drop n bytes)) ≡ Some x
        → Takes bytes x.0 x.1 × (length x.0 ≡ n) × IsBytes x.0
    by true long e = absurd (none_is x e)
    by false long e = subst (λ (y : List ℕ × List ℕ). Takes bytes y.0 y.1 × (length y.0 ≡ n) × IsBytes y.0)
        (some_is _ _ e) (
          record { parts = sym (take-append-drop n bytes); fits = IsBytes-drop n bytes fits },
          omega (arith, length-take n bytes, long refl),
          IsBytes-take n bytes fits,
        )

pub octets_again : (octets rest : List ℕ) → octets_at (length octets) (octets ++ rest) ≡ Some (octets, rest)
unfolding octets_at
octets_again octets rest =
    let long : ltb (length (octets ++ rest)) (length octets) ≡ false =
    le-ltb _ _ (omega (arith, length-append octets rest)) in
    rw (long, take_at octets rest (length octets) refl, drop_at octets rest (length octets) refl) refl
