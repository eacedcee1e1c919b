-- Prefixes and clients: what is read is spelled so, and what is spelled is read again.
use Rattle.std.proofs.Common.{◌≡◌, ℕ, ◌%◌, ◌^◌, ◌<◌, Bool, true, false, cond, leb, ltb, eqb, List, [], ◌∷◌, ◌++◌}
use Rattle.std.proofs.Common.{length, Option, Some, None, Ok, Err, refl, sym, ap, subst, ◌∙◌, arith}
use Rattle.std.specs.Prelude.{option_map}
use Rattle.std.specs.Int.{w32, w128}
use Rattle.std.proofs.lemmas.Bool.{eqb-true, eq-eqb, leb-true, le-leb, ltb-false, le-ltb}
use Rattle.text_fields.specs.Parsing.{◌>>=◌}
use Rattle.text_fields.proofs.Steps.{bind_some, map_some, some_is, chosen}
use Rattle.client_id.specs.declared.error.ClientIdError.TheVariants.{TooShort, TooLong}
use Rattle.client_id.specs.Duid.{IsDuid, duid_in, found_duid}
use Rattle.client_id.proofs.Filling.{bytes_are_octets}
use Rattle.prefix_range.specs.Prefix.{Prefix, IsPrefix, size_of}
use Rattle.prefix_range.specs.Text.{made}
use Rattle.failover_message.specs.Frames.{number_octets, prefix_octets, client_octets}
use Rattle.binding_rules.specs.Messages.{IsHeld}
use Rattle.failover_message.specs.Parsing.{number_at, octets_at, prefix_at, somebody_at, nobody_at, holder_at}
use Rattle.failover_message.proofs.FieldLaws.{IsBytes, IsBytes-rest, Takes, Takes-then, none_is, wide32, wide128}
use Rattle.failover_message.proofs.FieldLaws.{number_takes, number_again, octets_take, octets_again}

-- ---- prefixes

made_takes : (address length : ℕ) (p : Prefix) → address < 2 ^ 128 → made address length ≡ Some p
    → (p ≡ record { address = address; length = length }) × IsPrefix p
made_takes address length p lt e =
    let s = chosen (leb length 128) (cond (eqb (address % size_of length) 0)
    (Some (record { address = address; length = length })) None) p e in
    let h = chosen (eqb (address % size_of length) 0) (Some (record { address = address; length = length })) p s.1 in
    let is : record { address = address; length = length } ≡ p = some_is _ _ h.1 in
    (sym is, subst IsPrefix is (record { short = leb-true length 128 s.0; address = lt; host_bits = eqb-true _ _ h.0 }))

made_again : (p : Prefix) → IsPrefix p → made p.address p.length ≡ Some p
made_again p h = rw (le-leb p.length 128 h.short, eq-eqb (p.address % size_of p.length) 0 h.host_bits) refl

pub prefix_takes : (bytes : List ℕ) (x : Prefix × List ℕ) → IsBytes bytes → prefix_at bytes ≡ Some x
    → Takes bytes (prefix_octets x.0) x.1 × IsPrefix x.0
unfolding prefix_at
prefix_takes [] x fits e = absurd (none_is x e)
prefix_takes (bits ∷ bytes) x fits e =
    let a = bind_some (number_at w128 bytes) (λ address. option_map (λ p. (p, address.1)) (made address.0 bits)) x e in
    let t = number_takes w128 (2 ^ 128) wide128 bytes a.0 (IsBytes-rest bits bytes fits) a.1 in
    let m = map_some (made a.0.0 bits) (λ p. (p, a.0.1)) x a.2 in
    let k = made_takes a.0.0 bits m.0 t.1 m.1 in
    let whole : Takes (bits ∷ bytes) (bits ∷ number_octets w128 a.0.0) a.0.1 =
    record { parts = ap (λ (w : List ℕ). bits ∷ w) t.0.parts; fits = t.0.fits } in
    let named : Takes (bits ∷ bytes) (prefix_octets m.0) a.0.1 =
    subst (λ (p : Prefix). Takes (bits ∷ bytes) (prefix_octets p) a.0.1) (sym k.0) whole in
    subst (λ (y : Prefix × List ℕ). Takes (bits ∷ bytes) (prefix_octets y.0) y.1 × IsPrefix y.0) m.2 (named, k.1)

pub prefix_again : (p : Prefix) (rest : List ℕ) → IsPrefix p → prefix_at (prefix_octets p ++ rest) ≡ Some (p, rest)
unfolding prefix_at
prefix_again p rest h = rw (number_again w128 (2 ^ 128) wide128 p.address rest h.address, made_again p h) refl

-- ---- clients

sized : (a b : Bool) (octets d : List ℕ) → found_duid (cond a (Err TooShort) (cond b (Err TooLong) (Ok octets)))
    ≡ Some d → (a ≡ false) × (b ≡ false) × (octets ≡ d)
sized true b octets d e = absurd (none_is d e)
sized false true octets d e = absurd (none_is d e)
sized false false octets d e = (refl, refl, some_is octets d e)

duid_takes : (octets d : List ℕ) → IsBytes octets → found_duid (duid_in octets) ≡ Some d → (octets ≡ d) × IsDuid d
duid_takes octets d fits e =
    let s = sized (ltb (length octets) 3) (ltb 130 (length octets)) octets d e in (
      s.2,
      subst IsDuid s.2 (record {
        fits = bytes_are_octets octets fits;
        least = ltb-false _ _ s.0;
        most =
            ltb-false _ _ s.1;
      }),
    )

duid_again : (d : List ℕ) → IsDuid d → found_duid (duid_in d) ≡ Some d
duid_again d h = rw (le-ltb (length d) 3 h.least, le-ltb 130 (length d) h.most) refl

-- octets of a client, and those that are left
abbrev Names : List ℕ → Option (List ℕ) × List ℕ → Type 0
Names bytes x = Takes bytes (client_octets x.0) x.1

somebody_takes : (bytes : List ℕ) (x : Option (List ℕ) × List ℕ) → IsBytes bytes → somebody_at bytes ≡ Some x
    → (d : List ℕ) × (x.0 ≡ Some d) × IsDuid d × Takes bytes (length d ∷ d) x.1
unfolding somebody_at
somebody_takes [] x fits e = absurd (none_is x e)
somebody_takes (size ∷ bytes) x fits e =
    let o = bind_some (octets_at size bytes)
    (λ client. option_map (λ duid. (Some duid, client.1)) (found_duid (duid_in client.0))) x e in
    let t = octets_take size bytes o.0 (IsBytes-rest size bytes fits) o.1 in
    let m = map_some (found_duid (duid_in o.0.0)) (λ duid. (Some duid, o.0.1)) x o.2 in
    let d = duid_takes o.0.0 m.0 t.2 m.1 in
    let whole : Takes (size ∷ bytes) (length o.0.0 ∷ o.0.0) o.0.1 =
    record {
      parts = ap (λ (w : List ℕ). size ∷ w) t.0.parts ∙ ap (λ (n : ℕ). n ∷ (o.0.0 ++ o.0.1)) (sym t.1);
      fits = t.0.fits;
    } in
    let named : Takes (size ∷ bytes) (length m.0 ∷ m.0) o.0.1 =
    subst (λ (k : List ℕ). Takes (size ∷ bytes) (length k ∷ k) o.0.1) d.0 whole in
    subst (λ (y : Option (List ℕ) × List ℕ). (k : List ℕ) × (y.0 ≡ Some k) × IsDuid k
    × Takes (size ∷ bytes) (length k ∷ k) y.1) m.2 (m.0, refl, d.1, named)

somebody_again : (d rest : List ℕ) → IsDuid d → somebody_at (length d ∷ (d ++ rest)) ≡ Some (Some d, rest)
unfolding somebody_at
somebody_again d rest h = rw (octets_again d rest, duid_again d h) refl

nobody_takes : (bytes : List ℕ) (x : Option (List ℕ) × List ℕ) → IsBytes bytes → nobody_at bytes ≡ Some x
    → (x.0 ≡ None) × Takes bytes (0 ∷ []) x.1
unfolding nobody_at
nobody_takes [] x fits e = absurd (none_is x e)
nobody_takes (size ∷ bytes) x fits e =
    let c = chosen (eqb size 0) (Some (None, bytes)) x e in
    subst (λ (y : Option (List ℕ) × List ℕ). (y.0 ≡ None) × Takes (size ∷ bytes) (0 ∷ []) y.1) (some_is _ _ c.1) (
      refl,
      record { parts = ap (λ (n : ℕ). n ∷ bytes) (eqb-true size 0 c.0); fits = IsBytes-rest size bytes fits },
    )

nobody_again : (rest : List ℕ) → nobody_at (0 ∷ rest) ≡ Some (None, rest)
unfolding nobody_at
nobody_again rest = refl

-- ---- holders

-- octets of whose a unit is, and those that are left
abbrev pub Holds : Bool → List ℕ → (ℕ × Option (List ℕ)) × List ℕ → Type 0
Holds held bytes x = Takes bytes (number_octets w32 x.0.0 ++ client_octets x.0.1) x.1 × IsHeld held x.0.0 x.0.1

pub holder_takes : (held : Bool) (bytes : List ℕ) (x : (ℕ × Option (List ℕ)) × List ℕ) → IsBytes bytes
    → holder_at held bytes ≡ Some x → Holds held bytes x
holder_takes true bytes x fits e =
    let iaid = bind_some (number_at w32 bytes) (λ iaid. somebody_at iaid.1
    >>= λ client. Some ((iaid.0, client.0), client.1)) x e in
    let t = number_takes w32 (2 ^ 32) wide32 bytes iaid.0 fits iaid.1 in
    let client = bind_some (somebody_at iaid.0.1) (λ client. Some ((iaid.0.0, client.0), client.1)) x iaid.2 in
    let c = somebody_takes iaid.0.1 client.0 t.0.fits client.1 in
    let named : Holds true bytes ((iaid.0.0, Some c.0), client.0.1) = (Takes-then t.0 c.3, (t.1, c.2)) in
    subst (Holds true bytes) (ap (λ (o : Option (List ℕ)). ((iaid.0.0, o), client.0.1)) (sym c.1)
    ∙ some_is _ _ client.2) named
holder_takes false bytes x fits e =
    let iaid = bind_some (number_at w32 bytes) (λ iaid. nobody_at iaid.1
    >>= λ client. cond (eqb iaid.0 0) (Some ((0, client.0), client.1)) None) x e in
    let t = number_takes w32 (2 ^ 32) wide32 bytes iaid.0 fits iaid.1 in
    let client = bind_some (nobody_at iaid.0.1) (λ client. cond (eqb iaid.0.0 0) (Some ((0, client.0), client.1)) None)
    x iaid.2 in
    let c = nobody_takes iaid.0.1 client.0 t.0.fits client.1 in
    let z = chosen (eqb iaid.0.0 0) (Some ((0, client.0.0), client.0.1)) x client.2 in
    let front : Takes bytes (number_octets w32 0) iaid.0.1 =
    subst (λ (n : ℕ). Takes bytes (number_octets w32 n) iaid.0.1) (eqb-true iaid.0.0 0 z.0) t.0 in
    let named : Holds false bytes ((0, None), client.0.1) = (Takes-then front c.1, refl) in
    subst (Holds false bytes) (ap (λ (o : Option (List ℕ)). ((0, o), client.0.1)) (sym c.0) ∙ some_is _ _ z.1) named

pub holder_again : (held : Bool) (iaid : ℕ) (client : Option (List ℕ)) (rest : List ℕ) → IsHeld held iaid client
    → holder_at held (number_octets w32 iaid ++ (client_octets client ++ rest)) ≡ Some ((iaid, client), rest)
holder_again true iaid (Some client) rest h =
    rw (
      number_again w32 (2 ^ 32) wide32 iaid (length client ∷ (client ++ rest)) h.0,
      somebody_again client rest h.1,
    ) refl
holder_again true iaid None rest h = absurd h
holder_again false iaid (Some client) rest h = absurd h
holder_again false iaid None rest h = rw (
  h,
  number_again w32 (2 ^ 32) wide32 0 (0 ∷ rest) (omega arith),
  nobody_again rest,
) refl
