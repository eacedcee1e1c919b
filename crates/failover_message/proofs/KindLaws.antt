-- The body of a kind: what is read is spelled so, and what is spelled is read again.
use Rattle.std.proofs.Common.{◌≡◌, ℕ, ◌^◌, Bool, true, false, cond, eqb, List, [], ◌++◌, Option, Some, None, refl, sym}
use Rattle.std.proofs.Common.{ap, subst}
use Rattle.std.proofs.lemmas.Bool.{eqb-true}
use Rattle.std.specs.Int.{w32}
use Rattle.text_fields.proofs.Steps.{some_is}
use Rattle.failover_message.specs.declared.frame.FrameKind.{FrameKind}
use Rattle.failover_message.specs.declared.frame.FrameKind.TheVariants.{BindingUpdate, BindingReply, PoolRequest}
use Rattle.failover_message.specs.declared.frame.FrameKind.TheVariants.{PoolResponse, UpdateRequest, UpdateRequestAll}
use Rattle.failover_message.specs.declared.frame.FrameKind.TheVariants.{UpdateDone, Connect, ConnectReply, Disconnect}
use Rattle.failover_message.specs.declared.frame.FrameKind.TheVariants.{State, Contact}
use Rattle.failover_message.specs.declared.codes.TheConstants.{STATES}
use Rattle.failover_message.specs.Frames.{kind_code, state_code, body_octets, IsBody}
use Rattle.text_fields.specs.Parsing.{within}
use Rattle.failover_message.specs.Parsing.{number_at, coded_at, update_at, reply_at, greeting_at, contact_at, kind_at}
use Rattle.failover_message.proofs.FieldLaws.{IsBytes, Takes, wide32, number_takes, number_again, coded_takes}
use Rattle.failover_message.proofs.FieldLaws.{coded_again}
use Rattle.failover_message.proofs.CodeLaws.{states}
use Rattle.failover_message.proofs.BodyLaws.{update_takes, update_again, reply_takes, reply_again, greeting_takes}
use Rattle.failover_message.proofs.BodyLaws.{greeting_again, contact_takes, contact_again}

-- the code is this number and stands for this, or another is tried
pub tried : {A P : Type 0} (code n : ℕ) (o other : Option A) (y : A) → (code ≡ n → o ≡ Some y → P)
    → (other ≡ Some y → P) → cond (eqb code n) o other ≡ Some y → P
tried {P = P} code n o other y here later e = by (eqb code n) (eqb-true code n) e
  where
    by : (b : Bool) → (b ≡ true → code ≡ n) → cond b o other ≡ Some y → P
    by true is e = here (is refl) e
    by false is e = later e

-- octets of a kind with this code, and those that are left
pub record IsKindOf (code : ℕ) (bytes : List ℕ) (x : FrameKind × List ℕ) : Type 0 where
  pub named : code ≡ kind_code x.0
  pub takes : Takes bytes (body_octets x.0) x.1
  pub body : IsBody x.0

within_takes : {A B : Type 0} (whole : A → B) (o : Option (A × List ℕ)) (y : B × List ℕ) → within whole o ≡ Some y
    → (x : A × List ℕ) × (o ≡ Some x) × ((whole x.0, x.1) ≡ y)
within_takes whole None y e = absurd cc
within_takes whole (Some x) y e = (x, refl, cc)

-- a kind of one part
part : {A : Type 0} (code : ℕ) (bytes : List ℕ) (x : FrameKind × List ℕ) (whole : A
    → FrameKind) (read : Option (A × List ℕ))
    → ((y : A × List ℕ) → read ≡ Some y → IsKindOf code bytes (whole y.0, y.1)) → within whole read ≡ Some x
    → IsKindOf code bytes x
part code bytes x whole read here found = let w = within_takes whole read x found in
    subst (IsKindOf code bytes) w.2 (here w.0 w.1)

-- a kind of no part
bare : (code : ℕ) (bytes : List ℕ) (x : FrameKind × List ℕ) (k : FrameKind) → IsBytes bytes → code ≡ kind_code k
    → body_octets k ≡ [] → IsBody k → Some (k, bytes) ≡ Some x → IsKindOf code bytes x
bare code bytes x k fits is empty body found =
    subst (IsKindOf code bytes) (some_is _ _ found) (record {
      named = is;
      takes =
          record { parts = ap (λ (w : List ℕ). w ++ bytes) (sym empty); fits = fits };
      body = body;
    })

pub kind_takes : (code : ℕ) (bytes : List ℕ) (x : FrameKind × List ℕ) → IsBytes bytes → kind_at code bytes ≡ Some x
    → IsKindOf code bytes x
unfolding kind_at
kind_takes code bytes x fits e =
    tried code 1 _ _ x (λ is. part code bytes x (λ u. BindingUpdate u) (update_at bytes)
    (λ y found. (let t = update_takes bytes y fits found in record { named = is; takes = t.0; body = t.1 }))) (
    tried code 2 _ _ x (λ is. part code bytes x (λ r. BindingReply r) (reply_at bytes)
    (λ y found. (let t = reply_takes bytes y fits found in record { named = is; takes = t.0; body = t.1 }))) (
    tried code 3 _ _ x (λ is. bare code bytes x PoolRequest fits is refl tt) (
    tried code 4 _ _ x (λ is. part code bytes x (λ n. PoolResponse n) (number_at w32 bytes)
    (λ y found. (let t = number_takes w32 (2 ^ 32) wide32 bytes y fits found in
    record { named = is; takes = t.0; body = t.1 }))) (
    tried code 5 _ _ x (λ is. bare code bytes x UpdateRequest fits is refl tt) (
    tried code 6 _ _ x (λ is. bare code bytes x UpdateRequestAll fits is refl tt) (
    tried code 7 _ _ x (λ is. bare code bytes x UpdateDone fits is refl tt) (
    tried code 8 _ _ x (λ is. part code bytes x (λ g. Connect g.0 g.1) (greeting_at bytes)
    (λ y found. (let t = greeting_takes bytes y fits found in record { named = is; takes = t.0; body = t.1 }))) (
    tried code 9 _ _ x (λ is. part code bytes x (λ g. ConnectReply g.0 g.1) (greeting_at bytes)
    (λ y found. (let t = greeting_takes bytes y fits found in record { named = is; takes = t.0; body = t.1 }))) (
    tried code 10 _ _ x (λ is. bare code bytes x Disconnect fits is refl tt) (
    tried code 11 _ _ x (λ is. part code bytes x (λ s. State s) (coded_at state_code STATES bytes)
    (λ y found. record { named = is; takes = coded_takes state_code STATES bytes y fits found; body = tt })) (
    tried code 12 _ _ x (λ is. part code bytes x (λ c. Contact c.0 c.1) (contact_at bytes)
    (λ y found. (let t = contact_takes bytes y fits found in
    record { named = is; takes = t.0; body = (t.1, t.2) }))) (
    λ none. absurd cc
    )))))))))))) e

pub kind_again : (k : FrameKind) (rest : List ℕ) → IsBody k
    → kind_at (kind_code k) (body_octets k ++ rest) ≡ Some (k, rest)
unfolding kind_at
kind_again (BindingUpdate u) rest h = rw (update_again u rest h) refl
kind_again (BindingReply r) rest h = rw (reply_again r rest h) refl
kind_again PoolRequest rest h = refl
kind_again (PoolResponse moved) rest h = rw (number_again w32 (2 ^ 32) wide32 moved rest h) refl
kind_again UpdateRequest rest h = refl
kind_again UpdateRequestAll rest h = refl
kind_again UpdateDone rest h = refl
kind_again (Connect role last) rest h = rw (greeting_again role last rest h) refl
kind_again (ConnectReply role last) rest h = rw (greeting_again role last rest h) refl
kind_again Disconnect rest h = refl
kind_again (State state) rest h = rw (coded_again state_code STATES states state rest) refl
kind_again (Contact ask answer) rest h = rw (contact_again ask answer rest h.0 h.1) refl
