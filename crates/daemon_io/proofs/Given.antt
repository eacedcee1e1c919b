-- Octets that are given and passed on.
use Rattle.std.specs.Prelude.{◌≡◌, ℕ, List, [], ◌++◌, Option, Some, None, Result, Ok, Err, take, drop}
use Rattle.std.proofs.Common.{arith, refl, subst, ap, sym, ◌∙◌, append_assoc, append-nil}
use Rattle.std.proofs.lemmas.List.{take-append-drop}
use Rattle.std.specs.Io.KnownBytes.{Appends, Keeps}
use Rattle.link_auth.specs.Passing.{Puts}
use Rattle.link_auth.specs.declared.secure_channel.SecureChannel.{SecureChannel}
use Rattle.link_auth.specs.declared.secure_channel.SecureChannel.TheVariants.{Plain, Authenticated}
use Rattle.daemon_io.specs.ConnectionWrites.{given, IsPassedOn, Sent, Skips, Stays, WritesOctets, IsGiven}
use Rattle.daemon_io.specs.declared.connection.ConnectionLost.{ConnectionLost}
use Rattle.daemon_io.specs.declared.connection.ConnectionLost.TheVariants.{Broken, Stuck, Spent, Memory}

pub kept_adds_none : (old new : Option (List ℕ)) → Keeps old new → Appends old new []
kept_adds_none None new h = tt
kept_adds_none (Some xs) None h = absurd h
kept_adds_none (Some xs) (Some ys) h = h ∙ sym (append-nil xs)

pub none_is_kept : (old new : Option (List ℕ)) → Appends old new [] → Keeps old new
none_is_kept None new h = tt
none_is_kept (Some xs) None h = absurd h
none_is_kept (Some xs) (Some ys) h = h ∙ append-nil xs

pub stays : (old : Option (List ℕ)) → Keeps old old
stays None = tt
stays (Some xs) = refl

pub none_passed : (old new : Option (List ℕ)) (waits : List ℕ) → Keeps old new → IsPassedOn old waits new waits
none_passed old new waits h = (0, refl, kept_adds_none old new h)

pub passed_is_kept : (old new : Option (List ℕ)) (waited waits : List ℕ) → IsPassedOn old waited new waits
    → Keeps (given old waited) (given new waits)
passed_is_kept None new waited waits h = tt
passed_is_kept (Some xs) None waited waits h = absurd h.2
passed_is_kept (Some xs) (Some ys) waited waits h =
    ap (λ zs. zs ++ waits) h.2 ∙ ap (λ zs. (xs ++ take h.0 waited) ++ zs) h.1
    ∙ append_assoc xs (take h.0 waited) (drop h.0 waited)
    ∙ ap (λ zs. xs ++ zs) (take-append-drop h.0 waited)

pub added_is_given : (contents : Option (List ℕ)) (waits octets : List ℕ)
    → Appends (given contents waits) (given contents (waits ++ octets)) octets
added_is_given None waits octets = tt
added_is_given (Some xs) waits octets = sym (append_assoc xs waits octets)

pub given_and_kept : (a b c : Option (List ℕ)) (octets : List ℕ) → Appends a b octets → Keeps b c → Appends a c octets
given_and_kept None b c octets h k = tt
given_and_kept (Some xs) None c octets h k = absurd h
given_and_kept (Some xs) (Some ys) None octets h k = absurd k
given_and_kept (Some xs) (Some ys) (Some zs) octets h k = k ∙ h

pub skips_none : (p : SecureChannel) → Skips p p
skips_none Plain = tt
skips_none (Authenticated j) = (refl, omega (arith), refl)

pub skips_put : (p q : SecureChannel) (octets sent : List ℕ) → Puts p octets sent q → Skips p q
skips_put Plain Plain octets sent h = tt
skips_put Plain (Authenticated j) octets sent h = absurd h
skips_put (Authenticated j) Plain octets sent h = absurd h
skips_put (Authenticated j) (Authenticated k) octets sent h = (h.0.key, omega (arith, h.0.number), h.1)

-- the passage that a put left, and nothing given
pub put_is_lost : (p q : SecureChannel) (octets sent : List ℕ) (contents : Option (List ℕ)) (waits : List ℕ)
    → Puts p octets sent q
    → Stays (record { given = given contents waits; passage = p }) (record { given = given contents waits; passage = q })
put_is_lost p q octets sent contents waits h =
    record { given = stays (given contents waits); passage = skips_put p q octets sent h }

pub nothing_given : (p : SecureChannel) (contents : Option (List ℕ)) (waits : List ℕ)
    → Stays (record { given = given contents waits; passage = p }) (record { given = given contents waits; passage = p })
nothing_given p contents waits = record { given = stays (given contents waits); passage = skips_none p }

-- what was put waits behind the others, and goes out
module _ (p q r : SecureChannel) (octets sent : List ℕ) (contents : Option (List ℕ)) (waits : List ℕ)
    (waited : List ℕ) (after : Option (List ℕ)) (h : Puts p octets sent q) (same : r ≡ q) (all : waited ≡ waits ++ sent)
    (keeps : Keeps (given contents waited) after) where
  gives : WritesOctets octets (record { given = given contents waits; passage = p }) (record { given = after; passage = r })
  gives = record {
    stream = sent;
    puts = subst (λ x. Puts p octets sent x) (sym same) h;
    behind = given_and_kept (given contents waits) (given contents (waits ++ sent)) after sent
        (added_is_given contents waits sent) (subst (λ xs. Keeps (given contents xs) after) all keeps);
  }

  pub put_is_given : {T : Type 0} (result : Result T ConnectionLost) → (result ≡ Err Memory → ⊥) × (result ≡ Err Spent → ⊥)
      → IsGiven octets (record { given = given contents waits; passage = p }) (record { given = after; passage = r }) result
  put_is_given (Ok x) k = gives
  put_is_given (Err Broken) k = gives
  put_is_given (Err Stuck) k = gives
  put_is_given (Err Memory) k = absurd (k.0 refl)
  put_is_given (Err Spent) k = absurd (k.1 refl)

-- a flush gives nothing more
pub flushed_stays : (a b : Sent) → Keeps a.given b.given → b.passage ≡ a.passage → Stays a b
flushed_stays a b keeps same = record { given = keeps; passage = subst (λ p. Skips a.passage p) (sym same) (skips_none a.passage) }
