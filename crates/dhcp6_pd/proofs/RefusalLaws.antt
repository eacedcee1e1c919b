-- Each refusal in the words of the protocol.
use Rattle.std.proofs.Common.{◌≡◌, ◌≢◌, ℕ, Bool, true, false, List, Option, Some, None, Result, Ok, Err, refl, sym, ap}
use Rattle.std.proofs.Common.{subst, ◌∙◌}
use Rattle.std.specs.Prelude.{IsSome, IsSomeAnd, if◌then◌else◌}
use Rattle.std.specs.Str.{bytes_eq}
use Rattle.std.proofs.lemmas.Slice.Eq.{bytes_eq-Decides}
use Rattle.text_fields.specs.Octets.{AreOctets}
use Rattle.text_fields.specs.Parsing.{◌>>!◌}
use Rattle.dhcp6_pd.specs.declared.error.PdFault.{PdFault}
use Rattle.dhcp6_pd.specs.declared.error.PdFault.TheVariants.{Short, OptionLength, DuplicateId, NoClientId}
use Rattle.dhcp6_pd.specs.declared.error.PdFault.TheVariants.{ServerIdPresent, ServerIdMissing, NotOurs, TooDeep}
use Rattle.dhcp6_pd.specs.declared.error.PdFault.TheVariants.{TooManyIas, Ignored, BadPrefixLength}
use Rattle.dhcp6_pd.specs.declared.error.PdError.{PdError}
use Rattle.dhcp6_pd.specs.declared.error.PdError.TheVariants.{Fault, TooLong, Memory}
use Rattle.dhcp6_pd.specs.declared.message.ClientKind.{ClientKind}
use Rattle.dhcp6_pd.specs.declared.message.ClientKind.TheVariants.{Solicit, Request, Renew, Rebind, Release}
use Rattle.dhcp6_pd.specs.declared.message.ClientMessage.{ClientMessage}
use Rattle.dhcp6_pd.specs.declared.message_class.MessageClass.TheVariants.{Leases}
use Rattle.dhcp6_pd.specs.declared.message_class.MessageKind.{MessageKind}
use Rattle.dhcp6_pd.specs.declared.message_class.MessageKind.TheVariants.{Lease, Information}
use Rattle.dhcp6_pd.specs.declared.unvalidated.UnvalidatedMessage.{UnvalidatedMessage}
use Rattle.dhcp6_pd.specs.declared.numbers.TheConstants.{MAX_RELAYS}
use Rattle.dhcp6_pd.specs.Refusals.{IsRead, Refuses, IsOfForm, IsMalformed, IsDeeper, IsOfOtherType, SpellsOne, IsToAny}
use Rattle.dhcp6_pd.specs.Refusals.{NamesNoClient, NamesServerOfAny, NamesNoServer, NamesAnother}
use Rattle.dhcp6_pd.specs.Faults.{message_in, for_server, identified, message_of}
use Rattle.dhcp6_pd.specs.Answers.{Gives}
use Rattle.dhcp6_pd.proofs.FaultLaws.{Faults, OfOctets, message_faults}
use Rattle.dhcp6_pd.proofs.CarriedLaws.{deep_takes, deep_again, other_takes, other_again}
use Rattle.dhcp6_pd.proofs.IdentityLaws.{untested_takes, untested_again}

-- what each fault says of the identifiers
abbrev pub Says : List ℕ → UnvalidatedMessage → PdFault → Type 0
Says own u NoClientId = NamesNoClient u
Says own u ServerIdPresent = NamesServerOfAny u
Says own u ServerIdMissing = NamesNoServer u
Says own u NotOurs = NamesAnother own u
Says own u Short = ⊥
Says own u OptionLength = ⊥
Says own u DuplicateId = ⊥
Says own u TooManyIas = ⊥
Says own u BadPrefixLength = ⊥
Says own u TooDeep = ⊥
Says own u Ignored = u.kind ≡ Information

-- a message with these identifiers
abbrev identifying : UnvalidatedMessage → Option (List ℕ) → MessageKind → Option (List ℕ) → UnvalidatedMessage
identifying u client kind server = record u { client = client; kind = kind; server = server }

err_is : (a b : PdFault) → (let r : Result ClientMessage PdFault = Err a in r) ≡ Err b → a ≡ b
err_is a b e = cc

same_not : (own server : List ℕ) → bytes_eq server own ≡ false → server ≢ own
same_not own server e is = absurd (let t : bytes_eq server own ≡ true = (bytes_eq-Decides server own).1 is in
    let u : true ≡ false = sym t ∙ e in cc)

differs : (own server : List ℕ) → server ≢ own → bytes_eq server own ≡ false
differs own server ne = by (bytes_eq server own) refl
  where
    by : (b : Bool) → bytes_eq server own ≡ b → b ≡ false
    by true e = absurd (ne ((bytes_eq-Decides server own).0 e))
    by false e = refl

says_takes : (own : List ℕ) (u : UnvalidatedMessage) (fault : PdFault) → identified own u ≡ Err fault → Says own u fault
unfolding identified for_server
says_takes own u fault e = by u.client u.kind u.server e
  where
    to_one : (client : List ℕ) (kind : ClientKind) (server : Option (List ℕ)) → (IsToAny (Lease kind) → ⊥)
        → (m : ClientMessage) → (for_server own Request server >>! λ _. Ok m) ≡ Err fault
        → Says own (identifying u (Some client) (Lease kind) server) fault
    to_one client kind None one m e =
        subst (Says own (identifying u (Some client) (Lease kind) None)) (err_is _ _ e) (refl, one, refl)
    to_one client kind (Some server) one m e = another (bytes_eq server own) refl e
      where
        another : (b : Bool) → bytes_eq server own ≡ b
            → ((let r : Result (Unit {0}) PdFault = if b then Ok tt else Err NotOurs in r) >>! λ _. Ok m) ≡ Err fault
            → Says own (identifying u (Some client) (Lease kind) (Some server)) fault
        another true is e = absurd cc
        another false is e =
            subst (Says own (identifying u (Some client) (Lease kind) (Some server))) (err_is _ _ e) (
              refl,
              one,
              same_not own server is,
            )

    by : (client : Option (List ℕ)) (kind : MessageKind) (server : Option (List ℕ))
        → identified own (identifying u client kind server) ≡ Err fault
        → Says own (identifying u client kind server) fault
    by client Information server e = subst (Says own (identifying u client Information server)) (err_is _ _ e) refl
    by None (Lease kind) server e = subst (Says own (identifying u None (Lease kind) server)) (err_is _ _ e) refl
    by (Some client) (Lease Solicit) None e = absurd cc
    by (Some client) (Lease Solicit) (Some server) e =
        subst (Says own (identifying u (Some client) (Lease Solicit) (Some server))) (err_is _ _ e) (refl, tt, refl)
    by (Some client) (Lease Rebind) None e = absurd cc
    by (Some client) (Lease Rebind) (Some server) e =
        subst (Says own (identifying u (Some client) (Lease Rebind) (Some server))) (err_is _ _ e) (refl, tt, refl)
    by (Some client) (Lease Request) server e = to_one client Request server (λ one. one) _ e
    by (Some client) (Lease Renew) server e = to_one client Renew server (λ one. one) _ e
    by (Some client) (Lease Release) server e = to_one client Release server (λ one. one) _ e

present : (own : List ℕ) (u : UnvalidatedMessage) (client : Option (List ℕ)) (kind : MessageKind)
    (server : Option (List ℕ)) → IsSome client → IsToAny kind → IsSome server
    → identified own (identifying u client kind server) ≡ Err ServerIdPresent
unfolding identified for_server
present own u None kind server client any some = absurd (let e : false ≡ true = client in cc)
present own u (Some client) kind None is any some = absurd (let e : false ≡ true = some in cc)
present own u (Some client) (Lease Solicit) (Some server) is any some = refl
present own u (Some client) (Lease Rebind) (Some server) is any some = refl
present own u (Some client) (Lease Request) (Some server) is any some = absurd any
present own u (Some client) (Lease Renew) (Some server) is any some = absurd any
present own u (Some client) (Lease Release) (Some server) is any some = absurd any
present own u (Some client) Information (Some server) is any some = absurd any

missing : (own : List ℕ) (u : UnvalidatedMessage) (client : Option (List ℕ)) (kind : MessageKind) → IsRead Leases kind
    → IsSome client → (IsToAny kind → ⊥) → identified own (identifying u client kind None) ≡ Err ServerIdMissing
unfolding identified for_server
missing own u None kind read is one = absurd (let e : false ≡ true = is in cc)
missing own u (Some client) (Lease Solicit) read is one = absurd (one tt)
missing own u (Some client) (Lease Rebind) read is one = absurd (one tt)
missing own u (Some client) (Lease Request) read is one = refl
missing own u (Some client) (Lease Renew) read is one = refl
missing own u (Some client) (Lease Release) read is one = refl
missing own u (Some client) Information read is one = absurd read

another : (own : List ℕ) (u : UnvalidatedMessage) (client : Option (List ℕ)) (kind : MessageKind)
    (server : Option (List ℕ)) → IsRead Leases kind → IsSome client → (IsToAny kind → ⊥)
    → IsSomeAnd server (λ s. s ≢ own) → identified own (identifying u client kind server) ≡ Err NotOurs
unfolding identified for_server
another own u None kind server read is one ne = absurd (let e : false ≡ true = is in cc)
another own u (Some client) kind None read is one ne = absurd ne
another own u (Some client) (Lease Solicit) (Some server) read is one ne = absurd (one tt)
another own u (Some client) (Lease Rebind) (Some server) read is one ne = absurd (one tt)
another own u (Some client) (Lease Request) (Some server) read is one ne = rw (differs own server ne) refl
another own u (Some client) (Lease Renew) (Some server) read is one ne = rw (differs own server ne) refl
another own u (Some client) (Lease Release) (Some server) read is one ne = rw (differs own server ne) refl
another own u (Some client) Information (Some server) read is one ne = absurd read

nobody : (own : List ℕ) (u : UnvalidatedMessage) (kind : MessageKind) (server : Option (List ℕ)) → IsRead Leases kind
    → identified own (identifying u None kind server) ≡ Err NoClientId
unfolding identified
nobody own u (Lease kind) server read = refl
nobody own u Information server read = absurd read

says_again : (own : List ℕ) (u : UnvalidatedMessage) (fault : PdFault) → IsRead Leases u.kind → Says own u fault
    → identified own u ≡ Err fault
unfolding identified
says_again own u NoClientId read h = rw h (nobody own u u.kind u.server read)
says_again own u ServerIdPresent read h = present own u u.client u.kind u.server h.0 h.1 h.2
says_again own u ServerIdMissing read h = rw h.2 (missing own u u.client u.kind read h.0 h.1)
says_again own u NotOurs read h = another own u u.client u.kind u.server read h.0 h.1 h.2
says_again own u Short read h = absurd h
says_again own u OptionLength read h = absurd h
says_again own u DuplicateId read h = absurd h
says_again own u TooManyIas read h = absurd h
says_again own u BadPrefixLength read h = absurd h
says_again own u TooDeep read h = absurd h
says_again own u Ignored read h = rw h refl

message_fails : (own octets : List ℕ) (fault : PdFault) → AreOctets octets → (OfOctets fault → ⊥)
    → message_of own octets ≡ Err fault → SpellsOne octets (λ u. Says own u fault)
message_fails own octets fault fits last e =
    by (message_in Leases MAX_RELAYS octets) refl (message_faults Leases MAX_RELAYS octets) e
  where
    by : (r : Result UnvalidatedMessage PdFault) → message_in Leases MAX_RELAYS octets ≡ r → Faults OfOctets r
        → (r >>! identified own) ≡ Err fault → SpellsOne octets (λ u. Says own u fault)
    by (Ok u) is h e =
        let t = untested_takes Leases octets u fits is in (u, t.0, t.1, says_takes own u fault e)
    by (Err other) is h e = absurd (let same : other ≡ fault = cc in last (subst OfOctets same h))

fails_message : (own octets : List ℕ) (fault : PdFault) → SpellsOne octets (λ u. Says own u fault)
    → message_of own octets ≡ Err fault
fails_message own octets fault h =
    rw (untested_again Leases octets h.0 h.2 h.1) (says_again own h.0 fault h.2 h.3)

pub deeper_fails : (own octets : List ℕ) → AreOctets octets → message_of own octets ≡ Err TooDeep
    → IsDeeper MAX_RELAYS octets
deeper_fails own octets fits e = by (message_in Leases MAX_RELAYS octets) refl e
  where
    by : (r : Result UnvalidatedMessage PdFault) → message_in Leases MAX_RELAYS octets ≡ r
        → (r >>! identified own) ≡ Err TooDeep → IsDeeper MAX_RELAYS octets
    by (Ok u) is e = absurd (says_takes own u TooDeep e)
    by (Err fault) is e = deep_takes MAX_RELAYS octets fits (is ∙ cc)

pub other_fails : (own octets : List ℕ) → AreOctets octets → message_of own octets ≡ Err Ignored
    → IsOfOtherType MAX_RELAYS octets
other_fails own octets fits e = by (message_in Leases MAX_RELAYS octets) refl e
  where
    by : (r : Result UnvalidatedMessage PdFault) → message_in Leases MAX_RELAYS octets ≡ r
        → (r >>! identified own) ≡ Err Ignored → IsOfOtherType MAX_RELAYS octets
    by (Ok u) is e =
        absurd (subst (IsRead Leases) (says_takes own u Ignored e) (untested_takes Leases octets u fits is).1)
    by (Err fault) is e = other_takes MAX_RELAYS octets fits (is ∙ cc)

pub fails_deeper : (own octets : List ℕ) → IsDeeper MAX_RELAYS octets → message_of own octets ≡ Err TooDeep
fails_deeper own octets h = rw (deep_again MAX_RELAYS octets h.inside h.carried h.some h.kind) refl

pub fails_other : (own octets : List ℕ) → IsOfOtherType MAX_RELAYS octets → message_of own octets ≡ Err Ignored
fails_other own octets h = rw (other_again h.relays MAX_RELAYS octets h.inside h.few h.carried h.some h.relay h.other)
    refl

-- ---- what a function answers that gives what parsing gives

refuses : {Why : Type 0} (r : Result ClientMessage PdError) (parsed : Result ClientMessage PdFault) (fault : PdFault)
    → Gives (λ m. m) r parsed → (parsed ≡ Err fault → Why) → (Why → parsed ≡ Err fault)
    → Refuses r fault Why
refuses (Ok m) parsed fault h takes again no_memory =
    ((λ e. absurd cc), (λ why. absurd (let e : Err fault ≡ Ok m = sym (again why) ∙ h in cc)))
refuses (Err (Fault other)) parsed fault h takes again no_memory = (
  (λ e. takes (h ∙ (let same : other ≡ fault = cc in ap (λ (f : PdFault). Err f) same))),
  (λ why. ap (λ (f : PdFault). Err (Fault f)) (err_is other fault (sym h ∙ again why))),
)
refuses (Err TooLong) parsed fault h takes again no_memory = absurd h
refuses (Err Memory) parsed fault h takes again no_memory = absurd (no_memory refl)

no_form : (own : List ℕ) (u : UnvalidatedMessage) (fault : PdFault) → IsOfForm fault → Says own u fault → ⊥
no_form own u NoClientId form says = form
no_form own u ServerIdPresent form says = form
no_form own u ServerIdMissing form says = form
no_form own u NotOurs form says = form
no_form own u Short form says = says
no_form own u OptionLength form says = says
no_form own u DuplicateId form says = says
no_form own u TooManyIas form says = says
no_form own u BadPrefixLength form says = says
no_form own u TooDeep form says = form
no_form own u Ignored form says = form

malformed : (own octets : List ℕ) (fault : PdFault) → IsOfForm fault → message_of own octets ≡ Err fault
    → IsMalformed octets
malformed own octets fault form e u read h =
    no_form own u fault form (says_takes own u fault
    (sym (ap (λ (r : Result UnvalidatedMessage PdFault). r >>! identified own) (untested_again Leases octets u read h)) ∙ e))

-- each refusal of a function whose answer is what parsing gives
pub record RefusesEach (own octets : List ℕ) (r : Result ClientMessage PdError) : Type 0 where
  pub malformed : (fault : PdFault) → IsOfForm fault → r ≡ Err (Fault fault) → IsMalformed octets
  pub ignored : Refuses r Ignored (IsOfOtherType MAX_RELAYS octets)
  pub too_deep : Refuses r TooDeep (IsDeeper MAX_RELAYS octets)
  pub no_client : Refuses r NoClientId (SpellsOne octets NamesNoClient)
  pub present : Refuses r ServerIdPresent (SpellsOne octets NamesServerOfAny)
  pub missing : Refuses r ServerIdMissing (SpellsOne octets NamesNoServer)
  pub not_ours : Refuses r NotOurs (SpellsOne octets (NamesAnother own))

pub refuses_each : (own octets : List ℕ) (r : Result ClientMessage PdError) → AreOctets octets
    → Gives (λ m. m) r (message_of own octets) → RefusesEach own octets r
refuses_each own octets r fits h = record {
  malformed = λ fault form e. malformed own octets fault form
      (subst (λ (x : Result ClientMessage PdError). Gives (λ m. m) x (message_of own octets)) e h);
  ignored = refuses r (message_of own octets) Ignored h (other_fails own octets fits) (fails_other own octets);
  too_deep = refuses r (message_of own octets) TooDeep h (deeper_fails own octets fits) (fails_deeper own octets);
  no_client = by_name NoClientId (λ e. e);
  present = by_name ServerIdPresent (λ e. e);
  missing = by_name ServerIdMissing (λ e. e);
  not_ours = by_name NotOurs (λ e. e);
}
  where
    by_name : (fault : PdFault) → (OfOctets fault → ⊥) → Refuses r fault (SpellsOne octets (λ u. Says own u fault))
    by_name fault last = refuses r (message_of own octets) fault h (message_fails own octets fault fits last)
        (fails_message own octets fault)
