-- What is read as a request for options alone is what the octets spell.
use Rattle.std.proofs.Common.{◌≡◌, ℕ, Bool, true, false, List, [], ◌∷◌, Option, Some, None, Result, Ok, Err, refl, ap}
use Rattle.std.proofs.Common.{subst, ◌∙◌}
use Rattle.std.specs.Prelude.{◌&&◌, IfOk}
use Rattle.std.specs.Str.{bytes_eq}
use Rattle.std.proofs.lemmas.Slice.Eq.{bytes_eq-Decides}
use Rattle.text_fields.specs.Octets.{AreOctets}
use Rattle.dhcp6_pd.specs.declared.error.PdFault.{PdFault}
use Rattle.dhcp6_pd.specs.declared.error.PdFault.TheVariants.{NotOurs, Ignored}
use Rattle.dhcp6_pd.specs.declared.error.PdError.{PdError}
use Rattle.dhcp6_pd.specs.declared.message.IaPd.{IaPd}
use Rattle.dhcp6_pd.specs.declared.message.InformationRequest.{InformationRequest}
use Rattle.dhcp6_pd.specs.declared.message_class.MessageClass.TheVariants as which
use Rattle.dhcp6_pd.specs.declared.message_class.MessageKind.{MessageKind}
use Rattle.dhcp6_pd.specs.declared.message_class.MessageKind.TheVariants.{Lease, Information}
use Rattle.dhcp6_pd.specs.declared.unvalidated.UnvalidatedMessage.{UnvalidatedMessage}
use Rattle.dhcp6_pd.specs.declared.numbers.TheConstants.{MAX_RELAYS}
use Rattle.dhcp6_pd.specs.Grammar.{SpellsUnvalidated, inquiry, NamesOnly, SpellsInformation}
use Rattle.dhcp6_pd.specs.Refusals.{IsRead}
use Rattle.dhcp6_pd.specs.Faults.{message_in, for_any, is_none, has_no_ia, inquired, information_of}
use Rattle.dhcp6_pd.specs.Answers.{Gives}
use Rattle.dhcp6_pd.proofs.Binds.{bind_ok, allowed, ok_is}
use Rattle.dhcp6_pd.proofs.IdentityLaws.{untested_takes, untested_again}

both : (a b : Bool) → (a && b) ≡ true → (a ≡ true) × (b ≡ true)
both true b e = (refl, e)
both false b e = absurd cc

none_is : {A : Type 0} (xs : List A) → is_none xs ≡ true → xs ≡ []
none_is [] e = refl
none_is (x ∷ xs) e = absurd cc

information_is : (kind : MessageKind) → IsRead which.Information kind → kind ≡ Information
information_is (Lease kind) h = absurd h
information_is Information h = refl

names_takes : (own : List ℕ) (server : Option (List ℕ)) → for_any own server ≡ Ok tt → NamesOnly own server
unfolding for_any
names_takes own None e = tt
names_takes own (Some server) e =
    (bytes_eq-Decides server own).0 (allowed {A = Unit {0}} (bytes_eq server own) NotOurs (Ok tt) tt e).0

inquired_takes : (own : List ℕ) (u : UnvalidatedMessage) (i : InformationRequest) → IsRead which.Information u.kind
    → inquired own u ≡ Ok i → NamesOnly own u.server × (u ≡ inquiry u.server i)
unfolding inquired
inquired_takes own u i read e =
    let a = bind_ok (for_any own u.server) _ i e in
    let h = allowed (has_no_ia u) Ignored _ i a.2 in
    let first = both (is_none u.ias) _ h.0 in
    let second = both (is_none u.prefixes) _ first.1 in
    let rest = both (is_none u.addresses) (is_none u.temporaries) second.1 in
    let server = u.server in (
      names_takes own u.server a.1,
      ap (λ (x : MessageKind). record u { kind = x }) (information_is u.kind read)
          ∙ (ap (λ (x : List IaPd). record u { kind = Information; ias = x }) (none_is u.ias first.0)
          ∙ (ap (λ (x : List IaPd). record u { kind = Information; ias = []; prefixes = x }) (none_is u.prefixes second.0)
          ∙ (ap (λ (x : List ℕ). record u { kind = Information; ias = []; prefixes = []; addresses = x })
          (none_is u.addresses rest.0)
          ∙ (ap (λ (x : List ℕ). record u { kind = Information; ias = []; prefixes = []; addresses = []; temporaries = x })
          (none_is u.temporaries rest.1) ∙ ap (inquiry server) (ok_is _ _ h.1))))),
    )

inquired_again : (own : List ℕ) (server : Option (List ℕ)) (i : InformationRequest) → NamesOnly own server
    → inquired own (inquiry server i) ≡ Ok i
unfolding inquired for_any
inquired_again own None i h = refl
inquired_again own (Some server) i h = rw ((bytes_eq-Decides server own).1 h) refl

information_takes : (own octets : List ℕ) (i : InformationRequest) → AreOctets octets
    → information_of own octets ≡ Ok i → SpellsInformation own octets i
information_takes own octets i fits e =
    let b = bind_ok (message_in which.Information MAX_RELAYS octets) (inquired own) i e in
    let u = b.0 in
    let t = untested_takes which.Information octets u fits b.1 in
    let q = inquired_takes own u i t.1 b.2 in
    (u.server, q.0, subst (SpellsUnvalidated octets) q.1 t.0)

information_again : (own octets : List ℕ) (i : InformationRequest) → SpellsInformation own octets i
    → information_of own octets ≡ Ok i
information_again own octets i h =
    rw (untested_again which.Information octets (inquiry h.0 i) tt h.2) (inquired_again own h.0 i h.1)

-- ---- what a function gives that gives what parsing gives

pub is_found : (own octets : List ℕ) (r : Result InformationRequest PdError) → AreOctets octets
    → Gives (λ i. i) r (information_of own octets) → IfOk r (λ i. SpellsInformation own octets i)
is_found own octets (Ok i) fits h = information_takes own octets i fits h
is_found own octets (Err e) fits h = tt

pub is_only : (own octets : List ℕ) (r : Result InformationRequest PdError) (i : InformationRequest)
    → Gives (λ x. x) r (information_of own octets) → SpellsInformation own octets i → Gives (λ x. x) r (Ok i)
is_only own octets r i h spelled = subst (λ (parsed : Result InformationRequest PdFault). Gives (λ x. x) r parsed)
    (information_again own octets i spelled) h
