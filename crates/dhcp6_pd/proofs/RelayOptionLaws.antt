-- What is read of a relay's options is what they say.
use Rattle.std.proofs.Common.{◌≡◌, ℕ, Bool, true, false, List, [], ◌∷◌, Option, Some, None, Ok, refl, sym, ap, subst}
use Rattle.std.proofs.Common.{◌∙◌}
use Rattle.std.specs.Prelude.{◌==◌, if◌then◌else◌}
use Rattle.dhcp6_pd.specs.declared.relay_options.RelayOptions.{RelayOptions}
use Rattle.dhcp6_pd.specs.declared.numbers.TheConstants.{CLIENT_ID, SERVER_ID, RELAY_MESSAGE, INTERFACE_ID, IA_PREFIX}
use Rattle.dhcp6_pd.specs.declared.numbers.TheConstants.{REMOTE_ID}
use Rattle.dhcp6_pd.specs.declared.option_code.OptionCode.TheVariants.{IaPrefix, Other}
use Rattle.dhcp6_pd.specs.Options.{DhcpOption, data_of}
use Rattle.dhcp6_pd.specs.Rows.{code_of, folded}
use Rattle.dhcp6_pd.specs.Faults.{seen_once, relay_id_once, relay_code, relay_option}
use Rattle.dhcp6_pd.proofs.Binds.{bind_ok, ok_is, put}
use Rattle.dhcp6_pd.proofs.Codes.{IsOther, by_code, option_of, same_data}
use Rattle.dhcp6_pd.proofs.Wholes.{whole}
use Rattle.dhcp6_pd.proofs.OnceLaws.{Sees, sees_takes, sees_again}

-- an identifier of the relay that stands at most once
abbrev pub Stands : Option (List ℕ) → List (List ℕ) → Option (List ℕ) → Type 0
Stands before [] after = after ≡ before
Stands before (octets ∷ more) after = (before ≡ None) × (more ≡ []) × (after ≡ Some octets)

-- what options add to what is known of a relay
pub record AddsToRelay (l : RelayOptions) (options : List DhcpOption) (t : RelayOptions) : Type 0 where
  pub client : Sees l.client (data_of CLIENT_ID options) t.client
  pub server : Sees l.server (data_of SERVER_ID options) t.server
  pub relayed : Sees l.relayed (data_of RELAY_MESSAGE options) t.relayed
  pub interface : Stands l.interface (data_of INTERFACE_ID options) t.interface
  pub remote : Stands l.remote (data_of REMOTE_ID options) t.remote

stands_last : (octets : List ℕ) (all : List (List ℕ)) (after : Option (List ℕ)) → Stands (Some octets) all after
    → (all ≡ []) × (after ≡ Some octets)
stands_last octets [] after h = (refl, h)
stands_last octets (other ∷ all) after h = absurd (let e = h.0 in cc)

stands_takes : (before middle after : Option (List ℕ)) (octets : List ℕ) (all : List (List ℕ))
    → relay_id_once before octets ≡ Ok middle → Stands middle all after → Stands before (octets ∷ all) after
stands_takes None middle after octets all e h =
    let l = stands_last octets all after (subst (λ (o : Option (List ℕ)). Stands o all after) (sym (ok_is _ _ e)) h) in
    (refl, l.0, l.1)
stands_takes (Some id) middle after octets all e h = absurd cc

stands_again : (before after : Option (List ℕ)) (octets : List ℕ) (all : List (List ℕ))
    → Stands before (octets ∷ all) after → (relay_id_once before octets ≡ Ok (Some octets))
    × Stands (Some octets) all after
stands_again before after octets all h = (
  ap (λ (o : Option (List ℕ)). relay_id_once o octets) h.0,
  subst (λ (xs : List (List ℕ)). Stands (Some octets) xs after) (sym h.1) h.2,
)

other_code : (code : ℕ) (l : RelayOptions) (octets : List ℕ) → IsOther code → relay_code (code_of code) l octets ≡ Ok l
unfolding code_of
other_code code l octets h = rw (h.client, h.server, h.relayed, h.interface, h.remote, h.ia) (by (code == IA_PREFIX))
  where
    by : (t : Bool) → relay_code (if t then IaPrefix else Other) l octets ≡ Ok l
    by true = refl
    by false = refl

-- ---- one option before others

other_takes : (code : ℕ) (l t : RelayOptions) (octets : List ℕ) (options : List DhcpOption) → IsOther code
    → AddsToRelay l options t → AddsToRelay l (option_of code octets ∷ options) t
other_takes code l t octets options other h = let d = same_data code octets options other in record {
  client = rw d.client h.client;
  server = rw d.server h.server;
  relayed = rw d.relayed h.relayed;
  interface = rw d.interface h.interface;
  remote = rw d.remote h.remote;
}

pub relay_step : (l more t : RelayOptions) (octets : List ℕ) (options : List DhcpOption) (code : ℕ)
    → AddsToRelay more options t → relay_code (code_of code) l octets ≡ Ok more
    → AddsToRelay l (option_of code octets ∷ options) t
unfolding code_of
relay_step l more t octets options code h =
    by_code (λ (k : ℕ). relay_code (code_of k) l octets ≡ Ok more → AddsToRelay l (option_of k octets ∷ options) t)
    (λ e. (let k = put Adds (seen_once l.client) (λ x. record l { client = x }) more e h in
    record {
      client = sees_takes l.client k.0 t.client octets (data_of CLIENT_ID options) k.1 k.2.client;
      server =
          k.2.server;
      relayed = k.2.relayed;
      interface = k.2.interface;
      remote = k.2.remote;
    }))
    (λ e. (let k = put Adds (seen_once l.server) (λ x. record l { server = x }) more e h in
    record {
      client = k.2.client;
      server = sees_takes l.server k.0 t.server octets
          (data_of SERVER_ID options) k.1 k.2.server;
      relayed = k.2.relayed;
      interface = k.2.interface;
      remote = k.2.remote;
    }))
    (λ e. (let k = put Adds (seen_once l.relayed) (λ x. record l { relayed = x }) more e h in
    record {
      client = k.2.client;
      server = k.2.server;
      relayed =
          sees_takes l.relayed k.0 t.relayed octets (data_of RELAY_MESSAGE options) k.1 k.2.relayed;
      interface = k.2.interface;
      remote = k.2.remote;
    }))
    (λ e. (let k = put Adds (relay_id_once l.interface octets) (λ x. record l { interface = x }) more e h in
    record {
      client = k.2.client;
      server = k.2.server;
      relayed = k.2.relayed;
      interface =
          stands_takes l.interface k.0 t.interface octets (data_of INTERFACE_ID options) k.1 k.2.interface;
      remote = k.2.remote;
    }))
    (λ e. (let k = put Adds (relay_id_once l.remote octets) (λ x. record l { remote = x }) more e h in
    record {
      client = k.2.client;
      server = k.2.server;
      relayed = k.2.relayed;
      interface = k.2.interface;
      remote = stands_takes l.remote k.0 t.remote octets (data_of REMOTE_ID options) k.1 k.2.remote;
    }))
    (λ e. (let k = subst Adds (sym (ok_is _ _ e)) h in
    record { client = k.client; server = k.server; relayed = k.relayed; interface = k.interface; remote = k.remote }))
    (λ k other e. other_takes k l t octets options other
    (subst Adds (sym (ok_is _ _ (sym (other_code k l octets other) ∙ e))) h))
    code
  where
    Adds : RelayOptions → Type 0
    Adds m = AddsToRelay m options t

-- ---- and back

pub record NextOfRelay (l : RelayOptions) (octets : List ℕ) (code : ℕ) (options : List DhcpOption) (t : RelayOptions) :
    Type 0 where
  pub more : RelayOptions
  pub found : relay_code (code_of code) l octets ≡ Ok more
  pub later : AddsToRelay more options t

other_again : (code : ℕ) (l t : RelayOptions) (octets : List ℕ) (options : List DhcpOption) → IsOther code
    → AddsToRelay l (option_of code octets ∷ options) t → NextOfRelay l octets code options t
other_again code l t octets options other h = let d = same_data code octets options other in record {
  more = l;
  found = other_code code l octets other;
  later = record {
    client = subst (λ (xs : List (List ℕ)). Sees l.client xs t.client) d.client h.client;
    server = subst (λ (xs : List (List ℕ)). Sees l.server xs t.server) d.server h.server;
    relayed = subst (λ (xs : List (List ℕ)). Sees l.relayed xs t.relayed) d.relayed h.relayed;
    interface = subst (λ (xs : List (List ℕ)). Stands l.interface xs t.interface) d.interface h.interface;
    remote = subst (λ (xs : List (List ℕ)). Stands l.remote xs t.remote) d.remote h.remote;
  };
}

pub relay_next : (l t : RelayOptions) (octets : List ℕ) (options : List DhcpOption) (code : ℕ)
    → AddsToRelay l (option_of code octets ∷ options) t → NextOfRelay l octets code options t
unfolding code_of
relay_next l t octets options code =
    by_code (λ (k : ℕ). AddsToRelay l (option_of k octets ∷ options) t → NextOfRelay l octets k options t)
    (λ h. (let k = sees_again l.client t.client octets (data_of CLIENT_ID options) h.client in record {
      more = record l { client = true };
      found = rw k.0 refl;
      later = record {
        client = k.1;
        server = h.server;
        relayed = h.relayed;
        interface = h.interface;
        remote = h.remote;
      };
    }))
    (λ h. (let k = sees_again l.server t.server octets (data_of SERVER_ID options) h.server in record {
      more = record l { server = true };
      found = rw k.0 refl;
      later = record {
        client = h.client;
        server = k.1;
        relayed = h.relayed;
        interface = h.interface;
        remote = h.remote;
      };
    }))
    (λ h. (let k = sees_again l.relayed t.relayed octets (data_of RELAY_MESSAGE options) h.relayed in record {
      more = record l { relayed = true };
      found = rw k.0 refl;
      later = record {
        client = h.client;
        server = h.server;
        relayed = k.1;
        interface = h.interface;
        remote = h.remote;
      };
    }))
    (λ h. (let k = stands_again l.interface t.interface octets (data_of INTERFACE_ID options) h.interface in record {
      more = record l { interface = Some octets };
      found = rw k.0 refl;
      later = record { client = h.client; server = h.server; relayed = h.relayed; interface = k.1; remote = h.remote };
    }))
    (λ h. (let k = stands_again l.remote t.remote octets (data_of REMOTE_ID options) h.remote in record {
      more = record l { remote = Some octets };
      found = rw k.0 refl;
      later = record {
        client = h.client;
        server = h.server;
        relayed = h.relayed;
        interface = h.interface;
        remote = k.1;
      };
    }))
    (λ h. record {
      more = l;
      found = refl;
      later = record {
        client = h.client;
        server = h.server;
        relayed = h.relayed;
        interface = h.interface;
        remote = h.remote;
      };
    })
    (λ k other h. other_again k l t octets options other h)
    code

-- ---- all options behind the relay message

relay_same : (l t : RelayOptions) → AddsToRelay l [] t → l ≡ t
relay_same l t h =
    ap (λ (x : Bool). record l { client = x }) (sym h.client)
    ∙ (ap (λ (x : Bool). record l { client = t.client; server = x }) (sym h.server)
    ∙ (ap (λ (x : Bool). record l { client = t.client; server = t.server; relayed = x }) (sym h.relayed)
    ∙ (ap (λ (x : Option (List ℕ)).
    record l { client = t.client; server = t.server; relayed = t.relayed; interface = x })
    (sym h.interface)
    ∙ ap (λ (x : Option (List ℕ)). record {
      client = t.client;
      server = t.server;
      relayed = t.relayed;
      interface = t.interface;
      remote = x;
    }) (sym h.remote))))

pub relay_options_takes : (options : List DhcpOption) (l t : RelayOptions)
    → folded relay_option l (whole options) ≡ Ok t → AddsToRelay l options t
unfolding folded relay_option
relay_options_takes [] l t e = rw (sym (ok_is _ _ e)) (record {
  client = refl;
  server = refl;
  relayed = refl;
  interface = refl;
  remote = refl;
})
relay_options_takes (o ∷ options) l t e =
    let b = bind_ok (relay_code (code_of o.code) l o.octets) _ t e in
    relay_step l b.0 t o.octets options o.code (relay_options_takes options b.0 t b.2) b.1

pub relay_options_again : (options : List DhcpOption) (l t : RelayOptions) → AddsToRelay l options t
    → folded relay_option l (whole options) ≡ Ok t
unfolding folded relay_option
relay_options_again [] l t h = ap (λ (x : RelayOptions). Ok x) (relay_same l t h)
relay_options_again (o ∷ options) l t h =
    let k = relay_next l t o.octets options o.code h in
    rw k.found (relay_options_again options k.more t k.later)
