-- What is read of a client's options is what they say.
use Rattle.std.proofs.Common.{◌≡◌, ℕ, Bool, true, false, List, [], ◌∷◌, ◌++◌, length, Option, Some, Ok, refl, sym, ap}
use Rattle.std.proofs.Common.{subst, ◌∙◌, append-nil, ◌≤◌}
use Rattle.std.specs.Prelude.{◌==◌, if◌then◌else◌}
use Rattle.std.specs.List.{AllByRecursion}
use Rattle.text_fields.specs.Octets.{AreOctets}
use Rattle.dhcp6_pd.specs.declared.message.IaPd.{IaPd}
use Rattle.dhcp6_pd.specs.declared.client_options.ClientOptions.{ClientOptions}
use Rattle.dhcp6_pd.specs.declared.numbers.TheConstants.{CLIENT_ID, SERVER_ID, RELAY_MESSAGE, INTERFACE_ID, IA_PD}
use Rattle.dhcp6_pd.specs.declared.numbers.TheConstants.{IA_PREFIX, MAX_IAS}
use Rattle.dhcp6_pd.specs.declared.option_code.OptionCode.TheVariants.{IaPrefix, Other}
use Rattle.dhcp6_pd.specs.Options.{DhcpOption, IsOption, data_of}
use Rattle.dhcp6_pd.specs.Rows.{code_of, folded}
use Rattle.dhcp6_pd.specs.Grammar.{SpellIas}
use Rattle.dhcp6_pd.specs.Faults.{once, seen_once, with_ia, client_code, client_option}
use Rattle.dhcp6_pd.proofs.Binds.{bind_ok, ok_is, put}
use Rattle.dhcp6_pd.proofs.Codes.{IsOther, by_code, option_of, same_data}
use Rattle.dhcp6_pd.proofs.Wholes.{whole}
use Rattle.dhcp6_pd.proofs.OnceLaws.{Once, Sees, AddsIas, once_takes, once_again, sees_takes, sees_again, ias_takes}
use Rattle.dhcp6_pd.proofs.OnceLaws.{ias_again}

-- what options add to what is known of a client's message
pub record AddsToClient (s : ClientOptions) (options : List DhcpOption) (t : ClientOptions) : Type 0 where
  pub client : Once s.client (data_of CLIENT_ID options) t.client
  pub server : Once s.server (data_of SERVER_ID options) t.server
  pub relayed : Sees s.relayed (data_of RELAY_MESSAGE options) t.relayed
  pub interface : Sees s.interface (data_of INTERFACE_ID options) t.interface
  pub ias : AddsIas s.ias (data_of IA_PD options) t.ias

-- an option that is not read
other_code : (code : ℕ) (s : ClientOptions) (octets : List ℕ) → IsOther code
    → client_code (code_of code) s octets ≡ Ok s
unfolding code_of
other_code code s octets h = rw (h.client, h.server, h.relayed, h.interface, h.remote, h.ia) (by (code == IA_PREFIX))
  where
    by : (t : Bool) → client_code (if t then IaPrefix else Other) s octets ≡ Ok s
    by true = refl
    by false = refl

-- ---- one option before others

other_takes : (code : ℕ) (s t : ClientOptions) (octets : List ℕ) (options : List DhcpOption) → IsOther code
    → AddsToClient s options t → AddsToClient s (option_of code octets ∷ options) t
other_takes code s t octets options other h = let d = same_data code octets options other in record {
  client = rw d.client h.client;
  server = rw d.server h.server;
  relayed = rw d.relayed h.relayed;
  interface = rw d.interface h.interface;
  ias = rw d.ia h.ias;
}

client_step : (s more t : ClientOptions) (octets : List ℕ) (options : List DhcpOption) (code : ℕ) → AreOctets octets
    → AddsToClient more options t → client_code (code_of code) s octets ≡ Ok more
    → AddsToClient s (option_of code octets ∷ options) t
unfolding code_of
client_step s more t octets options code fits h =
    by_code (λ (k : ℕ). client_code (code_of k) s octets ≡ Ok more → AddsToClient s (option_of k octets ∷ options) t)
    (λ e. (let k = put Adds (once s.client octets) (λ x. record s { client = x }) more e h in
    record {
      client = once_takes s.client k.0 t.client octets (data_of CLIENT_ID options) fits k.1 k.2.client;
      server = k.2.server;
      relayed = k.2.relayed;
      interface = k.2.interface;
      ias = k.2.ias;
    }))
    (λ e. (let k = put Adds (once s.server octets) (λ x. record s { server = x }) more e h in
    record {
      client = k.2.client;
      server = once_takes s.server k.0 t.server octets
          (data_of SERVER_ID options) fits k.1 k.2.server;
      relayed = k.2.relayed;
      interface = k.2.interface;
      ias =
          k.2.ias;
    }))
    (λ e. (let k = put Adds (seen_once s.relayed) (λ x. record s { relayed = x }) more e h in
    record {
      client = k.2.client;
      server = k.2.server;
      relayed =
          sees_takes s.relayed k.0 t.relayed octets (data_of RELAY_MESSAGE options) k.1 k.2.relayed;
      interface =
          k.2.interface;
      ias = k.2.ias;
    }))
    (λ e. (let k = put Adds (seen_once s.interface) (λ x. record s { interface = x }) more e h in
    record {
      client = k.2.client;
      server = k.2.server;
      relayed = k.2.relayed;
      interface =
          sees_takes s.interface k.0 t.interface octets (data_of INTERFACE_ID options) k.1 k.2.interface;
      ias =
          k.2.ias;
    }))
    (λ e. (let k = subst Adds (sym (ok_is _ _ e)) h in
    record {
      client = k.client;
      server = k.server;
      relayed = k.relayed;
      interface = k.interface;
      ias = k.ias;
    }))
    (λ e. (let k = put Adds (with_ia s.ias octets) (λ x. record s { ias = x }) more e h in
    record {
      client = k.2.client;
      server = k.2.server;
      relayed = k.2.relayed;
      interface = k.2.interface;
      ias =
          ias_takes s.ias k.0 t.ias octets (data_of IA_PD options) fits k.1 k.2.ias;
    }))
    (λ k other e. other_takes k s t octets options other
    (subst Adds (sym (ok_is _ _ (sym (other_code k s octets other) ∙ e))) h))
    code
  where
    Adds : ClientOptions → Type 0
    Adds m = AddsToClient m options t

pub client_options_takes : (options : List DhcpOption) (s t : ClientOptions) → AllByRecursion IsOption options
    → folded client_option s (whole options) ≡ Ok t → AddsToClient s options t
unfolding folded client_option
client_options_takes [] s t each e = rw (sym (ok_is _ _ e))
    (record {
      client = refl;
      server = refl;
      relayed = refl;
      interface = refl;
      ias =
          record { new = []; spelled = tt; joined = sym (append-nil s.ias); few = λ h. h };
    })
client_options_takes (o ∷ options) s t each e =
    let b = bind_ok (client_code (code_of o.code) s o.octets) _ t e in
    client_step s b.0 t o.octets options o.code each.0.octets (client_options_takes options b.0 t each.1 b.2) b.1

-- ---- and back

-- the next of some options that are added
pub record NextOfClient (s : ClientOptions) (octets : List ℕ) (code : ℕ) (options : List DhcpOption)
    (t : ClientOptions) : Type 0 where
  pub more : ClientOptions
  pub found : client_code (code_of code) s octets ≡ Ok more
  pub later : AddsToClient more options t

other_again : (code : ℕ) (s t : ClientOptions) (octets : List ℕ) (options : List DhcpOption) → IsOther code
    → AddsToClient s (option_of code octets ∷ options) t → NextOfClient s octets code options t
other_again code s t octets options other h = let d = same_data code octets options other in record {
  more = s;
  found = other_code code s octets other;
  later = record {
    client = subst (λ (xs : List (List ℕ)). Once s.client xs t.client) d.client h.client;
    server = subst (λ (xs : List (List ℕ)). Once s.server xs t.server) d.server h.server;
    relayed = subst (λ (xs : List (List ℕ)). Sees s.relayed xs t.relayed) d.relayed h.relayed;
    interface = subst (λ (xs : List (List ℕ)). Sees s.interface xs t.interface) d.interface h.interface;
    ias = subst (λ (xs : List (List ℕ)). AddsIas s.ias xs t.ias) d.ia h.ias;
  };
}

client_next : (s t : ClientOptions) (octets : List ℕ) (options : List DhcpOption) (code : ℕ) → length t.ias ≤ MAX_IAS
    → AddsToClient s (option_of code octets ∷ options) t → NextOfClient s octets code options t
unfolding code_of
client_next s t octets options code few =
    by_code (λ (k : ℕ). AddsToClient s (option_of k octets ∷ options) t → NextOfClient s octets k options t)
    (λ h. (let k = once_again s.client t.client octets (data_of CLIENT_ID options) h.client in record {
      more = record s { client = Some octets };
      found = rw k.0 refl;
      later = record { client = k.1; server = h.server; relayed = h.relayed; interface = h.interface; ias = h.ias };
    }))
    (λ h. (let k = once_again s.server t.server octets (data_of SERVER_ID options) h.server in record {
      more = record s { server = Some octets };
      found = rw k.0 refl;
      later = record { client = h.client; server = k.1; relayed = h.relayed; interface = h.interface; ias = h.ias };
    }))
    (λ h. (let k = sees_again s.relayed t.relayed octets (data_of RELAY_MESSAGE options) h.relayed in record {
      more = record s { relayed = true };
      found = rw k.0 refl;
      later = record { client = h.client; server = h.server; relayed = k.1; interface = h.interface; ias = h.ias };
    }))
    (λ h. (let k = sees_again s.interface t.interface octets (data_of INTERFACE_ID options) h.interface in record {
      more = record s { interface = true };
      found = rw k.0 refl;
      later = record { client = h.client; server = h.server; relayed = h.relayed; interface = k.1; ias = h.ias };
    }))
    (λ h. record {
      more = s;
      found = refl;
      later = record {
        client = h.client;
        server = h.server;
        relayed = h.relayed;
        interface = h.interface;
        ias = h.ias;
      };
    })
    (λ h. (let k = ias_again s.ias t.ias octets (data_of IA_PD options) few h.ias in record {
      more = record s { ias = k.middle };
      found = rw k.found refl;
      later = record {
        client = h.client;
        server = h.server;
        relayed = h.relayed;
        interface = h.interface;
        ias =
            k.later;
      };
    }))
    (λ k other h. other_again k s t octets options other h)
    code

client_same : (s t : ClientOptions) → AddsToClient s [] t → s ≡ t
client_same s t h =
    ap (λ (x : Option (List ℕ)). record s { client = x }) (sym h.client)
    ∙ (ap (λ (x : Option (List ℕ)). record s { client = t.client; server = x }) (sym h.server)
    ∙ (ap (λ (x : Bool). record s { client = t.client; server = t.server; relayed = x }) (sym h.relayed)
    ∙ (ap (λ (x : Bool). record s { client = t.client; server = t.server; relayed = t.relayed; interface = x })
    (sym h.interface)
    ∙ ap (λ (x : List IaPd). record {
      client = t.client;
      server = t.server;
      relayed = t.relayed;
      interface =
          t.interface;
      ias = x;
    }) (no_ias s.ias t.ias h.ias.new h.ias.spelled h.ias.joined))))
  where
    no_ias : (before after new : List IaPd) → SpellIas [] new → after ≡ before ++ new → before ≡ after
    no_ias before after [] h joined = sym (joined ∙ append-nil before)
    no_ias before after (ia ∷ new) h joined = absurd h

pub client_options_again : (options : List DhcpOption) (s t : ClientOptions) → length t.ias ≤ MAX_IAS
    → AddsToClient s options t → folded client_option s (whole options) ≡ Ok t
unfolding folded client_option
client_options_again [] s t few h = ap (λ (x : ClientOptions). Ok x) (client_same s t h)
client_options_again (o ∷ options) s t few h =
    let k = client_next s t o.octets options o.code few h in
    rw k.found (client_options_again options k.more t few k.later)
