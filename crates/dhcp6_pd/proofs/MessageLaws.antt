-- What is read is a message in its relays, whatever its identifiers are.
use Rattle.std.proofs.Common.{◌≡◌, ℕ, zero, suc, ◌≤◌, Bool, true, false, List, [], ◌∷◌, length, take, drop, Option}
use Rattle.std.proofs.Common.{Some, None, Result, Ok, Err, refl, sym, ap, subst, ◌∙◌, arith, le-ltb}
use Rattle.std.specs.Prelude.{◌==◌, slice_index, option_map, if◌then◌else◌}
use Rattle.std.proofs.lemmas.Bool.{ltb-false, eqb-true, eq-eqb}
use Rattle.std.specs.List.{AllByRecursion}
use Rattle.text_fields.specs.Octets.{AreOctets}
use Rattle.dhcp6_pd.specs.declared.numbers.TheConstants.{CLIENT_ID, SERVER_ID, RELAY_MESSAGE, INTERFACE_ID, IA_PD}
use Rattle.dhcp6_pd.specs.declared.numbers.TheConstants.{SOLICIT, REQUEST, RENEW, REBIND, RELEASE, RELAY_FORWARD}
use Rattle.dhcp6_pd.specs.declared.numbers.TheConstants.{REMOTE_ID, MAX_IAS, OPTION_REQUEST, INFORMATION_REQUEST}
use Rattle.dhcp6_pd.specs.declared.error.PdFault.{PdFault}
use Rattle.dhcp6_pd.specs.declared.error.PdFault.TheVariants.{TooDeep}
use Rattle.dhcp6_pd.specs.declared.message.ClientKind.{ClientKind}
use Rattle.dhcp6_pd.specs.declared.message.ClientKind.TheVariants.{Solicit, Request, Renew, Rebind, Release}
use Rattle.client_id.specs.Duid.{IsDuid}
use Rattle.dhcp6_pd.specs.declared.message.IaPd.{IaPd}
use Rattle.dhcp6_pd.specs.declared.message.Relay.{Relay}
use Rattle.dhcp6_pd.specs.declared.client_options.ClientOptions.{ClientOptions}
use Rattle.dhcp6_pd.specs.declared.relay_options.RelayOptions.{RelayOptions}
use Rattle.dhcp6_pd.specs.declared.unvalidated.UnvalidatedMessage.{UnvalidatedMessage}
use Rattle.dhcp6_pd.specs.declared.message_class.MessageClass.{MessageClass}
use Rattle.dhcp6_pd.specs.declared.message_class.MessageClass.TheVariants.{Leases}
use Rattle.dhcp6_pd.specs.declared.message_class.MessageClass.TheVariants as which
use Rattle.dhcp6_pd.specs.declared.message_class.MessageKind.{MessageKind}
use Rattle.dhcp6_pd.specs.declared.message_class.MessageKind.TheVariants.{Lease, Information}
use Rattle.dhcp6_pd.specs.Refusals.{IsRead}
use Rattle.dhcp6_pd.specs.declared.requested_items.RequestedItems.{RequestedItems}
use Rattle.dhcp6_pd.specs.Options.{DhcpOption, IsOption, data_of}
use Rattle.dhcp6_pd.specs.Rows.{Row, row_of, folded}
use Rattle.dhcp6_pd.specs.Grammar.{lease_type, type_of, listed, SpellIas, SpellsClient, SpellsRelay, SpellsFrom}
use Rattle.dhcp6_pd.specs.Faults.{client_option, no_client_options, lease_kind, kind_of, client_message, client_in}
use Rattle.dhcp6_pd.specs.Faults.{relay_option}
use Rattle.dhcp6_pd.specs.RequestedItems.{wish_option, no_wishes}
use Rattle.dhcp6_pd.specs.Faults.{no_relay_options, to_message, or_short, relay_of, by_relay, relay_in, or_ignored}
use Rattle.dhcp6_pd.specs.Faults.{by_type, message_in}
use Rattle.dhcp6_pd.proofs.Binds.{bind_ok, passed, ok_is}
use Rattle.dhcp6_pd.proofs.Wholes.{folded_whole, are_options, row_is, octets_drop}
use Rattle.dhcp6_pd.proofs.OnceLaws.{Once, Sees, AddsIas}
use Rattle.dhcp6_pd.proofs.ClientOptionLaws.{AddsToClient, client_options_takes, client_options_again}
use Rattle.dhcp6_pd.proofs.WishLaws.{AddsWishes, wishes_takes, wishes_again, asks_spelled, asked_in, asks_of}
use Rattle.dhcp6_pd.proofs.RelayOptionLaws.{Stands, AddsToRelay}
use Rattle.dhcp6_pd.proofs.HeldLaws.{held_takes, held_again}

-- ---- the type

lease_takes : (x : ℕ) (kind : ClientKind) → lease_kind x ≡ Some kind → x ≡ lease_type kind
unfolding lease_kind
lease_takes x kind e = by (x == SOLICIT) (x == REQUEST) (x == RENEW) (x == REBIND)
    (x == RELEASE) refl refl refl refl refl e
  where
    some_is : (a b : ClientKind) → Some a ≡ Some b → a ≡ b
    some_is a b e = cc

    is : (n : ℕ) (a : ClientKind) → (x == n) ≡ true → n ≡ lease_type a → Some a ≡ Some kind → x ≡ lease_type kind
    is n a t same e = eqb-true x n t ∙ (same ∙ ap lease_type (some_is a kind e))

    by : (a b c d f : Bool) → (x == SOLICIT) ≡ a → (x == REQUEST) ≡ b → (x == RENEW) ≡ c → (x == REBIND) ≡ d
        → (x == RELEASE) ≡ f
        → (if a then Some Solicit else if b then Some Request else if c then Some Renew else if d then Some Rebind else
        if f then Some Release else None) ≡ Some kind → x ≡ lease_type kind
    by true b c d f ta tb tc td tf e = is SOLICIT Solicit ta refl e
    by false true c d f ta tb tc td tf e = is REQUEST Request tb refl e
    by false false true d f ta tb tc td tf e = is RENEW Renew tc refl e
    by false false false true f ta tb tc td tf e = is REBIND Rebind td refl e
    by false false false false true ta tb tc td tf e = is RELEASE Release tf refl e
    by false false false false false ta tb tc td tf e = absurd cc

-- a message's type is one that is read
abbrev pub Types : MessageClass → ℕ → MessageKind → Type 0
Types reads x kind = (x ≡ type_of kind) × IsRead reads kind

pub kind_takes : (reads : MessageClass) (x : ℕ) (kind : MessageKind) → kind_of reads x ≡ Some kind → Types reads x kind
unfolding kind_of
kind_takes Leases x kind e = by (lease_kind x) refl e
  where
    by : (o : Option ClientKind) → lease_kind x ≡ o → option_map (λ k. Lease k) o ≡ Some kind → Types Leases x kind
    by None is e = absurd cc
    by (Some k) is e = let same : Lease k ≡ kind = cc in subst (Types Leases x) same (lease_takes x k is, tt)
kind_takes which.Information x kind e = by (x == INFORMATION_REQUEST) refl e
  where
    by : (t : Bool) → (x == INFORMATION_REQUEST) ≡ t → (if t then Some Information else None) ≡ Some kind
        → Types which.Information x kind
    by true t e = let same : Information ≡ kind = cc in
        subst (Types which.Information x) same (eqb-true x INFORMATION_REQUEST t, tt)
    by false t e = absurd cc

pub kind_again : (reads : MessageClass) (kind : MessageKind) → IsRead reads kind
    → ((type_of kind == RELAY_FORWARD) ≡ false) × (kind_of reads (type_of kind) ≡ Some kind)
unfolding kind_of lease_kind
kind_again Leases (Lease Solicit) h = (refl, refl)
kind_again Leases (Lease Request) h = (refl, refl)
kind_again Leases (Lease Renew) h = (refl, refl)
kind_again Leases (Lease Rebind) h = (refl, refl)
kind_again Leases (Lease Release) h = (refl, refl)
kind_again Leases Information h = absurd h
kind_again which.Information (Lease kind) h = absurd h
kind_again which.Information Information h = (refl, refl)

-- ---- an option that stands once or not at all

pub sees_once : (before after : Bool) (all : List (List ℕ)) → Sees before all after → length all ≤ 1
sees_once before after [] h = omega arith
sees_once before after (octets ∷ all) h = let none = h.1 in omega (arith, ap length none)

-- whether an option stands there
abbrev pub stood : List (List ℕ) → Bool
stood [] = false
stood (octets ∷ all) = true

pub sees_of : (all : List (List ℕ)) → length all ≤ 1 → Sees false all (stood all)
sees_of [] few = refl
sees_of (octets ∷ []) few = (refl, refl, refl)
sees_of (octets ∷ more ∷ all) few = absurd (omega arith)

-- ---- a client's message

none_yet : length no_client_options.ias ≤ MAX_IAS
none_yet = omega arith

-- an identifier that stands once or not at all
once_listed : (slot : Option (List ℕ)) (all : List (List ℕ)) → Once None all slot
    → (all ≡ listed slot) × AllByRecursion IsDuid (listed slot)
once_listed slot [] h = rw h (refl, tt)
once_listed slot (duid ∷ all) h = rw (h.3, h.2) (refl, (h.1, tt))

once_again : (slot : Option (List ℕ)) (all : List (List ℕ)) → all ≡ listed slot → AllByRecursion IsDuid (listed slot)
    → Once None all slot
once_again None all is h = rw is refl
once_again (Some duid) all is h = rw is (refl, h.0, refl, refl)

ias_of : (all : List (List ℕ)) (ias : List IaPd) → AddsIas [] all ias → SpellIas all ias
ias_of all ias h = subst (SpellIas all) (sym h.joined) h.spelled

client_takes : (kind : MessageKind) (octets : List ℕ) (u : UnvalidatedMessage) → AreOctets octets
    → slice_index octets 0 ≡ type_of kind → client_in kind octets ≡ Ok u
    → (u.relays ≡ []) × SpellsClient octets u × (u.kind ≡ kind)
unfolding client_in
client_takes kind octets u fits type e =
    let long = passed _ _ _ u e in
    let b = bind_ok (folded client_option no_client_options (row_of (drop 4 octets))) _ u long.1 in
    let kept = b.0 in
    let w = bind_ok (folded wish_option no_wishes (row_of (drop 4 octets))) _ u b.2 in
    let wishes = w.0 in
    let all = folded_whole client_option no_client_options kept (row_of (drop 4 octets)) b.1 in
    let options = are_options all.0 (drop 4 octets) (octets_drop 4 octets fits) all.1 in
    let adds = client_options_takes all.0 no_client_options kept options.each
    (ap (folded client_option no_client_options) (sym all.1) ∙ b.1) in
    let asks = wishes_takes all.0 no_wishes wishes options.each (ap (folded wish_option no_wishes) (sym all.1) ∙ w.1) in
    let client = once_listed kept.client (data_of CLIENT_ID all.0) adds.client in
    let server = once_listed kept.server (data_of SERVER_ID all.0) adds.server in
    subst (λ (x : UnvalidatedMessage). (x.relays ≡ []) × SpellsClient octets x × (x.kind ≡ kind))
    (ok_is (client_message kind octets kept wishes) u w.2) (
      refl,
      record {
        whole = ltb-false (length octets) 4 long.0;
        kind = type;
        xid = refl;
        options = all.0;
        spelled = options;
        client = client.0;
        client_duid = client.1;
        server = server.0;
        server_duid = server.1;
        relayed = sees_once false kept.relayed (data_of RELAY_MESSAGE all.0) adds.relayed;
        interface = sees_once false kept.interface (data_of INTERFACE_ID all.0) adds.interface;
        ias = ias_of (data_of IA_PD all.0) kept.ias adds.ias;
        few = adds.ias.few none_yet;
        prefixes = asks.prefixes;
        requested = asks_spelled (data_of OPTION_REQUEST all.0) wishes.requested asks.requested;
        addresses = asks.addresses;
        temporaries = asks.temporaries;
      },
      refl,
    )

client_again : (octets : List ℕ) (u : UnvalidatedMessage) → SpellsClient octets u
    → client_in u.kind octets ≡ Ok (record u { relays = [] })
unfolding client_in
client_again octets u h =
    let kept : ClientOptions = record {
      client = u.client;
      server = u.server;
      relayed = stood (data_of RELAY_MESSAGE h.options);
      interface = stood (data_of INTERFACE_ID h.options);
      ias = u.ias;
    } in
    let adds : AddsToClient no_client_options h.options kept = record {
      client = once_again u.client (data_of CLIENT_ID h.options) h.client h.client_duid;
      server = once_again u.server (data_of SERVER_ID h.options) h.server h.server_duid;
      relayed = sees_of (data_of RELAY_MESSAGE h.options) h.relayed;
      interface = sees_of (data_of INTERFACE_ID h.options) h.interface;
      ias = record { new = u.ias; spelled = h.ias; joined = refl; few = λ _. h.few };
    } in
    let all : folded client_option no_client_options (row_of (drop 4 octets)) ≡ Ok kept =
    ap (folded client_option no_client_options) (row_is (drop 4 octets) h.options h.spelled)
    ∙ client_options_again h.options no_client_options kept h.few adds in
    let asked = asks_of (data_of OPTION_REQUEST h.options) u.requested h.requested in
    let wishes : RequestedItems = record {
      requested = asked_in (data_of OPTION_REQUEST h.options) u.requested;
      addresses = u.addresses;
      temporaries = u.temporaries;
      prefixes = u.prefixes;
    } in
    let asks : AddsWishes no_wishes h.options wishes =
    record {
      requested = asked.0;
      addresses = h.addresses;
      temporaries = h.temporaries;
      prefixes = h.prefixes;
    } in
    let more : folded wish_option no_wishes (row_of (drop 4 octets)) ≡ Ok wishes =
    ap (folded wish_option no_wishes) (row_is (drop 4 octets) h.options h.spelled)
    ∙ wishes_again h.options no_wishes wishes asks in
    rw (le-ltb (length octets) 4 h.whole, all, more, asked.1)
    (ap (λ (x : List ℕ). Ok (record u { relays = []; xid = x })) (sym h.xid))

-- ---- a relay's message

-- an option's data are octets
data_fits : (code : ℕ) (options : List DhcpOption) (octets : List ℕ) (more : List (List ℕ))
    → AllByRecursion IsOption options → data_of code options ≡ octets ∷ more → AreOctets octets
data_fits code [] octets more each e = absurd cc
data_fits code (o ∷ options) octets more each e = by (o.code == code) (data_fits code options octets more each.1) e
  where
    by : (this : Bool) → (data_of code options ≡ octets ∷ more → AreOctets octets)
        → (if this then o.octets ∷ data_of code options else data_of code options) ≡ octets ∷ more → AreOctets octets
    by true later e = let same : o.octets ≡ octets = cc in subst AreOctets same each.0.octets
    by false later e = later e

stands_listed : (after : Option (List ℕ)) (all : List (List ℕ)) → Stands None all after → all ≡ listed after
stands_listed after [] h = ap listed (sym h)
stands_listed after (octets ∷ all) h = ap (λ (xs : List (List ℕ)). octets ∷ xs) h.1 ∙ ap listed (sym h.2)

relay_takes : (parse : List ℕ → Result UnvalidatedMessage PdFault) (octets : List ℕ) (h : UnvalidatedMessage)
    → AreOctets octets → slice_index octets 0 ≡ RELAY_FORWARD → relay_in parse octets ≡ Ok h
    → (u : UnvalidatedMessage) × (r : Relay) × (inside : List ℕ) × AreOctets inside × (parse inside ≡ Ok u)
    × SpellsRelay octets r inside × (by_relay r u ≡ h)
unfolding relay_in relay_of
relay_takes parse octets h fits type e =
    let long = passed _ _ _ h e in
    let up = bind_ok (to_message no_relay_options (row_of (drop 34 octets))) _ h long.1 in
    let some = bind_ok (or_short up.0.1) _ h up.2 in
    let inner = bind_ok (parse some.0.0) _ h some.2 in
    let last = bind_ok (folded relay_option up.0.0 some.0.1) _ h inner.2 in
    let found : to_message no_relay_options (row_of (drop 34 octets)) ≡ Ok (up.0.0, Some (some.0.0, some.0.1)) =
    up.1 ∙ ap (λ (x : Option (List ℕ × Row)). Ok (up.0.0, x)) (short_some up.0.1 some.0 some.1) in
    let holds = held_takes (row_of (drop 34 octets)) some.0.1 no_relay_options up.0.0 last.0 some.0.0 found last.1 in
    let options = are_options holds.options (drop 34 octets) (octets_drop 34 octets fits) holds.is in (
      inner.0,
      relay_of octets last.0,
      some.0.0,
      data_fits RELAY_MESSAGE holds.options some.0.0 [] options.each holds.only,
      inner.1,
      record {
        whole = ltb-false (length octets) 34 long.0;
        kind = type;
        hops = refl;
        link = refl;
        peer = refl;
        options = holds.options;
        spelled = options;
        held = holds.only;
        interface = stands_listed last.0.interface (data_of INTERFACE_ID holds.options) holds.adds.interface;
        remote = stands_listed last.0.remote (data_of REMOTE_ID holds.options) holds.adds.remote;
        client = sees_once false last.0.client (data_of CLIENT_ID holds.options) holds.adds.client;
        server = sees_once false last.0.server (data_of SERVER_ID holds.options) holds.adds.server;
      },
      ok_is _ _ last.2,
    )
  where
    short_some : (o : Option (List ℕ × Row)) (x : List ℕ × Row) → or_short o ≡ Ok x → o ≡ Some x
    short_some None x e = absurd cc
    short_some (Some y) x e = ap (λ (z : List ℕ × Row). Some z) (ok_is y x e)

pub stands_of : (id : Option (List ℕ)) → Stands None (listed id) id
stands_of None = refl
stands_of (Some octets) = (refl, refl, refl)

relay_again : (parse : List ℕ → Result UnvalidatedMessage PdFault) (octets : List ℕ) (r : Relay) (inside : List ℕ)
    (u : UnvalidatedMessage) → SpellsRelay octets r inside → parse inside ≡ Ok u
    → relay_in parse octets ≡ Ok (by_relay r u)
unfolding relay_in relay_of
relay_again parse octets r inside u h e =
    let last : RelayOptions = record {
      client = stood (data_of CLIENT_ID h.options);
      server =
          stood (data_of SERVER_ID h.options);
      relayed = true;
      interface = r.interface;
      remote = r.remote;
    } in
    let held : Sees false (inside ∷ []) true = (refl, refl, refl) in
    let adds : AddsToRelay no_relay_options h.options last = record {
      client = sees_of (data_of CLIENT_ID h.options) h.client;
      server = sees_of (data_of SERVER_ID h.options) h.server;
      relayed = subst (λ (xs : List (List ℕ)). Sees false xs true) (sym h.held) held;
      interface = subst (λ (xs : List (List ℕ)). Stands None xs r.interface) (sym h.interface) (stands_of r.interface);
      remote = subst (λ (xs : List (List ℕ)). Stands None xs r.remote) (sym h.remote) (stands_of r.remote);
    } in
    let at = held_again h.options no_relay_options last inside adds h.held in
    let found : to_message no_relay_options (row_of (drop 34 octets)) ≡ Ok (at.up, Some (inside, at.left)) =
    ap (to_message no_relay_options) (row_is (drop 34 octets) h.options h.spelled) ∙ at.found in
    let same : relay_of octets last ≡ r =
    ap (λ (x : ℕ). record {
      hops = x;
      link = take 16 (drop 2 octets);
      peer = take 16 (drop 18 octets);
      interface = r.interface;
      remote = r.remote;
    }) (sym h.hops)
    ∙ (ap (λ (x : List ℕ). record {
      hops = r.hops;
      link = x;
      peer = take 16 (drop 18 octets);
      interface = r.interface;
      remote = r.remote;
    }) (sym h.link)
    ∙ ap (λ (x : List ℕ). record r { peer = x }) (sym h.peer)) in
    rw (le-ltb (length octets) 34 h.whole, found, e, at.rest) (ap (λ (x : Relay). Ok (by_relay x u)) same)

-- ---- the message and its relays

-- a message of a type that no relay's has
other_takes : (reads : MessageClass) (x : ℕ) (octets : List ℕ) (u : UnvalidatedMessage) → AreOctets (x ∷ octets)
    → or_ignored (kind_of reads x) (x ∷ octets) ≡ Ok u
    → (u.relays ≡ []) × SpellsClient (x ∷ octets) u × IsRead reads u.kind
other_takes reads x octets u fits e = by (kind_of reads x) refl e
  where
    by : (o : Option MessageKind) → kind_of reads x ≡ o → or_ignored o (x ∷ octets) ≡ Ok u
        → (u.relays ≡ []) × SpellsClient (x ∷ octets) u × IsRead reads u.kind
    by None is e = absurd cc
    by (Some kind) is e =
        let k = kind_takes reads x kind is in
        let c = client_takes kind (x ∷ octets) u fits k.0 e in
        (c.0, c.1, subst (IsRead reads) (sym c.2) k.1)

-- what octets spell in at most so many relays
abbrev SpellsIn : MessageClass → ℕ → List ℕ → UnvalidatedMessage → Type 0
SpellsIn reads left octets u = SpellsFrom octets u.relays u × (length u.relays ≤ left) × IsRead reads u.kind

no_relay : (reads : MessageClass) (left : ℕ) (octets : List ℕ) (u : UnvalidatedMessage)
    → (u.relays ≡ []) × SpellsClient octets u × IsRead reads u.kind → SpellsIn reads left octets u
no_relay reads left octets u h =
    let none : length u.relays ≡ 0 = ap length h.0 in
    (subst (λ (rs : List Relay). SpellsFrom octets rs u) (sym h.0) h.1, omega (arith, none), h.2)

-- which relays are written down does not matter inside them
spells_by : (by : List Relay) (relays : List Relay) (octets : List ℕ) (u : UnvalidatedMessage)
    → SpellsFrom octets relays u → SpellsFrom octets relays (record u { relays = by })
spells_by by [] octets u h = record {
  whole = h.whole;
  kind = h.kind;
  xid = h.xid;
  options = h.options;
  spelled = h.spelled;
  client = h.client;
  client_duid = h.client_duid;
  server = h.server;
  server_duid = h.server_duid;
  relayed = h.relayed;
  interface = h.interface;
  ias = h.ias;
  few = h.few;
  prefixes = h.prefixes;
  requested = h.requested;
  addresses = h.addresses;
  temporaries = h.temporaries;
}
spells_by by (r ∷ relays) octets u h = (h.0, h.1, spells_by by relays h.0 u h.2)

pub message_takes : (reads : MessageClass) (left : ℕ) (octets : List ℕ) (u : UnvalidatedMessage) → AreOctets octets
    → message_in reads left octets ≡ Ok u → SpellsIn reads left octets u
unfolding message_in
message_takes reads zero [] u fits e = absurd cc
message_takes reads (suc left) [] u fits e = absurd cc
message_takes reads zero (x ∷ octets) u fits e = by (x == RELAY_FORWARD) e
  where
    by : (t : Bool) → (if t then Err TooDeep else or_ignored (kind_of reads x) (x ∷ octets)) ≡ Ok u
        → SpellsIn reads 0 (x ∷ octets) u
    by true e = absurd cc
    by false e = no_relay reads 0 (x ∷ octets) u (other_takes reads x octets u fits e)
message_takes reads (suc left) (x ∷ octets) u fits e = by (x == RELAY_FORWARD) refl (message_takes reads left) e
  where
    by : (t : Bool) → (x == RELAY_FORWARD) ≡ t
        → ((inside : List ℕ) (v : UnvalidatedMessage) → AreOctets inside → message_in reads left inside ≡ Ok v
        → SpellsIn reads left inside v)
        → (if t then relay_in (message_in reads left) (x ∷ octets) else or_ignored (kind_of reads x) (x ∷ octets)) ≡ Ok u
        → SpellsIn reads (suc left) (x ∷ octets) u
    by true test again e =
        let r = relay_takes (message_in reads left) (x ∷ octets) u fits (eqb-true x RELAY_FORWARD test) e in
        let v = r.0 in
        let later = again r.2 v r.3 r.4 in
        let few : suc (length v.relays) ≤ suc left = omega (arith, later.1) in
        subst (SpellsIn reads (suc left) (x ∷ octets)) r.6 (
          (r.2, r.5, spells_by (r.1 ∷ v.relays) v.relays r.2 v later.0),
          few,
          later.2,
        )
    by false test again e = no_relay reads (suc left) (x ∷ octets) u (other_takes reads x octets u fits e)

client_typed : (reads : MessageClass) (relay : List ℕ → Result UnvalidatedMessage PdFault) (octets : List ℕ) (u : UnvalidatedMessage)
    → IsRead reads u.kind → SpellsClient octets u → by_type reads relay octets ≡ Ok (record u { relays = [] })
client_typed reads relay [] u read h = absurd (let w = h.whole in omega (arith, w))
client_typed reads relay (x ∷ octets) u read h =
    let type : x ≡ type_of u.kind = h.kind in
    let k = kind_again reads u.kind read in
    let other : (x == RELAY_FORWARD) ≡ false = ap (λ (n : ℕ). n == RELAY_FORWARD) type ∙ k.0 in
    let known : kind_of reads x ≡ Some u.kind = ap (kind_of reads) type ∙ k.1 in
    rw (other, known) (client_again (x ∷ octets) u h)

pub relay_typed : (reads : MessageClass) (relay : List ℕ → Result UnvalidatedMessage PdFault) (octets : List ℕ)
    → 34 ≤ length octets → slice_index octets 0 ≡ RELAY_FORWARD → by_type reads relay octets ≡ relay octets
relay_typed reads relay [] long type = absurd (omega (arith, long))
relay_typed reads relay (x ∷ octets) long type =
    let this : x ≡ RELAY_FORWARD = type in rw (eq-eqb x RELAY_FORWARD this) refl

pub message_again : (reads : MessageClass) (relays : List Relay) (left : ℕ) (octets : List ℕ) (u : UnvalidatedMessage)
    → IsRead reads u.kind → SpellsFrom octets relays u → length relays ≤ left
    → message_in reads left octets ≡ Ok (record u { relays = relays })
unfolding message_in
message_again reads [] zero octets u read h few = client_typed reads (λ _. Err TooDeep) octets u read h
message_again reads [] (suc left) octets u read h few =
    client_typed reads (relay_in (message_in reads left)) octets u read h
message_again reads (r ∷ relays) zero octets u read h few = absurd (omega arith)
message_again reads (r ∷ relays) (suc left) octets u read h few =
    relay_typed reads (relay_in (message_in reads left)) octets h.1.whole h.1.kind
    ∙ relay_again (message_in reads left) octets r h.0 (record u { relays = relays }) h.1
    (message_again reads relays left h.0 u read h.2 (omega (arith, few)))
