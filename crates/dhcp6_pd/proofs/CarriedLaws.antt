-- The innermost message, where it ends parsing.
use Rattle.std.proofs.Common.{◌≡◌, ◌≢◌, ℕ, zero, suc, ◌<◌, ◌≤◌, Bool, true, false, List, [], ◌∷◌, ◌++◌, length, drop}
use Rattle.std.proofs.Common.{Option, Some, None, Result, Ok, Err, refl, sym, ap, subst, ◌∙◌, arith, le-ltb}
use Rattle.std.proofs.Common.{append_assoc}
use Rattle.std.specs.Prelude.{◌==◌, slice_index, nat_lt, if◌then◌else◌}
use Rattle.std.specs.List.{AllByRecursion}
use Rattle.std.proofs.lemmas.Bool.{ltb-false, eqb-true, eq-eqb, ne_eqb}
use Rattle.text_fields.specs.Octets.{AreOctets}
use Rattle.text_fields.specs.Parsing.{◌>>!◌}
use Rattle.dhcp6_pd.specs.declared.error.PdFault.{PdFault}
use Rattle.dhcp6_pd.specs.declared.error.PdFault.TheVariants.{Short, TooDeep, Ignored}
use Rattle.dhcp6_pd.specs.declared.numbers.TheConstants.{CLIENT_ID, SERVER_ID, RELAY_MESSAGE, INTERFACE_ID}
use Rattle.dhcp6_pd.specs.declared.numbers.TheConstants.{REMOTE_ID, RELAY_FORWARD}
use Rattle.dhcp6_pd.specs.declared.message.ClientKind.{ClientKind}
use Rattle.dhcp6_pd.specs.declared.message_class.MessageClass.TheVariants.{Leases}
use Rattle.dhcp6_pd.specs.declared.message_class.MessageKind.{MessageKind}
use Rattle.dhcp6_pd.specs.declared.message_class.MessageKind.TheVariants.{Lease, Information}
use Rattle.dhcp6_pd.specs.declared.relay_options.RelayOptions.{RelayOptions}
use Rattle.dhcp6_pd.specs.declared.unvalidated.UnvalidatedMessage.{UnvalidatedMessage}
use Rattle.dhcp6_pd.specs.Layout.{option_octets}
use Rattle.dhcp6_pd.specs.Options.{DhcpOption, IsOption, octets_of, data_of}
use Rattle.dhcp6_pd.specs.Rows.{Row, Done, Broken, Next, row_of, code_of, folded}
use Rattle.dhcp6_pd.specs.Grammar.{lease_type}
use Rattle.dhcp6_pd.specs.Refusals.{relay_message, Carries, Carried, IsDeeper, IsOfOtherType}
use Rattle.dhcp6_pd.specs.Faults.{seen_once, kind_of, relay_code, relay_option, no_relay_options, to_message, relay_of}
use Rattle.dhcp6_pd.specs.Faults.{by_relay, behind, relay_in, or_ignored, by_type, message_in}
use Rattle.dhcp6_pd.proofs.Binds.{bind_ok, ok_is}
use Rattle.dhcp6_pd.proofs.Wholes.{Begins, row_begins, row_of_option, octets_drop}
use Rattle.dhcp6_pd.proofs.RelayOptionLaws.{Stands, AddsToRelay, relay_step, relay_next}
use Rattle.dhcp6_pd.proofs.OnceLaws.{Sees}
use Rattle.dhcp6_pd.proofs.HeldLaws.{no_some, some_both}
use Rattle.dhcp6_pd.proofs.MessageLaws.{sees_once, sees_of, stood, kind_takes, kind_again, relay_typed}
use Rattle.dhcp6_pd.proofs.FaultLaws.{Faults, Within, OfOptions, RowFaults, Rest, row_faults, folded_faults}
use Rattle.dhcp6_pd.proofs.FaultLaws.{relay_faults, to_message_faults, client_in_faults}

-- ---- options up to the relay message

-- what options say up to the relay message
pub record UpTo (octets : List ℕ) (l : RelayOptions) (inside : List ℕ) : Type 0 where
  pub before : List DhcpOption
  pub each : AllByRecursion IsOption before
  pub is : IsOption (relay_message inside)
  pub behind : List ℕ
  pub spelled : octets ≡ octets_of before ++ (option_octets RELAY_MESSAGE inside ++ behind)
  pub first : data_of RELAY_MESSAGE before ≡ []
  pub last : RelayOptions
  pub adds : AddsToRelay l before last

up_to : (row left : Row) (octets : List ℕ) (l up : RelayOptions) (inside : List ℕ) → AreOctets octets
    → row_of octets ≡ row → to_message l row ≡ Ok (up, Some (inside, left)) → UpTo octets l inside
unfolding to_message relay_option
up_to Done left octets l up inside fits is e =
    absurd (no_some (inside, left) (ap (λ (x : RelayOptions × Option (List ℕ × Row)). x.1)
    (ok_is {A = RelayOptions × Option (List ℕ × Row)} (l, None) (up, Some (inside, left)) e)))
up_to (Broken fault) left octets l up inside fits is e = absurd cc
up_to (Next o row) left octets l up inside fits is e =
    let b = bind_ok (relay_code (code_of o.code) l o.octets) _ (up, Some (inside, left)) e in
    let at = row_begins octets o row fits is in
    by (o.code == RELAY_MESSAGE) refl at b.0 b.1 (λ m f. up_to row left at.rest m up inside at.fits at.row_is f) b.2
  where
    by : (this : Bool) → (o.code == RELAY_MESSAGE) ≡ this → (at : Begins octets o row) → (more : RelayOptions)
        → relay_code (code_of o.code) l o.octets ≡ Ok more
        → ((m : RelayOptions) → to_message m row ≡ Ok (up, Some (inside, left)) → UpTo at.rest m inside)
        → (if this then Ok (more, Some (o.octets, row)) else to_message more row) ≡ Ok (up, Some (inside, left))
        → UpTo octets l inside
    by true test at more found again e =
        let some : Some (o.octets, row) ≡ Some (inside, left) =
        ap (λ (x : RelayOptions × Option (List ℕ × Row)). x.1) (ok_is _ _ e) in
        let held : o.octets ≡ inside = (some_both (o.octets, row) (inside, left) some).0 in
        let code : o.code ≡ RELAY_MESSAGE = eqb-true o.code RELAY_MESSAGE test in
        let same : o ≡ relay_message inside = ap (λ (k : ℕ). record { code = k; octets = o.octets }) code
        ∙ ap relay_message held in
        record {
          before = [];
          each = tt;
          is = subst IsOption same at.is;
          behind = at.rest;
          spelled = at.spelled ∙ ap (λ (p : DhcpOption). option_octets p.code p.octets ++ at.rest) same;
          first = refl;
          last = l;
          adds = record { client = refl; server = refl; relayed = refl; interface = refl; remote = refl };
        }
    by false test at more found again e =
        let later = again more e in
        record {
          before = o ∷ later.before;
          each = (at.is, later.each);
          is = later.is;
          behind = later.behind;
          spelled = at.spelled ∙ (ap (λ (xs : List ℕ). option_octets o.code o.octets ++ xs) later.spelled
              ∙ sym (append_assoc (option_octets o.code o.octets) (octets_of later.before)
              (option_octets RELAY_MESSAGE inside ++ later.behind)));
          first = rw test later.first;
          last = later.last;
          adds = relay_step l more later.last o.octets later.before o.code later.adds found;
        }

pub record Found (l : RelayOptions) (octets inside behind : List ℕ) : Type 0 where
  pub up : RelayOptions
  pub found : to_message l (row_of octets) ≡ Ok (up, Some (inside, row_of behind))

up_again : (before : List DhcpOption) (l last : RelayOptions) (inside behind : List ℕ) → AllByRecursion IsOption before
    → IsOption (relay_message inside) → AddsToRelay l before last → last.relayed ≡ false
    → data_of RELAY_MESSAGE before ≡ [] → Found l (octets_of before
    ++ (option_octets RELAY_MESSAGE inside ++ behind)) inside behind
unfolding to_message relay_option code_of seen_once
up_again [] l last inside behind each is h none first =
    let unmarked : l.relayed ≡ false = sym h.relayed ∙ none in
    record {
      up = record l { relayed = true };
      found = ap (to_message l) (row_of_option (relay_message inside) behind is) ∙ rw unmarked refl;
    }
up_again (o ∷ before) l last inside behind each is h none first =
    let k = relay_next l last o.octets before o.code h in
    let rest = octets_of before ++ (option_octets RELAY_MESSAGE inside ++ behind) in
    let row : row_of (octets_of (o ∷ before) ++ (option_octets RELAY_MESSAGE inside ++ behind)) ≡ Next o (row_of rest) =
    ap row_of (append_assoc (option_octets o.code o.octets) (octets_of before) (option_octets RELAY_MESSAGE inside
    ++ behind)) ∙ row_of_option o rest each.0 in
    by (o.code == RELAY_MESSAGE) refl first k.more k.found row (λ e.
    up_again before k.more last inside behind each.1 is k.later none e)
  where
    by : (this : Bool) → (o.code == RELAY_MESSAGE) ≡ this
        → (if this then o.octets ∷ data_of RELAY_MESSAGE before else data_of RELAY_MESSAGE before) ≡ []
        → (more : RelayOptions) → relay_code (code_of o.code) l o.octets ≡ Ok more
        → row_of (octets_of (o ∷ before) ++ (option_octets RELAY_MESSAGE inside ++ behind))
        ≡ Next o (row_of (octets_of before ++ (option_octets RELAY_MESSAGE inside ++ behind)))
        → (data_of RELAY_MESSAGE before ≡ [] → Found more (octets_of before
        ++ (option_octets RELAY_MESSAGE inside ++ behind)) inside behind)
        → Found l (octets_of (o ∷ before) ++ (option_octets RELAY_MESSAGE inside ++ behind)) inside behind
    by true test first more found row again = absurd cc
    by false test first more found row again =
        let later = again first in
        record { up = later.up; found = ap (to_message l) row ∙ rw (found, test) later.found }

-- ---- a relay's message

stands_once : (after : Option (List ℕ)) (all : List (List ℕ)) → Stands None all after → length all ≤ 1
stands_once after [] h = omega arith
stands_once after (octets ∷ all) h = omega (arith, ap length h.1)

stands_of_few : (all : List (List ℕ)) → length all ≤ 1 → (after : Option (List ℕ)) × Stands None all after
stands_of_few [] few = (None, refl)
stands_of_few (octets ∷ []) few = (Some octets, (refl, refl, refl))
stands_of_few (octets ∷ more ∷ all) few = absurd (omega arith)

carries : (octets : List ℕ) (l : RelayOptions) (row : Row) (inside : List ℕ) → AreOctets octets → 34 ≤ length octets
    → slice_index octets 0 ≡ RELAY_FORWARD
    → to_message no_relay_options (row_of (drop 34 octets)) ≡ Ok (l, Some (inside, row)) → Carries octets inside
carries octets l row inside fits whole kind e =
    let u = up_to (row_of (drop 34 octets)) row (drop 34 octets) no_relay_options l inside
    (octets_drop 34 octets fits) refl e in
    record {
      whole = whole;
      kind = kind;
      before = u.before;
      each = u.each;
      is = u.is;
      behind = u.behind;
      spelled = u.spelled;
      first = u.first;
      client = sees_once false u.last.client (data_of CLIENT_ID u.before) u.adds.client;
      server = sees_once false u.last.server (data_of SERVER_ID u.before) u.adds.server;
      interface = stands_once u.last.interface (data_of INTERFACE_ID u.before) u.adds.interface;
      remote = stands_once u.last.remote (data_of REMOTE_ID u.before) u.adds.remote;
    }

found_again : (octets inside : List ℕ) (h : Carries octets inside)
    → Found no_relay_options (drop 34 octets) inside h.behind
found_again octets inside h =
    let interface = stands_of_few (data_of INTERFACE_ID h.before) h.interface in
    let remote = stands_of_few (data_of REMOTE_ID h.before) h.remote in
    let last : RelayOptions = record {
      client = stood (data_of CLIENT_ID h.before);
      server =
          stood (data_of SERVER_ID h.before);
      relayed = false;
      interface = interface.0;
      remote = remote.0;
    } in
    let nothing : Sees false [] false = refl in
    let adds : AddsToRelay no_relay_options h.before last = record {
      client = sees_of (data_of CLIENT_ID h.before) h.client;
      server = sees_of (data_of SERVER_ID h.before) h.server;
      relayed = subst (λ (xs : List (List ℕ)). Sees false xs false) (sym h.first) nothing;
      interface = interface.1;
      remote = remote.1;
    } in
    subst (λ (xs : List ℕ). Found no_relay_options xs inside h.behind) (sym h.spelled)
    (up_again h.before no_relay_options last inside h.behind h.each h.is adds refl h.first)

-- the message that a relay's message holds, where it has the fault
pub record FailsInside (parse : List ℕ → Result UnvalidatedMessage PdFault) (octets : List ℕ) (fault : PdFault) :
    Type 0 where
  pub inside : List ℕ
  pub fits : AreOctets inside
  pub carries : Carries octets inside
  pub fails : parse inside ≡ Err fault

relay_fails : (parse : List ℕ → Result UnvalidatedMessage PdFault) (octets : List ℕ) (fault : PdFault) → AreOctets octets
    → slice_index octets 0 ≡ RELAY_FORWARD → (OfOptions fault → ⊥) → relay_in parse octets ≡ Err fault
    → FailsInside parse octets fault
unfolding relay_in
relay_fails parse octets fault fits kind never e = by (nat_lt (length octets) 34) refl e
  where
    same : (other : PdFault) → (let r : Result UnvalidatedMessage PdFault = Err other in r) ≡ Err fault → other ≡ fault
    same other e = cc

    not_of : (other : PdFault) → OfOptions other → (let r : Result UnvalidatedMessage PdFault = Err other in r)
        ≡ Err fault → ⊥
    not_of other h e = never (subst OfOptions (same other e) h)

    rest : (l : RelayOptions) (u : UnvalidatedMessage) (r : Result RelayOptions PdFault) → Faults OfOptions r
        → (r >>! λ kept. Ok (by_relay (relay_of octets kept) u)) ≡ Err fault → ⊥
    rest l u (Ok kept) h e = cc
    rest l u (Err other) h e = not_of other h e

    held : (l : RelayOptions) (inside : List ℕ) (row : Row) → Carries octets inside → RowFaults row
        → (r : Result UnvalidatedMessage PdFault) → parse inside ≡ r
        → (r >>! λ u. folded relay_option l row >>! λ kept. Ok (by_relay (relay_of octets kept) u)) ≡ Err fault
        → FailsInside parse octets fault
    held l inside row c rows (Ok u) is e = absurd
        (rest l u (folded relay_option l row) (folded_faults relay_option l row relay_faults rows) e)
    held l inside row c rows (Err other) is e =
        record {
          inside = inside;
          fits = c.is.octets;
          carries = c;
          fails =
              is ∙ ap (λ (f : PdFault). Err f) (same other e);
        }

    found : 34 ≤ length octets → (r : Result (RelayOptions × Option (List ℕ × Row)) PdFault)
        → to_message no_relay_options (row_of (drop 34 octets)) ≡ r → Within Rest OfOptions r
        → behind parse octets r ≡ Err fault
        → FailsInside parse octets fault
    found whole (Err other) is h e = absurd (not_of other h e)
    found whole (Ok (l, None)) is h e = absurd (not_of Short tt e)
    found whole (Ok (l, Some (inside, row))) is h e =
        held l inside row (carries octets l row inside fits whole kind is) h (parse inside) refl e

    by : (t : Bool) → nat_lt (length octets) 34 ≡ t
        → (if t then Err Short else behind parse octets (to_message no_relay_options (row_of (drop 34 octets))))
        ≡ Err fault → FailsInside parse octets fault
    by true t e = absurd (not_of Short tt e)
    by false t e = found (ltb-false (length octets) 34 t) (to_message no_relay_options (row_of (drop 34 octets))) refl
        (to_message_faults no_relay_options (row_of (drop 34 octets)) (row_faults 0 (drop 34 octets))) e

fails_relay : (parse : List ℕ → Result UnvalidatedMessage PdFault) (octets inside : List ℕ) (fault : PdFault)
    → Carries octets inside → parse inside ≡ Err fault → relay_in parse octets ≡ Err fault
unfolding relay_in
fails_relay parse octets inside fault h e = let f = found_again octets inside h in
    rw (le-ltb (length octets) 34 h.whole, f.found, e) refl

-- ---- too many relays

-- a message of another fault than those of options
other_type : (kind : Option MessageKind) (octets : List ℕ) (fault : PdFault) → (OfOptions fault → ⊥)
    → or_ignored kind octets ≡ Err fault → (kind ≡ None) × (fault ≡ Ignored)
other_type None octets fault never e = (refl, cc)
other_type (Some kind) octets fault never e = absurd (never (subst (Faults OfOptions) e (client_in_faults kind octets)))

pub deep_takes : (left : ℕ) (octets : List ℕ) → AreOctets octets → message_in Leases left octets ≡ Err TooDeep
    → IsDeeper left octets
unfolding message_in
deep_takes zero [] fits e = absurd cc
deep_takes (suc left) [] fits e = absurd cc
deep_takes zero (x ∷ octets) fits e = by (x == RELAY_FORWARD) refl e
  where
    by : (t : Bool) → (x == RELAY_FORWARD) ≡ t → (if t then Err TooDeep else or_ignored (kind_of Leases x) (x ∷ octets))
        ≡ Err TooDeep → IsDeeper zero (x ∷ octets)
    by true t e = record { inside = x ∷ octets; carried = refl; some = omega arith; kind = eqb-true x RELAY_FORWARD t }
    by false t e = absurd (let f = (other_type (kind_of Leases x) (x ∷ octets) TooDeep (λ h. h) e).1 in cc)
deep_takes (suc left) (x ∷ octets) fits e = by (x == RELAY_FORWARD) refl (deep_takes left) e
  where
    by : (t : Bool) → (x == RELAY_FORWARD) ≡ t
        → ((inside : List ℕ) → AreOctets inside → message_in Leases left inside ≡ Err TooDeep → IsDeeper left inside)
        → (if t then relay_in (message_in Leases left) (x ∷ octets) else or_ignored (kind_of Leases x) (x ∷ octets)) ≡ Err TooDeep
        → IsDeeper (suc left) (x ∷ octets)
    by true t again e =
        let f = relay_fails (message_in Leases left) (x ∷ octets) TooDeep fits (eqb-true x RELAY_FORWARD t) (λ h. h) e in
        let d = again f.inside f.fits f.fails in
        record { inside = d.inside; carried = (f.inside, f.carries, d.carried); some = d.some; kind = d.kind }
    by false t again e = absurd (let f = (other_type (kind_of Leases x) (x ∷ octets) TooDeep (λ h. h) e).1 in cc)

pub deep_again : (left : ℕ) (octets inside : List ℕ) → Carried left octets inside → 0 < length inside
    → slice_index inside 0 ≡ RELAY_FORWARD → message_in Leases left octets ≡ Err TooDeep
unfolding message_in
deep_again zero octets [] h some kind = absurd (omega arith)
deep_again zero octets (x ∷ inside) h some kind = rw h (by_relay_type x inside kind)
  where
    by_relay_type : (x : ℕ) (inside : List ℕ) → x ≡ RELAY_FORWARD
        → by_type Leases (λ _. Err TooDeep) (x ∷ inside) ≡ Err TooDeep
    by_relay_type x inside is = rw (eq-eqb x RELAY_FORWARD is) refl
deep_again (suc left) octets inside h some kind =
    relay_typed Leases (relay_in (message_in Leases left)) octets h.1.whole h.1.kind
    ∙ fails_relay (message_in Leases left) octets h.0 TooDeep h.1 (deep_again left h.0 inside h.2 some kind)

-- ---- a type that is not read

unknown : (x : ℕ) (kind : ClientKind) → kind_of Leases x ≡ None → x ≢ lease_type kind
unknown x kind e is = absurd (let f : kind_of Leases x ≡ Some (Lease kind) = ap (kind_of Leases) is
    ∙ (kind_again Leases (Lease kind) tt).1 in cc)

here : (left x : ℕ) (octets : List ℕ) → (x == RELAY_FORWARD) ≡ false
    → or_ignored (kind_of Leases x) (x ∷ octets) ≡ Err Ignored → IsOfOtherType left (x ∷ octets)
here left x octets t e = record {
  relays = zero;
  few = omega arith;
  inside = x ∷ octets;
  carried = refl;
  some = omega arith;
  relay = λ is. (let u : (x == RELAY_FORWARD) ≡ true = eq-eqb x RELAY_FORWARD is in
      absurd (let v : true ≡ false = sym u ∙ t in cc));
  other = λ kind. unknown x kind (other_type (kind_of Leases x) (x ∷ octets) Ignored (λ h. h) e).0;
}

pub other_takes : (left : ℕ) (octets : List ℕ) → AreOctets octets → message_in Leases left octets ≡ Err Ignored
    → IsOfOtherType left octets
unfolding message_in
other_takes zero [] fits e = absurd cc
other_takes (suc left) [] fits e = absurd cc
other_takes zero (x ∷ octets) fits e = by (x == RELAY_FORWARD) refl e
  where
    by : (t : Bool) → (x == RELAY_FORWARD) ≡ t → (if t then Err TooDeep else or_ignored (kind_of Leases x) (x ∷ octets))
        ≡ Err Ignored → IsOfOtherType zero (x ∷ octets)
    by true t e = absurd cc
    by false t e = here zero x octets t e
other_takes (suc left) (x ∷ octets) fits e = by (x == RELAY_FORWARD) refl (other_takes left) e
  where
    by : (t : Bool) → (x == RELAY_FORWARD) ≡ t
        → ((inside : List ℕ) → AreOctets inside → message_in Leases left inside ≡ Err Ignored → IsOfOtherType left inside)
        → (if t then relay_in (message_in Leases left) (x ∷ octets) else or_ignored (kind_of Leases x) (x ∷ octets)) ≡ Err Ignored
        → IsOfOtherType (suc left) (x ∷ octets)
    by true t again e =
        let f = relay_fails (message_in Leases left) (x ∷ octets) Ignored fits (eqb-true x RELAY_FORWARD t) (λ h. h) e in
        let d = again f.inside f.fits f.fails in
        record {
          relays = suc d.relays;
          few = omega (arith, d.few);
          inside = d.inside;
          carried =
              (f.inside, f.carries, d.carried);
          some = d.some;
          relay = d.relay;
          other = d.other;
        }
    by false t again e = here (suc left) x octets t e

-- a type that is not read is not known
none_of : (x : ℕ) → ((kind : ClientKind) → x ≢ lease_type kind) → kind_of Leases x ≡ None
none_of x other = by (kind_of Leases x) refl
  where
    by : (o : Option MessageKind) → kind_of Leases x ≡ o → kind_of Leases x ≡ None
    by None e = e
    by (Some (Lease kind)) e = absurd (other kind (kind_takes Leases x (Lease kind) e).0)
    by (Some Information) e = absurd (kind_takes Leases x Information e).1

typed : (relay : List ℕ → Result UnvalidatedMessage PdFault) (octets : List ℕ) → 0 < length octets
    → slice_index octets 0 ≢ RELAY_FORWARD → ((kind : ClientKind) → slice_index octets 0 ≢ lease_type kind)
    → by_type Leases relay octets ≡ Err Ignored
typed relay [] some never other = absurd (omega arith)
typed relay (x ∷ octets) some never other = rw (ne_eqb x RELAY_FORWARD never, none_of x other) refl

pub other_again : (relays left : ℕ) (octets inside : List ℕ) → relays ≤ left → Carried relays octets inside
    → 0 < length inside → slice_index inside 0 ≢ RELAY_FORWARD
    → ((kind : ClientKind) → slice_index inside 0 ≢ lease_type kind)
    → message_in Leases left octets ≡ Err Ignored
unfolding message_in
other_again zero zero octets inside few h some never other = rw h (typed (λ _. Err TooDeep) inside some never other)
other_again zero (suc left) octets inside few h some never other =
    rw h (typed (relay_in (message_in Leases left)) inside some never other)
other_again (suc relays) zero octets inside few h some never other = absurd (omega arith)
other_again (suc relays) (suc left) octets inside few h some never other =
    relay_typed Leases (relay_in (message_in Leases left)) octets h.1.whole h.1.kind
    ∙ fails_relay (message_in Leases left) octets h.0 Ignored h.1
    (other_again relays left h.0 inside (omega (arith, few)) h.2 some never other)
