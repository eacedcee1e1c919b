-- Which faults parsing gives: those of options, those of relays and types, and last those of identifiers.
use Rattle.std.proofs.Common.{ℕ, zero, suc, ◌+◌, Bool, true, false, List, [], ◌∷◌, length, drop, Option, Some, None}
use Rattle.std.proofs.Common.{Result, Ok, Err}
use Rattle.std.specs.Prelude.{◌==◌, ◌%◌, nat_lt, slice_index, if◌then◌else◌}
use Rattle.byteorder.specs.Endian.{big_number}
use Rattle.prefix_range.specs.Prefix.{Prefix}
use Rattle.client_id.specs.Duid.{duid_in}
use Rattle.client_id.specs.declared.error.ClientIdError.{ClientIdError}
use Rattle.text_fields.specs.Parsing.{◌>>!◌}
use Rattle.dhcp6_pd.specs.declared.error.PdFault.{PdFault}
use Rattle.dhcp6_pd.specs.declared.error.PdFault.TheVariants.{Short, OptionLength, DuplicateId, NoClientId}
use Rattle.dhcp6_pd.specs.declared.error.PdFault.TheVariants.{ServerIdPresent, ServerIdMissing, NotOurs, TooDeep}
use Rattle.dhcp6_pd.specs.declared.error.PdFault.TheVariants.{TooManyIas, Ignored, BadPrefixLength}
use Rattle.dhcp6_pd.specs.declared.numbers.TheConstants.{IA_PREFIX, RELAY_MESSAGE, RELAY_FORWARD}
use Rattle.dhcp6_pd.specs.declared.message_class.MessageClass.{MessageClass}
use Rattle.dhcp6_pd.specs.declared.message_class.MessageKind.{MessageKind}
use Rattle.dhcp6_pd.specs.declared.requested_items.RequestedItems.{RequestedItems}
use Rattle.dhcp6_pd.specs.declared.numbers.TheConstants.{OPTION_REQUEST, IA_NA, IA_TA, IA_PD}
use Rattle.dhcp6_pd.specs.RequestedItems.{request_in, request_once, wish_option, no_wishes}
use Rattle.dhcp6_pd.specs.declared.option_code.OptionCode.{OptionCode}
use Rattle.dhcp6_pd.specs.declared.option_code.OptionCode.TheVariants as codes
use Rattle.dhcp6_pd.specs.declared.client_options.ClientOptions.{ClientOptions}
use Rattle.dhcp6_pd.specs.declared.relay_options.RelayOptions.{RelayOptions}
use Rattle.dhcp6_pd.specs.declared.unvalidated.UnvalidatedMessage.{UnvalidatedMessage}
use Rattle.dhcp6_pd.specs.Options.{DhcpOption}
use Rattle.dhcp6_pd.specs.Rows.{Row, Done, Broken, Next, row_behind, row_of, code_of, folded}
use Rattle.dhcp6_pd.specs.Associations.{prefix_in, with_hint, ia_in}
use Rattle.dhcp6_pd.specs.Faults.{duid_or, once, seen_once, with_ia, client_code}
use Rattle.dhcp6_pd.specs.Faults.{client_option, no_client_options, kind_of, client_in, relay_id_once, relay_code}
use Rattle.dhcp6_pd.specs.Faults.{relay_option, no_relay_options, to_message, behind, relay_in, or_ignored, by_type}
use Rattle.dhcp6_pd.specs.Faults.{message_in}

-- ---- faults, one step after another

-- what was found is good, or the fault is one of these
abbrev pub Within : {A : Type 0} → (A → Type 0) → (PdFault → Type 0) → Result A PdFault → Type 0
Within Good F (Ok x) = Good x
Within Good F (Err fault) = F fault

-- the fault is one of these
abbrev pub Faults : {A : Type 0} → (PdFault → Type 0) → Result A PdFault → Type 0
Faults F r = Within (λ _. Unit {0}) F r

bind_within : {A B : Type 0} (Good : A → Type 0) (F : PdFault → Type 0) (r : Result A PdFault) (f : A
    → Result B PdFault) → Within Good F r → ((x : A) → Good x → Faults F (f x)) → Faults F (r >>! f)
bind_within Good F (Ok x) f h g = g x h
bind_within Good F (Err fault) f h g = h

bind_faults : {A B : Type 0} (F : PdFault → Type 0) (r : Result A PdFault) (f : A → Result B PdFault) → Faults F r
    → ((x : A) → Faults F (f x)) → Faults F (r >>! f)
bind_faults F (Ok x) f h g = g x
bind_faults F (Err fault) f h g = h

if_faults : {A : Type 0} (F : PdFault → Type 0) (b : Bool) (r s : Result A PdFault) → Faults F r → Faults F s
    → Faults F (if b then r else s)
if_faults F true r s h g = h
if_faults F false r s h g = g

wider : {A : Type 0} (Good : A → Type 0) (F G : PdFault → Type 0) (r : Result A PdFault)
    → ((fault : PdFault) → F fault → G fault) → Within Good F r → Within Good G r
wider Good F G (Ok x) more h = h
wider Good F G (Err fault) more h = more fault h

-- ---- the faults of options

-- the faults of options come first, then those of relays and types, last those of identifiers
abbrev pub rank : PdFault → ℕ
rank Short = 0
rank OptionLength = 0
rank DuplicateId = 0
rank TooManyIas = 0
rank BadPrefixLength = 0
rank TooDeep = 1
rank Ignored = 1
rank NoClientId = 2
rank ServerIdPresent = 2
rank ServerIdMissing = 2
rank NotOurs = 2

abbrev pub OfOptions : PdFault → Type 0
OfOptions fault = IsFirst (rank fault)
  where
    IsFirst : ℕ → Type 0
    IsFirst zero = Unit {0}
    IsFirst (suc rank) = ⊥

-- those that come before the faults of identifiers
abbrev pub OfOctets : PdFault → Type 0
OfOctets fault = IsBefore (rank fault)
  where
    IsBefore : ℕ → Type 0
    IsBefore zero = Unit {0}
    IsBefore (suc zero) = Unit {0}
    IsBefore (suc (suc rank)) = ⊥

abbrev pub RowFaults : Row → Type 0
RowFaults Done = Unit {0}
RowFaults (Broken fault) = OfOptions fault
RowFaults (Next o row) = RowFaults row

pub row_faults : (n : ℕ) (octets : List ℕ) → RowFaults (row_behind n octets)
unfolding row_behind
row_faults zero [] = tt
row_faults zero (x ∷ octets) = by (nat_lt (length octets) 3)
    (nat_lt (length (drop 3 octets)) (big_number 2 (drop 1 octets))) _ _
    (row_faults (3 + big_number 2 (drop 1 octets)) octets)
  where
    by : (t u : Bool) (o : DhcpOption) (row : Row) → RowFaults row
        → RowFaults (if t then Broken Short else if u then Broken OptionLength else Next o row)
    by true u o row h = tt
    by false true o row h = tt
    by false false o row h = h
row_faults (suc n) [] = tt
row_faults (suc n) (x ∷ octets) = row_faults n octets

pub folded_faults : {S : Type 0} (step : S → DhcpOption → Result S PdFault) (s : S) (row : Row)
    → ((s : S) (o : DhcpOption) → Faults OfOptions (step s o)) → RowFaults row → Faults OfOptions (folded step s row)
unfolding folded
folded_faults step s Done h rows = tt
folded_faults step s (Broken fault) h rows = rows
folded_faults step s (Next o row) h rows =
    bind_faults OfOptions (step s o) _ (h s o) (λ more. folded_faults step more row h rows)

prefix_faults : (octets : List ℕ) → Faults OfOptions (prefix_in octets)
unfolding prefix_in
prefix_faults octets = if_faults OfOptions (nat_lt (length octets) 25) _ _ tt
    (if_faults OfOptions (nat_lt 128 (slice_index octets 8)) _ _ tt tt)

hint_faults : (hint : Option Prefix) (o : DhcpOption) → Faults OfOptions (with_hint hint o)
unfolding with_hint
hint_faults None o = if_faults OfOptions (o.code == IA_PREFIX) _ _
    (bind_faults OfOptions (prefix_in o.octets) _ (prefix_faults o.octets) (λ _. tt)) tt
hint_faults (Some p) o = tt

ia_faults : (octets : List ℕ) → Faults OfOptions (ia_in octets)
unfolding ia_in
ia_faults octets = if_faults OfOptions (nat_lt (length octets) 12) _ _ tt
    (bind_faults OfOptions (folded with_hint None (row_of (drop 12 octets))) _
    (folded_faults with_hint None _ hint_faults (row_faults 0 (drop 12 octets))) (λ _. tt))

once_faults : (before : Option (List ℕ)) (octets : List ℕ) → Faults OfOptions (once before octets)
unfolding once
once_faults None octets = by (duid_in octets)
  where
    by : (r : Result (List ℕ) ClientIdError) → Faults OfOptions (duid_or r)
    by (Ok duid) = tt
    by (Err e) = tt
once_faults (Some duid) octets = tt

seen_faults : (before : Bool) → Faults OfOptions (seen_once before)
unfolding seen_once
seen_faults true = tt
seen_faults false = tt

id_faults : (before : Option (List ℕ)) (octets : List ℕ) → Faults OfOptions (relay_id_once before octets)
id_faults None octets = tt
id_faults (Some id) octets = tt

ias_faults : (s : ClientOptions) (octets : List ℕ) → Faults OfOptions (with_ia s.ias octets)
unfolding with_ia
ias_faults s octets = if_faults OfOptions (nat_lt (length s.ias) 16) _ _
    (bind_faults OfOptions (ia_in octets) _ (ia_faults octets) (λ _. tt)) tt

client_faults : (s : ClientOptions) (o : DhcpOption) → Faults OfOptions (client_option s o)
unfolding client_option
client_faults s o = by (code_of o.code)
  where
    by : (code : OptionCode) → Faults OfOptions (client_code code s o.octets)
    by codes.ClientId = bind_faults OfOptions (once s.client o.octets) _ (once_faults s.client o.octets) (λ _. tt)
    by codes.ServerId = bind_faults OfOptions (once s.server o.octets) _ (once_faults s.server o.octets) (λ _. tt)
    by codes.RelayMessage = bind_faults OfOptions (seen_once s.relayed) _ (seen_faults s.relayed) (λ _. tt)
    by codes.InterfaceId = bind_faults OfOptions (seen_once s.interface) _ (seen_faults s.interface) (λ _. tt)
    by codes.RemoteId = tt
    by codes.IaPd = bind_faults OfOptions (with_ia s.ias o.octets) _ (ias_faults s o.octets) (λ _. tt)
    by codes.IaPrefix = tt
    by codes.Other = tt

pub relay_faults : (l : RelayOptions) (o : DhcpOption) → Faults OfOptions (relay_option l o)
unfolding relay_option
relay_faults l o = by (code_of o.code)
  where
    by : (code : OptionCode) → Faults OfOptions (relay_code code l o.octets)
    by codes.ClientId = bind_faults OfOptions (seen_once l.client) _ (seen_faults l.client) (λ _. tt)
    by codes.ServerId = bind_faults OfOptions (seen_once l.server) _ (seen_faults l.server) (λ _. tt)
    by codes.RelayMessage = bind_faults OfOptions (seen_once l.relayed) _ (seen_faults l.relayed) (λ _. tt)
    by codes.InterfaceId = bind_faults OfOptions (relay_id_once l.interface o.octets) _
        (id_faults l.interface o.octets) (λ _. tt)
    by codes.RemoteId = bind_faults OfOptions (relay_id_once l.remote o.octets) _
        (id_faults l.remote o.octets) (λ _. tt)
    by codes.IaPd = tt
    by codes.IaPrefix = tt
    by codes.Other = tt

request_faults : (before : Option (List ℕ)) (octets : List ℕ) → Faults OfOptions (request_once before octets)
unfolding request_once request_in
request_faults None octets = bind_faults OfOptions (request_in octets) _
    (if_faults OfOptions (length octets % 2 == 0) _ _ tt tt) (λ _. tt)
request_faults (Some codes) octets = tt

wish_faults : (w : RequestedItems) (o : DhcpOption) → Faults OfOptions (wish_option w o)
unfolding wish_option
wish_faults w o = if_faults OfOptions (o.code == OPTION_REQUEST) _ _
    (bind_faults OfOptions (request_once w.requested o.octets) _ (request_faults w.requested o.octets) (λ _. tt))
    (if_faults OfOptions (o.code == IA_NA) _ _ tt
    (if_faults OfOptions (o.code == IA_TA) _ _ tt (if_faults OfOptions (o.code == IA_PD) _ _ tt tt)))

pub client_in_faults : (kind : MessageKind) (octets : List ℕ) → Faults OfOptions (client_in kind octets)
unfolding client_in
client_in_faults kind octets = if_faults OfOptions (nat_lt (length octets) 4) _ _ tt
    (bind_faults OfOptions (folded client_option no_client_options (row_of (drop 4 octets))) _
    (folded_faults client_option no_client_options _ client_faults (row_faults 0 (drop 4 octets)))
    (λ _. bind_faults OfOptions (folded wish_option no_wishes (row_of (drop 4 octets))) _
    (folded_faults wish_option no_wishes _ wish_faults (row_faults 0 (drop 4 octets))) (λ _. tt)))

-- the options up to the relay message, and those behind it
abbrev pub Rest : RelayOptions × Option (List ℕ × Row) → Type 0
Rest found = by found.1
  where
    by : Option (List ℕ × Row) → Type 0
    by None = Unit {0}
    by (Some held) = RowFaults held.1

pub to_message_faults : (l : RelayOptions) (row : Row) → RowFaults row → Within Rest OfOptions (to_message l row)
unfolding to_message
to_message_faults l Done rows = tt
to_message_faults l (Broken fault) rows = rows
to_message_faults l (Next o row) rows =
    by (relay_option l o) (relay_faults l o) (λ more. to_message_faults more row rows)
  where
    at : (t : Bool) (more : RelayOptions) → Within Rest OfOptions (to_message more row)
        → Within Rest OfOptions (if t then Ok (more, Some (o.octets, row)) else to_message more row)
    at true more h = rows
    at false more h = h

    by : (r : Result RelayOptions PdFault) → Faults OfOptions r
        → ((more : RelayOptions) → Within Rest OfOptions (to_message more row))
        → Within Rest OfOptions (r >>! λ more. if o.code == RELAY_MESSAGE then Ok (
          more,
          Some (o.octets, row),
        ) else to_message more row)
    by (Ok more) h later = at (o.code == RELAY_MESSAGE) more (later more)
    by (Err fault) h later = h

-- ---- the faults that come before those of identifiers

of_octets : (fault : PdFault) → OfOptions fault → OfOctets fault
of_octets Short h = tt
of_octets OptionLength h = tt
of_octets DuplicateId h = tt
of_octets TooManyIas h = tt
of_octets BadPrefixLength h = tt
of_octets other h = absurd h

behind_faults : (parse : List ℕ → Result UnvalidatedMessage PdFault) (octets : List ℕ)
    (found : Result (RelayOptions × Option (List ℕ × Row)) PdFault)
    → ((inside : List ℕ) → Faults OfOctets (parse inside)) → Within Rest OfOptions found
    → Faults OfOctets (behind parse octets found)
behind_faults parse octets (Err fault) h up = of_octets fault up
behind_faults parse octets (Ok (l, None)) h up = tt
behind_faults parse octets (Ok (l, Some (inside, row))) h up =
    bind_faults OfOctets (parse inside) _ (h inside)
    (λ u. bind_faults OfOctets (folded relay_option l row) _
    (wider _ OfOptions OfOctets (folded relay_option l row) of_octets
    (folded_faults relay_option l row relay_faults up)) (λ _. tt))

ignored_faults : (kind : Option MessageKind) (octets : List ℕ) → Faults OfOctets (or_ignored kind octets)
ignored_faults None octets = tt
ignored_faults (Some kind) octets = wider _ OfOptions OfOctets (client_in kind octets) of_octets
    (client_in_faults kind octets)

type_faults : (reads : MessageClass) (relay : List ℕ → Result UnvalidatedMessage PdFault) (octets : List ℕ)
    → Faults OfOctets (relay octets) → Faults OfOctets (by_type reads relay octets)
type_faults reads relay [] h = tt
type_faults reads relay (x ∷ octets) h = if_faults OfOctets (x == RELAY_FORWARD) _ _ h
    (ignored_faults (kind_of reads x) (x ∷ octets))

pub message_faults : (reads : MessageClass) (left : ℕ) (octets : List ℕ) → Faults OfOctets (message_in reads left octets)
unfolding message_in relay_in
message_faults reads zero octets = type_faults reads (λ _. Err TooDeep) octets tt
message_faults reads (suc left) octets =
    type_faults reads (relay_in (message_in reads left)) octets
    (if_faults OfOctets (nat_lt (length octets) 34) _ _ tt
    (behind_faults (message_in reads left) octets _ (message_faults reads left)
    (to_message_faults no_relay_options (row_of (drop 34 octets)) (row_faults 0 (drop 34 octets)))))
