-- Which IA_PDs of a message may be ordered, by a server's limits (RFC 8415, section 18.3.2: a server may decline to
-- give a client more) and by what is known of their relay ports.
use Rattle.std.specs.Prelude.{ℕ, ◌+◌, max, nat_le, nat_lt, Bool, true, false, not, ◌&&◌, ◌||◌, ◌==◌, List, [], ◌∷◌}
use Rattle.std.specs.Prelude.{length, filter, Option, Some, None, is_some, if◌then◌else◌}
use Rattle.std.specs.List.{list_any, list_all}
use Rattle.std.specs.Str.{bytes_eq}
use Rattle.prefix_range.specs.Prefix.{Prefix}
use Rattle.binding_rules.specs.declared.unit.Unit.{Unit as UnitValue}
use Rattle.binding_rules.specs.declared.unit.UnitStatus.{UnitStatus}
use Rattle.binding_rules.specs.declared.unit.UnitStatus.TheVariants.{Active}
use Rattle.book_state.specs.Book.{BookState, is_unit}
use Rattle.dhcp6_pd.specs.declared.message.ClientKind.{ClientKind}
use Rattle.dhcp6_pd.specs.declared.message.ClientKind.TheVariants.{Solicit, Request, Renew, Rebind, Release}
use Rattle.dhcp6_pd.specs.declared.message.ClientMessage.{ClientMessage}
use Rattle.dhcp6_pd.specs.declared.message.IaPd.{IaPd}
use Rattle.client_service.specs.declared.permit.Permit.{Permit}
use Rattle.client_service.specs.declared.permit.Permit.TheVariants.{Allowed, Anew, Denied, Unbound, Omitted}
use Rattle.client_limits.specs.declared.holders.Holders.{Holders}
use Rattle.client_limits.specs.Holders.{holder_of, units_of}
use Rattle.client_limits.specs.declared.grant_records.GrantRecords.{GrantRecords}
use Rattle.client_limits.specs.GrantRecords.{is_recorded}
use Rattle.client_limits.specs.declared.partner_reach.PartnerReach.{PartnerReach}
use Rattle.client_limits.specs.declared.partner_reach.PartnerReach.TheVariants.{Near, Apart}
use Rattle.client_limits.specs.declared.quotas.PortMatch.{PortMatch}
use Rattle.client_limits.specs.declared.quotas.PortMatch.TheVariants.{Same, Other, Unknown}
use Rattle.client_limits.specs.declared.limits.Limits.{Limits}
use Rattle.client_limits.specs.declared.limits.PortRule.{PortRule}
use Rattle.client_limits.specs.declared.limits.PortRule.TheVariants.{Free, Bound}

-- ---- what is known, and who asks

-- What is known where a message comes: the server's limits, how far its partner is, its book, whom units were given to
-- and by which ports, of which grants there are access records, and the reading.
pub record Known : Type 0 where
  pub limits : Limits
  pub reach : PartnerReach
  pub book : BookState
  pub clients : Holders
  pub ports : Holders
  pub records : GrantRecords
  pub now : ℕ

-- Of a message its client, the name of the relay port that it came by, if it came by one that has a name, and its type.
pub record Asking : Type 0 where
  pub client : List ℕ
  pub port : Option (List ℕ)
  pub kind : ClientKind

-- ---- who has a unit, by the book

abbrev pub is_of_client : List ℕ → UnitStatus → Bool
is_of_client client (Active k) = bytes_eq k.client client
is_of_client client _ = false

abbrev pub is_under : List ℕ → ℕ → UnitStatus → Bool
is_under client iaid (Active k) = bytes_eq k.client client && (k.iaid == iaid)
is_under client iaid _ = false

abbrev pub is_active : UnitStatus → Bool
is_active (Active k) = true
is_active _ = false

-- a lease of it lasts yet: one that this server gave by its clock, or one that the partner told of
abbrev pub is_current : ℕ → UnitValue → Bool
is_current now u = nat_lt now (max u.own_end u.told)

-- A unit counts for a quota while it is delegated and a lease of it lasts. The client has such a one, under any
-- identity association,
abbrev pub has_unit : Known → List ℕ → Prefix → Bool
has_unit k client p =
    is_unit k.book.pools p && (is_of_client client (k.book.units p).status && is_current k.now (k.book.units p))

-- under this one,
abbrev pub holds_under : Known → List ℕ → ℕ → Prefix → Bool
holds_under k client iaid p =
    is_unit k.book.pools p && (is_under client iaid (k.book.units p).status && is_current k.now (k.book.units p))

-- or some client has, who may have it by a grant of this server
abbrev pub is_used : Known → Prefix → Bool
is_used k p = is_unit k.book.pools p
    && (is_active (k.book.units p).status && (is_current k.now (k.book.units p) && nat_lt 0 (k.book.units p).out_end))

-- the unit is delegated to the client under this identity association, though its lease may have lapsed
abbrev pub has_under : Known → List ℕ → ℕ → Prefix → Bool
has_under k client iaid p = is_unit k.book.pools p && is_under client iaid (k.book.units p).status

-- how many of these units the client has
abbrev pub count_of : Known → List ℕ → List Prefix → ℕ
count_of k client units = length (filter (has_unit k client) units)

-- how many of these units someone has
abbrev pub count_used : Known → List Prefix → ℕ
count_used k units = length (filter (is_used k) units)

-- one of these units is the client's under this identity association
abbrev pub has_one : Known → List ℕ → ℕ → List Prefix → Bool
has_one k client iaid units = list_any (holds_under k client iaid) units

-- ---- where it comes from

-- the unit was given by another relay port than the message came by, if that is known
abbrev pub is_other : Option (List ℕ) → Option (List ℕ) → Bool
is_other None port = false
is_other (Some given) None = true
is_other (Some given) (Some port) = not (bytes_eq given port)

-- The port of a unit is known: there is an access record of this server's last grant of it, and the partner told of no
-- later one. Both ends are twice the desired lifetime past the reading of the grant.
abbrev pub is_known : Known → Prefix → Bool
is_known k p = is_unit k.book.pools p
    && (is_recorded k.records p.address && nat_le (k.book.units p).told (k.book.units p).out_end)

-- the client has a unit under the identity association, and another port is known for it
abbrev pub is_elsewhere : Known → Asking → ℕ → Bool
is_elsewhere k a iaid =
    list_any (λ p. has_under k a.client iaid p && (is_known k p && is_other (holder_of k.ports p.address) a.port))
    (units_of k.clients a.client)

-- the IA_PD names a unit that its client has under it
abbrev pub has_hinted : Known → List ℕ → ℕ → Option Prefix → Bool
has_hinted k client iaid None = false
has_hinted k client iaid (Some p) = has_under k client iaid p

-- the port of the unit that it names is known
abbrev pub is_known_hinted : Known → Option Prefix → Bool
is_known_hinted k None = false
is_known_hinted k (Some p) = is_known k p

-- the client has a unit under the identity association,
abbrev pub has_any : Known → Asking → ℕ → Bool
has_any k a iaid = list_any (has_under k a.client iaid) (units_of k.clients a.client)

-- or one whose port is known
abbrev pub knows_any : Known → Asking → ℕ → Bool
knows_any k a iaid = list_any (λ p. has_under k a.client iaid p && is_known k p) (units_of k.clients a.client)

abbrev pub gives_back : ClientKind → Bool
gives_back Release = true
gives_back _ = false

-- The unit that an IA_PD is about has no port that is known: the one that it names, where its client has that under it;
-- else a RELEASE is about none, and any other message about whichever the client has under it.
abbrev pub is_unknown : Known → Asking → IaPd → Bool
is_unknown k a ia =
    if has_hinted k a.client ia.iaid ia.hint
    then not (is_known_hinted k ia.hint)
    else (not (gives_back a.kind) && (has_any k a ia.iaid && not (knows_any k a ia.iaid)))

abbrev pub is_far : PartnerReach → Bool
is_far Apart = true
is_far Near = false

-- the partner is taken for down, or the two have been apart for more than a minute
abbrev pub is_apart : Known → Bool
is_apart k = is_some k.book.down || is_far k.reach

abbrev pub is_bound : PortRule → Bool
is_bound Bound = true
is_bound Free = false

-- ---- limits

-- so many are no fewer than the limit, which 0 lifts
abbrev pub is_reached : ℕ → ℕ → Bool
is_reached limit count = not (limit == 0) && nat_le limit count

-- a SOLICIT and a REQUEST may ask for a unit that the client doesn't have yet
abbrev pub may_ask : ClientKind → Bool
may_ask Solicit = true
may_ask Request = true
may_ask _ = false

-- what quotas say of an IA_PD
abbrev pub quota_permit : Bool → Permit
quota_permit true = Denied
quota_permit false = Allowed

abbrev pub is_allowed : Permit → Bool
is_allowed Allowed = true
is_allowed _ = false

-- ---- by the port

-- where associations belong to their ports: whether the port of an IA_PD's unit is the message's
abbrev pub match_by : Bool → Bool → PortMatch
match_by true unknown = Other
match_by false true = Unknown
match_by false false = Same

abbrev pub port_match : Known → Asking → IaPd → PortMatch
port_match k a ia =
    if is_bound k.limits.ports then match_by (is_elsewhere k a ia.iaid) (is_unknown k a ia) else Same

-- another port is known: a RELEASE is told NoBinding, and all else NoPrefixAvail
abbrev pub other_permit : ClientKind → Permit
other_permit Release = Unbound
other_permit _ = Denied

-- No port is known. A RENEW and a REBIND are left to the partner while that is in reach; else they are ordered, by a
-- line of their own, so that the port is known from then on. A RELEASE gives nothing back.
abbrev pub unknown_permit : ClientKind → (is_apart : Bool) → (quota : Permit) → Permit
unknown_permit Solicit apart quota = quota
unknown_permit Request apart quota = quota
unknown_permit Renew apart quota = if apart then Anew else Omitted
unknown_permit Rebind apart quota = if apart then Anew else Omitted
unknown_permit Release apart quota = Omitted

abbrev pub permit_by : PortMatch → ClientKind → (is_apart : Bool) → (quota : Permit) → Permit
permit_by Same kind apart quota = quota
permit_by Other kind apart quota = other_permit kind
permit_by Unknown kind apart quota = unknown_permit kind apart quota

module _ (k : Known) (a : Asking) where
  -- the IA_PD asks for a unit, and its client has none under it
  abbrev pub asks_for_more : ℕ → Bool
  asks_for_more iaid = may_ask a.kind && not (has_one k a.client iaid (units_of k.clients a.client))

  -- those behind the port have as many as they may, and so many more
  abbrev pub is_port_full : Option (List ℕ) → ℕ → Bool
  is_port_full None more = false
  is_port_full (Some name) more =
      is_reached k.limits.units_per_port (count_used k (units_of k.ports name) + more)

  -- no unit more is given: at this place of the message, to this client with so many more, or behind this port
  abbrev pub is_full : ℕ → ℕ → Bool
  is_full place more = is_reached k.limits.ias_per_message place
      || (is_reached k.limits.units_per_client (count_of k a.client (units_of k.clients a.client) + more)
      || is_port_full a.port more)

  -- a quota refuses an IA_PD, at a place of the message, where so many before it may be given a unit more
  abbrev pub is_refused : ℕ → ℕ → ℕ → Bool
  is_refused place more iaid = asks_for_more iaid && is_full place more

  -- whether it may be ordered
  abbrev pub permit_for : ℕ → ℕ → IaPd → Permit
  permit_for place more ia =
      permit_by (port_match k a ia) a.kind (is_apart k) (quota_permit (is_refused place more ia.iaid))

  -- it may be given a unit more
  abbrev pub may_take : ℕ → ℕ → IaPd → Bool
  may_take place more ia = asks_for_more ia.iaid && is_allowed (permit_for place more ia)

  abbrev pub permits_from : ℕ → ℕ → List IaPd → List Permit
  permits_from place more [] = []
  permits_from place more (ia ∷ ias) =
      permit_for place more ia ∷ permits_from (place + 1) (if may_take place more ia then more + 1 else more) ias

-- who sent a message that came by the port of this name
abbrev pub asking_in : Option (List ℕ) → ClientMessage → Asking
asking_in port m = record { client = m.client; port = port; kind = m.kind }

-- which IA_PDs of a message may be ordered
abbrev pub permits_of : Known → Option (List ℕ) → ClientMessage → List Permit
permits_of k port m = permits_from k (asking_in port m) 0 0 m.ias

-- ---- a message that is left to the partner

abbrev pub is_omitted : Permit → Bool
is_omitted Omitted = true
is_omitted _ = false

abbrev pub has_some : List Permit → Bool
has_some [] = false
has_some (permit ∷ permits) = true

-- a RENEW or REBIND
abbrev pub extends : ClientKind → Bool
extends Renew = true
extends Rebind = true
extends _ = false

-- all that a RENEW or REBIND asks for is left to the partner: there is no answer
abbrev pub is_left : ClientKind → List Permit → Bool
is_left kind permits = extends kind && (has_some permits && list_all is_omitted permits)
