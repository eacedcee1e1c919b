-- What a client's message orders, and what it is answered (RFC 8415, section 18.3).
use Rattle.std.specs.Prelude.{ℕ, ◌&&◌, Bool, true, false, if◌then◌else◌, List, [], ◌∷◌, Option, Some, None, option_map}
use Rattle.std.specs.Prelude.{slice_get}
use Rattle.dhcp6_pd.specs.declared.message.ClientKind.{ClientKind}
use Rattle.dhcp6_pd.specs.declared.message.ClientKind.TheVariants.{Solicit, Request as RequestKind, Renew as RenewKind}
use Rattle.dhcp6_pd.specs.declared.message.ClientKind.TheVariants.{Rebind, Release as ReleaseKind}
use Rattle.dhcp6_pd.specs.declared.message.ServerKind.{ServerKind}
use Rattle.dhcp6_pd.specs.declared.message.ServerKind.TheVariants.{Advertise, Reply as ReplyKind}
use Rattle.dhcp6_pd.specs.declared.message.ClientMessage.{ClientMessage}
use Rattle.dhcp6_pd.specs.declared.message.ServerMessage.{ServerMessage}
use Rattle.dhcp6_pd.specs.declared.message.IaPd.{IaPd}
use Rattle.dhcp6_pd.specs.declared.message.IaPart.{IaPart}
use Rattle.dhcp6_pd.specs.declared.message.IaPart.TheVariants.{First, Further}
use Rattle.dhcp6_pd.specs.declared.message.IaReply.{IaReply}
use Rattle.dhcp6_pd.specs.declared.message.IaReplyAnswer.{IaReplyAnswer}
use Rattle.dhcp6_pd.specs.declared.message.IaReplyAnswer.TheVariants.{Given as GivenReply, NoPrefix as NoPrefixReply}
use Rattle.dhcp6_pd.specs.declared.message.IaReplyAnswer.TheVariants.{NoBinding as NoBindingReply}
use Rattle.dhcp6_pd.specs.declared.message.InformationRequest.{InformationRequest}
use Rattle.router_options.specs.declared.choosing.Occasion.TheVariants.{Information}
use Rattle.router_options.specs.Choosing.{chosen}
use Rattle.server_book.specs.declared.reply_policy.ReplyPolicy.{ReplyPolicy}
use Rattle.server_book.specs.ReplyPolicy.{omits_unbound, occasion_of, refused_addresses}
use Rattle.order_book.specs.declared.order.LeaseRequest.{LeaseRequest}
use Rattle.order_book.specs.declared.order.Order.{Order}
use Rattle.order_book.specs.declared.order.Order.TheVariants.{Request, Renew, Release}
use Rattle.server_book.specs.declared.messages.IaAnswer.{IaAnswer}
use Rattle.server_book.specs.declared.messages.IaAnswer.TheVariants.{Given, NoPrefix, NoBinding, Released}

abbrev pub asked_in : List ℕ → IaPd → LeaseRequest
asked_in client ia = record { client = client; iaid = ia.iaid; hint = ia.hint }

-- a SOLICIT asks what a REQUEST would be given; a RENEW goes to the server that leased, a REBIND to any
abbrev pub order_by : ClientKind → LeaseRequest → Order
order_by Solicit a = Request a
order_by RequestKind a = Request a
order_by RenewKind a = Renew a
order_by Rebind a = Renew a
order_by ReleaseKind a = Release a

-- the order of a message's IA_PD at a place, from 0
abbrev pub order_of : ClientMessage → ℕ → Option Order
order_of m i = option_map (λ ia. order_by m.kind (asked_in m.client ia)) (slice_get m.ias i)

-- what is written of an answer: nothing of an IA_PD that was released, nor of one without a binding that is hidden
abbrev pub written_of : Bool → IaAnswer → Option IaReplyAnswer
written_of hidden (Given prefix valid) = Some (GivenReply prefix valid)
written_of hidden NoPrefix = Some NoPrefixReply
written_of hidden NoBinding = if hidden then None else Some NoBindingReply
written_of hidden Released = None

abbrev pub and_reply : ℕ → Option IaReplyAnswer → List IaReply → List IaReply
and_reply iaid None replies = replies
and_reply iaid (Some answer) replies = record { iaid = iaid; answer = answer } ∷ replies

-- ---- an IA_PD that stands once for each of its prefixes

-- what the first of them is told that is bound
abbrev pub first_bound : IaAnswer → IaAnswer → IaAnswer
first_bound NoBinding later = later
first_bound answer later = answer

abbrev pub if_further : IaPart → IaAnswer → IaAnswer → IaAnswer
if_further First answer later = NoBinding
if_further Further answer later = first_bound answer later

-- what those in front are told that go with the IA_PD before them; NoBinding where there is none
abbrev pub further_of : List IaPd → List IaAnswer → IaAnswer
further_of [] answers = NoBinding
further_of (ia ∷ ias) [] = NoBinding
further_of (ia ∷ ias) (answer ∷ answers) = if_further ia.part answer (further_of ias answers)

-- what an IA_PD is told, with those behind it: of all its prefixes at the first of them, and nothing at another
abbrev pub at_first : IaPart → IaAnswer → IaAnswer → IaAnswer
at_first First answer further = first_bound answer further
at_first Further answer further = Released

-- ---- the answer

-- the IA_PDs of the answer, in the message's order, each once
abbrev pub replies_of : Bool → List IaPd → List IaAnswer → List IaReply
replies_of hidden [] answers = []
replies_of hidden (ia ∷ ias) [] = []
replies_of hidden (ia ∷ ias) (answer ∷ answers) =
    and_reply ia.iaid (written_of hidden (at_first ia.part answer (further_of ias answers)))
    (replies_of hidden ias answers)

abbrev pub kind_of : ClientKind → ServerKind
kind_of Solicit = Advertise
kind_of _ = ReplyKind

abbrev pub is_release : ClientKind → Bool
is_release ReleaseKind = true
is_release _ = false

-- the answer goes back by the same relays; that of a RELEASE says Success
abbrev pub answer_of : ClientMessage → List ℕ → ReplyPolicy → List IaAnswer → ServerMessage
answer_of m own manner answers =
    record {
      relays = m.relays;
      kind = kind_of m.kind;
      xid = m.xid;
      client = Some m.client;
      server = own;
      options = chosen (occasion_of m.kind) m.requested manner.options;
      success = is_release m.kind;
      no_addresses = refused_addresses manner m;
      ias = replies_of (omits_unbound manner m.kind) m.ias answers;
    }

abbrev pub has_none : List IaReply → Bool
has_none [] = true
has_none (reply ∷ replies) = false

-- nothing is known of a message whose unknown IA_PDs are hidden: the answer has none
abbrev pub is_elsewhere : ClientMessage → ReplyPolicy → List IaAnswer → Bool
is_elsewhere m manner answers = omits_unbound manner m.kind && has_none (replies_of (omits_unbound manner m.kind) m.ias answers)

-- ---- requests for options alone (section 18.3.6)

-- what was asked for, and nothing of prefixes
abbrev pub information_answer : InformationRequest → List ℕ → ReplyPolicy → ServerMessage
information_answer i own manner =
    record {
      relays = i.relays;
      kind = ReplyKind;
      xid = i.xid;
      client = i.client;
      server = own;
      options = chosen Information i.requested manner.options;
      success = false;
      no_addresses = [];
      ias = [];
    }
