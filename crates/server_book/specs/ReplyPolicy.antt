-- How a server answers beside what its book says (RFC 8415, sections 18.3.2, 18.3.5, 18.3.9 and 18.3.10).
use Rattle.std.specs.Prelude.{ℕ, Bool, true, false, List, [], ◌∷◌}
use Rattle.dhcp6_pd.specs.declared.message.ClientKind.{ClientKind}
use Rattle.dhcp6_pd.specs.declared.message.ClientKind.TheVariants.{Solicit, Request, Renew, Rebind, Release}
use Rattle.dhcp6_pd.specs.declared.message.ClientMessage.{ClientMessage}
use Rattle.router_options.specs.declared.choosing.Occasion.{Occasion}
use Rattle.router_options.specs.declared.choosing.Occasion.TheVariants.{Advertise, Reply}
use Rattle.router_options.specs.Ready.{Ready}
use Rattle.server_book.specs.declared.reply_policy.ReplyPolicy.{ReplyPolicy}
use Rattle.server_book.specs.declared.reply_policy.RebindUnknown.{RebindUnknown}
use Rattle.server_book.specs.declared.reply_policy.RebindUnknown.TheVariants.{Silent, NoBinding}
use Rattle.server_book.specs.declared.reply_policy.AddressRule.{AddressRule}
use Rattle.server_book.specs.declared.reply_policy.AddressRule.TheVariants.{Ignore, Refuse}

abbrev pub plain : ReplyPolicy
plain = record { options = []; rebind_unknown = NoBinding; addresses = Ignore }

-- there is something to hand out beside prefixes
abbrev pub has_options : List Ready → Bool
has_options [] = false
has_options (option ∷ options) = true

-- nothing is said of an IA_PD of a message of this type that has no binding: of a REBIND's, where another server may
-- have it
abbrev pub omits_unbound_by : RebindUnknown → ClientKind → Bool
omits_unbound_by Silent Rebind = true
omits_unbound_by Silent Solicit = false
omits_unbound_by Silent Request = false
omits_unbound_by Silent Renew = false
omits_unbound_by Silent Release = false
omits_unbound_by NoBinding kind = false

abbrev pub omits_unbound : ReplyPolicy → ClientKind → Bool
omits_unbound manner kind = omits_unbound_by manner.rebind_unknown kind

abbrev pub occasion_of : ClientKind → Occasion
occasion_of Solicit = Advertise
occasion_of _ = Reply

-- the IA_NAs that are told NoAddrsAvail: none of a RELEASE's
abbrev pub refused_by : AddressRule → ClientKind → List ℕ → List ℕ
refused_by Ignore kind addresses = []
refused_by Refuse Release addresses = []
refused_by Refuse _ addresses = addresses

abbrev pub refused_addresses : ReplyPolicy → ClientMessage → List ℕ
refused_addresses manner m = refused_by manner.addresses m.kind m.addresses
