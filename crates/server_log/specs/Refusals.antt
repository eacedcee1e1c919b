-- Which ends of a connection refuse the partner.
use Rattle.std.specs.Prelude.{Option, Some, None}
use Rattle.server_status.specs.declared.partner_refusal.PartnerRefusal.{PartnerRefusal}
use Rattle.server_status.specs.declared.partner_refusal.PartnerRefusal.TheVariants.{Frame, Message, OlderVolumes}
use Rattle.server_status.specs.declared.partner_refusal.PartnerRefusal.TheVariants.{Notice}
use Rattle.server_status.specs.declared.partner_refusal.PartnerRefusal.TheVariants.{JournalOlder as IsOlder}
use Rattle.server_log.specs.declared.disconnect_reason.DisconnectReason.{DisconnectReason}
use Rattle.server_log.specs.declared.disconnect_reason.DisconnectReason.TheVariants.{Refused, Book, Lacks, JournalOlder}
use Rattle.server_log.specs.declared.disconnect_reason.DisconnectReason.TheVariants.{OldCopy, MisspelledNotice}

-- why the partner was refused, where it was by what it sent or knows
abbrev pub refusal_of : DisconnectReason → Option PartnerRefusal
refusal_of Refused = Some Frame
refusal_of (Book refusal) = Some Message
refusal_of Lacks = Some OlderVolumes
refusal_of JournalOlder = Some IsOlder
refusal_of OldCopy = Some IsOlder
refusal_of MisspelledNotice = Some Notice
refusal_of _ = None
