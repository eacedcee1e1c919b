-- Which frames of the link carry messages, and which.
use Rattle.std.specs.Prelude.{Option, Some, None, option_map}
use Rattle.binding_rules.specs.declared.message.Body.{Body}
use Rattle.binding_rules.specs.declared.message.Body.TheVariants.{Update, Reply, Contact}
use Rattle.binding_rules.specs.declared.message.PartnerMessage.{PartnerMessage}
use Rattle.failover_message.specs.declared.frame.Frame.{Frame}
use Rattle.failover_message.specs.declared.frame.FrameKind.{FrameKind}
use Rattle.failover_message.specs.declared.frame.FrameKind.TheVariants.{BindingUpdate, BindingReply}
use Rattle.failover_message.specs.declared.frame.FrameKind.TheVariants.{Contact as ContactKind}

-- the frames with a serial: BNDUPD, BNDREPLY and CONTACT (RFC 8156, section 5)
abbrev pub body_in : FrameKind → Option Body
body_in (BindingUpdate u) = Some (Update u)
body_in (BindingReply r) = Some (Reply r)
body_in (ContactKind ask answer) = Some (Contact ask answer)
body_in _ = None

abbrev pub message_in : Frame → Option PartnerMessage
message_in f = option_map (λ body. record { term = f.term; serial = f.serial; body = body }) (body_in f.kind)
