-- How counts grow.
use Rattle.std.specs.Prelude.{ℕ, ◌+◌, ◌-◌, ◌^◌, Bool, true, false}
use Rattle.std.specs.Prelude.{min}
use Rattle.std.specs.Option.{is_some}
use Rattle.binding_rules.specs.declared.role.Role.{Role}
use Rattle.binding_rules.specs.declared.role.Role.TheVariants.{Primary, Secondary}
use Rattle.binding_rules.specs.declared.unit.Unit.{Unit}
use Rattle.binding_rules.specs.declared.unit.UnitStatus.{UnitStatus}
use Rattle.binding_rules.specs.declared.unit.UnitStatus.TheVariants.{Free, FreeBackup, Active, Expired, Released}
use Rattle.dhcp6_pd.specs.declared.message.ClientKind.{ClientKind}
use Rattle.dhcp6_pd.specs.declared.message.ClientKind.TheVariants.{Solicit, Request, Renew, Rebind, Release}
use Rattle.dhcp6_pd.specs.declared.message.ServerKind.{ServerKind}
use Rattle.dhcp6_pd.specs.declared.message.ServerKind.TheVariants.{Advertise, Reply}
use Rattle.dhcp6_pd.specs.declared.error.PdFault.{PdFault}
use Rattle.dhcp6_pd.specs.declared.error.PdFault.TheVariants.{Short, OptionLength, DuplicateId, NoClientId}
use Rattle.dhcp6_pd.specs.declared.error.PdFault.TheVariants.{ServerIdPresent, ServerIdMissing, NotOurs, TooDeep}
use Rattle.dhcp6_pd.specs.declared.error.PdFault.TheVariants.{TooManyIas, Ignored, BadPrefixLength}
use Rattle.server_status.specs.declared.units.UnitCounts.{UnitCounts}
use Rattle.server_status.specs.declared.traffic.MessageCounts.{MessageCounts}
use Rattle.server_status.specs.declared.traffic.AnswerCounts.{AnswerCounts}
use Rattle.server_status.specs.declared.traffic.FaultCounts.{FaultCounts}

-- a count stays at the greatest number
abbrev pub one_more : ℕ → ℕ
one_more n = min (n + 1) (2 ^ 64 - 1)

-- ---- units

-- a unit that is free is the primary's to give, and a free backup the secondary's
abbrev pub with_status : Role → UnitStatus → UnitCounts → UnitCounts
with_status Primary Free c = record c { own = one_more c.own }
with_status Primary FreeBackup c = record c { partners = one_more c.partners }
with_status Secondary Free c = record c { partners = one_more c.partners }
with_status Secondary FreeBackup c = record c { own = one_more c.own }
with_status role (Active b) c = record c { delegated = one_more c.delegated }
with_status role (Expired b) c = record c { expired = one_more c.expired }
with_status role (Released b) c = record c { released = one_more c.released }

abbrev pub with_due : Bool → UnitCounts → UnitCounts
with_due true c = record c { due = one_more c.due }
with_due false c = c

abbrev pub with_mark : Bool → UnitCounts → UnitCounts
with_mark true c = record c { marked = one_more c.marked }
with_mark false c = c

-- one unit more of a server in this role
abbrev pub with_unit : Role → Unit → UnitCounts → UnitCounts
with_unit role u c = with_mark u.marked (with_due (is_some u.due) (with_status role u.status c))

-- ---- messages

abbrev pub with_message : ClientKind → MessageCounts → MessageCounts
with_message Solicit c = record c { solicit = one_more c.solicit }
with_message Request c = record c { request = one_more c.request }
with_message Renew c = record c { renew = one_more c.renew }
with_message Rebind c = record c { rebind = one_more c.rebind }
with_message Release c = record c { release = one_more c.release }

abbrev pub with_answer : ServerKind → AnswerCounts → AnswerCounts
with_answer Advertise c = record c { advertise = one_more c.advertise }
with_answer Reply c = record c { reply = one_more c.reply }

abbrev pub with_fault : PdFault → FaultCounts → FaultCounts
with_fault Short c = record c { short = one_more c.short }
with_fault OptionLength c = record c { option_length = one_more c.option_length }
with_fault DuplicateId c = record c { duplicate_id = one_more c.duplicate_id }
with_fault NoClientId c = record c { no_client_id = one_more c.no_client_id }
with_fault ServerIdPresent c = record c { server_id_present = one_more c.server_id_present }
with_fault ServerIdMissing c = record c { server_id_missing = one_more c.server_id_missing }
with_fault NotOurs c = record c { not_ours = one_more c.not_ours }
with_fault TooDeep c = record c { too_deep = one_more c.too_deep }
with_fault TooManyIas c = record c { too_many_ias = one_more c.too_many_ias }
with_fault Ignored c = record c { ignored = one_more c.ignored }
with_fault BadPrefixLength c = record c { bad_prefix_length = one_more c.bad_prefix_length }
