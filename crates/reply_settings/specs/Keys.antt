-- What the members of a TOML document say of how a server answers.
use Rattle.std.specs.Prelude.{◌≡◌, ◌⊎◌, ⊤, ◌==◌, ℕ, Bool, true, false, nat_le, List, codes, Option, Some, None}
use Rattle.std.specs.Prelude.{if◌then◌else◌}
use Rattle.std.specs.Str.{bytes_eq}
use Rattle.toml.specs.Data.{Data, Members, get_member, as_str}
use Rattle.text_fields.specs.Parsing.{◌>>=◌}
use Rattle.router_options.specs.declared.options.RouterOptions.{RouterOptions}
use Rattle.router_options.specs.Given.{options_of}
use Rattle.server_book.specs.declared.reply_policy.ReplyPolicy.{ReplyPolicy}
use Rattle.server_book.specs.declared.reply_policy.RebindUnknown.{RebindUnknown}
use Rattle.server_book.specs.declared.reply_policy.RebindUnknown.TheVariants.{Silent, NoBinding}
use Rattle.server_book.specs.declared.reply_policy.AddressRule.{AddressRule}
use Rattle.server_book.specs.declared.reply_policy.AddressRule.TheVariants.{Ignore, Refuse}
use Rattle.reply_settings.specs.declared.error.ReplyPolicyError.{ReplyPolicyError}
use Rattle.reply_settings.specs.declared.error.ReplyPolicyError.TheVariants.{Dns, Search, Sntp, InformationRefresh}
use Rattle.reply_settings.specs.declared.error.ReplyPolicyError.TheVariants.{Preference, Unicast}
use Rattle.reply_settings.specs.declared.error.ReplyPolicyError.TheVariants.{RebindUnknown as OtherRebind}
use Rattle.reply_settings.specs.declared.error.ReplyPolicyError.TheVariants.{IaNa, Memory}
use Rattle.reply_settings.specs.Values.{number_at, address_at, addresses_at, names_at}

-- ---- what is handed out beside prefixes

-- a number up to 255, if there is one
abbrev pub octet_of : Option ℕ → Option ℕ
octet_of None = None
octet_of (Some n) = if nat_le n 255 then Some n else None

-- a preference of 0 to 255
abbrev pub preference_in : Members → Option (Option ℕ)
preference_in members = number_at (codes "preference") 0 255 members

-- seconds, 600 at least (IRT_MINIMUM)
abbrev pub refresh_in : Members → Option (Option ℕ)
refresh_in members = number_at (codes "information_refresh") 600 4294967295 members

-- what a document hands out
pub record HandsOut (m : Members) (o : RouterOptions) : Type 0 where
  pub dns : addresses_at (codes "dns") m ≡ Some o.dns.items
  pub search : names_at (codes "search") m ≡ Some o.search.items
  pub sntp : addresses_at (codes "sntp") m ≡ Some o.sntp.items
  pub refresh : refresh_in m ≡ Some o.information_refresh
  pub preference : (p : Option ℕ) × (preference_in m ≡ Some p) × (o.preference ≡ octet_of p)
  pub unicast : address_at (codes "unicast") m ≡ Some o.unicast

abbrev pub IsOptionFault : Members → ReplyPolicyError → Type 0
IsOptionFault m Dns = addresses_at (codes "dns") m ≡ None
IsOptionFault m Search = names_at (codes "search") m ≡ None
IsOptionFault m Sntp = addresses_at (codes "sntp") m ≡ None
IsOptionFault m InformationRefresh = refresh_in m ≡ None
IsOptionFault m Preference = preference_in m ≡ None
IsOptionFault m Unicast = address_at (codes "unicast") m ≡ None
IsOptionFault m Memory = ⊤
IsOptionFault m _ = ⊥

-- ---- REBINDs of what is not known

abbrev pub rebind_by : List ℕ → Option RebindUnknown
rebind_by word =
    if bytes_eq word (codes "silent") then Some Silent
    else if bytes_eq word (codes "no-binding") then Some NoBinding
    else None

abbrev pub rebind_word : Data → Option RebindUnknown
rebind_word value = as_str value >>= rebind_by

abbrev pub rebind_or : Bool → Option Data → Option RebindUnknown
rebind_or is_alone None = if is_alone then Some NoBinding else Some Silent
rebind_or is_alone (Some value) = rebind_word value

-- where nothing is said, a server that has a partner is silent
unfoldable pub rebind_in : Bool → Members → Option RebindUnknown
rebind_in is_alone m = rebind_or is_alone (get_member (codes "rebind_unknown") m)

-- ---- IA_NAs

abbrev pub address_rule_of : Data → Option AddressRule
address_rule_of value = as_str value >>= λ word. if bytes_eq word (codes "refuse") then Some Refuse else None

abbrev pub address_rule_or : Option Data → Option AddressRule
address_rule_or None = Some Ignore
address_rule_or (Some value) = address_rule_of value

unfoldable pub address_rule_in : Members → Option AddressRule
address_rule_in m = address_rule_or (get_member (codes "ia_na") m)

-- ---- a server's manner

-- by a document, for a server that is alone or not
pub record IsReplyPolicy (is_alone : Bool) (m : Members) (manner : ReplyPolicy) : Type 0 where
  pub given : RouterOptions
  pub hands_out : HandsOut m given
  pub options : manner.options ≡ options_of given
  pub rebind : rebind_in is_alone m ≡ Some manner.rebind_unknown
  pub addresses : address_rule_in m ≡ Some manner.addresses

abbrev pub IsReplyPolicyFault : Bool → Members → ReplyPolicyError → Type 0
IsReplyPolicyFault is_alone m OtherRebind = rebind_in is_alone m ≡ None
IsReplyPolicyFault is_alone m IaNa = address_rule_in m ≡ None
IsReplyPolicyFault is_alone m e = IsOptionFault m e
