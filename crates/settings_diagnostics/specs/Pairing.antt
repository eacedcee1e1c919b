-- What in the settings of two partners doesn't go together.
use Rattle.std.specs.Prelude.{⊤, Bool, true, false, not, if◌then◌else◌, List, [], ◌∷◌, ◌++◌, map, codes}
use Rattle.std.specs.Prelude.{Option, Some, None, bytes_eq}
use Rattle.std.specs.List.{AllByRecursion}
use Rattle.toml.specs.Data.{Data, Members, get_member, as_bool}
use Rattle.binding_rules.specs.declared.role.Role.{Role}
use Rattle.binding_rules.specs.declared.role.Role.TheVariants.{Primary, Secondary}
use Rattle.server_settings.specs.Settings.{ServerSettings}
use Rattle.link_notices.specs.Comparing.{differences, KeepsApart}
use Rattle.notice_exchange.specs.Exchanges.{shared_settings}
use Rattle.settings_diagnostics.specs.declared.pairing.PairEnd.{PairEnd}
use Rattle.settings_diagnostics.specs.declared.pairing.PairEnd.TheVariants.{Own, Partner}
use Rattle.settings_diagnostics.specs.declared.pairing.PairConflict.{PairConflict}
use Rattle.settings_diagnostics.specs.declared.pairing.PairConflict.TheVariants.{IsAlone, HasNoLink, SameRole, SameDuid, Setting}

-- ---- whether a document names a partner

abbrev pub or_false : Option Bool → Bool
or_false None = false
or_false (Some b) = b

abbrev pub is_true : Option Data → Bool
is_true None = false
is_true (Some d) = or_false (as_bool d)

-- the document says that its server is alone
abbrev pub says_alone : Members → Bool
says_alone members = is_true (get_member (codes "alone") members)

abbrev pub is_there : Option Data → Bool
is_there None = false
is_there (Some d) = true

abbrev pub has_link : Members → Bool
has_link members = is_there (get_member (codes "link") members)

-- ---- what two documents come to together

abbrev pub is_same_role : Role → Role → Bool
is_same_role Primary Primary = true
is_same_role Secondary Secondary = true
is_same_role own other = false

-- such a conflict is found where it is so
abbrev pub found_if : Bool → PairConflict → List PairConflict
found_if true conflict = conflict ∷ []
found_if false conflict = []

-- why the server of a document has no partner
abbrev pub partner_conflicts : PairEnd → Members → List PairConflict
partner_conflicts end members =
    if says_alone members then IsAlone end ∷ [] else found_if (not (has_link members)) (HasNoLink end)

abbrev pub settings_conflicts : ServerSettings → ServerSettings → List PairConflict
settings_conflicts own other = map Setting (differences (shared_settings own) (shared_settings other))

-- a document's members, and the settings that it names
abbrev pub pair_conflicts : Members → ServerSettings → Members → ServerSettings → List PairConflict
pair_conflicts own_members own other_members other =
    partner_conflicts Own own_members
    ++ (partner_conflicts Partner other_members
    ++ (found_if (is_same_role own.role other.role) (SameRole own.role)
    ++ (found_if (bytes_eq own.duid other.duid) SameDuid ++ settings_conflicts own other)))

-- two servers of such settings don't join; of those in which they differ the link says it
abbrev pub PartsThem : PairConflict → Type 0
PartsThem (IsAlone end) = ⊤
PartsThem (HasNoLink end) = ⊤
PartsThem (SameRole role) = ⊤
PartsThem SameDuid = ⊥
PartsThem (Setting difference) = KeepsApart difference

abbrev pub LetsJoin : PairConflict → Type 0
LetsJoin conflict = PartsThem conflict → ⊥

abbrev pub MayJoin : List PairConflict → Type 0
MayJoin conflicts = AllByRecursion LetsJoin conflicts
