-- The two servers of a pair (RFC 8156, section 4: primary and secondary).
use Rattle.std.specs.Prelude.{Bool, true, false}
use Rattle.binding_rules.specs.declared.role.Role.{Role}
use Rattle.binding_rules.specs.declared.role.Role.TheVariants.{Primary, Secondary}

abbrev pub partner_of : Role → Role
partner_of Primary = Secondary
partner_of Secondary = Primary

-- they are one server
abbrev pub is_side : Role → Role → Bool
is_side Primary Primary = true
is_side Secondary Secondary = true
is_side _ _ = false
