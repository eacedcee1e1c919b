-- Settings that are read, and are odd.
use Rattle.std.specs.Prelude.{◌≡◌, ◌<◌, Option, None}
use Rattle.std.specs.declared.net.socket_addr.SocketAddr.{SocketAddr}
use Rattle.prefix_range.specs.Prefix.{Prefix, Overlaps}
use Rattle.server_settings.specs.Settings.{ServerSettings}
use Rattle.settings_diagnostics.specs.declared.warnings.SettingsWarning.{SettingsWarning}
use Rattle.settings_diagnostics.specs.declared.warnings.SettingsWarning.TheVariants.{Multicast, LinkLocal}

-- ff00::/8 (RFC 4291, section 2.7)
abbrev pub multicast : Prefix
multicast = record { address = 0xff000000000000000000000000000000; length = 8 }

-- fe80::/10 (RFC 4291, section 2.5.6)
abbrev pub link_local : Prefix
link_local = record { address = 0xfe800000000000000000000000000000; length = 10 }

-- a pool has addresses that no client may be given
abbrev pub IsPoolWarning : Prefix → SettingsWarning → Type 0
IsPoolWarning p Multicast = Overlaps p multicast
IsPoolWarning p LinkLocal = Overlaps p link_local
IsPoolWarning p _ = ⊥

abbrev pub HasNoWarning : Prefix → Type 0
HasNoWarning p = (doubt : SettingsWarning) → IsPoolWarning p doubt → ⊥

-- without a partner, the maximum client lead time is above the lifetime
abbrev pub IsLongLead : ServerSettings → Option SocketAddr → Type 0
IsLongLead s link = (link ≡ None) × (s.life < s.mclt)
