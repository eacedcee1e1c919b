-- How the keys of a node's settings are written.
use Rattle.std.specs.Prelude.{ℕ, List, codes}
use Rattle.settings_diagnostics.specs.declared.key.Key.{Key}
use Rattle.settings_diagnostics.specs.declared.key.Key.TheVariants.{Role, Duid, SkewMs, Mclt, Life, TransitMs, Listen, Link}
use Rattle.settings_diagnostics.specs.declared.key.Key.TheVariants.{IasPerMessage, UnitsPerClient, UnitsPerPort, ClientRate}
use Rattle.settings_diagnostics.specs.declared.key.Key.TheVariants.{BindToPort}
use Rattle.settings_diagnostics.specs.declared.key.Key.TheVariants.{LinkKey, Workers, Heartbeat, VolumeLines, VolumeHours}
use Rattle.settings_diagnostics.specs.declared.key.Key.TheVariants.{RenewFloor, Alone}
use Rattle.settings_diagnostics.specs.declared.key.Key.TheVariants.{Dns, Search, Sntp, InformationRefresh, Preference}
use Rattle.settings_diagnostics.specs.declared.key.Key.TheVariants.{Unicast}
use Rattle.settings_diagnostics.specs.declared.key.Key.TheVariants.{RebindUnknown, IaNa, Pool, Prefix, Unit}

abbrev pub key_name : Key → List ℕ
key_name Role = codes "role"
key_name Duid = codes "duid"
key_name SkewMs = codes "skew_ms"
key_name Mclt = codes "mclt"
key_name Life = codes "life"
key_name TransitMs = codes "transit_ms"
key_name Listen = codes "listen"
key_name Link = codes "link"
key_name LinkKey = codes "link_key"
key_name Workers = codes "workers"
key_name Heartbeat = codes "heartbeat"
key_name VolumeLines = codes "volume_lines"
key_name VolumeHours = codes "volume_hours"
key_name RenewFloor = codes "renew_floor"
key_name IasPerMessage = codes "ias_per_message"
key_name UnitsPerClient = codes "units_per_client"
key_name UnitsPerPort = codes "units_per_port"
key_name ClientRate = codes "client_rate"
key_name BindToPort = codes "bind_to_port"
key_name Dns = codes "dns"
key_name Search = codes "search"
key_name Sntp = codes "sntp"
key_name InformationRefresh = codes "information_refresh"
key_name Preference = codes "preference"
key_name Unicast = codes "unicast"
key_name RebindUnknown = codes "rebind_unknown"
key_name IaNa = codes "ia_na"
key_name Alone = codes "alone"
key_name Pool = codes "pool"
key_name Prefix = codes "prefix"
key_name Unit = codes "unit"
