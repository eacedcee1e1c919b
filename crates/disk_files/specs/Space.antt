-- A disk that is full, by the kind of the system's error.
use Rattle.std.specs.Prelude.{⊤}
use Rattle.std.specs.declared.io.ErrorKind.{ErrorKind}
use Rattle.std.specs.declared.io.ErrorKind.TheVariants.{StorageFull, QuotaExceeded}
use Rattle.disk_model.specs.declared.device.DeviceError.{DeviceError}
use Rattle.disk_model.specs.declared.device.DeviceError.TheVariants.{Failed, NoSpace}

-- ENOSPC, EDQUOT
abbrev pub IsNoSpace : ErrorKind → Type 0
IsNoSpace StorageFull = ⊤
IsNoSpace QuotaExceeded = ⊤
IsNoSpace _ = ⊥

-- what a device tells of it
abbrev pub device_error : ErrorKind → DeviceError
device_error StorageFull = NoSpace
device_error QuotaExceeded = NoSpace
device_error _ = Failed
