-- What a device says of a call.
use Rattle.std.specs.Prelude.{◌≡◌, List, ◌∷◌, Result, Ok, Err}
use Rattle.disk_model.specs.Disk.{Call, flushed, failed}
use Rattle.disk_model.specs.declared.device.DeviceError.{DeviceError}

-- the call was noted, and that it failed if it did
abbrev pub Notes : {T : Type 0} → Result T DeviceError → Call → List Call → List Call → Type 0
Notes (Ok done) call old new = new ≡ call ∷ old
Notes (Err e) call old new = new ≡ failed ∷ call ∷ old

-- a sync that failed is none
abbrev pub NotesSync : {T : Type 0} → Result T DeviceError → List Call → List Call → Type 0
NotesSync (Ok done) old new = new ≡ flushed ∷ old
NotesSync (Err e) old new = new ≡ failed ∷ old
