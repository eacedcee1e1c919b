-- Why it is enough to look at a file after each call: what is left within a call is left before it or after it.
use Rattle.std.specs.Prelude.{ℕ, ◌≤◌, List, length, take}
use Rattle.disk_model.specs.Disk.{File, appended, cut, flushed, after_call, IsLeft}

-- within an append so many of its octets are written
abbrev pub WithinAnAppend : Type 0
WithinAnAppend = (f : File) (octets : List ℕ) (n : ℕ) (content : List ℕ) → f.synced ≤ length f.written
    → IsLeft (after_call (appended (take n octets)) f) content → IsLeft (after_call (appended octets) f) content

-- what was left before a cut is left after it
abbrev pub WithinACut : Type 0
WithinACut = (f : File) (n : ℕ) (content : List ℕ) → IsLeft f content → IsLeft (after_call (cut n) f) content

-- what is left after a sync was left before it
abbrev pub WithinASync : Type 0
WithinASync = (f : File) (content : List ℕ) → f.synced ≤ length f.written → IsLeft (after_call flushed f) content
    → IsLeft f content
