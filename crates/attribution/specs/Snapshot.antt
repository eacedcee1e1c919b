-- What journals show that are still being written: only beginnings of them were read.
use Rattle.std.specs.Prelude.{◌≡◌, ◌≢◌, ℕ, ◌+◌, ◌<◌, ◌≤◌, List, [], ◌∷◌, ◌++◌, take, if◌then◌else◌}
use Rattle.binding_rules.specs.declared.role.Role.{Role}
use Rattle.binding_rules.specs.declared.role.Role.TheVariants.{Primary, Secondary}
use Rattle.binding_rules.specs.declared.message.PartnerMessage.{PartnerMessage}
use Rattle.binding_rules.specs.Role.{partner_of}
use Rattle.journal_lines.specs.Close.{is_close}
use Rattle.journal_lines.specs.declared.event.Event.TheVariants.{Send, Take, Close}
use Rattle.journal_lines.specs.declared.line.Line.{Line}
use Rattle.causal_order.specs.Journals.{Volume, Journals, volume_of}
use Rattle.causal_order.specs.declared.certificate.Certificate.{Certificate}
use Rattle.attribution.specs.Volumes.{volume_at, volumes_in}
use Rattle.attribution.specs.Run.{Step, lines_of, At, IsRun, KeepsSkew, StartInTime}
use Rattle.attribution.specs.Laws.{count}
use Rattle.attribution.specs.Acceptance.{IsAccepted, IsTrueIn}

-- the close line that may stand behind a line: its number is the next, its reading the same
abbrev pub close_behind : Line → Line
close_behind l = record { number = l.number + 1; reading = l.reading; event = Close }

-- a line and those behind it, and behind the last a close line, where it isn't one
abbrev pub closed_from : Line → List Line → List Line
closed_from l [] = l ∷ (if is_close l.event then [] else close_behind l ∷ [])
closed_from l (m ∷ ms) = l ∷ closed_from m ms

-- lines, closed behind the last: lines that end with a close line stay as they are
abbrev pub closed_now : List Line → List Line
closed_now [] = []
closed_now (l ∷ ls) = closed_from l ls

-- that is: nothing more behind a close line, and behind another line a close line
abbrev pub ClosesBehindTheLast : Type 0
ClosesBehindTheLast = (before : List Line) (l : Line)
    → (l.event ≡ Close → closed_now (before ++ l ∷ []) ≡ before ++ l ∷ [])
    × (l.event ≢ Close → closed_now (before ++ l ∷ []) ≡ before ++ l ∷ close_behind l ∷ [])

-- a snapshot of what was read of a volume; of a closed one it is the volume
abbrev pub snapshot : Volume → Volume
snapshot v = record { number = v.number; lines = closed_now v.lines }

abbrev pub snapshots : Journals → Journals
snapshots js = record { a = snapshot js.a; b = snapshot js.b }

-- the first lines that a side writes in a run, of all its volumes, as many as were read
abbrev pub read_of : (Role → ℕ) → List Step → Role → List Line
read_of read run side = take (read side) (lines_of side run)

-- step i is one of them
abbrev pub IsRead : (Role → ℕ) → List Step → ℕ → Step → Type 0
IsRead read run i s = count s.side run i < read s.side

-- A run of the pair, of which so many lines of each side were read: these are legal, up to the side's volume of a
-- number. What comes after them is free.
pub record IsRunSoFar (AreLegal : Role → List (List Line) → Type 0) (upto read : Role → ℕ) (run : List Step) :
    Type 0 where
  -- moments never fall
  pub in_time : (i j : ℕ) (s t : Step) → i ≤ j → At run i s → At run j t → s.moment ≤ t.moment
  pub legal : (side : Role) → AreLegal side (volumes_in (upto side) (read_of read run side))
  -- what a side takes in these lines was sent before by its partner
  pub sent : (i : ℕ) (s : Step) (m : PartnerMessage) → At run i s → IsRead read run i s → s.line.event ≡ Take m
      → (j : ℕ) × (t : Step) × (j < i) × At run j t × (t.side ≡ partner_of s.side) × (t.line.event ≡ Send m)

-- in these lines each reading is within the skew of the moment
abbrev pub KeepsSkewSoFar : ℕ → (Role → ℕ) → List Step → Type 0
KeepsSkewSoFar skew read run = (i : ℕ) (s : Step) → At run i s → IsRead read run i s
    → (s.line.reading ≤ s.moment + skew) × (s.moment ≤ s.line.reading + skew)

-- these lines begin the side's volume of that number with the volume's, be it closed or not
pub record LeavesSoFar (read : Role → ℕ) (run : List Step) (side : Role) (v : Volume) : Type 0 where
  pub index : ℕ
  pub number : v.number ≡ index + 1
  pub lines : v.lines ≡ volume_at index (read_of read run side)

-- True in every run of the pair that began so, with each clock within the skew of true time so far and each answer
-- within the transit: whatever lines follow, and whether or not a volume is ever closed.
abbrev pub IsTrueHoweverItGoesOn :
    (Role → List (List Line) → Type 0) → Journals → (skew transit : ℕ) → Certificate → Type 0
IsTrueHoweverItGoesOn AreLegal js skew transit c =
    (run : List Step) (read : Role → ℕ) → IsRunSoFar AreLegal (volume_of js) read run → KeepsSkewSoFar skew read run
    → LeavesSoFar read run Primary js.a → LeavesSoFar read run Secondary js.b
    → (starts : ℕ → ℕ) → StartInTime transit run starts → IsTrueIn run starts c

-- the headline for journals that are still being written: what is accepted over snapshots is true
abbrev pub SnapshotsAreTrue : (Role → List (List Line) → Type 0) → Type 0
SnapshotsAreTrue AreLegal = (js : Journals) (skew transit : ℕ) (c : Certificate)
    → IsAccepted (snapshots js) skew transit c → IsTrueHoweverItGoesOn AreLegal js skew transit c

-- ---- runs that keep to the rules also behind what was read

-- the side's volume of that number begins with these lines
pub record Begins (run : List Step) (side : Role) (v : Volume) : Type 0 where
  pub index : ℕ
  pub number : v.number ≡ index + 1
  pub rest : List Line
  pub lines : volume_at index (lines_of side run) ≡ v.lines ++ rest

-- True in every run, as the headline has them, in which each side's volume of that number begins with what was read:
-- whatever lines of the pair follow, and whether or not a volume is ever closed.
abbrev pub IsTrueInRunsThatBeginSo :
    (Role → List (List Line) → Type 0) → Journals → (skew transit : ℕ) → Certificate → Type 0
IsTrueInRunsThatBeginSo AreLegal js skew transit c =
    (run : List Step) → IsRun AreLegal (volume_of js) run → KeepsSkew skew (volume_of js) run
    → Begins run Primary js.a → Begins run Secondary js.b
    → (starts : ℕ → ℕ) → StartInTime transit run starts → IsTrueIn run starts c

-- what is accepted over snapshots is so
abbrev pub SnapshotsAreTrueInRuns : (Role → List (List Line) → Type 0) → Type 0
SnapshotsAreTrueInRuns AreLegal = (js : Journals) (skew transit : ℕ) (c : Certificate)
    → IsAccepted (snapshots js) skew transit c → IsTrueInRunsThatBeginSo AreLegal js skew transit c
