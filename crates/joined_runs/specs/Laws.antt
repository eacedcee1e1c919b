-- The headline over joined journals: what is accepted over them is true of the pair that left the volumes.
use Rattle.std.specs.Prelude.{◌↔◌, ℕ, List}
use Rattle.prefix_range.specs.Prefix.{Prefix}
use Rattle.binding_rules.specs.declared.role.Role.{Role}
use Rattle.binding_rules.specs.declared.role.Role.TheVariants.{Primary, Secondary}
use Rattle.journal_lines.specs.declared.line.Line.{Line}
use Rattle.causal_order.specs.Journals.{Journals, volume_of}
use Rattle.causal_order.specs.declared.certificate.Certificate.{Certificate}
use Rattle.attribution.specs.Run.{Step, IsRun, KeepsSkew, Leaves, StartInTime, Holds, HoldsWhole}
use Rattle.attribution.specs.Acceptance.{IsAccepted, IsTrueIn, IsTrueInEveryRun}
use Rattle.attribution.specs.Snapshot.{snapshots, IsRunSoFar, KeepsSkewSoFar, LeavesSoFar}
use Rattle.joined_runs.specs.Volumes.{PairVolumes, last_of, joined_journals, BothHaveRoom}
use Rattle.joined_runs.specs.Left.{LeavesAll, LeavesAllSoFar}

-- at each moment the same clients hold the same addresses, and the same whole prefixes, in both runs
pub record AreHeldAlike (run : List Step) (starts : ℕ → ℕ) (other : List Step) (others : ℕ → ℕ) : Type 0 where
  pub address : (address : ℕ) (client : List ℕ) (m : ℕ)
      → Holds run starts address client m ↔ Holds other others address client m
  pub whole : (prefix : Prefix) (client : List ℕ) (m : ℕ)
      → HoldsWhole run starts prefix client m ↔ HoldsWhole other others prefix client m

-- The pair could as well have left these journals: there is such a run, with clocks within the skew and answers within
-- the transit, in which the same clients hold the same at each moment.
pub record CouldLeave (AreLegal : Role → List (List Line) → Type 0) (js : Journals) (skew : ℕ) (run : List Step) :
    Type 0 where
  pub other : List Step
  pub is_run : IsRun AreLegal (volume_of js) other
  pub clocks : KeepsSkew skew (volume_of js) other
  pub left_a : Leaves other Primary js.a
  pub left_b : Leaves other Secondary js.b
  pub alike : (transit : ℕ) (starts : ℕ → ℕ) → StartInTime transit run starts
      → (others : ℕ → ℕ) × StartInTime transit other others × AreHeldAlike run starts other others

-- a pair that left volumes could as well have left the journals that these are together
abbrev pub JoinedCouldBeLeft : (Role → List (List Line) → Type 0) → Type 0
JoinedCouldBeLeft AreLegal = (vs : PairVolumes) (skew : ℕ) (run : List Step) → BothHaveRoom vs
    → IsRun AreLegal (last_of vs) run → KeepsSkew skew (last_of vs) run
    → LeavesAll run Primary vs.a → LeavesAll run Secondary vs.b
    → CouldLeave AreLegal (joined_journals vs) skew run

-- The same of what was read so far: such a run, of which so many lines are read, shows these journals.
pub record CouldLeaveSoFar (AreLegal : Role → List (List Line) → Type 0) (js : Journals) (skew : ℕ) (run : List Step) :
    Type 0 where
  pub other : List Step
  pub reads : Role → ℕ
  pub is_run : IsRunSoFar AreLegal (volume_of js) reads other
  pub clocks : KeepsSkewSoFar skew reads other
  pub left_a : LeavesSoFar reads other Primary js.a
  pub left_b : LeavesSoFar reads other Secondary js.b
  pub alike : (transit : ℕ) (starts : ℕ → ℕ) → StartInTime transit run starts
      → (others : ℕ → ℕ) × StartInTime transit other others × AreHeldAlike run starts other others

-- the same of volumes whose last ones may still be written
abbrev pub JoinedCouldBeLeftSoFar : (Role → List (List Line) → Type 0) → Type 0
JoinedCouldBeLeftSoFar AreLegal = (vs : PairVolumes) (skew : ℕ) (run : List Step) (read : Role → ℕ) → BothHaveRoom vs
    → IsRunSoFar AreLegal (last_of vs) read run → KeepsSkewSoFar skew read run
    → LeavesAllSoFar read run Primary vs.a → LeavesAllSoFar read run Secondary vs.b
    → CouldLeaveSoFar AreLegal (joined_journals vs) skew run

-- True in every run of the pair that leaves these volumes, with each clock within the skew of true time and each answer
-- within the transit.
abbrev pub IsTrueOverVolumes :
    (Role → List (List Line) → Type 0) → PairVolumes → (skew transit : ℕ) → Certificate → Type 0
IsTrueOverVolumes AreLegal vs skew transit c =
    (run : List Step) → IsRun AreLegal (last_of vs) run → KeepsSkew skew (last_of vs) run
    → LeavesAll run Primary vs.a → LeavesAll run Secondary vs.b
    → (starts : ℕ → ℕ) → StartInTime transit run starts → IsTrueIn run starts c

-- what is true in every run that leaves the joined journals is true in every run that leaves the volumes
abbrev pub TrueOfJoinedIsTrueOverVolumes : (Role → List (List Line) → Type 0) → Type 0
TrueOfJoinedIsTrueOverVolumes AreLegal = (vs : PairVolumes) (skew transit : ℕ) (c : Certificate) → BothHaveRoom vs
    → IsTrueInEveryRun AreLegal (joined_journals vs) skew transit c → IsTrueOverVolumes AreLegal vs skew transit c

-- the headline over joined journals: what is accepted over them is true of the volumes
abbrev pub AcceptedIsTrueOverVolumes : (Role → List (List Line) → Type 0) → Type 0
AcceptedIsTrueOverVolumes AreLegal = (vs : PairVolumes) (skew transit : ℕ) (c : Certificate) → BothHaveRoom vs
    → IsAccepted (joined_journals vs) skew transit c → IsTrueOverVolumes AreLegal vs skew transit c

-- True in every run of the pair that began so, with each clock within the skew of true time so far and each answer
-- within the transit: whatever lines follow, and whether or not the last volumes are ever closed.
abbrev pub IsTrueOverVolumesSoFar :
    (Role → List (List Line) → Type 0) → PairVolumes → (skew transit : ℕ) → Certificate → Type 0
IsTrueOverVolumesSoFar AreLegal vs skew transit c =
    (run : List Step) (read : Role → ℕ) → IsRunSoFar AreLegal (last_of vs) read run
    → KeepsSkewSoFar skew read run
    → LeavesAllSoFar read run Primary vs.a → LeavesAllSoFar read run Secondary vs.b
    → (starts : ℕ → ℕ) → StartInTime transit run starts → IsTrueIn run starts c

-- the same where the last volumes are still being written, over snapshots of the joined journals
abbrev pub SnapshotsAreTrueOverVolumes : (Role → List (List Line) → Type 0) → Type 0
SnapshotsAreTrueOverVolumes AreLegal = (vs : PairVolumes) (skew transit : ℕ) (c : Certificate) → BothHaveRoom vs
    → IsAccepted (snapshots (joined_journals vs)) skew transit c
    → IsTrueOverVolumesSoFar AreLegal vs skew transit c
