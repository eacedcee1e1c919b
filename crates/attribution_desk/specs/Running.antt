-- What carrying out a command comes to.
use Rattle.std.specs.Prelude.{ℕ, List, Option, IfSome}
use Rattle.std.specs.Io.KnownBytes.{Appends}
use Rattle.desk_args.specs.declared.command.Command.{Command}
use Rattle.desk_args.specs.declared.command.Command.TheVariants.{Audit, Batch, Timeline, Clocks, Find, Who}
use Rattle.attribution_desk.specs.Answer.{IsDeskAnswer}
use Rattle.attribution_desk.specs.Batch.{IsBatch}
use Rattle.attribution_desk.specs.Timeline.{IsTimeline}
use Rattle.attribution_desk.specs.Clocks.{IsClocks}
use Rattle.attribution_desk.specs.declared.search.Search.TheVariants.{Find as FindEvidence, Who as FindHolder}
use Rattle.attribution_desk.specs.Searching.{IsSearchTold}

-- the text and the status with which a command answers this input; a search's warnings belong to its answer
abbrev pub IsCommandOutput : Command → List ℕ → List ℕ → List ℕ → ℕ → Type 0
IsCommandOutput (Audit skew transit) input warnings text status = IsDeskAnswer input skew transit text status
IsCommandOutput (Batch skew transit workers) input warnings text status = IsBatch input skew transit text status
IsCommandOutput Timeline input warnings text status = IsTimeline input text status
IsCommandOutput Clocks input warnings text status = IsClocks input text status
IsCommandOutput (Find query) input warnings text status = IsSearchTold input (FindEvidence query) warnings text status
IsCommandOutput (Who query settings) input warnings text status =
    IsSearchTold input (FindHolder query settings) warnings text status

-- where it is known what the reader had to give, the answer to all of that was written, behind what the writer held
abbrev pub IsWritten :
    (List ℕ → List ℕ → ℕ → Type 0) → Option (List ℕ) → Option (List ℕ) → Option (List ℕ) → ℕ → Type 0
IsWritten answers given held written status =
    IfSome given (λ input. (text : List ℕ) × answers input text status × Appends held written text)
