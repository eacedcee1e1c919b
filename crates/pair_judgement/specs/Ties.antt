-- What ties two journals to each other, and both to what is asked: their open, pool and transit lines.
use Rattle.std.specs.Prelude.{◌≡◌, ⊤, ◌⊎◌, ◌≤◌, ℕ, Bool, true, false, List, [], ◌∷◌, ◌++◌, All, if◌then◌else◌, codes}
use Rattle.journal_lines.specs.declared.event.Event.{Event}
use Rattle.journal_lines.specs.declared.event.Event.TheVariants.{Open, Pool, Transit}
use Rattle.journal_lines.specs.declared.line.Line.{Line}
use Rattle.journal_lines.specs.declared.line.Journal.{Journal}
use Rattle.pair_judgement.specs.declared.judging.Judgement.{Judgement}
use Rattle.pair_judgement.specs.declared.judging.Judgement.TheVariants.{Pair, Skew}

-- an event that says how its server is set up
abbrev pub is_setting : Event → Bool
is_setting (Open skew mclt life) = true
is_setting (Pool prefix unit_length) = true
is_setting (Transit transit) = true
is_setting _ = false

-- the events of the open, pool and transit lines, in order
abbrev pub settings_of : List Line → List Event
settings_of [] = []
settings_of (l ∷ ls) = if is_setting l.event then l.event ∷ settings_of ls else settings_of ls

-- the journals' open, pool and transit lines say the same, in the same order
abbrev pub AreOnePair : Journal → Journal → Type 0
AreOnePair a b = settings_of a.lines ≡ settings_of b.lines

-- the event says no skew over this one and no transit over this one
abbrev pub IsWithin : Event → (skew transit : ℕ) → Type 0
IsWithin (Open own mclt life) skew transit = own ≤ skew
IsWithin (Transit own) skew transit = own ≤ transit
IsWithin _ skew transit = ⊤

-- so does each line; a record, so that a proof finds it among its facts
pub record AreWithin (lines : List Line) (skew transit : ℕ) : Type 0 where
  pub each : All (λ line. IsWithin line.event skew transit) lines

-- no line of the journal says more
abbrev pub AreCovered : Journal → (skew transit : ℕ) → Type 0
AreCovered j skew transit = AreWithin j.lines skew transit

abbrev pub BothCovered : Journal → Journal → (skew transit : ℕ) → Type 0
BothCovered a b skew transit = AreCovered a skew transit × AreCovered b skew transit

-- nothing speaks against asking this of the two
abbrev pub AreTied : Journal → Journal → (skew transit : ℕ) → Type 0
AreTied a b skew transit = AreOnePair a b × BothCovered a b skew transit

-- what does: K2, or else K3
abbrev pub IsDoubted : Journal → Journal → (skew transit : ℕ) → Judgement → Type 0
IsDoubted a b skew transit Pair = ¬ AreOnePair a b
IsDoubted a b skew transit Skew = AreOnePair a b × (¬ BothCovered a b skew transit)
IsDoubted a b skew transit _ = ⊥

abbrev pub pair_note : List ℕ
pair_note = codes "warning K2 Pair: the journals' open, pool or transit lines differ: are they of one pair?\n"

abbrev pub skew_note : List ℕ
skew_note = codes "warning K3 Skew: a journal's own line says a greater skew or transit than is asked with\n"

-- nothing where it holds, else the note
abbrev pub IsNotedUnless : Type 0 → (note text : List ℕ) → Type 0
IsNotedUnless P note text = (P × (text ≡ [])) ⊎ ((¬ P) × (text ≡ note))

-- a note, or nothing where all is well
abbrev pub unless : Bool → List ℕ → List ℕ
unless true note = []
unless false note = note

-- the notes of K2 and K3, each where it is due
abbrev pub IsWarning : Journal → Journal → (skew transit : ℕ) → List ℕ → Type 0
IsWarning a b skew transit text =
    (k2 k3 : List ℕ) × IsNotedUnless (AreOnePair a b) pair_note k2
    × IsNotedUnless (BothCovered a b skew transit) skew_note k3 × (text ≡ k2 ++ k3)
