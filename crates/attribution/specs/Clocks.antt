-- Which journals clocks fit, and that two accepted answers over such journals never contradict each other.
use Rattle.std.specs.Prelude.{◌≡◌, ◌↔◌, ℕ, ◌+◌, ◌<◌, ◌≤◌, List, Some, slice_get}
use Rattle.prefix_range.specs.Prefix.{Overlaps}
use Rattle.binding_rules.specs.declared.role.Role.{Role}
use Rattle.journal_lines.specs.declared.event.Event.TheVariants.{Close}
use Rattle.journal_lines.specs.declared.line.Line.{Line}
use Rattle.causal_order.specs.declared.certificate.Certificate.{Certificate}
use Rattle.causal_order.specs.declared.reference.Ref.{Ref}
use Rattle.causal_order.specs.Journals.{Journals, journal_of, volume_of, Names}
use Rattle.causal_order.specs.Order.{IsTakeOf}
use Rattle.book_rules.specs.Volumes.{IsVolume}
use Rattle.book_rules.specs.NextHead.{AreLegal}
use Rattle.journal_merge.specs.Early.{IsFarBelowSend}
use Rattle.journal_merge.specs.Refusals.{AreMatched}
use Rattle.journal_merge.specs.Interleaving.{HasInterleaving}
use Rattle.attribution.specs.Run.{Step}
use Rattle.attribution.specs.Lawful.{Lawful}
use Rattle.attribution.specs.Laws.{Setting}
use Rattle.attribution.specs.Acceptance.{IsAccepted}

-- Clocks within the skew fit the journals: some run of the pair with such clocks leaves them.
abbrev pub FitsClocks : (Role → List (List Line) → Type 0) → Journals → ℕ → Type 0
FitsClocks AreLegal js skew = (run : List Step) × Setting AreLegal js skew run

-- The line takes what the other side sent at a reading more than twice the skew above its own.
pub record IsEarly (js : Journals) (skew : ℕ) (take : Ref) : Type 0 where
  pub send : Ref
  pub takes : IsTakeOf js send take
  pub sent : Line
  pub names_sent : Names js send sent
  pub taken : Line
  pub names_taken : Names js take taken
  pub above : taken.reading + skew + skew < sent.reading

-- no take is early
abbrev pub NoneIsEarly : Journals → ℕ → Type 0
NoneIsEarly js skew = (r : Ref) → IsEarly js skew r → ⊥

-- Two journals that keep the rules, in which what is taken was sent, and whose lines have an order.
pub record AreChecked (js : Journals) : Type 0 where
  pub legal : (side : Role) → IsVolume side (volume_of js side) (journal_of js side)
  pub matched : AreMatched js
  pub ordered : HasInterleaving js

-- each has a close line
abbrev pub AreClosed : Journals → Type 0
AreClosed js = (side : Role) → (k : ℕ) × (l : Line) × (slice_get (journal_of js side) k ≡ Some l) × (l.event ≡ Close)

-- volumes are numbered from 1
abbrev pub AreNumbered : Journals → Type 0
AreNumbered js = (side : Role) → 0 < volume_of js side

-- ---- laws

-- one comparison tells of each take whether it is early
abbrev pub EarlyByFirstSend : Type 0
EarlyByFirstSend = (js : Journals) (skew : ℕ) (take : Ref) → AreChecked js
    → (IsEarly js skew take ↔ IsFarBelowSend js skew take)

-- no clocks within the skew fit journals with an early take
abbrev pub EarlyFitsNoClocks : (Role → List (List Line) → Type 0) → Type 0
EarlyFitsNoClocks AreLegal = (js : Journals) (skew : ℕ) → FitsClocks AreLegal js skew → NoneIsEarly js skew

-- clocks within the skew fit two first volumes in which no take is early
abbrev pub FirstVolumesFit : Type 0
FirstVolumesFit = (js : Journals) (skew : ℕ) → AreChecked js → AreClosed js
    → ((side : Role) → volume_of js side ≡ 1) → NoneIsEarly js skew → FitsClocks AreLegal js skew

-- Clocks within the skew fit two volumes of any number exactly where no take is early, if lawful volumes may have come
-- before.
abbrev pub VolumesFit : Type 0
VolumesFit = (js : Journals) (skew : ℕ) → AreChecked js → AreClosed js → AreNumbered js
    → (FitsClocks (λ side volumes. Lawful volumes) js skew ↔ NoneIsEarly js skew)

-- The two certificates name the same client, where their prefixes share an address, their intervals share a moment, and
-- they are accepted at this skew or more, whatever the transit.
abbrev pub NameOneHolder : Journals → ℕ → Type 0
NameOneHolder js skew = (skew_c transit_c skew_d transit_d : ℕ) (c d : Certificate)
    → skew ≤ skew_c → IsAccepted js skew_c transit_c c
    → skew ≤ skew_d → IsAccepted js skew_d transit_d d
    → Overlaps c.prefix d.prefix
    → (m : ℕ) → c.from ≤ m → m < c.to → d.from ≤ m → m < d.to
    → c.holder ≡ d.holder

-- so it is where clocks within the skew fit the journals
abbrev pub FittingNameOne : (Role → List (List Line) → Type 0) → Type 0
FittingNameOne AreLegal = (js : Journals) (skew : ℕ) → FitsClocks AreLegal js skew → NameOneHolder js skew

-- and where no take is early
abbrev pub TimelyNameOne : Type 0
TimelyNameOne = (js : Journals) (skew : ℕ) → AreChecked js → AreNumbered js → NoneIsEarly js skew
    → NameOneHolder js skew
