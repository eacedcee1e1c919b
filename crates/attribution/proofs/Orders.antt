-- Orders of two journals' lines, from which a run is made.
use Rattle.std.specs.Prelude.{◌≡◌, ℕ, ◌<◌, ◌≤◌, ◌⊎◌, List, [], ◌∷◌, Some, slice_get, map, filter}
use Rattle.binding_rules.specs.declared.role.Role.{Role}
use Rattle.binding_rules.specs.Role.{partner_of, is_side}
use Rattle.binding_rules.specs.declared.message.PartnerMessage.{PartnerMessage}
use Rattle.journal_lines.specs.declared.event.Event.TheVariants.{Send, Take, Close}
use Rattle.journal_lines.specs.declared.line.Line.{Line}
use Rattle.journal_lines.specs.Close.{until_close}
use Rattle.causal_order.specs.Journals.{Journals, journal_of, volume_of}

-- a line, and which side wrote it
pub record Written : Type 0 where
  pub side : Role
  pub line : Line

-- a side's lines, as they stand in an order
abbrev pub lines_in : Role → List Written → List Line
lines_in side order = map (λ w. w.line) (filter (λ w. is_side side w.side) order)

-- The side's partner sent the message in an earlier volume: it has one, and its journal doesn't send the serial.
abbrev pub IsPassedOver : Journals → Role → PartnerMessage → Type 0
IsPassedOver js side m = (1 < volume_of js (partner_of side))
    × ((k : ℕ) (l : Line) (x : PartnerMessage) → slice_get (journal_of js (partner_of side)) k ≡ Some l
    → l.event ≡ Send x → x.serial ≡ m.serial → ⊥)

-- the side's partner sends the message before place k of the order
abbrev pub IsSentBefore : List Written → ℕ → Role → PartnerMessage → Type 0
IsSentBefore order k side m = (j : ℕ) × (v : Written) × (j < k) × (slice_get order j ≡ Some v)
    × (v.side ≡ partner_of side) × (v.line.event ≡ Send m)

-- One order of the lines of both journals: each journal's stand in it as in the journal, and each take stands behind
-- its send, or takes what was sent in an earlier volume.
pub record IsOrder (js : Journals) (order : List Written) : Type 0 where
  pub lines : (side : Role) → lines_in side order ≡ journal_of js side
  pub sent : (k : ℕ) (w : Written) (m : PartnerMessage) → slice_get order k ≡ Some w → w.line.event ≡ Take m
      → IsSentBefore order k w.side m ⊎ IsPassedOver js w.side m

-- The side was held up when line i of the order was placed: at or before place k it has a take, whose send stands at i
-- or behind it.
pub record IsHeldUp (order : List Written) (side : Role) (i k : ℕ) : Type 0 where
  pub message : PartnerMessage
  pub take : Written
  pub take_place : ℕ
  pub take_here : slice_get order take_place ≡ Some take
  pub take_side : take.side ≡ side
  pub takes : take.line.event ≡ Take message
  pub before : take_place ≤ k
  pub send : Written
  pub send_place : ℕ
  pub send_here : slice_get order send_place ≡ Some send
  pub send_side : send.side ≡ partner_of side
  pub sends : send.line.event ≡ Send message
  pub behind : i ≤ send_place

-- Of lines of both sides that could be placed the one that reads less was: a line that reads more than a later line of
-- the other side stands before it only where that side was held up.
abbrev pub PlacesLesserFirst : List Written → Type 0
PlacesLesserFirst order = (i k : ℕ) (x y : Written) → i < k → slice_get order i ≡ Some x → slice_get order k ≡ Some y
    → y.side ≡ partner_of x.side → y.line.reading < x.line.reading → IsHeldUp order y.side i k

-- readings never fall
abbrev pub NeverFalls : List Line → Type 0
NeverFalls lines = (i k : ℕ) (l o : Line) → i ≤ k → slice_get lines i ≡ Some l → slice_get lines k ≡ Some o
    → l.reading ≤ o.reading

-- Each journal is its server's first volume, legal and closed by its last line, and its readings never fall.
pub record AreFirst (AreLegal : Role → List (List Line) → Type 0) (js : Journals) : Type 0 where
  pub first : (side : Role) → volume_of js side ≡ 1
  pub legal : (side : Role) → AreLegal side (journal_of js side ∷ [])
  pub whole : (side : Role) → until_close (journal_of js side) ≡ journal_of js side
  pub closed : (side : Role) → (k : ℕ) × (l : Line) × (slice_get (journal_of js side) k ≡ Some l) × (l.event ≡ Close)
  pub rising : (side : Role) → NeverFalls (journal_of js side)
