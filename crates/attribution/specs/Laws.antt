-- What carries the headline, step by step: laws of every run that leaves two journals.
use Rattle.std.specs.Prelude.{◌≡◌, ℕ, zero, suc, ◌+◌, ◌-◌, ◌<◌, ◌≤◌, List, [], ◌∷◌, length, if◌then◌else◌}
use Rattle.std.specs.Prelude.{Contains as Has}
use Rattle.prefix_range.specs.Prefix.{Prefix, IsPrefix, Overlaps, Contains, size_of}
use Rattle.binding_rules.specs.declared.role.Role.{Role}
use Rattle.binding_rules.specs.declared.role.Role.TheVariants.{Primary, Secondary}
use Rattle.binding_rules.specs.Role.{is_side}
use Rattle.journal_lines.specs.Close.{until_close}
use Rattle.journal_lines.specs.declared.line.Line.{Line}
use Rattle.causal_order.specs.declared.reference.Ref.{Ref}
use Rattle.causal_order.specs.Journals.{Journals, journal_of, volume_of, Names}
use Rattle.causal_order.specs.Order.{Leads, WrittenBy, WrittenFrom}
use Rattle.causal_order.specs.declared.certificate.Piece.{Piece}
use Rattle.attribution.specs.Volumes.{past_close}
use Rattle.attribution.specs.Run.{Step, lines_of, At, closes, IsRun, KeepsSkew, Leaves}
use Rattle.attribution.specs.Acceptance.{Tile, ClosesFrom}

-- how many of the first i steps are the side's
abbrev pub count : Role → List Step → ℕ → ℕ
count side [] i = 0
count side (s ∷ ss) zero = 0
count side (s ∷ ss) (suc i) = (if is_side side s.side then 1 else 0) + count side ss i

-- how many lines come before the volume at an index
abbrev pub start : ℕ → List Line → ℕ
start zero ls = 0
start (suc n) ls = length (until_close ls) + start n (past_close ls)

-- line k of the side's volume n is step i
pub record Stands (run : List Step) (side : Role) (n k i : ℕ) (s : Step) : Type 0 where
  pub here : At run i s
  pub of : s.side ≡ side
  pub volume : closes side run i ≡ n
  pub place : count side run i ≡ start n (lines_of side run) + k

-- a run with clocks within the skew, and the two journals that it leaves
pub record Setting (AreLegal : Role → List (List Line) → Type 0) (js : Journals) (skew : ℕ) (run : List Step) :
    Type 0 where
  pub is_run : IsRun AreLegal (volume_of js) run
  pub clocks : KeepsSkew skew (volume_of js) run
  pub left_a : Leaves run Primary js.a
  pub left_b : Leaves run Secondary js.b

-- where a reference's line stands
pub record RefAt (js : Journals) (run : List Step) (r : Ref) (i : ℕ) (s : Step) : Type 0 where
  pub positive : 0 < r.number
  pub stands : Stands run r.side (volume_of js r.side - 1) (r.number - 1) i s
  pub names : Names js r s.line

-- Chains: each line of a chain was written before the next.
abbrev pub ChainsStandInOrder : (Role → List (List Line) → Type 0) → Type 0
ChainsStandInOrder AreLegal = (js : Journals) (skew : ℕ) (run : List Step) → Setting AreLegal js skew run
    → (chain : List Ref) (r q : Ref) (i j : ℕ) (s t : Step)
    → Leads js chain r q → RefAt js run r i s → RefAt js run q j t
    → (i ≤ j) × (2 ≤ length chain → i < j)

-- Bounds: a line was written by the reading of a chain's last line and the skew, and not before that of a chain's first
-- line less the skew.
abbrev pub BoundsHold : (Role → List (List Line) → Type 0) → Type 0
BoundsHold AreLegal = (js : Journals) (skew : ℕ) (run : List Step) → Setting AreLegal js skew run
    → (chain : List Ref) (r : Ref) (x i : ℕ) (s : Step) → RefAt js run r i s
    → (WrittenBy js chain r x → s.moment ≤ x + skew) × (WrittenFrom js chain r x → x ≤ s.moment + skew)

-- Close lines: what a side wrote behind the volume that is its journal came at or after the interval's end.
abbrev pub LateAfterClose : (Role → List (List Line) → Type 0) → Type 0
LateAfterClose AreLegal = (js : Journals) (skew : ℕ) (run : List Step) → Setting AreLegal js skew run
    → (to i : ℕ) (s : Step) → ClosesFrom (journal_of js s.side) (to + skew) → At run i s
    → volume_of js s.side ≤ closes s.side run i → to ≤ s.moment

-- Pieces: where they lie end to end, each moment of the interval is in one of them.
abbrev pub PiecesMeetEveryMoment : Type 0
PiecesMeetEveryMoment = (pieces : List Piece) (from to m : ℕ) → Tile from to pieces → from ≤ m → m < to
    → (p : Piece) × Has pieces p × (p.from ≤ m) × (m < p.to) × (p.to ≤ to)

-- End points: two prefixes share an address exactly where neither ends before the other begins, and one holds the other
-- exactly where it begins no later and ends no earlier.
abbrev pub EndPointsDecide : Type 0
EndPointsDecide = (p q : Prefix) → IsPrefix p → IsPrefix q
    → (Overlaps p q → (p.address < q.address + size_of q.length) × (q.address < p.address + size_of p.length))
    × (p.address < q.address + size_of q.length → q.address < p.address + size_of p.length → Overlaps p q)
    × (Contains p q → (p.address ≤ q.address) × (q.address + size_of q.length ≤ p.address + size_of p.length))
    × (p.address ≤ q.address → q.address + size_of q.length ≤ p.address + size_of p.length → Contains p q)
