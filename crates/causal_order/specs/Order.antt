-- What two journals say of the moments at which their lines were written. A message reaches a partner after it was
-- sent, and a journal's lines stand in the order in which they were written (RFC 8156, section 9: messages between the
-- partners).
use Rattle.std.specs.Prelude.{◌≡◌, ℕ, ◌+◌, ◌<◌, ◌≤◌, ◌⊎◌, List, [], ◌∷◌, length}
use Rattle.binding_rules.specs.Role.{partner_of}
use Rattle.journal_lines.specs.declared.event.Event.TheVariants.{Send, Take}
use Rattle.binding_rules.specs.declared.message.PartnerMessage.{PartnerMessage}
use Rattle.journal_lines.specs.declared.line.Line.{Line}
use Rattle.causal_order.specs.declared.reference.Ref.{Ref}
use Rattle.causal_order.specs.declared.order.Precedes.{Precedes}
use Rattle.causal_order.specs.declared.order.Precedes.TheVariants.{Chain, Clock}
use Rattle.causal_order.specs.Journals.{Journals, Names}

-- the same journal, and later in it
abbrev pub IsLater : Ref → Ref → Type 0
IsLater r s = (s.side ≡ r.side) × (r.number < s.number)

-- s takes on the other side what r sends: the same term, serial and body
abbrev pub IsTakeOf : Journals → Ref → Ref → Type 0
IsTakeOf js r s = (s.side ≡ partner_of r.side) × ((m : PartnerMessage) × (sent : Line) × (taken : Line)
    × Names js r sent × (sent.event ≡ Send m) × Names js s taken × (taken.event ≡ Take m))

-- each next line is later in its journal, or takes what the line before it sends; never from a take back to its send
abbrev pub IsChain : Journals → List Ref → Type 0
IsChain js [] = ⊥
IsChain js (r ∷ []) = (l : Line) × Names js r l
IsChain js (r ∷ s ∷ rs) = ((l : Line) × Names js r l) × (IsLater r s ⊎ IsTakeOf js r s) × IsChain js (s ∷ rs)

-- the chain's last reference is r
abbrev pub EndsWith : List Ref → Ref → Type 0
EndsWith [] r = ⊥
EndsWith (s ∷ []) r = s ≡ r
EndsWith (s ∷ t ∷ ts) r = EndsWith (t ∷ ts) r

-- a chain from the one line to the other, which may be one line
pub record Leads (js : Journals) (chain : List Ref) (r s : Ref) : Type 0 where
  pub rest : List Ref
  pub begins : chain ≡ r ∷ rest
  pub ends : EndsWith chain s
  pub links : IsChain js chain

-- The chain begins with r, and its last line was read at this reading: r was written by the reading and the skew.
pub record WrittenBy (js : Journals) (chain : List Ref) (r : Ref) (reading : ℕ) : Type 0 where
  pub end : Ref
  pub line : Line
  pub leads : Leads js chain r end
  pub names : Names js end line
  pub read : line.reading ≡ reading

-- The chain ends with r, and its first line was read at this reading: r was written at the reading less the skew, or
-- later.
pub record WrittenFrom (js : Journals) (chain : List Ref) (r : Ref) (reading : ℕ) : Type 0 where
  pub begin : Ref
  pub line : Line
  pub leads : Leads js chain begin r
  pub names : Names js begin line
  pub read : line.reading ≡ reading

-- The one line was surely written before the other: a chain of two lines or more leads from it to the other, or clocks
-- show readings that are further apart than both skews.
abbrev pub IsSurelyBefore : Journals → ℕ → Precedes → Ref → Ref → Type 0
IsSurelyBefore js skew (Chain chain) r s = Leads js chain r s × (2 ≤ length chain)
IsSurelyBefore js skew (Clock first second) r s =
    (x : ℕ) × (y : ℕ) × WrittenBy js first r x × WrittenFrom js second s y × (x + skew + skew < y)
