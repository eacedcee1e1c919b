-- What refuses two journals, whatever is claimed over them: a rule that one breaks, then messages that can't be.
use Rattle.std.specs.Prelude.{◌≡◌, ◌⊎◌, ℕ, ◌^◌, ◌<◌, length}
use Rattle.binding_rules.specs.declared.role.Role.{Role}
use Rattle.binding_rules.specs.declared.role.Role.TheVariants.{Primary, Secondary}
use Rattle.journal_lines.specs.declared.line.Journal.{Journal}
use Rattle.journal_lines.specs.Head.{volume_number}
use Rattle.causal_order.specs.declared.reference.Ref.{Ref}
use Rattle.causal_order.specs.Journals.{Journals, journals_of}
use Rattle.causal_order.specs.LineOrder.{IsLeast}
use Rattle.book_rules.specs.declared.rule.Rule.{Rule as RuleValue}
use Rattle.book_rules.specs.Volumes.{IsVolume, IsFirstBroken}
use Rattle.journal_merge.specs.Refusals.{IsUnsent, IsDiffering, AreSent, AreMatched}
use Rattle.journal_merge.specs.Interleaving.{HasInterleaving}
use Rattle.journal_merge.specs.Placing.{Placed}
use Rattle.attribution.specs.declared.verdict.Verdict.{Verdict}
use Rattle.attribution.specs.declared.verdict.Verdict.TheVariants.{Rule, Unsent, Differs, Circular}
use Rattle.auditor.specs.declared.pair.Checked.{Checked}
use Rattle.auditor.specs.declared.pair.Checked.TheVariants.{Legal, Refused}

-- L1: the journal's first line that breaks a rule, and the least that it breaks
abbrev pub IsBroken : Role → Journal → Verdict → Type 0
IsBroken side j v =
    (n : ℕ) × (r : RuleValue) × (v ≡ Rule side n r) × IsFirstBroken side (volume_number j.head) j.lines n r

abbrev pub IsUnbroken : Role → Journal → Type 0
IsUnbroken side j = IsVolume side (volume_number j.head) j.lines

-- X1: the least take of what was never sent
abbrev pub IsUnsentTake : Journals → Verdict → Type 0
IsUnsentTake js v = (r : Ref) × (v ≡ Unsent r) × IsLeast (IsUnsent js) r

-- X2: each take has its send, and this is the least that differs from it
abbrev pub IsDifferingTake : Journals → Verdict → Type 0
IsDifferingTake js v = AreSent js × ((r : Ref) × (v ≡ Differs r) × IsLeast (IsDiffering js) r)

-- X3: each take is as it was sent, but no order has each behind its send
abbrev pub IsCircle : Journals → Verdict → Type 0
IsCircle js v = AreMatched js × (v ≡ Circular) × ¬ (HasInterleaving js)

abbrev pub AreMessagesRefused : Journals → Verdict → Type 0
AreMessagesRefused js v = IsUnsentTake js v ⊎ (IsDifferingTake js v ⊎ IsCircle js v)

-- the first refusal of the two: a broken rule of A's, then one of B's, then their messages
abbrev pub IsPairRefused : Journal → Journal → Verdict → Type 0
IsPairRefused a b v =
    IsBroken Primary a v
    ⊎ (IsUnbroken Primary a
    × (IsBroken Secondary b v ⊎ (IsUnbroken Secondary b × AreMessagesRefused (journals_of a b) v)))

-- none applies: both keep the rules, what is taken was sent, and their lines have an order
abbrev pub IsPairLegal : Journal → Journal → Type 0
IsPairLegal a b =
    IsUnbroken Primary a × IsUnbroken Secondary b × AreMatched (journals_of a b) × HasInterleaving (journals_of a b)

-- what merging the two answers: the list that the placing rule gives, or what refuses their messages
abbrev pub IsOrdered : Journals → Checked → Type 0
IsOrdered js (Legal merged) = AreMatched js × HasInterleaving js × Placed js merged.refs
IsOrdered js (Refused v) = AreMessagesRefused js v

-- what checking the two answers: legal ones with the list that the placing rule gives
abbrev pub IsChecked : Journal → Journal → Checked → Type 0
IsChecked a b (Legal merged) = IsPairLegal a b × Placed (journals_of a b) merged.refs
IsChecked a b (Refused v) = IsPairRefused a b v

-- two journals have no two answers
abbrev pub CheckedOnce : Type 0
CheckedOnce = (a b : Journal) (x y : Checked) → IsChecked a b x → IsChecked a b y → x ≡ y

-- a journal that keeps the rules has less than 2^32 lines
abbrev pub UnbrokenIsShort : Type 0
UnbrokenIsShort = (side : Role) (j : Journal) → IsUnbroken side j → length j.lines < 2 ^ 32
