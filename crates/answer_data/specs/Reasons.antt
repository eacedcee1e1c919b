-- Why nobody is named, as an object: the reason's name, and its values.
use Rattle.std.specs.Prelude.{ℕ, List, [], ◌∷◌, codes}
use Rattle.serde_json.specs.Data.{Data, Members, no_members}
use Rattle.binding_rules.specs.declared.role.Role.{Role}
use Rattle.candidate_leases.specs.declared.why.NoHolderReason.{NoHolderReason}
use Rattle.candidate_leases.specs.declared.why.NoHolderReason.TheVariants as reason
use Rattle.report_data.specs.Rulings.{With, IsObject, IsCount, IsTime}
use Rattle.answer_data.specs.Members.{IsString, IsSide, IsLine}
use Rattle.answer_data.specs.Texts.{IsArrayOf}

-- a reason of this name, with these members behind
abbrev pub IsReasonOf : (name : List ℕ) → (Members → Type 0) → Type 0
IsReasonOf name so = With (codes "reason") (IsString name) so no_members

-- a side's journal: the least that its clock must have shown, and what it showed last
abbrev pub IsEndOf : (name : List ℕ) → Role → (needed : ℕ) → (key : List ℕ) → (shown : ℕ) → Data → Type 0
IsEndOf name side needed key shown d = IsReasonOf name (With (codes "side") (IsSide side)
    (With (codes "needed") (IsTime needed) (With key (IsTime shown) (IsObject d))))

abbrev pub IsReason : NoHolderReason → Data → Type 0
IsReason reason.OutsidePools d = IsReasonOf (codes "outside_pools") (IsObject d)
IsReason (reason.BeforeFirstVolume primary secondary) d = IsReasonOf (codes "before_first_volume")
    (With (codes "journal_a") (IsTime primary) (With (codes "journal_b") (IsTime secondary) (IsObject d)))
IsReason (reason.BeforeOpen side needed) d = IsReasonOf (codes "before_open")
    (With (codes "side") (IsSide side) (With (codes "needed") (IsTime needed) (IsObject d)))
IsReason (reason.AfterLastLine side needed last) d = IsEndOf (codes "after_last_line") side needed (codes "last") last d
IsReason (reason.PastEnd side needed closed) d = IsEndOf (codes "past_end") side needed (codes "closed") closed d
IsReason (reason.SeveralCustomers length) d = IsReasonOf (codes "several_customers")
    (With (codes "unit_length") (IsCount length) (IsObject d))
IsReason (reason.Several first other) d = IsReasonOf (codes "several")
    (With (codes "lines") (IsArrayOf IsLine (first.at ∷ other.at ∷ [])) (IsObject d))
IsReason (reason.Carried line) d = IsReasonOf (codes "carried") (With (codes "line") (IsLine line.at) (IsObject d))
IsReason reason.NotShown d = IsReasonOf (codes "not_shown") (IsObject d)
IsReason reason.Nobody d = IsReasonOf (codes "nobody") (IsObject d)
