-- The headline and the laws that carry it, for any legality that keeps what proofs/Lawful says.
use Rattle.std.specs.Prelude.{◌≡◌, ℕ, ◌<◌, List}
use Rattle.std.proofs.Common.{arith, ◌∙◌, ap, refl}
use Rattle.binding_rules.specs.declared.role.Role.{Role}
use Rattle.binding_rules.specs.declared.role.Role.TheVariants.{Primary, Secondary}
use Rattle.journal_lines.specs.declared.line.Line.{Line}
use Rattle.causal_order.specs.Journals.{Volume, Journals, journal_of, volume_of}
use Rattle.attribution.specs.Volumes.{volume_at, volumes_in}
use Rattle.attribution.specs.Run.{Step, lines_of, Leaves}
use Rattle.attribution.specs.Acceptance.{AcceptedIsTrue}
use Rattle.attribution.specs.Laws.{Setting, ChainsStandInOrder, BoundsHold, LateAfterClose}
use Rattle.attribution.specs.Lawful.{Lawful}
use Rattle.attribution.proofs.Runs.{last, World, leads_at, written_by, written_from, past_end, held, alone}

-- the journal that a side leaves
pub left_of : (js : Journals) (run : List Step) (side : Role) (v : Volume) → Leaves run side v
    → journal_of js side ≡ v.lines → volume_of js side ≡ v.number
    → (0 < volume_of js side) × (journal_of js side ≡ volume_at (last js side) (lines_of side run))
left_of js run side v h lines number =
    let n = h.number in
    let e : h.index ≡ last js side = omega arith in
    (omega arith, lines ∙ (h.lines ∙ ap (λ k. volume_at k (lines_of side run)) e))

-- any legality that keeps this
abbrev pub IsLawful : (Role → List (List Line) → Type 0) → Type 0
IsLawful AreLegal = (side : Role) (vs : List (List Line)) → AreLegal side vs → Lawful vs

pub world_of : (AreLegal : Role → List (List Line) → Type 0) → IsLawful AreLegal
    → (js : Journals) (skew : ℕ) (run : List Step) → Setting AreLegal js skew run → World AreLegal js skew run
world_of AreLegal keeps js skew run setting =
    let left : (side : Role) → (0 < volume_of js side)
    × (journal_of js side ≡ volume_at (last js side) (lines_of side run)) =
    λ side. elim side as (λ x. (0 < volume_of js x) × (journal_of js x ≡ volume_at (last js x) (lines_of x run))) [
      | Primary ↦ left_of js run Primary js.a setting.left_a refl refl
      | Secondary ↦ left_of js run Secondary js.b setting.left_b refl refl
    ] in
    record {
      is_run = setting.is_run;
      clocks = setting.clocks;
      some = λ side. (left side).0;
      left = λ side. (left side).1;
      lawful = λ side. keeps side (volumes_in (volume_of js side) (lines_of side run)) (setting.is_run.legal side);
    }

-- what is accepted is true in every run that leaves these journals
pub headline : (AreLegal : Role → List (List Line) → Type 0) → IsLawful AreLegal → AcceptedIsTrue AreLegal
headline AreLegal keeps js skew transit c ok run is_run clocks left_a left_b starts reaches =
    let world = world_of AreLegal keeps js skew run (record {
      is_run = is_run;
      clocks = clocks;
      left_a = left_a;
      left_b = left_b;
    }) in
    record {
      held = held AreLegal js skew run world transit starts reaches c ok;
      alone =
          alone AreLegal js skew run world transit starts reaches c ok;
    }

-- the laws that carry it
pub chains_stand_in_order : (AreLegal : Role → List (List Line) → Type 0) → IsLawful AreLegal
    → ChainsStandInOrder AreLegal
chains_stand_in_order AreLegal keeps js skew run setting chain r q i j s t leads a b =
    leads_at AreLegal js skew run (world_of AreLegal keeps js skew run setting) chain r q i j s t leads a b

pub bounds_hold : (AreLegal : Role → List (List Line) → Type 0) → IsLawful AreLegal → BoundsHold AreLegal
bounds_hold AreLegal keeps js skew run setting chain r x i s a =
    let world = world_of AreLegal keeps js skew run setting in (
      λ w. written_by AreLegal js skew run world chain r x i s w a,
      λ w. written_from AreLegal js skew run world chain r x i s w a,
    )

pub late_after_close : (AreLegal : Role → List (List Line) → Type 0) → IsLawful AreLegal → LateAfterClose AreLegal
late_after_close AreLegal keeps js skew run setting to i s closed at past =
    let world = world_of AreLegal keeps js skew run setting in
    let some = world.some s.side in
    past_end AreLegal js skew run world to i s closed at (omega arith)
