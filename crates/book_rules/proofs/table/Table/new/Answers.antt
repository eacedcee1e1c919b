use Rattle.std.proofs.Common.{arith, ap, ◌∙◌, ◌≡◌, [], refl}
use Rattle.std.proofs.Math.Path.{fun_ext}
use Rattle.prefix_range.specs.Prefix.{Prefix}
use Rattle.book_state.specs.Places.{Delegable, unit_at}
use Rattle.binding_rules.specs.Unit.{fresh}
use Rattle.book_state.proofs.TableLaws.{none_changed}
use Rattle.book_rules.proofs.table.Table.new.Goals as goal

pub invariant_of-result : goal.invariant_of-result
invariant_of-result c = record {
  fits = record {
    few = omega arith;
    serial = omega arith;
    restart = omega arith;
    mine = λ p. (let e : (unit_at c.new.result p).mine ≡ 0 = ap (λ (t : Delegable). (unit_at t p).mine) c.new.ensures
        ∙ rw (none_changed p) refl in omega (arith, e));
  };
}

pub returns : goal.returns
returns c =
    let units : unit_at (record { pools = []; units = [] }) ≡ (λ (p : Prefix). fresh) = fun_ext none_changed in
    rw (
      c.volume.ensures,
      c.no_skew.ensures,
      c.first_reading.ensures,
      c.first_reading-2.ensures,
      c.new.ensures,
      units,
    ) refl
