use Rattle.std.proofs.Common.{◌≡◌, List, ℕ, [], refl, Some, None, subst, ap, sym, ◌∙◌, arith}
use Rattle.std.specs.Prelude.{if◌then◌else◌}
use Rattle.std.specs.Str.{bytes_eq}
use Rattle.client_limits.specs.Holders.{units_in}
use Rattle.std.proofs.lemmas.Bool.Decides.{nat_tests}
use Rattle.prefix_range.specs.Prefix.{Prefix}
use Rattle.client_limits.proofs.Anew.{listed_anew, no_items}
use Rattle.client_limits.proofs.holders.Holders.list.Goals as goal

-- src/holders.rt:54:5
pub returns-then-is_empty-clause-listed : goal.returns-then-is_empty-clause-listed
returns-then-is_empty-clause-listed c = record {
  holders = λ address. refl;
  units = λ h. (
      let none = subst (λ (o : List ℕ). units_in c.remove.new.self h
      ≡ (if bytes_eq o h then [] else units_in c.args.self.now.units h)) c.as_slice-then-is_empty.ensures.value
      (listed_anew c.args.self.now.units c.remove.new.self c.as_slice-then-is_empty.result.now None
      c.remove.ensures.updates.1 c.remove.ensures.updates.3 h) in
      none ∙ ap (λ (its : List Prefix). if bytes_eq c.args.holder.items h then its
      else units_in c.args.self.now.units h) (sym (no_items c.args.units.items (grind (arith, nat_tests)))));
}

-- src/holders.rt:54:5
pub returns-in_ok-insert-clause-listed : goal.returns-in_ok-insert-clause-listed
returns-in_ok-insert-clause-listed c = record {
  holders = λ address. refl;
  units = listed_anew c.args.self.now.units c.insert.new.self c.args.holder.items (Some c.args.units)
      c.in_ok-insert.ensures.updates.1 c.in_ok-insert.ensures.updates.3;
}
