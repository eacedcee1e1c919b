use Rattle.std.proofs.Common.{rules, ◌≡◌, ◌++◌, ◌∷◌, List, [], Some, ap, ◌∙◌, refl}
use Rattle.std.specs.Prelude.{if◌then◌else◌}
use Rattle.std.specs.Str.{bytes_eq}
use Rattle.prefix_range.specs.Prefix.{Prefix}
use Rattle.client_limits.specs.Holders.{listed, units_in}
use Rattle.client_limits.proofs.Anew.{listed_anew, listed_again}
use Rattle.client_limits.proofs.holders.Holders.append.Goals as goal

-- src/holders.rt:83:5
pub returns-in-Ok-clause-listed : goal.returns-in-Ok-clause-listed
returns-in-Ok-clause-listed c =
    let updates = (c.get_mut.follows.holds c.push.new.self).3 (search rules) in
    let its : c.push.new.self.items ≡ units_in c.args.self.now.units c.args.holder.now ++ c.args.unit ∷ [] =
    c.in-Ok.ensures.items ∙ ap (λ o. listed o ++ c.args.unit ∷ []) c.in-Some.ensures.value in
    record {
      holders = λ address. refl;
      units = λ h. listed_anew c.args.self.now.units (c.get_mut.follows.lender c.push.new.self) c.args.holder.now (Some c.push.new.self) updates.1 updates.3 h
          ∙ ap (λ (l : List Prefix). if bytes_eq c.args.holder.now h then l else units_in c.args.self.now.units h) its;
    }

-- src/holders.rt:83:5
pub returns-in-Err-clause-refused : goal.returns-in-Err-clause-refused
returns-in-Err-clause-refused c =
    let updates = (c.get_mut.follows.holds c.push.new.self).3 (search rules) in
    let its : c.push.new.self.items ≡ units_in c.args.self.now.units c.args.holder.now =
    c.in-Err.ensures.items ∙ ap listed c.in-Some.ensures.value in
    record {
      holders = λ address. refl;
      units = listed_again c.args.self.now.units (c.get_mut.follows.lender c.push.new.self) c.args.holder.now (Some c.push.new.self) updates.1 updates.3 its;
    }
