use Rattle.std.specs.Prelude.{List, ℕ, ◌++◌}
use Rattle.std.proofs.Common.{[], subst, ap, ◌∙◌}
use Rattle.binding_rules.specs.declared.role.Role.TheVariants.{Primary, Secondary}
use Rattle.std.specs.Io.KnownBytes.{Appends}
use Rattle.attribution_desk.specs.Searching.{IsPairTold, IsSearchTold}
use Rattle.attribution_desk.proofs.Intakes.{parsed_closed}
use Rattle.attribution_desk.proofs.AllRead.{written, of_pair}
use Rattle.attribution_desk.proofs.searching.search_input.Goals as goal

pub search_pair-requires-clause-primary_closed : goal.search_pair-requires-clause-primary_closed
search_pair-requires-clause-primary_closed g c _ _ =
    let taken = c.in_ok-intake.ensures.taken in
    parsed_closed c.text_gives_what_it_spells.ensures.side c.written_is_closed.ensures Primary _ _
    (c.finish-pair.ensures.primary taken.0 (taken.1 [] c.new.ensures))

pub search_pair-requires-clause-secondary_closed : goal.search_pair-requires-clause-secondary_closed
search_pair-requires-clause-secondary_closed g c _ _ =
    let taken = c.in_ok-intake.ensures.taken in
    parsed_closed c.text_gives_what_it_spells.ensures.side c.written_is_closed.ensures Secondary _ _
    (c.finish-pair.ensures.secondary taken.0 (taken.1 [] c.new.ensures))

pub returns-clause-written : goal.returns-clause-written
returns-clause-written g c =
    let taken = c.in_ok-intake.ensures.taken in
    let has = taken.1 [] c.new.ensures in
    let answer = c.in_ok-answer.answer in
    let search = c.args.search.now in
    let primary = c.finish-pair.ensures.primary taken.0 has in
    let secondary = c.finish-pair.ensures.secondary taken.0 has in
    let notes = c.extend_from_slice.new.self.items in
    let told : IsPairTold c.finish-pair.result.primary c.finish-pair.result.secondary search c.in_ok-text.text.items c.status.result notes = (
      answer,
      c.in_ok-answer.ensures.answer,
      c.in_ok-text.ensures.told,
      c.status.ensures,
      (
        c.in_ok-warnings.warnings.items,
        c.in_ok-warnings.ensures.warned,
        c.in_ok-extend_from_slice.ensures.items
            ∙ ap (λ (x : List ℕ). c.in_ok-warnings.warnings.items ++ x) c.note.ensures,
      ),
    ) in
    written (λ input. IsSearchTold input search notes) _ _ _ taken.0 c.in_ok-text.text.items c.status.result taken.2
    (of_pair (λ a b. IsPairTold a b search c.in_ok-text.text.items c.status.result notes) taken.0 _ _ primary
    secondary told)
    (subst (Appends (g.W.Write.contents c.args.writer.now.device) (g.W.Write.contents c.write_out.new.self.device))
    c.deref.ensures.value c.in_ok-write_out.ensures.bytes)
