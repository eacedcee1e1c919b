use Rattle.attribution_desk.proofs.HeldTexts.{held_spelled}
use Rattle.attribution_desk.proofs.holding.held_text.Goals as goal

pub returns-clause-text : goal.returns-clause-text
returns-clause-text c = record {
  from = c.in_ok-from.from.items;
  from_is = c.in_ok-from.ensures;
  to = c.in_ok-to.to.items;
  to_is = c.in_ok-to.ensures;
  spelled = held_spelled c.args.certificate.now _ _ _ _ c.in-Ok.text.items _ _ _ _ c.new-out.ensures.items
      c.in_ok-add_held.ensures c.deref.ensures.value c.deref-2.ensures.value c.deref-3.ensures.value
      c.in-Ok.ensures.text c.in_ok-extend_from_slice.ensures.items;
}
