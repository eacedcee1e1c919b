use Rattle.std.proofs.Common.{sym, ◌∙◌, inl, inr}
use Rattle.unit_index.proofs.LeaseSteps.{settled, unsettled}
use Rattle.unit_index.proofs.leasing.leases.enter.Goals as goal

pub returns-in_err-expect-clause-held : goal.returns-in_err-expect-clause-held
returns-in_err-expect-clause-held c = λ were. record {
  sound =
      λ h has. were.sound h (c.in_err-expect.ensures.refused h has);
  complete =
      λ h held. c.expect.ensures.more h (were.complete h held);
}

pub returns-in-Ok-clause-held : goal.returns-in-Ok-clause-held
returns-in-Ok-clause-held c = settled _ _ c.args.line.now c.args.leases.now c.expect.new.leases c.settle.new.leases
    c.settle-in-Ok.new.leases c.in-Ok.ensures.entered c.requires.pools (record {
      more = c.expect.ensures.more;
      only = λ h has. elim (c.expect.ensures.only h has) [
        | inl old ↦ inl old
        | inr new ↦ inr (sym c.coming_of-coming.ensures ∙ new)
      ];
      there = λ h new. c.in_ok-expect.ensures.there h (c.coming_of-coming.ensures ∙ new);
      fewer_first = c.settle.ensures.fewer;
      gone_first = λ h held has. c.settle.ensures.gone h (c.held_before-before.ensures ∙ held) has;
      kept_first = c.settle.ensures.kept;
      fewer_last = c.settle-in-Ok.ensures.fewer;
      gone_last = λ h new has. c.settle-in-Ok.ensures.gone h (c.coming_of-coming.ensures ∙ new) has;
      kept_last = c.settle-in-Ok.ensures.kept;
    })

pub returns-in-Err-clause-held : goal.returns-in-Err-clause-held
returns-in-Err-clause-held c = unsettled _ _ c.coming_of-coming.result c.args.leases.now c.expect.new.leases
    c.settle-in-Err.new.leases c.in-Err.ensures.refused c.expect.ensures.more c.expect.ensures.only
    c.settle-in-Err.ensures.fewer c.settle-in-Err.ensures.gone c.settle-in-Err.ensures.kept
