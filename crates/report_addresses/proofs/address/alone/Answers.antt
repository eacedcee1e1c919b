use Rattle.std.proofs.Common.{◌≡◌, ◌∙◌, rules, ap, codes}
use Rattle.report_addresses.proofs.Alone.{found, is_alone}
use Rattle.report_addresses.proofs.address.alone.Goals as goal

pub returns-in-Ok : goal.returns-in-Ok
returns-in-Ok c =
    ap found c.in-Ok.ensures.exact ∙ is_alone c.args.text.now c.deref.result.now (search rules) c.requires

pub returns : goal.returns
returns c = ap found c.in-Err.ensures.exact ∙ is_alone c.args.text.now c.deref.result.now (search rules) c.requires
