use Rattle.std.proofs.Common.{sym, ◌∙◌}
use Rattle.std.proofs.lemmas.Result.{err_from_is_err_and}
use Rattle.router_options.proofs.NameLaws.{name_takes, name_again, errs}
use Rattle.router_options.proofs.name.DomainName.of_text.Goals as goal

pub invariant_of-result : goal.invariant_of-result
invariant_of-result c = (name_takes c.args.text.now _ c.in_ok-octets.ensures).most

pub returns-clause-found : goal.returns-clause-found
returns-clause-found c = name_takes c.args.text.now _ c.in_ok-octets.ensures

pub returns-clause-only : goal.returns-clause-only
returns-clause-only c = λ n h. sym (name_again c.args.text.now n h) ∙ c.in_ok-octets.ensures

pub returns-in_err-octets-clause-only : goal.returns-in_err-octets-clause-only
returns-in_err-octets-clause-only c = λ n h.
    (let p = err_from_is_err_and c.from_residual.result c.from_residual.ensures.1 in
    rw (p.1, p.2) (errs c.args.text.now n _ c.in_err-octets.ensures h))
