use Rattle.std.proofs.Common.{arith, sym, ap, ◌∙◌}
use Rattle.std.specs.Prelude.{sum_by}
use Rattle.std.proofs.lemmas.Result.{err_from_is_err_and}
use Rattle.dhcp6_pd.specs.Layout.{server_octets}
use Rattle.dhcp6_pd.specs.Size.{fitting, relay_size}
use Rattle.dhcp6_pd.proofs.Sizes.{relayed_length, fitting_is, fitting_more}
use Rattle.dhcp6_pd.proofs.size.size_of.Goals as goal

pub returns-in_err-size : goal.returns-in_err-size
returns-in_err-size c =
    let m = c.args.message.now in
    let p = err_from_is_err_and c.from_residual.result c.from_residual.ensures.1 in
    rw (p.1, p.2) (sym (fitting_more _ _ _ (omega (arith, relayed_length m.relays (server_octets m)))
    (sym c.server_size.ensures ∙ c.in_err-size.was)))

pub returns : goal.returns
returns c =
    let m = c.args.message.now in
    let relays = ap (λ (rs : _). sum_by relay_size rs) c.as_slice.ensures in
    let sized = fitting_is _ _ (sym c.server_size.ensures ∙ c.in_ok-size.was) in
    c.relays_size.ensures ∙ ap fitting (omega (arith, relayed_length m.relays (server_octets m), relays, sized))
