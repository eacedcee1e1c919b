use Rattle.std.proofs.Common.{arith, sym, ap, ◌∙◌, length}
use Rattle.std.specs.List.{flat_map}
use Rattle.std.proofs.lemmas.Result.{err_from_is_err_and}
use Rattle.dhcp6_pd.specs.Layout.{ia_octets, ready_octets, no_address_octets}
use Rattle.dhcp6_pd.specs.Size.{fitting}
use Rattle.dhcp6_pd.proofs.Sizes.{server_length, fitting_is, fitting_more}
use Rattle.dhcp6_pd.proofs.size.server_size.Goals as goal

pub returns-in_err-optioned : goal.returns-in_err-optioned
returns-in_err-optioned c =
    let m = c.args.message.now in
    let p = err_from_is_err_and c.from_residual.result c.from_residual.ensures.1 in
    let options = ap (λ (xs : _). length (flat_map ready_octets xs)) c.as_slice.ensures in
    rw (p.1, p.2) (sym (fitting_more _ _ _ (omega (arith, server_length m, options, c.head_size.ensures.value))
    (sym c.options_size.ensures ∙ c.in_err-optioned.was)))

pub returns-in_err-refused : goal.returns-in_err-refused
returns-in_err-refused c =
    let m = c.args.message.now in
    let p = err_from_is_err_and c.from_residual-in_err-refused.result c.from_residual-in_err-refused.ensures.1 in
    let options = ap (λ (xs : _). length (flat_map ready_octets xs)) c.as_slice.ensures in
    let addresses = ap (λ (xs : _). length (flat_map no_address_octets xs)) c.as_slice-2.ensures in
    let sized = fitting_is _ _ (sym c.options_size.ensures ∙ c.in_ok-optioned.was) in
    rw (p.1, p.2) (sym (fitting_more _ _ _
    (omega (arith, server_length m, options, addresses, sized, c.head_size.ensures.value))
    (sym c.no_addresses_size.ensures ∙ c.in_err-refused.was)))

pub returns : goal.returns
returns c =
    let m = c.args.message.now in
    let options = ap (λ (xs : _). length (flat_map ready_octets xs)) c.as_slice.ensures in
    let addresses = ap (λ (xs : _). length (flat_map no_address_octets xs)) c.as_slice-2.ensures in
    let ias = ap (λ (xs : _). length (flat_map ia_octets xs)) c.as_slice-3.ensures in
    let sized = fitting_is _ _ (sym c.options_size.ensures ∙ c.in_ok-optioned.was) in
    let more = fitting_is _ _ (sym c.no_addresses_size.ensures ∙ c.in_ok-refused.was) in
    c.ias_size.ensures ∙ ap fitting
    (omega (arith, server_length m, options, addresses, ias, sized, more, c.head_size.ensures.value))
