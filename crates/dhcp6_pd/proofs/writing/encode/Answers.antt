use Rattle.std.proofs.Common.{ℕ, ◌++◌, ◌∙◌, ap, sym, arith, List, length}
use Rattle.std.specs.Prelude.{sum_by}
use Rattle.dhcp6_pd.specs.declared.message.Relay.{Relay}
use Rattle.dhcp6_pd.specs.Layout.{server_octets, relayed}
use Rattle.dhcp6_pd.specs.Size.{relay_size}
use Rattle.dhcp6_pd.proofs.Sizes.{relays_fit}
use Rattle.dhcp6_pd.proofs.writing.encode.Goals as goal

pub push_relays-requires-clause-room : goal.push_relays-requires-clause-room
push_relays-requires-clause-room c =
    let fit = relays_fit c.args.message.now c.in_ok-size.size (sym c.size_of.ensures ∙ c.in_ok-size.was) in
    let relays = ap (λ (rs : List Relay). sum_by relay_size rs) c.as_slice.ensures in
    omega (arith, fit, relays, c.in_ok-out.ensures.len)

pub returns-clause-written : goal.returns-clause-written
returns-clause-written c =
    let m = c.args.message.now in
    let fit = relays_fit m c.in_ok-size.size (sym c.size_of.ensures ∙ c.in_ok-size.was) in
    let relays = ap (λ (rs : List Relay). sum_by relay_size rs) c.as_slice.ensures in
    let none = ap (λ (xs : List ℕ). length xs) c.in_ok-out.ensures.items in
    let inside = c.in_ok-push_relays.ensures (server_octets m) (omega (arith, fit, relays, none)) in
    let empty = c.in_ok-out.ensures.items in
    let listed = c.as_slice.ensures in
    c.in_ok-push_server.ensures
    ∙ (inside ∙ (ap (λ (xs : List ℕ). xs ++ relayed c.as_slice.result.now (server_octets m)) empty
    ∙ ap (λ (rs : List Relay). relayed rs (server_octets m)) listed))
