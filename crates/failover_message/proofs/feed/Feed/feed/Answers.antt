use Rattle.std.proofs.Common.{◌++◌, ℕ, List, ap, arith}
use Rattle.client_id.proofs.Filling.{bytes_are_octets}
use Rattle.failover_message.proofs.ChunkLaws.{octets_append}
use Rattle.failover_message.proofs.FeedLaws.{given_only, given_well, refused_well, refused_ill}
use Rattle.failover_message.proofs.feed.Feed.feed.Goals as goal

pub returns-in-Ok-clause-only : goal.returns-in-Ok-clause-only
returns-in-Ok-clause-only c frames rest t =
    let same = ap (λ (w : List ℕ). w ++ c.args.chunk.now) c.self.view_is in
    given_only _ _ _ _ same c.in-Ok.ensures.split frames rest t

pub returns-in-Ok-clause-ill : goal.returns-in-Ok-clause-ill
returns-in-Ok-clause-ill c fault b =
    let same = ap (λ (w : List ℕ). w ++ c.args.chunk.now) c.self.view_is in
    let octets = octets_append _ _ c.self.invariant.fits
    (bytes_are_octets c.args.chunk.now (λ i. omega (arith, c.type_inv.chunk i))) in
    (tt, λ e. given_well _ _ _ _ octets same c.in-Ok.ensures.split fault b)

pub returns-in-Err-clause-well : goal.returns-in-Err-clause-well
returns-in-Err-clause-well c frames rest t =
    let same = ap (λ (w : List ℕ). w ++ c.args.chunk.now) c.self.view_is in
    let octets = octets_append _ _ c.self.invariant.fits
    (bytes_are_octets c.args.chunk.now (λ i. omega (arith, c.type_inv.chunk i))) in
    refused_well _ _ _ octets same c.in-Err.ensures.fault frames rest t

pub returns-in-Err-clause-ill : goal.returns-in-Err-clause-ill
returns-in-Err-clause-ill c fault b =
    let same = ap (λ (w : List ℕ). w ++ c.args.chunk.now) c.self.view_is in
    let octets = octets_append _ _ c.self.invariant.fits
    (bytes_are_octets c.args.chunk.now (λ i. omega (arith, c.type_inv.chunk i))) in
    (refused_ill _ _ _ octets same c.in-Err.ensures.fault fault b, λ e. (let x = e in absurd cc))
