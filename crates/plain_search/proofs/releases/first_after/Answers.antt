use Rattle.std.proofs.Common.{arith, rules, refl, not}
use Rattle.std.proofs.lemmas.List.Sorted.{IsPartitionPoint-from_clause}
use Rattle.std.proofs.lemmas.Option.{slice_get_read, get_or_from_slice_get}
use Rattle.plain_search.specs.declared.collected.DatedRelease.{DatedRelease}
use Rattle.plain_search.specs.Collected.{shows_before}
use Rattle.plain_search.proofs.Halving.{parted_after, none_fails, first_fails}
use Rattle.plain_search.proofs.releases.first_after.Goals as goal

pub returns-then-place-releases : goal.returns-then-place-releases
returns-then-place-releases c =
    let xs = c.args.releases.now in
    let parted = parted_after c.args.skew xs c.requires c.args.line.now in
    let point = IsPartitionPoint-from_clause (λ (x : DatedRelease). not (shows_before c.args.skew c.args.line.now x)) _ _
    c.partition_point-place.ensures.partitioned parted (λ a r q k. search rules) in
    none_fails (λ (x : DatedRelease). not (shows_before c.args.skew c.args.line.now x)) xs c.partition_point-place.result
    point (omega arith)

pub returns : goal.returns
returns c =
    let xs = c.args.releases.now in
    let parted = parted_after c.args.skew xs c.requires c.args.line.now in
    let point = IsPartitionPoint-from_clause (λ (x : DatedRelease). not (shows_before c.args.skew c.args.line.now x)) _ _
    c.partition_point-place.ensures.partitioned parted (λ a r q k. search rules) in
    first_fails (λ (x : DatedRelease). not (shows_before c.args.skew c.args.line.now x)) xs c.partition_point-place.result
    point c.requires c.index-releases-place.result (let bound = c.partition_point-place.ensures.bound in
    omega arith)
    (λ d. get_or_from_slice_get xs c.partition_point-place.result c.index-releases-place.result d
    (slice_get_read xs _ c.partition_point-place.result c.index-releases-place.result refl (let bound =
    c.partition_point-place.ensures.bound in omega arith) c.index-releases-place.is))
