use Rattle.std.proofs.Common.{rules, ◌≡◌, ◌++◌, append-nil, sym, ap, subst, take, ◌∙◌}
use Rattle.std.specs.Io.KnownBytes.{Consumes}
use Rattle.attribution_desk.proofs.Chunks.{gathered_on, taken_on, taken_all}
use Rattle.attribution_desk.proofs.chunk_sink.take_chunks.Goals as goal

pub returns-then-count-eq0-clause-taken : goal.returns-then-count-eq0-clause-taken
returns-then-count-eq0-clause-taken g c =
    let before = c.loop-gathered.invariant in
    let none : c.in_ok-count.count ≡ 0 = search rules in
    taken_all g.T.ChunkSink.has_taken c.args.taker _ _ _ c.loop-gathered.taker before.0 c.loop-gathered.gathered.items _
    c.take_chunk.result before.1 before.2 c.in_ok-count.ensures.bytes.0
    (ap (λ n. take n c.read.new.buffer) none) (c.in_ok-count.ensures.bytes.1 none (search rules)) (search rules)

pub loop-gathered-preserved-then-len-ge-CHUNK_SIZE : goal.loop-gathered-preserved-then-len-ge-CHUNK_SIZE
loop-gathered-preserved-then-len-ge-CHUNK_SIZE g c =
    let before = c.loop-gathered.invariant in
    let items = c.extend_from_slice.new.self.items in
    let read = gathered_on _ _ _ before.0 c.loop-gathered.gathered.items _ items before.2 c.in_ok-count.ensures.bytes.0
    (search rules) in (
      before.0 ++ items,
      taken_on g.T.ChunkSink.has_taken c.args.taker c.loop-gathered.taker c.in_ok-taker.taker before.0 items before.1
          (search rules),
      subst (Consumes _ _) (sym (ap (λ x. (before.0 ++ items) ++ x) c.clear.ensures.items
          ∙ append-nil (before.0 ++ items))) read,
    )

pub loop-gathered-preserved : goal.loop-gathered-preserved
loop-gathered-preserved g c =
    let before = c.loop-gathered.invariant in (
      before.0,
      before.1,
      gathered_on _ _ _ before.0 c.loop-gathered.gathered.items _ c.extend_from_slice.new.self.items before.2
          c.in_ok-count.ensures.bytes.0 (search rules),
    )
