use Rattle.std.proofs.Common.{◌∙◌, ◌+◌, refl, sym, ap, arith}
use Rattle.link_auth.specs.Records.{code_of}
use Rattle.link_auth.specs.Parsing.{Ahead}
use Rattle.link_auth.proofs.RecordLaws.{two_parts, stands}
use Rattle.link_auth.proofs.cursor.Cursor.next_piece.Goals as goal

pub returns : goal.returns
returns c = (
  stands c.args.key.now c.args.self.now.number c.args.self.now.rest c.in-Some.head.now c.in-Some.behind.now
      c.split_at.result.0.now c.split_at.result.1.now c.in-Some-split_first_chunk.code.now
      c.in-Some-split_first_chunk.behind.now c.length_in-length.result
      (sym (ap (λ (a : Ahead). a.rest) c.self.view_is)
      ∙ two_parts 2 _ _ _ c.in-Some.ensures.cases.0 c.in-Some.ensures.cases.1)
      (two_parts _ _ _ _ c.split_at.ensures.front c.split_at.ensures.back)
      (two_parts 16 _ _ _ c.in-Some-split_first_chunk.ensures.cases.0 c.in-Some-split_first_chunk.ensures.cases.1)
      c.length_in-length.ensures.spelled
      c.split_at.ensures.front_len
      c.if-length-gt-MOST.false
      (c.if-not-equal_in_constant_time.ensures.0 refl ∙ c.record_mac.ensures
      ∙ ap (λ (a : Ahead). code_of c.args.key.now a.number c.split_at.result.0.now) c.self.view_is),
  c.in-Some-checked_add.ensures.1 ∙ ap (λ (a : Ahead). a.number + 1) c.self.view_is,
)

pub returns-in_default-checked_add : goal.returns-in_default-checked_add
returns-in_default-checked_add c = (
  record {
    last = grind (arith, ap (λ (a : Ahead). a.number) c.self.view_is);
    piece = c.split_at.result.0.now;
    rest = c.in-Some-split_first_chunk.behind.now;
    stands = stands c.args.key.now c.args.self.now.number c.args.self.now.rest c.in-Some.head.now c.in-Some.behind.now
        c.split_at.result.0.now c.split_at.result.1.now c.in-Some-split_first_chunk.code.now
        c.in-Some-split_first_chunk.behind.now c.length_in-length.result
        (sym (ap (λ (a : Ahead). a.rest) c.self.view_is)
        ∙ two_parts 2 _ _ _ c.in-Some.ensures.cases.0 c.in-Some.ensures.cases.1)
        (two_parts _ _ _ _ c.split_at.ensures.front c.split_at.ensures.back)
        (two_parts 16 _ _ _ c.in-Some-split_first_chunk.ensures.cases.0 c.in-Some-split_first_chunk.ensures.cases.1)
        c.length_in-length.ensures.spelled
        c.split_at.ensures.front_len
        c.if-length-gt-MOST.false
        (c.if-not-equal_in_constant_time.ensures.0 refl ∙ c.record_mac.ensures
        ∙ ap (λ (a : Ahead). code_of c.args.key.now a.number c.split_at.result.0.now) c.self.view_is);
  },
  refl,
)
