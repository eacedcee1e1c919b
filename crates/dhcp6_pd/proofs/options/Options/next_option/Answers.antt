use Rattle.std.proofs.Common.{arith}
use Rattle.std.proofs.lemmas.List.{take_rest}
use Rattle.dhcp6_pd.proofs.Rows.{row_long, row_next}
use Rattle.dhcp6_pd.proofs.options.Options.next_option.Goals as goal

pub returns-then-rest-length : goal.returns-then-rest-length
returns-then-rest-length c =
    let n = rw take_rest at c.read_u16-length.ensures in
    let few = rw take_rest at c.if-rest-length.true in
    row_long c.args.self.now.rest.now (omega arith) (rw (← n) few)

pub returns : goal.returns
returns c =
    let n = rw take_rest at c.read_u16-length.ensures in
    let few = rw take_rest at c.if-rest-length.false in
    let e = row_next c.args.self.now.rest.now (omega arith) (rw (← n) few) in
    rw (c.read_u16-code.ensures, n) (simp take_rest e)
