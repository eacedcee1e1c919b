use Rattle.std.proofs.Common.{arith}
use Rattle.text_fields.proofs.DigitTable.{table_has}
use Rattle.text_fields.proofs.octets.digit_value.Goals as goal

pub returns : goal.returns
returns c = table_has c.args.b (omega arith)
