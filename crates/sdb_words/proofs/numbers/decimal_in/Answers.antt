use Rattle.std.proofs.Common.{rules}
use Rattle.sdb_words.proofs.Decimals.{unread, read_otherwise}
use Rattle.sdb_words.proofs.numbers.decimal_in.Goals as goal

pub returns-in_err-n : goal.returns-in_err-n
returns-in_err-n c =
    rw c.from_residual.ensures (unread c.args.word.now c.parse.result c.parse.ensures.value.0 c.in_err-n.ensures.value)

pub returns-then-not-is_decimal : goal.returns-then-not-is_decimal
returns-then-not-is_decimal c =
    read_otherwise c.args.word.now c.parse.result c.in_ok-n.n c.parse.ensures.value.0 c.in_ok-n.ensures.value (search rules)
