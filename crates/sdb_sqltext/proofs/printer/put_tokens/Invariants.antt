use Rattle.std.proofs.Common.{◌≡◌, ◌++◌, drop}
use Rattle.std.specs.String.{string_bytes}
use Rattle.sdb_model.specs.Sql.{more_text}
use Rattle.sdb_sqltext.proofs.printer.put_tokens.Given as goal

abbrev pub invariant-loop-token : goal.invariant-loop-token
invariant-loop-token l = string_bytes l.out ++ more_text l.last (drop l.token-index l.rest) ≡ string_bytes l.initial.out ++ more_text l.initial.last l.rest
