use Rattle.std.proofs.Common.{◌≡◌, ◌-◌, ◌≤◌, length}
use Rattle.sdb_model.specs.SqlTokens.{enclosed, onto_text}
use Rattle.sdb_sqltext.proofs.lexer.enclosed.Given as goal

abbrev pub invariant-loop-rest : goal.invariant-loop-rest
invariant-loop-rest l = (onto_text l.text.items (length l.bytes - length l.rest) (enclosed l.rest) ≡ enclosed l.bytes) × (length l.rest ≤ length l.bytes)

abbrev pub decreases-loop-rest : goal.decreases-loop-rest
decreases-loop-rest l = length l.rest
