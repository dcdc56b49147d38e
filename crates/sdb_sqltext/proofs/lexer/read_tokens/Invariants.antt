use Rattle.std.proofs.Common.{◌≡◌, ◌-◌, ◌≤◌, length}
use Rattle.sdb_model.specs.SqlTokens.{tokens_from, behind}
use Rattle.sdb_sqltext.proofs.lexer.read_tokens.Given as goal

abbrev pub invariant-loop-rest : goal.invariant-loop-rest
invariant-loop-rest l = (behind l.placed (tokens_from (length l.bytes - length l.rest) 0 l.rest) ≡ tokens_from 0 0 l.bytes) × (length l.rest ≤ length l.bytes)

abbrev pub decreases-loop-rest : goal.decreases-loop-rest
decreases-loop-rest l = length l.rest
