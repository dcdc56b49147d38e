use Rattle.std.proofs.Common.{Bool, ◌∙◌, ap, sym}
use Rattle.std.specs.Prelude.{◌&&◌, not}
use Rattle.sdb_types.specs.Contents.{put_keys}
use Rattle.sdb_types.specs.Order.{are_distinct}
use Rattle.sdb_types.proofs.Batches.{once_of, rest_of}
use Rattle.sdb_types.proofs.batch.are_once.Goals as goal

pub returns-then-puts_key : goal.returns-then-puts_key
returns-then-puts_key c =
    sym (c.loop-rest.invariant ∙ once_of c.loop-rest.rest.now c.first-item.result c.puts_key.result c.in-len1-up.len_at_least c.first-item.is c.puts_key.ensures ∙ ap (λ (b : Bool). not b && are_distinct (put_keys (rest_of c.loop-rest.rest.now))) c.if-puts_key.true)

pub loop-rest-preserved : goal.loop-rest-preserved
loop-rest-preserved c =
    c.loop-rest.invariant ∙ once_of c.loop-rest.rest.now c.first-item.result c.puts_key.result c.in-len1-up.len_at_least c.first-item.is c.puts_key.ensures ∙ ap (λ (b : Bool). not b && are_distinct (put_keys (rest_of c.loop-rest.rest.now))) c.if-puts_key.false
