use Rattle.std.proofs.Common.{inr}
use Rattle.std.proofs.lemmas.Result.{IfErr-weaker}
use Rattle.sdb_sqlite.proofs.Making.{new_is_blank}
use Rattle.sdb_sqlite.proofs.kept.Kept+MemStore.in_memory.Goals as goal

pub returns-in-Ok-clause-refused : goal.returns-in-Ok-clause-refused
returns-in-Ok-clause-refused c =
    IfErr-weaker c.new.result _ _ (λ e h. inr (c.in-Ok.connection, new_is_blank c.in-Ok.connection c.in-Ok.ensures.empty c.in-Ok.ensures.fresh, h)) c.new.ensures.refused
