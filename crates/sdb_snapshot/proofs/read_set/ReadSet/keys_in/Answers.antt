use Rattle.std.proofs.Common.{List, IfOk, subst, Result, Ok, Err}
use Rattle.sdb_snapshot.specs.Types.{Record, Span}
use Rattle.sdb_snapshot.specs.Places.{AreKeysIn}
use Rattle.sdb_snapshot.specs.Reads.{ReadRecord, AreKeysOf}
use Rattle.sdb_snapshot.proofs.read_set.ReadSet.keys_in.Goals as goal

keys_of_set : {E : Type 0} (r : Result (List Record) E) (read_set : List ReadRecord) (span : Span) → IfOk r (λ rs. AreKeysIn read_set span rs) → IfOk r (λ rs. AreKeysOf read_set span rs)
keys_of_set (Ok rs) read_set span h = record { rows = h.rows; as_read = h.as_read }
keys_of_set (Err e) read_set span h = tt

pub returns : goal.returns
returns c =
    subst (λ (read_set : List ReadRecord). IfOk c.keys_in.result (λ keys. AreKeysOf read_set c.args.span.now keys)) c.self.view_is
    (keys_of_set c.keys_in.result c.self.inside.found c.args.span.now c.keys_in.ensures)
