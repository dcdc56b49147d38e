use Rattle.std.proofs.Common.{sym, subst, List}
use Rattle.sdb_record.specs.declared.access.Image.{Image}
use Rattle.sdb_exec.specs.Plans.{step_of}
use Rattle.sdb_client.specs.Inside.{MayWrite}
use Rattle.sdb_client.proofs.Writable.{may_write}
use Rattle.sdb_client.proofs.finish.finish.Goals as goal

pub write-requires-clause-valid : goal.write-requires-clause-valid
write-requires-clause-valid c =
    let t = c.args.txn.now in
    let p = c.args.plan.now in
    let may : MayWrite t.seen.read_set (step_of p c.args.rows) =
    subst (λ (rows : List Image). MayWrite t.seen.read_set (step_of p rows)) (sym c.requires.rows) (may_write t.seen p c.requires.valid c.mark-mark.ensures.kept c.requires.read) in
    subst (MayWrite t.seen.read_set) c.in-Ok-Finished.field-0-is (subst (MayWrite t.seen.read_set) (sym c.in-Ok-Finished.ensures.step) may)
