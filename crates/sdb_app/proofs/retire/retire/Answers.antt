use Rattle.std.proofs.Common.{refl}
use Rattle.sdb_app.specs.Retire.{moved_text}
use Rattle.sdb_app.specs.Retire.StopsRetire.{Unanswered, Unretired}
use Rattle.sdb_app.proofs.Keeping.{kept_retired}
use Rattle.sdb_app.proofs.Following.{err_then}
use Rattle.sdb_app.proofs.Retiring.{retired_on, unretired_on}
use Rattle.sdb_app.proofs.retire.retire.Goals as goal

---- retired

pub returns-in-Ok-clause-err : goal.returns-in-Ok-clause-err
returns-in-Ok-clause-err g c =
    let old = g.S.Registry.state c.args.stores.now in
    let new = g.S.Registry.state c.retire.new.stores in
    err_then _ _ c.text_of.result
    (λ s is input. Unanswered (moved_text c.in-Ok.count) (retired_on (record { from = c.args.from.now; to = c.args.to.now }) c.in-Ok.count old new input (moved_text c.in-Ok.count) c.in-Ok.ensures.retired c.in-Ok.ensures.opens refl) is) c.text_of.ensures.err

pub returns-in-Ok-clause-kept : goal.returns-in-Ok-clause-kept
returns-in-Ok-clause-kept g c = kept_retired (record { from = c.args.from.now; to = c.args.to.now }) c.in-Ok.count _ _ c.in-Ok.ensures.retired

---- not retired

pub returns-in-Err-clause-err : goal.returns-in-Err-clause-err
returns-in-Err-clause-err g c =
    let old = g.S.Registry.state c.args.stores.now in
    let new = g.S.Registry.state c.retire.new.stores in
    let why = c.in-Err.ensures in
    λ input. Unretired c.in-Err.refused (unretired_on (record { from = c.args.from.now; to = c.args.to.now }) old new input c.in-Err.refused why.err why.known why.left why.others why.kept why.goes) c.retire_status.ensures
