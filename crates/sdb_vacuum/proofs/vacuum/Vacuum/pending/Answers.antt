use Rattle.std.proofs.Common.{subst}
use Rattle.sdb_phases.specs.Recover.{recover_request}
use Rattle.sdb_phases.proofs.Public.{copied_formed, recover_formed}
use Rattle.sdb_vacuum.specs.Inside.{IsDoing}
use Rattle.sdb_vacuum.proofs.Formed.{remove_formed, scan_formed}
use Rattle.sdb_vacuum.proofs.vacuum.Vacuum.pending.Goals as goal

pub returns-in-Scanning-clause-formed : goal.returns-in-Scanning-clause-formed
returns-in-Scanning-clause-formed c = scan_formed c.in-Scanning.call (subst IsDoing c.in-Scanning.is c.self.invariant)

pub returns-in-Resolving-clause-formed : goal.returns-in-Resolving-clause-formed
returns-in-Resolving-clause-formed c =
    let r = c.in-Resolving.recover in
    copied_formed c.request.result (recover_request r) c.request.ensures (recover_formed r.rec r.meta r.phase)

pub returns-in-Removing-clause-formed : goal.returns-in-Removing-clause-formed
returns-in-Removing-clause-formed c = remove_formed c.in-Removing.field-0 c.in-Removing.call (subst IsDoing c.in-Removing.is c.self.invariant)
