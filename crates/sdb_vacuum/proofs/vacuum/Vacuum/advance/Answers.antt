use Rattle.sdb_vacuum.proofs.vacuum.Vacuum.advance.Goals as goal

pub returns-in-Scanning-clause-step : goal.returns-in-Scanning-clause-step
returns-in-Scanning-clause-step c = c.scan_took.ensures.step c.args.now

pub returns-in-Removing-clause-step : goal.returns-in-Removing-clause-step
returns-in-Removing-clause-step c = c.removal_took.ensures.step c.args.now
