use Rattle.sdb_sqlite.proofs.Making.{blank_told, found_told}
use Rattle.sdb_sqlite.proofs.kept.Kept.new.Goals as goal

pub returns-in-Ok-clause-blank : goal.returns-in-Ok-clause-blank
returns-in-Ok-clause-blank g c is_known blank =
    let is = blank_told g.S.Store (λ h. g.met.S.Held.answered is_known h.store) c.args.connection c.make_table.new.connection c.in-Ok.ensures blank in
    record { answered = (is_known, is.0); holds = is.1 }

pub returns-in-Ok-clause-found : goal.returns-in-Ok-clause-found
returns-in-Ok-clause-found g c is_known formed =
    let is = found_told g.S.Store (λ h. g.met.S.Held.answered is_known h.store) c.args.connection c.make_table.new.connection c.in-Ok.ensures formed in
    record { answered = (is_known, is.0); holds = is.1 }
