use Rattle.std.proofs.Common.{subst, Option}
use Rattle.std.specs.Prelude.{IfSome}
use Rattle.sdb_catalog.specs.declared.entry.Entry.{Entry}
use Rattle.sdb_catalog.specs.Opened.{IsEntry}
use Rattle.sdb_catalog.proofs.Reading.{kept_rises}
use Rattle.sdb_catalog.proofs.read.entry_of.Goals as goal

pub is_row_of-requires : goal.is_row_of-requires
is_row_of-requires c =
    let entry = subst (λ (o : Option Entry). IfSome o (λ e. IsEntry c.args.names.now e)) c.in-Some.is c.in_ok-entry.ensures.entry in kept_rises c.in-Some.entry.table entry.table
