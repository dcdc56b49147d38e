use Rattle.std.proofs.Common.{◌∙◌, sym}
use Rattle.std.proofs.lemmas.Slice.Eq.{bytes_eq-Decides}
use Rattle.sdb_catalog.proofs.Reading.{own_text, own_read, no_table, kept_found, read_found, not_same}
use Rattle.sdb_catalog.proofs.read.table_in.Goals as goal

pub returns-then-eq-clause-read : goal.returns-then-eq-clause-read
returns-then-eq-clause-read c =
    own_read c.in_ok-coordinators.field-0 c.args.name.now c.args.definition.now c.in_ok-coordinators.ensures ((bytes_eq-Decides c.args.name.now own_text).0 (sym c.if-eq.ensures))

pub returns-in_default-clause-read : goal.returns-in_default-clause-read
returns-in_default-clause-read c =
    no_table c.args.name.now c.args.definition.now (not_same c.args.name.now c.if-eq.ensures) (sym c.in_ok-name.ensures ∙ c.in_default.is)

pub returns-clause-kept : goal.returns-clause-kept
returns-clause-kept c =
    kept_found c.table_found.result c.table_of.result c.in-Some.name c.args.name.now (sym c.in_ok-name.ensures ∙ c.in-Some.is) c.table_of.ensures.table c.table_of.ensures.named c.table_found.ensures.found

pub returns-clause-read : goal.returns-clause-read
returns-clause-read c =
    read_found c.table_found.result c.table_of.result c.in-Some.name c.args.name.now c.args.definition.now (not_same c.args.name.now c.if-eq.ensures) (sym c.in_ok-name.ensures ∙ c.in-Some.is) c.table_of.ensures.ok c.table_of.ensures.fault c.table_found.ensures.found c.table_found.ensures.memory
