use Rattle.std.proofs.Common.{rules}
use Rattle.sdb_schema.proofs.TableLaws.{made}
use Rattle.sdb_schema.proofs.table.Table.new.Goals as goal

pub returns-clause-table : goal.returns-clause-table
returns-clause-table c =
    made (record { name = c.args.name; columns = c.in_ok-ordered.field-0; partition = c.args.partition; clustering = c.args.clustering; indexed = c.args.indexed }) c.args.columns c.in_ok-ordered.ensures c.requires (search rules) c.in_ok-check.ensures.ok
