use Rattle.sdb_types.specs.declared.record.Request.TheVariants.{Scan}
use Rattle.sdb_shards.proofs.Risen.{call_grown, call_stopped, listing}
use Rattle.sdb_shards.proofs.Routes.{rows_scanned, scan_keeps}
use Rattle.sdb_shards.proofs.moves.rows_at.Goals as goal

pub returns-clause-rows : goal.returns-clause-rows
returns-clause-rows c = rows_scanned c.args.at c.args.span.now c.scan.result c.args.boxes.now c.scan.new.self c.rows_of.result c.requires c.scan.ensures c.rows_of.ensures.ok

pub returns-clause-held : goal.returns-clause-held
returns-clause-held c = scan_keeps c.args.at c.args.span.now c.scan.result c.args.boxes.now c.scan.new.self c.requires c.scan.ensures

pub returns-clause-grown : goal.returns-clause-grown
returns-clause-grown c = call_grown c.args.at (Scan c.args.span.now) c.scan.result c.args.boxes.now c.scan.new.self c.scan.ensures c.requires

pub returns-clause-err : goal.returns-clause-err
returns-clause-err c = call_stopped c.args.at (Scan c.args.span.now) c.scan.result c.args.boxes.now c.scan.new.self c.scan.ensures c.requires c.rows_of.result c.rows_of.ensures.err

pub rows_of-requires : goal.rows_of-requires
rows_of-requires c = listing c.args.span.now c.scan.result c.scan.ensures.lawful
