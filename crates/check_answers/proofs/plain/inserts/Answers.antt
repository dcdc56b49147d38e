use Rattle.std.proofs.Common.{◌≡◌, Some, rules}
use Rattle.sdb_model.specs.declared.statement.Statement.TheVariants as statement
use Rattle.sdb_model.specs.Exec.{find_table, key_of}
use Rattle.sdb_types.specs.Order.{same_key}
use Rattle.check_answers.proofs.ReadLaws.{inserts_is}
use Rattle.check_answers.proofs.plain.inserts.Goals as goal

pub returns-in_ok-inserted-in-Some : goal.returns-in_ok-inserted-in-Some
returns-in_ok-inserted-in-Some c =
    let e : c.args.statement.now ≡ Some (statement.Insert c.in-Some-Insert.insert) = search rules in
    let f : find_table c.args.catalog.now c.in-Some-Insert.insert.table ≡ Some c.in-Some.table.now = search rules in
    let g : c.is_same_key.result ≡ same_key (key_of c.in-Some.table.now c.in-Some-Insert.insert) c.args.key.now = search rules in
    inserts_is c.args.catalog.now c.args.statement.now c.args.key.now c.in-Some.table.now c.in-Some-Insert.insert c.is_same_key.result e f g
