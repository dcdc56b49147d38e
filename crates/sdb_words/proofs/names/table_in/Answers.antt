use Rattle.std.proofs.Common.{◌≡◌, ◌&&◌, true, sym, rules}
use Rattle.sdb_types.proofs.Public.{and_first, and_second}
use Rattle.sdb_record.specs.Parts.{is_column_name}
use Rattle.sdb_words.proofs.Joined.{joined, undotted, unnamed}
use Rattle.sdb_words.proofs.names.table_in.Goals as goal

pub returns-in_default-clause-usage : goal.returns-in_default-clause-usage
returns-in_default-clause-usage c = λ _. undotted c.args.word.now (sym c.in_default.ensures)

pub returns-then-not-are_names-clause-usage : goal.returns-then-not-are_names-clause-usage
returns-then-not-are_names-clause-usage c =
    λ _. unnamed c.args.word.now (c.in-Some.ns.now, c.in-Some.table.now) (sym c.in-Some.ensures) (sym c.if-not-are_names.ensures)

pub returns-clause-ok : goal.returns-clause-ok
returns-clause-ok c =
    let ns = c.in-Some.ns.now in
    let table = c.in-Some.table.now in
    let named : (is_column_name ns && is_column_name table) ≡ true = search rules in
    let first : c.in_ok-known_name.field-0 ≡ ns = c.in_ok-known_name.ensures in
    let second : c.in_ok-known_name-2.field-0 ≡ table = c.in_ok-known_name-2.ensures in
    rw (first, second) (
      (and_first (is_column_name ns) (is_column_name table) named, and_second (is_column_name ns) (is_column_name table) named),
      joined 46 c.args.word.now (ns, table) (sym c.in-Some.ensures),
    )
