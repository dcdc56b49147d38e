use Rattle.std.proofs.Common.{◌≡◌, ◌∙◌, List, ℕ, map, subst, sym, cond, IfErr, Some, None}
use Rattle.std.specs.List.{list_all}
use Rattle.std.specs.Str.{is_utf8}
use Rattle.csv.specs.Records.{fields_of}
use Rattle.sdb_data.specs.Tables.{IsFirstFault, fault_behind}
use Rattle.sdb_data.proofs.Lists.{texted}
use Rattle.sdb_data.proofs.read.rows_of.Goals as goal

pub returns-clause-fault : goal.returns-clause-fault
returns-clause-fault c =
    let read : Some c.in-Some.names ≡ cond (list_all is_utf8 (fields_of c.args.header.now)) (Some (fields_of c.args.header.now)) None = sym c.in-Some.is ∙ c.in_ok-names.ensures in
    let p = texted c.in-Some.names (fields_of c.args.header.now) read in
    rw p.1 (subst (λ (ns : List (List ℕ)). IfErr c.rows_named.result (IsFirstFault (fault_behind c.args.table.now c.args.mode ns (map fields_of c.args.records.now)))) (c.as_slice.ensures ∙ p.0) c.rows_named.ensures.fault)
