use Rattle.std.proofs.Common.{rules, ap, ◌∙◌}
use Rattle.std.specs.Prelude.{filter}
use Rattle.std.proofs.lemmas.Fn.{filter_same}
use Rattle.sdb_model.specs.Exec.{is_row_of}
use Rattle.sdb_exec.proofs.read.rows_of.Goals as goal

pub returns : goal.returns
returns c =
    let p = is_row_of c.args.table.now in
    c.from_vec.ensures ∙ filter_same _ p _ (λ r b f k. search rules) _ _ c.retain.ensures.filtered ∙ ap (filter p) c.into_vec-rows.ensures
