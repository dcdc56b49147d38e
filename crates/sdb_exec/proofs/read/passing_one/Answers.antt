use Rattle.std.proofs.Common.{rules, ap, ◌∙◌}
use Rattle.std.specs.Prelude.{filter}
use Rattle.std.proofs.lemmas.Fn.{filter_same}
use Rattle.sdb_model.specs.Exec.{passes_test}
use Rattle.sdb_exec.specs.Types.{Image}
use Rattle.sdb_exec.proofs.read.passing_one.Goals as goal

pub returns : goal.returns
returns c =
    let p = λ (r : Image). passes_test c.args.table.now r c.args.test.now in
    c.from_vec.ensures ∙ filter_same _ p _ (λ r b f k. search rules) _ _ c.retain.ensures.filtered ∙ ap (filter p) c.into_vec-rows.ensures
