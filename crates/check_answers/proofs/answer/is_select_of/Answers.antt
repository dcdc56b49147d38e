use Rattle.std.proofs.Common.{◌≡◌, Some, sym, ap, ◌∙◌, rules}
use Rattle.std.specs.Prelude.{false, map}
use Rattle.std.specs.List.{list_all, list_any}
use Rattle.std.specs.Option.{option_map_or}
use Rattle.sdb_model.specs.Exec.{find_table}
use Rattle.sdb_model.specs.Rows.{value_of}
use Rattle.check_answers.proofs.Decided.{if_ok}
use Rattle.check_answers.specs.Rows.{rows_are_of, same_values}
use Rattle.check_answers.proofs.answer.is_select_of.Goals as goal

pub returns-in_ok-names-in-Some : goal.returns-in_ok-names-in-Some
returns-in_ok-names-in-Some c =
    let t = c.in-Some.table.now in
    let found : find_table c.args.catalog.now c.args.select.now.table ≡ Some t = search rules in
    if_ok c.are_projected.result (λ b h.
    h
    ∙ ap (λ names. list_all (λ row. list_any (λ image. same_values (map (value_of t image) names) row) c.args.images.now) c.args.rows.now) (c.as_slice.ensures ∙ c.in_ok-names-in-Some.ensures)
    ∙ sym (ap (λ o. option_map_or (λ u. rows_are_of u c.args.select.now.columns c.args.rows.now c.args.images.now) o false) found)
    ) c.are_projected.ensures
