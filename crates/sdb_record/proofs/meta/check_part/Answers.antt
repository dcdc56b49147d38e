use Rattle.std.proofs.Common.{◌∙◌, sym, ap, rules, Some}
use Rattle.std.specs.Option.{option_copied}
use Rattle.sdb_record.specs.Inside.{first_of_part, is_stray_name}
use Rattle.sdb_record.proofs.Within.{stray_column, early_column, fine_columns}
use Rattle.sdb_record.proofs.meta.check_part.Goals as goal

pub returns-in-Some-clause-checked : goal.returns-in-Some-clause-checked
returns-in-Some-clause-checked c =
    stray_column c.args.part c.args.columns.now c.in_ok-meta.meta (search rules) c.text_of.result.now (ap (λ b. first_of_part (is_stray_name b) c.args.part c.args.columns.now) (sym c.forbids_rows.ensures) ∙ sym c.find_stray.ensures ∙ ap option_copied c.in-Some.is ∙ ap Some (sym c.text_of.ensures.text))

pub returns-in-Some-find_early-clause-checked : goal.returns-in-Some-find_early-clause-checked
returns-in-Some-find_early-clause-checked c =
    early_column c.args.part c.args.columns.now c.in_ok-meta.meta (search rules) c.text_of-in-Some-find_early.result.now (ap (λ b. first_of_part (is_stray_name b) c.args.part c.args.columns.now) (sym c.forbids_rows.ensures) ∙ sym c.find_stray.ensures ∙ ap option_copied c.in_default.is) (sym c.find_early.ensures ∙ ap option_copied c.in-Some-find_early.is ∙ ap Some (sym c.text_of-in-Some-find_early.ensures.text))

pub returns-clause-checked : goal.returns-clause-checked
returns-clause-checked c =
    fine_columns c.args.part c.args.columns.now c.in_ok-meta.meta (search rules) (ap (λ b. first_of_part (is_stray_name b) c.args.part c.args.columns.now) (sym c.forbids_rows.ensures) ∙ sym c.find_stray.ensures ∙ ap option_copied c.in_default.is) (sym c.find_early.ensures ∙ ap option_copied c.in_default-find_early.is)
