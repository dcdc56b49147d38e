use Rattle.std.proofs.Common.{List, ap, sym, ◌∙◌}
use Rattle.std.specs.Prelude.{false}
use Rattle.std.specs.Option.{option_map_or}
use Rattle.sdb_model.specs.Catalogs.{catalog_after}
use Rattle.sdb_model.specs.Transactions.{id_of, statements_by}
use Rattle.sdb_contents.specs.Commits.{executed_of}
use Rattle.check_answers.specs.Types.{Table}
use Rattle.check_answers.specs.Tests.{any_upto, misfit_of, reads_at}
use Rattle.check_answers.proofs.Decided.{count_said, if_ok}
use Rattle.check_answers.proofs.MisfitLaws.{misfit, no_misfit}
use Rattle.check_answers.proofs.misfit.meets_misfit.Goals as goal

pub returns-then-reads : goal.returns-then-reads
returns-then-reads c =
    let catalog = c.args.catalog.now in
    let events = c.args.events.now in
    let client = c.args.client in
    let key = c.args.key.now in
    let s = executed_of c.args.executed.now in
    let o = c.in_ok-statement.statement in
    let count = c.len-count.result in
    let same = c.in_ok-then.ensures ∙ ap (catalog_after catalog) c.before-2.ensures in
    let reads = ap (λ (ts : List Table). option_map_or (reads_at ts key) o false) (sym same) ∙ sym c.in_ok-reads.ensures ∙ c.if-reads.true in
    let counted = c.len-count.ensures ∙ count_said c.in_ok-all.all (statements_by client events) c.in_ok-all.ensures in
    if_ok c.any_misfit_of.result
    (λ b h. misfit catalog events client s o c.in_ok-statement.ensures key reads b count counted (h ∙ ap (λ (ts : List Table). any_upto (λ k. misfit_of ts events client s key (id_of client k)) count) same))
    c.any_misfit_of.ensures

pub returns : goal.returns
returns c =
    let catalog = c.args.catalog.now in
    let key = c.args.key.now in
    let o = c.in_ok-statement.statement in
    let same = c.in_ok-then.ensures ∙ ap (catalog_after catalog) c.before-2.ensures in
    let reads = ap (λ (ts : List Table). option_map_or (reads_at ts key) o false) (sym same) ∙ sym c.in_ok-reads.ensures ∙ c.if-reads.false in
    no_misfit catalog c.args.events.now c.args.client (executed_of c.args.executed.now) o c.in_ok-statement.ensures key reads
