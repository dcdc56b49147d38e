use Rattle.std.proofs.Common.{rules, ◌≡◌, ◌∷◌, length, ap, sym, ◌∙◌}
use Rattle.std.specs.Prelude.{filter}
use Rattle.std.specs.List.{list_all}
use Rattle.sdb_model.specs.Exec.{passes_test}
use Rattle.sdb_exec.specs.Types.{Image}
use Rattle.sdb_exec.proofs.Sieved.{sieved-by-none, sieved-twice}
use Rattle.sdb_exec.proofs.read.+passing_all.Goals as goal

pub returns-in-Some : goal.returns-in-Some
returns-in-Some t c =
    let table = c.args.table.now in
    let test = c.in-Some.test.now in
    let others = c.in-Some.others.now in
    let whole : c.args.tests.now ≡ test ∷ others = search rules in
    c.passing_all.ensures
    ∙ ap (filter (λ (r : Image). list_all (passes_test table r) others)) c.passing_one.ensures
    ∙ sieved-twice (λ (r : Image). passes_test table r test) (λ (r : Image). list_all (passes_test table r) others) c.args.rows
    ∙ ap (λ ts. filter (λ (r : Image). list_all (passes_test table r) ts) c.args.rows) (sym whole)

pub returns-in-None : goal.returns-in-None
returns-in-None t c =
    let none : length c.args.tests.now ≡ 0 = search rules in
    sieved-by-none (passes_test c.args.table.now) c.args.tests.now c.args.rows none
