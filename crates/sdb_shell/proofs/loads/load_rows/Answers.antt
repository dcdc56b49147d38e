use Rattle.std.proofs.Common.{◌≡◌, inl, inr, refl, rules, subst}
use Rattle.sdb_shell.specs.Ends.{ends}
use Rattle.sdb_shell.specs.Loads.{IsLoadOutOfMemory}
use Rattle.sdb_shell.specs.Statements.{load_of, rows_after}
use Rattle.sdb_shell.proofs.LoadSteps.{starved_after}
use Rattle.sdb_shell.proofs.Points.{all_errs}
use Rattle.sdb_shell.proofs.loads.load_rows.Goals as goal

pub returns-in_err-load-clause-out_of_memory : goal.returns-in_err-load-clause-out_of_memory
returns-in_err-load-clause-out_of_memory g c = all_errs _ c.from_residual.result (inl (record { stores = refl; clock = refl; ids = refl }))

pub returns-clause-out_of_memory : goal.returns-clause-out_of_memory
returns-clause-out_of_memory g c =
    let e = ends g.S.Registry.state g.C.Clock.answered g.I.Ids.answered c.args.stores.now c.load_groups.new.stores c.args.clock.now c.load_groups.new.clock c.args.ids.now c.load_groups.new.ids in
    let load : c.in_ok-load.load ≡ load_of c.args.table.now c.args.mode c.args.rows.now = search rules in
    let rows : c.rows_after.result.now ≡ rows_after c.args.rows.now = search rules in
    all_errs _ c.new.result
    (inr (subst (λ l. IsLoadOutOfMemory c.args.catalog.now l (rows_after c.args.rows.now) c.args.group e) load (subst (λ xs. IsLoadOutOfMemory c.args.catalog.now c.in_ok-load.load xs c.args.group e) rows
    (starved_after _ _ _ _ _ _ c.in_ok-lines.ensures.loaded c.load_groups.ensures.goes))))
