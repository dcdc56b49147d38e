use Rattle.std.proofs.Common.{List, ℕ, refl, subst, sym}
use Rattle.sdb_stores.specs.Views.{names_of}
use Rattle.sdb_catalog.specs.Altered.{MayBeGrown}
use Rattle.sdb_catalog.specs.Calls.{first_contents}
use Rattle.sdb_catalog.specs.declared.refused.AlterRefused.TheVariants as refused
use Rattle.sdb_shell.proofs.Public.{map_ok}
use Rattle.sdb_app.specs.Types.{Column}
use Rattle.sdb_app.specs.Alter.{IsColumnAnswered}
use Rattle.sdb_app.specs.Ends.{work_on}
use Rattle.sdb_app.proofs.Alters.{answered_or_not}
use Rattle.sdb_app.proofs.Following.{err_then}
use Rattle.sdb_app.proofs.alter.alter.Goals as goal

pub returns-in-Ok-alter_table-clause-answered : goal.returns-in-Ok-alter_table-clause-answered
returns-in-Ok-alter_table-clause-answered g c =
    map_ok _ _ c.text_of.result
    (λ text is input.
    let work = work_on (g.S.Registry.state c.args.stores.now) (g.S.Registry.state c.alter_table.new.stores) input in
    subst (λ (answer : List ℕ). IsColumnAnswered c.args.table.now (record { name = c.args.name.now; kind = c.args.kind }) work answer) (sym is)
    (subst (λ (x : Column). IsColumnAnswered c.args.table.now x work c.in-Ok-alter_table.answer) c.in-Ok.ensures
    (record { altered = c.in-Ok-alter_table.ensures.altered; known = c.in-Ok-alter_table.ensures.known; others = c.in-Ok-alter_table.ensures.goes.others; unread = refl })))
    c.text_of.ensures.ok

pub returns-in-Ok-alter_table-clause-err : goal.returns-in-Ok-alter_table-clause-err
returns-in-Ok-alter_table-clause-err g c =
    let old = g.S.Registry.state c.args.stores.now in
    let new = g.S.Registry.state c.alter_table.new.stores in
    err_then _ _ c.text_of.result
    (λ s is input. record {
      cause = refused.NoMemory;
      unanswered = record {
        refused = tt;
        known = λ t. subst (λ (x : Column). MayBeGrown (names_of old.views) c.args.table.now x (first_contents old.views) (first_contents new.views)) c.in-Ok.ensures (answered_or_not _ _ _ _ _ _ (c.in-Ok-alter_table.ensures.known t));
        others = c.in-Ok-alter_table.ensures.goes.others;
        unread = refl;
      };
      ends = is;
    }) c.text_of.ensures.err
