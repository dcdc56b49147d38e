use Rattle.std.proofs.Common.{IfErr, IfOk, List, length, refl, subst, sym}
use Rattle.std.specs.Prelude.{nat_le}
use Rattle.sdb_types.specs.Identifier.{is_identifier}
use Rattle.sdb_types.proofs.Public.{and_first}
use Rattle.sdb_app.specs.Types.{Command, Place}
use Rattle.sdb_app.specs.Schema.{IsSchemaKept, StopsSchema}
use Rattle.sdb_app.specs.Ends.{draws, stream, work_of, work_on}
use Rattle.sdb_app.specs.Ends.AreKeptOr.{Kept}
use Rattle.sdb_app.specs.Promise.{AnswersOnce, promise_of}
use Rattle.sdb_stores.specs.Views.{names_of}
use Rattle.sdb_app.proofs.Keeping.{kept_by}
use Rattle.sdb_app.proofs.Following.{err_then}
use Rattle.sdb_shell.proofs.Public.{map_ok}
use Rattle.sdb_app.proofs.program.answer.Goals as goal

pub returns-in-Bench-clause-answered : goal.returns-in-Bench-clause-answered
returns-in-Bench-clause-answered g c =
    let work = work_of g.S.Registry.state (stream g.R.Source.remaining g.R.Source.faults) c.args.stores.now c.bench.new.stores c.args.input.now c.args.input.now in
    let d = draws g.C.Clock.answered g.I.Ids.answered c.args.clock.now c.args.clock.now c.args.ids.now c.args.ids.now in
    subst (λ (x : Command). IfOk c.bench.result (λ text. (promise_of x work d).answers text)) (sym c.in-Bench.is)
    (map_ok _ _ c.bench.result (λ text h. (record { benched = h; unread = refl }, record { clock = refl; ids = refl })) c.bench.ensures.answered)

pub returns-in-Bench-clause-err : goal.returns-in-Bench-clause-err
returns-in-Bench-clause-err g c =
    let work = work_of g.S.Registry.state (stream g.R.Source.remaining g.R.Source.faults) c.args.stores.now c.bench.new.stores c.args.input.now c.args.input.now in
    let d = draws g.C.Clock.answered g.I.Ids.answered c.args.clock.now c.args.clock.now c.args.ids.now c.args.ids.now in
    subst (λ (x : Command). IfErr c.bench.result (promise_of x work d).stops) (sym c.in-Bench.is)
    (err_then _ _ c.bench.result (λ s h. (record { cause = h; unread = refl }, record { clock = refl; ids = refl })) c.bench.ensures.err)

pub returns-in-Schema-clause-answered : goal.returns-in-Schema-clause-answered
returns-in-Schema-clause-answered g c =
    let work = work_of g.S.Registry.state (stream g.R.Source.remaining g.R.Source.faults) c.args.stores.now c.schema.new.stores c.args.input.now c.schema.new.input in
    let d = draws g.C.Clock.answered g.I.Ids.answered c.args.clock.now c.args.clock.now c.args.ids.now c.args.ids.now in
    subst (λ (x : Command). IfOk c.schema.result (λ text. (promise_of x work d).answers text)) (sym c.in-Schema.is)
    (map_ok _ _ c.schema.result (λ text h. (h, record { clock = refl; ids = refl }))
    (subst (λ (ps : List Place). IfOk c.schema.result (λ text. IsSchemaKept ps work text)) c.as_slice.ensures c.schema.ensures.answered))

pub returns-in-Schema-clause-err : goal.returns-in-Schema-clause-err
returns-in-Schema-clause-err g c =
    let work = work_of g.S.Registry.state (stream g.R.Source.remaining g.R.Source.faults) c.args.stores.now c.schema.new.stores c.args.input.now c.schema.new.input in
    let d = draws g.C.Clock.answered g.I.Ids.answered c.args.clock.now c.args.clock.now c.args.ids.now c.args.ids.now in
    subst (λ (x : Command). IfErr c.schema.result (promise_of x work d).stops) (sym c.in-Schema.is)
    (err_then _ _ c.schema.result (λ s h. (h, record { clock = refl; ids = refl }))
    (subst (λ (ps : List Place). IfErr c.schema.result (StopsSchema ps work)) c.as_slice.ensures c.schema.ensures.err))

pub returns-in-Load-clause-answered : goal.returns-in-Load-clause-answered
returns-in-Load-clause-answered g c =
    let work = work_of g.S.Registry.state (stream g.R.Source.remaining g.R.Source.faults) c.args.stores.now c.load.new.stores c.args.input.now c.load.new.input in
    let d = draws g.C.Clock.answered g.I.Ids.answered c.args.clock.now c.load.new.clock c.args.ids.now c.load.new.ids in
    subst (λ (x : Command). IfOk c.load.result (λ text. (promise_of x work d).answers text)) (sym c.in-Load.is) c.load.ensures.answered

pub returns-in-Load-clause-err : goal.returns-in-Load-clause-err
returns-in-Load-clause-err g c =
    let work = work_of g.S.Registry.state (stream g.R.Source.remaining g.R.Source.faults) c.args.stores.now c.load.new.stores c.args.input.now c.load.new.input in
    let d = draws g.C.Clock.answered g.I.Ids.answered c.args.clock.now c.load.new.clock c.args.ids.now c.load.new.ids in
    subst (λ (x : Command). IfErr c.load.result (promise_of x work d).stops) (sym c.in-Load.is) c.load.ensures.err

pub returns-in-Export-clause-answered : goal.returns-in-Export-clause-answered
returns-in-Export-clause-answered g c =
    let input = stream g.R.Source.remaining g.R.Source.faults c.args.input.now in
    let work = work_on (g.S.Registry.state c.args.stores.now) (g.S.Registry.state c.export.new.stores) input in
    let d = draws g.C.Clock.answered g.I.Ids.answered c.args.clock.now c.export.new.clock c.args.ids.now c.export.new.ids in
    subst (λ (x : Command). IfOk c.export.result (λ text. (promise_of x work d).answers text)) (sym c.in-Export.is) (map_ok _ _ c.export.result (λ text h. h input) c.export.ensures.answered)

pub returns-in-Export-clause-err : goal.returns-in-Export-clause-err
returns-in-Export-clause-err g c =
    let input = stream g.R.Source.remaining g.R.Source.faults c.args.input.now in
    let work = work_on (g.S.Registry.state c.args.stores.now) (g.S.Registry.state c.export.new.stores) input in
    let d = draws g.C.Clock.answered g.I.Ids.answered c.args.clock.now c.export.new.clock c.args.ids.now c.export.new.ids in
    subst (λ (x : Command). IfErr c.export.result (promise_of x work d).stops) (sym c.in-Export.is) (err_then _ _ c.export.result (λ s h. h input) c.export.ensures.err)

pub returns-in-Retire-clause-answered : goal.returns-in-Retire-clause-answered
returns-in-Retire-clause-answered g c =
    let input = stream g.R.Source.remaining g.R.Source.faults c.args.input.now in
    let work = work_on (g.S.Registry.state c.args.stores.now) (g.S.Registry.state c.retire.new.stores) input in
    let d = draws g.C.Clock.answered g.I.Ids.answered c.args.clock.now c.args.clock.now c.args.ids.now c.args.ids.now in
    subst (λ (x : Command). IfOk c.retire.result (λ text. (promise_of x work d).answers text)) (sym c.in-Retire.is)
    (map_ok _ _ c.retire.result (λ text h. (h input, record { clock = refl; ids = refl })) c.retire.ensures.answered)

pub returns-in-Retire-clause-err : goal.returns-in-Retire-clause-err
returns-in-Retire-clause-err g c =
    let input = stream g.R.Source.remaining g.R.Source.faults c.args.input.now in
    let work = work_on (g.S.Registry.state c.args.stores.now) (g.S.Registry.state c.retire.new.stores) input in
    let d = draws g.C.Clock.answered g.I.Ids.answered c.args.clock.now c.args.clock.now c.args.ids.now c.args.ids.now in
    subst (λ (x : Command). IfErr c.retire.result (promise_of x work d).stops) (sym c.in-Retire.is)
    (err_then _ _ c.retire.result (λ s h. (h input, record { clock = refl; ids = refl })) c.retire.ensures.err)

pub returns-in-Alter-clause-answered : goal.returns-in-Alter-clause-answered
returns-in-Alter-clause-answered g c =
    let input = stream g.R.Source.remaining g.R.Source.faults c.args.input.now in
    let work = work_on (g.S.Registry.state c.args.stores.now) (g.S.Registry.state c.alter.new.stores) input in
    let d = draws g.C.Clock.answered g.I.Ids.answered c.args.clock.now c.args.clock.now c.args.ids.now c.args.ids.now in
    subst (λ (x : Command). IfOk c.alter.result (λ text. (promise_of x work d).answers text)) (sym c.in-Alter.is)
    (map_ok _ _ c.alter.result (λ text h. (h input, record { clock = refl; ids = refl })) c.alter.ensures.answered)

pub returns-in-Alter-clause-err : goal.returns-in-Alter-clause-err
returns-in-Alter-clause-err g c =
    let input = stream g.R.Source.remaining g.R.Source.faults c.args.input.now in
    let work = work_on (g.S.Registry.state c.args.stores.now) (g.S.Registry.state c.alter.new.stores) input in
    let d = draws g.C.Clock.answered g.I.Ids.answered c.args.clock.now c.args.clock.now c.args.ids.now c.args.ids.now in
    subst (λ (x : Command). IfErr c.alter.result (promise_of x work d).stops) (sym c.in-Alter.is)
    (err_then _ _ c.alter.result (λ s h. (h input, record { clock = refl; ids = refl })) c.alter.ensures.err)

---- which stores stay

pub returns-in-Bench-clause-kept : goal.returns-in-Bench-clause-kept
returns-in-Bench-clause-kept g c = Kept c.bench.ensures.kept

pub returns-in-Schema-clause-kept : goal.returns-in-Schema-clause-kept
returns-in-Schema-clause-kept g c = Kept c.schema.ensures.kept

pub returns-in-Load-clause-kept : goal.returns-in-Load-clause-kept
returns-in-Load-clause-kept g c = Kept c.load.ensures.kept

pub returns-in-Export-clause-kept : goal.returns-in-Export-clause-kept
returns-in-Export-clause-kept g c = Kept c.export.ensures.kept

pub returns-in-Retire-clause-kept : goal.returns-in-Retire-clause-kept
returns-in-Retire-clause-kept g c = kept_by c.args.command.now _ _ _ _ c.in-Retire.is c.retire.ensures.kept

pub returns-in-Alter-clause-kept : goal.returns-in-Alter-clause-kept
returns-in-Alter-clause-kept g c = Kept c.alter.ensures.kept

---- what the calls require

pub alter-requires-clause-short : goal.alter-requires-clause-short
alter-requires-clause-short g c =
    and_first (nat_le (length c.in-Alter.name) 64) (is_identifier c.in-Alter.name) (subst (λ (x : Command). AnswersOnce (names_of (g.S.Registry.state c.args.stores.now).views) x) c.in-Alter.is c.requires.once)

pub retire-requires : goal.retire-requires
retire-requires g c = record { may = subst (λ (x : Command). AnswersOnce (names_of (g.S.Registry.state c.args.stores.now).views) x) c.in-Retire.is c.requires.once }
