use Rattle.std.proofs.Common.{refl, subst, sym}
use Rattle.sdb_app.specs.Types.{Command}
use Rattle.sdb_app.specs.Ends.{draws, stream, work_of}
use Rattle.sdb_app.specs.Promise.{EndsOnce}
use Rattle.sdb_app.proofs.program.answer_once.Goals as goal

pub returns-then-is_replay-clause-ended : goal.returns-then-is_replay-clause-ended
returns-then-is_replay-clause-ended g c =
    let work = work_of g.S.Registry.state (stream g.R.Source.remaining g.R.Source.faults) c.args.stores.now c.replay_once.new.stores c.args.input.now c.replay_once.new.input in
    let d = draws g.C.Clock.answered g.I.Ids.answered c.args.clock.now c.args.clock.now c.args.ids.now c.args.ids.now in
    let written = stream g.W.Sink.written g.W.Sink.faults in
    subst (λ (x : Command). EndsOnce x work d (written c.args.output.now) (written c.replay_once.new.output) c.replay_once.result) (sym (c.is_replay.ensures.0 c.if-is_replay.true))
    (c.replay_once.ensures.ended d (record { clock = refl; ids = refl }))
