use Rattle.std.proofs.Common.{rules, ◌≡◌, ◌∙◌, ap, subst, sym}
use Rattle.std.specs.Prelude.{IsSome, slice_get}
use Rattle.sdb_phases.specs.Work.{prepares}
use Rattle.sdb_phases.specs.Commit.{after_prepare, pending, step}
use Rattle.sdb_txn.specs.Phases.{CommitAt}
use Rattle.sdb_txn.specs.declared.commit_phases.Phase.TheVariants as phase
use Rattle.sdb_txn.specs.CommitInside.{IsPreparing, IsReady, stage_of, work_of}
use Rattle.sdb_txn.proofs.CommitCalls.{is_preparing, next_ready, step_is, touched_asks}
use Rattle.sdb_txn.proofs.Starts.{checking_starts}
use Rattle.sdb_txn.proofs.commit_phases.CommitPhases.prepare_took.Goals as goal
use Rattle.sdb_txn.proofs.commit_phases.CommitPhases.prepare_took.Goals.{in-More, in-Done, in-Conflict, in-Faulted, in-NoMemory}

pub invariant_of-self : goal.invariant_of-self
invariant_of-self c =
    let s = c.self.inside in
    let at : s.phase ≡ phase.Prepare = is_preparing s (subst (λ (k : CommitAt). IsPreparing k.stage) (sym c.self.view_is) c.requires.at) in
    let ready : IsReady phase.Prepare s = subst (λ p. IsReady p s) at c.self.invariant.ready in
    let some : IsSome (pending (work_of s) (stage_of s.phase s)) = subst (λ (k : CommitAt). IsSome (pending k.work k.stage)) (sym c.self.view_is) c.requires.pending in
    let asked : IsSome (slice_get (prepares (work_of s)) s.prepare.at) = subst (λ p. IsSome (pending (work_of s) (stage_of p s))) at some in
    let next = next_ready s ready c.args.reply c.take-step.new.self asked c.in-More.ensures.step c.take-step.ensures.after in
    record {
      checks_are = c.self.invariant.checks_are;
      id_is = c.self.invariant.id_is;
      moment_is = c.self.invariant.moment_is;
      forwards_are = c.self.invariant.forwards_are;
      backs_are = c.self.invariant.backs_are;
      row_is = c.self.invariant.row_is;
      groups = c.self.invariant.groups;
      ready = subst (λ p. IsReady p (record s { prepare = c.take-step.new.self })) (sym at) (next.0, next.2, ready.2, ready.3, ready.4, ready.5);
    }

pub stop-self-inside-requires-clause-within : goal.stop-self-inside-requires-clause-within
stop-self-inside-requires-clause-within c =
    let s = c.self.inside in
    let at : s.phase ≡ phase.Prepare = is_preparing s (subst (λ (k : CommitAt). IsPreparing k.stage) (sym c.self.view_is) c.requires.at) in
    let some : IsSome (pending (work_of s) (stage_of s.phase s)) = subst (λ (k : CommitAt). IsSome (pending k.work k.stage)) (sym c.self.view_is) c.requires.pending in
    touched_asks s (subst (λ p. IsReady p s) at c.self.invariant.ready) c.args.reply c.touched-touched.result c.self.invariant (subst (λ p. IsSome (pending (work_of s) (stage_of p s))) at some) (c.touched-touched.ensures ∙ ap (λ p. p.touched) c.take-step.ensures.after)

pub stop-self-inside-requires-in-Faulted-clause-within : goal.stop-self-inside-requires-in-Faulted-clause-within
stop-self-inside-requires-in-Faulted-clause-within c =
    let s = c.self.inside in
    let at : s.phase ≡ phase.Prepare = is_preparing s (subst (λ (k : CommitAt). IsPreparing k.stage) (sym c.self.view_is) c.requires.at) in
    let some : IsSome (pending (work_of s) (stage_of s.phase s)) = subst (λ (k : CommitAt). IsSome (pending k.work k.stage)) (sym c.self.view_is) c.requires.pending in
    touched_asks s (subst (λ p. IsReady p s) at c.self.invariant.ready) c.args.reply c.touched-touched.result c.self.invariant (subst (λ p. IsSome (pending (work_of s) (stage_of p s))) at some) (c.touched-touched.ensures ∙ ap (λ p. p.touched) c.take-step.ensures.after)

pub stop-self-inside-requires-in-NoMemory-clause-within : goal.stop-self-inside-requires-in-NoMemory-clause-within
stop-self-inside-requires-in-NoMemory-clause-within c =
    let s = c.self.inside in
    let at : s.phase ≡ phase.Prepare = is_preparing s (subst (λ (k : CommitAt). IsPreparing k.stage) (sym c.self.view_is) c.requires.at) in
    let some : IsSome (pending (work_of s) (stage_of s.phase s)) = subst (λ (k : CommitAt). IsSome (pending k.work k.stage)) (sym c.self.view_is) c.requires.pending in
    touched_asks s (subst (λ p. IsReady p s) at c.self.invariant.ready) c.args.reply c.touched-touched.result c.self.invariant (subst (λ p. IsSome (pending (work_of s) (stage_of p s))) at some) (c.touched-touched.ensures ∙ ap (λ p. p.touched) c.take-step.ensures.after)

pub returns-clause-stage : goal.returns-clause-stage
returns-clause-stage c =
    let s = c.self.inside in
    let at : s.phase ≡ phase.Prepare = is_preparing s (subst (λ (k : CommitAt). IsPreparing k.stage) (sym c.self.view_is) c.requires.at) in
    let ready : IsReady phase.Prepare s = subst (λ p. IsReady p s) at c.self.invariant.ready in
    let some : IsSome (pending (work_of s) (stage_of s.phase s)) = subst (λ (k : CommitAt). IsSome (pending k.work k.stage)) (sym c.self.view_is) c.requires.pending in
    let asked : IsSome (slice_get (prepares (work_of s)) s.prepare.at) = subst (λ p. IsSome (pending (work_of s) (stage_of p s))) at some in
    let view = ap (λ (k : CommitAt). step k.work k.stage c.args.reply) (sym c.self.view_is) ∙ ap (λ p. step (work_of s) (stage_of p s) c.args.reply) at in
    let led = view ∙ step_is s ready c.args.reply c.take-step.result c.touched-touched.result c.take-step.ensures.step (c.touched-touched.ensures ∙ ap (λ p. p.touched) c.take-step.ensures.after) in
    elim c.match-step.branch [
      | in-More w ↦ let next = next_ready s ready c.args.reply c.take-step.new.self asked w.in-More.ensures.step c.take-step.ensures.after in search rules
      | in-Done w ↦
          ap (λ (k : CommitAt). k.stage) w.self-is
          ∙ checking_starts (record s { prepare = c.take-step.new.self; phase = w.checking-self-inside.result }) w.checking-self-inside.result w.checking-self-inside.ensures c.self.invariant.checks_are ready.2 ready.3
          ∙ sym (led ∙ ap (after_prepare (work_of s) s.prepare.at c.touched-touched.result) w.in-Done.is)
      | in-Conflict w ↦ search rules
      | in-Faulted w ↦ search rules
      | in-NoMemory w ↦ search rules
    ]
