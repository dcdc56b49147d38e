-- Whatever call a client that is alone has pending, and whatever its reply: its statement waits for another, or is answered.
use Rattle.std.proofs.Common.{◌≡◌, ℤ, Bool, true, false, List, Option, Some, None, Ok, ◌⊎◌, inl, inr, refl, sym, ap, subst, ◌∙◌, length}
use Rattle.std.specs.Prelude.{◌+◌, nat_lt, slice_get, if◌then◌else◌}
use Rattle.std.specs.FinMap.{get}
use Rattle.law_clients.specs.SessionTurns.{RepliedAlone}
use Rattle.law_clients.specs.Types.{Access, Answer, Doing, Key, Next, Outcome, Pair, Record, Reply, Request, Statement, Table, TxId, VacuumStep, ValidateStep}
use Rattle.sdb_types.proofs.Public.{none_some, some_is}
use Rattle.sdb_record.specs.Meta.{is_moment}
use Rattle.sdb_model.specs.declared.answer.Answer.TheVariants as answer
use Rattle.sdb_model.specs.declared.statement.Statement.TheVariants as statement
use Rattle.sdb_model.specs.Exec.{Tables}
use Rattle.sdb_exec.specs.Plans.{Planned}
use Rattle.sdb_phases.specs.declared.step.Outcome.TheVariants as outcome
use Rattle.sdb_phases.specs.declared.step.ValidateStep.TheVariants as validate
use Rattle.sdb_phases.specs.Checks.{checks}
use Rattle.sdb_phases.specs.Steps.{validate_step}
use Rattle.sdb_phases.specs.Work.{Work}
use Rattle.sdb_phases.specs.Commit.{Stage, Preparing, Checking, Deciding, Forward, Stopping, Back, Over, after_check, step as commit_step}
use Rattle.sdb_txn.specs.Phases.{CommitAt, IsNext, ended_at}
use Rattle.sdb_validate.specs.Inside.{Judges}
use Rattle.sdb_txn.specs.Read.{ReadAt, read_pending_at, request_of}
use Rattle.sdb_snapshot.specs.Rows.{with_own}
use Rattle.sdb_snapshot.specs.Seen.{Seen}
use Rattle.sdb_txn.specs.declared.txn.Doing.TheVariants as doing
use Rattle.sdb_txn.specs.Txn.{TxnAt, IsCommitting, pending_in, progress_of}
use Rattle.law_clients.specs.Reads.{work_of}
use Rattle.sdb_vacuum.specs.declared.work.VacuumStep.TheVariants as vacuuming
use Rattle.sdb_vacuum.specs.Vacuum.{Gives, VacuumAt, vacuum_step}
use Rattle.sdb_client.specs.declared.next.Next.TheVariants as next
use Rattle.sdb_client.specs.Client.{CallPost, ClientAt, CommitNext, NextPost, OpenTxnPost, ReplyPost, VacuumPost, TxnPost, after, answer_in, answer_of, client_pending, next_of, pending_by, pending_of, vacuum_left}
use Rattle.law_clients.specs.Fitting.{row_is_well_typed, tables_are_well_typed}
use Rattle.law_clients.proofs.RowsFit.{fits_there}
use Rattle.law_clients.specs.Database.{Called, Database, is_listed, row_in}
use Rattle.law_clients.specs.OnlyResolves.{IsApart, OnlyResolves, IsSound}
use Rattle.law_clients.specs.Commits.{CommitAlone, IsDone, IsGivenUp}
use Rattle.law_clients.specs.SessionReads.{ReadAlone}
use Rattle.law_clients.specs.Seen.{AreImagesOf}
use Rattle.law_clients.specs.SessionVacuums.{Quiet, VacuumAlone, VacuumLeadsTo}
use Rattle.law_clients.specs.Tombstones.{HasVacuumed}
use Rattle.law_clients.specs.Clients.{AnsweredAlone, IsAskedFor, LedAlone, OpenAlone}
use Rattle.law_clients.specs.Later.{Later}
use Rattle.law_clients.specs.Session.{rejected}
use Rattle.law_clients.specs.Between.{Answered, Between, LeadsTo, CommitEnds, Commits, Ended, Lost, More, Reads, OpenTransaction, InVacuum, Vacuumed, Answers, IsTxnOf, VacuumedBy, Waits, Won}
use Rattle.law_clients.proofs.Commits.{commits}
use Rattle.law_clients.proofs.SessionEnds.{done_later, given_up_later}
use Rattle.law_clients.proofs.Leaves.{done_images, done_written, given_up_images, given_up_same}
use Rattle.law_clients.proofs.SessionReading.{reads}
use Rattle.law_clients.proofs.Resolves.{row_stays, settles_trans, sound_stays}
use Rattle.law_clients.proofs.SessionStatements.{agrees_all, read_answered}
use Rattle.law_clients.proofs.SessionVacuums.{quiet_trans, vacuums}

---- a COMMIT's next stage

-- a check never conflicts
next_alone : (catalog : List Table) (start : Database) (p : Work) (h : Database) (s : Stage) (r : Reply) (m : Stage) → CommitAlone catalog start p h (commit_step p s r) → IsNext p s r m → CommitAlone catalog start p h m
next_alone catalog start p h (Preparing i) r m alone is = subst (CommitAlone catalog start p h) (sym is) alone
next_alone catalog start p h (Checking i) r m alone is = subst (CommitAlone catalog start p h) (sym is.2) (by (validate_step (nat_lt (i + 1) (length (checks p))) (slice_get (checks p) i) r) is.0 is.1 alone)
  where
    G : ValidateStep → Type 0
    G v = CommitAlone catalog start p h (after_check p i v)

    by : (want v : ValidateStep) → Judges want v → G want → G v
    by (validate.Conflict key found) validate.NoMemory j a = absurd a.stage.2
    by validate.NoMemory validate.NoMemory j a = a
    by validate.More validate.NoMemory j a = absurd (cc)
    by validate.Valid validate.NoMemory j a = absurd (cc)
    by validate.Faulted validate.NoMemory j a = absurd (cc)
    by want validate.More j a = subst G (sym j) a
    by want validate.Valid j a = subst G (sym j) a
    by want (validate.Conflict key found) j a = subst G (sym j) a
    by want validate.Faulted j a = subst G (sym j) a
next_alone catalog start p h (Deciding d) r m alone is = subst (CommitAlone catalog start p h) (sym is) alone
next_alone catalog start p h (Forward i) r m alone is = subst (CommitAlone catalog start p h) (sym is) alone
next_alone catalog start p h (Stopping a n) r m alone is = subst (CommitAlone catalog start p h) (sym is) alone
next_alone catalog start p h (Back a n i) r m alone is = subst (CommitAlone catalog start p h) (sym is) alone
next_alone catalog start p h (Over a) r m alone is = subst (CommitAlone catalog start p h) (sym is) alone

ended_is : (s : Stage) (a : Outcome) → ended_at s ≡ Some a → s ≡ Over a
ended_is (Preparing i) a e = none_some a e
ended_is (Checking i) a e = none_some a e
ended_is (Deciding d) a e = none_some a e
ended_is (Forward i) a e = none_some a e
ended_is (Stopping b n) a e = none_some a e
ended_is (Back b n i) a e = none_some a e
ended_is (Over b) a e = ap Over (some_is b a e)

---- what it leaves

-- What a COMMIT that is alone ends with.
pub record Leaves (catalog : List Table) (was g : Database) (id : TxId) (now : ℤ) (s : Seen) (z : Answer) : Type 0 where
  later : Later catalog (Some (record { id = id; at = now })) was g
  ends : CommitEnds catalog was g id now s z

module _ (catalog : List Table) (apart : IsApart catalog) (was g : Database) (sound : IsSound catalog was) (own : (k : Key) (x : Record) → g k ≡ Some x → x.key ≡ k) (id : TxId) (now : ℤ) (s : Seen) (d : Tables) (are_images : AreImagesOf catalog was d) (fit : (k : Key) (columns : List Pair) → get (with_own d s.writes) k ≡ Some columns → row_is_well_typed catalog k columns ≡ true) where
  abbrev p : Work
  p = work_of id now s

  won : (z : Answer) → (z ≡ answer.Committed) ⊎ (z ≡ answer.Unknown id) → (a : Outcome) → CommitAlone catalog was p g (Over a) → IsDone p g → Leaves catalog was g id now s z
  won z replied a alone done = record {
    later = done_later catalog apart was sound p alone.work g alone.others own done d are_images fit;
    ends = Won replied done.0 (λ e same_rows. done_images catalog apart was sound p alone.work g alone.others e same_rows done) (done_written catalog apart was sound p alone.work g alone.others done);
  }

  lost : (z : Answer) → (z ≡ answer.Faulted) ⊎ ((z ≡ answer.NoMemory) ⊎ (z ≡ answer.Unknown id)) → (a : Outcome) → CommitAlone catalog was p g (Over a) → IsGivenUp p g → Leaves catalog was g id now s z
  lost z replied a alone up = record {
    later = given_up_later catalog apart was sound p alone.work g alone.others own up;
    ends = Lost replied up.0 (λ e same_rows. given_up_images catalog apart was sound p alone.work g alone.others e same_rows up) (given_up_same catalog apart was sound p alone.work g alone.others up);
  }

  -- its answer, by its outcome
  answer_at : (a : Outcome) → CommitAlone catalog was p g (Over a) → (z : Answer) × (next_of (progress_of (Some a)) ≡ next.End z) × Leaves catalog was g id now s z
  answer_at outcome.Committed alone = (answer.Committed, refl, won answer.Committed (inl refl) outcome.Committed alone alone.stage)
  answer_at outcome.Faulted alone = (answer.Faulted, refl, lost answer.Faulted (inl refl) outcome.Faulted alone alone.stage)
  answer_at outcome.NoMemory alone = (answer.NoMemory, refl, lost answer.NoMemory (inr (inl refl)) outcome.NoMemory alone alone.stage)
  answer_at (outcome.Unknown x) alone = (answer.Unknown x, refl, by alone.stage.1)
    where
      by : IsGivenUp p g ⊎ IsDone p g → Leaves catalog was g id now s (answer.Unknown x)
      by (inl up) = lost (answer.Unknown x) (inr (inr (ap answer.Unknown alone.stage.0))) (outcome.Unknown x) alone up
      by (inr done) = won (answer.Unknown x) (inr (ap answer.Unknown alone.stage.0)) (outcome.Unknown x) alone done
  answer_at (outcome.Conflict key found) alone = absurd alone.stage
  answer_at (outcome.Expired x) alone = absurd alone.stage
  answer_at (outcome.BadRecord key) alone = absurd alone.stage

---- a reply

module _ (catalog : List Table) (apart : IsApart catalog) (was : Database) (sound_was : IsSound catalog was) (d_was : Tables) (shows_was : AreImagesOf catalog was d_was) (fit_was : tables_are_well_typed catalog d_was ≡ true) (fresh : TxId) (now : ℤ) (time : is_moment now ≡ true) (st : Statement)
    (g h : Database) (own_g : (k : Key) (x : Record) → g k ≡ Some x → x.key ≡ k) (own : (k : Key) (x : Record) → h k ≡ Some x → x.key ≡ k) (q : Request) (r : Reply) (called : Called q r g h) (o : Option OpenTransaction) (c : ClientAt) (asked : client_pending c ≡ Some q) (result : Option Answer) (e : ClientAt) (took : ReplyPost c c.vacuum r now result e) where
  abbrev Goal : Type 0
  Goal = LeadsTo catalog was fresh now (Ok st) h o result e

  ---- VACUUM

  module _ (v : VacuumAt) (none : o ≡ None) (is : st ≡ statement.Vacuum) (runs : c.vacuum ≡ Some v) (txn : c.txn ≡ None) (plan : c.plan ≡ None) (alone : VacuumAlone catalog was now g v) (quiet : Quiet catalog was g) where
    swept_called : Quiet catalog g h × VacuumLeadsTo catalog was now h (vacuum_step v now r)
    swept_called = vacuums catalog apart now time was g h v.spans v.removed v.stage q r quiet own alone.0 alone.1 (subst (λ (w : Option VacuumAt). pending_by w c.txn ≡ Some q) runs asked) called

    quiet_now : Quiet catalog was h
    quiet_now = quiet_trans catalog was g h quiet swept_called.0

    sweep_answered : VacuumPost v r now result e.vacuum × (e ≡ record c { vacuum = e.vacuum })
    sweep_answered = subst (λ (w : Option VacuumAt). ReplyPost c w r now result e) runs took

    rests : e.vacuum ≡ None → Between catalog h None e
    rests f = record { free = f; plan = ap (λ (x : ClientAt). x.plan) sweep_answered.1 ∙ plan; txn = subst (IsTxnOf catalog h None) (sym (ap (λ (x : ClientAt). x.txn) sweep_answered.1 ∙ txn)) tt }

    over : (z : Answer) → result ≡ Some z → VacuumedBy catalog was h now z → e.vacuum ≡ None → Goal
    over z replied all f = Answers z replied (Vacuumed (ap Ok is) none quiet_now all (rests f))

    by_step : (s : VacuumStep) → sweep_answered.0.step ≡ s → Goal
    by_step vacuuming.More f = More st refl (sweep_answered.0.answer ∙ ap answer_of f)
        (InVacuum sweep_answered.0.left none is (sweep_answered.0.goes ∙ ap (λ (x : VacuumStep). vacuum_left x sweep_answered.0.left) f) (ap (λ (x : ClientAt). x.txn) sweep_answered.1 ∙ txn) (ap (λ (x : ClientAt). x.plan) sweep_answered.1 ∙ plan) stage_now quiet_now)
      where
        gives : Gives (vacuum_step v now r) sweep_answered.0.left vacuuming.More
        gives = subst (Gives (vacuum_step v now r) sweep_answered.0.left) f sweep_answered.0.answered

        stage_now : VacuumAlone catalog was now h sweep_answered.0.left
        stage_now = subst (VacuumAlone catalog was now h) (sym gives.0) (subst (λ (s : VacuumStep). VacuumLeadsTo catalog was now h ((vacuum_step v now r).0, s)) (sym gives.1) swept_called.1)
    by_step (vacuuming.Count n) f = over (answer.Count n) (sweep_answered.0.answer ∙ ap answer_of f) (inr (inr (n, refl, all))) (sweep_answered.0.goes ∙ ap (λ (x : VacuumStep). vacuum_left x sweep_answered.0.left) f)
      where
        gives : Gives (vacuum_step v now r) sweep_answered.0.left (vacuuming.Count n)
        gives = subst (Gives (vacuum_step v now r) sweep_answered.0.left) f sweep_answered.0.answered

        all : HasVacuumed catalog was h now n
        all = subst (λ (s : VacuumStep). VacuumLeadsTo catalog was now h ((vacuum_step v now r).0, s)) (sym gives.1) swept_called.1
    by_step vacuuming.Faulted f = over answer.Faulted (sweep_answered.0.answer ∙ ap answer_of f) (inl refl) (sweep_answered.0.goes ∙ ap (λ (x : VacuumStep). vacuum_left x sweep_answered.0.left) f)
    by_step vacuuming.NoMemory f = over answer.NoMemory (sweep_answered.0.answer ∙ ap answer_of f) (inr (inl refl)) (sweep_answered.0.goes ∙ ap (λ (x : VacuumStep). vacuum_left x sweep_answered.0.left) f)
    by_step (vacuuming.BadRecord key) f = absurd (subst (λ (s : VacuumStep). VacuumLeadsTo catalog was now h ((vacuum_step v now r).0, s)) (sym gives.1) swept_called.1)
      where
        gives : Gives (vacuum_step v now r) sweep_answered.0.left (vacuuming.BadRecord key)
        gives = subst (Gives (vacuum_step v now r) sweep_answered.0.left) f sweep_answered.0.answered

  ---- a transaction's call

  module _ (b : OpenTransaction) (t : TxnAt) (some : o ≡ Some b) (free : c.vacuum ≡ None) (txn : c.txn ≡ Some t) where
    open_answered : TxnPost c t r now result e
    open_answered = subst (λ (x : Option TxnAt). OpenTxnPost c x r now result e) txn (subst (λ (w : Option VacuumAt). ReplyPost c w r now result e) free took)

    pends : pending_in t.doing ≡ Some q
    pends = subst (λ (x : Option TxnAt). pending_of x ≡ Some q) txn (subst (λ (w : Option VacuumAt). pending_by w c.txn ≡ Some q) free asked)

    result_is : (n : Next) → open_answered.next ≡ n → result ≡ answer_in n
    result_is n f = open_answered.answer ∙ ap answer_in f

    client_is : (n : Next) → open_answered.next ≡ n → e ≡ after c n open_answered.left
    client_is n f = open_answered.client ∙ ap (λ (x : Next). after c x open_answered.left) f

    ---- a COMMIT

    module _ (k : CommitAt) (s : Seen) (commit : st ≡ statement.Commit) (plan : c.plan ≡ None) (does : t.doing ≡ doing.Commit k) (work : k.work ≡ work_of b.id now s) (opened : OpenAlone catalog was b.statements b.answers b.id s) (alone : CommitAlone catalog was k.work g k.stage) (fits : (y : Key) (columns : List Pair) → get (with_own d_was s.writes) y ≡ Some columns → row_is_well_typed catalog y columns ≡ true) where
      goes : CommitAlone catalog was k.work h (commit_step k.work k.stage r)
      goes = commits catalog apart was sound_was k.work g h k.stage q r alone (subst (λ (x : Doing). pending_in x ≡ Some q) does pends) called

      commit_answered : CommitNext t k r open_answered.next open_answered.left
      commit_answered = subst (λ (x : Option Planned). NextPost t (doing.Commit k) x r now open_answered.next open_answered.left) plan (subst (λ (x : Doing). NextPost t x c.plan r now open_answered.next open_answered.left) does open_answered.answered)

      ended_over : (a : Outcome) → commit_step k.work k.stage r ≡ Over a → (z : Answer) × (next_of (progress_of (Some a)) ≡ next.End z) × Leaves catalog was h b.id now s z → open_answered.next ≡ next_of (progress_of (Some a)) → Goal
      ended_over a f x n = Answers x.0 (result_is (next.End x.0) (n ∙ x.1)) (Ended b s (ap Ok commit) some opened x.2.later x.2.ends (subst (Between catalog h None) (sym (client_is (next.End x.0) (n ∙ x.1))) (record { free = free; plan = refl; txn = tt })))

      more : (z : Doing) → open_answered.left.doing ≡ z → IsCommitting z (λ y. (y.work ≡ k.work) × IsNext k.work k.stage r y.stage) → open_answered.next ≡ next.Call → Goal
      more (doing.Commit y) f is n =
          More st refl (result_is next.Call n) (Commits b open_answered.left y s some commit (ap (λ (x : ClientAt). x.vacuum) (client_is next.Call n) ∙ free) (ap (λ (x : ClientAt). x.txn) (client_is next.Call n)) (ap (λ (x : ClientAt). x.plan) (client_is next.Call n) ∙ plan) f (is.0 ∙ work) opened
          (subst (λ (w : Work). CommitAlone catalog was w h y.stage) (sym is.0) (next_alone catalog was k.work h k.stage r y.stage goes is.1)))
      more doing.Idle f is n = absurd is
      more (doing.Read a x) f is n = absurd is
      more doing.Over f is n = absurd is

      commit_case : Goal
      commit_case = by (ended_at (commit_step k.work k.stage r)) refl
        where
          by : (x : Option Outcome) → ended_at (commit_step k.work k.stage r) ≡ x → Goal
          by None f =
              let next_is = commit_answered.answered.answer ∙ ap progress_of f in
              more open_answered.left.doing refl (commit_answered.answered.next next_is) (commit_answered.next ∙ ap next_of next_is)
          by (Some a) f =
              let ends = ended_is (commit_step k.work k.stage r) a f in
              ended_over a ends (answer_at catalog apart was h sound_was own b.id now s d_was shows_was fits a (subst (λ (w : Work). CommitAlone catalog was w h (Over a)) work (subst (CommitAlone catalog was k.work h) ends goes))) (commit_answered.next ∙ ap next_of (commit_answered.answered.answer ∙ ap progress_of f))

    ---- a read

    module _ (p : Planned) (a : Access) (x : ReadAt) (plan : c.plan ≡ Some p) (does : t.doing ≡ doing.Read a x) (of : p.statement ≡ st) (k : IsAskedFor catalog p a) (request : x.request ≡ request_of a) (id : t.id ≡ b.id) (opened : OpenAlone catalog g b.statements b.answers t.id t.seen) (alone : ReadAlone catalog g a now x.stage) (resolves : OnlyResolves catalog was g) (sound : IsSound catalog g)
        (stays : rejected catalog true (Ok st) ≡ None) where
      call_answered : CallPost t p a x r now open_answered.next open_answered.left
      call_answered = subst (λ (y : Option Planned). NextPost t (doing.Read a x) y r now open_answered.next open_answered.left) plan (subst (λ (y : Doing). NextPost t y c.plan r now open_answered.next open_answered.left) does open_answered.answered)

      pends_there : read_pending_at (request_of a) x.stage ≡ Some q
      pends_there = subst (λ (y : Request). read_pending_at y x.stage ≡ Some q) request (subst (λ (y : Doing). pending_in y ≡ Some q) does pends)

      moved : OnlyResolves catalog g h
      moved = (reads catalog apart a k.tables now now time g h x.stage q r sound own alone pends_there called).0

      since : OnlyResolves catalog was h
      since = settles_trans catalog was g h sound_was resolves moved

      shows_now : AreImagesOf catalog h d_was
      shows_now y = shows_was y ∙ by (is_listed catalog y) refl
        where
          by : (w : Bool) → is_listed catalog y ≡ w → (if is_listed catalog y then row_in was y else None) ≡ (if is_listed catalog y then row_in h y else None)
          by true f = ap (λ w. if w then row_in was y else None) f ∙ sym (ap (λ w. if w then row_in h y else None) f ∙ row_stays catalog was h since sound_was y f)
          by false f = ap (λ w. if w then row_in was y else None) f ∙ sym (ap (λ w. if w then row_in h y else None) f)

      led : LedAlone catalog h b.statements b.answers p a now x t.id open_answered.next open_answered.left
      led = (read_answered catalog apart g h sound own d_was shows_now fit_was now now time b.statements b.answers t p a k x q r opened alone pends_there called open_answered.next open_answered.left call_answered).1

      on_next : (n : Next) → open_answered.next ≡ n → LedAlone catalog h b.statements b.answers p a now x t.id n open_answered.left → Goal
      on_next next.Call f l =
          More st refl (result_is next.Call f) (Reads b open_answered.left p a l.2 some (ap (λ (y : ClientAt). y.vacuum) (client_is next.Call f) ∙ free) (ap (λ (y : ClientAt). y.txn) (client_is next.Call f)) (ap (λ (y : ClientAt). y.plan) (client_is next.Call f) ∙ plan) l.3 of k (l.4 ∙ request) (l.1 ∙ id)
          (subst (λ (y : TxId). OpenAlone catalog h b.statements b.answers y open_answered.left.seen) (sym l.1) l.0) l.5 since stays)
      on_next (next.Answer z) f l =
          Answers z (result_is (next.Answer z) f) (Answered b st p a open_answered.left.seen refl of k stays some since
          (subst (λ (y : TxId). AnsweredAlone catalog h b.statements b.answers st a now y z open_answered.left.seen) id (subst (λ (y : Statement). AnsweredAlone catalog h b.statements b.answers y a now t.id z open_answered.left.seen) of l.2))
          (record { t = open_answered.left; txn = ap (λ (y : ClientAt). y.txn) (client_is (next.Answer z) f); idle = l.0; id = l.1 ∙ id; seen = refl; free = ap (λ (y : ClientAt). y.vacuum) (client_is (next.Answer z) f) ∙ free; plan = ap (λ (y : ClientAt). y.plan) (client_is (next.Answer z) f) }))
      on_next (next.End z) f l = absurd l

      read_case : Goal
      read_case = on_next open_answered.next refl led

  ---- the whole

  -- a reply leads a statement that waits on, or to its answer
  replied : Waits catalog was now st g o c → Goal
  replied (InVacuum v none is runs txn plan alone quiet) = by_step v none is runs txn plan alone quiet (sweep_answered v none is runs txn plan alone quiet).0.step refl
  replied (Commits b t k s some commit free txn plan does work opened alone) = commit_case b t some free txn k s commit plan does work opened alone (own_fit b s opened)
    where
      own_fit : (b : OpenTransaction) (s : Seen) → OpenAlone catalog was b.statements b.answers b.id s → (y : Key) (columns : List Pair) → get (with_own d_was s.writes) y ≡ Some columns → row_is_well_typed catalog y columns ≡ true
      own_fit b s opened y columns e = fits_there catalog (with_own d_was s.writes) y columns (opened.body.fits d_was fit_was (agrees_all catalog opened.past was sound_was s opened.seen d_was shows_was)) e
  replied (Reads b t p a x some free txn plan does of k request id opened alone resolves stays) = read_case b t some free txn p a x plan does of k request id opened alone resolves (sound_stays catalog was g resolves sound_was own_g) stays

pub replies : (r : RepliedAlone) → LeadsTo r.catalog r.was r.fresh r.now (Ok r.statement) r.h r.opened r.result r.after
replies r =
    let s = r.well_formed in
    replied r.catalog s.apart r.was s.sound s.tables s.are_images s.fit r.fresh r.now r.time r.statement r.g r.h r.own r.own_then r.request r.reply r.called r.opened r.before r.asked r.result r.after r.took r.waits
