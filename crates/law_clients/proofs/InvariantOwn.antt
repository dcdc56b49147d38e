-- What a turn owes of its own client.
use Rattle.std.proofs.Common.{◌≡◌, ◌<◌, ◌+◌, ℕ, Bool, true, false, List, [], ◌∷◌, ◌++◌, length, Option, Some, None, refl, sym, ap, ◌∙◌, subst, arith, ◌⊎◌, inl, inr}
use Rattle.std.specs.Prelude.{◌==◌, if◌then◌else◌}
use Rattle.std.proofs.lemmas.Bool.Decides.{nat_tests}
use Rattle.law_clients.specs.Types.{Meta, Record, RecoverPhase, Reply, Statement, Table, TxId, Write}
use Rattle.sdb_record.specs.Meta.{id_in}
use Rattle.sdb_model.specs.Exec.{Tables}
use Rattle.sdb_model.specs.Transactions.{Executed, begins, ends}
use Rattle.law_protocol.specs.History as laws
use Rattle.law_protocol.specs.History.{Action, Other, at}
use Rattle.law_protocol.specs.Lawful.{Labelled}
use Rattle.law_protocol.specs.Plan.{Plan}
use Rattle.sdb_phases.specs.declared.step.DecidePhase.TheVariants as decide
use Rattle.sdb_phases.specs.declared.step.RecoverPhase.TheVariants as phase
use Rattle.sdb_phases.specs.Work.{Work}
use Rattle.sdb_phases.specs.Commit.{Stage, Preparing, Checking, Deciding, Forward, Stopping, Back, Over}
use Rattle.sdb_phases.specs.CommitLaws.{as_wished}
use Rattle.std.specs.Prelude.{slice_get}
use Rattle.sdb_record.specs.Groups.{grouped, in_groups}
use Rattle.law_clients.specs.Owner.{prepare_action, action_of, forward_action, back_action}
use Rattle.law_clients.specs.Reader.{recover_action}
use Rattle.law_clients.specs.ReadAt.{ReadAt, Asking, Done, Failed, Resolving, read_action}
use Rattle.law_clients.specs.Vacuum.{VacuumModel, Scanning, Resolving as Resolves, Removing, Between, removes_action, vacuum_action}
use Rattle.law_clients.specs.System.{ClientAt}
use Rattle.law_clients.specs.Filed.{number}
use Rattle.law_clients.specs.Left.{Execution}
use Rattle.law_clients.specs.Story.{Closed, Finished, Opened, Rest, Story, txn_ended_at, settle}
use Rattle.law_clients.specs.History.{IsApart, IsCounted, IsNotOf, IsOpened, ClientHistory, with_answered}
use Rattle.law_clients.proofs.Answered.{one_more, telling_of}
use Rattle.law_clients.proofs.Histories.{within}
use Rattle.law_clients.specs.Invariant.{ClientInvariant, EndedOk, IsOpenOf, IsClosed, RanOk}
use Rattle.sdb_types.proofs.Public.{itself as same_number}

---- parts that begin and take nothing

-- a part that begins no transaction, takes no COMMIT, and is an event's
abbrev pub IsPlainRole : Action → Type 0
IsPlainRole (laws.Begins t c) = ⊥
IsPlainRole (laws.Takes t) = ⊥
IsPlainRole (laws.Ends t) = ⊥
IsPlainRole r = Unit {0}

pub plain_not : (t : ℕ) (r : Action) → IsPlainRole r → IsNotOf t r
plain_not t Other p = tt
plain_not t (laws.Begins u c) p = absurd p
plain_not t (laws.Takes u) p = absurd p
plain_not t (laws.Prepares u k word) p = tt
plain_not t (laws.Checks u i) p = tt
plain_not t (laws.Decides u word) p = tt
plain_not t (laws.Aborts u m word) p = tt
plain_not t (laws.Rolls u k d) p = tt
plain_not t (laws.Removes k u) p = tt
plain_not t (laws.Ends u) p = absurd p
plain_not t (laws.Stops c) p = tt

pub plain_counts : (r : Action) → IsPlainRole r → IsCounted r
plain_counts Other p = tt
plain_counts (laws.Begins u c) p = tt
plain_counts (laws.Takes u) p = tt
plain_counts (laws.Prepares u k word) p = tt
plain_counts (laws.Checks u i) p = tt
plain_counts (laws.Decides u word) p = tt
plain_counts (laws.Aborts u m word) p = tt
plain_counts (laws.Rolls u k d) p = tt
plain_counts (laws.Removes k u) p = tt
plain_counts (laws.Ends u) p = absurd p
plain_counts (laws.Stops c) p = tt

pub plain_apart : (past : List Labelled) (c : ℕ) (r : Action) → IsPlainRole r → IsApart past c r
plain_apart past c r p t owner begun = plain_not t r p

recover_plain : (rec : Record) (meta : Meta) (p : RecoverPhase) (r : Reply) → IsPlainRole (recover_action rec meta p r)
recover_plain rec meta phase.Look r = tt
recover_plain rec meta (phase.Abort moment) r = tt
recover_plain rec meta phase.Again r = tt
recover_plain rec meta (phase.Forward m) r = tt
recover_plain rec meta phase.Back r = tt
recover_plain rec meta phase.Ended r = tt

pub read_plain : (s : ReadAt) (r : Reply) → IsPlainRole (read_action s r)
read_plain Asking r = tt
read_plain (Resolving images rec meta p left) r = recover_plain rec meta p r
read_plain (Done images) r = tt
read_plain Failed r = tt

removes_plain : (b : Record) (o : Option TxId) → IsPlainRole (removes_action b o)
removes_plain b None = tt
removes_plain b (Some i) = tt

pub sweep_plain : (v : VacuumModel) (r : Reply) → IsPlainRole (vacuum_action v r)
sweep_plain (Scanning span) r = tt
sweep_plain (Resolves rec meta p left) r = recover_plain rec meta p r
sweep_plain (Removing b left) r = removes_plain b (id_in b.columns)
sweep_plain Between r = tt

pub commit_plain : (p : Work) (s : Stage) (r : Reply) → IsPlainRole (action_of p s r)
commit_plain p (Preparing i) r = by (slice_get (grouped p.writes) i)
  where
    by : (o : Option (List Write)) → IsPlainRole (prepare_action p.id.0 o r)
    by None = tt
    by (Some w) = tt
commit_plain p (Checking i) r = by (as_wished p (Checking i) r)
  where
    by : (b : Bool) → IsPlainRole (if b then laws.Checks p.id.0 i else Other)
    by true = tt
    by false = tt
commit_plain p (Deciding decide.Put) r = tt
commit_plain p (Deciding decide.Look) r = tt
commit_plain p (Deciding decide.Abort) r = tt
commit_plain p (Deciding decide.Again) r = tt
commit_plain p (Deciding decide.Ended) r = tt
commit_plain p (Forward i) r = by (slice_get (grouped p.writes) i)
  where
    by : (o : Option (List Write)) → IsPlainRole (forward_action p.id.0 o)
    by None = tt
    by (Some w) = tt
commit_plain p (Stopping a n) r = tt
commit_plain p (Back a n i) r = by (slice_get (in_groups p.writes) i)
  where
    by : (o : Option Write) → IsPlainRole (back_action p.id.0 o)
    by None = tt
    by (Some w) = tt
commit_plain p (Over a) r = tt

---- what each transaction ran

less_differs : (k n : ℕ) → k < n → (k == n) ≡ false
less_differs k n l = grind (arith, nat_tests)

-- with what the open one ran
pub ran_here : (ran : ℕ → Execution) (n : ℕ) (r : Execution) → at ran n r n ≡ r
ran_here ran n r = ap (λ b. if b then r else ran n) (same_number n)

pub ran_before : (ran : ℕ → Execution) (n k : ℕ) (r : Execution) → k < n → at ran n r k ≡ ran k
ran_before ran n k r l = ap (λ b. if b then r else ran k) (less_differs k n l)

pub below : (fs : List Finished) (k : ℕ) (f : Finished) → txn_ended_at fs k ≡ Some f → k < length fs
below fs k f e = subst (λ n. k < n) (plus (length fs)) (within fs k f 0 e)
  where
    plus : (n : ℕ) → n + 0 ≡ n
    plus n = omega arith

pub ended_at : (catalog : List Table) (fit : List Table → Tables → Bool) (plan : ℕ → Plan) (past : List Labelled) (c : ℕ) (whole : List Finished) (ran : ℕ → Execution) (r : Execution) → EndedOk catalog fit plan past c whole ran → EndedOk catalog fit plan past c whole (at ran (length whole) r)
ended_at catalog fit plan past c whole ran r ok k f e = subst (RanOk catalog fit plan past (number c k) f.body) (sym (ran_before ran (length whole) k r (below whole k f e))) (ok k f e)

---- a story with a statement more

pub opened_as : (r : Rest) → IsOpened r → (gap : List Executed) × (b : Executed) × (body : List Executed) × (r ≡ Opened gap b body)
opened_as (Closed gap) o = absurd o
opened_as (Opened gap b body) o = (gap, b, body, refl)

pub closed_as : (r : Rest) → IsClosed r → (gap : List Executed) × (r ≡ Closed gap)
closed_as (Closed gap) o = (gap, refl)
closed_as (Opened gap b body) o = absurd o

abbrev pub inside : ClientHistory → List Executed → Executed → List Executed → Executed → Story
inside x gap b body s = record { whole = x.whole; rest = Opened gap b (body ++ s ∷ []) }

abbrev pub finished : List Executed → Executed → List Executed → Executed → Finished
finished gap b body s = record { gap = gap; begin = b; body = body; last = s }

abbrev pub over : ClientHistory → List Executed → Executed → List Executed → Executed → Story
over x gap b body s = record { whole = x.whole ++ finished gap b body s ∷ []; rest = Closed [] }

pub settled_inside : (x : ClientHistory) (s : Executed) (gap : List Executed) (b : Executed) (body : List Executed) → x.rest ≡ Opened gap b body → ends s ≡ false → with_answered x s ≡ telling_of (inside x gap b body s)
settled_inside x s gap b body e n = ap telling_of (ap (λ r. settle x.whole r s) e ∙ ap (λ z. if z then over x gap b body s else inside x gap b body s) n)

pub settled_over : (x : ClientHistory) (s : Executed) (gap : List Executed) (b : Executed) (body : List Executed) → x.rest ≡ Opened gap b body → ends s ≡ true → with_answered x s ≡ telling_of (over x gap b body s)
settled_over x s gap b body e n = ap telling_of (ap (λ r. settle x.whole r s) e ∙ ap (λ z. if z then over x gap b body s else inside x gap b body s) n)

abbrev pub gone : ClientHistory → List Executed → Executed → Story
gone x gap s = record { whole = x.whole; rest = Closed (gap ++ s ∷ []) }

abbrev pub begun : ClientHistory → List Executed → Executed → Story
begun x gap s = record { whole = x.whole; rest = Opened gap s [] }

pub settled_gap : (x : ClientHistory) (s : Executed) (gap : List Executed) → x.rest ≡ Closed gap → begins s ≡ false → with_answered x s ≡ telling_of (gone x gap s)
settled_gap x s gap e n = ap telling_of (ap (λ r. settle x.whole r s) e ∙ ap (λ z. if z then begun x gap s else gone x gap s) n)

pub settled_begin : (x : ClientHistory) (s : Executed) (gap : List Executed) → x.rest ≡ Closed gap → begins s ≡ true → with_answered x s ≡ telling_of (begun x gap s)
settled_begin x s gap e n = ap telling_of (ap (λ r. settle x.whole r s) e ∙ ap (λ z. if z then begun x gap s else gone x gap s) n)

---- what is so of the client then

module _ (catalog : List Table) (fit : List Table → Tables → Bool) (plan : ℕ → Plan) (past : List Labelled) (c : ℕ) (d : Option Statement) (y : ClientAt) (x : ClientHistory) (ran : ℕ → Execution) where
  -- its open transaction has run this, and one statement more was said inside of it
  pub goes_inside : (s : Executed) (gap : List Executed) (b : Executed) (body : List Executed) (r : Execution) → x.rest ≡ Opened gap b body → ends s ≡ false → EndedOk catalog fit plan past c x.whole ran
      → RanOk catalog fit plan past (number c (length x.whole)) (body ++ s ∷ []) r → IsOpenOf d (telling_of (inside x gap b body s)) r y → ClientInvariant catalog fit plan past c d y (with_answered x s) (at ran (length x.whole) r)
  goes_inside s gap b body r e n ended ok next_state = subst (λ z. ClientInvariant catalog fit plan past c d y z (at ran (length x.whole) r)) (sym (settled_inside x s gap b body e n)) (record {
    ended = ended_at catalog fit plan past c x.whole ran r ended;
    opened = subst (RanOk catalog fit plan past (number c (length x.whole)) (body ++ s ∷ [])) (sym (ran_here ran (length x.whole) r)) ok;
    next_state = subst (λ z. IsOpenOf d (telling_of (inside x gap b body s)) z y) (sym (ran_here ran (length x.whole) r)) next_state;
  })

  -- its open transaction has ended
  pub goes_over : (s : Executed) (gap : List Executed) (b : Executed) (body : List Executed) → x.rest ≡ Opened gap b body → ends s ≡ true → EndedOk catalog fit plan past c x.whole ran
      → RanOk catalog fit plan past (number c (length x.whole)) body (ran (length x.whole)) → ((r : Execution) → IsOpenOf d (telling_of (over x gap b body s)) r y) → ClientInvariant catalog fit plan past c d y (with_answered x s) ran
  goes_over s gap b body e n ended ok next_state = subst (λ z. ClientInvariant catalog fit plan past c d y z ran) (sym (settled_over x s gap b body e n)) (record {
    ended = λ k f h. by k f (one_more x.whole (finished gap b body s) k f h);
    opened = tt;
    next_state = next_state (ran (length (x.whole ++ finished gap b body s ∷ [])));
  })
    where
      by : (k : ℕ) (f : Finished) → (txn_ended_at x.whole k ≡ Some f) ⊎ ((k ≡ length x.whole) × (f ≡ finished gap b body s)) → RanOk catalog fit plan past (number c k) f.body (ran k)
      by k f (inl h) = ended k f h
      by k f (inr h) = subst (λ (z : Finished). RanOk catalog fit plan past (number c k) z.body (ran k)) (sym h.1) (subst (λ n. RanOk catalog fit plan past (number c n) body (ran n)) (sym h.0) ok)

  -- one statement more was said outside
  pub goes_gap : (s : Executed) (gap : List Executed) → x.rest ≡ Closed gap → begins s ≡ false → EndedOk catalog fit plan past c x.whole ran → IsOpenOf d (telling_of (gone x gap s)) (ran (length x.whole)) y → ClientInvariant catalog fit plan past c d y (with_answered x s) ran
  goes_gap s gap e n ended next_state = subst (λ z. ClientInvariant catalog fit plan past c d y z ran) (sym (settled_gap x s gap e n)) (record { ended = ended; opened = tt; next_state = next_state })

  -- a transaction has begun
  pub goes_begun : (s : Executed) (gap : List Executed) (r : Execution) → x.rest ≡ Closed gap → begins s ≡ true → EndedOk catalog fit plan past c x.whole ran → RanOk catalog fit plan past (number c (length x.whole)) [] r → IsOpenOf d (telling_of (begun x gap s)) r y → ClientInvariant catalog fit plan past c d y (with_answered x s) (at ran (length x.whole) r)
  goes_begun s gap r e n ended ok next_state = subst (λ z. ClientInvariant catalog fit plan past c d y z (at ran (length x.whole) r)) (sym (settled_begin x s gap e n)) (record {
    ended = ended_at catalog fit plan past c x.whole ran r ended;
    opened = subst (RanOk catalog fit plan past (number c (length x.whole)) []) (sym (ran_here ran (length x.whole) r)) ok;
    next_state = subst (λ z. IsOpenOf d (telling_of (begun x gap s)) z y) (sym (ran_here ran (length x.whole) r)) next_state;
  })
