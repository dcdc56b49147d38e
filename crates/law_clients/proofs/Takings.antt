-- A client that is alone takes a statement: it is answered at once, or waits for a reply.
use Rattle.law_clients.specs.Types.{Access, Answer, Key, Keyed, PlanStep, Refusal, Statement, Table, TableName, TxId, Write}
use Rattle.sdb_model.specs.Access.{rows_at}
use Rattle.law_clients.proofs.Keys.{keys_changed, keys_more, keys_with, many_is}
use Rattle.law_clients.specs.Keys.{is_too_many, keys_of_body, keys_written, pass_with, passes_most, with_keys}
use Rattle.std.proofs.Common.{◌≡◌, ◌≤◌, ◌<◌, ℕ, ℤ, Bool, true, false, List, [], ◌∷◌, Option, Some, None, Result, Ok, Err, inr, refl, sym, ap, subst, ◌∙◌, length, arith, map, ◌++◌}
use Rattle.std.specs.Prelude.{◌&&◌, ◌||◌, is_some, nat_lt, if◌then◌else◌}
use Rattle.std.specs.Option.{option_map}
use Rattle.std.specs.List.{AllByRecursion, list_any}
use Rattle.std.specs.Ordering.{is_eq}
use Rattle.std.proofs.lemmas.Bool.Decides.{nat_tests}
use Rattle.std.proofs.lemmas.Option.{slice_get_within}
use Rattle.sdb_types.specs.Contents.{in_span}
use Rattle.sdb_types.specs.Exact.{equal_of}
use Rattle.sdb_types.specs.Order.{table_cmp}
use Rattle.sdb_types.proofs.Public.{and_first, by_test, false_true, table_exact}
use Rattle.sdb_record.specs.declared.access.Access.TheVariants as access
use Rattle.sdb_record.specs.Meta.{is_moment}
use Rattle.sdb_schema.specs.Catalog.{is_catalog}
use Rattle.sdb_model.specs.declared.answer.Answer.TheVariants as answer
use Rattle.sdb_model.specs.declared.statement.Statement.TheVariants as statement
use Rattle.sdb_model.specs.Causes.{refused}
use Rattle.sdb_model.specs.Exec.{Tables, exec_in, find_table, named_table, table_of, all_rows}
use Rattle.sdb_model.specs.Refused.{refusal_by, refusal_of}
use Rattle.sdb_model.specs.Sql.{Reads as ReadsAs}
use Rattle.sdb_model.specs.Transactions.{changes_nothing, is_answered_from_rows}
use Rattle.sdb_exec.specs.declared.plan.PlanStep.TheVariants.{Finished}
use Rattle.sdb_exec.specs.Plans.{Planned, finished, first_unfit, has_all_literals, step_at, step_of, changes_on}
use Rattle.sdb_model.specs.Reads.{access_of}
use Rattle.sdb_exec.proofs.Public.{named_is_table, own}
use Rattle.sdb_phases.specs.Checks.{checks}
use Rattle.sdb_phases.specs.Commit.{Checking, Deciding, Preparing, checking, preparing}
use Rattle.sdb_phases.specs.declared.step.DecidePhase.TheVariants as phase
use Rattle.sdb_record.specs.Groups.{grouped}
use Rattle.sdb_record.proofs.Public.{in_groups_length, place_of_grouped, taken_all}
use Rattle.sdb_phases.specs.Work.{Work, groups_of}
use Rattle.sdb_txn.specs.Read.{Asking, request_of}
use Rattle.sdb_snapshot.specs.Rows.{with_own}
use Rattle.sdb_snapshot.specs.Seen.{Seen, nothing, overlay, with_written}
use Rattle.sdb_snapshot.specs.Written.{AreChanges}
use Rattle.sdb_snapshot.proofs.Public.{overlay_is}
use Rattle.sdb_txn.specs.declared.txn.Doing.TheVariants as doing
use Rattle.sdb_txn.specs.Txn.{TxnAt, committing, reading, work_of as txn_work}
use Rattle.law_clients.specs.Reads.{work_of}
use Rattle.sdb_vacuum.specs.Vacuum.{begun as sweeping, spans_of, whole}
use Rattle.sdb_client.specs.Client.{AskPost, BeginPost, ClientAt, CommitStartPost, GatePost, IsAnsweredAtOnce, RollbackPost, RowsPost, ParsedPost, StatementPost, Taking, Parses, VacuumStartPost, given_answer, given_left, gives, is_covered, plan_of, too_many, written}
use Rattle.sdb_client.specs.Inside.{IsValidPlan, IsKeyRead, MayWrite}
use Rattle.sdb_client.proofs.Public.{may_write}
use Rattle.law_clients.specs.Body.{AnswersOn}
use Rattle.law_clients.proofs.Bodies.{access_agrees, body_begins, body_step}
use Rattle.law_clients.specs.Fitting.{tables_are_well_typed}
use Rattle.law_clients.proofs.RowsFit.{answers_on, found_itself, all_in_fit}
use Rattle.law_clients.proofs.Whole.{literals_read}
use Rattle.law_clients.proofs.Asked.{covered_is}
use Rattle.law_clients.specs.Database.{Database}
use Rattle.law_clients.specs.OnlyResolves.{IsApart, IsSound}
use Rattle.law_clients.specs.Commits.{CommitAlone, EachWrite, IsPrepared, StageAlone, WorkAlone, IsBaseCurrent}
use Rattle.law_clients.specs.SessionReads.{IsOfTables}
use Rattle.law_clients.specs.SessionTurns.{ExecutedAlone}
use Rattle.law_clients.specs.Seen.{SeenAlone, AreImagesOf}
use Rattle.law_clients.specs.SessionVacuums.{IsOfCatalog, LeftAlone}
use Rattle.law_clients.specs.Clients.{Added, AnsweredAlone, IdleAlone, IsAskedFor, IsUnused, Kept, OpenAlone, Passes}
use Rattle.law_clients.specs.Session.{rejected}
use Rattle.law_clients.specs.Between.{Answered, Begun, Between, LeadsTo, Commits, More, Reads, RolledBack, OpenTransaction, InVacuum, Vacuumed, Answers, Turned, IsTxnOf}
use Rattle.law_clients.proofs.Resolves.{settles_refl}
use Rattle.law_clients.proofs.SessionStatements.{agrees_all, answered_at, rows_change}
use Rattle.law_clients.proofs.SessionSeen.{seen_written}
use Rattle.law_clients.proofs.SessionVacuums.{has_vacuumed, quiet_refl, removed_none}
use Rattle.law_clients.proofs.Works.{work_alone}
use Rattle.law_clients.proofs.Lists.{each_at}

---- a statement that is answered from what was read before

key_read : (s : Seen) (a : Access) → is_covered s a ≡ true → IsKeyRead s.read_set a
key_read s (access.Get key) h = h
key_read s (access.Scan span) h = tt

module _ (catalog : List Table) (g : Database) (sound : IsSound catalog g) (d : Tables) (are_images : AreImagesOf catalog g d) (fit : tables_are_well_typed catalog d ≡ true) (now : ℤ) (statements : List Statement) (answers : List Answer) (t : TxnAt) (idle : t.doing ≡ doing.Idle) (p : Planned) (a : Access) (k : IsAskedFor catalog p a) (opened : OpenAlone catalog g statements answers t.id t.seen) (covered : is_covered t.seen a ≡ true) where
  abbrev AtOnce : Answer → TxnAt → Type 0
  AtOnce z u = (u.doing ≡ doing.Idle) × (u.id ≡ t.id) × AnsweredAlone catalog g statements answers p.statement a now t.id z u.seen

  kept : (z : Answer) → changes_nothing z ≡ true → IdleAlone g a now z → (is_too_many z ≡ true → Passes catalog g statements p.statement true) → AtOnce z t
  kept z same why many = (idle, refl, Kept same why many opened)

  is_write : IsValidPlan p
  is_write = record { asked = k.asked; table = named_is_table catalog p.statement p.table k.is k.named; accepted = sym (ap (λ (o : Option Table). refusal_by o p.statement) k.named) ∙ k.accepted; literals = k.literals }

  at_access : (b : Answer) (ks : List Keyed) → gives p a t ≡ Finished b ks → step_of p (overlay (access_of p.table p.statement) t.seen) ≡ Finished b ks
  at_access b ks e = sym (ap (λ (c : Access). step_of p (overlay c t.seen)) k.access) ∙ e

  on_tables : (b : Answer) (ks : List Keyed) → step_of p (overlay (access_of p.table p.statement) t.seen) ≡ Finished b ks → AnswersOn catalog (tables_are_well_typed catalog) t.seen p.statement a b ks
  on_tables b ks e = subst (λ (c : Access). AnswersOn catalog (tables_are_well_typed catalog) t.seen p.statement c b ks) (sym k.access) (answers_on catalog p t.seen k.is k.named k.asked k.accepted k.literals e)

  answered : (b : Answer) (ks : List Keyed) → step_of p (overlay (access_of p.table p.statement) t.seen) ≡ Finished b ks → is_answered_from_rows b ≡ true
  answered b ks e =
      let agree = agrees_all catalog opened.past g sound t.seen opened.seen d are_images in
      let left : Tables = with_own d t.seen.writes in
      let run = (on_tables b ks e left (opened.body.fits d fit agree) (sym (overlay_is t.seen a d (access_agrees opened.past t.seen a d opened.seen.ok (covered_is t.seen a covered) agree)))).0 in
      ap (λ (y : Answer × Tables). is_answered_from_rows y.0) (sym run) ∙ ap (λ o. is_answered_from_rows (exec_in o p.statement left).0) k.named ∙ answered_at p.table p.statement catalog left k.named

  -- the keys that it writes, on plain tables that are the images
  passes_is : (ks : List Keyed) → ks ≡ changes_on p.table p.statement (overlay a t.seen) → (b : Bool) → too_many t ks ≡ b → Passes catalog g statements p.statement b
  passes_is ks is b many e same_rows fits =
      let agree = agrees_all catalog opened.past g sound t.seen opened.seen e same_rows in
      let left : Tables = with_own e t.seen.writes in
      let over : overlay a t.seen ≡ rows_at (access_of p.table p.statement) left = overlay_is t.seen a e (access_agrees opened.past t.seen a e opened.seen.ok (covered_is t.seen a covered) agree) ∙ ap (λ (c : Access). rows_at c left) k.access in
      let written_keys : map (λ (x : Keyed). x.key) ks ≡ keys_written catalog p.statement left = ap (map (λ (x : Keyed). x.key)) (is ∙ ap (changes_on p.table p.statement) over) ∙ keys_changed catalog p.table p.statement left is_write.table k.named (all_in_fit catalog p.table (all_rows left) (found_itself catalog (table_of p.statement) p.table k.named) (opened.body.fits e fits agree)) in
      let own_keys : keys_of_body catalog statements e [] ≡ map (λ (w : Write). w.key) t.seen.writes = opened.keys e same_rows fits in
      ap (λ (q : List Answer × Tables). passes_most catalog p.statement q.1 (keys_of_body catalog statements e [])) (opened.body.runs e fits agree)
      ∙ ap (λ qs. passes_most catalog p.statement left qs) own_keys ∙ ap (pass_with (map (λ (w : Write). w.key) t.seen.writes)) (sym written_keys) ∙ sym (many_is t ks) ∙ many

  keys_now : (ks : List Keyed) → ks ≡ changes_on p.table p.statement (overlay a t.seen) → (e : Tables) → AreImagesOf catalog g e → tables_are_well_typed catalog e ≡ true → keys_of_body catalog (statements ++ p.statement ∷ []) e [] ≡ map (λ (w : Write). w.key) (with_written t.seen ks).writes
  keys_now ks is e same_rows fits =
      let agree = agrees_all catalog opened.past g sound t.seen opened.seen e same_rows in
      let left : Tables = with_own e t.seen.writes in
      let over : overlay a t.seen ≡ rows_at (access_of p.table p.statement) left = overlay_is t.seen a e (access_agrees opened.past t.seen a e opened.seen.ok (covered_is t.seen a covered) agree) ∙ ap (λ (c : Access). rows_at c left) k.access in
      let written_keys : map (λ (x : Keyed). x.key) ks ≡ keys_written catalog p.statement left = ap (map (λ (x : Keyed). x.key)) (is ∙ ap (changes_on p.table p.statement) over) ∙ keys_changed catalog p.table p.statement left is_write.table k.named (all_in_fit catalog p.table (all_rows left) (found_itself catalog (table_of p.statement) p.table k.named) (opened.body.fits e fits agree)) in
      let own_keys : keys_of_body catalog statements e [] ≡ map (λ (w : Write). w.key) t.seen.writes = opened.keys e same_rows fits in
      keys_more catalog statements p.statement e [] ∙ ap (λ (q : List Answer × Tables). with_keys (keys_of_body catalog statements e []) (keys_written catalog p.statement q.1)) (opened.body.runs e fits agree)
      ∙ ap (λ qs. with_keys qs (keys_written catalog p.statement left)) own_keys ∙ ap (with_keys (map (λ (w : Write). w.key) t.seen.writes)) (sym written_keys) ∙ sym (keys_with t.seen.read_set t.seen.writes ks)

  added : (b : Answer) (ks : List Keyed) → gives p a t ≡ Finished b ks → ks ≡ changes_on p.table p.statement (overlay a t.seen) → is_answered_from_rows b ≡ true → too_many t ks ≡ false → AtOnce b (written t ks)
  added b ks gave is some few =
      let e = at_access b ks gave in
      let changes : AreChanges t.seen.read_set ks = subst (MayWrite t.seen.read_set) e (may_write t.seen p is_write opened.seen.ok.kept (subst (IsKeyRead t.seen.read_set) k.access (key_read t.seen a covered))) in (
        idle,
        refl,
        Added some (passes_is ks is false few) (record {
          past = opened.past;
          seen = seen_written catalog opened.past g t.seen ks opened.seen changes;
          body = body_step opened.past catalog (tables_are_well_typed catalog) statements answers t.seen p.statement a b ks opened.body opened.seen.ok (covered_is t.seen a covered) (on_tables b ks e);
          keys = keys_now ks is;
          new = opened.new;
        }),
      )

  abbrev AnsweredAt : PlanStep → Type 0
  AnsweredAt s = AtOnce (given_answer t s) (given_left t s)

  finished_at : (b : Answer) (ks : List Keyed) → gives p a t ≡ Finished b ks → ks ≡ changes_on p.table p.statement (overlay a t.seen) → AnsweredAt (Finished b ks)
  finished_at b ks gave is =
      let rows = answered b ks (at_access b ks gave) in
      let some : changes_nothing b ≡ false = rows_change b rows in
      by_test (too_many t ks) (λ m. rw (some, m) (kept (refused 15) refl refl (λ _. passes_is ks is true m))) (λ m. rw (some, m) (rw some (added b ks gave is rows m)))

  at_once : AnsweredAt (gives p a t)
  at_once = by (first_unfit p.table (overlay a t.seen)) refl
    where
      gave : (o : Option Key) → first_unfit p.table (overlay a t.seen) ≡ o → gives p a t ≡ finished p.table p.statement (overlay a t.seen) o
      gave o e = ap (λ (b : Bool). step_at b p.table p.statement (overlay a t.seen)) k.asked ∙ ap (finished p.table p.statement (overlay a t.seen)) e

      by : (o : Option Key) → first_unfit p.table (overlay a t.seen) ≡ o → AnsweredAt (gives p a t)
      by None e = subst AnsweredAt (sym (gave None e)) (finished_at _ _ (gave None e) refl)
      by (Some key) e = false_true (answered (answer.BadRecord key) [] (at_access (answer.BadRecord key) [] (gave (Some key) e)))

---- what begins

-- nothing has been read
nothing_seen : (catalog : List Table) (g : Database) → SeenAlone catalog [] g nothing
nothing_seen catalog g = record {
  ok = record { kept = record { read = λ q h. absurd (cc); bases = tt; valid = tt; based = tt; once = tt }; read_set = tt; reads = tt; scans = tt; found = tt; as_read = λ q h. absurd (cc) };
  scans = tt;
  matches = λ k h. absurd (cc);
}

-- a COMMIT begins with its first call
commit_begins : (catalog : List Table) (start : Database) (p : Work) → WorkAlone catalog start p → CommitAlone catalog start p start (preparing p 0)
commit_begins catalog start p work = record { work = work; others = λ k free other. refl; stage = by (nat_lt 0 (groups_of p)) refl }
  where
    no_groups : (n : ℕ) → nat_lt 0 n ≡ false → n ≤ 0
    no_groups n f = grind (arith, nat_tests)

    -- without a group there is no write
    none : nat_lt 0 (groups_of p) ≡ false → EachWrite p (IsPrepared p) start
    none e j w at =
        let within = subst (λ n. j < n) (sym (in_groups_length p.writes) ∙ sym (taken_all (grouped p.writes) 0 (no_groups (groups_of p) e))) (slice_get_within p.writes j w at) in
        absurd (omega (arith, within))

    to_checks : nat_lt 0 (groups_of p) ≡ false → (b : Bool) → StageAlone p start (if b then Checking 0 else Deciding phase.Put)
    to_checks e true = (work.fresh, none e)
    to_checks e false = (work.fresh, none e)

    by : (b : Bool) → nat_lt 0 (groups_of p) ≡ b → StageAlone p start (if b then Preparing 0 else checking p 0)
    by true e = (work.fresh, record { below = λ j w less at. absurd (omega arith); from = λ j w more at. let place = place_of_grouped p.writes j w at in (each_at (IsBaseCurrent catalog start) p.writes place.0 w work.writes place.1).base })
    by false e = to_checks e (nat_lt 0 (length (checks p)))

-- a VACUUM begins with all tables of the catalog
spans_listed : (ts catalog : List Table) → ((name : TableName) → is_some (find_table ts name) ≡ true → is_some (find_table catalog name) ≡ true) → AllByRecursion (IsOfCatalog catalog) (spans_of ts)
spans_listed [] catalog more = tt
spans_listed (t ∷ ts) catalog more = (λ k within. more k.table (here k within), spans_listed ts catalog (λ name f. more name (later name f)))
  where
    here : (k : Key) → in_span (whole t) k ≡ true → is_some (find_table (t ∷ ts) k.table) ≡ true
    here k within = ap (λ b. is_some (if b then Some t else find_table ts k.table)) (and_first (is_eq (table_cmp t.name k.table)) true within)

    later : (name : TableName) → is_some (find_table ts name) ≡ true → is_some (find_table (t ∷ ts) name) ≡ true
    later name f = by (is_eq (table_cmp t.name name))
      where
        by : (b : Bool) → is_some (if b then Some t else find_table ts name) ≡ true
        by true = refl
        by false = f

listed_spanned : (ts : List Table) (k : Key) → is_some (find_table ts k.table) ≡ true → list_any (λ s. in_span s k) (spans_of ts) ≡ true
listed_spanned [] k h = absurd (cc)
listed_spanned (t ∷ ts) k h = by (is_eq (table_cmp t.name k.table)) refl (listed_spanned ts k)
  where
    by : (b : Bool) → is_eq (table_cmp t.name k.table) ≡ b → (is_some (find_table ts k.table) ≡ true → list_any (λ s. in_span s k) (spans_of ts) ≡ true) → list_any (λ s. in_span s k) (spans_of (t ∷ ts)) ≡ true
    by true e rest = ap (λ b. (b && true) || list_any (λ s. in_span s k) (spans_of ts)) e
    by false e rest = ap (λ b. (b && true) || list_any (λ s. in_span s k) (spans_of ts)) e ∙ rest (sym (ap (λ b. is_some (if b then Some t else find_table ts k.table)) e) ∙ h)

sweep_begins : (catalog : List Table) (now : ℤ) (g : Database) (t : Table) (ts : List Table) → catalog ≡ t ∷ ts → LeftAlone catalog g now g (whole t ∷ spans_of ts) []
sweep_begins catalog now g t ts is = record {
  tables = subst (λ xs. AllByRecursion (IsOfCatalog catalog) (spans_of xs)) is (spans_listed catalog catalog (λ name f. f));
  rise = tt;
  matches = tt;
  vacuumed = λ k listed outside none. false_true (sym (subst (λ xs. list_any (λ s. in_span s k) (spans_of xs) ≡ false) (sym is) outside) ∙ listed_spanned catalog k listed);
}

-- the keys of an access are of tables of the catalog
access_listed : (catalog : List Table) (st : Statement) (table : Table) → named_table catalog st ≡ Some table → IsOfTables catalog (access_of table st)
access_listed catalog st table named k h =
    let name : k.table ≡ table.name = table_exact k.table table.name (equal_of _ (own table st k h)) in
    ap (λ (n : TableName). is_some (find_table catalog n)) name ∙ ap (λ (o : Option Table). is_some o) (found_itself catalog (table_of st) table named)

---- the whole

module _ (q : Taking) (apart : IsApart q.catalog) (is : is_catalog q.catalog ≡ true) (gate : (q.gate.vacuum_runs ≡ false) × (q.gate.open_elsewhere ≡ false)) (time : is_moment q.now ≡ true) (g : Database) (sound : IsSound q.catalog g) (d : Tables) (are_images : AreImagesOf q.catalog g d) (fit : tables_are_well_typed q.catalog d ≡ true) (o : Option OpenTransaction) (c : ClientAt) (between : Between q.catalog g o c) (new : IsUnused q.catalog g q.fresh) (result : Option Answer) (e : ClientAt) where
  abbrev fresh : TxId
  fresh = q.fresh

  -- what a taking comes to
  abbrev Taken : Result Statement Refusal → Type 0
  Taken says = LeadsTo q.catalog g fresh q.now says g o result e

  turned : (says : Result Statement Refusal) (z : Answer) → rejected q.catalog (is_some o) says ≡ Some z → IsAnsweredAtOnce c z result e → Taken says
  turned says z away took = Answers z took.answer (Turned away refl (subst (Between q.catalog g o) (sym took.same) between))

  ---- BEGIN, COMMIT, ROLLBACK

  starts : OpenAlone q.catalog g [] [] fresh nothing
  starts = record { past = []; seen = nothing_seen q.catalog g; body = body_begins q.catalog (tables_are_well_typed q.catalog); keys = λ e same_rows fits. refl; new = new }

  begin_case : (x : Option TxnAt) → c.txn ≡ x → (y : Option OpenTransaction) → o ≡ y → IsTxnOf q.catalog g y x → BeginPost q.gate fresh c x result e → Taken (Ok statement.Begin)
  begin_case (Some t) f (Some b) u s took = turned (Ok statement.Begin) (refused 4) (ap (λ w. rejected q.catalog (is_some w) (Ok statement.Begin)) u) took
  begin_case (Some t) f None u s took = absurd s
  begin_case None f (Some b) u s took = absurd s
  begin_case None f None u s took =
      let k : GatePost false fresh c result e = subst (λ w. GatePost w fresh c result e) gate.0 took in
      Answers answer.Done k.0 (Begun refl u refl refl (subst (Between q.catalog g (Some (record { id = fresh; statements = []; answers = [] }))) (sym k.1) (record { free = refl; plan = refl; txn = (refl, refl, starts) })))

  commit_case : (x : Option TxnAt) → c.txn ≡ x → (y : Option OpenTransaction) → o ≡ y → IsTxnOf q.catalog g y x → CommitStartPost q.now c x result e → Taken (Ok statement.Commit)
  commit_case None f None u s took = turned (Ok statement.Commit) (refused 5) (ap (λ w. rejected q.catalog (is_some w) (Ok statement.Commit)) u) took
  commit_case None f (Some b) u s took = absurd s
  commit_case (Some t) f None u s took = absurd s
  commit_case (Some t) f (Some b) u s took =
      More statement.Commit refl took.0 (Commits b (committing t q.now) (record { work = txn_work t q.now; stage = preparing (txn_work t q.now) 0 }) t.seen u refl
      (ap (λ (w : ClientAt). w.vacuum) took.1 ∙ between.free) (ap (λ (w : ClientAt). w.txn) took.1) (ap (λ (w : ClientAt). w.plan) took.1) refl work s.2
      (commit_begins q.catalog g (txn_work t q.now) (subst (WorkAlone q.catalog g) (sym work) (work_alone q.catalog s.2.past g t.seen s.2.seen b.id q.now s.2.new time))))
    where
      work : txn_work t q.now ≡ work_of b.id q.now t.seen
      work = ap (λ (i : TxId). work_of i q.now t.seen) s.1

  rollback_case : (x : Option TxnAt) → c.txn ≡ x → (y : Option OpenTransaction) → o ≡ y → IsTxnOf q.catalog g y x → RollbackPost c x result e → Taken (Ok statement.Rollback)
  rollback_case None f None u s took = turned (Ok statement.Rollback) (refused 5) (ap (λ w. rejected q.catalog (is_some w) (Ok statement.Rollback)) u) took
  rollback_case None f (Some b) u s took = absurd s
  rollback_case (Some t) f None u s took = absurd s
  rollback_case (Some t) f (Some b) u s took = Answers answer.Done took.0 (RolledBack b refl u refl refl (subst (Between q.catalog g None) (sym took.1) (record { free = between.free; plan = refl; txn = tt })))

  ---- VACUUM

  vacuum_case : (x : Option TxnAt) → c.txn ≡ x → (y : Option OpenTransaction) → o ≡ y → IsTxnOf q.catalog g y x → (ts : List Table) → q.catalog ≡ ts → VacuumStartPost (is_some x || q.gate.open_elsewhere) ts c result e → Taken (Ok statement.Vacuum)
  vacuum_case (Some t) f (Some b) u s ts k took = turned (Ok statement.Vacuum) answer.OpenTransactions (ap (λ w. rejected q.catalog (is_some w) (Ok statement.Vacuum)) u) took
  vacuum_case (Some t) f None u s ts k took = absurd s
  vacuum_case None f (Some b) u s ts k took = absurd s
  vacuum_case None f None u s [] k took =
      let h : IsAnsweredAtOnce c (answer.Count 0) result e = subst (λ w. VacuumStartPost w [] c result e) gate.1 took in
      Answers (answer.Count 0) h.answer (Vacuumed refl u (quiet_refl q.catalog g sound) (inr (inr (0, refl, has_vacuumed q.catalog g g q.now 0 (removed_none q.catalog g) (λ y listed. absurd (nowhere y (subst (λ xs. is_some (find_table xs y.table) ≡ true) k listed)))))) (subst (Between q.catalog g None) (sym h.same) (subst (λ w. Between q.catalog g w c) u between)))
    where
      nowhere : (y : Key) → is_some (find_table [] y.table) ≡ true → ⊥
      nowhere y h = cc
  vacuum_case None f None u s (t ∷ ts) k took =
      let h : (result ≡ None) × (e ≡ record c { vacuum = Some (sweeping (t ∷ ts)) }) = subst (λ w. VacuumStartPost w (t ∷ ts) c result e) gate.1 took in
      More statement.Vacuum refl h.0 (InVacuum (sweeping (t ∷ ts)) u refl (ap (λ (w : ClientAt). w.vacuum) h.1) (ap (λ (w : ClientAt). w.txn) h.1 ∙ f) (ap (λ (w : ClientAt). w.plan) h.1 ∙ between.plan) (removed_none q.catalog g, sweep_begins q.catalog q.now g t ts k) (quiet_refl q.catalog g sound))

  ---- a statement on a table

  -- neither a word nor refused
  record IsOnTable (st : Statement) : Type 0 where
    away_open : rejected q.catalog true (Ok st) ≡ option_map (λ r. answer.Refused r) (refusal_of q.catalog st)
    away_none : rejected q.catalog false (Ok st) ≡ Some (refused 5)

  ask_case : (st : Statement) → has_all_literals st ≡ true → IsOnTable st → (x : Option TxnAt) → c.txn ≡ x → (y : Option OpenTransaction) → o ≡ y → IsTxnOf q.catalog g y x → AskPost q.catalog st c x result e → Taken (Ok st)
  ask_case st literals on None f None u s took = turned (Ok st) (refused 5) (ap (λ w. rejected q.catalog (is_some w) (Ok st)) u ∙ on.away_none) took
  ask_case st literals on None f (Some b) u s took = absurd s
  ask_case st literals on (Some t) f None u s took = absurd s
  ask_case st literals on (Some t) f (Some b) u s took = by_refusal (refusal_of q.catalog st) refl
    where
      opened : OpenAlone q.catalog g b.statements b.answers t.id t.seen
      opened = subst (λ (i : TxId). OpenAlone q.catalog g b.statements b.answers i t.seen) (sym s.1) s.2

      rows : (table : Table) → refusal_of q.catalog st ≡ None → named_table q.catalog st ≡ Some table → RowsPost (plan_of table st) (access_of table st) c t result e → Taken (Ok st)
      rows table accepted named r = by_test (is_covered t.seen (access_of table st))
          (λ k.
          let w = at_once q.catalog g sound d are_images fit q.now b.statements b.answers t s.0 (plan_of table st) (access_of table st) asked opened k in
          Answers (given_answer t (gives (plan_of table st) (access_of table st) t)) (r.known k).0 (Answered b st (plan_of table st) (access_of table st) (given_left t (gives (plan_of table st) (access_of table st) t)).seen refl refl asked stays u (settles_refl q.catalog g)
          (subst (λ (i : TxId). AnsweredAlone q.catalog g b.statements b.answers st (access_of table st) q.now i (given_answer t (gives (plan_of table st) (access_of table st) t)) (given_left t (gives (plan_of table st) (access_of table st) t)).seen) s.1 w.2)
          (record { t = given_left t (gives (plan_of table st) (access_of table st) t); txn = ap (λ (y : ClientAt). y.txn) (r.known k).1; idle = w.0; id = w.1 ∙ s.1; seen = refl; free = ap (λ (y : ClientAt). y.vacuum) (r.known k).1 ∙ between.free; plan = ap (λ (y : ClientAt). y.plan) (r.known k).1 })))
          (λ k.
          More st refl (r.unknown k).0 (Reads b (reading t (access_of table st)) (plan_of table st) (access_of table st) (record { request = request_of (access_of table st); stage = Asking }) u
          (ap (λ (y : ClientAt). y.vacuum) (r.unknown k).1 ∙ between.free) (ap (λ (y : ClientAt). y.txn) (r.unknown k).1) (ap (λ (y : ClientAt). y.plan) (r.unknown k).1) refl refl asked refl s.1 opened tt (settles_refl q.catalog g) stays))
        where
          asked : IsAskedFor q.catalog (plan_of table st) (access_of table st)
          asked = record { is = is; named = named; asked = refl; accepted = accepted; literals = literals; access = refl; tables = access_listed q.catalog st table named }

          stays : rejected q.catalog true (Ok st) ≡ None
          stays = on.away_open ∙ ap (option_map (λ r. answer.Refused r)) accepted

      by_table : (w : Option Table) → refusal_of q.catalog st ≡ None → named_table q.catalog st ≡ w → Taken (Ok st)
      by_table (Some table) accepted named = rows table accepted named (took.reads table accepted named)
      by_table None accepted named = absurd (let k : Some (record { kind = 6; place = 0 }) ≡ None = sym (ap (λ (w : Option Table). refusal_by w st) named) ∙ accepted in cc)

      by_refusal : (w : Option Refusal) → refusal_of q.catalog st ≡ w → Taken (Ok st)
      by_refusal (Some r) k = turned (Ok st) (answer.Refused r) (ap (λ w. rejected q.catalog (is_some w) (Ok st)) u ∙ on.away_open ∙ ap (option_map (λ r. answer.Refused r)) k) (took.refused r k)
      by_refusal None k = by_table (named_table q.catalog st) k refl

  ---- the whole

  statement_case : (text : List ℕ) (st : Statement) → ReadsAs text st → StatementPost q st c result e → Taken (Ok st)
  statement_case text statement.Begin h took = begin_case c.txn refl o refl between.txn took
  statement_case text statement.Commit h took = commit_case c.txn refl o refl between.txn took
  statement_case text statement.Rollback h took = rollback_case c.txn refl o refl between.txn took
  statement_case text statement.Vacuum h took = vacuum_case c.txn refl o refl between.txn q.catalog refl took
  statement_case text (statement.Insert s) h took = ask_case (statement.Insert s) (literals_read text (statement.Insert s) h) (record { away_open = refl; away_none = refl }) c.txn refl o refl between.txn took
  statement_case text (statement.Upsert s) h took = ask_case (statement.Upsert s) (literals_read text (statement.Upsert s) h) (record { away_open = refl; away_none = refl }) c.txn refl o refl between.txn took
  statement_case text (statement.Update s) h took = ask_case (statement.Update s) (literals_read text (statement.Update s) h) (record { away_open = refl; away_none = refl }) c.txn refl o refl between.txn took
  statement_case text (statement.Delete s) h took = ask_case (statement.Delete s) (literals_read text (statement.Delete s) h) (record { away_open = refl; away_none = refl }) c.txn refl o refl between.txn took
  statement_case text (statement.Select s) h took = ask_case (statement.Select s) (literals_read text (statement.Select s) h) (record { away_open = refl; away_none = refl }) c.txn refl o refl between.txn took

  text_case : (text : List ℕ) (says : Result Statement Refusal) → Parses text says → ParsedPost q says c result e → Taken says
  text_case text (Ok st) h took = statement_case text st h took
  text_case text (Err r) h took = turned (Err r) (answer.Refused r) refl took

-- Whatever a client that is alone takes.
pub takes : (t : ExecutedAlone) → LeadsTo t.taking.catalog t.g t.taking.fresh t.taking.now t.says t.g t.opened t.result t.after
takes t = let s = t.well_formed in text_case t.taking s.apart s.is (t.vacuums, t.opens) t.time t.g s.sound s.tables s.are_images s.fit t.opened t.before t.between t.new t.result t.after t.text t.says t.reads t.took
