-- Whatever a client takes keeps what ties the events to the clients.
use Rattle.std.proofs.Common.{◌≡◌, ◌≢◌, ℕ, ◌^◌, ◌<◌, Bool, true, false, ◌||◌, List, [], ◌∷◌, ◌++◌, Option, Some, None, refl, sym, ap, subst, ◌∙◌}
use Rattle.std.specs.Prelude.{IfSome, is_some}
use Rattle.std.proofs.lemmas.Bool.{eq-eqb}
use Rattle.law_clients.specs.Types.{Answer, Event, Key, Statement, Table, TableName, TxId}
use Rattle.sdb_types.proofs.Public.{by_test, table_exact}
use Rattle.sdb_record.specs.Meta.{is_moment}
use Rattle.sdb_schema.specs.Catalog.{is_catalog}
use Rattle.sdb_model.specs.declared.answer.Answer.TheVariants as answer
use Rattle.sdb_model.specs.declared.event.Event.TheVariants as event
use Rattle.sdb_model.specs.declared.statement.Statement.TheVariants as statement
use Rattle.sdb_model.specs.Catalogs.{catalog_after}
use Rattle.sdb_model.specs.Causes.{refused}
use Rattle.sdb_model.specs.Exec.{find_table, named_table, table_of}
use Rattle.sdb_model.specs.Sql.{Reads, reads_commit, reads_rollback}
use Rattle.sdb_exec.specs.Plans.{has_all_literals}
use Rattle.sdb_model.specs.Reads.{access_of}
use Rattle.sdb_snapshot.specs.Sets.{IsSetInvariant}
use Rattle.sdb_sqltext.proofs.Public.{commit_read, one_statement, rollback_read}
use Rattle.sdb_txn.specs.declared.txn.Doing.TheVariants as doing
use Rattle.sdb_txn.specs.Txn.{TxnAt}
use Rattle.sdb_client.specs.Client.{ClientAt as Client, Taking, next_id, with_begun as client_begun}
use Rattle.sdb_client.proofs.Public.{names_table}
use Rattle.sdb_client.specs.Step.{AnsweredAtOnce, AtOnce, Begins, ByCatalog, CommitStarts, IsOnRows, LosesCommit, NoMemory, NoStatement, NoTable, NoneOpen, OpenAlready, OthersOpen, ReadKnown, ReadStarts, RollsBack, Step, Takes, VacuumRuns, VacuumStarts}
use Rattle.law_clients.specs.ReadAt.{IsOfData}
use Rattle.law_clients.specs.System.{ClientOk}
use Rattle.law_clients.specs.Invariant.{RunInvariant, IsInner, IsMild}
use Rattle.sdb_vacuum.specs.Vacuum.{whole}
use Rattle.law_clients.specs.About.{IsListed}
use Rattle.law_clients.specs.Fitting.{tables_are_well_typed}
use Rattle.law_clients.specs.States.{ClientState, IsGated, IsPlainAnswer, IsReady, doing_of, system_of}
use Rattle.law_clients.specs.Turns.{IsDataCatalog}
use Rattle.law_clients.proofs.RowsFit.{found_itself}
use Rattle.law_clients.proofs.Asked.{IsAsked, told_known, told_unknown}
use Rattle.law_clients.proofs.Accepted.{IsSo, at_open, other_no_begin, other_no_commit, refused_no_commit, refused_plain, told_begun, told_commit, told_outside, commit_lost, told_rollback, told_same, told_vacuum}
use Rattle.law_clients.proofs.Vacuums.{begun_in, scan_data}
use Rattle.sdb_types.specs.Exact.{equal_of}
use Rattle.sdb_exec.proofs.Public.{own}
use Rattle.sdb_model.specs.Tables.{is_data}

---- the keys of an access are of its table

reads_data : (catalog : List Table) (st : Statement) (table : Table) → named_table catalog st ≡ Some table → ((k : Key) → is_some (find_table catalog k.table) ≡ true → is_data k ≡ true) → IsOfData (access_of table st)
reads_data catalog st table named apart k h =
    let name : k.table ≡ table.name = table_exact k.table table.name (equal_of _ (own table st k h)) in
    apart k (ap (λ (n : TableName). is_some (find_table catalog n)) name ∙ ap (λ (o : Option Table). is_some o) (found_itself catalog (table_of st) table named))

---- what a text is read as

pub literals_read : (text : List ℕ) (st : Statement) → Reads text st → has_all_literals st ≡ true
literals_read text (statement.Insert s) h = eq-eqb _ _ h.2.1
literals_read text (statement.Upsert s) h = eq-eqb _ _ h.2.1
literals_read text (statement.Update s) h = refl
literals_read text (statement.Delete s) h = refl
literals_read text (statement.Select s) h = refl
literals_read text statement.Begin h = refl
literals_read text statement.Commit h = refl
literals_read text statement.Rollback h = refl
literals_read text statement.Vacuum h = refl

pub other_no_rollback : (text : List ℕ) (st : Statement) → Reads text st → st ≢ statement.Rollback → reads_rollback text ≡ false
other_no_rollback text st h other = by_test (reads_rollback text) (λ t. absurd (other (one_statement text st statement.Rollback h ((rollback_read text).0 t)))) (λ t. t)

-- A statement on a table.
pub record IsOnTable (st : Statement) : Type 0 where
  pub begin : st ≢ statement.Begin
  pub commit : st ≢ statement.Commit
  pub rollback : st ≢ statement.Rollback
  pub vacuum : st ≢ statement.Vacuum

pub on_table : (st : Statement) → is_some (table_of st) ≡ true → IsOnTable st
on_table statement.Begin names = absurd (cc)
on_table statement.Commit names = absurd (cc)
on_table statement.Rollback names = absurd (cc)
on_table statement.Vacuum names = absurd (cc)
on_table st names = record { begin = λ e. cc; commit = λ e. cc; rollback = λ e. cc; vacuum = λ e. cc }

pub inner_read : (text : List ℕ) (st : Statement) → Reads text st → IsOnTable st → IsInner text
inner_read text st h on = record { begin = other_no_begin text st h on.begin; commit = other_no_commit text st h on.commit; rollback = other_no_rollback text st h on.rollback }

---- the answer of a taking, by whether it is out of memory

pub by_memory : {X : Type 0} (r : Option Answer) → (r ≡ Some answer.NoMemory → X) → (r ≢ Some answer.NoMemory → X) → X
by_memory None a b = b (λ e. cc)
by_memory (Some (answer.Rows rows)) a b = b (λ e. cc)
by_memory (Some (answer.Count n)) a b = b (λ e. cc)
by_memory (Some answer.Done) a b = b (λ e. cc)
by_memory (Some answer.Committed) a b = b (λ e. cc)
by_memory (Some (answer.Duplicate key)) a b = b (λ e. cc)
by_memory (Some (answer.Busy key id at)) a b = b (λ e. cc)
by_memory (Some (answer.Conflict key found)) a b = b (λ e. cc)
by_memory (Some (answer.Expired id)) a b = b (λ e. cc)
by_memory (Some answer.Faulted) a b = b (λ e. cc)
by_memory (Some (answer.Unknown id)) a b = b (λ e. cc)
by_memory (Some (answer.BadRecord key)) a b = b (λ e. cc)
by_memory (Some (answer.Refused r)) a b = b (λ e. cc)
by_memory (Some answer.Vacuuming) a b = b (λ e. cc)
by_memory (Some answer.OpenTransactions) a b = b (λ e. cc)
by_memory (Some answer.NoMemory) a b = a refl

-- no transaction is open, of the client or of another that goes on
none_open : (o : Option TxnAt) (elsewhere : Bool) → (is_some o || elsewhere) ≡ false → (o ≡ None) × (elsewhere ≡ false)
none_open None elsewhere k = (refl, k)
none_open (Some t) elsewhere k = absurd (cc)

---- the whole

module _ (catalog : List Table) (q : Taking) (events : List Event) (current : q.catalog ≡ catalog_after catalog events) (states : ℕ → ClientState) (g : RunInvariant catalog tables_are_well_typed events (system_of states) (doing_of states)) (c : ℕ) (ready : IsReady states c) (text : List ℕ) (is : is_catalog q.catalog ≡ true)
    (apart : (k : Key) → is_some (find_table q.catalog k.table) ≡ true → is_data k ≡ true) (moment : is_moment q.now ≡ true) (gated : IsGated q.gate states c) (numbered : q.fresh ≡ next_id (states c).client) where
  abbrev now : Client
  now = (states c).client

  abbrev So : Option Answer → Client → Type 0
  So result d = IsSo catalog tables_are_well_typed states c d (events ++ event.Take c text result ∷ [])

  kept : (t : TxnAt) → now.txn ≡ Some t → IsSetInvariant t.seen.read_set t.seen.writes
  kept t some = (subst (ClientOk g.plan g.past c) (at_open catalog tables_are_well_typed events states g c ready t some) (g.system.each c)).1.kept

  outside : (b : Answer) → now.txn ≡ None → IsMild b → So (Some b) now
  outside b none mild = told_outside catalog tables_are_well_typed events states g c ready text b none mild

  same : (b : Answer) → IsPlainAnswer b → reads_commit text ≡ false → So (Some b) now
  same b plain no_commit = told_same catalog tables_are_well_typed events states g c ready text b plain no_commit

  at_once : (b : Answer) → AtOnce now q text b → So (Some b) now
  at_once b (NoStatement r refuses) = same (answer.Refused r) (refused_plain r) (refused_no_commit text r refuses)
  at_once b (OpenAlready t reads e) = same (refused 4) (refused_plain _) (other_no_commit text statement.Begin reads (λ k. cc))
  at_once b (NoneOpen st reads needs e) = outside (refused 5) e (refused_plain _).mild
  at_once b (VacuumRuns reads e shut) = outside answer.Vacuuming e (record { undone = refl; agrees = refl; other = λ k. cc })
  at_once b (OthersOpen reads e) = same answer.OpenTransactions (record { idle = refl; mild = record { undone = refl; agrees = refl; other = λ k. cc } }) (other_no_commit text statement.Vacuum reads (λ k. cc))
  at_once b (NoTable reads e k) = outside (answer.Count 0) (none_open now.txn q.gate.open_elsewhere e).0 (record { undone = refl; agrees = refl; other = λ k. cc })
  at_once b (ByCatalog st t r reads names e k) = same (answer.Refused r) (refused_plain r) (other_no_commit text st reads (on_table st names).commit)
  at_once b (NoMemory no_commit) = same answer.NoMemory (record { idle = refl; mild = record { undone = refl; agrees = refl; other = λ k. cc } }) no_commit

  asked : (t : TxnAt) (table : Table) (st : Statement) → IsOnRows now q text t table st → IsAsked (catalog_after catalog events) text st table
  asked t table st on = subst (λ (ts : List Table). IsAsked ts text st table) current (record { is = is; named = on.named; accepted = on.accepted; literals = literals_read text st on.reads; reads = on.reads; no_commit = other_no_commit text st on.reads (on_table st (names_table q.catalog st table on.named)).commit })

  idle_txn : (t : TxnAt) → now.txn ≡ Some t → t.doing ≡ doing.Idle
  idle_txn t e = subst (λ (o : Option TxnAt). IfSome o (λ u. u.doing ≡ doing.Idle)) e ready.idle.still

  takes : (result : Option Answer) (d : Client) → d.begun < 2 ^ 64 → Step now (Takes q text) result d → So result d
  takes result d few (AnsweredAtOnce {a = b} at) = at_once b at
  takes result d few (Begins reads e shut) =
      subst (λ (i : TxId). So (Some answer.Done) (client_begun now i)) (sym numbered) (told_begun catalog tables_are_well_typed events states g c ready q.gate text gated shut e reads few)
  takes result d few (RollsBack t reads e) = told_rollback catalog tables_are_well_typed events states g c ready text t e reads
  takes result d few (LosesCommit reads) = commit_lost catalog tables_are_well_typed events states g c ready text reads
  takes result d few (CommitStarts t reads e) = told_commit catalog tables_are_well_typed events states g c ready text t q.now e ((commit_read text).1 reads) moment
  takes result d few (VacuumStarts t ts reads e k) =
      let none = none_open now.txn q.gate.open_elsewhere e in
      let listed : IsListed q.catalog t.name = subst (λ (xs : List Table). IsListed xs t.name) (sym k) (begun_in t ts).0 in
      told_vacuum catalog tables_are_well_typed events states g c ready q.gate text t ts gated none.1 none.0 (scan_data q.catalog (whole t) listed apart)
  takes result d few (ReadKnown t table st on known) = told_known catalog events states g c ready text st table (asked t table st on) t on.opened (idle_txn t on.opened) (kept t on.opened) known
  takes result d few (ReadStarts t table st on unknown) =
      told_unknown catalog events states g c ready text st table (asked t table st on) t on.opened (idle_txn t on.opened) (kept t on.opened) (reads_data q.catalog st table on.named apart) (inner_read text st on.reads (on_table st (names_table q.catalog st table on.named)))

-- A client takes a text under the catalog of the moment, where the gate says so of the other clients.
pub record TakesNow (catalog : List Table) (events : List Event) (states : ℕ → ClientState) (c : ℕ) (q : Taking) : Type 0 where
  pub current : q.catalog ≡ catalog_after catalog events
  pub of_data : IsDataCatalog q.catalog
  pub moment : is_moment q.now ≡ true
  pub ready : IsReady states c
  pub gated : IsGated q.gate states c
  pub numbered : q.fresh ≡ next_id (states c).client

module _ {catalog : List Table} {events : List Event} {states : ℕ → ClientState} {c : ℕ} {q : Taking} (g : RunInvariant catalog tables_are_well_typed events (system_of states) (doing_of states)) (t : TakesNow catalog events states c q) where
  pub takes_so : (text : List ℕ) {result : Option Answer} {d : Client} → d.begun < 2 ^ 64 → Step (states c).client (Takes q text) result d → IsSo catalog tables_are_well_typed states c d (events ++ event.Take c text result ∷ [])
  takes_so text {result} {d} few step = takes catalog q events t.current states g c t.ready text t.of_data.is t.of_data.apart t.moment t.gated t.numbered result d few step
