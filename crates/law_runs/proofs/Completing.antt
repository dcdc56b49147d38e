-- Which answers are left to statements whose calls were served.
use Rattle.std.proofs.Common.{◌≡◌, ◌⊎◌, inl, inr, ℕ, ℤ, ◌<◌, ◌^◌, Bool, true, false, List, [], ◌∷◌, Option, Some, None, Ok, refl, sym, ap, subst, ◌∙◌}
use Rattle.std.specs.Prelude.{◌&&◌, Contains, if◌then◌else◌, is_some, nat_le, nat_lt}
use Rattle.std.specs.Option.{option_and_then, option_map, option_map_or}
use Rattle.std.specs.Result.{result_ok}
use Rattle.std.proofs.lemmas.List.Elements.{Contains-append_left, Contains-append_right, Contains-push}
use Rattle.std.specs.Cmp.{tied_itself}
use Rattle.std.specs.Ordering.{is_eq}
use Rattle.law_runs.specs.Types.{Answer, Decided, Decision, Event, Key, Record, Reply, Request, Script, Statement, Table, TxId}
use Rattle.sdb_types.specs.declared.record.Put.{Put}
use Rattle.sdb_types.specs.declared.record.Reply.TheVariants as reply
use Rattle.sdb_types.specs.declared.record.Request.TheVariants as ask
use Rattle.sdb_types.specs.Columns.{column}
use Rattle.sdb_types.specs.Contents.{put_at, tx_id, tx_state}
use Rattle.sdb_types.specs.Order.{key_cmp}
use Rattle.sdb_types.specs.Replies.{is_applied, is_fault}
use Rattle.sdb_types.proofs.Public.{clash, key_total, none_some, some_is}
use Rattle.sdb_record.specs.declared.coordinator.Decision.TheVariants as decision
use Rattle.sdb_record.specs.Coordinator.{coordinator_key_of, coordinator_row_of, decision_in, decision_in_value, id_in_values, id_of_key, if_empty, is_coordinator_table}
use Rattle.sdb_record.proofs.Public.{need-ok}
use Rattle.sdb_record.specs.Meta.{moment_in, need}
use Rattle.sdb_record.specs.Names.{tx_created_at}
use Rattle.sdb_model.specs.declared.answer.Answer.TheVariants as answer
use Rattle.sdb_model.specs.declared.statement.Statement.TheVariants as statement
use Rattle.sdb_model.specs.Calls.{StoreCall, calls_by, calls_of, clock_at, end_of, is_read, is_stored_reply, decision_found, decision_in_reply, decision_learned, decision_observed, is_of_row, put_by, record_at_key, records_observed}
use Rattle.sdb_model.specs.Causes.{AreCaused, IsBad, IsCaused, IsCommitOf, IsConflict, IsConflictAtCommit, IsCounted, IsDecided, IsRejected, MayPassMost, MeetsMisfit, PutsRow, before, is_select, may_pass}
use Rattle.sdb_model.specs.Counted.{IsPassedOver, IsResolved, is_seen}
use Rattle.sdb_model.specs.Catalogs.{catalog_after}
use Rattle.sdb_model.specs.Exec.{named_table, table_of}
use Rattle.sdb_model.specs.Follows.{Follows}
use Rattle.sdb_model.specs.InFlight as in_flight
use Rattle.sdb_model.specs.ReadSet.{read_finished, read_set_of}
use Rattle.sdb_model.specs.Requests.{keys_asked, only_of, records_put}
use Rattle.sdb_model.specs.Sql.{Reads, reads_begin, reads_commit, reads_rollback, reads_vacuum}
use Rattle.sdb_model.specs.Transactions.{Executed, client_of, commit_in, ending_in, from_begin, ordinal_of, statements_by}
use Rattle.sdb_sqltext.proofs.Public.{begin_read, commit_read, one_statement, rollback_read, vacuum_read}
use Rattle.law_clients.proofs.Public.{other_no_commit}
use Rattle.law_answers.specs.Counts.{CommitIsCounted}
use Rattle.law_answers.specs.Rolled.{AnsweredWereSeen, IsDealtWith, RolledBut}
use Rattle.law_answers.specs.Commits.{ObservesBad, PutsOutOfMemory}
use Rattle.law_answers.specs.Unfit.{AreStoredReplies}
use Rattle.law_answers.proofs.Public.{all_resolved, answered_seen, each_in, each_kept, kept_in, seen_no_faults, observed_bad, observed_read}
use Rattle.law_protocol.proofs.Public.{in_mapped, row_key_is}
use Rattle.sdb_model.proofs.Public.{only_in}
use Rattle.sdb_client.specs.Execution.{IsExecution, IsPlayable}
use Rattle.law_runs.specs.Complete.{CommitEnds, IsUncontended, UncontendedCommitsComplete, HasCommitted, IsCoordinatorRow, IsOnTable, IsServed, ObserveNone, ReadsUnresolved, RecoveriesComplete, RecoveryEnds, ResolvedAreNotBusy, SeenAreServed, StatementEnds, StatementsComplete}
use Rattle.law_runs.specs.Laws.{BusyIsOfReads, GivesUp, IsOwnDecision, row_put}
use Rattle.law_runs.proofs.Busy.{execution_busy}
use Rattle.law_runs.proofs.Endings.{execution_ends}
use Rattle.law_runs.proofs.GivesUp.{execution_due}
use Rattle.law_runs.proofs.ReadsOnce.{execution_few}
use Rattle.law_runs.proofs.Statements.{none_in}
use Rattle.law_runs.proofs.Steps.{execution_caused, execution_holds}

---- rows of the coordinator

-- what a decision is read from is a row of the coordinator
decided_row : (w : Decision) (row : Record) → IsDecided w (result_ok (decision_in row)) → IsCoordinatorRow row
unfolding decision_in id_of_key
decided_row w row h = by (is_coordinator_table row.key.table) h
  where
    by : (b : Bool) → IsDecided w (result_ok (need (if b then if_empty row.key.clustering (id_in_values row.key.partition) else None) tx_id (λ id. need (moment_in row.columns tx_created_at) tx_created_at (λ created_at. need (decision_in_value (column row.columns tx_state)) tx_state (λ d. Ok (record { decision = d; created_at = created_at })))))) → b ≡ true
    by true k = refl
    by false k = absurd k

-- the record that is at the key that a call names is among those that its reply shows
found_at : (q : Request) (r : Reply) (row : Record) → record_at_key q r ≡ Some (Some row) → Contains (records_observed r) row
found_at q r row e = by q r e
  where
    one : (found : Option Record) → Some found ≡ Some (Some row) → found ≡ Some row
    one found k = some_is found (Some row) k

    itself : Contains (row ∷ []) row
    itself = Contains-push [] row

    got : (found : Option Record) → found ≡ Some row → Contains (records_observed (reply.Found found)) row
    got found k = subst (λ (o : Option Record). Contains (records_observed (reply.Found o)) row) (sym k) itself

    unmet : (found : Option Record) → found ≡ Some row → Contains (records_observed (reply.NotMet found)) row
    unmet found k = subst (λ (o : Option Record). Contains (records_observed (reply.NotMet o)) row) (sym k) itself

    unmet_at : (place : ℕ) (found : Option Record) → found ≡ Some row → Contains (records_observed (reply.NotAll place found)) row
    unmet_at place found k = subst (λ (o : Option Record). Contains (records_observed (reply.NotAll place o)) row) (sym k) itself

    at : (o : Option Put) (place : ℕ) (found : Option Record) → option_map (λ (s : Key × Option Record). s.1) (only_of (option_map_or (λ (p : Put). (p.rec.key, found) ∷ []) o [])) ≡ Some (Some row) → Contains (records_observed (reply.NotAll place found)) row
    at None place found k = none_some (Some row) k
    at (Some p) place found k = unmet_at place found (one found k)

    by : (x : Request) (y : Reply) → record_at_key x y ≡ Some (Some row) → Contains (records_observed y) row
    by (ask.Get key) (reply.Found found) k = got found (one found k)
    by (ask.Get key) (reply.NotMet found) k = none_some (Some row) k
    by (ask.Get key) (reply.Rows rows) k = none_some (Some row) k
    by (ask.Get key) (reply.NotAll place there) k = none_some (Some row) k
    by (ask.Get key) reply.Applied k = none_some (Some row) k
    by (ask.Get key) reply.Fault k = none_some (Some row) k
    by (ask.Get key) reply.NoMemory k = none_some (Some row) k
    by (ask.Scan span) y k = none_some (Some row) k
    by (ask.PutIf rec condition) (reply.NotMet found) k = unmet found (one found k)
    by (ask.PutIf rec condition) (reply.Found found) k = none_some (Some row) k
    by (ask.PutIf rec condition) (reply.Rows rows) k = none_some (Some row) k
    by (ask.PutIf rec condition) (reply.NotAll place there) k = none_some (Some row) k
    by (ask.PutIf rec condition) reply.Applied k = none_some (Some row) k
    by (ask.PutIf rec condition) reply.Fault k = none_some (Some row) k
    by (ask.PutIf rec condition) reply.NoMemory k = none_some (Some row) k
    by (ask.DeleteIf key condition) (reply.NotMet found) k = unmet found (one found k)
    by (ask.DeleteIf key condition) (reply.Found found) k = none_some (Some row) k
    by (ask.DeleteIf key condition) (reply.Rows rows) k = none_some (Some row) k
    by (ask.DeleteIf key condition) (reply.NotAll place there) k = none_some (Some row) k
    by (ask.DeleteIf key condition) reply.Applied k = none_some (Some row) k
    by (ask.DeleteIf key condition) reply.Fault k = none_some (Some row) k
    by (ask.DeleteIf key condition) reply.NoMemory k = none_some (Some row) k
    by (ask.PutAll b) (reply.NotAll place found) k = at (put_at b place) place found k
    by (ask.PutAll b) (reply.NotMet found) k = none_some (Some row) k
    by (ask.PutAll b) (reply.Found found) k = none_some (Some row) k
    by (ask.PutAll b) (reply.Rows rows) k = none_some (Some row) k
    by (ask.PutAll b) reply.Applied k = none_some (Some row) k
    by (ask.PutAll b) reply.Fault k = none_some (Some row) k
    by (ask.PutAll b) reply.NoMemory k = none_some (Some row) k

-- a call found a row of the coordinator
abbrev FindsRow : StoreCall → Type 0
FindsRow m = (row : Record) × Contains (records_observed m.reply) row × IsCoordinatorRow row

-- a decision that is read at the key that a call names is that of a row found
found_there : (w : Decision) (m : StoreCall) → IsDecided w (option_and_then (λ found. option_and_then (λ row. result_ok (decision_in row)) found) (record_at_key m.request m.reply)) → FindsRow m
found_there w m h = by (record_at_key m.request m.reply) refl h
  where
    by : (o : Option (Option Record)) → record_at_key m.request m.reply ≡ o → IsDecided w (option_and_then (λ found. option_and_then (λ row. result_ok (decision_in row)) found) o) → FindsRow m
    by None e k = absurd k
    by (Some None) e k = absurd k
    by (Some (Some row)) e k = (row, found_at m.request m.reply row e, decided_row w row k)

-- a call that found a decision found a row
found_row : (id : TxId) (w : Decision) (m : StoreCall) → IsDecided w (decision_found id m) → FindsRow m
found_row id w m h = by (is_of_row id m.request) h
  where
    by : (b : Bool) → IsDecided w (if b then option_and_then (λ found. option_and_then (λ row. result_ok (decision_in row)) found) (record_at_key m.request m.reply) else None) → FindsRow m
    by true k = found_there w m k
    by false k = absurd k

-- what showed a decision first is one of the calls
learned_by : (w : Decision) (id : TxId) (calls : List StoreCall) → IsDecided w (decision_learned calls id) → (m : StoreCall) × Contains calls m × IsDecided w (decision_observed id m)
learned_by w id [] h = absurd h
learned_by w id (x ∷ xs) h = by (decision_observed id x) refl (λ k. learned_by w id xs k) h
  where
    by : (o : Option Decided) → decision_observed id x ≡ o → (IsDecided w (decision_learned xs id) → (m : StoreCall) × Contains xs m × IsDecided w (decision_observed id m)) → IsDecided w (if is_some o then o else decision_learned xs id) → (m : StoreCall) × Contains (x ∷ xs) m × IsDecided w (decision_observed id m)
    by None e later k = let z = later k in (z.0, Contains-append_right (x ∷ []) xs z.0 z.1, z.2)
    by (Some d) e later k = (x, Contains-append_left (x ∷ []) xs x (Contains-push [] x), subst (IsDecided w) (sym e) k)

-- it put the row, and was applied, or it found a row
observed_by : (id : TxId) (w : Decision) (m : StoreCall) → IsDecided w (decision_observed id m) → (PutsRow id w m × (m.reply ≡ reply.Applied)) ⊎ FindsRow m
observed_by id w m h = by (is_of_row id m.request) refl h
  where
    applied : (r : Reply) → is_applied r ≡ true → r ≡ reply.Applied
    applied reply.Applied e = refl
    applied (reply.NotMet found) e = clash (sym e)
    applied (reply.Found found) e = clash (sym e)
    applied (reply.Rows rows) e = clash (sym e)
    applied (reply.NotAll place there) e = clash (sym e)
    applied reply.Fault e = clash (sym e)
    applied reply.NoMemory e = clash (sym e)

    there : (o : Option (Option Record)) → record_at_key m.request m.reply ≡ o → IsDecided w (option_and_then (λ row. result_ok (decision_in row)) (option_and_then (λ found. found) o)) → FindsRow m
    there None e k = absurd k
    there (Some None) e k = absurd k
    there (Some (Some row)) e k = (row, found_at m.request m.reply row e, decided_row w row k)

    observed : (t : Bool) → is_applied m.reply ≡ t → is_of_row id m.request ≡ true → IsDecided w (option_and_then (λ row. result_ok (decision_in row)) (if t then put_by m.request else option_and_then (λ found. found) (record_at_key m.request m.reply))) → (PutsRow id w m × (m.reply ≡ reply.Applied)) ⊎ FindsRow m
    observed true e f k = inl ((f, k), applied m.reply e)
    observed false e f k = inr (there (record_at_key m.request m.reply) refl k)

    by : (b : Bool) → is_of_row id m.request ≡ b → IsDecided w (if b then decision_in_reply m.request m.reply else None) → (PutsRow id w m × (m.reply ≡ reply.Applied)) ⊎ FindsRow m
    by true e k = observed (is_applied m.reply) refl e k
    by false e k = absurd k

---- puts of rows

-- a record that a request puts is at a key that it names, and the request is no read
puts_at : (q : Request) (r : Record) → Contains (records_put q) r → Contains (keys_asked q) r.key × (is_read q ≡ false)
puts_at (ask.Get key) r h = none_in r h
puts_at (ask.Scan span) r h = none_in r h
puts_at (ask.PutIf rec c) r h = (in_mapped (λ (x : Record). x.key) (records_put (ask.PutIf rec c)) r h, refl)
puts_at (ask.DeleteIf key c) r h = none_in r h
puts_at (ask.PutAll b) r h = (in_mapped (λ (x : Record). x.key) (records_put (ask.PutAll b)) r h, refl)

-- a row that a decision is read from names its transaction
row_names : (row : Record) (d : Decided) → decision_in row ≡ Ok d → (id : TxId) × (id.0 < 2 ^ 128) × (row.key ≡ coordinator_key_of id)
unfolding decision_in
row_names row d h = let n = need-ok (id_of_key row.key) tx_id _ d h in let k = row_key_is row.key n.0 n.1 in (n.0, k.0, k.1)

-- what puts a row alone puts no other record
alone_puts : (id u : TxId) (w d : Decision) (now : ℤ) (m : StoreCall) → m.request ≡ row_put u d now → in_flight.PutsRow id w m.request → PutsRow id w m
alone_puts id u w d now m asks p = (
  ap (is_of_row id) asks ∙ ap (λ (r : Record). is_eq (key_cmp r.key (coordinator_key_of id))) same ∙ ap (λ (k : Key). is_eq (key_cmp k (coordinator_key_of id))) p.key ∙ ap is_eq (tied_itself key_total (coordinator_key_of id)),
  subst (IsDecided w) (sym (ap (option_and_then (λ (row : Record). result_ok (decision_in row))) (ap put_by asks ∙ ap Some same) ∙ ap result_ok p.well_formed)) p.same,
)
  where
    same : coordinator_row_of u d now ≡ p.row
    same = only_in (coordinator_row_of u d now) p.row (subst (λ (q : Request). Contains (records_put q) p.row) asks p.puts)

---- texts

-- the COMMIT of a transaction reads as COMMIT
commit_text : (events : List Event) (client : ℕ) (s : Executed) (id : TxId) → IsCommitOf events client s id → reads_commit s.text ≡ true
commit_text events client s id h = by (from_begin (ordinal_of id) (statements_by (client_of id) events)) h.1
  where
    test : (o : Option Executed) → option_and_then (λ (x : Executed). if reads_commit x.text then Some x else None) o ≡ Some s → reads_commit s.text ≡ true
    test None e = none_some s e
    test (Some x) e = pick (reads_commit x.text) refl e
      where
        pick : (t : Bool) → reads_commit x.text ≡ t → (if t then Some x else None) ≡ Some s → reads_commit s.text ≡ true
        pick true t z = ap (λ (y : Executed). reads_commit y.text) (sym (some_is x s z)) ∙ t
        pick false t z = none_some s z

    by : (r : List Executed) → commit_in r ≡ Some s → reads_commit s.text ≡ true
    by r e = test (ending_in r) e

-- a statement on a table is no COMMIT
on_table : (st : Statement) → is_some (table_of st) ≡ true → st ≡ statement.Commit → ⊥
on_table st h e = clash (sym h ∙ ap (λ (x : Statement). is_some (table_of x)) e)

-- a COMMIT writes no more keys than it may
passes_none : (counted found : ℕ) (st : Statement) → st ≡ statement.Commit → may_pass counted found st ≡ true → ⊥
passes_none counted found st e h = clash (sym h ∙ ap (may_pass counted found) e)

---- answers of an execution

module _ (script : Script) (events : List Event) (playable : IsPlayable script) (x : IsExecution script events) where
  caused : AreCaused script.catalog events
  caused = (execution_caused script events playable x).caused

  busy : BusyIsOfReads events
  busy = execution_busy script events playable x

  module _ (client : ℕ) (s : Executed) where
    abbrev calls : List StoreCall
    calls = calls_of events client s

    ---- COMMIT

    module _ (a : Answer) (h : IsServed script.catalog events client s a) (alone : IsUncontended events client s) where
      commits : Reads s.text statement.Commit
      commits = (commit_read s.text).0 alone.commit

      no_row : (m : StoreCall) → Contains calls m → FindsRow m → ⊥
      no_row m has f = alone.undecided m f.0 has f.1 f.2

      committed : (id : TxId) → IsCommitOf events client s id → IsDecided decision.Committed (decision_learned calls id) → HasCommitted events client s
      committed id of says = by (learned_by decision.Committed id calls says)
        where
          by : (m : StoreCall) × Contains calls m × IsDecided decision.Committed (decision_observed id m) → HasCommitted events client s
          by (m, has, observed) = put (observed_by id decision.Committed m observed)
            where
              put : (PutsRow id decision.Committed m × (m.reply ≡ reply.Applied)) ⊎ FindsRow m → HasCommitted events client s
              put (inl z) = record { id = id; commit = of; put = m; among = has; puts = z.0; applied = z.1 }
              put (inr f) = absurd (no_row m has f)

      moved : (key : Key) (found : Option Record) → IsConflict events client s key found → ⊥
      moved key found (id, inl z) = by z.1
        where
          by : IsConflictAtCommit events client s id key found → ⊥
          by (inl y) = (alone.unchanged id z.0).observed key found y.1 y.0
          by (inr y) = (alone.unchanged id z.0).agreed key y.1
      moved key found (id, inr z) = clash (sym alone.commit ∙ z.1)

      -- a call that puts a row among its records puts it alone
      puts_alone : (id : TxId) (w : Decision) (m : StoreCall) → Contains calls m → in_flight.PutsRow id w m.request → PutsRow id w m
      puts_alone id w m has p = by (execution_due script events playable x client s m names.0 h.among has names.1 (subst (Contains (keys_asked m.request)) names.2 at.0, at.1))
        where
          names : (u : TxId) × (u.0 < 2 ^ 128) × (p.row.key ≡ coordinator_key_of u)
          names = row_names p.row p.decided p.well_formed

          at : Contains (keys_asked m.request) p.row.key × (is_read m.request ≡ false)
          at = puts_at m.request p.row p.puts

          by : IsOwnDecision events client s names.0 m ⊎ GivesUp events calls m names.0 → PutsRow id w m
          by (inl o) = alone_puts id names.0 w o.decision (clock_at events s.accepted) m o.asks p
          by (inr g) = alone_puts id names.0 w decision.Aborted (clock_at events g.look.at) m g.asks p

      starved : a ≡ answer.NoMemory → (id : TxId) (m : StoreCall) → IsCommitOf events client s id → Contains calls m → in_flight.PutsRow id decision.Committed m.request → ⊥
      starved e id m of has puts =
          let counted : CommitIsCounted (read_set_of events id) id s.answer (calls_of events (client_of id) s) = (execution_caused script events playable x).counted.commits id s of.1 in
          let none : PutsOutOfMemory id calls = subst (λ (c : ℕ). PutsOutOfMemory id (calls_of events c s)) of.0 (counted.starved (h.is ∙ ap Some e)) in
          (h.served m has).1 (each_in (λ (y : StoreCall). PutsRow id decision.Committed y → y.reply ≡ reply.NoMemory) calls m none has (puts_alone id decision.Committed m has puts))

      other : (st : Statement) → Reads s.text st → st ≡ statement.Commit
      other st reads = one_statement s.text st statement.Commit reads commits

      commit_ends : (b : Answer) → a ≡ b → IsCaused script.catalog events client s b → CommitEnds events client s b
      commit_ends (answer.Rows rows) e z = clash (sym z.2 ∙ ap is_select (other z.0 z.1))
      commit_ends (answer.Count n) e z = absurd (subst (λ (st : Statement). IsCounted events client s st n) (other z.0 z.1) z.2)
      commit_ends answer.Done e z = absurd (done z)
        where
          done : Reads s.text statement.Begin ⊎ Reads s.text statement.Rollback → ⊥
          done (inl y) = let f = other statement.Begin y in cc
          done (inr y) = let f = other statement.Rollback y in cc
      commit_ends answer.Committed e z = committed z.0 z.1 z.2
      commit_ends (answer.Duplicate key) e z = absurd (let f = other (statement.Insert z.1) z.2 in cc)
      commit_ends (answer.Busy key id at) e z = clash (sym alone.commit ∙ (busy client s key id at h.among (h.is ∙ ap Some e)).0)
      commit_ends (answer.Conflict key found) e z = absurd (moved key found z)
      commit_ends (answer.Expired id) e z = absurd (no_row z.call z.among (found_row id decision.Aborted z.call z.aborted))
      commit_ends answer.Faulted e z = clash (sym z.2 ∙ (h.served z.0 z.1).0)
      commit_ends (answer.Unknown id) e z = clash (sym (ap is_fault z.deciding.2) ∙ (h.served z.put z.deciding.0).0)
      commit_ends (answer.BadRecord key) e (inl z) =
          let row : is_coordinator_table key.table ≡ true = (execution_ends script events playable x client s (answer.BadRecord key) h.among (h.is ∙ ap Some e)).bad key (h.is ∙ ap Some e) alone.commit in
          absurd (alone.undecided z.0 z.1 z.2 z.3 (ap (λ (k : Key). is_coordinator_table k.table) z.4 ∙ row))
      commit_ends (answer.BadRecord key) e (inr z) = none_some z.table (sym (ap (named_table (catalog_after script.catalog (before s events))) (other z.statement z.over.0)) ∙ z.over.1)
      commit_ends (answer.Refused r) e z = absurd (refused z)
        where
          refused : IsRejected script.catalog (before s events) client s.text (answer.Refused r) ⊎ ((r.kind ≡ 15) × (r.place ≡ 0) × MayPassMost events client s) → ⊥
          refused (inl y) = h.accepted (answer.Refused r) y
          refused (inr y) = passes_none _ _ y.2.statement (other y.2.statement y.2.read) y.2.past
      commit_ends answer.Vacuuming e z = absurd (h.accepted answer.Vacuuming z)
      commit_ends answer.OpenTransactions e z = absurd (h.accepted answer.OpenTransactions z)
      commit_ends answer.NoMemory e z = starved e

    ---- statements on tables

    module _ (a : Answer) (h : IsServed script.catalog events client s a) (sound : ObserveNone IsBad calls) where
      misfit : (key : Key) → IsCaused script.catalog events client s (answer.BadRecord key) → MeetsMisfit script.catalog events client s key
      misfit key (inl z) = absurd (sound z.0 z.1 z.2 z.3 z.5)
      misfit key (inr z) = z

      module _ (st : Statement) (on : IsOnTable s.text st) where
        no_commit : reads_commit s.text ≡ false
        no_commit = other_no_commit s.text st on.reads (on_table st on.table)

        same : (y : Statement) → Reads s.text y → y ≡ st
        same y reads = one_statement s.text y st reads on.reads

        none_commits : (id : TxId) → IsCommitOf events client s id → ⊥
        none_commits id of = clash (sym (commit_text events client s id of) ∙ no_commit)

        no_table : (y : Statement) → Reads s.text y → is_some (table_of y) ≡ false → ⊥
        no_table y reads none = clash (sym on.table ∙ ap (λ (t : Statement). is_some (table_of t)) (sym (same y reads)) ∙ none)

        statement_ends : (b : Answer) → a ≡ b → IsCaused script.catalog events client s b → StatementEnds script.catalog events client s st b
        statement_ends (answer.Rows rows) e z = ap is_select (sym (same z.0 z.1)) ∙ z.2
        statement_ends (answer.Count n) e z = subst (λ (y : Statement). IsCounted events client s y n) (same z.0 z.1) z.2
        statement_ends answer.Done e z = absurd (done z)
          where
            done : Reads s.text statement.Begin ⊎ Reads s.text statement.Rollback → ⊥
            done (inl y) = no_table statement.Begin y refl
            done (inr y) = no_table statement.Rollback y refl
        statement_ends answer.Committed e z = absurd (none_commits z.0 z.1)
        statement_ends (answer.Duplicate key) e z = (z.1, sym (same (statement.Insert z.1) z.2))
        statement_ends (answer.Busy key id at) e z = z
        statement_ends (answer.Conflict key found) e (id, inl y) = absurd (none_commits id y.0)
        statement_ends (answer.Conflict key found) e (id, inr y) = (id, y.0, y.2)
        statement_ends (answer.Expired id) e z = absurd (none_commits id z.commit)
        statement_ends answer.Faulted e z = absurd (clash (sym z.2 ∙ (h.served z.0 z.1).0))
        statement_ends (answer.Unknown id) e z = absurd (none_commits id z.commit)
        statement_ends (answer.BadRecord key) e z = misfit key z
        statement_ends (answer.Refused r) e (inl y) = absurd (h.accepted (answer.Refused r) y)
        statement_ends (answer.Refused r) e (inr y) = y
        statement_ends answer.Vacuuming e z = absurd (h.accepted answer.Vacuuming z)
        statement_ends answer.OpenTransactions e z = absurd (h.accepted answer.OpenTransactions z)
        statement_ends answer.NoMemory e z = tt

      ---- recoveries

      module _ (seen : AnsweredWereSeen events) (no_commit : reads_commit s.text ≡ false) (m : StoreCall) (r : Record) (read : ReadsUnresolved calls m r) where
        abbrev Rolled : Type 0
        Rolled = IsResolved calls m r ⊎ IsPassedOver events s calls m r

        -- one whose calls were rolled by calls that were answered
        as_rolled : IsDealtWith events (reads_vacuum s.text) calls m r → Rolled
        as_rolled (inl y) = inl (record {
          id = y.id;
          state = y.state;
          decided = y.decided;
          look = y.look;
          roll = y.roll;
          writer = y.writer;
          looks = y.looks;
          rolls = y.rolls;
          answered = (seen client s y.roll h.among (kept_in (λ (z : StoreCall). nat_lt y.look.at z.at) calls y.roll y.rolls.0) y.answered, y.answered);
        })
        as_rolled (inr y) = inr y

        read_rolled : (b : Answer) → a ≡ b → read_finished calls b ≡ true → Rolled
        read_rolled b e finished =
            all_resolved events (execution_caused script events playable x).rolled seen client s m r h.among (ap (λ (o : Option Answer). option_map_or (read_finished calls) o false) (h.is ∙ ap Some e) ∙ finished) read.among read.reads read.found read.unresolved

        moved_rolled : (key : Key) (found : Option Record) → a ≡ answer.Conflict key found → Rolled
        moved_rolled key found e = by ((execution_ends script events playable x client s (answer.Conflict key found) h.among (h.is ∙ ap Some e)).moved key found (h.is ∙ ap Some e) no_commit m r read.among read.reads read.found read.unresolved)
          where
            by : Contains [] r ⊎ IsDealtWith events (reads_vacuum s.text) calls m r → Rolled
            by (inl y) = none_in r y
            by (inr y) = as_rolled y

        -- one on a table is no VACUUM
        no_vacuum : (y : Statement) (t : Table) → Reads s.text y → named_table (catalog_after script.catalog (before s events)) y ≡ Some t → reads_vacuum s.text ≡ false
        no_vacuum y t reads named = by (reads_vacuum s.text) refl
          where
            by : (b : Bool) → reads_vacuum s.text ≡ b → reads_vacuum s.text ≡ false
            by false f = f
            by true f = none_some t (sym (ap (named_table (catalog_after script.catalog (before s events))) (one_statement s.text y statement.Vacuum reads ((vacuum_read s.text).0 f))) ∙ named)

        unfit_rolled : (key : Key) → MeetsMisfit script.catalog events client s key → a ≡ answer.BadRecord key → Rolled
        unfit_rolled key z e =
            by ((execution_ends script events playable x client s (answer.BadRecord key) h.among (h.is ∙ ap Some e)).unfit key (h.is ∙ ap Some e) no_commit (no_vacuum z.statement z.table z.over.0 z.over.1))
          where
            stored : AreStoredReplies calls
            stored =
                each_kept (λ (y : StoreCall). is_stored_reply y.reply ≡ true) (λ y. nat_lt s.accepted y.at && nat_le y.at (end_of events s)) (calls_by events client)
                ((execution_holds script events playable x).caused.each client).stored

            rolled : Contains [] r ⊎ IsDealtWith events (reads_vacuum s.text) calls m r → Rolled
            rolled (inl y) = none_in r y
            rolled (inr y) = as_rolled y

            by : ObservesBad calls key ⊎ RolledBut events (reads_vacuum s.text) calls [] → Rolled
            by (inl b) = absurd (sound b.call b.found b.among b.observed (observed_bad calls key stored b))
            by (inr g) = rolled (g m r read.among read.reads read.found read.unresolved)

        none_commits_here : (id : TxId) → IsCommitOf events client s id → ⊥
        none_commits_here id of = clash (sym (commit_text events client s id of) ∙ no_commit)

        -- BEGIN and ROLLBACK make no call
        no_call : (reads_begin s.text ≡ true) ⊎ (reads_rollback s.text ≡ true) → ⊥
        no_call is = none_in m (subst (λ (ms : List StoreCall). Contains ms m) ((execution_few script events playable x client s h.among).1 is) read.among)

        recovery_ends : (b : Answer) → a ≡ b → IsCaused script.catalog events client s b → RecoveryEnds events client s m r b
        recovery_ends (answer.Rows rows) e z = read_rolled (answer.Rows rows) e refl
        recovery_ends (answer.Count n) e z = read_rolled (answer.Count n) e refl
        recovery_ends answer.Done e z = absurd (done z)
          where
            done : Reads s.text statement.Begin ⊎ Reads s.text statement.Rollback → ⊥
            done (inl y) = no_call (inl ((begin_read s.text).1 y))
            done (inr y) = no_call (inr ((rollback_read s.text).1 y))
        recovery_ends answer.Committed e z = absurd (none_commits_here z.0 z.1)
        recovery_ends (answer.Duplicate key) e z = read_rolled (answer.Duplicate key) e refl
        recovery_ends (answer.Busy key id at) e z = z
        recovery_ends (answer.Conflict key found) e z = moved_rolled key found e
        recovery_ends (answer.Expired id) e z = absurd (none_commits_here id z.commit)
        recovery_ends answer.Faulted e z = absurd (clash (sym z.2 ∙ (h.served z.0 z.1).0))
        recovery_ends (answer.Unknown id) e z = absurd (none_commits_here id z.commit)
        recovery_ends (answer.BadRecord key) e (inl z) = absurd (sound z.0 z.1 z.2 z.3 z.5)
        recovery_ends (answer.BadRecord key) e (inr z) = unfit_rolled key z e
        recovery_ends (answer.Refused y) e z = read_rolled (answer.Refused y) e refl
        recovery_ends answer.Vacuuming e z = absurd (h.accepted answer.Vacuuming z)
        recovery_ends answer.OpenTransactions e z = absurd (h.accepted answer.OpenTransactions z)
        recovery_ends answer.NoMemory e z = tt

  ---- the laws

  -- An uncontended COMMIT is answered Committed, or was out of memory.
  pub execution_commits : UncontendedCommitsComplete script.catalog events
  execution_commits client s a h alone = commit_ends client s a h alone a refl (caused.caused client s a h.among h.is)

  -- A statement on a table ends as one of its kind.
  pub execution_statements : StatementsComplete script.catalog events
  execution_statements client s st a h on sound = statement_ends client s a h sound st on a refl (caused.caused client s a h.among h.is)

  -- One that observed no unresolved record isn't answered Busy.
  pub execution_resolved : ResolvedAreNotBusy events
  execution_resolved client s key id at has none is =
      let z = caused.caused client s (answer.Busy key id at) has is in
      none z.read z.found z.reads.0 (observed_read z.read.reply z.found z.reads.2) z.early.unresolved.0

  -- Each recovery comes to an end.
  pub execution_recovers : Follows script events → RecoveriesComplete script.catalog events
  execution_recovers follows client s a m r h no_commit sound read = recovery_ends client s a h sound (answered_seen script events follows) no_commit m r read a refl (caused.caused client s a h.among h.is)

  -- Calls that were seen were served.
  pub execution_serves : Follows script events → SeenAreServed events
  execution_serves follows client s has seen m among = (seen_no_faults script events follows client s m has among (ap is_seen (seen m among).0), (seen m among).1)
