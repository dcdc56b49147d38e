-- What a client's transactions ran on what they found, as it takes a statement.
use Rattle.std.proofs.Common.{◌≡◌, ◌⊎◌, inl, inr, ◌+◌, ℕ, suc, Bool, true, false, List, [], ◌∷◌, ◌++◌, Option, Some, None, IfSome, refl, sym, ap, subst, ◌∙◌, arith}
use Rattle.std.specs.Prelude.{◌&&◌, ◌||◌, filter, is_some}
use Rattle.std.proofs.lemmas.List.{append-nil}
use Rattle.std.proofs.lemmas.List.Elements.{filter-append}
use Rattle.law_runs.specs.Types.{Answer, Event, Key, Statement, Table}
use Rattle.sdb_types.proofs.Public.{clash, or_false}
use Rattle.sdb_schema.specs.Catalog.{is_catalog}
use Rattle.sdb_model.specs.declared.answer.Answer.TheVariants as answer
use Rattle.sdb_model.specs.declared.event.Event.TheVariants as event
use Rattle.sdb_model.specs.declared.statement.Statement.TheVariants as statement
use Rattle.sdb_model.specs.Calls.{StoreCall, calls_of}
use Rattle.sdb_model.specs.Catalogs.{catalog_after}
use Rattle.sdb_model.specs.Causes.{before}
use Rattle.sdb_model.specs.Exec.{find_table, named_table, table_of}
use Rattle.sdb_model.specs.ReadSet.{has_finished, has_read}
use Rattle.sdb_model.specs.Tables.{is_data}
use Rattle.sdb_model.specs.Sql.{Reads, reads_commit}
use Rattle.sdb_model.specs.Transactions.{Executed, begins, changes_nothing, ends, id_of, rest_of, statements_by}
use Rattle.sdb_model.specs.Reads.{access_of}
use Rattle.sdb_snapshot.specs.Seen.{nothing}
use Rattle.sdb_sqltext.proofs.Public.{begin_read, rollback_read}
use Rattle.sdb_txn.specs.declared.txn.Doing.TheVariants as doing
use Rattle.sdb_txn.specs.Txn.{TxnAt}
use Rattle.sdb_client.specs.Client.{ClientAt, IsIdle, Taking, given_answer, given_left, gives, holding, plan_of, resting, with_begun}
use Rattle.sdb_client.specs.Step.{AnsweredAtOnce, AtOnce, Begins, ByCatalog, CommitStarts, IsOnRows, LosesCommit, NoMemory, NoStatement, NoTable, NoneOpen, OpenAlready, OthersOpen, ReadKnown, ReadStarts, RollsBack, Step, Takes, VacuumRuns, VacuumStarts}
use Rattle.law_clients.proofs.Public.{access_table, found_itself, literals_read, on_table, other_no_commit, own_table, take_executed}
use Rattle.sdb_client.proofs.Public.{names_table}
use Rattle.law_clients.specs.History.{executed_of_take}
use Rattle.law_answers.specs.Invariant.{Knows, begun_in}
use Rattle.law_answers.proofs.Public.{IsDataTable, before_taken, none_yet, since_new}
use Rattle.law_runs.specs.Found.{AreUnder, found_by, is_answered, scans_span, was_scanned, with_found}
use Rattle.law_runs.proofs.FoundGiven.{given_finishes}
use Rattle.law_runs.proofs.FoundSteps.{ClientRuns, SeesIn, SeesRun, answered_of_is, answered_of}
use Rattle.law_runs.proofs.FoundSteps as steps
use Rattle.law_runs.proofs.Running.{HoldsScans, RunsTo, none_runs, running, running_of, scanned_more, view_after}
use Rattle.law_runs.proofs.Views.{IsViewOf}
use Rattle.law_runs.proofs.WroteCommits.{none_wrote}

module _ (catalog : List Table) (q : Taking) (is : is_catalog q.catalog ≡ true) (apart : (k : Key) → is_some (find_table q.catalog k.table) ≡ true → is_data k ≡ true) (events : List Event) (current : q.catalog ≡ catalog_after catalog events) (c : ℕ) (text : List ℕ) (h : ClientAt) (k : Knows catalog events c h)
    (runs : ClientRuns catalog q.catalog events c h) (idle : IsIdle h) where
  abbrev E : Option Answer → List Event
  E a = events ++ event.Take c text a ∷ []

  abbrev one : Option Answer → Executed
  one a = executed_of_take events text a

  -- it was accepted under that catalog
  accepted_now : (a : Option Answer) → catalog_after catalog (before (one a) (E a)) ≡ q.catalog
  accepted_now a = ap (catalog_after catalog) (before_taken events (event.Take c text a) text a) ∙ sym current

  -- what it is to come to
  abbrev Comes : Option Answer → ClientAt → Type 0
  Comes None d = IfSome d.txn (SeesRun catalog q.catalog (E None) c (running_of (E None) c d.begun k.entries))
  Comes (Some b) d = steps.Follows catalog q.catalog events c h k runs (event.Take c text (Some b)) (one (Some b)) d

  -- it is answered, and the client is as it was
  same_comes : (b : Answer) → (changes_nothing b ≡ true) ⊎ (h.txn ≡ None) → Comes (Some b) h
  same_comes b (inl e) = steps.turned_follows catalog q.catalog events c h k runs (event.Take c text (Some b)) (one (Some b)) b (accepted_now (Some b)) refl e (none_yet c events text (Some b)) idle.free idle.still
  same_comes b (inr e) = steps.same_follows catalog q.catalog events c h k runs (event.Take c text (Some b)) (one (Some b)) (inr e)

  shut : (o : Option TxnAt) → (is_some o || q.gate.open_elsewhere) ≡ false → o ≡ None
  shut None f = refl
  shut (Some x) f = clash f

  once_comes : (b : Answer) → AtOnce h q text b → Comes (Some b) h
  once_comes b (NoStatement r refuses) = same_comes b (inl refl)
  once_comes b (OpenAlready t reads e) = same_comes b (inl refl)
  once_comes b (NoneOpen st reads needs e) = same_comes b (inl refl)
  once_comes b (VacuumRuns reads e f) = same_comes b (inr e)
  once_comes b (OthersOpen reads e) = same_comes b (inl refl)
  once_comes b (NoTable reads e none) = same_comes b (inr (shut h.txn e))
  once_comes b (ByCatalog st t r reads names e f) = same_comes b (inl refl)
  once_comes b (NoMemory other) = steps.same_follows catalog q.catalog events c h k runs (event.Take c text (Some answer.NoMemory)) (one (Some answer.NoMemory)) (inl (steps.nothing_stays (E (Some answer.NoMemory)) c (one (Some answer.NoMemory)) answer.NoMemory refl refl refl))

  begins_comes : h.txn ≡ None → Reads text statement.Begin → Comes (Some answer.Done) (with_begun h q.fresh)
  begins_comes none reads = (
    steps.no_more catalog q.catalog events c h k runs (event.Take c text (Some answer.Done)) (one (Some answer.Done)) (inr none),
    subst (λ xs. AreUnder catalog (E (Some answer.Done)) q.catalog xs × RunsTo q.catalog (E (Some answer.Done)) c xs nothing) (sym new) (tt, none_runs q.catalog (E (Some answer.Done)) c),
  )
    where
      begins_now : begins (one (Some answer.Done)) ≡ true
      begins_now = ap (λ b. b && true) ((begin_read text).1 reads)

      ids : (n : ℕ) → n + 1 ≡ suc n
      ids n = omega arith

      new : running_of (E (Some answer.Done)) c (h.begun + 1) (k.entries ++ one (Some answer.Done) ∷ []) ≡ []
      new =
          ap (λ n. running_of (E (Some answer.Done)) c n (k.entries ++ one (Some answer.Done) ∷ [])) (ap (λ n. n + 1) k.begun ∙ ids (begun_in k.entries))
          ∙ ap (λ ss. running (E (Some answer.Done)) c (rest_of ss)) (since_new k.entries (one (Some answer.Done)) begins_now)

  rollback_over : Reads text statement.Rollback → ends (one (Some answer.Done)) ≡ true
  rollback_over reads = ap (λ b. reads_commit text || false || (b && true)) ((rollback_read text).1 reads) ∙ last (reads_commit text)
    where
      last : (b : Bool) → (b || false || (true && true)) ≡ true
      last true = refl
      last false = refl

  ---- a statement that reads

  module _ (t : TxnAt) (some : h.txn ≡ Some t) where
    still : t.doing ≡ doing.Idle
    still = subst (λ (o : Option TxnAt). IfSome o (λ u. u.doing ≡ doing.Idle)) some idle.still

    opened_so : (a : Option Answer) → SeesRun catalog q.catalog (E a) c (running_of (E a) c h.begun k.entries) t
    opened_so a = steps.sees_open catalog q.catalog events c h k runs (event.Take c text a) t some idle.free

    sees : (a : Option Answer) → RunsTo q.catalog (E a) c (running_of (E a) c h.begun k.entries) t.seen
    sees a = subst (SeesIn q.catalog (E a) c (running_of (E a) c h.begun k.entries) t.seen) still (opened_so a).1

    -- it scans nothing
    scans : (a : Option Answer) → HoldsScans (E a) c (running_of (E a) c h.begun k.entries ++ one a ∷ []) t.seen
    scans a span e = (sees a).scans span (sym (scanned_more (E a) c (running_of (E a) c h.begun k.entries) (one a) span ∙ ap (λ ms. was_scanned (E a) c (running_of (E a) c h.begun k.entries) span || scans_span span ms) (none_yet c events text a) ∙ or_false (was_scanned (E a) c (running_of (E a) c h.begun k.entries) span)) ∙ e)

    abbrev given : Statement → Table → Answer
    given st table = given_answer t (gives (plan_of table st) (access_of table st) t)

    -- its read has finished, without a call
    finished_here : (st : Statement) (table : Table) → named_table q.catalog st ≡ Some table → has_read (E (Some (given st table))) c (one (Some (given st table))) ≡ true
    finished_here st table named = ap (λ ms. has_finished ms (one (Some (given st table)))) (none_yet c events text (Some (given st table))) ∙ given_finishes (plan_of table st) (access_of table st) t [] refl refl own
      where
        own : IsDataTable (access_table (access_of table st))
        own = subst IsDataTable (sym (own_table table st)) (apart (record { table = table.name; partition = []; clustering = [] }) (ap is_some (found_itself q.catalog (table_of st) table named)))

    known_comes : (st : Statement) (table : Table) → IsOnRows h q text t table st → Comes (Some (given st table)) (holding h (given_left t (gives (plan_of table st) (access_of table st) t)))
    known_comes st table on =
        let other : reads_commit text ≡ false = other_no_commit text st on.reads (on_table st (names_table q.catalog st table on.named)).commit in
        steps.given_follows catalog q.catalog events c h k runs (event.Take c text (Some (given st table))) t some idle.free (one (Some (given st table))) (plan_of table st) (access_of table st) t (accepted_now (Some (given st table)))
        (record { is = is; named = on.named; asked = refl; accepted = on.accepted; literals = literals_read text st on.reads; access = refl }) on.reads other refl (finished_here st table on.named) (still, refl) (sees (Some (given st table)))
        (subst (λ (ms : List StoreCall). IsViewOf q.catalog (with_found q.catalog (view_after q.catalog (E (Some (given st table))) c (running_of (E (Some (given st table))) c h.begun k.entries) (sees (Some (given st table))).run) (found_by ms)) t.seen) (sym (none_yet c events text (Some (given st table)))) (sees (Some (given st table))).sees)
        (scans (Some (given st table)))

  ---- each row

  takes_comes : (a : Option Answer) (d : ClientAt) → Step h (Takes q text) a d → Comes a d
  takes_comes a d (AnsweredAtOnce {a = b} at) = once_comes b at
  takes_comes a d (Begins reads e f) = begins_comes e reads
  takes_comes a d (RollsBack t reads e) = steps.ended_follows catalog q.catalog events c h k runs (event.Take c text (Some answer.Done)) (one (Some answer.Done)) (resting h) (inl (steps.ends_stays (E (Some answer.Done)) c (one (Some answer.Done)) (rollback_over reads))) refl
  takes_comes a d (LosesCommit reads) =
      steps.ended_follows catalog q.catalog events c h k runs (event.Take c text (Some answer.NoMemory)) (one (Some answer.NoMemory)) (resting h) (inl (steps.nothing_stays (E (Some answer.NoMemory)) c (one (Some answer.NoMemory)) answer.NoMemory refl refl refl)) refl
  takes_comes a d (CommitStarts t reads e) = ((opened_so t e None).0, steps.runs_wrote q.catalog (E None) c (running_of (E None) c h.begun k.entries) t.seen (sees t e None))
  takes_comes a d (VacuumStarts t ts reads e f) = steps.sees_then catalog q.catalog events c h k runs (event.Take c text None)
  takes_comes a d (ReadKnown t table st on known) = known_comes t on.opened st table on
  takes_comes a d (ReadStarts t table st on unread) = ((opened_so t on.opened None).0, sees t on.opened None)

  -- So it is after it has accepted a statement.
  pub takes_runs : (a : Option Answer) (d : ClientAt) → Step h (Takes q text) a d → ClientRuns catalog q.catalog (E a) c d
  takes_runs a d t = by a (takes_comes a d t)
    where
      now : (b : Option Answer) → answered_of c (E b) ≡ k.entries ++ filter is_answered (one b ∷ [])
      now b = ap (filter is_answered) (take_executed c events text b) ∙ filter-append is_answered (statements_by c events) (one b ∷ []) ∙ ap (λ ss. ss ++ filter is_answered (one b ∷ [])) (answered_of_is catalog events c h k)

      by : (b : Option Answer) → Comes b d → ClientRuns catalog q.catalog (E b) c d
      by None z = steps.still_runs catalog q.catalog events c h k runs (event.Take c text None) d (now None ∙ append-nil k.entries) z
      by (Some b) z =
          steps.next_runs catalog q.catalog events c h k runs (event.Take c text (Some b)) (one (Some b)) d (now (Some b)) z
          (λ reads opened. none_wrote catalog (E (Some b)) c (running_of (E (Some b)) c (begun_in k.entries) k.entries) (id_of c (begun_in k.entries)) (calls_of (E (Some b)) c (one (Some b))) (none_yet c events text (Some b)))
