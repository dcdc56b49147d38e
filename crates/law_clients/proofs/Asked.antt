-- A client that takes a statement which reads keeps what ties the events to the clients.
use Rattle.std.proofs.Common.{◌≡◌, ℕ, true, false, List, [], ◌∷◌, ◌++◌, Option, Some, None, refl, sym, ap, subst, ◌∙◌}
use Rattle.std.specs.Prelude.{is_some}
use Rattle.law_clients.specs.Types.{Access, Answer, Event, Image, Key, Keyed, PlanStep, Statement, Table}
use Rattle.sdb_record.specs.declared.access.Access.TheVariants as access
use Rattle.sdb_schema.specs.Catalog.{is_catalog}
use Rattle.sdb_model.specs.declared.answer.Answer.TheVariants as answer
use Rattle.sdb_model.specs.declared.event.Event.TheVariants as event
use Rattle.sdb_model.specs.declared.statement.Statement.TheVariants as statement
use Rattle.sdb_model.specs.Causes.{refused}
use Rattle.sdb_model.specs.Exec.{key_of, named_table}
use Rattle.sdb_model.specs.Refused.{refusal_by, refusal_of}
use Rattle.sdb_model.specs.Sql.{Reads, reads_commit}
use Rattle.sdb_model.specs.Transactions.{changes_nothing, is_answered_from_rows}
use Rattle.sdb_exec.specs.declared.plan.PlanStep.TheVariants.{Finished}
use Rattle.sdb_exec.specs.Plans.{Planned, answer_on, changes_on, columns_at, first_unfit, has_all_literals, step_of}
use Rattle.sdb_model.specs.Reads.{access_of}
use Rattle.sdb_exec.proofs.Public.{named_is_table}
use Rattle.law_protocol.specs.History.{at}
use Rattle.sdb_snapshot.specs.Sets.{IsSetInvariant}
use Rattle.sdb_snapshot.specs.Seen.{Seen, overlay, with_written}
use Rattle.sdb_snapshot.specs.Written.{AreChanges}
use Rattle.sdb_txn.specs.declared.txn.Doing.TheVariants as doing
use Rattle.sdb_txn.specs.Txn.{TxnAt, reading}
use Rattle.sdb_client.specs.Client.{ClientAt as Client, given_answer, given_left, gives, holding, is_covered, plan_of, too_many, written}
use Rattle.sdb_client.specs.Inside.{IsValidPlan, IsKeyRead, MayWrite}
use Rattle.sdb_client.proofs.Public.{may_write}
use Rattle.law_clients.specs.ReadAt.{IsOfData}
use Rattle.law_clients.specs.System.{ClientAt, Open, with_client}
use Rattle.sdb_model.specs.Catalogs.{catalog_after}
use Rattle.law_clients.specs.Body.{IsCovered}
use Rattle.law_clients.specs.Invariant.{RunInvariant, IsInner}
use Rattle.law_clients.proofs.InvariantTurns.{going_answers, going_asks, going_idle}
use Rattle.law_clients.specs.Fitting.{tables_are_well_typed}
use Rattle.law_clients.specs.States.{ClientState, IsReady, doing_of, abstract_txn, system_of}
use Rattle.law_clients.proofs.RowsFit.{answers_on}
use Rattle.law_clients.proofs.Accepted.{IsSo, at_open, moved}
use Rattle.sdb_types.proofs.Public.{by_test}

pub covered_is : (s : Seen) (a : Access) → is_covered s a ≡ true → IsCovered s a
covered_is s (access.Get key) h = h
covered_is s (access.Scan span) h = h

key_read : (s : Seen) (a : Access) → is_covered s a ≡ true → IsKeyRead s.read_set a
key_read s (access.Get key) h = h
key_read s (access.Scan span) h = tt

-- what a statement on a table is answered on rows that fit
pub from_rows : (t : Table) (st : Statement) (rows : List Image) → changes_nothing (answer_on t st rows) ≡ false → is_answered_from_rows (answer_on t st rows) ≡ true
from_rows t (statement.Insert s) rows h = by_test (is_some (columns_at (key_of t s) rows)) (λ q. rw q refl) (λ q. rw q refl)
from_rows t (statement.Upsert s) rows h = refl
from_rows t (statement.Update s) rows h = refl
from_rows t (statement.Delete s) rows h = refl
from_rows t (statement.Select s) rows h = refl
from_rows t statement.Begin rows h = absurd (cc)
from_rows t statement.Commit rows h = absurd (cc)
from_rows t statement.Rollback rows h = absurd (cc)
from_rows t statement.Vacuum rows h = absurd (cc)

-- What is known of a statement on a table that the catalog doesn't refuse.
pub record IsAsked (catalog : List Table) (text : List ℕ) (st : Statement) (table : Table) : Type 0 where
  pub is : is_catalog catalog ≡ true
  pub named : named_table catalog st ≡ Some table
  pub accepted : refusal_of catalog st ≡ None
  pub literals : has_all_literals st ≡ true
  pub reads : Reads text st
  pub no_commit : reads_commit text ≡ false

module _ (catalog : List Table) (events : List Event) (states : ℕ → ClientState) (g : RunInvariant catalog tables_are_well_typed events (system_of states) (doing_of states)) (c : ℕ) (ready : IsReady states c) (text : List ℕ) (st : Statement) (table : Table) (k : IsAsked (catalog_after catalog events) text st table)
    (t : TxnAt) (some : (states c).client.txn ≡ Some t) (idle : t.doing ≡ doing.Idle) (kept : IsSetInvariant t.seen.read_set t.seen.writes) where
  abbrev now : Client
  now = (states c).client

  -- the tables of the moment
  abbrev tables_now : List Table
  tables_now = catalog_after catalog events

  abbrev p : Planned
  p = plan_of table st

  abbrev a : Access
  a = access_of table st

  abbrev taken_so : Option Answer → List Event
  taken_so b = events ++ event.Take c text b ∷ []

  valid : IsValidPlan p
  valid = record { asked = refl; table = named_is_table tables_now st table k.is k.named; accepted = sym (ap (λ (o : Option Table). refusal_by o st) k.named) ∙ k.accepted; literals = k.literals }

  here : (system_of states).clients c ≡ Open t.id t.seen
  here = at_open catalog tables_are_well_typed events states g c ready t some

  -- it changes nothing
  as_it_was : (b : Answer) → changes_nothing b ≡ true → IsSo catalog tables_are_well_typed states c (holding now t) (taken_so (Some b))
  as_it_was b nothing =
      moved catalog tables_are_well_typed states c (holding now t) (taken_so (Some b)) ready.idle.free refl
      (subst (λ (x : ClientAt). RunInvariant catalog tables_are_well_typed (taken_so (Some b)) (with_client (system_of states) c x) (at (doing_of states) c None)) (sym by_doing)
      (going_idle catalog tables_are_well_typed events (system_of states) (doing_of states) g c t.id t.seen here text b nothing k.no_commit))
    where
      by_doing : abstract_txn (Some t) ≡ Open t.id t.seen
      by_doing = rw idle refl

  -- it is answered from rows that were read before
  from_before : (b : Answer) (ks : List Keyed) → is_covered t.seen a ≡ true → step_of p (overlay a t.seen) ≡ Finished b ks → is_answered_from_rows b ≡ true → IsSo catalog tables_are_well_typed states c (holding now (written t ks)) (taken_so (Some b))
  from_before b ks covered step rows =
      let changes : AreChanges t.seen.read_set ks = subst (MayWrite t.seen.read_set) step (may_write t.seen p valid kept (key_read t.seen a covered)) in
      moved catalog tables_are_well_typed states c (holding now (written t ks)) (taken_so (Some b)) ready.idle.free refl
      (subst (λ (x : ClientAt). RunInvariant catalog tables_are_well_typed (taken_so (Some b)) (with_client (system_of states) c x) (at (doing_of states) c None)) (sym by_doing)
      (going_answers catalog tables_are_well_typed events (system_of states) (doing_of states) g c t.id t.seen here text b st a ks rows k.no_commit k.reads (covered_is t.seen a covered)
      (answers_on tables_now p t.seen k.is k.named refl k.accepted k.literals step) changes))
    where
      by_doing : abstract_txn (Some (written t ks)) ≡ Open t.id (with_written t.seen ks)
      by_doing = rw idle refl

  abbrev Told : PlanStep → Type 0
  Told s = IsSo catalog tables_are_well_typed states c (holding now (given_left t s)) (taken_so (Some (given_answer t s)))

  -- What it is answered at once is what its plan gives.
  pub told_known : is_covered t.seen a ≡ true → IsSo catalog tables_are_well_typed states c (holding now (given_left t (gives p a t))) (taken_so (Some (given_answer t (gives p a t))))
  told_known covered = by_unfit (first_unfit table (overlay a t.seen)) refl
    where
      finished_so : (b : Answer) (ks : List Keyed) → gives p a t ≡ Finished b ks → (changes_nothing b ≡ false → is_answered_from_rows b ≡ true) → Told (Finished b ks)
      finished_so b ks step rows =
          by_test (changes_nothing b)
          (λ q. rw q (rw q (as_it_was b q)))
          (λ q. by_test (too_many t ks) (λ m. rw (q, m) (as_it_was (refused 15) refl)) (λ m. rw (q, m) (rw q (from_before b ks covered step (rows q)))))

      by_unfit : (o : Option Key) → first_unfit table (overlay a t.seen) ≡ o → Told (gives p a t)
      by_unfit None e =
          let step : gives p a t ≡ Finished (answer_on table st (overlay a t.seen)) (changes_on table st (overlay a t.seen)) = rw e refl in
          subst Told (sym step) (finished_so _ _ step (from_rows table st (overlay a t.seen)))
      by_unfit (Some key) e =
          let step : gives p a t ≡ Finished (answer.BadRecord key) [] = rw e refl in
          subst Told (sym step) (finished_so (answer.BadRecord key) [] step (λ h. absurd (cc)))

  -- The call for its rows is pending.
  pub told_unknown : IsOfData a → IsInner text → IsSo catalog tables_are_well_typed states c (record now { txn = Some (reading t a); plan = Some p }) (taken_so None)
  told_unknown tables inner =
      moved catalog tables_are_well_typed states c (record now { txn = Some (reading t a); plan = Some p }) (taken_so None) ready.idle.free refl
      (going_asks catalog tables_are_well_typed events (system_of states) (doing_of states) g c text st t.id t.seen a here tables k.reads inner)
