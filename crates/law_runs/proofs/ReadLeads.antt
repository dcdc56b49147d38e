-- Where the reply to a call of a read leads it.
use Rattle.std.proofs.Common.{◌≡◌, ◌+◌, ◌<◌, ℕ, ℤ, true, List, [], ◌∷◌, ◌++◌, length, Option, Some, None, IfSome, sym, ap, subst, ◌∙◌, arith}
use Rattle.std.specs.Prelude.{is_some}
use Rattle.std.specs.List.{AllByRecursion}
use Rattle.law_runs.specs.Types.{Answer, Event, How, Key, Record, Reply, Request, Table}
use Rattle.sdb_types.specs.Contents.{CanAnswer}
use Rattle.sdb_types.proofs.Public.{all_each, length_more}
use Rattle.sdb_model.specs.declared.event.Event.TheVariants as event
use Rattle.sdb_model.specs.Calls.{StoreCall, calls_of, clock_at}
use Rattle.sdb_model.specs.Exec.{find_table, table_of}
use Rattle.sdb_model.specs.Rows.{Name}
use Rattle.sdb_model.specs.Tables.{is_data}
use Rattle.sdb_model.specs.Transactions.{Executed}
use Rattle.sdb_txn.specs.Read.{Asking, Ended, ReadStage, Resolving, read_pending_at, read_step}
use Rattle.sdb_txn.specs.declared.txn.Doing.TheVariants as doing
use Rattle.sdb_txn.specs.Txn.{TxnAt}
use Rattle.sdb_client.specs.Client.{ClientAt}
use Rattle.law_clients.specs.About.{IsDoingIn, IsIn, IsOfTables, IsReadIn, IsStageIn}
use Rattle.law_clients.proofs.Public.{access_table, found_itself, own_table}
use Rattle.law_answers.specs.Invariant.{IsWaiting}
use Rattle.law_answers.specs.Reads.{LedBy}
use Rattle.law_answers.proofs.Public.{calls_open, clock_more, end_waiting, IsDataTable, later_within, LeavesData, made_at, reads_on}
use Rattle.law_runs.proofs.Replies.{ReadCall, listed_call}

module _ (catalog : List Table) (apart : (k : Key) → is_some (find_table catalog k.table) ≡ true → is_data k ≡ true) (events : List Event) (c : ℕ) (h d : ClientAt) (x : Executed) (waits : IsWaiting catalog events c (is_some h.vacuum) x)
    (store : Name) (q : Request) (how : How) (r : Reply) (now : ℤ) (ticks : clock_at events (length events) ≡ now) (about : IsOfTables catalog h) (can : CanAnswer q r) (a : Option Answer) (z : ReadCall catalog events c x h q r now a d) where
  abbrev E : List Event
  E = events ++ event.Call c store q how r None ∷ []

  abbrev made : StoreCall
  made = made_at events store q how r

  abbrev ms : List StoreCall
  ms = calls_of events c x

  -- the calls so far came before it
  older : AllByRecursion (λ (m : StoreCall). m.at < made.at) ms
  older = subst (AllByRecursion (λ (m : StoreCall). m.at < made.at)) (sym (calls_open c events x (end_waiting events x waits.unanswered))) (later_within c events x.accepted)

  clock_now : clock_at E made.at ≡ now
  clock_now = ap (clock_at E) (sym (length_more events (event.Call c store q how r None) ∙ one_plus (length events))) ∙ clock_more events (event.Call c store q how r None) ∙ ticks
    where
      one_plus : (n : ℕ) → n + 1 ≡ 1 + n
      one_plus n = omega arith

  -- it reads a table of the catalog
  pub reads_data : IsDataTable (access_table z.access)
  reads_data =
      subst IsDataTable (sym (ap access_table z.asked.access ∙ own_table z.p.table z.p.statement))
      (apart (record { table = z.p.table.name; partition = []; clustering = [] }) (listed_call catalog events x z.tables z.p.table.name z.under (ap is_some (found_itself z.tables (table_of z.p.statement) z.p.table z.asked.named))))

  read_in : IsReadIn catalog z.p z.access z.x
  read_in =
      let does : IsDoingIn catalog z.t.seen z.t.doing h.plan = subst (λ (o : Option TxnAt). IfSome o (λ u. IsDoingIn catalog u.seen u.doing h.plan)) z.opened about.txn in
      (subst (IsDoingIn catalog z.t.seen (doing.Read z.access z.x)) z.plan (subst (λ y. IsDoingIn catalog z.t.seen y h.plan) z.reads does)).1

  leaves : (s : ReadStage) → IsStageIn catalog s → LeavesData E ms made older now clock_now s
  leaves Asking i = tt
  leaves (Resolving images rec meta y left) i = all_each (λ (b : Record). IsIn catalog b.key) (λ (b : Record). IsDataTable b.key.table) left (λ b inside. apart b.key inside) i.2
  leaves (Ended s) i = tt

  -- what the calls show where it leads
  pub read_leads : LedBy E (ms ++ made ∷ []) (read_step z.x.stage now r)
  read_leads = reads_on (record { events = E; calls = ms; call = made; now = now; later = older; clock = clock_now }) z.access z.x.stage reads_data (leaves z.x.stage read_in.stage) z.is.stage (subst (λ (y : Request). read_pending_at y z.x.stage ≡ Some q) z.asked.request z.pends) can
