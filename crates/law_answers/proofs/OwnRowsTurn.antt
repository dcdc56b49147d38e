-- A statement that has read shows rows that its transaction has, and its transaction goes on with such.
use Rattle.std.proofs.Common.{◌≡◌, ℕ, true, false, List, [], ◌∷◌, ◌++◌, Some, sym, ap, subst, ◌∙◌}
use Rattle.std.specs.Prelude.{is_some}
use Rattle.std.specs.List.{AllByRecursion}
use Rattle.law_answers.specs.Types.{Access, Event, Record, Table}
use Rattle.sdb_schema.specs.Catalog.{is_catalog}
use Rattle.sdb_model.specs.Calls.{StoreCall, calls_of}
use Rattle.sdb_model.specs.Exec.{named_table, table_of}
use Rattle.sdb_model.specs.ReadSet.{has_read}
use Rattle.sdb_model.specs.Sql.{Reads, reads_vacuum}
use Rattle.sdb_model.specs.Transactions.{Executed, from_begin, rest_of}
use Rattle.sdb_exec.specs.Plans.{Planned}
use Rattle.sdb_model.specs.Reads.{access_of}
use Rattle.sdb_txn.specs.Read.{request_of}
use Rattle.sdb_snapshot.specs.Sets.{WereRead}
use Rattle.law_clients.proofs.Public.{access_table, found_itself, own_table}
use Rattle.sdb_txn.specs.Txn.{TxnAt}
use Rattle.sdb_client.specs.Client.{given_answer, given_left, gives, with_rows_read}
use Rattle.law_answers.specs.Changes.{HasRead}
use Rattle.law_answers.specs.Views.{IsViewOf, SeesOwn, GivesOwn}
use Rattle.law_answers.specs.Invariant.{IsAnswered, begun_in, open_after}
use Rattle.law_answers.proofs.OwnRowsGiven.{next_given}
use Rattle.law_answers.proofs.OwnRowsRead.{kept_now, now_has}
use Rattle.law_answers.proofs.OwnRowsAnswered.{sees_then}
use Rattle.law_answers.proofs.Takings.{left_idle}
use Rattle.law_answers.proofs.Unfit.{table_at}
use Rattle.sdb_client.proofs.Public.{reading_stays_idle}

module _ (catalog under : List Table) (c : ℕ) (events : List Event) (e : Event) (acked : List Executed) (all : AllByRecursion (IsAnswered catalog events c) acked) (n : ℕ) (begin : Executed) (body : List Executed) (since : from_begin n acked ≡ begin ∷ body) (number : n ≡ begun_in acked)
    (t : TxnAt) (sees : SeesOwn under events c body t.seen) (kept : WereRead t.seen.read_set t.seen.writes) (z : Executed) (p : Planned) (a : Access) (calls : List StoreCall) (images : List Record) (are : calls_of (events ++ e ∷ []) c z ≡ calls) (h : HasRead (request_of a) calls images []) where
  abbrev E : List Event
  E = events ++ e ∷ []

  abbrev v : TxnAt
  v = with_rows_read t a images

  pub read_next : is_catalog under ≡ true → Reads z.text p.statement → reads_vacuum z.text ≡ false → named_table under p.statement ≡ Some p.table → p.asked ≡ true → a ≡ access_of p.table p.statement → z.answer ≡ Some (given_answer v (gives p a v)) → has_read E c z ≡ true
      → (open_after acked ≡ true → GivesOwn under E c (rest_of (from_begin (begun_in acked) acked)) z (given_answer v (gives p a v))) × IsViewOf under E c (rest_of (from_begin n (acked ++ z ∷ []))) (given_left v (gives p a v))
  read_next is reads no_vacuum named asked access_is answered finished =
      let before : SeesOwn under E c body t.seen = sees_then catalog under c events e acked all n begin body since t.seen sees z in
      next_given under E c n acked z begin body p a v since number is reads named asked access_is answered (left_idle v (gives p a v) (reading_stays_idle t a images)) (kept_now t a images kept)
      (now_has under E c body z a t images (subst (λ cs. HasRead (request_of a) cs images []) (sym are) h) kept before no_vacuum
      (λ q inside. ap is_some (table_at under p a (found_itself under (table_of p.statement) p.table named) (ap access_table access_is ∙ own_table p.table p.statement) q inside)) finished)
