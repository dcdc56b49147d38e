-- The call that a client makes, and what its reply comes to, by what the client does.
use Rattle.std.proofs.Common.{◌≡◌, ◌⊎◌, inl, inr, ℕ, ℤ, true, List, Option, Some, None, IfSome, refl, sym, ap, subst, ◌∙◌}
use Rattle.std.specs.List.{AllByRecursion}
use Rattle.sdb_types.proofs.Public.{none_some}
use Rattle.std.specs.Prelude.{is_some}
use Rattle.law_runs.specs.Types.{Access, Answer, Doing, Event, Next, Progress, Reply, Request, Table, TableName}
use Rattle.sdb_model.specs.Calls.{calls_of}
use Rattle.sdb_model.specs.Catalogs.{catalog_after}
use Rattle.sdb_model.specs.Causes.{before}
use Rattle.sdb_model.specs.Exec.{find_table}
use Rattle.sdb_model.proofs.Public.{same_tables}
use Rattle.sdb_model.specs.Transactions.{Executed, id_of}
use Rattle.sdb_exec.specs.Plans.{Planned}
use Rattle.sdb_txn.specs.Phases.{CommitAt}
use Rattle.sdb_phases.specs.Commit.{pending as commit_pending}
use Rattle.sdb_txn.specs.Read.{ReadAt, read_pending}
use Rattle.sdb_txn.specs.declared.txn.Doing.TheVariants as doing
use Rattle.sdb_txn.specs.Txn.{CommitPost, TxnAt, pending_in}
use Rattle.sdb_vacuum.specs.Vacuum.{VacuumAt, vacuum_pending}
use Rattle.sdb_client.specs.Client.{CallPost, ClientAt, IsIdle, NextPost, OpenTxnPost, ReplyPost, VacuumPost, after, answer_in, client_pending, next_of, pending_by, pending_of}
use Rattle.sdb_client.specs.Step.{Receives, Step}
use Rattle.sdb_client.proofs.Public.{reply_of_step}
use Rattle.sdb_record.specs.Rolls.{IsWrite}
use Rattle.law_clients.specs.States.{IsAskedBy, IsFitted, IsFittedBy, IsUsing, IsUsingTxn}
use Rattle.law_answers.specs.Counts.{DoingCounted, OpenCounted, WaitCounted, read_items_since}
use Rattle.law_answers.specs.Vacuums.{VacuumBy}
use Rattle.law_answers.specs.Invariant.{IsCommitting, IsCurrent, IsDoing, IsOpenAs, IsReading, Knows, DoingByHistory, ClientByHistory}

-- A client that waits for a statement has none without an answer.
pub idle_rests : (catalog : List Table) (events : List Event) (c : ℕ) (h : ClientAt) (k : Knows catalog events c h) → IsIdle h → k.waiting ≡ None
idle_rests catalog events c h k idle = by h.txn idle.still (subst (ClientByHistory events c h.begun k.entries k.waiting h.plan h.txn) idle.free k.agrees)
  where
    by : (o : Option TxnAt) → IfSome o (λ t. t.doing ≡ doing.Idle) → DoingByHistory events c h.begun k.entries k.waiting h.plan o → k.waiting ≡ None
    by None still s = s.0
    by (Some t) still s = subst (IsDoing events c t h.plan k.waiting) still s.2

-- A client that has a call pending has a statement without an answer.
pub pends_waits : (catalog : List Table) (events : List Event) (c : ℕ) (h : ClientAt) (q : Request) (k : Knows catalog events c h) → client_pending h ≡ Some q → (x : Executed) × (k.waiting ≡ Some x)
pends_waits catalog events c h q k pending = by_vacuum h.vacuum k.waiting k.agrees pending
  where
    by_doing : (t : TxnAt) (p : Option Planned) (w : Option Executed) (d : Doing) → IsDoing events c t p w d → pending_in d ≡ Some q → (x : Executed) × (w ≡ Some x)
    by_doing t p (Some w) d i e = (w, refl)
    by_doing t p None doing.Idle i e = none_some q e
    by_doing t None None (doing.Read a x) i e = absurd i
    by_doing t (Some p) None (doing.Read a x) i e = absurd i
    by_doing t p None (doing.Commit x) i e = absurd i
    by_doing t p None doing.Over i e = absurd i

    by_txn : (o : Option TxnAt) (w : Option Executed) → DoingByHistory events c h.begun k.entries w h.plan o → pending_of o ≡ Some q → (x : Executed) × (w ≡ Some x)
    by_txn None w s e = none_some q e
    by_txn (Some t) w s e = by_doing t h.plan w t.doing s.2 e

    by_vacuum : (v : Option VacuumAt) (w : Option Executed) → ClientByHistory events c h.begun k.entries w h.plan h.txn v → pending_by v h.txn ≡ Some q → (x : Executed) × (w ≡ Some x)
    by_vacuum None w s e = by_txn h.txn w s e
    by_vacuum (Some v) None s e = absurd s
    by_vacuum (Some v) (Some x) s e = (x, refl)

---- what a reply comes to

-- It is a call of a VACUUM.
pub record SweepCall (events : List Event) (c : ℕ) (w : Executed) (h : ClientAt) (q : Request) (r : Reply) (now : ℤ) (a : Option Answer) (d : ClientAt) : Type 0 where
  pub v : VacuumAt
  pub runs : h.vacuum ≡ Some v
  pub rests : h.txn ≡ None
  pub is : VacuumBy (calls_of events c w) v
  pub pends : vacuum_pending v ≡ Some q
  pub answered : VacuumPost v r now a d.vacuum
  pub left : d ≡ record h { vacuum = d.vacuum }

-- It is a call of a statement that reads, under the tables with which it was accepted.
pub record ReadCall (catalog : List Table) (events : List Event) (c : ℕ) (w : Executed) (h : ClientAt) (q : Request) (r : Reply) (now : ℤ) (a : Option Answer) (d : ClientAt) : Type 0 where
  pub t : TxnAt
  pub p : Planned
  pub access : Access
  pub x : ReadAt
  pub free : h.vacuum ≡ None
  pub opened : h.txn ≡ Some t
  pub plan : h.plan ≡ Some p
  pub reads : t.doing ≡ doing.Read access x
  pub is : IsReading events c w p x
  pub tables : List Table
  pub under : catalog_after catalog (before w events) ≡ tables
  pub asked : IsAskedBy tables p access x
  pub pends : read_pending x ≡ Some q
  pub next : Next
  pub u : TxnAt
  pub answered : CallPost t p access x r now next u
  pub answer : a ≡ answer_in next
  pub left : d ≡ after h next u

-- It is a call of a COMMIT.
pub record CommitCall (events : List Event) (c : ℕ) (told_so : List Executed) (w : Executed) (h : ClientAt) (q : Request) (r : Reply) (a : Option Answer) (d : ClientAt) : Type 0 where
  pub t : TxnAt
  pub k : CommitAt
  pub free : h.vacuum ≡ None
  pub opened : h.txn ≡ Some t
  pub commits : t.doing ≡ doing.Commit k
  pub is : IsCommitting events c w t k
  pub since : IsOpenAs c h.begun told_so t
  pub writes : AllByRecursion IsWrite k.work.writes
  pub pends : commit_pending k.work k.stage ≡ Some q
  pub progress : Progress
  pub u : TxnAt
  pub answered : CommitPost t k r progress u
  pub answer : a ≡ answer_in (next_of progress)
  pub left : d ≡ after h (next_of progress) u

abbrev pub CallOf : List Table → List Event → ℕ → List Executed → Executed → ClientAt → Request → Reply → ℤ → Option Answer → ClientAt → Type 0
CallOf catalog events c answered w h q r now a d = SweepCall events c w h q r now a d ⊎ ReadCall catalog events c w h q r now a d ⊎ CommitCall events c answered w h q r a d

-- it was accepted under those, and a key of one of them is of one of the catalog's
pub listed_call : (catalog : List Table) (events : List Event) (w : Executed) (tables : List Table) (n : TableName) → catalog_after catalog (before w events) ≡ tables → is_some (find_table tables n) ≡ true → is_some (find_table catalog n) ≡ true
listed_call catalog events w tables n under listed = sym (same_tables catalog (before w events) n) ∙ ap (λ (ts : List Table). is_some (find_table ts n)) under ∙ listed

pub call_of : (catalog : List Table) (events : List Event) (c : ℕ) (h : ClientAt) (k : Knows catalog events c h) → IsCurrent catalog events h.txn k.under → (w : Executed) → k.waiting ≡ Some w → (q : Request) (r : Reply) (now : ℤ) (a : Option Answer) (d : ClientAt) → client_pending h ≡ Some q → IsFitted (catalog_after catalog events) h → Step h (Receives q r now) a d → CallOf catalog events c k.entries w h q r now a d
call_of catalog events c h k runs w waits q r now a d pending fitted answered = by_vacuum h.vacuum refl (subst (λ (o : Option Executed). ClientByHistory events c h.begun k.entries o h.plan h.txn h.vacuum) waits k.agrees) pending (reply_of_step h q r now a d answered).1
  where
    tables : List Table
    tables = catalog_after catalog events

    asked_of : (t : TxnAt) (access : Access) (x : ReadAt) (p : Planned) → h.vacuum ≡ None → h.txn ≡ Some t → h.plan ≡ Some p → t.doing ≡ doing.Read access x → IsAskedBy tables p access x
    asked_of t access x p free opened plan does =
        let open_fit : IsUsingTxn tables h.txn h.plan = subst (λ (v : Option VacuumAt). IsFittedBy tables v h) free fitted in
        let using : IsUsing tables t.doing h.plan = subst (λ (o : Option TxnAt). IsUsingTxn tables o h.plan) opened open_fit in
        subst (IsUsing tables (doing.Read access x)) plan (subst (λ (y : Doing). IsUsing tables y h.plan) does using)

    -- it was accepted under the catalog with which its transaction runs
    under_of : (t : TxnAt) → h.txn ≡ Some t → catalog_after catalog (before w events) ≡ tables
    under_of t opened =
        subst (λ (o : Option Executed). IfSome o (λ y. catalog_after catalog (before y events) ≡ k.under)) waits k.asked
        ∙ subst (λ (o : Option TxnAt). IsCurrent catalog events o k.under) opened runs

    writes_of : (t : TxnAt) (x : CommitAt) → h.vacuum ≡ None → h.txn ≡ Some t → t.doing ≡ doing.Commit x → AllByRecursion IsWrite x.work.writes
    writes_of t x free opened does =
        let counted = subst (λ (o : Option Executed). IfSome o (λ y. WaitCounted catalog y.text (id_of c h.begun) (read_items_since events c h.begun k.entries) (calls_of events c y) h.vacuum h.txn)) waits k.counted.waits in
        let txn = subst (λ (v : Option VacuumAt). WaitCounted catalog w.text (id_of c h.begun) (read_items_since events c h.begun k.entries) (calls_of events c w) v h.txn) free counted in
        let one = subst (OpenCounted w.text (id_of c h.begun) (read_items_since events c h.begun k.entries) (calls_of events c w)) opened txn in
        (subst (DoingCounted w.text (id_of c h.begun) (read_items_since events c h.begun k.entries) (calls_of events c w)) does one).2

    by_doing : (t : TxnAt) (x : Doing) (p : Option Planned) (n : Next) (u : TxnAt) → h.vacuum ≡ None → h.txn ≡ Some t → t.doing ≡ x → h.plan ≡ p → IsOpenAs c h.begun k.entries t → IsDoing events c t p (Some w) x → pending_in x ≡ Some q → NextPost t x p r now n u → a ≡ answer_in n → d ≡ after h n u
        → ReadCall catalog events c w h q r now a d ⊎ CommitCall events c k.entries w h q r a d
    by_doing t doing.Idle p n u free opened does plan since i e z is left = none_some q e
    by_doing t (doing.Read access x) None n u free opened does plan since i e z is left = absurd z
    by_doing t (doing.Read access x) (Some p) n u free opened does plan since i e z is left = inl (record {
      t = t;
      p = p;
      access = access;
      x = x;
      free = free;
      opened = opened;
      plan = plan;
      reads = does;
      is = i;
      tables = tables;
      under = under_of t opened;
      asked = asked_of t access x p free opened plan does;
      pends = e;
      next = n;
      u = u;
      answered = z;
      answer = is;
      left = left;
    })
    by_doing t (doing.Commit x) (Some p) n u free opened does plan since i e z is left = absurd z
    by_doing t (doing.Commit x) None n u free opened does plan since i e z is left = inr (record {
      t = t;
      k = x;
      free = free;
      opened = opened;
      commits = does;
      is = i;
      since = since;
      writes = writes_of t x free opened does;
      pends = e;
      progress = z.progress;
      u = u;
      answered = z.answered;
      answer = subst (λ (m : Next). a ≡ answer_in m) z.next is;
      left = subst (λ (m : Next). d ≡ after h m u) z.next left;
    })
    by_doing t doing.Over p n u free opened does plan since i e z is left = none_some q e

    by_txn : (o : Option TxnAt) → h.vacuum ≡ None → h.txn ≡ o → DoingByHistory events c h.begun k.entries (Some w) h.plan o → pending_of o ≡ Some q → OpenTxnPost h o r now a d → ReadCall catalog events c w h q r now a d ⊎ CommitCall events c k.entries w h q r a d
    by_txn None free opened s e z = none_some q e
    by_txn (Some t) free opened s e z = by_doing t t.doing h.plan z.next z.left free opened refl refl s.1 s.2 e z.answered z.answer z.client

    by_vacuum : (v : Option VacuumAt) → h.vacuum ≡ v → ClientByHistory events c h.begun k.entries (Some w) h.plan h.txn v → pending_by v h.txn ≡ Some q → ReplyPost h v r now a d → CallOf catalog events c k.entries w h q r now a d
    by_vacuum None free s e z = inr (by_txn h.txn free refl s e z)
    by_vacuum (Some v) runs s e z = inl (record { v = v; runs = runs; rests = s.0; is = s.2; pends = e; answered = z.0; left = z.1 })
