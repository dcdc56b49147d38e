-- Whatever a client takes and whatever reply it gets, what it reads then is of a statement that the catalog takes.
use Rattle.std.proofs.Common.{◌≡◌, ◌≢◌, ℕ, ℤ, Bool, true, false, ◌||◌, List, ◌∷◌, Option, Some, None, refl, sym, subst, ◌∙◌, inl, inr}
use Rattle.std.specs.Prelude.{IfSome, is_some}
use Rattle.law_clients.specs.Types.{Access, Answer, Doing, Next, Record, Reply, Request, Span, Table}
use Rattle.sdb_record.specs.declared.access.Access.TheVariants as access
use Rattle.sdb_model.specs.declared.answer.Answer.TheVariants as answer
use Rattle.sdb_exec.specs.Plans.{Planned}
use Rattle.sdb_model.specs.Reads.{access_of}
use Rattle.sdb_phases.specs.Commit.{preparing}
use Rattle.sdb_txn.specs.Read.{ReadAt, read_step}
use Rattle.sdb_txn.specs.Phases.{CommitAt}
use Rattle.sdb_txn.specs.declared.txn.Doing.TheVariants as doing
use Rattle.sdb_txn.specs.Txn.{TxnAt, committing, idle as idle_of, work_of}
use Rattle.sdb_vacuum.specs.Vacuum.{VacuumAt, begun}
use Rattle.sdb_client.specs.declared.next.Next.TheVariants as next
use Rattle.sdb_client.specs.Client.{ClientAt as Client, IsIdle, Taking, gives, holding, with_rows_read, plan_of, resting}
use Rattle.sdb_client.specs.Step.{AnsweredAtOnce, Begins, CommitEnds, CommitGoesOn, CommitStarts, IsReadAt, IsVacuumAt, LosesCommit, ReadConflicts, ReadEnds, ReadFails, ReadGoesOn, ReadKnown, ReadStarts, Receives, RollsBack, Step, Takes, VacuumEnds, VacuumGoesOn, VacuumStarts}
use Rattle.law_clients.specs.About.{AreListed, IsListed}
use Rattle.law_clients.specs.States.{IsAfter, IsAskedBy, IsFitted, IsFittedBy, IsUsing, IsUsingTxn}
use Rattle.law_clients.proofs.Vacuums.{begun_in, step_are}
use Rattle.law_clients.proofs.Whole.{by_memory, literals_read}
use Rattle.sdb_client.proofs.Public.{given_idle as left_idle}

---- a client that is so after it

pub no_none : (b : Answer) → ◌≡◌ {A = Option Answer} (Some b) None → ⊥
no_none b e = cc

none_some : is_some {T = Answer} None ≡ true → ⊥
none_some e = cc

module _ (catalog : List Table) (c : Client) where
  -- it runs no VACUUM
  fits : (d : Client) → d.vacuum ≡ None → IsUsingTxn catalog d.txn d.plan → IsFitted catalog d
  fits d none h = subst (λ (v : Option VacuumAt). IsFittedBy catalog v d) (sym none) h

  -- it has answered, and its open transaction does nothing
  so_left : (b : Answer) (u : TxnAt) → c.vacuum ≡ None → u.doing ≡ doing.Idle → IsAfter catalog c (Some b) (holding c u)
  so_left b u none idle = record {
    number = refl;
    fitted = fits (holding c u) none (subst (λ (d : Doing). IsUsing catalog d None) (sym idle) refl);
    busy = λ e. absurd (no_none b e);
    idle = λ h. record { free = none; still = idle };
  }

  -- it has answered, and no transaction is open
  so_ended : (b : Answer) → c.vacuum ≡ None → IsAfter catalog c (Some b) (resting c)
  so_ended b none = record { number = refl; fitted = fits (resting c) none refl; busy = λ e. absurd (no_none b e); idle = λ h. record { free = none; still = tt } }

  -- it has answered, and is as before
  so_same : (b : Answer) → IsIdle c → IsFitted catalog c → IsAfter catalog c (Some b) c
  so_same b idle fitted = record { number = refl; fitted = fitted; busy = λ e. absurd (no_none b e); idle = λ h. idle }

  -- it has answered nothing, and reads
  so_reads : (t : TxnAt) (p : Planned) (a : Access) (x : ReadAt) (plan : Option Planned) → c.vacuum ≡ None → plan ≡ Some p → IsAskedBy catalog p a x → IsAfter catalog c None (record c { txn = Some (record t { doing = doing.Read a x }); plan = plan })
  so_reads t p a x plan none is asked = record {
    number = refl;
    fitted = fits (record c { txn = Some (record t { doing = doing.Read a x }); plan = plan }) none (subst (λ (o : Option Planned). IsUsing catalog (doing.Read a x) o) (sym is) asked);
    busy = λ e. inl (λ k. cc);
    idle = λ h. absurd (none_some h);
  }

  -- it has answered nothing, and commits
  so_commits : (u : TxnAt) (k : CommitAt) (plan : Option Planned) → c.vacuum ≡ None → plan ≡ None → u.doing ≡ doing.Commit k → IsAfter catalog c None (record c { txn = Some u; plan = plan })
  so_commits u k plan free none commits = record {
    number = refl;
    fitted = fits (record c { txn = Some u; plan = plan }) free (subst (λ (d : Doing). IsUsing catalog d plan) (sym commits) none);
    busy = λ e. inl (λ z. no_idle k (sym commits ∙ z));
    idle = λ h. absurd (none_some h);
  }
    where
      no_idle : (k : CommitAt) → doing.Commit k ≡ doing.Idle → ⊥
      no_idle k e = cc

---- texts

module _ (q : Taking) (text : List ℕ) (c : Client) (is_idle : IsIdle c) (fitted : IsFitted q.catalog c) where
  using : IsUsingTxn q.catalog c.txn c.plan
  using = subst (λ (v : Option VacuumAt). IsFittedBy q.catalog v c) is_idle.free fitted

  -- no transaction of it is open
  no_txn : (o : Option TxnAt) (elsewhere : Bool) → c.txn ≡ o → (is_some o || elsewhere) ≡ false → (c.txn ≡ None) × (c.plan ≡ None)
  no_txn None elsewhere e k = (e, subst (λ (o : Option TxnAt). IsUsingTxn q.catalog o c.plan) e using)
  no_txn (Some t) elsewhere e k = absurd (cc)

  idle_txn : (t : TxnAt) → c.txn ≡ Some t → t.doing ≡ doing.Idle
  idle_txn t e = subst (λ (o : Option TxnAt). IfSome o (λ u. u.doing ≡ doing.Idle)) e is_idle.still

  pub takes_fitted : (result : Option Answer) (d : Client) → Step c (Takes q text) result d → IsAfter q.catalog c result d
  takes_fitted result d (AnsweredAtOnce {a = b} at) = so_same q.catalog c b is_idle fitted
  takes_fitted result d (Begins reads none shut) = record { number = refl; fitted = refl; busy = λ e. absurd (no_none answer.Done e); idle = λ k. record { free = refl; still = refl } }
  takes_fitted result d (RollsBack t reads e) = so_ended q.catalog c answer.Done is_idle.free
  takes_fitted result d (LosesCommit reads) = so_ended q.catalog c answer.NoMemory is_idle.free
  takes_fitted result d (CommitStarts t reads e) = so_commits q.catalog c (committing t q.now) (record { work = work_of t q.now; stage = preparing (work_of t q.now) 0 }) None is_idle.free refl refl
  takes_fitted result d (VacuumStarts t ts reads none k) =
      let closed = no_txn c.txn q.gate.open_elsewhere refl none in
      record { number = refl; fitted = (closed.0, closed.1, subst (λ (xs : List Table). AreListed xs (begun (t ∷ ts)).spans) (sym k) (begun_in t ts).1); busy = λ e. inr refl; idle = λ e. absurd (none_some e) }
  takes_fitted result d (ReadKnown t table st on known) = so_left q.catalog c _ _ is_idle.free (left_idle t (gives (plan_of table st) (access_of table st) t) (idle_txn t on.opened))
  takes_fitted result d (ReadStarts t table st on unknown) =
      so_reads q.catalog c t (plan_of table st) (access_of table st) _ (Some (plan_of table st)) is_idle.free refl (record { named = on.named; asked = refl; accepted = on.accepted; literals = literals_read text st on.reads; access = refl; request = refl })

---- replies

pub by_next : {X : Type 0} (n : Next) → (n ≡ next.Answer answer.NoMemory → X) → (n ≢ next.Answer answer.NoMemory → X) → X
by_next next.Call a b = b (λ e. cc)
by_next (next.End z) a b = b (λ e. cc)
by_next (next.Answer z) a b = by_memory (Some z) (λ e. a (same z e)) (λ k. b (λ e. k (other z e)))
  where
    same : (z : Answer) → Some z ≡ Some answer.NoMemory → next.Answer z ≡ next.Answer answer.NoMemory
    same z e = cc

    other : (z : Answer) → next.Answer z ≡ next.Answer answer.NoMemory → Some z ≡ Some answer.NoMemory
    other z e = cc

rows_read_idle : (t : TxnAt) (a : Access) (images : List Record) → (with_rows_read t a images).doing ≡ doing.Idle
rows_read_idle t (access.Get key) images = refl
rows_read_idle t (access.Scan span) images = refl

module _ (catalog : List Table) (c : Client) (q : Request) (r : Reply) (now : ℤ) (fitted : IsFitted catalog c) where
  -- the statement that reads
  pub asked_at : {t : TxnAt} {p : Planned} {a : Access} {x : ReadAt} → IsReadAt c q t p a x → IsAskedBy catalog p a x
  asked_at {a} {x} at =
      subst (λ (o : Option Planned). IsUsing catalog (doing.Read a x) o) at.plan (subst (λ (d : Doing). IsUsing catalog d c.plan) at.doing
      (subst (λ (o : Option TxnAt). IsUsingTxn catalog o c.plan) at.opened (subst (λ (v : Option VacuumAt). IsFittedBy catalog v c) at.free fitted)))

  -- the VACUUM that runs
  pub vacuum_at : (v : VacuumAt) → IsVacuumAt c q v → (c.txn ≡ None) × (c.plan ≡ None) × AreListed catalog v.spans
  vacuum_at v at = subst (λ (o : Option VacuumAt). IsFittedBy catalog o c) at.runs fitted

  pub replies_fitted : (result : Option Answer) (d : Client) → Step c (Receives q r now) result d → IsAfter catalog c result d
  replies_fitted result d (ReadGoesOn t p a x at more) =
      let k = asked_at at in
      so_reads catalog c t p a (record x { stage = read_step x.stage now r }) c.plan at.free at.plan (record { named = k.named; asked = k.asked; accepted = k.accepted; literals = k.literals; access = k.access; request = k.request })
  replies_fitted result d (ReadEnds t p a x images at ends is_asked as_read) =
      so_left catalog c _ _ at.free (left_idle (with_rows_read t a images) (gives p a (with_rows_read t a images)) (rows_read_idle t a images))
  replies_fitted result d (ReadConflicts t p a x images key found at ends changed) = so_ended catalog c _ at.free
  replies_fitted result d (ReadFails {b = b} t p a x at failed) = so_left catalog c b (idle_of t) at.free refl
  replies_fitted result d (CommitGoesOn {u = u} t k next at goes) = so_commits catalog c u _ c.plan at.free at.plan goes.doing
  replies_fitted result d (CommitEnds t k a at ended) = so_ended catalog c _ at.free
  replies_fitted result d (VacuumGoesOn {w = w} v at gave) =
      let k = vacuum_at v at in
      record { number = refl; fitted = (k.0, k.1, subst (λ (x : VacuumAt). AreListed catalog x.spans) (sym gave.0) (step_are (λ (s : Span). IsListed catalog s.table) v.spans v.removed v.stage now r k.2)); busy = λ e. inr refl; idle = λ e. absurd (none_some e) }
  replies_fitted result d (VacuumEnds {b = b} v w s at gave answers) =
      let k = vacuum_at v at in
      record {
        number = refl;
        fitted = subst (λ (o : Option TxnAt). IsUsingTxn catalog o c.plan) (sym k.0) k.1;
        busy = λ e. absurd (no_none b e);
        idle = λ h. record { free = refl; still = subst (λ (o : Option TxnAt). IfSome o (λ u. u.doing ≡ doing.Idle)) (sym k.0) tt };
      }
