-- A client stays on tables of the catalog, whatever it takes and is answered.
use Rattle.std.proofs.Common.{◌≡◌, ℕ, ℤ, Bool, true, false, cond, List, ◌∷◌, Option, Some, None, IfSome, refl, sym, ap, subst, ◌∙◌}
use Rattle.std.specs.Prelude.{is_some}
use Rattle.law_clients.specs.Types.{Access, Answer, Doing, PlanStep, ReadStep, Record, Reply, Request, Statement, Table}
use Rattle.sdb_types.specs.Contents.{CanAnswer}
use Rattle.sdb_record.specs.declared.access.Access.TheVariants as access
use Rattle.sdb_model.specs.Exec.{find_table, table_of}
use Rattle.sdb_model.specs.Transactions.{changes_nothing}
use Rattle.sdb_exec.specs.declared.plan.PlanStep.TheVariants.{Finished, Read as Wants}
use Rattle.sdb_exec.specs.Plans.{Planned}
use Rattle.sdb_model.specs.Reads.{access_of}
use Rattle.sdb_txn.specs.declared.read.ReadStep.TheVariants as step
use Rattle.sdb_txn.specs.Read.{Asking, Ended, ReadAt, ReadStage, Resolving, read_pending_at, read_result, read_step, request_of}
use Rattle.sdb_txn.specs.declared.txn.Doing.TheVariants as doing
use Rattle.sdb_txn.specs.Txn.{TxnAt, idle, pending_in}
use Rattle.sdb_vacuum.specs.declared.work.VacuumStep.TheVariants as vacuuming
use Rattle.sdb_vacuum.specs.Vacuum.{Gives, VacuumAt, begun, vacuum_step}
use Rattle.sdb_client.specs.Client.{ClientAt as Client, IsIdle, Taking, client_pending, given_answer, given_left, gives, holding, with_rows_read, pending_by, pending_of, plan_of, resting, written}
use Rattle.sdb_client.specs.Step.{AnsweredAtOnce, Begins, CommitEnds, CommitGoesOn, CommitStarts, IsOnRows, IsReadAt, IsVacuumAt, LosesCommit, ReadConflicts, ReadEnds, ReadFails, ReadGoesOn, ReadKnown, ReadStarts, Receives, RollsBack, Step, Takes, VacuumEnds, VacuumGoesOn, VacuumStarts}
use Rattle.law_clients.specs.About.{AreRecordsIn, IsDoingIn, IsListed, IsOfTables, IsReadIn, IsSeenIn, IsStageIn, IsVacuumIn, IsWorkIn}
use Rattle.law_clients.proofs.InTables.{GivesIn, IsPlayed, access_in, access_table, commit_played, get_in, gives_in, read_played, scan_in, stepped_in, swept_in, sweep_played, written_in}
use Rattle.law_clients.proofs.RowsFit.{found_itself}
use Rattle.law_clients.proofs.Vacuums.{begun_in}

module _ (catalog : List Table) where
  abbrev Of : Client → Type 0
  Of c = IsOfTables catalog c

  open_in : (c : Client) (t : TxnAt) → c.txn ≡ Some t → Of c → IsDoingIn catalog t.seen t.doing c.plan
  open_in c t e h = subst (λ (o : Option TxnAt). IfSome o (λ u. IsDoingIn catalog u.seen u.doing c.plan)) e h.txn

  -- an open transaction that does nothing
  abbrev IsIdleIn : TxnAt → Type 0
  IsIdleIn t = (t.doing ≡ doing.Idle) × IsSeenIn catalog t.seen

  idle_in : (c : Client) (t : TxnAt) → c.txn ≡ Some t → IsIdle c → Of c → IsIdleIn t
  idle_in c t e i h =
      let still : t.doing ≡ doing.Idle = subst (λ (o : Option TxnAt). IfSome o (λ u. u.doing ≡ doing.Idle)) e i.still in
      (still, subst (λ (x : Doing). IsDoingIn catalog t.seen x c.plan) still (open_in c t e h))

  -- the VACUUM that a client runs
  abbrev Sweeps : Client → Type 0
  Sweeps c = IfSome c.vacuum (IsVacuumIn catalog)

  held_in : (c : Client) (u : TxnAt) → Sweeps c → IsIdleIn u → Of (holding c u)
  held_in c u v h = record { txn = subst (λ (x : Doing). IsDoingIn catalog u.seen x None) (sym h.0) h.1; vacuum = v }

  rests_in : (c : Client) → Sweeps c → Of (resting c)
  rests_in c v = record { txn = tt; vacuum = v }

  left_in : (t : TxnAt) (s : PlanStep) → IsIdleIn t → GivesIn catalog s → IsIdleIn (given_left t s)
  left_in t (Wants a) h g = h
  left_in t (Finished a ks) h g = by (changes_nothing (given_answer t (Finished a ks)))
    where
      by : (b : Bool) → IsIdleIn (cond b t (written t ks))
      by true = h
      by false = (h.0, written_in catalog t.seen ks g h.1)

  ---- a text that is accepted

  module _ (q : Taking) (here : q.catalog ≡ catalog) (text : List ℕ) (c : Client) (waits : IsIdle c) (h : Of c) where
    begun_vacuum : (t : Table) (ts : List Table) → q.catalog ≡ t ∷ ts → IsVacuumIn catalog (begun (t ∷ ts))
    begun_vacuum t ts e = subst (λ (xs : List Table). IsVacuumIn xs (begun (t ∷ ts))) (sym e ∙ here) (begun_in t ts)

    listed_in : (st : Statement) (t : TxnAt) (table : Table) → IsOnRows c q text t table st → IsListed catalog table.name
    listed_in st t table on =
        let found : find_table q.catalog table.name ≡ Some table = found_itself q.catalog (table_of st) table on.named in
        subst (λ (ts : List Table). IsListed ts table.name) here (ap (λ (o : Option Table). is_some o) found)

    text_in : (result : Option Answer) (d : Client) → Step c (Takes q text) result d → Of d
    text_in result d (AnsweredAtOnce at) = h
    text_in result d (Begins reads none shut) = record { txn = record { read_set = tt; reads = tt; scans = tt; writes = tt }; vacuum = tt }
    text_in result d (RollsBack t reads e) = rests_in c h.vacuum
    text_in result d (LosesCommit reads) = rests_in c h.vacuum
    text_in result d (CommitStarts t reads e) = let seen = (idle_in c t e waits h).1 in record { txn = record { writes = seen.writes; reads = seen.reads; scans = seen.scans }; vacuum = h.vacuum }
    text_in result d (VacuumStarts t ts reads none e) = record { txn = h.txn; vacuum = begun_vacuum t ts e }
    text_in result d (ReadKnown t table st on known) =
        let p : Planned = plan_of table st in
        let a : Access = access_of table st in
        held_in c (given_left t (gives p a t)) h.vacuum (left_in t (gives p a t) (idle_in c t on.opened waits h) (gives_in catalog p a t.seen (listed_in st t table on) refl))
    text_in result d (ReadStarts t table st on unknown) = record { txn = ((idle_in c t on.opened waits h).1, record { table = listed_in st t table on; access = refl; asked = refl; stage = tt }); vacuum = h.vacuum }

  ---- a reply that is accepted

  noting_in : (t : TxnAt) (a : Access) (images : List Record) → IsListed catalog (access_table a) → AreRecordsIn catalog images → IsSeenIn catalog t.seen → IsIdleIn (with_rows_read t a images)
  noting_in t (access.Get key) images k h g = (refl, get_in catalog t.seen key images k h g)
  noting_in t (access.Scan span) images k h g = (refl, scan_in catalog t.seen span images k h g)

  asked_as : (p : Planned) (a : Access) (x : ReadAt) (q : Request) → IsReadIn catalog p a x → read_pending_at x.request x.stage ≡ Some q → read_pending_at (request_of a) x.stage ≡ Some q
  asked_as p a x q k e = subst (λ (y : Request). read_pending_at y x.stage ≡ Some q) k.asked e

  images_in : (s : ReadStage) (images : List Record) → read_result s ≡ step.Images images → IsStageIn catalog s → AreRecordsIn catalog images
  images_in Asking images e i = absurd (cc)
  images_in (Resolving found rec meta phase left) images e i = absurd (cc)
  images_in (Ended s) images e i = subst (λ (y : ReadStep). IsStageIn catalog (Ended y)) e i

  module _ (c : Client) (q : Request) (r : Reply) (now : ℤ) (can : CanAnswer q r) (h : Of c) where
    pending_txn : (t : TxnAt) → c.vacuum ≡ None → c.txn ≡ Some t → client_pending c ≡ Some q → pending_in t.doing ≡ Some q
    pending_txn t free opened pends = subst (λ (o : Option TxnAt). pending_of o ≡ Some q) opened (subst (λ (v : Option VacuumAt). pending_by v c.txn ≡ Some q) free pends)

    read_at : (t : TxnAt) (p : Planned) (a : Access) (x : ReadAt) → IsReadAt c q t p a x → IsSeenIn catalog t.seen × IsReadIn catalog p a x
    read_at t p a x at = subst (λ (o : Option Planned). IsDoingIn catalog t.seen (doing.Read a x) o) at.plan (subst (λ (d : Doing). IsDoingIn catalog t.seen d c.plan) at.doing (open_in c t at.opened h))

    stage_in : (t : TxnAt) (p : Planned) (a : Access) (x : ReadAt) → IsReadAt c q t p a x → IsStageIn catalog (read_step x.stage now r)
    stage_in t p a x at =
        let k = (read_at t p a x at).1 in
        let asks : pending_in (doing.Read a x) ≡ Some q = subst (λ (d : Doing). pending_in d ≡ Some q) at.doing (pending_txn t at.free at.opened at.pending) in
        stepped_in catalog a x.stage q now r (access_in catalog p a k.table k.access) k.stage (asked_as p a x q k asks) can

    -- the VACUUM after a call
    swept_at : (v w : VacuumAt) → IsVacuumAt c q v → Gives (vacuum_step v now r) w vacuuming.More → IsVacuumIn catalog w
    swept_at v w at gave =
        let is : IsVacuumIn catalog v = subst (λ (o : Option VacuumAt). IfSome o (IsVacuumIn catalog)) at.runs h.vacuum in
        subst (IsVacuumIn catalog) (sym gave.0) (swept_in catalog v.spans v.removed v.stage q now r is.0 is.1 (subst (λ (o : Option VacuumAt). pending_by o c.txn ≡ Some q) at.runs at.pending) can)

    pub replies_in : {result : Option Answer} {d : Client} → Step c (Receives q r now) result d → Of d
    replies_in (ReadGoesOn t p a x at more) =
        let k = read_at t p a x at in
        record { txn = subst (λ (o : Option Planned). IsDoingIn catalog t.seen (doing.Read a (record x { stage = read_step x.stage now r })) o) (sym at.plan) (k.0, record { table = k.1.table; access = k.1.access; asked = k.1.asked; stage = stage_in t p a x at }); vacuum = h.vacuum }
    replies_in (ReadEnds t p a x images at ends is_asked as_read) =
        let k = read_at t p a x at in
        let v : TxnAt = with_rows_read t a images in
        let idle_then : IsIdleIn v = noting_in t a images (access_in catalog p a k.1.table k.1.access) (images_in (read_step x.stage now r) images ends (stage_in t p a x at)) k.0 in
        held_in c (given_left v (gives p a v)) h.vacuum (left_in v (gives p a v) idle_then (gives_in catalog p a v.seen k.1.table k.1.access))
    replies_in (ReadConflicts t p a x images key found at ends changed) = rests_in c h.vacuum
    replies_in (ReadFails t p a x at failed) = held_in c (idle t) h.vacuum (refl, (read_at t p a x at).0)
    replies_in (CommitGoesOn {u = u} t k next at goes) =
        let work : IsWorkIn catalog k.work = subst (λ (d : Doing). IsDoingIn catalog t.seen d c.plan) at.doing (open_in c t at.opened h) in
        record { txn = subst (λ (x : Doing). IsDoingIn catalog u.seen x c.plan) (sym goes.doing) work; vacuum = h.vacuum }
    replies_in (CommitEnds t k a at ended) = rests_in c h.vacuum
    replies_in (VacuumGoesOn {w = w} v at gave) = record { txn = h.txn; vacuum = swept_at v w at gave }
    replies_in (VacuumEnds v w s at gave answers) = record { txn = h.txn; vacuum = tt }

  ---- the call that is pending

  doing_asks : (t : TxnAt) (o : Doing) (p : Option Planned) (q : Request) → IsDoingIn catalog t.seen o p → pending_in o ≡ Some q → IsPlayed catalog q
  doing_asks t doing.Idle p q h e = absurd (cc)
  doing_asks t (doing.Read a x) None q h e = absurd h
  doing_asks t (doing.Read a x) (Some p) q h e = read_played catalog a x.stage q (access_in catalog p a h.1.table h.1.access) h.1.stage (asked_as p a x q h.1 e)
  doing_asks t (doing.Commit k) p q h e = commit_played catalog k.work k.stage q h e
  doing_asks t doing.Over p q h e = absurd (cc)

  pub asks_in : (c : Client) (q : Request) → Of c → client_pending c ≡ Some q → IsPlayed catalog q
  asks_in c q h asked = by_vacuum c.vacuum refl asked
    where
      by_txn : (o : Option TxnAt) → c.txn ≡ o → pending_of o ≡ Some q → IsPlayed catalog q
      by_txn None e k = absurd (cc)
      by_txn (Some t) e k = doing_asks t t.doing c.plan q (open_in c t e h) k

      by_vacuum : (v : Option VacuumAt) → c.vacuum ≡ v → pending_by v c.txn ≡ Some q → IsPlayed catalog q
      by_vacuum None e k = by_txn c.txn refl k
      by_vacuum (Some v) e k = sweep_played catalog v.stage q (subst (λ (o : Option VacuumAt). IfSome o (IsVacuumIn catalog)) e h.vacuum).0 k

pub takes_in : (q : Taking) (text : List ℕ) (c d : Client) (result : Option Answer) → IsIdle c → IsOfTables q.catalog c → Step c (Takes q text) result d → IsOfTables q.catalog d
takes_in q text c d result waits h k = text_in q.catalog q refl text c waits h result d k
