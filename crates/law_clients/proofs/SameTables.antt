-- What a client is about, where another catalog lists the tables that one lists.
use Rattle.std.proofs.Common.{Option, Some, None, List}
use Rattle.std.specs.Prelude.{IfSome}
use Rattle.law_clients.specs.Types.{Doing, Read, ReadStep, Record, Scan, Span, Table, TableName, Write}
use Rattle.sdb_exec.specs.Plans.{Planned}
use Rattle.sdb_txn.specs.declared.read.ReadStep.TheVariants as step
use Rattle.sdb_txn.specs.Read.{Asking, Ended, ReadStage, Resolving}
use Rattle.sdb_snapshot.specs.Reads.{ReadRecord}
use Rattle.sdb_snapshot.specs.Seen.{Seen}
use Rattle.sdb_phases.specs.Work.{Work}
use Rattle.sdb_txn.specs.declared.txn.Doing.TheVariants as doing
use Rattle.sdb_txn.specs.Txn.{TxnAt}
use Rattle.sdb_vacuum.specs.Vacuum.{Over, Removing, Resolving as Resolves, Scanning, VacuumAt, VacuumStage}
use Rattle.sdb_client.specs.Client.{ClientAt as Client}
use Rattle.sdb_types.proofs.Public.{all_each}
use Rattle.law_clients.specs.About.{AreRecordsIn, IsDoingIn, IsIn, IsListed, IsOfTables, IsRecordIn, IsSeenIn, IsStageIn, IsVacuumIn, IsVacuumStageIn, IsWorkIn}

module _ (a b : List Table) (same : (n : TableName) → IsListed a n → IsListed b n) where
  record_in : (o : Option Record) → IsRecordIn a o → IsRecordIn b o
  record_in None h = tt
  record_in (Some r) h = same r.key.table h

  records_in : (rs : List Record) → AreRecordsIn a rs → AreRecordsIn b rs
  records_in rs h = all_each (λ (r : Record). IsIn a r.key) (λ (r : Record). IsIn b r.key) rs (λ r z. same r.key.table z) h

  seen_in : (s : Seen) → IsSeenIn a s → IsSeenIn b s
  seen_in s h = record {
    read_set = all_each (λ (e : ReadRecord). IsIn a e.0 × IsRecordIn a e.1) (λ (e : ReadRecord). IsIn b e.0 × IsRecordIn b e.1) s.read_set (λ e z. (same e.0.table z.0, record_in e.1 z.1)) h.read_set;
    reads = all_each (λ (r : Read). IsIn a r.key) (λ (r : Read). IsIn b r.key) s.reads (λ r z. same r.key.table z) h.reads;
    scans = all_each (λ (x : Scan). IsListed a x.span.table) (λ (x : Scan). IsListed b x.span.table) s.scans (λ x z. same x.span.table z) h.scans;
    writes = all_each (λ (w : Write). IsIn a w.key × IsRecordIn a w.base) (λ (w : Write). IsIn b w.key × IsRecordIn b w.base) s.writes (λ w z. (same w.key.table z.0, record_in w.base z.1)) h.writes;
  }

  work_in : (p : Work) → IsWorkIn a p → IsWorkIn b p
  work_in p h = record {
    writes = all_each (λ (w : Write). IsIn a w.key × IsRecordIn a w.base) (λ (w : Write). IsIn b w.key × IsRecordIn b w.base) p.writes (λ w z. (same w.key.table z.0, record_in w.base z.1)) h.writes;
    reads = all_each (λ (r : Read). IsIn a r.key) (λ (r : Read). IsIn b r.key) p.reads (λ r z. same r.key.table z) h.reads;
    scans = all_each (λ (x : Scan). IsListed a x.span.table) (λ (x : Scan). IsListed b x.span.table) p.scans (λ x z. same x.span.table z) h.scans;
  }

  stage_in : (s : ReadStage) → IsStageIn a s → IsStageIn b s
  stage_in Asking h = tt
  stage_in (Resolving images rec meta phase left) h = (records_in images h.0, same rec.key.table h.1, records_in left h.2)
  stage_in (Ended s) h = by s h
    where
      by : (x : ReadStep) → IsStageIn a (Ended x) → IsStageIn b (Ended x)
      by (step.Images images) k = records_in images k
      by step.More k = tt
      by step.Faulted k = tt
      by (step.Busy key id at) k = tt
      by (step.BadRecord key) k = tt
      by step.NoMemory k = tt

  doing_in : (s : Seen) (d : Doing) (p : Option Planned) → IsDoingIn a s d p → IsDoingIn b s d p
  doing_in s doing.Idle p h = seen_in s h
  doing_in s (doing.Read x r) None h = h
  doing_in s (doing.Read x r) (Some p) h = (seen_in s h.0, record { table = same p.table.name h.1.table; access = h.1.access; asked = h.1.asked; stage = stage_in r.stage h.1.stage })
  doing_in s (doing.Commit k) p h = work_in k.work h
  doing_in s doing.Over p h = tt

  vacuum_in : (v : VacuumAt) → IsVacuumIn a v → IsVacuumIn b v
  vacuum_in v h = (by v.stage h.0, all_each (λ (s : Span). IsListed a s.table) (λ (s : Span). IsListed b s.table) v.spans (λ s z. same s.table z) h.1)
    where
      by : (s : VacuumStage) → IsVacuumStageIn a s → IsVacuumStageIn b s
      by (Scanning span) k = same span.table k
      by (Resolves rec meta phase left) k = (same rec.key.table k.0, records_in left k.1)
      by (Removing x left) k = (same x.key.table k.0, records_in left k.1)
      by Over k = tt

  pub of_tables : (c : Client) → IsOfTables a c → IsOfTables b c
  of_tables c h = record { txn = txn c.txn h.txn; vacuum = vacuum c.vacuum h.vacuum }
    where
      txn : (o : Option TxnAt) → IfSome o (λ t. IsDoingIn a t.seen t.doing c.plan) → IfSome o (λ t. IsDoingIn b t.seen t.doing c.plan)
      txn None k = tt
      txn (Some t) k = doing_in t.seen t.doing c.plan k

      vacuum : (o : Option VacuumAt) → IfSome o (IsVacuumIn a) → IfSome o (IsVacuumIn b)
      vacuum None k = tt
      vacuum (Some v) k = vacuum_in v k
