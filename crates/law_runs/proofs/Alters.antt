-- A column that is to be added to a table: what is so of the clients where none of them that goes on has a transaction open or runs VACUUM.
use Rattle.std.proofs.Common.{◌≡◌, inl, inr, ℕ, zero, suc, Bool, true, false, List, [], ◌∷◌, ◌++◌, Option, Some, None, IfSome, refl, sym, ap, subst, ◌∙◌}
use Rattle.std.specs.Prelude.{if◌then◌else◌, is_none, is_some, slice_get}
use Rattle.law_runs.specs.Types.{ClientSlot, Event, Kind, Script, Table, TableName}
use Rattle.sdb_model.specs.declared.event.Altered.{Altered}
use Rattle.sdb_model.specs.declared.event.Altered.TheVariants as altered
use Rattle.sdb_model.specs.declared.event.Event.TheVariants as event
use Rattle.sdb_model.specs.Catalogs.{catalog_after}
use Rattle.sdb_model.specs.Rows.{Name}
use Rattle.sdb_client.specs.Client.{ClientAt}
use Rattle.sdb_client.specs.Execution.{AlterStep, AreQuiet, SomeActive}
use Rattle.sdb_record.specs.Parts.{is_column_name}
use Rattle.sdb_schema.specs.declared.table.Column.{Column}
use Rattle.sdb_schema.specs.Added.{column_refused}
use Rattle.sdb_model.specs.Follows.{IsActive, IsAltered, is_open, runs_vacuum}
use Rattle.sdb_types.proofs.Public.{and_second, clash}
use Rattle.law_answers.proofs.Public.{open_now, sweeps_now}
use Rattle.sdb_txn.specs.Txn.{TxnAt}
use Rattle.sdb_vacuum.specs.Vacuum.{VacuumAt}
use Rattle.law_clients.specs.Invariant.{AddsAtRest}
use Rattle.law_clients.specs.System.{Stopped, has_open}
use Rattle.law_clients.specs.States.{ClientState, IsFitted, IsFittedBy, IsUsingTxn, abstract_by, abstract_client, abstract_txn, system_of}
use Rattle.law_answers.specs.Invariant.{AddsWithNoneOpen}
use Rattle.law_runs.specs.World.{HaveCauses, WorldAt, states_of}
use Rattle.law_runs.proofs.Kept.{Refits, refits_same}
use Rattle.law_runs.proofs.Slots.{HasOpen, RunsVacuum, each_client, some_client}

-- one that goes on has no transaction open and runs no VACUUM
quiet_client : (s : ClientState) → (s.stopped ≡ false → s.client.txn ≡ None) → (s.stopped ≡ false → s.client.vacuum ≡ None) → has_open (abstract_client s) ≡ false
quiet_client s closed idle = by s.stopped refl
  where
    as_if : Bool → Bool
    as_if b = has_open (if b then Stopped else abstract_by s.client.vacuum s.client.txn)

    by : (b : Bool) → s.stopped ≡ b → as_if s.stopped ≡ false
    by true e = ap as_if e
    by false e = ap as_if e ∙ ap (λ (v : Option VacuumAt). has_open (abstract_by v s.client.txn)) (idle e) ∙ ap (λ (o : Option TxnAt). has_open (abstract_txn o)) (closed e)

module _ (client_slots : List ClientSlot) (quiet : AreQuiet client_slots) where
  none_open : (c : ℕ) → (states_of client_slots c).stopped ≡ false → (states_of client_slots c).client.txn ≡ None
  none_open zero goes = refl
  none_open (suc j) goes = each_client (λ x. x.stopped ≡ false → x.client.txn ≡ None) (slice_get client_slots j) (suc j) (λ e. refl) (quiet j).0 goes

  none_vacuums : (c : ℕ) → (states_of client_slots c).stopped ≡ false → (states_of client_slots c).client.vacuum ≡ None
  none_vacuums zero goes = refl
  none_vacuums (suc j) goes = each_client (λ x. x.stopped ≡ false → x.client.vacuum ≡ None) (slice_get client_slots j) (suc j) (λ e. refl) (quiet j).1 goes

  at_rest : (c : ℕ) → has_open (abstract_client (states_of client_slots c)) ≡ false
  at_rest c = quiet_client (states_of client_slots c) (none_open c) (none_vacuums c)

-- Then no transaction is open.
pub adds_at_rest : (catalog : List Table) (client_slots : List ClientSlot) (table : TableName) (column : Name) (kind : Kind) (a : Altered) → AlterStep catalog client_slots table (record { name = column; kind = kind }) a → AddsAtRest (system_of (states_of client_slots)) (event.Alter table column kind a)
adds_at_rest catalog client_slots table column kind altered.Done h = at_rest client_slots h.0
adds_at_rest catalog client_slots table column kind altered.Open h = tt
adds_at_rest catalog client_slots table column kind (altered.Refused k) h = tt

pub adds_with_none : (catalog : List Table) (client_slots : List ClientSlot) (table : TableName) (column : Name) (kind : Kind) (a : Altered) → AlterStep catalog client_slots table (record { name = column; kind = kind }) a → AddsWithNoneOpen (states_of client_slots) (event.Alter table column kind a)
adds_with_none catalog client_slots table column kind altered.Done h = none_open client_slots h.0
adds_with_none catalog client_slots table column kind altered.Open h = tt
adds_with_none catalog client_slots table column kind (altered.Refused k) h = tt

---- what clients read for

-- A client that neither runs VACUUM nor has a transaction open fits any catalog.
idle_fits : (a b : List Table) (c : ClientAt) → c.vacuum ≡ None → c.txn ≡ None → IsFitted a c → IsFitted b c
idle_fits a b c free closed h =
    subst (λ (v : Option VacuumAt). IsFittedBy b v c) (sym free)
    (subst (λ (o : Option TxnAt). IsUsingTxn b o c.plan) (sym closed)
    (subst (λ (o : Option TxnAt). IsUsingTxn a o c.plan) closed (subst (λ (v : Option VacuumAt). IsFittedBy a v c) free h)))

pub refits_alter : (script : Script) (es : List Event) (client_slots : List ClientSlot) (j : ℕ) (s : ClientSlot) (table : TableName) (column : Name) (kind : Kind) (a : Altered) → AlterStep (catalog_after script.catalog es) client_slots table (record { name = column; kind = kind }) a → slice_get client_slots j ≡ Some s → Refits script es (event.Alter table column kind a) s
refits_alter script es client_slots j s table column kind altered.Done h at goes fitted =
    let opens : s.client.txn ≡ None = subst (λ (o : Option ClientSlot). IfSome o (λ x. x.stopped ≡ false → x.client.txn ≡ None)) at (h.0 j).0 goes in
    let sweeps : s.client.vacuum ≡ None = subst (λ (o : Option ClientSlot). IfSome o (λ x. x.stopped ≡ false → x.client.vacuum ≡ None)) at (h.0 j).1 goes in
    idle_fits (catalog_after script.catalog es) (catalog_after script.catalog (es ++ event.Alter table column kind altered.Done ∷ [])) s.client sweeps opens fitted
refits_alter script es client_slots j s table column kind altered.Open h at goes fitted = refits_same script es (event.Alter table column kind altered.Open) s (λ ts. refl) goes fitted
refits_alter script es client_slots j s table column kind (altered.Refused k) h at goes fitted = refits_same script es (event.Alter table column kind (altered.Refused k)) s (λ ts. refl) goes fitted

---- what the events say of the clients

module _ (w : WorldAt) (h : HaveCauses w) where
  opens_so : (c : ℕ) → is_open w.events c ≡ is_some (states_of w.client_slots c).client.txn
  opens_so c = open_now w.script.catalog w.events c (states_of w.client_slots c).client (h.each c)

  sweeps_so : (c : ℕ) → runs_vacuum w.events c ≡ is_some (states_of w.client_slots c).client.vacuum
  sweeps_so c = sweeps_now w.script.catalog w.events c (states_of w.client_slots c).client (h.each c)

  active : SomeActive w.client_slots → IsActive w.events
  active (j, inl o) = let k = some_client HasOpen (slice_get w.client_slots j) (suc j) o in inl (suc j, h.stopped (suc j) ∙ k.0, opens_so (suc j) ∙ k.1)
  active (j, inr o) = let k = some_client RunsVacuum (slice_get w.client_slots j) (suc j) o in inr (suc j, h.stopped (suc j) ∙ k.0, sweeps_so (suc j) ∙ k.1)

  rests : AreQuiet w.client_slots → IsActive w.events → ⊥
  rests quiet (inl (c, goes, is)) = clash (sym (sym (opens_so c) ∙ is) ∙ ap is_some (none_open w.client_slots quiet c (sym (h.stopped c) ∙ goes)))
  rests quiet (inr (c, goes, is)) = clash (sym (sym (sweeps_so c) ∙ is) ∙ ap is_some (none_vacuums w.client_slots quiet c (sym (h.stopped c) ∙ goes)))

  -- What becomes of a column by where the clients are is what becomes of it by the events.
  pub is_altered : (catalog : List Table) (table : TableName) (c : Column) (a : Altered) → AlterStep catalog w.client_slots table c a → IsAltered catalog w.events table c a
  is_altered catalog table c altered.Open some = active some
  is_altered catalog table c (altered.Refused k) x = (rests x.0, x.1)
  is_altered catalog table c altered.Done x = (rests x.0, none_of (column_refused catalog table c) (and_second (is_column_name c.name) (is_none (column_refused catalog table c)) x.1))
    where
      none_of : (o : Option ℕ) → is_none o ≡ true → o ≡ None
      none_of None e = refl
      none_of (Some n) e = absurd (cc)
