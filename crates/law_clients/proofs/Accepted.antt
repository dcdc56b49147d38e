-- A client that takes a statement which makes no call keeps what ties the events to the clients.
use Rattle.std.proofs.Common.{◌≡◌, ◌≢◌, ℕ, ℤ, ◌+◌, ◌^◌, ◌<◌, ◌==◌, inl, inr, length, Bool, true, false, List, [], ◌∷◌, ◌++◌, Option, Some, None, refl, sym, ap, subst, ◌∙◌}
use Rattle.std.specs.Prelude.{IfSome, if◌then◌else◌, nat_lt}
use Rattle.std.proofs.lemmas.Bool.{eqb-false, eqb-true}
use Rattle.law_clients.specs.Types.{Answer, Doing, Event, Gate, Refusal, Statement, Table}
use Rattle.sdb_model.specs.declared.answer.Answer.TheVariants as answer
use Rattle.sdb_model.specs.declared.event.Event.TheVariants as event
use Rattle.sdb_model.specs.declared.statement.Statement.TheVariants as statement
use Rattle.sdb_model.specs.Exec.{Tables}
use Rattle.sdb_model.specs.Sql.{Reads, Refuses, reads_begin, reads_commit}
use Rattle.sdb_model.specs.Transactions.{changes_nothing}
use Rattle.law_protocol.specs.History.{at}
use Rattle.sdb_sqltext.proofs.Public.{begin_read, commit_read, not_both, one_statement, rollback_read}
use Rattle.sdb_record.specs.declared.access.Access.TheVariants as access
use Rattle.sdb_record.specs.Meta.{is_moment}
use Rattle.sdb_phases.specs.Work.{Work, groups_of}
use Rattle.sdb_phases.specs.Checks.{checks}
use Rattle.sdb_phases.specs.Commit.{Preparing, Checking, Deciding}
use Rattle.sdb_phases.specs.declared.step.DecidePhase.TheVariants.{Put}
use Rattle.sdb_snapshot.specs.Seen.{nothing}
use Rattle.sdb_model.specs.Transactions.{id_of}
use Rattle.sdb_txn.specs.declared.txn.Doing.TheVariants as doing
use Rattle.sdb_txn.specs.Txn.{TxnAt, committing, work_of as txn_work}
use Rattle.sdb_vacuum.specs.Vacuum.{VacuumAt, begun, whole}
use Rattle.sdb_client.specs.Client.{ClientAt as Client, holding, next_id as client_next, resting as client_resting, with_begun as client_begun}
use Rattle.law_clients.specs.ReadAt.{IsOfData}
use Rattle.law_clients.specs.Vacuum.{Scanning}
use Rattle.law_clients.specs.System.{ClientAt, Committing, NoneOpen, NoneRunVacuum, Open, Resting, RunsVacuum, SystemAt, commit_left, has_open, next_id, is_in_vacuum, with_begun, with_client}
use Rattle.law_clients.specs.Invariant.{RunInvariant, IsMild, LeavesAtOnce}
use Rattle.law_clients.proofs.InvariantTurns.{going_begins, going_commits, going_idle, going_leaves_so, going_outside, going_vacuums}
use Rattle.law_clients.specs.States.{ClientState, IsGated, IsPlainAnswer, IsReady, doing_of, runs, abstract_client, abstract_by, abstract_doing, abstract_txn, system_of, with_state}
use Rattle.sdb_types.proofs.Public.{by_test}

---- one client elsewhere

pub mapped_at : {X Y : Type 0} (g : X → Y) (f : ℕ → X) (c : ℕ) (x : X) (e : ℕ) → at (λ k. g (f k)) c (g x) e ≡ g (at f c x e)
mapped_at g f c x e = by_test (e == c) (λ t. rw t refl) (λ t. rw t refl)

pub kept_at : {X Y : Type 0} (g : X → Y) (f : ℕ → X) (c : ℕ) (x : X) → g x ≡ g (f c) → (e : ℕ) → g (f e) ≡ g (at f c x e)
kept_at {X} g f c x h e = by_test (e == c) (λ t. rw t (ap (λ (k : ℕ). g (f k)) (eqb-true e c t) ∙ sym h)) (λ t. rw t refl)

abbrev hand_of : Client → ClientState
hand_of d = record { client = d; stopped = false }

module _ (catalog : List Table) (fit : List Table → Tables → Bool) (states : ℕ → ClientState) (c : ℕ) (d : Client) (events : List Event) where
  abbrev pub IsSo : Type 0
  IsSo = RunInvariant catalog fit events (system_of (with_state states c d)) (doing_of (with_state states c d))

  -- where all clients are as these are
  placed : (sys : SystemAt) (does : ℕ → Option Statement) → RunInvariant catalog fit events sys does → ((e : ℕ) → sys.clients e ≡ abstract_client (with_state states c d e)) → ((e : ℕ) → sys.begun e ≡ (with_state states c d e).client.begun)
      → ((e : ℕ) → does e ≡ doing_of (with_state states c d) e) → IsSo
  placed sys does g here begun doing =
      subst (λ ds. RunInvariant catalog fit events (system_of (with_state states c d)) ds) (λ i k. doing k i) (subst (λ (y : SystemAt). RunInvariant catalog fit events y does) (λ i. record { clients = λ k. here k i; begun = λ k. begun k i }) g)

  -- one client is elsewhere, and has begun as many transactions
  pub moved_so : d.begun ≡ (states c).client.begun → RunInvariant catalog fit events (with_client (system_of states) c (abstract_by d.vacuum d.txn)) (at (doing_of states) c (runs d)) → IsSo
  moved_so same g =
      placed (with_client (system_of states) c (abstract_by d.vacuum d.txn)) (at (doing_of states) c (runs d)) g (mapped_at abstract_client states c (hand_of d)) (kept_at (λ (h : ClientState). h.client.begun) states c (hand_of d) same)
      (mapped_at (λ (h : ClientState). runs h.client) states c (hand_of d))

  -- it runs no VACUUM
  pub moved : d.vacuum ≡ None → d.begun ≡ (states c).client.begun → RunInvariant catalog fit events (with_client (system_of states) c (abstract_txn d.txn)) (at (doing_of states) c (runs d)) → IsSo
  moved free same g = moved_so same (subst (λ (v : Option VacuumAt). RunInvariant catalog fit events (with_client (system_of states) c (abstract_by v d.txn)) (at (doing_of states) c (runs d))) (sym free) g)

  -- one client is as it was
  pub unmoved : d.begun ≡ (states c).client.begun → abstract_by d.vacuum d.txn ≡ abstract_client (states c) → runs d ≡ None → RunInvariant catalog fit events (system_of states) (at (doing_of states) c None) → IsSo
  unmoved same as_before none g =
      placed (system_of states) (at (doing_of states) c None) g (kept_at abstract_client states c (hand_of d) as_before) (kept_at (λ (h : ClientState). h.client.begun) states c (hand_of d) same)
      (λ e. ap (λ (o : Option Statement). at (doing_of states) c o e) (sym none) ∙ mapped_at (λ (h : ClientState). runs h.client) states c (hand_of d) e)

---- answered as it is accepted, and as it was

module _ (catalog : List Table) (fit : List Table → Tables → Bool) (events : List Event) (states : ℕ → ClientState) (g : RunInvariant catalog fit events (system_of states) (doing_of states)) (c : ℕ) (ready : IsReady states c) where
  at_rest : (states c).client.txn ≡ None → (system_of states).clients c ≡ Resting
  at_rest none = rw (ready.goes_on, ready.idle.free, none) refl

  pub at_open : (t : TxnAt) → (states c).client.txn ≡ Some t → (system_of states).clients c ≡ Open t.id t.seen
  at_open t some =
      let idle : t.doing ≡ doing.Idle = subst (λ (o : Option TxnAt). IfSome o (λ u. u.doing ≡ doing.Idle)) some ready.idle.still in
      rw (ready.goes_on, ready.idle.free, some, idle) refl

  as_stands : abstract_by (states c).client.vacuum (states c).client.txn ≡ abstract_client (states c)
  as_stands = rw ready.goes_on refl

  txn_stands : abstract_txn (states c).client.txn ≡ abstract_client (states c)
  txn_stands = rw (ready.goes_on, ready.idle.free) refl

  no_plan : runs (states c).client ≡ None
  no_plan = rw ready.free refl

  -- outside of a transaction
  pub told_outside : (text : List ℕ) (b : Answer) → (states c).client.txn ≡ None → IsMild b → IsSo catalog fit states c (states c).client (events ++ event.Take c text (Some b) ∷ [])
  told_outside text b none mild =
      unmoved catalog fit states c (states c).client (events ++ event.Take c text (Some b) ∷ []) refl as_stands no_plan
      (going_outside catalog fit events (system_of states) (doing_of states) g c text b (at_rest none) mild)

  -- inside of one, where nothing is changed
  pub told_idle : (text : List ℕ) (b : Answer) (t : TxnAt) → (states c).client.txn ≡ Some t → changes_nothing b ≡ true → reads_commit text ≡ false → IsSo catalog fit states c (states c).client (events ++ event.Take c text (Some b) ∷ [])
  told_idle text b t some idle no_commit =
      let here : abstract_txn (states c).client.txn ≡ Open t.id t.seen = txn_stands ∙ at_open t some in
      let e : List Event = events ++ event.Take c text (Some b) ∷ [] in
      moved catalog fit states c (states c).client e ready.idle.free refl
      (subst (λ (x : ClientAt). RunInvariant catalog fit e (with_client (system_of states) c x) (at (doing_of states) c (runs (states c).client))) (sym here)
      (subst (λ (o : Option Statement). RunInvariant catalog fit e (with_client (system_of states) c (Open t.id t.seen)) (at (doing_of states) c o)) (sym no_plan)
      (going_idle catalog fit events (system_of states) (doing_of states) g c t.id t.seen (at_open t some) text b idle no_commit)))

  -- whatever transaction is open
  pub told_same : (text : List ℕ) (b : Answer) → IsPlainAnswer b → reads_commit text ≡ false → IsSo catalog fit states c (states c).client (events ++ event.Take c text (Some b) ∷ [])
  told_same text b plain no_commit =
      elim ((states c).client.txn) as (λ o. (states c).client.txn ≡ o → IsSo catalog fit states c (states c).client (events ++ event.Take c text (Some b) ∷ [])) [
        | None ↦ λ q. told_outside text b q plain.mild
        | Some t ↦ λ q. told_idle text b t q plain.idle no_commit
      ] refl

---- texts that don't read as COMMIT

pub refused_no_commit : (text : List ℕ) (r : Refusal) → Refuses text r → reads_commit text ≡ false
refused_no_commit text r h = by_test (reads_commit text) (λ t. absurd (not_both text statement.Commit r ((commit_read text).0 t) h)) (λ t. t)

pub other_no_commit : (text : List ℕ) (st : Statement) → Reads text st → st ≢ statement.Commit → reads_commit text ≡ false
other_no_commit text st h other = by_test (reads_commit text) (λ t. absurd (other (one_statement text st statement.Commit h ((commit_read text).0 t)))) (λ t. t)

pub refused_plain : (r : Refusal) → IsPlainAnswer (answer.Refused r)
refused_plain r = record { idle = refl; mild = record { undone = refl; agrees = refl; other = λ e. cc } }

---- BEGIN, COMMIT, ROLLBACK

sweeps_doing : (t : TxnAt) (d : Doing) → is_in_vacuum (abstract_doing t d) ≡ false
sweeps_doing t doing.Idle = refl
sweeps_doing t (doing.Read a x) = refl
sweeps_doing t (doing.Commit k) = refl
sweeps_doing t doing.Over = refl

sweeps_txn : (o : Option TxnAt) → is_in_vacuum (abstract_txn o) ≡ false
sweeps_txn None = refl
sweeps_txn (Some t) = sweeps_doing t t.doing

-- of the others the gate says so
none_run_vacuum : (gate : Gate) (states : ℕ → ClientState) (c : ℕ) → IsReady states c → IsGated gate states c → gate.vacuum_runs ≡ false → NoneRunVacuum (system_of states)
none_run_vacuum gate states c ready gated shut e =
    by_test ((states e).stopped) (λ t. rw t refl)
    (λ t. by_test (e == c)
    (λ s. rw (t, ap (λ (k : ℕ). (states k).client.vacuum) (eqb-true e c s) ∙ ready.idle.free) (sweeps_txn (states e).client.txn))
    (λ s. rw (t, gated.vacuums shut e (λ k. eqb-false e c s k) t) (sweeps_txn (states e).client.txn)))

none_opens : (gate : Gate) (states : ℕ → ClientState) (c : ℕ) → IsReady states c → IsGated gate states c → gate.open_elsewhere ≡ false → (states c).client.txn ≡ None → NoneOpen (system_of states)
none_opens gate states c ready gated shut none e =
    by_test ((states e).stopped) (λ t. rw t refl)
    (λ t. by_test (e == c)
    (λ s. rw (t, ap (λ (k : ℕ). (states k).client.txn) (eqb-true e c s) ∙ none) (closed (states e).client.vacuum))
    (λ s. rw (t, gated.opens shut e (λ k. eqb-false e c s k) t) (closed (states e).client.vacuum)))
  where
    closed : (v : Option VacuumAt) → has_open (abstract_by v None) ≡ false
    closed None = refl
    closed (Some v) = refl

pub other_no_begin : (text : List ℕ) (st : Statement) → Reads text st → st ≢ statement.Begin → reads_begin text ≡ false
other_no_begin text st h other = by_test (reads_begin text) (λ t. absurd (other (one_statement text st statement.Begin h ((begin_read text).0 t)))) (λ t. t)

going_stages : (p : Work) (a b : Bool) → commit_left p (if a then Preparing 0 else (if b then Checking 0 else Deciding Put)) ≡ Committing p (if a then Preparing 0 else (if b then Checking 0 else Deciding Put))
going_stages p true b = refl
going_stages p false true = refl
going_stages p false false = refl

module _ (catalog : List Table) (fit : List Table → Tables → Bool) (events : List Event) (states : ℕ → ClientState) (g : RunInvariant catalog fit events (system_of states) (doing_of states)) (c : ℕ) (ready : IsReady states c) where
  abbrev now : Client
  now = (states c).client

  pub told_begun : (gate : Gate) (text : List ℕ) → IsGated gate states c → gate.vacuum_runs ≡ false → now.txn ≡ None → Reads text statement.Begin → now.begun + 1 < 2 ^ 64 → IsSo catalog fit states c (client_begun now (client_next now)) (events ++ event.Take c text (Some answer.Done) ∷ [])
  told_begun gate text gated shut none reads few =
      let id_same : Open (next_id (system_of states) c) nothing ≡ abstract_txn (client_begun now (client_next now)).txn = ap (λ (n : ℕ). Open (id_of n (now.begun + 1)) nothing) (sym ready.number) in
      let e : List Event = events ++ event.Take c text (Some answer.Done) ∷ [] in
      let begun_so = going_begins catalog fit events (system_of states) (doing_of states) g c text (at_rest catalog fit events states g c ready none) (record { reads = (begin_read text).1 reads; client = ready.small; ordinal = few }) (none_run_vacuum gate states c ready gated shut) in
      placed catalog fit states c (client_begun now (client_next now)) e (with_begun (system_of states) c (abstract_txn (client_begun now (client_next now)).txn)) (at (doing_of states) c None)
      (subst (λ (x : ClientAt). RunInvariant catalog fit e (with_begun (system_of states) c x) (at (doing_of states) c None)) id_same begun_so)
      (mapped_at abstract_client states c (hand_of (client_begun now (client_next now)))) (mapped_at (λ (h : ClientState). h.client.begun) states c (hand_of (client_begun now (client_next now)))) (mapped_at (λ (h : ClientState). runs h.client) states c (hand_of (client_begun now (client_next now))))

  pub told_commit : (text : List ℕ) (t : TxnAt) (moment : ℤ) → now.txn ≡ Some t → reads_commit text ≡ true → is_moment moment ≡ true → IsSo catalog fit states c (holding now (committing t moment)) (events ++ event.Take c text None ∷ [])
  told_commit text t moment some reads is =
      let p = txn_work t moment in
      let e : List Event = events ++ event.Take c text None ∷ [] in
      let accepted = going_commits catalog fit events (system_of states) (doing_of states) g c text t.id t.seen moment (at_open catalog fit events states g c ready t some) (record { reads = reads; moment = is }) in
      moved catalog fit states c (holding now (committing t moment)) e ready.idle.free refl
      (subst (λ (x : ClientAt). RunInvariant catalog fit e (with_client (system_of states) c x) (at (doing_of states) c None)) (going_stages p (nat_lt 0 (groups_of p)) (nat_lt 0 (length (checks p)))) accepted)

  -- a VACUUM begins with its first table
  pub told_vacuum : (gate : Gate) (text : List ℕ) (t : Table) (ts : List Table) → IsGated gate states c → gate.open_elsewhere ≡ false → now.txn ≡ None → IsOfData (access.Scan (whole t)) → IsSo catalog fit states c (record now { vacuum = Some (begun (t ∷ ts)) }) (events ++ event.Take c text None ∷ [])
  told_vacuum gate text t ts gated shut none tables =
      moved_so catalog fit states c (record now { vacuum = Some (begun (t ∷ ts)) }) (events ++ event.Take c text None ∷ []) refl
      (subst (λ (o : Option Statement). RunInvariant catalog fit (events ++ event.Take c text None ∷ []) (with_client (system_of states) c (RunsVacuum (Scanning (whole t)))) (at (doing_of states) c o)) (sym (no_plan catalog fit events states g c ready))
      (going_vacuums catalog fit events (system_of states) (doing_of states) g c text (whole t) (at_rest catalog fit events states g c ready none) (none_opens gate states c ready gated shut none) tables))

  -- a statement ends its transaction without a call
  pub told_left : (text : List ℕ) (t : TxnAt) (b : Answer) → now.txn ≡ Some t → LeavesAtOnce text b → IsSo catalog fit states c (client_resting now) (events ++ event.Take c text (Some b) ∷ [])
  told_left text t b some leaves =
      moved catalog fit states c (client_resting now) (events ++ event.Take c text (Some b) ∷ []) ready.idle.free refl
      (going_leaves_so catalog fit events (system_of states) (doing_of states) g c t.id t.seen (at_open catalog fit events states g c ready t some) text b leaves)

  pub told_rollback : (text : List ℕ) (t : TxnAt) → now.txn ≡ Some t → Reads text statement.Rollback → IsSo catalog fit states c (client_resting now) (events ++ event.Take c text (Some answer.Done) ∷ [])
  told_rollback text t some reads = told_left text t answer.Done some (inl (refl, other_no_begin text statement.Rollback reads (λ e. cc), (rollback_read text).1 reads))

  rests : now.txn ≡ None → abstract_by (client_resting now).vacuum (client_resting now).txn ≡ abstract_client (states c)
  rests k = rw (ready.goes_on, ready.idle.free, k) refl

  -- a COMMIT is out of memory
  pub commit_lost : (text : List ℕ) → reads_commit text ≡ true → IsSo catalog fit states c (client_resting now) (events ++ event.Take c text (Some answer.NoMemory) ∷ [])
  commit_lost text q =
      elim (now.txn) as (λ o. now.txn ≡ o → IsSo catalog fit states c (client_resting now) (events ++ event.Take c text (Some answer.NoMemory) ∷ [])) [
        | None ↦ λ k.
            unmoved catalog fit states c (client_resting now) (events ++ event.Take c text (Some answer.NoMemory) ∷ []) refl (rests k) refl
            (going_outside catalog fit events (system_of states) (doing_of states) g c text answer.NoMemory (at_rest catalog fit events states g c ready k) (record { undone = refl; agrees = refl; other = λ e. cc }))
        | Some t ↦ λ k. told_left text t answer.NoMemory k (inr (refl, q))
      ] refl
