-- Only the deciding put puts the row COMMITTED.
use Rattle.std.proofs.Common.{◌≡◌, ◌≢◌, ℕ, zero, suc, ℤ, List, [], ◌∷◌, ◌++◌, filter, not, Option, Some, None, true, false, refl, ap, sym, ◌∙◌, map}
use Rattle.std.specs.Prelude.{slice_get}
use Rattle.std.specs.Option.{option_map}
use Rattle.std.proofs.lemmas.Option.{slice_get-map}
use Rattle.sdb_phases.specs.Types.{Condition, Decision, Key, Read, Record, Scan, State, TxId, Write}
use Rattle.sdb_types.specs.declared.record.State.TheVariants as state
use Rattle.sdb_types.specs.declared.record.Condition.TheVariants as condition
use Rattle.sdb_types.specs.declared.record.Request.TheVariants as ask
use Rattle.sdb_types.specs.Contents.{is_version}
use Rattle.sdb_record.specs.declared.coordinator.Decision.TheVariants as decision
use Rattle.sdb_record.specs.Coordinator.{coordinator_row_of}
use Rattle.sdb_record.specs.Meta.{is_in}
use Rattle.sdb_record.specs.Rolls.{prepared_record, forward_record, state_of_change, undo}
use Rattle.sdb_record.proofs.Public.{forward-prepared-version, prepared-version}
use Rattle.sdb_phases.specs.declared.check.Check.{Check}
use Rattle.sdb_phases.specs.declared.step.DecidePhase.TheVariants as phase
use Rattle.sdb_record.specs.Groups.{grouped, in_groups}
use Rattle.sdb_phases.specs.Work.{Work, prepares_of, forwards_of, back_of, decide_of, abort_of}
use Rattle.sdb_phases.specs.Checks.{checks, check_of_read, check_of_scan}
use Rattle.sdb_record.specs.Among.{is_written}
use Rattle.sdb_phases.specs.Commit.{Stage, Preparing, Checking, Deciding, Forward, Stopping, Back, Over, pending}

row_no_version : (id other : TxId) (s : State) (d : Decision) (now : ℤ) → is_version id s (coordinator_row_of other d now) ≡ false
unfolding coordinator_row_of
row_no_version id other s d now = refl

versioned_other : (id : TxId) (now : ℤ) (s : State) (rec : Record) (c : Condition) → is_version id s rec ≡ true → Some (ask.PutIf rec c) ≢ Some (decide_of id now)
versioned_other id now s rec c version e =
    let same : rec ≡ coordinator_row_of id decision.Committed now = cc in
    let none = row_no_version id id s decision.Committed now in
    let so = ap (is_version id s) same in
    cc

prepare_other : (id : TxId) (now : ℤ) (o : Option (List Write)) → option_map (prepares_of id now) o ≢ Some (decide_of id now)
prepare_other id now None e = cc
prepare_other id now (Some []) e = cc
prepare_other id now (Some (w ∷ [])) e = versioned_other id now (state_of_change w.change) (prepared_record w id now) _ (prepared-version w id now) e
prepare_other id now (Some (v ∷ w ∷ ws)) e = cc

forward_other : (id : TxId) (now : ℤ) (o : Option (List Write)) → option_map (forwards_of id now) o ≢ Some (decide_of id now)
forward_other id now None e = cc
forward_other id now (Some []) e = cc
forward_other id now (Some (v ∷ w ∷ ws)) e = cc
forward_other id now (Some (w ∷ [])) e = versioned_other id now state.Committed (forward_record (prepared_record w id now) now) _ (forward-prepared-version w id now now) e

undo_other : (id : TxId) (now : ℤ) (key : Key) (s : State) (base : Option Record) → Some (undo (condition.Version id s) key base) ≢ Some (decide_of id now)
undo_other id now key s None e = cc
undo_other id now key s (Some base) e = cc

back_other : (id : TxId) (now : ℤ) (o : Option Write) → option_map (back_of id) o ≢ Some (decide_of id now)
back_other id now None e = cc
back_other id now (Some w) e = undo_other id now w.key (state_of_change w.change) w.base e

rows_other : (id : TxId) (now : ℤ) → Some (abort_of id now) ≢ Some (decide_of id now)
unfolding coordinator_row_of
rows_other id now e =
    let same : coordinator_row_of id decision.Aborted now ≡ coordinator_row_of id decision.Committed now = cc in
    let so : is_in state.Committed (coordinator_row_of id decision.Aborted now).columns ≡ is_in state.Committed (coordinator_row_of id decision.Committed now).columns = ap (λ (r : Record). is_in state.Committed r.columns) same in
    cc

scan_other : (id : TxId) (now : ℤ) (own : List Write) (o : Option Scan) → option_map (λ c. c.request) (option_map (check_of_scan own) o) ≢ Some (decide_of id now)
scan_other id now own None e = cc
scan_other id now own (Some s) e = cc

scans_other : (id : TxId) (now : ℤ) (own : List Write) (ss : List Scan) (i : ℕ) → option_map (λ c. c.request) (slice_get (map (check_of_scan own) ss) i) ≢ Some (decide_of id now)
scans_other id now own ss i e =
    scan_other id now own (slice_get ss i) (sym (ap (option_map (λ c. c.request)) (slice_get-map (check_of_scan own) ss i)) ∙ e)

reads_other : (id : TxId) (now : ℤ) (rs : List Read) (cs : List Check) → ((i : ℕ) → option_map (λ c. c.request) (slice_get cs i) ≢ Some (decide_of id now)) → (i : ℕ) → option_map (λ c. c.request) (slice_get (map check_of_read rs ++ cs) i) ≢ Some (decide_of id now)
reads_other id now [] cs others i e = others i e
reads_other id now (r ∷ rs) cs others zero e = cc
reads_other id now (r ∷ rs) cs others (suc i) e = reads_other id now rs cs others i e

check_other : (p : Work) (i : ℕ) → option_map (λ c. c.request) (slice_get (checks p) i) ≢ Some (decide_of p.id p.now)
check_other p i e =
    reads_other p.id p.now (filter (λ r. not (is_written p.writes r.key)) p.reads) (map (check_of_scan p.writes) p.scans) (scans_other p.id p.now p.writes p.scans) i e

-- each other stage, and what is pending there
pub asks_deciding_put : (p : Work) (s : Stage) → pending p s ≡ Some (decide_of p.id p.now) → s ≡ Deciding phase.Put
asks_deciding_put p (Preparing i) e = absurd (prepare_other p.id p.now (slice_get (grouped p.writes) i) (sym (slice_get-map (prepares_of p.id p.now) (grouped p.writes) i) ∙ e))
asks_deciding_put p (Checking i) e = absurd (check_other p i e)
asks_deciding_put p (Deciding phase.Put) e = refl
asks_deciding_put p (Deciding phase.Look) e = cc
asks_deciding_put p (Deciding phase.Abort) e = absurd (rows_other p.id p.now e)
asks_deciding_put p (Deciding phase.Again) e = cc
asks_deciding_put p (Deciding phase.Ended) e = cc
asks_deciding_put p (Forward i) e = absurd (forward_other p.id p.now (slice_get (grouped p.writes) i) (sym (slice_get-map (forwards_of p.id p.now) (grouped p.writes) i) ∙ e))
asks_deciding_put p (Stopping a n) e = absurd (rows_other p.id p.now e)
asks_deciding_put p (Back a n i) e = absurd (back_other p.id p.now (slice_get (in_groups p.writes) i) (sym (slice_get-map (back_of p.id) (in_groups p.writes) i) ∙ e))
asks_deciding_put p (Over a) e = cc
