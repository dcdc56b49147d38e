-- Which calls of a client write a row of the coordinator: a COMMIT its own, and a recovery that of the record's transaction.
use Rattle.std.proofs.Common.{◌≡◌, ◌<◌, ◌^◌, ℕ, ℤ, inl, inr, true, false, List, [], ◌∷◌, map, Option, Some, None, IfSome, refl, sym, ap, subst, ◌∙◌}
use Rattle.std.specs.Prelude.{Contains, filter, not, slice_get}
use Rattle.std.specs.List.{AllByRecursion}
use Rattle.std.specs.Option.{option_map}
use Rattle.law_runs.specs.Types.{Check, Condition, DecidePhase, Decision, Key, Meta, Read, Record, RecoverPhase, Request, Scan, Table, TxId, Value, Write}
use Rattle.sdb_types.specs.declared.value.Value.TheVariants as value
use Rattle.sdb_types.specs.Columns.{column}
use Rattle.sdb_types.specs.Contents.{tx_id}
use Rattle.sdb_types.proofs.Public.{append_all as each_append, clash, none_some, one_of, some_is}
use Rattle.sdb_record.specs.declared.coordinator.Decision.TheVariants as decision
use Rattle.sdb_record.specs.Among.{is_written}
use Rattle.sdb_record.specs.Coordinator.{coordinator_key_of, coordinator_row_of, id_of_key}
use Rattle.sdb_record.specs.Groups.{grouped, in_groups, keys_of_writes}
use Rattle.sdb_record.specs.Meta.{id_in, id_in_value}
use Rattle.sdb_record.specs.Parts.{before_record}
use Rattle.sdb_record.specs.Rolls.{IsBaseOf, IsWrite, undo}
use Rattle.sdb_record.proofs.Public.{forward-key, id_of_text-is, key-of-id}
use Rattle.sdb_model.specs.Calls.{is_read}
use Rattle.sdb_model.specs.Requests.{keys_asked}
use Rattle.sdb_phases.specs.declared.step.DecidePhase.TheVariants as decide
use Rattle.sdb_phases.specs.declared.step.RecoverPhase.TheVariants as phase
use Rattle.sdb_phases.specs.Checks.{check_of_read, check_of_scan, checks}
use Rattle.sdb_phases.specs.Commit.{Stage, Preparing, Checking, Deciding, Forward, Stopping, Back, Over, pending}
use Rattle.sdb_phases.specs.Recover.{recover_back, recover_forward, recover_request_at, is_as_found}
use Rattle.sdb_phases.specs.Steps.{decide_request_at}
use Rattle.sdb_phases.specs.Work.{Work, abort_of, back_of, decide_of, forwards_of, look_of, prepares_of, is_as_prepared}
use Rattle.law_clients.proofs.Public.{coordinators, each_at, each_map}
use Rattle.law_clients.specs.About.{AreWritesIn, IsIn, IsRecordIn}
use Rattle.law_answers.proofs.Public.{all_in_groups, each_in, mapped_at}
use Rattle.law_runs.specs.Laws.{row_put}
use Rattle.law_runs.proofs.GroupPuts.{forward_keys, group_all, prepare_keys}
use Rattle.law_runs.proofs.Statements.{none_in}
use Rattle.sdb_model.specs.Tables.{is_data}

---- ids and keys

-- the transaction of a record has an id of 128 bits
pub writer_fits : (r : Record) (id : TxId) → id_in r.columns ≡ Some id → id.0 < 2 ^ 128
writer_fits r id e = by (column r.columns tx_id) e
  where
    by : (o : Option Value) → id_in_value o ≡ Some id → id.0 < 2 ^ 128
    by None k = none_some id k
    by (Some (value.Text text)) k = (id_of_text-is text id k).0
    by (Some v) k = absurd (cc)

pub row_key : (u : TxId) (d : Decision) (now : ℤ) → (coordinator_row_of u d now).key ≡ coordinator_key_of u
unfolding coordinator_row_of
row_key u d now = refl

undo_keys : (c : Condition) (k : Key) (o : Option Record) → IfSome o (IsBaseOf k) → keys_asked (undo c k o) ≡ k ∷ []
undo_keys c k None is = refl
undo_keys c k (Some b) is = ap (λ q. q ∷ []) is.0

only_key : (a b : Key) → Contains (a ∷ []) b → a ≡ b
only_key a b has = elim (one_of a b [] has) [ inl same ↦ same | inr none ↦ none_in b none ]

-- the checks of a COMMIT only read
pub checks_read : (p : Work) → AllByRecursion (λ c. is_read c.request ≡ true) (checks p)
checks_read p =
    each_append (λ (c : Check). is_read c.request ≡ true) (map check_of_read (filter (λ r. not (is_written p.writes r.key)) p.reads)) (map (check_of_scan p.writes) p.scans)
    (each_map (λ (c : Check). is_read c.request ≡ true) check_of_read (filter (λ r. not (is_written p.writes r.key)) p.reads) (reads (filter (λ r. not (is_written p.writes r.key)) p.reads)))
    (each_map (λ (c : Check). is_read c.request ≡ true) (check_of_scan p.writes) p.scans (scans p.scans))
  where
    reads : (xs : List Read) → AllByRecursion (λ r. is_read (check_of_read r).request ≡ true) xs
    reads [] = tt
    reads (x ∷ xs) = (refl, reads xs)

    scans : (xs : List Scan) → AllByRecursion (λ s. is_read (check_of_scan p.writes s).request ≡ true) xs
    scans [] = tt
    scans (x ∷ xs) = (refl, scans xs)

---- requests that write the row of a transaction

module _ (catalog : List Table) (apart : (k : Key) → IsIn catalog k → is_data k ≡ true) (id : TxId) where
  abbrev Writes : Request → Type 0
  Writes q = Contains (keys_asked q) (coordinator_key_of id) × (is_read q ≡ false)

  as_asked : (p q : Request) → Some p ≡ Some q → Writes q → Writes p
  as_asked p q e = subst Writes (sym (some_is p q e))

  pub read_not : (q : Request) → is_read q ≡ true → Writes q → ⊥
  read_not q e w = clash (sym e ∙ w.1)

  pub data_not : (q : Request) (ks : List Key) → keys_asked q ≡ ks → AllByRecursion (IsIn catalog) ks → Writes q → ⊥
  data_not q ks e all w =
      let inside = each_in (IsIn catalog) ks (coordinator_key_of id) all (subst (λ (xs : List Key). Contains xs (coordinator_key_of id)) e w.0) in
      clash (sym (apart (coordinator_key_of id) inside) ∙ ap not (coordinators id))

  -- a row is of one transaction
  row_is : (u : TxId) (d : Decision) (now : ℤ) → id.0 < 2 ^ 128 → u.0 < 2 ^ 128 → Writes (row_put u d now) → id ≡ u
  row_is u d now fits own w = some_is id u (sym (key-of-id id fits) ∙ ap id_of_key (sym same) ∙ key-of-id u own)
    where
      same : coordinator_key_of u ≡ coordinator_key_of id
      same = sym (row_key u d now) ∙ only_key (coordinator_row_of u d now).key (coordinator_key_of id) w.0

  -- A recovery puts that of its record's transaction ABORTED, where it gives that up.
  pub recover_writes : (rec : Record) (meta : Meta) (p : RecoverPhase) (q : Request) → IsIn catalog rec.key → IfSome (before_record rec) (IsBaseOf rec.key) → recover_request_at rec meta p ≡ Some q → id.0 < 2 ^ 128 → meta.id.0 < 2 ^ 128 → Writes q → (now : ℤ) × (p ≡ phase.Abort now) × (id ≡ meta.id) × (q ≡ row_put meta.id decision.Aborted now)
  recover_writes rec meta phase.Look q is base e fits own w = absurd (read_not (look_of meta.id) refl (as_asked (look_of meta.id) q e w))
  recover_writes rec meta phase.Again q is base e fits own w = absurd (read_not (look_of meta.id) refl (as_asked (look_of meta.id) q e w))
  recover_writes rec meta (phase.Abort now) q is base e fits own w = (now, refl, row_is meta.id decision.Aborted now fits own (as_asked (abort_of meta.id now) q e w), sym (some_is (abort_of meta.id now) q e))
  recover_writes rec meta (phase.Forward at) q is base e fits own w = absurd (data_not (recover_forward rec meta at) (rec.key ∷ []) (ap (λ k. k ∷ []) (forward-key rec at)) (is, tt) (as_asked (recover_forward rec meta at) q e w))
  recover_writes rec meta phase.Back q is base e fits own w = absurd (data_not (recover_back rec meta) (rec.key ∷ []) (undo_keys (is_as_found meta) rec.key (before_record rec) base) (is, tt) (as_asked (recover_back rec meta) q e w))
  recover_writes rec meta phase.Ended q is base e fits own w = none_some q e

  -- it is the transaction's own put
  abbrev pub OwnPut : Work → Request → Type 0
  OwnPut p q = (id ≡ p.id) × (d : Decision) × (q ≡ row_put p.id d p.now)

  decide_writes : (p : Work) (d : DecidePhase) (q : Request) → decide_request_at p.id p.now d ≡ Some q → id.0 < 2 ^ 128 → p.id.0 < 2 ^ 128 → Writes q → OwnPut p q
  decide_writes p decide.Put q e fits own w = (row_is p.id decision.Committed p.now fits own (as_asked (decide_of p.id p.now) q e w), decision.Committed, sym (some_is (decide_of p.id p.now) q e))
  decide_writes p decide.Look q e fits own w = absurd (read_not (look_of p.id) refl (as_asked (look_of p.id) q e w))
  decide_writes p decide.Abort q e fits own w = (row_is p.id decision.Aborted p.now fits own (as_asked (abort_of p.id p.now) q e w), decision.Aborted, sym (some_is (abort_of p.id p.now) q e))
  decide_writes p decide.Again q e fits own w = absurd (read_not (look_of p.id) refl (as_asked (look_of p.id) q e w))
  decide_writes p decide.Ended q e fits own w = none_some q e

  abbrev WriteIn : Write → Type 0
  WriteIn w = IsIn catalog w.key × IsRecordIn catalog w.base

  -- the keys of a group
  group_in : (p : Work) (i : ℕ) (g : List Write) → slice_get (grouped p.writes) i ≡ Some g → AreWritesIn catalog p.writes → AllByRecursion (IsIn catalog) (keys_of_writes g)
  group_in p i g at inside = each_map (IsIn catalog) (λ (w : Write). w.key) g (by g (group_all p.writes i g at WriteIn inside))
    where
      by : (ws : List Write) → AllByRecursion WriteIn ws → AllByRecursion (λ w. IsIn catalog w.key) ws
      by [] all = tt
      by (w ∷ ws) all = (all.0.0, by ws all.1)

  -- A COMMIT puts its own, with the moment at which it was accepted.
  pub commit_writes : (p : Work) (s : Stage) (q : Request) → pending p s ≡ Some q → AreWritesIn catalog p.writes → AllByRecursion IsWrite p.writes → id.0 < 2 ^ 128 → p.id.0 < 2 ^ 128 → Writes q → OwnPut p q
  commit_writes p (Preparing i) q e inside writes fits own w =
      let x = mapped_at (prepares_of p.id p.now) (grouped p.writes) i q e in
      absurd (data_not (prepares_of p.id p.now x.0) (keys_of_writes x.0) (prepare_keys p.id p.now x.0) (group_in p i x.0 x.1 inside) (subst Writes (sym x.2) w))
  commit_writes p (Checking i) q e inside writes fits own w = by (slice_get (checks p) i) refl e
    where
      by : (o : Option Check) → slice_get (checks p) i ≡ o → option_map (λ (c : Check). c.request) o ≡ Some q → OwnPut p q
      by None f k = none_some q k
      by (Some c) f k = absurd (read_not c.request (each_at (λ (y : Check). is_read y.request ≡ true) (checks p) i c (checks_read p) f) (as_asked c.request q k w))
  commit_writes p (Deciding d) q e inside writes fits own w = decide_writes p d q e fits own w
  commit_writes p (Forward i) q e inside writes fits own w =
      let x = mapped_at (forwards_of p.id p.now) (grouped p.writes) i q e in
      absurd (data_not (forwards_of p.id p.now x.0) (keys_of_writes x.0) (forward_keys p.id p.now x.0) (group_in p i x.0 x.1 inside) (subst Writes (sym x.2) w))
  commit_writes p (Stopping a n) q e inside writes fits own w = (row_is p.id decision.Aborted p.now fits own (as_asked (abort_of p.id p.now) q e w), decision.Aborted, sym (some_is (abort_of p.id p.now) q e))
  commit_writes p (Back a n i) q e inside writes fits own w =
      let x = mapped_at (back_of p.id) (in_groups p.writes) i q e in
      let base = (each_at IsWrite (in_groups p.writes) i x.0 (all_in_groups IsWrite p.writes writes) x.1).base in
      let there = (each_at WriteIn (in_groups p.writes) i x.0 (all_in_groups WriteIn p.writes inside) x.1).0 in
      absurd (data_not (back_of p.id x.0) (x.0.key ∷ []) (undo_keys (is_as_prepared p.id x.0) x.0.key x.0.base base) (there, tt) (subst Writes (sym x.2) w))
  commit_writes p (Over a) q e inside writes fits own w = none_some q e
