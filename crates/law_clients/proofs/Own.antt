-- A call of a COMMIT is one that the rules of the protocol let through.
use Rattle.std.proofs.Common.{◌≡◌, ◌≢◌, ◌≤◌, ◌<◌, ◌+◌, ℕ, true, false, List, [], ◌∷◌, map, length, Option, Some, None, refl, sym, ap, subst, ◌∙◌, arith, ◌⊎◌, inl, inr}
use Rattle.std.specs.Prelude.{slice_get}
use Rattle.std.specs.Option.{option_map}
use Rattle.law_clients.specs.Types.{Answer, Check, How, Key, Outcome, Record, Reply, State, Write}
use Rattle.sdb_types.specs.Contents.{CanAnswer, sent}
use Rattle.sdb_types.specs.declared.record.Condition.TheVariants as condition
use Rattle.sdb_record.specs.Groups.{grouped, in_groups, keys_of_writes}
use Rattle.sdb_record.specs.Rolls.{prepared_record, state_of_change, undo}
use Rattle.sdb_record.proofs.Public.{all_at, open-left as open_state, prepared-base, prepared-key, write_of_key}
use Rattle.sdb_model.specs.declared.event.Event.TheVariants as event
use Rattle.sdb_model.specs.Rows.{Name}
use Rattle.law_protocol.specs.Plan.{Plan, write_at, written, version_read_at}
use Rattle.law_protocol.specs.Lawful.{Labelled, id, protocol_state, ack_of, MayPrepare, MayCheck, MayDecide, MayAbort, MayRoll, MayRollForward, MayRollBack, roll_forward_of}
use Rattle.law_protocol.proofs.Public.{write_key, writes_it}
use Rattle.law_protocol.specs.Records.{write_there}
use Rattle.sdb_phases.specs.declared.step.DecidePhase.TheVariants as phase
use Rattle.sdb_phases.specs.Work.{Work, prepares_of, forward_of, forwards_of, back_of, decide_of, abort_of, writes_before}
use Rattle.sdb_phases.specs.Checks.{checks}
use Rattle.sdb_phases.specs.Commit.{Stage, Preparing, Checking, Deciding, Forward, Back}
use Rattle.sdb_phases.specs.CommitLaws.{as_wished}
use Rattle.law_clients.specs.Owner.{plan_of, CommitOk, AreAcknowledged, AskedTo}
use Rattle.law_clients.proofs.Groups.{keys_once, place_of, placed, some_keys, within_writes}
use Rattle.law_clients.proofs.Lists.{each_map}

-- the write of a key, in the plan
planned_at : (plan : ℕ → Plan) (past : List Labelled) (c : ℕ) (p : Work) (s : Stage) (i : ℕ) (w : Write) → CommitOk plan past c p s → slice_get (in_groups p.writes) i ≡ Some w → write_at (plan p.id.0) w.key ≡ Some w
planned_at plan past c p s i w ok here = ap (λ (x : Plan). write_at x w.key) ok.planned ∙ ok.work.at i w here

planned_now : (plan : ℕ → Plan) (past : List Labelled) (c : ℕ) (p : Work) (s : Stage) → CommitOk plan past c p s → (plan p.id.0).now ≡ p.now
planned_now plan past c p s ok = ap (λ (x : Plan). x.now) ok.planned

---- prepares

pub prepare_lawful : (plan : ℕ → Plan) (past : List Labelled) (c i : ℕ) (p : Work) (g : List Write) (store : Name) (how : How) (r : Reply) (a : Option Answer) → CommitOk plan past c p (Preparing i) → slice_get (grouped p.writes) i ≡ Some g
    → MayPrepare plan past (event.Call c store (prepares_of p.id p.now g) how r a) p.id.0 (keys_of_writes g) (ack_of r)
prepare_lawful plan past c i p g store how r a ok here = record {
  client = c;
  group = g;
  r = r;
  within = ok.within;
  keys = refl;
  some = some_keys p i g here;
  once_each = keys_once p i g here ok.work.once;
  each = all_at (λ (w : Write). write_at (plan p.id.0) w.key ≡ Some w) g (λ k w at. planned_at plan past c p (Preparing i) (place_of p i k) w ok (placed p i g here k w at));
  call = record { store = store; how = how; answer = a; call = ap (λ n. event.Call c store (prepares_of p.id n g) how r a) (sym (planned_now plan past c p (Preparing i) ok)) };
  word_is = refl;
  stage = ok.stage.0;
  once = λ q has.
      let f = write_of_key g q has in
      subst (λ x. (protocol_state past).asked p.id.0 x ≡ false) f.1.1.1 (ok.stage.3 (place_of p i f.0) f.1.0 (first (writes_before p i) f.0) (placed p i g here f.0 f.1.0 f.1.1.0));
}
  where
    first : (n k : ℕ) → n ≤ n + k
    first n k = omega arith

---- checks

pub check_lawful : (plan : ℕ → Plan) (past : List Labelled) (c i : ℕ) (p : Work) (k : Check) (store : Name) (how : How) (r : Reply) (a : Option Answer) → CommitOk plan past c p (Checking i) → slice_get (checks p) i ≡ Some k
    → CanAnswer k.request r → as_wished p (Checking i) r ≡ true → MayCheck plan past (event.Call c store k.request how r a) p.id.0 i
check_lawful plan past c i p k store how r a ok here can passed = let t = ok.work.is_known i k r here can passed in record {
  client = c;
  item = t.item;
  q = k.request;
  r = r;
  within = ok.within;
  at = ap (λ (x : Plan). slice_get x.read_set i) ok.planned ∙ t.at;
  call = record { store = store; how = how; answer = a; call = refl };
  unchanged = subst (λ (x : Plan). Rattle.law_protocol.specs.Lawful.IsUnchanged x t.item k.request r) (sym ok.planned) t.unchanged;
  stage = ok.stage.0;
}

---- the deciding put

all_prepared : (plan : ℕ → Plan) (past : List Labelled) (c : ℕ) (p : Work) (s : Stage) → CommitOk plan past c p s → AreAcknowledged (protocol_state past) p (length p.writes) → (k : Key) → written (plan_of p) k ≢ None → (protocol_state past).answered p.id.0 k ≡ true
all_prepared plan past c p s ok answered k h =
    let e = writes_it (plan_of p) k h in
    let f = ok.work.found k (write_there (plan_of p) k) e in
    subst (λ q. (protocol_state past).answered p.id.0 q ≡ true) (write_key (plan_of p) k (write_there (plan_of p) k) e) (answered f.0 (write_there (plan_of p) k) (within_writes p f.0 (write_there (plan_of p) k) f.1) f.1)

pub decide_lawful : (plan : ℕ → Plan) (past : List Labelled) (c : ℕ) (p : Work) (store : Name) (how : How) (r : Reply) (a : Option Answer) → CommitOk plan past c p (Deciding phase.Put)
    → MayDecide plan past (event.Call c store (decide_of p.id p.now) how r a) p.id.0 (ack_of r)
decide_lawful plan past c p store how r a ok = record {
  client = c;
  r = r;
  within = ok.within;
  call = record { store = store; how = how; answer = a; call = ap (λ n. event.Call c store (decide_of p.id n) how r a) (sym (planned_now plan past c p (Deciding phase.Put) ok)) };
  word_is = refl;
  prepared = λ k h. all_prepared plan past c p (Deciding phase.Put) ok ok.stage.0 k (λ e. h (ap (λ (x : Plan). written x k) ok.planned ∙ e));
  checked = λ i k version h free. checked i k version (ap (λ (x : Plan). version_read_at x i k) (sym ok.planned) ∙ h) (ap (λ (x : Plan). written x k) (sym ok.planned) ∙ free) (side i (length (checks p)));
  agrees = λ i k version base h w. agrees i k version base (ap (λ (x : Plan). version_read_at x i k) (sym ok.planned) ∙ h) (ap (λ (x : Plan). written x k) (sym ok.planned) ∙ w) (side i (length (checks p)));
}
  where
    side : (i n : ℕ) → (i < n) ⊎ (n ≤ i)
    side i n = grind (arith, Rattle.std.proofs.lemmas.Bool.Decides.nat_tests)

    checked : (i : ℕ) (k : Key) (version : Option ℕ) → version_read_at (plan_of p) i k ≡ Some version → written (plan_of p) k ≡ None → (i < length (checks p)) ⊎ (length (checks p) ≤ i) → (protocol_state past).checked p.id.0 i ≡ true
    checked i k version h free (inl l) = ok.stage.2 i l
    checked i k version h free (inr g) = absurd (ok.work.checked i k version g h free)

    agrees : (i : ℕ) (k : Key) (version base : Option ℕ) → version_read_at (plan_of p) i k ≡ Some version → written (plan_of p) k ≡ Some base → (i < length (checks p)) ⊎ (length (checks p) ≤ i) → version ≡ base
    agrees i k version base h w (inl l) = ok.stage.3 i l k version base h w
    agrees i k version base h w (inr g) = ok.work.agrees i g k version base h w

---- the put of ABORTED

pub abort_lawful : (plan : ℕ → Plan) (past : List Labelled) (c : ℕ) (p : Work) (s : Stage) (store : Name) (how : How) (r : Reply) (a : Option Answer) → CommitOk plan past c p s
    → MayAbort past (event.Call c store (abort_of p.id p.now) how r a) p.id.0 p.now (ack_of r)
abort_lawful plan past c p s store how r a ok = record {
  client = c;
  r = r;
  call = record { store = store; how = how; answer = a; call = refl };
  word_is = refl;
  fits = ok.work.fits;
  moment_is = ok.work.moment;
}

---- rolls

-- what is rolled of a write: what was prepared, with its state
abbrev rolled_of : Work → Write → Record × State
rolled_of p w = (prepared_record w p.id p.now, state_of_change w.change)

roll : (plan : ℕ → Plan) (past : List Labelled) (c i n : ℕ) (p : Work) (s : Stage) (w : Write) → CommitOk plan past c p s → AskedTo (protocol_state past) p n → i < n → slice_get (in_groups p.writes) i ≡ Some w
    → MayRoll plan past p.id.0 w.key (prepared_record w p.id p.now) (state_of_change w.change)
roll plan past c i n p s w ok asked less here = record {
  is_open = open_state w.change;
  outside = (ok.work.valid i w here).1;
  prepared = inr (asked i w less here, ap (option_map (λ x. prepared_record x (id p.id.0) (plan p.id.0).now)) (planned_at plan past c p s i w ok here) ∙ ap (λ n. Some (prepared_record w p.id n)) (planned_now plan past c p s ok));
}

pub forward_lawful : (plan : ℕ → Plan) (past : List Labelled) (c i : ℕ) (p : Work) (g : List Write) (store : Name) (how : How) (r : Reply) (a : Option Answer) → CommitOk plan past c p (Forward i) → slice_get (grouped p.writes) i ≡ Some g
    → MayRollForward plan past (event.Call c store (forwards_of p.id p.now g) how r a) p.id.0 (keys_of_writes g)
forward_lawful plan past c i p g store how r a ok here = record {
  client = c;
  rolled = map (rolled_of p) g;
  r = r;
  keys = same_keys g;
  some = some_keys p i g here;
  once_each = keys_once p i g here ok.work.once;
  each = each_map (λ (x : Record × State). MayRoll plan past p.id.0 x.0.key x.0 x.1) (rolled_of p) g (all_at (λ (w : Write). MayRoll plan past p.id.0 (rolled_of p w).0.key (rolled_of p w).0 (rolled_of p w).1) g each);
  moment = p.now;
  known = ok.stage.1;
  call = record { store = store; how = how; answer = a; call = ap (λ ps. event.Call c store (sent ps) how r a) (same_puts g) };
}
  where
    same_keys : (ws : List Write) → keys_of_writes ws ≡ map (λ (x : Record × State). x.0.key) (map (rolled_of p) ws)
    same_keys [] = refl
    same_keys (w ∷ ws) = λ j. sym (prepared-key w p.id p.now) j ∷ same_keys ws j

    same_puts : (ws : List Write) → map (forward_of p.id p.now) ws ≡ map (roll_forward_of (id p.id.0) p.now) (map (rolled_of p) ws)
    same_puts [] = refl
    same_puts (w ∷ ws) = ap (λ ps. forward_of p.id p.now w ∷ ps) (same_puts ws)

    each : (k : ℕ) (w : Write) → slice_get g k ≡ Some w → MayRoll plan past p.id.0 (prepared_record w p.id p.now).key (prepared_record w p.id p.now) (state_of_change w.change)
    each k w at =
        let there = placed p i g here k w at in
        subst (λ q. MayRoll plan past p.id.0 q (prepared_record w p.id p.now) (state_of_change w.change)) (sym (prepared-key w p.id p.now)) (roll plan past c (place_of p i k) (length p.writes) p (Forward i) w ok ok.stage.0 (within_writes p (place_of p i k) w there) there)

pub back_lawful : (plan : ℕ → Plan) (past : List Labelled) (c i n : ℕ) (b : Outcome) (p : Work) (w : Write) (store : Name) (how : How) (r : Reply) (a : Option Answer) → CommitOk plan past c p (Back b n i) → i < n → slice_get (in_groups p.writes) i ≡ Some w
    → MayRollBack plan past (event.Call c store (back_of p.id w) how r a) p.id.0 w.key
back_lawful plan past c i n b p w store how r a ok less here = record {
  client = c;
  rolled = prepared_record w p.id p.now;
  s = state_of_change w.change;
  r = r;
  roll = roll plan past c i n p (Back b n i) w ok ok.stage.0 less here;
  known = ok.stage.1;
  call = record { store = store; how = how; answer = a; call = ap (λ q. event.Call c store q how r a) (ap (undo (condition.Version p.id (state_of_change w.change)) w.key) (sym (prepared-base w p.id p.now (ok.work.valid i w here).0))) };
}
