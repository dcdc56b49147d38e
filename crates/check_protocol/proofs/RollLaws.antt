-- The tests of rolls and of removals decide their rules.
use Rattle.std.proofs.Common.{◌≡◌, ℕ, Bool, true, false, List, [], ◌∷◌, map, Option, Some, None, inl, inr, refl, sym, ap, subst, ◌∙◌}
use Rattle.std.specs.Prelude.{ℤ, ◌&&◌, ◌||◌, ◌==◌, not, find}
use Rattle.std.specs.Option.{option_map, option_map_or}
use Rattle.std.specs.List.{AllByRecursion, list_any}
use Rattle.sdb_types.specs.Contents.{sent}
use Rattle.sdb_types.specs.Order.{same_key}
use Rattle.check_protocol.specs.Types.{Answer, Condition, Decision, Event, How, Key, Put, Record, Reply, Request, State, Write}
use Rattle.sdb_types.specs.declared.record.State.TheVariants as state
use Rattle.sdb_types.specs.declared.record.Condition.TheVariants as condition
use Rattle.sdb_types.specs.declared.record.Request.TheVariants as ask
use Rattle.sdb_record.specs.declared.coordinator.Decision.TheVariants as decision
use Rattle.sdb_record.specs.Meta.{is_committed}
use Rattle.sdb_record.specs.Parts.{before_record}
use Rattle.sdb_record.specs.Among.{write_among}
use Rattle.sdb_record.specs.Rolls.{IsWrite, forward_record, prepared_record, undo}
use Rattle.sdb_record.proofs.Public.{prepared-key}
use Rattle.sdb_model.specs.declared.event.Event.TheVariants as event
use Rattle.sdb_model.specs.Rows.{Name}
use Rattle.law_protocol.specs.Plan.{write_at}
use Rattle.law_protocol.specs.Lawful.{id, protocol_state, IsPreparedThere, roll_forward_of, MayRoll, MayRollForward, MayRollBack, MayRollBy, MayRemove}
use Rattle.check_protocol.specs.declared.plan.Plan.{Plan}
use Rattle.check_protocol.specs.declared.labelled.Action.{Action}
use Rattle.check_protocol.specs.declared.labelled.Action.TheVariants as action
use Rattle.check_protocol.specs.declared.labelled.Labelled.{Labelled}
use Rattle.check_protocol.specs.Values.{all_labelled, moment_in, plan_in, writes_in}
use Rattle.check_protocol.specs.Started.{is_begin_of, touches, opens, ends_with, open_in, owner_of, stopped_in}
use Rattle.check_protocol.specs.Observed.{observed, is_prepared_by, is_before_image_of, has_no_before, is_forward_at, settles_removed}
use Rattle.check_protocol.specs.Rules.{are_some, puts_asked, own, known_moments, is_rolled_forward, rolls_open, rolls_at, roll_each, roll_together, rolls_forward, is_put_back, is_rolled_back, undoes, rolls_back, rolls_well, is_left, is_shut, are_shut, removes_version, removes_well, is_known_aborted}
use Rattle.check_protocol.proofs.PlanLaws.{write_is, write_in_is}
use Rattle.check_protocol.proofs.Lists.{none_some, right, or_left, not_true, true_not, not_both, any_some, some_any, all_each, each_all, found_in}
use Rattle.check_protocol.proofs.StateLaws.{open_is, owner_is, stopped_is}
use Rattle.check_protocol.proofs.ObservedLaws.{number_is, is_number, is_shown, record_is, is_record, kept_is, is_kept_of, keeps_none_is, is_keeps_none}
use Rattle.check_protocol.proofs.PutLaws.{asked_sent, keys_some, sent_asked, some_keys, some_of}
use Rattle.check_protocol.proofs.SettledLaws.{held_by, is_held_by_of, gone_is, gone_of}
use Rattle.check_protocol.proofs.KnownLaws.{moment_known, known_moment, aborted_is, is_aborted, own_is, is_own}
use Rattle.sdb_types.proofs.Public.{and_both as both, and_first as left, clash, decides as decide, either, or_second as or_right, same_key_exact, same_key_of, some_is}
use Rattle.sdb_model.specs.Tables.{is_data}

-- each write of a key that it has asked to prepare has the form of records
abbrev pub Sound : List Labelled → List Plan → ℕ → Key → Type 0
Sound past plans t k = (protocol_state (all_labelled past)).asked t k ≡ true → (w : Write) → write_at (plan_in plans t) k ≡ Some w → IsWrite w

---- the condition of a roll

record Opens (c : Condition) (t : ℕ) : Type 0 where
  s : State
  is : c ≡ condition.Version (id t) s
  is_open : is_committed s ≡ false

opens_is : (c : Condition) (t : ℕ) → rolls_open c t ≡ true → Opens c t
opens_is condition.Absent t h = clash (sym h)
opens_is (condition.Version i s) t h =
    let e = number_is i.0 t (left (i.0 == t) (not (is_committed s)) h) in
    record { s = s; is = λ j. condition.Version (record { 0 = e j }) s; is_open = not_true (is_committed s) (right (i.0 == t) (not (is_committed s)) h) }

is_opens : (t : ℕ) (s : State) → is_committed s ≡ false → rolls_open (condition.Version (id t) s) t ≡ true
is_opens t s h = both (t == t) (not (is_committed s)) (is_number t t refl) (true_not (is_committed s) h)

---- what is rolled

-- a record that the transaction prepared there, of which this holds
record Rolled (past : List Labelled) (plans : List Plan) (t : ℕ) (k : Key) (f : Record → Bool) : Type 0 where
  r : Record
  there : IsPreparedThere (plan_in plans) (all_labelled past) t k r
  holds : f r ≡ true

rolled_is : (past : List Labelled) (plans : List Plan) (t : ℕ) (k : Key) (f : Record → Bool) → (option_map_or f (own past plans t k) false || list_any (λ r. is_prepared_by t k r && f r) (observed past)) ≡ true → Rolled past plans t k f
rolled_is past plans t k f h = elim (either (option_map_or f (own past plans t k) false) (list_any (λ r. is_prepared_by t k r && f r) (observed past)) h) [
  | inl o ↦ by (own past plans t k) refl o
  | inr a ↦ let x = any_some (λ r. is_prepared_by t k r && f r) (observed past) a in record { r = x.0; there = inl (held_by past t k x.0 x.1 (left (is_prepared_by t k x.0) (f x.0) x.2)); holds = right (is_prepared_by t k x.0) (f x.0) x.2 }
]
  where
    by : (o : Option Record) → own past plans t k ≡ o → option_map_or f o false ≡ true → Rolled past plans t k f
    by None e h = clash (sym h)
    by (Some r) e h = record { r = r; there = inr (own_is past plans t k r e); holds = h }

is_rolled : (past : List Labelled) (plans : List Plan) (t : ℕ) (k : Key) (f : Record → Bool) (r : Record) → Sound past plans t k → IsPreparedThere (plan_in plans) (all_labelled past) t k r → f r ≡ true
    → (option_map_or f (own past plans t k) false || list_any (λ r. is_prepared_by t k r && f r) (observed past)) ≡ true
is_rolled past plans t k f r sound (inl held) h =
    or_right (option_map_or f (own past plans t k) false) (list_any (λ r. is_prepared_by t k r && f r) (observed past))
    (some_any (λ r. is_prepared_by t k r && f r) (observed past) r (is_shown past r held.observed) (both (is_prepared_by t k r) (f r) (is_held_by_of past t k r held) h))
is_rolled past plans t k f r sound (inr mine) h =
    or_left (option_map_or f (own past plans t k) false) (list_any (λ r. is_prepared_by t k r && f r) (observed past)) (ap (λ o. option_map_or f o false) (is_own past plans t k r (sound mine.0) mine.0 mine.1) ∙ h)

-- it is a record of that key
there_key : (past : List Labelled) (plans : List Plan) (t : ℕ) (k : Key) (r : Record) → IsPreparedThere (plan_in plans) (all_labelled past) t k r → r.key ≡ k
there_key past plans t k r (inl held) = held.key
there_key past plans t k r (inr mine) = by (write_among (writes_in plans t) k) refl (sym (ap (option_map (λ w. prepared_record w (id t) (moment_in plans t))) (write_is plans t k)) ∙ mine.1)
  where
    by : (o : Option Write) → write_among (writes_in plans t) k ≡ o → option_map (λ w. prepared_record w (id t) (moment_in plans t)) o ≡ Some r → r.key ≡ k
    by None e f = none_some f
    by (Some w) e f = ap (λ (x : Record). x.key) (sym (some_is (prepared_record w (id t) (moment_in plans t)) r f)) ∙ prepared-key w (id t) (moment_in plans t) ∙ (write_in_is (writes_in plans t) k w e).1

---- rolls

-- the record at a key that a put rolls forward
record RollsAt (past : List Labelled) (plans : List Plan) (t : ℕ) (m : ℤ) (k : Key) (p : Put) : Type 0 where
  x : Record × State
  key : x.0.key ≡ k
  roll : MayRoll (plan_in plans) (all_labelled past) t x.0.key x.0 x.1
  put : p ≡ roll_forward_of (id t) m x

rolls_at_is : (past : List Labelled) (plans : List Plan) (t : ℕ) (m : ℤ) (k : Key) (p : Put) → rolls_at (observed past) past plans t m k p ≡ true → RollsAt past plans t m k p
rolls_at_is past plans t m k p h =
    let there = is_rolled_forward (observed past) (own past plans t k) m t k p.rec in
    let rest = right (rolls_open p.condition t) (is_data k && there) h in
    let o = opens_is p.condition t (left (rolls_open p.condition t) (is_data k && there) h) in
    let x = rolled_is past plans t k (λ y. is_forward_at y m p.rec) (right (is_data k) there rest) in
    let key = there_key past plans t k x.r x.there in
    let roll : MayRoll (plan_in plans) (all_labelled past) t k x.r o.s = record { is_open = o.is_open; outside = left (is_data k) there rest; prepared = x.there } in
    let target = record_is p.rec (forward_record x.r m) x.holds in
    record { x = (x.r, o.s); key = key; roll = subst (λ q. MayRoll (plan_in plans) (all_labelled past) t q x.r o.s) (sym key) roll; put = λ i. record { rec = target i; condition = o.is i } }

-- the records at keys that puts roll forward, one after another
record RollsEach (past : List Labelled) (plans : List Plan) (t : ℕ) (m : ℤ) (ks : List Key) (ps : List Put) : Type 0 where
  rolled : List (Record × State)
  keys : ks ≡ map (λ (x : Record × State). x.0.key) rolled
  each : AllByRecursion (λ (x : Record × State). MayRoll (plan_in plans) (all_labelled past) t x.0.key x.0 x.1) rolled
  puts : ps ≡ map (roll_forward_of (id t) m) rolled

rolls_each_is : (past : List Labelled) (plans : List Plan) (t : ℕ) (m : ℤ) (ks : List Key) (ps : List Put) → roll_each (observed past) past plans t m ks ps ≡ true → RollsEach past plans t m ks ps
rolls_each_is past plans t m [] [] h = record { rolled = []; keys = refl; each = tt; puts = refl }
rolls_each_is past plans t m (k ∷ ks) (p ∷ ps) h =
    let first = rolls_at (observed past) past plans t m k p in
    let more = roll_each (observed past) past plans t m ks ps in
    let x = rolls_at_is past plans t m k p (left first more h) in
    let rest = rolls_each_is past plans t m ks ps (right first more h) in
    let key = sym x.key in
    record { rolled = x.x ∷ rest.rolled; keys = λ i. key i ∷ rest.keys i; each = (x.roll, rest.each); puts = λ i. x.put i ∷ rest.puts i }
rolls_each_is past plans t m [] (p ∷ ps) h = clash (sym h)
rolls_each_is past plans t m (k ∷ ks) [] h = clash (sym h)

pub roll_forward_is : (past : List Labelled) (plans : List Plan) (e : Event) (t : ℕ) (ks : List Key) → rolls_forward (observed past) past plans e t ks ≡ true → MayRollForward (plan_in plans) (all_labelled past) e t ks
roll_forward_is past plans (event.Call client store q how r answered) t ks h =
    let f = roll_together (observed past) past plans t ks in
    let puts = option_map_or f (puts_asked q) false in
    let many = some_keys ks (left (are_some ks) puts h) in
    let p = some_of f (puts_asked q) (right (are_some ks) puts h) in
    let a = any_some (λ m. roll_each (observed past) past plans t m ks p.0) (known_moments (observed past) past plans t) p.2 in
    let x = rolls_each_is past plans t a.0 ks p.0 a.2 in
    let same = asked_sent q p.0 p.1 ∙ ap sent x.puts in
    record {
      client = client;
      rolled = x.rolled;
      r = r;
      keys = x.keys;
      some = many.0;
      once_each = many.1;
      each = x.each;
      moment = a.0;
      known = moment_known past plans t a.0 a.1;
      call = record { store = store; how = how; answer = answered; call = λ i. event.Call client store (same i) how r answered };
    }
roll_forward_is past plans (event.Take client text answer) t ks h = clash (sym h)
roll_forward_is past plans (event.Stop client) t ks h = clash (sym h)
roll_forward_is past plans (event.Clock moment) t ks h = clash (sym h)
roll_forward_is past plans (event.Idle client) t ks h = clash (sym h)
roll_forward_is past plans (event.Land number store asked how reply) t ks h = clash (sym h)
roll_forward_is past plans (event.Alter table column kind altered) t ks h = clash (sym h)

is_rolls_at : (past : List Labelled) (plans : List Plan) (t : ℕ) (m : ℤ) (x : Record × State) → Sound past plans t x.0.key → MayRoll (plan_in plans) (all_labelled past) t x.0.key x.0 x.1 → rolls_at (observed past) past plans t m x.0.key (roll_forward_of (id t) m x) ≡ true
is_rolls_at past plans t m x sound roll =
    let k = x.0.key in
    let target = forward_record x.0 m in
    let there = is_rolled_forward (observed past) (own past plans t k) m t k target in
    both (rolls_open (condition.Version (id t) x.1) t) (is_data k && there) (is_opens t x.1 roll.is_open)
    (both (is_data k) there roll.outside (is_rolled past plans t k (λ y. is_forward_at y m target) x.0 sound roll.prepared (is_record target target refl)))

is_rolls_each : (past : List Labelled) (plans : List Plan) (t : ℕ) (m : ℤ) (xs : List (Record × State)) → ((k : Key) → Sound past plans t k) → AllByRecursion (λ (x : Record × State). MayRoll (plan_in plans) (all_labelled past) t x.0.key x.0 x.1) xs
    → roll_each (observed past) past plans t m (map (λ (x : Record × State). x.0.key) xs) (map (roll_forward_of (id t) m) xs) ≡ true
is_rolls_each past plans t m [] sound each = refl
is_rolls_each past plans t m (x ∷ xs) sound each =
    both (rolls_at (observed past) past plans t m x.0.key (roll_forward_of (id t) m x)) (roll_each (observed past) past plans t m (map (λ (y : Record × State). y.0.key) xs) (map (roll_forward_of (id t) m) xs))
    (is_rolls_at past plans t m x (sound x.0.key) each.0)
    (is_rolls_each past plans t m xs sound each.1)

pub is_roll_forward : (past : List Labelled) (plans : List Plan) (e : Event) (t : ℕ) (ks : List Key) → ((k : Key) → Sound past plans t k) → MayRollForward (plan_in plans) (all_labelled past) e t ks → rolls_forward (observed past) past plans e t ks ≡ true
is_roll_forward past plans e t ks sound m =
    let f = roll_together (observed past) past plans t ks in
    let ps = map (roll_forward_of (id t) m.moment) m.rolled in
    let puts = option_map_or f (puts_asked (sent ps)) false in
    let at_moment : roll_each (observed past) past plans t m.moment ks ps ≡ true = ap (λ qs. roll_each (observed past) past plans t m.moment qs ps) m.keys ∙ is_rolls_each past plans t m.moment m.rolled sound m.each in
    ap (λ y. rolls_forward (observed past) past plans y t ks) m.call.call
    ∙ both (are_some ks) puts (keys_some ks m.some m.once_each)
    (ap (λ o. option_map_or f o false) (sent_asked ps)
    ∙ some_any (λ n. roll_each (observed past) past plans t n ks ps) (known_moments (observed past) past plans t) m.moment (known_moment past plans t m.moment m.known) at_moment)

undo_is : (past : List Labelled) (plans : List Plan) (client : ℕ) (store : Name) (q : Request) (how : How) (r : Reply) (answered : Option Answer) (t : ℕ) (k : Key) → is_data k ≡ true → is_known_aborted (observed past) past t ≡ true
    → undoes (observed past) (own past plans t k) q t k ≡ true → MayRollBack (plan_in plans) (all_labelled past) (event.Call client store q how r answered) t k
undo_is past plans client store (ask.PutIf base c) how r answered t k outside known h =
    let back = is_put_back (observed past) (own past plans t k) t k base in
    let o = opens_is c t (left (rolls_open c t) back h) in
    let x = rolled_is past plans t k (λ y. is_before_image_of y base) (right (rolls_open c t) back h) in
    record {
      client = client;
      rolled = x.r;
      s = o.s;
      r = r;
      roll = record { is_open = o.is_open; outside = outside; prepared = x.there };
      known = aborted_is past t known;
      call = record { store = store; how = how; answer = answered; call = (λ i. event.Call client store (ask.PutIf base (o.is i)) how r answered) ∙ ap (λ b. event.Call client store (undo (condition.Version (id t) o.s) k b) how r answered) (sym (kept_is x.r base x.holds)) };
    }
undo_is past plans client store (ask.DeleteIf key c) how r answered t k outside known h =
    let back = is_rolled_back (observed past) (own past plans t k) t k in
    let rest = right (rolls_open c t) ((same_key key k) && back) h in
    let o = opens_is c t (left (rolls_open c t) ((same_key key k) && back) h) in
    let at = same_key_exact key k (left (same_key key k) back rest) in
    let x = rolled_is past plans t k has_no_before (right (same_key key k) back rest) in
    record {
      client = client;
      rolled = x.r;
      s = o.s;
      r = r;
      roll = record { is_open = o.is_open; outside = outside; prepared = x.there };
      known = aborted_is past t known;
      call = record { store = store; how = how; answer = answered; call = (λ i. event.Call client store (ask.DeleteIf (at i) (o.is i)) how r answered) ∙ ap (λ b. event.Call client store (undo (condition.Version (id t) o.s) k b) how r answered) (sym (keeps_none_is x.r x.holds)) };
    }
undo_is past plans client store (ask.PutAll b) how r answered t k outside known h = clash (sym h)
undo_is past plans client store (ask.Get key) how r answered t k outside known h = clash (sym h)
undo_is past plans client store (ask.Scan span) how r answered t k outside known h = clash (sym h)

pub roll_back_is : (past : List Labelled) (plans : List Plan) (e : Event) (t : ℕ) (k : Key) → rolls_back (observed past) past plans e t k ≡ true → MayRollBack (plan_in plans) (all_labelled past) e t k
roll_back_is past plans (event.Call client store q how r answered) t k h =
    let u = undoes (observed past) (own past plans t k) q t k in
    let rest = right (is_data k) (is_known_aborted (observed past) past t && u) h in
    undo_is past plans client store q how r answered t k (left (is_data k) (is_known_aborted (observed past) past t && u) h) (left (is_known_aborted (observed past) past t) u rest) (right (is_known_aborted (observed past) past t) u rest)
roll_back_is past plans (event.Take client text answer) t k h = clash (sym h)
roll_back_is past plans (event.Stop client) t k h = clash (sym h)
roll_back_is past plans (event.Clock moment) t k h = clash (sym h)
roll_back_is past plans (event.Idle client) t k h = clash (sym h)
roll_back_is past plans (event.Land number store asked how reply) t k h = clash (sym h)
roll_back_is past plans (event.Alter table column kind altered) t k h = clash (sym h)

is_undo : (past : List Labelled) (plans : List Plan) (t : ℕ) (k : Key) (s : State) (r : Record) (b : Option Record) → Sound past plans t k → is_committed s ≡ false → IsPreparedThere (plan_in plans) (all_labelled past) t k r → before_record r ≡ b
    → undoes (observed past) (own past plans t k) (undo (condition.Version (id t) s) k b) t k ≡ true
is_undo past plans t k s r None sound open_state there e =
    both (rolls_open (condition.Version (id t) s) t) (same_key k k && is_rolled_back (observed past) (own past plans t k) t k) (is_opens t s open_state)
    (both (same_key k k) (is_rolled_back (observed past) (own past plans t k) t k) (same_key_of k k refl) (is_rolled past plans t k has_no_before r sound there (is_keeps_none r e)))
is_undo past plans t k s r (Some base) sound open_state there e =
    both (rolls_open (condition.Version (id t) s) t) (is_put_back (observed past) (own past plans t k) t k base) (is_opens t s open_state) (is_rolled past plans t k (λ y. is_before_image_of y base) r sound there (is_kept_of r base e))

pub is_roll_back : (past : List Labelled) (plans : List Plan) (e : Event) (t : ℕ) (k : Key) → Sound past plans t k → MayRollBack (plan_in plans) (all_labelled past) e t k → rolls_back (observed past) past plans e t k ≡ true
is_roll_back past plans e t k sound m =
    let q = undo (condition.Version (id t) m.s) k (before_record m.rolled) in
    let u = undoes (observed past) (own past plans t k) q t k in
    ap (λ x. rolls_back (observed past) past plans x t k) m.call.call
    ∙ both (is_data k) (is_known_aborted (observed past) past t && u) m.roll.outside
    (both (is_known_aborted (observed past) past t) u (is_aborted past t m.known) (is_undo past plans t k m.s m.rolled (before_record m.rolled) sound m.roll.is_open m.roll.prepared refl))

pub roll_is : (past : List Labelled) (plans : List Plan) (e : Event) (t : ℕ) (ks : List Key) (d : Decision) → rolls_well (observed past) past plans e t ks d ≡ true → MayRollBy (plan_in plans) (all_labelled past) e t ks d
roll_is past plans e t ks decision.Committed h = roll_forward_is past plans e t ks h
roll_is past plans e t [] decision.Aborted h = clash (sym h)
roll_is past plans e t (k ∷ []) decision.Aborted h = roll_back_is past plans e t k h
roll_is past plans e t (k ∷ l ∷ ks) decision.Aborted h = clash (sym h)

pub is_roll : (past : List Labelled) (plans : List Plan) (e : Event) (t : ℕ) (ks : List Key) (d : Decision) → ((k : Key) → Sound past plans t k) → MayRollBy (plan_in plans) (all_labelled past) e t ks d → rolls_well (observed past) past plans e t ks d ≡ true
is_roll past plans e t ks decision.Committed sound m = is_roll_forward past plans e t ks sound m
is_roll past plans e t [] decision.Aborted sound m = absurd m
is_roll past plans e t (k ∷ []) decision.Aborted sound m = is_roll_back past plans e t k (sound k) m
is_roll past plans e t (k ∷ l ∷ ks) decision.Aborted sound m = absurd m

---- removals

shut_one : (past : List Labelled) (r : Action) (u : ℕ) → is_begin_of u r ≡ true → is_shut past r ≡ true → open_in past u ≡ true → stopped_in past (owner_of past u) ≡ true
unfolding is_left
shut_one past (action.Begins t c) u h shut o =
    let e = number_is u t.0 h in
    elim (either (not (open_in past t.0)) (stopped_in past (owner_of past t.0)) shut) [
      | inl n ↦ not_both (open_in past t.0) (ap (open_in past) (sym e) ∙ o) (not_true (open_in past t.0) n)
      | inr s ↦ ap (λ x. stopped_in past (owner_of past x)) e ∙ s
    ]
shut_one past _ u h shut o = clash (sym h)

shut_is : (past : List Labelled) → are_shut past ≡ true → (u : ℕ) → open_in past u ≡ true → stopped_in past (owner_of past u) ≡ true
shut_is past h u o = by (find (touches u) past) refl o
  where
    by : (f : Option Labelled) → find (touches u) past ≡ f → option_map_or (opens u) f false ≡ true → stopped_in past (owner_of past u) ≡ true
    by None e k = clash (sym k)
    by (Some p) e k = shut_one past p.action u (right (not (ends_with u p)) (is_begin_of u p.action) k) (all_each (λ (x : Labelled). is_shut past x.action) past h p (found_in (touches u) past p e).0) o

is_shut_of : (past : List Labelled) → ((u : ℕ) → open_in past u ≡ true → stopped_in past (owner_of past u) ≡ true) → are_shut past ≡ true
unfolding is_left
is_shut_of past f = each_all (λ (x : Labelled). is_shut past x.action) past (λ p i. by p.action)
  where
    by : (r : Action) → is_shut past r ≡ true
    by (action.Begins t c) = elim (decide (open_in past t.0)) [
      | inl o ↦ or_right (not (open_in past t.0)) (stopped_in past (owner_of past t.0)) (f t.0 o)
      | inr n ↦ or_left (not (open_in past t.0)) (stopped_in past (owner_of past t.0)) (true_not (open_in past t.0) n)
    ]
    by _ = refl

committed_is : (s : State) → is_committed s ≡ true → s ≡ state.Committed
committed_is state.Prepared h = clash (sym h)
committed_is state.Deleted h = clash (sym h)
committed_is state.Committed h = refl
committed_is state.Aborted h = clash (sym h)

removes_is : (c : Condition) (t : ℕ) → removes_version c t ≡ true → c ≡ condition.Version (id t) state.Committed
removes_is condition.Absent t h = clash (sym h)
removes_is (condition.Version i s) t h =
    let e = number_is i.0 t (left (i.0 == t) (is_committed s) h) in
    let f = committed_is s (right (i.0 == t) (is_committed s) h) in
    λ j. condition.Version (record { 0 = e j }) (f j)

remove_call : (past : List Labelled) (plans : List Plan) (client : ℕ) (store : Name) (key : Key) (c : Condition) (how : How) (r : Reply) (answered : Option Answer) (k : Key) (t : ℕ)
    → removes_well (observed past) past (event.Call client store (ask.DeleteIf key c) how r answered) k t ≡ true → MayRemove (all_labelled past) (event.Call client store (ask.DeleteIf key c) how r answered) k t
remove_call past plans client store key c how r answered k t h =
    let at = same_key key k in
    let gone = settles_removed (observed past) k t in
    let one = right at (removes_version c t && (is_data k && (are_shut past && gone))) h in
    let two = right (removes_version c t) (is_data k && (are_shut past && gone)) one in
    let three = right (is_data k) (are_shut past && gone) two in
    let same = same_key_exact key k (left at (removes_version c t && (is_data k && (are_shut past && gone))) h) in
    let is = removes_is c t (left (removes_version c t) (is_data k && (are_shut past && gone)) one) in
    let g = gone_is past k t (right (are_shut past) gone three) in
    let shut = left (are_shut past) gone three in
    record {
      client = client;
      r = r;
      tombstone = g.b;
      call = record { store = store; how = how; answer = answered; call = λ i. event.Call client store (ask.DeleteIf (same i) (is i)) how r answered };
      outside = left (is_data k) (are_shut past && gone) two;
      settled = g.settled;
      gone = g.gone;
      writer = g.writer;
      gate = λ u o. stopped_is past ((protocol_state (all_labelled past)).owner u) ∙ ap (stopped_in past) (owner_is past u) ∙ shut_is past shut u (sym (open_is past u) ∙ o);
    }

pub remove_is : (past : List Labelled) (plans : List Plan) (e : Event) (k : Key) (t : ℕ) → removes_well (observed past) past e k t ≡ true → MayRemove (all_labelled past) e k t
remove_is past plans (event.Call client store (ask.DeleteIf key c) how r answered) k t h = remove_call past plans client store key c how r answered k t h
remove_is past plans (event.Call client store (ask.PutAll b) how r answered) k t h = clash (sym h)
remove_is past plans (event.Call client store (ask.Get key) how r answered) k t h = clash (sym h)
remove_is past plans (event.Call client store (ask.Scan span) how r answered) k t h = clash (sym h)
remove_is past plans (event.Call client store (ask.PutIf target c) how r answered) k t h = clash (sym h)
remove_is past plans (event.Take client text answer) k t h = clash (sym h)
remove_is past plans (event.Stop client) k t h = clash (sym h)
remove_is past plans (event.Clock moment) k t h = clash (sym h)
remove_is past plans (event.Idle client) k t h = clash (sym h)
remove_is past plans (event.Land number store asked how reply) k t h = clash (sym h)
remove_is past plans (event.Alter table column kind altered) k t h = clash (sym h)

pub is_remove : (past : List Labelled) (e : Event) (k : Key) (t : ℕ) → MayRemove (all_labelled past) e k t → removes_well (observed past) past e k t ≡ true
is_remove past e k t m =
    let at = same_key k k in
    let version = removes_version (condition.Version (id t) state.Committed) t in
    let gone = settles_removed (observed past) k t in
    ap (λ x. removes_well (observed past) past x k t) m.call.call
    ∙ both at (version && (is_data k && (are_shut past && gone))) (same_key_of k k refl)
    (both version (is_data k && (are_shut past && gone)) (both (t == t) true (is_number t t refl) refl)
    (both (is_data k) (are_shut past && gone) m.outside
    (both (are_shut past) gone
    (is_shut_of past (λ u o. ap (stopped_in past) (sym (owner_is past u)) ∙ sym (stopped_is past ((protocol_state (all_labelled past)).owner u)) ∙ m.gate u (open_is past u ∙ o)))
    (gone_of past k t (record { b = m.tombstone; settled = m.settled; gone = m.gone; writer = m.writer })))))
