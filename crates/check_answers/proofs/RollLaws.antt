-- The tests of rolls hold exactly where the records are resolved.
use Rattle.std.proofs.Common.{◌≡◌, ℕ, Bool, true, false, List, Some, ◌⊎◌, inl, inr, refl, sym, ap, ◌∙◌, subst}
use Rattle.std.specs.Prelude.{◌↔◌, ◌&&◌, ◌||◌, not, nat_lt, Contains, IsTrue}
use Rattle.std.specs.List.{list_all}
use Rattle.std.specs.Option.{option_map_or}
use Rattle.sdb_types.specs.declared.record.Condition.TheVariants as condition
use Rattle.check_answers.specs.Types.{Event, How, Made, Record, Request, State, TxId}
use Rattle.sdb_record.specs.Coordinator.{coordinator_key_of}
use Rattle.sdb_record.specs.Meta.{id_in, is_unresolved, state_in}
use Rattle.sdb_model.specs.declared.event.How.TheVariants.{Seen, Lost, Discarded, Delayed, Broken}
use Rattle.sdb_model.specs.Calls as calls
use Rattle.sdb_model.specs.Calls.{calls_after, calls_of, decision_observed, records_read}
use Rattle.sdb_model.specs.Counted.{IsPassedOver, IsResolved, is_seen, roll_by}
use Rattle.sdb_model.specs.ReadSet.{has_finished, has_read, reads_rows}
use Rattle.sdb_model.specs.Sql.{reads_vacuum}
use Rattle.sdb_model.specs.Transactions.{Executed}
use Rattle.check_protocol.specs.Values.{same_request}
use Rattle.check_protocol.proofs.Public.{all_each, any_some, each_all, In, is_request, not_both, not_true, or_left, request_is, right, some_any, true_not}
use Rattle.check_tables.specs.Values.{all_made, decision_at, made_of}
use Rattle.check_answers.specs.Tests.{is_early, prepared_moment}
use Rattle.check_answers.proofs.BusyLaws.{early_is, is_early_of}
use Rattle.check_answers.proofs.Finds.{contains_in, in_contains, in_kept, kept_in, in_made, made_in}
use Rattle.check_answers.specs.Counts.{IsExecutedResolved, are_well_left, is_early_then, is_passed_over, is_roll, is_rolled, is_rolled_by, is_rolled_in, is_well_left, is_well_read, rolled_after}
use Rattle.check_answers.proofs.Maps.{of_some, some_of}
use Rattle.sdb_types.proofs.Public.{and_both as both, and_first as left, clash, decides as decide, either, or_second as or_right}
use Rattle.sdb_types.specs.Replies.{is_answered}

seen_how : (h : How) → is_seen h ≡ true → h ≡ Seen
seen_how Seen e = refl
seen_how Lost e = clash (sym e)
seen_how Discarded e = clash (sym e)
seen_how Delayed e = clash (sym e)
seen_how Broken e = clash (sym e)

-- a call after an event, among those of a statement
after_in : (ms : List Made) (n : ℕ) (m : Made) → In ms m → nat_lt n m.at ≡ true → Contains (calls_after n (all_made ms)) (made_of m)
after_in ms n m i h = in_contains (calls_after n (all_made ms)) (made_of m) (kept_in (λ c. nat_lt n c.at) (all_made ms) (made_of m) (made_in ms m i) h)

in_after : (ms : List Made) (n : ℕ) (c : calls.StoreCall) → Contains (calls_after n (all_made ms)) c → (m : Made) × In ms m × (nat_lt n m.at ≡ true) × (c ≡ made_of m)
in_after ms n c k =
    let i = in_kept (λ c. nat_lt n c.at) (all_made ms) c (contains_in (calls_after n (all_made ms)) c k) in
    let r = in_made ms c i.0 in
    (r.0, r.1, ap (λ x. nat_lt n x.at) (sym r.2) ∙ i.1, r.2)

module _ (ms : List Made) (read : Made) (r : Record) where
  by_look : (id : TxId) (state : State) (look : Made) → id_in r.columns ≡ Some id → state_in r.columns ≡ Some state → In ms look → is_rolled_by ms read r id state look ≡ true → IsResolved (all_made ms) (made_of read) r
  by_look id state look wi ws i h =
      let late = left (nat_lt read.at look.at) (option_map_or (λ d. rolled_after ms look.at (roll_by r (condition.Version id state) d)) (decision_at (coordinator_key_of id) look) false) h in
      let d = some_of (λ d. rolled_after ms look.at (roll_by r (condition.Version id state) d)) (decision_at (coordinator_key_of id) look) (right (nat_lt read.at look.at) (option_map_or (λ d. rolled_after ms look.at (roll_by r (condition.Version id state) d)) (decision_at (coordinator_key_of id) look) false) h) in
      let q : Request = roll_by r (condition.Version id state) d.0 in
      let m = any_some (is_roll look.at q) ms d.2 in
      let one = left (nat_lt look.at m.0.at) (is_seen m.0.how && (is_answered m.0.reply && same_request m.0.request q)) m.2 in
      let two = right (nat_lt look.at m.0.at) (is_seen m.0.how && (is_answered m.0.reply && same_request m.0.request q)) m.2 in
      let three = right (is_seen m.0.how) (is_answered m.0.reply && same_request m.0.request q) two in
      record {
        id = id;
        state = state;
        decided = d.0;
        look = made_of look;
        roll = made_of m.0;
        writer = (wi, ws);
        looks = (after_in ms read.at look i late, d.1);
        rolls = (after_in ms look.at m.0 m.1 one, request_is m.0.request q (right (is_answered m.0.reply) (same_request m.0.request q) three));
        answered = (seen_how m.0.how (left (is_seen m.0.how) (is_answered m.0.reply && same_request m.0.request q) two), left (is_answered m.0.reply) (same_request m.0.request q) three);
      }

  rolled_is : is_rolled ms read r ≡ true → IsResolved (all_made ms) (made_of read) r
  rolled_is h =
      let w = some_of (λ id. option_map_or (is_rolled_in ms read r id) (state_in r.columns) false) (id_in r.columns) h in
      let s = some_of (is_rolled_in ms read r w.0) (state_in r.columns) w.2 in
      let l = any_some (is_rolled_by ms read r w.0 s.0) ms s.2 in
      by_look w.0 s.0 l.0 w.1 s.1 l.1 l.2

  is_rolled_of : IsResolved (all_made ms) (made_of read) r → is_rolled ms read r ≡ true
  is_rolled_of x =
      let look = in_after ms read.at x.look x.looks.0 in
      let roll = in_after ms x.look.at x.roll x.rolls.0 in
      let q : Request = roll_by r (condition.Version x.id x.state) x.decided in
      let late : nat_lt look.0.at roll.0.at ≡ true = ap (λ (c : calls.StoreCall). nat_lt c.at roll.0.at) (sym look.3) ∙ roll.2 in
      let observed : decision_at (coordinator_key_of x.id) look.0 ≡ Some x.decided = ap (decision_observed x.id) (sym look.3) ∙ x.looks.1 in
      let put : roll.0.request ≡ q = ap (λ (c : calls.StoreCall). c.request) (sym roll.3) ∙ x.rolls.1 in
      let seen : is_seen roll.0.how ≡ true = ap (λ (c : calls.StoreCall). is_seen c.how) (sym roll.3) ∙ ap is_seen x.answered.0 in
      let answered : is_answered roll.0.reply ≡ true = ap (λ (c : calls.StoreCall). is_answered c.reply) (sym roll.3) ∙ x.answered.1 in
      let rolls : is_roll look.0.at q roll.0 ≡ true = both (nat_lt look.0.at roll.0.at) (is_seen roll.0.how && (is_answered roll.0.reply && same_request roll.0.request q)) late (both (is_seen roll.0.how) (is_answered roll.0.reply && same_request roll.0.request q) seen (both (is_answered roll.0.reply) (same_request roll.0.request q) answered (is_request roll.0.request q put))) in
      let one : is_rolled_by ms read r x.id x.state look.0 ≡ true = both (nat_lt read.at look.0.at) (option_map_or (λ d. rolled_after ms look.0.at (roll_by r (condition.Version x.id x.state) d)) (decision_at (coordinator_key_of x.id) look.0) false) look.2
      (of_some (λ d. rolled_after ms look.0.at (roll_by r (condition.Version x.id x.state) d)) (decision_at (coordinator_key_of x.id) look.0) x.decided observed (some_any (is_roll look.0.at q) ms roll.0 roll.1 rolls)) in
      of_some (λ id. option_map_or (is_rolled_in ms read r id) (state_in r.columns) false) (id_in r.columns) x.id x.writer.0
      (of_some (is_rolled_in ms read r x.id) (state_in r.columns) x.state x.writer.1 (some_any (is_rolled_by ms read r x.id x.state) ms look.0 look.1 one))

  module _ (events : List Event) (s : Executed) where
    passed_is : is_passed_over events (reads_vacuum s.text) ms read r ≡ true → IsPassedOver events s (all_made ms) (made_of read) r
    passed_is h =
        let w = some_of (is_early_then events ms read r) (id_in r.columns) (right (reads_vacuum s.text) (option_map_or (is_early_then events ms read r) (id_in r.columns) false) h) in
        let a = some_of (is_early events ms read r w.0 (coordinator_key_of w.0)) (prepared_moment r) w.2 in
        (w.0, a.0, left (reads_vacuum s.text) (option_map_or (is_early_then events ms read r) (id_in r.columns) false) h, early_is events ms w.0 a.0 read r a.2)

    is_passed_of : IsPassedOver events s (all_made ms) (made_of read) r → is_passed_over events (reads_vacuum s.text) ms read r ≡ true
    is_passed_of (id, at, v, x) =
        both (reads_vacuum s.text) (option_map_or (is_early_then events ms read r) (id_in r.columns) false) v
        (of_some (is_early_then events ms read r) (id_in r.columns) id x.unresolved.1 (of_some (is_early events ms read r id (coordinator_key_of id)) (prepared_moment r) at x.unresolved.2 (is_early_of events ms id at read r x)))

    left_is : is_well_left events (reads_vacuum s.text) ms read r ≡ true → is_unresolved r ≡ true → IsResolved (all_made ms) (made_of read) r ⊎ IsPassedOver events s (all_made ms) (made_of read) r
    left_is h u = elim (either (not (is_unresolved r)) (is_rolled ms read r || is_passed_over events (reads_vacuum s.text) ms read r) h) [
      | inl n ↦ not_both (is_unresolved r) u (not_true (is_unresolved r) n)
      | inr k ↦ elim (either (is_rolled ms read r) (is_passed_over events (reads_vacuum s.text) ms read r) k) [ inl a ↦ inl (rolled_is a) | inr b ↦ inr (passed_is b) ]
    ]

    is_left_of : (is_unresolved r ≡ true → IsResolved (all_made ms) (made_of read) r ⊎ IsPassedOver events s (all_made ms) (made_of read) r) → is_well_left events (reads_vacuum s.text) ms read r ≡ true
    is_left_of f = elim (decide (is_unresolved r)) [
      | inl u ↦ or_right (not (is_unresolved r)) (is_rolled ms read r || is_passed_over events (reads_vacuum s.text) ms read r) (by (f u))
      | inr n ↦ or_left (not (is_unresolved r)) (is_rolled ms read r || is_passed_over events (reads_vacuum s.text) ms read r) (true_not (is_unresolved r) n)
    ]
      where
        by : IsResolved (all_made ms) (made_of read) r ⊎ IsPassedOver events s (all_made ms) (made_of read) r → (is_rolled ms read r || is_passed_over events (reads_vacuum s.text) ms read r) ≡ true
        by (inl a) = or_left (is_rolled ms read r) (is_passed_over events (reads_vacuum s.text) ms read r) (is_rolled_of a)
        by (inr b) = or_right (is_rolled ms read r) (is_passed_over events (reads_vacuum s.text) ms read r) (is_passed_of b)

---- a statement

module _ (events : List Event) (client : ℕ) (s : Executed) (ms : List Made) (e : all_made ms ≡ calls_of events client s) where
  abbrev IsWell : List calls.StoreCall → calls.StoreCall → Record → Type 0
  IsWell cs m r = IsResolved cs m r ⊎ IsPassedOver events s cs m r

  are_well : list_all (is_well_read events (reads_vacuum s.text) ms) ms ≡ true → IsExecutedResolved events client s
  are_well h = record {
    records = λ m r x k t i u.
        let c = contains_in (all_made ms) m (subst (λ cs. Contains cs m) (sym e) k) in
        let w = in_made ms m c in
        let good = all_each (is_well_read events (reads_vacuum s.text) ms) ms h w.0 w.1 in
        let rows : reads_rows (made_of w.0) ≡ true = ap reads_rows (sym w.2) ∙ t in
        let all : are_well_left events (reads_vacuum s.text) ms w.0 (records_read w.0.reply) ≡ true = elim (either (not (reads_rows (made_of w.0))) (are_well_left events (reads_vacuum s.text) ms w.0 (records_read w.0.reply)) good) [
          | inl n ↦ not_both (reads_rows (made_of w.0)) rows (not_true (reads_rows (made_of w.0)) n)
          | inr g ↦ g
        ] in
        let one = all_each (is_well_left events (reads_vacuum s.text) ms w.0) (records_read w.0.reply) all r (contains_in (records_read w.0.reply) r (subst (λ (z : calls.StoreCall). Contains (records_read z.reply) r) w.2 i)) in
        subst (λ cs. IsWell cs m r) e (subst (λ z. IsWell (all_made ms) z r) (sym w.2) (left_is ms w.0 r events s one u));
  }

  well_of : has_read events client s ≡ true → IsExecutedResolved events client s → list_all (is_well_read events (reads_vacuum s.text) ms) ms ≡ true
  well_of x all = each_all (is_well_read events (reads_vacuum s.text) ms) ms (λ m i. elim (decide (reads_rows (made_of m))) [
    | inr n ↦ or_left (not (reads_rows (made_of m))) (are_well_left events (reads_vacuum s.text) ms m (records_read m.reply)) (true_not (reads_rows (made_of m)) n)
    | inl t ↦ or_right (not (reads_rows (made_of m))) (are_well_left events (reads_vacuum s.text) ms m (records_read m.reply))
        (each_all (is_well_left events (reads_vacuum s.text) ms m) (records_read m.reply) (λ r j. is_left_of ms m r events s (λ u.
        subst (λ cs. IsWell cs (made_of m) r) (sym e) (all.records (made_of m) r x (subst (λ cs. Contains cs (made_of m)) e (in_contains (all_made ms) (made_of m) (made_in ms m i))) t (in_contains (records_read m.reply) r j) u))))
  ])

  read_is : has_finished (all_made ms) s ≡ has_read events client s
  read_is = ap (λ cs. has_finished cs s) e

  pub said_resolved : (b v : Bool) → has_finished (all_made ms) s ≡ true → v ≡ reads_vacuum s.text → b ≡ list_all (is_well_read events v ms) ms → IsTrue b ↔ IsExecutedResolved events client s
  said_resolved b v f g h =
      let same : b ≡ list_all (is_well_read events (reads_vacuum s.text) ms) ms = h ∙ ap (λ x. list_all (is_well_read events x ms) ms) g in
      (λ t. are_well (sym same ∙ t), λ all. same ∙ well_of (sym read_is ∙ f) all)

  pub said_unfinished : has_finished (all_made ms) s ≡ false → IsTrue true ↔ IsExecutedResolved events client s
  said_unfinished f = (λ t. record { records = λ m r x. not_both (has_read events client s) x (sym read_is ∙ f) }, λ all. refl)
