-- How many calls a COMMIT has made, one call after the other.
use Rattle.std.proofs.Common.{subst, ◌≡◌, ◌≢◌, ◌≤◌, ◌<◌, ◌+◌, ◌*◌, ℕ, ℤ, zero, suc, Bool, true, false, not, List, [], ◌∷◌, ◌++◌, length, map, take, Option, Some, None, Result, Ok, Err, refl, sym, ap, ◌∙◌, arith}
use Rattle.std.specs.Prelude.{if◌then◌else◌, ◌&&◌, ◌||◌, filter, nat_lt, slice_get, sum_by}
use Rattle.std.specs.List.{AllByRecursion, count_by, list_any}
use Rattle.std.specs.Option.{option_map, option_map_or}
use Rattle.std.proofs.lemmas.Bool.Decides.{nat_tests}
use Rattle.std.proofs.lemmas.List.{append-nil, length-append, length-map, take-map, take_all}
use Rattle.std.proofs.lemmas.List.Elements.{filter-append}
use Rattle.std.proofs.lemmas.List.Sums.{length-filter, sum_by-cons}
use Rattle.std.proofs.lemmas.Option.{slice_get_within}
use Rattle.law_answers.specs.Types.{Answer, Check, Condition, DecidePhase, DecideStep, Decided, Key, Outcome, Put, Read, Record, Reply, Request, Scan, State, TxId, Write}
use Rattle.sdb_types.specs.declared.record.Reply.TheVariants as reply
use Rattle.sdb_types.specs.declared.record.Request.TheVariants as ask
use Rattle.sdb_types.specs.declared.record.State.TheVariants as state
use Rattle.sdb_types.specs.declared.value.Value.TheVariants as value
use Rattle.sdb_types.specs.Columns.{column}
use Rattle.sdb_types.specs.TxId.{id_text}
use Rattle.sdb_types.specs.Contents.{has_value, is_version, put_at, state_number, tx_id}
use Rattle.sdb_types.proofs.Public.{append_all as each_append, clash, none_some, some_is}
use Rattle.sdb_record.specs.declared.coordinator.Decision.TheVariants as decision
use Rattle.sdb_record.specs.Coordinator.{coordinator_key_of, coordinator_row_of, decision_in}
use Rattle.sdb_record.specs.Groups.{IsGroup, grouped, in_groups, ungrouped}
use Rattle.sdb_record.specs.Rolls.{IsWrite, forward_record, prepared_record}
use Rattle.sdb_record.proofs.Public.{each_group, forward-state, in_groups_length}
use Rattle.sdb_record.specs.Among.{is_written}
use Rattle.sdb_model.specs.declared.answer.Answer.TheVariants as answer
use Rattle.sdb_model.specs.Calls.{StoreCall}
use Rattle.sdb_model.specs.Counted.{is_checked_get, is_key_of, is_scan, prepares_in, puts_prepared}
use Rattle.sdb_model.specs.ReadSet.{KeyRead, ReadItem, SpanRead}
use Rattle.sdb_model.specs.Requests.{any_of, records_put}
use Rattle.sdb_model.specs.Transactions.{is_prepared_record, prepares}
use Rattle.sdb_phases.specs.declared.step.DecidePhase.TheVariants as phase
use Rattle.sdb_phases.specs.declared.step.DecideStep.TheVariants as decide
use Rattle.sdb_phases.specs.declared.step.Outcome.TheVariants as outcome
use Rattle.sdb_phases.specs.declared.step.PrepareStep.TheVariants as step_prepare
use Rattle.sdb_phases.specs.Checks.{check_of_read, check_of_scan, checks, difference_in}
use Rattle.sdb_phases.specs.Commit.{Stage, Preparing, Checking, Deciding, Forward, Stopping, Back, Over, after_abort, after_check, after_decide, after_prepare, back, checking, decided, forward, pending, preparing, out_of_memory, out_of_memory_answer, step}
use Rattle.sdb_phases.specs.Steps.{decide_next, decide_request_at, judged, prepare_step, puts_of, refused, step_of_row, touched_after, validate_step}
use Rattle.sdb_phases.proofs.Public.{by_rows, few_groups, writes_more}
use Rattle.sdb_phases.specs.Work.{Work, abort_of, back_of, backs, decide_of, forward_of, forwards, forwards_of, groups_of, look_of, prepares_of, writes_before}
use Rattle.sdb_phases.specs.Work as work
use Rattle.law_clients.proofs.Public.{each_at, each_map}
use Rattle.sdb_client.specs.Step.{answer_of_outcome}
use Rattle.law_answers.specs.Commits.{EndsBy}
use Rattle.law_answers.specs.Counts.{AllPut, CommitCounted, CommitIsCounted, HasPut, NoneFaulted, ReadItemsAre, allowed_by, checks_by, decides, keys_got, later_by, wanted_by}
use Rattle.law_answers.proofs.Conflicts.{mapped_at, prepared_is, row_unprepared, undo_unprepared}
use Rattle.sdb_types.specs.Replies.{is_fault}
use Rattle.law_answers.proofs.Counts.{calls_more}
use Rattle.law_answers.proofs.Groups.{all_in_groups, any_at, records_of_group}
use Rattle.law_answers.proofs.PreparedKeys.{put_keys}
use Rattle.law_answers.proofs.Lists.{map_more}

---- lists

take_more : {X : Type 0} (xs : List X) (i : ℕ) (x : X) → slice_get xs i ≡ Some x → take (i + 1) xs ≡ take i xs ++ x ∷ []
take_more {X = X} xs i x e = ap (λ n. take n xs) (one i) ∙ by xs i e
  where
    one : (n : ℕ) → n + 1 ≡ suc n
    one n = omega arith

    by : (ys : List X) (j : ℕ) → slice_get ys j ≡ Some x → take (suc j) ys ≡ take j ys ++ x ∷ []
    by [] j k = none_some x k
    by (y ∷ ys) zero k = ap (λ z. z ∷ []) (some_is y x k)
    by (y ∷ ys) (suc j) k = ap (λ r. y ∷ r) (by ys j k)

---- what a COMMIT is to make

-- the gets that are checked are those of keys that aren't written
abbrev is_unput : List StoreCall → Key → Bool
is_unput put key = not (list_any (is_key_of key) put)

gets_are : (put : List StoreCall) (read_set : List ReadItem) → length (filter (is_checked_get put) read_set) ≡ length (filter (is_unput put) (keys_got read_set))
gets_are put [] = refl
gets_are put (KeyRead r ∷ ns) = by (is_unput put r.key) (gets_are put ns)
  where
    by : (b : Bool) → length (filter (is_checked_get put) ns) ≡ length (filter (is_unput put) (keys_got ns)) → length (if b then KeyRead r ∷ filter (is_checked_get put) ns else filter (is_checked_get put) ns) ≡ length (if b then r.key ∷ filter (is_unput put) (keys_got ns) else filter (is_unput put) (keys_got ns))
    by true e = ap suc e
    by false e = e
gets_are put (SpanRead x ∷ ns) = gets_are put ns

unput_is : (p : Work) (calls : List StoreCall) → AllPut p calls → (rs : List Read) → length (filter (is_unput (prepares_in p.id calls)) (map (λ r. r.key) rs)) ≡ length (filter (λ r. not (is_written p.writes r.key)) rs)
unput_is p calls all [] = refl
unput_is p calls all (r ∷ rs) =
    ap (λ b. length (if not b then r.key ∷ filter (is_unput (prepares_in p.id calls)) (map (λ (x : Read). x.key) rs) else filter (is_unput (prepares_in p.id calls)) (map (λ (x : Read). x.key) rs))) (put_keys p calls r.key all)
    ∙ by (not (is_written p.writes r.key)) (unput_is p calls all rs)
  where
    by : (b : Bool) → length (filter (is_unput (prepares_in p.id calls)) (map (λ (x : Read). x.key) rs)) ≡ length (filter (λ (x : Read). not (is_written p.writes x.key)) rs)
        → length (if b then r.key ∷ filter (is_unput (prepares_in p.id calls)) (map (λ (x : Read). x.key) rs) else filter (is_unput (prepares_in p.id calls)) (map (λ (x : Read). x.key) rs)) ≡ length (if b then r ∷ filter (λ (x : Read). not (is_written p.writes x.key)) rs else filter (λ (x : Read). not (is_written p.writes x.key)) rs)
    by true e = ap suc e
    by false e = e

checks_long : (p : Work) → length (checks p) ≡ length (filter (λ r. not (is_written p.writes r.key)) p.reads) + length p.scans
checks_long p =
    length-append (map check_of_read (filter (λ r. not (is_written p.writes r.key)) p.reads)) (map (check_of_scan p.writes) p.scans)
    ∙ ap (λ n. n + length (map (check_of_scan p.writes) p.scans)) (length-map (filter (λ r. not (is_written p.writes r.key)) p.reads) check_of_read)
    ∙ ap (λ n. length (filter (λ r. not (is_written p.writes r.key)) p.reads) + n) (length-map p.scans (check_of_scan p.writes))

---- how many were prepared

puts_by_request : (ms : List StoreCall) → sum_by (λ m. length (records_put m.request)) ms ≡ sum_by (λ q. length (records_put q)) (map (λ m. m.request) ms)
puts_by_request [] = refl
puts_by_request (m ∷ ms) =
    sum_by-cons (λ (x : StoreCall). length (records_put x.request)) m ms ∙ ap (λ n. length (records_put m.request) + n) (puts_by_request ms)
    ∙ sym (sum_by-cons (λ q. length (records_put q)) m.request (map (λ (x : StoreCall). x.request) ms))

puts_of_groups : (id : TxId) (now : ℤ) (gs : List (List Write)) → sum_by (λ q. length (records_put q)) (map (prepares_of id now) gs) ≡ length (ungrouped gs)
puts_of_groups id now [] = refl
puts_of_groups id now (g ∷ gs) =
    omega (arith, sum_by-cons (λ q. length (records_put q)) (prepares_of id now g) (map (prepares_of id now) gs), ap length (records_of_group id now g), length-map g (λ w. prepared_record w id now), puts_of_groups id now gs, length-append g (ungrouped gs))

-- the first groups were prepared
puts_first : (p : Work) (i : ℕ) (calls : List StoreCall) → HasPut p i calls → puts_prepared p.id calls ≡ writes_before p i
puts_first p i calls put =
    puts_by_request (prepares_in p.id calls) ∙ ap (sum_by (λ q. length (records_put q))) (put ∙ take-map (prepares_of p.id p.now) i (grouped p.writes)) ∙ puts_of_groups p.id p.now (take i (grouped p.writes))

module _ (p : Work) (calls : List StoreCall) (all : AllPut p calls) where
  groups_put : length (prepares_in p.id calls) ≡ groups_of p
  groups_put = sym (length-map (prepares_in p.id calls) (λ (m : StoreCall). m.request)) ∙ ap length all ∙ length-map (grouped p.writes) (prepares_of p.id p.now)

  writes_put : puts_prepared p.id calls ≡ length p.writes
  writes_put = puts_by_request (prepares_in p.id calls) ∙ ap (sum_by (λ q. length (records_put q))) all ∙ puts_of_groups p.id p.now (grouped p.writes) ∙ in_groups_length p.writes

  checks_are : (read_set : List ReadItem) → ReadItemsAre read_set p.reads p.scans → checks_by read_set p.id calls ≡ length (checks p)
  checks_are read_set as_read =
      sum (count_by (is_checked_get (prepares_in p.id calls)) read_set) (length (filter (λ r. not (is_written p.writes r.key)) p.reads)) (count_by is_scan read_set) (length p.scans) (length (checks p)) gets as_read.scans (checks_long p)
    where
      gets : count_by (is_checked_get (prepares_in p.id calls)) read_set ≡ length (filter (λ r. not (is_written p.writes r.key)) p.reads)
      gets = sym (length-filter (is_checked_get (prepares_in p.id calls)) read_set) ∙ gets_are (prepares_in p.id calls) read_set ∙ ap (λ ks. length (filter (is_unput (prepares_in p.id calls)) ks)) as_read.reads ∙ unput_is p calls all p.reads

      sum : (g h s t c : ℕ) → g ≡ h → s ≡ t → c ≡ h + t → g + s ≡ c
      sum g h s t c f k l = omega (arith, f, k, l)

-- Where all groups were prepared that is two calls for each, and one for each check.
wanted_is : (read_set : List ReadItem) (p : Work) (calls : List StoreCall) → ReadItemsAre read_set p.reads p.scans → AllPut p calls → wanted_by read_set p.id calls ≡ 2 * groups_of p + length (checks p)
wanted_is read_set p calls as_read all = sum (length (prepares_in p.id calls)) (groups_of p) (checks_by read_set p.id calls) (length (checks p)) (groups_put p calls all) (checks_are p calls all read_set as_read)
  where
    sum : (a g x c : ℕ) → a ≡ g → x ≡ c → 2 * a + x ≡ 2 * g + c
    sum a g x c e f = omega (arith, e, f)

-- at most it is one call for each group, one for each write, and one for each check
allowed_is : (read_set : List ReadItem) (p : Work) (calls : List StoreCall) → ReadItemsAre read_set p.reads p.scans → AllPut p calls → allowed_by read_set p.id calls ≡ groups_of p + (length p.writes + length (checks p))
allowed_is read_set p calls as_read all =
    sum (length (prepares_in p.id calls)) (groups_of p) (puts_prepared p.id calls) (length p.writes) (checks_by read_set p.id calls) (length (checks p)) (groups_put p calls all) (writes_put p calls all) (checks_are p calls all read_set as_read)
  where
    sum : (a g u w x c : ℕ) → a ≡ g → u ≡ w → x ≡ c → a + (u + x) ≡ g + (w + c)
    sum a g u w x c e f k = omega (arith, e, f, k)

---- what prepares

-- a put of a committed record prepares none
forward_unprepared : (id : TxId) (r : Record) (now : ℤ) (c : Condition) → prepares id (ask.PutIf (forward_record r now) c) ≡ false
unfolding forward_record
forward_unprepared id r now c = ap (λ t. t || is_version id state.Deleted (forward_record r now)) (one state.Prepared refl) ∙ one state.Deleted refl
  where
    none : (b : Bool) → (b && false) ≡ false
    none true = refl
    none false = refl

    one : (s : State) → has_value (Some (value.Int (state_number state.Committed))) (value.Int (state_number s)) ≡ false → is_version id s (forward_record r now) ≡ false
    one s n = ap (λ o. has_value (column (forward_record r now).columns tx_id) (value.Text (id_text id.0)) && has_value o (value.Int (state_number s))) (forward-state r.columns now) ∙ ap (λ t. has_value (column (forward_record r now).columns tx_id) (value.Text (id_text id.0)) && t) n ∙ none (has_value (column (forward_record r now).columns tx_id) (value.Text (id_text id.0)))

forwards_unprepared : (id : TxId) (now : ℤ) (g : List Write) → prepares id (forwards_of id now g) ≡ false
forwards_unprepared id now [] = refl
forwards_unprepared id now (w ∷ []) = forward_unprepared id (prepared_record w id now) now (work.is_as_prepared id w)
forwards_unprepared id now (v ∷ w ∷ ws) = none (v ∷ w ∷ ws)
  where
    none : (xs : List Write) → any_of (is_prepared_record id) (map (λ (x : Record × Condition). x.0) (map (λ (u : Put). (u.rec, u.condition)) (map (forward_of id now) xs))) ≡ false
    none [] = refl
    none (x ∷ []) = forward_unprepared id (prepared_record x id now) now (work.is_as_prepared id x)
    none (x ∷ y ∷ ys) =
        ap (λ b. b || any_of (is_prepared_record id) (map (λ (z : Record × Condition). z.0) (map (λ (u : Put). (u.rec, u.condition)) (map (forward_of id now) (y ∷ ys))))) (forward_unprepared id (prepared_record x id now) now (work.is_as_prepared id x))
        ∙ none (y ∷ ys)

-- a group is prepared
pub group_prepares : (id : TxId) (now : ℤ) (g : List Write) → 0 < length g → prepares id (prepares_of id now g) ≡ true
group_prepares id now [] some = absurd (omega (arith, some))
group_prepares id now (w ∷ ws) some = ap (any_of (is_prepared_record id)) (records_of_group id now (w ∷ ws)) ∙ any_at (is_prepared_record id) (map (λ (x : Write). prepared_record x id now) (w ∷ ws)) 0 (prepared_record w id now) refl (prepared_is id now w)

checks_unprepared : (p : Work) → AllByRecursion (λ c. prepares p.id c.request ≡ false) (checks p)
checks_unprepared p =
    each_append (λ (c : Check). prepares p.id c.request ≡ false) (map check_of_read (filter (λ r. not (is_written p.writes r.key)) p.reads)) (map (check_of_scan p.writes) p.scans)
    (each_map (λ (c : Check). prepares p.id c.request ≡ false) check_of_read (filter (λ r. not (is_written p.writes r.key)) p.reads) (reads (filter (λ r. not (is_written p.writes r.key)) p.reads)))
    (each_map (λ (c : Check). prepares p.id c.request ≡ false) (check_of_scan p.writes) p.scans (scans p.scans))
  where
    reads : (xs : List Read) → AllByRecursion (λ r. prepares p.id (check_of_read r).request ≡ false) xs
    reads [] = tt
    reads (x ∷ xs) = (refl, reads xs)

    scans : (xs : List Scan) → AllByRecursion (λ s. prepares p.id (check_of_scan p.writes s).request ≡ false) xs
    scans [] = tt
    scans (x ∷ xs) = (refl, scans xs)

decide_unprepared : (id : TxId) (now : ℤ) (d : DecidePhase) (q : Request) → decide_request_at id now d ≡ Some q → prepares id q ≡ false
unfolding coordinator_row_of
decide_unprepared id now phase.Put q e = sym (ap (prepares id) (some_is (decide_of id now) q e))
decide_unprepared id now phase.Look q e = sym (ap (prepares id) (some_is (look_of id) q e))
decide_unprepared id now phase.Abort q e = sym (ap (prepares id) (some_is (abort_of id now) q e))
decide_unprepared id now phase.Again q e = sym (ap (prepares id) (some_is (look_of id) q e))
decide_unprepared id now phase.Ended q e = none_some q e

one_zero : ◌≡◌ {A = ℕ} 1 0 → ⊥
one_zero e = absurd (omega (arith, e))

two_zero : ◌≡◌ {A = ℕ} 2 0 → ⊥
two_zero e = absurd (omega (arith, e))

---- one call more

module _ (read_set : List ReadItem) (p : Work) (as_read : ReadItemsAre read_set p.reads p.scans) (valid : AllByRecursion IsWrite p.writes) (calls : List StoreCall) (m : StoreCall) where
  abbrev more : List StoreCall
  more = calls ++ m ∷ []

  -- a call that prepares none
  put_same : prepares p.id m.request ≡ false → prepares_in p.id more ≡ prepares_in p.id calls
  put_same f = filter-append (λ (x : StoreCall). prepares p.id x.request) calls (m ∷ []) ∙ ap (λ b. prepares_in p.id calls ++ (if b then m ∷ [] else [])) f ∙ append-nil (prepares_in p.id calls)

  all_same : AllPut p calls → prepares p.id m.request ≡ false → AllPut p more
  all_same all f = ap (map (λ (x : StoreCall). x.request)) (put_same f) ∙ all

  allowed_same : prepares p.id m.request ≡ false → allowed_by read_set p.id more ≡ allowed_by read_set p.id calls
  allowed_same f = ap (λ (ms : List StoreCall). length ms + (sum_by (λ (x : StoreCall). length (records_put x.request)) ms + (count_by (is_checked_get ms) read_set + count_by is_scan read_set))) (put_same f)

  -- a prepare
  put_one : prepares p.id m.request ≡ true → prepares_in p.id more ≡ prepares_in p.id calls ++ m ∷ []
  put_one t = filter-append (λ (x : StoreCall). prepares p.id x.request) calls (m ∷ []) ∙ ap (λ b. prepares_in p.id calls ++ (if b then m ∷ [] else [])) t

  faulted_front : (xs : List StoreCall) → NoneFaulted (xs ++ m ∷ []) → NoneFaulted xs
  faulted_front [] h = tt
  faulted_front (x ∷ xs) h = (h.0, faulted_front xs h.1)

  faulted_last : (xs : List StoreCall) → NoneFaulted (xs ++ m ∷ []) → is_fault m.reply ≡ false
  faulted_last [] h = h.0
  faulted_last (x ∷ xs) h = faulted_last xs h.1

  ---- where it stops, and where it goes on

  stopping_at : (a : Outcome) (n : ℕ) → (a ≢ outcome.Committed) → length more + (1 + n) ≤ allowed_by read_set p.id more + 4 → CommitCounted read_set p more (Stopping a n)
  stopping_at a n other l = (other, l)

  over_at : (a : Outcome) → (a ≢ outcome.Committed) → length more ≤ allowed_by read_set p.id more + 4 → CommitCounted read_set p more (Over a)
  over_at a other l = (l, λ e. absurd (other e))

  back_at : (a : Outcome) (n i : ℕ) → (a ≢ outcome.Committed) → i ≤ n → length more + n ≤ allowed_by read_set p.id more + 4 + i → CommitCounted read_set p more (back a n i)
  back_at a n i other within l = by (nat_lt i n) refl
    where
      below : (i n : ℕ) → nat_lt i n ≡ true → i < n
      below i n e = grind (arith, nat_tests)

      past : (i n a b : ℕ) → nat_lt i n ≡ false → i ≤ n → a + n ≤ b + i → a ≤ b
      past i n a b e l k = let f : n ≤ i = least i n e in omega arith
        where
          least : (i n : ℕ) → nat_lt i n ≡ false → n ≤ i
          least i n e = grind (arith, nat_tests)

      by : (b : Bool) → nat_lt i n ≡ b → CommitCounted read_set p more (if b then Back a n i else Over a)
      by true e = (below i n e, other, l)
      by false e = over_at a other (past i n (length more) (allowed_by read_set p.id more + 4) e within l)

  forward_at : (i : ℕ) → AllPut p more → i ≤ groups_of p → length more ≤ later_by p 4 + i → (NoneFaulted more → length more ≡ later_by p 1 + i) → CommitCounted read_set p more (forward p i)
  forward_at i all within l exact = by (nat_lt i (groups_of p)) refl
    where
      below : (i n : ℕ) → nat_lt i n ≡ true → i < n
      below i n e = grind (arith, nat_tests)

      at_end : (i n : ℕ) → nat_lt i n ≡ false → i ≤ n → i ≡ n
      at_end i n e l = grind (arith, nat_tests)

      most : (i g w c a x : ℕ) → i ≡ g → g ≤ w → x ≡ g + (w + c) → a ≤ g + c + 4 + i → a ≤ x + 4
      most i g w c a x e few f k = omega (arith, e, few, f, k)

      just : (i g c a x : ℕ) → i ≡ g → x ≡ 2 * g + c → a ≡ g + c + 1 + i → a ≡ x + 1
      just i g c a x e f k = omega (arith, e, f, k)

      by : (b : Bool) → nat_lt i (groups_of p) ≡ b → CommitCounted read_set p more (if b then Forward i else Over outcome.Committed)
      by true e = (all, below i (groups_of p) e, l, exact)
      by false e =
          let i_is : i ≡ groups_of p = at_end i (groups_of p) e within in (
            most i (groups_of p) (length p.writes) (length (checks p)) (length more) (allowed_by read_set p.id more) i_is (few_groups p) (allowed_is read_set p more as_read all) l,
            λ k n. just i (groups_of p) (length (checks p)) (length more) (wanted_by read_set p.id more) i_is (wanted_is read_set p more as_read all) (exact n),
          )

  checking_at : (i : ℕ) → AllPut p more → i ≤ length (checks p) → length more ≡ groups_of p + i → CommitCounted read_set p more (checking p i)
  checking_at i all within e = by (nat_lt i (length (checks p))) refl
    where
      below : (i n : ℕ) → nat_lt i n ≡ true → i < n
      below i n k = grind (arith, nat_tests)

      at_end : (i n : ℕ) → nat_lt i n ≡ false → i ≤ n → i ≡ n
      at_end i n k l = grind (arith, nat_tests)

      plus : (a w i c : ℕ) → a ≡ w + i → i ≡ c → a ≡ w + c + 0
      plus a w i c f k = omega (arith, f, k)

      by : (b : Bool) → nat_lt i (length (checks p)) ≡ b → CommitCounted read_set p more (if b then Checking i else Deciding phase.Put)
      by true k = (all, below i (length (checks p)) k, e)
      by false k = (all, plus (length more) (groups_of p) i (length (checks p)) e (at_end i (length (checks p)) k within), λ n. refl)

  -- so many calls are within what it is to make at most
  all_fit : (n : ℕ) → AllPut p more → n ≤ groups_of p + (length p.writes + length (checks p)) + 4 → n ≤ allowed_by read_set p.id more + 4
  all_fit n all l = by (allowed_by read_set p.id more) (groups_of p + (length p.writes + length (checks p))) (allowed_is read_set p more as_read all) l
    where
      by : (x y : ℕ) → x ≡ y → n ≤ y + 4 → n ≤ x + 4
      by x y e k = omega (arith, e, k)

  ---- a prepare

  module _ (i : ℕ) (asked : slice_get (work.prepares p) i ≡ Some m.request) (long : length calls ≡ i) (puts : length (prepares_in p.id calls) ≡ i) (put : HasPut p i calls) where
    is_put : prepares p.id m.request ≡ true
    is_put =
        let r = mapped_at (prepares_of p.id p.now) (grouped p.writes) i m.request asked in
        sym (ap (prepares p.id) r.2) ∙ group_prepares p.id p.now r.0 (each_at IsGroup (grouped p.writes) i r.0 (each_group p.writes) r.1).some

    has_put : HasPut p (i + 1) more
    has_put = ap (map (λ (x : StoreCall). x.request)) (put_one is_put) ∙ map_more (λ (x : StoreCall). x.request) (prepares_in p.id calls) (m ∷ []) ∙ ap (λ qs. qs ++ m.request ∷ []) put ∙ sym (take_more (work.prepares p) i m.request asked)

    long_now : length more ≡ i + 1
    long_now = calls_more calls m ∙ ap (λ n. n + 1) long

    puts_now : length (prepares_in p.id more) ≡ i + 1
    puts_now = ap length (put_one is_put) ∙ length-append (prepares_in p.id calls) (m ∷ []) ∙ ap (λ n. n + 1) puts

    stops : (a : Outcome) (n : ℕ) → (a ≢ outcome.Committed) → n ≤ writes_before p (i + 1) → CommitCounted read_set p more (Stopping a n)
    stops a n other l = (other, by (length more) (length (prepares_in p.id more)) (puts_prepared p.id more) (checks_by read_set p.id more) (writes_before p (i + 1)) long_now puts_now (puts_first p (i + 1) more has_put) l)
      where
        by : (x y u z k : ℕ) → x ≡ i + 1 → y ≡ i + 1 → u ≡ k → n ≤ k → x + (1 + n) ≤ y + (u + z) + 4
        by x y u z k e f g h = omega (arith, e, f, g, h)

    i_below : i < groups_of p
    i_below = subst (λ n. i < n) (length-map (grouped p.writes) (prepares_of p.id p.now)) (slice_get_within (work.prepares p) i m.request asked)

    touched : (r : Reply) → touched_after (slice_get (work.prepares p) i) (writes_before p i) r ≤ writes_before p (i + 1)
    touched r = by r
      where
        all_of : writes_before p i + puts_of (slice_get (work.prepares p) i) ≤ writes_before p (i + 1)
        all_of = same (writes_before p i + puts_of (slice_get (work.prepares p) i)) (writes_before p (i + 1)) (writes_more p i i_below)
          where
            same : (a b : ℕ) → a ≡ b → a ≤ b
            same a b e = omega (arith, e)

        none_of : writes_before p i ≤ writes_before p (i + 1)
        none_of = less (writes_before p i) (puts_of (slice_get (work.prepares p) i)) (writes_before p (i + 1)) (writes_more p i i_below)
          where
            less : (a b c : ℕ) → a + b ≡ c → a ≤ c
            less a b c e = omega (arith, e)

        by : (r : Reply) → touched_after (slice_get (work.prepares p) i) (writes_before p i) r ≤ writes_before p (i + 1)
        by reply.Applied = all_of
        by (reply.NotMet found) = none_of
        by (reply.Found found) = none_of
        by (reply.Rows rows) = none_of
        by (reply.NotAll place there) = none_of
        by reply.Fault = all_of
        by reply.NoMemory = none_of

    all_put : nat_lt (i + 1) (groups_of p) ≡ false → AllPut p more
    all_put f = has_put ∙ take_all (i + 1) (work.prepares p) (by (length (work.prepares p)) (groups_of p) (length-map (grouped p.writes) (prepares_of p.id p.now)) (least (groups_of p) f))
      where
        least : (n : ℕ) → nat_lt (i + 1) n ≡ false → n ≤ i + 1
        least n e = grind (arith, nat_tests)

        by : (x y : ℕ) → x ≡ y → y ≤ i + 1 → x ≤ i + 1
        by x y e k = omega (arith, e, k)

    all_long : nat_lt (i + 1) (groups_of p) ≡ false → length more ≡ groups_of p + 0
    all_long f = by (length more) (groups_of p) long_now (least (groups_of p) f) i_below
      where
        least : (n : ℕ) → nat_lt (i + 1) n ≡ false → n ≤ i + 1
        least n e = grind (arith, nat_tests)

        by : (x n : ℕ) → x ≡ i + 1 → n ≤ i + 1 → i < n → x ≡ n + 0
        by x n e k l = omega (arith, e, k, l)

    refused_put : (n : ℕ) (o : Option Put) (found : Option Record) → n ≤ writes_before p (i + 1) → CommitCounted read_set p more (after_prepare p i n (option_map_or (λ (u : Put). step_prepare.Conflict u.rec.key found) o step_prepare.NoMemory))
    refused_put n None found l = stops outcome.NoMemory n (λ e. cc) l
    refused_put n (Some u) found l = stops (outcome.Conflict u.rec.key found) n (λ e. cc) l

    refused_counted : (n : ℕ) (o : Option Request) (k : ℕ) (found : Option Record) → n ≤ writes_before p (i + 1) → CommitCounted read_set p more (after_prepare p i n (refused o k found))
    refused_counted n None k found l = stops outcome.NoMemory n (λ e. cc) l
    refused_counted n (Some (ask.PutIf rec c)) k found l = stops (outcome.Conflict rec.key found) n (λ e. cc) l
    refused_counted n (Some (ask.Get key)) k found l = stops outcome.NoMemory n (λ e. cc) l
    refused_counted n (Some (ask.Scan span)) k found l = stops outcome.NoMemory n (λ e. cc) l
    refused_counted n (Some (ask.DeleteIf key c)) k found l = stops outcome.NoMemory n (λ e. cc) l
    refused_counted n (Some (ask.PutAll batch)) k found l = refused_put n (put_at batch k) found l

    prepared_counted : (b : Bool) (n : ℕ) (o : Option Request) (r : Reply) → nat_lt (i + 1) (groups_of p) ≡ b → n ≤ writes_before p (i + 1) → CommitCounted read_set p more (after_prepare p i n (prepare_step b o r))
    prepared_counted true n o reply.Applied e l = (long_now, puts_now, has_put)
    prepared_counted false n o reply.Applied e l = checking_at 0 (all_put e) (omega arith) (all_long e)
    prepared_counted b n o (reply.NotMet found) e l = refused_counted n o 1 found l
    prepared_counted b n o reply.Fault e l = stops outcome.Faulted n (λ z. cc) l
    prepared_counted b n o (reply.Found found) e l = stops outcome.NoMemory n (λ z. cc) l
    prepared_counted b n o (reply.Rows rows) e l = stops outcome.NoMemory n (λ z. cc) l
    prepared_counted b n o (reply.NotAll place there) e l = refused_counted n o place there l
    prepared_counted b n o reply.NoMemory e l = stops outcome.NoMemory n (λ z. cc) l

  ---- a check

  module _ (i : ℕ) (all : AllPut p more) (within : i < length (checks p)) (long : length calls ≡ groups_of p + i) where
    long_then : length more ≡ groups_of p + (i + 1)
    long_then = by (length calls) (length more) (groups_of p) (calls_more calls m) long
      where
        by : (x y w : ℕ) → y ≡ x + 1 → x ≡ w + i → y ≡ w + (i + 1)
        by x y w e f = omega (arith, e, f)

    stops_check : (a : Outcome) → (a ≢ outcome.Committed) → CommitCounted read_set p more (Stopping a (length p.writes))
    stops_check a other = (other, all_fit (length more + (1 + length p.writes)) all (by (length more) (groups_of p) (length p.writes) (length (checks p)) long_then within))
      where
        by : (x g w c : ℕ) → x ≡ g + (i + 1) → i < c → x + (1 + w) ≤ g + (w + c) + 4
        by x g w c e l = omega (arith, e, l)

    judged_counted : (b : Bool) (o : Option (Key × Option Record)) → nat_lt (i + 1) (length (checks p)) ≡ b → CommitCounted read_set p more (after_check p i (judged b o))
    judged_counted true None e = (all, below (length (checks p)) e, long_then)
      where
        below : (n : ℕ) → nat_lt (i + 1) n ≡ true → i + 1 < n
        below n k = grind (arith, nat_tests)
    judged_counted false None e = (all, by (length more) (groups_of p) (length (checks p)) long_then (least (length (checks p)) e) within, λ n. refl)
      where
        least : (n : ℕ) → nat_lt (i + 1) n ≡ false → n ≤ i + 1
        least n k = grind (arith, nat_tests)

        by : (x w c : ℕ) → x ≡ w + (i + 1) → c ≤ i + 1 → i < c → x ≡ w + c + 0
        by x w c f k l = omega (arith, f, k, l)
    judged_counted b (Some d) e = stops_check (outcome.Conflict d.0 d.1) (λ z. cc)

    checked_counted : (b : Bool) (o : Option Check) (r : Reply) → nat_lt (i + 1) (length (checks p)) ≡ b → CommitCounted read_set p more (after_check p i (validate_step b o r))
    checked_counted b o reply.Fault e = stops_check outcome.Faulted (λ z. cc)
    checked_counted b o reply.NoMemory e = stops_check outcome.NoMemory (λ z. cc)
    checked_counted b None reply.Applied e = stops_check outcome.NoMemory (λ z. cc)
    checked_counted b None (reply.NotMet found) e = stops_check outcome.NoMemory (λ z. cc)
    checked_counted b None (reply.Found found) e = stops_check outcome.NoMemory (λ z. cc)
    checked_counted b None (reply.Rows rows) e = stops_check outcome.NoMemory (λ z. cc)
    checked_counted b None (reply.NotAll place there) e = stops_check outcome.NoMemory (λ z. cc)
    checked_counted b (Some c) reply.Applied e = judged_counted b (difference_in c reply.Applied) e
    checked_counted b (Some c) (reply.NotMet found) e = judged_counted b (difference_in c (reply.NotMet found)) e
    checked_counted b (Some c) (reply.Found found) e = judged_counted b (difference_in c (reply.Found found)) e
    checked_counted b (Some c) (reply.Rows rows) e = judged_counted b (difference_in c (reply.Rows rows)) e
    checked_counted b (Some c) (reply.NotAll place there) e = judged_counted b (difference_in c (reply.NotAll place there)) e

  ---- the decision

  module _ (k : ℕ) (few : k ≤ 3) (all : AllPut p more) (long : length calls ≡ later_by p k) (first : NoneFaulted calls → k ≡ 0) where
    then_long : length more ≡ later_by p (k + 1)
    then_long = by (length calls) (length more) (groups_of p + length (checks p)) (calls_more calls m) long
      where
        by : (x y w : ℕ) → y ≡ x + 1 → x ≡ w + k → y ≡ w + (k + 1)
        by x y w e f = omega (arith, e, f)

    won : CommitCounted read_set p more (forward p 0)
    won = forward_at 0 all (omega arith) (most (length more) (groups_of p + length (checks p)) then_long) (λ n. just (length more) (groups_of p + length (checks p)) then_long (first (faulted_front calls n)))
      where
        most : (x w : ℕ) → x ≡ w + (k + 1) → x ≤ w + 4 + 0
        most x w e = omega (arith, e, few)

        just : (x w : ℕ) → x ≡ w + (k + 1) → k ≡ 0 → x ≡ w + 1 + 0
        just x w e f = omega (arith, e, f)

    lost : (a : Outcome) → (a ≢ outcome.Committed) → CommitCounted read_set p more (back a (length p.writes) 0)
    lost a other = back_at a (length p.writes) 0 other (omega arith) (plain (length more + length p.writes) (allowed_by read_set p.id more + 4) (all_fit (length more + length p.writes) all (by (length more) (groups_of p) (length p.writes) (length (checks p)) then_long)))
      where
        by : (x g w c : ℕ) → x ≡ g + c + (k + 1) → x + w ≤ g + (w + c) + 4
        by x g w c e = omega (arith, e, few)

        plain : (x y : ℕ) → x ≤ y → x ≤ y + 0
        plain x y l = omega (arith, l)

    over : (a : Outcome) → (a ≢ outcome.Committed) → CommitCounted read_set p more (Over a)
    over a other = over_at a other (all_fit (length more) all (by (length more) (groups_of p) (length p.writes) (length (checks p)) then_long))
      where
        by : (x g w c : ℕ) → x ≡ g + c + (k + 1) → x ≤ g + (w + c) + 4
        by x g w c e = omega (arith, e, few)

    -- by a row, which says COMMITTED, or ABORTED, for which that is what it comes to
    row_counted : (aborted : DecideStep) (o : Result Decided (List ℕ)) → CommitCounted read_set p more (after_decide p phase.Ended aborted) → CommitCounted read_set p more (after_decide p phase.Ended (step_of_row p.id aborted o))
    row_counted aborted (Err column) h = over (outcome.BadRecord (coordinator_key_of p.id)) (λ e. cc)
    row_counted aborted (Ok d) h = elim d.decision as (λ x. CommitCounted read_set p more (after_decide p phase.Ended (elim x [ decision.Committed ↦ decide.Committed | decision.Aborted ↦ aborted ]))) [ decision.Committed ↦ won | decision.Aborted ↦ h ]

    expired : CommitCounted read_set p more (after_decide p phase.Ended (decide.Expired p.id))
    expired = lost (outcome.Expired p.id) (λ e. cc)

    unknown : CommitCounted read_set p more (after_decide p phase.Ended (decide.Unknown p.id))
    unknown = over (outcome.Unknown p.id) (λ e. cc)

    -- where the next call of the decision is pending
    further : (d : DecidePhase) → decides d ≡ k + 1 → (NoneFaulted more → ⊥) → CommitCounted read_set p more (Deciding d)
    further d e none = (all, then_long ∙ ap (later_by p) (sym e), λ n. absurd (none n))

  -- out of memory at the first call of the decision
  starved_counted : AllPut p more → length calls ≡ later_by p 0 → CommitCounted read_set p more (Stopping outcome.NoMemory (length p.writes))
  starved_counted all long = ((λ e. cc), all_fit (length more + (1 + length p.writes)) all (by (length calls) (length more) (groups_of p) (length p.writes) (length (checks p)) (calls_more calls m) long))
    where
      by : (x y g w c : ℕ) → y ≡ x + 1 → x ≡ g + c + 0 → y + (1 + w) ≤ g + (w + c) + 4
      by x y g w c e f = omega (arith, e, f)

  few_decides : (d : DecidePhase) → decides d ≤ 3
  few_decides phase.Put = omega arith
  few_decides phase.Look = omega arith
  few_decides phase.Abort = omega arith
  few_decides phase.Again = omega arith
  few_decides phase.Ended = omega arith

  -- a call of the decision
  decided_counted : (d : DecidePhase) → AllPut p more → length calls ≡ later_by p (decides d) → (NoneFaulted calls → decides d ≡ 0) → CommitCounted read_set p more (decided p (decide_next p.id d m.reply))
  decided_counted d all long first =
      by_rows p.id (λ d r n. length calls ≡ later_by p (decides d) → (NoneFaulted calls → decides d ≡ 0) → m.reply ≡ r → CommitCounted read_set p more (decided p n))
      (record {
        put_applied = λ long first e. won 0 (omega arith) all long first;
        put_row = λ row long first e. row_counted 0 (omega arith) all long first (decide.Expired p.id) (decision_in row) (expired 0 (omega arith) all long first);
        put_fault = λ long first e. further 0 (omega arith) all long first phase.Look refl (λ n. clash (sym (ap is_fault e) ∙ faulted_last calls n));
        no_memory = λ r long first e. starved_counted all long;
        look_none = λ long first e. further 1 (omega arith) all long first phase.Abort refl (λ n. absurd (one_zero (first (faulted_front calls n))));
        look_row = λ row long first e. row_counted 1 (omega arith) all long first (decide.Expired p.id) (decision_in row) (expired 1 (omega arith) all long first);
        abort_applied = λ long first e. lost 2 (omega arith) all long first outcome.Faulted (λ e. cc);
        abort_row = λ row long first e. row_counted 2 (omega arith) all long first (decide.Expired p.id) (decision_in row) (expired 2 (omega arith) all long first);
        abort_fault = λ long first e. further 2 (omega arith) all long first phase.Again refl (λ n. absurd (two_zero (first (faulted_front calls n))));
        again_row = λ row long first e. row_counted 3 (omega arith) all long first decide.Faulted (decision_in row) (lost 3 (omega arith) all long first outcome.Faulted (λ e. cc));
        unknown = λ d r long first e. unknown (decides d) (few_decides d) all long first;
      }) d m.reply long first refl

  ---- rolls

  ended_abort : (a : Outcome) (n : ℕ) (r : Reply) → (a ≢ outcome.Committed) → length more + n ≤ allowed_by read_set p.id more + 4 → CommitCounted read_set p more (after_abort a n r)
  ended_abort a n r other l = by r
    where
      fewer : (x w : ℕ) → x + n ≤ w → x ≤ w
      fewer x w k = omega (arith, k)

      plain : (x w : ℕ) → x + n ≤ w → x + n ≤ w + 0
      plain x w k = omega (arith, k)

      over_now : CommitCounted read_set p more (Over a)
      over_now = over_at a other (fewer (length more) (allowed_by read_set p.id more + 4) l)

      back_now : CommitCounted read_set p more (back a n 0)
      back_now = back_at a n 0 other (omega arith) (plain (length more) (allowed_by read_set p.id more + 4) l)

      by : (z : Reply) → CommitCounted read_set p more (after_abort a n z)
      by reply.Applied = back_now
      by (reply.NotMet found) = back_now
      by (reply.Found found) = over_now
      by (reply.Rows rows) = over_now
      by (reply.NotAll place there) = over_now
      by reply.Fault = over_now
      by reply.NoMemory = over_now

  back_unprepared : (i : ℕ) → slice_get (backs p) i ≡ Some m.request → prepares p.id m.request ≡ false
  back_unprepared i e =
      let r = mapped_at (back_of p.id) (in_groups p.writes) i m.request e in
      let is : IsWrite r.0 = each_at IsWrite (in_groups p.writes) i r.0 (all_in_groups IsWrite p.writes valid) r.1 in
      sym (ap (prepares p.id) r.2) ∙ undo_unprepared p.id r.0.key r.0.base (work.is_as_prepared p.id r.0) is.base

  forward_unput : (i : ℕ) → slice_get (forwards p) i ≡ Some m.request → prepares p.id m.request ≡ false
  forward_unput i e =
      let r = mapped_at (forwards_of p.id p.now) (grouped p.writes) i m.request e in sym (ap (prepares p.id) r.2) ∙ forwards_unprepared p.id p.now r.0

  check_unput : (i : ℕ) → option_map (λ c. c.request) (slice_get (checks p) i) ≡ Some m.request → prepares p.id m.request ≡ false
  check_unput i e = by (slice_get (checks p) i) refl e
    where
      by : (o : Option Check) → slice_get (checks p) i ≡ o → option_map (λ c. c.request) o ≡ Some m.request → prepares p.id m.request ≡ false
      by None k h = none_some m.request h
      by (Some c) k h = sym (ap (prepares p.id) (some_is c.request m.request h)) ∙ each_at (λ (c : Check). prepares p.id c.request ≡ false) (checks p) i c (checks_unprepared p) k

  pub commit_more : (s : Stage) → CommitCounted read_set p calls s → pending p s ≡ Some m.request → CommitCounted read_set p more (step p s m.reply)
  commit_more (Preparing i) h e = prepared_counted i e h.0 h.1 h.2 (nat_lt (i + 1) (groups_of p)) (touched_after (slice_get (work.prepares p) i) (writes_before p i) m.reply) (slice_get (work.prepares p) i) m.reply refl (touched i e h.0 h.1 h.2 m.reply)
  commit_more (Checking i) h e = checked_counted i (all_same h.0 (check_unput i e)) h.1 h.2 (nat_lt (i + 1) (length (checks p))) (slice_get (checks p) i) m.reply refl
  commit_more (Deciding d) h e = decided_counted d (all_same h.0 (decide_unprepared p.id p.now d m.request e)) h.1 h.2
  commit_more (Forward i) h e = forward_at (i + 1) (all_same h.0 (forward_unput i e)) (up i (groups_of p) h.1) (most (length calls) (length more) (later_by p 4) (calls_more calls m) h.2) (λ n. just (length calls) (length more) (later_by p 1) (calls_more calls m) (h.3 (faulted_front calls n)))
    where
      up : (i w : ℕ) → i < w → i + 1 ≤ w
      up i w l = omega (arith, l)

      most : (x y z : ℕ) → y ≡ x + 1 → x ≤ z + i → y ≤ z + (i + 1)
      most x y z k l = omega (arith, k, l)

      just : (x y z : ℕ) → y ≡ x + 1 → x ≡ z + i → y ≡ z + (i + 1)
      just x y z k l = omega (arith, k, l)
  commit_more (Stopping a n) h e =
      let same : allowed_by read_set p.id more ≡ allowed_by read_set p.id calls = allowed_same (sym (ap (prepares p.id) (some_is (abort_of p.id p.now) m.request e)) ∙ row_unprepared p.id p.now) in
      ended_abort a n m.reply h.0 (by (length calls) (length more) (allowed_by read_set p.id calls) (allowed_by read_set p.id more) (calls_more calls m) same h.1)
    where
      by : (x y z w : ℕ) → y ≡ x + 1 → w ≡ z → x + (1 + n) ≤ z + 4 → y + n ≤ w + 4
      by x y z w k l g = omega (arith, k, l, g)
  commit_more (Back a n i) h e =
      let same : allowed_by read_set p.id more ≡ allowed_by read_set p.id calls = allowed_same (back_unprepared i e) in
      back_at a n (i + 1) h.1 (up i n h.0) (by (length calls) (length more) (allowed_by read_set p.id calls) (allowed_by read_set p.id more) (calls_more calls m) same h.2)
    where
      up : (i w : ℕ) → i < w → i + 1 ≤ w
      up i w l = omega (arith, l)

      by : (x y z w : ℕ) → y ≡ x + 1 → w ≡ z → x + n ≤ z + 4 + i → y + n ≤ w + 4 + (i + 1)
      by x y z w k l g = omega (arith, k, l, g)
  commit_more (Over a) h e = none_some m.request e

---- where a COMMIT begins, and out of memory

starved_other : (a : Outcome) → (a ≢ outcome.Committed) → (out_of_memory_answer a ≢ outcome.Committed)
starved_other outcome.Committed other e = absurd (other refl)
starved_other (outcome.Conflict key found) other e = absurd (cc)
starved_other (outcome.Expired u) other e = other e
starved_other outcome.Faulted other e = other e
starved_other (outcome.Unknown u) other e = other e
starved_other (outcome.BadRecord key) other e = other e
starved_other outcome.NoMemory other e = other e

starved_won : (a : Outcome) → out_of_memory_answer a ≡ outcome.Committed → a ≡ outcome.Committed
starved_won outcome.Committed e = refl
starved_won (outcome.Conflict key found) e = absurd (cc)
starved_won (outcome.Expired u) e = e
starved_won outcome.Faulted e = e
starved_won (outcome.Unknown u) e = e
starved_won (outcome.BadRecord key) e = e
starved_won outcome.NoMemory e = e

pub commit_starved : (read_set : List ReadItem) (p : Work) (calls : List StoreCall) (s : Stage) → CommitCounted read_set p calls s → CommitCounted read_set p calls (out_of_memory s)
commit_starved read_set p calls (Preparing i) h = h
commit_starved read_set p calls (Checking i) h = h
commit_starved read_set p calls (Deciding d) h = h
commit_starved read_set p calls (Forward i) h = h
commit_starved read_set p calls (Stopping a n) h = (starved_other a h.0, h.1)
commit_starved read_set p calls (Back a n i) h = (h.0, starved_other a h.1, h.2)
commit_starved read_set p calls (Over a) h = (h.0, λ e. h.1 (starved_won a e))

pub commit_begins : (read_set : List ReadItem) (p : Work) → CommitCounted read_set p [] (preparing p 0)
commit_begins read_set p = by (nat_lt 0 (groups_of p)) refl (nat_lt 0 (length (checks p))) refl
  where
    empty : {X : Type 0} (xs : List X) → nat_lt 0 (length xs) ≡ false → xs ≡ []
    empty [] e = refl
    empty (x ∷ xs) e = absurd (some (length xs) e)
      where
        some : (n : ℕ) → nat_lt 0 (suc n) ≡ false → ⊥
        some n k = absurd (grind (arith, nat_tests))

    none : nat_lt 0 (groups_of p) ≡ false → AllPut p []
    none e = sym (ap (map (prepares_of p.id p.now)) (empty (grouped p.writes) e))

    both : nat_lt 0 (groups_of p) ≡ false → 0 ≡ groups_of p + 0
    both e = sum (groups_of p) (ap length (empty (grouped p.writes) e))
      where
        sum : (w : ℕ) → w ≡ 0 → 0 ≡ w + 0
        sum w k = omega (arith, k)

    all : nat_lt 0 (groups_of p) ≡ false → nat_lt 0 (length (checks p)) ≡ false → 0 ≡ later_by p 0
    all e f = sum (groups_of p) (length (checks p)) (ap length (empty (grouped p.writes) e)) (ap length (empty (checks p) f))
      where
        sum : (w c : ℕ) → w ≡ 0 → c ≡ 0 → 0 ≡ w + c + 0
        sum w c k l = omega (arith, k, l)

    below : (n : ℕ) → nat_lt 0 n ≡ true → 0 < n
    below n k = grind (arith, nat_tests)

    by : (a : Bool) → nat_lt 0 (groups_of p) ≡ a → (b : Bool) → nat_lt 0 (length (checks p)) ≡ b → CommitCounted read_set p [] (if a then Preparing 0 else (if b then Checking 0 else Deciding phase.Put))
    by true e b f = (refl, refl, refl)
    by false e true f = (none e, below (length (checks p)) f, both e)
    by false e false f = (none e, all e f, λ n. refl)

---- what follows

-- so far they are not more than it is to make at most
most_now : (read_set : List ReadItem) (p : Work) (calls : List StoreCall) (s : Stage) → ReadItemsAre read_set p.reads p.scans → CommitCounted read_set p calls s → length calls ≤ allowed_by read_set p.id calls + 4
most_now read_set p calls (Preparing i) as_read h = by (length calls) (length (prepares_in p.id calls)) (puts_prepared p.id calls + checks_by read_set p.id calls) i h.0 h.1
  where
    by : (x y z i : ℕ) → x ≡ i → y ≡ i → x ≤ y + z + 4
    by x y z i e f = omega (arith, e, f)
most_now read_set p calls (Checking i) as_read h = by (length calls) (groups_of p) (length p.writes) (length (checks p)) (allowed_by read_set p.id calls) i (allowed_is read_set p calls as_read h.0) h.1 h.2
  where
    by : (x g w c z i : ℕ) → z ≡ g + (w + c) → i < c → x ≡ g + i → x ≤ z + 4
    by x g w c z i e l f = omega (arith, e, l, f)
most_now read_set p calls (Deciding d) as_read h = by (length calls) (groups_of p) (length p.writes) (length (checks p)) (allowed_by read_set p.id calls) (decides d) (few d) (allowed_is read_set p calls as_read h.0) h.1
  where
    few : (x : DecidePhase) → decides x ≤ 3
    few phase.Put = omega arith
    few phase.Look = omega arith
    few phase.Abort = omega arith
    few phase.Again = omega arith
    few phase.Ended = omega arith

    by : (x g w c z k : ℕ) → k ≤ 3 → z ≡ g + (w + c) → x ≡ g + c + k → x ≤ z + 4
    by x g w c z k l e f = omega (arith, l, e, f)
most_now read_set p calls (Forward i) as_read h = by (length calls) (groups_of p) (length p.writes) (length (checks p)) (allowed_by read_set p.id calls) i (few_groups p) (allowed_is read_set p calls as_read h.0) h.1 h.2
  where
    by : (x g w c z i : ℕ) → g ≤ w → z ≡ g + (w + c) → i < g → x ≤ g + c + 4 + i → x ≤ z + 4
    by x g w c z i few e l f = omega (arith, few, e, l, f)
most_now read_set p calls (Stopping a n) as_read h = by (length calls) (allowed_by read_set p.id calls) h.1
  where
    by : (x z : ℕ) → x + (1 + n) ≤ z + 4 → x ≤ z + 4
    by x z l = omega (arith, l)
most_now read_set p calls (Back a n i) as_read h = by (length calls) (allowed_by read_set p.id calls) h.0 h.2
  where
    by : (x z : ℕ) → i < n → x + n ≤ z + 4 + i → x ≤ z + 4
    by x z l k = omega (arith, l, k)
most_now read_set p calls (Over a) as_read h = h.0

-- of one that waits
pub commit_so_far : (read_set : List ReadItem) (p : Work) (calls : List StoreCall) (s : Stage) → ReadItemsAre read_set p.reads p.scans → CommitCounted read_set p calls s → CommitIsCounted read_set p.id None calls
commit_so_far read_set p calls s as_read h = record { exact = λ e. none_some answer.Committed e; most = most_now read_set p calls s as_read h; starved = λ e. none_some answer.NoMemory e }

-- of one that is answered
pub commit_over : (read_set : List ReadItem) (p : Work) (calls : List StoreCall) (a : Outcome) → CommitCounted read_set p calls (Over a) → EndsBy p.id calls a → CommitIsCounted read_set p.id (Some (answer_of_outcome a)) calls
commit_over read_set p calls a h ends = record { exact = λ e. h.1 (won a e); most = h.0; starved = λ e. subst (EndsBy p.id calls) (out_of_memory a e) ends }
  where
    out_of_memory : (x : Outcome) → Some (answer_of_outcome x) ≡ Some answer.NoMemory → x ≡ outcome.NoMemory
    out_of_memory outcome.Committed e = absurd (cc)
    out_of_memory (outcome.Conflict key found) e = absurd (cc)
    out_of_memory (outcome.Expired u) e = absurd (cc)
    out_of_memory outcome.Faulted e = absurd (cc)
    out_of_memory (outcome.Unknown u) e = absurd (cc)
    out_of_memory (outcome.BadRecord key) e = absurd (cc)
    out_of_memory outcome.NoMemory e = refl

    won : (x : Outcome) → Some (answer_of_outcome x) ≡ Some answer.Committed → x ≡ outcome.Committed
    won outcome.Committed e = refl
    won (outcome.Conflict key found) e = absurd (cc)
    won (outcome.Expired u) e = absurd (cc)
    won outcome.Faulted e = absurd (cc)
    won (outcome.Unknown u) e = absurd (cc)
    won (outcome.BadRecord key) e = absurd (cc)
    won outcome.NoMemory e = absurd (cc)

-- of one that makes no call, and isn't answered Committed
pub commit_none : (read_set : List ReadItem) (id : TxId) (o : Option Answer) → (o ≢ Some answer.Committed) → CommitIsCounted read_set id o []
commit_none read_set id o other = record { exact = λ e. absurd (other e); most = few (allowed_by read_set id []); starved = λ e. tt }
  where
    few : (x : ℕ) → 0 ≤ x + 4
    few x = omega arith
