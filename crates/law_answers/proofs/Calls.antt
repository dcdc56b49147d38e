-- What a client said and did, and what the clock shows, as events come.
use Rattle.std.proofs.Common.{◌≡◌, ◌≤◌, ◌<◌, ◌+◌, ◌-◌, ◌==◌, ℕ, suc, pos, Bool, true, false, List, [], ◌∷◌, ◌++◌, length, Option, Some, None, refl, sym, ap, ◌∙◌, arith}
use Rattle.std.specs.Prelude.{if◌then◌else◌, filter, filter_map, fold, nat_le, nat_lt, ◌&&◌, is_some, Contains}
use Rattle.std.specs.List.{AllByRecursion, cons_option, enumerate_from}
use Rattle.std.proofs.lemmas.Bool.Decides.{nat_tests}
use Rattle.std.proofs.lemmas.List.{append-nil, take-append-le, take_all}
use Rattle.std.proofs.lemmas.List.Elements.{filter-append, filter_map-append}
use Rattle.std.proofs.lemmas.List.Sums.{fold-append}
use Rattle.law_answers.specs.Types.{Answer, Event, How, Reply, Request}
use Rattle.sdb_model.specs.declared.event.Event.TheVariants as event
use Rattle.sdb_model.specs.Rows.{Name}
use Rattle.sdb_model.specs.Calls.{StoreCall, calls_by, calls_of, clock_after, clock_at, end_of, made_by}
use Rattle.sdb_model.specs.Causes.{before}
use Rattle.sdb_model.specs.ReadSet.{has_finished, has_read}
use Rattle.sdb_model.specs.Transactions.{Executed, numbered, statements_by, with_answer}
use Rattle.law_clients.specs.History.{executed_with_answer, executed_of_take}
use Rattle.law_clients.proofs.Public.{answer_last, numbers_more, executed_more}
use Rattle.law_answers.proofs.Lists.{each_in, each_kept, filter_same, kept_in}
use Rattle.sdb_types.proofs.Public.{itself, length_more}

pub within_more : {A : Type 0} (n : ℕ) (xs : List A) (x : A) → n ≤ length xs → n ≤ length (xs ++ x ∷ [])
within_more n xs x l = let e : length (xs ++ x ∷ []) ≡ length xs + 1 = length_more xs x in omega arith

---- statements

pub call_executed : (c : ℕ) (events : List Event) (m : StoreCall) (a : Answer) (front : List Executed) (w : Executed) → statements_by c events ≡ front ++ w ∷ [] → statements_by c (events ++ event.Call c m.store m.request m.how m.reply (Some a) ∷ []) ≡ front ++ executed_with_answer events w a ∷ []
call_executed c events m a front w e =
    executed_more c events (event.Call c m.store m.request m.how m.reply (Some a))
    ∙ ap (λ t. if t then with_answer (statements_by c events) (1 + length events) a else statements_by c events) (itself c)
    ∙ ap (λ ss. with_answer ss (1 + length events) a) e
    ∙ answer_last front w (1 + length events) a

pub silent_executed : (c : ℕ) (events : List Event) (store : Name) (q : Request) (how : How) (r : Reply) → statements_by c (events ++ event.Call c store q how r None ∷ []) ≡ statements_by c events
silent_executed c events store q how r = executed_more c events (event.Call c store q how r None)

---- the events before a statement, and the clock

pub before_same : (s : Executed) (events : List Event) (e : Event) → s.accepted ≤ length events → before s (events ++ e ∷ []) ≡ before s events
before_same s events e l = take-append-le (s.accepted - 1) events (e ∷ []) (omega arith)

-- of one that is accepted they are all
pub before_taken : (events : List Event) (e : Event) (text : List ℕ) (a : Option Answer) → before (executed_of_take events text a) (events ++ e ∷ []) ≡ events
before_taken events e text a = take-append-le (1 + length events - 1) events (e ∷ []) (omega arith) ∙ take_all (1 + length events - 1) events (omega arith)

pub clock_same : (events : List Event) (e : Event) (n : ℕ) → n ≤ length events → clock_at (events ++ e ∷ []) n ≡ clock_at events n
clock_same events e n l = ap (fold clock_after (pos 0)) (take-append-le n events (e ∷ []) l)

pub clock_more : (events : List Event) (e : Event) → clock_at (events ++ e ∷ []) (length (events ++ e ∷ [])) ≡ clock_after (clock_at events (length events)) e
clock_more events e =
    ap (fold clock_after (pos 0)) (take_all (length (events ++ e ∷ [])) (events ++ e ∷ []) (omega arith))
    ∙ fold-append clock_after (pos 0) events (e ∷ [])
    ∙ ap (λ es. clock_after (fold clock_after (pos 0) es) e) (sym (take_all (length events) events (omega arith)))

---- calls

-- the calls of a client after an event
abbrev pub later_calls : List Event → ℕ → ℕ → List StoreCall
later_calls events c accepted = filter (λ m. nat_lt accepted m.at) (calls_by events c)

pub made_more : (c : ℕ) (events : List Event) (e : Event) → calls_by (events ++ e ∷ []) c ≡ calls_by events c ++ cons_option (made_by c (1 + length events, e)) []
made_more c events e = ap (filter_map (made_by c)) (numbers_more 1 events e) ∙ filter_map-append (made_by c) (numbered events) ((1 + length events, e) ∷ [])

pub none_made : (c : ℕ) (events : List Event) (e : Event) → made_by c (1 + length events, e) ≡ None → calls_by (events ++ e ∷ []) c ≡ calls_by events c
none_made c events e none = made_more c events e ∙ ap (λ o. calls_by events c ++ cons_option o []) none ∙ append-nil (calls_by events c)

pub one_made : (c : ℕ) (events : List Event) (e : Event) (m : StoreCall) → made_by c (1 + length events, e) ≡ Some m → calls_by (events ++ e ∷ []) c ≡ calls_by events c ++ m ∷ []
one_made c events e m some = made_more c events e ∙ ap (λ o. calls_by events c ++ cons_option o []) some

-- the call of an event
abbrev pub made_at : List Event → Name → Request → How → Reply → StoreCall
made_at events store q how r = record { at = 1 + length events; store = store; request = q; how = how; reply = r }

pub own_made : (c : ℕ) (events : List Event) (store : Name) (q : Request) (how : How) (r : Reply) (a : Option Answer) → made_by c (1 + length events, event.Call c store q how r a) ≡ Some (made_at events store q how r)
own_made c events store q how r a = ap (λ t. if t then Some (made_at events store q how r) else None) (itself c)

-- a call that an event makes has its number
numbered_made : (c n : ℕ) (e : Event) (m : StoreCall) → made_by c (n, e) ≡ Some m → m.at ≡ n
numbered_made c n (event.Take d text a) m h = absurd (cc)
numbered_made c n (event.Call d store q how r a) m h = by (d == c) h
  where
    by : (t : Bool) → (if t then Some (record { at = n; store = store; request = q; how = how; reply = r }) else None) ≡ Some m → m.at ≡ n
    by true k = let same : record { at = n; store = store; request = q; how = how; reply = r } ≡ m = cc in ap (λ (x : StoreCall). x.at) (sym same)
    by false k = absurd (cc)
numbered_made c n (event.Stop d) m h = absurd (cc)
numbered_made c n (event.Clock moment) m h = absurd (cc)
numbered_made c n (event.Idle d) m h = absurd (cc)
numbered_made c n (event.Alter table column kind altered) m h = absurd (cc)
numbered_made c n (event.Land number store q how r) m h = absurd (cc)

numbers_below : (c n : ℕ) (es : List Event) → AllByRecursion (λ m. m.at < n + length es) (filter_map (made_by c) (enumerate_from n es))
numbers_below c n [] = tt
numbers_below c n (e ∷ es) = by (made_by c (n, e)) refl (shifted (numbers_below c (n + 1) es))
  where
    shift : (n m k : ℕ) → k < n + 1 + m → k < n + suc m
    shift n m k l = omega arith

    shifted : AllByRecursion (λ m. m.at < n + 1 + length es) (filter_map (made_by c) (enumerate_from (n + 1) es)) → AllByRecursion (λ m. m.at < n + suc (length es)) (filter_map (made_by c) (enumerate_from (n + 1) es))
    shifted all = each (filter_map (made_by c) (enumerate_from (n + 1) es)) all
      where
        each : (xs : List StoreCall) → AllByRecursion (λ m. m.at < n + 1 + length es) xs → AllByRecursion (λ m. m.at < n + suc (length es)) xs
        each [] a = tt
        each (x ∷ xs) a = (shift n (length es) x.at a.0, each xs a.1)

    by : (o : Option StoreCall) → made_by c (n, e) ≡ o → AllByRecursion (λ m. m.at < n + suc (length es)) (filter_map (made_by c) (enumerate_from (n + 1) es)) → AllByRecursion (λ m. m.at < n + suc (length es)) (cons_option o (filter_map (made_by c) (enumerate_from (n + 1) es)))
    by None k all = all
    by (Some m) k all = (first (numbered_made c n e m k), all)
      where
        first : m.at ≡ n → m.at < n + suc (length es)
        first h = omega arith

-- each call is within the events
pub calls_within : (c : ℕ) (events : List Event) → AllByRecursion (λ m. m.at < 1 + length events) (calls_by events c)
calls_within c events = numbers_below c 1 events

pub later_within : (c : ℕ) (events : List Event) (accepted : ℕ) → AllByRecursion (λ m. m.at < 1 + length events) (later_calls events c accepted)
later_within c events accepted = each_kept (λ (m : StoreCall). m.at < 1 + length events) (λ m. nat_lt accepted m.at) (calls_by events c) (calls_within c events)

-- the calls of a statement that ends where the events end
pub calls_open : (c : ℕ) (events : List Event) (s : Executed) → end_of events s ≡ length events → calls_of events c s ≡ later_calls events c s.accepted
calls_open c events s e =
    ap (λ n. filter (λ m. nat_lt s.accepted m.at && nat_le m.at n) (calls_by events c)) e
    ∙ filter_same (λ m. nat_lt s.accepted m.at && nat_le m.at (length events)) (λ m. nat_lt s.accepted m.at) (calls_by events c) (each (calls_by events c) (calls_within c events))
  where
    same : (t k n : ℕ) → k < 1 + n → (nat_lt t k && nat_le k n) ≡ nat_lt t k
    same t k n l = grind (arith, nat_tests)

    each : (xs : List StoreCall) → AllByRecursion (λ m. m.at < 1 + length events) xs → AllByRecursion (λ m. (nat_lt s.accepted m.at && nat_le m.at (length events)) ≡ nat_lt s.accepted m.at) xs
    each [] a = tt
    each (x ∷ xs) a = (same s.accepted x.at (length events) a.0, each xs a.1)

pub end_waiting : (events : List Event) (s : Executed) → s.answer ≡ None → end_of events s ≡ length events
end_waiting events s e = ap (λ o. if is_some o then s.reached else length events) e

pub end_answered : (events : List Event) (s : Executed) (a : Answer) → s.answer ≡ Some a → end_of events s ≡ s.reached
end_answered events s a e = ap (λ o. if is_some o then s.reached else length events) e

-- a call more of its client
pub later_more : (c : ℕ) (events : List Event) (e : Event) (accepted : ℕ) (m : StoreCall) → accepted ≤ length events → m.at ≡ 1 + length events → made_by c (1 + length events, e) ≡ Some m → later_calls (events ++ e ∷ []) c accepted ≡ later_calls events c accepted ++ m ∷ []
later_more c events e accepted m l n some =
    ap (filter (λ m. nat_lt accepted m.at)) (one_made c events e m some)
    ∙ filter-append (λ m. nat_lt accepted m.at) (calls_by events c) (m ∷ [])
    ∙ ap (λ b. later_calls events c accepted ++ (if b then m ∷ [] else [])) (above accepted m.at (length events) l n)
  where
    above : (t k n : ℕ) → t ≤ n → k ≡ 1 + n → nat_lt t k ≡ true
    above t k n l e = grind (arith, nat_tests)

pub later_same : (c : ℕ) (events : List Event) (e : Event) (accepted : ℕ) → made_by c (1 + length events, e) ≡ None → later_calls (events ++ e ∷ []) c accepted ≡ later_calls events c accepted
later_same c events e accepted none = ap (filter (λ m. nat_lt accepted m.at)) (none_made c events e none)

abbrev within_said : Executed → StoreCall → Bool
within_said s m = nat_lt s.accepted m.at && nat_le m.at s.reached

-- The calls of a statement that was answered stay.
pub calls_stay : (c : ℕ) (events : List Event) (e : Event) (s : Executed) (a : Answer) → s.answer ≡ Some a → s.reached ≤ length events → calls_of (events ++ e ∷ []) c s ≡ calls_of events c s
calls_stay c events e s a is l =
    ap (λ n. filter (λ m. nat_lt s.accepted m.at && nat_le m.at n) (calls_by (events ++ e ∷ []) c)) (end_answered (events ++ e ∷ []) s a is)
    ∙ by (made_by c (1 + length events, e)) refl
    ∙ ap (λ n. filter (λ m. nat_lt s.accepted m.at && nat_le m.at n) (calls_by events c)) (sym (end_answered events s a is))
  where
    past : (t k n a : ℕ) → a ≤ n → k ≡ 1 + n → (nat_lt t k && nat_le k a) ≡ false
    past t k n a l e = grind (arith, nat_tests)

    by : (o : Option StoreCall) → made_by c (1 + length events, e) ≡ o → filter (within_said s) (calls_by (events ++ e ∷ []) c) ≡ filter (within_said s) (calls_by events c)
    by None k = ap (filter (within_said s)) (none_made c events e k)
    by (Some m) k =
        ap (filter (within_said s)) (one_made c events e m k)
        ∙ filter-append (within_said s) (calls_by events c) (m ∷ [])
        ∙ ap (λ b. filter (within_said s) (calls_by events c) ++ (if b then m ∷ [] else [])) (past s.accepted m.at (length events) s.reached l (numbered_made c (1 + length events) e m k))
        ∙ append-nil (filter (within_said s) (calls_by events c))

-- and whether its read has finished
pub read_stays : (c : ℕ) (events : List Event) (e : Event) (s : Executed) (a : Answer) → s.answer ≡ Some a → s.reached ≤ length events → has_read (events ++ e ∷ []) c s ≡ has_read events c s
read_stays c events e s a is l = ap (λ ms. has_finished ms s) (calls_stay c events e s a is l)

-- each of them is within the events
pub of_within : (c : ℕ) (events : List Event) (s : Executed) (m : StoreCall) → Contains (calls_of events c s) m → m.at ≤ length events
of_within c events s m has = bound (each_in (λ (x : StoreCall). x.at < 1 + length events) (calls_by events c) m (calls_within c events) (kept_in (λ (x : StoreCall). nat_lt s.accepted x.at && nat_le x.at (end_of events s)) (calls_by events c) m has))
  where
    bound : m.at < 1 + length events → m.at ≤ length events
    bound h = omega arith
