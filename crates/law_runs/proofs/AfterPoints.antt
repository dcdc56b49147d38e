-- A COMMIT decides after its transaction's point, and its prepares are up to that.
use Rattle.std.proofs.Common.{◌≡◌, ◌⊎◌, inl, inr, ◌<◌, ◌≤◌, ◌+◌, ℕ, zero, suc, Bool, true, false, List, [], ◌∷◌, length, map, take, Option, Some, None, refl, sym, ap, subst, ◌∙◌, arith}
use Rattle.std.specs.Prelude.{◌&&◌, ◌==◌, Contains, filter, fold, if◌then◌else◌, nat_le, nat_lt, sum_by, unwrap_or}
use Rattle.std.specs.List.{AllByRecursion, cons_option, enumerate_from, filter_map}
use Rattle.std.specs.Option.{option_map_or}
use Rattle.std.proofs.lemmas.Bool.{and_parts}
use Rattle.std.proofs.lemmas.Bool.Decides.{nat_tests}
use Rattle.std.proofs.lemmas.List.{length-map}
use Rattle.std.proofs.lemmas.List.Sums.{sum_by-cons}
use Rattle.law_runs.specs.Types.{Event, How, Key, Record, Reply, Request, TxId}
use Rattle.sdb_types.specs.declared.record.Reply.TheVariants as reply
use Rattle.sdb_types.specs.declared.record.Request.TheVariants as ask
use Rattle.sdb_types.specs.Replies.{is_answered, is_applied}
use Rattle.sdb_types.proofs.Public.{clash, itself, none_some, one_of, some_is}
use Rattle.sdb_model.specs.declared.event.Event.TheVariants as event
use Rattle.sdb_model.specs.declared.event.How.TheVariants.{Seen, Lost, Discarded, Delayed, Broken}
use Rattle.sdb_model.specs.Calls.{StoreCall, calls_before, calls_by, calls_of, end_of, made_by}
use Rattle.sdb_model.specs.Counted.{prepares_in, puts_prepared}
use Rattle.sdb_model.specs.Requests.{keys_asked, records_put}
use Rattle.sdb_model.specs.Transactions.{Executed, commit_of, is_prepared_by, is_prepared_record, last_prepare, point, prepares, statements_by}
use Rattle.law_answers.specs.Rolled.{AnsweredWereSeen}
use Rattle.law_answers.proofs.Public.{each_in, kept_in}
use Rattle.law_runs.proofs.Calls.{a_later, the_first}
use Rattle.law_runs.specs.Laws.{CallsAreOfStatements, PreparesAreOwn}
use Rattle.law_runs.specs.Written.{AreAsMany, Decides, IsAfterPoint, PreparesAll, groups_applied, groups_of_keys, groups_prepared}
use Rattle.law_runs.proofs.GroupPuts.{any_found}
use Rattle.law_runs.proofs.KeyGroups.{groups_sum}
use Rattle.law_runs.proofs.Statements.{none_in}

---- lists

-- what a filter keeps passes it
passes : {X : Type 0} (p : X → Bool) (xs : List X) → AllByRecursion (λ x. p x ≡ true) (filter p xs)
passes p [] = tt
passes p (x ∷ xs) = by (p x) refl (passes p xs)
  where
    by : (b : Bool) → p x ≡ b → AllByRecursion (λ y. p y ≡ true) (filter p xs) → AllByRecursion (λ y. p y ≡ true) (if b then x ∷ filter p xs else filter p xs)
    by true e ih = (e, ih)
    by false e ih = ih

later_in : {X : Type 0} (o : Option X) (xs : List X) (x : X) → Contains xs x → Contains (cons_option o xs) x
later_in None xs x h = h
later_in (Some y) xs x h = a_later y x xs h

---- each prepare was applied, and before the deciding put

-- a filter over two others that loses none
module _ {X : Type 0} (p a b : X → Bool) where
  abbrev kept : List X → List X
  kept xs = filter p (filter a (filter b xs))

  fewer : (xs : List X) → length (kept xs) ≤ length (filter p xs)
  fewer [] = omega arith
  fewer (x ∷ xs) = by (p x) (a x) (b x) refl refl (fewer xs)
    where
      by_p : (t : Bool) (ys zs : List X) → length ys ≤ length zs → length (if t then x ∷ ys else ys) ≤ length (if t then x ∷ zs else zs)
      by_p true ys zs h = omega (arith, h)
      by_p false ys zs h = h

      more : (t : Bool) (n : ℕ) (zs : List X) → n ≤ length zs → n ≤ length (if t then x ∷ zs else zs)
      more true n zs h = omega (arith, h)
      more false n zs h = h

      by : (t u v : Bool) → p x ≡ t → a x ≡ u → length (kept xs) ≤ length (filter p xs) → length (filter p (filter a (if v then x ∷ filter b xs else filter b xs))) ≤ length (if t then x ∷ filter p xs else filter p xs)
      by t u false e f h = more t (length (kept xs)) (filter p xs) h
      by t u true e f h = subst (λ (w : Bool). length (filter p (if w then x ∷ filter a (filter b xs) else filter a (filter b xs))) ≤ length (if t then x ∷ filter p xs else filter p xs)) (sym f) (inner u)
        where
          inner : (w : Bool) → length (filter p (if w then x ∷ filter a (filter b xs) else filter a (filter b xs))) ≤ length (if t then x ∷ filter p xs else filter p xs)
          inner true = subst (λ (y : Bool). length (if y then x ∷ kept xs else kept xs) ≤ length (if t then x ∷ filter p xs else filter p xs)) (sym e) (by_p t (kept xs) (filter p xs) h)
          inner false = more t (length (kept xs)) (filter p xs) h

  all_kept : (xs : List X) → length (filter p xs) ≤ length (kept xs) → AllByRecursion (λ x. p x ≡ true → (a x ≡ true) × (b x ≡ true)) xs
  all_kept [] h = tt
  all_kept (x ∷ xs) h = by (p x) (a x) (b x) refl refl refl h (all_kept xs) (fewer xs)
    where
      by : (t u v : Bool) → p x ≡ t → a x ≡ u → b x ≡ v → length (if t then x ∷ filter p xs else filter p xs) ≤ length (filter p (filter a (if v then x ∷ filter b xs else filter b xs)))
          → (length (filter p xs) ≤ length (kept xs) → AllByRecursion (λ y. p y ≡ true → (a y ≡ true) × (b y ≡ true)) xs) → length (kept xs) ≤ length (filter p xs)
          → (p x ≡ true → (a x ≡ true) × (b x ≡ true)) × AllByRecursion (λ y. p y ≡ true → (a y ≡ true) × (b y ≡ true)) xs
      by true true true e f g l ih few =
          (λ k. (f, g), ih (drop_one (subst (λ (y : Bool). suc (length (filter p xs)) ≤ length (if y then x ∷ kept xs else kept xs)) e (subst (λ (w : Bool). suc (length (filter p xs)) ≤ length (filter p (if w then x ∷ filter a (filter b xs) else filter a (filter b xs)))) f l))))
        where
          drop_one : suc (length (filter p xs)) ≤ suc (length (kept xs)) → length (filter p xs) ≤ length (kept xs)
          drop_one k = omega (arith, k)
      by true false true e f g l ih few = absurd (let k : suc (length (filter p xs)) ≤ length (kept xs) = subst (λ (w : Bool). suc (length (filter p xs)) ≤ length (filter p (if w then x ∷ filter a (filter b xs) else filter a (filter b xs)))) f l in omega (arith, k, few))
      by true u false e f g l ih few = absurd (omega (arith, l, few))
      by false true true e f g l ih few =
          (λ k. clash (sym k ∙ e), ih (subst (λ (y : Bool). length (filter p xs) ≤ length (if y then x ∷ kept xs else kept xs)) e (subst (λ (w : Bool). length (filter p xs) ≤ length (filter p (if w then x ∷ filter a (filter b xs) else filter a (filter b xs)))) f l)))
      by false false true e f g l ih few = (λ k. clash (sym k ∙ e), ih (subst (λ (w : Bool). length (filter p xs) ≤ length (filter p (if w then x ∷ filter a (filter b xs) else filter a (filter b xs)))) f l))
      by false u false e f g l ih few = (λ k. clash (sym k ∙ e), ih l)

-- each prepare puts a record
prepare_puts : (id : TxId) (q : Request) → prepares id q ≡ true → (r : Record) × Contains (records_put q) r
prepare_puts id q e = let x = any_found (is_prepared_record id) (records_put q) e in (x.0, x.1)

-- and is of as many keys as it puts records
keys_put : (id : TxId) (q : Request) → prepares id q ≡ true → length (keys_asked q) ≡ length (records_put q)
keys_put id (ask.PutIf rec condition) e = refl
keys_put id (ask.PutAll batch) e = length-map (records_put (ask.PutAll batch)) (λ (x : Record). x.key)
keys_put id (ask.Get key) e = clash (sym e)
keys_put id (ask.Scan span) e = clash (sym e)
keys_put id (ask.DeleteIf key condition) e = clash (sym e)

groups_long : (id : TxId) (ms : List StoreCall) → length (groups_prepared id ms) ≡ length (prepares_in id ms)
groups_long id ms = length-map (prepares_in id ms) (λ (x : StoreCall). keys_asked x.request)

keys_sum : (id : TxId) (ms : List StoreCall) → puts_prepared id ms ≡ sum_by (λ (ks : List Key). length ks) (groups_prepared id ms)
keys_sum id [] = refl
keys_sum id (m ∷ ms) = by (prepares id m.request) refl (keys_sum id ms)
  where
    by : (b : Bool) → prepares id m.request ≡ b → puts_prepared id ms ≡ sum_by (λ (ks : List Key). length ks) (groups_prepared id ms)
        → sum_by (λ (x : StoreCall). length (records_put x.request)) (if b then m ∷ prepares_in id ms else prepares_in id ms) ≡ sum_by (λ (ks : List Key). length ks) (map (λ (x : StoreCall). keys_asked x.request) (if b then m ∷ prepares_in id ms else prepares_in id ms))
    by true e ih = sum_by-cons (λ (x : StoreCall). length (records_put x.request)) m (prepares_in id ms) ∙ both (length (records_put m.request)) (length (keys_asked m.request)) (keys_put id m.request e) ih ∙ sym (sum_by-cons (λ (ks : List Key). length ks) (keys_asked m.request) (groups_prepared id ms))
      where
        both : (a b : ℕ) {c d : ℕ} → b ≡ a → c ≡ d → a + c ≡ b + d
        both a b e f = omega (arith, e, f)
    by false e ih = ih

short : {X : Type 0} (n : ℕ) (xs : List X) → length (take n xs) ≤ length xs
short zero xs = omega arith
short (suc n) [] = omega arith
short (suc n) (x ∷ xs) = let l = short n xs in up (length (take n xs)) (length xs) l
  where
    up : (a b : ℕ) → a ≤ b → suc a ≤ suc b
    up a b l = omega (arith, l)

-- what is taken of a list is all of it, where it is as long
whole : {X : Type 0} (n : ℕ) (xs : List X) → length (take n xs) ≡ length xs → take n xs ≡ xs
whole zero [] e = refl
whole zero (x ∷ xs) e = absurd (none (length xs) e)
  where
    none : (a : ℕ) → ◌≡◌ {A = ℕ} 0 (suc a) → ⊥
    none a e = absurd (omega (arith, e))
whole (suc n) [] e = refl
whole (suc n) (x ∷ xs) e = ap (λ ys. x ∷ ys) (whole n xs (down (length (take n xs)) (length xs) e))
  where
    down : (a b : ℕ) → suc a ≡ suc b → a ≡ b
    down a b e = omega (arith, e)

-- Where a call decides, each prepare was applied before it.
applied_before : (groups : List (List Key)) (id : TxId) (calls : List StoreCall) (m p : StoreCall) → PreparesAll groups id calls → groups_applied id (calls_before m.at calls) ≡ groups → Contains calls p → prepares id p.request ≡ true → (is_applied p.reply ≡ true) × (nat_lt p.at m.at ≡ true)
applied_before groups id calls m p h all has is =
    each_in (λ (x : StoreCall). prepares id x.request ≡ true → (is_applied x.reply ≡ true) × (nat_lt x.at m.at ≡ true)) calls p
    (all_kept (λ (x : StoreCall). prepares id x.request) (λ (x : StoreCall). is_applied x.reply) (λ (x : StoreCall). nat_lt x.at m.at) calls
    (few (length (prepares_in id calls)) (length (take h.count groups)) (length groups) (length (prepares_in id (filter (λ (x : StoreCall). is_applied x.reply) (calls_before m.at calls))))
    (sym (groups_long id calls) ∙ ap (λ (gs : List (List Key)). length gs) h.prepared) (short h.count groups) (sym (groups_long id (filter (λ (x : StoreCall). is_applied x.reply) (calls_before m.at calls))) ∙ ap (λ (gs : List (List Key)). length gs) all))) has is
  where
    few : (a b c d : ℕ) → a ≡ b → b ≤ c → d ≡ c → a ≤ d
    few a b c d e l f = omega (arith, e, l, f)

-- There it has made as many prepares as there are groups.
all_groups : (groups : List (List Key)) (id : TxId) (calls : List StoreCall) (m : StoreCall) → PreparesAll groups id calls → groups_applied id (calls_before m.at calls) ≡ groups → length (prepares_in id calls) ≡ length groups
all_groups groups id calls m h all =
    both (length (prepares_in id calls)) (length (take h.count groups)) (length groups) (length (prepares_in id (filter (λ (x : StoreCall). is_applied x.reply) (calls_before m.at calls))))
    (sym (groups_long id calls) ∙ ap (λ (gs : List (List Key)). length gs) h.prepared) (short h.count groups) (sym (groups_long id (filter (λ (x : StoreCall). is_applied x.reply) (calls_before m.at calls))) ∙ ap (λ (gs : List (List Key)). length gs) all)
    (fewer (λ (x : StoreCall). prepares id x.request) (λ (x : StoreCall). is_applied x.reply) (λ (x : StoreCall). nat_lt x.at m.at) calls)
  where
    both : (a b c d : ℕ) → a ≡ b → b ≤ c → d ≡ c → d ≤ a → a ≡ c
    both a b c d e l f k = omega (arith, e, l, f, k)

-- So it has prepared as many groups as the keys are in, and as many records as there are keys.
pub as_many : (keys : List Key) (id : TxId) (calls : List StoreCall) (m : StoreCall) → PreparesAll (groups_of_keys keys) id calls → groups_applied id (calls_before m.at calls) ≡ groups_of_keys keys → AreAsMany keys id calls
as_many keys id calls m h all = record { groups = many; records = keys_sum id calls ∙ ap (sum_by (λ (ks : List Key). length ks)) (h.prepared ∙ whole h.count groups taken) ∙ groups_sum keys }
  where
    groups : List (List Key)
    groups = groups_of_keys keys

    many : length (prepares_in id calls) ≡ length groups
    many = all_groups groups id calls m h all

    taken : length (take h.count groups) ≡ length groups
    taken = sym (ap (λ (gs : List (List Key)). length gs) h.prepared) ∙ groups_long id calls ∙ many

---- the last prepare

module _ (id : TxId) where
  abbrev newer : Option ℕ → ℕ × Event → Option ℕ
  newer found e = if is_prepared_by id e.1 then Some e.0 else found

  -- it is no earlier than one before
  last_after : (k j : ℕ) (es : List Event) → j ≤ k → (n : ℕ) × (fold newer (Some j) (enumerate_from k es) ≡ Some n) × (j ≤ n)
  last_after k j [] l = (j, refl, omega arith)
  last_after k j (e ∷ es) l = by (is_prepared_by id e) (last_after (k + 1) k es (omega arith)) (last_after (k + 1) j es (up l))
    where
      up : j ≤ k → j ≤ k + 1
      up h = omega (arith, h)

      by : (b : Bool) → (n : ℕ) × (fold newer (Some k) (enumerate_from (k + 1) es) ≡ Some n) × (k ≤ n) → (n : ℕ) × (fold newer (Some j) (enumerate_from (k + 1) es) ≡ Some n) × (j ≤ n) → (n : ℕ) × (fold newer (if b then Some k else Some j) (enumerate_from (k + 1) es) ≡ Some n) × (j ≤ n)
      by true h g = (h.0, h.1, through h.0 h.2)
        where
          through : (n : ℕ) → k ≤ n → j ≤ n
          through n h = omega (arith, h, l)
      by false h g = g

  -- a call that prepares, was seen and applied
  abbrev IsPrepare : StoreCall → Type 0
  IsPrepare p = (prepares id p.request ≡ true) × (p.how ≡ Seen) × (p.reply ≡ reply.Applied)

  made_prepares : (c k : ℕ) (e : Event) (p : StoreCall) → made_by c (k, e) ≡ Some p → IsPrepare p → (p.at ≡ k) × (is_prepared_by id e ≡ true)
  made_prepares c k (event.Take d text a) p made is = none_some p made
  made_prepares c k (event.Stop d) p made is = none_some p made
  made_prepares c k (event.Clock now) p made is = none_some p made
  made_prepares c k (event.Idle d) p made is = none_some p made
  made_prepares c k (event.Land n store q how r) p made is = none_some p made
  made_prepares c k (event.Alter table column kind altered) p made is = none_some p made
  made_prepares c k (event.Call d store q how r a) p made is = by (d == c) made
    where
      here : (q : Request) (how : How) (r : Reply) → (prepares id q ≡ true) × (how ≡ Seen) × (r ≡ reply.Applied) → is_prepared_by id (event.Call d store q how r a) ≡ true
      here q how r h = ap (λ (x : How). is_prepared_by id (event.Call d store q x r a)) h.1 ∙ ap (λ (x : Reply). is_prepared_by id (event.Call d store q Seen x a)) h.2 ∙ h.0

      by : (b : Bool) → (if b then Some (record { at = k; store = store; request = q; how = how; reply = r }) else None) ≡ Some p → (p.at ≡ k) × (is_prepared_by id (event.Call d store q how r a) ≡ true)
      by true f = let same = some_is _ p f in (sym (ap (λ (y : StoreCall). y.at) same), here q how r (subst IsPrepare (sym same) is))
      by false f = none_some p f

  -- the last prepare is this one or a later
  last_from : (c k : ℕ) (es : List Event) (o : Option ℕ) (p : StoreCall) → Contains (filter_map (made_by c) (enumerate_from k es)) p → IsPrepare p → (n : ℕ) × (fold newer o (enumerate_from k es) ≡ Some n) × (p.at ≤ n)
  last_from c k [] o p has is = none_in p has
  last_from c k (e ∷ es) o p has is = by (made_by c (k, e)) refl has (λ later. last_from c (k + 1) es (newer o (k, e)) p later is)
    where
      now : made_by c (k, e) ≡ Some p → (n : ℕ) × (fold newer (newer o (k, e)) (enumerate_from (k + 1) es) ≡ Some n) × (p.at ≤ n)
      now made =
          let x = made_prepares c k e p made is in
          let l = last_after (k + 1) k es (omega arith) in
          (l.0, ap (λ (b : Bool). fold newer (if b then Some k else o) (enumerate_from (k + 1) es)) x.1 ∙ l.1, at_most p.at k l.0 x.0 l.2)
        where
          at_most : (a b n : ℕ) → a ≡ b → b ≤ n → a ≤ n
          at_most a b n e h = omega (arith, e, h)

      by : (m : Option StoreCall) → made_by c (k, e) ≡ m → Contains (cons_option m (filter_map (made_by c) (enumerate_from (k + 1) es))) p
          → (Contains (filter_map (made_by c) (enumerate_from (k + 1) es)) p → (n : ℕ) × (fold newer (newer o (k, e)) (enumerate_from (k + 1) es) ≡ Some n) × (p.at ≤ n)) → (n : ℕ) × (fold newer (newer o (k, e)) (enumerate_from (k + 1) es) ≡ Some n) × (p.at ≤ n)
      by None f h ih = ih h
      by (Some m) f h ih = first (one_of m p (filter_map (made_by c) (enumerate_from (k + 1) es)) h)
        where
          first : (m ≡ p) ⊎ Contains (filter_map (made_by c) (enumerate_from (k + 1) es)) p → (n : ℕ) × (fold newer (newer o (k, e)) (enumerate_from (k + 1) es) ≡ Some n) × (p.at ≤ n)
          first (inl same) = now (f ∙ ap Some same)
          first (inr later) = ih later

  -- some client's call is the last prepare
  record LastCall (k : ℕ) (es : List Event) (n : ℕ) : Type 0 where
    c : ℕ
    p : StoreCall
    among : Contains (filter_map (made_by c) (enumerate_from k es)) p
    is : prepares id p.request ≡ true
    at : p.at ≡ n

  last_call : (k : ℕ) (es : List Event) (o : Option ℕ) (n : ℕ) → fold newer o (enumerate_from k es) ≡ Some n → (o ≡ Some n) ⊎ LastCall k es n
  last_call k [] o n f = inl f
  last_call k (e ∷ es) o n f = by (last_call (k + 1) es (newer o (k, e)) n f)
    where
      now : (e : Event) → is_prepared_by id e ≡ true → k ≡ n → LastCall k (e ∷ es) n
      now (event.Call d store q Seen reply.Applied a) is same = record {
        c = d;
        p = record { at = k; store = store; request = q; how = Seen; reply = reply.Applied };
        among = subst (λ (b : Bool). Contains (cons_option (if b then Some (record { at = k; store = store; request = q; how = Seen; reply = reply.Applied }) else None) (filter_map (made_by d) (enumerate_from (k + 1) es))) (record { at = k; store = store; request = q; how = Seen; reply = reply.Applied })) (sym (itself d)) (the_first _ (filter_map (made_by d) (enumerate_from (k + 1) es)));
        is = is;
        at = same;
      }
      now (event.Call d store q Seen reply.Fault a) is same = clash (sym is)
      now (event.Call d store q Seen reply.NoMemory a) is same = clash (sym is)
      now (event.Call d store q Seen (reply.NotMet found) a) is same = clash (sym is)
      now (event.Call d store q Seen (reply.Found found) a) is same = clash (sym is)
      now (event.Call d store q Seen (reply.Rows rows) a) is same = clash (sym is)
      now (event.Call d store q Seen (reply.NotAll place there) a) is same = clash (sym is)
      now (event.Call d store q Lost r a) is same = clash (sym is)
      now (event.Call d store q Discarded r a) is same = clash (sym is)
      now (event.Call d store q Delayed r a) is same = clash (sym is)
      now (event.Call d store q Broken r a) is same = clash (sym is)
      now (event.Take d text a) is same = clash (sym is)
      now (event.Stop d) is same = clash (sym is)
      now (event.Clock moment) is same = clash (sym is)
      now (event.Idle d) is same = clash (sym is)
      now (event.Land n store q how r) is same = clash (sym is)
      now (event.Alter table column kind altered) is same = clash (sym is)

      by_last : (b : Bool) → is_prepared_by id e ≡ b → (if b then Some k else o) ≡ Some n → (o ≡ Some n) ⊎ LastCall k (e ∷ es) n
      by_last true is same = inr (now e is (some_is k n same))
      by_last false is same = inl same

      by : (newer o (k, e) ≡ Some n) ⊎ LastCall (k + 1) es n → (o ≡ Some n) ⊎ LastCall k (e ∷ es) n
      by (inl same) = by_last (is_prepared_by id e) refl same
      by (inr x) = inr (record { c = x.c; p = x.p; among = later_in (made_by x.c (k, e)) (filter_map (made_by x.c) (enumerate_from (k + 1) es)) x.p x.among; is = x.is; at = x.at })

---- the law

module _ (events : List Event) (own : PreparesAreOwn events) (belong : CallsAreOfStatements events) (seen : AnsweredWereSeen events) (client : ℕ) (s : Executed) (id : TxId) (m : StoreCall) (d : Decides events client s id m) (among : Contains (statements_by client events) s)
    (groups : List (List Key)) (h : PreparesAll groups id (calls_of events client s)) where
  abbrev calls : List StoreCall
  calls = calls_of events client s

  -- each prepare of the COMMIT
  prepared : (p : StoreCall) → Contains calls p → prepares id p.request ≡ true → IsPrepare id p × (p.at < m.at)
  prepared p has is =
      let x = applied_before groups id calls m p h (h.decided m d.call d.puts) has is in
      let r = applied p.reply x.0 in
      ((is, seen client s p among has (ap is_answered r), r), low p.at m.at x.1)
    where
      applied : (r : Reply) → is_applied r ≡ true → r ≡ reply.Applied
      applied reply.Applied e = refl
      applied reply.Fault e = clash (sym e)
      applied reply.NoMemory e = clash (sym e)
      applied (reply.NotMet found) e = clash (sym e)
      applied (reply.Found found) e = clash (sym e)
      applied (reply.Rows rows) e = clash (sym e)
      applied (reply.NotAll place there) e = clash (sym e)

      low : (a b : ℕ) → nat_lt a b ≡ true → a < b
      low a b e = grind (arith, nat_tests)

  in_window : (p : StoreCall) → Contains calls p → Contains (calls_by events client) p × (s.accepted < p.at)
  in_window p has = (
    kept_in (λ (x : StoreCall). nat_lt s.accepted x.at && nat_le x.at (end_of events s)) (calls_by events client) p has,
    low s.accepted p.at (and_parts (nat_lt s.accepted p.at) (nat_le p.at (end_of events s)) (each_in (λ (x : StoreCall). (nat_lt s.accepted x.at && nat_le x.at (end_of events s)) ≡ true) calls p (passes (λ (x : StoreCall). nat_lt s.accepted x.at && nat_le x.at (end_of events s)) (calls_by events client)) has)).0,
  )
    where
      low : (a b : ℕ) → nat_lt a b ≡ true → a < b
      low a b e = grind (arith, nat_tests)

  -- the last prepare is one of the COMMIT's
  last_own : (n : ℕ) → LastCall id 1 events n → n < m.at
  last_own n x =
      let of = belong x.c x.p x.among in
      let put = prepare_puts id x.p.request x.is in
      let mine = own x.c of.statement x.p id put.0 (record { among = of.among; call = of.call; fits = d.fits; is = x.is; puts = put.1 }) in
      let same_s : of.statement ≡ s = some_is of.statement s (sym mine.commit.1 ∙ d.commit.1) in
      let same_c : x.c ≡ client = sym mine.commit.0 ∙ d.commit.0 in
      let has : Contains calls x.p = subst (λ (t : Executed). Contains (calls_of events client t) x.p) same_s (subst (λ (c : ℕ). Contains (calls_of events c of.statement) x.p) same_c of.call) in
      before x.p.at n x.at (prepared x.p has x.is).1
    where
      before : (a n : ℕ) → a ≡ n → a < m.at → n < m.at
      before a n e l = omega (arith, e, l)

  point_is : (o : Option ℕ) → last_prepare events id ≡ o → point events id ≡ unwrap_or o s.accepted
  point_is o e = ap (λ (x : Option ℕ). unwrap_or x (option_map_or (λ (t : Executed). t.accepted) (commit_of events id) 0)) e ∙ ap (λ (x : Option Executed). unwrap_or o (option_map_or (λ (t : Executed). t.accepted) x 0)) d.commit.1

  pub follows_point : IsAfterPoint events client s id m
  follows_point = record { prepared = each; decides = by (last_prepare events id) refl }
    where
      at_point : (p : StoreCall) → Contains calls p → IsPrepare id p → p.at ≤ point events id
      at_point p has is =
          let x = last_from id client 1 events None p (in_window p has).0 is in
          subst (λ n. p.at ≤ n) (sym (point_is (Some x.0) x.1)) x.2

      each : (p : StoreCall) → Contains calls p → prepares id p.request ≡ true → (p.how ≡ Seen) × (p.reply ≡ reply.Applied) × (p.at ≤ point events id)
      each p has is = let x = (prepared p has is).0 in (x.1, x.2, at_point p has x)

      by : (o : Option ℕ) → last_prepare events id ≡ o → point events id < m.at
      by None e = subst (λ n. n < m.at) (sym (point_is None e)) (in_window m d.call).1
      by (Some n) e = subst (λ k. k < m.at) (sym (point_is (Some n) e)) (here (last_call id 1 events None n e))
        where
          here : (None ≡ Some n) ⊎ LastCall id 1 events n → n < m.at
          here (inl none) = none_some n none
          here (inr x) = last_own n x
