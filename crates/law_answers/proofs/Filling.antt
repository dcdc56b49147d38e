-- An open transaction has written no more keys than its statements counted, and noted no more records than they found, as statements come.
use Rattle.std.proofs.Common.{◌≡◌, ◌≤◌, ◌+◌, ℕ, suc, Bool, true, false, not, cond, List, [], ◌∷◌, ◌++◌, map, length, Option, Some, None, refl, sym, ap, subst, ◌∙◌, arith}
use Rattle.std.specs.Prelude.{if◌then◌else◌, ◌&&◌, filter, is_some, nat_lt, slice_get, sum_by, unwrap_or, IfSome}
use Rattle.std.specs.List.{AllByRecursion, cons_option, filter_map}
use Rattle.std.specs.Option.{option_map_or}
use Rattle.std.proofs.lemmas.List.{append-nil, length-map}
use Rattle.std.proofs.lemmas.List.Elements.{filter-append}
use Rattle.std.proofs.lemmas.List.Sums.{sum_by-append, sum_by-cons}
use Rattle.law_answers.specs.Types.{Access, Answer, Doing, Event, Image, Key, Keyed, Record, Statement, Table, Write}
use Rattle.sdb_types.proofs.Public.{clash}
use Rattle.sdb_record.specs.declared.access.Access.TheVariants as access
use Rattle.sdb_record.specs.declared.write.Change.TheVariants as change
use Rattle.sdb_model.specs.declared.answer.Answer.TheVariants as answer
use Rattle.sdb_model.specs.declared.statement.Statement.TheVariants as statement
use Rattle.sdb_model.specs.Calls.{StoreCall, calls_of, records_read}
use Rattle.sdb_model.specs.Causes.{may_pass, records_found, refused, rows_counted}
use Rattle.sdb_model.specs.Exec.{key_of, passes, with_named, with_sets}
use Rattle.sdb_model.specs.ReadSet.{has_read, reads_rows}
use Rattle.sdb_model.specs.Transactions.{Executed, changes_nothing, from_begin, is_effective, rest_of}
use Rattle.sdb_exec.specs.declared.plan.PlanStep.TheVariants.{Finished}
use Rattle.sdb_exec.specs.Plans.{Planned, answer_on, changes_on, columns_at, finished, first_unfit, put_row, step_at, step_of}
use Rattle.sdb_txn.specs.Read.{request_of}
use Rattle.sdb_snapshot.specs.Reads.{ReadRecord, is_key_read, with_images, with_read_record}
use Rattle.sdb_snapshot.specs.Seen.{Seen, nothing, overlay}
use Rattle.sdb_snapshot.specs.Written.{with_writes}
use Rattle.sdb_txn.specs.declared.txn.Doing.TheVariants as doing
use Rattle.sdb_txn.specs.Txn.{TxnAt}
use Rattle.sdb_client.specs.Client.{given_answer, given_left, left_by_answer, with_rows_read, too_many, written}
use Rattle.law_clients.proofs.Public.{access_table}
use Rattle.law_answers.specs.Filled.{IsFilled, IsFilledBy, IsFilledIn, rows_counted_by, records_found_by, records_read_in}
use Rattle.law_answers.specs.Changes.{HasRead}
use Rattle.law_answers.specs.Invariant.{IsAnswered}
use Rattle.law_answers.proofs.Calls.{calls_stay, read_stays}
use Rattle.law_answers.proofs.Filled.{IsKnown, known_few, length_all, rows_known}
use Rattle.law_answers.proofs.Lists.{each_kept, since_more}
use Rattle.law_answers.proofs.Passing.{through, least, records_in, over_more}
use Rattle.law_answers.proofs.ReadSteps.{IsDataTable}
use Rattle.law_answers.proofs.Settling.{data_read}

pub zero_least : (n : ℕ) → 0 ≤ n
zero_least n = omega arith

pub further : (a b : ℕ) → a ≤ a + b
further a b = omega arith

-- with more counted and found
pub filled_up : (a b x y : ℕ) (s : Seen) → a ≤ b → x ≤ y → IsFilledBy a x s → IsFilledBy b y s
filled_up a b x y s l m h = record { writes = through (length s.writes) a b h.writes l; read_set = through (records_read_in s.read_set) x y h.read_set m }

pub filled_few : (counted found own most : ℕ) (s : Seen) → own ≤ most → IsFilledBy counted (found + own) s → IsFilledBy counted (found + most) s
filled_few counted found own most s few = filled_up counted counted (found + own) (found + most) s (least counted) (plus found own most few)
  where
    plus : (a b x : ℕ) → b ≤ x → a + b ≤ a + x
    plus a b x l = omega arith

-- that of a transaction that begins
pub filled_nothing : (a x : ℕ) → IsFilledBy a x nothing
filled_nothing a x = record { writes = zero_least a; read_set = zero_least x }

---- as events come

-- statements that were answered found as many records
found_same : (catalog : List Table) (events : List Event) (e : Event) (c : ℕ) (body : List Executed) → AllByRecursion (IsAnswered catalog events c) body → records_found_by (events ++ e ∷ []) c body ≡ records_found_by events c body
found_same catalog events e c [] all = refl
found_same catalog events e c (s ∷ ss) all =
    ap (λ b. sum_by (λ x. records_found (calls_of (events ++ e ∷ []) c x)) (if b then s ∷ filter (has_read (events ++ e ∷ []) c) ss else filter (has_read (events ++ e ∷ []) c) ss)) (read_stays c events e s all.0.given all.0.is all.0.answered)
    ∙ by (has_read events c s) (found_same catalog events e c ss all.1)
  where
    by : (b : Bool) → records_found_by (events ++ e ∷ []) c ss ≡ records_found_by events c ss
        → sum_by (λ x. records_found (calls_of (events ++ e ∷ []) c x)) (if b then s ∷ filter (has_read (events ++ e ∷ []) c) ss else filter (has_read (events ++ e ∷ []) c) ss) ≡ sum_by (λ x. records_found (calls_of events c x)) (if b then s ∷ filter (has_read events c) ss else filter (has_read events c) ss)
    by true ih =
        sum_by-cons (λ x. records_found (calls_of (events ++ e ∷ []) c x)) s (filter (has_read (events ++ e ∷ []) c) ss)
        ∙ ap (λ ms. records_found ms + records_found_by (events ++ e ∷ []) c ss) (calls_stay c events e s all.0.given all.0.is all.0.answered)
        ∙ ap (λ n. records_found (calls_of events c s) + n) ih
        ∙ sym (sum_by-cons (λ x. records_found (calls_of events c x)) s (filter (has_read events c) ss))
    by false ih = ih

found_stays : (catalog : List Table) (events : List Event) (e : Event) (c : ℕ) (body : List Executed) → AllByRecursion (IsAnswered catalog events c) body → records_found_by events c body ≤ records_found_by (events ++ e ∷ []) c body
found_stays catalog events e c body all = subst (λ n. records_found_by events c body ≤ n) (sym (found_same catalog events e c body all)) (least (records_found_by events c body))

in_stays : (catalog : List Table) (events : List Event) (e : Event) (c : ℕ) (body : List Executed) (s : Seen) (d : Doing) → AllByRecursion (IsAnswered catalog events c) body → IsFilledIn events c body s d → IsFilledIn (events ++ e ∷ []) c body s d
in_stays catalog events e c body s doing.Idle all h = subst (λ n. IsFilledBy (rows_counted_by body) n s) (sym (found_same catalog events e c body all)) h
in_stays catalog events e c body s (doing.Read a x) all h = subst (λ n. IsFilledBy (rows_counted_by body) n s) (sym (found_same catalog events e c body all)) h
in_stays catalog events e c body s (doing.Commit k) all h = tt
in_stays catalog events e c body s doing.Over all h = subst (λ n. IsFilledBy (rows_counted_by body) n s) (sym (found_same catalog events e c body all)) h

pub filled_stays : (catalog : List Table) (events : List Event) (e : Event) (c : ℕ) (body : List Executed) (o : Option TxnAt) → AllByRecursion (IsAnswered catalog events c) body → IfSome o (IsFilled events c body) → IfSome o (IsFilled (events ++ e ∷ []) c body)
filled_stays catalog events e c body None all h = tt
filled_stays catalog events e c body (Some t) all h = in_stays catalog events e c body t.seen t.doing all h

-- with a statement more
counted_more : (body : List Executed) (s : Executed) → rows_counted_by (body ++ s ∷ []) ≡ rows_counted_by body + rows_counted_by (s ∷ [])
counted_more body s = ap (sum_by (λ (b : Executed). rows_counted b.answer)) (filter-append is_effective body (s ∷ [])) ∙ sum_by-append (λ (b : Executed). rows_counted b.answer) (filter is_effective body) (filter is_effective (s ∷ []))

found_more : (events : List Event) (c : ℕ) (body : List Executed) (s : Executed) → records_found_by events c (body ++ s ∷ []) ≡ records_found_by events c body + records_found_by events c (s ∷ [])
found_more events c body s = ap (sum_by (λ b. records_found (calls_of events c b))) (filter-append (has_read events c) body (s ∷ [])) ∙ sum_by-append (λ b. records_found (calls_of events c b)) (filter (has_read events c) body) (filter (has_read events c) (s ∷ []))

pub filled_found : (catalog : List Table) (events : List Event) (e : Event) (c : ℕ) (body : List Executed) (own most : ℕ) (s : Seen) → AllByRecursion (IsAnswered catalog events c) body → own ≤ most → IsFilledBy (rows_counted_by body) (records_found_by events c body + own) s → IsFilledBy (rows_counted_by body) (records_found_by (events ++ e ∷ []) c body + most) s
filled_found catalog events e c body own most s all few = filled_up (rows_counted_by body) (rows_counted_by body) (records_found_by events c body + own) (records_found_by (events ++ e ∷ []) c body + most) s (least (rows_counted_by body)) (sums (records_found_by events c body) (records_found_by (events ++ e ∷ []) c body) own most (found_stays catalog events e c body all) few)
  where
    sums : (a b x y : ℕ) → a ≤ b → x ≤ y → a + x ≤ b + y
    sums a b x y l m = omega arith

pub filled_more : (catalog : List Table) (events : List Event) (e : Event) (c : ℕ) (body : List Executed) (x : Executed) (s : Seen) → AllByRecursion (IsAnswered catalog events c) body → IsFilledBy (rows_counted_by body) (records_found_by events c body) s → IsFilledBy (rows_counted_by (body ++ x ∷ [])) (records_found_by (events ++ e ∷ []) c (body ++ x ∷ [])) s
filled_more catalog events e c body x s all =
    filled_up (rows_counted_by body) (rows_counted_by (body ++ x ∷ [])) (records_found_by events c body) (records_found_by (events ++ e ∷ []) c (body ++ x ∷ [])) s
    (subst (λ n. rows_counted_by body ≤ n) (sym (counted_more body x)) (further (rows_counted_by body) (rows_counted_by (x ∷ []))))
    (subst (λ n. records_found_by events c body ≤ n) (sym (found_more (events ++ e ∷ []) c body x)) (through (records_found_by events c body) (records_found_by (events ++ e ∷ []) c body) (records_found_by (events ++ e ∷ []) c body + records_found_by (events ++ e ∷ []) c (x ∷ [])) (found_stays catalog events e c body all) (further (records_found_by (events ++ e ∷ []) c body) (records_found_by (events ++ e ∷ []) c (x ∷ [])))))

-- of a transaction that does nothing
pub filled_idle : (events : List Event) (c n : ℕ) (answered : List Executed) (s begin : Executed) (body : List Executed) (t : TxnAt) → from_begin n answered ≡ begin ∷ body → t.doing ≡ doing.Idle → IsFilledBy (rows_counted_by (body ++ s ∷ [])) (records_found_by events c (body ++ s ∷ [])) t.seen → IsFilled events c (rest_of (from_begin n (answered ++ s ∷ []))) t
filled_idle events c n answered s begin body t since idle h =
    subst (λ r. IsFilledIn events c (rest_of r) t.seen t.doing) (sym (since_more n answered s begin body since)) (subst (IsFilledIn events c (body ++ s ∷ []) t.seen) (sym idle) h)

---- what a read notes

abbrev counts : ReadRecord → ℕ
counts m = cond (is_some m.1) 1 0

-- one note more
last_read : (read_set : List ReadRecord) (n : ReadRecord) → records_read_in (read_set ++ n ∷ []) ≤ records_read_in read_set + cond (is_some n.1) 1 0
last_read read_set n = subst (λ k. k ≤ records_read_in read_set + cond (is_some n.1) 1 0) (sym (sum_by-append counts read_set (n ∷ []) ∙ ap (λ k. records_read_in read_set + k) (sum_by-cons counts n []))) (only (records_read_in read_set) (cond (is_some n.1) 1 0))
  where
    only : (a b : ℕ) → a + (b + 0) ≤ a + b
    only a b = omega arith

noted_one : (read_set : List ReadRecord) (r : Record) → records_read_in (with_read_record read_set r.key (Some r)) ≤ records_read_in read_set + 1
noted_one read_set r = by (is_key_read read_set r.key)
  where
    by : (b : Bool) → records_read_in (if b then read_set else read_set ++ (r.key, Some r) ∷ []) ≤ records_read_in read_set + 1
    by true = further (records_read_in read_set) 1
    by false = last_read read_set (r.key, Some r)

noted_all : (read_set : List ReadRecord) (images : List Record) → records_read_in (with_images read_set images) ≤ records_read_in read_set + length images
noted_all read_set [] = further (records_read_in read_set) 0
noted_all read_set (r ∷ rs) = both (records_read_in (with_images (with_read_record read_set r.key (Some r)) rs)) (records_read_in (with_read_record read_set r.key (Some r))) (records_read_in read_set) (length rs) (noted_all (with_read_record read_set r.key (Some r)) rs) (noted_one read_set r)
  where
    both : (a b c d : ℕ) → a ≤ b + d → b ≤ c + 1 → a ≤ c + suc d
    both a b c d l m = omega arith

pub filled_noting : (counted found : ℕ) (t : TxnAt) (a : Access) (images : List Record) → IsFilledBy counted found t.seen → IsFilledBy counted (found + length images) (with_rows_read t a images).seen
filled_noting counted found t (access.Get key) images h = record { writes = h.writes; read_set = by images }
  where
    within : (a b x y f : ℕ) → a ≤ b + x → b ≤ f → x ≤ y → a ≤ f + y
    within a b x y f k l m = omega arith

    one_least : (n : ℕ) → 1 ≤ suc n
    one_least n = omega arith

    few : (rs : List Record) → cond (is_some (slice_get rs 0)) 1 0 ≤ length rs
    few [] = least 0
    few (r ∷ rs) = one_least (length rs)

    by : (rs : List Record) → records_read_in (t.seen.read_set ++ (key, slice_get rs 0) ∷ []) ≤ found + length rs
    by rs = within (records_read_in (t.seen.read_set ++ (key, slice_get rs 0) ∷ [])) (records_read_in t.seen.read_set) (cond (is_some (slice_get rs 0)) 1 0) (length rs) found (last_read t.seen.read_set (key, slice_get rs 0)) h.read_set (few rs)
filled_noting counted found t (access.Scan span) images h = record { writes = h.writes; read_set = within (records_read_in (with_images t.seen.read_set images)) (records_read_in t.seen.read_set) (length images) found (noted_all t.seen.read_set images) h.read_set }
  where
    within : (a b x f : ℕ) → a ≤ b + x → b ≤ f → a ≤ f + x
    within a b x f k l = omega arith

-- a read has no more images than records were found
pub images_few : (a : Access) (calls : List StoreCall) (images : List Record) → HasRead (request_of a) calls images [] → IsDataTable (access_table a) → length images ≤ records_found calls
images_few a calls images h is =
    subst (λ (rs : List Record). length rs ≤ records_found calls) (sym h.images_are)
    (through (length (filter_map (λ (e : Record × Option Record). e.1) h.steps)) (length h.steps) (records_found calls) (fewer h.steps)
    (subst (λ n. n ≤ records_found calls) (ap length h.rows ∙ ap length (append-nil (map (λ (e : Record × Option Record). e.0) h.steps)) ∙ length-map h.steps (λ (e : Record × Option Record). e.0)) first_found))
  where
    suc_more : (n m : ℕ) → n ≤ m → n ≤ suc m
    suc_more n m l = omega arith

    suc_both : (n m : ℕ) → n ≤ m → suc n ≤ suc m
    suc_both n m l = omega arith

    fewer : (es : List (Record × Option Record)) → length (filter_map (λ (e : Record × Option Record). e.1) es) ≤ length es
    fewer [] = least 0
    fewer (e ∷ es) = by e.1 (fewer es)
      where
        by : (o : Option Record) → length (filter_map (λ (e : Record × Option Record). e.1) es) ≤ length es → length (cons_option o (filter_map (λ (e : Record × Option Record). e.1) es)) ≤ suc (length es)
        by None ih = suc_more (length (filter_map (λ (e : Record × Option Record). e.1) es)) (length es) ih
        by (Some r) ih = suc_both (length (filter_map (λ (e : Record × Option Record). e.1) es)) (length es) ih

    first_found : length (records_read h.first.reply) ≤ records_found calls
    first_found =
        subst (λ ms. length (records_read h.first.reply) ≤ records_found ms) (sym h.calls_are)
        (subst (λ (b : Bool). length (records_read h.first.reply) ≤ sum_by records_in (if b then h.first ∷ filter reads_rows h.rest else filter reads_rows h.rest)) (sym (data_read a is h.first h.request))
        (subst (λ n. length (records_read h.first.reply) ≤ n) (sym (sum_by-cons records_in h.first (filter reads_rows h.rest))) (further (length (records_read h.first.reply)) (sum_by records_in (filter reads_rows h.rest)))))

---- what a statement's plan changes

-- it counts what it changes
counted_changes : (t : Table) (st : Statement) (rows : List Image) → length (changes_on t st rows) ≤ rows_counted (Some (answer_on t st rows))
counted_changes t (statement.Insert s) rows = by (is_some (columns_at (key_of t s) rows))
  where
    by : (b : Bool) → length (if b then [] else put_row (key_of t s) (with_named t s.columns s.values []) ∷ []) ≤ rows_counted (Some (if b then answer.Duplicate (key_of t s) else answer.Count 1))
    by true = least 0
    by false = least 1
counted_changes t (statement.Upsert s) rows = least 1
counted_changes t (statement.Update s) rows = subst (λ n. n ≤ length (filter (passes t s.tests) rows)) (sym (length-map (filter (passes t s.tests) rows) (λ r. record { key = r.key; change = change.Row (with_sets t s.sets r.columns) }))) (least (length (filter (passes t s.tests) rows)))
counted_changes t (statement.Delete s) rows = subst (λ n. n ≤ length (filter (passes t s.tests) rows)) (sym (length-map (filter (passes t s.tests) rows) (λ r. record { key = r.key; change = change.Delete }))) (least (length (filter (passes t s.tests) rows)))
counted_changes t (statement.Select s) rows = least 0
counted_changes t statement.Begin rows = zero_least (rows_counted (Some (answer_on t statement.Begin rows)))
counted_changes t statement.Commit rows = zero_least (rows_counted (Some (answer_on t statement.Commit rows)))
counted_changes t statement.Rollback rows = zero_least (rows_counted (Some (answer_on t statement.Rollback rows)))
counted_changes t statement.Vacuum rows = zero_least (rows_counted (Some (answer_on t statement.Vacuum rows)))

abbrev unless : Bool → ℕ → ℕ
unless b n = if b then 0 else n

-- what is left where the transaction read as `v`
abbrev IsLeftBy : ℕ → ℕ → ℕ → Answer → Seen → Type 0
IsLeftBy counted found own b s = IsFilledBy (counted + unless (changes_nothing b) (rows_counted (Some b))) (found + own) s

module _ (counted found own : ℕ) (v : TxnAt) (now : IsFilledBy counted (found + own) v.seen) where
  as_read : IsFilledBy (counted + 0) (found + own) v.seen
  as_read = filled_up counted (counted + 0) (found + own) (found + own) v.seen (further counted 0) (least (found + own)) now

  with_changes : (b : Answer) (ks : List Keyed) → length ks ≤ rows_counted (Some b) → IsFilledBy (counted + rows_counted (Some b)) (found + own) (written v ks).seen
  with_changes b ks few = record { writes = within (length (with_writes v.seen.read_set v.seen.writes ks)) (length v.seen.writes) (length ks) counted (rows_counted (Some b)) (length_all v.seen.read_set v.seen.writes ks) now.writes few; read_set = now.read_set }
    where
      within : (a b x f y : ℕ) → a ≤ b + x → b ≤ f → x ≤ y → a ≤ f + y
      within a b x f y k l m = omega arith

  finished_left : (b : Answer) (ks : List Keyed) → length ks ≤ rows_counted (Some b) → IsLeftBy counted found own (given_answer v (Finished b ks)) (given_left v (Finished b ks)).seen
  finished_left b ks few = by (not (changes_nothing b) && too_many v ks)
    where
      by_changes : (t : Bool) → IsFilledBy (counted + unless t (rows_counted (Some b))) (found + own) (if t then v else written v ks).seen
      by_changes true = as_read
      by_changes false = with_changes b ks few

      by : (z : Bool) → IsLeftBy counted found own (if z then refused 15 else b) (left_by_answer v (if z then refused 15 else b) ks).seen
      by true = as_read
      by false = by_changes (changes_nothing b)

  given_left_by : (p : Planned) (rows : List Image) → IsLeftBy counted found own (given_answer v (step_of p rows)) (given_left v (step_of p rows)).seen
  given_left_by p rows = by_asked p.asked
    where
      by_unfit : (o : Option Key) → IsLeftBy counted found own (given_answer v (finished p.table p.statement rows o)) (given_left v (finished p.table p.statement rows o)).seen
      by_unfit None = finished_left (answer_on p.table p.statement rows) (changes_on p.table p.statement rows) (counted_changes p.table p.statement rows)
      by_unfit (Some key) = finished_left (answer.BadRecord key) [] (least 0)

      by_asked : (b : Bool) → IsLeftBy counted found own (given_answer v (step_at b p.table p.statement rows)) (given_left v (step_at b p.table p.statement rows)).seen
      by_asked false = as_read
      by_asked true = by_unfit (first_unfit p.table rows)

-- what is said of a statement counts where a test takes it
one_taken : (t : Executed → Bool) (f : Executed → ℕ) (s : Executed) (b : Bool) (n : ℕ) → t s ≡ not b → n ≤ f s → unless b n ≤ sum_by f (filter t (s ∷ []))
one_taken t f s b n is few = subst (λ z. unless b n ≤ sum_by f (if z then s ∷ [] else [])) (sym is) (by b)
  where
    within : (k : ℕ) → n ≤ k → n ≤ k + 0
    within k l = omega arith

    by : (z : Bool) → unless z n ≤ sum_by f (if not z then s ∷ [] else [])
    by true = least 0
    by false = subst (λ k. n ≤ k) (sym (sum_by-cons f s [])) (within (f s) few)

effective_is : (s : Executed) (b : Answer) → s.answer ≡ Some b → is_effective s ≡ not (changes_nothing b)
effective_is s b is = ap (λ (o : Option Answer). not (option_map_or changes_nothing o false)) is

-- what a statement's plan leaves, with the statement
pub filled_given : (catalog : List Table) (events : List Event) (e : Event) (c : ℕ) (body : List Executed) (s : Executed) (p : Planned) (rows : List Image) (v : TxnAt) (own : ℕ) → AllByRecursion (IsAnswered catalog events c) body → s.answer ≡ Some (given_answer v (step_of p rows)) → has_read (events ++ e ∷ []) c s ≡ true → own ≤ records_found (calls_of (events ++ e ∷ []) c s)
    → IsFilledBy (rows_counted_by body) (records_found_by events c body + own) v.seen → IsFilledBy (rows_counted_by (body ++ s ∷ [])) (records_found_by (events ++ e ∷ []) c (body ++ s ∷ [])) (given_left v (step_of p rows)).seen
filled_given catalog events e c body s p rows v own all is finished few now =
    filled_up (rows_counted_by body + unless (changes_nothing (given_answer v (step_of p rows))) (rows_counted (Some (given_answer v (step_of p rows))))) (rows_counted_by (body ++ s ∷ [])) (records_found_by events c body + own) (records_found_by (events ++ e ∷ []) c (body ++ s ∷ [])) (given_left v (step_of p rows)).seen
    (subst (λ n. rows_counted_by body + unless (changes_nothing (given_answer v (step_of p rows))) (rows_counted (Some (given_answer v (step_of p rows)))) ≤ n) (sym (counted_more body s)) (sums (rows_counted_by body) (rows_counted_by body) (unless (changes_nothing (given_answer v (step_of p rows))) (rows_counted (Some (given_answer v (step_of p rows))))) (rows_counted_by (s ∷ [])) (least (rows_counted_by body)) (one_taken is_effective (λ x. rows_counted x.answer) s (changes_nothing (given_answer v (step_of p rows))) (rows_counted (Some (given_answer v (step_of p rows)))) (effective_is s (given_answer v (step_of p rows)) is) (subst (λ o. rows_counted (Some (given_answer v (step_of p rows))) ≤ rows_counted o) (sym is) (least (rows_counted (Some (given_answer v (step_of p rows)))))))))
    (subst (λ n. records_found_by events c body + own ≤ n) (sym (found_more (events ++ e ∷ []) c body s)) (sums (records_found_by events c body) (records_found_by (events ++ e ∷ []) c body) own (records_found_by (events ++ e ∷ []) c (s ∷ [])) (found_stays catalog events e c body all) (one_taken (has_read (events ++ e ∷ []) c) (λ x. records_found (calls_of (events ++ e ∷ []) c x)) s false own finished few)))
    (given_left_by (rows_counted_by body) (records_found_by events c body) own v now p rows)
  where
    sums : (a b x y : ℕ) → a ≤ b → x ≤ y → a + x ≤ b + y
    sums a b x y l m = omega arith

---- where the changes are too many

too_is : (t : TxnAt) (ks : List Keyed) → too_many t ks ≡ true → nat_lt 4096 (length (with_writes t.seen.read_set t.seen.writes ks)) ≡ true
too_is t [] h = clash (sym h)
too_is t (k ∷ ks) h = h

known_changes : (read_set : List ReadRecord) (ws : List Write) (f : Image → Keyed) → ((r : Image) → (f r).key ≡ r.key) → (rs : List Image) → AllByRecursion (λ (r : Image). IsKnown read_set ws r.key) rs → AllByRecursion (λ (k : Keyed). IsKnown read_set ws k.key) (map f rs)
known_changes read_set ws f same [] all = tt
known_changes read_set ws f same (r ∷ rs) all = (subst (IsKnown read_set ws) (sym (same r)) all.0, known_changes read_set ws f same rs all.1)

-- one key more
one_passes : (counted found : ℕ) (v : TxnAt) (k : Keyed) → IsFilledBy counted found v.seen → too_many v (k ∷ []) ≡ true → nat_lt 4096 (counted + 1) ≡ true
one_passes counted found v k h many = over_more (length (with_writes v.seen.read_set v.seen.writes (k ∷ []))) (counted + 1) (within (length (with_writes v.seen.read_set v.seen.writes (k ∷ []))) (length v.seen.writes) counted (length_all v.seen.read_set v.seen.writes (k ∷ [])) h.writes) many
  where
    within : (a b f : ℕ) → a ≤ b + 1 → b ≤ f → a ≤ f + 1
    within a b f k l = omega arith

-- those of rows that are seen
rows_pass : (counted found : ℕ) (v : TxnAt) (ks : List Keyed) → IsFilledBy counted found v.seen → AllByRecursion (λ (k : Keyed). IsKnown v.seen.read_set v.seen.writes k.key) ks → too_many v ks ≡ true → nat_lt 4096 (counted + found) ≡ true
rows_pass counted found v ks h known many = over_more (length (with_writes v.seen.read_set v.seen.writes ks)) (counted + found) (within (length (with_writes v.seen.read_set v.seen.writes ks)) (length v.seen.writes) (records_read_in v.seen.read_set) counted found (known_few v.seen.read_set v.seen.writes ks known) h.writes h.read_set) (too_is v ks many)
  where
    within : (a b x f y : ℕ) → a ≤ b + x → b ≤ f → x ≤ y → a ≤ f + y
    within a b x f y k l m = omega arith

pub passes_given : (counted found : ℕ) (v : TxnAt) (a : Access) (t : Table) (st : Statement) → IsFilledBy counted found v.seen → too_many v (changes_on t st (overlay a v.seen)) ≡ true → may_pass counted found st ≡ true
passes_given counted found v a t (statement.Insert s) h many = by (is_some (columns_at (key_of t s) (overlay a v.seen))) many
  where
    by : (b : Bool) → too_many v (if b then [] else put_row (key_of t s) (with_named t s.columns s.values []) ∷ []) ≡ true → nat_lt 4096 (counted + 1) ≡ true
    by true m = clash (sym m)
    by false m = one_passes counted found v (put_row (key_of t s) (with_named t s.columns s.values [])) h m
passes_given counted found v a t (statement.Upsert s) h many = one_passes counted found v (put_row (key_of t s) (with_named t s.columns s.values (unwrap_or (columns_at (key_of t s) (overlay a v.seen)) []))) h many
passes_given counted found v a t (statement.Update s) h many =
    rows_pass counted found v (changes_on t (statement.Update s) (overlay a v.seen)) h
    (known_changes v.seen.read_set v.seen.writes (λ r. record { key = r.key; change = change.Row (with_sets t s.sets r.columns) }) (λ r. refl) (filter (passes t s.tests) (overlay a v.seen)) (each_kept (λ (r : Image). IsKnown v.seen.read_set v.seen.writes r.key) (passes t s.tests) (overlay a v.seen) (rows_known v.seen a))) many
passes_given counted found v a t (statement.Delete s) h many =
    rows_pass counted found v (changes_on t (statement.Delete s) (overlay a v.seen)) h
    (known_changes v.seen.read_set v.seen.writes (λ r. record { key = r.key; change = change.Delete }) (λ r. refl) (filter (passes t s.tests) (overlay a v.seen)) (each_kept (λ (r : Image). IsKnown v.seen.read_set v.seen.writes r.key) (passes t s.tests) (overlay a v.seen) (rows_known v.seen a))) many
passes_given counted found v a t (statement.Select s) h many = clash (sym many)
passes_given counted found v a t statement.Begin h many = clash (sym many)
passes_given counted found v a t statement.Commit h many = clash (sym many)
passes_given counted found v a t statement.Rollback h many = clash (sym many)
passes_given counted found v a t statement.Vacuum h many = clash (sym many)
