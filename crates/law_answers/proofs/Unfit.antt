-- Each row that an open transaction sees fits its table, or was read by a statement of it; and a record that is none of a transaction is of
-- no form of records.
use Rattle.std.proofs.Common.{◌≡◌, ◌⊎◌, inl, inr, ℕ, Bool, true, false, not, cond, List, [], ◌∷◌, ◌++◌, map, Option, Some, None, Result, Ok, Err, refl, sym, ap, subst, ◌∙◌}
use Rattle.std.specs.Prelude.{if◌then◌else◌, ◌&&◌, find, is_ok, is_some, slice_get, Contains, MatchBool}
use Rattle.std.specs.List.{AllByRecursion, cons_option, filter_map, list_all}
use Rattle.std.specs.Option.{option_and_then, option_map, option_map_or}
use Rattle.std.specs.Ordering.{is_eq}
use Rattle.std.specs.Cmp.{tied_itself}
use Rattle.std.specs.FinMap.{get}
use Rattle.std.proofs.lemmas.Bool.{and_parts}
use Rattle.std.proofs.lemmas.List.{append-nil}
use Rattle.std.proofs.lemmas.List.Elements.{Contains-append_left, Contains-append_right, Contains-push}
use Rattle.law_answers.specs.Types.{Access, Event, Image, Key, Keyed, Meta, Pair, Record, Reply, Table, Write}
use Rattle.sdb_types.specs.declared.record.Reply.TheVariants as reply
use Rattle.sdb_types.specs.Contents.{CanAnswer, in_span, rise, record_among}
use Rattle.sdb_types.specs.Exact.{equal_of}
use Rattle.sdb_types.specs.Order.{key_cmp, same_key}
use Rattle.sdb_types.proofs.Public.{by_test, clash, key_exact, key_total, none_some, or_else, same_key_exact, some_is}
use Rattle.sdb_snapshot.specs.Entries.{value_at}
use Rattle.sdb_record.specs.declared.access.Access.TheVariants as access
use Rattle.sdb_record.specs.Coordinator.{decision_in, is_coordinator_table}
use Rattle.sdb_record.specs.Meta.{checked, is_transactional}
use Rattle.sdb_record.specs.Parts.{are_stored}
use Rattle.sdb_record.specs.Rolls.{row_of_image}
use Rattle.sdb_record.specs.Among.{write_among}
use Rattle.sdb_schema.specs.Catalog.{is_catalog}
use Rattle.sdb_schema.specs.Rows.{fits_table}
use Rattle.sdb_model.specs.Access.{in_access, with_changes}
use Rattle.sdb_model.specs.Calls.{StoreCall, calls_of, records_read, records_observed, is_stored_reply}
use Rattle.sdb_model.specs.Causes.{IsBad, is_well_typed, is_misfit}
use Rattle.sdb_model.specs.Exec.{Tables, all_rows, find_table, named_table}
use Rattle.sdb_model.specs.ReadSet.{has_read, meaning_of}
use Rattle.sdb_model.specs.Refused.{refusal_of}
use Rattle.sdb_model.specs.Transactions.{Executed, changes_nothing}
use Rattle.sdb_exec.specs.declared.plan.PlanStep.TheVariants.{Finished}
use Rattle.sdb_exec.specs.Plans.{Planned, answer_on, changes_on, first_unfit, has_all_literals, is_unfit, step_of}
use Rattle.sdb_model.specs.Reads.{access_of}
use Rattle.sdb_txn.specs.Read.{request_of}
use Rattle.sdb_snapshot.specs.Reads.{base_at}
use Rattle.sdb_snapshot.specs.Rows.{tables_of_reads}
use Rattle.sdb_snapshot.specs.Seen.{Seen, overlay, row_seen, row_with, tables_seen}
use Rattle.sdb_snapshot.specs.Written.{with_writes}
use Rattle.sdb_snapshot.proofs.Public.{get_seen, read_images, own_is, value_last}
use Rattle.sdb_txn.specs.Txn.{TxnAt}
use Rattle.sdb_client.specs.Client.{given_answer, given_left, gives, with_rows_read, written}
use Rattle.law_clients.specs.Fitting.{row_is_well_typed}
use Rattle.law_clients.proofs.Public.{access_table}
use Rattle.law_answers.specs.Commits.{IsBadRow, ObservesBad}
use Rattle.law_answers.specs.Changes.{HasRead, IsRows, IsSettledAs}
use Rattle.law_answers.specs.Unfit.{SeesFitOrRead, WasMisfit, AreStoredReplies}
use Rattle.law_answers.proofs.Ends.{first_in}
use Rattle.law_answers.proofs.Fitting.{found_fits, left_at_key, rows_there}
use Rattle.law_answers.proofs.Given.{asked_gives, inside_access}
use Rattle.law_clients.proofs.Public.{found_so}
use Rattle.law_clients.proofs.Public.{passes_all}
use Rattle.law_answers.proofs.Lists.{each_in, each_kept}
use Rattle.law_answers.proofs.Misfits.{fits_more}
use Rattle.law_answers.proofs.ReadSteps.{IsDataTable}
use Rattle.law_answers.proofs.Settling.{data_read, settled_means}

---- records of no form

-- a record that is none of a transaction, with its columns as records hold them, is of no form of records
bad_stored : (r : Record) → are_stored r.columns ≡ true → IsBadRow r → IsBad r
bad_stored r stored h = by_table (is_coordinator_table r.key.table) h
  where
    by_checked : (o : Result Meta (List ℕ)) → checked r.columns ≡ o → is_ok o ≡ false → (name : List ℕ) × (checked r.columns ≡ Err name)
    by_checked (Ok m) e f = clash f
    by_checked (Err name) e f = (name, e)

    of_table : is_transactional r ≡ false → (name : List ℕ) × (checked r.columns ≡ Err name)
    of_table f = by_checked (checked r.columns) refl (sym (ap (λ b. b && is_ok (checked r.columns)) stored) ∙ f)

    by_table : (b : Bool) → MatchBool b ((name : List ℕ) × (decision_in r ≡ Err name)) (is_transactional r ≡ false) → (name : List ℕ) × MatchBool b (decision_in r ≡ Err name) (checked r.columns ≡ Err name)
    by_table true k = k
    by_table false k = of_table k

stored_one : (rs : List Record) → list_all (λ r. are_stored r.columns) rs ≡ true → AllByRecursion (λ r. are_stored r.columns ≡ true) rs
stored_one [] h = tt
stored_one (r ∷ rs) h = let parts = and_parts (are_stored r.columns) (list_all (λ x. are_stored x.columns) rs) h in (parts.0, stored_one rs parts.1)

-- one that calls show
pub observed_bad : (calls : List StoreCall) (key : Key) → AreStoredReplies calls → (b : ObservesBad calls key) → IsBad b.found
observed_bad calls key stored b = bad_stored b.found (each_in (λ (r : Record). are_stored r.columns ≡ true) (records_observed b.call.reply) b.found (stored_one (records_observed b.call.reply) (each_in (λ (m : StoreCall). is_stored_reply m.reply ≡ true) calls b.call stored b.among)) b.observed) b.bad

-- the row of a key with changes written is what they leave of the rows that were seen
pub row_written : (s : Seen) (ks : List Keyed) (q : Key) → row_seen s.read_set (with_writes s.read_set s.writes ks) q ≡ get (with_changes (tables_seen s) ks) q
row_written s ks q = sym (get_seen s.read_set (with_writes s.read_set s.writes ks) q) ∙ ap (λ (e : Tables). get e q) (own_is (tables_of_reads s.read_set) s.read_set s.writes ks)

---- what a read adds

-- what it found at a key
abbrev pub found_new : Access → List Record → Key → Option (Option Record)
found_new (access.Get k) images q = cond (same_key q k) (Some (slice_get images 0)) None
found_new (access.Scan span) images q = option_map Some (record_among images q)

pub rows_read_now : (t : TxnAt) (a : Access) (images : List Record) (q : Key) → value_at (with_rows_read t a images).seen.read_set q ≡ or_else (value_at t.seen.read_set q) (found_new a images q)
rows_read_now t (access.Get k) images q = value_last t.seen.read_set k (slice_get images 0) q
rows_read_now t (access.Scan span) images q = read_images t.seen.read_set images q

pub same_writes : (t : TxnAt) (a : Access) (images : List Record) → (with_rows_read t a images).seen.writes ≡ t.seen.writes
same_writes t (access.Get k) images = refl
same_writes t (access.Scan span) images = refl

abbrev pub at_note : Option (Option Record) → Option Record
at_note o = option_and_then (λ (x : Option Record). x) o

-- a row that is seen then was seen before, or is that of an image
row_new : (t : TxnAt) (a : Access) (images : List Record) (q : Key) (cs : List Pair) → row_seen (with_rows_read t a images).seen.read_set (with_rows_read t a images).seen.writes q ≡ Some cs
    → (row_seen t.seen.read_set t.seen.writes q ≡ Some cs) ⊎ ((b : Record) × (found_new a images q ≡ Some (Some b)) × (row_of_image b ≡ Some cs))
row_new t a images q cs h =
    by (write_among t.seen.writes q) (value_at t.seen.read_set q) (found_new a images q)
    (subst (λ x. row_with (write_among t.seen.writes q) (at_note x) ≡ Some cs) (rows_read_now t a images q) (subst (λ ws. row_with (write_among ws q) (base_at (with_rows_read t a images).seen.read_set q) ≡ Some cs) (same_writes t a images) h))
  where
    by : (o : Option Write) (x y : Option (Option Record)) → row_with o (at_note (or_else x y)) ≡ Some cs → (row_with o (at_note x) ≡ Some cs) ⊎ ((b : Record) × (y ≡ Some (Some b)) × (row_of_image b ≡ Some cs))
    by (Some w) x y e = inl e
    by None (Some x) y e = inl e
    by None None None e = none_some cs e
    by None None (Some None) e = none_some cs e
    by None None (Some (Some b)) e = inr (b, refl, e)

-- the record of which an image is
record IsStepAt (es : List (Record × Option Record)) (b : Record) : Type 0 where
  step : Record × Option Record
  among : Contains es step
  image : step.1 ≡ Some b

step_later : (x : Record × Option Record) (es : List (Record × Option Record)) (b : Record) → IsStepAt es b → IsStepAt (x ∷ es) b
step_later x es b h = record { step = h.step; among = Contains-append_right (x ∷ []) es h.step h.among; image = h.image }

step_first : (x : Record × Option Record) (es : List (Record × Option Record)) (b : Record) → x.1 ≡ Some b → IsStepAt (x ∷ es) b
step_first x es b e = record { step = x; among = Contains-append_left (x ∷ []) es x (Contains-push [] x); image = e }

abbrev image_in : Record × Option Record → Option Record
image_in e = e.1

first_step : (es : List (Record × Option Record)) (b : Record) → slice_get (filter_map image_in es) 0 ≡ Some b → IsStepAt es b
first_step [] b h = none_some b h
first_step (x ∷ es) b h = by x.1 refl (λ k. first_step es b k) h
  where
    by : (o : Option Record) → x.1 ≡ o → (slice_get (filter_map image_in es) 0 ≡ Some b → IsStepAt es b) → slice_get (cons_option o (filter_map image_in es)) 0 ≡ Some b → IsStepAt (x ∷ es) b
    by None e ih k = step_later x es b (ih k)
    by (Some c) e ih k = step_first x es b (e ∙ k)

found_step : (q : Key) (es : List (Record × Option Record)) (b : Record) → record_among (filter_map image_in es) q ≡ Some b → IsStepAt es b × (q ≡ b.key)
found_step q [] b h = none_some b h
found_step q (x ∷ es) b h = by x.1 refl (λ k. found_step q es b k) h
  where
    later : IsStepAt es b × (q ≡ b.key) → IsStepAt (x ∷ es) b × (q ≡ b.key)
    later k = (step_later x es b k.0, k.1)

    here : (c : Record) → x.1 ≡ Some c → (t : Bool) → same_key q c.key ≡ t → (record_among (filter_map image_in es) q ≡ Some b → IsStepAt es b × (q ≡ b.key)) → (if t then Some c else record_among (filter_map image_in es) q) ≡ Some b → IsStepAt (x ∷ es) b × (q ≡ b.key)
    here c e true s ih k = (step_first x es b (e ∙ k), same_key_exact q c.key s ∙ ap (λ (r : Record). r.key) (some_is c b k))
    here c e false s ih k = later (ih k)

    by : (o : Option Record) → x.1 ≡ o → (record_among (filter_map image_in es) q ≡ Some b → IsStepAt es b × (q ≡ b.key)) → record_among (cons_option o (filter_map image_in es)) q ≡ Some b → IsStepAt (x ∷ es) b × (q ≡ b.key)
    by None e ih k = later (ih k)
    by (Some c) e ih k = here c e (same_key q c.key) refl ih k

-- what a read was answered lies at its keys
rows_inside : (a : Access) (r : Reply) → CanAnswer (request_of a) r → IsRows r → AllByRecursion (λ (x : Record). in_access a x.key ≡ true) (records_read r)
rows_inside (access.Get k) (reply.Found None) can answered = tt
rows_inside (access.Get k) (reply.Found (Some x)) can answered = (ap is_eq (ap (key_cmp k) can ∙ tied_itself key_total k), tt)
rows_inside (access.Get k) (reply.Rows rows) can answered = absurd can
rows_inside (access.Scan span) (reply.Rows rows) can answered = each rows (and_parts (rise rows) (list_all (λ (r : Record). in_span span r.key) rows) can).1
  where
    each : (rs : List Record) → list_all (λ (r : Record). in_span span r.key) rs ≡ true → AllByRecursion (λ (x : Record). in_span span x.key ≡ true) rs
    each [] h = tt
    each (x ∷ rs) h = let parts = and_parts (in_span span x.key) (list_all (λ (r : Record). in_span span r.key) rs) h in (parts.0, each rs parts.1)
rows_inside (access.Scan span) (reply.Found found) can answered = absurd can
rows_inside a reply.Applied can answered = absurd answered
rows_inside a (reply.NotMet found) can answered = absurd answered
rows_inside a (reply.NotAll place there) can answered = absurd answered
rows_inside a reply.Fault can answered = absurd answered
rows_inside a reply.NoMemory can answered = absurd answered

step_in : (es : List (Record × Option Record)) (e : Record × Option Record) → Contains es e → Contains (map (λ (x : Record × Option Record). x.0) es) e.0
step_in es e has = each_in (λ (x : Record × Option Record). Contains (map (λ (y : Record × Option Record). y.0) es) x.0) es e (all es) has
  where
    more : (x : Record × Option Record) (rs : List Record) (xs : List (Record × Option Record)) → AllByRecursion (λ (y : Record × Option Record). Contains rs y.0) xs → AllByRecursion (λ (y : Record × Option Record). Contains (x.0 ∷ rs) y.0) xs
    more x rs [] h = tt
    more x rs (y ∷ ys) h = (Contains-append_right (x.0 ∷ []) rs y.0 h.0, more x rs ys h.1)

    all : (xs : List (Record × Option Record)) → AllByRecursion (λ (x : Record × Option Record). Contains (map (λ (y : Record × Option Record). y.0) xs) x.0) xs
    all [] = tt
    all (x ∷ xs) = (Contains-append_left (x.0 ∷ []) (map (λ (y : Record × Option Record). y.0) xs) x.0 (Contains-push [] x.0), more x (map (λ (y : Record × Option Record). y.0) xs) xs (all xs))

-- an image that was read at a key, with its record
pub record IsReadAt (calls : List StoreCall) (first : StoreCall) (a : Access) (q : Key) (b : Record) : Type 0 where
  pub found : Record
  pub settled : IsSettledAs calls (found, Some b)
  pub observed : Contains (records_read first.reply) found
  pub key : found.key ≡ q
  pub inside : in_access a q ≡ true

module _ (calls : List StoreCall) (a : Access) (images : List Record) (h : HasRead (request_of a) calls images []) where
  step_shown : (b : Record) (s : IsStepAt h.steps b) → Contains (records_read h.first.reply) s.step.0
  step_shown b s = subst (λ rs. Contains rs s.step.0) (sym (h.rows ∙ append-nil (map (λ (x : Record × Option Record). x.0) h.steps))) (step_in h.steps s.step s.among)

  step_inside : (b : Record) (s : IsStepAt h.steps b) → in_access a s.step.0.key ≡ true
  step_inside b s = each_in (λ (x : Record). in_access a x.key ≡ true) (records_read h.first.reply) s.step.0 (rows_inside a h.first.reply h.can h.answered) (step_shown b s)

  step_settled : (b : Record) (s : IsStepAt h.steps b) → IsSettledAs calls (s.step.0, Some b)
  step_settled b s = subst (λ (o : Option Record). IsSettledAs calls (s.step.0, o)) s.image (each_in (IsSettledAs calls) h.steps s.step h.settled s.among)

  read_by : (q : Key) (b : Record) (s : IsStepAt h.steps b) → s.step.0.key ≡ q → IsReadAt calls h.first a q b
  read_by q b s e = record { found = s.step.0; settled = step_settled b s; observed = step_shown b s; key = e; inside = subst (λ (k : Key). in_access a k ≡ true) e (step_inside b s) }

pub new_read : (calls : List StoreCall) (a : Access) (images : List Record) (h : HasRead (request_of a) calls images []) (q : Key) (b : Record) → found_new a images q ≡ Some (Some b) → IsReadAt calls h.first a q b
new_read calls (access.Get k) images h q b e = by (same_key q k) refl e
  where
    by : (t : Bool) → same_key q k ≡ t → cond t (Some (slice_get images 0)) None ≡ Some (Some b) → IsReadAt calls h.first (access.Get k) q b
    by false s f = none_some (Some b) f
    by true s f =
        let step : IsStepAt h.steps b = first_step h.steps b (sym (ap (λ is. slice_get is 0) h.images_are) ∙ some_is (slice_get images 0) (Some b) f) in
        read_by calls (access.Get k) images h q b step (sym (key_exact k step.step.0.key (equal_of _ (step_inside calls (access.Get k) images h b step))) ∙ sym (same_key_exact q k s))
new_read calls (access.Scan span) images h q b e = by (record_among images q) refl e
  where
    by : (o : Option Record) → record_among images q ≡ o → option_map Some o ≡ Some (Some b) → IsReadAt calls h.first (access.Scan span) q b
    by None s f = none_some (Some b) f
    by (Some c) s f =
        let step : IsStepAt h.steps b × (q ≡ b.key) = found_step q h.steps b (sym (ap (λ is. record_among is q) h.images_are) ∙ s ∙ some_is (Some c) (Some b) f) in
        read_by calls (access.Scan span) images h q b step.0 (sym (step_settled calls (access.Scan span) images h b step.0).key ∙ sym step.1)

---- rows that fit

pub find_true : (p : Image → Bool) (xs : List Image) (x : Image) → find p xs ≡ Some x → p x ≡ true
find_true p [] x e = none_some x e
find_true p (y ∷ xs) x e = by (p y) refl (λ k. find_true p xs x k) e
  where
    by : (b : Bool) → p y ≡ b → (find p xs ≡ Some x → p x ≡ true) → (if b then Some y else find p xs) ≡ Some x → p x ≡ true
    by true t ih k = subst (λ z. p z ≡ true) (some_is y x k) t
    by false t ih k = ih k

-- a row that is seen at an access and doesn't fit
record IsUnfitRow (t : Table) (a : Access) (s : Seen) (key : Key) : Type 0 where
  columns : List Pair
  unfit : fits_table t key columns ≡ false
  inside : in_access a key ≡ true
  seen : row_seen s.read_set s.writes key ≡ Some columns

unfit_row : (t : Table) (a : Access) (s : Seen) (key : Key) → first_unfit t (overlay a s) ≡ Some key → IsUnfitRow t a s key
unfit_row t a s key e = by (find (is_unfit t) (overlay a s)) refl e
  where
    unfits : (b : Bool) → not b ≡ true → b ≡ false
    unfits true h = clash (sym h)
    unfits false h = refl

    here : (r : Image) → find (is_unfit t) (overlay a s) ≡ Some r → IsUnfitRow t a s r.key
    here r f = record {
      columns = r.columns;
      unfit = unfits (fits_table t r.key r.columns) (find_true (is_unfit t) (overlay a s) r f);
      inside = found_so (λ (x : Image). in_access a x.key ≡ true) (is_unfit t) (overlay a s) r (passes_all (λ (x : Image). in_access a x.key) (all_rows (tables_seen s))) f;
      seen = found_so (λ (x : Image). row_seen s.read_set s.writes x.key ≡ Some x.columns) (is_unfit t) (overlay a s) r (each_kept (λ (x : Image). row_seen s.read_set s.writes x.key ≡ Some x.columns) (λ (x : Image). in_access a x.key) (all_rows (tables_seen s)) (rows_there (λ q cs. row_seen s.read_set s.writes q ≡ Some cs) (tables_seen s) (λ q cs found. sym (get_seen s.read_set s.writes q) ∙ found))) f;
    }

    by : (o : Option Image) → find (is_unfit t) (overlay a s) ≡ o → option_map (λ (r : Image). r.key) o ≡ Some key → IsUnfitRow t a s key
    by None f k = none_some key k
    by (Some r) f k = subst (IsUnfitRow t a s) (some_is r.key key k) (here r f)

---- a statement's plan on its access

module _ (catalog : List Table) (p : Planned) (a : Access) (listed : find_table catalog p.table.name ≡ Some p.table) (own : access_table a ≡ p.table.name) where
  pub table_at : (q : Key) → in_access a q ≡ true → find_table catalog q.table ≡ Some p.table
  table_at q inside = ap (find_table catalog) (inside_access a q inside ∙ own) ∙ listed

  row_at : (q : Key) (cs : List Pair) → in_access a q ≡ true → row_is_well_typed catalog q cs ≡ fits_table p.table q cs
  row_at q cs inside = ap (λ (o : Option Table). option_map_or (λ t. fits_table t q cs) o false) (table_at q inside)

  -- a row that is seen at the access fits where none there is unfit
  pub inside_fits : (s : Seen) → first_unfit p.table (overlay a s) ≡ None → (q : Key) (cs : List Pair) → in_access a q ≡ true → row_seen s.read_set s.writes q ≡ Some cs → row_is_well_typed catalog q cs ≡ true
  inside_fits s none q cs inside found = row_at q cs inside ∙ found_fits p.table a (tables_seen s) q cs none inside (get_seen s.read_set s.writes q ∙ found)

  -- one that is unfit was read by a statement
  pub was_misfit : (events : List Event) (c : ℕ) (body : List Executed) (s : Seen) (key : Key) → SeesFitOrRead catalog events c body s → first_unfit p.table (overlay a s) ≡ Some key → (in_access a key ≡ true) × WasMisfit catalog events c body key
  was_misfit events c body s key sees e = let r = unfit_row p.table a s key e in (r.inside, by r (sees key r.columns r.seen))
    where
      by : (r : IsUnfitRow p.table a s key) → (row_is_well_typed catalog key r.columns ≡ true) ⊎ ((is_some (find_table catalog key.table) ≡ true) × WasMisfit catalog events c body key) → WasMisfit catalog events c body key
      by r (inl fits) = clash (sym fits ∙ row_at key r.columns r.inside ∙ r.unfit)
      by r (inr m) = m.1

  module _ (calls : List StoreCall) (t : TxnAt) (images : List Record) (h : HasRead (request_of a) calls images []) (of_data : IsDataTable (access_table a)) where
    -- a row that was read and doesn't fit is that of a record that was found
    misfit_new : (q : Key) (cs : List Pair) (b : Record) → found_new a images q ≡ Some (Some b) → row_of_image b ≡ Some cs → row_is_well_typed catalog q cs ≡ false → (r : Record) × Contains (records_read h.first.reply) r × (r.key ≡ q) × (is_misfit catalog calls r ≡ true)
    misfit_new q cs b f g unfit =
        let r : IsReadAt calls h.first a q b = new_read calls a images h q b f in (
          r.found,
          r.observed,
          r.key,
          ap (λ (k : Key). not (is_coordinator_table k.table) && option_map_or (λ columns. not (is_well_typed catalog k columns)) (option_and_then row_of_image (meaning_of calls r.found)) false) r.key
              ∙ ap (λ x. not (is_coordinator_table x) && option_map_or (λ columns. not (is_well_typed catalog q columns)) (option_and_then row_of_image (meaning_of calls r.found)) false) (inside_access a q r.inside)
              ∙ ap (λ x. x && option_map_or (λ columns. not (is_well_typed catalog q columns)) (option_and_then row_of_image (meaning_of calls r.found)) false) of_data
              ∙ ap (λ o. option_map_or (λ columns. not (is_well_typed catalog q columns)) (option_and_then row_of_image o) false) (settled_means calls (r.found, Some b) r.settled)
              ∙ ap (λ o. option_map_or (λ columns. not (is_well_typed catalog q columns)) o false) g
              ∙ ap (λ (o : Option Table). not (option_map_or (λ x. fits_table x q cs) o true)) (table_at q r.inside)
              ∙ ap not (sym (row_at q cs r.inside) ∙ unfit),
        )

    -- A statement that has read leaves each row that is seen then one that fits, or that it or one before it read.
    pub sees_read : (events : List Event) (c : ℕ) (body : List Executed) (z : Executed) → calls_of events c z ≡ calls → has_read events c z ≡ true → SeesFitOrRead catalog events c body t.seen → SeesFitOrRead catalog events c (body ++ z ∷ []) (with_rows_read t a images).seen
    sees_read events c body z are finished before q cs found = by (row_new t a images q cs found)
      where
        read : (b : Record) → found_new a images q ≡ Some (Some b) → row_of_image b ≡ Some cs → row_is_well_typed catalog q cs ≡ false → WasMisfit catalog events c (body ++ z ∷ []) q
        read b e f unfit =
            let r = misfit_new q cs b e f unfit in
            record {
              reader = z;
              call = h.first;
              found = r.0;
              among = Contains-append_right body (z ∷ []) z (Contains-push [] z);
              finished = finished;
              reads = (subst (λ ms. Contains ms h.first) (sym are) (first_in h.first h.rest calls h.calls_are), data_read a of_data h.first h.request, r.1, r.2);
              misfit = ap (λ ms. is_misfit catalog ms r.0) are ∙ r.3;
            }

        by : (row_seen t.seen.read_set t.seen.writes q ≡ Some cs) ⊎ ((b : Record) × (found_new a images q ≡ Some (Some b)) × (row_of_image b ≡ Some cs)) → (row_is_well_typed catalog q cs ≡ true) ⊎ ((is_some (find_table catalog q.table) ≡ true) × WasMisfit catalog events c (body ++ z ∷ []) q)
        by (inl e) = fits_more catalog events c body z t.seen before q cs e
        by (inr (b, e, f)) =
            let r : IsReadAt calls h.first a q b = new_read calls a images h q b e in
            by_test (row_is_well_typed catalog q cs) (λ y. inl y) (λ n. inr (ap is_some (table_at q r.inside), read b e f n))

  -- and so does what it writes
  module _ (is : is_catalog catalog ≡ true) (named : named_table catalog p.statement ≡ Some p.table) (asked : p.asked ≡ true) (accepted : refusal_of catalog p.statement ≡ None) (literals : has_all_literals p.statement ≡ true) (access_is : a ≡ access_of p.table p.statement) (events : List Event) (c : ℕ) (body : List Executed) (v : TxnAt) (sees : SeesFitOrRead catalog events c body v.seen) where
    abbrev rows : List Image
    rows = overlay (access_of p.table p.statement) v.seen

    abbrev Sees : TxnAt → Type 0
    Sees u = SeesFitOrRead catalog events c body u.seen

    written_fits : first_unfit p.table rows ≡ None → Sees (written v (changes_on p.table p.statement rows))
    written_fits none q cs found = by (left_at_key catalog p.table p.statement v.seen is named none accepted literals q cs (sym (row_written v.seen (changes_on p.table p.statement rows) q) ∙ found))
      where
        by : (row_is_well_typed catalog q cs ≡ true) ⊎ (get (tables_seen v.seen) q ≡ Some cs) → (row_is_well_typed catalog q cs ≡ true) ⊎ ((is_some (find_table catalog q.table) ≡ true) × WasMisfit catalog events c body q)
        by (inl fits) = inl fits
        by (inr was) = sees q cs (sym (get_seen v.seen.read_set v.seen.writes q) ∙ was)

    left_fits : Sees (given_left v (step_of p rows))
    left_fits = by (first_unfit p.table rows) refl
      where
        left : (t : Bool) → Sees (written v (changes_on p.table p.statement rows)) → Sees (if t then v else written v (changes_on p.table p.statement rows))
        left true new = sees
        left false new = new

        by : (o : Option Key) → first_unfit p.table rows ≡ o → Sees (given_left v (step_of p rows))
        by None e =
            subst (λ y. Sees (given_left v y)) (sym (asked_gives p rows None asked e))
            (left (changes_nothing (given_answer v (Finished (answer_on p.table p.statement rows) (changes_on p.table p.statement rows)))) (written_fits e))
        by (Some key) e = subst (λ y. Sees (given_left v y)) (sym (asked_gives p rows (Some key) asked e)) sees

    pub given_fits : Sees (given_left v (gives p a v))
    given_fits = subst (λ (z : Access). Sees (given_left v (step_of p (overlay z v.seen)))) (sym access_is) left_fits
