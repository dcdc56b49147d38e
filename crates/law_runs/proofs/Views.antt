-- A view with what a statement found agrees with what its client then sees.
use Rattle.std.proofs.Common.{◌≡◌, Bool, true, false, cond, List, [], ◌∷◌, ◌++◌, map, Option, Some, None, refl, sym, ap, ◌∙◌}
use Rattle.std.specs.Prelude.{◌||◌, if◌then◌else◌, filter, is_some, not, slice_get}
use Rattle.std.specs.FinMap.{get, get-insert, get-remove, same_map}
use Rattle.std.specs.List.{AllByRecursion, cons_option, filter_map, flat_map, list_any}
use Rattle.std.specs.Option.{option_map}
use Rattle.std.proofs.lemmas.List.{append-nil}
use Rattle.std.proofs.lemmas.List.Folds.{list_any-append}
use Rattle.law_runs.specs.Types.{Access, Key, Pair, Record, Reply, Table}
use Rattle.sdb_exec.proofs.Public.{sieved_at}
use Rattle.sdb_types.specs.declared.record.Reply.TheVariants as reply
use Rattle.sdb_types.specs.Contents.{CanAnswer, record_among}
use Rattle.sdb_types.specs.Order.{same_key}
use Rattle.sdb_types.proofs.Public.{key_exact, key_total, or_else, or_false, same_key_exact, same_key_is}
use Rattle.sdb_snapshot.specs.Entries.{value_at}
use Rattle.sdb_record.specs.declared.access.Access.TheVariants as access
use Rattle.sdb_record.specs.Among.{write_among}
use Rattle.sdb_model.specs.Access.{with_row}
use Rattle.sdb_model.specs.Calls.{StoreCall, records_read}
use Rattle.sdb_model.specs.Exec.{Tables}
use Rattle.sdb_model.specs.ReadSet.{meaning_of, reads_rows}
use Rattle.sdb_txn.specs.Read.{request_of}
use Rattle.sdb_snapshot.specs.Sets.{WereRead}
use Rattle.sdb_snapshot.specs.Reads.{is_key_read}
use Rattle.sdb_snapshot.specs.Rows.{row_found}
use Rattle.sdb_snapshot.specs.Seen.{Seen, row_seen, row_with, tables_seen}
use Rattle.sdb_snapshot.proofs.Public.{get_seen}
use Rattle.sdb_txn.specs.Txn.{TxnAt}
use Rattle.sdb_client.specs.Client.{with_rows_read}
use Rattle.law_clients.specs.Fitting.{row_is_well_typed}
use Rattle.law_clients.proofs.Public.{access_table}
use Rattle.law_answers.specs.Changes.{HasRead, IsRows, IsSettledAs}
use Rattle.law_answers.proofs.Public.{at_note, data_read, found_new, get_fitting, IsDataTable, rows_read_now, same_writes, settled_means, unwritten}
use Rattle.law_answers.specs.Unfit.{fits_catalog, fitting_part}
use Rattle.law_runs.specs.Found.{View, found_by, found_in, has_found, is_misfit_row, with_found, with_one_found}

---- a view with what was found

-- by what was found at a key before, and now
abbrev laid : List Table → Key → Bool → Option (Option Record) → Option (List Pair) → Option (List Pair)
laid catalog q true now row = row
laid catalog q false None row = row
laid catalog q false (Some found) row = if is_misfit_row catalog q (row_found found) then row else row_found found

-- whether the row there doesn't fit
abbrev laid_misfit : List Table → Key → Bool → Option (Option Record) → Bool → Bool
laid_misfit catalog q true now misfit = misfit
laid_misfit catalog q false None misfit = misfit
laid_misfit catalog q false (Some found) misfit = misfit || is_misfit_row catalog q (row_found found)

-- the row found at a key doesn't fit
abbrev pub has_misfit : View → Key → Bool
has_misfit v q = list_any (same_key q) v.misfits

get_row : (d : Tables) (k : Key) (o : Option (List Pair)) (q : Key) → get (with_row d k o) q ≡ cond (same_key q k) o (get d q)
get_row d k None q = get-remove key_total d k q ∙ ap (λ b. cond b None (get d q)) (sym (same_key_is q k))
get_row d k (Some c) q = get-insert key_total d k c q ∙ ap (λ b. cond b (Some c) (get d q)) (sym (same_key_is q k))

has_same : (v : View) (k q : Key) → same_key q k ≡ true → has_found v q ≡ has_found v k
has_same v k q e = ap (has_found v) (same_key_exact q k e)

-- one thing that was found
module _ (catalog : List Table) (v : View) (k : Key) (o : Option Record) (q : Key) where
  -- a view with it, where its key is new
  abbrev with_new : Bool → View
  with_new m = if m then record { keys = v.keys ++ k ∷ []; misfits = v.misfits ++ k ∷ []; rows = v.rows } else record { keys = v.keys ++ k ∷ []; misfits = v.misfits; rows = with_row v.rows k (row_found o) }

  one_found : has_found (with_one_found catalog v (k, o)) q ≡ (has_found v q || same_key q k)
  one_found = by (has_found v k) (is_misfit_row catalog k (row_found o)) (same_key q k) refl refl
    where
      key_new : (t : Bool) → same_key q k ≡ t → list_any (same_key q) (v.keys ++ k ∷ []) ≡ (has_found v q || t)
      key_new t f = list_any-append (same_key q) v.keys (k ∷ []) ∙ ap (λ x. has_found v q || (x || false)) f ∙ ap (λ x. has_found v q || x) (or_false t)

      by : (b m t : Bool) → has_found v k ≡ b → same_key q k ≡ t → has_found (if b then v else with_new m) q ≡ (has_found v q || t)
      by true m true e f = has_same v k q f ∙ e ∙ sym (ap (λ x. x || true) (has_same v k q f ∙ e))
      by true m false e f = sym (or_false (has_found v q))
      by false true t e f = key_new t f
      by false false t e f = key_new t f

  one_row_found : get (with_one_found catalog v (k, o)).rows q ≡ laid catalog q (has_found v q) (cond (same_key q k) (Some o) None) (get v.rows q)
  one_row_found = by (has_found v k) (is_misfit_row catalog k (row_found o)) (same_key q k) refl refl refl
    where
      same : (x : Bool) → laid catalog q x None (get v.rows q) ≡ get v.rows q
      same true = refl
      same false = refl

      -- what was found now is there
      now : (m : Bool) → has_found v k ≡ false → is_misfit_row catalog k (row_found o) ≡ m → same_key q k ≡ true → laid catalog q (has_found v q) (Some o) (get v.rows q) ≡ (if m then get v.rows q else row_found o)
      now m e g f = ap (λ x. laid catalog q x (Some o) (get v.rows q)) (has_same v k q f ∙ e) ∙ ap (λ y. if y then get v.rows q else row_found o) (ap (λ (z : Key). is_misfit_row catalog z (row_found o)) (same_key_exact q k f) ∙ g)

      by : (b m t : Bool) → has_found v k ≡ b → is_misfit_row catalog k (row_found o) ≡ m → same_key q k ≡ t → get (if b then v else with_new m).rows q ≡ laid catalog q (has_found v q) (cond t (Some o) None) (get v.rows q)
      by true m true e g f = sym (ap (λ x. laid catalog q x (Some o) (get v.rows q)) (has_same v k q f ∙ e))
      by true m false e g f = sym (same (has_found v q))
      by false true true e g f = sym (now true e g f)
      by false true false e g f = sym (same (has_found v q))
      by false false true e g f = get_row v.rows k (row_found o) q ∙ ap (λ x. cond x (row_found o) (get v.rows q)) f ∙ sym (now false e g f)
      by false false false e g f = get_row v.rows k (row_found o) q ∙ ap (λ x. cond x (row_found o) (get v.rows q)) f ∙ sym (same (has_found v q))

  one_misfit : has_misfit (with_one_found catalog v (k, o)) q ≡ laid_misfit catalog q (has_found v q) (cond (same_key q k) (Some o) None) (has_misfit v q)
  one_misfit = by (has_found v k) (is_misfit_row catalog k (row_found o)) (same_key q k) refl refl refl
    where
      same : (x : Bool) → laid_misfit catalog q x None (has_misfit v q) ≡ has_misfit v q
      same true = refl
      same false = refl

      now : (m : Bool) → has_found v k ≡ false → is_misfit_row catalog k (row_found o) ≡ m → same_key q k ≡ true → laid_misfit catalog q (has_found v q) (Some o) (has_misfit v q) ≡ (has_misfit v q || m)
      now m e g f = ap (λ x. laid_misfit catalog q x (Some o) (has_misfit v q)) (has_same v k q f ∙ e) ∙ ap (λ y. has_misfit v q || y) (ap (λ (z : Key). is_misfit_row catalog z (row_found o)) (same_key_exact q k f) ∙ g)

      more : (t : Bool) → same_key q k ≡ t → list_any (same_key q) (v.misfits ++ k ∷ []) ≡ (has_misfit v q || t)
      more t f = list_any-append (same_key q) v.misfits (k ∷ []) ∙ ap (λ x. has_misfit v q || (x || false)) f ∙ ap (λ x. has_misfit v q || x) (or_false t)

      by : (b m t : Bool) → has_found v k ≡ b → is_misfit_row catalog k (row_found o) ≡ m → same_key q k ≡ t → has_misfit (if b then v else with_new m) q ≡ laid_misfit catalog q (has_found v q) (cond t (Some o) None) (has_misfit v q)
      by true m true e g f = sym (ap (λ x. laid_misfit catalog q x (Some o) (has_misfit v q)) (has_same v k q f ∙ e))
      by true m false e g f = sym (same (has_found v q))
      by false true true e g f = more true f ∙ sym (now true e g f)
      by false true false e g f = more false f ∙ or_false (has_misfit v q) ∙ sym (same (has_found v q))
      by false false true e g f = sym (or_false (has_misfit v q)) ∙ sym (now false e g f)
      by false false false e g f = sym (same (has_found v q))

-- what a view with some things that were found has at a key
pub record IsFoundAt (catalog : List Table) (v : View) (fs : List (Key × Option Record)) (q : Key) : Type 0 where
  pub keys : has_found (with_found catalog v fs) q ≡ (has_found v q || is_some (value_at fs q))
  pub rows : get (with_found catalog v fs).rows q ≡ laid catalog q (has_found v q) (value_at fs q) (get v.rows q)
  pub misfits : has_misfit (with_found catalog v fs) q ≡ laid_misfit catalog q (has_found v q) (value_at fs q) (has_misfit v q)

-- all that a statement found
pub all_found : (catalog : List Table) (v : View) (fs : List (Key × Option Record)) (q : Key) → IsFoundAt catalog v fs q
all_found catalog v [] q = record { keys = sym (or_false (has_found v q)); rows = row (has_found v q); misfits = misfit (has_found v q) }
  where
    row : (x : Bool) → get v.rows q ≡ laid catalog q x None (get v.rows q)
    row true = refl
    row false = refl

    misfit : (x : Bool) → has_misfit v q ≡ laid_misfit catalog q x None (has_misfit v q)
    misfit true = refl
    misfit false = refl
all_found catalog v (e ∷ fs) q =
    let w = with_one_found catalog v e in
    let ih = all_found catalog w fs q in
    record {
      keys = ih.keys ∙ ap (λ x. x || is_some (value_at fs q)) (one_found catalog v e.0 e.1 q) ∙ has (has_found v q) (same_key q e.0) (value_at fs q);
      rows =
          ih.rows ∙ ap (λ x. laid catalog q x (value_at fs q) (get w.rows q)) (one_found catalog v e.0 e.1 q) ∙ ap (laid catalog q (has_found v q || same_key q e.0) (value_at fs q)) (one_row_found catalog v e.0 e.1 q)
          ∙ row (has_found v q) (same_key q e.0) (value_at fs q);
      misfits =
          ih.misfits ∙ ap (λ x. laid_misfit catalog q x (value_at fs q) (has_misfit w q)) (one_found catalog v e.0 e.1 q) ∙ ap (laid_misfit catalog q (has_found v q || same_key q e.0) (value_at fs q)) (one_misfit catalog v e.0 e.1 q)
          ∙ misfit (has_found v q) (same_key q e.0) (value_at fs q);
    }
  where
    has : (b t : Bool) (o : Option (Option Record)) → ((b || t) || is_some o) ≡ (b || is_some (cond t (Some e.1) o))
    has true t o = refl
    has false true o = refl
    has false false o = refl

    row : (b t : Bool) (o : Option (Option Record)) → laid catalog q (b || t) o (laid catalog q b (cond t (Some e.1) None) (get v.rows q)) ≡ laid catalog q b (cond t (Some e.1) o) (get v.rows q)
    row true t o = refl
    row false true o = refl
    row false false o = refl

    misfit : (b t : Bool) (o : Option (Option Record)) → laid_misfit catalog q (b || t) o (laid_misfit catalog q b (cond t (Some e.1) None) (has_misfit v q)) ≡ laid_misfit catalog q b (cond t (Some e.1) o) (has_misfit v q)
    misfit true t o = refl
    misfit false true o = refl
    misfit false false o = refl

---- what the calls of a read found

-- the images of a scan by their keys
found_images : (images : List Record) (q : Key) → value_at (map (λ (b : Record). (b.key, Some b)) images) q ≡ option_map Some (record_among images q)
found_images [] q = refl
found_images (b ∷ bs) q = ap (λ o. cond (same_key q b.key) (Some (Some b)) o) (found_images bs q) ∙ by (same_key q b.key)
  where
    by : (t : Bool) → cond t (Some (Some b)) (option_map Some (record_among bs q)) ≡ option_map Some (if t then Some b else record_among bs q)
    by true = refl
    by false = refl

module _ (calls : List StoreCall) where
  found_one : (a : Access) (r : Reply) (images done : List Record) → CanAnswer (request_of a) r → IsRows r → records_read r ≡ done → images ≡ filter_map (meaning_of calls) done → (q : Key) → value_at (found_in calls (request_of a) r) q ≡ found_new a images q
  found_one (access.Get k) (reply.Found None) images done can rows_found rows are q = ap (λ x. cond (same_key q k) (Some x) None) (sym (ap (λ is. slice_get is 0) (are ∙ ap (filter_map (meaning_of calls)) (sym rows))))
  found_one (access.Get k) (reply.Found (Some r)) images done can rows_found rows are q = ap (λ x. cond (same_key q k) (Some x) None) (sym (ap (λ is. slice_get is 0) (are ∙ ap (filter_map (meaning_of calls)) (sym rows)) ∙ first (meaning_of calls r)))
    where
      first : (o : Option Record) → slice_get (cons_option o []) 0 ≡ o
      first None = refl
      first (Some b) = refl
  found_one (access.Scan span) (reply.Rows rs) images done can rows_found rows are q = found_images (filter_map (meaning_of calls) rs) q ∙ ap (λ is. option_map Some (record_among is q)) (ap (filter_map (meaning_of calls)) rows ∙ sym are)
  found_one (access.Get k) (reply.Rows rs) images done can rows_found rows are q = absurd can
  found_one (access.Scan span) (reply.Found found) images done can rows_found rows are q = absurd can
  found_one a reply.Applied images done can rows_found rows are q = absurd rows_found
  found_one a (reply.NotMet found) images done can rows_found rows are q = absurd rows_found
  found_one a (reply.NotAll place there) images done can rows_found rows are q = absurd rows_found
  found_one a reply.Fault images done can rows_found rows are q = absurd rows_found
  found_one a reply.NoMemory images done can rows_found rows are q = absurd rows_found

  -- the images are what the rows mean
  steps_mean : (es : List (Record × Option Record)) → AllByRecursion (IsSettledAs calls) es → filter_map (λ (e : Record × Option Record). e.1) es ≡ filter_map (meaning_of calls) (map (λ e. e.0) es)
  steps_mean [] all = refl
  steps_mean (e ∷ es) all = ap (cons_option e.1) (steps_mean es all.1) ∙ ap (λ o. cons_option o (filter_map (meaning_of calls) (map (λ x. x.0) es))) (sym (settled_means calls e all.0))

  none_read : (ms : List StoreCall) → AllByRecursion (λ m. reads_rows m ≡ false) ms → filter reads_rows ms ≡ []
  none_read [] all = refl
  none_read (m ∷ ms) all = ap (λ b. if b then m ∷ filter reads_rows ms else filter reads_rows ms) all.0 ∙ none_read ms all.1

  -- a read is one call that reads rows
  pub read_only : (a : Access) (images : List Record) (h : HasRead (request_of a) calls images []) → IsDataTable (access_table a) → filter reads_rows calls ≡ h.first ∷ []
  read_only a images h own = ap (filter reads_rows) h.calls_are ∙ ap (λ b. if b then h.first ∷ filter reads_rows h.rest else filter reads_rows h.rest) (data_read a own h.first h.request) ∙ ap (λ ms. h.first ∷ ms) (none_read h.rest h.others)

  -- A read finds, by its calls, what its client notes.
  pub found_now : (a : Access) (images : List Record) → HasRead (request_of a) calls images [] → IsDataTable (access_table a) → (q : Key) → value_at (found_by calls) q ≡ found_new a images q
  found_now a images h own q =
      ap (λ ms. value_at (flat_map (λ (m : StoreCall). found_in calls m.request m.reply) ms) q) (read_only a images h own)
      ∙ ap (λ es. value_at es q) (append-nil (found_in calls h.first.request h.first.reply))
      ∙ ap (λ x. value_at (found_in calls x h.first.reply) q) h.request
      ∙ found_one a h.first.reply images (map (λ e. e.0) h.steps) h.can h.answered (h.rows ∙ append-nil (map (λ e. e.0) h.steps)) (h.images_are ∙ steps_mean h.steps h.settled) q

---- what a client sees

-- A view is what a transaction has read and written: something was found at the keys that were read, its rows are those that the transaction
-- sees and that fit, and its misfits are the keys of the others.
pub record IsViewOf (catalog : List Table) (v : View) (s : Seen) : Type 0 where
  pub keys : (q : Key) → has_found v q ≡ is_key_read s.read_set q
  pub rows : (q : Key) → get v.rows q ≡ sieved_at (fits_catalog catalog) q (row_seen s.read_set s.writes q)
  pub misfits : (q : Key) → has_misfit v q ≡ is_misfit_row catalog q (row_seen s.read_set s.writes q)

-- its rows are the part that fits of the tables that it sees
pub view_tables : (catalog : List Table) (v : View) (s : Seen) → IsViewOf catalog v s → v.rows ≡ fitting_part catalog (tables_seen s)
view_tables catalog v s h =
    same_map key_total key_exact v.rows (fitting_part catalog (tables_seen s)) (λ q. h.rows q ∙ ap (sieved_at (fits_catalog catalog) q) (sym (get_seen s.read_set s.writes q)) ∙ sym (get_fitting catalog (tables_seen s) q))

-- a row that doesn't fit is sieved out
sieved_row : (catalog : List Table) (q : Key) (o : Option (List Pair)) → (if is_misfit_row catalog q o then None else o) ≡ sieved_at (fits_catalog catalog) q o
sieved_row catalog q None = refl
sieved_row catalog q (Some cs) = by (row_is_well_typed catalog q cs)
  where
    by : (b : Bool) → (if not b then None else Some cs) ≡ cond b (Some cs) None
    by true = refl
    by false = refl

---- what a read adds

module _ (catalog : List Table) (v : View) (t : TxnAt) (a : Access) (images : List Record) (fs : List (Key × Option Record)) (h : IsViewOf catalog v t.seen) (kept : WereRead t.seen.read_set t.seen.writes) (found : (q : Key) → value_at fs q ≡ found_new a images q) where
  abbrev now : Seen
  now = (with_rows_read t a images).seen

  -- the row that is seen at a key, by what was read there
  abbrev row_by : Key → Option (Option Record) → Option (List Pair)
  row_by q x = row_with (write_among t.seen.writes q) (at_note x)

  row_now : (q : Key) → row_seen now.read_set now.writes q ≡ row_by q (or_else (value_at t.seen.read_set q) (found_new a images q))
  row_now q = ap (λ ws. row_with (write_among ws q) (at_note (value_at now.read_set q))) (same_writes t a images) ∙ ap (row_by q) (rows_read_now t a images q)

  -- nothing was written where nothing was read
  none_written : (q : Key) → value_at t.seen.read_set q ≡ None → write_among t.seen.writes q ≡ None
  none_written q e = unwritten t.seen q kept (ap is_some e)

  keys_now : (q : Key) → has_found (with_found catalog v fs) q ≡ is_key_read now.read_set q
  keys_now q =
      (all_found catalog v fs q).keys ∙ ap (λ x. x || is_some (value_at fs q)) (h.keys q) ∙ ap (λ o. is_key_read t.seen.read_set q || is_some o) (found q)
      ∙ either (value_at t.seen.read_set q) (found_new a images q) ∙ sym (ap is_some (rows_read_now t a images q))
    where
      either : (x y : Option (Option Record)) → (is_some x || is_some y) ≡ is_some (or_else x y)
      either None y = refl
      either (Some x) y = refl

  rows_now : (q : Key) → get (with_found catalog v fs).rows q ≡ sieved_at (fits_catalog catalog) q (row_seen now.read_set now.writes q)
  rows_now q =
      (all_found catalog v fs q).rows ∙ ap (λ x. laid catalog q x (value_at fs q) (get v.rows q)) (h.keys q) ∙ ap (λ o. laid catalog q (is_key_read t.seen.read_set q) o (get v.rows q)) (found q)
      ∙ ap (laid catalog q (is_key_read t.seen.read_set q) (found_new a images q)) (h.rows q)
      ∙ by (value_at t.seen.read_set q) (found_new a images q) refl
      ∙ sym (ap (sieved_at (fits_catalog catalog) q) (row_now q))
    where
      by : (x y : Option (Option Record)) → value_at t.seen.read_set q ≡ x → laid catalog q (is_some x) y (sieved_at (fits_catalog catalog) q (row_by q x)) ≡ sieved_at (fits_catalog catalog) q (row_by q (or_else x y))
      by (Some x) y e = refl
      by None None e = refl
      by None (Some o) e =
          ap (λ w. if is_misfit_row catalog q (row_found o) then sieved_at (fits_catalog catalog) q (row_with w None) else row_found o) (none_written q e)
          ∙ sieved_row catalog q (row_found o)
          ∙ sym (ap (λ w. sieved_at (fits_catalog catalog) q (row_with w o)) (none_written q e))

  misfits_now : (q : Key) → has_misfit (with_found catalog v fs) q ≡ is_misfit_row catalog q (row_seen now.read_set now.writes q)
  misfits_now q =
      (all_found catalog v fs q).misfits ∙ ap (λ x. laid_misfit catalog q x (value_at fs q) (has_misfit v q)) (h.keys q) ∙ ap (λ o. laid_misfit catalog q (is_key_read t.seen.read_set q) o (has_misfit v q)) (found q)
      ∙ ap (laid_misfit catalog q (is_key_read t.seen.read_set q) (found_new a images q)) (h.misfits q)
      ∙ by (value_at t.seen.read_set q) (found_new a images q) refl
      ∙ sym (ap (is_misfit_row catalog q) (row_now q))
    where
      by : (x y : Option (Option Record)) → value_at t.seen.read_set q ≡ x → laid_misfit catalog q (is_some x) y (is_misfit_row catalog q (row_by q x)) ≡ is_misfit_row catalog q (row_by q (or_else x y))
      by (Some x) y e = refl
      by None None e = refl
      by None (Some o) e = ap (λ w. is_misfit_row catalog q (row_with w None) || is_misfit_row catalog q (row_found o)) (none_written q e) ∙ sym (ap (λ w. is_misfit_row catalog q (row_with w o)) (none_written q e))

  -- A view with what a read found is what the transaction has then read.
  pub view_found : IsViewOf catalog (with_found catalog v fs) now
  view_found = record { keys = keys_now; rows = rows_now; misfits = misfits_now }
