-- A read keeps what the records that it found mean by its calls, and what it is done with is what the model notes of its calls.
use Rattle.std.proofs.Common.{◌≡◌, ℤ, Bool, true, false, List, [], ◌∷◌, ◌++◌, Option, Some, None, refl, sym, ap, subst, ◌∙◌, inl, inr}
use Rattle.std.specs.Prelude.{if◌then◌else◌, filter, find, not}
use Rattle.std.specs.List.{AllByRecursion, cons_option, filter_map}
use Rattle.std.proofs.lemmas.Bool.{and_parts}
use Rattle.std.proofs.lemmas.List.{append_assoc, append-nil}
use Rattle.std.proofs.lemmas.List.Elements.{filter_map-append}
use Rattle.law_clients.specs.Types.{Access, Meta, Record, RecoverPhase, RecoverStep, Reply, Request, TxId}
use Rattle.sdb_types.specs.declared.record.Reply.TheVariants as reply
use Rattle.sdb_types.specs.declared.record.State.TheVariants as state
use Rattle.sdb_types.specs.Contents.{CanAnswer, rise, starts_after}
use Rattle.sdb_types.proofs.Public.{all_last}
use Rattle.sdb_record.specs.declared.access.Access.TheVariants as access
use Rattle.sdb_record.specs.declared.coordinator.Decision.TheVariants as decision
use Rattle.sdb_record.specs.Coordinator.{coordinator_key_of, coordinator_row_of, is_coordinator_table}
use Rattle.sdb_record.specs.Meta.{is_in, is_transactional, is_unresolved}
use Rattle.sdb_record.specs.Moved.{version_of}
use Rattle.sdb_record.specs.Parts.{before_record}
use Rattle.sdb_record.specs.Rolls.{forward_record, undo}
use Rattle.sdb_model.specs.Calls.{StoreCall, is_read}
use Rattle.sdb_model.specs.Events.{table_asked}
use Rattle.sdb_model.specs.ReadSet.{KeyRead, SpanRead, condition_asked, meaning_of, read_item_of, read_items, reads_rows, rolls}
use Rattle.sdb_phases.specs.declared.step.RecoverPhase.TheVariants as phase
use Rattle.sdb_phases.specs.declared.step.RecoverStep.TheVariants as steps
use Rattle.sdb_phases.specs.Recover.{recover_back, recover_forward, recover_next, recover_request_at, is_as_found}
use Rattle.sdb_phases.specs.Work.{abort_of, look_of}
use Rattle.sdb_txn.specs.Read.{Bad, Firm, Kind, Open, request_of}
use Rattle.sdb_snapshot.specs.Reads.{reads_of}
use Rattle.law_clients.specs.Reads.{first_image}
use Rattle.law_clients.specs.ReadAt.{IsKind, ReadAt, Asking, Resolving, Done, Failed, after_recovery, read_pending, read_step, settle, settle_one, settle_reply}
use Rattle.law_clients.proofs.Lists.{each_more}
use Rattle.law_clients.specs.Calls.{HasMeaning, IsMade, ReadMade, RowsMade, read_item_with, rows_of}
use Rattle.law_clients.proofs.Meanings.{IsRollTo, all_have_more, each_of, ends_rolled, find_last, goes_on_unrolled, meaning_rolled, meaning_settled, meanings_more, read_unrolled, reads_meant, rolls_none_after, unrolled_more}
use Rattle.sdb_txn.proofs.Public.{held_of}
use Rattle.law_clients.proofs.Machine.{kind_is}
use Rattle.sdb_txn.specs.Read.{kind_of}

some_is : {A : Type 0} (x y : A) → Some x ≡ Some y → y ≡ x
some_is x y e = cc

---- rows

-- one row more is settled
row_done : (ms : List StoreCall) (a : Access) (images : List Record) (r : Record) (left : List Record) → RowsMade ms a images (r ∷ left) → HasMeaning ms r → is_transactional r ≡ true → (more : List Record) → more ≡ images ++ cons_option (meaning_of ms r) [] → RowsMade ms a more left
row_done ms a images r left made has checks more e = record {
  first = made.first;
  more = made.more;
  calls = made.calls;
  asked = made.asked;
  can = made.can;
  done = made.done ++ r ∷ [];
  rows = made.rows ∙ ap Some (sym (append_assoc made.done (r ∷ []) left));
  rises = (and_parts (starts_after r.key left) (rise left) made.rises).1;
  settled = all_last (HasMeaning ms) made.done r made.settled has;
  transactional = all_last (λ x. is_transactional x ≡ true) made.done r made.transactional checks;
  found = e ∙ ap (λ is. is ++ cons_option (meaning_of ms r) []) made.found ∙ sym (filter_map-append (meaning_of ms) made.done (r ∷ []));
  unrolled = made.unrolled.1;
  others = made.others;
}

pub settle_made : (ms : List StoreCall) (a : Access) (images left : List Record) → RowsMade ms a images left → ReadMade ms a (settle images left)
settle_made ms a images [] made = made
settle_made ms a images (r ∷ left) made = by (kind_of r) (kind_is r) (λ checks firm. settle_made ms a (images ++ r ∷ []) left (row_done ms a images r left made (inl firm) checks (images ++ r ∷ []) (ap (λ o. images ++ cons_option o []) (sym (meaning_settled ms r firm)))))
  where
    by : (x : Kind) → IsKind r x → (is_transactional r ≡ true → is_in state.Committed r.columns ≡ true → ReadMade ms a (settle (images ++ r ∷ []) left)) → ReadMade ms a (settle_one x images r left (settle (images ++ r ∷ []) left))
    by Firm k rest = rest k.0 k.1
    by (Open meta) k rest = (made, k.0, k.1)
    by Bad k rest = tt

---- the calls are no reads of rows

none_of : (b : Bool) → (if b then false else false) ≡ false
none_of true = refl
none_of false = refl

look_apart : (id : TxId) (b : Bool) → is_coordinator_table (coordinator_key_of id).table ≡ true → (if is_coordinator_table (coordinator_key_of id).table then false else b) ≡ false
look_apart id b e = ap (λ t. if t then false else b) e

pub coordinators : (id : TxId) → is_coordinator_table (coordinator_key_of id).table ≡ true
unfolding coordinator_key_of
coordinators id = refl

call_apart : (rec : Record) (meta : Meta) (p : RecoverPhase) (q : Request) (m : StoreCall) → recover_request_at rec meta p ≡ Some q → m.request ≡ q → reads_rows m ≡ false
call_apart rec meta p q m e r = at p q e r
  where
    with_request : (x : Request) → m.request ≡ x → (if is_coordinator_table (table_asked x) then false else is_read x) ≡ false → reads_rows m ≡ false
    with_request x e h = ap (λ y. if is_coordinator_table (table_asked y) then false else is_read y) e ∙ h

    undone : (o : Option Record) → (if is_coordinator_table (table_asked (undo (is_as_found meta) rec.key o)) then false else is_read (undo (is_as_found meta) rec.key o)) ≡ false
    undone None = none_of (is_coordinator_table rec.key.table)
    undone (Some b) = none_of (is_coordinator_table b.key.table)

    at : (p : RecoverPhase) (q : Request) → recover_request_at rec meta p ≡ Some q → m.request ≡ q → reads_rows m ≡ false
    at phase.Look q e r = with_request (look_of meta.id) (r ∙ some_is (look_of meta.id) q e) (look_apart meta.id true (coordinators meta.id))
    at phase.Again q e r = with_request (look_of meta.id) (r ∙ some_is (look_of meta.id) q e) (look_apart meta.id true (coordinators meta.id))
    at (phase.Abort n) q e r = with_request (abort_of meta.id n) (r ∙ some_is (abort_of meta.id n) q e) (none_of (is_coordinator_table (coordinator_row_of meta.id decision.Aborted n).key.table))
    at (phase.Forward n) q e r = with_request (recover_forward rec meta n) (r ∙ some_is (recover_forward rec meta n) q e) (none_of (is_coordinator_table (forward_record rec n).key.table))
    at phase.Back q e r = with_request (recover_back rec meta) (r ∙ some_is (recover_back rec meta) q e) (undone (before_record rec))
    at phase.Ended q e r = absurd (cc (e))

---- one call more

-- a call that rolls none of the rows
rows_made_more : (ms : List StoreCall) (m : StoreCall) (a : Access) (images left : List Record) → reads_rows m ≡ false → AllByRecursion (λ r. rolls r m ≡ false) left → RowsMade ms a images left → RowsMade (ms ++ m ∷ []) a images left
rows_made_more ms m a images left apart none made = record {
  first = made.first;
  more = made.more ++ m ∷ [];
  calls = ap (λ xs. xs ++ m ∷ []) made.calls;
  asked = made.asked;
  can = made.can;
  done = made.done;
  rows = made.rows;
  rises = made.rises;
  settled = all_have_more ms m made.done made.settled;
  transactional = made.transactional;
  found = made.found ∙ sym (meanings_more ms m made.done made.settled);
  unrolled = unrolled_more ms m left made.unrolled none;
  others = each_more (λ x. reads_rows x ≡ false) made.more m made.others apart;
}

-- the call that rolls the first of them
row_rolled : (ms : List StoreCall) (m : StoreCall) (a : Access) (images : List Record) (rec : Record) (left : List Record) (o : Option Record) → reads_rows m ≡ false → is_unresolved rec ≡ true → IsRollTo m rec o → RowsMade ms a images (rec ∷ left) → (more : List Record) → more ≡ images ++ cons_option o [] → RowsMade (ms ++ m ∷ []) a more left
row_rolled ms m a images rec left o apart open_still roll made more e = record {
  first = made.first;
  more = made.more ++ m ∷ [];
  calls = ap (λ xs. xs ++ m ∷ []) made.calls;
  asked = made.asked;
  can = made.can;
  done = made.done ++ rec ∷ [];
  rows = made.rows ∙ ap Some (sym (append_assoc made.done (rec ∷ []) left));
  rises = (and_parts (starts_after rec.key left) (rise left) made.rises).1;
  settled = all_last (HasMeaning (ms ++ m ∷ [])) made.done rec (all_have_more ms m made.done made.settled) (inr (m, rolled));
  transactional = all_last (λ x. is_transactional x ≡ true) made.done rec made.transactional (and_parts (is_transactional rec) (not (is_in state.Committed rec.columns)) open_still).0;
  found =
      e ∙ ap (λ x. images ++ cons_option x []) (sym (meaning_rolled (ms ++ m ∷ []) rec m o (held_of rec open_still) rolled roll.puts))
      ∙ ap (λ is. is ++ cons_option (meaning_of (ms ++ m ∷ []) rec) []) (made.found ∙ sym (meanings_more ms m made.done made.settled))
      ∙ sym (filter_map-append (meaning_of (ms ++ m ∷ [])) made.done (rec ∷ []));
  unrolled = unrolled_more ms m left made.unrolled.1 (rolls_none_after m rec o left roll made.rises);
  others = each_more (λ x. reads_rows x ≡ false) made.more m made.others apart;
}
  where
    rolled : find (rolls rec) (ms ++ m ∷ []) ≡ Some m
    rolled = find_last (rolls rec) ms m made.unrolled.0 roll.rolls_it

recovered_made : (ms : List StoreCall) (m : StoreCall) (a : Access) (images : List Record) (rec : Record) (meta : Meta) (p : RecoverPhase) (left : List Record) (now : ℤ) (q : Request) (r : Reply) → ReadMade ms a (Resolving images rec meta p left) → recover_request_at rec meta p ≡ Some q → IsMade m q r
    → ReadMade (ms ++ m ∷ []) a (after_recovery images rec meta left (recover_next rec meta p now r))
recovered_made ms m a images rec meta p left now q r made e is = by (recover_next rec meta p now r) refl
  where
    asks : recover_request_at rec meta p ≡ Some m.request
    asks = e ∙ ap Some (sym is.request)

    apart : reads_rows m ≡ false
    apart = call_apart rec meta p q m e is.request

    image : (o : Option Record) (n : RecoverPhase) → recover_next rec meta p now r ≡ (n, steps.Image o) → (more : List Record) → more ≡ images ++ cons_option o [] → RowsMade (ms ++ m ∷ []) a more left
    image o n h more same = row_rolled ms m a images rec left o apart made.1 (ends_rolled rec meta made.1 made.2 m p now r o asks (ap (λ (x : RecoverPhase × RecoverStep). x.1) h)) made.0 more same

    by : (n : RecoverPhase × RecoverStep) → recover_next rec meta p now r ≡ n → ReadMade (ms ++ m ∷ []) a (after_recovery images rec meta left n)
    by (n, steps.More) h = (rows_made_more ms m a images (rec ∷ left) apart (each_of (λ (x : Record). rolls x m ≡ false) (rec ∷ left) (goes_on_unrolled rec meta made.1 made.2 m p now r asks (ap (λ (x : RecoverPhase × RecoverStep). x.1) h))) made.0, made.1, made.2)
    by (n, steps.Image None) h = settle_made (ms ++ m ∷ []) a images left (image None n h images (sym (append-nil images)))
    by (n, steps.Image (Some b)) h = settle_made (ms ++ m ∷ []) a (images ++ b ∷ []) left (image (Some b) n h (images ++ b ∷ []) refl)
    by (n, steps.Busy id at) h = tt
    by (n, steps.Faulted) h = tt
    by (n, steps.BadRecord key) h = tt
    by (n, steps.NoMemory) h = tt

---- the first call

-- it rolls nothing
asks_plainly : (a : Access) (m : StoreCall) (r : Reply) → IsMade m (request_of a) r → condition_asked m.request ≡ None
asks_plainly (access.Get key) m r is = ap condition_asked is.request
asks_plainly (access.Scan span) m r is = ap condition_asked is.request

rows_made : (m : StoreCall) (a : Access) (r : Reply) (rows : List Record) → IsMade m (request_of a) r → CanAnswer (request_of a) r → rows_of r ≡ Some rows → rise rows ≡ true → RowsMade (m ∷ []) a [] rows
rows_made m a r rows is can e rises = record {
  first = m;
  more = [];
  calls = refl;
  asked = is.request;
  can = subst (CanAnswer (request_of a)) (sym is.reply) can;
  done = [];
  rows = ap rows_of is.reply ∙ e;
  rises = rises;
  settled = tt;
  transactional = tt;
  found = refl;
  unrolled = read_unrolled m rows (asks_plainly a m r is);
  others = tt;
}

scan_rises : (a : Access) (rows : List Record) → CanAnswer (request_of a) (reply.Rows rows) → rise rows ≡ true
scan_rises (access.Get key) rows can = absurd can
scan_rises (access.Scan span) rows can = (and_parts (rise rows) _ can).0

asked_made : (m : StoreCall) (a : Access) (r : Reply) → IsMade m (request_of a) r → CanAnswer (request_of a) r → ReadMade (m ∷ []) a (settle_reply r)
asked_made m a (reply.Found None) is can = rows_made m a (reply.Found None) [] is can refl refl
asked_made m a (reply.Found (Some x)) is can = settle_made (m ∷ []) a [] (x ∷ []) (rows_made m a (reply.Found (Some x)) (x ∷ []) is can refl refl)
asked_made m a (reply.Rows rows) is can = settle_made (m ∷ []) a [] rows (rows_made m a (reply.Rows rows) rows is can refl (scan_rises a rows can))
asked_made m a reply.Applied is can = tt
asked_made m a (reply.NotMet found) is can = tt
asked_made m a (reply.NotAll place there) is can = tt
asked_made m a reply.Fault is can = tt
asked_made m a reply.NoMemory is can = tt

-- Whatever call of a read is pending, with it and its reply the read keeps what its calls showed.
pub read_made : (ms : List StoreCall) (m : StoreCall) (a : Access) (s : ReadAt) (now : ℤ) (q : Request) (r : Reply) → ReadMade ms a s → read_pending a s ≡ Some q → CanAnswer q r → IsMade m q r → ReadMade (ms ++ m ∷ []) a (read_step s now r)
read_made ms m a Asking now q r made e can is = subst (λ xs. ReadMade (xs ++ m ∷ []) a (settle_reply r)) (sym made) (asked_made m a r (record { request = is.request ∙ some_is (request_of a) q e; reply = is.reply }) (subst (λ x. CanAnswer x r) (some_is (request_of a) q e) can))
read_made ms m a (Resolving images rec meta p left) now q r made e can is = recovered_made ms m a images rec meta p left now q r made e is
read_made ms m a (Done images) now q r made e can is = absurd (cc)
read_made ms m a Failed now q r made e can is = absurd (cc)

---- the model's note

first_is : (o : Option Record) → o ≡ first_image (cons_option o [])
first_is None = refl
first_is (Some b) = refl

-- The calls of a read that is done are noted as it is.
note_is : (ms : List StoreCall) (a : Access) (images : List Record) → (made : RowsMade ms a images []) → read_item_of ms made.first.request made.first.reply ≡ Some (read_item_with a images)
note_is ms a images made = ap (λ q. read_item_of ms q made.first.reply) made.asked ∙ by a made.first.reply made.can (made.rows ∙ ap Some (append-nil made.done))
  where
    -- the images are the meanings of the rows
    are : (rows : List Record) → Some rows ≡ Some made.done → filter_map (meaning_of ms) rows ≡ images
    are rows e = ap (filter_map (meaning_of ms)) (sym (some_is rows made.done e)) ∙ sym made.found

    by : (b : Access) (r : Reply) → CanAnswer (request_of b) r → rows_of r ≡ Some made.done → read_item_of ms (request_of b) r ≡ Some (read_item_with b images)
    by (access.Get key) (reply.Found None) can e = ap (λ is. Some (KeyRead (record { key = key; version = version_of (first_image is) }))) (are [] e)
    by (access.Get key) (reply.Found (Some x)) can e = ap (λ o. Some (KeyRead (record { key = key; version = version_of o }))) (first_is (meaning_of ms x) ∙ ap first_image (are (x ∷ []) e))
    by (access.Get key) (reply.Rows rows) can e = absurd can
    by (access.Get key) reply.Applied can e = absurd can
    by (access.Get key) (reply.NotMet found) can e = absurd can
    by (access.Get key) (reply.NotAll place there) can e = absurd can
    by (access.Get key) reply.Fault can e = absurd (cc (e))
    by (access.Get key) reply.NoMemory can e = absurd (cc (e))
    by (access.Scan span) (reply.Rows rows) can e = ap (λ found. Some (SpanRead (record { span = span; found = found }))) (reads_meant ms rows ∙ ap reads_of (are rows e))
    by (access.Scan span) (reply.Found found) can e = absurd can
    by (access.Scan span) reply.Applied can e = absurd can
    by (access.Scan span) (reply.NotMet found) can e = absurd can
    by (access.Scan span) (reply.NotAll place there) can e = absurd can
    by (access.Scan span) reply.Fault can e = absurd (cc (e))
    by (access.Scan span) reply.NoMemory can e = absurd (cc (e))

pub none_kept : (ms : List StoreCall) → AllByRecursion (λ m. reads_rows m ≡ false) ms → filter reads_rows ms ≡ []
none_kept [] h = refl
none_kept (m ∷ ms) h = ap (λ b. if b then m ∷ filter reads_rows ms else filter reads_rows ms) h.0 ∙ none_kept ms h.1

pub reads_it : (a : Access) → is_coordinator_table (table_asked (request_of a)) ≡ false → (if is_coordinator_table (table_asked (request_of a)) then false else is_read (request_of a)) ≡ true
reads_it (access.Get key) e = ap (λ b. if b then false else true) e
reads_it (access.Scan span) e = ap (λ b. if b then false else true) e

-- What the model notes of the calls of a read is the note of its images, and nothing else.
pub read_notes : (ms : List StoreCall) (a : Access) (images : List Record) → ReadMade ms a (Done images) → is_coordinator_table (table_asked (request_of a)) ≡ false → read_items ms ≡ read_item_with a images ∷ []
read_notes ms a images made tables = ap (λ xs. filter_map (λ m. read_item_of ms m.request m.reply) (filter reads_rows xs)) made.calls ∙ ap (filter_map (λ m. read_item_of ms m.request m.reply)) kept ∙ ap (λ o. cons_option o []) (note_is ms a images made)
  where
    first : reads_rows made.first ≡ true
    first = ap (λ q. if is_coordinator_table (table_asked q) then false else is_read q) made.asked ∙ reads_it a tables

    kept : filter reads_rows (made.first ∷ made.more) ≡ made.first ∷ []
    kept = ap (λ b. if b then made.first ∷ filter reads_rows made.more else filter reads_rows made.more) first ∙ ap (λ xs. made.first ∷ xs) (none_kept made.more made.others)
