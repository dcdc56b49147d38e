-- Which of the records that a read found pass the checks.
use Rattle.std.proofs.Common.{◌≡◌, Bool, true, false, List, [], ◌∷◌, ◌++◌, Some, None, refl, ap, ◌∙◌}
use Rattle.std.specs.Prelude.{◌&&◌, if◌then◌else◌, filter}
use Rattle.std.specs.List.{AllByRecursion, list_all}
use Rattle.std.proofs.lemmas.List.{append-nil}
use Rattle.std.proofs.lemmas.List.Elements.{filter-append}
use Rattle.std.proofs.lemmas.List.Folds.{list_all-append}
use Rattle.law_clients.specs.Types.{Access, Record, Reply, Request}
use Rattle.sdb_types.specs.declared.record.Reply.TheVariants as reply
use Rattle.sdb_record.specs.Coordinator.{is_coordinator_table}
use Rattle.sdb_record.specs.Meta.{is_transactional}
use Rattle.sdb_model.specs.Calls.{StoreCall, is_read, records_read}
use Rattle.sdb_model.specs.Events.{table_asked}
use Rattle.sdb_model.specs.ReadSet.{finds_transactional, reads_rows}
use Rattle.sdb_txn.specs.Read.{request_of}
use Rattle.law_clients.specs.ReadAt.{ReadAt, Asking, Resolving, Done, Failed, read_pending}
use Rattle.law_clients.specs.Calls.{AsksRows, HasUnchecked, IsMade, ReadMade, RowsMade, rows_left, rows_of}
use Rattle.law_clients.proofs.ReadRecords.{none_kept, reads_it}
use Rattle.sdb_types.proofs.Public.{and_false}

-- each record that a call found passes
abbrev pub finds_sound : StoreCall → Bool
finds_sound m = list_all is_transactional (records_read m.reply)

all_check : (rs : List Record) → AllByRecursion (λ r. is_transactional r ≡ true) rs → list_all is_transactional rs ≡ true
all_check [] all = refl
all_check (r ∷ rs) all = ap (λ b. b && list_all is_transactional rs) all.0 ∙ all_check rs all.1

-- the rows of a reply are the records that it shows
rows_read : (r : Reply) (rows : List Record) → rows_of r ≡ Some rows → records_read r ≡ rows
rows_read (reply.Found None) rows e = cc
rows_read (reply.Found (Some x)) rows e = cc
rows_read (reply.Rows xs) rows e = cc
rows_read (reply.NotAll place there) rows e = absurd (cc)
rows_read reply.Applied rows e = absurd (cc)
rows_read (reply.NotMet found) rows e = absurd (cc)
rows_read reply.Fault rows e = absurd (cc)
rows_read reply.NoMemory rows e = absurd (cc)

-- a call that asks for the rows of a read reads rows
first_reads : (m : StoreCall) (a : Access) → AsksRows a → m.request ≡ request_of a → reads_rows m ≡ true
first_reads m a tables asked = ap (λ q. if is_coordinator_table (table_asked q) then false else is_read q) asked ∙ reads_it a tables

-- of the calls of a read the first one found records
found_first : (ms : List StoreCall) (a : Access) (images left : List Record) (made : RowsMade ms a images left) → AsksRows a → finds_transactional ms ≡ list_all is_transactional (made.done ++ left)
found_first ms a images left made tables =
    ap (λ xs. list_all finds_sound (filter reads_rows xs)) made.calls
    ∙ ap (λ b. list_all finds_sound (if b then made.first ∷ filter reads_rows made.more else filter reads_rows made.more)) (first_reads made.first a tables made.asked)
    ∙ ap (λ xs. finds_sound made.first && list_all finds_sound xs) (none_kept made.more made.others)
    ∙ with_true (finds_sound made.first)
    ∙ ap (list_all is_transactional) (rows_read made.first.reply (made.done ++ left) made.rows)
  where
    with_true : (b : Bool) → (b && true) ≡ b
    with_true true = refl
    with_true false = refl

-- Each record that a read found passes the checks where it is done.
pub read_checks : (ms : List StoreCall) (a : Access) (images : List Record) → ReadMade ms a (Done images) → AsksRows a → finds_transactional ms ≡ true
read_checks ms a images made tables = found_first ms a images [] made tables ∙ ap (list_all is_transactional) (append-nil made.done) ∙ all_check made.done made.transactional

call_more : (ms : List StoreCall) (m : StoreCall) → finds_transactional ms ≡ false → finds_transactional (ms ++ m ∷ []) ≡ false
call_more ms m e = ap (list_all finds_sound) (filter-append reads_rows ms (m ∷ [])) ∙ list_all-append finds_sound (filter reads_rows ms) (filter reads_rows (m ∷ [])) ∙ ap (λ b. b && list_all finds_sound (filter reads_rows (m ∷ []))) e

-- One doesn't where one of those that are left doesn't.
pub read_unchecked : (ms : List StoreCall) (m : StoreCall) (a : Access) (s : ReadAt) (q : Request) (r : Reply) → ReadMade ms a s → read_pending a s ≡ Some q → IsMade m q r → AsksRows a → HasUnchecked (rows_left s r) → finds_transactional (ms ++ m ∷ []) ≡ false
read_unchecked ms m a Asking q r made e is tables unchecked =
    ap (λ xs. finds_transactional (xs ++ m ∷ [])) made
    ∙ ap (λ b. list_all finds_sound (if b then m ∷ [] else [])) (first_reads m a tables (is.request ∙ same (request_of a) q e))
    ∙ ap (λ x. list_all is_transactional (records_read x) && true) is.reply
    ∙ ap (λ b. b && true) unchecked
  where
    same : (x y : Request) → Some x ≡ Some y → y ≡ x
    same x y e = cc
read_unchecked ms m a (Resolving images rec meta p left) q r made e is tables unchecked =
    call_more ms m
    (found_first ms a images (rec ∷ left) made.0 tables ∙ list_all-append is_transactional made.0.done (rec ∷ left) ∙ ap (λ b. list_all is_transactional made.0.done && (is_transactional rec && b)) unchecked ∙ ap (λ b. list_all is_transactional made.0.done && b) (and_false (is_transactional rec)) ∙ and_false (list_all is_transactional made.0.done))
read_unchecked ms m a (Done images) q r made e is tables unchecked = absurd (cc)
read_unchecked ms m a Failed q r made e is tables unchecked = absurd (cc)
