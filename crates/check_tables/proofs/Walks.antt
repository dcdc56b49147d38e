-- Lemmas on walks over calls and statements.
use Rattle.std.proofs.Common.{◌≡◌, ℕ, zero, suc, Bool, true, false, List, [], ◌∷◌, ◌++◌, length, take, map, Option, Some, None, refl, sym, ap, ◌∙◌}
use Rattle.std.specs.Prelude.{filter, find, is_some, if◌then◌else◌}
use Rattle.std.specs.Option.{option_and_then}
use Rattle.std.specs.List.{cons_option, filter_map, flat_map}
use Rattle.std.proofs.lemmas.List.{append_assoc, append-nil}
use Rattle.sdb_types.specs.declared.txid.TxId.{TxId}
use Rattle.sdb_types.specs.declared.key.Key.{Key}
use Rattle.sdb_types.specs.declared.record.Record.{Record}
use Rattle.sdb_record.specs.declared.coordinator.Decided.{Decided}
use Rattle.sdb_record.specs.Coordinator.{coordinator_key_of}
use Rattle.sdb_model.specs.declared.event.Event.{Event}
use Rattle.sdb_model.specs.Calls as calls
use Rattle.sdb_model.specs.Calls.{calls_of, decision_learned, put_by}
use Rattle.sdb_model.specs.ReadSet.{ReadItem, read_item_of, read_items, reads_rows, rolls, has_read}
use Rattle.sdb_model.specs.Transactions.{Executed}
use Rattle.sdb_contents.specs.declared.executed.Executed as plain
use Rattle.sdb_contents.specs.Commits.{all_executed, executed_of}
use Rattle.check_tables.specs.declared.made.Made.{Made}
use Rattle.check_tables.specs.Values.{all_made, decision_at, decision_learned_at, made_of, items_by, items_of_statement}

pub taken_again : {X : Type 0} (n : ℕ) (xs : List X) → take (length (take n xs)) xs ≡ take n xs
taken_again zero [] = refl
taken_again zero (x ∷ xs) = refl
taken_again (suc n) [] = refl
taken_again (suc n) (x ∷ xs) = ap (λ ys. x ∷ ys) (taken_again n xs)

pub map_taken : {X Y : Type 0} (f : X → Y) (n : ℕ) (xs : List X) → map f (take n xs) ≡ take n (map f xs)
map_taken f zero [] = refl
map_taken f zero (x ∷ xs) = refl
map_taken f (suc n) [] = refl
map_taken f (suc n) (x ∷ xs) = ap (λ ys. f x ∷ ys) (map_taken f n xs)

pub flat_more : {X A : Type 0} (f : X → List A) (zs : List A) (xs : List X) (x : X) → (zs ++ flat_map f xs) ++ f x ≡ zs ++ flat_map f (xs ++ x ∷ [])
flat_more f [] [] x = sym (append-nil (f x))
flat_more f [] (y ∷ ys) x = append_assoc (f y) (flat_map f ys) (f x) ∙ ap (λ ws. f y ++ ws) (flat_more f [] ys x)
flat_more f (z ∷ zs) xs x = ap (λ ws. z ∷ ws) (flat_more f zs xs x)

---- decisions that calls showed

pub learned_is : (id : TxId) (ms : List Made) → decision_learned (all_made ms) id ≡ decision_learned_at ms (coordinator_key_of id)
learned_is id [] = refl
learned_is id (m ∷ ms) = by (learned_is id ms) (decision_at (coordinator_key_of id) m) refl
  where
    row : Key
    row = coordinator_key_of id

    by : decision_learned (all_made ms) id ≡ decision_learned_at ms row → (o : Option Decided) → decision_at row m ≡ o → (if is_some o then o else decision_learned (all_made ms) id) ≡ option_and_then (decision_at row) (if is_some o then Some m else find (λ x. is_some (decision_at row x)) ms)
    by more None e = more
    by more (Some d) e = sym e

---- what records mean

-- the first call that rolled a record puts the same in the words of the model
pub roll_put : (r : Record) (ms : List Made) → option_and_then (λ (m : calls.StoreCall). put_by m.request) (find (rolls r) (all_made ms)) ≡ option_and_then (λ (m : Made). put_by m.request) (find (λ m. rolls r (made_of m)) ms)
roll_put r [] = refl
roll_put r (m ∷ ms) = by (rolls r (made_of m)) (roll_put r ms)
  where
    by : (b : Bool) → option_and_then (λ (x : calls.StoreCall). put_by x.request) (find (rolls r) (all_made ms)) ≡ option_and_then (λ (x : Made). put_by x.request) (find (λ x. rolls r (made_of x)) ms)
        → option_and_then (λ (x : calls.StoreCall). put_by x.request) (if b then Some (made_of m) else find (rolls r) (all_made ms)) ≡ option_and_then (λ (x : Made). put_by x.request) (if b then Some m else find (λ x. rolls r (made_of x)) ms)
    by true more = refl
    by false more = more

---- read items

pub notes_are : (all ms : List calls.StoreCall) → flat_map (items_by all) ms ≡ filter_map (λ m. read_item_of all m.request m.reply) (filter reads_rows ms)
notes_are all [] = refl
notes_are all (m ∷ ms) = by (reads_rows m) (notes_are all ms)
  where
    with_option : (o : Option ReadItem) (xs : List ReadItem) → cons_option o [] ++ xs ≡ cons_option o xs
    with_option None xs = refl
    with_option (Some x) xs = refl

    by : (b : Bool) → flat_map (items_by all) ms ≡ filter_map (λ m. read_item_of all m.request m.reply) (filter reads_rows ms)
        → (if b then cons_option (read_item_of all m.request m.reply) [] else []) ++ flat_map (items_by all) ms ≡ filter_map (λ m. read_item_of all m.request m.reply) (if b then m ∷ filter reads_rows ms else filter reads_rows ms)
    by true more = ap (λ xs. cons_option (read_item_of all m.request m.reply) [] ++ xs) more ∙ with_option (read_item_of all m.request m.reply) (filter_map (λ m. read_item_of all m.request m.reply) (filter reads_rows ms))
    by false more = more

said_notes_are : (events : List Event) (client : ℕ) (ss : List Executed) → flat_map (items_of_statement events client) ss ≡ flat_map (λ s. read_items (calls_of events client s)) (filter (has_read events client) ss)
said_notes_are events client [] = refl
said_notes_are events client (s ∷ ss) = by (has_read events client s) (said_notes_are events client ss)
  where
    all : List Executed → List ReadItem
    all = flat_map (λ s. read_items (calls_of events client s))

    by : (b : Bool) → flat_map (items_of_statement events client) ss ≡ all (filter (has_read events client) ss) → (if b then read_items (calls_of events client s) else []) ++ flat_map (items_of_statement events client) ss ≡ all (if b then s ∷ filter (has_read events client) ss else filter (has_read events client) ss)
    by true more = ap (λ xs. read_items (calls_of events client s) ++ xs) more
    by false more = more

composed : (events : List Event) (client : ℕ) (ss : List plain.Executed) → flat_map (λ s. items_of_statement events client (executed_of s)) ss ≡ flat_map (items_of_statement events client) (all_executed ss)
composed events client [] = refl
composed events client (s ∷ ss) = ap (λ xs. items_of_statement events client (executed_of s) ++ xs) (composed events client ss)

pub all_noted : (events : List Event) (client : ℕ) (ss : List plain.Executed) → flat_map (λ s. items_of_statement events client (executed_of s)) ss ≡ flat_map (λ s. read_items (calls_of events client s)) (filter (has_read events client) (all_executed ss))
all_noted events client ss = composed events client ss ∙ said_notes_are events client (all_executed ss)
