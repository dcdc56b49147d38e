-- The committed record of a write, as it is put together.
use Rattle.std.proofs.Common.{◌≡◌, ℤ, pos, List, [], ◌∷◌, true, not, refl, sym, ap, ◌∙◌, map, Some}
use Rattle.std.specs.List.{list_all}
use Rattle.sdb_record.specs.Types.{Key, Pair, TxId}
use Rattle.sdb_types.specs.declared.value.Value.TheVariants as value
use Rattle.sdb_types.specs.declared.record.State.TheVariants.{Deleted}
use Rattle.sdb_types.specs.Contents.{state_number, has_value}
use Rattle.sdb_types.proofs.Public.{and_both, and_first, and_second}
use Rattle.sdb_record.specs.declared.write.Change.{Change}
use Rattle.sdb_record.specs.declared.write.Change.TheVariants as change
use Rattle.sdb_record.specs.declared.write.Write.{Write}
use Rattle.sdb_record.specs.Names.{is_meta, base_name}
use Rattle.sdb_record.specs.Parts.{with_columns, before_pair, own_columns, is_user_pair}
use Rattle.sdb_record.specs.Meta.{is_in}
use Rattle.sdb_record.specs.Rolls.{prepared_record, forward_record, with_committed, deletes, base_columns, new_columns, new_meta, state_of_change, IsWrite}
use Rattle.sdb_record.proofs.ColumnLaws.{stays, not_before, leaves-kept, with_columns-apart}
use Rattle.sdb_record.proofs.Settings.{all-with_columns, filter-all, filter-with_columns}
use Rattle.sdb_record.proofs.WriteLaws.{all-user, fitting}
use Rattle.sdb_record.proofs.ImageLaws.{left-state}

marks-stay : (w : Write) (id : TxId) (now : ℤ) → list_all (stays not_before) (new_meta w id now) ≡ true
unfolding base_name
marks-stay w id now = refl

row-outside : (ps : List Pair) → list_all is_user_pair ps ≡ true → list_all (λ (p : Pair). not_before p.name) ps ≡ true
row-outside [] h = refl
row-outside (p ∷ ps) h =
    let user = and_first (is_user_pair p) (list_all is_user_pair ps) h in
    and_both (not_before p.name) (list_all (λ (q : Pair). not_before q.name) ps) (and_second (not (is_meta p.name)) (not_before p.name) user) (row-outside ps (and_second (is_user_pair p) (list_all is_user_pair ps) h))

-- what a transaction leaves for a write, without the before image
own-prepared : (w : Write) (id : TxId) (now : ℤ) → IsWrite w → own_columns (prepared_record w id now).columns ≡ with_columns (new_meta w id now) (new_columns w.change)
unfolding prepared_record
own-prepared w id now h =
    let fit = fitting w h in
    let marks = new_meta w id now in
    let kept = map before_pair (base_columns w.base) in
    let row = new_columns w.change in
    let there : list_all (λ (p : Pair). not_before p.name) (with_columns marks row) ≡ true = all-with_columns (λ (p : Pair). not_before p.name) marks row (marks-stay w id now) (row-outside row (all-user row fit.row_user)) in
    ap own_columns (with_columns-apart not_before marks kept row (marks-stay w id now) (leaves-kept (base_columns w.base) fit.base_columns))
    ∙ filter-with_columns not_before kept (with_columns marks row) (leaves-kept (base_columns w.base) fit.base_columns)
    ∙ filter-all (λ (p : Pair). not_before p.name) (with_columns marks row) there

deleted : (c : Change) → has_value (Some (value.Int (state_number (state_of_change c)))) (value.Int (pos 2)) ≡ deletes c
deleted (change.Row columns) = refl
deleted change.Delete = refl

prepared-deleted : (w : Write) (id : TxId) (now : ℤ) → is_in Deleted (prepared_record w id now).columns ≡ deletes w.change
prepared-deleted w id now = ap (λ o. has_value o (value.Int (pos 2))) (left-state w id now) ∙ deleted w.change

prepared-at : (w : Write) (id : TxId) (now : ℤ) → (prepared_record w id now).key ≡ w.key
unfolding prepared_record
prepared-at w id now = refl

pub as_committed : (w : Write) (id : TxId) (now created_at : ℤ) (key : Key) (row a b : List Pair) → IsWrite w → key ≡ w.key → row ≡ new_columns w.change
    → a ≡ row → b ≡ with_committed (deletes w.change) created_at (with_columns (new_meta w id now) a) → record { key = key; columns = b } ≡ forward_record (prepared_record w id now) created_at
unfolding forward_record
as_committed w id now created_at key row a b write k e p q =
    let x : with_columns (new_meta w id now) a ≡ own_columns (prepared_record w id now).columns = ap (with_columns (new_meta w id now)) (p ∙ e) ∙ sym (own-prepared w id now write) in
    let all : b ≡ with_committed (is_in Deleted (prepared_record w id now).columns) created_at (own_columns (prepared_record w id now).columns) =
    q ∙ ap (λ o. with_committed o created_at (with_columns (new_meta w id now) a)) (sym (prepared-deleted w id now)) ∙ ap (with_committed (is_in Deleted (prepared_record w id now).columns) created_at) x in
    λ j. record { key = (k ∙ sym (prepared-at w id now)) j; columns = all j }
