-- The record of a write, as it is put together.
use Rattle.std.proofs.Common.{◌≡◌, ℤ, List, true, refl, ap, ◌∙◌, map, Option, Some, None, IfSome}
use Rattle.sdb_record.specs.Types.{Key, Pair, Record, TxId}
use Rattle.sdb_types.specs.Columns.{are_columns}
use Rattle.sdb_types.proofs.Public.{and_first, and_second}
use Rattle.sdb_record.specs.declared.write.Change.{Change}
use Rattle.sdb_record.specs.declared.write.Change.TheVariants as change
use Rattle.sdb_record.specs.declared.write.Write.{Write}
use Rattle.sdb_record.specs.Parts.{with_columns, before_pair, are_short, are_user_columns}
use Rattle.sdb_record.specs.Rolls.{prepared_record, base_columns, new_columns, new_meta, IsBaseOf, is_change}
use Rattle.sdb_record.proofs.Checked.{accepted-short}

pub base-short : (key : Key) (base : Option Record) → IfSome base (IsBaseOf key) → are_short (base_columns base) ≡ true
base-short key None h = refl
base-short key (Some r) h = accepted-short r h.1 h.2

pub as_prepared : (w : Write) (id : TxId) (now : ℤ) (key : Key) (base row a b : List Pair) → key ≡ w.key → base ≡ base_columns w.base → row ≡ new_columns w.change
    → a ≡ with_columns (map before_pair base) row → b ≡ with_columns (new_meta w id now) a → record { key = key; columns = b } ≡ prepared_record w id now
unfolding prepared_record
as_prepared w id now key base row a b k e f p q =
    let x : a ≡ with_columns (map before_pair (base_columns w.base)) (new_columns w.change) = p ∙ ap (λ ps. with_columns (map before_pair ps) row) e ∙ ap (with_columns (map before_pair (base_columns w.base))) f in
    let y = q ∙ ap (with_columns (new_meta w id now)) x in λ i. record { key = k i; columns = y i }

pub change-user : (c : Change) → is_change c ≡ true → are_user_columns (new_columns c) ≡ true
change-user (change.Row columns) h = and_second (are_columns columns) (are_user_columns columns) h
change-user change.Delete h = refl

pub change-columns : (c : Change) → is_change c ≡ true → are_columns (new_columns c) ≡ true
change-columns (change.Row columns) h = and_first (are_columns columns) (are_user_columns columns) h
change-columns change.Delete h = refl
