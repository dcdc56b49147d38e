-- The metadata of a write's record, set in the order of the names.
use Rattle.std.proofs.Common.{◌≡◌, ℤ, List, Bool, true, false, refl, sym, ap, ◌∙◌}
use Rattle.sdb_record.specs.Types.{Pair, State, TxId}
use Rattle.sdb_types.specs.declared.value.Value.TheVariants as value
use Rattle.sdb_types.specs.declared.record.State.TheVariants.{Committed}
use Rattle.sdb_types.specs.Columns.{put_pair}
use Rattle.sdb_types.specs.Contents.{tx_state, state_number}
use Rattle.sdb_record.specs.declared.write.Write.{Write}
use Rattle.sdb_record.specs.Names.{tx_committed_at, tx_tombstone}
use Rattle.sdb_record.specs.Parts.{with_columns}
use Rattle.sdb_record.specs.Rolls.{new_meta, next_version, state_of_change, tombstone_mark, with_committed, deletes}
use Rattle.sdb_record.proofs.ColumnLaws.{put-again, put-less}
use Rattle.sdb_record.proofs.WriteLaws.{id_pair, state_pair, version_pair, time_pair, marked}

abbrev pub commit_pair : ℤ → Pair
commit_pair n = record { name = tx_committed_at; value = value.BigInt n }

abbrev mark_pair : Pair
mark_pair = record { name = tx_tombstone; value = value.Bool true }

module _ (id : TxId) (s : State) (version now : ℤ) (xs : List Pair) where
  abbrev by_id : List Pair
  by_id = put_pair (id_pair id) xs

  in_order : put_pair (version_pair version) (put_pair (state_pair s) (put_pair (time_pair now) by_id)) ≡ marked id s version now xs
  in_order =
      ap (put_pair (version_pair version)) (sym (put-less (time_pair now) (state_pair s) by_id refl)) ∙ sym (put-less (time_pair now) (version_pair version) (put_pair (state_pair s) by_id) refl)

  -- the state that is set later stands for the one before
  settled : put_pair (state_pair Committed) (marked id s version now xs) ≡ put_pair (version_pair version) (put_pair (state_pair Committed) (put_pair (time_pair now) by_id))
  settled =
      ap (put_pair (state_pair Committed)) (sym in_order)
      ∙ put-less (state_pair Committed) (version_pair version) (put_pair (state_pair s) (put_pair (time_pair now) by_id)) refl
      ∙ ap (put_pair (version_pair version)) (put-again tx_state (value.Int (state_number Committed)) (value.Int (state_number s)) (put_pair (time_pair now) by_id))

  module _ (at : ℤ) where
    -- the moment of the commit is put before all others
    first : put_pair (commit_pair at) (put_pair (version_pair version) (put_pair (state_pair Committed) (put_pair (time_pair now) by_id)))
        ≡ put_pair (version_pair version) (put_pair (state_pair Committed) (put_pair (time_pair now) (put_pair (id_pair id) (put_pair (commit_pair at) xs))))
    first =
        put-less (commit_pair at) (version_pair version) (put_pair (state_pair Committed) (put_pair (time_pair now) by_id)) refl
        ∙ ap (put_pair (version_pair version)) (put-less (commit_pair at) (state_pair Committed) (put_pair (time_pair now) by_id) refl
        ∙ ap (put_pair (state_pair Committed)) (put-less (commit_pair at) (time_pair now) by_id refl
        ∙ ap (put_pair (time_pair now)) (put-less (commit_pair at) (id_pair id) xs refl)))

    all_but_mark : put_pair (version_pair version) (put_pair (state_pair Committed) (put_pair (time_pair now) (put_pair (id_pair id) (put_pair (commit_pair at) xs)))) ≡ put_pair (commit_pair at) (put_pair (state_pair Committed) (marked id s version now xs))
    all_but_mark = sym (ap (put_pair (commit_pair at)) settled ∙ first)

    with_mark : (gone : Bool)
        → put_pair (version_pair version) (with_columns (tombstone_mark gone) (put_pair (state_pair Committed) (put_pair (time_pair now) (put_pair (id_pair id) (put_pair (commit_pair at) xs))))) ≡ with_committed gone at (marked id s version now xs)
    with_mark true =
        sym (put-less mark_pair (version_pair version) (put_pair (state_pair Committed) (put_pair (time_pair now) (put_pair (id_pair id) (put_pair (commit_pair at) xs)))) refl) ∙ ap (put_pair mark_pair) all_but_mark
    with_mark false = all_but_mark

-- what is left unresolved
pub unresolved : (w : Write) (id : TxId) (now : ℤ) (a b c d e : List Pair) (s : State) (version : ℤ) → s ≡ state_of_change w.change → version ≡ next_version w.base
    → b ≡ put_pair (id_pair id) a → c ≡ put_pair (time_pair now) b → d ≡ put_pair (state_pair s) c → e ≡ put_pair (version_pair version) d → e ≡ with_columns (new_meta w id now) a
unresolved w id now a b c d e s version f g p q r t =
    t ∙ ap (put_pair (version_pair version)) (r ∙ ap (put_pair (state_pair s)) (q ∙ ap (put_pair (time_pair now)) p)) ∙ in_order id s version now a ∙ ap (λ x. marked id x version now a) f ∙ ap (λ n. marked id (state_of_change w.change) n now a) g

-- what is left once it is committed
pub resolved : (w : Write) (id : TxId) (now at : ℤ) (a b c d e f g : List Pair) (version : ℤ) (gone : Bool) → version ≡ next_version w.base → gone ≡ deletes w.change
    → b ≡ put_pair (commit_pair at) a → c ≡ put_pair (id_pair id) b → d ≡ put_pair (time_pair now) c → e ≡ put_pair (state_pair Committed) d → f ≡ with_columns (tombstone_mark gone) e → g ≡ put_pair (version_pair version) f
    → g ≡ with_committed (deletes w.change) at (with_columns (new_meta w id now) a)
resolved w id now at a b c d e f g version gone h k p q r t u v =
    v ∙ ap (put_pair (version_pair version)) (u ∙ ap (with_columns (tombstone_mark gone)) (t ∙ ap (put_pair (state_pair Committed)) (r ∙ ap (put_pair (time_pair now)) (q ∙ ap (put_pair (id_pair id)) p))))
    ∙ with_mark id (state_of_change w.change) version now a at gone ∙ ap (λ n. with_committed gone at (marked id (state_of_change w.change) n now a)) h ∙ ap (λ x. with_committed x at (with_columns (new_meta w id now) a)) k
