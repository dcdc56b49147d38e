-- The tests of what a read comes to decide what the law calls settled.
use Rattle.std.proofs.Common.{◌≡◌, ℕ, Bool, true, false, List, Option, Some, None, inl, inr, refl, sym, ap, subst, ◌∙◌}
use Rattle.std.specs.Prelude.{ℤ, ◌&&◌, ◌||◌, not, is_some}
use Rattle.std.specs.Option.{option_map_or}
use Rattle.std.specs.List.{list_any}
use Rattle.check_protocol.specs.Types.{Key, Record, TxId, Value}
use Rattle.sdb_types.specs.declared.value.Value.TheVariants as value
use Rattle.sdb_types.specs.declared.record.State.TheVariants as state
use Rattle.sdb_types.specs.Contents.{has_value}
use Rattle.sdb_types.specs.Columns.{column}
use Rattle.sdb_record.specs.Coordinator.{coordinator_key_of}
use Rattle.sdb_record.specs.Names.{tx_tombstone}
use Rattle.sdb_record.specs.Parts.{before_record}
use Rattle.sdb_record.specs.Meta.{id_in, is_in}
use Rattle.sdb_record.specs.Rolls.{forward_record, is_tombstone}
use Rattle.sdb_record.proofs.Public.{column-before_part, forward-tombstone, forward-writer, mark_value}
use Rattle.law_protocol.specs.Lawful.{id, IsPreparedObserved, IsSettled, Itself, Forward, Back}
use Rattle.check_protocol.specs.declared.labelled.Labelled.{Labelled}
use Rattle.check_protocol.specs.Values.{all_labelled, same_record}
use Rattle.check_protocol.specs.Observed.{observed, writer_is, before_writer, has_tombstone_before, is_before_image_of, is_prepared_at, is_prepared_by, observes_commit, moments, is_forward, is_itself, is_back, forward_from, is_settled, settles, settles_removed}
use Rattle.check_protocol.proofs.Lists.{right, or_left, not_true, true_not, In, any_some, some_any}
use Rattle.check_protocol.proofs.ObservedLaws.{record_is, is_record, number_is, is_number, shown_is, is_shown, commit_shown, shows_commit_of, moment_shown, shown_moment, forward_is, is_forward_at, kept_is, is_kept_of, kept_writer_is, kept_some, before_columns}
use Rattle.sdb_types.proofs.Public.{and_both as both, and_first as left, clash, either, or_second as or_right, same_key_exact, same_key_of}
use Rattle.sdb_types.specs.Order.{same_key}
use Rattle.law_protocol.proofs.Public.{some_id}

---- writers

pub writer_of : (u : ℕ) (o : Option TxId) → writer_is u o ≡ true → o ≡ Some (id u)
writer_of u None h = clash (sym h)
writer_of u (Some i) h = let e = number_is u i.0 h in λ j. Some (record { 0 = (sym e) j })

pub is_writer_of : (u : ℕ) (o : Option TxId) → o ≡ Some (id u) → writer_is u o ≡ true
is_writer_of u o e = ap (writer_is u) e ∙ is_number u u refl

pub some_one : {A : Type 0} (o : Option A) → is_some o ≡ true → (x : A) × (o ≡ Some x)
some_one None h = clash (sym h)
some_one (Some x) h = (x, refl)

---- held

pub held_shown : (past : List Labelled) (t : ℕ) (k : Key) (r : Record) → In (observed past) r → is_prepared_at k r ≡ true → id_in r.columns ≡ Some (id t) → IsPreparedObserved (all_labelled past) t k r
held_shown past t k r i h w = record {
  observed = shown_is past r i;
  key = same_key_exact r.key k (left (same_key r.key k) (not (is_in state.Committed r.columns)) h);
  held = not_true (is_in state.Committed r.columns) (right (same_key r.key k) (not (is_in state.Committed r.columns)) h);
  writer = w;
}

pub is_held_of : (past : List Labelled) (t : ℕ) (k : Key) (r : Record) → IsPreparedObserved (all_labelled past) t k r → is_prepared_at k r ≡ true
is_held_of past t k r s = both (same_key r.key k) (not (is_in state.Committed r.columns)) (same_key_of r.key k s.key) (true_not (is_in state.Committed r.columns) s.held)

pub held_by : (past : List Labelled) (t : ℕ) (k : Key) (r : Record) → In (observed past) r → is_prepared_by t k r ≡ true → IsPreparedObserved (all_labelled past) t k r
held_by past t k r i h = held_shown past t k r i (left (is_prepared_at k r) (writer_is t (id_in r.columns)) h) (writer_of t (id_in r.columns) (right (is_prepared_at k r) (writer_is t (id_in r.columns)) h))

pub is_held_by_of : (past : List Labelled) (t : ℕ) (k : Key) (r : Record) → IsPreparedObserved (all_labelled past) t k r → is_prepared_by t k r ≡ true
is_held_by_of past t k r s = both (is_prepared_at k r) (writer_is t (id_in r.columns)) (is_held_of past t k r s) (is_writer_of t (id_in r.columns) s.writer)

---- settled

module _ (past : List Labelled) (k : Key) (b : Record) where
  itself_is : is_itself (observed past) k b ≡ true → IsSettled (all_labelled past) k b
  itself_is h =
      let rest = right (list_any (λ r. same_record r b) (observed past)) (same_key b.key k && is_in state.Committed b.columns) h in
      let a = any_some (λ r. same_record r b) (observed past) (left (list_any (λ r. same_record r b) (observed past)) (same_key b.key k && is_in state.Committed b.columns) h) in
      Itself (shown_is past b (subst (λ x. In (observed past) x) (record_is a.0 b a.2) a.1)) (same_key_exact b.key k (left (same_key b.key k) (is_in state.Committed b.columns) rest)) (right (same_key b.key k) (is_in state.Committed b.columns) rest)

  back_is : is_back (observed past) k b ≡ true → IsSettled (all_labelled past) k b
  back_is h =
      let a = any_some (λ (r : Record). is_prepared_at k r && (is_some (id_in r.columns) && is_before_image_of r b)) (observed past) h in
      let rest = right (is_prepared_at k a.0) (is_some (id_in a.0.columns) && is_before_image_of a.0 b) a.2 in
      let w = some_one (id_in a.0.columns) (left (is_some (id_in a.0.columns)) (is_before_image_of a.0 b) rest) in
      Back w.0.0 a.0 (held_shown past w.0.0 k a.0 a.1 (left (is_prepared_at k a.0) (is_some (id_in a.0.columns) && is_before_image_of a.0 b) a.2) w.1) (kept_is a.0 b (right (is_some (id_in a.0.columns)) (is_before_image_of a.0 b) rest))

  from_is : (r : Record) → In (observed past) r → is_prepared_at k r ≡ true → (o : Option TxId) → id_in r.columns ≡ o → option_map_or (λ i. is_forward r (moments (observed past) (coordinator_key_of i)) b) o false ≡ true → IsSettled (all_labelled past) k b
  from_is r i h None e f = clash (sym f)
  from_is r i h (Some w) e f =
      let a = forward_is r (moments (observed past) (coordinator_key_of w)) b f in
      Forward w.0 r a.0 (held_shown past w.0 k r i h e) (moment_shown past w.0 a.0 a.1) a.2

  forward_from_is : list_any (forward_from (observed past) k b) (observed past) ≡ true → IsSettled (all_labelled past) k b
  forward_from_is h =
      let a = any_some (forward_from (observed past) k b) (observed past) h in
      let o = option_map_or (λ i. is_forward a.0 (moments (observed past) (coordinator_key_of i)) b) (id_in a.0.columns) false in
      from_is a.0 a.1 (left (is_prepared_at k a.0) o a.2) (id_in a.0.columns) refl (right (is_prepared_at k a.0) o a.2)

  pub settled_is : is_settled (observed past) k b ≡ true → IsSettled (all_labelled past) k b
  settled_is h = elim (either (is_itself (observed past) k b) (is_back (observed past) k b || list_any (forward_from (observed past) k b) (observed past)) h) [
    | inl a ↦ itself_is a
    | inr c ↦ elim (either (is_back (observed past) k b) (list_any (forward_from (observed past) k b) (observed past)) c) [ inl a ↦ back_is a | inr a ↦ forward_from_is a ]
  ]

  pub is_settled_of : IsSettled (all_labelled past) k b → is_settled (observed past) k b ≡ true
  is_settled_of (Itself s key firm) =
      or_left (is_itself (observed past) k b) (is_back (observed past) k b || list_any (forward_from (observed past) k b) (observed past))
      (both (list_any (λ r. same_record r b) (observed past)) (same_key b.key k && is_in state.Committed b.columns) (some_any (λ r. same_record r b) (observed past) b (is_shown past b s) (is_record b b refl))
      (both (same_key b.key k) (is_in state.Committed b.columns) (same_key_of b.key k key) firm))
  is_settled_of (Forward t r m held row same) =
      or_right (is_itself (observed past) k b) (is_back (observed past) k b || list_any (forward_from (observed past) k b) (observed past))
      (or_right (is_back (observed past) k b) (list_any (forward_from (observed past) k b) (observed past))
      (some_any (forward_from (observed past) k b) (observed past) r (is_shown past r held.observed)
      (both (is_prepared_at k r) (option_map_or (λ i. is_forward r (moments (observed past) (coordinator_key_of i)) b) (id_in r.columns) false) (is_held_of past t k r held)
      (ap (λ o. option_map_or (λ i. is_forward r (moments (observed past) (coordinator_key_of i)) b) o false) held.writer ∙ is_forward_at r (moments (observed past) (coordinator_key_of (id t))) b m (shown_moment past t m row) same))))
  is_settled_of (Back t r held same) =
      or_right (is_itself (observed past) k b) (is_back (observed past) k b || list_any (forward_from (observed past) k b) (observed past))
      (or_left (is_back (observed past) k b) (list_any (forward_from (observed past) k b) (observed past))
      (some_any (λ (r : Record). is_prepared_at k r && (is_some (id_in r.columns) && is_before_image_of r b)) (observed past) r (is_shown past r held.observed)
      (both (is_prepared_at k r) (is_some (id_in r.columns) && is_before_image_of r b) (is_held_of past t k r held) (both (is_some (id_in r.columns)) (is_before_image_of r b) (ap is_some held.writer) (is_kept_of r b same)))))

---- a version that is settled

-- a settled record of this writer, of which this holds
pub record HasSettled (past : List Labelled) (k : Key) (u : ℕ) : Type 0 where
  pub b : Record
  pub settled : IsSettled (all_labelled past) k b
  pub writer : id_in b.columns ≡ Some (id u)

module _ (past : List Labelled) (k : Key) (u : ℕ) where
  abbrev own_of : Record → Bool
  own_of r = same_key r.key k && (is_in state.Committed r.columns && writer_is u (id_in r.columns))

  abbrev back_of : Record → Bool
  back_of r = is_prepared_at k r && (is_some (id_in r.columns) && writer_is u (before_writer r.columns))

  own_settles : list_any own_of (observed past) ≡ true → HasSettled past k u
  own_settles h =
      let a = any_some own_of (observed past) h in
      let rest = right (same_key a.0.key k) (is_in state.Committed a.0.columns && writer_is u (id_in a.0.columns)) a.2 in
      record {
        b = a.0;
        settled = Itself (shown_is past a.0 a.1) (same_key_exact a.0.key k (left (same_key a.0.key k) (is_in state.Committed a.0.columns && writer_is u (id_in a.0.columns)) a.2)) (left (is_in state.Committed a.0.columns) (writer_is u (id_in a.0.columns)) rest);
        writer = writer_of u (id_in a.0.columns) (right (is_in state.Committed a.0.columns) (writer_is u (id_in a.0.columns)) rest);
      }

  back_settles : list_any back_of (observed past) ≡ true → HasSettled past k u
  back_settles h =
      let a = any_some back_of (observed past) h in
      let rest = right (is_prepared_at k a.0) (is_some (id_in a.0.columns) && writer_is u (before_writer a.0.columns)) a.2 in
      let w = some_one (id_in a.0.columns) (left (is_some (id_in a.0.columns)) (writer_is u (before_writer a.0.columns)) rest) in
      let kw = writer_of u (before_writer a.0.columns) (right (is_some (id_in a.0.columns)) (writer_is u (before_writer a.0.columns)) rest) in
      let b = kept_some a.0 (id u) kw in
      record {
        b = b.0;
        settled = Back w.0.0 a.0 (held_shown past w.0.0 k a.0 a.1 (left (is_prepared_at k a.0) (is_some (id_in a.0.columns) && writer_is u (before_writer a.0.columns)) a.2) w.1) b.1;
        writer = ap id_in b.2 ∙ kept_writer_is a.0.columns ∙ kw;
      }

  forward_settles : list_any (is_prepared_by u k) (observed past) ≡ true → observes_commit (observed past) (coordinator_key_of (id u)) ≡ true → HasSettled past k u
  forward_settles h c =
      let a = any_some (is_prepared_by u k) (observed past) h in
      let m = commit_shown past u c in
      let s = held_by past u k a.0 a.1 a.2 in
      record { b = forward_record a.0 m.0; settled = Forward u a.0 m.0 s m.1 refl; writer = forward-writer a.0 m.0 ∙ s.writer }

  pub settles_is : settles (observed past) k u ≡ true → HasSettled past k u
  settles_is h =
      let f = list_any (is_prepared_by u k) (observed past) in
      let c = observes_commit (observed past) (coordinator_key_of (id u)) in
      elim (either (list_any own_of (observed past)) (list_any back_of (observed past) || (f && c)) h) [
        | inl a ↦ own_settles a
        | inr r ↦ elim (either (list_any back_of (observed past)) (f && c) r) [ inl a ↦ back_settles a | inr a ↦ forward_settles (left f c a) (right f c a) ]
      ]

  settles_by : (b : Record) → IsSettled (all_labelled past) k b → id_in b.columns ≡ Some (id u) → settles (observed past) k u ≡ true
  settles_by b (Itself s key firm) w =
      or_left (list_any own_of (observed past)) (list_any back_of (observed past) || (list_any (is_prepared_by u k) (observed past) && observes_commit (observed past) (coordinator_key_of (id u))))
      (some_any own_of (observed past) b (is_shown past b s) (both (same_key b.key k) (is_in state.Committed b.columns && writer_is u (id_in b.columns)) (same_key_of b.key k key) (both (is_in state.Committed b.columns) (writer_is u (id_in b.columns)) firm (is_writer_of u (id_in b.columns) w))))
  settles_by b (Forward t r m held row same) w =
      let t_is : t ≡ u = some_id t u (sym held.writer ∙ sym (forward-writer r m) ∙ ap (λ (x : Record). id_in x.columns) (sym same) ∙ w) in
      or_right (list_any own_of (observed past)) (list_any back_of (observed past) || (list_any (is_prepared_by u k) (observed past) && observes_commit (observed past) (coordinator_key_of (id u))))
      (or_right (list_any back_of (observed past)) (list_any (is_prepared_by u k) (observed past) && observes_commit (observed past) (coordinator_key_of (id u)))
      (both (list_any (is_prepared_by u k) (observed past)) (observes_commit (observed past) (coordinator_key_of (id u)))
      (some_any (is_prepared_by u k) (observed past) r (is_shown past r held.observed) (subst (λ x. is_prepared_by x k r ≡ true) t_is (is_held_by_of past t k r held)))
      (subst (λ x. observes_commit (observed past) (coordinator_key_of (id x)) ≡ true) t_is (shows_commit_of past t m row))))
  settles_by b (Back t r held same) w =
      or_right (list_any own_of (observed past)) (list_any back_of (observed past) || (list_any (is_prepared_by u k) (observed past) && observes_commit (observed past) (coordinator_key_of (id u))))
      (or_left (list_any back_of (observed past)) (list_any (is_prepared_by u k) (observed past) && observes_commit (observed past) (coordinator_key_of (id u)))
      (some_any back_of (observed past) r (is_shown past r held.observed)
      (both (is_prepared_at k r) (is_some (id_in r.columns) && writer_is u (before_writer r.columns)) (is_held_of past t k r held)
      (both (is_some (id_in r.columns)) (writer_is u (before_writer r.columns)) (ap is_some held.writer) (is_writer_of u (before_writer r.columns) (sym (kept_writer_is r.columns) ∙ ap id_in (sym (before_columns r b same)) ∙ w))))))

  pub settles_of : HasSettled past k u → settles (observed past) k u ≡ true
  settles_of s = settles_by s.b s.settled s.writer

---- a tombstone that is settled

forward_gone : (r : Record) (m : ℤ) → is_tombstone (forward_record r m) ≡ (is_in state.Deleted r.columns || is_tombstone r)
unfolding forward_record
forward_gone r m = ap (λ o. has_value o (value.Bool true)) (forward-tombstone r.columns m) ∙ marked (is_in state.Deleted r.columns) (column r.columns tx_tombstone)
  where
    marked : (d : Bool) (o : Option Value) → has_value (mark_value d o) (value.Bool true) ≡ (d || has_value o (value.Bool true))
    marked true o = refl
    marked false o = refl

kept_gone : (r b : Record) → before_record r ≡ Some b → is_tombstone b ≡ has_tombstone_before r.columns
kept_gone r b e = ap (λ ps. has_value (column ps tx_tombstone) (value.Bool true)) (before_columns r b e) ∙ ap (λ o. has_value o (value.Bool true)) (column-before_part r.columns tx_tombstone)

pub record HasGone (past : List Labelled) (k : Key) (u : ℕ) : Type 0 where
  pub b : Record
  pub settled : IsSettled (all_labelled past) k b
  pub gone : is_tombstone b ≡ true
  pub writer : id_in b.columns ≡ Some (id u)

module _ (past : List Labelled) (k : Key) (u : ℕ) where
  abbrev own_gone : Record → Bool
  own_gone r = same_key r.key k && (is_in state.Committed r.columns && (writer_is u (id_in r.columns) && is_tombstone r))

  abbrev back_gone : Record → Bool
  back_gone r = is_prepared_at k r && (is_some (id_in r.columns) && (writer_is u (before_writer r.columns) && has_tombstone_before r.columns))

  abbrev held_gone : Record → Bool
  held_gone r = is_prepared_by u k r && (is_in state.Deleted r.columns || is_tombstone r)

  own_goes : list_any own_gone (observed past) ≡ true → HasGone past k u
  own_goes h =
      let a = any_some own_gone (observed past) h in
      let one = right (same_key a.0.key k) (is_in state.Committed a.0.columns && (writer_is u (id_in a.0.columns) && is_tombstone a.0)) a.2 in
      let two = right (is_in state.Committed a.0.columns) (writer_is u (id_in a.0.columns) && is_tombstone a.0) one in
      record {
        b = a.0;
        settled = Itself (shown_is past a.0 a.1) (same_key_exact a.0.key k (left (same_key a.0.key k) (is_in state.Committed a.0.columns && (writer_is u (id_in a.0.columns) && is_tombstone a.0)) a.2)) (left (is_in state.Committed a.0.columns) (writer_is u (id_in a.0.columns) && is_tombstone a.0) one);
        gone = right (writer_is u (id_in a.0.columns)) (is_tombstone a.0) two;
        writer = writer_of u (id_in a.0.columns) (left (writer_is u (id_in a.0.columns)) (is_tombstone a.0) two);
      }

  back_goes : list_any back_gone (observed past) ≡ true → HasGone past k u
  back_goes h =
      let a = any_some back_gone (observed past) h in
      let one = right (is_prepared_at k a.0) (is_some (id_in a.0.columns) && (writer_is u (before_writer a.0.columns) && has_tombstone_before a.0.columns)) a.2 in
      let two = right (is_some (id_in a.0.columns)) (writer_is u (before_writer a.0.columns) && has_tombstone_before a.0.columns) one in
      let w = some_one (id_in a.0.columns) (left (is_some (id_in a.0.columns)) (writer_is u (before_writer a.0.columns) && has_tombstone_before a.0.columns) one) in
      let kw = writer_of u (before_writer a.0.columns) (left (writer_is u (before_writer a.0.columns)) (has_tombstone_before a.0.columns) two) in
      let b = kept_some a.0 (id u) kw in
      record {
        b = b.0;
        settled = Back w.0.0 a.0 (held_shown past w.0.0 k a.0 a.1 (left (is_prepared_at k a.0) (is_some (id_in a.0.columns) && (writer_is u (before_writer a.0.columns) && has_tombstone_before a.0.columns)) a.2) w.1) b.1;
        gone = kept_gone a.0 b.0 b.1 ∙ right (writer_is u (before_writer a.0.columns)) (has_tombstone_before a.0.columns) two;
        writer = ap id_in b.2 ∙ kept_writer_is a.0.columns ∙ kw;
      }

  forward_goes : list_any held_gone (observed past) ≡ true → observes_commit (observed past) (coordinator_key_of (id u)) ≡ true → HasGone past k u
  forward_goes h c =
      let a = any_some held_gone (observed past) h in
      let m = commit_shown past u c in
      let s = held_by past u k a.0 a.1 (left (is_prepared_by u k a.0) (is_in state.Deleted a.0.columns || is_tombstone a.0) a.2) in
      record { b = forward_record a.0 m.0; settled = Forward u a.0 m.0 s m.1 refl; gone = forward_gone a.0 m.0 ∙ right (is_prepared_by u k a.0) (is_in state.Deleted a.0.columns || is_tombstone a.0) a.2; writer = forward-writer a.0 m.0 ∙ s.writer }

  pub gone_is : settles_removed (observed past) k u ≡ true → HasGone past k u
  gone_is h =
      let f = list_any held_gone (observed past) in
      let c = observes_commit (observed past) (coordinator_key_of (id u)) in
      elim (either (list_any own_gone (observed past)) (list_any back_gone (observed past) || (f && c)) h) [
        | inl a ↦ own_goes a
        | inr r ↦ elim (either (list_any back_gone (observed past)) (f && c) r) [ inl a ↦ back_goes a | inr a ↦ forward_goes (left f c a) (right f c a) ]
      ]

  goes_by : (b : Record) → IsSettled (all_labelled past) k b → is_tombstone b ≡ true → id_in b.columns ≡ Some (id u) → settles_removed (observed past) k u ≡ true
  goes_by b (Itself s key firm) g w =
      or_left (list_any own_gone (observed past)) (list_any back_gone (observed past) || (list_any held_gone (observed past) && observes_commit (observed past) (coordinator_key_of (id u))))
      (some_any own_gone (observed past) b (is_shown past b s)
      (both (same_key b.key k) (is_in state.Committed b.columns && (writer_is u (id_in b.columns) && is_tombstone b)) (same_key_of b.key k key)
      (both (is_in state.Committed b.columns) (writer_is u (id_in b.columns) && is_tombstone b) firm (both (writer_is u (id_in b.columns)) (is_tombstone b) (is_writer_of u (id_in b.columns) w) g))))
  goes_by b (Forward t r m held row same) g w =
      let t_is : t ≡ u = some_id t u (sym held.writer ∙ sym (forward-writer r m) ∙ ap (λ (x : Record). id_in x.columns) (sym same) ∙ w) in
      or_right (list_any own_gone (observed past)) (list_any back_gone (observed past) || (list_any held_gone (observed past) && observes_commit (observed past) (coordinator_key_of (id u))))
      (or_right (list_any back_gone (observed past)) (list_any held_gone (observed past) && observes_commit (observed past) (coordinator_key_of (id u)))
      (both (list_any held_gone (observed past)) (observes_commit (observed past) (coordinator_key_of (id u)))
      (some_any held_gone (observed past) r (is_shown past r held.observed) (both (is_prepared_by u k r) (is_in state.Deleted r.columns || is_tombstone r) (subst (λ x. is_prepared_by x k r ≡ true) t_is (is_held_by_of past t k r held)) (sym (forward_gone r m) ∙ ap is_tombstone (sym same) ∙ g)))
      (subst (λ x. observes_commit (observed past) (coordinator_key_of (id x)) ≡ true) t_is (shows_commit_of past t m row))))
  goes_by b (Back t r held same) g w =
      or_right (list_any own_gone (observed past)) (list_any back_gone (observed past) || (list_any held_gone (observed past) && observes_commit (observed past) (coordinator_key_of (id u))))
      (or_left (list_any back_gone (observed past)) (list_any held_gone (observed past) && observes_commit (observed past) (coordinator_key_of (id u)))
      (some_any back_gone (observed past) r (is_shown past r held.observed)
      (both (is_prepared_at k r) (is_some (id_in r.columns) && (writer_is u (before_writer r.columns) && has_tombstone_before r.columns)) (is_held_of past t k r held)
      (both (is_some (id_in r.columns)) (writer_is u (before_writer r.columns) && has_tombstone_before r.columns) (ap is_some held.writer)
      (both (writer_is u (before_writer r.columns)) (has_tombstone_before r.columns) (is_writer_of u (before_writer r.columns) (sym (kept_writer_is r.columns) ∙ ap id_in (sym (before_columns r b same)) ∙ w)) (sym (kept_gone r b same) ∙ g))))))

  pub gone_of : HasGone past k u → settles_removed (observed past) k u ≡ true
  gone_of s = goes_by s.b s.settled s.gone s.writer
