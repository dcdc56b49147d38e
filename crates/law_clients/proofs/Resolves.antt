-- What stays as unresolved records are resolved: soundness, decisions and images.
use Rattle.std.proofs.Common.{◌≡◌, ◌≢◌, ◌<◌, ◌^◌, ℕ, ℤ, Bool, true, false, List, Option, Some, None, Result, Ok, Err, ◌⊎◌, inl, inr, refl, sym, ap, subst, ◌∙◌}
use Rattle.std.specs.Prelude.{is_ok, IsSomeAnd, if◌then◌else◌}
use Rattle.std.specs.Option.{option_and_then}
use Rattle.std.specs.Result.{result_ok}
use Rattle.law_clients.specs.Types.{Decided, Key, Record, Table, TxId}
use Rattle.sdb_types.specs.declared.record.State.TheVariants as state
use Rattle.sdb_types.specs.Order.{same_key}
use Rattle.sdb_types.proofs.Public.{false_true, none_some, same_key_decides, some_is}
use Rattle.sdb_record.specs.declared.coordinator.Decision.TheVariants as decision
use Rattle.sdb_record.specs.Coordinator.{coordinator_key_of, coordinator_row_of, decision_in, is_coordinator_table}
use Rattle.sdb_record.specs.Meta.{id_in, is_in, is_moment, is_transactional}
use Rattle.sdb_record.specs.Parts.{before_record}
use Rattle.sdb_record.specs.Rolls.{image_of, image_under, row_of_image}
use Rattle.sdb_txn.proofs.Public.{decided_at}
use Rattle.sdb_record.proofs.Public.{has_moment, image-is, image-open, image-settled, row-decision}
use Rattle.law_clients.specs.Database.{Database, IsWith, decided_in, decided_on, image_in, is_committed_or_none, is_listed, row_in}
use Rattle.law_clients.specs.OnlyResolves.{IsApart, IsPreparedFor, IsResolved, IsAbortedRow, OnlyResolves, IsSound}
use Rattle.law_clients.proofs.ReadRecords.{coordinators}

---- coordinator rows

---- images

pub under_aborted : (r : Record) (d : Decided) → d.decision ≡ decision.Aborted → image_under r (Some d) ≡ before_record r
under_aborted r d e = rw e refl

-- what a committed record, or none, means
pub firm_image : (o : Option Record) (f : Record → Option Decided) → is_committed_or_none o ≡ true → option_and_then (λ r. image_of r (f r)) o ≡ o
firm_image None f h = refl
firm_image (Some r) f h = image-settled r (f r) h

-- an unresolved record, of which a decision is known that has a moment, means a committed record or none
pub under_firm : (r : Record) (d : Option Decided) → is_transactional r ≡ true → is_in state.Committed r.columns ≡ false → has_moment d → is_committed_or_none (image_under r d) ≡ true
under_firm r d accepted loose moment = by (image_under r d) refl
  where
    by : (o : Option Record) → image_under r d ≡ o → is_committed_or_none o ≡ true
    by None e = refl
    by (Some i) e = (image-is r i d accepted moment (image-open r d loose ∙ e)).committed

-- a decision that is known has a moment
pub row_moment : (g : Database) (r : Record) (d : Decided) → decided_on g r ≡ Some d → is_moment d.created_at ≡ true
row_moment g r d e = by (id_in r.columns) e
  where
    replied : (row : Record) (x : Result Decided (List ℕ)) → decision_in row ≡ x → result_ok x ≡ Some d → is_moment d.created_at ≡ true
    replied row (Ok y) f e = decided_at row d (f ∙ ap (λ z. Ok z) (some_is y d e))
    replied row (Err name) f e = none_some d e

    at : (o : Option Record) → option_and_then (λ row. result_ok (decision_in row)) o ≡ Some d → is_moment d.created_at ≡ true
    at None e = none_some d e
    at (Some row) e = replied row (decision_in row) refl e

    by : (o : Option TxId) → option_and_then (decided_in g) o ≡ Some d → is_moment d.created_at ≡ true
    by None e = none_some d e
    by (Some id) e = at (g (coordinator_key_of id)) e

-- a row that says ABORTED is well formed
aborted_ok : (row : Record) → IsAbortedRow row → is_ok (decision_in row) ≡ true
aborted_ok row a = by (decision_in row) a
  where
    by : (x : Result Decided (List ℕ)) → IsSomeAnd (result_ok x) (λ d. d.decision ≡ decision.Aborted) → is_ok x ≡ true
    by (Ok d) a = refl
    by (Err name) a = absurd a

---- what stays

module _ (catalog : List Table) (g h : Database) (s : OnlyResolves catalog g h) where
  -- The image of an unresolved record is the same by the rows of both moments.
  same_under : (r : Record) (o : Option TxId) → image_under r (option_and_then (decided_in h) o) ≡ image_under r (option_and_then (decided_in g) o)
  same_under r None = refl
  same_under r (Some id) = by (g key) refl (h key) refl
    where
      key : Key
      key = coordinator_key_of id

      took : Option Record → Option Decided
      took o = option_and_then (λ row. result_ok (decision_in row)) o

      aborted : (row : Record) → IsAbortedRow row → (d : Option Decided) → result_ok (decision_in row) ≡ d → image_under r d ≡ before_record r
      aborted row a None e = refl
      aborted row a (Some d) e = under_aborted r d (subst (λ o. IsSomeAnd o (λ x. x.decision ≡ decision.Aborted)) e a)

      by : (x : Option Record) → g key ≡ x → (y : Option Record) → h key ≡ y → image_under r (took (h key)) ≡ image_under r (took (g key))
      by None e None f = rw (e, f) refl
      by None e (Some row) f = rw (e, f) (aborted row (s.fresh key row (coordinators id) e f).0 (result_ok (decision_in row)) refl)
      by (Some row) e y f = ap (λ o. image_under r (took o)) (s.rows key row (coordinators id) e ∙ sym e)

  -- a decision stays
  pub decided_stays : (r : Record) (d : Decided) → decided_on g r ≡ Some d → decided_on h r ≡ Some d
  decided_stays r d e = by (id_in r.columns) e
    where
      at : (id : TxId) (x : Option Record) → g (coordinator_key_of id) ≡ x → decided_in g id ≡ Some d → decided_in h id ≡ Some d
      at id None f e = none_some d (sym (ap (λ o. option_and_then (λ row. result_ok (decision_in row)) o) f) ∙ e)
      at id (Some row) f e = ap (λ o. option_and_then (λ row. result_ok (decision_in row)) o) (s.rows (coordinator_key_of id) row (coordinators id) f ∙ sym f) ∙ e

      by : (o : Option TxId) → option_and_then (decided_in g) o ≡ Some d → option_and_then (decided_in h) o ≡ Some d
      by None e = none_some d e
      by (Some id) e = at id (g (coordinator_key_of id)) refl e

  -- what an unresolved record was resolved to is a committed record or none
  pub resolved_firm : (k : Key) (r : Record) → is_transactional r ≡ true → is_in state.Committed r.columns ≡ false → IsResolved h k r → is_committed_or_none (h k) ≡ true
  resolved_firm k r accepted loose x = subst (λ o. is_committed_or_none o ≡ true) (sym x.present) (under_firm r (Some x.d) accepted loose (row_moment h r x.d x.decided))

  module _ (sound : IsSound catalog g) where
    -- The image at each key stays.
    pub image_stays : (k : Key) → is_listed catalog k ≡ true → image_in h k ≡ image_in g k
    image_stays k listed = by (g k) refl
      where
        means : Database → Option Record → Option Record
        means j o = option_and_then (λ r. image_of r (decided_on j r)) o

        firm : (o : Option Record) → g k ≡ o → is_committed_or_none o ≡ true → image_in h k ≡ image_in g k
        firm o e f =
            let stays = s.firm k listed (subst (λ x. is_committed_or_none x ≡ true) (sym e) f) in
            ap (means h) (stays ∙ e) ∙ firm_image o (decided_on h) f ∙ sym (ap (means g) e ∙ firm_image o (decided_on g) f)

        open_same : (r : Record) → is_in state.Committed r.columns ≡ false → image_of r (decided_on h r) ≡ image_of r (decided_on g r)
        open_same r loose = image-open r (decided_on h r) loose ∙ same_under r (id_in r.columns) ∙ sym (image-open r (decided_on g r) loose)

        held : (r : Record) → g k ≡ Some r → is_in state.Committed r.columns ≡ false → (h k ≡ Some r) ⊎ IsResolved h k r → image_in h k ≡ image_in g k
        held r e loose (inl stays) = ap (means h) stays ∙ open_same r loose ∙ sym (ap (means g) e)
        held r e loose (inr x) =
            let firm_now = resolved_firm k r (sound.accepted k r listed e) loose x in
            firm_image (h k) (decided_on h) firm_now ∙ x.present ∙ ap (image_under r) (sym x.decided) ∙ same_under r (id_in r.columns) ∙ sym (image-open r (decided_on g r) loose) ∙ sym (ap (means g) e)

        loose : (r : Record) → g k ≡ Some r → (b : Bool) → is_in state.Committed r.columns ≡ b → image_in h k ≡ image_in g k
        loose r e true f = firm (Some r) e f
        loose r e false f = held r e f (s.held k r listed e f)

        by : (o : Option Record) → g k ≡ o → image_in h k ≡ image_in g k
        by None e = firm None e refl
        by (Some r) e = loose r e (is_in state.Committed r.columns) refl

    -- an unresolved record that is there later was there before
    pub unresolved_before : (k : Key) (r : Record) → is_listed catalog k ≡ true → h k ≡ Some r → is_in state.Committed r.columns ≡ false → g k ≡ Some r
    unresolved_before k r listed e loose = by (g k) refl
      where
        no_firm : is_committed_or_none (h k) ≡ true → ⊥
        no_firm f = false_true (sym loose ∙ subst (λ o. is_committed_or_none o ≡ true) e f)

        held : (was : Record) → g k ≡ Some was → is_in state.Committed was.columns ≡ false → (h k ≡ Some was) ⊎ IsResolved h k was → g k ≡ Some r
        held was f loose (inl stays) = f ∙ sym stays ∙ e
        held was f loose (inr x) = absurd (no_firm (resolved_firm k was (sound.accepted k was listed f) loose x))

        some : (was : Record) → g k ≡ Some was → (b : Bool) → is_in state.Committed was.columns ≡ b → g k ≡ Some r
        some was f true firm = absurd (no_firm (subst (λ o. is_committed_or_none o ≡ true) (sym (s.firm k listed (subst (λ o. is_committed_or_none o ≡ true) (sym f) firm) ∙ f)) firm))
        some was f false loose = held was f loose (s.held k was listed f loose)

        by : (o : Option Record) → g k ≡ o → g k ≡ Some r
        by None f = none_some r (sym (s.firm k listed (subst (λ o. is_committed_or_none o ≡ true) (sym f) refl) ∙ f) ∙ e)
        by (Some was) f = some was f (is_in state.Committed was.columns) refl

    pub row_stays : (k : Key) → is_listed catalog k ≡ true → row_in h k ≡ row_in g k
    row_stays k listed = ap (λ o. option_and_then row_of_image o) (image_stays k listed)

    -- And so is soundness, where each record is at its own key.
    pub sound_stays : ((k : Key) (r : Record) → h k ≡ Some r → r.key ≡ k) → IsSound catalog h
    sound_stays own = record {
      own = own;
      accepted = λ k r listed e. accepted k r listed e (g k) refl;
      rows = λ k row there e. rows k row there e (g k) refl;
      fits = λ k columns listed e. sound.fits k columns listed (sym (row_stays k listed) ∙ e);
    }
      where
        resolved : (k : Key) (r was : Record) → is_listed catalog k ≡ true → g k ≡ Some was → is_in state.Committed was.columns ≡ false → h k ≡ Some r → IsResolved h k was → is_transactional r ≡ true
        resolved k r was listed e loose f x =
            let is_write = sound.accepted k was listed e in
            (image-is was r (Some x.d) is_write (row_moment h was x.d x.decided) (image-open was (Some x.d) loose ∙ sym x.present ∙ f)).accepted

        held : (k : Key) (r was : Record) → is_listed catalog k ≡ true → g k ≡ Some was → is_in state.Committed was.columns ≡ false → h k ≡ Some r → (h k ≡ Some was) ⊎ IsResolved h k was → is_transactional r ≡ true
        held k r was listed e loose f (inl stays) = subst (λ x. is_transactional x ≡ true) (some_is was r (sym stays ∙ f)) (sound.accepted k was listed e)
        held k r was listed e loose f (inr x) = resolved k r was listed e loose f x

        was_some : (k : Key) (r was : Record) → is_listed catalog k ≡ true → h k ≡ Some r → g k ≡ Some was → (b : Bool) → is_in state.Committed was.columns ≡ b → is_transactional r ≡ true
        was_some k r was listed f e true firm = subst (λ x. is_transactional x ≡ true) (some_is was r (sym (s.firm k listed (subst (λ o. is_committed_or_none o ≡ true) (sym e) firm) ∙ e) ∙ f)) (sound.accepted k was listed e)
        was_some k r was listed f e false loose = held k r was listed e loose f (s.held k was listed e loose)

        accepted : (k : Key) (r : Record) → is_listed catalog k ≡ true → h k ≡ Some r → (o : Option Record) → g k ≡ o → is_transactional r ≡ true
        accepted k r listed f None e = none_some r (sym (s.firm k listed (subst (λ o. is_committed_or_none o ≡ true) (sym e) refl) ∙ e) ∙ f)
        accepted k r listed f (Some was) e = was_some k r was listed f e (is_in state.Committed was.columns) refl

        rows : (k : Key) (row : Record) → is_coordinator_table k.table ≡ true → h k ≡ Some row → (o : Option Record) → g k ≡ o → is_ok (decision_in row) ≡ true
        rows k row there f None e = aborted_ok row (s.fresh k row there e f).0
        rows k row there f (Some was) e = subst (λ x. is_ok (decision_in x) ≡ true) (some_is was row (sym (s.rows k was there e) ∙ f)) (sound.rows k was there e)

---- one after the other

pub settles_refl : (catalog : List Table) (g : Database) → OnlyResolves catalog g g
settles_refl catalog g = record {
  firm = λ k listed f. refl;
  held = λ k r listed e loose. inl e;
  rows = λ k row there e. e;
  fresh = λ k row there e f. none_some row (sym e ∙ f);
}

pub settles_trans : (catalog : List Table) (g h j : Database) → IsSound catalog g → OnlyResolves catalog g h → OnlyResolves catalog h j → OnlyResolves catalog g j
settles_trans catalog g h j sound s t = record {
  firm = λ k listed f. t.firm k listed (subst (λ o. is_committed_or_none o ≡ true) (sym (s.firm k listed f)) f) ∙ s.firm k listed f;
  held = λ k r listed e loose. held k r listed e loose (s.held k r listed e loose);
  rows = λ k row there e. t.rows k row there (s.rows k row there e);
  fresh = λ k row there e f. fresh k row there e f (h k) refl;
}
  where
    held : (k : Key) (r : Record) → is_listed catalog k ≡ true → g k ≡ Some r → is_in state.Committed r.columns ≡ false → (h k ≡ Some r) ⊎ IsResolved h k r → (j k ≡ Some r) ⊎ IsResolved j k r
    held k r listed e loose (inl stays) = t.held k r listed stays loose
    held k r listed e loose (inr x) = inr (record {
      d = x.d;
      decided = decided_stays catalog h j t r x.d x.decided;
      present = t.firm k listed (resolved_firm catalog g h s k r (sound.accepted k r listed e) loose x) ∙ x.present;
    })

    -- an unresolved record that is there later was there before
    held_before : (k : Key) → IsPreparedFor catalog h k → IsPreparedFor catalog g k
    held_before k x = record { at = x.at; r = x.r; id = x.id; listed = x.listed; present = unresolved_before catalog g h s sound x.at x.r x.listed x.present x.loose; loose = x.loose; writer = x.writer; key = x.key }

    fresh : (k : Key) (row : Record) → is_coordinator_table k.table ≡ true → g k ≡ None → j k ≡ Some row → (o : Option Record) → h k ≡ o → IsAbortedRow row × IsPreparedFor catalog g k
    fresh k row there e f None m = let x = t.fresh k row there m f in (x.0, held_before k x.1)
    fresh k row there e f (Some was) m = let x = s.fresh k was there e m in (subst IsAbortedRow (some_is was row (sym (t.rows k was there m) ∙ f)) x.0, x.1)

---- single moves

-- a put of a row ABORTED where there was none
pub abort_settles : (catalog : List Table) (g h : Database) (id : TxId) (moment : ℤ) (rec : Record) → IsApart catalog → is_listed catalog rec.key ≡ true → g rec.key ≡ Some rec → is_in state.Committed rec.columns ≡ false → id_in rec.columns ≡ Some id → id.0 < 2 ^ 128 → is_moment moment ≡ true → g (coordinator_key_of id) ≡ None → IsWith (coordinator_key_of id) (Some (coordinator_row_of id decision.Aborted moment)) g h → OnlyResolves catalog g h
abort_settles catalog g h id moment rec apart rec_listed rec_present rec_open rec_writer fits time none now = record {
  firm = λ k listed f. other k (apart k listed);
  held = λ k r listed e loose. inl (other k (apart k listed) ∙ e);
  rows = λ k row there e. rows k row e (same_key_decides k key);
  fresh = λ k row there e f. fresh k row e f (same_key_decides k key);
}
  where
    key : Key
    key = coordinator_key_of id

    aborted : Record
    aborted = coordinator_row_of id decision.Aborted moment

    other : (k : Key) → is_coordinator_table k.table ≡ false → h k ≡ g k
    other k f = by (same_key_decides k key)
      where
        by : ((same_key k key ≡ true) × (k ≡ key)) ⊎ ((same_key k key ≡ false) × (k ≢ key)) → h k ≡ g k
        by (inl e) = false_true (sym f ∙ ap (λ x. is_coordinator_table x.table) e.1 ∙ coordinators id)
        by (inr n) = now k ∙ ap (λ b. if b then Some aborted else g k) n.0

    rows : (k : Key) (row : Record) → g k ≡ Some row → ((same_key k key ≡ true) × (k ≡ key)) ⊎ ((same_key k key ≡ false) × (k ≢ key)) → h k ≡ Some row
    rows k row e (inl s) = none_some row (sym none ∙ ap g (sym s.1) ∙ e)
    rows k row e (inr n) = now k ∙ ap (λ b. if b then Some aborted else g k) n.0 ∙ e

    says : IsAbortedRow aborted
    says = subst (λ x. IsSomeAnd (result_ok x) (λ d. d.decision ≡ decision.Aborted)) (sym (row-decision id decision.Aborted moment fits time)) refl

    fresh : (k : Key) (row : Record) → g k ≡ None → h k ≡ Some row → ((same_key k key ≡ true) × (k ≡ key)) ⊎ ((same_key k key ≡ false) × (k ≢ key)) → IsAbortedRow row × IsPreparedFor catalog g k
    fresh k row e f (inl s) = (
      subst IsAbortedRow (some_is aborted row (sym (now k ∙ ap (λ b. if b then Some aborted else g k) s.0) ∙ f)) says,
      record { at = rec.key; r = rec; id = id; listed = rec_listed; present = rec_present; loose = rec_open; writer = rec_writer; key = s.1 },
    )
    fresh k row e f (inr n) = none_some row (sym (now k ∙ ap (λ b. if b then Some aborted else g k) n.0 ∙ e) ∙ f)

-- an unresolved record is rolled by the decision on its writer
pub roll_settles : (catalog : List Table) (g h : Database) (rec : Record) (d : Decided) → IsApart catalog → is_listed catalog rec.key ≡ true → g rec.key ≡ Some rec → is_in state.Committed rec.columns ≡ false → decided_on g rec ≡ Some d → IsWith rec.key (image_under rec (Some d)) g h → OnlyResolves catalog g h
roll_settles catalog g h rec d apart listed present loose decided now = record {
  firm = λ k there f. firm k f (same_key_decides k rec.key);
  held = λ k r there e loose. held k r e (same_key_decides k rec.key);
  rows = λ k row there e. other k there ∙ e;
  fresh = λ k row there e f. none_some row (sym (other k there ∙ e) ∙ f);
}
  where
    new : Option Record
    new = image_under rec (Some d)

    firm : (k : Key) → is_committed_or_none (g k) ≡ true → ((same_key k rec.key ≡ true) × (k ≡ rec.key)) ⊎ ((same_key k rec.key ≡ false) × (k ≢ rec.key)) → h k ≡ g k
    firm k f (inl s) = false_true (sym loose ∙ subst (λ o. is_committed_or_none o ≡ true) (ap g s.1 ∙ present) f)
    firm k f (inr n) = now k ∙ ap (λ b. if b then new else g k) n.0

    other : (k : Key) → is_coordinator_table k.table ≡ true → h k ≡ g k
    other k there = by (same_key_decides k rec.key)
      where
        by : ((same_key k rec.key ≡ true) × (k ≡ rec.key)) ⊎ ((same_key k rec.key ≡ false) × (k ≢ rec.key)) → h k ≡ g k
        by (inl s) = false_true (sym (apart rec.key listed) ∙ ap (λ x. is_coordinator_table x.table) (sym s.1) ∙ there)
        by (inr n) = now k ∙ ap (λ b. if b then new else g k) n.0

    ids : (k : Key) → same_key k rec.key ≡ true → k ≡ rec.key → decided_on h rec ≡ Some d
    ids k s e = by (id_in rec.columns) decided
      where
        by : (o : Option TxId) → option_and_then (decided_in g) o ≡ Some d → option_and_then (decided_in h) o ≡ Some d
        by None f = f
        by (Some id) f = ap (λ o. option_and_then (λ row. result_ok (decision_in row)) o) (other (coordinator_key_of id) (coordinators id)) ∙ f

    held : (k : Key) (r : Record) → g k ≡ Some r → ((same_key k rec.key ≡ true) × (k ≡ rec.key)) ⊎ ((same_key k rec.key ≡ false) × (k ≢ rec.key)) → (h k ≡ Some r) ⊎ IsResolved h k r
    held k r e (inl s) =
        let same : rec ≡ r = some_is rec r (sym present ∙ ap g (sym s.1) ∙ e) in
        inr (subst (IsResolved h k) same (record { d = d; decided = ids k s.0 s.1; present = now k ∙ ap (λ b. if b then new else g k) s.0 }))
    held k r e (inr n) = inl (now k ∙ ap (λ b. if b then new else g k) n.0 ∙ e)
