-- What a COMMIT that has ended leaves stays sound, and only its own records and row are new.
use Rattle.std.proofs.Common.{◌≡◌, ℕ, true, false, List, Option, Some, None, Result, Ok, Err, ◌⊎◌, inl, inr, refl, sym, ap, subst, ◌∙◌}
use Rattle.std.specs.Prelude.{is_ok, is_some, slice_get, IfSome, IsSomeAnd, if◌then◌else◌}
use Rattle.std.specs.Result.{result_ok}
use Rattle.std.specs.FinMap.{get}
use Rattle.law_clients.specs.Types.{Decided, Key, Pair, Record, Table, Write}
use Rattle.sdb_types.specs.declared.record.State.TheVariants as state
use Rattle.sdb_types.proofs.Public.{and_first, false_true, none_some, same_key_decides, some_is}
use Rattle.sdb_record.specs.declared.coordinator.Decision.TheVariants as decision
use Rattle.sdb_record.specs.Among.{write_among}
use Rattle.sdb_record.specs.Coordinator.{coordinator_key_of, decision_in, is_coordinator_table}
use Rattle.sdb_record.specs.Meta.{is_in, is_transactional, moment_in, moment_in_value}
use Rattle.sdb_record.specs.Names.{tx_prepared_at}
use Rattle.sdb_record.specs.Rolls.{IsBaseOf, IsWrite, base_columns, new_columns, next_version, prepared_record, state_of_change}
use Rattle.sdb_record.proofs.Public.{forward-accepted, forward-committed, marked-time, prepared-columns, prepared-unresolved, prepared-version, version-writer, with_base}
use Rattle.sdb_model.specs.Exec.{Tables}
use Rattle.sdb_phases.specs.Work.{Work}
use Rattle.sdb_snapshot.specs.Rows.{with_own}
use Rattle.law_clients.specs.Fitting.{row_is_well_typed}
use Rattle.law_clients.specs.Database.{Database, decided_in, is_listed, row_in}
use Rattle.law_clients.specs.OnlyResolves.{IsApart, IsPreparedFor, IsAbortedRow, IsSound}
use Rattle.law_clients.specs.Recovers.{IsAborted, IsCommittedAt, IsUndecided}
use Rattle.law_clients.specs.Commits.{IsDone, IsGivenUp, IsLoose, IsWon, OthersUnchanged, WorkAlone}
use Rattle.law_clients.specs.Later.{IsOwn, IsOwnRow, Later}
use Rattle.law_clients.specs.Seen.{AreImagesOf}
use Rattle.law_clients.proofs.Leaves.{done_images, given_up_rows, row_unwritten}
use Rattle.law_clients.proofs.Recovers.{row_at}
use Rattle.law_clients.proofs.Writes.{found_at, based_at}
use Rattle.law_clients.proofs.ReadRecords.{coordinators}

---- rows of tables that fit

module _ (catalog : List Table) (apart : IsApart catalog) (start : Database) (sound : IsSound catalog start) (p : Work) (work : WorkAlone catalog start p) (h : Database) (others : OthersUnchanged p start h) (own : (k : Key) (x : Record) → h k ≡ Some x → x.key ≡ k) where
  abbrev row : Key
  row = coordinator_key_of p.id

  -- a record of a table is the one that was there before, or one that was written
  at_key : (G : Record → Type 0) (k : Key) → is_listed catalog k ≡ true → (r : Record) → h k ≡ Some r → (start k ≡ Some r → G r) → ((j : ℕ) (w : Write) → slice_get p.writes j ≡ Some w → k ≡ w.key → h w.key ≡ Some r → G r) → G r
  at_key G k listed r e stood wrote = by (write_among p.writes k) refl
    where
      by : (o : Option Write) → write_among p.writes k ≡ o → G r
      by None f = stood (sym (others k (ap is_some f) (elim (same_key_decides k row) [
        | inl s ↦ false_true (sym (apart k listed) ∙ ap (λ (x : Key). is_coordinator_table x.table) s.1 ∙ coordinators p.id)
        | inr n ↦ n.0
      ])) ∙ e)
      by (Some w) f = let x = found_at p.writes k w f in wrote x.0 w x.1 x.2 (subst (λ q. h q ≡ Some r) x.2 e)

  is_write : (j : ℕ) (w : Write) → slice_get p.writes j ≡ Some w → IsWrite w
  is_write j w at = (based_at catalog apart start p work j w at).is_write

  base_of : (w : Write) → IsWrite w → (r : Record) → w.base ≡ Some r → IsBaseOf w.key r
  base_of w f r e = subst (λ o. IfSome o (IsBaseOf w.key)) e f.base

  prepared_taken : (w : Write) → IsWrite w → (r : Record) → Some (prepared_record w p.id p.now) ≡ Some r → is_transactional r ≡ true
  prepared_taken w f r e = subst (λ x. is_transactional x ≡ true) (some_is _ r e) (and_first (is_transactional (prepared_record w p.id p.now)) _ (prepared-unresolved w p.id p.now f work.fits work.time))

  -- each write leaves a record that passes the checks
  loose_taken : (w : Write) → IsWrite w → (o : Option Record) → IsLoose p w o → (r : Record) → o ≡ Some r → is_transactional r ≡ true
  loose_taken w f o (inl e) r g = (base_of w f r (sym e ∙ g)).1
  loose_taken w f o (inr e) r g = prepared_taken w f r (sym e ∙ g)

  won_taken : (w : Write) → IsWrite w → (o : Option Record) → IsWon p w o → (r : Record) → o ≡ Some r → is_transactional r ≡ true
  won_taken w f o (inl e) r g = prepared_taken w f r (sym e ∙ g)
  won_taken w f o (inr e) r g = subst (λ x. is_transactional x ≡ true) (some_is _ r (sym e ∙ g)) (forward-accepted (prepared_record w p.id p.now) p.now (prepared-unresolved w p.id p.now f work.fits work.time) work.time)

  -- an unresolved one that it leaves is its own
  own_prepared : (w : Write) (r : Record) → Some (prepared_record w p.id p.now) ≡ Some r → IsOwn (Some (record { id = p.id; at = p.now })) r
  own_prepared w r e = subst (IsOwn (Some (record { id = p.id; at = p.now }))) (some_is _ r e) (record {
    o = record { id = p.id; at = p.now };
    is = refl;
    writer = version-writer (prepared_record w p.id p.now) p.id _ work.fits (prepared-version w p.id p.now);
    moment = ap (λ ps. moment_in ps tx_prepared_at) (prepared-columns w p.id p.now) ∙ ap moment_in_value (marked-time p.id (state_of_change w.change) (next_version w.base) p.now (with_base (new_columns w.change) (base_columns w.base))) ∙ ap (λ b. if b then Some p.now else None) work.time;
  })

  loose_own : (w : Write) → IsWrite w → (o : Option Record) → IsLoose p w o → (r : Record) → o ≡ Some r → is_in state.Committed r.columns ≡ false → IsOwn (Some (record { id = p.id; at = p.now })) r
  loose_own w f o (inl e) r g loose = false_true (sym loose ∙ (base_of w f r (sym e ∙ g)).2)
  loose_own w f o (inr e) r g loose = own_prepared w r (sym e ∙ g)

  won_own : (w : Write) → IsWrite w → (o : Option Record) → IsWon p w o → (r : Record) → o ≡ Some r → is_in state.Committed r.columns ≡ false → IsOwn (Some (record { id = p.id; at = p.now })) r
  won_own w f o (inl e) r g loose = own_prepared w r (sym e ∙ g)
  won_own w f o (inr e) r g loose = false_true (sym loose ∙ subst (λ x. is_in state.Committed x.columns ≡ true) (some_is _ r (sym e ∙ g)) (forward-committed (prepared_record w p.id p.now) p.now))

  -- coordinator rows
  row_there : (k : Key) (x : Record) → is_coordinator_table k.table ≡ true → start k ≡ Some x → h k ≡ Some x
  row_there k x there e = elim (same_key_decides k row) [
    | inl s ↦ none_some x (sym work.fresh ∙ ap start (sym s.1) ∙ e)
    | inr n ↦ others k (row_unwritten catalog apart start sound p work h others k there) n.0 ∙ e
  ]

  row_new : (k : Key) (x : Record) → is_coordinator_table k.table ≡ true → start k ≡ None → h k ≡ Some x → (IsAbortedRow x × IsPreparedFor catalog start k) ⊎ IsOwnRow (Some (record { id = p.id; at = p.now })) k
  row_new k x there e f = elim (same_key_decides k row) [
    | inl s ↦ inr (record { o = record { id = p.id; at = p.now }; is = refl; key = s.1 })
    | inr n ↦ none_some x (sym (others k (row_unwritten catalog apart start sound p work h others k there) n.0 ∙ e) ∙ f)
  ]

  rows_ok : (IsUndecided h p.id ⊎ IsSomeAnd (decided_in h p.id) (λ d. Unit {0})) → (k : Key) (x : Record) → is_coordinator_table k.table ≡ true → h k ≡ Some x → is_ok (decision_in x) ≡ true
  rows_ok known k x there e = elim (same_key_decides k row) [
    | inl s ↦ of known (ap h (sym s.1) ∙ e)
    | inr n ↦ sound.rows k x there (sym (others k (row_unwritten catalog apart start sound p work h others k there) n.0) ∙ e)
  ]
    where
      replied : (o : Result Decided (List ℕ)) → IsSomeAnd (result_ok o) (λ d. Unit {0}) → is_ok o ≡ true
      replied (Ok d) a = refl
      replied (Err name) a = absurd a

      of : (IsUndecided h p.id ⊎ IsSomeAnd (decided_in h p.id) (λ d. Unit {0})) → h row ≡ Some x → is_ok (decision_in x) ≡ true
      of (inl none) f = none_some x (sym none ∙ f)
      of (inr some) f = replied (decision_in x) (subst (λ o. IsSomeAnd (row_at o) (λ d. Unit {0})) f some)

  aborted_known : IsAborted h p.id → IsSomeAnd (decided_in h p.id) (λ d. Unit {0})
  aborted_known a = by (decided_in h p.id) a
    where
      by : (o : Option Decided) → IsSomeAnd o (λ d. d.decision ≡ decision.Aborted) → IsSomeAnd o (λ d. Unit {0})
      by None a = absurd a
      by (Some d) a = tt

  committed_known : IsCommittedAt h p.id p.now → IsSomeAnd (decided_in h p.id) (λ d. Unit {0})
  committed_known e = subst (λ o. IsSomeAnd o (λ d. Unit {0})) (sym e) tt

  -- Given up: all stays sound, and only records of it are new.
  pub given_up_later : IsGivenUp p h → Later catalog (Some (record { id = p.id; at = p.now })) start h
  given_up_later up = record {
    sound = record {
      own = own;
      accepted = λ k r listed e. at_key (λ x. is_transactional x ≡ true) k listed r e (λ f. sound.accepted k r listed f) (λ j w at s f. loose_taken w (is_write j w at) (h w.key) (up.1 j w at) r f);
      rows = rows_ok (known up.0);
      fits = λ k columns listed e. sound.fits k columns listed (sym (given_up_rows catalog apart start sound p work h others up k listed) ∙ e);
    };
    loose = λ k r listed e loose. at_key (λ x. (start k ≡ Some x) ⊎ IsOwn (Some (record { id = p.id; at = p.now })) x) k listed r e (λ f. inl f) (λ j w at s f. inr (loose_own w (is_write j w at) (h w.key) (up.1 j w at) r f loose));
    rows = row_there;
    fresh = row_new;
  }
    where
      known : (IsUndecided h p.id ⊎ IsAborted h p.id) → IsUndecided h p.id ⊎ IsSomeAnd (decided_in h p.id) (λ d. Unit {0})
      known (inl none) = inl none
      known (inr a) = inr (aborted_known a)

  -- Done: all stays sound, where the tables with its writes fit.
  pub done_later : IsDone p h → (d : Tables) → AreImagesOf catalog start d → ((k : Key) (columns : List Pair) → get (with_own d p.writes) k ≡ Some columns → row_is_well_typed catalog k columns ≡ true) → Later catalog (Some (record { id = p.id; at = p.now })) start h
  done_later done d are_images fit = record {
    sound = record {
      own = own;
      accepted = λ k r listed e. at_key (λ x. is_transactional x ≡ true) k listed r e (λ f. sound.accepted k r listed f) (λ j w at s f. won_taken w (is_write j w at) (h w.key) (done.1 j w at) r f);
      rows = rows_ok (inr (committed_known done.0));
      fits = λ k columns listed e. fit k columns (done_images catalog apart start sound p work h others d are_images done k ∙ ap (λ b. if b then row_in h k else None) listed ∙ e);
    };
    loose = λ k r listed e loose. at_key (λ x. (start k ≡ Some x) ⊎ IsOwn (Some (record { id = p.id; at = p.now })) x) k listed r e (λ f. inl f) (λ j w at s f. inr (won_own w (is_write j w at) (h w.key) (done.1 j w at) r f loose));
    rows = row_there;
    fresh = row_new;
  }
