-- The worked runs are lawful, and runs that leave the protocol are not.
use Rattle.std.proofs.Common.{◌≡◌, ◌≢◌, ℕ, zero, suc, ◌<◌, ◌^◌, Bool, true, false, List, [], ◌∷◌, Option, Some, None, ◌⊎◌, inl, inr, refl, sym, ap, subst, ◌∙◌, arith}
use Rattle.std.specs.Prelude.{pos, slice_get, codes, Ok, ◌==◌, if◌then◌else◌}
use Rattle.std.specs.Option.{option_map, option_map_or}
use Rattle.law_protocol.specs.Types.{Answer, How, Key, Read, Record, Reply, Request, State, Write}
use Rattle.sdb_types.specs.declared.record.State.TheVariants as state
use Rattle.sdb_record.specs.declared.coordinator.Decision.TheVariants.{Committed}
use Rattle.sdb_record.specs.Coordinator.{coordinator_key_of, coordinator_row_of, decision_in}
use Rattle.sdb_record.specs.Names.{is_meta, base_name}
use Rattle.sdb_record.specs.Meta.{id_in, is_committed, is_in}
use Rattle.sdb_record.specs.Moved.{version_of, is_unchanged}
use Rattle.sdb_record.specs.Rolls.{IsWrite, IsBaseOf, forward_record, is_tombstone}
use Rattle.sdb_record.proofs.Public.{forward-accepted, forward-committed, forward-key, forward-prepared-version, forward-tombstone, mark_value, prepared-key, prepared-unresolved, prepared-unsettled, prepared-version, row-decision, version-writer}
use Rattle.sdb_types.specs.declared.record.Reply.TheVariants as reply
use Rattle.sdb_model.specs.declared.event.Event.TheVariants as event
use Rattle.sdb_model.specs.Transactions.{rest_of}
use Rattle.law_protocol.specs.Plan.{Plan, write_at, written, version_read_at, number_of}
use Rattle.sdb_model.specs.ReadSet.{ReadItem, KeyRead}
use Rattle.law_protocol.specs.Lawful.{Labelled, id, IsLawful, IsObserved, IsRowObserved, IsPreparedObserved, IsPreparedThere, IsSettled, Itself, MayRoll, Forward, InReply, IsUnchanged, is_denial, protocol_state}
use Rattle.law_protocol.specs.Worked.{account, one, two, three, inserts, updates, deletes_it, prepared, forward, read_at, plan_with, first_run, second_run, lost_decision, recovery, vacuumed, decided_early, prepared_twice, rolled_blindly, checked_changed, removed_while_open, update_text, delete_text, row}
use Rattle.law_protocol.proofs.Canon.{version_state, not_firm_version}
use Rattle.law_protocol.proofs.Each.{has_first}
use Rattle.law_protocol.proofs.Reading.{noted_got}
use Rattle.law_protocol.proofs.Texts.{begin_begins, commit_commits}
use Rattle.sdb_types.proofs.Public.{clash, same_key_self, same_key_decides}
use Rattle.sdb_types.specs.Order.{same_key}
use Rattle.sdb_model.specs.Tables.{is_data}

---- plans of one write and one note

pub only_write : (plan : Plan) (x : Write) (k : Key) (w : Write) → plan.writes ≡ x ∷ [] → write_at plan k ≡ Some w → (w ≡ x) × (k ≡ x.key)
unfolding write_at
only_write plan x k w e h = by (same_key_decides k x.key) (sym (ap (λ ws. Rattle.std.specs.Prelude.find (λ (y : Write). same_key k y.key) ws) e) ∙ h)
  where
    some_is : (a b : Write) → Some a ≡ Some b → b ≡ a
    some_is a b e = cc

    none : ◌≡◌ {A = Option Write} None (Some w) → ⊥
    none x = cc

    by : ((same_key k x.key ≡ true) × (k ≡ x.key)) ⊎ ((same_key k x.key ≡ false) × (k ≢ x.key)) → Rattle.std.specs.Prelude.find (λ (y : Write). same_key k y.key) (x ∷ []) ≡ Some w → (w ≡ x) × (k ≡ x.key)
    by (inl s) f = (some_is x w (sym (rw s.0 refl) ∙ f), s.1)
    by (inr s) f = absurd (none (sym (rw s.0 refl) ∙ f))

only_written : (plan : Plan) (x : Write) (k : Key) → plan.writes ≡ x ∷ [] → written plan k ≢ None → k ≡ x.key
unfolding written
only_written plan x k e h = by (write_at plan k) refl
  where
    by : (o : Option Write) → write_at plan k ≡ o → k ≡ x.key
    by None f = absurd (h (ap (option_map (λ w. number_of (version_of w.base))) f))
    by (Some w) f = (only_write plan x k w e f).1

only_note : (plan : Plan) (read : Read) (i : ℕ) (k : Key) (v : Option ℕ) → plan.read_set ≡ KeyRead read ∷ [] → version_read_at plan i k ≡ Some v → (i ≡ 0) × (read.key ≡ k) × (v ≡ number_of read.version)
unfolding version_read_at
only_note plan read zero k v e h = let x = noted_got plan 0 read k v (ap (λ ns. slice_get ns 0) e) h in (refl, x.0, x.1)
only_note plan read (suc i) k v e h = absurd (none (sym (ap (λ ns. option_map number_of (Rattle.std.specs.Option.option_and_then (λ n. Rattle.sdb_model.specs.ReadSet.version_read n k) (slice_get ns (suc i)))) e) ∙ h))
  where
    none : ◌≡◌ {A = Option (Option ℕ)} None (Some v) → ⊥
    none x = cc

---- records

is_inserts : IsWrite inserts
unfolding is_meta base_name
is_inserts = record { base = tt; change = refl }

forward_key : (w : Write) (t : ℕ) → (forward w t).key ≡ w.key
forward_key w t = forward-key (prepared w t) (pos 0) ∙ prepared-key w (id t) (pos 0)

forward_id : (w : Write) (t : ℕ) → t < 2 ^ 128 → id_in (forward w t).columns ≡ Some (id t)
forward_id w t fits = version-writer (forward w t) (id t) state.Committed fits (forward-prepared-version w (id t) (pos 0) (pos 0))

base_inserts : IsBaseOf account (forward inserts one)
base_inserts = (forward_key inserts one, forward-accepted (prepared inserts one) (pos 0) (prepared-unresolved inserts (id one) (pos 0) is_inserts (omega arith) refl) refl, forward-committed (prepared inserts one) (pos 0))

is_updates : IsWrite updates
unfolding is_meta base_name
is_updates = record { base = base_inserts; change = refl }

is_deletes : IsWrite deletes_it
unfolding is_meta base_name
is_deletes = record { base = base_inserts; change = refl }

-- of a key that is written
never_free : {A : Type 0} (plan : Plan) (k key : Key) (b : Option ℕ) → written plan key ≡ Some b → key ≡ k → written plan k ≡ None → A
never_free plan k key b e same free = absurd (none (sym free ∙ ap (written plan) (sym same) ∙ e))
  where
    none : ◌≡◌ {A = Option (Option ℕ)} None (Some b) → ⊥
    none x = cc

agrees_here : (plan : Plan) (k key : Key) (v base b : Option ℕ) → written plan key ≡ Some base → key ≡ k → v ≡ base → written plan k ≡ Some b → v ≡ b
agrees_here plan k key v base b e same f h = f ∙ some_is base b (sym e ∙ ap (written plan) same ∙ h)
  where
    some_is : (x y : Option ℕ) → Some x ≡ Some y → x ≡ y
    some_is x y e = cc

-- Committed is no denial
no_denial : (a : Answer) → ◌≡◌ {A = Option Answer} (Some Rattle.sdb_model.specs.declared.answer.Answer.TheVariants.Committed) (Some a) → is_denial a ≡ true → ⊥
no_denial a e d = clash (sym d ∙ ap (λ x. option_map_or is_denial x false) (sym e))

-- what was prepared may be rolled
prepared_roll : (plan : ℕ → Plan) (past : List Labelled) (w : Write) (t : ℕ) (s : State) → is_committed s ≡ false → is_data w.key ≡ true → IsPreparedThere plan past t w.key (prepared w t) → MayRoll plan past t (prepared w t).key (prepared w t) s
prepared_roll plan past w t s loose stored there = record {
  is_open = loose;
  outside = ap is_data key ∙ stored;
  prepared = subst (λ k. IsPreparedThere plan past t k (prepared w t)) (sym key) there;
}
  where
    key : (prepared w t).key ≡ w.key
    key = prepared-key w (id t) (pos 0)

---- the first transaction

no_read : {A : Type 0} (u : ℕ) → ◌≡◌ {A = Option ℕ} (Some u) None → A
no_read u e = absurd (cc)

pub first_lawful : (w : Write) → IsLawful (plan_with w) first_run
unfolding same_key write_at written coordinator_row_of coordinator_key_of
first_lawful w = (
  (
    (
      (
        (
          (
            (
              tt,
              record { text = codes "BEGIN"; begin = begin_begins; take = refl; fresh = refl; fits = omega arith },
              λ e. absurd (cc),
              λ a e d t f. absurd (cc),
            ),
            refl,
            λ e. absurd (cc),
            λ a e d t f. absurd (cc),
          ),
          refl,
          λ e. absurd (cc),
          λ a e d t f. absurd (cc),
        ),
        record {
          client = 1;
          text = codes "COMMIT";
          answered = None;
          commit = commit_commits;
          take = refl;
          owner = refl;
          is_open = refl;
          goes_on = refl;
          fresh = refl;
          moment = refl;
          writes = λ k x h. let o = only_write (plan_with w one) inserts k x refl h in (subst (λ y. IsWrite y) (sym o.0) is_inserts, subst (λ y. is_data y ≡ true) (sym o.1) refl);
          bases = λ k x b h f. let o = only_write (plan_with w one) inserts k x refl h in absurd (none b (sym (ap (λ (y : Write). y.base) o.0) ∙ f));
          read_set = λ i k u h. no_read u (only_note (plan_with w one) _ i k (Some u) refl h).2;
          tables = λ i k v h. let o = only_note (plan_with w one) _ i k v refl h in subst (λ y. is_data y ≡ true) o.1 refl;
        },
        λ e. absurd (cc),
        λ a e d t f. absurd (cc),
      ),
      record {
        client = 1;
        group = inserts ∷ [];
        r = _;
        within = record { accepted = refl; is_open = refl; owner = refl; goes_on = refl };
        keys = refl;
        some = omega arith;
        once_each = refl;
        each = (refl, tt);
        call = record { store = _; how = _; answer = _; call = refl };
        word_is = refl;
        stage = refl;
        once = λ k h. refl;
      },
      λ e. absurd (cc),
      λ a e d t f. absurd (cc),
    ),
    record {
      client = 1;
      r = _;
      within = record { accepted = refl; is_open = refl; owner = refl; goes_on = refl };
      call = record { store = _; how = _; answer = _; call = refl };
      word_is = refl;
      prepared = λ k h. rw (only_written (plan_with w one) inserts k refl h) refl;
      checked = λ i k v n free. let o = only_note (plan_with w one) _ i k v refl n in never_free (plan_with w one) k account None refl o.1 free;
      agrees = λ i k v b n h. let o = only_note (plan_with w one) _ i k v refl n in agrees_here (plan_with w one) k account v None b refl o.1 o.2 h;
    },
    λ e. absurd (cc),
    λ a e d t f. absurd (cc),
  ),
  record {
    client = 1;
    rolled = (prepared inserts one, state.Prepared) ∷ [];
    r = _;
    keys = ap (λ k. k ∷ []) (sym (prepared-key inserts (id one) (pos 0)));
    some = omega arith;
    once_each = refl;
    each = (prepared_roll (plan_with w) (rest_of first_run) inserts one state.Prepared refl refl (inr (refl, refl)), tt);
    moment = pos 0;
    known = inr (inl (refl, refl));
    call = record { store = _; how = _; answer = _; call = refl };
  },
  λ e. record { t = one; ends = refl; accepted = refl; moment = pos 0; known = inr (inl (refl, refl)) },
  λ a e d. absurd (no_denial a e d),
)
  where
    none : (b : Record) → ◌≡◌ {A = Option Record} None (Some b) → ⊥
    none b e = cc

---- the second transaction, up to its prepare

-- a committed record that was shown
itself : (past : List Labelled) (r b : Record) (k : Key) → IsObserved past r → r ≡ b → r.key ≡ k → is_in state.Committed r.columns ≡ true → IsSettled past k b
itself past r b k observed same key firm = subst (λ y. IsSettled past k y) same (Itself observed key firm)

-- its base is what the first left, as it was found there
second_lawful : (w : Write) (text : List ℕ) → IsWrite w → w.key ≡ account → w.base ≡ Some (forward inserts one) → IsLawful (plan_with w) (second_run w text)
unfolding same_key write_at written coordinator_row_of coordinator_key_of
second_lawful w text is key base = (
  (
    (
      (
        (
          first_lawful w,
          record { text = codes "BEGIN"; begin = begin_begins; take = refl; fresh = refl; fits = omega arith },
          λ e. absurd (cc),
          λ a e d t f. absurd (cc),
        ),
        refl,
        λ e. absurd (cc),
        λ a e d t f. absurd (cc),
      ),
      refl,
      λ e. absurd (cc),
      λ a e d t f. absurd (cc),
    ),
    record {
      client = 2;
      text = codes "COMMIT";
      answered = None;
      commit = commit_commits;
      take = refl;
      owner = refl;
      is_open = refl;
      goes_on = refl;
      fresh = refl;
      moment = refl;
      writes = λ k x h. let o = only_write (plan_with w two) w k x refl h in (subst (λ y. IsWrite y) (sym o.0) is, subst (λ y. is_data y ≡ true) (sym key ∙ sym o.1) refl);
      bases = λ k x b h f. let o = only_write (plan_with w two) w k x refl h in
          itself _ (forward inserts one) b k (inl refl) (some_is (forward inserts one) b (sym base ∙ ap (λ (y : Write). y.base) (sym o.0) ∙ f)) (forward_key inserts one ∙ sym key ∙ sym o.1) (forward-committed (prepared inserts one) (pos 0));
      read_set = λ i k u h. let o = only_note (plan_with w two) _ i k (Some u) refl h in
          (forward inserts one, itself _ (forward inserts one) (forward inserts one) k (inl refl) refl (forward_key inserts one ∙ o.1) (forward-committed (prepared inserts one) (pos 0)), forward_id inserts one (omega arith) ∙ ap (λ y. option_map id y) (sym o.2));
      tables = λ i k v h. let o = only_note (plan_with w two) _ i k v refl h in subst (λ y. is_data y ≡ true) o.1 refl;
    },
    λ e. absurd (cc),
    λ a e d t f. absurd (cc),
  ),
  record {
    client = 2;
    group = w ∷ [];
    r = _;
    within = record { accepted = refl; is_open = refl; owner = refl; goes_on = refl };
    keys = ap (λ k. k ∷ []) (sym key);
    some = omega arith;
    once_each = refl;
    each = (subst (λ k. write_at (plan_with w two) k ≡ Some w) (sym key) (here w key), tt);
    call = record { store = _; how = _; answer = _; call = ap (λ y. Rattle.law_protocol.specs.Worked.call 2 (Rattle.sdb_types.specs.declared.record.Request.TheVariants.PutIf (prepared w two) y) Rattle.sdb_types.specs.declared.record.Reply.TheVariants.Applied None) (sym (condition w base)) };
    word_is = refl;
    stage = refl;
    once = λ k h. refl;
  },
  λ e. absurd (cc),
  λ a e d t f. absurd (cc),
)
  where
    some_is : (a b : Record) → Some a ≡ Some b → a ≡ b
    some_is a b e = cc

    here : (w : Write) → w.key ≡ account → write_at (plan_with w two) account ≡ Some w
    here w key = rw key refl

    condition : (w : Write) → w.base ≡ Some (forward inserts one) → Rattle.sdb_record.specs.Moved.condition_of (version_of w.base) ≡ Rattle.sdb_types.specs.declared.record.Condition.TheVariants.Version (id one) state.Committed
    condition w base = ap (λ (y : Option Record). Rattle.sdb_record.specs.Moved.condition_of (version_of y)) base ∙ ap Rattle.sdb_record.specs.Moved.condition_of (forward_id inserts one (omega arith))

-- the base's version
base_number : (w : Write) → w.base ≡ Some (forward inserts one) → option_map (λ (x : Write). number_of (version_of x.base)) (Some w) ≡ Some (Some one)
base_number w e = ap (λ (o : Option Record). Some (number_of (version_of o))) e ∙ ap (λ o. Some (number_of o)) (forward_id inserts one (omega arith))

---- the three runs

row_two : decision_in (row two) ≡ Ok (record { decision = Committed; created_at = pos 0 })
row_two = row-decision (id two) Committed (pos 0) (omega arith) refl

pub lost_decision_lawful : IsLawful (plan_with updates) lost_decision
unfolding same_key write_at written coordinator_row_of coordinator_key_of
lost_decision_lawful = (
  (
    (
      second_lawful updates update_text is_updates refl refl,
      record {
        client = 2;
        r = _;
        within = record { accepted = refl; is_open = refl; owner = refl; goes_on = refl };
        call = record { store = _; how = _; answer = _; call = refl };
        word_is = refl;
        prepared = λ k h. rw (only_written (plan_with updates two) updates k refl h) refl;
        checked = λ i k v n free. let o = only_note (plan_with updates two) _ i k v refl n in never_free (plan_with updates two) k account (Some one) (base_number updates refl) o.1 free;
        agrees = λ i k v b n h. let o = only_note (plan_with updates two) _ i k v refl n in agrees_here (plan_with updates two) k account v (Some one) b (base_number updates refl) o.1 o.2 h;
      },
      λ e. absurd (cc),
      λ a e d t f. absurd (cc),
    ),
    refl,
    λ e. absurd (cc),
    λ a e d t f. absurd (cc),
  ),
  record {
    client = 2;
    rolled = (prepared updates two, state.Prepared) ∷ [];
    r = _;
    keys = ap (λ k. k ∷ []) (sym (prepared-key updates (id two) (pos 0)));
    some = omega arith;
    once_each = refl;
    each = (prepared_roll (plan_with updates) (rest_of lost_decision) updates two state.Prepared refl refl (inr (refl, refl)), tt);
    moment = pos 0;
    known = inl (record { row = row two; observed = inl refl; key = refl; says = row_two });
    call = record { store = _; how = _; answer = _; call = refl };
  },
  λ e. record { t = two; ends = refl; accepted = refl; moment = pos 0; known = inl (record { row = row two; observed = inr (inl refl); key = refl; says = row_two }) },
  λ a e d. absurd (no_denial a e d),
)

pub recovery_lawful : IsLawful (plan_with updates) recovery
unfolding same_key write_at written coordinator_row_of coordinator_key_of
recovery_lawful = (
  (
    (
      (
        (
          (
            (
              (
                (
                  (
                    second_lawful updates update_text is_updates refl refl,
                    record {
                      client = 2;
                      r = _;
                      within = record { accepted = refl; is_open = refl; owner = refl; goes_on = refl };
                      call = record { store = _; how = _; answer = _; call = refl };
                      word_is = refl;
                      prepared = λ k h. rw (only_written (plan_with updates two) updates k refl h) refl;
                      checked = λ i k v n free. let o = only_note (plan_with updates two) _ i k v refl n in never_free (plan_with updates two) k account (Some one) (base_number updates refl) o.1 free;
                      agrees = λ i k v b n h. let o = only_note (plan_with updates two) _ i k v refl n in agrees_here (plan_with updates two) k account v (Some one) b (base_number updates refl) o.1 o.2 h;
                    },
                    λ e. absurd (cc),
                    λ a e d t f. absurd (cc),
                  ),
                  refl,
                  λ e. absurd (cc),
                  λ a e d t f. absurd (cc),
                ),
                record { text = codes "BEGIN"; begin = begin_begins; take = refl; fresh = refl; fits = omega arith },
                λ e. absurd (cc),
                λ a e d t f. absurd (cc),
              ),
              refl,
              λ e. absurd (cc),
              λ a e d t f. absurd (cc),
            ),
            refl,
            λ e. absurd (cc),
            λ a e d t f. absurd (cc),
          ),
          refl,
          λ e. absurd (cc),
          λ a e d t f. absurd (cc),
        ),
        record {
          client = 3;
          rolled = (prepared updates two, state.Prepared) ∷ [];
          r = _;
          keys = ap (λ k. k ∷ []) (sym (prepared-key updates (id two) (pos 0)));
          some = omega arith;
          once_each = refl;
          each = (prepared_roll (plan_with updates) (rest_of (rest_of (rest_of (rest_of recovery)))) updates two state.Prepared refl refl (inl (held _ (inr (inl refl)))), tt);
          moment = pos 0;
          known = inl (record { row = row two; observed = inl refl; key = refl; says = row_two });
          call = record { store = _; how = _; answer = _; call = refl };
        },
        λ e. absurd (cc),
        λ a e d t f. absurd (cc),
      ),
      record {
        client = 3;
        text = codes "COMMIT";
        answered = None;
        commit = commit_commits;
        take = refl;
        owner = refl;
        is_open = refl;
        goes_on = refl;
        fresh = refl;
        moment = refl;
        writes = λ k x h. absurd (no_write k x h);
        bases = λ k x b h f. absurd (no_write k x h);
        read_set = λ i k u h. let o = only_note (plan_with updates three) _ i k (Some u) refl h in
            (forward updates two, settled _ k (inr (inr (inl refl))) (record { row = row two; observed = inr (inl refl); key = refl; says = row_two }) o.1, forward_id updates two (omega arith) ∙ ap (λ y. option_map id y) (sym o.2));
        tables = λ i k v h. let o = only_note (plan_with updates three) _ i k v refl h in subst (λ y. is_data y ≡ true) o.1 refl;
      },
      λ e. absurd (cc),
      λ a e d t f. absurd (cc),
    ),
    record {
      client = 3;
      item = _;
      q = _;
      r = _;
      within = record { accepted = refl; is_open = refl; owner = refl; goes_on = refl };
      at = refl;
      call = record { store = _; how = _; answer = _; call = refl };
      unchanged = (Some (forward updates two), refl, refl, forward-prepared-version updates (id two) (pos 0) (pos 0));
      stage = λ e. absurd (cc);
    },
    λ e. absurd (cc),
    λ a e d t f. absurd (cc),
  ),
  record {
    client = 3;
    r = _;
    within = record { accepted = refl; is_open = refl; owner = refl; goes_on = refl };
    call = record { store = _; how = _; answer = _; call = refl };
    word_is = refl;
    prepared = λ k h. absurd (h (unwritten k));
    checked = λ i k v n free. rw (only_note (plan_with updates three) _ i k v refl n).0 refl;
    agrees = λ i k v b n h. absurd (some (sym (unwritten k) ∙ h));
  },
  λ e. record { t = three; ends = refl; accepted = refl; moment = pos 0; known = inr (inl (refl, refl)) },
  λ a e d. absurd (no_denial a e d),
)
  where
    no_write : (k : Key) (x : Write) → write_at (plan_with updates three) k ≡ Some x → ⊥
    no_write k x h = cc

    unwritten : (k : Key) → written (plan_with updates three) k ≡ None
    unwritten k = refl

    some : {b : Option ℕ} → ◌≡◌ {A = Option (Option ℕ)} None (Some b) → ⊥
    some e = cc

    held : (past : List Labelled) → IsObserved past (prepared updates two) → IsPreparedObserved past two account (prepared updates two)
    held past observed = record { observed = observed; key = prepared-key updates (id two) (pos 0); held = prepared-unsettled updates (id two) (pos 0); writer = version-writer (prepared updates two) (id two) state.Prepared (omega arith) (prepared-version updates (id two) (pos 0)) }

    settled : (past : List Labelled) (k : Key) → IsObserved past (prepared updates two) → IsRowObserved past two Committed (pos 0) → account ≡ k → IsSettled past k (forward updates two)
    settled past k observed row e = subst (λ y. IsSettled past y (forward updates two)) e (Forward two (prepared updates two) (pos 0) (held past observed) row refl)

tombstone : is_tombstone (forward deletes_it two) ≡ true
unfolding forward_record
tombstone = ap (λ o. Rattle.sdb_types.specs.Contents.has_value o (Rattle.sdb_types.specs.declared.value.Value.TheVariants.Bool true)) (forward-tombstone (prepared deletes_it two).columns (pos 0) ∙ ap (λ b. mark_value b (Rattle.sdb_types.specs.Columns.column (prepared deletes_it two).columns Rattle.sdb_record.specs.Names.tx_tombstone)) (version_state (id two) state.Deleted (prepared deletes_it two) (prepared-version deletes_it (id two) (pos 0))))

shown_row : (r : Record) → InReply (Rattle.sdb_types.specs.declared.record.Reply.TheVariants.Rows (r ∷ [])) r
shown_row r = ap (λ b. Rattle.std.specs.Prelude.if◌then◌else◌ b (Some r) None) (same_key_self r.key)

-- what was begun has ended
closed_by : (a b : Bool) → (if a then false else if a then true else if b then false else if b then true else false) ≡ true → ⊥
closed_by true b h = cc
closed_by false true h = cc
closed_by false false h = cc

pub vacuumed_lawful : IsLawful (plan_with deletes_it) vacuumed
unfolding same_key write_at written coordinator_row_of coordinator_key_of
vacuumed_lawful = (
  (
    (
      (
        (
          second_lawful deletes_it delete_text is_deletes refl refl,
          record {
            client = 2;
            r = _;
            within = record { accepted = refl; is_open = refl; owner = refl; goes_on = refl };
            call = record { store = _; how = _; answer = _; call = refl };
            word_is = refl;
            prepared = λ k h. rw (only_written (plan_with deletes_it two) deletes_it k refl h) refl;
            checked = λ i k v n free. let o = only_note (plan_with deletes_it two) _ i k v refl n in never_free (plan_with deletes_it two) k account (Some one) (base_number deletes_it refl) o.1 free;
            agrees = λ i k v b n h. let o = only_note (plan_with deletes_it two) _ i k v refl n in agrees_here (plan_with deletes_it two) k account v (Some one) b (base_number deletes_it refl) o.1 o.2 h;
          },
          λ e. absurd (cc),
          λ a e d t f. absurd (cc),
        ),
        record {
          client = 2;
          rolled = (prepared deletes_it two, state.Deleted) ∷ [];
          r = _;
          keys = ap (λ k. k ∷ []) (sym (prepared-key deletes_it (id two) (pos 0)));
          some = omega arith;
          once_each = refl;
          each = (prepared_roll (plan_with deletes_it) (rest_of (rest_of (rest_of (rest_of vacuumed)))) deletes_it two state.Deleted refl refl (inr (refl, refl)), tt);
          moment = pos 0;
          known = inr (inl (refl, refl));
          call = record { store = _; how = _; answer = _; call = refl };
        },
        λ e. record { t = two; ends = refl; accepted = refl; moment = pos 0; known = inr (inl (refl, refl)) },
        λ a e d. absurd (no_denial a e d),
      ),
      refl,
      λ e. absurd (cc),
      λ a e d t f. absurd (cc),
    ),
    refl,
    λ e. absurd (cc),
    λ a e d t f. absurd (cc),
  ),
  record {
    client = 4;
    r = _;
    tombstone = forward deletes_it two;
    call = record { store = _; how = _; answer = _; call = refl };
    outside = refl;
    settled = itself _ (forward deletes_it two) (forward deletes_it two) account (inl (shown_row (forward deletes_it two))) refl (forward_key deletes_it two) (forward-committed (prepared deletes_it two) (pos 0));
    gone = tombstone;
    writer = forward_id deletes_it two (omega arith);
    gate = λ u open_now. absurd (closed u open_now);
  },
  λ e. absurd (cc),
  λ a e d t f. absurd (cc),
)
  where
    closed : (u : ℕ) → (protocol_state (rest_of vacuumed)).is_open u ≡ true → ⊥
    closed u h = closed_by (u == two) (u == one) h

---- and those that aren't

pub decided_early_refused : (w : Write) → IsLawful (plan_with w) decided_early → ⊥
unfolding same_key write_at written
decided_early_refused w l = clash (sym (l.1.prepared account (λ e. absurd (cc))))

pub prepared_twice_refused : IsLawful (plan_with updates) prepared_twice → ⊥
unfolding same_key
prepared_twice_refused l = clash (l.1.once account (has_first account []))

pub checked_moved_refused : (past : List Labelled) → IsLawful (plan_with updates) (checked_changed past) → ⊥
checked_moved_refused past l = moved (subst (λ n. IsUnchanged (plan_with updates three) n l.1.q l.1.r) (item l.1.item l.1.at) l.1.unchanged) (called l.1.call.call)
  where
    item : (n : ReadItem) → Some (KeyRead (read_at (Some two))) ≡ Some n → n ≡ KeyRead (read_at (Some two))
    item n e = cc

    found_is : (x : Option Record) → reply.Found (Some (prepared updates two)) ≡ reply.Found x → Some (prepared updates two) ≡ x
    found_is x e = cc

    called : {c d : ℕ} {s t : List ℕ} {q p : Request} {h g : How} {r x : Reply} {a b : Option Answer} → event.Call c s q h r a ≡ event.Call d t p g x b → r ≡ x
    called e = cc

    moved : IsUnchanged (plan_with updates three) (KeyRead (read_at (Some two))) l.1.q l.1.r → reply.Found (Some (prepared updates two)) ≡ l.1.r → ⊥
    moved u e = clash (sym u.3 ∙ ap (λ (x : Option Record). is_unchanged x (Some (id two))) (sym (found_is u.0 (e ∙ u.2))) ∙ not_firm_version (id two) (prepared updates two) (prepared-unsettled updates (id two) (pos 0)))

pub rolled_blindly_refused : IsLawful (plan_with updates) rolled_blindly → ⊥
unfolding coordinator_key_of
rolled_blindly_refused l = elim l.1.known [
  | inl row ↦ clash (ap is_data (sym (ap (λ (x : Record). x.key) (only row.row row.observed) ∙ forward_key inserts one) ∙ row.key))
  | inr other ↦ elim other [
    | inl won ↦ clash (sym won.0)
    | inr own ↦ clash (ap is_data (sym (ap (λ (x : Record). x.key) (only own.1.1.row own.1.1.observed) ∙ forward_key inserts one) ∙ own.1.1.key))
  ]
]
  where
    only : (x : Record) → IsObserved (rest_of rolled_blindly) x → x ≡ forward inserts one
    only x (inl h) = absurd h
    only x (inr (inl h)) = absurd h
    only x (inr (inr (inl h))) = absurd h
    only x (inr (inr (inr (inl h)))) = h
    only x (inr (inr (inr (inr (inl h))))) = absurd h
    only x (inr (inr (inr (inr (inr (inl h)))))) = absurd h
    only x (inr (inr (inr (inr (inr (inr (inl h))))))) = absurd h
    only x (inr (inr (inr (inr (inr (inr (inr (inl h)))))))) = absurd h
    only x (inr (inr (inr (inr (inr (inr (inr (inr (inl h))))))))) = absurd h
    only x (inr (inr (inr (inr (inr (inr (inr (inr (inr (inl h)))))))))) = absurd h
    only x (inr (inr (inr (inr (inr (inr (inr (inr (inr (inr (inl h))))))))))) = absurd h
    only x (inr (inr (inr (inr (inr (inr (inr (inr (inr (inr (inr (inl h)))))))))))) = absurd h
    only x (inr (inr (inr (inr (inr (inr (inr (inr (inr (inr (inr (inr (inl h))))))))))))) = absurd h
    only x (inr (inr (inr (inr (inr (inr (inr (inr (inr (inr (inr (inr (inr h))))))))))))) = absurd h

pub removed_while_open_refused : IsLawful (plan_with deletes_it) removed_while_open → ⊥
removed_while_open_refused l = clash (sym (l.1.gate three refl))
