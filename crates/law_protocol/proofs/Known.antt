-- What replies showed is what transactions put there.
use Rattle.std.proofs.Common.{◌≡◌, ◌≢◌, ℕ, ℤ, ◌<◌, ◌^◌, Bool, true, false, List, [], ◌∷◌, Option, Some, None, ◌⊎◌, inl, inr, refl, sym, ap, subst, ◌∙◌, arith}
use Rattle.std.specs.Prelude.{find, unwrap_or, Result, Ok, if◌then◌else◌}
use Rattle.std.specs.Option.{option_map}
use Rattle.law_protocol.specs.Types.{Decided, Decision, Key, Place, Record, Write}
use Rattle.sdb_types.specs.Order.{same_key}
use Rattle.sdb_types.proofs.Public.{same_key_exact, tests}
use Rattle.sdb_record.specs.declared.coordinator.Decision.TheVariants.{Committed}
use Rattle.sdb_record.specs.Coordinator.{coordinator_key_of, coordinator_row_of, decision_in}
use Rattle.sdb_record.specs.Meta.{is_moment}
use Rattle.sdb_record.specs.Moved.{version_of}
use Rattle.sdb_record.specs.Parts.{before_record}
use Rattle.sdb_record.specs.Rolls.{IsWrite}
use Rattle.sdb_record.proofs.Public.{forward-key, prepared-base, prepared-key, row-decision}
use Rattle.sdb_model.specs.Events.{StoreContents, stored_at}
use Rattle.law_protocol.specs.Plan.{Plan, write_at, written, number_of, version_read_at}
use Rattle.law_protocol.specs.History.{Action, History, Standing, Final, Held, base_of, happens, IsWriter}
use Rattle.law_protocol.specs.Lawful.{Labelled, id, IsObserved, IsRowObserved}
use Rattle.law_protocol.specs.Trace.{after_end}
use Rattle.law_protocol.specs.Records.{write_there, record_prepared_by, record_left_by, record_for, row_for, ContainsHistory}
use Rattle.law_protocol.proofs.Allowed.{Allowed}
use Rattle.law_protocol.proofs.Small.{TakenOk, TookOk, BegunOk, writer_kept}
use Rattle.law_protocol.proofs.Cover.{Inv}
use Rattle.sdb_model.specs.Tables.{is_data}

---- plans

-- What a transaction whose COMMIT was accepted writes: each base is the one record that its writer leaves at that key.
pub record IsPlanned (plan : ℕ → Plan) (t : ℕ) : Type 0 where
  pub moment : is_moment (plan t).now ≡ true
  pub write : (k : Key) (w : Write) → write_at (plan t) k ≡ Some w → IsWrite w × (is_data k ≡ true)
  pub base : (k : Key) (w : Write) → write_at (plan t) k ≡ Some w → w.base ≡ option_map (λ u. record_left_by plan u k) (base_of (written (plan t) k))
  pub tables : (i : ℕ) (k : Key) (version : Option ℕ) → version_read_at (plan t) i k ≡ Some version → is_data k ≡ true

found_holds : {X : Type 0} (p : X → Bool) (xs : List X) (x : X) → find p xs ≡ Some x → p x ≡ true
found_holds {X = X} p [] x e = absurd (cc)
found_holds {X = X} p (y ∷ ys) x e = by (found_holds p ys x) (p y) refl e
  where
    by : (find p ys ≡ Some x → p x ≡ true) → (b : Bool) → p y ≡ b → (if b then Some y else find p ys) ≡ Some x → p x ≡ true
    by rest true h e = subst (λ z. p z ≡ true) (some_is y x e) h
      where
        some_is : (a b : X) → Some a ≡ Some b → a ≡ b
        some_is a b e = cc
    by rest false h e = rest e

pub write_key : (plan : Plan) (k : Key) (w : Write) → write_at plan k ≡ Some w → w.key ≡ k
unfolding write_at
write_key plan k w e = sym (same_key_exact k w.key (found_holds (λ (x : Write). same_key k x.key) plan.writes w e))

pub write_is : (plan : Plan) (k : Key) (w : Write) → write_at plan k ≡ Some w → write_there plan k ≡ w
write_is plan k w e = ap (λ o. unwrap_or o (record { key = k; base = None; change = Rattle.sdb_record.specs.declared.write.Change.TheVariants.Delete })) e

-- whoever writes a key has a write of it
pub writes_it : (plan : Plan) (k : Key) → written plan k ≢ None → write_at plan k ≡ Some (write_there plan k)
unfolding written
writes_it plan k h = by (write_at plan k) refl
  where
    by : (o : Option Write) → write_at plan k ≡ o → write_at plan k ≡ Some (write_there plan k)
    by None e = absurd (h (ap (option_map (λ w. number_of (version_of w.base))) e))
    by (Some w) e = e ∙ ap (λ x. Some x) (sym (write_is plan k w e))

pub written_is : (plan : Plan) (k : Key) (w : Write) → write_at plan k ≡ Some w → written plan k ≡ Some (number_of (version_of w.base))
unfolding written
written_is plan k w e = ap (option_map (λ w. number_of (version_of w.base))) e

pub written_some : (plan : Plan) (k : Key) (w : Write) → write_at plan k ≡ Some w → written plan k ≢ None
written_some plan k w e = grind (arith, written_is plan k w e)

-- a record that was prepared is rolled back to the one record that the base's writer leaves
pub held_before : (plan : ℕ → Plan) (t : ℕ) (k : Key) → IsPlanned plan t → written (plan t) k ≢ None → before_record (record_prepared_by plan t k) ≡ option_map (λ u. record_left_by plan u k) (base_of (written (plan t) k))
unfolding record_prepared_by
held_before plan t k planned h =
    let e = writes_it (plan t) k h in
    prepared-base (write_there (plan t) k) (id t) (plan t).now (planned.write k (write_there (plan t) k) e).0 ∙ planned.base k (write_there (plan t) k) e

pub held_key : (plan : ℕ → Plan) (t : ℕ) (k : Key) → written (plan t) k ≢ None → (record_prepared_by plan t k).key ≡ k
unfolding record_prepared_by
held_key plan t k h = prepared-key (write_there (plan t) k) (id t) (plan t).now ∙ write_key (plan t) k (write_there (plan t) k) (writes_it (plan t) k h)

pub firm_key : (plan : ℕ → Plan) (t : ℕ) (k : Key) → written (plan t) k ≢ None → (record_left_by plan t k).key ≡ k
unfolding record_left_by
firm_key plan t k h = forward-key (record_prepared_by plan t k) (plan t).now ∙ held_key plan t k h

---- what is known of a record that was shown

pub record IsFirmOf (plan : ℕ → Plan) (w : History) (k : Key) (r : Record) : Type 0 where
  pub t : ℕ
  pub same : r ≡ record_left_by plan t k
  pub writer : IsWriter plan w k t
  pub fits : t < 2 ^ 128

pub record IsHeldOf (plan : ℕ → Plan) (w : History) (k : Key) (r : Record) : Type 0 where
  pub t : ℕ
  pub same : r ≡ record_prepared_by plan t k
  pub took_effect : w.took_effect t k ≡ true
  pub fits : t < 2 ^ 128

pub record Known (plan : ℕ → Plan) (w : History) (r : Record) : Type 0 where
  pub put : is_data r.key ≡ true → IsFirmOf plan w r.key r ⊎ IsHeldOf plan w r.key r
  pub row : (t : ℕ) → t < 2 ^ 128 → r.key ≡ coordinator_key_of (id t) → row_for w t ≡ Some r

---- it stays known

pub took_stays : (plan : ℕ → Plan) (w : History) (r : Action) (done : Bool) (t : ℕ) (k : Key) → TookOk w → Allowed plan w r done → w.took_effect t k ≡ true → (happens plan w r done).took_effect t k ≡ true
took_stays plan w r done t k ok a h = grind (arith, tests, ok t k)

pub moment_stays : (plan : ℕ → Plan) (w : History) (r : Action) (done : Bool) (t : ℕ) → Allowed plan w r done → w.row t ≢ None → ((happens plan w r done).moment t ≡ w.moment t) × ((happens plan w r done).row t ≡ w.row t)
moment_stays plan w r done t a h = grind (arith, tests)

pub row_stays : (w v : History) (t : ℕ) (r : Record) → (w.row t ≢ None → (v.moment t ≡ w.moment t) × (v.row t ≡ w.row t)) → row_for w t ≡ Some r → row_for v t ≡ Some r
row_stays w v t r stays e = by (w.row t) refl (stays) e
  where
    by : (o : Option Decision) → w.row t ≡ o → (w.row t ≢ None → (v.moment t ≡ w.moment t) × (v.row t ≡ w.row t)) → option_map (λ d. coordinator_row_of (id t) d (w.moment t)) o ≡ Some r → row_for v t ≡ Some r
    by None h stays e = absurd (cc)
    by (Some d) h stays e = let s = stays (some h) in rw s.0 (rw s.1 (rw h e))
      where
        some : {x : Option Decision} → x ≡ Some d → x ≢ None
        some h n = absurd (cc)

pub known_kept : (plan : ℕ → Plan) (w : History) (r : Action) (done : Bool) (x : Record) → Inv plan w → Allowed plan w r done → Known plan w x → Known plan (happens plan w r done) x
known_kept plan w r done x i a known = record {
  put = λ outside. elim (known.put outside) [
    | inl f ↦ inl (record { t = f.t; same = f.same; writer = writer_kept plan w r done x.key f.t a f.writer; fits = f.fits })
    | inr h ↦ inr (record { t = h.t; same = h.same; took_effect = took_stays plan w r done h.t x.key i.took_effect a h.took_effect; fits = h.fits })
  ];
  row = λ t fits e. row_stays w (happens plan w r done) t x (moment_stays plan w r done t a) (known.row t fits e);
}

-- and where an event goes on to end a transaction
pub known_closed : (plan : ℕ → Plan) (w : History) (t : ℕ) (x : Record) → Known plan w x → Known plan (after_end plan w (Some t)) x
known_closed plan w t x known = record {
  put = λ outside. elim (known.put outside) [
    | inl f ↦ inl (record { t = f.t; same = f.same; writer = f.writer; fits = f.fits })
    | inr h ↦ inr (record { t = h.t; same = h.same; took_effect = h.took_effect; fits = h.fits })
  ];
  row = known.row;
}

---- it is known when it is shown

pub accepted_fits : (w : History) (t : ℕ) → BegunOk w → ((u : ℕ) → w.protocol.begun u ≢ 0 → u < 2 ^ 128) → w.protocol.accepted t ≡ true → t < 2 ^ 128
accepted_fits w t begun fits h = fits t ((begun t).1 h).0

pub writer_accepted : (plan : ℕ → Plan) (w : History) (k : Key) (t : ℕ) → TakenOk w → IsWriter plan w k t → w.protocol.accepted t ≡ true
writer_accepted plan w k t accepted h = grind (arith, accepted t k 0, h)

pub took_is_accepted : (w : History) (t : ℕ) (k : Key) → TakenOk w → w.took_effect t k ≡ true → w.protocol.accepted t ≡ true
took_is_accepted w t k accepted h = grind (arith, accepted t k 0)

pub known_now : (plan : ℕ → Plan) (places : List Place) (w : History) (store_contents : List StoreContents) (r : Record) → Inv plan w → ((u : ℕ) → w.protocol.begun u ≢ 0 → u < 2 ^ 128) → ContainsHistory plan places w store_contents → stored_at places store_contents r.key ≡ Some r → Known plan w r
known_now plan places w store_contents r i fits held here = record {
  put = λ outside. by (w.rows r.key) refl (sym (held.records r.key outside) ∙ here);
  row = λ t fit e. sym (held.rows t fit) ∙ ap (stored_at places store_contents) (sym e) ∙ here;
}
  where
    some_is : (a b : Record) → Some a ≡ Some b → b ≡ a
    some_is a b e = cc

    by : (s : Option Standing) → w.rows r.key ≡ s → option_map (record_for plan r.key) s ≡ Some r → IsFirmOf plan w r.key r ⊎ IsHeldOf plan w r.key r
    by None h e = absurd (cc)
    by (Some (Final t)) h e = let writer = i.firm r.key t h in inl (record { t = t; same = some_is (record_left_by plan t r.key) r e; writer = writer; fits = accepted_fits w t i.begun fits (writer_accepted plan w r.key t i.accepted writer) })
    by (Some (Held t)) h e = let took_effect = i.held r.key t h in inr (record { t = t; same = some_is (record_prepared_by plan t r.key) r e; took_effect = took_effect; fits = accepted_fits w t i.begun fits (took_is_accepted w t r.key i.accepted took_effect) })

---- what follows from it

-- the moments of rows
pub record AreMoments (plan : ℕ → Plan) (w : History) (t : ℕ) : Type 0 where
  pub some : w.row t ≢ None → is_moment (w.moment t) ≡ true
  pub committed : w.row t ≡ Some Committed → w.moment t ≡ (plan t).now

ok_is : (a b : Decided) → ◌≡◌ {A = Result Decided (List ℕ)} (Ok a) (Ok b) → a ≡ b
ok_is a b e = cc

-- a row that was shown is the transaction's row
pub row_known : {plan : ℕ → Plan} {w : History} (past : List Labelled) (t : ℕ) (d : Decision) (m : ℤ) → ((r : Record) → IsObserved past r → Known plan w r) → AreMoments plan w t → t < 2 ^ 128 → IsRowObserved past t d m → (w.row t ≡ Some d) × (m ≡ w.moment t)
row_known {w} past t d m known moments fits observed = by (w.row t) refl ((known observed.row observed.observed).row t fits observed.key)
  where
    some_is : (a b : Record) → Some a ≡ Some b → b ≡ a
    some_is a b e = cc

    same : (e : Decision) → w.row t ≡ Some e → is_moment (w.moment t) ≡ true → observed.row ≡ coordinator_row_of (id t) e (w.moment t) → (w.row t ≡ Some d) × (m ≡ w.moment t)
    same e h ok is =
        let x : record { decision = d; created_at = m } ≡ record { decision = e; created_at = w.moment t } = ok_is _ _ (sym observed.says ∙ ap decision_in is ∙ row-decision (id t) e (w.moment t) fits ok) in
        (h ∙ ap (λ (y : Decided). Some y.decision) (sym x), ap (λ (y : Decided). y.created_at) x)

    by : (o : Option Decision) → w.row t ≡ o → option_map (λ e. coordinator_row_of (id t) e (w.moment t)) o ≡ Some observed.row → (w.row t ≡ Some d) × (m ≡ w.moment t)
    by None h e = absurd (cc)
    by (Some e) h f = same e h (moments.some (some h)) (some_is _ _ f)
      where
        some : {x : Option Decision} → x ≡ Some e → x ≢ None
        some h n = absurd (cc)
