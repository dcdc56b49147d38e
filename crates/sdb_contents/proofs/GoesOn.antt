-- What goes on of the stores, call by call.
use Rattle.std.proofs.Common.{◌≡◌, ℕ, ◌<◌, ◌≤◌, ◌-◌, ◌^◌, Bool, true, false, List, [], ◌∷◌, ◌++◌, length, get_or, slice_set, Option, Some, None, Result, Ok, Err, IfErr, inl, inr, refl, sym, ap, subst, ◌∙◌, arith}
use Rattle.std.specs.Prelude.{◌==◌, slice_get, IfSome, IsSome, IsSomeAnd, IsErrAnd}
use Rattle.std.proofs.lemmas.Bool.{eqb-false, eqb-true}
use Rattle.std.proofs.lemmas.List.{get_or-set_other, length-map, length-set}
use Rattle.std.proofs.lemmas.List.Quantifiers.{any-set}
use Rattle.std.proofs.lemmas.Option.{get_or_from_slice_get, slice_get_within}
use Rattle.sdb_contents.specs.Types.{Event, Place, Reply, Request, Table, TableName}
use Rattle.sdb_stores.specs.Views.{Attached, StoreView as Counted, AreDistinct, HaveRisen, IsCallAt, names_of, home, home_in, place_of, route_of}
use Rattle.sdb_stores.proofs.Public.{grown, not_fewer, same_names}
use Rattle.sdb_model.specs.Rows.{Name}
use Rattle.sdb_model.specs.Events.{StoreContents, IsTrace, Effect}
use Rattle.sdb_contents.specs.Board.{AreUsable, AreUsableFor, GoOn, IsFull, KnownAreUnchanged, Refuses, known_before}
use Rattle.sdb_contents.specs.declared.refused.CallRefused.{CallRefused}
use Rattle.sdb_contents.specs.declared.refused.CallRefused.TheVariants as refused
use Rattle.sdb_model.specs.Tables.{is_table_of_run}

pub goes_none : (stores : Attached) → GoOn stores stores
goes_none stores = record { places = refl; names = refl; counted = omega arith; full = λ m. m; fit = λ catalog f. f; where_known = λ at h. h }

pub goes_more : (a b c : Attached) → GoOn a b → GoOn b c → GoOn a c
goes_more a b c g h = record {
  places = h.places ∙ g.places;
  names = h.names ∙ g.names;
  counted = omega (arith, g.counted, h.counted);
  full = λ m. h.full (g.full m);
  fit = λ catalog f. h.fit catalog (g.fit catalog f);
  where_known = λ at t. h.where_known at (g.where_known at t);
}

same_length : (old new : List Counted) → names_of new ≡ names_of old → length new ≡ length old
same_length old new e = sym (length-map new (λ (s : Counted). s.name)) ∙ ap length e ∙ length-map old (λ (s : Counted). s.name)

-- no count falls, so one at its greatest value stays there
full_call : (at : ℕ) (q : Request) (r : Reply) (old new : Attached) → IsCallAt at q r old new → IsFull old.views → IsFull new.views
full_call at q r old new call (i, s, within, is, most) = subst IsFull (sym call.rest) (by (i == at) refl)
  where
    by : (b : Bool) → (i == at) ≡ b → IsFull (slice_set old.views at call.now)
    by true e =
        let here : i ≡ at = eqb-true i at e in
        let same : s ≡ call.before = sym is ∙ ap (λ (k : ℕ). get_or old.views k s) here ∙ get_or_from_slice_get old.views at call.before s call.stood in
        let spent : 2 ^ 64 - 1 ≤ call.before.faults = subst (λ (x : Counted). 2 ^ 64 - 1 ≤ x.faults) same most in
        any-set (λ s. 2 ^ 64 - 1 ≤ s.faults) old.views at call.now (slice_get_within old.views at call.before call.stood) (omega (arith, not_fewer at q r old new call, spent))
    by false e = (i, s, subst (λ (n : ℕ). i < n) (sym (length-set old.views at call.now)) within, get_or-set_other old.views at i call.now s (λ k. eqb-false i at e k) ∙ is, most)

pub some_more : (old new : List Counted) → names_of new ≡ names_of old → 0 < length old → 0 < length new
some_more old new e some = subst (λ (n : ℕ). 0 < n) (sym (same_length old new e)) some

-- stores with the same names and places stay fit
fit_on : (catalog : List Table) (old new : Attached) → new.places ≡ old.places → names_of new.views ≡ names_of old.views → ((at : ℕ) → old.known at → new.known at) → AreUsable catalog old → AreUsable catalog new
fit_on catalog old new places names where_known f = record {
  some = some_more old.views new.views names f.some;
  distinct = subst AreDistinct (sym names) f.distinct;
  homed = λ ns.
      subst (λ (ps : List Place). IfSome (route_of ns ps) (λ store. IsSome (place_of store (names_of new.views)))) (sym places)
      (subst (λ (xs : List Name). IfSome (route_of ns old.places) (λ store. IsSome (place_of store xs))) (sym names) (f.homed ns));
  where_known = λ table about.
      where_known (home_in new table.ns)
      (subst (λ (ps : List Place). old.known (home table.ns ps (names_of new.views))) (sym places)
      (subst (λ (xs : List Name). old.known (home table.ns old.places xs)) (sym names) (f.where_known table about)));
}

-- those that are fit for a run are fit for calls on each of its tables
pub fit_for : (catalog : List Table) (stores : Attached) (table : TableName) → is_table_of_run catalog table ≡ true → AreUsable catalog stores → AreUsableFor table stores
fit_for catalog stores table about f = record { some = f.some; distinct = f.distinct; homed = f.homed; where_known = f.where_known table about }

-- stores of the same names and places, of which no fewer are known, are fit for the same calls
pub fit_for_as : (old new : Attached) (table : TableName) → new.places ≡ old.places → names_of new.views ≡ names_of old.views → ((at : ℕ) → old.known at → new.known at) → AreUsableFor table old → AreUsableFor table new
fit_for_as old new table places names where_known f = record {
  some = some_more old.views new.views names f.some;
  distinct = subst AreDistinct (sym names) f.distinct;
  homed = λ ns.
      subst (λ (ps : List Place). IfSome (route_of ns ps) (λ store. IsSome (place_of store (names_of new.views)))) (sym places)
      (subst (λ (xs : List Name). IfSome (route_of ns old.places) (λ store. IsSome (place_of store xs))) (sym names) (f.homed ns));
  where_known =
      where_known (home_in new table.ns)
      (subst (λ (ps : List Place). old.known (home table.ns ps (names_of new.views))) (sym places)
      (subst (λ (xs : List Name). old.known (home table.ns old.places xs)) (sym names) f.where_known));
}

pub fit_for_on : (old new : Attached) (table : TableName) → GoOn old new → AreUsableFor table old → AreUsableFor table new
fit_for_on old new table g f = fit_for_as old new table g.places g.names g.where_known f

pub fit_for_before : (old new : Attached) (table : TableName) → GoOn old new → AreUsableFor table (known_before old new) → AreUsableFor table old
fit_for_before old new table g f = fit_for_as (known_before old new) old table (sym g.places) (sym g.names) (λ at t. t) f

-- what is known of stores stays known
pub known_none : (stores : Attached) → KnownAreUnchanged stores stores
known_none stores at store is_known here = subst (λ (o : Option Counted). IsSomeAnd o (λ now. now.contents ≡ store.contents)) (sym here) refl

pub known_more : (a b c : Attached) → GoOn a b → KnownAreUnchanged a b → KnownAreUnchanged b c → KnownAreUnchanged a c
known_more a b c g first then at store is_known here = by (slice_get b.views at) refl (first at store is_known here)
  where
    on : (o : Option Counted) (mid : Counted) → mid.contents ≡ store.contents → IsSomeAnd o (λ now. now.contents ≡ mid.contents) → IsSomeAnd o (λ now. now.contents ≡ store.contents)
    on None mid e h = h
    on (Some now) mid e h = h ∙ e

    by : (o : Option Counted) → slice_get b.views at ≡ o → IsSomeAnd o (λ now. now.contents ≡ store.contents) → IsSomeAnd (slice_get c.views at) (λ now. now.contents ≡ store.contents)
    by None e h = absurd h
    by (Some mid) e h = on (slice_get c.views at) mid h (then at mid (g.where_known at is_known) e)

pub goes_call : (at : ℕ) (old new : Attached) (q : Request) (r : Reply) → new.places ≡ old.places → IsCallAt at q r old new → GoOn old new
goes_call at old new q r places call =
    let names : names_of new.views ≡ names_of old.views = same_names at q r old new call in
    record {
      places = places;
      names = names;
      counted = grown at q r old new call;
      full = full_call at q r old new call;
      fit = λ catalog f. fit_on catalog old new places names call.where_known f;
      where_known = call.where_known;
    }

---- why a scan stopped

risen_more : (old mid : Attached) (new : List Counted) → GoOn old mid → HaveRisen mid.views new → HaveRisen old.views new
risen_more old mid new g h = elim h [
  | inl rose ↦ inl (omega (arith, g.counted, rose))
  | inr most ↦ inr most
]

-- what stopped a call after others stopped them all
pub refused_after : (old mid : Attached) (new : List Counted) (e : CallRefused) → GoOn old mid → Refuses mid.views new e → Refuses old.views new e
refused_after old mid new refused.StoreFault g h = risen_more old mid new g h
refused_after old mid new refused.NoMemory g h = tt

-- what is so of an error that is passed on
pub passed : {T : Type 0} (P : CallRefused → Type 0) (r : Result T CallRefused) (e : CallRefused) → IsErrAnd r (λ y. y ≡ e) → P e → IfErr r P
passed P (Ok x) e h p = absurd h
passed P (Err y) e h p = subst P (sym h) p

---- one event more of a trace

pub traced_more : (places : List Place) (es : List Event) (e : Event) (opening before now : List StoreContents) (ms : List (List StoreContents)) → IsTrace places es opening ms before → Effect places e before now → IsTrace places (es ++ e ∷ []) opening (ms ++ now ∷ []) now
traced_more places [] e opening before now [] h f = (subst (λ (x : List StoreContents). Effect places e x now) h f, refl)
traced_more places [] e opening before now (m ∷ ms) h f = absurd h
traced_more places (x ∷ xs) e opening before now [] h f = absurd h
traced_more places (x ∷ xs) e opening before now (m ∷ ms) h f = (h.0, traced_more places xs e m before now ms h.1 f)
