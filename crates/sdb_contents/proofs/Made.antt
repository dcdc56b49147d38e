-- One call on the store of its table, as events have it.
use Rattle.std.proofs.Common.{◌≡◌, ◌≢◌, ℕ, ◌<◌, Bool, true, false, List, length, slice_set, Option, Some, None, inl, inr, refl, sym, ap, subst, ◌∙◌}
use Rattle.std.specs.Prelude.{◌==◌, slice_get, IsSomeAnd}
use Rattle.std.specs.Option.{option_map}
use Rattle.std.proofs.lemmas.Bool.{eqb-false, eqb-true}
use Rattle.std.proofs.lemmas.List.{get_or-set_other, get_or-set_same, length-set}
use Rattle.std.proofs.lemmas.Option.{get_or_from_slice_get, slice_get-get_or, slice_get-map, slice_get_within}
use Rattle.sdb_contents.specs.Types.{Reply, Request, TableName}
use Rattle.sdb_types.specs.declared.record.Request.TheVariants as ask
use Rattle.sdb_types.specs.declared.record.Reply.TheVariants as reply
use Rattle.sdb_types.specs.Contents.{Contents, IsWellFormed, after}
use Rattle.sdb_store.specs.Store.{Performs}
use Rattle.sdb_stores.specs.Views.{Attached, StoreView as Counted, AreUnchanged, IsCallAt, names_of, home_in, table_of}
use Rattle.sdb_model.specs.declared.event.How.TheVariants.{Seen, Lost, Discarded, Delayed}
use Rattle.sdb_model.specs.Rows.{Name}
use Rattle.sdb_model.specs.Events.{IsPerformed, contents_under, with_contents, store_of, table_asked}
use Rattle.sdb_contents.specs.Board.{AreUsableFor, HoldTheSame, IsCalled, IsDelivered, IsMade, IsOneCall, KnownAreUnchanged, how_lost, how_seen, reply_lost, contents_of_views}
use Rattle.sdb_contents.proofs.StoreContents.{held_at, set_there, set_still, named_home}
use Rattle.sdb_types.proofs.Public.{some_is}
use Rattle.sdb_model.specs.Calls.{is_read}

pub asked : (q : Request) → table_of q ≡ table_asked q
asked (ask.Get key) = refl
asked (ask.Scan span) = refl
asked (ask.PutIf r condition) = refl
asked (ask.DeleteIf key condition) = refl
asked (ask.PutAll batch) = refl

-- what a store does is what an event says
performed : (q : Request) (r : Reply) (old new : Contents) → Performs q r old new → IsPerformed q (how_seen r) r old new
performed q reply.Fault old new p = (refl, p)
performed q reply.NoMemory old new p = inr (refl, p)
performed q (reply.Found found) old new p = inl (λ i. (sym p.0 i, sym p.1 i))
performed q (reply.Rows rows) old new p = inl (λ i. (sym p.0 i, sym p.1 i))
performed q (reply.NotAll place there) old new p = inl (λ i. (sym p.0 i, sym p.1 i))
performed q reply.Applied old new p = inl (λ i. (sym p.0 i, sym p.1 i))
performed q (reply.NotMet found) old new p = inl (λ i. (sym p.0 i, sym p.1 i))

stays : (q : Request) (m : Contents) → is_read q ≡ true → after q m ≡ m
stays (ask.Get key) m e = refl
stays (ask.Scan span) m e = refl
stays (ask.PutIf r condition) m e = absurd (let f : false ≡ true = e in cc)
stays (ask.DeleteIf key condition) m e = absurd (let f : false ≡ true = e in cc)
stays (ask.PutAll batch) m e = absurd (let f : false ≡ true = e in cc)

-- a read leaves its store as it was, whatever it answers
kept : (q : Request) (r : Reply) (old new : Contents) → is_read q ≡ true → Performs q r old new → new ≡ old
kept q reply.Fault old new e p = elim p [
  | inl same ↦ same
  | inr later ↦ later ∙ stays q old e
]
kept q reply.NoMemory old new e p = p
kept q (reply.Found found) old new e p = p.1 ∙ stays q old e
kept q (reply.Rows rows) old new e p = p.1 ∙ stays q old e
kept q (reply.NotAll place there) old new e p = p.1 ∙ stays q old e
kept q reply.Applied old new e p = p.1 ∙ stays q old e
kept q (reply.NotMet found) old new e p = p.1 ∙ stays q old e

-- a read leaves each store of known contents as it was
pub known_stay : (at : ℕ) (q : Request) (r : Reply) (old new : Attached) → IsCallAt at q r old new → is_read q ≡ true → KnownAreUnchanged old new
known_stay at q r old new call read i store is_known here =
    subst (λ (ss : List Counted). IsSomeAnd (slice_get ss i) (λ now. now.contents ≡ store.contents)) (sym call.rest) (by (i == at) refl)
  where
    by : (b : Bool) → (i == at) ≡ b → IsSomeAnd (slice_get (slice_set old.views at call.now) i) (λ now. now.contents ≡ store.contents)
    by true e =
        let same : i ≡ at = eqb-true i at e in
        let before : call.before ≡ store = some_is call.before store (sym call.stood ∙ sym (ap (slice_get old.views) same) ∙ here) in
        let within : at < length old.views = slice_get_within old.views at call.before call.stood in
        let there : slice_get (slice_set old.views at call.now) i ≡ Some call.now =
        ap (slice_get (slice_set old.views at call.now)) same
        ∙ slice_get-get_or (slice_set old.views at call.now) at call.now (subst (λ (n : ℕ). at < n) (sym (length-set old.views at call.now)) within)
        ∙ ap Some (get_or-set_same old.views at call.now call.now within) in
        let held : call.now.contents ≡ store.contents = kept q r call.before.contents call.now.contents read (call.performed (subst old.known same is_known)) ∙ ap (λ (x : Counted). x.contents) before in
        subst (λ (o : Option Counted). IsSomeAnd o (λ now. now.contents ≡ store.contents)) (sym there) held
    by false e =
        let within : i < length old.views = slice_get_within old.views i store here in
        let there : slice_get (slice_set old.views at call.now) i ≡ Some store =
        slice_get-get_or (slice_set old.views at call.now) i store (subst (λ (n : ℕ). i < n) (sym (length-set old.views at call.now)) within)
        ∙ ap Some (get_or-set_other old.views at i call.now store (λ k. eqb-false i at e k) ∙ get_or_from_slice_get old.views i store store here) in
        subst (λ (o : Option Counted). IsSomeAnd o (λ now. now.contents ≡ store.contents)) (sym there) refl

module _ (old : Attached) (q : Request) (fit : AreUsableFor (table_asked q) old) where
  -- the store at the home of a table is the one of its namespace
  there_is : (s : Counted) → slice_get old.views (home_in old (table_of q).ns) ≡ Some s → store_of old.places (contents_of_views old.views) (table_asked q).ns ≡ s.name
  there_is s at =
      let name : slice_get (names_of old.views) (home_in old (table_of q).ns) ≡ Some s.name = slice_get-map (λ (s : Counted). s.name) old.views (home_in old (table_of q).ns) ∙ ap (option_map (λ (s : Counted). s.name)) at in
      let store : s.name ≡ store_of old.places (contents_of_views old.views) (table_of q).ns = some_is _ _ (sym name ∙ named_home old.places old.views (table_of q).ns fit.some (fit.homed (table_of q).ns)) in
      ap (λ (t : TableName). store_of old.places (contents_of_views old.views) t.ns) (sym (asked q)) ∙ sym store

  told_there : old.known (home_in old (table_of q).ns)
  told_there = subst (λ (t : TableName). old.known (home_in old t.ns)) (sym (asked q)) fit.where_known

  -- A call on the store at the home of its table is one on the store of its table's namespace.
  pub called : (new : Attached) (r : Reply) → IsCallAt (home_in old (table_of q).ns) q r old new → IsCalled q r old new
  called new r call =
      let there = there_is call.before call.stood in
      record {
        formed = call.formed;
        held = call.before.contents;
        left = call.now.contents;
        placed = refl;
        found = ap (λ (n : Name). contents_under (contents_of_views old.views) n) there ∙ held_at old.views _ call.before fit.distinct call.stood;
        performed = performed q r call.before.contents call.now.contents (call.performed told_there);
        others = ap contents_of_views call.rest ∙ set_there old.views _ call.before call.now fit.distinct call.stood call.name ∙ ap (λ (n : Name). with_contents (contents_of_views old.views) n call.now.contents) (sym there);
      }

  pub still : (new : Attached) (r : Reply) → IsCallAt (home_in old (table_of q).ns) q r old new → is_read q ≡ true → HoldTheSame old new
  still new r call e = ap contents_of_views call.rest ∙ set_still old.views _ call.before call.now call.stood call.name (kept q r call.before.contents call.now.contents e (call.performed told_there))

  -- A call that is discarded is made on no store.
  pub discarded : IsWellFormed q → IsMade q Discarded reply.Fault old old
  discarded formed = by (slice_get old.views (home_in old (table_of q).ns)) refl
    where
      by : (o : Option Counted) → slice_get old.views (home_in old (table_of q).ns) ≡ o → IsMade q Discarded reply.Fault old old
      by None at =
          let name = slice_get-map (λ (s : Counted). s.name) old.views (home_in old (table_of q).ns) ∙ ap (option_map (λ (s : Counted). s.name)) at in
          absurd (none_some _ (sym name ∙ named_home old.places old.views (table_of q).ns fit.some (fit.homed (table_of q).ns)))
        where
          none_some : {A : Type 0} (x : A) → ◌≡◌ {A = Option A} None (Some x) → ⊥
          none_some x e = cc
      by (Some s) at =
          let there = there_is s at in
          record {
            formed = formed;
            held = s.contents;
            left = s.contents;
            placed = refl;
            found = ap (λ (n : Name). contents_under (contents_of_views old.views) n) there ∙ held_at old.views _ s fit.distinct at;
            performed = (refl, refl);
            others = sym (set_still old.views _ s s at refl refl) ∙ set_there old.views _ s s fit.distinct at refl ∙ ap (λ (n : Name). with_contents (contents_of_views old.views) n s.contents) (sym there);
          }

  -- nor is one that is delayed
  pub delayed : IsWellFormed q → IsMade q Delayed reply.Fault old old
  delayed formed =
      let d = discarded formed in
      record { formed = d.formed; held = d.held; left = d.left; placed = d.placed; found = d.found; performed = d.performed; others = d.others }

-- a call that answered, and whose reply is lost
loses : (q : Request) (r : Reply) (old new : Attached) → IsMade q Seen r old new → r ≢ reply.NoMemory → IsMade q Lost reply.Fault old new
loses q r old new c memory = record {
  formed = c.formed;
  held = c.held;
  left = c.left;
  placed = c.placed;
  found = c.found;
  performed = elim c.performed [
    | inl e ↦ (refl, sym (ap (λ (x : Reply × Contents). x.1) e))
    | inr w ↦ absurd (memory w.0)
  ];
  others = c.others;
}

-- a call whose reply is lost
pub lost : (q : Request) (r : Reply) (old new : Attached) → IsCalled q r old new → IsMade q (how_lost r) (reply_lost r) old new
lost q reply.Fault old new c = c
lost q reply.NoMemory old new c = c
lost q (reply.Found found) old new c = loses q (reply.Found found) old new c (λ e. cc)
lost q (reply.Rows rows) old new c = loses q (reply.Rows rows) old new c (λ e. cc)
lost q (reply.NotAll place there) old new c = loses q (reply.NotAll place there) old new c (λ e. cc)
lost q reply.Applied old new c = loses q reply.Applied old new c (λ e. cc)
lost q (reply.NotMet found) old new c = loses q (reply.NotMet found) old new c (λ e. cc)

-- a call whose reply is handed on is one call
pub once_seen : (q : Request) (r : Reply) (old new : Attached) → IsOneCall q r old new → IsDelivered q (how_seen r) r old new
once_seen q reply.Fault old new h = h
once_seen q reply.NoMemory old new h = h
once_seen q (reply.Found found) old new h = h
once_seen q (reply.Rows rows) old new h = h
once_seen q (reply.NotAll place there) old new h = h
once_seen q reply.Applied old new h = h
once_seen q (reply.NotMet found) old new h = h

-- and so is one whose reply is lost
pub once_lost : (q : Request) (r : Reply) (old new : Attached) → IsOneCall q r old new → IsDelivered q (how_lost r) (reply_lost r) old new
once_lost q reply.Fault old new h = h
once_lost q reply.NoMemory old new h = h
once_lost q (reply.Found found) old new h = (reply.Found found, h)
once_lost q (reply.Rows rows) old new h = (reply.Rows rows, h)
once_lost q (reply.NotAll place there) old new h = (reply.NotAll place there, h)
once_lost q reply.Applied old new h = (reply.Applied, h)
once_lost q (reply.NotMet found) old new h = (reply.NotMet found, h)

-- stores that nothing is asked stay
pub unasked : (stores : Attached) → AreUnchanged stores stores
unasked stores = record { places = refl; views = refl; where_known = λ i h. h }
