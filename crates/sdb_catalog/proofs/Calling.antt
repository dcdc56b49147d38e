-- Calls on the first store.
use Rattle.std.proofs.Common.{◌≡◌, ◌⊎◌, Some, ℕ, ◌≤◌, List, [], ◌∷◌, drop, slice_set, inl, inr, refl, sym, ap, subst, ◌∙◌, arith}
use Rattle.std.specs.Prelude.{slice_get}
use Rattle.sdb_types.specs.declared.record.Reply.TheVariants as reply
use Rattle.sdb_types.specs.Contents.{Contents, after}
use Rattle.sdb_store.specs.Store.{Performs}
use Rattle.sdb_catalog.specs.Types.{Place, Reply, Request}
use Rattle.sdb_stores.specs.Views.{Attached, StoreView, IsCallAt, HaveRisen, home, home_in, names_of, total_faults}
use Rattle.sdb_stores.proofs.Public.{grown, same_names}
use Rattle.sdb_catalog.specs.declared.refused.CatalogRefused.{CatalogRefused}
use Rattle.sdb_catalog.specs.declared.refused.CatalogRefused.TheVariants as refused
use Rattle.sdb_catalog.specs.Calls.{Called, GoOn, IsStopped, IsUnread, MayChange, first_contents}
use Rattle.sdb_types.proofs.Public.{none_some as no_some}

-- without places each namespace belongs to the first store
pub at_first : (ns : List ℕ) (q : Request) (r : Reply) (old new : Attached) → old.places ≡ [] → IsCallAt (home_in old ns) q r old new → IsCallAt 0 q r old new
at_first ns q r old new bare call = subst (λ (at : ℕ). IsCallAt at q r old new) (ap (λ (ps : List Place). home ns ps (names_of old.views)) bare) call

pub called : (ns : List ℕ) (q : Request) (r : Reply) (old new : Attached) → old.places ≡ [] → IsCallAt (home_in old ns) q r old new → Called q r old new.views
called ns q r old new bare there =
    let call = at_first ns q r old new bare there in
    record {
      formed = call.formed;
      before = call.before;
      now = call.now;
      stood = call.stood;
      rest = call.rest;
      name = call.name;
      performed = call.performed;
      lawful = call.lawful;
      counted = call.counted;
      cause = call.cause;
      where_known = λ i h. h;
    }

others_stay : (old : List StoreView) (s : StoreView) → drop 1 (slice_set old 0 s) ≡ drop 1 old
others_stay [] s = refl
others_stay (x ∷ xs) s = refl

---- what the first store holds

pub left_by : (q : Request) (r : Reply) (m n : Contents) → Performs q r m n → (n ≡ m) ⊎ (n ≡ after q m)
left_by q reply.Fault m n p = p
left_by q reply.NoMemory m n p = inl p
left_by q (reply.Found found) m n p = inr p.1
left_by q (reply.Rows rows) m n p = inr p.1
left_by q (reply.NotAll place there) m n p = inr p.1
left_by q reply.Applied m n p = inr p.1
left_by q (reply.NotMet found) m n p = inr p.1

pub first_before : (old : List StoreView) (s : StoreView) → slice_get old 0 ≡ Some s → first_contents old ≡ s.contents
first_before [] s h = no_some s h
first_before (x ∷ xs) s h = let same : x ≡ s = cc in ap (λ (y : StoreView). y.contents) same

pub first_now : (old new : List StoreView) (before now : StoreView) → slice_get old 0 ≡ Some before → new ≡ slice_set old 0 now → first_contents new ≡ now.contents
first_now [] new before now h is = no_some before h
first_now (x ∷ xs) new before now h is = ap first_contents is

-- a call leaves the contents or what its request makes of them, whatever the reply
pub left_call : (ns : List ℕ) (q : Request) (r : Reply) (old new : Attached) → old.places ≡ [] → IsCallAt (home_in old ns) q r old new → MayChange q old new
left_call ns q r old new bare there t =
    let call = at_first ns q r old new bare there in
    let before = first_before old.views call.before call.stood in
    let now = first_now old.views new.views call.before call.now call.stood call.rest in
    elim (left_by q r call.before.contents call.now.contents (call.performed t)) [
      | inl same ↦ inl (now ∙ same ∙ sym before)
      | inr done ↦ inr (now ∙ done ∙ ap (after q) (sym before))
    ]

pub goes_call : (ns : List ℕ) (q : Request) (r : Reply) (old new : Attached) → old.places ≡ [] → IsCallAt (home_in old ns) q r old new → GoOn old new
goes_call ns q r old new bare there =
    let call = at_first ns q r old new bare there in
    record {
      names = same_names 0 q r old new call;
      others = ap (drop 1) call.rest ∙ others_stay old.views call.now;
      counted = grown 0 q r old new call;
      where_known = call.where_known;
    }

pub goes_none : (old : Attached) → GoOn old old
goes_none old = record { names = refl; others = refl; counted = omega arith; where_known = λ at h. h }

pub goes_more : (old mid new : Attached) → GoOn old mid → GoOn mid new → GoOn old new
goes_more old mid new a b =
    record { names = b.names ∙ a.names; others = b.others ∙ a.others; counted = omega (arith, a.counted, b.counted); where_known = λ at h. b.where_known at (a.where_known at h) }

-- stores that are read alone, and places that come and go
pub goes_same : (old mid new : Attached) → GoOn old mid → new.views ≡ mid.views → ((at : ℕ) → mid.known at → new.known at) → GoOn old new
goes_same old mid new a same where_known =
    record {
      names = ap names_of same ∙ a.names;
      others = ap (drop 1) same ∙ a.others;
      counted = subst (λ (l : List StoreView). total_faults old.views ≤ total_faults l) (sym same) a.counted;
      where_known = λ at h. where_known at (a.where_known at h);
    }

pub risen_more : (old mid : Attached) (new : List StoreView) → GoOn old mid → HaveRisen mid.views new → HaveRisen old.views new
risen_more old mid new a h =
    elim h [
      | inl rose ↦ inl (omega (arith, a.counted, rose))
      | inr most ↦ inr most
    ]

-- a call that stopped after others
pub stopped_more : (old mid : Attached) (new : List StoreView) (e : CatalogRefused) → GoOn old mid → IsStopped mid.views new e → IsStopped old.views new e
stopped_more old mid new refused.StoreFault a h = risen_more old mid new a h
stopped_more old mid new (refused.BadRow key) a h = h
stopped_more old mid new refused.NoMemory a h = h

pub stopped_unread : (old : Attached) (new : List StoreView) (e : CatalogRefused) → IsStopped old.views new e → IsUnread old new e
stopped_unread old new refused.StoreFault h = h
stopped_unread old new (refused.BadRow key) h = absurd h
stopped_unread old new refused.NoMemory h = h
