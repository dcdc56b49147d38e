-- What happens on several stores happens on one that holds the same of the tables that are played.
use Rattle.std.proofs.Common.{◌≡◌, true, List, [], ◌∷◌, Some, inl, inr, refl, sym, ap, subst, ◌∙◌}
use Rattle.law_protocol.specs.Types.{Event, How, Place, Reply, Request, Table, TableName}
use Rattle.sdb_types.specs.Contents.{Contents, IsWellFormed, record_at, after}
use Rattle.sdb_model.specs.declared.event.Event.TheVariants as event
use Rattle.sdb_model.specs.declared.event.How.TheVariants.{Seen, Lost, Discarded, Delayed, Broken}
use Rattle.sdb_model.specs.Rows.{Name}
use Rattle.sdb_model.specs.Events.{StoreContents, Effect, IsTrace, IsCall, IsPerformed, contents_under, with_contents, store_of, table_asked}
use Rattle.law_protocol.proofs.Effects.{stands_in_store}
use Rattle.law_protocol.specs.Spread.{HoldAs, AreAbout, HasTraceOnOne, TraceOnMany, relocated_event, relocated_events, one_store}
use Rattle.law_protocol.proofs.Calls.{SameOf, same_reply, same_after, left_apart, held_as, about_key as played_key}
use Rattle.sdb_record.proofs.Public.{same_name-itself}
use Rattle.sdb_model.specs.Tables.{is_table_of_run}

pub one_held : (name : Name) (m : Contents) → contents_under (one_store name m) name ≡ Some m
one_held name m = rw (same_name-itself name) refl

pub one_left : (name : Name) (m left : Contents) → with_contents (one_store name m) name left ≡ one_store name left
one_left name m left = rw (same_name-itself name) refl

-- a call on the one store, with what it leaves there
record One (catalog : List Table) (places : List Place) (q : Request) (how : How) (r : Reply) (m : Contents) (now : List StoreContents) : Type 0 where
  formed : IsWellFormed q
  left : Contents
  performed : IsPerformed q how r m left
  same : HoldAs catalog places now left

one : (catalog : List Table) (places : List Place) (store : Name) (q : Request) (how : How) (r : Reply) (before now : List StoreContents) (m : Contents) → IsCall places store q how r before now → is_table_of_run catalog (table_asked q) ≡ true → HoldAs catalog places before m → One catalog places q how r m now
one catalog places store q how r before now m c about h = by how refl c.performed
  where
    s : SameOf c.held m (table_asked q)
    s k e = sym (stands_in_store places store q how r before now c k (c.placed ∙ ap (λ (t : TableName). store_of places before t.ns) (sym e))).0 ∙ h.at k (played_key catalog (table_asked q) k e about)

    done : c.left ≡ after q c.held → HoldAs catalog places now (after q m)
    done e = held_as catalog places store q how r before now m (after q m) c h (λ k same. ap (λ x. record_at x k) e ∙ same_after q c.held m c.formed s k same) (λ k n. left_apart q m k c.formed n)

    still : c.left ≡ c.held → HoldAs catalog places now m
    still e = held_as catalog places store q how r before now m m c h (λ k same. ap (λ x. record_at x k) e ∙ same) (λ k n. refl)

    by : (g : How) → how ≡ g → IsPerformed q g r c.held c.left → One catalog places q g r m now
    by Seen e (inl p) = record { formed = c.formed; left = after q m; performed = inl (ap (λ x. (x, after q m)) (sym (same_reply q c.held m c.formed s) ∙ ap (λ (x : Reply × Contents). x.0) p)); same = done (sym (ap (λ (x : Reply × Contents). x.1) p)) }
    by Seen e (inr w) = record { formed = c.formed; left = m; performed = inr (w.0, refl); same = still w.1 }
    by Lost e p = record { formed = c.formed; left = after q m; performed = (p.0, refl); same = done p.1 }
    by Discarded e p = record { formed = c.formed; left = m; performed = (p.0, refl); same = still p.1 }
    by Delayed e p = record { formed = c.formed; left = m; performed = (p.0, refl); same = still p.1 }
    by Broken e p = elim p.1 [
      | inl x ↦ record { formed = c.formed; left = m; performed = (p.0, inl refl); same = still x }
      | inr x ↦ record { formed = c.formed; left = after q m; performed = (p.0, inr refl); same = done x }
    ]

on_one : (catalog : List Table) (name : Name) (places : List Place) (q : Request) (how : How) (r : Reply) (m : Contents) (now : List StoreContents) (o : One catalog places q how r m now) → IsCall [] name q how r (one_store name m) (one_store name o.left)
on_one catalog name places q how r m now o = record { formed = o.formed; held = m; left = o.left; placed = refl; found = one_held name m; performed = o.performed; others = sym (one_left name m o.left) }

-- the one store's trace
pub record Single (catalog : List Table) (name : Name) (places : List Place) (events : List Event) (m0 : Contents) (closing : List StoreContents) : Type 0 where
  pub singles : List (List StoreContents)
  pub last : Contents
  pub traced : IsTrace [] (relocated_events (λ ns. name) events) (one_store name m0) singles (one_store name last)
  pub same : HoldAs catalog places closing last

one_more : (catalog : List Table) (name : Name) (places : List Place) (e : Event) (es : List Event) (m0 m1 : Contents) (closing : List StoreContents) → Effect [] (relocated_event (λ ns. name) e) (one_store name m0) (one_store name m1) → Single catalog name places es m1 closing → Single catalog name places (e ∷ es) m0 closing
one_more catalog name places e es m0 m1 closing effect rest = record { singles = one_store name m1 ∷ rest.singles; last = rest.last; traced = (effect, rest.traced); same = rest.same }

pub single : {catalog : List Table} (name : Name) {places : List Place} (events : List Event) (before : List StoreContents) (moments : List (List StoreContents)) (closing : List StoreContents) {m : Contents} → IsTrace places events before moments closing → AreAbout catalog events → HoldAs catalog places before m → Single catalog name places events m closing
single {catalog} name {places} [] before [] closing {m} t about h = record { singles = []; last = m; traced = refl; same = subst (λ x. HoldAs catalog places x m) (sym t) h }
single name [] before (s ∷ ss) closing t about h = absurd t
single name (e ∷ es) before [] closing t about h = absurd t
single {catalog} name {places} (event.Take client text answer ∷ es) before (s ∷ ss) closing {m} t about h = one_more catalog name places (event.Take client text answer) es m m closing refl (single name es s ss closing t.1 about.1 (subst (λ x. HoldAs catalog places x m) (sym t.0) h))
single {catalog} name {places} (event.Stop client ∷ es) before (s ∷ ss) closing {m} t about h = one_more catalog name places (event.Stop client) es m m closing refl (single name es s ss closing t.1 about.1 (subst (λ x. HoldAs catalog places x m) (sym t.0) h))
single {catalog} name {places} (event.Clock moment ∷ es) before (s ∷ ss) closing {m} t about h = one_more catalog name places (event.Clock moment) es m m closing refl (single name es s ss closing t.1 about.1 (subst (λ x. HoldAs catalog places x m) (sym t.0) h))
single {catalog} name {places} (event.Idle client ∷ es) before (s ∷ ss) closing {m} t about h = one_more catalog name places (event.Idle client) es m m closing refl (single name es s ss closing t.1 about.1 (subst (λ x. HoldAs catalog places x m) (sym t.0) h))
single {catalog} name {places} (event.Alter table column kind altered ∷ es) before (s ∷ ss) closing {m} t about h = one_more catalog name places (event.Alter table column kind altered) es m m closing refl (single name es s ss closing t.1 about.1 (subst (λ x. HoldAs catalog places x m) (sym t.0) h))
single {catalog} name {places} (event.Call client store q how r answer ∷ es) before (s ∷ ss) closing {m} t about h =
    let o = one catalog places store q how r before s m t.0 about.0 h in
    one_more catalog name places (event.Call client store q how r answer) es m o.left closing
    (on_one catalog name places q how r m s o)
    (single name es s ss closing t.1 about.1 o.same)
single {catalog} name {places} (event.Land number store q how r ∷ es) before (s ∷ ss) closing {m} t about h =
    let o = one catalog places store q how r before s m t.0 about.0 h in
    one_more catalog name places (event.Land number store q how r) es m o.left closing
    (on_one catalog name places q how r m s o)
    (single name es s ss closing t.1 about.1 o.same)

pub single_of : (t : TraceOnMany) (name : Name) → HasTraceOnOne t name
single_of t name =
    let s = single name t.events t.opening t.moments t.closing t.trace t.about t.same in
    record { singles = s.singles; last = s.last; traced = s.traced; same = s.same }
