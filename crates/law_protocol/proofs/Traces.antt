-- Events that agree with one store agree with several that hold the same.
use Rattle.std.proofs.Common.{◌≡◌, ◌≢◌, Bool, true, false, List, [], ◌∷◌, Option, Some, None, inl, inr, refl, sym, ap, subst, ◌∙◌}
use Rattle.std.specs.Prelude.{IsSome, is_some}
use Rattle.std.specs.FinMap.{empty}
use Rattle.std.specs.Option.{option_map_or}
use Rattle.law_protocol.specs.Types.{Event, How, Key, Place, Reply, Request, Table, TableName}
use Rattle.sdb_types.specs.Contents.{Contents, IsWellFormed, record_at, after}
use Rattle.sdb_record.proofs.Public.{same_name-itself, same_name-true}
use Rattle.sdb_model.specs.declared.event.Event.TheVariants as event
use Rattle.sdb_model.specs.declared.event.How.TheVariants.{Seen, Lost, Discarded, Delayed, Broken}
use Rattle.sdb_model.specs.Rows.{Name, same_name}
use Rattle.sdb_model.specs.Events.{StoreContents, contents_under, with_contents, store_of, stored_at, table_asked, IsPerformed, IsCall, Effect, IsTrace}
use Rattle.law_protocol.proofs.Effects.{store_same, held_there, held_elsewhere}
use Rattle.law_protocol.specs.Spread.{one_store, relocated_event, relocated_events, AreAbout, HoldAs, HaveStores, HasTraceOnMany, TraceOnOne}
use Rattle.law_protocol.proofs.Calls.{SameOf, same_reply, same_after, left_apart, held_as}
use Rattle.sdb_types.proofs.Public.{some_is as some_same}
use Rattle.law_protocol.proofs.Single.{one_held, one_left}
use Rattle.sdb_model.specs.Tables.{is_table_of_run}

---- the one store

abbrev pub contents_of : List StoreContents → Contents
contents_of [] = empty
contents_of (s ∷ ss) = s.contents

-- a call on the one store: what it leaves there
record OneCall (name : Name) (q : Request) (how : How) (r : Reply) (m : Contents) (now : List StoreContents) : Type 0 where
  formed : IsWellFormed q
  left : Contents
  performed : IsPerformed q how r m left
  same : now ≡ one_store name left

one_call : (name store : Name) (q : Request) (how : How) (r : Reply) (m : Contents) (now : List StoreContents) → IsCall [] store q how r (one_store name m) now → OneCall name q how r m now
one_call name store q how r m now c =
    let there : c.held ≡ m = sym (some_same m c.held (sym (one_held name m) ∙ sym (ap (contents_under (one_store name m)) c.placed) ∙ c.found)) in
    record {
      formed = c.formed;
      left = c.left;
      performed = subst (λ (held : Contents). IsPerformed q how r held c.left) there c.performed;
      same = c.others ∙ ap (λ (n : Name). with_contents (one_store name m) n c.left) c.placed ∙ one_left name m c.left;
    }

---- the same on contents that agree on the call's table

-- what it leaves there
record Performed (q : Request) (how : How) (r : Reply) (h m left : Contents) : Type 0 where
  now : Contents
  performed : IsPerformed q how r h now
  here : (k : Key) → record_at h k ≡ record_at m k → record_at now k ≡ record_at left k
  there : (k : Key) → k.table.ns ≢ (table_asked q).ns → record_at left k ≡ record_at m k

-- with its effect
effected : (q : Request) (how : How) (r : Reply) (h m left : Contents) → IsWellFormed q → SameOf h m (table_asked q) → left ≡ after q m → IsPerformed q how r h (after q h) → Performed q how r h m left
effected q how r h m left formed s e p = record {
  now = after q h;
  performed = p;
  here = λ k same. same_after q h m formed s k same ∙ sym (ap (λ (x : Contents). record_at x k) e);
  there = λ k n. ap (λ (x : Contents). record_at x k) e ∙ left_apart q m k formed n;
}

-- without
kept : (q : Request) (how : How) (r : Reply) (h m left : Contents) → left ≡ m → IsPerformed q how r h h → Performed q how r h m left
kept q how r h m left e p = record {
  now = h;
  performed = p;
  here = λ k same. same ∙ sym (ap (λ (x : Contents). record_at x k) e);
  there = λ k n. ap (λ (x : Contents). record_at x k) e;
}

performed_too : (q : Request) (how : How) (r : Reply) (h m left : Contents) → IsWellFormed q → SameOf h m (table_asked q) → IsPerformed q how r m left → Performed q how r h m left
performed_too q Seen r h m left formed s p = elim p [
  | inl e ↦ effected q Seen r h m left formed s (sym (ap (λ (x : Reply × Contents). x.1) e)) (inl (ap (λ (x : Reply). (x, after q h)) (same_reply q h m formed s ∙ ap (λ (x : Reply × Contents). x.0) e)))
  | inr w ↦ kept q Seen r h m left w.1 (inr (w.0, refl))
]
performed_too q Lost r h m left formed s p = effected q Lost r h m left formed s p.1 (p.0, refl)
performed_too q Discarded r h m left formed s p = kept q Discarded r h m left p.1 (p.0, refl)
performed_too q Delayed r h m left formed s p = kept q Delayed r h m left p.1 (p.0, refl)
performed_too q Broken r h m left formed s p = elim p.1 [
  | inl e ↦ kept q Broken r h m left e (p.0, inl refl)
  | inr e ↦ effected q Broken r h m left formed s e (p.0, inr refl)
]

---- the contents of namespaces

-- which store each namespace has
abbrev AreAt : List Place → List StoreContents → (Name → Name) → Type 0
AreAt places store_contents at = (ns : Name) → store_of places store_contents ns ≡ at ns

taken_out : {A : Type 0} (o : Option A) → IsSome o → (x : A) × (o ≡ Some x)
taken_out None h = absurd (cc (h))
taken_out (Some x) h = (x, refl)

some_of : {A : Type 0} (o : Option A) (x : A) → o ≡ Some x → IsSome o
some_of o x e = ap is_some e

shelved_more : (places : List Place) (store_contents : List StoreContents) (store : Name) (held left : Contents) → contents_under store_contents store ≡ Some held → HaveStores places store_contents → HaveStores places (with_contents store_contents store left)
shelved_more places store_contents store held left found all ns = by (same_name store (store_of places store_contents ns)) refl
  where
    by : (b : Bool) → same_name store (store_of places store_contents ns) ≡ b → IsSome (contents_under (with_contents store_contents store left) (store_of places (with_contents store_contents store left) ns))
    by true e =
        some_of _ left (ap (contents_under (with_contents store_contents store left)) (store_same places store_contents store left ns ∙ sym (same_name-true store (store_of places store_contents ns) e)) ∙ held_there store_contents store left held found)
    by false e =
        subst IsSome (sym (ap (contents_under (with_contents store_contents store left)) (store_same places store_contents store left ns) ∙ held_elsewhere store_contents store (store_of places store_contents ns) left (λ same. no (sym e ∙ ap (same_name store) (sym same) ∙ same_name-itself store)))) (all ns)
      where
        no : false ≡ true → ⊥
        no x = absurd (cc)

---- one call on several stores

record ManyCall (catalog : List Table) (places : List Place) (at : Name → Name) (q : Request) (how : How) (r : Reply) (before : List StoreContents) (left : Contents) : Type 0 where
  now : List StoreContents
  called : IsCall places (at (table_asked q).ns) q how r before now
  holds : HoldAs catalog places now left
  shelved : HaveStores places now
  ats : AreAt places now at

-- what is at a key of the call's table
stands_here : (places : List Place) (at : Name → Name) (q : Request) (before : List StoreContents) (h : Contents) → AreAt places before at → contents_under before (at (table_asked q).ns) ≡ Some h
    → (k : Key) → k.table ≡ table_asked q → stored_at places before k ≡ record_at h k
stands_here places at q before h ats found k e =
    ap (λ (n : Name). option_map_or (λ m. record_at m k) (contents_under before n) None) (ap (λ (t : TableName). store_of places before t.ns) e ∙ ats (table_asked q).ns)
    ∙ ap (λ (o : Option Contents). option_map_or (λ m. record_at m k) o None) found

same_there : (catalog : List Table) (places : List Place) (at : Name → Name) (q : Request) (before : List StoreContents) (m h : Contents) → is_table_of_run catalog (table_asked q) ≡ true
    → AreAt places before at → HoldAs catalog places before m → contents_under before (at (table_asked q).ns) ≡ Some h → SameOf h m (table_asked q)
same_there catalog places at q before m h about ats holds found k e =
    sym (stands_here places at q before h ats found k e) ∙ holds.at k (ap (is_table_of_run catalog) e ∙ about)

many_found : (catalog : List Table) (places : List Place) (at : Name → Name) (q : Request) (how : How) (r : Reply) (before : List StoreContents) (m left : Contents) → is_table_of_run catalog (table_asked q) ≡ true
    → AreAt places before at → HaveStores places before → HoldAs catalog places before m → IsWellFormed q → IsPerformed q how r m left
    → (h : Contents) → contents_under before (at (table_asked q).ns) ≡ Some h → ManyCall catalog places at q how r before left
many_found catalog places at q how r before m left about ats shelved holds formed performed h found =
    let p = performed_too q how r h m left formed (same_there catalog places at q before m h about ats holds found) performed in
    let c : IsCall places (at (table_asked q).ns) q how r before (with_contents before (at (table_asked q).ns) p.now) =
    record { formed = formed; held = h; left = p.now; placed = sym (ats (table_asked q).ns); found = found; performed = p.performed; others = refl } in
    record {
      now = with_contents before (at (table_asked q).ns) p.now;
      called = c;
      holds = held_as catalog places (at (table_asked q).ns) q how r before (with_contents before (at (table_asked q).ns) p.now) m left c holds p.here p.there;
      shelved = shelved_more places before (at (table_asked q).ns) h p.now found shelved;
      ats = λ ns. store_same places before (at (table_asked q).ns) p.now ns ∙ ats ns;
    }

many_call : (catalog : List Table) (places : List Place) (at : Name → Name) (q : Request) (how : How) (r : Reply) (before : List StoreContents) (m left : Contents) → is_table_of_run catalog (table_asked q) ≡ true
    → AreAt places before at → HaveStores places before → HoldAs catalog places before m → IsWellFormed q → IsPerformed q how r m left → ManyCall catalog places at q how r before left
many_call catalog places at q how r before m left about ats shelved holds formed performed =
    let home = taken_out (contents_under before (store_of places before (table_asked q).ns)) (shelved (table_asked q).ns) in
    many_found catalog places at q how r before m left about ats shelved holds formed performed home.0 (ap (contents_under before) (sym (ats (table_asked q).ns)) ∙ home.1)

---- all events

record Many (catalog : List Table) (places : List Place) (at : Name → Name) (events : List Event) (before : List StoreContents) (m1 : Contents) : Type 0 where
  moments : List (List StoreContents)
  closing : List StoreContents
  trace : IsTrace places (relocated_events at events) before moments closing
  holds : HoldAs catalog places closing m1

-- an event without an effect, and the others
many_still : (catalog : List Table) (places : List Place) (at : Name → Name) (e : Event) (es : List Event) (before : List StoreContents) (m1 : Contents) → Effect places (relocated_event at e) before before → Many catalog places at es before m1 → Many catalog places at (e ∷ es) before m1
many_still catalog places at e es before m1 effect rest = record { moments = before ∷ rest.moments; closing = rest.closing; trace = (effect, rest.trace); holds = rest.holds }

many_traced : (catalog : List Table) (name : Name) (places : List Place) (at : Name → Name) (events : List Event) (singles : List (List StoreContents)) (before : List StoreContents) (m0 m1 : Contents)
    → IsTrace [] events (one_store name m0) singles (one_store name m1) → AreAbout catalog events → AreAt places before at → HaveStores places before → HoldAs catalog places before m0
    → Many catalog places at events before m1
many_traced catalog name places at [] [] before m0 m1 t about ats shelved holds =
    record { moments = []; closing = before; trace = refl; holds = subst (HoldAs catalog places before) (sym (ap contents_of t)) holds }
many_traced catalog name places at [] (s ∷ ss) before m0 m1 t about ats shelved holds = absurd t
many_traced catalog name places at (e ∷ es) [] before m0 m1 t about ats shelved holds = absurd t
many_traced catalog name places at (event.Take c text given ∷ es) (s ∷ ss) before m0 m1 t about ats shelved holds =
    many_still catalog places at (event.Take c text given) es before m1 refl (many_traced catalog name places at es ss before m0 m1 (subst (λ (x : List StoreContents). IsTrace [] es x ss (one_store name m1)) t.0 t.1) about.1 ats shelved holds)
many_traced catalog name places at (event.Stop c ∷ es) (s ∷ ss) before m0 m1 t about ats shelved holds =
    many_still catalog places at (event.Stop c) es before m1 refl (many_traced catalog name places at es ss before m0 m1 (subst (λ (x : List StoreContents). IsTrace [] es x ss (one_store name m1)) t.0 t.1) about.1 ats shelved holds)
many_traced catalog name places at (event.Clock moment ∷ es) (s ∷ ss) before m0 m1 t about ats shelved holds =
    many_still catalog places at (event.Clock moment) es before m1 refl (many_traced catalog name places at es ss before m0 m1 (subst (λ (x : List StoreContents). IsTrace [] es x ss (one_store name m1)) t.0 t.1) about.1 ats shelved holds)
many_traced catalog name places at (event.Idle c ∷ es) (s ∷ ss) before m0 m1 t about ats shelved holds =
    many_still catalog places at (event.Idle c) es before m1 refl (many_traced catalog name places at es ss before m0 m1 (subst (λ (x : List StoreContents). IsTrace [] es x ss (one_store name m1)) t.0 t.1) about.1 ats shelved holds)
many_traced catalog name places at (event.Alter table column kind altered ∷ es) (s ∷ ss) before m0 m1 t about ats shelved holds =
    many_still catalog places at (event.Alter table column kind altered) es before m1 refl (many_traced catalog name places at es ss before m0 m1 (subst (λ (x : List StoreContents). IsTrace [] es x ss (one_store name m1)) t.0 t.1) about.1 ats shelved holds)
many_traced catalog name places at (event.Call c store q how r given ∷ es) (s ∷ ss) before m0 m1 t about ats shelved holds =
    let one = one_call name store q how r m0 s t.0 in
    let many = many_call catalog places at q how r before m0 one.left about.0 ats shelved holds one.formed one.performed in
    let rest = many_traced catalog name places at es ss many.now one.left m1 (subst (λ (x : List StoreContents). IsTrace [] es x ss (one_store name m1)) one.same t.1) about.1 many.ats many.shelved many.holds in
    record { moments = many.now ∷ rest.moments; closing = rest.closing; trace = (many.called, rest.trace); holds = rest.holds }
many_traced catalog name places at (event.Land number store q how r ∷ es) (s ∷ ss) before m0 m1 t about ats shelved holds =
    let one = one_call name store q how r m0 s t.0 in
    let many = many_call catalog places at q how r before m0 one.left about.0 ats shelved holds one.formed one.performed in
    let rest = many_traced catalog name places at es ss many.now one.left m1 (subst (λ (x : List StoreContents). IsTrace [] es x ss (one_store name m1)) one.same t.1) about.1 many.ats many.shelved many.holds in
    record { moments = many.now ∷ rest.moments; closing = rest.closing; trace = (many.called, rest.trace); holds = rest.holds }

pub traced : (t : TraceOnOne) → HasTraceOnMany t
traced t =
    let many = many_traced t.catalog t.name t.places (store_of t.places t.opening) t.events t.singles t.opening t.held_before t.held_after t.trace t.about (λ ns. refl) t.shelved t.same in
    record { moments = many.moments; closing = many.closing; trace = many.trace; same = many.holds }
