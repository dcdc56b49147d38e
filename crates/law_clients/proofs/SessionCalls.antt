-- What one call does to the database, where its condition holds.
use Rattle.std.proofs.Common.{◌≡◌, ◌≢◌, ◌⊎◌, ℕ, ◌+◌, Bool, true, false, List, [], ◌∷◌, Option, Some, None, inl, inr, refl, sym, ap, subst, ◌∙◌}
use Rattle.std.specs.Prelude.{◌&&◌, if◌then◌else◌, is_none}
use Rattle.std.specs.List.{AllByRecursion}
use Rattle.law_clients.specs.Types.{Condition, How, Key, Place, Record, Reply, Request, Span, TableName}
use Rattle.sdb_types.specs.declared.record.Request.TheVariants as ask
use Rattle.sdb_types.specs.declared.record.Reply.TheVariants as reply
use Rattle.sdb_types.specs.declared.record.Put.{Put}
use Rattle.sdb_types.specs.Contents.{Contents, record_at, holds, put_reply, batch_reply, reply_to, after, all_put, in_span, left_at, record_among, rows_in, table_of_puts, unmet_from}
use Rattle.sdb_types.specs.Order.{same_key}
use Rattle.sdb_types.proofs.Public.{and_first, and_second, clash, left_outside, rows_in-are_rows_of, same_key_decides}
use Rattle.sdb_model.specs.Rows.{Name}
use Rattle.sdb_model.specs.Events.{StoreContents, stored_at, table_asked, IsCall}
use Rattle.law_protocol.proofs.Public.{after_all, after_delete, after_put, all_in_table, at_call, AtCall, none_apart, row_there, span_table}
use Rattle.law_clients.specs.Database.{Database, database_of, are_met, with_batch, with_record, Same, TookEffect, Wrote, Done, Undone, Got, Found, NotFound, Scanned, Returned, NotReturned, Called}

---- writes

both : (b : Bool) → true && b ≡ b
both true = refl
both false = refl

met : (c : Condition) (x : Option Record) → holds c x ≡ true → put_reply c x ≡ reply.Applied
met c x h = rw h refl

module _ (places : List Place) (q : Request) (r : Reply) (before now : List StoreContents) (a : AtCall places q r before now) where
  stays_at : a.left ≡ a.held → Same (database_of places before) (database_of places now)
  stays_at moved k = elim (a.there k) [
    | inl x ↦ x.1 ∙ ap (λ m. record_at m k) moved ∙ sym x.0
    | inr x ↦ x.0
  ]

  -- a write whose conditions hold
  took : (wanted : Database) → reply_to q a.held ≡ reply.Applied → (a.left ≡ after q a.held → Same wanted (database_of places now)) → TookEffect wanted r (database_of places before) (database_of places now)
  took wanted applied moved = elim a.moved [
    | inl x ↦ Done (elim x.1 [ inl e ↦ inl (e ∙ applied) | inr e ↦ inr e ]) (moved x.0)
    | inr x ↦ Undone (elim x.1 [ inl e ↦ inr e | inr e ↦ inl e ]) (stays_at x.0)
  ]

  -- one whose condition fails
  refused : after q a.held ≡ a.held → Same (database_of places before) (database_of places now)
  refused keeps = elim a.moved [ inl x ↦ stays_at (x.0 ∙ keeps) | inr x ↦ stays_at x.0 ]

  -- what it leaves where it moves its store, by what it leaves there and elsewhere
  left_by : (wanted : Database) → ((k : Key) → stored_at places before k ≡ record_at a.held k → record_at (after q a.held) k ≡ wanted k) → ((k : Key) → k.table.ns ≢ (table_asked q).ns → stored_at places before k ≡ wanted k)
      → a.left ≡ after q a.held → Same wanted (database_of places now)
  left_by wanted here apart moved k = elim (a.there k) [
    | inl x ↦ x.1 ∙ ap (λ m. record_at m k) moved ∙ here k x.0
    | inr x ↦ x.0 ∙ apart k x.1
  ]

-- a request that is a write of one key
module _ (places : List Place) (q : Request) (key : Key) (c : Condition) (new : Option Record) (r : Reply) (before now : List StoreContents) (ns : key.table.ns ≡ (table_asked q).ns)
    (replies : (m : Contents) → reply_to q m ≡ put_reply c (record_at m key))
    (afters : (m : Contents) (k : Key) → record_at (after q m) k ≡ (if holds c (record_at m key) && same_key k key then new else record_at m k))
    (a : AtCall places q r before now) (held : holds c (stored_at places before key) ≡ true) where
  there : holds c (record_at a.held key) ≡ true
  there = subst (λ x. holds c x ≡ true) (a.here key ns).0 held

  wrote : Wrote key new r (database_of places before) (database_of places now)
  wrote = took places q r before now a wanted (replies a.held ∙ met c (record_at a.held key) there) (left_by places q r before now a wanted here apart)
    where
      wanted : Database
      wanted = with_record key new (database_of places before)

      here : (k : Key) → stored_at places before k ≡ record_at a.held k → record_at (after q a.held) k ≡ wanted k
      here k e =
          afters a.held k ∙ ap (λ b. if b && same_key k key then new else record_at a.held k) there ∙ ap (λ b. if b then new else record_at a.held k) (both (same_key k key))
          ∙ ap (λ y. if same_key k key then new else y) (sym e)

      apart : (k : Key) → k.table.ns ≢ (table_asked q).ns → stored_at places before k ≡ wanted k
      apart k n = ap (λ b. if b then new else stored_at places before k) (sym (no (same_key_decides k key)))
        where
          no : ((same_key k key ≡ true) × (k ≡ key)) ⊎ ((same_key k key ≡ false) × (k ≢ key)) → same_key k key ≡ false
          no (inl e) = absurd (n (ap (λ (x : Key). x.table.ns) e.1 ∙ ns))
          no (inr f) = f.0

-- a write whose condition fails changes nothing
missed : (places : List Place) (q : Request) (key : Key) (c : Condition) (new : Option Record) (r : Reply) (before now : List StoreContents) → key.table.ns ≡ (table_asked q).ns
    → ((m : Contents) (k : Key) → record_at (after q m) k ≡ (if holds c (record_at m key) && same_key k key then new else record_at m k))
    → AtCall places q r before now → holds c (stored_at places before key) ≡ false → Same (database_of places before) (database_of places now)
missed places q key c new r before now ns afters a fails k = elim (a.there k) [
  | inl x ↦ x.1 ∙ elim a.moved [
    | inl m ↦ ap (λ y. record_at y k) m.0 ∙ afters a.held k ∙ ap (λ b. if b && same_key k key then new else record_at a.held k) (ap (holds c) (sym (a.here key ns).0) ∙ fails)
    | inr m ↦ ap (λ y. record_at y k) m.0
  ] ∙ sym x.0
  | inr x ↦ x.0
]

---- a batch

module _ (places : List Place) (b : List Put) (r : Reply) (before now : List StoreContents) (a : AtCall places (ask.PutAll b) r before now) where
  batch_there : AllByRecursion (λ (p : Put). stored_at places before p.rec.key ≡ record_at a.held p.rec.key) b
  batch_there = by b (all_in_table b a.formed.one)
    where
      by : (ps : List Put) → AllByRecursion (λ (p : Put). p.rec.key.table ≡ table_of_puts b) ps → AllByRecursion (λ (p : Put). stored_at places before p.rec.key ≡ record_at a.held p.rec.key) ps
      by [] all = tt
      by (p ∷ ps) all = ((a.here p.rec.key (ap (λ (t : TableName). t.ns) all.0)).0, by ps all.1)

  -- none fails where each holds
  none_unmet : (ps : List Put) (n : ℕ) → AllByRecursion (λ (p : Put). stored_at places before p.rec.key ≡ record_at a.held p.rec.key) ps → are_met ps (database_of places before) ≡ true → unmet_from n ps a.held ≡ None
  none_unmet [] n all h = refl
  none_unmet (p ∷ ps) n all h =
      ap (λ (x : Bool). if x then unmet_from (n + 1) ps a.held else Some (n, record_at a.held p.rec.key)) (ap (holds p.condition) (sym all.0) ∙ and_first _ (are_met ps (database_of places before)) h)
      ∙ none_unmet ps (n + 1) all.1 (and_second (holds p.condition (stored_at places before p.rec.key)) _ h)

  -- and one does where not each holds
  some_unmet : (ps : List Put) (n : ℕ) → AllByRecursion (λ (p : Put). stored_at places before p.rec.key ≡ record_at a.held p.rec.key) ps → are_met ps (database_of places before) ≡ false → is_none (unmet_from n ps a.held) ≡ false
  some_unmet [] n all h = clash h
  some_unmet (p ∷ ps) n all h = by (holds p.condition (record_at a.held p.rec.key)) (ap (holds p.condition) (sym all.0)) h (some_unmet ps (n + 1) all.1)
    where
      by : (x : Bool) → x ≡ holds p.condition (stored_at places before p.rec.key) → (holds p.condition (stored_at places before p.rec.key) && are_met ps (database_of places before)) ≡ false
          → (are_met ps (database_of places before) ≡ false → is_none (unmet_from (n + 1) ps a.held) ≡ false) → is_none (if x then unmet_from (n + 1) ps a.held else Some (n, record_at a.held p.rec.key)) ≡ false
      by true e g rest = rest (ap (λ (y : Bool). y && are_met ps (database_of places before)) e ∙ g)
      by false e g rest = refl

  batch_called : Called (ask.PutAll b) r (database_of places before) (database_of places now)
  batch_called = (put, λ fails. refused places (ask.PutAll b) r before now a (ap (λ (x : Bool). if x then all_put b a.held else a.held) (some_unmet b 1 batch_there fails)))
    where
      wanted : Database
      wanted = with_batch b (database_of places before)

      put : are_met b (database_of places before) ≡ true → TookEffect wanted r (database_of places before) (database_of places now)
      put holding = took places (ask.PutAll b) r before now a wanted (ap batch_reply none) (left_by places (ask.PutAll b) r before now a wanted here apart)
        where
          none : unmet_from 1 b a.held ≡ None
          none = none_unmet b 1 batch_there holding

          here : (k : Key) → stored_at places before k ≡ record_at a.held k → record_at (after (ask.PutAll b) a.held) k ≡ wanted k
          here k e = after_all b a.held k a.formed.once ∙ ap (λ (o : Option (ℕ × Option Record)). if is_none o then left_at b k (record_at a.held k) else record_at a.held k) none ∙ ap (left_at b k) (sym e)

          apart : (k : Key) → k.table.ns ≢ (table_of_puts b).ns → stored_at places before k ≡ wanted k
          apart k n = sym (left_outside b k (stored_at places before k) (none_apart b k a.formed.one (λ e. n (ap (λ (t : TableName). t.ns) e))))

pub wrote_put : (places : List Place) (store : Name) (rec : Record) (c : Condition) (how : How) (r : Reply) (before now : List StoreContents) → IsCall places store (ask.PutIf rec c) how r before now → holds c (stored_at places before rec.key) ≡ true → Wrote rec.key (Some rec) r (database_of places before) (database_of places now)
wrote_put places store rec c how r before now call held = wrote places (ask.PutIf rec c) rec.key c (Some rec) r before now refl (λ m. refl) (after_put rec c) (at_call places store (ask.PutIf rec c) how r before now call) held

pub wrote_delete : (places : List Place) (store : Name) (key : Key) (c : Condition) (how : How) (r : Reply) (before now : List StoreContents) → IsCall places store (ask.DeleteIf key c) how r before now → holds c (stored_at places before key) ≡ true → Wrote key None r (database_of places before) (database_of places now)
wrote_delete places store key c how r before now call held = wrote places (ask.DeleteIf key c) key c None r before now refl (λ m. refl) (after_delete key c) (at_call places store (ask.DeleteIf key c) how r before now call) held

---- reads

-- what a read leaves
read_same : (places : List Place) (q : Request) (r : Reply) (before now : List StoreContents) → ((m : Contents) → after q m ≡ m) → AtCall places q r before now → Same (database_of places before) (database_of places now)
read_same places q r before now keeps a k = elim (a.there k) [
  | inl x ↦ x.1 ∙ ap (λ m. record_at m k) (elim a.moved [ inl m ↦ m.0 ∙ keeps a.held | inr m ↦ m.0 ]) ∙ sym x.0
  | inr x ↦ x.0
]

pub got : (places : List Place) (store : Name) (key : Key) (how : How) (r : Reply) (before now : List StoreContents) → IsCall places store (ask.Get key) how r before now → Same (database_of places before) (database_of places now) × Got key r (database_of places before)
got places store key how r before now call = (
  read_same places (ask.Get key) r before now (λ m. refl) a,
  elim a.moved [
    | inl x ↦ elim x.1 [ inl e ↦ Found (e ∙ ap (λ y. reply.Found y) (sym (a.here key refl).0)) | inr e ↦ NotFound (inl e) ]
    | inr x ↦ NotFound (elim x.1 [ inl e ↦ inr e | inr e ↦ inl e ])
  ],
)
  where
    a : AtCall places (ask.Get key) r before now
    a = at_call places store (ask.Get key) how r before now call

pub scanned : (places : List Place) (store : Name) (span : Span) (how : How) (r : Reply) (before now : List StoreContents) → IsCall places store (ask.Scan span) how r before now → Same (database_of places before) (database_of places now) × Scanned span r (database_of places before)
scanned places store span how r before now call = (
  read_same places (ask.Scan span) r before now (λ m. refl) a,
  elim a.moved [
    | inl x ↦ elim x.1 [ inl e ↦ Returned (rows_in span a.held) e at (rows_in-are_rows_of span a.held) | inr e ↦ NotReturned (inl e) ]
    | inr x ↦ NotReturned (elim x.1 [ inl e ↦ inr e | inr e ↦ inl e ])
  ],
)
  where
    a : AtCall places (ask.Scan span) r before now
    a = at_call places store (ask.Scan span) how r before now call

    at : (k : Key) → in_span span k ≡ true → record_among (rows_in span a.held) k ≡ database_of places before k
    at k inside = row_there span k a.held inside ∙ sym (a.here k (span_table span k inside)).0

-- Each call on stores is such a call.
pub called : (places : List Place) (store : Name) (q : Request) (how : How) (r : Reply) (before now : List StoreContents) → IsCall places store q how r before now → Called q r (database_of places before) (database_of places now)
called places store (ask.Get key) how r before now c = got places store key how r before now c
called places store (ask.Scan span) how r before now c = scanned places store span how r before now c
called places store (ask.PutIf rec c) how r before now call = (wrote_put places store rec c how r before now call, missed places (ask.PutIf rec c) rec.key c (Some rec) r before now refl (after_put rec c) (at_call places store (ask.PutIf rec c) how r before now call))
called places store (ask.DeleteIf key c) how r before now call = (wrote_delete places store key c how r before now call, missed places (ask.DeleteIf key c) key c None r before now refl (after_delete key c) (at_call places store (ask.DeleteIf key c) how r before now call))
called places store (ask.PutAll b) how r before now call = batch_called places b r before now (at_call places store (ask.PutAll b) how r before now call)
