-- One call on the store of its table, and on the one store.
use Rattle.std.proofs.Common.{◌≡◌, ◌≢◌, ℕ, ◌+◌, Bool, true, false, List, [], ◌∷◌, Option, Some, None, inl, inr, refl, sym, ap, ◌∙◌, option_map}
use Rattle.std.specs.Prelude.{◌&&◌, ◌||◌, if◌then◌else◌, is_none}
use Rattle.std.specs.List.{AllByRecursion, list_all}
use Rattle.std.specs.FinMap.{get}
use Rattle.law_protocol.specs.Types.{How, Key, Place, Record, Reply, Request, Span, Table, TableName}
use Rattle.sdb_types.specs.declared.record.Request.TheVariants as ask
use Rattle.sdb_types.specs.declared.record.Reply.TheVariants as reply
use Rattle.sdb_types.specs.Contents.{Contents, IsWellFormed, record_at, record_of, in_span, is_partition, holds, put_reply, batch_reply, put_keys, table_of_puts, unmet_from, all_put, left_at, reply_to, after}
use Rattle.sdb_types.specs.declared.record.Put.{Put}
use Rattle.sdb_types.specs.Exact.{equal_of}
use Rattle.sdb_types.specs.Order.{table_cmp, same_key, has_key, are_distinct, in_one_partition, same_partition}
use Rattle.sdb_types.proofs.Public.{all_put_at, and_false, and_first, and_second, left_outside, same_key_decides, same_rows, table_exact}
use Rattle.sdb_model.specs.declared.event.How.TheVariants.{Seen}
use Rattle.sdb_model.specs.Rows.{Name}
use Rattle.sdb_model.specs.Events.{StoreContents, store_of, table_asked, IsCall}
use Rattle.law_protocol.proofs.Effects.{after_put, after_delete, stands_in_store, stands_anywhere}
use Rattle.law_protocol.specs.Spread.{CallOnMany, HoldAs}
use Rattle.sdb_model.specs.Tables.{is_table_of_run}

---- batches

-- the keys of a batch are of its table
all_beside : (k : Key) (ks : List Put) → list_all (same_partition k) (put_keys ks) ≡ true → AllByRecursion (λ (p : Put). p.rec.key.table ≡ k.table) ks
all_beside k [] h = tt
all_beside k (p ∷ ps) h = (
  sym (table_exact k.table p.rec.key.table (equal_of (table_cmp k.table p.rec.key.table) (and_first _ _ (and_first (same_partition k p.rec.key) _ h)))),
  all_beside k ps (and_second (same_partition k p.rec.key) _ h),
)

pub all_in_table : (b : List Put) → in_one_partition (put_keys b) ≡ true → AllByRecursion (λ (p : Put). p.rec.key.table ≡ table_of_puts b) b
all_in_table [] h = tt
all_in_table (p ∷ ps) h = (refl, all_beside p.rec.key ps h)

-- a batch is told alike where what is at its keys is alike
pub unmet_same : (b : List Put) (n : ℕ) (h m : Contents) → AllByRecursion (λ (p : Put). record_at h p.rec.key ≡ record_at m p.rec.key) b → unmet_from n b h ≡ unmet_from n b m
unmet_same [] n h m all = refl
unmet_same (p ∷ ps) n h m all = λ i. if holds p.condition (all.0 i) then unmet_same ps (n + 1) h m all.1 i else Some (n, all.0 i)

-- what a batch leaves at a key
pub after_all : (b : List Put) (m : Contents) (k : Key) → are_distinct (put_keys b) ≡ true → record_at (after (ask.PutAll b) m) k ≡ (if is_none (unmet_from 1 b m) then left_at b k (record_at m k) else record_at m k)
after_all b m k once = by (is_none (unmet_from 1 b m))
  where
    by : (x : Bool) → record_at (if x then all_put b m else m) k ≡ (if x then left_at b k (record_at m k) else record_at m k)
    by true = all_put_at b m k once
    by false = refl

-- a key of another table is not among those of a batch
pub none_apart : (b : List Put) (k : Key) → in_one_partition (put_keys b) ≡ true → (k.table ≢ table_of_puts b) → has_key (put_keys b) k ≡ false
none_apart b k one n = none b (all_in_table b one)
  where
    apart : (q : Key) → q.table ≡ table_of_puts b → same_key k q ≡ false
    apart q e = elim (same_key_decides k q) [ inl s ↦ absurd (n (ap (λ (x : Key). x.table) s.1 ∙ e)) | inr f ↦ f.0 ]

    neither : (x y : Bool) → x ≡ false → y ≡ false → (x || y) ≡ false
    neither true y h g = h
    neither false y h g = g

    none : (ps : List Put) → AllByRecursion (λ (p : Put). p.rec.key.table ≡ table_of_puts b) ps → has_key (put_keys ps) k ≡ false
    none [] all = refl
    none (p ∷ ps) all = neither (has_key (put_keys ps) k) (same_key k p.rec.key) (none ps all.1) (apart p.rec.key all.0)

---- contents that agree on a table

columns_at : (m : Contents) (k : Key) → option_map (λ (r : Record). r.columns) (record_at m k) ≡ get m k
columns_at m k = elim (get m k) as (λ o. option_map (λ (r : Record). r.columns) (option_map (λ columns. record_of (k, columns)) o) ≡ o) [ None ↦ refl | Some c ↦ refl ]

get_same : (h m : Contents) (k : Key) → record_at h k ≡ record_at m k → get h k ≡ get m k
get_same h m k e = sym (columns_at h k) ∙ ap (option_map (λ (r : Record). r.columns)) e ∙ columns_at m k

in_table : (span : Span) (k : Key) → in_span span k ≡ true → k.table ≡ span.table
in_table span k e = sym (table_exact span.table k.table (equal_of (table_cmp span.table k.table) (and_first _ (is_partition span.partition k) e)))

-- two contents have the same records of a table
abbrev pub SameOf : Contents → Contents → TableName → Type 0
SameOf h m table = (k : Key) → k.table ≡ table → record_at h k ≡ record_at m k

same_at : (b : List Put) (h m : Contents) → in_one_partition (put_keys b) ≡ true → SameOf h m (table_of_puts b) → AllByRecursion (λ (p : Put). record_at h p.rec.key ≡ record_at m p.rec.key) b
same_at b h m one s = by b (all_in_table b one)
  where
    by : (ps : List Put) → AllByRecursion (λ (p : Put). p.rec.key.table ≡ table_of_puts b) ps → AllByRecursion (λ (p : Put). record_at h p.rec.key ≡ record_at m p.rec.key) ps
    by [] all = tt
    by (p ∷ ps) all = (s p.rec.key all.0, by ps all.1)

pub same_reply : (q : Request) (h m : Contents) → IsWellFormed q → SameOf h m (table_asked q) → reply_to q h ≡ reply_to q m
same_reply (ask.Get key) h m formed s = ap reply.Found (s key refl)
same_reply (ask.Scan span) h m formed s = ap reply.Rows (same_rows span h m (λ k e. get_same h m k (s k (in_table span k e))))
same_reply (ask.PutIf r condition) h m formed s = ap (put_reply condition) (s r.key refl)
same_reply (ask.DeleteIf key condition) h m formed s = ap (put_reply condition) (s key refl)
same_reply (ask.PutAll b) h m formed s = ap batch_reply (unmet_same b 1 h m (same_at b h m formed.one s))

-- a call leaves the same of what was the same
pub same_after : (q : Request) (h m : Contents) → IsWellFormed q → SameOf h m (table_asked q) → (k : Key) → record_at h k ≡ record_at m k → record_at (after q h) k ≡ record_at (after q m) k
same_after (ask.Get key) h m formed s k e = e
same_after (ask.Scan span) h m formed s k e = e
same_after (ask.PutIf r condition) h m formed s k e =
    after_put r condition h k
    ∙ ap (λ (o : Option Record). if holds condition o && same_key k r.key then Some r else record_at h k) (s r.key refl)
    ∙ ap (λ (o : Option Record). if holds condition (record_at m r.key) && same_key k r.key then Some r else o) e
    ∙ sym (after_put r condition m k)
same_after (ask.DeleteIf key condition) h m formed s k e =
    after_delete key condition h k
    ∙ ap (λ (o : Option Record). if holds condition o && same_key k key then None else record_at h k) (s key refl)
    ∙ ap (λ (o : Option Record). if holds condition (record_at m key) && same_key k key then None else o) e
    ∙ sym (after_delete key condition m k)
same_after (ask.PutAll b) h m formed s k e =
    after_all b h k formed.once
    ∙ ap (λ (o : Option (ℕ × Option Record)). if is_none o then left_at b k (record_at h k) else record_at h k) (unmet_same b 1 h m (same_at b h m formed.one s))
    ∙ ap (λ (o : Option Record). if is_none (unmet_from 1 b m) then left_at b k o else o) e
    ∙ sym (after_all b m k formed.once)

key_apart : (k other : Key) → k.table ≢ other.table → same_key k other ≡ false
key_apart k other n = elim (same_key_decides k other) [ inl e ↦ absurd (n (ap (λ (x : Key). x.table) e.1)) | inr f ↦ f.0 ]

-- and leaves the records of other tables
pub left_elsewhere : (q : Request) (m : Contents) (k : Key) → IsWellFormed q → k.table ≢ table_asked q → record_at (after q m) k ≡ record_at m k
left_elsewhere (ask.Get key) m k formed n = refl
left_elsewhere (ask.Scan span) m k formed n = refl
left_elsewhere (ask.PutIf r condition) m k formed n =
    after_put r condition m k
    ∙ ap (λ (b : Bool). if holds condition (record_at m r.key) && b then Some r else record_at m k) (key_apart k r.key n)
    ∙ ap (λ (b : Bool). if b then Some r else record_at m k) (and_false (holds condition (record_at m r.key)))
left_elsewhere (ask.DeleteIf key condition) m k formed n =
    after_delete key condition m k
    ∙ ap (λ (b : Bool). if holds condition (record_at m key) && b then None else record_at m k) (key_apart k key n)
    ∙ ap (λ (b : Bool). if b then None else record_at m k) (and_false (holds condition (record_at m key)))
left_elsewhere (ask.PutAll b) m k formed n =
    after_all b m k formed.once
    ∙ ap (λ (o : Option Record). if is_none (unmet_from 1 b m) then o else record_at m k) (left_outside b k (record_at m k) (none_apart b k formed.one n))
    ∙ either (is_none (unmet_from 1 b m)) (record_at m k)
  where
    either : (b : Bool) (o : Option Record) → (if b then o else o) ≡ o
    either true o = refl
    either false o = refl

-- and those of other namespaces
pub left_apart : (q : Request) (m : Contents) (k : Key) → IsWellFormed q → k.table.ns ≢ (table_asked q).ns → record_at (after q m) k ≡ record_at m k
left_apart q m k formed n = left_elsewhere q m k formed (λ e. n (ap (λ (t : TableName). t.ns) e))

---- one call

pub about_key : (catalog : List Table) (table : TableName) (k : Key) → k.table ≡ table → is_table_of_run catalog table ≡ true → is_table_of_run catalog k.table ≡ true
about_key catalog table k e t = ap (is_table_of_run catalog) e ∙ t

-- what becomes of the stores, where their store's contents changed as those of the one store
pub held_as : (catalog : List Table) (places : List Place) (store : Name) (q : Request) (how : How) (r : Reply) (before now : List StoreContents) (held left : Contents) → (c : IsCall places store q how r before now) → HoldAs catalog places before held
    → ((k : Key) → record_at c.held k ≡ record_at held k → record_at c.left k ≡ record_at left k)
    → ((k : Key) → k.table.ns ≢ (table_asked q).ns → record_at left k ≡ record_at held k)
    → HoldAs catalog places now left
held_as catalog places store q how r before now held left c h here there = record {
  at = λ k t. elim (stands_anywhere places store q how r before now c k) [
    | inl s ↦ s.1 ∙ here k (sym s.0 ∙ h.at k t)
    | inr n ↦ n.0 ∙ h.at k t ∙ sym (there k n.1)
  ];
}

pub called : (c : CallOnMany) → (c.reply ≡ reply_to c.request c.held) × HoldAs c.catalog c.places c.now (after c.request c.held)
called c = elim c.call.performed [
  | inl p ↦ (
    sym (ap (λ (x : Reply × Contents). x.0) p) ∙ same_reply c.request c.call.held c.held c.call.formed s,
    held_as c.catalog c.places c.store c.request Seen c.reply c.before c.now c.held (after c.request c.held) c.call c.same (λ k same. ap (λ (x : Reply × Contents). record_at x.1 k) (sym p) ∙ same_after c.request c.call.held c.held c.call.formed s k same) (λ k n. left_apart c.request c.held k c.call.formed n),
  )
  | inr w ↦ absurd (c.memory w.0)
]
  where
    s : SameOf c.call.held c.held (table_asked c.request)
    s k e = sym (stands_in_store c.places c.store c.request Seen c.reply c.before c.now c.call k (c.call.placed ∙ ap (λ (t : TableName). store_of c.places c.before t.ns) (sym e))).0 ∙ c.same.at k (about_key c.catalog (table_asked c.request) k e c.of_table)
