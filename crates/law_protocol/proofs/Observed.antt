-- What a reply shows was there.
use Rattle.std.proofs.Common.{◌≡◌, ◌≢◌, Bool, true, false, cond, List, [], ◌∷◌, map, filter, option_map, IfSome, Option, Some, None, ◌⊎◌, inl, inr, refl, sym, ap, subst, ◌∙◌}
use Rattle.std.specs.Prelude.{ℕ, ◌+◌, if◌then◌else◌}
use Rattle.std.specs.List.{AllByRecursion}
use Rattle.std.specs.Ordering.{is_eq}
use Rattle.law_protocol.specs.Types.{Condition, Event, Key, Ordering, Pair, Place, Record, Reply, Request, Span, TableName}
use Rattle.sdb_types.specs.declared.record.Put.{Put}
use Rattle.std.specs.declared.cmp.Ordering.TheVariants.{Less, Equal, Greater}
use Rattle.std.specs.FinMap as map_of
use Rattle.std.specs.FinMap.{entries, get-entries}
use Rattle.sdb_types.specs.declared.record.Request.TheVariants as ask
use Rattle.sdb_types.specs.declared.record.Reply.TheVariants as reply
use Rattle.sdb_types.specs.Order.{key_cmp, table_cmp, same_key}
use Rattle.sdb_types.specs.Contents.{Contents, record_at, record_of, in_span, is_partition, rows_among, rows_in, holds, put_reply, reply_to, after, record_among, batch_reply, is_met_by, table_of_puts, unmet_from}
use Rattle.sdb_types.proofs.Public.{and_first, record_at-key, same_key_decides, table_exact}
use Rattle.sdb_model.specs.declared.event.Event.TheVariants as event
use Rattle.sdb_model.specs.Events.{StoreContents, Effect, stored_at, table_asked}
use Rattle.law_protocol.specs.Lawful.{InReply, InEvent}
use Rattle.law_protocol.proofs.Calls.{all_in_table}
use Rattle.law_protocol.proofs.Effects.{AtCall, at_call}

---- rows of a scan

equal_is : (o : Ordering) → is_eq o ≡ true → o ≡ Equal
equal_is Less h = absurd (cc)
equal_is Equal h = refl
equal_is Greater h = absurd (cc)

pub span_table : (span : Span) (k : Key) → in_span span k ≡ true → k.table.ns ≡ span.table.ns
span_table span k h = ap (λ t. t.ns) (sym (table_exact span.table k.table (equal_is (table_cmp span.table k.table) (and_first (is_eq (table_cmp span.table k.table)) (is_partition span.partition k) h))))

row_found : (span : Span) (k : Key) (es : List (Key × List Pair)) → in_span span k ≡ true → record_among (rows_among span es) k ≡ option_map (λ columns. record_of (k, columns)) (map_of.find key_cmp k es)
unfolding same_key
row_found span k [] h = refl
row_found span k (e ∷ es) h = by (row_found span k es h) (same_key_decides k e.0) (in_span span e.0) refl
  where
    by : record_among (rows_among span es) k ≡ option_map (λ columns. record_of (k, columns)) (map_of.find key_cmp k es)
        → ((same_key k e.0 ≡ true) × (k ≡ e.0)) ⊎ ((same_key k e.0 ≡ false) × (k ≢ e.0))
        → (b : Bool) → in_span span e.0 ≡ b
        → record_among (rows_among span (e ∷ es)) k ≡ option_map (λ columns. record_of (k, columns)) (map_of.find key_cmp k (e ∷ es))
    by rest (inl x) true f = rw f (rw x.0 (ap (λ z. Some (record_of (z, e.1))) (sym x.1)))
    by rest (inl x) false f = absurd (clash (sym f ∙ ap (in_span span) (sym x.1) ∙ h))
      where
        clash : false ≡ true → ⊥
        clash z = cc
    by rest (inr x) true f = rw f (rw x.0 rest)
    by rest (inr x) false f = rw f (rw x.0 rest)

pub row_there : (span : Span) (k : Key) (m : Contents) → in_span span k ≡ true → record_among (rows_in span m) k ≡ record_at m k
row_there span k m h = row_found span k (entries m) h ∙ ap (option_map (λ columns. record_of (k, columns))) (sym (get-entries m k))

row_within : (span : Span) (k : Key) (x : Record) (es : List (Key × List Pair)) → record_among (rows_among span es) k ≡ Some x → in_span span x.key ≡ true
row_within span k x [] e = absurd (cc)
row_within span k x (d ∷ es) e = by (row_within span k x es) (in_span span d.0) refl (same_key k d.0) refl e
  where
    some_is : (a b : Record) → Some a ≡ Some b → a ≡ b
    some_is a b e = cc

    by : (record_among (rows_among span es) k ≡ Some x → in_span span x.key ≡ true) → (b : Bool) → in_span span d.0 ≡ b → (c : Bool) → same_key k d.0 ≡ c
        → record_among (map record_of (cond b (d ∷ filter (λ f. in_span span f.0) es) (filter (λ f. in_span span f.0) es))) k ≡ Some x → in_span span x.key ≡ true
    by rest true f true g e = subst (λ (z : Record). in_span span z.key ≡ true) (some_is (record_of d) x (sym (rw g refl) ∙ e)) f
    by rest true f false g e = rest (sym (rw g refl) ∙ e)
    by rest false f c g e = rest e

---- replies

found_stood : (places : List Place) (q : Request) (r : Reply) (before now : List StoreContents) (a : AtCall places q r before now) (key : Key) (x : Record) → key.table.ns ≡ (table_asked q).ns → record_at a.held key ≡ Some x → stored_at places before x.key ≡ Some x
found_stood places q r before now a key x ns e = ap (stored_at places before) same ∙ (a.here key ns).0 ∙ e
  where
    own : (o : Option Record) → record_at a.held key ≡ o → IfSome o (λ y. y.key ≡ key) → o ≡ Some x → x.key ≡ key
    own None f h g = absurd (cc)
    own (Some y) f h g = ap (λ (z : Record). z.key) (sym (some_is y x g)) ∙ h
      where
        some_is : (a b : Record) → Some a ≡ Some b → a ≡ b
        some_is a b e = cc

    same : x.key ≡ key
    same = own (record_at a.held key) refl (record_at-key a.held key) e

in_found : (o : Option Record) (x : Record) → InReply (reply.Found o) x → o ≡ Some x
in_found None x h = absurd h
in_found (Some y) x h = ap (λ z. Some z) (sym h)

in_unmet : (c : Condition) (o : Option Record) (x : Record) → InReply (put_reply c o) x → o ≡ Some x
in_unmet c o x h = by (holds c o) h
  where
    unmet : (o : Option Record) → InReply (reply.NotMet o) x → o ≡ Some x
    unmet None h = absurd h
    unmet (Some y) h = ap (λ z. Some z) (sym h)

    by : (b : Bool) → InReply (if b then reply.Applied else reply.NotMet o) x → o ≡ Some x
    by true h = absurd h
    by false h = unmet o h

-- what a refused batch shows is what is at the key of one of its puts
named_put : (b : List Put) (n : ℕ) (m : Contents) (t : TableName) (f : ℕ × Option Record) → AllByRecursion (λ (p : Put). p.rec.key.table ≡ t) b → unmet_from n b m ≡ Some f → (p : Put) × (p.rec.key.table ≡ t) × (record_at m p.rec.key ≡ f.1)
named_put [] n m t f all h = absurd (cc)
named_put (p ∷ ps) n m t f all h = by (is_met_by m p) h (named_put ps (n + 1) m t f all.1)
  where
    same : (a b : ℕ × Option Record) → Some a ≡ Some b → a ≡ b
    same a b e = cc

    by : (x : Bool) → (if x then unmet_from (n + 1) ps m else Some (n, record_at m p.rec.key)) ≡ Some f → (unmet_from (n + 1) ps m ≡ Some f → (q : Put) × (q.rec.key.table ≡ t) × (record_at m q.rec.key ≡ f.1)) → (q : Put) × (q.rec.key.table ≡ t) × (record_at m q.rec.key ≡ f.1)
    by true u rest = rest u
    by false u rest = (p, all.0, ap (λ (g : ℕ × Option Record). g.1) (same (n, record_at m p.rec.key) f u))

batch_stood : (places : List Place) (b : List Put) (r : Reply) (before now : List StoreContents) (a : AtCall places (ask.PutAll b) r before now) (x : Record) → InReply (reply_to (ask.PutAll b) a.held) x → stored_at places before x.key ≡ Some x
batch_stood places b r before now a x h = by (unmet_from 1 b a.held) refl h
  where
    shown : (f : ℕ × Option Record) → InReply (reply.NotAll f.0 f.1) x → f.1 ≡ Some x
    shown (k, None) h = absurd h
    shown (k, Some y) h = ap (λ z. Some z) (sym h)

    by : (o : Option (ℕ × Option Record)) → unmet_from 1 b a.held ≡ o → InReply (batch_reply o) x → stored_at places before x.key ≡ Some x
    by None e h = absurd h
    by (Some f) e h =
        let p = named_put b 1 a.held (table_of_puts b) f (all_in_table b a.formed.one) e in
        found_stood places (ask.PutAll b) r before now a p.0.rec.key x (ap (λ (t : TableName). t.ns) p.1) (p.2 ∙ shown f h)

observed_in : (places : List Place) (q : Request) (r : Reply) (before now : List StoreContents) (a : AtCall places q r before now) (x : Record) → InReply (reply_to q a.held) x → stored_at places before x.key ≡ Some x
observed_in places (ask.Get key) r before now a x h = found_stood places (ask.Get key) r before now a key x refl (in_found (record_at a.held key) x h)
observed_in places (ask.Scan span) r before now a x h =
    let within = row_within span x.key x (entries a.held) h in
    (a.here x.key (span_table span x.key within)).0 ∙ sym (row_there span x.key a.held within) ∙ h
observed_in places (ask.PutIf rec c) r before now a x h = found_stood places (ask.PutIf rec c) r before now a rec.key x refl (in_unmet c (record_at a.held rec.key) x h)
observed_in places (ask.DeleteIf key c) r before now a x h = found_stood places (ask.DeleteIf key c) r before now a key x refl (in_unmet c (record_at a.held key) x h)
observed_in places (ask.PutAll b) r before now a x h = batch_stood places b r before now a x h

shown_call : (places : List Place) (q : Request) (r : Reply) (before now : List StoreContents) → AtCall places q r before now → (x : Record) → InReply r x → stored_at places before x.key ≡ Some x
shown_call places q r before now a x h = elim a.moved [
  | inl m ↦ elim m.1 [
    | inl e ↦ observed_in places q r before now a x (subst (λ y. InReply y x) e h)
    | inr e ↦ absurd (subst (λ y. InReply y x) e h)
  ]
  | inr m ↦ elim m.1 [
    | inl e ↦ absurd (subst (λ y. InReply y x) e h)
    | inr e ↦ absurd (subst (λ y. InReply y x) e h)
  ]
]

pub stood : (places : List Place) (e : Event) (before now : List StoreContents) (x : Record) → Effect places e before now → InEvent e x → stored_at places before x.key ≡ Some x
stood places (event.Call client store q how r answer) before now x c h = shown_call places q r before now (at_call places store q how r before now c) x h
stood places (event.Take client text answer) before now x c h = absurd h
stood places (event.Stop client) before now x c h = absurd h
stood places (event.Clock moment) before now x c h = absurd h
stood places (event.Idle client) before now x c h = absurd h
stood places (event.Alter table column kind altered) before now x c h = absurd h
stood places (event.Land number store q how r) before now x c h = absurd h

---- reads

pub get_reply : (places : List Place) (key : Key) (r : Reply) (found : Option Record) (before now : List StoreContents) → AtCall places (ask.Get key) r before now → r ≡ reply.Found found → found ≡ stored_at places before key
get_reply places key r found before now a e = elim a.moved [
  | inl m ↦ elim m.1 [
    | inl x ↦ some (sym e ∙ x) ∙ sym (a.here key refl).0
    | inr x ↦ absurd (fault (sym e ∙ x))
  ]
  | inr m ↦ elim m.1 [ inl x ↦ absurd (wanting (sym e ∙ x)) | inr x ↦ absurd (fault (sym e ∙ x)) ]
]
  where
    some : reply.Found found ≡ reply.Found (record_at a.held key) → found ≡ record_at a.held key
    some x = cc

    fault : reply.Found found ≡ reply.Fault → ⊥
    fault x = cc

    wanting : reply.Found found ≡ reply.NoMemory → ⊥
    wanting x = cc

pub scan_reply : {places : List Place} (span : Span) (r : Reply) (rows : List Record) {before now : List StoreContents} → AtCall places (ask.Scan span) r before now → r ≡ reply.Rows rows → (k : Key) → in_span span k ≡ true → record_among rows k ≡ stored_at places before k
scan_reply span r rows a e k h = elim a.moved [
  | inl m ↦ elim m.1 [
    | inl x ↦ ap (λ z. record_among z k) (some (sym e ∙ x)) ∙ row_there span k a.held h ∙ sym (a.here k (span_table span k h)).0
    | inr x ↦ absurd (fault (sym e ∙ x))
  ]
  | inr m ↦ elim m.1 [ inl x ↦ absurd (wanting (sym e ∙ x)) | inr x ↦ absurd (fault (sym e ∙ x)) ]
]
  where
    some : reply.Rows rows ≡ reply.Rows (rows_in span a.held) → rows ≡ rows_in span a.held
    some x = cc

    fault : reply.Rows rows ≡ reply.Fault → ⊥
    fault x = cc

    wanting : reply.Rows rows ≡ reply.NoMemory → ⊥
    wanting x = cc

-- a read leaves everything as it was
pub read_leaves : (places : List Place) (q : Request) (r : Reply) (before now : List StoreContents) → AtCall places q r before now → ((m : Contents) → after q m ≡ m) → (k : Key) → stored_at places now k ≡ stored_at places before k
read_leaves places q r before now a same k = elim (a.there k) [
  | inl x ↦ x.1 ∙ ap (λ m. record_at m k) (left a.moved) ∙ sym x.0
  | inr x ↦ x.0
]
  where
    left : ((a.left ≡ after q a.held) × ((r ≡ reply_to q a.held) ⊎ (r ≡ reply.Fault))) ⊎ ((a.left ≡ a.held) × ((r ≡ reply.NoMemory) ⊎ (r ≡ reply.Fault))) → a.left ≡ a.held
    left (inl m) = m.0 ∙ same a.held
    left (inr m) = m.0
