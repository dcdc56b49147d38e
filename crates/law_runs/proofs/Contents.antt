-- What a store holds and answers has no LF, where what it held and what it is asked for has none.
use Rattle.std.proofs.Common.{◌≡◌, ℕ, ◌+◌, Bool, true, false, cond, List, [], ◌∷◌, map, filter, Option, Some, None, inl, inr, refl, sym, ap, subst, ◌∙◌}
use Rattle.std.specs.Prelude.{◌&&◌, if◌then◌else◌, is_none}
use Rattle.std.specs.List.{AllByRecursion}
use Rattle.std.specs.Option.{option_map}
use Rattle.std.specs.Ordering.{eq_by_cmp, is_lt}
use Rattle.std.specs.Cmp.{tied_itself}
use Rattle.std.specs.FinMap.{FinMap, empty, entries, entries_sorted, find, get, get-empty, get-entries, insert, is_sorted}
use Rattle.std.specs.FinMap.Entries.{below_all}
use Rattle.sdb_types.specs.declared.record.Put.{Put}
use Rattle.sdb_types.specs.Contents.{Contents, after, all_put, batch_reply, holds, in_span, is_met_by, put_reply, record_at, record_of, reply_to, rows_among, unmet_from}
use Rattle.sdb_types.specs.Order.{key_cmp, same_key}
use Rattle.law_runs.specs.Types.{Condition, How, Key, Pair, Record, Reply, Request, Span}
use Rattle.sdb_types.specs.declared.record.Reply.TheVariants as reply
use Rattle.sdb_types.specs.declared.record.Request.TheVariants as ask
use Rattle.sdb_types.specs.Exact.{equal_of}
use Rattle.sdb_types.proofs.Public.{and_parts, by_test, key_exact, key_total, less_of, none_some, record_at-insert, truth}
use Rattle.sdb_model.specs.declared.event.How.TheVariants.{Broken, Delayed, Discarded, Lost, Seen}
use Rattle.sdb_model.specs.Events.{IsPerformed}
use Rattle.sdb_model.specs.Exec.{Tables, all_rows, row_of_entry}
use Rattle.law_protocol.proofs.Public.{after_delete, after_put}
use Rattle.law_runs.proofs.Lists.{is_so}
use Rattle.law_runs.proofs.Clear.{ColumnsClear, FoundClear, KeyClear, RecordClear, RecordsClear, ReplyClear, RequestClear}
use Rattle.law_runs.proofs.PlainStatements.{ImagesClear}

---- entries by their keys

-- a key below those of all entries has none
none_below : {X : Type 0} (q : Key) (es : List (Key × X)) → below_all key_cmp q es ≡ true → find key_cmp q es ≡ None
none_below q [] h = refl
none_below q (e ∷ es) h =
    let parts = and_parts (is_lt (key_cmp q e.0)) (below_all key_cmp q es) h in
    rw (less_of (key_cmp q e.0) parts.0, none_below q es parts.1) refl

each_found : {X : Type 0} (P : Key → X → Type 0) (es : List (Key × X)) → is_sorted key_cmp es ≡ true → ((q : Key) (x : X) → find key_cmp q es ≡ Some x → P q x) → AllByRecursion (λ e. P e.0 e.1) es
each_found P [] h each = tt
each_found {X} P (e ∷ es) h each =
    let parts = and_parts (below_all key_cmp e.0 es) (is_sorted key_cmp es) h in
    (each e.0 e.1 (rw (tied_itself key_total e.0) refl), each_found P es parts.1 (λ q x found. each q x (later q x parts.0 found)))
  where
    later : (q : Key) (x : X) → below_all key_cmp e.0 es ≡ true → find key_cmp q es ≡ Some x → find key_cmp q (e ∷ es) ≡ Some x
    later q x below found =
        by_test (eq_by_cmp key_cmp q e.0)
        (λ t. none_some x (sym (ap (λ (k : Key). find key_cmp k es) (key_exact q e.0 (equal_of (key_cmp q e.0) t)) ∙ none_below e.0 es below) ∙ found))
        (λ t. ap (λ (b : Bool). cond b (Some e.1) (find key_cmp q es)) t ∙ found)

-- what is so of what a map has at each key is so of each entry
pub keyed_all : {X : Type 0} (P : Key → X → Type 0) (m : FinMap key_cmp X) → ((q : Key) (x : X) → get m q ≡ Some x → P q x) → AllByRecursion (λ e. P e.0 e.1) (entries m)
keyed_all P m each = each_found P (entries m) (truth _ (entries_sorted m)) (λ q x found. each q x (get-entries m q ∙ found))

---- tables and stores

-- each row, by its key
abbrev pub TablesClear : Tables → Type 0
TablesClear d = (q : Key) (row : List Pair) → get d q ≡ Some row → KeyClear q × ColumnsClear row

-- each record, by its key
abbrev pub HeldClear : Contents → Type 0
HeldClear m = (q : Key) (r : Record) → record_at m q ≡ Some r → RecordClear r

pub rows_clear : (d : Tables) → TablesClear d → ImagesClear (all_rows d)
rows_clear d h = as_images (entries d) (keyed_all (λ q cs. KeyClear q × ColumnsClear cs) d h)
  where
    as_images : (es : List (Key × List Pair)) → AllByRecursion (λ e. KeyClear e.0 × ColumnsClear e.1) es → ImagesClear (map row_of_entry es)
    as_images [] h = tt
    as_images (e ∷ es) h = (record { key = h.0.0; columns = h.0.1 }, as_images es h.1)

tables_held : (m : Contents) → HeldClear m → TablesClear m
tables_held m h q row e =
    let r : RecordClear (record_of (q, row)) = h q (record_of (q, row)) (ap (λ (o : Option (List Pair)). option_map (λ columns. record_of (q, columns)) o) e) in
    (r.key, r.columns)

among_clear : (span : Span) (es : List (Key × List Pair)) → ImagesClear (map row_of_entry es) → RecordsClear (rows_among span es)
among_clear span [] h = tt
among_clear span (e ∷ es) h =
    let rest = among_clear span es h.1 in
    elim (in_span span e.0) as (λ b. RecordsClear (map record_of (cond b (e ∷ filter (λ f. in_span span f.0) es) (filter (λ f. in_span span f.0) es)))) [
      | true ↦ (record { key = h.0.key; columns = h.0.columns }, rest)
      | false ↦ rest
    ]

at_clear : (m : Contents) (key : Key) → HeldClear m → FoundClear (record_at m key)
at_clear m key h = by (record_at m key) refl
  where
    by : (o : Option Record) → record_at m key ≡ o → FoundClear o
    by None e = tt
    by (Some r) e = h key r e

put_reply_clear : (c : Condition) (found : Option Record) → FoundClear found → ReplyClear (put_reply c found)
put_reply_clear c found h = elim (holds c found) as (λ b. ReplyClear (cond b reply.Applied (reply.NotMet found))) [ true ↦ tt | false ↦ h ]

batch_reply_clear : (b : List Put) (n : ℕ) (m : Contents) → HeldClear m → ReplyClear (batch_reply (unmet_from n b m))
batch_reply_clear [] n m h = tt
batch_reply_clear (p ∷ ps) n m h =
    elim (is_met_by m p) as (λ (x : Bool). ReplyClear (batch_reply (if x then unmet_from (n + 1) ps m else Some (n, record_at m p.rec.key)))) [ true ↦ batch_reply_clear ps (n + 1) m h | false ↦ at_clear m p.rec.key h ]

reply_clear : (q : Request) (m : Contents) → HeldClear m → ReplyClear (reply_to q m)
reply_clear (ask.Get key) m h = at_clear m key h
reply_clear (ask.Scan span) m h = among_clear span (entries m) (rows_clear m (tables_held m h))
reply_clear (ask.PutIf r c) m h = put_reply_clear c (record_at m r.key) (at_clear m r.key h)
reply_clear (ask.DeleteIf key c) m h = put_reply_clear c (record_at m key) (at_clear m key h)
reply_clear (ask.PutAll b) m h = batch_reply_clear b 1 m h

puts_clear : (b : List Put) (m : Contents) → AllByRecursion (λ (p : Put). RecordClear p.rec) b → HeldClear m → HeldClear (all_put b m)
puts_clear [] m all h = h
puts_clear (p ∷ ps) m all h = puts_clear ps (insert m p.rec.key p.rec.columns) all.1 (λ q x e. by q x (same_key q p.rec.key) (sym (record_at-insert m p.rec q) ∙ e))
  where
    by : (q : Key) (x : Record) (b : Bool) → (if b then Some p.rec else record_at m q) ≡ Some x → RecordClear x
    by q x true e = is_so RecordClear p.rec x all.0 e
    by q x false e = h q x e

after_clear : (q : Request) (m : Contents) → RequestClear q → HeldClear m → HeldClear (after q m)
after_clear (ask.Get key) m k h = h
after_clear (ask.Scan span) m k h = h
after_clear (ask.PutIf r c) m k h = λ q x e. by q x (holds c (record_at m r.key) && same_key q r.key) (sym (after_put r c m q) ∙ e)
  where
    by : (q : Key) (x : Record) (b : Bool) → cond b (Some r) (record_at m q) ≡ Some x → RecordClear x
    by q x true e = is_so RecordClear r x k e
    by q x false e = h q x e
after_clear (ask.DeleteIf key c) m k h = λ q x e. by q x (holds c (record_at m key) && same_key q key) (sym (after_delete key c m q) ∙ e)
  where
    by : (q : Key) (x : Record) (b : Bool) → cond b None (record_at m q) ≡ Some x → RecordClear x
    by q x true e = none_some x e
    by q x false e = h q x e
after_clear (ask.PutAll b) m k h = elim (is_none (unmet_from 1 b m)) as (λ (x : Bool). HeldClear (if x then all_put b m else m)) [ true ↦ puts_clear b m k h | false ↦ h ]

-- What a call is answered and leaves.
pub record CallClear (r : Reply) (now : Contents) : Type 0 where
  pub reply : ReplyClear r
  pub left : HeldClear now

pub performed_clear : (q : Request) (how : How) (r : Reply) (before now : Contents) → RequestClear q → HeldClear before → IsPerformed q how r before now → CallClear r now
performed_clear q Seen r before now k h (inl e) = record {
  reply = subst ReplyClear (ap (λ (x : Reply × Contents). x.0) e) (reply_clear q before h);
  left = subst HeldClear (ap (λ (x : Reply × Contents). x.1) e) (after_clear q before k h);
}
performed_clear q Seen r before now k h (inr w) = record { reply = subst ReplyClear (sym w.0) tt; left = subst HeldClear (sym w.1) h }
performed_clear q Lost r before now k h p = record { reply = subst ReplyClear (sym p.0) tt; left = subst HeldClear (sym p.1) (after_clear q before k h) }
performed_clear q Discarded r before now k h p = record { reply = subst ReplyClear (sym p.0) tt; left = subst HeldClear (sym p.1) h }
performed_clear q Delayed r before now k h p = record { reply = subst ReplyClear (sym p.0) tt; left = subst HeldClear (sym p.1) h }
performed_clear q Broken r before now k h p = record {
  reply = subst ReplyClear (sym p.0) tt;
  left = elim p.1 [ inl e ↦ subst HeldClear (sym e) h | inr e ↦ subst HeldClear (sym e) (after_clear q before k h) ];
}

pub nothing_held : HeldClear empty
nothing_held q r e = none_some r (sym (ap (λ (o : Option (List Pair)). option_map (λ columns. record_of (q, columns)) o) (get-empty key_cmp q)) ∙ e)
