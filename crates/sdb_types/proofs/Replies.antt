-- What a store of known contents answers is what any store may answer.
use Rattle.std.proofs.Common.{◌≡◌, List, [], ◌∷◌, true, false, cond, map, filter, IfSome, Option, Some, None, option_map, refl}
use Rattle.std.specs.Prelude.{if◌then◌else◌}
use Rattle.std.specs.List.{list_all}
use Rattle.std.specs.FinMap.{get, entries, entries_sorted}
use Rattle.std.specs.FinMap.Entries.{below_all, is_sorted}
use Rattle.sdb_types.specs.declared.key.Key.{Key}
use Rattle.sdb_types.specs.declared.pair.Pair.{Pair}
use Rattle.sdb_types.specs.declared.record.Record.{Record}
use Rattle.sdb_types.specs.declared.record.Span.{Span}
use Rattle.sdb_types.specs.declared.record.Condition.{Condition}
use Rattle.sdb_types.specs.declared.record.Request.{Request}
use Rattle.sdb_types.specs.declared.record.Request.TheVariants as ask
use Rattle.sdb_types.specs.declared.record.Reply.TheVariants as reply
use Rattle.sdb_types.specs.Order.{key_cmp}
use Rattle.sdb_types.specs.Contents.{Contents, record_of, record_at, in_span, rows_among, rows_in, holds, put_reply, reply_to, starts_after, rise, are_rows_of, CanAnswer}
use Rattle.sdb_types.proofs.Bools.{and_first, and_second, and_both}
use Rattle.sdb_types.proofs.Basics.{truth}
use Rattle.sdb_types.proofs.Batches.{record_at-key, batch_can}

rows_after : (key : Key) (span : Span) (es : List (Key × List Pair)) → below_all key_cmp key es ≡ true → starts_after key (rows_among span es) ≡ true
rows_after key span [] h = refl
rows_after key span (e ∷ es) h =
    elim (in_span span e.0) as (λ b. starts_after key (map record_of (cond b (e ∷ filter (λ f. in_span span f.0) es) (filter (λ f. in_span span f.0) es))) ≡ true) [
      | true ↦ and_first _ (below_all key_cmp key es) h
      | false ↦ rows_after key span es (and_second _ (below_all key_cmp key es) h)
    ]

rows_rise : (span : Span) (es : List (Key × List Pair)) → is_sorted key_cmp es ≡ true → rise (rows_among span es) ≡ true
rows_rise span [] h = refl
rows_rise span (e ∷ es) h =
    let rest = rows_rise span es (and_second (below_all key_cmp e.0 es) (is_sorted key_cmp es) h) in
    elim (in_span span e.0) as (λ b. rise (map record_of (cond b (e ∷ filter (λ f. in_span span f.0) es) (filter (λ f. in_span span f.0) es))) ≡ true) [
      | true ↦ and_both _ _ (rows_after e.0 span es (and_first (below_all key_cmp e.0 es) (is_sorted key_cmp es) h)) rest
      | false ↦ rest
    ]

rows_within : (span : Span) (es : List (Key × List Pair)) → list_all (λ r. in_span span r.key) (rows_among span es) ≡ true
rows_within span [] = refl
rows_within span (e ∷ es) =
    let rest = rows_within span es in
    elim (in_span span e.0) as (λ b. in_span span e.0 ≡ b → list_all (λ r. in_span span r.key) (map record_of (cond b (e ∷ filter (λ f. in_span span f.0) es) (filter (λ f. in_span span f.0) es))) ≡ true) [
      | true ↦ λ q. and_both _ _ q rest
      | false ↦ λ q. rest
    ] refl

-- the rows of a span rise strictly by key, inside the span
pub rows_in-are_rows_of : (span : Span) (m : Contents) → are_rows_of span (rows_in span m) ≡ true
rows_in-are_rows_of span m =
    and_both _ _ (rows_rise span (entries m) (truth (is_sorted key_cmp (entries m)) (entries_sorted m))) (rows_within span (entries m))

put_can : (condition : Condition) (key : Key) (found : Option Record) (columns : List Pair) → IfSome found (λ r. r.key ≡ key)
    → CanAnswer (ask.PutIf (record { key = key; columns = columns }) condition) (put_reply condition found)
put_can condition key found columns own =
    elim (holds condition found) as (λ b. holds condition found ≡ b → CanAnswer (ask.PutIf (record { key = key; columns = columns }) condition) (if b then reply.Applied else reply.NotMet found)) [
      | true ↦ λ q. tt
      | false ↦ λ q. (own, q)
    ] refl

delete_can : (condition : Condition) (key : Key) (found : Option Record) → IfSome found (λ r. r.key ≡ key) → CanAnswer (ask.DeleteIf key condition) (put_reply condition found)
delete_can condition key found own =
    elim (holds condition found) as (λ b. holds condition found ≡ b → CanAnswer (ask.DeleteIf key condition) (if b then reply.Applied else reply.NotMet found)) [
      | true ↦ λ q. tt
      | false ↦ λ q. (own, q)
    ] refl

pub can_answer : (q : Request) (m : Contents) → CanAnswer q (reply_to q m)
can_answer (ask.Get key) m = record_at-key m key
can_answer (ask.Scan span) m = rows_in-are_rows_of span m
can_answer (ask.PutIf r condition) m = put_can condition r.key (record_at m r.key) r.columns (record_at-key m r.key)
can_answer (ask.DeleteIf key condition) m = delete_can condition key (record_at m key) (record_at-key m key)
can_answer (ask.PutAll b) m = batch_can b m
