-- What a map replies is what any store may answer.
use Rattle.std.proofs.Common.{◌≡◌, List, [], ◌∷◌, Bool, true, false, cond, Some, None, refl, sym, subst, map}
use Rattle.std.specs.Prelude.{T, ◌&&◌, IfSome, Option}
use Rattle.std.specs.List.{filter, list_all}
use Rattle.std.specs.Option.{option_map}
use Rattle.std.specs.Ordering.{is_lt}
use Rattle.std.specs.FinMap.{entries, entries_sorted, get}
use Rattle.std.specs.FinMap.Entries.{is_sorted, below_all, where_key, is_sorted-where_key}
use Rattle.sdb_types.specs.Order.{key_cmp}
use Rattle.sdb_types.specs.declared.key.Key.{Key}
use Rattle.sdb_types.specs.declared.pair.Pair.{Pair}
use Rattle.sdb_types.specs.declared.record.Span.{Span}
use Rattle.sdb_types.specs.declared.record.Condition.{Condition}
use Rattle.sdb_types.specs.declared.record.Put.{Put}
use Rattle.sdb_types.specs.declared.record.Request.{Request}
use Rattle.sdb_types.specs.declared.record.Request.TheVariants as ask
use Rattle.sdb_types.specs.declared.record.Reply.TheVariants as reply
use Rattle.sdb_types.specs.Contents.{Contents, record_of, record_at, in_span, rows_among, rows_in, holds, put_reply, reply_to, CanAnswer, starts_after, rise, are_rows_of, IsUnmet}
use Rattle.sdb_types.proofs.Public.{batch_can, second_t as right}

left : (a b : Bool) → T (a && b) → a ≡ true
left true b h = refl
left false b h = absurd h

both : (a b : Bool) → a ≡ true → b ≡ true → (a && b) ≡ true
both true b p q = q
both false b p q = p

above : (key : Key) (es : List (Key × List Pair)) → T (below_all key_cmp key es) → starts_after key (map record_of es) ≡ true
above key [] h = refl
above key (e ∷ es) h = left (is_lt (key_cmp key e.0)) (below_all key_cmp key es) h

-- records of entries in order rise
pub rises : (es : List (Key × List Pair)) → T (is_sorted key_cmp es) → rise (map record_of es) ≡ true
rises [] h = refl
rises (e ∷ es) h =
    both (starts_after e.0 (map record_of es)) (rise (map record_of es))
    (above e.0 es (subst T (sym (left (below_all key_cmp e.0 es) (is_sorted key_cmp es) h)) tt))
    (rises es (right (below_all key_cmp e.0 es) (is_sorted key_cmp es) h))

inside : (span : Span) (es : List (Key × List Pair)) → list_all (λ r. in_span span r.key) (rows_among span es) ≡ true
inside span [] = refl
inside span (e ∷ es) =
    elim (in_span span e.0) as (λ b. in_span span e.0 ≡ b → list_all (λ r. in_span span r.key) (map record_of (cond b (e ∷ filter (λ x. in_span span x.0) es) (filter (λ x. in_span span x.0) es))) ≡ true) [
      | true ↦ λ p. both (in_span span e.0) (list_all (λ r. in_span span r.key) (rows_among span es)) p (inside span es)
      | false ↦ λ p. inside span es
    ] refl

pub rows_lawful : (span : Span) (m : Contents) → are_rows_of span (rows_in span m) ≡ true
rows_lawful span m =
    both (rise (rows_in span m)) _ (rises (where_key key_cmp (in_span span) (entries m)) (is_sorted-where_key key_cmp (in_span span) (entries m) (entries_sorted m))) (inside span (entries m))

at_key : (key : Key) (found : Option (List Pair)) → IfSome (option_map (λ columns. record_of (key, columns)) found) (λ r. r.key ≡ key)
at_key key None = tt
at_key key (Some columns) = refl

put_lawful : (q : Request) (condition : Condition) (key : Key) (m : Contents) → CanAnswer q reply.Applied → (IsUnmet condition key (record_at m key) → CanAnswer q (reply.NotMet (record_at m key))) → CanAnswer q (put_reply condition (record_at m key))
put_lawful q condition key m applied unmet =
    elim (holds condition (record_at m key)) as (λ b. holds condition (record_at m key) ≡ b → CanAnswer q (cond b reply.Applied (reply.NotMet (record_at m key)))) [
      | true ↦ λ p. applied
      | false ↦ λ p. unmet (at_key key (get m key), p)
    ] refl

pub batch_lawful : (b : List Put) (m : Contents) → CanAnswer (ask.PutAll b) (reply_to (ask.PutAll b) m)
batch_lawful b m = batch_can b m

-- the map's reply is one that any store may give
pub reply_lawful : (q : Request) (m : Contents) → CanAnswer q (reply_to q m)
reply_lawful (ask.Get key) m = at_key key (get m key)
reply_lawful (ask.Scan span) m = rows_lawful span m
reply_lawful (ask.PutIf r condition) m = put_lawful (ask.PutIf r condition) condition r.key m tt (λ h. h)
reply_lawful (ask.DeleteIf key condition) m = put_lawful (ask.DeleteIf key condition) condition key m tt (λ h. h)
reply_lawful (ask.PutAll b) m = batch_lawful b m
