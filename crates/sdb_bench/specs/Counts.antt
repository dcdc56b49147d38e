-- The five lines of a bench, counted over its run.
use Rattle.std.specs.Prelude.{ℕ, pos, ◌-◌, Bool, true, false, not, ◌&&◌, nat_le, List, [], ◌∷◌, ◌++◌, count_by, sum_by, codes, decimal, Option, Some, None, slice_get}
use Rattle.std.specs.List.{list_any}
use Rattle.std.specs.Ordering.{is_eq}
use Rattle.sdb_bench.specs.Types.{Event, Outcome, TableDump, Value}
use Rattle.sdb_types.specs.declared.value.Value.TheVariants as value
use Rattle.sdb_types.specs.Order.{value_cmp}
use Rattle.sdb_model.specs.declared.event.Event.TheVariants as event
use Rattle.sdb_model.specs.Transactions.{is_committed_answer}
use Rattle.sdb_bench.specs.Draws.{numbers_below}

---- events

-- clients 2 to 9
abbrev pub is_writer : ℕ → Bool
is_writer client = nat_le 2 client && nat_le client 9

-- an answer Committed of a writer
unfoldable pub is_commit : Event → Bool
is_commit (event.Take client text answer) = is_writer client && is_committed_answer answer
is_commit (event.Call client store request how reply answer) = is_writer client && is_committed_answer answer
is_commit (event.Stop client) = false
is_commit (event.Clock moment) = false
is_commit (event.Idle client) = false
is_commit (event.Land number store request how reply) = false
is_commit (event.Alter table column kind altered) = false

unfoldable pub is_call : Event → Bool
is_call (event.Take client text answer) = false
is_call (event.Call client store request how reply answer) = true
is_call (event.Stop client) = false
is_call (event.Clock moment) = false
is_call (event.Idle client) = false
is_call (event.Land number store request how reply) = false
is_call (event.Alter table column kind altered) = false

---- rows: the values of the columns n, p and v

-- two values, where a row may lack either, are one
abbrev pub same_found : Option Value → Option Value → Bool
same_found None None = true
same_found None (Some b) = false
same_found (Some a) None = false
same_found (Some a) (Some b) = is_eq (value_cmp a b)

-- a row of this p
abbrev pub is_at : Value → List Value → Bool
is_at p cells = same_found (slice_get cells 1) (Some p)

-- two rows of one p with different v
unfoldable pub differ : Value → List Value → List Value → Bool
differ p cells other = is_at p cells && is_at p other && not (same_found (slice_get cells 2) (slice_get other 2))

-- Two of these rows have this p and different v.
unfoldable pub is_uneven : List (List Value) → ℕ → Bool
is_uneven rows p = list_any (λ cells. list_any (differ (value.Int (pos p)) cells) rows) rows

unfoldable pub uneven_in : TableDump → ℕ
uneven_in table = count_by (is_uneven table.rows) (numbers_below 8)

-- the pairs of a table and a p of which two rows have different v
abbrev pub uneven_of : List TableDump → ℕ
uneven_of tables = sum_by uneven_in tables

---- the lines

-- a word, a space, a number and LF
abbrev pub count_line : List ℕ → ℕ → List ℕ
count_line word n = word ++ 32 ∷ decimal n ++ 10 ∷ []

-- the lines of the events
abbrev pub counts_text : ℕ → List Event → List ℕ
counts_text n events =
    count_line (codes "transactions") n
    ++ count_line (codes "committed") (count_by is_commit events)
    ++ count_line (codes "other") (n - count_by is_commit events)
    ++ count_line (codes "calls") (count_by is_call events)

-- The five lines of a bench of n transactions.
unfoldable pub bench_text_of : ℕ → Outcome → List ℕ
bench_text_of n outcome = counts_text n outcome.events ++ count_line (codes "uneven") (uneven_of outcome.tables)
