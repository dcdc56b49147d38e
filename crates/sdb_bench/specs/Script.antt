-- The script of a bench.
use Rattle.std.specs.Prelude.{ℕ, ◌+◌, ◌*◌, ◌%◌, ◌<◌, ◌≤◌, ◌==◌, Bool, List, [], ◌∷◌, ◌++◌, map, filter, codes, decimal}
use Rattle.std.specs.List.{flat_map}
use Rattle.sdb_model.specs.declared.script.Act.TheVariants as act
use Rattle.sdb_bench.specs.Types.{Move, Place, Script, ScriptClient, Statement}
use Rattle.sdb_model.specs.declared.script.Move.TheVariants as move
use Rattle.sdb_model.specs.declared.statement.Statement.TheVariants as statement
use Rattle.sdb_model.specs.Sql.{statement_text_of}
use Rattle.sdb_bench.specs.declared.side.Side.TheVariants.{Left, Right}
use Rattle.sdb_bench.specs.declared.texts.Turn.{Turn}
use Rattle.sdb_bench.specs.Draws.{draw, numbers_below, state_after}
use Rattle.sdb_bench.specs.Setup.{bench_catalog, namespace_of, setup_statements, update_of}

---- the transactions

-- a transaction of this number, by the four draws after a state
abbrev pub turn_after : ℕ → ℕ → Turn
turn_after x t = record { number = t; left_p = draw x 0 8; left_v = draw x 1 1000; right_p = draw x 2 8; right_v = draw x 3 1000 }

-- transaction t of a bench of n, from 0: each takes four draws
abbrev pub turn_of : ℕ → ℕ → Turn
turn_of n t = turn_after (state_after n (4 * t)) t

abbrev pub turn_statements : Turn → List Statement
turn_statements turn =
    statement.Begin ∷ update_of Left turn.left_p turn.left_v ∷ update_of Right turn.right_p turn.right_v ∷ statement.Commit ∷ []

---- the clients

-- a writer of a number from 0 to 7 has the transactions whose number is that modulo 8
abbrev pub is_of_writer : ℕ → Turn → Bool
is_of_writer w turn = turn.number % 8 == w

unfoldable pub writer_statements : ℕ → List Turn → List Statement
writer_statements w turns = flat_map turn_statements (filter (is_of_writer w) turns)

-- `w1` to `w8`
abbrev pub writer_name : ℕ → List ℕ
writer_name w = codes "w" ++ decimal (w + 1)

abbrev pub client_with : List ℕ → List Statement → ScriptClient
client_with name statements = record { name = name; statements = map statement_text_of statements }

abbrev pub writer_of : List Turn → ℕ → ScriptClient
writer_of turns w = client_with (writer_name w) (writer_statements w turns)

abbrev pub setup_client : ScriptClient
setup_client = client_with (codes "setup") setup_statements

-- the transactions of a bench
abbrev pub bench_turns : ℕ → List Turn
bench_turns n = map (turn_of n) (numbers_below n)

abbrev pub bench_clients : ℕ → List ScriptClient
bench_clients n = setup_client ∷ map (writer_of (bench_turns n)) (numbers_below 8)

---- the moves

-- the i-th step of a writer, by a draw
abbrev pub step_drawn : ℕ → ℕ → Move
step_drawn x i = move.Act (act.Step (2 + draw x i 8))

-- all steps of the first client, eight for each transaction, and the rest
abbrev pub bench_moves : ℕ → List Move
bench_moves n = move.Repeat 1 163 ∷ map (step_drawn (state_after n (4 * n))) (numbers_below (8 * n)) ++ move.Rest ∷ []

---- the script

abbrev pub bench_places : List ℕ → List ℕ → List Place
bench_places first last = record { ns = namespace_of Left; store = first } ∷ record { ns = namespace_of Right; store = last } ∷ []

-- The script of a bench of n transactions, over the first and the last store.
unfoldable pub bench_script_of : ℕ → List ℕ → List ℕ → Script
bench_script_of n first last = record { places = bench_places first last; catalog = bench_catalog; clients = bench_clients n; moves = bench_moves n }

-- a move of one of the nine clients
abbrev pub IsOfNine : Move → Type 0
IsOfNine (move.Act (act.Step c)) = (0 < c) × (c ≤ 9)
IsOfNine (move.Act (act.Lose c)) = ⊥
IsOfNine (move.Act (act.Discard c)) = ⊥
IsOfNine (move.Act (act.Delay c)) = ⊥
IsOfNine (move.Act (act.Land k)) = ⊥
IsOfNine (move.Act (act.Stop c)) = ⊥
IsOfNine (move.Act (act.Clock moment)) = ⊥
IsOfNine (move.Act (act.Alter table column kind)) = ⊥
IsOfNine (move.Repeat c times) = (0 < c) × (c ≤ 9)
IsOfNine move.Rest = Unit {0}
