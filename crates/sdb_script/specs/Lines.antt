-- The lines of a script: how each is spelled, and what it may say.
use Rattle.std.specs.Prelude.{◌≡◌, ℕ, ◌^◌, ℤ, pos, negsuc, int_le, nat_le, Bool, true, ◌&&◌, List, ◌∷◌, ◌++◌, map, length, codes, sum_by, Some}
use Rattle.std.specs.Fmt.{decimal, signed_decimal}
use Rattle.std.specs.Str.{is_utf8}
use Rattle.sdb_types.specs.Order.{table_text}
use Rattle.sdb_schema.specs.Kinds.{kind_text}
use Rattle.sdb_loader.specs.Words.{kind_named}
use Rattle.sdb_script.specs.Types.{Act, Move, Place, ScriptClient, TableName}
use Rattle.sdb_model.specs.declared.script.Act.TheVariants as act
use Rattle.sdb_model.specs.declared.script.Move.TheVariants as move
use Rattle.sdb_model.specs.Form.{client_line, is_client_name}
use Rattle.sdb_script.specs.Words.{Counts}

---- limits

-- bytes of a script
abbrev pub most_bytes : ℕ
most_bytes = 67108864

-- bytes of a line, without its LF
abbrev pub most_line : ℕ
most_line = 65536

abbrev pub most_clients : ℕ
most_clients = 64

-- statements of one client
abbrev pub most_statements : ℕ
most_statements = 20000

-- moves, where `step C K` counts as K
abbrev pub most_moves : ℕ
most_moves = 200000

-- the latest moment that a clock can show
abbrev pub latest : ℤ
latest = pos (2 ^ 53)

---- spellings

-- `place NS STORE`
abbrev pub place_line : Place → List ℕ
place_line p = codes "place " ++ (p.ns ++ 32 ∷ p.store)

-- `schema JSON`
abbrev pub schema_line : List ℕ → List ℕ
schema_line json = codes "schema " ++ json

-- a statement's text after two spaces
abbrev pub text_line : List ℕ → List ℕ
text_line text = codes "  " ++ text

-- `client NAME` and its statements
abbrev pub client_lines : ScriptClient → List (List ℕ)
client_lines c = client_line c.name ∷ map text_line c.statements

-- `alter NS.TABLE COLUMN KIND`, where a word names the kind
abbrev pub alter_line : TableName → List ℕ → List ℕ → List ℕ
alter_line table column word = codes "alter " ++ (table_text table ++ 32 ∷ (column ++ 32 ∷ word))

-- `step C`, `lose C`, `drop C`, `delay C`, `land K`, `stop C`, `clock MS`, and `alter NS.TABLE COLUMN KIND` with its kind in upper case
abbrev pub act_line : Act → List ℕ
act_line (act.Step c) = codes "step " ++ decimal c
act_line (act.Lose c) = codes "lose " ++ decimal c
act_line (act.Discard c) = codes "drop " ++ decimal c
act_line (act.Delay c) = codes "delay " ++ decimal c
act_line (act.Land k) = codes "land " ++ decimal k
act_line (act.Stop c) = codes "stop " ++ decimal c
act_line (act.Clock ms) = codes "clock " ++ signed_decimal ms
act_line (act.Alter table column kind) = alter_line table column (kind_text kind)

-- an act's, `step C K` or `rest`
abbrev pub move_line : Move → List ℕ
move_line (move.Act a) = act_line a
move_line (move.Repeat c k) = codes "step " ++ (decimal c ++ 32 ∷ decimal k)
move_line move.Rest = codes "rest"

-- A line says an act, whose number may be of any size, and whose kind in any case.
abbrev pub IsActText : List ℕ → Act → Type 0
IsActText line (act.Step c) = (word : List ℕ) × (line ≡ codes "step " ++ word) × Counts word c
IsActText line (act.Lose c) = (word : List ℕ) × (line ≡ codes "lose " ++ word) × Counts word c
IsActText line (act.Discard c) = (word : List ℕ) × (line ≡ codes "drop " ++ word) × Counts word c
IsActText line (act.Delay c) = (word : List ℕ) × (line ≡ codes "delay " ++ word) × Counts word c
IsActText line (act.Land k) = (word : List ℕ) × (line ≡ codes "land " ++ word) × Counts word k
IsActText line (act.Stop c) = (word : List ℕ) × (line ≡ codes "stop " ++ word) × Counts word c
IsActText line (act.Clock (pos n)) = (word : List ℕ) × (line ≡ codes "clock " ++ word) × Counts word n
IsActText line (act.Clock (negsuc n)) = ⊥
IsActText line (act.Alter table column kind) = (word : List ℕ) × (line ≡ alter_line table column word) × (kind_named word ≡ Some kind)

-- A line says a move, whose numbers may be of any size, and whose kind in any case.
abbrev pub IsMoveText : List ℕ → Move → Type 0
IsMoveText line (move.Act a) = IsActText line a
IsMoveText line (move.Repeat c k) = (word : List ℕ) × (more : List ℕ) × (line ≡ codes "step " ++ (word ++ 32 ∷ more)) × Counts word c × Counts more k
IsMoveText line move.Rest = line ≡ codes "rest"

---- what lines may say

-- a line is UTF-8 of at most 65,536 bytes
abbrev pub is_line : List ℕ → Bool
is_line line = nat_le (length line) most_line && is_utf8 line

-- the number of one of so many clients
abbrev pub is_client : ℕ → ℕ → Bool
is_client n c = nat_le 1 c && nat_le c n

-- the number of a delayed call: a script can't delay more calls than it has moves
abbrev pub is_delayed_number : ℕ → Bool
is_delayed_number k = nat_le 1 k && nat_le k most_moves

-- the names of a table and of a column, each an identifier of at most 64 bytes
abbrev pub are_names : List ℕ → List ℕ → List ℕ → Bool
are_names ns table column = is_client_name ns && (is_client_name table && is_client_name column)

-- an act over so many clients, whose clock is from 0 to 2^53
abbrev pub is_act : ℕ → Act → Bool
is_act n (act.Step c) = is_client n c
is_act n (act.Lose c) = is_client n c
is_act n (act.Discard c) = is_client n c
is_act n (act.Delay c) = is_client n c
is_act n (act.Land k) = is_delayed_number k
is_act n (act.Stop c) = is_client n c
is_act n (act.Clock ms) = int_le (pos 0) ms && int_le ms latest
is_act n (act.Alter table column kind) = are_names table.ns table.table column

-- a move over so many clients, which repeats a step twice or more
abbrev pub is_move : ℕ → Move → Bool
is_move n (move.Act a) = is_act n a
is_move n (move.Repeat c k) = is_client n c && nat_le 2 k
is_move n move.Rest = true

-- how many moves one counts as
abbrev pub turns : Move → ℕ
turns (move.Act a) = 1
turns (move.Repeat c k) = k
turns move.Rest = 1

abbrev pub turns_of : List Move → ℕ
turns_of moves = sum_by turns moves
