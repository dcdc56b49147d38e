-- A script that is read line by line.
use Rattle.std.specs.Prelude.{◌≡◌, ℕ, ◌+◌, min, nat_le, nat_lt, pos, true, not, ◌&&◌, if◌then◌else◌, List, [], ◌∷◌, ◌++◌, length, codes, Option, Some, None, Result, Ok, Err}
use Rattle.std.specs.Option.{option_map, option_map_or, option_and_then}
use Rattle.std.specs.Str.{bytes_eq, is_utf8}
use Rattle.sdb_types.specs.NameText.{after_front}
use Rattle.sdb_script.specs.Types.{Act, Move, SchemaFault, Script, ScriptClient, Table}
use Rattle.sdb_loader.specs.Described.{catalog_in}
use Rattle.sdb_loader.specs.Words.{kind_named}
use Rattle.sdb_model.specs.declared.script.Act.TheVariants as act
use Rattle.sdb_model.specs.declared.script.Move.TheVariants as move
use Rattle.sdb_model.specs.declared.script.Which.TheVariants as which
use Rattle.sdb_model.specs.Form.{is_client_name, lines_of}
use Rattle.sdb_script.specs.declared.fault.LineFault.TheVariants as fault
use Rattle.sdb_script.specs.declared.fault.LineRefused.{LineRefused}
use Rattle.sdb_script.specs.declared.fault.LineRefused.TheVariants as refused
use Rattle.sdb_script.specs.declared.fault.ScriptRefused.{ScriptRefused}
use Rattle.sdb_script.specs.declared.fault.ScriptRefused.TheVariants.{BadLine, Limit, NoMemory as OutOfMemory}
use Rattle.sdb_script.specs.Words.{numeral_in}
use Rattle.sdb_script.specs.Lines.{most_bytes, most_line, most_clients, most_statements, most_moves, is_client, is_delayed_number, are_names, turns, turns_of}
use Rattle.sdb_script.specs.Begun.{Draft, nothing, is_first, is_known, may_be_placed, last_count}
use Rattle.sdb_script.specs.Whole.{last_line}
use Rattle.sdb_types.specs.NameText.{around}

---- moves

-- the client whose number a word says
abbrev pub client_in : ℕ → List ℕ → Option ℕ
client_in n word = option_and_then (λ c. if is_client n c then Some c else None) (numeral_in word)

abbrev pub act_in : ℕ → (ℕ → Act) → List ℕ → Option Move
act_in n made word = option_map (λ c. move.Act (made c)) (client_in n word)

abbrev pub repeat_of : ℕ → ℕ → Option Move
repeat_of c k = if nat_le 2 k then Some (move.Repeat c k) else None

-- one step, or several
abbrev pub step_in : ℕ → List ℕ → Option Move
step_in n words =
    option_map_or (λ w. option_and_then (λ c. option_and_then (repeat_of c) (numeral_in w.1)) (client_in n w.0)) (around 32 words) (act_in n act.Step words)

abbrev pub clock_of : ℕ → Option Move
clock_of ms = if nat_le ms 9007199254740992 then Some (move.Act (act.Clock (pos ms))) else None

abbrev pub clock_in : List ℕ → Option Move
clock_in word = option_and_then clock_of (numeral_in word)

abbrev pub rest_in : List ℕ → Option Move
rest_in line = if bytes_eq line (codes "rest") then Some move.Rest else None

abbrev pub clock_or : List ℕ → Option Move
clock_or line = option_map_or clock_in (after_front (codes "clock ") line) (rest_in line)

abbrev pub stop_or : ℕ → List ℕ → Option Move
stop_or n line = option_map_or (act_in n act.Stop) (after_front (codes "stop ") line) (clock_or line)

abbrev pub land_of : ℕ → Option Move
land_of k = if is_delayed_number k then Some (move.Act (act.Land k)) else None

abbrev pub land_in : List ℕ → Option Move
land_in word = option_and_then land_of (numeral_in word)

abbrev pub land_or : ℕ → List ℕ → Option Move
land_or n line = option_map_or land_in (after_front (codes "land ") line) (stop_or n line)

abbrev pub delay_or : ℕ → List ℕ → Option Move
delay_or n line = option_map_or (act_in n act.Delay) (after_front (codes "delay ") line) (land_or n line)

abbrev pub drop_or : ℕ → List ℕ → Option Move
drop_or n line = option_map_or (act_in n act.Discard) (after_front (codes "drop ") line) (delay_or n line)

abbrev pub lose_or : ℕ → List ℕ → Option Move
lose_or n line = option_map_or (act_in n act.Lose) (after_front (codes "lose ") line) (drop_or n line)

abbrev pub step_or : ℕ → List ℕ → Option Move
step_or n line = option_map_or (step_in n) (after_front (codes "step ") line) (lose_or n line)

-- a table's two names, a column's, and the word of a kind
abbrev pub alter_of : List ℕ × List ℕ → List ℕ → List ℕ → Option Move
alter_of table column word =
    if are_names table.0 table.1 column
    then option_map (λ k. move.Act (act.Alter (record { ns = table.0; table = table.1 }) column k)) (kind_named word)
    else None

abbrev pub column_of : List ℕ → List ℕ × List ℕ → Option Move
column_of table c = option_and_then (λ t. alter_of t c.0 c.1) (around 46 table)

abbrev pub alter_in : List ℕ → Option Move
alter_in words = option_and_then (λ w. option_and_then (column_of w.0) (around 32 w.1)) (around 32 words)

-- the move of a line, over so many clients
unfoldable pub move_in : ℕ → List ℕ → Option Move
move_in n line = option_map_or alter_in (after_front (codes "alter ") line) (step_or n line)

-- a move whose repeats are cut one past the limit
abbrev pub capped : Move → Move
capped (move.Act a) = move.Act a
capped (move.Repeat c k) = move.Repeat c (min k 200001)
capped move.Rest = move.Rest

---- one line more

abbrev pub form : Result Draft LineRefused
form = Err (refused.Bad fault.Form)

abbrev pub with_place : List (List ℕ) → Draft → List ℕ → List ℕ → Result Draft LineRefused
with_place stores d ns store =
    if may_be_placed stores d.places (record { ns = ns; store = store })
    then Ok (record d { places = d.places ++ record { ns = ns; store = store } ∷ [] })
    else Err (refused.Bad fault.Store)

abbrev pub with_words : List (List ℕ) → Draft → List ℕ × List ℕ → Result Draft LineRefused
with_words stores d w = if is_client_name w.0 && is_client_name w.1 then with_place stores d w.0 w.1 else form

abbrev pub take_place : List (List ℕ) → Draft → List ℕ → Result Draft LineRefused
take_place stores d words = if is_first d then option_map_or (with_words stores d) (around 32 words) form else form

abbrev pub with_catalog : Draft → Result (List Table) SchemaFault → Result Draft LineRefused
with_catalog d (Ok catalog) = Ok (record d { described = true; catalog = catalog })
with_catalog d (Err f) = Err (refused.Bad (fault.Schema f))

abbrev pub take_schema : Draft → List ℕ → Result Draft LineRefused
take_schema d json = if is_first d then with_catalog d (catalog_in json) else form

abbrev pub new_client : List ℕ → ScriptClient
new_client name = record { name = name; statements = [] }

abbrev pub with_client : Draft → List ℕ → Result Draft LineRefused
with_client d name =
    if nat_lt (length d.clients) most_clients
    then Ok (record d { clients = d.clients ++ new_client name ∷ [] })
    else Err (refused.Limit which.Clients)

abbrev pub take_client : Draft → List ℕ → Result Draft LineRefused
take_client d name = if is_client_name name && not (is_known d.clients name) then with_client d name else form

abbrev pub with_statement : ScriptClient → List ℕ → ScriptClient
with_statement c text = record { name = c.name; statements = c.statements ++ text ∷ [] }

-- the clients with one statement more of the last
abbrev pub add_text : List ScriptClient → List ℕ → List ScriptClient
add_text [] text = []
add_text (c ∷ []) text = with_statement c text ∷ []
add_text (c ∷ d ∷ cs) text = c ∷ add_text (d ∷ cs) text

abbrev pub with_text : Draft → List ℕ → Result Draft LineRefused
with_text d text =
    if nat_lt (last_count d.clients) most_statements then Ok (record d { clients = add_text d.clients text }) else Err (refused.Limit which.Statements)

abbrev pub take_text : Draft → List ℕ → Result Draft LineRefused
take_text d text = if nat_lt 0 (length d.clients) && nat_lt 0 (length text) then with_text d text else form

abbrev pub run_of : Draft → Draft
run_of d = record d { ran = true }

abbrev pub place_or : List (List ℕ) → Draft → List ℕ → Result Draft LineRefused
place_or stores d line = option_map_or (take_place stores d) (after_front (codes "place ") line) form

abbrev pub schema_or : List (List ℕ) → Draft → List ℕ → Result Draft LineRefused
schema_or stores d line = option_map_or (take_schema d) (after_front (codes "schema ") line) (place_or stores d line)

abbrev pub client_or : List (List ℕ) → Draft → List ℕ → Result Draft LineRefused
client_or stores d line = option_map_or (take_client d) (after_front (codes "client ") line) (schema_or stores d line)

abbrev pub text_or : List (List ℕ) → Draft → List ℕ → Result Draft LineRefused
text_or stores d line = option_map_or (take_text d) (after_front (codes "  ") line) (client_or stores d line)

-- a line before `run`
unfoldable pub take_head : List (List ℕ) → Draft → List ℕ → Result Draft LineRefused
take_head stores d line = if bytes_eq line (codes "run") then Ok (run_of d) else text_or stores d line

abbrev pub with_move : Draft → Move → Result Draft LineRefused
with_move d m = if nat_le (turns_of d.moves + turns m) most_moves then Ok (record d { moves = d.moves ++ m ∷ [] }) else Err (refused.Limit which.Moves)

-- a line after `run`
abbrev pub take_move : Draft → List ℕ → Result Draft LineRefused
take_move d line = option_map_or (with_move d) (move_in (length d.clients) line) form

abbrev pub take_text_line : List (List ℕ) → Draft → List ℕ → Result Draft LineRefused
take_text_line stores d line = if d.ran then take_move d line else take_head stores d line

-- what the lines say with one line more, or why it may not come
unfoldable pub read_line_on : List (List ℕ) → Draft → List ℕ → Result Draft LineRefused
read_line_on stores d line =
    if nat_le (length line) most_line
    then (if is_utf8 line then take_text_line stores d line else Err (refused.Bad fault.Text))
    else Err (refused.Limit which.LineBytes)

-- A refusal that comes of an outcome; out of memory may be returned in place of any.
abbrev pub Refuses : {A : Type 0} → Result A LineRefused → LineRefused → Type 0
Refuses r (refused.Bad f) = r ≡ Err (refused.Bad f)
Refuses r (refused.Limit w) = r ≡ Err (refused.Limit w)
Refuses r refused.NoMemory = Unit {0}

---- all lines

abbrev pub at_line : ℕ → LineRefused → ScriptRefused
at_line n (refused.Bad f) = BadLine n f
at_line n (refused.Limit w) = Limit n w
at_line n refused.NoMemory = OutOfMemory

abbrev pub read_next : ℕ → Result Draft LineRefused → (Draft → Result Draft ScriptRefused) → Result Draft ScriptRefused
read_next n (Ok d) goes = goes d
read_next n (Err r) goes = Err (at_line n r)

-- what all lines say, or the first that may not come
abbrev pub read_from : List (List ℕ) → ℕ → Draft → List (List ℕ) → Result Draft ScriptRefused
read_from stores n d [] = Ok d
read_from stores n d (l ∷ ls) = read_next n (read_line_on stores d l) (λ e. read_from stores (n + 1) e ls)

abbrev pub script_of : Draft → Script
script_of d = record { places = d.places; catalog = d.catalog; clients = d.clients; moves = d.moves }

-- a script, where `run` came
abbrev pub ended : ℕ → Draft → Result Script ScriptRefused
ended n d = if d.ran then Ok (script_of d) else Err (BadLine n fault.Missing)

abbrev pub ended_at : ℕ → Result Draft ScriptRefused → Result Script ScriptRefused
ended_at n (Ok d) = ended n d
ended_at n (Err r) = Err r

-- the script that a text is, or why it is none
abbrev pub script_in : List (List ℕ) → List ℕ → Result Script ScriptRefused
script_in stores text =
    if nat_le (length text) most_bytes
    then ended_at (length (lines_of text) + 1) (read_from stores 1 nothing (lines_of text))
    else Err (Limit (last_line text) which.InputBytes)

-- A refusal that comes of an outcome; out of memory may be returned in place of any.
abbrev pub Agrees : {A : Type 0} → Result A ScriptRefused → ScriptRefused → Type 0
Agrees r (BadLine n f) = r ≡ Err (BadLine n f)
Agrees r (Limit n w) = r ≡ Err (Limit n w)
Agrees r OutOfMemory = Unit {0}
