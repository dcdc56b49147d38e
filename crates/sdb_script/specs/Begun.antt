-- A script that has begun: what its lines so far say, and why the next line may not come.
use Rattle.std.specs.Prelude.{◌≡◌, ◌≢◌, ℕ, ◌+◌, ◌≤◌, ◌<◌, ◌==◌, nat_lt, Bool, true, false, not, ◌&&◌, List, [], ◌∷◌, ◌++◌, map, flat_map, length, codes, All, AllPairs, Contains, Ok, Err}
use Rattle.std.specs.List.{list_all, list_any}
use Rattle.std.specs.Str.{bytes_eq, is_utf8}
use Rattle.sdb_script.specs.Types.{Move, Place, ScriptClient, Table}
use Rattle.sdb_loader.specs.Described.{catalog_in}
use Rattle.sdb_model.specs.declared.script.Which.TheVariants as which
use Rattle.sdb_model.specs.Form.{client_line, is_client_name}
use Rattle.sdb_script.specs.declared.fault.LineFault.TheVariants as fault
use Rattle.sdb_script.specs.declared.fault.LineRefused.{LineRefused}
use Rattle.sdb_script.specs.declared.fault.LineRefused.TheVariants as refused
use Rattle.sdb_script.specs.Lines.{most_line, most_clients, most_statements, most_moves, place_line, schema_line, text_line, client_lines, IsMoveText, is_line, is_move, turns, turns_of}

-- What the lines so far say: the places, whether there was a schema, its catalog, the clients, whether `run` came, and the moves.
pub record Draft : Type 0 where
  pub places : List Place
  pub described : Bool
  pub catalog : List Table
  pub clients : List ScriptClient
  pub ran : Bool
  pub moves : List Move

abbrev pub nothing : Draft
nothing = record { places = []; described = false; catalog = []; clients = []; ran = false; moves = [] }

---- the parts of a script

-- Places that a script may have over these attached stores.
pub record ArePlaces (stores : List (List ℕ)) (places : List Place) : Type 0 where
  -- each namespace and each store is a name
  pub named : All (λ p. (is_client_name p.ns ≡ true) × (is_client_name p.store ≡ true)) places
  -- no namespace is the one that holds the catalog
  pub free : All (λ p. p.ns ≢ codes "scalardb") places
  -- no two places have one namespace
  pub once : AllPairs ◌≢◌ (map (λ p. p.ns) places)
  -- each store is attached
  pub attached : All (λ p. Contains stores p.store) places

-- The line of a schema, whose JSON describes the catalog; without it there are no tables.
abbrev pub IsSchema : Bool → List Table → List (List ℕ) → Type 0
IsSchema false catalog lines = (lines ≡ []) × (catalog ≡ [])
IsSchema true catalog lines = (json : List ℕ) × (lines ≡ schema_line json ∷ []) × (catalog_in json ≡ Ok catalog)

-- A client of at most 20,000 statements, none of them empty.
pub record IsClient (c : ScriptClient) : Type 0 where
  pub named : is_client_name c.name ≡ true
  pub nonempty : All (λ text. 0 < length text) c.statements
  pub few : length c.statements ≤ most_statements

-- At most 64 clients, whose names differ.
pub record AreClients (clients : List ScriptClient) : Type 0 where
  pub each : All IsClient clients
  pub once : AllPairs ◌≢◌ (map (λ c. c.name) clients)
  pub few : length clients ≤ most_clients

-- At most 200,000 moves over so many clients, after `run`.
abbrev pub AreMoves : Bool → ℕ → List Move → Type 0
AreMoves false n moves = moves ≡ []
AreMoves true n moves = All (λ m. is_move n m ≡ true) moves × (turns_of moves ≤ most_moves)

-- The lines say these moves, in order.
abbrev pub AreMoveTexts : List (List ℕ) → List Move → Type 0
AreMoveTexts [] [] = Unit {0}
AreMoveTexts (line ∷ lines) (m ∷ ms) = IsMoveText line m × AreMoveTexts lines ms
AreMoveTexts [] (m ∷ ms) = ⊥
AreMoveTexts (line ∷ lines) [] = ⊥

abbrev pub run_lines : Bool → List (List ℕ)
run_lines false = []
run_lines true = codes "run" ∷ []

-- These lines are the beginning of a script, and say this: places, at most one schema, clients with their statements, `run`, and
-- moves, in this order.
pub record IsBegun (stores : List (List ℕ)) (lines : List (List ℕ)) (d : Draft) : Type 0 where
  pub schema : List (List ℕ)
  pub move_lines : List (List ℕ)
  pub order : lines ≡ map place_line d.places ++ (schema ++ (flat_map client_lines d.clients ++ (run_lines d.ran ++ move_lines)))
  pub fit : list_all is_line lines ≡ true
  pub placed : ArePlaces stores d.places
  pub described : IsSchema d.described d.catalog schema
  pub clients : AreClients d.clients
  pub moves : AreMoves d.ran (length d.clients) d.moves
  pub spelled : AreMoveTexts move_lines d.moves

---- what one more line says

pub data LineMeaning : Type 0 where
  PlaceLine : Place → LineMeaning
  SchemaOf : List ℕ → LineMeaning
  ClientOf : List ℕ → LineMeaning
  StatementOf : List ℕ → LineMeaning
  Runs : LineMeaning
  MoveOf : Move → LineMeaning

-- A line is spelled as one that says this.
abbrev pub IsSpelledAs : List ℕ → LineMeaning → Type 0
IsSpelledAs line (PlaceLine p) = line ≡ place_line p
IsSpelledAs line (SchemaOf json) = line ≡ schema_line json
IsSpelledAs line (ClientOf name) = line ≡ client_line name
IsSpelledAs line (StatementOf text) = line ≡ text_line text
IsSpelledAs line Runs = line ≡ codes "run"
IsSpelledAs line (MoveOf m) = IsMoveText line m

-- there were only places
abbrev pub is_first : Draft → Bool
is_first d = not d.ran && (not d.described && length d.clients == 0)

abbrev pub is_known : List ScriptClient → List ℕ → Bool
is_known clients name = list_any (λ c. bytes_eq c.name name) clients

-- What may come next, but for stores, the schema's JSON and the limits: a place or the schema first; a client of a new name before
-- `run`; a statement that isn't empty in a client's block; one `run`; and after it moves.
abbrev pub may_come : Draft → LineMeaning → Bool
may_come d (PlaceLine p) = is_first d && (is_client_name p.ns && is_client_name p.store)
may_come d (SchemaOf json) = is_first d
may_come d (ClientOf name) = not d.ran && (is_client_name name && not (is_known d.clients name))
may_come d (StatementOf text) = not d.ran && (nat_lt 0 (length d.clients) && nat_lt 0 (length text))
may_come d Runs = not d.ran
may_come d (MoveOf m) = d.ran && is_move (length d.clients) m

abbrev pub is_placed : List Place → List ℕ → Bool
is_placed places ns = list_any (λ p. bytes_eq p.ns ns) places

abbrev pub is_attached : List (List ℕ) → List ℕ → Bool
is_attached stores store = list_any (bytes_eq store) stores

-- a place in an attached store, of a namespace that may be placed and was not placed before
abbrev pub may_be_placed : List (List ℕ) → List Place → Place → Bool
may_be_placed stores places p = not (bytes_eq p.ns (codes "scalardb")) && (is_attached stores p.store && not (is_placed places p.ns))

-- how many statements the last client has
abbrev pub last_count : List ScriptClient → ℕ
last_count [] = 0
last_count (c ∷ []) = length c.statements
last_count (c ∷ d ∷ cs) = last_count (d ∷ cs)

---- why a line may not come

-- A line that is a line of text says something that may come next.
abbrev pub MayComeNext : Draft → List ℕ → LineMeaning → Type 0
MayComeNext d line s = (is_line line ≡ true) × IsSpelledAs line s × (may_come d s ≡ true)

-- The cause of each refusal of a line. The length is looked at first, then UTF-8, then what the line says, then its store or its
-- JSON, and then how many clients, statements and moves there are.
abbrev pub IsCause : List (List ℕ) → Draft → List ℕ → LineRefused → Type 0
IsCause stores d line (refused.Limit which.LineBytes) = most_line < length line
IsCause stores d line (refused.Bad fault.Text) = (length line ≤ most_line) × (is_utf8 line ≡ false)
IsCause stores d line (refused.Bad fault.Form) = (is_line line ≡ true) × ((s : LineMeaning) → IsSpelledAs line s → may_come d s ≡ false)
IsCause stores d line (refused.Bad fault.Store) = (p : Place) × MayComeNext d line (PlaceLine p) × (may_be_placed stores d.places p ≡ false)
IsCause stores d line (refused.Bad (fault.Schema f)) = (json : List ℕ) × MayComeNext d line (SchemaOf json) × (catalog_in json ≡ Err f)
IsCause stores d line (refused.Limit which.Clients) = (name : List ℕ) × MayComeNext d line (ClientOf name) × (most_clients ≤ length d.clients)
IsCause stores d line (refused.Limit which.Statements) = (text : List ℕ) × MayComeNext d line (StatementOf text) × (most_statements ≤ last_count d.clients)
IsCause stores d line (refused.Limit which.Moves) = (m : Move) × MayComeNext d line (MoveOf m) × (most_moves < turns_of d.moves + turns m)
IsCause stores d line (refused.Bad fault.Missing) = ⊥
IsCause stores d line (refused.Limit which.InputBytes) = ⊥
IsCause stores d line refused.NoMemory = ⊥

-- After these lines the script stops: at the next line, or, where there is none, for want of `run`.
abbrev pub Stops : List (List ℕ) → Draft → List (List ℕ) → LineRefused → Type 0
Stops stores d [] r = (d.ran ≡ false) × (r ≡ refused.Bad fault.Missing)
Stops stores d (line ∷ lines) r = IsCause stores d line r

-- The first line that may not come: the lines before it are the beginning of a script.
pub record IsFirstWrong (stores : List (List ℕ)) (lines : List (List ℕ)) (n : ℕ) (r : LineRefused) : Type 0 where
  pub front : List (List ℕ)
  pub rest : List (List ℕ)
  pub draft : Draft
  pub split : lines ≡ front ++ rest
  pub before : IsBegun stores front draft
  pub number : n ≡ length front + 1
  pub here : Stops stores draft rest r
