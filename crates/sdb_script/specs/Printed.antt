-- The text of a script that is printed.
use Rattle.std.specs.Prelude.{ℕ, Bool, nat_le, List, [], ◌∷◌, ◌++◌, length, flat_map, codes}
use Rattle.std.specs.List.{list_all}
use Rattle.sdb_types.specs.Order.{table_text}
use Rattle.sdb_script.specs.Types.{Move, Place, Script, ScriptClient, Table}
use Rattle.sdb_catalog.specs.Definition.{definition_text}
use Rattle.sdb_model.specs.Form.{client_line}
use Rattle.sdb_script.specs.Lines.{most_line, place_line, schema_line, text_line, move_line}
use Rattle.sdb_model.specs.Texts.{with_lf}

-- a table as a member of a schema: its name in quotes, and its definition
abbrev pub member_text : Table → List ℕ
member_text t = codes "\"" ++ (table_text t.name ++ (codes "\":" ++ definition_text t))

-- members that follow one another
abbrev pub members_text : List Table → List ℕ
members_text [] = []
members_text (t ∷ ts) = member_text t ++ flat_map (λ u. codes "," ++ member_text u) ts

-- the compact JSON of a catalog: each table's definition under its name
abbrev pub catalog_text : List Table → List ℕ
catalog_text ts = codes "{" ++ (members_text ts ++ codes "}")

-- the schema's line, left out where there are no tables
abbrev pub schema_text : List Table → List ℕ
schema_text [] = []
schema_text (t ∷ ts) = with_lf (schema_line (catalog_text (t ∷ ts)))

abbrev pub place_text : Place → List ℕ
place_text p = with_lf (place_line p)

abbrev pub statement_text : List ℕ → List ℕ
statement_text text = with_lf (text_line text)

abbrev pub client_text : ScriptClient → List ℕ
client_text c = with_lf (client_line c.name) ++ flat_map statement_text c.statements

abbrev pub move_text : Move → List ℕ
move_text m = with_lf (move_line m)

-- The places, the schema, the clients with their statements, `run`, and the moves, each line with its LF.
abbrev pub script_text_of : Script → List ℕ
script_text_of s =
    flat_map place_text s.places ++ (schema_text s.catalog ++ (flat_map client_text s.clients ++ (codes "run\n" ++ flat_map move_text s.moves)))

---- the way back

-- the line of a schema, where there are tables
abbrev pub schema_lines : List Table → List (List ℕ)
schema_lines [] = []
schema_lines (t ∷ ts) = schema_line (catalog_text (t ∷ ts)) ∷ []

-- a catalog's line keeps the limit of a line; without tables there is none
abbrev pub fits_line : List Table → Bool
fits_line ts = list_all (λ line. nat_le (length line) most_line) (schema_lines ts)
