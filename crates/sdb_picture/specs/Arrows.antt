-- The arrows, the statements, the answers and the landings of a picture, and those of its events.
use Rattle.std.specs.Prelude.{ℕ, ◌+◌, List, [], ◌∷◌, ◌++◌, Option, Some, None}
use Rattle.std.specs.List.{filter_map, flat_map}
use Rattle.sdb_model.specs.Texts.{answer_text_of}
use Rattle.sdb_picture.specs.Types.{Answer, Event, How}
use Rattle.sdb_model.specs.declared.event.Event.TheVariants as event
use Rattle.sdb_picture.specs.declared.lanes.Lanes.{Lanes}
use Rattle.sdb_picture.specs.Lanes.{client_lane, store_lane}
use Rattle.sdb_picture.specs.Marks.{Mark, Statement, Arrow, Answered, Band, Decided, Rested, Ticked, Landed, Pointed, Group}

-- what is read from each mark of a picture, in order
abbrev pub marks_in : {X : Type 0} → (Mark → Option X) → List Group → List X
marks_in f groups = flat_map (λ g. filter_map f g.marks) groups

---- calls

-- A call as it is drawn: its row, the lanes of its client and of its store, and what became of it.
pub record Drawn : Type 0 where
  pub row : ℕ
  pub client : ℕ
  pub store : ℕ
  pub how : How

abbrev pub arrow_of : Mark → Option Drawn
arrow_of (Statement row client text) = None
arrow_of (Arrow row client store how asked came) = Some (record { row = row; client = client; store = store; how = how })
arrow_of (Answered row client text) = None
arrow_of (Band lane row rows stage effect) = None
arrow_of (Decided row store verdict effect) = None
arrow_of (Rested row client text) = None
arrow_of (Ticked row text) = None
arrow_of (Landed row store how asked came) = None
arrow_of (Pointed events place id) = None

-- the calls among events, the first of which is in a row
abbrev pub calls_from : Lanes → ℕ → List Event → List Drawn
calls_from lanes row [] = []
calls_from lanes row (event.Take client text given ∷ es) = calls_from lanes (row + 1) es
calls_from lanes row (event.Call client store request how reply given ∷ es) =
    record { row = row; client = client_lane lanes client; store = store_lane lanes store; how = how } ∷ calls_from lanes (row + 1) es
calls_from lanes row (event.Stop client ∷ es) = calls_from lanes (row + 1) es
calls_from lanes row (event.Clock moment ∷ es) = calls_from lanes (row + 1) es
calls_from lanes row (event.Idle client ∷ es) = calls_from lanes (row + 1) es
calls_from lanes row (event.Land number store request how reply ∷ es) = calls_from lanes (row + 1) es
calls_from lanes row (event.Alter table column kind altered ∷ es) = calls_from lanes (row + 1) es

---- statements and answers

-- A text at a client's lane, in a row.
pub record Worded : Type 0 where
  pub row : ℕ
  pub client : ℕ
  pub text : List ℕ

abbrev pub statement_of : Mark → Option Worded
statement_of (Statement row client text) = Some (record { row = row; client = client; text = text })
statement_of (Arrow row client store how asked came) = None
statement_of (Answered row client text) = None
statement_of (Band lane row rows stage effect) = None
statement_of (Decided row store verdict effect) = None
statement_of (Rested row client text) = None
statement_of (Ticked row text) = None
statement_of (Landed row store how asked came) = None
statement_of (Pointed events place id) = None

-- the texts that are accepted
abbrev pub texts_from : Lanes → ℕ → List Event → List Worded
texts_from lanes row [] = []
texts_from lanes row (event.Take client text given ∷ es) =
    record { row = row; client = client_lane lanes client; text = text } ∷ texts_from lanes (row + 1) es
texts_from lanes row (event.Call client store request how reply given ∷ es) = texts_from lanes (row + 1) es
texts_from lanes row (event.Stop client ∷ es) = texts_from lanes (row + 1) es
texts_from lanes row (event.Clock moment ∷ es) = texts_from lanes (row + 1) es
texts_from lanes row (event.Idle client ∷ es) = texts_from lanes (row + 1) es
texts_from lanes row (event.Land number store request how reply ∷ es) = texts_from lanes (row + 1) es
texts_from lanes row (event.Alter table column kind altered ∷ es) = texts_from lanes (row + 1) es

abbrev pub answer_of : Mark → Option Worded
answer_of (Statement row client text) = None
answer_of (Arrow row client store how asked came) = None
answer_of (Answered row client text) = Some (record { row = row; client = client; text = text })
answer_of (Band lane row rows stage effect) = None
answer_of (Decided row store verdict effect) = None
answer_of (Rested row client text) = None
answer_of (Ticked row text) = None
answer_of (Landed row store how asked came) = None
answer_of (Pointed events place id) = None

abbrev pub answer_at : ℕ → ℕ → Option Answer → List Worded
answer_at row client None = []
answer_at row client (Some a) = record { row = row; client = client; text = answer_text_of a } ∷ []

-- the answers that are given
abbrev pub answers_from : Lanes → ℕ → List Event → List Worded
answers_from lanes row [] = []
answers_from lanes row (event.Take client text given ∷ es) =
    answer_at row (client_lane lanes client) given ++ answers_from lanes (row + 1) es
answers_from lanes row (event.Call client store request how reply given ∷ es) =
    answer_at row (client_lane lanes client) given ++ answers_from lanes (row + 1) es
answers_from lanes row (event.Stop client ∷ es) = answers_from lanes (row + 1) es
answers_from lanes row (event.Clock moment ∷ es) = answers_from lanes (row + 1) es
answers_from lanes row (event.Idle client ∷ es) = answers_from lanes (row + 1) es
answers_from lanes row (event.Land number store request how reply ∷ es) = answers_from lanes (row + 1) es
answers_from lanes row (event.Alter table column kind altered ∷ es) = answers_from lanes (row + 1) es

---- landings

-- A landing as it is drawn: its row, the lane of its store, and what became of it.
pub record DrawnLanding : Type 0 where
  pub row : ℕ
  pub store : ℕ
  pub how : How

abbrev pub landing_of : Mark → Option DrawnLanding
landing_of (Statement row client text) = None
landing_of (Arrow row client store how asked came) = None
landing_of (Answered row client text) = None
landing_of (Band lane row rows stage effect) = None
landing_of (Decided row store verdict effect) = None
landing_of (Rested row client text) = None
landing_of (Ticked row text) = None
landing_of (Landed row store how asked came) = Some (record { row = row; store = store; how = how })
landing_of (Pointed events place id) = None

-- the landings among events, the first of which is in a row
abbrev pub landings_from : Lanes → ℕ → List Event → List DrawnLanding
landings_from lanes row [] = []
landings_from lanes row (event.Take client text given ∷ es) = landings_from lanes (row + 1) es
landings_from lanes row (event.Call client store request how reply given ∷ es) = landings_from lanes (row + 1) es
landings_from lanes row (event.Stop client ∷ es) = landings_from lanes (row + 1) es
landings_from lanes row (event.Clock moment ∷ es) = landings_from lanes (row + 1) es
landings_from lanes row (event.Idle client ∷ es) = landings_from lanes (row + 1) es
landings_from lanes row (event.Land number store request how reply ∷ es) =
    record { row = row; store = store_lane lanes store; how = how } ∷ landings_from lanes (row + 1) es
landings_from lanes row (event.Alter table column kind altered ∷ es) = landings_from lanes (row + 1) es
