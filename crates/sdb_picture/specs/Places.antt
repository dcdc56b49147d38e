-- Where lanes and rows lie in a picture, in its own units: clients from the left, then the labels of calls, the stores and the
-- records, with the rows from the top.
use Rattle.std.specs.Prelude.{ℕ, ◌+◌, ◌*◌, nat_lt, if◌then◌else◌, length}
use Rattle.sdb_picture.specs.declared.lanes.Lanes.{Lanes}

---- from the left

abbrev pub client_x : ℕ → ℕ
client_x lane = 190 + 140 * lane

abbrev pub statement_x : ℕ → ℕ
statement_x lane = 200 + 140 * lane

abbrev pub answer_x : ℕ → ℕ
answer_x lane = 172 + 140 * lane

abbrev pub label_x : Lanes → ℕ
label_x lanes = 60 + 140 * length lanes.clients

abbrev pub store_x : Lanes → ℕ → ℕ
store_x lanes lane = 440 + 140 * length lanes.clients + 100 * lane

abbrev pub decision_x : Lanes → ℕ → ℕ
decision_x lanes lane = 414 + 140 * length lanes.clients + 100 * lane

abbrev pub came_x : Lanes → ℕ → ℕ
came_x lanes lane = 450 + 140 * length lanes.clients + 100 * lane

abbrev pub record_x : Lanes → ℕ → ℕ
record_x lanes lane = 440 + 140 * length lanes.clients + 100 * length lanes.stores + 26 * lane

abbrev pub letter_x : Lanes → ℕ → ℕ
letter_x lanes lane = 450 + 140 * length lanes.clients + 100 * length lanes.stores + 26 * lane

abbrev pub lanes_width : Lanes → ℕ
lanes_width lanes = 450 + 140 * length lanes.clients + 100 * length lanes.stores + 26 * length lanes.records

-- at least the width of the legend
abbrev pub width_of : Lanes → ℕ
width_of lanes = if nat_lt (lanes_width lanes) 740 then 740 else lanes_width lanes

---- from the top

abbrev pub height_of : ℕ → ℕ
height_of rows = 290 + 26 * rows

abbrev pub row_y : ℕ → ℕ
row_y row = 260 + 26 * row

abbrev pub text_y : ℕ → ℕ
text_y row = 274 + 26 * row

abbrev pub arrow_y : ℕ → ℕ
arrow_y row = 279 + 26 * row

abbrev pub letter_y : ℕ → ℕ
letter_y row = 294 + 26 * row
