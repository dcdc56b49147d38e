-- How what is drawn is printed as SVG.
use Rattle.std.specs.Prelude.{ℕ, ◌+◌, ◌*◌, List, [], ◌∷◌, ◌++◌, codes, decimal}
use Rattle.std.specs.List.{flat_map}
use Rattle.sdb_model.specs.Report.{how_text_of}
use Rattle.sdb_model.specs.Rows.{Name}
use Rattle.sdb_model.specs.Texts.{key_text_of}
use Rattle.sdb_model.specs.declared.event.How.{How}
use Rattle.sdb_model.specs.declared.event.How.TheVariants.{Seen, Lost, Discarded, Delayed, Broken}
use Rattle.sdb_picture.specs.declared.effect.Effect.{Effect}
use Rattle.sdb_picture.specs.declared.effect.Effect.TheVariants as effect
use Rattle.sdb_picture.specs.declared.effect.Stage.{Stage}
use Rattle.sdb_picture.specs.declared.effect.Stage.TheVariants as stage
use Rattle.sdb_picture.specs.declared.effect.Verdict.{Verdict}
use Rattle.sdb_picture.specs.declared.effect.Verdict.TheVariants as verdict
use Rattle.sdb_picture.specs.declared.heading.TheConstants.{LEGEND, STYLE}
use Rattle.sdb_picture.specs.declared.lanes.Lanes.{Lanes}
use Rattle.sdb_picture.specs.declared.lanes.Place.{Place}
use Rattle.sdb_picture.specs.Labels.{escaped_text, label_text}
use Rattle.sdb_picture.specs.Marks.{Mark, Statement, Arrow, Answered, Band, Decided, Rested, Ticked, Landed, Pointed, Group, Picture}
use Rattle.sdb_picture.specs.Places.{answer_x, arrow_y, came_x, client_x, decision_x, height_of, label_x, letter_x, letter_y, record_x, row_y, statement_x, store_x, text_y, width_of}

---- texts

-- what a label begins with
unfoldable pub tag_svg : List ℕ → ℕ → ℕ → List ℕ
tag_svg class x y =
    codes "<text class=\"" ++ class ++ codes "\" x=\"" ++ decimal x ++ codes "\" y=\"" ++ decimal y ++ codes "\">"

-- A label of a class at a place, cut to a width.
unfoldable pub text_svg : List ℕ → ℕ → ℕ → ℕ → List ℕ → List ℕ
text_svg class x y width text = tag_svg class x y ++ label_text width text ++ codes "</text>\n"

---- words

abbrev pub doubt_text : Effect → List ℕ
doubt_text effect.Sure = codes "sure"
doubt_text effect.Doubtful = codes "doubtful"
doubt_text effect.Nothing = codes "sure"

abbrev pub stage_text : Stage → List ℕ
stage_text stage.Prepared = codes "prepared"
stage_text stage.Deleting = codes "deleting"
stage_text stage.Committed = codes "committed"
stage_text stage.Deleted = codes "deleted"
stage_text stage.RolledBack = codes "rolledback"
stage_text stage.Other = codes "other"

-- the letter of a band
abbrev pub stage_letter : Stage → List ℕ
stage_letter stage.Prepared = codes "P"
stage_letter stage.Deleting = codes "D"
stage_letter stage.Committed = codes "C"
stage_letter stage.Deleted = codes "X"
stage_letter stage.RolledBack = codes "R"
stage_letter stage.Other = codes "?"

abbrev pub verdict_text : Verdict → List ℕ
verdict_text verdict.Committed = codes "commit"
verdict_text verdict.Aborted = codes "abort"
verdict_text verdict.Other = codes "other"

abbrev pub verdict_letter : Verdict → List ℕ
verdict_letter verdict.Committed = codes "C"
verdict_letter verdict.Aborted = codes "A"
verdict_letter verdict.Other = codes "?"

-- The tip of an arrow, from its end: a head where the call was made, full where the reply was seen, a cross where the call was
-- not made, or not yet, and a square where the store failed.
abbrev pub tip_text : How → List ℕ
tip_text Seen = codes "l-10,-5v10z"
tip_text Lost = codes "l-10,-5v10z"
tip_text Discarded = codes "m-12,-5l10,10m0,-10l-10,10"
tip_text Delayed = codes "m-12,-5l10,10m0,-10l-10,10"
tip_text Broken = codes "m-10,-5h10v10h-10z"

---- marks

unfoldable pub dot_svg : ℕ → ℕ → List ℕ
dot_svg x y = codes "<circle class=\"take\" cx=\"" ++ decimal x ++ codes "\" cy=\"" ++ decimal y ++ codes "\" r=\"4\"/>\n"

unfoldable pub statement_svg : ℕ → ℕ → List ℕ → List ℕ
statement_svg row client text =
    dot_svg (client_x client) (arrow_y row) ++ text_svg (codes "statement") (statement_x client) (text_y row) 58 text

unfoldable pub line_svg : List ℕ → ℕ → ℕ → ℕ → List ℕ
line_svg class from to y =
    codes "<path class=\"call " ++ class ++ codes "\" d=\"M" ++ decimal from ++ codes "," ++ decimal y ++ codes "H" ++ decimal to ++ codes "\"/>\n"

unfoldable pub tip_svg : How → ℕ → ℕ → List ℕ
tip_svg how x y =
    codes "<path class=\"tip " ++ how_text_of how ++ codes "\" d=\"M" ++ decimal x ++ codes "," ++ decimal y ++ tip_text how ++ codes "\"/>\n"

unfoldable pub arrow_svg : Lanes → ℕ → ℕ → ℕ → How → List ℕ → List ℕ → List ℕ
arrow_svg lanes row client store how asked came =
    line_svg (how_text_of how) (client_x client) (store_x lanes store) (arrow_y row)
    ++ tip_svg how (store_x lanes store) (arrow_y row)
    ++ text_svg (codes "ask") (label_x lanes) (text_y row) 42 asked
    ++ text_svg (codes "came") (came_x lanes store) (text_y row) 10 came

-- from where the labels of calls begin, since no client makes it
unfoldable pub landing_svg : Lanes → ℕ → ℕ → How → List ℕ → List ℕ → List ℕ
landing_svg lanes row store how asked came =
    line_svg (how_text_of how) (label_x lanes) (store_x lanes store) (arrow_y row)
    ++ tip_svg how (store_x lanes store) (arrow_y row)
    ++ text_svg (codes "ask") (label_x lanes) (text_y row) 42 asked
    ++ text_svg (codes "came") (came_x lanes store) (text_y row) 10 came

unfoldable pub wedge_svg : ℕ → ℕ → List ℕ
wedge_svg x y = codes "<path class=\"answer\" d=\"M" ++ decimal x ++ codes "," ++ decimal y ++ codes "m-15,0l10,-5v10z\"/>\n"

unfoldable pub answer_svg : ℕ → ℕ → List ℕ → List ℕ
answer_svg row client text =
    wedge_svg (client_x client) (arrow_y row) ++ text_svg (codes "answered") (answer_x client) (text_y row) 15 text

unfoldable pub band_tag_svg : Stage → Effect → List ℕ
band_tag_svg stage effect = codes "<rect class=\"band " ++ stage_text stage ++ codes " " ++ doubt_text effect

-- a rectangle of the width of a band
unfoldable pub box_svg : ℕ → ℕ → ℕ → List ℕ
box_svg x y height =
    codes "\" x=\"" ++ decimal x ++ codes "\" y=\"" ++ decimal y ++ codes "\" width=\"20\" height=\"" ++ decimal height ++ codes "\"/>\n"

unfoldable pub band_svg : Lanes → ℕ → ℕ → ℕ → Stage → Effect → List ℕ
band_svg lanes lane row rows stage effect =
    band_tag_svg stage effect ++ box_svg (record_x lanes lane) (arrow_y row) (26 + 26 * rows)
    ++ text_svg (codes "letter") (letter_x lanes lane) (letter_y row) 1 (stage_letter stage)

unfoldable pub diamond_svg : Verdict → Effect → ℕ → ℕ → List ℕ
diamond_svg verdict effect x y =
    codes "<path class=\"decision " ++ verdict_text verdict ++ codes " " ++ doubt_text effect
    ++ codes "\" d=\"M" ++ decimal x ++ codes "," ++ decimal y ++ codes "m0,-11l11,11l-11,11l-11,-11z\"/>\n"

unfoldable pub decision_svg : Lanes → ℕ → ℕ → Verdict → Effect → List ℕ
decision_svg lanes row store verdict effect =
    diamond_svg verdict effect (decision_x lanes store) (arrow_y row)
    ++ text_svg (codes "verdict") (decision_x lanes store) (arrow_y row) 1 (verdict_letter verdict)

unfoldable pub cross_svg : ℕ → ℕ → List ℕ
cross_svg x y = codes "<path class=\"rest\" d=\"M" ++ decimal x ++ codes "," ++ decimal y ++ codes "m-5,-5l10,10m0,-10l-10,10\"/>\n"

unfoldable pub rest_svg : ℕ → ℕ → List ℕ → List ℕ
rest_svg row client text =
    cross_svg (client_x client) (arrow_y row) ++ text_svg (codes "note") (statement_x client) (text_y row) 48 text

unfoldable pub tick_svg : ℕ → List ℕ → List ℕ
tick_svg row text = text_svg (codes "note") 66 (text_y row) 48 text

unfoldable pub point_title_svg : ℕ → List ℕ → List ℕ
point_title_svg place id = codes "<g>\n<title>" ++ decimal place ++ codes ": " ++ escaped_text id ++ codes "</title>\n"

unfoldable pub point_line_svg : ℕ → ℕ → List ℕ
point_line_svg y width =
    codes "<path class=\"point\" d=\"M58," ++ decimal y ++ codes "H" ++ decimal width ++ codes "\"/>\n<circle class=\"badge\" cx=\"48\" cy=\"" ++ decimal y ++ codes "\" r=\"10\"/>\n"

unfoldable pub place_svg : ℕ → ℕ → List ℕ
place_svg y place = codes "<text class=\"place\" x=\"48\" y=\"" ++ decimal y ++ codes "\">" ++ decimal place ++ codes "</text>\n"

-- a line below the row of the last of so many events, with its place in the order
unfoldable pub point_svg : Lanes → ℕ → ℕ → List ℕ → List ℕ
point_svg lanes events place id =
    point_title_svg place id ++ point_line_svg (row_y events) (width_of lanes) ++ place_svg (row_y events) place ++ codes "</g>\n"

abbrev pub mark_svg : Lanes → Mark → List ℕ
mark_svg lanes (Statement row client text) = statement_svg row client text
mark_svg lanes (Arrow row client store how asked came) = arrow_svg lanes row client store how asked came
mark_svg lanes (Answered row client text) = answer_svg row client text
mark_svg lanes (Band lane row rows stage effect) = band_svg lanes lane row rows stage effect
mark_svg lanes (Decided row store verdict effect) = decision_svg lanes row store verdict effect
mark_svg lanes (Rested row client text) = rest_svg row client text
mark_svg lanes (Ticked row text) = tick_svg row text
mark_svg lanes (Landed row store how asked came) = landing_svg lanes row store how asked came
mark_svg lanes (Pointed events place id) = point_svg lanes events place id

unfoldable pub title_svg : List ℕ → List ℕ
title_svg title = codes "<g>\n<title>" ++ escaped_text title ++ codes "</title>\n"

-- the number of the event in a row
unfoldable pub number_svg : ℕ → List ℕ
number_svg row = codes "<text class=\"number\" x=\"32\" y=\"" ++ decimal (text_y row) ++ codes "\">" ++ decimal (row + 1) ++ codes "</text>\n"

-- An event: its line as a title, its number, and its marks.
unfoldable pub group_svg : Lanes → Group → List ℕ
group_svg lanes g =
    title_svg g.title ++ number_svg g.row ++ flat_map (mark_svg lanes) g.marks ++ codes "</g>\n"

---- lanes

unfoldable pub lane_svg : ℕ → ℕ → List ℕ
lane_svg x rows =
    codes "<path class=\"lane\" d=\"M" ++ decimal x ++ codes ",252V" ++ decimal (row_y rows) ++ codes "\"/>\n"

unfoldable pub client_title : ℕ → List ℕ
client_title client = codes "client " ++ decimal client

unfoldable pub client_svg : ℕ → ℕ → ℕ → List ℕ
client_svg rows lane client =
    lane_svg (client_x lane) rows ++ text_svg (codes "head") (client_x lane) 244 15 (client_title client)

-- the clients from a lane on
abbrev pub clients_svg : ℕ → ℕ → List ℕ → List ℕ
clients_svg rows lane [] = []
clients_svg rows lane (c ∷ cs) = client_svg rows lane c ++ clients_svg rows (lane + 1) cs

unfoldable pub store_svg : Lanes → ℕ → ℕ → Name → List ℕ
store_svg lanes rows lane name =
    lane_svg (store_x lanes lane) rows ++ text_svg (codes "head") (store_x lanes lane) 244 12 name

-- the stores from a lane on
abbrev pub stores_svg : Lanes → ℕ → ℕ → List Name → List ℕ
stores_svg lanes rows lane [] = []
stores_svg lanes rows lane (s ∷ ss) = store_svg lanes rows lane s ++ stores_svg lanes rows (lane + 1) ss

-- the name of a record: its store and its key
unfoldable pub place_text : Place → List ℕ
place_text p = p.store ++ codes " " ++ key_text_of p.key

-- a text written upwards, under itself as a title, but for its end
unfoldable pub upwards_svg : ℕ → List ℕ → List ℕ
upwards_svg x text =
    codes "<text class=\"key\" transform=\"translate(" ++ decimal x ++ codes ",248)rotate(-90)\"><title>" ++ escaped_text text ++ codes "</title>" ++ label_text 32 text

-- the head of a record's bands
unfoldable pub record_svg : Lanes → ℕ → Place → List ℕ
record_svg lanes lane p = upwards_svg (letter_x lanes lane) (place_text p) ++ codes "</text>\n"

-- the records from a lane on
abbrev pub records_svg : Lanes → ℕ → List Place → List ℕ
records_svg lanes lane [] = []
records_svg lanes lane (p ∷ ps) = record_svg lanes lane p ++ records_svg lanes (lane + 1) ps

unfoldable pub lanes_svg : Lanes → ℕ → List ℕ
lanes_svg lanes rows = clients_svg rows 0 lanes.clients ++ stores_svg lanes rows 0 lanes.stores ++ records_svg lanes 0 lanes.records

---- the whole

-- The size of the picture, in its own units: a page draws it as wide as itself.
unfoldable pub opening_svg : ℕ → ℕ → List ℕ
opening_svg width height =
    codes "<svg xmlns=\"http://www.w3.org/2000/svg\" style=\"width:100%;height:auto\" viewBox=\"0 0 " ++ decimal width ++ codes " " ++ decimal height ++ codes "\">\n"

unfoldable pub paper_svg : ℕ → ℕ → List ℕ
paper_svg width height = codes "<rect class=\"paper\" width=\"" ++ decimal width ++ codes "\" height=\"" ++ decimal height ++ codes "\"/>\n"

-- every second row is darker
unfoldable pub stripes_svg : ℕ → ℕ → List ℕ
stripes_svg width rows =
    codes "<rect class=\"rows\" y=\"260\" width=\"" ++ decimal width ++ codes "\" height=\"" ++ decimal (26 * rows) ++ codes "\"/>\n"

-- size, style and background
unfoldable pub ground_svg : Lanes → ℕ → List ℕ
ground_svg lanes rows =
    opening_svg (width_of lanes) (height_of rows) ++ STYLE.now ++ paper_svg (width_of lanes) (height_of rows) ++ stripes_svg (width_of lanes) rows

unfoldable pub heading_svg : Lanes → ℕ → List ℕ
heading_svg lanes rows = ground_svg lanes rows ++ LEGEND.now ++ lanes_svg lanes rows

-- A picture: its head, the points, and the events over them.
abbrev pub svg_of : Picture → List ℕ
svg_of p =
    heading_svg p.lanes p.rows ++ flat_map (mark_svg p.lanes) p.points ++ flat_map (group_svg p.lanes) p.groups ++ codes "</svg>\n"
