-- Reports that are drawn, and reports that are refused.
use Rattle.std.specs.Prelude.{◌≡◌, ◌<◌, ◌≤◌, List, ◌++◌, length, codes, ℕ, Result, Ok, Err}
use Rattle.std.specs.List.{flat_map}
use Rattle.sdb_model.specs.Plain.{IsPlain}
use Rattle.sdb_model.specs.Report.{report_text_of}
use Rattle.sdb_picture.specs.Types.{Outcome, ReportRefused}
use Rattle.sdb_report.specs.Reports.{IsRefusedAt}
use Rattle.sdb_report.specs.declared.refused.ReportRefused.TheVariants as read
use Rattle.sdb_picture.specs.declared.lanes.Lanes.{Lanes}
use Rattle.sdb_picture.specs.declared.refused.PictureRefused.{PictureRefused}
use Rattle.sdb_picture.specs.declared.refused.PictureRefused.TheVariants as refused
use Rattle.sdb_picture.specs.Marks.{groups_of, picture_of, points_of}
use Rattle.sdb_picture.specs.Svg.{group_svg, heading_svg, mark_svg, svg_of}

abbrev pub svg_over : Lanes → Outcome → List ℕ
svg_over lanes o =
    heading_svg lanes (length o.events) ++ flat_map (mark_svg lanes) (points_of (length o.events) 1 o.order)
    ++ flat_map (group_svg lanes) (groups_of lanes o.events 0 o.events) ++ codes "</svg>\n"

abbrev pub refusal : ReportRefused → PictureRefused
refusal (read.BadLine n) = refused.BadReport n
refusal read.NoMemory = refused.NoMemory

-- The bytes are the report of a plain outcome of at most 1,000 events, and this is its picture.
pub record IsDrawn (report text : List ℕ) : Type 0 where
  pub outcome : Outcome
  pub plain : IsPlain outcome
  pub is_report : report ≡ report_text_of outcome
  pub few : length outcome.events ≤ 1000
  pub drawn : text ≡ svg_of (picture_of outcome)

-- The bytes are the report of a plain outcome of more events.
pub record HasTooMany (report : List ℕ) : Type 0 where
  pub outcome : Outcome
  pub plain : IsPlain outcome
  pub is_report : report ≡ report_text_of outcome
  pub many : 1000 < length outcome.events

abbrev pub IsRefused : List ℕ → PictureRefused → Type 0
IsRefused report (refused.BadReport n) = IsRefusedAt report (read.BadLine n)
IsRefused report refused.TooManyEvents = HasTooMany report
IsRefused report refused.NoMemory = Unit {0}

-- What becomes of an outcome: it is drawn where it has at most 1,000 events, and refused for them where it has more, unless memory
-- runs out. `bytes` gives the bytes of what was drawn.
abbrev pub Answers : {T : Type 0} → (T → List ℕ) → Result T PictureRefused → Outcome → Type 0
Answers bytes (Ok text) o = (length o.events ≤ 1000) × (bytes text ≡ svg_of (picture_of o))
Answers bytes (Err refused.TooManyEvents) o = 1000 < length o.events
Answers bytes (Err refused.NoMemory) o = Unit {0}
Answers bytes (Err (refused.BadReport n)) o = ⊥
