-- Rows and what is wanted, merged in key order.
use Rattle.std.specs.Prelude.{Bool, true, ◌&&◌, if◌then◌else◌, List, [], ◌∷◌, drop, Option, Some, None, slice_get}
use Rattle.std.specs.FinMap.Entries.{by_order}
use Rattle.std.specs.Ordering.{is_lt}
use Rattle.sdb_validate.specs.Types.{Key, Record, Target, Wanted}
use Rattle.sdb_types.specs.Order.{key_cmp}
use Rattle.sdb_phases.specs.declared.check.Target.TheVariants as target
use Rattle.sdb_phases.specs.Checks.{is_granted}
use Rattle.sdb_validate.specs.declared.rescan.Verdict.{Verdict}
use Rattle.sdb_validate.specs.declared.rescan.Verdict.TheVariants as verdict
use Rattle.sdb_validate.specs.declared.rescan.Place.{Place}
use Rattle.sdb_validate.specs.declared.rescan.Place.TheVariants as place

abbrev pub verdict_absent : Wanted → Verdict
verdict_absent w = if is_granted w.wish None then verdict.Absent else verdict.Missing

abbrev pub verdict_here : Wanted → Record → Verdict
verdict_here w r = if is_granted w.wish (Some r) then verdict.Here else verdict.Differs

-- what is wanted at a key, against the next row
abbrev pub verdict_on : Wanted → Option Record → Verdict
verdict_on w None = verdict_absent w
verdict_on w (Some r) = by_order (key_cmp w.key r.key) (verdict_absent w) (verdict_here w r) verdict.Differs

abbrev pub row_place : Option Record → Option (Key × Option Record)
row_place None = None
row_place (Some r) = Some (r.key, Some r)

-- the first difference, found by going through both lists at once
abbrev pub merge : List Wanted → List Record → Option (Key × Option Record)
merge [] rows = row_place (slice_get rows 0)
merge (w ∷ ws) rows =
    elim (verdict_on w (slice_get rows 0)) [ verdict.Absent ↦ merge ws rows | verdict.Here ↦ merge ws (drop 1 rows) | verdict.Missing ↦ Some (w.key, None) | verdict.Differs ↦ row_place (slice_get rows 0) ]

abbrev pub missing_place : Option Wanted → Option (Key × Option Record)
missing_place None = None
missing_place (Some w) = Some (w.key, None)

-- the difference at a place
abbrev pub located : List Wanted → List Record → Option Place → Option (Key × Option Record)
located ws rows None = None
located ws rows (Some (place.Missing i)) = missing_place (slice_get ws i)
located ws rows (Some (place.Row j)) = row_place (slice_get rows j)

---- what is wanted is in key order

abbrev pub below_wanted : Key → List Wanted → Bool
below_wanted key [] = true
below_wanted key (w ∷ ws) = is_lt (key_cmp key w.key) && below_wanted key ws

abbrev pub wanted_rise : List Wanted → Bool
wanted_rise [] = true
wanted_rise (w ∷ ws) = below_wanted w.key ws && wanted_rise ws

abbrev pub target_rises : Target → Bool
target_rises (target.Version version) = true
target_rises (target.Rows ws) = wanted_rise ws
