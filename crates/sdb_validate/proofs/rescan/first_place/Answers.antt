use Rattle.std.proofs.Common.{◌≡◌, ◌∙◌, sym, ap}
use Rattle.std.specs.Prelude.{slice_get}
use Rattle.sdb_validate.specs.declared.rescan.Verdict.TheVariants.{Here}
use Rattle.sdb_validate.specs.Merge.{verdict_on}
use Rattle.sdb_validate.proofs.Places.{missing_found, row_differs, row_left, absent_goes_on, here_goes_on, here_within}
use Rattle.sdb_validate.proofs.rescan.first_place.Goals as goal
use Rattle.sdb_validate.proofs.rescan.first_place.Goals.{in-Absent, in-Here}

pub returns-in-Missing : goal.returns-in-Missing
returns-in-Missing c =
    missing_found c.args.wants.now c.args.rows.now c.loop-i.i c.loop-i.next c.index-wants-i.result c.loop-i-test.true c.index-wants-i.is (ap (verdict_on c.index-wants-i.result) (sym c.row_at.ensures) ∙ sym c.judge.ensures ∙ c.in-Missing.is)
    ∙ c.loop-i.invariant.rest

pub returns-in-Differs : goal.returns-in-Differs
returns-in-Differs c =
    row_differs c.args.wants.now c.args.rows.now c.loop-i.i c.loop-i.next c.index-wants-i.result c.loop-i-test.true c.index-wants-i.is (ap (verdict_on c.index-wants-i.result) (sym c.row_at.ensures) ∙ sym c.judge.ensures ∙ c.in-Differs.is)
    ∙ c.loop-i.invariant.rest

pub returns-then-next-rows : goal.returns-then-next-rows
returns-then-next-rows c =
    row_left c.args.wants.now c.args.rows.now c.loop-i.i c.loop-i.next c.loop-i-test.false ∙ c.loop-i.invariant.rest

pub loop-i-preserved : goal.loop-i-preserved
loop-i-preserved c =
    elim c.match-judge.branch [
      | in-Absent w ↦ record {
        within = rw w.next-is c.loop-i.invariant.within;
        rest = rw w.next-is (absent_goes_on c.args.wants.now c.args.rows.now c.loop-i.i c.loop-i.next c.index-wants-i.result c.loop-i-test.true c.index-wants-i.is (ap (verdict_on c.index-wants-i.result) (sym c.row_at.ensures) ∙ sym c.judge.ensures ∙ w.in-Absent.is) ∙ c.loop-i.invariant.rest);
      }
      | in-Here w ↦
          let here : verdict_on c.index-wants-i.result (slice_get c.args.rows.now c.loop-i.next) ≡ Here = ap (verdict_on c.index-wants-i.result) (sym c.row_at.ensures) ∙ sym c.judge.ensures ∙ w.in-Here.is in
          record {
            within = rw w.next-is (here_within c.index-wants-i.result c.args.rows.now c.loop-i.next here);
            rest = rw w.next-is (here_goes_on c.args.wants.now c.args.rows.now c.loop-i.i c.loop-i.next c.index-wants-i.result c.loop-i-test.true c.index-wants-i.is here ∙ c.loop-i.invariant.rest);
          }
    ]
