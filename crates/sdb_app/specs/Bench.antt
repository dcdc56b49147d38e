-- What the program promises of a bench.
use Rattle.std.specs.Prelude.{◌≡◌, ℕ, ◌-◌, List, [], length, slice_get, unwrap_or}
use Rattle.sdb_stores.specs.Views.{Attached, StoreView as Counted, names_of}
use Rattle.sdb_app.specs.Types.{Outcome, Script}
use Rattle.sdb_model.specs.Rows.{Name}
use Rattle.sdb_bench.specs.Counts.{bench_text_of, uneven_of}
use Rattle.sdb_bench.specs.Script.{bench_script_of}
use Rattle.sdb_app.specs.declared.status.Status.{Status}
use Rattle.sdb_app.specs.Ends.{Work}
use Rattle.sdb_app.specs.Run.{IsReportable, StopsRun, ContentsAreKnown}

abbrev pub name_at : List Name → ℕ → Name
name_at stores i = unwrap_or (slice_get stores i) []

-- the script of a bench over stores of these names: on the first and on the last
abbrev pub bench_over : ℕ → List Name → Script
bench_over n stores = bench_script_of n (name_at stores 0) (name_at stores (length stores - 1))

-- The script of a bench was run, and the answer has the numbers that are counted over one outcome of it, of which everything holds that holds
-- of a script that was read. Where the stores of its tables have known contents, no pair is uneven.
pub record IsBenchedOn (n : ℕ) (old : Attached) (left : List Counted) (answer : List ℕ) : Type 0 where
  pub outcome : Outcome
  pub made : IsReportable (bench_over n (names_of old.views)) old left outcome
  pub text : answer ≡ bench_text_of n outcome
  pub even : ContentsAreKnown (bench_over n (names_of old.views)) old → uneven_of outcome.tables ≡ 0

-- Nothing was read for it.
pub record IsBenched (n : ℕ) (work : Work) (answer : List ℕ) : Type 0 where
  pub benched : IsBenchedOn n work.old work.left answer
  pub unread : work.rest ≡ work.input

-- Why `bench` has no answer: its script was not run to its end, and nothing was read.
pub record StopsBench (n : ℕ) (work : Work) (s : Status) : Type 0 where
  pub cause : StopsRun (bench_over n (names_of work.old.views)) work.old work.left s
  pub unread : work.rest ≡ work.input
