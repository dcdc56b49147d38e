-- What a verdict on a script and the report of it says.
use Rattle.std.specs.Prelude.{ℕ, List, [], ◌∷◌, codes}
use Rattle.sdb_model.specs.declared.event.Outcome.{Outcome}
use Rattle.sdb_model.specs.declared.script.Script.{Script}
use Rattle.sdb_model.specs.Causes.{AreCaused}
use Rattle.sdb_model.specs.Counted.{AreCounted, AreResolved}
use Rattle.sdb_model.specs.Plain.{IsPlain}
use Rattle.sdb_model.specs.Report.{report_text_of}
use Rattle.sdb_model.specs.DirtyReads.{NoDirtyReads}
use Rattle.sdb_client.specs.Execution.{IsExecution}
use Rattle.sdb_report.specs.Reports.{IsFirstBad}
use Rattle.sdb_script.specs.Whole.{IsScript, IsRefused}
use Rattle.sdb_script.specs.declared.fault.ScriptRefused.{ScriptRefused}
use Rattle.check_answers.specs.declared.stores.Stores.{Stores}
use Rattle.check_answers.specs.Values.{all_moments, all_contents}
use Rattle.sdb_judge.specs.Input.{IsSplit}
use Rattle.sdb_judge.specs.declared.promises.Promise.{Promise}
use Rattle.sdb_judge.specs.declared.promises.Promise.TheVariants as promise
use Rattle.sdb_judge.specs.declared.promises.Verdict.{Verdict}
use Rattle.sdb_judge.specs.declared.promises.Verdict.TheVariants as verdict
use Rattle.sdb_judge.specs.declared.refused.JudgeRefused.{JudgeRefused}
use Rattle.sdb_judge.specs.declared.refused.JudgeRefused.TheVariants.{NoScript, NoReport, NoMemory as OutOfMemory}

-- the stores that the program attaches, in their order
abbrev pub own_stores : List (List ℕ)
own_stores = codes "ordered" ∷ codes "hashed" ∷ codes "sqlite" ∷ codes "sharded" ∷ []

-- What is promised of events whatever the stores reply: they are an execution of the script's clients, each answer has its cause, calls are
-- counted, and unresolved records were rolled before an answer.
pub record FollowsProtocol (script : Script) (o : Outcome) : Type 0 where
  pub executed : IsExecution script o.events
  pub caused : AreCaused script.catalog o.events
  pub counted : AreCounted script.catalog o.events
  pub resolved : AreResolved o.events

-- Rows that answers show were committed, or the transaction's own, by what stores contain.
abbrev pub ReadsAreCommitted : Script → Outcome → Stores → Type 0
ReadsAreCommitted script o x = NoDirtyReads script.catalog x.places o.events (all_contents x.opening) (all_moments x.moments)

-- A promise of the events that fails. Whether events are an execution is decided soundly alone, so the verdict says nothing where that one fails; nor
-- where one fails that is checked without a contract.
abbrev pub Fails : Script → Outcome → Promise → Type 0
Fails script o promise.Causes = AreCaused script.catalog o.events → ⊥
Fails script o promise.Counts = AreCounted script.catalog o.events → ⊥
Fails script o promise.Resolved = AreResolved o.events → ⊥
Fails script o _ = Unit {0}

-- What a verdict says of an outcome of a script.
abbrev pub IsVerdictOf : Script → Outcome → Verdict → Type 0
IsVerdictOf script o verdict.AsPromised = FollowsProtocol script o
IsVerdictOf script o (verdict.Fails p) = Fails script o p

-- A text is that of a script and the report of an outcome after it, and the verdict is on these.
pub record IsJudged (text : List ℕ) (v : Verdict) : Type 0 where
  pub before : List ℕ
  pub script : Script
  pub outcome : Outcome
  pub split : IsSplit text before (report_text_of outcome)
  pub is_script : IsScript own_stores before script
  pub is_plain : IsPlain outcome
  pub says : IsVerdictOf script outcome v

---- refusals

-- What comes before the report is refused as a script.
pub record HasNoScript (text : List ℕ) (r : ScriptRefused) : Type 0 where
  pub before : List ℕ
  pub report : List ℕ
  pub split : IsSplit text before report
  pub refused : IsRefused own_stores before r

-- What comes before the report is a script, and this line of what comes after it is the first that no report has there.
pub record HasNoReport (text : List ℕ) (line : ℕ) : Type 0 where
  pub before : List ℕ
  pub script : Script
  pub report : List ℕ
  pub split : IsSplit text before report
  pub is_script : IsScript own_stores before script
  pub refused : IsFirstBad report line

-- Why a text isn't judged. Out of memory may come of any text.
abbrev pub IsNotJudged : List ℕ → JudgeRefused → Type 0
IsNotJudged text (NoScript r) = HasNoScript text r
IsNotJudged text (NoReport line) = HasNoReport text line
IsNotJudged text OutOfMemory = Unit {0}

-- a refusal of what comes before the report, and one of the report
abbrev pub IsNoScript : List ℕ → JudgeRefused → Type 0
IsNoScript before (NoScript r) = IsRefused own_stores before r
IsNoScript before (NoReport line) = ⊥
IsNoScript before OutOfMemory = Unit {0}

abbrev pub IsNoReport : List ℕ → JudgeRefused → Type 0
IsNoReport report (NoScript r) = ⊥
IsNoReport report (NoReport line) = IsFirstBad report line
IsNoReport report OutOfMemory = Unit {0}
