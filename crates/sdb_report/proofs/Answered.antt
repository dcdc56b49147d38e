-- What is answered of a report.
use Rattle.std.proofs.Common.{◌≡◌, List, ℕ, Result, Ok, Err, IfOk, sym, ap, ◌∙◌}
use Rattle.sdb_model.specs.Plain.{IsPlain}
use Rattle.sdb_model.specs.Report.{report_text_of}
use Rattle.sdb_model.specs.declared.event.Outcome.{Outcome}
use Rattle.sdb_report.specs.Reading.{report_in}
use Rattle.sdb_report.specs.Reports.{Reads, Answers}
use Rattle.sdb_report.specs.declared.refused.ReportRefused.{ReportRefused}
use Rattle.sdb_report.specs.declared.refused.ReportRefused.TheVariants as refused
use Rattle.sdb_report.proofs.PartLaws.{in_sound, in_again}
use Rattle.sdb_codec.proofs.Public.{ok_is}

pub ok_told : (bytes : List ℕ) (r : Result Outcome ReportRefused) → Reads bytes r (report_in bytes) → IfOk r (λ o. IsPlain o × (bytes ≡ report_text_of o))
ok_told bytes (Ok o) h = in_sound bytes o h
ok_told bytes (Err refused.NoMemory) h = tt
ok_told bytes (Err (refused.BadLine n)) h = tt

pub only_told : (bytes : List ℕ) (r : Result Outcome ReportRefused) → Reads bytes r (report_in bytes) → (o : Outcome) → IsPlain o → bytes ≡ report_text_of o → Answers r o
only_told bytes (Ok p) h o plain e = ok_is p o (sym h ∙ ap report_in e ∙ in_again o plain)
only_told bytes (Err refused.NoMemory) h o plain e = tt
only_told bytes (Err (refused.BadLine n)) h o plain e = let k = sym h.1 ∙ ap report_in e ∙ in_again o plain in absurd cc
