-- Pieces that are added one after another.
use Rattle.std.proofs.Common.{◌≡◌, ℕ, List, ◌++◌, append_assoc, length, codes}
use Rattle.sdb_model.specs.declared.event.Outcome.{Outcome}
use Rattle.sdb_model.specs.Report.{event_lines, heading, order_text_of, tables_text_of, report_start_of, report_end_of, report_text_of}

pub two_pieces : (start a b : List ℕ) {first last : List ℕ} → first ≡ start ++ a → last ≡ first ++ b → last ≡ start ++ (a ++ b)
two_pieces start a b {first} {last} p q = rw (q, p) (simp append_assoc)

pub three_pieces : (start a b c : List ℕ) {first second last : List ℕ} → first ≡ start ++ a → second ≡ first ++ b → last ≡ second ++ c → last ≡ start ++ (a ++ b ++ c)
three_pieces start a b c {first} {second} {last} p q r = rw (r, q, p) (simp append_assoc)

--- a report is its start, the lines of its events, and its end
pub report_parts : (o : Outcome) → report_text_of o ≡ report_start_of o.events ++ event_lines 1 o.events ++ report_end_of o
report_parts o =
    let parts : (t h e a b d : List ℕ) → t ++ (h ++ e) ++ a ++ b ++ d ≡ (t ++ h) ++ e ++ (a ++ b ++ d) = λ t h e a b d. simp append_assoc in
    parts (codes "scalardb report 1\n") (heading (codes "events") (length o.events)) (event_lines 1 o.events) (order_text_of o.order) (tables_text_of o.tables) (codes "end\n")
