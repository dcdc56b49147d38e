-- A line that stops a session.
use Rattle.std.proofs.Common.{◌≡◌, ℕ, false, List, Option, Some, sym, subst}
use Rattle.std.specs.Str.{is_utf8, IsUtf8}
use Rattle.std.proofs.lemmas.Str.{IsUtf8-from_is_utf8}
use Rattle.sdb_types.proofs.Public.{by_test}
use Rattle.sdb_schema.specs.declared.table.Table.{Table}
use Rattle.sdb_shell.specs.Sessions.{SessionAt}
use Rattle.sdb_shell.specs.declared.lines.LineEnd.{LineEnd}
use Rattle.sdb_shell.specs.declared.lines.LineStop.{LineStop}
use Rattle.sdb_shell.specs.declared.refused.SessionRefused.{SessionRefused}
use Rattle.sdb_shell.specs.Handed.{Handed, Reading}
use Rattle.sdb_shell.specs.Lines.{IsCut, IsLine}
use Rattle.sdb_shell.specs.Session.{HasStopped, HasStoppedLine}
use Rattle.sdb_shell.specs.declared.texts.Next.{Next}
use Rattle.sdb_shell.specs.Texts.{Bad, IsBad, IsNext, IsRefusedAt, IsText, Stops, refused_at}

pub stops : (n : ℕ) (old new : Option (List ℕ)) (used used_then : ℕ) (why : SessionRefused) (stop : LineStop) → why ≡ refused_at n stop → IsCut old new used used_then stop → IsRefusedAt n old new used used_then why
stops n old new used used_then why stop is cut = Stops stop is cut

pub refuses : (n : ℕ) (old new : Option (List ℕ)) (used used_then : ℕ) (why : SessionRefused) (end : LineEnd) (line : List ℕ) → IsLine old new used used_then end line → IsBad n line why → IsRefusedAt n old new used used_then why
refuses n old new used used_then why end line read bad = Bad end line read bad

pub no_utf8 : (text : List ℕ) → (IsUtf8 text → ⊥) → false ≡ is_utf8 text
no_utf8 text h = by_test (is_utf8 text) (λ t. absurd (h (IsUtf8-from_is_utf8 text t))) (λ t. sym t)

-- the statement of a line that was read stops it
pub stops_line : (catalog : List Table) (text : List ℕ) (next : Next) (u : Handed) (r : Reading) (s t : SessionAt) (why : SessionRefused) → IsNext r.left r.left_then r.used r.used_then next → next.text ≡ Some text → HasStopped catalog text u s t why → HasStoppedLine catalog u r s t why
stops_line catalog text next u r s t why n is stopped =
    let is_text : IsText n.line (Some text) = subst (IsText n.line) is n.text in
    record {
      line = n.line;
      end = next.end;
      read = n.read;
      some = is_text.1;
      utf8 = is_text.2;
      stopped = subst (λ (l : List ℕ). HasStopped catalog l u s t why) is_text.0 stopped;
    }
