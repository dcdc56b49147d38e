-- No statement of a bench has an LF.
use Rattle.std.proofs.Common.{◌≡◌, ℕ, ◌<◌, true, List, ◌++◌, codes, Some, refl, sym, subst, arith}
use Rattle.std.specs.Prelude.{decimal, slice_get, ◌==◌}
use Rattle.sdb_types.proofs.Public.{by_test, eq_of}
use Rattle.sdb_model.specs.declared.statement.Statement.{Statement}
use Rattle.sdb_model.specs.Follows.{texts_of}
use Rattle.sdb_model.specs.Plain.{HasLines, is_one_line}
use Rattle.sdb_model.specs.Sql.{statement_text_of}
use Rattle.sdb_report.proofs.Public.{IsLine, decimal_one, lines_joined}
use Rattle.sdb_bench.specs.declared.side.Side.{Side}
use Rattle.sdb_bench.specs.declared.side.Side.TheVariants.{Left, Right}
use Rattle.sdb_bench.specs.Setup.{insert_of, namespace_of, update_of}
use Rattle.sdb_bench.specs.Script.{bench_clients, bench_script_of}
use Rattle.sdb_bench.proofs.Playable.{apart, found_in}
use Rattle.sdb_bench.proofs.ReadAs.{Changes, Closes, Inserts, IsInsert, IsOf, IsText, IsUpdate, Opens, Updates, setup_kind, update_texts}
use Rattle.sdb_bench.proofs.Spelled.{insert_spelled, update_spelled}

abbrev PrintsLine : Statement → Type 0
PrintsLine st = IsLine (statement_text_of st)

namespace_line : (side : Side) → IsLine (namespace_of side)
namespace_line Left = refl
namespace_line Right = refl

number_line : (n : ℕ) → n < 1000 → IsLine (decimal n)
number_line n h = decimal_one n (omega arith)

insert_line : (side : Side) (p n : ℕ) → p < 8 → n < 4 → PrintsLine (insert_of side p n)
insert_line side p n hp hn =
    let last = lines_joined (decimal n) (codes ", 0)") (number_line n (omega arith)) refl in
    let values = lines_joined (decimal p) (codes ", " ++ (decimal n ++ codes ", 0)")) (number_line p (omega arith)) last in
    let named = lines_joined (namespace_of side) (codes ".cell (p, n, v) VALUES (" ++ (decimal p ++ (codes ", " ++ (decimal n ++ codes ", 0)")))) (namespace_line side) values in
    subst IsLine (insert_spelled side p n (namespace_of side) refl) named

update_line : (side : Side) (p v : ℕ) → p < 8 → v < 1000 → PrintsLine (update_of side p v)
update_line side p v hp hv =
    let tests : IsLine (codes " WHERE p = " ++ decimal p) = number_line p (omega arith) in
    let sets = lines_joined (decimal v) (codes " WHERE p = " ++ decimal p) (number_line v hv) tests in
    let named = lines_joined (namespace_of side) (codes ".cell SET v = " ++ (decimal v ++ (codes " WHERE p = " ++ decimal p))) (namespace_line side) sets in
    subst IsLine (update_spelled side p v (namespace_of side) refl) named

kind_line : (P : Statement → Type 0) → ((st : Statement) → P st → PrintsLine st) → (text : List ℕ) → IsText (IsOf P) text → IsLine text
kind_line P each text t = subst IsLine (sym t.same) (by t.statement t.kind)
  where
    by : (st : Statement) → IsOf P st → PrintsLine st
    by st (Opens e) = subst PrintsLine (sym e) refl
    by st (Closes e) = subst PrintsLine (sym e) refl
    by st (Changes h) = each st h

inserts_line : (st : Statement) → Inserts st → PrintsLine st
inserts_line st h = subst PrintsLine (sym h.same) (insert_line h.side h.p h.n h.low_p h.low_n)

updates_line : (st : Statement) → Updates st → PrintsLine st
updates_line st h = subst PrintsLine (sym h.same) (update_line h.side h.p h.v h.low_p h.low_v)

texts_line : (n c i : ℕ) (text : List ℕ) → slice_get (texts_of (bench_clients n) c) i ≡ Some text → IsLine text
texts_line n c i text e =
    by_test (c == 1)
    (λ own.
    let setup : slice_get (texts_of (bench_clients n) 1) i ≡ Some text = subst (λ (x : ℕ). slice_get (texts_of (bench_clients n) x) i ≡ Some text) (eq_of c 1 own) e in
    kind_line Inserts inserts_line text (found_in (IsText IsInsert) (texts_of (bench_clients n) 1) (setup_kind n) i text setup))
    (λ other. kind_line Updates updates_line text (found_in (IsText IsUpdate) (texts_of (bench_clients n) c) (update_texts n c (apart c other)) i text e))

pub bench_lines : (n : ℕ) (first last : List ℕ) → HasLines (bench_script_of n first last)
unfolding bench_script_of
bench_lines n first last = texts_line n
