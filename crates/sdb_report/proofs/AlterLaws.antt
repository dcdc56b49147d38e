-- Columns that are to be added to tables: what is read is there, and what is there is read.
use Rattle.std.proofs.Common.{◌≡◌, ℕ, ◌^◌, ◌<◌, List, [], ◌∷◌, ◌++◌, Some, None, refl, sym, ap, subst, ◌∙◌, append-nil, arith}
use Rattle.std.specs.Prelude.{codes}
use Rattle.std.specs.Fmt.{decimal}
use Rattle.std.proofs.lemmas.Option.{same_Some}
use Rattle.sdb_types.specs.Options.{◌>>=◌}
use Rattle.sdb_types.specs.Order.{table_text}
use Rattle.sdb_types.proofs.Public.{bind_some}
use Rattle.sdb_schema.specs.Kinds.{kind_text}
use Rattle.sdb_schema.specs.declared.table.Kind.TheVariants as kind
use Rattle.sdb_report.specs.Types.{Altered, Kind, TableName}
use Rattle.sdb_model.specs.Plain.{altered_is_plain, table_is_plain}
use Rattle.sdb_model.specs.Report.{altered_text_of}
use Rattle.sdb_model.specs.declared.event.Altered.TheVariants as altered
use Rattle.sdb_report.specs.FieldReading.{case_of, after, name_at, natural_below, table_at}
use Rattle.sdb_report.specs.Lines.{behind_space, kind_at, refused_at, altered_at, column_at}
use Rattle.sdb_report.proofs.WordLaws.{case_some, join, Says, Sound, itself, IsName, name_sound, name_again}
use Rattle.sdb_report.proofs.NumberLaws.{below_sound, below_again}
use Rattle.sdb_report.proofs.KeyLaws.{table_sound, table_again}
use Rattle.sdb_report.proofs.AnswerLaws.{behind_sound, made_sound, word_sound, join_space}

---- kinds

abbrev pub any_kind : Kind → Type 0
any_kind k = Unit {0}

pub kind_sound : Sound kind_at kind_text any_kind
unfolding kind_at
kind_sound bytes x h =
    let blob = case_of (after (codes "BLOB") bytes) (λ rest. Some (kind.Blob, rest)) None in
    let text = case_of (after (codes "TEXT") bytes) (λ rest. Some (kind.Text, rest)) blob in
    let bigint = case_of (after (codes "BIGINT") bytes) (λ rest. Some (kind.BigInt, rest)) text in
    let int = case_of (after (codes "INT") bytes) (λ rest. Some (kind.Int, rest)) bigint in
    case_some (after (codes "BOOLEAN") bytes) (λ rest. Some (kind.Boolean, rest)) int (Some x) h (λ rest q k. word_sound (codes "BOOLEAN") kind.Boolean kind_text any_kind refl tt bytes rest x q k) (λ q k.
    case_some (after (codes "INT") bytes) (λ rest. Some (kind.Int, rest)) bigint (Some x) k (λ rest q k. word_sound (codes "INT") kind.Int kind_text any_kind refl tt bytes rest x q k) (λ q k.
    case_some (after (codes "BIGINT") bytes) (λ rest. Some (kind.BigInt, rest)) text (Some x) k (λ rest q k. word_sound (codes "BIGINT") kind.BigInt kind_text any_kind refl tt bytes rest x q k) (λ q k.
    case_some (after (codes "TEXT") bytes) (λ rest. Some (kind.Text, rest)) blob (Some x) k (λ rest q k. word_sound (codes "TEXT") kind.Text kind_text any_kind refl tt bytes rest x q k) (λ q k.
    case_some (after (codes "BLOB") bytes) (λ rest. Some (kind.Blob, rest)) None (Some x) k (λ rest q k. word_sound (codes "BLOB") kind.Blob kind_text any_kind refl tt bytes rest x q k) (λ q k. absurd cc)))))

pub kind_again : (k : Kind) (rest : List ℕ) → kind_at (kind_text k ++ rest) ≡ Some (k, rest)
unfolding kind_at
kind_again kind.Boolean rest = refl
kind_again kind.Int rest = refl
kind_again kind.BigInt rest = refl
kind_again kind.Text rest = refl
kind_again kind.Blob rest = refl

---- what became of it

pub altered_sound : Sound altered_at altered_text_of altered_is_plain
unfolding altered_at
altered_sound bytes x h =
    let refused = case_of (after (codes "refused ") bytes) refused_at None in
    let unless_done = case_of (after (codes "open") bytes) (λ rest. Some (altered.Open, rest)) refused in
    case_some (after (codes "done") bytes) (λ rest. Some (altered.Done, rest)) unless_done (Some x) h (λ rest q k. word_sound (codes "done") altered.Done altered_text_of altered_is_plain refl tt bytes rest x q k) (λ q k.
    case_some (after (codes "open") bytes) (λ rest. Some (altered.Open, rest)) refused (Some x) k (λ rest q k. word_sound (codes "open") altered.Open altered_text_of altered_is_plain refl tt bytes rest x q k) (λ q k.
    case_some (after (codes "refused ") bytes) refused_at None (Some x) k
    (λ rest q k. made_sound (natural_below (2 ^ 8)) decimal (λ n. n < 2 ^ 8) altered.Refused (codes "refused ") altered_text_of altered_is_plain (below_sound (2 ^ 8)) (λ n. refl) (λ n f. f) bytes rest x q k)
    (λ q k. absurd cc)))

number_last : (n : ℕ) → n < 2 ^ 8 → natural_below (2 ^ 8) (decimal n) ≡ Some (n, [])
number_last n lt = ap (natural_below (2 ^ 8)) (sym (append-nil (decimal n))) ∙ below_again (2 ^ 8) n [] (omega arith) lt refl

pub altered_last : (a : Altered) → altered_is_plain a → altered_at (altered_text_of a) ≡ Some (a, [])
unfolding altered_at
altered_last altered.Done fits = refl
altered_last altered.Open fits = refl
altered_last (altered.Refused n) fits = rw (number_last n fits) refl

---- the column

abbrev pub Column : Type 0
Column = TableName × List ℕ × Kind

-- a table, a column and its kind, after a word
abbrev pub column_of : List ℕ → Column → List ℕ
column_of word c = word ++ table_text c.0 ++ codes " " ++ c.1 ++ codes " " ++ kind_text c.2

abbrev pub ColumnFits : Column → Type 0
ColumnFits c = table_is_plain c.0 × IsName c.1

pub column_is : (word line rest : List ℕ) (x : Column × List ℕ) → line ≡ word ++ rest → column_at rest ≡ Some x → Says (column_of word) ColumnFits line x
unfolding column_at
column_is word line rest x p h =
    let a = bind_some (table_at rest) (λ table. behind_space name_at table.1 >>= λ column. behind_space kind_at column.1 >>= λ kind. Some ((table.0, column.0, kind.0), kind.1)) x h in
    let b = bind_some (behind_space name_at a.0.1) (λ column. behind_space kind_at column.1 >>= λ kind. Some ((a.0.0, column.0, kind.0), kind.1)) x a.2 in
    let c = bind_some (behind_space kind_at b.0.1) (λ kind. Some ((a.0.0, b.0.0, kind.0), kind.1)) x b.2 in
    let t = table_sound rest a.0 a.1 in
    let n = behind_sound name_at itself IsName name_sound a.0.1 b.0 b.1 in
    let k = behind_sound kind_at kind_text any_kind kind_sound b.0.1 c.0 c.1 in
    let two = join word (table_text a.0.0) a.0.1 p t.parts in
    let three = join_space (word ++ table_text a.0.0) b.0.0 b.0.1 two n.parts in
    subst (Says (column_of word) ColumnFits line) (same_Some ((a.0.0, b.0.0, c.0.0), c.0.1) x c.2)
    (record { parts = join_space (word ++ table_text a.0.0 ++ codes " " ++ b.0.0) (kind_text c.0.0) c.0.1 three k.parts; fits = (t.fits, n.fits) })

pub column_again : (t : TableName) (name : List ℕ) (k : Kind) (rest : List ℕ) → table_is_plain t → IsName name → column_at (table_text t ++ 32 ∷ (name ++ 32 ∷ (kind_text k ++ 32 ∷ rest))) ≡ Some ((t, name, k), 32 ∷ rest)
unfolding column_at
column_again t name k rest plain named =
    rw (table_again t (32 ∷ (name ++ 32 ∷ (kind_text k ++ 32 ∷ rest))) plain refl, name_again name (32 ∷ (kind_text k ++ 32 ∷ rest)) named refl, kind_again k (32 ∷ rest)) refl
