-- Bytes tell keys apart, and a row's bytes say whether it is of a key or of a span.
use Rattle.std.proofs.Common.{◌≡◌, List, Some, All, sym, ap, ◌∙◌, is_eq, arith}
use Rattle.std.specs.Prelude.{bytes_eq, ◌&&◌}
use Rattle.std.specs.Bool.{one_answer}
use Rattle.std.specs.Cmp.Lexicographic.{lists_total}
use Rattle.std.specs.FinMap.{slice_cmp-IsAntisymmetric}
use Rattle.std.proofs.lemmas.Slice.Eq.{bytes_eq-Decides}
use Rattle.std.proofs.lemmas.Map.Text.{is_eq-slice_cmp}
use Rattle.std.proofs.lemmas.List.Elements.{All-nil}
use Rattle.sdb_sqlite.specs.Types.{Key, TableName}
use Rattle.sdb_types.specs.declared.value.Value.{Value as Cell}
use Rattle.sdb_types.specs.Order.{key_cmp, table_cmp, table_text}
use Rattle.sdb_types.specs.Exact.{order_decides}
use Rattle.sdb_types.specs.Fits.{key_fits, value_fits}
use Rattle.sdb_types.specs.ValueLaws.{value_exact, value_total}
use Rattle.sdb_types.specs.Contents.{in_span}
use Rattle.sdb_types.proofs.Public.{and_both, and_first, and_second, by_text, key_exact, key_total, table_exact, table_total}
use Rattle.sdb_codec.specs.Spelling.{key_bytes, KeyIsEncodable, ValueIsEncodable}
use Rattle.sdb_codec.proofs.Public.{key_apart}
use Rattle.sdb_sqlite.specs.Spans.{partition_key, table_is_encodable}

-- the bytes of keys are equal exactly where the keys are
pub same_key : (q a : Key) → key_fits q → key_fits a → KeyIsEncodable q → KeyIsEncodable a → bytes_eq (key_bytes a) (key_bytes q) ≡ is_eq (key_cmp q a)
same_key q a known also fits fit =
    let ties = order_decides key_total key_exact q a in
    one_answer {P = q ≡ a} (bytes_eq (key_bytes a) (key_bytes q)) (is_eq (key_cmp q a))
    (λ h. sym (key_apart a q also known fit fits ((bytes_eq-Decides (key_bytes a) (key_bytes q)).0 h)), λ e. (bytes_eq-Decides (key_bytes a) (key_bytes q)).1 (ap key_bytes (sym e)))
    ties

-- the texts of tables are equal exactly where the tables are
pub same_table : (s t : TableName) → table_is_encodable s → table_is_encodable t → bytes_eq (table_text t) (table_text s) ≡ is_eq (table_cmp s t)
same_table s t known also =
    let ties = order_decides table_total table_exact s t in
    let back : is_eq (table_cmp t s) ≡ bytes_eq (table_text t) (table_text s) = ap is_eq (sym (by_text t s also.0 known.0)) ∙ is_eq-slice_cmp (table_text t) (table_text s) in
    let turned = order_decides table_total table_exact t s in
    sym back ∙ one_answer {P = s ≡ t} (is_eq (table_cmp t s)) (is_eq (table_cmp s t)) (λ h. sym (turned.0 h), λ e. turned.1 (sym e)) ties

pub partition_known : (key : Key) → key_fits key → key_fits (partition_key key.table key.partition)
partition_known key known = record { ns = known.ns; table = known.table; partition = known.partition; clustering = All-nil value_fits }

pub partition_fits : (key : Key) → KeyIsEncodable key → KeyIsEncodable (partition_key key.table key.partition)
partition_fits key fits = record { partition = fits.partition; clustering = record { count = omega arith; lengths = All-nil ValueIsEncodable } }

-- a row of a partition is answered by its table's text and its partition's bytes
pub same_span : (table : TableName) (part : List Cell) (key : Key) → table_is_encodable table → All value_fits part → KeyIsEncodable (partition_key table part) → key_fits key → KeyIsEncodable key
    → (bytes_eq (table_text key.table) (table_text table) && bytes_eq (key_bytes (partition_key key.table key.partition)) (key_bytes (partition_key table part))) ≡ in_span (record { table = table; partition = Some part }) key
same_span table part key t p fits known also =
    let q = partition_key table part in
    let a = partition_key key.table key.partition in
    let mine : key_fits q = record { ns = t.0; table = t.1; partition = p; clustering = All-nil value_fits } in
    let apart = key_apart a q (partition_known key known) mine (partition_fits key also) fits in
    let tables = order_decides table_total table_exact table key.table in
    let parts = order_decides (lists_total value_total) (slice_cmp-IsAntisymmetric value_exact) part key.partition in
    let by_table = same_table table key.table t (known.ns, known.table) in
    let bytes = bytes_eq-Decides (key_bytes a) (key_bytes q) in
    one_answer {P = (table ≡ key.table) × (part ≡ key.partition)} _ _ (
      λ h. (tables.0 (sym by_table ∙ and_first _ _ h), ap (λ (k : Key). k.partition) (sym (apart (bytes.0 (and_second _ _ h))))),
      λ e. and_both _ _ (by_table ∙ tables.1 e.0) (bytes.1 (sym (λ i. key_bytes (partition_key (e.0 i) (e.1 i))))),
    )
    (λ h. (tables.0 (and_first _ _ h), parts.0 (and_second _ _ h)), λ e. and_both _ _ (tables.1 e.0) (parts.1 e.1))
