-- The texts of the statements, each of which is made in one place.
use Rattle.std.specs.Prelude.{List, ℕ, codes}

abbrev pub make_table : List ℕ
make_table = codes "CREATE TABLE IF NOT EXISTS records(k BLOB NOT NULL PRIMARY KEY, t TEXT NOT NULL, p BLOB NOT NULL, r BLOB NOT NULL) STRICT"

abbrev pub make_index : List ℕ
make_index = codes "CREATE INDEX IF NOT EXISTS records_by_partition ON records(t, p)"

abbrev pub get_body : List ℕ
get_body = codes "SELECT r FROM records WHERE k = ?1"

abbrev pub scan_table : List ℕ
scan_table = codes "SELECT k, r FROM records WHERE t = ?1"

abbrev pub scan_partition : List ℕ
scan_partition = codes "SELECT k, r FROM records WHERE t = ?1 AND p = ?2"

abbrev pub add_row : List ℕ
add_row = codes "INSERT INTO records (k, t, p, r) VALUES (?1, ?2, ?3, ?4)"

abbrev pub change_row : List ℕ
change_row = codes "UPDATE records SET r = ?2 WHERE k = ?1"

abbrev pub remove_row : List ℕ
remove_row = codes "DELETE FROM records WHERE k = ?1"

abbrev pub begin : List ℕ
begin = codes "BEGIN"

abbrev pub commit : List ℕ
commit = codes "COMMIT"

abbrev pub roll_back : List ℕ
roll_back = codes "ROLLBACK"
