-- What is printed of parts without an LF has none.
use Rattle.std.proofs.Common.{◌≡◌, ℕ, ℤ, pos, negsuc, suc, ◌+◌, ◌-◌, ◌/◌, ◌%◌, ◌^◌, ◌<◌, ◌≤◌, Bool, true, false, cond, ltb, ◌==◌, List, [], ◌∷◌, ◌++◌, length, All, Option, Some, None, IfSome, refl, subst, arith, flat_map, zero}
use Rattle.std.specs.Prelude.{codes, slice_index, FitsSigned}
use Rattle.std.specs.Fmt.{decimal, signed_decimal}
use Rattle.std.specs.Int.{w64, w128, to_be_bytes}
use Rattle.std.specs.List.{list_all, AllByRecursion, join_by}
use Rattle.std.proofs.lemmas.Bool.{ltb-false, eqb-true}
use Rattle.std.proofs.lemmas.Bool.Decides.{nat_tests}
use Rattle.std.proofs.lemmas.Fmt.{decimal_by_steps}
use Rattle.std.proofs.lemmas.List.Elements.{recursion_from_All}
use Rattle.hex.specs.Hex.{encode_with, encode_upper, hex_digit_value, upper_digits}
use Rattle.hex.proofs.HexLemmas.{IsDigits-upper_digits}
use Rattle.uuid.specs.Text.{by_index, hex_digit, lower, nibble, is_hyphen_place, digit_place, hyphen}
use Rattle.sdb_types.specs.Fits.{value_fits, pair_fits, key_fits, columns_fit, record_fits}
use Rattle.sdb_types.specs.Identifier.{is_part, is_name}
use Rattle.sdb_types.specs.Order.{table_text}
use Rattle.sdb_types.specs.TxId.{id_text}
use Rattle.sdb_schema.specs.Kinds.{kind_text}
use Rattle.sdb_schema.specs.declared.table.Kind.TheVariants as kind
use Rattle.sdb_report.specs.Types.{Altered, Answer, Condition, Event, How, Key, Kind, Pair, Put, Record, Reply, Request, TableName, Value}
use Rattle.sdb_types.specs.declared.record.Condition.TheVariants.{Absent, Version}
use Rattle.sdb_types.specs.declared.record.Reply.TheVariants as reply
use Rattle.sdb_types.specs.declared.record.Request.TheVariants as ask
use Rattle.sdb_types.specs.declared.record.State.TheVariants.{Prepared, Deleted, Committed, Aborted}
use Rattle.sdb_types.specs.declared.value.Value.TheVariants as value
use Rattle.sdb_types.proofs.Public.{and_both, and_first, and_second, by_test, parts}
use Rattle.sdb_model.specs.Plain.{is_no_lf, is_one_line, table_is_plain, IsFoundAt, values_are_plain, put_is_plain, request_is_plain, reply_is_plain, altered_is_plain, IsPlainAnswer, IsPlainGiven, HasPlainParts}
use Rattle.sdb_model.specs.Report.{given_text_of, condition_text_of, put_text_of, request_text_of, how_text_of, found_text_of, reply_text_of, altered_text_of, event_text_of}
use Rattle.sdb_model.specs.Texts.{doubled, value_text_of, values_text_of, row_text_of, clustering_text_of, key_text_of, partition_text_of, pair_text_of, columns_text_of, record_text_of, found_columns_text_of, rows_text_of, answer_text_of}
use Rattle.sdb_model.specs.declared.answer.Answer.TheVariants as answer
use Rattle.sdb_model.specs.declared.event.Altered.TheVariants as altered
use Rattle.sdb_model.specs.declared.event.Event.TheVariants as event
use Rattle.sdb_model.specs.declared.event.How.TheVariants.{Seen, Lost, Discarded, Delayed, Broken}
use Rattle.sdb_report.specs.OneLine.{ValueHasNoLf, ValuesHaveNoLf, KeyHasNoLf, ColumnsHaveNoLf, RecordHasNoLf, AnswerHasNoLf, RequestHasNoLf, ReplyHasNoLf, EventHasNoLf}
use Rattle.sdb_report.proofs.ValueLaws.{is_long}

abbrev pub IsLine : List ℕ → Type 0
IsLine text = is_one_line text ≡ true

pub lines_joined : (xs ys : List ℕ) → is_one_line xs ≡ true → is_one_line ys ≡ true → is_one_line (xs ++ ys) ≡ true
lines_joined [] ys h k = k
lines_joined (x ∷ xs) ys h k = and_both (is_no_lf x) _ (and_first (is_no_lf x) _ h) (lines_joined xs ys (and_second (is_no_lf x) _ h) k)

pub line_ends : (xs ys : List ℕ) → is_one_line (xs ++ ys) ≡ true → is_one_line ys ≡ true
line_ends [] ys h = h
line_ends (x ∷ xs) ys h = line_ends xs ys (and_second (is_no_lf x) _ h)

digit_no_lf : (d : ℕ) → is_no_lf (48 + d) ≡ true
digit_no_lf d = grind (arith, nat_tests)

pub decimal_one : (n : ℕ) → n < 2 ^ 64 → is_one_line (decimal n) ≡ true
decimal_one n lt =
    decimal_by_steps (λ n ds. is_one_line ds ≡ true) (λ n small. rw (digit_no_lf n) refl)
    (λ n ds ge h. lines_joined ds ((48 + n % 10) ∷ []) h (rw (digit_no_lf (n % 10)) refl)) n lt

signed_one : (z : ℤ) → FitsSigned w64 z → IsLine (signed_decimal z)
signed_one (pos n) fits = let lt : n < 2 ^ 63 = fits.sfits in decimal_one n (omega arith)
signed_one (negsuc n) fits = let lt : n < 2 ^ 63 = fits.sfits in decimal_one (suc n) (omega arith)

part_no_lf : (c : ℕ) → is_part c ≡ true → is_no_lf c ≡ true
part_no_lf c h = grind (arith, nat_tests)

parts_one : (cs : List ℕ) → list_all is_part cs ≡ true → is_one_line cs ≡ true
parts_one [] h = refl
parts_one (c ∷ cs) h = and_both (is_no_lf c) _ (part_no_lf c (and_first (is_part c) _ h)) (parts_one cs (and_second (is_part c) _ h))

pub name_one : (name : List ℕ) → is_name name ≡ true → is_one_line name ≡ true
name_one name h = parts_one name (parts name h)

pub table_one : (t : TableName) → table_is_plain t → is_one_line (table_text t) ≡ true
table_one t fits = lines_joined t.ns (46 ∷ t.table) (name_one t.ns fits.ns) (name_one t.table fits.table)

by_index_one : (n : ℕ) (f : ℕ → ℕ) → ((k : ℕ) → is_no_lf (f k) ≡ true) → is_one_line (by_index n f) ≡ true
unfolding by_index
by_index_one zero f h = refl
by_index_one (suc n) f h = lines_joined (by_index n f) (f n ∷ []) (by_index_one n f h) (rw (h n) refl)

hex_no_lf : (d : ℕ) → is_no_lf (hex_digit lower d) ≡ true
hex_no_lf d =
    by_test (ltb d 10) (λ e. rw e (digit_no_lf d))
    (λ e. let ge : 10 ≤ d = ltb-false d 10 e in let k : (97 + d - 10 == 10) ≡ false = grind (arith, nat_tests) in rw (e, k) refl)

either_no_lf : (b : Bool) (d : ℕ) → is_no_lf (cond b hyphen (hex_digit lower d)) ≡ true
either_no_lf true d = refl
either_no_lf false d = hex_no_lf d

pub id_one : (n : ℕ) → is_one_line (id_text n) ≡ true
id_one n = by_index_one 36 _ (λ k. either_no_lf (is_hyphen_place k) (nibble (to_be_bytes w128 n) (digit_place k)))

---- values

upper_no_lf : (c d : ℕ) → hex_digit_value c ≡ Some d → is_no_lf c ≡ true
upper_no_lf c d h =
    by_test (c == 10)
    (λ e. let is : c ≡ 10 = eqb-true c 10 e in let bad : hex_digit_value 10 ≡ Some d = subst (λ (x : ℕ). hex_digit_value x ≡ Some d) is h in absurd cc)
    (λ e. rw e refl)

hex_one : (bs : List ℕ) → AllByRecursion (λ b. b < 256) bs → IsLine (encode_upper bs)
unfolding encode_with
hex_one [] fits = refl
hex_one (b ∷ bs) fits =
    let high = upper_no_lf (slice_index upper_digits (b / 16)) (b / 16) (IsDigits-upper_digits (b / 16) (omega (arith, fits.0))) in
    let low = upper_no_lf (slice_index upper_digits (b % 16)) (b % 16) (IsDigits-upper_digits (b % 16) (omega arith)) in
    rw (high, low) (hex_one bs fits.1)

doubled_one : (text : List ℕ) → IsLine text → IsLine (flat_map doubled text)
doubled_one [] h = refl
doubled_one (b ∷ bs) h =
    lines_joined (doubled b) (flat_map doubled bs) (by_test (b == 39) (λ e. rw e refl) (λ e. rw (e, and_first (is_no_lf b) _ h) refl)) (doubled_one bs (and_second (is_no_lf b) _ h))

pub value_one : (v : Value) → value_fits v → ValueHasNoLf v → IsLine (value_text_of v)
value_one value.Null fits h = refl
value_one (value.Bool true) fits h = refl
value_one (value.Bool false) fits h = refl
value_one (value.Int n) fits h = signed_one n (is_long n fits)
value_one (value.BigInt n) fits h = lines_joined (signed_decimal n) (codes "L") (signed_one n fits) refl
value_one (value.Text text) fits h = lines_joined (flat_map doubled text) (codes "'") (doubled_one text h) refl
value_one (value.Blob bytes) fits h = lines_joined (encode_upper bytes) (codes "'") (hex_one bytes (recursion_from_All (λ b. b < 256) bytes fits)) refl

-- texts one after another, each after a prefix
flat_one : {X : Type 0} (front : List ℕ) (text : X → List ℕ) → IsLine front → (xs : List X) → AllByRecursion (λ x. IsLine (text x)) xs → IsLine (flat_map (λ x. front ++ text x) xs)
flat_one front text f [] h = refl
flat_one front text f (x ∷ xs) h = lines_joined (front ++ text x) (flat_map (λ y. front ++ text y) xs) (lines_joined front (text x) f h.0) (flat_one front text f xs h.1)

join_one : {X : Type 0} (text : X → List ℕ) (xs : List X) → AllByRecursion (λ x. IsLine (text x)) xs → IsLine (join_by text (codes ",") xs)
join_one text [] h = refl
join_one text (x ∷ xs) h = lines_joined (text x) (flat_map (λ y. codes "," ++ text y) xs) h.0 (flat_one (codes ",") text refl xs h.1)

-- two facts of each give a third
zipped : {X : Type 0} (P Q R : X → Type 0) → ((x : X) → P x → Q x → R x) → (xs : List X) → AllByRecursion P xs → AllByRecursion Q xs → AllByRecursion R xs
zipped P Q R each [] h k = tt
zipped P Q R each (x ∷ xs) h k = (each x h.0 k.0, zipped P Q R each xs h.1 k.1)

all_one : {X : Type 0} (P Q : X → Type 0) (text : X → List ℕ) → ((x : X) → P x → Q x → IsLine (text x)) → (xs : List X) → All P xs → All Q xs → AllByRecursion (λ x. IsLine (text x)) xs
all_one P Q text each xs h k = zipped P Q (λ x. IsLine (text x)) each xs (recursion_from_All P xs h) (recursion_from_All Q xs k)

pub values_one : (vs : List Value) → values_are_plain vs → ValuesHaveNoLf vs → IsLine (values_text_of vs)
values_one vs fits h = join_one value_text_of vs (all_one value_fits ValueHasNoLf value_text_of value_one vs fits h)

pub row_one : (vs : List Value) → values_are_plain vs → ValuesHaveNoLf vs → IsLine (row_text_of vs)
row_one vs fits h = lines_joined (codes "(" ++ values_text_of vs) (codes ")") (lines_joined (codes "(") (values_text_of vs) refl (values_one vs fits h)) refl

clustering_one : (vs : List Value) → values_are_plain vs → ValuesHaveNoLf vs → IsLine (clustering_text_of vs)
clustering_one [] fits h = refl
clustering_one (v ∷ vs) fits h = lines_joined (codes ";") (values_text_of (v ∷ vs)) refl (values_one (v ∷ vs) fits h)

---- keys and records

pub key_one : (k : Key) → key_fits k → KeyHasNoLf k → IsLine (key_text_of k)
key_one k fits h =
    let t = table_one k.table (record { ns = fits.ns; table = fits.table }) in
    let a = lines_joined (table_text k.table) (codes "(") t refl in
    let b = lines_joined (table_text k.table ++ codes "(") (values_text_of k.partition) a (values_one k.partition fits.partition h.partition) in
    let c = lines_joined (table_text k.table ++ codes "(" ++ values_text_of k.partition) (clustering_text_of k.clustering) b (clustering_one k.clustering fits.clustering h.clustering) in
    lines_joined (table_text k.table ++ codes "(" ++ values_text_of k.partition ++ clustering_text_of k.clustering) (codes ")") c refl

pair_one : (p : Pair) → pair_fits p → ValueHasNoLf p.value → IsLine (pair_text_of p)
pair_one p fits h = lines_joined (p.name ++ codes "=") (value_text_of p.value) (lines_joined p.name (codes "=") (name_one p.name fits.0) refl) (value_one p.value fits.1 h)

columns_one : (ps : List Pair) → columns_fit ps → ColumnsHaveNoLf ps → IsLine (columns_text_of ps)
columns_one ps fits h =
    let inside = join_one pair_text_of ps (all_one pair_fits (λ p. ValueHasNoLf p.value) pair_text_of pair_one ps fits.pairs h) in
    lines_joined (codes "{" ++ join_by pair_text_of (codes ",") ps) (codes "}") (lines_joined (codes "{") (join_by pair_text_of (codes ",") ps) refl inside) refl

pub record_one : (r : Record) → record_fits r → RecordHasNoLf r → IsLine (record_text_of r)
record_one r fits h = lines_joined (key_text_of r.key) (columns_text_of r.columns) (key_one r.key fits.key h.key) (columns_one r.columns fits.columns h.columns)

---- answers

then_space : (xs ys : List ℕ) → IsLine xs → IsLine ys → IsLine (xs ++ codes " " ++ ys)
then_space xs ys h k = lines_joined (xs ++ codes " ") ys (lines_joined xs (codes " ") h refl) k

found_columns_one : (key : Key) (found : Option Record) → IfSome found (IsFoundAt key) → IfSome found RecordHasNoLf → IsLine (found_columns_text_of found)
found_columns_one key None fits h = refl
found_columns_one key (Some r) fits h = columns_one r.columns fits.fits.columns h.columns

rows_one : (rows : List (List Value)) → length rows < 2 ^ 64 → All values_are_plain rows → All ValuesHaveNoLf rows → IsLine (rows_text_of rows)
rows_one rows lt fits h =
    lines_joined (decimal (length rows)) (flat_map (λ row. codes " " ++ row_text_of row) rows) (decimal_one (length rows) lt)
    (flat_one (codes " ") row_text_of refl rows (all_one values_are_plain ValuesHaveNoLf row_text_of row_one rows fits h))

pub answer_one : (a : Answer) → IsPlainAnswer a → AnswerHasNoLf a → IsLine (answer_text_of a)
answer_one (answer.Rows rows) fits h = rows_one rows fits.0 fits.1 h
answer_one (answer.Count n) fits h = decimal_one n fits
answer_one answer.Done fits h = refl
answer_one answer.Committed fits h = refl
answer_one (answer.Duplicate key) fits h = key_one key fits h
answer_one (answer.Busy key id at) fits h =
    then_space (codes "busy " ++ key_text_of key ++ codes " " ++ id_text id.0) (signed_decimal at) (then_space (codes "busy " ++ key_text_of key) (id_text id.0) (key_one key fits.0 h) (id_one id.0)) (signed_one at fits.2)
answer_one (answer.Conflict key found) fits h = then_space (codes "conflict " ++ key_text_of key) (found_columns_text_of found) (key_one key fits.0 h.0) (found_columns_one key found fits.1 h.1)
answer_one (answer.Expired id) fits h = id_one id.0
answer_one answer.Faulted fits h = refl
answer_one (answer.Unknown id) fits h = id_one id.0
answer_one (answer.BadRecord key) fits h = key_one key fits h
answer_one (answer.Refused r) fits h = then_space (codes "refused " ++ decimal r.kind) (decimal r.place) (decimal_one r.kind (omega (arith, fits.kind))) (decimal_one r.place (omega (arith, fits.place)))
answer_one answer.Vacuuming fits h = refl
answer_one answer.OpenTransactions fits h = refl
answer_one answer.NoMemory fits h = refl

given_one : (given : Option Answer) → IsPlainGiven given → IfSome given AnswerHasNoLf → IsLine (given_text_of given)
given_one None fits h = refl
given_one (Some a) fits h = answer_one a fits h

---- requests and replies

condition_one : (c : Condition) → IsLine (condition_text_of c)
condition_one Absent = refl
condition_one (Version id Prepared) = then_space (id_text id.0) (decimal 1) (id_one id.0) (decimal_one 1 (omega arith))
condition_one (Version id Deleted) = then_space (id_text id.0) (decimal 2) (id_one id.0) (decimal_one 2 (omega arith))
condition_one (Version id Committed) = then_space (id_text id.0) (decimal 3) (id_one id.0) (decimal_one 3 (omega arith))
condition_one (Version id Aborted) = then_space (id_text id.0) (decimal 4) (id_one id.0) (decimal_one 4 (omega arith))

partition_one : (p : Option (List Value)) → IfSome p values_are_plain → IfSome p ValuesHaveNoLf → IsLine (partition_text_of p)
partition_one None fits h = refl
partition_one (Some vs) fits h = row_one vs fits h

put_one : (p : Put) → put_is_plain p → RecordHasNoLf p.rec → IsLine (put_text_of p)
put_one p fits h = lines_joined (record_text_of p.rec ++ codes " if ") (condition_text_of p.condition) (lines_joined (record_text_of p.rec) (codes " if ") (record_one p.rec fits.rec h) refl) (condition_one p.condition)

request_one : (r : Request) → request_is_plain r → RequestHasNoLf r → IsLine (request_text_of r)
request_one (ask.Get key) fits h = key_one key fits h
request_one (ask.Scan span) fits h = lines_joined (table_text span.table) (partition_text_of span.partition) (table_one span.table fits.table) (partition_one span.partition fits.partition h)
request_one (ask.PutIf r c) fits h =
    lines_joined (codes "put " ++ record_text_of r ++ codes " if ") (condition_text_of c) (lines_joined (codes "put " ++ record_text_of r) (codes " if ") (record_one r fits.0 h) refl) (condition_one c)
request_one (ask.DeleteIf key c) fits h =
    lines_joined (codes "delete " ++ key_text_of key ++ codes " if ") (condition_text_of c) (lines_joined (codes "delete " ++ key_text_of key) (codes " if ") (key_one key fits.0 h) refl) (condition_one c)
request_one (ask.PutAll b) fits h =
    lines_joined (decimal (length b)) (flat_map (λ p. codes " " ++ put_text_of p) b) (decimal_one (length b) fits.0)
    (flat_one (codes " ") put_text_of refl b (all_one put_is_plain (λ p. RecordHasNoLf p.rec) put_text_of put_one b fits.1 h))

how_one : (how : How) → IsLine (how_text_of how)
how_one Seen = refl
how_one Lost = refl
how_one Discarded = refl
how_one Delayed = refl
how_one Broken = refl

found_one : (found : Option Record) → IfSome found record_fits → IfSome found RecordHasNoLf → IsLine (found_text_of found)
found_one None fits h = refl
found_one (Some r) fits h = record_one r fits h

reply_one : (r : Reply) → reply_is_plain r → ReplyHasNoLf r → IsLine (reply_text_of r)
reply_one (reply.Found found) fits h = found_one found fits h
reply_one (reply.Rows rows) fits h =
    lines_joined (decimal (length rows)) (flat_map (λ r. codes " " ++ record_text_of r) rows) (decimal_one (length rows) fits.0)
    (flat_one (codes " ") record_text_of refl rows (all_one record_fits RecordHasNoLf record_text_of record_one rows fits.1 h))
reply_one reply.Applied fits h = refl
reply_one (reply.NotMet found) fits h = found_one found fits h
reply_one (reply.NotAll k found) fits h = then_space (codes "notall " ++ decimal k) (found_text_of found) (decimal_one k (omega (arith, fits.0))) (found_one found fits.1 h)
reply_one reply.Fault fits h = refl
reply_one reply.NoMemory fits h = refl

kind_one : (k : Kind) → IsLine (kind_text k)
kind_one kind.Boolean = refl
kind_one kind.Int = refl
kind_one kind.BigInt = refl
kind_one kind.Text = refl
kind_one kind.Blob = refl

altered_one : (a : Altered) → altered_is_plain a → IsLine (altered_text_of a)
altered_one altered.Done fits = refl
altered_one altered.Open fits = refl
altered_one (altered.Refused n) fits = decimal_one n (omega (arith, fits))

---- events

pub event_one : (e : Event) → HasPlainParts e → EventHasNoLf e → IsLine (event_text_of e)
event_one (event.Take client text given) fits h =
    let front = then_space (codes "take " ++ decimal client) (given_text_of given) (decimal_one client (omega (arith, fits.0))) (given_one given fits.2 h.1) in
    lines_joined (codes "take " ++ decimal client ++ codes " " ++ given_text_of given ++ codes " : ") text (lines_joined (codes "take " ++ decimal client ++ codes " " ++ given_text_of given) (codes " : ") front refl) h.0
event_one (event.Call client store request how reply given) fits h =
    let a = then_space (codes "call " ++ decimal client) store (decimal_one client (omega (arith, fits.0))) (name_one store fits.1) in
    let b = then_space (codes "call " ++ decimal client ++ codes " " ++ store) (request_text_of request) a (request_one request fits.2 h.0) in
    let c = then_space (codes " " ++ how_text_of how) (reply_text_of reply) (how_one how) (reply_one reply fits.3 h.1) in
    let d = then_space (codes " " ++ how_text_of how ++ codes " " ++ reply_text_of reply) (given_text_of given) c (given_one given fits.4 h.2) in
    lines_joined (codes "call " ++ decimal client ++ codes " " ++ store ++ codes " " ++ request_text_of request) (codes " " ++ how_text_of how ++ codes " " ++ reply_text_of reply ++ codes " " ++ given_text_of given) b d
event_one (event.Stop client) fits h = decimal_one client (omega (arith, fits))
event_one (event.Clock moment) fits h = signed_one moment fits
event_one (event.Idle client) fits h = decimal_one client (omega (arith, fits))
event_one (event.Land number store request how reply) fits h =
    let a = then_space (codes "land " ++ decimal number) store (decimal_one number (omega (arith, fits.0))) (name_one store fits.1) in
    let b = then_space (codes "land " ++ decimal number ++ codes " " ++ store) (request_text_of request) a (request_one request fits.2 h.0) in
    let c = then_space (codes " " ++ how_text_of how) (reply_text_of reply) (how_one how) (reply_one reply fits.3 h.1) in
    lines_joined (codes "land " ++ decimal number ++ codes " " ++ store ++ codes " " ++ request_text_of request) (codes " " ++ how_text_of how ++ codes " " ++ reply_text_of reply) b c
event_one (event.Alter table column kind altered) fits h =
    let a = lines_joined (codes "alter ") (table_text table) refl (table_one table fits.0) in
    let b = then_space (codes "alter " ++ table_text table) column a (name_one column fits.1) in
    let c = then_space (codes "alter " ++ table_text table ++ codes " " ++ column) (kind_text kind) b (kind_one kind) in
    then_space (codes "alter " ++ table_text table ++ codes " " ++ column ++ codes " " ++ kind_text kind) (altered_text_of altered) c (altered_one altered fits.2)
