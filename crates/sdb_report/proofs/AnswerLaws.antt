-- Answers: what is read is there, and what is there is read.
use Rattle.std.proofs.Common.{◌≡◌, ℕ, ◌^◌, ◌<◌, true, List, [], ◌∷◌, ◌++◌, length, All, Option, Some, None, IfSome, refl, sym, ap, subst, ◌∙◌, append_assoc, arith, flat_map}
use Rattle.std.specs.Prelude.{codes, FitsSigned}
use Rattle.std.specs.Char.{is_ascii_digit}
use Rattle.std.specs.Fmt.{decimal, signed_decimal}
use Rattle.std.specs.Int.{w64}
use Rattle.std.proofs.lemmas.List.Elements.{All-from_recursion, recursion_from_All}
use Rattle.std.proofs.lemmas.Option.{same_Some}
use Rattle.sdb_types.specs.Fits.{key_fits}
use Rattle.sdb_report.specs.Types.{Answer, Key, Record, Value}
use Rattle.sdb_model.specs.Plain.{is_counted, id_is_plain, values_are_plain, IsFoundAt, IsPlainAnswer, IsPlainGiven}
use Rattle.sdb_model.specs.Report.{given_text_of}
use Rattle.sdb_model.specs.Texts.{row_text_of, key_text_of, found_columns_text_of, rows_text_of, answer_text_of}
use Rattle.sdb_model.specs.declared.answer.Answer.TheVariants as answer
use Rattle.sdb_report.specs.FieldReading.{Read, case_of, after, natural_at, natural_below, integer_at, counted, row_at, key_at, columns_at, id_at}
use Rattle.sdb_report.specs.Lines.{made, behind_space, items_at, rows_at, busy_at, found_columns_at, conflict_at, refusal_at, rows_answer_at, count_at, duplicate_at, expired_at, unknown_at, bad_record_at, long_answer_at, answer_at, given_at}
use Rattle.sdb_report.proofs.WordLaws.{case_some, join, Says, Sound, Again, after_is, stops_at}
use Rattle.sdb_report.proofs.NumberLaws.{natural_sound, natural_again, below_sound, below_again, integer_sound, integer_again, id_text_of, id_sound, id_again}
use Rattle.sdb_report.proofs.Lists.{Each-all, counted_is, counted_again}
use Rattle.sdb_report.proofs.ValueLaws.{row_sound, row_again}
use Rattle.sdb_report.proofs.KeyLaws.{key_sound, key_again, columns_sound, columns_again}
use Rattle.sdb_types.proofs.Public.{bind_some}
use Rattle.sdb_types.specs.Options.{◌>>=◌}

-- no digit goes on
abbrev pub EndsDigits : List ℕ → Type 0
EndsDigits rest = stops_at is_ascii_digit rest ≡ true

---- pieces

abbrev pub behind : {X : Type 0} → (X → List ℕ) → X → List ℕ
behind text x = codes " " ++ text x

pub behind_sound : {X : Type 0} (read : List ℕ → Read X) (text : X → List ℕ) (P : X → Type 0) → Sound read text P → Sound (behind_space read) (behind text) P
behind_sound read text P each bytes x h =
    let a = bind_some (after (codes " ") bytes) read x h in
    let s = each a.0 x a.2 in
    record { parts = join (codes " ") (text x.0) x.1 (after_is (codes " ") bytes a.0 a.1) s.parts; fits = s.fits }

-- what is read and made into something else, after a word
pub made_sound : {X Y : Type 0} (read : List ℕ → Read X) (text : X → List ℕ) (P : X → Type 0) (f : X → Y) (word : List ℕ) (whole : Y → List ℕ) (Q : Y → Type 0)
    → Sound read text P → ((x : X) → whole (f x) ≡ word ++ text x) → ((x : X) → P x → Q (f x))
    → (bytes rest : List ℕ) (y : Y × List ℕ) → after word bytes ≡ Some rest → made f (read rest) ≡ Some y → Says whole Q bytes y
made_sound read text P f word whole Q each same fits bytes rest y q h =
    let a = bind_some (read rest) (λ x. Some (f x.0, x.1)) y h in
    let s = each rest a.0 a.1 in
    subst (Says whole Q bytes) (same_Some (f a.0.0, a.0.1) y a.2)
    (record { parts = join word (text a.0.0) a.0.1 (after_is word bytes rest q) s.parts ∙ ap (λ (t : List ℕ). t ++ a.0.1) (sym (same a.0.0)); fits = fits a.0.0 s.fits })

-- what is a word alone
pub word_sound : {Y : Type 0} (word : List ℕ) (v : Y) (whole : Y → List ℕ) (Q : Y → Type 0) → whole v ≡ word → Q v
    → (bytes rest : List ℕ) (y : Y × List ℕ) → after word bytes ≡ Some rest → Some (v, rest) ≡ Some y → Says whole Q bytes y
word_sound word v whole Q e fits bytes rest y q k =
    subst (Says whole Q bytes) (same_Some (v, rest) y k) (record { parts = after_is word bytes rest q ∙ ap (λ (t : List ℕ). t ++ rest) (sym e); fits = fits })

-- one part, a space, and the next part
pub join_space : (x y c : List ℕ) {a b : List ℕ} → a ≡ x ++ b → b ≡ (codes " " ++ y) ++ c → a ≡ (x ++ codes " " ++ y) ++ c
join_space x y c p q = p ∙ ap (λ (t : List ℕ). x ++ t) q ∙ sym (append_assoc x (codes " ") (y ++ c)) ∙ sym (append_assoc (x ++ codes " ") y c)

---- rows

-- a list after its length, each item after a space
abbrev pub counted_text : {X : Type 0} → (X → List ℕ) → List X → List ℕ
counted_text text xs = decimal (length xs) ++ flat_map (behind text) xs

abbrev pub CountedFit : {X : Type 0} → (X → Type 0) → List X → Type 0
CountedFit P xs = is_counted xs × All P xs

pub items_sound : {X : Type 0} (read : List ℕ → Read X) (text : X → List ℕ) (P : X → Type 0) → Sound read text P → Sound (items_at read) (counted_text text) (CountedFit P)
items_sound {X} read text P each bytes x h =
    let a = bind_some (natural_at bytes) (λ n. counted (behind_space read) n.0 [] n.1) x h in
    let n = natural_sound bytes a.0 a.1 in
    let c = counted_is (behind_space read) (behind text) P (behind_sound read text P each) a.0.0 [] a.0.1 x a.2 in
    let len : length x.0 ≡ a.0.0 = ap (λ (xs : List X). length xs) c.more.all ∙ c.count in
    let rest : a.0.1 ≡ flat_map (behind text) x.0 ++ x.1 = c.more.parts ∙ ap (λ (xs : List X). flat_map (behind text) xs ++ x.1) (sym c.more.all) in
    record {
      parts = join (decimal a.0.0) (flat_map (behind text) x.0) x.1 n.parts rest ∙ ap (λ (k : ℕ). (decimal k ++ flat_map (behind text) x.0) ++ x.1) (sym len);
      fits = (subst (λ (k : ℕ). k < 2 ^ 64) (sym len) n.fits, subst (All P) (sym c.more.all) (All-from_recursion P c.more.items (Each-all (λ xs x. P x) P (λ xs x f. f) [] c.more.items c.more.each)));
    }

space_stops : {X : Type 0} (text : X → List ℕ) (xs : List X) (rest : List ℕ) → EndsDigits rest → EndsDigits (flat_map (behind text) xs ++ rest)
space_stops text [] rest e = e
space_stops text (x ∷ xs) rest e = refl

pub items_again : {X : Type 0} (read : List ℕ → Read X) (text : X → List ℕ) (P : X → Type 0) → Again read text P
    → (xs : List X) (rest : List ℕ) → CountedFit P xs → EndsDigits rest → items_at read (counted_text text xs ++ rest) ≡ Some (xs, rest)
items_again read text P each xs rest fits e =
    let items : List ℕ = flat_map (behind text) xs ++ rest in
    let n = natural_again (length xs) items fits.0 (space_stops text xs rest e) in
    ap (items_at read) (append_assoc (decimal (length xs)) (flat_map (behind text) xs) rest)
    ∙ rw n (counted_again (behind_space read) (behind text) P (λ x r f. each x r f) xs [] rest (recursion_from_All P xs fits.1))

rows_sound : Sound rows_at rows_text_of (CountedFit values_are_plain)
unfolding rows_at
rows_sound bytes x h = items_sound row_at row_text_of values_are_plain row_sound bytes x h

rows_again : (rows : List (List Value)) (rest : List ℕ) → CountedFit values_are_plain rows → EndsDigits rest → rows_at (rows_text_of rows ++ rest) ≡ Some (rows, rest)
unfolding rows_at
rows_again rows rest fits e = items_again row_at row_text_of values_are_plain row_again rows rest fits e

---- longer answers

abbrev AnswerSays : List ℕ → Answer × List ℕ → Type 0
AnswerSays bytes x = Says answer_text_of IsPlainAnswer bytes x

busy_sound : (bytes rest : List ℕ) (x : Answer × List ℕ) → bytes ≡ codes "busy " ++ rest → busy_at rest ≡ Some x → AnswerSays bytes x
unfolding busy_at
busy_sound bytes rest x p h =
    let a = bind_some (key_at rest) (λ key. behind_space id_at key.1 >>= λ id. behind_space integer_at id.1 >>= λ at. Some (answer.Busy key.0 id.0 at.0, at.1)) x h in
    let b = bind_some (behind_space id_at a.0.1) (λ id. behind_space integer_at id.1 >>= λ at. Some (answer.Busy a.0.0 id.0 at.0, at.1)) x a.2 in
    let c = bind_some (behind_space integer_at b.0.1) (λ at. Some (answer.Busy a.0.0 b.0.0 at.0, at.1)) x b.2 in
    let k = key_sound rest a.0 a.1 in
    let i = behind_sound id_at id_text_of id_is_plain id_sound a.0.1 b.0 b.1 in
    let t = behind_sound integer_at signed_decimal (FitsSigned w64) integer_sound b.0.1 c.0 c.1 in
    let two = join (codes "busy ") (key_text_of a.0.0) a.0.1 p k.parts in
    let three = join_space (codes "busy " ++ key_text_of a.0.0) (id_text_of b.0.0) b.0.1 two i.parts in
    subst (AnswerSays bytes) (same_Some (answer.Busy a.0.0 b.0.0 c.0.0, c.0.1) x c.2)
    (record { parts = join_space (codes "busy " ++ key_text_of a.0.0 ++ codes " " ++ id_text_of b.0.0) (signed_decimal c.0.0) c.0.1 three t.parts; fits = (k.fits, i.fits, t.fits) })

abbrev found_fits : Key → Option Record → Type 0
found_fits key found = IfSome found (IsFoundAt key)

found_sound : (key : Key) → key_fits key → Sound (found_columns_at key) found_columns_text_of (found_fits key)
unfolding found_columns_at
found_sound key fits bytes x h =
    let columns_of : Read (Option Record) = columns_at bytes >>= λ columns. Some (Some (record { key = key; columns = columns.0 }), columns.1) in
    case_some (after (codes "none") bytes) (λ rest. Some (None, rest)) columns_of (Some x) h
    (λ rest q k. word_sound (codes "none") None found_columns_text_of (found_fits key) refl tt bytes rest x q k)
    (λ q k.
    let a = bind_some (columns_at bytes) (λ columns. Some (Some (record { key = key; columns = columns.0 }), columns.1)) x k in
    let c = columns_sound bytes a.0 a.1 in
    subst (Says found_columns_text_of (found_fits key) bytes) (same_Some (Some (record { key = key; columns = a.0.0 }), a.0.1) x a.2)
    (record { parts = c.parts; fits = record { fits = record { key = fits; columns = c.fits }; key_is = refl } }))

conflict_sound : (bytes rest : List ℕ) (x : Answer × List ℕ) → bytes ≡ codes "conflict " ++ rest → conflict_at rest ≡ Some x → AnswerSays bytes x
unfolding conflict_at
conflict_sound bytes rest x p h =
    let a = bind_some (key_at rest) (λ key. behind_space (found_columns_at key.0) key.1 >>= λ found. Some (answer.Conflict key.0 found.0, found.1)) x h in
    let b = bind_some (behind_space (found_columns_at a.0.0) a.0.1) (λ found. Some (answer.Conflict a.0.0 found.0, found.1)) x a.2 in
    let k = key_sound rest a.0 a.1 in
    let f = behind_sound (found_columns_at a.0.0) found_columns_text_of (found_fits a.0.0) (found_sound a.0.0 k.fits) a.0.1 b.0 b.1 in
    let two = join (codes "conflict ") (key_text_of a.0.0) a.0.1 p k.parts in
    subst (AnswerSays bytes) (same_Some (answer.Conflict a.0.0 b.0.0, b.0.1) x b.2)
    (record { parts = join_space (codes "conflict " ++ key_text_of a.0.0) (found_columns_text_of b.0.0) b.0.1 two f.parts; fits = (k.fits, f.fits) })

refusal_sound : (bytes rest : List ℕ) (x : Answer × List ℕ) → bytes ≡ codes "refused " ++ rest → refusal_at rest ≡ Some x → AnswerSays bytes x
unfolding refusal_at
refusal_sound bytes rest x p h =
    let a = bind_some (natural_below (2 ^ 8) rest) (λ kind. behind_space (natural_below (2 ^ 32)) kind.1 >>= λ place. Some (answer.Refused (record { kind = kind.0; place = place.0 }), place.1)) x h in
    let b = bind_some (behind_space (natural_below (2 ^ 32)) a.0.1) (λ place. Some (answer.Refused (record { kind = a.0.0; place = place.0 }), place.1)) x a.2 in
    let k = below_sound (2 ^ 8) rest a.0 a.1 in
    let t = behind_sound (natural_below (2 ^ 32)) decimal (λ n. n < 2 ^ 32) (below_sound (2 ^ 32)) a.0.1 b.0 b.1 in
    let two = join (codes "refused ") (decimal a.0.0) a.0.1 p k.parts in
    subst (AnswerSays bytes) (same_Some (answer.Refused (record { kind = a.0.0; place = b.0.0 }), b.0.1) x b.2)
    (record { parts = join_space (codes "refused " ++ decimal a.0.0) (decimal b.0.0) b.0.1 two t.parts; fits = record { kind = k.fits; place = t.fits } })

abbrev IsAnswered : Answer → Type 0
IsAnswered a = IsPlainAnswer a

long_sound : Sound long_answer_at answer_text_of IsPlainAnswer
unfolding long_answer_at
long_sound bytes x h =
    let refused = case_of (after (codes "refused ") bytes) refusal_at None in
    let badrecord = case_of (after (codes "badrecord ") bytes) bad_record_at refused in
    let unknown = case_of (after (codes "unknown ") bytes) unknown_at badrecord in
    let expired = case_of (after (codes "expired ") bytes) expired_at unknown in
    let conflict = case_of (after (codes "conflict ") bytes) conflict_at expired in
    let busy = case_of (after (codes "busy ") bytes) busy_at conflict in
    let duplicate = case_of (after (codes "duplicate ") bytes) duplicate_at busy in
    let count = case_of (after (codes "count ") bytes) count_at duplicate in
    case_some (after (codes "rows ") bytes) rows_answer_at count (Some x) h
    (λ rest q k. made_sound rows_at rows_text_of (CountedFit values_are_plain) answer.Rows (codes "rows ") answer_text_of IsPlainAnswer rows_sound (λ y. refl) (λ y f. f) bytes rest x q k) (λ q k.
    case_some (after (codes "count ") bytes) count_at duplicate (Some x) k
    (λ rest q k. made_sound natural_at decimal (λ n. n < 2 ^ 64) answer.Count (codes "count ") answer_text_of IsPlainAnswer natural_sound (λ y. refl) (λ y f. f) bytes rest x q k) (λ q k.
    case_some (after (codes "duplicate ") bytes) duplicate_at busy (Some x) k
    (λ rest q k. made_sound key_at key_text_of key_fits answer.Duplicate (codes "duplicate ") answer_text_of IsPlainAnswer key_sound (λ y. refl) (λ y f. f) bytes rest x q k) (λ q k.
    case_some (after (codes "busy ") bytes) busy_at conflict (Some x) k
    (λ rest q k. busy_sound bytes rest x (after_is (codes "busy ") bytes rest q) k) (λ q k.
    case_some (after (codes "conflict ") bytes) conflict_at expired (Some x) k
    (λ rest q k. conflict_sound bytes rest x (after_is (codes "conflict ") bytes rest q) k) (λ q k.
    case_some (after (codes "expired ") bytes) expired_at unknown (Some x) k
    (λ rest q k. made_sound id_at id_text_of id_is_plain answer.Expired (codes "expired ") answer_text_of IsPlainAnswer id_sound (λ y. refl) (λ y f. f) bytes rest x q k) (λ q k.
    case_some (after (codes "unknown ") bytes) unknown_at badrecord (Some x) k
    (λ rest q k. made_sound id_at id_text_of id_is_plain answer.Unknown (codes "unknown ") answer_text_of IsPlainAnswer id_sound (λ y. refl) (λ y f. f) bytes rest x q k) (λ q k.
    case_some (after (codes "badrecord ") bytes) bad_record_at refused (Some x) k
    (λ rest q k. made_sound key_at key_text_of key_fits answer.BadRecord (codes "badrecord ") answer_text_of IsPlainAnswer key_sound (λ y. refl) (λ y f. f) bytes rest x q k) (λ q k.
    case_some (after (codes "refused ") bytes) refusal_at None (Some x) k
    (λ rest q k. refusal_sound bytes rest x (after_is (codes "refused ") bytes rest q) k) (λ q k. absurd cc)))))))))

---- all answers

answer_word : (word : List ℕ) (a : Answer) → answer_text_of a ≡ word → IsPlainAnswer a → (bytes rest : List ℕ) (x : Answer × List ℕ) → after word bytes ≡ Some rest → Some (a, rest) ≡ Some x → AnswerSays bytes x
answer_word word a e fits bytes rest x q k = word_sound word a answer_text_of IsPlainAnswer e fits bytes rest x q k

pub answer_sound : Sound answer_at answer_text_of IsPlainAnswer
unfolding answer_at
answer_sound bytes x h =
    let nomemory = case_of (after (codes "nomemory") bytes) (λ rest. Some (answer.NoMemory, rest)) (long_answer_at bytes) in
    let open_ones = case_of (after (codes "opentransactions") bytes) (λ rest. Some (answer.OpenTransactions, rest)) nomemory in
    let vacuuming = case_of (after (codes "vacuuming") bytes) (λ rest. Some (answer.Vacuuming, rest)) open_ones in
    let faulted = case_of (after (codes "faulted") bytes) (λ rest. Some (answer.Faulted, rest)) vacuuming in
    let committed = case_of (after (codes "committed") bytes) (λ rest. Some (answer.Committed, rest)) faulted in
    case_some (after (codes "done") bytes) (λ rest. Some (answer.Done, rest)) committed (Some x) h (λ rest q k. answer_word (codes "done") answer.Done refl tt bytes rest x q k) (λ q k.
    case_some (after (codes "committed") bytes) (λ rest. Some (answer.Committed, rest)) faulted (Some x) k (λ rest q k. answer_word (codes "committed") answer.Committed refl tt bytes rest x q k) (λ q k.
    case_some (after (codes "faulted") bytes) (λ rest. Some (answer.Faulted, rest)) vacuuming (Some x) k (λ rest q k. answer_word (codes "faulted") answer.Faulted refl tt bytes rest x q k) (λ q k.
    case_some (after (codes "vacuuming") bytes) (λ rest. Some (answer.Vacuuming, rest)) open_ones (Some x) k (λ rest q k. answer_word (codes "vacuuming") answer.Vacuuming refl tt bytes rest x q k) (λ q k.
    case_some (after (codes "opentransactions") bytes) (λ rest. Some (answer.OpenTransactions, rest)) nomemory (Some x) k (λ rest q k. answer_word (codes "opentransactions") answer.OpenTransactions refl tt bytes rest x q k) (λ q k.
    case_some (after (codes "nomemory") bytes) (λ rest. Some (answer.NoMemory, rest)) (long_answer_at bytes) (Some x) k (λ rest q k. answer_word (codes "nomemory") answer.NoMemory refl tt bytes rest x q k) (λ q k. long_sound bytes x k))))))

pub given_sound : Sound given_at given_text_of IsPlainGiven
unfolding given_at
given_sound bytes x h =
    case_some (after (codes "-") bytes) (λ rest. Some (None, rest)) (answer_at bytes >>= λ a. Some (Some a.0, a.1)) (Some x) h
    (λ rest q k. word_sound (codes "-") None given_text_of IsPlainGiven refl tt bytes rest x q k)
    (λ q k.
    let a = bind_some (answer_at bytes) (λ a. Some (Some a.0, a.1)) x k in
    let s = answer_sound bytes a.0 a.1 in
    subst (Says given_text_of IsPlainGiven bytes) (same_Some (Some a.0.0, a.0.1) x a.2) (record { parts = s.parts; fits = s.fits }))

---- what is there is read

busy_pieces : (k i t rest : List ℕ) → (codes "busy " ++ k ++ codes " " ++ i ++ codes " " ++ t) ++ rest ≡ codes "busy " ++ (k ++ 32 ∷ (i ++ 32 ∷ (t ++ rest)))
busy_pieces k i t rest = simp append_assoc

pub two_pieces : (w k f rest : List ℕ) → (w ++ k ++ codes " " ++ f) ++ rest ≡ w ++ (k ++ 32 ∷ (f ++ rest))
two_pieces w k f rest = simp append_assoc

found_again : (key : Key) (found : Option Record) (rest : List ℕ) → found_fits key found → found_columns_at key (found_columns_text_of found ++ rest) ≡ Some (found, rest)
unfolding found_columns_at
found_again key None rest fits = refl
found_again key (Some r) rest fits =
    let same : Some (Some (record { key = key; columns = r.columns }), rest) ≡ Some (Some r, rest) = λ i. Some (Some (record { key = sym fits.key_is i; columns = r.columns }), rest) in
    rw (columns_again r.columns rest fits.fits.columns) same

pub answer_again : (a : Answer) (rest : List ℕ) → IsPlainAnswer a → EndsDigits rest → answer_at (answer_text_of a ++ rest) ≡ Some (a, rest)
unfolding answer_at long_answer_at busy_at conflict_at refusal_at
answer_again (answer.Rows rows) rest fits e = rw (rows_again rows rest fits e) refl
answer_again (answer.Count n) rest fits e = rw (natural_again n rest fits e) refl
answer_again answer.Done rest fits e = refl
answer_again answer.Committed rest fits e = refl
answer_again (answer.Duplicate key) rest fits e = rw (key_again key rest fits) refl
answer_again (answer.Busy key id at) rest fits e =
    ap answer_at (busy_pieces (key_text_of key) (id_text_of id) (signed_decimal at) rest)
    ∙ rw (key_again key (32 ∷ (id_text_of id ++ 32 ∷ (signed_decimal at ++ rest))) fits.0, id_again id (32 ∷ (signed_decimal at ++ rest)) fits.1, integer_again at rest fits.2 e) refl
answer_again (answer.Conflict key found) rest fits e =
    ap answer_at (two_pieces (codes "conflict ") (key_text_of key) (found_columns_text_of found) rest)
    ∙ rw (key_again key (32 ∷ (found_columns_text_of found ++ rest)) fits.0, found_again key found rest fits.1) refl
answer_again (answer.Expired id) rest fits e = rw (id_again id rest fits) refl
answer_again answer.Faulted rest fits e = refl
answer_again (answer.Unknown id) rest fits e = rw (id_again id rest fits) refl
answer_again (answer.BadRecord key) rest fits e = rw (key_again key rest fits) refl
answer_again (answer.Refused r) rest fits e =
    ap answer_at (two_pieces (codes "refused ") (decimal r.kind) (decimal r.place) rest)
    ∙ rw (below_again (2 ^ 8) r.kind (32 ∷ (decimal r.place ++ rest)) (omega arith) fits.kind refl, below_again (2 ^ 32) r.place rest (omega arith) fits.place e) refl
answer_again answer.Vacuuming rest fits e = refl
answer_again answer.OpenTransactions rest fits e = refl
answer_again answer.NoMemory rest fits e = refl

no_dash : (a : Answer) (rest : List ℕ) → after (codes "-") (answer_text_of a ++ rest) ≡ None
no_dash (answer.Rows rows) rest = refl
no_dash (answer.Count n) rest = refl
no_dash answer.Done rest = refl
no_dash answer.Committed rest = refl
no_dash (answer.Duplicate key) rest = refl
no_dash (answer.Busy key id at) rest = refl
no_dash (answer.Conflict key found) rest = refl
no_dash (answer.Expired id) rest = refl
no_dash answer.Faulted rest = refl
no_dash (answer.Unknown id) rest = refl
no_dash (answer.BadRecord key) rest = refl
no_dash (answer.Refused r) rest = refl
no_dash answer.Vacuuming rest = refl
no_dash answer.OpenTransactions rest = refl
no_dash answer.NoMemory rest = refl

pub given_again : (given : Option Answer) (rest : List ℕ) → IsPlainGiven given → EndsDigits rest → given_at (given_text_of given ++ rest) ≡ Some (given, rest)
unfolding given_at
given_again None rest fits e = refl
given_again (Some a) rest fits e = rw (no_dash a rest, answer_again a rest fits e) refl
