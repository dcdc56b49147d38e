-- Requests, what became of them, and replies: what is read is there, and what is there is read.
use Rattle.std.proofs.Common.{◌≡◌, ◌⊎◌, ℕ, ◌<◌, List, [], ◌∷◌, ◌++◌, Option, Some, None, IfSome, inl, inr, refl, ap, subst, ◌∙◌, append_assoc, append-nil, sym}
use Rattle.std.specs.Prelude.{◌^◌, codes}
use Rattle.std.specs.Fmt.{decimal, signed_decimal}
use Rattle.std.proofs.lemmas.Option.{same_Some}
use Rattle.sdb_types.specs.Contents.{state_number}
use Rattle.sdb_types.specs.Fits.{key_fits, record_fits}
use Rattle.sdb_report.specs.Types.{Condition, How, Put, Record, Reply, Request, State, TxId}
use Rattle.sdb_types.specs.declared.record.Condition.TheVariants.{Absent, Version}
use Rattle.sdb_types.specs.declared.record.Reply.TheVariants as reply
use Rattle.sdb_types.specs.declared.record.Request.TheVariants as ask
use Rattle.sdb_types.specs.declared.record.State.TheVariants.{Prepared, Deleted, Committed, Aborted}
use Rattle.sdb_model.specs.Plain.{span_is_plain, condition_is_plain, put_is_plain, request_is_plain, reply_is_plain}
use Rattle.sdb_model.specs.Report.{condition_text_of, put_text_of, puts_text_of, request_text_of, how_text_of, found_text_of, records_text_of, reply_text_of}
use Rattle.sdb_model.specs.Texts.{key_text_of, span_text_of, record_text_of}
use Rattle.sdb_model.specs.declared.event.How.TheVariants.{Seen, Lost, Discarded, Delayed, Broken}
use Rattle.sdb_report.specs.FieldReading.{Read, case_of, after, natural_below, name_at, table_at, key_at, span_at, record_at, id_at}
use Rattle.sdb_report.specs.Lines.{behind_space, state_at, version_at, condition_at, get_at, scan_at, put_at, delete_at, one_put_at, puts_at, put_all_at, request_at, how_at, landed_how_at, found_at, records_at, found_reply_at, rows_reply_at, not_met_at, not_all_at, reply_at}
use Rattle.std.specs.Int.{w128, to_be_bytes}
use Rattle.std.proofs.Common.{get_or, ltb, arith}
use Rattle.std.proofs.Common.{◌+◌}
use Rattle.std.proofs.lemmas.Fmt.{decimal_digit}
use Rattle.std.proofs.lemmas.Bool.{ltb-true}
use Rattle.std.proofs.lemmas.List.{get_or_append_left}
use Rattle.uuid.specs.Text.{hex_digit, lower, nibble}
use Rattle.uuid.proofs.TextLemmas.{by_index_at}
use Rattle.sdb_report.proofs.NumberLaws.{id_long}
use Rattle.sdb_report.proofs.WordLaws.{case_some, join, Says, Sound, after_is}
use Rattle.sdb_report.proofs.NumberLaws.{below_sound, below_again, id_text_of, id_sound, id_again}
use Rattle.sdb_report.proofs.KeyLaws.{key_sound, key_again, span_sound, span_again, record_sound, record_again}
use Rattle.sdb_report.proofs.AnswerLaws.{behind_sound, made_sound, word_sound, join_space, CountedFit, items_sound, items_again, EndsDigits}
use Rattle.sdb_types.proofs.Public.{bind_some, by_test}
use Rattle.sdb_types.specs.Options.{◌>>=◌}

---- conditions

abbrev state_text_of : State → List ℕ
state_text_of state = signed_decimal (state_number state)

abbrev any_state : State → Type 0
any_state state = Unit {0}

digit_text : (n : ℕ) → n < 10 → decimal n ≡ (48 + n) ∷ []
digit_text n lt = decimal_digit n lt

state_sound : Sound state_at state_text_of any_state
unfolding state_at
state_sound bytes x h =
    let aborted = case_of (after (codes "4") bytes) (λ rest. Some (Aborted, rest)) None in
    let committed = case_of (after (codes "3") bytes) (λ rest. Some (Committed, rest)) aborted in
    let deleted = case_of (after (codes "2") bytes) (λ rest. Some (Deleted, rest)) committed in
    case_some (after (codes "1") bytes) (λ rest. Some (Prepared, rest)) deleted (Some x) h (λ rest q k. word_sound (codes "1") Prepared state_text_of any_state (digit_text 1 (omega arith)) tt bytes rest x q k) (λ q k.
    case_some (after (codes "2") bytes) (λ rest. Some (Deleted, rest)) committed (Some x) k (λ rest q k. word_sound (codes "2") Deleted state_text_of any_state (digit_text 2 (omega arith)) tt bytes rest x q k) (λ q k.
    case_some (after (codes "3") bytes) (λ rest. Some (Committed, rest)) aborted (Some x) k (λ rest q k. word_sound (codes "3") Committed state_text_of any_state (digit_text 3 (omega arith)) tt bytes rest x q k) (λ q k.
    case_some (after (codes "4") bytes) (λ rest. Some (Aborted, rest)) None (Some x) k (λ rest q k. word_sound (codes "4") Aborted state_text_of any_state (digit_text 4 (omega arith)) tt bytes rest x q k) (λ q k. absurd cc))))

state_again : (state : State) (rest : List ℕ) → state_at (state_text_of state ++ rest) ≡ Some (state, rest)
unfolding state_at
state_again Prepared rest = ap (λ (t : List ℕ). state_at (t ++ rest)) (digit_text 1 (omega arith))
state_again Deleted rest = ap (λ (t : List ℕ). state_at (t ++ rest)) (digit_text 2 (omega arith))
state_again Committed rest = ap (λ (t : List ℕ). state_at (t ++ rest)) (digit_text 3 (omega arith))
state_again Aborted rest = ap (λ (t : List ℕ). state_at (t ++ rest)) (digit_text 4 (omega arith))

pub condition_sound : Sound condition_at condition_text_of condition_is_plain
unfolding condition_at version_at
condition_sound bytes x h =
    let version : Read Condition = id_at bytes >>= λ id. behind_space state_at id.1 >>= λ state. Some (Version id.0 state.0, state.1) in
    case_some (after (codes "absent") bytes) (λ rest. Some (Absent, rest)) version (Some x) h
    (λ rest q k. word_sound (codes "absent") Absent condition_text_of condition_is_plain refl tt bytes rest x q k)
    (λ q k.
    let a = bind_some (id_at bytes) (λ id. behind_space state_at id.1 >>= λ state. Some (Version id.0 state.0, state.1)) x k in
    let b = bind_some (behind_space state_at a.0.1) (λ state. Some (Version a.0.0 state.0, state.1)) x a.2 in
    let i = id_sound bytes a.0 a.1 in
    let s = behind_sound state_at state_text_of any_state state_sound a.0.1 b.0 b.1 in
    subst (Says condition_text_of condition_is_plain bytes) (same_Some (Version a.0.0 b.0.0, b.0.1) x b.2)
    (record { parts = join_space (id_text_of a.0.0) (state_text_of b.0.0) b.0.1 i.parts s.parts; fits = i.fits }))

hex_small : (d : ℕ) → d < 16 → hex_digit lower d < 115
hex_small d lt = by_test (ltb d 10) (λ e. let k : d < 10 = ltb-true d 10 e in rw e (omega arith)) (λ e. rw e (omega arith))

-- an id isn't `absent`: its third byte is a digit of sixteen
not_absent : (id : TxId) (rest : List ℕ) → after (codes "absent") (id_text_of id ++ rest) ≡ None
not_absent id rest =
    elim (after (codes "absent") (id_text_of id ++ rest)) as (λ o. after (codes "absent") (id_text_of id ++ rest) ≡ o → o ≡ None) [
      | None ↦ λ q. refl
      | Some r ↦ λ q.
          let bytes : List ℕ = to_be_bytes w128 id.0 in
          let e : id_text_of id ++ rest ≡ codes "absent" ++ r = after_is (codes "absent") (id_text_of id ++ rest) r q in
          let third : get_or (id_text_of id ++ rest) 2 0 ≡ 115 = ap (λ (l : List ℕ). get_or l 2 0) e in
          let left : get_or (id_text_of id ++ rest) 2 0 ≡ get_or (id_text_of id) 2 0 = get_or_append_left (id_text_of id) rest 0 2 (omega (arith, id_long id.0)) in
          let digit : get_or (id_text_of id) 2 0 ≡ hex_digit lower (nibble bytes 2) = by_index_at 36 _ 2 0 (omega arith) in
          absurd (omega (arith, third, left, digit, hex_small (nibble bytes 2) (omega arith)))
    ] refl

pub condition_again : (c : Condition) (rest : List ℕ) → condition_is_plain c → condition_at (condition_text_of c ++ rest) ≡ Some (c, rest)
unfolding condition_at version_at
condition_again Absent rest fits = refl
condition_again (Version id state) rest fits =
    let regrouped : (id_text_of id ++ codes " " ++ state_text_of state) ++ rest ≡ id_text_of id ++ 32 ∷ (state_text_of state ++ rest) =
    append_assoc (id_text_of id ++ codes " ") (state_text_of state) rest ∙ append_assoc (id_text_of id) (codes " ") (state_text_of state ++ rest) in
    ap condition_at regrouped ∙ rw (not_absent id (32 ∷ (state_text_of state ++ rest)), id_again id (32 ∷ (state_text_of state ++ rest)) fits, state_again state rest) refl

---- requests

abbrev put_of : Record → Condition → Put
put_of r condition = record { rec = r; condition = condition }

abbrev RequestSays : List ℕ → Request × List ℕ → Type 0
RequestSays bytes x = Says request_text_of request_is_plain bytes x

put_sound : (bytes rest : List ℕ) (x : Request × List ℕ) → bytes ≡ codes "put " ++ rest → put_at rest ≡ Some x → RequestSays bytes x
unfolding put_at
put_sound bytes rest x p h =
    let a = bind_some (record_at rest) (λ r. after (codes " if ") r.1 >>= λ rest. condition_at rest >>= λ condition. Some (ask.PutIf r.0 condition.0, condition.1)) x h in
    let b = bind_some (after (codes " if ") a.0.1) (λ rest. condition_at rest >>= λ condition. Some (ask.PutIf a.0.0 condition.0, condition.1)) x a.2 in
    let c = bind_some (condition_at b.0) (λ condition. Some (ask.PutIf a.0.0 condition.0, condition.1)) x b.2 in
    let r = record_sound rest a.0 a.1 in
    let s = condition_sound b.0 c.0 c.1 in
    let two = join (codes "put ") (record_text_of a.0.0) a.0.1 p r.parts in
    let three = join (codes "put " ++ record_text_of a.0.0) (codes " if ") b.0 two (after_is (codes " if ") a.0.1 b.0 b.1) in
    subst (RequestSays bytes) (same_Some (ask.PutIf a.0.0 c.0.0, c.0.1) x c.2)
    (record { parts = join (codes "put " ++ record_text_of a.0.0 ++ codes " if ") (condition_text_of c.0.0) c.0.1 three s.parts; fits = (r.fits, s.fits) })

delete_sound : (bytes rest : List ℕ) (x : Request × List ℕ) → bytes ≡ codes "delete " ++ rest → delete_at rest ≡ Some x → RequestSays bytes x
unfolding delete_at
delete_sound bytes rest x p h =
    let a = bind_some (key_at rest) (λ r. after (codes " if ") r.1 >>= λ rest. condition_at rest >>= λ condition. Some (ask.DeleteIf r.0 condition.0, condition.1)) x h in
    let b = bind_some (after (codes " if ") a.0.1) (λ rest. condition_at rest >>= λ condition. Some (ask.DeleteIf a.0.0 condition.0, condition.1)) x a.2 in
    let c = bind_some (condition_at b.0) (λ condition. Some (ask.DeleteIf a.0.0 condition.0, condition.1)) x b.2 in
    let r = key_sound rest a.0 a.1 in
    let s = condition_sound b.0 c.0 c.1 in
    let two = join (codes "delete ") (key_text_of a.0.0) a.0.1 p r.parts in
    let three = join (codes "delete " ++ key_text_of a.0.0) (codes " if ") b.0 two (after_is (codes " if ") a.0.1 b.0 b.1) in
    subst (RequestSays bytes) (same_Some (ask.DeleteIf a.0.0 c.0.0, c.0.1) x c.2)
    (record { parts = join (codes "delete " ++ key_text_of a.0.0 ++ codes " if ") (condition_text_of c.0.0) c.0.1 three s.parts; fits = (r.fits, s.fits) })

one_put_sound : Sound one_put_at put_text_of put_is_plain
unfolding one_put_at
one_put_sound bytes x h =
    let a = bind_some (record_at bytes) (λ r. after (codes " if ") r.1 >>= λ rest. condition_at rest >>= λ condition. Some (put_of r.0 condition.0, condition.1)) x h in
    let b = bind_some (after (codes " if ") a.0.1) (λ rest. condition_at rest >>= λ condition. Some (put_of a.0.0 condition.0, condition.1)) x a.2 in
    let c = bind_some (condition_at b.0) (λ condition. Some (put_of a.0.0 condition.0, condition.1)) x b.2 in
    let r = record_sound bytes a.0 a.1 in
    let s = condition_sound b.0 c.0 c.1 in
    let two = join (record_text_of a.0.0) (codes " if ") b.0 r.parts (after_is (codes " if ") a.0.1 b.0 b.1) in
    subst (Says put_text_of put_is_plain bytes) (same_Some (put_of a.0.0 c.0.0, c.0.1) x c.2)
    (record { parts = join (record_text_of a.0.0 ++ codes " if ") (condition_text_of c.0.0) c.0.1 two s.parts; fits = record { rec = r.fits; condition = s.fits } })

puts_sound : Sound puts_at puts_text_of (CountedFit put_is_plain)
unfolding puts_at
puts_sound bytes x h = items_sound one_put_at put_text_of put_is_plain one_put_sound bytes x h

pub request_sound : Sound request_at request_text_of request_is_plain
unfolding request_at
request_sound bytes x h =
    let all = case_of (after (codes "putall ") bytes) put_all_at None in
    let deleted = case_of (after (codes "delete ") bytes) delete_at all in
    let puts = case_of (after (codes "put ") bytes) put_at deleted in
    let scans = case_of (after (codes "scan ") bytes) scan_at puts in
    case_some (after (codes "get ") bytes) get_at scans (Some x) h
    (λ rest q k. made_sound key_at key_text_of key_fits ask.Get (codes "get ") request_text_of request_is_plain key_sound (λ y. refl) (λ y f. f) bytes rest x q k) (λ q k.
    case_some (after (codes "scan ") bytes) scan_at puts (Some x) k
    (λ rest q k. made_sound span_at span_text_of span_is_plain ask.Scan (codes "scan ") request_text_of request_is_plain span_sound (λ y. refl) (λ y f. f) bytes rest x q k) (λ q k.
    case_some (after (codes "put ") bytes) put_at deleted (Some x) k (λ rest q k. put_sound bytes rest x (after_is (codes "put ") bytes rest q) k) (λ q k.
    case_some (after (codes "delete ") bytes) delete_at all (Some x) k (λ rest q k. delete_sound bytes rest x (after_is (codes "delete ") bytes rest q) k) (λ q k.
    case_some (after (codes "putall ") bytes) put_all_at None (Some x) k
    (λ rest q k. made_sound puts_at puts_text_of (CountedFit put_is_plain) ask.PutAll (codes "putall ") request_text_of request_is_plain puts_sound (λ y. refl) (λ y f. f) bytes rest x q k) (λ q k. absurd cc)))))

if_pieces : (w r c rest : List ℕ) → (w ++ r ++ codes " if " ++ c) ++ rest ≡ w ++ (r ++ (codes " if " ++ (c ++ rest)))
if_pieces w r c rest = simp append_assoc

one_put_again : (p : Put) (rest : List ℕ) → put_is_plain p → one_put_at (put_text_of p ++ rest) ≡ Some (p, rest)
unfolding one_put_at
one_put_again p rest fits =
    ap one_put_at (if_pieces [] (record_text_of p.rec) (condition_text_of p.condition) rest)
    ∙ rw (record_again p.rec (codes " if " ++ (condition_text_of p.condition ++ rest)) fits.rec, condition_again p.condition rest fits.condition) refl

puts_again : (b : List Put) (rest : List ℕ) → CountedFit put_is_plain b → EndsDigits rest → puts_at (puts_text_of b ++ rest) ≡ Some (b, rest)
unfolding puts_at
puts_again b rest fits e = items_again one_put_at put_text_of put_is_plain one_put_again b rest fits e

-- a space after a request
pub request_again : (r : Request) (rest : List ℕ) → request_is_plain r → request_at (request_text_of r ++ 32 ∷ rest) ≡ Some (r, 32 ∷ rest)
unfolding request_at put_at delete_at
request_again (ask.Get key) rest fits = rw (key_again key (32 ∷ rest) fits) refl
request_again (ask.Scan span) rest fits = rw (span_again span rest fits) refl
request_again (ask.PutIf r condition) rest fits =
    ap request_at (if_pieces (codes "put ") (record_text_of r) (condition_text_of condition) (32 ∷ rest))
    ∙ rw (record_again r (codes " if " ++ (condition_text_of condition ++ 32 ∷ rest)) fits.0, condition_again condition (32 ∷ rest) fits.1) refl
request_again (ask.DeleteIf key condition) rest fits =
    ap request_at (if_pieces (codes "delete ") (key_text_of key) (condition_text_of condition) (32 ∷ rest))
    ∙ rw (key_again key (codes " if " ++ (condition_text_of condition ++ 32 ∷ rest)) fits.0, condition_again condition (32 ∷ rest) fits.1) refl
request_again (ask.PutAll b) rest fits = rw (puts_again b (32 ∷ rest) fits refl) refl

---- what became of a call

abbrev pub any_how : How → Type 0
any_how how = Unit {0}

pub how_sound : Sound how_at how_text_of any_how
unfolding how_at
how_sound bytes x h =
    let failed = case_of (after (codes "failed") bytes) (λ rest. Some (Broken, rest)) None in
    let delayed = case_of (after (codes "delayed") bytes) (λ rest. Some (Delayed, rest)) failed in
    let dropped = case_of (after (codes "dropped") bytes) (λ rest. Some (Discarded, rest)) delayed in
    let lost = case_of (after (codes "lost") bytes) (λ rest. Some (Lost, rest)) dropped in
    case_some (after (codes "seen") bytes) (λ rest. Some (Seen, rest)) lost (Some x) h (λ rest q k. word_sound (codes "seen") Seen how_text_of any_how refl tt bytes rest x q k) (λ q k.
    case_some (after (codes "lost") bytes) (λ rest. Some (Lost, rest)) dropped (Some x) k (λ rest q k. word_sound (codes "lost") Lost how_text_of any_how refl tt bytes rest x q k) (λ q k.
    case_some (after (codes "dropped") bytes) (λ rest. Some (Discarded, rest)) delayed (Some x) k (λ rest q k. word_sound (codes "dropped") Discarded how_text_of any_how refl tt bytes rest x q k) (λ q k.
    case_some (after (codes "delayed") bytes) (λ rest. Some (Delayed, rest)) failed (Some x) k (λ rest q k. word_sound (codes "delayed") Delayed how_text_of any_how refl tt bytes rest x q k) (λ q k.
    case_some (after (codes "failed") bytes) (λ rest. Some (Broken, rest)) None (Some x) k (λ rest q k. word_sound (codes "failed") Broken how_text_of any_how refl tt bytes rest x q k) (λ q k. absurd cc)))))

pub how_again : (how : How) (rest : List ℕ) → how_at (how_text_of how ++ rest) ≡ Some (how, rest)
unfolding how_at
how_again Seen rest = refl
how_again Lost rest = refl
how_again Discarded rest = refl
how_again Delayed rest = refl
how_again Broken rest = refl

-- a landing is performed by its store, or its store fails
abbrev pub IsLandedHow : How → Type 0
IsLandedHow how = (how ≡ Seen) ⊎ (how ≡ Broken)

pub landed_how_sound : Sound landed_how_at how_text_of IsLandedHow
unfolding landed_how_at
landed_how_sound bytes x h =
    let failed = case_of (after (codes "failed") bytes) (λ rest. Some (Broken, rest)) None in
    case_some (after (codes "seen") bytes) (λ rest. Some (Seen, rest)) failed (Some x) h (λ rest q k. word_sound (codes "seen") Seen how_text_of IsLandedHow refl (inl refl) bytes rest x q k) (λ q k.
    case_some (after (codes "failed") bytes) (λ rest. Some (Broken, rest)) None (Some x) k (λ rest q k. word_sound (codes "failed") Broken how_text_of IsLandedHow refl (inr refl) bytes rest x q k) (λ q k. absurd cc))

pub landed_how_again : (how : How) (rest : List ℕ) → IsLandedHow how → landed_how_at (how_text_of how ++ rest) ≡ Some (how, rest)
unfolding landed_how_at
landed_how_again how rest (inl seen) = rw seen refl
landed_how_again how rest (inr broken) = rw broken refl

---- replies

abbrev found_fits : Option Record → Type 0
found_fits found = IfSome found record_fits

found_sound : Sound found_at found_text_of found_fits
unfolding found_at
found_sound bytes x h =
    case_some (record_at bytes) (λ r. Some (Some r.0, r.1)) (after (codes "none") bytes >>= λ rest. Some (None, rest)) (Some x) h
    (λ r q k. let s = record_sound bytes r q in subst (Says found_text_of found_fits bytes) (same_Some (Some r.0, r.1) x k) (record { parts = s.parts; fits = s.fits }))
    (λ q k.
    let a = bind_some (after (codes "none") bytes) (λ rest. Some (None, rest)) x k in
    word_sound (codes "none") None found_text_of found_fits refl tt bytes a.0 x a.1 a.2)

no_record : (rest : List ℕ) → record_at (codes "none " ++ rest) ≡ None
unfolding record_at key_at table_at name_at
no_record rest = refl

found_again : (found : Option Record) (rest : List ℕ) → found_fits found → found_at (found_text_of found ++ 32 ∷ rest) ≡ Some (found, 32 ∷ rest)
unfolding found_at
found_again None rest fits = rw (no_record rest) refl
found_again (Some r) rest fits = rw (record_again r (32 ∷ rest) fits) refl

records_sound : Sound records_at records_text_of (CountedFit record_fits)
unfolding records_at
records_sound bytes x h = items_sound record_at record_text_of record_fits record_sound bytes x h

records_again : (rs : List Record) (rest : List ℕ) → CountedFit record_fits rs → EndsDigits rest → records_at (records_text_of rs ++ rest) ≡ Some (rs, rest)
unfolding records_at
records_again rs rest fits e = items_again record_at record_text_of record_fits record_again rs rest fits e

not_all_sound : (bytes rest : List ℕ) (x : Reply × List ℕ) → bytes ≡ codes "notall " ++ rest → not_all_at rest ≡ Some x → Says reply_text_of reply_is_plain bytes x
unfolding not_all_at
not_all_sound bytes rest x p h =
    let a = bind_some (natural_below (2 ^ 32) rest) (λ place. behind_space found_at place.1 >>= λ found. Some (reply.NotAll place.0 found.0, found.1)) x h in
    let b = bind_some (behind_space found_at a.0.1) (λ found. Some (reply.NotAll a.0.0 found.0, found.1)) x a.2 in
    let k = below_sound (2 ^ 32) rest a.0 a.1 in
    let f = behind_sound found_at found_text_of found_fits found_sound a.0.1 b.0 b.1 in
    let two = join (codes "notall ") (decimal a.0.0) a.0.1 p k.parts in
    subst (Says reply_text_of reply_is_plain bytes) (same_Some (reply.NotAll a.0.0 b.0.0, b.0.1) x b.2)
    (record { parts = join_space (codes "notall " ++ decimal a.0.0) (found_text_of b.0.0) b.0.1 two f.parts; fits = (k.fits, f.fits) })

all_pieces : (w n f rest : List ℕ) → (w ++ n ++ codes " " ++ f) ++ rest ≡ w ++ (n ++ 32 ∷ (f ++ rest))
all_pieces w n f rest = simp append_assoc

reply_word : (word : List ℕ) (r : Reply) → reply_text_of r ≡ word → reply_is_plain r → (bytes rest : List ℕ) (x : Reply × List ℕ) → after word bytes ≡ Some rest → Some (r, rest) ≡ Some x → Says reply_text_of reply_is_plain bytes x
reply_word word r e fits bytes rest x q k = word_sound word r reply_text_of reply_is_plain e fits bytes rest x q k

pub reply_sound : Sound reply_at reply_text_of reply_is_plain
unfolding reply_at
reply_sound bytes x h =
    let notall = case_of (after (codes "notall ") bytes) not_all_at None in
    let nomemory = case_of (after (codes "nomemory") bytes) (λ rest. Some (reply.NoMemory, rest)) notall in
    let fault = case_of (after (codes "fault") bytes) (λ rest. Some (reply.Fault, rest)) nomemory in
    let notmet = case_of (after (codes "notmet ") bytes) not_met_at fault in
    let applied = case_of (after (codes "applied") bytes) (λ rest. Some (reply.Applied, rest)) notmet in
    let rows = case_of (after (codes "rows ") bytes) rows_reply_at applied in
    case_some (after (codes "found ") bytes) found_reply_at rows (Some x) h
    (λ rest q k. made_sound found_at found_text_of found_fits reply.Found (codes "found ") reply_text_of reply_is_plain found_sound (λ y. refl) (λ y f. f) bytes rest x q k) (λ q k.
    case_some (after (codes "rows ") bytes) rows_reply_at applied (Some x) k
    (λ rest q k. made_sound records_at records_text_of (CountedFit record_fits) reply.Rows (codes "rows ") reply_text_of reply_is_plain records_sound (λ y. refl) (λ y f. f) bytes rest x q k) (λ q k.
    case_some (after (codes "applied") bytes) (λ rest. Some (reply.Applied, rest)) notmet (Some x) k (λ rest q k. reply_word (codes "applied") reply.Applied refl tt bytes rest x q k) (λ q k.
    case_some (after (codes "notmet ") bytes) not_met_at fault (Some x) k
    (λ rest q k. made_sound found_at found_text_of found_fits reply.NotMet (codes "notmet ") reply_text_of reply_is_plain found_sound (λ y. refl) (λ y f. f) bytes rest x q k) (λ q k.
    case_some (after (codes "fault") bytes) (λ rest. Some (reply.Fault, rest)) nomemory (Some x) k (λ rest q k. reply_word (codes "fault") reply.Fault refl tt bytes rest x q k) (λ q k.
    case_some (after (codes "nomemory") bytes) (λ rest. Some (reply.NoMemory, rest)) notall (Some x) k (λ rest q k. reply_word (codes "nomemory") reply.NoMemory refl tt bytes rest x q k) (λ q k.
    case_some (after (codes "notall ") bytes) not_all_at None (Some x) k (λ rest q k. not_all_sound bytes rest x (after_is (codes "notall ") bytes rest q) k) (λ q k. absurd cc)))))))

-- a space after a reply
pub reply_again : (r : Reply) (rest : List ℕ) → reply_is_plain r → reply_at (reply_text_of r ++ 32 ∷ rest) ≡ Some (r, 32 ∷ rest)
unfolding reply_at not_all_at
reply_again (reply.Found found) rest fits = rw (found_again found rest fits) refl
reply_again (reply.Rows rows) rest fits = rw (records_again rows (32 ∷ rest) fits refl) refl
reply_again reply.Applied rest fits = refl
reply_again (reply.NotMet found) rest fits = rw (found_again found rest fits) refl
reply_again (reply.NotAll k found) rest fits =
    ap reply_at (all_pieces (codes "notall ") (decimal k) (found_text_of found) (32 ∷ rest))
    ∙ rw (below_again (2 ^ 32) k (32 ∷ (found_text_of found ++ 32 ∷ rest)) (omega arith) fits.0 refl, found_again found rest fits.1) refl
reply_again reply.Fault rest fits = refl
reply_again reply.NoMemory rest fits = refl

---- a reply that nothing follows

space_pieces : (w n f : List ℕ) → w ++ n ++ codes " " ++ f ≡ w ++ (n ++ 32 ∷ f)
space_pieces w n f = simp append_assoc

no_record_last : record_at (codes "none") ≡ None
unfolding record_at key_at table_at name_at
no_record_last = refl

found_last : (found : Option Record) → found_fits found → found_at (found_text_of found) ≡ Some (found, [])
unfolding found_at
found_last None fits = rw no_record_last refl
found_last (Some r) fits = ap found_at (sym (append-nil (record_text_of r))) ∙ rw (record_again r [] fits) refl

records_last : (rs : List Record) → CountedFit record_fits rs → records_at (records_text_of rs) ≡ Some (rs, [])
records_last rs fits = ap records_at (sym (append-nil (records_text_of rs))) ∙ records_again rs [] fits refl

pub reply_last : (r : Reply) → reply_is_plain r → reply_at (reply_text_of r) ≡ Some (r, [])
unfolding reply_at not_all_at
reply_last (reply.Found found) fits = rw (found_last found fits) refl
reply_last (reply.Rows rows) fits = rw (records_last rows fits) refl
reply_last reply.Applied fits = refl
reply_last (reply.NotMet found) fits = rw (found_last found fits) refl
reply_last (reply.NotAll k found) fits =
    ap reply_at (space_pieces (codes "notall ") (decimal k) (found_text_of found))
    ∙ rw (below_again (2 ^ 32) k (32 ∷ found_text_of found) (omega arith) fits.0 refl, found_last found fits.1) refl
reply_last reply.Fault fits = refl
reply_last reply.NoMemory fits = refl
