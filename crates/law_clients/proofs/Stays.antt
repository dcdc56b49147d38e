-- What one statement keeps of the transactions before it: whether they are recorded, what they left, and which ids are new.
use Rattle.std.proofs.Common.{◌≡◌, ◌≢◌, ◌<◌, ◌^◌, Bool, true, false, List, [], ◌∷◌, ◌++◌, map, Option, Some, None, ◌⊎◌, inl, inr, refl, sym, ap, subst, ◌∙◌, append_assoc, append-nil}
use Rattle.std.specs.Prelude.{if◌then◌else◌, IsSomeAnd}
use Rattle.std.specs.Option.{option_map_or}
use Rattle.std.specs.Result.{result_ok}
use Rattle.std.specs.List.{AllByRecursion}
use Rattle.law_clients.specs.Types.{Answer, Decided, Key, Record, Table, TxId}
use Rattle.sdb_types.proofs.Public.{some_is}
use Rattle.sdb_types.specs.declared.record.State.TheVariants as state
use Rattle.sdb_record.specs.declared.coordinator.Decision.TheVariants as decision
use Rattle.sdb_record.specs.Coordinator.{coordinator_key_of, decision_in, same_decision}
use Rattle.sdb_record.specs.Meta.{id_in, is_in}
use Rattle.sdb_model.specs.declared.answer.Answer.TheVariants as answer
use Rattle.sdb_model.specs.Exec.{Tables}
use Rattle.sdb_model.specs.Serial.{Body, run_body, serial}
use Rattle.law_clients.specs.Database.{Database, is_listed}
use Rattle.law_clients.specs.OnlyResolves.{IsPreparedFor, IsAbortedRow}
use Rattle.law_clients.specs.Clients.{IsUnused}
use Rattle.law_clients.specs.Later.{IsOwn, IsOwnRow, Later, Own}
use Rattle.law_clients.specs.SessionVacuums.{Quiet}
use Rattle.law_clients.specs.Session.{AreSerialParts, Exchange, IsSerialPart, Part, answers_in, is_recorded_in, is_recorded, is_recorded_by, recorded_of, statements_in, tables_after}
use Rattle.law_clients.proofs.Leaves.{row_names, writer_fits}
use Rattle.law_clients.proofs.Recovers.{row_at}
use Rattle.law_clients.proofs.ReadRecords.{coordinators}

pub later_of : (catalog : List Table) (own : Option Own) (g h : Database) → Quiet catalog g h → Later catalog own g h
later_of catalog own g h s = record {
  sound = s.sound;
  loose = λ k r listed e loose. inl (s.loose k r listed e loose);
  rows = λ k row there e. s.rows k row there e;
  fresh = λ k row there e f. inl (s.fresh k row there e f);
}

-- whether a decision is that it is committed
abbrev pub is_committed_by : Option Decided → Bool
is_committed_by o = option_map_or (λ d. same_decision d.decision decision.Committed) o false

pub aborted_not : (o : Option Decided) → IsSomeAnd o (λ d. d.decision ≡ decision.Aborted) → is_committed_by o ≡ false
aborted_not None a = refl
aborted_not (Some d) a = ap (λ x. same_decision x decision.Committed) a

-- an id is none of those that a statement commits
abbrev pub IsOther : Option Own → TxId → Type 0
IsOther own id = (o : Own) → own ≡ Some o → (o.id.0 < 2 ^ 128) × (id ≢ o.id)

module _ (catalog : List Table) (own : Option Own) (g h : Database) (s : Later catalog own g h) where
  held_same : (id : TxId) → id.0 < 2 ^ 128 → IsOther own id → is_recorded_in h id ≡ is_recorded_in g id
  held_same id fits other = by (g (coordinator_key_of id)) refl (h (coordinator_key_of id)) refl
    where
      fresh : (row : Record) → g (coordinator_key_of id) ≡ None → h (coordinator_key_of id) ≡ Some row → is_committed_by (row_at (Some row)) ≡ false
      fresh row e f = on (s.fresh (coordinator_key_of id) row (coordinators id) e f)
        where
          on : (IsAbortedRow row × IsPreparedFor catalog g (coordinator_key_of id)) ⊎ IsOwnRow own (coordinator_key_of id) → is_committed_by (row_at (Some row)) ≡ false
          on (inl x) = aborted_not (result_ok (decision_in row)) x.0
          on (inr x) = absurd ((other x.o x.is).1 (sym (row_names id x.o.id fits (other x.o x.is).0 x.key)))

      by : (a : Option Record) → g (coordinator_key_of id) ≡ a → (b : Option Record) → h (coordinator_key_of id) ≡ b → is_recorded_in h id ≡ is_recorded_in g id
      by None e None f = ap (λ o. is_committed_by (row_at o)) (f ∙ sym e)
      by None e (Some row) f = ap (λ o. is_committed_by (row_at o)) f ∙ fresh row e f ∙ sym (ap (λ o. is_committed_by (row_at o)) e)
      by (Some row) e b f = ap (λ o. is_committed_by (row_at o)) (s.rows (coordinator_key_of id) row (coordinators id) e ∙ sym e)

  by_answer : (id : TxId) → id.0 < 2 ^ 128 → IsOther own id → (z : Answer) → is_recorded_by h id z ≡ is_recorded_by g id z
  by_answer id fits other (answer.Unknown x) = held_same id fits other
  by_answer id fits other answer.Committed = refl
  by_answer id fits other (answer.Rows rows) = refl
  by_answer id fits other (answer.Count n) = refl
  by_answer id fits other answer.Done = refl
  by_answer id fits other (answer.Duplicate key) = refl
  by_answer id fits other (answer.Busy key x at) = refl
  by_answer id fits other (answer.Conflict key found) = refl
  by_answer id fits other (answer.Expired x) = refl
  by_answer id fits other answer.Faulted = refl
  by_answer id fits other (answer.BadRecord key) = refl
  by_answer id fits other (answer.Refused r) = refl
  by_answer id fits other answer.Vacuuming = refl
  by_answer id fits other answer.OpenTransactions = refl
  by_answer id fits other answer.NoMemory = refl

  -- a transaction that the statement doesn't commit is recorded as it was
  abbrev IsApartFrom : Part → Type 0
  IsApartFrom t = (t.id.0 < 2 ^ 128) × IsOther own t.id

  recorded_same : (t : Part) → IsApartFrom t → is_recorded h t ≡ is_recorded g t
  recorded_same t x = by t.last
    where
      by : (o : Option Exchange) → option_map_or (λ e. is_recorded_by h t.id e.answer) o false ≡ option_map_or (λ e. is_recorded_by g t.id e.answer) o false
      by None = refl
      by (Some e) = by_answer t.id x.0 x.1 e.answer

  pub tables_same : (d : Tables) (ts : List Part) → AllByRecursion IsApartFrom ts → tables_after catalog h d ts ≡ tables_after catalog g d ts
  tables_same d [] a = refl
  tables_same d (t ∷ ts) a = ap (λ b. tables_after catalog h (if b then (run_body catalog (statements_in t.inside) d).1 else d) ts) (recorded_same t a.0) ∙ tables_same (if is_recorded g t then (run_body catalog (statements_in t.inside) d).1 else d) ts a.1

  -- the recorded ones are those whose row says COMMITTED
  pub rows_same : (ts : List Part) → AllByRecursion IsApartFrom ts → AllByRecursion (λ (t : Part). is_recorded_in g t.id ≡ is_recorded g t) ts → AllByRecursion (λ (t : Part). is_recorded_in h t.id ≡ is_recorded h t) ts
  rows_same [] a r = tt
  rows_same (t ∷ ts) a r = (held_same t.id a.0.0 a.0.1 ∙ r.0 ∙ sym (recorded_same t a.0), rows_same ts a.1 r.1)

  pub parts_same : (start : Database) (earlier : List Part) (d : Tables) (ts : List Part) → AllByRecursion IsApartFrom ts → AreSerialParts catalog start g earlier d ts → AreSerialParts catalog start h earlier d ts
  parts_same start earlier d [] a p = tt
  parts_same start earlier d (t ∷ ts) a p = (p.0, parts_same start (earlier ++ t ∷ []) (tables_after catalog h d (t ∷ [])) ts a.1 (subst (λ e. AreSerialParts catalog start g (earlier ++ t ∷ []) e ts) (sym (tables_same d (t ∷ []) (a.0, tt))) p.1))

  -- a new id stays new
  pub unused_stays : (id : TxId) → IsOther own id → IsUnused catalog g id → IsUnused catalog h id
  unused_stays id other new = record {
    fits = new.fits;
    undecided = by (h (coordinator_key_of id)) refl;
    unused = λ k r listed e loose writer. on k r listed loose writer (s.loose k r listed e loose);
  }
    where
      fresh : (row : Record) → (IsAbortedRow row × IsPreparedFor catalog g (coordinator_key_of id)) ⊎ IsOwnRow own (coordinator_key_of id) → ⊥
      fresh row (inl x) = let held = x.1 in new.unused held.at held.r held.listed held.present held.loose (held.writer ∙ ap (λ y. Some y) (row_names id held.id new.fits (writer_fits held.r held.id held.writer) held.key))
      fresh row (inr x) = (other x.o x.is).1 (sym (row_names id x.o.id new.fits (other x.o x.is).0 x.key))

      by : (b : Option Record) → h (coordinator_key_of id) ≡ b → h (coordinator_key_of id) ≡ None
      by None f = f
      by (Some row) f = absurd (fresh row (s.fresh (coordinator_key_of id) row (coordinators id) new.undecided f))

      on : (k : Key) (r : Record) → is_listed catalog k ≡ true → is_in state.Committed r.columns ≡ false → id_in r.columns ≡ Some id → (g k ≡ Some r) ⊎ IsOwn own r → ⊥
      on k r listed loose writer (inl e) = new.unused k r listed e loose writer
      on k r listed loose writer (inr x) = (other x.o x.is).1 (some_is id x.o.id (sym writer ∙ x.writer))

---- one transaction more

pub tables_append : (catalog : List Table) (last : Database) (d : Tables) (ts : List Part) (t : Part) → tables_after catalog last d (ts ++ t ∷ []) ≡ tables_after catalog last (tables_after catalog last d ts) (t ∷ [])
tables_append catalog last d [] t = refl
tables_append catalog last d (x ∷ ts) t = tables_append catalog last (if is_recorded last x then (run_body catalog (statements_in x.inside) d).1 else d) ts t

pub parts_append : (catalog : List Table) (start last : Database) (earlier : List Part) (d : Tables) (ts : List Part) (t : Part) → AreSerialParts catalog start last earlier d ts → IsSerialPart catalog start (earlier ++ ts) (tables_after catalog last d ts) t → AreSerialParts catalog start last earlier d (ts ++ t ∷ [])
parts_append catalog start last earlier d [] t a p = (subst (λ es. IsSerialPart catalog start es d t) (append-nil earlier) p, tt)
parts_append catalog start last earlier d (x ∷ ts) t a p = (a.0, parts_append catalog start last (earlier ++ x ∷ []) (tables_after catalog last d (x ∷ [])) ts t a.1 (subst (λ es. IsSerialPart catalog start es (tables_after catalog last (tables_after catalog last d (x ∷ [])) ts) t) (sym (append_assoc earlier (x ∷ []) ts)) p))

-- Where each was answered so, the recorded ones run whole give the same answers, and leave the tables.
pub serial_answered : (catalog : List Table) (start last : Database) (earlier : List Part) (d : Tables) (ts : List Part) → AreSerialParts catalog start last earlier d ts → serial catalog (map (λ t. Body (statements_in t.inside)) (recorded_of last ts)) d ≡ (map (λ t. answers_in t.inside) (recorded_of last ts), tables_after catalog last d ts)
serial_answered catalog start last earlier d [] a = refl
serial_answered catalog start last earlier d (t ∷ ts) a = by (is_recorded last t) refl (serial_answered catalog start last (earlier ++ t ∷ []) (tables_after catalog last d (t ∷ [])) ts a.1)
  where
    G : Bool → Type 0
    G b = serial catalog (map (λ x. Body (statements_in x.inside)) (if b then t ∷ recorded_of last ts else recorded_of last ts)) d ≡ (map (λ x. answers_in x.inside) (if b then t ∷ recorded_of last ts else recorded_of last ts), tables_after catalog last (if b then (run_body catalog (statements_in t.inside) d).1 else d) ts)

    H : Bool → Type 0
    H b = serial catalog (map (λ x. Body (statements_in x.inside)) (recorded_of last ts)) (if b then (run_body catalog (statements_in t.inside) d).1 else d) ≡ (map (λ x. answers_in x.inside) (recorded_of last ts), tables_after catalog last (if b then (run_body catalog (statements_in t.inside) d).1 else d) ts)

    on : (b : Bool) → H b → G b
    on true h = ap (λ q. ((run_body catalog (statements_in t.inside) d).0 ∷ q.0, q.1)) h ∙ ap (λ x. (x ∷ map (λ y. answers_in y.inside) (recorded_of last ts), tables_after catalog last (run_body catalog (statements_in t.inside) d).1 ts)) a.0.answers
    on false h = h

    by : (b : Bool) → is_recorded last t ≡ b → H (is_recorded last t) → G (is_recorded last t)
    by b e h = subst G (sym e) (on b (subst H e h))
