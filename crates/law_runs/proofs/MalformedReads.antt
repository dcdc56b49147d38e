-- Where a read is by the rows that it found: those that it has passed, and what ended it.
use Rattle.std.proofs.Common.{◌≡◌, ◌⊎◌, inl, inr, ℤ, true, false, not, List, [], ◌∷◌, ◌++◌, Some, None, refl, sym, ap, subst, ◌∙◌, append_assoc}
use Rattle.std.specs.Prelude.{Contains}
use Rattle.std.specs.List.{AllByRecursion}
use Rattle.std.proofs.lemmas.Bool.{and_parts}
use Rattle.std.proofs.lemmas.List.{append-nil}
use Rattle.std.proofs.lemmas.List.Elements.{Contains-append_left, Contains-append_right, Contains-push}
use Rattle.law_runs.specs.Types.{Key, Meta, ReadStep, Record, RecoverPhase, RecoverStep, Reply, TxId}
use Rattle.sdb_types.specs.declared.record.Reply.TheVariants as reply
use Rattle.sdb_types.specs.declared.record.State.TheVariants as state
use Rattle.sdb_types.proofs.Public.{append_all, clash}
use Rattle.sdb_record.specs.Coordinator.{coordinator_key_of}
use Rattle.sdb_record.specs.Meta.{id_in, is_in, is_transactional, is_unresolved}
use Rattle.sdb_model.specs.Calls.{records_read}
use Rattle.sdb_phases.specs.declared.step.RecoverStep.TheVariants as steps
use Rattle.sdb_phases.specs.Recover.{recover_next}
use Rattle.sdb_phases.proofs.Public.{by_steps_recover_rows as by_steps}
use Rattle.sdb_txn.specs.declared.read.ReadStep.TheVariants as step
use Rattle.sdb_txn.specs.Read.{Asking, Bad, Ended, Firm, Kind, Open, ReadStage, Resolving, answered, kind_of, resolved, settle, settle_one}
use Rattle.law_clients.proofs.Public.{meta_of}
use Rattle.law_answers.proofs.Public.{bad_is, firm_checked, open_is}
use Rattle.law_runs.specs.Malformed.{IsTransactional}

-- The rows begin with some that pass the checks.
pub record IsPast (rows left : List Record) : Type 0 where
  pub passed : List Record
  pub split : rows ≡ passed ++ left
  pub all : AllByRecursion IsTransactional passed

-- A row passes the checks, as those before it do, and is unresolved.
pub record IsOpenIn (rows : List Record) (x : Record) : Type 0 where
  pub left : List Record
  pub past : IsPast rows (x ∷ left)
  pub unresolved : is_unresolved x ≡ true

-- one of that key
pub record BusyIn (rows : List Record) (key : Key) : Type 0 where
  pub found : Record
  pub is_open : IsOpenIn rows found
  pub same : found.key ≡ key

-- or of the transaction that has this row
pub record RowOf (rows : List Record) (key : Key) : Type 0 where
  pub found : Record
  pub id : TxId
  pub is_open : IsOpenIn rows found
  pub writer : id_in found.columns ≡ Some id
  pub same : key ≡ coordinator_key_of id

-- The first that doesn't pass the checks has this key.
pub record FirstBad (rows : List Record) (key : Key) : Type 0 where
  pub found : Record
  pub left : List Record
  pub past : IsPast rows (found ∷ left)
  pub malformed : is_transactional found ≡ false
  pub same : key ≡ found.key

abbrev pub EndSo : List Record → ReadStep → Type 0
EndSo rows (step.Images images) = AllByRecursion IsTransactional rows
EndSo rows (step.Busy key id at) = BusyIn rows key
EndSo rows (step.BadRecord key) = FirstBad rows key ⊎ RowOf rows key
EndSo rows step.More = Unit {0}
EndSo rows step.Faulted = Unit {0}
EndSo rows step.NoMemory = Unit {0}

-- where a reply leads a read
abbrev pub LedSo : List Record → ReadStage → Type 0
LedSo rows Asking = ⊥
LedSo rows (Resolving images rec meta p left) = IsPast rows (rec ∷ left) × (kind_of rec ≡ Open meta)
LedSo rows (Ended s) = EndSo rows s

---- lists of records

pub passes : (r : Record) → is_unresolved r ≡ true → IsTransactional r
passes r e = (and_parts (is_transactional r) (not (is_in state.Committed r.columns)) e).0

-- What passes the checks comes before the first that doesn't.
pub inside : (before passed rest left : List Record) (r x : Record) → before ++ r ∷ rest ≡ passed ++ x ∷ left → AllByRecursion IsTransactional passed → IsTransactional x → is_transactional r ≡ false → Contains before x
inside [] [] rest left r x e all accepted bad =
    let same : r ≡ x = cc in
    clash (sym accepted ∙ ap is_transactional (sym same) ∙ bad)
inside [] (y ∷ ys) rest left r x e all accepted bad =
    let same : r ≡ y = cc in
    clash (sym all.0 ∙ ap is_transactional (sym same) ∙ bad)
inside (b ∷ bs) [] rest left r x e all accepted bad =
    let same : b ≡ x = cc in
    subst (Contains (b ∷ bs)) same (Contains-append_left (b ∷ []) bs b (Contains-push [] b))
inside (b ∷ bs) (y ∷ ys) rest left r x e all accepted bad =
    let tail : bs ++ r ∷ rest ≡ ys ++ x ∷ left = cc in
    Contains-append_right (b ∷ []) bs x (inside bs ys rest left r x tail all.1 accepted bad)

-- The first that doesn't is one.
pub first_is : (before passed rest left : List Record) (r x : Record) → before ++ r ∷ rest ≡ passed ++ x ∷ left → AllByRecursion IsTransactional before → AllByRecursion IsTransactional passed → is_transactional r ≡ false → is_transactional x ≡ false → r ≡ x
first_is [] [] rest left r x e h all bad off = cc
first_is [] (y ∷ ys) rest left r x e h all bad off =
    let same : r ≡ y = cc in
    clash (sym all.0 ∙ ap is_transactional (sym same) ∙ bad)
first_is (b ∷ bs) [] rest left r x e h all bad off =
    let same : b ≡ x = cc in
    clash (sym h.0 ∙ ap is_transactional same ∙ off)
first_is (b ∷ bs) (y ∷ ys) rest left r x e h all bad off =
    let tail : bs ++ r ∷ rest ≡ ys ++ x ∷ left = cc in
    first_is bs ys rest left r x tail h.1 all.1 bad off

-- Where all pass there is none.
pub none_bad : (before rest : List Record) (r : Record) → AllByRecursion IsTransactional (before ++ r ∷ rest) → is_transactional r ≡ false → ⊥
none_bad [] rest r all bad = clash (sym all.0 ∙ bad)
none_bad (b ∷ bs) rest r all bad = none_bad bs rest r all.1 bad

---- rows are settled

-- one more has passed
pub past_more : (rows left : List Record) (r : Record) → IsPast rows (r ∷ left) → IsTransactional r → IsPast rows left
past_more rows left r h accepted = record { passed = h.passed ++ r ∷ []; split = h.split ∙ sym (append_assoc h.passed (r ∷ []) left); all = append_all IsTransactional h.passed (r ∷ []) h.all (accepted, tt) }

settled_so : (rows images left : List Record) → IsPast rows left → LedSo rows (settle images left)
settled_so rows images [] h = subst (AllByRecursion IsTransactional) (sym (h.split ∙ append-nil h.passed)) h.all
settled_so rows images (r ∷ left) h = by (kind_of r) refl (λ accepted. settled_so rows (images ++ r ∷ []) left (past_more rows left r h accepted))
  where
    by : (k : Kind) → kind_of r ≡ k → (IsTransactional r → LedSo rows (settle (images ++ r ∷ []) left)) → LedSo rows (settle_one k images r left (settle (images ++ r ∷ []) left))
    by Firm e rest = rest (firm_checked r e)
    by (Open meta) e rest = (h, e)
    by Bad e rest = inl (record { found = r; left = left; past = h; malformed = bad_is r e; same = refl })

-- the rows of a reply
pub answered_so : (r : Reply) → LedSo (records_read r) (answered r)
answered_so (reply.Found None) = tt
answered_so (reply.Found (Some x)) = settled_so (x ∷ []) [] (x ∷ []) (record { passed = []; split = refl; all = tt })
answered_so (reply.Rows rows) = settled_so rows [] rows (record { passed = []; split = refl; all = tt })
answered_so reply.Applied = tt
answered_so (reply.NotMet found) = tt
answered_so (reply.NotAll place there) = tt
answered_so reply.Fault = tt
answered_so reply.NoMemory = tt

---- a recovery ends

-- with a bad record only for its transaction's row
abbrev pub ComesTo : Meta → RecoverPhase × RecoverStep → Type 0
ComesTo meta (p, steps.BadRecord key) = key ≡ coordinator_key_of meta.id
ComesTo meta (p, steps.More) = Unit {0}
ComesTo meta (p, steps.Image o) = Unit {0}
ComesTo meta (p, steps.Busy id at) = Unit {0}
ComesTo meta (p, steps.Faulted) = Unit {0}
ComesTo meta (p, steps.NoMemory) = Unit {0}

pub recovered_so : (rec : Record) (meta : Meta) (p : RecoverPhase) (now : ℤ) (r : Reply) → ComesTo meta (recover_next rec meta p now r)
recovered_so rec meta =
    by_steps rec meta (ComesTo meta)
    (record {
      forward = λ at. tt;
      back = tt;
      abort = λ now. tt;
      again = tt;
      forwarded = λ at. tt;
      undone = tt;
      busy = tt;
      fault = tt;
      bad = refl;
      no_memory = tt;
    })

-- Where the rows that are left begin with the record that is resolved.
module _ (rows : List Record) (rec : Record) (meta : Meta) (left : List Record) (h : IsPast rows (rec ∷ left)) (is : kind_of rec ≡ Open meta) where
  pub opens : IsOpenIn rows rec
  opens = record { left = left; past = h; unresolved = (open_is rec meta is).0 }

  rest : IsPast rows left
  rest = past_more rows left rec h (passes rec (open_is rec meta is).0)

  -- its transaction's row
  pub row_of : (key : Key) → key ≡ coordinator_key_of meta.id → RowOf rows key
  row_of key same = record { found = rec; id = meta.id; is_open = opens; writer = (meta_of rec meta (open_is rec meta is).0 (open_is rec meta is).1).writer; same = same }

  ended_so : (images : List Record) (n : RecoverPhase × RecoverStep) → ComesTo meta n → LedSo rows (resolved images rec meta left n)
  ended_so images (p, steps.More) k = (h, is)
  ended_so images (p, steps.Image None) k = settled_so rows images left rest
  ended_so images (p, steps.Image (Some b)) k = settled_so rows (images ++ b ∷ []) left rest
  ended_so images (p, steps.Busy id at) k = record { found = rec; is_open = opens; same = refl }
  ended_so images (p, steps.Faulted) k = tt
  ended_so images (p, steps.BadRecord key) k = inr (row_of key k)
  ended_so images (p, steps.NoMemory) k = tt

  pub resolved_so : (images : List Record) (p : RecoverPhase) (now : ℤ) (r : Reply) → LedSo rows (resolved images rec meta left (recover_next rec meta p now r))
  resolved_so images p now r = ended_so images (recover_next rec meta p now r) (recovered_so rec meta p now r)
