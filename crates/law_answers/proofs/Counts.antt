-- How many calls a statement that reads and a VACUUM have made, one call after the other.
use Rattle.std.proofs.Common.{◌≡◌, ◌≤◌, ◌+◌, ◌*◌, ℕ, ℤ, suc, Bool, true, false, cond, List, [], ◌∷◌, ◌++◌, length, Option, Some, None, refl, sym, ap, subst, ◌∙◌, arith}
use Rattle.std.specs.Prelude.{if◌then◌else◌, filter, is_some}
use Rattle.std.specs.List.{flat_map}
use Rattle.std.specs.Option.{option_map}
use Rattle.std.proofs.lemmas.List.{append-nil, length-append, length-map}
use Rattle.std.proofs.lemmas.List.Elements.{filter-append}
use Rattle.std.proofs.lemmas.List.Sums.{fold-append}
use Rattle.std.proofs.lemmas.Grind.{flat_map-append}
use Rattle.law_answers.specs.Types.{Access, Meta, Record, RecoverPhase, RecoverStep, Reply, Request, Span, Table, TxId}
use Rattle.sdb_types.specs.declared.record.Reply.TheVariants as reply
use Rattle.sdb_types.specs.declared.record.Request.TheVariants as ask
use Rattle.sdb_types.specs.declared.record.Condition.TheVariants as condition
use Rattle.sdb_types.specs.declared.record.State.TheVariants as state
use Rattle.sdb_types.proofs.Public.{none_some, some_is}
use Rattle.sdb_record.specs.declared.access.Access.TheVariants as access
use Rattle.sdb_record.specs.Meta.{is_unresolved}
use Rattle.sdb_record.specs.Rolls.{is_tombstone}
use Rattle.sdb_model.specs.Calls.{StoreCall, is_removal, records_read}
use Rattle.sdb_model.specs.Counted.{IsReadCounted, IsVacuumCounted, removals_in, unresolved_in}
use Rattle.sdb_model.specs.ReadSet.{reads_rows}
use Rattle.sdb_phases.specs.declared.step.RecoverStep.TheVariants as steps
use Rattle.sdb_phases.specs.Recover.{recover_next, recover_request_at}
use Rattle.sdb_phases.specs.RecoverCalls.{calls_left}
use Rattle.sdb_phases.proofs.Public.{IsNearer, one_left, recover_nearer}
use Rattle.sdb_txn.specs.Read.{Asking, Bad, Ended, Firm, Kind, Open, ReadStage, Resolving, answered, kind_of, read_pending_at, read_step, request_of, resolved, settle, settle_one}
use Rattle.law_clients.proofs.Public.{access_table}
use Rattle.sdb_vacuum.specs.Vacuum as vacuum
use Rattle.sdb_vacuum.specs.Vacuum.{First, Malformed, Nothing, Tombstone, Unresolved, VacuumAt, VacuumStage, first_of, first_one, next_of_row, with_call, next_table, pending_at, removal_answered, spans_of, step_at, tombstone_or, whole}
use Rattle.law_answers.specs.Counts.{ReadCounted, VacuumIsCounted, opens, rest_of_table}
use Rattle.law_answers.proofs.ReadSteps.{IsDataTable, open_is}
use Rattle.law_answers.proofs.Settling.{data_read}
use Rattle.law_answers.proofs.VacuumSteps.{SweepsData}

---- one call more

pub calls_more : (calls : List StoreCall) (m : StoreCall) → length (calls ++ m ∷ []) ≡ length calls + 1
calls_more calls m = length-append calls (m ∷ [])

-- what its rows count for
abbrev observed_in : StoreCall → ℕ
observed_in m = if reads_rows m then opens (records_read m.reply) else 0

pub opens_more : (calls : List StoreCall) (m : StoreCall) → length (unresolved_in (calls ++ m ∷ [])) ≡ length (unresolved_in calls) + observed_in m
opens_more calls m =
    ap (λ ms. length (filter is_unresolved (flat_map (λ x. records_read x.reply) ms))) (filter-append reads_rows calls (m ∷ []))
    ∙ ap (λ rs. length (filter is_unresolved rs)) (flat_map-append (λ (x : StoreCall). records_read x.reply) (filter reads_rows calls) (filter reads_rows (m ∷ [])))
    ∙ ap length (filter-append is_unresolved (flat_map (λ x. records_read x.reply) (filter reads_rows calls)) (flat_map (λ x. records_read x.reply) (filter reads_rows (m ∷ []))))
    ∙ length-append (unresolved_in calls) (filter is_unresolved (flat_map (λ x. records_read x.reply) (filter reads_rows (m ∷ []))))
    ∙ ap (λ n. length (unresolved_in calls) + n) (last (reads_rows m))
  where
    last : (b : Bool) → length (filter is_unresolved (flat_map (λ (x : StoreCall). records_read x.reply) (if b then m ∷ [] else []))) ≡ (if b then opens (records_read m.reply) else 0)
    last true = ap opens (append-nil (records_read m.reply))
    last false = refl

found_fewer : (calls : List StoreCall) (m : StoreCall) → length (unresolved_in calls) ≤ length (unresolved_in (calls ++ m ∷ []))
found_fewer calls m = let e : length (unresolved_in (calls ++ m ∷ [])) ≡ length (unresolved_in calls) + observed_in m = opens_more calls m in omega arith

removals_more : (calls : List StoreCall) (m : StoreCall) → removals_in (calls ++ m ∷ []) ≡ removals_in calls + cond (is_removal m.request) 1 0
removals_more calls m = fold-append (λ a (x : StoreCall). a + cond (is_removal x.request) 1 0) 0 calls (m ∷ [])

removed_fewer : (calls : List StoreCall) (m : StoreCall) → removals_in calls ≤ removals_in (calls ++ m ∷ [])
removed_fewer calls m = let e : removals_in (calls ++ m ∷ []) ≡ removals_in calls + cond (is_removal m.request) 1 0 = removals_more calls m in omega arith

pub opens_first : (r : Record) (left : List Record) → opens left ≤ opens (r ∷ left)
opens_first r left = by (is_unresolved r)
  where
    by : (b : Bool) → opens left ≤ length (if b then r ∷ filter is_unresolved left else filter is_unresolved left)
    by true = omega arith
    by false = omega arith

pub opens_one : (r : Record) (meta : Meta) (left : List Record) → kind_of r ≡ Open meta → opens (r ∷ left) ≡ 1 + opens left
opens_one r meta left e = ap (λ b. length (if b then r ∷ filter is_unresolved left else filter is_unresolved left)) (open_is r meta e).0 ∙ plus (opens left)
  where
    plus : (n : ℕ) → suc n ≡ 1 + n
    plus n = omega arith

---- a recovery

-- a call is pending where there is one more to make
pends_one : (rec : Record) (meta : Meta) (p : RecoverPhase) (q : Request) → recover_request_at rec meta p ≡ Some q → 1 ≤ calls_left p
pends_one rec meta p q e = one_left rec meta p (ap is_some e)

---- a read

module _ (calls : List StoreCall) (m : StoreCall) where
  -- what is left fits the calls
  abbrev Fits : ℕ → List Record → Type 0
  Fits n left = length (calls ++ m ∷ []) + (n + 4 * opens left) ≤ 1 + 4 * length (unresolved_in (calls ++ m ∷ []))

  settled_counted : (images left : List Record) → Fits 0 left → ReadCounted (calls ++ m ∷ []) (settle images left)
  settled_counted images [] h = few h
    where
      few : Fits 0 [] → IsReadCounted (calls ++ m ∷ [])
      few k = omega arith
  settled_counted images (r ∷ left) h = by (kind_of r) refl (settled_counted (images ++ r ∷ []) left fewer)
    where
      fewer : Fits 0 left
      fewer = let l : opens left ≤ opens (r ∷ left) = opens_first r left in fewer_of (length (calls ++ m ∷ [])) (opens left) (opens (r ∷ left)) (length (unresolved_in (calls ++ m ∷ []))) l h
        where
          fewer_of : (n a b u : ℕ) → a ≤ b → n + (0 + 4 * b) ≤ 1 + 4 * u → n + (0 + 4 * a) ≤ 1 + 4 * u
          fewer_of n a b u l k = omega arith

      opened_of : (n a b u : ℕ) → b ≡ 1 + a → n + (0 + 4 * b) ≤ 1 + 4 * u → n + (4 + 4 * a) ≤ 1 + 4 * u
      opened_of n a b u e k = omega arith

      bad_of : (n b u : ℕ) → n + (0 + 4 * b) ≤ 1 + 4 * u → n ≤ 1 + 4 * u
      bad_of n b u k = omega arith

      by : (x : Kind) → kind_of r ≡ x → ReadCounted (calls ++ m ∷ []) (settle (images ++ r ∷ []) left) → ReadCounted (calls ++ m ∷ []) (settle_one x images r left (settle (images ++ r ∷ []) left))
      by Firm e k = k
      by (Open meta) e k = opened_of (length (calls ++ m ∷ [])) (opens left) (opens (r ∷ left)) (length (unresolved_in (calls ++ m ∷ []))) (opens_one r meta left e) h
      by Bad e k = bad_of (length (calls ++ m ∷ [])) (opens (r ∷ left)) (length (unresolved_in (calls ++ m ∷ []))) h

  -- one call more, of those that were left
  one_less : (k n : ℕ) (left : List Record) → suc k ≤ n → length calls + (n + 4 * opens left) ≤ 1 + 4 * length (unresolved_in calls) → Fits k left
  one_less k n left l h = by (length calls) (length (calls ++ m ∷ [])) (opens left) (length (unresolved_in calls)) (length (unresolved_in (calls ++ m ∷ []))) (calls_more calls m) (found_fewer calls m) h
    where
      by : (a b x u v : ℕ) → b ≡ a + 1 → u ≤ v → a + (n + 4 * x) ≤ 1 + 4 * u → b + (k + 4 * x) ≤ 1 + 4 * v
      by a b x u v e f g = omega arith

  enough : (n : ℕ) (left : List Record) → Fits n left → IsReadCounted (calls ++ m ∷ [])
  enough n left h = by (length (calls ++ m ∷ [])) (opens left) (length (unresolved_in (calls ++ m ∷ []))) h
    where
      by : (a x u : ℕ) → a + (n + 4 * x) ≤ 1 + 4 * u → a ≤ 1 + 4 * u
      by a x u g = omega arith

  -- the first call
  first_one_made : calls ≡ [] → length (calls ++ m ∷ []) ≡ 1
  first_one_made e = calls_more calls m ∙ ap (λ ms. length ms + 1) e

  first_counted : calls ≡ [] → IsReadCounted (calls ++ m ∷ [])
  first_counted e = by (length (calls ++ m ∷ [])) (length (unresolved_in (calls ++ m ∷ []))) (first_one_made e)
    where
      by : (a u : ℕ) → a ≡ 1 → a ≤ 1 + 4 * u
      by a u f = omega arith

  rows_fit : calls ≡ [] → reads_rows m ≡ true → Fits 0 (records_read m.reply)
  rows_fit e t = by (length (calls ++ m ∷ [])) (opens (records_read m.reply)) (length (unresolved_in (calls ++ m ∷ []))) (length (unresolved_in calls)) (first_one_made e) (opens_more calls m ∙ ap (λ b. length (unresolved_in calls) + (if b then opens (records_read m.reply) else 0)) t)
    where
      by : (a x v u : ℕ) → a ≡ 1 → v ≡ u + x → a + (0 + 4 * x) ≤ 1 + 4 * v
      by a x v u f g = omega arith

  answered_counted : (r : Reply) → IsReadCounted (calls ++ m ∷ []) → Fits 0 (records_read r) → ReadCounted (calls ++ m ∷ []) (answered r)
  answered_counted (reply.Found None) few h = settled_counted [] [] h
  answered_counted (reply.Found (Some r)) few h = settled_counted [] (r ∷ []) h
  answered_counted (reply.Rows rows) few h = settled_counted [] rows h
  answered_counted reply.Applied few h = few
  answered_counted (reply.NotMet found) few h = few
  answered_counted (reply.NotAll place there) few h = few
  answered_counted reply.Fault few h = few
  answered_counted reply.NoMemory few h = few

  resolved_counted : (images : List Record) (rec : Record) (meta : Meta) (left : List Record) (n : ℕ) (x : RecoverPhase × RecoverStep) → IsNearer n x → length calls + (n + 4 * opens left) ≤ 1 + 4 * length (unresolved_in calls) → ReadCounted (calls ++ m ∷ []) (resolved images rec meta left x)
  resolved_counted images rec meta left n (p, steps.More) k h = one_less (calls_left p) n left k h
  resolved_counted images rec meta left n (p, steps.Image None) k h = settled_counted images left (one_less 0 n left k h)
  resolved_counted images rec meta left n (p, steps.Image (Some b)) k h = settled_counted (images ++ b ∷ []) left (one_less 0 n left k h)
  resolved_counted images rec meta left n (p, steps.Busy id at) k h = enough 0 left (one_less 0 n left k h)
  resolved_counted images rec meta left n (p, steps.Faulted) k h = enough 0 left (one_less 0 n left k h)
  resolved_counted images rec meta left n (p, steps.BadRecord key) k h = enough 0 left (one_less 0 n left k h)
  resolved_counted images rec meta left n (p, steps.NoMemory) k h = enough 0 left (one_less 0 n left k h)

  -- where the reply leads
  pub read_more : (a : Access) (s : ReadStage) (now : ℤ) → IsDataTable (access_table a) → ReadCounted calls s → read_pending_at (request_of a) s ≡ Some m.request → ReadCounted (calls ++ m ∷ []) (read_step s now m.reply)
  read_more a Asking now own h e = answered_counted m.reply (first_counted h) (rows_fit h (data_read a own m (sym (some_is (request_of a) m.request e))))
  read_more a (Resolving images rec meta p left) now own h e = resolved_counted images rec meta left (calls_left p) (recover_next rec meta p now m.reply) (recover_nearer rec meta p now m.reply (ap is_some e)) h
  read_more a (Ended s) now own h e = none_some m.request e

  -- whatever it leads to, the calls are counted
  pub read_enough : (q : Request) (s : ReadStage) → ReadCounted calls s → read_pending_at q s ≡ Some m.request → IsReadCounted (calls ++ m ∷ [])
  read_enough q Asking h e = first_counted h
  read_enough q (Resolving images rec meta p left) h e = enough 0 left (one_less 0 (calls_left p) left (pends_one rec meta p m.request e) h)
  read_enough q (Ended s) h e = none_some m.request e

-- of one that waits they are
pub read_so_far : (calls : List StoreCall) (s : ReadStage) → ReadCounted calls s → IsReadCounted calls
read_so_far calls Asking h = subst IsReadCounted (sym h) (omega arith)
read_so_far calls (Resolving images rec meta p left) h = by (length calls) (calls_left p + 4 * opens left) (length (unresolved_in calls)) h
  where
    by : (a n u : ℕ) → a + n ≤ 1 + 4 * u → a ≤ 1 + 4 * u
    by a n u g = omega arith
read_so_far calls (Ended s) h = h

---- a VACUUM

abbrev LeavesAt : ℕ → ℕ → ℕ → ℕ → ℕ → Type 0
LeavesAt calls left tables removed found = calls + left ≤ tables + (removed + 5 * found)

-- what rows come to
abbrev first_rest : First → ℕ
first_rest Nothing = 0
first_rest (Tombstone b left) = 5 * opens left
first_rest (Unresolved r meta left) = 4 + 5 * opens left
first_rest (Malformed key) = 0

fewer_rest : (a b w : ℕ) → a ≤ b → w ≤ 5 * a → w ≤ 5 * b
fewer_rest a b w l h = omega arith

first_light : (left : List Record) → first_rest (first_of left) ≤ 5 * opens left
first_light [] = omega arith
first_light (r ∷ left) = by (kind_of r) refl (fewer_rest (opens left) (opens (r ∷ left)) (first_rest (first_of left)) (opens_first r left) (first_light left))
  where
    here : (b : Bool) → first_rest (first_of left) ≤ 5 * opens (r ∷ left) → first_rest (if b then Tombstone r left else first_of left) ≤ 5 * opens (r ∷ left)
    here true h = fewer_rest (opens left) (opens (r ∷ left)) (5 * opens left) (opens_first r left) (omega arith)
    here false h = h

    opened : (a b : ℕ) → b ≡ 1 + a → 4 + 5 * a ≤ 5 * b
    opened a b e = omega arith

    by : (x : Kind) → kind_of r ≡ x → first_rest (first_of left) ≤ 5 * opens (r ∷ left) → first_rest (first_one x r left (first_of left)) ≤ 5 * opens (r ∷ left)
    by Firm e h = here (is_tombstone r) h
    by (Open meta) e h = opened (opens left) (opens (r ∷ left)) (opens_one r meta left e)
    by Bad e h = omega arith

-- how many calls are left, but deletes of tombstones
abbrev rest_of : VacuumAt → ℕ
rest_of v = length v.spans + rest_of_table v.stage

next_light : (ss : List Span) (n : ℕ) → rest_of (next_table ss n).0 ≤ length ss
next_light [] n = omega arith
next_light (s ∷ ss) n = omega arith

row_light : (ss : List Span) (n : ℕ) (f : First) → rest_of (next_of_row ss n f).0 ≤ first_rest f + length ss
row_light ss n Nothing = let h = next_light ss n in omega arith
row_light ss n (Tombstone b left) = omega arith
row_light ss n (Unresolved r meta left) = omega arith
row_light ss n (Malformed key) = omega arith

on_light : (ss : List Span) (n : ℕ) (left : List Record) → rest_of (next_of_row ss n (first_of left)).0 ≤ 5 * opens left + length ss
on_light ss n left = let h = row_light ss n (first_of left) in let k = first_light left in omega arith

answered_light : (ss : List Span) (n : ℕ) (r : Reply) → rest_of (vacuum.answered ss n r).0 ≤ 5 * opens (records_read r) + length ss
answered_light ss n (reply.Rows rows) = on_light ss n rows
answered_light ss n (reply.Found found) = omega arith
answered_light ss n reply.Applied = omega arith
answered_light ss n (reply.NotMet found) = omega arith
answered_light ss n (reply.NotAll place there) = omega arith
answered_light ss n reply.Fault = omega arith
answered_light ss n reply.NoMemory = omega arith

image_light : (ss : List Span) (n : ℕ) (left : List Record) (b : Record) → rest_of (tombstone_or ss n left b).0 ≤ 5 * opens left + length ss
image_light ss n left b = by (is_tombstone b)
  where
    by : (t : Bool) → rest_of (if t then with_call ss n (vacuum.Removing b left) else next_of_row ss n (first_of left)).0 ≤ 5 * opens left + length ss
    by true = omega arith
    by false = on_light ss n left

resolved_light : (ss : List Span) (n : ℕ) (rec : Record) (meta : Meta) (left : List Record) (k : ℕ) (x : RecoverPhase × RecoverStep) → IsNearer k x → suc (rest_of (vacuum.resolved ss n rec meta left x).0) ≤ k + 5 * opens left + length ss
resolved_light ss n rec meta left k (p, steps.More) h = omega arith
resolved_light ss n rec meta left k (p, steps.Image None) h = let l = on_light ss n left in omega arith
resolved_light ss n rec meta left k (p, steps.Image (Some b)) h = let l = image_light ss n left b in omega arith
resolved_light ss n rec meta left k (p, steps.Busy id at) h = let l = on_light ss n left in omega arith
resolved_light ss n rec meta left k (p, steps.Faulted) h = omega arith
resolved_light ss n rec meta left k (p, steps.BadRecord key) h = omega arith
resolved_light ss n rec meta left k (p, steps.NoMemory) h = omega arith

removal_light : (ss : List Span) (n : ℕ) (left : List Record) (r : Reply) → rest_of (removal_answered ss n left r).0 ≤ 5 * opens left + length ss
removal_light ss n left reply.Applied = on_light ss (n + 1) left
removal_light ss n left (reply.NotMet found) = on_light ss n left
removal_light ss n left (reply.Found found) = omega arith
removal_light ss n left (reply.Rows rows) = omega arith
removal_light ss n left (reply.NotAll place there) = omega arith
removal_light ss n left reply.Fault = omega arith
removal_light ss n left reply.NoMemory = omega arith

-- the delete of a tombstone is one
removes_it : (b : Record) (o : Option TxId) (q : Request) → option_map (λ id. ask.DeleteIf b.key (condition.Version id state.Committed)) o ≡ Some q → is_removal q ≡ true
removes_it b None q e = none_some q e
removes_it b (Some id) q e = ap is_removal (sym (some_is (ask.DeleteIf b.key (condition.Version id state.Committed)) q e))

module _ (catalog : List Table) (calls : List StoreCall) (m : StoreCall) where
  abbrev Before : ℕ → Type 0
  Before left = LeavesAt (length calls) left (length catalog) (removals_in calls) (length (unresolved_in calls))

  abbrev After : ℕ → Type 0
  After left = LeavesAt (length (calls ++ m ∷ [])) left (length catalog) (removals_in (calls ++ m ∷ [])) (length (unresolved_in (calls ++ m ∷ [])))

  -- one of the calls that were left
  one_fewer : (n k : ℕ) → suc k ≤ n → Before n → After k
  one_fewer n k l h = by (length calls) (length (calls ++ m ∷ [])) (length catalog) (removals_in calls) (removals_in (calls ++ m ∷ [])) (length (unresolved_in calls)) (length (unresolved_in (calls ++ m ∷ []))) (calls_more calls m) (removed_fewer calls m) (found_fewer calls m) h
    where
      by : (a b t r s u v : ℕ) → b ≡ a + 1 → r ≤ s → u ≤ v → a + n ≤ t + (r + 5 * u) → b + k ≤ t + (s + 5 * v)
      by a b t r s u v e f g x = omega arith

  -- a scan
  one_scan : (n k : ℕ) → reads_rows m ≡ true → suc k ≤ n + 5 * opens (records_read m.reply) → Before n → After k
  one_scan n k t l h = by (length calls) (length (calls ++ m ∷ [])) (length catalog) (removals_in calls) (removals_in (calls ++ m ∷ [])) (length (unresolved_in calls)) (length (unresolved_in (calls ++ m ∷ []))) (opens (records_read m.reply)) (calls_more calls m) (removed_fewer calls m)
      (opens_more calls m ∙ ap (λ b. length (unresolved_in calls) + (if b then opens (records_read m.reply) else 0)) t) l h
    where
      by : (a b t r s u v x : ℕ) → b ≡ a + 1 → r ≤ s → v ≡ u + x → suc k ≤ n + 5 * x → a + n ≤ t + (r + 5 * u) → b + k ≤ t + (s + 5 * v)
      by a b t r s u v x e f g l z = omega arith

  -- a delete of a tombstone
  one_delete : (n k : ℕ) → is_removal m.request ≡ true → k ≤ n → Before n → After k
  one_delete n k t l h = by (length calls) (length (calls ++ m ∷ [])) (length catalog) (removals_in calls) (removals_in (calls ++ m ∷ [])) (length (unresolved_in calls)) (length (unresolved_in (calls ++ m ∷ []))) (calls_more calls m) (removals_more calls m ∙ ap (λ b. removals_in calls + cond b 1 0) t) (found_fewer calls m) h
    where
      by : (a b t r s u v : ℕ) → b ≡ a + 1 → s ≡ r + 1 → u ≤ v → a + n ≤ t + (r + 5 * u) → b + k ≤ t + (s + 5 * v)
      by a b t r s u v e f g x = omega arith

  step_counted : (ss : List Span) (n : ℕ) (s : VacuumStage) (now : ℤ) → SweepsData s → Before (length ss + rest_of_table s) → pending_at s ≡ Some m.request → After (rest_of (step_at ss n s now m.reply).0)
  step_counted ss n (vacuum.Scanning span) now own h e =
      let l : rest_of (vacuum.answered ss n m.reply).0 ≤ 5 * opens (records_read m.reply) + length ss = answered_light ss n m.reply in
      one_scan (length ss + 1) (rest_of (vacuum.answered ss n m.reply).0) (data_read (access.Scan span) own m (sym (some_is (ask.Scan span) m.request e))) (by (rest_of (vacuum.answered ss n m.reply).0) (opens (records_read m.reply)) (length ss) l) h
    where
      by : (k x t : ℕ) → k ≤ 5 * x + t → suc k ≤ t + 1 + 5 * x
      by k x t l = omega arith
  step_counted ss n (vacuum.Resolving rec meta p left) now own h e =
      one_fewer (length ss + (calls_left p + 5 * opens left)) (rest_of (vacuum.resolved ss n rec meta left (recover_next rec meta p now m.reply)).0)
      (by (suc (rest_of (vacuum.resolved ss n rec meta left (recover_next rec meta p now m.reply)).0)) (calls_left p) (5 * opens left) (length ss) (resolved_light ss n rec meta left (calls_left p) (recover_next rec meta p now m.reply) (recover_nearer rec meta p now m.reply (ap is_some e)))) h
    where
      by : (k a b t : ℕ) → k ≤ a + b + t → k ≤ t + (a + b)
      by k a b t l = omega arith
  step_counted ss n (vacuum.Removing b left) now own h e =
      one_delete (length ss + 5 * opens left) (rest_of (removal_answered ss n left m.reply).0) (removes_it b _ m.request e) (by (rest_of (removal_answered ss n left m.reply).0) (5 * opens left) (length ss) (removal_light ss n left m.reply)) h
    where
      by : (k a t : ℕ) → k ≤ a + t → k ≤ t + a
      by k a t l = omega arith
  step_counted ss n vacuum.Over now own h e = none_some m.request e

  -- whatever a reply leads to, the calls are counted
  pub sweep_enough : (v : VacuumAt) → VacuumIsCounted catalog calls v → pending_at v.stage ≡ Some m.request → IsVacuumCounted catalog (calls ++ m ∷ [])
  sweep_enough v h e = fits (by v.stage h e)
    where
      none_left : (n : ℕ) → 1 ≤ n → (t : ℕ) → 1 ≤ t + n
      none_left n l t = omega arith

      fits : After 0 → IsVacuumCounted catalog (calls ++ m ∷ [])
      fits k = plain (length (calls ++ m ∷ [])) (length catalog + (removals_in (calls ++ m ∷ []) + 5 * length (unresolved_in (calls ++ m ∷ [])))) k
        where
          plain : (a b : ℕ) → a + 0 ≤ b → a ≤ b
          plain a b l = omega arith

      by : (s : VacuumStage) → Before (length v.spans + rest_of_table s) → pending_at s ≡ Some m.request → After 0
      by (vacuum.Scanning span) k f = one_fewer (length v.spans + 1) 0 (none_left 1 (omega arith) (length v.spans)) k
      by (vacuum.Resolving rec meta p left) k f = one_fewer (length v.spans + (calls_left p + 5 * opens left)) 0 (some (calls_left p) (5 * opens left) (length v.spans) (pends_one rec meta p m.request f)) k
        where
          some : (a b t : ℕ) → 1 ≤ a → 1 ≤ t + (a + b)
          some a b t l = omega arith
      by (vacuum.Removing b left) k f = one_delete (length v.spans + 5 * opens left) 0 (removes_it b _ m.request f) (omega arith) k
      by vacuum.Over k f = none_some m.request f

  pub sweep_more : (v : VacuumAt) (now : ℤ) → SweepsData v.stage → VacuumIsCounted catalog calls v → pending_at v.stage ≡ Some m.request → VacuumIsCounted catalog (calls ++ m ∷ []) (step_at v.spans v.removed v.stage now m.reply).0
  sweep_more v now own h e = step_counted v.spans v.removed v.stage now own h e

-- of one that waits they are
pub sweep_so_far : (catalog : List Table) (calls : List StoreCall) (v : VacuumAt) → VacuumIsCounted catalog calls v → IsVacuumCounted catalog calls
sweep_so_far catalog calls v h = by (length calls) (length v.spans + rest_of_table v.stage) (length catalog + (removals_in calls + 5 * length (unresolved_in calls))) h
  where
    by : (a n b : ℕ) → a + n ≤ b → a ≤ b
    by a n b g = omega arith

-- only the number of the tables counts
pub counted_under : (catalog other : List Table) (calls : List StoreCall) (v : VacuumAt) → length other ≡ length catalog → VacuumIsCounted other calls v → VacuumIsCounted catalog calls v
counted_under catalog other calls v same h = subst (λ (n : ℕ). length calls + (length v.spans + rest_of_table v.stage) ≤ n + (removals_in calls + 5 * length (unresolved_in calls))) same h

-- one that begins
pub sweep_begins : (t : Table) (ts : List Table) → VacuumIsCounted (t ∷ ts) [] (vacuum.begun (t ∷ ts))
sweep_begins t ts = by (length (spans_of ts)) (length ts) (length-map ts whole)
  where
    by : (a b : ℕ) → a ≡ b → 0 + (a + 1) ≤ suc b + (0 + 5 * 0)
    by a b e = omega arith
