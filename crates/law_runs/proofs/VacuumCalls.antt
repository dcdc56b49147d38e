-- How many calls a VACUUM has made, one call after the other: a scan for each table, a delete for each tombstone, and five calls for each
-- unresolved record.
use Rattle.std.proofs.Common.{◌≡◌, ◌≤◌, ◌+◌, ◌*◌, ℕ, ℤ, suc, Bool, true, false, List, [], ◌∷◌, ◌++◌, length, Some, None, refl, sym, ap, subst, ◌∙◌, arith}
use Rattle.std.specs.Prelude.{if◌then◌else◌, filter, is_some}
use Rattle.std.proofs.lemmas.List.Sums.{fold-append}
use Rattle.law_runs.specs.Types.{Meta, Record, RecoverPhase, RecoverStep, Reply, Span, Table}
use Rattle.sdb_types.specs.declared.record.Reply.TheVariants as reply
use Rattle.sdb_types.specs.declared.record.Request.TheVariants as ask
use Rattle.sdb_types.proofs.Public.{none_some, some_is}
use Rattle.sdb_record.specs.declared.access.Access.TheVariants as access
use Rattle.sdb_record.specs.Rolls.{is_tombstone}
use Rattle.sdb_model.specs.Calls.{StoreCall, records_read}
use Rattle.sdb_model.specs.Counted.{unresolved_in}
use Rattle.sdb_model.specs.ReadSet.{reads_rows}
use Rattle.sdb_phases.specs.declared.step.RecoverStep.TheVariants as steps
use Rattle.sdb_phases.specs.Recover.{recover_next}
use Rattle.sdb_txn.specs.Read.{Bad, Firm, Kind, Open, kind_of}
use Rattle.sdb_vacuum.specs.Vacuum.{First, Malformed, Nothing, Over, Removing, Resolving, Scanning, Tombstone, Unresolved, VacuumAt, VacuumStage, answered, first_of, first_one, next_of_row, with_call, next_table, pending_at, removal_answered, resolved, step_at, tombstone_or}
use Rattle.law_answers.specs.Counts.{opens}
use Rattle.sdb_phases.specs.RecoverCalls.{calls_left}
use Rattle.law_answers.proofs.Public.{IsDataTable, calls_more, data_read, opens_first, opens_more, opens_one}
use Rattle.sdb_phases.proofs.Public.{IsNearer, recover_nearer}
use Rattle.law_runs.specs.Vacuums.{IsVacuumMost, is_committed_tombstone, span_asked, tombstones_found, tombstones_in}
use Rattle.law_runs.proofs.Vacuuming.{firm_dead}

-- how many of some records are committed tombstones
abbrev dead : List Record → ℕ
dead rows = length (filter is_committed_tombstone rows)

-- how many calls it makes at most for the rows that are left
abbrev left_calls : List Record → ℕ
left_calls rows = dead rows + 5 * opens rows

-- and before it scans the next table
abbrev pub rest_of_stage : VacuumStage → ℕ
rest_of_stage (Scanning span) = 1
rest_of_stage (Resolving rec meta p left) = calls_left p + (1 + left_calls left)
rest_of_stage (Removing b left) = 1 + left_calls left
rest_of_stage Over = 0

abbrev rest_of : VacuumAt → ℕ
rest_of v = length v.spans + rest_of_stage v.stage

-- Its calls, and those that it makes at most from here on.
abbrev pub MostLeft : List Table → List StoreCall → VacuumAt → Type 0
MostLeft catalog calls v = length calls + (length v.spans + rest_of_stage v.stage) ≤ length catalog + (tombstones_in calls + 5 * length (unresolved_in calls))

---- what rows come to

abbrev first_rest : First → ℕ
first_rest Nothing = 0
first_rest (Tombstone b left) = 1 + left_calls left
first_rest (Unresolved r meta left) = 5 + left_calls left
first_rest (Malformed key) = 0

dead_first : (r : Record) (left : List Record) → dead left ≤ dead (r ∷ left)
dead_first r left = by (is_committed_tombstone r)
  where
    by : (b : Bool) → dead left ≤ length (if b then r ∷ filter is_committed_tombstone left else filter is_committed_tombstone left)
    by true = omega arith
    by false = omega arith

dead_one : (r : Record) (left : List Record) → is_committed_tombstone r ≡ true → dead (r ∷ left) ≡ 1 + dead left
dead_one r left e = ap (λ b. length (if b then r ∷ filter is_committed_tombstone left else filter is_committed_tombstone left)) e ∙ plus (dead left)
  where
    plus : (n : ℕ) → suc n ≡ 1 + n
    plus n = omega arith

first_light : (left : List Record) → first_rest (first_of left) ≤ left_calls left
first_light [] = omega arith
first_light (r ∷ left) = by (kind_of r) refl (fewer (first_rest (first_of left)) (dead left) (dead (r ∷ left)) (opens left) (opens (r ∷ left)) (dead_first r left) (opens_first r left) (first_light left))
  where
    fewer : (w a b x y : ℕ) → a ≤ b → x ≤ y → w ≤ a + 5 * x → w ≤ b + 5 * y
    fewer w a b x y l k h = omega arith

    removed : (a b x y : ℕ) → b ≡ 1 + a → x ≤ y → 1 + (a + 5 * x) ≤ b + 5 * y
    removed a b x y e l = omega arith

    opened : (a b x y : ℕ) → a ≤ b → y ≡ 1 + x → 5 + (a + 5 * x) ≤ b + 5 * y
    opened a b x y l e = omega arith

    firm : (t : Bool) → kind_of r ≡ Firm → is_tombstone r ≡ t → first_rest (first_of left) ≤ left_calls (r ∷ left) → first_rest (if t then Tombstone r left else first_of left) ≤ left_calls (r ∷ left)
    firm true e t h = removed (dead left) (dead (r ∷ left)) (opens left) (opens (r ∷ left)) (dead_one r left (firm_dead r e t)) (opens_first r left)
    firm false e t h = h

    by : (k : Kind) → kind_of r ≡ k → first_rest (first_of left) ≤ left_calls (r ∷ left) → first_rest (first_one k r left (first_of left)) ≤ left_calls (r ∷ left)
    by Firm e h = firm (is_tombstone r) e refl h
    by (Open meta) e h = opened (dead left) (dead (r ∷ left)) (opens left) (opens (r ∷ left)) (dead_first r left) (opens_one r meta left e)
    by Bad e h = omega arith

next_light : (ss : List Span) (n : ℕ) → rest_of (next_table ss n).0 ≤ length ss
next_light [] n = omega arith
next_light (s ∷ ss) n = omega arith

row_light : (ss : List Span) (n : ℕ) (f : First) → rest_of (next_of_row ss n f).0 ≤ first_rest f + length ss
row_light ss n Nothing = let h = next_light ss n in omega arith
row_light ss n (Tombstone b left) = omega arith
row_light ss n (Unresolved r meta left) = omega arith
row_light ss n (Malformed key) = omega arith

on_light : (ss : List Span) (n : ℕ) (left : List Record) → rest_of (next_of_row ss n (first_of left)).0 ≤ left_calls left + length ss
on_light ss n left = by (rest_of (next_of_row ss n (first_of left)).0) (first_rest (first_of left)) (left_calls left) (length ss) (row_light ss n (first_of left)) (first_light left)
  where
    by : (a b c t : ℕ) → a ≤ b + t → b ≤ c → a ≤ c + t
    by a b c t l k = omega arith

answered_light : (ss : List Span) (n : ℕ) (r : Reply) → rest_of (answered ss n r).0 ≤ left_calls (records_read r) + length ss
answered_light ss n (reply.Rows rows) = on_light ss n rows
answered_light ss n (reply.Found found) = omega arith
answered_light ss n reply.Applied = omega arith
answered_light ss n (reply.NotMet found) = omega arith
answered_light ss n (reply.NotAll place there) = omega arith
answered_light ss n reply.Fault = omega arith
answered_light ss n reply.NoMemory = omega arith

image_light : (ss : List Span) (n : ℕ) (left : List Record) (b : Record) → rest_of (tombstone_or ss n left b).0 ≤ 1 + left_calls left + length ss
image_light ss n left b = by (is_tombstone b)
  where
    by : (t : Bool) → rest_of (if t then with_call ss n (Removing b left) else next_of_row ss n (first_of left)).0 ≤ 1 + left_calls left + length ss
    by true = omega arith
    by false = let h = on_light ss n left in omega arith

resolved_light : (ss : List Span) (n : ℕ) (rec : Record) (meta : Meta) (left : List Record) (k : ℕ) (x : RecoverPhase × RecoverStep) → IsNearer k x → suc (rest_of (resolved ss n rec meta left x).0) ≤ k + (1 + left_calls left) + length ss
resolved_light ss n rec meta left k (p, steps.More) h = omega arith
resolved_light ss n rec meta left k (p, steps.Image None) h = let l = on_light ss n left in omega arith
resolved_light ss n rec meta left k (p, steps.Image (Some b)) h = let l = image_light ss n left b in omega arith
resolved_light ss n rec meta left k (p, steps.Busy id at) h = let l = on_light ss n left in omega arith
resolved_light ss n rec meta left k (p, steps.Faulted) h = omega arith
resolved_light ss n rec meta left k (p, steps.BadRecord key) h = omega arith
resolved_light ss n rec meta left k (p, steps.NoMemory) h = omega arith

removal_light : (ss : List Span) (n : ℕ) (left : List Record) (r : Reply) → rest_of (removal_answered ss n left r).0 ≤ left_calls left + length ss
removal_light ss n left reply.Applied = on_light ss (n + 1) left
removal_light ss n left (reply.NotMet found) = on_light ss n left
removal_light ss n left (reply.Found found) = omega arith
removal_light ss n left (reply.Rows rows) = omega arith
removal_light ss n left (reply.NotAll place there) = omega arith
removal_light ss n left reply.Fault = omega arith
removal_light ss n left reply.NoMemory = omega arith

---- one call more

module _ (catalog : List Table) (calls : List StoreCall) (m : StoreCall) where
  abbrev Before : ℕ → Type 0
  Before left = length calls + left ≤ length catalog + (tombstones_in calls + 5 * length (unresolved_in calls))

  abbrev After : ℕ → Type 0
  After left = length (calls ++ m ∷ []) + left ≤ length catalog + (tombstones_in (calls ++ m ∷ []) + 5 * length (unresolved_in (calls ++ m ∷ [])))

  dead_more : tombstones_in (calls ++ m ∷ []) ≡ tombstones_in calls + tombstones_found m
  dead_more = fold-append (λ a (x : StoreCall). a + tombstones_found x) 0 calls (m ∷ [])

  one_fewer : (n k : ℕ) → suc k ≤ n → Before n → After k
  one_fewer n k l h = by (length calls) (length (calls ++ m ∷ [])) (length catalog) (tombstones_in calls) (tombstones_in (calls ++ m ∷ [])) (length (unresolved_in calls)) (length (unresolved_in (calls ++ m ∷ []))) (tombstones_found m) (if reads_rows m then opens (records_read m.reply) else 0) (calls_more calls m) dead_more (opens_more calls m) h
    where
      by : (a b t r s u v x y : ℕ) → b ≡ a + 1 → s ≡ r + x → v ≡ u + y → a + n ≤ t + (r + 5 * u) → b + k ≤ t + (s + 5 * v)
      by a b t r s u v x y e f g z = omega arith

  one_scan : (n k : ℕ) → is_some (span_asked m.request) ≡ true → reads_rows m ≡ true → suc k ≤ n + left_calls (records_read m.reply) → Before n → After k
  one_scan n k scans reads l h =
      by (length calls) (length (calls ++ m ∷ [])) (length catalog) (tombstones_in calls) (tombstones_in (calls ++ m ∷ [])) (length (unresolved_in calls)) (length (unresolved_in (calls ++ m ∷ []))) (dead (records_read m.reply)) (opens (records_read m.reply)) (calls_more calls m)
      (dead_more ∙ ap (λ b. tombstones_in calls + (if b then dead (records_read m.reply) else 0)) scans)
      (opens_more calls m ∙ ap (λ b. length (unresolved_in calls) + (if b then opens (records_read m.reply) else 0)) reads) l h
    where
      by : (a b t r s u v x y : ℕ) → b ≡ a + 1 → s ≡ r + x → v ≡ u + y → suc k ≤ n + (x + 5 * y) → a + n ≤ t + (r + 5 * u) → b + k ≤ t + (s + 5 * v)
      by a b t r s u v x y e f g l z = omega arith

  -- where a reply leads
  pub most_more : (v : VacuumAt) (now : ℤ) → ((span : Span) → v.stage ≡ Scanning span → IsDataTable span.table) → pending_at v.stage ≡ Some m.request → MostLeft catalog calls v → MostLeft catalog (calls ++ m ∷ []) (step_at v.spans v.removed v.stage now m.reply).0
  most_more v now own e h = by v.stage own e h
    where
      by : (s : VacuumStage) → ((span : Span) → s ≡ Scanning span → IsDataTable span.table) → pending_at s ≡ Some m.request → Before (length v.spans + rest_of_stage s) → After (rest_of (step_at v.spans v.removed s now m.reply).0)
      by (Scanning span) of_data e h =
          let same = sym (some_is (ask.Scan span) m.request e) in
          one_scan (length v.spans + 1) (rest_of (answered v.spans v.removed m.reply).0) (ap (λ q. is_some (span_asked q)) same) (data_read (access.Scan span) (of_data span refl) m same)
          (less (rest_of (answered v.spans v.removed m.reply).0) (left_calls (records_read m.reply)) (length v.spans) (answered_light v.spans v.removed m.reply)) h
        where
          less : (k x t : ℕ) → k ≤ x + t → suc k ≤ t + 1 + x
          less k x t l = omega arith
      by (Resolving rec meta p left) of_data e h =
          one_fewer (length v.spans + (calls_left p + (1 + left_calls left))) (rest_of (resolved v.spans v.removed rec meta left (recover_next rec meta p now m.reply)).0)
          (less (suc (rest_of (resolved v.spans v.removed rec meta left (recover_next rec meta p now m.reply)).0)) (calls_left p) (1 + left_calls left) (length v.spans) (resolved_light v.spans v.removed rec meta left (calls_left p) (recover_next rec meta p now m.reply) (recover_nearer rec meta p now m.reply (ap is_some e)))) h
        where
          less : (k a b t : ℕ) → k ≤ a + b + t → k ≤ t + (a + b)
          less k a b t l = omega arith
      by (Removing b left) of_data e h = one_fewer (length v.spans + (1 + left_calls left)) (rest_of (removal_answered v.spans v.removed left m.reply).0) (less (rest_of (removal_answered v.spans v.removed left m.reply).0) (left_calls left) (length v.spans) (removal_light v.spans v.removed left m.reply)) h
        where
          less : (k a t : ℕ) → k ≤ a + t → suc k ≤ t + (1 + a)
          less k a t l = omega arith
      by Over of_data e h = none_some m.request e

  -- whatever it leads to, the calls are counted
  pub most_enough : (v : VacuumAt) → pending_at v.stage ≡ Some m.request → MostLeft catalog calls v → IsVacuumMost catalog (calls ++ m ∷ [])
  most_enough v e h = plain (length (calls ++ m ∷ [])) (length catalog + (tombstones_in (calls ++ m ∷ []) + 5 * length (unresolved_in (calls ++ m ∷ [])))) (by v.stage e h)
    where
      plain : (a b : ℕ) → a + 0 ≤ b → a ≤ b
      plain a b l = omega arith

      some : (a t : ℕ) → 1 ≤ a → 1 ≤ t + a
      some a t l = omega arith

      some_first : (a b : ℕ) → 1 ≤ a + (1 + b)
      some_first a b = omega arith

      one_plus : (b : ℕ) → 1 ≤ 1 + b
      one_plus b = omega arith

      by : (s : VacuumStage) → pending_at s ≡ Some m.request → Before (length v.spans + rest_of_stage s) → After 0
      by (Scanning span) f k = one_fewer (length v.spans + 1) 0 (some 1 (length v.spans) (omega arith)) k
      by (Resolving rec meta p left) f k = one_fewer (length v.spans + (calls_left p + (1 + left_calls left))) 0 (some (calls_left p + (1 + left_calls left)) (length v.spans) (some_first (calls_left p) (left_calls left))) k
      by (Removing b left) f k = one_fewer (length v.spans + (1 + left_calls left)) 0 (some (1 + left_calls left) (length v.spans) (one_plus (left_calls left))) k
      by Over f k = none_some m.request f

-- only the number of the tables counts
pub most_under : (catalog other : List Table) (calls : List StoreCall) (v : VacuumAt) → length other ≡ length catalog → MostLeft other calls v → MostLeft catalog calls v
most_under catalog other calls v same h = subst (λ (n : ℕ). length calls + (length v.spans + rest_of_stage v.stage) ≤ n + (tombstones_in calls + 5 * length (unresolved_in calls))) same h

-- of one that waits they are
pub most_so_far : (catalog : List Table) (calls : List StoreCall) (v : VacuumAt) → MostLeft catalog calls v → IsVacuumMost catalog calls
most_so_far catalog calls v h = by (length calls) (length v.spans + rest_of_stage v.stage) (length catalog + (tombstones_in calls + 5 * length (unresolved_in calls))) h
  where
    by : (a n b : ℕ) → a + n ≤ b → a ≤ b
    by a n b g = omega arith
