-- What the calls of a COMMIT are where it is.
use Rattle.std.proofs.Common.{◌≡◌, ◌≢◌, ◌<◌, ◌⊎◌, ℕ, ◌+◌, List, [], ◌∷◌, ◌++◌, take, map, Option, Some, true, false, refl, sym, ap, ◌∙◌, append_assoc, cond}
use Rattle.std.specs.Prelude.{Bool, slice_get, Contains}
use Rattle.std.specs.List.{AllByRecursion, AllZip}
use Rattle.std.proofs.lemmas.List.{append-nil, map-append}
use Rattle.std.proofs.lemmas.List.Elements.{Contains-append_left}
use Rattle.law_answers.specs.Types.{Check, Key, Outcome, Record, Reply, Request}
use Rattle.sdb_types.specs.declared.record.Reply.TheVariants as reply
use Rattle.sdb_types.specs.Contents.{CanAnswer}
use Rattle.sdb_phases.specs.declared.step.Outcome.TheVariants as outcome
use Rattle.sdb_phases.specs.declared.step.DecidePhase.TheVariants as phase
use Rattle.sdb_phases.specs.Work.{Work, groups_of, prepares, forwards, backs, decide_of, abort_of}
use Rattle.sdb_phases.specs.Checks.{checks, difference_in}
use Rattle.sdb_phases.specs.Commit.{Stage, Preparing, Checking, Deciding, Forward, Stopping, Back, Over}
use Rattle.sdb_phases.specs.CommitLaws.{IsLost, reads_of}
use Rattle.law_answers.specs.Paths.{Call, Asks, Begins, IsForRow, requests_of, check_requests}
use Rattle.law_answers.specs.Ends.{IsGivenUp, IsLearned, IsPassed, IsPrepareChanged, IsPutOutOfMemory, IsUndecided, IsUndone}
use Rattle.law_answers.proofs.PathLists.{take_next}
use Rattle.law_answers.proofs.PathRows.{NoRow}
use Rattle.law_answers.proofs.Touches.{Touches, applied}
use Rattle.sdb_types.proofs.Public.{all_last}

---- what was asked

-- so many prepares and checks, these calls for the row, and these rolls
pub record AsksTo (p : Work) (calls : List Call) (n m : ℕ) (row rolls : List Request) : Type 0 where
  pub for_row : AllByRecursion (IsForRow p) row
  pub whole : requests_of calls ≡ take n (prepares p) ++ take m (check_requests p) ++ row ++ rolls

pub asks_of : (p : Work) (calls : List Call) (n m : ℕ) (row rolls : List Request) → AsksTo p calls n m row rolls → Asks p calls rolls
asks_of p calls n m row rolls a = record { prepared = n; checked = m; row = row; for_row = a.for_row; whole = a.whole }

one_call : (calls : List Call) (q : Request) (r : Reply) → requests_of (calls ++ record { request = q; reply = r } ∷ []) ≡ requests_of calls ++ q ∷ []
one_call calls q r = map-append (λ (c : Call). c.request) calls (record { request = q; reply = r } ∷ [])

two_nil : (xs : List Request) → xs ++ [] ++ [] ≡ xs
two_nil xs = append-nil (xs ++ []) ∙ append-nil xs

pub asks_prepare : (p : Work) (calls : List Call) (i : ℕ) (q : Request) (r : Reply) → AsksTo p calls i 0 [] [] → slice_get (prepares p) i ≡ Some q → AsksTo p (calls ++ record { request = q; reply = r } ∷ []) (i + 1) 0 [] []
asks_prepare p calls i q r a h = record {
  for_row = tt;
  whole = one_call calls q r ∙ ap (λ qs. qs ++ q ∷ []) (a.whole ∙ two_nil (take i (prepares p) ++ []) ∙ append-nil (take i (prepares p)))
      ∙ sym (take_next (prepares p) i q h) ∙ sym (two_nil (take (i + 1) (prepares p) ++ []) ∙ append-nil (take (i + 1) (prepares p)));
}

pub asks_check : (p : Work) (calls : List Call) (n i : ℕ) (q : Request) (r : Reply) → AsksTo p calls n i [] [] → slice_get (check_requests p) i ≡ Some q → AsksTo p (calls ++ record { request = q; reply = r } ∷ []) n (i + 1) [] []
asks_check p calls n i q r a h = record {
  for_row = tt;
  whole = one_call calls q r ∙ ap (λ qs. qs ++ q ∷ []) (a.whole ∙ two_nil (take n (prepares p) ++ take i (check_requests p)))
      ∙ append_assoc (take n (prepares p)) (take i (check_requests p)) (q ∷ []) ∙ ap (λ qs. take n (prepares p) ++ qs) (sym (take_next (check_requests p) i q h))
      ∙ sym (two_nil (take n (prepares p) ++ take (i + 1) (check_requests p)));
}

pub asks_row : (p : Work) (calls : List Call) (n m : ℕ) (row : List Request) (q : Request) (r : Reply) → AsksTo p calls n m row [] → IsForRow p q → AsksTo p (calls ++ record { request = q; reply = r } ∷ []) n m (row ++ q ∷ []) []
asks_row p calls n m row q r a is = record {
  for_row = all_last (IsForRow p) row q a.for_row is;
  whole = one_call calls q r ∙ ap (λ qs. qs ++ q ∷ []) (a.whole ∙ append-nil (take n (prepares p) ++ take m (check_requests p) ++ row))
      ∙ append_assoc (take n (prepares p) ++ take m (check_requests p)) row (q ∷ []) ∙ sym (append-nil (take n (prepares p) ++ take m (check_requests p) ++ (row ++ q ∷ [])));
}

pub asks_roll : (p : Work) (calls : List Call) (n m : ℕ) (row qs : List Request) (i : ℕ) (q : Request) (r : Reply) → AsksTo p calls n m row (take i qs) → slice_get qs i ≡ Some q → AsksTo p (calls ++ record { request = q; reply = r } ∷ []) n m row (take (i + 1) qs)
asks_roll p calls n m row qs i q r a h = record {
  for_row = a.for_row;
  whole = one_call calls q r ∙ ap (λ rs. rs ++ q ∷ []) a.whole ∙ append_assoc (take n (prepares p) ++ take m (check_requests p) ++ row) (take i qs) (q ∷ [])
      ∙ ap (λ rs. take n (prepares p) ++ take m (check_requests p) ++ row ++ rs) (sym (take_next qs i q h));
}

---- what was passed

-- every prepare was applied, and so many checks have passed
pub record Checked (p : Work) (i : ℕ) (calls : List Call) : Type 0 where
  pub done : List Call
  pub whole : calls ≡ map applied (prepares p) ++ done
  pub passed : AllZip IsPassed (take i (checks p)) done

-- they begin with every prepare, applied, and every check, passed
pub record Leads (p : Work) (calls : List Call) : Type 0 where
  pub front : List Call
  pub more : List Call
  pub checked : Checked p (reads_of p) front
  pub whole : calls ≡ front ++ more

pub leads_more : (p : Work) (calls : List Call) (c : Call) → Leads p calls → Leads p (calls ++ c ∷ [])
leads_more p calls c l = record {
  front = l.front;
  more = l.more ++ c ∷ [];
  checked = l.checked;
  whole = ap (λ cs. cs ++ c ∷ []) l.whole ∙ append_assoc l.front l.more (c ∷ []);
}

pub leads_all : (p : Work) (calls : List Call) (c : Call) → Checked p (reads_of p) calls → Leads p (calls ++ c ∷ [])
leads_all p calls c k = record { front = calls; more = c ∷ []; checked = k; whole = refl }

---- why it ends so

-- a check found something else
pub record IsCheckMoved (p : Work) (c : Call) (key : Key) (found : Option Record) : Type 0 where
  pub check : Check
  pub at : ℕ
  pub among : slice_get (checks p) at ≡ Some check
  pub asked : c.request ≡ check.request
  pub fits : CanAnswer check.request c.reply
  pub differs : difference_in check c.reply ≡ Some (key, found)

abbrev pub Moves : Work → Key → Option Record → Call → Type 0
Moves p key found c = IsPrepareChanged p c key found ⊎ IsCheckMoved p c key found

abbrev pub Caused : Work → List Call → Outcome → Type 0
Caused p calls (outcome.Conflict key found) = (c : Call) × Contains calls c × Moves p key found c × IsUndecided p calls
Caused p calls (outcome.Expired id) = (id ≡ p.id) × IsGivenUp p calls × Leads p calls
Caused p calls outcome.NoMemory = IsPutOutOfMemory p calls
Caused p calls a = Unit {0}

given_more : (p : Work) (calls : List Call) (c : Call) → IsGivenUp p calls → IsGivenUp p (calls ++ c ∷ [])
given_more p calls c g = record {
  before = g.before;
  call = g.call;
  later = g.later ++ c ∷ [];
  whole = ap (λ cs. cs ++ c ∷ []) g.whole ∙ append_assoc g.before (g.call ∷ g.later) (c ∷ []);
  for_row = g.for_row;
  at = g.at;
  observed = g.observed;
  not_own = g.not_own;
}

pub caused_more : (p : Work) (calls : List Call) (c : Call) (a : Outcome) → c.request ≢ decide_of p.id p.now → Caused p calls a → Caused p (calls ++ c ∷ []) a
caused_more p calls c (outcome.Conflict key found) other (m, among, moves, unput) =
    (m, Contains-append_left calls (c ∷ []) m among, moves, all_last (λ (d : Call). d.request ≢ decide_of p.id p.now) calls c unput other)
caused_more p calls c (outcome.Expired id) other (same, given, leads) = (same, given_more p calls c given, leads_more p calls c leads)
caused_more p calls c outcome.NoMemory other caused = all_last (λ (d : Call). d.request ≡ decide_of p.id p.now → d.reply ≡ reply.NoMemory) calls c caused (λ e. absurd (other e))
caused_more p calls c a other caused = tt

pub learned_more : (p : Work) (calls : List Call) (c : Call) → IsLearned p calls → IsLearned p (calls ++ c ∷ [])
learned_more p calls c l = record { call = l.call; among = Contains-append_left calls (c ∷ []) l.call l.among; for_row = l.for_row; learned = l.learned }

---- where it is

-- no call was for the row, but a look
abbrev pub Clear : Work → List Call → Type 0
Clear p calls = AllByRecursion (λ c. NoRow p c.request) calls

-- none has put the row ABORTED
abbrev pub NotOwn : Work → List Call → Type 0
NotOwn p calls = AllByRecursion (λ c. c.request ≢ abort_of p.id p.now) calls

pub record AtPrepare (p : Work) (calls : List Call) (i : ℕ) : Type 0 where
  pub whole : calls ≡ map applied (take i (prepares p))
  pub within : i < groups_of p
  pub asks : AsksTo p calls i 0 [] []
  pub clear : Clear p calls

pub record AtCheck (p : Work) (calls : List Call) (i : ℕ) : Type 0 where
  pub checked : Checked p i calls
  pub within : i < reads_of p
  pub asks : AsksTo p calls (groups_of p) i [] []
  pub clear : Clear p calls

pub record AtPut (p : Work) (calls : List Call) : Type 0 where
  pub checked : Checked p (reads_of p) calls
  pub asks : AsksTo p calls (groups_of p) (reads_of p) [] []
  pub clear : Clear p calls

pub record AtRow (p : Work) (calls : List Call) : Type 0 where
  pub leads : Leads p calls
  pub row : List Request
  pub asks : AsksTo p calls (groups_of p) (reads_of p) row []

pub record AtForward (p : Work) (calls : List Call) (rolls : List Request) : Type 0 where
  pub leads : Leads p calls
  pub row : List Request
  pub asks : AsksTo p calls (groups_of p) (reads_of p) row rolls
  pub learned : IsLearned p calls

-- it has stopped, or rolls back
pub record AtBack (p : Work) (calls : List Call) (a : Outcome) (n : ℕ) (rolls : List Request) : Type 0 where
  pub lost : IsLost a
  pub prepared : ℕ
  pub checked : ℕ
  pub row : List Request
  pub asks : AsksTo p calls prepared checked row rolls
  pub touches : Touches p calls n
  pub caused : Caused p calls a

pub record AtLost (p : Work) (calls : List Call) (a : Outcome) : Type 0 where
  pub rolled : IsUndone p calls
  pub begins : Begins p calls
  pub caused : Caused p calls a

abbrev pub Ends : Work → List Call → Outcome → Type 0
Ends p calls outcome.Committed = AtForward p calls (forwards p)
Ends p calls (outcome.Unknown id) = AtRow p calls
Ends p calls (outcome.BadRecord key) = AtRow p calls
Ends p calls a = AtLost p calls a

abbrev pub Goes : Work → List Call → Stage → Type 0
Goes p calls (Preparing i) = AtPrepare p calls i
Goes p calls (Checking i) = AtCheck p calls i
Goes p calls (Deciding phase.Put) = AtPut p calls
Goes p calls (Deciding phase.Look) = AtRow p calls × NotOwn p calls
Goes p calls (Deciding phase.Abort) = AtRow p calls × NotOwn p calls
Goes p calls (Deciding phase.Again) = AtRow p calls
Goes p calls (Deciding phase.Ended) = ⊥
Goes p calls (Forward i) = AtForward p calls (take i (forwards p)) × (i < groups_of p)
Goes p calls (Stopping a n) = AtBack p calls a n []
Goes p calls (Back a n i) = AtBack p calls a n (take i (backs p)) × (i < n)
Goes p calls (Over a) = Ends p calls a

pub by_stage : (p : Work) (calls : List Call) (b : Bool) (x y : Stage) → (b ≡ true → Goes p calls x) → (b ≡ false → Goes p calls y) → Goes p calls (cond b x y)
by_stage p calls true x y t f = t refl
by_stage p calls false x y t f = f refl
