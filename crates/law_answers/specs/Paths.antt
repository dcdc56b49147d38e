-- The calls of a COMMIT, with their requests and replies.
use Rattle.std.specs.Prelude.{◌≡◌, ◌⊎◌, ℕ, ℤ, Bool, true, false, List, [], ◌∷◌, ◌++◌, map, take, Option, Some, None, Contains}
use Rattle.std.specs.List.{AllByRecursion, list_any}
use Rattle.law_answers.specs.Types.{Decision, Outcome, Reply, Request, TxId, Write}
use Rattle.sdb_types.specs.declared.record.Reply.TheVariants as reply
use Rattle.sdb_record.specs.Groups.{grouped, ungrouped}
use Rattle.sdb_phases.specs.Work.{Work, prepares, prepares_of, back_of, decide_of, abort_of, look_of}
use Rattle.sdb_phases.specs.Checks.{checks}
use Rattle.sdb_phases.specs.Commit.{Stage, Over, pending, after}
use Rattle.sdb_phases.specs.CommitLaws.{AreReplies, observes_decision}

-- a call: what was asked, and the reply
pub record Call : Type 0 where
  pub request : Request
  pub reply : Reply

-- one call more, where one is pending
abbrev pub with_call : Option Request → Reply → List Call → List Call
with_call None r calls = calls
with_call (Some q) r calls = calls ++ record { request = q; reply = r } ∷ []

-- The calls of a COMMIT over the replies so far, the oldest first: each asks what was pending before its reply. The replies
-- are the newest first.
abbrev pub calls_of_path : Work → List Reply → List Call
calls_of_path p [] = []
calls_of_path p (r ∷ past) = with_call (pending p (after p past)) r (calls_of_path p past)

-- A COMMIT makes these calls, over replies that they can get, and is then at that stage.
pub record Makes (p : Work) (calls : List Call) (s : Stage) : Type 0 where
  pub past : List Reply
  pub correct : AreReplies p past
  pub made : calls_of_path p past ≡ calls
  pub agrees : after p past ≡ s

-- and then ends so
abbrev pub EndsIn : Work → List Call → Outcome → Type 0
EndsIn p calls a = Makes p calls (Over a)

-- something was asked by one of the calls
abbrev pub IsAsked : Request → List Call → Type 0
IsAsked q calls = (c : Call) × Contains calls c × (c.request ≡ q)

-- it has ended
abbrev pub is_over : Stage → Bool
is_over (Over a) = true
is_over s = false

abbrev pub requests_of : List Call → List Request
requests_of calls = map (λ c. c.request) calls

abbrev pub replies_of : List Call → List Reply
replies_of calls = map (λ c. c.reply) calls

-- a reply showed that the transaction's row says that
abbrev pub was_observed : Work → Decision → List Call → Bool
was_observed p d calls = list_any (λ c. observes_decision p.id d (Some c.request) c.reply) calls

---- what is asked

abbrev pub check_requests : Work → List Request
check_requests p = map (λ c. c.request) (checks p)

-- it puts the transaction's row, or looks for it
abbrev pub IsForRow : Work → Request → Type 0
IsForRow p q = (q ≡ decide_of p.id p.now) ⊎ ((q ≡ look_of p.id) ⊎ (q ≡ abort_of p.id p.now))

-- What is asked, in order: so many of the prepares, from the first; so many of the checks, from the first; the row; and then
-- these rolls.
pub record Asks (p : Work) (calls : List Call) (rolls : List Request) : Type 0 where
  pub prepared : ℕ
  pub checked : ℕ
  pub row : List Request
  pub for_row : AllByRecursion (IsForRow p) row
  pub whole : requests_of calls ≡ take prepared (prepares p) ++ take checked (check_requests p) ++ row ++ rolls

---- what may have accepted effect

abbrev pub touched_by : List Write → Reply → List (List Write) → List (List Write)
touched_by g reply.Applied rest = g ∷ rest
touched_by g reply.Fault rest = g ∷ []
touched_by g r rest = []

-- The groups that may have accepted effect: those whose prepare was answered that it is applied, or a fault. The prepares are
-- the first calls, one for each group, up to the first that isn't applied.
abbrev pub touched : List (List Write) → List Call → List (List Write)
touched [] calls = []
touched (g ∷ gs) [] = []
touched (g ∷ gs) (c ∷ calls) = touched_by g c.reply (touched gs calls)

-- the roll back of each of their writes
abbrev pub undone : Work → List Call → List Request
undone p calls = map (back_of p.id) (ungrouped (touched (grouped p.writes) calls))

-- The first calls are the prepares, in order, each after the one before was applied.
abbrev pub BeginsSo : TxId → ℤ → List (List Write) → List Call → Type 0
BeginsSo id now [] calls = Unit {0}
BeginsSo id now (g ∷ gs) [] = Unit {0}
BeginsSo id now (g ∷ gs) (c ∷ calls) = (c.request ≡ prepares_of id now g) × (c.reply ≡ reply.Applied → BeginsSo id now gs calls)

abbrev pub Begins : Work → List Call → Type 0
Begins p calls = BeginsSo p.id p.now (grouped p.writes) calls
