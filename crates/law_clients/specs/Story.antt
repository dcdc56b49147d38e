-- A client's statements, put in order: its transactions that ended, and what came since.
use Rattle.std.specs.Prelude.{◌≡◌, ◌≢◌, ℕ, zero, suc, true, false, if◌then◌else◌, List, [], ◌∷◌, ◌++◌, Option, Some, None}
use Rattle.std.specs.List.{AllByRecursion}
use Rattle.sdb_model.specs.declared.answer.Answer.TheVariants as answer
use Rattle.sdb_model.specs.Sql.{reads_commit}
use Rattle.sdb_model.specs.Transactions.{Executed, begins, ends}

-- a transaction that ended, with its client's statements before it began
pub record Finished : Type 0 where
  pub gap : List Executed
  pub begin : Executed
  pub body : List Executed
  pub last : Executed

-- what came since the last end: no BEGIN that was answered Done, or an open transaction
pub data Rest : Type 0 where
  Closed : (gap : List Executed) → Rest
  Opened : (gap : List Executed) (begin : Executed) (body : List Executed) → Rest

-- a client's statements in order
pub record Story : Type 0 where
  pub whole : List Finished
  pub rest : Rest

-- one statement more, with its answer
abbrev pub settle : List Finished → Rest → Executed → Story
settle whole (Closed gap) s = if begins s then record { whole = whole; rest = Opened gap s [] } else record { whole = whole; rest = Closed (gap ++ s ∷ []) }
settle whole (Opened gap b body) s =
    if ends s then record { whole = whole ++ record { gap = gap; begin = b; body = body; last = s } ∷ []; rest = Closed [] }
    else record { whole = whole; rest = Opened gap b (body ++ s ∷ []) }

-- the statements of a story again
abbrev pub saids_of : List Finished → List Executed
saids_of [] = []
saids_of (f ∷ fs) = f.gap ++ f.begin ∷ (f.body ++ f.last ∷ saids_of fs)

-- those since the last end
abbrev pub statements_in : Rest → List Executed
statements_in (Closed gap) = gap
statements_in (Opened gap b body) = gap ++ b ∷ body

-- all of them, in order
abbrev pub all_of : Story → List Executed
all_of t = saids_of t.whole ++ statements_in t.rest

-- a statement that isn't answered Committed
abbrev pub IsUncommitted : Executed → Type 0
IsUncommitted s = s.answer ≢ Some answer.Committed

-- a statement outside of transactions: it begins none
abbrev pub IsPlain : Executed → Type 0
IsPlain s = (begins s ≡ false) × IsUncommitted s

-- a statement of an open transaction: it neither begins one nor ends it
abbrev pub IsInside : Executed → Type 0
IsInside s = (begins s ≡ false) × (ends s ≡ false) × IsUncommitted s

-- a transaction that ended: its BEGIN, and what ended it, which alone may be answered Committed
pub record IsEndedTxn (f : Finished) : Type 0 where
  pub gap : AllByRecursion IsPlain f.gap
  pub begin : begins f.begin ≡ true
  pub body : AllByRecursion IsInside f.body
  pub last : ends f.last ≡ true
  pub plain : begins f.last ≡ false

-- what came since the last end is of that form
abbrev pub IsRest : Rest → Type 0
IsRest (Closed gap) = AllByRecursion IsPlain gap
IsRest (Opened gap b body) = AllByRecursion IsPlain gap × (begins b ≡ true) × AllByRecursion IsInside body

-- a client's statements, each with its answer, in that form
pub record IsWellFormedStory (t : Story) : Type 0 where
  pub whole : AllByRecursion IsEndedTxn t.whole
  pub rest : IsRest t.rest

-- Inside of a transaction no BEGIN is answered Done, and nothing outside is answered Committed, nor inside but what ends it.
abbrev pub MayCome : Rest → Executed → Type 0
MayCome (Closed gap) s = IsUncommitted s
MayCome (Opened gap b body) s = (begins s ≡ false) × (ends s ≡ false → IsUncommitted s)

-- the transaction that ended as the k-th, k from 0
abbrev pub txn_ended_at : List Finished → ℕ → Option Finished
txn_ended_at [] k = None
txn_ended_at (f ∷ fs) zero = Some f
txn_ended_at (f ∷ fs) (suc k) = txn_ended_at fs k

-- what ended a transaction, where it reads as COMMIT
abbrev pub commit_in : Executed → Option Executed
commit_in s = if reads_commit s.text then Some s else None
