-- What the program promises of a store that is retired.
use Rattle.std.specs.Prelude.{◌≡◌, ℕ, List, ◌++◌, ◌∷◌, [], codes, decimal, remove, Some}
use Rattle.sdb_stores.specs.Views.{StoreView as Counted, names_of, place_of}
use Rattle.sdb_catalog.specs.Calls.{with_states}
use Rattle.sdb_contents.specs.declared.retire_refused.RetireRefused.{RetireRefused}
use Rattle.sdb_contents.specs.declared.retire_refused.RetireRefused.TheVariants as refused
use Rattle.sdb_contents.specs.Dropped.{HoldsStill, OpensTheSame}
use Rattle.sdb_contents.specs.Retired.{AreKnown, AreAllMoved, IsLeft, IsUnmoved, IsUnmovedKnown, OthersArePreserved, Sides}
use Rattle.sdb_contents.specs.Writes.{GoOn}
use Rattle.sdb_app.specs.declared.status.Status.{Status}
use Rattle.sdb_app.specs.declared.status.Status.TheVariants as status
use Rattle.sdb_app.specs.Ends.{Work}

-- the line of the answer, with the number of records that were copied
abbrev pub moved_text : ℕ → List ℕ
moved_text n = codes "moved " ++ (decimal n ++ 10 ∷ [])

-- Everything in the one store was moved to the other, and the store was dropped: the others are in their order, as the move left them. The
-- answer has the number of records that were copied. Where contents are known, the rows of the catalog give the tables of before over the
-- stores that are left, and these tables their images. Nothing of the input was read.
pub record IsStoreRetired (s : Sides) (work : Work) (answer : List ℕ) : Type 0 where
  pub count : ℕ
  pub mid : List Counted
  pub moved : AreAllMoved s count work.old (with_states work.old mid)
  pub others : OthersArePreserved s work.old (with_states work.old mid)
  pub goes : GoOn work.old (with_states work.old mid)
  pub at : ℕ
  pub found : place_of s.from (names_of mid) ≡ Some at
  pub left : work.left ≡ remove mid at
  pub opens : AreKnown s work.old → OpensTheSame s work.old (with_states work.old work.left)
  pub text : answer ≡ moved_text count
  pub unread : work.rest ≡ work.input

-- how the program ends where a store was not retired
abbrev pub status_of_retire : RetireRefused → Status
status_of_retire refused.StoreFault = status.StoreFault
status_of_retire (refused.BadRow key) = status.BadStore key
status_of_retire refused.NoMemory = status.NoMemory

-- The store was not retired, for this cause. All stores are attached still, and it holds what it held. The others hold what they held, or
-- what the first writes left.
pub record IsUnretired (s : Sides) (work : Work) (cause : RetireRefused) : Type 0 where
  pub refused : IsUnmoved s work.old (with_states work.old work.left) cause
  pub known : IsUnmovedKnown s work.old (with_states work.old work.left) cause
  pub written : IsLeft s work.old (with_states work.old work.left)
  pub others : OthersArePreserved s work.old (with_states work.old work.left)
  pub kept : HoldsStill s.from work.old (with_states work.old work.left)
  pub goes : GoOn work.old (with_states work.old work.left)
  pub unread : work.rest ≡ work.input

-- Why `retire` has no answer: the store was not retired; or it was, and memory ran out for the line.
pub data StopsRetire (s : Sides) (work : Work) (end : Status) : Type 0 where
  Unretired : (cause : RetireRefused) → IsUnretired s work cause → end ≡ status_of_retire cause → StopsRetire s work end
  Unanswered : (text : List ℕ) → IsStoreRetired s work text → end ≡ status.NoMemory → StopsRetire s work end
