-- A store that answers with the replies of a list.
use Rattle.std.specs.Prelude.{◌≡◌, ◌⊎◌, ℕ, List, [], ◌∷◌, drop}
use Rattle.std.specs.FinMap as map
use Rattle.sdb_types.specs.declared.record.Request.{Request}
use Rattle.sdb_types.specs.declared.record.Reply.{Reply}
use Rattle.sdb_types.specs.declared.record.Reply.TheVariants as reply
use Rattle.sdb_types.specs.Contents.{CanAnswer}
use Rattle.sdb_types.specs.Draws.{counted as next_number}
use Rattle.sdb_store.specs.Store.{StoreState, faults_after}

-- The replies that are left, how many calls were made and how many failed.
pub record Scripted : Type 0 where
  pub left : List Reply
  pub made : ℕ
  pub failed : ℕ

-- A store of replies as any store: its contents are not known.
abbrev pub puppet_state : Scripted → StoreState
puppet_state puppet = record { known = ⊥; contents = map.empty; faults = puppet.failed; calls = puppet.made }

-- the first of the replies, and a fault where there is none
abbrev pub first_or_fault : List Reply → Reply
first_or_fault [] = reply.Fault
first_or_fault (next ∷ rest) = next

-- The first reply, where some store may give it to the request. Otherwise, and where no reply is left, a fault.
abbrev pub IsNextReply : Request → Reply → List Reply → Type 0
IsNextReply q r [] = r ≡ reply.Fault
IsNextReply q r (next ∷ rest) = (CanAnswer q next × (r ≡ next)) ⊎ ((¬ CanAnswer q next) × (r ≡ reply.Fault))

-- One call: it takes the first reply of the list, and counts as one failure exactly where it answers a fault.
pub record AnswersNext (q : Request) (r : Reply) (old new : Scripted) : Type 0 where
  pub answer : IsNextReply q r old.left
  pub left : new.left ≡ drop 1 old.left
  pub made : new.made ≡ next_number old.made
  pub failed : new.failed ≡ faults_after r old.failed
