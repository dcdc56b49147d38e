-- What a request asks for, what it puts, and what a reply to it shows.
use Rattle.std.specs.Prelude.{Bool, false, ◌||◌, List, [], ◌∷◌, map, Option, Some, None}
use Rattle.std.specs.Option.{option_map_or}
use Rattle.sdb_types.specs.Contents.{put_at}
use Rattle.sdb_model.specs.Types.{Condition, Key, Record, Reply, Request}
use Rattle.sdb_types.specs.declared.record.Request.TheVariants as ask
use Rattle.sdb_types.specs.declared.record.Reply.TheVariants as reply

---- one of a list

-- the only one of a list: none where it has none or more
abbrev pub only_of : {X : Type 0} → List X → Option X
only_of [] = None
only_of (x ∷ []) = Some x
only_of (x ∷ y ∷ xs) = None

-- some of a list is so: of one alone, whether that is
abbrev pub any_of : {X : Type 0} → (X → Bool) → List X → Bool
any_of is [] = false
any_of is (x ∷ []) = is x
any_of is (x ∷ y ∷ xs) = is x || any_of is (y ∷ xs)

---- requests and replies

-- the records that a request puts, each with the condition on which it does
abbrev pub puts_in : Request → List (Record × Condition)
puts_in (ask.Get key) = []
puts_in (ask.Scan span) = []
puts_in (ask.PutIf r condition) = (r, condition) ∷ []
puts_in (ask.DeleteIf key condition) = []
puts_in (ask.PutAll b) = map (λ p. (p.rec, p.condition)) b

-- What a reply shows at the keys that its request names: the record that was found there, or none. A scan names no key.
abbrev pub observed_in : Request → Reply → List (Key × Option Record)
observed_in (ask.Get key) (reply.Found found) = (key, found) ∷ []
observed_in (ask.PutIf r condition) (reply.NotMet found) = (r.key, found) ∷ []
observed_in (ask.DeleteIf key condition) (reply.NotMet found) = (key, found) ∷ []
observed_in (ask.PutAll b) (reply.NotAll k found) = option_map_or (λ p. (p.rec.key, found) ∷ []) (put_at b k) []
observed_in q r = []

---- by these two

-- the records that a request puts
abbrev pub records_put : Request → List Record
records_put q = map (λ p. p.0) (puts_in q)

-- the keys that a request names: that which it gets or deletes, or those of the records that it puts
abbrev pub keys_asked : Request → List Key
keys_asked (ask.Get key) = key ∷ []
keys_asked (ask.DeleteIf key condition) = key ∷ []
keys_asked q = map (λ (x : Record). x.key) (records_put q)
