-- The keys that statements write on plain tables, and when they are too many.
use Rattle.std.specs.Prelude.{◌==◌, Bool, false, ◌&&◌, is_some, if◌then◌else◌, nat_lt, List, [], ◌∷◌, ◌++◌, map, length}
use Rattle.std.specs.Option.{option_map_or}
use Rattle.std.specs.List.{list_any}
use Rattle.std.specs.FinMap.{get}
use Rattle.law_clients.specs.Types.{Answer, Key, Statement, Table}
use Rattle.sdb_types.specs.Order.{same_key}
use Rattle.sdb_model.specs.declared.answer.Answer.TheVariants as answer
use Rattle.sdb_model.specs.declared.statement.Statement.TheVariants as statement
use Rattle.sdb_model.specs.Causes.{most_keys}
use Rattle.sdb_model.specs.Exec.{Tables, key_of, named_table, passing}
use Rattle.sdb_model.specs.Serial.{run_body}

-- the refusal for too many writes
abbrev pub is_too_many : Answer → Bool
is_too_many (answer.Refused r) = (r.kind == 15) && (r.place == 0)
is_too_many a = false

-- the keys that a statement writes on some tables
abbrev pub keys_on : Table → Statement → Tables → List Key
keys_on t (statement.Insert s) d = if is_some (get d (key_of t s)) then [] else key_of t s ∷ []
keys_on t (statement.Upsert s) d = key_of t s ∷ []
keys_on t (statement.Update s) d = map (λ r. r.key) (passing t s.tests d)
keys_on t (statement.Delete s) d = map (λ r. r.key) (passing t s.tests d)
keys_on t st d = []

abbrev pub keys_written : List Table → Statement → Tables → List Key
keys_written catalog st d = option_map_or (λ t. keys_on t st d) (named_table catalog st) []

-- with those that aren't among them
abbrev pub with_keys : List Key → List Key → List Key
with_keys ks [] = ks
with_keys ks (q ∷ qs) = with_keys (if list_any (same_key q) ks then ks else ks ++ q ∷ []) qs

-- the keys that the statements of a body write, one after the other
abbrev pub keys_of_body : List Table → List Statement → Tables → List Key → List Key
keys_of_body catalog [] d ks = ks
keys_of_body catalog (st ∷ ss) d ks = keys_of_body catalog ss (run_body catalog (st ∷ []) d).1 (with_keys ks (keys_written catalog st d))

-- keys that are written, if any, would bring the keys past the most
abbrev pub pass_with : List Key → List Key → Bool
pass_with ks [] = false
pass_with ks (q ∷ qs) = nat_lt most_keys (length (with_keys ks (q ∷ qs)))

-- so would those that a statement writes
abbrev pub passes_most : List Table → Statement → Tables → List Key → Bool
passes_most catalog st d ks = pass_with ks (keys_written catalog st d)
