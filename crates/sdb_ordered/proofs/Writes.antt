-- What a put or a delete answers where its condition holds, and where it does not.
use Rattle.std.proofs.Common.{◌≡◌, ◌∙◌, List, Bool, true, false, cond, Some, None, Ok, Err, sym, ap}
use Rattle.std.specs.Prelude.{Option, Result, OnErr, is_some}
use Rattle.std.specs.Option.{option_map}
use Rattle.std.specs.BTreeMap.{is_at}
use Rattle.std.specs.Map.{lookup}
use Rattle.std.specs.FinMap.{get, insert, remove, from_entries}
use Rattle.sdb_types.specs.Order.{key_cmp}
use Rattle.sdb_types.specs.declared.key.Key.{Key}
use Rattle.sdb_types.specs.declared.pair.Pair.{Pair}
use Rattle.sdb_types.specs.declared.record.Record.{Record}
use Rattle.sdb_types.specs.declared.record.Condition.{Condition}
use Rattle.sdb_types.specs.declared.record.Request.TheVariants.{PutIf, DeleteIf}
use Rattle.sdb_types.specs.declared.memory.NoMemory.{NoMemory}
use Rattle.sdb_types.specs.declared.record.Reply.{Reply}
use Rattle.sdb_types.specs.declared.record.Reply.TheVariants.{Applied, NotMet}
use Rattle.sdb_types.specs.Contents.{Contents, record_of, record_at, holds}
use Rattle.sdb_types.proofs.Public.{key_exact, key_total}
use Rattle.sdb_store.specs.Batches.{replaced}
use Rattle.sdb_store.specs.Store.{Answers}
use Rattle.sdb_ordered.proofs.TreeLemmas.{get_entries, inserted}

-- the record of what is at a key
abbrev pub stored_at : Key → Option (List Pair) → Option Record
stored_at key = option_map (λ columns. record_of (key, columns))

-- what a search of the entries finds is what the map has
pub lies_at : (es : List (Key × List Pair)) (m : Contents) (key : Key) (found : Option (List Pair)) → from_entries es ≡ m → found ≡ lookup (is_at (key_cmp key)) es → found ≡ get m key
lies_at es m key found view h = h ∙ sym (get_entries key_total es key) ∙ ap (λ m. get m key) view

-- what entries that differ at one key leave
pub written : (es fs : List (Key × List Pair)) (m : Contents) (k key : Key) (v columns : List Pair) → from_entries es ≡ m → k ≡ key → v ≡ columns → ((q : Key) → lookup (is_at (key_cmp q)) fs ≡ cond (is_at (key_cmp k) q) (Some v) (lookup (is_at (key_cmp q)) es)) → from_entries fs ≡ insert m key columns
written es fs m k key v columns view same copied h =
    inserted key_total key_exact es fs k v h ∙ ap (λ n. insert n k v) view ∙ ap (λ q. insert m q v) same ∙ ap (insert m key) copied

pub on_err : {P : Type 0} (r : Result Reply NoMemory) → P → OnErr r P
on_err (Ok reply) p = tt
on_err (Err e) p = p

module _ (condition : Condition) (key : Key) (old new : Contents) (found : Option (List Pair)) (agrees : found ≡ get old key) where
  judged : (b : Bool) → b ≡ holds condition (stored_at key found) → holds condition (record_at old key) ≡ b
  judged b h = ap (λ x. holds condition (stored_at key x)) (sym agrees) ∙ sym h

  pub unmet_put : (columns : List Pair) (rec : Option Record) → false ≡ holds condition (stored_at key found) → rec ≡ stored_at key found → new ≡ old → Answers (PutIf (record_of (key, columns)) condition) (NotMet rec) old new
  unmet_put columns rec h e same =
      (ap NotMet (e ∙ ap (stored_at key) agrees) ∙ sym (ap (λ b. cond b Applied (NotMet (record_at old key))) (judged false h)), same ∙ sym (ap (λ b. cond b (insert old key columns) old) (judged false h)))

  pub put : (columns : List Pair) → true ≡ holds condition (stored_at key found) → new ≡ insert old key columns → Answers (PutIf (record_of (key, columns)) condition) Applied old new
  put columns h e =
      (sym (ap (λ b. cond b Applied (NotMet (record_at old key))) (judged true h)), e ∙ sym (ap (λ b. cond b (insert old key columns) old) (judged true h)))

  pub unmet_delete : (rec : Option Record) → false ≡ holds condition (stored_at key found) → rec ≡ stored_at key found → new ≡ old → Answers (DeleteIf key condition) (NotMet rec) old new
  unmet_delete rec h e same =
      (ap NotMet (e ∙ ap (stored_at key) agrees) ∙ sym (ap (λ b. cond b Applied (NotMet (record_at old key))) (judged false h)), same ∙ sym (ap (λ b. cond b (remove old key) old) (judged false h)))

  pub delete : true ≡ holds condition (stored_at key found) → new ≡ remove old key → Answers (DeleteIf key condition) Applied old new
  delete h e =
      (sym (ap (λ b. cond b Applied (NotMet (record_at old key))) (judged true h)), e ∙ sym (ap (λ b. cond b (remove old key) old) (judged true h)))

---- a record over the one at its key

pub replaced_some : (r : Record) (m : Contents) (columns : List Pair) → Some columns ≡ get m r.key → replaced r m ≡ insert m r.key r.columns
replaced_some r m columns there = sym (ap (λ (o : Option (List Pair)). cond (is_some o) (insert m r.key r.columns) m) there)

pub replaced_none : (r : Record) (m : Contents) → None ≡ get m r.key → replaced r m ≡ m
replaced_none r m none = sym (ap (λ (o : Option (List Pair)). cond (is_some o) (insert m r.key r.columns) m) none)
