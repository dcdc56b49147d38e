-- A put and a delete answer as the map that the rows hold.
use Rattle.std.proofs.Common.{◌≡◌, inl, inr, ℕ, List, [], ◌∷◌, Bool, true, false, cond, None, Some, Option, option_map, Ok, Err, Result, refl, sym, ap, subst, ◌∙◌, is_eq}
use Rattle.std.specs.FinMap.{get, insert, remove, get-remove, same_map}
use Rattle.sqlite.specs.declared.types.Value.TheVariants.{Blob}
use Rattle.sdb_sqlite.specs.Types.{Condition, Error, Key, Pair, Record, Reply, Request}
use Rattle.sqlite.specs.Order.{Row}
use Rattle.sqlite.specs.Store.{Ghosts}
use Rattle.sqlite.specs.Held.{Held as Connected, state}
use Rattle.sqlite.specs.Effect.{Database}
use Rattle.sqlite.specs.State.{State, Executes}
use Rattle.sdb_types.specs.declared.record.Request.TheVariants.{PutIf, DeleteIf}
use Rattle.sdb_types.specs.declared.record.Reply.TheVariants as reply
use Rattle.sdb_types.specs.Order.{key_cmp}
use Rattle.sdb_types.specs.Exact.{equal_of}
use Rattle.sdb_types.specs.Fits.{key_fits, record_fits}
use Rattle.sdb_types.proofs.Public.{key_exact, key_total}
use Rattle.sdb_types.specs.Contents.{Contents, record_at, record_of, holds, put_reply, reply_to, after}
use Rattle.sdb_codec.specs.Spelling.{key_bytes, KeyIsEncodable, RecordIsEncodable}
use Rattle.sdb_store.specs.Store.{Performs}
use Rattle.sdb_sqlite.specs.declared.calls.Written.{Written}
use Rattle.sdb_sqlite.specs.declared.calls.Written.TheVariants.{Applied, NotMet}
use Rattle.sdb_sqlite.specs.declared.refused.Stopped.{Stopped}
use Rattle.sdb_sqlite.specs.declared.refused.Stopped.TheVariants as stopped
use Rattle.sdb_sqlite.specs.Stopping.{stopped_by}
use Rattle.sdb_sqlite.specs.Statements.{add_row, change_row, remove_row}
use Rattle.sdb_sqlite.specs.Rows.{contents_of_rows}
use Rattle.sdb_sqlite.specs.Database.{HasTable, IsAnswered, contents_of_state}
use Rattle.sdb_sqlite.specs.Asked.{IsWritten, written_by, put_text, put_params, PutsOver, RemovesThere, RemovesOver, Follows, Puts, Removes, write_reply}
use Rattle.sdb_sqlite.proofs.Gets.{IsSure, IsFound, got_is, stopped_performs}
use Rattle.sdb_sqlite.proofs.Edits.{found_row, no_row}
use Rattle.sdb_sqlite.proofs.Writes.{failed_keeps, insert_told, update_told, delete_told}

---- what follows for the map

-- A call that changed nothing and is answered so.
abbrev same_performs : (q : Request) (m : Contents) (r : Reply) → Type 0
same_performs q m r = Performs q r m m

not_met : (c : Condition) (found : Option Record) (there : Option Record) → found ≡ there → holds c found ≡ false → reply.NotMet found ≡ put_reply c there
not_met c found there e h = subst (λ o. reply.NotMet found ≡ put_reply c o) e (ap (λ b. cond b reply.Applied (reply.NotMet found)) (sym h))

met : (c : Condition) (found : Option Record) (there : Option Record) → found ≡ there → holds c found ≡ true → reply.Applied ≡ put_reply c there
met c found there e h = subst (λ o. reply.Applied ≡ put_reply c o) e (ap (λ b. cond b reply.Applied (reply.NotMet found)) (sym h))

kept_if : (c : Condition) (found there : Option Record) (b : Bool) (m n : Contents) → found ≡ there → holds c found ≡ b → cond (holds c there) n m ≡ cond b n m
kept_if c found there b m n e h = ap (λ o. cond (holds c o) n m) (sym e) ∙ ap (λ b. cond b n m) h

module _ (q : Request) (c : Condition) (m n : Contents) (found there : Option Record) (e : found ≡ there) where
  -- the answer and what is left, where the call is a put or a delete of which that record is there
  unmet_performs : reply_to q m ≡ put_reply c there → after q m ≡ cond (holds c there) n m → holds c found ≡ false → Performs q (reply.NotMet found) m m
  unmet_performs r a h = (not_met c found there e h ∙ sym r, sym (a ∙ kept_if c found there false m n e h))

  met_performs : reply_to q m ≡ put_reply c there → after q m ≡ cond (holds c there) n m → holds c found ≡ true → (l : Contents) → l ≡ n → Performs q reply.Applied m l
  met_performs r a h l is = (met c found there e h ∙ sym r, is ∙ sym (a ∙ kept_if c found there true m n e h))

-- where there is nothing at a key, nothing is left out without it
none_left : (m : Contents) (k : Key) → None ≡ record_at m k → remove m k ≡ m
none_left m k is = same_map key_total key_exact _ _ (λ q. get-remove key_total m k q
    ∙ elim (is_eq (key_cmp q k)) as (λ b. is_eq (key_cmp q k) ≡ b → cond b None (get m q) ≡ get m q) [
      | true ↦ λ e. sym (ap (get m) (key_exact q k (equal_of (key_cmp q k) e)) ∙ gone (get m k) is)
      | false ↦ λ e. refl
    ] refl)
  where
    gone : (o : Option (List Pair)) → None ≡ option_map (λ (columns : List Pair). record_of (k, columns)) o → o ≡ None
    gone None e = refl
    gone (Some columns) e = absurd cc

---- one statement

-- what a statement that writes comes to
module _ {S : Type 0} (g : Ghosts S) (text : List ℕ) (params : Row) (old new : Connected S) (result : Result Written Stopped) (sure : IsSure g new) (it : HasTable (state g old)) (q : Request)
    (applied : (count : ℕ) → new.step_limit ≡ old.step_limit → Executes text params (state g old) (state g new) (Ok count) → IsAnswered q reply.Applied (state g old) (state g new)) where
  by_answer : (answer : Result ℕ Error) → new.step_limit ≡ old.step_limit → Executes text params (state g old) (state g new) answer → IsAnswered q (write_reply (written_by answer)) (state g old) (state g new)
  by_answer (Ok count) limit h = applied count limit h
  by_answer (Err e) limit h =
      let keeps = failed_keeps text params (state g old) (state g new) e it sure.0 limit h in
      record { kept = keeps.0; performed = stopped_performs q (stopped_by e) (contents_of_state (state g old)) (contents_of_state (state g new)) (ap (λ (d : Database). contents_of_rows (d.trees 0)) keeps.1) }

  pub written_told : IsWritten g text params old new result → IsAnswered q (write_reply result) (state g old) (state g new)
  written_told w = subst (λ (r : Result Written Stopped). IsAnswered q (write_reply r) (state g old) (state g new)) (sym w.due) (by_answer w.answer w.ran.limit (w.ran.runs sure.1))

-- nothing was asked
unasked : {S : Type 0} (g : Ghosts S) (q : Request) (old new : Connected S) (r : Reply) → new ≡ old → HasTable (state g old) → Performs q r (contents_of_state (state g old)) (contents_of_state (state g old)) → IsAnswered q r (state g old) (state g new)
unasked g q old new r e it p = subst (λ (c : Connected _). IsAnswered q r (state g old) (state g c)) (sym e) (record { kept = it; performed = p })

unasked_as : {S : Type 0} (g : Ghosts S) (q : Request) (old new : Connected S) (due result : Result Written Stopped) → new ≡ old → result ≡ due → HasTable (state g old) → Performs q (write_reply due) (contents_of_state (state g old)) (contents_of_state (state g old))
    → IsAnswered q (write_reply result) (state g old) (state g new)
unasked_as g q old new due result e is it p = subst (λ (r : Result Written Stopped). IsAnswered q (write_reply r) (state g old) (state g new)) (sym is) (unasked g q old new (write_reply due) e it p)

---- a put

module _ {S : Type 0} (g : Ghosts S) (sure : (c : Connected S) → IsSure g c) (r : Record) (c : Condition) (known : record_fits r) (fits : RecordIsEncodable r) where
  put_writes : (old new : Connected S) (result : Result Written Stopped) (found : Option Record) → HasTable (state g old) → found ≡ record_at (contents_of_state (state g old)) r.key → holds c found ≡ true → IsWritten g (put_text found) (put_params r found) old new result
      → IsAnswered (PutIf r c) (write_reply result) (state g old) (state g new)
  put_writes old new result None it is h w =
      written_told g add_row (put_params r None) old new result (sure new) it (PutIf r c) (λ count limit ran.
      let done = insert_told (state g old) (state g new) r count it known fits limit (no_row r.key ((state g old).now.trees 0) is) ran in
      record { kept = done.0; performed = met_performs (PutIf r c) c (contents_of_state (state g old)) (insert (contents_of_state (state g old)) r.key r.columns) None _ is refl refl h (contents_of_state (state g new)) done.1 }) w
  put_writes old new result (Some there) it is h w =
      written_told g change_row (put_params r (Some there)) old new result (sure new) it (PutIf r c) (λ count limit ran.
      let row = found_row r.key ((state g old).now.trees 0) there (it.once r.key) is in
      let done = update_told (state g old) (state g new) r row.0 count it known fits limit row.1 ran in
      record { kept = done.0; performed = met_performs (PutIf r c) c (contents_of_state (state g old)) (insert (contents_of_state (state g old)) r.key r.columns) (Some there) _ is refl refl h (contents_of_state (state g new)) done.1 }) w

  put_over : (old new : Connected S) (result : Result Written Stopped) (found : Option Record) → HasTable (state g old) → found ≡ record_at (contents_of_state (state g old)) r.key → PutsOver g r c old new result found
      → IsAnswered (PutIf r c) (write_reply result) (state g old) (state g new)
  put_over old new result found it is (inl unmet) =
      unasked_as g (PutIf r c) old new (Ok (NotMet found)) result unmet.1 unmet.2 it
      (unmet_performs (PutIf r c) c (contents_of_state (state g old)) (insert (contents_of_state (state g old)) r.key r.columns) found _ is refl refl unmet.0)
  put_over old new result found it is (inr (h, inl out_of_memory)) = unasked_as g (PutIf r c) old new (Err stopped.NoMemory) result out_of_memory.0 out_of_memory.1 it refl
  put_over old new result found it is (inr (h, inr w)) = put_writes old new result found it is h w

---- a delete

module _ {S : Type 0} (g : Ghosts S) (sure : (c : Connected S) → IsSure g c) (k : Key) (c : Condition) (known : key_fits k) (fits : KeyIsEncodable k) where
  remove_there : (old new : Connected S) (result : Result Written Stopped) (found : Option Record) → HasTable (state g old) → found ≡ record_at (contents_of_state (state g old)) k → holds c found ≡ true → RemovesThere g k old new result found
      → IsAnswered (DeleteIf k c) (write_reply result) (state g old) (state g new)
  remove_there old new result None it is h there =
      unasked_as g (DeleteIf k c) old new (Ok Applied) result there.0 there.1 it
      (met_performs (DeleteIf k c) c (contents_of_state (state g old)) (remove (contents_of_state (state g old)) k) None _ is refl refl h (contents_of_state (state g old)) (sym (none_left (contents_of_state (state g old)) k is)))
  remove_there old new result (Some there) it is h w =
      written_told g remove_row (Blob (key_bytes k) ∷ []) old new result (sure new) it (DeleteIf k c) (λ count limit ran.
      let row = found_row k ((state g old).now.trees 0) there (it.once k) is in
      let done = delete_told (state g old) (state g new) k row.0 count it known fits limit row.1 ran in
      record { kept = done.0; performed = met_performs (DeleteIf k c) c (contents_of_state (state g old)) (remove (contents_of_state (state g old)) k) (Some there) _ is refl refl h (contents_of_state (state g new)) done.1 }) w

  remove_over : (old new : Connected S) (result : Result Written Stopped) (found : Option Record) → HasTable (state g old) → found ≡ record_at (contents_of_state (state g old)) k → RemovesOver g k c old new result found
      → IsAnswered (DeleteIf k c) (write_reply result) (state g old) (state g new)
  remove_over old new result found it is (inl unmet) =
      unasked_as g (DeleteIf k c) old new (Ok (NotMet found)) result unmet.1 unmet.2 it
      (unmet_performs (DeleteIf k c) c (contents_of_state (state g old)) (remove (contents_of_state (state g old)) k) found _ is refl refl unmet.0)
  remove_over old new result found it is (inr (h, there)) = remove_there old new result found it is h there

---- after the get inside of it

-- what is answered of the rest of a call is answered of the whole
after_get : (q : Request) (r : Reply) (old mid new : State) → mid.now ≡ old.now → IsAnswered q r mid new → IsAnswered q r old new
after_get q r old mid new same answered = record { kept = answered.kept; performed = subst (λ (d : Database). Performs q r (contents_of_rows (d.trees 0)) (contents_of_state new)) same answered.performed }

follows : {S : Type 0} (g : Ghosts S) (q : Request) (key : Key) (old mid new : Connected S) (result : Result Written Stopped) (Next : Option Record → Type 0) (found : Result (Option Record) Stopped) → IsFound key (state g old) (state g mid) found
    → ((o : Option Record) → o ≡ record_at (contents_of_state (state g mid)) key → Next o → IsAnswered q (write_reply result) (state g mid) (state g new)) → Follows mid new result Next found
    → IsAnswered q (write_reply result) (state g old) (state g new)
follows g q key old mid new result Next (Ok o) is answered next =
    after_get q (write_reply result) (state g old) (state g mid) (state g new) is.same (answered o (is.there ∙ ap (λ (d : Database). record_at (contents_of_rows (d.trees 0)) key) (sym is.same)) next)
follows g q key old mid new result Next (Err s) is answered next =
    after_get q (write_reply result) (state g old) (state g mid) (state g new) is.same
    (unasked_as g q mid new (Err s) result next.0 next.1 is.kept (stopped_performs q s (contents_of_state (state g mid)) (contents_of_state (state g mid)) refl))

pub put_told : {S : Type 0} (g : Ghosts S) (r : Record) (c : Condition) (old new : Connected S) (result : Result Written Stopped) → ((c : Connected S) → IsSure g c) → record_fits r → HasTable (state g old) → Puts g r c old new result
    → IsAnswered (PutIf r c) (write_reply result) (state g old) (state g new)
put_told g r c old new result sure known it (inl unfit) = unasked_as g (PutIf r c) old new (Err stopped.Unfit) result unfit.1 unfit.2 it (inl refl)
put_told g r c old new result sure known it (inr (fits, inl out_of_memory)) = unasked_as g (PutIf r c) old new (Err stopped.NoMemory) result out_of_memory.0 out_of_memory.1 it refl
put_told g r c old new result sure known it (inr (fits, inr put)) =
    let is = got_is g r.key old put.mid put.found (sure put.mid) known.key fits.key it put.got in
    follows g (PutIf r c) r.key old put.mid new result (PutsOver g r c put.mid new result) put.found is (λ o e next. put_over g sure r c known fits put.mid new result o is.kept e next) put.next

pub delete_told_by : {S : Type 0} (g : Ghosts S) (k : Key) (c : Condition) (old new : Connected S) (result : Result Written Stopped) → ((c : Connected S) → IsSure g c) → key_fits k → HasTable (state g old) → Removes g k c old new result
    → IsAnswered (DeleteIf k c) (write_reply result) (state g old) (state g new)
delete_told_by g k c old new result sure known it (inl unfit) = unasked_as g (DeleteIf k c) old new (Err stopped.Unfit) result unfit.1 unfit.2 it (inl refl)
delete_told_by g k c old new result sure known it (inr (fits, inl out_of_memory)) = unasked_as g (DeleteIf k c) old new (Err stopped.NoMemory) result out_of_memory.0 out_of_memory.1 it refl
delete_told_by g k c old new result sure known it (inr (fits, inr gone)) =
    let is = got_is g k old gone.mid gone.found (sure gone.mid) known fits it gone.got in
    follows g (DeleteIf k c) k old gone.mid new result (RemovesOver g k c gone.mid new result) gone.found is (λ o e next. remove_over g sure k c known fits gone.mid new result o is.kept e next) gone.next
