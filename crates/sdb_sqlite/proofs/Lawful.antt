-- What any reply of the store is, whether or not its contents are known.
use Rattle.std.specs.Prelude.{◌+◌, ◌-◌, ◌≤◌, IsSomeAnd, slice_get}
use Rattle.std.proofs.Common.{◌≡◌, inl, inr, ℕ, suc, arith, List, [], ◌∷◌, true, false, cond, None, Some, Option, Ok, Err, Result, IfOk, IfSome, refl, sym, subst}
use Rattle.std.specs.List.{AllByRecursion}
use Rattle.std.proofs.lemmas.List.Elements.{All-from_recursion}
use Rattle.std.proofs.lemmas.List.Sums.{list_all-from_AllPass}
use Rattle.std.proofs.lemmas.List.Sorted.{All-permutation}
use Rattle.sdb_sqlite.specs.Types.{Condition, Error, Key, Put, Record, Request, Span}
use Rattle.sqlite.specs.Order.{Row, column}
use Rattle.sqlite.specs.Store.{Ghosts}
use Rattle.sqlite.specs.Held.{Held as Connected}
use Rattle.sdb_types.specs.declared.record.Request.TheVariants.{Get, Scan, PutIf, DeleteIf, PutAll}
use Rattle.sdb_types.specs.Contents.{in_span, rise, are_rows_of, CanAnswer, IsUnmet}
use Rattle.sdb_types.proofs.Public.{and_both}
use Rattle.sdb_codec.specs.Reading.{key_in}
use Rattle.sdb_sqlite.specs.declared.batch.BatchWritten.{BatchWritten}
use Rattle.sdb_sqlite.specs.declared.batch.BatchWritten.TheVariants.{AllWritten, FirstUnmet}
use Rattle.sdb_sqlite.specs.declared.calls.Written.{Written}
use Rattle.sdb_sqlite.specs.declared.calls.Written.TheVariants.{Applied, NotMet}
use Rattle.sdb_sqlite.specs.declared.refused.Stopped.{Stopped}
use Rattle.sdb_sqlite.specs.declared.refused.Stopped.TheVariants as stopped
use Rattle.sdb_sqlite.specs.Stopping.{stopped_by, stop_reply}
use Rattle.sdb_sqlite.specs.Rows.{blob_of}
use Rattle.sdb_sqlite.specs.Asked.{IsDue, found_as, found_in, found_by, IsGot, Gets, got_reply, row_body, row_keyed, row_spelled, row_record, then_records, rows_records, IsInOrder, IsListedBy, IsListed, Scans, rows_reply, written_by, PutsOver, RemovesThere, RemovesOver, Follows, Puts, Continues, PutsEach, Commits, Ends, PutsAll, Removes, batch_reply, write_reply}

---- gets

own_of : (q : Key) (v : Option (List ℕ)) → IfOk (found_as q v) (λ o. IfSome o (λ r. r.key ≡ q))
own_of q None = tt
own_of q (Some body) = refl

own_in : (q : Key) (rows : List Row) → IfOk (found_in q rows) (λ o. IfSome o (λ r. r.key ≡ q))
own_in q [] = tt
own_in q (row ∷ rows) = own_of q (blob_of (column row 0))

own_by : (q : Key) (answer : Result (List Row) Error) → IfOk (found_by q answer) (λ o. IfSome o (λ r. r.key ≡ q))
own_by q (Ok rows) = own_in q rows
own_by q (Err e) = tt

-- what was found has the key asked for
pub got_own : {S : Type 0} (g : Ghosts S) (q : Key) (old new : Connected S) (found : Result (Option Record) Stopped) → IsGot g q old new found → IfOk found (λ o. IfSome o (λ r. r.key ≡ q))
got_own g q old new found got = elim got.due [
  | inl e ↦ subst (λ (r : Result (Option Record) Stopped). IfOk r (λ o. IfSome o (λ r. r.key ≡ q))) (sym e) (own_by q got.answer)
  | inr e ↦ subst (λ (r : Result (Option Record) Stopped). IfOk r (λ o. IfSome o (λ r. r.key ≡ q))) (sym e) tt
]

pub stopped_lawful : (q : Request) (s : Stopped) → CanAnswer q (stop_reply s)
stopped_lawful q stopped.NoMemory = tt
stopped_lawful q stopped.Refused = tt
stopped_lawful q stopped.Unfit = tt
stopped_lawful q stopped.Foreign = tt
stopped_lawful q stopped.Tied = tt

found_lawful : (q : Key) (found : Result (Option Record) Stopped) → IfOk found (λ o. IfSome o (λ r. r.key ≡ q)) → CanAnswer (Get q) (got_reply found)
found_lawful q (Ok o) h = h
found_lawful q (Err s) h = stopped_lawful (Get q) s

pub get_lawful : {S : Type 0} (g : Ghosts S) (q : Key) (old new : Connected S) (found : Result (Option Record) Stopped) → Gets g q old new found → CanAnswer (Get q) (got_reply found)
get_lawful g q old new found (inl unfit) = subst (λ (r : Result (Option Record) Stopped). CanAnswer (Get q) (got_reply r)) (sym unfit.2) tt
get_lawful g q old new found (inr (fits, inl out_of_memory)) = subst (λ (r : Result (Option Record) Stopped). CanAnswer (Get q) (got_reply r)) (sym out_of_memory.1) tt
get_lawful g q old new found (inr (fits, inr got)) = found_lawful q found (got_own g q old new found got)

---- scans

pub due_stops : (s : Stopped) (result : Result (List Record) Stopped) (P : List Record → Type 0) → IsDue (Err s) result → IfOk result P
due_stops s result P (inl e) = subst (λ (r : Result (List Record) Stopped). IfOk r P) (sym e) tt
due_stops s result P (inr e) = subst (λ (r : Result (List Record) Stopped). IfOk r P) (sym e) tt

body_inside : (span : Span) (key : Key) (body : Option (List ℕ)) → in_span span key ≡ true → IfOk (row_body key body) (λ r. in_span span r.key ≡ true)
body_inside span key None h = tt
body_inside span key (Some body) h = h

keyed_inside : (span : Span) (k : Result Key ℕ) (body : Option (List ℕ)) → IfOk (row_keyed span k body) (λ r. in_span span r.key ≡ true)
keyed_inside span (Ok key) body =
    elim (in_span span key) as (λ b. in_span span key ≡ b → IfOk (cond b (row_body key body) (Err stopped.Foreign)) (λ r. in_span span r.key ≡ true)) [
      | true ↦ λ e. body_inside span key body e
      | false ↦ λ e. tt
    ] refl
keyed_inside span (Err place) body = tt

spelled_inside : (span : Span) (k body : Option (List ℕ)) → IfOk (row_spelled span k body) (λ r. in_span span r.key ≡ true)
spelled_inside span None body = tt
spelled_inside span (Some k) body = keyed_inside span (key_in k) body

then_inside : (span : Span) (r : Result Record Stopped) (others : Result (List Record) Stopped) → IfOk r (λ r. in_span span r.key ≡ true) → IfOk others (AllByRecursion (λ r. in_span span r.key ≡ true))
    → IfOk (then_records r others) (AllByRecursion (λ r. in_span span r.key ≡ true))
then_inside span (Ok r) (Ok rs) h k = (h, k)
then_inside span (Ok r) (Err s) h k = tt
then_inside span (Err s) others h k = tt

rows_inside : (span : Span) (rows : List Row) → IfOk (rows_records span rows) (AllByRecursion (λ r. in_span span r.key ≡ true))
rows_inside span [] = tt
rows_inside span (row ∷ rows) = then_inside span (row_record span row) (rows_records span rows) (spelled_inside span (blob_of (column row 0)) (blob_of (column row 1))) (rows_inside span rows)

ordered_rows : (span : Span) (all : List Record) (result : Result (List Record) Stopped) → AllByRecursion (λ r. in_span span r.key ≡ true) all → IsInOrder all result → IfOk result (λ rows. are_rows_of span rows ≡ true)
ordered_rows span all (Ok rows) each h =
    let Inside : Record → Type 0 = λ r. in_span span r.key ≡ true in
    and_both (rise rows) _ h.1 (list_all-from_AllPass (λ r. in_span span r.key) rows (All-permutation Inside all rows h.0 (All-from_recursion Inside all each)))
ordered_rows span all (Err s) each h = tt

listed_rows : (span : Span) (read result : Result (List Record) Stopped) → IfOk read (AllByRecursion (λ r. in_span span r.key ≡ true)) → IsListedBy read result → IfOk result (λ rows. are_rows_of span rows ≡ true)
listed_rows span (Ok all) result each h = ordered_rows span all result each h
listed_rows span (Err s) result each h = due_stops s result _ h

listed_lawful : (span : Span) (answer : Result (List Row) Error) (result : Result (List Record) Stopped) → IsListed span answer result → IfOk result (λ rows. are_rows_of span rows ≡ true)
listed_lawful span (Ok rows) result (inl e) = subst (λ (r : Result (List Record) Stopped). IfOk r (λ rows. are_rows_of span rows ≡ true)) (sym e) tt
listed_lawful span (Ok rows) result (inr h) = listed_rows span (rows_records span rows) result (rows_inside span rows) h
listed_lawful span (Err e) result h = due_stops (stopped_by e) result _ h

rows_lawful : (span : Span) (result : Result (List Record) Stopped) → IfOk result (λ rows. are_rows_of span rows ≡ true) → CanAnswer (Scan span) (rows_reply result)
rows_lawful span (Ok rows) h = h
rows_lawful span (Err s) h = stopped_lawful (Scan span) s

pub scan_lawful : {S : Type 0} (g : Ghosts S) (span : Span) (old new : Connected S) (result : Result (List Record) Stopped) → Scans g span old new result → CanAnswer (Scan span) (rows_reply result)
scan_lawful g span old new result (inl unfit) = subst (λ (r : Result (List Record) Stopped). CanAnswer (Scan span) (rows_reply r)) (sym unfit.2) tt
scan_lawful g span old new result (inr (inl out_of_memory)) = subst (λ (r : Result (List Record) Stopped). CanAnswer (Scan span) (rows_reply r)) (sym out_of_memory.1) tt
scan_lawful g span old new result (inr (inr (fits, got))) = rows_lawful span result (listed_lawful span got.answer result got.listed)

---- puts and deletes

-- what was not met: the condition fails of a record of the key, or of none
abbrev unmet_or : Condition → Key → Written → Type 0
unmet_or c k Applied = Unit {0}
unmet_or c k (NotMet found) = IsUnmet c k found

written_ok : (c : Condition) (k : Key) (answer : Result ℕ Error) → IfOk (written_by answer) (unmet_or c k)
written_ok c k (Ok count) = tt
written_ok c k (Err e) = tt

same_ok : (c : Condition) (k : Key) (due result : Result Written Stopped) → result ≡ due → IfOk due (unmet_or c k) → IfOk result (unmet_or c k)
same_ok c k due result e h = subst (λ (r : Result Written Stopped). IfOk r (unmet_or c k)) (sym e) h

over_ok : {S : Type 0} (g : Ghosts S) (r : Record) (c : Condition) (old new : Connected S) (result : Result Written Stopped) (found : Option Record) → IfSome found (λ s. s.key ≡ r.key) → PutsOver g r c old new result found → IfOk result (unmet_or c r.key)
over_ok g r c old new result found own (inl unmet) = same_ok c r.key (Ok (NotMet found)) result unmet.2 (own, unmet.0)
over_ok g r c old new result found own (inr (h, inl out_of_memory)) = same_ok c r.key (Err stopped.NoMemory) result out_of_memory.1 tt
over_ok g r c old new result found own (inr (h, inr w)) = same_ok c r.key (written_by w.answer) result w.due (written_ok c r.key w.answer)

there_ok : {S : Type 0} (g : Ghosts S) (k : Key) (c : Condition) (old new : Connected S) (result : Result Written Stopped) (found : Option Record) → RemovesThere g k old new result found → IfOk result (unmet_or c k)
there_ok g k c old new result None h = same_ok c k (Ok Applied) result h.1 tt
there_ok g k c old new result (Some there) w = same_ok c k (written_by w.answer) result w.due (written_ok c k w.answer)

gone_ok : {S : Type 0} (g : Ghosts S) (k : Key) (c : Condition) (old new : Connected S) (result : Result Written Stopped) (found : Option Record) → IfSome found (λ s. s.key ≡ k) → RemovesOver g k c old new result found → IfOk result (unmet_or c k)
gone_ok g k c old new result found own (inl unmet) = same_ok c k (Ok (NotMet found)) result unmet.2 (own, unmet.0)
gone_ok g k c old new result found own (inr (h, there)) = there_ok g k c old new result found there

follows_ok : {S : Type 0} (c : Condition) (k : Key) (mid new : Connected S) (result : Result Written Stopped) (Next : Option Record → Type 0) (found : Result (Option Record) Stopped) → IfOk found (λ o. IfSome o (λ s. s.key ≡ k))
    → ((o : Option Record) → IfSome o (λ s. s.key ≡ k) → Next o → IfOk result (unmet_or c k)) → Follows mid new result Next found → IfOk result (unmet_or c k)
follows_ok c k mid new result Next (Ok o) own f next = f o own next
follows_ok c k mid new result Next (Err s) own f next = same_ok c k (Err s) result next.1 tt

put_reply_lawful : (r : Record) (c : Condition) (result : Result Written Stopped) → IfOk result (unmet_or c r.key) → CanAnswer (PutIf r c) (write_reply result)
put_reply_lawful r c (Ok Applied) h = tt
put_reply_lawful r c (Ok (NotMet found)) h = h
put_reply_lawful r c (Err s) h = stopped_lawful (PutIf r c) s

delete_reply_lawful : (k : Key) (c : Condition) (result : Result Written Stopped) → IfOk result (unmet_or c k) → CanAnswer (DeleteIf k c) (write_reply result)
delete_reply_lawful k c (Ok Applied) h = tt
delete_reply_lawful k c (Ok (NotMet found)) h = h
delete_reply_lawful k c (Err s) h = stopped_lawful (DeleteIf k c) s

pub put_ok : {S : Type 0} (g : Ghosts S) (r : Record) (c : Condition) (old new : Connected S) (result : Result Written Stopped) → Puts g r c old new result → IfOk result (unmet_or c r.key)
put_ok g r c old new result (inl unfit) = same_ok c r.key (Err stopped.Unfit) result unfit.2 tt
put_ok g r c old new result (inr (fits, inl out_of_memory)) = same_ok c r.key (Err stopped.NoMemory) result out_of_memory.1 tt
put_ok g r c old new result (inr (fits, inr put)) =
    follows_ok c r.key put.mid new result (PutsOver g r c put.mid new result) put.found (got_own g r.key old put.mid put.found put.got) (λ o own next. over_ok g r c put.mid new result o own next) put.next

pub put_lawful : {S : Type 0} (g : Ghosts S) (r : Record) (c : Condition) (old new : Connected S) (result : Result Written Stopped) → Puts g r c old new result → CanAnswer (PutIf r c) (write_reply result)
put_lawful g r c old new result puts = put_reply_lawful r c result (put_ok g r c old new result puts)

pub delete_lawful : {S : Type 0} (g : Ghosts S) (k : Key) (c : Condition) (old new : Connected S) (result : Result Written Stopped) → Removes g k c old new result → CanAnswer (DeleteIf k c) (write_reply result)
delete_lawful g k c old new result (inl unfit) = delete_reply_lawful k c result (same_ok c k (Err stopped.Unfit) result unfit.2 tt)
delete_lawful g k c old new result (inr (fits, inl out_of_memory)) = delete_reply_lawful k c result (same_ok c k (Err stopped.NoMemory) result out_of_memory.1 tt)
delete_lawful g k c old new result (inr (fits, inr gone)) =
    delete_reply_lawful k c result (follows_ok c k gone.mid new result (RemovesOver g k c gone.mid new result) gone.found (got_own g k old gone.mid gone.found gone.got) (λ o own next. gone_ok g k c gone.mid new result o own next) gone.next)

---- batches

-- what was not met of a batch whose first put has the place n: the put of that place
abbrev unmet_in : ℕ → List Put → BatchWritten → Type 0
unmet_in n b AllWritten = Unit {0}
unmet_in n b (FirstUnmet k found) = (n ≤ k) × IsSomeAnd (slice_get b (k - n)) (λ p. IsUnmet p.condition p.rec.key found)

later_in : (p : Put) (ps : List Put) (n : ℕ) (w : BatchWritten) → unmet_in (n + 1) ps w → unmet_in n (p ∷ ps) w
later_in p ps n AllWritten h = tt
later_in p ps n (FirstUnmet k found) h = (omega (arith, h.0), subst (λ (i : ℕ). IsSomeAnd (slice_get (p ∷ ps) i) (λ (x : Put). IsUnmet x.condition x.rec.key found)) (next h.0) h.1)
  where
    next : n + 1 ≤ k → suc (k - (n + 1)) ≡ k - n
    next low = omega (arith, low)

first_in : (p : Put) (ps : List Put) (n : ℕ) (found : Option Record) → IsUnmet p.condition p.rec.key found → unmet_in n (p ∷ ps) (FirstUnmet n found)
first_in p ps n found h = (omega arith, subst (λ (i : ℕ). IsSomeAnd (slice_get (p ∷ ps) i) (λ (x : Put). IsUnmet x.condition x.rec.key found)) none h)
  where
    none : 0 ≡ n - n
    none = omega arith

-- what follows the first put, where all puts after it are so
module _ {S : Type 0} (p : Put) (ps : List Put) (n : ℕ) (mid new : Connected S) (result : Result BatchWritten Stopped) (More : Type 0) (rest : More → IfOk result (unmet_in (n + 1) ps)) where
  later : (r : Result BatchWritten Stopped) → IfOk r (unmet_in (n + 1) ps) → IfOk r (unmet_in n (p ∷ ps))
  later (Ok w) h = later_in p ps n w h
  later (Err s) h = tt

  continues_ok : (one : Result Written Stopped) → IfOk one (unmet_or p.condition p.rec.key) → Continues n mid new result More one → IfOk result (unmet_in n (p ∷ ps))
  continues_ok (Ok Applied) ok more = later result (rest more)
  continues_ok (Ok (NotMet found)) ok more = subst (λ (r : Result BatchWritten Stopped). IfOk r (unmet_in n (p ∷ ps))) (sym more.1) (first_in p ps n found ok)
  continues_ok (Err s) ok more = subst (λ (r : Result BatchWritten Stopped). IfOk r (unmet_in n (p ∷ ps))) (sym more.1) tt

each_ok : {S : Type 0} (g : Ghosts S) (b : List Put) (n : ℕ) (old new : Connected S) (result : Result BatchWritten Stopped) → PutsEach g n b old new result → IfOk result (unmet_in n b)
each_ok g [] n old new result h = subst (λ (r : Result BatchWritten Stopped). IfOk r (unmet_in n [])) (sym h.1) tt
each_ok g (p ∷ ps) n old new result h =
    continues_ok p ps n h.0 new result (PutsEach g (n + 1) ps h.0 new result) (λ more. each_ok g ps (n + 1) h.0 new result more) h.1 (put_ok g p.rec p.condition old h.0 h.1 h.2) h.3

batch_reply_lawful : (b : List Put) (result : Result BatchWritten Stopped) → IfOk result (unmet_in 1 b) → CanAnswer (PutAll b) (batch_reply result)
batch_reply_lawful b (Ok AllWritten) h = tt
batch_reply_lawful b (Ok (FirstUnmet k found)) h = h
batch_reply_lawful b (Err s) h = stopped_lawful (PutAll b) s

commits_ok : {S : Type 0} (g : Ghosts S) (b : List Put) (old new : Connected S) (result : Result BatchWritten Stopped) → Commits g old new result → IfOk result (unmet_in 1 b)
commits_ok g b old new result (inl done) = subst (λ (r : Result BatchWritten Stopped). IfOk r (unmet_in 1 b)) (sym done.2) tt
commits_ok g b old new result (inr failed) = subst (λ (r : Result BatchWritten Stopped). IfOk r (unmet_in 1 b)) (sym failed.4) tt

ends_ok : {S : Type 0} (g : Ghosts S) (b : List Put) (old new : Connected S) (result written : Result BatchWritten Stopped) → IfOk written (unmet_in 1 b) → Ends g old new result written → IfOk result (unmet_in 1 b)
ends_ok g b old new result (Ok AllWritten) ok ends = commits_ok g b old new result ends
ends_ok g b old new result (Ok (FirstUnmet k found)) ok ends = subst (λ (r : Result BatchWritten Stopped). IfOk r (unmet_in 1 b)) (sym ends.1) ok
ends_ok g b old new result (Err s) ok ends = subst (λ (r : Result BatchWritten Stopped). IfOk r (unmet_in 1 b)) (sym ends.1) tt

pub batch_lawful : {S : Type 0} (g : Ghosts S) (b : List Put) (old new : Connected S) (result : Result BatchWritten Stopped) → PutsAll g b old new result → CanAnswer (PutAll b) (batch_reply result)
batch_lawful g b old new result (inl refused) = batch_reply_lawful b result (subst (λ (r : Result BatchWritten Stopped). IfOk r (unmet_in 1 b)) (sym refused.2) tt)
batch_lawful g b old new result (inr put) = batch_reply_lawful b result (ends_ok g b put.last new result put.written (each_ok g b 1 put.begun put.last put.written put.puts) put.ends)
