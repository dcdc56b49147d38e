-- Writes made by calls, one after the other.
use Rattle.std.proofs.Common.{◌≡◌, ◌≢◌, ℕ, zero, suc, List, [], ◌∷◌, ◌++◌, map, filter, take, length, get_or, ◌<◌, ◌+◌, Option, Some, None, Result, Ok, Err, refl, sym, subst, arith}
use Rattle.std.specs.Prelude.{OnOk, flat_map}
use Rattle.std.specs.List.{AllByRecursion}
use Rattle.std.specs.Str.{bytes_eq}
use Rattle.sdb_contents.specs.Types.{Condition, Key, Record, Reply, Request}
use Rattle.sdb_types.specs.declared.record.Request.TheVariants as ask
use Rattle.sdb_types.specs.Contents.{CanAnswer, IsWellFormed}
use Rattle.sdb_types.proofs.Public.{append_all}
use Rattle.sdb_catalog.specs.declared.entry.Entry.{Entry}
use Rattle.sdb_contents.specs.declared.seen.Seen.{Seen}
use Rattle.sdb_types.specs.declared.record.Reply.TheVariants as reply
use Rattle.sdb_stores.specs.Views.{Attached, StoreView, IsCallAt, index_at}
use Rattle.sdb_catalog.specs.Calls.{with_states}
use Rattle.sdb_contents.specs.Copying.{AreMade, IsDone, IsMade, IsOfOne, delete_of, delete_on, put_of, requests_for, requests_of, version_in}
use Rattle.sdb_contents.specs.Moving.{renewal, renewals}
use Rattle.sdb_contents.specs.Writes.{GoOn, Write, write_at, writes_at}
use Rattle.sdb_contents.proofs.RetireCalls.{same_index}
use Rattle.sdb_contents.proofs.Steps.{writes_more}

-- a call that is done with
pub made_call : (at : ℕ) (q : Request) (r : Reply) (old new : Attached) → IsCallAt at q r old new → IsDone q r → IsMade (write_at at q) old new.views
made_call at q r old new c d = record {
  answer = r;
  called = record { formed = c.formed; before = c.before; now = c.now; stood = c.stood; rest = c.rest; name = c.name; performed = c.performed; lawful = c.lawful; counted = c.counted; cause = c.cause; where_known = λ i t. t };
  done = d;
}

-- where less is known
made_less : (w : Write) (old cur : Attached) (new : List StoreView) → ((i : ℕ) → old.known i → cur.known i) → IsMade w cur new → IsMade w (with_states old cur.views) new
made_less w old cur new where_known m = record {
  answer = m.answer;
  called = record {
    formed = m.called.formed;
    before = m.called.before;
    now = m.called.now;
    stood = m.called.stood;
    rest = m.called.rest;
    name = m.called.name;
    performed = λ t. m.called.performed (where_known w.at t);
    lawful = m.called.lawful;
    counted = m.called.counted;
    cause = m.called.cause;
    where_known = λ i t. t;
  };
  done = m.done;
}

pub all_less : (ws : List Write) (old cur : Attached) (new : List StoreView) → ((i : ℕ) → old.known i → cur.known i) → AreMade ws cur new → AreMade ws (with_states old cur.views) new
all_less [] old cur new where_known h = h
all_less (w ∷ ws) old cur new where_known h = (h.0, made_less w old cur h.0 where_known h.1, all_less ws old (with_states cur h.0) new where_known h.2)

pub made_more : (a b : List Write) (old : Attached) (mid new : List StoreView) → AreMade a old mid → AreMade b (with_states old mid) new → AreMade (a ++ b) old new
made_more [] b old mid new h k = subst (λ (l : List StoreView). AreMade b (with_states old l) new) h k
made_more (w ∷ ws) b old mid new h k = (h.0, h.1, made_more ws b (with_states old h.0) mid new h.2 k)

-- one more
pub made_step : (initial cur : Attached) (new : List StoreView) (store : List ℕ) (qs : List Request) (i : ℕ) (q : Request) → i < length qs → q ≡ get_or qs i q → GoOn initial cur → AreMade (writes_at (index_at initial store) (take i qs)) initial cur.views → IsMade (write_at (index_at cur store) q) cur new
    → AreMade (writes_at (index_at initial store) (take (i + 1) qs)) initial new
made_step initial cur new store qs i q inside is goes h k =
    subst (λ (ws : List Write). AreMade ws initial new) (sym (writes_more (index_at initial store) qs i q inside is))
    (made_more (writes_at (index_at initial store) (take i qs)) (write_at (index_at initial store) q ∷ []) initial cur.views new h
    (new, made_less (write_at (index_at initial store) q) initial cur new goes.where_known (subst (λ (n : ℕ). IsMade (write_at n q) cur new) (same_index initial cur store goes) k), refl))

-- both parts of the writes
pub made_both : (a b : List Write) (old mid : Attached) (new : List StoreView) → GoOn old mid → AreMade a old mid.views → AreMade b mid new → AreMade (a ++ b) old new
made_both a b old mid new goes h k = made_more a b old mid.views new h (all_less b old mid new goes.where_known k)

pub passed_made : {E : Type 0} (res : Result (Unit {0}) E) (q : Request) (r : Reply) (at : ℕ) (old new : Attached) → IsCallAt at q r old new → OnOk res (IsDone q r) → OnOk res (IsMade (write_at at q) old new.views)
passed_made (Ok u) q r at old new c d = made_call at q r old new c d
passed_made (Err e) q r at old new c d = tt

not_all : {A : Type 0} (q : Request) (place : ℕ) (found : Option Record) → IsOfOne q → CanAnswer q (reply.NotAll place found) → A
not_all (ask.Get key) place found one can = absurd one
not_all (ask.Scan span) place found one can = absurd one
not_all (ask.PutIf r condition) place found one can = absurd can
not_all (ask.DeleteIf key condition) place found one can = absurd can
not_all (ask.PutAll b) place found one can = absurd one

-- a reply that is no refusal of a call, and isn't unmet
pub met_done : (q : Request) (r : Reply) → IsOfOne q → CanAnswer q r → r ≢ reply.Fault → r ≢ reply.NoMemory → ((found : _) → r ≢ reply.NotMet found) → IsDone q r
met_done q reply.Fault one can f n u = absurd (f refl)
met_done q reply.NoMemory one can f n u = absurd (n refl)
met_done q (reply.Found found) one can f n u = tt
met_done q (reply.Rows rows) one can f n u = tt
met_done q reply.Applied one can f n u = tt
met_done q (reply.NotMet found) one can f n u = absurd (u found refl)
met_done q (reply.NotAll place found) one can f n u = not_all q place found one can

---- writes of one record

pub one_formed : (q : Request) → IsOfOne q → IsWellFormed q
one_formed (ask.Get key) one = tt
one_formed (ask.Scan span) one = tt
one_formed (ask.PutIf r condition) one = tt
one_formed (ask.DeleteIf key condition) one = tt
one_formed (ask.PutAll b) one = absurd one

pub one_at : (qs : List Request) (i : ℕ) (q : Request) → i < length qs → q ≡ get_or qs i q → AllByRecursion IsOfOne qs → IsOfOne q
one_at [] i q inside is all = absurd (omega (arith, inside))
one_at (x ∷ xs) zero q inside is all = subst IsOfOne (sym is) all.0
one_at (x ∷ xs) (suc i) q inside is all = one_at xs i q (omega (arith, inside)) is all.1

delete_one : (key : Key) (o : Option Condition) → AllByRecursion IsOfOne (delete_on key o)
delete_one key None = tt
delete_one key (Some version) = (tt, tt)

deletes_one : (rows : List Record) → AllByRecursion IsOfOne (flat_map delete_of rows)
deletes_one [] = tt
deletes_one (r ∷ rs) = append_all IsOfOne (delete_of r) (flat_map delete_of rs) (delete_one r.key (version_in r)) (deletes_one rs)

puts_one : (rows : List Record) → AllByRecursion IsOfOne (map put_of rows)
puts_one [] = tt
puts_one (r ∷ rs) = (tt, puts_one rs)

pub requests_one : (seen : List Seen) → AllByRecursion IsOfOne (requests_of seen)
requests_one [] = tt
requests_one (s ∷ ss) = append_all IsOfOne (requests_for s) (requests_of ss) (append_all IsOfOne (flat_map delete_of s.in_to) (map put_of s.in_from) (deletes_one s.in_to) (puts_one s.in_from)) (requests_one ss)

pub renewals_one : (from to : List ℕ) (es : List Entry) → AllByRecursion IsOfOne (renewals from to es)
renewals_one from to es = by (filter (λ e. bytes_eq e.store from) es)
  where
    by : (xs : List Entry) → AllByRecursion IsOfOne (map (renewal to) xs)
    by [] = tt
    by (x ∷ xs) = (tt, by xs)
