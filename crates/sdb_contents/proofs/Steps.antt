-- The steps of a retirement, one after the other.
use Rattle.std.proofs.Common.{◌≡◌, inl, ℕ, zero, suc, ◌+◌, ◌<◌, List, [], ◌∷◌, ◌++◌, length, map, take, drop, get_or, add-one, take-append-drop, Bool, true, not, cond, Result, Ok, Err, Option, Some, None, refl, sym, ap, subst, ◌∙◌, arith, append_assoc}
use Rattle.std.specs.Prelude.{IsSome, IfErr, Contains, is_some, nat_lt, slice_get, unwrap_or}
use Rattle.std.specs.List.{prefix_len}
use Rattle.std.specs.Str.{bytes_eq}
use Rattle.std.proofs.lemmas.Slice.Eq.{bytes_eq-Decides}
use Rattle.std.specs.List.{AllByRecursion}
use Rattle.std.proofs.Math.Seq.{take-suc, drop-cons}
use Rattle.std.proofs.lemmas.List.{map-append}
use Rattle.std.proofs.lemmas.List.Elements.{Contains-get_or}
use Rattle.sdb_contents.specs.Types.{Key, Record, Request, TableName}
use Rattle.sdb_types.specs.declared.record.Reply.TheVariants.{NotMet}
use Rattle.sdb_types.proofs.Public.{all_last, below, none_some}
use Rattle.sdb_stores.specs.Views.{Attached, StoreView, IsCallAt, index_at, index_in, names_of, place_of}
use Rattle.sdb_catalog.specs.Calls.{with_states}
use Rattle.sdb_contents.specs.declared.retire_refused.RetireRefused.{RetireRefused}
use Rattle.sdb_contents.specs.declared.retire_refused.RetireRefused.TheVariants as refused
use Rattle.sdb_contents.specs.declared.seen.Seen.{Seen}
use Rattle.sdb_contents.specs.Copying.{AreFree, IsBlocked, IsFirstBlocking, IsFree, IsSeen, WasUnmet}
use Rattle.sdb_contents.specs.Read.{AreSeen, IsUnseen}
use Rattle.sdb_contents.specs.Stopped.{IsBlockedIn, IsStopped, IsUnmet, IsUnwritten}
use Rattle.sdb_contents.specs.Writes.{GoOn, Hold, HoldFirst, IsScanned, MayHold, Write, write_at, writes_at}
use Rattle.sdb_contents.proofs.RetireCalls.{first_one, hold_more, hold_none, risen_more, same_index, shown_earlier}

---- writes

pub writes_more : (at : ℕ) (qs : List Request) (i : ℕ) (q : Request) → i < length qs → q ≡ get_or qs i q → writes_at at (take (i + 1) qs) ≡ writes_at at (take i qs) ++ write_at at q ∷ []
writes_more at qs i q inside is =
    ap (λ (n : ℕ). writes_at at (take n qs)) (add-one i) ∙ ap (writes_at at) (take-suc qs i q inside) ∙ ap (λ (x : Request). writes_at at (take i qs ++ x ∷ [])) (sym is) ∙ map-append (write_at at) (take i qs) (q ∷ [])

writes_rest : (at : ℕ) (qs : List Request) (i : ℕ) (q : Request) → i < length qs → q ≡ get_or qs i q → writes_at at qs ≡ writes_at at (take i qs) ++ write_at at q ∷ writes_at at (drop (suc i) qs)
writes_rest at qs i q inside is =
    ap (writes_at at) (sym (take-append-drop i qs) ∙ ap (λ (l : List Request). take i qs ++ l) (drop-cons qs i q inside) ∙ ap (λ (x : Request). take i qs ++ x ∷ drop (suc i) qs) (sym is))
    ∙ map-append (write_at at) (take i qs) (q ∷ drop (suc i) qs)

pub hold_step : (initial cur new : Attached) (store : List ℕ) (qs : List Request) (i : ℕ) (q : Request) → i < length qs → q ≡ get_or qs i q → GoOn initial cur → Hold (writes_at (index_at initial store) (take i qs)) initial cur → Hold (write_at (index_at cur store) q ∷ []) cur new
    → Hold (writes_at (index_at initial store) (take (i + 1) qs)) initial new
hold_step initial cur new store qs i q inside is goes h k =
    subst (λ (ws : List Write). Hold ws initial new) (sym (writes_more (index_at initial store) qs i q inside is))
    (hold_more initial cur new (writes_at (index_at initial store) (take i qs)) (write_at (index_at initial store) q ∷ []) goes h
    (subst (λ (n : ℕ). Hold (write_at n q ∷ []) cur new) (same_index initial cur store goes) k))

pub first_step : (initial cur new : Attached) (store : List ℕ) (qs : List Request) (i : ℕ) (q : Request) → i < length qs → q ≡ get_or qs i q → GoOn initial cur → Hold (writes_at (index_at initial store) (take i qs)) initial cur → MayHold (write_at (index_at cur store) q) cur new
    → HoldFirst (writes_at (index_at initial store) qs) initial new
first_step initial cur new store qs i q inside is goes h k =
    first_one initial cur new (writes_at (index_at initial store) qs) (writes_at (index_at initial store) (take i qs)) (writes_at (index_at initial store) (drop (suc i) qs)) (write_at (index_at initial store) q)
    (writes_rest (index_at initial store) qs i q inside is) goes h (subst (λ (n : ℕ). MayHold (write_at n q) cur new) (same_index initial cur store goes) k)

---- refusals of writes

call_from : (at : ℕ) (q : Request) (found : Option Record) (a b : Attached) (mid new : List StoreView) → ((i : ℕ) → a.known i → b.known i) → IsCallAt at q (NotMet found) (with_states b mid) (with_states b new) → IsCallAt at q (NotMet found) (with_states a mid) (with_states a new)
call_from at q found a b mid new where_known c = record {
  formed = c.formed;
  before = c.before;
  now = c.now;
  stood = c.stood;
  rest = c.rest;
  name = c.name;
  performed = λ h. c.performed (where_known at h);
  lawful = c.lawful;
  counted = c.counted;
  cause = c.cause;
  where_known = λ i h. h;
}

-- a write that was not met, after others and before more
pub unmet_among : (initial cur : Attached) (new : List StoreView) (ws before own more : List Write) (place : Key) → ws ≡ before ++ (own ++ more) → GoOn initial cur → Hold before initial cur → WasUnmet own place cur new → WasUnmet ws place initial new
unmet_among initial cur new ws before own more place parts goes h u = record {
  done = before ++ u.done;
  write = u.write;
  later = u.later ++ more;
  parts = parts ∙ ap (λ (l : List Write). before ++ (l ++ more)) u.parts ∙ ap (λ (l : List Write). before ++ l) (append_assoc u.done (u.write ∷ u.later) more) ∙ sym (append_assoc before u.done (u.write ∷ u.later ++ more));
  mid = u.mid;
  held = hold_more initial cur (with_states cur u.mid) before u.done goes h u.held;
  found = u.found;
  called = call_from u.write.at u.write.request u.found initial cur u.mid new goes.where_known u.called;
  fails = u.fails;
  key = u.key;
}

pub unwritten_more : (initial cur : Attached) (new : List StoreView) (store : List ℕ) (qs : List Request) (i : ℕ) (q : Request) (e : RetireRefused) → i < length qs → q ≡ get_or qs i q → GoOn initial cur → Hold (writes_at (index_at initial store) (take i qs)) initial cur
    → IsUnwritten (write_at (index_at cur store) q ∷ []) cur new e → IsUnwritten (writes_at (index_at initial store) qs) initial new e
unwritten_more initial cur new store qs i q refused.StoreFault inside is goes held h = risen_more initial cur new goes h
unwritten_more initial cur new store qs i q (refused.BadRow key) inside is goes held h =
    unmet_among initial cur new (writes_at (index_at initial store) qs) (writes_at (index_at initial store) (take i qs)) (write_at (index_at initial store) q ∷ []) (writes_at (index_at initial store) (drop (suc i) qs)) key
    (writes_rest (index_at initial store) qs i q inside is) goes held (subst (λ (n : ℕ). WasUnmet (write_at n q ∷ []) key cur new) (same_index initial cur store goes) h)
unwritten_more initial cur new store qs i q refused.NoMemory inside is goes held h = h

pub unwritten_stopped : (ws : List Write) (old : Attached) (new : List StoreView) (e : RetireRefused) → IsStopped old.views new e → IsUnwritten ws old new e
unwritten_stopped ws old new refused.StoreFault h = h
unwritten_stopped ws old new (refused.BadRow key) h = absurd h
unwritten_stopped ws old new refused.NoMemory h = h

pub unwritten_met : (at : ℕ) (q : Request) (found : Option Record) (old new : Attached) (e : RetireRefused) → IsCallAt at q (NotMet found) old new → IsUnmet q found e → IsUnwritten (write_at at q ∷ []) old new.views e
unwritten_met at q found old new refused.StoreFault c h = absurd h
unwritten_met at q found old new (refused.BadRow key) c h = record {
  done = [];
  write = write_at at q;
  later = [];
  parts = refl;
  mid = old.views;
  held = hold_none old;
  found = found;
  called = record { formed = c.formed; before = c.before; now = c.now; stood = c.stood; rest = c.rest; name = c.name; performed = c.performed; lawful = c.lawful; counted = c.counted; cause = c.cause; where_known = λ i t. t };
  fails = h.1;
  key = h.0;
}
unwritten_met at q found old new refused.NoMemory c h = h

---- what is seen

pub unseen_stopped : (from to : ℕ) (tables : List TableName) (old mid : Attached) (new : List StoreView) (e : RetireRefused) → GoOn old mid → IsStopped mid.views new e → IsUnseen from to tables old new e
unseen_stopped from to tables old mid new refused.StoreFault goes h = risen_more old mid new goes h
unseen_stopped from to tables old mid new (refused.BadRow key) goes h = absurd h
unseen_stopped from to tables old mid new refused.NoMemory goes h = h

pub unseen_blocked : (from to : ℕ) (table : TableName) (in_to in_from : List Record) (old : Attached) (new : List StoreView) (e : RetireRefused) → IsScanned to table in_to old → IsScanned from table in_from old → IsBlockedIn in_to in_from e → IsUnseen from to (table ∷ []) old new e
unseen_blocked from to table in_to in_from old new refused.StoreFault a b h = absurd h
unseen_blocked from to table in_to in_from old new (refused.BadRow key) a b h = record {
  table = table;
  among = Contains-get_or (table ∷ []) 0 table (omega arith);
  to_rows = in_to;
  from_rows = in_from;
  in_to = a;
  in_from = b;
  blocking = h;
}
unseen_blocked from to table in_to in_from old new refused.NoMemory a b h = tt

pub seen_earlier : (from to f t : ℕ) (old mid : Attached) (s : Seen) → from ≡ f → to ≡ t → GoOn old mid → Hold [] old mid → IsSeen from to mid s → IsSeen f t old s
seen_earlier from to f t old mid s a b goes same h = subst (λ (x : ℕ). IsSeen x t old s) a (subst (λ (x : ℕ). IsSeen from x old s) b (record {
  in_to = shown_earlier old mid to s.table s.in_to goes same h.in_to;
  in_from = shown_earlier old mid from s.table s.in_from goes same h.in_from;
  free = h.free;
}))

table_in : (tables : List TableName) (i : ℕ) (t r : TableName) → i < length tables → t ≡ get_or tables i t → Contains (t ∷ []) r → Contains tables r
table_in tables i t r inside is h = subst (Contains tables) (only h.0 h.1 h.2) (subst (Contains tables) (sym is) (Contains-get_or tables i t inside))
  where
    only : (k : ℕ) → k < 1 → get_or (t ∷ []) k r ≡ r → t ≡ r
    only zero less at = at
    only (suc k) less at = absurd (omega arith)

blocked_earlier : (from to f t : ℕ) (old mid : Attached) (tables : List TableName) (i : ℕ) (name : TableName) (place : Key) → from ≡ f → to ≡ t → GoOn old mid → Hold [] old mid → i < length tables → name ≡ get_or tables i name → IsBlocked from to mid (name ∷ []) place → IsBlocked f t old tables place
blocked_earlier from to f t old mid tables i name place a b goes same inside is h = subst (λ (x : ℕ). IsBlocked x t old tables place) a (subst (λ (x : ℕ). IsBlocked from x old tables place) b (record {
  table = h.table;
  among = table_in tables i name h.table inside is h.among;
  to_rows = h.to_rows;
  from_rows = h.from_rows;
  in_to = shown_earlier old mid to h.table h.to_rows goes same h.in_to;
  in_from = shown_earlier old mid from h.table h.from_rows goes same h.in_from;
  blocking = h.blocking;
}))

pub unseen_more : (old mid : Attached) (new : List StoreView) (from to : List ℕ) (tables : List TableName) (i : ℕ) (t : TableName) (e : RetireRefused) → GoOn old mid → Hold [] old mid → i < length tables → t ≡ get_or tables i t → IsUnseen (index_at mid from) (index_at mid to) (t ∷ []) mid new e
    → IsUnseen (index_at old from) (index_at old to) tables old new e
unseen_more old mid new from to tables i t refused.StoreFault goes same inside is h = risen_more old mid new goes h
unseen_more old mid new from to tables i t (refused.BadRow key) goes same inside is h =
    blocked_earlier (index_at mid from) (index_at mid to) (index_at old from) (index_at old to) old mid tables i t key (same_index old mid from goes) (same_index old mid to goes) goes same inside is h
unseen_more old mid new from to tables i t refused.NoMemory goes same inside is h = h

pub seen_more : (old mid : Attached) (from to : List ℕ) (tables : List TableName) (i : ℕ) (t : TableName) (seen more : List Seen) (s : Seen) → GoOn old mid → Hold [] old mid → i < length tables → t ≡ get_or tables i t → s.table ≡ t → more ≡ seen ++ s ∷ []
    → AreSeen (index_at old from) (index_at old to) (take i tables) old seen → IsSeen (index_at mid from) (index_at mid to) mid s → AreSeen (index_at old from) (index_at old to) (take (i + 1) tables) old more
seen_more old mid from to tables i t seen more s goes same inside is own pushed h k = record {
  named = ap (map (λ (x : Seen). x.table)) pushed ∙ map-append (λ (x : Seen). x.table) seen (s ∷ []) ∙ ap (λ (l : List TableName). l ++ s.table ∷ []) h.named
      ∙ ap (λ (n : TableName). take i tables ++ n ∷ []) (own ∙ is) ∙ sym (take-suc tables i t inside) ∙ ap (λ (n : ℕ). take n tables) (sym (add-one i));
  each = subst (AllByRecursion (IsSeen (index_at old from) (index_at old to) old)) (sym pushed)
      (all_last (IsSeen (index_at old from) (index_at old to) old) seen s h.each
      (seen_earlier (index_at mid from) (index_at mid to) (index_at old from) (index_at old to) old mid s (same_index old mid from goes) (same_index old mid to goes) goes same k));
}

---- what single functions leave to show

pub first_blocking : (in_to in_from : List Record) (i : ℕ) (r : Record) (place : Key) → i < length in_to → r ≡ get_or in_to i r → AreFree in_from (take i in_to) → (IsFree in_from r → ⊥) → place ≡ r.key → IsFirstBlocking in_to in_from place
first_blocking in_to in_from i r place inside is free blocks at = record {
  passed = take i in_to;
  bad = r;
  later = drop (suc i) in_to;
  rows = sym (take-append-drop i in_to) ∙ ap (λ (l : List Record). take i in_to ++ l) (drop-cons in_to i r inside) ∙ ap (λ (x : Record). take i in_to ++ x ∷ drop (suc i) in_to) (sym is);
  free = free;
  blocks = blocks;
  key = sym at;
}

pub blocked_free : (old mid : Attached) (new : List StoreView) (from to : List ℕ) (table : TableName) (in_to in_from a b : List Record) (e : RetireRefused) → GoOn old mid → Hold [] old mid → a ≡ in_to → b ≡ in_from → IsScanned (index_at old to) table in_to old
    → IsScanned (index_at mid from) table in_from mid → IsBlockedIn a b e → IsUnseen (index_at old from) (index_at old to) (table ∷ []) old new e
blocked_free old mid new from to table in_to in_from a b e goes same x y there come h =
    unseen_blocked (index_at old from) (index_at old to) table in_to in_from old new e there
    (subst (λ (n : ℕ). IsScanned n table in_from old) (same_index old mid from goes) (shown_earlier old mid (index_at mid from) table in_from goes same come))
    (subst (λ (l : List Record). IsBlockedIn in_to l e) y (subst (λ (l : List Record). IsBlockedIn l b e) x h))

pub met_err : {A : Type 0} (r : Result A RetireRefused) (at : ℕ) (q : Request) (found : Option Record) (old new : Attached) → IsCallAt at q (NotMet found) old new → IfErr r (IsUnmet q found) → IfErr r (IsUnwritten (write_at at q ∷ []) old new.views)
met_err (Ok a) at q found old new call h = tt
met_err (Err e) at q found old new call h = unwritten_met at q found old new e call h

pub first_taken : (old new : Attached) (at : ℕ) (qs : List Request) (i : ℕ) → Hold (writes_at at (take i qs)) old new → HoldFirst (writes_at at qs) old new
first_taken old new at qs i h = record {
  done = writes_at at (take i qs);
  later = writes_at at (drop i qs);
  parts = ap (writes_at at) (sym (take-append-drop i qs)) ∙ map-append (write_at at) (take i qs) (drop i qs);
  held = λ n t. inl (h n t);
}

---- the first store

own_place : (name : List ℕ) (names : List (List ℕ)) → slice_get names 0 ≡ Some name → place_of name names ≡ Some 0
own_place name [] h = none_some name h
own_place name (n ∷ ns) h =
    let same : n ≡ name = cc in
    let q : bytes_eq n name ≡ true = (bytes_eq-Decides n name).1 same in
    let none : prefix_len (λ x. not (bytes_eq x name)) (n ∷ ns) ≡ 0 = ap (λ (b : Bool). cond (not b) (1 + prefix_len (λ x. not (bytes_eq x name)) ns) 0) q in
    ap (λ (k : ℕ). cond (nat_lt k (length (n ∷ ns))) (Some k) None) none ∙ ap (λ (b : Bool). cond b (Some 0) None) (below 0 (length (n ∷ ns)) (omega arith))

pub first_index : (old : Attached) (name : List ℕ) → slice_get (names_of old.views) 0 ≡ Some name → index_at old name ≡ 0
first_index old name h = ap (λ (o : Option ℕ). unwrap_or o 0) (own_place name (names_of old.views) h)

pub first_there : (old : Attached) (name : List ℕ) → slice_get (names_of old.views) 0 ≡ Some name → IsSome (index_in old name)
first_there old name h = ap is_some (own_place name (names_of old.views) h)
