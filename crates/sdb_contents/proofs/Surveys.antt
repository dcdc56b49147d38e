-- A survey, its writes, and both.
use Rattle.std.proofs.Common.{◌≡◌, inl, inr, ℕ, List, [], ◌++◌, refl, sym, ap, subst, ◌∙◌, append-nil}
use Rattle.std.specs.Prelude.{OnErr, Result, Ok, Err}
use Rattle.sdb_contents.specs.Types.{Entry, Key, Request, TableName}
use Rattle.sdb_types.proofs.Public.{all_each}
use Rattle.sdb_stores.specs.Views.{Attached, StoreView, index_at}
use Rattle.sdb_contents.specs.declared.retire_refused.RetireRefused.{RetireRefused}
use Rattle.sdb_contents.specs.declared.retire_refused.RetireRefused.TheVariants as refused
use Rattle.sdb_contents.specs.declared.seen.Seen.{Seen}
use Rattle.sdb_contents.specs.declared.survey.Survey.{Survey}
use Rattle.sdb_contents.specs.Copying.{AreMade, IsBlocked, IsSeen, WasUnmet, requests_of}
use Rattle.sdb_contents.specs.Moving.{moving_tables, renewals}
use Rattle.sdb_contents.specs.Read.{AreOpened, AreSeen, IsUnread, IsUnseen}
use Rattle.sdb_contents.specs.Retired.{AreAllMoved, OthersArePreserved, IsHalted, IsLeft, IsSurvey, IsUnmoved, IsUnsurveyed, Sides, copies_of, writes_of}
use Rattle.sdb_contents.specs.Stopped.{IsUnwritten}
use Rattle.sdb_contents.specs.Writes.{GoOn, Hold, HoldFirst, Write, writes_at}
use Rattle.sdb_contents.proofs.RetireCalls.{first_back, first_front, goes_none, hold_more, hold_none, hold_same, risen_more, same_index, shown_earlier}
use Rattle.sdb_contents.proofs.Known.{others_first, others_held, tables_moved}
use Rattle.sdb_contents.proofs.Renewing.{rows_renewed}
use Rattle.sdb_contents.proofs.Making.{all_less, made_both}
use Rattle.sdb_contents.proofs.Steps.{seen_earlier, unmet_among}

---- the survey

pub opened_first : (from to : List ℕ) (at : ℕ) (old : Attached) (es : List Entry) → at ≡ 0 → AreOpened from to at old es → AreOpened from to 0 old es
opened_first from to at old es e h = subst (λ (n : ℕ). AreOpened from to n old es) e h

pub unsurveyed_unread : (from to : List ℕ) (at : ℕ) (old : Attached) (new : List StoreView) (e : RetireRefused) → at ≡ 0 → IsUnread from to at old new e → IsUnsurveyed (record { from = from; to = to }) old new e
unsurveyed_unread from to at old new refused.StoreFault first h = h
unsurveyed_unread from to at old new (refused.BadRow key) first h = inl (subst (λ (n : ℕ). IsUnread from to n old new (refused.BadRow key)) first h)
unsurveyed_unread from to at old new refused.NoMemory first h = h

pub all_seen : (old mid : Attached) (from to : List ℕ) (tables : List TableName) (seen : List Seen) → GoOn old mid → Hold [] old mid → AreSeen (index_at mid from) (index_at mid to) tables mid seen → AreSeen (index_at old from) (index_at old to) tables old seen
all_seen old mid from to tables seen goes same h = record {
  named = h.named;
  each = all_each (IsSeen (index_at mid from) (index_at mid to) mid) (IsSeen (index_at old from) (index_at old to) old) seen
      (λ s. seen_earlier (index_at mid from) (index_at mid to) (index_at old from) (index_at old to) old mid s (same_index old mid from goes) (same_index old mid to goes) goes same) h.each;
}

pub surveyed : (old mid : Attached) (from to : List ℕ) (at : ℕ) (es : List Entry) (tables observed : List TableName) (seen : List Seen) → at ≡ 0 → AreOpened from to at old es → GoOn old mid → Hold [] old mid → observed ≡ tables → tables ≡ moving_tables from es
    → AreSeen (index_at mid from) (index_at mid to) observed mid seen → IsSurvey (record { from = from; to = to }) old (record { entries = es; seen = seen })
surveyed old mid from to at es tables observed seen first opened goes same a b h = record {
  opened = opened_first from to at old es first opened;
  seen = subst (λ (ts : List TableName). AreSeen (index_at old from) (index_at old to) ts old seen) (a ∙ b) (all_seen old mid from to observed seen goes same h);
}

blocked_at : (from to f t : ℕ) (old mid : Attached) (tables : List TableName) (place : Key) → from ≡ f → to ≡ t → GoOn old mid → Hold [] old mid → IsBlocked from to mid tables place → IsBlocked f t old tables place
blocked_at from to f t old mid tables place a b goes same h = subst (λ (x : ℕ). IsBlocked x t old tables place) a (subst (λ (x : ℕ). IsBlocked from x old tables place) b (record {
  table = h.table;
  among = h.among;
  to_rows = h.to_rows;
  from_rows = h.from_rows;
  in_to = shown_earlier old mid to h.table h.to_rows goes same h.in_to;
  in_from = shown_earlier old mid from h.table h.from_rows goes same h.in_from;
  blocking = h.blocking;
}))

pub unsurveyed_unseen : (old mid : Attached) (new : List StoreView) (from to : List ℕ) (at : ℕ) (es : List Entry) (tables observed : List TableName) (e : RetireRefused) → at ≡ 0 → AreOpened from to at old es → GoOn old mid → Hold [] old mid → observed ≡ tables → tables ≡ moving_tables from es
    → IsUnseen (index_at mid from) (index_at mid to) observed mid new e → IsUnsurveyed (record { from = from; to = to }) old new e
unsurveyed_unseen old mid new from to at es tables observed refused.StoreFault first opened goes same a b h = risen_more old mid new goes h
unsurveyed_unseen old mid new from to at es tables observed (refused.BadRow key) first opened goes same a b h = inr (record {
  entries = es;
  opened = opened_first from to at old es first opened;
  blocked = subst (λ (ts : List TableName). IsBlocked (index_at old from) (index_at old to) old ts key) (a ∙ b)
      (blocked_at (index_at mid from) (index_at mid to) (index_at old from) (index_at old to) old mid observed key (same_index old mid from goes) (same_index old mid to goes) goes same h);
})
unsurveyed_unseen old mid new from to at es tables observed refused.NoMemory first opened goes same a b h = h

---- the writes

pub first_none : (old : Attached) (ws : List Write) → HoldFirst ws old old
first_none old ws = record { done = []; later = ws; parts = refl; held = λ i t. inl refl }

pub later_index : (old mid : Attached) (first : List ℕ) → GoOn old mid → index_at old first ≡ 0 → index_at mid first ≡ 0
later_index old mid first goes e = same_index old mid first goes ∙ e

pub written_all : (old mid new : Attached) (first from to : List ℕ) (v : Survey) (qs rs : List Request) → GoOn old mid → index_at old first ≡ 0 → qs ≡ requests_of v.seen → rs ≡ renewals from to v.entries → Hold (writes_at (index_at old to) qs) old mid → Hold (writes_at (index_at mid first) rs) mid new
    → Hold (writes_of (index_at old to) (record { from = from; to = to }) v) old new
written_all old mid new first from to v qs rs goes named a b h k =
    subst (λ (ws : List Write). Hold ws old new) (ap (λ (l : List Request). writes_at (index_at old to) l ++ writes_at 0 rs) a ∙ ap (λ (l : List Request). writes_at (index_at old to) (requests_of v.seen) ++ writes_at 0 l) b)
    (hold_more old mid new (writes_at (index_at old to) qs) (writes_at 0 rs) goes h (subst (λ (n : ℕ). Hold (writes_at n rs) mid new) (later_index old mid first goes named) k))

pub both_made : (old mid : Attached) (new : List StoreView) (first from to : List ℕ) (v : Survey) (qs rs : List Request) → GoOn old mid → index_at old first ≡ 0 → qs ≡ requests_of v.seen → rs ≡ renewals from to v.entries → AreMade (writes_at (index_at old to) qs) old mid.views → AreMade (writes_at (index_at mid first) rs) mid new
    → AreMade (writes_of (index_at old to) (record { from = from; to = to }) v) old new
both_made old mid new first from to v qs rs goes named a b h k =
    made_both (writes_at (index_at old to) (requests_of v.seen)) (writes_at 0 (renewals from to v.entries)) old mid new goes (subst (λ (l : List Request). AreMade (writes_at (index_at old to) l) old mid.views) a h)
    (subst (λ (l : List Request). AreMade (writes_at 0 l) mid new) b (subst (λ (n : ℕ). AreMade (writes_at n rs) mid new) (later_index old mid first goes named) k))

pub left_first : (old new : Attached) (from to : List ℕ) (v : Survey) (qs : List Request) → qs ≡ requests_of v.seen → HoldFirst (writes_at (index_at old to) qs) old new → HoldFirst (writes_of (index_at old to) (record { from = from; to = to }) v) old new
left_first old new from to v qs a h =
    first_front old new (writes_at (index_at old to) (requests_of v.seen)) (writes_at 0 (renewals from to v.entries)) (subst (λ (l : List Request). HoldFirst (writes_at (index_at old to) l) old new) a h)

pub left_second : (old mid new : Attached) (first from to : List ℕ) (v : Survey) (qs rs : List Request) → GoOn old mid → index_at old first ≡ 0 → qs ≡ requests_of v.seen → rs ≡ renewals from to v.entries → Hold (writes_at (index_at old to) qs) old mid → HoldFirst (writes_at (index_at mid first) rs) mid new
    → HoldFirst (writes_of (index_at old to) (record { from = from; to = to }) v) old new
left_second old mid new first from to v qs rs goes named a b h k =
    subst (λ (ws : List Write). HoldFirst ws old new) (ap (λ (l : List Request). writes_at (index_at old to) l ++ writes_at 0 rs) a ∙ ap (λ (l : List Request). writes_at (index_at old to) (requests_of v.seen) ++ writes_at 0 l) b)
    (first_back old mid new (writes_at (index_at old to) qs) (writes_at 0 rs) goes h (subst (λ (n : ℕ). HoldFirst (writes_at n rs) mid new) (later_index old mid first goes named) k))

pub halted_first : (old : Attached) (new : List StoreView) (from to : List ℕ) (v : Survey) (qs : List Request) (e : RetireRefused) → qs ≡ requests_of v.seen → IsUnwritten (writes_at (index_at old to) qs) old new e → IsHalted (index_at old to) (record { from = from; to = to }) v old new e
halted_first old new from to v qs refused.StoreFault a h = h
halted_first old new from to v qs (refused.BadRow key) a h =
    let ws = writes_at (index_at old to) (requests_of v.seen) in
    let rs = writes_at 0 (renewals from to v.entries) in
    unmet_among old old new (ws ++ rs) [] ws rs key refl (goes_none old) (hold_none old) (subst (λ (l : List Request). WasUnmet (writes_at (index_at old to) l) key old new) a h)
halted_first old new from to v qs refused.NoMemory a h = h

pub halted_second : (old mid : Attached) (new : List StoreView) (first from to : List ℕ) (v : Survey) (qs rs : List Request) (e : RetireRefused) → GoOn old mid → index_at old first ≡ 0 → qs ≡ requests_of v.seen → rs ≡ renewals from to v.entries → Hold (writes_at (index_at old to) qs) old mid → IsUnwritten (writes_at (index_at mid first) rs) mid new e
    → IsHalted (index_at old to) (record { from = from; to = to }) v old new e
halted_second old mid new first from to v qs rs refused.StoreFault goes named a b h u = risen_more old mid new goes u
halted_second old mid new first from to v qs rs (refused.BadRow key) goes named a b h u =
    let ws = writes_at (index_at old to) (requests_of v.seen) in
    let own = writes_at 0 (renewals from to v.entries) in
    unmet_among old mid new (ws ++ own) ws own [] key (ap (λ (l : List Write). ws ++ l) (sym (append-nil own))) goes (subst (λ (l : List Request). Hold (writes_at (index_at old to) l) old mid) a h)
    (subst (λ (l : List Request). WasUnmet (writes_at 0 l) key mid new) b (subst (λ (n : ℕ). WasUnmet (writes_at n rs) key mid new) (later_index old mid first goes named) u))
halted_second old mid new first from to v qs rs refused.NoMemory goes named a b h u = u

---- both

pub all_held : (old mid new : Attached) (s : Sides) (v : Survey) → GoOn old mid → Hold [] old mid → Hold (writes_of (index_at mid s.to) s v) mid new → Hold (writes_of (index_at old s.to) s v) old new
all_held old mid new s v goes same h = hold_same old mid new (writes_of (index_at old s.to) s v) goes same (subst (λ (i : ℕ). Hold (writes_of i s v) mid new) (same_index old mid s.to goes) h)

pub all_moved : (old mid new : Attached) (s : Sides) (v : Survey) (n : ℕ) → GoOn old mid → Hold [] old mid → IsSurvey s old v → n ≡ copies_of v → AreMade (writes_of (index_at mid s.to) s v) mid new.views → Hold (writes_of (index_at mid s.to) s v) mid new → AreAllMoved s n old new
all_moved old mid new s v n goes same observed count made h = record {
  survey = v;
  observed = observed;
  count = count;
  start = mid.views;
  read = same;
  made = all_less (writes_of (index_at old s.to) s v) old mid new.views goes.where_known (subst (λ (i : ℕ). AreMade (writes_of i s v) mid new.views) (same_index old mid s.to goes) made);
  held = all_held old mid new s v goes same h;
  tables = tables_moved s old new v observed (all_held old mid new s v goes same h);
  rows = λ known. rows_renewed s old new v known observed (all_held old mid new s v goes same h);
}

pub part_left : (old mid new : Attached) (s : Sides) (v : Survey) → GoOn old mid → Hold [] old mid → IsSurvey s old v → HoldFirst (writes_of (index_at mid s.to) s v) mid new → IsLeft s old new
part_left old mid new s v goes same observed h = inr (record {
  survey = v;
  observed = observed;
  held = first_back old mid new [] (writes_of (index_at old s.to) s v) goes same (subst (λ (i : ℕ). HoldFirst (writes_of i s v) mid new) (same_index old mid s.to goes) h);
})

pub unmoved_unsurveyed : (old new : Attached) (s : Sides) (e : RetireRefused) → Hold [] old new → IsUnsurveyed s old new.views e → IsUnmoved s old new e
unmoved_unsurveyed old new s refused.StoreFault same h = h
unmoved_unsurveyed old new s (refused.BadRow key) same h = inl (h, same)
unmoved_unsurveyed old new s refused.NoMemory same h = h

pub unmoved_halted : (old mid new : Attached) (s : Sides) (v : Survey) (e : RetireRefused) → GoOn old mid → Hold [] old mid → IsSurvey s old v → IsHalted (index_at mid s.to) s v mid new.views e → IsUnmoved s old new e
unmoved_halted old mid new s v refused.StoreFault goes same observed h = risen_more old mid new.views goes h
unmoved_halted old mid new s v (refused.BadRow key) goes same observed h = inr (record {
  survey = v;
  observed = observed;
  met =
      let ws = writes_of (index_at old s.to) s v in
      unmet_among old mid new.views ws [] ws [] key (sym (append-nil ws)) goes same (subst (λ (i : ℕ). WasUnmet (writes_of i s v) key mid new.views) (same_index old mid s.to goes) h);
})
unmoved_halted old mid new s v refused.NoMemory goes same observed h = h

pub others_part : (old mid new : Attached) (s : Sides) (v : Survey) → GoOn old mid → Hold [] old mid → HoldFirst (writes_of (index_at mid s.to) s v) mid new → OthersArePreserved s old new
others_part old mid new s v goes same h =
    others_first s old new v (first_back old mid new [] (writes_of (index_at old s.to) s v) goes same (subst (λ (i : ℕ). HoldFirst (writes_of i s v) mid new) (same_index old mid s.to goes) h))

pub others_all : (old mid new : Attached) (s : Sides) (v : Survey) → GoOn old mid → Hold [] old mid → Hold (writes_of (index_at mid s.to) s v) mid new → OthersArePreserved s old new
others_all old mid new s v goes same h = others_held s old new v (all_held old mid new s v goes same h)

-- what is left, whatever the refusal
pub left_at : {A E : Type 0} (r : Result A E) (P : Type 0) → P → OnErr r P
left_at (Ok a) P p = tt
left_at (Err e) P p = p
