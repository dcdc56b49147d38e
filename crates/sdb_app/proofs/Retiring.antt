-- What `retire` promises of its work, begun with the places that there were before, and where less is known.
use Rattle.std.proofs.Common.{◌≡◌, inl, inr, ℕ, List, [], ◌∷◌, refl, subst}
use Rattle.std.specs.List.{AllByRecursion}
use Rattle.sdb_app.specs.Types.{Entry, Key, Record, RetireRefused, Seen, Survey, TableName}
use Rattle.sdb_stores.specs.Views.{Attached, StoreView as Counted, index_at}
use Rattle.sdb_catalog.specs.Calls.{with_states}
use Rattle.sdb_contents.specs.declared.retire_refused.RetireRefused.TheVariants as refused
use Rattle.sdb_contents.specs.Copying.{IsSeen, WasUnmet}
use Rattle.sdb_contents.specs.Dropped.{HoldsStill, IsRetired, OpensTheSame}
use Rattle.sdb_contents.specs.Read.{AreOpened, IsBadRow}
use Rattle.sdb_contents.specs.Retired.{AreKnown, AreAllMoved, IsBarred, IsBlockedCopy, IsLeft, IsSurvey, IsUnmoved, IsUnmovedKnown, OthersArePreserved, Sides, writes_of}
use Rattle.sdb_contents.specs.Writes.{GoOn, IsScanned, Write}
use Rattle.sdb_contents.proofs.Public.{all_less}
use Rattle.sdb_app.specs.declared.status.Status.{Status}
use Rattle.sdb_app.specs.Ends.{Stream, Work, work_on}
use Rattle.sdb_app.specs.Retire.{IsStoreRetired, IsUnretired, StopsRetire, moved_text}
use Rattle.sdb_app.specs.Retire.StopsRetire.{Unanswered, Unretired}
use Rattle.sdb_app.proofs.Headline.{begun_with}

---- where less is known of the stores

-- Less is known of the stores before.
abbrev KnowLess : Attached → Attached → Type 0
KnowLess before old = (i : ℕ) → before.known i → old.known i

shown_less : (before old : Attached) → KnowLess before old → (at : ℕ) (table : TableName) (rows : List Record) → IsScanned at table rows old → IsScanned at table rows (with_states before old.views)
shown_less before old less at table rows h = record { lawful = h.lawful; known = λ t. h.known (less at t) }

opened_less : (before old : Attached) → KnowLess before old → (s : Sides) (es : List Entry) → AreOpened s.from s.to 0 old es → AreOpened s.from s.to 0 (with_states before old.views) es
opened_less before old less s es h = record { rows = h.rows; observed = shown_less before old less 0 _ h.rows h.observed; opens = h.opens }

seen_less : (before old : Attached) → KnowLess before old → (from to : ℕ) (ss : List Seen) → AllByRecursion (IsSeen from to old) ss → AllByRecursion (IsSeen from to (with_states before old.views)) ss
seen_less before old less from to [] h = h
seen_less before old less from to (x ∷ xs) h = (
  record { in_to = shown_less before old less to x.table x.in_to h.0.in_to; in_from = shown_less before old less from x.table x.in_from h.0.in_from; free = h.0.free },
  seen_less before old less from to xs h.1,
)

survey_less : (before old : Attached) → KnowLess before old → (s : Sides) (v : Survey) → IsSurvey s old v → IsSurvey s (with_states before old.views) v
survey_less before old less s v h = record {
  opened = opened_less before old less s v.entries h.opened;
  seen = record { named = h.seen.named; each = seen_less before old less (index_at old s.from) (index_at old s.to) v.seen h.seen.each };
}

known_more : (before old : Attached) → KnowLess before old → (s : Sides) → AreKnown s (with_states before old.views) → AreKnown s old
known_more before old less s h = record { first = less 0 h.first; from = less (index_at old s.from) h.from; to = less (index_at old s.to) h.to }

moved_less : (before old : Attached) → KnowLess before old → (s : Sides) (n : ℕ) (mid : List Counted) → AreAllMoved s n old (with_states old mid) → AreAllMoved s n (with_states before old.views) (with_states before mid)
moved_less before old less s n mid h = record {
  survey = h.survey;
  observed = survey_less before old less s h.survey h.observed;
  count = h.count;
  start = h.start;
  read = λ i t. h.read i (less i t);
  made = all_less (writes_of (index_at old s.to) s h.survey) before (with_states old h.start) mid less h.made;
  held = λ i t. h.held i (less i t);
  tables = λ f t. h.tables (less (index_at old s.from) f) (less (index_at old s.to) t);
  rows = λ k. h.rows (known_more before old less s k);
}

pub opens_less : (before old new : Attached) → KnowLess before old → (s : Sides) → OpensTheSame s old new → OpensTheSame s (with_states before old.views) (with_states before new.views)
opens_less before old new less s h = record {
  before = h.before;
  now = h.now;
  opened = h.opened;
  opens = h.opens;
  tables = h.tables;
  images = λ all. h.images (λ i inside. less i (all i inside));
}

---- what stopped it, where less is known

bad_row_less : (before old : Attached) → KnowLess before old → (s : Sides) (key : Key) → IsBadRow s.from s.to 0 old key → IsBadRow s.from s.to 0 (with_states before old.views) key
bad_row_less before old less s key h = record { rows = h.rows; observed = shown_less before old less 0 _ h.rows h.observed; bad = h.bad }

blocked_less : (before old : Attached) → KnowLess before old → (s : Sides) (key : Key) → IsBlockedCopy s old key → IsBlockedCopy s (with_states before old.views) key
blocked_less before old less s key h =
    let b = h.blocked in
    record {
      entries = h.entries;
      opened = opened_less before old less s h.entries h.opened;
      blocked = record {
        table = b.table;
        among = b.among;
        to_rows = b.to_rows;
        from_rows = b.from_rows;
        in_to = shown_less before old less (index_at old s.to) b.table b.to_rows b.in_to;
        in_from = shown_less before old less (index_at old s.from) b.table b.from_rows b.in_from;
        blocking = b.blocking;
      };
    }

barred_less : (before old new : Attached) → KnowLess before old → (s : Sides) (key : Key) → IsBarred s old new key → IsBarred s (with_states before old.views) (with_states before new.views) key
barred_less before old new less s key (inl h, held) = (inl (bad_row_less before old less s key h), λ i t. held i (less i t))
barred_less before old new less s key (inr h, held) = (inr (blocked_less before old less s key h), λ i t. held i (less i t))

unmet_less : (before old : Attached) (new : List Counted) → KnowLess before old → (ws : List Write) (key : Key) → WasUnmet ws key old new → WasUnmet ws key (with_states before old.views) new
unmet_less before old new less ws key h =
    let c = h.called in
    record {
      done = h.done;
      write = h.write;
      later = h.later;
      parts = h.parts;
      mid = h.mid;
      held = λ i t. h.held i (less i t);
      found = h.found;
      called = record { formed = c.formed; before = c.before; now = c.now; stood = c.stood; rest = c.rest; name = c.name; performed = λ t. c.performed (less h.write.at t); lawful = c.lawful; counted = c.counted; cause = c.cause; where_known = λ i t. t };
      fails = h.fails;
      key = h.key;
    }

unmoved_less : (before old new : Attached) → KnowLess before old → (s : Sides) (cause : RetireRefused) → IsUnmoved s old new cause → IsUnmoved s (with_states before old.views) (with_states before new.views) cause
unmoved_less before old new less s refused.StoreFault h = h
unmoved_less before old new less s (refused.BadRow key) (inl h) = inl (barred_less before old new less s key h)
unmoved_less before old new less s (refused.BadRow key) (inr h) = inr (record { survey = h.survey; observed = survey_less before old less s h.survey h.observed; met = unmet_less before old new.views less _ key h.met })
unmoved_less before old new less s refused.NoMemory h = tt

unmoved_known_less : (before old new : Attached) → KnowLess before old → (s : Sides) (cause : RetireRefused) → IsUnmovedKnown s old new cause → IsUnmovedKnown s (with_states before old.views) (with_states before new.views) cause
unmoved_known_less before old new less s refused.StoreFault h = h
unmoved_known_less before old new less s (refused.BadRow key) h = λ k. barred_less before old new less s key (h (known_more before old less s k))
unmoved_known_less before old new less s refused.NoMemory h = tt

left_less : (before old new : Attached) → KnowLess before old → (s : Sides) → IsLeft s old new → IsLeft s (with_states before old.views) (with_states before new.views)
left_less before old new less s (inl held) = inl (λ i t. held i (less i t))
left_less before old new less s (inr h) =
    inr (record { survey = h.survey; observed = survey_less before old less s h.survey h.observed; held = record { done = h.held.done; later = h.held.later; parts = h.held.parts; held = λ i t. h.held.held i (less i t) } })

holds_less : (before old new : Attached) → KnowLess before old → (name : List ℕ) → HoldsStill name old new → HoldsStill name (with_states before old.views) (with_states before new.views)
holds_less before old new less name h = record { attached = h.attached; contents = λ t. h.contents (less (index_at old name) t) }

---- the work

-- the work of a command, where less is known of the stores before it
abbrev work_less : Attached → List Counted → Work → Work
work_less before store_contents work = begun_with (with_states before store_contents) work

retired_less : (before : Attached) (work : Work) → KnowLess before work.old → (s : Sides) (text : List ℕ) → IsStoreRetired s work text → IsStoreRetired s (work_less before work.old.views work) text
retired_less before work less s text h = record {
  count = h.count;
  mid = h.mid;
  moved = moved_less before work.old less s h.count h.mid h.moved;
  others = λ i to first t. h.others i to first (less i t);
  goes = record { names = h.goes.names; places = refl; counted = h.goes.counted; where_known = λ i t. t };
  at = h.at;
  found = h.found;
  left = h.left;
  opens = λ k. opens_less before work.old (with_states work.old work.left) less s (h.opens (known_more before work.old less s k));
  text = h.text;
  unread = h.unread;
}

unretired_less : (before : Attached) (work : Work) → KnowLess before work.old → (s : Sides) (cause : RetireRefused) → IsUnretired s work cause → IsUnretired s (work_less before work.old.views work) cause
unretired_less before work less s cause h =
    let new = with_states work.old work.left in
    record {
      refused = unmoved_less before work.old new less s cause h.refused;
      known = unmoved_known_less before work.old new less s cause h.known;
      written = left_less before work.old new less s h.written;
      others = λ i to first t. h.others i to first (less i t);
      kept = holds_less before work.old new less s.from h.kept;
      goes = record { names = h.goes.names; places = refl; counted = h.goes.counted; where_known = λ i t. t };
      unread = h.unread;
    }

pub retired_before : (before : Attached) (work : Work) (s : Sides) (text : List ℕ) → work.old.views ≡ before.views → KnowLess before work.old → IsStoreRetired s work text → IsStoreRetired s (begun_with before work) text
retired_before before work s text same less h = subst (λ (ss : List Counted). IsStoreRetired s (work_less before ss work) text) same (retired_less before work less s text h)

pub retire_stops_before : (before : Attached) (work : Work) (s : Sides) (end : Status) → work.old.views ≡ before.views → KnowLess before work.old → StopsRetire s work end → StopsRetire s (begun_with before work) end
retire_stops_before before work s end same less (Unretired cause h is) =
    Unretired cause (subst (λ (ss : List Counted). IsUnretired s (work_less before ss work) cause) same (unretired_less before work less s cause h)) is
retire_stops_before before work s end same less (Unanswered text h is) = Unanswered text (retired_before before work s text same less h) is

---- once a store was retired, or not

-- a store that was retired
pub retired_on : (s : Sides) (n : ℕ) (old new : Attached) (input : Stream) (text : List ℕ) → IsRetired s n old new → (AreKnown s old → OpensTheSame s old new) → text ≡ moved_text n → IsStoreRetired s (work_on old new input) text
retired_on s n old new input text h opens is = record {
  count = n;
  mid = h.mid;
  moved = h.moved;
  others = h.others;
  goes = h.goes;
  at = h.dropped.at;
  found = h.dropped.found;
  left = h.dropped.rest;
  opens = λ k. opens_less old old new (λ i t. t) s (opens k);
  text = is;
  unread = refl;
}

-- one that was not
pub unretired_on : (s : Sides) (old new : Attached) (input : Stream) (cause : RetireRefused) → IsUnmoved s old new cause → IsUnmovedKnown s old new cause → IsLeft s old new → OthersArePreserved s old new → HoldsStill s.from old new → GoOn old new → IsUnretired s (work_on old new input) cause
unretired_on s old new input cause refused known written others kept goes = record {
  refused = unmoved_less old old new (λ i t. t) s cause refused;
  known = unmoved_known_less old old new (λ i t. t) s cause known;
  written = left_less old old new (λ i t. t) s written;
  others = others;
  kept = holds_less old old new (λ i t. t) s.from kept;
  goes = record { names = goes.names; places = refl; counted = goes.counted; where_known = λ i t. t };
  unread = refl;
}
