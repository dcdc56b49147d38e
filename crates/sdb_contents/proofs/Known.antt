-- What stores of known contents hold once everything was moved.
use Rattle.std.proofs.Common.{◌≡◌, ◌≢◌, ◌==◌, inl, inr, ℕ, List, [], ◌∷◌, ◌++◌, map, take, Bool, true, false, refl, sym, ap, subst, ◌∙◌}
use Rattle.std.specs.Prelude.{if◌then◌else◌}
use Rattle.std.specs.List.{AllByRecursion}
use Rattle.sdb_contents.specs.Types.{Record, Request, TableName}
use Rattle.sdb_types.specs.Contents.{Contents, after, record_at, rise}
use Rattle.sdb_types.proofs.Public.{all_each, and_first, append_all, by_test, eq_of}
use Rattle.sdb_stores.specs.Views.{Attached, index_at}
use Rattle.sdb_contents.specs.declared.seen.Seen.{Seen}
use Rattle.sdb_contents.specs.declared.survey.Survey.{Survey}
use Rattle.sdb_contents.specs.Copying.{IsSeen, requests_of}
use Rattle.sdb_contents.specs.Joined.{AreApart, IsWhole, after_all, is_among}
use Rattle.sdb_contents.specs.Moving.{renewals}
use Rattle.sdb_contents.specs.Retired.{IsSurvey, OthersArePreserved, Sides, TablesCopied, writes_of}
use Rattle.sdb_contents.specs.Writes.{Hold, HoldFirst, Write, after_write, after_writes, contents_at, write_at, writes_at}
use Rattle.sdb_contents.proofs.Apart.{elsewhere, moving_apart}
use Rattle.sdb_contents.proofs.RetireCalls.{after_more, same_itself}
use Rattle.sdb_contents.proofs.Joins.{joined}

pub own_writes : (i : ℕ) (qs : List Request) (m : Contents) → after_writes i (writes_at i qs) m ≡ after_all qs m
own_writes i [] m = refl
own_writes i (q ∷ qs) m = own_writes i qs (after_write i (write_at i q) m) ∙ ap (λ (b : Bool). after_all qs (if b then after q m else m)) (same_itself i)

whole_of : (from to : ℕ) (old : Attached) → old.known from → old.known to → (s : Seen) → IsSeen from to old s → IsWhole (contents_at old.views to) (contents_at old.views from) s
whole_of from to old f t s h = record { in_to = h.in_to.known t; in_from = h.in_from.known f; free = h.free }

pub apart_of_survey : (s : Sides) (old : Attached) (v : Survey) → IsSurvey s old v → AreApart (map (λ (x : Seen). x.table) v.seen)
apart_of_survey s old v h =
    subst AreApart (sym h.seen.named)
    (moving_apart s.from v.entries
    (subst (λ (rs : List Record). rise rs ≡ true) h.opened.opens.rows (and_first (rise h.opened.rows) _ h.opened.observed.lawful)))

pub whole_all : (s : Sides) (old : Attached) (v : Survey) → old.known (index_at old s.from) → old.known (index_at old s.to) → IsSurvey s old v → AllByRecursion (IsWhole (contents_at old.views (index_at old s.to)) (contents_at old.views (index_at old s.from))) v.seen
whole_all s old v f t h =
    all_each (IsSeen (index_at old s.from) (index_at old s.to) old) (IsWhole (contents_at old.views (index_at old s.to)) (contents_at old.views (index_at old s.from))) v.seen (whole_of (index_at old s.from) (index_at old s.to) old f t) h.seen.each

pub tables_moved : (s : Sides) (old new : Attached) (v : Survey) → IsSurvey s old v → Hold (writes_of (index_at old s.to) s v) old new → TablesCopied s v old new
tables_moved s old new v h held = λ f t k far.
    let ti = index_at old s.to in
    let c = contents_at old.views ti in
    ap (λ (m : Contents). record_at m k) (held ti t ∙ after_more ti (writes_at ti (requests_of v.seen)) (writes_at 0 (renewals s.from s.to v.entries)) c)
    ∙ elsewhere ti 0 s.from s.to v.entries (after_writes ti (writes_at ti (requests_of v.seen)) c) k far
    ∙ ap (λ (m : Contents). record_at m k) (own_writes ti (requests_of v.seen) c)
    ∙ joined c (contents_at old.views (index_at old s.from)) v.seen c k (whole_all s old v f t h) (apart_of_survey s old v h) refl
    ∙ ap (λ (ts : List TableName). if is_among ts k then record_at (contents_at old.views (index_at old s.from)) k else record_at c k) h.seen.named

---- other stores

abbrev pub Elsewhere : ℕ → List Write → Type 0
Elsewhere i ws = AllByRecursion (λ w. (w.at == i) ≡ false) ws

pub nothing_here : (i : ℕ) (ws : List Write) (m : Contents) → Elsewhere i ws → after_writes i ws m ≡ m
nothing_here i [] m h = refl
nothing_here i (w ∷ ws) m h = nothing_here i ws (after_write i w m) h.1 ∙ ap (λ (b : Bool). if b then after w.request m else m) h.0

pub at_other : (i j : ℕ) (qs : List Request) → (j == i) ≡ false → Elsewhere i (writes_at j qs)
at_other i j [] h = tt
at_other i j (q ∷ qs) h = (h, at_other i j qs h)

far_from : (i j : ℕ) → i ≢ j → (j == i) ≡ false
far_from i j h = by_test (j == i) (λ e. absurd (h (sym (eq_of j i e)))) (λ e. e)

writes_elsewhere : (to i : ℕ) (s : Sides) (v : Survey) → i ≢ to → i ≢ 0 → Elsewhere i (writes_of to s v)
writes_elsewhere to i s v a b =
    append_all (λ (w : Write). (w.at == i) ≡ false) (writes_at to (requests_of v.seen)) (writes_at 0 (renewals s.from s.to v.entries)) (at_other i to (requests_of v.seen) (far_from i to a)) (at_other i 0 (renewals s.from s.to v.entries) (far_from i 0 b))

front_of : (P : Write → Type 0) (a b : List Write) → AllByRecursion P (a ++ b) → AllByRecursion P a
front_of P [] b h = tt
front_of P (w ∷ ws) b h = (h.0, front_of P ws b h.1)

back_of : (P : Write → Type 0) (a b : List Write) → AllByRecursion P (a ++ b) → AllByRecursion P b
back_of P [] b h = h
back_of P (w ∷ ws) b h = back_of P ws b h.1

one_of : (P : Write → Type 0) (ws : List Write) → AllByRecursion P ws → AllByRecursion P (take 1 ws)
one_of P [] h = tt
one_of P (w ∷ ws) h = (h.0, tt)

pub others_held : (s : Sides) (old new : Attached) (v : Survey) → Hold (writes_of (index_at old s.to) s v) old new → OthersArePreserved s old new
others_held s old new v h = λ i a b t. h i t ∙ nothing_here i (writes_of (index_at old s.to) s v) (contents_at old.views i) (writes_elsewhere (index_at old s.to) i s v a b)

pub others_first : (s : Sides) (old new : Attached) (v : Survey) → HoldFirst (writes_of (index_at old s.to) s v) old new → OthersArePreserved s old new
others_first s old new v h = λ i a b t.
    let all = subst (Elsewhere i) h.parts (writes_elsewhere (index_at old s.to) i s v a b) in
    let front = front_of (λ (w : Write). (w.at == i) ≡ false) h.done h.later all in
    elim (h.held i t) [
      | inl e ↦ e ∙ nothing_here i h.done (contents_at old.views i) front
      | inr e ↦ e ∙ nothing_here i (h.done ++ take 1 h.later) (contents_at old.views i) (append_all (λ (w : Write). (w.at == i) ≡ false) h.done (take 1 h.later) front (one_of (λ (w : Write). (w.at == i) ≡ false) h.later (back_of (λ (w : Write). (w.at == i) ≡ false) h.done h.later all)))
    ]

pub others_none : (s : Sides) (old new : Attached) → Hold [] old new → OthersArePreserved s old new
others_none s old new h = λ i a b t. h i t
