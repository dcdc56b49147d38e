-- How many calls come out Broken, event by event.
use Rattle.std.proofs.Common.{◌≡◌, inl, inr, ℕ, suc, ◌+◌, ◌≤◌, Bool, true, false, cond, List, [], ◌∷◌, ◌++◌, Option, refl, sym, ap, subst, ◌∙◌, arith}
use Rattle.std.proofs.lemmas.List.Sums.{sum_by_push}
use Rattle.sdb_world.specs.Types.{Answer, Event, How, Kind, Reply, Request, TableName}
use Rattle.sdb_stores.specs.Views.{Attached, StoreView, HaveRisen, total_faults}
use Rattle.sdb_model.specs.declared.event.Event.TheVariants as event
use Rattle.sdb_model.specs.declared.event.How.TheVariants as how
use Rattle.sdb_model.specs.Rows.{Name}
use Rattle.sdb_model.specs.Counted.{broken_in, is_broken}
use Rattle.sdb_contents.specs.Board.{GoOn}
use Rattle.law_runs.specs.World.{WorldAt}
use Rattle.sdb_world.specs.Step.{HasAltered, HasStopped, HasStarted}
use Rattle.sdb_world.specs.Broken.{BreaksWithin}

broken_more : (es : List Event) (e : Event) → broken_in (es ++ e ∷ []) ≡ broken_in es + cond (is_broken e) 1 0
broken_more es e = sum_by_push (λ (x : Event). cond (is_broken x) 1 0) es e

-- nothing came
pub breaks_none : (es : List Event) (a : List StoreView) → BreaksWithin es es a a
breaks_none es a = inl (omega arith)

-- nothing came, and the stores went on
pub breaks_still : (es : List Event) (a b : Attached) → GoOn a b → BreaksWithin es es a.views b.views
breaks_still es a b goes = inl (omega (arith, goes.counted))

-- more came, on stores that went on
pub breaks_more : (before mid now : List Event) (a b c : Attached) → BreaksWithin before mid a.views b.views → GoOn b c → BreaksWithin mid now b.views c.views → BreaksWithin before now a.views c.views
breaks_more before mid now a b c h goes k = elim h [
  | inl few ↦ elim k [
    | inl more ↦ inl (omega (arith, few, more))
    | inr full ↦ inr full
  ]
  | inr full ↦ inr (goes.full full)
]

-- more came on stores that had gone on
pub breaks_after : (before now : List Event) (a b : Attached) (c : List StoreView) → GoOn a b → BreaksWithin before now b.views c → BreaksWithin before now a.views c
breaks_after before now a b c goes h = elim h [
  | inl few ↦ inl (omega (arith, few, goes.counted))
  | inr full ↦ inr full
]

---- one event

abbrev is_failed : How → Bool
is_failed how.Broken = true
is_failed h = false

-- one that isn't Broken
pub breaks_other : (es more : List Event) (e : Event) (a : List StoreView) → more ≡ es ++ e ∷ [] → is_broken e ≡ false → BreaksWithin es more a a
breaks_other es more e a came whole =
    let one : broken_in more ≡ broken_in es + 0 = ap broken_in came ∙ broken_more es e ∙ ap (λ b. broken_in es + cond b 1 0) whole in
    inl (omega (arith, one))

-- a world's, as it was pushed
pub breaks_pushed : (u w : WorldAt) → u ≡ w → (more : List Event) (e : Event) (a : List StoreView) → more ≡ u.events ++ e ∷ [] → is_broken e ≡ false → BreaksWithin w.events more a a
breaks_pushed u w same more e a came whole = breaks_other w.events more e a (came ∙ ap (λ (x : WorldAt). x.events ++ e ∷ []) same) whole

pub breaks_take : (w v : WorldAt) (i : ℕ) (a : List StoreView) → HasStarted w i v → BreaksWithin w.events v.events a a
breaks_take w v i a t = breaks_other w.events v.events (event.Take (suc i) t.text t.answer) a (ap (λ (x : WorldAt). x.events) t.left) refl

pub breaks_stop : (w v : WorldAt) (c : ℕ) (a : List StoreView) → HasStopped w c v → BreaksWithin w.events v.events a a
breaks_stop w v c a t = breaks_other w.events v.events (event.Stop c) a (ap (λ (x : WorldAt). x.events) t.left) refl

pub breaks_alter : (w v : WorldAt) (table : TableName) (column : Name) (kind : Kind) (a : List StoreView) → HasAltered w table column kind v → BreaksWithin w.events v.events a a
breaks_alter w v table column kind a t = breaks_other w.events v.events (event.Alter table column kind t.altered) a (ap (λ (x : WorldAt). x.events) t.left) refl

-- one that is Broken only where a count rose
breaks_one : (es more : List Event) (e : Event) (h : How) (a b : List StoreView) → more ≡ es ++ e ∷ [] → is_broken e ≡ is_failed h → (h ≡ how.Broken → HaveRisen a b) → total_faults a ≤ total_faults b → BreaksWithin es more a b
breaks_one es more e h a b came is cause counted = subst (λ (xs : List Event). BreaksWithin es xs a b) (sym came) (by h is cause)
  where
    whole : is_broken e ≡ false → BreaksWithin es (es ++ e ∷ []) a b
    whole is = let more : broken_in (es ++ e ∷ []) ≡ broken_in es + 0 = broken_more es e ∙ ap (λ b. broken_in es + cond b 1 0) is in inl (omega (arith, more, counted))

    by : (h : How) → is_broken e ≡ is_failed h → (h ≡ how.Broken → HaveRisen a b) → BreaksWithin es (es ++ e ∷ []) a b
    by how.Broken is risen = elim (risen refl) [
      | inl rose ↦ inl (let more : broken_in (es ++ e ∷ []) ≡ broken_in es + 1 = broken_more es e ∙ ap (λ b. broken_in es + cond b 1 0) is in omega (arith, more, rose))
      | inr full ↦ inr full
    ]
    by how.Seen is risen = whole is
    by how.Lost is risen = whole is
    by how.Discarded is risen = whole is
    by how.Delayed is risen = whole is

broken_call : (c : ℕ) (store : Name) (q : Request) (h : How) (r : Reply) (answer : Option Answer) → is_broken (event.Call c store q h r answer) ≡ is_failed h
broken_call c store q how.Seen r answer = refl
broken_call c store q how.Lost r answer = refl
broken_call c store q how.Discarded r answer = refl
broken_call c store q how.Delayed r answer = refl
broken_call c store q how.Broken r answer = refl

broken_land : (number : ℕ) (store : Name) (q : Request) (h : How) (r : Reply) → is_broken (event.Land number store q h r) ≡ is_failed h
broken_land number store q how.Seen r = refl
broken_land number store q how.Lost r = refl
broken_land number store q how.Discarded r = refl
broken_land number store q how.Delayed r = refl
broken_land number store q how.Broken r = refl

-- a call of a world's, which is Broken only where a count rose
pub breaks_called : (u w : WorldAt) → u ≡ w → (more : List Event) (c : ℕ) (store : Name) (q : Request) (h : How) (r : Reply) (answer : Option Answer) (a b : List StoreView) → more ≡ u.events ++ event.Call c store q h r answer ∷ [] → (h ≡ how.Broken → HaveRisen a b) → total_faults a ≤ total_faults b → BreaksWithin w.events more a b
breaks_called u w same more c store q h r answer a b came cause counted =
    breaks_one w.events more (event.Call c store q h r answer) h a b (came ∙ ap (λ (x : WorldAt). x.events ++ event.Call c store q h r answer ∷ []) same) (broken_call c store q h r answer) cause counted

-- and a landing
pub breaks_landed : (u w : WorldAt) → u ≡ w → (more : List Event) (number : ℕ) (store : Name) (q : Request) (h : How) (r : Reply) (a b : List StoreView) → more ≡ u.events ++ event.Land number store q h r ∷ [] → (h ≡ how.Broken → HaveRisen a b) → total_faults a ≤ total_faults b → BreaksWithin w.events more a b
breaks_landed u w same more number store q h r a b came cause counted =
    breaks_one w.events more (event.Land number store q h r) h a b (came ∙ ap (λ (x : WorldAt). x.events ++ event.Land number store q h r ∷ []) same) (broken_land number store q h r) cause counted
