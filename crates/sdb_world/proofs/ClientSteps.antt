-- A step of a client, whichever it is, a landing of nothing, and the clock.
use Rattle.std.proofs.Common.{◌≡◌, ℕ, ℤ, zero, suc, ◌-◌, ◌<◌, ◌≤◌, Bool, true, false, List, [], ◌∷◌, ◌++◌, length, Option, None, IfSome, sym, ap, subst, ◌∙◌, arith, get_or}
use Rattle.std.specs.Prelude.{not, nat_lt, slice_get}
use Rattle.std.proofs.lemmas.Bool.{ltb-true}
use Rattle.sdb_types.proofs.Public.{and_second}
use Rattle.sdb_world.specs.Types.{Act, ClientSlot, Event}
use Rattle.sdb_model.specs.declared.event.Event.TheVariants as event
use Rattle.sdb_model.specs.declared.script.Act.TheVariants as act
use Rattle.sdb_model.specs.Follows.{has_work, texts_of}
use Rattle.sdb_stores.specs.Views.{Attached}
use Rattle.sdb_client.specs.Client.{IsIdle}
use Rattle.sdb_world.specs.declared.delivery.Delivery.{Delivery}
use Rattle.law_runs.specs.World.{IsWorld, WorldAt, at_moment, with_event}
use Rattle.sdb_world.specs.Step.{CanAct, HasCalled, HasLeft, HasStarted, IsBusyAt, IsIdleAt, IsNumber, LeavesFlight, act_of}
use Rattle.sdb_world.proofs.Acts.{Came, acts_call, acts_clock, acts_idle, acts_none, acts_take}
use Rattle.sdb_world.proofs.Takings.{read_there}
use Rattle.sdb_world.proofs.Works.{work_is}

-- a number from 1 is that of a place from 0
pub number_is : (c : ℕ) → 0 < c → suc (c - 1) ≡ c
number_is zero h = absurd (omega arith)
number_is (suc c) h = omega arith

-- the place of a client is one of the world's
pub place_low : (w : WorldAt) (c : ℕ) → IsWorld w → IsNumber w.script c → c - 1 < length w.client_slots
place_low w c h number =
    let low : 0 < c = number.0 in
    let high : c ≤ length w.script.clients = number.1 in
    let same : length w.client_slots ≡ length w.script.clients = h.clients in
    omega (arith, low, high, same)

-- what is so of the client that was read at a place
pub at_write : (P : ClientSlot → Type 0) (client_slots : List ClientSlot) (i : ℕ) (s : ClientSlot) → i < length client_slots → s ≡ get_or client_slots i s → P s → IfSome (slice_get client_slots i) P
at_write P client_slots i s low read p = subst (λ (o : Option ClientSlot). IfSome o P) (sym (read_there client_slots i s low read)) p

-- a client with work that waits for a statement has one left
pub left_of : (w : WorldAt) (i : ℕ) (s : ClientSlot) → IsWorld w → i < length w.client_slots → s ≡ get_or w.client_slots i s → IsIdle s.client → has_work w.script.clients (suc i) w.events ≡ true → HasLeft w i
left_of w i s h low read idle works =
    at_write (λ (x : ClientSlot). x.accepted < length (texts_of w.script.clients (suc i))) w.client_slots i s low read
    (let lt : nat_lt s.accepted (length (texts_of w.script.clients (suc i))) ≡ true = and_second (not s.stopped) (nat_lt s.accepted (length (texts_of w.script.clients (suc i)))) (sym (work_is w i s true h (read_there w.client_slots i s low read) (λ e. idle) (λ e. cc)) ∙ works) in ltb-true s.accepted (length (texts_of w.script.clients (suc i))) lt)

-- nothing but an event more
idled : (u w : WorldAt) → u ≡ w → (es : List Event) (c : ℕ) → es ≡ u.events ++ event.Idle c ∷ [] → record { script = u.script; client_slots = u.client_slots; flights = u.flights; events = es; clock = u.clock } ≡ with_event w (event.Idle c)
idled u w same es c came =
    subst (λ (x : WorldAt). record { script = x.script; client_slots = x.client_slots; flights = x.flights; events = es; clock = x.clock } ≡ with_event w (event.Idle c)) (sym same)
    (λ k. record { script = w.script; client_slots = w.client_slots; flights = w.flights; events = (came ∙ ap (λ (x : WorldAt). x.events ++ event.Idle c ∷ []) same) k; clock = w.clock })

-- no request of this number is in flight
pub goes_none : (stores : Attached) (u v w : WorldAt) (number : ℕ) (es : List Event) → IsWorld w → u ≡ v → LeavesFlight number w None v → es ≡ u.events ++ event.Idle 0 ∷ [] → Came stores stores w (act.Land number) (record { script = u.script; client_slots = u.client_slots; flights = u.flights; events = es; clock = u.clock })
goes_none stores u v w number es h same left came = acts_none stores w (record { script = u.script; client_slots = u.client_slots; flights = u.flights; events = es; clock = u.clock }) number h left.0 (idled u w (same ∙ left.1) es 0 came)

module _ (w : WorldAt) (c : ℕ) (way : Delivery) (h : IsWorld w) (number : IsNumber w.script c) (b : Bool) (works : b ≡ has_work w.script.clients (suc (c - 1)) w.events) where
  -- it has no work
  pub goes_idle : (stores : Attached) (u : WorldAt) (es : List Event) → b ≡ false → u ≡ w → es ≡ u.events ++ event.Idle c ∷ [] → Came stores stores w (act_of way c) (record { script = u.script; client_slots = u.client_slots; flights = u.flights; events = es; clock = u.clock })
  goes_idle stores u es none same came =
      acts_idle stores w (record { script = u.script; client_slots = u.client_slots; flights = u.flights; events = es; clock = u.clock }) c way h (sym (works ∙ ap (λ (n : ℕ). has_work w.script.clients n w.events) (number_is c number.0)) ∙ none) (idled u w same es c came)

  -- it takes a statement
  pub goes_take : (stores : Attached) (v : WorldAt) → b ≡ true → IsIdleAt w (c - 1) → HasStarted w (c - 1) v → Came stores stores w (act_of way c) v
  goes_take stores v has idle t = subst (λ (n : ℕ). Came stores stores w (act_of way n) v) (number_is c number.0) (acts_take stores w v (c - 1) way h (sym works ∙ has) idle t)

  -- its call is made
  pub goes_call : (old new : Attached) (v : WorldAt) → b ≡ true → IsBusyAt w (c - 1) → HasCalled old new w (c - 1) way v → Came old new w (act_of way c) v
  goes_call old new v has busy t = subst (λ (n : ℕ). Came old new w (act_of way n) v) (number_is c number.0) (acts_call old new w v (c - 1) way h (sym works ∙ has) busy t)

-- the clock, and an event more
clocked : (u w : WorldAt) → u ≡ w → (es : List Event) (m : ℤ) → es ≡ u.events ++ event.Clock m ∷ [] → record { script = u.script; client_slots = u.client_slots; flights = u.flights; events = es; clock = m } ≡ with_event (at_moment w m) (event.Clock m)
clocked u w same es m came =
    subst (λ (x : WorldAt). record { script = x.script; client_slots = x.client_slots; flights = x.flights; events = es; clock = m } ≡ with_event (at_moment w m) (event.Clock m)) (sym same)
    (λ k. record { script = w.script; client_slots = w.client_slots; flights = w.flights; events = (came ∙ ap (λ (x : WorldAt). x.events ++ event.Clock m ∷ []) same) k; clock = m })

pub goes_clock : (stores : Attached) (u w : WorldAt) → u ≡ w → (es : List Event) (a : Act) (m : ℤ) → IsWorld w → a ≡ act.Clock m → CanAct w.script a → es ≡ u.events ++ event.Clock m ∷ [] → Came stores stores w a (record { script = u.script; client_slots = u.client_slots; flights = u.flights; events = es; clock = m })
goes_clock stores u w same es a m h is can came =
    subst (λ (x : Act). Came stores stores w x (record { script = u.script; client_slots = u.client_slots; flights = u.flights; events = es; clock = m })) (sym is)
    (acts_clock stores w (record { script = u.script; client_slots = u.client_slots; flights = u.flights; events = es; clock = m }) m h (subst (CanAct w.script) is can) (clocked u w same es m came))
