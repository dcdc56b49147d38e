-- No request of a lawful event asks for a change that meets its own condition.
use Rattle.std.proofs.Common.{◌≡◌, ℕ, true, false, List, [], ◌∷◌, map, Option, Some, None, refl, sym, ap, subst, ◌∙◌}
use Rattle.std.specs.List.{AllByRecursion}
use Rattle.std.specs.Option.{option_map, option_map_or}
use Rattle.law_protocol.specs.Types.{Event, Key, Place, Request, State}
use Rattle.sdb_types.specs.declared.record.Put.{Put}
use Rattle.sdb_types.specs.declared.record.Condition.TheVariants as condition
use Rattle.sdb_types.specs.declared.record.Request.TheVariants as ask
use Rattle.sdb_types.specs.Contents.{holds, sent}
use Rattle.sdb_types.proofs.Public.{clash}
use Rattle.sdb_record.specs.declared.coordinator.Decision.TheVariants.{Committed, Aborted}
use Rattle.sdb_record.specs.Meta.{is_committed}
use Rattle.sdb_record.specs.Rolls.{undo}
use Rattle.sdb_model.specs.Calls.{is_read}
use Rattle.sdb_model.specs.Events.{Contact, StoreContents, contact_of}
use Rattle.law_protocol.specs.Plan.{Plan, written}
use Rattle.law_protocol.specs.History.{Action, Other, Begins, Takes, Prepares, Checks, Decides, Aborts, Rolls, Removes, Ends, Stops, History, base_of}
use Rattle.law_protocol.specs.Lawful.{Labelled, MayOccur, id}
use Rattle.law_protocol.specs.Trace.{closing, history, has_effect}
use Rattle.law_protocol.specs.Records.{record_prepared_by, record_left_by}
use Rattle.law_protocol.specs.Flight.{HasForm, prepare_at, roll_forward_at}
use Rattle.law_protocol.specs.Explained.{IsRunOf}
use Rattle.law_protocol.specs.Changed.{Changed, AreSelfless, change_of, changes_of, changes_in}
use Rattle.law_protocol.proofs.Canon.{held_open, firm_committed, not_open_version}
use Rattle.law_protocol.proofs.Changes.{event_changes}
use Rattle.law_protocol.proofs.Each.{all_mapped, each_key, sent_changes, weaker}
use Rattle.law_protocol.proofs.Settled.{Knows}
use Rattle.law_protocol.proofs.Moves.{fresh_held}
use Rattle.law_protocol.proofs.Landing.{form_of}
use Rattle.law_protocol.proofs.Whole.{whole}

undoes : (plan : ℕ → Plan) (t : ℕ) (k : Key) (s : State) (v : Option ℕ) → is_committed s ≡ false → AreSelfless (changes_of (undo (condition.Version (id t) s) k (option_map (λ u. record_left_by plan u k) v)))
undoes plan t k s None open_state = (refl, tt)
undoes plan t k s (Some u) open_state = (not_open_version (id t) s (record_left_by plan u k) open_state (firm_committed plan u k), tt)

read_selfless : (q : Request) → is_read q ≡ true → AreSelfless (changes_of q)
read_selfless (ask.Get key) h = tt
read_selfless (ask.Scan span) h = tt
read_selfless (ask.PutIf rec c) h = clash (sym h)
read_selfless (ask.DeleteIf key c) h = clash (sym h)
read_selfless (ask.PutAll batch) h = clash (sym h)

-- puts each of which doesn't meet its own condition
puts_selfless : (q : Request) (b : List Put) → q ≡ sent b → AllByRecursion (λ (p : Put). holds p.condition (Some p.rec) ≡ false) b → AreSelfless (changes_of q)
puts_selfless q b is all = subst AreSelfless (sym (ap changes_of is ∙ sent_changes b)) (all_mapped change_of (λ c. holds c.condition c.left ≡ false) b all)

form_selfless : (plan : ℕ → Plan) (q : Request) (action : Action) → HasForm plan q action → AreSelfless (changes_of q)
form_selfless plan q Other f = read_selfless q f
form_selfless plan q (Checks t i) f = read_selfless q f
form_selfless plan q (Prepares t ks word) f =
    puts_selfless q (map (prepare_at plan t) ks) f.asks (all_mapped (prepare_at plan t) _ ks (each_key _ ks (λ k among. fresh_held (option_map id (base_of (written (plan t) k))) (record_prepared_by plan t k) (held_open plan t k))))
form_selfless plan q (Decides t word) f = subst (λ x. AreSelfless (changes_of x)) (sym f) (refl, tt)
form_selfless plan q (Aborts t moment word) f = subst (λ x. AreSelfless (changes_of x)) (sym f) (refl, tt)
form_selfless plan q (Rolls t ks Committed) f =
    puts_selfless q (map (roll_forward_at plan t) f.found) f.asks
    (all_mapped (roll_forward_at plan t) _ f.found (weaker _ _ f.found (λ x loose. not_open_version (id t) x.1 (record_left_by plan t x.0) loose (firm_committed plan t x.0)) f.unresolved))
form_selfless plan q (Rolls t [] Aborted) f = absurd f
form_selfless plan q (Rolls t (k ∷ []) Aborted) f = subst (λ x. AreSelfless (changes_of x)) (sym f.2) (undoes plan t k f.0 (base_of (written (plan t) k)) f.1)
form_selfless plan q (Rolls t (k ∷ i ∷ ks) Aborted) f = absurd f
form_selfless plan q (Removes k t) f = subst (λ x. AreSelfless (changes_of x)) (sym f) (refl, tt)
form_selfless plan q (Begins t c) f = absurd f
form_selfless plan q (Takes t) f = absurd f
form_selfless plan q (Ends t) f = absurd f
form_selfless plan q (Stops c) f = absurd f

selfless : (plan : ℕ → Plan) (w : History) (past : List Labelled) (e : Event) (r : Action) → Knows plan w past → MayOccur plan past e r → AreSelfless (changes_in e)
selfless plan w past e r knows o = by (contact_of e) refl
  where
    by : (c : Option Contact) → contact_of e ≡ c → AreSelfless (option_map_or (λ (c : Contact). changes_of c.request) c [])
    by None h = tt
    by (Some c) h = form_selfless plan c.request r (form_of plan w past e r c.request c.reply knows o (record { store = c.store; how = c.how; is = h }))

-- An event of a lawful run changed all that its request asks to change, or nothing.
pub lawful_changes : (plan : ℕ → Plan) (places : List Place) (opening : List StoreContents) (past : List Labelled) (p : Labelled) (ss : List (List StoreContents)) (s : List StoreContents) → IsRunOf plan places opening (p ∷ past) (s ∷ ss) → Changed places (changes_in p.event) (closing opening ss) s (has_effect places p.event (closing opening ss) s)
lawful_changes plan places opening past p ss s r =
    let i = whole plan places opening past ss r.empty r.lawful.0 r.traced.0 in
    event_changes places p.event (closing opening ss) s r.traced.1 (selfless plan (history plan places opening past ss) past p.event p.action i.knows r.lawful.1)
