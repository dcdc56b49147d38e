-- What an event does to the keys that its request asks to change, whatever became of the call.
use Rattle.std.proofs.Common.{◌≡◌, ℕ, ◌+◌, Bool, true, false, List, [], ◌∷◌, map, Option, Some, None, ◌⊎◌, inl, inr, refl, sym, ap, subst, ◌∙◌, arith}
use Rattle.std.specs.Prelude.{◌&&◌, not, if◌then◌else◌, is_none}
use Rattle.std.specs.Option.{option_map_or}
use Rattle.std.specs.List.{AllByRecursion}
use Rattle.law_protocol.specs.Types.{Condition, Event, How, Key, Place, Record, Reply, Request, TableName}
use Rattle.sdb_types.specs.declared.record.Put.{Put}
use Rattle.sdb_types.specs.declared.record.Request.TheVariants as ask
use Rattle.sdb_types.specs.declared.record.Reply.TheVariants as reply
use Rattle.sdb_types.specs.Contents.{Contents, IsBatch, record_at, holds, reply_to, after, put_keys, sent, table_of_puts, is_met_by, unmet_from, all_put, left_at, batch_reply}
use Rattle.sdb_types.specs.Order.{same_key, are_distinct}
use Rattle.sdb_types.proofs.Public.{all_put_at, clash, left_outside, none_some, once_parts, or_neither, same_key_self, same_key_turned}
use Rattle.sdb_model.specs.declared.event.Event.TheVariants as event
use Rattle.sdb_model.specs.Rows.{Name}
use Rattle.sdb_model.specs.Events.{Contact, StoreContents, Effect, EffectOf, contact_of, stored_at, IsCall}
use Rattle.law_protocol.specs.History.{has_key}
use Rattle.law_protocol.specs.Lawful.{IsCallOf}
use Rattle.law_protocol.specs.Trace.{takes_effect_at, take_effect, has_effect}
use Rattle.law_protocol.specs.Changed.{Change, Changed, AreSelfless, change_of, changes_of, changes_in, keys_of}
use Rattle.law_protocol.proofs.Each.{all_mapped, sent_changes}
use Rattle.law_protocol.proofs.Effects.{AtCall, at_call}
use Rattle.law_protocol.proofs.Observed.{read_leaves}
use Rattle.law_protocol.proofs.Writes.{IsWritten, put_written, delete_written}
use Rattle.sdb_types.specs.Replies.{is_answered, is_refused}
use Rattle.law_protocol.proofs.Calls.{all_in_table}

-- what an event asks of a store, and the reply
pub record Asks (e : Event) (q : Request) (r : Reply) : Type 0 where
  pub store : Name
  pub how : How
  pub is : contact_of e ≡ Some (record { store = store; request = q; how = how; reply = r })

pub called : (e : Event) (client : ℕ) (q : Request) (r : Reply) → IsCallOf e client q r → Asks e q r
called e client q r c = record { store = c.store; how = c.how; is = ap contact_of c.call }

-- the condition of a change failed
abbrev pub SomeUnmet : List Place → List StoreContents → List Change → Type 0
SomeUnmet places before [] = ⊥
SomeUnmet places before (c ∷ cs) = (holds c.condition (stored_at places before c.key) ≡ false) ⊎ SomeUnmet places before cs

-- It changed all or none. Applied says that it changed them, a refusal that a condition failed, out of memory that it changed none.
pub record HasChanged (places : List Place) (cs : List Change) (r : Reply) (before now : List StoreContents) (done : Bool) : Type 0 where
  pub changed : Changed places cs before now done
  pub applied : r ≡ reply.Applied → done ≡ true
  pub unmet : is_refused r ≡ true → SomeUnmet places before cs
  pub wanting : r ≡ reply.NoMemory → done ≡ false

-- where a write took effect its condition held
took_held : (places : List Place) (k : Key) (c : Condition) (before now : List StoreContents) → takes_effect_at places k c before now ≡ true → holds c (stored_at places before k) ≡ true
took_held places k c before now h = by (holds c (stored_at places before k)) (not (holds c (stored_at places now k))) h
  where
    by : (a b : Bool) → a && b ≡ true → a ≡ true
    by true b h = refl
    by false b h = h

-- a request for one change
one_changed : (places : List Place) (x : Change) (r : Reply) (before now : List StoreContents) (done : Bool) → IsWritten places x.key x.condition x.left r before now → takes_effect_at places x.key x.condition before now ≡ done → HasChanged places (x ∷ []) r before now done
one_changed places x r before now done written took = record {
  changed = record {
    held = λ d. (took_held places x.key x.condition before now (took ∙ d), tt);
    left = λ d. (written.at x.key ∙ rw (took ∙ d) (rw (same_key_self x.key) refl), tt);
    kept = λ n k. written.at k ∙ rw (took ∙ n) refl;
    others = λ k h. written.at k ∙ rw h (none (takes_effect_at places x.key x.condition before now) (stored_at places before k));
  };
  applied = λ e. sym took ∙ written.applied e;
  unmet = λ e. inl (written.unmet e);
  wanting = λ e. sym took ∙ written.wanting e;
}
  where
    none : (b : Bool) (y : Option Record) → (if b && false then x.left else y) ≡ y
    none true y = refl
    none false y = refl

-- what was refused was answered
refused_answered : (r : Reply) → is_refused r ≡ true → is_answered r ≡ true
refused_answered (reply.NotMet found) h = refl
refused_answered (reply.NotAll place there) h = refl
refused_answered (reply.Found found) h = h
refused_answered (reply.Rows rows) h = h
refused_answered reply.Applied h = refl
refused_answered reply.Fault h = h
refused_answered reply.NoMemory h = h

none_changed : (places : List Place) (q : Request) (r : Reply) (before now : List StoreContents) (done : Bool) → AtCall places q r before now → ((m : Contents) → after q m ≡ m) → ((m : Contents) → is_answered (reply_to q m) ≡ false) → false ≡ done → HasChanged places [] r before now done
none_changed places q r before now done a same replies took = record {
  changed = record {
    held = λ d. tt;
    left = λ d. tt;
    kept = λ n k. read_leaves places q r before now a same k;
    others = λ k h. read_leaves places q r before now a same k;
  };
  applied = λ e. clash (sym (ap is_answered e) ∙ none);
  unmet = λ e. clash (sym (refused_answered r e) ∙ none);
  wanting = λ e. sym took;
}
  where
    none : is_answered r ≡ false
    none = elim a.moved [
      | inl x ↦ elim x.1 [ inl e ↦ ap is_answered e ∙ replies a.held | inr e ↦ ap is_answered e ]
      | inr x ↦ elim x.1 [ inl e ↦ ap is_answered e | inr e ↦ ap is_answered e ]
    ]

unchanged : (places : List Place) (before now : List StoreContents) (done : Bool) → now ≡ before → Changed places [] before now done
unchanged places before now done same = record { held = λ d. tt; left = λ d. tt; kept = λ n k. ap (λ x. stored_at places x k) same; others = λ k h. ap (λ x. stored_at places x k) same }

---- a batch

no_applied_memory : {A : Type 0} → reply.NoMemory ≡ reply.Applied → A
no_applied_memory e = absurd (cc)

no_applied_fault : {A : Type 0} → reply.Fault ≡ reply.Applied → A
no_applied_fault e = absurd (cc)

no_applied_all : {A : Type 0} (k : ℕ) (found : Option Record) → reply.NotAll k found ≡ reply.Applied → A
no_applied_all k found e = absurd (cc)

no_memory_fault : {A : Type 0} → reply.Fault ≡ reply.NoMemory → A
no_memory_fault e = absurd (cc)

no_memory_applied : {A : Type 0} → reply.Applied ≡ reply.NoMemory → A
no_memory_applied e = absurd (cc)

not_both : (b : Bool) → b && not b ≡ false
not_both true = refl
not_both false = refl

-- where nothing of it was changed
batch_kept : (places : List Place) (b : List Put) (r : Reply) (before now : List StoreContents) (done : Bool) (a : AtCall places (ask.PutAll b) r before now) → take_effect places (map change_of b) before now ≡ done → a.left ≡ a.held
    → (r ≡ reply.Applied → done ≡ true) → (is_refused r ≡ true → SomeUnmet places before (map change_of b)) → HasChanged places (map change_of b) r before now done
batch_kept places b r before now done a took same applied unmet = record {
  changed = record {
    held = λ d. clash (sym d ∙ undone);
    left = λ d. clash (sym d ∙ undone);
    kept = λ n k. still k;
    others = λ k h. still k;
  };
  applied = applied;
  unmet = unmet;
  wanting = λ e. undone;
}
  where
    still : (k : Key) → stored_at places now k ≡ stored_at places before k
    still k = elim (a.there k) [ inl x ↦ x.1 ∙ ap (λ m. record_at m k) same ∙ sym x.0 | inr x ↦ x.0 ]

    none : (cs : List Change) → take_effect places cs before now ≡ false
    none [] = refl
    none (c ∷ cs) = ap (λ x. holds c.condition (stored_at places before c.key) && not (holds c.condition x)) (still c.key) ∙ not_both (holds c.condition (stored_at places before c.key))

    undone : done ≡ false
    undone = sym took ∙ none (map change_of b)

-- each condition holds where none fails
met_all : (b : List Put) (n : ℕ) (m : Contents) → unmet_from n b m ≡ None → AllByRecursion (λ (p : Put). holds p.condition (record_at m p.rec.key) ≡ true) b
met_all [] n m h = tt
met_all (p ∷ ps) n m h = by (is_met_by m p) refl h (met_all ps (n + 1) m)
  where
    by : (x : Bool) → is_met_by m p ≡ x → (if x then unmet_from (n + 1) ps m else Some (n, record_at m p.rec.key)) ≡ None → (unmet_from (n + 1) ps m ≡ None → AllByRecursion (λ (q : Put). holds q.condition (record_at m q.rec.key) ≡ true) ps) → AllByRecursion (λ (q : Put). holds q.condition (record_at m q.rec.key) ≡ true) (p ∷ ps)
    by true e u rest = (e, rest u)
    by false e u rest = none_some (n, record_at m p.rec.key) (sym u)

-- and one fails where one is named
some_fails : (places : List Place) (before : List StoreContents) (m : Contents) (b : List Put) (n : ℕ) (f : ℕ × Option Record) → AllByRecursion (λ (p : Put). stored_at places before p.rec.key ≡ record_at m p.rec.key) b → unmet_from n b m ≡ Some f
    → SomeUnmet places before (map change_of b)
some_fails places before m [] n f here h = none_some f h
some_fails places before m (p ∷ ps) n f here h = by (is_met_by m p) refl h (some_fails places before m ps (n + 1) f here.1)
  where
    by : (x : Bool) → is_met_by m p ≡ x → (if x then unmet_from (n + 1) ps m else Some (n, record_at m p.rec.key)) ≡ Some f → (unmet_from (n + 1) ps m ≡ Some f → SomeUnmet places before (map change_of ps)) → SomeUnmet places before (map change_of (p ∷ ps))
    by true e u rest = inr (rest u)
    by false e u rest = inl (ap (holds p.condition) here.0 ∙ e)

-- a put of a batch whose keys differ is what is left at its key
left_own : (b : List Put) (old : Key → Option Record) → are_distinct (put_keys b) ≡ true → AllByRecursion (λ (p : Put). left_at b p.rec.key (old p.rec.key) ≡ Some p.rec) b
left_own [] old once = tt
left_own (p ∷ ps) old once =
    let parts = once_parts (has_key (put_keys ps) p.rec.key) (are_distinct (put_keys ps)) once in
    (ap (λ (b : Bool). if b then Some p.rec else left_at ps p.rec.key (old p.rec.key)) (same_key_self p.rec.key), later ps parts.0 (left_own ps old parts.1))
  where
    later : (qs : List Put) → has_key (put_keys qs) p.rec.key ≡ false → AllByRecursion (λ (q : Put). left_at ps q.rec.key (old q.rec.key) ≡ Some q.rec) qs → AllByRecursion (λ (q : Put). left_at (p ∷ ps) q.rec.key (old q.rec.key) ≡ Some q.rec) qs
    later [] out all = tt
    later (q ∷ qs) out all =
        let apart = or_neither (has_key (put_keys qs) p.rec.key) (same_key p.rec.key q.rec.key) out in
        (ap (λ (b : Bool). if b then Some p.rec else left_at ps q.rec.key (old q.rec.key)) (same_key_turned q.rec.key p.rec.key ∙ apart.1) ∙ all.0, later qs apart.0 all.1)

pub change_keys : (b : List Put) → keys_of (map change_of b) ≡ put_keys b
change_keys [] = refl
change_keys (p ∷ ps) = ap (λ ks. p.rec.key ∷ ks) (change_keys ps)

-- where it was made
batch_made : (places : List Place) (p : Put) (ps : List Put) (r : Reply) (before now : List StoreContents) (done : Bool) (a : AtCall places (ask.PutAll (p ∷ ps)) r before now) → IsBatch (p ∷ ps) → AreSelfless (map change_of (p ∷ ps)) → take_effect places (map change_of (p ∷ ps)) before now ≡ done
    → a.left ≡ after (ask.PutAll (p ∷ ps)) a.held → ((r ≡ reply_to (ask.PutAll (p ∷ ps)) a.held) ⊎ (r ≡ reply.Fault)) → HasChanged places (map change_of (p ∷ ps)) r before now done
batch_made places p ps r before now done a formed fresh took left replied = by (unmet_from 1 (p ∷ ps) a.held) refl left replied
  where
    b : List Put
    b = p ∷ ps

    here : AllByRecursion (λ (q : Put). (stored_at places before q.rec.key ≡ record_at a.held q.rec.key) × (stored_at places now q.rec.key ≡ record_at a.left q.rec.key)) b
    here = each b (all_in_table b formed.one)
      where
        each : (qs : List Put) → AllByRecursion (λ (q : Put). q.rec.key.table ≡ table_of_puts b) qs → AllByRecursion (λ (q : Put). (stored_at places before q.rec.key ≡ record_at a.held q.rec.key) × (stored_at places now q.rec.key ≡ record_at a.left q.rec.key)) qs
        each [] all = tt
        each (q ∷ qs) all = (a.here q.rec.key (ap (λ (t : TableName). t.ns) all.0), each qs all.1)

    before_here : (qs : List Put) → AllByRecursion (λ (q : Put). (stored_at places before q.rec.key ≡ record_at a.held q.rec.key) × (stored_at places now q.rec.key ≡ record_at a.left q.rec.key)) qs → AllByRecursion (λ (q : Put). stored_at places before q.rec.key ≡ record_at a.held q.rec.key) qs
    before_here [] all = tt
    before_here (q ∷ qs) all = (all.0.0, before_here qs all.1)

    made : unmet_from 1 b a.held ≡ None → a.left ≡ all_put b a.held → (r ≡ reply.Applied) ⊎ (r ≡ reply.Fault) → HasChanged places (map change_of b) r before now done
    made met put answered = record {
      changed = record {
        held = λ d. all_mapped change_of (λ c. holds c.condition (stored_at places before c.key) ≡ true) b (held b here (met_all b 1 a.held met));
        left = λ d. all_mapped change_of (λ c. stored_at places now c.key ≡ c.left) b (lefts b here (left_own b (record_at a.held) formed.once));
        kept = λ n k. clash (sym did ∙ n);
        others = λ k h. elim (a.there k) [
          | inl x ↦ x.1 ∙ ap (λ m. record_at m k) put ∙ all_put_at b a.held k formed.once ∙ left_outside b k (record_at a.held k) (ap (λ ks. has_key ks k) (sym (change_keys b)) ∙ h) ∙ sym x.0
          | inr x ↦ x.0
        ];
      };
      applied = λ e. did;
      unmet = λ e. elim answered [ inl x ↦ clash (sym e ∙ ap is_refused x) | inr x ↦ clash (sym e ∙ ap is_refused x) ];
      wanting = λ e. elim answered [ inl x ↦ no_memory_applied (sym x ∙ e) | inr x ↦ no_memory_fault (sym x ∙ e) ];
    }
      where
        held : (qs : List Put) → AllByRecursion (λ (q : Put). (stored_at places before q.rec.key ≡ record_at a.held q.rec.key) × (stored_at places now q.rec.key ≡ record_at a.left q.rec.key)) qs → AllByRecursion (λ (q : Put). holds q.condition (record_at a.held q.rec.key) ≡ true) qs
            → AllByRecursion (λ (q : Put). holds q.condition (stored_at places before q.rec.key) ≡ true) qs
        held [] at all = tt
        held (q ∷ qs) at all = (ap (holds q.condition) at.0.0 ∙ all.0, held qs at.1 all.1)

        lefts : (qs : List Put) → AllByRecursion (λ (q : Put). (stored_at places before q.rec.key ≡ record_at a.held q.rec.key) × (stored_at places now q.rec.key ≡ record_at a.left q.rec.key)) qs → AllByRecursion (λ (q : Put). left_at b q.rec.key (record_at a.held q.rec.key) ≡ Some q.rec) qs
            → AllByRecursion (λ (q : Put). stored_at places now q.rec.key ≡ Some q.rec) qs
        lefts [] at all = tt
        lefts (q ∷ qs) at all = (at.0.1 ∙ ap (λ m. record_at m q.rec.key) put ∙ all_put_at b a.held q.rec.key formed.once ∙ all.0, lefts qs at.1 all.1)

        first_held : holds p.condition (stored_at places before p.rec.key) ≡ true
        first_held = (held b here (met_all b 1 a.held met)).0

        first_left : stored_at places now p.rec.key ≡ Some p.rec
        first_left = (lefts b here (left_own b (record_at a.held) formed.once)).0

        did : done ≡ true
        did = sym took ∙ ap (λ x. x && not (holds p.condition (stored_at places now p.rec.key))) first_held ∙ ap (λ x. not (holds p.condition x)) first_left ∙ ap not fresh.0

    by : (o : Option (ℕ × Option Record)) → unmet_from 1 b a.held ≡ o → a.left ≡ (if is_none o then all_put b a.held else a.held) → ((r ≡ batch_reply o) ⊎ (r ≡ reply.Fault)) → HasChanged places (map change_of b) r before now done
    by None e put answered = made e put answered
    by (Some f) e same answered =
        batch_kept places b r before now done a took same
        (λ h. elim answered [ inl x ↦ no_applied_all f.0 f.1 (sym x ∙ h) | inr x ↦ no_applied_fault (sym x ∙ h) ])
        (λ h. some_fails places before a.held b 1 f (before_here b here) e)

performed : (places : List Place) (store : Name) (q : Request) (how : How) (r : Reply) (before now : List StoreContents) (done : Bool) → IsCall places store q how r before now → AreSelfless (changes_of q) → take_effect places (changes_of q) before now ≡ done → HasChanged places (changes_of q) r before now done
performed places store (ask.Get key) how r before now done call fresh took = none_changed places (ask.Get key) r before now done (at_call places store (ask.Get key) how r before now call) (λ m. refl) (λ m. refl) took
performed places store (ask.Scan span) how r before now done call fresh took = none_changed places (ask.Scan span) r before now done (at_call places store (ask.Scan span) how r before now call) (λ m. refl) (λ m. refl) took
performed places store (ask.PutIf rec c) how r before now done call fresh took = one_changed places (record { key = rec.key; left = Some rec; condition = c }) r before now done (put_written places store rec c how r before now call fresh.0) took
performed places store (ask.DeleteIf key c) how r before now done call fresh took = one_changed places (record { key = key; left = None; condition = c }) r before now done (delete_written places store key c how r before now call fresh.0) took
performed places store (ask.PutAll []) how r before now done call fresh took = none_changed places (ask.PutAll []) r before now done (at_call places store (ask.PutAll []) how r before now call) (λ m. refl) (λ m. absurd (omega (arith, call.formed.some))) took
performed places store (ask.PutAll (p ∷ ps)) how r before now done call fresh took =
    elim a.moved [
      | inl x ↦ batch_made places p ps r before now done a call.formed fresh took x.0 x.1
      | inr x ↦ batch_kept places (p ∷ ps) r before now done a took x.0 (λ e. elim x.1 [ inl y ↦ no_applied_memory (sym y ∙ e) | inr y ↦ no_applied_fault (sym y ∙ e) ]) (λ e. elim x.1 [ inl y ↦ clash (sym e ∙ ap is_refused y) | inr y ↦ clash (sym e ∙ ap is_refused y) ])
    ]
  where
    a : AtCall places (ask.PutAll (p ∷ ps)) r before now
    a = at_call places store (ask.PutAll (p ∷ ps)) how r before now call

-- An event changes all that its request asks to change, or nothing.
pub changes : (places : List Place) (e : Event) (q : Request) (r : Reply) (before now : List StoreContents) (done : Bool) → Asks e q r → Effect places e before now → AreSelfless (changes_of q) → has_effect places e before now ≡ done → HasChanged places (changes_of q) r before now done
changes places e q r before now done asks effect fresh is =
    performed places asks.store q asks.how r before now done (subst (λ o. EffectOf places o before now) asks.is effect) fresh (sym (ap (λ (o : Option Contact). take_effect places (option_map_or (λ (c : Contact). changes_of c.request) o []) before now) asks.is) ∙ is)

-- the same, of the event alone
pub event_changes : (places : List Place) (e : Event) (before now : List StoreContents) → Effect places e before now → AreSelfless (changes_in e) → Changed places (changes_in e) before now (has_effect places e before now)
event_changes places (event.Call client store q how r answer) before now effect fresh = (performed places store q how r before now (take_effect places (changes_of q) before now) effect fresh refl).changed
event_changes places (event.Take client text answer) before now effect fresh = unchanged places before now false effect
event_changes places (event.Stop client) before now effect fresh = unchanged places before now false effect
event_changes places (event.Clock moment) before now effect fresh = unchanged places before now false effect
event_changes places (event.Idle client) before now effect fresh = unchanged places before now false effect
event_changes places (event.Alter table column kind altered) before now effect fresh = unchanged places before now false effect
event_changes places (event.Land number store q how r) before now effect fresh = (performed places store q how r before now (take_effect places (changes_of q) before now) effect fresh refl).changed

---- writes

-- puts that one request makes
pub puts_call : (places : List Place) (e : Event) (b : List Put) (r : Reply) (before now : List StoreContents) (done : Bool) → Asks e (sent b) r → Effect places e before now → has_effect places e before now ≡ done → AllByRecursion (λ (p : Put). holds p.condition (Some p.rec) ≡ false) b
    → HasChanged places (map change_of b) r before now done
puts_call places e b r before now done asks effect is fresh =
    subst (λ cs. HasChanged places cs r before now done) (sent_changes b)
    (changes places e (sent b) r before now done asks effect (subst AreSelfless (sym (sent_changes b)) (all_mapped change_of (λ c. holds c.condition c.left ≡ false) b fresh)) is)

pub put_call : (places : List Place) (e : Event) (rec : Record) (c : Condition) (r : Reply) (before now : List StoreContents) (done : Bool) (k : Key) → Asks e (ask.PutIf rec c) r → Effect places e before now → has_effect places e before now ≡ done → rec.key ≡ k → holds c (Some rec) ≡ false
    → HasChanged places (record { key = k; left = Some rec; condition = c } ∷ []) r before now done
put_call places e rec c r before now done k asks effect is key fresh = subst (λ y. HasChanged places (record { key = y; left = Some rec; condition = c } ∷ []) r before now done) key (changes places e (ask.PutIf rec c) r before now done asks effect (fresh, tt) is)

pub delete_call : (places : List Place) (e : Event) (key : Key) (c : Condition) (r : Reply) (before now : List StoreContents) (done : Bool) → Asks e (ask.DeleteIf key c) r → Effect places e before now → has_effect places e before now ≡ done → holds c None ≡ false
    → HasChanged places (record { key = key; left = None; condition = c } ∷ []) r before now done
delete_call places e key c r before now done asks effect is fresh = changes places e (ask.DeleteIf key c) r before now done asks effect (fresh, tt) is
