-- What one call does to what is at each key.
use Rattle.std.proofs.Common.{◌≡◌, ◌≢◌, Bool, true, false, cond, List, [], ◌∷◌, Option, Some, None, ◌⊎◌, inl, inr, refl, sym, ap, ◌∙◌, option_map}
use Rattle.std.specs.Prelude.{find, ◌&&◌, if◌then◌else◌}
use Rattle.std.specs.Option.{option_map_or}
use Rattle.std.specs.FinMap.{get, insert, remove, get-insert, get-remove}
use Rattle.law_protocol.specs.Types.{Condition, How, Key, Place, Record, Reply, Request}
use Rattle.sdb_types.specs.declared.record.Request.TheVariants as ask
use Rattle.sdb_types.specs.declared.record.Reply.TheVariants as reply
use Rattle.sdb_types.specs.Contents.{Contents, IsWellFormed, record_at, record_of, holds, reply_to, after}
use Rattle.sdb_types.proofs.Public.{key_total, same_key_decides}
use Rattle.sdb_types.specs.Order.{same_key}
use Rattle.sdb_record.proofs.Public.{same_name-itself, same_name-true}
use Rattle.sdb_model.specs.declared.event.How.TheVariants.{Seen, Lost, Discarded, Delayed, Broken}
use Rattle.sdb_model.specs.Rows.{Name, same_name}
use Rattle.sdb_model.specs.Events.{StoreContents, contents_under, with_contents, store_of, first_name, stored_at, table_asked, IsPerformed, IsCall}

---- contents

pub at_insert : (m : Contents) (r : Record) (k : Key) → record_at (insert m r.key r.columns) k ≡ (if same_key k r.key then Some r else record_at m k)
unfolding same_key
at_insert m r k = elim (same_key_decides k r.key) [
  | inl e ↦ rw e.0 (rw (get-insert key_total m r.key r.columns k) (rw e.0 (ap (λ x. Some (record_of (x, r.columns))) e.1)))
  | inr n ↦ rw n.0 (ap (option_map (λ columns. record_of (k, columns))) (get-insert key_total m r.key r.columns k ∙ ap (λ b. cond b (Some r.columns) (get m k)) n.0))
]

pub at_remove : (m : Contents) (key k : Key) → record_at (remove m key) k ≡ (if same_key k key then None else record_at m k)
unfolding same_key
at_remove m key k = elim (same_key_decides k key) [
  | inl e ↦ rw e.0 (ap (option_map (λ columns. record_of (k, columns))) (get-remove key_total m key k ∙ ap (λ b. cond b None (get m k)) e.0))
  | inr n ↦ rw n.0 (ap (option_map (λ columns. record_of (k, columns))) (get-remove key_total m key k ∙ ap (λ b. cond b None (get m k)) n.0))
]

-- one write: where its condition holds, what it leaves at its key, and everything else as it was
pub after_put : (r : Record) (c : Condition) (m : Contents) (k : Key) → record_at (after (ask.PutIf r c) m) k ≡ (if holds c (record_at m r.key) && same_key k r.key then Some r else record_at m k)
after_put r c m k = by (holds c (record_at m r.key))
  where
    by : (b : Bool) → record_at (if b then insert m r.key r.columns else m) k ≡ (if b && same_key k r.key then Some r else record_at m k)
    by true = at_insert m r k
    by false = refl

pub after_delete : (key : Key) (c : Condition) (m : Contents) (k : Key) → record_at (after (ask.DeleteIf key c) m) k ≡ (if holds c (record_at m key) && same_key k key then None else record_at m k)
after_delete key c m k = by (holds c (record_at m key))
  where
    by : (b : Bool) → record_at (if b then remove m key else m) k ≡ (if b && same_key k key then None else record_at m k)
    by true = at_remove m key k
    by false = refl

---- contents

pub first_same : (store_contents : List StoreContents) (name : Name) (c : Contents) → first_name (with_contents store_contents name c) ≡ first_name store_contents
first_same [] name c = refl
first_same (s ∷ ss) name c = elim (same_name s.name name) as (λ b. (if b then record { name = s.name; contents = c } else s).name ≡ s.name) [ true ↦ refl | false ↦ refl ]

pub store_same : (places : List Place) (store_contents : List StoreContents) (name : Name) (c : Contents) (ns : Name) → store_of places (with_contents store_contents name c) ns ≡ store_of places store_contents ns
store_same places store_contents name c ns = ap (λ x. option_map_or (λ (p : Place). p.store) (find (λ p. same_name p.ns ns) places) x) (first_same store_contents name c)

same_name_is : (a b : Name) → same_name a b ≡ true → a ≡ b
same_name_is a b e = same_name-true a b e

same_name_self : (a : Name) → same_name a a ≡ true
same_name_self a = same_name-itself a

-- the store of the call
pub held_there : (store_contents : List StoreContents) (name : Name) (c held : Contents) → contents_under store_contents name ≡ Some held → contents_under (with_contents store_contents name c) name ≡ Some c
held_there [] name c held h = absurd (cc)
held_there (s ∷ ss) name c held h = by (held_there ss name c held) (same_name s.name name) refl h
  where
    by : (contents_under ss name ≡ Some held → contents_under (with_contents ss name c) name ≡ Some c) → (b : Bool) → same_name s.name name ≡ b → option_map (λ (x : StoreContents). x.contents) (cond b (Some s) (find (λ x. same_name x.name name) ss)) ≡ Some held → contents_under (with_contents (s ∷ ss) name c) name ≡ Some c
    by rest true e f = rw e (rw e refl)
    by rest false e f = rw e (rw e (rest f))

-- every other store
pub held_elsewhere : (store_contents : List StoreContents) (name other : Name) (c : Contents) → (name ≢ other) → contents_under (with_contents store_contents name c) other ≡ contents_under store_contents other
held_elsewhere [] name other c n = refl
held_elsewhere (s ∷ ss) name other c n = by (held_elsewhere ss name other c n) (same_name s.name name) refl (same_name s.name other) refl
  where
    by : contents_under (with_contents ss name c) other ≡ contents_under ss other → (b : Bool) → same_name s.name name ≡ b → (d : Bool) → same_name s.name other ≡ d → contents_under (with_contents (s ∷ ss) name c) other ≡ contents_under (s ∷ ss) other
    by rest true e true f = absurd (n (sym (same_name_is s.name name e) ∙ same_name_is s.name other f))
    by rest true e false f = rw e (rw f rest)
    by rest false e true f = rw e (rw f refl)
    by rest false e false f = rw e (rw f rest)

---- one call

-- what becomes of its store, and what is answered
moved : (q : Request) (how : How) (r : Reply) (held left : Contents) → IsPerformed q how r held left
    → ((left ≡ after q held) × ((r ≡ reply_to q held) ⊎ (r ≡ reply.Fault))) ⊎ ((left ≡ held) × ((r ≡ reply.NoMemory) ⊎ (r ≡ reply.Fault)))
moved q Seen r held left p = elim p [
  | inl e ↦ inl (sym (ap (λ x. x.1) e), inl (sym (ap (λ x. x.0) e)))
  | inr e ↦ inr (e.1, inl e.0)
]
moved q Lost r held left p = inl (p.1, inr p.0)
moved q Discarded r held left p = inr (p.1, inr p.0)
moved q Delayed r held left p = inr (p.1, inr p.0)
moved q Broken r held left p = elim p.1 [
  | inl e ↦ inr (e, inr p.0)
  | inr e ↦ inl (e, inr p.0)
]

-- what is at a key is what the call's store has there, before and after, or the call leaves it as it was
pub record AtCall (places : List Place) (q : Request) (r : Reply) (before now : List StoreContents) : Type 0 where
  pub formed : IsWellFormed q
  pub held : Contents
  pub left : Contents
  pub moved : ((left ≡ after q held) × ((r ≡ reply_to q held) ⊎ (r ≡ reply.Fault))) ⊎ ((left ≡ held) × ((r ≡ reply.NoMemory) ⊎ (r ≡ reply.Fault)))
  pub here : (k : Key) → k.table.ns ≡ (table_asked q).ns → (stored_at places before k ≡ record_at held k) × (stored_at places now k ≡ record_at left k)
  pub there : (k : Key) → ((stored_at places before k ≡ record_at held k) × (stored_at places now k ≡ record_at left k)) ⊎ ((stored_at places now k ≡ stored_at places before k) × (k.table.ns ≢ (table_asked q).ns))

same_name_tells : (a b : Name) → (a ≡ b) ⊎ (a ≢ b)
same_name_tells a b = by (same_name a b) refl
  where
    by : (x : Bool) → same_name a b ≡ x → (a ≡ b) ⊎ (a ≢ b)
    by true e = inl (same_name_is a b e)
    by false e = inr (λ same. no (sym e ∙ ap (same_name a) (sym same) ∙ same_name_self a))
      where
        no : false ≡ true → ⊥
        no x = absurd (cc)

now_at : (places : List Place) (store : Name) (q : Request) (how : How) (r : Reply) (before now : List StoreContents) (c : IsCall places store q how r before now) (k : Key) → stored_at places now k ≡ option_map_or (λ m. record_at m k) (contents_under (with_contents before store c.left) (store_of places before k.table.ns)) None
now_at places store q how r before now c k = ap (λ s. stored_at places s k) c.others ∙ ap (λ n. option_map_or (λ m. record_at m k) (contents_under (with_contents before store c.left) n) None) (store_same places before store c.left k.table.ns)

-- in the call's store
pub stands_in_store : (places : List Place) (store : Name) (q : Request) (how : How) (r : Reply) (before now : List StoreContents) (c : IsCall places store q how r before now) (k : Key) → store ≡ store_of places before k.table.ns → (stored_at places before k ≡ record_at c.held k) × (stored_at places now k ≡ record_at c.left k)
stands_in_store places store q how r before now c k e = (
  ap (λ (n : Name). option_map_or (λ m. record_at m k) (contents_under before n) None) (sym e) ∙ ap (λ (x : Option Contents). option_map_or (λ m. record_at m k) x None) c.found,
  now_at places store q how r before now c k ∙ ap (λ (n : Name). option_map_or (λ m. record_at m k) (contents_under (with_contents before store c.left) n) None) (sym e) ∙ ap (λ (x : Option Contents). option_map_or (λ m. record_at m k) x None) (held_there before store c.left c.held c.found),
)

stands_elsewhere : (places : List Place) (store : Name) (q : Request) (how : How) (r : Reply) (before now : List StoreContents) (c : IsCall places store q how r before now) (k : Key) → store ≢ store_of places before k.table.ns → stored_at places now k ≡ stored_at places before k
stands_elsewhere places store q how r before now c k n = now_at places store q how r before now c k ∙ ap (λ (x : Option Contents). option_map_or (λ m. record_at m k) x None) (held_elsewhere before store (store_of places before k.table.ns) c.left n)

-- in the call's store, or in another
pub stands_anywhere : (places : List Place) (store : Name) (q : Request) (how : How) (r : Reply) (before now : List StoreContents) (c : IsCall places store q how r before now) (k : Key) → ((stored_at places before k ≡ record_at c.held k) × (stored_at places now k ≡ record_at c.left k)) ⊎ ((stored_at places now k ≡ stored_at places before k) × (k.table.ns ≢ (table_asked q).ns))
stands_anywhere places store q how r before now c k = elim (same_name_tells store (store_of places before k.table.ns)) [
  | inl e ↦ inl (stands_in_store places store q how r before now c k e)
  | inr n ↦ inr (stands_elsewhere places store q how r before now c k n, λ e. n (c.placed ∙ ap (store_of places before) (sym e)))
]

pub at_call : (places : List Place) (store : Name) (q : Request) (how : How) (r : Reply) (before now : List StoreContents) → IsCall places store q how r before now → AtCall places q r before now
at_call places store q how r before now c = record {
  formed = c.formed;
  held = c.held;
  left = c.left;
  moved = moved q how r c.held c.left c.performed;
  here = λ k e. stands_in_store places store q how r before now c k (c.placed ∙ ap (store_of places before) (sym e));
  there = stands_anywhere places store q how r before now c;
}
