-- What a request puts and a reply shows, one case after the other.
use Rattle.std.proofs.Common.{◌≡◌, ◌⊎◌, ◌<◌, ℕ, Bool, true, false, List, [], ◌∷◌, Option, Some, None, inl, inr, refl, sym, ap, subst, ◌∙◌, arith}
use Rattle.std.specs.Prelude.{◌&&◌, ◌||◌, map, Contains}
use Rattle.std.specs.List.{list_all}
use Rattle.std.specs.Option.{option_map_or}
use Rattle.sdb_model.specs.Types.{Condition, Key, Put, Record, Reply, Request, TxId}
use Rattle.sdb_types.specs.declared.record.Reply.TheVariants as reply
use Rattle.sdb_types.specs.declared.record.Request.TheVariants as ask
use Rattle.sdb_types.specs.Order.{in_one_partition, same_key, same_partition, table_cmp}
use Rattle.sdb_types.specs.Exact.{equal_of}
use Rattle.sdb_types.specs.Contents.{CanAnswer, IsWellFormed, put_at, put_keys, table_of_puts}
use Rattle.sdb_types.proofs.Public.{and_first, and_second, clash, none_some, one_of, same_key_exact, some_is, table_exact}
use Rattle.sdb_model.specs.declared.answer.Answer.{Answer}
use Rattle.sdb_model.specs.declared.event.Event.{Event}
use Rattle.sdb_model.specs.declared.event.Event.TheVariants as event
use Rattle.sdb_model.specs.Calls.{put_by}
use Rattle.sdb_model.specs.Events.{Contact, contact_of, table_asked}
use Rattle.sdb_model.specs.Requests.{any_of, only_of, records_put, observed_in}
use Rattle.sdb_model.specs.Transactions.{is_prepared_record}

---- one of a list

nothing_in : {X A : Type 0} (x : X) → Contains [] x → A
nothing_in x h = absurd (none h.0 h.1)
  where
    none : (k : ℕ) → k < 0 → ⊥
    none k l = omega (arith, l)

pub only_in : {X : Type 0} (x y : X) → Contains (x ∷ []) y → x ≡ y
only_in x y h = by (one_of x y [] h)
  where
    by : (x ≡ y) ⊎ Contains [] y → x ≡ y
    by (inl e) = e
    by (inr n) = nothing_in y n

-- what none of a list is, none is with more
pub any_less : {X : Type 0} (p q : X → Bool) (xs : List X) → any_of p xs ≡ false → any_of (λ x. p x && q x) xs ≡ false
any_less p q [] h = refl
any_less p q (x ∷ []) h = ap (λ b. b && q x) h
any_less p q (x ∷ y ∷ xs) h = by (p x) h (λ n. any_less p q (y ∷ xs) n)
  where
    by : (b : Bool) → (b || any_of p (y ∷ xs)) ≡ false → (any_of p (y ∷ xs) ≡ false → any_of (λ z. p z && q z) (y ∷ xs) ≡ false) → (b && q x || any_of (λ z. p z && q z) (y ∷ xs)) ≡ false
    by true n more = clash n
    by false n more = more n

pub in_only : {X : Type 0} (x y : X) → x ≡ y → Contains (x ∷ []) y
in_only x y e = (0, omega arith, e)

---- what a request puts

only_among : {X : Type 0} (x : X) (xs : List X) → only_of xs ≡ Some x → Contains xs x
only_among x [] e = none_some x e
only_among x (y ∷ []) e = in_only y x (some_is y x e)
only_among x (y ∷ z ∷ xs) e = none_some x e

-- the one record that it puts is among those that it puts
pub put_among : (q : Request) (r : Record) → put_by q ≡ Some r → Contains (records_put q) r
put_among q r e = only_among r (records_put q) e

-- and is all that it puts, but for a batch
pub only_put : (q : Request) (r : Record) → Contains (records_put q) r → (put_by q ≡ Some r) ⊎ ((b : List Put) × (q ≡ ask.PutAll b))
only_put (ask.Get key) r h = nothing_in r h
only_put (ask.Scan span) r h = nothing_in r h
only_put (ask.PutIf x condition) r h = inl (ap Some (only_in x r h))
only_put (ask.DeleteIf key condition) r h = nothing_in r h
only_put (ask.PutAll b) r h = inr (b, refl)

beside : (k : Key) (b : List Put) (r : Record) → list_all (same_partition k) (put_keys b) ≡ true → Contains (map (λ (x : Record × Condition). x.0) (map (λ (p : Put). (p.rec, p.condition)) b)) r → k.table ≡ r.key.table
beside k [] r all h = nothing_in r h
beside k (p ∷ ps) r all h = by (one_of p.rec r _ h) (beside k ps r (and_second (same_partition k p.rec.key) (list_all (same_partition k) (put_keys ps)) all))
  where
    by : (p.rec ≡ r) ⊎ Contains (map (λ (x : Record × Condition). x.0) (map (λ (q : Put). (q.rec, q.condition)) ps)) r → (Contains (map (λ (x : Record × Condition). x.0) (map (λ (q : Put). (q.rec, q.condition)) ps)) r → k.table ≡ r.key.table) → k.table ≡ r.key.table
    by (inl e) more = table_exact k.table p.rec.key.table (equal_of (table_cmp k.table p.rec.key.table) (and_first _ _ (and_first (same_partition k p.rec.key) (list_all (same_partition k) (put_keys ps)) all))) ∙ ap (λ (x : Record). x.key.table) e
    by (inr rest) more = more rest

together : (b : List Put) (r : Record) → in_one_partition (put_keys b) ≡ true → Contains (map (λ (x : Record × Condition). x.0) (map (λ (p : Put). (p.rec, p.condition)) b)) r → table_of_puts b ≡ r.key.table
together [] r one h = nothing_in r h
together (p ∷ ps) r one h = by (one_of p.rec r _ h)
  where
    by : (p.rec ≡ r) ⊎ Contains (map (λ (x : Record × Condition). x.0) (map (λ (q : Put). (q.rec, q.condition)) ps)) r → p.rec.key.table ≡ r.key.table
    by (inl e) = ap (λ (x : Record). x.key.table) e
    by (inr rest) = beside p.rec.key ps r one rest

-- what it puts is of the table that it asks
pub puts_table : (q : Request) (r : Record) → IsWellFormed q → Contains (records_put q) r → table_asked q ≡ r.key.table
puts_table (ask.Get key) r formed h = nothing_in r h
puts_table (ask.Scan span) r formed h = nothing_in r h
puts_table (ask.PutIf x condition) r formed h = ap (λ (y : Record). y.key.table) (only_in x r h)
puts_table (ask.DeleteIf key condition) r formed h = nothing_in r h
puts_table (ask.PutAll b) r formed h = together b r formed.one h

---- what a reply to a prepare shows

abbrev pub PreparesAt : TxId → Key → Request → Type 0
PreparesAt id key q = any_of (λ r. is_prepared_record id r && same_key r.key key) (records_put q) ≡ true

-- A write was refused, which found that.
abbrev pub IsRefused : Reply → Option Record → Type 0
IsRefused r found = (r ≡ reply.NotMet found) ⊎ ((k : ℕ) × (r ≡ reply.NotAll k found))

prepared_at : (id : TxId) (key : Key) (r : Record) → (is_prepared_record id r && same_key r.key key) ≡ true → r.key ≡ key
prepared_at id key r h = same_key_exact r.key key (and_second (is_prepared_record id r) (same_key r.key key) h)

pub unmet_observed : (id : TxId) (key : Key) (found : Option Record) (q : Request) (r : Reply) → CanAnswer q r → PreparesAt id key q → r ≡ reply.NotMet found → Contains (observed_in q r) (key, found)
unmet_observed id key found (ask.Get k) r can p e = clash (sym p)
unmet_observed id key found (ask.Scan span) r can p e = clash (sym p)
unmet_observed id key found (ask.PutIf x condition) r can p e = subst (λ (y : Reply). Contains (observed_in (ask.PutIf x condition) y) (key, found)) (sym e) (in_only (x.key, found) (key, found) (ap (λ (k : Key). (k, found)) (prepared_at id key x p)))
unmet_observed id key found (ask.DeleteIf k condition) r can p e = clash (sym p)
unmet_observed id key found (ask.PutAll b) r can p e = absurd (subst (λ (y : Reply). CanAnswer (ask.PutAll b) y) e can)

pub observed_unmet : (id : TxId) (key : Key) (found : Option Record) (q : Request) (r : Reply) → PreparesAt id key q → Contains (observed_in q r) (key, found) → IsRefused r found
observed_unmet id key found (ask.Get k) r p h = clash (sym p)
observed_unmet id key found (ask.Scan span) r p h = clash (sym p)
observed_unmet id key found (ask.PutIf x condition) (reply.NotMet at) p h = inl (ap (λ (s : Key × Option Record). reply.NotMet s.1) (only_in (x.key, at) (key, found) h))
observed_unmet id key found (ask.PutIf x condition) (reply.Found at) p h = nothing_in (key, found) h
observed_unmet id key found (ask.PutIf x condition) (reply.Rows rows) p h = nothing_in (key, found) h
observed_unmet id key found (ask.PutIf x condition) reply.Applied p h = nothing_in (key, found) h
observed_unmet id key found (ask.PutIf x condition) (reply.NotAll k at) p h = nothing_in (key, found) h
observed_unmet id key found (ask.PutIf x condition) reply.Fault p h = nothing_in (key, found) h
observed_unmet id key found (ask.PutIf x condition) reply.NoMemory p h = nothing_in (key, found) h
observed_unmet id key found (ask.DeleteIf k condition) r p h = clash (sym p)
observed_unmet id key found (ask.PutAll b) (reply.NotMet at) p h = nothing_in (key, found) h
observed_unmet id key found (ask.PutAll b) (reply.Found at) p h = nothing_in (key, found) h
observed_unmet id key found (ask.PutAll b) (reply.Rows rows) p h = nothing_in (key, found) h
observed_unmet id key found (ask.PutAll b) reply.Applied p h = nothing_in (key, found) h
observed_unmet id key found (ask.PutAll b) (reply.NotAll k at) p h = by (put_at b k) h
  where
    by : (o : Option Put) → Contains {X = Key × Option Record} (option_map_or (λ (x : Put). (x.rec.key, at) ∷ []) o []) (key, found) → IsRefused (reply.NotAll k at) found
    by None h = nothing_in (key, found) h
    by (Some x) h = inr (k, ap (λ (s : Key × Option Record). reply.NotAll k s.1) (only_in (x.rec.key, at) (key, found) h))
observed_unmet id key found (ask.PutAll b) reply.Fault p h = nothing_in (key, found) h
observed_unmet id key found (ask.PutAll b) reply.NoMemory p h = nothing_in (key, found) h

-- the put of the place that a refusal of a batch names is observed
pub unmet_all_observed : (found : Option Record) (b : List Put) (k : ℕ) (p : Put) → put_at b k ≡ Some p → Contains (observed_in (ask.PutAll b) (reply.NotAll k found)) (p.rec.key, found)
unmet_all_observed found b k p e = subst (λ (o : Option Put). Contains {X = Key × Option Record} (option_map_or (λ (x : Put). (x.rec.key, found) ∷ []) o []) (p.rec.key, found)) (sym e) (in_only (p.rec.key, found) (p.rec.key, found) refl)

---- contacts

-- An event that is a contact is a call, or else the landing of a request.
abbrev pub IsCallOrLanding : Event → Contact → Type 0
IsCallOrLanding e c = ((client : ℕ) × (answer : Option Answer) × (e ≡ event.Call client c.store c.request c.how c.reply answer)) ⊎ ((number : ℕ) × (e ≡ event.Land number c.store c.request c.how c.reply))

pub call_of : (e : Event) (c : Contact) → contact_of e ≡ Some c → IsCallOrLanding e c
call_of (event.Take client text answer) c h = none_some c h
call_of (event.Call client store q how r answer) c h = inl (client, answer, ap (λ (x : Contact). event.Call client x.store x.request x.how x.reply answer) (some_is (record { store = store; request = q; how = how; reply = r }) c h))
call_of (event.Stop client) c h = none_some c h
call_of (event.Clock moment) c h = none_some c h
call_of (event.Idle client) c h = none_some c h
call_of (event.Alter table column kind altered) c h = absurd (cc)
call_of (event.Land number store q how r) c h = inr (number, ap (λ (x : Contact). event.Land number x.store x.request x.how x.reply) (some_is (record { store = store; request = q; how = how; reply = r }) c h))
