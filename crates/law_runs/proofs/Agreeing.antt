-- All calls of clients show one decision on a transaction, where its row stays in the stores.
use Rattle.std.proofs.Common.{◌≡◌, ◌⊎◌, inl, inr, ℕ, suc, ◌<◌, ◌≤◌, ◌^◌, Bool, true, false, List, [], ◌∷◌, length, Option, Some, None, refl, sym, ap, subst, ◌∙◌, arith}
use Rattle.std.specs.FinMap.{insert}
use Rattle.std.specs.Prelude.{if◌then◌else◌, is_none, Contains}
use Rattle.std.specs.Option.{option_and_then, option_map_or}
use Rattle.std.specs.Ordering.{is_eq}
use Rattle.std.specs.Result.{result_ok}
use Rattle.std.proofs.lemmas.Bool.{cases_lt}
use Rattle.law_runs.specs.Types.{Condition, Decided, Event, Key, Place, Record, Reply, Request, TxId}
use Rattle.sdb_types.specs.declared.record.Put.{Put}
use Rattle.sdb_types.specs.declared.record.Request.TheVariants as ask
use Rattle.sdb_types.specs.declared.record.Reply.TheVariants as reply
use Rattle.sdb_types.specs.Contents.{Contents, after, batch_reply, holds, put_reply, record_at, reply_to}
use Rattle.sdb_types.specs.Exact.{equal_of}
use Rattle.sdb_types.specs.Order.{key_cmp}
use Rattle.sdb_types.proofs.Public.{clash, key_exact, none_some, same_key_self, some_is}
use Rattle.sdb_record.specs.Coordinator.{coordinator_key_of, decision_in}
use Rattle.sdb_model.specs.Calls.{StoreCall, calls_by, decision_in_reply, decision_observed, is_of_row, key_asked}
use Rattle.sdb_model.specs.Events.{IsTrace, StoreContents, moment, stored_at, table_asked}
use Rattle.sdb_model.specs.Explained.{RowsFinal}
use Rattle.law_protocol.proofs.Public.{after_delete, after_put, AtCall}
use Rattle.law_runs.proofs.Calls.{IsAt, call_at}

---- one call

-- the row from which a decision was read is at a key
pub record Stands (at : Option Record) (d : Decided) : Type 0 where
  pub row : Record
  pub agrees : at ≡ Some row
  pub decided : result_ok (decision_in row) ≡ Some d

-- the decision of a reply that shows a record, or none
of_found : (o : Option Record) (d : Decided) → option_and_then (λ (row : Record). result_ok (decision_in row)) o ≡ Some d → Stands o d
of_found None d h = none_some d h
of_found (Some row) d h = record { row = row; agrees = refl; decided = h }

-- the decision that a reply to a put shows is in the row that then is at its key
put_stands : (rec : Record) (c : Condition) (m : Contents) (d : Decided) → decision_in_reply (ask.PutIf rec c) (reply_to (ask.PutIf rec c) m) ≡ Some d → Stands (record_at (after (ask.PutIf rec c) m) rec.key) d
put_stands rec c m d h = by (holds c (record_at m rec.key)) refl h
  where
    left : (b : Bool) → holds c (record_at m rec.key) ≡ b → record_at (after (ask.PutIf rec c) m) rec.key ≡ (if b then Some rec else record_at m rec.key)
    left true e = after_put rec c m rec.key ∙ rw e (rw (same_key_self rec.key) refl)
    left false e = after_put rec c m rec.key ∙ rw e refl

    by : (b : Bool) → holds c (record_at m rec.key) ≡ b → decision_in_reply (ask.PutIf rec c) (put_reply c (record_at m rec.key)) ≡ Some d → Stands (record_at (after (ask.PutIf rec c) m) rec.key) d
    by true e executed = record { row = rec; agrees = left true e; decided = sym (ap (λ (b : Bool). decision_in_reply (ask.PutIf rec c) (if b then reply.Applied else reply.NotMet (record_at m rec.key))) e) ∙ executed }
    by false e executed =
        subst (λ (o : Option Record). Stands o d) (sym (left false e))
        (of_found (record_at m rec.key) d (sym (ap (λ (b : Bool). decision_in_reply (ask.PutIf rec c) (if b then reply.Applied else reply.NotMet (record_at m rec.key))) e) ∙ executed))

-- a batch of one put leaves what that put leaves, and its reply shows the same decision
one_left : (p : Put) (m : Contents) → after (ask.PutIf p.rec p.condition) m ≡ after (ask.PutAll (p ∷ [])) m
one_left p m = by (holds p.condition (record_at m p.rec.key))
  where
    by : (b : Bool) → (if b then insert m p.rec.key p.rec.columns else m) ≡ (if is_none {T = ℕ × Option Record} (if b then None else Some (1, record_at m p.rec.key)) then insert m p.rec.key p.rec.columns else m)
    by true = refl
    by false = refl

one_says : (p : Put) (m : Contents) → decision_in_reply (ask.PutIf p.rec p.condition) (reply_to (ask.PutIf p.rec p.condition) m) ≡ decision_in_reply (ask.PutAll (p ∷ [])) (reply_to (ask.PutAll (p ∷ [])) m)
one_says p m = by (holds p.condition (record_at m p.rec.key))
  where
    by : (b : Bool) → decision_in_reply (ask.PutIf p.rec p.condition) (if b then reply.Applied else reply.NotMet (record_at m p.rec.key)) ≡ decision_in_reply (ask.PutAll (p ∷ [])) (batch_reply (if b then None else Some (1, record_at m p.rec.key)))
    by true = refl
    by false = refl

-- what a reply of a store shows of a decision is what then is at the key that was asked
said_stands : (q : Request) (k : Key) (m : Contents) (d : Decided) → key_asked q ≡ Some k → decision_in_reply q (reply_to q m) ≡ Some d → Stands (record_at (after q m) k) d
said_stands (ask.Get key) k m d asked h = subst (λ (x : Key). Stands (record_at m x) d) (some_is key k asked) (of_found (record_at m key) d h)
said_stands (ask.Scan span) k m d asked h = none_some k asked
said_stands (ask.PutIf rec c) k m d asked h = subst (λ (x : Key). Stands (record_at (after (ask.PutIf rec c) m) x) d) (some_is rec.key k asked) (put_stands rec c m d h)
said_stands (ask.DeleteIf key c) k m d asked h = subst (λ (x : Key). Stands (record_at (after (ask.DeleteIf key c) m) x) d) (some_is key k asked) (by (holds c (record_at m key)) refl h)
  where
    left : holds c (record_at m key) ≡ false → record_at (after (ask.DeleteIf key c) m) key ≡ record_at m key
    left e = after_delete key c m key ∙ rw e refl

    by : (b : Bool) → holds c (record_at m key) ≡ b → decision_in_reply (ask.DeleteIf key c) (put_reply c (record_at m key)) ≡ Some d → Stands (record_at (after (ask.DeleteIf key c) m) key) d
    by true e executed = none_some d (sym (ap (λ (b : Bool). decision_in_reply (ask.DeleteIf key c) (if b then reply.Applied else reply.NotMet (record_at m key))) e) ∙ executed)
    by false e executed =
        subst (λ (o : Option Record). Stands o d) (sym (left e))
        (of_found (record_at m key) d (sym (ap (λ (b : Bool). decision_in_reply (ask.DeleteIf key c) (if b then reply.Applied else reply.NotMet (record_at m key))) e) ∙ executed))
said_stands (ask.PutAll []) k m d asked h = none_some k asked
said_stands (ask.PutAll (p ∷ [])) k m d asked h =
    subst (λ (x : Key). Stands (record_at (after (ask.PutAll (p ∷ [])) m) x) d) (some_is p.rec.key k asked)
    (subst (λ (n : Contents). Stands (record_at n p.rec.key) d) (one_left p m) (put_stands p.rec p.condition m d (one_says p m ∙ h)))
said_stands (ask.PutAll (p ∷ q ∷ ps)) k m d asked h = none_some k asked

-- a fault shows none, nor does out of memory
fault_says : (q : Request) (r : Reply) (d : Decided) → (r ≡ reply.NoMemory) ⊎ (r ≡ reply.Fault) → decision_in_reply q r ≡ Some d → ⊥
fault_says q r d (inl e) h = no q (sym (ap (decision_in_reply q) e) ∙ h)
  where
    no : (q : Request) → decision_in_reply q reply.NoMemory ≡ Some d → ⊥
    no (ask.Get key) h = none_some d h
    no (ask.Scan span) h = none_some d h
    no (ask.PutIf rec c) h = none_some d h
    no (ask.DeleteIf key c) h = none_some d h
    no (ask.PutAll batch) h = none_some d h
fault_says q r d (inr e) h = no q (sym (ap (decision_in_reply q) e) ∙ h)
  where
    no : (q : Request) → decision_in_reply q reply.Fault ≡ Some d → ⊥
    no (ask.Get key) h = none_some d h
    no (ask.Scan span) h = none_some d h
    no (ask.PutIf rec c) h = none_some d h
    no (ask.DeleteIf key c) h = none_some d h
    no (ask.PutAll batch) h = none_some d h

key_table : (q : Request) (k : Key) → key_asked q ≡ Some k → k.table.ns ≡ (table_asked q).ns
key_table (ask.Get key) k e = ap (λ (x : Key). x.table.ns) (sym (some_is key k e))
key_table (ask.Scan span) k e = none_some k e
key_table (ask.PutIf rec c) k e = ap (λ (x : Key). x.table.ns) (sym (some_is rec.key k e))
key_table (ask.DeleteIf key c) k e = ap (λ (x : Key). x.table.ns) (sym (some_is key k e))
key_table (ask.PutAll []) k e = none_some k e
key_table (ask.PutAll (p ∷ [])) k e = ap (λ (x : Key). x.table.ns) (sym (some_is p.rec.key k e))
key_table (ask.PutAll (p ∷ q ∷ ps)) k e = none_some k e

-- after a call that showed a decision the row is there with it
call_stands : (places : List Place) (q : Request) (r : Reply) (before now : List StoreContents) (k : Key) (d : Decided) → AtCall places q r before now → key_asked q ≡ Some k → decision_in_reply q r ≡ Some d → Stands (stored_at places now k) d
call_stands places q r before now k d a asked h = by a.moved
  where
    here : stored_at places now k ≡ record_at a.left k
    here = (a.here k (key_table q k asked)).1

    by : ((a.left ≡ after q a.held) × ((r ≡ reply_to q a.held) ⊎ (r ≡ reply.Fault))) ⊎ ((a.left ≡ a.held) × ((r ≡ reply.NoMemory) ⊎ (r ≡ reply.Fault))) → Stands (stored_at places now k) d
    by (inl (left, inl executed)) =
        subst (λ (o : Option Record). Stands o d) (sym (here ∙ ap (λ (m : Contents). record_at m k) left)) (said_stands q k a.held d asked (sym (ap (decision_in_reply q) executed) ∙ h))
    by (inl (left, inr fault)) = absurd (fault_says q r d (inr fault) h)
    by (inr (left, none)) = absurd (fault_says q r d none h)

---- a call of a transaction's row

row_asked : (id : TxId) (q : Request) → is_of_row id q ≡ true → key_asked q ≡ Some (coordinator_key_of id)
row_asked id q h = by (key_asked q) h
  where
    by : (o : Option Key) → option_map_or (λ (k : Key). is_eq (key_cmp k (coordinator_key_of id))) o false ≡ true → o ≡ Some (coordinator_key_of id)
    by (Some k) t = ap Some (key_exact k (coordinator_key_of id) (equal_of _ t))
    by None t = clash (sym t)

shown_said : (id : TxId) (m : StoreCall) (d : Decided) → decision_observed id m ≡ Some d → (is_of_row id m.request ≡ true) × (decision_in_reply m.request m.reply ≡ Some d)
shown_said id m d h = by (is_of_row id m.request) refl h
  where
    by : (b : Bool) → is_of_row id m.request ≡ b → (if b then decision_in_reply m.request m.reply else None) ≡ Some d → (is_of_row id m.request ≡ true) × (decision_in_reply m.request m.reply ≡ Some d)
    by true e k = (e, k)
    by false e k = none_some d k

-- after a call that showed a decision the row is there with it
pub shown_stands : (places : List Place) (opening : List StoreContents) (moments : List (List StoreContents)) (first : ℕ) (id : TxId) (m : StoreCall) (d : Decided) (p : IsAt places opening moments first m) → decision_observed id m ≡ Some d → Stands (stored_at places (moment opening moments (suc p.n)) (coordinator_key_of id)) d
shown_stands places opening moments first id m d p observed =
    let s = shown_said id m d observed in
    call_stands places m.request m.reply (moment opening moments p.n) (moment opening moments (suc p.n)) (coordinator_key_of id) d p.did (row_asked id m.request s.0) s.1

---- two calls

-- the row of a transaction is the same at each two moments
pub same_row : (places : List Place) (opening : List StoreContents) (moments : List (List StoreContents)) → ((early late : ℕ) → early ≤ late → late ≤ length moments → RowsFinal places (moment opening moments early) (moment opening moments late))
    → (id : TxId) (a b : ℕ) (x y : Record) → id.0 < 2 ^ 128 → a ≤ length moments → b ≤ length moments → stored_at places (moment opening moments a) (coordinator_key_of id) ≡ Some x → stored_at places (moment opening moments b) (coordinator_key_of id) ≡ Some y → x ≡ y
same_row places opening moments final id a b x y fits in_a in_b at_a at_b = by (cases_lt a b)
  where
    below : (n k : ℕ) → n < k → n ≤ k
    below n k l = omega arith

    by : (a < b) ⊎ (b ≤ a) → x ≡ y
    by (inl l) = some_is x y (sym (final a b (below a b l) in_b id x fits at_a) ∙ at_b)
    by (inr l) = sym (some_is y x (sym (final b a l in_a id y fits at_b) ∙ at_a))

pub decisions_agree : (places : List Place) (events : List Event) (opening closing : List StoreContents) (moments : List (List StoreContents)) → IsTrace places events opening moments closing → ((early late : ℕ) → early ≤ late → late ≤ length moments → RowsFinal places (moment opening moments early) (moment opening moments late))
    → (c d : ℕ) (id : TxId) (m x : StoreCall) (a b : Decided) → id.0 < 2 ^ 128 → Contains (calls_by events c) m → Contains (calls_by events d) x → decision_observed id m ≡ Some a → decision_observed id x ≡ Some b → a ≡ b
decisions_agree places events opening closing moments trace final c d id m x a b fits in_c in_d observed executed =
    some_is a b (sym first.decided ∙ ap (λ (r : Record). result_ok (decision_in r)) (same_row places opening moments final id (suc p.n) (suc q.n) first.row last.row fits p.within q.within first.agrees last.agrees) ∙ last.decided)
  where
    p : IsAt places opening moments 1 m
    p = call_at places events opening closing moments c m trace in_c

    q : IsAt places opening moments 1 x
    q = call_at places events opening closing moments d x trace in_d

    first : Stands (stored_at places (moment opening moments (suc p.n)) (coordinator_key_of id)) a
    first = shown_stands places opening moments 1 id m a p observed

    last : Stands (stored_at places (moment opening moments (suc q.n)) (coordinator_key_of id)) b
    last = shown_stands places opening moments 1 id x b q executed
