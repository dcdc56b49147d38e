-- What the records that a read found mean, as its calls come: each that was unresolved is rolled by one of them.
use Rattle.std.proofs.Common.{◌≡◌, inl, inr, ℕ, ℤ, Bool, true, false, cond, List, [], ◌∷◌, ◌++◌, Option, Some, None, IfSome, Result, Ok, Err, refl, sym, ap, subst, ◌∙◌}
use Rattle.std.specs.Prelude.{Contains, ◌&&◌, if◌then◌else◌, find}
use Rattle.std.specs.Cmp.{tied_itself}
use Rattle.std.specs.List.{AllByRecursion, cons_option, filter_map, list_any}
use Rattle.std.specs.Option.{option_and_then, option_map, option_map_or}
use Rattle.std.specs.Ordering.{is_eq}
use Rattle.std.specs.declared.cmp.Ordering.TheVariants.{Less}
use Rattle.std.proofs.lemmas.Bool.{and_parts}
use Rattle.std.proofs.lemmas.List.Elements.{Contains-append_left, Contains-append_right, Contains-push}
use Rattle.law_clients.specs.Types.{Condition, Key, Meta, Pair, Record, RecoverPhase, RecoverStep, Reply, Request, State, TxId, Value}
use Rattle.sdb_types.specs.declared.record.Reply.TheVariants as reply
use Rattle.sdb_types.specs.declared.record.Request.TheVariants as ask
use Rattle.sdb_types.specs.declared.record.State.TheVariants as state
use Rattle.sdb_types.specs.declared.value.Value.TheVariants as value
use Rattle.sdb_types.specs.Columns.{column}
use Rattle.sdb_types.specs.Contents.{has_value, holds, is_version, record_among, rise, starts_after, state_number, tx_id, tx_state}
use Rattle.sdb_types.specs.Exact.{equal_of}
use Rattle.sdb_types.specs.Order.{key_cmp, same_key}
use Rattle.sdb_types.specs.TxId.{id_text}
use Rattle.sdb_types.specs.ValueLaws.{value_total}
use Rattle.sdb_types.proofs.Public.{all_each, and_false, false_true, key_exact, key_total, less_of, none_some, some_is}
use Rattle.sdb_record.specs.Meta.{checked, checked_before, checked_part, id_in, id_in_value, is_committed, is_in, is_misnamed, is_unresolved, refuse, state_in, state_in_value, with_before}
use Rattle.sdb_record.specs.Parts.{before_part, before_record, is_before_pair}
use Rattle.sdb_record.specs.Rolls.{forward_record, undo}
use Rattle.sdb_record.proofs.Public.{accepted, before-kept, forward-key, id_of_text-is, refuse-ok, state_value}
use Rattle.sdb_model.specs.Calls.{StoreCall, key_asked, put_by}
use Rattle.sdb_model.specs.ReadSet as as_read
use Rattle.sdb_model.specs.ReadSet.{condition_asked, meaning_of, rolls}
use Rattle.sdb_phases.specs.declared.step.RecoverPhase.TheVariants as phase
use Rattle.sdb_phases.specs.declared.step.RecoverStep.TheVariants as steps
use Rattle.sdb_phases.specs.Recover.{recover_back, recover_forward, recover_next, recover_request_at, is_as_found}
use Rattle.sdb_phases.specs.Work.{abort_of, look_of}
use Rattle.sdb_phases.proofs.Public.{by_rows_recover_rows as by_rows, no_image_of_none, no_image_of_row}
use Rattle.sdb_snapshot.specs.Reads.{reads_of}
use Rattle.law_clients.specs.Calls.{HasMeaning, IsUnrolled}
use Rattle.law_clients.proofs.Meta.{meta_of}

---- the version of a record

before_state : (m : Meta) (o : Result Meta (List ℕ)) (y : Meta) → with_before m o ≡ Ok y → m.state ≡ y.state
before_state m (Ok b) y h = let e : record m { has_before = true } ≡ y = cc in ap (λ (x : Meta). x.state) e
before_state m (Err name) y h = absurd (cc)

final_state : (ps : List Pair) (m y : Meta) → checked_before ps m ≡ Ok y → m.state ≡ y.state
final_state ps m y h = by (list_any is_before_pair ps) h
  where
    by : (b : Bool) → cond b (refuse (find is_misnamed ps) (with_before m (checked_part is_committed (before_part ps)))) (Ok m) ≡ Ok y → m.state ≡ y.state
    by true k = before_state m (checked_part is_committed (before_part ps)) y (refuse-ok (find is_misnamed ps) (with_before m (checked_part is_committed (before_part ps))) y k).1
    by false k = let e : m ≡ y = cc in ap (λ (x : Meta). x.state) e

pub state_says : (r : Record) (m : Meta) → checked r.columns ≡ Ok m → state_in r.columns ≡ Some m.state
state_says r m says = let t = accepted r.columns m says in t.1.says.state ∙ ap Some (final_state r.columns t.0 m t.2)

has_itself : (v : Value) → has_value (Some v) v ≡ true
has_itself v = ap is_eq (tied_itself value_total v)

has_id : (o : Option Value) (id : TxId) → id_in_value o ≡ Some id → has_value o (value.Text (id_text id.0)) ≡ true
has_id None id e = none_some id e
has_id (Some (value.Text text)) id e = ap (λ t. has_value (Some (value.Text t)) (value.Text (id_text id.0))) (id_of_text-is text id e).1 ∙ has_itself (value.Text (id_text id.0))
has_id (Some v) id e = absurd (cc)

has_state : (o : Option Value) (s : State) → state_in_value o ≡ Some s → has_value o (value.Int (state_number s)) ≡ true
has_state o s e = ap (λ x. has_value x (value.Int (state_number s))) (state_value o s e) ∙ has_itself (value.Int (state_number s))

both_true : (a b : Bool) → a ≡ true → b ≡ true → (a && b) ≡ true
both_true a b e f = ap (λ x. x && b) e ∙ f

-- an unresolved record is of the version that its metadata says
of_version : (r : Record) (m : Meta) → is_unresolved r ≡ true → checked r.columns ≡ Ok m → is_version m.id m.state r ≡ true
of_version r m open_still says = both_true _ _ (has_id (column r.columns tx_id) m.id (meta_of r m open_still says).writer) (has_state (column r.columns tx_state) m.state (state_says r m says))

---- rolls

key_is : (k j : Key) → k ≡ j → is_eq (key_cmp k j) ≡ true
key_is k j e = ap (λ (x : Key). is_eq (key_cmp x j)) e ∙ ap is_eq (tied_itself key_total j)

-- a put or a delete at a record's key, on condition of its version
roll_is : (r : Record) (m : StoreCall) (k : Key) (c : Condition) → key_asked m.request ≡ Some k → k ≡ r.key → condition_asked m.request ≡ Some c → holds c (Some r) ≡ true → rolls r m ≡ true
roll_is r m k c asks same on met = both_true _ _ (ap (λ o. option_map_or (λ x. is_eq (key_cmp x r.key)) o false) asks ∙ key_is k r.key same) (ap (λ o. option_map_or (λ x. holds x (Some r)) o false) on ∙ met)

abbrev asks_key : Record → StoreCall → Bool
asks_key r m = option_map_or (λ k. is_eq (key_cmp k r.key)) (key_asked m.request) false

-- a read rolls nothing
pub no_condition : (r : Record) (m : StoreCall) → condition_asked m.request ≡ None → rolls r m ≡ false
no_condition r m e = ap (λ o. asks_key r m && option_map_or (λ c. holds c (Some r)) o false) e ∙ and_false (asks_key r m)

-- nor does a put where there is none
not_met : (r : Record) (m : StoreCall) (c : Condition) → condition_asked m.request ≡ Some c → holds c (Some r) ≡ false → rolls r m ≡ false
not_met r m c e f = ap (λ o. asks_key r m && option_map_or (λ x. holds x (Some r)) o false) e ∙ ap (λ b. asks_key r m && b) f ∙ and_false (asks_key r m)

-- nor a call at another key
other_key : (r : Record) (m : StoreCall) (k : Key) → key_asked m.request ≡ Some k → key_cmp k r.key ≡ Less → rolls r m ≡ false
other_key r m k e less = ap (λ o. option_map_or (λ x. is_eq (key_cmp x r.key)) o false && option_map_or (λ c. holds c (Some r)) (condition_asked m.request) false) e ∙ ap (λ o. is_eq o && option_map_or (λ c. holds c (Some r)) (condition_asked m.request) false) less

-- what a call that rolls a record puts is at its key
put_key : (r : Record) (q : Request) (o : Option Record) → option_map_or (λ k. is_eq (key_cmp k r.key)) (key_asked q) false ≡ true → option_map_or (λ c. holds c (Some r)) (condition_asked q) false ≡ true → put_by q ≡ o → IfSome o (λ b. b.key ≡ r.key)
put_key r q None asks on puts = tt
put_key r (ask.PutIf rec c) (Some b) asks on puts = ap (λ (x : Record). x.key) (sym (some_is rec b puts)) ∙ key_exact rec.key r.key (equal_of _ asks)
put_key r (ask.DeleteIf key c) (Some b) asks on puts = none_some b puts
put_key r (ask.PutAll batch) (Some b) asks on puts = false_true on
put_key r (ask.Get key) (Some b) asks on puts = none_some b puts
put_key r (ask.Scan span) (Some b) asks on puts = none_some b puts

found_holds : (p : StoreCall → Bool) (calls : List StoreCall) (m : StoreCall) → find p calls ≡ Some m → p m ≡ true
found_holds p [] m e = none_some m e
found_holds p (x ∷ xs) m e = by (p x) refl (λ k. found_holds p xs m k) e
  where
    by : (b : Bool) → p x ≡ b → (find p xs ≡ Some m → p m ≡ true) → (if b then Some x else find p xs) ≡ Some m → p m ≡ true
    by true t ih k = ap p (sym (some_is x m k)) ∙ t
    by false f ih k = ih k

-- what a record means has its key
pub meaning_key : (calls : List StoreCall) (r : Record) → IfSome (meaning_of calls r) (λ b. b.key ≡ r.key)
meaning_key calls r = by (is_in state.Committed r.columns)
  where
    rolled : (o : Option StoreCall) → find (rolls r) calls ≡ o → IfSome (option_and_then (λ m. put_by m.request) o) (λ b. b.key ≡ r.key)
    rolled None e = tt
    rolled (Some m) e = let both = and_parts (asks_key r m) _ (found_holds (rolls r) calls m e) in put_key r m.request (put_by m.request) both.0 both.1 refl

    by : (b : Bool) → IfSome (if b then Some r else option_and_then (λ m. put_by m.request) (find (rolls r) calls)) (λ b. b.key ≡ r.key)
    by true = refl
    by false = rolled (find (rolls r) calls) refl

-- the reads of what records mean are those of their meanings
pub reads_meant : (calls : List StoreCall) (rs : List Record) → as_read.reads_of calls rs ≡ reads_of (filter_map (meaning_of calls) rs)
reads_meant calls [] = refl
reads_meant calls (r ∷ rs) = ap (cons_option (option_map (λ (image : Record). as_read.read_of r.key (Some image)) (meaning_of calls r))) (reads_meant calls rs) ∙ by (meaning_of calls r) (meaning_key calls r)
  where
    by : (o : Option Record) → IfSome o (λ b. b.key ≡ r.key) → cons_option (option_map (λ (image : Record). as_read.read_of r.key (Some image)) o) (reads_of (filter_map (meaning_of calls) rs)) ≡ reads_of (cons_option o (filter_map (meaning_of calls) rs))
    by None same = refl
    by (Some b) same = ap (λ k. record { key = k; version = id_in b.columns } ∷ reads_of (filter_map (meaning_of calls) rs)) (sym same)

-- a record that is found by its key is among the rows
pub among_found : (rows : List Record) (key : Key) (r : Record) → record_among rows key ≡ Some r → Contains rows r
among_found [] key r h = none_some r h
among_found (x ∷ xs) key r h = by (same_key key x.key) h (λ k. among_found xs key r k)
  where
    by : (b : Bool) → (if b then Some x else record_among xs key) ≡ Some r → (record_among xs key ≡ Some r → Contains xs r) → Contains (x ∷ xs) r
    by true e rest = subst (Contains (x ∷ xs)) (some_is x r e) (Contains-append_left (x ∷ []) xs x (Contains-push [] x))
    by false e rest = Contains-append_right (x ∷ []) xs r (rest e)

---- as calls come

-- what is found stays where more comes
pub find_more : {X : Type 0} (p : X → Bool) (xs ys : List X) (x : X) → find p xs ≡ Some x → find p (xs ++ ys) ≡ Some x
find_more p [] ys x e = none_some x e
find_more {X = X} p (y ∷ xs) ys x e = by (p y) (λ h. find_more p xs ys x h) e
  where
    by : (b : Bool) → (find p xs ≡ Some x → find p (xs ++ ys) ≡ Some x) → (if b then Some y else find p xs) ≡ Some x → (if b then Some y else find p (xs ++ ys)) ≡ Some x
    by true ih h = h
    by false ih h = ih h

find_none : (p : StoreCall → Bool) (calls : List StoreCall) (m : StoreCall) → find p calls ≡ None → p m ≡ false → find p (calls ++ m ∷ []) ≡ None
find_none p [] m e f = ap (λ b. if b then Some m else None) f
find_none p (x ∷ xs) m e f = by (p x) (λ k. find_none p xs m k f) e
  where
    by : (b : Bool) → (find p xs ≡ None → find p (xs ++ m ∷ []) ≡ None) → (if b then Some x else find p xs) ≡ None → (if b then Some x else find p (xs ++ m ∷ [])) ≡ None
    by true ih k = none_some x (sym k)
    by false ih k = ih k

pub find_last : (p : StoreCall → Bool) (calls : List StoreCall) (m : StoreCall) → find p calls ≡ None → p m ≡ true → find p (calls ++ m ∷ []) ≡ Some m
find_last p [] m e t = ap (λ b. if b then Some m else None) t
find_last p (x ∷ xs) m e t = by (p x) (λ k. find_last p xs m k t) e
  where
    by : (b : Bool) → (find p xs ≡ None → find p (xs ++ m ∷ []) ≡ Some m) → (if b then Some x else find p xs) ≡ None → (if b then Some x else find p (xs ++ m ∷ [])) ≡ Some m
    by true ih k = none_some x (sym k)
    by false ih k = ih k

-- what a committed record means, and one that a call rolled
pub meaning_settled : (calls : List StoreCall) (r : Record) → is_in state.Committed r.columns ≡ true → meaning_of calls r ≡ Some r
meaning_settled calls r e = ap (λ b. if b then Some r else option_and_then (λ x. put_by x.request) (find (rolls r) calls)) e

pub meaning_rolled : (calls : List StoreCall) (r : Record) (m : StoreCall) (o : Option Record) → is_in state.Committed r.columns ≡ false → find (rolls r) calls ≡ Some m → put_by m.request ≡ o → meaning_of calls r ≡ o
meaning_rolled calls r m o loose found puts = ap (λ b. if b then Some r else option_and_then (λ x. put_by x.request) (find (rolls r) calls)) loose ∙ ap (option_and_then (λ x. put_by x.request)) found ∙ puts

meaning_more : (calls : List StoreCall) (m : StoreCall) (r : Record) → HasMeaning calls r → meaning_of (calls ++ m ∷ []) r ≡ meaning_of calls r
meaning_more calls m r (inl e) = meaning_settled (calls ++ m ∷ []) r e ∙ sym (meaning_settled calls r e)
meaning_more calls m r (inr h) = ap (λ o. if is_in state.Committed r.columns then Some r else option_and_then (λ x. put_by x.request) o) (find_more (rolls r) calls (m ∷ []) h.0 h.1 ∙ sym h.1)

has_more : (calls : List StoreCall) (m : StoreCall) (r : Record) → HasMeaning calls r → HasMeaning (calls ++ m ∷ []) r
has_more calls m r (inl e) = inl e
has_more calls m r (inr h) = inr (h.0, find_more (rolls r) calls (m ∷ []) h.0 h.1)

pub all_have_more : (calls : List StoreCall) (m : StoreCall) (rs : List Record) → AllByRecursion (HasMeaning calls) rs → AllByRecursion (HasMeaning (calls ++ m ∷ [])) rs
all_have_more calls m rs all = all_each (HasMeaning calls) (HasMeaning (calls ++ m ∷ [])) rs (has_more calls m) all

pub meanings_more : (calls : List StoreCall) (m : StoreCall) (rs : List Record) → AllByRecursion (HasMeaning calls) rs → filter_map (meaning_of (calls ++ m ∷ [])) rs ≡ filter_map (meaning_of calls) rs
meanings_more calls m [] all = refl
meanings_more calls m (r ∷ rs) all = ap (λ o. cons_option o (filter_map (meaning_of (calls ++ m ∷ [])) rs)) (meaning_more calls m r all.0) ∙ ap (cons_option (meaning_of calls r)) (meanings_more calls m rs all.1)

pub unrolled_more : (calls : List StoreCall) (m : StoreCall) (rs : List Record) → AllByRecursion (IsUnrolled calls) rs → AllByRecursion (λ r. rolls r m ≡ false) rs → AllByRecursion (IsUnrolled (calls ++ m ∷ [])) rs
unrolled_more calls m [] all none = tt
unrolled_more calls m (r ∷ rs) all none = (find_none (rolls r) calls m all.0 none.0, unrolled_more calls m rs all.1 none.1)

pub each_of : {A : Type 0} (P : A → Type 0) (xs : List A) → ((x : A) → P x) → AllByRecursion P xs
each_of P [] f = tt
each_of P (x ∷ xs) f = (f x, each_of P xs f)

-- a read rolls none of these
pub read_unrolled : (m : StoreCall) (rs : List Record) → condition_asked m.request ≡ None → AllByRecursion (IsUnrolled (m ∷ [])) rs
read_unrolled m rs e = each_of (IsUnrolled (m ∷ [])) rs (λ r. ap (λ b. if b then Some m else None) (no_condition r m e))

-- each row after a key is of another
after_key : (k : Key) (rs : List Record) → starts_after k rs ≡ true → rise rs ≡ true → AllByRecursion (λ r. key_cmp k r.key ≡ Less) rs
after_key k [] s r = tt
after_key k (x ∷ rs) s r =
    let less : key_cmp k x.key ≡ Less = less_of (key_cmp k x.key) s in
    let p = and_parts (starts_after x.key rs) (rise rs) r in
    (less, all_each (λ (y : Record). key_cmp x.key y.key ≡ Less) (λ (y : Record). key_cmp k y.key ≡ Less) rs (λ y e. key_total.trans k x.key y.key less e) (after_key x.key rs p.0 p.1))

---- the recovery of a record

-- A call rolls a record to this.
pub record IsRollTo (m : StoreCall) (rec : Record) (o : Option Record) : Type 0 where
  pub asks : key_asked m.request ≡ Some rec.key
  pub rolls_it : rolls rec m ≡ true
  pub puts : put_by m.request ≡ o

-- and none of the rows after it
pub rolls_none_after : (m : StoreCall) (rec : Record) (o : Option Record) (left : List Record) → IsRollTo m rec o → rise (rec ∷ left) ≡ true → AllByRecursion (λ r. rolls r m ≡ false) left
rolls_none_after m rec o left k r =
    let p = and_parts (starts_after rec.key left) (rise left) r in
    all_each (λ (x : Record). key_cmp rec.key x.key ≡ Less) (λ x. rolls x m ≡ false) left (λ x less. other_key x m rec.key k.asks less) (after_key rec.key left p.0 p.1)

pub before_key : (r : Record) → is_unresolved r ≡ true → IfSome (before_record r) (λ b. b.key ≡ r.key)
before_key r u = by (before_record r) refl
  where
    by : (o : Option Record) → before_record r ≡ o → IfSome o (λ b. b.key ≡ r.key)
    by None e = tt
    by (Some b) e = (before-kept r b u e).0

undo_asks : (c : Condition) (k : Key) (o : Option Record) → IfSome o (λ b. b.key ≡ k) → (key_asked (undo c k o) ≡ Some k) × (condition_asked (undo c k o) ≡ Some c) × (put_by (undo c k o) ≡ o)
undo_asks c k None h = (refl, refl, refl)
undo_asks c k (Some b) h = (ap Some h, refl, refl)

image_is : (x y : Option Record) → ◌≡◌ {A = RecoverStep} (steps.Image x) (steps.Image y) → x ≡ y
image_is x y e = cc

module _ (rec : Record) (meta : Meta) (open_still : is_unresolved rec ≡ true) (says : checked rec.columns ≡ Ok meta) (m : StoreCall) where
  asked_at : (x : Request) → Some x ≡ Some m.request → m.request ≡ x
  asked_at x e = sym (some_is x m.request e)

  rolls_to : (o : Option Record) → key_asked m.request ≡ Some rec.key → condition_asked m.request ≡ Some (is_as_found meta) → put_by m.request ≡ o → IsRollTo m rec o
  rolls_to o asks on puts = record { asks = asks; rolls_it = roll_is rec m rec.key (is_as_found meta) asks refl on (of_version rec meta open_still says); puts = puts }

  pub forward_rolls_to : (n : ℤ) → m.request ≡ recover_forward rec meta n → IsRollTo m rec (Some (forward_record rec n))
  forward_rolls_to n e = rolls_to (Some (forward_record rec n)) (ap key_asked e ∙ ap Some (forward-key rec n)) (ap condition_asked e) (ap put_by e)

  pub back_rolls_to : m.request ≡ recover_back rec meta → IsRollTo m rec (before_record rec)
  back_rolls_to e = let u = undo_asks (is_as_found meta) rec.key (before_record rec) (before_key rec open_still) in rolls_to (before_record rec) (ap key_asked e ∙ u.0) (ap condition_asked e ∙ u.1) (ap put_by e ∙ u.2)

  -- a look for the row, or a put of ABORTED, rolls nothing
  pub look_rolls_none : m.request ≡ look_of meta.id → (r : Record) → rolls r m ≡ false
  look_rolls_none e r = no_condition r m (ap condition_asked e)

  pub abort_rolls_none : (n : ℤ) → m.request ≡ abort_of meta.id n → (r : Record) → rolls r m ≡ false
  abort_rolls_none n e r = not_met r m _ (ap condition_asked e) refl

  -- The call after which a recovery goes on rolls nothing.
  pub goes_on_unrolled : (p : RecoverPhase) (now : ℤ) (r : Reply) → recover_request_at rec meta p ≡ Some m.request → (recover_next rec meta p now r).1 ≡ steps.More → (x : Record) → rolls x m ≡ false
  goes_on_unrolled phase.Look now r e goes x = look_rolls_none (asked_at (look_of meta.id) e) x
  goes_on_unrolled phase.Again now r e goes x = look_rolls_none (asked_at (look_of meta.id) e) x
  goes_on_unrolled (phase.Abort n) now r e goes x = abort_rolls_none n (asked_at (abort_of meta.id n) e) x
  goes_on_unrolled (phase.Forward n) now (reply.Found found) e goes x = absurd (cc)
  goes_on_unrolled (phase.Forward n) now (reply.Rows rows) e goes x = absurd (cc)
  goes_on_unrolled (phase.Forward n) now (reply.NotAll place there) e goes x = absurd (cc)
  goes_on_unrolled (phase.Forward n) now reply.Applied e goes x = absurd (cc)
  goes_on_unrolled (phase.Forward n) now (reply.NotMet found) e goes x = absurd (cc)
  goes_on_unrolled (phase.Forward n) now reply.Fault e goes x = absurd (cc)
  goes_on_unrolled (phase.Forward n) now reply.NoMemory e goes x = absurd (cc)
  goes_on_unrolled phase.Back now (reply.Found found) e goes x = absurd (cc)
  goes_on_unrolled phase.Back now (reply.Rows rows) e goes x = absurd (cc)
  goes_on_unrolled phase.Back now (reply.NotAll place there) e goes x = absurd (cc)
  goes_on_unrolled phase.Back now reply.Applied e goes x = absurd (cc)
  goes_on_unrolled phase.Back now (reply.NotMet found) e goes x = absurd (cc)
  goes_on_unrolled phase.Back now reply.Fault e goes x = absurd (cc)
  goes_on_unrolled phase.Back now reply.NoMemory e goes x = absurd (cc)
  goes_on_unrolled phase.Ended now r e goes x = none_some m.request e

  -- The call that ends it with an image rolls the record to this.
  pub ends_rolled : (p : RecoverPhase) (now : ℤ) (r : Reply) (o : Option Record) → recover_request_at rec meta p ≡ Some m.request → (recover_next rec meta p now r).1 ≡ steps.Image o → IsRollTo m rec o
  ends_rolled p now r o =
      by_rows rec meta now (λ p r n. recover_request_at rec meta p ≡ Some m.request → n.1 ≡ steps.Image o → IsRollTo m rec o)
      (record {
        look_row = λ row e is. absurd (no_image_of_row meta row o is);
        look_none = λ e is. absurd (no_image_of_none meta now o is);
        abort_applied = λ n e is. absurd (cc);
        abort_row = λ n row e is. absurd (no_image_of_row meta row o is);
        abort_fault = λ n e is. absurd (cc);
        again_row = λ row e is. absurd (no_image_of_row meta row o is);
        again_none = λ e is. absurd (cc);
        forward = λ n r done e is.
            let f = forward_rolls_to n (asked_at (recover_forward rec meta n) e) in
            record { asks = f.asks; rolls_it = f.rolls_it; puts = f.puts ∙ image_is (Some (forward_record rec n)) o is };
        back = λ r done e is.
            let f = back_rolls_to (asked_at (recover_back rec meta) e) in
            record { asks = f.asks; rolls_it = f.rolls_it; puts = f.puts ∙ image_is (before_record rec) o is };
        fault = λ p e is. absurd (cc);
        no_memory = λ p r e is. absurd (cc);
      }) p r
