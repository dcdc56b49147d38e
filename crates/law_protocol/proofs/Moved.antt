-- What doesn't ask for the stores of calls is the same when they are moved.
use Rattle.std.proofs.Common.{◌≡◌, ℕ, zero, suc, ◌+◌, Bool, false, cond, List, [], ◌∷◌, ◌++◌, Option, Some, None, refl, ap, ◌∙◌}
use Rattle.std.specs.Prelude.{map, fold, find, filter, take_while, not, nat_lt, ◌&&◌, ◌||◌, unwrap_or, length}
use Rattle.std.specs.List.{count_by, list_any, enumerate_from, filter_map, cons_option, slice_get}
use Rattle.std.specs.Option.{option_map, option_map_or, option_and_then}
use Rattle.law_protocol.specs.Types.{Event, Request, ScriptClient, Table, TxId}
use Rattle.sdb_types.specs.declared.record.Reply.TheVariants as reply
use Rattle.sdb_model.specs.declared.event.Event.TheVariants as event
use Rattle.sdb_model.specs.declared.event.How.TheVariants.{Seen, Lost, Discarded, Delayed, Broken}
use Rattle.sdb_model.specs.Catalogs.{added, catalog_after}
use Rattle.sdb_model.specs.Serial.{Step, addition, additions}
use Rattle.sdb_model.specs.Sql.{reads_commit}
use Rattle.sdb_model.specs.Rows.{Name}
use Rattle.sdb_model.specs.Follows.{is_take_of, stops, pends_after, takes_of, has_stopped, is_pending, has_work, texts_of, lands, delayed_by, delayed_at, in_flight}
use Rattle.sdb_model.specs.Transactions.{Executed, statements_by, statements_after, from_begin, begun, commit_of, ends, body, is_effective, first_of, rest_of, ordinal_of, client_of, is_prepared_by, last_prepare, point}
use Rattle.law_protocol.specs.Spread.{relocated_event, relocated_events}

---- lists

pub moved_more : (at : Name → Name) (past more : List Event) → relocated_events at (past ++ more) ≡ relocated_events at past ++ relocated_events at more
moved_more at [] more = refl
moved_more at (e ∷ es) more = ap (λ x. relocated_event at e ∷ x) (moved_more at es more)

any_moved : (p : Event → Bool) (f : Event → Event) → ((e : Event) → p (f e) ≡ p e) → (es : List Event) → list_any p (map f es) ≡ list_any p es
any_moved p f h [] = refl
any_moved p f h (e ∷ es) = ap (λ (b : Bool). b || list_any p (map f es)) (h e) ∙ ap (λ (b : Bool). p e || b) (any_moved p f h es)

fold_moved : {A : Type 0} (g : A → Event → A) (f : Event → Event) → ((a : A) (e : Event) → g a (f e) ≡ g a e) → (a : A) (es : List Event) → fold g a (map f es) ≡ fold g a es
fold_moved g f h a [] = refl
fold_moved g f h a (e ∷ es) = ap (λ x. fold g x (map f es)) (h a e) ∙ fold_moved g f h (g a e) es

count_moved : (p : Event → Bool) (f : Event → Event) → ((e : Event) → p (f e) ≡ p e) → (es : List Event) → count_by p (map f es) ≡ count_by p es
count_moved p f h es = fold_moved (λ (n : ℕ) (e : Event). n + cond (p e) 1 0) f (λ n e. ap (λ (b : Bool). n + cond b 1 0) (h e)) 0 es

numbers_moved : {A : Type 0} (g : A → ℕ × Event → A) (f : Event → Event) → ((a : A) (n : ℕ) (e : Event) → g a (n, f e) ≡ g a (n, e)) → (a : A) (n : ℕ) (es : List Event) → fold g a (enumerate_from n (map f es)) ≡ fold g a (enumerate_from n es)
numbers_moved g f h a n [] = refl
numbers_moved g f h a n (e ∷ es) = ap (λ x. fold g x (enumerate_from (n + 1) (map f es))) (h a n e) ∙ numbers_moved g f h (g a (n, e)) (n + 1) es

---- where a client is

takes_moved : (at : Name → Name) (c : ℕ) (e : Event) → is_take_of c (relocated_event at e) ≡ is_take_of c e
takes_moved at c (event.Take i text given) = refl
takes_moved at c (event.Call i s q h r given) = refl
takes_moved at c (event.Stop i) = refl
takes_moved at c (event.Clock m) = refl
takes_moved at c (event.Idle i) = refl
takes_moved at c (event.Alter table column kind altered) = refl
takes_moved at c (event.Land k s q h r) = refl

stops_moved : (at : Name → Name) (c : ℕ) (e : Event) → stops c (relocated_event at e) ≡ stops c e
stops_moved at c (event.Take i text given) = refl
stops_moved at c (event.Call i s q h r given) = refl
stops_moved at c (event.Stop i) = refl
stops_moved at c (event.Clock m) = refl
stops_moved at c (event.Idle i) = refl
stops_moved at c (event.Alter table column kind altered) = refl
stops_moved at c (event.Land k s q h r) = refl

pends_moved : (at : Name → Name) (c : ℕ) (was : Bool) (e : Event) → pends_after c was (relocated_event at e) ≡ pends_after c was e
pends_moved at c was (event.Take i text given) = refl
pends_moved at c was (event.Call i s q h r given) = refl
pends_moved at c was (event.Stop i) = refl
pends_moved at c was (event.Clock m) = refl
pends_moved at c was (event.Idle i) = refl
pends_moved at c was (event.Alter table column kind altered) = refl
pends_moved at c was (event.Land k s q h r) = refl

pub taken_moved : (at : Name → Name) (c : ℕ) (past : List Event) → takes_of c (relocated_events at past) ≡ takes_of c past
taken_moved at c past = count_moved (is_take_of c) (relocated_event at) (takes_moved at c) past

pub pending_moved : (at : Name → Name) (c : ℕ) (past : List Event) → is_pending c (relocated_events at past) ≡ is_pending c past
pending_moved at c past = fold_moved (pends_after c) (relocated_event at) (pends_moved at c) false past

pub stopped_moved : (at : Name → Name) (c : ℕ) (past : List Event) → has_stopped c (relocated_events at past) ≡ has_stopped c past
stopped_moved at c past = any_moved (stops c) (relocated_event at) (stops_moved at c) past

pub work_moved : (at : Name → Name) (clients : List ScriptClient) (c : ℕ) (past : List Event) → has_work clients c (relocated_events at past) ≡ has_work clients c past
work_moved at clients c past =
    ap (λ (b : Bool). not b && (is_pending c (relocated_events at past) || nat_lt (takes_of c (relocated_events at past)) (length (texts_of clients c)))) (any_moved (stops c) (relocated_event at) (stops_moved at c) past)
    ∙ ap (λ (b : Bool). not (has_stopped c past) && (b || nat_lt (takes_of c (relocated_events at past)) (length (texts_of clients c)))) (pending_moved at c past)
    ∙ ap (λ (n : ℕ). not (has_stopped c past) && (is_pending c past || nat_lt n (length (texts_of clients c)))) (taken_moved at c past)

---- what is in flight

lands_moved : (at : Name → Name) (k : ℕ) (e : Event) → lands k (relocated_event at e) ≡ lands k e
lands_moved at k (event.Take i text given) = refl
lands_moved at k (event.Call i s q h r given) = refl
lands_moved at k (event.Stop i) = refl
lands_moved at k (event.Clock m) = refl
lands_moved at k (event.Idle i) = refl
lands_moved at k (event.Alter table column kind altered) = refl
lands_moved at k (event.Land n s q h r) = refl

delayed_moved : (at : Name → Name) (e : Event) → delayed_by (relocated_event at e) ≡ delayed_by e
delayed_moved at (event.Take i text given) = refl
delayed_moved at (event.Call i s q Seen r given) = refl
delayed_moved at (event.Call i s q Lost r given) = refl
delayed_moved at (event.Call i s q Discarded r given) = refl
delayed_moved at (event.Call i s q Delayed r given) = refl
delayed_moved at (event.Call i s q Broken r given) = refl
delayed_moved at (event.Stop i) = refl
delayed_moved at (event.Clock m) = refl
delayed_moved at (event.Idle i) = refl
delayed_moved at (event.Alter table column kind altered) = refl
delayed_moved at (event.Land n s q h r) = refl

requests_moved : (at : Name → Name) (es : List Event) → filter_map delayed_by (relocated_events at es) ≡ filter_map delayed_by es
requests_moved at [] = refl
requests_moved at (e ∷ es) =
    ap (λ (o : Option Request). cons_option o (filter_map delayed_by (relocated_events at es))) (delayed_moved at e)
    ∙ ap (cons_option (delayed_by e)) (requests_moved at es)

pub asked_moved : (at : Name → Name) (k : ℕ) (past : List Event) → delayed_at k (relocated_events at past) ≡ delayed_at k past
asked_moved at zero past = refl
asked_moved at (suc k) past = ap (λ (qs : List Request). slice_get qs k) (requests_moved at past)

-- a request in flight doesn't name its store
pub flight_moved : (at : Name → Name) (k : ℕ) (past : List Event) → in_flight k (relocated_events at past) ≡ in_flight k past
flight_moved at k past =
    ap (λ (b : Bool). cond b None (delayed_at k (relocated_events at past))) (any_moved (lands k) (relocated_event at) (lands_moved at k) past)
    ∙ ap (λ (o : Option Request). cond (list_any (lands k) past) None o) (asked_moved at k past)

---- what adds columns

added_moved : (at : Name → Name) (catalog : List Table) (e : Event) → added catalog (relocated_event at e) ≡ added catalog e
added_moved at catalog (event.Take i text given) = refl
added_moved at catalog (event.Call i s q h r given) = refl
added_moved at catalog (event.Stop i) = refl
added_moved at catalog (event.Clock m) = refl
added_moved at catalog (event.Idle i) = refl
added_moved at catalog (event.Land k s q h r) = refl
added_moved at catalog (event.Alter table column kind altered) = refl

pub catalog_moved : (at : Name → Name) (catalog : List Table) (past : List Event) → catalog_after catalog (relocated_events at past) ≡ catalog_after catalog past
catalog_moved at catalog past = fold_moved added (relocated_event at) (added_moved at) catalog past

addition_moved : (at : Name → Name) (e : Event) → addition (relocated_event at e) ≡ addition e
addition_moved at (event.Take i text given) = refl
addition_moved at (event.Call i s q h r given) = refl
addition_moved at (event.Stop i) = refl
addition_moved at (event.Clock m) = refl
addition_moved at (event.Idle i) = refl
addition_moved at (event.Land k s q h r) = refl
addition_moved at (event.Alter table column kind altered) = refl

pub additions_moved : (at : Name → Name) (es : List Event) → additions (relocated_events at es) ≡ additions es
additions_moved at [] = refl
additions_moved at (e ∷ es) =
    ap (λ (o : Option Step). cons_option o (additions (relocated_events at es))) (addition_moved at e)
    ∙ ap (cons_option (addition e)) (additions_moved at es)

---- what clients said

says_moved : (at : Name → Name) (c : ℕ) (ss : List Executed) (n : ℕ) (e : Event) → statements_after c ss (n, relocated_event at e) ≡ statements_after c ss (n, e)
says_moved at c ss n (event.Take i text given) = refl
says_moved at c ss n (event.Call i s q h r None) = refl
says_moved at c ss n (event.Call i s q h r (Some a)) = refl
says_moved at c ss n (event.Stop i) = refl
says_moved at c ss n (event.Clock m) = refl
says_moved at c ss n (event.Idle i) = refl
says_moved at c ss n (event.Alter table column kind altered) = refl
says_moved at c ss n (event.Land k s q h r) = refl

pub executed_moved : (at : Name → Name) (c : ℕ) (events : List Event) → statements_by c (relocated_events at events) ≡ statements_by c events
executed_moved at c events = numbers_moved (statements_after c) (relocated_event at) (says_moved at c) [] 1 events

pub begun_moved : (at : Name → Name) (events : List Event) (id : TxId) → begun (relocated_events at events) id ≡ begun events id
begun_moved at events id = ap (λ ss. option_map (λ (s : Executed). s.accepted) (first_of (from_begin (ordinal_of id) ss))) (executed_moved at (client_of id) events)

pub body_moved : (at : Name → Name) (events : List Event) (id : TxId) → body (relocated_events at events) id ≡ body events id
body_moved at events id = ap (λ ss. filter is_effective (take_while (λ s. not (ends s)) (rest_of (from_begin (ordinal_of id) ss)))) (executed_moved at (client_of id) events)

-- a transaction's COMMIT among what its client said
commit_among : TxId → List Executed → Option Executed
commit_among id ss = option_and_then (λ s. cond (reads_commit s.text) (Some s) None) (find ends (rest_of (from_begin (ordinal_of id) ss)))

pub commit_moved : (at : Name → Name) (events : List Event) (id : TxId) → commit_of (relocated_events at events) id ≡ commit_of events id
unfolding commit_among
commit_moved at events id = ap (commit_among id) (executed_moved at (client_of id) events)

---- prepares

prepared_moved : (at : Name → Name) (id : TxId) (e : Event) → is_prepared_by id (relocated_event at e) ≡ is_prepared_by id e
prepared_moved at id (event.Take i text given) = refl
prepared_moved at id (event.Call i s q Seen reply.Applied given) = refl
prepared_moved at id (event.Call i s q Seen (reply.Found f) given) = refl
prepared_moved at id (event.Call i s q Seen (reply.Rows rs) given) = refl
prepared_moved at id (event.Call i s q Seen (reply.NotAll place there) given) = refl
prepared_moved at id (event.Call i s q Seen (reply.NotMet f) given) = refl
prepared_moved at id (event.Call i s q Seen reply.Fault given) = refl
prepared_moved at id (event.Call i s q Seen reply.NoMemory given) = refl
prepared_moved at id (event.Call i s q Lost r given) = refl
prepared_moved at id (event.Call i s q Discarded r given) = refl
prepared_moved at id (event.Call i s q Delayed r given) = refl
prepared_moved at id (event.Call i s q Broken r given) = refl
prepared_moved at id (event.Stop i) = refl
prepared_moved at id (event.Clock m) = refl
prepared_moved at id (event.Idle i) = refl
prepared_moved at id (event.Alter table column kind altered) = refl
prepared_moved at id (event.Land k s q h r) = refl

last_moved : (at : Name → Name) (events : List Event) (id : TxId) → last_prepare (relocated_events at events) id ≡ last_prepare events id
last_moved at events id =
    numbers_moved (λ (found : Option ℕ) (e : ℕ × Event). cond (is_prepared_by id e.1) (Some e.0) found) (relocated_event at) (λ found n e. ap (λ (b : Bool). cond b (Some n) found) (prepared_moved at id e)) None 1 events

pub point_moved : (at : Name → Name) (events : List Event) (id : TxId) → point (relocated_events at events) id ≡ point events id
point_moved at events id =
    ap (λ (p : Option ℕ). unwrap_or p (option_map_or (λ (s : Executed). s.accepted) (commit_of (relocated_events at events) id) 0)) (last_moved at events id)
    ∙ ap (λ (o : Option Executed). unwrap_or (last_prepare events id) (option_map_or (λ (s : Executed). s.accepted) o 0)) (commit_moved at events id)
