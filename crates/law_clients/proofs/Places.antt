-- A story has the statements that were said, and where each transaction of it begins and ends.
use Rattle.std.proofs.Common.{cond, ◌≡◌, ◌≤◌, ◌<◌, ℕ, zero, suc, Bool, true, false, List, [], ◌∷◌, ◌++◌, length, Some, None, refl, sym, ap, subst, ◌∙◌, arith}
use Rattle.std.specs.Prelude.{find, if◌then◌else◌, ◌==◌, filter, not, take_while}
use Rattle.std.specs.Option.{option_map, option_and_then}
use Rattle.std.proofs.lemmas.Bool.Decides.{nat_tests}
use Rattle.std.proofs.lemmas.List.Sums.{take_while-cons}
use Rattle.law_clients.specs.Types.{Event, TxId}
use Rattle.sdb_model.specs.Transactions.{Executed, begins, ends, statements_by, from_begin, first_of, rest_of, statements_since, begun, commit_of, client_of, ordinal_of, body, is_effective, statements_inside}
use Rattle.std.specs.List.{AllByRecursion}
use Rattle.law_clients.proofs.Lists.{each_more}
use Rattle.law_clients.specs.Story.{Finished, Rest, Closed, Opened, settle, saids_of, statements_in, all_of, IsPlain, IsInside, IsEndedTxn, IsRest, IsWellFormedStory, MayCome, txn_ended_at, commit_in}
use Rattle.std.proofs.lemmas.List.{append-nil as no_more}
use Rattle.sdb_types.proofs.Public.{assoc}

---- lists

saids_more : (fs : List Finished) (f : Finished) → saids_of (fs ++ f ∷ []) ≡ saids_of fs ++ (f.gap ++ f.begin ∷ (f.body ++ f.last ∷ []))
saids_more [] f = refl
saids_more (g ∷ fs) f =
    ap (λ r. g.gap ++ g.begin ∷ (g.body ++ g.last ∷ r)) (saids_more fs f)
    ∙ ap (λ r. g.gap ++ g.begin ∷ r) (sym (assoc g.body (g.last ∷ saids_of fs) (f.gap ++ f.begin ∷ (f.body ++ f.last ∷ []))))
    ∙ sym (assoc g.gap (g.begin ∷ (g.body ++ g.last ∷ saids_of fs)) (f.gap ++ f.begin ∷ (f.body ++ f.last ∷ [])))

---- one statement more

by_test : {A : Type 0} (P : A → Type 0) (b : Bool) (x y : A) → (b ≡ true → P x) → (b ≡ false → P y) → P (if b then x else y)
by_test P true x y t f = t refl
by_test P false x y t f = f refl

pub story_same : (whole : List Finished) (rest : Rest) (s : Executed) → all_of (settle whole rest s) ≡ (saids_of whole ++ statements_in rest) ++ s ∷ []
story_same whole (Closed gap) s = by_test (λ t. all_of t ≡ (saids_of whole ++ gap) ++ s ∷ []) (begins s) (record { whole = whole; rest = Opened gap s [] }) (record { whole = whole; rest = Closed (gap ++ s ∷ []) })
    (λ t. sym (assoc (saids_of whole) gap (s ∷ [])))
    (λ f. sym (assoc (saids_of whole) gap (s ∷ [])))
story_same whole (Opened gap b body) s = by_test (λ t. all_of t ≡ (saids_of whole ++ (gap ++ b ∷ body)) ++ s ∷ []) (ends s) (record { whole = whole ++ record { gap = gap; begin = b; body = body; last = s } ∷ []; rest = Closed [] }) (record { whole = whole; rest = Opened gap b (body ++ s ∷ []) })
    (λ t. no_more (saids_of (whole ++ record { gap = gap; begin = b; body = body; last = s } ∷ [])) ∙ saids_more whole (record { gap = gap; begin = b; body = body; last = s }) ∙ ap (λ r. saids_of whole ++ r) (sym (assoc gap (b ∷ body) (s ∷ []))) ∙ sym (assoc (saids_of whole) (gap ++ b ∷ body) (s ∷ [])))
    (λ f. ap (λ r. saids_of whole ++ r) (sym (assoc gap (b ∷ body) (s ∷ []))) ∙ sym (assoc (saids_of whole) (gap ++ b ∷ body) (s ∷ [])))

pub story_kept : (whole : List Finished) (rest : Rest) (s : Executed) → AllByRecursion IsEndedTxn whole → IsRest rest → MayCome rest s → IsWellFormedStory (settle whole rest s)
story_kept whole (Closed gap) s w r may = by_test IsWellFormedStory (begins s) (record { whole = whole; rest = Opened gap s [] }) (record { whole = whole; rest = Closed (gap ++ s ∷ []) })
    (λ t. record { whole = w; rest = (r, t, tt) })
    (λ f. record { whole = w; rest = each_more IsPlain gap s r (f, may) })
story_kept whole (Opened gap b body) s w r may = by_test IsWellFormedStory (ends s) (record { whole = whole ++ record { gap = gap; begin = b; body = body; last = s } ∷ []; rest = Closed [] }) (record { whole = whole; rest = Opened gap b (body ++ s ∷ []) })
    (λ t. record { whole = each_more IsEndedTxn whole (record { gap = gap; begin = b; body = body; last = s }) w (record { gap = r.0; begin = r.1; body = r.2; last = t; plain = may.0 }); rest = tt })
    (λ f. record { whole = w; rest = (r.0, r.1, each_more IsInside body s r.2 (may.0, f, may.1 f)) })

---- where a transaction begins

-- what begins nothing is passed over
skip : (k : ℕ) (ss more : List Executed) → AllByRecursion IsPlain ss → from_begin (suc k) (ss ++ more) ≡ from_begin (suc k) more
skip k [] more p = refl
skip k (s ∷ ss) more p = ap (λ b. if b then (if k == 0 then s ∷ (ss ++ more) else from_begin k (ss ++ more)) else from_begin (suc k) (ss ++ more)) p.0.0 ∙ skip k ss more p.1

skip_one : (k : ℕ) (s : Executed) (more : List Executed) → begins s ≡ false → from_begin (suc k) (s ∷ more) ≡ from_begin (suc k) more
skip_one k s more p = ap (λ b. if b then (if k == 0 then s ∷ more else from_begin k more) else from_begin (suc k) more) p

plain_body : (ss : List Executed) → AllByRecursion IsInside ss → AllByRecursion IsPlain ss
plain_body [] i = tt
plain_body (s ∷ ss) i = ((i.0.0, i.0.2), plain_body ss i.1)

first : (b : Executed) (more : List Executed) → begins b ≡ true → from_begin 1 (b ∷ more) ≡ b ∷ more
first b more t = ap (λ x. if x then (if 0 == 0 then b ∷ more else from_begin 0 more) else from_begin 1 more) t

later : (k : ℕ) (b : Executed) (more : List Executed) → begins b ≡ true → from_begin (suc (suc k)) (b ∷ more) ≡ from_begin (suc k) more
later k b more t = ap (λ x. if x then (if suc k == 0 then b ∷ more else from_begin (suc k) more) else from_begin (suc (suc k)) more) t ∙ ap (λ x. if x then b ∷ more else from_begin (suc k) more) (positive k)
  where
    positive : (k : ℕ) → (suc k == 0) ≡ false
    positive k = grind (arith, nat_tests)

behind : (k : ℕ) (f : Finished) (more : List Executed) → IsEndedTxn f → from_begin (suc (suc k)) (f.gap ++ f.begin ∷ (f.body ++ f.last ∷ more)) ≡ from_begin (suc k) more
behind k f more ok =
    skip (suc k) f.gap (f.begin ∷ (f.body ++ f.last ∷ more)) ok.gap
    ∙ later k f.begin (f.body ++ f.last ∷ more) ok.begin
    ∙ skip k f.body (f.last ∷ more) (plain_body f.body ok.body)
    ∙ skip_one k f.last more ok.plain

-- the k-th that ended
pub since : (whole : List Finished) (more : List Executed) (k : ℕ) (f : Finished) → AllByRecursion IsEndedTxn whole → txn_ended_at whole k ≡ Some f → (tail : List Executed) × (from_begin (suc k) (saids_of whole ++ more) ≡ f.begin ∷ (f.body ++ f.last ∷ tail))
since [] more k f w e = absurd (cc)
since (g ∷ fs) more zero f w e = (
  saids_of fs ++ more,
  ap (from_begin 1) (whole_is g fs more)
      ∙ skip 0 g.gap (g.begin ∷ (g.body ++ g.last ∷ (saids_of fs ++ more))) w.0.gap
      ∙ first g.begin (g.body ++ g.last ∷ (saids_of fs ++ more)) w.0.begin
      ∙ ap (λ (x : Finished). x.begin ∷ (x.body ++ x.last ∷ (saids_of fs ++ more))) (some_is g f e),
)
  where
    some_is : (x y : Finished) → Some x ≡ Some y → x ≡ y
    some_is x y e = cc

    whole_is : (g : Finished) (fs : List Finished) (more : List Executed) → (g.gap ++ g.begin ∷ (g.body ++ g.last ∷ saids_of fs)) ++ more ≡ g.gap ++ g.begin ∷ (g.body ++ g.last ∷ (saids_of fs ++ more))
    whole_is g fs more = assoc g.gap (g.begin ∷ (g.body ++ g.last ∷ saids_of fs)) more ∙ ap (λ r. g.gap ++ g.begin ∷ r) (assoc g.body (g.last ∷ saids_of fs) more)
since (g ∷ fs) more (suc k) f w e =
    let r = since fs more k f w.1 e in
    (r.0, ap (from_begin (suc (suc k))) (assoc g.gap (g.begin ∷ (g.body ++ g.last ∷ saids_of fs)) more ∙ ap (λ x. g.gap ++ g.begin ∷ x) (assoc g.body (g.last ∷ saids_of fs) more)) ∙ behind k g (saids_of fs ++ more) w.0 ∙ r.1)

-- the open one, and none after it
pub since_open : (whole : List Finished) (gap : List Executed) (b : Executed) (body : List Executed) → AllByRecursion IsEndedTxn whole → AllByRecursion IsPlain gap → begins b ≡ true → from_begin (suc (length whole)) (saids_of whole ++ (gap ++ b ∷ body)) ≡ b ∷ body
since_open [] gap b body w p t = skip 0 gap (b ∷ body) p ∙ first b body t
since_open (g ∷ fs) gap b body w p t =
    ap (from_begin (suc (suc (length fs)))) (assoc g.gap (g.begin ∷ (g.body ++ g.last ∷ saids_of fs)) (gap ++ b ∷ body) ∙ ap (λ x. g.gap ++ g.begin ∷ x) (assoc g.body (g.last ∷ saids_of fs) (gap ++ b ∷ body)))
    ∙ behind (length fs) g (saids_of fs ++ (gap ++ b ∷ body)) w.0
    ∙ since_open fs gap b body w.1 p t

nothing : (k : ℕ) (ss : List Executed) → AllByRecursion IsPlain ss → from_begin (suc k) ss ≡ []
nothing k ss p = ap (from_begin (suc k)) (sym (no_more ss)) ∙ skip k ss [] p

pub since_none : (whole : List Finished) (gap : List Executed) (k : ℕ) → AllByRecursion IsEndedTxn whole → AllByRecursion IsPlain gap → length whole ≤ k → from_begin (suc k) (saids_of whole ++ gap) ≡ []
since_none [] gap k w p l = nothing k gap p
since_none (g ∷ fs) gap zero w p l = absurd (omega arith)
since_none (g ∷ fs) gap (suc k) w p l =
    ap (from_begin (suc (suc k))) (assoc g.gap (g.begin ∷ (g.body ++ g.last ∷ saids_of fs)) gap ∙ ap (λ x. g.gap ++ g.begin ∷ x) (assoc g.body (g.last ∷ saids_of fs) gap))
    ∙ behind k g (saids_of fs ++ gap) w.0
    ∙ since_none fs gap k w.1 p (omega arith)

---- where it ends

pub ends_at : (body : List Executed) (s : Executed) (more : List Executed) → AllByRecursion IsInside body → ends s ≡ true → find ends (body ++ s ∷ more) ≡ Some s
ends_at [] s more i t = ap (λ b. if b then Some s else find ends more) t
ends_at (x ∷ xs) s more i t = ap (λ b. if b then Some x else find ends (xs ++ s ∷ more)) i.0.1 ∙ ends_at xs s more i.1 t

pub ends_nowhere : (body : List Executed) → AllByRecursion IsInside body → find ends body ≡ None
ends_nowhere [] i = refl
ends_nowhere (x ∷ xs) i = ap (λ b. if b then Some x else find ends xs) i.0.1 ∙ ends_nowhere xs i.1

---- in the model's words

pub finished_ok : (whole : List Finished) (k : ℕ) (f : Finished) → AllByRecursion IsEndedTxn whole → txn_ended_at whole k ≡ Some f → IsEndedTxn f
finished_ok [] k f w e = absurd (cc)
finished_ok (g ∷ fs) zero f w e = subst IsEndedTxn (some_is g f e) w.0
  where
    some_is : (x y : Finished) → Some x ≡ Some y → x ≡ y
    some_is x y e = cc
finished_ok (g ∷ fs) (suc k) f w e = finished_ok fs k f w.1 e

-- A transaction that ended began with its BEGIN, and its COMMIT is what ended it, where that reads as one.
pub finished_is : (events : List Event) (id : TxId) (whole : List Finished) (more : List Executed) (k : ℕ) (f : Finished) → statements_by (client_of id) events ≡ saids_of whole ++ more → ordinal_of id ≡ suc k → AllByRecursion IsEndedTxn whole → txn_ended_at whole k ≡ Some f
    → (begun events id ≡ Some f.begin.accepted) × (commit_of events id ≡ commit_in f.last)
finished_is events id whole more k f same ordinal w e =
    let r = since whole more k f w e in
    let ok = finished_ok whole k f w e in
    let here : statements_since events id ≡ f.begin ∷ (f.body ++ f.last ∷ r.0) = ap (λ n. from_begin n (statements_by (client_of id) events)) ordinal ∙ ap (from_begin (suc k)) same ∙ r.1 in (
      ap (λ ss. option_map (λ (s : Executed). s.accepted) (first_of ss)) here,
      ap (λ ss. option_and_then commit_in (find ends (rest_of ss))) here ∙ ap (option_and_then commit_in) (ends_at f.body f.last r.0 ok.body ok.last),
    )

-- An open one began, and has no COMMIT.
pub open_is : (events : List Event) (id : TxId) (whole : List Finished) (gap : List Executed) (b : Executed) (body : List Executed) → statements_by (client_of id) events ≡ saids_of whole ++ (gap ++ b ∷ body) → ordinal_of id ≡ suc (length whole) → AllByRecursion IsEndedTxn whole → IsRest (Opened gap b body)
    → (begun events id ≡ Some b.accepted) × (commit_of events id ≡ None)
open_is events id whole gap b body same ordinal w rest =
    let here : statements_since events id ≡ b ∷ body = ap (λ n. from_begin n (statements_by (client_of id) events)) ordinal ∙ ap (from_begin (suc (length whole))) same ∙ since_open whole gap b body w rest.0 rest.1 in (
      ap (λ ss. option_map (λ (s : Executed). s.accepted) (first_of ss)) here,
      ap (λ ss. option_and_then commit_in (find ends (rest_of ss))) here ∙ ap (option_and_then commit_in) (ends_nowhere body rest.2),
    )

-- No other was begun.
pub none_is : (events : List Event) (id : TxId) (whole : List Finished) (gap : List Executed) (k : ℕ) → statements_by (client_of id) events ≡ saids_of whole ++ gap → ordinal_of id ≡ suc k → length whole ≤ k → AllByRecursion IsEndedTxn whole → AllByRecursion IsPlain gap
    → (begun events id ≡ None) × (commit_of events id ≡ None)
none_is events id whole gap k same ordinal l w p =
    let here : statements_since events id ≡ [] = ap (λ n. from_begin n (statements_by (client_of id) events)) ordinal ∙ ap (from_begin (suc k)) same ∙ since_none whole gap k w p l in
    (ap (λ ss. option_map (λ (s : Executed). s.accepted) (first_of ss)) here, ap (λ ss. option_and_then commit_in (find ends (rest_of ss))) here)

-- Behind the open one there is none.
pub since_past : (whole : List Finished) (gap : List Executed) (b : Executed) (body : List Executed) (k : ℕ) → AllByRecursion IsEndedTxn whole → IsRest (Opened gap b body) → length whole < k → from_begin (suc k) (saids_of whole ++ (gap ++ b ∷ body)) ≡ []
since_past [] gap b body zero w rest l = absurd (omega arith)
since_past [] gap b body (suc k) w rest l = skip (suc k) gap (b ∷ body) rest.0 ∙ later k b body rest.1 ∙ nothing k body (plain_body body rest.2)
since_past (g ∷ fs) gap b body zero w rest l = absurd (omega arith)
since_past (g ∷ fs) gap b body (suc k) w rest l =
    ap (from_begin (suc (suc k))) (assoc g.gap (g.begin ∷ (g.body ++ g.last ∷ saids_of fs)) (gap ++ b ∷ body) ∙ ap (λ x. g.gap ++ g.begin ∷ x) (assoc g.body (g.last ∷ saids_of fs) (gap ++ b ∷ body)))
    ∙ behind k g (saids_of fs ++ (gap ++ b ∷ body)) w.0
    ∙ since_past fs gap b body k w.1 rest (omega arith)

pub past_is : (events : List Event) (id : TxId) (whole : List Finished) (gap : List Executed) (b : Executed) (body : List Executed) (k : ℕ) → statements_by (client_of id) events ≡ saids_of whole ++ (gap ++ b ∷ body) → ordinal_of id ≡ suc k → length whole < k → AllByRecursion IsEndedTxn whole → IsRest (Opened gap b body)
    → (begun events id ≡ None) × (commit_of events id ≡ None)
past_is events id whole gap b body k same ordinal l w rest =
    let here : statements_since events id ≡ [] = ap (λ n. from_begin n (statements_by (client_of id) events)) ordinal ∙ ap (from_begin (suc k)) same ∙ since_past whole gap b body k w rest l in
    (ap (λ ss. option_map (λ (s : Executed). s.accepted) (first_of ss)) here, ap (λ ss. option_and_then commit_in (find ends (rest_of ss))) here)

---- bodies

-- up to what ends a transaction
inside_only : (body : List Executed) (s : Executed) (more : List Executed) → AllByRecursion IsInside body → ends s ≡ true → take_while (λ x. not (ends x)) (body ++ s ∷ more) ≡ body
inside_only [] s more i t = take_while-cons (λ x. not (ends x)) s more ∙ ap (λ b. cond (not b) (s ∷ take_while (λ x. not (ends x)) more) []) t
inside_only (x ∷ xs) s more i t = take_while-cons (λ y. not (ends y)) x (xs ++ s ∷ more) ∙ ap (λ b. cond (not b) (x ∷ take_while (λ y. not (ends y)) (xs ++ s ∷ more)) []) i.0.1 ∙ ap (λ r. x ∷ r) (inside_only xs s more i.1 t)

inside_all : (body : List Executed) → AllByRecursion IsInside body → take_while (λ x. not (ends x)) body ≡ body
inside_all [] i = refl
inside_all (x ∷ xs) i = take_while-cons (λ y. not (ends y)) x xs ∙ ap (λ b. cond (not b) (x ∷ take_while (λ y. not (ends y)) xs) []) i.0.1 ∙ ap (λ r. x ∷ r) (inside_all xs i.1)

-- The statements of a transaction that ended, up to its end.
pub finished_inside : (events : List Event) (id : TxId) (whole : List Finished) (more : List Executed) (k : ℕ) (f : Finished) → statements_by (client_of id) events ≡ saids_of whole ++ more → ordinal_of id ≡ suc k → AllByRecursion IsEndedTxn whole → txn_ended_at whole k ≡ Some f → statements_inside events id ≡ f.body
finished_inside events id whole more k f same ordinal w e =
    let r = since whole more k f w e in
    let ok = finished_ok whole k f w e in
    ap (λ ss. take_while (λ x. not (ends x)) (rest_of ss)) (ap (λ n. from_begin n (statements_by (client_of id) events)) ordinal ∙ ap (from_begin (suc k)) same ∙ r.1)
    ∙ inside_only f.body f.last r.0 ok.body ok.last

-- Its body is what changed something of them.
pub finished_body : (events : List Event) (id : TxId) (whole : List Finished) (more : List Executed) (k : ℕ) (f : Finished) → statements_by (client_of id) events ≡ saids_of whole ++ more → ordinal_of id ≡ suc k → AllByRecursion IsEndedTxn whole → txn_ended_at whole k ≡ Some f → body events id ≡ filter is_effective f.body
finished_body events id whole more k f same ordinal w e = ap (filter is_effective) (finished_inside events id whole more k f same ordinal w e)

-- And so is that of an open one.
pub open_body : (events : List Event) (id : TxId) (whole : List Finished) (gap : List Executed) (b : Executed) (inside : List Executed) → statements_by (client_of id) events ≡ saids_of whole ++ (gap ++ b ∷ inside) → ordinal_of id ≡ suc (length whole) → AllByRecursion IsEndedTxn whole → IsRest (Opened gap b inside) → body events id ≡ filter is_effective inside
open_body events id whole gap b inside same ordinal w rest =
    ap (λ ss. filter is_effective (take_while (λ x. not (ends x)) (rest_of ss))) (ap (λ n. from_begin n (statements_by (client_of id) events)) ordinal ∙ ap (from_begin (suc (length whole))) same ∙ since_open whole gap b inside w rest.0 rest.1)
    ∙ ap (filter is_effective) (inside_all inside rest.2)
