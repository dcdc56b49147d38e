-- Calls for the row of a transaction, and what they show of its decision, as calls come.
use Rattle.std.proofs.Common.{◌≡◌, ◌≤◌, ◌<◌, ℕ, Bool, true, false, not, List, [], ◌∷◌, ◌++◌, Option, Some, None, Ok, Err, inl, inr, ◌⊎◌, refl, sym, ap, subst, ◌∙◌, arith}
use Rattle.std.specs.Prelude.{if◌then◌else◌, ◌&&◌, filter, nat_lt, is_some, All, Contains, MatchBool}
use Rattle.std.specs.List.{AllByRecursion, list_all}
use Rattle.std.specs.Option.{option_and_then, option_map_or}
use Rattle.std.specs.Ordering.{is_eq}
use Rattle.std.specs.Cmp.{tied_itself}
use Rattle.std.specs.Result.{result_ok}
use Rattle.std.proofs.lemmas.Bool.{and_parts}
use Rattle.std.proofs.lemmas.Bool.Decides.{nat_tests}
use Rattle.std.proofs.lemmas.List.{append-nil}
use Rattle.std.proofs.lemmas.List.Elements.{All-from_recursion, Contains-append_left, Contains-push, filter-append}
use Rattle.law_answers.specs.Types.{Decided, Decision, Key, Record, Reply, Request, TxId}
use Rattle.sdb_types.specs.Exact.{equal_of}
use Rattle.sdb_types.specs.Order.{key_cmp}
use Rattle.sdb_types.proofs.Public.{all_each as each_any, by_test, clash, key_exact, key_total, none_some}
use Rattle.sdb_record.specs.declared.coordinator.Decision.TheVariants as decision
use Rattle.sdb_record.specs.Coordinator.{coordinator_key_of, decision_in, is_coordinator_table}
use Rattle.sdb_record.specs.Meta.{checked, is_transactional}
use Rattle.sdb_model.specs.Calls.{StoreCall, calls_after, calls_before, decision_found, decision_learned, decision_in_reply, decision_observed, is_of_row, key_asked, records_observed, records_read, record_at_key}
use Rattle.sdb_model.specs.declared.answer.Answer.TheVariants as answer
use Rattle.sdb_model.specs.ReadSet.{finds_transactional, read_finished, reads_rows}
use Rattle.sdb_model.specs.Causes.{HasReply, IsBad, IsDecided, PutsRow}
use Rattle.law_answers.specs.Commits.{IsBadRow, IsGivenUp, NoneOfRow, ObservesBad}
use Rattle.law_answers.proofs.Lists.{each_in, each_kept}
use Rattle.law_clients.proofs.Public.{coordinators, finds_sound}
use Rattle.sdb_model.specs.Tables.{is_data}

---- keys

-- the key of a record of a table is no coordinator key
pub data_apart : (id : TxId) (k : Key) → is_data k ≡ true → is_eq (key_cmp k (coordinator_key_of id)) ≡ false
data_apart id k h = by_test (is_eq (key_cmp k (coordinator_key_of id))) (λ t. clash (sym h ∙ ap (λ (x : Key). is_data x) (key_exact k (coordinator_key_of id) (equal_of _ t)) ∙ ap not (coordinators id))) (λ f. f)

pub row_same : (id : TxId) → is_eq (key_cmp (coordinator_key_of id) (coordinator_key_of id)) ≡ true
row_same id = ap is_eq (tied_itself key_total (coordinator_key_of id))

pub asks_row : (id : TxId) (q : Request) (k : Key) → key_asked q ≡ Some k → k ≡ coordinator_key_of id → is_of_row id q ≡ true
asks_row id q k e same = ap (λ (o : Option Key). option_map_or (λ (x : Key). is_eq (key_cmp x (coordinator_key_of id))) o false) e ∙ ap (λ (x : Key). is_eq (key_cmp x (coordinator_key_of id))) same ∙ row_same id

pub asks_data : (id : TxId) (q : Request) (k : Key) → key_asked q ≡ Some k → is_data k ≡ true → is_of_row id q ≡ false
asks_data id q k e data_key = ap (λ (o : Option Key). option_map_or (λ (x : Key). is_eq (key_cmp x (coordinator_key_of id))) o false) e ∙ data_apart id k data_key

---- what is learned

module _ (id : TxId) where
  pub none_learned : (calls : List StoreCall) → NoneOfRow id calls → decision_learned calls id ≡ None
  none_learned [] none = refl
  none_learned (x ∷ xs) none =
      ap (λ (o : Option Decided). if is_some o then o else decision_learned xs id) (ap (λ (b : Bool). if b then decision_in_reply x.request x.reply else None) none.0) ∙ none_learned xs none.1

  pub learned_more : (calls : List StoreCall) (m : StoreCall) → decision_learned calls id ≡ None → decision_learned (calls ++ m ∷ []) id ≡ decision_learned (m ∷ []) id
  learned_more [] m e = refl
  learned_more (x ∷ xs) m e = by (decision_observed id x) (λ h. learned_more xs m h) e
    where
      by : (o : Option Decided) → (decision_learned xs id ≡ None → decision_learned (xs ++ m ∷ []) id ≡ decision_learned (m ∷ []) id) → (if is_some o then o else decision_learned xs id) ≡ None → (if is_some o then o else decision_learned (xs ++ m ∷ []) id) ≡ decision_learned (m ∷ []) id
      by None ih h = ih h
      by (Some d) ih h = none_some d (sym h)

  pub learned_stays : (calls : List StoreCall) (m : StoreCall) (d : Decided) → decision_learned calls id ≡ Some d → decision_learned (calls ++ m ∷ []) id ≡ Some d
  learned_stays [] m d e = none_some d e
  learned_stays (x ∷ xs) m d e = by (decision_observed id x) (λ h. learned_stays xs m d h) e
    where
      by : (o : Option Decided) → (decision_learned xs id ≡ Some d → decision_learned (xs ++ m ∷ []) id ≡ Some d) → (if is_some o then o else decision_learned xs id) ≡ Some d → (if is_some o then o else decision_learned (xs ++ m ∷ []) id) ≡ Some d
      by None ih h = ih h
      by (Some x) ih h = h

  pub decided_stays : (w : Decision) (calls : List StoreCall) (m : StoreCall) → IsDecided w (decision_learned calls id) → IsDecided w (decision_learned (calls ++ m ∷ []) id)
  decided_stays w calls m h = by (decision_learned calls id) refl h
    where
      by : (o : Option Decided) → decision_learned calls id ≡ o → IsDecided w o → IsDecided w (decision_learned (calls ++ m ∷ []) id)
      by None e k = absurd k
      by (Some d) e k = subst (IsDecided w) (sym (learned_stays calls m d e)) k

  pub shown_is : (m : StoreCall) (o : Option Decided) → is_of_row id m.request ≡ true → decision_in_reply m.request m.reply ≡ o → decision_observed id m ≡ o
  shown_is m o t e = ap (λ (b : Bool). if b then decision_in_reply m.request m.reply else None) t ∙ e

  pub learned_now : (calls : List StoreCall) (m : StoreCall) (o : Option Decided) → decision_learned calls id ≡ None → decision_observed id m ≡ o → decision_learned (calls ++ m ∷ []) id ≡ o
  learned_now calls m o none e = learned_more calls m none ∙ ap (λ (x : Option Decided). if is_some x then x else None) e ∙ same o
    where
      same : (x : Option Decided) → (if is_some x then x else None) ≡ x
      same None = refl
      same (Some d) = refl

  ---- the calls before and after one

  module _ (calls : List StoreCall) (m : StoreCall) (older : AllByRecursion (λ x. x.at < m.at) calls) where
    older_than : (call : StoreCall) → Contains calls call → call.at < m.at
    older_than call has = each_in (λ (x : StoreCall). x.at < m.at) calls call older has

    pub before_stays : (n : ℕ) → n ≤ m.at → calls_before n (calls ++ m ∷ []) ≡ calls_before n calls
    before_stays n l =
        filter-append (λ x. nat_lt x.at n) calls (m ∷ [])
        ∙ ap (λ b. calls_before n calls ++ (if b then m ∷ [] else [])) (above m.at n l)
        ∙ append-nil (calls_before n calls)
      where
        above : (k n : ℕ) → n ≤ k → nat_lt k n ≡ false
        above k n l = grind (arith, nat_tests)

    pub after_more : (n : ℕ) (x : StoreCall) → Contains (calls_after n calls) x → Contains (calls_after n (calls ++ m ∷ [])) x
    after_more n x has = subst (λ ms. Contains ms x) (sym (filter-append (λ y. nat_lt n y.at) calls (m ∷ []))) (Contains-append_left (calls_after n calls) (filter (λ y. nat_lt n y.at) (m ∷ [])) x has)

    -- the newest is after each
    pub after_last : (put : StoreCall) → Contains calls put → Contains (calls_after put.at (calls ++ m ∷ [])) m
    after_last put has =
        subst (λ ms. Contains ms m) (sym (filter-append (λ y. nat_lt put.at y.at) calls (m ∷ []) ∙ ap (λ b. calls_after put.at calls ++ (if b then m ∷ [] else [])) (above put.at m.at (older_than put has)))) (Contains-push (calls_after put.at calls) m)
      where
        above : (k n : ℕ) → k < n → nat_lt k n ≡ true
        above k n l = grind (arith, nat_tests)

    pub given_up_stays : IsGivenUp id calls → IsGivenUp id (calls ++ m ∷ [])
    given_up_stays h = record {
      call = h.call;
      among = Contains-append_left calls (m ∷ []) h.call h.among;
      aborted = h.aborted;
      not_own = subst (All (λ x. PutsRow id decision.Aborted x → ⊥)) (sym (before_stays h.call.at (less h.call.at m.at (older_than h.call h.among)))) h.not_own;
    }
      where
        less : (k n : ℕ) → k < n → k ≤ n
        less k n l = omega arith

    -- the newest found the row ABORTED, and none before put that
    pub given_up_now : AllByRecursion (λ x. PutsRow id decision.Aborted x → ⊥) calls → IsDecided decision.Aborted (decision_found id m) → IsGivenUp id (calls ++ m ∷ [])
    given_up_now none aborted = record {
      call = m;
      among = Contains-push calls m;
      aborted = aborted;
      not_own = subst (All (λ x. PutsRow id decision.Aborted x → ⊥)) (sym (before_stays m.at (omega arith)))
          (All-from_recursion (λ (x : StoreCall). PutsRow id decision.Aborted x → ⊥) (calls_before m.at calls) (each_kept (λ (x : StoreCall). PutsRow id decision.Aborted x → ⊥) (λ x. nat_lt x.at m.at) calls none));
    }

  pub found_now : (m : StoreCall) (row : Record) (d : Decided) → is_of_row id m.request ≡ true → record_at_key m.request m.reply ≡ Some (Some row) → decision_in row ≡ Ok d → d.decision ≡ decision.Aborted → IsDecided decision.Aborted (decision_found id m)
  found_now m row d t executed is aborted = subst (IsDecided decision.Aborted) (sym found) aborted
    where
      found : decision_found id m ≡ Some d
      found =
          ap (λ (b : Bool). if b then option_and_then (λ (f : Option Record). option_and_then (λ (r : Record). result_ok (decision_in r)) f) (record_at_key m.request m.reply) else None) t
          ∙ ap (λ (o : Option (Option Record)). option_and_then (λ (f : Option Record). option_and_then (λ (r : Record). result_ok (decision_in r)) f) o) executed
          ∙ ap result_ok is

-- no call for the row puts it
pub none_puts : (id : TxId) (d : Decision) (calls : List StoreCall) → NoneOfRow id calls → AllByRecursion (λ m. PutsRow id d m → ⊥) calls
none_puts id d calls none = each_any (λ (m : StoreCall). is_of_row id m.request ≡ false) (λ (m : StoreCall). PutsRow id d m → ⊥) calls (λ m f puts. clash (sym puts.0 ∙ f)) none

---- rows that aren't well formed

pub bad_row : (id : TxId) (row : Record) (name : List ℕ) → row.key ≡ coordinator_key_of id → decision_in row ≡ Err name → IsBadRow row
bad_row id row name same e = subst (λ b. MatchBool b ((x : List ℕ) × (decision_in row ≡ Err x)) (is_transactional row ≡ false)) (sym (ap (λ (k : Key). is_coordinator_table k.table) same ∙ coordinators id)) (name, e)

-- and is of no form of records
pub bad_of_row : (row : Record) → is_coordinator_table row.key.table ≡ true → IsBadRow row → IsBad row
bad_of_row row t h = by (is_coordinator_table row.key.table) t h
  where
    by : (b : Bool) → b ≡ true → MatchBool b ((name : List ℕ) × (decision_in row ≡ Err name)) (is_transactional row ≡ false) → (name : List ℕ) × MatchBool b (decision_in row ≡ Err name) (checked row.columns ≡ Err name)
    by true e k = (k.0, k.1)
    by false e k = clash (sym e)

pub bad_is_bad : (id : TxId) (row : Record) → row.key ≡ coordinator_key_of id → IsBadRow row → IsBad row
bad_is_bad id row same h = bad_of_row row (ap (λ (k : Key). is_coordinator_table k.table) same ∙ coordinators id) h

pub shows_bad_row : (id : TxId) (calls : List StoreCall) (m : StoreCall) (row : Record) (name : List ℕ) → records_observed m.reply ≡ row ∷ [] → row.key ≡ coordinator_key_of id → decision_in row ≡ Err name → ObservesBad (calls ++ m ∷ []) (coordinator_key_of id)
shows_bad_row id calls m row name observed same e = record { call = m; found = row; among = Contains-push calls m; observed = subst (λ rs. Contains rs row) (sym observed) (Contains-push [] row); same = same; bad = bad_row id row name same e; place = inl (ap (λ (k : Key). is_coordinator_table k.table) same ∙ coordinators id) }

pub bad_stays : (calls : List StoreCall) (m : StoreCall) (key : Key) → ObservesBad calls key → ObservesBad (calls ++ m ∷ []) key
bad_stays calls m key h = record { call = h.call; found = h.found; among = Contains-append_left calls (m ∷ []) h.call h.among; observed = h.observed; same = h.same; bad = h.bad; place = h.place }

-- what all that a filter keeps pass, each that passes the filter does
each_filtered : (p q : StoreCall → Bool) (ms : List StoreCall) → list_all q (filter p ms) ≡ true → AllByRecursion (λ (m : StoreCall). p m ≡ true → q m ≡ true) ms
each_filtered p q [] h = tt
each_filtered p q (m ∷ ms) h = by (p m) refl (λ k. each_filtered p q ms k) h
  where
    by : (b : Bool) → p m ≡ b → (list_all q (filter p ms) ≡ true → AllByRecursion (λ (x : StoreCall). p x ≡ true → q x ≡ true) ms) → list_all q (if b then m ∷ filter p ms else filter p ms) ≡ true → (p m ≡ true → q m ≡ true) × AllByRecursion (λ (x : StoreCall). p x ≡ true → q x ≡ true) ms
    by true e ih k = let parts = and_parts (q m) (list_all q (filter p ms)) k in ((λ z. parts.0), ih parts.1)
    by false e ih k = ((λ z. clash (sym z ∙ e)), ih k)

each_checked : (rs : List Record) → list_all is_transactional rs ≡ true → AllByRecursion (λ (r : Record). is_transactional r ≡ true) rs
each_checked [] h = tt
each_checked (r ∷ rs) h = let parts = and_parts (is_transactional r) (list_all is_transactional rs) h in (parts.0, each_checked rs parts.1)

-- a read whose calls showed such a record of the key has not finished by the answer that says so
pub bad_unfinished : (calls : List StoreCall) (key : Key) → ObservesBad calls key → read_finished calls (answer.BadRecord key) ≡ false
bad_unfinished calls key b = by (is_coordinator_table key.table) refl b.place
  where
    neither : (x : Bool) → (x && false) ≡ false
    neither true = refl
    neither false = refl

    unchecked : is_coordinator_table key.table ≡ false → is_transactional b.found ≡ false
    unchecked e = subst (λ t. MatchBool t ((name : List ℕ) × (decision_in b.found ≡ Err name)) (is_transactional b.found ≡ false)) (ap (λ (k : Key). is_coordinator_table k.table) b.same ∙ e) b.bad

    checked_all : finds_transactional calls ≡ true → reads_rows b.call ≡ true → Contains (records_read b.call.reply) b.found → is_transactional b.found ≡ true
    checked_all all reads has =
        each_in (λ (r : Record). is_transactional r ≡ true) (records_read b.call.reply) b.found
        (each_checked (records_read b.call.reply) (each_in (λ (m : StoreCall). reads_rows m ≡ true → finds_sound m ≡ true) calls b.call (each_filtered reads_rows finds_sound calls all) b.among reads)) has

    by : (t : Bool) → is_coordinator_table key.table ≡ t → (is_coordinator_table b.found.key.table ≡ true) ⊎ ((reads_rows b.call ≡ true) × Contains (records_read b.call.reply) b.found) → (not (is_coordinator_table key.table) && finds_transactional calls) ≡ false
    by true e p = ap (λ x. not x && finds_transactional calls) e
    by false e (inl own) = clash (sym own ∙ ap (λ (k : Key). is_coordinator_table k.table) b.same ∙ e)
    by false e (inr read) =
        by_test (finds_transactional calls)
        (λ all. clash (sym (checked_all all read.0 read.1) ∙ unchecked e))
        (λ none. ap (λ x. not (is_coordinator_table key.table) && x) none ∙ neither (not (is_coordinator_table key.table)))

pub reply_stays : (is : Reply → Bool) (calls : List StoreCall) (m : StoreCall) → HasReply is calls → HasReply is (calls ++ m ∷ [])
reply_stays is calls m h = (h.0, Contains-append_left calls (m ∷ []) h.0 h.1, h.2)

pub reply_now : (is : Reply → Bool) (calls : List StoreCall) (m : StoreCall) (r : Reply) → m.reply ≡ r → is r ≡ true → HasReply is (calls ++ m ∷ [])
reply_now is calls m r e t = (m, Contains-push calls m, ap is e ∙ t)
