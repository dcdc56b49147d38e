-- Each call of a COMMIT keeps what the calls say of where it is.
use Rattle.std.proofs.Common.{◌≡◌, ◌<◌, ◌^◌, ◌+◌, ◌⊎◌, inl, inr, ℕ, Bool, true, false, not, cond, List, [], ◌∷◌, ◌++◌, map, length, Option, Some, None, Result, Ok, Err, refl, sym, ap, subst, ◌∙◌}
use Rattle.std.specs.Prelude.{if◌then◌else◌, filter, nat_lt, slice_get, IfSome}
use Rattle.std.specs.List.{AllByRecursion}
use Rattle.std.specs.Option.{option_and_then, option_map, option_map_or}
use Rattle.std.specs.Result.{result_ok}
use Rattle.std.proofs.lemmas.List.Elements.{Contains-append_left, Contains-push}
use Rattle.law_answers.specs.Types.{Check, DecideStep, Decided, Decision, Key, Outcome, Put, Read, Record, Reply, Request, Scan, TxId, Write}
use Rattle.sdb_types.specs.declared.record.Condition.TheVariants as condition
use Rattle.sdb_types.specs.declared.record.Reply.TheVariants as reply
use Rattle.sdb_types.specs.declared.record.Request.TheVariants as ask
use Rattle.sdb_types.specs.Contents.{CanAnswer, put_at}
use Rattle.sdb_types.proofs.Public.{all_each as each_any, append_all as each_append, clash, none_some, some_is}
use Rattle.sdb_record.specs.declared.coordinator.Decision.TheVariants as decision
use Rattle.sdb_record.specs.Coordinator.{coordinator_key_of, coordinator_row_of, decision_in}
use Rattle.sdb_record.specs.Groups.{grouped, in_groups}
use Rattle.sdb_record.specs.Meta.{is_moment}
use Rattle.sdb_record.specs.Rolls.{IsBaseOf, IsWrite, undo}
use Rattle.sdb_record.proofs.Public.{grouped_all, prepared-key, row-decision, row-key}
use Rattle.sdb_record.specs.Among.{is_written}
use Rattle.sdb_model.specs.Calls.{StoreCall, decision_learned, decision_in_reply, is_of_row, key_asked, put_by, records_observed, record_at_key}
use Rattle.sdb_model.specs.Causes.{HasReply, IsDecided, PutsRow}
use Rattle.sdb_phases.specs.declared.step.DecidePhase.TheVariants as phase
use Rattle.sdb_phases.specs.declared.step.DecideStep.TheVariants as decide
use Rattle.sdb_phases.specs.declared.step.Outcome.TheVariants as outcome
use Rattle.sdb_phases.specs.declared.step.PrepareStep.TheVariants as prepare
use Rattle.sdb_phases.specs.Checks.{check_of_read, check_of_scan, checks, difference_in}
use Rattle.sdb_phases.specs.Commit.{Stage, Preparing, Checking, Deciding, Forward, Stopping, Back, Over, after_abort, after_check, after_prepare, back, checking, decided, forward, pending, preparing, out_of_memory, out_of_memory_answer, step}
use Rattle.sdb_phases.specs.Steps.{decide_next, judged, prepare_step, refused, step_of_row, touched_after, validate_step}
use Rattle.sdb_phases.specs.Work.{Work, abort_of, back_of, backs, decide_of, groups_of, look_of, prepares, prepares_of, is_as_prepared, writes_before}
use Rattle.law_clients.proofs.Public.{each_at, each_filter, each_map, each_more}
use Rattle.law_answers.specs.Commits.{EndsBy, HasFailed, HasFaulted, IsFailing, IsUndecided, NoneDecides, NoneOfRow, PutsOutOfMemory, StageByCalls}
use Rattle.law_answers.proofs.Groups.{all_in_groups}
use Rattle.law_answers.proofs.Rows.{after_last, after_more, asks_data, asks_row, bad_stays, decided_stays, found_now, given_up_now, given_up_stays, learned_now, none_learned, none_puts, reply_now, reply_stays, shown_is, shows_bad_row}
use Rattle.sdb_types.specs.Replies.{is_fault}
use Rattle.sdb_model.specs.Tables.{is_data}

-- A COMMIT of records of tables, with an id and a moment in range.
pub record IsOfData (p : Work) : Type 0 where
  pub small : p.id.0 < 2 ^ 128
  pub moment : is_moment p.now ≡ true
  pub writes : AllByRecursion (λ w. is_data w.key ≡ true) p.writes
  pub reads : AllByRecursion (λ r. is_data r.key ≡ true) p.reads

-- a call can't put both decisions
one_decision : (o : Option Decided) → IsDecided decision.Committed o → IsDecided decision.Aborted o → ⊥
one_decision None a b = absurd a
one_decision (Some d) a b = let z : decision.Committed ≡ decision.Aborted = sym a ∙ b in absurd (cc)

-- where no call put the row COMMITTED, each that did was out of memory
starves : (id : TxId) (calls : List StoreCall) → NoneDecides id calls → PutsOutOfMemory id calls
starves id calls none = each_any (λ (m : StoreCall). PutsRow id decision.Committed m → ⊥) (λ (m : StoreCall). PutsRow id decision.Committed m → m.reply ≡ reply.NoMemory) calls (λ m never puts. absurd (never puts)) none

module _ (p : Work) (is : IsOfData p) where
  ---- where no call is for the row

  prepares_data : AllByRecursion (λ q. is_of_row p.id q ≡ false) (prepares p)
  prepares_data =
      each_map (λ q. is_of_row p.id q ≡ false) (prepares_of p.id p.now) (grouped p.writes)
      (each_any (AllByRecursion (λ (w : Write). is_data w.key ≡ true)) (λ (g : List Write). is_of_row p.id (prepares_of p.id p.now g) ≡ false) (grouped p.writes) group (grouped_all (λ (w : Write). is_data w.key ≡ true) p.writes is.writes))
    where
      group : (g : List Write) → AllByRecursion (λ (w : Write). is_data w.key ≡ true) g → is_of_row p.id (prepares_of p.id p.now g) ≡ false
      group [] h = refl
      group (w ∷ []) h = asks_data p.id (prepares_of p.id p.now (w ∷ [])) w.key (ap Some (prepared-key w p.id p.now)) h.0
      group (v ∷ w ∷ ws) h = refl

  backs_data : AllByRecursion IsWrite p.writes → AllByRecursion (λ q. is_of_row p.id q ≡ false) (backs p)
  backs_data valid =
      each_map (λ q. is_of_row p.id q ≡ false) (back_of p.id) (in_groups p.writes)
      (all_in_groups (λ (w : Write). is_of_row p.id (back_of p.id w) ≡ false) p.writes (all p.writes is.writes valid))
    where
      key_of : (w : Write) (o : Option Record) → IfSome o (IsBaseOf w.key) → key_asked (undo (is_as_prepared p.id w) w.key o) ≡ Some w.key
      key_of w None h = refl
      key_of w (Some b) h = ap Some h.0

      all : (ws : List Write) → AllByRecursion (λ w. is_data w.key ≡ true) ws → AllByRecursion IsWrite ws → AllByRecursion (λ w. is_of_row p.id (back_of p.id w) ≡ false) ws
      all [] h g = tt
      all (w ∷ ws) h g = (asks_data p.id (back_of p.id w) w.key (key_of w w.base g.0.base) h.0, all ws h.1 g.1)

  checks_data : AllByRecursion (λ c. is_of_row p.id c.request ≡ false) (checks p)
  checks_data =
      each_append (λ (c : Check). is_of_row p.id c.request ≡ false) (map check_of_read (filter (λ r. not (is_written p.writes r.key)) p.reads)) (map (check_of_scan p.writes) p.scans)
      (each_map (λ (c : Check). is_of_row p.id c.request ≡ false) check_of_read (filter (λ r. not (is_written p.writes r.key)) p.reads)
      (each_any (λ (r : Read). (is_data r.key ≡ true) × (not (is_written p.writes r.key) ≡ true)) (λ (r : Read). is_of_row p.id (ask.Get r.key) ≡ false) (filter (λ r. not (is_written p.writes r.key)) p.reads)
      (λ r h. asks_data p.id (ask.Get r.key) r.key refl h.0) (each_filter (λ (r : Read). is_data r.key ≡ true) (λ (r : Read). not (is_written p.writes r.key)) p.reads is.reads)))
      (each_map (λ (c : Check). is_of_row p.id c.request ≡ false) (check_of_scan p.writes) p.scans (scans p.scans))
    where
      scans : (xs : List Scan) → AllByRecursion (λ s. is_of_row p.id (check_of_scan p.writes s).request ≡ false) xs
      scans [] = tt
      scans (x ∷ xs) = (refl, scans xs)

  module _ (calls : List StoreCall) (m : StoreCall) (older : AllByRecursion (λ x. x.at < m.at) calls) where
    abbrev more : List StoreCall
    more = calls ++ m ∷ []

    none_more : NoneOfRow p.id calls → is_of_row p.id m.request ≡ false → NoneOfRow p.id more
    none_more none f = each_more (λ (x : StoreCall). is_of_row p.id x.request ≡ false) calls m none f

    ---- ends

    failed_more : HasFailed p.id calls → HasFailed p.id more
    failed_more h = record {
      put = h.put;
      later = h.later;
      deciding = (Contains-append_left calls (m ∷ []) h.put h.deciding.0, h.deciding.1, h.deciding.2);
      failed = (after_more p.id calls m older h.put.at h.later h.failed.0, h.failed.1, h.failed.2);
    }

    -- why it ends so stays
    ends_more : (a : Outcome) → (PutsRow p.id decision.Committed m → ⊥) → EndsBy p.id calls a → EndsBy p.id more a
    ends_more outcome.Committed other h = decided_stays p.id decision.Committed calls m h
    ends_more (outcome.Conflict key found) other h = each_more (λ (x : StoreCall). PutsRow p.id decision.Committed x → ⊥) calls m h other
    ends_more (outcome.Expired u) other h = (h.0, given_up_stays p.id calls m older h.1)
    ends_more outcome.Faulted other h = reply_stays is_fault calls m h
    ends_more (outcome.Unknown u) other h = (h.0, failed_more h.1)
    ends_more (outcome.BadRecord key) other h = (h.0, bad_stays calls m key h.1)
    ends_more outcome.NoMemory other h = each_more (λ (x : StoreCall). PutsRow p.id decision.Committed x → x.reply ≡ reply.NoMemory) calls m h (λ puts. absurd (other puts))

    -- no call so far is for the row: a conflict, or out of memory
    moved_now : NoneOfRow p.id more → NoneDecides p.id more
    moved_now none = none_puts p.id decision.Committed more none

    starved_now : NoneOfRow p.id more → PutsOutOfMemory p.id more
    starved_now none = starves p.id more (moved_now none)

    ---- stages without a call

    forward_is : (i : ℕ) → EndsBy p.id more outcome.Committed → StageByCalls p more (forward p i)
    forward_is i h = elim (nat_lt i (groups_of p)) as (λ b. StageByCalls p more (cond b (Forward i) (Over outcome.Committed))) [ true ↦ h | false ↦ h ]

    back_is : (a : Outcome) (n i : ℕ) → EndsBy p.id more a → StageByCalls p more (back a n i)
    back_is a n i h = elim (nat_lt i n) as (λ b. StageByCalls p more (cond b (Back a n i) (Over a))) [ true ↦ h | false ↦ h ]

    checking_is : (i : ℕ) → NoneOfRow p.id more → StageByCalls p more (checking p i)
    checking_is i h = elim (nat_lt i (length (checks p))) as (λ b. StageByCalls p more (cond b (Checking i) (Deciding phase.Put))) [ true ↦ h | false ↦ h ]

    ---- prepares and checks

    refused_put : (i n : ℕ) (o : Option Put) (found : Option Record) → NoneOfRow p.id more → StageByCalls p more (after_prepare p i n (option_map_or (λ (u : Put). prepare.Conflict u.rec.key found) o prepare.NoMemory))
    refused_put i n None found none = starved_now none
    refused_put i n (Some u) found none = moved_now none

    refused_is : (i n : ℕ) (o : Option Request) (k : ℕ) (found : Option Record) → NoneOfRow p.id more → StageByCalls p more (after_prepare p i n (refused o k found))
    refused_is i n None k found none = starved_now none
    refused_is i n (Some (ask.PutIf rec c)) k found none = moved_now none
    refused_is i n (Some (ask.Get key)) k found none = starved_now none
    refused_is i n (Some (ask.Scan span)) k found none = starved_now none
    refused_is i n (Some (ask.DeleteIf key c)) k found none = starved_now none
    refused_is i n (Some (ask.PutAll batch)) k found none = refused_put i n (put_at batch k) found none

    prepared_is : (b : Bool) (i n : ℕ) (o : Option Request) (r : Reply) → NoneOfRow p.id more → m.reply ≡ r → StageByCalls p more (after_prepare p i n (prepare_step b o r))
    prepared_is true i n o reply.Applied none e = none
    prepared_is false i n o reply.Applied none e = checking_is 0 none
    prepared_is b i n o (reply.NotMet found) none e = refused_is i n o 1 found none
    prepared_is b i n o reply.Fault none e = reply_now is_fault calls m reply.Fault e refl
    prepared_is b i n o (reply.Found found) none e = starved_now none
    prepared_is b i n o (reply.Rows rows) none e = starved_now none
    prepared_is b i n o (reply.NotAll place there) none e = refused_is i n o place there none
    prepared_is b i n o reply.NoMemory none e = starved_now none

    judged_is : (b : Bool) (i : ℕ) (o : Option (Key × Option Record)) → NoneOfRow p.id more → StageByCalls p more (after_check p i (judged b o))
    judged_is true i None none = none
    judged_is false i None none = none
    judged_is b i (Some d) none = moved_now none

    checked_is : (b : Bool) (i : ℕ) (o : Option Check) (r : Reply) → NoneOfRow p.id more → m.reply ≡ r → StageByCalls p more (after_check p i (validate_step b o r))
    checked_is b i o reply.Fault none e = reply_now is_fault calls m reply.Fault e refl
    checked_is b i o reply.NoMemory none e = starved_now none
    checked_is b i None reply.Applied none e = starved_now none
    checked_is b i None (reply.NotMet found) none e = starved_now none
    checked_is b i None (reply.Found found) none e = starved_now none
    checked_is b i None (reply.Rows rows) none e = starved_now none
    checked_is b i None (reply.NotAll place there) none e = starved_now none
    checked_is b i (Some c) reply.Applied none e = judged_is b i (difference_in c reply.Applied) none
    checked_is b i (Some c) (reply.NotMet found) none e = judged_is b i (difference_in c (reply.NotMet found)) none
    checked_is b i (Some c) (reply.Found found) none e = judged_is b i (difference_in c (reply.Found found)) none
    checked_is b i (Some c) (reply.Rows rows) none e = judged_is b i (difference_in c (reply.Rows rows)) none
    checked_is b i (Some c) (reply.NotAll place there) none e = judged_is b i (difference_in c (reply.NotAll place there)) none

    ---- the decision

    -- a row was found or not met, of the transaction's key, and is followed
    followed_is : (aborted : DecideStep) (row : Record) → is_of_row p.id m.request ≡ true → row.key ≡ coordinator_key_of p.id → records_observed m.reply ≡ row ∷ [] → decision_in_reply m.request m.reply ≡ result_ok (decision_in row) → decision_learned calls p.id ≡ None
        → ((d : Decided) → decision_in row ≡ Ok d → d.decision ≡ decision.Aborted → StageByCalls p more (decided p (phase.Ended, aborted))) → StageByCalls p more (decided p (phase.Ended, step_of_row p.id aborted (decision_in row)))
    followed_is aborted row t same observed executed none given = by (decision_in row) refl
      where
        by_decision : (d : Decided) (w : Decision) → decision_in row ≡ Ok d → d.decision ≡ w → StageByCalls p more (decided p (phase.Ended, elim w [ decision.Committed ↦ decide.Committed | decision.Aborted ↦ aborted ]))
        by_decision d decision.Committed e w = forward_is 0 (subst (IsDecided decision.Committed) (sym (learned_now p.id calls m (Some d) none (shown_is p.id m (Some d) t (executed ∙ ap result_ok e)))) w)
        by_decision d decision.Aborted e w = given d e w

        by : (v : Result Decided (List ℕ)) → decision_in row ≡ v → StageByCalls p more (decided p (phase.Ended, step_of_row p.id aborted v))
        by (Err name) e = (refl, shows_bad_row p.id calls m row name observed same e)
        by (Ok d) e = by_decision d d.decision e refl

    -- it is given up where none before has put ABORTED
    expires_is : (row : Record) → is_of_row p.id m.request ≡ true → record_at_key m.request m.reply ≡ Some (Some row) → AllByRecursion (λ x. PutsRow p.id decision.Aborted x → ⊥) calls → (d : Decided) → decision_in row ≡ Ok d → d.decision ≡ decision.Aborted → StageByCalls p more (decided p (phase.Ended, decide.Expired p.id))
    expires_is row t executed none d e w = back_is (outcome.Expired p.id) (length p.writes) 0 (refl, given_up_now p.id calls m older none (found_now p.id m row d t executed e w))

    put_row : (d : Decision) → m.request ≡ ask.PutIf (coordinator_row_of p.id d p.now) condition.Absent → is_of_row p.id m.request ≡ true
    put_row d e = ap (is_of_row p.id) e ∙ asks_row p.id (ask.PutIf (coordinator_row_of p.id d p.now) condition.Absent) (coordinator_row_of p.id d p.now).key refl (row-key p.id d p.now)

    look_row : m.request ≡ look_of p.id → is_of_row p.id m.request ≡ true
    look_row e = ap (is_of_row p.id) e ∙ asks_row p.id (look_of p.id) (coordinator_key_of p.id) refl refl

    -- what the put of a decision shows
    puts_decision : (d : Decision) → decision_in (coordinator_row_of p.id d p.now) ≡ Ok (record { decision = d; created_at = p.now })
    puts_decision d = row-decision p.id d p.now is.small is.moment

    puts_it : (d : Decision) → m.request ≡ ask.PutIf (coordinator_row_of p.id d p.now) condition.Absent → PutsRow p.id d m
    puts_it d e = (put_row d e, subst (λ (q : Request). IsDecided d (option_and_then (λ (row : Record). result_ok (decision_in row)) (put_by q))) (sym e) (subst (λ (v : Result Decided (List ℕ)). IsDecided d (result_ok v)) (sym (puts_decision d)) refl))

    applied_shows : (d : Decision) → m.request ≡ ask.PutIf (coordinator_row_of p.id d p.now) condition.Absent → m.reply ≡ reply.Applied → decision_in_reply m.request m.reply ≡ Some (record { decision = d; created_at = p.now })
    applied_shows d e f = ap (λ (q : Request). decision_in_reply q m.reply) e ∙ ap (decision_in_reply (ask.PutIf (coordinator_row_of p.id d p.now) condition.Absent)) f ∙ ap result_ok (puts_decision d)

    unmet_key : (d : Decision) (row : Record) → m.request ≡ ask.PutIf (coordinator_row_of p.id d p.now) condition.Absent → m.reply ≡ reply.NotMet (Some row) → CanAnswer m.request m.reply → row.key ≡ coordinator_key_of p.id
    unmet_key d row e f can =
        let k : CanAnswer (ask.PutIf (coordinator_row_of p.id d p.now) condition.Absent) (reply.NotMet (Some row)) = subst (λ (q : Request). CanAnswer q (reply.NotMet (Some row))) e (subst (CanAnswer m.request) f can) in
        k.0 ∙ row-key p.id d p.now

    -- a put that there is no row can't be unmet where there is none
    unmet_none : (d : Decision) → m.request ≡ ask.PutIf (coordinator_row_of p.id d p.now) condition.Absent → m.reply ≡ reply.NotMet None → CanAnswer m.request m.reply → ⊥
    unmet_none d e f can =
        let k : CanAnswer (ask.PutIf (coordinator_row_of p.id d p.now) condition.Absent) (reply.NotMet None) = subst (λ (q : Request). CanAnswer q (reply.NotMet None)) e (subst (CanAnswer m.request) f can) in
        clash k.1

    no_answer : (q : Request) (r : Reply) → m.request ≡ q → m.reply ≡ r → (CanAnswer q r → ⊥) → CanAnswer m.request m.reply → ⊥
    no_answer q r e f never can = never (subst (λ (x : Request). CanAnswer x r) e (subst (CanAnswer m.request) f can))

    found_key : (row : Record) → m.request ≡ look_of p.id → m.reply ≡ reply.Found (Some row) → CanAnswer m.request m.reply → row.key ≡ coordinator_key_of p.id
    found_key row e f can = subst (λ (q : Request). CanAnswer q (reply.Found (Some row))) e (subst (CanAnswer m.request) f can)

    said_found : (row : Record) (r : Reply) → m.request ≡ look_of p.id → m.reply ≡ reply.Found (Some row) → decision_in_reply m.request m.reply ≡ result_ok (decision_in row)
    said_found row r e f = ap (λ (q : Request). decision_in_reply q m.reply) e ∙ ap (decision_in_reply (look_of p.id)) f

    said_unmet : (d : Decision) (row : Record) → m.request ≡ ask.PutIf (coordinator_row_of p.id d p.now) condition.Absent → m.reply ≡ reply.NotMet (Some row) → decision_in_reply m.request m.reply ≡ result_ok (decision_in row)
    said_unmet d row e f = ap (λ (q : Request). decision_in_reply q m.reply) e ∙ ap (decision_in_reply (ask.PutIf (coordinator_row_of p.id d p.now) condition.Absent)) f

    stands_said : (q : Request) (r : Reply) → m.request ≡ q → m.reply ≡ r → record_at_key m.request m.reply ≡ record_at_key q r
    stands_said q r e f = ap (λ (x : Request). record_at_key x m.reply) e ∙ ap (record_at_key q) f

    -- a call shows no decision
    shows_none : decision_in_reply m.request m.reply ≡ None → decision_learned calls p.id ≡ None → decision_learned more p.id ≡ None
    shows_none e none = learned_now p.id calls m None none (by_row (is_of_row p.id m.request))
      where
        by_row : (b : Bool) → (if b then decision_in_reply m.request m.reply else None) ≡ None
        by_row true = e
        by_row false = refl

    put_stays : (put : StoreCall) → HasFaulted p.id calls put → HasFaulted p.id more put
    put_stays put h = (Contains-append_left calls (m ∷ []) put h.0, h.1, h.2)

    -- the put faulted, and now a call for the row failed too
    failing_now : (u : IsUndecided p.id calls) → is_of_row p.id m.request ≡ true → (m.reply ≡ reply.Fault) ⊎ (m.reply ≡ reply.NoMemory) → HasFailed p.id more
    failing_now u t r = record { put = u.put; later = m; deciding = put_stays u.put u.deciding; failed = (after_last p.id calls m older u.put u.deciding.0, t, r) }

    faulted_put : (put : StoreCall) → HasFaulted p.id calls put → HasReply is_fault more
    faulted_put put h = (put, Contains-append_left calls (m ∷ []) put h.0, ap is_fault h.2)

    put_is : (r : Reply) → NoneOfRow p.id calls → m.request ≡ decide_of p.id p.now → m.reply ≡ r → CanAnswer m.request m.reply → StageByCalls p more (decided p (decide_next p.id phase.Put r))
    put_is reply.Applied none e f can = forward_is 0 (subst (IsDecided decision.Committed) (sym (learned_now p.id calls m _ (none_learned p.id calls none) (shown_is p.id m _ (put_row decision.Committed e) (applied_shows decision.Committed e f)))) refl)
    put_is (reply.NotMet (Some row)) none e f can =
        followed_is (decide.Expired p.id) row (put_row decision.Committed e) (unmet_key decision.Committed row e f can) (ap records_observed f) (said_unmet decision.Committed row e f) (none_learned p.id calls none)
        (expires_is row (put_row decision.Committed e) (stands_said (decide_of p.id p.now) (reply.NotMet (Some row)) e f) (none_puts p.id decision.Aborted calls none))
    put_is (reply.NotMet None) none e f can = absurd (unmet_none decision.Committed e f can)
    put_is reply.Fault none e f can = record {
      put = m;
      deciding = (Contains-push calls m, puts_it decision.Committed e, f);
      none = shows_none (ap (λ (q : Request). decision_in_reply q m.reply) e ∙ ap (decision_in_reply (decide_of p.id p.now)) f) (none_learned p.id calls none);
      not_own = each_more (λ (x : StoreCall). PutsRow p.id decision.Aborted x → ⊥) calls m (none_puts p.id decision.Aborted calls none) (λ puts. committed (puts_it decision.Committed e).1 puts.1);
    }
      where
        committed : IsDecided decision.Committed (option_and_then (λ (row : Record). result_ok (decision_in row)) (put_by m.request)) → IsDecided decision.Aborted (option_and_then (λ (row : Record). result_ok (decision_in row)) (put_by m.request)) → ⊥
        committed a b = one_decision (option_and_then (λ (row : Record). result_ok (decision_in row)) (put_by m.request)) a b
    put_is (reply.Found found) none e f can = absurd (no_answer (decide_of p.id p.now) (reply.Found found) e f (λ k. k) can)
    put_is (reply.Rows rows) none e f can = absurd (no_answer (decide_of p.id p.now) (reply.Rows rows) e f (λ k. k) can)
    put_is (reply.NotAll place there) none e f can = absurd (no_answer (decide_of p.id p.now) (reply.NotAll place there) e f (λ k. k) can)
    put_is reply.NoMemory none e f can =
        each_more (λ (x : StoreCall). PutsRow p.id decision.Committed x → x.reply ≡ reply.NoMemory) calls m (starves p.id calls (none_puts p.id decision.Committed calls none)) (λ puts. f)

    look_is : (r : Reply) → IsUndecided p.id calls → m.request ≡ look_of p.id → m.reply ≡ r → CanAnswer m.request m.reply → StageByCalls p more (decided p (decide_next p.id phase.Look r))
    look_is (reply.Found None) u e f can = record {
      put = u.put;
      deciding = put_stays u.put u.deciding;
      none = shows_none (ap (λ (q : Request). decision_in_reply q m.reply) e ∙ ap (decision_in_reply (look_of p.id)) f) u.none;
      not_own = each_more (λ (x : StoreCall). PutsRow p.id decision.Aborted x → ⊥) calls m u.not_own (λ puts. subst (λ (q : Request). IsDecided decision.Aborted (option_and_then (λ (row : Record). result_ok (decision_in row)) (put_by q))) e puts.1);
    }
    look_is (reply.Found (Some row)) u e f can =
        followed_is (decide.Expired p.id) row (look_row e) (found_key row e f can) (ap records_observed f) (said_found row (reply.Found (Some row)) e f) u.none
        (expires_is row (look_row e) (stands_said (look_of p.id) (reply.Found (Some row)) e f) u.not_own)
    look_is reply.Fault u e f can = (refl, failing_now u (look_row e) (inl f))
    look_is reply.NoMemory u e f can = (refl, failing_now u (look_row e) (inr f))
    look_is reply.Applied u e f can = absurd (no_answer (look_of p.id) reply.Applied e f (λ k. k) can)
    look_is (reply.NotMet found) u e f can = absurd (no_answer (look_of p.id) (reply.NotMet found) e f (λ k. k) can)
    look_is (reply.Rows rows) u e f can = absurd (no_answer (look_of p.id) (reply.Rows rows) e f (λ k. k) can)
    look_is (reply.NotAll place there) u e f can = absurd (no_answer (look_of p.id) (reply.NotAll place there) e f (λ k. k) can)

    abort_is : (r : Reply) → IsUndecided p.id calls → m.request ≡ abort_of p.id p.now → m.reply ≡ r → CanAnswer m.request m.reply → StageByCalls p more (decided p (decide_next p.id phase.Abort r))
    abort_is reply.Applied u e f can = back_is outcome.Faulted (length p.writes) 0 (faulted_put u.put u.deciding)
    abort_is (reply.NotMet (Some row)) u e f can =
        followed_is (decide.Expired p.id) row (put_row decision.Aborted e) (unmet_key decision.Aborted row e f can) (ap records_observed f) (said_unmet decision.Aborted row e f) u.none
        (expires_is row (put_row decision.Aborted e) (stands_said (abort_of p.id p.now) (reply.NotMet (Some row)) e f) u.not_own)
    abort_is (reply.NotMet None) u e f can = absurd (unmet_none decision.Aborted e f can)
    abort_is reply.Fault u e f can = record {
      failed = failing_now u (put_row decision.Aborted e) (inl f);
      none = shows_none (ap (λ (q : Request). decision_in_reply q m.reply) e ∙ ap (decision_in_reply (abort_of p.id p.now)) f) u.none;
    }
    abort_is reply.NoMemory u e f can = (refl, failing_now u (put_row decision.Aborted e) (inr f))
    abort_is (reply.Found found) u e f can = absurd (no_answer (abort_of p.id p.now) (reply.Found found) e f (λ k. k) can)
    abort_is (reply.Rows rows) u e f can = absurd (no_answer (abort_of p.id p.now) (reply.Rows rows) e f (λ k. k) can)
    abort_is (reply.NotAll place there) u e f can = absurd (no_answer (abort_of p.id p.now) (reply.NotAll place there) e f (λ k. k) can)

    again_is : (r : Reply) → IsFailing p.id calls → m.request ≡ look_of p.id → m.reply ≡ r → CanAnswer m.request m.reply → StageByCalls p more (decided p (decide_next p.id phase.Again r))
    again_is (reply.Found (Some row)) u e f can =
        followed_is decide.Faulted row (look_row e) (found_key row e f can) (ap records_observed f) (said_found row (reply.Found (Some row)) e f) u.none
        (λ d k w. back_is outcome.Faulted (length p.writes) 0 (faulted_put u.failed.put u.failed.deciding))
    again_is (reply.Found None) u e f can = (refl, failed_more u.failed)
    again_is reply.Fault u e f can = (refl, failed_more u.failed)
    again_is reply.NoMemory u e f can = (refl, failed_more u.failed)
    again_is reply.Applied u e f can = (refl, failed_more u.failed)
    again_is (reply.NotMet None) u e f can = (refl, failed_more u.failed)
    again_is (reply.NotMet (Some row)) u e f can = (refl, failed_more u.failed)
    again_is (reply.Rows rows) u e f can = (refl, failed_more u.failed)
    again_is (reply.NotAll place there) u e f can = (refl, failed_more u.failed)

    stop_is : (a : Outcome) (n : ℕ) (r : Reply) → EndsBy p.id more a → StageByCalls p more (after_abort a n r)
    stop_is a n reply.Applied h = back_is a n 0 h
    stop_is a n (reply.NotMet found) h = back_is a n 0 h
    stop_is a n (reply.Found found) h = h
    stop_is a n (reply.Rows rows) h = h
    stop_is a n (reply.NotAll place there) h = h
    stop_is a n reply.Fault h = h
    stop_is a n reply.NoMemory h = h

    ---- each stage

    prepare_asked : (i : ℕ) → slice_get (prepares p) i ≡ Some m.request → is_of_row p.id m.request ≡ false
    prepare_asked i e = each_at (λ q. is_of_row p.id q ≡ false) (prepares p) i m.request prepares_data e

    check_asked : (i : ℕ) → option_map (λ c. c.request) (slice_get (checks p) i) ≡ Some m.request → is_of_row p.id m.request ≡ false
    check_asked i e = by (slice_get (checks p) i) refl e
      where
        by : (o : Option Check) → slice_get (checks p) i ≡ o → option_map (λ c. c.request) o ≡ Some m.request → is_of_row p.id m.request ≡ false
        by None k h = none_some m.request h
        by (Some c) k h = sym (ap (is_of_row p.id) (some_is c.request m.request h)) ∙ each_at (λ (c : Check). is_of_row p.id c.request ≡ false) (checks p) i c checks_data k

    decision_asked : (q : Request) → Some q ≡ Some m.request → m.request ≡ q
    decision_asked q e = sym (some_is q m.request e)

    back_asked : AllByRecursion IsWrite p.writes → (i : ℕ) → slice_get (backs p) i ≡ Some m.request → PutsRow p.id decision.Committed m → ⊥
    back_asked valid i e puts = clash (sym puts.0 ∙ each_at (λ q. is_of_row p.id q ≡ false) (backs p) i m.request (backs_data valid) e)

    abort_asked : m.request ≡ abort_of p.id p.now → PutsRow p.id decision.Committed m → ⊥
    abort_asked e puts = one_decision (option_and_then (λ (row : Record). result_ok (decision_in row)) (put_by m.request)) puts.1 (puts_it decision.Aborted e).1

    pub stands_on : AllByRecursion IsWrite p.writes → (s : Stage) → StageByCalls p calls s → pending p s ≡ Some m.request → CanAnswer m.request m.reply → StageByCalls p more (step p s m.reply)
    stands_on valid (Preparing i) h e can = prepared_is (nat_lt (i + 1) (groups_of p)) i (touched_after (slice_get (prepares p) i) (writes_before p i) m.reply) (slice_get (prepares p) i) m.reply (none_more h (prepare_asked i e)) refl
    stands_on valid (Checking i) h e can = checked_is (nat_lt (i + 1) (length (checks p))) i (slice_get (checks p) i) m.reply (none_more h (check_asked i e)) refl
    stands_on valid (Deciding phase.Put) h e can = put_is m.reply h (decision_asked (decide_of p.id p.now) e) refl can
    stands_on valid (Deciding phase.Look) h e can = look_is m.reply h (decision_asked (look_of p.id) e) refl can
    stands_on valid (Deciding phase.Abort) h e can = abort_is m.reply h (decision_asked (abort_of p.id p.now) e) refl can
    stands_on valid (Deciding phase.Again) h e can = again_is m.reply h (decision_asked (look_of p.id) e) refl can
    stands_on valid (Deciding phase.Ended) h e can = absurd h
    stands_on valid (Forward i) h e can = forward_is (i + 1) (decided_stays p.id decision.Committed calls m h)
    stands_on valid (Stopping a n) h e can = stop_is a n m.reply (ends_more a (abort_asked (decision_asked (abort_of p.id p.now) e)) h)
    stands_on valid (Back a n i) h e can = back_is a n (i + 1) (ends_more a (back_asked valid i e) h)
    stands_on valid (Over a) h e can = none_some m.request e

-- out of memory in place of a conflict changes nothing
starved_ends : (id : TxId) (calls : List StoreCall) (a : Outcome) → EndsBy id calls a → EndsBy id calls (out_of_memory_answer a)
starved_ends id calls outcome.Committed h = h
starved_ends id calls (outcome.Conflict key found) h = starves id calls h
starved_ends id calls (outcome.Expired u) h = h
starved_ends id calls outcome.Faulted h = h
starved_ends id calls (outcome.Unknown u) h = h
starved_ends id calls (outcome.BadRecord key) h = h
starved_ends id calls outcome.NoMemory h = h

pub starved_stands : (p : Work) (calls : List StoreCall) (s : Stage) → StageByCalls p calls s → StageByCalls p calls (out_of_memory s)
starved_stands p calls (Preparing i) h = h
starved_stands p calls (Checking i) h = h
starved_stands p calls (Deciding d) h = h
starved_stands p calls (Forward i) h = h
starved_stands p calls (Stopping a n) h = starved_ends p.id calls a h
starved_stands p calls (Back a n i) h = starved_ends p.id calls a h
starved_stands p calls (Over a) h = starved_ends p.id calls a h

-- where a COMMIT begins
pub begins_standing : (p : Work) → StageByCalls p [] (preparing p 0)
begins_standing p = by (nat_lt 0 (groups_of p)) (nat_lt 0 (length (checks p)))
  where
    by : (a b : Bool) → StageByCalls p [] (if a then Preparing 0 else (if b then Checking 0 else Deciding phase.Put))
    by true b = tt
    by false true = tt
    by false false = tt
