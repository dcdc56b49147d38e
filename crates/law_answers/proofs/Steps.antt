-- What the calls of a COMMIT are after one more reply.
use Rattle.std.proofs.Common.{◌≡◌, ◌≢◌, ◌<◌, ◌≤◌, ◌⊎◌, inl, inr, ℕ, zero, suc, ◌+◌, ℤ, List, [], ◌∷◌, ◌++◌, length, take, map, Option, Some, None, Result, Ok, Err, true, false, refl, sym, ap, ◌∙◌, subst, arith, append_assoc}
use Rattle.std.specs.Prelude.{◌-◌, Bool, IsSomeAnd, slice_get, nat_lt}
use Rattle.std.specs.List.{AllZip}
use Rattle.std.specs.Option.{option_map, option_map_or}
use Rattle.std.proofs.lemmas.Bool.Decides.{nat_tests}
use Rattle.std.proofs.lemmas.List.{append-nil, map-append, length-map, take_all, take-map, nil_from_length}
use Rattle.std.proofs.lemmas.List.Elements.{Contains-push}
use Rattle.std.proofs.lemmas.Option.{slice_get-map}
use Rattle.std.proofs.lemmas.Slice.Zip.{all_zipped_more}
use Rattle.law_answers.specs.Types.{Check, DecidePhase, DecideStep, Decided, Decision, Key, Outcome, Put, Record, Reply, Request, TxId, Write}
use Rattle.sdb_types.specs.declared.record.Reply.TheVariants as reply
use Rattle.sdb_types.specs.Contents.{CanAnswer, IsUnmet}
use Rattle.sdb_record.specs.declared.coordinator.Decision.TheVariants as decision
use Rattle.sdb_record.specs.Coordinator.{coordinator_key_of, decision_in}
use Rattle.sdb_record.specs.Groups.{grouped, in_groups, ungrouped}
use Rattle.sdb_record.specs.Moved.{IsChanged, version_of}
use Rattle.sdb_record.specs.Rolls.{prepared_record}
use Rattle.sdb_record.proofs.Public.{prepared-key, row-key}
use Rattle.sdb_phases.specs.declared.step.Outcome.TheVariants as outcome
use Rattle.sdb_phases.specs.declared.step.DecideStep.TheVariants as steps
use Rattle.sdb_phases.specs.declared.step.DecidePhase.TheVariants as phase
use Rattle.sdb_phases.specs.declared.step.PrepareStep.TheVariants as prepare
use Rattle.sdb_phases.specs.Work.{Work, groups_of, prepares, prepare_of, prepares_of, forwards, backs, back_of, decide_of, abort_of, look_of, writes_before}
use Rattle.sdb_phases.specs.Checks.{checks, difference_in}
use Rattle.sdb_phases.specs.Steps as small
use Rattle.sdb_phases.specs.Steps.{CanGet}
use Rattle.sdb_phases.specs.Commit.{Stage, Preparing, Checking, Deciding, Forward, Stopping, Back, Over, pending, step, after, preparing, checking, forward, back, after_prepare, after_check, after_decide}
use Rattle.sdb_phases.specs.CommitLaws.{IsLost, AreReplies, writes_of, reads_of}
use Rattle.law_answers.specs.Paths.{Call, IsForRow, Makes, calls_of_path, check_requests, touched_by, undone, with_call}
use Rattle.law_answers.specs.Ends.{IsGivenUp, IsLearned, IsPassed, IsPrepareChanged, IsPutOutOfMemory, IsUndecided, ObservesRow, is_served, unmet_reply}
use Rattle.law_answers.proofs.PathLists.{contains_at, take_next}
use Rattle.law_answers.proofs.PathRows.{NoRow, no_row_prepare, no_row_check, no_put_back, abort_no_put, put_no_abort, look_no_abort}
use Rattle.law_answers.proofs.Touches.{Touches, applied, touches_more, touches_all, touches_fault, touches_stop, begins_here, groups_here}
use Rattle.law_answers.proofs.Goes.{AsksTo, AtBack, AtCheck, AtForward, AtLost, AtPrepare, AtPut, AtRow, Caused, Checked, Clear, Ends, Goes, Leads, NotOwn, asks_check, asks_of, asks_prepare, asks_roll, asks_row, by_stage, caused_more, leads_all, leads_more, learned_more}
use Rattle.sdb_phases.proofs.Public.{writes_more}
use Rattle.sdb_types.proofs.Public.{all_each, all_last}

abbrev pub one : Request → Reply → Call
one q r = record { request = q; reply = r }

starved_clear : (p : Work) (calls : List Call) → Clear p calls → IsPutOutOfMemory p calls
starved_clear p calls clear = all_each (λ (c : Call). NoRow p c.request) (λ (c : Call). c.request ≡ decide_of p.id p.now → c.reply ≡ reply.NoMemory) calls (λ c n e. absurd (n.no_put e)) clear

undecided_clear : (p : Work) (calls : List Call) → Clear p calls → IsUndecided p calls
undecided_clear p calls clear = all_each (λ (c : Call). NoRow p c.request) (λ (c : Call). c.request ≢ decide_of p.id p.now) calls (λ c n. n.no_put) clear

own_clear : (p : Work) (calls : List Call) → Clear p calls → NotOwn p calls
own_clear p calls clear = all_each (λ (c : Call). NoRow p c.request) (λ (c : Call). c.request ≢ abort_of p.id p.now) calls (λ c n. n.no_abort) clear

clear_more : (p : Work) (calls : List Call) (q : Request) (r : Reply) → Clear p calls → NoRow p q → Clear p (calls ++ one q r ∷ [])
clear_more p calls q r clear none = all_last (λ (c : Call). NoRow p c.request) calls (one q r) clear none

---- prepares

start_checks : (p : Work) (calls : List Call) → calls ≡ map applied (prepares p) → AsksTo p calls (groups_of p) 0 [] [] → Clear p calls → Goes p calls (checking p 0)
start_checks p calls e asks clear =
    by_stage p calls (nat_lt 0 (length (checks p))) (Checking 0) (Deciding phase.Put)
    (λ t. record { checked = record { done = []; whole = e ∙ sym (append-nil (map applied (prepares p))); passed = tt }; within = grind (arith, nat_tests); asks = asks; clear = clear })
    (λ f. let none : 0 ≡ reads_of p = grind (arith, nat_tests) in
    record { checked = record { done = []; whole = e ∙ sym (append-nil (map applied (prepares p))); passed = subst (λ n. AllZip IsPassed (take n (checks p)) []) none tt }; asks = subst (λ n. AsksTo p calls (groups_of p) n [] []) none asks; clear = clear })

long_prepares : (p : Work) → length (prepares p) ≡ groups_of p
long_prepares p = length-map (grouped p.writes) (prepares_of p.id p.now)

begins : (p : Work) → Goes p [] (preparing p 0)
begins p =
    by_stage p [] (nat_lt 0 (groups_of p)) (Preparing 0) (checking p 0)
    (λ t. record { whole = refl; within = grind (arith, nat_tests); asks = record { for_row = tt; whole = refl }; clear = tt })
    (λ f. let none : groups_of p ≡ 0 = grind (arith, nat_tests) in
    let nil : prepares p ≡ [] = nil_from_length (prepares p) (long_prepares p ∙ none) in
    start_checks p [] (ap (map applied) (sym nil)) (subst (λ n. AsksTo p [] n 0 [] []) (sym none) (record { for_row = tt; whole = refl })) tt)

at_prepare : (p : Work) (i : ℕ) (g : List Write) → slice_get (grouped p.writes) i ≡ Some g → slice_get (prepares p) i ≡ Some (prepares_of p.id p.now g)
at_prepare p i g h = slice_get-map (prepares_of p.id p.now) (grouped p.writes) i ∙ ap (option_map (prepares_of p.id p.now)) h

pub no_found : (id : TxId) (now : ℤ) (g : List Write) (found : Option Record) → CanAnswer (prepares_of id now g) (reply.Found found) → ⊥
no_found id now [] found can = can
no_found id now (w ∷ []) found can = can
no_found id now (v ∷ w ∷ ws) found can = can

pub no_rows : (id : TxId) (now : ℤ) (g : List Write) (rows : List Record) → CanAnswer (prepares_of id now g) (reply.Rows rows) → ⊥
no_rows id now [] rows can = can
no_rows id now (w ∷ []) rows can = can
no_rows id now (v ∷ w ∷ ws) rows can = can

prepared : (p : Work) (calls : List Call) (i n : ℕ) (q : Request) (more : Bool) → AtPrepare p calls i → slice_get (prepares p) i ≡ Some q → more ≡ nat_lt (i + 1) (groups_of p)
    → Goes p (calls ++ one q reply.Applied ∷ []) (after_prepare p i n (small.prepare_step more (Some q) reply.Applied))
prepared p calls i n q more at h is = by more is
  where
    whole : calls ++ one q reply.Applied ∷ [] ≡ map applied (take (i + 1) (prepares p))
    whole = ap (λ cs. cs ++ one q reply.Applied ∷ []) at.whole ∙ sym (map-append applied (take i (prepares p)) (q ∷ [])) ∙ ap (map applied) (sym (take_next (prepares p) i q h))

    asks : AsksTo p (calls ++ one q reply.Applied ∷ []) (i + 1) 0 [] []
    asks = asks_prepare p calls i q reply.Applied at.asks h

    clear : Clear p (calls ++ one q reply.Applied ∷ [])
    clear = clear_more p calls q reply.Applied at.clear (no_row_prepare p i q h)

    by : (b : Bool) → b ≡ nat_lt (i + 1) (groups_of p) → Goes p (calls ++ one q reply.Applied ∷ []) (after_prepare p i n (small.prepare_step b (Some q) reply.Applied))
    by true e = record { whole = whole; within = grind (arith, nat_tests); asks = asks; clear = clear }
    by false e =
        let l = at.within in
        let all : i + 1 ≡ groups_of p = grind (arith, nat_tests) in
        let m = long_prepares p in
        start_checks p (calls ++ one q reply.Applied ∷ []) (whole ∙ ap (map applied) (take_all (i + 1) (prepares p) (omega arith))) (subst (λ m. AsksTo p (calls ++ one q reply.Applied ∷ []) m 0 [] []) all asks) clear

-- it stops at a prepare
stopped : (p : Work) (calls : List Call) (i n : ℕ) (q : Request) (r : Reply) (a : Outcome) → AtPrepare p calls i → slice_get (prepares p) i ≡ Some q → IsLost a → Touches p (calls ++ one q r ∷ []) n → Caused p (calls ++ one q r ∷ []) a → AtBack p (calls ++ one q r ∷ []) a n []
stopped p calls i n q r a at h lost touches caused =
    record { lost = lost; prepared = i + 1; checked = 0; row = []; asks = asks_prepare p calls i q r at.asks h; touches = touches; caused = caused }

-- the prepare of a group was not met at a write of it
refuses : (p : Work) (calls : List Call) (i j : ℕ) (g : List Write) (w : Write) (r : Reply) (found : Option Record) → slice_get (grouped p.writes) i ≡ Some g → AtPrepare p calls i → slice_get g j ≡ Some w → IsChanged found (version_of w.base) → r ≡ unmet_reply g j found
    → ((rest : List (List Write)) → touched_by g r rest ≡ []) → (r ≡ reply.Applied → ⊥) → AtBack p (calls ++ one (prepares_of p.id p.now g) r ∷ []) (outcome.Conflict (prepared_record w p.id p.now).key found) (writes_before p i) []
refuses p calls i j g w r found h at there moved is ends not =
    let changed : IsPrepareChanged p (one (prepares_of p.id p.now g) r) (prepared_record w p.id p.now).key found = record { group = g; among = contains_at (grouped p.writes) i g h; place = j; write = w; there = there; same = sym (prepared-key w p.id p.now); asked = refl; observed = is; moved = moved } in
    stopped p calls i (writes_before p i) (prepares_of p.id p.now g) r (outcome.Conflict (prepared_record w p.id p.now).key found) at (at_prepare p i g h) tt
    (touches_stop p calls i g r at.whole h ends not)
    (one (prepares_of p.id p.now g) r, Contains-push calls (one (prepares_of p.id p.now g) r), inl changed, undecided_clear p (calls ++ one (prepares_of p.id p.now g) r ∷ []) (clear_more p calls (prepares_of p.id p.now g) r at.clear (no_row_prepare p i (prepares_of p.id p.now g) (at_prepare p i g h))))

-- at the write of that place of a group of several
refuses_batch : (p : Work) (calls : List Call) (i k : ℕ) (v w : Write) (ws : List Write) (found : Option Record) (o : Option Write) → slice_get (grouped p.writes) i ≡ Some (v ∷ w ∷ ws) → AtPrepare p calls i → 1 ≤ k → slice_get (v ∷ w ∷ ws) (k - 1) ≡ o
    → IsSomeAnd (option_map (prepare_of p.id p.now) o) (λ u. IsUnmet u.condition u.rec.key found)
    → Goes p (calls ++ one (prepares_of p.id p.now (v ∷ w ∷ ws)) (reply.NotAll k found) ∷ []) (after_prepare p i (writes_before p i) (option_map_or (λ (u : Put). prepare.Conflict u.rec.key found) (option_map (prepare_of p.id p.now) o) prepare.NoMemory))
refuses_batch p calls i k v w ws found None h at some e can = absurd can
refuses_batch p calls i k v w ws found (Some x) h at some e can =
    refuses p calls i (k - 1) (v ∷ w ∷ ws) x (reply.NotAll k found) found h at e can.1 (ap (λ n. reply.NotAll n found) (back_one k some)) (λ rest. refl) (λ z. cc)
  where
    back_one : (n : ℕ) → 1 ≤ n → n ≡ (n - 1) + 1
    back_one n l = omega (arith, l)

abbrev StepsTo : Work → List Call → ℕ → List Write → Reply → Type 0
StepsTo p calls i g r =
    Goes p (calls ++ one (prepares_of p.id p.now g) r ∷ []) (after_prepare p i (small.touched_after (Some (prepares_of p.id p.now g)) (writes_before p i) r) (small.prepare_step (nat_lt (i + 1) (groups_of p)) (Some (prepares_of p.id p.now g)) r))

not_met : (p : Work) (calls : List Call) (i : ℕ) (g : List Write) (found : Option Record) → slice_get (grouped p.writes) i ≡ Some g → AtPrepare p calls i → CanAnswer (prepares_of p.id p.now g) (reply.NotMet found) → StepsTo p calls i g (reply.NotMet found)
not_met p calls i [] found h at gets = absurd gets
not_met p calls i (w ∷ []) found h at gets = refuses p calls i 0 (w ∷ []) w (reply.NotMet found) found h at refl gets.1 refl (λ rest. refl) (λ z. cc)
not_met p calls i (v ∷ w ∷ ws) found h at gets = absurd gets

not_all : (p : Work) (calls : List Call) (i k : ℕ) (g : List Write) (found : Option Record) → slice_get (grouped p.writes) i ≡ Some g → AtPrepare p calls i → CanAnswer (prepares_of p.id p.now g) (reply.NotAll k found) → StepsTo p calls i g (reply.NotAll k found)
not_all p calls i k [] found h at gets = absurd gets.1
not_all p calls i k (w ∷ []) found h at gets = absurd gets
not_all p calls i k (v ∷ w ∷ ws) found h at gets =
    subst (λ o. IsSomeAnd o (λ (u : Put). IsUnmet u.condition u.rec.key found) → Goes p (calls ++ one (prepares_of p.id p.now (v ∷ w ∷ ws)) (reply.NotAll k found) ∷ []) (after_prepare p i (writes_before p i) (option_map_or (λ (u : Put). prepare.Conflict u.rec.key found) o prepare.NoMemory)))
    (sym (slice_get-map (prepare_of p.id p.now) (v ∷ w ∷ ws) (k - 1))) (refuses_batch p calls i k v w ws found (slice_get (v ∷ w ∷ ws) (k - 1)) h at gets.0 refl) gets.1

-- the writes of a group more
with_group : (p : Work) (i : ℕ) (g : List Write) → i < groups_of p → slice_get (grouped p.writes) i ≡ Some g → writes_before p (i + 1) ≡ writes_before p i + small.puts_of (Some (prepares_of p.id p.now g))
with_group p i g l h = sym (writes_more p i l) ∙ ap (λ o. writes_before p i + small.puts_of o) (at_prepare p i g h)

prepare_goes : (p : Work) (calls : List Call) (i : ℕ) (o : Option (List Write)) (r : Reply) → slice_get (grouped p.writes) i ≡ o → AtPrepare p calls i → CanGet (option_map (prepares_of p.id p.now) o) r
    → Goes p (with_call (option_map (prepares_of p.id p.now) o) r calls) (after_prepare p i (small.touched_after (option_map (prepares_of p.id p.now) o) (writes_before p i) r) (small.prepare_step (nat_lt (i + 1) (groups_of p)) (option_map (prepares_of p.id p.now) o) r))
prepare_goes p calls i None r h at gets = absurd gets
prepare_goes p calls i (Some g) reply.Applied h at gets = prepared p calls i (writes_before p i + small.puts_of (Some (prepares_of p.id p.now g))) (prepares_of p.id p.now g) (nat_lt (i + 1) (groups_of p)) at (at_prepare p i g h) refl
prepare_goes p calls i (Some g) (reply.NotMet found) h at gets = not_met p calls i g found h at gets
prepare_goes p calls i (Some g) reply.Fault h at gets =
    stopped p calls i (writes_before p i + small.puts_of (Some (prepares_of p.id p.now g))) (prepares_of p.id p.now g) reply.Fault outcome.Faulted at (at_prepare p i g h) tt
    (subst (Touches p (calls ++ one (prepares_of p.id p.now g) reply.Fault ∷ [])) (with_group p i g at.within h) (touches_fault p calls i g at.whole h)) tt
prepare_goes p calls i (Some g) reply.NoMemory h at gets =
    stopped p calls i (writes_before p i) (prepares_of p.id p.now g) reply.NoMemory outcome.NoMemory at (at_prepare p i g h) tt
    (touches_stop p calls i g reply.NoMemory at.whole h (λ rest. refl) (λ e. cc))
    (starved_clear p (calls ++ one (prepares_of p.id p.now g) reply.NoMemory ∷ []) (clear_more p calls (prepares_of p.id p.now g) reply.NoMemory at.clear (no_row_prepare p i (prepares_of p.id p.now g) (at_prepare p i g h))))
prepare_goes p calls i (Some g) (reply.Found found) h at gets = absurd (no_found p.id p.now g found gets)
prepare_goes p calls i (Some g) (reply.Rows rows) h at gets = absurd (no_rows p.id p.now g rows gets)
prepare_goes p calls i (Some g) (reply.NotAll place there) h at gets = not_all p calls i place g there h at gets

prepare_step : (p : Work) (calls : List Call) (i : ℕ) (r : Reply) → AtPrepare p calls i → CanGet (pending p (Preparing i)) r → Goes p (with_call (pending p (Preparing i)) r calls) (step p (Preparing i) r)
prepare_step p calls i r at =
    subst (λ o. CanGet o r → Goes p (with_call o r calls) (after_prepare p i (small.touched_after o (writes_before p i) r) (small.prepare_step (nat_lt (i + 1) (groups_of p)) o r)))
    (sym (slice_get-map (prepares_of p.id p.now) (grouped p.writes) i)) (prepare_goes p calls i (slice_get (grouped p.writes) i) r refl at)

---- checks

at_check : (p : Work) (i : ℕ) (k : Check) → slice_get (checks p) i ≡ Some k → slice_get (check_requests p) i ≡ Some k.request
at_check p i k h = slice_get-map (λ (c : Check). c.request) (checks p) i ∙ ap (option_map (λ (c : Check). c.request)) h

no_row_at : (p : Work) (i : ℕ) (k : Check) → slice_get (checks p) i ≡ Some k → NoRow p k.request
no_row_at p i k h = no_row_check p i k.request (ap (option_map (λ (c : Check). c.request)) h)

-- it stops at a check
check_stops : (p : Work) (calls : List Call) (i : ℕ) (k : Check) (r : Reply) (a : Outcome) → AtCheck p calls i → slice_get (checks p) i ≡ Some k → IsLost a → Caused p (calls ++ one k.request r ∷ []) a → AtBack p (calls ++ one k.request r ∷ []) a (length p.writes) []
check_stops p calls i k r a at h lost caused =
    record {
      lost = lost;
      prepared = groups_of p;
      checked = i + 1;
      row = [];
      asks = asks_check p calls (groups_of p) i k.request r at.asks (at_check p i k h);
      touches = touches_more p calls (writes_of p) (one k.request r) (touches_all p calls at.checked.done at.checked.whole);
      caused = caused;
    }

passes : (p : Work) (calls : List Call) (i : ℕ) (k : Check) (r : Reply) → AtCheck p calls i → slice_get (checks p) i ≡ Some k → IsPassed k (one k.request r) → Checked p (i + 1) (calls ++ one k.request r ∷ [])
passes p calls i k r at h passed = record {
  done = at.checked.done ++ one k.request r ∷ [];
  whole = ap (λ cs. cs ++ one k.request r ∷ []) at.checked.whole ∙ append_assoc (map applied (prepares p)) at.checked.done (one k.request r ∷ []);
  passed = subst (λ ks. AllZip IsPassed ks (at.checked.done ++ one k.request r ∷ [])) (sym (take_next (checks p) i k h)) (all_zipped_more IsPassed (take i (checks p)) at.checked.done k (one k.request r) at.checked.passed passed);
}

judged : (p : Work) (calls : List Call) (i : ℕ) (k : Check) (r : Reply) (d : Option (Key × Option Record)) (more : Bool) → AtCheck p calls i → slice_get (checks p) i ≡ Some k → CanAnswer k.request r → is_served r ≡ true → difference_in k r ≡ d → more ≡ nat_lt (i + 1) (length (checks p))
    → Goes p (calls ++ one k.request r ∷ []) (after_check p i (small.judged more d))
judged p calls i k r None true at h fits seen same is =
    record { checked = passes p calls i k r at h (record { asked = refl; fits = fits; served = seen; same = same }); within = grind (arith, nat_tests); asks = asks_check p calls (groups_of p) i k.request r at.asks (at_check p i k h); clear = clear_more p calls k.request r at.clear (no_row_at p i k h) }
judged p calls i k r None false at h fits seen same is =
    let l = at.within in
    let all : i + 1 ≡ reads_of p = grind (arith, nat_tests) in
    record {
      checked = subst (λ n. Checked p n (calls ++ one k.request r ∷ [])) all (passes p calls i k r at h (record { asked = refl; fits = fits; served = seen; same = same }));
      asks = subst (λ n. AsksTo p (calls ++ one k.request r ∷ []) (groups_of p) n [] []) all (asks_check p calls (groups_of p) i k.request r at.asks (at_check p i k h));
      clear = clear_more p calls k.request r at.clear (no_row_at p i k h);
    }
judged p calls i k r (Some d) more at h fits seen same is =
    check_stops p calls i k r (outcome.Conflict d.0 d.1) at h tt
    (one k.request r, Contains-push calls (one k.request r), inr (record { check = k; at = i; among = h; asked = refl; fits = fits; differs = same }), undecided_clear p (calls ++ one k.request r ∷ []) (clear_more p calls k.request r at.clear (no_row_at p i k h)))

check_goes : (p : Work) (calls : List Call) (i : ℕ) (o : Option Check) (r : Reply) → slice_get (checks p) i ≡ o → AtCheck p calls i → CanGet (option_map (λ (c : Check). c.request) o) r
    → Goes p (with_call (option_map (λ (c : Check). c.request) o) r calls) (after_check p i (small.validate_step (nat_lt (i + 1) (length (checks p))) o r))
check_goes p calls i None r h at gets = absurd gets
check_goes p calls i (Some k) reply.Fault h at gets = check_stops p calls i k reply.Fault outcome.Faulted at h tt tt
check_goes p calls i (Some k) reply.NoMemory h at gets =
    check_stops p calls i k reply.NoMemory outcome.NoMemory at h tt (starved_clear p (calls ++ one k.request reply.NoMemory ∷ []) (clear_more p calls k.request reply.NoMemory at.clear (no_row_at p i k h)))
check_goes p calls i (Some k) reply.Applied h at gets = judged p calls i k reply.Applied (difference_in k reply.Applied) (nat_lt (i + 1) (length (checks p))) at h gets refl refl refl
check_goes p calls i (Some k) (reply.Found found) h at gets = judged p calls i k (reply.Found found) (difference_in k (reply.Found found)) (nat_lt (i + 1) (length (checks p))) at h gets refl refl refl
check_goes p calls i (Some k) (reply.Rows rows) h at gets = judged p calls i k (reply.Rows rows) (difference_in k (reply.Rows rows)) (nat_lt (i + 1) (length (checks p))) at h gets refl refl refl
check_goes p calls i (Some k) (reply.NotAll place there) h at gets = judged p calls i k (reply.NotAll place there) (difference_in k (reply.NotAll place there)) (nat_lt (i + 1) (length (checks p))) at h gets refl refl refl
check_goes p calls i (Some k) (reply.NotMet found) h at gets = judged p calls i k (reply.NotMet found) (difference_in k (reply.NotMet found)) (nat_lt (i + 1) (length (checks p))) at h gets refl refl refl

---- rolls

long_forwards : (p : Work) → length (forwards p) ≡ groups_of p
long_forwards p = length-map (grouped p.writes) _

forwarding : (p : Work) (calls : List Call) (i : ℕ) → AtForward p calls (take i (forwards p)) → i ≤ groups_of p → Goes p calls (forward p i)
forwarding p calls i at l =
    by_stage p calls (nat_lt i (groups_of p)) (Forward i) (Over outcome.Committed)
    (λ t. (at, grind (arith, nat_tests)))
    (λ f. let all : i ≡ groups_of p = grind (arith, nat_tests) in
    let m = long_forwards p in
    subst (AtForward p calls) (take_all i (forwards p) (omega arith)) at)

lost_end : (p : Work) (calls : List Call) (a : Outcome) → IsLost a → AtLost p calls a → Ends p calls a
lost_end p calls outcome.Committed lost at = absurd lost
lost_end p calls (outcome.Unknown id) lost at = absurd lost
lost_end p calls (outcome.BadRecord key) lost at = absurd lost
lost_end p calls a lost at = at

-- the first groups have the first writes
take_behind : (xs ys zs : List Write) → xs ++ take (length zs) ys ≡ take (length (xs ++ zs)) (xs ++ ys)
take_behind [] ys zs = refl
take_behind (x ∷ xs) ys zs = ap (λ r. x ∷ r) (take_behind xs ys zs)

take_groups : (gs : List (List Write)) (k : ℕ) → ungrouped (take k gs) ≡ take (length (ungrouped (take k gs))) (ungrouped gs)
take_groups gs zero = refl
take_groups [] (suc k) = refl
take_groups (g ∷ gs) (suc k) = ap (λ r. g ++ r) (take_groups gs k) ∙ take_behind g (ungrouped gs) (ungrouped (take k gs))

-- the roll backs of the first so many writes, where these may have accepted effect
pub undone_is : (p : Work) (calls : List Call) (n : ℕ) → Touches p calls n → undone p calls ≡ take n (backs p)
undone_is p calls n t =
    ap (λ gs. map (back_of p.id) (ungrouped gs)) (groups_here p calls n t) ∙ ap (map (back_of p.id)) (take_groups (grouped p.writes) t.groups ∙ ap (λ m. take m (in_groups p.writes)) t.writes)
    ∙ sym (take-map (back_of p.id) n (in_groups p.writes))

backing : (p : Work) (calls : List Call) (a : Outcome) (n i : ℕ) → AtBack p calls a n (take i (backs p)) → i ≤ n → Goes p calls (back a n i)
backing p calls a n i at l =
    by_stage p calls (nat_lt i n) (Back a n i) (Over a)
    (λ t. (at, grind (arith, nat_tests)))
    (λ f. let all : i ≡ n = grind (arith, nat_tests) in
    let rolls : take i (backs p) ≡ undone p calls = ap (λ k. take k (backs p)) all ∙ sym (undone_is p calls n at.touches) in
    lost_end p calls a at.lost (record {
      rolled = inl (asks_of p calls at.prepared at.checked at.row (undone p calls) (subst (AsksTo p calls at.prepared at.checked at.row) rolls at.asks));
      begins = begins_here p calls n at.touches;
      caused = at.caused;
    }))

---- the decision

-- an answer that a row ABORTED may give
IsAborted : Work → List Call → DecideStep → Type 0
IsAborted p calls (steps.Expired id) = (id ≡ p.id) × IsGivenUp p calls
IsAborted p calls steps.Faulted = Unit {0}
IsAborted p calls s = ⊥

pub touches_led : (p : Work) (calls : List Call) → Leads p calls → Touches p calls (writes_of p)
touches_led p calls l =
    touches_all p calls (l.checked.done ++ l.more) (l.whole ∙ ap (λ cs. cs ++ l.more) l.checked.whole ∙ append_assoc (map applied (prepares p)) l.checked.done l.more)

backs_all : (p : Work) (calls : List Call) (d : DecidePhase) (a : DecideStep) → AtRow p calls → IsAborted p calls a → Goes p calls (after_decide p d a)
unfolding IsAborted
backs_all p calls d (steps.Expired id) at is =
    backing p calls (outcome.Expired id) (length p.writes) 0 (record { lost = tt; prepared = groups_of p; checked = reads_of p; row = at.row; asks = at.asks; touches = touches_led p calls at.leads; caused = (is.0, is.1, at.leads) }) (omega arith)
backs_all p calls d steps.Faulted at is =
    backing p calls outcome.Faulted (length p.writes) 0 (record { lost = tt; prepared = groups_of p; checked = reads_of p; row = at.row; asks = at.asks; touches = touches_led p calls at.leads; caused = tt }) (omega arith)
backs_all p calls d steps.More at is = absurd is
backs_all p calls d steps.Committed at is = absurd is
backs_all p calls d (steps.Unknown id) at is = absurd is
backs_all p calls d (steps.BadRecord key) at is = absurd is
backs_all p calls d steps.NoMemory at is = absurd is

-- what a row that was found says
record Follows (p : Work) (calls : List Call) (a : DecideStep) (v : Result Decided (List ℕ)) : Type 0 where
  pub row : AtRow p calls
  pub committed : (at : ℤ) → v ≡ Ok (record { decision = decision.Committed; created_at = at }) → IsLearned p calls
  pub aborted : (at : ℤ) → v ≡ Ok (record { decision = decision.Aborted; created_at = at }) → IsAborted p calls a

follows_one : (p : Work) (calls : List Call) (d : DecidePhase) (a : DecideStep) (v : Decided) (e : Decision) → v.decision ≡ e → Follows p calls a (Ok v)
    → Goes p calls (after_decide p d (elim e [ decision.Committed ↦ steps.Committed | decision.Aborted ↦ a ]))
follows_one p calls d a v decision.Committed is f =
    forwarding p calls 0 (record { leads = f.row.leads; row = f.row.row; asks = f.row.asks; learned = f.committed v.created_at (ap (λ x. Ok (record { decision = x; created_at = v.created_at })) is) }) (omega arith)
follows_one p calls d a v decision.Aborted is f = backs_all p calls d a f.row (f.aborted v.created_at (ap (λ x. Ok (record { decision = x; created_at = v.created_at })) is))

follows : (p : Work) (calls : List Call) (d : DecidePhase) (a : DecideStep) (v : Result Decided (List ℕ)) → Follows p calls a v → Goes p calls (after_decide p d (small.step_of_row p.id a v))
follows p calls d a (Err column) f = f.row
follows p calls d a (Ok v) f = follows_one p calls d a v v.decision refl f

put_row : (p : Work) (calls : List Call) (r : Reply) → AtPut p calls → AtRow p (calls ++ one (decide_of p.id p.now) r ∷ [])
put_row p calls r at = record { leads = leads_all p calls (one (decide_of p.id p.now) r) at.checked; row = decide_of p.id p.now ∷ []; asks = asks_row p calls (groups_of p) (reads_of p) [] (decide_of p.id p.now) r at.asks (inl refl) }

row_more : (p : Work) (calls : List Call) (q : Request) (r : Reply) → AtRow p calls → IsForRow p q → AtRow p (calls ++ one q r ∷ [])
row_more p calls q r at is = record { leads = leads_more p calls (one q r) at.leads; row = at.row ++ q ∷ []; asks = asks_row p calls (groups_of p) (reads_of p) at.row q r at.asks is }

learned_row : (p : Work) (calls : List Call) (q : Request) (r : Reply) (at : ℤ) → IsForRow p q → ObservesRow p.id decision.Committed at r → IsLearned p (calls ++ one q r ∷ [])
learned_row p calls q r at is observed = record { call = one q r; among = Contains-push calls (one q r); for_row = is; learned = inr (at, observed) }

given_row : (p : Work) (calls : List Call) (q : Request) (r : Reply) (at : ℤ) → IsForRow p q → NotOwn p calls → ObservesRow p.id decision.Aborted at r → IsGivenUp p (calls ++ one q r ∷ [])
given_row p calls q r at is none observed = record { before = calls; call = one q r; later = []; whole = refl; for_row = is; at = at; observed = observed; not_own = none }

-- a call that found a row, before any own put of ABORTED
found_row : (p : Work) (calls : List Call) (q : Request) (r : Reply) (row : Record) → AtRow p (calls ++ one q r ∷ []) → IsForRow p q → NotOwn p calls → row.key ≡ coordinator_key_of p.id → (r ≡ reply.Found (Some row)) ⊎ (r ≡ reply.NotMet (Some row))
    → Goes p (calls ++ one q r ∷ []) (after_decide p phase.Ended (small.step_of_row p.id (steps.Expired p.id) (decision_in row)))
unfolding IsAborted
found_row p calls q r row at is none key observed =
    follows p (calls ++ one q r ∷ []) phase.Ended (steps.Expired p.id) (decision_in row) (record {
      row = at;
      committed = λ moment says. learned_row p calls q r moment is (record { row = row; key = key; says = says; observed = observed });
      aborted = λ moment says. (refl, given_row p calls q r moment is none (record { row = row; key = key; says = says; observed = observed }));
    })

own_more : (p : Work) (calls : List Call) (q : Request) (r : Reply) → NotOwn p calls → q ≢ abort_of p.id p.now → NotOwn p (calls ++ one q r ∷ [])
own_more p calls q r none other = all_last (λ (c : Call). c.request ≢ abort_of p.id p.now) calls (one q r) none other

put_starved : (p : Work) (calls : List Call) → Clear p calls → IsPutOutOfMemory p (calls ++ one (decide_of p.id p.now) reply.NoMemory ∷ [])
put_starved p calls clear = all_last (λ (c : Call). c.request ≡ decide_of p.id p.now → c.reply ≡ reply.NoMemory) calls (one (decide_of p.id p.now) reply.NoMemory) (starved_clear p calls clear) (λ e. refl)

decide_step : (p : Work) (calls : List Call) (d : DecidePhase) (r : Reply) → Goes p calls (Deciding d) → CanGet (pending p (Deciding d)) r → Goes p (with_call (pending p (Deciding d)) r calls) (step p (Deciding d) r)
unfolding IsAborted
decide_step p calls phase.Put reply.Applied at gets =
    let row = put_row p calls reply.Applied at in
    forwarding p (calls ++ one (decide_of p.id p.now) reply.Applied ∷ []) 0
    (record { leads = row.leads; row = row.row; asks = row.asks; learned = record { call = one (decide_of p.id p.now) reply.Applied; among = Contains-push calls (one (decide_of p.id p.now) reply.Applied); for_row = inl refl; learned = inl (refl, refl) } }) (omega arith)
decide_step p calls phase.Put (reply.NotMet (Some row)) at gets =
    found_row p calls (decide_of p.id p.now) (reply.NotMet (Some row)) row (put_row p calls (reply.NotMet (Some row)) at) (inl refl) (own_clear p calls at.clear) (gets.0 ∙ row-key p.id decision.Committed p.now) (inr refl)
decide_step p calls phase.Put (reply.NotMet None) at gets = cc (gets.1)
decide_step p calls phase.Put reply.Fault at gets =
    (put_row p calls reply.Fault at, own_more p calls (decide_of p.id p.now) reply.Fault (own_clear p calls at.clear) (put_no_abort p))
decide_step p calls phase.Put reply.NoMemory at gets =
    let row = put_row p calls reply.NoMemory at in
    record { lost = tt; prepared = groups_of p; checked = reads_of p; row = row.row; asks = row.asks; touches = touches_led p (calls ++ one (decide_of p.id p.now) reply.NoMemory ∷ []) row.leads; caused = put_starved p calls at.clear }
decide_step p calls phase.Put (reply.Found o) at gets = absurd gets
decide_step p calls phase.Put (reply.Rows rows) at gets = absurd gets
decide_step p calls phase.Put (reply.NotAll place there) at gets = absurd gets
decide_step p calls phase.Look (reply.Found (Some row)) at gets =
    found_row p calls (look_of p.id) (reply.Found (Some row)) row (row_more p calls (look_of p.id) (reply.Found (Some row)) at.0 (inr (inl refl))) (inr (inl refl)) at.1 gets (inl refl)
decide_step p calls phase.Look (reply.Found None) at gets =
    (row_more p calls (look_of p.id) (reply.Found None) at.0 (inr (inl refl)), own_more p calls (look_of p.id) (reply.Found None) at.1 (look_no_abort p))
decide_step p calls phase.Look reply.Fault at gets = row_more p calls (look_of p.id) reply.Fault at.0 (inr (inl refl))
decide_step p calls phase.Look reply.NoMemory at gets = row_more p calls (look_of p.id) reply.NoMemory at.0 (inr (inl refl))
decide_step p calls phase.Abort reply.Applied at gets =
    backs_all p (calls ++ one (abort_of p.id p.now) reply.Applied ∷ []) phase.Ended steps.Faulted (row_more p calls (abort_of p.id p.now) reply.Applied at.0 (inr (inr refl))) tt
decide_step p calls phase.Abort (reply.NotMet (Some row)) at gets =
    found_row p calls (abort_of p.id p.now) (reply.NotMet (Some row)) row (row_more p calls (abort_of p.id p.now) (reply.NotMet (Some row)) at.0 (inr (inr refl))) (inr (inr refl)) at.1 (gets.0 ∙ row-key p.id decision.Aborted p.now) (inr refl)
decide_step p calls phase.Abort (reply.NotMet None) at gets = cc (gets.1)
decide_step p calls phase.Abort reply.Fault at gets = row_more p calls (abort_of p.id p.now) reply.Fault at.0 (inr (inr refl))
decide_step p calls phase.Abort reply.NoMemory at gets = row_more p calls (abort_of p.id p.now) reply.NoMemory at.0 (inr (inr refl))
decide_step p calls phase.Abort (reply.Found o) at gets = absurd gets
decide_step p calls phase.Abort (reply.Rows rows) at gets = absurd gets
decide_step p calls phase.Abort (reply.NotAll place there) at gets = absurd gets
decide_step p calls phase.Again (reply.Found (Some row)) at gets =
    follows p (calls ++ one (look_of p.id) (reply.Found (Some row)) ∷ []) phase.Ended steps.Faulted (decision_in row) (record {
      row = row_more p calls (look_of p.id) (reply.Found (Some row)) at (inr (inl refl));
      committed = λ moment says. learned_row p calls (look_of p.id) (reply.Found (Some row)) moment (inr (inl refl)) (record { row = row; key = gets; says = says; observed = inl refl });
      aborted = λ moment says. tt;
    })
decide_step p calls phase.Again (reply.Found None) at gets = row_more p calls (look_of p.id) (reply.Found None) at (inr (inl refl))
decide_step p calls phase.Again reply.Fault at gets = row_more p calls (look_of p.id) reply.Fault at (inr (inl refl))
decide_step p calls phase.Again reply.NoMemory at gets = row_more p calls (look_of p.id) reply.NoMemory at (inr (inl refl))
decide_step p calls phase.Ended r at gets = absurd at
decide_step p calls phase.Look r at gets = absurd gets
decide_step p calls phase.Again r at gets = absurd gets

---- rolls and stops

forward_step : (p : Work) (calls : List Call) (i : ℕ) (o : Option Request) (r : Reply) → slice_get (forwards p) i ≡ o → Goes p calls (Forward i) → CanGet o r → Goes p (with_call o r calls) (forward p (i + 1))
forward_step p calls i None r h at gets = absurd gets
forward_step p calls i (Some q) r h (at, l) gets =
    forwarding p (calls ++ one q r ∷ []) (i + 1)
    (record { leads = leads_more p calls (one q r) at.leads; row = at.row; asks = asks_roll p calls (groups_of p) (reads_of p) at.row (forwards p) i q r at.asks h; learned = learned_more p calls (one q r) at.learned }) (omega arith)

back_step : (p : Work) (calls : List Call) (a : Outcome) (n i : ℕ) (o : Option Request) (r : Reply) → slice_get (backs p) i ≡ o → Goes p calls (Back a n i) → CanGet o r → Goes p (with_call o r calls) (back a n (i + 1))
back_step p calls a n i None r h at gets = absurd gets
back_step p calls a n i (Some q) r h (at, l) gets =
    backing p (calls ++ one q r ∷ []) a n (i + 1)
    (record {
      lost = at.lost;
      prepared = at.prepared;
      checked = at.checked;
      row = at.row;
      asks = asks_roll p calls at.prepared at.checked at.row (backs p) i q r at.asks h;
      touches = touches_more p calls n (one q r) at.touches;
      caused = caused_more p calls (one q r) a (no_put_back p a n i q h) at.caused;
    }) (omega arith)

stopping : (p : Work) (calls : List Call) (a : Outcome) (n : ℕ) (r : Reply) → AtBack p calls a n [] → AtBack p (calls ++ one (abort_of p.id p.now) r ∷ []) a n []
stopping p calls a n r at = record {
  lost = at.lost;
  prepared = at.prepared;
  checked = at.checked;
  row = at.row ++ abort_of p.id p.now ∷ [];
  asks = asks_row p calls at.prepared at.checked at.row (abort_of p.id p.now) r at.asks (inr (inr refl));
  touches = touches_more p calls n (one (abort_of p.id p.now) r) at.touches;
  caused = caused_more p calls (one (abort_of p.id p.now) r) a (abort_no_put p) at.caused;
}

-- the put of ABORTED failed, and nothing is rolled back
fails : (p : Work) (calls : List Call) (a : Outcome) (n : ℕ) (r : Reply) → AtBack p calls a n [] → (r ≡ reply.Fault) ⊎ (r ≡ reply.NoMemory) → Ends p (calls ++ one (abort_of p.id p.now) r ∷ []) a
fails p calls a n r at failed =
    let now = stopping p calls a n r at in
    let put = one (abort_of p.id p.now) r in
    lost_end p (calls ++ put ∷ []) a at.lost (record {
      rolled = inr (record { before = calls; put = put; newest = refl; asked = refl; failed = failed }, asks_of p (calls ++ put ∷ []) now.prepared now.checked now.row [] now.asks);
      begins = begins_here p (calls ++ put ∷ []) n now.touches;
      caused = now.caused;
    })

stop_step : (p : Work) (calls : List Call) (a : Outcome) (n : ℕ) (r : Reply) → AtBack p calls a n [] → CanGet (pending p (Stopping a n)) r → Goes p (with_call (pending p (Stopping a n)) r calls) (step p (Stopping a n) r)
stop_step p calls a n reply.Applied at gets = backing p (calls ++ one (abort_of p.id p.now) reply.Applied ∷ []) a n 0 (stopping p calls a n reply.Applied at) (omega arith)
stop_step p calls a n (reply.NotMet found) at gets = backing p (calls ++ one (abort_of p.id p.now) (reply.NotMet found) ∷ []) a n 0 (stopping p calls a n (reply.NotMet found) at) (omega arith)
stop_step p calls a n reply.Fault at gets = fails p calls a n reply.Fault at (inl refl)
stop_step p calls a n reply.NoMemory at gets = fails p calls a n reply.NoMemory at (inr refl)
stop_step p calls a n (reply.Found o) at gets = absurd gets
stop_step p calls a n (reply.Rows rows) at gets = absurd gets
stop_step p calls a n (reply.NotAll place there) at gets = absurd gets

---- all

goes_step : (p : Work) (calls : List Call) (s : Stage) (r : Reply) → Goes p calls s → CanGet (pending p s) r → Goes p (with_call (pending p s) r calls) (step p s r)
goes_step p calls (Preparing i) r at gets = prepare_step p calls i r at gets
goes_step p calls (Checking i) r at gets = check_goes p calls i (slice_get (checks p) i) r refl at gets
goes_step p calls (Deciding d) r at gets = decide_step p calls d r at gets
goes_step p calls (Forward i) r at gets = forward_step p calls i (slice_get (forwards p) i) r refl at gets
goes_step p calls (Stopping a n) r at gets = stop_step p calls a n r at gets
goes_step p calls (Back a n i) r at gets = back_step p calls a n i (slice_get (backs p) i) r refl at gets
goes_step p calls (Over a) r at gets = absurd gets

pub goes : (p : Work) (past : List Reply) → AreReplies p past → Goes p (calls_of_path p past) (after p past)
goes p [] correct = begins p
goes p (r ∷ past) correct = goes_step p (calls_of_path p past) (after p past) r (goes p past correct.0) correct.1

-- the calls that it makes, where it is
pub goes_made : (p : Work) (calls : List Call) (s : Stage) → Makes p calls s → Goes p calls s
goes_made p calls s m = subst (λ cs. Goes p cs s) m.made (subst (Goes p (calls_of_path p m.past)) m.agrees (goes p m.past m.correct))
