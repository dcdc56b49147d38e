-- COMMITs that roll otherwise than they prepared are refused.
use Rattle.std.proofs.Common.{◌≡◌, ◌⊎◌, inl, inr, ◌<◌, Bool, true, false, List, [], ◌∷◌, ◌++◌, length, map, take, Some, refl, sym, ap, subst, ◌∙◌, arith}
use Rattle.std.specs.List.{AllByRecursion}
use Rattle.std.proofs.lemmas.List.Elements.{Contains-push}
use Rattle.law_runs.specs.Types.{Check, Condition, Record, Request, Write}
use Rattle.sdb_types.specs.declared.record.Put.{Put}
use Rattle.sdb_types.specs.declared.record.Condition.TheVariants as condition
use Rattle.sdb_types.specs.declared.record.Reply.TheVariants as reply
use Rattle.sdb_types.specs.declared.record.Request.TheVariants as ask
use Rattle.sdb_types.specs.Contents.{sent}
use Rattle.sdb_types.proofs.Public.{append_all as each_append, clash}
use Rattle.sdb_record.specs.declared.coordinator.Decision.TheVariants as decision
use Rattle.sdb_record.specs.Groups.{IsGroup, grouped, ungrouped}
use Rattle.sdb_record.proofs.Public.{each_group}
use Rattle.sdb_model.specs.declared.answer.Answer.TheVariants as answer
use Rattle.sdb_model.specs.Calls.{is_read}
use Rattle.sdb_model.specs.Requests.{any_of, puts_in}
use Rattle.sdb_model.specs.Transactions.{Executed, id_of, prepares}
use Rattle.sdb_phases.specs.Checks.{checks}
use Rattle.sdb_phases.specs.Work.{Work, forwards, forwards_of, prepare_of, prepares_of}
use Rattle.sdb_phases.specs.Work as work
use Rattle.law_answers.specs.Paths.{Asks, Call, IsForRow, check_requests, requests_of, touched, undone}
use Rattle.law_answers.specs.Ends.{IsAbortFailed}
use Rattle.law_answers.proofs.Public.{prepared_is}
use Rattle.law_runs.specs.CommitPaths.{CommitsArePaths, IsAtOnce, IsCommitPath}
use Rattle.law_runs.specs.Forged.{CommitText, InsertOn, abort_first, decide_first, delete_first, ends_unfinished, prepare_first, reads_for_rolls, rolls_unprepared}
use Rattle.law_runs.proofs.RowWrites.{checks_read}
use Rattle.law_runs.proofs.Unprepared.{checks_no, row_no}
use Rattle.law_clients.proofs.Public.{take_all}

---- lists

right_all : {X : Type 0} (P : X → Type 0) (xs ys : List X) → AllByRecursion P (xs ++ ys) → AllByRecursion P ys
right_all P [] ys h = h
right_all P (x ∷ xs) ys h = right_all P xs ys h.1

requests_all : (P : Request → Type 0) (cs : List Check) → AllByRecursion (λ (c : Check). P c.request) cs → AllByRecursion P (map (λ (c : Check). c.request) cs)
requests_all P [] h = tt
requests_all P (c ∷ cs) h = (h.0, requests_all P cs h.1)

-- What is so of each prepare, each check and each request for the row is so of all that a COMMIT asks, which rolls nothing.
asked_all : (P : Request → Type 0) (p : Work) (calls : List Call) (a : Asks p calls []) → AllByRecursion P (work.prepares p) → AllByRecursion (λ (c : Check). P c.request) (checks p) → ((q : Request) → IsForRow p q → P q) → AllByRecursion P (requests_of calls)
asked_all P p calls a h k f =
    subst (AllByRecursion P) (sym a.whole)
    (each_append P (take a.prepared (work.prepares p) ++ take a.checked (check_requests p) ++ a.row) []
    (each_append P (take a.prepared (work.prepares p) ++ take a.checked (check_requests p)) a.row
    (each_append P (take a.prepared (work.prepares p)) (take a.checked (check_requests p)) (take_all P a.prepared (work.prepares p) h) (take_all P a.checked (check_requests p) (requests_all P (checks p) k)))
    (rows a.row a.for_row))
    tt)
  where
    rows : (qs : List Request) → AllByRecursion (IsForRow p) qs → AllByRecursion P qs
    rows [] h = tt
    rows (q ∷ qs) h = (f q h.0, rows qs h.1)

---- a COMMIT that rolls back what it didn't prepare

-- the statements before the COMMIT
abbrev begun : InsertOn → Executed
begun f = record { accepted = 1; text = f.on.begin; answer = Some answer.Done; reached = 1 }

abbrev inserted : InsertOn → Executed
inserted f = record { accepted = 2; text = f.on.text; answer = Some (answer.Count 1); reached = 3 }

abbrev is_delete : Request → Bool
is_delete (ask.DeleteIf key c) = true
is_delete q = false

abbrev KeepsAll : Request → Type 0
KeepsAll q = is_delete q ≡ false

puts_keep : (b : List Put) → KeepsAll (sent b)
puts_keep [] = refl
puts_keep (p ∷ []) = refl
puts_keep (p ∷ q ∷ ps) = refl

prepares_keep : (p : Work) (gs : List (List Write)) → AllByRecursion KeepsAll (map (prepares_of p.id p.now) gs)
prepares_keep p [] = tt
prepares_keep p (g ∷ gs) = (puts_keep (map (prepare_of p.id p.now) g), prepares_keep p gs)

reads_keep : (q : Request) → is_read q ≡ true → KeepsAll q
reads_keep (ask.Get key) e = refl
reads_keep (ask.Scan span) e = refl
reads_keep (ask.PutIf r c) e = refl
reads_keep (ask.DeleteIf key c) e = clash (sym e)
reads_keep (ask.PutAll batch) e = clash (sym e)

checks_keep : (cs : List Check) → AllByRecursion (λ (c : Check). is_read c.request ≡ true) cs → AllByRecursion (λ (c : Check). KeepsAll c.request) cs
checks_keep [] h = tt
checks_keep (c ∷ cs) h = (reads_keep c.request h.0, checks_keep cs h.1)

row_keeps : (p : Work) (q : Request) → IsForRow p q → KeepsAll q
row_keeps p q (inl e) = ap is_delete e
row_keeps p q (inr (inl e)) = ap is_delete e
row_keeps p q (inr (inr e)) = ap is_delete e

none_deleted : (p : Work) (calls : List Call) → Asks p calls [] → AllByRecursion KeepsAll (requests_of calls)
none_deleted p calls a = asked_all KeepsAll p calls a (prepares_keep p (grouped p.writes)) (checks_keep (checks p) (checks_read p)) (row_keeps p)

pub unprepared_roll_refused : (f : InsertOn) (t : CommitText) (r : Record) → CommitsArePaths (rolls_unprepared f t r) → ⊥
unprepared_roll_refused f t r law = by (law 1 s (answer.Conflict t.write.key (Some r)) (Contains-push (begun f ∷ inserted f ∷ []) s) t.commits refl)
  where
    s : Executed
    s = record { accepted = 4; text = t.text; answer = Some (answer.Conflict t.write.key (Some r)); reached = 7 }

    calls : List Call
    calls = record { request = prepare_first t; reply = reply.NotMet (Some r) } ∷ record { request = abort_first t; reply = reply.Applied } ∷ record { request = delete_first t; reply = reply.Applied } ∷ []

    deletes : (p : Work) → Asks p calls [] → ⊥
    deletes p a = let h : AllByRecursion KeepsAll (requests_of calls) = none_deleted p calls a in clash h.1.1.0

    none_touched : (gs : List (List Write)) → touched gs calls ≡ []
    none_touched [] = refl
    none_touched (g ∷ gs) = refl

    rolled : (p : Work) → Asks p calls (undone p calls) ⊎ (IsAbortFailed p calls × Asks p calls []) → ⊥
    rolled p (inl a) = deletes p (subst (Asks p calls) (ap (λ gs. map (work.back_of p.id) (ungrouped gs)) (none_touched (grouped p.writes))) a)
    rolled p (inr a) = deletes p a.1

    by : IsAtOnce (rolls_unprepared f t r) 1 s (answer.Conflict t.write.key (Some r)) ⊎ IsCommitPath (rolls_unprepared f t r) 1 s (answer.Conflict t.write.key (Some r)) → ⊥
    by (inl z) = let e = z.none in cc
    by (inr z) = rolled z.work z.rolls

---- one that doesn't roll forward what it prepared

abbrev PreparesNone : Request → Type 0
PreparesNone q = prepares (id_of 1 1) q ≡ false

row_prepares_none : (p : Work) (q : Request) → IsForRow p q → PreparesNone q
row_prepares_none p q (inl e) = ap (prepares (id_of 1 1)) e ∙ row_no (id_of 1 1) p.id decision.Committed p.now condition.Absent
row_prepares_none p q (inr (inl e)) = ap (prepares (id_of 1 1)) e
row_prepares_none p q (inr (inr e)) = ap (prepares (id_of 1 1)) e ∙ row_no (id_of 1 1) p.id decision.Aborted p.now condition.Absent

-- a condition holds of some record alone
abbrev is_over_one : Condition → Bool
is_over_one condition.Absent = false
is_over_one (condition.Version id state) = true

-- it puts some record in place of one
abbrev is_over_put : Request → Bool
is_over_put q = any_of (λ (x : Record × Condition). is_over_one x.1) (puts_in q)

abbrev PutsNoneOver : Request → Type 0
PutsNoneOver q = is_over_put q ≡ false

-- A COMMIT that has prepared a record, and put none in place of another, isn't answered Committed.
module _ (t : CommitText) (more : List Call) (puts : AllByRecursion PutsNoneOver (requests_of more)) where
  abbrev calls : List Call
  calls = record { request = prepare_first t; reply = reply.Applied } ∷ more

  nothing_written : (p : Work) → grouped p.writes ≡ [] → Asks p calls [] → ⊥
  nothing_written p e a =
      let h : AllByRecursion PreparesNone (requests_of calls) = asked_all PreparesNone p calls a (subst (λ gs. AllByRecursion PreparesNone (map (prepares_of p.id p.now) gs)) (sym e) tt) (checks_no (id_of 1 1) p) (row_prepares_none p) in
      clash (sym (prepared_is (id_of 1 1) t.now t.write) ∙ h.0)

  group_over : (p : Work) (g : List Write) → 0 < length g → is_over_put (forwards_of p.id p.now g) ≡ true
  group_over p [] some = absurd (omega (arith, some))
  group_over p (w ∷ []) some = refl
  group_over p (w ∷ v ∷ ws) some = refl

  rolls_group : (p : Work) (g : List Write) (qs : List Request) → 0 < length g → Asks p calls (forwards_of p.id p.now g ∷ qs) → ⊥
  rolls_group p g qs some a =
      let h : AllByRecursion PutsNoneOver (take a.prepared (work.prepares p) ++ take a.checked (check_requests p) ++ a.row ++ forwards_of p.id p.now g ∷ qs) = subst (AllByRecursion PutsNoneOver) a.whole (refl, puts) in
      let z : AllByRecursion PutsNoneOver (forwards_of p.id p.now g ∷ qs) = right_all PutsNoneOver (take a.prepared (work.prepares p) ++ take a.checked (check_requests p) ++ a.row) (forwards_of p.id p.now g ∷ qs) h in
      clash (sym (group_over p g some) ∙ z.0)

  none_forward : (p : Work) → Asks p calls (forwards p) → ⊥
  none_forward p = by (grouped p.writes) refl (each_group p.writes)
    where
      by : (gs : List (List Write)) → grouped p.writes ≡ gs → AllByRecursion IsGroup gs → Asks p calls (map (forwards_of p.id p.now) gs) → ⊥
      by [] e are a = nothing_written p e a
      by (g ∷ gs) e are a = rolls_group p g (map (forwards_of p.id p.now) gs) are.0.some a

pub unfinished_refused : (f : InsertOn) (t : CommitText) → CommitsArePaths (ends_unfinished f t) → ⊥
unfinished_refused f t law = by (law 1 s answer.Committed (Contains-push (begun f ∷ inserted f ∷ []) s) t.commits refl)
  where
    s : Executed
    s = record { accepted = 4; text = t.text; answer = Some answer.Committed; reached = 6 }

    by : IsAtOnce (ends_unfinished f t) 1 s answer.Committed ⊎ IsCommitPath (ends_unfinished f t) 1 s answer.Committed → ⊥
    by (inl z) = let e = z.none in cc
    by (inr z) = none_forward t (record { request = decide_first t; reply = reply.Applied } ∷ []) (refl, tt) z.work z.rolls

pub read_roll_refused : (f : InsertOn) (t : CommitText) (r : Record) → CommitsArePaths (reads_for_rolls f t r) → ⊥
read_roll_refused f t r law = by (law 1 s answer.Committed (Contains-push (begun f ∷ inserted f ∷ []) s) t.commits refl)
  where
    s : Executed
    s = record { accepted = 4; text = t.text; answer = Some answer.Committed; reached = 7 }

    by : IsAtOnce (reads_for_rolls f t r) 1 s answer.Committed ⊎ IsCommitPath (reads_for_rolls f t r) 1 s answer.Committed → ⊥
    by (inl z) = let e = z.none in cc
    by (inr z) = none_forward t (record { request = decide_first t; reply = reply.Applied } ∷ record { request = ask.Get t.write.key; reply = reply.Found (Some r) } ∷ []) (refl, (refl, tt)) z.work z.rolls
