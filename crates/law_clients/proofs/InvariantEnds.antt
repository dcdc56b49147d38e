-- Where the events end, what ties them to the clients is what a run owes them.
use Rattle.std.proofs.Common.{◌≡◌, ◌<◌, ◌≤◌, ◌+◌, ◌-◌, ◌*◌, ◌/◌, ◌%◌, ◌^◌, ℕ, suc, Bool, true, false, List, [], ◌∷◌, ◌++◌, length, map, Option, Some, None, IfSome, refl, sym, ap, ◌∙◌, subst, arith}
use Rattle.std.specs.Prelude.{◌&&◌, All, Contains, filter, slice_index_or, if◌then◌else◌}
use Rattle.std.specs.List.{AllByRecursion}
use Rattle.std.proofs.lemmas.List.{append_assoc}
use Rattle.std.proofs.lemmas.Nat.{div-add-mod'}
use Rattle.law_clients.specs.Types.{Event, Point, Script, Statement, Table, TableDump}
use Rattle.sdb_model.specs.declared.answer.Answer.TheVariants as answer
use Rattle.sdb_model.specs.Events.{IsTrace}
use Rattle.sdb_model.specs.Exec.{Tables}
use Rattle.sdb_model.specs.Follows.{Follows}
use Rattle.sdb_model.specs.Serial.{IsRun}
use Rattle.sdb_model.specs.Transactions.{IsOrder, Recorded, Executed, begins, client_of, is_effective, ordinal_of, statements_by, statements_inside}
use Rattle.sdb_model.specs.Sql.{reads_begin, reads_commit}
use Rattle.law_protocol.specs.Explained.{IsRunOf, events_of, newest_first}
use Rattle.law_protocol.specs.Faithful.{AreReadSets}
use Rattle.law_protocol.specs.Lawful.{Labelled, id, protocol_state}
use Rattle.law_protocol.specs.Plan.{Plan}
use Rattle.law_protocol.specs.Trace.{IsTraced, closing}
use Rattle.law_protocol.proofs.Public.{traced_of}
use Rattle.law_clients.specs.Progress.{Ending, outcome_with}
use Rattle.law_clients.specs.System.{SystemAt}
use Rattle.law_clients.proofs.Begin.{accepted_begun}
use Rattle.law_clients.specs.Reads.{work_of}
use Rattle.law_clients.specs.Filed.{number}
use Rattle.law_clients.specs.Left.{Execution, ExecutionOk, BodyIsExecuted, ordinals_of}
use Rattle.law_clients.specs.Linked.{HaveStories}
use Rattle.law_clients.specs.Story.{Closed, Finished, IsWellFormedStory, MayCome, Opened, Rest, all_of, txn_ended_at, statements_in, saids_of, settle}
use Rattle.law_clients.specs.History.{OpenFiled, HistoryInvariant, ClientHistory, begun_in, count_of, waiting_of}
use Rattle.law_clients.proofs.Answered.{commit_ends}
use Rattle.law_clients.proofs.Bodily.{noted_whole}
use Rattle.law_clients.proofs.Faith.{beyond}
use Rattle.law_clients.proofs.Files.{accepted_counts}
use Rattle.law_clients.proofs.Notes.{are_noted}
use Rattle.law_clients.proofs.Places.{finished_inside, story_kept, story_same}
use Rattle.law_clients.specs.Body.{BodyOk}
use Rattle.law_clients.proofs.Catalogs.{point_catalog}
use Rattle.law_clients.proofs.Ends.{all_by, index_map, length_ids, taken_of}
use Rattle.law_clients.proofs.Run.{linked_run}
use Rattle.law_clients.proofs.HistoryTurns.{body_is_said}
use Rattle.law_clients.specs.Invariant.{RunInvariant, OpenedOk, RanOk}
use Rattle.law_clients.specs.ReadSets.{ReadSetInside, ReadSetOpened}
use Rattle.law_clients.proofs.InvariantOwn.{finished, over}
use Rattle.sdb_types.proofs.Public.{and_false as no_second, none_some}

---- what it ran

last_at : (fs : List Finished) (f : Finished) → txn_ended_at (fs ++ f ∷ []) (length fs) ≡ Some f
last_at [] f = refl
last_at (g ∷ fs) f = last_at fs f

-- What is so of a transaction, with its body as the texts have it.
pub record Ran (catalog : List Table) (fit : List Table → Tables → Bool) (plan : ℕ → Plan) (events : List Event) (past : List Labelled) (t : ℕ) (r : Execution) : Type 0 where
  pub inside : List Executed
  pub body : statements_inside events (id t) ≡ inside
  pub ok : RanOk catalog fit plan past t inside r
  pub as_read : ReadSetInside events (client_of (id t)) inside r.seen

module _ (catalog : List Table) (fit : List Table → Tables → Bool) (events : List Event) (sys : SystemAt) (doing : ℕ → Option Statement) (g : RunInvariant catalog fit events sys doing) where
  -- of a client's transaction whose COMMIT was accepted
  ran_by : (c k : ℕ) → client_of (id (number c k)) ≡ c → ordinal_of (id (number c k)) ≡ suc k → suc k < 2 ^ 64 → (protocol_state g.past).accepted (number c k) ≡ true → Ran catalog fit g.plan events g.past (number c k) (g.ran c k)
  ran_by c k client ordinal small accepted = by (txn_ended_at x.whole k) refl
    where
      x : ClientHistory
      x = g.answered c

      story : HistoryInvariant events g.past sys c x
      story = g.stories c

      counts : k < count_of x
      counts = subst (λ m. k < m) story.count (accepted_counts g.plan g.past sys c k g.system small accepted)

      answered : (whole : List Finished) (more : List Executed) → statements_by c events ≡ saids_of whole ++ more → statements_by (client_of (id (number c k))) events ≡ saids_of whole ++ more
      answered whole more e = ap (λ d. statements_by d events) client ∙ e

      -- it is the one that is open, and its COMMIT waits
      in_hand : (gap : List Executed) (b : Executed) (inside : List Executed) → x.rest ≡ Opened gap b inside → k ≡ length x.whole → Ran catalog fit g.plan events g.past (number c k) (g.ran c k)
      in_hand gap b inside e at = record {
        inside = inside;
        body = finished_inside events (id (number c k)) (x.whole ++ f ∷ []) [] (length x.whole) f (answered (x.whole ++ f ∷ []) [] all) (ordinal ∙ ap suc at) kept.whole (last_at x.whole f);
        ok = subst (λ j. RanOk catalog fit g.plan g.past (number c j) inside (g.ran c j)) (sym at) (subst (λ r. OpenedOk catalog fit g.plan g.past (number c (length x.whole)) r (g.ran c (length x.whole))) e (g.clients c).opened);
        as_read = subst (λ d. ReadSetInside events d inside (g.ran c k).seen) (sym client) (subst (λ j. ReadSetInside events c inside (g.ran c j).seen) (sym at) (subst (λ r. ReadSetOpened events c r (g.ran c (length x.whole))) e (g.as_read c).opened));
      }
        where
          w : (w : Executed) × (x.waiting ≡ Some w) × (reads_commit w.text ≡ true) × (w.accepted ≡ (protocol_state g.past).accepted_at (number c (length x.whole)))
          w = (subst (OpenFiled g.past c x) e story.opened).1 (ap (λ j. (protocol_state g.past).accepted (number c j)) (sym at) ∙ accepted)

          f : Finished
          f = finished gap b inside w.0

          unanswered : w.0.answer ≡ None
          unanswered = subst (λ o. IfSome o (λ (s : Executed). s.answer ≡ None)) w.1 story.waits

          plain : begins w.0 ≡ false
          plain = ap (λ o. reads_begin w.0.text && Rattle.sdb_model.specs.Transactions.is_done o) unanswered ∙ no_second (reads_begin w.0.text)

          may : MayCome x.rest w.0
          may = subst (λ r. MayCome r w.0) (sym e) (plain, λ n h. none_some answer.Committed (sym unanswered ∙ h))

          settled : settle x.whole x.rest w.0 ≡ over x gap b inside w.0
          settled = ap (λ r. settle x.whole r w.0) e ∙ ap (λ z. if z then over x gap b inside w.0 else record { whole = x.whole; rest = Opened gap b (inside ++ w.0 ∷ []) }) (commit_ends w.0 w.2)

          kept : IsWellFormedStory (over x gap b inside w.0)
          kept = subst IsWellFormedStory settled (story_kept x.whole x.rest w.0 story.ok story.rest_ok may)

          all : statements_by c events ≡ saids_of (x.whole ++ f ∷ []) ++ []
          all = story.same ∙ ap (λ o. (saids_of x.whole ++ statements_in x.rest) ++ waiting_of o) w.1 ∙ sym (story_same x.whole x.rest w.0) ∙ ap all_of settled

      open_one : (r : Rest) → x.rest ≡ r → length x.whole ≤ k → k < length x.whole + begun_in r → Ran catalog fit g.plan events g.past (number c k) (g.ran c k)
      open_one (Closed gap) e low high = absurd (none (length x.whole) low high)
        where
          none : (m : ℕ) → m ≤ k → k < m + 0 → ⊥
          none m a b = omega arith
      open_one (Opened gap b inside) e low high = in_hand gap b inside e (one (length x.whole) low high)
        where
          one : (m : ℕ) → m ≤ k → k < m + 1 → k ≡ m
          one m a b = omega arith

      by : (o : Option Finished) → txn_ended_at x.whole k ≡ o → Ran catalog fit g.plan events g.past (number c k) (g.ran c k)
      by (Some f) e = record {
        inside = f.body;
        body = finished_inside events (id (number c k)) x.whole (statements_in x.rest ++ waiting_of x.waiting) k f (answered x.whole (statements_in x.rest ++ waiting_of x.waiting) (story.same ∙ append_assoc (saids_of x.whole) (statements_in x.rest) (waiting_of x.waiting))) ordinal story.ok e;
        ok = (g.clients c).ended k f e;
        as_read = subst (λ d. ReadSetInside events d f.body (g.ran c k).seen) (sym client) ((g.as_read c).ended k f e);
      }
      by None e = open_one x.rest refl (beyond x.whole k e) counts

  -- by its number
  abbrev pub ran_of : ℕ → Execution
  ran_of t = g.ran (t / 2 ^ 64) (t % 2 ^ 64 - 1)

  ran_at : (t : ℕ) → (protocol_state g.past).accepted t ≡ true → Ran catalog fit g.plan events g.past t (ran_of t)
  ran_at t accepted = subst (λ u. Ran catalog fit g.plan events g.past u (ran_of t)) whole (ran_by (t / 2 ^ 64) (t % 2 ^ 64 - 1) (ap (λ u. u / 2 ^ 64) whole) (ap (λ u. u % 2 ^ 64) whole ∙ ordinal) (subst (λ m. m < 2 ^ 64) ordinal (small t)) (ap (protocol_state g.past).accepted whole ∙ accepted))
    where
      positive : (m : ℕ) → 0 < m → m ≡ suc (m - 1)
      positive m l = omega (arith, l)

      ordinal : t % 2 ^ 64 ≡ suc (t % 2 ^ 64 - 1)
      ordinal = positive (t % 2 ^ 64) (accepted_begun g.plan g.past sys t g.system accepted)

      small : (m : ℕ) → m % 2 ^ 64 < 2 ^ 64
      small m = omega arith

      whole : number (t / 2 ^ 64) (t % 2 ^ 64 - 1) ≡ t
      whole = ap (λ m. t / 2 ^ 64 * 2 ^ 64 + m) (sym ordinal) ∙ div-add-mod' t (2 ^ 64)

  -- what it ran, under the tables of its point
  pub executed_at : (t : ℕ) → (protocol_state g.past).accepted t ≡ true → ExecutionOk catalog fit g.plan g.past t (ran_of t) × BodyIsExecuted events t (ran_of t)
  executed_at t accepted =
      let r = ran_at t accepted in
      (record { seen = r.ok.inside.seen; planned = r.ok.planned accepted; body = subst (λ (ts : List Table). BodyOk ts (fit ts) (ran_of t).body (ran_of t).answers (ran_of t).seen) (sym (point_catalog g.plan catalog g.past g.system.lawful g.at_rest t accepted)) r.ok.inside.body }, body_is_said events t r.inside (ran_of t) (ap (filter is_effective) r.body) r.ok.inside.executed)

  -- the plans' notes are what the statements noted
  pub invariant_is_read_sets : AreReadSets g.plan events g.past
  invariant_is_read_sets = are_noted g.plan events g.past (λ t. work_of (id t) (ran_of t).now (ran_of t).seen) (λ t accepted.
      let r = ran_at t accepted in
      noted_whole g.plan events (client_of (id t)) t (ran_of t).now r.inside (ran_of t).seen refl r.body (r.ok.planned accepted) r.as_read.as_read)

---- points

all_ids : (P : ℕ → Type 0) (ps : List Point) → AllByRecursion (λ (p : Point). P p.id.0) ps → AllByRecursion P (ordinals_of ps)
all_ids P [] all = tt
all_ids P (p ∷ ps) all = (all.0, all_ids P ps all.1)

-- Events of any number of clients that are tied to them, follow a script's moves, and agree with stores whose tables began empty, are a run.
pub invariant_is_run : (script : Script) (e : Ending script) → (tables : List TableDump) × IsRun script e.opening e.closing (outcome_with e tables)
invariant_is_run script e =
    subst (λ es. (tables : List TableDump) × IsRun script e.opening e.closing (record { events = es; order = e.order; tables = tables })) (sym e.running.same)
    (linked_run script e.fit e.running.labelled e.opening e.closing e.moments e.order e.fitting linked (subst (Follows script) e.running.same e.follows) (subst (λ es. IsTrace script.places es e.opening e.moments e.closing) e.running.same e.traced) e.empty (subst (λ es. IsOrder script.places es e.closing e.order) e.running.same e.ordered) e.ids)
  where
    turned : IsTraced script.places e.opening (newest_first e.running.labelled) (newest_first e.moments) × (closing e.opening (newest_first e.moments) ≡ e.closing)
    turned = traced_of script.places e.opening e.running.labelled e.moments e.closing (subst (λ es. IsTrace script.places es e.opening e.moments e.closing) e.running.same e.traced)

    run : IsRunOf e.running.plan script.places e.opening e.running.past (newest_first e.moments)
    run = subst (λ ps. IsRunOf e.running.plan script.places e.opening ps (newest_first e.moments)) (sym e.running.turned) (record { empty = e.empty; lawful = subst (Rattle.law_protocol.specs.Lawful.IsLawful e.running.plan) e.running.turned e.running.system.lawful; traced = turned.0 })

    accepted : All (λ (p : Point). (protocol_state e.running.past).accepted p.id.0 ≡ true) e.order
    accepted k d l =
        let p : Point = slice_index_or e.order k d in
        let among : Contains (map (λ (q : Point). q.id) e.order) p.id = (k, subst (λ m. k < m) (sym (length_ids e.order)) l, index_map e.order k d p l) in
        let recorded : Recorded script.places e.closing p.id = (e.ordered.recorded p.id (e.ids k d l)).0 among in
        taken_of e.running.plan script.places e.opening e.running.past (newest_first e.moments) p.id.0 run (e.ids k d l) (subst (λ s. Recorded script.places s p.id) (sym turned.1) recorded)

    linked : HaveStories script.catalog e.fit e.running.labelled e.order
    linked = record {
      plan = e.running.plan;
      sys = e.sys;
      answered = e.running.answered;
      ran = ran_of script.catalog e.fit e.events e.sys e.doing e.running;
      system = subst (λ ps. Rattle.law_clients.specs.System.SystemOk e.running.plan ps e.sys) e.running.turned e.running.system;
      stories = subst (λ ps. Rattle.law_clients.specs.History.AllStories (events_of e.running.labelled) ps e.sys e.running.answered) e.running.turned (subst (λ es. Rattle.law_clients.specs.History.AllStories es e.running.past e.sys e.running.answered) e.running.same e.running.stories);
      bodies = subst (λ ps. Rattle.law_clients.specs.Left.AllBodiesExecuted script.catalog e.fit e.running.plan (events_of e.running.labelled) ps (ran_of script.catalog e.fit e.events e.sys e.doing e.running) (ordinals_of e.order)) e.running.turned (subst (λ es. Rattle.law_clients.specs.Left.AllBodiesExecuted script.catalog e.fit e.running.plan es e.running.past (ran_of script.catalog e.fit e.events e.sys e.doing e.running) (ordinals_of e.order)) e.running.same
          (all_ids (λ t. ExecutionOk script.catalog e.fit e.running.plan e.running.past t (ran_of script.catalog e.fit e.events e.sys e.doing e.running t) × BodyIsExecuted e.events t (ran_of script.catalog e.fit e.events e.sys e.doing e.running t)) e.order
          (all_by (λ (p : Point). ExecutionOk script.catalog e.fit e.running.plan e.running.past p.id.0 (ran_of script.catalog e.fit e.events e.sys e.doing e.running p.id.0) × BodyIsExecuted e.events p.id.0 (ran_of script.catalog e.fit e.events e.sys e.doing e.running p.id.0)) e.order (λ k d l. executed_at script.catalog e.fit e.events e.sys e.doing e.running (slice_index_or e.order k d).id.0 (accepted k d l)))));
    }
