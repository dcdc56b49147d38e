-- The taking of a COMMIT keeps what is so of all clients, with the plan that it brings.
use Rattle.std.proofs.Common.{◌≡◌, ◌≢◌, ◌≤◌, ◌<◌, ℕ, ℤ, Bool, true, false, List, ◌∷◌, length, map, Option, Some, None, refl, sym, ap, subst, ◌∙◌, arith, inl, inr}
use Rattle.std.specs.Prelude.{slice_get, nat_lt, filter, not, if◌then◌else◌, ◌==◌}
use Rattle.std.specs.List.{AllByRecursion}
use Rattle.std.specs.Option.{option_map}
use Rattle.std.proofs.lemmas.Bool.Decides.{nat_tests}
use Rattle.law_clients.specs.Types.{Key, Outcome, Read, Record, TxId, Write}
use Rattle.sdb_types.specs.Contents.{in_span}
use Rattle.sdb_record.specs.Meta.{id_in, is_moment}
use Rattle.sdb_record.specs.Among.{version_among, is_written}
use Rattle.sdb_record.specs.Groups.{grouped}
use Rattle.sdb_record.proofs.Public.{in_groups_length, place_of_grouped, taken_all}
use Rattle.sdb_model.specs.ReadSet.{ReadItem, KeyRead, SpanRead, version_read}
use Rattle.sdb_model.specs.declared.answer.Answer.TheVariants as answer
use Rattle.sdb_model.specs.declared.event.Event.TheVariants as event
use Rattle.sdb_model.specs.Sql.{reads_commit}
use Rattle.law_protocol.specs.Plan.{Plan, write_at, version_read_at, number_of}
use Rattle.law_protocol.specs.History.{ProtocolState, Takes, state_after_event, at}
use Rattle.law_protocol.specs.History as laws
use Rattle.law_protocol.specs.Lawful.{Labelled, id, protocol_state, IsSettled, IsKnownCommitted, InCommit, MayTake}
use Rattle.law_protocol.proofs.Public.{write_key}
use Rattle.sdb_phases.specs.declared.step.DecidePhase.TheVariants as phase
use Rattle.sdb_phases.specs.declared.step.Outcome.TheVariants as outcome
use Rattle.sdb_phases.specs.Work.{Work, groups_of}
use Rattle.sdb_phases.specs.Checks.{checks}
use Rattle.sdb_phases.specs.Commit.{Stage, Preparing, Checking, Deciding, Forward, Stopping, Back, Over, preparing, checking}
use Rattle.sdb_snapshot.specs.Seen.{Seen}
use Rattle.law_clients.specs.Owner.{plan_of, items_of_work, checked_items, own_items, CommitOk, StageOk, OverOk}
use Rattle.law_clients.specs.Reads.{OpenOk, SeenOk, work_of, Sound, Settled, VersionSettled, IsReadThere}
use Rattle.law_clients.specs.System.{ClientAt, Resting, Open, Reading, Committing, RunsVacuum, Stopped, ClientOk, Has, SystemAt, SystemOk, with_plan, commit_left, IsInState, SamePlans, IsCommit, take_labelled, commit_begun}
use Rattle.law_clients.proofs.Kept.{by_test, checks_begin, not_deciding}
use Rattle.law_clients.proofs.Replan.{replanned}
use Rattle.law_clients.proofs.Clients.{turned}
use Rattle.law_clients.proofs.Commit.{no_start, never_vacuum}
use Rattle.law_clients.proofs.Lists.{each_at, each_map, each_filter}
use Rattle.law_clients.proofs.Seen.{sound_of, settled_of}
use Rattle.law_clients.proofs.Work.{work_ok, got_says, scan_says, noted_by, not_noted}
use Rattle.sdb_types.proofs.Public.{all_each as each_any, append_all as each_append}
use Rattle.sdb_model.specs.Tables.{is_data}

plan_here : (plan : ℕ → Plan) (p : Work) → with_plan plan p p.id.0 ≡ plan_of p
plan_here plan p = ap (λ b. if b then plan_of p else plan p.id.0) (itself p.id.0)
  where
    itself : (n : ℕ) → (n == n) ≡ true
    itself n = grind (arith, nat_tests)

plan_there : (plan : ℕ → Plan) (p : Work) (u : ℕ) → u ≢ p.id.0 → plan u ≡ with_plan plan p u
plan_there plan p u n = sym (ap (λ b. if b then plan_of p else plan u) (apart u p.id.0 n))
  where
    apart : (m n : ℕ) → m ≢ n → (m == n) ≡ false
    apart m n h = grind (arith, nat_tests)

---- what is noted was read

abbrev NoteSettled : List Labelled → ReadItem → Type 0
NoteSettled past (KeyRead r) = IsReadThere past r.key r.version
NoteSettled past (SpanRead s) = (k : Key) → in_span s.span k ≡ true → IsReadThere past k (version_among s.found k)

notes_settled : (past : List Labelled) (p : Work) → Settled past p → AllByRecursion (NoteSettled past) (items_of_work p)
notes_settled past p ok = each_append (NoteSettled past) (checked_items p) (own_items p)
    (each_append (NoteSettled past) (map KeyRead (filter (λ (r : Read). not (is_written p.writes r.key)) p.reads)) (map SpanRead p.scans)
    (each_map (NoteSettled past) KeyRead (filter (λ (r : Read). not (is_written p.writes r.key)) p.reads) (drop_test (λ (r : Read). not (is_written p.writes r.key))))
    (each_map (NoteSettled past) SpanRead p.scans ok.scans))
    (each_map (NoteSettled past) KeyRead (filter (λ (r : Read). is_written p.writes r.key) p.reads) (drop_test (λ (r : Read). is_written p.writes r.key)))
  where
    drop_test : (t : Read → Bool) → AllByRecursion (λ r. IsReadThere past r.key r.version) (filter t p.reads)
    drop_test t = each_any (λ r. (IsReadThere past r.key r.version) × (t r ≡ true)) (λ r. IsReadThere past r.key r.version) (filter t p.reads) (λ r h. h.0) (each_filter (λ r. IsReadThere past r.key r.version) t p.reads ok.reads)

version_says : (past : List Labelled) (k : Key) (v : Option TxId) (u : ℕ) → VersionSettled past k v → number_of v ≡ Some u → (b : Record) × IsSettled past k b × (id_in b.columns ≡ Some (id u))
version_says past k None u h e = absurd (cc)
version_says past k (Some x) u h e = (h.0, h.1, h.2 ∙ ap (λ n. Some (id n)) (some_is x.0 u e))
  where
    some_is : (a b : ℕ) → Some a ≡ Some b → a ≡ b
    some_is a b e = cc

note_says : (past : List Labelled) (n : ReadItem) (k : Key) (version : Option ℕ) → NoteSettled past n → option_map number_of (version_read n k) ≡ Some version → (is_data k ≡ true) × ((u : ℕ) → version ≡ Some u → (b : Record) × IsSettled past k b × (id_in b.columns ≡ Some (id u)))
note_says past (KeyRead r) k version ok h =
    let says = got_says r k version h in
    (subst (λ x. is_data x ≡ true) says.0 ok.0, λ u e. subst (λ x. (b : Record) × IsSettled past x b × (id_in b.columns ≡ Some (id u))) says.0 (version_says past r.key r.version u ok.1 (says.1 ∙ e)))
note_says past (SpanRead s) k version ok h =
    let says = scan_says s k version h in
    let found = ok k says.0 in
    (found.0, λ u e. version_says past k (version_among s.found k) u found.1 (says.1 ∙ e))

noted_settled : (past : List Labelled) (p : Work) (i : ℕ) (k : Key) (version : Option ℕ) → Settled past p → version_read_at (plan_of p) i k ≡ Some version → (is_data k ≡ true) × ((u : ℕ) → version ≡ Some u → (b : Record) × IsSettled past k b × (id_in b.columns ≡ Some (id u)))
noted_settled past p i k version ok h = by (slice_get (items_of_work p) i) refl
  where
    by : (o : Option ReadItem) → slice_get (items_of_work p) i ≡ o → (is_data k ≡ true) × ((u : ℕ) → version ≡ Some u → (b : Record) × IsSettled past k b × (id_in b.columns ≡ Some (id u)))
    by None at = not_noted p i k version at h
    by (Some n) at = note_says past n k version (each_at (NoteSettled past) (items_of_work p) i n (notes_settled past p ok) at) (noted_by p i k version n at h)

---- the rule

pub take_lawful : (plan : ℕ → Plan) (past : List Labelled) (c : ℕ) (p : Work) (text : List ℕ) → OpenOk (protocol_state past) c p.id.0 → Sound p → Settled past p → reads_commit text ≡ true → MayTake (with_plan plan p) past (event.Take c text None) p.id.0
unfolding write_at
take_lawful plan past c p text o ok settled commit = record {
  client = c;
  text = text;
  answered = None;
  commit = commit;
  take = refl;
  owner = o.owner;
  is_open = o.is_open;
  goes_on = o.goes_on;
  fresh = o.fresh;
  moment = ap (λ (x : Plan). Rattle.sdb_record.specs.Meta.is_moment x.now) (plan_here plan p) ∙ ok.moment;
  writes = λ k w h. let e = here k w h in let f = (work_ok p ok).found k w e in let valid = (work_ok p ok).valid f.0 w f.1 in (valid.0, subst (λ x. is_data x ≡ true) (write_key (plan_of p) k w e) valid.1);
  bases = λ k w b h is. let e = here k w h in let f = (work_ok p ok).found k w e in subst (λ x. IsSettled past x b) (write_key (plan_of p) k w e) (each_at (λ w. (b : Record) → w.base ≡ Some b → IsSettled past w.key b) p.writes (place_of_grouped p.writes f.0 w f.1).0 w settled.bases (place_of_grouped p.writes f.0 w f.1).1 b is);
  read_set = λ i k u h. (noted_settled past p i k (Some u) settled (noted_here i k (Some u) h)).1 u refl;
  tables = λ i k v h. (noted_settled past p i k v settled (noted_here i k v h)).0;
}
  where
    here : (k : Key) (w : Write) → write_at (with_plan plan p p.id.0) k ≡ Some w → write_at (plan_of p) k ≡ Some w
    here k w h = ap (λ (x : Plan). write_at x k) (sym (plan_here plan p)) ∙ h

    noted_here : (i : ℕ) (k : Key) (v : Option ℕ) → version_read_at (with_plan plan p p.id.0) i k ≡ Some v → version_read_at (plan_of p) i k ≡ Some v
    noted_here i k v h = ap (λ (x : Plan). version_read_at x i k) (sym (plan_here plan p)) ∙ h

---- where it begins

nothing_before : {A : Type 0} (j : ℕ) → j < 0 → A
nothing_before j l = absurd (omega arith)

begins_at : (plan : ℕ → Plan) (past : List Labelled) (p : Work) → (protocol_state past).stage p.id.0 ≡ laws.Preparing → ((k : Key) → (protocol_state past).asked p.id.0 k ≡ false) → (protocol_state past).risked p.id.0 ≡ false → StageOk plan past p (preparing p 0)
begins_at plan past p stage unasked safe = by_test plan past p (nat_lt 0 (groups_of p)) (Preparing 0) (checking p 0)
    (λ t. (stage, λ j w l at. nothing_before j l, λ j w l at. nothing_before j l, λ j w l at. unasked w.key, safe))
    (λ f. checks_begin plan past p (not_deciding ((protocol_state past).stage p.id.0) stage) (λ j w l at. nothing_before j (none j l f)) (λ j w l at. nothing_before j (none j l f)) safe)
  where
    no_groups : (n : ℕ) → nat_lt 0 n ≡ false → n ≤ 0
    no_groups n f = grind (arith, nat_tests)

    -- without a group there is no write
    none : (j : ℕ) → j < length p.writes → nat_lt 0 (groups_of p) ≡ false → j < 0
    none j l f = subst (λ n. j < n) (sym (in_groups_length p.writes) ∙ sym (taken_all (grouped p.writes) 0 (no_groups (groups_of p) f))) l

---- other clients, under the new plan

known_replanned : (plan other : ℕ → Plan) (past : List Labelled) (t : ℕ) (m : ℤ) → plan t ≡ other t → IsKnownCommitted plan past t m → IsKnownCommitted other past t m
known_replanned plan other past t m same (inl x) = inl x
known_replanned plan other past t m same (inr (inl x)) = inr (inl (x.0, x.1 ∙ ap (λ (y : Plan). y.now) same))
known_replanned plan other past t m same (inr (inr x)) = inr (inr (x.0, x.1, x.2 ∙ ap (λ (y : Plan). y.now) same))

over_replanned : (plan other : ℕ → Plan) (past : List Labelled) (p : Work) (a : Outcome) → plan p.id.0 ≡ other p.id.0 → OverOk plan past p a → OverOk other past p a
over_replanned plan other past p outcome.Committed same ok = known_replanned plan other past p.id.0 p.now same ok
over_replanned plan other past p (outcome.Conflict key found) same ok = ok
over_replanned plan other past p (outcome.Expired id) same ok = ok
over_replanned plan other past p outcome.Faulted same ok = ok
over_replanned plan other past p (outcome.Unknown id) same ok = ok
over_replanned plan other past p (outcome.BadRecord key) same ok = ok
over_replanned plan other past p outcome.NoMemory same ok = ok

stage_replanned : (plan other : ℕ → Plan) (past : List Labelled) (p : Work) (s : Stage) → plan p.id.0 ≡ other p.id.0 → StageOk plan past p s → StageOk other past p s
stage_replanned plan other past p (Preparing i) same ok = ok
stage_replanned plan other past p (Checking i) same ok = ok
stage_replanned plan other past p (Deciding phase.Put) same ok = ok
stage_replanned plan other past p (Deciding phase.Look) same ok = ok
stage_replanned plan other past p (Deciding phase.Abort) same ok = ok
stage_replanned plan other past p (Deciding phase.Again) same ok = ok
stage_replanned plan other past p (Deciding phase.Ended) same ok = ok
stage_replanned plan other past p (Forward i) same ok = (ok.0, known_replanned plan other past p.id.0 p.now same ok.1)
stage_replanned plan other past p (Stopping a n) same ok = ok
stage_replanned plan other past p (Back a n i) same ok = ok
stage_replanned plan other past p (Over a) same ok = over_replanned plan other past p a same ok

client_replanned : (plan other : ℕ → Plan) (past : List Labelled) (d : ℕ) (x : ClientAt) → SamePlans plan other past → ClientOk plan past d x → ClientOk other past d x
client_replanned plan other past d Resting same ok = ok
client_replanned plan other past d (Open id seen) same ok = ok
client_replanned plan other past d (Reading id seen a r) same ok = ok
client_replanned plan other past d (Committing p s) same ok = let e = same p.id.0 ok.within.accepted in
    record { work = ok.work; within = ok.within; begun = ok.begun; planned = sym e ∙ ok.planned; stage = stage_replanned plan other past p s e ok.stage }
client_replanned plan other past d (RunsVacuum v) same ok = ok
client_replanned plan other past d Stopped same ok = ok

-- With other plans, that are the same for each transaction whose COMMIT was accepted, the same is so of all clients.
pub system_replanned : (plan other : ℕ → Plan) (past : List Labelled) (sys : SystemAt) → SamePlans plan other past → SystemOk plan past sys → SystemOk other past sys
system_replanned plan other past sys same ok = record {
  lawful = replanned plan other past same ok.lawful;
  each = λ d. client_replanned plan other past d (sys.clients d) same (ok.each d);
  opened = ok.opened;
  gate = ok.gate;
  ids = ok.ids;
}

-- a COMMIT that begins is not over
begun_has : (p : Work) (u : ℕ) → p.id.0 ≡ u → Has (commit_left p (preparing p 0)) u
begun_has p u h = by (nat_lt 0 (groups_of p)) (nat_lt 0 (length (checks p)))
  where
    by : (a b : Bool) → Has (commit_left p (if a then Preparing 0 else if b then Checking 0 else Deciding phase.Put)) u
    by true b = h
    by false true = h
    by false false = h

pub take_turn : (plan : ℕ → Plan) (past : List Labelled) (sys : SystemAt) (c : ℕ) (id : TxId) (seen : Seen) (now : ℤ) (text : List ℕ) → IsInState plan past sys c (Open id seen) → IsCommit text now
    → SystemOk (with_plan plan (work_of id now seen)) (take_labelled c text (work_of id now seen) ∷ past) (commit_begun sys c (work_of id now seen))
take_turn plan past sys c id seen now text agrees commit = turned (with_plan plan p) past sys c (take_labelled c text p) (commit_left p (preparing p 0)) (system_replanned plan (with_plan plan p) past sys same agrees.ok) (record {
  by = refl;
  may = take_lawful plan past c p text here.0 sound (settled_of past id now seen here.1) commit.reads;
  ends = λ u e. none u e;
  begins = tt;
  is_known = λ a. none answer.Committed a;
  denies = λ a executed denial. none a executed;
  knows = started (preparing p 0) (begins_at (with_plan plan p) (take_labelled c text p ∷ past) p here.0.stage here.0.unasked here.0.safe);
  holds = λ u h o. inr (begun_has p u (subst (λ x. Has x u) agrees.at h));
  starts = no_start (commit_left p (preparing p 0)) (never_vacuum p (preparing p 0));
})
  where
    p : Work
    p = work_of id now seen

    none : {A B : Type 0} (x : A) → ◌≡◌ {A = Option A} None (Some x) → B
    none x e = absurd (cc)

    here : OpenOk (protocol_state past) c id.0 × SeenOk past seen
    here = subst (ClientOk plan past c) agrees.at (agrees.ok.each c)

    sound : Sound p
    sound = sound_of past id now seen here.0.fits commit.moment here.1

    apart : (u : ℕ) → (protocol_state past).accepted u ≡ true → u ≢ id.0
    apart u h e = absurd (clash (sym h ∙ ap (protocol_state past).accepted e ∙ here.0.fresh))
      where
        clash : true ≡ false → ⊥
        clash x = cc

    same : SamePlans plan (with_plan plan p) past
    same u h = plan_there plan p u (apart u h)

    accepted : (h : ProtocolState) (t : ℕ) → (state_after_event h (Takes t)).accepted t ≡ true
    accepted h t = grind (arith, nat_tests)

    within : InCommit (protocol_state (take_labelled c text p ∷ past)) c id.0
    within = record { accepted = accepted (protocol_state past) id.0; is_open = here.0.is_open; owner = here.0.owner; goes_on = here.0.goes_on }

    at_stage : (s : Stage) → StageOk (with_plan plan p) (take_labelled c text p ∷ past) p s → CommitOk (with_plan plan p) (take_labelled c text p ∷ past) c p s
    at_stage s now = record { work = work_ok p sound; within = within; begun = here.0.begun; planned = plan_here plan p; stage = now }

    started : (s : Stage) → StageOk (with_plan plan p) (take_labelled c text p ∷ past) p s → ClientOk (with_plan plan p) (take_labelled c text p ∷ past) c (commit_left p s)
    started (Over a) now = here.0.goes_on
    started (Preparing i) now = at_stage (Preparing i) now
    started (Checking i) now = at_stage (Checking i) now
    started (Deciding d) now = at_stage (Deciding d) now
    started (Forward i) now = at_stage (Forward i) now
    started (Stopping b n) now = at_stage (Stopping b n) now
    started (Back b n i) now = at_stage (Back b n i) now
