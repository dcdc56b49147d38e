-- A call of a read, or of VACUUM, keeps what is so of all clients.
use Rattle.std.proofs.Common.{◌≡◌, ◌≢◌, ℕ, ℤ, Bool, true, false, List, [], ◌∷◌, Option, Some, None, refl, sym, ap, subst, ◌∙◌, inl, inr}
use Rattle.std.specs.Prelude.{if◌then◌else◌}
use Rattle.std.specs.List.{AllByRecursion, list_all}
use Rattle.std.specs.Option.{option_map}
use Rattle.law_clients.specs.Types.{Access, Answer, Event, How, Meta, Record, RecoverPhase, RecoverStep, Reply, Request, Span, TxId}
use Rattle.sdb_types.specs.declared.record.Reply.TheVariants as reply
use Rattle.sdb_types.specs.declared.record.Request.TheVariants as ask
use Rattle.sdb_types.specs.declared.record.Condition.TheVariants as condition
use Rattle.sdb_types.specs.declared.record.State.TheVariants as state
use Rattle.sdb_types.specs.Contents.{CanAnswer, in_span, rise}
use Rattle.sdb_types.proofs.Public.{all_each as each_any, and_first, and_second, some_is}
use Rattle.sdb_record.specs.declared.access.Access.TheVariants as access
use Rattle.sdb_record.specs.Meta.{id_in, is_moment}
use Rattle.sdb_record.specs.Rolls.{is_tombstone, remove_request}
use Rattle.sdb_model.specs.declared.answer.Answer.TheVariants as answer
use Rattle.sdb_model.specs.declared.event.Event.TheVariants as event
use Rattle.sdb_model.specs.Rows.{Name}
use Rattle.law_protocol.specs.Plan.{Plan}
use Rattle.law_protocol.specs.History as laws
use Rattle.law_protocol.specs.History.{Action, Other}
use Rattle.law_protocol.specs.Lawful.{Labelled, IsEnabled, protocol_state, is_quiet, labelled_with, ends_with}
use Rattle.sdb_phases.specs.declared.step.RecoverStep.TheVariants as steps
use Rattle.sdb_phases.specs.declared.step.RecoverPhase.TheVariants as phase
use Rattle.sdb_phases.specs.Recover.{recover_next, recover_request_at}
use Rattle.sdb_snapshot.specs.Seen.{Seen}
use Rattle.law_clients.specs.Reads.{OpenOk, SeenOk}
use Rattle.law_clients.specs.Reader.{RecoverOk, recover_action}
use Rattle.law_clients.specs.ReadAt.{IsKind, ReadAt, Asking, Resolving, Done, Failed, read_pending, read_action, read_step, IsImage, IsLeft, IsOfData, ReadOk, keys_of}
use Rattle.law_clients.specs.Vacuum as vacuum
use Rattle.law_clients.specs.Vacuum.{VacuumModel, VacuumModelOk, remove_or, removes_action, vacuum_rows, vacuum_one, vacuum_resolved, vacuum_removed, vacuum_scanned, vacuum_call, vacuum_action, vacuum_model_step}
use Rattle.law_clients.specs.System.{Reading, RunsVacuum, Resting, ClientOk, Has, is_in_vacuum, Gate, SystemAt, SystemOk, with_client, ClientCall, call_event, IsReplyTo, IsInState}
use Rattle.law_clients.proofs.Foreign.{IsForeign, IsForeignEvent, StopsNot, event_same, open_later, running}
use Rattle.law_clients.proofs.Reading.{recover_lawful}
use Rattle.law_clients.proofs.Clients.{BeginsNone, turned}
use Rattle.law_clients.proofs.Commit.{no_start, not_open}
use Rattle.law_clients.proofs.Meta.{meta_of}
use Rattle.law_clients.proofs.Rows.{rise_is, inside_each, rows_left, read_kept, recover_kept, image_after, left_later}
use Rattle.law_clients.proofs.Seen.{seen_later}
use Rattle.sdb_txn.specs.Read.{request_of, Kind, Firm, Open, Bad}
use Rattle.sdb_model.specs.Tables.{is_data}
use Rattle.law_clients.proofs.Machine.{kind_is}
use Rattle.sdb_txn.specs.Read.{kind_of}

---- parts of a recovery

-- a part that begins, takes, ends and stops nothing, and is no call of a COMMIT
abbrev IsApart : Action → Type 0
IsApart Other = Unit {0}
IsApart (laws.Aborts t m word) = Unit {0}
IsApart (laws.Rolls t k d) = Unit {0}
IsApart (laws.Removes k t) = Unit {0}
IsApart r = ⊥

recover_apart : (rec : Record) (meta : Meta) (p : RecoverPhase) (r : Reply) → IsApart (recover_action rec meta p r)
recover_apart rec meta phase.Look r = tt
recover_apart rec meta (phase.Abort moment) r = tt
recover_apart rec meta phase.Again r = tt
recover_apart rec meta (phase.Forward at) r = tt
recover_apart rec meta phase.Back r = tt
recover_apart rec meta phase.Ended r = tt

read_apart : (s : ReadAt) (r : Reply) → IsApart (read_action s r)
read_apart Asking r = tt
read_apart (Resolving images rec meta p left) r = recover_apart rec meta p r
read_apart (Done images) r = tt
read_apart Failed r = tt

apart_foreign : (t c : ℕ) (r : Action) → IsApart r → IsForeign t c r
apart_foreign t c Other f = tt
apart_foreign t c (laws.Begins u d) f = absurd f
apart_foreign t c (laws.Takes u) f = absurd f
apart_foreign t c (laws.Prepares u k word) f = absurd f
apart_foreign t c (laws.Checks u i) f = absurd f
apart_foreign t c (laws.Decides u word) f = absurd f
apart_foreign t c (laws.Aborts u m word) f = tt
apart_foreign t c (laws.Rolls u k d) f = tt
apart_foreign t c (laws.Removes k u) f = tt
apart_foreign t c (laws.Ends u) f = absurd f
apart_foreign t c (laws.Stops d) f = absurd f

apart_begins : (r : Action) → IsApart r → BeginsNone r
apart_begins Other f = tt
apart_begins (laws.Begins u d) f = absurd f
apart_begins (laws.Takes u) f = absurd f
apart_begins (laws.Prepares u k word) f = absurd f
apart_begins (laws.Checks u i) f = absurd f
apart_begins (laws.Decides u word) f = absurd f
apart_begins (laws.Aborts u m word) f = tt
apart_begins (laws.Rolls u k d) f = tt
apart_begins (laws.Removes k u) f = tt
apart_begins (laws.Ends u) f = absurd f
apart_begins (laws.Stops d) f = absurd f

apart_goes : (c : ℕ) (r : Action) → IsApart r → StopsNot c r
apart_goes c Other f = tt
apart_goes c (laws.Begins u d) f = tt
apart_goes c (laws.Takes u) f = tt
apart_goes c (laws.Prepares u k word) f = tt
apart_goes c (laws.Checks u i) f = tt
apart_goes c (laws.Decides u word) f = tt
apart_goes c (laws.Aborts u m word) f = tt
apart_goes c (laws.Rolls u k d) f = tt
apart_goes c (laws.Removes k u) f = tt
apart_goes c (laws.Ends u) f = tt
apart_goes c (laws.Stops d) f = absurd f

apart_event : (t c : ℕ) (r : Action) (e : Event) → IsApart r → IsForeignEvent t c (labelled_with r e)
apart_event t c r e f = record { part = apart_foreign t c r f; ends = λ u n. absurd (cc (n)) }

quiet_read : (a : Access) (c : ℕ) (store : Name) (how : How) (r : Reply) (answered : Option Answer) → is_quiet (event.Call c store (request_of a) how r answered) ≡ true
quiet_read (access.Get key) c store how r answered = refl
quiet_read (access.Scan span) c store how r answered = refl

---- a read

read_may : (plan : ℕ → Plan) (past : List Labelled) (a : Access) (c : ℕ) (s : ReadAt) (store : Name) (q : Request) (how : How) (r : Reply) (answered : Option Answer) → ReadOk past a s → read_pending a s ≡ Some q → IsEnabled plan past (event.Call c store q how r answered) (read_action s r)
read_may plan past a c Asking store q how r answered ok asked = subst (λ x. is_quiet (event.Call c store x how r answered) ≡ true) (some_is (request_of a) q asked) (quiet_read a c store how r answered)
read_may plan past a c (Resolving images rec meta p left) store q how r answered ok asked = recover_lawful plan past c rec meta p store q how r answered ok.1 asked
read_may plan past a c (Done images) store q how r answered ok asked = absurd (cc)
read_may plan past a c Failed store q how r answered ok asked = absurd (cc)

pub read_turn : (plan : ℕ → Plan) (past : List Labelled) (sys : SystemAt) (x : ClientCall) (id : TxId) (seen : Seen) (a : Access) (s : ReadAt) (answered : Option Answer)
    → IsInState plan past sys x.client (Reading id seen a s) → IsReplyTo (read_pending a s) x → answered ≢ Some answer.Committed
    → SystemOk plan (labelled_with (read_action s x.reply) (call_event x answered) ∷ past) (with_client sys x.client (Reading id seen a (read_step s x.now x.reply)))
read_turn plan past sys x id seen a s answered agrees reply other = turned plan past sys c one (Reading id seen a (read_step s x.now r)) agrees.ok (record {
  by = refl;
  may = read_may plan past a c s x.store x.request x.how r answered known.3 reply.asked;
  ends = λ u n. absurd (cc (n));
  begins = apart_begins (read_action s r) (read_apart s r);
  is_known = λ e. absurd (other e);
  denies = λ x executed denial u n. absurd (cc (n));
  knows = (open_later past one c id.0 (event_same id.0 c past one (apart_event id.0 c (read_action s r) e (read_apart s r))) known.0, seen_later past one seen known.1, known.2, read_kept past a c s x.now x.store x.request x.how r answered known.2 known.3 reply.asked reply.can reply.moment);
  holds = λ u h o. inr (subst (λ x. Has x u) agrees.at h);
  starts = no_start (Reading id seen a (read_step s x.now r)) refl;
})
  where
    c : ℕ
    c = x.client

    r : Reply
    r = x.reply

    e : Event
    e = call_event x answered

    one : Labelled
    one = labelled_with (read_action s r) e

    known : OpenOk (protocol_state past) c id.0 × SeenOk past seen × IsOfData a × ReadOk past a s
    known = subst (ClientOk plan past c) agrees.at (agrees.ok.each c)

-- An answer to the last call of a read may end the transaction.
pub read_ends_turn : (plan : ℕ → Plan) (past : List Labelled) (sys : SystemAt) (x : ClientCall) (id : TxId) (seen : Seen) (a : Access) (s : ReadAt) (answered : Option Answer)
    → IsInState plan past sys x.client (Reading id seen a s) → IsReplyTo (read_pending a s) x → answered ≢ Some answer.Committed
    → SystemOk plan (ends_with id.0 (read_action s x.reply) (call_event x answered) ∷ past) (with_client sys x.client Resting)
read_ends_turn plan past sys x id seen a s answered agrees reply other = turned plan past sys c one Resting agrees.ok (record {
  by = refl;
  may = read_may plan past a c s x.store x.request x.how r answered known.3 reply.asked;
  ends = λ u n. subst (λ t. (protocol_state past).owner t ≡ c) (some_is id.0 u n) known.0.owner;
  begins = apart_begins (read_action s r) (read_apart s r);
  is_known = λ e. absurd (other e);
  denies = λ x executed denial u n accepted. absurd (clash (sym accepted ∙ ap (protocol_state past).accepted (sym (some_is id.0 u n)) ∙ known.0.fresh));
  knows = running past one c (apart_goes c (read_action s r) (read_apart s r)) ∙ known.0.goes_on;
  holds = λ u h o. absurd (not_open (protocol_state past) (read_action s r) id.0 u (subst (λ x. Has x u) agrees.at h) o);
  starts = no_start Resting refl;
})
  where
    c : ℕ
    c = x.client

    r : Reply
    r = x.reply

    one : Labelled
    one = ends_with id.0 (read_action s r) (call_event x answered)

    clash : true ≡ false → ⊥
    clash e = cc

    known : OpenOk (protocol_state past) c id.0 × SeenOk past seen × IsOfData a × ReadOk past a s
    known = subst (ClientOk plan past c) agrees.at (agrees.ok.each c)

---- VACUUM

sweep_apart : (v : VacuumModel) (r : Reply) → IsApart (vacuum_action v r)
sweep_apart (vacuum.Scanning span) r = tt
sweep_apart (vacuum.Resolving rec meta p left) r = recover_apart rec meta p r
sweep_apart (vacuum.Removing b left) r = by (id_in b.columns)
  where
    by : (o : Option TxId) → IsApart (removes_action b o)
    by None = tt
    by (Some id) = tt
sweep_apart vacuum.Between r = tt

remove_may : (plan : ℕ → Plan) (past : List Labelled) (c : ℕ) (b : Record) (store : Name) (q : Request) (how : How) (r : Reply) (answered : Option Answer) → Gate (protocol_state past) → IsImage past b → is_tombstone b ≡ true → is_data b.key ≡ true → remove_request b ≡ Some q → IsEnabled plan past (event.Call c store q how r answered) (removes_action b (id_in b.columns))
remove_may plan past c b store q how r answered gate image gone outside asked = by (id_in b.columns) refl asked
  where
    by : (o : Option TxId) → id_in b.columns ≡ o → option_map (λ id. ask.DeleteIf b.key (condition.Version id state.Committed)) o ≡ Some q → IsEnabled plan past (event.Call c store q how r answered) (removes_action b o)
    by None writer e = absurd (cc (e))
    by (Some id) writer e = record {
      client = c;
      r = r;
      tombstone = b;
      call = record { store = store; how = how; answer = answered; call = ap (λ x. event.Call c store x how r answered) (sym (some_is (ask.DeleteIf b.key (condition.Version id state.Committed)) q e)) };
      outside = outside;
      settled = image.0;
      gone = gone;
      writer = writer;
      gate = gate;
    }

sweep_may : (plan : ℕ → Plan) (past : List Labelled) (c : ℕ) (v : VacuumModel) (store : Name) (q : Request) (how : How) (r : Reply) (answered : Option Answer) → Gate (protocol_state past) → VacuumModelOk past v → vacuum_call v ≡ Some q → IsEnabled plan past (event.Call c store q how r answered) (vacuum_action v r)
sweep_may plan past c (vacuum.Scanning span) store q how r answered gate ok asked = subst (λ x. is_quiet (event.Call c store x how r answered) ≡ true) (some_is (ask.Scan span) q asked) refl
sweep_may plan past c (vacuum.Resolving rec meta p left) store q how r answered gate ok asked = recover_lawful plan past c rec meta p store q how r answered ok.0 asked
sweep_may plan past c (vacuum.Removing b left) store q how r answered gate ok asked = remove_may plan past c b store q how r answered gate ok.0 ok.1 ok.2 asked
sweep_may plan past c vacuum.Between store q how r answered gate ok asked = absurd (cc)

-- a committed record is removed where it is a tombstone
remove_ok : (past : List Labelled) (b : Record) (left : List Record) (rest : VacuumModel) → IsImage past b → is_data b.key ≡ true → AllByRecursion (IsLeft past) left → VacuumModelOk past rest → VacuumModelOk past (remove_or b left rest)
remove_ok past b left rest image outside l ok = by (is_tombstone b) refl
  where
    by : (t : Bool) → is_tombstone b ≡ t → VacuumModelOk past (if t then vacuum.Removing b left else rest)
    by true gone = (image, gone, outside, l)
    by false kept = ok

sweep_ok : (past : List Labelled) (left : List Record) → AllByRecursion (IsLeft past) left → VacuumModelOk past (vacuum_rows left)
sweep_ok past [] l = tt
sweep_ok past (r ∷ left) l = by (kind_of r) (kind_is r) (sweep_ok past left l.1)
  where
    by : (x : Kind) → IsKind r x → VacuumModelOk past (vacuum_rows left) → VacuumModelOk past (vacuum_one x r left (vacuum_rows left))
    by Firm k rest = remove_ok past r left (vacuum_rows left) (Rattle.law_protocol.specs.Lawful.Itself l.0.0 refl k.1, k.0, k.1) l.0.1 l.1 rest
    by (Open meta) k rest = (record { of = meta_of r meta k.0 k.1; unresolved = k.0; observed = l.0.0; outside = l.0.1; phase = tt }, l.1)
    by Bad k rest = tt

scanned_ok : (past : List Labelled) (c : ℕ) (span : Span) (store : Name) (how : How) (r : Reply) (answered : Option Answer) → IsOfData (access.Scan span) → CanAnswer (ask.Scan span) r → VacuumModelOk (labelled_with Other (event.Call c store (ask.Scan span) how r answered) ∷ past) (vacuum_scanned r)
scanned_ok past c span store how reply.Fault answered tables can = tt
scanned_ok past c span store how reply.NoMemory answered tables can = tt
scanned_ok past c span store how reply.Applied answered tables can = tt
scanned_ok past c span store how (reply.NotMet found) answered tables can = tt
scanned_ok past c span store how (reply.NotAll place there) answered tables can = tt
scanned_ok past c span store how (reply.Found found) answered tables can = tt
scanned_ok past c span store how (reply.Rows rows) answered tables can =
    let up = rise_is rows (and_first (rise rows) (list_all (λ r. in_span span r.key) rows) can) in
    let inside = inside_each span rows (and_second (rise rows) (list_all (λ r. in_span span r.key) rows) can) in
    let q : Labelled = labelled_with Other (event.Call c store (ask.Scan span) how (reply.Rows rows) answered) in
    sweep_ok (q ∷ past) rows (rows_left past q rows (λ x f. inl f) up (each_any (λ k. in_span span k ≡ true) (λ k. is_data k ≡ true) (keys_of rows) tables inside))

sweep_resolved_ok : (past : List Labelled) (c : ℕ) (rec : Record) (meta : Meta) (p : RecoverPhase) (left : List Record) (now : ℤ) (store : Name) (q : Request) (how : How) (r : Reply) (answered : Option Answer)
    → VacuumModelOk past (vacuum.Resolving rec meta p left) → recover_request_at rec meta p ≡ Some q → CanAnswer q r → is_moment now ≡ true
    → VacuumModelOk (labelled_with (recover_action rec meta p r) (event.Call c store q how r answered) ∷ past) (vacuum_resolved rec meta left (recover_next rec meta p now r))
sweep_resolved_ok past c rec meta p left now store q how r answered ok asked can moment = by (recover_next rec meta p now r) refl
  where
    one : Labelled
    one = labelled_with (recover_action rec meta p r) (event.Call c store q how r answered)

    left_now : AllByRecursion (IsLeft (one ∷ past)) left
    left_now = left_later past one left ok.1

    by : (n : RecoverPhase × RecoverStep) → recover_next rec meta p now r ≡ n → VacuumModelOk (one ∷ past) (vacuum_resolved rec meta left n)
    by (n, steps.More) e = (subst (λ (x : RecoverPhase × RecoverStep). RecoverOk (one ∷ past) rec meta x.0) e (recover_kept past c rec meta p now store q how r answered ok.0 asked can moment), left_now)
    by (n, steps.Image None) e = sweep_ok (one ∷ past) left left_now
    by (n, steps.Image (Some b)) e =
        let i = image_after past one rec meta p now r b ok.0 (ap (λ (x : RecoverPhase × RecoverStep). x.1) e) in
        remove_ok (one ∷ past) b left (vacuum_rows left) i.0 (ap is_data i.1 ∙ ok.0.outside) left_now (sweep_ok (one ∷ past) left left_now)
    by (n, steps.Busy id prepared_at) e = sweep_ok (one ∷ past) left left_now
    by (n, steps.Faulted) e = tt
    by (n, steps.BadRecord key) e = tt
    by (n, steps.NoMemory) e = tt

removed_ok : (past : List Labelled) (q : Labelled) (left : List Record) (r : Reply) → AllByRecursion (IsLeft past) left → VacuumModelOk (q ∷ past) (vacuum_removed left r)
removed_ok past q left reply.Applied l = sweep_ok (q ∷ past) left (left_later past q left l)
removed_ok past q left (reply.NotMet found) l = sweep_ok (q ∷ past) left (left_later past q left l)
removed_ok past q left reply.Fault l = tt
removed_ok past q left reply.NoMemory l = tt
removed_ok past q left (reply.Found found) l = tt
removed_ok past q left (reply.Rows rows) l = tt
removed_ok past q left (reply.NotAll place there) l = tt

sweep_kept : (past : List Labelled) (c : ℕ) (v : VacuumModel) (now : ℤ) (store : Name) (q : Request) (how : How) (r : Reply) (answered : Option Answer) → VacuumModelOk past v → vacuum_call v ≡ Some q → CanAnswer q r → is_moment now ≡ true
    → VacuumModelOk (labelled_with (vacuum_action v r) (event.Call c store q how r answered) ∷ past) (vacuum_model_step v now r)
sweep_kept past c (vacuum.Scanning span) now store q how r answered ok asked can moment = subst (λ x. CanAnswer x r → VacuumModelOk (labelled_with Other (event.Call c store x how r answered) ∷ past) (vacuum_scanned r)) (some_is (ask.Scan span) q asked) (scanned_ok past c span store how r answered ok) can
sweep_kept past c (vacuum.Resolving rec meta p left) now store q how r answered ok asked can moment = sweep_resolved_ok past c rec meta p left now store q how r answered ok asked can moment
sweep_kept past c (vacuum.Removing b left) now store q how r answered ok asked can moment = removed_ok past (labelled_with (removes_action b (id_in b.columns)) (event.Call c store q how r answered)) left r ok.3
sweep_kept past c vacuum.Between now store q how r answered ok asked can moment = tt

pub vacuum_turn : (plan : ℕ → Plan) (past : List Labelled) (sys : SystemAt) (x : ClientCall) (v : VacuumModel) (answered : Option Answer)
    → IsInState plan past sys x.client (RunsVacuum v) → IsReplyTo (vacuum_call v) x → answered ≢ Some answer.Committed
    → SystemOk plan (labelled_with (vacuum_action v x.reply) (call_event x answered) ∷ past) (with_client sys x.client (RunsVacuum (vacuum_model_step v x.now x.reply)))
vacuum_turn plan past sys x v answered agrees reply other = turned plan past sys c one (RunsVacuum (vacuum_model_step v x.now r)) agrees.ok (record {
  by = refl;
  may = sweep_may plan past c v x.store x.request x.how r answered (agrees.ok.gate c (ap is_in_vacuum agrees.at)) known.1 reply.asked;
  ends = λ u n. absurd (cc (n));
  begins = apart_begins (vacuum_action v r) (sweep_apart v r);
  is_known = λ e. absurd (other e);
  denies = λ x executed denial u n. absurd (cc (n));
  knows = (running past one c (apart_goes c (vacuum_action v r) (sweep_apart v r)) ∙ known.0, sweep_kept past c v x.now x.store x.request x.how r answered known.1 reply.asked reply.can reply.moment);
  holds = λ u h o. absurd (subst (λ x. Has x u) agrees.at h);
  starts = λ t. ap is_in_vacuum agrees.at;
})
  where
    c : ℕ
    c = x.client

    r : Reply
    r = x.reply

    one : Labelled
    one = labelled_with (vacuum_action v r) (call_event x answered)

    known : ((protocol_state past).stopped c ≡ false) × VacuumModelOk past v
    known = subst (ClientOk plan past c) agrees.at (agrees.ok.each c)
