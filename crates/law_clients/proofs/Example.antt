-- The laws lead from clients that have done nothing to a COMMIT whose deciding put was applied.
use Rattle.std.proofs.Common.{◌≡◌, ℕ, true, List, [], ◌∷◌, Option, Some, None, refl, subst, arith}
use Rattle.std.specs.Prelude.{pos, codes}
use Rattle.std.specs.Ordering.{is_eq}
use Rattle.law_clients.specs.Types.{Answer, Ordering}
use Rattle.std.specs.declared.cmp.Ordering.TheVariants.{Less, Equal, Greater}
use Rattle.std.proofs.lemmas.Bool.Decides.{nat_tests}
use Rattle.sdb_types.specs.declared.record.Request.TheVariants as ask
use Rattle.sdb_types.specs.declared.record.Reply.TheVariants as reply
use Rattle.sdb_types.specs.Order.{key_cmp, same_key}
use Rattle.sdb_types.proofs.Public.{key_exact}
use Rattle.sdb_record.specs.declared.access.Access.TheVariants as access
use Rattle.sdb_model.specs.declared.answer.Answer.TheVariants as answer
use Rattle.sdb_model.specs.declared.event.Event.TheVariants as event
use Rattle.law_protocol.specs.History.{Other, ProtocolState, Decides, Yes, state_after_event}
use Rattle.law_protocol.specs.Lawful.{Labelled, protocol_state, labelled_with}
use Rattle.law_protocol.specs.Plan.{Plan}
use Rattle.law_protocol.specs.Worked.{account, nothing as no_plan, inserts}
use Rattle.law_protocol.proofs.Public.{begin_begins, commit_commits}
use Rattle.sdb_phases.specs.Work.{prepares_of, decide_of}
use Rattle.sdb_phases.specs.declared.step.DecidePhase.TheVariants as phase
use Rattle.sdb_phases.specs.Commit.{Preparing, Deciding, Forward}
use Rattle.sdb_record.specs.Names.{is_meta, base_name}
use Rattle.sdb_snapshot.specs.Written.{AreChanges}
use Rattle.sdb_snapshot.specs.Seen.{nothing}
use Rattle.law_clients.specs.ReadAt.{Asking, Done, IsOfData}
use Rattle.law_clients.specs.System.{Reading, Committing, SystemAt, SystemOk, ClientCall, idle, with_begun, with_client, begin_labelled, take_labelled, commit_labelled, with_plan, call_event}
use Rattle.law_clients.specs.System as client
use Rattle.law_clients.specs.Worked.{first_id, inserted, read_once, wrote_once, first_work, call_of, SomeCommit}
use Rattle.law_clients.proofs.Begin.{begins, begin_turn}
use Rattle.law_clients.proofs.Calls.{read_turn}
use Rattle.law_clients.proofs.Commit.{commit_turn}
use Rattle.law_clients.proofs.Quiet.{quiet_turn, asks, read_set, writes}
use Rattle.law_clients.proofs.Take.{take_turn}
use Rattle.sdb_model.specs.Tables.{is_data}

abbrev plans : ℕ → Plan
plans t = no_plan

equal_of : (o : Ordering) → is_eq o ≡ true → o ≡ Equal
equal_of Less h = absurd (cc (h))
equal_of Equal h = refl
equal_of Greater h = absurd (cc (h))

account_is_data : IsOfData (access.Get account)
account_is_data k h = subst (λ q. is_data q ≡ true) (key_exact account k (equal_of (key_cmp account k) h)) refl

-- BEGIN
abbrev sys1 : SystemAt
sys1 = with_begun idle 1 (client.Open first_id nothing)

abbrev past1 : List Labelled
past1 = begin_labelled idle 1 (codes "BEGIN") ∷ []

begun : SystemOk plans past1 sys1
begun = begin_turn plans [] idle 1 (codes "BEGIN") (record { ok = begins plans; at = refl }) (record { reads = begin_begins; client = omega arith; ordinal = omega arith }) (λ d. refl)

-- INSERT is accepted, and its key is read
abbrev past2 : List Labelled
past2 = labelled_with Other (event.Take 1 (codes "INSERT") None) ∷ past1

inserts_taken : SystemOk plans past2 sys1
inserts_taken = quiet_turn plans past1 sys1 (event.Take 1 (codes "INSERT") None) begun (record { quiet = refl; other = λ e. absurd (cc (e)) })

abbrev sys2 : SystemAt
sys2 = with_client sys1 1 (Reading first_id nothing (access.Get account) Asking)

key_asked : SystemOk plans past2 sys2
key_asked = asks plans past2 sys1 1 first_id nothing (access.Get account) (record { ok = inserts_taken; at = refl }) account_is_data

abbrev past3 : List Labelled
past3 = labelled_with Other (call_event (call_of (ask.Get account) (reply.Found None)) (Some (answer.Count 1))) ∷ past2

abbrev sys3 : SystemAt
sys3 = with_client sys2 1 (Reading first_id nothing (access.Get account) (Done []))

count_other : ◌≡◌ {A = Option Answer} (Some (answer.Count 1)) (Some answer.Committed) → ⊥
count_other e = cc

key_read : SystemOk plans past3 sys3
key_read = read_turn plans past2 sys2 (call_of (ask.Get account) (reply.Found None)) first_id nothing (access.Get account) Asking (Some (answer.Count 1)) (record { ok = key_asked; at = refl }) (record { asked = refl; can = tt; moment = refl }) (λ e. absurd (count_other e))

-- it is noted, and the row is written
abbrev sys4 : SystemAt
sys4 = with_client sys3 1 (client.Open first_id read_once)

key_noted : SystemOk plans past3 sys4
key_noted = read_set plans past3 sys3 1 first_id nothing (access.Get account) [] (record { ok = key_read; at = refl }) refl

abbrev sys5 : SystemAt
sys5 = with_client sys4 1 (client.Open first_id wrote_once)

inserted_fits : AreChanges read_once.read_set inserted
unfolding is_meta base_name same_key
inserted_fits = ((refl, refl), tt)

row_written : SystemOk plans past3 sys5
row_written = writes plans past3 sys4 1 first_id read_once inserted (record { ok = key_noted; at = refl }) inserted_fits

-- COMMIT is accepted, its prepare is applied, and COMMITTED is put
abbrev plans2 : ℕ → Plan
plans2 = with_plan plans first_work

abbrev past4 : List Labelled
past4 = take_labelled 1 (codes "COMMIT") first_work ∷ past3

abbrev sys6 : SystemAt
sys6 = with_client sys5 1 (Committing first_work (Preparing 0))

commit_taken : SystemOk plans2 past4 sys6
unfolding same_key
commit_taken = take_turn plans past3 sys5 1 first_id wrote_once (pos 0) (codes "COMMIT") (record { ok = row_written; at = refl }) (record { reads = commit_commits; moment = refl })

abbrev prepared_call : ClientCall
prepared_call = call_of (prepares_of first_id (pos 0) (inserts ∷ [])) reply.Applied

abbrev past5 : List Labelled
past5 = commit_labelled first_work (Preparing 0) prepared_call ∷ past4

abbrev sys7 : SystemAt
sys7 = with_client sys6 1 (Committing first_work (Deciding phase.Put))

row_prepared : SystemOk plans2 past5 sys7
unfolding same_key
row_prepared = commit_turn plans2 past4 sys6 prepared_call first_work (Preparing 0) (record { ok = commit_taken; at = refl }) (record { asked = refl; can = tt; moment = refl })

abbrev decided_call : ClientCall
decided_call = call_of (decide_of first_id (pos 0)) reply.Applied

abbrev past6 : List Labelled
past6 = commit_labelled first_work (Deciding phase.Put) decided_call ∷ past5

abbrev sys8 : SystemAt
sys8 = with_client sys7 1 (Committing first_work (Forward 0))

put_applied : SystemOk plans2 past6 sys8
unfolding same_key
put_applied = commit_turn plans2 past5 sys7 decided_call first_work (Deciding phase.Put) (record { ok = row_prepared; at = refl }) (record { asked = refl; can = tt; moment = refl })

is_won : (h : ProtocolState) (t : ℕ) → (state_after_event h (Decides t Yes)).won t ≡ true
is_won h t = grind (arith, nat_tests)

pub some_commit : SomeCommit
unfolding same_key
some_commit = record { plan = plans2; past = past6; sys = sys8; ok = put_applied; won = is_won (protocol_state past5) first_id.0 }
