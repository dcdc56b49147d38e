-- A recovery that nothing stops goes on to its image, or is busy; and any answer ends it.
use Rattle.std.proofs.Common.{◌≡◌, ◌≢◌, ◌<◌, ◌^◌, ◌||◌, ℕ, ℤ, List, [], ◌∷◌, ◌++◌, length, map, Option, Some, None, is_err, arith, Bool, true, false, not, refl, sym, ap, ◌∙◌, cond}
use Rattle.std.specs.Prelude.{is_some, reverse}
use Rattle.std.proofs.lemmas.List.{map-append}
use Rattle.sdb_types.specs.Replies.{is_fault}
use Rattle.law_answers.specs.Types.{Meta, Record, RecoverPhase, RecoverStep, Reply, Request}
use Rattle.sdb_types.specs.declared.record.Reply.TheVariants as reply
use Rattle.sdb_record.specs.declared.coordinator.Decision.TheVariants as decision
use Rattle.sdb_record.specs.Coordinator.{coordinator_key_of, is_expired}
use Rattle.sdb_record.specs.Parts.{before_record}
use Rattle.sdb_record.proofs.Public.{row-key}
use Rattle.sdb_record.specs.Rolls.{undo}
use Rattle.sdb_phases.specs.declared.step.RecoverStep.TheVariants as steps
use Rattle.sdb_phases.specs.declared.step.RecoverPhase.TheVariants as phase
use Rattle.sdb_phases.specs.Steps.{CanGet}
use Rattle.sdb_phases.specs.CommitLaws.{is_malformed, holds_malformed}
use Rattle.sdb_phases.specs.Recover.{Received, AreRecoverReplies, recover_after, recover_answer, recover_next, recover_pending, recover_request_at, row_followed, is_as_found}
use Rattle.sdb_phases.proofs.Public.{by_row, by_steps_recover_rows as by_steps, recover_invariant, row_malformed}
use Rattle.sdb_phases.specs.RecoverLaws.{RecoverInvariant, found_pending, received_fault}
use Rattle.sdb_types.proofs.Public.{clash}
use Rattle.law_answers.specs.Ends.{is_served}
use Rattle.law_answers.proofs.PathLists.{reverse_more}
use Rattle.law_answers.specs.Recoveries.{HaveNoFailure, RecoveryRun, RecoveryRunsWell, Resolves, RecoverCall, calls_of_recovery, received_of, with_recover_call}

---- the calls

told_more : (o : Option Request) (c : Received) (calls : List RecoverCall) (rest : List Received) → CanGet o c.reply → map received_of calls ≡ rest → map received_of (with_recover_call o c calls) ≡ rest ++ c ∷ []
told_more None c calls rest gets e = absurd gets
told_more (Some q) c calls rest gets e = map-append received_of calls (record { request = q; reply = c.reply; now = c.now } ∷ []) ∙ ap (λ hs. hs ++ c ∷ []) e

pub told_are : (rec : Record) (meta : Meta) (past : List Received) → AreRecoverReplies rec meta past → map received_of (calls_of_recovery rec meta past) ≡ reverse past
told_are rec meta [] correct = refl
told_are rec meta (c ∷ past) correct =
    told_more (recover_pending rec meta past) c (calls_of_recovery rec meta past) (reverse past) correct.1 (told_are rec meta past correct.0) ∙ sym (reverse_more c past)

---- fine calls

fine_last : (meta : Meta) (calls : List RecoverCall) (t : RecoverCall) → HaveNoFailure meta (calls ++ t ∷ []) → HaveNoFailure meta calls × ((is_served t.reply ≡ true) × (holds_malformed meta.id t.reply ≡ false))
fine_last meta [] t all = (tt, all.0)
fine_last meta (u ∷ calls) t all = let rest = fine_last meta calls t all.1 in ((all.0, rest.0), rest.1)

fine_told : (meta : Meta) (o : Option Request) (c : Received) (calls : List RecoverCall) → CanGet o c.reply → HaveNoFailure meta (with_recover_call o c calls) → HaveNoFailure meta calls × ((is_served c.reply ≡ true) × (holds_malformed meta.id c.reply ≡ false))
fine_told meta None c calls gets all = absurd gets
fine_told meta (Some q) c calls gets all = fine_last meta calls (record { request = q; reply = c.reply; now = c.now }) all

no_fault : (r : Reply) → is_served r ≡ true → is_fault r ≡ false
no_fault reply.Fault h = cc
no_fault reply.NoMemory h = cc
no_fault r h = refl

neither : (a b : Bool) → a ≡ false → b ≡ false → (a || b) ≡ false
neither true b p q = cc
neither false b p q = q

faultless : (rec : Record) (meta : Meta) (past : List Received) → AreRecoverReplies rec meta past → HaveNoFailure meta (calls_of_recovery rec meta past) → received_fault past ≡ false
faultless rec meta [] correct all = refl
faultless rec meta (c ∷ past) correct all =
    let (rest, valid) = fine_told meta (recover_pending rec meta past) c (calls_of_recovery rec meta past) correct.1 all in
    neither (is_fault c.reply) (received_fault past) (no_fault c.reply valid.0) (faultless rec meta past correct.0 rest)

---- steps

-- it asks at that phase, or ends so
abbrev By : Record → Meta → List Received → RecoverPhase → RecoverStep → Type 0
By rec meta past p steps.More = is_some (recover_request_at rec meta p) ≡ true
By rec meta past p (steps.Image image) = Unit {0}
By rec meta past p (steps.Busy id prepared_at) = found_pending meta past ≡ true
By rec meta past p a = ⊥

as_resolved : (rec : Record) (meta : Meta) (past : List Received) (s : RecoverStep) → By rec meta past (recover_after rec meta past) s → Resolves rec meta past s
as_resolved rec meta past steps.More by = by
as_resolved rec meta past (steps.Image image) by = tt
as_resolved rec meta past (steps.Busy id prepared_at) by = by
as_resolved rec meta past s by = absurd by

row_follows : (rec : Record) (meta : Meta) (past : List Received) (row : Record) → row.key ≡ coordinator_key_of meta.id → is_malformed meta.id row ≡ false → By rec meta past (row_followed meta row).0 (row_followed meta row).1
row_follows rec meta past row key formed =
    by_row meta row (λ n. By rec meta past n.0 n.1) (λ d says is. refl) (λ d says is. refl) (λ column says. clash (sym (row_malformed meta.id row key (ap is_err says)) ∙ formed))

waits : (rec : Record) (meta : Meta) (past : List Received) (n : ℤ) (b : Bool) → length past ≡ 0 → is_expired meta.prepared_at n ≡ b
    → By rec meta (record { reply = reply.Found None; now = n } ∷ past) (cond {A = RecoverPhase × RecoverStep} b (phase.Abort n, steps.More) (phase.Ended, steps.Busy meta.id meta.prepared_at)).0 (cond {A = RecoverPhase × RecoverStep} b (phase.Abort n, steps.More) (phase.Ended, steps.Busy meta.id meta.prepared_at)).1
waits rec meta past n true none is = refl
waits rec meta [] n false none is = ap not is
waits rec meta (c ∷ past) n false none is = absurd (none_left (length past) none)
  where
    none_left : (m : ℕ) → length (c ∷ past) ≡ 0 → ⊥
    none_left m h = cc

no_read : (rec : Record) (meta : Meta) (o : Option Record) → CanGet (recover_request_at rec meta phase.Back) (reply.Found o) → ⊥
no_read rec meta o gets = by (before_record rec) gets
  where
    by : (b : Option Record) → CanGet (Some (undo (is_as_found meta) rec.key b)) (reply.Found o) → ⊥
    by None gets = gets
    by (Some r) gets = gets

no_rows : (rec : Record) (meta : Meta) (rows : List Record) → CanGet (recover_request_at rec meta phase.Back) (reply.Rows rows) → ⊥
no_rows rec meta rows gets = by (before_record rec) gets
  where
    by : (b : Option Record) → CanGet (Some (undo (is_as_found meta) rec.key b)) (reply.Rows rows) → ⊥
    by None gets = gets
    by (Some r) gets = gets

no_batch : (rec : Record) (meta : Meta) (place : ℕ) (found : Option Record) → CanGet (recover_request_at rec meta phase.Back) (reply.NotAll place found) → ⊥
no_batch rec meta place found gets = by (before_record rec) gets
  where
    by : (b : Option Record) → CanGet (Some (undo (is_as_found meta) rec.key b)) (reply.NotAll place found) → ⊥
    by None gets = gets
    by (Some r) gets = gets

resolves_step : (rec : Record) (meta : Meta) (past : List Received) (d : RecoverPhase) (r : Reply) (n : ℤ) → RecoverInvariant rec meta past d → CanGet (recover_request_at rec meta d) r → is_served r ≡ true → holds_malformed meta.id r ≡ false → received_fault past ≡ false
    → By rec meta (record { reply = r; now = n } ∷ past) (recover_next rec meta d n r).0 (recover_next rec meta d n r).1
resolves_step rec meta past phase.Look (reply.Found (Some row)) n s gets seen formed none = row_follows rec meta (record { reply = reply.Found (Some row); now = n } ∷ past) row gets formed
resolves_step rec meta past phase.Look (reply.Found None) n s gets seen formed none = waits rec meta past n (is_expired meta.prepared_at n) s refl
resolves_step rec meta past phase.Look reply.Fault n s gets seen formed none = absurd (cc)
resolves_step rec meta past phase.Look reply.NoMemory n s gets seen formed none = absurd (cc)
resolves_step rec meta past (phase.Abort now) reply.Applied n s gets seen formed none = refl
resolves_step rec meta past (phase.Abort now) (reply.NotMet (Some row)) n s gets seen formed none = row_follows rec meta (record { reply = reply.NotMet (Some row); now = n } ∷ past) row (gets.0 ∙ row-key meta.id decision.Aborted now) formed
resolves_step rec meta past (phase.Abort now) (reply.NotMet None) n s gets seen formed none = absurd (clash gets.1)
resolves_step rec meta past (phase.Abort now) (reply.NotAll place there) n s gets seen formed none = absurd gets
resolves_step rec meta past (phase.Abort now) reply.Fault n s gets seen formed none = absurd (cc)
resolves_step rec meta past (phase.Abort now) reply.NoMemory n s gets seen formed none = absurd (cc)
resolves_step rec meta past (phase.Abort now) (reply.Found o) n s gets seen formed none = absurd gets
resolves_step rec meta past (phase.Abort now) (reply.Rows rows) n s gets seen formed none = absurd gets
resolves_step rec meta past phase.Again r n (calls, expired, faulted) gets seen formed none = clash (sym faulted ∙ none)
resolves_step rec meta past (phase.Forward at) reply.Applied n s gets seen formed none = tt
resolves_step rec meta past (phase.Forward at) (reply.NotMet o) n s gets seen formed none = tt
resolves_step rec meta past (phase.Forward at) (reply.NotAll place there) n s gets seen formed none = absurd gets
resolves_step rec meta past (phase.Forward at) reply.Fault n s gets seen formed none = absurd (cc)
resolves_step rec meta past (phase.Forward at) reply.NoMemory n s gets seen formed none = absurd (cc)
resolves_step rec meta past (phase.Forward at) (reply.Found o) n s gets seen formed none = absurd gets
resolves_step rec meta past (phase.Forward at) (reply.Rows rows) n s gets seen formed none = absurd gets
resolves_step rec meta past phase.Back reply.Applied n s gets seen formed none = tt
resolves_step rec meta past phase.Back (reply.NotMet o) n s gets seen formed none = tt
resolves_step rec meta past phase.Back (reply.NotAll place there) n s gets seen formed none = absurd (no_batch rec meta place there gets)
resolves_step rec meta past phase.Back reply.Fault n s gets seen formed none = absurd (cc)
resolves_step rec meta past phase.Back reply.NoMemory n s gets seen formed none = absurd (cc)
resolves_step rec meta past phase.Back (reply.Found o) n s gets seen formed none = absurd (no_read rec meta o gets)
resolves_step rec meta past phase.Back (reply.Rows rows) n s gets seen formed none = absurd (no_rows rec meta rows gets)
resolves_step rec meta past phase.Ended r n s gets seen formed none = absurd gets
resolves_step rec meta past phase.Look r n s gets seen formed none = absurd gets

resolves_by : (rec : Record) (meta : Meta) (past : List Received) → meta.id.0 < 2 ^ 128 → AreRecoverReplies rec meta past → HaveNoFailure meta (calls_of_recovery rec meta past) → Resolves rec meta past (recover_answer rec meta past)
resolves_by rec meta [] small correct all = refl
resolves_by rec meta (c ∷ past) small correct all =
    let (rest, valid) = fine_told meta (recover_pending rec meta past) c (calls_of_recovery rec meta past) correct.1 all in
    as_resolved rec meta (c ∷ past) (recover_answer rec meta (c ∷ past))
    (resolves_step rec meta past (recover_after rec meta past) c.reply c.now (recover_invariant rec meta past small correct.0) correct.1 valid.0 valid.1 (faultless rec meta past correct.0 rest))

pub resolves_so : (rec : Record) (meta : Meta) (past : List Received) → RecoveryRunsWell rec meta past → Resolves rec meta past (recover_answer rec meta past)
resolves_so rec meta past g = resolves_by rec meta past g.plays.small g.plays.correct g.valid

---- any answer ends it

-- it asks on, or has ended
abbrev Ends : RecoverPhase → RecoverStep → Type 0
Ends p steps.More = Unit {0}
Ends p s = p ≡ phase.Ended

ends_step : (rec : Record) (meta : Meta) (d : RecoverPhase) (n : ℤ) (r : Reply) → Ends (recover_next rec meta d n r).0 (recover_next rec meta d n r).1
ends_step rec meta =
    by_steps rec meta (λ x. Ends x.0 x.1)
    (record {
      forward = λ at. tt;
      back = tt;
      abort = λ now. tt;
      again = tt;
      forwarded = λ at. refl;
      undone = refl;
      busy = refl;
      fault = refl;
      bad = refl;
      no_memory = refl;
    })

has_ended : (p : RecoverPhase) (s : RecoverStep) → Ends p s → s ≢ steps.More → p ≡ phase.Ended
has_ended p steps.More ends not = absurd (not refl)
has_ended p s ends not = ends

pub ended_so : (rec : Record) (meta : Meta) (past : List Received) → recover_answer rec meta past ≢ steps.More → recover_after rec meta past ≡ phase.Ended
ended_so rec meta [] not = absurd (not refl)
ended_so rec meta (c ∷ past) not =
    has_ended (recover_after rec meta (c ∷ past)) (recover_answer rec meta (c ∷ past)) (ends_step rec meta (recover_after rec meta past) c.now c.reply) not

four_end : (rec : Record) (meta : Meta) (past : List Received) (d : RecoverPhase) → RecoverInvariant rec meta past d → length past ≡ 4 → d ≡ phase.Ended
four_end rec meta past phase.Look s four = absurd (omega arith)
four_end rec meta past (phase.Abort now) (calls, expired, here, valid) four = absurd (omega arith)
four_end rec meta past phase.Again (calls, expired, faulted) four = absurd (omega arith)
four_end rec meta past (phase.Forward at) (few, some, learned) four = absurd (omega arith)
four_end rec meta past phase.Back (few, some, learned) four = absurd (omega arith)
four_end rec meta past phase.Ended s four = refl

pub fourth_ends : (rec : Record) (meta : Meta) (past : List Received) → RecoveryRun rec meta past → length past ≡ 4 → recover_after rec meta past ≡ phase.Ended
fourth_ends rec meta past plays four = four_end rec meta past (recover_after rec meta past) (recover_invariant rec meta past plays.small plays.correct) four
