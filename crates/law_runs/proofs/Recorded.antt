-- The COMMIT of each recorded transaction was accepted, each has a point, and no two have one.
use Rattle.std.proofs.Common.{◌≡◌, ◌≢◌, ◌<◌, ◌^◌, ℕ, true, List, [], ◌∷◌, Option, Some, None, refl, sym, ap, ◌∙◌, subst, arith}
use Rattle.std.specs.Prelude.{IsSome}
use Rattle.std.specs.Option.{option_map_or}
use Rattle.std.proofs.lemmas.Bool.Decides.{nat_tests}
use Rattle.sdb_record.specs.declared.coordinator.Decision.TheVariants.{Committed}
use Rattle.law_runs.specs.Types.{Event, Place}
use Rattle.sdb_model.specs.Events.{StoreContents}
use Rattle.sdb_model.specs.Transactions.{Recorded, Executed, commit_of, point}
use Rattle.law_protocol.specs.Explained.{events_of, newest_first}
use Rattle.law_protocol.specs.History.{Action, ProtocolState, state_after_event}
use Rattle.law_protocol.specs.Lawful.{Labelled, ended, id, protocol_state}
use Rattle.law_protocol.specs.Trace.{closing, history}
use Rattle.law_protocol.proofs.Public.{any_key, point_of, points_differ, recorded_row, Whole, whole_of}
use Rattle.law_runs.specs.Points.{HavePoints}
use Rattle.law_runs.proofs.Runs.{ByLaws}

---- the event that took a COMMIT

heard_taken : (h : ProtocolState) (r : Action) (t : ℕ) → (h.accepted t ≡ true → 0 < h.accepted_at t) → (state_after_event h r).accepted t ≡ true → 0 < (state_after_event h r).accepted_at t
heard_taken h r t before accepted = grind (arith, nat_tests)

ended_taken : (h : ProtocolState) (o : Option ℕ) (t : ℕ) → (h.accepted t ≡ true → 0 < h.accepted_at t) → (ended h o).accepted t ≡ true → 0 < (ended h o).accepted_at t
ended_taken h None t before accepted = before accepted
ended_taken h (Some u) t before accepted = before accepted

taken_after : (past : List Labelled) (t : ℕ) → (protocol_state past).accepted t ≡ true → 0 < (protocol_state past).accepted_at t
taken_after [] t accepted = absurd (cc)
taken_after (p ∷ past) t accepted = ended_taken (state_after_event (protocol_state past) p.action) p.ends t (heard_taken (protocol_state past) p.action t (taken_after past t)) accepted

some_of : (o : Option Executed) (n : ℕ) → option_map_or (λ (s : Executed). s.accepted) o 0 ≡ n → 0 < n → IsSome o
some_of None n e l = absurd (none n e l)
  where
    none : (n : ℕ) → 0 ≡ n → 0 < n → ⊥
    none n e l = omega arith
some_of (Some s) n e l = refl

---- one run

module _ (places : List Place) (events : List Event) (opening end : List StoreContents) (b : ByLaws places events opening end) where
  whole : Whole b.plan places (history b.plan places opening (newest_first b.labelled) b.held) (newest_first b.labelled) (closing opening b.held)
  whole = whole_of b.plan places opening (newest_first b.labelled) b.held b.run

  row_of : (t : ℕ) → t < 2 ^ 128 → Recorded places end (id t) → (history b.plan places opening (newest_first b.labelled) b.held).row t ≡ Some Committed
  row_of t fits recorded = recorded_row b.plan places (history b.plan places opening (newest_first b.labelled) b.held) (newest_first b.labelled) (closing opening b.held) t whole fits (subst (λ s. Recorded places s (id t)) (sym b.end_is) recorded)

  was_taken : (t : ℕ) → (history b.plan places opening (newest_first b.labelled) b.held).row t ≡ Some Committed → (history b.plan places opening (newest_first b.labelled) b.held).protocol.accepted t ≡ true
  was_taken t row = grind (arith, whole.all.one.accepted t any_key 0)

  taken_of : (t : ℕ) → t < 2 ^ 128 → Recorded places end (id t) → (protocol_state (newest_first b.labelled)).accepted t ≡ true
  taken_of t fits recorded = subst (λ (x : ProtocolState). x.accepted t ≡ true) (sym whole.knows.talks) (was_taken t (row_of t fits recorded))

  point_is : (t : ℕ) → t < 2 ^ 128 → Recorded places end (id t) → point events (id t) ≡ (history b.plan places opening (newest_first b.labelled) b.held).protocol.point t
  point_is t fits recorded = ap (λ es. point es (id t)) b.same ∙ point_of b.labelled t b.run b.faithful fits (taken_of t fits recorded) ∙ ap (λ (x : ProtocolState). x.point t) whole.knows.talks

  commit_taken : (t : ℕ) → t < 2 ^ 128 → Recorded places end (id t) → IsSome (commit_of events (id t))
  commit_taken t fits recorded = subst (λ es. IsSome (commit_of es (id t))) (sym b.same) (some_of (commit_of (events_of b.labelled) (id t)) ((protocol_state (newest_first b.labelled)).accepted_at t) (b.faithful.accepted t (taken_of t fits recorded)) (taken_after (newest_first b.labelled) t (taken_of t fits recorded)))

  positive : (t : ℕ) → t < 2 ^ 128 → Recorded places end (id t) → point events (id t) ≢ 0
  positive t fits recorded e = above (point_is t fits recorded) e ((whole.all.one.begun t).1 (was_taken t (row_of t fits recorded))).1
    where
      above : {a b c : ℕ} → a ≡ b → a ≡ 0 → c < b → ⊥
      above e f l = omega arith

  differ : (t u : ℕ) → t < 2 ^ 128 → u < 2 ^ 128 → Recorded places end (id t) → Recorded places end (id u) → id t ≢ id u → point events (id t) ≢ point events (id u)
  differ t u fits_t fits_u recorded_t recorded_u ne e = points_differ b.plan (history b.plan places opening (newest_first b.labelled) b.held) whole.all t u (row_of t fits_t recorded_t) (row_of u fits_u recorded_u) (λ same. ne (ap id same)) (sym (point_is t fits_t recorded_t) ∙ e ∙ point_is u fits_u recorded_u)

  pub have_points : HavePoints places events end
  have_points = record {
    accepted = λ i fits recorded. commit_taken i.0 fits recorded;
    some = λ i fits recorded. positive i.0 fits recorded;
    apart = λ i j fits_i fits_j recorded_i recorded_j ne. differ i.0 j.0 fits_i fits_j recorded_i recorded_j ne;
  }
