-- A COMMIT as it begins.
use Rattle.std.proofs.Common.{◌≡◌, ◌∙◌, ℕ, List, [], ◌∷◌, true, false, refl, ap, sym, subst, length, arith}
use Rattle.std.proofs.lemmas.Bool.Decides.{nat_tests}
use Rattle.std.specs.Prelude.{Bool, if◌then◌else◌, is_some, nat_lt, slice_get, map}
use Rattle.std.specs.Option.{option_map}
use Rattle.sdb_phases.specs.declared.step.AbortPhase.TheVariants as abort
use Rattle.sdb_phases.specs.declared.step.DecidePhase.TheVariants as decide
use Rattle.sdb_record.specs.Groups.{AreGroups, grouped}
use Rattle.sdb_phases.specs.Work.{prepares, forwards, backs, abort_of, groups_of, writes_before}
use Rattle.sdb_phases.specs.Checks.{checks}
use Rattle.sdb_phases.specs.Steps.{Prepares, Validates, Decides, Walk, Aborting, validate_request}
use Rattle.sdb_phases.specs.declared.check.Check.{Check}
use Rattle.sdb_phases.specs.Commit.{Stage, Preparing, Checking, Deciding, checking, preparing}
use Rattle.sdb_txn.specs.declared.commit_phases.Phase.{Phase}
use Rattle.sdb_txn.specs.declared.commit_phases.Phase.TheVariants as phase
use Rattle.sdb_txn.specs.declared.commit_phases.CommitPhases.TheInside.{Inside}
use Rattle.sdb_txn.specs.CommitInside.{IsCommit, IsReady, first, stage_of, work_of}

some_first : {A B : Type 0} (f : A → B) (xs : List A) → is_some (option_map f (slice_get xs 0)) ≡ nat_lt 0 (length xs)
some_first f [] = refl
some_first f (x ∷ xs) = grind (arith, nat_tests)

any_first : (P : Phase → Type 0) (a b : Bool) → P phase.Prepare → P phase.Validate → P phase.Decide → P (first a b)
any_first P true b x y z = x
any_first P false true x y z = y
any_first P false false x y z = z

stage_first : (c : Inside) (a b : Bool) → stage_of (first a b) c ≡ (if a then Preparing c.prepare.at else (if b then Checking c.validate.at else Deciding c.decide.phase))
stage_first c true b = refl
stage_first c false true = refl
stage_first c false false = refl

-- the checks begin, or the decision where there is none
pub checking_starts : (c : Inside) (p : Phase) → p ≡ first false (is_some (validate_request c.validate)) → c.validate.checks ≡ checks (work_of c) → c.validate.at ≡ 0 → c.decide.phase ≡ decide.Put → stage_of p c ≡ checking (work_of c) 0
checking_starts c p begins checks_are at put =
    ap (λ q. stage_of q c) begins
    ∙ stage_first c false (is_some (validate_request c.validate))
    ∙ ap (λ b. if b then Checking c.validate.at else Deciding c.decide.phase) read
    ∙ ap (λ n. if nat_lt 0 (length (checks (work_of c))) then Checking n else Deciding c.decide.phase) at
    ∙ ap (λ d. if nat_lt 0 (length (checks (work_of c))) then Checking 0 else Deciding d) put
  where
    read : is_some (validate_request c.validate) ≡ nat_lt 0 (length (checks (work_of c)))
    read =
        ap (λ (cs : List Check). is_some (option_map (λ (x : Check). x.request) (slice_get cs c.validate.at))) checks_are
        ∙ ap (λ n. is_some (option_map (λ (x : Check). x.request) (slice_get (checks (work_of c)) n))) at
        ∙ some_first (λ x. x.request) (checks (work_of c))

module _ (c : Inside)
    (prepare : c.prepare ≡ record { asks = prepares (work_of c); at = 0; touched = 0 })
    (validate : c.validate ≡ record { checks = checks (work_of c); at = 0 })
    (decision : c.decide ≡ record { id = c.id; moment = c.moment; phase = decide.Put })
    (commit : c.commit ≡ record { asks = forwards (work_of c); at = 0 })
    (undo : c.abort ≡ record { row = abort_of c.id c.moment; asks = backs (work_of c); phase = abort.Idle; at = 0; upto = 0 })
    (groups : AreGroups (grouped c.writes))
    (begins : c.phase ≡ first (nat_lt 0 (groups_of (work_of c))) (is_some (validate_request c.validate))) where
  at_start : IsReady (first (nat_lt 0 (groups_of (work_of c))) (is_some (validate_request c.validate))) c
  at_start =
      let idle : c.abort.phase ≡ abort.Idle = ap (λ a. a.phase) undo in
      let walk : c.commit.at ≡ 0 = ap (λ w. w.at) commit in
      let put : c.decide.phase ≡ decide.Put = ap (λ d. d.phase) decision in
      any_first (λ p. IsReady p c) (nat_lt 0 (groups_of (work_of c))) (is_some (validate_request c.validate))
      (ap (λ p. p.asks) prepare, ap (λ p. p.touched) prepare ∙ sym (ap (λ p. writes_before (work_of c) p.at) prepare), ap (λ v. v.at) validate, put, walk, idle)
      (put, walk, idle)
      (walk, idle)

  pub commit_starts : IsCommit c
  commit_starts = record {
    checks_are = ap (λ v. v.checks) validate;
    id_is = ap (λ d. d.id) decision;
    moment_is = ap (λ d. d.moment) decision;
    forwards_are = ap (λ w. w.asks) commit;
    backs_are = ap (λ a. a.asks) undo;
    row_is = ap (λ a. a.row) undo;
    groups = groups;
    ready = subst (λ p. IsReady p c) (sym begins) at_start;
  }

  pub stage_starts : stage_of c.phase c ≡ preparing (work_of c) 0
  stage_starts =
      let read : is_some (validate_request c.validate) ≡ nat_lt 0 (length (checks (work_of c))) = ap (λ v. is_some (validate_request v)) validate ∙ some_first (λ x. x.request) (checks (work_of c)) in
      ap (λ p. stage_of p c) begins
      ∙ stage_first c (nat_lt 0 (groups_of (work_of c))) (is_some (validate_request c.validate))
      ∙ ap (λ n. if nat_lt 0 (groups_of (work_of c)) then Preparing n else (if is_some (validate_request c.validate) then Checking c.validate.at else Deciding c.decide.phase)) (ap (λ p. p.at) prepare)
      ∙ ap (λ n. if nat_lt 0 (groups_of (work_of c)) then Preparing 0 else (if is_some (validate_request c.validate) then Checking n else Deciding c.decide.phase)) (ap (λ v. v.at) validate)
      ∙ ap (λ d. if nat_lt 0 (groups_of (work_of c)) then Preparing 0 else (if is_some (validate_request c.validate) then Checking 0 else Deciding d)) (ap (λ d. d.phase) decision)
      ∙ ap (λ b. if nat_lt 0 (groups_of (work_of c)) then Preparing 0 else (if b then Checking 0 else Deciding decide.Put)) read
