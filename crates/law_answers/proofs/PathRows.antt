-- Which stage asks for the put of the row ABORTED, and which for none of the row.
use Rattle.std.proofs.Common.{◌≡◌, ◌≢◌, ℕ, zero, suc, ℤ, List, [], ◌∷◌, ◌++◌, filter, not, Option, Some, None, false, refl, ap, sym, ◌∙◌, map}
use Rattle.std.specs.Prelude.{slice_get}
use Rattle.std.specs.Option.{option_map}
use Rattle.std.proofs.lemmas.Option.{slice_get-map}
use Rattle.law_answers.specs.Types.{Check, Outcome, Read, Request, Scan, State, TxId, Write}
use Rattle.sdb_types.specs.Contents.{is_version}
use Rattle.sdb_record.specs.declared.coordinator.Decision.TheVariants as decision
use Rattle.sdb_record.specs.Coordinator.{coordinator_row_of}
use Rattle.sdb_record.specs.Groups.{grouped}
use Rattle.sdb_record.specs.Rolls.{prepared_record, state_of_change}
use Rattle.sdb_record.proofs.Public.{prepared-version}
use Rattle.sdb_record.specs.Among.{is_written}
use Rattle.sdb_phases.specs.declared.step.Outcome.TheVariants as outcome
use Rattle.sdb_phases.specs.Work.{Work, prepares_of, decide_of, abort_of, look_of}
use Rattle.sdb_phases.specs.Checks.{checks, check_of_read, check_of_scan}
use Rattle.sdb_phases.specs.Commit.{Preparing, Checking, Stopping, Back, pending}
use Rattle.sdb_phases.proofs.Public.{asks_deciding_put}
use Rattle.sdb_types.proofs.Public.{some_is}

row_no_version : (id other : TxId) (s : State) (now : ℤ) → is_version id s (coordinator_row_of other decision.Aborted now) ≡ false
unfolding coordinator_row_of
row_no_version id other s now = refl

put_other : (id : TxId) (now : ℤ) (w : Write) → prepares_of id now (w ∷ []) ≢ abort_of id now
put_other id now w e =
    let same : prepared_record w id now ≡ coordinator_row_of id decision.Aborted now = cc in
    let none = row_no_version id id (state_of_change w.change) now in
    let is = prepared-version w id now in
    let so = ap (is_version id (state_of_change w.change)) same in
    cc

prepare_other : (id : TxId) (now : ℤ) (g : List Write) → prepares_of id now g ≢ abort_of id now
prepare_other id now [] e = cc
prepare_other id now (w ∷ []) e = put_other id now w e
prepare_other id now (v ∷ w ∷ ws) e = cc

prepared_other : (id : TxId) (now : ℤ) (o : Option (List Write)) → option_map (prepares_of id now) o ≢ Some (abort_of id now)
prepared_other id now None e = cc
prepared_other id now (Some g) e = prepare_other id now g (some_is (prepares_of id now g) (abort_of id now) e)

scan_other : (id : TxId) (now : ℤ) (own : List Write) (o : Option Scan) → option_map (λ c. c.request) (option_map (check_of_scan own) o) ≢ Some (abort_of id now)
scan_other id now own None e = cc
scan_other id now own (Some s) e = cc

scans_other : (id : TxId) (now : ℤ) (own : List Write) (ss : List Scan) (i : ℕ) → option_map (λ c. c.request) (slice_get (map (check_of_scan own) ss) i) ≢ Some (abort_of id now)
scans_other id now own ss i e =
    scan_other id now own (slice_get ss i) (sym (ap (option_map (λ c. c.request)) (slice_get-map (check_of_scan own) ss i)) ∙ e)

reads_other : (id : TxId) (now : ℤ) (rs : List Read) (cs : List Check) → ((i : ℕ) → option_map (λ c. c.request) (slice_get cs i) ≢ Some (abort_of id now)) → (i : ℕ) → option_map (λ c. c.request) (slice_get (map check_of_read rs ++ cs) i) ≢ Some (abort_of id now)
reads_other id now [] cs others i e = others i e
reads_other id now (r ∷ rs) cs others zero e = cc
reads_other id now (r ∷ rs) cs others (suc i) e = reads_other id now rs cs others i e

check_other : (p : Work) (i : ℕ) → option_map (λ c. c.request) (slice_get (checks p) i) ≢ Some (abort_of p.id p.now)
check_other p i e =
    reads_other p.id p.now (filter (λ r. not (is_written p.writes r.key)) p.reads) (map (check_of_scan p.writes) p.scans) (scans_other p.id p.now p.writes p.scans) i e

---- by stage

-- the call isn't for the row, or puts it ABORTED
pub record NoRow (p : Work) (q : Request) : Type 0 where
  pub no_put : q ≢ decide_of p.id p.now
  pub no_abort : q ≢ abort_of p.id p.now

pub no_row_prepare : (p : Work) (i : ℕ) (q : Request) → pending p (Preparing i) ≡ Some q → NoRow p q
no_row_prepare p i q e = record {
  no_put = λ same. let s = asks_deciding_put p (Preparing i) (e ∙ ap Some same) in cc;
  no_abort = λ same. prepared_other p.id p.now (slice_get (grouped p.writes) i) (sym (slice_get-map (prepares_of p.id p.now) (grouped p.writes) i) ∙ e ∙ ap Some same);
}

pub no_row_check : (p : Work) (i : ℕ) (q : Request) → pending p (Checking i) ≡ Some q → NoRow p q
no_row_check p i q e = record {
  no_put = λ same. let s = asks_deciding_put p (Checking i) (e ∙ ap Some same) in cc;
  no_abort = λ same. check_other p i (e ∙ ap Some same);
}

pub no_put_back : (p : Work) (a : Outcome) (n i : ℕ) (q : Request) → pending p (Back a n i) ≡ Some q → q ≢ decide_of p.id p.now
no_put_back p a n i q e same = let s = asks_deciding_put p (Back a n i) (e ∙ ap Some same) in cc

pub abort_no_put : (p : Work) → abort_of p.id p.now ≢ decide_of p.id p.now
abort_no_put p same = let s = asks_deciding_put p (Stopping outcome.Faulted 0) (ap Some same) in cc

pub put_no_abort : (p : Work) → decide_of p.id p.now ≢ abort_of p.id p.now
put_no_abort p same = abort_no_put p (sym same)

pub look_no_abort : (p : Work) → look_of p.id ≢ abort_of p.id p.now
look_no_abort p same = cc
