-- Counts of the failures of boxes, which calls let grow.
use Rattle.std.proofs.Common.{◌≡◌, ℕ, ◌+◌, ◌-◌, ◌^◌, ◌<◌, ◌≤◌, inl, inr, List, length, get_or, slice_set, sym, ap, subst, ◌∙◌, arith}
use Rattle.std.specs.Prelude.{◌==◌, Any, IfErr, IsErrAnd, Result, Ok, Err}
use Rattle.std.proofs.lemmas.Bool.{eqb-true, eqb-false}
use Rattle.std.proofs.lemmas.List.{get_or-set_other, get_or_read, length-set}
use Rattle.std.proofs.lemmas.List.Quantifiers.{any-set}
use Rattle.std.proofs.lemmas.List.Sums.{sum_by-set}
use Rattle.sdb_types.specs.declared.key.Key.{Key}
use Rattle.sdb_types.specs.declared.record.Request.{Request}
use Rattle.sdb_types.specs.declared.record.Request.TheVariants.{Scan}
use Rattle.sdb_types.specs.declared.record.Span.{Span}
use Rattle.sdb_types.specs.declared.record.Reply.{Reply}
use Rattle.sdb_types.specs.declared.record.Reply.TheVariants as reply
use Rattle.sdb_types.specs.Bytes.{HasRisen}
use Rattle.sdb_types.specs.Contents.{CanAnswer}
use Rattle.sdb_types.proofs.Public.{by_test}
use Rattle.sdb_store.specs.Store.{faults_after}
use Rattle.sdb_store.proofs.Public.{faults_grown, next_risen}
use Rattle.sdb_shards.specs.declared.part.Part.{Part}
use Rattle.sdb_shards.specs.declared.refused.MoveRefused.{MoveRefused}
use Rattle.sdb_shards.specs.declared.refused.MoveRefused.TheVariants as refused
use Rattle.sdb_shards.specs.Boxes.{HaveGrown, HaveRisen, IsBoxCall, IsSpent, faults_in, held_of}
use Rattle.sdb_shards.specs.Moves.{IsListing, IsRefusal, IsStop, IsUndone}

abbrev failed : Part → ℕ
failed part = (held_of part).failed

abbrev most : Part → Type 0
most part = 2 ^ 64 - 1 ≤ (held_of part).failed

---- one after another

pub none_failed : (a : List Part) → HaveGrown a a
none_failed a = record { sum = omega arith; spent = λ h. h }

pub grown_then : (a b c : List Part) → HaveGrown a b → HaveGrown b c → HaveGrown a c
grown_then a b c f g = record { sum = omega (arith, f.sum, g.sum); spent = λ h. g.spent (f.spent h) }

-- a failure that is followed by other calls
pub risen_then : (a b c : List Part) → HaveRisen a b → HaveGrown b c → HaveRisen a c
risen_then a b c f g = elim f [ inl rose ↦ inl (omega (arith, rose, g.sum)) | inr most ↦ inr (g.spent most) ]

-- a failure that other calls come before
pub then_risen : (a b c : List Part) → HaveGrown a b → HaveRisen b c → HaveRisen a c
then_risen a b c f g = elim g [ inl rose ↦ inl (omega (arith, f.sum, rose)) | inr most ↦ inr most ]

---- one call of a box

module _ (at : ℕ) (q : Request) (r : Reply) (old new : List Part) (call : IsBoxCall at q r old new) (inside : at < length old) where
  not_fewer : failed call.before ≤ failed call.now
  not_fewer = subst (λ (n : ℕ). failed call.before ≤ n) (sym call.cause) (faults_grown r (failed call.before))

  balance : faults_in new + failed call.before ≡ faults_in old + failed call.now
  balance =
      ap (λ ps. faults_in ps + failed call.before) call.rest
      ∙ ap (λ (p : Part). faults_in (slice_set old at call.now) + failed p) call.stood
      ∙ sum_by-set (λ p. (held_of p).failed) old at call.now call.before inside

  still : IsSpent old → Any most (slice_set old at call.now)
  still one = by_test (one.0 == at)
      (λ t.
      let here : one.1 ≡ call.before = sym one.3 ∙ ap (λ i. get_or old i one.1) (eqb-true one.0 at t) ∙ sym (get_or_read old at call.before inside call.stood one.1) in
      let before : 2 ^ 64 - 1 ≤ failed call.before = subst (λ (p : Part). most p) here one.4 in
      any-set most old at call.now inside (omega (arith, before, not_fewer)))
      (λ f. (one.0, one.1, omega (arith, one.2, length-set old at call.now), get_or-set_other old at one.0 call.now one.1 (eqb-false one.0 at f) ∙ one.3, one.4))

  -- a call lets no count fall
  pub call_grown : HaveGrown old new
  call_grown = record { sum = omega (arith, balance, not_fewer); spent = λ one. subst (λ (ps : List Part). Any most ps) (sym call.rest) (still one) }

  rises : HasRisen (failed call.before) (failed call.now) → HaveRisen old new
  rises h = elim h [
    | inl rose ↦ inl (omega (arith, balance, rose))
    | inr top ↦ inr (subst (λ (ps : List Part). Any most ps) (sym call.rest) (any-set most old at call.now inside top))
  ]

  -- and one that is answered by a fault lets the sum rise
  pub call_risen : r ≡ reply.Fault → HaveRisen old new
  call_risen is = rises (subst (HasRisen (failed call.before)) (sym (call.cause ∙ ap (λ x. faults_after x (failed call.before)) is)) (next_risen (failed call.before)))

---- why calls stopped

-- what is known of a refusal, by what else is known of it
pub refused_as : {no_box no_box' fault fault' : Type 0} {occupied occupied' : Key → Type 0} (e : MoveRefused) → (no_box → no_box') → (fault → fault') → ((key : Key) → occupied key → occupied' key) → IsRefusal no_box fault occupied e → IsRefusal no_box' fault' occupied' e
refused_as refused.NoBox f g h why = f why
refused_as refused.Fault f g h why = g why
refused_as (refused.Occupied key) f g h why = h key why
refused_as refused.NoMemory f g h why = tt

-- and of one that is passed on
pub passed : {A : Type 0} (P : MoveRefused → Type 0) (r : Result A MoveRefused) (e : MoveRefused) → IsErrAnd r (λ x. x ≡ e) → P e → IfErr r P
passed P (Ok x) e h p = absurd h
passed P (Err x) e h p = subst P (sym h) p

-- after calls that did not fail
pub then_stopped : (a b c : List Part) (e : MoveRefused) → HaveGrown a b → IsStop b c e → IsStop a c e
then_stopped a b c e before why = refused_as e (λ h. h) (then_risen a b c before) (λ key h. h) why

module _ {A : Type 0} (at : ℕ) (q : Request) (r : Reply) (old new : List Part) (call : IsBoxCall at q r old new) (inside : at < length old) where
  -- of a call that had not its effect
  pub call_stopped : (got : Result A MoveRefused) → IfErr got (IsUndone r) → IfErr got (IsStop old new)
  call_stopped (Ok x) why = tt
  call_stopped (Err e) why = refused_as e (λ h. h) (call_risen at q r old new call inside) (λ key h. h) why

-- a scan gets the replies of a scan
pub listing : (span : Span) (r : Reply) → CanAnswer (Scan span) r → IsListing r
listing span reply.Fault can = tt
listing span reply.NoMemory can = tt
listing span (reply.Rows rows) can = tt
listing span (reply.Found found) can = can
listing span reply.Applied can = can
listing span (reply.NotMet found) can = can
listing span (reply.NotAll k found) can = can
