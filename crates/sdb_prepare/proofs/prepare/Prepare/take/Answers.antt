use Rattle.std.proofs.Common.{◌≡◌, ◌<◌, ◌^◌, ℕ, ◌+◌, [], length, slice_get, subst, sym, ap, arith, rules}
use Rattle.sdb_phases.specs.Steps.{puts_from, puts_of}
use Rattle.sdb_prepare.proofs.Counting.{one_more_fits, pending_within, touched_fits}
use Rattle.sdb_prepare.proofs.prepare.Prepare.take.Goals as goal

pub overflow_add-self-in-Applied : goal.overflow_add-self-in-Applied
overflow_add-self-in-Applied c =
    let s = c.self.inside in
    let is : c.count-puts.result ≡ puts_of (slice_get s.asks s.at) = search rules in
    let fits : s.touched + c.count-puts.result < 2 ^ 64 = touched_fits s.asks s.at s.touched c.count-puts.result (pending_within s.asks s.at (search rules)) is (search rules) in
    omega (arith, fits)

pub overflow_add-at : goal.overflow_add-at
overflow_add-at c =
    let s = c.self.inside in
    let within : s.at < length s.asks = pending_within s.asks s.at (search rules) in
    omega (arith, within, c.len-calls.type_inv, c.len-calls.ensures)

pub returns-then-at-calls-clause-after : goal.returns-then-at-calls-clause-after
returns-then-at-calls-clause-after c = let is : c.count-puts.result ≡ puts_of (slice_get c.self.inside.asks c.self.inside.at) = search rules in search rules

pub invariant_of-self : goal.invariant_of-self
invariant_of-self c =
    let s = c.self.inside in
    let is : c.count-puts.result ≡ puts_of (slice_get s.asks s.at) = search rules in
    one_more_fits s.asks s.at s.touched c.count-puts.result (pending_within s.asks s.at (search rules)) is (search rules)

pub invariant_of-self-in-Applied : goal.invariant_of-self-in-Applied
invariant_of-self-in-Applied c =
    let s = c.self.inside in
    let is : c.count-puts.result ≡ puts_of (slice_get s.asks s.at) = search rules in
    one_more_fits s.asks s.at s.touched c.count-puts.result (pending_within s.asks s.at (search rules)) is (search rules)

pub returns-in-Applied-clause-after : goal.returns-in-Applied-clause-after
returns-in-Applied-clause-after c = let is : c.count-puts.result ≡ puts_of (slice_get c.self.inside.asks c.self.inside.at) = search rules in search rules

pub conflict-requires : goal.conflict-requires
conflict-requires c = subst (λ asks. c.self.inside.at < length asks) (sym c.end.ensures.before) (pending_within c.self.inside.asks c.self.inside.at (search rules))

pub conflict-requires-in-NotAll : goal.conflict-requires-in-NotAll
conflict-requires-in-NotAll c = subst (λ asks. c.self.inside.at < length asks) (sym c.end-in-NotAll.ensures.before) (pending_within c.self.inside.asks c.self.inside.at (search rules))

pub overflow_add-self-in-Fault : goal.overflow_add-self-in-Fault
overflow_add-self-in-Fault c =
    let s = c.self.inside in
    let is : c.count-puts.result ≡ puts_of (slice_get s.asks s.at) = search rules in
    let fits : s.touched + c.count-puts.result < 2 ^ 64 = touched_fits s.asks s.at s.touched c.count-puts.result (pending_within s.asks s.at (search rules)) is (search rules) in
    omega (arith, fits)

pub invariant_of-self-in-Fault : goal.invariant_of-self-in-Fault
invariant_of-self-in-Fault c =
    let s = c.self.inside in
    let is : c.count-puts.result ≡ puts_of (slice_get s.asks s.at) = search rules in
    let fits : s.touched + c.count-puts.result < 2 ^ 64 = touched_fits s.asks s.at s.touched c.count-puts.result (pending_within s.asks s.at (search rules)) is (search rules) in
    subst (λ asks. s.touched + c.count-puts.result + puts_from asks c.end-in-Fault.new.at < 2 ^ 64) (sym c.end-in-Fault.ensures.asks)
    (subst (λ n. s.touched + c.count-puts.result + puts_from [] n < 2 ^ 64) (sym c.end-in-Fault.ensures.at) (omega (arith, fits)))

pub returns-in-Fault-clause-after : goal.returns-in-Fault-clause-after
returns-in-Fault-clause-after c = let is : c.count-puts.result ≡ puts_of (slice_get c.self.inside.asks c.self.inside.at) = search rules in search rules
