-- The test of the refusal of too many keys is its cause.
use Rattle.std.proofs.Common.{◌≡◌, ℕ, ◌+◌, ◌-◌, Bool, true, false, List, [], ◌∷◌, length, Option, refl, sym, ap, ◌∙◌, arith, zero-add}
use Rattle.std.specs.Prelude.{◌↔◌, ◌&&◌, ◌==◌, IsTrue, filter, nat_le, nat_lt, sum_by, if◌then◌else◌}
use Rattle.std.specs.Option.{option_map_or}
use Rattle.std.proofs.lemmas.Bool.Decides.{nat_tests}
use Rattle.std.proofs.lemmas.List.Sums.{sum_by-cons}
use Rattle.check_answers.specs.Types.{Event, Made, Statement, TxId}
use Rattle.sdb_model.specs.declared.statement.Statement.TheVariants as statement
use Rattle.sdb_model.specs.Calls as calls
use Rattle.sdb_model.specs.Calls.{records_read}
use Rattle.sdb_model.specs.ReadSet.{has_read, reads_rows}
use Rattle.sdb_model.specs.Causes.{MayPassMost, body_before, finished_before, may_pass, records_found, counted_by}
use Rattle.sdb_model.specs.Transactions.{Executed, client_of, id_of, is_effective, ordinal_of, statements_by}
use Rattle.check_protocol.proofs.Public.{right}
use Rattle.check_tables.specs.Values.{all_made, inside_among, made_of}
use Rattle.check_answers.specs.Tests.{IsReading, any_id, any_upto, found_among, found_by, found_left, is_in, passes_left, passes_most, total_before, written_left}
use Rattle.check_answers.proofs.Decided.{decide_by}
use Rattle.check_answers.proofs.IdLaws.{id_some, in_found, in_is, is_in_of}
use Rattle.check_answers.proofs.ReadLaws.{passed, read}
use Rattle.sdb_types.proofs.Public.{and_both as both, and_first as left}

---- sums

pub found_is : (ms : List Made) → found_among ms ≡ records_found (all_made ms)
found_is [] = refl
found_is (m ∷ ms) = by (reads_rows (made_of m)) (found_is ms)
  where
    size : calls.StoreCall → ℕ
    size x = length (records_read x.reply)

    by : (b : Bool) → found_among ms ≡ records_found (all_made ms) → (if b then length (records_read m.reply) else 0) + found_among ms ≡ sum_by size (if b then made_of m ∷ filter reads_rows (all_made ms) else filter reads_rows (all_made ms))
    by true more = ap (λ n. length (records_read m.reply) + n) more ∙ sym (sum_by-cons size (made_of m) (filter reads_rows (all_made ms)))
    by false more = zero-add (found_among ms) ∙ more

sum_before : (t : Executed → Bool) (f : Executed → ℕ) (accepted : ℕ) (ss : List Executed) → sum_by f (filter (λ b. nat_lt b.accepted accepted) (filter t ss)) ≡ total_before t f accepted ss
sum_before t f accepted [] = refl
sum_before t f accepted (s ∷ ss) = by (t s) (nat_lt s.accepted accepted) refl (sum_before t f accepted ss)
  where
    early : List Executed → List Executed
    early = filter (λ b. nat_lt b.accepted accepted)

    by : (a c : Bool) → nat_lt s.accepted accepted ≡ c → sum_by f (early (filter t ss)) ≡ total_before t f accepted ss → sum_by f (early (if a then s ∷ filter t ss else filter t ss)) ≡ (if a && c then f s else 0) + total_before t f accepted ss
    by false c e more = more ∙ sym (zero-add (total_before t f accepted ss))
    by true true e more = ap (λ b. sum_by f (if b then s ∷ early (filter t ss) else early (filter t ss))) e ∙ sum_by-cons f s (early (filter t ss)) ∙ ap (λ n. f s + n) more
    by true false e more = ap (λ b. sum_by f (if b then s ∷ early (filter t ss) else early (filter t ss))) e ∙ more ∙ sym (zero-add (total_before t f accepted ss))

---- the test

one_more : (w : ℕ) → nat_le (4097 - w) 1 ≡ nat_lt 4096 (w + 1)
one_more w = grind (arith, nat_tests)

all_more : (w f g : ℕ) → (((4097 - w) - f) - g == 0) ≡ nat_lt 4096 (w + (f + g))
all_more w f g = grind (arith, nat_tests)

passes_is : (w f g : ℕ) (st : Statement) → passes_left (4097 - w) (((4097 - w) - f) - g) st ≡ may_pass w (f + g) st
passes_is w f g (statement.Insert i) = one_more w
passes_is w f g (statement.Upsert i) = one_more w
passes_is w f g (statement.Update u) = all_more w f g
passes_is w f g (statement.Delete d) = all_more w f g
passes_is w f g (statement.Select x) = refl
passes_is w f g statement.Begin = refl
passes_is w f g statement.Commit = refl
passes_is w f g statement.Rollback = refl
passes_is w f g statement.Vacuum = refl

module _ (events : List Event) (client : ℕ) (s : Executed) (o : Option Statement) (reading : IsReading s.text o) where
  abbrev inside : TxId → List Executed
  inside id = inside_among (statements_by (client_of id) events) (ordinal_of id)

  abbrev before : TxId → List Executed
  before id = body_before events id s

  abbrev finished : TxId → List Executed
  finished id = finished_before events id s

  abbrev here : TxId → Statement → Bool
  here id st = may_pass (sum_by counted_by (before id)) (sum_by (found_by events client) (finished id) + found_by events client s) st

  same : (id : TxId) (st : Statement) → client_of id ≡ client → passes_left (written_left events id s.accepted) (found_left events client id s) st ≡ here id st
  same id st own =
      passes_is (total_before is_effective counted_by s.accepted (inside id)) (total_before (has_read events client) (found_by events client) s.accepted (inside id)) (found_by events client s) st
      ∙ ap (λ n. may_pass n (total_before (has_read events client) (found_by events client) s.accepted (inside id) + found_by events client s) st) (sym (sum_before is_effective counted_by s.accepted (inside id)))
      ∙ ap (λ n. may_pass (sum_by counted_by (before id)) (n + found_by events client s) st) (sym (sum_before (has_read events client) (found_by events client) s.accepted (inside id)))
      ∙ ap (λ n. may_pass (sum_by counted_by (before id)) (sum_by (found_by events client) (filter (λ b. nat_lt b.accepted s.accepted) (filter (has_read events n) (inside id))) + found_by events client s) st) (sym own)

  abbrev passes : TxId → Statement → Bool
  passes id = passes_left (written_left events id s.accepted) (found_left events client id s)

  most_is : any_id events client (passes_most events client s o) ≡ true → MayPassMost events client s
  most_is h =
      let r = id_some events client (passes_most events client s o) h in
      let a = is_in events client s r.0 in
      let b = option_map_or (passes r.0) o false in
      let p = passed s o reading (passes r.0) (right a b r.1) in
      let within = in_is events client s r.0 (left a b r.1) in
      record { id = r.0; statement = p.0; within = within; read = p.1; past = sym (same r.0 p.0 within.0) ∙ p.2 }

  is_most : MayPassMost events client s → any_id events client (passes_most events client s o) ≡ true
  is_most x =
      in_found events client s (passes_most events client s o) x.id x.within
      (both (is_in events client s x.id) (option_map_or (passes x.id) o false) (is_in_of events client s x.id x.within)
      (ap (λ y. option_map_or (passes x.id) y false) (read s o reading x.statement x.read) ∙ same x.id x.statement x.within.0 ∙ x.past))

  pub most : (b : Bool) (n : ℕ) → n ≡ length (statements_by client events) → b ≡ any_upto (λ k. passes_most events client s o (id_of client k)) n → IsTrue b ↔ MayPassMost events client s
  most b n l f = decide_by b (any_upto (λ k. passes_most events client s o (id_of client k)) (length (statements_by client events))) (f ∙ ap (any_upto (λ k. passes_most events client s o (id_of client k))) l) most_is is_most
