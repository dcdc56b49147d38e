-- Equality of answers and of statements.
use Rattle.std.proofs.Common.{◌≡◌, Bool, true, Option, Some, None, refl, sym, ap, subst, ◌∙◌}
use Rattle.std.specs.Prelude.{◌&&◌, ◌==◌, ◌↔◌, IsTrue}
use Rattle.std.specs.Cmp.{first_so, second_so, unsigned_Decides, signed_Decides}
use Rattle.std.specs.Cmp.Lexicographic.{pointwise_decides}
use Rattle.std.specs.Ordering.{int_eq}
use Rattle.std.specs.Option.{option_eq}
use Rattle.sdb_types.specs.Exactness.{IsExact, id_is_exact, key_is_exact, option_is_exact, record_is_exact, values_are_exact}
use Rattle.sdb_types.specs.contracts.key.KeyPartialEq.TheImpl as key_eq
use Rattle.sdb_types.specs.contracts.txid.TxIdPartialEq.TheImpl as id_eq
use Rattle.sdb_types.specs.contracts.record.RecordPartialEq.TheImpl as record_eq
use Rattle.sdb_model.specs.declared.answer.Answer.{Answer}
use Rattle.sdb_model.specs.declared.answer.Answer.TheVariants as answer
use Rattle.sdb_model.specs.contracts.answer.AnswerPartialEq.TheImpl as answer_eq
use Rattle.sdb_model.specs.contracts.answer.RefusalPartialEq.TheImpl as refusal_eq
use Rattle.sdb_model.specs.Rows.{same_name}
use Rattle.sdb_model.specs.Transactions.{Executed}
use Rattle.sdb_record.proofs.Public.{same_name-itself, same_name-true}
use Rattle.check_protocol.proofs.Public.{is_number, number_is, right}
use Rattle.check_answers.specs.Tests.{answered_alike, same_answer, same_executed, is_executed}
use Rattle.sdb_types.proofs.Public.{and_both as both, and_first as left, clash}

refusal_tells : IsExact (refusal_eq.ghosts).eq
refusal_tells a b =
    let x = a.kind == b.kind in
    let y = a.place == b.place in (
      λ h i. record { kind = (unsigned_Decides a.kind b.kind).0 (first_so x y h) i; place = (unsigned_Decides a.place b.place).0 (second_so x y h) i },
      λ e. both x y ((unsigned_Decides a.kind b.kind).1 (ap (λ r. r.kind) e)) ((unsigned_Decides a.place b.place).1 (ap (λ r. r.place) e)),
    )

answer_tells : IsExact (answer_eq.ghosts).eq
answer_tells (answer.Rows a) (answer.Rows b) = (λ h. ap answer.Rows ((pointwise_decides values_are_exact a b).0 h), λ e. (pointwise_decides values_are_exact a b).1 (cc))
answer_tells (answer.Count a) (answer.Count b) = (λ h. ap answer.Count ((unsigned_Decides a b).0 h), λ e. (unsigned_Decides a b).1 (cc))
answer_tells answer.Done answer.Done = (λ h. refl, λ e. refl)
answer_tells answer.Committed answer.Committed = (λ h. refl, λ e. refl)
answer_tells (answer.Duplicate k) (answer.Duplicate l) = (λ h. ap answer.Duplicate ((key_is_exact k l).0 h), λ e. (key_is_exact k l).1 (cc))
answer_tells (answer.Busy k i n) (answer.Busy l j m) =
    let x = (key_eq.ghosts).eq k l in
    let y = (id_eq.ghosts).eq i j in
    let z = int_eq n m in (
      λ h t. answer.Busy ((key_is_exact k l).0 (first_so x (y && z) h) t) ((id_is_exact i j).0 (first_so y z (second_so x (y && z) h)) t) ((signed_Decides n m).0 (second_so y z (second_so x (y && z) h)) t),
      λ e. both x (y && z) ((key_is_exact k l).1 (cc)) (both y z ((id_is_exact i j).1 (cc)) ((signed_Decides n m).1 (cc))),
    )
answer_tells (answer.Conflict k a) (answer.Conflict l b) =
    let x = (key_eq.ghosts).eq k l in
    let y = option_eq (record_eq.ghosts).eq a b in (
      λ h t. answer.Conflict ((key_is_exact k l).0 (first_so x y h) t) ((option_is_exact record_is_exact a b).0 (second_so x y h) t),
      λ e. both x y ((key_is_exact k l).1 (cc)) ((option_is_exact record_is_exact a b).1 (cc)),
    )
answer_tells (answer.Expired i) (answer.Expired j) = (λ h. ap answer.Expired ((id_is_exact i j).0 h), λ e. (id_is_exact i j).1 (cc))
answer_tells answer.Faulted answer.Faulted = (λ h. refl, λ e. refl)
answer_tells (answer.Unknown i) (answer.Unknown j) = (λ h. ap answer.Unknown ((id_is_exact i j).0 h), λ e. (id_is_exact i j).1 (cc))
answer_tells (answer.BadRecord k) (answer.BadRecord l) = (λ h. ap answer.BadRecord ((key_is_exact k l).0 h), λ e. (key_is_exact k l).1 (cc))
answer_tells (answer.Refused a) (answer.Refused b) = (λ h. ap answer.Refused ((refusal_tells a b).0 h), λ e. (refusal_tells a b).1 (cc))
answer_tells answer.Vacuuming answer.Vacuuming = (λ h. refl, λ e. refl)
answer_tells answer.OpenTransactions answer.OpenTransactions = (λ h. refl, λ e. refl)
answer_tells answer.NoMemory answer.NoMemory = (λ h. refl, λ e. refl)
answer_tells a b = (λ h. cc, λ e. cc)

pub answer_is : (a b : Answer) → same_answer a b ≡ true → a ≡ b
unfolding same_answer
answer_is a b h = (answer_tells a b).0 h

pub is_answer : (a b : Answer) → a ≡ b → same_answer a b ≡ true
unfolding same_answer
is_answer a b e = (answer_tells a b).1 e

alike_is : (a b : Option Answer) → answered_alike a b ≡ true → a ≡ b
alike_is None None h = refl
alike_is None (Some b) h = clash (sym h)
alike_is (Some a) None h = clash (sym h)
alike_is (Some a) (Some b) h = ap Some (answer_is a b h)

alike_itself : (a : Option Answer) → answered_alike a a ≡ true
alike_itself None = refl
alike_itself (Some a) = is_answer a a refl

pub alike_exact : (a b : Option Answer) (r : Bool) → r ≡ answered_alike a b → IsTrue r ↔ (a ≡ b)
alike_exact a b r is = (λ t. alike_is a b (sym is ∙ t), λ e. is ∙ subst (λ (x : Option Answer). answered_alike a x ≡ true) e (alike_itself a))

pub said_is : (a b : Executed) → same_executed a b ≡ true → a ≡ b
said_is a b h =
    let w = a.accepted == b.accepted in
    let x = a.reached == b.reached in
    let y = same_name a.text b.text in
    let z = answered_alike a.answer b.answer in
    let rest = right w (x && (y && z)) h in
    let last = right x (y && z) rest in
    let n = number_is a.accepted b.accepted (left w (x && (y && z)) h) in
    let m = number_is a.reached b.reached (left x (y && z) rest) in
    let t = same_name-true a.text b.text (left y z last) in
    let o = alike_is a.answer b.answer (right y z last) in
    λ i. record { accepted = n i; text = t i; answer = o i; reached = m i }

pub said_itself : (a : Executed) → same_executed a a ≡ true
said_itself a =
    both (a.accepted == a.accepted) ((a.reached == a.reached) && (same_name a.text a.text && answered_alike a.answer a.answer)) (is_number a.accepted a.accepted refl)
    (both (a.reached == a.reached) (same_name a.text a.text && answered_alike a.answer a.answer) (is_number a.reached a.reached refl)
    (both (same_name a.text a.text) (answered_alike a.answer a.answer) (same_name-itself a.text) (alike_itself a.answer)))

pub some_said : (o : Option Executed) (s : Executed) → is_executed o s ≡ true → o ≡ Some s
some_said None s h = clash (sym h)
some_said (Some x) s h = ap Some (said_is x s h)

pub is_said_of : (o : Option Executed) (s : Executed) → o ≡ Some s → is_executed o s ≡ true
is_said_of o s e = ap (λ x. is_executed x s) e ∙ said_itself s
