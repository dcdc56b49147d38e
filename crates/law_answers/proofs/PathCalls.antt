-- The calls over replies that the calls can get: one for each reply.
use Rattle.std.proofs.Common.{◌≡◌, ◌||◌, Bool, true, false, List, [], ◌∷◌, ◌++◌, length, Option, Some, None, refl, sym, ap, ◌∙◌, subst, arith}
use Rattle.std.specs.Prelude.{reverse}
use Rattle.std.specs.List.{AllByRecursion, list_any}
use Rattle.std.proofs.lemmas.List.{map-append, length_push}
use Rattle.law_answers.specs.Types.{Decision, Reply, Request}
use Rattle.sdb_types.specs.Contents.{CanAnswer}
use Rattle.sdb_record.specs.declared.coordinator.Decision.TheVariants as decision
use Rattle.sdb_phases.specs.Work.{Work}
use Rattle.sdb_phases.specs.Steps.{CanGet}
use Rattle.sdb_phases.specs.Commit.{Stage, after, pending, preparing, step}
use Rattle.sdb_phases.specs.CommitLaws.{AreReplies, seen, observes_decision}
use Rattle.law_answers.specs.Paths.{Call, Makes, calls_of_path, replies_of, was_observed, with_call}
use Rattle.law_answers.proofs.PathLists.{reverse_more}
use Rattle.sdb_types.proofs.Public.{all_last}

-- what is so of a call more is so where one is pending
pub at_call : (P : List Call → Type 0) (o : Option Request) (r : Reply) (calls : List Call) → CanGet o r → ((q : Request) → o ≡ Some q → CanAnswer q r → P (calls ++ record { request = q; reply = r } ∷ [])) → P (with_call o r calls)
at_call P None r calls gets f = absurd gets
at_call P (Some q) r calls gets f = f q refl gets

pub replies_are : (p : Work) (past : List Reply) → AreReplies p past → replies_of (calls_of_path p past) ≡ reverse past
replies_are p [] correct = refl
replies_are p (r ∷ past) correct =
    at_call (λ cs. replies_of cs ≡ reverse (r ∷ past)) (pending p (after p past)) r (calls_of_path p past) correct.1
    (λ q e fits. map-append (λ (c : Call). c.reply) (calls_of_path p past) (record { request = q; reply = r } ∷ []) ∙ ap (λ rs. rs ++ r ∷ []) (replies_are p past correct.0) ∙ sym (reverse_more r past))

calls_fit : (p : Work) (past : List Reply) → AreReplies p past → AllByRecursion (λ c. CanAnswer c.request c.reply) (calls_of_path p past)
calls_fit p [] correct = tt
calls_fit p (r ∷ past) correct =
    at_call (AllByRecursion (λ c. CanAnswer c.request c.reply)) (pending p (after p past)) r (calls_of_path p past) correct.1
    (λ q e fits. all_last (λ (c : Call). CanAnswer c.request c.reply) (calls_of_path p past) (record { request = q; reply = r }) (calls_fit p past correct.0) fits)

pub made_fit : (p : Work) (calls : List Call) (s : Stage) → Makes p calls s → AllByRecursion (λ c. CanAnswer c.request c.reply) calls
made_fit p calls s m = subst (AllByRecursion (λ c. CanAnswer c.request c.reply)) m.made (calls_fit p m.past m.correct)

pub made_none : (p : Work) → Makes p [] (preparing p 0)
made_none p = record { past = []; correct = tt; made = refl; agrees = refl }

pub made_more : (p : Work) (calls : List Call) (s : Stage) (r : Reply) → Makes p calls s → CanGet (pending p s) r → Makes p (with_call (pending p s) r calls) (step p s r)
made_more p calls s r m gets = record {
  past = r ∷ m.past;
  correct = (m.correct, subst (λ x. CanGet (pending p x) r) (sym m.agrees) gets);
  made = ap (λ x. with_call (pending p x) r (calls_of_path p m.past)) m.agrees ∙ ap (with_call (pending p s) r) m.made;
  agrees = ap (λ x. step p x r) m.agrees;
}

pub calls_long : (p : Work) (past : List Reply) → AreReplies p past → length (calls_of_path p past) ≡ length past
calls_long p [] correct = refl
calls_long p (r ∷ past) correct =
    at_call (λ cs. length cs ≡ length (r ∷ past)) (pending p (after p past)) r (calls_of_path p past) correct.1
    (λ q e fits. let e = calls_long p past correct.0 in let f = length_push (calls_of_path p past) (record { request = q; reply = r }) in omega arith)

---- what was learned

any_more : (t : Call → Bool) (cs : List Call) (c : Call) → list_any t (cs ++ c ∷ []) ≡ (t c || list_any t cs)
any_more t [] c = refl
any_more t (d ∷ cs) c = ap (λ b. t d || b) (any_more t cs c) ∙ turn (t d) (t c) (list_any t cs)
  where
    turn : (a b x : Bool) → (a || (b || x)) ≡ (b || (a || x))
    turn true true x = refl
    turn true false x = refl
    turn false b x = refl

told_more : (p : Work) (d : Decision) (o : Option Request) (r : Reply) (cs : List Call) (b : Bool) → CanGet o r → b ≡ was_observed p d cs → (observes_decision p.id d o r || b) ≡ was_observed p d (with_call o r cs)
told_more p d None r cs b gets e = absurd gets
told_more p d (Some q) r cs b gets e = ap (λ x. observes_decision p.id d (Some q) r || x) e ∙ sym (any_more (λ c. observes_decision p.id d (Some c.request) c.reply) cs (record { request = q; reply = r }))

pub learned_committed : (p : Work) (past : List Reply) → AreReplies p past → (seen p past).committed ≡ was_observed p decision.Committed (calls_of_path p past)
learned_committed p [] correct = refl
learned_committed p (r ∷ past) correct =
    told_more p decision.Committed (pending p (after p past)) r (calls_of_path p past) (seen p past).committed correct.1 (learned_committed p past correct.0)

pub learned_aborted : (p : Work) (past : List Reply) → AreReplies p past → (seen p past).aborted ≡ was_observed p decision.Aborted (calls_of_path p past)
learned_aborted p [] correct = refl
learned_aborted p (r ∷ past) correct =
    told_more p decision.Aborted (pending p (after p past)) r (calls_of_path p past) (seen p past).aborted correct.1 (learned_aborted p past correct.0)
