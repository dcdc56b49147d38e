-- A COMMIT that is nobody's is answered Committed in no run.
use Rattle.std.proofs.Common.{◌≡◌, ℕ, zero, suc, Bool, true, false, List, Option, Some, None, refl, sym, ap, ◌∙◌, arith}
use Rattle.std.specs.Prelude.{◌==◌, ◌&&◌, codes, find, if◌then◌else◌}
use Rattle.std.proofs.lemmas.Bool.Decides.{nat_tests}
use Rattle.std.specs.Option.{option_and_then}
use Rattle.sdb_model.specs.declared.answer.Answer.TheVariants as answer
use Rattle.law_protocol.specs.Types.{Point, Script, TableDump}
use Rattle.sdb_model.specs.Sql.{reads_begin, reads_commit}
use Rattle.sdb_model.specs.Events.{StoreContents}
use Rattle.sdb_model.specs.Transactions.{Executed, statements_by, ends, from_begin, rest_of, ordinal_of}
use Rattle.sdb_model.specs.Serial.{IsRun}
use Rattle.law_protocol.specs.Forged.{liar, twice}
use Rattle.law_protocol.proofs.Texts.{begin_begins, commit_begins_not, rollback_begins_not, rollback_commits_not, rollback_rolls}

-- the COMMIT of the n-th transaction among what a client said
abbrev commit_among : ℕ → List Executed → Option Executed
commit_among n ss = option_and_then (λ (s : Executed). if reads_commit s.text then Some s else None) (find ends (rest_of (from_begin n ss)))

no_some : (s : Executed) → None ≡ Some s → ⊥
no_some s e = absurd (cc)

liar_none : (n : ℕ) → commit_among n (statements_by 1 liar) ≡ None
liar_none zero = refl
liar_none (suc n) = rw (not_done (reads_begin (codes "BEGIN")), not_done (reads_begin (codes "INSERT INTO bank.account (id, balance) VALUES (1, 100)")), not_done (reads_begin (codes "COMMIT"))) refl
  where
    not_done : (b : Bool) → (b && false) ≡ false
    not_done true = refl
    not_done false = refl

pub liar_is_no_run : (script : Script) (opening closing : List StoreContents) (order : List Point) (tables : List TableDump) → IsRun script opening closing (record { events = liar; order = order; tables = tables }) → ⊥
liar_is_no_run script opening closing order tables run =
    let o = run.answered.owned 1 (record { accepted = 3; text = codes "COMMIT"; answer = Some answer.Committed; reached = 3 }) (2, omega arith, refl) refl in
    no_some _ (sym (ap (λ c. commit_among (ordinal_of o.id) (statements_by c liar)) o.owner ∙ liar_none (ordinal_of o.id)) ∙ o.commit)

twice_none : (n : ℕ) → commit_among n (statements_by 1 twice) ≡ None
twice_none zero = refl
twice_none (suc zero) = rw (begin_begins, rollback_commits_not, rollback_rolls, rollback_commits_not) refl
twice_none (suc (suc n)) = rw (begin_begins, apart n, rollback_begins_not, commit_begins_not) refl
  where
    apart : (n : ℕ) → (suc n == 0) ≡ false
    apart n = grind (arith, nat_tests)

pub twice_is_no_run : (script : Script) (opening closing : List StoreContents) (order : List Point) (tables : List TableDump) → IsRun script opening closing (record { events = twice; order = order; tables = tables }) → ⊥
twice_is_no_run script opening closing order tables run =
    let o = run.answered.owned 1 (record { accepted = 3; text = codes "COMMIT"; answer = Some answer.Committed; reached = 3 }) (2, omega arith, refl) refl in
    no_some _ (sym (ap (λ c. commit_among (ordinal_of o.id) (statements_by c twice)) o.owner ∙ twice_none (ordinal_of o.id)) ∙ o.commit)
