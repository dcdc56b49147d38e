-- Answers that no call explains have no cause.
use Rattle.std.proofs.Common.{◌≡◌, ◌≢◌, ◌≤◌, ℕ, Bool, true, false, List, [], ◌∷◌, ◌++◌, Option, Some, None, inl, inr, refl, sym, ap, subst, ◌∙◌, arith}
use Rattle.std.specs.Prelude.{codes, map, pos, Contains}
use Rattle.std.specs.List.{AllByRecursion}
use Rattle.std.specs.Option.{option_map}
use Rattle.std.specs.Result.{result_ok}
use Rattle.law_protocol.specs.Types.{Image, Keyword, Place, Statement, Table, Token, Value}
use Rattle.sdb_types.specs.declared.value.Value.TheVariants as value
use Rattle.sdb_model.specs.declared.answer.Answer.TheVariants as answer
use Rattle.sdb_model.specs.Events.{StoreContents}
use Rattle.sdb_model.specs.Transactions.{Executed, ends, id_of, statements_of, through_end}
use Rattle.sdb_model.specs.declared.statement.Statement.TheVariants as statement
use Rattle.sdb_model.specs.declared.token.Keyword.TheVariants as word
use Rattle.sdb_model.specs.declared.token.Sign.TheVariants as sign
use Rattle.sdb_model.specs.declared.token.Token.TheVariants.{Word, Name, Overlong, Number, Text, Blob, Sign as Mark}
use Rattle.sdb_model.specs.Sql.{Reads, Tokens, statement_tokens, tokens_of}
use Rattle.sdb_model.specs.Causes.{AreCaused, IsConflict, IsCounted}
use Rattle.sdb_model.specs.DirtyReads.{NoDirtyReads}
use Rattle.law_protocol.specs.Worked.{account}
use Rattle.law_protocol.specs.Forged.{oracle, accused, broken, counting}
use Rattle.law_protocol.proofs.Texts.{begin_begins, vacuum_tokens}

in_none : {X : Type 0} (x : X) → Contains [] x → ⊥
in_none x h = let low = h.1 in omega arith

---- a row that no call found

through_one : (s : Executed) → through_end (s ∷ []) ≡ s ∷ []
through_one s = by (ends s) refl
  where
    by : (b : Bool) → ends s ≡ b → through_end (s ∷ []) ≡ s ∷ []
    by true e = rw e refl
    by false e = rw e refl

abbrev selected : Executed
selected = record { accepted = 2; text = codes "SELECT balance FROM bank.account WHERE id = 1"; answer = Some (answer.Rows ((value.Int (pos 42) ∷ []) ∷ [])); reached = 2 }

is_taken : statements_of oracle (id_of 1 1) ≡ selected ∷ []
is_taken = rw begin_begins (through_one selected)

no_image : {P : Image → Type 0} (f : Image → List Value) (row : List Value) (images : List Image) → row ∷ [] ≡ map f images → AllByRecursion P images → ((image : Image) → P image → ⊥) → ⊥
no_image f row [] e all never = absurd cc
no_image f row (i ∷ is) e all never = never i all.0

pub oracle_not_shown : (catalog : List Table) (places : List Place) (opening : List StoreContents) (moments : List (List StoreContents)) → NoDirtyReads catalog places oracle opening moments → ⊥
oracle_not_shown catalog places opening moments observed =
    let s = observed (id_of 1 1) selected (answer.Rows ((value.Int (pos 42) ∷ []) ∷ [])) (subst (λ ss. Contains ss selected) (sym is_taken) (0, omega arith, refl)) refl in
    no_image _ (value.Int (pos 42) ∷ []) s.2 s.5 s.6 (λ image has. in_none has.observed.call has.observed.read.0)

---- answers without a call

abbrev ended : Executed
ended = record { accepted = 2; text = codes "COMMIT"; answer = Some (answer.Conflict account None); reached = 2 }

pub accused_not_caused : (catalog : List Table) → AreCaused catalog accused → ⊥
accused_not_caused catalog all =
    let c : IsConflict accused 1 ended account None = all.caused 1 ended (answer.Conflict account None) (1, omega arith, refl) refl in
    elim c.1 as (λ _. ⊥) [
      | inl at ↦ elim at.1 as (λ _. ⊥) [
        | inl a ↦ elim a.1 as (λ _. ⊥) [ inl u ↦ in_none u.0 u.1 | inr k ↦ in_none k.0 k.1 ]
        | inr b ↦ in_none b.0.0 b.0.1
      ]
      | inr at ↦ let m = at.2 in in_none m.0 m.3
    ]

abbrev failed : Executed
failed = record { accepted = 1; text = codes "BEGIN"; answer = Some answer.Faulted; reached = 1 }

pub broken_not_caused : (catalog : List Table) → AreCaused catalog broken → ⊥
broken_not_caused catalog all = let c = all.caused 1 failed answer.Faulted (0, omega arith, refl) refl in in_none c.0 c.1

-- the first token, where it is a keyword
abbrev first_word : Tokens → Option Keyword
first_word (Word w ∷ ts) = Some w
first_word ts = None

first_more : (ts : Tokens) (w : Keyword) (t : Token) → first_word (ts ++ t ∷ []) ≡ Some w → (t ≡ Mark sign.Semicolon) → first_word ts ≡ Some w
first_more [] w t h e = absurd (none (sym h ∙ ap (λ x. first_word (x ∷ [])) e))
  where
    none : Some w ≡ None → ⊥
    none z = absurd (cc)
first_more (Word v ∷ ts) w t h e = h
first_more (Name n ∷ ts) w t h e = h
first_more (Overlong ∷ ts) w t h e = h
first_more (Number n ∷ ts) w t h e = h
first_more (Text n ∷ ts) w t h e = h
first_more (Blob n ∷ ts) w t h e = h
first_more (Mark n ∷ ts) w t h e = h

-- what is read of the text begins with its keyword
vacuum_first : (st : Statement) → Reads (codes "VACUUM") st → first_word (statement_tokens st) ≡ Some word.Vacuum
vacuum_first st (ps, lexes, whole, spells) = elim spells [
  | inl e ↦ ap first_word (sym e) ∙ first
  | inr e ↦ first_more (statement_tokens st) word.Vacuum (Mark sign.Semicolon) (ap first_word (sym e) ∙ first) refl
]
  where
    some_is : {X : Type 0} (a b : X) → Some a ≡ Some b → a ≡ b
    some_is a b z = cc

    tokens : tokens_of ps ≡ Word word.Vacuum ∷ []
    tokens = some_is (tokens_of ps) (Word word.Vacuum ∷ []) (sym (ap (λ r. option_map tokens_of (result_ok r)) lexes) ∙ vacuum_tokens)

    first : first_word (tokens_of ps) ≡ Some word.Vacuum
    first = ap first_word tokens

abbrev counted : Executed
counted = record { accepted = 1; text = codes "VACUUM"; answer = Some (answer.Count 7); reached = 1 }

pub counting_not_caused : (catalog : List Table) → AreCaused catalog counting → ⊥
counting_not_caused catalog all =
    let c = all.caused 1 counted (answer.Count 7) (0, omega arith, refl) refl in
    by c.0 c.1 c.2
  where
    seven : (n : ℕ) → 7 ≡ n → n ≤ 1 → ⊥
    seven n e l = omega (arith, e, l)

    other : (st : Statement) → Reads (codes "VACUUM") st → first_word (statement_tokens st) ≢ Some word.Vacuum → ⊥
    other st r n = n (vacuum_first st r)

    by : (st : Statement) → Reads (codes "VACUUM") st → IsCounted counting 1 counted st 7 → ⊥
    by (statement.Insert i) r e = seven 1 e (omega arith)
    by (statement.Upsert i) r e = seven 1 e (omega arith)
    by (statement.Update u) r e = other (statement.Update u) r (λ h. absurd (cc))
    by (statement.Delete d) r e = other (statement.Delete d) r (λ h. absurd (cc))
    by (statement.Select x) r e = e
    by statement.Begin r e = e
    by statement.Commit r e = e
    by statement.Rollback r e = e
    by statement.Vacuum r e = seven 0 e (omega arith)
