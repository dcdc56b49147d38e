-- A statement that some text is read as is read again from its printed text.
use Rattle.std.proofs.Common.{◌≡◌, ℕ, Bool, true, false, cond, ◌&&◌, ◌==◌, List, [], ◌∷◌, ◌++◌, length, Option, Some, None, Result, Ok, Err, refl, sym, subst, ◌∙◌, inl, inr}
use Rattle.std.specs.Prelude.{IfOk}
use Rattle.std.specs.List.{AllByRecursion}
use Rattle.sdb_sqltext.specs.Types.{NoMemory, Statement, Token}
use Rattle.sdb_model.specs.declared.token.Sign.TheVariants as sign
use Rattle.sdb_model.specs.declared.token.Token.TheVariants.{Overlong, Sign as Mark}
use Rattle.sdb_model.specs.Sql.{Tokens, statement_tokens, statement_text_of, tokens_of, Spells, IsWhole, CanSpell, Reads}
use Rattle.sdb_sqltext.specs.Spelled.{IsSpelled}
use Rattle.sdb_sqltext.proofs.AllPrinted.{statement_read}
use Rattle.sdb_sqltext.proofs.Spelled.{lexed_spelled}
use Rattle.sdb_sqltext.specs.Heads.{Head}
use Rattle.sdb_sqltext.specs.Heads as head
use Rattle.sdb_sqltext.specs.States.{State}
use Rattle.sdb_sqltext.specs.States as state
use Rattle.sdb_sqltext.specs.Machine.{is_select, step}
use Rattle.sdb_sqltext.specs.Parsing.{finish}
use Rattle.sdb_sqltext.proofs.Complete.{run, whole_reads}
use Rattle.sdb_types.proofs.Public.{bind_some, none_some}

-- ---- no statement has an overlong token

none_anyway : (b : Bool) (r : Option State) → cond b r r ≡ r
none_anyway true r = refl
none_anyway false r = refl

no_limit : (h : Head) (next : Option State) → cond (is_select h && false) next None ≡ None
no_limit (head.Update t sets) next = refl
no_limit (head.Delete t) next = refl
no_limit (head.Select t cs) next = refl

no_overlong : (s : State) → step s Overlong ≡ None
no_overlong state.Start = refl
no_overlong (state.Into u) = refl
no_overlong state.DeleteFrom = refl
no_overlong state.FirstColumn = refl
no_overlong (state.NextColumn cs) = refl
no_overlong (state.ColumnEnd cs) = refl
no_overlong state.StarEnd = refl
no_overlong (state.Namespace v) = refl
no_overlong (state.Dot v ns) = refl
no_overlong (state.Table v ns) = refl
no_overlong (state.OpenNames d) = refl
no_overlong (state.NextName d) = refl
no_overlong (state.NameEnd d) = refl
no_overlong (state.Values d) = refl
no_overlong (state.OpenLiterals d) = refl
no_overlong (state.NextLiteral d) = refl
no_overlong (state.LiteralEnd d) = none_anyway (length d.columns == length d.values) None
no_overlong (state.Set t) = refl
no_overlong (state.NextSet t sets) = refl
no_overlong (state.SetName t sets n) = refl
no_overlong (state.SetTo t sets n) = refl
no_overlong (state.Target h) = no_limit h _
no_overlong (state.NextTest f) = refl
no_overlong (state.Compare f n) = refl
no_overlong (state.Right f n c) = refl
no_overlong (state.Is f n) = refl
no_overlong (state.Not f n) = refl
no_overlong (state.TestEnd f) = no_limit f.head _
no_overlong (state.Limit f) = refl
no_overlong (state.Ended st) = refl
no_overlong (state.Closed st) = refl

can_spell : (s : State) (t : Token) (n : State) → step s t ≡ Some n → IsSpelled t → CanSpell t
can_spell s t n e (inl can) = can
can_spell s t n e (inr long) = none_some n (sym (no_overlong s) ∙ subst (λ (u : Token). step s u ≡ Some n) long e)

all_can : (ts : Tokens) (s n : State) → run s ts ≡ Some n → AllByRecursion IsSpelled ts → AllByRecursion CanSpell ts
all_can [] s n h all = tt
all_can (t ∷ ts) s n h all =
    let b = bind_some (step s t) (λ m. run m ts) n h in
    (can_spell s t b.0 b.1 all.0, all_can ts b.0 n b.2 all.1)

-- ---- the tokens of a statement that some text is read as

front_all : {X : Type 0} (P : X → Type 0) (xs ys : List X) → AllByRecursion P (xs ++ ys) → AllByRecursion P xs
front_all P [] ys all = tt
front_all P (x ∷ xs) ys all = (all.0, front_all P xs ys all.1)

spelled_all : (P : Token → Type 0) (ts : Tokens) (st : Statement) → Spells ts st → AllByRecursion P ts → AllByRecursion P (statement_tokens st)
spelled_all P ts st (inl e) all = subst (AllByRecursion P) e all
spelled_all P ts st (inr e) all = front_all P (statement_tokens st) (Mark sign.Semicolon ∷ []) (subst (AllByRecursion P) e all)

pub read_again : (text : List ℕ) (st : Statement) → Reads text st → Reads (statement_text_of st) st
read_again text st (ps, lexes, whole, spelled) =
    let ended = bind_some (run state.Start (statement_tokens st)) finish st (whole_reads st whole) in
    let all = spelled_all IsSpelled (tokens_of ps) st spelled (lexed_spelled text ps lexes) in
    statement_read st whole (all_can (statement_tokens st) state.Start ended.0 ended.1 all)

-- ---- the clauses of printing

pub printed_reads : (r : Result (List ℕ) NoMemory) (st : Statement) → IfOk r (λ t. t ≡ statement_text_of st) → IfOk r (λ t. IsWhole st → AllByRecursion CanSpell (statement_tokens st) → Reads t st)
printed_reads (Ok t) st h = λ whole fits. subst (λ (x : List ℕ). Reads x st) (sym h) (statement_read st whole fits)
printed_reads (Err e) st h = tt

pub printed_again : (r : Result (List ℕ) NoMemory) (st : Statement) (text : List ℕ) → IfOk r (λ t. t ≡ statement_text_of st) → Reads text st → IfOk r (λ t. Reads t st)
printed_again (Ok t) st text h reads = subst (λ (x : List ℕ). Reads x st) (sym h) (read_again text st reads)
printed_again (Err e) st text h reads = tt
