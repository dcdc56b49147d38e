-- The tokens that are printed are read again, one after another.
use Rattle.std.proofs.Common.{◌≡◌, ℕ, ◌+◌, ◌%◌, ◌<◌, ◌≤◌, ◌^◌, pos, negsuc, Bool, true, false, not, ◌||◌, if◌then◌else◌, List, [], ◌∷◌, ◌++◌, length, Result, Ok, Err, refl, ap, ◌∙◌, arith, ◌⊎◌, inl, inr}
use Rattle.std.specs.Prelude.{codes, decimal}
use Rattle.std.specs.List.{AllByRecursion}
use Rattle.std.proofs.lemmas.Bool.Decides.{nat_tests}
use Rattle.std.proofs.lemmas.List.{length-append}
use Rattle.std.proofs.lemmas.List.Elements.{recursion_from_All}
use Rattle.std.proofs.lemmas.Fmt.{decimal_by_steps}
use Rattle.sdb_types.specs.Identifier.{is_start, is_identifier}
use Rattle.sdb_model.specs.SqlTokens.{Lexed, keyword_text, keyword_of, sign_text, is_gap, begins, token_at, behind, tokens_from, lexed}
use Rattle.sdb_model.specs.Sql.{Tokens, token_text, sticks_before, sticks_after, more_text, tokens_text, tokens_of, CanSpell, IsWhole, Reads, statement_tokens, statement_text_of}
use Rattle.sdb_sqltext.specs.Types.{Placed, Sign, Statement, Token}
use Rattle.sdb_model.specs.declared.token.Sign.TheVariants as sign
use Rattle.sdb_model.specs.declared.token.Token.TheVariants.{Word, Name, Overlong, Number, Text, Blob, Sign as Mark}
use Rattle.sdb_sqltext.specs.Lexing.{GivesTokens}
use Rattle.sdb_sqltext.specs.Printed.{GivesAll}
use Rattle.sdb_sqltext.specs.declared.lex_fault.LexRefused.{LexRefused}
use Rattle.sdb_sqltext.specs.declared.lex_fault.LexRefused.TheVariants as refused
use Rattle.sdb_sqltext.proofs.Lexing.{gap_turn, token_turn}
use Rattle.sdb_sqltext.proofs.Printed.{clear, Again, keyword_identifier, by_keyword, word_read, name_read, sign_read, number_read, text_read, blob_read, drop_seam, begins_more}
use Rattle.sdb_types.proofs.Public.{by_test}
use Rattle.sdb_model.proofs.Public.{is_bytes}

-- ---- one token

abbrev Follows : Token → List ℕ → Type 0
Follows t rest = (sticks_after t ≡ true) ⊎ (clear rest ≡ true)

must_be_clear : (t : Token) (rest : List ℕ) → sticks_after t ≡ false → Follows t rest → clear rest ≡ true
must_be_clear t rest no_sign (inl h) = absurd cc
must_be_clear t rest no_sign (inr h) = h

read_again : (t : Token) (rest : List ℕ) → CanSpell t → Follows t rest → Again t rest
read_again (Word k) rest fits h = word_read k rest (must_be_clear (Word k) rest refl h)
read_again (Name n) rest fits h = name_read n rest fits (must_be_clear (Name n) rest refl h)
read_again Overlong rest fits h = absurd fits
read_again (Number z) rest fits h = number_read z rest fits (must_be_clear (Number z) rest refl h)
read_again (Text t) rest fits h = text_read t rest fits (must_be_clear (Text t) rest refl h)
read_again (Blob bs) rest fits h = blob_read bs rest (is_bytes bs (recursion_from_All (λ b. b < 256) bs fits)) (must_be_clear (Blob bs) rest refl h)
read_again (Mark s) rest fits h = sign_read s rest h

abbrev solid : ℕ → Bool
solid b = not (is_gap b)

start_solid : (b : ℕ) → is_start b ≡ true → solid b ≡ true
start_solid b h = grind (arith, nat_tests)

identifier_solid : (w : List ℕ) → is_identifier w ≡ true → begins solid w ≡ true
identifier_solid [] h = absurd cc
identifier_solid (b ∷ bs) h = start_solid b (by_test (is_start b) (λ e. e) (λ e. let k = rw e at h in absurd cc))

digit_solid : (d : ℕ) → solid (48 + d) ≡ true
digit_solid d = grind (arith, nat_tests)

decimal_solid : (n : ℕ) → n < 2 ^ 64 → begins solid (decimal n) ≡ true
decimal_solid n lt = decimal_by_steps (λ n ds. begins solid ds ≡ true) (λ n small. digit_solid n) (λ n ds ge h. begins_more solid ds ((48 + n % 10) ∷ []) h) n lt

sign_solid : (s : Sign) → begins solid (sign_text s) ≡ true
sign_solid sign.NotEqual = refl
sign_solid sign.LessOrEqual = refl
sign_solid sign.GreaterOrEqual = refl
sign_solid sign.Less = refl
sign_solid sign.Greater = refl
sign_solid sign.Equal = refl
sign_solid sign.Dot = refl
sign_solid sign.Comma = refl
sign_solid sign.Open = refl
sign_solid sign.Close = refl
sign_solid sign.Star = refl
sign_solid sign.Semicolon = refl

token_solid : (t : Token) → CanSpell t → begins solid (token_text t) ≡ true
token_solid (Word k) fits = identifier_solid (keyword_text k) (keyword_identifier k)
token_solid (Name n) fits = by_keyword (keyword_of n) (λ k e. rw e refl) (λ e. rw e (identifier_solid n fits.0))
token_solid Overlong fits = absurd fits
token_solid (Number (pos n)) fits = decimal_solid n (omega arith)
token_solid (Number (negsuc n)) fits = refl
token_solid (Text t) fits = refl
token_solid (Blob bs) fits = refl
token_solid (Mark s) fits = sign_solid s

no_gap : (b : ℕ) → solid b ≡ true → is_gap b ≡ false
no_gap b h = by_test (is_gap b) (λ e. let k = rw e at h in absurd cc) (λ e. e)

turn_of : (w rest : List ℕ) (place : ℕ) (t : Token) → begins solid w ≡ true → token_at (w ++ rest) ≡ Ok (t, length w) → tokens_from place 0 (w ++ rest) ≡ behind (record { at = place; token = t } ∷ []) (tokens_from (place + length w) 0 rest)
turn_of [] rest place t g e = absurd cc
turn_of (b ∷ bs) rest place t g e =
    let most : length (b ∷ bs) ≤ length (b ∷ (bs ++ rest)) = omega (arith, length-append bs rest) in
    token_turn place b (bs ++ rest) t (length (b ∷ bs)) (no_gap b g) e (omega arith) most
    ∙ ap (λ r. behind (record { at = place; token = t } ∷ []) (tokens_from (place + length (b ∷ bs)) 0 r)) (drop_seam (b ∷ bs) rest)

-- ---- the gap after a token

sticks_clear : (u : Token) (rest : List ℕ) → sticks_before u ≡ true → clear (token_text u ++ rest) ≡ true
sticks_clear (Mark sign.Comma) rest h = refl
sticks_clear (Mark sign.Close) rest h = refl
sticks_clear (Mark sign.Dot) rest h = refl
sticks_clear _ rest h = absurd cc

gap_clear : (behind before : Bool) (text rest : List ℕ) → (before ≡ true → clear (text ++ rest) ≡ true) → (behind ≡ true) ⊎ (clear ((if behind || before then [] else codes " ") ++ text ++ rest) ≡ true)
gap_clear true before text rest h = inl refl
gap_clear false true text rest h = inr (h refl)
gap_clear false false text rest h = inr refl

more_clear : (t : Token) (ts : Tokens) → Follows t (more_text t ts)
more_clear t [] = inr refl
more_clear t (u ∷ us) = gap_clear (sticks_after t) (sticks_before u) (token_text u) (more_text u us) (sticks_clear u (more_text u us))

abbrev gap_len : Bool → ℕ
gap_len true = 0
gap_len false = 1

over_gap : (g : Bool) (place : ℕ) (text rest : List ℕ) → tokens_from place 0 ((if g then [] else codes " ") ++ text ++ rest) ≡ tokens_from (place + gap_len g) 0 (text ++ rest)
over_gap true place text rest = ap (λ p. tokens_from p 0 (text ++ rest)) (let e : place ≡ place + 0 = omega arith in e)
over_gap false place text rest = gap_turn place 32 (text ++ rest) refl

-- ---- all tokens

abbrev AllRead : ℕ → Token → Tokens → Type 0
AllRead place t ts = (ps : List Placed) × (tokens_from place 0 (token_text t ++ more_text t ts) ≡ Ok ps) × (tokens_of ps ≡ t ∷ ts)

all_read : (ts : Tokens) (t : Token) (place : ℕ) → CanSpell t → AllByRecursion CanSpell ts → AllRead place t ts
all_read [] t place fits rest =
    (record { at = place; token = t } ∷ [], turn_of (token_text t) [] place t (token_solid t fits) (read_again t [] fits (inr refl)), refl)
all_read (u ∷ us) t place fits rest =
    let p : Placed = record { at = place; token = t } in
    let first = turn_of (token_text t) (more_text t (u ∷ us)) place t (token_solid t fits) (read_again t (more_text t (u ∷ us)) fits (more_clear t (u ∷ us))) in
    let g = sticks_after t || sticks_before u in
    let next = over_gap g (place + length (token_text t)) (token_text u) (more_text u us) in
    let more = all_read us u (place + length (token_text t) + gap_len g) rest.0 rest.1 in
    (p ∷ more.0, first ∙ ap (behind (p ∷ [])) (next ∙ more.1), ap (λ (ts : Tokens). t ∷ ts) more.2)

pub printed_read : (ts : Tokens) → AllByRecursion CanSpell ts → (ps : List Placed) × (lexed (tokens_text ts) ≡ Ok ps) × (tokens_of ps ≡ ts)
unfolding lexed
printed_read [] fits = ([], refl, refl)
printed_read (t ∷ ts) fits = all_read ts t 0 fits.0 fits.1

ok_is : (ps qs : List Placed) (read : Lexed) → read ≡ Ok ps → read ≡ Ok qs → ps ≡ qs
ok_is ps qs read e f = cc

pub gives_all : (r : Result (List Placed) LexRefused) (read : Lexed) (ps : List Placed) (ts : Tokens) → GivesTokens r read → read ≡ Ok ps → tokens_of ps ≡ ts → GivesAll r ts
gives_all (Ok qs) read ps ts h e is = ap tokens_of (ok_is qs ps read h e) ∙ is
gives_all (Err refused.NoMemory) read ps ts h e is = tt
gives_all (Err (refused.BadToken at)) read ps ts h e is = absurd cc
gives_all (Err (refused.TooWide at)) read ps ts h e is = absurd cc

pub statement_read : (st : Statement) → IsWhole st → AllByRecursion CanSpell (statement_tokens st) → Reads (statement_text_of st) st
statement_read st whole fits =
    let read = printed_read (statement_tokens st) fits in
    (read.0, read.1, whole, inl read.2)
