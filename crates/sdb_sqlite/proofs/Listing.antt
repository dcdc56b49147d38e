-- The records that rows give, one after another.
use Rattle.std.proofs.Common.{◌≡◌, inl, inr, List, [], ◌∷◌, ◌++◌, Ok, Err, Result, refl, sym, ap, ◌∙◌, append-nil, append_assoc}
use Rattle.sqlite.specs.Order.{Row}
use Rattle.sdb_sqlite.specs.Types.{Record, Span}
use Rattle.sdb_sqlite.specs.declared.refused.Stopped.{Stopped}
use Rattle.sdb_sqlite.specs.declared.refused.Stopped.TheVariants as stopped
use Rattle.sdb_sqlite.specs.Asked.{IsDue, row_record, then_records, rows_records}

-- records, and what follows them
abbrev pub onto : List Record → Result (List Record) Stopped → Result (List Record) Stopped
onto xs (Ok ys) = Ok (xs ++ ys)
onto xs (Err s) = Err s

pub onto-nil : (r : Result (List Record) Stopped) → onto [] r ≡ r
onto-nil (Ok ys) = refl
onto-nil (Err s) = refl

pub onto-one : (xs : List Record) (r : Record) (rest : Result (List Record) Stopped) → onto xs (then_records (Ok r) rest) ≡ onto (xs ++ r ∷ []) rest
onto-one xs r (Ok ys) = ap Ok (sym (append_assoc xs (r ∷ []) ys))
onto-one xs r (Err s) = refl

due_ok : (due : Result Record Stopped) (r : Record) → IsDue due (Ok r) → due ≡ Ok r
due_ok due r (inl e) = sym e
due_ok due r (inr e) = absurd cc

-- one more
pub one_more : (span : Span) (xs : List Record) (row : Row) (r : Record) (rows left more : List Row) → left ≡ row ∷ more → IsDue (row_record span row) (Ok r) → onto xs (rows_records span left) ≡ rows_records span rows
    → onto (xs ++ r ∷ []) (rows_records span more) ≡ rows_records span rows
one_more span xs row r rows left more next due answered =
    sym (onto-one xs r (rows_records span more))
    ∙ ap (λ (d : Result Record Stopped). onto xs (then_records d (rows_records span more))) (sym (due_ok (row_record span row) r due))
    ∙ ap (λ ls. onto xs (rows_records span ls)) (sym next) ∙ answered

-- all of them
pub all_read : (span : Span) (xs : List Record) (rows left : List Row) → left ≡ [] → onto xs (rows_records span left) ≡ rows_records span rows → IsDue (rows_records span rows) (Ok xs)
all_read span xs rows left none answered = inl (ap Ok (sym (append-nil xs)) ∙ ap (λ ls. onto xs (rows_records span ls)) (sym none) ∙ answered)

-- the first that gives none
pub one_refused : (span : Span) (xs : List Record) (row : Row) (s : Stopped) (rows left more : List Row) → left ≡ row ∷ more → IsDue (row_record span row) (Err s) → onto xs (rows_records span left) ≡ rows_records span rows
    → IsDue (rows_records span rows) (Err s)
one_refused span xs row s rows left more next (inl e) answered =
    inl (ap (λ (d : Result Record Stopped). onto xs (then_records d (rows_records span more))) e ∙ ap (λ ls. onto xs (rows_records span ls)) (sym next) ∙ answered)
one_refused span xs row s rows left more next (inr e) answered = inr (let same : s ≡ stopped.NoMemory = cc in ap Err same)
