-- The texts of the statements of a bench.
use Rattle.std.proofs.Common.{◌≡◌, ℕ, List, [], ◌∷◌, ◌++◌, codes, refl, sym, ◌∙◌, ap, append-nil, arith}
use Rattle.std.specs.Prelude.{decimal}
use Rattle.std.proofs.lemmas.Fmt.{decimal_digit}
use Rattle.sdb_model.specs.SqlTokens.{keyword_of}
use Rattle.sdb_model.specs.Sql.{statement_text_of}
use Rattle.sdb_bench.specs.declared.side.Side.{Side}
use Rattle.sdb_bench.specs.declared.side.Side.TheVariants.{Left, Right}
use Rattle.sdb_bench.specs.Setup.{insert_of, namespace_of, update_of}

insert_form : List ℕ → ℕ → ℕ → List ℕ → List ℕ
insert_form ns p n zero_text = codes "INSERT INTO " ++ (ns ++ (codes ".cell (p, n, v) VALUES (" ++ (decimal p ++ (codes ", " ++ (decimal n ++ (codes ", " ++ (zero_text ++ codes ")")))))))

insert_at : (side : Side) (p n : ℕ) → insert_form (namespace_of side) p n (decimal 0) ≡ statement_text_of (insert_of side p n)
unfolding keyword_of insert_form
insert_at Left p n = refl
insert_at Right p n = refl

pub insert_spelled : (side : Side) (p n : ℕ) (ns : List ℕ) → ns ≡ namespace_of side
    → codes "INSERT INTO " ++ (ns ++ (codes ".cell (p, n, v) VALUES (" ++ (decimal p ++ (codes ", " ++ (decimal n ++ codes ", 0)"))))) ≡ statement_text_of (insert_of side p n)
unfolding insert_form
insert_spelled side p n ns e =
    let digit : decimal 0 ≡ 48 ∷ [] = decimal_digit 0 (omega arith) in
    ap (λ (name : List ℕ). insert_form name p n (48 ∷ [])) e ∙ ap (insert_form (namespace_of side) p n) (sym digit) ∙ insert_at side p n

update_form : List ℕ → List ℕ → ℕ → List ℕ
update_form ns p_text v = codes "UPDATE " ++ (ns ++ (codes ".cell SET v = " ++ (decimal v ++ (codes " WHERE p = " ++ p_text))))

update_at : (side : Side) (p v : ℕ) → update_form (namespace_of side) (decimal p ++ []) v ≡ statement_text_of (update_of side p v)
unfolding keyword_of update_form
update_at Left p v = refl
update_at Right p v = refl

pub update_spelled : (side : Side) (p v : ℕ) (ns : List ℕ) → ns ≡ namespace_of side
    → codes "UPDATE " ++ (ns ++ (codes ".cell SET v = " ++ (decimal v ++ (codes " WHERE p = " ++ decimal p)))) ≡ statement_text_of (update_of side p v)
unfolding update_form
update_spelled side p v ns e =
    ap (λ (name : List ℕ). update_form name (decimal p) v) e ∙ ap (λ (text : List ℕ). update_form (namespace_of side) text v) (sym (append-nil (decimal p))) ∙ update_at side p v
