-- A line is accepted as what it says, or is refused for its cause.
use Rattle.std.proofs.Common.{◌≡◌, ◌⊎◌, inl, inr, ℕ, ◌+◌, ◌<◌, ◌≤◌, Bool, true, false, not, ◌&&◌, List, ◌∷◌, ◌++◌, length, Some, None, Ok, Err, refl, sym, ap, subst, ◌∙◌, arith, cond, codes}
use Rattle.std.specs.Prelude.{Result, nat_le, nat_lt}
use Rattle.std.specs.Option.{option_map_or}
use Rattle.std.specs.Str.{bytes_eq, is_utf8}
use Rattle.std.proofs.lemmas.Bool.Decides.{nat_tests}
use Rattle.sdb_types.proofs.Public.{and_both, and_first, and_second, by_test, is_front, not_true}
use Rattle.sdb_types.specs.NameText.{after_front}
use Rattle.sdb_script.specs.Types.{SchemaFault, Table}
use Rattle.sdb_loader.specs.Described.{catalog_in}
use Rattle.sdb_model.specs.declared.script.Which.TheVariants as which
use Rattle.sdb_model.specs.Form.{is_client_name}
use Rattle.sdb_script.specs.declared.fault.LineFault.TheVariants as fault
use Rattle.sdb_script.specs.declared.fault.LineRefused.{LineRefused}
use Rattle.sdb_script.specs.declared.fault.LineRefused.TheVariants as refused
use Rattle.sdb_script.specs.Lines.{most_line, most_clients, most_statements, most_moves, is_line, turns, turns_of}
use Rattle.sdb_script.specs.Begun.{Draft, LineMeaning, PlaceLine, SchemaOf, ClientOf, StatementOf, Runs, MoveOf, IsSpelledAs, is_first, is_known, may_come, may_be_placed, last_count, MayComeNext, IsCause}
use Rattle.sdb_script.specs.Reading.{move_in, form, with_place, with_words, take_place, with_catalog, take_schema, with_client, take_client, with_text, take_text, run_of, place_or, schema_or, client_or, text_or, take_head, with_move, take_move, take_text_line, read_line_on}
use Rattle.sdb_script.proofs.Pieces.{same_bytes}
use Rattle.sdb_script.proofs.Numerals.{name_no_space, around_again, around_is}
use Rattle.sdb_script.proofs.MoveLines.{move_is, move_again}
use Rattle.sdb_types.specs.NameText.{around}

-- what comes of something that may come next
abbrev pub past : List (List ℕ) → Draft → LineMeaning → Result Draft LineRefused
past stores d (PlaceLine p) = with_place stores d p.ns p.store
past stores d (SchemaOf json) = with_catalog d (catalog_in json)
past stores d (ClientOf name) = with_client d name
past stores d (StatementOf text) = with_text d text
past stores d Runs = Ok (run_of d)
past stores d (MoveOf m) = with_move d m

---- what may come is accepted

head_again : (stores : List (List ℕ)) (d : Draft) (line : List ℕ) → d.ran ≡ false → take_text_line stores d line ≡ take_head stores d line
head_again stores d line e = rw e refl

again : (stores : List (List ℕ)) (d : Draft) (line : List ℕ) (s : LineMeaning) → IsSpelledAs line s → may_come d s ≡ true → take_text_line stores d line ≡ past stores d s
unfolding take_head
again stores d line (PlaceLine p) e h =
    let first = and_first (is_first d) _ h in
    let named = and_second (is_first d) _ h in
    let ran : d.ran ≡ false = not_true d.ran (and_first (not d.ran) _ first) in
    let split : around 32 (p.ns ++ 32 ∷ p.store) ≡ Some (p.ns, p.store) = around_again p.ns p.store (name_no_space p.ns (and_first (is_client_name p.ns) _ named)) in
    head_again stores d line ran ∙ ap (take_head stores d) e ∙ rw (first, split, named) refl
again stores d line (SchemaOf json) e h =
    let ran : d.ran ≡ false = not_true d.ran (and_first (not d.ran) _ h) in
    head_again stores d line ran ∙ ap (take_head stores d) e ∙ rw h refl
again stores d line (ClientOf name) e h =
    let ran : d.ran ≡ false = not_true d.ran (and_first (not d.ran) _ h) in
    head_again stores d line ran ∙ ap (take_head stores d) e ∙ rw (and_second (not d.ran) _ h) refl
again stores d line (StatementOf text) e h =
    let ran : d.ran ≡ false = not_true d.ran (and_first (not d.ran) _ h) in
    head_again stores d line ran ∙ ap (take_head stores d) e ∙ rw (and_second (not d.ran) _ h) refl
again stores d line Runs e h = head_again stores d line (not_true d.ran h) ∙ ap (take_head stores d) e
again stores d line (MoveOf m) e h =
    rw (and_first d.ran _ h, move_again (length d.clients) line m e (and_second d.ran _ h)) refl

---- what is accepted may come, or has no form

-- What comes of a line has no form, or the line says something that may come next.
abbrev FormOr : Draft → List ℕ → Result Draft LineRefused → Type 0
FormOr d line r = (r ≡ form) ⊎ ((s : LineMeaning) × IsSpelledAs line s × (may_come d s ≡ true))

place_said : (stores : List (List ℕ)) (d : Draft) (line words : List ℕ) → d.ran ≡ false → line ≡ codes "place " ++ words → FormOr d line (take_place stores d words)
place_said stores d line words ran e =
    by_test (is_first d)
    (λ first.
    elim (around 32 words) as (λ o. around 32 words ≡ o → FormOr d line (cond (is_first d) (option_map_or (with_words stores d) o form) form)) [
      | Some w ↦ λ q.
          by_test (is_client_name w.0 && is_client_name w.1)
          (λ t. inr (PlaceLine (record { ns = w.0; store = w.1 }), e ∙ ap (λ (x : List ℕ). codes "place " ++ x) (around_is words w q), and_both (is_first d) _ first t))
          (λ t. inl (rw (first, t) refl))
      | None ↦ λ q. inl (rw first refl)
    ] refl)
    (λ t. inl (rw t refl))

place_or_said : (stores : List (List ℕ)) (d : Draft) (line : List ℕ) → d.ran ≡ false → FormOr d line (place_or stores d line)
place_or_said stores d line ran =
    elim (after_front (codes "place ") line) as (λ o. after_front (codes "place ") line ≡ o → FormOr d line (option_map_or (take_place stores d) o form)) [
      | Some words ↦ λ q. place_said stores d line words ran (is_front (codes "place ") line words q)
      | None ↦ λ q. inl refl
    ] refl

schema_or_said : (stores : List (List ℕ)) (d : Draft) (line : List ℕ) → d.ran ≡ false → FormOr d line (schema_or stores d line)
schema_or_said stores d line ran =
    elim (after_front (codes "schema ") line) as (λ o. after_front (codes "schema ") line ≡ o → FormOr d line (option_map_or (take_schema d) o (place_or stores d line))) [
      | Some json ↦ λ q.
          by_test (is_first d)
          (λ t. inr (SchemaOf json, is_front (codes "schema ") line json q, t))
          (λ t. inl (rw t refl))
      | None ↦ λ q. place_or_said stores d line ran
    ] refl

before_run : (d : Draft) (b : Bool) → d.ran ≡ false → b ≡ true → (not d.ran && b) ≡ true
before_run d b ran h = rw (ran, h) refl

client_or_said : (stores : List (List ℕ)) (d : Draft) (line : List ℕ) → d.ran ≡ false → FormOr d line (client_or stores d line)
client_or_said stores d line ran =
    elim (after_front (codes "client ") line) as (λ o. after_front (codes "client ") line ≡ o → FormOr d line (option_map_or (take_client d) o (schema_or stores d line))) [
      | Some name ↦ λ q.
          by_test (is_client_name name && not (is_known d.clients name))
          (λ t. inr (ClientOf name, is_front (codes "client ") line name q, before_run d _ ran t))
          (λ t. inl (rw t refl))
      | None ↦ λ q. schema_or_said stores d line ran
    ] refl

text_or_said : (stores : List (List ℕ)) (d : Draft) (line : List ℕ) → d.ran ≡ false → FormOr d line (text_or stores d line)
text_or_said stores d line ran =
    elim (after_front (codes "  ") line) as (λ o. after_front (codes "  ") line ≡ o → FormOr d line (option_map_or (take_text d) o (client_or stores d line))) [
      | Some text ↦ λ q.
          by_test (nat_lt 0 (length d.clients) && nat_lt 0 (length text))
          (λ t. inr (StatementOf text, is_front (codes "  ") line text q, before_run d _ ran t))
          (λ t. inl (rw t refl))
      | None ↦ λ q. client_or_said stores d line ran
    ] refl

head_said : (stores : List (List ℕ)) (d : Draft) (line : List ℕ) → d.ran ≡ false → FormOr d line (take_head stores d line)
unfolding take_head
head_said stores d line ran =
    by_test (bytes_eq line (codes "run"))
    (λ t. inr (Runs, same_bytes line (codes "run") t, rw ran refl))
    (λ t. rw t (text_or_said stores d line ran))

move_said : (d : Draft) (line : List ℕ) → d.ran ≡ true → FormOr d line (take_move d line)
move_said d line ran =
    elim (move_in (length d.clients) line) as (λ o. move_in (length d.clients) line ≡ o → FormOr d line (option_map_or (with_move d) o form)) [
      | Some m ↦ λ q. let k = move_is (length d.clients) line m q in inr (MoveOf m, k.0, and_both d.ran _ ran k.1)
      | None ↦ λ q. inl refl
    ] refl

run_again : (stores : List (List ℕ)) (d : Draft) (line : List ℕ) → d.ran ≡ true → take_text_line stores d line ≡ take_move d line
run_again stores d line e = rw e refl

said_or_form : (stores : List (List ℕ)) (d : Draft) (line : List ℕ) → FormOr d line (take_text_line stores d line)
said_or_form stores d line =
    by_test d.ran
    (λ t. subst (FormOr d line) (sym (run_again stores d line t)) (move_said d line t))
    (λ t. subst (FormOr d line) (sym (head_again stores d line t)) (head_said stores d line t))

---- what may come isn't refused for its form

form_apart : (stores : List (List ℕ)) (d : Draft) (s : LineMeaning) → past stores d s ≡ form → ⊥
form_apart stores d (PlaceLine p) h = by_test (may_be_placed stores d.places p) (λ t. let k = rw t at h in absurd cc) (λ t. let k = rw t at h in absurd cc)
form_apart stores d (SchemaOf json) h = catalog_apart (catalog_in json) h
  where
    catalog_apart : (r : Result (List Table) SchemaFault) → with_catalog d r ≡ form → ⊥
    catalog_apart (Ok c) q = absurd cc
    catalog_apart (Err f) q = absurd cc
form_apart stores d (ClientOf name) h = by_test (nat_lt (length d.clients) most_clients) (λ t. let k = rw t at h in absurd cc) (λ t. let k = rw t at h in absurd cc)
form_apart stores d (StatementOf text) h = by_test (nat_lt (last_count d.clients) most_statements) (λ t. let k = rw t at h in absurd cc) (λ t. let k = rw t at h in absurd cc)
form_apart stores d Runs h = absurd cc
form_apart stores d (MoveOf m) h = by_test (nat_le (turns_of d.moves + turns m) most_moves) (λ t. let k = rw t at h in absurd cc) (λ t. let k = rw t at h in absurd cc)

nothing_comes : (stores : List (List ℕ)) (d : Draft) (line : List ℕ) → take_text_line stores d line ≡ form → (s : LineMeaning) → IsSpelledAs line s → may_come d s ≡ false
nothing_comes stores d line h s e = by_test (may_come d s) (λ t. absurd (form_apart stores d s (sym (again stores d line s e t) ∙ h))) (λ t. t)

---- a line that is accepted

line_again : (stores : List (List ℕ)) (d : Draft) (line : List ℕ) → is_line line ≡ true → read_line_on stores d line ≡ take_text_line stores d line
unfolding read_line_on
line_again stores d line fit = rw (and_first (nat_le (length line) most_line) _ fit, and_second (nat_le (length line) most_line) _ fit) refl

pub told_again : (stores : List (List ℕ)) (d : Draft) (line : List ℕ) (s : LineMeaning) → MayComeNext d line s → read_line_on stores d line ≡ past stores d s
told_again stores d line s c = line_again stores d line c.0 ∙ again stores d line s c.1 c.2

err_is : (r s : LineRefused) → ◌≡◌ {A = Result Draft LineRefused} (Err r) (Err s) → r ≡ s
err_is r s e = cc

ok_err : {G : Type 0} (d : Draft) (r : LineRefused) → ◌≡◌ {A = Result Draft LineRefused} (Err r) (Ok d) → G
ok_err d r e = absurd cc

err_ok : {G : Type 0} (d : Draft) (r : LineRefused) → ◌≡◌ {A = Result Draft LineRefused} (Ok d) (Err r) → G
err_ok d r e = absurd cc

pub told_is : (stores : List (List ℕ)) (d e : Draft) (line : List ℕ) → read_line_on stores d line ≡ Ok e → (s : LineMeaning) × MayComeNext d line s × (past stores d s ≡ Ok e)
unfolding read_line_on
told_is stores d e line h =
    by_test (nat_le (length line) most_line)
    (λ t.
    by_test (is_utf8 line)
    (λ u.
    let accepted : take_text_line stores d line ≡ Ok e = rw (t, u) at h in
    elim (said_or_form stores d line) [
      | inr s ↦ (s.0, (and_both (nat_le (length line) most_line) (is_utf8 line) t u, s.1, s.2), sym (again stores d line s.0 s.1 s.2) ∙ accepted)
      | inl f ↦ ok_err e (refused.Bad fault.Form) (sym f ∙ accepted)
    ])
    (λ u. ok_err e (refused.Bad fault.Text) (rw (t, u) at h)))
    (λ t. ok_err e (refused.Limit which.LineBytes) (rw t at h))

---- a line that is refused

past_cause : (stores : List (List ℕ)) (d : Draft) (line : List ℕ) (s : LineMeaning) (r : LineRefused) → MayComeNext d line s → past stores d s ≡ Err r → IsCause stores d line r
past_cause stores d line (PlaceLine p) r c h =
    by_test (may_be_placed stores d.places p)
    (λ t. err_ok _ r (rw t at h))
    (λ t. subst (IsCause stores d line) (err_is (refused.Bad fault.Store) r (rw t at h)) (p, c, t))
past_cause stores d line (SchemaOf json) r c h = by_catalog (catalog_in json) refl h
  where
    by_catalog : (o : Result (List Table) SchemaFault) → catalog_in json ≡ o → with_catalog d o ≡ Err r → IsCause stores d line r
    by_catalog (Ok catalog) q k = err_ok _ r k
    by_catalog (Err f) q k = subst (IsCause stores d line) (err_is (refused.Bad (fault.Schema f)) r k) (json, c, q)
past_cause stores d line (ClientOf name) r c h =
    by_test (nat_lt (length d.clients) most_clients)
    (λ t. err_ok _ r (rw t at h))
    (λ t. let full : most_clients ≤ length d.clients = grind (arith, nat_tests) in subst (IsCause stores d line) (err_is (refused.Limit which.Clients) r (rw t at h)) (name, c, full))
past_cause stores d line (StatementOf text) r c h =
    by_test (nat_lt (last_count d.clients) most_statements)
    (λ t. err_ok _ r (rw t at h))
    (λ t. let full : most_statements ≤ last_count d.clients = grind (arith, nat_tests) in subst (IsCause stores d line) (err_is (refused.Limit which.Statements) r (rw t at h)) (text, c, full))
past_cause stores d line Runs r c h = err_ok _ r h
past_cause stores d line (MoveOf m) r c h =
    by_test (nat_le (turns_of d.moves + turns m) most_moves)
    (λ t. err_ok _ r (rw t at h))
    (λ t. let full : most_moves < turns_of d.moves + turns m = grind (arith, nat_tests) in subst (IsCause stores d line) (err_is (refused.Limit which.Moves) r (rw t at h)) (m, c, full))

pub cause_is : (stores : List (List ℕ)) (d : Draft) (line : List ℕ) (r : LineRefused) → read_line_on stores d line ≡ Err r → IsCause stores d line r
unfolding read_line_on
cause_is stores d line r h =
    by_test (nat_le (length line) most_line)
    (λ t.
    let short : length line ≤ most_line = grind (arith, nat_tests) in
    by_test (is_utf8 line)
    (λ u.
    let accepted : take_text_line stores d line ≡ Err r = rw (t, u) at h in
    let fit : is_line line ≡ true = and_both (nat_le (length line) most_line) (is_utf8 line) t u in
    elim (said_or_form stores d line) [
      | inr s ↦ past_cause stores d line s.0 r (fit, s.1, s.2) (sym (again stores d line s.0 s.1 s.2) ∙ accepted)
      | inl f ↦ subst (IsCause stores d line) (err_is (refused.Bad fault.Form) r (sym f ∙ accepted)) (fit, nothing_comes stores d line f)
    ])
    (λ u. subst (IsCause stores d line) (err_is (refused.Bad fault.Text) r (rw (t, u) at h)) (short, u)))
    (λ t. let long : most_line < length line = grind (arith, nat_tests) in subst (IsCause stores d line) (err_is (refused.Limit which.LineBytes) r (rw t at h)) long)

no_form_again : (stores : List (List ℕ)) (d : Draft) (line : List ℕ) → is_line line ≡ true → ((s : LineMeaning) → IsSpelledAs line s → may_come d s ≡ false) → read_line_on stores d line ≡ form
no_form_again stores d line fit h =
    elim (said_or_form stores d line) [
      | inr s ↦ absurd (let k : true ≡ false = sym s.2 ∙ h s.0 s.1 in cc)
      | inl f ↦ line_again stores d line fit ∙ f
    ]

pub cause_again : (stores : List (List ℕ)) (d : Draft) (line : List ℕ) (r : LineRefused) → IsCause stores d line r → read_line_on stores d line ≡ Err r
unfolding read_line_on
cause_again stores d line (refused.Limit which.LineBytes) h = let t : nat_le (length line) most_line ≡ false = grind (arith, nat_tests) in rw t refl
cause_again stores d line (refused.Bad fault.Text) h = let t : nat_le (length line) most_line ≡ true = grind (arith, nat_tests) in rw (t, h.1) refl
cause_again stores d line (refused.Bad fault.Form) h = no_form_again stores d line h.0 h.1
cause_again stores d line (refused.Bad fault.Store) h = told_again stores d line (PlaceLine h.0) h.1 ∙ rw h.2 refl
cause_again stores d line (refused.Bad (fault.Schema f)) h = told_again stores d line (SchemaOf h.0) h.1 ∙ ap (with_catalog d) h.2
cause_again stores d line (refused.Limit which.Clients) h =
    let t : nat_lt (length d.clients) most_clients ≡ false = grind (arith, nat_tests) in
    told_again stores d line (ClientOf h.0) h.1 ∙ rw t refl
cause_again stores d line (refused.Limit which.Statements) h =
    let t : nat_lt (last_count d.clients) most_statements ≡ false = grind (arith, nat_tests) in
    told_again stores d line (StatementOf h.0) h.1 ∙ rw t refl
cause_again stores d line (refused.Limit which.Moves) h =
    let t : nat_le (turns_of d.moves + turns h.0) most_moves ≡ false = grind (arith, nat_tests) in
    told_again stores d line (MoveOf h.0) h.1 ∙ rw t refl
cause_again stores d line (refused.Bad fault.Missing) h = absurd h
cause_again stores d line (refused.Limit which.InputBytes) h = absurd h
cause_again stores d line refused.NoMemory h = absurd h
