-- The lines of a script that has begun are accepted one by one.
use Rattle.std.proofs.Common.{◌≡◌, ◌≢◌, ℕ, ◌+◌, ◌<◌, ◌≤◌, Bool, true, false, not, List, [], ◌∷◌, ◌++◌, length, Ok, refl, sym, ap, subst, ◌∙◌, append_assoc, append-nil, arith, map, flat_map, codes}
use Rattle.std.specs.Prelude.{Result, nat_le, nat_lt, All, Contains}
use Rattle.std.specs.List.{list_all}
use Rattle.std.specs.Str.{bytes_eq}
use Rattle.std.proofs.lemmas.Bool.Decides.{nat_tests}
use Rattle.std.proofs.lemmas.List.{length-append}
use Rattle.std.proofs.lemmas.List.Folds.{list_all-append}
use Rattle.std.proofs.lemmas.List.Sums.{sum_by-append}
use Rattle.sdb_types.proofs.Public.{and_both, and_first, and_second, by_test}
use Rattle.sdb_script.specs.Types.{Move, Place, ScriptClient, Table}
use Rattle.sdb_model.specs.Form.{client_line, is_client_name}
use Rattle.sdb_script.specs.declared.fault.LineRefused.{LineRefused}
use Rattle.sdb_script.specs.Lines.{most_clients, most_statements, most_moves, place_line, schema_line, text_line, client_lines, is_line, is_move, turns, turns_of}
use Rattle.sdb_script.specs.Begun.{Draft, nothing, ArePlaces, IsSchema, IsClient, AreClients, AreMoves, AreMoveTexts, run_lines, IsBegun, LineMeaning, PlaceLine, SchemaOf, ClientOf, StatementOf, Runs, MoveOf, is_known, may_be_placed, last_count, MayComeNext}
use Rattle.sdb_script.specs.Reading.{with_catalog, new_client, read_next, read_from}
use Rattle.sdb_script.proofs.Pieces.{same_bytes}
use Rattle.sdb_script.proofs.BlockLaws.{add_last, count_last}
use Rattle.sdb_script.proofs.Apart.{new_again, attached_again, at_next}
use Rattle.sdb_script.proofs.Steps.{past, told_again}

abbrev Lines : Type 0
Lines = List (List ℕ)

---- lines that are accepted

-- These lines lead from what was said before to what is said with them.
abbrev pub Goes : Lines → Draft → Lines → Draft → Type 0
Goes stores d lines e = (n : ℕ) (rest : Lines) → read_from stores n d (lines ++ rest) ≡ read_from stores (n + length lines) e rest

goes_none : (stores : Lines) (d : Draft) → Goes stores d [] d
goes_none stores d n rest = let e : n ≡ n + 0 = omega arith in ap (λ (m : ℕ). read_from stores m d rest) e

goes_one : (stores : Lines) (d e : Draft) (line : List ℕ) (s : LineMeaning) → MayComeNext d line s → past stores d s ≡ Ok e → Goes stores d (line ∷ []) e
goes_one stores d e line s c h n rest = ap (λ (r : Result Draft LineRefused). read_next n r (λ x. read_from stores (n + 1) x rest)) (told_again stores d line s c ∙ h)

goes_then : (stores : Lines) (d e f : Draft) (xs ys : Lines) → Goes stores d xs e → Goes stores e ys f → Goes stores d (xs ++ ys) f
goes_then stores d e f xs ys g h n rest =
    let count : n + length xs + length ys ≡ n + length (xs ++ ys) = omega (arith, length-append xs ys) in
    ap (read_from stores n d) (append_assoc xs ys rest) ∙ g n (ys ++ rest) ∙ h (n + length xs) rest ∙ ap (λ (m : ℕ). read_from stores m f rest) count

fit_first : (xs ys : Lines) → list_all is_line (xs ++ ys) ≡ true → list_all is_line xs ≡ true
fit_first xs ys h = and_first (list_all is_line xs) (list_all is_line ys) (sym (list_all-append is_line xs ys) ∙ h)

fit_second : (xs ys : Lines) → list_all is_line (xs ++ ys) ≡ true → list_all is_line ys ≡ true
fit_second xs ys h = and_second (list_all is_line xs) (list_all is_line ys) (sym (list_all-append is_line xs ys) ∙ h)

---- places

abbrev with_places : List Place → Draft
with_places ps = record { places = ps; described = false; catalog = []; clients = []; ran = false; moves = [] }

differs : (a b : List ℕ) → a ≢ b → not (bytes_eq a b) ≡ true
differs a b h = by_test (bytes_eq a b) (λ t. absurd (h (same_bytes a b t))) (λ t. rw t refl)

isnt : (b : Bool) → b ≡ false → not b ≡ true
isnt b h = rw h refl

agrees : (stores : Lines) (done : List Place) (p : Place) (ps : List Place) → ArePlaces stores (done ++ p ∷ ps) → may_be_placed stores done p ≡ true
agrees stores done p ps a =
    and_both (not (bytes_eq p.ns (codes "scalardb"))) _ (differs p.ns (codes "scalardb") (at_next (λ q. q.ns ≢ codes "scalardb") done p ps a.free))
    (and_both _ _ (attached_again stores p.store (at_next (λ q. Contains stores q.store) done p ps a.attached)) (isnt _ (new_again (λ (q : Place). q.ns) done p ps a.once)))

places_go : (stores : Lines) (done ps : List Place) → ArePlaces stores (done ++ ps) → list_all is_line (map place_line ps) ≡ true → Goes stores (with_places done) (map place_line ps) (with_places (done ++ ps))
places_go stores done [] a fit = subst (λ (x : List Place). Goes stores (with_places done) [] (with_places x)) (sym (append-nil done)) (goes_none stores (with_places done))
places_go stores done (p ∷ ps) a fit =
    let named = at_next (λ q. (is_client_name q.ns ≡ true) × (is_client_name q.store ≡ true)) done p ps a.named in
    let one : Goes stores (with_places done) (place_line p ∷ []) (with_places (done ++ p ∷ [])) =
    goes_one stores (with_places done) (with_places (done ++ p ∷ [])) (place_line p) (PlaceLine p)
    (and_first (is_line (place_line p)) _ fit, refl, and_both (is_client_name p.ns) (is_client_name p.store) named.0 named.1)
    (rw (agrees stores done p ps a) refl) in
    let split : (done ++ p ∷ []) ++ ps ≡ done ++ p ∷ ps = append_assoc done (p ∷ []) ps in
    subst (λ (x : List Place). Goes stores (with_places done) (map place_line (p ∷ ps)) (with_places x)) split
    (goes_then stores (with_places done) (with_places (done ++ p ∷ [])) (with_places ((done ++ p ∷ []) ++ ps)) (place_line p ∷ []) (map place_line ps) one
    (places_go stores (done ++ p ∷ []) ps (subst (ArePlaces stores) (sym split) a) (and_second (is_line (place_line p)) _ fit)))

---- the schema

schema_goes : (stores : Lines) (ps : List Place) (described : Bool) (catalog : List Table) (schema : Lines) → IsSchema described catalog schema → list_all is_line schema ≡ true
    → Goes stores (with_places ps) schema (record { places = ps; described = described; catalog = catalog; clients = []; ran = false; moves = [] })
schema_goes stores ps false catalog schema s fit =
    subst (λ (x : Lines). Goes stores (with_places ps) x (record { places = ps; described = false; catalog = catalog; clients = []; ran = false; moves = [] })) (sym s.0)
    (subst (λ (c : List Table). Goes stores (with_places ps) [] (record { places = ps; described = false; catalog = c; clients = []; ran = false; moves = [] })) (sym s.1) (goes_none stores (with_places ps)))
schema_goes stores ps true catalog schema s fit =
    let one : list_all is_line (schema_line s.0 ∷ []) ≡ true = subst (λ (x : Lines). list_all is_line x ≡ true) s.1 fit in
    subst (λ (x : Lines). Goes stores (with_places ps) x (record { places = ps; described = true; catalog = catalog; clients = []; ran = false; moves = [] })) (sym s.1)
    (goes_one stores (with_places ps) (record { places = ps; described = true; catalog = catalog; clients = []; ran = false; moves = [] }) (schema_line s.0) (SchemaOf s.0)
    (and_first (is_line (schema_line s.0)) true one, refl, refl) (ap (with_catalog (with_places ps)) s.2))

---- clients

abbrev with_clients : List Place → Bool → List Table → List ScriptClient → Draft
with_clients ps described catalog cs = record { places = ps; described = described; catalog = catalog; clients = cs; ran = false; moves = [] }

abbrev saying : List ℕ → Lines → ScriptClient
saying name texts = record { name = name; statements = texts }

texts_go : (stores : Lines) (ps : List Place) (described : Bool) (catalog : List Table) (done : List ScriptClient) (name : List ℕ) (said texts : Lines) → All (λ t. 0 < length t) (said ++ texts) → length (said ++ texts) ≤ most_statements → list_all is_line (map text_line texts) ≡ true
    → Goes stores (with_clients ps described catalog (done ++ saying name said ∷ [])) (map text_line texts) (with_clients ps described catalog (done ++ saying name (said ++ texts) ∷ []))
texts_go stores ps described catalog done name said [] some few fit =
    subst (λ (x : Lines). Goes stores (with_clients ps described catalog (done ++ saying name said ∷ [])) [] (with_clients ps described catalog (done ++ saying name x ∷ []))) (sym (append-nil said)) (goes_none stores _)
texts_go stores ps described catalog done name said (t ∷ texts) some few fit =
    let d = with_clients ps described catalog (done ++ saying name said ∷ []) in
    let e = with_clients ps described catalog (done ++ saying name (said ++ t ∷ []) ∷ []) in
    let long : 0 < length t = at_next (λ x. 0 < length x) said t texts some in
    let full : nat_lt 0 (length t) ≡ true = grind (arith, nat_tests) in
    let one : nat_lt 0 (length (done ++ saying name said ∷ [])) ≡ true = grind (arith, nat_tests, length-append done (saying name said ∷ [])) in
    let fewer : length said < most_statements = omega (arith, few, length-append said (t ∷ texts)) in
    let room : nat_lt (last_count (done ++ saying name said ∷ [])) most_statements ≡ true = grind (arith, nat_tests, count_last done (saying name said)) in
    let step : Goes stores d (text_line t ∷ []) e =
    goes_one stores d e (text_line t) (StatementOf t)
    (and_first (is_line (text_line t)) _ fit, refl, and_both (nat_lt 0 (length d.clients)) (nat_lt 0 (length t)) one full)
    (rw room (ap (λ (x : List ScriptClient). Ok (with_clients ps described catalog x)) (add_last done (saying name said) t))) in
    let split : (said ++ t ∷ []) ++ texts ≡ said ++ t ∷ texts = append_assoc said (t ∷ []) texts in
    subst (λ (x : Lines). Goes stores d (map text_line (t ∷ texts)) (with_clients ps described catalog (done ++ saying name x ∷ []))) split
    (goes_then stores d e (with_clients ps described catalog (done ++ saying name ((said ++ t ∷ []) ++ texts) ∷ [])) (text_line t ∷ []) (map text_line texts) step
    (texts_go stores ps described catalog done name (said ++ t ∷ []) texts (subst (All (λ x. 0 < length x)) (sym split) some) (subst (λ (x : Lines). length x ≤ most_statements) (sym split) few) (and_second (is_line (text_line t)) _ fit)))

client_goes : (stores : Lines) (ps : List Place) (described : Bool) (catalog : List Table) (done : List ScriptClient) (c : ScriptClient) → IsClient c → is_known done c.name ≡ false → length done < most_clients → list_all is_line (client_lines c) ≡ true
    → Goes stores (with_clients ps described catalog done) (client_lines c) (with_clients ps described catalog (done ++ c ∷ []))
client_goes stores ps described catalog done c is new few fit =
    let d = with_clients ps described catalog done in
    let e = with_clients ps described catalog (done ++ new_client c.name ∷ []) in
    let room : nat_lt (length done) most_clients ≡ true = grind (arith, nat_tests) in
    let step : Goes stores d (client_line c.name ∷ []) e =
    goes_one stores d e (client_line c.name) (ClientOf c.name)
    (and_first (is_line (client_line c.name)) _ fit, refl, and_both (is_client_name c.name) _ is.named (isnt _ new)) (rw room refl) in
    goes_then stores d e (with_clients ps described catalog (done ++ c ∷ [])) (client_line c.name ∷ []) (map text_line c.statements) step
    (texts_go stores ps described catalog done c.name [] c.statements is.nonempty is.few (and_second (is_line (client_line c.name)) _ fit))

clients_go : (stores : Lines) (ps : List Place) (described : Bool) (catalog : List Table) (done cs : List ScriptClient) → AreClients (done ++ cs) → list_all is_line (flat_map client_lines cs) ≡ true
    → Goes stores (with_clients ps described catalog done) (flat_map client_lines cs) (with_clients ps described catalog (done ++ cs))
clients_go stores ps described catalog done [] a fit =
    subst (λ (x : List ScriptClient). Goes stores (with_clients ps described catalog done) [] (with_clients ps described catalog x)) (sym (append-nil done)) (goes_none stores _)
clients_go stores ps described catalog done (c ∷ cs) a fit =
    let few : length done < most_clients = omega (arith, a.few, length-append done (c ∷ cs)) in
    let step = client_goes stores ps described catalog done c (at_next IsClient done c cs a.each) (new_again (λ (x : ScriptClient). x.name) done c cs a.once) few (fit_first (client_lines c) (flat_map client_lines cs) fit) in
    let split : (done ++ c ∷ []) ++ cs ≡ done ++ c ∷ cs = append_assoc done (c ∷ []) cs in
    subst (λ (x : List ScriptClient). Goes stores (with_clients ps described catalog done) (flat_map client_lines (c ∷ cs)) (with_clients ps described catalog x)) split
    (goes_then stores (with_clients ps described catalog done) (with_clients ps described catalog (done ++ c ∷ [])) (with_clients ps described catalog ((done ++ c ∷ []) ++ cs)) (client_lines c) (flat_map client_lines cs) step
    (clients_go stores ps described catalog (done ++ c ∷ []) cs (subst AreClients (sym split) a) (fit_second (client_lines c) (flat_map client_lines cs) fit)))

---- run, and moves

abbrev with_moves : List Place → Bool → List Table → List ScriptClient → List Move → Draft
with_moves ps described catalog cs ms = record { places = ps; described = described; catalog = catalog; clients = cs; ran = true; moves = ms }

moves_go : (stores : Lines) (ps : List Place) (described : Bool) (catalog : List Table) (cs : List ScriptClient) (done : List Move) (lines : Lines) (ms : List Move) → AreMoveTexts lines ms → All (λ m. is_move (length cs) m ≡ true) (done ++ ms) → turns_of (done ++ ms) ≤ most_moves → list_all is_line lines ≡ true
    → Goes stores (with_moves ps described catalog cs done) lines (with_moves ps described catalog cs (done ++ ms))
moves_go stores ps described catalog cs done [] [] spelled are few fit =
    subst (λ (x : List Move). Goes stores (with_moves ps described catalog cs done) [] (with_moves ps described catalog cs x)) (sym (append-nil done)) (goes_none stores _)
moves_go stores ps described catalog cs done (line ∷ lines) (m ∷ ms) spelled are few fit =
    let d = with_moves ps described catalog cs done in
    let e = with_moves ps described catalog cs (done ++ m ∷ []) in
    let is : is_move (length cs) m ≡ true = at_next (λ (x : Move). is_move (length cs) x ≡ true) done m ms are in
    let split : (done ++ m ∷ []) ++ ms ≡ done ++ m ∷ ms = append_assoc done (m ∷ []) ms in
    let few_split : turns_of ((done ++ m ∷ []) ++ ms) ≤ most_moves = subst (λ (x : List Move). turns_of x ≤ most_moves) (sym split) few in
    let count : turns_of done + turns m ≤ most_moves = omega (arith, few_split, sum_by-append turns (done ++ m ∷ []) ms, sum_by-append turns done (m ∷ [])) in
    let room : nat_le (turns_of done + turns m) most_moves ≡ true = grind (arith, nat_tests) in
    let step : Goes stores d (line ∷ []) e = goes_one stores d e line (MoveOf m) (and_first (is_line line) _ fit, spelled.0, is) (rw room refl) in
    subst (λ (x : List Move). Goes stores d (line ∷ lines) (with_moves ps described catalog cs x)) split
    (goes_then stores d e (with_moves ps described catalog cs ((done ++ m ∷ []) ++ ms)) (line ∷ []) lines step
    (moves_go stores ps described catalog cs (done ++ m ∷ []) lines ms spelled.1 (subst (All (λ (x : Move). is_move (length cs) x ≡ true)) (sym split) are) few_split (and_second (is_line line) _ fit)))
moves_go stores ps described catalog cs done [] (m ∷ ms) spelled are few fit = absurd spelled
moves_go stores ps described catalog cs done (line ∷ lines) [] spelled are few fit = absurd spelled

run_goes : (stores : Lines) (ps : List Place) (described : Bool) (catalog : List Table) (cs : List ScriptClient) (ran : Bool) (lines : Lines) (ms : List Move) → AreMoveTexts lines ms → AreMoves ran (length cs) ms → list_all is_line (run_lines ran ++ lines) ≡ true
    → Goes stores (with_clients ps described catalog cs) (run_lines ran ++ lines) (record { places = ps; described = described; catalog = catalog; clients = cs; ran = ran; moves = ms })
run_goes stores ps described catalog cs false [] ms spelled are fit =
    subst (λ (x : List Move). Goes stores (with_clients ps described catalog cs) [] (record { places = ps; described = described; catalog = catalog; clients = cs; ran = false; moves = x })) (sym are) (goes_none stores _)
run_goes stores ps described catalog cs false (line ∷ lines) ms spelled are fit = absurd (subst (AreMoveTexts (line ∷ lines)) are spelled)
run_goes stores ps described catalog cs true lines ms spelled are fit =
    let step : Goes stores (with_clients ps described catalog cs) (codes "run" ∷ []) (with_moves ps described catalog cs []) =
    goes_one stores (with_clients ps described catalog cs) (with_moves ps described catalog cs []) (codes "run") Runs (and_first (is_line (codes "run")) _ fit, refl, refl) refl in
    goes_then stores (with_clients ps described catalog cs) (with_moves ps described catalog cs []) (with_moves ps described catalog cs ms) (codes "run" ∷ []) lines step
    (moves_go stores ps described catalog cs [] lines ms spelled are.0 are.1 (and_second (is_line (codes "run")) _ fit))

---- all of them

parts_go : (stores : Lines) (lines : Lines) (ps : List Place) (described : Bool) (catalog : List Table) (cs : List ScriptClient) (ran : Bool) (ms : List Move)
    → IsBegun stores lines (record { places = ps; described = described; catalog = catalog; clients = cs; ran = ran; moves = ms })
    → Goes stores nothing lines (record { places = ps; described = described; catalog = catalog; clients = cs; ran = ran; moves = ms })
parts_go stores lines ps described catalog cs ran ms st =
    let last = run_lines ran ++ st.move_lines in
    let middle = flat_map client_lines cs ++ last in
    let behind = st.schema ++ middle in
    let whole : Draft = record { places = ps; described = described; catalog = catalog; clients = cs; ran = ran; moves = ms } in
    let fit : list_all is_line (map place_line ps ++ behind) ≡ true = subst (λ (x : Lines). list_all is_line x ≡ true) st.order st.fit in
    let fit_behind = fit_second (map place_line ps) behind fit in
    let fit_middle = fit_second st.schema middle fit_behind in
    subst (λ (x : Lines). Goes stores nothing x whole) (sym st.order)
    (goes_then stores nothing (with_places ps) whole (map place_line ps) behind (places_go stores [] ps st.placed (fit_first (map place_line ps) behind fit))
    (goes_then stores (with_places ps) (with_clients ps described catalog []) whole st.schema middle (schema_goes stores ps described catalog st.schema st.described (fit_first st.schema middle fit_behind))
    (goes_then stores (with_clients ps described catalog []) (with_clients ps described catalog cs) whole (flat_map client_lines cs) last (clients_go stores ps described catalog [] cs st.clients (fit_first (flat_map client_lines cs) last fit_middle))
    (run_goes stores ps described catalog cs ran st.move_lines ms st.spelled st.moves (fit_second (flat_map client_lines cs) last fit_middle)))))

-- The lines of a script that has begun are accepted, and what they say is what was said.
pub begun_goes : (stores : Lines) (lines : Lines) (d : Draft) → IsBegun stores lines d → Goes stores nothing lines d
begun_goes stores lines d st = parts_go stores lines d.places d.described d.catalog d.clients d.ran d.moves st
