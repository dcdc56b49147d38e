-- With a line that may come, the beginning of a script is one still.
use Rattle.std.proofs.Common.{◌≡◌, ◌≢◌, ℕ, ◌+◌, ◌<◌, ◌≤◌, ◌==◌, Bool, true, false, not, ◌&&◌, List, [], ◌∷◌, ◌++◌, length, Ok, Err, refl, sym, ap, subst, ◌∙◌, append_assoc, append-nil, arith, map, flat_map, codes}
use Rattle.std.specs.Prelude.{Result, nat_le, nat_lt, All, AllPairs, Contains}
use Rattle.std.specs.List.{list_all}
use Rattle.std.specs.Str.{bytes_eq}
use Rattle.std.proofs.lemmas.Bool.Decides.{nat_tests}
use Rattle.std.proofs.lemmas.List.{map-append, length-append}
use Rattle.std.proofs.lemmas.List.Concat.{flat_map-append}
use Rattle.std.proofs.lemmas.List.Elements.{All-nil, All-cons, All-head, All-tail, All-push}
use Rattle.std.proofs.lemmas.List.Folds.{list_all-append}
use Rattle.std.proofs.lemmas.List.Sums.{sum_by_push}
use Rattle.sdb_types.proofs.Public.{and_first, and_second, by_test, not_true}
use Rattle.sdb_script.specs.Types.{Move, Place, SchemaFault, ScriptClient, Table}
use Rattle.sdb_loader.specs.Described.{catalog_in}
use Rattle.sdb_model.specs.Form.{client_line, is_client_name}
use Rattle.sdb_script.specs.declared.fault.LineRefused.{LineRefused}
use Rattle.sdb_script.specs.Lines.{most_clients, most_statements, most_moves, place_line, schema_line, text_line, client_lines, IsMoveText, is_line, is_move, turns, turns_of}
use Rattle.sdb_script.specs.Begun.{Draft, nothing, ArePlaces, IsClient, AreMoves, AreMoveTexts, IsBegun, LineMeaning, PlaceLine, SchemaOf, ClientOf, StatementOf, Runs, MoveOf, is_first, is_known, is_placed, is_attached, may_be_placed, last_count, MayComeNext}
use Rattle.sdb_script.specs.Reading.{with_catalog, new_client, with_statement, add_text}
use Rattle.sdb_script.proofs.Pieces.{itself}
use Rattle.sdb_script.proofs.Apart.{none_apart, more_apart, attached_of}
use Rattle.sdb_script.proofs.Steps.{past}

abbrev Lines : Type 0
Lines = List (List ℕ)

ok_is : {d e : Draft} → ◌≡◌ {A = Result Draft LineRefused} (Ok d) (Ok e) → d ≡ e
ok_is h = cc

err_ok : {G : Type 0} (r : LineRefused) (e : Draft) → ◌≡◌ {A = Result Draft LineRefused} (Err r) (Ok e) → G
err_ok r e h = absurd cc

not_so : (b : Bool) → (not b && false) ≡ true → ⊥
not_so true h = cc
not_so false h = cc

not_first : (b : Bool) (c : ScriptClient) (cs : List ScriptClient) → (not b && (not false && length (c ∷ cs) == 0)) ≡ true → ⊥
not_first b c cs h = let more : (length (c ∷ cs) == 0) ≡ false = grind (arith, nat_tests) in not_so b (rw more at h)

---- the beginning

pub none_begun : (stores : Lines) → IsBegun stores [] nothing
none_begun stores = record {
  schema = [];
  order = refl;
  fit = refl;
  placed = record {
    named = All-nil (λ p. (is_client_name p.ns ≡ true) × (is_client_name p.store ≡ true));
    free = All-nil (λ p. p.ns ≢ codes "scalardb");
    once = none_apart;
    attached = All-nil (λ p. Contains stores p.store);
  };
  described = (refl, refl);
  clients = record { each = All-nil IsClient; once = none_apart; few = omega arith };
  moves = refl;
  move_lines = [];
  spelled = tt;
}

---- the lines of moves

none_written : (lines : Lines) (ms : List Move) → ms ≡ [] → AreMoveTexts lines ms → lines ≡ []
none_written [] ms e h = refl
none_written (l ∷ ls) ms e h = absurd (subst (AreMoveTexts (l ∷ ls)) e h)

spelled_more : (lines : Lines) (ms : List Move) (line : List ℕ) (m : Move) → AreMoveTexts lines ms → IsMoveText line m → AreMoveTexts (lines ++ line ∷ []) (ms ++ m ∷ [])
spelled_more [] [] line m h k = (k, tt)
spelled_more (l ∷ ls) (n ∷ ns) line m h k = (h.0, spelled_more ls ns line m h.1 k)
spelled_more [] (n ∷ ns) line m h k = absurd h
spelled_more (l ∷ ls) [] line m h k = absurd h

---- the order of lines

-- one more line after all
last_in : (a s c r m : Lines) (l : List ℕ) → (a ++ (s ++ (c ++ (r ++ m)))) ++ l ∷ [] ≡ a ++ (s ++ (c ++ (r ++ (m ++ l ∷ []))))
last_in a s c r m l =
    append_assoc a (s ++ (c ++ (r ++ m))) (l ∷ []) ∙ ap (λ (x : Lines). a ++ x)
    (append_assoc s (c ++ (r ++ m)) (l ∷ []) ∙ ap (λ (x : Lines). s ++ x) (append_assoc c (r ++ m) (l ∷ []) ∙ ap (λ (x : Lines). c ++ x) (append_assoc r m (l ∷ []))))

-- one more among the first
place_in : (a : Lines) (l : List ℕ) → (a ++ []) ++ l ∷ [] ≡ (a ++ l ∷ []) ++ []
place_in a l = ap (λ (x : Lines). x ++ l ∷ []) (append-nil a) ∙ sym (append-nil (a ++ l ∷ []))

client_in : (a s c : Lines) (l : List ℕ) → (a ++ (s ++ (c ++ []))) ++ l ∷ [] ≡ a ++ (s ++ ((c ++ l ∷ []) ++ []))
client_in a s c l = last_in a s c [] [] l ∙ ap (λ (x : Lines). a ++ (s ++ x)) (sym (append-nil (c ++ l ∷ [])))

fit_more : (lines : Lines) (l : List ℕ) → list_all is_line lines ≡ true → is_line l ≡ true → list_all is_line (lines ++ l ∷ []) ≡ true
fit_more lines l h k = list_all-append is_line lines (l ∷ []) ∙ rw (h, k) refl

---- a place

not_eq : (a b : List ℕ) → bytes_eq a b ≡ false → a ≢ b
not_eq a b h = λ is. let t : bytes_eq a b ≡ true = rw is (itself b) in absurd cc

more_places : (stores : Lines) (ps : List Place) (p : Place) → ArePlaces stores ps → (is_client_name p.ns && is_client_name p.store) ≡ true → may_be_placed stores ps p ≡ true → ArePlaces stores (ps ++ p ∷ [])
more_places stores ps p a named agrees =
    let rest = and_second (not (bytes_eq p.ns (codes "scalardb"))) _ agrees in
    record {
      named = All-push (λ q. (is_client_name q.ns ≡ true) × (is_client_name q.store ≡ true)) ps p a.named (and_first (is_client_name p.ns) _ named, and_second (is_client_name p.ns) _ named);
      free = All-push (λ q. q.ns ≢ codes "scalardb") ps p a.free (not_eq p.ns (codes "scalardb") (not_true _ (and_first (not (bytes_eq p.ns (codes "scalardb"))) _ agrees)));
      once = more_apart (λ (q : Place). q.ns) ps p a.once (not_true (is_placed ps p.ns) (and_second (is_attached stores p.store) _ rest));
      attached = All-push (λ q. Contains stores q.store) ps p a.attached (attached_of stores p.store (and_first (is_attached stores p.store) _ rest));
    }

place_more : (stores front : Lines) (line : List ℕ) (ps : List Place) (desc : Bool) (cat : List Table) (cs : List ScriptClient) (ran : Bool) (ms : List Move) (p : Place)
    → IsBegun stores front (record { places = ps; described = desc; catalog = cat; clients = cs; ran = ran; moves = ms })
    → is_line line ≡ true → line ≡ place_line p → is_first (record { places = ps; described = desc; catalog = cat; clients = cs; ran = ran; moves = ms }) ≡ true
    → (is_client_name p.ns && is_client_name p.store) ≡ true → may_be_placed stores ps p ≡ true
    → IsBegun stores (front ++ line ∷ []) (record { places = ps ++ p ∷ []; described = desc; catalog = cat; clients = cs; ran = ran; moves = ms })
place_more stores front line ps false cat [] false ms p st fit e first named agrees =
    let none = none_written st.move_lines ms st.moves st.spelled in
    let empty : front ≡ map place_line ps ++ [] =
    st.order ∙ ap (λ (x : Lines). map place_line ps ++ (x ++ st.move_lines)) st.described.0 ∙ ap (λ (x : Lines). map place_line ps ++ x) none in
    record {
      schema = [];
      order =
          ap (λ (x : Lines). x ++ line ∷ []) empty ∙ place_in (map place_line ps) line ∙ ap (λ (x : List ℕ). (map place_line ps ++ x ∷ []) ++ []) e
          ∙ ap (λ (x : Lines). x ++ []) (sym (map-append place_line ps (p ∷ [])))
          ∙ ap (λ (x : Lines). map place_line (ps ++ p ∷ []) ++ x) (sym none);
      fit = fit_more front line st.fit fit;
      placed = more_places stores ps p st.placed named agrees;
      described = (refl, st.described.1);
      clients = st.clients;
      moves = st.moves;
      move_lines = st.move_lines;
      spelled = st.spelled;
    }
place_more stores front line ps true cat cs ran ms p st fit e first named agrees = absurd (not_so ran first)
place_more stores front line ps false cat (c ∷ cs) ran ms p st fit e first named agrees = absurd (not_first ran c cs first)
place_more stores front line ps false cat [] true ms p st fit e first named agrees = absurd (let k : false ≡ true = first in cc)

---- a schema

schema_more : (stores front : Lines) (line : List ℕ) (ps : List Place) (desc : Bool) (cat : List Table) (cs : List ScriptClient) (ran : Bool) (ms : List Move) (json : List ℕ) (tables : List Table)
    → IsBegun stores front (record { places = ps; described = desc; catalog = cat; clients = cs; ran = ran; moves = ms })
    → is_line line ≡ true → line ≡ schema_line json → is_first (record { places = ps; described = desc; catalog = cat; clients = cs; ran = ran; moves = ms }) ≡ true
    → catalog_in json ≡ Ok tables
    → IsBegun stores (front ++ line ∷ []) (record { places = ps; described = true; catalog = tables; clients = cs; ran = ran; moves = ms })
schema_more stores front line ps false cat [] false ms json tables st fit e first described =
    let none = none_written st.move_lines ms st.moves st.spelled in
    let empty : front ≡ map place_line ps ++ [] =
    st.order ∙ ap (λ (x : Lines). map place_line ps ++ (x ++ st.move_lines)) st.described.0 ∙ ap (λ (x : Lines). map place_line ps ++ x) none in
    record {
      schema = schema_line json ∷ [];
      order =
          ap (λ (x : Lines). x ++ line ∷ []) (empty ∙ append-nil (map place_line ps)) ∙ ap (λ (x : List ℕ). map place_line ps ++ x ∷ []) e
          ∙ ap (λ (x : Lines). map place_line ps ++ (schema_line json ∷ x)) (sym none);
      fit = fit_more front line st.fit fit;
      placed = st.placed;
      described = (json, refl, described);
      clients = st.clients;
      moves = st.moves;
      move_lines = st.move_lines;
      spelled = st.spelled;
    }
schema_more stores front line ps true cat cs ran ms json tables st fit e first described = absurd (not_so ran first)
schema_more stores front line ps false cat (c ∷ cs) ran ms json tables st fit e first described = absurd (not_first ran c cs first)
schema_more stores front line ps false cat [] true ms json tables st fit e first described = absurd (let k : false ≡ true = first in cc)

---- a client

none_said : (name : List ℕ) → is_client_name name ≡ true → IsClient (new_client name)
none_said name h = record { named = h; nonempty = All-nil (λ text. 0 < length text); few = omega arith }

client_more : (stores front : Lines) (line : List ℕ) (ps : List Place) (desc : Bool) (cat : List Table) (cs : List ScriptClient) (ran : Bool) (ms : List Move) (name : List ℕ)
    → IsBegun stores front (record { places = ps; described = desc; catalog = cat; clients = cs; ran = ran; moves = ms })
    → is_line line ≡ true → line ≡ client_line name → ran ≡ false → is_client_name name ≡ true → is_known cs name ≡ false → length cs < most_clients
    → IsBegun stores (front ++ line ∷ []) (record { places = ps; described = desc; catalog = cat; clients = cs ++ new_client name ∷ []; ran = ran; moves = ms })
client_more stores front line ps desc cat cs false ms name st fit e before named new few =
    let none = none_written st.move_lines ms st.moves st.spelled in
    let said : front ≡ map place_line ps ++ (st.schema ++ (flat_map client_lines cs ++ [])) =
    st.order ∙ ap (λ (x : Lines). map place_line ps ++ (st.schema ++ (flat_map client_lines cs ++ x))) none in
    let one : flat_map client_lines (cs ++ new_client name ∷ []) ≡ flat_map client_lines cs ++ client_line name ∷ [] = flat_map-append client_lines cs (new_client name ∷ []) in
    record {
      schema = st.schema;
      order =
          ap (λ (x : Lines). x ++ line ∷ []) said ∙ client_in (map place_line ps) st.schema (flat_map client_lines cs) line
          ∙ ap (λ (x : List ℕ). map place_line ps ++ (st.schema ++ ((flat_map client_lines cs ++ x ∷ []) ++ []))) e
          ∙ ap (λ (x : Lines). map place_line ps ++ (st.schema ++ (x ++ []))) (sym one)
          ∙ ap (λ (x : Lines). map place_line ps ++ (st.schema ++ (flat_map client_lines (cs ++ new_client name ∷ []) ++ x))) (sym none);
      fit = fit_more front line st.fit fit;
      placed = st.placed;
      described = st.described;
      clients = record {
        each = All-push IsClient cs (new_client name) st.clients.each (none_said name named);
        once = more_apart (λ (c : ScriptClient). c.name) cs (new_client name) st.clients.once new;
        few = omega (arith, few, length-append cs (new_client name ∷ []));
      };
      moves = st.moves;
      move_lines = st.move_lines;
      spelled = st.spelled;
    }
client_more stores front line ps desc cat cs true ms name st fit e before named new few = absurd (let k : true ≡ false = before in cc)

---- a statement

told_more : (c : ScriptClient) (text : List ℕ) → IsClient c → 0 < length text → length c.statements < most_statements → IsClient (with_statement c text)
told_more c text is some few = record {
  named = is.named;
  nonempty = All-push (λ t. 0 < length t) c.statements text is.nonempty some;
  few = omega (arith, few, length-append c.statements (text ∷ []));
}

each_more : (cs : List ScriptClient) (text : List ℕ) → All IsClient cs → 0 < length text → last_count cs < most_statements → All IsClient (add_text cs text)
each_more [] text a some few = a
each_more (c ∷ []) text a some few = All-cons IsClient (with_statement c text) [] (told_more c text (All-head IsClient c [] a) some few) (All-nil IsClient)
each_more (c ∷ d ∷ cs) text a some few = All-cons IsClient c (add_text (d ∷ cs) text) (All-head IsClient c (d ∷ cs) a) (each_more (d ∷ cs) text (All-tail IsClient c (d ∷ cs) a) some few)

names_stay : (cs : List ScriptClient) (text : List ℕ) → map (λ (c : ScriptClient). c.name) (add_text cs text) ≡ map (λ (c : ScriptClient). c.name) cs
names_stay [] text = refl
names_stay (c ∷ []) text = refl
names_stay (c ∷ d ∷ cs) text = ap (λ (x : Lines). c.name ∷ x) (names_stay (d ∷ cs) text)

pub count_stays : (cs : List ScriptClient) (text : List ℕ) → length (add_text cs text) ≡ length cs
count_stays [] text = refl
count_stays (c ∷ []) text = refl
count_stays (c ∷ d ∷ cs) text = let k = count_stays (d ∷ cs) text in omega (arith, k)

lines_more : (cs : List ScriptClient) (text : List ℕ) → 0 < length cs → flat_map client_lines (add_text cs text) ≡ flat_map client_lines cs ++ text_line text ∷ []
lines_more [] text h = absurd (omega arith)
lines_more (c ∷ []) text h =
    append-nil (client_lines (with_statement c text)) ∙ ap (λ (x : Lines). client_line c.name ∷ x) (map-append text_line c.statements (text ∷ []))
    ∙ ap (λ (x : Lines). x ++ text_line text ∷ []) (sym (append-nil (client_lines c)))
lines_more (c ∷ d ∷ cs) text h =
    ap (λ (x : Lines). client_lines c ++ x) (lines_more (d ∷ cs) text (omega arith)) ∙ sym (append_assoc (client_lines c) (flat_map client_lines (d ∷ cs)) (text_line text ∷ []))

text_more : (stores front : Lines) (line : List ℕ) (ps : List Place) (desc : Bool) (cat : List Table) (cs : List ScriptClient) (ran : Bool) (ms : List Move) (text : List ℕ)
    → IsBegun stores front (record { places = ps; described = desc; catalog = cat; clients = cs; ran = ran; moves = ms })
    → is_line line ≡ true → line ≡ text_line text → ran ≡ false → 0 < length cs → 0 < length text → last_count cs < most_statements
    → IsBegun stores (front ++ line ∷ []) (record { places = ps; described = desc; catalog = cat; clients = add_text cs text; ran = ran; moves = ms })
text_more stores front line ps desc cat cs false ms text st fit e before one some few =
    let none = none_written st.move_lines ms st.moves st.spelled in
    let said : front ≡ map place_line ps ++ (st.schema ++ (flat_map client_lines cs ++ [])) =
    st.order ∙ ap (λ (x : Lines). map place_line ps ++ (st.schema ++ (flat_map client_lines cs ++ x))) none in
    record {
      schema = st.schema;
      order =
          ap (λ (x : Lines). x ++ line ∷ []) said ∙ client_in (map place_line ps) st.schema (flat_map client_lines cs) line
          ∙ ap (λ (x : List ℕ). map place_line ps ++ (st.schema ++ ((flat_map client_lines cs ++ x ∷ []) ++ []))) e
          ∙ ap (λ (x : Lines). map place_line ps ++ (st.schema ++ (x ++ []))) (sym (lines_more cs text one))
          ∙ ap (λ (x : Lines). map place_line ps ++ (st.schema ++ (flat_map client_lines (add_text cs text) ++ x))) (sym none);
      fit = fit_more front line st.fit fit;
      placed = st.placed;
      described = st.described;
      clients = record {
        each = each_more cs text st.clients.each some few;
        once = subst (λ (x : Lines). AllPairs ◌≢◌ x) (sym (names_stay cs text)) st.clients.once;
        few = omega (arith, st.clients.few, count_stays cs text);
      };
      moves = st.moves;
      move_lines = st.move_lines;
      spelled = st.spelled;
    }
text_more stores front line ps desc cat cs true ms text st fit e before one some few = absurd (let k : true ≡ false = before in cc)

---- run, and a move

run_more : (stores front : Lines) (line : List ℕ) (ps : List Place) (desc : Bool) (cat : List Table) (cs : List ScriptClient) (ran : Bool) (ms : List Move)
    → IsBegun stores front (record { places = ps; described = desc; catalog = cat; clients = cs; ran = ran; moves = ms })
    → is_line line ≡ true → line ≡ codes "run" → ran ≡ false
    → IsBegun stores (front ++ line ∷ []) (record { places = ps; described = desc; catalog = cat; clients = cs; ran = true; moves = ms })
run_more stores front line ps desc cat cs false ms st fit e before =
    let none = none_written st.move_lines ms st.moves st.spelled in
    let said : front ≡ map place_line ps ++ (st.schema ++ (flat_map client_lines cs ++ [])) =
    st.order ∙ ap (λ (x : Lines). map place_line ps ++ (st.schema ++ (flat_map client_lines cs ++ x))) none in
    record {
      schema = st.schema;
      order =
          ap (λ (x : Lines). x ++ line ∷ []) said ∙ last_in (map place_line ps) st.schema (flat_map client_lines cs) [] [] line
          ∙ ap (λ (x : List ℕ). map place_line ps ++ (st.schema ++ (flat_map client_lines cs ++ x ∷ []))) e
          ∙ ap (λ (x : Lines). map place_line ps ++ (st.schema ++ (flat_map client_lines cs ++ (codes "run" ∷ x)))) (sym none);
      fit = fit_more front line st.fit fit;
      placed = st.placed;
      described = st.described;
      clients = st.clients;
      moves = subst (λ (x : List Move). AreMoves true (length cs) x) (sym st.moves) (All-nil (λ m. is_move (length cs) m ≡ true), omega arith);
      move_lines = st.move_lines;
      spelled = st.spelled;
    }
run_more stores front line ps desc cat cs true ms st fit e before = absurd (let k : true ≡ false = before in cc)

move_more : (stores front : Lines) (line : List ℕ) (ps : List Place) (desc : Bool) (cat : List Table) (cs : List ScriptClient) (ran : Bool) (ms : List Move) (m : Move)
    → IsBegun stores front (record { places = ps; described = desc; catalog = cat; clients = cs; ran = ran; moves = ms })
    → is_line line ≡ true → IsMoveText line m → ran ≡ true → is_move (length cs) m ≡ true → turns_of ms + turns m ≤ most_moves
    → IsBegun stores (front ++ line ∷ []) (record { places = ps; described = desc; catalog = cat; clients = cs; ran = ran; moves = ms ++ m ∷ [] })
move_more stores front line ps desc cat cs true ms m st fit said behind is few = record {
  schema = st.schema;
  move_lines = st.move_lines ++ line ∷ [];
  order = ap (λ (x : Lines). x ++ line ∷ []) st.order ∙ last_in (map place_line ps) st.schema (flat_map client_lines cs) (codes "run" ∷ []) st.move_lines line;
  fit = fit_more front line st.fit fit;
  placed = st.placed;
  described = st.described;
  clients = st.clients;
  moves = (All-push (λ (x : Move). is_move (length cs) x ≡ true) ms m st.moves.0 is, omega (arith, few, sum_by_push turns ms m));
  spelled = spelled_more st.move_lines ms line m st.spelled said;
}
move_more stores front line ps desc cat cs false ms m st fit said behind is few = absurd (let k : false ≡ true = behind in cc)

---- any line

pub more_begun : (stores front : Lines) (line : List ℕ) (d e : Draft) (s : LineMeaning) → IsBegun stores front d → MayComeNext d line s → past stores d s ≡ Ok e → IsBegun stores (front ++ line ∷ []) e
more_begun stores front line d e (PlaceLine p) st c h =
    let first = and_first (is_first d) _ c.2 in
    by_test (may_be_placed stores d.places p)
    (λ t. subst (IsBegun stores (front ++ line ∷ [])) (ok_is (rw t at h))
    (place_more stores front line d.places d.described d.catalog d.clients d.ran d.moves p st c.0 c.1 first (and_second (is_first d) _ c.2) t))
    (λ t. err_ok _ e (rw t at h))
more_begun stores front line d e (SchemaOf json) st c h = by_catalog (catalog_in json) refl h
  where
    by_catalog : (o : Result (List Table) SchemaFault) → catalog_in json ≡ o → with_catalog d o ≡ Ok e → IsBegun stores (front ++ line ∷ []) e
    by_catalog (Ok tables) q k = subst (IsBegun stores (front ++ line ∷ [])) (ok_is k)
        (schema_more stores front line d.places d.described d.catalog d.clients d.ran d.moves json tables st c.0 c.1 c.2 q)
    by_catalog (Err f) q k = err_ok _ e k
more_begun stores front line d e (ClientOf name) st c h =
    let before = not_true d.ran (and_first (not d.ran) _ c.2) in
    let named = and_second (not d.ran) _ c.2 in
    by_test (nat_lt (length d.clients) most_clients)
    (λ t.
    let few : length d.clients < most_clients = grind (arith, nat_tests) in
    subst (IsBegun stores (front ++ line ∷ [])) (ok_is (rw t at h))
    (client_more stores front line d.places d.described d.catalog d.clients d.ran d.moves name st c.0 c.1 before (and_first (is_client_name name) _ named) (not_true (is_known d.clients name) (and_second (is_client_name name) _ named)) few))
    (λ t. err_ok _ e (rw t at h))
more_begun stores front line d e (StatementOf text) st c h =
    let before = not_true d.ran (and_first (not d.ran) _ c.2) in
    let both = and_second (not d.ran) _ c.2 in
    let one : nat_lt 0 (length d.clients) ≡ true = and_first (nat_lt 0 (length d.clients)) _ both in
    let some : nat_lt 0 (length text) ≡ true = and_second (nat_lt 0 (length d.clients)) _ both in
    let has : 0 < length d.clients = grind (arith, nat_tests) in
    let full : 0 < length text = grind (arith, nat_tests) in
    by_test (nat_lt (last_count d.clients) most_statements)
    (λ t.
    let few : last_count d.clients < most_statements = grind (arith, nat_tests) in
    subst (IsBegun stores (front ++ line ∷ [])) (ok_is (rw t at h))
    (text_more stores front line d.places d.described d.catalog d.clients d.ran d.moves text st c.0 c.1 before has full few))
    (λ t. err_ok _ e (rw t at h))
more_begun stores front line d e Runs st c h = subst (IsBegun stores (front ++ line ∷ [])) (ok_is h) (run_more stores front line d.places d.described d.catalog d.clients d.ran d.moves st c.0 c.1 (not_true d.ran c.2))
more_begun stores front line d e (MoveOf m) st c h =
    by_test (nat_le (turns_of d.moves + turns m) most_moves)
    (λ t.
    let few : turns_of d.moves + turns m ≤ most_moves = grind (arith, nat_tests) in
    subst (IsBegun stores (front ++ line ∷ [])) (ok_is (rw t at h))
    (move_more stores front line d.places d.described d.catalog d.clients d.ran d.moves m st c.0 c.1 (and_first d.ran _ c.2) (and_second d.ran _ c.2) few))
    (λ t. err_ok _ e (rw t at h))
