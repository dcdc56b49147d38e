-- What a script that was read gives its player.
use Rattle.std.proofs.Common.{◌≡◌, ℕ, zero, suc, ◌≤◌, ◌<◌, ◌^◌, Bool, true, false, not, ◌&&◌, List, [], ◌∷◌, ◌++◌, length, map, flat_map, Option, Some, None, refl, sym, ap, subst, ◌∙◌, arith, codes}
use Rattle.std.specs.Prelude.{nat_le, is_some, slice_get, All, ◌==◌}
use Rattle.std.specs.List.{list_all, AllByRecursion}
use Rattle.std.specs.Option.{option_map_or}
use Rattle.std.specs.Ordering.{is_eq}
use Rattle.std.proofs.lemmas.List.Folds.{list_all-append}
use Rattle.sdb_app.specs.Types.{Act, Move, Script, ScriptClient, Table, TableName}
use Rattle.sdb_types.specs.Exact.{equal_of}
use Rattle.sdb_types.specs.Order.{table_cmp}
use Rattle.sdb_types.proofs.Public.{and_first, and_second, by_test, nat_at_most as at_most, some_is, table_exact}
use Rattle.sdb_record.specs.Coordinator.{coordinator_table, is_coordinator_table}
use Rattle.sdb_record.specs.Names.{same_name}
use Rattle.sdb_record.proofs.Public.{same_name-true}
use Rattle.sdb_schema.specs.Catalog.{is_catalog}
use Rattle.sdb_loader.specs.Words.{names_table}
use Rattle.sdb_model.specs.declared.script.Act.TheVariants as act
use Rattle.sdb_model.specs.declared.script.Move.TheVariants as move
use Rattle.sdb_model.specs.Exec.{find_table}
use Rattle.sdb_model.specs.Follows.{texts_of}
use Rattle.sdb_model.specs.Form.{client_line, is_client_name, lines_of, onto_first}
use Rattle.sdb_model.specs.Plain.{is_one_line, HasLines}
use Rattle.sdb_script.specs.Lines.{client_lines, is_act, is_client, is_line, is_move, most_line, place_line, text_line}
use Rattle.sdb_script.specs.Begun.{IsSchema}
use Rattle.sdb_script.specs.Whole.{IsScript}
use Rattle.sdb_app.specs.Run.{CanBePlaced}
use Rattle.sdb_script.proofs.Public.{json_may, may_name, no_some}
use Rattle.sdb_client.specs.Execution.{IsPlayable}
use Rattle.sdb_world.specs.Step.{CanAct, CanFollow, CanMove}
use Rattle.sdb_app.proofs.CatalogRead.{catalog_read}

---- its catalog

catalog_is : (described : Bool) (catalog : List Table) (lines : List (List ℕ)) → IsSchema described catalog lines → (is_catalog catalog ≡ true) × (list_all may_name catalog ≡ true)
catalog_is false catalog lines h = subst (λ (ts : List Table). (is_catalog ts ≡ true) × (list_all may_name ts ≡ true)) (sym h.1) (refl, refl)
catalog_is true catalog lines h = (catalog_read h.0 catalog h.2, json_may h.0 catalog h.2)

found_may : (ts : List Table) (name : TableName) → list_all may_name ts ≡ true → is_some (find_table ts name) ≡ true → names_table name.ns name.table ≡ true
found_may [] name m f = absurd (cc)
found_may (t ∷ ts) name m f =
    by_test (is_eq (table_cmp t.name name))
    (λ e.
    let same : t.name ≡ name = table_exact t.name name (equal_of (table_cmp t.name name) e) in
    subst (λ (n : TableName). names_table n.ns n.table ≡ true) same (and_first (may_name t) (list_all may_name ts) m))
    (λ e. found_may ts name (and_second (may_name t) (list_all may_name ts) m) (rw e at f))

-- a table that a schema may name isn't the coordinator's
other_table : (name : TableName) → names_table name.ns name.table ≡ true → not (is_coordinator_table name) ≡ true
other_table name h =
    by_test (is_coordinator_table name)
    (λ e.
    let ns : name.ns ≡ codes "coordinator" = same_name-true name.ns coordinator_table.ns (and_first (same_name name.ns coordinator_table.ns) (same_name name.table coordinator_table.table) e) in
    let said : false ≡ true = subst (λ (n : List ℕ). names_table n name.table ≡ true) ns h in
    absurd (cc))
    (λ e. ap not e)

---- the texts of its statements

both_lines : (p : List ℕ → Bool) (xs ys : List (List ℕ)) → list_all p (xs ++ ys) ≡ true → (list_all p xs ≡ true) × (list_all p ys ≡ true)
both_lines p xs ys h =
    let e : (list_all p xs && list_all p ys) ≡ true = sym (list_all-append p xs ys) ∙ h in
    (and_first (list_all p xs) (list_all p ys) e, and_second (list_all p xs) (list_all p ys) e)

text_short : (text : List ℕ) → is_line (text_line text) ≡ true → length text < 2 ^ 32
text_short text h =
    let fits : length (text_line text) ≤ most_line = at_most (length (text_line text)) most_line (and_first (nat_le (length (text_line text)) most_line) _ h) in
    omega arith

-- what lines that pass a test say of the texts of statements
module _ (p : List ℕ → Bool) (Q : List ℕ → Type 0) (each : (text : List ℕ) → p (text_line text) ≡ true → Q text) where
  texts_so : (texts : List (List ℕ)) → list_all p (map text_line texts) ≡ true → (i : ℕ) (text : List ℕ) → slice_get texts i ≡ Some text → Q text
  texts_so [] h i text e = no_some text e
  texts_so (t ∷ ts) h zero text e = subst Q (some_is t text e) (each t (and_first (p (text_line t)) (list_all p (map text_line ts)) h))
  texts_so (t ∷ ts) h (suc i) text e = texts_so ts (and_second (p (text_line t)) (list_all p (map text_line ts)) h) i text e

  lines_at : (cs : List ScriptClient) → list_all p (flat_map client_lines cs) ≡ true → (k : ℕ) (c : ScriptClient) → slice_get cs k ≡ Some c → list_all p (client_lines c) ≡ true
  lines_at [] h k c e = no_some c e
  lines_at (d ∷ ds) h zero c e = subst (λ (x : ScriptClient). list_all p (client_lines x) ≡ true) (some_is d c e) (both_lines p (client_lines d) (flat_map client_lines ds) h).0
  lines_at (d ∷ ds) h (suc k) c e = lines_at ds (both_lines p (client_lines d) (flat_map client_lines ds) h).1 k c e

  all_so : (cs : List ScriptClient) → list_all p (flat_map client_lines cs) ≡ true → (c i : ℕ) (text : List ℕ) → slice_get (texts_of cs c) i ≡ Some text → Q text
  all_so cs h zero i text e = no_some text e
  all_so cs h (suc k) i text e = by (slice_get cs k) refl e
    where
      by : (o : Option ScriptClient) → slice_get cs k ≡ o → slice_get (option_map_or (λ (c : ScriptClient). c.statements) o []) i ≡ Some text → Q text
      by None q f = no_some text f
      by (Some c) q f = texts_so c.statements (and_second (p (client_line c.name)) (list_all p (map text_line c.statements)) (lines_at cs h k c q)) i text f

lines_of_clients : (p : List ℕ → Bool) (stores : List (List ℕ)) (text : List ℕ) (s : Script) → IsScript stores text s → list_all p (lines_of text) ≡ true → list_all p (flat_map client_lines s.clients) ≡ true
lines_of_clients p stores text s h fit =
    let all = subst (λ (ls : List (List ℕ)). list_all p ls ≡ true) h.lines.order fit in
    let behind = both_lines p (map place_line s.places) _ all in
    let rest = both_lines p h.lines.schema _ behind.1 in
    (both_lines p (flat_map client_lines s.clients) _ rest.1).0

-- the lines of a text have no LF
first_one : (b : ℕ) (ls : List (List ℕ)) → (b == 10) ≡ false → list_all is_one_line ls ≡ true → list_all is_one_line (onto_first b ls) ≡ true
first_one b [] t h = rw t refl
first_one b (l ∷ ls) t h = rw t h

lines_one : (text : List ℕ) → list_all is_one_line (lines_of text) ≡ true
lines_one [] = refl
lines_one (b ∷ bs) = by_test (b == 10) (λ t. rw t (lines_one bs)) (λ t. rw t (first_one b (lines_of bs) t (lines_one bs)))

---- its moves

numbered : (n c : ℕ) → is_client n c ≡ true → (0 < c) × (c ≤ n)
numbered n c h =
    let low : 1 ≤ c = at_most 1 c (and_first (nat_le 1 c) (nat_le c n) h) in
    (omega arith, at_most c n (and_second (nat_le 1 c) (nat_le c n) h))

can_act : (s : Script) (a : Act) → is_act (length s.clients) a ≡ true → CanAct s a
can_act s (act.Step c) h = numbered (length s.clients) c h
can_act s (act.Lose c) h = numbered (length s.clients) c h
can_act s (act.Discard c) h = numbered (length s.clients) c h
can_act s (act.Delay c) h = numbered (length s.clients) c h
can_act s (act.Land number) h = tt
can_act s (act.Stop c) h = numbered (length s.clients) c h
can_act s (act.Clock moment) h = h
can_act s (act.Alter table column kind) h =
    and_second (is_client_name table.table) (is_client_name column) (and_second (is_client_name table.ns) (is_client_name table.table && is_client_name column) h)

can_move : (s : Script) (m : Move) → is_move (length s.clients) m ≡ true → CanMove s m
can_move s (move.Act a) h = can_act s a h
can_move s (move.Repeat c k) h = numbered (length s.clients) c (and_first (is_client (length s.clients) c) (nat_le 2 k) h)
can_move s move.Rest h = tt

can_make : (s : Script) (ms : List Move) → All (λ m. is_move (length s.clients) m ≡ true) ms → AllByRecursion (CanMove s) ms
can_make s [] h = tt
can_make s (m ∷ ms) h = (can_move s m (h 0 m (omega arith)), can_make s ms (λ k d less. h (suc k) d (omega arith)))

---- the whole

-- A script that was read can be played.
pub playable : (stores : List (List ℕ)) (text : List ℕ) (s : Script) → IsScript stores text s → IsPlayable s
playable stores text s h =
    let known = catalog_is h.described s.catalog h.lines.schema h.lines.described in
    record {
      catalog = known.0;
      apart = λ k f. other_table k.table (found_may s.catalog k.table known.1 f);
      few = let most = h.lines.clients.few in omega arith;
      short = all_so is_line (λ (x : List ℕ). length x < 2 ^ 32) text_short s.clients (lines_of_clients is_line stores text s h h.lines.fit);
    }

-- None of its statements has an LF.
pub of_lines : (stores : List (List ℕ)) (text : List ℕ) (s : Script) → IsScript stores text s → HasLines s
of_lines stores text s h = all_so is_one_line (λ (x : List ℕ). is_one_line x ≡ true) (λ x one. one) s.clients (lines_of_clients is_one_line stores text s h (lines_one text))

-- Each of its moves can be made.
pub followable : (stores : List (List ℕ)) (text : List ℕ) (s : Script) → IsScript stores text s → CanFollow s
followable stores text s h = can_make s s.moves h.lines.moves.0

-- Its places can be made on the attached stores.
pub placeable : (stores : List (List ℕ)) (text : List ℕ) (s : Script) → IsScript stores text s → CanBePlaced stores s.places
placeable stores text s h = record { once = h.lines.placed.once; attached = h.lines.placed.attached }
