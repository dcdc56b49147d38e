-- The keys that were prepared are those that are written.
use Rattle.std.proofs.Common.{◌≡◌, ℕ, zero, suc, Bool, true, false, List, [], ◌∷◌, map, Some, refl, sym, ap, ◌∙◌}
use Rattle.std.specs.Prelude.{if◌then◌else◌, ◌||◌, is_some, slice_get}
use Rattle.std.specs.List.{AllByRecursion, list_any}
use Rattle.std.specs.Option.{option_map}
use Rattle.std.specs.Ordering.{is_eq}
use Rattle.std.proofs.lemmas.Option.{slice_get-get_or, slice_get-map}
use Rattle.law_answers.specs.Types.{Key, Record, Request, Write}
use Rattle.sdb_types.specs.Order.{key_cmp, same_key}
use Rattle.sdb_types.proofs.Public.{clash, none_some, same_key_exact, same_key_is, some_is}
use Rattle.sdb_record.specs.Among.{is_written, write_among}
use Rattle.sdb_record.specs.Groups.{grouped}
use Rattle.sdb_record.specs.Rolls.{prepared_record}
use Rattle.sdb_record.proofs.Public.{grouped_all, prepared-key}
use Rattle.sdb_model.specs.Calls.{StoreCall}
use Rattle.sdb_model.specs.Counted.{is_key_of, prepares_in}
use Rattle.sdb_model.specs.Requests.{records_put}
use Rattle.sdb_phases.specs.Work.{Work, prepares_of}
use Rattle.sdb_phases.specs.Work as work
use Rattle.law_answers.specs.Counts.{AllPut}
use Rattle.law_answers.proofs.Conflicts.{all_written, key_turned}
use Rattle.law_answers.proofs.Groups.{group_of, map_contains, or_true, records_of_group}
use Rattle.law_answers.proofs.PathLists.{contains_at}

-- a call puts a record at a key
abbrev asks_key : Key → Request → Bool
asks_key key q = list_any (λ (r : Record). is_eq (key_cmp r.key key)) (records_put q)

any_asked : (calls : List StoreCall) (key : Key) → list_any (is_key_of key) calls ≡ list_any (asks_key key) (map (λ m. m.request) calls)
any_asked [] key = refl
any_asked (m ∷ ms) key = ap (λ b. asks_key key m.request || b) (any_asked ms key)

some_at : {X : Type 0} (t : X → Bool) (xs : List X) (j : ℕ) (x : X) → slice_get xs j ≡ Some x → t x ≡ true → list_any t xs ≡ true
some_at t [] j x e h = none_some x e
some_at t (y ∷ ys) zero x e h = ap (λ b. b || list_any t ys) (ap t (some_is y x e) ∙ h)
some_at t (y ∷ ys) (suc j) x e h = or_true (t y) (some_at t ys j x e h)

module _ (p : Work) (key : Key) where
  abbrev is_of_key : Record → Bool
  is_of_key r = is_eq (key_cmp r.key key)

  abbrev prepared_of : Write → Record
  prepared_of w = prepared_record w p.id p.now

  key_is : (w : Write) → is_of_key (prepared_of w) ≡ same_key key w.key
  key_is w = ap (λ (k : Key). is_eq (key_cmp k key)) (prepared-key w p.id p.now) ∙ key_turned w.key key ∙ sym (same_key_is key w.key)

  asks_group : (g : List Write) → asks_key key (prepares_of p.id p.now g) ≡ list_any is_of_key (map prepared_of g)
  asks_group g = ap (list_any is_of_key) (records_of_group p.id p.now g)

  one_put : (ws : List Write) → AllByRecursion (λ (w : Write). is_written p.writes w.key ≡ true) ws → list_any is_of_key (map prepared_of ws) ≡ true → is_written p.writes key ≡ true
  one_put [] own t = clash (sym t)
  one_put (w ∷ ws) own t = by (is_of_key (prepared_of w)) refl t (one_put ws own.1)
    where
      by : (b : Bool) → is_of_key (prepared_of w) ≡ b → (b || list_any is_of_key (map prepared_of ws)) ≡ true → (list_any is_of_key (map prepared_of ws) ≡ true → is_written p.writes key ≡ true) → is_written p.writes key ≡ true
      by true e h more = ap (is_written p.writes) (same_key_exact key w.key (sym (key_is w) ∙ e)) ∙ own.0
      by false e h more = more h

  some_group : (gs : List (List Write)) → AllByRecursion (AllByRecursion (λ (w : Write). is_written p.writes w.key ≡ true)) gs → list_any (asks_key key) (map (prepares_of p.id p.now) gs) ≡ true → is_written p.writes key ≡ true
  some_group [] own t = clash (sym t)
  some_group (g ∷ gs) own t = by (asks_key key (prepares_of p.id p.now g)) refl t (some_group gs own.1)
    where
      by : (b : Bool) → asks_key key (prepares_of p.id p.now g) ≡ b → (b || list_any (asks_key key) (map (prepares_of p.id p.now) gs)) ≡ true → (list_any (asks_key key) (map (prepares_of p.id p.now) gs) ≡ true → is_written p.writes key ≡ true) → is_written p.writes key ≡ true
      by true e h more = one_put g own.0 (sym (asks_group g) ∙ e)
      by false e h more = more h

  -- a written key has a write
  write_at : (ws : List Write) → is_written ws key ≡ true → (j : ℕ) × (w : Write) × (slice_get ws j ≡ Some w) × (same_key key w.key ≡ true)
  write_at [] h = clash (sym h)
  write_at (w ∷ ws) h = by (same_key key w.key) refl h (write_at ws)
    where
      by : (b : Bool) → same_key key w.key ≡ b → is_some (if b then Some w else write_among ws key) ≡ true → (is_written ws key ≡ true → (j : ℕ) × (x : Write) × (slice_get ws j ≡ Some x) × (same_key key x.key ≡ true)) → (j : ℕ) × (x : Write) × (slice_get (w ∷ ws) j ≡ Some x) × (same_key key x.key ≡ true)
      by true e h more = (0, w, refl, e)
      by false e h more = let at = more h in (suc at.0, at.1, at.2, at.3)

  written_put : is_written p.writes key ≡ true → list_any (asks_key key) (work.prepares p) ≡ true
  written_put h =
      let at = write_at p.writes h in
      let group = group_of p.writes at.1 (contains_at p.writes at.0 at.1 at.2) in
      let has = map_contains prepared_of group.1 at.1 group.4 in
      let own : list_any is_of_key (map prepared_of group.1) ≡ true = some_at is_of_key (map prepared_of group.1) has.0 (prepared_of at.1) (slice_get-get_or (map prepared_of group.1) has.0 (prepared_of at.1) has.1 ∙ ap Some has.2) (key_is at.1 ∙ at.3) in
      some_at (asks_key key) (work.prepares p) group.0 (prepares_of p.id p.now group.1) (slice_get-map (prepares_of p.id p.now) (grouped p.writes) group.0 ∙ ap (option_map (prepares_of p.id p.now)) group.3) (asks_group group.1 ∙ own)

  any_written : list_any (asks_key key) (work.prepares p) ≡ is_written p.writes key
  any_written = both (list_any (asks_key key) (work.prepares p)) (is_written p.writes key) (some_group (grouped p.writes) (grouped_all (λ (w : Write). is_written p.writes w.key ≡ true) p.writes (all_written p.writes))) written_put
    where
      both : (a b : Bool) → (a ≡ true → b ≡ true) → (b ≡ true → a ≡ true) → a ≡ b
      both true b f g = sym (f refl)
      both false true f g = g refl
      both false false f g = refl

-- the keys that were prepared are those that are written
pub put_keys : (p : Work) (calls : List StoreCall) (key : Key) → AllPut p calls → list_any (is_key_of key) (prepares_in p.id calls) ≡ is_written p.writes key
put_keys p calls key all = any_asked (prepares_in p.id calls) key ∙ ap (list_any (asks_key key)) all ∙ any_written p key
