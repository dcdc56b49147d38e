-- The rows that are found for a transaction at a key are those that it has there.
use Rattle.std.proofs.Common.{◌≡◌, ℕ, ◌≤◌, ◌<◌, Bool, true, false, List, [], ◌∷◌, ◌++◌, Option, Some, None, inl, inr, refl, sym, ap, subst, ◌∙◌}
use Rattle.std.specs.Prelude.{◌&&◌, Contains, filter, fold, if◌then◌else◌}
use Rattle.std.specs.List.{flat_map, list_any}
use Rattle.std.specs.Option.{option_map_or}
use Rattle.check_answers.specs.Types.{Event, Image, Key, Pair, Request, Statement, Table}
use Rattle.sdb_types.specs.declared.record.Request.TheVariants as ask
use Rattle.sdb_types.proofs.Public.{clash, same_key_exact, same_key_of}
use Rattle.sdb_model.specs.DirtyReads.{CommittedBy, ReadsKey, StartsWith, row_left}
use Rattle.sdb_model.specs.Serial.{AreRead}
use Rattle.sdb_model.specs.Calls.{calls_of}
use Rattle.sdb_model.specs.ReadSet.{has_finished, has_read}
use Rattle.sdb_model.specs.Transactions.{Executed, is_effective}
use Rattle.sdb_snapshot.specs.Seen.{images_with}
use Rattle.sdb_contents.specs.Commits.{executed_of}
use Rattle.check_protocol.proofs.Public.{any_some, In, some_any}
use Rattle.check_tables.specs.Values.{all_made, made_of}
use Rattle.check_answers.specs.Tests.{same_executed}
use Rattle.check_answers.proofs.Finds.{contained_made, made_contained}
use Rattle.check_answers.proofs.SameLaws.{said_is, said_itself}
use Rattle.check_answers.specs.declared.stores.Stores.{Stores}
use Rattle.check_answers.specs.declared.turn.Turn.{Turn}
use Rattle.check_answers.specs.Rows.{bases, had_at, image_then, reads_key, rows_below, rows_from}
use Rattle.check_answers.specs.Turns.{AreTurns, IsTurn}
use Rattle.check_answers.specs.Values.{all_moments, all_contents, row_then}
use Rattle.check_answers.proofs.Members.{below_in, flat_in, in_below, in_either, in_flat, in_left, in_right}

---- what a statement was shown

reads_is : (key : Key) (q : Request) → reads_key key q ≡ true → ReadsKey key q
reads_is key (ask.Get k) h = same_key_exact k key h
reads_is key (ask.Scan span) h = h
reads_is key (ask.PutIf rec condition) h = clash (sym h)
reads_is key (ask.DeleteIf k condition) h = clash (sym h)
reads_is key (ask.PutAll batch) h = clash (sym h)

is_reads : (key : Key) (q : Request) → ReadsKey key q → reads_key key q ≡ true
is_reads key (ask.Get k) h = same_key_of k key h
is_reads key (ask.Scan span) h = h
is_reads key (ask.PutIf rec condition) h = absurd h
is_reads key (ask.DeleteIf k condition) h = absurd h
is_reads key (ask.PutAll batch) h = absurd h

module _ (x : Stores) (events : List Event) (client : ℕ) where
  abbrev pub Was : Executed → Key → Option (List Pair) → Type 0
  Was = CommittedBy x.places events (all_contents x.opening) (all_moments x.moments) client

  read_is : (s : Executed) (t : Turn) → IsTurn events client s t → has_finished (all_made t.calls) (executed_of t.executed) ≡ has_read events client s
  read_is s t h = ap (λ cs. has_finished cs (executed_of t.executed)) h.calls ∙ ap (has_finished (calls_of events client s)) h.executed

  bases_is : (s : Executed) (t : Turn) (key : Key) (row : Option (List Pair)) → IsTurn events client s t → In (bases x key t) row → (has_read events client s ≡ true) × Was s key row
  bases_is s t key row h i = by (has_finished (all_made t.calls) (executed_of t.executed)) (list_any (λ m. reads_key key m.request) t.calls) refl refl i
    where
      by : (f b : Bool) → has_finished (all_made t.calls) (executed_of t.executed) ≡ f → list_any (λ m. reads_key key m.request) t.calls ≡ b → In (if f && b then rows_below (row_then x key) t.executed.accepted t.end else []) row → (has_read events client s ≡ true) × Was s key row
      by true true f e j =
          let m = any_some (λ m. reads_key key m.request) t.calls e in
          let r = below_in (row_then x key) t.executed.accepted t.end row j in (
            sym (read_is s t h) ∙ f,
            record {
              call = made_of m.0;
              at = r.0;
              read = (subst (λ cs. Contains cs (made_of m.0)) h.calls (made_contained t.calls m.0 m.1), reads_is key m.0.request m.2);
              within = (subst (λ n. n ≤ r.0) (ap (λ (z : Executed). z.accepted) h.executed) r.1, subst (λ n. r.0 < n) h.ends r.2);
              image = r.3;
            },
          )
      by true false f e j = absurd j
      by false b f e j = absurd j

  is_bases : (s : Executed) (t : Turn) (key : Key) (row : Option (List Pair)) → IsTurn events client s t → has_read events client s ≡ true → Was s key row → In (bases x key t) row
  is_bases s t key row h f w =
      let m = contained_made t.calls w.call (subst (λ cs. Contains cs w.call) (sym h.calls) w.read.0) in
      let some : list_any (λ m. reads_key key m.request) t.calls ≡ true = some_any (λ m. reads_key key m.request) t.calls m.0 m.1 (is_reads key m.0.request (subst (λ c. ReadsKey key c.request) m.2 w.read.1)) in
      subst (λ z. In (if z && list_any (λ m. reads_key key m.request) t.calls then rows_below (row_then x key) t.executed.accepted t.end else []) row) (sym (read_is s t h ∙ f))
      (subst (λ b. In (if b then rows_below (row_then x key) t.executed.accepted t.end else []) row) (sym some)
      (in_below (row_then x key) t.executed.accepted t.end w.at row (subst (λ n. n ≤ w.at) (sym (ap (λ (z : Executed). z.accepted) h.executed)) w.within.0) (subst (λ n. w.at < n) (sym h.ends) w.within.1) w.image))

---- what the statements made of it

-- a row made of another by the effective statements before this one
pub record IsMade (catalog : List Table) (s : Executed) (key : Key) (row : Option (List Pair)) (ss : List Executed) (columns : List Pair) : Type 0 where
  pub changing : List Executed
  pub later : List Executed
  pub sts : List Statement
  pub parts : ss ≡ changing ++ s ∷ later
  pub read : AreRead (filter is_effective changing) sts
  pub made : Some columns ≡ fold (λ r st. row_left catalog st key r) row sts

module _ (catalog : List Table) (events : List Event) (client : ℕ) (s : Executed) (key : Key) where
  abbrev Here : Option (List Pair) → List Executed → Image → Type 0
  Here row ss image = (image.key ≡ key) × IsMade catalog s key row ss image.columns

  made_here : (u : Executed) (ss : List Executed) (t : Turn) (row : Option (List Pair)) (image : Image) → executed_of t.executed ≡ u → In (image_then s key row t) image → Here row (u ∷ ss) image
  made_here u ss t row image same i = by (same_executed (executed_of t.executed) s) refl i
    where
      at : (r : Option (List Pair)) → row ≡ r → u ≡ s → In (images_with key r) image → Here row (u ∷ ss) image
      at None e f k = absurd k
      at (Some c) e f (inl k) = (
        ap (λ (z : Image). z.key) k,
        record {
          changing = [];
          later = ss;
          sts = [];
          parts = ap (λ z. z ∷ ss) f;
          read = tt;
          made = ap (λ (z : Image). Some z.columns) k ∙ sym e;
        },
      )
      at (Some c) e f (inr k) = absurd k

      by : (b : Bool) → same_executed (executed_of t.executed) s ≡ b → In (if b then images_with key row else []) image → Here row (u ∷ ss) image
      by true e k = at row refl (sym same ∙ said_is (executed_of t.executed) s e) k
      by false e k = absurd k

  made_of_from : (ss : List Executed) (ts : List Turn) (row : Option (List Pair)) (image : Image) → AreTurns events client ss ts → In (rows_from catalog s key row ts) image → Here row ss image
  made_of_from ss [] row image a i = absurd i
  made_of_from [] (t ∷ ts) row image a i = absurd a
  made_of_from (u ∷ ss) (t ∷ ts) row image (h, a) i = elim (in_either (image_then s key row t) (if is_effective (executed_of t.executed) then option_map_or (λ st. rows_from catalog s key (row_left catalog st key row) ts) t.statement [] else rows_from catalog s key row ts) image i) [
    | inl j ↦ made_here u ss t row image h.executed j
    | inr j ↦ later (is_effective (executed_of t.executed)) (ap is_effective (sym h.executed)) t.statement refl j (λ o k. made_of_from ss ts o image a k)
  ]
    where
      later : (b : Bool) → is_effective u ≡ b → (o : Option Statement) → t.statement ≡ o → In (if b then option_map_or (λ st. rows_from catalog s key (row_left catalog st key row) ts) o [] else rows_from catalog s key row ts) image
          → ((r : Option (List Pair)) → In (rows_from catalog s key r ts) image → Here r ss image) → Here row (u ∷ ss) image
      later false f o e k more = let p = more row k in (
        p.0,
        record {
          changing = u ∷ p.1.changing;
          later = p.1.later;
          sts = p.1.sts;
          parts = ap (λ z. u ∷ z) p.1.parts;
          read = subst (λ b. AreRead (if b then u ∷ filter is_effective p.1.changing else filter is_effective p.1.changing) p.1.sts) (sym f) p.1.read;
          made = p.1.made;
        },
      )
      later true f None e k more = absurd k
      later true f (Some st) e k more = let p = more (row_left catalog st key row) k in (
        p.0,
        record {
          changing = u ∷ p.1.changing;
          later = p.1.later;
          sts = st ∷ p.1.sts;
          parts = ap (λ z. u ∷ z) p.1.parts;
          read = subst (λ b. AreRead (if b then u ∷ filter is_effective p.1.changing else filter is_effective p.1.changing) (st ∷ p.1.sts)) (sym f) ((h.read st).1 e, p.1.read);
          made = p.1.made;
        },
      )

  -- the row that is handed on by a turn
  abbrev Onward : Option (List Pair) → Turn → List Turn → List Image
  Onward row t ts = if is_effective (executed_of t.executed) then option_map_or (λ st. rows_from catalog s key (row_left catalog st key row) ts) t.statement [] else rows_from catalog s key row ts

  from_made : (changing later : List Executed) (sts : List Statement) (ts : List Turn) (row : Option (List Pair)) (columns : List Pair) → AreRead (filter is_effective changing) sts → Some columns ≡ fold (λ r st. row_left catalog st key r) row sts → AreTurns events client (changing ++ s ∷ later) ts
      → In (rows_from catalog s key row ts) (record { key = key; columns = columns })
  from_made [] later [] [] row columns r m a = absurd a
  from_made [] later [] (t ∷ ts) row columns r m (h, a) =
      in_left (image_then s key row t) (Onward row t ts) (record { key = key; columns = columns })
      (subst (λ b. In (if b then images_with key row else []) (record { key = key; columns = columns })) (sym (ap (λ z. same_executed z s) h.executed ∙ said_itself s)) (subst (λ o. In (images_with key o) (record { key = key; columns = columns })) m (inl refl)))
  from_made [] later (st ∷ sts) ts row columns r m a = absurd r
  from_made (c ∷ cs) later sts [] row columns r m a = absurd a
  from_made (c ∷ cs) later sts (t ∷ ts) row columns r m (h, a) =
      in_right (image_then s key row t) (Onward row t ts) (record { key = key; columns = columns })
      (by (is_effective c) refl sts r m (λ us o k n. from_made cs later us ts o columns k n a))
    where
      by : (b : Bool) → is_effective c ≡ b → (us : List Statement) → AreRead (if b then c ∷ filter is_effective cs else filter is_effective cs) us → Some columns ≡ fold (λ r st. row_left catalog st key r) row us
          → ((vs : List Statement) (o : Option (List Pair)) → AreRead (filter is_effective cs) vs → Some columns ≡ fold (λ r st. row_left catalog st key r) o vs → In (rows_from catalog s key o ts) (record { key = key; columns = columns })) → In (Onward row t ts) (record { key = key; columns = columns })
      by false f us k n more =
          subst (λ b. In (if b then option_map_or (λ st. rows_from catalog s key (row_left catalog st key row) ts) t.statement [] else rows_from catalog s key row ts) (record { key = key; columns = columns })) (sym (ap is_effective h.executed ∙ f)) (more us row k n)
      by true f [] k n more = absurd k
      by true f (st ∷ us) (rd, k) n more =
          subst (λ b. In (if b then option_map_or (λ st. rows_from catalog s key (row_left catalog st key row) ts) t.statement [] else rows_from catalog s key row ts) (record { key = key; columns = columns })) (sym (ap is_effective h.executed ∙ f))
          (subst (λ o. In (option_map_or (λ st. rows_from catalog s key (row_left catalog st key row) ts) o []) (record { key = key; columns = columns })) (sym ((h.read st).0 rd)) (more us (row_left catalog st key row) k n))

---- the rows that there are

-- a transaction with these statements has a row at a key when it takes one of them
pub record IsHad (catalog : List Table) (x : Stores) (events : List Event) (client : ℕ) (ss : List Executed) (s : Executed) (key : Key) (columns : List Pair) : Type 0 where
  pub first : Executed
  pub earlier : List Executed
  pub changing : List Executed
  pub later : List Executed
  pub sts : List Statement
  pub base : Option (List Pair)
  pub parts : ss ≡ earlier ++ changing ++ s ∷ later
  pub begins : StartsWith first (changing ++ s ∷ [])
  pub finished : has_read events client first ≡ true
  pub observed : Was x events client first key base
  pub read : AreRead (filter is_effective changing) sts
  pub made : Some columns ≡ fold (λ r st. row_left catalog st key r) base sts

head_is : (a b : Executed) (ys zs : List Executed) → a ∷ ys ≡ b ∷ zs → a ≡ b
head_is a b ys zs h = cc

module _ (catalog : List Table) (x : Stores) (events : List Event) (client : ℕ) (s : Executed) (key : Key) where
  starts : (u : Executed) (ss changing later : List Executed) → u ∷ ss ≡ changing ++ s ∷ later → StartsWith u (changing ++ s ∷ [])
  starts u ss [] later e = head_is u s ss later e
  starts u ss (c ∷ cs) later e = head_is u c ss (cs ++ s ∷ later) e

  pub had_is : (ss : List Executed) (ts : List Turn) (image : Image) → AreTurns events client ss ts → In (had_at catalog x s key ts) image → (image.key ≡ key) × IsHad catalog x events client ss s key image.columns
  had_is ss [] image a i = absurd i
  had_is [] (t ∷ ts) image a i = absurd a
  had_is (u ∷ ss) (t ∷ ts) image (h, a) i = elim (in_either (flat_map (λ base. rows_from catalog s key base (t ∷ ts)) (bases x key t)) (had_at catalog x s key ts) image i) [
    | inl j ↦ let r = in_flat (λ base. rows_from catalog s key base (t ∷ ts)) (bases x key t) image j in first r.0 r.1 (made_of_from catalog events client s key (u ∷ ss) (t ∷ ts) r.0 image (h, a) r.2)
    | inr j ↦ more (had_is ss ts image a j)
  ]
    where
      first : (base : Option (List Pair)) → In (bases x key t) base → (image.key ≡ key) × IsMade catalog s key base (u ∷ ss) image.columns → (image.key ≡ key) × IsHad catalog x events client (u ∷ ss) s key image.columns
      first base k p = (
        p.0,
        record {
          first = u;
          earlier = [];
          changing = p.1.changing;
          later = p.1.later;
          sts = p.1.sts;
          base = base;
          parts = p.1.parts;
          begins = starts u ss p.1.changing p.1.later p.1.parts;
          finished = (bases_is x events client u t key base h k).0;
          observed = (bases_is x events client u t key base h k).1;
          read = p.1.read;
          made = p.1.made;
        },
      )

      more : (image.key ≡ key) × IsHad catalog x events client ss s key image.columns → (image.key ≡ key) × IsHad catalog x events client (u ∷ ss) s key image.columns
      more p = (
        p.0,
        record {
          first = p.1.first;
          earlier = u ∷ p.1.earlier;
          changing = p.1.changing;
          later = p.1.later;
          sts = p.1.sts;
          base = p.1.base;
          parts = ap (λ z. u ∷ z) p.1.parts;
          begins = p.1.begins;
          finished = p.1.finished;
          observed = p.1.observed;
          read = p.1.read;
          made = p.1.made;
        },
      )

  from_first : (first u : Executed) (t : Turn) (ts : List Turn) (base : Option (List Pair)) (image : Image) → first ≡ u → IsTurn events client u t → has_read events client first ≡ true → Was x events client first key base → In (rows_from catalog s key base (t ∷ ts)) image → In (had_at catalog x s key (t ∷ ts)) image
  from_first first u t ts base image same h f w i =
      in_left (flat_map (λ b. rows_from catalog s key b (t ∷ ts)) (bases x key t)) (had_at catalog x s key ts) image
      (flat_in (λ b. rows_from catalog s key b (t ∷ ts)) (bases x key t) base image (is_bases x events client u t key base h (ap (has_read events client) (sym same) ∙ f) (subst (λ z. Was x events client z key base) same w)) i)

  found : (earlier changing later : List Executed) (first : Executed) (sts : List Statement) (base : Option (List Pair)) (ts : List Turn) (columns : List Pair) → AreTurns events client (earlier ++ changing ++ s ∷ later) ts → StartsWith first (changing ++ s ∷ [])
      → has_read events client first ≡ true → Was x events client first key base → AreRead (filter is_effective changing) sts → Some columns ≡ fold (λ r st. row_left catalog st key r) base sts → In (had_at catalog x s key ts) (record { key = key; columns = columns })
  found [] [] later first sts base [] columns a b f w r m = absurd a
  found [] [] later first sts base (t ∷ ts) columns a b f w r m = from_first first s t ts base (record { key = key; columns = columns }) b a.0 f w (from_made catalog events client s key [] later sts (t ∷ ts) base columns r m a)
  found [] (c ∷ cs) later first sts base [] columns a b f w r m = absurd a
  found [] (c ∷ cs) later first sts base (t ∷ ts) columns a b f w r m = from_first first c t ts base (record { key = key; columns = columns }) b a.0 f w (from_made catalog events client s key (c ∷ cs) later sts (t ∷ ts) base columns r m a)
  found (e ∷ es) changing later first sts base [] columns a b f w r m = absurd a
  found (e ∷ es) changing later first sts base (t ∷ ts) columns (h, a) b f w r m =
      in_right (flat_map (λ y. rows_from catalog s key y (t ∷ ts)) (bases x key t)) (had_at catalog x s key ts) (record { key = key; columns = columns }) (found es changing later first sts base ts columns a b f w r m)

  pub is_had : (ss : List Executed) (ts : List Turn) (columns : List Pair) → AreTurns events client ss ts → IsHad catalog x events client ss s key columns → In (had_at catalog x s key ts) (record { key = key; columns = columns })
  is_had ss ts columns a h = found h.earlier h.changing h.later h.first h.sts h.base ts columns (subst (λ z. AreTurns events client z ts) h.parts a) h.begins h.finished h.observed h.read h.made
