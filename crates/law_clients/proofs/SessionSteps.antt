-- What each statement of a session that is alone leaves of the committed images, and what the whole session owes.
use Rattle.std.proofs.Common.{◌≡◌, ℕ, Bool, true, false, List, [], ◌∷◌, ◌++◌, map, Option, Some, None, Ok, ◌⊎◌, inl, inr, refl, sym, ap, subst, ◌∙◌}
use Rattle.std.specs.Prelude.{◌&&◌, ◌||◌, find, is_some, not, if◌then◌else◌}
use Rattle.std.specs.Option.{option_map_or}
use Rattle.law_clients.specs.Types.{Answer, Key, Refusal, Table, Write}
use Rattle.sdb_types.specs.Order.{same_key}
use Rattle.sdb_types.proofs.Public.{false_true, none_some, some_is}
use Rattle.sdb_record.specs.Among.{is_written}
use Rattle.sdb_record.specs.Rolls.{is_tombstone}
use Rattle.sdb_model.specs.declared.answer.Answer.TheVariants as answer
use Rattle.sdb_model.specs.declared.statement.Statement.TheVariants as statement
use Rattle.sdb_model.specs.Exec.{Tables}
use Rattle.sdb_client.specs.Client.{ClientAt}
use Rattle.sdb_snapshot.specs.Seen.{Seen}
use Rattle.law_clients.specs.Fitting.{tables_are_well_typed}
use Rattle.law_clients.specs.Database.{Database, decided_in}
use Rattle.law_clients.specs.OnlyResolves.{IsApart, IsSound}
use Rattle.law_clients.specs.Recovers.{IsAborted, IsCommittedAt, IsUndecided}
use Rattle.law_clients.specs.Seen.{AreImagesOf}
use Rattle.law_clients.specs.Clients.{OpenAlone}
use Rattle.law_clients.specs.Tombstones.{AllClean, HasVacuumed, HasWritten, OnlyRemoves, SameImages, is_among, is_clean}
use Rattle.law_clients.specs.Between.{Answered, Begun, CommitEnds, Ended, Lost, OpenTransaction, RolledBack, StatementEnds, Vacuumed, VacuumedBy, Turned, Won}
use Rattle.law_clients.specs.Session.{AreSteps, Exchange, IsSerialSession, IsStep, IsVacuumed, Part, Parts, answers_in, is_commit, is_count, is_recorded_in, is_recorded_by, is_recorded_commit, is_vacuum, is_written_by, no_parts, parts_after, parts_of, statements_in, tables_after, rejected}
use Rattle.law_clients.specs.Chain.{Answers, Chain, Exchanged, OutOfMemory, open_of, transaction_of}
use Rattle.law_clients.proofs.Recovers.{row_at}
use Rattle.law_clients.proofs.Resolves.{image_stays}
use Rattle.law_clients.proofs.Stays.{aborted_not, is_committed_by, serial_answered}
use Rattle.law_clients.proofs.SessionLaws.{AreFresh, So, all_serial, away_none, away_open, begins_serial, no_word, session_at, step}

-- the keys of writes
among_written : (ws : List Write) (k : Key) → is_among (map (λ w. w.key) ws) k ≡ is_written ws k
among_written [] k = refl
among_written (w ∷ ws) k = by (same_key k w.key) (among_written ws k)
  where
    by : (b : Bool) → is_among (map (λ w. w.key) ws) k ≡ is_written ws k → (b || is_among (map (λ w. w.key) ws) k) ≡ is_some (if b then Some w else find (λ x. same_key k x.key) ws)
    by true e = refl
    by false e = e

and_none : (b : Bool) → (b && false) ≡ false
and_none true = refl
and_none false = refl

module _ (catalog : List Table) (d : Tables) (g h : Database) (e : Exchange) where
  -- nothing was recorded, and VACUUM not counted
  same_step : (o : Option Part) → SameImages catalog g h → is_recorded_commit h o e ≡ false → ((n : ℕ) → is_vacuum e.says ≡ true → e.answer ≡ answer.Count n → ⊥) → IsStep catalog g d o e h
  same_step o same bare none = record {
    committed = λ t f r. false_true (sym bare ∙ r);
    removed = λ v k listed. inl (same k listed);
    counted = λ n v f. absurd (none n v f);
    same = λ b v. same;
  }

  unmoved : h ≡ g → SameImages catalog g h
  unmoved same = subst (SameImages catalog g) (sym same) (λ k listed. refl)

  refused_none : (n : ℕ) → (e.answer ≡ answer.OpenTransactions) ⊎ ((r : Refusal) × (e.answer ≡ answer.Refused r)) → e.answer ≡ answer.Count n → ⊥
  refused_none n (inl f) c = let x : answer.OpenTransactions ≡ answer.Count n = sym f ∙ c in cc
  refused_none n (inr (r, f)) c = let x : answer.Refused r ≡ answer.Count n = sym f ∙ c in cc

  no_memory : (n : ℕ) → e.answer ≡ answer.NoMemory → e.answer ≡ answer.Count n → ⊥
  no_memory n f c = let x : answer.NoMemory ≡ answer.Count n = sym f ∙ c in cc

  turned_step : (o : Option Part) → rejected catalog (is_some o) e.says ≡ Some e.answer → h ≡ g → IsStep catalog g d o e h
  turned_step None away same =
      let a = away_none catalog e.says e.answer away in
      same_step None (unmoved same) (and_none (is_commit e.says)) (λ n v c. refused_none n (inr a.mild) c)
  turned_step (Some t) away same =
      let a = away_open catalog e.says e.answer away in
      same_step (Some t) (unmoved same) (ap (λ b. b && is_recorded_by h t.id e.answer) a.commit) (λ n v c. refused_none n a.mild c)

  starved_step : (o : Option Part) → e.answer ≡ answer.NoMemory → h ≡ g → IsStep catalog g d o e h
  starved_step o none same = same_step o (unmoved same) (bare o) (λ n v c. no_memory n none c)
    where
      bare : (o : Option Part) → is_recorded_commit h o e ≡ false
      bare None = and_none (is_commit e.says)
      bare (Some t) = ap (λ z. is_commit e.says && is_recorded_by h t.id z) none ∙ and_none (is_commit e.says)

  -- it is neither COMMIT nor VACUUM
  plain_step : (o : Option Part) → is_commit e.says ≡ false → is_vacuum e.says ≡ false → SameImages catalog g h → IsStep catalog g d o e h
  plain_step o commit vacuum same = same_step o same (ap (λ b. b && option_map_or (λ t. is_recorded_by h t.id e.answer) o false) commit) (λ n v c. false_true (sym vacuum ∙ v))

  vacuum_step : (o : Option Part) → e.says ≡ Ok statement.Vacuum → OnlyRemoves catalog g h → VacuumedBy catalog g h e.moment e.answer → IsStep catalog g d o e h
  vacuum_step o is removes vacuumed = record {
    committed = λ t f r. false_true (sym (ap (λ x. is_commit x && option_map_or (λ y. is_recorded_by h y.id e.answer) o false) is) ∙ r);
    removed = λ v. removes;
    counted = λ n v f. by n f vacuumed;
    same = λ b v. false_true (sym v ∙ ap is_vacuum is);
  }
    where
      by : (n : ℕ) → e.answer ≡ answer.Count n → VacuumedBy catalog g h e.moment e.answer → HasVacuumed catalog g h e.moment n
      by n f (inl x) = let y : answer.Faulted ≡ answer.Count n = sym x ∙ f in absurd (cc)
      by n f (inr (inl x)) = let y : answer.NoMemory ≡ answer.Count n = sym x ∙ f in absurd (cc)
      by n f (inr (inr (m, x, all))) = subst (HasVacuumed catalog g h e.moment) (let y : answer.Count m ≡ answer.Count n = sym x ∙ f in cc) all

  ---- a COMMIT

  module _ (t : Part) (s : Seen) (is : e.says ≡ Ok statement.Commit) where
    recorded_is : (b : Bool) → is_recorded_by h t.id e.answer ≡ b → is_recorded_commit h (Some t) e ≡ b
    recorded_is b f = ap (λ x. is_commit x && is_recorded_by h t.id e.answer) is ∙ f

    no_vacuum : is_vacuum e.says ≡ false
    no_vacuum = ap is_vacuum is

    won_step : OpenAlone catalog g (statements_in t.inside) (answers_in t.inside) t.id s → AreImagesOf catalog g d → tables_are_well_typed catalog d ≡ true → (e.answer ≡ answer.Committed) ⊎ (e.answer ≡ answer.Unknown t.id) → IsCommittedAt h t.id e.moment → HasWritten catalog (is_written s.writes) g h → IsStep catalog g d (Some t) e h
    won_step opened are_images fit replied decided written = record {
      committed = λ u f r. subst (λ (x : Part). HasWritten catalog (is_written_by catalog d x) g h) (some_is t u f) written_by;
      removed = λ v. false_true (sym no_vacuum ∙ v);
      counted = λ n v f. false_true (sym no_vacuum ∙ v);
      same = λ bare v. false_true (sym bare ∙ recorded_is true (recorded replied));
    }
      where
        same_written : (k : Key) → is_written_by catalog d t k ≡ is_written s.writes k
        same_written k = ap (λ ks. is_among ks k) (opened.keys d are_images fit) ∙ among_written s.writes k

        written_by : HasWritten catalog (is_written_by catalog d t) g h
        written_by = record { there = λ k listed w. written.there k listed (sym (same_written k) ∙ w); others = λ k listed w. written.others k listed (sym (same_written k) ∙ w) }

        recorded : (e.answer ≡ answer.Committed) ⊎ (e.answer ≡ answer.Unknown t.id) → is_recorded_by h t.id e.answer ≡ true
        recorded (inl f) = ap (is_recorded_by h t.id) f
        recorded (inr f) = ap (is_recorded_by h t.id) f ∙ ap is_committed_by decided

    lost_step : (e.answer ≡ answer.Faulted) ⊎ ((e.answer ≡ answer.NoMemory) ⊎ (e.answer ≡ answer.Unknown t.id)) → IsUndecided h t.id ⊎ IsAborted h t.id → SameImages catalog g h → IsStep catalog g d (Some t) e h
    lost_step replied decided same = same_step (Some t) same (recorded_is false (unrecorded replied)) (λ n v f. false_true (sym no_vacuum ∙ v))
      where
        held : IsUndecided h t.id ⊎ IsAborted h t.id → is_recorded_in h t.id ≡ false
        held (inl none) = ap (λ o. is_committed_by (row_at o)) none
        held (inr a) = aborted_not (decided_in h t.id) a

        unrecorded : (e.answer ≡ answer.Faulted) ⊎ ((e.answer ≡ answer.NoMemory) ⊎ (e.answer ≡ answer.Unknown t.id)) → is_recorded_by h t.id e.answer ≡ false
        unrecorded (inl f) = ap (is_recorded_by h t.id) f
        unrecorded (inr (inl f)) = ap (is_recorded_by h t.id) f
        unrecorded (inr (inr f)) = ap (is_recorded_by h t.id) f ∙ held decided

    commit_step : OpenAlone catalog g (statements_in t.inside) (answers_in t.inside) t.id s → AreImagesOf catalog g d → tables_are_well_typed catalog d ≡ true → CommitEnds catalog g h t.id e.moment s e.answer → IsStep catalog g d (Some t) e h
    commit_step opened are_images fit (Won replied decided left written) = won_step opened are_images fit replied decided written
    commit_step opened are_images fit (Lost replied decided left same) = lost_step replied decided same

  ---- any statement

  module _ (sound : IsSound catalog g) (are_images : AreImagesOf catalog g d) (fit : tables_are_well_typed catalog d ≡ true) (c : ClientAt) where
    ended_step : (o : Option Part) (b : OpenTransaction) (s : Seen) → open_of o ≡ Some b → e.says ≡ Ok statement.Commit → OpenAlone catalog g b.statements b.answers b.id s → CommitEnds catalog g h b.id e.moment s e.answer → IsStep catalog g d o e h
    ended_step None b s some is opened ends = none_some b some
    ended_step (Some t) b s some is opened ends =
        let same = sym (some_is (transaction_of t) b some) in
        commit_step t s is (subst (λ (z : OpenTransaction). OpenAlone catalog g z.statements z.answers z.id s) same opened) are_images fit (subst (λ (z : OpenTransaction). CommitEnds catalog g h z.id e.moment s e.answer) same ends)

    turned_at : (o : Option Part) → rejected catalog (is_some (open_of o)) e.says ≡ Some e.answer → h ≡ g → IsStep catalog g d o e h
    turned_at None away same = turned_step None away same
    turned_at (Some t) away same = turned_step (Some t) away same

    ends_step : (o : Option Part) → StatementEnds catalog g e.id e.moment e.says h (open_of o) e.answer c → IsStep catalog g d o e h
    ends_step o (Turned away same left) = turned_at o away same
    ends_step o (Begun is none done same left) = plain_step o (ap is_commit is) (ap is_vacuum is) (unmoved same)
    ends_step o (RolledBack b is some done same left) = plain_step o (ap is_commit is) (ap is_vacuum is) (unmoved same)
    ends_step o (Answered b st p a s is of asked stays some resolves so still) =
        let word = no_word catalog p.statement p.table asked.named in
        let says = is ∙ ap (λ x. Ok x) (sym of) in
        plain_step o (ap is_commit says ∙ word.commit) (ap is_vacuum says ∙ word.vacuum) (image_stays catalog g h resolves sound)
    ends_step o (Ended b s is some opened later ends left) = ended_step o b s some is opened ends
    ends_step o (Vacuumed is none quiet all left) = vacuum_step o is quiet.images all

    exchanged_step : (o : Option Part) → Exchanged catalog g (open_of o) e h c → IsStep catalog g d o e h
    exchanged_step o (Answers ends) = ends_step o ends
    exchanged_step o (OutOfMemory none same commit other) = starved_step o none same

---- the whole

count_is : (z : Answer) → is_count z ≡ true → (n : ℕ) × (z ≡ answer.Count n)
count_is (answer.Count n) h = (n, refl)
count_is z h = absurd (cc)

-- the last statement
last_step : (catalog : List Table) (before : Tables) (g : Database) (p : Parts) (front : List Exchange) (e : Exchange) (last : Database) → AreSteps catalog before g p (front ++ e ∷ []) last → (j : Database) × (d : Tables) × (o : Option Part) × IsStep catalog j d o e last
last_step catalog before g p [] e last (h, images, x, is) = (g, tables_after catalog g before p.ended, p.opened, subst (IsStep catalog g (tables_after catalog g before p.ended) p.opened e) (sym is) x)
last_step catalog before g p (y ∷ front) e last (h, images, x, rest) = last_step catalog before h (parts_after p y) front e last rest

swept_clean : (catalog : List Table) (last : Database) → AllClean catalog last → IsVacuumed catalog last
swept_clean catalog last all k r listed present firm = not_both (is_tombstone r) (sym (ap (λ b. not (b && is_tombstone r)) firm) ∙ sym (ap is_clean present) ∙ all k listed)
  where
    not_both : (b : Bool) → not b ≡ true → b ≡ false
    not_both true f = false_true f
    not_both false f = refl

module _ (catalog : List Table) (apart : IsApart catalog) (start : Database) (before : Tables) where
  steps_at : (p : Parts) (g : Database) (es : List Exchange) (last : Database) → So catalog apart start before g p → AreFresh catalog apart start before p es → Chain catalog g p es last → AreSteps catalog before g p es last
  steps_at p g [] last so new is = is
  steps_at p g (e ∷ es) last so new (h, c, own_h, x, rest) =
      let q = step catalog apart start before p g h e c so own_h new.0 x in
      (h, q.0.are_images, exchanged_step catalog (tables_after catalog g before p.ended) g h e so.sound so.are_images so.fit c p.opened x, steps_at (parts_after p e) h es last q.0 new.1 rest)

  -- What a session of a client that is alone owes.
  pub session_serial : IsSound catalog start → AreImagesOf catalog start before → tables_are_well_typed catalog before ≡ true → {es : List Exchange} {last : Database} → AreFresh catalog apart start before no_parts es → Chain catalog start no_parts es last → IsSerialSession catalog start last before es
  session_serial sound are_images fit {es} {last} new chain =
      let begins = begins_serial catalog apart start before sound are_images fit in
      let so = session_at catalog apart start before no_parts start es last begins new chain in
      let steps = steps_at no_parts start es last begins new chain in
      record {
        serial = serial_answered catalog start last [] before (parts_of es).ended so.0.parts;
        images = so.0.are_images;
        rows = so.0.rows;
        parts = all_serial catalog apart start before last (parts_of es) so.0;
        never = so.1;
        steps = steps;
        vacuumed = λ front e is vacuum counted.
            let x = last_step catalog before start no_parts front e last (subst (λ ys. AreSteps catalog before start no_parts ys last) is steps) in
            let n = count_is e.answer counted in
            swept_clean catalog last (x.3.counted n.0 vacuum n.1).clean;
      }
