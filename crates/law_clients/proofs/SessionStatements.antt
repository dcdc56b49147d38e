-- A statement of an open transaction of a client that is alone: its read makes another call, or it is answered as on plain tables that are
-- the images, or why it wasn't.
use Rattle.law_clients.specs.Types.{Access, Answer, Key, Keyed, Next, PlanStep, Read, Record, Reply, Request, Scan, Statement, Table, TxId, Write}
use Rattle.sdb_model.specs.Access.{rows_at}
use Rattle.law_clients.proofs.Keys.{keys_changed, keys_more, keys_with, many_is}
use Rattle.law_clients.specs.Keys.{is_too_many, keys_of_body, keys_written, pass_with, passes_most, with_keys}
use Rattle.std.proofs.Common.{◌≡◌, ℤ, Bool, true, false, List, [], ◌∷◌, ◌++◌, Option, Some, None, refl, sym, ap, subst, ◌∙◌, append_assoc, map}
use Rattle.std.specs.Prelude.{◌||◌, is_some, if◌then◌else◌, find}
use Rattle.std.specs.Option.{option_and_then}
use Rattle.std.specs.List.{AllByRecursion, list_any}
use Rattle.std.specs.FinMap.{get}
use Rattle.sdb_types.specs.Contents.{in_span}
use Rattle.sdb_types.specs.Order.{same_key}
use Rattle.sdb_types.proofs.Public.{by_test, false_true, none_some, or_true}
use Rattle.sdb_record.specs.declared.access.Access.TheVariants as access
use Rattle.sdb_record.specs.Among.{version_among}
use Rattle.sdb_record.specs.Coordinator.{coordinator_key_of}
use Rattle.sdb_record.specs.Meta.{id_in, is_moment}
use Rattle.sdb_record.specs.Moved.{version_of}
use Rattle.sdb_record.specs.Rolls.{image_of, row_of_image}
use Rattle.sdb_model.specs.declared.answer.Answer.TheVariants as answer
use Rattle.sdb_model.specs.declared.statement.Statement.TheVariants as statement
use Rattle.sdb_model.specs.Causes.{refused}
use Rattle.sdb_model.specs.Exec.{Tables, answer_of as answer_on_tables, exec_in, key_of, named_table, all_rows, table_of}
use Rattle.sdb_model.specs.Refused.{refusal_by}
use Rattle.sdb_model.specs.Transactions.{changes_nothing, is_answered_from_rows}
use Rattle.sdb_exec.specs.declared.plan.PlanStep.TheVariants.{Finished}
use Rattle.sdb_exec.specs.Plans.{Planned, finished, first_unfit, step_at, step_of, changes_on}
use Rattle.sdb_model.specs.Reads.{access_of}
use Rattle.sdb_exec.proofs.Public.{named_is_table}
use Rattle.law_protocol.specs.Lawful.{Labelled}
use Rattle.sdb_txn.specs.declared.read.ReadStep.TheVariants as step
use Rattle.sdb_txn.specs.Read.{ReadAt, ReadStage, Asking, Resolving, Ended, read_pending_at, read_result, read_step, request_of}
use Rattle.sdb_snapshot.specs.Reads.{base_at, is_key_read}
use Rattle.sdb_snapshot.specs.Rows.{row_found, with_own}
use Rattle.sdb_snapshot.specs.Seen.{Seen, overlay, with_written}
use Rattle.sdb_snapshot.specs.Written.{AreChanges}
use Rattle.sdb_snapshot.proofs.Public.{overlay_is}
use Rattle.sdb_txn.specs.declared.txn.Doing.TheVariants as doing
use Rattle.sdb_txn.specs.Txn.{TxnAt, idle as idle_of}
use Rattle.sdb_client.specs.declared.next.Next.TheVariants as next
use Rattle.sdb_client.specs.Client.{CallPost, RowsReadPost, IsAsRead, IsChangedAt, StagePost, gives, given_answer, given_left, with_rows_read, too_many, written}
use Rattle.sdb_client.specs.Inside.{IsValidPlan, IsKeyRead, MayWrite}
use Rattle.sdb_client.proofs.Public.{may_write}
use Rattle.law_clients.specs.Reads.{with_read}
use Rattle.law_clients.specs.Body.{AgreesAll, AnswersOn, BodyOk, ReadAgrees, ScanAgrees}
use Rattle.law_clients.proofs.Bodies.{access_agrees, body_read, body_step}
use Rattle.law_clients.proofs.ReadRecords.{coordinators}
use Rattle.law_clients.specs.Fitting.{tables_are_well_typed}
use Rattle.law_clients.proofs.Fitted.{by_next}
use Rattle.law_clients.proofs.RowsFit.{answers_on, found_itself, all_in_fit}
use Rattle.law_clients.proofs.ReadReplies.{covered_now, key_read_now, IsNoting, is_noting}
use Rattle.law_clients.specs.Database.{Called, Database, decided_on, is_committed_or_none, is_listed, row_in}
use Rattle.law_clients.specs.OnlyResolves.{IsApart, OnlyResolves, IsSound}
use Rattle.law_clients.specs.SessionReads.{AreCommitted, ReadAlone, AreRowsAt}
use Rattle.law_clients.specs.Clients.{Added, IdleAlone, IsAskedFor, IsUnused, Kept, LedAlone, OpenAlone, Passes}
use Rattle.law_clients.specs.Commits.{IsScanCurrent}
use Rattle.law_clients.specs.Seen.{SeenAlone, AreImagesOf, was_covered}
use Rattle.law_clients.proofs.SessionReading.{reads}
use Rattle.law_clients.proofs.SessionSeen.{base_firm, gotten, scanned, seen_settles, seen_written, are_images as events_of, unmoved}
use Rattle.law_clients.proofs.Leaves.{row_names, writer_fits}
use Rattle.law_clients.proofs.Resolves.{firm_image, sound_stays, unresolved_before, row_stays}
use Rattle.law_clients.proofs.Writes.{taken_id}

---- what a read has noted

---- tables that are the images agree with all that was read

module _ (catalog : List Table) (past : List Labelled) (g : Database) (sound : IsSound catalog g) (s : Seen) (alone : SeenAlone catalog past g s) (d : Tables) (are_images : AreImagesOf catalog g d) where
  row_there : (q : Key) → was_covered s q ≡ true → row_found (base_at s.read_set q) ≡ get d q
  row_there q covered =
      let x = alone.matches q covered in
      let firm = ap is_committed_or_none x.1 ∙ base_firm s.read_set alone.ok.kept.bases q in
      ap row_found (sym x.1) ∙ ap row_found (sym (firm_image (g q) (decided_on g) firm)) ∙ sym (are_images q ∙ ap (λ b. if b then row_in g q else None) x.0)

  read_agrees : (r : Read) → (is_key_read s.read_set r.key ≡ true) × (r.version ≡ version_of (base_at s.read_set r.key)) → ReadAgrees s d r
  read_agrees r x = row_there r.key (ap (λ b. b || list_any (λ y. in_span y.span r.key) s.scans) x.0)

  -- a key of a scanned span with no version has no record
  none_there : (x : Scan) → IsScanCurrent catalog g x → (q : Key) → in_span x.span q ≡ true → version_among x.found q ≡ None → get d q ≡ None
  none_there x a q within none = are_images q ∙ ap (λ b. if b then row_in g q else None) i.0 ∙ by (g q) refl
    where
      i : (is_listed catalog q ≡ true) × (is_committed_or_none (g q) ≡ true) × (version_of (g q) ≡ version_among x.found q)
      i = a.inside q within

      by : (o : Option Record) → g q ≡ o → row_in g q ≡ None
      by None e = ap (λ o. option_and_then row_of_image (option_and_then (λ r. image_of r (decided_on g r)) o)) e
      by (Some r) e = none_some (has_id.0) (sym (ap version_of (sym e) ∙ i.2 ∙ none) ∙ has_id.1)
        where
          has_id : (id : TxId) × (id_in r.columns ≡ Some id)
          has_id = taken_id r (sound.accepted q r i.0 e)

  not_found : (rs : List Read) (q : Key) → list_any (λ r. same_key q r.key) rs ≡ false → version_among rs q ≡ None
  not_found [] q h = refl
  not_found (r ∷ rs) q h = by (same_key q r.key) refl (not_found rs q)
    where
      by : (b : Bool) → same_key q r.key ≡ b → (list_any (λ x. same_key q x.key) rs ≡ false → version_among rs q ≡ None) → version_among (r ∷ rs) q ≡ None
      by true e rest = false_true (sym h ∙ ap (λ b. b || list_any (λ x. same_key q x.key) rs) e)
      by false e rest = ap (λ b. option_and_then (λ (x : Read). x.version) (if b then Some r else find (λ x. same_key q x.key) rs)) e ∙ rest (sym (ap (λ b. b || list_any (λ x. same_key q x.key) rs) e) ∙ h)

  scan_agrees : (pre : List Scan) (x : Scan) (post : List Scan) → s.scans ≡ pre ++ x ∷ post → IsScanCurrent catalog g x → ScanAgrees s d x
  scan_agrees pre x post at a q within = (
    λ found. row_there q (ap (λ b. is_key_read s.read_set q || b) (ap (list_any (λ y. in_span y.span q)) at ∙ any_middle pre) ∙ or_true (is_key_read s.read_set q)),
    λ free. none_there x a q within (not_found x.found q free),
  )
    where
      any_middle : (ys : List Scan) → list_any (λ y. in_span y.span q) (ys ++ x ∷ post) ≡ true
      any_middle [] = ap (λ b. b || list_any (λ y. in_span y.span q) post) within
      any_middle (y ∷ ys) = ap (λ b. in_span y.span q || b) (any_middle ys) ∙ or_true (in_span y.span q)

  pub agrees_all : AgreesAll s d
  agrees_all = record { reads = each_read s.reads alone.ok.reads; scans = each_scan [] s.scans refl alone.scans }
    where
      each_read : (rs : List Read) → AllByRecursion (λ r. (is_key_read s.read_set r.key ≡ true) × (r.version ≡ version_of (base_at s.read_set r.key))) rs → AllByRecursion (ReadAgrees s d) rs
      each_read [] a = tt
      each_read (r ∷ rs) a = (read_agrees r a.0, each_read rs a.1)

      each_scan : (pre xs : List Scan) → s.scans ≡ pre ++ xs → AllByRecursion (IsScanCurrent catalog g) xs → AllByRecursion (ScanAgrees s d) xs
      each_scan pre [] at a = tt
      each_scan pre (x ∷ xs) at a = (scan_agrees pre x xs at a.0, each_scan (pre ++ x ∷ []) xs (at ∙ sym (append_assoc pre (x ∷ []) xs)) a.1)

---- what a statement on a table is answered on plain tables

pub answered_at : (t : Table) (st : Statement) (catalog : List Table) (d : Tables) → named_table catalog st ≡ Some t → is_answered_from_rows (answer_on_tables t st d) ≡ true
answered_at t (statement.Insert s) catalog d named = by (is_some (get d (key_of t s)))
  where
    by : (b : Bool) → is_answered_from_rows (if b then answer.Duplicate (key_of t s) else answer.Count 1) ≡ true
    by true = refl
    by false = refl
answered_at t (statement.Upsert s) catalog d named = refl
answered_at t (statement.Update s) catalog d named = refl
answered_at t (statement.Delete s) catalog d named = refl
answered_at t (statement.Select s) catalog d named = refl
answered_at t statement.Begin catalog d named = none_some t named
answered_at t statement.Commit catalog d named = none_some t named
answered_at t statement.Rollback catalog d named = none_some t named
answered_at t statement.Vacuum catalog d named = none_some t named

pub rows_change : (z : Answer) → is_answered_from_rows z ≡ true → changes_nothing z ≡ false
rows_change (answer.Rows rows) h = refl
rows_change (answer.Count n) h = refl
rows_change (answer.Duplicate key) h = refl
rows_change z h = absurd (cc)

---- the reply

-- plain tables that are the images were so before
pub images_before : (catalog : List Table) (g h : Database) → IsSound catalog g → OnlyResolves catalog g h → (d : Tables) → AreImagesOf catalog h d → AreImagesOf catalog g d
images_before catalog g h sound s d same_rows k = same_rows k ∙ by (is_listed catalog k) refl
  where
    by : (w : Bool) → is_listed catalog k ≡ w → (if is_listed catalog k then row_in h k else None) ≡ (if is_listed catalog k then row_in g k else None)
    by true f = ap (λ w. if w then row_in h k else None) f ∙ row_stays catalog g h s sound k f ∙ sym (ap (λ w. if w then row_in g k else None) f)
    by false f = ap (λ w. if w then row_in h k else None) f ∙ sym (ap (λ w. if w then row_in g k else None) f)

pub id_stays : (catalog : List Table) (g h : Database) (id : TxId) → IsSound catalog g → OnlyResolves catalog g h → IsUnused catalog g id → IsUnused catalog h id
id_stays catalog g h id sound s new = record {
  fits = new.fits;
  undecided = undecided (h key) refl;
  unused = λ k r listed e opened writer. new.unused k r listed (unresolved_before catalog g h s sound k r listed e opened) opened writer;
}
  where
    key : Key
    key = coordinator_key_of id

    undecided : (o : Option Record) → h key ≡ o → h key ≡ None
    undecided None e = e
    undecided (Some row) e =
        let held = (s.fresh key row (coordinators id) new.undecided e).1 in
        absurd (new.unused held.at held.r held.listed held.present held.loose (held.writer ∙ ap (λ x. Some x) (row_names id held.id new.fits (writer_fits held.r held.id held.writer) held.key)))

module _ (catalog : List Table) (apart : IsApart catalog) (g h : Database) (sound : IsSound catalog g) (own : (k : Key) (x : Record) → h k ≡ Some x → x.key ≡ k) (d : Tables) (are_images : AreImagesOf catalog h d) (fit : tables_are_well_typed catalog d ≡ true)
    (before now : ℤ) (time : is_moment now ≡ true) (statements : List Statement) (answers : List Answer) (t : TxnAt) (p : Planned) (a : Access) (k : IsAskedFor catalog p a) (x : ReadAt) (q : Request) (r : Reply)
    (opened : OpenAlone catalog g statements answers t.id t.seen) (alone : ReadAlone catalog g a before x.stage) (asked : read_pending_at (request_of a) x.stage ≡ Some q) (called : Called q r g h) where
  went : OnlyResolves catalog g h × ReadAlone catalog h a now (read_step x.stage now r)
  went = reads catalog apart a k.tables before now time g h x.stage q r sound own alone asked called

  sound_now : IsSound catalog h
  sound_now = sound_stays catalog g h went.0 sound own

  still_seen : SeenAlone catalog opened.past h t.seen
  still_seen = seen_settles catalog opened.past g h t.seen opened.seen went.0

  -- the transaction as it was
  open_now : OpenAlone catalog h statements answers t.id t.seen
  open_now = record { past = opened.past; seen = still_seen; body = opened.body; keys = λ e same_rows fits. opened.keys e (images_before catalog g h sound went.0 e same_rows) fits; new = id_stays catalog g h t.id sound went.0 opened.new }

  abbrev Led : Next → TxnAt → Type 0
  Led = LedAlone catalog h statements answers p a now x t.id

  kept : (z : Answer) → changes_nothing z ≡ true → IdleAlone h a now z → (is_too_many z ≡ true → Passes catalog h statements p.statement true) → Led (next.Answer z) (idle_of t)
  kept z nothing why many = (refl, refl, Kept nothing why many open_now)

  as_led : (n m : Next) (u v : TxnAt) → n ≡ m → u ≡ v → Led m v → Led n u
  as_led n m u v e f s = subst (λ y. Led y u) (sym e) (subst (λ y. Led m y) (sym f) s)

  is_write : IsValidPlan p
  is_write = record { asked = k.asked; table = named_is_table catalog p.statement p.table k.is k.named; accepted = sym (ap (λ (o : Option Table). refusal_by o p.statement) k.named) ∙ k.accepted; literals = k.literals }

  module _ (images : List Record) (rows : AreRowsAt h a images) (firm : AreCommitted images) (as_read : IsAsRead t a images) where
    abbrev seen : Seen
    seen = with_read t.seen a images

    abbrev past : List Labelled
    past = events_of images opened.past

    seen_now : SeenAlone catalog past h seen
    seen_now = by a refl
      where
        by : (b : Access) → a ≡ b → SeenAlone catalog past h seen
        by (access.Get key) e = subst (λ b. SeenAlone catalog past h (with_read t.seen b images)) (sym e) (gotten catalog apart opened.past h sound_now t.seen still_seen a k.tables images rows firm key e (subst (λ b. IsAsRead t b images) e as_read))
        by (access.Scan span) e = subst (λ b. SeenAlone catalog past h (with_read t.seen b images)) (sym e) (scanned catalog apart opened.past h sound_now t.seen still_seen a k.tables images rows firm span e)

    body_now : BodyOk catalog (tables_are_well_typed catalog) statements answers seen
    body_now = body_read opened.past catalog (tables_are_well_typed catalog) statements answers t.seen a images opened.seen.ok opened.body

    step_seen : (v : TxnAt) (b : Answer) (ks : List Keyed) → IsNoting t a images v → gives p a v ≡ Finished b ks → step_of p (overlay (access_of p.table p.statement) seen) ≡ Finished b ks
    step_seen v b ks n e = sym (ap (λ (c : Access). step_of p (overlay c seen)) k.access) ∙ ap (λ (s : Seen). step_of p (overlay a s)) (sym n.seen) ∙ e

    on_tables : (b : Answer) (ks : List Keyed) → step_of p (overlay (access_of p.table p.statement) seen) ≡ Finished b ks → AnswersOn catalog (tables_are_well_typed catalog) seen p.statement a b ks
    on_tables b ks e = subst (λ (c : Access). AnswersOn catalog (tables_are_well_typed catalog) seen p.statement c b ks) (sym k.access) (answers_on catalog p seen k.is k.named k.asked k.accepted k.literals e)

    -- what is given is answered from rows
    answered : (b : Answer) (ks : List Keyed) → step_of p (overlay (access_of p.table p.statement) seen) ≡ Finished b ks → is_answered_from_rows b ≡ true
    answered b ks e =
        let agree = agrees_all catalog past h sound_now seen seen_now d are_images in
        let left : Tables = with_own d seen.writes in
        let run = (on_tables b ks e left (body_now.fits d fit agree) (sym (overlay_is seen a d (access_agrees past seen a d seen_now.ok (covered_now t.seen a images) agree)))).0 in
        ap (λ (y : Answer × Tables). is_answered_from_rows y.0) (sym run) ∙ ap (λ o. is_answered_from_rows (exec_in o p.statement left).0) k.named ∙ answered_at p.table p.statement catalog left k.named

    writes_same : (b : Access) → a ≡ b → (with_read t.seen a images).writes ≡ t.seen.writes
    writes_same (access.Get key) f = ap (λ c. (with_read t.seen c images).writes) f
    writes_same (access.Scan span) f = ap (λ c. (with_read t.seen c images).writes) f

    -- the keys that it writes, on plain tables that are the images
    passes_is : (v : TxnAt) (ks : List Keyed) → IsNoting t a images v → ks ≡ changes_on p.table p.statement (overlay a v.seen) → (b : Bool) → too_many v ks ≡ b → Passes catalog h statements p.statement b
    passes_is v ks n is b many e same_rows fits =
        let agree = agrees_all catalog past h sound_now seen seen_now e same_rows in
        let left : Tables = with_own e seen.writes in
        let over : overlay a v.seen ≡ rows_at (access_of p.table p.statement) left = ap (λ (y : Seen). overlay a y) n.seen ∙ overlay_is seen a e (access_agrees past seen a e seen_now.ok (covered_now t.seen a images) agree) ∙ ap (λ (c : Access). rows_at c left) k.access in
        let written_keys : map (λ (x : Keyed). x.key) ks ≡ keys_written catalog p.statement left = ap (map (λ (x : Keyed). x.key)) (is ∙ ap (changes_on p.table p.statement) over) ∙ keys_changed catalog p.table p.statement left is_write.table k.named (all_in_fit catalog p.table (all_rows left) (found_itself catalog (table_of p.statement) p.table k.named) (body_now.fits e fits agree)) in
        let own_keys : keys_of_body catalog statements e [] ≡ map (λ (w : Write). w.key) v.seen.writes = open_now.keys e same_rows fits ∙ ap (map (λ (w : Write). w.key)) (sym (writes_same a refl) ∙ ap (λ (y : Seen). y.writes) (sym n.seen)) in
        ap (λ (q : List Answer × Tables). passes_most catalog p.statement q.1 (keys_of_body catalog statements e [])) (body_now.runs e fits agree)
        ∙ ap (λ qs. passes_most catalog p.statement left qs) own_keys ∙ ap (pass_with (map (λ (w : Write). w.key) v.seen.writes)) (sym written_keys) ∙ sym (many_is v ks) ∙ many

    keys_now : (v : TxnAt) (ks : List Keyed) → IsNoting t a images v → ks ≡ changes_on p.table p.statement (overlay a v.seen) → (e : Tables) → AreImagesOf catalog h e → tables_are_well_typed catalog e ≡ true → keys_of_body catalog (statements ++ p.statement ∷ []) e [] ≡ map (λ (w : Write). w.key) (with_written v.seen ks).writes
    keys_now v ks n is e same_rows fits =
        let agree = agrees_all catalog past h sound_now seen seen_now e same_rows in
        let left : Tables = with_own e seen.writes in
        let over : overlay a v.seen ≡ rows_at (access_of p.table p.statement) left = ap (λ (y : Seen). overlay a y) n.seen ∙ overlay_is seen a e (access_agrees past seen a e seen_now.ok (covered_now t.seen a images) agree) ∙ ap (λ (c : Access). rows_at c left) k.access in
        let written_keys : map (λ (x : Keyed). x.key) ks ≡ keys_written catalog p.statement left = ap (map (λ (x : Keyed). x.key)) (is ∙ ap (changes_on p.table p.statement) over) ∙ keys_changed catalog p.table p.statement left is_write.table k.named (all_in_fit catalog p.table (all_rows left) (found_itself catalog (table_of p.statement) p.table k.named) (body_now.fits e fits agree)) in
        let own_keys : keys_of_body catalog statements e [] ≡ map (λ (w : Write). w.key) v.seen.writes = open_now.keys e same_rows fits ∙ ap (map (λ (w : Write). w.key)) (sym (writes_same a refl) ∙ ap (λ (y : Seen). y.writes) (sym n.seen)) in
        keys_more catalog statements p.statement e [] ∙ ap (λ (q : List Answer × Tables). with_keys (keys_of_body catalog statements e []) (keys_written catalog p.statement q.1)) (body_now.runs e fits agree)
        ∙ ap (λ qs. with_keys qs (keys_written catalog p.statement left)) own_keys ∙ ap (with_keys (map (λ (w : Write). w.key) v.seen.writes)) (sym written_keys) ∙ sym (keys_with v.seen.read_set v.seen.writes ks)

    added : (v : TxnAt) (b : Answer) (ks : List Keyed) → IsNoting t a images v → gives p a v ≡ Finished b ks → ks ≡ changes_on p.table p.statement (overlay a v.seen) → is_answered_from_rows b ≡ true → too_many v ks ≡ false → Led (next.Answer b) (written v ks)
    added v b ks n gave is some few =
        let e = step_seen v b ks n gave in
        let changes : AreChanges seen.read_set ks = subst (MayWrite seen.read_set) e (may_write seen p is_write seen_now.ok.kept (subst (IsKeyRead seen.read_set) k.access (key_read_now t.seen a images))) in (
          n.idle,
          n.id,
          Added some (passes_is v ks n is false few) (record {
            past = past;
            seen = subst (λ s. SeenAlone catalog past h (with_written s ks)) (sym n.seen) (seen_written catalog past h seen ks seen_now changes);
            body = subst (λ s. BodyOk catalog (tables_are_well_typed catalog) (statements ++ p.statement ∷ []) (answers ++ b ∷ []) (with_written s ks)) (sym n.seen) (body_step past catalog (tables_are_well_typed catalog) statements answers seen p.statement a b ks body_now seen_now.ok (covered_now t.seen a images) (on_tables b ks e));
            keys = keys_now v ks n is;
            new = open_now.new;
          }),
        )

    -- it is refused, and what it read stays noted
    kept_read : (v : TxnAt) (ks : List Keyed) → IsNoting t a images v → ks ≡ changes_on p.table p.statement (overlay a v.seen) → too_many v ks ≡ true → Led (next.Answer (refused 15)) v
    kept_read v ks n is many = (
      n.idle,
      n.id,
      Kept refl refl (λ _. passes_is v ks n is true many) (record {
        past = past;
        seen = subst (SeenAlone catalog past h) (sym n.seen) seen_now;
        body = subst (BodyOk catalog (tables_are_well_typed catalog) statements answers) (sym n.seen) body_now;
        keys = λ e same_rows fits. open_now.keys e same_rows fits ∙ ap (map (λ (w : Write). w.key)) (sym (writes_same a refl) ∙ ap (λ (y : Seen). y.writes) (sym n.seen));
        new = open_now.new;
      }),
    )

    abbrev Answers : TxnAt → PlanStep → Type 0
    Answers v s = Led (next.Answer (given_answer v s)) (given_left v s)

    finished_at : (v : TxnAt) (b : Answer) (ks : List Keyed) → IsNoting t a images v → gives p a v ≡ Finished b ks → ks ≡ changes_on p.table p.statement (overlay a v.seen) → Answers v (Finished b ks)
    finished_at v b ks n gave is =
        let rows = answered b ks (step_seen v b ks n gave) in
        let some : changes_nothing b ≡ false = rows_change b rows in
        by_test (too_many v ks) (λ m. rw (some, m) (kept_read v ks n is m)) (λ m. rw (some, m) (rw some (added v b ks n gave is rows m)))

    took : (v : TxnAt) → IsNoting t a images v → Answers v (gives p a v)
    took v n = by (first_unfit p.table (overlay a v.seen)) refl
      where
        gave : (o : Option Key) → first_unfit p.table (overlay a v.seen) ≡ o → gives p a v ≡ finished p.table p.statement (overlay a v.seen) o
        gave o e = ap (λ (b : Bool). step_at b p.table p.statement (overlay a v.seen)) k.asked ∙ ap (finished p.table p.statement (overlay a v.seen)) e

        by : (o : Option Key) → first_unfit p.table (overlay a v.seen) ≡ o → Answers v (gives p a v)
        by None e = subst (Answers v) (sym (gave None e)) (finished_at v _ _ n (gave None e) refl)
        by (Some key) e = false_true (answered (answer.BadRecord key) [] (step_seen v (answer.BadRecord key) [] n (gave (Some key) e)))

  images_case : (images : List Record) → AreRowsAt h a images → AreCommitted images → (n : Next) (u : TxnAt) → RowsReadPost t p a images n u → Led n u
  images_case images rows firm (next.Answer z) u e =
      as_led (next.Answer z) (next.Answer (given_answer (with_rows_read t a images) (gives p a (with_rows_read t a images)))) u (given_left (with_rows_read t a images) (gives p a (with_rows_read t a images))) (ap next.Answer e.1) e.2
      (took images rows firm e.0 (with_rows_read t a images) (is_noting t a images))
  images_case images rows firm (next.End (answer.Conflict key found)) u e = by a refl e
    where
      by : (b : Access) → a ≡ b → IsChangedAt t b images key found → ⊥
      by (access.Get key2) f m = absurd m
      by (access.Scan span) f m = false_true (sym (unmoved catalog apart opened.past h sound_now t.seen still_seen a k.tables images rows firm span f key m.inside) ∙ m.moved)
  images_case images rows firm n u e = absurd e

  stage_case : (s : ReadStage) → ReadAlone catalog h a now s → (n : Next) (u : TxnAt) → StagePost t p a x s (read_result s) n u → Led n u
  stage_case Asking w n u e = as_led n next.Call u (record t { doing = doing.Read a (record x { stage = Asking }) }) e.0 e.1 (open_now, refl, record x { stage = Asking }, refl, refl, w)
  stage_case (Resolving images rec meta f left) w n u e = as_led n next.Call u (record t { doing = doing.Read a (record x { stage = Resolving images rec meta f left }) }) e.0 e.1 (open_now, refl, record x { stage = Resolving images rec meta f left }, refl, refl, w)
  stage_case (Ended step.More) w n u e = as_led n next.Call u (record t { doing = doing.Read a (record x { stage = Ended step.More }) }) e.0 e.1 (open_now, refl, record x { stage = Ended step.More }, refl, refl, w)
  stage_case (Ended (step.Images images)) w n u e = images_case images w.0 w.1 n u e
  stage_case (Ended (step.Busy key id at)) w n u e = as_led n (next.Answer (answer.Busy key id at)) u (idle_of t) e.0 e.1 (kept (answer.Busy key id at) refl w (λ m. false_true m))
  stage_case (Ended step.Faulted) w n u e = as_led n (next.Answer answer.Faulted) u (idle_of t) e.0 e.1 (kept answer.Faulted refl tt (λ m. false_true m))
  stage_case (Ended (step.BadRecord key)) w n u e = absurd w
  stage_case (Ended step.NoMemory) w n u e = absurd e

  -- Whatever call of a statement's read is pending, and whatever its reply.
  pub read_answered : (n : Next) (u : TxnAt) → CallPost t p a x r now n u → OnlyResolves catalog g h × Led n u
  read_answered n u e = (
    went.0,
    by_next n
        (λ f. as_led n (next.Answer answer.NoMemory) u (idle_of t) f (e.memory f) (kept answer.NoMemory refl tt (λ m. false_true m)))
        (λ f. stage_case (read_step x.stage now r) went.1 n u (e.answered f)),
  )
