-- The extra reads of a COMMIT find what was read.
use Rattle.std.proofs.Common.{◌≡◌, ◌≢◌, Bool, true, false, List, [], ◌∷◌, map, Option, Some, None, ◌⊎◌, inl, inr, refl, sym, ap, ◌∙◌}
use Rattle.std.specs.Prelude.{filter, is_some, not, if◌then◌else◌}
use Rattle.std.specs.Option.{option_map}
use Rattle.std.specs.List.{AllByRecursion, list_all}
use Rattle.law_clients.specs.Types.{Check, Key, Read, Record, Reply, Scan, Table, TxId, Write}
use Rattle.sdb_types.specs.Contents.{are_rows_of, holds, in_span, record_among, rise}
use Rattle.sdb_types.specs.Order.{same_key}
use Rattle.sdb_types.proofs.Public.{and_first, and_second, append_all, false_true, itself, not_true, same_key_decides}
use Rattle.sdb_record.specs.Among.{is_written, version_among, write_among}
use Rattle.sdb_record.specs.Coordinator.{coordinator_key_of, is_coordinator_table}
use Rattle.sdb_record.specs.Moved.{condition_of, is_unchanged, same_version, version_of}
use Rattle.sdb_phases.specs.declared.step.ValidateStep.TheVariants as validate
use Rattle.sdb_phases.specs.Work.{Work}
use Rattle.sdb_phases.specs.Checks.{base_of, check_of_read, check_of_scan, checks, first_difference, wanted}
use Rattle.sdb_phases.specs.Steps.{judged, validate_step}
use Rattle.law_clients.proofs.Lists.{each_filter, each_map}
use Rattle.sdb_validate.specs.Rescan.{IsFirstLost, is_unchanged_at, is_unchanged_by}
use Rattle.sdb_validate.proofs.Public.{first_lost}
use Rattle.law_clients.specs.Database.{Called, Found, Got, Database, HasFailed, NotFound, NotReturned, Same, Scanned, Returned, is_committed_or_none, is_listed}
use Rattle.law_clients.specs.OnlyResolves.{IsApart, IsSound}
use Rattle.law_clients.specs.Commits.{OthersUnchanged, IsReadCurrent, IsScanCurrent, WorkAlone}
use Rattle.law_clients.proofs.Writes.{found_at, based_at, version_holds}
use Rattle.law_clients.proofs.ReadRecords.{coordinators}

-- A check is a read, and passes or has failed.
pub record Passes (g : Database) (c : Check) : Type 0 where
  pub passes : (h : Database) (r : Reply) → Called c.request r g h → Same g h × (((more : Bool) → validate_step more (Some c) r ≡ (if more then validate.More else validate.Valid)) ⊎ HasFailed r)

-- a version is itself
version_same : (v : Option TxId) → same_version v v ≡ true
version_same None = refl
version_same (Some id) = itself id.0

base_is : (ws : List Write) (k : Key) → base_of ws k ≡ option_map (λ w. version_of w.base) (write_among ws k)
base_is [] k = refl
base_is (w ∷ ws) k = by (same_key k w.key) refl (base_is ws k)
  where
    by : (b : Bool) → same_key k w.key ≡ b → base_of ws k ≡ option_map (λ w. version_of w.base) (write_among ws k) → base_of (w ∷ ws) k ≡ option_map (λ w. version_of w.base) (write_among (w ∷ ws) k)
    by true e ih = rw e refl
    by false e ih = rw e ih

module _ (catalog : List Table) (apart : IsApart catalog) (start : Database) (sound : IsSound catalog start) (p : Work) (work : WorkAlone catalog start p) (g : Database) (others : OthersUnchanged p start g) where
  -- a key of a table that isn't written is as before
  unwritten : (k : Key) → is_listed catalog k ≡ true → is_written p.writes k ≡ false → g k ≡ start k
  unwritten k listed free = others k free (elim (same_key_decides k (coordinator_key_of p.id)) [
    | inl e ↦ false_true (sym (apart k listed) ∙ ap (λ x. is_coordinator_table x.table) e.1 ∙ coordinators p.id)
    | inr n ↦ n.0
  ])

  still : (k : Key) → is_listed catalog k ≡ true → is_committed_or_none (start k) ≡ true → holds (condition_of (version_of (start k))) (start k) ≡ true
  still k listed firm = version_holds (start k) firm (λ r e. sound.accepted k r listed e)

  ---- gets

  read_unchanged : (rd : Read) → IsReadCurrent catalog start rd → is_written p.writes rd.key ≡ false → is_unchanged (g rd.key) rd.version ≡ true
  read_unchanged rd s free = ap (λ v. is_unchanged (g rd.key) v) s.version ∙ ap (λ o. is_unchanged o (version_of (start rd.key))) (unwritten rd.key s.listed free) ∙ still rd.key s.listed s.firm

  read_passes : (rd : Read) → IsReadCurrent catalog start rd × (not (is_written p.writes rd.key) ≡ true) → Passes g (check_of_read rd)
  read_passes rd s = record { passes = λ h r c. (c.0, by r c.1) }
    where
      by : (r : Reply) → Got rd.key r g → ((more : Bool) → validate_step more (Some (check_of_read rd)) r ≡ (if more then validate.More else validate.Valid)) ⊎ HasFailed r
      by r (Found replied) = inl (λ more. ap (validate_step more (Some (check_of_read rd))) replied ∙ ap (λ b. judged more (if b then None else Some (rd.key, g rd.key))) (read_unchanged rd s.0 (not_true (is_written p.writes rd.key) s.1)))
      by r (NotFound replied) = inr replied

  ---- scans

  module _ (x : Scan) (s : IsScanCurrent catalog start x) (rows : List Record) (at : (k : Key) → in_span x.span k ≡ true → record_among rows k ≡ g k) (inside : are_rows_of x.span rows ≡ true) where
    kept_inside : (k : Key) → in_span x.span k ≡ true → (o : Option Write) → write_among p.writes k ≡ o → is_unchanged_by (option_map (λ w. version_of w.base) o) (version_among x.found k) (record_among rows k) ≡ true
    kept_inside k within None e =
        let i = s.inside k within in
        ap (λ v. is_unchanged (record_among rows k) v) (sym i.2) ∙ ap (λ o. is_unchanged o (version_of (start k))) (at k within ∙ unwritten k i.0 (ap (λ o. is_some o) e)) ∙ still k i.0 i.1
    kept_inside k within (Some w) e =
        let i = s.inside k within in
        let f = found_at p.writes k w e in
        let base : w.base ≡ start k = sym (based_at catalog apart start p work f.0 w f.1).base ∙ ap start (sym f.2) in
        ap (λ o. same_version (version_of o) (version_among x.found k)) base ∙ ap (same_version (version_of (start k))) (sym i.2) ∙ version_same (version_of (start k))

    none_outside : (k : Key) → in_span x.span k ≡ false → record_among rows k ≡ None
    none_outside k without = by rows (and_second (rise rows) (list_all (λ r. in_span x.span r.key) rows) inside)
      where
        by : (rs : List Record) → list_all (λ r. in_span x.span r.key) rs ≡ true → record_among rs k ≡ None
        by [] h = refl
        by (r ∷ rs) h = one (same_key_decides k r.key) (by rs (and_second (in_span x.span r.key) (list_all (λ y. in_span x.span y.key) rs) h))
          where
            one : ((same_key k r.key ≡ true) × (k ≡ r.key)) ⊎ ((same_key k r.key ≡ false) × (k ≢ r.key)) → record_among rs k ≡ None → record_among (r ∷ rs) k ≡ None
            one (inl e) ih = false_true (sym without ∙ ap (in_span x.span) e.1 ∙ and_first (in_span x.span r.key) (list_all (λ y. in_span x.span y.key) rs) h)
            one (inr n) ih = rw n.0 ih

    kept : (k : Key) → is_unchanged_at p.writes x rows k ≡ true
    kept k = by (in_span x.span k) refl
      where
        by : (b : Bool) → in_span x.span k ≡ b → is_unchanged_at p.writes x rows k ≡ true
        by true e = ap (λ b. is_unchanged_by (if b then base_of p.writes k else None) (version_among x.found k) (record_among rows k)) e ∙ ap (λ o. is_unchanged_by o (version_among x.found k) (record_among rows k)) (base_is p.writes k) ∙ kept_inside k e (write_among p.writes k) refl
        by false e = ap (λ b. is_unchanged_by (if b then base_of p.writes k else None) (version_among x.found k) (record_among rows k)) e ∙ ap (λ v. is_unchanged (record_among rows k) v) (s.outside k e) ∙ ap (λ o. is_unchanged o None) (none_outside k e)

    no_difference : first_difference (wanted p.writes x) rows ≡ None
    no_difference = by (first_difference (wanted p.writes x) rows) refl (first_lost p.writes x rows s.rise (and_first (rise rows) (list_all (λ r. in_span x.span r.key) rows) inside))
      where
        by : (o : Option (Key × Option Record)) → first_difference (wanted p.writes x) rows ≡ o → IsFirstLost p.writes x rows o → first_difference (wanted p.writes x) rows ≡ None
        by None e lost = e
        by (Some d) e lost = false_true (sym lost.1 ∙ kept d.0)

  scan_passes : (x : Scan) → IsScanCurrent catalog start x → Passes g (check_of_scan p.writes x)
  scan_passes x s = record { passes = λ h r c. (c.0, by r c.1) }
    where
      by : (r : Reply) → Scanned x.span r g → ((more : Bool) → validate_step more (Some (check_of_scan p.writes x)) r ≡ (if more then validate.More else validate.Valid)) ⊎ HasFailed r
      by r (Returned rows replied at inside) = inl (λ more. ap (validate_step more (Some (check_of_scan p.writes x))) replied ∙ ap (judged more) (no_difference x s rows at inside))
      by r (NotReturned replied) = inr replied

  -- Each of its checks passes.
  pub all_pass : AllByRecursion (Passes g) (checks p)
  all_pass = append_all (Passes g) (map check_of_read (filter (λ r. not (is_written p.writes r.key)) p.reads)) (map (check_of_scan p.writes) p.scans) gets scans
    where
      reads_of : (rs : List Read) → AllByRecursion (λ r. IsReadCurrent catalog start r × (not (is_written p.writes r.key) ≡ true)) rs → AllByRecursion (λ r. Passes g (check_of_read r)) rs
      reads_of [] a = tt
      reads_of (r ∷ rs) a = (read_passes r a.0, reads_of rs a.1)

      scans_of : (xs : List Scan) → AllByRecursion (IsScanCurrent catalog start) xs → AllByRecursion (λ x. Passes g (check_of_scan p.writes x)) xs
      scans_of [] a = tt
      scans_of (x ∷ xs) a = (scan_passes x a.0, scans_of xs a.1)

      gets : AllByRecursion (Passes g) (map check_of_read (filter (λ r. not (is_written p.writes r.key)) p.reads))
      gets = each_map (Passes g) check_of_read (filter (λ r. not (is_written p.writes r.key)) p.reads) (reads_of (filter (λ r. not (is_written p.writes r.key)) p.reads) (each_filter (IsReadCurrent catalog start) (λ r. not (is_written p.writes r.key)) p.reads work.reads))

      scans : AllByRecursion (Passes g) (map (check_of_scan p.writes) p.scans)
      scans = each_map (Passes g) (check_of_scan p.writes) p.scans (scans_of p.scans work.scans)
