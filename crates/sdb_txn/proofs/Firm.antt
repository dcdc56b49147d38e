-- What the test of a row says of it.
use Rattle.std.proofs.Common.{◌≡◌, ◌∙◌, true, false, refl, ap}
use Rattle.std.specs.Prelude.{Bool, if◌then◌else◌, ◌&&◌, not, Ok}
use Rattle.sdb_txn.specs.Types.{Meta, Record}
use Rattle.sdb_types.specs.declared.record.State.TheVariants as state
use Rattle.sdb_record.specs.Meta.{checked, is_in, is_transactional, is_unresolved}
use Rattle.sdb_txn.specs.declared.row_kinds.Sort.TheVariants as sort
use Rattle.sdb_txn.specs.Read.{Kind, Firm, Open, Bad, kind_of, opened}
use Rattle.sdb_txn.specs.Rows.{sort_of}

pub unresolved_by : (accepted committed : Bool) (k : Kind) → sort_of (if accepted then (if committed then Firm else k) else Bad) ≡ sort.Open → (accepted && not committed) ≡ true
unresolved_by true true k h = cc
unresolved_by true false k h = refl
unresolved_by false committed k h = cc

pub kind_by : (accepted committed : Bool) (k : Kind) → sort_of (if accepted then (if committed then Firm else k) else Bad) ≡ sort.Open → (if accepted then (if committed then Firm else k) else Bad) ≡ k
kind_by true true k h = cc
kind_by true false k h = refl
kind_by false committed k h = cc

pub open_unresolved : (r : Record) → sort_of (kind_of r) ≡ sort.Open → is_unresolved r ≡ true
open_unresolved r h = unresolved_by (is_transactional r) (is_in state.Committed r.columns) (opened (checked r.columns)) h

pub open_kind : (r : Record) (meta : Meta) → sort_of (kind_of r) ≡ sort.Open → checked r.columns ≡ Ok meta → kind_of r ≡ Open meta
open_kind r meta h k = kind_by (is_transactional r) (is_in state.Committed r.columns) (opened (checked r.columns)) h ∙ ap opened k
