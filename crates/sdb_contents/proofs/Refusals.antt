-- Why a closing dump stopped, as the calls around the one that stopped it have it.
use Rattle.std.proofs.Common.{◌≡◌, ◌∙◌, ℕ, ◌+◌, ◌<◌, Bool, false, List, [], ◌∷◌, ◌++◌, length, take, get_or, Some, None, Result, Ok, Err, IfOk, IfErr, sym, ap, subst}
use Rattle.std.specs.Prelude.{IsErrAnd, find, not, slice_get}
use Rattle.std.specs.Option.{option_map}
use Rattle.std.proofs.lemmas.List.{take_more}
use Rattle.std.proofs.lemmas.Option.{slice_get-get_or}
use Rattle.sdb_contents.specs.Types.{Key, Record}
use Rattle.sdb_stores.specs.Views.{Attached, StoreView as Counted, HaveRisen}
use Rattle.sdb_contents.specs.Board.{GoOn, Refuses as CallRefuses}
use Rattle.sdb_contents.specs.declared.refused.CallRefused.{CallRefused}
use Rattle.sdb_contents.specs.declared.refused.CallRefused.TheVariants as call
use Rattle.sdb_contents.proofs.GoesOn.{refused_after}
use Rattle.sdb_contents.specs.Refused.{Refuses, first_unlike, of_call}
use Rattle.sdb_contents.specs.declared.dump_refused.ClosingRefused.{ClosingRefused}
use Rattle.sdb_contents.specs.declared.dump_refused.ClosingRefused.TheVariants as refused
use Rattle.sdb_contents.proofs.DumpLists.{found_first}

-- what is so of an error that is passed on
pub passed : {T : Type 0} (P : ClosingRefused → Type 0) (r : Result T ClosingRefused) (e : ClosingRefused) → IsErrAnd r (λ y. y ≡ e) → P e → IfErr r P
passed P (Ok x) e h p = absurd h
passed P (Err y) e h p = subst P (sym h) p

-- the same reason, seen from farther off
pub refused_as : (near far : Key → Type 0) (before after : Type 0) (e : ClosingRefused) → ((key : Key) → near key → far key) → (before → after) → Refuses near before e → Refuses far after e
refused_as near far before after refused.StoreFault f g h = g h
refused_as near far before after (refused.BadRecord key) f g h = f key h
refused_as near far before after refused.NoMemory f g h = tt

-- what is so of an error
pub refused_then : {T : Type 0} (P Q : ClosingRefused → Type 0) (r : Result T ClosingRefused) → ((e : ClosingRefused) → P e → Q e) → IfErr r P → IfErr r Q
refused_then P Q (Ok x) f h = tt
refused_then P Q (Err e) f h = f e h

-- what is so of a success
pub ok_then : {T : Type 0} (P Q : T → Type 0) (r : Result T ClosingRefused) → ((x : T) → P x → Q x) → IfOk r P → IfOk r Q
ok_then P Q (Ok x) f h = f x h
ok_then P Q (Err e) f h = tt

-- the first record that isn't so, after those that are
pub first_is : (is_so : Record → Bool) (rows : List Record) (i : ℕ) (r : Record) (key : Key) → slice_get rows i ≡ Some r → find (λ x. not (is_so x)) (take i rows) ≡ None → (key ≡ r.key) × (is_so r ≡ false) → first_unlike is_so rows ≡ Some key
first_is is_so rows i r key here none bad = ap (option_map (λ (x : Record). x.key)) (found_first (λ x. not (is_so x)) rows i r here none (ap not bad.1)) ∙ ap Some (sym bad.0)

---- scans

of_scan : (bad : Key → Type 0) (old new : List Counted) (e : CallRefused) → CallRefuses old new e → Refuses bad (HaveRisen old new) (of_call e)
of_scan bad old new call.StoreFault h = h
of_scan bad old new call.NoMemory h = tt

-- a scan that stopped
pub scan_passed : {T : Type 0} (bad : Key → Type 0) (old new : List Counted) (r : Result T ClosingRefused) (e : CallRefused) → IsErrAnd r (λ y. y ≡ of_call e) → CallRefuses old new e → IfErr r (Refuses bad (HaveRisen old new))
scan_passed bad old new r e h k = passed (Refuses bad (HaveRisen old new)) r (of_call e) h (of_scan bad old new e k)

-- a fault after others
pub risen_after : (old mid : Attached) (new : List Counted) → GoOn old mid → HaveRisen mid.views new → HaveRisen old.views new
risen_after old mid new goes h = refused_after old mid new call.StoreFault goes h

---- the i-th item

pub item_at : {A : Type 0} (xs : List A) (i : ℕ) (x : A) → i < length xs → x ≡ get_or xs i x → slice_get xs i ≡ Some x
item_at xs i x within is = slice_get-get_or xs i x within ∙ ap Some (sym is)

pub item_more : {A : Type 0} (xs : List A) (i : ℕ) (x : A) → i < length xs → x ≡ get_or xs i x → take (i + 1) xs ≡ take i xs ++ x ∷ []
item_more xs i x within is = take_more xs i x within ∙ ap (λ y. take i xs ++ y ∷ []) (sym is)
