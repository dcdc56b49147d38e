-- A COMMIT that leaves a check out is lawful under no plan that has what the transaction's statements noted.
use lib.ListN.{get_or}
use Rattle.std.proofs.Common.{◌≡◌, ◌<◌, ℕ, zero, suc, length, true, false, List, [], ◌∷◌, Option, Some, None, refl, sym, ap, subst, ◌∙◌, arith}
use Rattle.std.specs.Prelude.{Contains}
use Rattle.std.specs.Option.{option_map, option_and_then}
use Rattle.std.specs.List.{slice_get}
use Rattle.sdb_model.specs.declared.event.Event.{Event}
use Rattle.sdb_model.specs.ReadSet.{ReadItem, KeyRead, read_set_of, version_read}
use Rattle.law_protocol.specs.Plan.{Plan, version_read_at, number_of, written}
use Rattle.law_protocol.specs.Explained.{newest_first, events_of}
use Rattle.law_protocol.specs.Faithful.{AreReadSets}
use Rattle.law_protocol.specs.Forged.{unchecked}
use Rattle.law_protocol.specs.Lawful.{IsLawful, id}
use Rattle.law_protocol.specs.Worked.{account, one, read_at}
use Rattle.law_protocol.proofs.Texts.{begin_begins, commit_commits, select_commits_not, select_rolls_not}
use Rattle.sdb_types.specs.Order.{same_key}

abbrev answered : List Event
answered = newest_first (events_of unchecked)

-- the transaction noted that there was no account
note_is : read_set_of answered (id one) ≡ KeyRead (read_at None) ∷ []
note_is = rw (begin_begins, select_commits_not, select_rolls_not, commit_commits) refl

noted_so : (plan : Plan) (i : ℕ) → slice_get plan.read_set i ≡ Some (KeyRead (read_at None)) → version_read_at plan i account ≡ Some None
unfolding version_read_at same_key
noted_so plan i h = ap (λ (o : Option ReadItem). option_map number_of (option_and_then (λ n. version_read n account) o)) h

-- an item of a list is got at its place
pub got : (ns : List ReadItem) (x : ReadItem) (i : ℕ) → i < length ns → get_or ns i x ≡ x → slice_get ns i ≡ Some x
got [] x i low at = absurd (omega (arith, low))
got (n ∷ ns) x zero low at = ap Some at
got (n ∷ ns) x (suc i) low at = got ns x i (omega (arith, low)) at

false_true : {G : Type 0} → false ≡ true → G
false_true e = absurd (cc)

some_none : {X : Type 0} (x : X) → Some x ≡ None → ⊥
some_none x e = absurd (cc)

pub unchecked_refused : (plan : ℕ → Plan) → AreReadSets plan answered unchecked → IsLawful plan unchecked → ⊥
unfolding same_key
unchecked_refused plan noted_all lawful =
    let there : Contains (plan one).read_set (KeyRead (read_at None)) = (noted_all one refl (KeyRead (read_at None))).1 (subst (λ ns. Contains ns (KeyRead (read_at None))) (sym note_is) (0, omega arith, refl)) in
    let decides = lawful.1 in
    let says = noted_so (plan one) there.0 (got (plan one).read_set (KeyRead (read_at None)) there.0 there.1 there.2) in
    elim (written (plan one) account) as (λ w. written (plan one) account ≡ w → ⊥) [
      | None ↦ λ free. false_true (decides.checked there.0 account None says free)
      | Some b ↦ λ wrote. false_true (decides.prepared account (λ e. some_none b (sym wrote ∙ e)))
    ] refl
