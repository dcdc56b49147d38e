-- What was shown of a transaction's row agrees.
use Rattle.std.proofs.Common.{◌≡◌, ◌<◌, ◌^◌, ℕ, ℤ, true, List, Some, sym, ◌∙◌, inr, inl}
use Rattle.law_clients.specs.Types.{Decision, Place}
use Rattle.sdb_record.specs.declared.coordinator.Decision.TheVariants as decision
use Rattle.sdb_model.specs.Events.{StoreContents}
use Rattle.law_protocol.specs.Plan.{Plan}
use Rattle.law_protocol.specs.Lawful.{Labelled, IsRowObserved, protocol_state}
use Rattle.law_protocol.specs.Trace.{history}
use Rattle.law_protocol.specs.Explained.{IsRunOf}
use Rattle.law_protocol.proofs.Public.{aborted_of, row_known, whole_of}

some_is : (x y : Decision) → Some x ≡ Some y → x ≡ y
some_is x y e = cc

shown_is : (plan : ℕ → Plan) (places : List Place) (opening : List StoreContents) (past : List Labelled) (ss : List (List StoreContents)) (t : ℕ) (d : Decision) (m : ℤ) → IsRunOf plan places opening past ss → t < 2 ^ 128 → IsRowObserved past t d m → (history plan places opening past ss).row t ≡ Some d
shown_is plan places opening past ss t d m run fits row =
    let all = whole_of plan places opening past ss run in
    (row_known past t d m all.knows.observed (all.knows.moments t) fits row).0

pub rows_agree : (plan : ℕ → Plan) (places : List Place) (opening : List StoreContents) (past : List Labelled) (ss : List (List StoreContents)) (t : ℕ) (c d : Decision) (m n : ℤ) → IsRunOf plan places opening past ss → t < 2 ^ 128 → IsRowObserved past t c m → IsRowObserved past t d n → c ≡ d
rows_agree plan places opening past ss t c d m n run fits a b = some_is c d (sym (shown_is plan places opening past ss t c m run fits a) ∙ shown_is plan places opening past ss t d n run fits b)

pub dead_agrees : (plan : ℕ → Plan) (places : List Place) (opening : List StoreContents) (past : List Labelled) (ss : List (List StoreContents)) (t : ℕ) (d : Decision) (m : ℤ) → IsRunOf plan places opening past ss → t < 2 ^ 128 → (protocol_state past).dead t ≡ true → IsRowObserved past t d m → d ≡ decision.Aborted
dead_agrees plan places opening past ss t d m run fits dead row = some_is d decision.Aborted (sym (shown_is plan places opening past ss t d m run fits row) ∙ aborted_of plan (history plan places opening past ss) past t (whole_of plan places opening past ss run).knows fits (inr (inl dead)))
