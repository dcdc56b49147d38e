-- Rows open in one way.
use Rattle.std.proofs.Common.{◌≡◌, ◌<◌, ◌^◌, ℕ, List, [], ◌∷◌, ◌++◌, map, inl, inr, refl, sym, ap, subst, ◌∙◌, append_assoc, append-nil, Ok}
use Rattle.sdb_catalog.specs.Types.{Key, Record, Table, TableName, TxId}
use Rattle.sdb_types.specs.Order.{table_text}
use Rattle.sdb_types.specs.TxId.{id_text}
use Rattle.sdb_record.specs.Ids.{id_of_text}
use Rattle.sdb_record.proofs.Public.{id_of_text-id_text}
use Rattle.sdb_loader.specs.Words.{table_named}
use Rattle.sdb_loader.specs.Described.{described_table}
use Rattle.sdb_loader.proofs.Public.{table_named-text}
use Rattle.sdb_catalog.specs.declared.entry.Entry.{Entry}
use Rattle.sdb_catalog.specs.Definition.{definition_text}
use Rattle.sdb_catalog.specs.Rows.{MayHaveRow, Texts, row_of, texts_of}
use Rattle.sdb_catalog.specs.Opened.{Follow, Follows, IsEntry, IsFirstBad, Opens}
use Rattle.sdb_catalog.proofs.Again.{definition_again}
use Rattle.sdb_catalog.proofs.Reading.{own_name, own_table, row_texts, said_by, same_entry}
use Rattle.sdb_types.proofs.Public.{some_is}

one_table : (t u : Table) → MayHaveRow t → MayHaveRow u → table_text t.name ≡ table_text u.name → definition_text t ≡ definition_text u → t ≡ u
one_table t u h k named defined =
    elim h [
      | inl own ↦ own ∙ sym (own_table u k (sym named ∙ ap (λ (x : Table). table_text x.name) own ∙ own_name))
      | inr may ↦ elim k [
        | inl own ↦ own_table t (inr may) (named ∙ ap (λ (x : Table). table_text x.name) own ∙ own_name) ∙ sym own
        | inr can ↦
            let names : t.name ≡ u.name = some_is t.name u.name (sym (table_named-text t.name may.1) ∙ ap table_named named ∙ table_named-text u.name can.1) in
            let same : Ok (t ∷ []) ≡ Ok (u ∷ []) =
            sym (definition_again t may.0) ∙ ap (λ (n : TableName). described_table n (definition_text t)) names ∙ ap (described_table u.name) defined ∙ definition_again u can.0 in
            cc
      ]
    ]

one_id : (a b : TxId) → a.0 < 2 ^ 128 → b.0 < 2 ^ 128 → id_text a.0 ≡ id_text b.0 → a ≡ b
one_id a b h k same = some_is a b (sym (id_of_text-id_text a.0 h) ∙ ap id_of_text same ∙ id_of_text-id_text b.0 k)

-- no record is the row of two entries
pub one_entry : (names : List (List ℕ)) (a b : Entry) → IsEntry names a → IsEntry names b → row_of a ≡ row_of b → a ≡ b
one_entry names a b h k same =
    let said : said_by a ≡ said_by b = some_is (said_by a) (said_by b) (sym (row_texts a) ∙ ap texts_of same ∙ row_texts b) in
    some_is a b (same_entry b a.table a.store a.revision
    (one_table a.table b.table h.table k.table (ap (λ (t : Texts). t.name) said) (ap (λ (t : Texts). t.definition) said))
    (ap (λ (t : Texts). t.store) said)
    (one_id a.revision b.revision h.revision k.revision (ap (λ (t : Texts). t.revision) said)))

same_all : (names : List (List ℕ)) (passed es fs : List Entry) → Follow names passed es → Follow names passed fs → map row_of es ≡ map row_of fs → es ≡ fs
same_all names passed [] [] h k e = refl
same_all names passed [] (f ∷ fs) h k e = absurd (let x : [] ≡ row_of f ∷ map row_of fs = e in cc)
same_all names passed (e ∷ es) [] h k same = absurd (let x : row_of e ∷ map row_of es ≡ [] = same in cc)
same_all names passed (e ∷ es) (f ∷ fs) h k same =
    let first : row_of e ≡ row_of f = first_of (row_of e) (row_of f) (map row_of es) (map row_of fs) same in
    let rest : map row_of es ≡ map row_of fs = rest_of (row_of e) (row_of f) (map row_of es) (map row_of fs) same in
    let one : e ≡ f = one_entry names e f h.0.0 k.0.0 first in
    ap (λ (x : Entry). x ∷ es) one ∙ ap (λ (xs : List Entry). f ∷ xs) (same_all names (passed ++ f ∷ []) es fs (subst (λ (x : Entry). Follow names (passed ++ x ∷ []) es) one h.1) k.1 rest)
  where
    first_of : (r s : Record) (rs ss : List Record) → r ∷ rs ≡ s ∷ ss → r ≡ s
    first_of r s rs ss q = cc

    rest_of : (r s : Record) (rs ss : List Record) → r ∷ rs ≡ s ∷ ss → rs ≡ ss
    rest_of r s rs ss q = cc

-- rows open as one list of entries
pub one_reading : (names : List (List ℕ)) (rows : List Record) (es fs : List Entry) → Opens names rows es → Opens names rows fs → es ≡ fs
one_reading names rows es fs h k = same_all names [] es fs h.follow k.follow (sym h.rows ∙ k.rows)

-- the rows of entries that may follow one another open as these entries
pub rows_open : (names : List (List ℕ)) (es : List Entry) → Follow names [] es → Opens names (map row_of es) es
rows_open names es h = record { rows = refl; follow = h }

---- bad rows

record IsCut (names : List (List ℕ)) (passed : List Entry) (es : List Entry) (bad : Record) : Type 0 where
  follow : Follow names passed es
  stops : (e : Entry) → row_of e ≡ bad → Follows names (passed ++ es) e → ⊥

cut_on : (names : List (List ℕ)) (passed : List Entry) (p : Entry) (ps : List Entry) (bad : Record) → IsCut names passed (p ∷ ps) bad → IsCut names (passed ++ p ∷ []) ps bad
cut_on names passed p ps bad c = record {
  follow = c.follow.1;
  stops = λ e row fit. c.stops e row (subst (λ (l : List Entry). Follows names l e) (append_assoc passed (p ∷ []) ps) fit);
}

no_follower : {X : Type 0} (names : List (List ℕ)) (passed : List Entry) (bad : Record) (e : Entry) → IsCut names passed [] bad → bad ≡ row_of e → Follows names passed e → X
no_follower names passed bad e c row fit = absurd (c.stops e (sym row) (subst (λ (l : List Entry). Follows names l e) (sym (append-nil passed)) fit))

pub head_is : (r s : Record) (rs ss : List Record) → r ∷ rs ≡ s ∷ ss → r ≡ s
head_is r s rs ss q = cc

pub tail_is : (r s : Record) (rs ss : List Record) → r ∷ rs ≡ s ∷ ss → rs ≡ ss
tail_is r s rs ss q = cc

not_empty : {X : Type 0} (r : Record) (rs : List Record) → r ∷ rs ≡ [] → X
not_empty r rs q = absurd (let e : r ∷ rs ≡ [] = q in cc)

cut_none : {X : Type 0} (names : List (List ℕ)) (passed ps es : List Entry) (bad : Record) (later : List Record) → IsCut names passed ps bad → Follow names passed es → map row_of ps ++ bad ∷ later ≡ map row_of es → X
cut_none names passed [] [] bad later c k same = not_empty bad later same
cut_none names passed [] (e ∷ es) bad later c k same = no_follower names passed bad e c (head_is bad (row_of e) later (map row_of es) same) k.0
cut_none names passed (p ∷ ps) [] bad later c k same = not_empty (row_of p) (map row_of ps ++ bad ∷ later) same
cut_none names passed (p ∷ ps) (e ∷ es) bad later c k same =
    let one : p ≡ e = one_entry names p e c.follow.0.0 k.0.0 (head_is (row_of p) (row_of e) (map row_of ps ++ bad ∷ later) (map row_of es) same) in
    cut_none names (passed ++ p ∷ []) ps es bad later (cut_on names passed p ps bad c) (subst (λ (x : Entry). Follow names (passed ++ x ∷ []) es) (sym one) k.1)
    (tail_is (row_of p) (row_of e) (map row_of ps ++ bad ∷ later) (map row_of es) same)

cut_one : (names : List (List ℕ)) (passed ps qs : List Entry) (a b : Record) (cs ds : List Record) → IsCut names passed ps a → IsCut names passed qs b → map row_of ps ++ a ∷ cs ≡ map row_of qs ++ b ∷ ds → a ≡ b
cut_one names passed [] [] a b cs ds c d same = head_is a b cs ds same
cut_one names passed [] (q ∷ qs) a b cs ds c d same = no_follower names passed a q c (head_is a (row_of q) cs (map row_of qs ++ b ∷ ds) same) d.follow.0
cut_one names passed (p ∷ ps) [] a b cs ds c d same = no_follower names passed b p d (sym (head_is (row_of p) b (map row_of ps ++ a ∷ cs) ds same)) c.follow.0
cut_one names passed (p ∷ ps) (q ∷ qs) a b cs ds c d same =
    let one : p ≡ q = one_entry names p q c.follow.0.0 d.follow.0.0 (head_is (row_of p) (row_of q) (map row_of ps ++ a ∷ cs) (map row_of qs ++ b ∷ ds) same) in
    cut_one names (passed ++ p ∷ []) ps qs a b cs ds (cut_on names passed p ps a c) (subst (λ (x : Entry). IsCut names (passed ++ x ∷ []) qs b) (sym one) (cut_on names passed q qs b d))
    (tail_is (row_of p) (row_of q) (map row_of ps ++ a ∷ cs) (map row_of qs ++ b ∷ ds) same)

cut_of : (names : List (List ℕ)) (rows : List Record) (key : Key) (h : IsFirstBad names rows key) → IsCut names [] h.passed h.bad
cut_of names rows key h = record { follow = h.follow; stops = h.stops }

-- rows that open have no first bad one
pub none_bad : (names : List (List ℕ)) (rows : List Record) (es : List Entry) (key : Key) → Opens names rows es → IsFirstBad names rows key → ⊥
none_bad names rows es key h bad = cut_none names [] bad.passed es bad.bad bad.later (cut_of names rows key bad) h.follow (sym bad.rows ∙ h.rows)

-- rows have at most one first bad one
pub one_bad : (names : List (List ℕ)) (rows : List Record) (a b : Key) → IsFirstBad names rows a → IsFirstBad names rows b → a ≡ b
one_bad names rows a b h k =
    sym h.key ∙ ap (λ (r : Record). r.key) (cut_one names [] h.passed k.passed h.bad k.bad h.later k.later (cut_of names rows a h) (cut_of names rows b k) (sym h.rows ∙ k.rows)) ∙ k.key
