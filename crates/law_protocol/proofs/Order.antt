-- The order by points is serial, key by key.
use Rattle.std.proofs.Common.{◌≡◌, ◌≢◌, ℕ, ◌<◌, true, false, List, [], ◌∷◌, ◌++◌, Option, Some, None, ◌⊎◌, inl, inr, refl, sym, ap, subst, ◌∙◌, arith}
use Rattle.std.specs.Option.{option_map_or, option_and_then}
use Rattle.law_protocol.specs.Types.{Change, Key, Place, Record, Write}
use Rattle.sdb_record.specs.declared.coordinator.Decision.TheVariants.{Committed}
use Rattle.sdb_record.specs.declared.write.Change.TheVariants as change
use Rattle.sdb_record.specs.Rolls.{row_of_change, row_of_image}
use Rattle.sdb_model.specs.Events.{StoreContents}
use Rattle.sdb_model.specs.Images.{image_at}
use Rattle.law_protocol.specs.Plan.{Plan, write_at, written, deletes, is_delete}
use Rattle.law_protocol.specs.History.{History, or_else}
use Rattle.law_protocol.specs.Lawful.{Labelled}
use Rattle.law_protocol.specs.Records.{write_there}
use Rattle.law_protocol.specs.Explained.{IsLastWriter, IsNeverWritten, ImageOf, IsAsFound}
use Rattle.law_protocol.specs.Serial.{IsIn, AllAbove, IsRising, IsOrdered, if_written, last_writer, row_left, ReadsSerial, RowsSerial}
use Rattle.law_protocol.proofs.Known.{writes_it, writer_accepted}
use Rattle.law_protocol.proofs.Rolling.{firm_row}
use Rattle.law_protocol.proofs.Derived.{image_is_last_writer, reads_current}
use Rattle.law_protocol.proofs.Whole.{Whole}

---- the last writer of a list

above : (w : History) (n : ℕ) (us : List ℕ) → AllAbove w n us → (u : ℕ) → IsIn u us → n < w.protocol.point u
above w n [] a u m = absurd m
above w n (v ∷ us) a u (inl e) = subst (λ x. n < w.protocol.point x) (sym e) a.0
above w n (v ∷ us) a u (inr m) = above w n us a.1 u m

-- none writes it, or it is one of them that writes it, and each other that writes it has a smaller point
abbrev IsNewest : (ℕ → Plan) → History → Key → List ℕ → Option ℕ → Type 0
IsNewest plan w k us None = (u : ℕ) → IsIn u us → written (plan u) k ≡ None
IsNewest plan w k us (Some t) = IsIn t us × (written (plan t) k ≢ None) × ((u : ℕ) → IsIn u us → written (plan u) k ≢ None → (u ≡ t) ⊎ (w.protocol.point u < w.protocol.point t))

newest_more : (plan : ℕ → Plan) (w : History) (k : Key) (t : ℕ) (ts : List ℕ) (x : Option ℕ) → ((u : ℕ) → IsIn u ts → w.protocol.point t < w.protocol.point u) → IsNewest plan w k ts x → IsNewest plan w k (t ∷ ts) (or_else x (if_written t (written (plan t) k)))
newest_more plan w k t ts (Some y) low n = (
  inr n.0,
  n.1,
  λ u m h. elim m [
    | inl e ↦ inr (subst (λ z. w.protocol.point z < w.protocol.point y) (sym e) (low y n.0))
    | inr rest ↦ n.2 u rest h
  ],
)
newest_more plan w k t ts None low n = by (written (plan t) k) refl
  where
    by : (o : Option (Option ℕ)) → written (plan t) k ≡ o → IsNewest plan w k (t ∷ ts) (if_written t o)
    by None e = λ u m. elim m [
      | inl f ↦ ap (λ z. written (plan z) k) f ∙ e
      | inr rest ↦ n u rest
    ]
    by (Some base) e = (
      inl refl,
      some e,
      λ u m h. elim m [
        | inl f ↦ inl f
        | inr rest ↦ absurd (h (n u rest))
      ],
    )
      where
        some : written (plan t) k ≡ Some base → written (plan t) k ≢ None
        some e z = absurd (grind arith)

newest : (plan : ℕ → Plan) (w : History) (k : Key) (ts : List ℕ) → IsRising w ts → IsNewest plan w k ts (last_writer plan k ts)
newest plan w k [] r = λ u m. absurd m
newest plan w k (t ∷ ts) r = newest_more plan w k t ts (last_writer plan k ts) (above w (w.protocol.point t) ts r.0) (newest plan w k ts r.1)

---- the prefix of the order

in_front : (front : List ℕ) (t : ℕ) (back : List ℕ) (u : ℕ) → IsIn u front → IsIn u (front ++ t ∷ back)
in_front [] t back u m = absurd m
in_front (v ∷ front) t back u (inl e) = inl e
in_front (v ∷ front) t back u (inr m) = inr (in_front front t back u m)

in_middle : (front : List ℕ) (t : ℕ) (back : List ℕ) → IsIn t (front ++ t ∷ back)
in_middle [] t back = inl refl
in_middle (v ∷ front) t back = inr (in_middle front t back)

where_in : (front : List ℕ) (t : ℕ) (back : List ℕ) (u : ℕ) → IsIn u (front ++ t ∷ back) → IsIn u front ⊎ ((u ≡ t) ⊎ IsIn u back)
where_in [] t back u m = inr m
where_in (v ∷ front) t back u (inl e) = inl (inl e)
where_in (v ∷ front) t back u (inr m) = elim (where_in front t back u m) [
  | inl a ↦ inl (inr a)
  | inr b ↦ inr b
]

front_rising : (w : History) (front : List ℕ) (t : ℕ) (back : List ℕ) → IsRising w (front ++ t ∷ back) → IsRising w front
front_rising w [] t back r = tt
front_rising w (v ∷ front) t back r = (front_above (front) r.0, front_rising w front t back r.1)
  where
    front_above : (f : List ℕ) → AllAbove w (w.protocol.point v) (f ++ t ∷ back) → AllAbove w (w.protocol.point v) f
    front_above [] a = tt
    front_above (x ∷ f) a = (a.0, front_above f a.1)

below_middle : (w : History) (front : List ℕ) (t : ℕ) (back : List ℕ) → IsRising w (front ++ t ∷ back) → (u : ℕ) → IsIn u front → w.protocol.point u < w.protocol.point t
below_middle w [] t back r u m = absurd m
below_middle w (v ∷ front) t back r u (inl e) = subst (λ x. w.protocol.point x < w.protocol.point t) (sym e) (above w (w.protocol.point v) (front ++ t ∷ back) r.0 t (in_middle front t back))
below_middle w (v ∷ front) t back r u (inr m) = below_middle w front t back r.1 u m

above_middle : (w : History) (front : List ℕ) (t : ℕ) (back : List ℕ) → IsRising w (front ++ t ∷ back) → (u : ℕ) → IsIn u back → w.protocol.point t < w.protocol.point u
above_middle w [] t back r u m = above w (w.protocol.point t) back r.0 u m
above_middle w (v ∷ front) t back r u m = above_middle w front t back r.1 u m

---- reads

no_row : (c : Change) → is_delete c ≡ true → row_of_change c ≡ None
no_row (change.Row columns) h = absurd (cc)
no_row change.Delete h = refl

-- who deletes a row leaves none
deleted_row : (plan : ℕ → Plan) (u : ℕ) (k : Key) → deletes (plan u) k ≡ true → row_left plan k (Some u) ≡ None
unfolding deletes
deleted_row plan u k h = by (write_at (plan u) k) refl h
  where
    by : (o : Option Write) → write_at (plan u) k ≡ o → option_map_or (λ w. is_delete w.change) o false ≡ true → row_left plan k (Some u) ≡ None
    by None e f = absurd (cc)
    by (Some w) e f = ap (λ x. row_of_change x.change) (Rattle.law_protocol.proofs.Known.write_is (plan u) k w e) ∙ no_row w.change f

found_row : (plan : ℕ → Plan) (w : History) (t : ℕ) (k : Key) (found x : Option ℕ) → IsAsFound plan w t k found x → row_left plan k found ≡ row_left plan k x
found_row plan w t k (Some u) x e = ap (row_left plan k) (sym e)
found_row plan w t k None None e = refl
found_row plan w t k None (Some u) e = sym (deleted_row plan u k e.0)

-- the writer that was current is the last one of the prefix
same_writer : (plan : ℕ → Plan) (w : History) (k : Key) (front : List ℕ) (x y : Option ℕ)
    → ((u : ℕ) → IsIn u front → (w.row u ≡ Some Committed)) → ((u : ℕ) → x ≡ Some u → IsIn u front × (written (plan u) k ≢ None))
    → ((v : ℕ) → IsIn v front → written (plan v) k ≢ None → (u : ℕ) × (x ≡ Some u) × ((u ≡ v) ⊎ (w.protocol.point v < w.protocol.point u)))
    → IsNewest plan w k front y → x ≡ y
same_writer plan w k front None None recorded among last n = refl
same_writer plan w k front None (Some v) recorded among last n = absurd (none (last v n.0 n.1).1)
  where
    none : {u : ℕ} → ◌≡◌ {A = Option ℕ} None (Some u) → ⊥
    none e = cc
same_writer plan w k front (Some u) None recorded among last n = absurd ((among u refl).1 (n u (among u refl).0))
same_writer plan w k front (Some u) (Some v) recorded among last n = by (last v n.0 n.1) (n.2 u (among u refl).0 (among u refl).1)
  where
    some_is : (a b : ℕ) → Some a ≡ Some b → a ≡ b
    some_is a b e = ap (λ o. Rattle.std.specs.Prelude.unwrap_or o 0) e

    cross : (a b : ℕ) → a < b → b < a → ⊥
    cross a b l m = omega arith

    by : ((y : ℕ) × (Some u ≡ Some y) × ((y ≡ v) ⊎ (w.protocol.point v < w.protocol.point y))) → ((u ≡ v) ⊎ (w.protocol.point u < w.protocol.point v)) → Some u ≡ Some v
    by l (inl e) = ap (λ z. Some z) e
    by l (inr lt) = elim l.2 [
      | inl e ↦ l.1 ∙ ap (λ z. Some z) e
      | inr gt ↦ absurd (cross (w.protocol.point u) (w.protocol.point v) lt (subst (λ z. w.protocol.point v < w.protocol.point z) (sym (some_is u l.0 l.1)) gt))
    ]

pub reads_serial : (plan : ℕ → Plan) (places : List Place) (w : History) (past : List Labelled) (store_contents : List StoreContents) (order : List ℕ) → Whole plan places w past store_contents → IsOrdered w order → ReadsSerial plan w order
reads_serial plan places w past store_contents order i o front t back split j k found n =
    let c = reads_current plan w i.all t j k found recorded n in
    found_row plan w t k found c.x c.as_found ∙ ap (row_left plan k) (same_writer plan w k front c.x (last_writer plan k front)
    (λ u m. member u (in_front front t back u m))
    (λ u e. (front_of u (c.writer u e).0.0 (c.writer u e).1, (c.writer u e).0.1))
    (λ v m h. c.last v (λ e. irrefl (w.protocol.point t) (subst (λ x. w.protocol.point x < w.protocol.point t) e (below_middle w front t back rising v m))) (member v (in_front front t back v m), h) (below_middle w front t back rising v m))
    (newest plan w k front (front_rising w front t back rising)))
  where
    rising : IsRising w (front ++ t ∷ back)
    rising = subst (IsRising w) split o.rising

    member : (u : ℕ) → IsIn u (front ++ t ∷ back) → w.row u ≡ Some Committed
    member u m = (o.recorded u).1 (subst (IsIn u) (sym split) m)

    recorded : w.row t ≡ Some Committed
    recorded = member t (in_middle front t back)

    irrefl : (a : ℕ) → a < a → ⊥
    irrefl a l = omega arith

    cross : (a b : ℕ) → a < b → b < a → ⊥
    cross a b l m = omega arith

    front_of : (u : ℕ) → w.row u ≡ Some Committed → w.protocol.point u < w.protocol.point t → IsIn u front
    front_of u r l = elim (where_in front t back u (subst (IsIn u) split ((o.recorded u).0 r))) [
      | inl a ↦ a
      | inr b ↦ elim b [
        | inl e ↦ absurd (irrefl (w.protocol.point t) (subst (λ x. w.protocol.point x < w.protocol.point t) e l))
        | inr m ↦ absurd (cross (w.protocol.point u) (w.protocol.point t) l (above_middle w front t back rising u m))
      ]
    ]

---- rows

last_of_all : (plan : ℕ → Plan) (w : History) (k : Key) (order : List ℕ) (u : ℕ) (y : Option ℕ) → IsOrdered w order → IsLastWriter plan w k u → IsNewest plan w k order y → Some u ≡ y
last_of_all plan w k order u y o l n = same_writer plan w k order (Some u) y (λ v m. (o.recorded v).1 m) (λ v e. among v (some_is u v e)) (λ v m h. (u, refl, turn v (l.last v ((o.recorded v).1 m, h)))) n
  where
    some_is : (a b : ℕ) → Some a ≡ Some b → a ≡ b
    some_is a b e = ap (λ o. Rattle.std.specs.Prelude.unwrap_or o 0) e

    among : (v : ℕ) → u ≡ v → IsIn v order × (written (plan v) k ≢ None)
    among v e = subst (λ x. IsIn x order × (written (plan x) k ≢ None)) e ((o.recorded u).0 l.writer.0, l.writer.1)

    turn : (v : ℕ) → (v ≡ u) ⊎ (w.protocol.point v < w.protocol.point u) → (u ≡ v) ⊎ (w.protocol.point v < w.protocol.point u)
    turn v (inl e) = inl (sym e)
    turn v (inr m) = inr m

pub rows_serial : (plan : ℕ → Plan) (places : List Place) (w : History) (past : List Labelled) (store_contents : List StoreContents) (order : List ℕ) → Whole plan places w past store_contents → IsOrdered w order → RowsSerial plan places store_contents order
rows_serial plan places w past store_contents order i o k outside = by (image_at places store_contents k) (image_is_last_writer plan places w past store_contents i k outside) (last_writer plan k order) (newest plan w k order o.rising)
  where
    never : (y : Option ℕ) → IsNewest plan w k order y → IsNeverWritten plan w k → None ≡ row_left plan k y
    never None n h = refl
    never (Some v) n h = absurd (h v ((o.recorded v).1 n.0, n.1))

    by : (r : Option Record) → ImageOf plan w k r → (y : Option ℕ) → IsNewest plan w k order y → option_and_then row_of_image r ≡ row_left plan k y
    by None (inl h) y n = never y n h
    by None (inr r) y n = sym (deleted_row plan r.u k r.deleted) ∙ ap (row_left plan k) (last_of_all plan w k order r.u y o r.last n)
    by (Some r) im y n =
        let accepted = writer_accepted plan w k im.0 i.all.one.accepted im.1.writer in
        ap row_of_image im.2 ∙ firm_row plan im.0 k ((i.knows.planned im.0 accepted).write k (write_there (plan im.0) k) (writes_it (plan im.0) k im.1.writer.1)).0 ∙ ap (row_left plan k) (last_of_all plan w k order im.0 y o im.1 n)
