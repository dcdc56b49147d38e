-- Which words a command has.
use Rattle.std.proofs.Common.{◌≡◌, ◌∙◌, ℕ, ◌≤◌, List, [], ◌∷◌, false, ap, ap₂, refl, sym, subst, codes, decimal, map, arith}
use Rattle.std.specs.Str.{bytes_eq}
use Rattle.std.proofs.lemmas.Slice.Eq.{bytes_eq-Decides}
use Rattle.std.specs.Prelude.{All}
use Rattle.std.proofs.lemmas.Fmt.{decimal_injective}
use Rattle.std.proofs.lemmas.List.Elements.{All-head, All-tail}
use Rattle.sdb_types.proofs.Public.{false_true, some_is}
use Rattle.sdb_types.specs.declared.key.TableName.{TableName}
use Rattle.sdb_loader.specs.Words.{kind_named}
use Rattle.sdb_types.specs.declared.place.Place.{Place}
use Rattle.sdb_words.specs.declared.command.Command.{Command}
use Rattle.sdb_words.specs.declared.command.Command.TheVariants as command
use Rattle.sdb_data.specs.declared.fault.Mode.{Mode}
use Rattle.sdb_data.specs.declared.fault.Mode.TheVariants as mode
use Rattle.sdb_words.specs.Commands.{AreOfNone, AreWordsOf, CanRetire, IsWithin, most_rows, most_transactions, mode_text}
use Rattle.sdb_words.specs.Names.{IsTable}
use Rattle.sdb_types.specs.Order.{table_text}
use Rattle.sdb_words.specs.Places.{place_text, IsPlace}
use Rattle.sdb_words.proofs.Joined.{Halves, table_parted}
use Rattle.sdb_words.proofs.Placing.{same_place}

abbrev pub Text : Type 0
Text = List ℕ

abbrev pub Words : Type 0
Words = List Text

pub head_is : {a b : Text} {xs ys : Words} → a ∷ xs ≡ b ∷ ys → a ≡ b
head_is h = cc

pub tail_is : {a b : Text} {xs ys : Words} → a ∷ xs ≡ b ∷ ys → xs ≡ ys
tail_is h = cc

pub second_is : {a b x y : Text} {xs ys : Words} → a ∷ x ∷ xs ≡ b ∷ y ∷ ys → x ≡ y
second_is h = cc

pub third_is : {a b c x y z : Text} {xs ys : Words} → a ∷ b ∷ c ∷ xs ≡ x ∷ y ∷ z ∷ ys → c ≡ z
third_is h = cc

pub fourth_is : {a b c d x y z w : Text} {xs ys : Words} → a ∷ b ∷ c ∷ d ∷ xs ≡ x ∷ y ∷ z ∷ w ∷ ys → d ≡ w
fourth_is h = cc

-- the first word of a command
abbrev pub name_of : Command → Text
name_of command.Replay = codes "replay"
name_of (command.Bench n) = codes "bench"
name_of (command.Schema places) = codes "schema"
name_of command.Sql = codes "sql"
name_of (command.Load table mode n) = codes "load"
name_of (command.Export table) = codes "export"
name_of (command.Retire from to) = codes "retire"
name_of (command.Alter table column kind) = codes "alter"
name_of command.Audit = codes "audit"

pub named : (stores : Words) (c : Command) (words : Words) → AreWordsOf stores c words → (rest : Words) × (words ≡ name_of c ∷ rest)
named stores command.Replay words h = ([], h)
named stores (command.Bench n) words h = (_, h.0)
named stores (command.Schema places) words h = (_, h.0)
named stores command.Sql words h = ([], h)
named stores (command.Load table mode n) words h = (_, h.0)
named stores (command.Export table) words h = (_, h.0)
named stores (command.Retire from to) words h = (_, h.0)
named stores (command.Alter table column kind) words h = (_, h.1)
named stores command.Audit words h = ([], h)

-- words that begin with another name are none of a command's
pub other : {X : Type 0} (stores : Words) (c : Command) (name : Text) (rest : Words) → bytes_eq name (name_of c) ≡ false → AreWordsOf stores c (name ∷ rest) → X
other stores c name rest e h =
    let n = named stores c (name ∷ rest) h in
    false_true (sym e ∙ (bytes_eq-Decides name (name_of c)).1 (head_is n.1))

pub others : {X : Type 0} (stores : Words) (a b : Command) (words : Words) → bytes_eq (name_of a) (name_of b) ≡ false → AreWordsOf stores a words → AreWordsOf stores b words → X
others stores a b words e h k =
    let n = named stores a words h in
    let m = named stores b words k in
    false_true (sym e ∙ (bytes_eq-Decides (name_of a) (name_of b)).1 (head_is (sym n.1 ∙ m.1)))

---- the words of one command

pub no_retire : (stores : Words) (from to : Text) → (CanRetire stores from to → ⊥) → AreOfNone stores (codes "retire" ∷ from ∷ to ∷ [])
no_retire stores from to none (command.Retire f t) h =
    none (subst (λ (x : Text). CanRetire stores x to) (sym (second_is h.0)) (subst (λ (x : Text). CanRetire stores f x) (sym (third_is h.0)) h.1))
no_retire stores from to none c h = other stores c (codes "retire") (from ∷ to ∷ []) refl h

pub retires : (stores : Words) (from to f t : Text) → f ≡ from → t ≡ to → CanRetire stores f t → AreWordsOf stores (command.Retire f t) (codes "retire" ∷ from ∷ to ∷ [])
retires stores from to f t e d can = (ap₂ (λ (x y : Text). codes "retire" ∷ x ∷ y ∷ []) (sym e) (sym d), can)

---- words of one command at most

-- the tables of two words are one
pub same_table : (t u : TableName) → IsTable t → IsTable u → table_text t ≡ table_text u → t ≡ u
same_table t u h k e =
    let p : ◌≡◌ {A = Halves} (t.ns, t.table) (u.ns, u.table) = some_is {A = Halves} (t.ns, t.table) (u.ns, u.table) (sym (table_parted t (table_text t) h refl) ∙ table_parted u (table_text t) k e) in
    ap₂ (λ (a b : Text). record { ns = a; table = b }) (ap (λ (r : Halves). r.0) p) (ap (λ (r : Halves). r.1) p)

same_mode : (a b : Mode) → mode_text a ≡ mode_text b → a ≡ b
same_mode mode.Insert mode.Insert e = refl
same_mode mode.Update mode.Update e = refl
same_mode mode.Upsert mode.Upsert e = refl
same_mode a b e = false_true ((bytes_eq-Decides (mode_text a) (mode_text b)).1 e)

same_number : (most a b : ℕ) → most ≤ 20000 → IsWithin most a → IsWithin most b → decimal a ≡ decimal b → a ≡ b
same_number most a b m h k e = decimal_injective a b (omega (arith, h.1)) (omega (arith, k.1)) e

pub same_places : (stores : Words) (ps qs : List Place) → All (IsPlace stores) ps → All (IsPlace stores) qs → map place_text ps ≡ map place_text qs → ps ≡ qs
same_places stores [] [] h k e = refl
same_places stores [] (q ∷ qs) h k e = absurd cc
same_places stores (p ∷ ps) [] h k e = absurd cc
same_places stores (p ∷ ps) (q ∷ qs) h k e =
    ap₂ (λ (x : Place) (xs : List Place). x ∷ xs)
    (same_place p q (All-head (IsPlace stores) p ps h).named (All-head (IsPlace stores) q qs k).named (head_is e))
    (same_places stores ps qs (All-tail (IsPlace stores) p ps h) (All-tail (IsPlace stores) q qs k) (tail_is e))

pub exact : (stores words : Words) (a b : Command) → AreWordsOf stores a words → AreWordsOf stores b words → a ≡ b
exact stores words command.Replay command.Replay h k = refl
exact stores words command.Replay b h k = others stores command.Replay b words refl h k
exact stores words (command.Bench n) (command.Bench m) h k = ap command.Bench (same_number most_transactions n m (omega arith) h.1 k.1 (second_is (sym h.0 ∙ k.0)))
exact stores words (command.Bench n) b h k = others stores (command.Bench n) b words refl h k
exact stores words (command.Schema ps) (command.Schema qs) h k = ap command.Schema (same_places stores ps qs h.1.each k.1.each (tail_is (sym h.0 ∙ k.0)))
exact stores words (command.Schema ps) b h k = others stores (command.Schema ps) b words refl h k
exact stores words command.Sql command.Sql h k = refl
exact stores words command.Sql b h k = others stores command.Sql b words refl h k
exact stores words (command.Load t m n) (command.Load u l r) h k =
    let e = sym h.0 ∙ k.0 in
    let x = same_table t u h.1 k.1 (second_is e) in
    let y = same_mode m l (third_is e) in
    let z = same_number most_rows n r (omega arith) h.2 k.2 (fourth_is e) in cc
exact stores words (command.Load t m n) b h k = others stores (command.Load t m n) b words refl h k
exact stores words (command.Export t) (command.Export u) h k = ap command.Export (same_table t u h.1 k.1 (second_is (sym h.0 ∙ k.0)))
exact stores words (command.Export t) b h k = others stores (command.Export t) b words refl h k
exact stores words (command.Retire f t) (command.Retire g u) h k =
    let e = sym h.0 ∙ k.0 in
    ap₂ command.Retire (second_is e) (third_is e)
exact stores words (command.Retire f t) b h k = others stores (command.Retire f t) b words refl h k
exact stores words (command.Alter t n d) (command.Alter u o f) h k =
    let e = sym h.1 ∙ k.1 in
    let x = same_table t u h.2 k.2 (second_is e) in
    let y : n ≡ o = third_is e in
    let z = some_is d f (sym h.4 ∙ ap kind_named (fourth_is e) ∙ k.4) in cc
exact stores words (command.Alter t n d) b h k = others stores (command.Alter t n d) b words refl h k
exact stores words command.Audit command.Audit h k = refl
exact stores words command.Audit b h k = others stores command.Audit b words refl h k
