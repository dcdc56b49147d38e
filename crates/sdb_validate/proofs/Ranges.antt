-- The written keys of a span, among those from its least key on.
use Rattle.std.proofs.Common.{◌≡◌, List, [], ◌∷◌, Option, Some, None, true, false, cond, refl, sym, ap, subst, ◌∙◌}
use Rattle.std.specs.Prelude.{Bool, filter}
use Rattle.std.specs.BTreeMap.{is_at}
use Rattle.std.specs.FinMap.{get, insert, get-insert, same_map}
use Rattle.std.specs.Map.{lookup}
use Rattle.std.specs.Ordering.{is_le}
use Rattle.std.proofs.lemmas.Map.Entries.{lookup-filter-keys}
use Rattle.sdb_validate.specs.Types.{Expected, Key, Span, TxId, Write}
use Rattle.sdb_types.specs.Contents.{in_span}
use Rattle.sdb_types.specs.Order.{key_cmp, same_key}
use Rattle.sdb_types.proofs.Public.{and_both, key_exact, key_total, same_key_exact}
use Rattle.sdb_phases.specs.declared.check.Expected.TheVariants as wish
use Rattle.sdb_phases.specs.Checks.{Wishes, with_writes, wished_version, base_of}
use Rattle.sdb_ordered.specs.Start.{span_start}
use Rattle.sdb_ordered.proofs.Public.{from_start, is_from, past_end, LiesFrom}
use Rattle.sdb_validate.specs.Rescan.{expected_of_written}
use Rattle.sdb_validate.proofs.Rescans.{again, writes-get}

abbrev Bases : Type 0
Bases = List (Key × Option TxId)

-- what entries have at a key
abbrev at : Key → Bases → Option (Option TxId)
at q es = lookup (is_at (key_cmp q)) es

-- a key of the span is among the entries from the least key on, if it is among all
from_same : (span : Span) (es : Bases) (q : Key) → in_span span q ≡ true → at q (filter (λ e. is_from span e.0) es) ≡ at q es
unfolding same_key
from_same span es q h =
    lookup-filter-keys (is_at (key_cmp q)) (is_from span) true (λ k e. subst (λ x. is_from span x ≡ true) (same_key_exact q k e) (and_both (is_le (key_cmp (span_start span) q)) true (from_start span q h) refl)) es

-- after the first key outside, there is no key of the span
none_after : (span : Span) (e : Key × Option TxId) (es : Bases) (q : Key) → LiesFrom span (e ∷ es) → in_span span e.0 ≡ false → in_span span q ≡ true → at q (e ∷ es) ≡ None
unfolding same_key
none_after span e es q agrees out h =
    sym (lookup-filter-keys (is_at (key_cmp q)) (in_span span) true (λ k t. subst (λ x. in_span span x ≡ true) (same_key_exact q k t) h) (e ∷ es))
    ∙ ap (at q) (past_end span e es agrees out)

---- steps of the loop through a range

pub from_least : (span : Span) (fs es : Bases) (o : Option Expected) (q : Key) → fs ≡ filter (λ e. is_from span e.0) es → expected_of_written (in_span span q) (at q fs) o ≡ expected_of_written (in_span span q) (at q es) o
from_least span fs es o q same = by_test (in_span span q) refl where
  by_test : (b : Bool) → in_span span q ≡ b → expected_of_written b (at q fs) o ≡ expected_of_written b (at q es) o
  by_test false h = refl
  by_test true h = ap (λ x. expected_of_written true x o) (ap (at q) same ∙ from_same span es q h)

pub one_based : (span : Span) (e : Key × Option TxId) (es : Bases) (m : Wishes) (q : Key) → in_span span e.0 ≡ true → expected_of_written (in_span span q) (at q es) (get (insert m e.0 (wish.Based (wished_version (get m e.0) e.1))) q) ≡ expected_of_written (in_span span q) (at q (e ∷ es)) (get m q)
unfolding same_key
one_based span e es m q h =
    ap (expected_of_written (in_span span q) (at q es)) (get-insert key_total m e.0 (wish.Based (wished_version (get m e.0) e.1)) q) ∙ by_test (same_key q e.0) refl where
      by_test : (b : Bool) → same_key q e.0 ≡ b → expected_of_written (in_span span q) (at q es) (cond b (Some (wish.Based (wished_version (get m e.0) e.1))) (get m q)) ≡ expected_of_written (in_span span q) (cond b (Some e.1) (at q es)) (get m q)
      by_test false t = refl
      by_test true t =
          let here : q ≡ e.0 = same_key_exact q e.0 t in
          let inside : in_span span q ≡ true = ap (in_span span) here ∙ h in
          ap (λ b. expected_of_written b (at q es) (Some (wish.Based (wished_version (get m e.0) e.1)))) inside ∙ again (at q es) (get m e.0) e.1
          ∙ ap (λ k. Some (wish.Based (wished_version (get m k) e.1))) (sym here) ∙ ap (λ b. expected_of_written b (Some e.1) (get m q)) (sym inside)

pub none_based : (b : Bool) (o : Option Expected) → expected_of_written b None o ≡ o
none_based true o = refl
none_based false o = refl

-- all keys of the span are put in where no entry is left
pub all_based : (span : Span) (left : Bases) (o p : Option Expected) (q : Key) → left ≡ [] → expected_of_written (in_span span q) (at q left) o ≡ p → o ≡ p
all_based span left o p q none h = sym (ap (λ es. expected_of_written (in_span span q) (at q es) o) none ∙ none_based (in_span span q) o) ∙ h

-- and where the next one is outside
pub all_passed : (span : Span) (left : Bases) (e : Key × Option TxId) (es : Bases) (o p : Option Expected) (q : Key) → left ≡ e ∷ es → LiesFrom span left → in_span span e.0 ≡ false → expected_of_written (in_span span q) (at q left) o ≡ p → o ≡ p
all_passed span left e es o p q next agrees out h = sym (by_test (in_span span q) refl) ∙ h where
  by_test : (b : Bool) → in_span span q ≡ b → expected_of_written b (at q left) o ≡ o
  by_test false t = refl
  by_test true t = ap (λ x. expected_of_written true x o) (ap (at q) next ∙ none_after span e es q (subst (LiesFrom span) next agrees) out t)

---- all writes

-- what is wished, by the written keys, is what is wished by the writes
pub wished_same : (span : Span) (own : List Write) (m n : Wishes) (bases : Key → Option (Option TxId)) → ((q : Key) → bases q ≡ base_of own q) → ((q : Key) → get n q ≡ expected_of_written (in_span span q) (bases q) (get m q)) → n ≡ with_writes span own m
wished_same span own m n bases same h =
    same_map key_total key_exact n (with_writes span own m) (λ q. h q ∙ ap (λ b. expected_of_written (in_span span q) b (get m q)) (same q) ∙ sym (writes-get span own m q))
