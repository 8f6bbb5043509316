-- What `like` is told is what its SQL is worth.
use Rattle.std.specs.Prelude.{pos, min}
use Rattle.std.specs.Str.{chars, encode_utf8_all, all_scalars}
use Rattle.std.specs.Cmp.Lexicographic.{slice_cmp}
use Rattle.std.specs.Ordering.{int_cmp, is_le, is_lt}
use Rattle.std.proofs.Common.{◌≡◌, ◌∙◌, inl, inr, ℕ, Bool, true, false, cond, ◌&&◌, ◌||◌, List, Option, Some, None, refl, sym, ap, arith, nat_cmp, is_eq}
use Rattle.std.proofs.lemmas.Bool.{or_left, or_right}
use Rattle.std.proofs.lemmas.Bool.Decides.{nat_tests}
use Rattle.std.proofs.lemmas.Str.{IsUtf8-from_is_utf8, encodes-chars, scalars-chars}
use Rattle.sqlite_value.specs.declared.value.Value.{Value}
use Rattle.sqlite_value.specs.declared.value.Value.TheVariants as sql
use Rattle.sqlite_value.specs.declared.value.Value.TheVariants.{Null, Int}
use Rattle.sqlite_value.specs.declared.keys.Collation.TheVariants.{Binary}
use Rattle.sqlite_value.specs.Order.{Row}
use Rattle.sqlite_value.proofs.OrderLemmas.{value_cmp-Text}
use Rattle.sqlite_sql.specs.declared.ops.CompareOp.{CompareOp}
use Rattle.sqlite_sql.specs.declared.ops.CompareOp.TheVariants.{Eq, Lt, Le}
use Rattle.sqlite_sql.specs.declared.ops.BinaryOp.TheVariants as by
use Rattle.sqlite_sql.specs.Ops.{from_truth, is_null, binary, test}
use Rattle.sqlite_sql.specs.Text.{place_of, place_value}
use Rattle.sqlite_sql.specs.Term.{Term, Env, eval}
use Rattle.cedar_model.specs.Terms.{PatternPart}
use Rattle.cedar_model.specs.Outcomes.{text_of, matches}
use Rattle.cedar_filter.specs.Rows.{Told, told_then, told_needing, tells_bool}
use Rattle.cedar_sql.specs.declared.patterns.Wildcards.{Wildcards}
use Rattle.cedar_sql.specs.declared.patterns.Wildcards.TheVariants.{Nowhere, AtEnd, AtBothEnds, Elsewhere}
use Rattle.cedar_sql.specs.Meaning.{told_value}
use Rattle.cedar_sql.specs.Sides.{Sort, bool_sort, long_sort, text_sort, entity_sort, row_sort}
use Rattle.cedar_sql.specs.Patterns.{is_plain, is_front, behind_wildcards, wildcards, characters, has_a_place, behind, range_term, placed_term, like_term, pattern_term}
use Rattle.cedar_sql.proofs.Values.{HeldOf, sql_held, cedar_held, IsOfSort, longs_compared, null_compared}
use Rattle.cedar_sql.proofs.Truths.{IsSide, truth_value}
use Rattle.cedar_sql.proofs.Utf8.{texts_ordered}
use Rattle.cedar_sql.proofs.Matching.{starts, stands_in, matches_plain, matches_front, matches_within}
use Rattle.cedar_sql.proofs.Ranges.{in_range, range_is}
use Rattle.cedar_sql.proofs.Places.{counts, is_place, place_is}

-- ---- SQL on texts

-- a text of characters
abbrev written : List ℕ → Value
written cs = sql.Text (encode_utf8_all cs)

characters_compared : (op : CompareOp) (cs ds : List ℕ)
    → binary (by.Compare op Binary) (written cs) (written ds) ≡ from_truth (Some (test op (slice_cmp nat_cmp cs ds)))
unfolding binary
characters_compared op cs ds =
    ap (λ o. from_truth (Some (test op o))) (value_cmp-Text (encode_utf8_all cs) (encode_utf8_all ds) ∙ texts_ordered cs ds)

both_truths : (b c : Bool) → binary by.And (from_truth (Some b)) (from_truth (Some c)) ≡ from_truth (Some (b && c))
unfolding binary
both_truths true true = refl
both_truths true false = refl
both_truths false true = refl
both_truths false false = refl

both_null : binary by.And Null Null ≡ Null
unfolding binary
both_null = refl

place_in : (cs ds : List ℕ) → binary by.Instr (written ds) (written cs) ≡ place_value (place_of counts (encode_utf8_all cs) (encode_utf8_all ds))
unfolding binary
place_in cs ds = refl

no_place : (v : Value) → binary by.Instr Null v ≡ Null
unfolding binary
no_place v = refl

is_below : (n : ℕ) → is_lt (int_cmp (pos 0) (pos (min n 9223372036854775807))) ≡ is_place n
is_below n = grind (arith, nat_tests)

place_compared : (n : ℕ) → binary (by.Compare Lt Binary) (Int (pos 0)) (place_value n) ≡ from_truth (Some (is_place n))
place_compared n =
    longs_compared Lt (pos 0) (pos (min n 9223372036854775807)) ∙ ap (λ b. from_truth (Some b)) (is_below n)

-- ---- a column that holds a text

module _ (env : Env) (a : Term) (ds : List ℕ) (is_text : eval a env ≡ written ds) where
  whole_is : (cs : List ℕ) → eval (placed_term Nowhere cs a) env ≡ from_truth (Some (is_eq (slice_cmp nat_cmp ds cs)))
  whole_is cs = (λ i. binary (by.Compare Eq Binary) (is_text i) (written cs)) ∙ characters_compared Eq ds cs

  from_is : (cs : List ℕ) → binary (by.Compare Le Binary) (written cs) (eval a env) ≡ from_truth (Some (is_le (slice_cmp nat_cmp cs ds)))
  from_is cs = (λ i. binary (by.Compare Le Binary) (written cs) (is_text i)) ∙ characters_compared Le cs ds

  before_is : (cs : List ℕ) → binary (by.Compare Lt Binary) (eval a env) (written cs) ≡ from_truth (Some (is_lt (slice_cmp nat_cmp ds cs)))
  before_is cs = (λ i. binary (by.Compare Lt Binary) (is_text i) (written cs)) ∙ characters_compared Lt ds cs

  range_worth : (cs : List ℕ) (o : Option (List ℕ)) → eval (range_term cs o a) env ≡ from_truth (Some (in_range cs o ds))
  range_worth cs None = from_is cs
  range_worth cs (Some es) =
      (λ i. binary by.And (from_is cs i) (before_is es i)) ∙ both_truths (is_le (slice_cmp nat_cmp cs ds)) (is_lt (slice_cmp nat_cmp ds es))

  front_is : (cs : List ℕ) → all_scalars ds ≡ true → eval (placed_term AtEnd cs a) env ≡ from_truth (Some (starts cs ds))
  front_is cs s = range_worth cs (behind cs) ∙ ap (λ b. from_truth (Some b)) (range_is cs ds s)

  within_is : (cs : List ℕ) → eval (placed_term AtBothEnds cs a) env ≡ from_truth (Some (stands_in cs ds))
  within_is cs =
      (λ i. binary (by.Compare Lt Binary) (Int (pos 0)) (((λ j. binary by.Instr (is_text j) (written cs)) ∙ place_in cs ds) i))
      ∙ place_compared (place_of counts (encode_utf8_all cs) (encode_utf8_all ds))
      ∙ ap (λ b. from_truth (Some b)) (place_is cs ds)

  -- where the wildcards stand, by the three tests
  worth : (q r s : Bool) (ps : List PatternPart) → is_plain ps ≡ q → is_front ps ≡ r → is_front (behind_wildcards ps) ≡ s
      → has_a_place (cond q Nowhere (cond r AtEnd (cond s AtBothEnds Elsewhere))) ≡ true → all_scalars ds ≡ true
      → eval (placed_term (cond q Nowhere (cond r AtEnd (cond s AtBothEnds Elsewhere))) (characters ps) a) env ≡ from_truth (Some (matches ps ds))
  worth true r s ps plain front within said scalars =
      whole_is (characters ps) ∙ ap (λ b. from_truth (Some b)) (sym (matches_plain ps ds plain))
  worth false true s ps plain front within said scalars =
      front_is (characters ps) scalars ∙ ap (λ b. from_truth (Some b)) (sym (matches_front ps ds front))
  worth false false true ps plain front within said scalars =
      within_is (characters ps) ∙ ap (λ b. from_truth (Some b)) (sym (matches_within ps ds front within))
  worth false false false ps plain front within said scalars = absurd (cc)

  like_is : (ps : List PatternPart) → has_a_place (wildcards ps) ≡ true → all_scalars ds ≡ true
      → eval (like_term ps a) env ≡ from_truth (Some (matches ps ds))
  like_is ps said scalars = worth (is_plain ps) (is_front ps) (is_front (behind_wildcards ps)) ps refl refl refl said scalars

-- ---- an operand

like_held : (ps : List PatternPart) (row : Row) (env : Env) (s : Sort) (h : HeldOf s) (a : Term) → has_a_place (wildcards ps) ≡ true
    → IsOfSort row s h → eval a env ≡ sql_held s h
    → told_value (told_needing (text_of (cedar_held s h)) (λ t. tells_bool (matches ps (chars t)))) ≡ Some (eval (pattern_term ps s a) env)
unfolding text_of
like_held ps row env bool_sort h a said of is = refl
like_held ps row env long_sort h a said of is = refl
like_held ps row env text_sort t a said of is =
    let utf8 = IsUtf8-from_is_utf8 t of in
    truth_value (matches ps (chars t))
    ∙ ap Some (sym (like_is env a (chars t) (is ∙ ap sql.Text (sym (encodes-chars t utf8))) ps said (scalars-chars t utf8)))
like_held ps row env (entity_sort u) h a said of is = refl
like_held ps row env (row_sort p) h a said of is = refl

first_null : (v w : Value) → v ≡ Null → (is_null v || is_null w) ≡ true
first_null v w is = or_left (is_null v) (is_null w) (ap is_null is)

second_null : (v w : Value) → w ≡ Null → (is_null v || is_null w) ≡ true
second_null v w is = or_right (is_null v) (is_null w) (ap is_null is)

range_null : (cs : List ℕ) (o : Option (List ℕ)) (env : Env) (a : Term) → eval a env ≡ Null → eval (range_term cs o a) env ≡ Null
range_null cs None env a is = null_compared Le (written cs) (eval a env) (second_null (written cs) (eval a env) is)
range_null cs (Some ds) env a is =
    (λ i. binary by.And (null_compared Le (written cs) (eval a env) (second_null (written cs) (eval a env) is) i)
    (null_compared Lt (eval a env) (written ds) (first_null (eval a env) (written ds) is) i)) ∙ both_null

placed_null : (w : Wildcards) (cs : List ℕ) (env : Env) (a : Term) → eval a env ≡ Null → eval (placed_term w cs a) env ≡ Null
placed_null Nowhere cs env a is = null_compared Eq (eval a env) (written cs) (first_null (eval a env) (written cs) is)
placed_null AtEnd cs env a is = range_null cs (behind cs) env a is
placed_null AtBothEnds cs env a is =
    null_compared Lt (Int (pos 0)) (binary by.Instr (eval a env) (written cs))
    (second_null (Int (pos 0)) (binary by.Instr (eval a env) (written cs)) ((λ i. binary by.Instr (is i) (written cs)) ∙ no_place (written cs)))
placed_null Elsewhere cs env a is = refl

like_null : (ps : List PatternPart) (s : Sort) (env : Env) (a : Term) → eval a env ≡ Null → Null ≡ eval (pattern_term ps s a) env
like_null ps bool_sort env a is = refl
like_null ps long_sort env a is = refl
like_null ps text_sort env a is = sym (placed_null (wildcards ps) (characters ps) env a is)
like_null ps (entity_sort t) env a is = refl
like_null ps (row_sort p) env a is = refl

pub like_told : (ps : List PatternPart) (row : Row) (env : Env) (s : Sort) (r : Told) (a : Term) → has_a_place (wildcards ps) ≡ true
    → IsSide row s r (eval a env)
    → told_value (told_then r (λ v. told_needing (text_of v) (λ t. tells_bool (matches ps (chars t))))) ≡ Some (eval (pattern_term ps s a) env)
like_told ps row env s r a said side = elim side [
  | inl f ↦
      (λ i. told_value (told_then (f.is_told i) (λ v. told_needing (text_of v) (λ t. tells_bool (matches ps (chars t))))))
      ∙ ap Some (like_null ps s env a f.is_null)
  | inr h ↦
      (λ i. told_value (told_then (h.is_told i) (λ v. told_needing (text_of v) (λ t. tells_bool (matches ps (chars t))))))
      ∙ like_held ps row env s h.held a said h.of_sort h.is_value
]
