-- What the grammar derives of policies stands where its tokens do, each part inside what it is a part of.
use Rattle.std.proofs.Common.{◌≡◌, ℕ, ◌+◌, ◌<◌, ◌≤◌, List, length, refl, sym, subst, arith, Bool, true, false}
use Rattle.cedar_text_lexer.specs.declared.tokens.Token.{Token}
use Rattle.cedar_text_syntax.specs.declared.steps.Binary.{Binary}
use Rattle.cedar_text_syntax.specs.declared.steps.Binary.TheVariants as binaries
use Rattle.cedar_text_syntax.specs.declared.steps.Unary.TheVariants as unaries
use Rattle.cedar_text_syntax.specs.Places.{IsInOrder, IsInside, AreInside}
use Rattle.cedar_text_lexer.specs.Sequence.{start_at, end_at}
use Rattle.cedar_text_syntax.specs.Trees.{Tree, unary, binary, Trees}
use Rattle.cedar_text_syntax.proofs.Growing.{path_grows, grows}
use Rattle.cedar_text_syntax.proofs.Nested.{path_ends, starts_before, ends_before, across, wider, braces_nested}
use Rattle.cedar_text_syntax.specs.Grammar.{IsInBraces, in_braces, negated_if}
use Rattle.cedar_text_syntax.specs.declared.policies.Annotation.{Annotation}
use Rattle.cedar_text_syntax.specs.declared.policies.Variable.{Variable}
use Rattle.cedar_text_syntax.specs.PolicyGrammar.{variable_at, IsEntity, entity, IsReference, to_entity, to_slot, AreEntities}
use Rattle.cedar_text_syntax.specs.PolicyGrammar.{one_entity, one_entity_more, no_entity, some_entities, IsSet, is_set}
use Rattle.cedar_text_syntax.specs.PolicyGrammar.{IsConstraint, unconstrained, compared, in_list, of_type, of_type_in, IsClause}
use Rattle.cedar_text_syntax.specs.PolicyGrammar.{clause, AreClauses, one_clause, one_clause_more, HasConditions}
use Rattle.cedar_text_syntax.specs.PolicyGrammar.{no_clause, some_clauses, AreAnnotations, no_annotation, one_key, one_value}
use Rattle.cedar_text_syntax.specs.PolicyGrammar.{IsScope, scope, IsPolicy, policy, PolicyTree}
use Rattle.cedar_text_syntax.specs.PolicyReading.{AreBetween}

-- ---- what is derived takes tokens, and ends with the last of them

-- tokens i up to, but not including, j end before byte e
record Reaches (all : List Token) (i j e : ℕ) : Type 0 where
  last : ℕ
  before : j ≡ last + 1
  order : i ≤ last
  ends : e ≡ end_at all last

entity_reaches : {all : List Token} {i j e : ℕ} {p : Tree} → IsEntity all i j e p → Reaches all i j e
entity_reaches (entity {k = k} h c t) =
    record { last = k + 1; before = refl; order = omega (arith, path_grows h); ends = refl }

reference_reaches : {all : List Token} {v : Variable} {i j e : ℕ} {p : Tree} → IsReference all v i j e p →
    Reaches all i j e
reference_reaches (to_entity h) = entity_reaches h
reference_reaches (to_slot {i = i} k) = record { last = i; before = refl; order = omega arith; ends = refl }

entity_grows : {all : List Token} {i j e : ℕ} {p : Tree} → IsEntity all i j e p → i < j
entity_grows h =
    let g = entity_reaches h in
    omega (arith, g.before, g.order)

reference_grows : {all : List Token} {v : Variable} {i j e : ℕ} {p : Tree} → IsReference all v i j e p → i < j
reference_grows h =
    let g = reference_reaches h in
    omega (arith, g.before, g.order)

entities_grow : {all : List Token} {i j : ℕ} {ps : Trees} → AreEntities all i j ps → i < j
entities_grow (one_entity h) = entity_grows h
entities_grow (one_entity_more hs k h) = omega (arith, entities_grow hs, entity_grows h)

set_grows : {all : List Token} {i j : ℕ} {p : Tree} → IsSet all i j p → i < j
set_grows (is_set (no_entity k l)) = omega arith
set_grows (is_set (some_entities k hs l)) = omega (arith, entities_grow hs)

constraint_grows : {all : List Token} {v : Variable} {i j : ℕ} {p : Tree} → IsConstraint all v i j p → i < j
constraint_grows (unconstrained k) = omega arith
constraint_grows (compared k r h) = omega (arith, reference_grows h)
constraint_grows (in_list v k l h) = omega (arith, set_grows h)
constraint_grows (of_type t k l h) = omega (arith, path_grows h)
constraint_grows (of_type_in t k l h m r) = omega (arith, path_grows h, reference_grows r)

braces_grow : {all : List Token} {i j : ℕ} {p : Tree} → IsInBraces all i j p → i < j
braces_grow (in_braces k d l) = omega (arith, grows d)

clause_reaches : {all : List Token} {i j s e : ℕ} {p : Tree} → IsClause all i j s e p → Reaches all i j e
clause_reaches (clause {j = j} k b) =
    record { last = j; before = refl; order = omega (arith, braces_grow b); ends = refl }

clause_starts : {all : List Token} {i j s e : ℕ} {p : Tree} → IsClause all i j s e p → s ≡ start_at all i
clause_starts (clause k b) = refl

clauses_reach : {all : List Token} {i j s e : ℕ} {p : Tree} → AreClauses all i j s e p → Reaches all i j e
clauses_reach (one_clause h) = clause_reaches h
clauses_reach (one_clause_more hs h) =
    let g = clauses_reach hs in
    let f = clause_reaches h in
    record { last = f.last; before = f.before; order = omega (arith, g.before, g.order, f.order); ends = f.ends }

clauses_start : {all : List Token} {i j s e : ℕ} {p : Tree} → AreClauses all i j s e p → s ≡ start_at all i
clauses_start (one_clause h) = clause_starts h
clauses_start (one_clause_more hs h) = clauses_start hs

annotations_grow : {all : List Token} {i j : ℕ} {xs : List Annotation} → AreAnnotations all i j xs → i ≤ j
annotations_grow no_annotation = omega arith
annotations_grow (one_key h k w) = omega (arith, annotations_grow h)
annotations_grow (one_value h k w l m n) = omega (arith, annotations_grow h)

condition_grows : {all : List Token} {i j : ℕ} {p : Tree} → HasConditions all i j p → i ≤ j
condition_grows (no_clause k) = omega arith
condition_grows (some_clauses hs k) =
    let g = clauses_reach hs in
    omega (arith, g.before, g.order)

scope_grows : {all : List Token} {i j : ℕ} {p q r : Tree} → IsScope all i j p q r → i < j
scope_grows (scope k a l b m c n) = omega (arith, constraint_grows a, constraint_grows b, constraint_grows c)

-- a policy ends behind the token with which it begins
pub policy_grows : {all : List Token} {i j : ℕ} {t : PolicyTree} → IsPolicy all i j t → i < j
policy_grows (policy xs e s c) = omega (arith, annotations_grow xs, scope_grows s, condition_grows c)

-- ---- places

module _ {all : List Token} (ordered : IsInOrder all) where
  -- a token stands between one that comes no later and one that comes no earlier
  token_inside : (b i z : ℕ) → b ≤ i → i ≤ z → z < length all →
      (start_at all b ≤ start_at all i) × (start_at all i ≤ end_at all i) × (end_at all i ≤ end_at all z)
  token_inside b i z low high lt = (
    starts_before ordered b i low (omega (arith, high, lt)),
    ordered.forward i (omega (arith, high, lt)),
    ends_before ordered i z high lt,
  )

  entity_inside : {i j e : ℕ} {p : Tree} (b z : ℕ) → IsEntity all i j e p → b ≤ i → j ≤ z + 1 → z < length all →
      IsInside (start_at all b) (end_at all z) p
  entity_inside b z (entity {i = i} {k = k} h c t) low high lt =
      let g = path_ends h in (
        rw g.starts (starts_before ordered b i low (omega (arith, path_grows h, high, lt))),
        rw g.starts (across ordered i (k + 1) (omega (arith, path_grows h)) (omega (arith, high, lt))),
        ends_before ordered (k + 1) z (omega (arith, high)) lt,
      )

  reference_inside : {v : Variable} {i j e : ℕ} {p : Tree} (b z : ℕ) → IsReference all v i j e p → b ≤ i → j ≤ z + 1 →
      z < length all → IsInside (start_at all b) (end_at all z) p
  reference_inside b z (to_entity h) low high lt = entity_inside b z h low high lt
  reference_inside b z (to_slot {i = i} k) low high lt = token_inside b i z low (omega (arith, high)) lt

  entities_inside : {i j : ℕ} {ps : Trees} (b z : ℕ) → AreEntities all i j ps → b ≤ i → j ≤ z + 1 → z < length all →
      AreInside (start_at all b) (end_at all z) ps
  entities_inside b z (one_entity h) low high lt = (tt, entity_inside b z h low high lt)
  entities_inside b z (one_entity_more hs k h) low high lt = (
    entities_inside b z hs low (omega (arith, entity_grows h, high)) lt,
    entity_inside b z h (omega (arith, entities_grow hs, low)) high lt,
  )

  set_inside : {i j : ℕ} {p : Tree} (b z : ℕ) → IsSet all i j p → b ≤ i → j ≤ z → z < length all →
      IsInside (start_at all b) (end_at all z) p
  set_inside b z (is_set (no_entity {i = i} k l)) low high lt = (
    starts_before ordered b i low (omega (arith, high, lt)),
    ends_before ordered (i + 1) z high lt,
    across ordered i (i + 1) (omega arith) (omega (arith, high, lt)),
    tt,
  )
  set_inside b z (is_set (some_entities {i = i} {j = j} k hs l)) low high lt = (
    starts_before ordered b i low (omega (arith, entities_grow hs, high, lt)),
    ends_before ordered j z high lt,
    across ordered i j (omega (arith, entities_grow hs)) (omega (arith, high, lt)),
    entities_inside i j hs (omega arith) (omega arith) (omega (arith, high, lt)),
  )

  -- a relation of the variable, token i, which ends with the token `last`
  relation_inside : (p : Tree) (b z i last : ℕ) (o : Binary) → b ≤ i → i ≤ last → last ≤ z → z < length all →
      IsInside (start_at all i) (end_at all last) p →
      IsInside (start_at all b) (end_at all z) (binary o (variable_at all i) p (start_at all i) (end_at all last))
  relation_inside p b z i last o low order high lt h = (
    starts_before ordered b i low (omega (arith, order, high, lt)),
    ends_before ordered last z high lt,
    token_inside i i last (omega arith) order (omega (arith, high, lt)),
    h,
  )

  constraint_inside : {v : Variable} {i j : ℕ} {p : Tree} (b z : ℕ) → IsConstraint all v i j p → b ≤ i → j ≤ z + 1 →
      z < length all → IsInside (start_at all b) (end_at all z) p
  constraint_inside b z (unconstrained {i = i} k) low high lt = token_inside b i z low (omega (arith, high)) lt
  constraint_inside b z (compared {i = i} {b = o} {p = p} k r h) low high lt =
      let g = reference_reaches h in
      let before : g.last < length all = omega (arith, g.before, high, lt) in
      let inside : IsInside (start_at all i) (end_at all g.last) p =
      reference_inside i g.last h (omega arith) (omega (arith, g.before)) before in
      subst (λ e. IsInside (start_at all b) (end_at all z) (binary o (variable_at all i) p (start_at all i) e)) (sym g.ends)
      (relation_inside p b z i g.last o low (omega (arith, g.order)) (omega (arith, g.before, high)) lt inside)
  constraint_inside b z (in_list {i = i} {j = j} {p = p} v k l h) low high lt =
      let inside : IsInside (start_at all i) (end_at all j) p =
      set_inside i j h (omega arith) (omega arith) (omega (arith, high, lt)) in
      relation_inside p b z i j binaries.In low (omega (arith, set_grows h)) (omega (arith, high)) lt inside
  constraint_inside b z (of_type {i = i} {k = k} t m l h) low high lt =
      let g = path_ends h in
      subst (λ e. IsInside (start_at all b) (end_at all z)
      (unary (unaries.Is (i + 1 + 1) k) (variable_at all i) (start_at all i) e)) (sym g.ends) (
        starts_before ordered b i low (omega (arith, g.before, g.order, high, lt)),
        ends_before ordered g.last z (omega (arith, g.before, high)) lt,
        token_inside i i g.last (omega arith) (omega (arith, g.order)) (omega (arith, g.before, high, lt)),
      )
  constraint_inside b z (of_type_in {i = i} {k = k} {p = p} t m l h n r) low high lt =
      let g = reference_reaches r in
      let before : g.last < length all = omega (arith, g.before, high, lt) in
      let inside : IsInside (start_at all i) (end_at all g.last) p =
      reference_inside i g.last r (omega (arith, path_grows h)) (omega (arith, g.before)) before in
      subst (λ e. IsInside (start_at all b) (end_at all z)
      (binary (binaries.IsIn (i + 1 + 1) k) (variable_at all i) p (start_at all i) e)) (sym g.ends)
      (relation_inside p b z i g.last (binaries.IsIn (i + 1 + 1) k) low (omega (arith, path_grows h, g.order))
      (omega (arith, g.before, high)) lt inside)

  negated_between : (n : Bool) (b i j z : ℕ) (p : Tree) → b ≤ i → i ≤ j → j ≤ z → z < length all →
      IsInside (start_at all i) (end_at all j) p →
      IsInside (start_at all b) (end_at all z) (negated_if n p (start_at all i) (end_at all j))
  negated_between true b i j z p low order high lt h = (
    starts_before ordered b i low (omega (arith, order, high, lt)),
    ends_before ordered j z high lt,
    h,
  )
  negated_between false b i j z p low order high lt h =
      wider p (starts_before ordered b i low (omega (arith, order, high, lt))) (ends_before ordered j z high lt) h

  clause_inside : {i j s e : ℕ} {p : Tree} (b z : ℕ) → IsClause all i j s e p → b ≤ i → j ≤ z + 1 → z < length all →
      IsInside (start_at all b) (end_at all z) p
  clause_inside b z (clause {i = i} {j = j} {b = n} {p = p} k h) low high lt =
      let before : j < length all = omega (arith, high, lt) in
      let inside : IsInside (start_at all i) (end_at all j) p =
      wider p (starts_before ordered i (i + 1) (omega arith) (omega (arith, braces_grow h, before)))
      (ends_before ordered j j (omega arith) before) (braces_nested h before ordered) in
      negated_between n b i j z p low (omega (arith, braces_grow h)) (omega (arith, high)) lt inside

  clauses_inside : {i j s e : ℕ} {p : Tree} (b z : ℕ) → AreClauses all i j s e p → b ≤ i → j ≤ z + 1 →
      z < length all → IsInside (start_at all b) (end_at all z) p
  clauses_inside b z (one_clause h) low high lt = clause_inside b z h low high lt
  clauses_inside b z (one_clause_more {i = i} {p = p} {q = q} hs h) low high lt =
      let start = clauses_start hs in
      let f = clauses_reach hs in
      let g = clause_reaches h in
      let before : g.last < length all = omega (arith, g.before, high, lt) in
      rw (start, g.ends) (
        starts_before ordered b i low (omega (arith, f.before, f.order, g.order, before)),
        ends_before ordered g.last z (omega (arith, g.before, high)) lt,
        clauses_inside i g.last hs (omega arith) (omega (arith, g.order)) before,
        clause_inside i g.last h (omega (arith, f.before, f.order)) (omega (arith, g.before)) before,
      )

  condition_inside : {i j : ℕ} {p : Tree} (b z : ℕ) → HasConditions all i j p → b ≤ i → j ≤ z → z < length all →
      IsInside (start_at all b) (end_at all z) p
  condition_inside b z (no_clause {j = j} k) low high lt = token_inside b j z low high lt
  condition_inside b z (some_clauses hs k) low high lt = clauses_inside b z hs low (omega (arith, high)) lt

  pub policy_nested : {i j : ℕ} {t : PolicyTree} → IsPolicy all i j t → j < length all →
      AreBetween (start_at all i) (end_at all j) t.principal t.action t.resource t.condition
  policy_nested {i = i} {j = j} (policy h b (scope k p l q m r o) t) lt =
      let a = annotations_grow h in
      let g = condition_grows t in (
        constraint_inside i j p (omega (arith, a)) (omega (arith, constraint_grows q, constraint_grows r, g)) lt,
        constraint_inside i j q (omega (arith, a, constraint_grows p)) (omega (arith, constraint_grows r, g)) lt,
        constraint_inside i j r (omega (arith, a, constraint_grows p, constraint_grows q)) (omega (arith, g)) lt,
        condition_inside i j t (omega (arith, a, constraint_grows p, constraint_grows q, constraint_grows r)) (omega arith) lt,
      )
