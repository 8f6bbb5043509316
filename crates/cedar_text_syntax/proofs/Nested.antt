-- What the grammar derives stands where its tokens do, each part inside what it is a part of.
use Rattle.std.proofs.Common.{◌≡◌, ℕ, ◌+◌, ◌-◌, ◌<◌, ◌≤◌, List, length, refl, sym, arith, Bool, true, false, suc, zero}
use Rattle.std.proofs.Common.{inl, inr, [], ◌∷◌, subst}
use Rattle.std.proofs.Math.Nat.{eq-or-lt_of_le}
use Rattle.cedar_text_lexer.specs.declared.tokens.Token.{Token}
use Rattle.cedar_text_syntax.specs.declared.steps.Sign.{Sign}
use Rattle.cedar_text_syntax.specs.declared.steps.Sign.TheVariants.{Neg}
use Rattle.cedar_text_syntax.specs.declared.steps.Bracketed.{Bracketed}
use Rattle.cedar_text_lexer.specs.Sequence.{start_at, end_at}
use Rattle.cedar_text_syntax.specs.Trees.{Tree, leaf, unary, binary, conditional, field, bracketed, Trees, signed, height}
use Rattle.cedar_text_syntax.specs.Places.{IsInOrder, IsInside, AreInside, IsNested}
use Rattle.cedar_text_syntax.specs.Grammar.{negated_if, is_negated, binary_of, IsPath, one_name, name_inside, IsDotted}
use Rattle.cedar_text_syntax.specs.Grammar.{one_attribute, attribute_inside, Derives, by_leaf, by_number, by_entity}
use Rattle.cedar_text_syntax.specs.Grammar.{by_parens, by_brackets, by_attribute, by_index, by_signs, by_negative}
use Rattle.cedar_text_syntax.specs.Grammar.{by_infix, by_has, by_has_text, by_like, by_is, by_is_in, by_if, Opens}
use Rattle.cedar_text_syntax.specs.Grammar.{opens_set, opens_record, opens_call, opens_method, Begins, nothing, comma}
use Rattle.cedar_text_syntax.specs.Grammar.{Lists, empty, filled, IsItem, item, keyed, IsExpression, whole}
use Rattle.cedar_text_syntax.specs.Grammar.{IsInBraces, in_braces}
use Rattle.cedar_text_syntax.specs.Reading.{IsWhole, is_whole, HasRead, has_read, IsClosed, is_closed}
use Rattle.cedar_text_syntax.specs.Reading.{HasReadClause, has_read_clause}
use Rattle.cedar_text_syntax.proofs.Growing.{grows, signs_grow, lists_grow, begins_grow, item_grows}

-- the part starts with its first token, i, and ends with its last, before j
pub record Ends (all : List Token) (i j s e : ℕ) : Type 0 where
  pub last : ℕ
  pub before : j ≡ last + 1
  pub order : i ≤ last
  pub starts : s ≡ start_at all i
  pub ends : e ≡ end_at all last

pub path_ends : {all : List Token} {i j s e : ℕ} → IsPath all i j s e → Ends all i j s e
path_ends (one_name {i} h) = record { last = i; before = refl; order = omega arith; starts = refl; ends = refl }
path_ends (name_inside {k = k} h c l) =
    let g = path_ends h in
    record { last = k + 1; before = refl; order = omega (arith, g.before, g.order); starts = g.starts; ends = refl }

dotted_ends : {all : List Token} {i j e : ℕ} → IsDotted all i j e → Ends all i j (start_at all i) e
dotted_ends (one_attribute {i} h) =
    record { last = i; before = refl; order = omega arith; starts = refl; ends = refl }
dotted_ends (attribute_inside {k = k} h c l) =
    let g = dotted_ends h in
    record { last = k + 1; before = refl; order = omega (arith, g.before, g.order); starts = refl; ends = refl }

mutual
  ends_of : {all : List Token} {n i j s e : ℕ} {p : Tree} → Derives all n i j s e p → Ends all i j s e
  ends_of (by_leaf {i} k) = record { last = i; before = refl; order = omega arith; starts = refl; ends = refl }
  ends_of (by_number {i} k) = record { last = i; before = refl; order = omega arith; starts = refl; ends = refl }
  ends_of (by_entity {k = k} h l m) =
      let g = path_ends h in
      record { last = k + 1; before = refl; order = omega (arith, g.before, g.order); starts = g.starts; ends = refl }
  ends_of (by_parens {j = j} k d l) =
      record { last = j; before = refl; order = omega (arith, grows d); starts = refl; ends = refl }
  ends_of (by_brackets {j = j} o l c) =
      let g = opens_start o in
      record { last = j; before = refl; order = omega (arith, g.0, lists_grow l); starts = g.1; ends = refl }
  ends_of (by_attribute {j = j} d le k l) =
      let g = ends_of d in
      record { last = j + 1; before = refl; order = omega (arith, g.before, g.order); starts = g.starts; ends = refl }
  ends_of (by_index {j = j} d le k l m) =
      let g = ends_of d in
      record
      { last = j + 1 + 1; before = refl; order = omega (arith, g.before, g.order); starts = g.starts; ends = refl }
  ends_of (by_signs h le d low high) =
      let g = ends_of d in
      record
      { last = g.last; before = g.before; order = omega (arith, signs_grow h, g.order); starts = refl; ends = g.ends }
  ends_of (by_negative {j = j} h le k) =
      record { last = j; before = refl; order = signs_grow h; starts = refl; ends = refl }
  ends_of (by_infix d le k f lt) =
      let g = ends_of d in
      let h = ends_of f in
      record {
        last = h.last;
        before = h.before;
        order = omega (arith, g.before, g.order, h.order);
        starts = g.starts;
        ends = h.ends;
      }
  ends_of (by_has d le k l) =
      let g = ends_of d in
      let h = dotted_ends l in
      record {
        last = h.last;
        before = h.before;
        order = omega (arith, g.before, g.order, h.order);
        starts = g.starts;
        ends = h.ends;
      }
  ends_of (by_has_text {j = j} d le k l) =
      let g = ends_of d in
      record { last = j + 1; before = refl; order = omega (arith, g.before, g.order); starts = g.starts; ends = refl }
  ends_of (by_like {j = j} d le k l) =
      let g = ends_of d in
      record { last = j + 1; before = refl; order = omega (arith, g.before, g.order); starts = g.starts; ends = refl }
  ends_of (by_is d le k l) =
      let g = ends_of d in
      let h = path_ends l in
      record {
        last = h.last;
        before = h.before;
        order = omega (arith, g.before, g.order, h.order);
        starts = g.starts;
        ends = h.ends;
      }
  ends_of (by_is_in d le k l m f lt) =
      let g = ends_of d in
      let h = path_ends l in
      let x = ends_of f in
      record {
        last = x.last;
        before = x.before;
        order = omega (arith, g.before, g.order, h.before, h.order, x.order);
        starts = g.starts;
        ends = x.ends;
      }
  ends_of (by_if k d l f m g) =
      let x = ends_of g in
      record {
        last = x.last;
        before = x.before;
        order = omega (arith, grows d, grows f, x.order);
        starts = refl;
        ends = x.ends;
      }

  opens_start : {all : List Token} {k : Bracketed} {b i s : ℕ} {ps : Trees} → Opens all k b i s ps →
      (b < i) × (s ≡ start_at all b)
  opens_start (opens_set k) = (omega arith, refl)
  opens_start (opens_record k) = (omega arith, refl)
  opens_start (opens_call h k) =
      let g = path_ends h in
      (omega (arith, g.before, g.order), g.starts)
  opens_start (opens_method d le k l m) =
      let g = ends_of d in
      (omega (arith, g.before, g.order), g.starts)

pub wider : {lo hi from to : ℕ} (t : Tree) → lo ≤ from → to ≤ hi → IsInside from to t → IsInside lo hi t
wider (leaf l s e) p q h = (omega (arith, h.0), h.1, omega (arith, h.2))
wider (unary u t s e) p q h = (omega (arith, h.0), omega (arith, h.1), h.2)
wider (binary b t u s e) p q h = (omega (arith, h.0), omega (arith, h.1), h.2, h.3)
wider (conditional t u v s e) p q h = (omega (arith, h.0), omega (arith, h.1), h.2, h.3, h.4)
wider (field i t s e) p q h = (omega (arith, h.0), omega (arith, h.1), h.2)
wider (bracketed k ts s e) p q h = (omega (arith, h.0), omega (arith, h.1), h.2, h.3)

signed_inside : (u : Sign) (c s e : ℕ) (p : Tree) → IsInside s e p → IsInside s e (signed u c p s e)
signed_inside u zero s e p h = h
signed_inside u (suc c) s e p h = (omega arith, omega arith, signed_inside u c s e p h)

negated_inside : (b : Bool) (s e : ℕ) (p : Tree) → IsInside s e p → IsInside s e (negated_if b p s e)
negated_inside true s e p h = (omega arith, omega arith, h)
negated_inside false s e p h = h

module _ {all : List Token} (ordered : IsInOrder all) where
  -- from the start of a token to the end of one that does not come before it
  pub starts_before : (i k : ℕ) → i ≤ k → k < length all → start_at all i ≤ start_at all k
  starts_before i k h lt =
      elim (eq-or-lt_of_le h) [
        | inl e ↦ rw e (omega arith)
        | inr l ↦ omega
            (arith, ordered.forward i (omega (arith, l, lt)), ordered.apart i k l lt)
      ]

  pub ends_before : (i k : ℕ) → i ≤ k → k < length all → end_at all i ≤ end_at all k
  ends_before i k h lt =
      elim (eq-or-lt_of_le h)
      [ inl e ↦ rw e (omega arith) | inr l ↦ omega (arith, ordered.forward k lt, ordered.apart i k l lt) ]

  pub across : (i k : ℕ) → i ≤ k → k < length all → start_at all i ≤ end_at all k
  across i k h lt = omega (arith, starts_before i k h lt, ordered.forward k lt)

  -- a part stands inside what begins with no later token and ends with no earlier one
  fits : {n i j s e b z x y : ℕ} (p : Tree) → Derives all n i j s e p → x ≡ start_at all b → y ≡ end_at all z →
      b ≤ i → j ≤ z + 1 → z < length all → IsInside s e p → IsInside x y p
  fits {i = i} {s = s} {e = e} {b = b} {z = z} {x = x} {y = y} p d x_is y_is le ge lt h =
      let g = ends_of d in
      let low : x ≤ s =
      omega (arith, x_is, g.starts, starts_before b i le (omega (arith, g.before, g.order, ge, lt))) in
      let high : e ≤ y = omega (arith, y_is, g.ends, ends_before g.last z (omega (arith, g.before, ge)) lt) in
      wider p low high h

  mutual
    nested : {n i j s e : ℕ} {p : Tree} → Derives all n i j s e p → j ≤ length all → IsInside s e p
    nested (by_leaf {i} k) le = (omega arith, ordered.forward i (omega (arith, le)), omega arith)
    nested (by_number {i} k) le = (omega arith, ordered.forward i (omega (arith, le)), omega arith)
    nested (by_entity {i = i} {k = k} h l m) le =
        let g = path_ends h in (
          omega arith,
          rw g.starts (across i (k + 1) (omega (arith, g.before, g.order)) (omega (arith, le))),
          omega arith,
        )
    nested (by_parens {i = i} {j = j} {p = p} k d l) le =
        fits p d refl refl (omega arith) (omega arith) (omega (arith, le)) (nested d (omega (arith, le)))
    nested (by_brackets {b = b} {j = j} o l c) le =
        let g = opens_start o in
        let lt : j < length all = omega (arith, le) in
        let within : b ≤ j = omega (arith, g.0, lists_grow l) in (
          omega arith,
          omega arith,
          rw g.1 (across b j within lt),
          rw g.1
              (list_nested {b = b} {z = j} l (omega (arith, g.0)) (omega arith) lt
              (open_nested {z = j} o (omega (arith, lists_grow l)) lt)),
        )
    nested (by_attribute {i = i} {j = j} {p = p} d lv k l) le =
        let g = ends_of d in (
          omega arith,
          omega arith,
          fits p d g.starts refl (omega arith) (omega arith) (omega (arith, le)) (nested d (omega (arith, le))),
        )
    nested (by_index {i = i} {j = j} {p = p} d lv k l m) le =
        let g = ends_of d in (
          omega arith,
          omega arith,
          fits p d g.starts refl (omega arith) (omega arith) (omega (arith, le)) (nested d (omega (arith, le))),
        )
    nested (by_signs {c = c} {i = i} {e = e} {u = u} {p = p} h few d low high) le =
        let g = ends_of d in
        signed_inside u (suc c) (start_at all i) e p
        (fits p d refl g.ends (signs_grow h) (omega (arith, g.before)) (omega (arith, g.before, le)) (nested d le))
    nested (by_negative {c = c} {i = i} {j = j} h few k) le =
        signed_inside Neg c (start_at all i) (end_at all j) _
        (omega arith, across i j (signs_grow h) (omega (arith, le)), omega arith)
    nested (by_infix {i = i} {s = s} {g = g} {o = o} {p = p} {q = q} d lv k f lt) le =
        let x = ends_of d in
        let y = ends_of f in
        negated_inside (is_negated o) s g (binary (binary_of o) p q s g) (
          omega arith,
          omega arith,
          fits p d x.starts y.ends (omega arith) (omega (arith, y.before, y.order))
              (omega (arith, y.before, le)) (nested d (omega (arith, grows f, le))),
          fits q f x.starts y.ends
              (omega (arith, x.before, x.order)) (omega (arith, y.before)) (omega (arith, y.before, le)) (nested f le),
        )
    nested (by_has {p = p} d lv k l) le =
        let x = ends_of d in
        let y = dotted_ends l in (
          omega arith,
          omega arith,
          fits p d x.starts y.ends (omega arith) (omega (arith, y.before, y.order))
              (omega (arith, y.before, le)) (nested d (omega (arith, y.before, y.order, le))),
        )
    nested (by_has_text {p = p} d lv k l) le =
        let x = ends_of d in (
          omega arith,
          omega arith,
          fits p d x.starts refl (omega arith) (omega arith) (omega (arith, le)) (nested d (omega (arith, le))),
        )
    nested (by_like {p = p} d lv k l) le =
        let x = ends_of d in (
          omega arith,
          omega arith,
          fits p d x.starts refl (omega arith) (omega arith) (omega (arith, le)) (nested d (omega (arith, le))),
        )
    nested (by_is {p = p} d lv k l) le =
        let x = ends_of d in
        let y = path_ends l in (
          omega arith,
          omega arith,
          fits p d x.starts y.ends (omega arith) (omega (arith, y.before, y.order))
              (omega (arith, y.before, le)) (nested d (omega (arith, y.before, y.order, le))),
        )
    nested (by_is_in {p = p} {q = q} d lv k l m f lt) le =
        let x = ends_of d in
        let y = path_ends l in
        let z = ends_of f in (
          omega arith,
          omega arith,
          fits p d x.starts z.ends (omega arith)
              (omega (arith, y.before, y.order, z.before, z.order)) (omega (arith, z.before, le))
              (nested d (omega (arith, y.before, y.order, grows f, le))),
          fits q f x.starts z.ends
              (omega (arith, x.before, x.order, y.before, y.order)) (omega (arith, z.before)) (omega (arith, z.before, le))
              (nested f le),
        )
    nested (by_if {p = p} {q = q} {r = r} k d l f m g) le =
        let z = ends_of g in (
          omega arith,
          omega arith,
          fits p d refl z.ends (omega arith) (omega (arith, grows f, z.before, z.order))
              (omega (arith, z.before, le)) (nested d (omega (arith, grows f, grows g, le))),
          fits q f refl z.ends
              (omega (arith, grows d)) (omega (arith, z.before, z.order)) (omega (arith, z.before, le))
              (nested f (omega (arith, grows g, le))),
          fits r g refl z.ends (omega (arith, grows d, grows f))
              (omega (arith, z.before)) (omega (arith, z.before, le)) (nested g le),
        )

    open_nested : {k : Bracketed} {b i s z : ℕ} {ps : Trees} → Opens all k b i s ps → i ≤ z → z < length all →
        AreInside (start_at all b) (end_at all z) ps
    open_nested (opens_set k) le lt = tt
    open_nested (opens_record k) le lt = tt
    open_nested (opens_call h k) le lt = tt
    open_nested (opens_method {p = p} d lv k l m) le lt =
        (tt, fits p d refl refl (omega arith) (omega (arith, le)) lt (nested d (omega (arith, le, lt))))

    list_nested : {k : Bracketed} {b i j z : ℕ} {ps qs : Trees} → Lists all k i j ps qs → b ≤ i → j ≤ z →
        z < length all → AreInside (start_at all b) (end_at all z) ps → AreInside (start_at all b) (end_at all z) qs
    list_nested empty low high lt h = h
    list_nested {b = b} {z = z} (filled g f) low high lt h = (
      begin_nested {b = b} {z = z} g low (omega (arith, item_grows f, high)) lt h,
      item_nested {b = b} {z = z} f (omega (arith, begins_grow g, low)) high lt,
    )

    begin_nested : {k : Bracketed} {b i j z : ℕ} {ps qs : Trees} → Begins all k i j ps qs → b ≤ i → j ≤ z →
        z < length all → AreInside (start_at all b) (end_at all z) ps → AreInside (start_at all b) (end_at all z) qs
    begin_nested nothing low high lt h = h
    begin_nested {b = b} {z = z} (comma g f k) low high lt h = (
      begin_nested {b = b} {z = z} g low (omega (arith, item_grows f, high)) lt h,
      item_nested {b = b} {z = z} f (omega (arith, begins_grow g, low)) (omega (arith, high)) lt,
    )

    item_nested : {k : Bracketed} {b i j z : ℕ} {p : Tree} → IsItem all k i j p → b ≤ i → j ≤ z → z < length all →
        IsInside (start_at all b) (end_at all z) p
    item_nested {b = b} {z = z} (item {p = p} t d) low high lt =
        fits {b = b} {z = z} p d refl refl low (omega (arith, high)) lt (nested d (omega (arith, high, lt)))
    item_nested {b = b} {z = z} (keyed {i = i} {p = p} k l d) low high lt =
        let g = ends_of d in (
          starts_before b i low (omega (arith, g.before, g.order, high, lt)),
          rw g.ends (ends_before g.last z (omega (arith, g.before, high)) lt),
          fits p d refl g.ends (omega arith)
              (omega (arith, g.before)) (omega (arith, g.before, high, lt)) (nested d (omega (arith, high, lt))),
        )

  pub expression_nested : {p : Tree} → IsExpression all p → IsNested all p
  expression_nested (whole {p = p} d k last) =
      let last = sym last in
      fits {b = 0} {z = length all - 1} p d refl refl (omega arith) (omega (arith, last)) (omega (arith, last))
      (nested d (omega (arith, last)))

pub finished_read : {all : List Token} {h limit i : ℕ} {ts : List Tree} → IsWhole all h ts i → i ≡ length all →
    h ≤ limit → HasRead all limit ts
finished_read (is_whole d k) last le =
    let e = whole d k last in
    has_read e le (λ ordered. expression_nested ordered e)

pub braces_nested : {all : List Token} {i j : ℕ} {p : Tree} → IsInBraces all i j p → j < length all → IsInOrder all →
    IsInside (start_at all i) (end_at all j) p
braces_nested {i = i} {j = j} (in_braces {p = p} k d l) lt ordered =
    fits ordered {b = i} {z = j} p d refl refl (omega arith) (omega arith) lt (nested ordered d (omega (arith, lt)))

pub clause_read : {all : List Token} {from limit close h i : ℕ} {ts : List Tree} → IsClosed all from h ts i →
    i ≡ close + 1 → close < length all → h ≤ limit → HasReadClause all from limit close h ts
clause_read {all = all} {from = from} {limit = limit} {close = close} (is_closed {j = j} {p = p} b) i_is lt le =
    let same : j ≡ close = omega (arith, i_is) in
    let before : j < length all = omega (arith, same, lt) in
    subst (λ (n : ℕ). HasReadClause all from limit n (height p) (p ∷ [])) same
    (has_read_clause b le before (braces_nested b before))
