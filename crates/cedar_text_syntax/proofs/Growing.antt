-- What is derived takes tokens, and a list has no more parts than tokens before its end.
use Rattle.std.proofs.Common.{ℕ, ◌+◌, ◌<◌, ◌≤◌, List, arith}
use Rattle.cedar_text_lexer.specs.declared.tokens.Token.{Token}
use Rattle.cedar_text_syntax.specs.declared.steps.Sign.{Sign}
use Rattle.cedar_text_syntax.specs.declared.steps.Bracketed.{Bracketed}
use Rattle.cedar_text_syntax.specs.Trees.{Tree, Trees, count}
use Rattle.cedar_text_syntax.specs.Grammar.{IsPath, one_name, name_inside, IsDotted, one_attribute, attribute_inside}
use Rattle.cedar_text_syntax.specs.Grammar.{AreSigns, no_sign, one_more, Derives, by_leaf, by_number, by_entity, by_parens}
use Rattle.cedar_text_syntax.specs.Grammar.{by_brackets, by_attribute, by_index, by_signs, by_negative, by_infix, by_has}
use Rattle.cedar_text_syntax.specs.Grammar.{by_has_text, by_like, by_is, by_is_in, by_if, Opens, opens_set, opens_record}
use Rattle.cedar_text_syntax.specs.Grammar.{opens_call, opens_method, Begins, nothing, comma, Lists, empty, filled, IsItem}
use Rattle.cedar_text_syntax.specs.Grammar.{item, keyed}

pub path_grows : {all : List Token} {i k s e : ℕ} → IsPath all i k s e → i < k
path_grows (one_name h) = omega arith
path_grows (name_inside h c l) = omega (arith, path_grows h)

pub dotted_grows : {all : List Token} {i k e : ℕ} → IsDotted all i k e → i < k
dotted_grows (one_attribute h) = omega arith
dotted_grows (attribute_inside h c l) = omega (arith, dotted_grows h)

pub signs_grow : {all : List Token} {u : Sign} {c i j : ℕ} → AreSigns all u c i j → i ≤ j
signs_grow no_sign = omega arith
signs_grow (one_more h k) = omega (arith, signs_grow h)

mutual
  pub grows : {all : List Token} {n i j s e : ℕ} {p : Tree} → Derives all n i j s e p → i < j
  grows (by_leaf k) = omega arith
  grows (by_number k) = omega arith
  grows (by_entity h k l) = omega (arith, path_grows h)
  grows (by_parens k d l) = omega (arith, grows d)
  grows (by_brackets o l c) = omega (arith, opens_grow o, lists_grow l)
  grows (by_attribute d le k l) = omega (arith, grows d)
  grows (by_index d le k l m) = omega (arith, grows d)
  grows (by_signs h le d low high) = omega (arith, signs_grow h, grows d)
  grows (by_negative h le k) = omega (arith, signs_grow h)
  grows (by_infix d le k f lt) = omega (arith, grows d, grows f)
  grows (by_has d le k h) = omega (arith, grows d, dotted_grows h)
  grows (by_has_text d le k l) = omega (arith, grows d)
  grows (by_like d le k l) = omega (arith, grows d)
  grows (by_is d le k h) = omega (arith, grows d, path_grows h)
  grows (by_is_in d le k h l f lt) = omega (arith, grows d, path_grows h, grows f)
  grows (by_if k d l f m g) = omega (arith, grows d, grows f, grows g)

  pub opens_grow : {all : List Token} {k : Bracketed} {b i s : ℕ} {ps : Trees} → Opens all k b i s ps → b < i
  opens_grow (opens_set k) = omega arith
  opens_grow (opens_record k) = omega arith
  opens_grow (opens_call h k) = omega (arith, path_grows h)
  opens_grow (opens_method d le k l m) = omega (arith, grows d)

  pub begins_grow : {all : List Token} {k : Bracketed} {i j : ℕ} {ps qs : Trees} → Begins all k i j ps qs → i ≤ j
  begins_grow nothing = omega arith
  begins_grow (comma b h k) = omega (arith, begins_grow b, item_grows h)

  pub lists_grow : {all : List Token} {k : Bracketed} {i j : ℕ} {ps qs : Trees} → Lists all k i j ps qs → i ≤ j
  lists_grow empty = omega arith
  lists_grow (filled b h) = omega (arith, begins_grow b, item_grows h)

  pub item_grows : {all : List Token} {k : Bracketed} {i j : ℕ} {p : Tree} → IsItem all k i j p → i < j
  item_grows (item t d) = grows d
  item_grows (keyed k l d) = omega (arith, grows d)

pub opens_count : {all : List Token} {k : Bracketed} {b i s : ℕ} {ps : Trees} → Opens all k b i s ps → count ps < i
opens_count (opens_set k) = omega arith
opens_count (opens_record k) = omega arith
opens_count (opens_call h k) = omega arith
opens_count (opens_method d le k l m) = omega arith

pub begins_count : {all : List Token} {k : Bracketed} {i j : ℕ} {ps qs : Trees} → Begins all k i j ps qs →
    count qs + i ≤ count ps + j
begins_count nothing = omega arith
begins_count (comma b h k) = omega (arith, begins_count b, item_grows h)
