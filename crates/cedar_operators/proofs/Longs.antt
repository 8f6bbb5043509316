-- Longs: what fits 64 bits, and how two compare.
use Rattle.std.proofs.Common.{int_cmp, ◌≡◌, ◌≤◌, ℤ, pos, negsuc, ℕ, leb, Bool, true, false, true≢false, cond, [], Some, None, is_some, refl, sym, ap, ◌∙◌, FitsSigned, w64, leb-true, arith}
use Rattle.std.specs.Ordering.{is_eq, is_lt, is_le}
use Rattle.cedar_model.specs.Terms.{bool_literal, long_literal, text_literal, entity_literal, long_type, BinaryOperator, eq_operator, less_operator, less_eq_operator, add_operator, sub_operator, mul_operator, in_operator, contains_operator, contains_all_operator, contains_any_operator, get_tag_operator, has_tag_operator}
use Rattle.cedar_model.specs.Settings.{Setting}
use Rattle.cedar_model.specs.Values.{Represented, AbstractValue, plain, set_value, record_value, extension_value, plain_represented, abstract_value}
use Rattle.cedar_model.specs.Keys.{value_eq}
use Rattle.cedar_model.specs.Outcomes.{long_of, is_long}
use Rattle.cedar_model.specs.World.{Extensions}
use Rattle.cedar_model.specs.Meaning.{order_of, extension_order, comparison}
use Rattle.cedar_model.specs.Failures.{Failure, fails, answers_value, answers_bool, wrong_type}
use Rattle.cedar_model.specs.Operators.{long_answer, overloaded_type, order_failure, comparison_failure, arithmetic_answer, binary_answer}
use Rattle.cedar_model.specs.lemmas.Longs.{fits_long}
use Rattle.cedar_operators.specs.Operands.{is_arithmetic, arithmetic_of}
use Rattle.cedar_operators.proofs.Expecting.{goes_on}

no_more : (n : ℕ) (b : Bool) → leb n 9223372036854775807 ≡ b → (n ≤ 9223372036854775807 → ⊥) → leb n 9223372036854775807 ≡ false
no_more n true e f = absurd (f (leb-true n 9223372036854775807 e))
no_more n false e f = e

fits_not : (n : ℤ) → (FitsSigned w64 n → ⊥) → is_long n ≡ false
unfolding is_long
fits_not (pos n) f =
    no_more n (leb n 9223372036854775807) refl (λ h. f record { sfits = omega (arith, h) })
fits_not (negsuc n) f =
    no_more n (leb n 9223372036854775807) refl (λ h. f record { sfits = omega (arith, h) })

-- a result that fits is answered, and another is an overflow
pub long_kept : (n m : ℤ) (overflow : Failure) → FitsSigned w64 n → m ≡ n → long_answer n overflow ≡ answers_value (plain_represented (long_literal m))
long_kept n m overflow f is =
    ap (λ b. cond b (answers_value (plain_represented (long_literal n))) (fails overflow)) (fits_long n f) ∙ ap (λ k. answers_value (plain_represented (long_literal k))) (sym is)

pub long_over : (n : ℤ) (overflow : Failure) → (FitsSigned w64 n → ⊥) → long_answer n overflow ≡ fails overflow
long_over n overflow f =
    ap (λ b. cond b (answers_value (plain_represented (long_literal n))) (fails overflow)) (fits_not n f)

-- ---- comparisons of longs and others

-- nothing that is beside a long is ordered as extension values are
no_order_beside : (X : Extensions) (v w : AbstractValue) (n : ℤ) → long_of w ≡ Some n → extension_order X v w ≡ None
unfolding extension_order long_of
no_order_beside X (plain l) w n h = refl
no_order_beside X (set_value vs) w n h = refl
no_order_beside X (record_value fs) w n h = refl
no_order_beside X (extension_value t k) (plain l) n h = refl
no_order_beside X (extension_value t k) (set_value vs) n h = refl
no_order_beside X (extension_value t k) (record_value fs) n h = refl
no_order_beside X (extension_value t k) (extension_value s j) n h = absurd (true≢false (sym (ap is_some h)))

no_order_after : (X : Extensions) (v w : AbstractValue) (m : ℤ) → long_of v ≡ Some m → extension_order X v w ≡ None
unfolding extension_order long_of
no_order_after X (plain l) w m h = refl
no_order_after X (set_value vs) w m h = refl
no_order_after X (record_value fs) w m h = refl
no_order_after X (extension_value t k) w m h = absurd (true≢false (sym (ap is_some h)))

-- beside a right side that is a long, the left is expected to be one
pub left_unordered : (X : Extensions) (v w : AbstractValue) (n : ℤ) → long_of v ≡ None → long_of w ≡ Some n → comparison X v w ≡ None
unfolding order_of
left_unordered X v w n e f = (λ i. order_of (e i) (f i) (extension_order X v w)) ∙ no_order_beside X v w n f

pub left_expected : (X : Extensions) (v w : AbstractValue) (n : ℤ) → long_of v ≡ None → long_of w ≡ Some n → comparison_failure X v w ≡ wrong_type long_type [] v
unfolding order_failure
left_expected X v w n e f = λ i. order_failure X (e i) (f i) (overloaded_type X v) (overloaded_type X w) v w

-- beside a left side that is a long, the right is
pub right_unordered : (X : Extensions) (v w : AbstractValue) (m : ℤ) → long_of v ≡ Some m → long_of w ≡ None → comparison X v w ≡ None
unfolding order_of
right_unordered X v w m e f = (λ i. order_of (e i) (f i) (extension_order X v w)) ∙ no_order_after X v w m e

pub right_expected : (X : Extensions) (v w : AbstractValue) (m : ℤ) → long_of v ≡ Some m → long_of w ≡ None → comparison_failure X v w ≡ wrong_type long_type [] w
unfolding order_failure
right_expected X v w m e f = λ i. order_failure X (e i) (f i) (overloaded_type X v) (overloaded_type X w) v w

pub ruleset beside_longs = (left_unordered, left_expected, right_unordered, right_expected)

-- two longs compare as longs
pub longs_ordered : (X : Extensions) (v w : AbstractValue) (m n : ℤ) → long_of v ≡ Some m → long_of w ≡ Some n → comparison X v w ≡ Some (int_cmp m n)
unfolding order_of
longs_ordered X v w m n e f = (λ i. order_of (e i) (f i) (extension_order X v w))

-- ---- arithmetic

pub arithmetic_is_operation : (s : Setting) (op : BinaryOperator) (v w : Represented) → is_arithmetic op ≡ true → binary_answer s op v w ≡ arithmetic_answer op (arithmetic_of op) v w
unfolding binary_answer
arithmetic_is_operation s add_operator v w h = refl
arithmetic_is_operation s sub_operator v w h = refl
arithmetic_is_operation s mul_operator v w h = refl
arithmetic_is_operation s eq_operator v w h = absurd (cc)
arithmetic_is_operation s less_operator v w h = absurd (cc)
arithmetic_is_operation s less_eq_operator v w h = absurd (cc)
arithmetic_is_operation s in_operator v w h = absurd (cc)
arithmetic_is_operation s contains_operator v w h = absurd (cc)
arithmetic_is_operation s contains_all_operator v w h = absurd (cc)
arithmetic_is_operation s contains_any_operator v w h = absurd (cc)
arithmetic_is_operation s get_tag_operator v w h = absurd (cc)
arithmetic_is_operation s has_tag_operator v w h = absurd (cc)

-- ---- what two longs answer

long_is : (v : AbstractValue) (n : ℤ) → long_of v ≡ Some n → v ≡ plain (long_literal n)
unfolding long_of
long_is (plain (bool_literal b)) n h = absurd (cc)
long_is (plain (long_literal m)) n h = cc
long_is (plain (text_literal t)) n h = absurd (cc)
long_is (plain (entity_literal e)) n h = absurd (cc)
long_is (set_value vs) n h = absurd (cc)
long_is (record_value fs) n h = absurd (cc)
long_is (extension_value t k) n h = absurd (cc)

module _ (s : Setting) (v w : Represented) (m n : ℤ) (left : long_of (abstract_value v) ≡ Some m)
    (right : long_of (abstract_value w) ≡ Some n) where
  pub equal_longs : answers_bool (is_eq (int_cmp m n)) ≡ binary_answer s eq_operator v w
  unfolding binary_answer
  equal_longs =
      λ i. answers_bool (value_eq (sym (long_is (abstract_value v) m left) i) (sym (long_is (abstract_value w) n right) i))

  pub less_longs : answers_bool (is_lt (int_cmp m n)) ≡ binary_answer s less_operator v w
  unfolding binary_answer
  less_longs = goes_on _ _ _ _ _ (longs_ordered s.extensions (abstract_value v) (abstract_value w) m n left right) refl

  pub less_eq_longs : answers_bool (is_le (int_cmp m n)) ≡ binary_answer s less_eq_operator v w
  unfolding binary_answer
  less_eq_longs = goes_on _ _ _ _ _ (longs_ordered s.extensions (abstract_value v) (abstract_value w) m n left right) refl
