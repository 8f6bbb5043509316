-- What `!`, `&&`, `||` and `if` make of a boolean.
use Rattle.std.specs.Prelude.{◌≡◌, Bool, true, false, not, Some, None, []}
use Rattle.std.proofs.Common.{refl, sym, subst}
use Rattle.cedar_model.specs.Terms.{Term, unary, not_operator, bool_type}
use Rattle.cedar_model.specs.Values.{Represented, abstract_value}
use Rattle.cedar_model.specs.Outcomes.{bool_of}
use Rattle.cedar_model.specs.Operators.{unary_answer, expecting}
use Rattle.cedar_model.specs.Failures.{PartialValue, value, residual, Answer, answers, answers_bool, answers_residual, wrong_type}
use Rattle.cedar_model.specs.Rules.{MayAnswer, AfterGuard, TakesBranch, AndLeft, OrLeft, AfterBest, best, joined, bool_expected, bool_or_failure, on_part, Then}
use Rattle.cedar_values.specs.Residuals.{partial_term}
use Rattle.cedar_operators.specs.declared.partial.connectives.Connective.{Connective}
use Rattle.cedar_operators.specs.declared.partial.connectives.Connective.TheVariants as connectives
use Rattle.cedar_operators.specs.Connectives.{deciding, neutral, joined_terms, beside_neutral}
use Rattle.cedar_interpreter.specs.Booleans.{part_bool, is_bool}
use Rattle.cedar_interpreter.specs.Kept.{is_residual}
use Rattle.cedar_interpreter.specs.Tasks.{AfterLeftSide}

pub part_is_bool : (p : PartialValue) (b : Bool) → part_bool p ≡ Some b → answers p ≡ answers_bool b
part_is_bool (value v) b h = is_bool v b h
part_is_bool (residual r) b h = absurd (cc)

-- the right side of `true && ..` or `false || ..`, where it is a boolean
pub joins : (with_left : Term → Term) (p : PartialValue) (b : Bool) → part_bool p ≡ Some b → answers p ≡ joined with_left (answers p)
unfolding joined bool_or_failure
joins with_left (value v) b h = subst (λ o. answers (value v) ≡ bool_or_failure o v) (sym h) (is_bool v b h)
joins with_left (residual r) b h = absurd (cc)

-- the negation of a boolean
pub negates : (p : PartialValue) (b : Bool) → part_bool p ≡ Some b → answers_bool (not b) ≡ on_part (unary_answer not_operator) (unary not_operator) (answers p)
unfolding on_part unary_answer expecting
negates (value v) b h = subst (λ o. answers_bool (not b) ≡ expecting o (wrong_type bool_type [] (abstract_value v)) (λ x. answers_bool (not x))) (sym h) refl
negates (residual r) b h = absurd (cc)

module _ (May : MayAnswer) where
  -- a guard that is a boolean takes its branch
  pub guard_true : (p : PartialValue) (t e : Term) (a : Answer) → part_bool p ≡ Some true → May t a → Then (answers p) (AfterGuard May t e) a
  guard_true (value v) t e a h runs = subst (λ o. TakesBranch May o v t e a) (sym h) runs
  guard_true (residual r) t e a h runs = absurd (cc)

  pub guard_false : (p : PartialValue) (t e : Term) (a : Answer) → part_bool p ≡ Some false → May e a → Then (answers p) (AfterGuard May t e) a
  guard_false (value v) t e a h runs = subst (λ o. TakesBranch May o v t e a) (sym h) runs
  guard_false (residual r) t e a h runs = absurd (cc)

  -- a left side that does not decide leaves the right one
  pub leaves_right : (c : Connective) (p : PartialValue) (t : Term) (x a : Answer) → part_bool p ≡ Some (neutral c) → May t x → a ≡ joined (beside_neutral c) x → AfterLeftSide May c (answers p) t a
  leaves_right connectives.And (value v) t x a h runs is = subst (λ o. AndLeft May o v t a) (sym h) (x, runs, is)
  leaves_right connectives.Or (value v) t x a h runs is = subst (λ o. OrLeft May o v t a) (sym h) (x, runs, is)
  leaves_right c (residual r) t x a h runs is = absurd (cc)

  -- one that decides is the answer
  pub decides : (c : Connective) (p : PartialValue) (t : Term) → part_bool p ≡ Some (deciding c) → AfterLeftSide May c (answers p) t (answers p)
  decides connectives.And (value v) t h = subst (λ o. AndLeft May o v t (answers (value v))) (sym h) (is_bool v false h)
  decides connectives.Or (value v) t h = subst (λ o. OrLeft May o v t (answers (value v))) (sym h) (is_bool v true h)
  decides c (residual r) t h = absurd (cc)

  -- beside a residual one the right one is kept
  pub keeps_right : (c : Connective) (p : PartialValue) (t : Term) (x a : Answer) → is_residual p ≡ true → May t x →
      AfterBest (best x t) (λ u b. b ≡ answers_residual (joined_terms c (partial_term p) u)) a → AfterLeftSide May c (answers p) t a
  keeps_right c (value v) t x a h runs after = absurd (cc)
  keeps_right connectives.And (residual r) t x a h runs after = (x, runs, after)
  keeps_right connectives.Or (residual r) t x a h runs after = (x, runs, after)

  -- where it is no boolean, one is expected
  pub expects_bool : (c : Connective) (v : Represented) (t : Term) (a : Answer) → bool_of (abstract_value v) ≡ None → a ≡ bool_expected v → AfterLeftSide May c (answers (value v)) t a
  expects_bool connectives.And v t a h is = subst (λ o. AndLeft May o v t a) (sym h) is
  expects_bool connectives.Or v t a h is = subst (λ o. OrLeft May o v t a) (sym h) is
