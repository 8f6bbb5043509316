use Rattle.std.proofs.Common.{◌≡◌, ◌≤◌, ◌-◌, ℕ, List, sym, ap, ◌∙◌, subst, refl, take, drop, length, length-drop, arith}
use Rattle.std.proofs.lemmas.List.{take_all}
use Rattle.std.proofs.lemmas.Grind.{common_steps}
use Rattle.cedar_expressions.specs.declared.expr.Expr.{Expr}
use Rattle.cedar_restricted.specs.declared.answers.Answers.TheVariants as answereds
use Rattle.cedar_restricted.specs.Literals.{IsGrown, AreBehind, no_more}
use Rattle.cedar_restricted.proofs.literals.answers_with.Goals as goal

from_place : (es : List Expr) (n m : ℕ) → n ≡ m → take (length es - n) (drop n es) ≡ drop m es
from_place es n m is =
    let left = length-drop n es in
    take_all (length es - n) (drop n es) (omega (arith, left)) ∙ ap (λ k. drop k es) is

pub returns-in_ok-values_behind-in-Values-clause-grows : goal.returns-in_ok-values_behind-in-Values-clause-grows
returns-in_ok-values_behind-in-Values-clause-grows c =
    let es = c.args.parts.now in
    let vs = c.in-Values.values in
    let ws = c.in_ok-values_behind-in-Values.field-0 in
    let place : c.len-done.result ≡ length vs.items = grind (arith, common_steps) in
    let grown : IsGrown (drop (length vs.items) es) vs.items ws.items =
    subst (λ l. IsGrown l vs.items ws.items) (from_place es c.len-done.result (length vs.items) place)
    c.in_ok-values_behind-in-Values.ensures in
    record {
      one = c.in_ok-grown.grown;
      counted = c.in_ok-grown.ensures.count;
      answers = c.in_ok-grown.ensures.answers;
      values = c.in_ok-grown.ensures.values;
      follow = subst (λ a. AreBehind es a (answereds.Values ws)) (sym c.in-Values.is) grown;
    }

pub returns-in_ok-values_behind-in-Values-clause-no_more : goal.returns-in_ok-values_behind-in-Values-clause-no_more
returns-in_ok-values_behind-in-Values-clause-no_more c =
    let es = c.args.parts.now in
    let vs = c.in-Values.values in
    let ws = c.in_ok-values_behind-in-Values.field-0 in
    let place : c.len-done.result ≡ length vs.items = grind (arith, common_steps) in
    let grown : IsGrown (drop (length vs.items) es) vs.items ws.items =
    subst (λ l. IsGrown l vs.items ws.items) (from_place es c.len-done.result (length vs.items) place)
    c.in_ok-values_behind-in-Values.ensures in
    let fit : length vs.items ≤ length es = grind (arith, common_steps) in
    no_more es (answereds.Values vs) (answereds.Values ws) grown fit

pub returns-in-Mixed-clause-grows : goal.returns-in-Mixed-clause-grows
returns-in-Mixed-clause-grows c = record {
  one = c.in_ok-grown.grown;
  counted = c.in_ok-grown.ensures.count;
  answers = c.in_ok-grown.ensures.answers;
  values = c.in_ok-grown.ensures.values;
  follow = subst (λ a. AreBehind c.args.parts.now a (answereds.Mixed c.in-Mixed.mixed)) (sym c.in-Mixed.is) refl;
}
