use Rattle.std.proofs.Common.{◌++◌, ◌∷◌, [], ap, ◌∙◌, subst}
use Rattle.cedar_model.specs.Failures.{answers, fails, out_of_memory}
use Rattle.cedar_model.specs.Rules.{Runs}
use Rattle.cedar_model.proofs.Injections.{answers_is_not_fails, fails_inj}
use Rattle.cedar_expressions.specs.View.{view, expr_loc}
use Rattle.cedar_values.specs.Residuals.{partial_view}
use Rattle.cedar_errors.specs.Failures.{failure_of}
use Rattle.cedar_restricted.specs.Evaluators.{calls_in, limit_of}
use Rattle.cedar_restricted.specs.Parts.{answered_locs}
use Rattle.cedar_requests.proofs.context.substitution.with_answer.Goals as goal

pub returns-in-Ok-with-clause-answer : goal.returns-in-Ok-with-clause-answer
returns-in-Ok-with-clause-answer g c = λ s is_bare.
    let v = c.args.evaluator.now in
    let p = partial_view c.in-Ok.answer in (
      p,
      subst (λ e. Runs s (calls_in v) (limit_of v) (view e) (answers p)) c.new_unchecked.ensures
          (c.in-Ok.ensures.answer s is_bare (answers_is_not_fails p out_of_memory)).runs,
      c.in-Ok-with.ensures.answers,
    )

pub returns-in-Ok-with-clause-places : goal.returns-in-Ok-with-clause-places
returns-in-Ok-with-clause-places g c =
    c.in-Ok-with.ensures.places
    ∙ ap (λ l. answered_locs c.args.answers ++ l ∷ []) (c.in-Ok.ensures.place ∙ ap expr_loc c.new_unchecked.ensures)

pub returns-in-Err-clause-answer : goal.returns-in-Err-clause-answer
returns-in-Err-clause-answer g c = λ s is_bare ok.
    let v = c.args.evaluator.now in
    let a = fails (failure_of c.in-Err.error) in
    subst (λ e. Runs s (calls_in v) (limit_of v) (view e) a) c.new_unchecked.ensures
    (c.in-Err.ensures.answer s is_bare (λ w. ok (fails_inj w))).runs
