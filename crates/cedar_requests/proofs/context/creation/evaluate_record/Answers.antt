use Rattle.std.proofs.Common.{◌≢◌, refl, ap, sym, subst}
use Rattle.cedar_model.specs.Failures.{PartialValue, answers, fails, out_of_memory}
use Rattle.cedar_model.specs.Rules.{Meets}
use Rattle.cedar_model.proofs.Injections.{answers_is_not_fails}
use Rattle.cedar_values.specs.Residuals.{partial_view}
use Rattle.cedar_errors.specs.Failures.{failure_of}
use Rattle.cedar_extensions.specs.Extensions.{extensions_view, calls_of}
use Rattle.cedar_restricted.specs.Evaluations.{bare_setting, IsBare, IsAnswerWithin}
use Rattle.cedar_restricted.specs.Views.{borrowed_term}
use Rattle.cedar_requests.specs.Contexts.{context_part_value}
use Rattle.cedar_requests.proofs.Creations.{bare-is_bare, same_answer}
use Rattle.cedar_requests.proofs.Records.{record_part}
use Rattle.cedar_requests.proofs.context.creation.evaluate_record.Goals as goal

pub of_part-requires-clause-record : goal.of_part-requires-clause-record
of_part-requires-clause-record g c =
    let stored = c.new-evaluator.result.extensions.now in
    let x = extensions_view stored in
    record_part (bare_setting x) (calls_of stored) c.new-evaluator.result.limit (borrowed_term c.args.expr)
    (partial_view c.in-Ok.part) c.requires (c.in-Ok.ensures.answer (bare_setting x) (bare-is_bare x) (answers_is_not_fails _ out_of_memory)).runs

pub returns-in-Ok-of_part-clause-answer : goal.returns-in-Ok-of_part-clause-answer
returns-in-Ok-of_part-clause-answer g c = λ s is_bare want.
    let made = c.new-evaluator in
    let same = made.ensures.extensions in
    let bare_of : IsBare (extensions_view made.result.extensions.now) s =
    subst (λ e. IsBare (extensions_view e) s) (sym same) is_bare in
    let a = answers (context_part_value c.in-Ok-of_part.context) in
    subst (λ e. IsAnswerWithin s (calls_of e) c.args.limit (borrowed_term c.args.expr) a) same
    (same_answer s (calls_of made.result.extensions.now) _ _ _ _ _ _ made.ensures.limit refl
    (ap answers (sym c.in-Ok-of_part.ensures)) (c.in-Ok.ensures.answer s bare_of (answers_is_not_fails _ out_of_memory)))

pub returns-in-Err-clause-answer : goal.returns-in-Err-clause-answer
returns-in-Err-clause-answer g c = λ s is_bare.
    let made = c.new-evaluator in
    let same = made.ensures.extensions in
    let t = borrowed_term c.args.expr in
    let a = fails (failure_of c.in-Err.error) in
    let bare_of : IsBare (extensions_view made.result.extensions.now) s =
    subst (λ e. IsBare (extensions_view e) s) (sym same) is_bare in
    subst (λ n. Meets (IsAnswerWithin s (calls_of c.args.extensions.now) n t) a) made.ensures.limit
    (subst (λ e. Meets (IsAnswerWithin s (calls_of e) made.result.limit t) a) same (c.in-Err.ensures.answer s bare_of))
