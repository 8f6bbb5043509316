use Rattle.std.proofs.Common.{◌≡◌, ◌∙◌, suc, sym, ap, subst}
use Rattle.cedar_model.specs.Rules.{Runs, Meets}
use Rattle.cedar_extensions.specs.Extensions.{extensions_view, calls_of}
use Rattle.cedar_restricted.specs.Evaluations.{IsBare}
use Rattle.cedar_requests.specs.Substitutions.{values_for, record_with, context_answer}
use Rattle.cedar_requests.proofs.ByParts.{one_above}
use Rattle.cedar_requests.proofs.context.substitution.evaluated_again.Goals as goal

pub returns-else-limit-eq0-clause-answer : goal.returns-else-limit-eq0-clause-answer
returns-else-limit-eq0-clause-answer g c = λ s is_bare.
    let made = c.new-evaluator in
    let same = made.ensures.extensions in
    let t = record_with (values_for c.args.map.now.entries) c.args.residual in
    let a = context_answer c.part_by_part.result in
    let levels : suc made.result.limit ≡ c.args.limit =
    ap suc made.ensures.limit ∙ one_above c.args.limit c.if-limit-eq0.false in
    subst (λ n. Meets (Runs s (calls_of c.args.extensions.now) n t) a) levels
    (subst (λ e. Meets (Runs s (calls_of e) (suc made.result.limit) t) a) same
    (c.part_by_part.ensures.answer s (subst (λ e. IsBare (extensions_view e) s) (sym same) is_bare)))
