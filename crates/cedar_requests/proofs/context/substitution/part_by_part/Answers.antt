use Rattle.std.proofs.Common.{◌≡◌, ◌∙◌, suc, IfOk, ap, subst}
use Rattle.cedar_model.specs.Terms.{record_of}
use Rattle.cedar_model.specs.Shapes.{is_restricted}
use Rattle.cedar_model.specs.Rules.{Runs, Meets}
use Rattle.cedar_model.specs.Chains.{substituted_at}
use Rattle.cedar_expressions.specs.View.{fields_view}
use Rattle.cedar_restricted.specs.Evaluators.{calls_in, limit_of}
use Rattle.cedar_requests.specs.Contexts.{ExprMap, entry_locs, context_locs}
use Rattle.cedar_requests.specs.Substitutions.{values_for, context_answer}
use Rattle.cedar_requests.proofs.Substituting.{record_restricted}
use Rattle.cedar_requests.proofs.context.substitution.part_by_part.Goals as goal

pub record_of_parts-requires-clause-restricted : goal.record_of_parts-requires-clause-restricted
record_of_parts-requires-clause-restricted g c =
    let es = c.args.map.now.entries in
    let fields = c.in-Ok.ensures.fields
    ∙ ap (λ (m : ExprMap). substituted_at (values_for es) (fields_view m.entries)) c.as_map.ensures.map in
    ap (λ fs. is_restricted (record_of fs)) fields ∙ record_restricted es _ c.args.residual.restricted

pub returns-in-Ok-clause-answer : goal.returns-in-Ok-clause-answer
returns-in-Ok-clause-answer g c = λ s is_bare.
    let v = c.args.evaluator.now in
    let es = c.args.map.now.entries in
    let fields = c.in-Ok.ensures.fields
    ∙ ap (λ (m : ExprMap). substituted_at (values_for es) (fields_view m.entries)) c.as_map.ensures.map in
    subst
    (λ fs. Meets (Runs s (calls_in v) (suc (limit_of v)) (record_of fs)) (context_answer c.record_of_parts.result))
    fields (c.record_of_parts.ensures.answer s is_bare)

pub returns-in-Ok-clause-places : goal.returns-in-Ok-clause-places
returns-in-Ok-clause-places g c =
    let places = c.in-Ok.ensures.places ∙ ap (λ (m : ExprMap). entry_locs m.entries) c.as_map.ensures.map in
    subst (λ ls. IfOk c.record_of_parts.result (λ d. context_locs d ≡ ls)) places c.record_of_parts.ensures.places
