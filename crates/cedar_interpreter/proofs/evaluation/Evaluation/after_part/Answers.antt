use Rattle.std.proofs.Common.{subst, Ok}
use Rattle.cedar_expressions.specs.View.{expr_loc}
use Rattle.cedar_extensions.specs.Extensions.{extensions_view, calls_of}
use Rattle.cedar_restricted.specs.Frames as restricted
use Rattle.cedar_restricted.specs.Elements.{SetGoesOn}
use Rattle.cedar_interpreter.proofs.ElementLaws.{taken_stands}
use Rattle.cedar_interpreter.proofs.ContinuationLaws.{parts_lead_in}
use Rattle.cedar_interpreter.proofs.evaluation.Evaluation.after_part.Goals as goal

pub returns-clause-leads : goal.returns-clause-leads
returns-clause-leads g c levels =
    let stored = c.args.self.now.given.now.extensions.now in
    let x = c.resume_parts.result in
    parts_lead_in c.args.self.now levels c.args.whole c.args.frame c.args.value.value x c.next_of_parts.result
    (subst (λ f. restricted.ContinuesParts (extensions_view stored) (calls_of stored) f (Ok c.args.value.value) x) c.into_inner-parts.ensures
    (subst (λ p. restricted.ContinuesParts (extensions_view stored) (calls_of stored) c.into_inner-parts.result (Ok p) x) c.into_inner-part.ensures c.resume_parts.ensures.goes_on))
    c.next_of_parts.ensures.taken

pub returns-clause-elements : goal.returns-clause-elements
returns-clause-elements g c es d waits stands =
    let x = c.resume_parts.result in
    let goes : SetGoesOn c.args.frame.value (Ok c.args.value.value) x =
    subst (λ f. SetGoesOn f (Ok c.args.value.value) x) c.into_inner-parts.ensures
    (subst (λ p. SetGoesOn c.into_inner-parts.result (Ok p) x) c.into_inner-part.ensures c.resume_parts.ensures.elements) in
    taken_stands es (expr_loc c.args.whole.value) x c.next_of_parts.result (goes es d waits stands) c.next_of_parts.ensures.taken c.next_of_parts.ensures.same
