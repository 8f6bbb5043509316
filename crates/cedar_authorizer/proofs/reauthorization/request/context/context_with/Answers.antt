use Rattle.std.proofs.Common.{◌≡◌, ap, ◌∙◌, subst, sym, IfSome, option_map, option_copied, Some, Err, Ok}
use Rattle.cedar_model.specs.Settings.{context_value}
use Rattle.cedar_model.specs.Refusals.{context_by}
use Rattle.cedar_requests.specs.Requests.{context_given}
use Rattle.cedar_authorizer.specs.reauthorization.Errors.{refusal_of}
use Rattle.cedar_authorizer.proofs.Contexts.{conflict, wrong_kind, by_record}
use Rattle.cedar_authorizer.proofs.reauthorization.request.context.context_with.Goals as goal

pub returns-in_ok-is_there_already-in-Some-context : goal.returns-in_ok-is_there_already-in-Some-context
returns-in_ok-is_there_already-in-Some-context c =
    subst (λ o. IfSome (option_map Err (refusal_of c.in_ok-is_there_already-in-Some-context.field-0)) (λ a. a
    ≡ context_by c.args.value.now.what (context_given (option_copied o)))) (sym c.in-Some-context.is)
    (conflict _ _ c.in-Some-context.existing.now _ _ c.in-Some.ensures
    (c.in_ok-existing-in-Some-context.ensures.0
    ∙ ap context_value (rw c.in-Some-context.existing-is at c.in_ok-clone-in-Some-context.ensures.cases.0))
    c.in_ok-is_there_already-in-Some-context.ensures)

pub returns-in_ok-context_of-in-None-context : goal.returns-in_ok-context_of-in-None-context
returns-in_ok-context_of-in-None-context c =
    subst (λ o. Ok (context_given (Some c.in_ok-context_of-in-None-context.field-0))
    ≡ context_by c.args.value.now.what (context_given (option_copied o))) (sym c.in-None-context.is)
    (ap Ok c.in_ok-context_of-in-None-context.ensures
    ∙ sym (by_record _ _ (sym c.in-Some.ensures)))

pub returns-in_ok-value_is_wrong-in-None : goal.returns-in_ok-value_is_wrong-in-None
returns-in_ok-value_is_wrong-in-None c =
    wrong_kind _ _ _ c.in-None.ensures c.in_ok-value_is_wrong-in-None.ensures
