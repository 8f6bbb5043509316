use Rattle.std.proofs.Common.{◌≡◌, ap, subst, codes, ◌∙◌, IfSome, option_map, Err, Result}
use Rattle.cedar_model.specs.Settings.{Entry}
use Rattle.cedar_model.specs.Refusals.{Refusal, concrete_entry}
use Rattle.cedar_requests.specs.Requests.{entry_view, request_view}
use Rattle.cedar_requests.specs.Substitutions.{values_for}
use Rattle.cedar_authorizer.specs.reauthorization.Errors.{refusal_of, answer_by}
use Rattle.cedar_authorizer.specs.reauthorization.Concretizations.{after_action}
use Rattle.cedar_authorizer.proofs.Concretizing.{made_then, refused_then}
use Rattle.cedar_authorizer.proofs.reauthorization.request.with_principal.Goals as goal

pub returns-in-Ok-clause-view : goal.returns-in-Ok-clause-view
returns-in-Ok-clause-view c =
    let m = values_for c.args.map.now.entries in
    made_then (after_action m (request_view c.args.request.now) (entry_view c.args.principal)) (entry_view c.in-Ok.action) _ (answer_by request_view c.with_action.result)
    (c.in-Ok.ensures.view ∙ ap (concrete_entry (codes "action") (m (codes "action"))) c.action.ensures.view)
    c.with_action.ensures.view

pub returns-in-Err-clause-view : goal.returns-in-Err-clause-view
returns-in-Err-clause-view c =
    let m = values_for c.args.map.now.entries in
    refused_then (after_action m (request_view c.args.request.now) (entry_view c.args.principal)) _ (refusal_of c.in-Err.error)
    (subst (λ (e : Entry). IfSome (option_map {U = Result Entry Refusal} Err (refusal_of c.in-Err.error))
    (λ a. a ≡ concrete_entry (codes "action") (m (codes "action")) e)) c.action.ensures.view c.in-Err.ensures.view)
