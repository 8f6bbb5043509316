use Rattle.std.proofs.Common.{subst}
use Rattle.cedar_model.specs.Agreement.{AgreesWithFunctions}
use Rattle.cedar_decisions.specs.Decisions.{mode_view}
use Rattle.cedar_extensions.specs.Extensions.{extensions_view, calls_of}
use Rattle.cedar_layers.specs.PolicySets.{policies_view}
use Rattle.cedar_text_parser.specs.PolicyReading.{AreAllRead}
use Rattle.cedar_standard_functions.specs.Standard.{standard_answers}
use Rattle.cedar_authorizer.specs.responses.Responses.{response_view}
use Rattle.cedar_cli.specs.Questions.{levels}
use Rattle.cedar_cli.specs.Standard.{standard_extensions, standard_calls, standard_knowledge}
use Rattle.cedar_cli.specs.Explained.{IsExplainedBy, IsExplained}
use Rattle.cedar_cli.specs.Reasons.{IsToldFor, IsAskedUnread, IsUnauthorized, for_question}
use Rattle.cedar_cli.proofs.Alone.{calls_alone, view_alone, known_alone}
use Rattle.cedar_cli.proofs.Composed.{of_ok, of_err}
use Rattle.cedar_cli.proofs.Reasoned.{because}
use Rattle.cedar_cli.proofs.Exact.{exactly, none_unknown}
use Rattle.cedar_cli.proofs.Explaining.{allowed_above}
use Rattle.cedar_cli.proofs.explanations.authorize_and_explain.Goals as goal

pub returns-clause-answered : goal.returns-clause-answered
returns-clause-answered c =
    let x = c.all_available-extensions.result in
    let none = c.all_available-extensions.ensures.extensions in
    let there = c.all_available-extensions.ensures.standard in
    let parsed = c.in_ok-parsed.parsed in
    let text = c.args.policies.text.now in
    let q = c.args.asked.now in
    let w = c.args.way in
    let b = c.args.has_values in
    let agree : AgreesWithFunctions standard_answers standard_calls =
    subst (λ calls. AgreesWithFunctions standard_answers calls) (calls_alone x none there)
    c.all_available-extensions.ensures.agrees in
    let read : AreAllRead standard_knowledge text levels parsed =
    subst (λ k. AreAllRead k text levels parsed) (known_alone x none there) c.in_ok-parsed.ensures.read in
    of_ok (IsExplainedBy (extensions_view x) (calls_of x) text parsed.policies q w b) (IsExplained text q w b)
    (λ p h.
    let viewed = subst (λ v. IsExplainedBy v (calls_of x) text parsed.policies q w b p) (view_alone x none there) h in
    let by : IsExplainedBy standard_extensions standard_calls text parsed.policies q w b p =
    subst (λ calls. IsExplainedBy standard_extensions calls text parsed.policies q w b p) (calls_alone x none there) viewed in
    let response = by.over.response in
    let nothing = none_unknown standard_extensions standard_calls q by.entities by.over.request by.store_is by.over.request_is in
    let exact = exactly c.known_calls_of_policies.ensures.policies c.functions_are_computed.ensures.nothing_asked agree standard_knowledge text parsed read
    c.in_ok-parsed.ensures.low by.entities by.over.request w (response_view response) by.over.response_is nothing in
    record {
      parsed = parsed;
      policies_are = read;
      by = by;
      nothing_unknown = nothing;
      exact = exact;
      allows = λ unlimited. allowed_above (mode_view w.error_handling) parsed.policies by.entities by.over.request response
          w.is_verbose (policies_view parsed.policies) by.over.below p (exact unlimited) by.over.printed;
    })
    c.explain_parsed-printed.result c.explain_parsed-printed.ensures.answered

pub returns-clause-refused : goal.returns-clause-refused
returns-clause-refused c =
    let x = c.all_available-extensions.result in
    let none = c.all_available-extensions.ensures.extensions in
    let there = c.all_available-extensions.ensures.standard in
    let q = c.args.asked.now in
    let text = c.args.policies.text.now in
    of_err (IsToldFor (IsAskedUnread (extensions_view x) (calls_of x) q)) (IsToldFor (IsUnauthorized text q))
    (λ r. because (IsAskedUnread (extensions_view x) (calls_of x) q) (IsUnauthorized text q)
    (λ h. for_question
    (subst (λ calls. IsAskedUnread standard_extensions calls q) (calls_alone x none there)
    (subst (λ v. IsAskedUnread v (calls_of x) q) (view_alone x none there) h))) r)
    c.explain_parsed-printed.result c.explain_parsed-printed.ensures.refused
