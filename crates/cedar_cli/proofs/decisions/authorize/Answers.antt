use Rattle.std.proofs.Common.{subst}
use Rattle.cedar_model.specs.Agreement.{AgreesWithFunctions}
use Rattle.cedar_decisions.specs.Decisions.{mode_view}
use Rattle.cedar_extensions.specs.Extensions.{extensions_view, calls_of}
use Rattle.cedar_text_parser.specs.PolicyReading.{AreAllRead}
use Rattle.cedar_standard_functions.specs.Standard.{standard_answers}
use Rattle.cedar_authorizer.specs.responses.Responses.{response_view}
use Rattle.cedar_cli.specs.Questions.{levels}
use Rattle.cedar_cli.specs.Standard.{standard_extensions, standard_calls, standard_knowledge}
use Rattle.cedar_cli.specs.Authorized.{IsAnsweredBy, IsAuthorized}
use Rattle.cedar_cli.proofs.Alone.{calls_alone, view_alone, known_alone}
use Rattle.cedar_cli.specs.Reasons.{IsToldFor, IsAskedUnread, IsUnauthorized, for_question}
use Rattle.cedar_cli.proofs.Composed.{of_ok, of_err}
use Rattle.cedar_cli.proofs.Reasoned.{because}
use Rattle.cedar_cli.proofs.Exact.{exactly, none_unknown}
use Rattle.cedar_cli.proofs.Words.{allowed_exactly}
use Rattle.cedar_cli.proofs.decisions.authorize.Goals as goal

pub returns-clause-answered : goal.returns-clause-answered
returns-clause-answered c =
    let x = c.all_available-extensions.result in
    let none = c.all_available-extensions.ensures.extensions in
    let there = c.all_available-extensions.ensures.standard in
    let parsed = c.in_ok-parsed.parsed in
    let text = c.args.policies.text.now in
    let q = c.args.asked.now in
    let w = c.args.way in
    let agree : AgreesWithFunctions standard_answers standard_calls =
    subst (λ calls. AgreesWithFunctions standard_answers calls) (calls_alone x none there)
    c.all_available-extensions.ensures.agrees in
    let read : AreAllRead standard_knowledge text levels parsed =
    subst (λ k. AreAllRead k text levels parsed) (known_alone x none there) c.in_ok-parsed.ensures.read in
    of_ok (IsAnsweredBy (extensions_view x) (calls_of x) text parsed.policies q w) (IsAuthorized text q w)
    (λ p h.
    let viewed = subst (λ v. IsAnsweredBy v (calls_of x) text parsed.policies q w p) (view_alone x none there) h in
    let by = subst (λ calls. IsAnsweredBy standard_extensions calls text parsed.policies q w p) (calls_alone x none there)
    viewed in
    let response = by.answered.response in
    let nothing = none_unknown standard_extensions standard_calls q by.entities by.answered.request by.store_is by.answered.request_is in
    let exact = exactly c.known_calls_of_policies.ensures.policies c.functions_are_computed.ensures.nothing_asked agree standard_knowledge text parsed read
    c.in_ok-parsed.ensures.low by.entities by.answered.request w (response_view response) by.answered.response_is nothing in
    record {
      parsed = parsed;
      entities = by.entities;
      request = by.answered.request;
      response = response;
      policies_are = read;
      store_is = by.store_is;
      request_is = by.answered.request_is;
      nothing_unknown = nothing;
      response_is = by.answered.response_is;
      exact = exact;
      printed = by.answered.printed;
      allows = λ unlimited. allowed_exactly (mode_view w.error_handling) text parsed.policies by.entities by.answered.request
          response w p (exact unlimited) by.answered.printed;
    })
    c.authorize_parsed-printed.result c.authorize_parsed-printed.ensures.answered

pub returns-clause-refused : goal.returns-clause-refused
returns-clause-refused c =
    let x = c.all_available-extensions.result in
    let none = c.all_available-extensions.ensures.extensions in
    let there = c.all_available-extensions.ensures.standard in
    let q = c.args.asked.now in
    let text = c.args.policies.text.now in
    of_err (IsToldFor (IsAskedUnread (extensions_view x) (calls_of x) q)) (IsToldFor (IsUnauthorized text q))
    (λ r. because (IsAskedUnread (extensions_view x) (calls_of x) q) (IsUnauthorized text q)
    (λ h. for_question
    (subst (λ calls. IsAskedUnread standard_extensions calls q) (calls_alone x none there)
    (subst (λ v. IsAskedUnread v (calls_of x) q) (view_alone x none there) h))) r)
    c.authorize_parsed-printed.result c.authorize_parsed-printed.ensures.refused
