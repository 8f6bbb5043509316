use Rattle.std.proofs.Common.{subst}
use Rattle.std.specs.Str.Lines.{lines}
use Rattle.cedar_model.specs.Agreement.{AgreesWithFunctions}
use Rattle.cedar_extensions.specs.Extensions.{extensions_view, calls_of}
use Rattle.cedar_text_parser.specs.PolicyReading.{AreAllRead}
use Rattle.cedar_standard_functions.specs.Standard.{standard_answers}
use Rattle.cedar_cli.specs.Authorized.{IsAnsweredOver, IsAuthorized}
use Rattle.cedar_cli.specs.Batch.{in_json, asking, AreAnswered, AreAnsweredBy, AreAuthorized, AreUnauthorized, unread_entities}
use Rattle.cedar_cli.specs.Questions.{levels}
use Rattle.cedar_cli.specs.Reasons.{IsToldFor, IsKnownStoreUnread, IsRequestUnread}
use Rattle.cedar_cli.specs.Standard.{standard_extensions, standard_calls, standard_knowledge}
use Rattle.cedar_cli.proofs.Alone.{calls_alone, view_alone, known_alone}
use Rattle.cedar_cli.proofs.Batching.{answered_of, authorized_alone}
use Rattle.cedar_cli.proofs.Composed.{of_ok, of_err}
use Rattle.cedar_cli.proofs.Lined.{one_line_each}
use Rattle.cedar_cli.proofs.Reasoned.{because}
use Rattle.cedar_cli.proofs.batch.authorize_each.Goals as goal

pub returns-clause-answered : goal.returns-clause-answered
returns-clause-answered c =
    let x = c.all_available-extensions.result in
    let none = c.all_available-extensions.ensures.extensions in
    let there = c.all_available-extensions.ensures.standard in
    let parsed = c.in_ok-parsed.parsed in
    let text = c.args.policies.text.now in
    let q = c.args.asked.now in
    let requests = c.args.requests.now in
    let w = in_json c.args.way in
    let agree : AgreesWithFunctions standard_answers standard_calls =
    subst (λ calls. AgreesWithFunctions standard_answers calls) (calls_alone x none there)
    c.all_available-extensions.ensures.agrees in
    let read : AreAllRead standard_knowledge text levels parsed =
    subst (λ k. AreAllRead k text levels parsed) (known_alone x none there) c.in_ok-parsed.ensures.read in
    of_ok (AreAnsweredBy (extensions_view x) (calls_of x) text parsed.policies q requests w)
    (AreAuthorized text q requests c.args.way)
    (λ p h.
    let viewed = subst (λ v. AreAnsweredBy v (calls_of x) text parsed.policies q requests w p) (view_alone x none there) h in
    let by = subst (λ calls. AreAnsweredBy standard_extensions calls text parsed.policies q requests w p)
    (calls_alone x none there) viewed in
    let answered : AreAnswered (λ r. IsAuthorized text r w) (IsRequestUnread standard_extensions standard_calls) q
    (lines requests) p =
    answered_of (λ r. IsAnsweredOver standard_extensions standard_calls text parsed.policies by.entities r w)
    (λ r. IsAuthorized text r w) (IsRequestUnread standard_extensions standard_calls) q
    (λ s alone. authorized_alone c.known_calls_of_policies.ensures.policies c.functions_are_computed.ensures.nothing_asked
    agree text parsed read c.in_ok-parsed.ensures.low by.entities w (asking q s) alone by.store_is)
    (lines requests) p by.answered in
    record {
      answered = answered;
      one_line_each = one_line_each text c.args.way (IsRequestUnread standard_extensions standard_calls) q 1 (lines requests)
          answered.answers answered.each;
    })
    c.answer_parsed-printed.result c.answer_parsed-printed.ensures.answered

pub returns-clause-refused : goal.returns-clause-refused
returns-clause-refused c =
    let x = c.all_available-extensions.result in
    let none = c.all_available-extensions.ensures.extensions in
    let there = c.all_available-extensions.ensures.standard in
    let q = c.args.asked.now in
    let text = c.args.policies.text.now in
    of_err (IsToldFor (IsKnownStoreUnread (extensions_view x) (calls_of x) q.entities q.max_ancestors))
    (IsToldFor (AreUnauthorized text q))
    (λ r. because (IsKnownStoreUnread (extensions_view x) (calls_of x) q.entities q.max_ancestors) (AreUnauthorized text q)
    (λ h. unread_entities
    (subst (λ calls. IsKnownStoreUnread standard_extensions calls q.entities q.max_ancestors) (calls_alone x none there)
    (subst (λ v. IsKnownStoreUnread v (calls_of x) q.entities q.max_ancestors) (view_alone x none there) h))) r)
    c.answer_parsed-printed.result c.answer_parsed-printed.ensures.refused
