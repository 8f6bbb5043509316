-- The standard extensions alone are those that the definitions name.
use Rattle.std.proofs.Common.{subst}
use Rattle.cedar_extensions.specs.Extensions.{extensions_view, calls_of}
use Rattle.cedar_text_parser.specs.PolicyReading.{AreAllRead}
use Rattle.cedar_json_writer.specs.Trees.{json_view}
use Rattle.cedar_cli.specs.Questions.{levels}
use Rattle.cedar_cli.specs.Reasons.{IsToldFor, IsAskedUnread, IsUnauthorized, for_question}
use Rattle.cedar_cli.specs.Standard.{standard_extensions, standard_calls, standard_knowledge}
use Rattle.cedar_cli.proofs.Alone.{calls_alone, view_alone, known_alone}
use Rattle.cedar_cli.proofs.Composed.{of_ok, of_err}
use Rattle.cedar_cli.proofs.Reasoned.{because}
use Rattle.cedar_cli_explain.specs.Explained.{IsExplained, IsExplainedBy}
use Rattle.cedar_cli_explain.proofs.answers.explain.Goals as goal

pub returns-clause-answered : goal.returns-clause-answered
returns-clause-answered c =
    let x = c.all_available-extensions.result in
    let none = c.all_available-extensions.ensures.extensions in
    let there = c.all_available-extensions.ensures.standard in
    let parsed = c.in_ok-parsed.parsed in
    let text = c.args.policies.text.now in
    let q = c.args.asked.now in
    let w = c.args.way in
    let b = c.args.has_values in
    let read : AreAllRead standard_knowledge text levels parsed =
    subst (λ k. AreAllRead k text levels parsed) (known_alone x none there) c.in_ok-parsed.ensures.read in
    of_ok (λ j. IsExplainedBy (extensions_view x) (calls_of x) text parsed.policies q w b (json_view j))
    (λ j. IsExplained text q w b (json_view j))
    (λ j h.
    let viewed = subst (λ v. IsExplainedBy v (calls_of x) text parsed.policies q w b (json_view j)) (view_alone x none there) h in
    record {
      parsed = parsed;
      policies_are = read;
      by = subst (λ calls. IsExplainedBy standard_extensions calls text parsed.policies q w b (json_view j))
          (calls_alone x none there) viewed;
    })
    c.explain_over_given_store-explanation.result c.explain_over_given_store-explanation.ensures.answered

pub returns-clause-refused : goal.returns-clause-refused
returns-clause-refused c =
    let x = c.all_available-extensions.result in
    let none = c.all_available-extensions.ensures.extensions in
    let there = c.all_available-extensions.ensures.standard in
    let q = c.args.asked.now in
    let text = c.args.policies.text.now in
    of_err (IsToldFor (IsAskedUnread (extensions_view x) (calls_of x) q)) (IsToldFor (IsUnauthorized text q))
    (λ r. because (IsAskedUnread (extensions_view x) (calls_of x) q) (IsUnauthorized text q)
    (λ h. for_question
    (subst (λ calls. IsAskedUnread standard_extensions calls q) (calls_alone x none there)
    (subst (λ v. IsAskedUnread v (calls_of x) q) (view_alone x none there) h))) r)
    c.explain_over_given_store-explanation.result c.explain_over_given_store-explanation.ensures.refused
