-- The response stands above its explanation.
use Rattle.std.proofs.Common.{string_bytes, subst}
use Rattle.cedar_model.specs.Terms.{Text}
use Rattle.cedar_layers.specs.PolicySets.{policies_view}
use Rattle.cedar_cli.specs.Explained.{IsWordAbove}
use Rattle.cedar_cli.proofs.Explaining.{no_other}
use Rattle.cedar_cli.proofs.explanations.explain_over_store.Goals as goal

pub returns-clause-answered : goal.returns-clause-answered
returns-clause-answered g c =
    let d = c.args.explaining.deciding in
    let response = c.in_ok-response.response in
    let below : Text = string_bytes c.in_ok-below.below in
    let p = c.in_ok-printed.field-0 in
    let printed : IsWordAbove d.way.is_verbose (policies_view d.policies.now) response below p =
    subst (λ (t : Text). IsWordAbove d.way.is_verbose (policies_view d.policies.now) response t p) c.as_str.ensures.value
    c.in_ok-printed.ensures in
    record {
      request = c.in_ok-request.request;
      response = response;
      below = below;
      request_is = c.in_ok-request.ensures.asked;
      response_is = c.in_ok-response.ensures;
      explanation_is = c.in_ok-below.ensures;
      printed = printed;
      no_other = no_other d.way.is_verbose (policies_view d.policies.now) response d.places.now.source.text.now
          c.in_ok-below.ensures.lines below p printed c.in_ok-below.ensures.told;
    }
