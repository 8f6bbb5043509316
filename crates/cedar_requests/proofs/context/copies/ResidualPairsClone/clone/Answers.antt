use Rattle.std.proofs.Common.{◌∙◌, ap, map}
use Rattle.cedar_model.specs.Shapes.{are_restricted_at, have_unknown_at}
use Rattle.cedar_expressions.specs.View.{fields_view, expr_loc}
use Rattle.cedar_requests.specs.Contexts.{ExprMap}
use Rattle.cedar_requests.proofs.Copies.{ExprPair, fields_view-copied, expr_locs-copied}
use Rattle.cedar_requests.proofs.context.copies.ResidualPairsClone.clone.Goals as goal

pub new-requires-clause-restricted : goal.new-requires-clause-restricted
new-requires-clause-restricted c =
    let old = c.as_map.result.now.entries in
    let copied = fields_view-copied old c.in_ok-pairs.pairs.entries c.in_ok-pairs.ensures.cases in
    ap are_restricted_at copied ∙ c.as_map.ensures.restricted

pub new-requires-clause-unknown : goal.new-requires-clause-unknown
new-requires-clause-unknown c =
    let old = c.as_map.result.now.entries in
    let copied = fields_view-copied old c.in_ok-pairs.pairs.entries c.in_ok-pairs.ensures.cases in
    ap have_unknown_at copied ∙ c.as_map.ensures.unknown

pub returns : goal.returns
returns c =
    let old = c.as_map.result.now.entries in
    let new = c.in_ok-pairs.pairs.entries in
    let fields = λ (m : ExprMap). fields_view m.entries in
    let places = λ (m : ExprMap). map (λ (p : ExprPair). expr_loc p.1) m.entries in
    let copied = fields_view-copied old new c.in_ok-pairs.ensures.cases in
    let placed = expr_locs-copied old new c.in_ok-pairs.ensures.cases in
    record {
      cases = (
        ap fields c.new.ensures ∙ copied ∙ ap fields c.as_map.ensures.map,
        ap places c.new.ensures ∙ placed ∙ ap places c.as_map.ensures.map,
      );
    }
