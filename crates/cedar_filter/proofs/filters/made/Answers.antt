use Rattle.std.proofs.Common.{◌≡◌, ◌∙◌, IfOk, ap, subst, option_map}
use Rattle.std.specs.Rc.{rc_str_bytes}
use Rattle.cedar_model.specs.Terms.{Term}
use Rattle.cedar_names.specs.Leaves.{type_view}
use Rattle.cedar_expressions.specs.View.{view}
use Rattle.cedar_filter.specs.Conditions.{condition_term}
use Rattle.cedar_filter.specs.Faults.{kept_condition}
use Rattle.cedar_filter.specs.Filters.{row_term}
use Rattle.cedar_filter.proofs.Faultless.{condition_kept}
use Rattle.cedar_filter.proofs.filters.made.Goals as goal

pub returns-clause-term : goal.returns-clause-term
returns-clause-term c =
    let n = rc_str_bytes c.args.row.now.name in
    let a = option_map type_view c.args.row.now.type_annotation in
    let same : row_term c.in_ok-row.row ≡ row_term c.args.row.now =
    subst (λ r. IfOk r (λ u. row_term u ≡ row_term c.args.row.now)) c.in_ok-row.ensures.first c.copied.ensures in
    let told = subst (λ r. IfOk r (λ k. condition_term (row_term c.args.row.now) k ≡ kept_condition n a (view c.args.expr.now))) c.in_ok-row.ensures.second c.read_condition.ensures in
    ap (λ (t : Term). condition_term t c.in_ok-row.condition) same ∙ told ∙ condition_kept n a (view c.args.expr.now) c.requires
