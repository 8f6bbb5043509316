use Rattle.std.proofs.Common.{◌∙◌, ap, option_map}
use Rattle.cedar_names.specs.Leaves.{type_view}
use Rattle.cedar_names.specs.UnknownFields.{UnknownFields}
use Rattle.cedar_sql_plan.proofs.Typing.{each_permitted_row}
use Rattle.cedar_sql_plan.proofs.plans.permitted_row.Goals as goal

pub returns : goal.returns
returns c =
    each_permitted_row c.args.columns.now c.args.plan.now c.args.may_be c.in_ok-term.term
    (option_map type_view c.behind-plan.inside.type_annotation) c.of_type.result
    (ap (λ (u : UnknownFields). option_map type_view u.type_annotation) (c.behind-plan.view_is ∙ c.row.ensures))
    c.in_ok-term.ensures c.of_type.ensures
