use Rattle.std.proofs.Common.{◌≡◌, ◌∷◌, option_map, ap, sym, ◌∙◌}
use Rattle.std.specs.Vec.Iter.{into_iter_items}
use Rattle.cedar_expressions.specs.Records.{put_fields}
use Rattle.cedar_expressions.specs.View.{fields_view}
use Rattle.cedar_builder.specs.Building.{fields_of_all}
use Rattle.cedar_builder.proofs.Lists.{field_put}
use Rattle.cedar_builder.proofs.expressions.lists.each_field.Goals as goal

pub fields-preserved : goal.fields-preserved
fields-preserved c =
    let next : into_iter_items c.fields.field-iterator ≡ c.in-Some.field ∷ into_iter_items c.next.new.self = c.in-Some.ensures.steps.0 in
    field_put _ _ c.in-Some.field.built (fields_of_all (into_iter_items c.next.new.self)) c.in_ok-put_field.ensures
    ∙ ap (λ fs. option_map (put_fields (fields_view c.fields.made.entries)) (fields_of_all fs)) (sym next)
    ∙ c.fields.invariant
