use Rattle.std.proofs.Common.{◌≡◌, option_map}
use Rattle.std.specs.Vec.Iter.{into_iter_items}
use Rattle.cedar_expressions.specs.Records.{put_fields, fields_in_order}
use Rattle.cedar_expressions.specs.View.{fields_view}
use Rattle.cedar_builder.specs.Building.{fields_of_all}
use Rattle.cedar_builder.proofs.expressions.lists.each_field.Given as goal

-- what is left, put after what was put, is all
abbrev pub invariant-fields : goal.invariant-fields
invariant-fields l =
    option_map (put_fields (fields_view l.made.entries)) (fields_of_all (into_iter_items l.field-iterator))
    ≡ option_map fields_in_order (fields_of_all l.fn.fields.items)
