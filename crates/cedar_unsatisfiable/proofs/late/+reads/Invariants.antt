use Rattle.std.proofs.Common.{◌≡◌, drop}
use Rattle.cedar_expressions.specs.View.{terms_view, fields_view}
use Rattle.cedar_unsatisfiable.specs.Late.{attribute_view, some_reads, some_field_reads}
use Rattle.cedar_unsatisfiable.proofs.late.+reads.Given as goal

-- what is left says what all of it does
abbrev pub invariant-some_reads-parts : goal.invariant-some_reads-parts
invariant-some_reads-parts l =
    some_reads (attribute_view l.attribute) (terms_view (drop l.part-index l.part-items))
    ≡ some_reads (attribute_view l.attribute) (terms_view l.parts.items)

abbrev pub invariant-some_field_reads-fields : goal.invariant-some_field_reads-fields
invariant-some_field_reads-fields l =
    some_field_reads (attribute_view l.attribute) (fields_view l.part-iterator)
    ≡ some_field_reads (attribute_view l.attribute) (fields_view l.parts.entries)
