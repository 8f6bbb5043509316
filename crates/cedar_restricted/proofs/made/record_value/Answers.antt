use Rattle.std.proofs.Common.{ap, ◌∙◌}
use Rattle.cedar_model.specs.Values.{record_represented}
use Rattle.cedar_restricted.proofs.Maps.{values_of_map, insides_of_map}
use Rattle.cedar_restricted.proofs.made.record_value.Goals as goal

pub returns-clause-what : goal.returns-clause-what
returns-clause-what c =
    c.in_ok-record.ensures.what ∙
    ap record_represented
    (values_of_map c.args.keys.items c.args.values.items c.in_ok-fields.fields c.requires c.in_ok-fields.ensures)

pub returns-clause-inside : goal.returns-clause-inside
returns-clause-inside c =
    c.in_ok-record.ensures.inside ∙
    insides_of_map c.args.keys.items c.args.values.items c.in_ok-fields.fields c.requires c.in_ok-fields.ensures
