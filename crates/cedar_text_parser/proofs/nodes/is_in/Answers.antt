use Rattle.std.proofs.Common.{ap, ◌∙◌}
use Rattle.cedar_expressions.specs.Nodes.{kind_node}
use Rattle.cedar_text_parser.specs.Building.{IsCopy, type_node, type_in_node}
use Rattle.cedar_text_parser.proofs.nodes.is_in.Goals as goal

pub returns-clause-ok : goal.returns-clause-ok
returns-clause-ok c =
    let first = ap kind_node c.with_maybe_source_loc-is.ensures.kind ∙ c.in_ok-is.ensures.kind in
    let second = ap kind_node c.with_maybe_source_loc-member.ensures.kind ∙ c.in_ok-member.ensures.kind in
    let copy : IsCopy c.in_ok-copy.field-0 c.args.left = record {
      same_view = c.in_ok-copy.ensures.cases.0;
      same_loc = c.in_ok-copy.ensures.cases.1;
      same_parts = c.in_ok-copy.ensures.cases.2;
    } in
    rw c.in_ok-and.ensures.kind
    (type_in_node {p = c.with_maybe_source_loc-is.result} {q = c.with_maybe_source_loc-member.result}
    {x = c.in_ok-copy.field-0} (rw first (type_node c.in_ok-ty.ensures.ok)) c.with_maybe_source_loc-is.ensures.loc copy
    second c.with_maybe_source_loc-member.ensures.loc)
