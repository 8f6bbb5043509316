-- A line of an object ends as it is cut, and the member stands before that end.
use Rattle.cedar_json_writer.specs.Trees.{json_view}
use Rattle.cedar_json_lines.proofs.Joining.{one_more, never}
use Rattle.cedar_json_lines.proofs.objects.with_member.Goals as goal

pub returns-in-Some : goal.returns-in-Some
returns-in-Some c =
    one_more c.args.line.now c.in-Some.front.now c.args.key.now (json_view c.args.value.now) c.put_behind.result
    c.in-Some.ensures c.put_behind.ensures

pub returns-in-None : goal.returns-in-None
returns-in-None c = never c.args.line.now c.args.key.now (json_view c.args.value.now) c.from_str.result c.in-None.ensures
