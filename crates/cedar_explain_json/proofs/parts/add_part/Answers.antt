use Rattle.cedar_json_writer.specs.Trees.{json_view}
use Rattle.cedar_explain_json.proofs.parts.add_part.Goals as goal

pub returns : goal.returns
returns g c = (json_view c.in_ok-item.item, c.in_ok-item.ensures, c.in_ok-put_item.ensures)
