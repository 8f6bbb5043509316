use Rattle.std.proofs.Common.{map}
use Rattle.std.proofs.lemmas.Result.{IfErr-weaker}
use Rattle.json.specs.Value.{value_view}
use Rattle.cedar_template_links.specs.LinkFiles.{IsUnsaid}
use Rattle.cedar_linked_text.specs.LinkedTexts.{IsNoList}
use Rattle.cedar_linked_text.proofs.ListTexts.{list_refused}
use Rattle.cedar_linked_text.proofs.lists.read_list.Goals as goal

pub returns-in-Ok-clause-refused : goal.returns-in-Ok-clause-refused
returns-in-Ok-clause-refused c =
    let text = c.args.text.now in
    let j = value_view c.in-Ok.value in
    IfErr-weaker c.links_from_file_json.result (IsUnsaid j) (IsNoList text) (λ e h. list_refused text j e c.in-Ok.ensures.said h) c.links_from_file_json.ensures.refused
