use Rattle.std.proofs.Common.{◌≡◌, rules, ap, ◌∙◌, string_bytes}
use Rattle.json.specs.Json.{document}
use Rattle.json.specs.Print.{print}
use Rattle.json.specs.Tree.{json_tokens}
use Rattle.json.proofs.Printed.Trees.{document-print}
use Rattle.cedar_json_writer.specs.Trees.{json_view}
use Rattle.cedar_json_writer.proofs.tree.JsonValue.to_text.Goals as goal

pub returns-clause-reads_back : goal.returns-clause-reads_back
returns-clause-reads_back c shallow =
    let j = json_view c.args.self.now in
    let text : string_bytes c.string_of.result ≡ print (json_tokens j) = search rules in
    ap document text ∙ document-print j c.in_ok-write_value.ensures.numbers shallow
