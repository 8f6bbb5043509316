use Rattle.std.proofs.Common.{◌≡◌, ◌∙◌, ap, string_bytes}
use Rattle.json.specs.Print.{print}
use Rattle.json.specs.Tree.{json_tokens}
use Rattle.cedar_json_writer.specs.Trees.{json_view}
use Rattle.cedar_names.specs.Names.{uid_name}
use Rattle.cedar_service.specs.Searched.{found_text}
use Rattle.cedar_service.proofs.Composed.{of_ok}
use Rattle.cedar_service.proofs.found.text_of.Goals as goal

pub returns : goal.returns
returns c =
    of_ok (λ s. string_bytes s ≡ print (json_tokens (json_view c.in_ok-json.json)))
    (λ s. string_bytes s ≡ found_text c.args.part (uid_name c.args.uid.now))
    (λ s h. h ∙ ap (λ j. print (json_tokens j)) c.in_ok-json.ensures) c.to_text-text.result c.to_text-text.ensures.text
