use Rattle.std.proofs.Common.{◌≡◌, ◌∙◌, ap, string_bytes}
use Rattle.json.specs.Print.{print}
use Rattle.json.specs.Tree.{json_tokens}
use Rattle.cedar_json_writer.specs.Trees.{json_view}
use Rattle.cedar_serve.specs.Metadata.{metadata_text}
use Rattle.cedar_serve.proofs.Composed.{of_ok}
use Rattle.cedar_serve.proofs.metadata.metadata_text.Goals as goal

pub returns : goal.returns
returns c =
    of_ok (λ s. string_bytes s ≡ print (json_tokens (json_view c.in_ok-json.json)))
    (λ s. string_bytes s ≡ metadata_text c.args.url.now)
    (λ s h. h ∙ ap (λ j. print (json_tokens j)) c.in_ok-json.ensures) c.to_text-text.result c.to_text-text.ensures.text
