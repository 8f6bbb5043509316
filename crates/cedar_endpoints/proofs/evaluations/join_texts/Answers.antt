use Rattle.std.proofs.Common.{◌≡◌, ◌∙◌, map, codes, string_bytes}
use Rattle.std.specs.List.{join_by}
use Rattle.cedar_endpoints.specs.Several.{joined}
use Rattle.cedar_endpoints.proofs.Joined.{joined_texts}
use Rattle.cedar_endpoints.proofs.Texts.{of_ok}
use Rattle.cedar_endpoints.proofs.evaluations.join_texts.Goals as goal

pub returns : goal.returns
returns c =
    of_ok (λ s. string_bytes s ≡ join_by string_bytes (codes ",") c.args.texts.now)
    (λ s. string_bytes s ≡ joined (map string_bytes c.args.texts.now))
    (λ s h. h ∙ joined_texts string_bytes (codes ",") c.args.texts.now) c.join.result c.join.ensures.ok
