use Rattle.std.proofs.Common.{ap, ◌∙◌}
use Rattle.std.specs.Prelude.{Option}
use Rattle.json.specs.Json.{Json}
use Rattle.json.specs.Value.{value_view}
use Rattle.cedar_endpoints.specs.Asked.{and_then, context_said}
use Rattle.cedar_endpoints.specs.Searches.{parts_view, search_of, with_page}
use Rattle.cedar_endpoints.proofs.searches.with_context.Goals as goal

pub returns-in-Ok : goal.returns-in-Ok
returns-in-Ok c =
    let j = value_view c.args.value.now in
    let ps = parts_view c.args.parts in
    c.with_page.ensures ∙ ap (with_page j) c.search_of.ensures
    ∙ ap (and_then (λ (k : Option Json). with_page j (search_of j ps k))) (c.in-Ok.ensures ∙ ap context_said c.get.ensures)
