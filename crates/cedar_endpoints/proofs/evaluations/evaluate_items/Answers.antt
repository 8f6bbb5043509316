use Rattle.std.proofs.Common.{◌∙◌, ap, refl, map, string_bytes}
use Rattle.cedar_endpoints.specs.Several.{joined, list_text}
use Rattle.cedar_endpoints.proofs.evaluations.evaluate_items.Goals as goal

pub returns : goal.returns
returns g c =
    let texts = ap (λ ts. joined (map string_bytes ts)) c.as_slice.ensures.value in
    let items = c.as_str.ensures.value ∙ c.in_ok-items.ensures ∙ texts in (
      map string_bytes c.in_ok-texts.texts.items,
      c.in_ok-texts.ensures,
      record {
        status = refl;
        body = c.in_ok-body.ensures ∙ ap list_text items;
      },
    )
