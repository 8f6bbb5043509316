use Rattle.std.proofs.Common.{refl, ◌∙◌}
use Rattle.cedar_values.specs.Residuals.{partial_view}
use Rattle.cedar_operators.proofs.Keys.{is_some-found}
use Rattle.cedar_operators.proofs.missing.missing_tag.Goals as goal

pub returns : goal.returns
returns c =
    rw (c.in_ok-attr_or_tag.ensures.cases, c.in_ok-uid.ensures.cases, c.is_some.ensures ∙ is_some-found partial_view _ _ c.get.ensures.value, c.deref.ensures.value, c.in_ok-available_attrs_or_tags.ensures, c.tag_keys.ensures.names, c.tags_len.ensures) refl
