-- How policies are called.
use Rattle.std.specs.Prelude.{Option, Some, None, codes}
use Rattle.std.specs.Map.{lookup}
use Rattle.cedar_model.specs.Terms.{Text}
use Rattle.cedar_model.specs.Outcomes.{text_eq}
use Rattle.cedar_layers.specs.Policies.{PolicyView}

-- what a policy's annotation `id` says, if it has one
abbrev pub annotated : PolicyView → Option Text
annotated p = lookup (text_eq (codes "id")) p.annotations

abbrev pub annotation_or_id : Option Text → PolicyView → Text
annotation_or_id None p = p.id
annotation_or_id (Some name) p = name

-- by that annotation or, where a policy has none, by its id
abbrev pub policy_name : PolicyView → Text
policy_name p = annotation_or_id (annotated p) p
