-- Values as they are put into a map one after another.
use Rattle.std.specs.Prelude.{cond, List, [], ◌∷◌, Some}
use Rattle.cedar_model.specs.Terms.{EntityName}
use Rattle.cedar_model.specs.Outcomes.{text_eq}
use Rattle.cedar_model.specs.Settings.{printed_entity}
use Rattle.cedar_model.specs.Chains.{Mapping}
use Rattle.cedar_unknowns.specs.Themselves.{itself}

-- those values, and this entity instead of one under its text
abbrev pub with_itself : Mapping → EntityName → Mapping
with_itself before e n = cond (text_eq n (printed_entity e)) (Some (itself e)) (before n)

-- those values, and each of these entities in turn
abbrev pub with_each : Mapping → List EntityName → Mapping
with_each before [] = before
with_each before (e ∷ es) = with_each (with_itself before e) es
