-- What the members of an entity say.
use Rattle.std.proofs.Common.{◌≡◌, List, [], ◌∷◌, ◌++◌, sym, ap, ◌∙◌}
use Rattle.std.proofs.lemmas.List.{map-append}
use Rattle.cedar_model.specs.Terms.{EntityName}
use Rattle.cedar_names.specs.declared.names.EntityUID.{EntityUID}
use Rattle.cedar_names.specs.Names.{uid_name}
use Rattle.cedar_json_reader.specs.Refusals.{Said, made_of}
use Rattle.cedar_json_reader.specs.StatedEntities.{names_of}
use Rattle.cedar_json_reader.proofs.Refused.{none_done}

-- nothing is read yet
pub no_names : (us : List EntityUID) (s : Said (List EntityName)) → us ≡ [] → s ≡ made_of (λ ts. names_of us ++ ts) s
no_names us s h = none_done s ∙ ap (λ (ts : List EntityUID). made_of (λ vs. names_of ts ++ vs) s) (sym h)

pub one_name : (old new : List EntityUID) (u : EntityUID) → new ≡ old ++ u ∷ [] → names_of new ≡ names_of old ++ uid_name u ∷ []
one_name old new u h = ap names_of h ∙ map-append uid_name old (u ∷ [])

pub ruleset entities = (no_names, one_name)
