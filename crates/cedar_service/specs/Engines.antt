-- What an engine has.
use Rattle.std.specs.Prelude.{ℕ, List, length, map, string_bytes}
use Rattle.cedar_model.specs.Terms.{Text, EntityName}
use Rattle.cedar_names.specs.Names.{uid_name}
use Rattle.cedar_layers.specs.declared.policies.entities.Entities.{Entities}
use Rattle.cedar_layers.specs.declared.policies.policy_set.PolicySet.{PolicySet}
use Rattle.cedar_overlay.specs.Bases.{base_entities}
use Rattle.cedar_text_parser.specs.declared.policies.ParsedPolicies.{ParsedPolicies}
use Rattle.cedar_service.specs.declared.engine.Engine.{Engine}

-- what was read of the policies' text
abbrev pub read_policies : Engine → ParsedPolicies
read_policies e = e.policies

-- the policies that decide
abbrev pub policies_of : Engine → PolicySet
policies_of e = (read_policies e).policies

-- the entities, each with all its ancestors
abbrev pub entities_of : Engine → Entities
entities_of e = base_entities e.base

-- the candidates of its searches
abbrev pub candidates_of : Engine → List EntityName
candidates_of e = map uid_name e.candidates.items

-- how many there are
abbrev pub candidate_count : Engine → ℕ
candidate_count e = length e.candidates.items

-- the version of what it decides
abbrev pub version_of : Engine → Text
version_of e = string_bytes e.version
