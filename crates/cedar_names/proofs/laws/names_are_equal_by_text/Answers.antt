use Rattle.std.specs.Cmp.Lexicographic.{bytes_decides}
use Rattle.cedar_names.specs.Names.{name_text, type_text, uid_name}
use Rattle.cedar_names.specs.EqualityLaws.{entity_eq-decides}
use Rattle.cedar_names.proofs.Derived.{entities_equal}
use Rattle.std.proofs.lemmas.Bool.Decides.{Decides-at}
use Rattle.cedar_names.proofs.laws.names_are_equal_by_text.Goals as goal

pub returns-clause-names : goal.returns-clause-names
returns-clause-names c = λ a b. bytes_decides (name_text a) (name_text b)

pub returns-clause-types : goal.returns-clause-types
returns-clause-types c = λ a b. bytes_decides (type_text a) (type_text b)

pub returns-clause-entities : goal.returns-clause-entities
returns-clause-entities c = λ a b. Decides-at _ _ (entities_equal a b) (entity_eq-decides (uid_name a) (uid_name b))
