use Rattle.std.proofs.Common.{refl}
use Rattle.cedar_json_reader.specs.NamedEntities.{text_of}
use Rattle.cedar_json_reader.proofs.requests.entity_of_text.Goals as goal

pub returns-in-Ok-clause-named : goal.returns-in-Ok-clause-named
returns-in-Ok-clause-named c = text_of c.in-Ok.ensures.ok refl
