-- What was read of entities, as plain data.
use Rattle.std.specs.Prelude.{List, map}
use Rattle.cedar_model.specs.Terms.{EntityName}
use Rattle.cedar_names.specs.declared.names.EntityUID.{EntityUID}
use Rattle.cedar_names.specs.Names.{uid_name}
use Rattle.cedar_json_reader.specs.declared.entities.StatedEntity.{StatedEntity}
use Rattle.cedar_json_reader.specs.Lists.{pairs_said}
use Rattle.cedar_json_reader.specs.SaidEntities.{SaidEntity}

abbrev pub names_of : List EntityUID → List EntityName
names_of = map uid_name

abbrev pub stated_view : StatedEntity → SaidEntity
stated_view e =
    record {
      uid = uid_name e.uid;
      attributes = pairs_said e.attrs.items;
      parents = names_of e.parents.items;
      tags = pairs_said e.tags.items;
    }

abbrev pub stated_views : List StatedEntity → List SaidEntity
stated_views = map stated_view
