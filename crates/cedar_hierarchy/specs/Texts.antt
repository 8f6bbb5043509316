-- What an error prints as.
use Rattle.std.specs.Prelude.{◌++◌, codes}
use Rattle.cedar_model.specs.Terms.{Text}
use Rattle.cedar_names.specs.Names.{uid_name}
use Rattle.cedar_names.specs.Texts.{entity_text}
use Rattle.cedar_hierarchy.specs.declared.error.ClosureError.{ClosureError}
use Rattle.cedar_hierarchy.specs.declared.error.ClosureError.TheVariants.{Memory, Cycle}

abbrev pub error_text : ClosureError → Text
error_text (Memory e) = codes "out of memory"
error_text (Cycle u) =
    codes "the parents of the entity `" ++ (entity_text (uid_name u) ++ codes "` lead back to it")
