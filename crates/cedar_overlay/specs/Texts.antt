-- What errors print as.
use Rattle.std.specs.Prelude.{◌++◌, codes}
use Rattle.std.specs.Rc.{rc_str_bytes}
use Rattle.cedar_model.specs.Terms.{Text}
use Rattle.cedar_names.specs.Names.{uid_name}
use Rattle.cedar_names.specs.Texts.{entity_text}
use Rattle.cedar_overlay.specs.declared.error.AttributesError.{AttributesError}
use Rattle.cedar_overlay.specs.declared.error.AttributesError.TheVariants.{Memory, NotStored, HasAttribute}
use Rattle.cedar_overlay.specs.declared.entities_error.EntitiesError.{EntitiesError}
use Rattle.cedar_overlay.specs.declared.entities_error.EntitiesError.TheVariants as refusals

abbrev pub error_text : AttributesError → Text
error_text (Memory e) = codes "out of memory"
error_text (NotStored u) = codes "the entity `" ++ (entity_text (uid_name u) ++ codes "` is not stored")
error_text (HasAttribute u k) =
    codes "the entity `" ++ (entity_text (uid_name u) ++ (codes "` has the attribute `" ++ (rc_str_bytes k ++ codes "` already")))

abbrev pub entities_error_text : EntitiesError → Text
entities_error_text (refusals.Memory e) = codes "out of memory"
entities_error_text (refusals.AlreadyStored u) =
    codes "the entity `" ++ (entity_text (uid_name u) ++ codes "` is stored already")
entities_error_text (refusals.Repeated u) =
    codes "the entity `" ++ (entity_text (uid_name u) ++ codes "` is brought more than once")
entities_error_text (refusals.NoParent u v) =
    codes "the entity `" ++ (entity_text (uid_name u) ++ (codes "` has the parent `"
    ++ (entity_text (uid_name v) ++ codes "`, which is neither stored nor brought")))
entities_error_text (refusals.IsAnAncestor u v) =
    codes "the entity `" ++ (entity_text (uid_name u) ++ (codes "` has parents, and the stored entity `"
    ++ (entity_text (uid_name v) ++ codes "` records it as an ancestor")))
entities_error_text (refusals.Cycle u) =
    codes "the parents of the entity `" ++ (entity_text (uid_name u) ++ codes "` lead back to it")
