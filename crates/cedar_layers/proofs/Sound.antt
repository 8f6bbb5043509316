-- What is stored, and what a map has for unknowns, is sound: the types keep it.
use Rattle.std.proofs.Common.{◌≡◌, subst, true, List, Option, None, Some, option_map, Global, ◌∙◌}
use Rattle.std.specs.Cmp.Lexicographic.{slice_cmp}
use Rattle.std.specs.Map.{lookup}
use Rattle.std.specs.Ordering.{is_eq, nat_cmp}
use Rattle.std.specs.Rc.{rc_str_bytes}
use Rattle.std.specs.declared.rc.RcStr.{RcStr}
use Rattle.cedar_model.specs.Terms.{Text}
use Rattle.cedar_model.specs.Values.{Represented}
use Rattle.cedar_model.specs.Outcomes.{text_eq, entity_eq}
use Rattle.cedar_model.specs.Settings.{StoredEntity, part_at}
use Rattle.cedar_model.specs.Failures as model
use Rattle.cedar_model.specs.Agreement.{EachStored}
use Rattle.cedar_model.specs.Restricted.{IsSound, IsSoundPart}
use Rattle.cedar_names.specs.declared.names.EntityUID.{EntityUID}
use Rattle.cedar_names.specs.Names.{uid_name}
use Rattle.cedar_expressions.specs.Mappings.{mapping_of}
use Rattle.cedar_values.specs.declared.partial_value.PartialValue.{PartialValue}
use Rattle.cedar_values.specs.declared.partial_value.PartialValue.TheVariants as partials
use Rattle.cedar_values.specs.Residuals.{partial_view}
use Rattle.cedar_values.specs.Sound.{Placed, found_is_sound}
use Rattle.cedar_layers.specs.declared.policies.entities.Entities.{Entities}
use Rattle.cedar_layers.specs.declared.policies.entities.Entity.{Entity}
use Rattle.cedar_layers.specs.Mapped.{IsSoundMapping}
use Rattle.cedar_layers.specs.Parts.{parts_view, is_restricted_part, are_restricted_parts}
use Rattle.cedar_layers.specs.Stores.{entity_view, store_view, stored_entity}
use Rattle.cedar_layers.proofs.Parts.{option_map-lookup, restricted_at}
use Rattle.cedar_model.proofs.Injections.{some_inj, none_is_not_some}

-- ---- maps of values

-- each value that a map has for an unknown is sound
pub mapping_is_sound : (es : List (RcStr Global × Placed)) → IsSoundMapping (mapping_of (λ (v : Placed). v.what) es)
mapping_is_sound es n v e =
    found_is_sound (lookup (λ (k : RcStr Global). text_eq n (rc_str_bytes k)) es) v e

-- ---- stores

part_is_sound : (p : PartialValue) → is_restricted_part (partial_view p) ≡ true → IsSoundPart (partial_view p)
part_is_sound (partials.Value v) h = v.sound
part_is_sound (partials.Residual r) h = h

found_part_is_sound : (o : Option PartialValue) (p : model.PartialValue) → option_map partial_view o ≡ Some p → is_restricted_part p ≡ true → IsSoundPart p
found_part_is_sound None p e h = absurd (none_is_not_some e)
found_part_is_sound (Some q) p e h =
    let Sound : model.PartialValue → Type 0 = λ x. is_restricted_part x ≡ true → IsSoundPart x in
    subst Sound (some_inj e) (part_is_sound q) h

-- each part of restricted parts is sound
pub parts_are_sound : (es : List (RcStr Global × PartialValue)) → are_restricted_parts (parts_view es) ≡ true → (k : Text) (p : model.PartialValue) → part_at k (parts_view es) ≡ Some p → IsSoundPart p
parts_are_sound es h k p e =
    found_part_is_sound (lookup (λ (n : RcStr Global). is_eq (slice_cmp nat_cmp k (rc_str_bytes n))) es) p (option_map-lookup k es ∙ e) (restricted_at k (parts_view es) p h e)

-- so are the attributes and the tags of an entity
abbrev pub IsSoundAt : Text → model.PartialValue → StoredEntity → Type 0
IsSoundAt k p x = (part_at k x.attributes ≡ Some p → IsSoundPart p) × (part_at k x.tags ≡ Some p → IsSoundPart p)

pub entity_is_sound : (e : Entity) (k : Text) (p : model.PartialValue) → IsSoundAt k p (entity_view e)
entity_is_sound e k p =
    (parts_are_sound e.attrs.entries e.attrs_restricted k p, parts_are_sound e.tags.entries e.tags_restricted k p)

found_entity_is_sound : (o : Option Entity) (x : StoredEntity) (k : Text) (p : model.PartialValue) → option_map entity_view o ≡ Some x → IsSoundAt k p x
found_entity_is_sound None x k p e = absurd (none_is_not_some e)
found_entity_is_sound (Some y) x k p e = subst (IsSoundAt k p) (some_inj e) (entity_is_sound y k p)

-- each stored value is sound, and each stored residual is restricted
pub store_is_sound : (s : Entities) → EachStored IsSoundPart (store_view s)
store_is_sound s n x k p e =
    found_entity_is_sound (stored_entity s n) x k p e
