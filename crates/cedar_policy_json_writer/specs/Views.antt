-- Scopes as the writer holds them, as plain data.
use Rattle.cedar_names.specs.Names.{uid_name, type_text}
use Rattle.cedar_names.specs.Leaves.{slot_view}
use Rattle.cedar_expressions.specs.View.{terms_view}
use Rattle.cedar_policy_json_writer.specs.declared.scope.Place.{Place as HeldPlace}
use Rattle.cedar_policy_json_writer.specs.declared.scope.Place.TheVariants as places
use Rattle.cedar_policy_json_writer.specs.declared.scope.Scope.{Scope as HeldScope}
use Rattle.cedar_policy_json_writer.specs.declared.scope.Scope.TheVariants as held
use Rattle.cedar_policy_json_writer.specs.Scopes.{Place, entity_place, slot_place, Scope, any, equal_to, inside}
use Rattle.cedar_policy_json_writer.specs.Scopes.{inside_any, of_type, of_type_inside, entities_in}

abbrev pub place_view : HeldPlace → Place
place_view (places.Entity u) = entity_place (uid_name u.now)
place_view (places.Slot x) = slot_place (slot_view x)

abbrev pub scope_view : HeldScope → Scope
scope_view held.Any = any
scope_view (held.Equal p) = equal_to (place_view p)
scope_view (held.In p) = inside (place_view p)
scope_view (held.InAny es) = inside_any (entities_in (terms_view es.now))
scope_view (held.Is t) = of_type (type_text t.now)
scope_view (held.IsIn t p) = of_type_inside (type_text t.now) (place_view p)
