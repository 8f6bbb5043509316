-- A map that names all that a response waits for.
use Rattle.std.specs.Prelude.{◌≡◌, ◌≢◌, Bool, true, false, cond, Option, Some, None}
use Rattle.std.proofs.Common.{refl, subst}
use Rattle.cedar_model.specs.Terms.{Text, ValueType, bool_literal}
use Rattle.cedar_model.specs.Values.{AbstractValue, Represented, plain_represented}
use Rattle.cedar_model.specs.World.{function_asks, function_gives}
use Rattle.cedar_model.specs.Settings.{variable_part, entry_part, context_value, type_annotation}
use Rattle.cedar_model.specs.Outcomes.{escaped}
use Rattle.cedar_model.specs.Printing.{unquoted, id_here, with_byte, read_entity}
use Rattle.cedar_model.specs.Agreement.{NeverAsks}
use Rattle.cedar_model.proofs.Injections.{none_is_not_some, some_inj}
use Rattle.cedar_model.specs.examples.Setting.{some_functions}
use Rattle.cedar_names.specs.Equality.{annotation_eq}
use Rattle.cedar_laws.specs.Faithful.{HoldsNoExtensionValue, MapHoldsNoExtensionValue}
use Rattle.cedar_unknowns.specs.Occurrences.{is_listed}
use Rattle.cedar_unknowns.specs.Naming.{NamesEach, NamesListed, response_occurrences}
use Rattle.cedar_unknowns.specs.NamingInstances as instances
use Rattle.cedar_unknowns.specs.NamingInstances.{waiting_response, waiting_names, naming_map, is_of}
use Rattle.cedar_unknowns.proofs.Naming.{to_lists, listed_names_are_all}

pub waiting_listed : instances.WaitingIsListed
unfolding is_listed annotation_eq variable_part entry_part context_value type_annotation escaped unquoted id_here
    with_byte read_entity
waiting_listed = (refl, refl)

each_named : NamesEach naming_map (response_occurrences waiting_response)
unfolding variable_part entry_part context_value type_annotation escaped
each_named = (refl, (refl, (refl, (refl, (refl, (refl, tt))))))

-- a value of the map is the one that it has
value_free : (b : Bool) (v : Represented) → cond b (Some (plain_represented (bool_literal true))) None ≡ Some v
    → HoldsNoExtensionValue v
value_free true v e = subst HoldsNoExtensionValue (some_inj e) tt
value_free false v e = absurd (none_is_not_some e)

map_free : MapHoldsNoExtensionValue naming_map
map_free n v e = value_free (is_of n waiting_names) v e

gives_no_unknown : (v : AbstractValue) (n : Text) (t : Option ValueType) → function_gives v ≢ function_asks n t
gives_no_unknown v n t e = cc

never_asks : (f : Text) → NeverAsks some_functions f
never_asks f vs n t = gives_no_unknown _ n t

pub waiting_named : instances.WaitingIsNamed
waiting_named =
    let listed : NamesListed naming_map (response_occurrences waiting_response) = to_lists naming_map _ each_named in
    let all = listed_names_are_all some_functions never_asks naming_map map_free waiting_response listed in
    (listed, map_free, never_asks, all)
