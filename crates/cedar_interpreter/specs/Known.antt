-- What is known of the entities that variables stand for.
use Rattle.std.specs.Prelude.{◌≡◌, Bool, Option, Some, None}
use Rattle.std.proofs.Props.{props}
use Rattle.cedar_model.specs.Terms.{EntityName, Variable, principal, action, resource, context}
use Rattle.cedar_model.specs.Values.{abstract_value}
use Rattle.cedar_model.specs.Outcomes.{entity_of}
use Rattle.cedar_model.specs.Failures.{PartialValue, value, residual}
use Rattle.cedar_model.specs.Settings.{Store, Found, found, not_there, not_known, look_up}
use Rattle.cedar_model.specs.lemmas.Codes.{text_code, entity_name_code, term_code, represented_code}
use Rattle.cedar_layers.specs.Stores.{entity_view}
use Rattle.cedar_operators.specs.Operands.{is_within}
use Rattle.cedar_interpreter.specs.declared.at_hand.Known.{Known}
use Rattle.cedar_interpreter.specs.declared.at_hand.Known.TheVariants.{Stored, Lacking, Nothing}
use Rattle.cedar_interpreter.specs.declared.at_hand.KnownEntities.{KnownEntities}

-- whether the first entity, of which a store answers this, is the second or in it, if the store knows
unfoldable pub within : Found → EntityName → EntityName → Option Bool
within (found x) d e = Some (is_within d (Some x) e)
within not_there d e = Some (is_within d None e)
within not_known d e = None

-- what is known of an entity, as the answer of a store
abbrev pub known_view : Known → Found
known_view (Stored x) = found (entity_view x.now)
known_view Lacking = not_there
known_view Nothing = not_known

-- what is known of what a variable stands for
abbrev pub known_for : KnownEntities → Variable → Known
known_for k principal = k.principal
known_for k action = k.action
known_for k resource = k.resource
known_for k context = Nothing

-- what a store answers of an entity, if there is one
unfoldable pub found_of : Store → Option EntityName → Found
found_of s None = not_known
found_of s (Some d) = look_up s d

-- the entity that this is, if it is one
abbrev pub entity_of_part : PartialValue → Option EntityName
entity_of_part (value v) = entity_of (abstract_value v)
entity_of_part (residual t) = None

-- what is known of this is that it is an entity of which the store has so much
abbrev pub IsKnownOf : Store → PartialValue → Known → Type 0
IsKnownOf s p (Stored x) = found_of s (entity_of_part p) ≡ found (entity_view x.now)
IsKnownOf s p Lacking = found_of s (entity_of_part p) ≡ not_there
IsKnownOf s p Nothing = Unit {0}

-- ---- it is a fact without content

found_set : IsSet Found
found_set = hlevel (props, text_code, entity_name_code, term_code, represented_code)

pub IsKnownOf-prop : (s : Store) (p : PartialValue) (k : Known) → IsProp (IsKnownOf s p k)
IsKnownOf-prop s p (Stored x) = found_set (found_of s (entity_of_part p)) (found (entity_view x.now))
IsKnownOf-prop s p Lacking = found_set (found_of s (entity_of_part p)) not_there
IsKnownOf-prop s p Nothing = hlevel
