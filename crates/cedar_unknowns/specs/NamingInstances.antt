-- An instance of the premises on maps that name what is listed: a response to a request with an unknown principal and
-- an unknown in its context, of which a policy is left that waits for an unknown, for an entity that a partial store
-- lacked, and for the principal again.
use Rattle.std.specs.Prelude.{◌≡◌, Bool, true, false, cond, ◌||◌, List, [], ◌∷◌, Some, None, codes}
use Rattle.cedar_model.specs.Terms.{Text, Term, unknown, both, binary, in_operator, call, no_terms, one_term}
use Rattle.cedar_model.specs.Terms.{bool_type, entity_type, fields_of, bool_literal}
use Rattle.cedar_model.specs.Values.{plain_represented}
use Rattle.cedar_model.specs.Outcomes.{text_eq}
use Rattle.cedar_model.specs.Settings.{unknown_entry, known_entry, residual_context, missing_entity, printed_entity}
use Rattle.cedar_model.specs.Policies.{skip, permit}
use Rattle.cedar_model.specs.Responses.{reported_residual}
use Rattle.cedar_model.specs.Chains.{Mapping, Response}
use Rattle.cedar_model.specs.Progress.{NamesAll}
use Rattle.cedar_model.specs.Agreement.{NeverAsks}
use Rattle.cedar_model.specs.examples.Setting.{user, some_functions}
use Rattle.cedar_laws.specs.Faithful.{MapHoldsNoExtensionValue}
use Rattle.cedar_unknowns.specs.Occurrences.{each_once}
use Rattle.cedar_unknowns.specs.Entities.{entities_asked, others_asked}
use Rattle.cedar_unknowns.specs.Naming.{NamesListed, response_occurrences}

abbrev waiting_principal : Term
waiting_principal = unknown (codes "principal") (Some (entity_type (codes "User")))

-- `unknown("x") && (unknown("principal") in User::"e" && even(unknown("x")))`, where `User::"e"` is missing
abbrev pub waiting_condition : Term
waiting_condition =
    both (unknown (codes "x") (Some bool_type))
    (both (binary in_operator waiting_principal (missing_entity (user (codes "e"))))
    (call (codes "even") (one_term (unknown (codes "x") None) no_terms)))

abbrev pub waiting_response : Response
waiting_response = record {
  mode = skip;
  request =
      record {
        principal_entry = unknown_entry (Some (codes "User"));
        action_entry = known_entry (user (codes "act"));
        resource_entry = known_entry (user (codes "r"));
        context_part = residual_context (fields_of ((codes "test", unknown (codes "name") (Some bool_type)) ∷ []));
      };
  rows =
      record { id = codes "p"; effect = permit; annotations = []; reported = reported_residual waiting_condition } ∷ [];
  errors = [];
}

-- the principal, the unknown of the context, and `x` with each annotation; and the entity
abbrev pub WaitingIsListed : Type 0
WaitingIsListed =
    (others_asked (each_once (response_occurrences waiting_response))
    ≡ (codes "principal", Some (entity_type (codes "User"))) ∷ (codes "name", Some bool_type)
    ∷ (codes "x", Some bool_type) ∷ (codes "x", None) ∷ [])
    × (entities_asked (each_once (response_occurrences waiting_response)) ≡ user (codes "e") ∷ [])

-- whether the name is one of these
abbrev pub is_of : Text → List Text → Bool
is_of n [] = false
is_of n (k ∷ ks) = text_eq n k || is_of n ks

-- their names
abbrev pub waiting_names : List Text
waiting_names = codes "principal" ∷ codes "name" ∷ codes "x" ∷ printed_entity (user (codes "e")) ∷ []

-- a map that has a value for each, and for no other
abbrev pub naming_map : Mapping
naming_map n = cond (is_of n waiting_names) (Some (plain_represented (bool_literal true))) None

-- it names all that is listed, its values hold no extension value, no function asks, and so it is what progress asks
-- for
abbrev pub WaitingIsNamed : Type 0
WaitingIsNamed =
    NamesListed naming_map (response_occurrences waiting_response) × MapHoldsNoExtensionValue naming_map
    × ((f : Text) → NeverAsks some_functions f) × NamesAll some_functions naming_map waiting_response
