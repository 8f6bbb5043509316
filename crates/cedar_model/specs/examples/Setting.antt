-- Worked examples: a request, two stores, and expressions with what they mean and may answer.
use Rattle.std.specs.Prelude.{◌≡◌, ℕ, pos, Bool, true, cond, List, [], ◌∷◌, Option, Some, None, codes}
use Rattle.cedar_model.specs.Terms.{Text, EntityName, bool_literal, long_literal, text_literal, entity_literal}
use Rattle.cedar_model.specs.Terms.{ValueType, Term, literal, unknown, set_of, terms_of}
use Rattle.cedar_model.specs.Values.{plain, Represented, plain_represented, no_represented_at}
use Rattle.cedar_model.specs.Outcomes.{text_eq, entity_eq}
use Rattle.cedar_model.specs.World.{Extensions, Functions, function_gives}
use Rattle.cedar_model.specs.Failures.{PartialValue, value, residual, answers_bool}
use Rattle.cedar_model.specs.Settings.{known_entry, known_context, StoredEntity, Store, shallow, Setting}
use Rattle.cedar_model.specs.Rules.{StoredCalls}
use Rattle.cedar_model.specs.Agreement.{no_slots}

abbrev pub entity_of_type : Text → Text → EntityName
entity_of_type t i = record { type_name = t; id = i }

abbrev pub user : Text → EntityName
user i = entity_of_type (codes "User") i

abbrev pub long : ℕ → Term
long n = literal (long_literal (pos n))

abbrev pub text : Text → Term
text t = literal (text_literal t)

abbrev pub entity : EntityName → Term
entity e = literal (entity_literal e)

abbrev pub bool : Bool → Term
bool b = literal (bool_literal b)

-- the untyped unknown x, and one that is annotated
abbrev pub x : Term
x = unknown (codes "x") None

abbrev pub x_of : ValueType → Term
x_of t = unknown (codes "x") (Some t)

-- ---- an entity with attributes, a tag and an ancestor

abbrev pub example_entity : EntityName
example_entity = entity_of_type (codes "E") (codes "e")

abbrev pub parent : EntityName
parent = user (codes "parent")

-- attributes a to g, of which `a` is 1, `f` is the unknown u, and `child` is the unknown c
abbrev pub some_attributes : List (Text × PartialValue)
some_attributes =
    (codes "a", value (plain_represented (long_literal (pos 1)))) ∷
    (codes "child", residual (unknown (codes "c") None)) ∷ (codes "f", residual (unknown (codes "u") None)) ∷
    (codes "g", residual (set_of (terms_of (unknown (codes "u") None ∷ [])))) ∷ []

abbrev pub some_facts : StoredEntity
some_facts = record {
  attributes = some_attributes;
  tags = (codes "t", residual (unknown (codes "v") None)) ∷ [];
  ancestors = parent ∷ [];
}

abbrev pub some_store : Bool → Store
some_store is_partial =
    record { entity = λ e. cond (entity_eq e example_entity) (Some some_facts) None; is_partial = is_partial }

-- u and v are mapped to 1
abbrev pub some_map : Text → Option Represented
some_map n =
    cond (text_eq n (codes "u")) (Some (plain_represented (long_literal (pos 1))))
    (cond (text_eq n (codes "v")) (Some (plain_represented (long_literal (pos 1)))) None)

-- one function, `even`, of one argument
abbrev pub some_extensions : Extensions
some_extensions =
    record { arity = λ f. cond (text_eq f (codes "even")) (Some 1) None; overloaded = codes "T" ∷ [] }

abbrev pub some_calls : StoredCalls
some_calls f vs a = a ≡ answers_bool true

abbrev pub some_functions : Functions
some_functions f vs = function_gives (plain (bool_literal true))

-- the request is known, with an empty context
abbrev pub some_setting : Bool → Setting
some_setting is_partial = record {
  request =
      record {
        principal_entry = known_entry (user (codes "u"));
        action_entry =
            known_entry (user (codes "act"));
        resource_entry = known_entry (user (codes "r"));
        context_part =
            known_context no_represented_at;
      };
  store = some_store is_partial;
  map = some_map;
  slots = no_slots;
  extensions = some_extensions;
  resolution = shallow;
}
