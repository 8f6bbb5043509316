-- What the operators are given, as plain data, and which operators there are.
use Rattle.std.specs.Prelude.{ℤ, ◌+ℤ◌, ◌-ℤ◌, ◌*ℤ◌, Bool, true, false, ◌||◌, [], ◌∷◌, Option, Some, None}
use Rattle.cedar_model.specs.Terms.{EntityName, set_type, BinaryOperator, eq_operator, less_operator, less_eq_operator}
use Rattle.cedar_model.specs.Terms.{add_operator, sub_operator, mul_operator, in_operator, contains_operator}
use Rattle.cedar_model.specs.Terms.{contains_all_operator, contains_any_operator, get_tag_operator, has_tag_operator}
use Rattle.cedar_model.specs.Values.{AbstractValue, AbstractValues, Represented, abstract_value}
use Rattle.cedar_model.specs.Outcomes.{elements_of, entity_eq}
use Rattle.cedar_model.specs.World as model
use Rattle.cedar_model.specs.Meaning.{entities_of, entities_of_set, some_entity}
use Rattle.cedar_model.specs.Failures.{Failure, any_entity, wrong_type, Answer, answers_bool}
use Rattle.cedar_model.specs.Operators.{expecting, element_failure, entities_failure}
use Rattle.cedar_model.specs.Settings.{Store, StoredEntity, Setting, is_among}

-- the setting, but with these extensions
abbrev pub with_extensions : Setting → model.Extensions → Setting
with_extensions s x =
    record {
      request = s.request;
      store = s.store;
      map = s.map;
      slots = s.slots;
      extensions = x;
      resolution = s.resolution;
    }

-- the setting, but over this store, and without a map of unknowns
abbrev pub over : Setting → Store → Setting
over s store =
    record {
      request = s.request;
      store = store;
      map = λ n. None;
      slots = s.slots;
      extensions = s.extensions;
      resolution = s.resolution;
    }

-- the setting, but over this store, with these extensions and without a map of unknowns
abbrev pub given : Setting → Store → model.Extensions → Setting
given s store x = over (with_extensions s x) store

-- `==`, `<` and `<=`
abbrev pub is_relation : BinaryOperator → Bool
is_relation eq_operator = true
is_relation less_operator = true
is_relation less_eq_operator = true
is_relation add_operator = false
is_relation sub_operator = false
is_relation mul_operator = false
is_relation in_operator = false
is_relation contains_operator = false
is_relation contains_all_operator = false
is_relation contains_any_operator = false
is_relation get_tag_operator = false
is_relation has_tag_operator = false

-- `+`, `-` and `*`
abbrev pub is_arithmetic : BinaryOperator → Bool
is_arithmetic eq_operator = false
is_arithmetic less_operator = false
is_arithmetic less_eq_operator = false
is_arithmetic add_operator = true
is_arithmetic sub_operator = true
is_arithmetic mul_operator = true
is_arithmetic in_operator = false
is_arithmetic contains_operator = false
is_arithmetic contains_all_operator = false
is_arithmetic contains_any_operator = false
is_arithmetic get_tag_operator = false
is_arithmetic has_tag_operator = false

-- what arithmetic computes; of another operator it says nothing
abbrev pub arithmetic_of : BinaryOperator → ℤ → ℤ → ℤ
arithmetic_of add_operator m n = m +ℤ n
arithmetic_of sub_operator m n = m -ℤ n
arithmetic_of mul_operator m n = m *ℤ n
arithmetic_of eq_operator m n = m
arithmetic_of less_operator m n = m
arithmetic_of less_eq_operator m n = m
arithmetic_of in_operator m n = m
arithmetic_of contains_operator m n = m
arithmetic_of contains_all_operator m n = m
arithmetic_of contains_any_operator m n = m
arithmetic_of get_tag_operator m n = m
arithmetic_of has_tag_operator m n = m

-- whether the entity equals the other or, where its facts are known, has it among its ancestors
abbrev pub is_within : EntityName → Option StoredEntity → EntityName → Bool
is_within d None e = entity_eq d e
is_within d (Some x) e = entity_eq d e || is_among e x.ancestors

-- whether the test holds of one of a set's elements, or the error for the first that is no entity
abbrev pub element_answer : (EntityName → Bool) → Failure → AbstractValues → Answer
element_answer test failure vs =
    expecting (entities_of_set vs) (element_failure vs failure) (λ es. answers_bool (some_entity test es))

-- what stands to the right of `in` is no set of entities
abbrev pub right_expected : AbstractValue → Failure
right_expected v = wrong_type set_type (any_entity ∷ []) v

-- whether the test holds of an entity on the right of `in`
abbrev pub right_answer : (EntityName → Bool) → Represented → Answer
right_answer test w =
    expecting (entities_of (abstract_value w)) (entities_failure (elements_of (abstract_value w)) (abstract_value w))
    (λ es. answers_bool (some_entity test es))
