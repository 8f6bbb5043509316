-- How extension values compare.
use Rattle.std.specs.Prelude.{ℕ, List, [], map, Option, Some, None, cond}
use Rattle.std.specs.declared.cmp.Ordering.{Ordering}
use Rattle.std.specs.Ordering.{nat_cmp}
use Rattle.std.specs.Cmp.Lexicographic.{slice_cmp}
use Rattle.cedar_model.specs.Terms.{Text, long_type, extension_type}
use Rattle.cedar_model.specs.Values.{AbstractValue, plain, set_value, record_value, extension_value, abstract_value}
use Rattle.cedar_model.specs.Meaning.{comparison}
use Rattle.cedar_model.specs.Failures.{Failure, wrong_type}
use Rattle.cedar_model.specs.Operators.{comparison_failure}
use Rattle.cedar_model.specs.Outcomes.{text_eq, has_text}
use Rattle.cedar_model.specs.World.{Extensions}
use Rattle.cedar_names.specs.Names.{name_text}
use Rattle.cedar_values.specs.Sound.{Placed}
use Rattle.cedar_extensions.specs.declared.extensions.Extensions as extensions
use Rattle.cedar_extensions.specs.Extensions.{extensions_view}
use Rattle.cedar_values.specs.declared.extension_value.ExtensionValue.{ExtensionValue}

-- the type and the key of an extension value
abbrev pub compared_as : ExtensionValue → Text × List ℕ
compared_as e = (name_text e.typename, e.key.items)

-- those of an extension value whose type is overloaded
abbrev pub compared_by : Extensions → AbstractValue → Option (Text × List ℕ)
compared_by X (plain l) = None
compared_by X (set_value vs) = None
compared_by X (record_value fs) = None
compared_by X (extension_value t k) = cond (has_text t X.overloaded) (Some (t, k)) None

-- two of one type compare by their keys
abbrev pub keys_order : Option (Text × List ℕ) → Option (Text × List ℕ) → Option Ordering
keys_order (Some p) (Some q) = cond (text_eq p.0 q.0) (Some (slice_cmp nat_cmp p.1 q.1)) None
keys_order (Some p) None = None
keys_order None q = None

-- ---- of values over extensions

abbrev pub compared_in : {X : Type 0} {F : X → Type 0} {g : _} → extensions.Extensions X F g → Placed
    → Option (Text × List ℕ)
compared_in x v = compared_by (extensions_view x) (abstract_value v.what)

-- how `<` compares two values, if it does
abbrev pub ordering : {X : Type 0} {F : X → Type 0} {g : _} → extensions.Extensions X F g → Placed → Placed
    → Option Ordering
ordering x v w = comparison (extensions_view x) (abstract_value v.what) (abstract_value w.what)

-- the error where it does not
abbrev pub ordering_failure : {X : Type 0} {F : X → Type 0} {g : _} → extensions.Extensions X F g → Placed → Placed
    → Failure
ordering_failure x v w = comparison_failure (extensions_view x) (abstract_value v.what) (abstract_value w.what)

-- the value is neither a long nor of an overloaded type
abbrev pub none_comparable : {X : Type 0} {F : X → Type 0} {g : _} → extensions.Extensions X F g → Placed → Failure
none_comparable x v = wrong_type long_type (map extension_type (extensions_view x).overloaded) (abstract_value v.what)

-- the value is not of the type of this extension value
abbrev pub not_of_type : ExtensionValue → Placed → Failure
not_of_type e v = wrong_type (extension_type (name_text e.typename)) [] (abstract_value v.what)
