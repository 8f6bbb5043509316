-- Types are equal where they are the same.
use Rattle.std.specs.Prelude.{◌≡◌, true, false, Bool}
use Rattle.std.proofs.Common.{refl, ap, sym, ◌∙◌}
use Rattle.std.specs.Bool.{Decides}
use Rattle.std.proofs.lemmas.Slice.Eq.{bytes_eq-Decides}
use Rattle.cedar_model.specs.Terms.{ValueType, bool_type, long_type, string_type, set_type, record_type, entity_type, extension_type}
use Rattle.cedar_model.specs.Outcomes.{type_eq}

same_type : (a b : ValueType) → type_eq a b ≡ true → a ≡ b
unfolding type_eq
same_type bool_type bool_type h = refl
same_type bool_type long_type h = absurd (cc)
same_type bool_type string_type h = absurd (cc)
same_type bool_type set_type h = absurd (cc)
same_type bool_type record_type h = absurd (cc)
same_type bool_type (entity_type t) h = absurd (cc)
same_type bool_type (extension_type t) h = absurd (cc)
same_type long_type bool_type h = absurd (cc)
same_type long_type long_type h = refl
same_type long_type string_type h = absurd (cc)
same_type long_type set_type h = absurd (cc)
same_type long_type record_type h = absurd (cc)
same_type long_type (entity_type t) h = absurd (cc)
same_type long_type (extension_type t) h = absurd (cc)
same_type string_type bool_type h = absurd (cc)
same_type string_type long_type h = absurd (cc)
same_type string_type string_type h = refl
same_type string_type set_type h = absurd (cc)
same_type string_type record_type h = absurd (cc)
same_type string_type (entity_type t) h = absurd (cc)
same_type string_type (extension_type t) h = absurd (cc)
same_type set_type bool_type h = absurd (cc)
same_type set_type long_type h = absurd (cc)
same_type set_type string_type h = absurd (cc)
same_type set_type set_type h = refl
same_type set_type record_type h = absurd (cc)
same_type set_type (entity_type t) h = absurd (cc)
same_type set_type (extension_type t) h = absurd (cc)
same_type record_type bool_type h = absurd (cc)
same_type record_type long_type h = absurd (cc)
same_type record_type string_type h = absurd (cc)
same_type record_type set_type h = absurd (cc)
same_type record_type record_type h = refl
same_type record_type (entity_type t) h = absurd (cc)
same_type record_type (extension_type t) h = absurd (cc)
same_type (entity_type s) bool_type h = absurd (cc)
same_type (entity_type s) long_type h = absurd (cc)
same_type (entity_type s) string_type h = absurd (cc)
same_type (entity_type s) set_type h = absurd (cc)
same_type (entity_type s) record_type h = absurd (cc)
same_type (entity_type s) (entity_type t) h = ap entity_type ((bytes_eq-Decides s t).0 h)
same_type (entity_type s) (extension_type t) h = absurd (cc)
same_type (extension_type s) bool_type h = absurd (cc)
same_type (extension_type s) long_type h = absurd (cc)
same_type (extension_type s) string_type h = absurd (cc)
same_type (extension_type s) set_type h = absurd (cc)
same_type (extension_type s) record_type h = absurd (cc)
same_type (extension_type s) (entity_type t) h = absurd (cc)
same_type (extension_type s) (extension_type t) h = ap extension_type ((bytes_eq-Decides s t).0 h)

is_same : (t : ValueType) → type_eq t t ≡ true
unfolding type_eq
is_same bool_type = refl
is_same long_type = refl
is_same string_type = refl
is_same set_type = refl
is_same record_type = refl
is_same (entity_type t) = (bytes_eq-Decides t t).1 refl
is_same (extension_type t) = (bytes_eq-Decides t t).1 refl

-- what decides whether two types are the same is `type_eq`
pub decided_type : (r : Bool) (a b : ValueType) → Decides r (a ≡ b) → r ≡ type_eq a b
decided_type true a b d = sym (ap (type_eq a) (sym (d.0 refl)) ∙ is_same a)
decided_type false a b d = undecided (type_eq a b) refl
  where
    undecided : (q : Bool) → type_eq a b ≡ q → false ≡ q
    undecided true is = d.1 (same_type a b is)
    undecided false is = refl
