-- What stands in a scope as `true` or as its variable is of one kind.
use Rattle.std.proofs.Common.{◌≡◌, false, Option, Some, None, refl}
use Rattle.cedar_model.specs.Terms.{Variable, Term, literal, variable, slot, unknown, if_then_else, both, either, unary}
use Rattle.cedar_model.specs.Terms.{binary, call, get_attribute, has_attribute, extended_has, like, is_of_type, set_of}
use Rattle.cedar_model.specs.Terms.{record_of}
use Rattle.cedar_expressions.specs.Readers.{IsNoLiteral, IsNoVariable}
use Rattle.cedar_model.specs.World.{Slots}
use Rattle.cedar_text_printer.specs.Kinds.{and_parts, binary_parts, type_test_part, set_parts}
use Rattle.cedar_text_printer.specs.Scopes.{is_true, is_variable, is_entity_set, are_all_entities, is_type_test, is_typed_variable}
use Rattle.cedar_text_printer.specs.Scopes.{is_in_test, are_in, is_plain, are_plain, is_typed, are_typed}

pub no_literal : (t : Term) → IsNoLiteral t → is_true t ≡ false
no_literal (literal l) h = absurd (h l refl)
no_literal (variable w) h = refl
no_literal (slot i) h = refl
no_literal (unknown n ty) h = refl
no_literal (if_then_else c a b) h = refl
no_literal (both a b) h = refl
no_literal (either a b) h = refl
no_literal (unary op a) h = refl
no_literal (binary op a b) h = refl
no_literal (call f ts) h = refl
no_literal (get_attribute a k) h = refl
no_literal (has_attribute a k) h = refl
no_literal (extended_has a k ks) h = refl
no_literal (like a p) h = refl
no_literal (is_of_type a ty) h = refl
no_literal (set_of ts) h = refl
no_literal (record_of fs) h = refl

pub no_variable : (v : Variable) (t : Term) → IsNoVariable t → is_variable v t ≡ false
no_variable v (literal l) h = refl
no_variable v (variable w) h = absurd (h w refl)
no_variable v (slot i) h = refl
no_variable v (unknown n ty) h = refl
no_variable v (if_then_else c a b) h = refl
no_variable v (both a b) h = refl
no_variable v (either a b) h = refl
no_variable v (unary op a) h = refl
no_variable v (binary op a b) h = refl
no_variable v (call f ts) h = refl
no_variable v (get_attribute a k) h = refl
no_variable v (has_attribute a k) h = refl
no_variable v (extended_has a k ks) h = refl
no_variable v (like a p) h = refl
no_variable v (is_of_type a ty) h = refl
no_variable v (set_of ts) h = refl
no_variable v (record_of fs) h = refl

-- what is read of the parts, or this where there are none
abbrev pub of_parts : {A B : Type 0} → B → (A → B) → Option A → B
of_parts other f None = other
of_parts other f (Some x) = f x

pub entity_set_parts : (s : Slots) (v : Variable) (t : Term)
    → is_entity_set s v t ≡ of_parts false (are_all_entities s v) (set_parts t)
entity_set_parts s v (set_of ts) = refl
entity_set_parts s v t = refl

pub type_test_parts : (v : Variable) (t : Term) → is_type_test v t ≡ of_parts false (is_typed_variable v) (type_test_part t)
type_test_parts v (is_of_type e ty) = refl
type_test_parts v t = refl

pub in_test_parts : (s : Slots) (v : Variable) (t : Term)
    → is_in_test s v t ≡ of_parts false (λ p. are_in s v p.0 p.1 p.2) (binary_parts t)
in_test_parts s v (binary op a b) = refl
in_test_parts s v t = refl

pub plain_parts : (s : Slots) (v : Variable) (t : Term)
    → is_plain s v t ≡ of_parts (is_type_test v t) (λ p. are_plain s v p.0 p.1 p.2) (binary_parts t)
plain_parts s v (binary op a b) = refl
plain_parts s v (is_of_type e ty) = refl
plain_parts s v t = refl

pub typed_parts : (s : Slots) (v : Variable) (t : Term)
    → is_typed s v t ≡ of_parts false (λ p. are_typed s v p.0 p.1) (and_parts t)
typed_parts s v (both a b) = refl
typed_parts s v t = refl
