-- Where no part is at fault, the rest is the whole.
use Rattle.std.proofs.Common.{◌≡◌, ◌∙◌, Bool, true, false, cond, ◌&&◌, Option, None, Some, is_some, refl, sym, ap}
use Rattle.std.proofs.lemmas.Bool.{and_parts}
use Rattle.cedar_model.specs.Terms.{Text, Literal, bool_literal, long_literal, text_literal, entity_literal, ValueType}
use Rattle.cedar_model.specs.Terms.{not_operator, neg_operator, is_empty_operator}
use Rattle.cedar_model.specs.Terms.{BinaryOperator, eq_operator, less_operator, less_eq_operator, add_operator}
use Rattle.cedar_model.specs.Terms.{sub_operator, mul_operator, in_operator, contains_operator, contains_all_operator}
use Rattle.cedar_model.specs.Terms.{contains_any_operator, get_tag_operator, has_tag_operator, Term, literal, variable}
use Rattle.cedar_model.specs.Terms.{slot, unknown, if_then_else, both, either, unary, binary, call, get_attribute}
use Rattle.cedar_model.specs.Terms.{has_attribute, extended_has, like, is_of_type, set_of, record_of}
use Rattle.cedar_model.specs.Outcomes.{text_eq}
use Rattle.cedar_names.specs.Equality.{annotation_eq}
use Rattle.cedar_names.specs.EqualityLaws.{text_eq-decides, annotation_eq-decides}
use Rattle.cedar_filter.specs.Simplifying.{known_literal, literal_truth}
use Rattle.cedar_filter.specs.Faults.{earlier, unless, is_uid, path_fault, operand_fault, binary_fault}
use Rattle.cedar_filter.specs.Faults.{condition_fault, untrue, literal_if_uid, behind_operator, literal_or, kept_path}
use Rattle.cedar_filter.specs.Faults.{kept_operand, kept_binary, kept_condition}
use Rattle.cedar_filter.proofs.Same.{known_is}

first_faultless : (o p : Option Term) → earlier o p ≡ None → o ≡ None
first_faultless None p is = refl
first_faultless (Some t) p is = absurd (cc)

second_faultless : (o p : Option Term) → earlier o p ≡ None → p ≡ None
second_faultless None p is = is
second_faultless (Some t) p is = absurd (cc)

fits : (b : Bool) (t : Term) → unless b t ≡ None → b ≡ true
fits true t is = refl
fits false t is = absurd (cc)

none_is : {A : Type 0} (t : Term) → Some t ≡ None → A
none_is t is = absurd (cc)

kept_truth : (b : Bool) (t u : Term) → unless b t ≡ None → cond b t u ≡ t
kept_truth true t u is = refl
kept_truth false t u is = absurd (cc)

-- a known literal is the whole
behind_known : (op : BinaryOperator) (s t : Term) → unless (is_some (known_literal t)) t ≡ None →
    behind_operator op s (known_literal t) ≡ binary op s t
behind_known op s t is = by (known_literal t) refl (fits (is_some (known_literal t)) t is)
  where
    by : (o : Option Literal) → known_literal t ≡ o → is_some o ≡ true → behind_operator op s o ≡ binary op s t
    by None known some = absurd (cc)
    by (Some l) known some = ap (binary op s) (sym (known_is t l known))

uid_kept : (o : Option Literal) → is_uid o ≡ true → literal_if_uid o ≡ o
uid_kept None is = absurd (cc)
uid_kept (Some (bool_literal b)) is = absurd (cc)
uid_kept (Some (long_literal m)) is = absurd (cc)
uid_kept (Some (text_literal t)) is = absurd (cc)
uid_kept (Some (entity_literal e)) is = refl

uid_some : (o : Option Literal) → is_uid o ≡ true → is_some o ≡ true
uid_some None is = absurd (cc)
uid_some (Some l) is = refl

whole : (b : Bool) (t : Term) → b ≡ true → unless b t ≡ None
whole true t is = refl
whole false t is = absurd (cc)

module _ (n : Text) (a : Option ValueType) where
  the_row : (m : Text) (b : Option ValueType) → unless (text_eq m n && annotation_eq b a) (unknown m b) ≡ None →
      unknown n a ≡ unknown m b
  the_row m b is =
      let parts = and_parts (text_eq m n) (annotation_eq b a) (fits (text_eq m n && annotation_eq b a) (unknown m b) is) in
      λ i. unknown (sym ((text_eq-decides m n).0 parts.0) i) (sym ((annotation_eq-decides b a).0 parts.1) i)

  path_kept : (t : Term) → path_fault n a t ≡ None → kept_path n a t ≡ t
  path_kept (literal l) is = none_is (literal l) is
  path_kept (variable v) is = none_is (variable v) is
  path_kept (slot s) is = none_is (slot s) is
  path_kept (unknown m b) is = the_row m b is
  path_kept (if_then_else c s t) is = none_is (if_then_else c s t) is
  path_kept (both s t) is = none_is (both s t) is
  path_kept (either s t) is = none_is (either s t) is
  path_kept (unary op t) is = none_is (unary op t) is
  path_kept (binary op s t) is = none_is (binary op s t) is
  path_kept (call f ts) is = none_is (call f ts) is
  path_kept (get_attribute t k) is = λ i. get_attribute (path_kept t is i) k
  path_kept (has_attribute t k) is = none_is (has_attribute t k) is
  path_kept (extended_has t k ks) is = none_is (extended_has t k ks) is
  path_kept (like t p) is = none_is (like t p) is
  path_kept (is_of_type t u) is = none_is (is_of_type t u) is
  path_kept (set_of ts) is = none_is (set_of ts) is
  path_kept (record_of fs) is = none_is (record_of fs) is

  operand_kept : (t : Term) → operand_fault n a t ≡ None → kept_operand n a t ≡ t
  operand_kept t is = by (known_literal t) refl is
    where
      by : (o : Option Literal) → known_literal t ≡ o → cond (is_some o) None (path_fault n a t) ≡ None →
          literal_or o (kept_path n a t) ≡ t
      by None known fault = path_kept t fault
      by (Some l) known fault = sym (known_is t l known)

  compared_kept : (op : BinaryOperator) (s t : Term) → earlier (operand_fault n a s) (operand_fault n a t) ≡ None →
      binary op (kept_operand n a s) (kept_operand n a t) ≡ binary op s t
  compared_kept op s t is =
      λ i. binary op (operand_kept s (first_faultless (operand_fault n a s) (operand_fault n a t) is) i)
      (operand_kept t (second_faultless (operand_fault n a s) (operand_fault n a t) is) i)

  binary_kept : (op : BinaryOperator) (s t : Term) → binary_fault n a op s t ≡ None → kept_binary n a op s t ≡ binary op s t
  binary_kept eq_operator s t is = compared_kept eq_operator s t is
  binary_kept less_operator s t is = compared_kept less_operator s t is
  binary_kept less_eq_operator s t is = compared_kept less_eq_operator s t is
  binary_kept add_operator s t is = none_is (binary add_operator s t) is
  binary_kept sub_operator s t is = none_is (binary sub_operator s t) is
  binary_kept mul_operator s t is = none_is (binary mul_operator s t) is
  binary_kept in_operator s t is =
      let other = fits (is_uid (known_literal t)) t (second_faultless (path_fault n a s) (unless (is_uid (known_literal t)) t) is) in
      ap (behind_operator in_operator (kept_path n a s)) (uid_kept (known_literal t) other)
      ∙ behind_known in_operator (kept_path n a s) t (whole (is_some (known_literal t)) t (uid_some (known_literal t) other))
      ∙ ap (λ (p : Term). binary in_operator p t) (path_kept s (first_faultless (path_fault n a s) (unless (is_uid (known_literal t)) t) is))
  binary_kept contains_operator s t is =
      behind_known contains_operator (kept_path n a s) t (second_faultless (path_fault n a s) (unless (is_some (known_literal t)) t) is)
      ∙ ap (λ (p : Term). binary contains_operator p t) (path_kept s (first_faultless (path_fault n a s) (unless (is_some (known_literal t)) t) is))
  binary_kept contains_all_operator s t is = none_is (binary contains_all_operator s t) is
  binary_kept contains_any_operator s t is = none_is (binary contains_any_operator s t) is
  binary_kept get_tag_operator s t is = none_is (binary get_tag_operator s t) is
  binary_kept has_tag_operator s t is = none_is (binary has_tag_operator s t) is

  pub condition_kept : (t : Term) → condition_fault n a t ≡ None → kept_condition n a t ≡ t
  condition_kept (literal l) is = kept_truth (is_some (literal_truth l)) (literal l) untrue is
  condition_kept (variable v) is = none_is (variable v) is
  condition_kept (slot s) is = none_is (slot s) is
  condition_kept (unknown m b) is = none_is (unknown m b) is
  condition_kept (if_then_else c s t) is =
      let rest = second_faultless (condition_fault n a c) (earlier (condition_fault n a s) (condition_fault n a t)) is in
      let at_c = condition_kept c (first_faultless (condition_fault n a c) (earlier (condition_fault n a s) (condition_fault n a t)) is) in
      let at_s = condition_kept s (first_faultless (condition_fault n a s) (condition_fault n a t) rest) in
      let at_t = condition_kept t (second_faultless (condition_fault n a s) (condition_fault n a t) rest) in
      λ i. if_then_else (at_c i) (at_s i) (at_t i)
  condition_kept (both s t) is =
      λ i. both (condition_kept s (first_faultless (condition_fault n a s) (condition_fault n a t) is) i)
      (condition_kept t (second_faultless (condition_fault n a s) (condition_fault n a t) is) i)
  condition_kept (either s t) is =
      λ i. either (condition_kept s (first_faultless (condition_fault n a s) (condition_fault n a t) is) i)
      (condition_kept t (second_faultless (condition_fault n a s) (condition_fault n a t) is) i)
  condition_kept (unary not_operator t) is = ap (unary not_operator) (condition_kept t is)
  condition_kept (unary neg_operator t) is = none_is (unary neg_operator t) is
  condition_kept (unary is_empty_operator t) is = none_is (unary is_empty_operator t) is
  condition_kept (binary op s t) is = binary_kept op s t is
  condition_kept (call f ts) is = none_is (call f ts) is
  condition_kept (get_attribute t k) is = λ i. get_attribute (path_kept t is i) k
  condition_kept (has_attribute t k) is = λ i. has_attribute (path_kept t is i) k
  condition_kept (extended_has t k ks) is = none_is (extended_has t k ks) is
  condition_kept (like t p) is = λ i. like (path_kept t is i) p
  condition_kept (is_of_type t u) is = λ i. is_of_type (path_kept t is i) u
  condition_kept (set_of ts) is = none_is (set_of ts) is
  condition_kept (record_of fs) is = none_is (record_of fs) is
