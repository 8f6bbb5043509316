-- What stands for the variables of a request stands for that request alone.
use Rattle.std.specs.Prelude.{◌≡◌, Bool, true, false, ◌&&◌, Some, None, codes}
use Rattle.std.proofs.Common.{refl, ap, ◌∙◌}
use Rattle.std.proofs.lemmas.Bool.{and_parts}
use Rattle.std.proofs.lemmas.Slice.Eq.{bytes_eq-Decides}
use Rattle.cedar_model.specs.Terms.{Text, bool_literal, long_literal, text_literal, entity_literal, Variable, principal, action, resource, context, bool_type, long_type, string_type, set_type, record_type, entity_type, extension_type, literal, variable, slot, unknown, if_then_else, both, either, unary, binary, call, get_attribute, has_attribute, extended_has, like, is_of_type, set_of, record_of}
use Rattle.cedar_model.specs.Values.{plain_represented, set_represented, record_represented, extension_represented}
use Rattle.cedar_model.specs.Outcomes.{text_eq}
use Rattle.cedar_model.specs.Failures.{PartialValue, value, residual}
use Rattle.cedar_model.specs.Settings.{Entry, known_entry, unknown_entry, ContextPart, absent_context, known_context, residual_context, RequestPart, entry_part, context_value, variable_part, type_annotation}
use Rattle.cedar_names.specs.EqualityLaws.{text_eq-decides}
use Rattle.cedar_evaluator.specs.Variables.{entry_of, is_entry, context_of, is_context, request_given, are_of_request}

itself : (t : Text) → text_eq t t ≡ true
itself t = (bytes_eq-Decides t t).1 refl

pub entry_is : (name : Text) (p : PartialValue) → is_entry name p ≡ true → p ≡ entry_part (entry_of p) name
unfolding is_entry entry_of entry_part type_annotation
entry_is name (value (plain_represented (bool_literal b))) h = absurd (cc)
entry_is name (value (plain_represented (long_literal z))) h = absurd (cc)
entry_is name (value (plain_represented (text_literal t))) h = absurd (cc)
entry_is name (value (plain_represented (entity_literal e))) h = refl
entry_is name (value (set_represented vs)) h = absurd (cc)
entry_is name (value (record_represented fs)) h = absurd (cc)
entry_is name (value (extension_represented t k f ts)) h = absurd (cc)
entry_is name (residual (literal l)) h = absurd (cc)
entry_is name (residual (variable v)) h = absurd (cc)
entry_is name (residual (slot i)) h = absurd (cc)
entry_is name (residual (if_then_else c a b)) h = absurd (cc)
entry_is name (residual (both a b)) h = absurd (cc)
entry_is name (residual (either a b)) h = absurd (cc)
entry_is name (residual (unary op a)) h = absurd (cc)
entry_is name (residual (binary op a b)) h = absurd (cc)
entry_is name (residual (call f ts)) h = absurd (cc)
entry_is name (residual (get_attribute a k)) h = absurd (cc)
entry_is name (residual (has_attribute a k)) h = absurd (cc)
entry_is name (residual (extended_has a k ks)) h = absurd (cc)
entry_is name (residual (like a q)) h = absurd (cc)
entry_is name (residual (is_of_type a t)) h = absurd (cc)
entry_is name (residual (set_of ts)) h = absurd (cc)
entry_is name (residual (record_of fs)) h = absurd (cc)
entry_is name (residual (unknown n None)) h = ap (λ (x : Text). residual (unknown x None)) (((text_eq-decides n name).0) h)
entry_is name (residual (unknown n (Some bool_type))) h = absurd (cc)
entry_is name (residual (unknown n (Some long_type))) h = absurd (cc)
entry_is name (residual (unknown n (Some string_type))) h = absurd (cc)
entry_is name (residual (unknown n (Some set_type))) h = absurd (cc)
entry_is name (residual (unknown n (Some record_type))) h = absurd (cc)
entry_is name (residual (unknown n (Some (extension_type t)))) h = absurd (cc)
entry_is name (residual (unknown n (Some (entity_type t)))) h = ap (λ (x : Text). residual (unknown x (Some (entity_type t)))) (((text_eq-decides n name).0) h)

pub context_is : (p : PartialValue) → is_context p ≡ true → p ≡ context_value (context_of p)
unfolding is_context context_of context_value
context_is (value (plain_represented l)) h = absurd (cc)
context_is (value (set_represented vs)) h = absurd (cc)
context_is (value (extension_represented t k f ts)) h = absurd (cc)
context_is (value (record_represented fs)) h = refl
context_is (residual (literal l)) h = absurd (cc)
context_is (residual (variable v)) h = absurd (cc)
context_is (residual (slot i)) h = absurd (cc)
context_is (residual (if_then_else c a b)) h = absurd (cc)
context_is (residual (both a b)) h = absurd (cc)
context_is (residual (either a b)) h = absurd (cc)
context_is (residual (unary op a)) h = absurd (cc)
context_is (residual (binary op a b)) h = absurd (cc)
context_is (residual (call f ts)) h = absurd (cc)
context_is (residual (get_attribute a k)) h = absurd (cc)
context_is (residual (has_attribute a k)) h = absurd (cc)
context_is (residual (extended_has a k ks)) h = absurd (cc)
context_is (residual (like a q)) h = absurd (cc)
context_is (residual (is_of_type a t)) h = absurd (cc)
context_is (residual (set_of ts)) h = absurd (cc)
context_is (residual (record_of fs)) h = refl
context_is (residual (unknown n None)) h = ap (λ (x : Text). residual (unknown x None)) (((text_eq-decides n (codes "context")).0) h)
context_is (residual (unknown n (Some t))) h = absurd (cc)

part_is_entry : (e : Entry) (name : Text) → is_entry name (entry_part e name) ≡ true
unfolding is_entry entry_part type_annotation
part_is_entry (known_entry e) name = refl
part_is_entry (unknown_entry None) name = itself name
part_is_entry (unknown_entry (Some t)) name = itself name

part_of_entry : (e : Entry) (name : Text) → entry_of (entry_part e name) ≡ e
unfolding entry_of entry_part type_annotation
part_of_entry (known_entry e) name = refl
part_of_entry (unknown_entry None) name = refl
part_of_entry (unknown_entry (Some t)) name = refl

part_is_context : (c : ContextPart) → is_context (context_value c) ≡ true
unfolding is_context context_value
part_is_context absent_context = itself (codes "context")
part_is_context (known_context fs) = refl
part_is_context (residual_context fs) = refl

part_of_context : (c : ContextPart) → context_of (context_value c) ≡ c
unfolding context_of context_value
part_of_context absent_context = refl
part_of_context (known_context fs) = refl
part_of_context (residual_context fs) = refl

-- what stands for variables is what the request says of them
pub says : (given : Variable → PartialValue) → are_of_request given ≡ true → (v : Variable) → given v ≡ variable_part (request_given given) v
unfolding variable_part
says given h principal = entry_is (codes "principal") (given principal) (and_parts (is_entry (codes "principal") (given principal)) _ h).0
says given h action =
    entry_is (codes "action") (given action) (and_parts (is_entry (codes "action") (given action)) _ (and_parts (is_entry (codes "principal") (given principal)) _ h).1).0
says given h resource =
    entry_is (codes "resource") (given resource) (and_parts (is_entry (codes "resource") (given resource)) _ (and_parts (is_entry (codes "action") (given action)) _ (and_parts (is_entry (codes "principal") (given principal)) _ h).1).1).0
says given h context =
    context_is (given context) (and_parts (is_entry (codes "resource") (given resource)) _ (and_parts (is_entry (codes "action") (given action)) _ (and_parts (is_entry (codes "principal") (given principal)) _ h).1).1).1

all_four : (a b c d : Bool) → a ≡ true → b ≡ true → c ≡ true → d ≡ true → (a && (b && (c && d))) ≡ true
all_four true b c d p q r s = all_three b c d q r s
  where
    all_three : (b c d : Bool) → b ≡ true → c ≡ true → d ≡ true → (b && (c && d)) ≡ true
    all_three true true true q r s = refl
    all_three true true false q r s = absurd (cc)
    all_three true false d q r s = absurd (cc)
    all_three false c d q r s = absurd (cc)
all_four false b c d p q r s = absurd (cc)

-- what a request says of its variables stands for that request
pub of_request : (r : RequestPart) (given : Variable → PartialValue) → ((v : Variable) → given v ≡ variable_part r v) → are_of_request given ≡ true
unfolding variable_part
of_request r given h =
    all_four (is_entry (codes "principal") (given principal)) (is_entry (codes "action") (given action)) (is_entry (codes "resource") (given resource)) (is_context (given context))
    (ap (is_entry (codes "principal")) (h principal) ∙ part_is_entry r.principal_entry (codes "principal"))
    (ap (is_entry (codes "action")) (h action) ∙ part_is_entry r.action_entry (codes "action"))
    (ap (is_entry (codes "resource")) (h resource) ∙ part_is_entry r.resource_entry (codes "resource"))
    (ap is_context (h context) ∙ part_is_context r.context_part)

rebuilt : (p a r : Entry) (c : ContextPart) (q : RequestPart) → p ≡ q.principal_entry → a ≡ q.action_entry → r ≡ q.resource_entry → c ≡ q.context_part →
    record { principal_entry = p; action_entry = a; resource_entry = r; context_part = c } ≡ q
rebuilt p a r c q h i j k =
    ap (λ (x : Entry). record { principal_entry = x; action_entry = a; resource_entry = r; context_part = c }) h
    ∙ ap (λ (x : Entry). record { principal_entry = q.principal_entry; action_entry = x; resource_entry = r; context_part = c }) i
    ∙ ap (λ (x : Entry). record { principal_entry = q.principal_entry; action_entry = q.action_entry; resource_entry = x; context_part = c }) j
    ∙ ap (λ (x : ContextPart). record { principal_entry = q.principal_entry; action_entry = q.action_entry; resource_entry = q.resource_entry; context_part = x }) k

-- and for no other
pub that_request : (r : RequestPart) (given : Variable → PartialValue) → ((v : Variable) → given v ≡ variable_part r v) → request_given given ≡ r
unfolding variable_part
that_request r given h =
    rebuilt (entry_of (given principal)) (entry_of (given action)) (entry_of (given resource)) (context_of (given context)) r
    (ap entry_of (h principal) ∙ part_of_entry r.principal_entry (codes "principal"))
    (ap entry_of (h action) ∙ part_of_entry r.action_entry (codes "action"))
    (ap entry_of (h resource) ∙ part_of_entry r.resource_entry (codes "resource"))
    (ap context_of (h context) ∙ part_of_context r.context_part)

module _ (r : RequestPart) (p a s c : PartialValue) (in_p : p ≡ variable_part r principal) (in_a : a ≡ variable_part r action)
    (in_s : s ≡ variable_part r resource) (in_c : c ≡ variable_part r context) where
  abbrev four : Variable → PartialValue
  four principal = p
  four action = a
  four resource = s
  four context = c

  each : (v : Variable) → four v ≡ variable_part r v
  each principal = in_p
  each action = in_a
  each resource = in_s
  each context = in_c

  -- the four parts of a request are a request's
  pub four_of_request : (is_entry (codes "principal") p && (is_entry (codes "action") a && (is_entry (codes "resource") s && is_context c))) ≡ true
  four_of_request = of_request r four each

  -- and that request's
  pub four_that_request : record { principal_entry = entry_of p; action_entry = entry_of a; resource_entry = entry_of s; context_part = context_of c } ≡ r
  four_that_request = that_request r four each
