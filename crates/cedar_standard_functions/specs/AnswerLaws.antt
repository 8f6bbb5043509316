-- What functions of texts and keys answer is lawful.
use Rattle.std.specs.Prelude.{◌≡◌, ◌≢◌, ◌≤◌, ℕ, List, [], Option, None, Some}
use Rattle.std.proofs.Common.{refl, subst, arith}
use Rattle.cedar_model.specs.Terms.{Text, Literal, ValueType, string_type, extension_type}
use Rattle.cedar_model.specs.Values.{AbstractValue, Represented, plain_represented, expression_of}
use Rattle.cedar_model.specs.Outcomes.{text_of}
use Rattle.cedar_model.specs.Failures.{Failure, out_of_memory, wrong_type, function_has_failed}
use Rattle.cedar_model.specs.Failures.{PartialValue, value, Answer, answers, fails, limit, answers_value, part_expression}
use Rattle.cedar_model.specs.Agreement.{height}
use Rattle.cedar_model.specs.Operators.{expecting}
use Rattle.cedar_model.specs.Restricted.{IsSound, IsSoundPart}
use Rattle.cedar_model.specs.laws.Restricted.{HoldsUnknown}
use Rattle.cedar_extension_values.specs.Arguments.{key_in, first_of, second_of}
use Rattle.cedar_extension_values.specs.Functions.{of_key, of_keys, written_or_failed, of_constructor}
use Rattle.cedar_extension_values.specs.Written.{constructed}
use Rattle.cedar_standard_functions.specs.Laws.{IsLawful}

part_inj : {p q : PartialValue} → answers p ≡ answers q → p ≡ q
part_inj e = cc

-- a sound value that is written in at most three levels
pub value_is_lawful : (v : Represented) → IsSound v → height (expression_of v) ≤ 3 → IsLawful (answers_value v)
unfolding part_expression
value_is_lawful v sound low =
    record {
      meets_no_limit = λ e. let d : ⊥ = cc e in d;
      finds_memory = λ e. let d : ⊥ = cc e in d;
      sound = λ p e. subst IsSoundPart (part_inj {p = value v} {q = p} e) sound;
      known = λ p e. subst HoldsUnknown (part_inj {p = value v} {q = p} e) tt;
      low = λ p e. subst (λ q. height (part_expression q) ≤ 3) (part_inj {p = value v} {q = p} e) low;
    }

-- an error of another kind
pub failure_is_lawful : (e : Failure) → fails e ≢ limit → fails e ≢ fails out_of_memory → IsLawful (fails e)
failure_is_lawful e no_limit never_out_of_memory =
    record {
      meets_no_limit = no_limit;
      finds_memory = never_out_of_memory;
      sound = λ p h. let d : ⊥ = cc h in absurd d;
      known = λ p h. let d : ⊥ = cc h in absurd d;
      low = λ p h. let d : ⊥ = cc h in absurd d;
    }

pub wrong_type_is_lawful : (t : ValueType) (v : AbstractValue) → IsLawful (fails (wrong_type t [] v))
wrong_type_is_lawful t v =
    failure_is_lawful (wrong_type t [] v) (λ e. let d : ⊥ = cc e in d) (λ e. let d : ⊥ = cc e in d)

pub failed_is_lawful : (extension message : Text) → IsLawful (fails (function_has_failed extension message))
failed_is_lawful extension message =
    failure_is_lawful (function_has_failed extension message) (λ e. let d : ⊥ = cc e in d)
    (λ e. let d : ⊥ = cc e in d)

pub expecting_is_lawful : {A : Type 0} (o : Option A) (e : Failure) (next : A → Answer) → IsLawful (fails e)
    → ((x : A) → IsLawful (next x)) → IsLawful (expecting o e next)
unfolding expecting
expecting_is_lawful None e next wrong h = wrong
expecting_is_lawful (Some x) e next wrong h = h x

-- ---- functions of keys

pub of_key_is_lawful : (t : Text) (next : List ℕ → Answer) → ((k : List ℕ) → IsLawful (next k))
    → (vs : List AbstractValue) → IsLawful (of_key t next vs)
of_key_is_lawful t next h vs =
    expecting_is_lawful (key_in t (first_of vs)) (wrong_type (extension_type t) [] (first_of vs)) next
    (wrong_type_is_lawful (extension_type t) (first_of vs)) h

pub of_keys_is_lawful : (t u : Text) (next : List ℕ → List ℕ → Answer) → ((k l : List ℕ) → IsLawful (next k l))
    → (vs : List AbstractValue) → IsLawful (of_keys t u next vs)
of_keys_is_lawful t u next h vs =
    expecting_is_lawful (key_in t (first_of vs)) (wrong_type (extension_type t) [] (first_of vs))
    (λ k. expecting (key_in u (second_of vs)) (wrong_type (extension_type u) [] (second_of vs)) (next k))
    (wrong_type_is_lawful (extension_type t) (first_of vs))
    (λ k. expecting_is_lawful (key_in u (second_of vs)) (wrong_type (extension_type u) [] (second_of vs)) (next k)
    (wrong_type_is_lawful (extension_type u) (second_of vs)) (h k))

-- ---- constructors

written_is_lawful : (t f extension message text : Text) (k : Option (List ℕ))
    → IsLawful (written_or_failed t f (function_has_failed extension message) text k)
unfolding written_or_failed
written_is_lawful t f x m text None = failed_is_lawful x m
written_is_lawful t f x m text (Some k) = value_is_lawful (constructed t k f text) (refl, refl) (omega arith)

pub constructor_is_lawful : (t f extension message : Text) (key_of : Text → Option (List ℕ)) (vs : List AbstractValue)
    → IsLawful (of_constructor t f (function_has_failed extension message) key_of vs)
constructor_is_lawful t f x m key_of vs =
    expecting_is_lawful (text_of (first_of vs)) (wrong_type string_type [] (first_of vs))
    (λ text. written_or_failed t f (function_has_failed x m) text (key_of text))
    (wrong_type_is_lawful string_type (first_of vs))
    (λ text. written_is_lawful t f x m text (key_of text))

pub literal_is_lawful : (l : Literal) → IsLawful (answers_value (plain_represented l))
literal_is_lawful l = value_is_lawful (plain_represented l) tt (omega arith)
