-- Functions of texts and of keys: what is answered is computed, asks nothing, and is faithful.
use Rattle.std.specs.Prelude.{◌≡◌, ◌≢◌, ℕ, List, [], ◌∷◌, Option, None, Some}
use Rattle.std.proofs.Common.{refl, sym, ◌∙◌, subst, ap}
use Rattle.cedar_model.specs.Terms.{Text, ValueType, string_type, extension_type, text_literal}
use Rattle.cedar_model.specs.Values.{AbstractValue, plain, extension_value, Represented}
use Rattle.cedar_model.specs.Outcomes.{type_error, text_of, function_failed}
use Rattle.cedar_model.specs.World.{Extensions, Functions, FunctionAnswer, function_gives, function_errs, function_asks}
use Rattle.cedar_model.specs.Failures.{Failure, failure_kind, wrong_type, function_has_failed, Answer, answers_value}
use Rattle.cedar_model.specs.Failures.{value, fails, out_of_memory}
use Rattle.cedar_model.specs.Operators.{expecting}
use Rattle.cedar_model.specs.Agreement.{function_answer, failure_answer, IsFaithful}
use Rattle.cedar_model.proofs.Injections.{answers_is_not_fails, some_inj, none_is_not_some}
use Rattle.cedar_errors.specs.Answers.{value_answer}
use Rattle.cedar_extension_values.specs.Answered.{AnswersComeToValues}
use Rattle.cedar_extension_values.specs.Arguments.{key_in, first_of, second_of}
use Rattle.cedar_extension_values.specs.Functions.{needing, written_or_failed, made_or_failed, made_by_constructor}
use Rattle.cedar_extension_values.specs.Functions.{HasFunction}
use Rattle.cedar_extension_values.specs.Faithful.{ConstructedAreFaithful}
use Rattle.cedar_extension_values.specs.FunctionLaws.{ConstructorsAreComputed, ConstructorsAskNothing}
use Rattle.cedar_extension_values.specs.FunctionLaws.{ConstructorsAreFaithful, KeyFunctionsAreComputed}
use Rattle.cedar_extension_values.specs.FunctionLaws.{KeyFunctionsAskNothing, KeyFunctionsAreFaithful}
use Rattle.cedar_extension_values.specs.FunctionLaws.{TwoKeyFunctionsAreComputed, TwoKeyFunctionsAskNothing}
use Rattle.cedar_extension_values.specs.FunctionLaws.{TwoKeyFunctionsAreFaithful}

-- an answer that comes after a check of an argument's type
pub expecting_computes : {A : Type 0} (o : Option A) (e : Failure) (next : A → Answer) (made : A → FunctionAnswer)
    → failure_answer (failure_kind e) ≡ Some (function_errs type_error)
    → ((x : A) → function_answer (next x) ≡ Some (made x))
    → function_answer (expecting o e next) ≡ Some (needing o made)
unfolding function_answer expecting needing
expecting_computes None e next made wrong h = wrong
expecting_computes (Some x) e next made wrong h = h x

pub expecting_gives : {A : Type 0} (o : Option A) (e : Failure) (next : A → Answer) (Such : Represented → Type 0)
    → ((x : A) (v : Represented) → next x ≡ answers_value v → Such v)
    → (v : Represented) → expecting o e next ≡ answers_value v → Such v
unfolding expecting
expecting_gives None e next Such h v given = absurd (answers_is_not_fails (value v) e (sym given))
expecting_gives (Some x) e next Such h v given = h x v given

pub needing_asks : {A : Type 0} (o : Option A) (made : A → FunctionAnswer) (n : Text) (t : Option ValueType)
    → ((x : A) → made x ≢ function_asks n t) → needing o made ≢ function_asks n t
unfolding needing
needing_asks None made n t h given = absurd (cc)
needing_asks (Some x) made n t h given = h x given

-- ---- constructors

written_computes : (t f text : Text) (e : Failure) (k : Option (List ℕ))
    → failure_answer (failure_kind e) ≡ Some (function_errs function_failed)
    → function_answer (written_or_failed t f e text k) ≡ Some (made_or_failed t k)
unfolding function_answer written_or_failed made_or_failed
written_computes t f text e None wrong = wrong
written_computes t f text e (Some k) wrong = refl

pub made_asks : (t : Text) (k : Option (List ℕ)) (n : Text) (u : Option ValueType)
    → made_or_failed t k ≢ function_asks n u
unfolding made_or_failed
made_asks t None n u given = absurd (cc)
made_asks t (Some k) n u given = absurd (cc)

value_inj : {v w : Represented} → answers_value v ≡ answers_value w → v ≡ w
value_inj e = cc

-- an error that expects a type is a type error
pub wrong_is_type_error : (expected : ValueType) (v : AbstractValue)
    → failure_answer (failure_kind (wrong_type expected [] v)) ≡ Some (function_errs type_error)
unfolding failure_answer failure_kind
wrong_is_type_error expected v = refl

failed_is_failed : (extension message : Text)
    → failure_answer (failure_kind (function_has_failed extension message)) ≡ Some (function_errs function_failed)
unfolding failure_answer failure_kind
failed_is_failed extension message = refl

pub constructors_compute : ConstructorsAreComputed
constructors_compute t f x m key_of vs =
    expecting_computes (text_of (first_of vs)) (wrong_type string_type [] (first_of vs))
    (λ text. written_or_failed t f (function_has_failed x m) text (key_of text)) (λ text. made_or_failed t (key_of text))
    (wrong_is_type_error string_type (first_of vs))
    (λ text. written_computes t f text (function_has_failed x m) (key_of text) (failed_is_failed x m))

pub constructors_ask : ConstructorsAskNothing
constructors_ask t key_of vs n u =
    needing_asks (text_of (first_of vs)) (λ text. made_or_failed t (key_of text)) n u (λ text. made_asks t (key_of text) n u)

-- a constructor that is there makes the value of a text's key
makes : (X : Extensions) (ans : Functions) (t f text : Text) (key_of : Text → Option (List ℕ)) (k : List ℕ)
    → HasFunction X ans f 1 (made_by_constructor t key_of) → key_of text ≡ Some k
    → ans f (plain (text_literal text) ∷ []) ≡ function_gives (extension_value t k)
unfolding text_of first_of needing made_or_failed
makes X ans t f text key_of k has e = has.computes (plain (text_literal text) ∷ []) ∙ ap (made_or_failed t) e

written_faithful : ConstructedAreFaithful → (X : Extensions) (ans : Functions) (t f text : Text) (e : Failure)
    (key_of : Text → Option (List ℕ)) → HasFunction X ans f 1 (made_by_constructor t key_of)
    → (k : Option (List ℕ)) → key_of text ≡ k → (v : Represented)
    → written_or_failed t f e text k ≡ answers_value v → IsFaithful X ans v
unfolding written_or_failed
written_faithful law X ans t f text e key_of has None found v given = absurd (answers_is_not_fails (value v) e (sym given))
written_faithful law X ans t f text e key_of has (Some k) found v given =
    subst (IsFaithful X ans) (value_inj given)
    (law X ans f text t k
    record {
      takes = has.takes;
      never_asks = λ vs n u asks. constructors_ask t key_of vs n u (sym (has.computes vs) ∙ asks);
    }
    (makes X ans t f text key_of k has found))

pub constructors_faithful : ConstructedAreFaithful → ConstructorsAreFaithful
constructors_faithful law X ans t f e key_of has vs v given =
    expecting_gives (text_of (first_of vs)) (wrong_type string_type [] (first_of vs))
    (λ text. written_or_failed t f e text (key_of text)) (IsFaithful X ans)
    (λ text w. written_faithful law X ans t f text e key_of has (key_of text) refl w) v given

-- ---- functions of keys

pub of_key_computes : KeyFunctionsAreComputed
of_key_computes t next made h vs =
    expecting_computes (key_in t (first_of vs)) (wrong_type (extension_type t) [] (first_of vs)) next made
    (wrong_is_type_error (extension_type t) (first_of vs)) h

pub of_key_asks : KeyFunctionsAskNothing
of_key_asks t made h vs n u = needing_asks (key_in t (first_of vs)) made n u (λ k. h k n u)

pub of_key_faithful : KeyFunctionsAreFaithful
of_key_faithful X ans t next h vs v given =
    expecting_gives (key_in t (first_of vs)) (wrong_type (extension_type t) [] (first_of vs)) next (IsFaithful X ans) h v given

pub of_keys_compute : TwoKeyFunctionsAreComputed
of_keys_compute t u next made h vs =
    expecting_computes (key_in t (first_of vs)) (wrong_type (extension_type t) [] (first_of vs))
    (λ k. expecting (key_in u (second_of vs)) (wrong_type (extension_type u) [] (second_of vs)) (next k))
    (λ k. needing (key_in u (second_of vs)) (made k))
    (wrong_is_type_error (extension_type t) (first_of vs))
    (λ k. expecting_computes (key_in u (second_of vs)) (wrong_type (extension_type u) [] (second_of vs)) (next k) (made k)
    (wrong_is_type_error (extension_type u) (second_of vs)) (h k))

pub of_keys_ask : TwoKeyFunctionsAskNothing
of_keys_ask t u made h vs n v =
    needing_asks (key_in t (first_of vs)) (λ k. needing (key_in u (second_of vs)) (made k)) n v
    (λ k. needing_asks (key_in u (second_of vs)) (made k) n v (λ l. h k l n v))

pub of_keys_faithful : TwoKeyFunctionsAreFaithful
of_keys_faithful X ans t u next h vs v given =
    expecting_gives (key_in t (first_of vs)) (wrong_type (extension_type t) [] (first_of vs))
    (λ k. expecting (key_in u (second_of vs)) (wrong_type (extension_type u) [] (second_of vs)) (next k)) (IsFaithful X ans)
    (λ k w. expecting_gives (key_in u (second_of vs)) (wrong_type (extension_type u) [] (second_of vs)) (next k) (IsFaithful X ans) (h k) w)
    v given

-- ---- calls

out_of_memory_has_no_outcome : None ≡ function_answer (fails out_of_memory)
unfolding function_answer failure_answer failure_kind
out_of_memory_has_no_outcome = refl

-- an answer that has an outcome is not out of memory
is_never_out_of_memory : (a : Answer) (o : FunctionAnswer) → function_answer a ≡ Some o → a ≢ fails out_of_memory
is_never_out_of_memory a o e f = none_is_not_some (out_of_memory_has_no_outcome ∙ sym (ap function_answer f) ∙ e)

pub answers_come : AnswersComeToValues
answers_come r a o h computed p e = some_inj (sym e ∙ ap function_answer (h (is_never_out_of_memory (value_answer r) p e)) ∙ computed)
