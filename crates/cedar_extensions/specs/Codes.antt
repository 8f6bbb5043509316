-- How outcomes of functions are stored: by codes of their parts. No law of Cedar stands here.
use Rattle.std.specs.Prelude.{◌≡◌, ℕ, cond, ◌==◌, ◌⊎◌, Option}
use Rattle.std.proofs.Common.{refl, inl, inr}
use Rattle.std.specs.Coded.{Coded, Coded-set, code_by, coded_ℕ, coded×, coded⊎}
use Rattle.cedar_model.specs.Terms.{Text, ValueType}
use Rattle.cedar_model.specs.Values.{AbstractValue}
use Rattle.cedar_model.specs.Outcomes.{ErrorKind, entity_does_not_exist, entity_attribute_does_not_exist}
use Rattle.cedar_model.specs.Outcomes.{record_attribute_does_not_exist, function_does_not_exist, type_error}
use Rattle.cedar_model.specs.Outcomes.{wrong_number_of_arguments, integer_overflow, unlinked_slot, function_failed}
use Rattle.cedar_model.specs.World.{FunctionAnswer, function_gives, function_errs, function_asks}
use Rattle.cedar_model.specs.Keys.{Key}
use Rattle.cedar_model.specs.lemmas.Codes.{key_code, text_code, abstract_value_code, annotation_key, annotation_of_key}
use Rattle.cedar_model.specs.lemmas.Codes.{annotation_of_key-annotation_key}

abbrev pub kind_number : ErrorKind → ℕ
kind_number entity_does_not_exist = 0
kind_number entity_attribute_does_not_exist = 1
kind_number record_attribute_does_not_exist = 2
kind_number function_does_not_exist = 3
kind_number type_error = 4
kind_number wrong_number_of_arguments = 5
kind_number integer_overflow = 6
kind_number unlinked_slot = 7
kind_number function_failed = 8

abbrev pub kind_of_number : ℕ → ErrorKind
kind_of_number n =
    cond (n == 0) entity_does_not_exist (cond (n == 1) entity_attribute_does_not_exist
    (cond (n == 2) record_attribute_does_not_exist (cond (n == 3) function_does_not_exist
    (cond (n == 4) type_error (cond (n == 5) wrong_number_of_arguments
    (cond (n == 6) integer_overflow (cond (n == 7) unlinked_slot function_failed)))))))

pub kind_of_number-kind_number : (k : ErrorKind) → kind_of_number (kind_number k) ≡ k
kind_of_number-kind_number entity_does_not_exist = refl
kind_of_number-kind_number entity_attribute_does_not_exist = refl
kind_of_number-kind_number record_attribute_does_not_exist = refl
kind_of_number-kind_number function_does_not_exist = refl
kind_of_number-kind_number type_error = refl
kind_of_number-kind_number wrong_number_of_arguments = refl
kind_of_number-kind_number integer_overflow = refl
kind_of_number-kind_number unlinked_slot = refl
kind_of_number-kind_number function_failed = refl

abbrev pub kind_code : Coded ErrorKind
kind_code = code_by ℕ coded_ℕ kind_number kind_of_number kind_of_number-kind_number

abbrev pub annotation_code : Coded (Option ValueType)
annotation_code = code_by Key key_code annotation_key annotation_of_key annotation_of_key-annotation_key

abbrev pub FunctionAnswerParts : Type 0
FunctionAnswerParts = AbstractValue ⊎ (ErrorKind ⊎ (Text × Option ValueType))

abbrev pub function_answer_parts : FunctionAnswer → FunctionAnswerParts
function_answer_parts (function_gives v) = inl v
function_answer_parts (function_errs k) = inr (inl k)
function_answer_parts (function_asks n t) = inr (inr (n, t))

abbrev pub of_parts : FunctionAnswerParts → FunctionAnswer
of_parts (inl v) = function_gives v
of_parts (inr (inl k)) = function_errs k
of_parts (inr (inr u)) = function_asks u.0 u.1

pub of_parts-parts_of : (o : FunctionAnswer) → of_parts (function_answer_parts o) ≡ o
of_parts-parts_of (function_gives v) = refl
of_parts-parts_of (function_errs k) = refl
of_parts-parts_of (function_asks n t) = refl

abbrev pub function_answer_code : Coded FunctionAnswer
function_answer_code =
    code_by FunctionAnswerParts (coded⊎ abstract_value_code (coded⊎ kind_code (coded× text_code annotation_code))) function_answer_parts of_parts
    of_parts-parts_of

pub function_answer_set : IsSet FunctionAnswer
function_answer_set = Coded-set function_answer_code
