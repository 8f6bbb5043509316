-- The texts of paths and errors, in bytes of UTF-8.
use Rattle.std.specs.Prelude.{ℕ, List, ◌∷◌, ◌++◌, if◌then◌else◌, flat_map, codes}
use Rattle.std.specs.Fmt.{decimal}
use Rattle.cedar_text_lexer.specs.Words.{is_word}
use Rattle.cedar_model.specs.Terms.{Text}
use Rattle.cedar_names.specs.Texts.{quoted}
use Rattle.cedar_policy_json_reader.specs.declared.errors.PolicyJsonError.{PolicyJsonError}
use Rattle.cedar_policy_json_reader.specs.declared.errors.PolicyJsonError.TheVariants as errors
use Rattle.cedar_policy_json_reader.specs.declared.errors.RefusalReason.{RefusalReason}
use Rattle.cedar_policy_json_reader.specs.declared.errors.RefusalReason.TheVariants as reasons
use Rattle.cedar_policy_json_reader.specs.Paths.{Step, at_key, at_index, path_view}

-- `.key`, or `["a key"]` where the key is no word
abbrev pub key_text : Text → Text
key_text k = if is_word k then 46 ∷ k else codes "[" ++ (quoted k ++ codes "]")

abbrev pub index_text : ℕ → Text
index_text i = codes "[" ++ (decimal i ++ codes "]")

abbrev pub step_text : Step → Text
step_text (at_key k) = key_text k
step_text (at_index i) = index_text i

-- `$` for the whole value, and its steps
abbrev pub path_text : List Step → Text
path_text ss = 36 ∷ flat_map step_text ss

abbrev pub reason_text : RefusalReason → Text
reason_text reasons.NotAnExpression = codes "not an object of one operator"
reason_text reasons.UnknownOperator = codes "no such operator or function"
reason_text reasons.TooDeep = codes "nests too deep"
reason_text reasons.DoubledTest = codes "an `is` with an `in` in the left side of another"
reason_text reasons.SlotOutsideScope = codes "a slot outside a scope"
reason_text reasons.SlotInPolicy = codes "a slot in a policy that is no template"
reason_text reasons.NotASlot = codes "not a slot of this variable"
reason_text reasons.NotAnEffect = codes "not permit or forbid"
reason_text reasons.NotAKind = codes "not when or unless"
reason_text reasons.NotAWord = codes "not a word"
reason_text reasons.WrongArguments = codes "not as many arguments as the function takes"
reason_text reasons.NotALiteral = codes "not a boolean, a number, a text or an entity"
reason_text reasons.NotALong = codes "not an integer of 64 bits"
reason_text reasons.NotAVariable = codes "not a variable"
reason_text reasons.NotAType = codes "not a type"
reason_text reasons.NotAName = codes "not a name"
reason_text reasons.NotAPatternPart = codes "not a wildcard or a literal"
reason_text reasons.NotAnAttribute = codes "not an attribute or attributes"
reason_text reasons.NotAText = codes "not a text"
reason_text reasons.NotAnObject = codes "not an object"
reason_text reasons.NotAnArray = codes "not an array"
reason_text reasons.UnexpectedMember = codes "a member too many"
reason_text reasons.MissingMember = codes "missing"
reason_text reasons.RepeatedKey = codes "duplicate key"
reason_text reasons.NoSuchTemplate = codes "no such template"
reason_text reasons.TakenId = codes "another policy, template or link has this id"
reason_text reasons.NoSuchSlot = codes "the template has no such slot"
reason_text reasons.NotAnEntity = codes "not an entity"

abbrev pub refusal_text : List Step → RefusalReason → Text
refusal_text path reason = path_text path ++ (codes ": " ++ reason_text reason)

abbrev pub error_text : PolicyJsonError → Text
error_text errors.Syntax = codes "not JSON"
error_text errors.DuplicateKey = codes "a key comes twice in an object"
error_text (errors.Refused path reason) = refusal_text (path_view path) reason
error_text (errors.Memory error) = codes "out of memory"
