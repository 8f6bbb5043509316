-- The texts of paths and errors, in bytes of UTF-8.
use Rattle.std.specs.Prelude.{ℕ, List, ◌∷◌, ◌++◌, if◌then◌else◌, flat_map, Option, Some, None, codes}
use Rattle.std.specs.Fmt.{decimal}
use Rattle.cedar_text_lexer.specs.Names.{expected_text}
use Rattle.cedar_text_lexer.specs.Words.{is_word}
use Rattle.cedar_text_lexer.specs.declared.errors.Expected.{Expected}
use Rattle.cedar_model.specs.Terms.{Text}
use Rattle.cedar_names.specs.Texts.{quoted}
use Rattle.cedar_json_reader.specs.declared.errors.JsonError.{JsonError}
use Rattle.cedar_json_reader.specs.declared.errors.JsonError.TheVariants as errors
use Rattle.cedar_json_reader.specs.declared.errors.RefusalReason.{RefusalReason}
use Rattle.cedar_json_reader.specs.declared.errors.RefusalReason.TheVariants as reasons
use Rattle.cedar_json_reader.specs.Paths.{Step, at_key, at_index, path_view}

-- `.key`, or `["a key"]` where the key is no word
abbrev pub key_text : Text → Text
key_text k = if is_word k then 46 ∷ k else codes "[" ++ (quoted k ++ codes "]")

abbrev pub index_text : ℕ → Text
index_text i = codes "[" ++ (decimal i ++ codes "]")

abbrev pub step_text : Step → Text
step_text (at_key k) = key_text k
step_text (at_index i) = index_text i

-- `$` for the whole value, and its steps
abbrev pub path_text : List Step → Text
path_text ss = 36 ∷ flat_map step_text ss

-- what was expected at a byte of a text
abbrev pub expected_there : Expected → ℕ → Text
expected_there w s = codes "expected " ++ (expected_text w ++ (codes " at byte " ++ decimal s))

abbrev pub reason_text : RefusalReason → Text
reason_text reasons.Null = codes "null is no value"
reason_text reasons.NotALong = codes "not an integer of 64 bits"
reason_text reasons.ReservedKey = codes "a reserved key"
reason_text reasons.RepeatedKey = codes "the key comes again"
reason_text reasons.NotAnEntity = codes "not a type and an id"
reason_text (reasons.NotAnEntityText w s e) = expected_there w s
reason_text reasons.NotAName = codes "not a name"
reason_text reasons.NotACall = codes "not a fn and an arg or args"
reason_text reasons.NotAnUnknown = codes "an unknown takes its name alone"
reason_text reasons.NotAnObject = codes "not an object"
reason_text reasons.NotAnArray = codes "not an array"
reason_text reasons.UnexpectedMember = codes "unexpected"
reason_text reasons.MissingMember = codes "missing"
reason_text reasons.RepeatedEntity = codes "the entity comes again"
reason_text reasons.Unknown = codes "an unknown stands in it"

abbrev pub refusal_text : List Step → RefusalReason → Text
refusal_text path reason = path_text path ++ (codes ": " ++ reason_text reason)

-- the text of an error, but for that of an evaluation, which is the path, `: ` and the evaluation's own
abbrev pub error_text : JsonError → Option Text
error_text errors.Syntax = Some (codes "not JSON")
error_text errors.DuplicateKey = Some (codes "a key comes twice in an object")
error_text (errors.Refused path reason) = Some (refusal_text (path_view path) reason)
error_text (errors.Evaluation path error) = None
error_text (errors.Memory error) = Some (codes "out of memory")
