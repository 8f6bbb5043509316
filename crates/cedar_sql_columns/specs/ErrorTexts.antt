-- The texts of paths and errors, in bytes of UTF-8.
use Rattle.std.specs.Prelude.{ℕ, List, ◌∷◌, ◌++◌, if◌then◌else◌, flat_map, codes}
use Rattle.std.specs.Fmt.{decimal}
use Rattle.cedar_text_lexer.specs.Words.{is_word}
use Rattle.cedar_model.specs.Terms.{Text}
use Rattle.cedar_names.specs.Texts.{quoted}
use Rattle.cedar_sql_columns.specs.declared.errors.ColumnsError.{ColumnsError}
use Rattle.cedar_sql_columns.specs.declared.errors.ColumnsError.TheVariants as errors
use Rattle.cedar_sql_columns.specs.declared.errors.RefusalReason.{RefusalReason}
use Rattle.cedar_sql_columns.specs.declared.errors.RefusalReason.TheVariants as reasons
use Rattle.cedar_sql_columns.specs.Paths.{Step, at_key, at_index, path_view}

-- `.key`, or `["a key"]` where the key is no word
abbrev pub key_text : Text → Text
key_text k = if is_word k then 46 ∷ k else codes "[" ++ (quoted k ++ codes "]")

abbrev pub index_text : ℕ → Text
index_text i = codes "[" ++ (decimal i ++ codes "]")

abbrev pub step_text : Step → Text
step_text (at_key k) = key_text k
step_text (at_index i) = index_text i

-- `$` for the whole value, and its steps
abbrev pub path_text : List Step → Text
path_text ss = 36 ∷ flat_map step_text ss

abbrev pub reason_text : RefusalReason → Text
reason_text reasons.NotAnObject = codes "not an object"
reason_text reasons.NotAnArray = codes "not an array"
reason_text reasons.NotAText = codes "not a text"
reason_text reasons.NotHeld = codes "not Bool, Long, String or Record"
reason_text reasons.NotAnAttribute = codes "no attribute"
reason_text reasons.DuplicateAttribute = codes "duplicate attribute"
reason_text reasons.UnexpectedMember = codes "a member too many"
reason_text reasons.MissingMember = codes "missing"
reason_text reasons.EmptyName = codes "an empty name"
reason_text reasons.NulInName = codes "a NUL in a name"
reason_text reasons.PointInName =
    codes "a `.` in a name: each name stands alone, that of the table, or its alias, at `table`"

abbrev pub refusal_text : List Step → RefusalReason → Text
refusal_text path reason = path_text path ++ (codes ": " ++ reason_text reason)

abbrev pub error_text : ColumnsError → Text
error_text errors.Syntax = codes "not JSON"
error_text errors.DuplicateKey = codes "duplicate key"
error_text (errors.Refused path reason) = refusal_text (path_view path) reason
error_text (errors.Memory error) = codes "out of memory"
