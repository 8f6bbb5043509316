-- What a text says is what its JSON value says.
use Rattle.std.proofs.Common.{◌≡◌, Some, Ok, Err, sym, subst, Option}
use Rattle.std.specs.Prelude.{IsSomeAnd}
use Rattle.json.specs.Json.{Json, document}
use Rattle.json.specs.Strict.{HasUniqueKeys}
use Rattle.cedar_model.specs.Terms.{Text}
use Rattle.cedar_sql_columns.specs.declared.errors.ColumnsError.{ColumnsError}
use Rattle.cedar_sql_columns.specs.declared.errors.ColumnsError.TheVariants as errors
use Rattle.cedar_sql_columns.specs.Paths.{path_view}
use Rattle.cedar_sql_columns.specs.Refusals.{Said, IsRefusal}
use Rattle.cedar_sql_columns.specs.JsonTexts.{Says, IsUnread, IsTextRefusal}

pub text_says : {T : Type 0} (text : Text) (said : Json → Said T) (j : Json) (t : T) → document text ≡ Some j → HasUniqueKeys j → said j ≡ Ok t → Says text said t
text_says text said j t is unique h = subst (λ (o : Option Json). IsSomeAnd o (λ i. HasUniqueKeys i × (said i ≡ Ok t))) (sym is) (unique, h)

pub text_unread : {T : Type 0} (text : Text) (said : Json → Said T) (e : ColumnsError) → IsUnread text e → IsTextRefusal text said e
text_unread text said errors.Syntax h = h
text_unread text said errors.DuplicateKey h = h
text_unread text said (errors.Refused p r) h = absurd h
text_unread text said (errors.Memory m) h = tt

pub text_refused : {T : Type 0} (text : Text) (said : Json → Said T) (j : Json) (e : ColumnsError) → document text ≡ Some j → IsRefusal (said j) e → IsTextRefusal text said e
text_refused text said j errors.Syntax is h = absurd h
text_refused text said j errors.DuplicateKey is h = absurd h
text_refused text said j (errors.Refused p r) is h = subst (λ (o : Option Json). IsSomeAnd o (λ i. said i ≡ Err (record { path = path_view p; reason = r }))) (sym is) h
text_refused text said j (errors.Memory m) is h = tt

pub ruleset text_lemmas = (text_says, text_unread, text_refused)
