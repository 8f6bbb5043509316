-- Which entity a request's JSON names: by its type and its id, or by Cedar's text of it.
use Rattle.std.specs.Prelude.{◌≡◌, ⊤, ℕ, List, [], ◌∷◌, Option, Some, None, Ok}
use Rattle.json.specs.Json.{Json}
use Rattle.json.specs.Find.{as_str, get}
use Rattle.cedar_text_lexer.specs.declared.errors.Expected.{Expected}
use Rattle.cedar_text_lexer.specs.declared.errors.Expected.TheVariants as wanted
use Rattle.cedar_text_lexer.specs.declared.errors.ReadError.{ReadError}
use Rattle.cedar_text_lexer.specs.declared.errors.ReadError.TheVariants as reading
use Rattle.cedar_text_lexer.specs.declared.tokens.Kind.{Kind}
use Rattle.cedar_text_parser.specs.Paths.{IsEntityRead, IsPathRefused}
use Rattle.cedar_text_parser.specs.Reading.{IsWithin}
use Rattle.cedar_model.specs.Terms.{Text, EntityName}
use Rattle.cedar_names.specs.declared.names.EntityUID.{EntityUID}
use Rattle.cedar_names.specs.Names.{uid_name}
use Rattle.cedar_json_reader.specs.declared.errors.JsonError.{JsonError}
use Rattle.cedar_json_reader.specs.declared.errors.JsonError.TheVariants as errors
use Rattle.cedar_json_reader.specs.declared.errors.RefusalReason.{RefusalReason}
use Rattle.cedar_json_reader.specs.declared.errors.RefusalReason.TheVariants as reasons
use Rattle.cedar_json_reader.specs.Paths.{Step, at_key, path_view}
use Rattle.cedar_json_reader.specs.Refusals.{under, IsRefusal, IsRefusedAt, IsMemory}
use Rattle.cedar_json_reader.specs.SaidEntities.{plain_uid_said}

-- ---- texts

-- the text's tokens are this entity: a name, `::` and a text in quotes
pub data IsTextOf (t : Text) (e : EntityName) : Type 0 where
  text_of : {u : EntityUID} → IsEntityRead t u → uid_name u ≡ e → IsTextOf t e

-- why the text is no entity: what was expected in it, and where
pub data IsNoEntity (t : Text) : RefusalReason → Type 0 where
  expected : {w : Expected} {k : Kind} {s e : ℕ} → IsPathRefused t (reading.Expected w k s e) →
      IsWithin t (reading.Expected w k s e) → IsNoEntity t (reasons.NotAnEntityText w s e)
  too_deep : {n s e : ℕ} → IsPathRefused t (reading.TooDeep n s e) →
      IsWithin t (reading.TooDeep n s e) → IsNoEntity t (reasons.NotAnEntityText wanted.Entity s e)

-- the error says so of the text, which stands there; or memory ran out
abbrev pub IsNoEntityText : Text → List Step → JsonError → Type 0
IsNoEntityText t there errors.Syntax = ⊥
IsNoEntityText t there errors.DuplicateKey = ⊥
IsNoEntityText t there (errors.Refused path reason) = (path_view path ≡ there) × IsNoEntity t reason
IsNoEntityText t there (errors.Evaluation path error) = ⊥
IsNoEntityText t there (errors.Memory error) = ⊤

-- ---- members

-- a text names the entity that it is; all else the one of its type and its id, with or without `__entity` round them
abbrev pub IsNamedBy : Option Text → Json → EntityName → Type 0
IsNamedBy None j e = plain_uid_said j ≡ Ok e
IsNamedBy (Some t) j e = IsTextOf t e

abbrev pub IsNamedIn : Option Json → EntityName → Type 0
IsNamedIn None e = ⊥
IsNamedIn (Some j) e = IsNamedBy (as_str j) j e

-- the member of this key names the entity
abbrev pub IsNamedAt : Text → Json → EntityName → Type 0
IsNamedAt k j e = IsNamedIn (get k j) e

-- why the member of this key names none
abbrev pub IsUnnamedBy : Text → Option Text → Json → JsonError → Type 0
IsUnnamedBy k None j e = IsRefusal (under (at_key k) (plain_uid_said j)) e
IsUnnamedBy k (Some t) j e = IsNoEntityText t (at_key k ∷ []) e

abbrev pub IsUnnamedIn : Text → Option Json → JsonError → Type 0
IsUnnamedIn k None e = IsRefusedAt (at_key k ∷ []) reasons.MissingMember e
IsUnnamedIn k (Some j) e = IsUnnamedBy k (as_str j) j e

abbrev pub IsUnnamedAt : Text → Json → JsonError → Type 0
IsUnnamedAt k j e = IsUnnamedIn k (get k j) e

-- what is told of an error of reading a text; for private clauses
abbrev pub IsTold : ReadError → JsonError → Type 0
IsTold reading.Memory e = IsMemory e
IsTold (reading.Expected w k s t) e = IsRefusedAt [] (reasons.NotAnEntityText w s t) e
IsTold (reading.TooDeep n s t) e = IsRefusedAt [] (reasons.NotAnEntityText wanted.Entity s t) e
