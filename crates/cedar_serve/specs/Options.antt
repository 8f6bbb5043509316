-- What the options say, by what was matched of the words.
use Rattle.std.specs.Prelude.{◌≡◌, ℕ, List, [], Bool, true, false, Option, Some, None, if◌then◌else◌, unwrap_or, ok_or, bytes_eq, codes}
use Rattle.std.specs.Str.Parse.{ParsesUnsigned}
use Rattle.clap.specs.Words.{one_text, first_value}
use Rattle.clap.specs.declared.parser.matches.Found.{Found}
use Rattle.cedar_endpoints.specs.declared.bounds.Bounds.{Bounds}
use Rattle.cedar_service.specs.declared.ways.RequestEntities.{RequestEntities}
use Rattle.cedar_service.specs.declared.ways.RequestEntities.TheVariants as brought
use Rattle.cedar_service.specs.declared.ways.RequestProperties.{RequestProperties}
use Rattle.cedar_service.specs.declared.ways.RequestProperties.TheVariants as claims

-- the word of an option that must be given
abbrev pub text_at : Found → List ℕ → List ℕ
text_at f id = unwrap_or (first_value f id) []

-- whether a flag is given
pub record IsFlag (f : Found) (id : List ℕ) (b : Bool) : Type 0 where
  pub absent : one_text f id ≡ None → b ≡ false
  pub given : one_text f id ≡ Some (codes "true") → b ≡ true
  pub not_given : one_text f id ≡ Some (codes "false") → b ≡ false

-- the number that an option says, if it is given
pub record IsNumber (f : Found) (id : List ℕ) (o : Option ℕ) : Type 0 where
  pub absent : one_text f id ≡ None → o ≡ None
  pub given : (t : List ℕ) → one_text f id ≡ Some t → ParsesUnsigned 64 10 t (ok_or o t)

-- that number or, where it is not given, the one that stands for it
abbrev pub IsNumberOr : Found → List ℕ → ℕ → ℕ → Type 0
IsNumberOr f id default n = (o : Option ℕ) × IsNumber f id o × (n ≡ unwrap_or o default)

-- of which entities properties are taken: of none, unless a word says otherwise
abbrev pub properties_named : List ℕ → RequestProperties
properties_named t =
    if bytes_eq t (codes "unstored") then claims.Unstored else (
    if bytes_eq t (codes "beside") then claims.Beside else (
    if bytes_eq t (codes "win") then claims.Win else claims.None))

abbrev pub properties_said : Option (List ℕ) → RequestProperties
properties_said None = claims.None
properties_said (Some t) = properties_named t

-- whether entities are taken: none, unless a word says otherwise
abbrev pub entities_named : List ℕ → RequestEntities
entities_named t = if bytes_eq t (codes "allowed") then brought.Allowed else brought.None

abbrev pub entities_said : Option (List ℕ) → RequestEntities
entities_said None = brought.None
entities_said (Some t) = entities_named t

-- how much a request may ask and bring, where that is not said
pub record AreBounds (f : Found) (b : Bounds) : Type 0 where
  pub entities : IsNumberOr f (codes "max-request-entities") 100 b.entities
  pub ancestors : IsNumberOr f (codes "max-request-ancestors") 10000 b.ancestors
  pub evaluations : IsNumberOr f (codes "max-evaluations") 1000 b.evaluations
  pub candidates : IsNumberOr f (codes "max-candidates") 100000 b.candidates
