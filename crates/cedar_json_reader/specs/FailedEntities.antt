-- Why entities are not evaluated: the first of their attributes and tags that fails, its error, and where it stands.
use Rattle.std.specs.Prelude.{◌≡◌, ◌≢◌, ⊤, ℕ, List, [], ◌∷◌, ◌++◌, length, All, Ok, Err, codes}
use Rattle.cedar_model.specs.Terms.{Text, Term}
use Rattle.cedar_model.specs.World.{Extensions}
use Rattle.cedar_model.specs.Rules.{StoredCalls}
use Rattle.cedar_model.specs.Settings.{Setting}
use Rattle.cedar_model.specs.Failures.{PartialValue, fails, out_of_memory}
use Rattle.cedar_errors.specs.declared.evaluator.err.EvaluationError.{EvaluationError}
use Rattle.cedar_errors.specs.Failures.{failure_of}
use Rattle.cedar_restricted.specs.Evaluations.{IsBare, IsAnswerWithin}
use Rattle.cedar_json_reader.specs.declared.errors.JsonError.{JsonError}
use Rattle.cedar_json_reader.specs.declared.errors.JsonError.TheVariants as errors
use Rattle.cedar_json_reader.specs.Paths.{Step, at_key, at_index, path_view}
use Rattle.cedar_json_reader.specs.Refusals.{Said}
use Rattle.cedar_json_reader.specs.SaidEntities.{SaidEntity}
use Rattle.cedar_json_reader.specs.Evaluated.{IsAnswerOf}

-- what may be so of an error and of the way to the part that it is of
abbrev pub Failing : Type 1
Failing = List Step → EvaluationError → Type 0

-- it is so of the part that this step leads to
abbrev pub Below : Step → Failing → Failing
Below s P there e = (way : List Step) × (there ≡ s ∷ way) × P way e

-- ---- one expression

-- with these extensions and so many levels the evaluation of the expression fails with this error
abbrev pub IsErrorOf : Extensions → StoredCalls → ℕ → Term → EvaluationError → Type 0
IsErrorOf x calls n t e =
    (failure_of e ≢ out_of_memory) × ((s : Setting) → IsBare x s → IsAnswerWithin s calls n t (fails (failure_of e)))

-- or it answers a value or a residual
abbrev pub IsAnswered : Extensions → StoredCalls → ℕ → Term → Type 0
IsAnswered x calls n t = (p : PartialValue) × IsAnswerOf x calls n t p

-- ---- attributes, or tags

-- so does each of these
abbrev pub AreAllAnswered : Extensions → StoredCalls → ℕ → List (Text × Term) → Type 0
AreAllAnswered x calls n ps = All (λ p. IsAnswered x calls n p.1) ps

-- the expression under this key fails
abbrev pub IsFailedPart : Extensions → StoredCalls → ℕ → Text → Term → Failing
IsFailedPart x calls n k t there e = (there ≡ at_key k ∷ []) × IsErrorOf x calls n t e

-- the first of these that fails: those before it do not
pub record AreFailedParts (x : Extensions) (calls : StoredCalls) (n : ℕ) (ps : List (Text × Term)) (there : List Step) (e : EvaluationError) : Type 0 where
  pub before : List (Text × Term)
  pub key : Text
  pub expression : Term
  pub after : List (Text × Term)
  pub in_order : ps ≡ before ++ (key, expression) ∷ after
  pub answered : AreAllAnswered x calls n before
  pub failure : IsFailedPart x calls n key expression there e

-- ---- entities

-- all that an entity has is answered
abbrev pub IsAllAnswered : Extensions → StoredCalls → ℕ → SaidEntity → Type 0
IsAllAnswered x calls n d = AreAllAnswered x calls n d.attributes × AreAllAnswered x calls n d.tags

-- the first of its attributes that fails; or of its tags, where no attribute does
pub data IsFailedEntity (x : Extensions) (calls : StoredCalls) (n : ℕ) (d : SaidEntity) (there : List Step) (e : EvaluationError) : Type 0 where
  attribute_fails : Below (at_key (codes "attrs")) (AreFailedParts x calls n d.attributes) there e → IsFailedEntity x calls n d there e
  tag_fails : AreAllAnswered x calls n d.attributes → Below (at_key (codes "tags")) (AreFailedParts x calls n d.tags) there e → IsFailedEntity x calls n d there e

-- the first entity that fails: all that those before it have is answered
pub record AreFailedEntities (x : Extensions) (calls : StoredCalls) (n : ℕ) (ds : List SaidEntity) (there : List Step) (e : EvaluationError) : Type 0 where
  pub before : List SaidEntity
  pub entity : SaidEntity
  pub after : List SaidEntity
  pub in_order : ds ≡ before ++ entity ∷ after
  pub answered : All (IsAllAnswered x calls n) before
  pub failure : Below (at_index (length before)) (IsFailedEntity x calls n entity) there e

-- ---- what is told

-- the error is of an evaluation of which this is so, or memory ran out
abbrev pub IsEvaluationError : Failing → JsonError → Type 0
IsEvaluationError P errors.Syntax = ⊥
IsEvaluationError P errors.DuplicateKey = ⊥
IsEvaluationError P (errors.Refused path reason) = ⊥
IsEvaluationError P (errors.Evaluation path error) = P (path_view path) error
IsEvaluationError P (errors.Memory error) = ⊤

-- entities are said, of which the first that fails does so
abbrev pub AreFailedSaid : Extensions → StoredCalls → ℕ → Said (List SaidEntity) → Failing
AreFailedSaid x calls n (Ok ds) there e = AreFailedEntities x calls n ds there e
AreFailedSaid x calls n (Err r) there e = ⊥

-- nothing is said, for this reason; or something is, and this is the first error of its evaluation, there; or memory
-- ran out
abbrev pub IsEntitiesError : Extensions → StoredCalls → ℕ → Said (List SaidEntity) → JsonError → Type 0
IsEntitiesError x calls n s errors.Syntax = ⊥
IsEntitiesError x calls n s errors.DuplicateKey = ⊥
IsEntitiesError x calls n s (errors.Refused path reason) = s ≡ Err (record { path = path_view path; reason = reason })
IsEntitiesError x calls n s (errors.Evaluation path error) = AreFailedSaid x calls n s (path_view path) error
IsEntitiesError x calls n s (errors.Memory error) = ⊤

-- ---- for private clauses

-- the error of the evaluation is told of what stands there, or memory ran out
abbrev pub IsToldAt : List Step → EvaluationError → JsonError → Type 0
IsToldAt there e = IsEvaluationError (λ way d. (way ≡ there) × (d ≡ e) × (failure_of e ≢ out_of_memory))
