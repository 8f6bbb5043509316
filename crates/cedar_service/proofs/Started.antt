-- Why no engine is made.
use Rattle.std.proofs.Common.{◌≡◌, sym, subst, List, Ok, Err}
use Rattle.json.specs.Json.{Json}
use Rattle.cedar_model.specs.Terms.{Text}
use Rattle.cedar_model.specs.World as world
use Rattle.cedar_model.specs.Rules.{StoredCalls}
use Rattle.cedar_functions.specs.Functions.{Knowledge}
use Rattle.cedar_layers.specs.declared.policies.entities.Entity.{Entity}
use Rattle.cedar_hierarchy.specs.Ancestry.{parents_of, NamesACycle}
use Rattle.cedar_hierarchy.specs.Paths.{Parentage}
use Rattle.cedar_hierarchy.specs.declared.error.ClosureError.{ClosureError}
use Rattle.cedar_hierarchy.specs.declared.error.ClosureError.TheVariants as closing
use Rattle.cedar_json_reader.specs.declared.errors.JsonError.{JsonError}
use Rattle.cedar_json_reader.specs.JsonTexts.{SaysSo, IsTextError}
use Rattle.cedar_json_reader.specs.SaidEntities.{entities_said}
use Rattle.cedar_json_reader.specs.Evaluated.{AreEntitiesOf}
use Rattle.cedar_json_reader.specs.NothingUnknown.{IsKnownEntitiesError}
use Rattle.cedar_service.specs.declared.engine.NotStarted.{NotStarted}
use Rattle.cedar_service.specs.declared.engine.NotStarted.TheVariants as failures
use Rattle.cedar_service.specs.Asked.{levels}
use Rattle.cedar_service.specs.Faults.{IsOfJson}
use Rattle.cedar_service.specs.Started.{IsStoreFailure, IsPoliciesFailure, IsFailure, IsCyclicAmong, IsUnreadAs}
use Rattle.cedar_service.specs.Started.{IsUnclosedAs, IsOfParents, NamesOne}

names_one : (parents : Parentage) (e : ClosureError) → NamesACycle parents e → IsOfParents e → NamesOne parents e
names_one parents (closing.Memory e) h of = absurd of
names_one parents (closing.Cycle u) h of = h

pub cyclic : (es : List Entity) (e : ClosureError) (f : NotStarted) → NamesACycle (parents_of es) e → IsUnclosedAs e f
    → IsCyclicAmong es f
cyclic es e (failures.Policies errors) h is = absurd is
cyclic es e (failures.Entities error) h is = absurd is
cyclic es e (failures.Parents error) h is =
    names_one (parents_of es) error (subst (λ (x : ClosureError). NamesACycle (parents_of es) x) (sym is.0) h) is.1
cyclic es e failures.Memory h is = tt

module _ (X : world.Extensions) (calls : StoredCalls) (text : Text) where
  pub unread_failure : (e : JsonError) (f : NotStarted)
      → IsTextError text (λ j x. IsKnownEntitiesError X calls levels (entities_said j) x) e → IsUnreadAs e f
      → IsStoreFailure X calls text f
  unread_failure e (failures.Policies errors) h is = absurd is
  unread_failure e (failures.Entities error) h is = (
    is.1,
    subst (λ (x : JsonError). IsTextError text (λ j y. IsKnownEntitiesError X calls levels (entities_said j) y) x)
        (sym is.0) h,
  )
  unread_failure e (failures.Parents error) h is = absurd is
  unread_failure e failures.Memory h is = tt

  pub cyclic_failure : (es : List Entity) → SaysSo text (λ j. AreEntitiesOf X calls levels (entities_said j) es)
      → (f : NotStarted) → IsCyclicAmong es f → IsStoreFailure X calls text f
  cyclic_failure es said (failures.Policies errors) h = absurd h
  cyclic_failure es said (failures.Entities error) h = absurd h
  cyclic_failure es said (failures.Parents error) h = record { entities = es; said = said; cycle = h }
  cyclic_failure es said failures.Memory h = tt

  module _ (k : Knowledge) (policies : Text) where
    pub store_failure : (f : NotStarted) → IsStoreFailure X calls text f → IsFailure k X calls policies text f
    store_failure (failures.Policies errors) h = absurd h
    store_failure (failures.Entities error) h = h
    store_failure (failures.Parents error) h = h
    store_failure failures.Memory h = tt

    pub policies_failure : (f : NotStarted) → IsPoliciesFailure k policies f → IsFailure k X calls policies text f
    policies_failure (failures.Policies errors) h = h
    policies_failure (failures.Entities error) h = absurd h
    policies_failure (failures.Parents error) h = absurd h
    policies_failure failures.Memory h = tt
