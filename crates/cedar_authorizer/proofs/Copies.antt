-- What errors and ids say, and what their copies say, is the same.
use Rattle.std.proofs.Common.{◌≡◌, ◌||◌, List, [], ◌∷◌, map, Global, refl, sym, ap, ◌∙◌, rules}
use Rattle.std.specs.List.{AllZip, list_any}
use Rattle.std.specs.Rc.{rc_str_bytes}
use Rattle.std.specs.declared.rc.RcStr.{RcStr}
use Rattle.cedar_model.specs.Terms.{Text}
use Rattle.cedar_model.specs.Failures.{Failure}
use Rattle.cedar_model.specs.Outcomes.{text_eq}
use Rattle.cedar_names.specs.declared.types.«Type».{«Type» as RType}
use Rattle.cedar_names.specs.declared.types.«Type».TheVariants as types
use Rattle.cedar_names.specs.contracts.types.TypeClone.TheImpl as type_clones
use Rattle.cedar_names.specs.Leaves.{texts_view, type_view}
use Rattle.cedar_errors.specs.declared.extensions.ExtensionFunctionLookupError.{ExtensionFunctionLookupError}
use Rattle.cedar_errors.specs.declared.extensions.ExtensionFunctionLookupError.TheVariants as lookups
use Rattle.cedar_errors.specs.contracts.extensions.ExtensionFunctionLookupErrorClone.TheImpl as lookup_clones
use Rattle.cedar_errors.specs.declared.evaluator.err.evaluation_errors.IntegerOverflowError.{IntegerOverflowError}
use Rattle.cedar_errors.specs.declared.evaluator.err.evaluation_errors.IntegerOverflowError.TheVariants as overflows
use Rattle.cedar_errors.specs.contracts.evaluator.err.evaluation_errors.IntegerOverflowErrorClone.TheImpl as overflow_clones
use Rattle.cedar_errors.specs.declared.evaluator.err.EvaluationError.{EvaluationError}
use Rattle.cedar_errors.specs.declared.evaluator.err.EvaluationError.TheVariants as errors
use Rattle.cedar_errors.specs.contracts.evaluator.err.EvaluationErrorClone.TheImpl as error_clones
use Rattle.cedar_errors.specs.Fields.{MissingEntityAttribute, MissingRecordAttribute}
use Rattle.cedar_errors.specs.Errors.{lookup_loc, overflow_loc, error_loc}
use Rattle.cedar_errors.specs.Failures.{lookup_failure, overflow_failure, failure_of}
use Rattle.cedar_layers.specs.declared.policies.policy.PolicyID.{PolicyID}
use Rattle.cedar_layers.specs.Policies.{policy_id_text}
use Rattle.cedar_authorizer.specs.declared.responses.err.AuthorizationError.{AuthorizationError}
use Rattle.cedar_authorizer.specs.declared.responses.err.AuthorizationError.TheVariants.{PolicyEvaluationError}
use Rattle.cedar_authorizer.specs.contracts.responses.err.AuthorizationErrorClone.TheImpl as policy_error_clones
use Rattle.cedar_authorizer.specs.responses.Responses.{error_view, errors_view, error_place, error_places}

texts_view-copied : (ts us : List (RcStr Global)) → AllZip (λ (s t : RcStr Global). rc_str_bytes t ≡ rc_str_bytes s) ts us → texts_view us ≡ texts_view ts
texts_view-copied [] [] h = refl
texts_view-copied [] (u ∷ us) h = absurd h
texts_view-copied (t ∷ ts) [] h = absurd h
texts_view-copied (t ∷ ts) (u ∷ us) h = λ i. h.0 i ∷ texts_view-copied ts us h.1 i

type_view-copied : (t u : RType) → type_clones.by_variants t u → type_view u ≡ type_view t
type_view-copied types.Bool types.Bool h = refl
type_view-copied types.Long types.Long h = refl
type_view-copied types.String types.String h = refl
type_view-copied types.Set types.Set h = refl
type_view-copied types.Record types.Record h = refl
type_view-copied (types.Entity t) (types.Entity u) h = search rules
type_view-copied (types.Extension t) (types.Extension u) h = search rules
type_view-copied t u h = absurd h

types_view-copied : (ts us : List RType) → AllZip type_clones.by_variants ts us → map type_view us ≡ map type_view ts
types_view-copied [] [] h = refl
types_view-copied [] (u ∷ us) h = absurd h
types_view-copied (t ∷ ts) [] h = absurd h
types_view-copied (t ∷ ts) (u ∷ us) h = λ i. type_view-copied t u h.0 i ∷ types_view-copied ts us h.1 i

lookup_failure-copied : (e d : ExtensionFunctionLookupError) → lookup_clones.by_variants e d → lookup_failure d ≡ lookup_failure e
lookup_failure-copied (lookups.FuncDoesNotExist e) (lookups.FuncDoesNotExist d) h = search rules
lookup_failure-copied (lookups.Memory e) (lookups.Memory d) h = refl
lookup_failure-copied e d h = absurd h

overflow_failure-copied : (e d : IntegerOverflowError) → overflow_clones.by_variants e d → overflow_failure d ≡ overflow_failure e
overflow_failure-copied (overflows.BinaryOp e) (overflows.BinaryOp d) h = search rules
overflow_failure-copied (overflows.UnaryOp e) (overflows.UnaryOp d) h = search rules
overflow_failure-copied e d h = absurd h

-- the copy of an error of evaluation stands for the same failure
pub failure_of-copied : (e d : EvaluationError) → error_clones.by_variants e d → failure_of d ≡ failure_of e
failure_of-copied (errors.EntityDoesNotExist e) (errors.EntityDoesNotExist d) h = search rules
failure_of-copied (errors.EntityAttrDoesNotExist e) (errors.EntityAttrDoesNotExist d) h =
    let failure : MissingEntityAttribute → Failure = λ r. failure_of (errors.EntityAttrDoesNotExist r) in
    ap failure (sym h.3) ∙ search (rules, texts_view-copied) ∙ ap failure h.2
failure_of-copied (errors.RecordAttrDoesNotExist e) (errors.RecordAttrDoesNotExist d) h =
    let failure : MissingRecordAttribute → Failure = λ r. failure_of (errors.RecordAttrDoesNotExist r) in
    ap failure (sym h.3) ∙ search (rules, texts_view-copied) ∙ ap failure h.2
failure_of-copied (errors.FailedExtensionFunctionLookup e) (errors.FailedExtensionFunctionLookup d) h =
    lookup_failure-copied e d h
failure_of-copied (errors.TypeError e) (errors.TypeError d) h =
    search (rules, type_view-copied, types_view-copied)
failure_of-copied (errors.WrongNumArguments e) (errors.WrongNumArguments d) h = search rules
failure_of-copied (errors.IntegerOverflow e) (errors.IntegerOverflow d) h = overflow_failure-copied e d h
failure_of-copied (errors.UnlinkedSlot e) (errors.UnlinkedSlot d) h = search rules
failure_of-copied (errors.FailedExtensionFunctionExecution e) (errors.FailedExtensionFunctionExecution d) h =
    search rules
failure_of-copied (errors.NonValue e) (errors.NonValue d) h = search rules
failure_of-copied (errors.RecursionLimit e) (errors.RecursionLimit d) h = refl
failure_of-copied (errors.Memory e) (errors.Memory d) h = refl
failure_of-copied e d h = absurd h

error_view-copied : (e d : AuthorizationError) → policy_error_clones.by_variants e d → error_view d ≡ error_view e
error_view-copied (PolicyEvaluationError i e) (PolicyEvaluationError j d) h = search (rules, failure_of-copied)

-- the copies of errors say the same, in order
pub errors_view-copied : (es ds : List AuthorizationError) → AllZip policy_error_clones.by_variants es ds → errors_view ds ≡ errors_view es
errors_view-copied [] [] h = refl
errors_view-copied [] (d ∷ ds) h = absurd h
errors_view-copied (e ∷ es) [] h = absurd h
errors_view-copied (e ∷ es) (d ∷ ds) h = λ i. error_view-copied e d h.0 i ∷ errors_view-copied es ds h.1 i

-- ---- places

lookup_loc-copied : (e d : ExtensionFunctionLookupError) → lookup_clones.by_variants e d → lookup_loc d ≡ lookup_loc e
lookup_loc-copied (lookups.FuncDoesNotExist e) (lookups.FuncDoesNotExist d) h = search rules
lookup_loc-copied (lookups.Memory e) (lookups.Memory d) h = refl
lookup_loc-copied e d h = absurd h

overflow_loc-copied : (e d : IntegerOverflowError) → overflow_clones.by_variants e d → overflow_loc d ≡ overflow_loc e
overflow_loc-copied (overflows.BinaryOp e) (overflows.BinaryOp d) h = search rules
overflow_loc-copied (overflows.UnaryOp e) (overflows.UnaryOp d) h = search rules
overflow_loc-copied e d h = absurd h

-- the copy of an error of evaluation arose at the same place
error_loc-copied : (e d : EvaluationError) → error_clones.by_variants e d → error_loc d ≡ error_loc e
error_loc-copied (errors.EntityDoesNotExist e) (errors.EntityDoesNotExist d) h = search rules
error_loc-copied (errors.EntityAttrDoesNotExist e) (errors.EntityAttrDoesNotExist d) h = search rules
error_loc-copied (errors.RecordAttrDoesNotExist e) (errors.RecordAttrDoesNotExist d) h = search rules
error_loc-copied (errors.FailedExtensionFunctionLookup e) (errors.FailedExtensionFunctionLookup d) h = lookup_loc-copied e d h
error_loc-copied (errors.TypeError e) (errors.TypeError d) h = search rules
error_loc-copied (errors.WrongNumArguments e) (errors.WrongNumArguments d) h = search rules
error_loc-copied (errors.IntegerOverflow e) (errors.IntegerOverflow d) h = overflow_loc-copied e d h
error_loc-copied (errors.UnlinkedSlot e) (errors.UnlinkedSlot d) h = search rules
error_loc-copied (errors.FailedExtensionFunctionExecution e) (errors.FailedExtensionFunctionExecution d) h = search rules
error_loc-copied (errors.NonValue e) (errors.NonValue d) h = search rules
error_loc-copied (errors.RecursionLimit e) (errors.RecursionLimit d) h = search rules
error_loc-copied (errors.Memory e) (errors.Memory d) h = refl
error_loc-copied e d h = absurd h

error_place-copied : (e d : AuthorizationError) → policy_error_clones.by_variants e d → error_place d ≡ error_place e
error_place-copied (PolicyEvaluationError i e) (PolicyEvaluationError j d) h = search (rules, error_loc-copied)

-- the copies of errors arose at the same places, in order
pub error_places-copied : (es ds : List AuthorizationError) → AllZip policy_error_clones.by_variants es ds → error_places ds ≡ error_places es
error_places-copied [] [] h = refl
error_places-copied [] (d ∷ ds) h = absurd h
error_places-copied (e ∷ es) [] h = absurd h
error_places-copied (e ∷ es) (d ∷ ds) h = λ i. error_place-copied e d h.0 i ∷ error_places-copied es ds h.1 i

-- ---- ids

-- a text is among copied ids where it is among the ids
pub is_among-copied : (C : PolicyID → PolicyID → Type 0) → ((i j : PolicyID) → C i j → policy_id_text j ≡ policy_id_text i) → (t : Text) (is js : List PolicyID) → AllZip C is js
    → list_any (λ (i : PolicyID). text_eq t (policy_id_text i)) js ≡ list_any (λ (i : PolicyID). text_eq t (policy_id_text i)) is
is_among-copied C same t [] [] h = refl
is_among-copied C same t [] (j ∷ js) h = absurd h
is_among-copied C same t (i ∷ is) [] h = absurd h
is_among-copied C same t (i ∷ is) (j ∷ js) h = λ k. text_eq t (same i j h.0 k) || is_among-copied C same t is js h.1 k

-- ---- the maps of a partial response

pub zip_map : {A B : Type 0} (f : A → B) (R : A → A → Type 0) (xs ys : List A) → AllZip R xs ys → ((x y : A) → R x y → f y ≡ f x) → map f ys ≡ map f xs
zip_map f R [] [] h k = refl
zip_map f R [] (y ∷ ys) h k = absurd h
zip_map f R (x ∷ xs) [] h k = absurd h
zip_map f R (x ∷ xs) (y ∷ ys) h k = λ j. k x y h.0 j ∷ zip_map f R xs ys h.1 k j
