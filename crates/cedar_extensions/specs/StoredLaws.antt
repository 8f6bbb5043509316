-- The laws of what extensions' functions may answer: they answer alike to equal arguments, and never the recursion
-- limit
-- or out of memory; each value is sound, and each residual is an unknown.
use Rattle.std.specs.Prelude.{◌≡◌, ◌≢◌, ℕ, true, List, [], ◌∷◌, map, Option, Some, None, Ok, Err, option_map, is_some}
use Rattle.std.specs.Borrow.{Bor}
use Rattle.std.proofs.Common.{refl, sym, ap, subst, ◌∙◌, true≢false}
use Rattle.std.specs.Rc.{rc_str_bytes}
use Rattle.cedar_model.specs.Terms.{Text, string_type, unknown}
use Rattle.cedar_model.specs.Values.{AbstractValue, Represented, abstract_value}
use Rattle.cedar_model.specs.Outcomes.{ErrorKind, function_does_not_exist, integer_overflow, text_of}
use Rattle.cedar_model.specs.World.{FunctionAnswer, function_gives, function_errs, function_asks}
use Rattle.cedar_model.specs.Failures.{Failure, FailureKind, of_meaning, of_residual, of_limit, of_memory, failure_kind}
use Rattle.cedar_model.specs.Failures.{recursion_limit, out_of_memory, PartialValue, value, residual, Answer, answers}
use Rattle.cedar_model.specs.Failures.{fails}
use Rattle.cedar_model.specs.Failures.{answers_residual, limit, wrong_type}
use Rattle.cedar_model.specs.Operators.{expecting}
use Rattle.cedar_model.specs.Agreement.{failure_answer, function_answer}
use Rattle.cedar_model.specs.Alike.{AreAlike, AreFunctional}
use Rattle.cedar_model.specs.laws.Levels.{FunctionsMeetNoLimit, FunctionsFindMemory}
use Rattle.cedar_model.specs.Restricted.{IsSoundPart}
use Rattle.cedar_model.specs.laws.Restricted.{HoldsUnknown}
use Rattle.cedar_names.specs.Leaves.{type_view}
use Rattle.cedar_values.specs.Sound.{Placed}
use Rattle.cedar_errors.specs.Failures.{failure_of, lookup_failure, overflow_failure}
use Rattle.cedar_errors.specs.declared.extensions.ExtensionFunctionLookupError.{ExtensionFunctionLookupError}
use Rattle.cedar_errors.specs.declared.extensions.ExtensionFunctionLookupError.TheVariants as lookups
use Rattle.cedar_errors.specs.declared.evaluator.err.evaluation_errors.IntegerOverflowError.{IntegerOverflowError}
use Rattle.cedar_errors.specs.declared.evaluator.err.evaluation_errors.IntegerOverflowError.TheVariants as overflows
use Rattle.cedar_errors.specs.declared.evaluator.err.EvaluationError.{EvaluationError}
use Rattle.cedar_errors.specs.declared.evaluator.err.EvaluationError.TheVariants as errors
use Rattle.cedar_extensions.specs.declared.function.callee.Callee.{Callee}
use Rattle.cedar_extensions.specs.declared.function.callee.Callee.TheVariants as callees
use Rattle.cedar_extensions.specs.declared.extensions.Extensions.{Extensions}
use Rattle.cedar_extensions.specs.declared.function.stored.ExtensionOutputValue.TheVariants as outputs
use Rattle.cedar_extensions.specs.Outcomes.{Returned, error_outcome, outcome, is_lawful_error, is_lawful, AllowsBy}
use Rattle.cedar_extensions.specs.Outcomes.{AtMostOne, OnlyLawful}
use Rattle.cedar_extensions.specs.Answers.{returned_answer, AnswersBy, AsksOf}
use Rattle.cedar_extensions.specs.Callees.{CalleeAnswers}
use Rattle.cedar_extensions.specs.Functions.{CanAnswer}
use Rattle.cedar_extensions.specs.Extensions.{standard_of, made_calls_of, calls_of}
use Rattle.cedar_extensions.specs.Standard.{StandardFirst}
use Rattle.cedar_standard_functions.specs.Laws.{IsLawful}
use Rattle.cedar_standard_functions.specs.Standard.{answer_of}
use Rattle.cedar_standard_functions.specs.StandardLaws.{are_lawful}
use Rattle.cedar_standard_functions.specs.declared.function.StandardFunction.{StandardFunction}

-- ---- outcomes are those of the model

lookup_kind : (e : ExtensionFunctionLookupError) → Some (function_errs function_does_not_exist)
    ≡ failure_answer (failure_kind (lookup_failure e))
unfolding failure_answer failure_kind
lookup_kind (lookups.FuncDoesNotExist e) = refl
lookup_kind (lookups.Memory e) = refl

overflow_kind : (e : IntegerOverflowError) → Some (function_errs integer_overflow)
    ≡ failure_answer (failure_kind (overflow_failure e))
unfolding failure_answer failure_kind
overflow_kind (overflows.BinaryOp e) = refl
overflow_kind (overflows.UnaryOp e) = refl

error_outcome_model : (e : EvaluationError) → error_outcome e ≡ failure_answer (failure_kind (failure_of e))
unfolding failure_answer failure_kind
error_outcome_model (errors.EntityDoesNotExist e) = refl
error_outcome_model (errors.EntityAttrDoesNotExist e) = refl
error_outcome_model (errors.RecordAttrDoesNotExist e) = refl
error_outcome_model (errors.FailedExtensionFunctionLookup e) = lookup_kind e
error_outcome_model (errors.TypeError e) = refl
error_outcome_model (errors.WrongNumArguments e) = refl
error_outcome_model (errors.IntegerOverflow e) = overflow_kind e
error_outcome_model (errors.UnlinkedSlot e) = refl
error_outcome_model (errors.FailedExtensionFunctionExecution e) = refl
error_outcome_model (errors.NonValue e) = refl
error_outcome_model (errors.RecursionLimit e) = refl
error_outcome_model (errors.Memory e) = refl

-- what a function returned has the outcome that the model reads of its answer
pub outcome_model : (r : Returned) → outcome r ≡ function_answer (returned_answer r)
unfolding function_answer
outcome_model (Ok (outputs.Known v)) = refl
outcome_model (Ok (outputs.Unknown u)) = refl
outcome_model (Err e) = error_outcome_model e

-- ---- answers of one outcome are alike

no_kind : (k : ErrorKind) (o : FunctionAnswer) → None ≡ Some o → ⊥
no_kind k o e = true≢false (sym (ap is_some e))

one_kind : (k l : FailureKind) (o : FunctionAnswer) → failure_answer k ≡ Some o → failure_answer l ≡ Some o → k ≡ l
unfolding failure_answer
one_kind (of_meaning k) (of_meaning l) o e f =
    let s : Some (function_errs k) ≡ Some (function_errs l) = e ∙ sym f in
    let t : k ≡ l = cc s in
    ap of_meaning t
one_kind (of_meaning k) of_residual o e f = absurd (no_kind k o f)
one_kind (of_meaning k) of_limit o e f = absurd (no_kind k o f)
one_kind (of_meaning k) of_memory o e f = absurd (no_kind k o f)
one_kind of_residual l o e f = absurd (true≢false (sym (ap is_some e)))
one_kind of_limit l o e f = absurd (true≢false (sym (ap is_some e)))
one_kind of_memory l o e f = absurd (true≢false (sym (ap is_some e)))

kind_is_error : (k : FailureKind) (o : FunctionAnswer) → failure_answer k ≡ Some o → (l : ErrorKind)
    × (o ≡ function_errs l)
unfolding failure_answer
kind_is_error (of_meaning k) o e = (k, cc e)
kind_is_error of_residual o e = absurd (true≢false (sym (ap is_some e)))
kind_is_error of_limit o e = absurd (true≢false (sym (ap is_some e)))
kind_is_error of_memory o e = absurd (true≢false (sym (ap is_some e)))

error_is_error : (e : EvaluationError) (o : FunctionAnswer) → error_outcome e ≡ Some o → (k : ErrorKind)
    × (o ≡ function_errs k)
error_is_error e o h = kind_is_error (failure_kind (failure_of e)) o (sym (error_outcome_model e) ∙ h)

pub alike_by_outcome : (r s : Returned) (o : FunctionAnswer) → outcome r ≡ Some o → outcome s ≡ Some o
    → AreAlike (returned_answer r) (returned_answer s)
alike_by_outcome (Ok (outputs.Known v)) (Ok (outputs.Known w)) o e f =
    let s : Some (function_gives (abstract_value v.what)) ≡ Some (function_gives (abstract_value w.what)) = e ∙ sym f in
    let t : abstract_value v.what ≡ abstract_value w.what = cc s in
    t
alike_by_outcome (Ok (outputs.Known v)) (Ok (outputs.Unknown u)) o e f =
    let s : Some (function_gives (abstract_value v.what))
    ≡ Some (function_asks (rc_str_bytes u.name) (option_map type_view u.type_annotation)) = e ∙ sym f in
    let t : ⊥ = cc s in
    absurd t
alike_by_outcome (Ok (outputs.Known v)) (Err d) o e f =
    let k : (k : ErrorKind) × (o ≡ function_errs k) = error_is_error d o f in
    let s : Some (function_gives (abstract_value v.what)) ≡ Some (function_errs k.0) = e ∙ ap Some k.1 in
    let t : ⊥ = cc s in
    absurd t
alike_by_outcome (Ok (outputs.Unknown u)) (Ok (outputs.Known w)) o e f =
    let s : Some (function_gives (abstract_value w.what))
    ≡ Some (function_asks (rc_str_bytes u.name) (option_map type_view u.type_annotation)) = f ∙ sym e in
    let t : ⊥ = cc s in
    absurd t
alike_by_outcome (Ok (outputs.Unknown u)) (Ok (outputs.Unknown x)) o e f =
    let s : Some (function_asks (rc_str_bytes u.name) (option_map type_view u.type_annotation))
    ≡ Some (function_asks (rc_str_bytes x.name) (option_map type_view x.type_annotation)) = e ∙ sym f in
    let n : rc_str_bytes u.name ≡ rc_str_bytes x.name = cc s in
    let t : option_map type_view u.type_annotation ≡ option_map type_view x.type_annotation = cc s in
    λ i. unknown (n i) (t i)
alike_by_outcome (Ok (outputs.Unknown u)) (Err d) o e f =
    let k : (k : ErrorKind) × (o ≡ function_errs k) = error_is_error d o f in
    let s : Some (function_asks (rc_str_bytes u.name) (option_map type_view u.type_annotation))
    ≡ Some (function_errs k.0) = e ∙ ap Some k.1 in
    let t : ⊥ = cc s in
    absurd t
alike_by_outcome (Err d) (Ok (outputs.Known v)) o e f =
    let k : (k : ErrorKind) × (o ≡ function_errs k) = error_is_error d o e in
    let s : Some (function_gives (abstract_value v.what)) ≡ Some (function_errs k.0) = f ∙ ap Some k.1 in
    let t : ⊥ = cc s in
    absurd t
alike_by_outcome (Err d) (Ok (outputs.Unknown u)) o e f =
    let k : (k : ErrorKind) × (o ≡ function_errs k) = error_is_error d o e in
    let s : Some (function_asks (rc_str_bytes u.name) (option_map type_view u.type_annotation))
    ≡ Some (function_errs k.0) = f ∙ ap Some k.1 in
    let t : ⊥ = cc s in
    absurd t
alike_by_outcome (Err d) (Err c) o e f =
    one_kind (failure_kind (failure_of d)) (failure_kind (failure_of c)) o (sym (error_outcome_model d) ∙ e)
    (sym (error_outcome_model c) ∙ f)

-- ---- a lawful answer has an outcome, besides running out of memory

lawful_error : (e : EvaluationError) → is_lawful_error e ≡ true → fails (failure_of e) ≢ fails out_of_memory
    → (o : FunctionAnswer) × (error_outcome e ≡ Some o)
lawful_error (errors.EntityDoesNotExist e) h m = (_, refl)
lawful_error (errors.EntityAttrDoesNotExist e) h m = (_, refl)
lawful_error (errors.RecordAttrDoesNotExist e) h m = (_, refl)
lawful_error (errors.FailedExtensionFunctionLookup e) h m = (_, refl)
lawful_error (errors.TypeError e) h m = (_, refl)
lawful_error (errors.WrongNumArguments e) h m = (_, refl)
lawful_error (errors.IntegerOverflow e) h m = (_, refl)
lawful_error (errors.UnlinkedSlot e) h m = (_, refl)
lawful_error (errors.FailedExtensionFunctionExecution e) h m = (_, refl)
lawful_error (errors.NonValue e) h m = absurd (true≢false (sym h))
lawful_error (errors.RecursionLimit e) h m = absurd (true≢false (sym h))
lawful_error (errors.Memory e) h m = absurd (m refl)

pub lawful_outcome : (r : Returned) → is_lawful r ≡ true → returned_answer r ≢ fails out_of_memory
    → (o : FunctionAnswer) × (outcome r ≡ Some o)
lawful_outcome (Ok (outputs.Known v)) h m = (_, refl)
lawful_outcome (Ok (outputs.Unknown u)) h m = (_, refl)
lawful_outcome (Err e) h m = lawful_error e h m

no_outcome : (d : Failure) (o : FunctionAnswer) → d ≡ recursion_limit → failure_answer (failure_kind d) ≡ Some o → ⊥
unfolding failure_answer failure_kind
no_outcome d o e h = true≢false (sym (ap is_some (ap (λ (d : Failure). failure_answer (failure_kind d)) (sym e) ∙ h)))

limited_error : (e : EvaluationError) → is_lawful_error e ≡ true → fails (failure_of e) ≡ limit → ⊥
limited_error e h f =
    let is : failure_of e ≡ recursion_limit = cc f in
    let o : (o : FunctionAnswer) × (error_outcome e ≡ Some o) =
    lawful_error e h (λ (m : fails (failure_of e) ≡ fails out_of_memory). let d : ⊥ = cc m in d) in
    no_outcome (failure_of e) o.0 is (sym (error_outcome_model e) ∙ o.1)

limited : (r : Returned) → is_lawful r ≡ true → returned_answer r ≡ limit → ⊥
limited (Ok (outputs.Known v)) h e =
    let q : ⊥ = cc e in
    q
limited (Ok (outputs.Unknown u)) h e =
    let q : ⊥ = cc e in
    q
limited (Err e) h f = limited_error e h f

-- ---- a stored function

module _ (n : ℕ) (post : Bor (List Placed) → Returned → Type 0) (lawful : OnlyLawful n post) where
  allowed : (vs : List Represented) (a : Answer) → AnswersBy n post vs a
      → (r : Returned) × (o : FunctionAnswer) × (returned_answer r ≡ a) × (outcome r ≡ Some o)
      × AllowsBy n post (map abstract_value vs) o
  allowed vs a h =
      let finds : returned_answer h.1 ≢ fails out_of_memory = λ e. h.6 (sym h.5 ∙ e) in
      let o : (o : FunctionAnswer) × (outcome h.1 ≡ Some o) = lawful_outcome h.1 (lawful h.0 h.1 h.2 h.4) finds in
      (h.1, o.0, h.5, o.1, (h.0, h.1, h.2, ap (map abstract_value) h.3, h.4, o.1))

  stored_alike : AtMostOne n post → (vs ws : List Represented) (a b : Answer) → map abstract_value vs
      ≡ map abstract_value ws
      → AnswersBy n post vs a → AnswersBy n post ws b → AreAlike a b
  stored_alike one vs ws a b e h k =
      let x : (r : Returned) × (o : FunctionAnswer) × (returned_answer r ≡ a) × (outcome r ≡ Some o)
      × AllowsBy n post (map abstract_value vs) o = allowed vs a h in
      let y : (r : Returned) × (o : FunctionAnswer) × (returned_answer r ≡ b) × (outcome r ≡ Some o)
      × AllowsBy n post (map abstract_value ws) o = allowed ws b k in
      let same : x.1 ≡ y.1 = one (map abstract_value vs) x.1 y.1 x.4
      (subst (λ (zs : List AbstractValue). AllowsBy n post zs y.1) (sym e) y.4) in
      let alike : AreAlike (returned_answer x.0) (returned_answer y.0) =
      alike_by_outcome x.0 y.0 x.1 x.3 (y.3 ∙ ap Some (sym same)) in
      subst (λ (c : Answer). AreAlike c b) x.2 (subst (λ (d : Answer). AreAlike (returned_answer x.0) d) y.2 alike)

  stored_no_limit : (vs : List Represented) → AnswersBy n post vs limit → ⊥
  stored_no_limit vs h = limited h.1 (lawful h.0 h.1 h.2 h.4) h.5

returned_sound : (r : Returned) (p : PartialValue) → returned_answer r ≡ answers p → IsSoundPart p
returned_sound (Ok (outputs.Known v)) p e =
    let q : value v.what ≡ p = cc e in
    subst IsSoundPart q v.sound
returned_sound (Ok (outputs.Unknown u)) p e =
    let q : residual (unknown (rc_str_bytes u.name) (option_map type_view u.type_annotation)) ≡ p = cc e in
    subst IsSoundPart q refl
returned_sound (Err d) p e =
    let q : ⊥ = cc e in
    absurd q

returned_unknown : (r : Returned) (p : PartialValue) → returned_answer r ≡ answers p → HoldsUnknown p
returned_unknown (Ok (outputs.Known v)) p e =
    let q : value v.what ≡ p = cc e in
    subst HoldsUnknown q tt
returned_unknown (Ok (outputs.Unknown u)) p e =
    let q : residual (unknown (rc_str_bytes u.name) (option_map type_view u.type_annotation)) ≡ p = cc e in
    subst HoldsUnknown q refl
returned_unknown (Err d) p e =
    let q : ⊥ = cc e in
    absurd q

-- ---- the built-in

asks_for : (o : Option Text) (v : AbstractValue) → (a : Answer) → a
    ≡ expecting o (wrong_type string_type [] v) (λ t. answers_residual (unknown t None))
    → ((a ≢ limit) × (a ≢ fails out_of_memory)) × ((p : PartialValue) → a ≡ answers p → IsSoundPart p × HoldsUnknown p)
unfolding expecting
asks_for None v a e = (
  (λ (f : a ≡ limit). let d : ⊥ = cc (e, f) in d, λ (f : a ≡ fails out_of_memory). let d : ⊥ = cc (e, f) in d),
  λ p
      f. let d : ⊥ = cc (e, f) in absurd d,
)
asks_for (Some t) v a e = (
  (λ (f : a ≡ limit). let d : ⊥ = cc (e, f) in d, λ (f : a ≡ fails out_of_memory). let d : ⊥ = cc (e, f) in d),
  λ p
      f. let q : residual (unknown t None) ≡ p = cc (e, f) in (subst IsSoundPart q refl, subst HoldsUnknown q refl),
)

asks_facts : (vs : List Represented) (a : Answer) → AsksOf vs a
    → ((a ≢ limit) × (a ≢ fails out_of_memory)) × ((p : PartialValue) → a ≡ answers p → IsSoundPart p × HoldsUnknown p)
asks_facts [] a h = absurd h
asks_facts (v ∷ []) a h = asks_for (text_of (abstract_value v)) (abstract_value v) a h
asks_facts (v ∷ (w ∷ vs)) a h = absurd h

alike_itself : (a : Answer) → AreAlike a a
alike_itself (answers (value v)) = refl
alike_itself (answers (residual r)) = refl
alike_itself (fails e) = refl

asks_alike : (vs ws : List Represented) (a b : Answer) → map abstract_value vs ≡ map abstract_value ws → AsksOf vs a
    → AsksOf ws b → AreAlike a b
asks_alike [] ws a b e h k = absurd h
asks_alike (v ∷ []) [] a b e h k = absurd k
asks_alike (v ∷ []) (w ∷ []) a b e h k =
    let same : abstract_value v ≡ abstract_value w = cc e in
    let one : a ≡ b = h ∙ ap (λ (u : AbstractValue). expecting (text_of u) (wrong_type string_type [] u)
    (λ t. answers_residual (unknown t None))) same ∙ sym k in
    subst (AreAlike a) one (alike_itself a)
asks_alike (v ∷ []) (w ∷ (x ∷ ws)) a b e h k = absurd k
asks_alike (v ∷ (w ∷ vs)) ws a b e h k = absurd h

-- ---- functions, and extensions

callee_alike : {X : Type 0} {F : X → Type 0} {g : _} (c : Callee X F g) (vs ws : List Represented) (a b : Answer)
    → map abstract_value vs ≡ map abstract_value ws → CalleeAnswers c vs a → CalleeAnswers c ws b → AreAlike a b
callee_alike {g = g} (callees.Stored f) vs ws a b e h k =
    stored_alike f.arity (λ args r. g.post (f.func.vtable, f.func.value) (args, tt) r) f.lawful f.functional vs ws a b e
    h k
callee_alike callees.Unknown vs ws a b e h k = asks_alike vs ws a b e h k

callee_no_limit : {X : Type 0} {F : X → Type 0} {g : _} (c : Callee X F g) (vs : List Represented)
    → CalleeAnswers c vs limit → ⊥
callee_no_limit {g = g} (callees.Stored f) vs h =
    stored_no_limit f.arity (λ args r. g.post (f.func.vtable, f.func.value) (args, tt) r) f.lawful vs h
callee_no_limit callees.Unknown vs h = (asks_facts vs limit h).0.0 refl

callee_finds_memory : {X : Type 0} {F : X → Type 0} {g : _} (c : Callee X F g) (vs : List Represented)
    → CalleeAnswers c vs (fails out_of_memory) → ⊥
callee_finds_memory (callees.Stored f) vs h = h.6 refl
callee_finds_memory callees.Unknown vs h = (asks_facts vs (fails out_of_memory) h).0.1 refl

callee_sound : {X : Type 0} {F : X → Type 0} {g : _} (c : Callee X F g) (vs : List Represented) (p : PartialValue)
    → CalleeAnswers c vs (answers p) → IsSoundPart p
callee_sound (callees.Stored f) vs p h = returned_sound h.1 p h.5
callee_sound callees.Unknown vs p h = ((asks_facts vs (answers p) h).1 p refl).0

callee_unknown : {X : Type 0} {F : X → Type 0} {g : _} (c : Callee X F g) (vs : List Represented) (p : PartialValue)
    → CalleeAnswers c vs (answers p) → HoldsUnknown p
callee_unknown (callees.Stored f) vs p h = returned_unknown h.1 p h.5
callee_unknown callees.Unknown vs p h = ((asks_facts vs (answers p) h).1 p refl).1

-- ---- the standard functions first

first_alike : (o : Option StandardFunction) (Own Other : Type 0) (vs ws : List Represented) (a b : Answer)
    → map abstract_value vs ≡ map abstract_value ws → StandardFirst o Own vs a → StandardFirst o Other ws b
    → (Own → Other → AreAlike a b) → AreAlike a b
first_alike None Own Other vs ws a b e h k own = own h k
first_alike (Some f) Own Other vs ws a b e h k own =
    let one : a ≡ b = h ∙ ap (answer_of f) e ∙ sym k in
    subst (AreAlike a) one (alike_itself a)

-- what is never answered by another function, nor lawful, is never answered
first_never : (o : Option StandardFunction) (Own : Type 0) (vs : List Represented) (a : Answer)
    → StandardFirst o Own vs a → (IsLawful a → ⊥) → (Own → ⊥) → ⊥
first_never None Own vs a h never own = own h
first_never (Some f) Own vs a h never own = never (subst IsLawful (sym h) (are_lawful f (map abstract_value vs)))

first_such : (Such : PartialValue → Type 0) (o : Option StandardFunction) (Own : Type 0) (vs : List Represented)
    (p : PartialValue) → ((a : Answer) → IsLawful a → a ≡ answers p → Such p) → StandardFirst o Own vs (answers p)
    → (Own → Such p) → Such p
first_such Such None Own vs p lawful h own = own h
first_such Such (Some f) Own vs p lawful h own =
    lawful (answer_of f (map abstract_value vs)) (are_lawful f (map abstract_value vs)) (sym h)

module _ {X : Type 0} {F : X → Type 0} {g : _} (x : Extensions X F g) where
  made_functional : AreFunctional (made_calls_of x)
  made_functional n vs ws a b e h k =
      let s : Some h.0 ≡ Some k.0 = sym h.1 ∙ k.1 in
      let one : h.0 ≡ k.0 = cc s in
      callee_alike k.0.callee vs ws a b e (subst (λ f. CanAnswer f vs a) one h.2) k.2

  -- each function answers alike to equal arguments
  pub calls_functional : AreFunctional (calls_of x)
  calls_functional n vs ws a b e h k =
      first_alike (standard_of x n) (made_calls_of x n vs a) (made_calls_of x n ws b) vs ws a b e h k
      (made_functional n vs ws a b e)

  -- none answers the recursion limit
  pub calls_meet_no_limit : FunctionsMeetNoLimit (calls_of x)
  calls_meet_no_limit n vs h =
      first_never (standard_of x n) (made_calls_of x n vs limit) vs limit h (λ l. l.meets_no_limit refl)
      (λ own. callee_no_limit own.0.callee vs own.2)

  -- nor out of memory
  pub calls_find_memory : FunctionsFindMemory (calls_of x)
  calls_find_memory n vs h =
      first_never (standard_of x n) (made_calls_of x n vs (fails out_of_memory)) vs (fails out_of_memory) h
      (λ l. l.finds_memory refl) (λ own. callee_finds_memory own.0.callee vs own.2)

  -- each answers a sound value, or a residual that is restricted
  pub calls_sound : (n : Text) (vs : List Represented) (p : PartialValue) → calls_of x n vs (answers p) → IsSoundPart p
  calls_sound n vs p h =
      first_such IsSoundPart (standard_of x n) (made_calls_of x n vs (answers p)) vs p (λ a l. l.sound p) h
      (λ own. callee_sound own.0.callee vs p own.2)

  -- each residual that it answers holds an unknown
  pub calls_hold_unknowns : (n : Text) (vs : List Represented) (p : PartialValue) → calls_of x n vs (answers p)
      → HoldsUnknown p
  calls_hold_unknowns n vs p h =
      first_such HoldsUnknown (standard_of x n) (made_calls_of x n vs (answers p)) vs p (λ a l. l.known p) h
      (λ own. callee_unknown own.0.callee vs p own.2)
