-- The instances of the laws' premises.
use Rattle.std.specs.Prelude.{◌≡◌, ℕ, pos, ◌≤◌, Bool, true, false, cond, List, map, Option}
use Rattle.std.specs.Prelude.{Some, None, codes}
use Rattle.std.proofs.Common.{refl, subst, sym, ap, arith}
use Rattle.std.proofs.lemmas.Slice.Eq.{bytes_eq-Decides}
use Rattle.cedar_model.specs.Terms.{Text, EntityName, entity_literal, context, Term, variable, unknown, get_attribute}
use Rattle.cedar_model.specs.Terms.{record_of, bool_literal}
use Rattle.cedar_model.specs.Terms.{long_literal, long_type}
use Rattle.cedar_model.specs.Values.{plain, Represented, expression_of, abstract_value}
use Rattle.cedar_model.specs.Values.{plain_represented}
use Rattle.cedar_model.specs.Shapes.{have_unknown_at}
use Rattle.cedar_model.specs.Outcomes.{text_eq, entity_eq, function_failed}
use Rattle.cedar_model.specs.World.{Extensions, function_asks, function_errs, function_gives}
use Rattle.cedar_model.specs.Failures.{PartialValue, value, residual, Answer, answers, limit, answers_bool}
use Rattle.cedar_model.specs.Failures.{answers_residual, fails, function_has_failed, part_expression}
use Rattle.cedar_model.specs.Settings.{ContextPart, absent_context, known_context, residual_context, StoredEntity}
use Rattle.cedar_model.specs.Settings.{Setting, found_in, part_at, printed_entity}
use Rattle.cedar_model.specs.Chains.{substituted, value_for, at_step}
use Rattle.cedar_model.specs.Rules
use Rattle.cedar_model.specs.Agreement
use Rattle.cedar_model.specs.Agreement.{IsCompletion, AgreesAt, height}
use Rattle.cedar_model.specs.laws.Levels.{FunctionsAnswer}
use Rattle.cedar_model.specs.Restricted.{IsSound, IsSoundPart, first_disallowed, or_else}
use Rattle.cedar_model.specs.laws.Restricted.{HoldsUnknown}
use Rattle.cedar_model.specs.Depth.{substituted_height}
use Rattle.cedar_model.specs.Printing.{unquoted, id_here, with_byte, read_entity}
use Rattle.cedar_model.specs.examples.Instances
use Rattle.cedar_model.specs.examples.Setting.{some_calls, some_extensions, user}
use Rattle.cedar_model.proofs.Computed.{opened, meaning_opened, some_answer}
use Rattle.cedar_model.proofs.Total.{total}
use Rattle.cedar_model.proofs.Printed.{come_back}
use Rattle.cedar_model.proofs.Injections.{none_is_not_some}

-- an answer that computes, with any functions that answer
pub computed_with : (s : Setting) (calls : Rules.StoredCalls) (callable : FunctionsAnswer calls s.extensions.arity)
    (n : ℕ) (t : Term) (a : Answer) → (total s calls callable n t).0 ≡ a → Rules.Runs s calls n t a
computed_with s calls callable n t a e = subst (Rules.Runs s calls n t) e (total s calls callable n t).1

pub asking_answer : (arity : Text → Option ℕ) → FunctionsAnswer Instances.asking_calls arity
asking_answer arity f vs e = (Instances.asking f, refl)

-- ---- the world completes what is given

attribute_ok : (b : Bool) → AgreesAt some_extensions Instances.asked_functions Instances.completing
    (cond b (Some (residual (unknown (codes "u") None))) None) (cond b (Some (plain (long_literal (pos 7)))) None)
unfolding meaning_opened Instances.value_of_unknown unquoted id_here with_byte read_entity
attribute_ok true = refl
attribute_ok false = tt

facts_ok : Agreement.AgreesWithFacts some_extensions Instances.asked_functions Instances.completing Instances.waiting_facts
    Instances.known_facts
unfolding meaning_opened
facts_ok = record {
  ancestors_agree = λ e. refl;
  attributes_agree = λ k. attribute_ok (text_eq k (codes "f"));
  tags_agree = λ k. tt;
}

missing_ok : (e : EntityName) → Instances.completing.sigma (printed_entity e) ≡ plain (entity_literal e)
unfolding Instances.value_of_unknown
missing_ok e = ap (λ o. Instances.value_of_unknown o (printed_entity e)) (come_back e)

store_by : (is_partial : Bool) (e : EntityName) (b : Bool) →
    Agreement.AgreesWithFound some_extensions Instances.asked_functions Instances.completing e
    (found_in (cond b (Some Instances.waiting_facts) None) is_partial) (cond b (Some Instances.known_facts) None)
unfolding found_in
store_by is_partial e true = facts_ok
store_by false e false = refl
store_by true e false = missing_ok e

abbrev the_part : PartialValue
the_part = residual (unknown (codes "u") None)

is_facts : (b : Bool) (x : StoredEntity) → cond b (Some Instances.waiting_facts) None ≡ Some x →
    Instances.waiting_facts ≡ x
is_facts true x e = cc
is_facts false x e = absurd (cc)

is_part : (b : Bool) (p : PartialValue) → cond b (Some the_part) None ≡ Some p → the_part ≡ p
is_part true p e = cc
is_part false p e = absurd (cc)

at_attributes : (P : PartialValue → Type 0) → P the_part → (k : Text) (p : PartialValue) →
    part_at k Instances.waiting_facts.attributes ≡ Some p → P p
unfolding part_at
at_attributes P h k p e = subst P (is_part (text_eq k (codes "f")) p e) h

at_tags : (P : PartialValue → Type 0) (k : Text) (p : PartialValue) →
    part_at k Instances.waiting_facts.tags ≡ Some p → P p
unfolding part_at
at_tags P k p e = absurd (none_is_not_some e)

-- the one stored part is such
stored_such : (is_partial : Bool) (P : PartialValue → Type 0) → P the_part →
    Agreement.EachStored P (Instances.waiting is_partial).store
stored_such is_partial P h e x k p g =
    let f = is_facts (entity_eq e Instances.waiting_entity) x g in
    subst (λ z. (part_at k z.attributes ≡ Some p → P p) × (part_at k z.tags ≡ Some p → P p)) f (
      at_attributes P h k p,
      at_tags P k p,
    )

is_seven : (b : Bool) (v : Represented) → cond b (Some Instances.seven) None ≡ Some v → Instances.seven ≡ v
is_seven true v e = cc
is_seven false v e = absurd (cc)

context_ok : (is_partial : Bool) → Agreement.AgreesWithContext some_extensions Instances.asked_functions Instances.completing
    (Instances.waiting is_partial).request.context_part
unfolding meaning_opened Instances.value_of_unknown unquoted id_here with_byte read_entity
context_ok is_partial = refl

principal_ok : Instances.completing.sigma (codes "principal") ≡ plain (entity_literal (user (codes "a")))
unfolding Instances.value_of_unknown unquoted id_here with_byte read_entity
principal_ok = refl

text_is : (a b : Text) → text_eq a b ≡ true → a ≡ b
text_is a b e = (bytes_eq-Decides a b).0 e

-- the map's one name
named_u : (n : Text) (b : Bool) → text_eq n (codes "u") ≡ b → (v : Represented) →
    cond b (Some Instances.seven) None ≡ Some v → Instances.completing.sigma n ≡ abstract_value v
unfolding Instances.value_of_unknown unquoted id_here with_byte read_entity
named_u n true e v f =
    subst (λ k. Instances.completing.sigma k ≡ abstract_value v) (sym (text_is n (codes "u") e))
    (ap abstract_value (is_seven true v f))
named_u n false e v f = absurd (none_is_not_some f)

pub completes : (is_partial : Bool) → IsCompletion Instances.asked_functions Instances.completing (Instances.waiting is_partial)
unfolding meaning_opened Instances.value_of_unknown unquoted id_here with_byte read_entity
completes is_partial = record {
  agreement = record {
    request_agrees =
        record {
          principal_agrees = (
            principal_ok,
            refl,
          );
          action_agrees = refl;
          resource_agrees = refl;
          context_agrees = context_ok is_partial;
        };
    store_agrees = λ e. store_by is_partial e (entity_eq e Instances.waiting_entity);
    map_agrees = λ n v e. named_u n (text_eq n (codes "u")) refl v e;
    context_fits = (refl, tt);
    store_fits = stored_such is_partial (Agreement.FitsPart some_extensions Instances.asked_functions Instances.completing) tt;
  };
  values = record {
    context_faithful = tt;
    store_faithful = stored_such is_partial (Agreement.IsFaithfulPart some_extensions Instances.asked_functions) tt;
    map_faithful =
        λ n v e. subst (Agreement.IsFaithful some_extensions Instances.asked_functions) (is_seven (text_eq n (codes "u")) v e) tt;
  };
}

-- ---- functions

abbrev asking_by : Bool → Bool → Answer
asking_by b c =
    cond b (answers_residual (unknown (codes "q") (Some long_type)))
    (cond c (fails (function_has_failed (codes "ext") (codes "no"))) (answers_bool true))

pub functions_answer : Instances.FunctionsCanAnswer
unfolding meaning_opened Agreement.function_answer Agreement.failure_answer
functions_answer = (
  asking_answer,
  agrees,
  λ X. faithful X,
  λ f vs e. no_limit (text_eq f (codes "ask")) (text_eq f (codes "fail")) (sym e),
)
  where
    agrees : Agreement.AgreesWithFunctions Instances.asked_functions Instances.asking_calls
    agrees f vs a e =
        subst (λ b. Agreement.function_answer b ≡ Some (Instances.asked_functions f (map abstract_value vs))) (sym e)
        (by (text_eq f (codes "ask")) (text_eq f (codes "fail")))
      where
        by : (b c : Bool) → Agreement.function_answer (asking_by b c) ≡ Some
            (cond b (function_asks (codes "q") (Some long_type)) (cond c (function_errs function_failed)
            (function_gives (plain (bool_literal true)))))
        by true c = refl
        by false true = refl
        by false false = refl

    value_of : (b c : Bool) (v : Represented) → answers (value v) ≡ asking_by b c →
        plain_represented (bool_literal true) ≡ v
    value_of true c v e = absurd (cc)
    value_of false true v e = absurd (cc)
    value_of false false v e = cc

    faithful : (X : Extensions) → Agreement.AnswerFaithfully X Instances.asked_functions Instances.asking_calls
    faithful X f vs v h e =
        subst (Agreement.IsFaithful X Instances.asked_functions) (value_of (text_eq f (codes "ask"))
        (text_eq f (codes "fail")) v e) tt

    no_limit : (b c : Bool) → asking_by b c ≡ limit → ⊥
    no_limit true c e = cc
    no_limit false true e = cc
    no_limit false false e = cc

pub none_must : Instances.NoFunctionMustAnswer
none_must = (λ f vs e. absurd (none_is_not_some e), λ f vs e. e)

-- ---- soundness and heights

abbrev IsGood : PartialValue → Type 0
IsGood p =
    IsSoundPart p × HoldsUnknown p × (substituted_height (λ n. cond (text_eq n (codes "u"))
    (Some Instances.seven) None) p ≤ 2)

abbrev ContextHolds : ContextPart → Type 0
ContextHolds absent_context = Unit {0}
ContextHolds (known_context fs) = Unit {0}
ContextHolds (residual_context fs) = have_unknown_at fs ≡ true

sound_answer : (f : Text) (vs : List Represented) (p : PartialValue) → answers p ≡ Instances.asking f → IsGood p
unfolding part_expression substituted value_for
sound_answer f vs p e = by (text_eq f (codes "ask")) (text_eq f (codes "fail")) e
  where
    answered : (q : PartialValue) → answers p ≡ answers q → q ≡ p
    answered q g = cc

    by : (b c : Bool) → answers p ≡ asking_by b c → IsGood p
    by true c g = subst IsGood (answered _ g) (refl, refl, omega arith)
    by false true g = absurd (cc)
    by false false g = subst IsGood (answered _ g) (tt, tt, omega arith)

pub waiting_sound : Instances.WaitingIsSound
unfolding part_expression substituted value_for
waiting_sound is_partial = (
  record {
    context_sound = refl;
    stored_sound = stored_such is_partial IsSoundPart refl;
    mapped_sound = λ n v e. subst IsSound (is_seven (text_eq n (codes "u")) v e) tt;
    answers_sound = λ f vs p e. (sound_answer f vs p e).0;
  },
  record {
    context_holds = λ fs e. subst (λ c. ContextHolds c) e refl;
    stored_holds = stored_such is_partial HoldsUnknown refl;
    answers_hold = λ f vs p e. (sound_answer f vs p e).1;
  },
  record {
    context_low = omega arith;
    stored_low =
        stored_such is_partial (λ p. substituted_height (λ n. cond (text_eq n (codes "u"))
        (Some Instances.seven) None) p ≤ 2) (omega arith);
    mapped_low =
        λ n v e. subst (λ w. height (expression_of w) ≤ 2) (is_seven (text_eq n (codes "u")) v e) (omega arith);
    answers_low = λ f vs p e. (sound_answer f vs p e).2;
  },
)

-- ---- depth

bool_low : (m : Text → Option Represented) (f : Text) (vs : List Represented) (p : PartialValue) →
    some_calls f vs (answers p) → value (plain_represented (bool_literal true)) ≡ p
bool_low m f vs p e = cc

is_nested : (b : Bool) (v : Represented) → cond b (Some Instances.nested_set) None ≡ Some v → Instances.nested_set ≡ v
is_nested true v e = cc
is_nested false v e = absurd (cc)

pub projected_four : Instances.ProjectedValueNeedsFour
unfolding opened substituted value_for
projected_four = (
  record {
    context_sound = tt;
    stored_sound = λ e x k p g. absurd (none_is_not_some g);
    mapped_sound =
        λ n v e. subst IsSound (is_nested (text_eq n (codes "x")) v e) ((tt, tt), (((tt, tt), (tt, tt)), tt));
    answers_sound = λ f vs p e. subst IsSoundPart (bool_low (λ n. None) f vs p e) tt;
  },
  record {
    context_low = omega arith;
    stored_low = λ e x k p g. absurd (none_is_not_some g);
    mapped_low =
        λ n v e. subst (λ w. height (expression_of w) ≤ 3) (is_nested (text_eq n (codes "x")) v e) (omega arith);
    answers_low =
        λ f vs p e. subst (λ q. substituted_height Instances.mapped_high.map q ≤ 3) (bool_low (λ n. None) f vs p e)
        (omega arith);
  },
  computed_with Instances.mapped_high some_calls
      (some_answer some_extensions.arity) 3 Instances.projects_mapped limit refl,
  computed_with Instances.mapped_high some_calls
      (some_answer some_extensions.arity) 4 Instances.projects_mapped _ refl,
)

pub loop_needs_more : Instances.VariablesInContextsNeedMore
unfolding opened substituted value_for
loop_needs_more = (
  record {
    context_low = omega arith;
    stored_low = λ e x k p g. absurd (none_is_not_some g);
    mapped_low = λ n v e. absurd (none_is_not_some e);
    answers_low =
        λ f vs p e. subst (λ q. substituted_height (λ n. None) q ≤ 4) (bool_low (λ n. None) f vs p e) (omega arith);
  },
  refl,
  computed_with Instances.looped some_calls (some_answer some_extensions.arity) 9 Instances.follows_loop limit refl,
)

abbrev nesting_answer : FunctionsAnswer Instances.nesting_calls Instances.nesting_extensions.arity
nesting_answer f vs e = (answers (value Instances.deeper_set), refl)

nested_only : (f : Text) (vs : List Represented) (p : PartialValue) → Instances.nesting_calls f vs (answers p) →
    value Instances.deeper_set ≡ p
nested_only f vs p e = cc

pub context_grows : Instances.ContextGrows
unfolding opened substituted value_for
context_grows = (
  record {
    context_sound = refl;
    stored_sound = λ e x k p g. absurd (none_is_not_some g);
    mapped_sound = λ n v e. absurd (none_is_not_some e);
    answers_sound = λ f vs p e. subst IsSoundPart (nested_only f vs p e)
        ((tt, tt), (((tt, tt), (((tt, tt), (tt, tt)), tt)), tt));
  },
  record {
    context_low = omega arith;
    stored_low = λ e x k p g. absurd (none_is_not_some g);
    mapped_low = λ n v e. absurd (none_is_not_some e);
    answers_low = λ f vs p e. subst (λ q. substituted_height (λ n. None) q ≤ 4) (nested_only f vs p e) (omega arith);
  },
  (
    λ e. cc,
    5,
    computed_with Instances.calling Instances.nesting_calls nesting_answer 5
        (record_of Instances.calling_context) (answers (residual (record_of Instances.grown_context))) refl,
  ),
  computed_with (at_step Instances.calling.extensions Instances.calling.resolution
      (Instances.request_with (residual_context Instances.grown_context))
      Instances.calling.store Instances.calling.map) Instances.nesting_calls nesting_answer 6
      (get_attribute (variable context) (codes "a")) limit refl,
)

-- ---- disallowed parts

pub variable_disallowed : Instances.VariableIsDisallowed
unfolding first_disallowed or_else
variable_disallowed = refl

pub first_key_disallowed : Instances.FirstKeyIsDisallowed
unfolding first_disallowed or_else
first_key_disallowed = refl
