-- What is decided by the owner's policy once it is known who asks.
use Rattle.std.proofs.Common.{◌≡◌, ◌↔◌, refl, sym, ap, subst, ◌∙◌, ℕ, Bool, true, false, cond, List, [], ◌∷◌, map, Option, Some, None, option_map, codes, Result, Ok, Err, IfOk, IfSome}
use Rattle.std.proofs.lemmas.Option.{none-some, cond_some}
use Rattle.std.specs.Cmp.Lexicographic.{same_text}
use Rattle.std.specs.Map.{lookup, KeepsOthers}
use Rattle.std.specs.Rc.{rc_str_bytes}
use Rattle.std.specs.declared.alloc.Global.{Global}
use Rattle.std.specs.declared.rc.RcStr.{RcStr}
use Rattle.cedar_policy_core.specs.Model.Terms.{Text, EntityName, entity_literal}
use Rattle.cedar_policy_core.specs.Model.Values.{plain, no_values_at, Represented, plain_represented, abstract_value}
use Rattle.cedar_policy_core.specs.Model.Keys.{value_eq}
use Rattle.cedar_policy_core.specs.Lemmas.Keys.{value_eq-true, value_eq-self}
use Rattle.cedar_policy_core.specs.Model.Outcomes
use Rattle.cedar_policy_core.specs.Model.Outcomes.{Outcome, gives_bool, text_eq}
use Rattle.cedar_policy_core.specs.Model.World
use Rattle.cedar_policy_core.specs.Model.World.{World, Extensions}
use Rattle.cedar_policy_core.specs.Model.Meaning
use Rattle.cedar_policy_core.specs.Model.Meaning.{meaning, and_then_bool}
use Rattle.cedar_policy_core.specs.Model.Settings.{Resolution, RequestPart, Store, Setting, found_in}
use Rattle.cedar_policy_core.specs.Model.Rules.{StoredCalls}
use Rattle.cedar_policy_core.specs.Model.Agreement.{no_slots, IsFaithful}
use Rattle.cedar_policy_core.specs.Model.Policies as model
use Rattle.cedar_policy_core.specs.Model.Policies.{permit, Judged, allow, deny, decision, ErrorHandling, skip, forbid_on_error, counted}
use Rattle.cedar_policy_core.specs.Model.Policies.{counted_each}
use Rattle.cedar_policy_core.specs.Model.Configurations.{Configuration, configured}
use Rattle.cedar_policy_core.specs.Model.Reports.{given_decision}
use Rattle.cedar_policy_core.specs.Model.Chains.{Mapping, ChainStep, at_step, no_values}
use Rattle.cedar_policy_core.specs.Model.Headline.{Premises}
use Rattle.cedar_policy_core.specs.Authorizer.Owed.{GivesFaithfulValues, CompletesResiduals, AgreesWithAll, NothingIsOwedOf}
use Rattle.cedar_policy_core.specs.Types.Decision.{Decision}
use Rattle.cedar_policy_core.specs.Authorizer.Decisions.{decision_view}
use Rattle.cedar_policy_core.specs.Ast.Sound.{Placed}
use Rattle.cedar_policy_core.specs.Ast.Policies.{PolicyView, condition_term, decides_as}
use Rattle.cedar_policy_core.specs.Entities.Stores.{no_entities}
use Rattle.cedar_policy_core.specs.Extensions.StandardFunctions.{standard_answers}
use Rattle.cedar_policy_core.specs.Ast.Substitutions.{values_for}
use Rattle.cedar_policy_core.specs.Types.PartialResponse.{PartialResponse}
use Rattle.cedar_policy_core.specs.Authorizer.Rows.{rows_view}
use Rattle.cedar_policy_core.specs.Authorizer.Headline.{IsHeadline}
use Rattle.cedar_policy_core.specs.Authorizer.Running.{errors_of}
use Rattle.cedar_example_service.specs.Stages.{owner_may, from_someone, one_value, values_of, IsDecidedIn, IsDecidedFor}
use Rattle.cedar_example_service.specs.declared.stop.Stop.{Stop}

-- ---- what is given: no entity, and a world in which this user asks

abbrev pub no_store : Store
no_store = record { entity = no_entities; is_partial = false }

-- a step by these values over this store
abbrev pub a_step : Resolution → Mapping → Store → ChainStep
a_step resolution values store = record { mapping = values; store = store; resolution = resolution }

-- each unknown is the user, who is the principal
abbrev pub user_asks : EntityName → EntityName → EntityName → World
user_asks user action resource = record {
  principal_entity = user;
  action_entity = action;
  resource_entity = resource;
  context_record = no_values_at;
  store = λ e. None;
  sigma = λ n. plain (entity_literal user);
}

-- the value that a step brings is the user
is_user : (user : EntityName) (n : Text) (v : Represented) → values_of user n ≡ Some v
    → plain_represented (entity_literal user) ≡ v
is_user user n v e = (cond_some (text_eq n (codes "principal")) (plain_represented (entity_literal user)) v e).1

-- what is given holds faithful values
gives : (q : Resolution) (X : Extensions) (user action resource : EntityName)
    → GivesFaithfulValues X standard_answers (from_someone action resource) no_store
    (a_step q (values_of user) no_store ∷ [])
gives q X user action resource = record {
  context_is_faithful = tt;
  store_is_faithful = λ e x k p g. absurd (none-some x g);
  steps_are_faithful = (
    λ n v e. subst (IsFaithful X standard_answers) (is_user user n v e) tt,
    λ e x k p g. absurd (none-some x g),
    tt,
  );
}

completes_store : (X : Extensions) (user action resource : EntityName)
    → CompletesResiduals X standard_answers (user_asks user action resource) no_store
unfolding found_in
completes_store X user action resource = record {
  store_agrees = λ e. refl;
  stored_residuals_fit = λ e x k p g. absurd (none-some x g);
}

-- the world in which this user asks agrees with all of it
agrees : (q : Resolution) (X : Extensions) (owner user action resource : EntityName)
    → AgreesWithAll X (from_someone action resource) no_store (decides_as (owner_may owner) ∷ [])
    (a_step q (values_of user) no_store ∷ []) standard_answers (user_asks user action resource) []
agrees q X owner user action resource = record {
  request_agrees = record {
    principal_agrees = (refl, tt);
    action_agrees = refl;
    resource_agrees = refl;
    context_agrees = refl;
  };
  context_fits = tt;
  first_store_agrees = completes_store X user action resource;
  steps_agree = (
    λ n v e. ap abstract_value (is_user user n v e),
    completes_store X user action resource,
    tt,
  );
  conditions_fit = (((((tt, tt), tt), tt), tt), tt);
  no_limit_is_recorded = tt;
}

-- so the premises of the headline are met: of the standard functions it asks for nothing
premises : (mode : ErrorHandling) (q : Resolution) (X : Extensions) (calls : StoredCalls)
    → NothingIsOwedOf calls X standard_answers → (levels : ℕ) (owner user action resource : EntityName)
    → Premises (configured calls mode q X levels) (from_someone action resource) no_store
    (decides_as (owner_may owner) ∷ []) (a_step q (values_of user) no_store ∷ []) standard_answers
    (user_asks user action resource) []
premises mode q X calls owed levels owner user action resource =
    owed mode q levels (from_someone action resource) no_store (decides_as (owner_may owner) ∷ [])
    (a_step q (values_of user) no_store ∷ []) (user_asks user action resource) [] (gives q X user action resource)
    (agrees q X owner user action resource)

-- ---- what the policy decides in that world

-- `o && true`
abbrev and_true : Outcome → Outcome
and_true o = and_then_bool o (λ t. cond t (and_then_bool (gives_bool true) gives_bool) (gives_bool false))

scope_is : (b : Bool) → and_true (and_true (and_true (gives_bool b))) ≡ gives_bool b
unfolding Outcomes.and_then Outcomes.needing Outcomes.bool_of
scope_is true = refl
scope_is false = refl

-- whether the user is the owner, as the language compares them
abbrev is_owner : EntityName → EntityName → Bool
is_owner user owner = value_eq (plain (entity_literal user)) (plain (entity_literal owner))

condition_means : (X : Extensions) (owner user action resource : EntityName)
    → meaning X standard_answers (user_asks user action resource) no_slots (condition_term (owner_may owner))
    ≡ gives_bool (is_owner user owner)
unfolding Meaning.meaning Meaning.binary_meaning World.variable_value Outcomes.and_then Outcomes.needing
    Outcomes.bool_of
condition_means X owner user action resource = scope_is (is_owner user owner)

-- the policy, where its condition comes out so
abbrev judged_by : Outcome → List Judged
judged_by o = record { id = codes "owner"; effect = permit; verdict_of = model.verdict o } ∷ []

permitted : (mode : ErrorHandling) (b : Bool)
    → decision (map (counted mode) (judged_by (gives_bool b))) ≡ cond b allow deny
unfolding model.verdict model.is_satisfied_by model.some_satisfied model.counted_verdict
permitted skip true = refl
permitted skip false = refl
permitted forbid_on_error true = refl
permitted forbid_on_error false = refl

policy_decides : (mode : ErrorHandling) (X : Extensions) (owner user action resource : EntityName)
    → decision (counted_each mode X standard_answers (user_asks user action resource) (decides_as (owner_may owner) ∷ []))
    ≡ cond (is_owner user owner) allow deny
policy_decides mode X owner user action resource =
    ap (λ o. decision (map (counted mode) (judged_by o))) (condition_means X owner user action resource)
    ∙ permitted mode (is_owner user owner)

-- so it allows exactly the owner
is_allow : (b : Bool) → cond b allow deny ≡ allow → b ≡ true
is_allow true e = refl
is_allow false e = absurd (cc)

same_entity : (d e : EntityName) → plain (entity_literal d) ≡ plain (entity_literal e) → d ≡ e
same_entity d e h = cc

allows_owner : (owner user : EntityName) (d : model.Decision) → cond (is_owner user owner) allow deny ≡ d
    → (d ≡ allow) ↔ (user ≡ owner)
allows_owner owner user d e = (
  λ h. same_entity user owner (value_eq-true _ _ (is_allow (is_owner user owner) (e ∙ h))),
  λ h. sym e ∙ ap (λ b. cond b allow deny)
      (ap (λ u. is_owner u owner) h ∙ value_eq-self (plain (entity_literal owner))),
)

-- ---- what the functions of `stages` answer

-- a decision without errors is that of the policies in each world
pub decided_in : (c : Configuration) (s : Setting) (ps : List model.Policy) (steps : List ChainStep)
    (r : PartialResponse) (o : Option Decision) → IsHeadline c s ps steps r
    → IfSome o (λ d. errors_of r ≡ []) → IfSome o (λ d. given_decision (rows_view r) ≡ Some (decision_view d))
    → IfSome o (λ d. IsDecidedIn c s ps steps (decision_view d))
decided_in c s ps steps r None h none given = tt
decided_in c s ps steps r (Some d) h none given =
    λ ans w p. (h ans w (subst (Premises c s.request s.store ps steps ans w) (sym none) p)).holds.decision_holds
    (decision_view d) given

-- of the owner's policy and the values of a user it allows exactly the owner
module _ (mode : ErrorHandling) (q : Resolution) (X : Extensions) (calls : StoredCalls)
    (owed : NothingIsOwedOf calls X standard_answers) (levels : ℕ) (d : model.Decision) where
  abbrev c : Configuration
  c = configured calls mode q X levels

  abbrev IsDecided : RequestPart → Store → List PolicyView → Mapping → Type 0
  IsDecided r store ps values =
      IsDecidedIn c (at_step X q r store no_values) (map decides_as ps) (a_step q values store ∷ []) d

  pub decided_for_owner : (r : RequestPart) (store : Store) (ps : List PolicyView) (values : Mapping)
      (action resource : EntityName) → r ≡ from_someone action resource → store ≡ no_store
      → IsDecided r store ps values → IsDecidedFor ps values d
  decided_for_owner r store ps values action resource er es h user ev owner ep =
      let h1 = subst (λ x. IsDecided x store ps values) er h in
      let h2 = subst (λ x. IsDecided (from_someone action resource) x ps values) es h1 in
      let h3 = subst (λ x. IsDecided (from_someone action resource) no_store x values) ep h2 in
      let h4 = subst (λ x. IsDecided (from_someone action resource) no_store (owner_may owner ∷ []) x) ev h3 in
      allows_owner owner user d
      (sym (policy_decides mode X owner user action resource)
      ∙ h4 standard_answers (user_asks user action resource)
      (premises mode q X calls owed levels owner user action resource))

-- what holds of each decision holds of the one that is answered
pub each_decision : (P Q : model.Decision → Type 0) → ((d : model.Decision) → P d → Q d)
    → (r : Result (Option Decision) Stop) → IfOk r (λ o. IfSome o (λ d. P (decision_view d)))
    → IfOk r (λ o. IfSome o (λ d. Q (decision_view d)))
each_decision P Q f (Ok None) h = tt
each_decision P Q f (Ok (Some d)) h = f (decision_view d) h
each_decision P Q f (Err e) h = tt

-- ---- a map with one value

-- the map that was empty, with a value under a key
module _ (eq : RcStr Global → RcStr Global → Bool)
    (same : (x y : RcStr Global) → eq x y ≡ text_eq (rc_str_bytes x) (rc_str_bytes y))
    (old new : List (RcStr Global × Placed)) (key : RcStr Global) (v : Placed) (empty : old ≡ [])
    (there : lookup (eq key) new ≡ Some v) (others : KeepsOthers eq (eq key) old new) where
  abbrev value_at : (RcStr Global → Bool) → List (RcStr Global × Placed) → Option Represented
  value_at test es = option_map (λ (p : Placed). p.what) (lookup test es)

  has_value_at : (n : Text) (b : Bool) → text_eq n (rc_str_bytes key) ≡ b
      → values_for new n ≡ cond b (Some v.what) None
  unfolding KeepsOthers
  has_value_at n true h =
      let is_key : n ≡ rc_str_bytes key = same_text _ _ (sym h) in
      ap (λ (m : Text). values_for new m) is_key
      ∙ ap (λ (test : RcStr Global → Bool). value_at test new) (λ i q. sym (same key q) i)
      ∙ ap (option_map (λ (p : Placed). p.what)) there
  has_value_at n false h =
      let own : (x y : RcStr Global) → text_eq n (rc_str_bytes x) ≡ true → text_eq n (rc_str_bytes y) ≡ eq x y =
      λ x y e. ap (λ (m : Text). text_eq m (rc_str_bytes y)) (same_text _ _ (sym e)) ∙ sym (same x y) in
      let apart : (x : RcStr Global) → eq key x ≡ true → text_eq n (rc_str_bytes x) ≡ false =
      λ x e. ap (λ (m : Text). text_eq n m) (sym (same_text _ _ (sym (sym (same key x) ∙ e)))) ∙ h in
      let test : RcStr Global → Bool = λ x. text_eq n (rc_str_bytes x) in
      ap (option_map (λ (p : Placed). p.what)) (others test own apart)
      ∙ ap (value_at test) empty

  pub one_value-put : values_for new ≡ one_value (rc_str_bytes key) v.what
  one_value-put = λ i n. has_value_at n (text_eq n (rc_str_bytes key)) refl i
