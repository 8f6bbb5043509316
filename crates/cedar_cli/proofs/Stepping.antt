-- Steps in turn: what is read of each, and what each makes of the response before.
use Rattle.std.proofs.Common.{◌≡◌, refl, sym, ap, subst, ◌∙◌, List, [], ◌∷◌, ◌++◌, map, Bool, true, false, Option, Some, None, cond, option_map, ℕ, suc, ◌+◌, ◌<◌, length, drop, get_or, arith}
use Rattle.std.proofs.Math.Seq.{drop-cons}
use Rattle.std.specs.Prelude.{Result, Ok, Err, IfOk, is_some}
use Rattle.std.specs.Cmp.Lexicographic.{same_text}
use Rattle.std.specs.Map.{lookup, KeepsOthers}
use Rattle.std.specs.Rc.{rc_str_bytes}
use Rattle.std.specs.declared.alloc.Global.{Global}
use Rattle.std.specs.declared.rc.RcStr.{RcStr}
use Rattle.cedar_model.specs.Terms.{Text}
use Rattle.cedar_model.specs.Values.{Represented}
use Rattle.cedar_model.specs.World as world
use Rattle.cedar_model.specs.Outcomes.{text_eq}
use Rattle.cedar_model.specs.Rules.{StoredCalls}
use Rattle.cedar_model.specs.Configurations.{Configuration}
use Rattle.cedar_model.specs.Chains.{ChainStep}
use Rattle.cedar_values.specs.Sound.{Placed}
use Rattle.cedar_layers.specs.declared.policies.entities.Entities.{Entities}
use Rattle.cedar_layers.specs.Stores.{store_view}
use Rattle.cedar_requests.specs.declared.context.Context.{Context}
use Rattle.cedar_requests.specs.Contexts.{context_values}
use Rattle.cedar_requests.specs.Substitutions.{values_for}
use Rattle.cedar_json_reader.specs.JsonTexts.{SaysSo}
use Rattle.cedar_json_reader.specs.SaidContexts.{context_said, IsContextOf}
use Rattle.cedar_authorizer.specs.declared.responses.partial_response.PartialResponse.{PartialResponse}
use Rattle.cedar_authorizer.specs.ByHand.{TakesChainsFurther, taken_with}
use Rattle.cedar_cli.specs.declared.asked.Source.{Source}
use Rattle.cedar_cli.specs.declared.asked.Step.{Step}
use Rattle.cedar_cli.specs.declared.refusal.Refusal.{Refusal}
use Rattle.cedar_cli.specs.declared.steps.StepInput.{StepInput}
use Rattle.cedar_cli.specs.declared.steps.Taken.{Taken}
use Rattle.cedar_cli.specs.declared.stores.Store.{Store}
use Rattle.cedar_cli.specs.Questions.{levels}
use Rattle.cedar_cli.specs.Steps.{step_map, with_value, AreValuesSaid, IsStoreAfterOr}
use Rattle.cedar_cli.specs.Stages.{response_or, last_in, IsTaken, IsNotTaken, AreTaken, none_taken, one_taken, one_left}
use Rattle.cedar_cli.specs.Inputs.{IsOwnStore, IsInput, EachInput, AreInputs, store_or, AddsTaken, IsIdle, IsTakenBy, GoesOn, AreAllTaken}

-- ---- one more value in a map

module _ (eq : RcStr Global → RcStr Global → Bool)
    (same : (x y : RcStr Global) → eq x y ≡ text_eq (rc_str_bytes x) (rc_str_bytes y))
    (old new : List (RcStr Global × Placed)) (key : RcStr Global) (v : Placed)
    (there : lookup (eq key) new ≡ Some v) (others : KeepsOthers eq (eq key) old new) where
  abbrev value_by : (RcStr Global → Bool) → List (RcStr Global × Placed) → Option Represented
  value_by test es = option_map (λ (p : Placed). p.what) (lookup test es)

  has_value : (n : Text) (b : Bool) → text_eq n (rc_str_bytes key) ≡ b
      → values_for new n ≡ cond b (Some v.what) (values_for old n)
  unfolding KeepsOthers
  has_value n true h =
      let is_key : n ≡ rc_str_bytes key = same_text _ _ (sym h) in
      ap (λ (m : Text). values_for new m) is_key
      ∙ ap (λ (test : RcStr Global → Bool). value_by test new) (λ i q. sym (same key q) i)
      ∙ ap (option_map (λ (p : Placed). p.what)) there
  has_value n false h =
      let own : (x y : RcStr Global) → text_eq n (rc_str_bytes x) ≡ true → text_eq n (rc_str_bytes y) ≡ eq x y =
      λ x y e. ap (λ (m : Text). text_eq m (rc_str_bytes y)) (same_text _ _ (sym e)) ∙ sym (same x y) in
      let apart : (x : RcStr Global) → eq key x ≡ true → text_eq n (rc_str_bytes x) ≡ false =
      λ x e. ap (λ (m : Text). text_eq n m) (sym (same_text _ _ (sym (sym (same key x) ∙ e)))) ∙ h in
      let test : RcStr Global → Bool = λ x. text_eq n (rc_str_bytes x) in
      ap (option_map (λ (p : Placed). p.what)) (others test own apart)

  pub value_is_put : (n : Text) (w : Represented) → rc_str_bytes key ≡ n → v.what ≡ w
      → values_for new ≡ with_value (n, w) (values_for old)
  value_is_put n w named is =
      (λ i k. has_value k (text_eq k (rc_str_bytes key)) refl i) ∙ (λ i. with_value (named i, is i) (values_for old))

-- ---- lists in order

pub assoc_one : {A : Type 0} (xs : List A) (x : A) (ys : List A) → (xs ++ x ∷ []) ++ ys ≡ xs ++ (x ∷ ys)
assoc_one [] x ys = refl
assoc_one (z ∷ xs) x ys = ap (λ l. z ∷ l) (assoc_one xs x ys)

pub append_none : {A : Type 0} (xs : List A) → xs ++ [] ≡ xs
append_none [] = refl
append_none (z ∷ xs) = ap (λ l. z ∷ l) (append_none xs)

steps_moved : (ts : List Taken) (t : Taken) (s : Step) (rest : List Step) → t.step ≡ s
    → map (λ u. u.step) (ts ++ t ∷ []) ++ rest ≡ map (λ u. u.step) ts ++ (s ∷ rest)
steps_moved [] t s rest is = ap (λ (u : Step). u ∷ rest) is
steps_moved (u ∷ ts) t s rest is = ap (λ (l : List Step). u.step ∷ l) (steps_moved ts t s rest is)

last_behind : (r : PartialResponse) (ts : List Taken) (t : Taken) → last_in r (ts ++ t ∷ []) ≡ response_or t.response (last_in r ts)
last_behind r [] t = refl
last_behind r (u ∷ ts) t = last_behind (response_or u.response r) ts t

pub last_after : (r : PartialResponse) (ts : List Taken) (t : Taken) (o : Option PartialResponse) → t.response ≡ o
    → last_in r (ts ++ t ∷ []) ≡ response_or o (last_in r ts)
last_after r ts t o is = last_behind r ts t ∙ ap (λ (p : Option PartialResponse). response_or p (last_in r ts)) is

-- ---- what is read

module _ (X : world.Extensions) (calls : StoredCalls) where
  each_behind : (is : List StepInput) (i : StepInput) → EachInput X calls is → IsInput X calls i
      → EachInput X calls (is ++ i ∷ [])
  each_behind [] i each h = (h, tt)
  each_behind (j ∷ is) i each h = (each.0, each_behind is i each.1 h)

  inputs_behind : (is : List StepInput) (i : StepInput) (s : Step) → i.step ≡ s
      → map (λ u. u.step) (is ++ i ∷ []) ≡ map (λ u. u.step) is ++ s ∷ []
  inputs_behind [] i s h = ap (λ (u : Step). u ∷ []) h
  inputs_behind (j ∷ is) i s h = ap (λ (l : List Step). j.step ∷ l) (inputs_behind is i s h)

  pub input_behind : (ss : List Step) (is : List StepInput) (s : Step) (i : StepInput) (all : List StepInput)
      → AreInputs X calls ss is → i.step ≡ s → IsInput X calls i → all ≡ is ++ i ∷ []
      → AreInputs X calls (ss ++ s ∷ []) all
  input_behind ss is s i all are step_is h all_is =
      subst (AreInputs X calls (ss ++ s ∷ [])) (sym all_is) (record {
        steps_are = inputs_behind is i s step_is ∙ ap (λ (l : List Step). l ++ s ∷ []) are.steps_are;
        each = each_behind is i are.each h;
      })

  -- these steps were read, and those that are left are to be
  pub record AreInputsSoFar (all left : List Step) (inputs : List StepInput) : Type 0 where
    pub done : List Step
    pub are : AreInputs X calls done inputs
    pub all_are : done ++ left ≡ all

  pub no_inputs_yet : (all : List Step) (inputs : List StepInput) → inputs ≡ [] → AreInputsSoFar all all inputs
  no_inputs_yet all inputs empty = record {
    done = [];
    are = subst (AreInputs X calls []) (sym empty) (record { steps_are = refl; each = tt });
    all_are = refl;
  }

  pub values_said : (text : Text) (context : Context)
      → SaysSo text (λ j. IsContextOf X calls levels (context_said j) context) → (r : Result Context Refusal)
      → IfOk r (λ c. c ≡ context) → IfOk r (λ c. is_some (context_values c) ≡ true)
      → IfOk r (AreValuesSaid X calls text)
  values_said text context said (Ok c) same known = record {
    said = subst (λ d. SaysSo text (λ j. IsContextOf X calls levels (context_said j) d)) (sym same) said;
    known = known;
  }
  values_said text context said (Err e) same known = tt

  pub input_more : (all left rest : List Step) (s : Step) (before after : List StepInput) → left ≡ s ∷ rest
      → AreInputsSoFar all left before
      → ((ss : List Step) → AreInputs X calls ss before → AreInputs X calls (ss ++ s ∷ []) after)
      → AreInputsSoFar all rest after
  input_more all left rest s before after left_is so_far puts = record {
    done = so_far.done ++ s ∷ [];
    are = puts so_far.done so_far.are;
    all_are = assoc_one so_far.done s rest ∙ ap (λ l. so_far.done ++ l) (sym left_is) ∙ so_far.all_are;
  }

  pub input_at : (all : List Step) (i : ℕ) (s : Step) (before after : List StepInput) → i < length all
      → AreInputsSoFar all (drop i all) before
      → ((ss : List Step) → AreInputs X calls ss before → AreInputs X calls (ss ++ get_or all i s ∷ []) after)
      → AreInputsSoFar all (drop (i + 1) all) after
  input_at all i s before after within so_far puts =
      let more : suc i ≡ i + 1 = omega arith in
      input_more all (drop i all) (drop (i + 1) all) (get_or all i s) before after
      (drop-cons all i s within ∙ ap (λ j. get_or all i s ∷ drop j all) more) so_far puts

  pub inputs_of_all : (all left : List Step) (inputs : List StepInput) → left ≡ [] → AreInputsSoFar all left inputs
      → AreInputs X calls all inputs
  inputs_of_all all left inputs none so_far =
      subst (λ l. AreInputs X calls l inputs)
      (sym (append_none so_far.done) ∙ ap (λ l. so_far.done ++ l) (sym none) ∙ so_far.all_are) so_far.are

  -- ---- stores

  pub own_store : (o : Option Source) (is_partial : Bool) (own : Option Store) (before : Store)
      → IsOwnStore X calls o is_partial own
      → IsStoreAfterOr X calls o is_partial before.entities (store_or own before).entities
  own_store None is_partial None before h = refl
  own_store None is_partial (Some s) before h = absurd h
  own_store (Some t) is_partial None before h = absurd h
  own_store (Some t) is_partial (Some s) before h = h

  none_brought : (o : Option Source) (is_partial : Bool) (own : Option Store) → IsOwnStore X calls o is_partial own
      → own ≡ None → o ≡ None
  none_brought None is_partial own h none = refl
  none_brought (Some t) is_partial None h none = absurd h
  none_brought (Some t) is_partial (Some s) h none = absurd (cc)

-- ---- what is made of it

module _ (c : Configuration) where
  module _ (first : PartialResponse) (store : Entities) (all : List Step) where
    -- the steps before those that are left were taken in turn
    pub record IsSoFar (left : List StepInput) (later : List Taken) (now : Store) : Type 0 where
      pub chain : List ChainStep
      pub taken : AreTaken c first store later now.entities chain
      pub goes_on : GoesOn c first chain (last_in first later)
      pub steps_are : map (λ t. t.step) later ++ map (λ i. i.step) left ≡ all
      pub each : EachInput c.extensions c.calls left

    pub starts : (inputs : List StepInput) (later : List Taken) (now : Store) → AreInputs c.extensions c.calls all inputs
        → later ≡ [] → now.entities ≡ store → IsSoFar inputs later now
    starts inputs later now are empty is = record {
      chain = [];
      taken = subst (λ s. AreTaken c first store later s []) (sym is)
          (subst (λ l. AreTaken c first store l store []) (sym empty) none_taken);
      goes_on = subst (λ l. GoesOn c first [] (last_in first l)) (sym empty) (λ request s ps h. h);
      steps_are = ap (λ l. map (λ (t : Taken). t.step) l ++ map (λ (i : StepInput). i.step) inputs) empty ∙ are.steps_are;
      each = are.each;
    }

    module _ (further : (r : PartialResponse) → TakesChainsFurther c c r) (input : StepInput) (rest : List StepInput)
        (before : List Taken) (now : Store) (so_far : IsSoFar (input ∷ rest) before now) where
      abbrev then_store : Store
      then_store = store_or input.store now

      one_more : (o : Option PartialResponse) (t : Taken) → t.step ≡ input.step → t.response ≡ o
          → IsTakenBy c input then_store.entities (last_in first before) o
          → IsSoFar rest (before ++ t ∷ []) then_store
      one_more (Some next) t step_is response_is by =
          let r = last_in first before in
          let is_input = so_far.each.0 in
          let last_is : last_in first (before ++ t ∷ []) ≡ next = last_after first before t (Some next) response_is in
          let is_taken : IsTaken c input.step now.entities r input.values then_store.entities next = record {
            values_are = is_input.values_are;
            store_is = own_store c.extensions c.calls input.step.entities input.step.is_partial input.store now is_input.store_is;
            no_limit = by.no_limit;
            steps = by.steps;
          } in
          record {
            chain = so_far.chain ++ taken_with c (step_map input.values r, store_view then_store.entities) ∷ [];
            taken = one_taken so_far.taken t input.values then_store.entities next response_is
                (subst (λ s. IsTaken c s now.entities r input.values then_store.entities next) (sym step_is) is_taken);
            goes_on = subst (GoesOn c first (so_far.chain ++ taken_with c (step_map input.values r, store_view then_store.entities) ∷ []))
                (sym last_is)
                (λ request s ps h. further r request s ps so_far.chain (step_map input.values r, store_view then_store.entities)
                (Ok next) (so_far.goes_on request s ps h) by.no_limit by.steps);
            steps_are = steps_moved before t input.step (map (λ i. i.step) rest) step_is ∙ so_far.steps_are;
            each = so_far.each.1;
          }
      one_more None t step_is response_is by =
          let r = last_in first before in
          let is_input = so_far.each.0 in
          let last_is : last_in first (before ++ t ∷ []) ≡ r = last_after first before t None response_is in
          let is_left : IsNotTaken c input.step r input.values = record {
            values_are = is_input.values_are;
            no_entities = none_brought c.extensions c.calls input.step.entities input.step.is_partial input.store is_input.store_is by.no_store;
            names_none = by.names_none;
          } in
          record {
            chain = so_far.chain;
            taken = subst (λ o. AreTaken c first store (before ++ t ∷ []) (store_or o now).entities so_far.chain)
                (sym by.no_store)
                (one_left so_far.taken t input.values response_is
                (subst (λ s. IsNotTaken c s r input.values) (sym step_is) is_left));
            goes_on = subst (GoesOn c first so_far.chain) (sym last_is) so_far.goes_on;
            steps_are = steps_moved before t input.step (map (λ i. i.step) rest) step_is ∙ so_far.steps_are;
            each = so_far.each.1;
          }

      pub next_is_taken : (o : Option PartialResponse) (after : List Taken)
          → AddsTaken input.step o before after → IsTakenBy c input then_store.entities (last_in first before) o
          → IsSoFar rest after then_store
      next_is_taken o after adds by =
          subst (λ l. IsSoFar rest l then_store) (sym adds.is_behind)
          (one_more o adds.taken adds.step_is adds.response_is by)

    steps_ended : (later : List Taken) → map (λ t. t.step) later ++ [] ≡ map (λ t. t.step) later
    steps_ended [] = refl
    steps_ended (t ∷ ts) = ap (λ (l : List Step). t.step ∷ l) (steps_ended ts)

    pub all_are_taken : (left : List StepInput) (later : List Taken) (now : Store) → left ≡ [] → IsSoFar left later now
        → AreAllTaken c first store all later
    all_are_taken left later now none so_far = record {
      last_store = now.entities;
      chain = so_far.chain;
      steps_are = sym (steps_ended later)
          ∙ ap (λ l. map (λ (t : Taken). t.step) later ++ map (λ (i : StepInput). i.step) l) (sym none) ∙ so_far.steps_are;
      taken = so_far.taken;
      goes_on = so_far.goes_on;
    }
