-- Steps that can't be read, and a step that can't be taken.
use Rattle.std.proofs.Common.{◌≡◌, refl, sym, subst, ap, ◌∙◌, List, [], ◌∷◌, ◌++◌, map, ℕ, zero, suc, ◌<◌, length, drop, get_or, Option, Some, None, false, Result, Ok, Err, ◌⊎◌, inl, inr, is_some}
use Rattle.std.proofs.Math.Seq.{drop-cons}
use Rattle.std.specs.Prelude.{IfSome, option_map}
use Rattle.std.specs.declared.alloc.Global.{Global}
use Rattle.std.specs.declared.rc.RcStr.{RcStr}
use Rattle.cedar_model.specs.Terms.{Text}
use Rattle.cedar_model.specs.World as world
use Rattle.cedar_model.specs.Rules.{StoredCalls}
use Rattle.cedar_model.specs.Chains.{Mapping}
use Rattle.cedar_model.specs.Configurations.{Configuration}
use Rattle.cedar_model.specs.Refusals.{Refusal}
use Rattle.cedar_values.specs.Sound.{Placed}
use Rattle.cedar_layers.specs.declared.policies.entities.Entities.{Entities}
use Rattle.cedar_layers.specs.Stores.{store_view}
use Rattle.cedar_requests.specs.declared.context.Context.{Context}
use Rattle.cedar_requests.specs.Contexts.{context_values}
use Rattle.cedar_json_reader.specs.JsonTexts.{SaysSo}
use Rattle.cedar_json_reader.specs.SaidContexts.{context_said, IsContextOf}
use Rattle.cedar_authorizer.specs.declared.reauthorization.err.ReauthorizationError.{ReauthorizationError}
use Rattle.cedar_authorizer.specs.declared.reauthorization.err.ReauthorizationError.TheVariants as reauthorizations
use Rattle.cedar_authorizer.specs.declared.responses.partial_response.PartialResponse.{PartialResponse}
use Rattle.cedar_authorizer.specs.reauthorization.Errors.{IsForMemory, IsNotForMemory, IsUnwrapped, step_refusal}
use Rattle.cedar_authorizer.specs.Steps.{step_answer}
use Rattle.cedar_cli.specs.declared.asked.Source.{Source}
use Rattle.cedar_cli.specs.declared.asked.Step.{Step}
use Rattle.cedar_cli.specs.declared.refusal.Refusal.{Refusal as Told}
use Rattle.cedar_cli.specs.declared.refusal.Refusal.TheVariants as refusals
use Rattle.cedar_cli.specs.declared.steps.StepInput.{StepInput}
use Rattle.cedar_cli.specs.declared.steps.Taken.{Taken}
use Rattle.cedar_cli.specs.declared.stores.Store.{Store}
use Rattle.cedar_cli.specs.Questions.{levels}
use Rattle.cedar_cli.specs.Reasons.{IsToldFor}
use Rattle.cedar_cli.specs.Stages.{last_in}
use Rattle.cedar_cli.specs.Stopped.{AreValuesUnread, values_unknown, IsStepUnread, IsOneUnread}
use Rattle.cedar_cli.specs.Stopped.{StopsAt, past_limit, gives_another, is_refused, AreStopped}
use Rattle.cedar_cli.specs.Inputs.{store_or, IsHalted, by_limit, by_another, by_refusal, IsMemory}
use Rattle.cedar_cli.proofs.Reasoned.{because}
use Rattle.cedar_cli.proofs.Stepping.{IsSoFar, own_store}

-- ---- steps that can't be read

module _ (X : world.Extensions) (calls : StoredCalls) where
  one_behind : (i : ℕ) (ss : List Step) → IsOneUnread X calls (drop i ss) → IsOneUnread X calls ss
  one_behind zero ss h = h
  one_behind (suc i) [] h = h
  one_behind (suc i) (s ∷ ss) h = inr (one_behind i ss h)

  -- one of those that are left is one of all
  one_of : (i : ℕ) (ss rest : List Step) (s : Step) → drop i ss ≡ s ∷ rest → IsStepUnread X calls s
      → IsOneUnread X calls ss
  one_of i ss rest s is h = one_behind i ss (subst (IsOneUnread X calls) (sym is) (inl h))

  pub one_at : (i : ℕ) (ss : List Step) (s : Step) → i < length ss → IsStepUnread X calls (get_or ss i s)
      → IsOneUnread X calls ss
  one_at i ss s within h = one_of i ss (drop (suc i) ss) (get_or ss i s) (drop-cons ss i s within) h

  -- values that are read, and not known
  pub not_known : (s : Source) (context : Context)
      → SaysSo s.text.now (λ j. IsContextOf X calls levels (context_said j) context)
      → is_some (context_values context) ≡ false → AreValuesUnread X calls s
  not_known s context said is = values_unknown (record { values = context; said = said; not_known = is })

-- ---- a refusal of the definition

refused_so : (e : ReauthorizationError) → ¬ IsMemory e → IsUnwrapped e → (o : Option Refusal) → step_refusal e ≡ o
    → (r : Refusal) × (step_refusal e ≡ Some r)
refused_so e not_memory unwrapped (Some r) is = (r, is)
refused_so (reauthorizations.ErrorHandlingConflict response authorizer) not_memory unwrapped None is = absurd (cc)
refused_so (reauthorizations.PolicySetError e) not_memory unwrapped None is =
    absurd (subst IsNotForMemory is unwrapped)
refused_so (reauthorizations.ConcretizationError e) not_memory unwrapped None is =
    absurd (subst IsNotForMemory is unwrapped)
refused_so (reauthorizations.Memory e) not_memory unwrapped None is = absurd (not_memory tt)

-- what a step answered that is refused, and not for memory
pub refusal_is : (P : Result PartialResponse Refusal → Type 0) (e : ReauthorizationError)
    → IfSome (step_answer (Err e)) P → IsUnwrapped e → ¬ IsMemory e → (r : Refusal) × P (Err r)
refusal_is P e told unwrapped not_memory =
    let refused = refused_so e not_memory unwrapped (step_refusal e) refl in
    (refused.0, subst (λ o. IfSome (option_map Err o) P) refused.1 told)

-- ---- the step at which they stop

module _ (c : Configuration) (first : PartialResponse) (store : Entities) (all : List Step) (input : StepInput)
    (rest : List StepInput) (before : List Taken) (now : Store)
    (so_far : IsSoFar c first store all (input ∷ rest) before now) where
  stops_at : IsHalted c input (store_or input.store now).entities (last_in first before)
      → StopsAt c input.step now.entities (last_in first before)
  stops_at (by_limit h) = past_limit h
  stops_at (by_another h) = gives_another input.values so_far.each.0.values_are h
  stops_at (by_refusal e h) =
      is_refused input.values (store_or input.store now).entities so_far.each.0.values_are
      (own_store c.extensions c.calls input.step.entities input.step.is_partial input.store now so_far.each.0.store_is)
      e h

  pub are_stopped : IsHalted c input (store_or input.store now).entities (last_in first before)
      → AreStopped c first store all
  are_stopped halted = record {
    later = before;
    step = input.step;
    rest = map (λ i. i.step) rest;
    steps_are = so_far.steps_are;
    before = now.entities;
    chain = so_far.chain;
    taken = so_far.taken;
    stops = stops_at halted;
  }
