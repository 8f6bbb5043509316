use Rattle.std.specs.Prelude.{[], ◌∷◌, Err, codes}
use Rattle.std.proofs.Common.{refl}
use Rattle.cedar_model.specs.Chains.{without_map}
use Rattle.cedar_model.specs.Policies.{permit, skip, forbid_on_error}
use Rattle.cedar_model.specs.Responses.{truth}
use Rattle.cedar_model.specs.examples.Chains as ChainExamples
use Rattle.cedar_model.proofs.Exemplified.{chain_opened, finds_none, is_memory, run_to}
use Rattle.cedar_model.proofs.StrictSteps as strict
use Rattle.cedar_model.proofs.TwoSteps as two
use Rattle.cedar_model.proofs.chain_examples.chains_answer.Goals as goal

pub returns-clause-two_steps : goal.returns-clause-two_steps
unfolding chain_opened
returns-clause-two_steps c = (
  two.first,
  two.middle,
  two.last,
  two.again,
  two.begins,
  two.first_step,
  two.second_step,
  two.third_step,
  refl,
  refl,
  refl,
  two.names_all,
  (refl, refl),
  refl,
  refl,
  refl,
  refl,
)

pub returns-clause-completed : goal.returns-clause-completed
unfolding chain_opened
returns-clause-completed c = (two.first, two.last, two.begins, two.chained, two.completed, refl, refl, refl)

pub returns-clause-ends_at_limit : goal.returns-clause-ends_at_limit
unfolding chain_opened finds_none is_memory
returns-clause-ends_at_limit c = (
  record {
    mode_is = refl;
    request_is = refl;
    runs = run_to skip (without_map (ChainExamples.request_setting ChainExamples.known_request)) 0
        (ChainExamples.policy (codes "1") permit truth ∷ []) (refl, tt);
  },
  refl,
)

pub returns-clause-ends_at_refusal : goal.returns-clause-ends_at_refusal
unfolding chain_opened
returns-clause-ends_at_refusal c = (Err _, refl, refl)

pub returns-clause-erring_forbid : goal.returns-clause-erring_forbid
unfolding chain_opened finds_none is_memory
returns-clause-erring_forbid c = (
  _,
  run_to skip (ChainExamples.request_setting ChainExamples.known_request) 9 ChainExamples.erring_policies
      (refl, (refl, (refl, tt))),
  run_to forbid_on_error (ChainExamples.request_setting ChainExamples.known_request) 9 ChainExamples.erring_policies
      (refl, (refl, (refl, tt))),
  refl,
  refl,
  refl,
  refl,
  refl,
  refl,
)

pub returns-clause-strict : goal.returns-clause-strict
unfolding chain_opened
returns-clause-strict c = (
  strict.first,
  strict.allowed,
  strict.denied,
  strict.again,
  strict.begins,
  strict.is_allowed,
  strict.is_denied,
  strict.is_kept,
  refl,
  refl,
  refl,
  refl,
  refl,
  refl,
  refl,
  refl,
  refl,
  refl,
)

pub returns-clause-strict_completed : goal.returns-clause-strict_completed
unfolding chain_opened
returns-clause-strict_completed c = (
  strict.first,
  strict.denied,
  strict.begins,
  strict.chained,
  strict.completed,
  refl,
  refl,
  refl,
)
