use Rattle.std.specs.Prelude.{codes, [], ◌∷◌}
use Rattle.std.proofs.Common.{refl}
use Rattle.cedar_model.specs.Terms.{record_of, fields_of, variable, principal, call, terms_of}
use Rattle.cedar_model.specs.Chains.{substituted_at}
use Rattle.cedar_model.specs.examples.Chains as ChainExamples
use Rattle.cedar_model.specs.examples.Setting.{x}
use Rattle.cedar_model.proofs.Exemplified.{chain_opened, runs_to}
use Rattle.cedar_model.proofs.chain_examples.steps_answer.Goals as goal

pub returns-clause-repeated_id : goal.returns-clause-repeated_id
unfolding chain_opened
returns-clause-repeated_id c = refl

pub returns-clause-other_mode : goal.returns-clause-other_mode
unfolding chain_opened
returns-clause-other_mode c = (refl, refl)

pub returns-clause-context_error : goal.returns-clause-context_error
unfolding chain_opened
returns-clause-context_error c = (
  _,
  (
    _,
    runs_to (ChainExamples.request_setting ChainExamples.with_call) 9
        (record_of (substituted_at (ChainExamples.map_of ((codes "x", ChainExamples.a_number 4) ∷ []))
        (fields_of ((codes "n", call (codes "nosuch") (terms_of (x ∷ []))) ∷ [])))) _ refl,
    refl,
  ),
  refl,
)

pub returns-clause-context_limit : goal.returns-clause-context_limit
unfolding chain_opened
returns-clause-context_limit c = (
  _,
  (
    _,
    runs_to (ChainExamples.request_setting ChainExamples.with_call) 2
        (record_of (substituted_at (ChainExamples.map_of ((codes "x", ChainExamples.a_number 4) ∷ []))
        (fields_of ((codes "n", call (codes "nosuch") (terms_of (x ∷ []))) ∷ [])))) _ refl,
    refl,
  ),
  refl,
)

pub returns-clause-old_request : goal.returns-clause-old_request
unfolding chain_opened
returns-clause-old_request c = (
  _,
  (
    _,
    runs_to (ChainExamples.request_setting ChainExamples.with_principal) 9
        (record_of (substituted_at ChainExamples.no_map (fields_of ((codes "p", variable principal) ∷ [])))) _ refl,
    refl,
  ),
  (_, _, (refl, refl), refl),
)
