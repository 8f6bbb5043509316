use Rattle.std.proofs.Common.{refl}
use Rattle.cedar_functions.specs.Functions.{knowledge}
use Rattle.cedar_text_parser.proofs.Read.{policy_made}
use Rattle.cedar_text_parser.specs.PolicyReading.{IsPolicyRefused, by_reading, by_call}
use Rattle.cedar_text_parser.specs.Reading.{IsPlaceWithin}
use Rattle.cedar_text_parser.proofs.Known.{trees_known}
use Rattle.cedar_text_parser.proofs.Places.{passed_up, placed_within}
use Rattle.cedar_text_parser.proofs.policy_reading.policy_at.Goals as goal

pub returns-clause-ok : goal.returns-clause-ok
returns-clause-ok c =
    policy_made (rw c.tokens.ensures.is at c.in_ok-read.ensures.ok)
    (rw c.as_slice-3.ensures.value at c.in_ok-four.ensures.ok)
    (rw c.as_slice-2.ensures.value at c.in_ok-annotations.ensures.ok) c.in_ok-policy.ensures.ok
    (trees_known (knowledge c.args.functions.now) c.args.source.now c.in_ok-read.read.steps.items
    (rw c.as_slice.ensures.value at c.in_ok-known_calls.ensures.ok) c.in_ok-read.ensures.parts) refl refl

pub returns-in_err-read-clause-err : goal.returns-in_err-read-clause-err
returns-in_err-read-clause-err c =
    passed_up c.from_residual.result _
    (IsPolicyRefused (knowledge c.args.functions.now) c.args.source.now c.args.limit c.args.index)
    c.from_residual.ensures.1 by_reading

pub returns-in_err-known_calls-clause-err : goal.returns-in_err-known_calls-clause-err
returns-in_err-known_calls-clause-err c =
    passed_up c.from_residual-in_err-known_calls.result _
    (IsPolicyRefused (knowledge c.args.functions.now) c.args.source.now c.args.limit c.args.index)
    c.from_residual-in_err-known_calls.ensures.1
    (by_call (rw c.tokens.ensures.is at c.in_ok-read.ensures.ok)
    (rw c.as_slice.ensures.value at c.in_err-known_calls.ensures.err))

pub returns-in_err-annotations-clause-err : goal.returns-in_err-annotations-clause-err
returns-in_err-annotations-clause-err c =
    passed_up c.from_residual-in_err-annotations.result _
    (IsPolicyRefused (knowledge c.args.functions.now) c.args.source.now c.args.limit c.args.index)
    c.from_residual-in_err-annotations.ensures.1 by_reading

pub returns-in_err-four-clause-err : goal.returns-in_err-four-clause-err
returns-in_err-four-clause-err c =
    passed_up c.from_residual-in_err-four.result _
    (IsPolicyRefused (knowledge c.args.functions.now) c.args.source.now c.args.limit c.args.index)
    c.from_residual-in_err-four.ensures.1 by_reading

pub returns-in_err-policy-clause-err : goal.returns-in_err-policy-clause-err
returns-in_err-policy-clause-err c =
    passed_up c.from_residual-in_err-policy.result _
    (IsPolicyRefused (knowledge c.args.functions.now) c.args.source.now c.args.limit c.args.index)
    c.from_residual-in_err-policy.ensures.1 by_reading

pub returns-in_err-read-clause-placed : goal.returns-in_err-read-clause-placed
returns-in_err-read-clause-placed c =
    passed_up c.from_residual.result _ (IsPlaceWithin c.args.source.now.text) c.from_residual.ensures.1
    (placed_within c.args.source.now c.tokens.ensures.own.stand _ (rw c.tokens.ensures.is at c.in_err-read.ensures.err))
