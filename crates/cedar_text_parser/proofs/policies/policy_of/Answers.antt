use Rattle.cedar_functions.specs.Functions.{knowledge}
use Rattle.cedar_text_parser.specs.Reading.{IsPlaceWithin}
use Rattle.cedar_text_parser.specs.PolicyReading.{IsTextRefused, in_reading, at_policy}
use Rattle.cedar_text_parser.proofs.Places.{passed_up, placed_within}
use Rattle.cedar_text_parser.proofs.policies.policy_of.Goals as goal

pub returns-in_err-read-clause-calls : goal.returns-in_err-read-clause-calls
returns-in_err-read-clause-calls c =
    passed_up c.from_residual.result _
    (IsTextRefused (knowledge c.args.functions.now) c.args.source.now.text c.args.limit)
    c.from_residual.ensures.1 (at_policy c.tokens-tokens.ensures.own.cut c.in_err-read.ensures.err)

pub returns-in_err-ends_at-clause-calls : goal.returns-in_err-ends_at-clause-calls
returns-in_err-ends_at-clause-calls c =
    passed_up c.from_residual-in_err-ends_at.result _
    (IsTextRefused (knowledge c.args.functions.now) c.args.source.now.text c.args.limit)
    c.from_residual-in_err-ends_at.ensures.1 in_reading

pub returns-in_err-ends_at-clause-placed : goal.returns-in_err-ends_at-clause-placed
returns-in_err-ends_at-clause-placed c =
    passed_up c.from_residual-in_err-ends_at.result _ (IsPlaceWithin c.args.source.now.text)
    c.from_residual-in_err-ends_at.ensures.1
    (placed_within c.args.source.now c.tokens-tokens.ensures.own.stand _
    (rw c.tokens-tokens.ensures.is at c.in_err-ends_at.ensures.err))

pub returns-clause-ok : goal.returns-clause-ok
returns-clause-ok c = record {
  tokens = c.args.source.now.tokens;
  behind = c.in_ok-read.read.next;
  cut = c.tokens-tokens.ensures.own.cut;
  policy = c.in_ok-read.ensures.ok;
  ends = rw c.tokens-tokens.ensures.is at c.in_ok-ends_at.ensures.is;
  whole = rw c.tokens-tokens.ensures.is at c.in_ok-ends_at.ensures.last;
}
