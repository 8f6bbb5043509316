use Rattle.cedar_functions.specs.Functions.{knowledge}
use Rattle.cedar_text_parser.specs.PolicyReading.{no_policies, no_error}
use Rattle.std.proofs.Common.{arith}
use Rattle.cedar_text_parser.proofs.policies.read_tokens.Goals as goal

pub loop-index-init : goal.loop-index-init
loop-index-init c =
    record {
      read = λ e. rw (c.new-reading.ensures.policies, c.new-reading.ensures.templates) no_policies;
      told = rw c.new-reading.ensures.errors no_error;
      within = omega arith;
      counted = omega arith;
    }

pub returns-clause-ok : goal.returns-clause-ok
returns-clause-ok c =
    c.in_ok-read.ensures.ok (knowledge c.args.functions.now) c.args.limit c.loop-index.number
    c.loop-index.invariant.read

pub returns-clause-told : goal.returns-clause-told
returns-clause-told c =
    c.in_ok-read.ensures.told (knowledge c.args.functions.now) c.args.limit c.loop-index.invariant.told
