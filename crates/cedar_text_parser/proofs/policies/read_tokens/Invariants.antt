use Rattle.std.proofs.Common.{◌≤◌, ◌-◌}
use Rattle.cedar_functions.specs.Functions.{knowledge}
use Rattle.cedar_text_parser.specs.PolicyReading.{IsSoFar, AreTold}
use Rattle.cedar_text_parser.proofs.policies.read_tokens.Given as goal

abbrev pub invariant-loop-index : goal.invariant-loop-index
invariant-loop-index l =
    record {
      read : IsSoFar (knowledge l.functions) l.source l.limit l.index l.number l.reading;
      told : AreTold (knowledge l.functions) l.source.text l.limit l.reading.errors.items;
      within : l.index ≤ l.count;
      counted : l.number ≤ l.index;
    }

abbrev pub decreases-loop-index : goal.decreases-loop-index
decreases-loop-index l = l.count - l.index
