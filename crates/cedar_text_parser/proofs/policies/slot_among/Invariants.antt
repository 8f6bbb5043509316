use Rattle.cedar_text_parser.specs.PolicyReading.{HasNoSlot}
use Rattle.cedar_text_parser.proofs.policies.slot_among.Given as goal

abbrev pub invariant-loop-index : goal.invariant-loop-index
invariant-loop-index l = HasNoSlot l.tokens l.from l.index
