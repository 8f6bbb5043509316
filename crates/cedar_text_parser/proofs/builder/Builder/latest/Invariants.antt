use Rattle.std.proofs.Common.{◌≡◌, ◌++◌, length}
use Rattle.cedar_text_parser.specs.Finished.{finished, all_unkeyed}
use Rattle.cedar_text_parser.proofs.builder.Builder.latest.Given as goal

abbrev pub invariant-loop : goal.invariant-loop
invariant-loop l = record {
  count : length l.parts.items ≡ l.counter;
  parts : finished l.fn.self ≡ all_unkeyed l.parts.items ++ finished l.self;
}
