use Rattle.std.proofs.Common.{◌≡◌, ◌++◌, length}
use Rattle.cedar_text_parser.specs.Finished.{finished, all_keyed}
use Rattle.cedar_text_parser.proofs.builder.Builder.latest_fields.Given as goal

abbrev pub invariant-loop : goal.invariant-loop
invariant-loop l = record {
  keys : length l.tokens_of_keys.items ≡ l.counter;
  pairs : length l.pairs.items ≡ l.counter;
  parts : finished l.fn.self ≡ all_keyed l.tokens_of_keys.items l.pairs.items ++ finished l.self;
}
