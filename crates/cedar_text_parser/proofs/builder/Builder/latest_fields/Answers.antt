use Rattle.std.proofs.Common.{◌+◌, length, ap, sym, ◌∙◌}
use Rattle.std.proofs.lemmas.List.{length_push}
use Rattle.cedar_text_parser.proofs.Growing.{keyed_more}
use Rattle.cedar_text_parser.proofs.builder.Builder.latest_fields.Goals as goal

pub loop-preserved : goal.loop-preserved
loop-preserved c = record {
  keys = ap length c.in_ok-push-in-Some.ensures.items ∙ length_push c.loop.tokens_of_keys.items c.in-Some.key.at
      ∙ ap (λ n. n + 1) c.loop.invariant.keys;
  pairs = ap length c.in_ok-push-in-Some-2.ensures.items
      ∙ length_push c.loop.pairs.items (c.in-Some.key.text, c.in-Some.expr) ∙ ap (λ n. n + 1) c.loop.invariant.pairs;
  parts = keyed_more c.loop.tokens_of_keys.items c.loop.pairs.items
      (c.loop.invariant.keys ∙ sym c.loop.invariant.pairs) c.loop.invariant.parts c.in-Some.ensures
      c.in_ok-push-in-Some.ensures.items c.in_ok-push-in-Some-2.ensures.items;
}
