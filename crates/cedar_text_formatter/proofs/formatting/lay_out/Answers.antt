use Rattle.std.proofs.Common.{◌≡◌, sym, ◌∙◌, arith, string_bytes, take}
use Rattle.cedar_text_formatter.proofs.Progress.{one_more, all_laid_out, depth_more, front_range}
use Rattle.cedar_text_formatter.proofs.Splits.{readable_drop}
use Rattle.cedar_text_formatter.proofs.formatting.lay_out.Goals as goal

pub loop-rest-preserved : goal.loop-rest-preserved
loop-rest-preserved c =
    let word : c.range.result.now ≡ take c.cut_front-cut.result.len c.loop-rest.rest.now = c.range.ensures.value ∙ front_range c.cut_front-cut.result.len c.loop-rest.rest.now in
    record {
      utf8 = c.range_from-rest.utf8;
      placed = omega arith;
      tokens = rw (c.range_from-rest.ensures.value, c.behind-left.ensures) c.cut_front-cut.ensures.tokens;
      readable = rw c.behind-left.ensures (readable_drop c.loop-rest.left.now c.cut_front-cut.result.count c.loop-rest.invariant.readable);
      low = rw c.in_ok-state.ensures.behind (omega (arith, depth_more c.loop-rest.state c.cut_front-cut.result.front c.range.result.now, c.loop-rest.invariant.low, c.cut_front-cut.ensures.some));
      so_far = rw (c.range_from-rest.ensures.value, c.in_ok-state.ensures.written, c.in_ok-state.ensures.behind, word) (one_more c.args.text.now (string_bytes c.loop-rest.formatted) c.loop-rest.rest.now c.loop-rest.state c.cut_front-cut.result.front c.cut_front-cut.result.len c.loop-rest.invariant.so_far c.cut_front-cut.ensures.front);
    }

pub returns : goal.returns
returns c = rw (c.in_ok-push_str.ensures.bytes, c.ending.ensures) (all_laid_out c.args.text.now (string_bytes c.loop-rest.formatted) c.loop-rest.rest.now c.loop-rest.state c.loop-rest.invariant.so_far (sym c.is_empty.ensures ∙ c.loop-rest-test.false))
