use Rattle.std.proofs.Common.{arith, refl, false, string_bytes}
use Rattle.cedar_text_lexer.proofs.Reading.{text_more, text_all, refused_more, refusal}
use Rattle.cedar_text_lexer.proofs.values.unescape_text.Goals as goal

pub loop-first-preserved : goal.loop-first-preserved
loop-first-preserved c = record {
  utf8 = c.range_from-rest.utf8;
  within = omega (arith, c.loop-first.invariant.within, c.range_from-rest.ensures.len);
  so_far = rw (c.range_from-rest.ensures.value) (rw c.in_ok-push-in-Ok.ensures.bytes (text_more c.args.inside.now (string_bytes c.loop-first.value) c.loop-first.rest.now c.in-Ok.piece c.loop-first.invariant.so_far c.in-Ok.ensures.piece));
  refused = rw c.range_from-rest.ensures.value (refused_more false c.args.inside.now c.loop-first.rest.now c.in-Ok.piece c.loop-first.invariant.within c.in-Ok.ensures.within.0 c.loop-first.invariant.refused c.in-Ok.ensures.piece);
}

pub returns-in-Err-clause-refused : goal.returns-in-Err-clause-refused
returns-in-Err-clause-refused c = rw c.refuse_escape.ensures (refl, refl, refusal false c.args.inside.now c.loop-first.rest.now c.args.at c.in-Err.len c.loop-first.invariant.refused c.in-Err.ensures.none)

pub returns-clause-value : goal.returns-clause-value
returns-clause-value c = text_all c.args.inside.now (string_bytes c.loop-first.value) c.loop-first.rest.now c.loop-first.invariant.so_far c.in_default.ensures
