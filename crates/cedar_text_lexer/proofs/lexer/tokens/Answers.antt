use Rattle.std.proofs.Common.{sym, ◌∙◌, arith, IsUtf8, List, ℕ, subst}
use Rattle.cedar_text_lexer.proofs.Standing.{rest_more, stand_more, stand_all}
use Rattle.cedar_text_lexer.proofs.Whole.{skip_more, token_more, all_tokens}
use Rattle.cedar_text_lexer.proofs.lexer.tokens.Goals as goal
use Rattle.cedar_text_lexer.proofs.lexer.tokens.Goals.{in-Some+in_ok-push-in-Some, in-None}

pub loop-rest-preserved : goal.loop-rest-preserved
loop-rest-preserved c = record {
  utf8 = c.range_from-rest.utf8;
  placed = omega arith;
  rest = rw c.range_from-rest.ensures.value (rest_more c.args.text.now c.loop-rest.rest.now c.loop-rest.start c.cut_front-cut.result.len c.loop-rest.invariant.rest);
  so_far = rw c.range_from-rest.ensures.value (elim c.match-cut.branch [
    | in-Some+in_ok-push-in-Some w ↦ rw (w.tokens-is, w.in_ok-push-in-Some.ensures.items) (token_more c.args.text.now c.loop-rest.tokens.items c.loop-rest.start c.cut_front-cut.result.len c.loop-rest.rest.now w.in-Some.kind c.loop-rest.invariant.so_far c.cut_front-cut.ensures.within.0 (rw w.in-Some.is at c.cut_front-cut.ensures.front))
    | in-None w ↦ rw w.tokens-is (skip_more c.args.text.now c.loop-rest.tokens.items c.loop-rest.start c.cut_front-cut.result.len c.loop-rest.rest.now c.loop-rest.invariant.so_far c.cut_front-cut.ensures.within.0 (rw w.in-None.is at c.cut_front-cut.ensures.front))
  ]);
  stand = elim c.match-cut.branch [
    | in-Some+in_ok-push-in-Some w ↦ rw (w.tokens-is, w.in_ok-push-in-Some.ensures.items) (stand_more c.args.text.now c.loop-rest.rest.now c.loop-rest.tokens.items c.loop-rest.start c.cut_front-cut.result.len w.in-Some.kind c.loop-rest.invariant.rest c.loop-rest.invariant.placed c.cut_front-cut.ensures.within.0 c.loop-rest.invariant.utf8 (subst (λ (x : List ℕ). IsUtf8 x) c.range_from-rest.ensures.value c.range_from-rest.utf8) (rw w.in-Some.is at c.cut_front-cut.ensures.front) c.loop-rest.invariant.stand)
    | in-None w ↦ rw w.tokens-is c.loop-rest.invariant.stand
  ];
}

pub returns-clause-tokens : goal.returns-clause-tokens
returns-clause-tokens c = rw c.in_ok-push.ensures.items (all_tokens c.args.text.now c.loop-rest.tokens.items c.loop-rest.start c.loop-rest.rest.now c.loop-rest.invariant.so_far (sym c.is_empty.ensures ∙ c.loop-rest-test.false))

pub returns-clause-stand : goal.returns-clause-stand
returns-clause-stand c = rw c.in_ok-push.ensures.items (stand_all c.args.text.now c.loop-rest.rest.now c.loop-rest.tokens.items c.loop-rest.start c.loop-rest.invariant.rest c.loop-rest.invariant.placed c.loop-rest.invariant.utf8 c.loop-rest.invariant.stand)
