use Rattle.std.proofs.Common.{◌≡◌, ◌+◌, ◌≤◌, subst, arith, refl}
use Rattle.cedar_text_syntax.specs.Standing.{look, Stands}
use Rattle.cedar_text_syntax.specs.Reading.{IsClosed}
use Rattle.cedar_text_syntax.specs.Trees.{trees}
use Rattle.cedar_text_syntax.specs.declared.machine.State.TheVariants as state
use Rattle.cedar_text_syntax.proofs.Nested.{clause_read}
use Rattle.cedar_text_syntax.proofs.machine.clause_steps.Goals as goal

pub returns-then-at-brace-clause-ok : goal.returns-then-at-brace-clause-ok
returns-then-at-brace-clause-ok c =
    let w = c.turn.new.work in
    let all = c.args.tokens.now in
    let stands : Stands all (state.Closed c.in-Closed.at) (look w) (c.loop-index.index + 1) =
    subst (λ s. Stands all s (look w) (c.loop-index.index + 1)) c.in-Closed.is c.in_ok-state.ensures.ok in
    let same : c.in-Closed.at ≡ c.args.brace = grind arith in
    let closed : IsClosed all c.args.brace w.height (trees w.steps.items) (c.loop-index.index + 1) =
    subst (λ i. IsClosed all i w.height (trees w.steps.items) (c.loop-index.index + 1)) same stands in
    let low : w.height ≤ c.args.limit = grind (arith, w.low, c.turn.ensures.limit, c.loop-index.invariant.limit) in
    rw (c.close_braces-read.ensures.steps, c.close_braces-read.ensures.close, c.close_braces-read.ensures.height) (clause_read closed refl (grind arith) low)
