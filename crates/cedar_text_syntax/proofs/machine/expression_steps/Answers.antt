use Rattle.std.proofs.Common.{◌≡◌, ℕ, length, subst, arith, refl}
use Rattle.cedar_text_syntax.specs.Reading.{for_all}
use Rattle.cedar_text_syntax.specs.Standing.{look, Stands}
use Rattle.cedar_text_syntax.proofs.machine.expression_steps.Goals as goal

pub loop-index-init : goal.loop-index-init
loop-index-init c = record { limit = refl; stands = rw (c.new.ensures, c.new-2.ensures.items) for_all }

pub finish-requires : goal.finish-requires
finish-requires c =
    let all_taken : c.loop-index.index ≡ length c.args.tokens.now = omega arith in
    subst (λ (n : ℕ). Stands c.args.tokens.now c.loop-index.state (look c.loop-index.work) n) all_taken
    c.loop-index.invariant.stands
