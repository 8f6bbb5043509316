use Rattle.std.proofs.Common.{arith, ◌∙◌, sym}
use Rattle.cedar_operators.proofs.Keys.{push_key, first_five, all_shown}
use Rattle.cedar_operators.proofs.missing.first_names.Goals as goal

pub names-preserved : goal.names-preserved
names-preserved g c =
    (rw c.in_ok-push.ensures.items (push_key _ _ _ _ _ _ c.names.invariant.0 c.in-Some.ensures.steps c.in_ok-clone.ensures.cases), omega arith)

pub returns-then-len-eq-TOO_MANY_ATTRS : goal.returns-then-len-eq-TOO_MANY_ATTRS
returns-then-len-eq-TOO_MANY_ATTRS g c =
    first_five _ _ _ c.names.invariant.0 (sym c.names.shown.ok.0 ∙ sym c.len.ensures ∙ c.if-len-eq-TOO_MANY_ATTRS.true)

pub returns : goal.returns
returns g c = all_shown _ _ _ c.names.invariant.0 c.in-None.ensures.steps.0 (omega (arith, c.names.shown.ok.0, c.names.invariant.1))
