use Rattle.std.proofs.Common.{sym, ap, ◌∙◌, map}
use Rattle.std.specs.Rc.{rc_str_bytes}
use Rattle.cedar_cli.specs.Steps.{some_open}
use Rattle.cedar_cli.proofs.Opening.{open_here, not_open_here}
use Rattle.cedar_cli.proofs.steps.has_open_key.Goals as goal

pub returns-then-is_open : goal.returns-then-is_open
returns-then-is_open c =
    sym (open_here (map rc_str_bytes c.args.names.now) c.keys.key-iterator c.next.new.self _ c.in-Some.ensures.steps
    (sym c.is_open.ensures ∙ c.if-is_open.true)) ∙ c.keys.invariant

pub keys-preserved : goal.keys-preserved
keys-preserved c =
    sym (not_open_here (map rc_str_bytes c.args.names.now) c.keys.key-iterator c.next.new.self _ c.in-Some.ensures.steps
    (sym c.is_open.ensures ∙ c.if-is_open.false)) ∙ c.keys.invariant

pub returns : goal.returns
returns c =
    sym (ap (some_open (map rc_str_bytes c.args.names.now)) c.in-None.ensures.steps.0) ∙ c.keys.invariant
