use Rattle.std.proofs.Common.{◌≡◌, ◌++◌, drop, map}
use Rattle.std.specs.Rc.{rc_str_bytes}
use Rattle.cedar_names.specs.Leaves.{texts_view}
use Rattle.cedar_operators.proofs.residuals.with_texts.Given as goal

abbrev pub invariant-others : goal.invariant-others
invariant-others l =
    texts_view l.texts.items ++ map rc_str_bytes (drop l.other-index l.others) ≡ texts_view l.fn.texts.items ++ texts_view l.fn.others
