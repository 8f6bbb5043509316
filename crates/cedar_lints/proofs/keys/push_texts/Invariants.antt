use Rattle.std.proofs.Common.{◌≡◌, ◌++◌, drop}
use Rattle.cedar_names.specs.Leaves.{texts_view}
use Rattle.cedar_lints.proofs.keys.push_texts.Given as goal

-- what is there and what is left are all of it
abbrev pub invariant-texts : goal.invariant-texts
invariant-texts l =
    texts_view l.texts.items ++ texts_view (drop l.text-index l.more)
    ≡ texts_view l.fn.texts.items ++ texts_view l.more
