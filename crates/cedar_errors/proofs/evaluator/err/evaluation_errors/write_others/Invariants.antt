use Rattle.std.proofs.Common.{◌≡◌, ℕ, List, ◌++◌, map, flat_map, drop}
use Rattle.std.specs.Fmt.{HasWritten, IsPlainFormatter}
use Rattle.cedar_names.specs.Leaves.{type_view}
use Rattle.cedar_errors.specs.Texts.{other_text}
use Rattle.cedar_errors.proofs.evaluator.err.evaluation_errors.write_others.Given as goal

abbrev pub invariant-others : goal.invariant-others
invariant-others g l =
    IsPlainFormatter l.initial.f
    → (done : List ℕ) × HasWritten g.W.Write.write_str_gives l.initial.f done l.f
    × (done ++ flat_map other_text (map type_view (drop l.ty-index l.others)) ≡ flat_map other_text (map type_view l.others))
