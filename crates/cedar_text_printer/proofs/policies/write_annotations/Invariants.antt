use Rattle.std.proofs.Common.{◌≡◌, ℕ, List, ◌++◌}
use Rattle.std.specs.Fmt.{HasWritten, IsPlainFormatter}
use Rattle.cedar_text_printer.proofs.Loops.{annotations_text}
use Rattle.cedar_text_printer.proofs.policies.write_annotations.Given as goal

abbrev pub invariant-annotations : goal.invariant-annotations
invariant-annotations g l =
    IsPlainFormatter l.initial.f
    → (done : List ℕ) × HasWritten g.W.Write.write_str_gives l.initial.f done l.f
    × (done ++ annotations_text l.key-iterator ≡ annotations_text l.annotations.0.entries)
