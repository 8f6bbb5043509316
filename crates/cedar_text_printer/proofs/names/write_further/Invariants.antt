use Rattle.std.proofs.Common.{◌≡◌, ℕ, List, ◌++◌, flat_map, drop}
use Rattle.std.specs.Fmt.{HasWritten, IsPlainFormatter}
use Rattle.cedar_names.specs.Leaves.{texts_view}
use Rattle.cedar_text_printer.specs.Names.{further_text}
use Rattle.cedar_text_printer.proofs.names.write_further.Given as goal

abbrev pub invariant-attrs : goal.invariant-attrs
invariant-attrs g l =
    IsPlainFormatter l.initial.f
    → (done : List ℕ) × HasWritten g.W.Write.write_str_gives l.initial.f done l.f
    × (done ++ flat_map further_text (texts_view (drop l.attr-index l.attrs)) ≡ flat_map further_text (texts_view l.attrs))
