use Rattle.std.proofs.Common.{◌≡◌, ℕ, List, ◌++◌}
use Rattle.std.specs.Fmt.{HasWritten, IsPlainFormatter}
use Rattle.cedar_text_printer.specs.Escapes.{written_escaped}
use Rattle.cedar_text_printer.proofs.escapes.write_escaped.Given as goal

abbrev pub invariant-characters : goal.invariant-characters
invariant-characters g l =
    IsPlainFormatter l.initial.f
    → (done : List ℕ) × HasWritten g.W.Write.write_str_gives l.initial.f done l.f
    × (done ++ written_escaped l.character-iterator.rest.now ≡ written_escaped l.fn.text)
