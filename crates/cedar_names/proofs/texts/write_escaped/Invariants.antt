use Rattle.std.proofs.Common.{◌≡◌, ℕ, List, ◌++◌}
use Rattle.std.specs.Fmt.{HasWritten, IsPlainFormatter}
use Rattle.cedar_model.specs.Outcomes.{escaped}
use Rattle.cedar_names.proofs.texts.write_escaped.Given as goal

abbrev pub invariant-characters : goal.invariant-characters
invariant-characters g l =
    IsPlainFormatter l.initial.f
    → (done : List ℕ) × HasWritten g.W.Write.write_str_gives l.initial.f done l.f
    × (done ++ escaped l.character-iterator.rest.now ≡ escaped l.fn.text)
