use Rattle.std.proofs.Common.{◌≡◌, ℕ, true, List, ◌++◌}
use Rattle.std.specs.Fmt.{HasWritten, IsPlainFormatter}
use Rattle.cedar_model.specs.Values.{expressions_at}
use Rattle.cedar_values.specs.Sound.{whats_at}
use Rattle.cedar_names.specs.Texts.{shown_fields}
use Rattle.cedar_requests.proofs.context.texts.show_values.Given as goal

-- what is written so far and what is left are the whole text
abbrev pub invariant-values : goal.invariant-values
invariant-values g l =
    IsPlainFormatter l.initial.f
    → (done : List ℕ) × HasWritten g.W.Write.write_str_gives l.initial.f done l.f
    × (done ++ shown_fields l.bound l.left l.is_first (expressions_at (whats_at l.name-iterator))
    ≡ shown_fields l.bound l.bound true (expressions_at (whats_at l.pairs.entries)))
