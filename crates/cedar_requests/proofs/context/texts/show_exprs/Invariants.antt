use Rattle.std.proofs.Common.{◌≡◌, ℕ, true, List, ◌++◌}
use Rattle.std.specs.Fmt.{HasWritten, IsPlainFormatter}
use Rattle.cedar_expressions.specs.View.{fields_view}
use Rattle.cedar_names.specs.Texts.{shown_fields}
use Rattle.cedar_requests.proofs.context.texts.show_exprs.Given as goal

-- what is written so far and what is left are the whole text
abbrev pub invariant-exprs : goal.invariant-exprs
invariant-exprs g l =
    IsPlainFormatter l.initial.f
    → (done : List ℕ) × HasWritten g.W.Write.write_str_gives l.initial.f done l.f
    × (done ++ shown_fields l.bound l.left l.is_first (fields_view l.name-iterator)
    ≡ shown_fields l.bound l.bound true (fields_view l.pairs.entries))
