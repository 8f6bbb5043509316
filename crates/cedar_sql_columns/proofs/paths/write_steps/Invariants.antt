use Rattle.std.proofs.Common.{◌≡◌, ℕ, List, ◌++◌, flat_map, map, drop}
use Rattle.std.specs.Fmt.{HasWritten, IsPlainFormatter}
use Rattle.cedar_sql_columns.specs.Paths.{step_view}
use Rattle.cedar_sql_columns.specs.ErrorTexts.{step_text}
use Rattle.cedar_sql_columns.proofs.paths.write_steps.Given as goal

abbrev pub invariant-steps : goal.invariant-steps
invariant-steps g l =
    IsPlainFormatter l.initial.f
    → (done : List ℕ) × HasWritten g.W.Write.write_str_gives l.initial.f done l.f
    × (done ++ flat_map step_text (map step_view (drop l.step-index l.steps)) ≡ flat_map step_text (map step_view l.steps))
