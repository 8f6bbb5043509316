use Rattle.std.proofs.Common.{◌≡◌, ℕ, true, List, ◌++◌, drop}
use Rattle.std.specs.Fmt.{HasWritten, IsPlainFormatter}
use Rattle.cedar_model.specs.Values.{expressions_of, expressions_at}
use Rattle.cedar_model.specs.Sets.{represented_values_of}
use Rattle.cedar_values.specs.Sound.{whats, whats_at}
use Rattle.cedar_names.specs.Texts.{shown_parts, shown_fields}
use Rattle.cedar_values.proofs.value.texts.+show.Given as goal

-- what is written so far and what is left are the whole text
abbrev pub invariant-show_elements-elements : goal.invariant-show_elements-elements
invariant-show_elements-elements g l =
    IsPlainFormatter l.initial.f
    → (done : List ℕ) × HasWritten g.W.Write.write_str_gives l.initial.f done l.f
    × (done ++ shown_parts l.bound l.left l.is_first (expressions_of (represented_values_of (whats (drop l.element-index l.elements)))) ≡ shown_parts l.bound l.bound true (expressions_of (represented_values_of (whats l.elements))))

abbrev pub invariant-show_entries-entries : goal.invariant-show_entries-entries
invariant-show_entries-entries g l =
    IsPlainFormatter l.initial.f
    → (done : List ℕ) × HasWritten g.W.Write.write_str_gives l.initial.f done l.f
    × (done ++ shown_fields l.bound l.left l.is_first (expressions_at (whats_at l.key-iterator)) ≡ shown_fields l.bound l.bound true (expressions_at (whats_at l.pairs.entries)))
