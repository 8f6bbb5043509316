use Rattle.std.proofs.Common.{◌≡◌, ◌+◌, drop}
use Rattle.std.specs.List.{prefix_len}
use Rattle.std.specs.Char.{is_ascii_digit}
use Rattle.cedar_text_lexer.proofs.scanning.number_end.Given as goal

abbrev pub invariant-loop-i : goal.invariant-loop-i
invariant-loop-i l = l.from + prefix_len is_ascii_digit (drop l.from l.bytes) ≡ l.i + prefix_len is_ascii_digit (drop l.i l.bytes)
