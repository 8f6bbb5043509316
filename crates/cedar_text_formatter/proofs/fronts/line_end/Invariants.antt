use Rattle.std.proofs.Common.{◌≡◌, ◌+◌, drop}
use Rattle.std.specs.List.{prefix_len}
use Rattle.cedar_text_lexer.specs.Scanning.{is_line_byte}
use Rattle.cedar_text_formatter.proofs.fronts.line_end.Given as goal

abbrev pub invariant-loop-i : goal.invariant-loop-i
invariant-loop-i l = l.from + prefix_len is_line_byte (drop l.from l.bytes) ≡ l.i + prefix_len is_line_byte (drop l.i l.bytes)
