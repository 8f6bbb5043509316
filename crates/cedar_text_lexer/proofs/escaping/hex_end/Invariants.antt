use Rattle.std.proofs.Common.{◌≡◌, ◌+◌, drop}
use Rattle.std.specs.List.{prefix_len}
use Rattle.cedar_text_lexer.specs.Escapes.{is_hex}
use Rattle.cedar_text_lexer.proofs.escaping.hex_end.Given as goal

abbrev pub invariant-loop-i : goal.invariant-loop-i
invariant-loop-i l = prefix_len is_hex l.bytes ≡ l.i + prefix_len is_hex (drop l.i l.bytes)
