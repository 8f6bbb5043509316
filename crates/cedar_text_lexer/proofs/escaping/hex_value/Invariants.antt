use Rattle.std.proofs.Common.{◌≡◌, ◌+◌, ◌*◌, ◌^◌, ◌≤◌, take, length}
use Rattle.std.specs.Str.Parse.{digits_value}
use Rattle.cedar_text_lexer.proofs.escaping.hex_value.Given as goal

abbrev pub invariant-loop-i : goal.invariant-loop-i
invariant-loop-i l = (l.value ≡ digits_value 16 (take l.i l.bytes)) × (length l.bytes ≤ 6) × (l.value + 3 ≤ 3 * 2 ^ (5 * l.i))
