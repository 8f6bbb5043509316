use Rattle.std.proofs.Common.{◌≡◌, ◌+◌, false, drop, option_map}
use Rattle.cedar_text_lexer.specs.Scanning.{quote_from}
use Rattle.cedar_text_lexer.proofs.scanning.closing_quote.Given as goal

abbrev pub invariant-loop-i : goal.invariant-loop-i
invariant-loop-i l = option_map (λ n. l.from + n) (quote_from false (drop l.from l.bytes)) ≡ option_map (λ n. l.i + n) (quote_from l.is_escaped (drop l.i l.bytes))
