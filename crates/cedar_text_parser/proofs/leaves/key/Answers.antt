use Rattle.std.proofs.Common.{sym, ◌∙◌}
use Rattle.cedar_text_parser.specs.Wording.{quoted}
use Rattle.cedar_text_parser.proofs.Growing.{bare_key}
use Rattle.cedar_text_parser.proofs.leaves.key.Goals as goal

pub returns-in_ok-from_str-clause-ok : goal.returns-in_ok-from_str-clause-ok
returns-in_ok-from_str-clause-ok c =
    bare_key c.in_ok-token.ensures.within c.in_ok-token.ensures.is
    (sym c.is_identifier.ensures ∙ c.if-is_identifier.true)
    (rw c.text.ensures.is at c.word.ensures) c.in_ok-from_str.ensures.ok

pub returns-in_ok-value-clause-ok : goal.returns-in_ok-value-clause-ok
returns-in_ok-value-clause-ok c = quoted c.in_ok-value.ensures.ok
