use Rattle.std.proofs.Common.{◌≡◌, ◌∙◌, sym, ap, false}
use Rattle.cedar_text_lexer.specs.declared.tokens.Kind.TheVariants as kind
use Rattle.cedar_text_lexer.specs.declared.tokens.Token.{Token}
use Rattle.cedar_text_lexer.specs.Sequence.{kind_at}
use Rattle.cedar_text_parser.specs.Reading.{IsWithin}
use Rattle.cedar_text_parser.proofs.Places.{passed_up, escape_refused, refused_within}
use Rattle.cedar_text_parser.proofs.annotations.value_at.Goals as goal

pub returns-in_err-value-in-Text-clause-placed : goal.returns-in_err-value-in-Text-clause-placed
returns-in_err-value-in-Text-clause-placed c =
    let source = c.args.source.now in
    let is : kind_at source.tokens c.args.index ≡ kind.Text =
    ap (λ (t : Token). t.kind) (sym c.in_ok-token.ensures.is) ∙ c.in-Text.is in
    passed_up c.from_residual-in_err-value-in-Text.result _ (IsWithin source.text)
    c.from_residual-in_err-value-in-Text.ensures.1
    (refused_within source c.text.ensures.own.stand _ (escape_refused source false _ c.in_ok-token.ensures.within is
    (rw (c.in_ok-token.ensures.is, c.text.ensures.is) at c.in_err-value-in-Text.ensures.refused)))
