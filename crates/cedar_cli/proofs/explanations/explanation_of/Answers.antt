-- The lines are told one behind the other.
use Rattle.std.proofs.Common.{map, subst, string_bytes, List}
use Rattle.cedar_extensions.specs.Extensions.{extensions_view, calls_of}
use Rattle.cedar_explain_printer.specs.declared.lines.Line as declared
use Rattle.cedar_explain_printer.specs.Lines.{line_view}
use Rattle.cedar_cli.specs.Explained.{AreToldLines, IsBelow}
use Rattle.cedar_cli.proofs.Composed.{of_ok}
use Rattle.cedar_cli.proofs.explanations.explanation_of.Goals as goal

pub returns : goal.returns
returns g c =
    let x = c.args.extensions.now in
    let e = c.args.explaining in
    let text = e.deciding.places.now.source.text.now in
    let lines = c.in_ok-lines.lines.items in
    of_ok _ (λ s. IsBelow (extensions_view x) (calls_of x) text e.deciding.policies.now c.args.entities.now c.args.request.now
    e.deciding.way e.has_values (string_bytes s))
    (λ s h. record {
      lines = map line_view lines;
      explained = c.in_ok-lines.ensures;
      told = subst (λ (ls : List declared.Line). AreToldLines text (map line_view ls) (string_bytes s)) c.deref.ensures.value h;
    })
    c.told_lines-told.result c.told_lines-told.ensures
