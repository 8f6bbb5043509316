use Rattle.std.proofs.Common.{◌≡◌, sym, ◌∙◌, string_bytes}
use Rattle.std.proofs.lemmas.Bool.{false≢true}
use Rattle.std.proofs.lemmas.Slice.Eq.{bytes_eq-Decides}
use Rattle.cedar_text_formatter.proofs.Determined.{one_layout}
use Rattle.cedar_text_formatter.proofs.formatting.is_formatted.Goals as goal

pub returns-clause-no : goal.returns-clause-no
returns-clause-no c = λ is f.
    let same : c.as_str.result.now ≡ c.args.text.now = c.as_str.ensures.value ∙ one_layout c.args.text.now (string_bytes c.in_ok-formatted.formatted) c.args.text.now c.in_ok-formatted.ensures.formatted f in
    false≢true (sym is ∙ (c.eq.ensures ∙ (bytes_eq-Decides c.as_str.result.now c.args.text.now).1 same))
