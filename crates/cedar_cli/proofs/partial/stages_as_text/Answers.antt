use Rattle.std.proofs.Common.{subst, sym, string_bytes}
use Rattle.cedar_cli.specs.Stages.{IsLastWord, AreWords, AreWordsAbove}
use Rattle.cedar_cli.proofs.Composed.{of_ok}
use Rattle.cedar_cli.proofs.partial.stages_as_text.Goals as goal

pub returns : goal.returns
returns c =
    let first = c.args.stages.now.first in
    let later = c.args.stages.now.later.items in
    let above = c.as_str.result.now in
    of_ok (IsLastWord above c.last-last.result.now) (AreWords first later)
    (λ p h. record {
      above = above;
      words = subst (AreWordsAbove first later) (sym c.as_str.ensures.value)
          (subst (λ l. AreWordsAbove first l (string_bytes c.in_ok-above.above)) c.deref-2.ensures.value
          c.in_ok-above.ensures);
      last = subst (λ r. IsLastWord above r p) c.last-last.ensures h;
    })
    c.print_response-printed.result c.print_response-printed.ensures
