use Rattle.std.proofs.Common.{◌≡◌, ◌∙◌, ap, sym, refl, arith, get_or, ◌+◌, ℕ}
use Rattle.cedar_text_lexer.specs.declared.show.Position.{Position}
use Rattle.cedar_text_lexer.specs.Positions.{behind}
use Rattle.cedar_text_lexer.proofs.Located.{at_more, line_more, column_more, located_none, located_more}
use Rattle.cedar_text_lexer.proofs.show.locate.Goals as goal

pub loop-i-init : goal.loop-i-init
loop-i-init c = record { is = located_none c.args.text.now; at = refl; line = omega arith; column = omega arith }

pub loop-i-preserved : goal.loop-i-preserved
loop-i-preserved c =
    let p = c.loop-i.position in
    let b = get_or c.args.text.now c.loop-i.i 0 in
    let step = located_more c.args.text.now c.loop-i.i (omega arith) in
    let here : c.behind-position.result ≡ behind p b = rw c.as_bytes-bytes.ensures.value at c.behind-position.ensures in
    record {
      is = here ∙ (ap (λ (q : Position). behind q b) c.loop-i.invariant.is ∙ sym step);
      at = ap (λ (q : Position). q.at) here ∙ (at_more p b ∙ ap (λ (n : ℕ). n + 1) c.loop-i.invariant.at);
      line = rw here (line_more p b (c.loop-i.i + 1) c.loop-i.invariant.line);
      column = rw here (column_more p b (c.loop-i.i + 1) c.loop-i.invariant.column);
    }
