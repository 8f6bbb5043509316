use Rattle.std.proofs.Common.{subst, string_bytes}
use Rattle.cedar_endpoints.specs.Asked.{Text}
use Rattle.cedar_logged_lines.specs.Lines.{IsToldBy}
use Rattle.cedar_logged_lines.proofs.answers.answer_to.Goals as goal

pub returns : goal.returns
returns g c =
    let r = c.in_ok-reply.reply in
    record {
      reply = r;
      is_due = c.in_ok-reply.ensures;
      answer_is = c.in_ok-answer.ensures;
      told_is = subst (λ (v : Text). IsToldBy r.status v c.args.line.now (string_bytes r.body)
          (string_bytes c.in_ok-told.told)) c.version_text.ensures c.in_ok-told.ensures;
    }
