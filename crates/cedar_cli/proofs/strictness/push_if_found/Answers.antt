-- It is told exactly if that is shown.
use Rattle.std.proofs.Common.{subst, Option}
use Rattle.cedar_model.specs.Terms.{Text}
use Rattle.cedar_cli.specs.Strict.{IsLineWhen}
use Rattle.cedar_cli.proofs.strictness.push_if_found.Goals as goal

pub returns : goal.returns
returns c =
    let (line, is, put) = c.in_ok-push_line_when.ensures in (
      line,
      record {
        meant = c.in_ok-words.ensures.meant;
        line_is = subst (λ (o : Option Text). IsLineWhen o c.args.places.now.source c.args.policy.now line)
            c.in_ok-words.ensures.words is;
      },
      put,
    )
