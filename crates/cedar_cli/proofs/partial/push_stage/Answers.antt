use Rattle.cedar_cli.proofs.Staged.{adds_word}
use Rattle.cedar_cli.proofs.partial.push_stage.Goals as goal

pub returns : goal.returns
returns c =
    adds_word c.args.response.now _ c.as_str.result.now _ _ c.as_str.ensures.value c.in_ok-text.ensures
    c.in_ok-push_str.ensures.bytes
