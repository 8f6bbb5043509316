use Rattle.std.proofs.Common.{◌++◌, string_bytes}
use Rattle.cedar_log.proofs.Carried.{as_text}
use Rattle.cedar_log.proofs.lines.request_text.Goals as goal

pub returns : goal.returns
returns c =
    as_text string_bytes _ _ (λ i. c.in_ok-who.ensures i ++ c.in_ok-what.ensures i) c.format.result c.format.ensures.ok
