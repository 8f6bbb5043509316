use Rattle.std.proofs.Common.{◌+◌, map, drop}
use Rattle.cedar_extensions.specs.Extensions.{extensions_view, calls_of}
use Rattle.cedar_cli.specs.Authorized.{IsAnsweredOver}
use Rattle.cedar_cli.specs.Reasons.{IsRequestUnread}
use Rattle.cedar_cli.proofs.Batching.{AreSoFar}
use Rattle.cedar_cli.proofs.batch.answer_lines.Given as goal

abbrev pub invariant-lines : goal.invariant-lines
invariant-lines g l =
    let x = l.fn.extensions in
    let b = l.fn.batch in
    AreSoFar
    (λ r. IsAnsweredOver (extensions_view x) (calls_of x) b.deciding.places.now.source.text.now b.deciding.policies.now
    b.entities.now r b.deciding.way)
    (IsRequestUnread (extensions_view x) (calls_of x)) b.asked.now (map (λ t. t.now) l.fn.lines)
    (map (λ t. t.now) (drop l.i l.fn.lines)) (l.i + 1) l.printed
