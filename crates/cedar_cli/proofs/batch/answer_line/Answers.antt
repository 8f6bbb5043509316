use Rattle.std.proofs.Common.{subst}
use Rattle.cedar_extensions.specs.Extensions.{extensions_view, calls_of}
use Rattle.cedar_cli.specs.declared.asked.Asked.{Asked}
use Rattle.cedar_cli.specs.Authorized.{IsAnsweredOver}
use Rattle.cedar_cli.specs.Reasons.{IsToldFor, IsRequestUnread}
use Rattle.cedar_cli.proofs.Batching.{line_decided, line_refused}
use Rattle.cedar_cli.proofs.batch.answer_line.Goals as goal

pub returns-in-Ok : goal.returns-in-Ok
returns-in-Ok g c =
    let x = c.args.extensions.now in
    let b = c.args.batch in
    line_decided
    (λ r. IsAnsweredOver (extensions_view x) (calls_of x) b.deciding.places.now.source.text.now b.deciding.policies.now
    b.entities.now r b.deciding.way)
    (IsRequestUnread (extensions_view x) (calls_of x)) b.asked.now (record { name = _; text = c.args.line })
    c.args.number c.in-Ok.printed c.decided.result
    (subst (λ (q : Asked). IsAnsweredOver (extensions_view x) (calls_of x) b.deciding.places.now.source.text.now
    b.deciding.policies.now b.entities.now q b.deciding.way c.in-Ok.printed) c.ask-asked.ensures c.in-Ok.ensures.answered)
    c.decided.ensures.line c.decided.ensures.decided

pub returns-in-Err : goal.returns-in-Err
returns-in-Err g c =
    let x = c.args.extensions.now in
    let b = c.args.batch in
    line_refused
    (λ r. IsAnsweredOver (extensions_view x) (calls_of x) b.deciding.places.now.source.text.now b.deciding.policies.now
    b.entities.now r b.deciding.way)
    (IsRequestUnread (extensions_view x) (calls_of x)) b.asked.now (record { name = c.args.line; text = c.args.line })
    c.args.number c.in-Err.refusal c.refused.result
    (subst (λ (q : Asked). IsToldFor (IsRequestUnread (extensions_view x) (calls_of x) q) c.in-Err.refusal)
    c.ask-asked.ensures c.in-Err.ensures.refused)
    c.refused.ensures.told c.refused.ensures.refused c.refused.ensures.line
