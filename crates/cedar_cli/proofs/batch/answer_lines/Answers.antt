use Rattle.std.proofs.Common.{refl, ◌+◌, map, drop, ap}
use Rattle.std.proofs.lemmas.List.{drop_all}
use Rattle.cedar_extensions.specs.Extensions.{extensions_view, calls_of}
use Rattle.cedar_cli.specs.Authorized.{IsAnsweredOver}
use Rattle.cedar_cli.specs.Batch.{line_of_answer}
use Rattle.cedar_cli.specs.Reasons.{IsRequestUnread}
use Rattle.cedar_cli.proofs.Batching.{next_line, none_yet, one_more, all_done}
use Rattle.cedar_cli.proofs.batch.answer_lines.Goals as goal

pub lines-init : goal.lines-init
lines-init g c =
    let x = c.args.extensions.now in
    let b = c.args.batch in
    none_yet
    (λ r. IsAnsweredOver (extensions_view x) (calls_of x) b.deciding.places.now.source.text.now b.deciding.policies.now
    b.entities.now r b.deciding.way)
    (IsRequestUnread (extensions_view x) (calls_of x)) b.asked.now (map (λ t. t.now) c.args.lines.now) _
    c.new.ensures.bytes refl

pub lines-preserved : goal.lines-preserved
lines-preserved g c =
    let x = c.args.extensions.now in
    let b = c.args.batch in
    let lines = c.args.lines.now in
    let i = c.lines.i in
    one_more
    (λ r. IsAnsweredOver (extensions_view x) (calls_of x) b.deciding.places.now.source.text.now b.deciding.policies.now
    b.entities.now r b.deciding.way)
    (IsRequestUnread (extensions_view x) (calls_of x)) b.asked.now (map (λ t. t.now) lines) _
    (map (λ t. t.now) (drop i lines)) (map (λ t. t.now) (drop (i + 1) lines)) (i + 1)
    (line_of_answer c.in_ok-answered.answered) c.lines.printed c.put_answer.new.printed
    (next_line lines i _ c.lines-test.true)
    c.lines.invariant c.in_ok-answered.ensures c.in_ok-put_answer.ensures.output c.in_ok-put_answer.ensures.status

pub returns : goal.returns
returns g c =
    let x = c.args.extensions.now in
    let b = c.args.batch in
    all_done
    (λ r. IsAnsweredOver (extensions_view x) (calls_of x) b.deciding.places.now.source.text.now b.deciding.policies.now
    b.entities.now r b.deciding.way)
    (IsRequestUnread (extensions_view x) (calls_of x)) b.asked.now (map (λ t. t.now) c.args.lines.now) _ _
    c.lines.printed (ap (map (λ t. t.now)) (drop_all c.lines.i c.args.lines.now c.lines-test.false)) c.lines.invariant
