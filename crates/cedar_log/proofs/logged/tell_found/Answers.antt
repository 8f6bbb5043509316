use Rattle.std.proofs.Common.{refl, ap, Option, option_map, string_bytes}
use Rattle.cedar_log.specs.Lines.{Text}
use Rattle.cedar_log.specs.Exchanges.{AreFound}
use Rattle.cedar_log.specs.Logs.{unread}
use Rattle.cedar_log.proofs.Telling.{handed_lines, as_given}
use Rattle.cedar_log.proofs.logged.tell_found.Goals as goal

pub returns-in-Some : goal.returns-in-Some
returns-in-Some g c =
    let lines = c.in-Some.lines in
    handed_lines g.L.Sink.contents c.args.request.now c.args.response.now c.tell_lines.new.response c.args.log.now
    c.tell_lines.new.log (string_bytes lines) c.as_str.result.now c.requires.hands_out
    (as_given (λ (o : Option Text). AreFound c.args.request.now c.args.response.now o) _ _
    (ap (λ o. option_map string_bytes o) c.in-Some.is) c.requires.told)
    c.as_str.ensures.value c.tell_lines.ensures

pub returns-in-None : goal.returns-in-None
returns-in-None g c =
    unread c.requires.hands_out
    (as_given (λ (o : Option Text). AreFound c.args.request.now c.args.response.now o) _ _
    (ap (λ o. option_map string_bytes o) c.in-None.is) c.requires.told)
    refl c.withhold.ensures
