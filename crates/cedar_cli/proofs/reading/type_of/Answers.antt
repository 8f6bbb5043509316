use Rattle.std.proofs.Common.{sym, subst}
use Rattle.cedar_text_parser.specs.Paths.{IsNameRead}
use Rattle.cedar_cli.proofs.reading.type_of.Goals as goal

pub returns-in-Ok-clause-read : goal.returns-in-Ok-clause-read
returns-in-Ok-clause-read c = subst (IsNameRead c.args.source.text.now) (sym c.new.ensures.whole) c.in-Ok.ensures.ok
