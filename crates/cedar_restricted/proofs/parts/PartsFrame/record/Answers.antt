use Rattle.std.proofs.Common.{sym, ap, length}
use Rattle.cedar_model.specs.Terms.{record_of}
use Rattle.cedar_expressions.specs.View.{fields_view}
use Rattle.cedar_values.specs.Sound.{whats}
use Rattle.cedar_extensions.specs.Extensions.{extensions_view, calls_of}
use Rattle.cedar_restricted.specs.declared.whole.Whole.TheVariants as wholes
use Rattle.cedar_restricted.specs.declared.answers.Answers.TheVariants as answereds
use Rattle.cedar_restricted.specs.Parts.{all_values}
use Rattle.cedar_restricted.specs.Laws.{begins}
use Rattle.cedar_restricted.proofs.parts.PartsFrame.record.Goals as goal

pub returns-in-Ok : goal.returns-in-Ok
returns-in-Ok g c =
    begins (extensions_view c.args.extensions.now) (calls_of c.args.extensions.now)
    (wholes.Record c.in-Ok.keys) c.in-Ok.parts (answereds.Values c.new.result)
    c.args.loc (record_of (fields_view c.args.pairs.now.entries))
    c.read.result (ap record_of c.in-Ok.ensures.fields)
    c.in-Ok.ensures.keys (ap (λ l. all_values (whats l)) (sym c.new.ensures.items), ap length c.new.ensures.items)
    c.read.ensures.reads
