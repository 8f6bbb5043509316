use Rattle.std.proofs.Common.{List}
use Rattle.std.proofs.lemmas.Result.{IfErr-weaker}
use Rattle.cedar_text_syntax.specs.Trees.{Tree}
use Rattle.cedar_text_syntax.specs.declared.steps.What.TheVariants as what
use Rattle.cedar_text_parser.specs.Building.{Are}
use Rattle.cedar_text_parser.specs.Finished.{finished}
use Rattle.cedar_text_parser.specs.Refusals.{IsRefused, IsRefusedOn, by_tokens}
use Rattle.cedar_text_parser.proofs.builder.Builder.in_brackets.Goals as goal

pub returns-in-Set-clause-err : goal.returns-in-Set-clause-err
returns-in-Set-clause-err c =
    IfErr-weaker c.list.result (λ e. IsRefused c.args.source.now e)
    (λ e. (ts : List Tree) → Are c.args.source.now (finished c.args.self.now) ts →
    IsRefusedOn c.args.source.now ts (what.Bracketed c.args.bracketed c.args.count) e)
    (λ e h ts are. by_tokens h) c.list.ensures.err

pub returns-in-Call-clause-err : goal.returns-in-Call-clause-err
returns-in-Call-clause-err c =
    IfErr-weaker c.list-in-Call.result (λ e. IsRefused c.args.source.now e)
    (λ e. (ts : List Tree) → Are c.args.source.now (finished c.args.self.now) ts →
    IsRefusedOn c.args.source.now ts (what.Bracketed c.args.bracketed c.args.count) e)
    (λ e h ts are. by_tokens h) c.list-in-Call.ensures.err

pub returns-in-Method-clause-err : goal.returns-in-Method-clause-err
returns-in-Method-clause-err c =
    IfErr-weaker c.list-in-Method.result (λ e. IsRefused c.args.source.now e)
    (λ e. (ts : List Tree) → Are c.args.source.now (finished c.args.self.now) ts →
    IsRefusedOn c.args.source.now ts (what.Bracketed c.args.bracketed c.args.count) e)
    (λ e h ts are. by_tokens h) c.list-in-Method.ensures.err
