use Rattle.std.proofs.Common.{List}
use Rattle.std.proofs.lemmas.Result.{IfErr-weaker}
use Rattle.cedar_text_syntax.specs.Trees.{Tree}
use Rattle.cedar_text_parser.specs.Building.{Are}
use Rattle.cedar_text_parser.specs.Finished.{finished}
use Rattle.cedar_text_parser.specs.Refusals.{IsRefused, IsRefusedOn, by_tokens}
use Rattle.cedar_text_parser.proofs.builder.Builder.take.Goals as goal

pub returns-in-Leaf-clause-err : goal.returns-in-Leaf-clause-err
returns-in-Leaf-clause-err c =
    IfErr-weaker c.leaf.result (λ e. IsRefused c.args.source.now e)
    (λ e. (ts : List Tree) → Are c.args.source.now (finished c.args.self.now) ts →
    IsRefusedOn c.args.source.now ts c.args.step.what e) (λ e h ts are. by_tokens h) c.leaf.ensures.err

pub returns-in-Unary-clause-err : goal.returns-in-Unary-clause-err
returns-in-Unary-clause-err c =
    IfErr-weaker c.unary.result (λ e. IsRefused c.args.source.now e)
    (λ e. (ts : List Tree) → Are c.args.source.now (finished c.args.self.now) ts →
    IsRefusedOn c.args.source.now ts c.args.step.what e) (λ e h ts are. by_tokens h) c.unary.ensures.err

pub returns-in-Binary-clause-err : goal.returns-in-Binary-clause-err
returns-in-Binary-clause-err c =
    IfErr-weaker c.binary.result (λ e. IsRefused c.args.source.now e)
    (λ e. (ts : List Tree) → Are c.args.source.now (finished c.args.self.now) ts →
    IsRefusedOn c.args.source.now ts c.args.step.what e)
    (λ e h ts are. by_tokens h) c.binary.ensures.err

pub returns-in-If-clause-err : goal.returns-in-If-clause-err
returns-in-If-clause-err c =
    IfErr-weaker c.conditional.result (λ e. IsRefused c.args.source.now e)
    (λ e. (ts : List Tree) → Are c.args.source.now (finished c.args.self.now) ts →
    IsRefusedOn c.args.source.now ts c.args.step.what e)
    (λ e h ts are. by_tokens h) c.conditional.ensures.err

pub returns-in-Field-clause-err : goal.returns-in-Field-clause-err
returns-in-Field-clause-err c =
    IfErr-weaker c.field.result (λ e. IsRefused c.args.source.now e)
    (λ e. (ts : List Tree) → Are c.args.source.now (finished c.args.self.now) ts →
    IsRefusedOn c.args.source.now ts c.args.step.what e) (λ e h ts are. by_tokens h) c.field.ensures.err
