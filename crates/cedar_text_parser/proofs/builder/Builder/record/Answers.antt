use Rattle.std.proofs.Common.{List}
use Rattle.cedar_text_syntax.specs.Trees.{Tree}
use Rattle.cedar_text_syntax.specs.declared.steps.Bracketed.TheVariants as bracketed
use Rattle.cedar_text_syntax.specs.declared.steps.What.TheVariants as what
use Rattle.cedar_text_parser.specs.Building.{Are}
use Rattle.cedar_text_parser.specs.Finished.{finished}
use Rattle.cedar_text_parser.specs.Refusals.{IsRefusedOn, by_tokens}
use Rattle.cedar_text_parser.proofs.Kept.{record_kept, record_refused}
use Rattle.cedar_text_parser.proofs.Places.{passed_up}
use Rattle.cedar_text_parser.proofs.builder.Builder.record.Goals as goal

pub returns-in_err-fields-clause-err : goal.returns-in_err-fields-clause-err
returns-in_err-fields-clause-err c =
    passed_up c.from_residual.result _ (λ e. (ts : List Tree) →
    Are c.args.source.now (finished c.args.self.now) ts →
    IsRefusedOn c.args.source.now ts (what.Bracketed bracketed.Record c.args.count) e)
    c.from_residual.ensures.1
    (λ ts h. by_tokens c.in_err-fields.ensures.err)

pub returns-in_err-put-in-Ok-clause-err : goal.returns-in_err-put-in-Ok-clause-err
returns-in_err-put-in-Ok-clause-err c =
    passed_up c.from_residual-in_err-put-in-Ok.result _ (λ e. (ts : List Tree) →
    Are c.args.source.now (finished c.args.self.now) ts →
    IsRefusedOn c.args.source.now ts (what.Bracketed bracketed.Record c.args.count) e)
    c.from_residual-in_err-put-in-Ok.ensures.1
    (λ ts h. by_tokens tt)

pub returns-in-Ok-clause-ok : goal.returns-in-Ok-clause-ok
returns-in-Ok-clause-ok c =
    record_kept c.in_ok-fields.fields.at.items c.in_ok-fields.fields.pairs.items c.in_ok-fields.ensures.parts
    c.in_ok-fields.ensures.count c.in_ok-fields.ensures.pairs c.in-Ok.ensures.distinct c.in-Ok.ensures.kind
    c.in_ok-put-in-Ok.ensures

pub returns-clause-err : goal.returns-clause-err
returns-clause-err c =
    record_refused c.in_ok-fields.fields.pairs.items _ c.in_ok-fields.ensures.parts c.in_ok-fields.ensures.count
    c.in_ok-fields.ensures.pairs (rw c.deref.ensures.value at c.refuse_record.ensures)
