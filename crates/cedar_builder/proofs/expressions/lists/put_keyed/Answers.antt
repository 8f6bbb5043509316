use Rattle.std.proofs.Common.{Some, Result, Global, option_map, ap, sym, ◌∙◌}
use Rattle.std.specs.declared.alloc.AllocError.{AllocError}
use Rattle.std.specs.declared.rc.RcStr.{RcStr}
use Rattle.cedar_model.specs.Terms.{Fields}
use Rattle.cedar_expressions.specs.declared.expr.Expr.{Expr}
use Rattle.cedar_expressions.specs.Records.{put_field}
use Rattle.cedar_expressions.specs.View.{fields_view}
use Rattle.cedar_expressions.proofs.Records.{put_field-entries}
use Rattle.cedar_builder.specs.Building.{field_in}
use Rattle.cedar_builder.proofs.expressions.lists.put_keyed.Goals as goal

pub returns : goal.returns
returns c =
    let es = c.args.made.now.entries in
    ap (λ (r : Result (RcStr Global × Expr) AllocError). option_map (λ f. put_field (fields_view es) f.0 f.1) (field_in r)) c.in_ok-key.was
    ∙ ap (λ (fs : Fields). Some fs) (sym (ap fields_view c.in_ok-insert.ensures.entries ∙ put_field-entries es c.in_ok-key.key c.in_ok-key.part))
