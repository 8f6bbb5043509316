use Rattle.std.proofs.Common.{ap, sym, ◌∙◌, length}
use Rattle.cedar_model.specs.Terms.{record_of}
use Rattle.cedar_model.specs.Shapes.{has_unknown}
use Rattle.cedar_expressions.specs.View.{terms_view}
use Rattle.cedar_restricted.specs.Keys.{texts_of, fields_named}
use Rattle.cedar_restricted.specs.Steps.{have_keys}
use Rattle.cedar_restricted.proofs.Collected.{unknown_named}
use Rattle.cedar_restricted.proofs.Maps.{exprs_of_map}
use Rattle.cedar_restricted.proofs.made.record_expr.Goals as goal

pub returns-clause-view : goal.returns-clause-view
returns-clause-view c =
    let same = ap (λ v. v.items) c.into_exprs.ensures.exprs in
    let lengths = c.requires.0 ∙ sym (ap length same) in
    c.in_ok-record_map.ensures.view ∙
    ap record_of (exprs_of_map
    c.args.keys.items c.into_exprs.result.items c.in_ok-fields.fields (lengths, c.requires.1)
    c.in_ok-fields.ensures) ∙ ap (λ es. record_of (fields_named (texts_of c.args.keys.items) (terms_view es))) same

pub returns-clause-unknown : goal.returns-clause-unknown
returns-clause-unknown c =
    let same = ap (λ v. v.items) c.into_exprs.ensures.exprs in
    let lengths = c.requires.0 ∙ sym (ap length same) in
    ap has_unknown (c.in_ok-record_map.ensures.view ∙
    ap record_of (exprs_of_map
    c.args.keys.items c.into_exprs.result.items c.in_ok-fields.fields (lengths, c.requires.1)
    c.in_ok-fields.ensures)) ∙
    unknown_named (texts_of c.args.keys.items) (terms_view c.into_exprs.result.items)
    (have_keys c.args.keys.items c.into_exprs.result.items lengths) ∙ c.into_exprs.ensures.unknown
