use Rattle.std.proofs.Common.{◌≡◌, sym, ap, ◌∙◌}
use Rattle.cedar_model.specs.Terms.{Text, call}
use Rattle.cedar_names.specs.Names.{name_text}
use Rattle.cedar_expressions.specs.View.{terms_view}
use Rattle.cedar_restricted.specs.Views.{exprs_in}
use Rattle.cedar_json_reader.proofs.Reading.{terms_read}
use Rattle.cedar_json_reader.proofs.escapes.extension_call.Goals as goal

pub returns-in-Ok-call_extension_fn-clause-said : goal.returns-in-Ok-call_extension_fn-clause-said
returns-in-Ok-call_extension_fn-clause-said c =
    let named : name_text c.new.result ≡ c.args.function.now = c.new.ensures.text ∙ c.in-Ok.ensures.ok in
    c.in-Ok-call_extension_fn.ensures.view ∙ ap (λ (t : Text). call t (terms_view (exprs_in c.args.args.items))) named ∙ ap (call c.args.function.now) (sym (terms_read c.args.args.items))
