use Rattle.std.proofs.Common.{◌≡◌, sym, ap, length, rules}
use Rattle.cedar_model.specs.Terms.{call}
use Rattle.cedar_names.specs.Names.{name_text}
use Rattle.cedar_expressions.specs.View.{terms_view}
use Rattle.cedar_values.specs.Sound.{whats}
use Rattle.cedar_extensions.specs.Extensions.{extensions_view, calls_of}
use Rattle.cedar_restricted.specs.declared.whole.Whole.TheVariants as wholes
use Rattle.cedar_restricted.specs.declared.answers.Answers.TheVariants as answereds
use Rattle.cedar_restricted.specs.Parts.{all_values}
use Rattle.cedar_restricted.specs.Laws.{begins}
use Rattle.cedar_restricted.proofs.parts.PartsFrame.call.Goals as goal

pub returns-in-Ok-clone : goal.returns-in-Ok-clone
returns-in-Ok-clone g c =
    let name : name_text c.in-Ok.fn_name ≡ name_text c.args.fn_name.now = search rules in
    let args = c.in-Ok-clone.ensures.cases in
    begins (extensions_view c.args.extensions.now) (calls_of c.args.extensions.now)
    (wholes.Call c.in-Ok.fn_name) c.in-Ok-clone.args (answereds.Values c.new.result)
    c.args.loc (call (name_text c.args.fn_name.now) (terms_view c.args.args.now.value.items))
    c.read.result (λ i. call (name i) (terms_view (args i).items)) tt
    (ap (λ l. all_values (whats l)) (sym c.new.ensures.items), ap length c.new.ensures.items) c.read.ensures.reads
