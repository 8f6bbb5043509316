use Rattle.std.proofs.lemmas.Result.{IfErr-weaker}
use Rattle.json.specs.Value.{value_view}
use Rattle.cedar_template_links.specs.LinkFiles.{IsUnasked}
use Rattle.cedar_linked_text.specs.LinkedTexts.{asked_view, IsNoArgument}
use Rattle.cedar_linked_text.proofs.Added.{arguments_refused}
use Rattle.cedar_linked_text.proofs.adding.read_new.Goals as goal

pub returns-in-Ok-clause-refused : goal.returns-in-Ok-clause-refused
returns-in-Ok-clause-refused c =
    let a = asked_view c.args.new in
    let j = value_view c.in-Ok.value in
    IfErr-weaker c.link_from_arguments.result (IsUnasked j) (IsNoArgument a) (λ e h. arguments_refused a j e c.in-Ok.ensures.said h) c.link_from_arguments.ensures.refused
