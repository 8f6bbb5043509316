use Rattle.std.proofs.Common.{◌≡◌, sym, ap, ◌∙◌}
use Rattle.cedar_model.specs.Terms.{EntityName, entity_literal}
use Rattle.cedar_model.specs.Values.{plain_represented}
use Rattle.cedar_model.specs.Failures.{value}
use Rattle.cedar_names.specs.Names.{uid_name}
use Rattle.cedar_values.specs.Residuals.{partial_view}
use Rattle.cedar_interpreter.proofs.Looked.{entity_is}
use Rattle.cedar_interpreter.proofs.at_hand.entity_at_hand.Goals as goal

pub returns-in-Some : goal.returns-in-Some
returns-in-Some c =
    ap partial_view c.in-Value.is ∙ ap value (entity_is c.in-Value.value.what (uid_name c.in-Some.uid.now.value) (sym c.in-Some.ensures))
    ∙ ap (λ (d : EntityName). value (plain_represented (entity_literal d))) (sym (ap uid_name c.deref.ensures))
