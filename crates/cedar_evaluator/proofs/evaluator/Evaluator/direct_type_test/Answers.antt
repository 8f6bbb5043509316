use Rattle.std.proofs.Common.{sym, ap, ◌∙◌, subst}
use Rattle.cedar_model.specs.Terms.{is_of_type}
use Rattle.cedar_model.specs.Outcomes.{text_eq}
use Rattle.cedar_model.specs.Failures.{answers_bool}
use Rattle.cedar_names.specs.Names.{uid_name, type_text}
use Rattle.cedar_expressions.specs.View.{view}
use Rattle.cedar_layers.specs.Policies.{slots_view}
use Rattle.cedar_evaluator.specs.Direct.{AnswersFrom}
use Rattle.cedar_evaluator.proofs.Direct.{type_direct}
use Rattle.cedar_evaluator.proofs.evaluator.Evaluator.direct_type_test.Goals as goal

pub returns-in-Some : goal.returns-in-Some
returns-in-Some g c =
    subst (λ b. AnswersFrom c.args.self.now (slots_view c.args.slots.now) 2 (is_of_type (view c.args.e.now) (type_text c.args.entity_type.now)) (answers_bool b))
    (sym (c.eq.ensures ∙ ap (λ t. text_eq t (type_text c.args.entity_type.now)) c.entity_type.ensures.text))
    (type_direct c.args.self.now (slots_view c.args.slots.now) (view c.args.e.now) (uid_name c.in-Some.uid.now) (type_text c.args.entity_type.now) c.in-Some.ensures)
