-- The operands of the part, each with its answer.
use Rattle.std.proofs.Common.{refl, ap, subst, ◌∙◌, List, [], ◌∷◌, codes}
use Rattle.cedar_model.specs.Terms.{Term}
use Rattle.cedar_expressions.specs.View.{view}
use Rattle.cedar_layers.specs.Policies.{slots_view}
use Rattle.cedar_json_writer.specs.Trees.{json_view}
use Rattle.cedar_explain.specs.Reached.{IsReached}
use Rattle.cedar_explain_json.specs.Documents.{IsArrayOfOperands}
use Rattle.cedar_explain_json.specs.Operands.{terms_seen}
use Rattle.cedar_explain_json.proofs.parts.put_array.Goals as goal

pub returns : goal.returns
returns g c =
    let j = json_view c.in_ok-array.array in (
      (codes "operands", j) ∷ [],
      (
        j,
        subst (λ (ts : List Term). IsArrayOfOperands (IsReached c.args.evaluator.now (slots_view c.args.slots.now)) ts j)
            (ap terms_seen c.deref.ensures.value ∙ c.in_ok-operands.ensures) c.in_ok-array.ensures,
        refl,
      ),
      c.in_ok-put_member.ensures,
    )
