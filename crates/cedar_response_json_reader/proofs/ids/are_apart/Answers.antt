use Rattle.std.proofs.Common.{◌≡◌, Option, List, IfOk, sym, ap, ◌∙◌, subst}
use Rattle.std.specs.Prelude.{is_none}
use Rattle.cedar_model.specs.Terms.{Text}
use Rattle.cedar_model.specs.Refusals.{first_repeated}
use Rattle.cedar_layers.specs.Policies.{PolicyView, policy_ids}
use Rattle.cedar_response_json_reader.proofs.Holding.{ids_held}
use Rattle.cedar_response_json_reader.proofs.ids.are_apart.Goals as goal

pub returns : goal.returns
returns c =
    subst (λ (o : Option Text). IfOk c.make_a_set.result (λ b. b ≡ is_none o))
    (ap (λ (vs : List PolicyView). first_repeated (policy_ids vs)) c.in_ok-copies.ensures
    ∙ ap first_repeated (sym (ids_held c.args.rows.now.items)))
    c.make_a_set.ensures
