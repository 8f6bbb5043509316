-- Those of the policies, and then those of the templates.
use Rattle.std.proofs.Common.{◌∙◌, ap, subst, ◌++◌, List, [], refl, append_assoc, string_bytes}
use Rattle.cedar_model.specs.Terms.{Text}
use Rattle.cedar_layers.specs.declared.policies.policy.Policy.{Policy}
use Rattle.cedar_cli.specs.Strict.{AreAlikeLines}
use Rattle.cedar_cli.proofs.repeated.push_alike.Goals as goal

pub returns : goal.returns
returns c =
    let (first, firsts, put) = c.in_ok-push_alike_policies.ensures in
    let (second, seconds, then) = c.in_ok-push_alike_templates.ensures in (
      first ++ second,
      record {
        of_policies = first;
        of_templates = second;
        policies_are = firsts;
        templates_are = subst (λ (ps : List Policy). AreAlikeLines c.args.places.now.source [] ps second)
            c.deref.ensures.value seconds;
        whole = refl;
      },
      then ∙ ap (λ (t : Text). t ++ second) put ∙ append_assoc (string_bytes c.args.warnings.now) first second,
    )
