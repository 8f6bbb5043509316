-- What `translate-policy` answers: the policies of a text as JSON.
use Rattle.std.specs.Prelude.{◌≡◌, ◌++◌, [], map, codes}
use Rattle.json.specs.Print.{print}
use Rattle.json.specs.Tree.{json_tokens}
use Rattle.cedar_model.specs.Terms.{Text}
use Rattle.cedar_layers.specs.Policies.{policy_view}
use Rattle.cedar_layers.specs.PolicySets.{policies_view}
use Rattle.cedar_text_parser.specs.declared.policies.ParsedPolicies.{ParsedPolicies}
use Rattle.cedar_policy_json_writer.specs.PolicySets.{policy_set_json}
use Rattle.cedar_cli.specs.Questions.{ArePoliciesOf}

-- the set of the policies and templates that the text's tokens derive, without links, on a line
pub record IsTranslated (text line : Text) : Type 0 where
  pub parsed : ParsedPolicies
  pub policies_are : ArePoliciesOf text parsed
  pub line_is : line
      ≡ print (json_tokens (policy_set_json (policies_view parsed.policies) (map policy_view parsed.templates.items) []))
      ++ codes "\n"
