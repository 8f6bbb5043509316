-- Links of templates as plain data.
use Rattle.cedar_model.specs.Terms.{Text}
use Rattle.cedar_model.specs.World.{Slots}
use Rattle.cedar_layers.specs.Policies.{policy_id_text, slots_view}
use Rattle.cedar_policy_json_writer.specs.declared.links.TemplateLink.{TemplateLink}

-- the id of the template, the id of the policy that it is linked to, and the entities of its slots
pub record Link : Type 0 where
  pub template_id : Text
  pub new_id : Text
  pub values : Slots

abbrev pub link_view : TemplateLink → Link
link_view l = record {
  template_id = policy_id_text l.template_id;
  new_id = policy_id_text l.new_id;
  values = slots_view l.values;
}
