-- What is written of a set of policies, with templates and links, and reads back as itself.
use Rattle.std.specs.Prelude.{◌≡◌, ⊤, ℕ, Bool, true, false, List, [], ◌∷◌, ◌++◌, map, Option, Some, None, Ok}
use Rattle.cedar_model.specs.Terms.{EntityName, principal_slot, resource_slot}
use Rattle.cedar_model.specs.Agreement.{no_slots}
use Rattle.cedar_functions.specs.Functions.{Knowledge}
use Rattle.cedar_layers.specs.Policies.{PolicyView, policy_ids, first_repeated}
use Rattle.cedar_policy_json_reader.specs.Words.{is_name}
use Rattle.cedar_policy_json_writer.specs.Links.{Link}
use Rattle.cedar_policy_json_writer.specs.PolicySets.{policy_set_json}
use Rattle.cedar_policy_set_reader.specs.PolicySets.{PolicySetView, policy_set_said}
use Rattle.cedar_template_links.specs.declared.forms.LinkForm.TheVariants as forms
use Rattle.cedar_template_links.specs.Linking.{links_made}
use Rattle.cedar_template_links.specs.Links.{LinkView}
use Rattle.cedar_policy_json_laws.specs.Policies.{IsReadablePolicy}

-- each of them can be read, and none is linked
abbrev pub AreReadable : Bool → Knowledge → ℕ → List PolicyView → Type 0
AreReadable is_open k n [] = ⊤
AreReadable is_open k n (p ∷ ps) = (p.slots ≡ no_slots) × IsReadablePolicy is_open k n p × AreReadable is_open k n ps

-- ---- links

-- a link as it is read
abbrev pub link_read : Link → LinkView
link_read l = record {
  template_id = l.template_id;
  new_id = l.new_id;
  principal = l.values principal_slot;
  resource = l.values resource_slot;
}

-- if there is an entity, its type is a name
abbrev pub IsReadableValue : Option EntityName → Type 0
IsReadableValue None = ⊤
IsReadableValue (Some e) = is_name e.type_name ≡ true

abbrev pub AreReadableLinks : List Link → Type 0
AreReadableLinks [] = ⊤
AreReadableLinks (l ∷ ls) =
    IsReadableValue (l.values principal_slot) × IsReadableValue (l.values resource_slot) × AreReadableLinks ls

-- ---- sets

-- each part can be read, the links make these policies of the templates, and no id is a duplicate
pub record IsReadableSet (k : Knowledge) (n : ℕ) (ps ts : List PolicyView) (ls : List Link) (made : List PolicyView)
    : Type 0 where
  pub policies_are : AreReadable false k n ps
  pub templates_are : AreReadable true k n ts
  pub links_are : AreReadableLinks ls
  pub links_make : links_made forms.Set ps ts (map link_read ls) ≡ Ok made
  pub templates_apart : first_repeated (policy_ids (ps ++ ts)) ≡ None
  pub policies_apart : first_repeated (policy_ids (ps ++ made)) ≡ None

-- the policies and behind them those that the links make, the templates and the links
abbrev pub set_read : List PolicyView → List PolicyView → List Link → List PolicyView → PolicySetView
set_read ps ts ls made = record { policies = ps ++ made; templates = ts; links = map link_read ls }

-- what is written of policies, templates and links is read as themselves, with the policies that the links make
abbrev pub PolicySetReadsBack : List PolicyView → List PolicyView → List Link → Type 0
PolicySetReadsBack ps ts ls =
    (k : Knowledge) (n : ℕ) (made : List PolicyView) → IsReadableSet k n ps ts ls made
    → policy_set_said k n (policy_set_json ps ts ls) ≡ Ok (set_read ps ts ls made)
