-- What a file of links says, in which an entity is Cedar's text of it.
use Rattle.std.specs.Prelude.{◌≡◌, ⊤, ◌⊎◌, ℕ, ◌+◌, List, [], ◌∷◌, ◌++◌, Option, Some, None, option_map, Ok}
use Rattle.std.specs.Borrow.{Bor}
use Rattle.json.specs.Json.{Json, Items, no_items, item}
use Rattle.json.specs.Find.{as_array}
use Rattle.cedar_model.specs.Terms.{Text, EntityName}
use Rattle.cedar_names.specs.declared.names.EntityUID.{EntityUID}
use Rattle.cedar_names.specs.Names.{uid_name}
use Rattle.cedar_text_lexer.specs.declared.errors.ReadError.{ReadError}
use Rattle.cedar_text_lexer.specs.declared.errors.ReadError.TheVariants as reading
use Rattle.cedar_text_parser.specs.Paths.{IsEntityRead, IsPathRefused}
use Rattle.cedar_policy_json_reader.specs.declared.errors.PolicyJsonError.{PolicyJsonError}
use Rattle.cedar_policy_json_reader.specs.declared.errors.PolicyJsonError.TheVariants as errors
use Rattle.cedar_policy_json_reader.specs.declared.errors.RefusalReason.TheVariants as reasons
use Rattle.cedar_policy_json_reader.specs.Paths.{at_key, at_index}
use Rattle.cedar_policy_json_reader.specs.Refusals.{Said, refused, under, before, made_of, and_then, IsRefusal, IsMemory}
use Rattle.cedar_policy_json_reader.specs.Shapes.{text_said}
use Rattle.cedar_template_links.specs.declared.forms.LinkForm.TheVariants as forms
use Rattle.cedar_template_links.specs.declared.files.WrittenLink.{WrittenLink}
use Rattle.cedar_template_links.specs.Links.{LinkView, Parts, parts_said, values_key, values_said}

-- a link, with the texts of its entities
pub record WrittenView : Type 0 where
  pub template_id : Text
  pub new_id : Text
  pub principal : Option Text
  pub resource : Option Text

abbrev pub written_view : WrittenLink → WrittenView
written_view w = record {
  template_id = w.template_id.now;
  new_id = w.new_id.now;
  principal = option_map (λ (t : Bor Text). t.now) w.principal;
  resource = option_map (λ (t : Bor Text). t.now) w.resource;
}

-- ---- the JSON

abbrev pub written_of : Parts → Option Text × Option Text → WrittenView
written_of p v = record { template_id = p.template_id; new_id = p.new_id; principal = v.0; resource = v.1 }

abbrev pub written_with : Parts → Said WrittenView
written_with p = made_of (written_of p) (under (at_key (values_key forms.File)) (values_said text_said p.values))

-- an object of `template_id`, `link_id` and `args`, of which each is a text
abbrev pub written_said : Json → Said WrittenView
written_said j = and_then written_with (parts_said forms.File j)

abbrev pub written_from : ℕ → Items → Said (List WrittenView)
written_from n no_items = Ok []
written_from n (item j js) = before (under (at_index n) (written_said j)) (written_from (n + 1) js)

abbrev pub written_in : Option Items → Said (List WrittenView)
written_in None = refused reasons.NotAnArray
written_in (Some js) = written_from 0 js

abbrev pub all_written : Json → Said (List WrittenView)
all_written j = written_in (as_array j)

-- ---- entities

-- the text is this entity's
pub data IsTextOf (t : Text) (e : EntityName) : Type 0 where
  text_of : {u : EntityUID} → IsEntityRead t u → uid_name u ≡ e → IsTextOf t e

abbrev pub AreTextOf : Option Text → Option EntityName → Type 0
AreTextOf None None = ⊤
AreTextOf None (Some e) = ⊥
AreTextOf (Some t) None = ⊥
AreTextOf (Some t) (Some e) = IsTextOf t e

-- the same link, with the entities of its texts
pub record IsReadAs (w : WrittenView) (l : LinkView) : Type 0 where
  pub template : l.template_id ≡ w.template_id
  pub id : l.new_id ≡ w.new_id
  pub principal : AreTextOf w.principal l.principal
  pub resource : AreTextOf w.resource l.resource

-- link by link
abbrev pub AreReadAs : List WrittenView → List LinkView → Type 0
AreReadAs [] [] = ⊤
AreReadAs [] (l ∷ ls) = ⊥
AreReadAs (w ∷ ws) [] = ⊥
AreReadAs (w ∷ ws) (l ∷ ls) = IsReadAs w l × AreReadAs ws ls

-- the JSON says these links
pub record IsSaidBy (j : Json) (ls : List LinkView) : Type 0 where
  pub written : List WrittenView
  pub said : all_written j ≡ Ok written
  pub read : AreReadAs written ls

-- one more link, at the end
pub record IsOneMoreRead (w : WrittenView) (old new : List LinkView) : Type 0 where
  pub link : LinkView
  pub read : IsReadAs w link
  pub put : new ≡ old ++ link ∷ []

-- ---- refusals

-- there is a text, and it is no entity's
abbrev pub IsNoText : Option Text → Type 0
IsNoText None = ⊥
IsNoText (Some t) = (r : ReadError) × IsPathRefused t r

-- the reason is that what is said to be no entity's text is none; or memory ran out
abbrev pub IsToldOf : Type 0 → PolicyJsonError → Type 0
IsToldOf Told errors.Syntax = ⊥
IsToldOf Told errors.DuplicateKey = ⊥
IsToldOf Told (errors.Refused path reason) = (reason ≡ reasons.NotAnEntity) × Told
IsToldOf Told (errors.Memory error) = ⊤

abbrev pub IsNoEntity : Option Text → PolicyJsonError → Type 0
IsNoEntity t e = IsToldOf (IsNoText t) e

-- a text of the link is no entity's
abbrev pub IsUnread : WrittenView → PolicyJsonError → Type 0
IsUnread w e = IsToldOf (IsNoText w.principal ⊎ IsNoText w.resource) e

-- of one of the links
abbrev pub HaveNoText : List WrittenView → Type 0
HaveNoText [] = ⊥
HaveNoText (w ∷ ws) = (IsNoText w.principal ⊎ IsNoText w.resource) ⊎ HaveNoText ws

abbrev pub AreUnread : List WrittenView → PolicyJsonError → Type 0
AreUnread ws e = IsToldOf (HaveNoText ws) e

-- the JSON says no links, or a text of them is no entity's
pub data IsUnsaid (j : Json) (e : PolicyJsonError) : Type 0 where
  unwritten : IsRefusal (all_written j) e → IsUnsaid j e
  unread : {ws : List WrittenView} → all_written j ≡ Ok ws → AreUnread ws e → IsUnsaid j e

-- ---- arguments

-- a link of these ids, with the texts that the JSON says
abbrev pub written_as : Text → Text → Option Text × Option Text → WrittenView
written_as template_id new_id v =
    record { template_id = template_id; new_id = new_id; principal = v.0; resource = v.1 }

-- the link of these ids and of the entities that the JSON says
pub record IsAskedBy (template_id new_id : Text) (j : Json) (l : LinkView) : Type 0 where
  pub texts : Option Text × Option Text
  pub said : values_said text_said j ≡ Ok texts
  pub read : IsReadAs (written_as template_id new_id texts) l

-- the JSON says no texts, or one of them is no entity's
pub data IsUnasked (j : Json) (e : PolicyJsonError) : Type 0 where
  no_texts : IsRefusal (values_said text_said j) e → IsUnasked j e
  no_entities : {v : Option Text × Option Text} → values_said text_said j ≡ Ok v →
      IsToldOf (IsNoText v.0 ⊎ IsNoText v.1) e → IsUnasked j e

-- what is told of an error of reading a text; for private clauses
abbrev pub IsToldAs : ReadError → PolicyJsonError → Type 0
IsToldAs reading.Memory e = IsMemory e
IsToldAs (reading.Expected w k s t) e = IsToldOf ⊤ e
IsToldAs (reading.TooDeep n s t) e = IsToldOf ⊤ e
