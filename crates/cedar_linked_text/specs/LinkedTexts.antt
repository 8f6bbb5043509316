-- Texts of policies and a file of links, as one text.
use Rattle.std.specs.Prelude.{◌≡◌, ⊤, ◌⊎◌, ℕ, List, [], ◌∷◌, ◌++◌, map, Option, Some, None, Ok, IsSomeAnd}
use Rattle.json.specs.Json.{Json, document}
use Rattle.json.specs.Strict.{HasUniqueKeys}
use Rattle.cedar_model.specs.Terms.{Text}
use Rattle.cedar_model.specs.Agreement.{no_slots}
use Rattle.cedar_functions.specs.Functions.{Knowledge}
use Rattle.cedar_layers.specs.Policies.{PolicyView, policy_view, policy_id_text, linked, policy_ids, first_repeated}
use Rattle.cedar_layers.specs.PolicySets.{policies_view}
use Rattle.cedar_text_parser.specs.declared.policies.ParsedPolicies.{ParsedPolicies}
use Rattle.cedar_text_parser.specs.PolicyReading.{AreAllRead, AreTold}
use Rattle.cedar_policy_json_reader.specs.declared.errors.PolicyJsonError.{PolicyJsonError}
use Rattle.cedar_policy_json_reader.specs.declared.errors.PolicyJsonError.TheVariants as errors
use Rattle.cedar_policy_json_reader.specs.Refusals.{IsRefusal}
use Rattle.cedar_policy_json_text.specs.Kept.{annotated, ReadsBack, IsOwn}
use Rattle.cedar_policy_json_text.specs.Placed.{without_linked}
use Rattle.cedar_policy_set_reader.specs.PolicySets.{PolicySetView}
use Rattle.cedar_template_links.specs.declared.forms.LinkForm.TheVariants as forms
use Rattle.cedar_template_links.specs.Links.{LinkView, link_view}
use Rattle.cedar_template_links.specs.LinkFiles.{IsSaidBy, IsUnsaid, IsAskedBy, IsUnasked}
use Rattle.cedar_template_links.specs.Linking.{link_made, links_made}
use Rattle.cedar_linked_text.specs.declared.adding.NewLink.{NewLink}
use Rattle.cedar_linked_text.specs.declared.errors.LinkedTextError.{LinkedTextError}
use Rattle.cedar_linked_text.specs.declared.linking.Named.{Named}
use Rattle.cedar_linked_text.specs.declared.errors.LinkedTextError.TheVariants as refusals

-- ---- names

abbrev pub annotation_or_id : Option Text → PolicyView → Text
annotation_or_id None p = p.id
annotation_or_id (Some name) p = name

-- how a policy of a text is called: by its annotation `id` or, where it has none, by its place
abbrev pub name_of : PolicyView → Text
name_of p = annotation_or_id (annotated p) p

-- the same policy, with its name for its id
abbrev pub named : PolicyView → PolicyView
named p = linked p (name_of p) no_slots

-- the policies and the templates of a text, under their names
abbrev pub named_policies : ParsedPolicies → List PolicyView
named_policies p = map named (policies_view p.policies)

abbrev pub named_templates : ParsedPolicies → List PolicyView
named_templates p = map named (map policy_view p.templates.items)

-- the first name that is a second policy's, or a second template's
abbrev pub first_shared : List PolicyView → List PolicyView → Option Text
first_shared ps ts = first_repeated (policy_ids (ps ++ ts))

-- ---- lists

-- the text is JSON in which no object has a key twice, and a file of these links
abbrev pub IsListOf : Text → List LinkView → Type 0
IsListOf text ls = IsSomeAnd (document text) (λ j. HasUniqueKeys j × IsSaidBy j ls)

-- why it is none
abbrev pub IsNoList : Text → PolicyJsonError → Type 0
IsNoList text errors.Syntax = document text ≡ None
IsNoList text errors.DuplicateKey = IsSomeAnd (document text) (λ j. ¬ HasUniqueKeys j)
IsNoList text (errors.Refused path reason) = IsSomeAnd (document text) (λ j. IsUnsaid j (errors.Refused path reason))
IsNoList text (errors.Memory error) = ⊤

-- ---- policies and links

-- the policies of the text under their names, behind them those of the links, and the templates that have no link
abbrev pub set_with : List PolicyView → List PolicyView → List LinkView → List PolicyView → PolicySetView
set_with ps ts ls made = without_linked (record { policies = ps ++ made; templates = ts; links = ls })

-- the second text is read as the policies of the first and the policies that the links make of its templates
pub record IsLinkedText (k : Knowledge) (limit : ℕ) (text links new : Text) : Type 0 where
  pub parsed : ParsedPolicies
  pub read : AreAllRead k text limit parsed
  pub apart : first_shared (named_policies parsed) (named_templates parsed) ≡ None
  pub list : List LinkView
  pub listed : IsListOf links list
  pub made : List PolicyView
  pub linked : links_made forms.File (named_policies parsed) (named_templates parsed) list ≡ Ok made
  pub back : ReadsBack k limit (set_with (named_policies parsed) (named_templates parsed) list made) new

-- ---- one more link

-- the link that is asked for: the names of the template and of the policy, and the entities in JSON
pub record Asked : Type 0 where
  pub template_id : Text
  pub new_id : Text
  pub arguments : Text

abbrev pub asked_view : NewLink → Asked
asked_view n = record { template_id = n.template_id.now; new_id = n.new_id.now; arguments = n.arguments.now }

-- the arguments are JSON in which no object has a key twice, and the link has their entities and these names
abbrev pub IsLinkOf : Asked → LinkView → Type 0
IsLinkOf a l = IsSomeAnd (document a.arguments) (λ j. HasUniqueKeys j × IsAskedBy a.template_id a.new_id j l)

-- the policies of the text under their names and behind them those of the links that are listed, and the templates
pub record IsSetOf (parsed : ParsedPolicies) (links : Text) (s : PolicySetView) : Type 0 where
  pub apart : first_shared (named_policies parsed) (named_templates parsed) ≡ None
  pub listed : IsListOf links s.links
  pub made : List PolicyView
  pub linked : links_made forms.File (named_policies parsed) (named_templates parsed) s.links ≡ Ok made
  pub policies : s.policies ≡ named_policies parsed ++ made
  pub templates : s.templates ≡ named_templates parsed

-- the policy alone
abbrev pub lone : PolicyView → PolicySetView
lone p = record { policies = p ∷ []; templates = []; links = [] }

-- the text is read as the policy that the link makes of these templates, beside these policies
pub record IsWithLink (k : Knowledge) (limit : ℕ) (s : PolicySetView) (l : LinkView) (policy : Text) : Type 0 where
  pub made : PolicyView
  pub linked : link_made forms.File s.policies s.templates [] l ≡ Ok made
  pub back : ReadsBack k limit (lone made) policy

-- the same of the link that is asked for
pub record IsAddedToSet (k : Knowledge) (limit : ℕ) (s : PolicySetView) (a : Asked) (policy : Text) : Type 0 where
  pub link : LinkView
  pub names : IsLinkOf a link
  pub added : IsWithLink k limit s link policy

-- the same beside the policies of what was parsed and of the links
pub record IsAddedTo (k : Knowledge) (limit : ℕ) (parsed : ParsedPolicies) (links : Text) (a : Asked) (policy : Text) : Type 0 where
  pub set : PolicySetView
  pub is : IsSetOf parsed links set
  pub added : IsAddedToSet k limit set a policy

-- the same of a text of policies
pub record IsAdded (k : Knowledge) (limit : ℕ) (text links : Text) (a : Asked) (policy : Text) : Type 0 where
  pub parsed : ParsedPolicies
  pub read : AreAllRead k text limit parsed
  pub added : IsAddedTo k limit parsed links a policy

-- ---- refusals

-- the name is a second policy's or template's; or, of policies and links together, as was looked at of each already
abbrev pub IsSharedBy : List PolicyView → List PolicyView → List LinkView → Text → Type 0
IsSharedBy ps ts ls name =
    (first_shared ps ts ≡ Some name)
    ⊎ ((made : List PolicyView) × (links_made forms.File ps ts ls ≡ Ok made) × (first_repeated (policy_ids (ps ++ made)) ≡ Some name))

-- two policies, templates or links are called so
pub record IsShared (k : Knowledge) (limit : ℕ) (text links name : Text) : Type 0 where
  pub parsed : ParsedPolicies
  pub read : AreAllRead k text limit parsed
  pub list : List LinkView
  pub shared : IsSharedBy (named_policies parsed) (named_templates parsed) list name

-- the links can't be read, or one of them makes no policy
pub data IsUnmade (k : Knowledge) (limit : ℕ) (text links : Text) (e : PolicyJsonError) : Type 0 where
  unlisted : IsNoList links e → IsUnmade k limit text links e
  unmade : (parsed : ParsedPolicies) (list : List LinkView) → AreAllRead k text limit parsed → IsListOf links list →
      IsRefusal (links_made forms.File (named_policies parsed) (named_templates parsed) list) e → IsUnmade k limit text links e

-- why there is no such text
abbrev pub IsUnlinked : Knowledge → ℕ → Text → Text → LinkedTextError → Type 0
IsUnlinked k limit text links (refusals.Unread es) = AreTold k text limit (es.first ∷ es.rest.items)
IsUnlinked k limit text links (refusals.Shared i) = IsShared k limit text links (policy_id_text i)
IsUnlinked k limit text links (refusals.Link e) = IsUnmade k limit text links e
IsUnlinked k limit text links (refusals.NewLink e) = ⊥
IsUnlinked k limit text links (refusals.Text e) = IsOwn e
IsUnlinked k limit text links (refusals.Memory e) = ⊤

-- ---- refusals of one more link

-- why the arguments name no link
abbrev pub IsNoArgument : Asked → PolicyJsonError → Type 0
IsNoArgument a errors.Syntax = document a.arguments ≡ None
IsNoArgument a errors.DuplicateKey = IsSomeAnd (document a.arguments) (λ j. ¬ HasUniqueKeys j)
IsNoArgument a (errors.Refused path reason) = IsSomeAnd (document a.arguments) (λ j. IsUnasked j (errors.Refused path reason))
IsNoArgument a (errors.Memory error) = ⊤

-- the arguments name no link, or it makes no policy of these templates beside these policies
pub data IsNoLink (s : PolicySetView) (a : Asked) (e : PolicyJsonError) : Type 0 where
  unasked : IsNoArgument a e → IsNoLink s a e
  unlinked : (l : LinkView) → IsLinkOf a l → IsRefusal (link_made forms.File s.policies s.templates [] l) e → IsNoLink s a e

-- the same beside the policies of what was parsed and of the links
pub record IsNoLinkOf (parsed : ParsedPolicies) (links : Text) (a : Asked) (e : PolicyJsonError) : Type 0 where
  pub set : PolicySetView
  pub is : IsSetOf parsed links set
  pub none : IsNoLink set a e

-- the same of a text of policies
pub record IsNoNewLink (k : Knowledge) (limit : ℕ) (text links : Text) (a : Asked) (e : PolicyJsonError) : Type 0 where
  pub parsed : ParsedPolicies
  pub read : AreAllRead k text limit parsed
  pub none : IsNoLinkOf parsed links a e

-- why no link is added
abbrev pub IsNotAdded : Knowledge → ℕ → Text → Text → Asked → LinkedTextError → Type 0
IsNotAdded k limit text links a (refusals.Unread es) = AreTold k text limit (es.first ∷ es.rest.items)
IsNotAdded k limit text links a (refusals.Shared i) = IsShared k limit text links (policy_id_text i)
IsNotAdded k limit text links a (refusals.Link e) = IsUnmade k limit text links e
IsNotAdded k limit text links a (refusals.NewLink e) = IsNoNewLink k limit text links a e
IsNotAdded k limit text links a (refusals.Text e) = IsOwn e
IsNotAdded k limit text links a (refusals.Memory e) = ⊤

-- ---- for private clauses

-- the policies, and behind them those that the links make
pub record IsNamed (ps ts : List PolicyView) (ls : List LinkView) (n : Named) : Type 0 where
  pub apart : first_shared ps ts ≡ None
  pub made : List PolicyView
  pub linked : links_made forms.File ps ts ls ≡ Ok made
  pub policies : map policy_view n.policies.items ≡ ps ++ made
  pub templates : map policy_view n.templates.items ≡ ts
  pub links : map link_view n.links.items ≡ ls

pub record IsParsedNamed (parsed : ParsedPolicies) (links : Text) (n : Named) : Type 0 where
  pub list : List LinkView
  pub listed : IsListOf links list
  pub named : IsNamed (named_policies parsed) (named_templates parsed) list n

abbrev pub named_set : Named → PolicySetView
named_set n = record {
  policies = map policy_view n.policies.items;
  templates = map policy_view n.templates.items;
  links = map link_view n.links.items;
}

pub record IsParsedText (k : Knowledge) (limit : ℕ) (parsed : ParsedPolicies) (links new : Text) : Type 0 where
  pub apart : first_shared (named_policies parsed) (named_templates parsed) ≡ None
  pub list : List LinkView
  pub listed : IsListOf links list
  pub made : List PolicyView
  pub linked : links_made forms.File (named_policies parsed) (named_templates parsed) list ≡ Ok made
  pub back : ReadsBack k limit (set_with (named_policies parsed) (named_templates parsed) list made) new

-- two policies have one id
abbrev pub AreRepeated : List PolicyView → LinkedTextError → Type 0
AreRepeated ps (refusals.Unread es) = ⊥
AreRepeated ps (refusals.Shared i) = first_repeated (policy_ids ps) ≡ Some (policy_id_text i)
AreRepeated ps (refusals.Link e) = ⊥
AreRepeated ps (refusals.NewLink e) = ⊥
AreRepeated ps (refusals.Text e) = ⊥
AreRepeated ps (refusals.Memory e) = ⊤

abbrev pub IsNamedRefusal : List PolicyView → List PolicyView → List LinkView → LinkedTextError → Type 0
IsNamedRefusal ps ts ls (refusals.Unread es) = ⊥
IsNamedRefusal ps ts ls (refusals.Shared i) = IsSharedBy ps ts ls (policy_id_text i)
IsNamedRefusal ps ts ls (refusals.Link e) = IsRefusal (links_made forms.File ps ts ls) e
IsNamedRefusal ps ts ls (refusals.NewLink e) = ⊥
IsNamedRefusal ps ts ls (refusals.Text e) = ⊥
IsNamedRefusal ps ts ls (refusals.Memory e) = ⊤

pub record IsSharedIn (parsed : ParsedPolicies) (name : Text) : Type 0 where
  pub list : List LinkView
  pub shared : IsSharedBy (named_policies parsed) (named_templates parsed) list name

pub data IsUnmadeOf (parsed : ParsedPolicies) (links : Text) (e : PolicyJsonError) : Type 0 where
  unlisted_of : IsNoList links e → IsUnmadeOf parsed links e
  unmade_of : (list : List LinkView) → IsListOf links list →
      IsRefusal (links_made forms.File (named_policies parsed) (named_templates parsed) list) e → IsUnmadeOf parsed links e

abbrev pub IsParsedRefusal : ParsedPolicies → Text → LinkedTextError → Type 0
IsParsedRefusal parsed links (refusals.Unread es) = ⊥
IsParsedRefusal parsed links (refusals.Shared i) = IsSharedIn parsed (policy_id_text i)
IsParsedRefusal parsed links (refusals.Link e) = IsUnmadeOf parsed links e
IsParsedRefusal parsed links (refusals.NewLink e) = ⊥
IsParsedRefusal parsed links (refusals.Text e) = IsOwn e
IsParsedRefusal parsed links (refusals.Memory e) = ⊤

abbrev pub IsRefusedWithLink : PolicySetView → LinkView → LinkedTextError → Type 0
IsRefusedWithLink s l (refusals.Unread es) = ⊥
IsRefusedWithLink s l (refusals.Shared i) = ⊥
IsRefusedWithLink s l (refusals.Link e) = ⊥
IsRefusedWithLink s l (refusals.NewLink e) = IsRefusal (link_made forms.File s.policies s.templates [] l) e
IsRefusedWithLink s l (refusals.Text e) = IsOwn e
IsRefusedWithLink s l (refusals.Memory e) = ⊤

abbrev pub IsRefusedBySet : PolicySetView → Asked → LinkedTextError → Type 0
IsRefusedBySet s a (refusals.Unread es) = ⊥
IsRefusedBySet s a (refusals.Shared i) = ⊥
IsRefusedBySet s a (refusals.Link e) = ⊥
IsRefusedBySet s a (refusals.NewLink e) = IsNoLink s a e
IsRefusedBySet s a (refusals.Text e) = IsOwn e
IsRefusedBySet s a (refusals.Memory e) = ⊤

abbrev pub IsRefusedByParsed : ParsedPolicies → Text → Asked → LinkedTextError → Type 0
IsRefusedByParsed parsed links a (refusals.Unread es) = ⊥
IsRefusedByParsed parsed links a (refusals.Shared i) = IsSharedIn parsed (policy_id_text i)
IsRefusedByParsed parsed links a (refusals.Link e) = IsUnmadeOf parsed links e
IsRefusedByParsed parsed links a (refusals.NewLink e) = IsNoLinkOf parsed links a e
IsRefusedByParsed parsed links a (refusals.Text e) = IsOwn e
IsRefusedByParsed parsed links a (refusals.Memory e) = ⊤

-- memory ran out
abbrev pub IsMemory : LinkedTextError → Type 0
IsMemory (refusals.Unread es) = ⊥
IsMemory (refusals.Shared i) = ⊥
IsMemory (refusals.Link e) = ⊥
IsMemory (refusals.NewLink e) = ⊥
IsMemory (refusals.Text e) = ⊥
IsMemory (refusals.Memory e) = ⊤

-- a policy has no text, or memory ran out
abbrev pub IsOwnText : LinkedTextError → Type 0
IsOwnText (refusals.Unread es) = ⊥
IsOwnText (refusals.Shared i) = ⊥
IsOwnText (refusals.Link e) = ⊥
IsOwnText (refusals.NewLink e) = ⊥
IsOwnText (refusals.Text e) = IsOwn e
IsOwnText (refusals.Memory e) = ⊤
