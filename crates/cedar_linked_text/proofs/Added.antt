-- One more link.
use Rattle.std.specs.Prelude.{⊤, IsSomeAnd}
use Rattle.std.proofs.Common.{◌≡◌, ℕ, Option, Some, List, [], ◌∷◌, ◌++◌, Ok, sym, subst}
use Rattle.json.specs.Json.{Json, document}
use Rattle.json.specs.Strict.{HasUniqueKeys}
use Rattle.cedar_model.specs.Terms.{Text}
use Rattle.cedar_functions.specs.Functions.{Knowledge}
use Rattle.cedar_layers.specs.Policies.{PolicyView}
use Rattle.cedar_text_parser.specs.declared.policies.ParsedPolicies.{ParsedPolicies}
use Rattle.cedar_text_parser.specs.PolicyReading.{AreAllRead}
use Rattle.cedar_policy_json_reader.specs.declared.errors.PolicyJsonError.{PolicyJsonError}
use Rattle.cedar_policy_json_reader.specs.declared.errors.PolicyJsonError.TheVariants as errors
use Rattle.cedar_policy_json_reader.specs.JsonTexts.{IsUnread}
use Rattle.cedar_policy_json_reader.specs.Refusals.{IsRefusal}
use Rattle.cedar_policy_json_text.specs.Kept.{ReadsBack}
use Rattle.cedar_policy_set_reader.specs.PolicySets.{PolicySetView}
use Rattle.cedar_template_links.specs.declared.forms.LinkForm.TheVariants as forms
use Rattle.cedar_template_links.specs.Links.{LinkView}
use Rattle.cedar_template_links.specs.LinkFiles.{IsAskedBy, IsUnasked, no_texts, no_entities}
use Rattle.cedar_template_links.specs.Linking.{link_made, links_made}
use Rattle.cedar_linked_text.specs.declared.errors.LinkedTextError.{LinkedTextError}
use Rattle.cedar_linked_text.specs.declared.errors.LinkedTextError.TheVariants as refusals
use Rattle.cedar_linked_text.specs.declared.linking.Named.{Named}
use Rattle.cedar_linked_text.specs.LinkedTexts.{IsParsedNamed, IsSetOf, named_set, named_policies, named_templates, IsListOf, Asked, IsLinkOf, IsNoArgument, lone, IsWithLink, IsAddedToSet, IsAddedTo, IsAdded, IsNoLink, unasked, unlinked, IsNoLinkOf, IsNoNewLink, IsNotAdded, IsRefusedWithLink, IsRefusedBySet, IsRefusedByParsed, IsParsedRefusal, IsMemory, IsOwnText}
use Rattle.cedar_linked_text.proofs.Linked.{unmade_here}

-- ---- what is added

pub link_asked : (a : Asked) (j : Json) (l : LinkView) → document a.arguments ≡ Some j → HasUniqueKeys j
    → IsAskedBy a.template_id a.new_id j l → IsLinkOf a l
link_asked a j l is unique h =
    subst (λ (o : Option Json). IsSomeAnd o (λ i. HasUniqueKeys i × IsAskedBy a.template_id a.new_id i l)) (sym is) (unique, h)

pub with_link_is : (k : Knowledge) (limit : ℕ) (s : PolicySetView) (l : LinkView) (made : PolicyView) (policy : Text)
    → link_made forms.File s.policies s.templates [] l ≡ Ok made → ReadsBack k limit (lone made) policy → IsWithLink k limit s l policy
with_link_is k limit s l made policy is back = record { made = made; linked = is; back = back }

pub added_to_set : (k : Knowledge) (limit : ℕ) (s : PolicySetView) (a : Asked) (policy : Text) (l : LinkView)
    → IsLinkOf a l → IsWithLink k limit s l policy → IsAddedToSet k limit s a policy
added_to_set k limit s a policy l asked h = record { link = l; names = asked; added = h }

set_of : (parsed : ParsedPolicies) (links : Text) (n : Named) → IsParsedNamed parsed links n → IsSetOf parsed links (named_set n)
set_of parsed links n h = record {
  apart = h.named.apart;
  listed = subst (IsListOf links) (sym h.named.links) h.listed;
  made = h.named.made;
  linked = subst (λ (ls : List LinkView). links_made forms.File (named_policies parsed) (named_templates parsed) ls ≡ Ok h.named.made) (sym h.named.links) h.named.linked;
  policies = h.named.policies;
  templates = h.named.templates;
}

pub added_to : (k : Knowledge) (limit : ℕ) (parsed : ParsedPolicies) (links : Text) (a : Asked) (policy : Text) (n : Named)
    → IsParsedNamed parsed links n → IsAddedToSet k limit (named_set n) a policy → IsAddedTo k limit parsed links a policy
added_to k limit parsed links a policy n is h = record { set = named_set n; is = set_of parsed links n is; added = h }

pub added : (k : Knowledge) (limit : ℕ) (text links : Text) (a : Asked) (policy : Text) (parsed : ParsedPolicies)
    → AreAllRead k text limit parsed → IsAddedTo k limit parsed links a policy → IsAdded k limit text links a policy
added k limit text links a policy parsed read h = record { parsed = parsed; read = read; added = h }

-- ---- refusals

pub arguments_unread : (a : Asked) (e : PolicyJsonError) → IsUnread a.arguments e → IsNoArgument a e
arguments_unread a errors.Syntax h = h
arguments_unread a errors.DuplicateKey h = h
arguments_unread a (errors.Refused p r) h = absurd h
arguments_unread a (errors.Memory m) h = tt

never_unread : (j : Json) → IsUnasked j errors.Syntax → ⊥
never_unread j (no_texts h) = h
never_unread j (no_entities said h) = h

never_unique : (j : Json) → IsUnasked j errors.DuplicateKey → ⊥
never_unique j (no_texts h) = h
never_unique j (no_entities said h) = h

pub arguments_refused : (a : Asked) (j : Json) (e : PolicyJsonError) → document a.arguments ≡ Some j → IsUnasked j e → IsNoArgument a e
arguments_refused a j errors.Syntax is h = absurd (never_unread j h)
arguments_refused a j errors.DuplicateKey is h = absurd (never_unique j h)
arguments_refused a j (errors.Refused p r) is h = subst (λ (o : Option Json). IsSomeAnd o (λ i. IsUnasked i (errors.Refused p r))) (sym is) h
arguments_refused a j (errors.Memory m) is h = tt

pub no_policy : (s : PolicySetView) (l : LinkView) (e : PolicyJsonError) → IsRefusal (link_made forms.File s.policies s.templates [] l) e
    → IsRefusedWithLink s l (refusals.NewLink e)
no_policy s l e h = h

pub own_text : (s : PolicySetView) (l : LinkView) (e : LinkedTextError) → IsOwnText e → IsRefusedWithLink s l e
own_text s l (refusals.Unread es) h = h
own_text s l (refusals.Shared i) h = h
own_text s l (refusals.Link e) h = h
own_text s l (refusals.NewLink e) h = absurd h
own_text s l (refusals.Text e) h = h
own_text s l (refusals.Memory e) h = h

pub memory_alone : (s : PolicySetView) (l : LinkView) (e : LinkedTextError) → IsMemory e → IsRefusedWithLink s l e
memory_alone s l (refusals.Unread es) h = h
memory_alone s l (refusals.Shared i) h = h
memory_alone s l (refusals.Link e) h = h
memory_alone s l (refusals.NewLink e) h = absurd h
memory_alone s l (refusals.Text e) h = absurd h
memory_alone s l (refusals.Memory e) h = h

-- why the arguments name no link is why it isn't added
pub unasked_link : (s : PolicySetView) (a : Asked) (e : PolicyJsonError) → IsNoArgument a e → IsRefusedBySet s a (refusals.NewLink e)
unasked_link s a e h = unasked h

pub refused_by_set : (s : PolicySetView) (a : Asked) (l : LinkView) (e : LinkedTextError)
    → IsLinkOf a l → IsRefusedWithLink s l e → IsRefusedBySet s a e
refused_by_set s a l (refusals.Unread es) asked h = h
refused_by_set s a l (refusals.Shared i) asked h = h
refused_by_set s a l (refusals.Link e) asked h = h
refused_by_set s a l (refusals.NewLink e) asked h = unlinked l asked h
refused_by_set s a l (refusals.Text e) asked h = h
refused_by_set s a l (refusals.Memory e) asked h = h

pub refused_by_parsed : (parsed : ParsedPolicies) (links : Text) (a : Asked) (n : Named) (e : LinkedTextError)
    → IsParsedNamed parsed links n → IsRefusedBySet (named_set n) a e → IsRefusedByParsed parsed links a e
refused_by_parsed parsed links a n (refusals.Unread es) is h = h
refused_by_parsed parsed links a n (refusals.Shared i) is h = absurd h
refused_by_parsed parsed links a n (refusals.Link e) is h = absurd h
refused_by_parsed parsed links a n (refusals.NewLink e) is h = record { set = named_set n; is = set_of parsed links n is; none = h }
refused_by_parsed parsed links a n (refusals.Text e) is h = h
refused_by_parsed parsed links a n (refusals.Memory e) is h = h

-- what refuses the links that are listed refuses one more
pub refused_before : (parsed : ParsedPolicies) (links : Text) (a : Asked) (e : LinkedTextError)
    → IsParsedRefusal parsed links e → IsRefusedByParsed parsed links a e
refused_before parsed links a (refusals.Unread es) h = h
refused_before parsed links a (refusals.Shared i) h = h
refused_before parsed links a (refusals.Link e) h = h
refused_before parsed links a (refusals.NewLink e) h = absurd h
refused_before parsed links a (refusals.Text e) h = h
refused_before parsed links a (refusals.Memory e) h = h

pub not_added : (k : Knowledge) (limit : ℕ) (text links : Text) (a : Asked) (parsed : ParsedPolicies) (e : LinkedTextError)
    → AreAllRead k text limit parsed → IsRefusedByParsed parsed links a e → IsNotAdded k limit text links a e
not_added k limit text links a parsed (refusals.Unread es) read h = absurd h
not_added k limit text links a parsed (refusals.Shared i) read h = record { parsed = parsed; read = read; list = h.list; shared = h.shared }
not_added k limit text links a parsed (refusals.Link e) read h = unmade_here k limit text links parsed e read h
not_added k limit text links a parsed (refusals.NewLink e) read h = record { parsed = parsed; read = read; none = h }
not_added k limit text links a parsed (refusals.Text e) read h = h
not_added k limit text links a parsed (refusals.Memory e) read h = h

pub ruleset adding = (link_asked, with_link_is, added_to_set, added_to, added, arguments_unread, arguments_refused, no_policy, own_text, memory_alone, unasked_link, refused_by_set, refused_by_parsed, refused_before, not_added)
