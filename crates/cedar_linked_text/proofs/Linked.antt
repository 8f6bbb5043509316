-- Policies of a text, and the policies of links.
use Rattle.std.proofs.Common.{◌≡◌, ◌⊎◌, ℕ, List, [], ◌∷◌, ◌++◌, map, Option, Some, None, Ok, sym, ap, ◌∙◌, subst, inl, inr}
use Rattle.cedar_model.specs.Terms.{Text}
use Rattle.cedar_functions.specs.Functions.{Knowledge}
use Rattle.cedar_layers.specs.Policies.{PolicyView, policy_view, policy_ids, policy_id_text, first_repeated}
use Rattle.cedar_text_parser.specs.declared.policies.ParsedPolicies.{ParsedPolicies}
use Rattle.cedar_text_parser.specs.PolicyReading.{AreAllRead}
use Rattle.cedar_policy_json_reader.specs.declared.errors.PolicyJsonError.{PolicyJsonError}
use Rattle.cedar_policy_json_reader.specs.Refusals.{IsRefusal}
use Rattle.cedar_policy_json_text.specs.Kept.{ReadsBack, IsOwn}
use Rattle.cedar_policy_json_text.specs.Placed.{without_linked}
use Rattle.cedar_policy_json_text.specs.declared.errors.PolicyTextError.{PolicyTextError}
use Rattle.cedar_policy_set_reader.specs.PolicySets.{PolicySetView}
use Rattle.cedar_linked_text.specs.declared.linking.Named.{Named}
use Rattle.cedar_template_links.specs.declared.forms.LinkForm.TheVariants as forms
use Rattle.cedar_template_links.specs.Links.{LinkView}
use Rattle.cedar_template_links.specs.Linking.{links_made}
use Rattle.cedar_linked_text.specs.declared.errors.LinkedTextError.{LinkedTextError}
use Rattle.cedar_linked_text.specs.declared.errors.LinkedTextError.TheVariants as refusals
use Rattle.cedar_linked_text.specs.LinkedTexts.{named_policies, named_templates, first_shared, IsListOf, IsNoList, set_with, IsLinkedText, IsNamed, IsParsedNamed, named_set, IsParsedText, IsParsedRefusal, IsNamedRefusal, IsUnlinked, AreRepeated, IsShared, IsUnmade, IsUnmadeOf, unlisted, unmade, unlisted_of, unmade_of}

named_view : (n : Named) (ps ts : List PolicyView) (ls : List LinkView) (h : IsNamed ps ts ls n)
    → named_set n ≡ record { policies = ps ++ h.made; templates = ts; links = ls }
named_view n ps ts ls h = λ i. record { policies = h.policies i; templates = h.templates i; links = h.links i }

-- the text of a set is that of what was parsed
pub text_of_parsed : (k : Knowledge) (limit : ℕ) (parsed : ParsedPolicies) (links new : Text) (n : Named) (r : PolicySetView)
    → IsParsedNamed parsed links n → r ≡ named_set n → ReadsBack k limit (without_linked r) new → IsParsedText k limit parsed links new
text_of_parsed k limit parsed links new n r h is back = record {
  apart = h.named.apart;
  list = h.list;
  listed = h.listed;
  made = h.named.made;
  linked = h.named.linked;
  back = subst (λ (s : PolicySetView). ReadsBack k limit (without_linked s) new)
      (is ∙ named_view n (named_policies parsed) (named_templates parsed) h.list h.named) back;
}

pub text_linked : (k : Knowledge) (limit : ℕ) (text links new : Text) (parsed : ParsedPolicies)
    → AreAllRead k text limit parsed → IsParsedText k limit parsed links new → IsLinkedText k limit text links new
text_linked k limit text links new parsed read h = record {
  parsed = parsed;
  read = read;
  apart = h.apart;
  list = h.list;
  listed = h.listed;
  made = h.made;
  linked = h.linked;
  back = h.back;
}

pub unmade_here : (k : Knowledge) (limit : ℕ) (text links : Text) (parsed : ParsedPolicies) (e : PolicyJsonError)
    → AreAllRead k text limit parsed → IsUnmadeOf parsed links e → IsUnmade k limit text links e
unmade_here k limit text links parsed e read (unlisted_of h) = unlisted h
unmade_here k limit text links parsed e read (unmade_of list listed h) = unmade parsed list read listed h

pub parsed_refused : (k : Knowledge) (limit : ℕ) (text links : Text) (parsed : ParsedPolicies) (e : LinkedTextError)
    → AreAllRead k text limit parsed → IsParsedRefusal parsed links e → IsUnlinked k limit text links e
parsed_refused k limit text links parsed (refusals.Unread es) read h = absurd h
parsed_refused k limit text links parsed (refusals.Shared i) read h = record { parsed = parsed; read = read; list = h.list; shared = h.shared }
parsed_refused k limit text links parsed (refusals.Link e) read h = unmade_here k limit text links parsed e read h
parsed_refused k limit text links parsed (refusals.NewLink e) read h = absurd h
parsed_refused k limit text links parsed (refusals.Text e) read h = h
parsed_refused k limit text links parsed (refusals.Memory e) read h = tt

-- what is named is what was parsed
pub parsed_named : (parsed : ParsedPolicies) (links : Text) (ps ts : List PolicyView) (ls : List LinkView) (n : Named)
    → ps ≡ named_policies parsed → ts ≡ named_templates parsed → IsListOf links ls → IsNamed ps ts ls n → IsParsedNamed parsed links n
parsed_named parsed links ps ts ls n policies templates listed h = record {
  list = ls;
  listed = listed;
  named = subst (λ (us : List PolicyView). IsNamed (named_policies parsed) us ls n) templates (subst (λ (us : List PolicyView). IsNamed us ts ls n) policies h);
}

named_refused : (parsed : ParsedPolicies) (links : Text) (ls : List LinkView) (e : LinkedTextError)
    → IsListOf links ls → IsNamedRefusal (named_policies parsed) (named_templates parsed) ls e → IsParsedRefusal parsed links e
named_refused parsed links ls (refusals.Unread es) listed h = absurd h
named_refused parsed links ls (refusals.Shared i) listed h = record { list = ls; shared = h }
named_refused parsed links ls (refusals.Link e) listed h = unmade_of ls listed h
named_refused parsed links ls (refusals.NewLink e) listed h = absurd h
named_refused parsed links ls (refusals.Text e) listed h = absurd h
named_refused parsed links ls (refusals.Memory e) listed h = tt

pub refused_of_parsed : (parsed : ParsedPolicies) (links : Text) (ps ts : List PolicyView) (ls : List LinkView) (e : LinkedTextError)
    → ps ≡ named_policies parsed → ts ≡ named_templates parsed → IsListOf links ls → IsNamedRefusal ps ts ls e → IsParsedRefusal parsed links e
refused_of_parsed parsed links ps ts ls e policies templates listed h =
    named_refused parsed links ls e listed
    (subst (λ (us : List PolicyView). IsNamedRefusal (named_policies parsed) us ls e) templates (subst (λ (us : List PolicyView). IsNamedRefusal us ts ls e) policies h))

pub unlisted_refused : (parsed : ParsedPolicies) (links : Text) (e : PolicyJsonError) → IsNoList links e → IsParsedRefusal parsed links (refusals.Link e)
unlisted_refused parsed links e h = unlisted_of h

-- two of all policies have one name
pub repeated_refused : (parsed : ParsedPolicies) (links : Text) (n : Named) (e : LinkedTextError)
    → IsParsedNamed parsed links n → AreRepeated (map policy_view n.policies.items) e → IsParsedRefusal parsed links e
repeated_refused parsed links n (refusals.Unread es) h r = absurd r
repeated_refused parsed links n (refusals.Shared i) h r =
    record { list = h.list; shared = inr (h.named.made, h.named.linked, ap (λ (ps : List PolicyView). first_repeated (policy_ids ps)) (sym h.named.policies) ∙ r) }
repeated_refused parsed links n (refusals.Link e) h r = absurd r
repeated_refused parsed links n (refusals.NewLink e) h r = absurd r
repeated_refused parsed links n (refusals.Text e) h r = absurd r
repeated_refused parsed links n (refusals.Memory e) h r = tt

-- links that make no policy
pub links_refused : (ps ts : List PolicyView) (ls : List LinkView) (e : PolicyJsonError) → IsRefusal (links_made forms.File ps ts ls) e → IsNamedRefusal ps ts ls (refusals.Link e)
links_refused ps ts ls e h = h

pub ruleset linked_texts = (text_of_parsed, text_linked, parsed_refused, parsed_named, refused_of_parsed, unlisted_refused, repeated_refused)
