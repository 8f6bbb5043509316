use Rattle.std.proofs.Common.{◌≡◌, ◌∙◌, List, [], Ok, map, sym, subst, string_bytes}
use Rattle.std.specs.Prelude.{IfOk}
use Rattle.std.proofs.lemmas.Result.{IfOk-weaker}
use Rattle.cedar_functions.specs.Functions.{knowledge}
use Rattle.cedar_layers.specs.declared.policies.policy.Policy.{Policy}
use Rattle.cedar_layers.specs.Policies.{policy_view}
use Rattle.cedar_policy_json_text.specs.Kept.{ReadsBack}
use Rattle.cedar_template_links.specs.declared.forms.LinkForm.TheVariants as forms
use Rattle.cedar_template_links.specs.Links.{link_view}
use Rattle.cedar_template_links.specs.Linking.{link_made}
use Rattle.cedar_linked_text.specs.LinkedTexts.{named_set, lone, IsWithLink}
use Rattle.cedar_linked_text.proofs.Added.{with_link_is}
use Rattle.cedar_linked_text.proofs.adding.with_link.Goals as goal

pub returns-in-Ok-lone_text-clause-policy : goal.returns-in-Ok-lone_text-clause-policy
returns-in-Ok-lone_text-clause-policy c =
    let k = knowledge c.args.functions.now in
    let s = named_set c.args.named.now in
    let l = link_view c.args.link.now in
    let made = policy_view c.in-Ok.policy in
    let none : c.deref-3.result.now ≡ [] = c.deref-3.ensures.value ∙ c.new-none.ensures.items in
    let is : link_made forms.File s.policies s.templates [] l ≡ Ok made =
    sym (λ i. link_made forms.File (map policy_view (c.deref.ensures.value i)) (map policy_view (c.deref-2.ensures.value i)) (map policy_view (none i)) l)
    ∙ c.in-Ok.ensures.made in
    IfOk-weaker c.with_list.result (λ a. a.policy ≡ c.in-Ok-lone_text.policy) (λ a. IsWithLink k c.args.limit s l (string_bytes a.policy))
    (λ a same. with_link_is k c.args.limit s l made (string_bytes a.policy) is
    (subst (λ t. ReadsBack k c.args.limit (lone made) (string_bytes t)) (sym same) c.in-Ok-lone_text.ensures.back)) c.with_list.ensures.policy
