use Rattle.std.proofs.Common.{◌≡◌, true, sym, ap, ◌∙◌}
use Rattle.std.specs.List.{list_any}
use Rattle.cedar_model.specs.Terms.{Text}
use Rattle.cedar_model.specs.Outcomes.{text_eq}
use Rattle.cedar_layers.specs.Policies.{policy_id_text}
use Rattle.cedar_layers.specs.PolicySets.{entry_ids}
use Rattle.cedar_layers.proofs.Repeats.{found_by_text, adds}
use Rattle.cedar_layers.proofs.policies.policy_set.PolicySet.insert.Goals as goal

pub returns-then-contains_key-clause-occupied : goal.returns-then-contains_key-clause-occupied
returns-then-contains_key-clause-occupied c =
    let own : policy_id_text c.in_ok-clone.field-0 ≡ policy_id_text c.args.policy.id = c.in_ok-clone.ensures.cases ∙ c.id-then-contains_key.ensures in
    let there : list_any (text_eq (policy_id_text c.args.policy.id)) (entry_ids c.args.set.now.entries) ≡ true = found_by_text _ c.id.result.now _ _ c.id.ensures (sym c.contains_key.ensures ∙ c.if-contains_key.true) in
    record {
      own = own;
      there = ap (λ (s : Text). list_any (text_eq s) (entry_ids c.args.set.now.entries)) own ∙ there;
    }

pub returns-in-Ok-clause-ok : goal.returns-in-Ok-clause-ok
returns-in-Ok-clause-ok c =
    adds _ _ c.in_ok-id.id c.args.policy c.in-Ok.ensures.entries (c.in_ok-id.ensures.cases ∙ c.id-2.ensures) (found_by_text _ c.id.result.now _ _ c.id.ensures (sym c.contains_key.ensures ∙ c.if-contains_key.false))
