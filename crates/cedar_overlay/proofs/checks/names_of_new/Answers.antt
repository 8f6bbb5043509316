use Rattle.std.proofs.Common.{◌≡◌, ◌+◌, ◌++◌, ◌∷◌, [], List, sym, ap, ◌∙◌, subst, take, drop, map}
use Rattle.cedar_model.specs.Settings.{is_among}
use Rattle.cedar_names.specs.Names.{uid_name}
use Rattle.cedar_layers.specs.declared.policies.entities.Entity.{Entity}
use Rattle.cedar_layers.specs.Stores.{stored_entity, entity_name}
use Rattle.cedar_hierarchy.specs.Sorting.{NameTest, named_in, named_of, with_name}
use Rattle.cedar_overlay.specs.Adding.{IsNew, IsNotNew, AreNew}
use Rattle.cedar_overlay.proofs.Standing.{taken_more, stands_between, all_taken}
use Rattle.cedar_overlay.proofs.Checked.{named-more, none_new, one_more_new, refused_new}
use Rattle.cedar_overlay.proofs.checks.names_of_new.Goals as goal

pub brought-init : goal.brought-init
brought-init c = record {
  names = λ i n. is_among n (map uid_name (c.new-names.ensures.empty i));
  new = none_new (stored_entity c.args.entities.now);
}

pub brought-preserved : goal.brought-preserved
brought-preserved c =
    let stored = stored_entity c.args.entities.now in
    let es = c.args.brought.now.items in
    let i = c.brought.entity-index in
    let e = c.entity-item.result in
    let before : List Entity = take i es in
    let more : take (i + 1) es ≡ before ++ e ∷ [] = taken_more es c.deref-entity-items.result.now i e c.deref-entity-items.ensures.value c.brought-test.true c.entity-item.is in
    let names : named_in c.brought.names.keys ≡ named_of before = c.brought.invariant.names in
    let name : uid_name c.uid.result.now ≡ entity_name e = c.uid.ensures.name in
    let new : IsNew stored (named_of before) (entity_name e) = subst (λ (t : NameTest). IsNew stored t (entity_name e)) names (subst (IsNew stored (named_in c.brought.names.keys)) name c.in-Ok.ensures.new) in
    record {
      names =
          c.in-Ok.ensures.names ∙ (λ j. with_name (names j) (name j)) ∙ sym (named-more before e) ∙ ap named_of (sym more);
      new = subst (AreNew stored) (sym more) (one_more_new stored before e c.brought.invariant.new new);
    }

pub returns-in-Err-clause-refused : goal.returns-in-Err-clause-refused
returns-in-Err-clause-refused c =
    let stored = stored_entity c.args.entities.now in
    let es = c.args.brought.now.items in
    let i = c.brought.entity-index in
    let e = c.entity-item.result in
    let before : List Entity = take i es in
    let names : named_in c.brought.names.keys ≡ named_of before = c.brought.invariant.names in
    let name : uid_name c.uid.result.now ≡ entity_name e = c.uid.ensures.name in
    refused_new stored es before e (drop (i + 1) es) c.in-Err.error
    (stands_between es c.deref-entity-items.result.now i e c.deref-entity-items.ensures.value c.brought-test.true c.entity-item.is)
    (subst (λ (t : NameTest). IsNotNew stored t (entity_name e) c.in-Err.error) names (subst (λ n. IsNotNew stored (named_in c.brought.names.keys) n c.in-Err.error) name c.in-Err.ensures.refused))

pub returns-clause-names : goal.returns-clause-names
returns-clause-names c =
    let es = c.args.brought.now.items in
    c.brought.invariant.names
    ∙ ap named_of (all_taken es c.deref-entity-items.result.now c.brought.entity-index c.deref-entity-items.ensures.value c.brought-test.false)

pub returns-clause-new : goal.returns-clause-new
returns-clause-new c =
    let es = c.args.brought.now.items in
    subst (AreNew (stored_entity c.args.entities.now)) (all_taken es c.deref-entity-items.result.now c.brought.entity-index c.deref-entity-items.ensures.value c.brought-test.false) c.brought.invariant.new
