use Rattle.std.proofs.Common.{◌≡◌, ◌++◌, ℕ, List, ap, sym, ◌∙◌}
use Rattle.std.specs.Prelude.{option_copied}
use Rattle.std.proofs.lemmas.List.{append-nil}
use Rattle.cedar_names.specs.Names.{uid_name}
use Rattle.cedar_layers.specs.Scopes.{items_or_none, standing_under}
use Rattle.cedar_layers.proofs.Placing.{on_ok_items, under_uid}
use Rattle.cedar_layers.proofs.policies.scope_index.ScopeIndex.add_group.Goals as goal

pub returns-in-Some : goal.returns-in-Some
returns-in-Some c =
    let under : c.in-Some.group.now.items ≡ standing_under c.args.self.now.groups.entries (uid_name c.args.uid.now) = sym (ap (λ o. items_or_none (option_copied o)) c.in-Some.is) ∙ ap items_or_none c.get.ensures.value ∙ under_uid c.args.uid.now c.args.self.now.groups.entries in
    on_ok_items c.extend_from_slice.result _ _ _ _ c.extend_from_slice.ensures.items (ap (λ (ns : List ℕ). c.args.positions.now.items ++ ns) (c.deref.ensures.value ∙ under))

pub returns-in-None : goal.returns-in-None
returns-in-None c =
    sym (append-nil c.args.positions.now.items) ∙ ap (λ (ns : List ℕ). c.args.positions.now.items ++ ns)
    (sym (ap (λ o. items_or_none (option_copied o)) c.in-None.is) ∙ ap items_or_none c.get.ensures.value ∙ under_uid c.args.uid.now c.args.self.now.groups.entries)
