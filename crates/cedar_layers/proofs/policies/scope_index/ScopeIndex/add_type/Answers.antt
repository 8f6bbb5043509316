use Rattle.std.proofs.Common.{◌≡◌, ◌++◌, ℕ, List, ap, sym, ◌∙◌}
use Rattle.std.specs.Prelude.{option_copied}
use Rattle.std.proofs.lemmas.List.{append-nil}
use Rattle.cedar_names.specs.Names.{type_text}
use Rattle.cedar_layers.specs.Scopes.{items_or_none, standing_under_type}
use Rattle.cedar_layers.proofs.Placing.{on_ok_items, under_this_type}
use Rattle.cedar_layers.proofs.policies.scope_index.ScopeIndex.add_type.Goals as goal

pub returns-in-Some : goal.returns-in-Some
returns-in-Some c =
    let under : c.in-Some.group.now.items ≡ standing_under_type c.args.self.now.types.entries (type_text c.args.ty.now) = sym (ap (λ o. items_or_none (option_copied o)) c.in-Some.is) ∙ ap items_or_none c.get.ensures.value ∙ under_this_type c.args.ty.now c.args.self.now.types.entries in
    on_ok_items c.extend_from_slice.result _ _ _ _ c.extend_from_slice.ensures.items (ap (λ (ns : List ℕ). c.args.positions.now.items ++ ns) (c.deref.ensures.value ∙ under))

pub returns-in-None : goal.returns-in-None
returns-in-None c =
    sym (append-nil c.args.positions.now.items) ∙ ap (λ (ns : List ℕ). c.args.positions.now.items ++ ns)
    (sym (ap (λ o. items_or_none (option_copied o)) c.in-None.is) ∙ ap items_or_none c.get.ensures.value ∙ under_this_type c.args.ty.now c.args.self.now.types.entries)
