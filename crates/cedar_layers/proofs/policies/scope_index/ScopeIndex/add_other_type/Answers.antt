use Rattle.std.proofs.Common.{◌++◌, Bool, cond, [], ℕ, List, ap, sym, ◌∙◌}
use Rattle.std.proofs.lemmas.List.{append-nil}
use Rattle.cedar_names.specs.Names.{type_text}
use Rattle.cedar_layers.specs.Scopes.{under_type}
use Rattle.cedar_layers.proofs.Placing.{on_ok_then}
use Rattle.cedar_layers.proofs.policies.scope_index.ScopeIndex.add_other_type.Goals as goal

pub returns-then-is_last_type : goal.returns-then-is_last_type
returns-then-is_last_type c =
    sym (append-nil c.args.positions.now.items) ∙ sym (ap (λ (b : Bool). c.args.positions.now.items ++ cond b [] (under_type c.args.self.now (type_text c.args.ty.now))) (sym c.is_last_type.ensures ∙ c.if-is_last_type.true))

pub returns-else-is_last_type : goal.returns-else-is_last_type
returns-else-is_last_type c =
    on_ok_then c.add_type.result (λ h. h ∙ sym (ap (λ (b : Bool). c.args.positions.now.items ++ cond b [] (under_type c.args.self.now (type_text c.args.ty.now))) (sym c.is_last_type.ensures ∙ c.if-is_last_type.false))) c.add_type.ensures
