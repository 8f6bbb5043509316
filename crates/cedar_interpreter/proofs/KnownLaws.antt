-- What is read directly of a known entity.
use Rattle.std.specs.Prelude.{◌≡◌, ℕ, suc, Bool, false, Option, Some, None, IfSome, is_some}
use Rattle.std.proofs.Common.{ap, ◌∙◌, subst}
use Rattle.cedar_model.specs.Terms.{Text, Term, bool_literal, entity_literal, get_attribute, has_attribute}
use Rattle.cedar_model.specs.Values.{plain_represented}
use Rattle.cedar_model.specs.Failures.{PartialValue, value, answers, answers_value}
use Rattle.cedar_model.specs.Settings.{Setting, StoredEntity, part_at, Found, found, not_there}
use Rattle.cedar_model.specs.Rules.{StoredCalls, Runs}
use Rattle.cedar_values.specs.Sound.{Placed}
use Rattle.cedar_operators.specs.Operands.{over}
use Rattle.cedar_interpreter.specs.declared.at_hand.Known.{Known}
use Rattle.cedar_interpreter.specs.Known.{known_view, IsKnownOf}
use Rattle.cedar_interpreter.specs.Direct.{IsDirectValue}
use Rattle.cedar_interpreter.proofs.DirectLaws.{attribute_direct, has_direct}
use Rattle.cedar_interpreter.proofs.Looked.{IsFound, found_entity, lacking_entity, stored_answer, has_stored, has_none}

module _ (s : Setting) (calls : StoredCalls) (j : ℕ) (t : Term) (p : PartialValue) (k : Text) (known : Known)
    (runs : Runs s calls j t (answers p)) (of : IsKnownOf s.store p known) where
  entity_runs : (f : Found) (h : IsFound s.store p f) → Runs s calls j t (answers_value (plain_represented (entity_literal h.name)))
  entity_runs f h = subst (λ q. Runs s calls j t (answers q)) h.part runs

  -- an attribute that is stored as a value
  pub stored_direct : (x : StoredEntity) (o : Option Placed) → known_view known ≡ found x →
      IfSome o (λ v. part_at k x.attributes ≡ Some (value v.what)) → IsDirectValue s calls (suc j) (get_attribute t k) o
  stored_direct x None is stored = tt
  stored_direct x (Some v) is stored =
      let h = found_entity s.store p known x of is in
      attribute_direct s calls j t (plain_represented (entity_literal h.name)) k (Some v) (entity_runs (found x) h)
      (stored_answer (over s s.store) p k x h v.what stored)

  -- whether it is stored
  pub stored_has_direct : (x : StoredEntity) (v : Placed) (b : Bool) → known_view known ≡ found x →
      v.what ≡ plain_represented (bool_literal b) → b ≡ is_some (part_at k x.attributes) →
      IsDirectValue s calls (suc j) (has_attribute t k) (Some v)
  stored_has_direct x v b is made stored =
      let h = found_entity s.store p known x of is in
      has_direct s calls j t (plain_represented (entity_literal h.name)) k (Some v) (entity_runs (found x) h)
      (ap answers_value made ∙ has_stored s p k x h b stored)

  pub lacking_has_direct : (v : Placed) → known_view known ≡ not_there → v.what ≡ plain_represented (bool_literal false) →
      IsDirectValue s calls (suc j) (has_attribute t k) (Some v)
  lacking_has_direct v is made =
      let h = lacking_entity s.store p known of is in
      has_direct s calls j t (plain_represented (entity_literal h.name)) k (Some v) (entity_runs not_there h)
      (ap answers_value made ∙ has_none s p k h)
