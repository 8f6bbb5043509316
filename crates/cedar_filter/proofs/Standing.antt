-- Worlds that have a row.
use Rattle.std.proofs.Common.{◌≡◌, Bool, true, false, cond, List, [], ◌∷◌, Option, Some, None, refl, subst, codes}
use Rattle.cedar_model.specs.Terms.{Text, EntityName, entity_literal}
use Rattle.cedar_model.specs.Values.{AbstractValue, plain, abstract_value, no_values_at}
use Rattle.cedar_model.specs.Outcomes.{text_eq, entity_eq}
use Rattle.cedar_model.specs.Failures.{PartialValue, value, residual}
use Rattle.cedar_model.specs.Settings.{StoredEntity, Store, Entry, unknown_entry, part_at, is_among}
use Rattle.cedar_model.specs.Settings.{found, found_in}
use Rattle.cedar_model.specs.World.{WorldEntity, World, Extensions, Functions}
use Rattle.cedar_model.specs.Agreement.{AgreesAt, AgreesWithFound, AgreesWithEntry, AgreesWithStore}
use Rattle.cedar_names.specs.EqualityLaws.{entity_eq-decides}
use Rattle.cedar_filter.specs.Rows.{HasRow}
use Rattle.cedar_filter.specs.Worlds.{IsValue, AreValues, RowsHaveWorlds, StoredRowsAreRows}

-- the value of a part; a residual has none
value_in : Option PartialValue → Option AbstractValue
value_in None = None
value_in (Some (value v)) = Some (abstract_value v)
value_in (Some (residual t)) = None

found_here : (b : Bool) (q p : PartialValue) (rest : Option PartialValue) → cond b (Some q) rest ≡ Some p → IsValue q →
    (rest ≡ Some p → IsValue p) → IsValue p
found_here true q p rest at is more = let same : q ≡ p = cc in subst IsValue same is
found_here false q p rest at is more = more at

found_is_value : (ps : List (Text × PartialValue)) (k : Text) (p : PartialValue) → AreValues ps → part_at k ps ≡ Some p → IsValue p
unfolding part_at
found_is_value [] k p all is = absurd (cc)
found_is_value (q ∷ qs) k p all is = found_here (text_eq k q.0) q.1 p (part_at k qs) is all.0 (found_is_value qs k p all.1)

module _ (X : Extensions) (ans : Functions) (w : World) where
  agrees_at : (q : Option PartialValue) → ((p : PartialValue) → q ≡ Some p → IsValue p) → AgreesAt X ans w q (value_in q)
  unfolding value_in
  agrees_at None all = tt
  agrees_at (Some (value v)) all = refl
  agrees_at (Some (residual t)) all = absurd (all (residual t) refl)

abbrev row_of : StoredEntity → WorldEntity
row_of x = record {
  is_ancestor = λ a. is_among a x.ancestors;
  attribute = λ k. value_in (part_at k x.attributes);
  tag = λ k. value_in (part_at k x.tags);
}

abbrev world_of : EntityName → StoredEntity → World
world_of e x = record {
  principal_entity = e;
  action_entity = e;
  resource_entity = e;
  context_record = no_values_at;
  store = λ d. cond (entity_eq d e) (Some (row_of x)) None;
  sigma = λ m. plain (entity_literal e);
}

has_itself : (b : Bool) (row : WorldEntity) → b ≡ true → cond b (Some row) None ≡ Some row
has_itself true row is = refl
has_itself false row is = absurd (cc)

pub rows_have_worlds : RowsHaveWorlds
rows_have_worlds X ans n e x attributes tags = (
  world_of e x,
  record {
    stands = refl;
    row = row_of x;
    is_there = has_itself (entity_eq e e) (row_of x) ((entity_eq-decides e e).1 refl);
    facts_agree = record {
      ancestors_agree = λ a. refl;
      attributes_agree = λ k. agrees_at X ans (world_of e x) (part_at k x.attributes) (λ p is. found_is_value x.attributes k p attributes is);
      tags_agree = λ k. agrees_at X ans (world_of e x) (part_at k x.tags) (λ p is. found_is_value x.tags k p tags is);
    };
  },
)

-- ---- stored entities

module _ (X : Extensions) (ans : Functions) (w : World) (n : Text) (e : EntityName) (x : StoredEntity) where
  row_from : (o : Option WorldEntity) → w.store e ≡ o → w.sigma n ≡ plain (entity_literal e) → AgreesWithFound X ans w e (found x) o →
      HasRow X ans w n e x
  row_from None there stands agrees = absurd agrees
  row_from (Some y) there stands agrees = record { stands = stands; row = y; is_there = there; facts_agree = agrees }

  stored_row : (s : Store) (r : Entry) (t : Option Text) → AgreesWithEntry w n e r → AgreesWithStore X ans w s → r ≡ unknown_entry t →
      s.entity e ≡ Some x → HasRow X ans w n e x
  unfolding found_in
  stored_row s r t entry store unknown there =
      let stands = subst (λ (z : Entry). AgreesWithEntry w n e z) unknown entry in
      row_from (w.store e) refl stands.0
      (subst (λ (o : Option StoredEntity). AgreesWithFound X ans w e (found_in o s.is_partial) (w.store e)) there (store e))

pub stored_rows_are_rows : StoredRowsAreRows
stored_rows_are_rows X ans w r s x t request store = (
  λ unknown there. stored_row X ans w (codes "principal") w.principal_entity x s r.principal_entry t request.principal_agrees store unknown there,
  λ unknown there. stored_row X ans w (codes "resource") w.resource_entity x s r.resource_entry t request.resource_agrees store unknown there,
)
