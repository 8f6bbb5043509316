-- What is made of faithful values is faithful.
use Rattle.std.specs.Prelude.{◌≡◌, Bool, true, false, cond, List, [], ◌∷◌, Option, Some}
use Rattle.std.specs.Rc.{rc_str_bytes}
use Rattle.std.specs.declared.alloc.Global.{Global}
use Rattle.std.specs.declared.rc.RcStr.{RcStr}
use Rattle.std.proofs.Common.{sym, subst}
use Rattle.cedar_model.specs.Terms.{Text}
use Rattle.cedar_model.specs.World.{Extensions, Functions}
use Rattle.cedar_model.specs.Outcomes.{text_eq}
use Rattle.cedar_model.specs.Failures.{PartialValue, value}
use Rattle.cedar_model.specs.Settings.{ContextPart, known_context, StoredEntity, part_at}
use Rattle.cedar_model.specs.Agreement.{IsFaithful, AreFaithfulAt, IsFaithfulPart, IsFaithfulContext}
use Rattle.cedar_model.proofs.Injections.{none_is_not_some, some_inj}
use Rattle.cedar_names.specs.declared.names.EntityUID.{EntityUID}
use Rattle.cedar_values.specs.Sound.{Placed, whats_at}
use Rattle.cedar_layers.specs.Parts.{parts_view, values_as_parts}
use Rattle.cedar_layers.specs.Stores.{facts_of_values}
use Rattle.cedar_faithful.specs.Held.{FactsAre, MapsEachTo}

module _ (X : Extensions) (ans : Functions) where
  fields_faithful : (es : List (RcStr Global × Placed)) → MapsEachTo (IsFaithful X ans) es
      → AreFaithfulAt X ans (whats_at es)
  fields_faithful [] h = tt
  fields_faithful (e ∷ es) h = (h.0, fields_faithful es h.1)

  pub context_faithful : (c : ContextPart) (es : List (RcStr Global × Placed)) → MapsEachTo (IsFaithful X ans) es
      → c ≡ known_context (whats_at es) → IsFaithfulContext X ans c
  context_faithful c es h is = subst (IsFaithfulContext X ans) (sym is) (fields_faithful es h)

  -- the part that is found, if one is
  abbrev IsFound : Option PartialValue → Type 0
  IsFound o = (p : PartialValue) → o ≡ Some p → IsFaithfulPart X ans p

  found_by : (b : Bool) (q : PartialValue) (o : Option PartialValue) → IsFaithfulPart X ans q → IsFound o
      → IsFound (cond b (Some q) o)
  found_by true q o h k p e = subst (IsFaithfulPart X ans) (some_inj e) h
  found_by false q o h k p e = k p e

  part_faithful : (k : Text) (es : List (RcStr Global × Placed)) → MapsEachTo (IsFaithful X ans) es
      → IsFound (part_at k (parts_view (values_as_parts es)))
  unfolding part_at
  part_faithful k [] h = λ p e. absurd (none_is_not_some e)
  part_faithful k (e ∷ es) h =
      found_by (text_eq k (rc_str_bytes e.0)) (value e.1.what) (part_at k (parts_view (values_as_parts es))) h.0
      (part_faithful k es h.1)

  pub facts_faithful : (x : StoredEntity) (ancestors : List EntityUID) (attrs tags : List (RcStr Global × Placed))
      → MapsEachTo (IsFaithful X ans) attrs → MapsEachTo (IsFaithful X ans) tags
      → x ≡ facts_of_values attrs ancestors tags → FactsAre (IsFaithfulPart X ans) x
  facts_faithful x ancestors attrs tags h l is =
      subst (FactsAre (IsFaithfulPart X ans)) (sym is) (λ k p. (part_faithful k attrs h p, part_faithful k tags l p))
