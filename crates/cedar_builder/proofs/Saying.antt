-- What follows for builders of policies.
use Rattle.std.proofs.Common.{◌≡◌, List, [], ◌∷◌, map, Option, None, Some, option_map, Result, Ok, Err, Global, refl, ap, ◌∙◌}
use Rattle.std.specs.BTreeMap.{insert_entry}
use Rattle.std.specs.Ordering.{match_ordering}
use Rattle.std.specs.Rc.{rc_str_bytes}
use Rattle.std.specs.declared.alloc.AllocError.{AllocError}
use Rattle.std.specs.declared.cmp.Ordering.{Ordering}
use Rattle.std.specs.declared.cmp.Ordering.TheVariants.{Less, Equal, Greater}
use Rattle.std.specs.declared.rc.RcStr.{RcStr}
use Rattle.cedar_model.specs.Terms.{Text, Term}
use Rattle.cedar_expressions.specs.declared.expr.Expr.{Expr}
use Rattle.cedar_expressions.specs.Nodes.{key_order}
use Rattle.cedar_expressions.specs.View.{view}
use Rattle.cedar_layers.proofs.Slots.{slots_view-empty}
use Rattle.cedar_layers.specs.Policies.{SlotValues, effect_view, policy_id_text, annotations_view, condition_parts, policy_of}
use Rattle.cedar_layers.specs.declared.policies.policy.Annotations.{Annotations}
use Rattle.cedar_layers.specs.declared.policies.policy.Effect.{Effect}
use Rattle.cedar_layers.specs.declared.policies.policy.PolicyID.{PolicyID}
use Rattle.cedar_builder.specs.Building.{term_in, of_two, Makes}
use Rattle.cedar_builder.specs.Saying.{PolicySaid, SaysIn, condition_said, policy_said, parts_said, put_text}
use Rattle.cedar_builder.specs.declared.policies.PolicyParts.{PolicyParts}

-- where a part is known, so is what is said with it
pub said_of_known : (m : Result Expr AllocError) (r : Result PolicyParts AllocError) (f : PolicySaid → Term → PolicySaid) (s : Option PolicySaid) (what : Option Term)
    → Makes m what → SaysIn r (of_two f s (term_in m)) → SaysIn r (of_two f s what)
said_of_known m (Err x) f s what h k = tt
said_of_known (Ok e) (Ok d) f s what h k = ap (of_two f s) h ∙ k
said_of_known (Err x) (Ok d) f (Some s) what h k = absurd cc
said_of_known (Err x) (Ok d) f None what h k = absurd cc

-- the policy of these parts is the one of which they say
pub policy_made : (e : Effect) (i : PolicyID) (a : Annotations) (p q r w : Expr) (c : Option Expr) (env : SlotValues)
    → view w ≡ condition_said (option_map view c) → env.entries ≡ []
    → policy_of e i a (condition_parts p q r w) env
    ≡ policy_said (parts_said (record { effect = e; id = i; annotations = a; principal = p; action = q; resource = r; condition = c }))
policy_made e i a p q r w c env when empty = λ j. record {
  effect = effect_view e;
  id = policy_id_text i;
  annotations = annotations_view a;
  principal_constraint = view p;
  action_constraint = view q;
  resource_constraint = view r;
  when_clause = when j;
  slots = slots_view-empty env empty j;
}

abbrev pub Texts : Type 0
Texts = List (RcStr Global × RcStr Global)

abbrev pub texts_under : Texts → List (Text × Text)
texts_under = map (λ e. (rc_str_bytes e.0, rc_str_bytes e.1))

-- a map with one more entry has the texts with one more
pub put_text-entries : (es : Texts) (k v : RcStr Global) → texts_under (insert_entry key_order es k v) ≡ put_text (texts_under es) (rc_str_bytes k) (rc_str_bytes v)
put_text-entries [] k v = refl
put_text-entries (p ∷ es) k v = at_order (key_order k p.0) (put_text-entries es k v)
  where
    at_order : (o : Ordering) → texts_under (insert_entry key_order es k v) ≡ put_text (texts_under es) (rc_str_bytes k) (rc_str_bytes v)
        → texts_under (match_ordering o ((k, v) ∷ p ∷ es) ((p.0, v) ∷ es) (p ∷ insert_entry key_order es k v))
        ≡ match_ordering o ((rc_str_bytes k, rc_str_bytes v) ∷ (rc_str_bytes p.0, rc_str_bytes p.1) ∷ texts_under es)
        ((rc_str_bytes p.0, rc_str_bytes v) ∷ texts_under es)
        ((rc_str_bytes p.0, rc_str_bytes p.1) ∷ put_text (texts_under es) (rc_str_bytes k) (rc_str_bytes v))
    at_order Less rest = refl
    at_order Equal rest = refl
    at_order Greater rest = ap (λ (ts : List (Text × Text)). (rc_str_bytes p.0, rc_str_bytes p.1) ∷ ts) rest

pub ruleset saying = (said_of_known)
