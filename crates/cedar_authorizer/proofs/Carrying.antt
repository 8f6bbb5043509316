-- The policies that are carried on, one by one; and the first duplicate id.
use Rattle.std.proofs.Common.{◌≡◌, if◌then◌else◌, List, [], ◌∷◌, ◌++◌, map, Some, None, IfSome, Ok, Err, refl, ap}
use Rattle.std.proofs.Common.{◌∙◌, sym, subst, option_map, append_assoc}
use Rattle.std.specs.Prelude.{Contains}
use Rattle.std.proofs.lemmas.List.Elements.{All-head, All-tail, All-push}
use Rattle.cedar_model.specs.Policies as model
use Rattle.cedar_model.specs.Refusals as steps
use Rattle.cedar_model.specs.Responses.{carried}
use Rattle.cedar_layers.specs.declared.policies.policy.Policy.{Policy}
use Rattle.cedar_layers.specs.Policies.{PolicyView, policy_view, decides_as, policy_ids, first_repeated}
use Rattle.cedar_layers.specs.declared.policies.policy_set.PolicySetError.{PolicySetError}
use Rattle.cedar_layers.specs.declared.policies.policy_set.PolicySetError.TheVariants as sets
use Rattle.cedar_layers.specs.PolicySets.{occupied_id}
use Rattle.cedar_authorizer.specs.responses.Rows.{Located, rows_in}
use Rattle.cedar_authorizer.specs.responses.Readers.{TakesPolicy, AreAmong}
use Rattle.cedar_authorizer.specs.declared.reauthorization.err.ReauthorizationError.{ReauthorizationError}
use Rattle.cedar_authorizer.specs.reauthorization.Errors.{step_refusal, IsPolicyRefusal}
use Rattle.cedar_authorizer.specs.reauthorization.Policies.{unless_repeated, all_once, IsCarriedFrom, AreCarriedFrom}

-- ---- ids

same_ids : (ps : List PolicyView) → map (λ (p : model.Policy). p.id) (map decides_as ps) ≡ policy_ids ps
same_ids [] = refl
same_ids (p ∷ ps) = ap (λ ts. p.id ∷ ts) (same_ids ps)

-- the first duplicate id among policies is so among these, as far as they decide
pub repeated_id : (ps : List PolicyView) (qs : List model.Policy) → map decides_as ps ≡ qs
    → first_repeated (map (λ (p : model.Policy). p.id) qs) ≡ first_repeated (policy_ids ps)
repeated_id ps qs e =
    ap (λ (l : List model.Policy). first_repeated (map (λ (p : model.Policy). p.id) l)) (sym e)
    ∙ ap first_repeated (same_ids ps)

-- ---- policies

-- policies, as far as they decide
abbrev pub decided : List Policy → List model.Policy
decided ps = map decides_as (map policy_view ps)

-- the policies that rows are carried on as
abbrev pub carried_on : List Located → List model.Policy
carried_on ls = map carried (rows_in ls)

decided_more : (ps : List Policy) (p : Policy) → decided (ps ++ p ∷ []) ≡ decided ps ++ decides_as (policy_view p) ∷ []
decided_more [] p = refl
decided_more (q ∷ ps) p = ap (λ l. decides_as (policy_view q) ∷ l) (decided_more ps p)

-- one policy more
pub one_more : (ps : List Policy) (p : Policy) (old new : List Located) (all : List model.Policy)
    → TakesPolicy old (Some (Ok p)) new → decided ps ++ carried_on old ≡ all
    → decided (ps ++ p ∷ []) ++ carried_on new ≡ all
one_more ps p old new all (l, e, f) h =
    ap (λ d. d ++ carried_on new) (decided_more ps p)
    ∙ append_assoc (decided ps) (decides_as (policy_view p) ∷ []) (carried_on new)
    ∙ ap (λ (q : model.Policy). decided ps ++ (q ∷ carried_on new)) (ap (λ x. x.0) f.policy)
    ∙ ap (λ (o : List Located). decided ps ++ carried_on o) (sym e) ∙ h

-- and its row is among those that are carried on
pub one_from : (rows : List Located) (ps : List Policy) (p : Policy) (old new : List Located) → TakesPolicy old (Some (Ok p)) new → AreAmong old rows → AreCarriedFrom rows ps
    → AreCarriedFrom rows (ps ++ p ∷ []) × AreAmong new rows
one_from rows ps p old new (l, e, f) among h =
    let here : AreAmong (l ∷ new) rows = subst (λ (ls : List Located). AreAmong ls rows) e among in (
      All-push (IsCarriedFrom rows) ps p h record { row = l; among = All-head (λ (x : Located). Contains rows x) l new here; carried = f },
      All-tail (λ (x : Located). Contains rows x) l new here,
    )

-- none is left
pub no_more : (ps : List model.Policy) (old : List Located) (all : List model.Policy) → old ≡ []
    → ps ++ carried_on old ≡ all → ps ≡ all
no_more ps old all h e = sym (append_none ps) ∙ ap (λ (o : List Located). ps ++ carried_on o) (sym h) ∙ e
  where
    append_none : (qs : List model.Policy) → qs ++ [] ≡ qs
    append_none [] = refl
    append_none (q ∷ qs) = ap (λ l. q ∷ l) (append_none qs)

-- ---- sets

-- no id is a duplicate
pub once : (vs : List PolicyView) (ps : List model.Policy) → map decides_as vs ≡ ps
    → first_repeated (policy_ids vs) ≡ None → Ok (map decides_as vs) ≡ all_once ps
once vs ps e h = ap Ok e ∙ ap (λ o. unless_repeated o ps) (sym (repeated_id vs ps e ∙ h))

-- an id is a duplicate, or memory runs out
pub twice : (vs : List PolicyView) (ps : List model.Policy) (e : PolicySetError) (f : ReauthorizationError)
    → map decides_as vs ≡ ps → IsPolicyRefusal e f
    → IfSome (occupied_id e) (λ i. first_repeated (policy_ids vs) ≡ Some i)
    → IfSome (option_map Err (step_refusal f)) (λ a. a ≡ all_once ps)
twice vs ps (sets.Occupied id) f e is h =
    subst (λ g. IfSome (option_map Err (step_refusal g)) (λ a. a ≡ all_once ps)) (sym is)
    (ap (λ o. unless_repeated o ps) (sym (repeated_id vs ps e ∙ h)))
twice vs ps (sets.Memory x) f e is h =
    subst (λ g. IfSome (option_map Err (step_refusal g)) (λ a. a ≡ all_once ps)) (sym is) tt
