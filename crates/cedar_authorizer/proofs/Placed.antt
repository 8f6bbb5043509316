-- Where what is left of policies stands, policy by policy.
use Rattle.std.specs.Prelude.{◌≡◌, Bool, true, false, cond, ◌&&◌, List, [], ◌∷◌, ◌++◌, All, Contains}
use Rattle.std.proofs.Common.{refl, sym, ap, ◌∙◌, subst, append_assoc, arith}
use Rattle.std.proofs.lemmas.List.Elements.{All-nil, All-cons, All-append, All-weaker, All-contains, Contains-append_right}
use Rattle.cedar_model.specs.Policies.{Effect, permit, forbid, ErrorHandling}
use Rattle.cedar_model.specs.Responses.{reported_of, error_of, counted_report}
use Rattle.cedar_model.specs.Chains.{has_effect, is_residual}
use Rattle.cedar_model.proofs.Concrete.{residual_same}
use Rattle.cedar_layers.specs.declared.policies.policy.Policy as layers
use Rattle.cedar_layers.specs.Policies.{policy_view, policy_location}
use Rattle.cedar_authorizer.specs.declared.responses.partial_response.PartialResponse.{PartialResponse}
use Rattle.cedar_authorizer.specs.declared.responses.sheet.ConditionOutcome.{ConditionOutcome}
use Rattle.cedar_authorizer.specs.declared.responses.sheet.ConditionOutcome.TheVariants as outcomes
use Rattle.cedar_authorizer.specs.declared.responses.sheet.Sheet.{Sheet}
use Rattle.cedar_authorizer.specs.responses.Rows.{Located, clause_loc, located_of, residual_rows}
use Rattle.cedar_authorizer.specs.responses.Sheets.{Noted, sheet_view, nothing_noted, noted_also, outcome_view}
use Rattle.cedar_authorizer.specs.responses.Sheets.{placed_row}
use Rattle.cedar_authorizer.specs.reauthorization.Policies.{IsCarriedFrom, AreCarriedFrom}
use Rattle.cedar_authorizer.specs.Running.{StandsAtPolicy, ResidualsStand, StandsAtRow, ResidualsStay, ResidualsAreNoted, IsLeftAt}

-- the policies before those that are left are placed
pub record ArePlacedSoFar (all left : List layers.Policy) (sheet : Sheet) : Type 0 where
  pub done : List layers.Policy
  pub same : all ≡ done ++ left
  pub placed : ResidualsAreNoted all sheet

pub none_placed : (all left : List layers.Policy) (sheet : Sheet) → sheet_view sheet ≡ nothing_noted → all ≡ left → ArePlacedSoFar all left sheet
none_placed all left sheet e same = record {
  done = [];
  same = same;
  placed = record {
    permits = subst (λ (n : Noted). All (StandsAtPolicy all) n.residual_permits) (sym e) (All-nil (StandsAtPolicy all));
    forbids = subst (λ (n : Noted). All (StandsAtPolicy all) n.residual_forbids) (sym e) (All-nil (StandsAtPolicy all));
  };
}

first_of_rest : (p : layers.Policy) (rest : List layers.Policy) → Contains (p ∷ rest) p
first_of_rest p rest = (0, omega arith, refl)

-- a row that is residual stands at its policy
residual_stands : (mode : ErrorHandling) (q : layers.Policy) (o : ConditionOutcome) → IsLeftAt (policy_location q) o → is_residual (reported_of (outcome_view o)) ≡ true → clause_loc (placed_row mode (policy_view q) o) ≡ policy_location q
unfolding reported_of is_residual
residual_stands mode q (outcomes.Decided true) h e = absurd (cc)
residual_stands mode q (outcomes.Decided false) h e = absurd (cc)
residual_stands mode q (outcomes.Residual r) h e = h
residual_stands mode q (outcomes.Failed r) h e = absurd (cc)

kept_if : (all : List layers.Policy) (b c : Bool) (l : Located) → (c ≡ true → StandsAtPolicy all l) → All (StandsAtPolicy all) (cond (b && c) (l ∷ []) [])
kept_if all true true l h = All-cons (StandsAtPolicy all) l [] (h refl) (All-nil (StandsAtPolicy all))
kept_if all true false l h = All-nil (StandsAtPolicy all)
kept_if all false c l h = All-nil (StandsAtPolicy all)

one_stands : (mode : ErrorHandling) (all : List layers.Policy) (p : layers.Policy) (o : ConditionOutcome) (e : Effect) → Contains all p → IsLeftAt (policy_location p) o → All (StandsAtPolicy all) (located_of e is_residual (placed_row mode (policy_view p) o ∷ []))
unfolding located_of
one_stands mode all p o e among left =
    kept_if all (has_effect e (policy_view p).effect) (is_residual (counted_report mode (policy_view p).effect (reported_of (outcome_view o)))) (placed_row mode (policy_view p) o)
    (λ is. record { policy = p; among = among; id_is = refl; stands = residual_stands mode p o left (sym (residual_same mode (policy_view p).effect (reported_of (outcome_view o))) ∙ is) })

pub one_placed : (mode : ErrorHandling) (all left rest : List layers.Policy) (old new : Sheet) (p : layers.Policy) (o : ConditionOutcome) → left ≡ p ∷ rest → ArePlacedSoFar all left old → IsLeftAt (policy_location p) o
    → sheet_view new ≡ noted_also (sheet_view old) (placed_row mode (policy_view p) o) (error_of (outcome_view o)) → ArePlacedSoFar all rest new
one_placed mode all left rest old new p o e before stands noted =
    let same : all ≡ before.done ++ (p ∷ rest) = before.same ∙ ap (λ (ls : List layers.Policy). before.done ++ ls) e in
    let among : Contains all p = subst (λ (ls : List layers.Policy). Contains ls p) (sym same) (Contains-append_right before.done (p ∷ rest) p (first_of_rest p rest)) in
    record {
      done = before.done ++ p ∷ [];
      same = same ∙ sym (append_assoc before.done (p ∷ []) rest);
      placed = record {
        permits = subst (λ (n : Noted). All (StandsAtPolicy all) n.residual_permits) (sym noted)
            (All-append (StandsAtPolicy all) _ _ before.placed.permits (one_stands mode all p o permit among stands));
        forbids = subst (λ (n : Noted). All (StandsAtPolicy all) n.residual_forbids) (sym noted)
            (All-append (StandsAtPolicy all) _ _ before.placed.forbids (one_stands mode all p o forbid among stands));
      };
    }

-- so they do in the response that keeps the sheet
pub residuals_stand : (ps : List layers.Policy) (sheet : Sheet) (r : PartialResponse) → r.residual_permits.entries ≡ sheet.residual_permits.items → r.residual_forbids.entries ≡ sheet.residual_forbids.items → ResidualsAreNoted ps sheet → ResidualsStand ps r
residuals_stand ps sheet r p f h = record {
  permits = subst (λ es. All (StandsAtPolicy ps) (residual_rows permit es)) (sym p) h.permits;
  forbids = subst (λ es. All (StandsAtPolicy ps) (residual_rows forbid es)) (sym f) h.forbids;
}

-- so they do in the response before, where the policies were carried on from it
pub residuals_stay : (rows : List Located) (ps : List layers.Policy) (r : PartialResponse) → AreCarriedFrom rows ps → ResidualsStand ps r → ResidualsStay rows r
residuals_stay rows ps r carried h = record {
  permits = All-weaker (StandsAtPolicy ps) (StandsAtRow rows) stays (residual_rows permit r.residual_permits.entries) h.permits;
  forbids = All-weaker (StandsAtPolicy ps) (StandsAtRow rows) stays (residual_rows forbid r.residual_forbids.entries) h.forbids;
}
  where
    stays : (l : Located) → StandsAtPolicy ps l → StandsAtRow rows l
    stays l k =
        let from : IsCarriedFrom rows k.policy = All-contains (IsCarriedFrom rows) ps k.policy carried k.among in
        record {
          before = from.row;
          among = from.among;
          id_is = k.id_is ∙ ap (λ x. x.0.id) from.carried.policy;
          stands = k.stands ∙ ap (λ x. x.1) from.carried.policy;
        }
