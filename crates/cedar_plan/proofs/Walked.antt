-- How policies stand at a row, one after another.
use Rattle.std.proofs.Common.{◌≡◌, ◌∙◌, Bool, true, false, ◌||◌, List, [], ◌∷◌, Option, refl, sym, ap}
use Rattle.cedar_model.specs.Terms.{EntityName}
use Rattle.cedar_model.specs.Settings.{StoredEntity}
use Rattle.cedar_plan.specs.declared.policies.RowPolicy.{RowPolicy}
use Rattle.cedar_plan.specs.Planned.{condition_view, row_policies_view}
use Rattle.cedar_plan.specs.Told.{counts_at, is_counted, is_untold, some_counts, some_untold}

or_false : (p : Bool) → (p || false) ≡ p
or_false true = refl
or_false false = refl

moved : (p q s : Bool) → ((p || q) || s) ≡ (q || (p || s))
moved true true s = refl
moved true false s = refl
moved false true s = refl
moved false false s = refl

module _ (errs : Bool) (e : EntityName) (x : StoredEntity) (before total : Bool) where
  module _ (all rest : List RowPolicy) (p : RowPolicy) (is : all ≡ p ∷ rest) (counted : Option Bool)
      (here : counted ≡ counts_at errs e x (condition_view p.condition)) (after : Bool) where
    pub one_counts : after ≡ (is_counted counted || before) → (before || some_counts errs e x (row_policies_view all)) ≡ total
        → (after || some_counts errs e x (row_policies_view rest)) ≡ total
    unfolding some_counts
    one_counts now h =
        ap (λ b. b || some_counts errs e x (row_policies_view rest)) now
        ∙ moved (is_counted counted) before (some_counts errs e x (row_policies_view rest))
        ∙ ap (λ k. before || (is_counted k || some_counts errs e x (row_policies_view rest))) here
        ∙ sym (ap (λ ps. before || some_counts errs e x (row_policies_view ps)) is) ∙ h

    pub one_untold : after ≡ (is_untold counted || before) → (before || some_untold errs e x (row_policies_view all)) ≡ total
        → (after || some_untold errs e x (row_policies_view rest)) ≡ total
    unfolding some_untold
    one_untold now h =
        ap (λ b. b || some_untold errs e x (row_policies_view rest)) now
        ∙ moved (is_untold counted) before (some_untold errs e x (row_policies_view rest))
        ∙ ap (λ k. before || (is_untold k || some_untold errs e x (row_policies_view rest))) here
        ∙ sym (ap (λ ps. before || some_untold errs e x (row_policies_view ps)) is) ∙ h

  pub all_counted : (left : List RowPolicy) → left ≡ [] → (before || some_counts errs e x (row_policies_view left)) ≡ total → before ≡ total
  unfolding some_counts
  all_counted left none h = sym (or_false before) ∙ sym (ap (λ ps. before || some_counts errs e x (row_policies_view ps)) none) ∙ h

  pub all_told : (left : List RowPolicy) → left ≡ [] → (before || some_untold errs e x (row_policies_view left)) ≡ total → before ≡ total
  unfolding some_untold
  all_told left none h = sym (or_false before) ∙ sym (ap (λ ps. before || some_untold errs e x (row_policies_view ps)) none) ∙ h
