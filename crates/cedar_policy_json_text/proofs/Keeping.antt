-- Policies that are lent, and compared one by one.
use Rattle.std.proofs.Common.{◌≡◌, refl, sym, ap, ◌∙◌, ℕ, ◌+◌, suc, Bool, true, false, ◌&&◌, List, [], ◌∷◌, ◌++◌, drop, length, append-nil}
use Rattle.std.proofs.lemmas.List.{map-append}
use Rattle.std.specs.Borrow.{Bor}
use Rattle.cedar_layers.specs.Policies.{PolicyView, policy_view}
use Rattle.cedar_layers.specs.declared.policies.policy.Policy.{Policy}
use Rattle.cedar_policy_json_text.specs.Kept.{is_kept, are_kept, lent}

-- nothing is left
pub no_more : {Y : Type 0} (done all left : List Y) → left ≡ [] → done ++ left ≡ all → done ≡ all
no_more {Y} done all left is whole = sym (append-nil done) ∙ ap (λ (a : List Y). done ++ a) (sym is) ∙ whole

pub one_lent : (old new : List (Bor Policy)) (p : Bor Policy) → new ≡ old ++ p ∷ [] → lent new ≡ lent old ++ policy_view p.now ∷ []
one_lent old new p is = ap lent is ∙ map-append (λ (q : Bor Policy). policy_view q.now) old (p ∷ [])

refused : (b c : Bool) → false ≡ c → false ≡ (b && c)
refused true c h = h
refused false c h = refl

-- where there are not as many, not all are kept
pub not_as_many : (ps qs : List (Bor Policy)) → (length ps ≡ length qs → ⊥) → false ≡ are_kept (lent ps) (lent qs)
not_as_many [] [] h = absurd (h refl)
not_as_many [] (q ∷ qs) h = refl
not_as_many (p ∷ ps) [] h = refl
not_as_many (p ∷ ps) (q ∷ qs) h =
    refused (is_kept (policy_view p.now) (policy_view q.now)) (are_kept (lent ps) (lent qs)) (not_as_many ps qs (λ e. h (ap suc e)))

module _ (all : Bool) (ps qs : List (Bor Policy)) (p q : Bor Policy) (rest others : List (Bor Policy)) (left : ps ≡ p ∷ rest) (right : qs ≡ q ∷ others)
    (whole : are_kept (lent ps) (lent qs) ≡ all) where
  opened : (is_kept (policy_view p.now) (policy_view q.now) && are_kept (lent rest) (lent others)) ≡ all
  opened = sym (λ i. are_kept (lent (left i)) (lent (right i))) ∙ whole

  -- this one is kept, and so all are if the others are
  pub kept_so_far : true ≡ is_kept (policy_view p.now) (policy_view q.now) → are_kept (lent rest) (lent others) ≡ all
  kept_so_far h = ap (λ b. b && are_kept (lent rest) (lent others)) h ∙ opened

  -- this one is not kept, and so not all are
  pub lost_here : false ≡ is_kept (policy_view p.now) (policy_view q.now) → false ≡ all
  lost_here h = ap (λ b. b && are_kept (lent rest) (lent others)) h ∙ opened

-- none is left
pub all_kept : (all : Bool) (ps qs : List (Bor Policy)) → ps ≡ [] → qs ≡ [] → are_kept (lent ps) (lent qs) ≡ all → true ≡ all
all_kept all ps qs left right whole = sym (λ i. are_kept (lent (left i)) (lent (right i))) ∙ whole

pub ruleset keeping = (one_lent, not_as_many)
