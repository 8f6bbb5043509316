-- A policy that is read with constraints in its condition means what was written.
use Rattle.std.proofs.Common.{◌≡◌, Bool, true, false, cond, List, [], ◌∷◌, ◌++◌, Option, Some, None, refl, sym, ap, ◌∙◌, subst}
use Rattle.cedar_model.specs.Terms.{Term, both}
use Rattle.cedar_model.specs.Agreement.{no_slots}
use Rattle.cedar_model.specs.Meaning.{and_then_bool, meaning}
use Rattle.cedar_model.specs.Outcomes.{Outcome, gives, errs, gives_bool, and_then, needing, bool_of}
use Rattle.cedar_model.specs.World.{World, Slots, Extensions, Functions}
use Rattle.cedar_layers.specs.Policies.{PolicyView, condition_term}
use Rattle.cedar_policy_json_reader.specs.Policies.{joined, joined_behind}
use Rattle.cedar_policy_json_reader.specs.Scopes.{truth}
use Rattle.cedar_policy_json_writer.specs.Policies.{behind, with_slots}
use Rattle.cedar_policy_json_writer.specs.Scopes.{Scope, scope_of, is_truth}
use Rattle.cedar_model.specs.Terms.{principal, action, resource}
use Rattle.cedar_policy_json_laws.specs.Conditions.{constraint_read, moved, with_conditions, ConditionsMeanTheSame}
use Rattle.cedar_policy_json_laws.proofs.Policies.{truth_is}
use Rattle.cedar_policy_json_laws.proofs.Scopes.{constraint_stays}

-- ---- what a boolean is, and what `&&` makes of two

abbrev bool_part : Outcome → Outcome
bool_part o = and_then_bool o gives_bool

abbrev conjunction : Outcome → Outcome → Outcome
conjunction o p = and_then_bool o (λ t. cond t (bool_part p) (gives_bool false))

needing_twice : (b : Option Bool) → bool_part (needing b gives_bool) ≡ needing b gives_bool
unfolding and_then needing bool_of
needing_twice None = refl
needing_twice (Some b) = refl

bool_twice : (o : Outcome) → bool_part (bool_part o) ≡ bool_part o
unfolding and_then
bool_twice (gives v) = needing_twice (bool_of v)
bool_twice (errs e) = refl

needing_then : (b : Option Bool) (p : Outcome) → bool_part (needing b (λ t. cond t (bool_part p) (gives_bool false))) ≡ needing b (λ t. cond t (bool_part p) (gives_bool false))
unfolding and_then needing bool_of
needing_then None p = refl
needing_then (Some true) p = bool_twice p
needing_then (Some false) p = refl

-- a conjunction is a boolean
conjunction_is : (o p : Outcome) → bool_part (conjunction o p) ≡ conjunction o p
unfolding and_then
conjunction_is (gives v) p = needing_then (bool_of v) p
conjunction_is (errs e) p = refl

needing_first : (b : Option Bool) (p : Outcome) → conjunction (needing b gives_bool) p ≡ needing b (λ t. cond t (bool_part p) (gives_bool false))
unfolding and_then needing bool_of
needing_first None p = refl
needing_first (Some b) p = refl

-- of its left side only what boolean it is counts
first_is : (o p : Outcome) → conjunction (bool_part o) p ≡ conjunction o p
unfolding and_then
first_is (gives v) p = needing_first (bool_of v) p
first_is (errs e) p = refl

needing_true : (b : Option Bool) → needing b (λ t. cond t (bool_part (gives_bool true)) (gives_bool false)) ≡ needing b gives_bool
unfolding and_then needing bool_of
needing_true None = refl
needing_true (Some true) = refl
needing_true (Some false) = refl

with_true : (o : Outcome) → conjunction o (gives_bool true) ≡ bool_part o
unfolding and_then
with_true (gives v) = needing_true (bool_of v)
with_true (errs e) = refl

of_true : (p : Outcome) → conjunction (gives_bool true) p ≡ bool_part p
unfolding and_then needing bool_of
of_true p = refl

needing_three : (b : Option Bool) (p q : Outcome) → conjunction (needing b (λ t. cond t (bool_part p) (gives_bool false))) q ≡ needing b (λ t. cond t (bool_part (conjunction p q)) (gives_bool false))
unfolding and_then needing bool_of
needing_three None p q = refl
needing_three (Some true) p q = first_is p q ∙ sym (conjunction_is p q)
needing_three (Some false) p q = refl

of_three : (o p q : Outcome) → conjunction (conjunction o p) q ≡ conjunction o (conjunction p q)
unfolding and_then
of_three (gives v) p q = needing_three (bool_of v) p q
of_three (errs e) p q = refl

true_is : bool_part (gives_bool true) ≡ gives_bool true
unfolding and_then needing bool_of
true_is = refl

-- ---- conditions that are joined

module _ (X : Extensions) (ans : Functions) (w : World) where
  abbrev means : Term → Outcome
  means t = meaning X ans w no_slots t

  both_means : (t u : Term) → means (both t u) ≡ conjunction (means t) (means u)
  unfolding meaning
  both_means t u = refl

  truth_means : means truth ≡ gives_bool true
  unfolding meaning
  truth_means = refl

  -- this and these, one after the other
  abbrev all_of : Outcome → List Term → Outcome
  all_of o [] = o
  all_of o (t ∷ ts) = all_of (conjunction o (means t)) ts

  all_of_both : (o : Outcome) (ts us : List Term) → all_of o (ts ++ us) ≡ all_of (all_of o ts) us
  all_of_both o [] us = refl
  all_of_both o (t ∷ ts) us = all_of_both (conjunction o (means t)) ts us

  behind_means : (o : Outcome) (t : Term) (ts : List Term) → conjunction o (means (joined_behind t ts)) ≡ all_of (conjunction o (means t)) ts
  behind_means o t [] = refl
  behind_means o t (u ∷ us) =
      behind_means o (both t u) us
      ∙ ap (λ (p : Outcome). all_of p us) (ap (conjunction o) (both_means t u) ∙ sym (of_three o (means t) (means u)))

  with_truth : (o : Outcome) → conjunction o (means truth) ≡ bool_part o
  with_truth o = ap (conjunction o) truth_means ∙ with_true o

  joined_means : (o : Outcome) (ts : List Term) → conjunction o (means (joined ts)) ≡ all_of (bool_part o) ts
  joined_means o [] = with_truth o
  joined_means o (t ∷ ts) = behind_means o t ts ∙ ap (λ (p : Outcome). all_of p ts) (sym (first_is o (means t)))

  -- a condition is left out where it is `true`
  unless_truth : (o : Outcome) (t : Term) (b : Bool) → is_truth t ≡ b → bool_part o ≡ o → all_of o (cond b [] (t ∷ [])) ≡ conjunction o (means t)
  unless_truth o t true e is = sym (ap (λ (u : Term). conjunction o (means u)) (truth_is t e) ∙ with_truth o ∙ is)
  unless_truth o t false e is = refl

  moved_means : (o : Outcome) (t : Term) → bool_part o ≡ o → all_of o (moved None t) ≡ conjunction o (means t)
  moved_means o t is = unless_truth o t (is_truth t) refl is

  one_left : (o p : Outcome) (t : Term) → bool_part o ≡ p → bool_part p ≡ p → conjunction o (means (joined (moved None t))) ≡ conjunction p (means t)
  one_left o p t e is = joined_means o (moved None t) ∙ ap (λ (q : Outcome). all_of q (moved None t)) e ∙ moved_means p t is

  -- behind those that are joined already
  one_more : (o p : Outcome) (ts : List Term) (t : Term) → all_of o ts ≡ p → bool_part p ≡ p → all_of o (ts ++ moved None t) ≡ conjunction p (means t)
  one_more o p ts t e is = all_of_both o ts (moved None t) ∙ ap (λ (q : Outcome). all_of q (moved None t)) e ∙ moved_means p t is

  two_left : (o p : Outcome) (t u : Term) → bool_part o ≡ p → bool_part p ≡ p → conjunction o (means (joined (moved None t ++ moved None u))) ≡ conjunction (conjunction p (means t)) (means u)
  two_left o p t u e is =
      joined_means o (moved None t ++ moved None u) ∙ ap (λ (q : Outcome). all_of q (moved None t ++ moved None u)) e
      ∙ one_more p (conjunction p (means t)) (moved None t) u (moved_means p t is) (conjunction_is p (means t))

  three_left : (o p : Outcome) (t u v : Term) → bool_part o ≡ p → bool_part p ≡ p
      → conjunction o (means (joined ((moved None t ++ moved None u) ++ moved None v))) ≡ conjunction (conjunction (conjunction p (means t)) (means u)) (means v)
  three_left o p t u v e is =
      joined_means o ((moved None t ++ moved None u) ++ moved None v) ∙ ap (λ (q : Outcome). all_of q ((moved None t ++ moved None u) ++ moved None v)) e
      ∙ one_more p (conjunction (conjunction p (means t)) (means u)) (moved None t ++ moved None u) v
      (one_more p (conjunction p (means t)) (moved None t) u (moved_means p t is) (conjunction_is p (means t)))
      (conjunction_is (conjunction p (means t)) (means u))

  four_left : (o p : Outcome) (s t u v : Term) → bool_part o ≡ p → bool_part p ≡ p
      → conjunction o (means (joined (((moved None s ++ moved None t) ++ moved None u) ++ moved None v))) ≡ conjunction (conjunction (conjunction (conjunction p (means s)) (means t)) (means u)) (means v)
  four_left o p s t u v e is =
      joined_means o (((moved None s ++ moved None t) ++ moved None u) ++ moved None v) ∙ ap (λ (q : Outcome). all_of q (((moved None s ++ moved None t) ++ moved None u) ++ moved None v)) e
      ∙ one_more p (conjunction (conjunction (conjunction p (means s)) (means t)) (means u)) ((moved None s ++ moved None t) ++ moved None u) v
      (one_more p (conjunction (conjunction p (means s)) (means t)) (moved None s ++ moved None t) u
      (one_more p (conjunction p (means s)) (moved None s) t (moved_means p s is) (conjunction_is p (means s)))
      (conjunction_is (conjunction p (means s)) (means t)))
      (conjunction_is (conjunction (conjunction p (means s)) (means t)) (means u))

  -- ---- the four parts

  abbrev four : Term → Term → Term → Term → Outcome
  four a b c d = conjunction (conjunction (conjunction (means a) (means b)) (means c)) (means d)

  stays : (t : Term) (x : Scope) → constraint_read (Some x) no_slots t ≡ t
  stays t x = constraint_stays t

  parts_mean : (o p q : Option Scope) (a b c d : Term)
      → four (constraint_read o no_slots a) (constraint_read (behind o p) no_slots b) (constraint_read (behind (behind o p) q) no_slots c) (joined (((moved o a ++ moved (behind o p) b) ++ moved (behind (behind o p) q) c) ++ moved None d)) ≡ four a b c d
  parts_mean None p q a b c d =
      four_left (conjunction (conjunction (means truth) (means truth)) (means truth)) (gives_bool true) a b c d
      (ap bool_part (with_truth (conjunction (means truth) (means truth)) ∙ ap bool_part (with_truth (means truth)) ∙ bool_twice (means truth) ∙ ap bool_part truth_means) ∙ bool_twice (gives_bool true) ∙ true_is) true_is
      ∙ ap (λ (r : Outcome). conjunction (conjunction (conjunction r (means b)) (means c)) (means d)) (of_true (means a))
      ∙ ap (λ (r : Outcome). conjunction (conjunction r (means c)) (means d)) (first_is (means a) (means b))
  parts_mean (Some x) None q a b c d =
      three_left (conjunction (conjunction (means (constraint_read (Some x) no_slots a)) (means truth)) (means truth)) (bool_part (means (constraint_read (Some x) no_slots a))) b c d
      (ap bool_part (with_truth (conjunction (means (constraint_read (Some x) no_slots a)) (means truth)) ∙ ap bool_part (with_truth (means (constraint_read (Some x) no_slots a))) ∙ bool_twice (means (constraint_read (Some x) no_slots a)))
      ∙ bool_twice (means (constraint_read (Some x) no_slots a)))
      (bool_twice (means (constraint_read (Some x) no_slots a)))
      ∙ ap (λ (r : Outcome). conjunction (conjunction r (means c)) (means d)) (first_is (means (constraint_read (Some x) no_slots a)) (means b))
      ∙ ap (λ (t : Term). four t b c d) (stays a x)
  parts_mean (Some x) (Some y) None a b c d =
      two_left (conjunction (conjunction (means (constraint_read (Some x) no_slots a)) (means (constraint_read (Some y) no_slots b))) (means truth)) (conjunction (means (constraint_read (Some x) no_slots a)) (means (constraint_read (Some y) no_slots b))) c d
      (ap bool_part (with_truth (conjunction (means (constraint_read (Some x) no_slots a)) (means (constraint_read (Some y) no_slots b)))) ∙ bool_twice (conjunction (means (constraint_read (Some x) no_slots a)) (means (constraint_read (Some y) no_slots b)))
      ∙ conjunction_is (means (constraint_read (Some x) no_slots a)) (means (constraint_read (Some y) no_slots b)))
      (conjunction_is (means (constraint_read (Some x) no_slots a)) (means (constraint_read (Some y) no_slots b)))
      ∙ (λ i. four (stays a x i) (stays b y i) c d)
  parts_mean (Some x) (Some y) (Some z) a b c d =
      one_left (conjunction (conjunction (means (constraint_read (Some x) no_slots a)) (means (constraint_read (Some y) no_slots b))) (means (constraint_read (Some z) no_slots c)))
      (conjunction (conjunction (means (constraint_read (Some x) no_slots a)) (means (constraint_read (Some y) no_slots b))) (means (constraint_read (Some z) no_slots c))) d
      (conjunction_is (conjunction (means (constraint_read (Some x) no_slots a)) (means (constraint_read (Some y) no_slots b))) (means (constraint_read (Some z) no_slots c)))
      (conjunction_is (conjunction (means (constraint_read (Some x) no_slots a)) (means (constraint_read (Some y) no_slots b))) (means (constraint_read (Some z) no_slots c)))
      ∙ (λ i. four (stays a x i) (stays b y i) (stays c z i) d)

  condition_means : (p : PolicyView) → means (condition_term p) ≡ four p.principal_constraint p.action_constraint p.resource_constraint p.when_clause
  unfolding meaning
  condition_means p = refl

  same_meaning : (p : PolicyView) → means (condition_term (with_conditions (with_slots p no_slots))) ≡ means (condition_term p)
  same_meaning p =
      condition_means (with_conditions (with_slots p no_slots))
      ∙ parts_mean (scope_of no_slots principal p.principal_constraint) (scope_of no_slots action p.action_constraint) (scope_of no_slots resource p.resource_constraint) p.principal_constraint p.action_constraint p.resource_constraint p.when_clause
      ∙ sym (condition_means p)

pub conditions_mean_the_same : (p : PolicyView) → ConditionsMeanTheSame p
conditions_mean_the_same p none X ans w =
    subst (λ (s : Slots). meaning X ans w no_slots (condition_term (with_conditions (with_slots p s))) ≡ meaning X ans w s (condition_term p)) (sym none) (same_meaning X ans w p)
