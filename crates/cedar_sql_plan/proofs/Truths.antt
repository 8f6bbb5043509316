-- Connectives of truths, and whether a condition counts.
use Rattle.std.specs.Prelude.{ℤ, pos}
use Rattle.std.proofs.Common.{◌≡◌, ◌∙◌, ◌⊎◌, inl, inr, Bool, true, false, not, ◌&&◌, ◌||◌, Option, Some, None, refl, sym, ap}
use Rattle.sqlite_value.specs.declared.value.Value.{Value}
use Rattle.sqlite_value.specs.declared.value.Value.TheVariants.{Null, Int}
use Rattle.sqlite_value.specs.declared.keys.Collation.TheVariants.{Binary}
use Rattle.sqlite_value.specs.Order.{value_cmp}
use Rattle.sqlite_value.proofs.OrderLemmas.{value_cmp-Int}
use Rattle.sqlite_sql.specs.declared.ops.UnaryOp.TheVariants.{Not}
use Rattle.sqlite_sql.specs.declared.ops.BinaryOp.TheVariants as by
use Rattle.sqlite_sql.specs.Ops.{from_truth, unary, binary}
use Rattle.sqlite_sql.specs.Term.{Term, Env, eval}
use Rattle.cedar_model.specs.Outcomes as outcomes
use Rattle.cedar_model.specs.Outcomes.{ErrorKind}
use Rattle.cedar_model.specs.Policies.{verdict}
use Rattle.cedar_filter.specs.Rows.{Told, tells, untold, tells_bool}
use Rattle.cedar_plan.specs.Told.{verdict_counts, counts_as, is_counted}
use Rattle.cedar_sql.specs.Meaning.{told_value}
use Rattle.cedar_sql.specs.Terms.{is_truth}
use Rattle.cedar_sql.proofs.Truths.{HasFailed, HasTruth, truth_of}
use Rattle.cedar_sql_plan.specs.Meaning.{counted, joined, but_not}

-- ---- connectives

or_is : (a b : Bool) → binary by.Or (from_truth (Some a)) (from_truth (Some b)) ≡ from_truth (Some (a || b))
unfolding binary
or_is true true = refl
or_is true false = refl
or_is false true = refl
or_is false false = refl

but_not_is : (a b : Bool)
    → binary by.And (from_truth (Some a)) (unary Not (from_truth (Some b))) ≡ from_truth (Some (a && not b))
unfolding binary unary
but_not_is true true = refl
but_not_is true false = refl
but_not_is false true = refl
but_not_is false false = refl

not_is : (b : Bool) → unary Not (from_truth (Some b)) ≡ from_truth (Some (not b))
unfolding unary
not_is true = refl
not_is false = refl

pub joined_is : (s t : Term) (env : Env) (a b : Bool) → eval s env ≡ from_truth (Some a) → eval t env ≡ from_truth (Some b)
    → eval (joined s t) env ≡ from_truth (Some (a || b))
joined_is s t env a b p q = (λ i. binary by.Or (p i) (q i)) ∙ or_is a b

pub but_not_truth : (s t : Term) (env : Env) (a b : Bool) → eval s env ≡ from_truth (Some a) → eval t env ≡ from_truth (Some b)
    → eval (but_not s t) env ≡ from_truth (Some (a && not b))
but_not_truth s t env a b p q = (λ i. binary by.And (p i) (unary Not (q i))) ∙ but_not_is a b

-- ---- whether a value is a truth

same_bool : Bool → Bool → Bool
same_bool true b = b
same_bool false b = not b

is_of_truth : (b c : Bool) → binary (by.Is Binary) (from_truth (Some b)) (from_truth (Some c)) ≡ from_truth (Some (same_bool b c))
unfolding binary same_bool
is_of_truth true true = rw (value_cmp-Int (pos 1) (pos 1)) refl
is_of_truth true false = rw (value_cmp-Int (pos 1) (pos 0)) refl
is_of_truth false true = rw (value_cmp-Int (pos 0) (pos 1)) refl
is_of_truth false false = rw (value_cmp-Int (pos 0) (pos 0)) refl

is_of_null : (c : Bool) → binary (by.Is Binary) Null (from_truth (Some c)) ≡ from_truth (Some false)
unfolding binary value_cmp
is_of_null true = refl
is_of_null false = refl

-- the value of `counted`
abbrev counted_value : Bool → Value → Value
counted_value false v = binary (by.Is Binary) v (from_truth (Some true))
counted_value true v = unary Not (binary (by.Is Binary) v (from_truth (Some false)))

counted_eval : (errs : Bool) (t : Term) (env : Env) → eval (counted errs t) env ≡ counted_value errs (eval t env)
counted_eval false t env = refl
counted_eval true t env = refl

null_counts : (errs : Bool) (k : ErrorKind)
    → counted_value errs Null ≡ from_truth (Some (is_counted (counts_as errs (tells (outcomes.errs k)))))
unfolding verdict
null_counts false k = is_of_null true
null_counts true k = ap (unary Not) (is_of_null false) ∙ not_is false

truth_counts : (errs b : Bool)
    → counted_value errs (from_truth (Some b)) ≡ from_truth (Some (is_counted (counts_as errs (tells_bool b))))
unfolding verdict same_bool
truth_counts false true = is_of_truth true true
truth_counts false false = is_of_truth false true
truth_counts true true = ap (unary Not) (is_of_truth true false) ∙ not_is false
truth_counts true false = ap (unary Not) (is_of_truth false false) ∙ not_is true

by_value : (errs : Bool) (r : Told) (v : Value) → told_value r ≡ Some v
    → counted_value errs v ≡ from_truth (Some (is_counted (counts_as errs r)))
by_value errs r v is = elim (truth_of r v is) [
  | inl f ↦
      ap (counted_value errs) f.is_null ∙ null_counts errs f.kind
      ∙ (λ i. from_truth (Some (is_counted (counts_as errs (sym f.is_told i)))))
  | inr h ↦
      ap (counted_value errs) h.is_value ∙ truth_counts errs h.holds
      ∙ (λ i. from_truth (Some (is_counted (counts_as errs (sym h.is_told i)))))
]

-- a condition counts as what is told of it does
pub counted_is : (errs : Bool) (r : Told) (t : Term) (env : Env) → told_value r ≡ Some (eval t env)
    → eval (counted errs t) env ≡ from_truth (Some (is_counted (counts_as errs r)))
counted_is errs r t env is = counted_eval errs t env ∙ by_value errs r (eval t env) is

-- what has a value is told
pub told_there : (errs : Bool) (r : Told) (v : Value) → told_value r ≡ Some v
    → (b : Bool) × (counts_as errs r ≡ Some b)
told_there errs (tells o) v is = (verdict_counts errs (verdict o), refl)
told_there errs untold v is = absurd (cc)
