-- A chain of policies, one after another.
use Rattle.std.specs.Prelude.{is_none, IfOk, Result, Ok, Err}
use Rattle.std.specs.declared.alloc.AllocError.{AllocError}
use Rattle.std.proofs.Common.{◌≡◌, ◌∙◌, Bool, true, false, cond, not, ◌&&◌, ◌||◌, List, [], ◌∷◌, Option, Some, None, refl, sym, ap, subst}
use Rattle.sqlite_value.specs.Order.{Row}
use Rattle.sqlite_sql.specs.Ops.{from_truth}
use Rattle.sqlite_sql.specs.Term.{Term, eval}
use Rattle.cedar_model.specs.Terms.{EntityName}
use Rattle.cedar_model.specs.Settings.{StoredEntity}
use Rattle.cedar_expressions.specs.declared.expr.Expr.{Expr}
use Rattle.cedar_filter.specs.declared.conditions.Condition.{Condition}
use Rattle.cedar_filter.specs.declared.filters.Filter.{Filter}
use Rattle.cedar_filter.specs.Filters.{filter_condition}
use Rattle.cedar_plan.specs.declared.conditions.RowCondition.{RowCondition}
use Rattle.cedar_plan.specs.declared.conditions.RowCondition.TheVariants as conditions
use Rattle.cedar_plan.specs.declared.policies.RowPolicy.{RowPolicy}
use Rattle.cedar_plan.specs.Told.{counts_as, is_counted}
use Rattle.cedar_sql.specs.declared.columns.Columns.{Columns}
use Rattle.cedar_sql.specs.declared.terms.SqlTerm.{SqlTerm}
use Rattle.cedar_sql.specs.Columns.{Represents}
use Rattle.cedar_sql.specs.Terms.{row_env, sql_term}
use Rattle.cedar_sql.specs.Said.{unsaid}
use Rattle.cedar_sql.specs.declared.answers.NoSql.{NoSql}
use Rattle.cedar_sql.specs.declared.answers.NoSql.TheVariants as refusals
use Rattle.cedar_sql.specs.Meaning.{IsSqlOfFilter, IsUnsaid}
use Rattle.cedar_sql_plan.specs.Said.{is_said, some_said, some_unsaid, said_counts, filter_told}
use Rattle.cedar_sql_plan.specs.Meaning.{IsTruthOn, AddsCount, IsCount, IsPart, counted, joined}
use Rattle.cedar_sql_plan.proofs.Truths.{counted_is, joined_is}

or_false : (a : Bool) → (a || false) ≡ a
or_false true = refl
or_false false = refl

or_assoc : (a b c : Bool) → ((a || b) || c) ≡ (a || (b || c))
or_assoc true b c = refl
or_assoc false b c = refl

-- ---- one policy

module _ (columns : Columns) (errs : Bool) where
  counts_as_told : (f : Filter) (e : EntityName) (x : StoredEntity) (m : Option Condition) → m ≡ None
      → is_counted (counts_as errs (filter_told columns errs e x f))
      ≡ (is_none m && is_counted (counts_as errs (filter_told columns errs e x f)))
  counts_as_told f e x None is = refl
  counts_as_told f e x (Some c) is = absurd (cc)

  -- a filter that SQL says
  pub adds_filter : (f : Filter) (s t u : Term) → unsaid columns (filter_condition f) ≡ None → IsSqlOfFilter columns f u
      → t ≡ joined s (counted errs u) → AddsCount columns errs (conditions.Filter f) s t
  adds_filter f s t u said is same holds truth parameters row later e x represents =
      ap (λ (w : Term). eval w (row_env parameters row later)) same
      ∙ joined_is s (counted errs u) (row_env parameters row later) (holds e x)
      (is_counted (counts_as errs (filter_told columns errs e x f))) (truth parameters row later e x represents)
      (counted_is errs (filter_told columns errs e x f) u (row_env parameters row later) (is parameters row later e x represents))
      ∙ ap (λ (b : Bool). from_truth (Some (holds e x || b))) (counts_as_told f e x (unsaid columns (filter_condition f)) said)

  counts_nothing : (f : Filter) (e : EntityName) (x : StoredEntity) (m : Option Condition) (c : Condition) → m ≡ Some c
      → false ≡ (is_none m && is_counted (counts_as errs (filter_told columns errs e x f)))
  counts_nothing f e x None c is = absurd (cc)
  counts_nothing f e x (Some d) c is = refl

  -- one that it does not
  pub adds_nothing : (f : Filter) (s t : Term) (c : Condition) → unsaid columns (filter_condition f) ≡ Some c → t ≡ s
      → AddsCount columns errs (conditions.Filter f) s t
  adds_nothing f s t c unsaid_part same holds truth parameters row later e x represents =
      ap (λ (w : Term). eval w (row_env parameters row later)) same ∙ truth parameters row later e x represents
      ∙ ap (λ (b : Bool). from_truth (Some b)) (sym (or_false (holds e x)))
      ∙ ap (λ (b : Bool). from_truth (Some (holds e x || b))) (counts_nothing f e x (unsaid columns (filter_condition f)) c unsaid_part)

  pub adds_rest : (part : Expr) (s : Term) → AddsCount columns errs (conditions.Rest part) s s
  adds_rest part s holds truth parameters row later e x represents =
      truth parameters row later e x represents ∙ ap (λ (b : Bool). from_truth (Some b)) (sym (or_false (holds e x)))

  -- ---- as the program answers

  pub each_adds_filter : (f : Filter) (s u : SqlTerm) (r : Result SqlTerm AllocError) → unsaid columns (filter_condition f) ≡ None
      → IsSqlOfFilter columns f (sql_term u) → IfOk r (λ t. sql_term t ≡ joined (sql_term s) (counted errs (sql_term u)))
      → IfOk r (λ t. AddsCount columns errs (conditions.Filter f) (sql_term s) (sql_term t))
  each_adds_filter f s u (Ok t) said is same = adds_filter f (sql_term s) (sql_term t) (sql_term u) said is same
  each_adds_filter f s u (Err e) said is same = tt

  refused_adds : (f : Filter) (s t : SqlTerm) (refusal : NoSql) → IsUnsaid (unsaid columns (filter_condition f)) refusal → IsPart refusal
      → t ≡ s → AddsCount columns errs (conditions.Filter f) (sql_term s) (sql_term t)
  refused_adds f s t (refusals.Part c) part is same = adds_nothing f (sql_term s) (sql_term t) c.now part (ap sql_term same)
  refused_adds f s t refusals.Memory part is same = absurd is

  pub each_adds_nothing : (f : Filter) (s : SqlTerm) (refusal : NoSql) (r : Result SqlTerm AllocError)
      → IsUnsaid (unsaid columns (filter_condition f)) refusal → IfOk r (λ t. t ≡ s) → IfOk r (λ t. IsPart refusal)
      → IfOk r (λ t. AddsCount columns errs (conditions.Filter f) (sql_term s) (sql_term t))
  each_adds_nothing f s refusal (Ok t) part same is = refused_adds f s t refusal part is same
  each_adds_nothing f s refusal (Err e) part same is = tt

  -- ---- one after another

  -- what a chain is worth, and what is left of the policies, is what all of them are
  pub record Chain (ps left : List RowPolicy) (t : Term) : Type 0 where
    pub holds : EntityName → StoredEntity → Bool
    pub truth : IsTruthOn columns holds t
    pub whole : (e : EntityName) (x : StoredEntity) → (holds e x || some_said columns errs e x left) ≡ some_said columns errs e x ps

  pub chain_begins : (ps : List RowPolicy) (t : Term) → ((parameters row : Row) (later : List Row) → eval t (row_env parameters row later) ≡ from_truth (Some false))
      → Chain ps ps t
  chain_begins ps t is = record {
    holds = λ e x. false;
    truth = λ parameters row later e x represents. is parameters row later;
    whole = λ e x. refl;
  }

  some_first : (p : RowPolicy) (ps : List RowPolicy) (e : EntityName) (x : StoredEntity)
      → some_said columns errs e x (p ∷ ps) ≡ (said_counts columns errs e x p.condition || some_said columns errs e x ps)
  unfolding some_said
  some_first p ps e x = refl

  pub chain_goes_on : (ps left : List RowPolicy) (p : RowPolicy) (s t : Term) → Chain ps (p ∷ left) s
      → AddsCount columns errs p.condition s t → Chain ps left t
  chain_goes_on ps left p s t chain adds = record {
    holds = λ e x. chain.holds e x || said_counts columns errs e x p.condition;
    truth = adds chain.holds chain.truth;
    whole = λ e x.
        or_assoc (chain.holds e x) (said_counts columns errs e x p.condition) (some_said columns errs e x left)
        ∙ ap (λ (b : Bool). chain.holds e x || b) (sym (some_first p left e x)) ∙ chain.whole e x;
  }

  none_said : (e : EntityName) (x : StoredEntity) → some_said columns errs e x [] ≡ false
  unfolding some_said
  none_said e x = refl

  pub chain_ends : (ps : List RowPolicy) (t : Term) → Chain ps [] t → IsCount columns errs ps t
  chain_ends ps t chain parameters row later e x represents =
      chain.truth parameters row later e x represents
      ∙ ap (λ (b : Bool). from_truth (Some b))
      (sym (or_false (chain.holds e x)) ∙ ap (λ (b : Bool). chain.holds e x || b) (sym (none_said e x)) ∙ chain.whole e x)

  pub chain_next : (ps all rest : List RowPolicy) (p : RowPolicy) (s t : Term) → all ≡ p ∷ rest → Chain ps all s
      → AddsCount columns errs p.condition s t → Chain ps rest t
  chain_next ps all rest p s t is chain adds =
      chain_goes_on ps rest p s t (subst (λ (left : List RowPolicy). Chain ps left s) is chain) adds

  pub chain_stops : (ps left : List RowPolicy) (t : Term) → left ≡ [] → Chain ps left t → IsCount columns errs ps t
  chain_stops ps left t none chain = chain_ends ps t (subst (λ (rest : List RowPolicy). Chain ps rest t) none chain)

-- ---- whether one is not said

module _ (columns : Columns) (all rest : List RowPolicy) (p : RowPolicy) (is : all ≡ p ∷ rest) where
  pub unsaid_here : (b : Bool) → b ≡ not (is_said columns p.condition) → b ≡ true → true ≡ some_unsaid columns all
  unfolding some_unsaid
  unsaid_here b here h =
      ap (λ (q : Bool). q || some_unsaid columns rest) (sym h ∙ here) ∙ sym (ap (some_unsaid columns) is)

  pub said_here : (b : Bool) → b ≡ not (is_said columns p.condition) → b ≡ false
      → some_unsaid columns rest ≡ some_unsaid columns all
  unfolding some_unsaid
  said_here b here h =
      ap (λ (q : Bool). q || some_unsaid columns rest) (sym h ∙ here) ∙ sym (ap (some_unsaid columns) is)

pub none_unsaid : (columns : Columns) (left : List RowPolicy) → left ≡ [] → some_unsaid columns left ≡ false
unfolding some_unsaid
none_unsaid columns left none = ap (some_unsaid columns) none
