-- What the policies decide that SQL says is what the plan tells.
use Rattle.std.specs.Prelude.{is_none, option_map}
use Rattle.std.proofs.lemmas.Bool.{and_parts}
use Rattle.std.specs.List.{AllByRecursion}
use Rattle.std.specs.Rc.{rc_str_bytes}
use Rattle.std.proofs.Common.{◌≡◌, ◌∙◌, Bool, true, false, cond, not, ◌&&◌, ◌||◌, List, [], ◌∷◌, map, Option, Some, None, refl, sym, ap, subst}
use Rattle.sqlite_value.specs.Order.{Row}
use Rattle.sqlite_sql.specs.Ops.{from_truth, is_true}
use Rattle.sqlite_sql.specs.Term.{Term, eval}
use Rattle.cedar_model.specs.Terms.{Text, EntityName, ValueType}
use Rattle.cedar_model.specs.Terms as terms
use Rattle.cedar_model.specs.Settings.{StoredEntity}
use Rattle.cedar_model.specs.Policies as model
use Rattle.cedar_model.specs.Policies.{forbid, allow, deny}
use Rattle.cedar_model.specs.Responses as responses
use Rattle.cedar_model.specs.Responses.{clause_of}
use Rattle.cedar_decisions.specs.Decisions.{known_decision, decision_view}
use Rattle.cedar_decisions.specs.declared.decision.Decision.TheVariants as decisions
use Rattle.cedar_filter.specs.declared.conditions.Condition.{Condition}
use Rattle.cedar_filter.specs.declared.filters.Filter.{Filter}
use Rattle.cedar_filter.specs.Filters.{filter_row, filter_condition, filter_term}
use Rattle.cedar_filter.specs.Faults.{can_stand_for, condition_fault}
use Rattle.cedar_filter.specs.Simplifying.{simplified}
use Rattle.cedar_names.specs.Leaves.{type_view}
use Rattle.cedar_plan.specs.declared.conditions.RowCondition.{RowCondition}
use Rattle.cedar_plan.specs.declared.conditions.RowCondition.TheVariants as conditions
use Rattle.cedar_plan.specs.declared.policies.RowPolicy.{RowPolicy}
use Rattle.cedar_plan.specs.declared.policies.PlannedPolicies.{PlannedPolicies}
use Rattle.cedar_plan.specs.declared.plans.Plan.{Plan}
use Rattle.cedar_plan.specs.Planned.{Planned, filter_of, rest_of, planned_by, planned, planned_row, condition_view}
use Rattle.cedar_plan.specs.Planned.{row_policy_view, row_policies_view, satisfied_in, residuals_in, some_of, HasPolicies}
use Rattle.cedar_plan.specs.Planned.{plan_mode, plan_permits, plan_forbids, row_name, row_type, IsPlanOf}
use Rattle.cedar_plan.specs.Told.{errs_count, counts_as, counts_at, is_counted, is_untold, some_counts, some_untold}
use Rattle.cedar_plan.specs.Worlds.{IsToldOf, DecidesAt}
use Rattle.cedar_plan.proofs.Answering as answering
use Rattle.cedar_sql.specs.declared.columns.Columns.{Columns}
use Rattle.cedar_sql.specs.Columns.{Represents}
use Rattle.cedar_sql.specs.Said.{unsaid, condition_sql}
use Rattle.cedar_sql.specs.Terms.{row_env}
use Rattle.cedar_sql.specs.Meaning.{told_value}
use Rattle.cedar_sql.proofs.Whole.{is_sql, filter_is_sql}
use Rattle.cedar_sql_plan.specs.Said.{is_said, some_unsaid, said_counts, some_said, some_count, some_open, decision_by_said}
use Rattle.cedar_sql_plan.specs.Said.{said_decision, filter_told, is_allow, is_deny}
use Rattle.cedar_sql_plan.specs.Meaning.{ShowsAllowed, LeavesOutDenied, IsAllowedTerm, IsCandidateTerm}
use Rattle.cedar_sql_plan.specs.Telling.{SaidIsTold, IsSaidIfFilter, AreSaid, SaidIsAllThatIsTold}
use Rattle.cedar_sql_plan.proofs.Truths.{told_there}

-- ---- decisions

-- what counts by SQL counts in the plan too, and where SQL says all there is no other
pub record Agrees (said left counts untold : Bool) : Type 0 where
  pub more : said ≡ true → counts ≡ true
  pub same : left ≡ false → counts ≡ said
  pub closed : left ≡ false → untold ≡ false

decided : (pc po fc fo pc' po' fc' fo' : Bool) (d : model.Decision) → Agrees pc po pc' po' → Agrees fc fo fc' fo'
    → known_decision pc po fc fo ≡ Some d → known_decision pc' po' fc' fo' ≡ Some d
decided pc po true fo pc' po' fc' fo' d p f is = rw (f.more refl) is
decided false false false fo pc' po' fc' fo' d p f is = rw (p.same refl, p.closed refl) (by_forbid fc' is)
  where
    by_forbid : (b : Bool) → Some deny ≡ Some d → cond b (Some deny) (Some deny) ≡ Some d
    by_forbid true h = h
    by_forbid false h = h
decided true po false true pc' po' fc' fo' d p f is = absurd (cc)
decided false true false true pc' po' fc' fo' d p f is = absurd (cc)
decided false true false false pc' po' fc' fo' d p f is = absurd (cc)
decided true po false false pc' po' fc' fo' d p f is = rw (p.more refl, f.same refl, f.closed refl) is

-- ---- one policy

abbrev view_counts : Bool → EntityName → StoredEntity → RowCondition → Option Bool
view_counts errs e x c = counts_at errs e x (condition_view c)

module _ (columns : Columns) (row : Row) (e : EntityName) (x : StoredEntity) (represents : Represents columns row e x) where
  -- a filter that SQL says is told
  filter_there : (errs : Bool) (f : Filter) → unsaid columns (filter_condition f) ≡ None
      → (b : Bool) × (counts_as errs (filter_told columns errs e x f) ≡ Some b)
  filter_there errs f said =
      told_there errs (filter_told columns errs e x f) (eval (condition_sql columns (filter_condition f)) (row_env [] row []))
      (filter_is_sql columns f (condition_sql columns (filter_condition f))
      (is_sql columns (filter_condition f) (condition_sql columns (filter_condition f)) said refl) [] row [] e x represents)

  module _ (n : Text) (a : Option ValueType) (can : can_stand_for a e ≡ true) where
    -- a plan's filter is one on the plan's rows
    is_annotated : (fault : Option terms.Term) (t : terms.Term) (m : Text) (b : Option ValueType) (s : terms.Term)
        → filter_of m b s ≡ planned_by n a fault t → b ≡ a
    is_annotated None t m b s is = cc
    is_annotated (Some part) t m b s is = absurd (cc)

    -- what a policy asks, as the plan has it
    pub record IsOfPlan (c : RowCondition) : Type 0 where
      pub clause : terms.Term
      pub is : condition_view c ≡ planned n a clause

    filter_can : (f : Filter) → IsOfPlan (conditions.Filter f)
        → can_stand_for (option_map type_view (filter_row f).type_annotation) e ≡ true
    filter_can f h =
        ap (λ (b : Option ValueType). can_stand_for b e)
        (is_annotated (condition_fault n a (simplified h.clause)) (simplified h.clause) (rc_str_bytes (filter_row f).name)
        (option_map type_view (filter_row f).type_annotation) (filter_term f) h.is) ∙ can

    where_can : (errs b : Bool) (q : Option Bool) → b ≡ true → cond b q None ≡ q
    where_can errs b q is = ap (λ (c : Bool). cond c q None) is

    viewed : (errs : Bool) (f : Filter) → IsOfPlan (conditions.Filter f)
        → view_counts errs e x (conditions.Filter f) ≡ counts_as errs (filter_told columns errs e x f)
    viewed errs f h =
        where_can errs (can_stand_for (option_map type_view (filter_row f).type_annotation) e)
        (counts_as errs (filter_told columns errs e x f)) (filter_can f h)

    more : (errs : Bool) (c : RowCondition) → IsOfPlan c → said_counts columns errs e x c ≡ true
        → is_counted (view_counts errs e x c) ≡ true
    more errs (conditions.Filter f) h is =
        ap is_counted (viewed errs f h)
        ∙ (and_parts (is_none (unsaid columns (filter_condition f))) (is_counted (counts_as errs (filter_told columns errs e x f))) is).1
    more errs (conditions.Rest part) h is = absurd (cc)

    none_is : (m : Option Condition) → is_none m ≡ true → m ≡ None
    none_is None is = refl
    none_is (Some c) is = absurd (cc)

    same : (errs : Bool) (c : RowCondition) → IsOfPlan c → is_said columns c ≡ true
        → is_counted (view_counts errs e x c) ≡ said_counts columns errs e x c
    same errs (conditions.Filter f) h is =
        ap is_counted (viewed errs f h)
        ∙ ap (λ (b : Bool). b && is_counted (counts_as errs (filter_told columns errs e x f))) (sym is)
    same errs (conditions.Rest part) h is = absurd (cc)

    is_there : (q : Option Bool) (b : Bool) → q ≡ Some b → is_untold q ≡ false
    is_there q b is = ap is_untold is

    closed : (errs : Bool) (c : RowCondition) → IsOfPlan c → is_said columns c ≡ true
        → is_untold (view_counts errs e x c) ≡ false
    closed errs (conditions.Filter f) h is =
        let there = filter_there errs f (none_is (unsaid columns (filter_condition f)) is) in
        ap is_untold (viewed errs f h) ∙ is_there _ there.0 there.1
    closed errs (conditions.Rest part) h is = absurd (cc)

    -- ---- all policies of an effect

    abbrev pub AreOfPlan : List RowPolicy → Type 0
    AreOfPlan ps = AllByRecursion (λ (p : RowPolicy). IsOfPlan p.condition) ps

    pub are_of_plan : (ps : List RowPolicy) (rs : List responses.Row) → row_policies_view ps ≡ map (planned_row n a) rs → AreOfPlan ps
    are_of_plan [] rs is = tt
    are_of_plan (p ∷ ps) [] is = absurd (cc)
    are_of_plan (p ∷ ps) (r ∷ rs) is =
        let first : row_policy_view p ≡ planned_row n a r = cc in
        let rest : row_policies_view ps ≡ map (planned_row n a) rs = cc in
        (record { clause = clause_of r.reported; is = ap (λ (q : Text × Planned). q.1) first }, are_of_plan ps rs rest)

    module _ (errs : Bool) where
      or_more : (p q s t : Bool) → (p ≡ true → s ≡ true) → (q ≡ true → t ≡ true) → (p || q) ≡ true → (s || t) ≡ true
      or_more true q s t f g is = rw (f refl) refl
      or_more false q true t f g is = refl
      or_more false q false t f g is = g is

      some_more : (ps : List RowPolicy) → AreOfPlan ps → some_said columns errs e x ps ≡ true
          → some_counts errs e x (row_policies_view ps) ≡ true
      unfolding some_said some_counts
      some_more [] h is = absurd (cc)
      some_more (p ∷ ps) h is =
          or_more (said_counts columns errs e x p.condition) (some_said columns errs e x ps)
          (is_counted (view_counts errs e x p.condition)) (some_counts errs e x (row_policies_view ps))
          (more errs p.condition h.0) (some_more ps h.1) is

      neither : (p q : Bool) → (p || q) ≡ false → (p ≡ false) × (q ≡ false)
      neither true q is = absurd (cc)
      neither false q is = (refl, is)

      not_not : (b : Bool) → not b ≡ false → b ≡ true
      not_not true is = refl
      not_not false is = absurd (cc)

      some_same : (ps : List RowPolicy) → AreOfPlan ps → some_unsaid columns ps ≡ false
          → some_counts errs e x (row_policies_view ps) ≡ some_said columns errs e x ps
      unfolding some_unsaid some_said some_counts
      some_same [] h is = refl
      some_same (p ∷ ps) h is =
          let parts = neither (not (is_said columns p.condition)) (some_unsaid columns ps) is in
          (λ i. same errs p.condition h.0 (not_not (is_said columns p.condition) parts.0) i || some_same ps h.1 parts.1 i)

      some_closed : (ps : List RowPolicy) → AreOfPlan ps → some_unsaid columns ps ≡ false
          → some_untold errs e x (row_policies_view ps) ≡ false
      unfolding some_unsaid some_untold
      some_closed [] h is = refl
      some_closed (p ∷ ps) h is =
          let parts = neither (not (is_said columns p.condition)) (some_unsaid columns ps) is in
          (λ i. closed errs p.condition h.0 (not_not (is_said columns p.condition) parts.0) i || some_closed ps h.1 parts.1 i)

      -- ---- where SQL says each filter

      all_said : (c : RowCondition) → IsOfPlan c → IsSaidIfFilter columns c
          → is_counted (view_counts errs e x c) ≡ said_counts columns errs e x c
      all_said (conditions.Filter f) h said = same errs (conditions.Filter f) h (ap is_none said)
      all_said (conditions.Rest part) h said = refl

      all_open : (c : RowCondition) → IsOfPlan c → IsSaidIfFilter columns c
          → is_untold (view_counts errs e x c) ≡ not (is_said columns c)
      all_open (conditions.Filter f) h said =
          closed errs (conditions.Filter f) h (ap is_none said) ∙ ap (λ (m : Option Condition). not (is_none m)) (sym said)
      all_open (conditions.Rest part) h said = refl

      exact_count : (ps : List RowPolicy) → AreOfPlan ps → AreSaid columns ps
          → some_counts errs e x (row_policies_view ps) ≡ some_said columns errs e x ps
      unfolding some_said some_counts
      exact_count [] h said = refl
      exact_count (p ∷ ps) h said = λ i. all_said p.condition h.0 said.0 i || exact_count ps h.1 said.1 i

      exact_open : (ps : List RowPolicy) → AreOfPlan ps → AreSaid columns ps
          → some_untold errs e x (row_policies_view ps) ≡ some_unsaid columns ps
      unfolding some_unsaid some_untold
      exact_open [] h said = refl
      exact_open (p ∷ ps) h said = λ i. all_open p.condition h.0 said.0 i || exact_open ps h.1 said.1 i

      -- ---- with those that are satisfied

      or_same : (s p q : Bool) → (p ≡ true → q ≡ true) → (s || p) ≡ true → (s || q) ≡ true
      or_same true p q f is = refl
      or_same false p q f is = f is

      agrees : (p : PlannedPolicies) → AreOfPlan (residuals_in p)
          → Agrees (some_count columns errs e x p) (some_open columns p) (answering.some_count errs e x p) (answering.some_open errs e x p)
      agrees p h = record {
        more = or_same (some_of (satisfied_in p)) (some_said columns errs e x (residuals_in p))
            (some_counts errs e x (row_policies_view (residuals_in p))) (some_more (residuals_in p) h);
        same = λ is. ap (λ (b : Bool). some_of (satisfied_in p) || b) (some_same (residuals_in p) h is);
        closed = some_closed (residuals_in p) h;
      }

-- ---- plans

-- a decision that is given where this holds
given_where : (can : Bool) (q : Option model.Decision) (d : model.Decision) → cond can q None ≡ Some d
    → (can ≡ true) × (q ≡ Some d)
given_where true q d is = (refl, is)
given_where false q d is = absurd (cc)

module _ (p : Plan) (columns : Columns) where
  told_where_can : (row : Row) (e : EntityName) (x : StoredEntity) → Represents columns row e x
      → can_stand_for (row_type p) e ≡ true → (d : model.Decision) → decision_by_said columns p e x ≡ Some d
      → IsToldOf p e x (Some d)
  told_where_can row e x represents can d is r plan =
      let n = row_name p in
      let a = row_type p in
      let permits = are_of_plan columns row e x represents n a can (residuals_in (plan_permits p)) _ plan.permits.asked in
      let forbids = are_of_plan columns row e x represents n a can (residuals_in (plan_forbids p)) _ plan.forbids.asked in
      let errs = errs_count (plan_mode p) forbid in
      answering.told p e x (Some d) _ _ _ _ can refl refl refl refl
      (sym (decided _ _ _ _ _ _ _ _ d
      (agrees columns row e x represents n a can false (plan_permits p) permits)
      (agrees columns row e x represents n a can errs (plan_forbids p) forbids) is)) r plan

  pub said_is_told : SaidIsTold p columns
  said_is_told row e x represents d is =
      let given = given_where (can_stand_for (row_type p) e) (decision_by_said columns p e x) d is in
      told_where_can row e x represents given.0 d given.1

  all_told_where_can : AreSaid columns (residuals_in (plan_permits p)) → AreSaid columns (residuals_in (plan_forbids p))
      → (row : Row) (e : EntityName) (x : StoredEntity) → Represents columns row e x
      → can_stand_for (row_type p) e ≡ true → IsToldOf p e x (decision_by_said columns p e x)
  all_told_where_can permits_said forbids_said row e x represents can r plan =
      let n = row_name p in
      let a = row_type p in
      let permits = are_of_plan columns row e x represents n a can (residuals_in (plan_permits p)) _ plan.permits.asked in
      let forbids = are_of_plan columns row e x represents n a can (residuals_in (plan_forbids p)) _ plan.forbids.asked in
      let errs = errs_count (plan_mode p) forbid in
      answering.told p e x (decision_by_said columns p e x) _ _ _ _ can
      (ap (λ (b : Bool). some_of (satisfied_in (plan_permits p)) || b)
      (sym (exact_count columns row e x represents n a can false (residuals_in (plan_permits p)) permits permits_said)))
      (sym (exact_open columns row e x represents n a can false (residuals_in (plan_permits p)) permits permits_said))
      (ap (λ (b : Bool). some_of (satisfied_in (plan_forbids p)) || b)
      (sym (exact_count columns row e x represents n a can errs (residuals_in (plan_forbids p)) forbids forbids_said)))
      (sym (exact_open columns row e x represents n a can errs (residuals_in (plan_forbids p)) forbids forbids_said))
      refl r plan

  by_type : (e : EntityName) (x : StoredEntity) (can : Bool) (q : Option model.Decision)
      → can_stand_for (row_type p) e ≡ can → (can ≡ true → IsToldOf p e x q) → IsToldOf p e x (cond can q None)
  by_type e x true q is told = told refl
  by_type e x false q is told = answering.nothing_told p e x is

  pub said_is_all_that_is_told : SaidIsAllThatIsTold p columns
  said_is_all_that_is_told permits_said forbids_said row e x represents =
      by_type e x (can_stand_for (row_type p) e) (decision_by_said columns p e x) refl
      (all_told_where_can permits_said forbids_said row e x represents)

  -- ---- rows that are shown, and rows that are left out

  truth_is : (b : Bool) → is_true (from_truth (Some b)) ≡ b
  truth_is true = refl
  truth_is false = refl

  same_truth : (b c : Bool) → from_truth (Some b) ≡ from_truth (Some c) → b ≡ c
  same_truth b c is = sym (truth_is b) ∙ ap is_true is ∙ truth_is c

  allow_given : (q : Option model.Decision) → is_allow q ≡ true → q ≡ Some allow
  allow_given None is = absurd (cc)
  allow_given (Some allow) is = refl
  allow_given (Some deny) is = absurd (cc)

  deny_given : (q : Option model.Decision) → not (is_deny q) ≡ false → q ≡ Some deny
  deny_given None is = absurd (cc)
  deny_given (Some allow) is = absurd (cc)
  deny_given (Some deny) is = refl

  pub shows_allowed : (t : Term) → IsAllowedTerm p columns t → ShowsAllowed p columns t
  shows_allowed t is parameters row later e x represents shown =
      let allowed = allow_given (said_decision columns p e x)
      (same_truth (is_allow (said_decision columns p e x)) true (sym (is parameters row later e x represents) ∙ shown)) in
      let given = given_where (can_stand_for (row_type p) e) (decision_by_said columns p e x) allow allowed in
      let told = said_is_told row e x represents allow allowed in
      (given.0, told, answering.decides p e x (Some decisions.Allow) told)

  not_denied : (can denied : Bool) → can ≡ true → (can && not denied) ≡ false → not denied ≡ false
  not_denied true denied can is = is
  not_denied false denied can is = absurd (cc)

  pub leaves_out_denied : (t : Term) → IsCandidateTerm p columns t → LeavesOutDenied p columns t
  leaves_out_denied t is parameters row later e x represents can left_out =
      let denied = deny_given (said_decision columns p e x)
      (not_denied (can_stand_for (row_type p) e) (is_deny (said_decision columns p e x)) can
      (same_truth (can_stand_for (row_type p) e && not (is_deny (said_decision columns p e x))) false
      (sym (is parameters row later e x represents) ∙ left_out))) in
      let told = said_is_told row e x represents deny denied in
      (told, answering.decides p e x (Some decisions.Deny) told)
