-- The SQL of a condition is worth what the entity of the row tells of it.
use Rattle.std.specs.Prelude.{ℕ, is_some, option_map, IfSome, IfOk, Result, Ok, Err}
use Rattle.std.specs.declared.alloc.AllocError.{AllocError}
use Rattle.std.specs.Rc.{rc_str_bytes}
use Rattle.std.specs.Str.{chars}
use Rattle.std.proofs.lemmas.Bool.{and_parts}
use Rattle.std.proofs.Common.{◌≡◌, ◌∙◌, Bool, true, false, not, ◌&&◌, List, Option, Some, None, refl, sym, subst}
use Rattle.sqlite_value.specs.Order.{Row, column}
use Rattle.sqlite_sql.specs.declared.ops.CompareOp.TheVariants.{Lt, Le}
use Rattle.sqlite_sql.specs.Ops.{from_truth}
use Rattle.sqlite_sql.specs.Term.{Term, Env, eval}
use Rattle.cedar_model.specs.Terms.{Text, EntityName, PatternPart}
use Rattle.cedar_model.specs.Outcomes.{entity_of, text_of, text_eq, matches}
use Rattle.cedar_model.specs.Settings.{StoredEntity}
use Rattle.cedar_names.specs.Names.{type_text}
use Rattle.cedar_names.specs.Leaves.{type_view, pattern_view}
use Rattle.cedar_filter.specs.declared.conditions.Comparison.{Comparison}
use Rattle.cedar_filter.specs.declared.conditions.Comparison.TheVariants.{Equal, Less, LessEq}
use Rattle.cedar_filter.specs.declared.conditions.Condition.{Condition}
use Rattle.cedar_filter.specs.declared.conditions.Condition.TheVariants.{Known, And', Or', Not', If', Holds, Compare}
use Rattle.cedar_filter.specs.declared.conditions.Condition.TheVariants.{In, Has, Like, Is, Contains}
use Rattle.cedar_filter.specs.declared.filters.Filter.{Filter}
use Rattle.cedar_filter.specs.Rows.{Told, told_then, told_needing, told_bool, tells_bool, attribute_told, has_told}
use Rattle.cedar_filter.specs.Conditions.{compared_told, operand_told, condition_says}
use Rattle.cedar_filter.proofs.Saying.{says_told}
use Rattle.cedar_sql.specs.declared.columns.Column.{Column}
use Rattle.cedar_sql.specs.declared.columns.Columns.{Columns}
use Rattle.cedar_sql.specs.Columns.{Represents, cell, column_at}
use Rattle.cedar_sql.specs.declared.terms.SqlTerm.{SqlTerm}
use Rattle.cedar_sql.specs.declared.answers.NoSql.{NoSql}
use Rattle.cedar_sql.specs.Terms.{row_column, row_env, sql_term}
use Rattle.cedar_sql.specs.Sides.{Side, operand_side, has_nul}
use Rattle.cedar_sql.specs.Said.{Holder, holder, holds_or_null, compared_or_null, typed_or_null, has_or_null, condition_sql}
use Rattle.cedar_sql.specs.Said.{earlier, unless, unsaid}
use Rattle.cedar_sql.specs.Patterns.{wildcards, has_a_place, has_nul_character, is_said_pattern, liked_or_null}
use Rattle.cedar_sql.specs.Meaning.{told_value, IsSqlOf, IsSqlOfFilter}
use Rattle.cedar_sql.proofs.Truths.{truth_value, choose_told, not_told, bool_told, equal_told, order_told, type_told}
use Rattle.cedar_sql.proofs.Cells.{IsSideOf, operand_is, found}
use Rattle.cedar_sql.proofs.Liking.{like_told}
use Rattle.cedar_sql.proofs.Holders.{IsHolder, holder_is, has_is}

-- ---- what is said

unless_is : (q : Bool) (c : Condition) → unless q c ≡ None → q ≡ true
unless_is true c is = refl
unless_is false c is = absurd (cc)

earlier_first : (a b : Option Condition) → earlier a b ≡ None → a ≡ None
earlier_first None b is = refl
earlier_first (Some c) b is = absurd (cc)

earlier_second : (a b : Option Condition) → earlier a b ≡ None → b ≡ None
earlier_second None b is = is
earlier_second (Some c) b is = absurd (cc)

module _ (row : Row) (env : Env) (is_row : (place : ℕ) → eval (row_column place) env ≡ column row place) where
  holds_said : (m : Option Side) (r : Told) → IfSome m (IsSideOf row env r) → is_some m ≡ true
      → told_value (told_bool r tells_bool) ≡ Some (eval (holds_or_null m) env)
  holds_said None r h is = absurd (cc)
  holds_said (Some a) r h is = bool_told row env is_row a.sort r a.term h

  both_said : (c : Comparison) (a b : Side) (q r : Told) → IsSideOf row env q a → IsSideOf row env r b
      → told_value (told_then q (λ u. told_then r (compared_told c u))) ≡ Some (eval (compared_or_null c (Some a) (Some b)) env)
  both_said Equal a b q r x y = equal_told row env is_row a.sort b.sort q r a.term b.term x y
  both_said Less a b q r x y = order_told row env Lt a.sort b.sort q r a.term b.term x y
  both_said LessEq a b q r x y = order_told row env Le a.sort b.sort q r a.term b.term x y

  compared_said : (c : Comparison) (m n : Option Side) (q r : Told) → IfSome m (IsSideOf row env q) → IfSome n (IsSideOf row env r)
      → (is_some m && is_some n) ≡ true
      → told_value (told_then q (λ u. told_then r (compared_told c u))) ≡ Some (eval (compared_or_null c m n) env)
  compared_said c None n q r x y is = absurd (cc)
  compared_said c (Some a) None q r x y is = absurd (cc)
  compared_said c (Some a) (Some b) q r x y is = both_said c a b q r x y

  typed_said : (t : Text) (m : Option Side) (r : Told) → IfSome m (IsSideOf row env r) → is_some m ≡ true
      → told_value (told_then r (λ v. told_needing (entity_of v) (λ d. tells_bool (text_eq d.type_name t)))) ≡ Some (eval (typed_or_null t m) env)
  typed_said t None r h is = absurd (cc)
  typed_said t (Some a) r h is = type_told row env is_row t a.sort r a.term h

  liked_said : (ps : List PatternPart) (m : Option Side) (r : Told) → IfSome m (IsSideOf row env r) → (is_some m && is_said_pattern ps) ≡ true
      → told_value (told_then r (λ v. told_needing (text_of v) (λ t. tells_bool (matches ps (chars t))))) ≡ Some (eval (liked_or_null ps m) env)
  liked_said ps None r h is = absurd (cc)
  liked_said ps (Some a) r h is =
      like_told ps row env a.sort r a.term (and_parts (has_a_place (wildcards ps)) (not (has_nul_character ps)) is).0 h

  module _ (e : EntityName) (x : StoredEntity) where
    has_said : (k : Text) (m : Option Holder) (n : Option Column) (r : Told) → IfSome m (IsHolder row env is_row e x r)
        → IfSome n (λ c. cell c.holds (told_then r (λ v. attribute_told e x v k)) ≡ Some (column row c.place))
        → (is_some m && is_some n) ≡ true
        → told_value (told_then r (λ v. has_told e x v k)) ≡ Some (eval (has_or_null m n) env)
    has_said k None n r g h is = absurd (cc)
    has_said k (Some a) None r g h is = absurd (cc)
    has_said k (Some a) (Some c) r g h is = has_is row env is_row e x a k c r g h

    pub means : (columns : Columns) → Represents columns row e x → (c : Condition) → unsaid columns c ≡ None
        → told_value (condition_says e x c) ≡ Some (eval (condition_sql columns c) env)
    means columns h (Known b) is = truth_value b
    means columns h (And' p a q b) is =
        choose_told (condition_says e x a) (condition_says e x b) (tells_bool false) _ _ (from_truth (Some false))
        (means columns h a (earlier_first (unsaid columns a) (unsaid columns b) is))
        (means columns h b (earlier_second (unsaid columns a) (unsaid columns b) is)) (truth_value false)
    means columns h (Or' p a q b) is =
        choose_told (condition_says e x a) (tells_bool true) (condition_says e x b) _ (from_truth (Some true)) _
        (means columns h a (earlier_first (unsaid columns a) (unsaid columns b) is)) (truth_value true)
        (means columns h b (earlier_second (unsaid columns a) (unsaid columns b) is))
    means columns h (Not' p a) is = not_told (condition_says e x a) _ (means columns h a is)
    means columns h (If' p c q a r b) is =
        let rest = earlier_second (unsaid columns c) (earlier (unsaid columns a) (unsaid columns b)) is in
        choose_told (condition_says e x c) (condition_says e x a) (condition_says e x b) _ _ _
        (means columns h c (earlier_first (unsaid columns c) (earlier (unsaid columns a) (unsaid columns b)) is))
        (means columns h a (earlier_first (unsaid columns a) (unsaid columns b) rest))
        (means columns h b (earlier_second (unsaid columns a) (unsaid columns b) rest))
    means columns h (Holds o) is =
        holds_said (operand_side columns o) (operand_told e x o) (operand_is row env is_row columns e x h o) (unless_is _ _ is)
    means columns h (Compare c o q) is =
        compared_said c (operand_side columns o) (operand_side columns q) (operand_told e x o) (operand_told e x q)
        (operand_is row env is_row columns e x h o) (operand_is row env is_row columns e x h q) (unless_is _ _ is)
    means columns h (In o u) is = absurd (cc)
    means columns h (Has o k) is =
        has_said (rc_str_bytes k) (holder columns o) (column_at columns.attributes.items o (rc_str_bytes k)) (operand_told e x o)
        (holder_is row env is_row e x columns h o) (found e x row columns.attributes.items o (rc_str_bytes k) h.attributes) (unless_is _ _ is)
    means columns h (Like o p) is =
        liked_said (pattern_view p) (operand_side columns o) (operand_told e x o) (operand_is row env is_row columns e x h o) (unless_is _ _ is)
    means columns h (Is o t) is =
        typed_said (type_text t) (operand_side columns o) (operand_told e x o) (operand_is row env is_row columns e x h o)
        (and_parts (is_some (operand_side columns o)) (not (has_nul (type_text t))) (unless_is _ _ is)).0
    means columns h (Contains o v) is = absurd (cc)

-- ---- on each row

pub is_sql : (columns : Columns) (c : Condition) (t : Term) → unsaid columns c ≡ None → t ≡ condition_sql columns c → IsSqlOf columns c t
is_sql columns c t said is parameters row later e x h =
    means row (row_env parameters row later) (λ place. refl) e x columns h c said
    ∙ (λ i. Some (eval (sym is i) (row_env parameters row later)))

pub filter_is_sql : (columns : Columns) (f : Filter) (t : Term) → IsSqlOf columns f.condition t → IsSqlOfFilter columns f t
filter_is_sql columns f t is parameters row later e x h =
    (λ i. told_value (says_told (rc_str_bytes f.row.name) (option_map type_view f.row.type_annotation) e x f.condition i))
    ∙ is parameters row later e x h

pub each_is_sql : (columns : Columns) (c : Condition) (r : Result SqlTerm AllocError) → unsaid columns c ≡ None
    → IfOk r (λ t. sql_term t ≡ condition_sql columns c) → IfOk r (λ t. IsSqlOf columns c (sql_term t))
each_is_sql columns c (Ok t) said is = is_sql columns c (sql_term t) said is
each_is_sql columns c (Err e) said is = tt

pub each_filter_is_sql : (columns : Columns) (f : Filter) (k : Condition) (r : Result SqlTerm NoSql) → k ≡ f.condition
    → IfOk r (λ t. IsSqlOf columns k (sql_term t)) → IfOk r (λ t. IsSqlOfFilter columns f (sql_term t))
each_filter_is_sql columns f k (Ok t) same is = filter_is_sql columns f (sql_term t) (subst (λ (c : Condition). IsSqlOf columns c (sql_term t)) same is)
each_filter_is_sql columns f k (Err e) same is = tt
