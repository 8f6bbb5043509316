-- The SQL expression that a tree stands for, as the kit's SQL has it.
use Rattle.std.specs.Prelude.{ℕ, ℤ, pos, Bool, List, ◌∷◌, Some}
use Rattle.std.specs.Rc.{rc_str_bytes}
use Rattle.sqlite_value.specs.declared.value.Value.TheVariants.{Null, Int, Text}
use Rattle.sqlite_value.specs.declared.keys.Collation.TheVariants.{Binary}
use Rattle.sqlite_value.specs.Order.{Row}
use Rattle.sqlite_sql.specs.declared.ops.UnaryOp.TheVariants.{IsNull, Not}
use Rattle.sqlite_sql.specs.declared.ops.CompareOp.TheVariants.{Eq, Lt, Le}
use Rattle.sqlite_sql.specs.declared.ops.BinaryOp.{BinaryOp}
use Rattle.sqlite_sql.specs.declared.ops.BinaryOp.TheVariants as by
use Rattle.sqlite_sql.specs.Ops.{from_truth}
use Rattle.sqlite_sql.specs.Term.{Term, Env, lit, col, op1, op2, case}
use Rattle.cedar_filter.specs.declared.conditions.Comparison.{Comparison}
use Rattle.cedar_filter.specs.declared.conditions.Comparison.TheVariants as comparisons
use Rattle.cedar_sql.specs.declared.terms.SqlTerm.{SqlTerm}
use Rattle.cedar_sql.specs.declared.terms.SqlTerm.TheVariants as terms

-- parameters, then the row, then whatever FROM names behind it
abbrev pub row_env : Row → Row → List Row → Env
row_env parameters row later = parameters ∷ row ∷ later

-- the column at a place of the row
abbrev pub row_column : ℕ → Term
row_column place = col 1 place

abbrev pub number : ℤ → Term
number n = lit (Int n)

-- texts are compared by their bytes
abbrev pub compare_operator : Comparison → BinaryOp
compare_operator comparisons.Equal = by.Compare Eq Binary
compare_operator comparisons.Less = by.Compare Lt Binary
compare_operator comparisons.LessEq = by.Compare Le Binary

abbrev pub equals : Term → Term → Term
equals a b = op2 (by.Compare Eq Binary) a b

-- `CASE c WHEN 1 THEN a WHEN 0 THEN b END`
abbrev pub choose : Term → Term → Term → Term
choose c a b = case (equals c (number (pos 1))) a (case (equals c (number (pos 0))) b (lit Null))

-- `IS 1` or `IS 0`
abbrev pub is_truth : Term → Bool → Term
is_truth a b = op2 (by.Is Binary) a (lit (from_truth (Some b)))

abbrev pub sql_term : SqlTerm → Term
sql_term terms.Null = lit Null
sql_term (terms.Number n) = number n
sql_term (terms.Text t) = lit (Text (rc_str_bytes t))
sql_term (terms.Column place) = row_column place
sql_term (terms.IsNull' p a) = op1 IsNull (sql_term a)
sql_term (terms.Not' p a) = op1 Not (sql_term a)
sql_term (terms.Is' p a b) = is_truth (sql_term a) b
sql_term (terms.And' p a q b) = op2 by.And (sql_term a) (sql_term b)
sql_term (terms.Or' p a q b) = op2 by.Or (sql_term a) (sql_term b)
sql_term (terms.Compare' c p a q b) = op2 (compare_operator c) (sql_term a) (sql_term b)
sql_term (terms.Instr' p a q b) = op2 by.Instr (sql_term a) (sql_term b)
sql_term (terms.Choice' p c q a r b) = choose (sql_term c) (sql_term a) (sql_term b)
