-- How SQL expressions are written, in bytes of UTF-8. Each stands in brackets, or between `CASE` and `END`; a chain of
-- `OR` stands in one pair of brackets. Each column stands behind its table.
use Rattle.std.specs.Prelude.{ℕ, Bool, true, false, ◌==◌, List, [], ◌∷◌, ◌++◌, if◌then◌else◌, codes, flat_map}
use Rattle.std.specs.Prelude.{Option, Some, None, slice_get}
use Rattle.std.specs.Fmt.{signed_decimal}
use Rattle.std.specs.Rc.{rc_str_bytes}
use Rattle.std.specs.declared.alloc.Global.{Global}
use Rattle.std.specs.declared.rc.RcStr.{RcStr}
use Rattle.cedar_model.specs.Terms.{Text}
use Rattle.cedar_filter.specs.declared.conditions.Comparison.{Comparison}
use Rattle.cedar_filter.specs.declared.conditions.Comparison.TheVariants as comparisons
use Rattle.cedar_sql.specs.declared.columns.TableNames.{TableNames}
use Rattle.cedar_sql.specs.declared.terms.SqlTerm.{SqlTerm}
use Rattle.cedar_sql.specs.declared.terms.SqlTerm.TheVariants as terms

-- ---- quotes: 39 is `'`, of texts; 34 is `"`, of names

-- a quote within quotes stands twice
abbrev pub doubled_byte : ℕ → ℕ → Text
doubled_byte mark b = if b == mark then mark ∷ mark ∷ [] else b ∷ []

unfoldable pub doubled : ℕ → Text → Text
doubled mark t = flat_map (doubled_byte mark) t

abbrev pub quoted : ℕ → Text → Text
quoted mark t = mark ∷ (doubled mark t ++ mark ∷ [])

-- ---- columns

abbrev pub name_or_none : Option (RcStr Global) → Text
name_or_none None = []
name_or_none (Some n) = rc_str_bytes n

-- the name at a place; behind the last one the empty name, which no column has
abbrev pub name_at : List (RcStr Global) → ℕ → Text
name_at names place = name_or_none (slice_get names place)

-- the name of the table and that of the column, each in quotes of its own: `"doc"."size"`
abbrev pub column_text : TableNames → ℕ → Text
column_text names place =
    quoted 34 (rc_str_bytes names.table) ++ (codes "." ++ quoted 34 (name_at names.columns.items place))

-- ---- expressions

abbrev pub sign_text : Comparison → Text
sign_text comparisons.Equal = codes " = "
sign_text comparisons.Less = codes " < "
sign_text comparisons.LessEq = codes " <= "

abbrev pub is_text : Bool → Text
is_text b = if b then codes " IS 1)" else codes " IS 0)"

-- a part of a chain stands in no brackets of its own
abbrev pub opening : Bool → Text
opening in_chain = if in_chain then [] else codes "("

abbrev pub closing : Bool → Text
closing in_chain = if in_chain then [] else codes ")"

-- the table and its columns are called so; the expression is the front of a chain of `OR` or not
module _ (names : TableNames) where
  abbrev pub term_text : Bool → SqlTerm → Text
  term_text in_chain terms.Null = codes "NULL"
  term_text in_chain (terms.Number n) = signed_decimal n
  term_text in_chain (terms.Text t) = quoted 39 (rc_str_bytes t)
  term_text in_chain (terms.Column place) = column_text names place
  term_text in_chain (terms.IsNull' p a) = codes "(" ++ (term_text false a ++ codes " IS NULL)")
  term_text in_chain (terms.Not' p a) = codes "(NOT " ++ (term_text false a ++ codes ")")
  term_text in_chain (terms.Is' p a b) = codes "(" ++ (term_text false a ++ is_text b)
  term_text in_chain (terms.And' p a q b) =
      codes "(" ++ (term_text false a ++ (codes " AND " ++ (term_text false b ++ codes ")")))
  term_text in_chain (terms.Or' p a q b) =
      opening in_chain ++ (term_text true a ++ (codes " OR " ++ (term_text false b ++ closing in_chain)))
  term_text in_chain (terms.Compare' c p a q b) =
      codes "(" ++ (term_text false a ++ (sign_text c ++ (term_text false b ++ codes ")")))
  term_text in_chain (terms.Instr' p a q b) =
      codes "instr(" ++ (term_text false a ++ (codes ", " ++ (term_text false b ++ codes ")")))
  term_text in_chain (terms.Choice' p c q a r b) =
      codes "CASE " ++ (term_text false c ++ (codes " WHEN 1 THEN " ++ (term_text false a
      ++ (codes " WHEN 0 THEN " ++ (term_text false b ++ codes " END")))))
