-- An answer of the tables that computes is allowed.
use Rattle.std.specs.Prelude.{◌≡◌, ◌≢◌, ℕ, Bool}
use Rattle.std.proofs.Common.{refl, subst}
use Rattle.cedar_model.specs.Terms.{Term}
use Rattle.cedar_model.specs.Failures.{Answer, limit}
use Rattle.cedar_model.specs.Rules.{Runs}
use Rattle.cedar_model.specs.laws.Levels.{FunctionsAnswer}
use Rattle.cedar_model.specs.examples.Tables.{table, table_calls, table_extensions, table_setting, Shown}
use Rattle.cedar_model.proofs.Total.{total}

abbrev pub table_answer : FunctionsAnswer table_calls table_extensions.arity
table_answer f vs e = (table f, refl)

pub shown : (is_partial : Bool) (n : ℕ) (t : Term) (a : Answer) →
    (total (table_setting is_partial) table_calls table_answer n t).0 ≡ a → a ≢ limit → Shown is_partial t a
shown is_partial n t a e ne = (
  ne,
  n,
  subst (Runs (table_setting is_partial) table_calls n t) e
      (total (table_setting is_partial) table_calls table_answer n t).1,
)
