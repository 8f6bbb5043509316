-- Worked examples: needs of expressions, and decisions.
use Rattle.std.specs.Prelude.{◌≡◌, true, List, [], ◌∷◌, codes}
use Rattle.cedar_model.specs.Terms.{not_operator, Term, both, unary, get_attribute, record_of, fields_of}
use Rattle.cedar_model.specs.Failures.{answers_bool, answers_residual}
use Rattle.cedar_model.specs.Rules.{Runs, Exceeds}
use Rattle.cedar_model.specs.Policies.{permit, forbid, satisfied, erring, Judged, allow, deny, decision, reasons}
use Rattle.cedar_model.specs.examples.Setting.{bool, x, some_setting, some_calls}

-- `!(!true)`
abbrev pub two_nots : Term
two_nots = unary not_operator (unary not_operator (bool true))

-- a part of a record that is a residual
abbrev pub a_projection : Term
a_projection = get_attribute (record_of (fields_of ((codes "a", x) ∷ []))) (codes "a")

-- at three levels an answer, at two the limit
abbrev pub NotsNeedThree : Type 0
NotsNeedThree =
    Runs (some_setting true) some_calls 3 two_nots (answers_bool true)
    × Exceeds (some_setting true) some_calls two_nots 2

-- best effort hands the limit up
abbrev pub BestEffortHandsUp : Type 0
BestEffortHandsUp = Exceeds (some_setting true) some_calls (both x two_nots) 3

-- a projected part is one level deeper
abbrev pub ProjectionNeedsThree : Type 0
ProjectionNeedsThree =
    Runs (some_setting true) some_calls 3 a_projection (answers_residual x)
    × Exceeds (some_setting true) some_calls a_projection 2

-- a satisfied permit beside erring policies
abbrev pub three_judged : List Judged
three_judged =
    record { id = codes "1"; effect = permit; verdict_of = satisfied } ∷ record {
      id = codes "2";
      effect =
          permit;
      verdict_of = erring;
    } ∷ record { id = codes "3"; effect = forbid; verdict_of = erring } ∷ []

abbrev pub ErringAreSkipped : Type 0
ErringAreSkipped = (decision three_judged ≡ allow) × (reasons three_judged ≡ codes "1" ∷ [])

-- and a satisfied forbid
abbrev pub four_judged : List Judged
four_judged = record { id = codes "4"; effect = forbid; verdict_of = satisfied } ∷ three_judged

abbrev pub ForbidDenies : Type 0
ForbidDenies = (decision four_judged ≡ deny) × (reasons four_judged ≡ codes "4" ∷ [])

-- no policies
abbrev pub NothingDenies : Type 0
NothingDenies = (decision [] ≡ deny) × (reasons [] ≡ [])
