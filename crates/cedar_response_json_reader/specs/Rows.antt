-- What the JSON of a response says of its policies.
use Rattle.std.specs.Prelude.{◌≡◌, ℕ, ◌+◌, Bool, true, false, not, cond, ◌&&◌, List, [], ◌∷◌, map, Option, Some, None}
use Rattle.std.specs.Prelude.{if◌then◌else◌, bytes_eq, Ok, codes}
use Rattle.std.specs.Option.{option_and_then}
use Rattle.json.specs.Json.{Json, Items, no_items, item}
use Rattle.json.specs.Find.{as_array, as_str}
use Rattle.cedar_model.specs.Terms.{Text, Literal, bool_literal, long_literal, text_literal, entity_literal, Term}
use Rattle.cedar_model.specs.Shapes.{has_unknown}
use Rattle.cedar_model.specs.Responses.{Row, Reported, reported_true, reported_false, reported_residual}
use Rattle.cedar_model.specs.Refusals.{first_repeated}
use Rattle.cedar_functions.specs.Functions.{Knowledge}
use Rattle.cedar_layers.specs.Policies.{PolicyView, policy_view}
use Rattle.cedar_layers.specs.declared.policies.policy.Policy.{Policy}
use Rattle.cedar_policy_json_reader.specs.Paths.{at_key, at_index}
use Rattle.cedar_policy_json_reader.specs.Policies.{policy_said}
use Rattle.cedar_response_json_reader.specs.declared.errors.ResponseRefusal.TheVariants as reasons
use Rattle.cedar_response_json_reader.specs.declared.reports.Report.{Report}
use Rattle.cedar_response_json_reader.specs.declared.reports.Report.TheVariants as reports
use Rattle.cedar_response_json_reader.specs.Refusals.{Said, refused, under, before, both_said, made_of, and_then, unless}
use Rattle.cedar_response_json_reader.specs.Refusals.{or_refused, of_policies}
use Rattle.cedar_response_json_reader.specs.Requests.{literal_in}
use Rattle.cedar_response_json_reader.specs.Shapes.{over_members, part_at, text_said}

-- ---- what is reported

abbrev pub report_named : Text → Option Report
report_named t =
    if bytes_eq t (codes "satisfied") then Some reports.Satisfied else (
    if bytes_eq t (codes "unsatisfied") then Some reports.Unsatisfied else (
    if bytes_eq t (codes "erring") then Some reports.Erring else (
    if bytes_eq t (codes "residual") then Some reports.Residual else
    None)))

abbrev pub report_said : Json → Said Report
report_said j = or_refused reasons.NotAReport (option_and_then report_named (as_str j))

-- what is reported so of a policy whose condition is this
abbrev pub reported_by : Report → Term → Reported
reported_by reports.Satisfied t = reported_true
reported_by reports.Unsatisfied t = reported_false false
reported_by reports.Erring t = reported_false true
reported_by reports.Residual t = reported_residual t

-- the row of a policy that is reported so
abbrev pub row_of : Report × PolicyView → Row
row_of p = record {
  id = p.1.id;
  effect = p.1.effect;
  annotations = p.1.annotations;
  reported = reported_by p.0 p.1.when_clause;
}

-- a policy that is held, with what is reported of it
abbrev pub held : Report × Policy → Report × PolicyView
held p = (p.0, policy_view p.1)

-- its row
abbrev pub held_row : Report × Policy → Row
held_row p = row_of (held p)

-- the row of a policy whose condition is this truth
abbrev pub truth_row : Bool → PolicyView → Row
truth_row b p = record {
  id = p.id;
  effect = p.effect;
  annotations = p.annotations;
  reported = cond b reported_true (reported_false false);
}

-- the policy of what is held
abbrev pub view_of : Report × Policy → PolicyView
view_of p = policy_view p.1

-- the first id that comes twice
abbrev pub repeated_in : List (Report × Policy) → Option Text
repeated_in ps = first_repeated (map (λ r. r.id) (map held_row ps))

-- ---- the policy is carried on as it is reported

abbrev pub is_bool_literal : Bool → Literal → Bool
is_bool_literal b (bool_literal c) = cond b c (not c)
is_bool_literal b (long_literal n) = false
is_bool_literal b (text_literal t) = false
is_bool_literal b (entity_literal e) = false

abbrev pub is_bool_in : Bool → Option Literal → Bool
is_bool_in b None = false
is_bool_in b (Some l) = is_bool_literal b l

-- whether an expression is this truth
abbrev pub is_bool : Bool → Term → Bool
is_bool b t = is_bool_in b (literal_in t)

-- it has no scope: its constraints are all `true`
abbrev pub has_no_scope : PolicyView → Bool
has_no_scope p =
    is_bool true p.principal_constraint
    && (is_bool true p.action_constraint && is_bool true p.resource_constraint)

-- its condition is `true` where it is satisfied, `false` where it is not, and else holds an unknown
abbrev pub fits : Report → Term → Bool
fits reports.Satisfied t = is_bool true t
fits reports.Unsatisfied t = is_bool false t
fits reports.Erring t = is_bool false t
fits reports.Residual t = has_unknown t

abbrev pub carried_on : Report × PolicyView → Said (Report × PolicyView)
carried_on p =
    if has_no_scope p.1 then (if fits p.0 p.1.when_clause then Ok p else refused reasons.NotAsReported)
    else refused reasons.HasAScope

-- ---- one row, and all of them

-- the rows, where no id comes twice
abbrev pub once : Option Text → List Row → Said (List Row)
once None rows = Ok rows
once (Some id) rows = refused reasons.RepeatedId

-- no id comes twice
abbrev pub all_once : List Row → Said (List Row)
all_once rows = once (first_repeated (map (λ r. r.id) rows)) rows

module _ (fs : Knowledge) (n : ℕ) where
  abbrev pub policy_at : Text → Json → Said PolicyView
  policy_at id j = part_at (codes "policy") (λ p. of_policies (policy_said fs n id p)) j

  abbrev pub report_and_policy : Text → Json → Said (Report × PolicyView)
  report_and_policy id j =
      and_then (λ p. under (at_key (codes "policy")) (carried_on p))
      (both_said (part_at (codes "reported") report_said j) (policy_at id j))

  abbrev pub row_parts : Json → Said (Report × PolicyView)
  row_parts j = and_then (λ id. report_and_policy id j) (part_at (codes "id") text_said j)

  -- a policy: its id, what is reported of it and how it is carried on, and no other member
  abbrev pub row_said : Json → Said Row
  row_said j = made_of row_of (unless (over_members 3 j) (row_parts j))

  -- rows in order, the first of this index
  abbrev pub rows_from : ℕ → Items → Said (List Row)
  rows_from i no_items = Ok []
  rows_from i (item j js) = before (under (at_index i) (row_said j)) (rows_from (i + 1) js)

  abbrev pub rows_in : Option Items → Said (List Row)
  rows_in None = refused reasons.NotAnArray
  rows_in (Some js) = rows_from 0 js

  -- the rows that are listed
  abbrev pub listed_rows : Json → Said (List Row)
  listed_rows j = rows_in (as_array j)

  abbrev pub rows_said : Json → Said (List Row)
  rows_said j = and_then all_once (listed_rows j)
