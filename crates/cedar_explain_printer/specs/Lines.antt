-- The lines of an explanation, in order.
use Rattle.std.specs.Prelude.{◌++◌, ◌==◌, Bool, cond, List, [], ◌∷◌, length, map, flat_map, Option, None, string_bytes, codes}
use Rattle.cedar_model.specs.Terms.{Text}
use Rattle.cedar_names.specs.declared.names.Loc.{Loc}
use Rattle.cedar_layers.specs.Policies.{policy_view, policy_location}
use Rattle.cedar_explain.specs.declared.lacks.Lack.{Lack}
use Rattle.cedar_explain.specs.declared.parts.Part.{Part}
use Rattle.cedar_explain.specs.declared.requests.ExplainedPolicy.{ExplainedPolicy}
use Rattle.cedar_explain.specs.Views.{part_told, part_place, explained_parts, told_outcome}
use Rattle.cedar_explain.specs.Requests.{explained_policy, explanation_of, its_view}
use Rattle.cedar_explain.specs.Lacking.{lacking_policy, lacking_part, lacking_truth}
use Rattle.cedar_explain_printer.specs.declared.lines.Line as lines
use Rattle.cedar_explain_printer.specs.declared.lines.LineKind.{LineKind}
use Rattle.cedar_explain_printer.specs.declared.lines.LineKind.TheVariants as kinds
use Rattle.cedar_explain_printer.specs.Texts.{part_text, policy_text, lack_text}

-- what it is of, where that stands in the text of the policies, and what it says
pub record Line : Type 0 where
  pub kind : LineKind
  pub place : Option Loc
  pub text : Text

abbrev pub line_view : lines.Line → Line
line_view l = record { kind = l.kind; place = l.place; text = string_bytes l.text }

abbrev pub heading_line : Text → Line
heading_line t = record { kind = kinds.Heading; place = None; text = t }

-- ---- what each policy came to

abbrev pub part_line : Bool → Part → Line
part_line has_values p =
    record { kind = kinds.Part; place = part_place p; text = part_text has_values (part_told p) }

abbrev pub told_policy : ExplainedPolicy → Text
told_policy x = policy_text (its_view x) (told_outcome (explanation_of x))

abbrev pub policy_line : ExplainedPolicy → Line
policy_line x = record { kind = kinds.Policy; place = policy_location (explained_policy x); text = told_policy x }

-- the policy, and below it the parts that decide it
abbrev pub policy_lines : Bool → ExplainedPolicy → List Line
policy_lines has_values x = policy_line x ∷ map (part_line has_values) (explained_parts (explanation_of x))

-- ---- what a permit lacks

abbrev pub told_lack : Lack → Text
told_lack l = lack_text (policy_view (lacking_policy l)) (lacking_truth l) (part_told (lacking_part l)).term

abbrev pub lack_line : Lack → Line
lack_line l = record { kind = kinds.Policy; place = part_place (lacking_part l); text = told_lack l }

abbrev pub some_lack_lines : List Lack → List Line
some_lack_lines ls = heading_line (codes "what alone keeps a permit from applying:") ∷ map lack_line ls

-- none, where nothing is lacking
abbrev pub lack_lines : List Lack → List Line
lack_lines ls = cond (length ls == 0) [] (some_lack_lines ls)

-- ---- all of it: first what is lacking, then each policy

abbrev pub all_lines : Bool → List Lack → List ExplainedPolicy → List Line
all_lines has_values ls xs =
    lack_lines ls
    ++ (heading_line (codes "what each policy came to, and why:") ∷ flat_map (policy_lines has_values) xs)
