-- What `check-parse --strict` tells: policies that can be read, but can't be meant.
use Rattle.std.specs.Prelude.{◌≡◌, ◌++◌, ◌==◌, ◌&&◌, ⊤, ℕ, Bool, true, false, cond, not, List, [], ◌∷◌, length}
use Rattle.std.specs.Prelude.{Option, None, Some, is_some, option_map, codes, string_bytes}
use Rattle.std.specs.Fmt.{decimal}
use Rattle.cedar_model.specs.Terms.{Text}
use Rattle.cedar_names.specs.declared.names.Loc.{Loc}
use Rattle.cedar_layers.specs.declared.policies.policy.Policy.{Policy}
use Rattle.cedar_layers.specs.Policies.{policy_view, policy_location, condition_term}
use Rattle.cedar_layers.specs.PolicySets.{stored_policies}
use Rattle.cedar_filter.specs.Simplifying.{simplified}
use Rattle.cedar_text_parser.specs.declared.policies.ParsedPolicies.{ParsedPolicies}
use Rattle.cedar_unsatisfiable.specs.Alike.{say_the_same}
use Rattle.cedar_unsatisfiable.specs.Erring.{shows_erring, ErrsInScope}
use Rattle.cedar_unsatisfiable.specs.Late.{late_test}
use Rattle.cedar_unsatisfiable.specs.Showing.{shows_never, IsNeverSatisfied}
use Rattle.cedar_cli.specs.declared.asked.Source.{Source}
use Rattle.cedar_cli.specs.declared.decisions.Printed.{Printed}
use Rattle.cedar_cli.specs.declared.strictness.Finding as findings
use Rattle.cedar_cli.specs.declared.strictness.Finding.TheVariants as kinds
use Rattle.cedar_cli.specs.Named.{policy_name}
use Rattle.cedar_cli.specs.Noted.{place_at}
use Rattle.cedar_cli.specs.Questions.{ArePoliciesFor}
use Rattle.cedar_cli.specs.Visible.{IsVisible}

-- ---- a line

abbrev pub noted : ℕ × ℕ → Text
noted p = codes ": line " ++ (decimal p.0 ++ (codes ", column " ++ decimal p.1))

-- the line and the column of a place, if it is known
abbrev pub noted_text : Text → Option Loc → Text
noted_text text None = []
noted_text text (Some l) = noted (place_at text l.start)

-- what is told of the policy, of the text of this name: that these words are so of it
abbrev pub found_text : Source → Policy → Text → Text
found_text s p words =
    s.name.now
    ++ (noted_text s.text.now (policy_location p)
    ++ (codes ": the policy `" ++ (policy_name (policy_view p) ++ (codes "`" ++ words))))

-- a warning, as texts are told, on a line
pub record IsWarning (text line : Text) : Type 0 where
  pub told : Text
  pub visible : IsVisible text told
  pub line_is : line ≡ codes "warning: " ++ (told ++ codes "\n")

abbrev pub IsFoundLine : Source → Policy → Text → Text → Type 0
IsFoundLine s p words line = IsWarning (found_text s p words) line

-- ---- what is found of one policy

-- that it applies in no world; that it errs wherever its scope holds; that it tests an attribute after it read it
pub data Finding : Type 0 where
  never : Finding
  erring : Finding
  late : Finding

abbrev pub words_if : Bool → Text → Option Text
words_if b words = cond b (Some words) None

abbrev pub late_words : Text → Text
late_words k = codes " tests the attribute `" ++ (k ++ codes "` after it read it")

-- the words that are told of it, if its text shows it
abbrev pub words_found : Finding → Policy → Option Text
words_found never p =
    words_if (shows_never (simplified (condition_term (policy_view p)))) (codes " applies in no world")
words_found erring p = words_if (shows_erring (policy_view p)) (codes " errs wherever its scope holds")
words_found late p = option_map late_words (late_test (condition_term (policy_view p)))

-- what is so where that is shown: it is satisfied in no world; it errs in every world in which its scope is satisfied; the
-- third is said of its text alone
abbrev pub IsMeant : Finding → Policy → Type 0
IsMeant never p = IsNeverSatisfied (condition_term (policy_view p))
IsMeant erring p = ErrsInScope (policy_view p)
IsMeant late p = ⊤

abbrev pub IsLineWhen : Option Text → Source → Policy → Text → Type 0
IsLineWhen None s p line = line ≡ []
IsLineWhen (Some words) s p line = IsFoundLine s p words line

-- the policy is told exactly if its text shows it; and then it is so
pub record IsLineIf (f : Finding) (s : Source) (p : Policy) (line : Text) : Type 0 where
  pub meant : is_some (words_found f p) ≡ true → IsMeant f p
  pub line_is : IsLineWhen (words_found f p) s p line

-- those of these policies, one behind the other
abbrev pub AreFindingLines : Finding → Source → List Policy → Text → Type 0
AreFindingLines f s [] t = t ≡ []
AreFindingLines f s (p ∷ ps) t =
    (line : Text) × (rest : Text) × IsLineIf f s p line × AreFindingLines f s ps rest × (t ≡ line ++ rest)

-- those of the policies, and then those of the templates, whatever these are linked to
pub record AreFindings (f : Finding) (s : Source) (parsed : ParsedPolicies) (t : Text) : Type 0 where
  pub of_policies : Text
  pub of_templates : Text
  pub policies_are : AreFindingLines f s (stored_policies parsed.policies) of_policies
  pub templates_are : AreFindingLines f s parsed.templates.items of_templates
  pub whole : t ≡ of_policies ++ of_templates

-- ---- policies that say the same

-- the first of these that says the same as the policy
abbrev pub first_alike : List Policy → Policy → Option Policy
first_alike [] q = None
first_alike (p ∷ ps) q = cond (say_the_same (policy_view p) (policy_view q)) (Some p) (first_alike ps q)

abbrev pub alike_words : Policy → Text
alike_words p = codes " says the same as the policy `" ++ (policy_name (policy_view p) ++ codes "`")

-- a policy is told exactly if one before says the same, and the first that does
abbrev pub IsAlikeLine : Option Policy → Source → Policy → Text → Type 0
IsAlikeLine None s q line = line ≡ []
IsAlikeLine (Some p) s q line = IsFoundLine s q (alike_words p) line

-- those of policies in order, behind these
abbrev pub AreAlikeLines : Source → List Policy → List Policy → Text → Type 0
AreAlikeLines s before [] t = t ≡ []
AreAlikeLines s before (q ∷ qs) t =
    (line : Text) × (rest : Text) × IsAlikeLine (first_alike before q) s q line
    × AreAlikeLines s (before ++ q ∷ []) qs rest × (t ≡ line ++ rest)

-- those of the policies, and then those of the templates
pub record AreAlike (s : Source) (parsed : ParsedPolicies) (t : Text) : Type 0 where
  pub of_policies : Text
  pub of_templates : Text
  pub policies_are : AreAlikeLines s [] (stored_policies parsed.policies) of_policies
  pub templates_are : AreAlikeLines s [] parsed.templates.items of_templates
  pub whole : t ≡ of_policies ++ of_templates

-- ---- what is answered

-- each finding in turn, and then the policies that say the same
pub record AreAllTold (s : Source) (parsed : ParsedPolicies) (t : Text) : Type 0 where
  pub never_told : Text
  pub erring_told : Text
  pub late_told : Text
  pub alike_told : Text
  pub never_are : AreFindings never s parsed never_told
  pub erring_are : AreFindings erring s parsed erring_told
  pub late_are : AreFindings late s parsed late_told
  pub alike_are : AreAlike s parsed alike_told
  pub whole : t ≡ ((never_told ++ erring_told) ++ late_told) ++ alike_told

-- 1 if warnings are denied and there is one
abbrev pub strict_status : Bool → Text → ℕ
strict_status is_denied warnings = cond (is_denied && not (length warnings == 0)) 1 0

-- the text's tokens derive policies, of which this is told, and nothing is printed
pub record IsStrict (s : Source) (has_unknowns is_denied : Bool) (p : Printed) : Type 0 where
  pub parsed : ParsedPolicies
  pub policies_are : ArePoliciesFor has_unknowns s.text.now parsed
  pub told : AreAllTold s parsed (string_bytes p.warnings)
  pub output_is : string_bytes p.output ≡ []
  pub status_is : p.status ≡ strict_status is_denied (string_bytes p.warnings)

-- ---- for private clauses

abbrev pub finding_view : findings.Finding → Finding
finding_view kinds.Never = never
finding_view kinds.Erring = erring
finding_view kinds.Late = late

-- lines are put behind what is there
abbrev pub Adds : (Text → Type 0) → Text → Text → Type 0
Adds Are before after = (lines : Text) × Are lines × (after ≡ before ++ lines)
