-- What two sets of policies answer to many requests, and what is printed of it.
use Rattle.std.specs.Prelude.{◌≡◌, ℕ, Bool, true, false, List, map, string_bytes}
use Rattle.std.specs.Str.Lines.{lines}
use Rattle.cedar_model.specs.Terms.{Text}
use Rattle.cedar_model.specs.World as world
use Rattle.cedar_model.specs.Rules.{StoredCalls}
use Rattle.cedar_layers.specs.declared.policies.entities.Entities.{Entities}
use Rattle.cedar_layers.specs.declared.policies.policy_set.PolicySet.{PolicySet}
use Rattle.cedar_expectations.specs.Answers.{AnswerView, answer_view}
use Rattle.cedar_expectations.specs.Compared.{ComparisonView, compared, AreEach, lines_of, status_of}
use Rattle.cedar_expectations.specs.Compared.{is_any_refused, is_any_different}
use Rattle.cedar_expectations.specs.declared.comparisons.Comparisons.{Comparisons}
use Rattle.cedar_log.specs.Reading.{asked_of}
use Rattle.cedar_cli.specs.declared.asked.Asked.{Asked}
use Rattle.cedar_cli.specs.declared.asked.Source.{Source}
use Rattle.cedar_cli.specs.declared.asked.Way.{Way}
use Rattle.cedar_cli.specs.declared.decisions.Printed.{Printed}
use Rattle.cedar_cli.specs.Batch.{asking, IsRefusalLine}
use Rattle.cedar_cli.specs.Questions.{IsKnownStore}
use Rattle.cedar_cli.specs.Reasons.{ArePoliciesUnread, IsKnownStoreUnread, IsRequestUnread}
use Rattle.cedar_cli.specs.Standard.{standard_extensions, standard_calls, standard_knowledge}
use Rattle.cedar_regression.specs.declared.answers.Both.{Both}
use Rattle.cedar_regression.specs.Answered.{IsAnswerOver, IsAnswerOf}

-- ---- one line

-- both policies answer the request of the line, which has this number: what differs is printed, if anything does
pub record IsCompared (Old New : Asked → AnswerView → Type 0) (q : Asked) (n : ℕ) (line : Text) (c : ComparisonView)
    : Type 0 where
  pub request : Source
  pub is_line : request.text.now ≡ line
  pub old : AnswerView
  pub new : AnswerView
  pub old_is : Old (asking q request) old
  pub new_is : New (asking q request) new
  pub is_comparison : c ≡ compared n old new

-- the request of the line is refused, and that is printed
pub record IsRefused (Unread : Asked → Type 0) (q : Asked) (n : ℕ) (line : Text) (c : ComparisonView) : Type 0 where
  pub request : Source
  pub is_line : request.text.now ≡ line
  pub unread : Unread (asking q request)
  pub is_printed : IsRefusalLine n c.line
  pub same : c.is_different ≡ false

abbrev pub IsLineAs : Bool → (Asked → AnswerView → Type 0) → (Asked → AnswerView → Type 0) → (Asked → Type 0) → Asked
    → ℕ → Text → ComparisonView → Type 0
IsLineAs false Old New Unread q n line c = IsCompared Old New q n line c
IsLineAs true Old New Unread q n line c = IsRefused Unread q n line c

-- what is printed of the line, which has this number
abbrev pub IsLine : (Asked → AnswerView → Type 0) → (Asked → AnswerView → Type 0) → (Asked → Type 0) → Asked → ℕ
    → Text → ComparisonView → Type 0
IsLine Old New Unread q n line c = IsLineAs c.is_refused Old New Unread q n line c

-- ---- all lines

-- what is printed of the lines stands one behind the other, and the exit status says whether one is refused, and whether
-- one is answered differently
pub record AreComparedAs (Old New : Asked → AnswerView → Type 0) (Unread : Asked → Type 0) (q : Asked) (ls : List Text)
    (p : Printed) : Type 0 where
  pub comparisons : List ComparisonView
  pub each : AreEach (IsLine Old New Unread q) 1 ls comparisons
  pub output_is : string_bytes p.output ≡ lines_of comparisons
  pub status_is : p.status ≡ status_of (is_any_refused comparisons) (is_any_different comparisons)

-- what the lines of the text ask, each a request, or a line of a log, which has one
abbrev pub asked_lines : Text → List Text
asked_lines requests = map asked_of (lines requests)

-- the whole: for each line of the text, what the policies of the two texts answer to its request is compared
abbrev pub AreCompared : Text → Text → Asked → Text → Way → Printed → Type 0
AreCompared old new q requests w p =
    AreComparedAs (IsAnswerOf old w) (IsAnswerOf new w) (IsRequestUnread standard_extensions standard_calls) q
    (asked_lines requests) p

-- the policies of one of the texts can't be read, or the entities
pub data AreUncompared (old new : Text) (q : Asked) : Type 0 where
  old_unread : ArePoliciesUnread standard_knowledge old → AreUncompared old new q
  new_unread : ArePoliciesUnread standard_knowledge new → AreUncompared old new q
  entities_unread : IsKnownStoreUnread standard_extensions standard_calls q.entities q.max_ancestors
      → AreUncompared old new q

-- ---- for private clauses

-- both answers to what is asked, of these policies over this store
pub record AreBothOver (X : world.Extensions) (calls : StoredCalls) (old new : PolicySet) (s : Entities) (w : Way)
    (q : Asked) (b : Both) : Type 0 where
  pub old_is : IsAnswerOver X calls old s w q (answer_view b.old)
  pub new_is : IsAnswerOver X calls new s w q (answer_view b.new)

-- what is printed of one line, of these policies over this store
abbrev pub IsLineOver : world.Extensions → StoredCalls → PolicySet → PolicySet → Entities → Asked → Way → ℕ → Text
    → ComparisonView → Type 0
IsLineOver X calls old new s q w n line c =
    IsLine (IsAnswerOver X calls old s w) (IsAnswerOver X calls new s w) (IsRequestUnread X calls) q n line c

-- of all of them, before that is printed
pub record AreLinesOver (X : world.Extensions) (calls : StoredCalls) (old new : PolicySet) (s : Entities) (q : Asked)
    (w : Way) (ls : List Text) (all : Comparisons) : Type 0 where
  pub comparisons : List ComparisonView
  pub each : AreEach (IsLineOver X calls old new s q w) 1 ls comparisons
  pub output_is : string_bytes all.output ≡ lines_of comparisons
  pub refused_is : all.is_any_refused ≡ is_any_refused comparisons
  pub different_is : all.is_any_different ≡ is_any_different comparisons

-- the same, printed
abbrev pub AreComparedOver : world.Extensions → StoredCalls → PolicySet → PolicySet → Entities → Asked → Way
    → List Text → Printed → Type 0
AreComparedOver X calls old new s q w ls p =
    AreComparedAs (IsAnswerOver X calls old s w) (IsAnswerOver X calls new s w) (IsRequestUnread X calls) q ls p

-- there is the closed store that is given
pub record AreComparedBy (X : world.Extensions) (calls : StoredCalls) (old new : PolicySet) (q : Asked) (requests : Text)
    (w : Way) (p : Printed) : Type 0 where
  pub entities : Entities
  pub store_is : IsKnownStore X calls q entities
  pub compared : AreComparedOver X calls old new entities q w (asked_lines requests) p
