-- Many requests, a line each: what is answered to each is what `authorize` answers to it alone.
use Rattle.std.specs.Prelude.{◌≡◌, ⊤, ◌++◌, ◌||◌, ◌+◌, ℕ, Bool, true, false, cond, List, [], ◌∷◌, flat_map, Some}
use Rattle.std.specs.Prelude.{All, codes, string_bytes}
use Rattle.std.specs.Str.Iter.{LacksByte}
use Rattle.std.specs.Str.Lines.{lines}
use Rattle.json.specs.Json.{Json, string}
use Rattle.json.specs.Print.{print}
use Rattle.json.specs.Tree.{json_tokens}
use Rattle.cedar_model.specs.Terms.{Text}
use Rattle.cedar_model.specs.World as world
use Rattle.cedar_model.specs.Rules.{StoredCalls}
use Rattle.cedar_layers.specs.declared.policies.entities.Entities.{Entities}
use Rattle.cedar_layers.specs.declared.policies.policy_set.PolicySet.{PolicySet}
use Rattle.cedar_json_writer.specs.Texts.{object_of}
use Rattle.cedar_cli.specs.declared.asked.Asked.{Asked}
use Rattle.cedar_cli.specs.declared.asked.Source.{Source}
use Rattle.cedar_cli.specs.declared.asked.Way.{Way}
use Rattle.cedar_cli.specs.declared.batch.Answered.{Answered}
use Rattle.cedar_cli.specs.declared.decisions.Printed.{Printed}
use Rattle.cedar_cli.specs.declared.refusal.Refusal.{Refusal}
use Rattle.cedar_cli.specs.declared.refusal.Refusal.TheVariants as refusals
use Rattle.cedar_cli.specs.Authorized.{IsAnsweredOver, IsAuthorized}
use Rattle.cedar_cli.specs.Documents.{count_json}
use Rattle.cedar_cli.specs.Questions.{IsKnownStore}
use Rattle.cedar_cli.specs.Reasons.{ArePoliciesUnread, IsKnownStoreUnread, IsRequestUnread}
use Rattle.cedar_cli.specs.Standard.{standard_extensions, standard_calls, standard_knowledge}

-- ---- one line

-- the same question of the request that this JSON says
abbrev pub asking : Asked → Source → Asked
asking q s = record q { request = Some s }

-- the same way, with the answer as JSON
abbrev pub in_json : Way → Way
in_json w = record w { is_json = true }

-- the answer to a line, with its end, and whether it is a refusal
pub record LineAnswer : Type 0 where
  pub line : Text
  pub is_refused : Bool

-- what is printed of the request of the line alone
pub record IsDecision (Answers : Asked → Printed → Type 0) (q : Asked) (line answer : Text) : Type 0 where
  pub request : Source
  pub is_line : request.text.now ≡ line
  pub alone : Printed
  pub answers : Answers (asking q request) alone
  pub is_answer : answer ≡ string_bytes alone.output

-- an object of why there is no decision, and of the number of the line
abbrev pub refusal_json : Text → ℕ → Json
refusal_json why n = object_of ((codes "error", string why) ∷ (codes "line", count_json n) ∷ [])

-- it stands on a line
abbrev pub IsRefusalLine : ℕ → Text → Type 0
IsRefusalLine n answer = (why : Text) × (answer ≡ print (json_tokens (refusal_json why n)) ++ codes "\n")

-- the request of the line is refused alone
pub record IsRefusal (Unread : Asked → Type 0) (q : Asked) (n : ℕ) (line answer : Text) : Type 0 where
  pub request : Source
  pub is_line : request.text.now ≡ line
  pub unread : Unread (asking q request)
  pub is_answer : IsRefusalLine n answer

abbrev pub IsAnswerAs : Bool → (Asked → Printed → Type 0) → (Asked → Type 0) → Asked → ℕ → Text → Text → Type 0
IsAnswerAs false Answers Unread q n line answer = IsDecision Answers q line answer
IsAnswerAs true Answers Unread q n line answer = IsRefusal Unread q n line answer

-- the answer to the line, which has this number
abbrev pub IsAnswer : (Asked → Printed → Type 0) → (Asked → Type 0) → Asked → ℕ → Text → LineAnswer → Type 0
IsAnswer Answers Unread q n line a = IsAnswerAs a.is_refused Answers Unread q n line a.line

-- ---- all lines

-- one answer a line, in order: the first line has this number
abbrev pub AreAnswers : (Asked → Printed → Type 0) → (Asked → Type 0) → Asked → ℕ → List Text → List LineAnswer
    → Type 0
AreAnswers Answers Unread q n [] [] = ⊤
AreAnswers Answers Unread q n [] (a ∷ more) = ⊥
AreAnswers Answers Unread q n (line ∷ rest) [] = ⊥
AreAnswers Answers Unread q n (line ∷ rest) (a ∷ more) =
    IsAnswer Answers Unread q n line a × AreAnswers Answers Unread q (n + 1) rest more

-- a line is refused
abbrev pub is_any_refused : List LineAnswer → Bool
is_any_refused [] = false
is_any_refused (a ∷ more) = a.is_refused || is_any_refused more

-- the answers are printed one behind the other, and the exit status says whether a line is refused
pub record AreAnswered (Answers : Asked → Printed → Type 0) (Unread : Asked → Type 0) (q : Asked) (ls : List Text)
    (p : Printed) : Type 0 where
  pub answers : List LineAnswer
  pub each : AreAnswers Answers Unread q 1 ls answers
  pub output_is : string_bytes p.output ≡ flat_map (λ a. a.line) answers
  pub status_is : p.status ≡ cond (is_any_refused answers) 1 0

-- the text is one line, with its end
abbrev pub IsOneLine : Text → Type 0
IsOneLine t = (line : Text) × LacksByte 10 line × (t ≡ line ++ codes "\n")

-- the whole: for each line of the text what `authorize` prints of its request alone, as JSON, is printed on one line
pub record AreAuthorized (text : Text) (q : Asked) (requests : Text) (w : Way) (p : Printed) : Type 0 where
  pub answered : AreAnswered (λ r. IsAuthorized text r (in_json w)) (IsRequestUnread standard_extensions standard_calls) q
      (lines requests) p
  pub one_line_each : All (λ (a : LineAnswer). IsOneLine a.line) answered.answers

-- the policies can't be read, or the entities
pub data AreUnauthorized (text : Text) (q : Asked) : Type 0 where
  unread_policies : ArePoliciesUnread standard_knowledge text → AreUnauthorized text q
  unread_entities : IsKnownStoreUnread standard_extensions standard_calls q.entities q.max_ancestors
      → AreUnauthorized text q

-- ---- for private clauses

-- something is told, so that memory did not run out
abbrev pub IsTold : Refusal → Type 0
IsTold refusals.Memory = ⊥
IsTold (refusals.Told lines) = ⊤

abbrev pub line_of_answer : Answered → LineAnswer
line_of_answer a = record { line = string_bytes a.line; is_refused = a.is_refused }

-- of these policies, of this text, and this store: the answer to one line
abbrev pub IsLineOver : world.Extensions → StoredCalls → Text → PolicySet → Entities → Asked → Way → ℕ → Text
    → LineAnswer → Type 0
IsLineOver X calls text ps s q w n line a =
    IsAnswer (λ r. IsAnsweredOver X calls text ps s r w) (IsRequestUnread X calls) q n line a

-- to all of them
abbrev pub AreAnsweredOver : world.Extensions → StoredCalls → Text → PolicySet → Entities → Asked → Way → List Text
    → Printed → Type 0
AreAnsweredOver X calls text ps s q w ls p =
    AreAnswered (λ r. IsAnsweredOver X calls text ps s r w) (IsRequestUnread X calls) q ls p

-- of these policies: there is the closed store that is given
pub record AreAnsweredBy (X : world.Extensions) (calls : StoredCalls) (text : Text) (ps : PolicySet) (q : Asked)
    (requests : Text) (w : Way) (p : Printed) : Type 0 where
  pub entities : Entities
  pub store_is : IsKnownStore X calls q entities
  pub answered : AreAnsweredOver X calls text ps entities q w (lines requests) p
