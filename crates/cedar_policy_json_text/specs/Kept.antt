-- Texts that are read as the policies that JSON says.
use Rattle.std.specs.Prelude.{◌≡◌, ⊤, ℕ, Bool, true, false, ◌&&◌, List, [], ◌∷◌, map, None}
use Rattle.std.specs.Borrow.{Bor}
use Rattle.cedar_model.specs.Terms.{Text}
use Rattle.cedar_functions.specs.Functions.{Knowledge}
use Rattle.cedar_layers.specs.Policies.{PolicyView, policy_view}
use Rattle.cedar_layers.specs.PolicySets.{policies_view}
use Rattle.cedar_layers.specs.declared.policies.policy.Policy.{Policy}
use Rattle.cedar_text_parser.specs.declared.policies.ParsedPolicies.{ParsedPolicies}
use Rattle.cedar_text_parser.specs.PolicyReading.{AreAllRead}
use Rattle.cedar_unsatisfiable.specs.Alike.{say_the_same}
use Rattle.cedar_policy_json_reader.specs.JsonTexts.{depth_for, Says, IsTextRefusal}
use Rattle.cedar_policy_set_reader.specs.PolicySets.{PolicySetView, policy_set_said}
pub use Rattle.cedar_policy_json_text.specs.Names.{annotated}
use Rattle.cedar_policy_json_text.specs.Names.{goes_by, first_shared, IsShared}
use Rattle.cedar_policy_json_text.specs.Placed.{placed_view, without_linked}
use Rattle.cedar_policy_json_text.specs.declared.errors.PolicyTextError.{PolicyTextError}
use Rattle.cedar_policy_json_text.specs.declared.errors.PolicyTextError.TheVariants as errors

-- ---- a policy

-- whether the second policy has the effect, the scope and the condition of the first, with the entities in its slots, and
-- is called as that is
abbrev pub is_kept : PolicyView → PolicyView → Bool
is_kept p q = say_the_same (placed_view p) q && goes_by p q

-- policies that are lent
abbrev pub lent : List (Bor Policy) → List PolicyView
lent ps = map (λ p. policy_view p.now) ps

-- the same of each policy in order, and there are as many
abbrev pub are_kept : List PolicyView → List PolicyView → Bool
are_kept [] [] = true
are_kept [] (q ∷ qs) = false
are_kept (p ∷ ps) [] = false
are_kept (p ∷ ps) (q ∷ qs) = is_kept p q && are_kept ps qs

-- the same of the policies and of the templates
abbrev pub are_all_kept : PolicySetView → PolicySetView → Bool
are_all_kept s t = are_kept s.policies t.policies && are_kept s.templates t.templates

-- ---- a text

-- what was read of a text
abbrev pub parsed_view : ParsedPolicies → PolicySetView
parsed_view p = record { policies = policies_view p.policies; templates = map policy_view p.templates.items; links = [] }

-- the text is read as these policies and templates
pub record ReadsBack (k : Knowledge) (limit : ℕ) (s : PolicySetView) (text : Text) : Type 0 where
  pub parsed : ParsedPolicies
  pub read : AreAllRead k text limit parsed
  pub kept : are_all_kept s (parsed_view parsed) ≡ true

-- the JSON says policies as which the text is read, and none has the id or the name of another
pub record IsTextOf (k : Knowledge) (limit : ℕ) (json text : Text) : Type 0 where
  pub set : PolicySetView
  pub said : Says (depth_for limit) json (policy_set_said k limit) set
  pub apart : first_shared set ≡ None
  pub back : ReadsBack k limit set text

-- the same without the templates that have links, whose names are no policy's either
pub record IsDecidingTextOf (k : Knowledge) (limit : ℕ) (json text : Text) : Type 0 where
  pub set : PolicySetView
  pub said : Says (depth_for limit) json (policy_set_said k limit) set
  pub apart : first_shared set ≡ None
  pub back : ReadsBack k limit (without_linked set) text

-- the JSON says policies of which this is the refusal for a name that is another's too
pub record IsSharedIn (k : Knowledge) (limit : ℕ) (json : Text) (e : PolicyTextError) : Type 0 where
  pub set : PolicySetView
  pub said : Says (depth_for limit) json (policy_set_said k limit) set
  pub shared : IsShared set e

-- why JSON can't be read is why the reader of JSON refuses it, and a name that is refused is the id or the name of two
-- policies that the JSON says
abbrev pub IsUntold : Knowledge → ℕ → Text → PolicyTextError → Type 0
IsUntold k limit json (errors.Unread error) = IsTextRefusal (depth_for limit) json (policy_set_said k limit) error
IsUntold k limit json (errors.NoText id) = ⊤
IsUntold k limit json (errors.AnotherName path id name) = ⊤
IsUntold k limit json (errors.SharedName path id name) = IsSharedIn k limit json (errors.SharedName path id name)
IsUntold k limit json (errors.Memory error) = ⊤

-- the error is no matter of the JSON
abbrev pub IsOwn : PolicyTextError → Type 0
IsOwn (errors.Unread error) = ⊥
IsOwn (errors.NoText id) = ⊤
IsOwn (errors.AnotherName path id name) = ⊤
IsOwn (errors.SharedName path id name) = ⊤
IsOwn (errors.Memory error) = ⊤

-- the same, and no name is another's too
abbrev pub IsOfText : PolicyTextError → Type 0
IsOfText (errors.Unread error) = ⊥
IsOfText (errors.NoText id) = ⊤
IsOfText (errors.AnotherName path id name) = ⊤
IsOfText (errors.SharedName path id name) = ⊥
IsOfText (errors.Memory error) = ⊤

abbrev pub ReadsBackIf : Knowledge → ℕ → PolicySetView → Text → Bool → Type 0
ReadsBackIf k limit s text false = ⊤
ReadsBackIf k limit s text true = ReadsBack k limit s text
