-- Which policies a text is.
use Rattle.std.specs.Prelude.{◌≡◌, ℕ, ◌+◌, ◌<◌, ◌≤◌, Bool, true, false, if◌then◌else◌, List, [], ◌∷◌, ◌++◌, length, map, Option, None, Some, codes, decimal}
use Rattle.std.specs.BTreeMap.{insert_entry, is_at}
use Rattle.std.specs.Map.{lookup}
use Rattle.std.specs.Option.{is_some}
use Rattle.std.specs.Rc.{rc_str_bytes}
use Rattle.std.specs.declared.alloc.Global.{Global}
use Rattle.std.specs.declared.rc.RcStr.{RcStr}
use Rattle.cedar_model.specs.Agreement.{no_slots}
use Rattle.cedar_model.specs.Policies.{permit, forbid}
use Rattle.cedar_expressions.specs.Nodes.{key_order}
use Rattle.cedar_layers.specs.Policies.{policy_view, policy_parts, policy_location, policy_id_text, condition_parts}
use Rattle.cedar_layers.specs.Policies.{annotations_view}
use Rattle.cedar_layers.specs.PolicySets.{stored_policies}
use Rattle.cedar_layers.specs.declared.policies.policy.Annotations.{Annotations}
use Rattle.cedar_layers.specs.declared.policies.policy.Policy.{Policy}
use Rattle.cedar_layers.specs.declared.policies.policy.PolicyID.{PolicyID}
use Rattle.cedar_names.specs.declared.names.Loc.{Loc}
use Rattle.cedar_text_lexer.specs.Tokens.{IsTokens}
use Rattle.cedar_text_lexer.specs.declared.tokens.Kind.{Kind}
use Rattle.cedar_text_lexer.specs.declared.tokens.Kind.TheVariants as kind
use Rattle.cedar_text_lexer.specs.declared.tokens.Token.{Token}
use Rattle.cedar_text_lexer.specs.Sequence.{kind_at, start_at, end_at}
use Rattle.cedar_text_syntax.specs.Trees.{height}
use Rattle.cedar_text_syntax.specs.PolicyGrammar.{PolicyTree, IsPolicy}
use Rattle.cedar_text_syntax.specs.declared.policies.Annotation.{Annotation}
use Rattle.cedar_functions.specs.Functions.{Knowledge}
use Rattle.cedar_text_syntax.specs.PolicyReading.{HasPolicy}
use Rattle.cedar_text_syntax.specs.declared.policies.PolicySteps.{PolicySteps}
use Rattle.cedar_text_lexer.specs.declared.errors.ReadError.{ReadError}
use Rattle.cedar_text_parser.specs.Calls.{CallsAreKnown, AreCallsRefused}
use Rattle.cedar_text_parser.specs.Sources.{Tokenized, with_tokens}
use Rattle.cedar_text_parser.specs.declared.errors.ParseError.{ParseError}
use Rattle.cedar_text_parser.specs.declared.errors.ParseError.TheVariants as error
use Rattle.cedar_text_parser.specs.Building.{Is}
use Rattle.cedar_text_parser.specs.Reading.{IsPlaceWithin}
use Rattle.cedar_text_parser.specs.Wording.{word_at, IsTextAt, place}
use Rattle.cedar_text_parser.specs.declared.reading.Four.{Four}
use Rattle.cedar_text_parser.specs.declared.policies.ParsedPolicies.{ParsedPolicies}
use Rattle.cedar_text_parser.specs.declared.policies.Reading.{Reading}

-- ---- annotations

-- the value of an annotation: the text of this token, or none
abbrev pub IsValueAt : Tokenized → Option ℕ → List ℕ → Type 0
IsValueAt source None v = v ≡ []
IsValueAt source (Some i) v = IsTextAt source i v

-- a map of annotations
abbrev pub Annotated : Type 0
Annotated = List (RcStr Global × RcStr Global)

-- whether an annotation stands under this key
abbrev pub is_there : RcStr Global → Annotated → Bool
is_there key es = is_some (lookup (is_at (key_order key)) es)

-- the map has each annotation under its key, and no key comes twice
pub data AreAnnotated (source : Tokenized) : List Annotation → Annotated → Type 0 where
  none_annotated : AreAnnotated source [] []
  annotated_behind : {xs : List Annotation} {es : Annotated} (x : Annotation) (key value : RcStr Global) →
      AreAnnotated source xs es → rc_str_bytes key ≡ word_at source x.key →
      IsValueAt source x.value (rc_str_bytes value) → is_there key es ≡ false →
      AreAnnotated source (xs ++ x ∷ []) (insert_entry key_order es key value)

-- ---- policies

-- the policy of these parts
pub record IsMadeOf (permits : Bool) (i : PolicyID) (a : Annotations) (four : Four) (l : Loc) (p : Policy)
    : Type 0 where
  pub effect : (policy_view p).effect ≡ (if permits then permit else forbid)
  pub id : (policy_view p).id ≡ policy_id_text i
  pub annotations : (policy_view p).annotations ≡ annotations_view a
  pub parts : policy_parts p ≡ condition_parts four.principal four.action four.resource four.condition
  pub slots : (policy_view p).slots ≡ no_slots
  pub loc : policy_location p ≡ Some l

-- each call in the policy is of a function that is known, in its style, with its number of arguments
pub record PolicyCallsAreKnown (k : Knowledge) (source : Tokenized) (t : PolicyTree) : Type 0 where
  pub principal : CallsAreKnown k source t.principal
  pub action : CallsAreKnown k source t.action
  pub resource : CallsAreKnown k source t.resource
  pub condition : CallsAreKnown k source t.condition

-- tokens i up to, but not including, j are the policy of this id: each part of it is that of the tree which they
-- derive, its condition is no higher than the limit, and each call in it is of a function that is known
pub record IsPolicyAt (k : Knowledge) (source : Tokenized) (limit : ℕ) (name : List ℕ) (i j : ℕ)
    (p : Policy) : Type 0 where
  pub last : ℕ
  pub tree : PolicyTree
  pub annotated : Annotated
  pub derives : IsPolicy source.tokens i last tree
  pub next : j ≡ last + 1
  pub within : last < length source.tokens
  pub low : height tree.condition ≤ limit
  pub id : (policy_view p).id ≡ name
  pub effect : (policy_view p).effect ≡ (if tree.permits then permit else forbid)
  pub are_annotations : AreAnnotated source tree.annotations annotated
  pub annotations : (policy_view p).annotations ≡ map (λ e. (rc_str_bytes e.0, rc_str_bytes e.1)) annotated
  pub principal : Is source (policy_parts p).principal tree.principal
  pub action : Is source (policy_parts p).action tree.action
  pub resource : Is source (policy_parts p).resource tree.resource
  pub condition : Is source (policy_parts p).when tree.condition
  pub slots : (policy_view p).slots ≡ no_slots
  pub loc : policy_location p ≡ place (start_at source.tokens i) (end_at source.tokens last)
  pub calls : PolicyCallsAreKnown k source tree

-- the text is one policy of this id
pub record IsPolicyText (k : Knowledge) (text : List ℕ) (limit : ℕ) (id : List ℕ) (p : Policy) : Type 0 where
  pub tokens : List Token
  pub behind : ℕ
  pub cut : IsTokens 0 text tokens
  pub policy : IsPolicyAt k (with_tokens text tokens) limit id 0 behind p
  pub ends : kind_at tokens behind ≡ kind.End
  pub whole : behind + 1 ≡ length tokens

-- ---- policies in order

-- the id of the policy of this number
abbrev pub id_of : ℕ → List ℕ
id_of n = codes "policy" ++ decimal n

-- a token of this kind is a slot
abbrev pub is_slot : Kind → Bool
is_slot kind.PrincipalSlot = true
is_slot kind.ResourceSlot = true
is_slot _ = false

-- whether a slot stands among tokens i up to, but not including, j
abbrev pub HasSlot : List Token → ℕ → ℕ → Type 0
HasSlot all i j = (k : ℕ) × (i ≤ k) × (k < j) × (is_slot (kind_at all k) ≡ true)

abbrev pub HasNoSlot : List Token → ℕ → ℕ → Type 0
HasNoSlot all i j = (k : ℕ) → i ≤ k → k < j → is_slot (kind_at all k) ≡ false

-- the tokens before number i are n policies: those without slots, and the templates, each in order
pub data ArePolicies (k : Knowledge) (source : Tokenized) (limit : ℕ) : ℕ → ℕ → List Policy → List Policy
    → Type 0 where
  no_policies : ArePolicies k source limit 0 0 [] []
  policy_behind : {i j n : ℕ} {ps ts : List Policy} {p : Policy} → ArePolicies k source limit i n ps ts →
      IsPolicyAt k source limit (id_of n) i j p → HasNoSlot source.tokens i j →
      ArePolicies k source limit j (n + 1) (ps ++ p ∷ []) ts
  template_behind : {i j n : ℕ} {ps ts : List Policy} {p : Policy} → ArePolicies k source limit i n ps ts →
      IsPolicyAt k source limit (id_of n) i j p → HasSlot source.tokens i j →
      ArePolicies k source limit j (n + 1) ps (ts ++ p ∷ [])

-- the policies of the whole text: those without slots, and the templates
pub record AreRead (k : Knowledge) (text : List ℕ) (limit : ℕ) (ps ts : List Policy) : Type 0 where
  pub tokens : List Token
  pub behind : ℕ
  pub count : ℕ
  pub cut : IsTokens 0 text tokens
  pub policies : ArePolicies k (with_tokens text tokens) limit behind count ps ts
  pub ends : kind_at tokens behind ≡ kind.End
  pub whole : behind + 1 ≡ length tokens

abbrev pub AreAllRead : Knowledge → List ℕ → ℕ → ParsedPolicies → Type 0
AreAllRead k text limit out = AreRead k text limit (stored_policies out.policies) out.templates.items

-- ---- on the way

-- where nothing was refused, the tokens before number i are n policies
abbrev pub IsSoFar : Knowledge → Tokenized → ℕ → ℕ → ℕ → Reading → Type 0
IsSoFar k source limit i n r =
    r.errors.items ≡ [] → ArePolicies k source limit i n r.policies.items r.templates.items

-- where nothing was refused, all is read
abbrev pub IsRead : Knowledge → List ℕ → ℕ → Reading → Type 0
IsRead k text limit r = r.errors.items ≡ [] → AreRead k text limit r.policies.items r.templates.items

-- ---- errors

-- what is told of a call is told of one of those that the tokens from number i on derive: its function isn't known so
pub data IsPolicyRefused (k : Knowledge) (source : Tokenized) (limit i : ℕ) : ParseError → Type 0 where
  by_reading : {r : ReadError} → IsPolicyRefused k source limit i (error.Read r)
  by_call : {out : PolicySteps} {e : ParseError} → HasPolicy source.tokens i limit out →
      AreCallsRefused k source out.steps.items e → IsPolicyRefused k source limit i e

-- the same of a policy of the text
pub data IsTextRefused (k : Knowledge) (text : List ℕ) (limit : ℕ) : ParseError → Type 0 where
  at_policy : {all : List Token} {i : ℕ} {e : ParseError} → IsTokens 0 text all →
      IsPolicyRefused k (with_tokens text all) limit i e → IsTextRefused k text limit e
  in_reading : {r : ReadError} → IsTextRefused k text limit (error.Read r)

-- errors in order, each at a place within the text
pub data AreTold (k : Knowledge) (text : List ℕ) (limit : ℕ) : List ParseError → Type 0 where
  no_error : AreTold k text limit []
  error_behind : {es : List ParseError} (e : ParseError) → AreTold k text limit es → IsPlaceWithin text e →
      IsTextRefused k text limit e → AreTold k text limit (es ++ e ∷ [])
