-- The grammar of policies: which tokens derive which policy, and where each part of it stands.
--
--   Policy     ::= {Annotation} Effect '(' Scope ')' {Clause} ';'                              IsPolicy
--   Annotation ::= '@' WORD ['(' STR ')']                                                      AreAnnotations
--   Effect     ::= 'permit' | 'forbid'                                                         effect_of
--   Scope      ::= Principal ',' Action ',' Resource                                           IsPolicy
--   Principal  ::= 'principal' [('==' | 'in') Reference | 'is' Path ['in' Reference]]          IsConstraint
--   Action     ::= 'action' [('==' | 'in') Entity | 'in' '[' [Entity {',' Entity}] ']']        IsConstraint, IsList
--   Resource   ::= 'resource' [('==' | 'in') Reference | 'is' Path ['in' Reference]]           IsConstraint
--   Reference  ::= Entity | the slot of the variable, '?principal' or '?resource'              IsReference
--   Entity     ::= Path '::' STR                                                               IsEntity
--   Clause     ::= ('when' | 'unless') '{' Expr '}'                                            IsClause
--
-- Path and Expr are those of the grammar of expressions. A WORD is any word, the reserved ones too. A variable without a
-- constraint is `true`, where the variable stands; so is a policy without clauses, where its semicolon stands. A clause is
-- its expression, behind `unless` negated, and clauses are joined by `&&`, the first two first. Whether a key is a
-- duplicate among the annotations is not asked here.
use Rattle.std.specs.Prelude.{◌≡◌, ℕ, ◌+◌, List, [], ◌∷◌, ◌++◌, Option, Some, None, Bool, true, false, ◌||◌}
use Rattle.cedar_text_lexer.specs.Kinds.{is_identifier, is_reserved}
use Rattle.cedar_text_lexer.specs.declared.tokens.Kind.{Kind}
use Rattle.cedar_text_lexer.specs.declared.tokens.Kind.TheVariants as kind
use Rattle.cedar_text_lexer.specs.declared.tokens.Token.{Token}
use Rattle.cedar_text_syntax.specs.declared.steps.Leaf.TheVariants as leaves
use Rattle.cedar_text_syntax.specs.declared.steps.Unary.TheVariants as unaries
use Rattle.cedar_text_syntax.specs.declared.steps.Binary.{Binary}
use Rattle.cedar_text_syntax.specs.declared.steps.Binary.TheVariants as binaries
use Rattle.cedar_text_syntax.specs.declared.steps.Bracketed.TheVariants.{Set}
use Rattle.cedar_text_lexer.specs.Sequence.{kind_at, start_at, end_at}
use Rattle.cedar_text_syntax.specs.Trees.{Tree, leaf, unary, binary, bracketed, Trees, none, also}
use Rattle.cedar_text_syntax.specs.Grammar.{IsPath, IsInBraces, negated_if}
use Rattle.cedar_text_syntax.specs.declared.policies.Annotation.{Annotation}
use Rattle.cedar_text_syntax.specs.declared.policies.Variable.{Variable}
use Rattle.cedar_text_syntax.specs.declared.policies.Variable.TheVariants as variable

-- ---- tokens

-- what names the variable
abbrev pub variable_kind : Variable → Kind
variable_kind variable.Principal = kind.Principal
variable_kind variable.Action = kind.Action
variable_kind variable.Resource = kind.Resource

-- whether the token is the slot that may stand in the variable's constraint
abbrev pub is_slot_of : Variable → Kind → Bool
is_slot_of variable.Principal kind.PrincipalSlot = true
is_slot_of variable.Principal _ = false
is_slot_of variable.Action _ = false
is_slot_of variable.Resource kind.ResourceSlot = true
is_slot_of variable.Resource _ = false

-- whether `is` may follow the variable
abbrev pub has_type : Variable → Bool
has_type variable.Principal = true
has_type variable.Action = false
has_type variable.Resource = true

-- whether the policy permits
abbrev pub effect_of : Kind → Option Bool
effect_of kind.Permit = Some true
effect_of kind.Forbid = Some false
effect_of _ = None

-- the relations between a variable and what it is compared with
abbrev pub relation_of : Kind → Option Binary
relation_of kind.Equal = Some binaries.Equal
relation_of kind.In = Some binaries.In
relation_of _ = None

-- whether the clause that begins with this token is negated
abbrev pub negates : Kind → Option Bool
negates kind.When = Some false
negates kind.Unless = Some true
negates _ = None

abbrev pub is_word : Kind → Bool
is_word k = is_identifier k || is_reserved k

-- the variable that this token is
abbrev pub variable_at : List Token → ℕ → Tree
variable_at all i = leaf (leaves.Variable i) (start_at all i) (end_at all i)

-- `true`, where this token stands
abbrev pub true_at : List Token → ℕ → Tree
true_at all i = leaf (leaves.Bool true) (start_at all i) (end_at all i)

-- ---- scopes: tokens i up to, but not including, j, up to byte e

pub data IsEntity (all : List Token) : ℕ → ℕ → ℕ → Tree → Type 0 where
  entity : {i k s e : ℕ} → IsPath all i k s e → kind_at all k ≡ kind.Colons → kind_at all (k + 1) ≡ kind.Text →
      IsEntity all i (k + 1 + 1) (end_at all (k + 1)) (leaf (leaves.Entity i (k + 1)) s (end_at all (k + 1)))

pub data IsReference (all : List Token) (v : Variable) : ℕ → ℕ → ℕ → Tree → Type 0 where
  to_entity : {i j e : ℕ} {p : Tree} → IsEntity all i j e p → IsReference all v i j e p
  to_slot : {i : ℕ} → is_slot_of v (kind_at all i) ≡ true →
      IsReference all v i (i + 1) (end_at all i) (leaf (leaves.Slot i) (start_at all i) (end_at all i))

-- entities with commas between them
pub data AreEntities (all : List Token) : ℕ → ℕ → Trees → Type 0 where
  one_entity : {i j e : ℕ} {p : Tree} → IsEntity all i j e p → AreEntities all i j (also none p)
  one_entity_more : {i j k e : ℕ} {ps : Trees} {p : Tree} → AreEntities all i j ps → kind_at all j ≡ kind.Comma →
      IsEntity all (j + 1) k e p → AreEntities all i k (also ps p)

-- entities in brackets; token j closes them
pub data IsList (all : List Token) : ℕ → ℕ → Trees → Type 0 where
  no_entity : {i : ℕ} → kind_at all i ≡ kind.OpenBracket → kind_at all (i + 1) ≡ kind.CloseBracket →
      IsList all i (i + 1) none
  some_entities : {i j : ℕ} {ps : Trees} → kind_at all i ≡ kind.OpenBracket → AreEntities all (i + 1) j ps →
      kind_at all j ≡ kind.CloseBracket → IsList all i j ps

-- the set that a list is
pub data IsSet (all : List Token) : ℕ → ℕ → Tree → Type 0 where
  is_set : {i j : ℕ} {ps : Trees} → IsList all i j ps → IsSet all i j (bracketed Set ps (start_at all i) (end_at all j))

-- the constraint on a variable: tokens i up to, but not including, j
pub data IsConstraint (all : List Token) (v : Variable) : ℕ → ℕ → Tree → Type 0 where
  unconstrained : {i : ℕ} → kind_at all i ≡ variable_kind v → IsConstraint all v i (i + 1) (true_at all i)
  compared : {i j e : ℕ} {b : Binary} {p : Tree} → kind_at all i ≡ variable_kind v →
      relation_of (kind_at all (i + 1)) ≡ Some b → IsReference all v (i + 1 + 1) j e p →
      IsConstraint all v i j (binary b (variable_at all i) p (start_at all i) e)
  in_list : {i j : ℕ} {p : Tree} → v ≡ variable.Action → kind_at all i ≡ variable_kind v →
      kind_at all (i + 1) ≡ kind.In → IsSet all (i + 1 + 1) j p →
      IsConstraint all v i (j + 1) (binary binaries.In (variable_at all i) p (start_at all i) (end_at all j))
  of_type : {i k s e : ℕ} → has_type v ≡ true → kind_at all i ≡ variable_kind v → kind_at all (i + 1) ≡ kind.Is →
      IsPath all (i + 1 + 1) k s e →
      IsConstraint all v i k (unary (unaries.Is (i + 1 + 1) k) (variable_at all i) (start_at all i) e)
  of_type_in : {i j k s e f : ℕ} {p : Tree} → has_type v ≡ true → kind_at all i ≡ variable_kind v →
      kind_at all (i + 1) ≡ kind.Is → IsPath all (i + 1 + 1) k s e → kind_at all k ≡ kind.In →
      IsReference all v (k + 1) j f p →
      IsConstraint all v i j (binary (binaries.IsIn (i + 1 + 1) k) (variable_at all i) p (start_at all i) f)

-- ---- clauses: tokens i up to, but not including, j, from byte s to byte e

pub data IsClause (all : List Token) : ℕ → ℕ → ℕ → ℕ → Tree → Type 0 where
  clause : {i j : ℕ} {b : Bool} {p : Tree} → negates (kind_at all i) ≡ Some b → IsInBraces all (i + 1) j p →
      IsClause all i (j + 1) (start_at all i) (end_at all j) (negated_if b p (start_at all i) (end_at all j))

pub data AreClauses (all : List Token) : ℕ → ℕ → ℕ → ℕ → Tree → Type 0 where
  one_clause : {i j s e : ℕ} {p : Tree} → IsClause all i j s e p → AreClauses all i j s e p
  one_clause_more : {i j k s e f g : ℕ} {p q : Tree} → AreClauses all i j s e p → IsClause all j k f g q →
      AreClauses all i k s g (binary binaries.And p q s g)

-- what stands behind the scope, up to the semicolon, token j
pub data HasConditions (all : List Token) : ℕ → ℕ → Tree → Type 0 where
  no_clause : {j : ℕ} → kind_at all j ≡ kind.Semicolon → HasConditions all j j (true_at all j)
  some_clauses : {i j s e : ℕ} {p : Tree} → AreClauses all i j s e p → kind_at all j ≡ kind.Semicolon →
      HasConditions all i j p

-- ---- policies

-- annotations in order: tokens i up to, but not including, j
pub data AreAnnotations (all : List Token) : ℕ → ℕ → List Annotation → Type 0 where
  no_annotation : {i : ℕ} → AreAnnotations all i i []
  one_key : {i j : ℕ} {xs : List Annotation} → AreAnnotations all i j xs → kind_at all j ≡ kind.At →
      is_word (kind_at all (j + 1)) ≡ true →
      AreAnnotations all i (j + 1 + 1) (xs ++ record { key = j + 1; value = None } ∷ [])
  one_value : {i j : ℕ} {xs : List Annotation} → AreAnnotations all i j xs → kind_at all j ≡ kind.At →
      is_word (kind_at all (j + 1)) ≡ true → kind_at all (j + 1 + 1) ≡ kind.OpenParen →
      kind_at all (j + 1 + 1 + 1) ≡ kind.Text → kind_at all (j + 1 + 1 + 1 + 1) ≡ kind.CloseParen →
      AreAnnotations all i (j + 1 + 1 + 1 + 1 + 1) (xs ++ record { key = j + 1; value = Some (j + 1 + 1 + 1) } ∷ [])

-- a policy: its annotations, whether it permits, its constraints and its condition
pub record PolicyTree : Type 0 where
  pub annotations : List Annotation
  pub permits : Bool
  pub principal : Tree
  pub action : Tree
  pub resource : Tree
  pub condition : Tree

-- the scope in parentheses: tokens i up to, but not including, j
pub data IsScope (all : List Token) : ℕ → ℕ → Tree → Tree → Tree → Type 0 where
  scope : {i j k l : ℕ} {p q r : Tree} → kind_at all i ≡ kind.OpenParen →
      IsConstraint all variable.Principal (i + 1) j p → kind_at all j ≡ kind.Comma →
      IsConstraint all variable.Action (j + 1) k q → kind_at all k ≡ kind.Comma →
      IsConstraint all variable.Resource (k + 1) l r → kind_at all l ≡ kind.CloseParen → IsScope all i (l + 1) p q r

-- tokens i up to j, the semicolon, derive the policy
pub data IsPolicy (all : List Token) : ℕ → ℕ → PolicyTree → Type 0 where
  policy : {i j k l : ℕ} {xs : List Annotation} {b : Bool} {p q r t : Tree} → AreAnnotations all i k xs →
      effect_of (kind_at all k) ≡ Some b → IsScope all (k + 1) l p q r → HasConditions all l j t →
      IsPolicy all i j
      (record { annotations = xs; permits = b; principal = p; action = q; resource = r; condition = t })
