-- What was read of a policy.
use Rattle.std.specs.Prelude.{◌≡◌, ℕ, ◌+◌, ◌<◌, ◌≤◌, List, [], ◌∷◌, length}
use Rattle.cedar_text_lexer.specs.declared.tokens.Token.{Token}
use Rattle.cedar_text_syntax.specs.Places.{IsInOrder, IsInside}
use Rattle.cedar_text_lexer.specs.Sequence.{start_at, end_at}
use Rattle.cedar_text_syntax.specs.Trees.{Tree, Trees, height, stacked, count, trees}
use Rattle.cedar_text_syntax.specs.declared.policies.PolicySteps.{PolicySteps}
use Rattle.cedar_text_syntax.specs.PolicyGrammar.{AreEntities, AreClauses, IsClause, IsScope, IsPolicy}

-- one tree more is made, of which this holds
pub data Puts (is : Tree → Type 0) : List Tree → List Tree → Type 0 where
  puts : {p : Tree} {ts : List Tree} → is p → Puts is ts (p ∷ ts)

-- the trees of entities, so many, are made
pub data PutsEntities (all : List Token) (i : ℕ) : ℕ → ℕ → List Tree → List Tree → Type 0 where
  puts_entities : {j : ℕ} {ps : Trees} {ts : List Tree} → AreEntities all i j ps →
      PutsEntities all i j (count ps) ts (stacked ps ts)

-- the tree of a clause is made, with so many levels
pub data PutsClause (all : List Token) (i : ℕ) : ℕ → ℕ → ℕ → List Tree → List Tree → Type 0 where
  puts_clause : {j s e : ℕ} {p : Tree} {ts : List Tree} → IsClause all i j s e p →
      PutsClause all i j e (height p) ts (p ∷ ts)

-- the tree of clauses is made, which begin at byte s, with so many levels
pub data PutsClauses (all : List Token) (i s : ℕ) : ℕ → ℕ → ℕ → List Tree → List Tree → Type 0 where
  puts_clauses : {j e : ℕ} {p : Tree} {ts : List Tree} → AreClauses all i j s e p →
      PutsClauses all i s j e (height p) ts (p ∷ ts)

-- the trees of a scope are made
pub data PutsScope (all : List Token) (i : ℕ) : ℕ → List Tree → List Tree → Type 0 where
  puts_scope : {j : ℕ} {p q r : Tree} {ts : List Tree} → IsScope all i j p q r →
      PutsScope all i j ts (r ∷ q ∷ p ∷ ts)

-- the trees stand between these bytes, and each of their parts inside what it is a part of
abbrev pub AreBetween : ℕ → ℕ → Tree → Tree → Tree → Tree → Type 0
AreBetween lo hi p q r t = IsInside lo hi p × IsInside lo hi q × IsInside lo hi r × IsInside lo hi t

-- tokens from number i on derive the policy that the steps make; its condition is no higher than the limit
pub record HasPolicy (all : List Token) (i limit : ℕ) (out : PolicySteps) : Type 0 where
  pub last : ℕ
  pub principal : Tree
  pub action : Tree
  pub resource : Tree
  pub condition : Tree
  pub derives : IsPolicy all i last (record {
    annotations = out.annotations.items;
    permits = out.permits;
    principal = principal;
    action = action;
    resource = resource;
    condition = condition;
  })
  pub makes : trees out.steps.items ≡ condition ∷ resource ∷ action ∷ principal ∷ []
  pub low : height condition ≤ limit
  pub start : out.start ≡ start_at all i
  pub end : out.end ≡ end_at all last
  pub next : out.next ≡ last + 1
  pub within : last < length all
  pub nested : IsInOrder all → AreBetween (start_at all i) (end_at all last) principal action resource condition
