-- Each part stands inside what it is a part of.
use Rattle.std.specs.Prelude.{ℕ, ◌-◌, ◌<◌, ◌≤◌, List, length, ⊤}
use Rattle.cedar_text_lexer.specs.Kinds.{what_for}
use Rattle.cedar_text_lexer.specs.declared.errors.Expected.{Expected}
use Rattle.cedar_text_lexer.specs.declared.errors.ReadError.{ReadError}
use Rattle.cedar_text_lexer.specs.declared.errors.ReadError.TheVariants as error
use Rattle.cedar_text_lexer.specs.declared.tokens.Kind.{Kind}
use Rattle.cedar_text_lexer.specs.declared.tokens.Token.{Token}
use Rattle.cedar_text_lexer.specs.Sequence.{kind_at, start_at, end_at}
use Rattle.cedar_text_syntax.specs.Trees.{Tree, leaf, unary, binary, conditional, field, bracketed, Trees, none, also}

-- no token ends before it starts, or starts before one ends that comes before it
pub record IsInOrder (all : List Token) : Type 0 where
  pub forward : (i : ℕ) → i < length all → start_at all i ≤ end_at all i
  pub apart : (i j : ℕ) → i < j → j < length all → end_at all i ≤ start_at all j

abbrev mutual
  -- the tree stands between these bytes, and each of its parts inside what it is a part of
  pub IsInside : ℕ → ℕ → Tree → Type 0
  IsInside lo hi (leaf l s e) = (lo ≤ s) × (s ≤ e) × (e ≤ hi)
  IsInside lo hi (unary u p s e) = (lo ≤ s) × (e ≤ hi) × IsInside s e p
  IsInside lo hi (binary b p q s e) = (lo ≤ s) × (e ≤ hi) × IsInside s e p × IsInside s e q
  IsInside lo hi (conditional p q r s e) = (lo ≤ s) × (e ≤ hi) × IsInside s e p × IsInside s e q × IsInside s e r
  IsInside lo hi (field i p s e) = (lo ≤ s) × (e ≤ hi) × IsInside s e p
  IsInside lo hi (bracketed k ps s e) = (lo ≤ s) × (e ≤ hi) × (s ≤ e) × AreInside s e ps

  pub AreInside : ℕ → ℕ → Trees → Type 0
  AreInside lo hi none = ⊤
  AreInside lo hi (also ps p) = AreInside lo hi ps × IsInside lo hi p

-- the byte before which the last token ends
abbrev pub end_of : List Token → ℕ
end_of all = end_at all (length all - 1)

-- the tree stands between the tokens' ends, and each of its parts inside what it is a part of
abbrev pub IsNested : List Token → Tree → Type 0
IsNested all p = IsInside (start_at all 0) (end_of all) p

-- ---- errors

-- an error stands at a token, or behind the last one; what is too high ends with a token
pub data IsPlaced (all : List Token) : ReadError → Type 0 where
  for_memory : IsPlaced all error.Memory
  at_token : {i : ℕ} (what : Expected) → i < length all →
      IsPlaced all (error.Expected (what_for what (kind_at all i)) (kind_at all i) (start_at all i) (end_at all i))
  at_end : {what : Expected} {found : Kind} → IsPlaced all (error.Expected what found (end_of all) (end_of all))
  up_to_token : {n i s : ℕ} → i < length all → s ≤ end_at all i → IsPlaced all (error.TooDeep n s (end_at all i))
