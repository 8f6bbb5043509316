-- Why an expression is not made of steps, and where that stands.
use Rattle.std.specs.Prelude.{◌≡◌, ℕ, ◌+◌, ◌<◌, ◌≤◌, ◌^◌, Bool, List, [], ◌∷◌, ◌++◌, length, take, slice_index}
use Rattle.std.specs.Prelude.{slice_index_or}
use Rattle.std.specs.Str.Parse.{digits_value}
use Rattle.cedar_text_lexer.specs.Values.{inside_of, IsRefusedThere}
use Rattle.cedar_text_lexer.specs.declared.errors.Expected.{Expected}
use Rattle.cedar_text_lexer.specs.declared.errors.Expected.TheVariants as wanted
use Rattle.cedar_text_lexer.specs.declared.errors.ReadError.{ReadError}
use Rattle.cedar_text_lexer.specs.declared.errors.ReadError.TheVariants as error
use Rattle.cedar_text_lexer.specs.declared.tokens.Kind.{Kind}
use Rattle.cedar_text_lexer.specs.declared.tokens.Kind.TheVariants as kind
use Rattle.cedar_text_lexer.specs.Sequence.{kind_at, start_at, end_at}
use Rattle.cedar_text_syntax.specs.Trees.{Tree, leaf, unary, binary, conditional, field, bracketed, Trees, none, also}
use Rattle.cedar_text_syntax.specs.Trees.{gathered, trees}
use Rattle.cedar_text_syntax.specs.declared.steps.Bracketed.TheVariants.{Record}
use Rattle.cedar_text_syntax.specs.declared.steps.Step.{Step}
use Rattle.cedar_text_syntax.specs.declared.steps.What.{What}
use Rattle.cedar_text_syntax.specs.declared.steps.What.TheVariants as what
use Rattle.cedar_text_parser.specs.Sources.{Tokenized}
use Rattle.cedar_text_parser.specs.Wording.{word_at, IsKeyAt, IsOperatorAt, IsEmptyAt}

-- what should have stood where, by what the tokens alone say
pub data Expects (source : Tokenized) : Expected → Kind → ℕ → ℕ → Type 0 where
  -- a number is larger than each long
  for_long : {i : ℕ} → i < length source.tokens → 2 ^ 63 ≤ digits_value 10 (word_at source i) →
      Expects source wanted.Long (kind_at source.tokens i) (start_at source.tokens i) (end_at source.tokens i)
  -- a text or a pattern has an escape that the language has not, which stands there
  for_escape : {i s e : ℕ} (in_pattern : Bool) → i < length source.tokens → kind_at source.tokens i ≡ kind.Text →
      IsRefusedThere in_pattern (inside_of (word_at source i)) (start_at source.tokens i + 1) s e →
      Expects source wanted.Escape kind.Text s e
  -- a method that is an operator has no argument or more than one
  for_one_argument : {i n : ℕ} → i < length source.tokens → IsOperatorAt source i →
      Expects source (wanted.OneArgument n) (kind_at source.tokens i) (start_at source.tokens i)
      (end_at source.tokens i)
  -- `isEmpty` has an argument
  for_no_argument : {i n : ℕ} → i < length source.tokens → IsEmptyAt source i →
      Expects source (wanted.NoArgument n) (kind_at source.tokens i) (start_at source.tokens i) (end_at source.tokens i)
  -- the steps are not well made
  for_steps : Expects source wanted.Steps kind.End (length source.text) (length source.text)

-- an error of what should have stood, if it tells how many arguments are given, tells this number
abbrev pub CountsIn : ℕ → Expected → Type 0
CountsIn n (wanted.OneArgument m) = m ≡ n
CountsIn n (wanted.NoArgument m) = m ≡ n
CountsIn n _ = Unit {0}

-- the same of each error
abbrev pub Counts : ℕ → ReadError → Type 0
Counts n error.Memory = Unit {0}
Counts n (error.Expected what found s e) = CountsIn n what
Counts n (error.TooDeep m s e) = Unit {0}

-- an error that the tokens alone tell, or out of memory
abbrev pub IsRefused : Tokenized → ReadError → Type 0
IsRefused source error.Memory = Unit {0}
IsRefused source (error.Expected what found s e) = Expects source what found s e
IsRefused source (error.TooDeep n s e) = ⊥

-- ---- keys

-- the tokens of the fields' keys, in order
abbrev pub keys_of : Trees → List ℕ
keys_of none = []
keys_of (also ps (field i p s e)) = keys_of ps ++ i ∷ []
keys_of (also ps (leaf l s e)) = keys_of ps
keys_of (also ps (unary u p s e)) = keys_of ps
keys_of (also ps (binary b p q s e)) = keys_of ps
keys_of (also ps (conditional p q r s e)) = keys_of ps
keys_of (also ps (bracketed k qs s e)) = keys_of ps

-- token i is one of these and names a key that one before it names as well
pub data IsKeyAgain (source : Tokenized) (keys : List ℕ) : ℕ → Type 0 where
  key_again : {m n : ℕ} {key : List ℕ} → m < n → n < length keys →
      IsKeyAt source (slice_index keys m) key → IsKeyAt source (slice_index keys n) key →
      IsKeyAgain source keys (slice_index keys n)

-- the key is named by token number n of these, one from number `from` on
pub record IsNamedFrom (source : Tokenized) (keys : List ℕ) (from : ℕ) (key : List ℕ)
    (n : ℕ) : Type 0 where
  pub after : from ≤ n
  pub within : n < length keys
  pub named : IsKeyAt source (slice_index keys n) key

-- why there is no record of fields under the keys that these tokens name
pub data IsRecordRefused (source : Tokenized) (keys : List ℕ) : ReadError → Type 0 where
  otherwise : {r : ReadError} → IsRefused source r → IsRecordRefused source keys r
  twice : {i : ℕ} → IsKeyAgain source keys i →
      IsRecordRefused source keys
      (error.Expected wanted.NewKey (kind_at source.tokens i) (start_at source.tokens i) (end_at source.tokens i))

-- ---- steps

-- the step is refused, where these are the trees that the steps before it made
pub data IsRefusedOn (source : Tokenized) (ts : List Tree) (w : What) : ReadError → Type 0 where
  by_tokens : {r : ReadError} → IsRefused source r → IsRefusedOn source ts w r
  -- a record has a key twice: the error stands at the second
  by_key : {n i : ℕ} → w ≡ what.Bracketed Record n → IsKeyAgain source (keys_of (gathered n ts)) i →
      IsRefusedOn source ts w
      (error.Expected wanted.NewKey (kind_at source.tokens i) (start_at source.tokens i) (end_at source.tokens i))

-- one of the steps is refused, or they make no expression or too many
pub data AreRefused (source : Tokenized) (steps : List Step) (r : ReadError) : Type 0 where
  at_step : {k : ℕ} (x : Step) → k < length steps →
      IsRefusedOn source (trees (take k steps)) (slice_index_or steps k x).what r → AreRefused source steps r
  at_last : IsRefused source r → AreRefused source steps r
