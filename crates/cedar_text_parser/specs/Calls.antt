-- Which functions a text calls, and whether they are known.
use Rattle.std.specs.Prelude.{◌≡◌, ◌≢◌, ℕ, ◌+◌, ◌-◌, ◌<◌, ◌≤◌, List, [], ◌∷◌, length, Option, None, Some, ⊤}
use Rattle.std.specs.Prelude.{slice_index_or}
use Rattle.std.specs.Rc.{rc_str_bytes}
use Rattle.std.specs.declared.alloc.Global.{Global}
use Rattle.std.specs.declared.rc.RcStr.{RcStr}
use Rattle.cedar_text_lexer.specs.declared.tokens.Token.{Token}
use Rattle.cedar_text_lexer.specs.declared.errors.ReadError.{ReadError}
use Rattle.cedar_text_lexer.specs.declared.errors.ReadError.TheVariants as read
use Rattle.cedar_text_lexer.specs.Sequence.{start_at, end_at}
use Rattle.cedar_names.specs.declared.names.CallStyle.{CallStyle}
use Rattle.cedar_names.specs.declared.names.CallStyle.TheVariants.{FunctionStyle, MethodStyle}
use Rattle.cedar_functions.specs.Functions.{Knowledge, known_of, IsKnown, IsNearestName}
use Rattle.cedar_functions.specs.declared.functions.Known.TheVariants as known
use Rattle.cedar_text_syntax.specs.Trees.{Tree, leaf, unary, binary, conditional, field, bracketed, Trees, none, also, count}
use Rattle.cedar_text_syntax.specs.declared.steps.Bracketed.{Bracketed}
use Rattle.cedar_text_syntax.specs.declared.steps.Bracketed.TheVariants as brackets
use Rattle.cedar_text_syntax.specs.declared.steps.Step.{Step}
use Rattle.cedar_text_syntax.specs.declared.steps.What.{What}
use Rattle.cedar_text_syntax.specs.declared.steps.What.TheVariants as what
use Rattle.cedar_text_parser.specs.Refusals.{IsRefused}
use Rattle.cedar_text_parser.specs.Sources.{Tokenized}
use Rattle.cedar_text_parser.specs.Wording.{word_at, spelled, method_of}
use Rattle.cedar_text_parser.specs.declared.calls.Call.{Call}
use Rattle.cedar_text_parser.specs.declared.errors.ParseError.{ParseError}
use Rattle.cedar_text_parser.specs.declared.errors.ParseError.TheVariants as error
use Rattle.cedar_text_parser.specs.declared.words.MethodKind.{MethodKind}
use Rattle.cedar_text_parser.specs.declared.words.MethodKind.TheVariants.{Operator, IsEmpty, Function}

-- ---- which function is called

-- a function as a call names it: its name, how it is called, and where its name stands
pub record Callee : Type 0 where
  pub name : List ℕ
  pub style : CallStyle
  pub start : ℕ
  pub end : ℕ

-- the function that tokens i up to k name
abbrev pub callee_at : Tokenized → CallStyle → ℕ → ℕ → Callee
callee_at source style i k = record {
  name = spelled source i (k - i);
  style = style;
  start = start_at source.tokens i;
  end = end_at source.tokens (k - 1);
}

-- the function that is called as this method: the methods that are operators belong to the language
abbrev pub method_callee : Tokenized → ℕ → MethodKind → Option Callee
method_callee source i (Operator op) = None
method_callee source i IsEmpty = None
method_callee source i Function = Some (callee_at source MethodStyle i (i + 1))

-- the function that is called in these brackets, if they call one
abbrev pub callee_of : Tokenized → Bracketed → Option Callee
callee_of source brackets.Set = None
callee_of source brackets.Record = None
callee_of source (brackets.Call i k) = Some (callee_at source FunctionStyle i k)
callee_of source (brackets.Method i) = method_callee source i (method_of (word_at source i))

-- the function of this name, as a call has it
abbrev pub callee_named : Call → List ℕ → Callee
callee_named c f = record { name = f; style = c.style; start = c.start; end = c.end }

-- ---- each call is of a function that is known

-- the function, if there is one, is known, is called in its style, and takes so many arguments
abbrev pub IsKnownCallee : Knowledge → Option Callee → ℕ → Type 0
IsKnownCallee k None n = ⊤
IsKnownCallee k (Some c) n = IsKnown k c.style c.name n

-- so is the function that is called in brackets with so many parts, if they call one
abbrev pub IsKnownCall : Knowledge → Tokenized → Bracketed → ℕ → Type 0
IsKnownCall k source b n = IsKnownCallee k (callee_of source b) n

abbrev mutual
  -- each call in the tree is of a function that is known, in its style, with its number of arguments
  pub CallsAreKnown : Knowledge → Tokenized → Tree → Type 0
  CallsAreKnown k source (leaf l s e) = ⊤
  CallsAreKnown k source (unary u p s e) = CallsAreKnown k source p
  CallsAreKnown k source (binary b p q s e) = CallsAreKnown k source p × CallsAreKnown k source q
  CallsAreKnown k source (conditional p q r s e) =
      CallsAreKnown k source p × CallsAreKnown k source q × CallsAreKnown k source r
  CallsAreKnown k source (field i p s e) = CallsAreKnown k source p
  CallsAreKnown k source (bracketed b ps s e) = IsKnownCall k source b (count ps) × AllCallsAreKnown k source ps

  pub AllCallsAreKnown : Knowledge → Tokenized → Trees → Type 0
  AllCallsAreKnown k source none = ⊤
  AllCallsAreKnown k source (also ps p) = AllCallsAreKnown k source ps × CallsAreKnown k source p

-- the same of each of these trees
abbrev pub EachCallsKnown : Knowledge → Tokenized → List Tree → Type 0
EachCallsKnown k source [] = ⊤
EachCallsKnown k source (p ∷ ts) = CallsAreKnown k source p × EachCallsKnown k source ts

-- the call that a step makes, if it makes one, is of a function that is known
abbrev pub IsKnownStep : Knowledge → Tokenized → What → Type 0
IsKnownStep k source (what.Leaf l) = ⊤
IsKnownStep k source (what.Unary u) = ⊤
IsKnownStep k source (what.Binary b) = ⊤
IsKnownStep k source what.If = ⊤
IsKnownStep k source (what.Field i) = ⊤
IsKnownStep k source (what.Bracketed b n) = IsKnownCall k source b n

-- so does each of these steps
abbrev pub AreKnownSteps : Knowledge → Tokenized → List Step → Type 0
AreKnownSteps k source [] = ⊤
AreKnownSteps k source (x ∷ xs) = IsKnownStep k source x.what × AreKnownSteps k source xs

-- ---- a call is refused

-- why the function can't be called so, with so many arguments
pub data IsWhyUnknown (k : Knowledge) (c : Callee) (n : ℕ) : ParseError → Type 0 where
  -- there is no function of its name
  unknown_name : {f : RcStr Global} {near : Option (RcStr Global)} → known_of k c.name ≡ known.Nothing →
      rc_str_bytes f ≡ c.name → IsNearestName k c.style c.name near →
      IsWhyUnknown k c n (error.UnknownFunction f c.style near c.start c.end)
  -- the function of its name is called in the other style
  other_style : {f : RcStr Global} {s : CallStyle} {m : ℕ} → known_of k c.name ≡ known.Function s m → s ≢ c.style →
      rc_str_bytes f ≡ c.name → IsWhyUnknown k c n (error.WrongStyle f s c.start c.end)
  -- the function of its name takes another number of arguments
  other_number : {f : RcStr Global} {m : ℕ} → known_of k c.name ≡ known.Function c.style m → m ≢ n →
      rc_str_bytes f ≡ c.name → IsWhyUnknown k c n (error.WrongNumberOfArguments f m n c.start c.end)

-- memory ran out, or why the function can't be called so
pub data IsCalleeRefused (k : Knowledge) (c : Callee) (n : ℕ) : ParseError → Type 0 where
  for_out_of_memory : IsCalleeRefused k c n (error.Read read.Memory)
  for_why : {e : ParseError} → IsWhyUnknown k c n e → IsCalleeRefused k c n e

-- tokens of the text name what is called in the brackets
abbrev pub AreNamed : List Token → Bracketed → Type 0
AreNamed all brackets.Set = ⊤
AreNamed all brackets.Record = ⊤
AreNamed all (brackets.Call i k) = (i < k) × (k ≤ length all)
AreNamed all (brackets.Method i) = i < length all

-- the step is refused: the function that it calls isn't known so, or its name can't be read
pub data IsCallRefused (k : Knowledge) (source : Tokenized) (w : What) : ParseError → Type 0 where
  by_name : {r : ReadError} → IsRefused source r → IsCallRefused k source w (error.Read r)
  by_callee : {b : Bracketed} {n : ℕ} {c : Callee} {e : ParseError} → w ≡ what.Bracketed b n →
      AreNamed source.tokens b →
      callee_of source b ≡ Some c → IsWhyUnknown k c n e → IsCallRefused k source w e

-- one of the steps is refused
pub data AreCallsRefused (k : Knowledge) (source : Tokenized) (steps : List Step)
    (e : ParseError) : Type 0 where
  at_call : {i : ℕ} (x : Step) → i < length steps → IsCallRefused k source (slice_index_or steps i x).what e →
      AreCallsRefused k source steps e
