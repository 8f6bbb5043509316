-- Which functions an expression calls, and whether they are known. What is read has no unknown: in a text an unknown
-- is a call.
use Rattle.std.specs.Prelude.{◌≡◌, ℕ, suc, List, ⊤}
use Rattle.cedar_model.specs.Terms.{Text, Term, literal, variable, slot, unknown, if_then_else, both, either, unary}
use Rattle.cedar_model.specs.Terms.{binary, call, get_attribute, has_attribute, extended_has, like, is_of_type, set_of}
use Rattle.cedar_model.specs.Terms.{record_of, Terms, no_terms, one_term, Fields, no_fields, one_field}
use Rattle.cedar_expressions.specs.View.{view}
use Rattle.cedar_expressions.specs.declared.expr.Expr.{Expr}
use Rattle.cedar_text_syntax.specs.Trees.{Tree}
use Rattle.cedar_functions.specs.Functions.{Knowledge, known_of}
use Rattle.cedar_functions.specs.declared.functions.Known.{Known}
use Rattle.cedar_functions.specs.declared.functions.Known.TheVariants as known
use Rattle.cedar_text_parser.specs.Building.{Is}
use Rattle.cedar_text_parser.specs.Calls.{CallsAreKnown}
use Rattle.cedar_text_parser.specs.Reading.{IsRead}
use Rattle.cedar_text_parser.specs.Sources.{Tokenized}

-- how many terms there are
abbrev pub number_of : Terms → ℕ
number_of no_terms = 0
number_of (one_term t ts) = suc (number_of ts)

-- a function of which this is known takes so many arguments, in whichever style it is called
abbrev pub Takes : Known → ℕ → Type 0
Takes known.Any n = ⊤
Takes (known.Function s m) n = m ≡ n
Takes known.Nothing n = ⊥

-- the function of this name is known, and takes so many arguments
abbrev pub IsKnownWith : Knowledge → Text → ℕ → Type 0
IsKnownWith k f n = Takes (known_of k f) n

abbrev mutual
  -- each call in the term is of a function that is known, with its number of arguments, and no unknown stands in it
  pub TermCallsAreKnown : Knowledge → Term → Type 0
  TermCallsAreKnown k (literal l) = ⊤
  TermCallsAreKnown k (variable v) = ⊤
  TermCallsAreKnown k (slot s) = ⊤
  TermCallsAreKnown k (unknown n t) = ⊥
  TermCallsAreKnown k (if_then_else c a b) = TermCallsAreKnown k c × TermCallsAreKnown k a × TermCallsAreKnown k b
  TermCallsAreKnown k (both a b) = TermCallsAreKnown k a × TermCallsAreKnown k b
  TermCallsAreKnown k (either a b) = TermCallsAreKnown k a × TermCallsAreKnown k b
  TermCallsAreKnown k (unary op a) = TermCallsAreKnown k a
  TermCallsAreKnown k (binary op a b) = TermCallsAreKnown k a × TermCallsAreKnown k b
  TermCallsAreKnown k (call f ts) = IsKnownWith k f (number_of ts) × CallsOfEachAreKnown k ts
  TermCallsAreKnown k (get_attribute a n) = TermCallsAreKnown k a
  TermCallsAreKnown k (has_attribute a n) = TermCallsAreKnown k a
  TermCallsAreKnown k (extended_has a n ns) = TermCallsAreKnown k a
  TermCallsAreKnown k (like a p) = TermCallsAreKnown k a
  TermCallsAreKnown k (is_of_type a t) = TermCallsAreKnown k a
  TermCallsAreKnown k (set_of ts) = CallsOfEachAreKnown k ts
  TermCallsAreKnown k (record_of fs) = CallsOfFieldsAreKnown k fs

  pub CallsOfEachAreKnown : Knowledge → Terms → Type 0
  CallsOfEachAreKnown k no_terms = ⊤
  CallsOfEachAreKnown k (one_term t ts) = TermCallsAreKnown k t × CallsOfEachAreKnown k ts

  pub CallsOfFieldsAreKnown : Knowledge → Fields → Type 0
  CallsOfFieldsAreKnown k no_fields = ⊤
  CallsOfFieldsAreKnown k (one_field n t fs) = TermCallsAreKnown k t × CallsOfFieldsAreKnown k fs

-- an expression has no unknown, and calls known functions alone where the tree that it is does
abbrev pub KnownCallsStayKnown : Type 0
KnownCallsStayKnown =
    (k : Knowledge) (source : Tokenized) (x : Expr) (p : Tree) → Is source x p →
    CallsAreKnown k source p → TermCallsAreKnown k (view x)

-- so does each expression that is read
abbrev pub WhatIsReadCallsKnown : Type 0
WhatIsReadCallsKnown =
    (k : Knowledge) (text : List ℕ) (limit : ℕ) (x : Expr) → IsRead k text limit x → TermCallsAreKnown k (view x)
