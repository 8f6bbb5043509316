-- Literals among parts: those that follow an answered part are their values.
use Rattle.std.specs.Prelude.{◌≡◌, ℕ, suc, ◌+◌, ◌<◌, ◌≤◌, List, [], ◌∷◌, ◌++◌, length, drop, get_or, map}
use Rattle.std.proofs.Common.{refl, sym, ap, ◌∙◌, subst, arith, length-append, length-drop, drop-drop}
use Rattle.std.proofs.lemmas.List.{append-nil}
use Rattle.cedar_model.specs.Terms.{Terms, Literal, literal, one_term}
use Rattle.cedar_model.specs.Values.{plain_represented}
use Rattle.cedar_model.specs.Failures as model
use Rattle.cedar_model.specs.Failures.{value}
use Rattle.cedar_expressions.specs.declared.expr.Expr.{Expr}
use Rattle.cedar_expressions.specs.View.{view, terms_view, expr_loc}
use Rattle.cedar_values.specs.Sound.{Placed, whats}
use Rattle.cedar_restricted.specs.declared.answers.Answers.{Answers}
use Rattle.cedar_restricted.specs.declared.answers.Answers.TheVariants as answereds
use Rattle.cedar_restricted.specs.Parts.{count, all_values, Are}

-- these literals, and then the rest
abbrev pub literals_then : List Literal → Terms → Terms
literals_then [] rest = rest
literals_then (l ∷ ls) rest = one_term (literal l) (literals_then ls rest)

-- what they answer
abbrev pub literal_answers : List Literal → List model.PartialValue
literal_answers ls = map {B = model.PartialValue} (λ l. value (plain_represented l)) ls

-- ---- values of literals

-- the expression is a literal, and this is its value, where the expression stands
pub record IsOfLiteral (e : Expr) (v : Placed) : Type 0 where
  pub of : Literal
  pub seen : view e ≡ literal of
  pub what : v.what ≡ plain_represented of
  pub place : v.loc ≡ expr_loc e

-- each value is that of a literal, in turn; there may be more expressions
abbrev pub AreOfLiterals : List Expr → List Placed → Type 0
AreOfLiterals es [] = Unit {0}
AreOfLiterals [] (v ∷ vs) = ⊥
AreOfLiterals (e ∷ es) (v ∷ vs) = IsOfLiteral e v × AreOfLiterals es vs

-- values, and behind them those of the literals that these expressions begin with
pub record IsGrown (es : List Expr) (before after : List Placed) : Type 0 where
  pub values : List Placed
  pub all : after ≡ before ++ values
  pub each : AreOfLiterals es values

-- answers, and behind them, where they are values, those of the literals that follow in these parts
abbrev pub AreBehind : List Expr → Answers → Answers → Type 0
AreBehind es (answereds.Values vs) (answereds.Values ws) = IsGrown (drop (length vs.items) es) vs.items ws.items
AreBehind es (answereds.Values vs) (answereds.Mixed m) = ⊥
AreBehind es (answereds.Mixed k) (answereds.Values ws) = ⊥
AreBehind es (answereds.Mixed k) (answereds.Mixed m) = m ≡ k

-- ---- laws

-- the literals of which they are the values
record Among (es : List Expr) (vs : List Placed) : Type 0 where
  literals : List Literal
  terms : terms_view es ≡ literals_then literals (terms_view (drop (length vs) es))
  answers : all_values (whats vs) ≡ literal_answers literals
  many : length literals ≡ length vs

among : (es : List Expr) (vs : List Placed) → AreOfLiterals es vs → Among es vs
among es [] h = record { literals = []; terms = refl; answers = refl; many = refl }
among [] (v ∷ vs) h = absurd h
among (e ∷ es) (v ∷ vs) (o, h) =
    let r = among es vs h in record {
      literals = o.of ∷ r.literals;
      terms = λ i. one_term (o.seen i) (r.terms i);
      answers = λ i. value (o.what i) ∷ r.answers i;
      many = ap suc r.many;
    }

values_append : (vs ws : List Placed) → all_values (whats (vs ++ ws)) ≡ all_values (whats vs) ++ all_values (whats ws)
values_append [] ws = refl
values_append (v ∷ vs) ws = ap (λ l. value v.what ∷ l) (values_append vs ws)

-- the literals behind answers
pub record Behind (es : List Expr) (a b : Answers) : Type 0 where
  pub literals : List Literal
  pub follow : terms_view (drop (count a) es) ≡ literals_then literals (terms_view (drop (count b) es))
  pub answers : (ps : List model.PartialValue) → Are a ps → Are b (ps ++ literal_answers literals)
  pub counted : count b ≡ count a + length literals

pub behind : (es : List Expr) (a b : Answers) → AreBehind es a b → Behind es a b
behind es (answereds.Values vs) (answereds.Values ws) grown =
    let r = among (drop (length vs.items) es) grown.values grown.each in
    let many : length ws.items ≡ length vs.items + length grown.values =
    ap length grown.all ∙ length-append vs.items grown.values in record {
      literals = r.literals;
      follow = r.terms ∙ ap (λ l. literals_then r.literals (terms_view l))
          (drop-drop (length grown.values) (length vs.items) es ∙ ap (λ n. drop n es) (sym many));
      answers = λ ps h. ap (λ l. l ++ literal_answers r.literals) h ∙
          ap (λ l. all_values (whats vs.items) ++ l) (sym r.answers) ∙ sym (values_append vs.items grown.values) ∙
          ap (λ l. all_values (whats l)) (sym grown.all);
      counted = many ∙ ap (λ n. length vs.items + n) (sym r.many);
    }
behind es (answereds.Values vs) (answereds.Mixed m) h = absurd h
behind es (answereds.Mixed k) (answereds.Values ws) h = absurd h
behind es (answereds.Mixed k) (answereds.Mixed m) h = record {
  literals = [];
  follow = ap (λ j. terms_view (drop (length j.exprs.items) es)) (sym h);
  answers = λ ps are. subst (λ l. Are (answereds.Mixed m) l) (sym (append-nil ps))
      (subst (λ j. Are (answereds.Mixed j) ps) (sym h) are);
  counted = ap (λ j. length j.exprs.items) h ∙ zero_more (length k.exprs.items);
}
  where
    zero_more : (n : ℕ) → n ≡ n + 0
    zero_more n = omega arith

-- there is a part for each
as_many : (es : List Expr) (vs : List Placed) → AreOfLiterals es vs → length vs ≤ length es
as_many es [] h = omega arith
as_many [] (v ∷ vs) h = absurd h
as_many (e ∷ es) (v ∷ vs) h = let r = as_many es vs h.1 in omega (arith, r)

pub no_more : (es : List Expr) (a b : Answers) → AreBehind es a b → count a ≤ length es → count b ≤ length es
no_more es (answereds.Values vs) (answereds.Values ws) grown h =
    let many : length ws.items ≡ length vs.items + length grown.values =
    ap length grown.all ∙ length-append vs.items grown.values in
    let fit = as_many (drop (length vs.items) es) grown.values grown.each in
    let left = length-drop (length vs.items) es in omega (arith, many, fit, left, h)
no_more es (answereds.Values vs) (answereds.Mixed m) grown h = absurd grown
no_more es (answereds.Mixed k) (answereds.Values ws) grown h = absurd grown
no_more es (answereds.Mixed k) (answereds.Mixed m) grown h =
    subst (λ j. length j.exprs.items ≤ length es) (sym grown) h

-- one more value
pub literals_with : (es : List Expr) (vs : List Placed) (e : Expr) (v : Placed) (n : ℕ) → AreOfLiterals es vs → n ≡
    length vs → n < length es → e ≡ get_or es n e → IsOfLiteral e v → AreOfLiterals es (vs ++ v ∷ [])
literals_with [] [] e v n h many below here o = absurd (omega (arith, below))
literals_with (d ∷ es) [] e v n h many below here o =
    (subst (λ x. IsOfLiteral x v) (subst (λ k. e ≡ get_or (d ∷ es) k e) many here) o, tt)
literals_with [] (w ∷ ws) e v n h many below here o = absurd h
literals_with (d ∷ es) (w ∷ ws) e v n (first, h) many below here o = (
  first,
  literals_with es ws e v (length ws) h refl (omega (arith, many, below))
      (subst (λ k. e ≡ get_or (d ∷ es) k e) many here) o,
)
