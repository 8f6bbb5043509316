-- Each step finds the trees that it takes.
use Rattle.std.proofs.Common.{◌≡◌, ℕ, ◌+◌, ◌≤◌, List, [], ◌∷◌, ◌++◌, length, arith, Bool, suc, zero}
use Rattle.cedar_text_lexer.specs.declared.tokens.Kind.{Kind}
use Rattle.cedar_text_lexer.specs.declared.tokens.Token.{Token}
use Rattle.cedar_text_syntax.specs.declared.levels.Operator.{Operator}
use Rattle.cedar_text_syntax.specs.declared.steps.Sign.{Sign}
use Rattle.cedar_text_syntax.specs.declared.steps.Unary.{Unary}
use Rattle.cedar_text_syntax.specs.declared.steps.Unary.TheVariants as unaries
use Rattle.cedar_text_syntax.specs.declared.steps.Bracketed.{Bracketed}
use Rattle.cedar_text_syntax.specs.declared.steps.What.TheVariants as what
use Rattle.cedar_text_syntax.specs.declared.steps.Step.{Step}
use Rattle.cedar_text_syntax.specs.declared.frames.Frame.{Frame}
use Rattle.cedar_text_syntax.specs.declared.frames.Wait.TheVariants as wait
use Rattle.cedar_text_syntax.specs.Trees.{Tree, Trees, none, also, count, stacked, made, parts_of, FindParts, trees}
use Rattle.cedar_text_syntax.specs.Trees.{trees_from, signs_made}
use Rattle.cedar_text_syntax.specs.Reading.{Look, behind_infix, behind_is_in, behind_else, brackets, HasOpened, opened}
use Rattle.cedar_text_syntax.specs.Reading.{Reads, part, Behind, behind, IsRelated, HasItem, has_item}

find_from : (ts : List Tree) (xs : List Step) (x : Step) → FindParts ts xs →
    parts_of x.what ≤ length (trees_from ts xs) → FindParts ts (xs ++ x ∷ [])
find_from ts [] x h le = (le, tt)
find_from ts (y ∷ xs) x h le = (h.0, find_from (made y.what y.start y.end ts) xs x h.1 le)

-- a step more, which finds its parts
pub found : (xs : List Step) (x : Step) → FindParts [] xs → parts_of x.what ≤ length (trees xs) →
    FindParts [] (xs ++ x ∷ [])
found xs x h le = find_from [] xs x h le

pub read_one : {all : List Token} {l : Look} {i : ℕ} → Reads all l i → 1 ≤ length l.trees
read_one (part w d lt) = omega arith

pub behind_one : {all : List Token} {w : Kind} {l : Look} {i : ℕ} → Behind all w l i → 1 ≤ length l.trees
behind_one (behind r k) = read_one r

pub related_one : {all : List Token} {w : Kind} {l : Look} {i : ℕ} → IsRelated all w l i → 1 ≤ length l.trees
related_one r = behind_one r.read

pub infix_two : {all : List Token} {fs : List Frame} {ts : List Tree} {o : Operator} {n l s e g h j : ℕ} →
    Reads all (record {
      frames = record { wait = wait.Infix o; start = s; height = h } ∷ fs;
      trees = ts;
      level = l;
      start = g;
      end = e;
      height = n;
    }) j → 2 ≤ length ts
infix_two (part (behind_infix w d le lt k) f below) = omega arith

pub is_in_two : {all : List Token} {fs : List Frame} {ts : List Tree} {from to n l s e g h j : ℕ} →
    Reads all (record {
      frames = record { wait = wait.IsIn from to; start = s; height = h } ∷ fs;
      trees = ts;
      level = l;
      start = g;
      end = e;
      height = n;
    }) j → 2 ≤ length ts
is_in_two (part (behind_is_in w d le lt k p m) f below) = omega arith

pub else_three : {all : List Token} {fs : List Frame} {ts : List Tree} {n l s e g h j : ℕ} →
    Reads all (record {
      frames = record { wait = wait.Else; start = s; height = h } ∷ fs;
      trees = ts;
      level = l;
      start = g;
      end = e;
      height = n;
    }) j → 3 ≤ length ts
else_three (part (behind_else w lt k d l f m) g below) = omega arith

unary_one : (u : Unary) (s e : ℕ) (ts : List Tree) → 1 ≤ length ts → 1 ≤ length (made (what.Unary u) s e ts)
unary_one u s e [] le = absurd (omega (arith, le))
unary_one u s e (t ∷ ts) le = omega arith

pub signs_one : (u : Sign) (c s e : ℕ) (ts : List Tree) → 1 ≤ length ts → 1 ≤ length (signs_made u c s e ts)
signs_one u zero s e ts le = le
signs_one u (suc c) s e ts le = unary_one (unaries.Sign u) s e (signs_made u c s e ts) (signs_one u c s e ts le)

pub stacked_count : (ps : Trees) (ts : List Tree) → count ps ≤ length (stacked ps ts)
stacked_count none ts = omega arith
stacked_count (also ps p) ts = omega (arith, stacked_count ps ts)

pub opened_count : {all : List Token} {b : Bool} {k : Bracketed} {fs : List Frame} {ts : List Tree} {n s h i : ℕ} →
    HasOpened all b (record { wait = wait.Item k n; start = s; height = h } ∷ fs) ts i → n ≤ length ts
opened_count (opened {ts = us} {ps = ps} w o) = stacked_count ps us

pub item_parts : {all : List Token} {k : Bracketed} {fs : List Frame} {ts : List Tree} {n s h g j : ℕ} →
    HasItem all k n s h fs ts g j → n + 1 ≤ length ts
item_parts (has_item (brackets {ts = us} {qs = qs} w o b) f) = omega (arith, stacked_count qs us)

pub signs_found : {us : List Tree} (u : Sign) (c s e : ℕ) (ts : List Tree) → us ≡ signs_made u c s e ts →
    1 ≤ length ts → 1 ≤ length us
signs_found u c s e ts us_is le = rw us_is (signs_one u c s e ts le)
