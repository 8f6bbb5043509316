-- Steps that make a tree of their own, behind others.
use Rattle.std.proofs.Common.{◌≡◌, ◌∙◌, ℕ, ◌+◌, ◌≤◌, List, [], ◌∷◌, ◌++◌, length, refl, sym, ap, subst, arith, suc, zero}
use Rattle.cedar_text_syntax.specs.declared.steps.What.{What}
use Rattle.cedar_text_syntax.specs.declared.steps.What.TheVariants as what
use Rattle.cedar_text_syntax.specs.declared.steps.Step.{Step}
use Rattle.cedar_text_syntax.specs.Trees.{Tree, Trees, also, bracketed, gathered, left_below, made, parts_of, FindParts}
use Rattle.cedar_text_syntax.specs.Trees.{trees_from, trees}

gathered_more : (n : ℕ) (us ts : List Tree) → n ≤ length us → gathered n (us ++ ts) ≡ gathered n us
gathered_more zero us ts le = refl
gathered_more (suc n) [] ts le = absurd (omega (arith, le))
gathered_more (suc n) (u ∷ us) ts le = ap (λ (ps : Trees). also ps u) (gathered_more n us ts (omega (arith, le)))

left_below_more : (n : ℕ) (us ts : List Tree) → n ≤ length us → left_below n (us ++ ts) ≡ left_below n us ++ ts
left_below_more zero us ts le = refl
left_below_more (suc n) [] ts le = absurd (omega (arith, le))
left_below_more (suc n) (u ∷ us) ts le = left_below_more n us ts (omega (arith, le))

-- what a step makes of trees that lie on others
made_more : (w : What) (s e : ℕ) (us ts : List Tree) → parts_of w ≤ length us →
    made w s e (us ++ ts) ≡ made w s e us ++ ts
made_more (what.Leaf l) s e us ts le = refl
made_more (what.Unary u) s e [] ts le = absurd (omega (arith, le))
made_more (what.Unary u) s e (p ∷ us) ts le = refl
made_more (what.Binary b) s e [] ts le = absurd (omega (arith, le))
made_more (what.Binary b) s e (q ∷ []) ts le = absurd (omega (arith, le))
made_more (what.Binary b) s e (q ∷ p ∷ us) ts le = refl
made_more what.If s e [] ts le = absurd (omega (arith, le))
made_more what.If s e (r ∷ []) ts le = absurd (omega (arith, le))
made_more what.If s e (r ∷ q ∷ []) ts le = absurd (omega (arith, le))
made_more what.If s e (r ∷ q ∷ p ∷ us) ts le = refl
made_more (what.Field i) s e [] ts le = absurd (omega (arith, le))
made_more (what.Field i) s e (p ∷ us) ts le = refl
made_more (what.Bracketed k n) s e us ts le =
    ap (λ (ps : Trees). bracketed k ps s e ∷ left_below n (us ++ ts)) (gathered_more n us ts le)
    ∙ ap (λ (vs : List Tree). bracketed k (gathered n us) s e ∷ vs) (left_below_more n us ts le)

trees_more : (us ts : List Tree) (xs : List Step) → FindParts us xs →
    trees_from (us ++ ts) xs ≡ trees_from us xs ++ ts
trees_more us ts [] h = refl
trees_more us ts (x ∷ xs) h =
    ap (λ (vs : List Tree). trees_from vs xs) (made_more x.what x.start x.end us ts h.0)
    ∙ trees_more (made x.what x.start x.end us) ts xs h.1

length_more : (us ts : List Tree) → length (us ++ ts) ≡ length us + length ts
length_more [] ts = omega arith
length_more (u ∷ us) ts = omega (arith, length_more us ts)

find_more : (us ts : List Tree) (xs : List Step) → FindParts us xs → FindParts (us ++ ts) xs
find_more us ts [] h = tt
find_more us ts (x ∷ xs) h = (
  omega (arith, h.0, length_more us ts),
  subst (λ (vs : List Tree). FindParts vs xs) (sym (made_more x.what x.start x.end us ts h.0))
      (find_more (made x.what x.start x.end us) ts xs h.1),
)

trees_behind : (ts : List Tree) (xs ys : List Step) → trees_from ts (xs ++ ys) ≡ trees_from (trees_from ts xs) ys
trees_behind ts [] ys = refl
trees_behind ts (x ∷ xs) ys = trees_behind (made x.what x.start x.end ts) xs ys

find_behind : (ts : List Tree) (xs ys : List Step) → FindParts ts xs → FindParts (trees_from ts xs) ys →
    FindParts ts (xs ++ ys)
find_behind ts [] ys h g = g
find_behind ts (x ∷ xs) ys h g = (h.0, find_behind (made x.what x.start x.end ts) xs ys h.1 g)

-- steps that find their parts among their own, behind others
pub find_appended : (xs ys : List Step) → FindParts [] xs → FindParts [] ys → FindParts [] (xs ++ ys)
find_appended xs ys h g = find_behind [] xs ys h (find_more [] (trees xs) ys g)

-- steps that make a tree, behind others
pub trees_appended : {p : Tree} (xs ys : List Step) → FindParts [] ys → trees ys ≡ p ∷ [] →
    trees (xs ++ ys) ≡ p ∷ trees xs
trees_appended xs ys h is =
    trees_behind [] xs ys ∙ trees_more [] (trees xs) ys h ∙ ap (λ (us : List Tree). us ++ trees xs) is
