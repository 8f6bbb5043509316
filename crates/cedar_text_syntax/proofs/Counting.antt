-- The counts are those of the trees that the steps make.
use Rattle.std.proofs.Common.{◌≡◌, ℕ, ◌+◌, ◌<◌, List, [], ◌∷◌, length, take, subst, sym, ap, ◌∙◌, refl, arith, get_or}
use Rattle.std.proofs.Common.{suc, zero, Option, None, Some, IfSome}
use Rattle.std.proofs.lemmas.List.{take_more}
use Rattle.cedar_text_syntax.specs.Nodes.{nodes, total, each, joined, sum_of, rest_of, counted}
use Rattle.cedar_text_syntax.specs.Trees.{Tree, made, trees, gathered, left_below}
use Rattle.cedar_text_syntax.specs.declared.steps.Binary.{Binary}
use Rattle.cedar_text_syntax.specs.declared.steps.Step.{Step}
use Rattle.cedar_text_syntax.specs.declared.steps.What.{What}
use Rattle.cedar_text_syntax.specs.declared.steps.What.TheVariants as what
use Rattle.cedar_text_syntax.proofs.Making.{trees_push}

sum_is : (n : ℕ) (ts : List Tree) → sum_of n (each ts) ≡ total (gathered n ts)
sum_is zero ts = refl
sum_is (suc n) [] = refl
sum_is (suc n) (t ∷ ts) = ap (λ m. m + nodes t) (sum_is n ts)

rest_is : (n : ℕ) (ts : List Tree) → rest_of n (each ts) ≡ each (left_below n ts)
rest_is zero ts = refl
rest_is (suc n) [] = refl
rest_is (suc n) (t ∷ ts) = rest_is n ts

counted_made : (w : What) (s e : ℕ) (ts : List Tree) → counted w (each ts) ≡ each (made w s e ts)
counted_made (what.Leaf l) s e ts = refl
counted_made (what.Unary u) s e [] = refl
counted_made (what.Unary u) s e (p ∷ ts) = refl
counted_made (what.Binary b) s e [] = refl
counted_made (what.Binary b) s e (q ∷ []) = refl
counted_made (what.Binary b) s e (q ∷ p ∷ ts) = refl
counted_made what.If s e [] = refl
counted_made what.If s e (r ∷ []) = refl
counted_made what.If s e (r ∷ q ∷ []) = refl
counted_made what.If s e (r ∷ q ∷ p ∷ ts) = refl
counted_made (what.Field i) s e [] = refl
counted_made (what.Field i) s e (p ∷ ts) = refl
counted_made (what.Bracketed k n) s e ts =
    ap (λ m. (m + 1) ∷ rest_of n (each ts)) (sum_is n ts) ∙ ap (λ cs. (total (gathered n ts) + 1) ∷ cs) (rest_is n ts)

-- the counts after a step more
pub step_counted : {cs ds : List ℕ} (steps : List Step) (i : ℕ) (d : Step) → i < length steps →
    cs ≡ each (trees (take i steps)) → ds ≡ counted (get_or steps i d).what cs →
    ds ≡ each (trees (take (i + 1) steps))
step_counted {cs} {ds} steps i d lt is next =
    let x = get_or steps i d in
    next ∙ ap (counted x.what) is ∙ counted_made x.what x.start x.end (trees (take i steps))
    ∙ sym (ap each (ap trees (take_more steps i d lt) ∙ trees_push (take i steps) x))

-- one count more
sum_suc : (n : ℕ) (os cs : List ℕ) (c : ℕ) → rest_of n os ≡ c ∷ cs → sum_of (suc n) os ≡ sum_of n os + c
sum_suc zero [] cs c is = absurd (grind (arith, is))
sum_suc zero (o ∷ os) cs c is = grind (arith, is)
sum_suc (suc n) [] cs c is = absurd (grind (arith, is))
sum_suc (suc n) (o ∷ os) cs c is = omega (arith, sum_suc n os cs c is)

rest_suc : (n : ℕ) (os cs : List ℕ) (c : ℕ) → rest_of n os ≡ c ∷ cs → rest_of (suc n) os ≡ cs
rest_suc zero [] cs c is = absurd (grind (arith, is))
rest_suc zero (o ∷ os) cs c is = grind (arith, is)
rest_suc (suc n) [] cs c is = absurd (grind (arith, is))
rest_suc (suc n) (o ∷ os) cs c is = rest_suc n os cs c is

one_more : (n : ℕ) → suc n ≡ n + 1
one_more n = omega arith

pub sum_more : (n : ℕ) (os cs : List ℕ) (c : ℕ) → rest_of n os ≡ c ∷ cs → sum_of (n + 1) os ≡ sum_of n os + c
sum_more n os cs c is = subst (λ m. sum_of m os ≡ sum_of n os + c) (one_more n) (sum_suc n os cs c is)

pub rest_more : (n : ℕ) (os cs : List ℕ) (c : ℕ) → rest_of n os ≡ c ∷ cs → rest_of (n + 1) os ≡ cs
rest_more n os cs c is = subst (λ m. rest_of m os ≡ cs) (one_more n) (rest_suc n os cs c is)

-- ---- what steps of two and three parts take

pub two_taken : {os ps qs : List ℕ} {m n : ℕ} (b : Binary) (r : Option ℕ) → os ≡ n ∷ ps → ps ≡ m ∷ qs →
    IfSome r (λ x. x ≡ joined b m n) → IfSome r (λ x. x ∷ qs ≡ counted (what.Binary b) os)
two_taken b None first second is = tt
two_taken {qs = qs} b (Some x) first second is = rw (first, second) (ap (λ y. y ∷ qs) is)

pub three_taken : {os ps qs rs : List ℕ} {l m n : ℕ} (r : Option ℕ) → os ≡ n ∷ ps → ps ≡ m ∷ qs → qs ≡ l ∷ rs →
    IfSome r (λ x. x ≡ l + m + n + 1) → IfSome r (λ x. x ∷ rs ≡ counted what.If os)
three_taken None first second third is = tt
three_taken {rs = rs} (Some x) first second third is = rw (first, second, third) (ap (λ y. y ∷ rs) is)
