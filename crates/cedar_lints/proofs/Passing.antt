-- One more of a list is passed, and all of it.
use Rattle.std.proofs.Common.{◌≡◌, ◌∙◌, sym, ap, ℕ, ◌+◌, ◌<◌, List, [], ◌∷◌, ◌++◌, length, get_or, drop, take, append_assoc, append-nil}
use Rattle.std.proofs.Math.Seq.{take-append_seam}
use Rattle.std.proofs.lemmas.List.{drop_more}
use Rattle.cedar_model.specs.Terms.{EntityName}
use Rattle.cedar_lints.specs.Keys.{Key, Sheet, noted_each}
use Rattle.cedar_lints.specs.Knowing.{Known, with_each}
use Rattle.cedar_lints.proofs.KnownSets.{with_each-append}
use Rattle.cedar_lints.proofs.Noting.{noted_each-append}

-- what is left, and its first
pub drop_next : {A : Type 0} (xs : List A) (i : ℕ) (x : A) → i < length xs → x ≡ get_or xs i x → drop i xs
    ≡ x ∷ drop (i + 1) xs
drop_next xs i x h is = drop_more xs i x h ∙ ap (λ y. y ∷ drop (i + 1) xs) (sym is)

-- things that are put behind others
pub pushed_more : {B : Type 0} (before after total first rest all : List B) → all ≡ first ++ rest → after
    ≡ before ++ first → before ++ all ≡ total
    → after ++ rest ≡ total
pushed_more before after total first rest all is pushed whole =
    ap (λ ys. ys ++ rest) pushed ∙ append_assoc before first rest ∙ ap (λ ys. before ++ ys) (sym is) ∙ whole

pub pushed_all : {B : Type 0} (before total all : List B) → all ≡ [] → before ++ all ≡ total → before ≡ total
pushed_all before total all none whole = sym (append-nil before) ∙ ap (λ ys. before ++ ys) (sym none) ∙ whole

-- one was put behind others, and taken away again
pub cut_back : {A : Type 0} (old pushed walked cut : List A) (n : ℕ) (x : A) → n ≡ length old → pushed ≡ old ++ x ∷ []
    → walked ≡ pushed
    → cut ≡ take n walked → cut ≡ old
cut_back old pushed walked cut n x count put same is =
    is ∙ (λ i. take (count i) ((same ∙ put) i)) ∙ take-append_seam old (x ∷ [])

-- the same of two and of three parts
pub two_parts : {B : Type 0} (old one two first second : List B) → one ≡ old ++ first → two ≡ one ++ second → two
    ≡ old ++ (first ++ second)
two_parts old one two first second e f = f ∙ ap (λ ys. ys ++ second) e ∙ append_assoc old first second

pub three_parts : {B : Type 0} (old one two three first second third : List B) → one ≡ old ++ first → two
    ≡ one ++ second → three ≡ two ++ third
    → three ≡ old ++ (first ++ (second ++ third))
three_parts old one two three first second third e f g =
    two_parts old one three first (second ++ third) e (two_parts one two three second third f g)

-- things that are noted
module _ {A : Type 0} (key : A → Key) where
  pub noted_more : (before after total : Sheet A) (first rest all : List A) → all ≡ first ++ rest → after
      ≡ noted_each key before first
      → noted_each key before all ≡ total → noted_each key after rest ≡ total
  noted_more before after total first rest all is noted whole =
      ap (λ s. noted_each key s rest) noted ∙ sym (noted_each-append key before first rest)
      ∙ ap (noted_each key before) (sym is) ∙ whole

  pub noted_all : (before total : Sheet A) (all : List A) → all ≡ [] → noted_each key before all ≡ total → before
      ≡ total
  noted_all before total all none whole = ap (noted_each key before) (sym none) ∙ whole

-- names that are known
pub known_more : (before after total : Known) (first rest all : List EntityName) → all ≡ first ++ rest → after
    ≡ with_each before first
    → with_each before all ≡ total → with_each after rest ≡ total
known_more before after total first rest all is known whole =
    ap (λ k. with_each k rest) known ∙ sym (with_each-append before first rest) ∙ ap (with_each before) (sym is) ∙ whole

pub known_all : (before total : Known) (all : List EntityName) → all ≡ [] → with_each before all ≡ total → before
    ≡ total
known_all before total all none whole = ap (with_each before) (sym none) ∙ whole
