-- Comparisons, one behind the other.
use Rattle.std.proofs.Common.{◌≡◌, refl, sym, ap, subst, ◌∙◌, ◌+◌, ℕ, Bool, true, false, ◌||◌, List, [], ◌∷◌, ◌++◌, append_assoc, append-nil, string_bytes}
use Rattle.cedar_model.specs.Terms.{Text}
use Rattle.cedar_expectations.specs.Compared.{ComparisonView, comparison_view, AreEach, lines_of, is_any_refused, is_any_different}
use Rattle.cedar_expectations.specs.declared.comparisons.Comparison.{Comparison}
use Rattle.cedar_expectations.specs.declared.comparisons.Comparisons.{Comparisons}

assoc_one : (done : List ComparisonView) (c : ComparisonView) (more : List ComparisonView)
    → (done ++ c ∷ []) ++ more ≡ done ++ c ∷ more
assoc_one done c more = append_assoc done (c ∷ []) more

lines_behind : (done : List ComparisonView) (c : ComparisonView) → lines_of (done ++ c ∷ []) ≡ lines_of done ++ c.line
lines_behind [] c = append-nil c.line
lines_behind (b ∷ done) c =
    ap (λ (t : Text). b.line ++ t) (lines_behind done c) ∙ sym (append_assoc b.line (lines_of done) c.line)

or_assoc : (a b c : Bool) → (a || (b || c)) ≡ ((a || b) || c)
or_assoc true b c = refl
or_assoc false b c = refl

or_none : (b : Bool) → (b || false) ≡ b
or_none true = refl
or_none false = refl

refused_behind : (done : List ComparisonView) (c : ComparisonView)
    → is_any_refused (done ++ c ∷ []) ≡ (is_any_refused done || c.is_refused)
refused_behind [] c = or_none c.is_refused
refused_behind (b ∷ done) c =
    ap (λ r. b.is_refused || r) (refused_behind done c) ∙ or_assoc b.is_refused (is_any_refused done) c.is_refused

different_behind : (done : List ComparisonView) (c : ComparisonView)
    → is_any_different (done ++ c ∷ []) ≡ (is_any_different done || c.is_different)
different_behind [] c = or_none c.is_different
different_behind (b ∷ done) c =
    ap (λ r. b.is_different || r) (different_behind done c)
    ∙ or_assoc b.is_different (is_any_different done) c.is_different

-- ---- the loop over the items

-- what is compared is all, once the comparisons of the items that are left stand behind it
pub record AreSoFar {A : Type 0} (Is : ℕ → A → ComparisonView → Type 0) (items left : List A) (n : ℕ) (all : Comparisons)
    : Type 0 where
  pub done : List ComparisonView
  pub output_is : string_bytes all.output ≡ lines_of done
  pub refused_is : all.is_any_refused ≡ is_any_refused done
  pub different_is : all.is_any_different ≡ is_any_different done
  pub goes_on : (more : List ComparisonView) → AreEach Is n left more → AreEach Is 1 items (done ++ more)

module _ {A : Type 0} (Is : ℕ → A → ComparisonView → Type 0) (items : List A) where
  pub none_yet : (all : Comparisons) → string_bytes all.output ≡ [] → all.is_any_refused ≡ false
      → all.is_any_different ≡ false → AreSoFar Is items items 1 all
  none_yet all output refused different = record {
    done = [];
    output_is = output;
    refused_is = refused;
    different_is = different;
    goes_on = λ more are. are;
  }

  pub one_more : (a : A) (left rest : List A) (n : ℕ) (one : Comparison) (all next : Comparisons) → left ≡ a ∷ rest
      → AreSoFar Is items left n all → Is n a (comparison_view one)
      → string_bytes next.output ≡ string_bytes all.output ++ string_bytes one.line
      → next.is_any_refused ≡ (all.is_any_refused || one.is_refused)
      → next.is_any_different ≡ (all.is_any_different || one.is_different) → AreSoFar Is items rest (n + 1) next
  one_more a left rest n one all next left_is so_far is output refused different =
      let c = comparison_view one in
      record {
        done = so_far.done ++ c ∷ [];
        output_is = output ∙ ap (λ (t : Text). t ++ c.line) so_far.output_is ∙ sym (lines_behind so_far.done c);
        refused_is = refused ∙ ap (λ r. r || c.is_refused) so_far.refused_is ∙ sym (refused_behind so_far.done c);
        different_is = different ∙ ap (λ d. d || c.is_different) so_far.different_is
            ∙ sym (different_behind so_far.done c);
        goes_on = λ more are. subst (AreEach Is 1 items) (sym (assoc_one so_far.done c more))
            (so_far.goes_on (c ∷ more) (subst (λ l. AreEach Is n l (c ∷ more)) (sym left_is) (is, are)));
      }

  pub all_each : (left : List A) (n : ℕ) (all : Comparisons) → left ≡ [] → (so_far : AreSoFar Is items left n all)
      → AreEach Is 1 items so_far.done
  all_each left n all none so_far =
      subst (AreEach Is 1 items) (append-nil so_far.done)
      (so_far.goes_on [] (subst (λ l. AreEach Is n l []) (sym none) tt))

-- ---- what holds of each alone

module _ {A : Type 0} (P Q : ℕ → A → ComparisonView → Type 0) (f : (n : ℕ) (a : A) (c : ComparisonView) → P n a c → Q n a c) where
  pub each_of : (n : ℕ) (items : List A) (done : List ComparisonView) → AreEach P n items done → AreEach Q n items done
  each_of n [] [] h = h
  each_of n [] (c ∷ more) h = h
  each_of n (a ∷ rest) [] h = h
  each_of n (a ∷ rest) (c ∷ more) h = (f n a c h.0, each_of (n + 1) rest more h.1)
