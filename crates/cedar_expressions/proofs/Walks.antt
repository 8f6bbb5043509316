-- One step of a walk over two lists of expressions at once: xs is the list, s the slice that the loop goes over, ys what is left of the other list.
use Rattle.std.specs.Slice.Iter.{iter_rest, iter_steps}
use Rattle.std.specs.Option.{is_some}
use Rattle.std.proofs.Common.{◌≡◌, ℕ, ◌+◌, ◌<◌, ◌≤◌, Bool, true, false, not, Option, None, Some, Bor, Iter, ◌&&◌, List, [], ◌∷◌, length, get_or, drop, refl, sym, ap, subst, ◌∙◌, arith}
use Rattle.std.proofs.lemmas.List.{drop_more, drop_all, nil_from_length}
use Rattle.cedar_model.specs.Terms.{no_terms}
use Rattle.cedar_expressions.specs.declared.expr.Expr.{Expr}
use Rattle.cedar_names.specs.Equality.{term_eq, terms_eq}
use Rattle.cedar_expressions.specs.View.{view, terms_view}
use Rattle.cedar_expressions.proofs.Equality.{terms_eq-none, terms_eq-more, terms_eq-less, terms_eq-one}

module _ (xs s ys : List Expr) (i : ℕ) (whole : s ≡ xs) where
  pub terms_step : (zs : List Expr) (x y : Expr) (r : Bool) → i < length s → x ≡ get_or s i x → ys ≡ y ∷ zs → r ≡ term_eq (view x) (view y) → terms_eq (terms_view (drop i xs)) (terms_view ys) ≡ (r && terms_eq (terms_view (drop (i + 1) xs)) (terms_view zs))
  terms_step zs x y r h e f q =
      let rest = drop (i + 1) s in
      subst (λ v. terms_eq (terms_view (drop i v)) (terms_view ys) ≡ (r && terms_eq (terms_view (drop (i + 1) v)) (terms_view zs))) whole
      (ap (λ v. terms_eq (terms_view v) (terms_view ys)) (drop_more s i x h) ∙ ap (λ v. terms_eq (terms_view (v ∷ rest)) (terms_view ys)) (sym e) ∙ ap (λ v. terms_eq (terms_view (x ∷ rest)) (terms_view v)) f ∙ terms_eq-one (view x) (view y) (terms_view rest) (terms_view zs) ∙ ap (λ b. b && terms_eq (terms_view rest) (terms_view zs)) (sym q))

  -- the other list has ended before
  pub terms_short : (x : Expr) → i < length s → ys ≡ [] → terms_eq (terms_view (drop i xs)) (terms_view ys) ≡ false
  terms_short x h f =
      subst (λ v. terms_eq (terms_view (drop i v)) (terms_view ys) ≡ false) whole
      (ap (λ v. terms_eq (terms_view v) (terms_view ys)) (drop_more s i x h) ∙ ap (λ v. terms_eq (terms_view (get_or s i x ∷ drop (i + 1) s)) (terms_view v)) f ∙ terms_eq-less (view (get_or s i x)) (terms_view (drop (i + 1) s)))

  pub terms_end : length s ≤ i → terms_eq (terms_view (drop i xs)) (terms_view ys) ≡ terms_eq no_terms (terms_view ys)
  terms_end h =
      subst (λ v. terms_eq (terms_view (drop i v)) (terms_view ys) ≡ terms_eq no_terms (terms_view ys)) whole
      (ap (λ v. terms_eq (terms_view v) (terms_view ys)) (drop_all i s h))

pub and_when : (a b : Bool) → a ≡ true → (a && b) ≡ b
and_when a b e = ap (λ x. x && b) e

pub and_unless : (a b : Bool) → a ≡ false → (a && b) ≡ false
and_unless a b e = ap (λ x. x && b) e

-- the other list has ended too exactly where it has no next part
pub terms_over : (left after : Iter Expr) (next : Option (Bor Expr)) (over : Bool) → iter_steps left next after → is_some next ≡ not over → terms_eq no_terms (terms_view (iter_rest left)) ≡ over
terms_over left after None true h e = ap (λ v. terms_eq no_terms (terms_view v)) (nil_from_length (iter_rest left) h.0) ∙ terms_eq-none
terms_over left after None false h e = absurd (cc)
terms_over left after (Some x) true h e = absurd (cc)
terms_over left after (Some x) false h e =
    ap (λ v. terms_eq no_terms (terms_view v)) h ∙ terms_eq-more (view x.now) (terms_view (iter_rest after))
