-- Equality of pairs under their names, as that of the records that they make.
use Rattle.std.proofs.Common.{◌≡◌, Bool, true, false, ◌&&◌, List, [], ◌∷◌, nat_eq, refl, sym, ap, ◌∙◌}
use Rattle.std.specs.Rc.{rc_str_bytes}
use Rattle.std.specs.Cmp.Lexicographic.{pointwise, slice_cmp, texts_ties}
use Rattle.std.specs.Ordering.{is_eq, ordering_then, nat_cmp}
use Rattle.cedar_model.specs.Terms.{record_of}
use Rattle.cedar_model.specs.Values.{record_represented}
use Rattle.cedar_model.specs.Outcomes.{text_eq}
use Rattle.cedar_names.specs.Equality.{term_eq, fields_eq}
use Rattle.cedar_names.proofs.Equality.{then_eq}
use Rattle.cedar_expressions.specs.View.{view, fields_view}
use Rattle.cedar_expressions.proofs.Equality.{term_eq-record_of, fields_eq-none, fields_eq-more, fields_eq-less}
use Rattle.cedar_expressions.proofs.Equality.{fields_eq-one}
use Rattle.cedar_values.specs.Compared.{represented_cmp, represented_eq, entries_cmp}
use Rattle.cedar_values.specs.Sound.{whats_at}
use Rattle.cedar_values.proofs.Order.{key_cmp-entries}
use Rattle.cedar_requests.proofs.Copies.{ValuePair, ExprPair}

and_assoc : (a b c : Bool) → ((a && b) && c) ≡ (a && (b && c))
and_assoc true b c = refl
and_assoc false b c = refl

abbrev pub value_pairs_eq : List ValuePair → List ValuePair → Bool
value_pairs_eq = pointwise (λ p q. pointwise nat_eq (rc_str_bytes p.0) (rc_str_bytes q.0) && represented_eq p.1.what
    q.1.what)

abbrev pub expr_pairs_eq : List ExprPair → List ExprPair → Bool
expr_pairs_eq = pointwise (λ p q. pointwise nat_eq (rc_str_bytes p.0) (rc_str_bytes q.0) && term_eq (view p.1)
    (view q.1))

entries_eq : (fs gs : List ValuePair) → value_pairs_eq fs gs ≡ is_eq (entries_cmp fs gs)
entries_eq [] [] = refl
entries_eq [] (g ∷ gs) = refl
entries_eq (f ∷ fs) [] = refl
entries_eq (f ∷ fs) (g ∷ gs) =
    let names = slice_cmp nat_cmp (rc_str_bytes f.0) (rc_str_bytes g.0) in
    let values = represented_cmp f.1.what g.1.what in
    (λ i. (texts_ties (rc_str_bytes f.0) (rc_str_bytes g.0) i && is_eq values) && entries_eq fs gs i)
    ∙ and_assoc (is_eq names) (is_eq values) (is_eq (entries_cmp fs gs))
    ∙ sym (then_eq names (ordering_then values (entries_cmp fs gs))
    ∙ ap (λ b. is_eq names && b) (then_eq values (entries_cmp fs gs)))

pub values_eq : (fs gs : List ValuePair) → value_pairs_eq fs gs
    ≡ represented_eq (record_represented (whats_at fs)) (record_represented (whats_at gs))
values_eq fs gs = entries_eq fs gs ∙ ap is_eq (sym (key_cmp-entries fs gs))

fields_eq-pairs : (fs gs : List ExprPair) → expr_pairs_eq fs gs ≡ fields_eq (fields_view fs) (fields_view gs)
fields_eq-pairs [] [] = sym fields_eq-none
fields_eq-pairs [] (g ∷ gs) = sym (fields_eq-more _ _ _)
fields_eq-pairs (f ∷ fs) [] = sym (fields_eq-less _ _ _)
fields_eq-pairs (f ∷ fs) (g ∷ gs) =
    let terms = term_eq (view f.1) (view g.1) in
    ap (λ b. (text_eq (rc_str_bytes f.0) (rc_str_bytes g.0) && terms) && b) (fields_eq-pairs fs gs)
    ∙ and_assoc (text_eq (rc_str_bytes f.0) (rc_str_bytes g.0)) terms (fields_eq (fields_view fs) (fields_view gs))
    ∙ sym (fields_eq-one (rc_str_bytes f.0) (rc_str_bytes g.0) (view f.1) (view g.1) (fields_view fs) (fields_view gs))

pub exprs_eq : (fs gs : List ExprPair) → expr_pairs_eq fs gs
    ≡ term_eq (record_of (fields_view fs)) (record_of (fields_view gs))
exprs_eq fs gs = fields_eq-pairs fs gs ∙ sym (term_eq-record_of (fields_view fs) (fields_view gs))
