-- What is made of restricted parts is restricted; and an expression without a disallowed part is.
use Rattle.std.proofs.Common.{◌≡◌, Bool, true, false, ◌&&◌, List, [], ◌∷◌, Option, Some, None, Ordering, Less, Equal}
use Rattle.std.proofs.Common.{Greater, option_map, refl, Global}
use Rattle.std.proofs.lemmas.Bool.{and_parts}
use Rattle.std.specs.Ordering.{match_ordering, nat_cmp}
use Rattle.std.specs.Cmp.Lexicographic.{slice_cmp}
use Rattle.std.specs.declared.rc.RcStr.{RcStr}
use Rattle.cedar_model.specs.Terms.{Text, Term, Fields, no_fields, one_field}
use Rattle.cedar_model.specs.Shapes.{is_restricted, are_restricted, are_restricted_at}
use Rattle.cedar_model.specs.Restricted.{Disallowed, first_disallowed}
use Rattle.cedar_model.proofs.RestrictedAnswers.{none_disallowed, sound_restricted}
use Rattle.cedar_model.specs.Values.{expression_of}
use Rattle.cedar_values.specs.Sound.{Placed}
use Rattle.cedar_expressions.specs.View.{terms_view}
use Rattle.cedar_expressions.specs.Records.{put_field, put_fields, pairs_view, fields_in_order}
use Rattle.cedar_restricted.specs.declared.restricted_expr.RestrictedExpr.{RestrictedExpr}
use Rattle.cedar_restricted.specs.Views.{exprs_in, pairs_in}
use Rattle.cedar_restricted.specs.Refusals.{with_its_text}

pub parts_restricted : (rs : List RestrictedExpr) → are_restricted (terms_view (exprs_in rs)) ≡ true
parts_restricted [] = refl
parts_restricted (r ∷ rs) = λ i. r.restricted i && parts_restricted rs i

-- ---- records

chosen_restricted : (o : Ordering) (x y z : Fields) → are_restricted_at x ≡ true → are_restricted_at y ≡ true →
    are_restricted_at z ≡ true → are_restricted_at (match_ordering o x y z) ≡ true
chosen_restricted Less x y z g h k = g
chosen_restricted Equal x y z g h k = h
chosen_restricted Greater x y z g h k = k

field_restricted : (fs : Fields) (k : Text) (t : Term) → are_restricted_at fs ≡ true → is_restricted t ≡ true →
    are_restricted_at (put_field fs k t) ≡ true
field_restricted no_fields k t h g = λ i. g i && true
field_restricted (one_field l u fs) k t h g =
    let rest : are_restricted_at fs ≡ true = (and_parts (is_restricted u) (are_restricted_at fs) h).1 in
    let this : is_restricted u ≡ true = (and_parts (is_restricted u) (are_restricted_at fs) h).0 in
    chosen_restricted (slice_cmp nat_cmp k l) (one_field k t (one_field l u fs)) (one_field l t fs)
    (one_field l u (put_field fs k t)) (λ i. g i && h i) (λ i. g i && rest i)
    (λ i. this i && field_restricted fs k t rest g i)

fields_restricted : (fs : Fields) (rs : List (RcStr Global × RestrictedExpr)) → are_restricted_at fs ≡ true →
    are_restricted_at (put_fields fs (pairs_view (pairs_in rs))) ≡ true
fields_restricted fs [] h = h
fields_restricted fs (r ∷ rs) h =
    fields_restricted (put_field fs _ _) rs (field_restricted fs _ _ h r.1.restricted)

pub record_restricted : (rs : List (RcStr Global × RestrictedExpr)) →
    are_restricted_at (fields_in_order (pairs_view (pairs_in rs))) ≡ true
record_restricted rs = fields_restricted no_fields rs refl

pub ruleset made = (parts_restricted, record_restricted)

-- ---- values

pub value_restricted : (p : Placed) → is_restricted (expression_of p.what) ≡ true
value_restricted p = sound_restricted p.what p.sound

-- ---- no disallowed part

pub none_named : (o : Option Disallowed) → None ≡ option_map with_its_text o → o ≡ None
none_named None h = refl
none_named (Some d) h = absurd (cc)

pub none_found : (t : Term) → None ≡ option_map with_its_text (first_disallowed t) → is_restricted t ≡ true
none_found t h = (none_disallowed t).0 (none_named (first_disallowed t) h)
