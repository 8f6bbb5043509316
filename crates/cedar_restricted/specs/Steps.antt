-- Sets, records and calls against the rules, part by part.
use Rattle.std.specs.Prelude.{◌≡◌, ℕ, zero, suc, true, ◌&&◌, List, [], ◌∷◌, ◌++◌, length, drop, get_or, ◌<◌}
use Rattle.std.specs.Prelude.{Option, Some, None, Result, Ok, Err}
use Rattle.std.proofs.Common.{refl, sym, ap, ◌∙◌, subst, arith, append_assoc}
use Rattle.std.proofs.lemmas.Bool.{and_parts}
use Rattle.std.proofs.lemmas.List.{append-nil}
use Rattle.std.specs.declared.alloc.Global.{Global}
use Rattle.std.specs.declared.rc.RcStr.{RcStr}
use Rattle.cedar_model.specs.Terms.{Text, Term, Literal, literal, call, set_of, record_of, Terms, no_terms, one_term}
use Rattle.cedar_model.specs.Values.{Represented, plain_represented}
use Rattle.cedar_model.specs.Shapes.{is_restricted, are_restricted, are_restricted_at}
use Rattle.cedar_model.specs.Failures as model
use Rattle.cedar_model.specs.Failures.{Failure, value, residual, Answer, answers, fails}
use Rattle.cedar_model.specs.Failures.{answers_residual, part_expression}
use Rattle.cedar_model.specs.Settings.{Setting}
use Rattle.cedar_model.specs.Rules.{StoredCalls, MayAnswer, Rule, Parts, FieldParts, AfterValues, part_then}
use Rattle.cedar_model.specs.Rules.{field_part_then}
use Rattle.cedar_model.specs.Rules.{add_value, add_value_at, values_of_parts, values_of_field_parts, terms_of_parts}
use Rattle.cedar_model.specs.Rules.{fields_of_parts, set_answer, set_of_parts, record_answer, record_of_parts}
use Rattle.cedar_names.specs.Names.{name_text}
use Rattle.cedar_expressions.specs.declared.expr.Expr.{Expr}
use Rattle.cedar_expressions.specs.View.{view, terms_view}
use Rattle.cedar_values.specs.Sound.{whats}
use Rattle.cedar_restricted.specs.declared.whole.Whole.{Whole}
use Rattle.cedar_restricted.specs.declared.whole.Whole.TheVariants as wholes
use Rattle.cedar_restricted.specs.declared.answers.Answers.{Answers}
use Rattle.cedar_restricted.specs.declared.answers.Answers.TheVariants as answereds
use Rattle.cedar_restricted.specs.Keys.{texts_of, fields_named, each_under}
use Rattle.cedar_restricted.specs.Parts.{whole_term, HasKeys, count, all_values, Are, Makes, parts_after, SoFar}
use Rattle.cedar_restricted.specs.Literals.{literals_then, literal_answers}

abbrev PartsFound : Type 0
PartsFound = Result (List model.PartialValue) Failure

-- ---- parts in turn

parts_after-append : (ps : List model.PartialValue) (p : model.PartialValue) (r : PartsFound) →
    parts_after (ps ++ p ∷ []) r ≡ parts_after ps (part_then p r)
parts_after-append [] p r = refl
parts_after-append (q ∷ ps) p r = ap (part_then q) (parts_after-append ps p r)

parts_after-ok : (ps : List model.PartialValue) → parts_after ps (Ok []) ≡ Ok ps
unfolding part_then
parts_after-ok [] = refl
parts_after-ok (p ∷ ps) = ap (part_then p) (parts_after-ok ps)

parts_after-err : (ps : List model.PartialValue) (e : Failure) → parts_after ps (Err e) ≡ Err e
unfolding part_then
parts_after-err [] e = refl
parts_after-err (p ∷ ps) e = ap (part_then p) (parts_after-err ps e)

module _ (May : MayAnswer) where
  pub so_far_none : (all : Terms) → SoFar May all all []
  so_far_none all r h = h

  pub so_far_more : (all rest more : Terms) (t : Term) (ps : List model.PartialValue) (p : model.PartialValue) →
      SoFar May all rest ps → rest ≡ one_term t more → May t (answers p) → SoFar May all more (ps ++ p ∷ [])
  so_far_more all rest more t ps p so_far is may r h =
      let now : Parts May rest (part_then p r) =
      subst (λ ts. Parts May ts (part_then p r)) (sym is) (answers p, may, (r, h, refl)) in
      subst (Parts May all) (sym (parts_after-append ps p r)) (so_far (part_then p r) now)

  -- literals, which are their values
  pub so_far_literals : (all rest : Terms) (ls : List Literal) (ps : List model.PartialValue) →
      ((l : Literal) → May (literal l) (answers (value (plain_represented l)))) →
      SoFar May all (literals_then ls rest) ps → SoFar May all rest (ps ++ literal_answers ls)
  so_far_literals all rest [] ps may so_far = subst (SoFar May all rest) (sym (append-nil ps)) so_far
  so_far_literals all rest (l ∷ ls) ps may so_far =
      let v = value (plain_represented l) in
      subst (SoFar May all rest) (append_assoc ps (v ∷ []) (literal_answers ls))
      (so_far_literals all rest ls (ps ++ v ∷ []) may
      (so_far_more all (literals_then (l ∷ ls) rest) (literals_then ls rest) (literal l) ps v so_far refl (may l)))

  pub so_far_all : (all rest : Terms) (ps : List model.PartialValue) → SoFar May all rest ps → rest ≡ no_terms →
      Parts May all (Ok ps)
  so_far_all all rest ps so_far is =
      subst (Parts May all) (parts_after-ok ps) (so_far (Ok []) (subst (λ ts. Parts May ts (Ok [])) (sym is) refl))

  pub so_far_fails : (all rest more : Terms) (t : Term) (ps : List model.PartialValue) (e : Failure) →
      SoFar May all rest ps → rest ≡ one_term t more → May t (fails e) → Parts May all (Err e)
  so_far_fails all rest more t ps e so_far is may =
      let now : Parts May rest (Err e) = subst (λ ts. Parts May ts (Err e)) (sym is) (fails e, may, refl) in
      subst (Parts May all) (parts_after-err ps e) (so_far (Err e) now)

-- ---- parts under keys

-- each part has a key
abbrev pub HaveKeys : List Text → Terms → Type 0
HaveKeys [] no_terms = Unit {0}
HaveKeys [] (one_term t ts) = ⊥
HaveKeys (k ∷ ks) no_terms = ⊥
HaveKeys (k ∷ ks) (one_term t ts) = HaveKeys ks ts

pub have_keys : (ks : List (RcStr Global)) (es : List Expr) → length ks ≡ length es →
    HaveKeys (texts_of ks) (terms_view es)
have_keys [] [] h = tt
have_keys [] (e ∷ es) h = absurd (omega (arith, h))
have_keys (k ∷ ks) [] h = absurd (omega (arith, h))
have_keys (k ∷ ks) (e ∷ es) h = have_keys ks es (omega (arith, h))

abbrev named : List Text → PartsFound → Result (List (Text × model.PartialValue)) Failure
named ks (Ok ps) = Ok (each_under ks ps)
named ks (Err e) = Err e

named_then : (k : Text) (ks : List Text) (p : model.PartialValue) (r : PartsFound) → named (k ∷ ks) (part_then p r) ≡
    field_part_then k p (named ks r)
unfolding part_then field_part_then
named_then k ks p (Ok ps) = refl
named_then k ks p (Err e) = refl

module _ (May : MayAnswer) where
  pub field_parts : (ks : List Text) (ts : Terms) (r : PartsFound) → HaveKeys ks ts → Parts May ts r →
      FieldParts May (fields_named ks ts) (named ks r)
  field_parts [] no_terms r have h = ap (named []) h
  field_parts [] (one_term t ts) r have h = absurd have
  field_parts (k ∷ ks) no_terms r have h = absurd have
  field_parts (k ∷ ks) (one_term t ts) r have (fails e, m, h) = (fails e, m, ap (named (k ∷ ks)) h)
  field_parts (k ∷ ks) (one_term t ts) r have (answers p, m, (rest, h, e)) =
      (answers p, m, (named ks rest, field_parts ks ts rest have h, ap (named (k ∷ ks)) e ∙ named_then k ks p rest))

-- ---- values, and residuals among them

values-all : (vs : List Represented) → values_of_parts (all_values vs) ≡ Some vs
unfolding values_of_parts add_value
values-all [] = refl
values-all (v ∷ vs) = ap (add_value (value v)) (values-all vs)

values-under : (ks : List Text) (vs : List Represented) → values_of_field_parts (each_under ks (all_values vs)) ≡
    Some (each_under ks vs)
unfolding values_of_field_parts add_value_at
values-under [] vs = refl
values-under (k ∷ ks) [] = refl
values-under (k ∷ ks) (v ∷ vs) = ap (add_value_at k (value v)) (values-under ks vs)

terms-under : (ks : List Text) (ps : List model.PartialValue) → fields_of_parts (each_under ks ps) ≡
    fields_named ks (terms_of_parts ps)
terms-under [] ps = refl
terms-under (k ∷ ks) [] = refl
terms-under (k ∷ ks) (p ∷ ps) =
    ap (λ fs. Rattle.cedar_model.specs.Terms.one_field k (part_expression p) fs) (terms-under ks ps)

none_added : (v : Represented) (o : Option (List Represented)) → add_value (value v) o ≡ None → o ≡ None
unfolding add_value
none_added v None h = refl
none_added v (Some vs) h = cc

none-under : (ks : List Text) (ps : List model.PartialValue) → HaveKeys ks (terms_of_parts ps) → values_of_parts ps ≡
    None → values_of_field_parts (each_under ks ps) ≡ None
unfolding values_of_parts values_of_field_parts add_value add_value_at
none-under [] [] have h = absurd (cc)
none-under [] (p ∷ ps) have h = absurd have
none-under (k ∷ ks) [] have h = absurd have
none-under (k ∷ ks) (value v ∷ ps) have h =
    ap (add_value_at k (value v)) (none-under ks ps have (none_added v (values_of_parts ps) h))
none-under (k ∷ ks) (residual r ∷ ps) have h = refl

-- ---- wholes

module _ (s : Setting) (calls : StoredCalls) (May : MayAnswer) where
  -- a part that fails is the whole's failure
  pub whole_fails : (w : Whole) (es : List Expr) (e : Failure) → HasKeys w (length es) →
      Parts May (terms_view es) (Err e) → Rule s calls May (whole_term w (terms_view es)) (fails e)
  unfolding set_answer record_answer
  whole_fails wholes.Set es e keys h = (Err e, h, refl)
  whole_fails (wholes.Record ks) es e keys h =
      (Err e, field_parts May (texts_of ks.items) (terms_view es) (Err e) (have_keys ks.items es keys.0) h, refl)
  whole_fails (wholes.Call f) es e keys h = (Err e, h, refl)

  -- what all parts make
  pub whole_answers : (w : Whole) (es : List Expr) (a : Answers) (ps : List model.PartialValue) (b : Answer) →
      HasKeys w (length es) → count a ≡ length es → Are a ps → Parts May (terms_view es) (Ok ps) →
      Makes s.extensions calls w a b → Rule s calls May (whole_term w (terms_view es)) b
  unfolding set_answer set_of_parts record_answer record_of_parts
  whole_answers wholes.Set es (answereds.Values vs) ps b keys counted are h made = (
    Ok ps,
    h,
    made ∙ sym (ap (λ qs. set_of_parts (values_of_parts qs) qs) are ∙
        ap (λ o. set_of_parts o (all_values (whats vs.items))) (values-all (whats vs.items))),
  )
  whole_answers wholes.Set es (answereds.Mixed m) ps b keys counted are h made =
      (Ok ps, h, made ∙ sym (ap (λ o. set_of_parts o ps) are.1 ∙ ap (λ ts. answers_residual (set_of ts)) are.0))
  whole_answers (wholes.Record ks) es (answereds.Values vs) ps b keys counted are h made =
      let kt = texts_of ks.items in (
        Ok (each_under kt ps),
        field_parts May kt (terms_view es) (Ok ps) (have_keys ks.items es keys.0) h,
        made ∙ sym (ap (λ qs. record_of_parts (values_of_field_parts (each_under kt qs)) (each_under kt qs)) are ∙
            ap (λ o. record_of_parts o (each_under kt (all_values (whats vs.items)))) (values-under kt (whats vs.items))),
      )
  whole_answers (wholes.Record ks) es (answereds.Mixed m) ps b keys counted are h made =
      let kt = texts_of ks.items in
      let have : HaveKeys kt (terms_of_parts ps) =
      subst (HaveKeys kt) (sym are.0) (have_keys ks.items m.exprs.items (keys.0 ∙ sym counted)) in (
        Ok (each_under kt ps),
        field_parts May kt (terms_view es) (Ok ps) (have_keys ks.items es keys.0) h,
        made ∙ sym (ap (λ o. record_of_parts o (each_under kt ps)) (none-under kt ps have are.1) ∙
            ap (λ fs. answers_residual (record_of fs)) (terms-under kt ps) ∙
            ap (λ ts. answers_residual (record_of (fields_named kt ts))) are.0),
      )
  whole_answers (wholes.Call f) es (answereds.Values vs) ps b keys counted are h made =
      let all : values_of_parts ps ≡ Some (whats vs.items) = ap values_of_parts are ∙ values-all (whats vs.items) in (
        Ok ps,
        h,
        subst (λ o. AfterValues calls s.extensions.arity o (name_text f) ps b) (sym all) made,
      )
  whole_answers (wholes.Call f) es (answereds.Mixed m) ps b keys counted are h made = (
    Ok ps,
    h,
    subst (λ o. AfterValues calls s.extensions.arity o (name_text f) ps b) (sym are.1)
        (made ∙ ap (λ ts. answers_residual (call (name_text f) ts)) (sym are.0)),
  )

-- ---- restricted wholes have restricted parts

named_restricted : (ks : List Text) (ts : Terms) → HaveKeys ks ts → are_restricted_at (fields_named ks ts) ≡ true →
    are_restricted ts ≡ true
named_restricted [] no_terms have h = refl
named_restricted [] (one_term t ts) have h = absurd have
named_restricted (k ∷ ks) no_terms have h = absurd have
named_restricted (k ∷ ks) (one_term t ts) have h =
    let rest : are_restricted_at (fields_named ks ts) ≡ true = (and_parts (is_restricted t) _ h).1 in
    λ i. (and_parts (is_restricted t) _ h).0 i && named_restricted ks ts have rest i

pub parts_restricted : (w : Whole) (es : List Expr) → HasKeys w (length es) →
    is_restricted (whole_term w (terms_view es)) ≡ true → are_restricted (terms_view es) ≡ true
parts_restricted wholes.Set es keys h = h
parts_restricted (wholes.Record ks) es keys h =
    named_restricted (texts_of ks.items) (terms_view es) (have_keys ks.items es keys.0) h
parts_restricted (wholes.Call f) es keys h = h

left_restricted : (es : List Expr) (n : ℕ) → are_restricted (terms_view es) ≡ true →
    are_restricted (terms_view (drop n es)) ≡ true
left_restricted [] zero h = refl
left_restricted [] (suc n) h = refl
left_restricted (e ∷ es) zero h = h
left_restricted (e ∷ es) (suc n) h = left_restricted es n (and_parts (is_restricted (view e)) _ h).1

pub next_restricted : (es : List Expr) (n : ℕ) (t : Term) (rest : Terms) → are_restricted (terms_view es) ≡ true →
    terms_view (drop n es) ≡ one_term t rest → is_restricted t ≡ true
next_restricted es n t rest h is =
    (and_parts (is_restricted t) (are_restricted rest)
    (subst (λ ts. are_restricted ts ≡ true) is (left_restricted es n h))).0

pub left_after : (es : List Expr) (n : ℕ) (t : Term) (rest : Terms) → terms_view (drop n es) ≡ one_term t rest →
    terms_view (drop (suc n) es) ≡ rest
left_after [] zero t rest h = absurd (cc)
left_after [] (suc n) t rest h = absurd (cc)
left_after (e ∷ es) zero t rest h = cc
left_after (e ∷ es) (suc n) t rest h = left_after es n t rest h

pub none_left : (es : List Expr) (n : ℕ) → n ≡ length es → terms_view (drop n es) ≡ no_terms
none_left [] zero h = refl
none_left [] (suc n) h = refl
none_left (e ∷ es) zero h = absurd (omega (arith, h))
none_left (e ∷ es) (suc n) h = none_left es n (omega (arith, h))

pub next_is : (es : List Expr) (n : ℕ) (e : Expr) → n < length es → e ≡ get_or es n e → terms_view (drop n es) ≡
    one_term (view e) (terms_view (drop (suc n) es))
next_is [] n e h is = absurd (omega (arith, h))
next_is (d ∷ es) zero e h is = ap (λ x. one_term (view x) (terms_view es)) (sym is)
next_is (d ∷ es) (suc n) e h is = next_is es n e (omega (arith, h)) is
