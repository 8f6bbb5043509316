-- A residual that is evaluated again part by part: what its parts answer makes what its record answers.
use Rattle.std.proofs.Common.{◌≡◌, ◌≢◌, ◌≤◌, ◌<◌, ◌+◌, ◌-◌, ℕ, suc, true, List, [], ◌∷◌, ◌++◌, length, map, drop, take}
use Rattle.std.proofs.Common.{get_or, Result, Ok, Err, Global, refl, sym, ap, ◌∙◌, subst, arith, append_assoc}
use Rattle.std.proofs.lemmas.List.{map-append, map_more, length-map}
use Rattle.std.specs.BTreeMap.{IsFromIterResult}
use Rattle.std.specs.List.{zip}
use Rattle.std.specs.Rc.{rc_str_bytes}
use Rattle.std.specs.declared.rc.RcStr.{RcStr}
use Rattle.std.specs.declared.vec.Vec.{Vec}
use Rattle.cedar_model.specs.Terms.{Term, record_of, one_field, terms_of}
use Rattle.cedar_model.specs.Shapes.{is_restricted, are_restricted, are_restricted_at, have_unknown_at}
use Rattle.cedar_model.specs.World as world
use Rattle.cedar_model.specs.Values.{record_represented}
use Rattle.cedar_model.specs.Failures.{PartialValue, value, residual, Answer, answers, fails, limit, out_of_memory}
use Rattle.cedar_model.specs.Settings.{Setting, known_context, context_value}
use Rattle.cedar_model.specs.Rules.{StoredCalls, MayAnswer, Runs, Exceeds, Meets}
use Rattle.cedar_model.specs.Agreement.{height}
use Rattle.cedar_model.specs.Alike.{AreFunctional}
use Rattle.cedar_model.specs.laws.Levels.{FunctionsMeetNoLimit}
use Rattle.cedar_model.specs.laws.Restricted.{AnswersSound}
use Rattle.cedar_model.specs.Chains.{Mapping, substituted, substituted_at}
use Rattle.cedar_model.proofs.Determined.{limit_alone}
use Rattle.cedar_model.proofs.Needs.{restricted_need}
use Rattle.cedar_model.proofs.RestrictedAnswers.{stays_restricted}
use Rattle.cedar_expressions.specs.declared.expr.Expr.{Expr}
use Rattle.cedar_expressions.specs.View.{view, terms_view, fields_view, expr_loc}
use Rattle.cedar_expressions.specs.Nodes.{key_order}
use Rattle.cedar_values.specs.Sound.{Placed, whats_at}
use Rattle.cedar_errors.specs.declared.evaluator.err.EvaluationError.{EvaluationError}
use Rattle.cedar_errors.specs.Failures.{failure_of}
use Rattle.cedar_restricted.specs.declared.answers.Answers.{Answers}
use Rattle.cedar_restricted.specs.declared.answers.Answers.TheVariants as answereds
use Rattle.cedar_restricted.specs.declared.answers.Mixed.{Mixed}
use Rattle.cedar_restricted.specs.declared.whole.Whole.TheVariants as wholes
use Rattle.cedar_restricted.specs.Evaluations.{IsBare, bare_setting, IsAnswerWithin}
use Rattle.cedar_restricted.specs.Keys.{texts_of, fields_named}
use Rattle.cedar_restricted.specs.Parts.{HasKeys, count, answered_locs, Are, SoFar, record_made}
use Rattle.cedar_restricted.specs.Steps.{so_far_none, so_far_more, so_far_all, so_far_fails, whole_answers}
use Rattle.cedar_restricted.specs.Steps.{whole_fails, next_restricted, next_is, none_left, have_keys}
use Rattle.cedar_restricted.proofs.Collected.{names_under, unknown_named}
use Rattle.cedar_restricted.proofs.Maps.{values_of_map, exprs_of_map, each_of_map}
use Rattle.cedar_requests.specs.declared.context.Context.{Context}
use Rattle.cedar_requests.specs.declared.context.pairs.ContextPairs.TheVariants as kinds
use Rattle.cedar_requests.specs.declared.context.pairs.ResidualPairs.{ResidualPairs}
use Rattle.cedar_requests.specs.Contexts.{ValueMap, ExprMap, value_locs, context_view, context_part_value}
use Rattle.cedar_requests.specs.Contexts.{context_pairs_view, pairs_locs, context_locs, expr_locs}
use Rattle.cedar_requests.specs.Substitutions.{record_with, context_answer, AreAnswered, IsAnsweredNext}
use Rattle.cedar_requests.specs.Substitutions.{IsRecordOf, IsRestrictedRecord}

-- ---- the parts with the values in them

-- one more behind those of which these are left
pub one_more : {A B : Type 0} (f : A → B) (xs : List A) (x : A) (y : B) (more left all : List B) →
    map f xs ++ left ≡ all → left ≡ y ∷ more → f x ≡ y → map f (xs ++ x ∷ []) ++ more ≡ all
one_more f xs x y more left all h next same =
    ap (λ l. l ++ more) (map-append f xs (x ∷ [])) ∙ append_assoc (map f xs) (f x ∷ []) more ∙
    ap (λ z. map f xs ++ z ∷ more) same ∙ ap (λ l. map f xs ++ l) (sym next) ∙ h

abbrev pub views_with : Mapping → List (RcStr Global × Expr) → List Term
views_with m es = map {B = Term} (λ e. substituted m (view e.1)) es

fields_with : (m : Mapping) (es : List (RcStr Global × Expr)) →
    fields_named (names_under es) (terms_of (views_with m es)) ≡ substituted_at m (fields_view es)
unfolding substituted_at
fields_with m [] = refl
fields_with m (e ∷ es) = ap (one_field (rc_str_bytes e.0) (substituted m (view e.1))) (fields_with m es)

-- all of them
pub fields_of_all_with : (m : Mapping) (ks : List (RcStr Global)) (es : List Expr) (all : List (RcStr Global × Expr)) →
    texts_of ks ≡ names_under all → map view es ≡ views_with m all →
    fields_named (texts_of ks) (terms_view es) ≡ substituted_at m (fields_view all)
fields_of_all_with m ks es all names views =
    ap (λ ts. fields_named ts (terms_view es)) names ∙ ap (λ vs. fields_named (names_under all) (terms_of vs)) views ∙
    fields_with m all

-- ---- their answers

-- the first parts have answered these
abbrev pub HaveAnswered : MayAnswer → List Expr → ℕ → Answers → Type 0
HaveAnswered May es n a =
    (ps : List PartialValue) × Are a ps × SoFar May (terms_view es) (terms_view (drop n es)) ps

pub none_answered : (May : MayAnswer) (es : List Expr) (a : Answers) → Are a [] → HaveAnswered May es 0 a
none_answered May es a none = ([], none, so_far_none May (terms_view es))

module _ (May : MayAnswer) (es : List Expr) (n : ℕ) (e : Expr) (below : n < length es) (is : e ≡ get_or es n e)
    (a : Answers) where
  pub answered_more : (b : Answers) → HaveAnswered May es n a → IsAnsweredNext May (view e) a (Ok b) →
      HaveAnswered May es (n + 1) b
  answered_more b (ps, are, so_far) (p, may, more) =
      let next : suc n ≡ n + 1 = omega arith in
      subst (λ k. HaveAnswered May es k b) next (
        ps ++ p ∷ [],
        more ps are,
        so_far_more May (terms_view es) (terms_view (drop n es)) (terms_view (drop (suc n) es)) (view e) ps p so_far
            (next_is es n e below is) may,
      )

  pub answered_fails : (x : EvaluationError) → HaveAnswered May es n a → IsAnsweredNext May (view e) a (Err x) →
      AreAnswered May (terms_view es) (Err x)
  answered_fails x (ps, are, so_far) h ok =
      so_far_fails May (terms_view es) (terms_view (drop n es)) (terms_view (drop (suc n) es)) (view e) ps
      (failure_of x)
      so_far (next_is es n e below is) (h ok)

module _ (es : List Expr) (n : ℕ) (e : Expr) (below : n < length es) (is : e ≡ get_or es n e) where
  pub next_is_restricted : are_restricted (terms_view es) ≡ true → is_restricted (view e) ≡ true
  next_is_restricted h =
      next_restricted es n (view e) (terms_view (drop (suc n) es)) h (next_is es n e below is)

  -- where one more stands
  pub place_more : (a b : Answers) → answered_locs a ≡ expr_locs (take n es) →
      answered_locs b ≡ answered_locs a ++ expr_loc e ∷ [] → answered_locs b ≡ expr_locs (take (n + 1) es)
  place_more a b before more =
      more ∙ ap (λ ls. ls ++ expr_loc e ∷ []) before ∙ ap (λ d. expr_locs (take n es) ++ expr_loc d ∷ []) is ∙
      sym (map_more expr_loc es n e below)

pub all_answered : (May : MayAnswer) (es : List Expr) (n : ℕ) (a : Answers) → length es ≤ n →
    n ≤ length es → HaveAnswered May es n a → AreAnswered May (terms_view es) (Ok a)
all_answered May es n a past end (ps, are, so_far) =
    let all : n ≡ length es = omega (arith, past, end) in
    (ps, are, so_far_all May (terms_view es) (terms_view (drop n es)) ps so_far (none_left es n all))

-- as many as places
pub as_many_places : (a : Answers) → length (answered_locs a) ≡ count a
as_many_places (answereds.Values vs) = length-map vs.items (λ v. v.loc)
as_many_places (answereds.Mixed m) = length-map m.exprs.items expr_loc

pub counted : (a : Answers) (es : List Expr) → answered_locs a ≡ expr_locs es → count a ≡ length es
counted a es same = sym (as_many_places a) ∙ ap length same ∙ length-map es expr_loc

-- ---- what they make as a record

module _ (s : Setting) (calls : StoredCalls) (n : ℕ) (ks : Vec (RcStr Global) Global) (es : List Expr)
    (keys : HasKeys (wholes.Record ks) (length es)) where
  abbrev whole : Term
  whole = record_of (fields_named (texts_of ks.items) (terms_view es))

  record_may : (a : Answers) (b : Answer) → count a ≡ length es → AreAnswered (Runs s calls n) (terms_view es) (Ok a) →
      b ≡ record_made ks a → Runs s calls (suc n) whole b
  record_may a b counted (ps, are, h) made =
      whole_answers s calls (Runs s calls n) (wholes.Record ks) es a ps b keys counted are h made

  pub record_answers : (a : Answers) (c : Context) → count a ≡ length es →
      AreAnswered (Runs s calls n) (terms_view es) (Ok a) → IsRecordOf ks a c →
      Meets (Runs s calls (suc n) whole) (context_answer (Ok c))
  record_answers a c counted h made ok = record_may a (answers (context_part_value c)) counted h made

  pub record_fails : (e : EvaluationError) → AreAnswered (Runs s calls n) (terms_view es) (Err e) →
      Meets (Runs s calls (suc n) whole) (context_answer (Err e))
  record_fails e h ok =
      whole_fails s calls (Runs s calls n) (wholes.Record ks) es (failure_of e) keys (h (λ w. ok (ap fails w)))

  -- what is left of a restricted record is restricted
  pub record_stays : AnswersSound calls s → is_restricted whole ≡ true → (a : Answers) → count a ≡ length es →
      AreAnswered (Runs s calls n) (terms_view es) (Ok a) → IsRestrictedRecord ks a
  record_stays sound restricted (answereds.Values vs) counted h = tt
  record_stays sound restricted (answereds.Mixed m) counted h =
      let left = residual (record_of (fields_named (texts_of ks.items) (terms_view m.exprs.items))) in
      stays_restricted s calls sound whole left restricted
      (no_limit left, suc n, record_may (answereds.Mixed m) (answers left) counted h refl)
    where
      no_limit : (p : PartialValue) → answers p ≢ limit
      no_limit p h = cc

-- ---- the context that holds them

module _ (ks : Vec (RcStr Global) Global) where
  pub values_made : (vs : Vec Placed Global) (m : ValueMap) (c : Context) →
      HasKeys (wholes.Record ks) (length vs.items) → IsFromIterResult key_order (zip ks.items vs.items) m →
      context_view c ≡ known_context (whats_at m.entries) → IsRecordOf ks (answereds.Values vs) c
  unfolding context_value
  values_made vs m c keys made is =
      ap (λ p. answers (context_value p)) is ∙
      ap (λ fs. answers (value (record_represented fs))) (values_of_map ks.items vs.items m keys made)

  pub exprs_made : (x : Mixed) (r : ResidualPairs) (c : Context) → HasKeys (wholes.Record ks) (length x.exprs.items) →
      IsFromIterResult key_order (zip ks.items x.exprs.items) r.pairs → c.pairs ≡ kinds.Residual r →
      IsRecordOf ks (answereds.Mixed x) c
  unfolding context_value
  exprs_made x r c keys made is =
      ap (λ p. answers (context_value (context_pairs_view p))) is ∙
      ap (λ fs. answers (residual (record_of fs))) (exprs_of_map ks.items x.exprs.items r.pairs keys made)

  pub exprs_restricted : (x : Mixed) (m : ExprMap) → HasKeys (wholes.Record ks) (length x.exprs.items) →
      IsFromIterResult key_order (zip ks.items x.exprs.items) m → IsRestrictedRecord ks (answereds.Mixed x) →
      are_restricted_at (fields_view m.entries) ≡ true
  exprs_restricted x m keys made h = ap are_restricted_at (exprs_of_map ks.items x.exprs.items m keys made) ∙ h

  pub exprs_unknown : (x : Mixed) (m : ExprMap) → HasKeys (wholes.Record ks) (length x.exprs.items) →
      IsFromIterResult key_order (zip ks.items x.exprs.items) m → have_unknown_at (fields_view m.entries) ≡ true
  exprs_unknown x m keys made =
      ap have_unknown_at (exprs_of_map ks.items x.exprs.items m keys made) ∙
      unknown_named (texts_of ks.items) (terms_view x.exprs.items) (have_keys ks.items x.exprs.items keys.0) ∙ x.unknown

  pub values_placed : (vs : Vec Placed Global) (m : ValueMap) → HasKeys (wholes.Record ks) (length vs.items) →
      IsFromIterResult key_order (zip ks.items vs.items) m → value_locs m ≡ answered_locs (answereds.Values vs)
  values_placed vs m keys made = each_of_map (λ v. v.loc) ks.items vs.items m keys made

  pub exprs_placed : (x : Mixed) (r : ResidualPairs) (c : Context) → HasKeys (wholes.Record ks) (length x.exprs.items) →
      IsFromIterResult key_order (zip ks.items x.exprs.items) r.pairs → c.pairs ≡ kinds.Residual r →
      context_locs c ≡ answered_locs (answereds.Mixed x)
  exprs_placed x r c keys made is =
      ap pairs_locs is ∙ each_of_map expr_loc ks.items x.exprs.items r.pairs keys made

-- ---- what is promised of it

-- this is answered of the record, with these extensions
abbrev pub AnswersAgain : world.Extensions → StoredCalls → ℕ → Mapping → Result Context EvaluationError →
    ResidualPairs → Type 0
AnswersAgain x calls n m r left =
    (s : Setting) → IsBare x s → Meets (Runs s calls n (record_with m left)) (context_answer r)

pub one_above : (n : ℕ) → n ≢ 0 → suc (n - 1) ≡ n
one_above n some = omega (arith, some)

module _ (x : world.Extensions) (calls : StoredCalls) (n : ℕ) (t : Term) (a : Answer)
    (runs : (s : Setting) → IsBare x s → Meets (Runs s calls n t) a) where
  pub within : AreFunctional calls → (s : Setting) → IsBare x s → Meets (IsAnswerWithin s calls n t) a
  within functional s b ok =
      let now = runs s b ok in
      record {
        runs = now;
        limited = (
          λ is. subst (Runs s calls n t) is now,
          λ met. limit_alone s calls functional n t a met now,
        );
        allowed = λ below. (below, n, now);
      }

  limit_is_not_out_of_memory : limit ≢ fails out_of_memory
  limit_is_not_out_of_memory h = cc

  pub never_met : FunctionsMeetNoLimit calls → is_restricted t ≡ true → height t ≤ n → a ≢ limit
  never_met meet_none restricted low is =
      let s = bare_setting x in
      let met : Exceeds s calls t n =
      subst (Runs s calls n t) is
      (runs s record { no_map = refl; has_extensions = refl } (λ w. limit_is_not_out_of_memory (sym is ∙ w))) in
      let above : n < height t = restricted_need s calls meet_none n t restricted met in omega (arith, above, low)
