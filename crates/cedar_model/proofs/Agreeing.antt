-- Where the store holds values alone, both resolutions answer the same.
use Rattle.std.specs.Prelude.{◌≡◌, ℕ, zero, suc, Bool, true, false, List, [], ◌∷◌, Option, Some, None, Result}
use Rattle.std.proofs.Common.{refl, sym, ◌∙◌, subst}
use Rattle.cedar_model.specs.Terms.{Text, BinaryOperator, eq_operator, less_operator, less_eq_operator, add_operator}
use Rattle.cedar_model.specs.Terms.{sub_operator, mul_operator, in_operator, contains_operator, contains_all_operator}
use Rattle.cedar_model.specs.Terms.{contains_any_operator, get_tag_operator, has_tag_operator, Term, literal, variable}
use Rattle.cedar_model.specs.Terms.{slot, unknown, if_then_else, both, either, unary, binary, call, get_attribute}
use Rattle.cedar_model.specs.Terms.{has_attribute, extended_has, like, is_of_type, set_of, record_of, Terms, no_terms}
use Rattle.cedar_model.specs.Terms.{one_term, Fields, no_fields, one_field}
use Rattle.cedar_model.specs.Values.{Represented, abstract_value}
use Rattle.cedar_model.specs.Shapes.{is_projectable}
use Rattle.cedar_model.specs.Outcomes.{bool_of}
use Rattle.cedar_model.specs.Failures.{Failure, PartialValue, value, residual, Answer, answers, fails}
use Rattle.cedar_model.specs.Settings.{Resolution, shallow, deep, Setting}
use Rattle.cedar_model.specs.Operators
use Rattle.cedar_model.specs.Rules
use Rattle.cedar_model.specs.Agreement.{EachStored, IsValue}
use Rattle.cedar_model.specs.laws.Resolutions.{with_resolution}
use Rattle.cedar_model.proofs.Resolving as resolving
use Rattle.cedar_model.proofs.Resolving.{IsStored, none_is_stored, attribute_is_stored, beside_is_stored}

module _ (s : Setting) (r : Resolution) (values : EachStored IsValue s.store) where
  abbrev z : Setting
  z = with_resolution s r

  none : (t : Term) → IsStored s.store t → ⊥
  none t i = none_is_stored s.store values t i

  -- ---- what is answered from values goes by no resolution

  binary_same : (op : BinaryOperator) (v w : Represented) → Operators.binary_answer s op v w ≡ Operators.binary_answer
      z op v w
  unfolding Operators.binary_answer
  binary_same eq_operator v w = refl
  binary_same less_operator v w = refl
  binary_same less_eq_operator v w = refl
  binary_same add_operator v w = refl
  binary_same sub_operator v w = refl
  binary_same mul_operator v w = refl
  binary_same in_operator v w = refl
  binary_same contains_operator v w = refl
  binary_same contains_all_operator v w = refl
  binary_same contains_any_operator v w = refl
  binary_same get_tag_operator v w = refl
  binary_same has_tag_operator v w = refl

  beside_same : (op : BinaryOperator) (p : PartialValue) (y : Answer)
      → Rules.binary_beside s op p y ≡ Rules.binary_beside z op p y
  unfolding Rules.binary_beside Rules.binary_of_parts
  beside_same op p (fails e) = refl
  beside_same op (value v) (answers (value w)) = binary_same op v w
  beside_same op (value v) (answers (residual q)) = refl
  beside_same op (residual q) (answers (value w)) = refl
  beside_same op (residual q) (answers (residual q')) = refl

  attribute_in_same : (c : Operators.Container) (e : Failure) (k : Text)
      → Operators.attribute_in s c e k ≡ Operators.attribute_in z c e k
  unfolding Operators.attribute_in
  attribute_in_same (Operators.a_record fs) e k = refl
  attribute_in_same (Operators.an_entity d) e k = refl
  attribute_in_same Operators.no_container e k = refl

  has_same : (k : Text) (x : Answer) → Rules.has_part s k x ≡ Rules.has_part z k x
  unfolding Rules.has_part
  has_same k (fails e) = refl
  has_same k (answers (value v)) = refl
  has_same k (answers (residual q)) = refl

  -- ---- where nothing is read, each resolution answers what is stored

  module _ (H : Rules.MayAnswer) where
    resolves_stored : (d : Resolution) (o : Option Term) (x : Answer) → ((t : Term) → o ≡ Some t → IsStored s.store t)
        → Rules.Resolves H d o x x
    resolves_stored shallow o x i = refl
    resolves_stored deep None x i = refl
    resolves_stored deep (Some t) x i = absurd (none t (i t refl))

    step_stored : (w : Operators.Walk) (Next : Represented → Answer → Type 0) (next : Represented → Answer)
        → ((u : Represented) → Next u (next u)) → Rules.AfterWalk H w Next (Operators.after_walk w next)
    unfolding Operators.after_walk
    step_stored (Operators.walks_on u) Next next f = f u
    step_stored (Operators.stops b) Next next f = refl

    steps_stored : (o : Option Term) (w : Operators.Walk) (l : Text) (ls : List Text) (Next : Represented → Answer
        → Type 0) (next : Represented → Answer) → ((t : Term) → o ≡ Some t → IsStored s.store t) → ((u : Represented)
        → Next u (next u)) → Rules.WalksOn H o w l ls Next (Operators.after_walk w next)
    steps_stored None w l ls Next next i f = step_stored w Next next f
    steps_stored (Some t) w l ls Next next i f = absurd (none t (i t refl))

    walks_stored : (ks : List Text) (v : Represented) (k : Text)
        → Rules.Walks H s.store v k ks (Operators.path_answer s.store v k ks)
    unfolding Operators.path_answer
    walks_stored [] v k = refl
    walks_stored (l ∷ ls) v k =
        steps_stored (Operators.attribute_residual s.store v k)
        (Operators.walk_in s.store (Operators.container_of v) (Operators.container_expected v) k l ls) l ls
        (λ u. Rules.Walks H s.store u l ls) (λ u. Operators.path_answer s.store u l ls)
        (λ t e. attribute_is_stored s.store v k t e) (λ u. walks_stored ls u l)

    path_stored : (d : Resolution) (x : Answer) (k : Text) (ks : List Text)
        → Rules.AtPath H d s.store x k ks (Rules.on_part (λ v. Operators.path_answer s.store v k ks)
        (λ q. extended_has q k ks) x)
    unfolding Rules.on_part
    path_stored shallow x k ks = refl
    path_stored deep (fails e) k ks = refl
    path_stored deep (answers (value v)) k ks = walks_stored ks v k
    path_stored deep (answers (residual q)) k ks = refl

  -- ---- a layer

  module _ (calls : Rules.StoredCalls) (G H : Rules.MayAnswer) (more : (t : Term) (x : Answer) → G t x → H t x) where
    takes : (b : Option Bool) (v : Represented) (t e : Term) (a : Answer) → Rules.TakesBranch G b v t e a
        → Rules.TakesBranch H b v t e a
    takes None v t e a h = h
    takes (Some true) v t e a h = more t a h
    takes (Some false) v t e a h = more e a h

    bests : (b : Rules.Best) (Next Next' : Term → Answer → Type 0) (a : Answer) → ((t : Term) → Next t a → Next' t a)
        → Rules.AfterBest b Next a → Rules.AfterBest b Next' a
    bests (Rules.kept t) Next Next' a f h = f t h
    bests (Rules.handed_up e) Next Next' a f h = h

    guards : (x : Answer) (t e : Term) (a : Answer) → Rules.Then x (Rules.AfterGuard G t e) a → Rules.Then x (Rules.AfterGuard H t e) a
    guards (fails f) t e a h = h
    guards (answers (value v)) t e a h = takes (bool_of (abstract_value v)) v t e a h
    guards (answers (residual q)) t e a (x, g, h) =
        (x, more t x g, bests (Rules.best x t) _ _ a (λ t' (y, g', h'). (y, more e y g', h')) h)

    and_bools : (b : Option Bool) (v : Represented) (t : Term) (a : Answer) → Rules.AndLeft G b v t a
        → Rules.AndLeft H b v t a
    and_bools None v t a h = h
    and_bools (Some true) v t a (x, g, e) = (x, more t x g, e)
    and_bools (Some false) v t a h = h

    ands : (x : Answer) (t : Term) (a : Answer) → Rules.Then x (Rules.AfterAndLeft G t) a → Rules.Then x (Rules.AfterAndLeft H t) a
    ands (fails e) t a h = h
    ands (answers (value v)) t a h = and_bools (bool_of (abstract_value v)) v t a h
    ands (answers (residual q)) t a (x, g, h) = (x, more t x g, h)

    or_bools : (b : Option Bool) (v : Represented) (t : Term) (a : Answer) → Rules.OrLeft G b v t a
        → Rules.OrLeft H b v t a
    or_bools None v t a h = h
    or_bools (Some true) v t a h = h
    or_bools (Some false) v t a (x, g, e) = (x, more t x g, e)

    ors : (x : Answer) (t : Term) (a : Answer) → Rules.Then x (Rules.AfterOrLeft G t) a → Rules.Then x (Rules.AfterOrLeft H t) a
    ors (fails e) t a h = h
    ors (answers (value v)) t a h = or_bools (bool_of (abstract_value v)) v t a h
    ors (answers (residual q)) t a (x, g, h) = (x, more t x g, h)

    lefts : (op : BinaryOperator) (x : Answer) (t : Term) (a : Answer) → Rules.Then x (Rules.AfterLeft G s op t) a
        → Rules.Then x (Rules.AfterLeft H z op t) a
    lefts op (fails e) t a h = h
    lefts op (answers p) t a (y, g, h) =
        let e : a ≡ Rules.binary_beside z op p y =
        resolving.as_stored G s.store none s.resolution (Rules.beside_residual s.store op p y)
        (Rules.binary_beside s op p y) a (beside_is_stored s.store op p y) h ∙ beside_same op p y in (
          y,
          more t y g,
          subst (Rules.Resolves H r (Rules.beside_residual s.store op p y) (Rules.binary_beside z op p y))
              (sym e) (resolves_stored H r (Rules.beside_residual s.store op p y) (Rules.binary_beside z op p y)
              (beside_is_stored s.store op p y)),
        )

    projections : (b : Bool) (q : Term) (k : Text) (part : Term) (a : Answer) → Rules.Projects G b q k part a
        → Rules.Projects H b q k part a
    projections true q k part a h = more part a h
    projections false q k part a h = h

    keys : (o : Option Term) (fs : Fields) (q : Term) (k : Text) (a : Answer) → Rules.AtKey G o fs q k a
        → Rules.AtKey H o fs q k a
    keys None fs q k a h = h
    keys (Some part) fs q k a h = projections (is_projectable q) q k part a h

    fields : (o : Option Fields) (q : Term) (k : Text) (a : Answer) → Rules.AtFields G o q k a
        → Rules.AtFields H o q k a
    fields None q k a h = h
    fields (Some fs) q k a h = keys (Operators.term_at k fs) fs q k a h

    attributes : (x : Answer) (k : Text) (a : Answer) → Rules.Then x (Rules.AtAttribute G s k) a → Rules.Then x (Rules.AtAttribute H z k) a
    attributes (fails e) k a h = h
    attributes (answers (value v)) k a h =
        let e : a ≡ Operators.attribute_answer z v k =
        resolving.as_stored G s.store none s.resolution (Operators.attribute_residual s.store v k)
        (Operators.attribute_answer s v k) a (attribute_is_stored s.store v k) h
        ∙ attribute_in_same (Operators.container_of v) (Operators.container_expected v) k in
        subst (Rules.Resolves H r (Operators.attribute_residual s.store v k) (Operators.attribute_answer z v k)) (sym e)
        (resolves_stored H r (Operators.attribute_residual s.store v k) (Operators.attribute_answer z v k)
        (attribute_is_stored s.store v k))
    attributes (answers (residual q)) k a h = fields (Rules.fields_of_record q) q k a h

    paths : (x : Answer) (k : Text) (ks : List Text) (a : Answer) → Rules.AtPath G s.resolution s.store x k ks a
        → Rules.AtPath H r s.store x k ks a
    paths x k ks a h =
        subst (Rules.AtPath H r s.store x k ks) (sym (resolving.path_as_stored G s.store none s.resolution x k ks a h))
        (path_stored H r x k ks)

    after_part : (Rest Rest' : Result (List PartialValue) Failure → Type 0)
        → ((q : Result (List PartialValue) Failure) → Rest q → Rest' q)
        → (x : Answer) (q : Result (List PartialValue) Failure) → Rules.AfterPart G x Rest q
        → Rules.AfterPart H x Rest' q
    after_part Rest Rest' f (fails e) q h = h
    after_part Rest Rest' f (answers p) q (rest, h, e) = (rest, f rest h, e)

    parts : (ts : Terms) (q : Result (List PartialValue) Failure) → Rules.Parts G ts q → Rules.Parts H ts q
    parts no_terms q h = h
    parts (one_term t ts) q (x, g, h) =
        (x, more t x g, after_part (Rules.Parts G ts) (Rules.Parts H ts) (parts ts) x q h)

    after_field : (l : Text) (Rest Rest' : Result (List (Text × PartialValue)) Failure → Type 0)
        → ((q : Result (List (Text × PartialValue)) Failure) → Rest q → Rest' q)
        → (x : Answer) (q : Result (List (Text × PartialValue)) Failure) → Rules.AfterFieldPart G l x Rest q
        → Rules.AfterFieldPart H l x Rest' q
    after_field l Rest Rest' f (fails e) q h = h
    after_field l Rest Rest' f (answers p) q (rest, h, e) = (rest, f rest h, e)

    field_parts : (fs : Fields) (q : Result (List (Text × PartialValue)) Failure) → Rules.FieldParts G fs q
        → Rules.FieldParts H fs q
    field_parts no_fields q h = h
    field_parts (one_field l t fs) q (x, g, h) =
        (x, more t x g, after_field l (Rules.FieldParts G fs) (Rules.FieldParts H fs) (field_parts fs) x q h)

    rule : (t : Term) (a : Answer) → Rules.Rule s calls G t a → Rules.Rule z calls H t a
    rule (literal l) a h = h
    rule (variable v) a h = h
    rule (slot i) a h = h
    rule (unknown n t) a h = h
    rule (if_then_else c t e) a (x, g, h) = (x, more c x g, guards x t e a h)
    rule (both t u) a (x, g, h) = (x, more t x g, ands x u a h)
    rule (either t u) a (x, g, h) = (x, more t x g, ors x u a h)
    rule (unary op t) a (x, g, e) = (x, more t x g, e)
    rule (binary op t u) a (x, g, h) = (x, more t x g, lefts op x u a h)
    rule (call f ts) a (q, g, h) = (q, parts ts q g, h)
    rule (get_attribute t k) a (x, g, h) = (x, more t x g, attributes x k a h)
    rule (has_attribute t k) a (x, g, e) = (x, more t x g, e ∙ has_same k x)
    rule (extended_has t k ks) a (x, g, h) = (x, more t x g, paths x k ks a h)
    rule (like t p) a (x, g, e) = (x, more t x g, e)
    rule (is_of_type t m) a (x, g, e) = (x, more t x g, e)
    rule (set_of ts) a (q, g, e) = (q, parts ts q g, e)
    rule (record_of fs) a (q, g, e) = (q, field_parts fs q g, e)

  pub resolutions_agree : (calls : Rules.StoredCalls) (n : ℕ) (t : Term) (a : Answer) → Rules.Runs s calls n t a
      → Rules.Runs z calls n t a
  resolutions_agree calls zero t a h = h
  resolutions_agree calls (suc n) t a h =
      rule calls (Rules.Runs s calls n) (Rules.Runs z calls n) (resolutions_agree calls n) t a h
