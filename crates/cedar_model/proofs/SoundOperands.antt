-- What stands for an outcome where operands answer so: guards, `&&` and `||`, two operands, `is`.
use Rattle.std.specs.Prelude.{◌≡◌, Bool, true, false, cond, not, Option}
use Rattle.std.specs.Prelude.{Some, None}
use Rattle.std.proofs.Common.{refl, sym, ap, ◌∙◌, subst}
use Rattle.cedar_model.specs.Terms.{Text}
use Rattle.cedar_model.specs.Terms.{entity_type}
use Rattle.cedar_model.specs.Terms.{BinaryOperator, eq_operator, less_operator, less_eq_operator, add_operator}
use Rattle.cedar_model.specs.Terms.{sub_operator, mul_operator, in_operator, contains_operator, contains_all_operator}
use Rattle.cedar_model.specs.Terms.{contains_any_operator, get_tag_operator, has_tag_operator, Term}
use Rattle.cedar_model.specs.Terms.{unknown, binary}
use Rattle.cedar_model.specs.Values.{AbstractValue}
use Rattle.cedar_model.specs.Values.{Represented, abstract_value}
use Rattle.cedar_model.specs.Keys.{value_eq}
use Rattle.cedar_model.specs.Outcomes.{Outcome, gives, gives_bool, and_then, needing}
use Rattle.cedar_model.specs.Outcomes.{bool_of, entity_of, text_eq}
use Rattle.cedar_model.specs.World.{World, Functions}
use Rattle.cedar_model.specs.Meaning
use Rattle.cedar_model.specs.Failures.{Failure, failure_kind}
use Rattle.cedar_model.specs.Failures.{PartialValue, value, residual, Answer, answers, fails, answers_bool}
use Rattle.cedar_model.specs.Failures.{answers_residual, part_expression}
use Rattle.cedar_model.specs.Settings.{Setting}
use Rattle.cedar_model.specs.Rules
use Rattle.cedar_model.specs.Agreement
use Rattle.cedar_model.proofs.Means
use Rattle.cedar_model.proofs.Resolving as resolving
use Rattle.cedar_model.proofs.Resolving.{IsStored, each_stored, beside_is_stored}
use Rattle.cedar_model.proofs.StoredMeans
use Rattle.cedar_model.proofs.Binds
use Rattle.cedar_model.proofs.SoundAnswers
use Rattle.cedar_model.proofs.SoundAnswers.{loose_map, IsEntityOf, entity_by_type, entity_by_name, annotated_unknown, apart_values, bind_gives, is_entity, by_equal, value_bind, error_bind, part_stands, sound_bool, sound_type_error, joined_sound, after_best, well}

module _ (ans : Functions) (w : World) (s : Setting) where
  abbrev F : Represented → Type 0
  F v = Agreement.IsFaithful s.extensions ans v

  abbrev N : Term → Outcome
  N = SoundAnswers.N ans w s

  abbrev M : Term → Outcome
  M = SoundAnswers.M ans w s

  abbrev R : Term → Outcome → Type 0
  R = SoundAnswers.R ans w s

  abbrev E : Failure → Outcome → Type 0
  E = SoundAnswers.E ans w s

  abbrev Sound : Answer → Outcome → Type 0
  Sound = SoundAnswers.Sound ans w s

  module _ (done : Agreement.IsCompletion ans w s) (G : Rules.MayAnswer)
      (ih : (t : Term) (x : Answer) → Agreement.Fits ans w t → G t x → Sound x (M t)) where
    pub takes_sound : (b : Option Bool) (v : Represented) (t e : Term) (a : Answer) → Agreement.Fits ans w t
        → Agreement.Fits ans w e → Rules.TakesBranch G b v t e a → Sound a (needing b (λ c. cond c (M t) (M e)))
    unfolding needing
    takes_sound None v t e a ft fe r = by_equal ans w s a _ _ r (sound_type_error ans w s v)
    takes_sound (Some true) v t e a ft fe r = ih t a ft r
    takes_sound (Some false) v t e a ft fe r = ih e a fe r

    pub branches_sound : (r t e : Term) (a : Answer) (o : Outcome) → Agreement.Fits ans w t → Agreement.Fits ans w e → R r o
        → Rules.KeepsBranches G r t e a → Sound a (Meaning.and_then_bool o (λ c. cond c (M t) (M e)))
    unfolding Meaning.meaning
    branches_sound r t e a o ft fe (fr, er) (x, g, h) =
        after_best ans w s x t _ a _ ft (ih t x ft g) h
        (λ t' (ft', et) (y, j, k). after_best ans w s y e _ a _ fe (ih e y fe j) k
        (λ e' (fe', ee) q. by_equal ans w s a _ _ q
        ((fr, ft', fe'), Binds.same_bool_bind (N r) o _ _ er (λ b. Binds.same_cond b (N t') (M t) (N e') (M e) et ee))))

    pub guard_sound : (x : Answer) (o : Outcome) (t e : Term) (a : Answer) → Agreement.Fits ans w t → Agreement.Fits ans w e
        → Sound x o → Rules.Then x (Rules.AfterGuard G t e) a → Sound a (Meaning.and_then_bool o (λ c. cond c (M t) (M e)))
    guard_sound (fails f) o t e a ft fe z r = by_equal ans w s a (fails f) _ r (error_bind ans w s f o _ z)
    guard_sound (answers (value v)) o t e a ft fe (u, q) r =
        value_bind ans w s a (abstract_value v) o _ q (takes_sound (bool_of (abstract_value v)) v t e a ft fe r)
    guard_sound (answers (residual q)) o t e a ft fe z r = branches_sound q t e a o ft fe z r

    pub right_sound : (h : Term → Term) → ((r : Term) → Agreement.Fits ans w r → Agreement.Fits ans w (h r))
        → ((r : Term) → N (h r) ≡ Meaning.and_then_bool (N r) gives_bool) → (t : Term) (a : Answer)
        → Agreement.Fits ans w t → Rules.ReadsRight G h t a → Sound a (Meaning.and_then_bool (M t) gives_bool)
    right_sound h hf hm t a f (x, g, e) = by_equal ans w s a _ _ e (joined_sound ans w s h hf hm x (M t) (ih t x f g))

    pub and_bool_sound : (b : Option Bool) (v : Represented) (t : Term) (a : Answer) → Agreement.Fits ans w t
        → Rules.AndLeft G b v t a → Sound a
        (needing b (λ c. cond c (Meaning.and_then_bool (M t) gives_bool) (gives_bool false)))
    unfolding needing Meaning.meaning and_then bool_of
    and_bool_sound None v t a f r = by_equal ans w s a _ _ r (sound_type_error ans w s v)
    and_bool_sound (Some true) v t a f r = right_sound _ (λ r k. (tt, k)) (λ r. refl) t a f r
    and_bool_sound (Some false) v t a f r = by_equal ans w s a _ _ r (sound_bool ans w s false)

    pub or_bool_sound : (b : Option Bool) (v : Represented) (t : Term) (a : Answer) → Agreement.Fits ans w t
        → Rules.OrLeft G b v t a → Sound a
        (needing b (λ c. cond c (gives_bool true) (Meaning.and_then_bool (M t) gives_bool)))
    unfolding needing Meaning.meaning and_then bool_of
    or_bool_sound None v t a f r = by_equal ans w s a _ _ r (sound_type_error ans w s v)
    or_bool_sound (Some true) v t a f r = by_equal ans w s a _ _ r (sound_bool ans w s true)
    or_bool_sound (Some false) v t a f r = right_sound _ (λ r k. (tt, k)) (λ r. refl) t a f r

    pub and_sound : (x : Answer) (o : Outcome) (t : Term) (a : Answer) → Agreement.Fits ans w t → Sound x o
        → Rules.Then x (Rules.AfterAndLeft G t) a → Sound a
        (Meaning.and_then_bool o (λ c. cond c (Meaning.and_then_bool (M t) gives_bool) (gives_bool false)))
    unfolding Meaning.meaning
    and_sound (fails f) o t a ft z r = by_equal ans w s a (fails f) _ r (error_bind ans w s f o _ z)
    and_sound (answers (value v)) o t a ft (u, q) r =
        value_bind ans w s a (abstract_value v) o _ q (and_bool_sound (bool_of (abstract_value v)) v t a ft r)
    and_sound (answers (residual r)) o t a ft (fr, er) (x, g, h) =
        after_best ans w s x t _ a _ ft (ih t x ft g) h
        (λ u (fu, eu) q. by_equal ans w s a _ _ q (
          (fr, fu),
          Binds.same_bool_bind (N r) o _ _ er
              (λ b. Binds.same_cond b _ _ _ _ (Binds.same_bool_bind (N u) (M t) _ _ eu (λ c. refl)) refl),
        ))

    pub or_sound : (x : Answer) (o : Outcome) (t : Term) (a : Answer) → Agreement.Fits ans w t → Sound x o
        → Rules.Then x (Rules.AfterOrLeft G t) a → Sound a
        (Meaning.and_then_bool o (λ c. cond c (gives_bool true) (Meaning.and_then_bool (M t) gives_bool)))
    unfolding Meaning.meaning
    or_sound (fails f) o t a ft z r = by_equal ans w s a (fails f) _ r (error_bind ans w s f o _ z)
    or_sound (answers (value v)) o t a ft (u, q) r =
        value_bind ans w s a (abstract_value v) o _ q (or_bool_sound (bool_of (abstract_value v)) v t a ft r)
    or_sound (answers (residual r)) o t a ft (fr, er) (x, g, h) =
        after_best ans w s x t _ a _ ft (ih t x ft g) h
        (λ u (fu, eu) q. by_equal ans w s a _ _ q (
          (fr, fu),
          Binds.same_bool_bind (N r) o _ _ er
              (λ b. Binds.same_cond b _ _ _ _ refl (Binds.same_bool_bind (N u) (M t) _ _ eu (λ c. refl))),
        ))

    -- ---- two operands

    -- a part that is known to be an entity of a type
    pub typed_part : (p : PartialValue) (o : Outcome) (t : Text) → Sound (answers p) o → Rules.entity_type_of p ≡ Some t
        → (v : AbstractValue) × (o ≡ gives v) × IsEntityOf v t
    unfolding Rules.entity_type_of Meaning.meaning Agreement.outcome_value
    typed_part (value v) o t (f, e) h = (abstract_value v, e, entity_by_name (abstract_value v) t h)
    typed_part (residual r) o t (f, e) h =
        let z = annotated_unknown r t h in
        let g : Agreement.HasType w z.0 (Some (entity_type t)) = subst (Agreement.Fits ans w) z.1 f in
        let k : Agreement.outcome_value (N (unknown z.0 (Some (entity_type t)))) ≡ Agreement.outcome_value o =
        ap (λ q. Agreement.outcome_value (N q)) (sym z.1) ∙ e in
        (w.sigma z.0, Binds.gives_of o (w.sigma z.0) (sym k), entity_by_type (w.sigma z.0) t g)

    pub apart_false : (a b : Option Text) → Rules.are_apart a b ≡ true → (x : Text) × (y : Text) × (a ≡ Some x)
        × (b ≡ Some y) × (text_eq x y ≡ false)
    unfolding Rules.are_apart
    apart_false None b e = absurd (cc)
    apart_false (Some x) None e = absurd (cc)
    apart_false (Some x) (Some y) e = (x, y, refl, refl, by (text_eq x y) e)
      where
        by : (c : Bool) → not c ≡ true → c ≡ false
        by true g = absurd (cc)
        by false g = refl

    pub apart_sound : (p q : PartialValue) (o m : Outcome) → Sound (answers p) o → Sound (answers q) m
        → Rules.are_apart (Rules.entity_type_of p) (Rules.entity_type_of q) ≡ true
        → and_then o (λ u. and_then m (λ v. Meaning.binary_meaning s.extensions w eq_operator u v)) ≡ gives_bool false
    unfolding and_then Meaning.binary_meaning
    apart_sound p q o m hp hq e =
        let z = apart_false (Rules.entity_type_of p) (Rules.entity_type_of q) e in
        let x = typed_part p o z.0 hp z.2 in
        let y = typed_part q m z.1 hq z.3 in
        (λ i. and_then (x.1 i) (λ u. and_then (y.1 i) (λ v. gives_bool (value_eq u v))))
        ∙ ap gives_bool (apart_values x.0 y.0 z.0 z.1 x.2 y.2 z.4)

    pub differ_sound : (op : BinaryOperator) (p q : PartialValue) (o m : Outcome) → Sound (answers p) o
        → Sound (answers q) m → Rules.differ_by_type op p q ≡ true
        → and_then o (λ u. and_then m (λ v. Meaning.binary_meaning s.extensions w op u v)) ≡ gives_bool false
    unfolding Rules.differ_by_type
    differ_sound eq_operator p q o m hp hq e = apart_sound p q o m hp hq e
    differ_sound less_operator p q o m hp hq e = absurd (cc)
    differ_sound less_eq_operator p q o m hp hq e = absurd (cc)
    differ_sound add_operator p q o m hp hq e = absurd (cc)
    differ_sound sub_operator p q o m hp hq e = absurd (cc)
    differ_sound mul_operator p q o m hp hq e = absurd (cc)
    differ_sound in_operator p q o m hp hq e = absurd (cc)
    differ_sound contains_operator p q o m hp hq e = absurd (cc)
    differ_sound contains_all_operator p q o m hp hq e = absurd (cc)
    differ_sound contains_any_operator p q o m hp hq e = absurd (cc)
    differ_sound get_tag_operator p q o m hp hq e = absurd (cc)
    differ_sound has_tag_operator p q o m hp hq e = absurd (cc)

    pub kept_sound : (op : BinaryOperator) (p q : PartialValue) (o m : Outcome) → Sound (answers p) o → Sound (answers q) m
        → Sound (Rules.kept_binary op p q)
        (and_then o (λ u. and_then m (λ v. Meaning.binary_meaning s.extensions w op u v)))
    unfolding Meaning.meaning
    kept_sound op p q o m hp hq = by (Rules.differ_by_type op p q) refl
      where
        by : (b : Bool) → Rules.differ_by_type op p q ≡ b
            → Sound (cond b (answers_bool false) (answers_residual (binary op (part_expression p) (part_expression q))))
            (and_then o (λ u. and_then m (λ v. Meaning.binary_meaning s.extensions w op u v)))
        by true e = (tt, differ_sound op p q o m hp hq e)
        by false e =
            let x = part_stands ans w s p o hp in
            let y = part_stands ans w s q m hq in (
              (x.0, y.0),
              Binds.same_bind (N (part_expression p)) o _ _ x.1
                  (λ u. Binds.same_bind (N (part_expression q)) m _ _ y.1 (λ v. refl)),
            )

    pub parts_op_sound : (op : BinaryOperator) (p q : PartialValue) (o m : Outcome) → Sound (answers p) o
        → Sound (answers q) m → Sound (Rules.binary_of_parts s op p q)
        (and_then o (λ u. and_then m (λ v. Meaning.binary_meaning s.extensions w op u v)))
    unfolding Rules.binary_of_parts
    parts_op_sound op (value v) (value u) o m (fv, ev) (fu, eu) =
        value_bind ans w s _ (abstract_value v) o _ ev
        (value_bind ans w s _ (abstract_value u) m _ eu (Means.binary_means ans w s F R E (well ans w s done) op v u fu))
    parts_op_sound op (value v) (residual r) o m hp hq = kept_sound op (value v) (residual r) o m hp hq
    parts_op_sound op (residual r) (value v) o m hp hq = kept_sound op (residual r) (value v) o m hp hq
    parts_op_sound op (residual r) (residual q) o m hp hq = kept_sound op (residual r) (residual q) o m hp hq

    pub beside_sound : (op : BinaryOperator) (p : PartialValue) (y : Answer) (o m : Outcome) → Sound (answers p) o
        → Sound y m → Sound (Rules.binary_beside s op p y)
        (and_then o (λ u. and_then m (λ v. Meaning.binary_meaning s.extensions w op u v)))
    unfolding Rules.binary_beside
    beside_sound op p (answers q) o m hp hq = parts_op_sound op p q o m hp hq
    beside_sound op p (fails e) o m hp hq = loose_map (failure_kind e) _ _ (Binds.error_inside o m _) hq

    -- a stored residual that is read stands for what it means
    pub read_sound : (r : Term) (u : AbstractValue) (x : Answer) → IsStored s.store r → N r ≡ gives u → G r x
        → Sound x (gives u)
    read_sound r u x i e g =
        let fr : Agreement.Fits ans w r =
        each_stored (Agreement.FitsPart s.extensions ans w) s.store done.agreement.store_fits r i in
        let m : M r ≡ gives u = Binds.less_gives (N r) (M r) u (Binds.fewer_slots s.extensions ans w s.slots r) e in
        subst (Sound x) m (ih r x fr g)

    pub beside_read : (op : BinaryOperator) (p : PartialValue) (y : Answer) (o m : Outcome) (r : Term) (a : Answer)
        → Sound (answers p) o → Sound y m → Rules.beside_residual s.store op p y ≡ Some r → G r a
        → Sound a (and_then o (λ u. and_then m (λ v. Meaning.binary_meaning s.extensions w op u v)))
    unfolding Rules.beside_residual
    beside_read op p (fails e) o m r a hp hq i g = absurd (cc)
    beside_read op (value v) (answers (value v')) o m r a (fv, ev) (fu, eu) i g =
        let z = StoredMeans.binary_stored ans w s done.agreement.store_agrees op v v' r i in
        let h : Sound a (gives z.0) =
        read_sound r z.0 a (beside_is_stored s.store op (value v) (answers (value v')) r i) z.1 g in
        value_bind ans w s a (abstract_value v) o _ ev (value_bind ans w s a (abstract_value v') m _ eu (subst (Sound a) (sym z.2) h))
    beside_read op (value v) (answers (residual q)) o m r a hp hq i g = absurd (cc)
    beside_read op (residual q) (answers q') o m r a hp hq i g = absurd (cc)

    pub left_sound : (op : BinaryOperator) (x : Answer) (o : Outcome) (t : Term) (a : Answer) → Agreement.Fits ans w t
        → Sound x o → Rules.Then x (Rules.AfterLeft G s op t) a
        → Sound a (and_then o (λ u. and_then (M t) (λ v. Meaning.binary_meaning s.extensions w op u v)))
    left_sound op (fails f) o t a ft z r = by_equal ans w s a (fails f) _ r (error_bind ans w s f o _ z)
    left_sound op (answers p) o t a ft z (y, j, e) =
        let h = ih t y ft j in
        resolving.resolved G (λ b. Sound b
        (and_then o (λ u. and_then (M t) (λ v. Meaning.binary_meaning s.extensions w op u v)))) s.resolution
        (Rules.beside_residual s.store op p y) _ a (beside_sound op p y o (M t) z h)
        (λ r d i g. beside_read op p y o (M t) r a z h i g) e

    -- ---- `is`

    pub is_sound : (t : Text) (x : Answer) (o : Outcome) → Sound x o
        → Sound (Rules.is_part t x) (and_then o (λ v. needing (entity_of v) (λ e. gives_bool (text_eq e.type_name t))))
    unfolding Rules.is_part Rules.is_annotated Meaning.meaning Rules.entity_type_of
    is_sound t (fails f) o z = error_bind ans w s f o _ z
    is_sound t (answers (value v)) o (f, e) =
        value_bind ans w s _ (abstract_value v) o _ e (Means.is_means ans w s F R E (well ans w s done) t v)
    is_sound t (answers (residual r)) o (f, e) = by (Rules.entity_type_of_residual r) refl
      where
        typed : (v : AbstractValue) (u : Text) → IsEntityOf v u
            → needing (entity_of v) (λ d. gives_bool (text_eq d.type_name t)) ≡ gives_bool (text_eq u t)
        typed v u (d, dv, du) = is_entity d v u dv du t

        by : (a : Option Text) → Rules.entity_type_of_residual r ≡ a
            → Sound (Rules.is_annotated a r t)
            (and_then o (λ v. needing (entity_of v) (λ d. gives_bool (text_eq d.type_name t))))
        by None h = (f, Binds.same_bind (N r) o _ _ e (λ v. refl))
        by (Some u) h =
            let z = typed_part (residual r) o u (f, e) h in (
              tt,
              bind_gives o z.0 (λ v. needing (entity_of v) (λ d. gives_bool (text_eq d.type_name t))) z.1
                  ∙ typed z.0 u z.2,
            )
