-- What the rules make of the stored residuals that are evaluated.
use Rattle.std.specs.Prelude.{◌≡◌, ◌<◌, List, [], ◌∷◌, length, Option, None, Some, suc}
use Rattle.std.proofs.Common.{refl, sym, ap, ◌∙◌, subst, arith}
use Rattle.cedar_model.specs.Terms.{Text, EntityName, Term, extended_has, BinaryOperator, bool_literal, long_literal}
use Rattle.cedar_model.specs.Terms.{text_literal, entity_literal}
use Rattle.cedar_model.specs.Terms.{eq_operator, less_operator, less_eq_operator, add_operator, sub_operator, mul_operator}
use Rattle.cedar_model.specs.Terms.{in_operator, contains_operator, contains_all_operator, contains_any_operator}
use Rattle.cedar_model.specs.Terms.{get_tag_operator, has_tag_operator}
use Rattle.cedar_model.specs.Values.{Represented, plain_represented, set_represented, record_represented}
use Rattle.cedar_model.specs.Values.{extension_represented, abstract_value}
use Rattle.cedar_model.specs.Outcomes.{entity_of, text_of}
use Rattle.cedar_model.specs.Failures.{Failure, PartialValue, value, residual, Answer, answers, fails, answers_value}
use Rattle.cedar_model.specs.Settings.{Resolution, shallow, deep, Store, Setting, Found, found, not_there, not_known}
use Rattle.cedar_model.specs.Settings.{look_up, part_at}
use Rattle.cedar_model.specs.Operators.{Container, a_record, an_entity, no_container, container_of, container_expected}
use Rattle.cedar_model.specs.Operators.{Walk, walks_on, stops, walk_in, walk_to, walk_found, walk_to_stored, after_walk}
use Rattle.cedar_model.specs.Operators.{path_answer, attribute_residual, attribute_residual_found, residual_in}
use Rattle.cedar_model.specs.Operators.{represented_at, attribute_answer, attribute_found, stored_attribute}
use Rattle.cedar_model.specs.Operators.{binary_answer, binary_residual, expecting, tag_found, stored_tag}
use Rattle.cedar_model.specs.Operators.{tag_residual_of, tag_residual_found, entity_expected, text_expected}
use Rattle.cedar_model.specs.Rules.{MayAnswer, Resolves, AfterStored, AfterWalk, WalksOn, Walks, WalksFrom, AtPath, on_part, Then}
use Rattle.cedar_model.specs.Rules.{beside_residual}
use Rattle.cedar_operators.specs.StoredResiduals.{path_residual, read_or, next_in, next_found, value_in}
use Rattle.cedar_operators.specs.Operands.{over}
use Rattle.cedar_operators.proofs.Stored.{stored_as_is}
use Rattle.cedar_interpreter.specs.Reads.{resolved_in, part_path}
use Rattle.cedar_model.proofs.Injections.{some_inj}

-- the step walks on to this value, or stops
abbrev IsStep : Option Represented → Walk → Type 0
IsStep (Some u) z = z ≡ walks_on u
IsStep None (walks_on v) = ⊥
IsStep None (stops b) = Unit {0}

step_walks : (z : Walk) (u : Represented) → IsStep (Some u) z → z ≡ walks_on u
step_walks (walks_on v) u is = is
step_walks (stops b) u is = is

step_inj : {u v : Represented} → walks_on v ≡ walks_on u → v ≡ u
step_inj e = cc

read_inj : {t r : Term} {l n : Text} {ls ns : List Text}
    → ◌≡◌ {A = Option (Term × Text × List Text)} (Some (r, l, ls)) (Some (t, n, ns)) → (r ≡ t) × (l ≡ n) × (ls ≡ ns)
read_inj {t} {r} {l} {n} {ls} {ns} e =
    let p : ◌≡◌ {A = Term × Text × List Text} (r, l, ls) (t, n, ns) = some_inj e in (
      ap (λ (x : Term × Text × List Text). x.0) p,
      ap (λ (x : Term × Text × List Text). x.1) p,
      ap (λ (x : Term × Text × List Text). x.2) p,
    )

no_residual : (x : Represented) (t : Term) → answers_value x ≡ answers (residual t) → ⊥
no_residual x t e = cc

-- ---- an attribute, and a tag

module _ (May : MayAnswer) where
  -- where nothing is evaluated, what is stored is answered
  pub as_stored : (q : Resolution) (o : Option Term) (b a : Answer) → resolved_in q o ≡ None → a ≡ b → Resolves May q o b a
  as_stored shallow o b a none is = is
  as_stored deep None b a none is = is
  as_stored deep (Some t) b a none is = absurd (cc)

  -- else what the stored residual answers
  pub as_read : (q : Resolution) (o : Option Term) (t : Term) (b a : Answer) → resolved_in q o ≡ Some t → May t a
      → Resolves May q o b a
  as_read shallow o t b a read may = absurd (cc)
  as_read deep None t b a read may = absurd (cc)
  as_read deep (Some u) t b a read may = subst (λ x. May x a) (sym (some_inj read)) may

-- ---- the step of an extended `has`

-- the residual that an attribute of a container is stored as
unfoldable in_container : Store → Container → Text → Option Term
in_container store (a_record fs) k = None
in_container store (an_entity e) k = attribute_residual_found (look_up store e) k
in_container store no_container k = None

in_its_container : (store : Store) (v : Represented) (k : Text)
    → attribute_residual store v k ≡ in_container store (container_of v) k
unfolding in_container container_of entity_of Rattle.cedar_model.specs.Operators.attribute_residual_of
in_its_container store (plain_represented (bool_literal b)) k = refl
in_its_container store (plain_represented (long_literal n)) k = refl
in_its_container store (plain_represented (text_literal t)) k = refl
in_its_container store (plain_represented (entity_literal e)) k = refl
in_its_container store (set_represented vs) k = refl
in_its_container store (record_represented fs) k = refl
in_its_container store (extension_represented t l f ts) k = refl

-- a step that reads no stored residual leads to a value, or stops
stored_step : (o : Option PartialValue) (l : Text) (ls : List Text) (w : Option Represented) → residual_in o ≡ None
    → value_in o ≡ w → IsStep w (walk_to_stored o l ls)
unfolding residual_in value_in walk_to_stored
stored_step None l ls (Some u) none is = absurd (cc)
stored_step None l ls None none is = tt
stored_step (Some (value v)) l ls (Some u) none is = ap walks_on (some_inj is)
stored_step (Some (value v)) l ls None none is = absurd (cc)
stored_step (Some (residual t)) l ls w none is = absurd (cc)

found_step : (f : Found) (e : EntityName) (k l : Text) (ls : List Text) (w : Option Represented)
    → attribute_residual_found f k ≡ None → next_found f k ≡ w → IsStep w (walk_found f e k l ls)
unfolding attribute_residual_found next_found walk_found
found_step not_known e k l ls (Some u) none is = absurd (cc)
found_step not_known e k l ls None none is = tt
found_step not_there e k l ls (Some u) none is = absurd (cc)
found_step not_there e k l ls None none is = tt
found_step (found x) e k l ls w none is = stored_step (part_at k x.attributes) l ls w none is

key_step : (o w : Option Represented) → o ≡ w → IsStep w (walk_to o)
unfolding walk_to
key_step None None is = tt
key_step None (Some u) is = absurd (cc)
key_step (Some v) None is = absurd (cc)
key_step (Some v) (Some u) is = ap walks_on (some_inj is)

container_step : (store : Store) (c : Container) (failure : Failure) (k l : Text) (ls : List Text)
    (w : Option Represented) → in_container store c k ≡ None → next_in store c k ≡ w
    → IsStep w (walk_in store c failure k l ls)
unfolding in_container next_in walk_in
container_step store (a_record fs) failure k l ls w none is = key_step (represented_at k fs) w is
container_step store (an_entity e) failure k l ls w none is = found_step (look_up store e) e k l ls w none is
container_step store no_container failure k l ls (Some u) none is = absurd (cc)
container_step store no_container failure k l ls None none is = tt

step_is : (store : Store) (v : Represented) (k l : Text) (ls : List Text) (w : Option Represented)
    → attribute_residual store v k ≡ None → next_in store (container_of v) k ≡ w
    → IsStep w (walk_in store (container_of v) (container_expected v) k l ls)
step_is store v k l ls w none is =
    container_step store (container_of v) (container_expected v) k l ls w (sym (in_its_container store v k) ∙ none) is

-- ---- an extended `has`

module _ (May : MayAnswer) (store : Store) where
  -- what is walked on to, or the step's own answer
  walks_from : (w : Option Represented) (z : Walk) (Next : Represented → Answer → Type 0)
      (next : Represented → Answer) → IsStep w z → ((u : Represented) → w ≡ Some u → Next u (next u))
      → AfterWalk May z Next (after_walk z next)
  unfolding after_walk
  walks_from (Some u) (walks_on v) Next next is h = subst (λ x. Next x (next x)) (sym (step_inj is)) (h u refl)
  walks_from None (walks_on v) Next next is h = absurd is
  walks_from w (stops b) Next next is h = refl

  walks_to : (u : Represented) (z : Walk) (Next : Represented → Answer → Type 0) (a : Answer) → IsStep (Some u) z
      → Next u a → AfterWalk May z Next a
  walks_to u (walks_on v) Next a is h = subst (λ x. Next x a) (sym (step_inj is)) h
  walks_to u (stops b) Next a is h = absurd (cc)

  -- where nothing on the way is a stored residual, the walk ends as it does with shallow resolution
  walk_stored : (ks : List Text) (v : Represented) (k : Text) → path_residual store v k ks ≡ None
      → Walks May store v k ks (path_answer store v k ks)
  unfolding path_answer path_residual read_or
  walk_stored [] v k none = refl
  walk_stored (l ∷ ls) v k none =
      by (attribute_residual store v k) (next_in store (container_of v) k) (λ u h. walk_stored ls u l h) refl refl none
    where
      z : Walk
      z = walk_in store (container_of v) (container_expected v) k l ls

      by : (o : Option Term) (w : Option Represented)
          → ((u : Represented) → path_residual store u l ls ≡ None → Walks May store u l ls (path_answer store u l ls))
          → attribute_residual store v k ≡ o
          → next_in store (container_of v) k ≡ w → read_or o w l ls (λ u. path_residual store u l ls) ≡ None
          → WalksOn May o z l ls (λ u. Walks May store u l ls) (after_walk z (λ u. path_answer store u l ls))
      by (Some t) w go i j h = absurd (cc)
      by None (Some u) go i j h =
          walks_from (Some u) z (λ x. Walks May store x l ls) (λ x. path_answer store x l ls)
          (step_is store v k l ls (Some u) i j)
          (λ x e. subst (λ y. Walks May store y l ls (path_answer store y l ls)) (some_inj e) (go u h))
      by None None go i j h =
          walks_from None z (λ x. Walks May store x l ls) (λ x. path_answer store x l ls)
          (step_is store v k l ls None i j) (λ x e. absurd (cc))

  after_read : (y : Answer) (l : Text) (ls : List Text) (a : Answer) → Then y (WalksFrom May store l ls) a
      → AfterStored May y l ls (λ u. Walks May store u l ls) a
  after_read (fails e) l ls a h = h
  after_read (answers (value v)) l ls a h = h
  after_read (answers (residual r)) l ls a h = h

  -- else it goes on from what the residual answers
  walk_read : (ks : List Text) (v : Represented) (k : Text) (t : Term) (n : Text) (ns : List Text)
      → path_residual store v k ks ≡ Some (t, n, ns) → (y a : Answer) → May t y → Then y (WalksFrom May store n ns) a
      → Walks May store v k ks a
  unfolding path_residual read_or
  walk_read [] v k t n ns some y a may from = absurd (cc)
  walk_read (l ∷ ls) v k t n ns some y a may from =
      by (attribute_residual store v k) (next_in store (container_of v) k) (λ u h. walk_read ls u l t n ns h y a may from)
      refl refl some
    where
      z : Walk
      z = walk_in store (container_of v) (container_expected v) k l ls

      by : (o : Option Term) (w : Option Represented)
          → ((u : Represented) → path_residual store u l ls ≡ Some (t, n, ns) → Walks May store u l ls a)
          → attribute_residual store v k ≡ o
          → next_in store (container_of v) k ≡ w
          → read_or o w l ls (λ u. path_residual store u l ls) ≡ Some (t, n, ns)
          → WalksOn May o z l ls (λ u. Walks May store u l ls) a
      by (Some r) w go i j h =
          let e = read_inj h in (
            y,
            subst (λ x. May x y) (sym e.0) may,
            after_read y l ls a
                (subst (λ x. Then y (WalksFrom May store x ls) a) (sym e.1) (subst (λ x. Then y (WalksFrom May store n x) a) (sym e.2) from)),
          )
      by None (Some u) go i j h =
          walks_to u z (λ x. Walks May store x l ls) a (step_is store v k l ls (Some u) i j)
          (go u h)
      by None None go i j h = absurd (cc)

  -- with whatever resolution
  pub path_as_stored : (q : Resolution) (p : PartialValue) (k : Text) (ks : List Text) (a : Answer)
      → resolved_in q (part_path store p k ks) ≡ None
      → a ≡ on_part (λ v. path_answer store v k ks) (λ r. extended_has r k ks) (answers p)
      → AtPath May q store (answers p) k ks a
  unfolding on_part
  path_as_stored shallow p k ks a none is = is
  path_as_stored deep (value v) k ks a none is = subst (Walks May store v k ks) (sym is) (walk_stored ks v k none)
  path_as_stored deep (residual r) k ks a none is = is

  pub path_as_read : (q : Resolution) (p : PartialValue) (k : Text) (ks : List Text) (t : Term) (n : Text)
      (ns : List Text) → resolved_in q (part_path store p k ks) ≡ Some (t, n, ns) → (y a : Answer) → May t y
      → AtPath May q store y n ns a → AtPath May q store (answers p) k ks a
  path_as_read shallow p k ks t n ns some y a may from = absurd (cc)
  path_as_read deep (value v) k ks t n ns some y a may from = walk_read ks v k t n ns some y a may from
  path_as_read deep (residual r) k ks t n ns some y a may from = absurd (cc)

-- fewer attributes come after it
path_shorter : (store : Store) (ks : List Text) (v : Represented) (k : Text) (t : Term) (n : Text) (ns : List Text)
    → path_residual store v k ks ≡ Some (t, n, ns) → length ns < length ks
unfolding path_residual read_or
path_shorter store [] v k t n ns some = absurd (cc)
path_shorter store (l ∷ ls) v k t n ns some =
    by (attribute_residual store v k) (next_in store (container_of v) k) (λ u h. path_shorter store ls u l t n ns h) some
  where
    by : (o : Option Term) (w : Option Represented)
        → ((u : Represented) → path_residual store u l ls ≡ Some (t, n, ns) → length ns < length ls)
        → read_or o w l ls (λ u. path_residual store u l ls) ≡ Some (t, n, ns) → length ns < suc (length ls)
    by (Some r) w go h = let e = (read_inj h).2 in subst (λ x. length x < suc (length ls)) e (omega arith)
    by None (Some u) go h = let i = go u h in omega (arith, i)
    by None None go h = absurd (cc)

pub read_shorter : (q : Resolution) (store : Store) (p : PartialValue) (k : Text) (ks : List Text) (t : Term) (n : Text)
    (ns : List Text) → resolved_in q (part_path store p k ks) ≡ Some (t, n, ns) → length ns < length ks
read_shorter shallow store p k ks t n ns some = absurd (cc)
read_shorter deep store (value v) k ks t n ns some = path_shorter store ks v k t n ns some
read_shorter deep store (residual r) k ks t n ns some = absurd (cc)

-- ---- an answer that is a value was read from no stored residual

stored_value : (o : Option PartialValue) (f : Failure) (x : Represented)
    → answers_value x ≡ stored_attribute (λ n. None) o f → residual_in o ≡ None
unfolding residual_in stored_attribute
stored_value None f x is = refl
stored_value (Some (value v)) f x is = refl
stored_value (Some (residual t)) f x is = absurd (no_residual x t (is ∙ stored_as_is (residual t) f))

found_value : (f : Found) (e : EntityName) (k : Text) (x : Represented)
    → answers_value x ≡ attribute_found (λ n. None) f e k → attribute_residual_found f k ≡ None
unfolding attribute_residual_found attribute_found
found_value not_known e k x is = refl
found_value not_there e k x is = refl
found_value (found d) e k x is = stored_value (part_at k d.attributes) _ x is

container_value : (s : Setting) (store : Store) (c : Container) (failure : Failure) (k : Text) (x : Represented)
    → answers_value x ≡ Rattle.cedar_model.specs.Operators.attribute_in (over s store) c failure k
    → in_container store c k ≡ None
unfolding in_container Rattle.cedar_model.specs.Operators.attribute_in
container_value s store (a_record fs) failure k x is = refl
container_value s store (an_entity e) failure k x is = found_value (look_up store e) e k x is
container_value s store no_container failure k x is = refl

pub attribute_value : (s : Setting) (store : Store) (v : Represented) (k : Text) (x : Represented)
    → answers_value x ≡ attribute_answer (over s store) v k → attribute_residual store v k ≡ None
attribute_value s store v k x is =
    in_its_container store v k ∙ container_value s store (container_of v) (container_expected v) k x is

-- a step that reads a stored residual keeps the attributes after it
stored_stops : (o : Option PartialValue) (t : Term) (l : Text) (ls : List Text) → residual_in o ≡ Some t
    → walk_to_stored o l ls ≡ stops (answers (residual (extended_has t l ls)))
unfolding residual_in walk_to_stored
stored_stops None t l ls is = absurd (cc)
stored_stops (Some (value v)) t l ls is = absurd (cc)
stored_stops (Some (residual r)) t l ls is = ap (λ x. stops (answers (residual (extended_has x l ls)))) (some_inj is)

found_stops : (f : Found) (e : EntityName) (k : Text) (t : Term) (l : Text) (ls : List Text)
    → attribute_residual_found f k ≡ Some t
    → walk_found f e k l ls ≡ stops (answers (residual (extended_has t l ls)))
unfolding attribute_residual_found walk_found
found_stops not_known e k t l ls is = absurd (cc)
found_stops not_there e k t l ls is = absurd (cc)
found_stops (found x) e k t l ls is = stored_stops (part_at k x.attributes) t l ls is

container_stops : (store : Store) (c : Container) (failure : Failure) (k : Text) (t : Term) (l : Text) (ls : List Text)
    → in_container store c k ≡ Some t → walk_in store c failure k l ls ≡ stops (answers (residual (extended_has t l ls)))
unfolding in_container walk_in
container_stops store (a_record fs) failure k t l ls is = absurd (cc)
container_stops store (an_entity e) failure k t l ls is = found_stops (look_up store e) e k t l ls is
container_stops store no_container failure k t l ls is = absurd (cc)

pub path_value : (store : Store) (ks : List Text) (v : Represented) (k : Text) (x : Represented)
    → answers_value x ≡ path_answer store v k ks → path_residual store v k ks ≡ None
unfolding path_answer path_residual read_or after_walk
path_value store [] v k x is = refl
path_value store (l ∷ ls) v k x is =
    by (attribute_residual store v k) (next_in store (container_of v) k) (λ u h. path_value store ls u l x h) refl refl
  where
    z : Walk
    z = walk_in store (container_of v) (container_expected v) k l ls

    by : (o : Option Term) (w : Option Represented)
        → ((u : Represented) → answers_value x ≡ path_answer store u l ls → path_residual store u l ls ≡ None)
        → attribute_residual store v k ≡ o
        → next_in store (container_of v) k ≡ w → read_or o w l ls (λ u. path_residual store u l ls) ≡ None
    by (Some t) w go i j =
        let stopped : z ≡ stops (answers (residual (extended_has t l ls))) =
        container_stops store (container_of v) (container_expected v) k t l ls (sym (in_its_container store v k) ∙ i) in
        absurd (no_residual x (extended_has t l ls) (is ∙ ap (λ y. after_walk y (λ u. path_answer store u l ls)) stopped))
    by None (Some u) go i j =
        let walked : z ≡ walks_on u = step_walks z u (step_is store v k l ls (Some u) i j) in
        go u (is ∙ ap (λ y. after_walk y (λ w. path_answer store w l ls)) walked)
    by None None go i j = refl

tag_value : (o : Option PartialValue) (f : Failure) (x : Represented) → answers_value x ≡ stored_tag o f
    → residual_in o ≡ None
unfolding residual_in stored_tag
tag_value None f x is = refl
tag_value (Some (value v)) f x is = refl
tag_value (Some (residual t)) f x is = absurd (no_residual x t is)

found_tag_value : (f : Found) (e : EntityName) (t : Text) (x : Represented) → answers_value x ≡ tag_found f e t
    → tag_residual_found f t ≡ None
unfolding tag_residual_found tag_found
found_tag_value not_known e t x is = refl
found_tag_value not_there e t x is = refl
found_tag_value (found d) e t x is = tag_value (part_at t d.tags) _ x is

named_tag_value : (store : Store) (o : Option EntityName) (n : Option Text) (f g : Failure) (x : Represented)
    → answers_value x ≡ expecting o f (λ e. expecting n g (tag_found (look_up store e) e))
    → tag_residual_of store o n ≡ None
unfolding tag_residual_of expecting
named_tag_value store None n f g x is = refl
named_tag_value store (Some e) None f g x is = refl
named_tag_value store (Some e) (Some t) f g x is = found_tag_value (look_up store e) e t x is

pub operator_value : (s : Setting) (op : BinaryOperator) (v w x : Represented)
    → answers_value x ≡ binary_answer s op v w → beside_residual s.store op (value v) (answers_value w) ≡ None
unfolding beside_residual binary_residual binary_answer
operator_value s eq_operator v w x is = refl
operator_value s less_operator v w x is = refl
operator_value s less_eq_operator v w x is = refl
operator_value s add_operator v w x is = refl
operator_value s sub_operator v w x is = refl
operator_value s mul_operator v w x is = refl
operator_value s in_operator v w x is = refl
operator_value s contains_operator v w x is = refl
operator_value s contains_all_operator v w x is = refl
operator_value s contains_any_operator v w x is = refl
operator_value s get_tag_operator v w x is =
    named_tag_value s.store (entity_of (abstract_value v)) (text_of (abstract_value w)) (entity_expected (abstract_value v))
    (text_expected (abstract_value w)) x is
operator_value s has_tag_operator v w x is = refl

-- nothing is evaluated then
pub none_resolved : {A : Type 0} (q : Resolution) (o : Option A) → o ≡ None → resolved_in q o ≡ None
none_resolved shallow o is = refl
none_resolved deep o is = is

pub nothing_resolved : {A : Type 0} (q : Resolution) (x : A) → resolved_in {A = A} q None ≡ Some x → ⊥
nothing_resolved shallow x is = cc
nothing_resolved deep x is = cc
