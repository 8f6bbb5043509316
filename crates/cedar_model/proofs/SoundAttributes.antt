-- What stands for an outcome where a container answers so: `has`, attributes, extended `has`.
use Rattle.std.specs.Prelude.{◌≡◌, Bool, true, false, List, [], ◌∷◌, Option}
use Rattle.std.specs.Prelude.{Some, None, Result, Ok, Err, is_some}
use Rattle.std.proofs.Common.{refl, sym, ap, ◌∙◌, subst}
use Rattle.cedar_model.specs.Terms.{Text, bool_literal}
use Rattle.cedar_model.specs.Terms.{Term}
use Rattle.cedar_model.specs.Terms.{record_of}
use Rattle.cedar_model.specs.Terms.{Fields}
use Rattle.cedar_model.specs.Values.{AbstractValue, record_value, AbstractFields}
use Rattle.cedar_model.specs.Values.{Represented, plain_represented, abstract_value}
use Rattle.cedar_model.specs.Shapes.{is_projectable}
use Rattle.cedar_model.specs.Outcomes.{ErrorKind}
use Rattle.cedar_model.specs.Outcomes.{Outcome, gives, gives_bool, and_then}
use Rattle.cedar_model.specs.Outcomes.{value_at}
use Rattle.cedar_model.specs.World.{World, Functions}
use Rattle.cedar_model.specs.Meaning
use Rattle.cedar_model.specs.Failures.{Failure, failure_kind}
use Rattle.cedar_model.specs.Failures.{value, residual, Answer, answers, fails}
use Rattle.cedar_model.specs.Settings.{Resolution, shallow, deep, Setting}
use Rattle.cedar_model.specs.Operators
use Rattle.cedar_model.specs.Rules
use Rattle.cedar_model.specs.Agreement
use Rattle.cedar_model.proofs.Means
use Rattle.cedar_model.proofs.Resolving as resolving
use Rattle.cedar_model.proofs.Resolving.{attribute_is_stored}
use Rattle.cedar_model.proofs.StoredMeans
use Rattle.cedar_model.proofs.Binds
use Rattle.cedar_model.proofs.Projection
use Rattle.cedar_model.proofs.SoundAnswers
use Rattle.cedar_model.proofs.SoundAnswers.{bind_gives, has_record, no_attribute, an_attribute, by_equal, value_bind, error_bind, on_part_sound, well}
use Rattle.cedar_model.proofs.SoundOperands.{read_sound}

module _ (ans : Functions) (w : World) (s : Setting) where
  abbrev F : Represented → Type 0
  F v = Agreement.IsFaithful s.extensions ans v

  abbrev N : Term → Outcome
  N = SoundAnswers.N ans w s

  abbrev M : Term → Outcome
  M = SoundAnswers.M ans w s

  abbrev R : Term → Outcome → Type 0
  R = SoundAnswers.R ans w s

  abbrev E : Failure → Outcome → Type 0
  E = SoundAnswers.E ans w s

  abbrev Sound : Answer → Outcome → Type 0
  Sound = SoundAnswers.Sound ans w s

  module _ (done : Agreement.IsCompletion ans w s) (G : Rules.MayAnswer)
      (ih : (t : Term) (x : Answer) → Agreement.Fits ans w t → G t x → Sound x (M t)) where
    -- ---- records that are residuals

    -- the outcome of a residual record whose fields mean a record
    pub record_outcome : (r : Term) (fs : Fields) (o : Outcome) (gs : AbstractFields) → r ≡ record_of fs
        → Agreement.HaveSameOutcome (N r) o → Meaning.field_meanings s.extensions ans w Agreement.no_slots fs ≡ Ok gs
        → o ≡ gives (record_value gs)
    unfolding Meaning.meaning Meaning.and_then_all Agreement.outcome_value
    record_outcome r fs o gs p e h =
        Binds.gives_of o (record_value gs)
        (sym e ∙ ap (λ q. Agreement.outcome_value (N q)) p
        ∙ ap (λ m. Agreement.outcome_value (Meaning.and_then_all m (λ hs. gives (record_value hs)))) h)

    pub present : (a : Option Term) (b : Option AbstractValue) → Projection.AtSame s.extensions ans w a b
        → is_some a ≡ is_some b
    present None None h = refl
    present None (Some v) h = absurd h
    present (Some t) None h = absurd h
    present (Some t) (Some v) h = refl

    pub has_fields_sound : (fs : Fields) (b : Bool) (r : Term) (k : Text) (o : Outcome) → Rules.fields_of_record r ≡ Some fs
        → is_projectable r ≡ b → R r o
        → Sound (Rules.has_in_fields (Some fs) b r k) (and_then o (λ v. Meaning.has_meaning w v k))
    unfolding Rules.has_in_fields Meaning.meaning
    has_fields_sound fs false r k o p q (f, e) = (f, Binds.same_bind (N r) o _ _ e (λ v. refl))
    has_fields_sound fs true r k o p q (f, e) =
        let rec : r ≡ record_of fs = Projection.record_is r fs p in
        let z = Projection.projectable_give_at s.extensions ans w fs (ap is_projectable (sym rec) ∙ q) in
        let g : o ≡ gives (record_value z.0) = record_outcome r fs o z.0 rec e z.1 in
        let k' : is_some (Operators.term_at k fs) ≡ is_some (value_at k z.0) =
        present _ _ (Projection.fields_at s.extensions ans w fs z.0 z.1 k) in
        (tt, bind_gives o (record_value z.0) _ g ∙ has_record w z.0 k ∙ ap gives_bool (sym k'))

    pub has_record_sound : (a : Option Fields) (r : Term) (k : Text) (o : Outcome) → Rules.fields_of_record r ≡ a → R r o
        → Sound (Rules.has_in_fields a (is_projectable r) r k) (and_then o (λ v. Meaning.has_meaning w v k))
    unfolding Rules.has_in_fields Meaning.meaning
    has_record_sound None r k o p (f, e) = (f, Binds.same_bind (N r) o _ _ e (λ v. refl))
    has_record_sound (Some fs) r k o p h = has_fields_sound fs (is_projectable r) r k o p refl h

    pub has_sound : (k : Text) (x : Answer) (o : Outcome) → Sound x o
        → Sound (Rules.has_part s k x) (and_then o (λ v. Meaning.has_meaning w v k))
    unfolding Rules.has_part
    has_sound k (fails f) o z = error_bind ans w s f o _ z
    has_sound k (answers (value v)) o (f, e) =
        value_bind ans w s _ (abstract_value v) o _ e (Means.has_means ans w s F R E (well ans w s done) v k)
    has_sound k (answers (residual r)) o z = has_record_sound (Rules.fields_of_record r) r k o refl z

    pub lacks : (v : Option AbstractValue) → Projection.AtSame s.extensions ans w None v → v ≡ None
    lacks None y = refl
    lacks (Some v) y = absurd y

    -- a key that the residual record lacks
    pub absent_key : (fs : Fields) (r : Term) (k : Text) (o : Outcome) → r ≡ record_of fs
        → Agreement.HaveSameOutcome (N r) o → Operators.term_at k fs ≡ None
        → Agreement.outcome_value (and_then o (λ v. Meaning.attribute_meaning w v k)) ≡ None
    unfolding Meaning.meaning Meaning.and_then_all Agreement.outcome_value
    absent_key fs r k o p e h = by (Meaning.field_meanings s.extensions ans w Agreement.no_slots fs) refl
      where
        by : (m : Result AbstractFields ErrorKind) → Meaning.field_meanings s.extensions ans w Agreement.no_slots fs ≡ m
            → Agreement.outcome_value (and_then o (λ v. Meaning.attribute_meaning w v k)) ≡ None
        by (Err f) q =
            Binds.error_bind o _ (sym e ∙ ap (λ t. Agreement.outcome_value (N t)) p
            ∙ ap (λ m. Agreement.outcome_value (Meaning.and_then_all m (λ hs. gives (record_value hs)))) q)
        by (Ok gs) q =
            let g : o ≡ gives (record_value gs) = record_outcome r fs o gs p e q in
            let z : Projection.AtSame s.extensions ans w None (value_at k gs) =
            subst (λ t. Projection.AtSame s.extensions ans w t (value_at k gs)) h
            (Projection.fields_at s.extensions ans w fs gs q k) in
            ap Agreement.outcome_value (bind_gives o (record_value gs) _ g)
            ∙ no_attribute w gs k (value_at k gs) refl (lacks (value_at k gs) z)

    -- a projected part
    pub projects_sound : (b : Bool) (fs : Fields) (r : Term) (k : Text) (part : Term) (a : Answer) (o : Outcome)
        → r ≡ record_of fs → is_projectable r ≡ b → Operators.term_at k fs ≡ Some part → R r o
        → Rules.Projects G b r k part a → Sound a (and_then o (λ v. Meaning.attribute_meaning w v k))
    unfolding Meaning.meaning
    projects_sound false fs r k part a o p q h (f, e) g =
        by_equal ans w s a _ _ g (f, Binds.same_bind (N r) o _ _ e (λ v. refl))
    projects_sound true fs r k part a o p q h (f, e) g =
        let z = Projection.projectable_give_at s.extensions ans w fs (ap is_projectable (sym p) ∙ q) in
        let i : o ≡ gives (record_value z.0) = record_outcome r fs o z.0 p e z.1 in
        let y : Projection.AtSame s.extensions ans w (Some part) (value_at k z.0) =
        subst (λ t. Projection.AtSame s.extensions ans w t (value_at k z.0)) h
        (Projection.fields_at s.extensions ans w fs z.0 z.1 k) in
        let fp : Agreement.Fits ans w part =
        Projection.part_fits s.extensions ans w fs k part (subst (Agreement.Fits ans w) p f) h in
        by z.0 (value_at k z.0) i refl y (ih part a fp g)
      where
        by : (gs : AbstractFields) (v : Option AbstractValue) → o ≡ gives (record_value gs) → value_at k gs ≡ v
            → Projection.AtSame s.extensions ans w (Some part) v → Sound a (M part)
            → Sound a (and_then o (λ u. Meaning.attribute_meaning w u k))
        by gs None i j y l = absurd y
        by gs (Some v) i j y l =
            let m : M part ≡ gives v =
            Binds.less_gives (N part) (M part) v (Binds.fewer_slots s.extensions ans w s.slots part) y in
            let n : and_then o (λ u. Meaning.attribute_meaning w u k) ≡ gives v =
            bind_gives o (record_value gs) _ i ∙ an_attribute w gs k v j in
            subst (Sound a) (m ∙ sym n) l

    pub at_key_sound : (t : Option Term) (fs : Fields) (r : Term) (k : Text) (a : Answer) (o : Outcome) → r ≡ record_of fs
        → Operators.term_at k fs ≡ t → R r o → Rules.AtKey G t fs r k a
        → Sound a (and_then o (λ v. Meaning.attribute_meaning w v k))
    unfolding failure_kind
    at_key_sound None fs r k a o p h z g = by_equal ans w s a _ _ g (absent_key fs r k o p z.1 h)
    at_key_sound (Some part) fs r k a o p h z g = projects_sound (is_projectable r) fs r k part a o p refl h z g

    pub at_fields_sound : (t : Option Fields) (r : Term) (k : Text) (a : Answer) (o : Outcome)
        → Rules.fields_of_record r ≡ t → R r o → Rules.AtFields G t r k a
        → Sound a (and_then o (λ v. Meaning.attribute_meaning w v k))
    unfolding Meaning.meaning
    at_fields_sound None r k a o h (f, e) g =
        by_equal ans w s a _ _ g (f, Binds.same_bind (N r) o _ _ e (λ v. refl))
    at_fields_sound (Some fs) r k a o h z g =
        at_key_sound (Operators.term_at k fs) fs r k a o (Projection.record_is r fs h) refl z g

    pub attribute_sound : (k : Text) (x : Answer) (o : Outcome) (a : Answer) → Sound x o → Rules.Then x (Rules.AtAttribute G s k) a
        → Sound a (and_then o (λ v. Meaning.attribute_meaning w v k))
    attribute_sound k (fails f) o a z r = by_equal ans w s a (fails f) _ r (error_bind ans w s f o _ z)
    attribute_sound k (answers (value v)) o a (f, e) r =
        value_bind ans w s a (abstract_value v) o _ e
        (resolving.resolved G (λ b. Sound b (Meaning.attribute_meaning w (abstract_value v) k)) s.resolution
        (Operators.attribute_residual s.store v k) _ a (Means.attribute_means ans w s F R E (well ans w s done) v k f)
        (λ q d i g. let z = StoredMeans.attribute_stored ans w s done.agreement.store_agrees v k q i in
        subst (Sound a) (sym z.2) (read_sound ans w s done G ih q z.0 a (attribute_is_stored s.store v k q i) z.1 g)) r)
    attribute_sound k (answers (residual q)) o a z r =
        at_fields_sound (Rules.fields_of_record q) q k a o refl z r

    -- ---- extended `has`

    -- after a stored residual
    pub stored_sound : (x : Answer) (u : AbstractValue) (l : Text) (ls : List Text) (a : Answer) → Sound x (gives u)
        → ((v : Represented) → F v → Rules.Walks G s.store v l ls a
        → Sound a (Meaning.has_path w (abstract_value v) l ls))
        → Rules.AfterStored G x l ls (λ v. Rules.Walks G s.store v l ls) a
        → Sound a (and_then (gives u) (λ v. Meaning.has_path w v l ls))
    unfolding Meaning.meaning
    stored_sound (fails e) u l ls a z rest h = by_equal ans w s a (fails e) _ h (error_bind ans w s e (gives u) _ z)
    stored_sound (answers (value v)) u l ls a (f, e) rest h = value_bind ans w s a (abstract_value v) (gives u) _ e (rest v f h)
    stored_sound (answers (residual r)) u l ls a (f, e) rest h =
        by_equal ans w s a _ _ h (f, Binds.same_bind (N r) (gives u) _ _ e (λ v. refl))

    -- a step that reads no stored residual
    pub step_sound : (z : Operators.Walk) (v : Represented) (k l : Text) (ls : List Text) (a : Answer)
        → Operators.walk_in s.store (Operators.container_of v) (Operators.container_expected v) k l ls ≡ z → F v
        → ((u : Represented) → F u → Rules.Walks G s.store u l ls a
        → Sound a (Meaning.has_path w (abstract_value u) l ls))
        → Rules.AfterWalk G z (λ u. Rules.Walks G s.store u l ls) a
        → Sound a (Meaning.has_path w (abstract_value v) k (l ∷ ls))
    unfolding Operators.after_walk
    step_sound (Operators.walks_on u) v k l ls a e f rest h =
        let z =
        StoredMeans.walks_on_attribute s (Operators.container_of v) (Operators.container_expected v) k l ls u e in
        let x : F u × (Meaning.attribute_meaning w (abstract_value v) k ≡ gives (abstract_value u)) =
        subst (λ b. Sound b (Meaning.attribute_meaning w (abstract_value v) k)) z.0
        (Means.attribute_means ans w s F R E (well ans w s done) v k f) in
        let y : F (plain_represented (bool_literal true))
        × (Meaning.has_meaning w (abstract_value v) k ≡ gives_bool true) =
        subst (λ b. Sound b (Meaning.has_meaning w (abstract_value v) k)) z.1
        (Means.has_means ans w s F R E (well ans w s done) v k) in
        subst (Sound a) (sym (StoredMeans.path_goes_on w (abstract_value v) (abstract_value u) k l ls y.1 x.1))
        (value_bind ans w s a (abstract_value u) (gives (abstract_value u)) _ refl (rest u x.0 h))
    step_sound (Operators.stops b) v k l ls a e f rest h =
        by_equal ans w s a b _ h (subst (λ z. Sound (Operators.after_walk z (λ u. Operators.path_answer s.store u l ls))
        (Meaning.has_path w (abstract_value v) k (l ∷ ls))) e
        (Means.step_means ans w s F R E (well ans w s done) v k l ls f (Means.path_means ans w s F R E (well ans w s done) l ls)))

    pub steps_sound : (o : Option Term) (v : Represented) (k l : Text) (ls : List Text) (a : Answer)
        → Operators.attribute_residual s.store v k ≡ o → F v
        → ((u : Represented) → F u → Rules.Walks G s.store u l ls a
        → Sound a (Meaning.has_path w (abstract_value u) l ls))
        → Rules.WalksOn G o (Operators.walk_in s.store (Operators.container_of v)
        (Operators.container_expected v) k l ls) l ls (λ u. Rules.Walks G s.store u l ls) a
        → Sound a (Meaning.has_path w (abstract_value v) k (l ∷ ls))
    steps_sound None v k l ls a e f rest h =
        step_sound (Operators.walk_in s.store (Operators.container_of v)
        (Operators.container_expected v) k l ls) v k l ls a refl f rest h
    steps_sound (Some t) v k l ls a e f rest (x, g, h) =
        let z = StoredMeans.attribute_stored ans w s done.agreement.store_agrees v k t e in
        subst (Sound a) (sym (StoredMeans.path_goes_on w (abstract_value v) z.0 k l ls z.3 z.2))
        (stored_sound x z.0 l ls a (read_sound ans w s done G ih t z.0 x (attribute_is_stored s.store v k t e) z.1 g) rest h)

    pub walks_sound : (ks : List Text) (v : Represented) (k : Text) (a : Answer) → F v → Rules.Walks G s.store v k ks a
        → Sound a (Meaning.has_path w (abstract_value v) k ks)
    unfolding Meaning.has_path
    walks_sound [] v k a f h = by_equal ans w s a _ _ h (Means.last_in_means ans w s F R E (well ans w s done) v k)
    walks_sound (l ∷ ls) v k a f h =
        steps_sound (Operators.attribute_residual s.store v k) v k l ls a refl f (λ u i j. walks_sound ls u l a i j) h

    pub path_sound : (d : Resolution) (x : Answer) (k : Text) (ks : List Text) (o : Outcome) (a : Answer) → Sound x o
        → Rules.AtPath G d s.store x k ks a → Sound a (and_then o (λ v. Meaning.has_path w v k ks))
    unfolding Meaning.meaning
    path_sound shallow x k ks o a z h =
        by_equal ans w s a _ _ h (on_part_sound ans w s _ _ _ (Means.path_means ans w s F R E (well ans w s done) k ks) (λ r i. i) (λ r. refl) x o z)
    path_sound deep (fails e) k ks o a z h = by_equal ans w s a (fails e) _ h (error_bind ans w s e o _ z)
    path_sound deep (answers (value v)) k ks o a (f, e) h =
        value_bind ans w s a (abstract_value v) o _ e (walks_sound ks v k a f h)
    path_sound deep (answers (residual r)) k ks o a (f, e) h =
        by_equal ans w s a _ _ h (f, Binds.same_bind (N r) o _ _ e (λ v. refl))
