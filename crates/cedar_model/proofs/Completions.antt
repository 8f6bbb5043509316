-- A step keeps completions: the world that completes the request before it completes the one after.
use Rattle.std.specs.Prelude.{◌≡◌, ℕ, Bool, true, false, cond, length, Option, Some, None, Result, Ok, Err, codes}
use Rattle.std.specs.Str.{chars}
use Rattle.std.proofs.Common.{refl, sym, ap, ◌∙◌, subst}
use Rattle.cedar_model.specs.Terms.{Text, EntityName, entity_literal, ValueType, Term, literal, variable, slot}
use Rattle.cedar_model.specs.Terms.{unknown, if_then_else, both, either, unary, binary, call, get_attribute}
use Rattle.cedar_model.specs.Terms.{has_attribute, extended_has, like, is_of_type, set_of, record_of, Terms, no_terms}
use Rattle.cedar_model.specs.Terms.{one_term, Fields, no_fields, one_field}
use Rattle.cedar_model.specs.Values.{plain, set_value, record_value, AbstractFields, Represented}
use Rattle.cedar_model.specs.Values.{plain_represented, set_represented, record_represented, extension_represented}
use Rattle.cedar_model.specs.Values.{RepresentedFields, abstract_value}
use Rattle.cedar_model.specs.Sets.{abstract_set}
use Rattle.cedar_model.specs.Outcomes
use Rattle.cedar_model.specs.Outcomes.{Outcome, gives, entity_of, text_eq, ErrorKind}
use Rattle.cedar_model.specs.World.{World, Slots, Extensions, Functions}
use Rattle.cedar_model.specs.Meaning
use Rattle.cedar_model.specs.Failures.{value, residual, Answer, answers, fails}
use Rattle.cedar_model.specs.Policies.{ErrorHandling}
use Rattle.cedar_model.specs.Settings.{Entry, known_entry, unknown_entry, ContextPart, absent_context, known_context}
use Rattle.cedar_model.specs.Settings.{residual_context, RequestPart, Store, Setting}
use Rattle.cedar_model.specs.Rules
use Rattle.cedar_model.specs.Agreement
use Rattle.cedar_model.specs.Refusals
use Rattle.cedar_model.specs.Chains
use Rattle.cedar_model.proofs.Written.{written_means, written_fits}
use Rattle.cedar_model.proofs.Soundness.{sound_stands, runs_sound}
use Rattle.cedar_model.proofs.Stepping
use Rattle.cedar_model.proofs.Configured.{configured_by}
use Rattle.cedar_model.proofs.Injections.{some_inj, ok_inj, err_is_not_ok, none_is_not_some, gives_inj, record_inj}

-- ---- the map's values in an expression

module _ (X : Extensions) (ans : Functions) (w : World) (m : Chains.Mapping) (agree : Agreement.AgreesWithMap w m)
    (faithful : (n : Text) (v : Represented) → m n ≡ Some v → Agreement.IsFaithful X ans v) where
  module _ (slots : Slots) where
    value_means : (n : Text) (t : Option ValueType) (o : Option Represented) → m n ≡ o
        → Meaning.meaning X ans w slots (Chains.value_for o (unknown n t)) ≡ gives (w.sigma n)
    unfolding Meaning.meaning Chains.value_for
    value_means n t None e = refl
    value_means n t (Some v) e = written_means X ans w slots v (faithful n v e) ∙ ap gives (sym (agree n v e))

    mutual
      unfolding Meaning.meaning Chains.substituted

      substituted_means : (t : Term) → Meaning.meaning X ans w slots (Chains.substituted m t)
          ≡ Meaning.meaning X ans w slots t
      substituted_means (literal l) = refl
      substituted_means (variable v) = refl
      substituted_means (slot i) = refl
      substituted_means (unknown n t) = value_means n t (m n) refl
      substituted_means (if_then_else c a b) =
          λ i. Meaning.and_then_bool (substituted_means c i)
          (λ t. cond t (substituted_means a i) (substituted_means b i))
      substituted_means (both a b) =
          λ i. Meaning.and_then_bool (substituted_means a i)
          (λ t. cond t (Meaning.and_then_bool (substituted_means b i) Outcomes.gives_bool)
          (Outcomes.gives_bool false))
      substituted_means (either a b) =
          λ i. Meaning.and_then_bool (substituted_means a i)
          (λ t. cond t (Outcomes.gives_bool true)
          (Meaning.and_then_bool (substituted_means b i) Outcomes.gives_bool))
      substituted_means (unary op a) = λ i. Outcomes.and_then (substituted_means a i) (Meaning.unary_meaning op)
      substituted_means (binary op a b) =
          λ i. Outcomes.and_then (substituted_means a i)
          (λ u. Outcomes.and_then (substituted_means b i) (λ v. Meaning.binary_meaning X w op u v))
      substituted_means (call f ts) =
          λ i. Meaning.and_then_all (substituted_each_mean ts i)
          (λ vs. Meaning.call_meaning (X.arity f) (ans f vs) w (length vs))
      substituted_means (get_attribute a k) =
          λ i. Outcomes.and_then (substituted_means a i) (λ v. Meaning.attribute_meaning w v k)
      substituted_means (has_attribute a k) =
          λ i. Outcomes.and_then (substituted_means a i) (λ v. Meaning.has_meaning w v k)
      substituted_means (extended_has a k ks) =
          λ i. Outcomes.and_then (substituted_means a i) (λ v. Meaning.has_path w v k ks)
      substituted_means (like a p) =
          λ i. Outcomes.and_then (substituted_means a i)
          (λ v. Outcomes.needing (Outcomes.text_of v) (λ t. Outcomes.gives_bool (Outcomes.matches p (chars t))))
      substituted_means (is_of_type a t) =
          λ i. Outcomes.and_then (substituted_means a i)
          (λ v. Outcomes.needing (entity_of v) (λ e. Outcomes.gives_bool (text_eq e.type_name t)))
      substituted_means (set_of ts) =
          λ i. Meaning.and_then_all (substituted_each_mean ts i) (λ vs. gives (set_value (abstract_set vs)))
      substituted_means (record_of fs) =
          λ i. Meaning.and_then_all (substituted_at_mean fs i) (λ gs. gives (record_value gs))

      substituted_each_mean : (ts : Terms) → Meaning.meanings X ans w slots (Chains.substituted_each m ts)
          ≡ Meaning.meanings X ans w slots ts
      substituted_each_mean no_terms = refl
      substituted_each_mean (one_term t ts) =
          λ i. Meaning.value_then (substituted_means t i) (substituted_each_mean ts i)

      pub substituted_at_mean : (fs : Fields) → Meaning.field_meanings X ans w slots (Chains.substituted_at m fs)
          ≡ Meaning.field_meanings X ans w slots fs
      substituted_at_mean no_fields = refl
      substituted_at_mean (one_field k t fs) =
          λ i. Meaning.field_then k (substituted_means t i) (substituted_at_mean fs i)

  value_fits : (n : Text) (t : Option ValueType) (o : Option Represented) → m n ≡ o
      → Agreement.Fits ans w (unknown n t) → Agreement.Fits ans w (Chains.value_for o (unknown n t))
  unfolding Chains.value_for
  value_fits n t None e h = h
  value_fits n t (Some v) e h = written_fits X ans w v (faithful n v e)

  mutual
    unfolding Chains.substituted

    substituted_fits : (t : Term) → Agreement.Fits ans w t → Agreement.Fits ans w (Chains.substituted m t)
    substituted_fits (literal l) h = tt
    substituted_fits (variable v) h = tt
    substituted_fits (slot i) h = tt
    substituted_fits (unknown n t) h = value_fits n t (m n) refl h
    substituted_fits (if_then_else c a b) h =
        (substituted_fits c h.0, substituted_fits a h.1, substituted_fits b h.2)
    substituted_fits (both a b) h = (substituted_fits a h.0, substituted_fits b h.1)
    substituted_fits (either a b) h = (substituted_fits a h.0, substituted_fits b h.1)
    substituted_fits (unary op a) h = substituted_fits a h
    substituted_fits (binary op a b) h = (substituted_fits a h.0, substituted_fits b h.1)
    substituted_fits (call f ts) h = (h.0, substituted_each_fit ts h.1)
    substituted_fits (get_attribute a k) h = substituted_fits a h
    substituted_fits (has_attribute a k) h = substituted_fits a h
    substituted_fits (extended_has a k ks) h = substituted_fits a h
    substituted_fits (like a p) h = substituted_fits a h
    substituted_fits (is_of_type a t) h = substituted_fits a h
    substituted_fits (set_of ts) h = substituted_each_fit ts h
    substituted_fits (record_of fs) h = substituted_at_fit fs h

    substituted_each_fit : (ts : Terms) → Agreement.FitEach ans w ts
        → Agreement.FitEach ans w (Chains.substituted_each m ts)
    substituted_each_fit no_terms h = tt
    substituted_each_fit (one_term t ts) h = (substituted_fits t h.0, substituted_each_fit ts h.1)

    pub substituted_at_fit : (fs : Fields) → Agreement.FitEachAt ans w fs
        → Agreement.FitEachAt ans w (Chains.substituted_at m fs)
    substituted_at_fit no_fields h = tt
    substituted_at_fit (one_field k t fs) h = (substituted_fits t h.0, substituted_at_fit fs h.1)

  -- ---- entries

  entity_at : (d c : EntityName) (v : Represented) (name : Text) → m name ≡ Some v
      → w.sigma name ≡ plain (entity_literal d) → entity_of (abstract_value v) ≡ Some c → d ≡ c
  unfolding entity_of
  entity_at d c v name e g h = some_inj (ap entity_of (sym g ∙ agree name v e) ∙ h)

  entry_agrees : (name : Text) (d : EntityName) (e e' : Entry) → Agreement.AgreesWithEntry w name d e
      → Refusals.concrete_entry name (m name) e ≡ Ok e' → Agreement.AgreesWithEntry w name d e'
  unfolding Refusals.concrete_entry Refusals.entry_by Refusals.entry_beside Refusals.typed_entry
  entry_agrees name d e e' h k = by (m name) refl k
    where
      typed : (v : Represented) (c : EntityName) (t : Option Text) → m name ≡ Some v
          → entity_of (abstract_value v) ≡ Some c → w.sigma name ≡ plain (entity_literal d)
          → Refusals.typed_entry name v c t ≡ Ok e' → Agreement.AgreesWithEntry w name d e'
      typed v c None g i j l = subst (Agreement.AgreesWithEntry w name d) (ok_inj l) (entity_at d c v name g j i)
      typed v c (Some t) g i j l = by_type (text_eq t c.type_name) l
        where
          by_type : (b : Bool) → cond b (Ok (known_entry c)) (Err (Refusals.type_is_other name t v)) ≡ Ok e'
              → Agreement.AgreesWithEntry w name d e'
          by_type true n = subst (Agreement.AgreesWithEntry w name d) (ok_inj n) (entity_at d c v name g j i)
          by_type false n = absurd (err_is_not_ok n)

      beside : (v : Represented) (c : EntityName) (x : Entry) → m name ≡ Some v
          → entity_of (abstract_value v) ≡ Some c → Agreement.AgreesWithEntry w name d x
          → Refusals.entry_beside name v c x ≡ Ok e' → Agreement.AgreesWithEntry w name d e'
      beside v c (known_entry f) g i j l = absurd (err_is_not_ok l)
      beside v c (unknown_entry t) g i j l = typed v c t g i j.0 l

      by_entity : (v : Represented) (c : Option EntityName) → m name ≡ Some v → entity_of (abstract_value v) ≡ c
          → Refusals.entry_by name v c e ≡ Ok e' → Agreement.AgreesWithEntry w name d e'
      by_entity v None g i l = absurd (err_is_not_ok l)
      by_entity v (Some c) g i l = beside v c e g i h l

      by : (o : Option Represented) → m name ≡ o → Refusals.concrete_entry name o e ≡ Ok e'
          → Agreement.AgreesWithEntry w name d e'
      by None g l = subst (Agreement.AgreesWithEntry w name d) (ok_inj l) h
      by (Some v) g l = by_entity v (entity_of (abstract_value v)) g refl l

  -- ---- the context

  -- it agrees with the world, its values are faithful, and the world fits it
  abbrev pub Good : ContextPart → Type 0
  Good c = Agreement.AgreesWithContext X ans w c × Agreement.IsFaithfulContext X ans c × Agreement.FitsContext X ans w c

  mapped_good : (c c' : ContextPart) → Good c → Refusals.concrete_context (m (codes "context")) c ≡ Ok c' → Good c'
  unfolding Refusals.concrete_context Refusals.context_by Refusals.context_beside
  mapped_good c c' h k = by (m (codes "context")) refl k
    where
      beside : (fs : RepresentedFields) (x : ContextPart) → m (codes "context") ≡ Some (record_represented fs)
          → Good x → Refusals.context_beside (record_represented fs) fs x ≡ Ok c' → Good c'
      beside fs absent_context g i l =
          subst Good (ok_inj l) (
            record_inj (sym (agree (codes "context") (record_represented fs) g)
                ∙ i.0),
            faithful (codes "context") (record_represented fs) g,
            tt,
          )
      beside fs (known_context gs) g i l = absurd (err_is_not_ok l)
      beside fs (residual_context gs) g i l = absurd (err_is_not_ok l)

      by_value : (v : Represented) → m (codes "context") ≡ Some v → Refusals.context_by v c ≡ Ok c' → Good c'
      by_value (plain_represented l) g n = absurd (err_is_not_ok n)
      by_value (set_represented vs) g n = absurd (err_is_not_ok n)
      by_value (record_represented fs) g n = beside fs c g h n
      by_value (extension_represented t j f ts) g n = absurd (err_is_not_ok n)

      by : (o : Option Represented) → m (codes "context") ≡ o → Refusals.concrete_context o c ≡ Ok c' → Good c'
      by None g l = subst Good (ok_inj l) h
      by (Some v) g l = by_value v g l

  -- the context that an answer is, where the record means the world's context
  context_means : (r : Result AbstractFields ErrorKind)
      → Agreement.outcome_value (Meaning.and_then_all r (λ gs. gives (record_value gs)))
      ≡ Some (record_value w.context_record) → r ≡ Ok w.context_record
  unfolding Meaning.and_then_all Agreement.outcome_value
  context_means (Ok fs) e = ap Ok (record_inj (some_inj e))
  context_means (Err k) e = absurd (cc)

  answered_good : (o : Outcome) → o ≡ gives (record_value w.context_record) → (a : Answer) (c : ContextPart)
      → Refusals.IsContext a (Ok c) → Agreement.StandsFor X ans w a o → Good c
  unfolding Meaning.meaning Agreement.outcome_value
  answered_good o e (answers (value (plain_represented l))) c i h = absurd i
  answered_good o e (answers (value (set_represented vs))) c i h = absurd i
  answered_good o e (answers (value (record_represented fs))) c i h =
      subst Good (sym (ok_inj i)) (record_inj (gives_inj (sym h.1 ∙ e)), h.0, tt)
  answered_good o e (answers (value (extension_represented t k f ts))) c i h = absurd i
  answered_good o e (answers (residual (literal l))) c i h = absurd i
  answered_good o e (answers (residual (variable v))) c i h = absurd i
  answered_good o e (answers (residual (slot j))) c i h = absurd i
  answered_good o e (answers (residual (unknown n t))) c i h = absurd i
  answered_good o e (answers (residual (if_then_else x y z))) c i h = absurd i
  answered_good o e (answers (residual (both x y))) c i h = absurd i
  answered_good o e (answers (residual (either x y))) c i h = absurd i
  answered_good o e (answers (residual (unary op x))) c i h = absurd i
  answered_good o e (answers (residual (binary op x y))) c i h = absurd i
  answered_good o e (answers (residual (call f ts))) c i h = absurd i
  answered_good o e (answers (residual (get_attribute x k))) c i h = absurd i
  answered_good o e (answers (residual (has_attribute x k))) c i h = absurd i
  answered_good o e (answers (residual (extended_has x k ks))) c i h = absurd i
  answered_good o e (answers (residual (like x p))) c i h = absurd i
  answered_good o e (answers (residual (is_of_type x t))) c i h = absurd i
  answered_good o e (answers (residual (set_of ts))) c i h = absurd i
  answered_good o e (answers (residual (record_of fs))) c i h =
      subst Good (sym (ok_inj i)) (
        context_means (Meaning.field_meanings X ans w Agreement.no_slots fs) (h.1
            ∙ ap Agreement.outcome_value e),
        tt,
        h.0,
      )
  answered_good o e (fails f) c i h = absurd (err_is_not_ok (sym i))

-- ---- the request

opened_ok : {A B : Type 0} (x : Result A Refusals.Refusal) (next : A → Result B Refusals.Refusal) (y : B)
    → Refusals.unless_refused x next ≡ Ok y → (z : A) × (x ≡ Ok z) × (next z ≡ Ok y)
unfolding Refusals.unless_refused
opened_ok (Ok x) next y h = (x, refl, h)
opened_ok (Err e) next y h = absurd (err_is_not_ok h)

-- the parts of a request that a map makes
pub record Concrete (m : Chains.Mapping) (r r' : RequestPart) : Type 0 where
  pub principal_is : Refusals.concrete_entry (codes "principal") (m (codes "principal")) r.principal_entry
      ≡ Ok r'.principal_entry
  pub action_is : Refusals.concrete_entry (codes "action") (m (codes "action")) r.action_entry ≡ Ok r'.action_entry
  pub resource_is : Refusals.concrete_entry (codes "resource") (m (codes "resource")) r.resource_entry
      ≡ Ok r'.resource_entry
  pub context_is : Refusals.concrete_context (m (codes "context")) r.context_part ≡ Ok r'.context_part

pub concrete_parts : (m : Chains.Mapping) (r r' : RequestPart) → Refusals.concrete_request m r ≡ Ok r' → Concrete m r r'
concrete_parts m r r' h =
    let (p, ip, hp) = opened_ok (Refusals.concrete_entry (codes "principal")
    (m (codes "principal")) r.principal_entry) _ r' h in
    let (a, ia, ha) = opened_ok (Refusals.concrete_entry (codes "action")
    (m (codes "action")) r.action_entry) _ r' hp in
    let (e, ie, he) = opened_ok (Refusals.concrete_entry (codes "resource")
    (m (codes "resource")) r.resource_entry) _ r' ha in
    let (c, ic, hc) = opened_ok (Refusals.concrete_context (m (codes "context")) r.context_part) _ r' he in
    let q = ok_inj hc in
    record {
      principal_is = ip ∙ ap (λ x. Ok x.principal_entry) q;
      action_is = ia ∙ ap (λ x. Ok x.action_entry) q;
      resource_is = ie ∙ ap (λ x. Ok x.resource_entry) q;
      context_is = ic ∙ ap (λ x. Ok x.context_part) q;
    }

-- ---- the step

module _ (mode : ErrorHandling) (ans : Functions) (calls : Rules.StoredCalls)
    (agree : Agreement.AgreesWithFunctions ans calls) (w : World)
    (s : Setting) (levels : ℕ) (m : Chains.Mapping) (store : Store) (old new : Chains.Response)
    (done : Agreement.IsCompletion ans w (Chains.at_step s.extensions s.resolution old.request store m))
    (faithful : Agreement.AnswerFaithfully s.extensions ans calls) where
  -- the world completes what the context is read under
  without_map_done : Agreement.IsCompletion ans w (Chains.without_map
      (Chains.at_step s.extensions s.resolution old.request store m))
  without_map_done = record {
    agreement = record {
      request_agrees = done.agreement.request_agrees;
      store_agrees = done.agreement.store_agrees;
      map_agrees = λ n v e. absurd (none_is_not_some e);
      context_fits = done.agreement.context_fits;
      store_fits = done.agreement.store_fits;
    };
    values = record {
      context_faithful = done.values.context_faithful;
      store_faithful = done.values.store_faithful;
      map_faithful = λ n v e. absurd (none_is_not_some e);
    };
  }

  abbrev GoodContext : ContextPart → Type 0
  GoodContext c = Good s.extensions ans w m done.agreement.map_agrees done.values.map_faithful c

  substituted_good : (c c' : ContextPart) → GoodContext c
      → Chains.SubstitutesTo (Chains.at_step s.extensions s.resolution old.request store m) calls levels m c (Ok c')
      → GoodContext c'
  unfolding Meaning.meaning Meaning.and_then_all
  substituted_good absent_context c' h k = subst GoodContext (sym (ok_inj k)) h
  substituted_good (known_context fs) c' h k = subst GoodContext (sym (ok_inj k)) h
  substituted_good (residual_context fs) c' h (a, r, i) =
      let t = record_of (Chains.substituted_at m fs) in
      let f = substituted_at_fit s.extensions ans w m done.agreement.map_agrees done.values.map_faithful fs h.2 in
      let z = Chains.without_map (Chains.at_step s.extensions s.resolution old.request store m) in
      let e =
      substituted_at_mean s.extensions ans w m done.agreement.map_agrees done.values.map_faithful Agreement.no_slots
      fs ∙ h.0 in
      answered_good s.extensions ans w m done.agreement.map_agrees done.values.map_faithful
      (Meaning.meaning s.extensions ans w Agreement.no_slots t)
      (ap (λ x. Meaning.and_then_all x (λ gs. gives (record_value gs))) e) a c' i
      (sound_stands ans calls agree w z without_map_done faithful t a
      (runs_sound ans calls agree w z without_map_done faithful levels t a f r))

  pub step_completes : Chains.StepsTo (configured_by calls mode s levels) m store old new
      → Agreement.IsCompletion ans w (Chains.at_step s.extensions s.resolution new.request store m)
  step_completes h =
      let t = Stepping.taken mode s calls levels m store old new h in
      let p = concrete_parts m old.request t.request t.concrete in
      let q = done.agreement.request_agrees in
      let c = substituted_good t.request.context_part t.context
      (mapped_good s.extensions ans w m done.agreement.map_agrees done.values.map_faithful old.request.context_part
      t.request.context_part (q.context_agrees, done.values.context_faithful, done.agreement.context_fits) p.context_is)
      t.substitutes in
      subst (λ r. Agreement.IsCompletion ans w (Chains.at_step s.extensions s.resolution r store m))
      (sym t.request_is) record {
        agreement = record {
          request_agrees = record {
            principal_agrees =
                entry_agrees s.extensions ans w m done.agreement.map_agrees done.values.map_faithful _ _ _ _
                q.principal_agrees p.principal_is;
            action_agrees =
                entry_agrees s.extensions ans w m done.agreement.map_agrees done.values.map_faithful _ _ _ _
                q.action_agrees
                p.action_is;
            resource_agrees =
                entry_agrees s.extensions ans w m done.agreement.map_agrees done.values.map_faithful _ _ _ _
                q.resource_agrees p.resource_is;
            context_agrees = c.0;
          };
          store_agrees = done.agreement.store_agrees;
          map_agrees = done.agreement.map_agrees;
          context_fits = c.2;
          store_fits = done.agreement.store_fits;
        };
        values = record {
          context_faithful = c.1;
          store_faithful = done.values.store_faithful;
          map_faithful = done.values.map_faithful;
        };
      }
