-- What stands for an outcome where parts in turn answer so: sets, records, calls.
use Rattle.std.specs.Prelude.{◌≡◌, ℕ, ◌==◌, Bool, true, false, cond, List, [], ◌∷◌, map, length, Option}
use Rattle.std.specs.Prelude.{Some, None, Result, Ok, Err}
use Rattle.std.proofs.Common.{refl, sym, ap, ◌∙◌, subst}
use Rattle.std.proofs.lemmas.List.{length-map}
use Rattle.cedar_model.specs.Terms.{Text}
use Rattle.cedar_model.specs.Terms.{ValueType}
use Rattle.cedar_model.specs.Terms.{Term, literal, variable}
use Rattle.cedar_model.specs.Terms.{slot, unknown, if_then_else, both, either, unary, binary, call, get_attribute}
use Rattle.cedar_model.specs.Terms.{has_attribute, extended_has, like, is_of_type, set_of, record_of, Terms, no_terms}
use Rattle.cedar_model.specs.Terms.{one_term, Fields, no_fields, one_field}
use Rattle.cedar_model.specs.Values.{AbstractValue, set_value, record_value, AbstractFields}
use Rattle.cedar_model.specs.Values.{Represented, abstract_value, abstract_fields}
use Rattle.cedar_model.specs.Sets.{abstract_set, represented_fields_of}
use Rattle.cedar_model.specs.lemmas.Sets.{abstract_values-canonical_set}
use Rattle.cedar_model.specs.Outcomes.{ErrorKind}
use Rattle.cedar_model.specs.Outcomes.{wrong_number_of_arguments, Outcome, gives, errs}
use Rattle.cedar_model.specs.World.{World, FunctionAnswer, function_gives, function_errs, function_asks, Functions}
use Rattle.cedar_model.specs.Meaning
use Rattle.cedar_model.specs.Failures.{Failure, failure_kind, FailureKind, of_meaning, of_residual, of_limit, of_memory}
use Rattle.cedar_model.specs.Failures.{PartialValue, value, residual, Answer, answers, fails}
use Rattle.cedar_model.specs.Failures.{part_expression}
use Rattle.cedar_model.specs.Settings.{Setting}
use Rattle.cedar_model.specs.Rules
use Rattle.cedar_model.specs.Agreement
use Rattle.cedar_model.proofs.Binds
use Rattle.cedar_model.proofs.Written
use Rattle.cedar_model.proofs.Injections.{some_inj}
use Rattle.cedar_model.proofs.SoundAnswers
use Rattle.cedar_model.proofs.SoundAnswers.{Loose, LooseParts, loose_parts, parts_loose, parts_loose_map, by_equal, part_stands}

module _ (ans : Functions) (w : World) (s : Setting) where
  abbrev F : Represented → Type 0
  F v = Agreement.IsFaithful s.extensions ans v

  abbrev N : Term → Outcome
  N = SoundAnswers.N ans w s

  abbrev M : Term → Outcome
  M = SoundAnswers.M ans w s

  abbrev R : Term → Outcome → Type 0
  R = SoundAnswers.R ans w s

  abbrev E : Failure → Outcome → Type 0
  E = SoundAnswers.E ans w s

  abbrev Sound : Answer → Outcome → Type 0
  Sound = SoundAnswers.Sound ans w s

  module _ (done : Agreement.IsCompletion ans w s) (G : Rules.MayAnswer)
      (ih : (t : Term) (x : Answer) → Agreement.Fits ans w t → G t x → Sound x (M t)) where
    -- ---- parts

    abbrev pub SoundEach : List PartialValue → Terms → Type 0
    SoundEach [] no_terms = Unit {0}
    SoundEach [] (one_term t ts) = ⊥
    SoundEach (p ∷ ps) no_terms = ⊥
    SoundEach (p ∷ ps) (one_term t ts) = Sound (answers p) (M t) × SoundEach ps ts

    abbrev pub Ms : Terms → Result (List AbstractValue) ErrorKind
    Ms ts = Meaning.meanings s.extensions ans w s.slots ts

    abbrev pub SoundParts : Result (List PartialValue) Failure → Terms → Type 0
    SoundParts (Ok ps) ts = SoundEach ps ts
    SoundParts (Err e) ts = LooseParts (failure_kind e) (Binds.result_value (Ms ts))

    pub part_sound : (t : Term) (ts : Terms) (x : Answer) (r : Result (List PartialValue) Failure)
        (Rest : Result (List PartialValue) Failure → Type 0) → Sound x (M t)
        → ((q : Result (List PartialValue) Failure) → Rest q → SoundParts q ts) → Rules.AfterPart G x Rest r
        → SoundParts r (one_term t ts)
    unfolding Meaning.meaning Rules.part_then
    part_sound t ts (fails e) r Rest h f g =
        subst (λ q. SoundParts q (one_term t ts)) (sym g)
        (loose_parts (failure_kind e) _ _ (Binds.first_none (M t) (Ms ts)) h)
    part_sound t ts (answers p) r Rest h f (Ok ps, g, e) =
        subst (λ q. SoundParts q (one_term t ts)) (sym e) (h, f (Ok ps) g)
    part_sound t ts (answers p) r Rest h f (Err x, g, e) =
        subst (λ q. SoundParts q (one_term t ts)) (sym e)
        (parts_loose_map (failure_kind x) _ _ (Binds.rest_none (M t) (Ms ts)) (f (Err x) g))

    pub parts_sound : (ts : Terms) (r : Result (List PartialValue) Failure) → Agreement.FitEach ans w ts
        → Rules.Parts G ts r → SoundParts r ts
    parts_sound no_terms r f h = subst (λ q. SoundParts q no_terms) (sym h) tt
    parts_sound (one_term t ts) r f (x, g, h) =
        part_sound t ts x r (Rules.Parts G ts) (ih t x f.0 g) (λ q j. parts_sound ts q f.1 j) h

    pub values_then : (p : PartialValue) (o : Option (List Represented)) (vs : List Represented) (t : Term) (ts : Terms)
        → Sound (answers p) (M t) → Rules.add_value p o ≡ Some vs
        → ((us : List Represented) → o ≡ Some us → (Ms ts ≡ Ok (map abstract_value us))
        × Agreement.AllFaithful s.extensions ans us) → (Meaning.value_then (M t) (Ms ts) ≡ Ok (map abstract_value vs))
        × Agreement.AllFaithful s.extensions ans vs
    unfolding Rules.add_value Meaning.value_then
    values_then (value v) None vs t ts h e f = absurd (cc)
    values_then (value v) (Some us) vs t ts h e f =
        let g : v ∷ us ≡ vs = some_inj e in
        let z = f us refl in
        subst (λ xs. (Meaning.value_then (M t) (Ms ts) ≡ Ok (map abstract_value xs))
        × Agreement.AllFaithful s.extensions ans xs) g (λ i. Meaning.value_then (h.1 i) (z.0 i), (h.0, z.1))
    values_then (residual r) o vs t ts h e f = absurd (cc)

    -- values that are sound are the meanings
    pub values_mean : (ps : List PartialValue) (ts : Terms) (vs : List Represented) → SoundEach ps ts
        → Rules.values_of_parts ps ≡ Some vs → (Ms ts ≡ Ok (map abstract_value vs))
        × Agreement.AllFaithful s.extensions ans vs
    unfolding Meaning.meaning Rules.values_of_parts
    values_mean [] no_terms vs h e =
        let f : [] ≡ vs = some_inj e in
        subst (λ us. (Ms no_terms ≡ Ok (map abstract_value us)) × Agreement.AllFaithful s.extensions ans us) f
        (refl, tt)
    values_mean [] (one_term t ts) vs h e = absurd h
    values_mean (p ∷ ps) no_terms vs h e = absurd h
    values_mean (p ∷ ps) (one_term t ts) vs h e =
        values_then p (Rules.values_of_parts ps) vs t ts h.0 e (λ us g. values_mean ps ts us h.1 g)

    -- all parts as expressions stand for the meanings
    pub terms_stand : (ps : List PartialValue) (ts : Terms) → SoundEach ps ts
        → Agreement.FitEach ans w (Rules.terms_of_parts ps)
        × (Binds.result_value (Meaning.meanings s.extensions ans w Agreement.no_slots (Rules.terms_of_parts ps))
        ≡ Binds.result_value (Ms ts))
    unfolding Meaning.meaning
    terms_stand [] no_terms h = (tt, refl)
    terms_stand [] (one_term t ts) h = absurd h
    terms_stand (p ∷ ps) no_terms h = absurd h
    terms_stand (p ∷ ps) (one_term t ts) h =
        let x = part_stands ans w s p (M t) h.0 in
        let y = terms_stand ps ts h.1 in
        ((x.0, y.0), Binds.same_then (N (part_expression p)) (M t) _ _ x.1 y.1)

    pub set_parts_sound : (o : Option (List Represented)) (ps : List PartialValue) (ts : Terms)
        → Rules.values_of_parts ps ≡ o → SoundEach ps ts
        → Sound (Rules.set_of_parts o ps) (Meaning.and_then_all (Ms ts) (λ vs. gives (set_value (abstract_set vs))))
    unfolding Rules.set_of_parts Meaning.meaning Meaning.and_then_all
    set_parts_sound (Some vs) ps ts e h =
        let z = values_mean ps ts vs h e in (
          Written.set_faithful s.extensions ans vs z.1,
          ap
              (λ m. Meaning.and_then_all m (λ us. gives (set_value (abstract_set us)))) z.0
              ∙ ap (λ us. gives (set_value us)) (sym (abstract_values-canonical_set vs)),
        )
    set_parts_sound None ps ts e h =
        let z = terms_stand ps ts h in (z.0, Binds.same_all _ (Ms ts) _ _ z.1 (λ vs. refl))

    pub set_sound : (r : Result (List PartialValue) Failure) (ts : Terms) → SoundParts r ts
        → Sound (Rules.set_answer r) (Meaning.and_then_all (Ms ts) (λ vs. gives (set_value (abstract_set vs))))
    unfolding Rules.set_answer
    set_sound (Err e) ts h = parts_loose (failure_kind e) _ _ (Binds.error_all (Ms ts) _) h
    set_sound (Ok ps) ts h = set_parts_sound (Rules.values_of_parts ps) ps ts refl h

    -- ---- records

    abbrev pub SoundEachAt : List (Text × PartialValue) → Fields → Type 0
    SoundEachAt [] no_fields = Unit {0}
    SoundEachAt [] (one_field k t fs) = ⊥
    SoundEachAt (p ∷ ps) no_fields = ⊥
    SoundEachAt (p ∷ ps) (one_field k t fs) = (p.0 ≡ k) × Sound (answers p.1) (M t) × SoundEachAt ps fs

    abbrev pub Mf : Fields → Result AbstractFields ErrorKind
    Mf fs = Meaning.field_meanings s.extensions ans w s.slots fs

    abbrev pub SoundFields : Result (List (Text × PartialValue)) Failure → Fields → Type 0
    SoundFields (Ok ps) fs = SoundEachAt ps fs
    SoundFields (Err e) fs = LooseParts (failure_kind e) (Binds.result_value (Mf fs))

    pub field_sound : (l : Text) (t : Term) (fs : Fields) (x : Answer) (r : Result (List (Text × PartialValue)) Failure)
        (Rest : Result (List (Text × PartialValue)) Failure → Type 0) → Sound x (M t)
        → ((q : Result (List (Text × PartialValue)) Failure) → Rest q → SoundFields q fs)
        → Rules.AfterFieldPart G l x Rest r → SoundFields r (one_field l t fs)
    unfolding Meaning.meaning Rules.field_part_then
    field_sound l t fs (fails e) r Rest h f g =
        subst (λ q. SoundFields q (one_field l t fs)) (sym g)
        (loose_parts (failure_kind e) _ _ (Binds.first_field_none l (M t) (Mf fs)) h)
    field_sound l t fs (answers p) r Rest h f (Ok ps, g, e) =
        subst (λ q. SoundFields q (one_field l t fs)) (sym e) (refl, h, f (Ok ps) g)
    field_sound l t fs (answers p) r Rest h f (Err x, g, e) =
        subst (λ q. SoundFields q (one_field l t fs)) (sym e)
        (parts_loose_map (failure_kind x) _ _ (Binds.rest_field_none l (M t) (Mf fs)) (f (Err x) g))

    pub fields_sound : (fs : Fields) (r : Result (List (Text × PartialValue)) Failure) → Agreement.FitEachAt ans w fs
        → Rules.FieldParts G fs r → SoundFields r fs
    fields_sound no_fields r f h = subst (λ q. SoundFields q no_fields) (sym h) tt
    fields_sound (one_field l t fs) r f (x, g, h) =
        field_sound l t fs x r (Rules.FieldParts G fs) (ih t x f.0 g) (λ q j. fields_sound fs q f.1 j) h

    abbrev pub abstract_pairs : List (Text × Represented) → AbstractFields
    abstract_pairs vs = abstract_fields (represented_fields_of vs)

    abbrev pub FaithfulPairs : List (Text × Represented) → Type 0
    FaithfulPairs vs = Agreement.AreFaithfulAt s.extensions ans (represented_fields_of vs)

    pub field_values_then : (k l : Text) (p : PartialValue) (o : Option (List (Text × Represented)))
        (vs : List (Text × Represented)) (t : Term) (fs : Fields) → k ≡ l → Sound (answers p) (M t)
        → Rules.add_value_at k p o ≡ Some vs
        → ((us : List (Text × Represented)) → o ≡ Some us → (Mf fs ≡ Ok (abstract_pairs us)) × FaithfulPairs us)
        → (Meaning.field_then l (M t) (Mf fs) ≡ Ok (abstract_pairs vs)) × FaithfulPairs vs
    unfolding Rules.add_value_at Meaning.field_then
    field_values_then k l (value v) None vs t fs q h e f = absurd (cc)
    field_values_then k l (value v) (Some us) vs t fs q h e f =
        let g : (k, v) ∷ us ≡ vs = some_inj e in
        let z = f us refl in
        subst (λ xs. (Meaning.field_then l (M t) (Mf fs) ≡ Ok (abstract_pairs xs)) × FaithfulPairs xs) g
        (λ i. Meaning.field_then (sym q i) (h.1 i) (z.0 i), (h.0, z.1))
    field_values_then k l (residual r) o vs t fs q h e f = absurd (cc)

    pub field_values_mean : (ps : List (Text × PartialValue)) (fs : Fields) (vs : List (Text × Represented))
        → SoundEachAt ps fs → Rules.values_of_field_parts ps ≡ Some vs → (Mf fs ≡ Ok (abstract_pairs vs))
        × FaithfulPairs vs
    unfolding Meaning.meaning Rules.values_of_field_parts
    field_values_mean [] no_fields vs h e =
        let f : [] ≡ vs = some_inj e in
        subst (λ us. (Mf no_fields ≡ Ok (abstract_pairs us)) × FaithfulPairs us) f (refl, tt)
    field_values_mean [] (one_field k t fs) vs h e = absurd h
    field_values_mean (p ∷ ps) no_fields vs h e = absurd h
    field_values_mean (p ∷ ps) (one_field k t fs) vs h e =
        field_values_then p.0 k p.1 (Rules.values_of_field_parts ps) vs t fs h.0 h.1 e
        (λ us g. field_values_mean ps fs us h.2 g)

    pub fields_stand : (ps : List (Text × PartialValue)) (fs : Fields) → SoundEachAt ps fs
        → Agreement.FitEachAt ans w (Rules.fields_of_parts ps)
        × (Binds.result_value (Meaning.field_meanings s.extensions ans w Agreement.no_slots (Rules.fields_of_parts ps))
        ≡ Binds.result_value (Mf fs))
    unfolding Meaning.meaning
    fields_stand [] no_fields h = (tt, refl)
    fields_stand [] (one_field k t fs) h = absurd h
    fields_stand (p ∷ ps) no_fields h = absurd h
    fields_stand (p ∷ ps) (one_field k t fs) h =
        let x = part_stands ans w s p.1 (M t) h.1 in
        let y = fields_stand ps fs h.2 in (
          (x.0, y.0),
          Binds.same_field_then p.0 (N (part_expression p.1)) (M t) _ _ x.1 y.1
              ∙ ap (λ l. Binds.result_value (Meaning.field_then l (M t) (Mf fs))) h.0,
        )

    pub record_parts_sound : (o : Option (List (Text × Represented))) (ps : List (Text × PartialValue)) (fs : Fields)
        → Rules.values_of_field_parts ps ≡ o → SoundEachAt ps fs
        → Sound (Rules.record_of_parts o ps) (Meaning.and_then_all (Mf fs) (λ gs. gives (record_value gs)))
    unfolding Rules.record_of_parts Meaning.meaning Meaning.and_then_all
    record_parts_sound (Some vs) ps fs e h =
        let z = field_values_mean ps fs vs h e in
        (z.1, ap (λ m. Meaning.and_then_all m (λ gs. gives (record_value gs))) z.0)
    record_parts_sound None ps fs e h =
        let z = fields_stand ps fs h in (z.0, Binds.same_all _ (Mf fs) _ _ z.1 (λ gs. refl))

    pub record_sound : (r : Result (List (Text × PartialValue)) Failure) (fs : Fields) → SoundFields r fs
        → Sound (Rules.record_answer r) (Meaning.and_then_all (Mf fs) (λ gs. gives (record_value gs)))
    unfolding Rules.record_answer
    record_sound (Err e) fs h = parts_loose (failure_kind e) _ _ (Binds.error_all (Mf fs) _) h
    record_sound (Ok ps) fs h = record_parts_sound (Rules.values_of_field_parts ps) ps fs refl h

    -- ---- calls

    module _ (calls : Rules.StoredCalls) (agree : Agreement.AgreesWithFunctions ans calls)
        (faithful : Agreement.AnswerFaithfully s.extensions ans calls) where
      pub kind_answer : (k : FailureKind) (b : FunctionAnswer) → Agreement.failure_answer k ≡ Some b
          → Loose k (Agreement.outcome_value (Meaning.function_meaning w b))
      unfolding Agreement.failure_answer Meaning.function_meaning Agreement.outcome_value
      kind_answer (of_meaning k) (function_gives v) e = absurd (cc)
      kind_answer (of_meaning k) (function_errs j) e = refl
      kind_answer (of_meaning k) (function_asks n t) e = absurd (cc)
      kind_answer of_residual b e = absurd (cc)
      kind_answer of_limit b e = tt
      kind_answer of_memory b e = tt

      pub asked : (r : Term) (b : FunctionAnswer) → Agreement.function_answer (answers (residual r)) ≡ Some b
          → ((n : Text) (t : Option ValueType) → b ≡ function_asks n t → Agreement.HasType w n t)
          → R r (Meaning.function_meaning w b)
      unfolding Agreement.function_answer Meaning.function_meaning Meaning.meaning
      asked (unknown n t) b e f =
          let g : function_asks n t ≡ b = cc in
          subst (λ c. R (unknown n t) (Meaning.function_meaning w c)) g (f n t (sym g), refl)
      asked (literal l) b e f = absurd (cc)
      asked (variable v) b e f = absurd (cc)
      asked (slot i) b e f = absurd (cc)
      asked (if_then_else x y z) b e f = absurd (cc)
      asked (both x y) b e f = absurd (cc)
      asked (either x y) b e f = absurd (cc)
      asked (unary op x) b e f = absurd (cc)
      asked (binary op x y) b e f = absurd (cc)
      asked (call g ts) b e f = absurd (cc)
      asked (get_attribute x k) b e f = absurd (cc)
      asked (has_attribute x k) b e f = absurd (cc)
      asked (extended_has x k ks) b e f = absurd (cc)
      asked (like x p) b e f = absurd (cc)
      asked (is_of_type x t) b e f = absurd (cc)
      asked (set_of ts) b e f = absurd (cc)
      asked (record_of fs) b e f = absurd (cc)

      pub function_sound : (a : Answer) (b : FunctionAnswer) → Agreement.function_answer a ≡ Some b
          → ((v : Represented) → a ≡ answers (value v) → F v)
          → ((n : Text) (t : Option ValueType) → b ≡ function_asks n t → Agreement.HasType w n t)
          → Sound a (Meaning.function_meaning w b)
      unfolding Agreement.function_answer Meaning.function_meaning
      function_sound (answers (value v)) (function_gives u) e f g =
          (f v refl, let h : abstract_value v ≡ u = cc in ap gives (sym h))
      function_sound (answers (value v)) (function_errs k) e f g = absurd (cc)
      function_sound (answers (value v)) (function_asks n t) e f g = absurd (cc)
      function_sound (answers (residual r)) b e f g = asked r b e g
      function_sound (fails x) b e f g = kind_answer (failure_kind x) b e

      pub counts_sound : (b : Bool) (n : ℕ) (f : Text) (vs : List Represented) (a : Answer) → Agreement.FitsFunction ans w f
          → Agreement.AllFaithful s.extensions ans vs → Rules.Counts calls b n f vs a
          → Sound a (cond b (Meaning.function_meaning w (ans f (map abstract_value vs))) (errs wrong_number_of_arguments))
      unfolding failure_kind Agreement.outcome_value
      counts_sound true n f vs a fit h r =
          function_sound a (ans f (map abstract_value vs)) (agree f vs a r)
          (λ v e. faithful f vs v h (subst (calls f vs) e r)) (λ m t e. fit (map abstract_value vs) m t e)
      counts_sound false n f vs a fit h r = by_equal ans w s a _ _ r refl

      pub looks_sound : (o : Option ℕ) (f : Text) (vs : List Represented) (a : Answer) → Agreement.FitsFunction ans w f
          → Agreement.AllFaithful s.extensions ans vs → Rules.LooksUp calls o f vs a
          → Sound a (Meaning.call_meaning o (ans f (map abstract_value vs)) w (length (map abstract_value vs)))
      unfolding Meaning.call_meaning failure_kind Agreement.outcome_value
      looks_sound None f vs a fit h r = by_equal ans w s a _ _ r refl
      looks_sound (Some m) f vs a fit h r =
          subst (λ l. Sound a (cond (l == m) (Meaning.function_meaning w (ans f (map abstract_value vs)))
          (errs wrong_number_of_arguments))) (sym (length-map vs abstract_value)) (counts_sound (length vs == m) m f vs a fit h r)

      pub values_sound : (o : Option (List Represented)) (f : Text) (ps : List PartialValue) (ts : Terms) (a : Answer)
          → Agreement.FitsFunction ans w f → Rules.values_of_parts ps ≡ o → SoundEach ps ts
          → Rules.AfterValues calls s.extensions.arity o f ps a
          → Sound a (Meaning.and_then_all (Ms ts)
          (λ vs. Meaning.call_meaning (s.extensions.arity f) (ans f vs) w (length vs)))
      unfolding Meaning.meaning Meaning.and_then_all
      values_sound (Some vs) f ps ts a fit e h r =
          let z = values_mean ps ts vs h e in
          subst (λ m. Sound a (Meaning.and_then_all m
          (λ us. Meaning.call_meaning (s.extensions.arity f) (ans f us) w (length us)))) (sym z.0)
          (looks_sound (s.extensions.arity f) f vs a fit z.1 r)
      values_sound None f ps ts a fit e h r =
          let z = terms_stand ps ts h in
          by_equal ans w s a _ _ r ((fit, z.0), Binds.same_all _ (Ms ts) _ _ z.1 (λ vs. refl))

      pub call_sound : (r : Result (List PartialValue) Failure) (f : Text) (ts : Terms) (a : Answer)
          → Agreement.FitsFunction ans w f → SoundParts r ts → Rules.AfterArguments calls s.extensions.arity f r a
          → Sound a (Meaning.and_then_all (Ms ts)
          (λ vs. Meaning.call_meaning (s.extensions.arity f) (ans f vs) w (length vs)))
      call_sound (Err e) f ts a fit h r =
          by_equal ans w s a (fails e) _ r (parts_loose (failure_kind e) _ _ (Binds.error_all (Ms ts) _) h)
      call_sound (Ok ps) f ts a fit h r = values_sound (Rules.values_of_parts ps) f ps ts a fit refl h r
