-- A layer meets the limit only where one of its parts does.
use Rattle.std.specs.Prelude.{◌≡◌, ◌≢◌, ◌⊎◌, ℕ, ◌==◌, Bool, true, false, cond, List, [], ◌∷◌, length, Option, Some}
use Rattle.std.specs.Prelude.{None, Result, Ok, Err}
use Rattle.std.proofs.Common.{refl, ap, subst, sym, ◌∙◌, inl, inr}
use Rattle.cedar_model.specs.Terms.{Text, EntityName, BinaryOperator, Slot, Term, literal}
use Rattle.cedar_model.specs.Terms.{variable, slot, unknown, if_then_else, both, either, unary, binary, call}
use Rattle.cedar_model.specs.Terms.{get_attribute, has_attribute, extended_has, like, is_of_type, set_of, record_of}
use Rattle.cedar_model.specs.Terms.{Terms, no_terms, one_term, Fields, no_fields, one_field}
use Rattle.cedar_model.specs.Values.{Represented, abstract_value}
use Rattle.cedar_model.specs.Shapes.{is_projectable}
use Rattle.cedar_model.specs.Outcomes.{ErrorKind, bool_of}
use Rattle.cedar_model.specs.Failures.{Failure, FailureKind, of_meaning, of_residual, of_limit, of_memory}
use Rattle.cedar_model.specs.Failures.{failure_kind, recursion_limit, PartialValue, value, residual, Answer, answers}
use Rattle.cedar_model.specs.Failures.{answers_bool, fails, limit, part_expression}
use Rattle.cedar_model.specs.Settings.{Resolution, shallow, deep, Setting}
use Rattle.cedar_model.specs.Operators
use Rattle.cedar_model.specs.Rules
use Rattle.cedar_model.specs.laws.Levels.{FunctionsMeetNoLimit}
use Rattle.cedar_model.proofs.Operands as operands
use Rattle.cedar_model.proofs.Operands.{Facts, AllAnswer, AllPart}
use Rattle.cedar_model.proofs.MoreLevels.{answers≢limit}
use Rattle.cedar_model.proofs.Resolving as resolving
use Rattle.cedar_model.proofs.Resolving.{IsStored, attribute_is_stored, beside_is_stored}

-- ---- operators on values meet no limit

abbrev AnyValue : Represented → Type 0
AnyValue v = Unit {0}

abbrev AnyTerm : Term → Type 0
AnyTerm t = Unit {0}

abbrev NotLimit : Failure → Type 0
NotLimit e = e ≢ recursion_limit

meaning_not_limit : (e : Failure) (k : ErrorKind) → failure_kind e ≡ of_meaning k → e ≢ recursion_limit
unfolding failure_kind
meaning_not_limit e k h q = not_of_limit (sym h ∙ ap failure_kind q)
  where
    not_of_limit : of_meaning k ≡ of_limit → ⊥
    not_of_limit z = cc

any_part : (p : PartialValue) → AllPart AnyValue AnyTerm p
any_part (value v) = tt
any_part (residual r) = tt

no_limits : (s : Setting) → Facts s AnyValue AnyValue AnyTerm NotLimit
no_limits s = record {
  literals = λ l. tt;
  errs = meaning_not_limit;
  fields = λ fs k v h e. tt;
  stored = λ e x k p f. (λ g. any_part p, λ g. any_part p);
  mapped = λ n v e. tt;
  in_missing = λ e w h. tt;
  tag_missing = λ e t. tt;
  has_tag_missing = λ e t. tt;
  attribute_missing = λ e k. tt;
  has_missing = λ e k. tt;
  path_missing = λ e k ks. tt;
  path_stored = λ e x k l ls r f g. tt;
}

fails_inj : (e f : Failure) → fails e ≡ fails f → e ≡ f
fails_inj e f h = cc

never : (a : Answer) → AllAnswer AnyValue AnyTerm NotLimit a → a ≢ limit
never (answers p) h = answers≢limit p
never (fails e) h = λ q. h (fails_inj e recursion_limit q)

err_inj : (A : Type 0) (e f : Failure) (r : Result A Failure) → r ≡ Err e → r ≡ Err f → e ≡ f
err_inj A e f r h q = cc

ok_isn't : (A : Type 0) (x : A) (e : Failure) (r : Result A Failure) → r ≡ Ok x → r ≡ Err e → ⊥
ok_isn't A x e r h q = cc

-- ---- a layer

module _ (s : Setting) (calls : Rules.StoredCalls) (answered : FunctionsMeetNoLimit calls) (G : Rules.MayAnswer)
    (L : Term → Type 0) (met : (t : Term) (x : Answer) → G t x → x ≡ limit → L t) where
  abbrev pub MeetsEach : Terms → Type 0
  MeetsEach no_terms = ⊥
  MeetsEach (one_term t ts) = L t ⊎ MeetsEach ts

  abbrev pub MeetsEachAt : Fields → Type 0
  MeetsEachAt no_fields = ⊥
  MeetsEachAt (one_field k t fs) = L t ⊎ MeetsEachAt fs

  -- the part of a record that is interpreted again
  pub record MeetsProjected (t : Term) (k : Text) : Type 0 where
    pub whole : Term
    pub fields : Fields
    pub part : Term
    pub answered_whole : G t (answers (residual whole))
    pub is_record : Rules.fields_of_record whole ≡ Some fields
    pub is_part : Operators.term_at k fields ≡ Some part
    pub projectable : is_projectable whole ≡ true
    pub meets : L part

  -- a stored residual that is read
  abbrev pub MeetsStored : Type 0
  MeetsStored = (r : Term) × (s.resolution ≡ deep) × IsStored s.store r × L r

  -- one of the parts meets the limit
  abbrev pub PartMeets : Term → Type 0
  PartMeets (literal l) = ⊥
  PartMeets (variable v) = ⊥
  PartMeets (slot i) = ⊥
  PartMeets (unknown n t) = ⊥
  PartMeets (if_then_else c t e) = L c ⊎ (L t ⊎ L e)
  PartMeets (both t u) = L t ⊎ L u
  PartMeets (either t u) = L t ⊎ L u
  PartMeets (unary op t) = L t
  PartMeets (binary op t u) = L t ⊎ (L u ⊎ MeetsStored)
  PartMeets (call f ts) = MeetsEach ts
  PartMeets (get_attribute t k) = L t ⊎ (MeetsProjected t k ⊎ MeetsStored)
  PartMeets (has_attribute t k) = L t
  PartMeets (extended_has t k ks) = L t ⊎ MeetsStored
  PartMeets (like t p) = L t
  PartMeets (is_of_type t n) = L t
  PartMeets (set_of ts) = MeetsEach ts
  PartMeets (record_of fs) = MeetsEachAt fs

  -- what was handed up is the limit only if the part's answer was
  best_met : (x : Answer) (t : Term) (Next : Term → Answer → Type 0) (a : Answer) →
      Rules.AfterBest (Rules.best x t) Next a → a ≡ limit → (x ≡ limit) ⊎ ((u : Term) × Next u a)
  unfolding Rules.best Rules.best_of_kind
  best_met (answers p) t Next a h q = inr (part_expression p, h)
  best_met (fails e) t Next a h q = by (failure_kind e) h
    where
      by : (k : FailureKind) → Rules.AfterBest (Rules.best_of_kind k e t) Next a → (fails e ≡ limit) ⊎ ((u : Term) ×
          Next u a)
      by (of_meaning k) j = inr (t, j)
      by of_residual j = inr (t, j)
      by of_limit j = inl (sym j ∙ q)
      by of_memory j = inl (sym j ∙ q)

  bool_met : (v : Represented) (a : Answer) → a ≡ Rules.bool_expected v → a ≡ limit → ⊥
  bool_met v a e q = not_limit (sym e ∙ q)
    where
      not_limit : Rules.bool_expected v ≡ limit → ⊥
      not_limit z = cc

  part_met : (p : PartialValue) (a : Answer) → a ≡ answers p → a ≡ limit → ⊥
  part_met p a e q = answers≢limit p (sym e ∙ q)

  takes_met : (b : Option Bool) (v : Represented) (t e : Term) (a : Answer) → Rules.TakesBranch G b v t e a →
      a ≡ limit → L t ⊎ L e
  takes_met None v t e a r q = absurd (bool_met v a r q)
  takes_met (Some true) v t e a r q = inl (met t a r q)
  takes_met (Some false) v t e a r q = inr (met e a r q)

  branches_met : (r t e : Term) (a : Answer) → Rules.KeepsBranches G r t e a → a ≡ limit → L t ⊎ L e
  branches_met r t e a (x, g, h) q = by (best_met x t _ a h q)
    where
      by : (x ≡ limit) ⊎ ((u : Term) × ((y : Answer) × G e y ×
          Rules.AfterBest (Rules.best y e) (λ e' c. c ≡ answers (residual (if_then_else r u e'))) a)) → L t ⊎ L e
      by (inl k) = inl (met t x g k)
      by (inr (u, (y, j, l))) = inr (met e y j (last (best_met y e _ a l q)))
        where
          last : (y ≡ limit) ⊎ ((z : Term) × (a ≡ answers (residual (if_then_else r u z)))) → y ≡ limit
          last (inl k) = k
          last (inr (z, k)) = absurd (part_met _ a k q)

  guard_met : (x : Answer) (t e : Term) (a : Answer) → Rules.Then x (Rules.AfterGuard G t e) a → a ≡ limit →
      (x ≡ limit) ⊎ (L t ⊎ L e)
  guard_met (fails f) t e a r q = inl (sym r ∙ q)
  guard_met (answers (value v)) t e a r q = inr (takes_met (bool_of (abstract_value v)) v t e a r q)
  guard_met (answers (residual r')) t e a r q = inr (branches_met r' t e a r q)

  as_bool_met : (o : Option Bool) (v : Represented) → Rules.bool_or_failure o v ≡ limit → ⊥
  unfolding Rules.bool_or_failure
  as_bool_met None v q = cc
  as_bool_met (Some b) v q = cc

  joined_met : (h : Term → Term) (x : Answer) → Rules.joined h x ≡ limit → x ≡ limit
  unfolding Rules.joined
  joined_met h (fails e) q = q
  joined_met h (answers (value v)) q = absurd (as_bool_met (bool_of (abstract_value v)) v q)
  joined_met h (answers (residual r)) q = absurd (answers≢limit _ q)

  right_met : (h : Term → Term) (t : Term) (a : Answer) → Rules.ReadsRight G h t a → a ≡ limit → L t
  right_met h t a (x, g, e) q = met t x g (joined_met h x (sym e ∙ q))

  kept_met : (h : Term → Term) (t : Term) (a : Answer) → Rules.KeepsRight G h t a → a ≡ limit → L t
  kept_met h t a (x, g, k) q = met t x g (by (best_met x t _ a k q))
    where
      by : (x ≡ limit) ⊎ ((u : Term) × (a ≡ answers (residual (h u)))) → x ≡ limit
      by (inl j) = j
      by (inr (u, j)) = absurd (part_met _ a j q)

  and_bool_met : (b : Option Bool) (v : Represented) (t : Term) (a : Answer) → Rules.AndLeft G b v t a → a ≡ limit →
      L t
  and_bool_met None v t a r q = absurd (bool_met v a r q)
  and_bool_met (Some true) v t a r q = right_met _ t a r q
  and_bool_met (Some false) v t a r q = absurd (part_met _ a r q)

  and_met : (x : Answer) (t : Term) (a : Answer) → Rules.Then x (Rules.AfterAndLeft G t) a → a ≡ limit → (x ≡ limit) ⊎ L t
  and_met (fails e) t a r q = inl (sym r ∙ q)
  and_met (answers (value v)) t a r q = inr (and_bool_met (bool_of (abstract_value v)) v t a r q)
  and_met (answers (residual r')) t a r q = inr (kept_met _ t a r q)

  or_bool_met : (b : Option Bool) (v : Represented) (t : Term) (a : Answer) → Rules.OrLeft G b v t a → a ≡ limit → L t
  or_bool_met None v t a r q = absurd (bool_met v a r q)
  or_bool_met (Some true) v t a r q = absurd (part_met _ a r q)
  or_bool_met (Some false) v t a r q = right_met _ t a r q

  or_met : (x : Answer) (t : Term) (a : Answer) → Rules.Then x (Rules.AfterOrLeft G t) a → a ≡ limit → (x ≡ limit) ⊎ L t
  or_met (fails e) t a r q = inl (sym r ∙ q)
  or_met (answers (value v)) t a r q = inr (or_bool_met (bool_of (abstract_value v)) v t a r q)
  or_met (answers (residual r')) t a r q = inr (kept_met _ t a r q)

  on_part_met : (f : Represented → Answer) (h : Term → Term) → ((v : Represented) → f v ≢ limit) → (x : Answer) →
      Rules.on_part f h x ≡ limit → x ≡ limit
  unfolding Rules.on_part
  on_part_met f h n (fails e) q = q
  on_part_met f h n (answers (value v)) q = absurd (n v q)
  on_part_met f h n (answers (residual r)) q = absurd (answers≢limit _ q)

  kept_binary_met : (b : Bool) (t : Term) → cond b (answers_bool false) (answers (residual t)) ≡ limit → ⊥
  kept_binary_met true t q = answers≢limit _ q
  kept_binary_met false t q = answers≢limit _ q

  parts_met : (op : BinaryOperator) (p q : PartialValue) → Rules.binary_of_parts s op p q ≡ limit → ⊥
  unfolding Rules.binary_of_parts
  parts_met op (value v) (value w) e =
      never _ (operands.binary_all s AnyValue AnyValue AnyTerm NotLimit (no_limits s) op v w tt) e
  parts_met op (value v) (residual r) e = kept_binary_met _ _ e
  parts_met op (residual r) (value w) e = kept_binary_met _ _ e
  parts_met op (residual r) (residual z) e = kept_binary_met _ _ e

  -- what is stored is no limit, so it is the stored residual that meets it
  resolves_met : (x a : Answer) (o : Option Term) → x ≢ limit → ((r : Term) → o ≡ Some r → IsStored s.store r) →
      Rules.Resolves G s.resolution o x a → a ≡ limit → MeetsStored
  resolves_met x a o n i h =
      resolving.resolved G (λ b. b ≡ limit → MeetsStored) s.resolution o x a (λ q. absurd (n q))
      (λ r d e g q. (r, d, i r e, met r a g q)) h

  beside_met : (op : BinaryOperator) (p : PartialValue) (t : Term) (y a : Answer) → G t y →
      Rules.Resolves G s.resolution (Rules.beside_residual s.store op p y) (Rules.binary_beside s op p y) a →
      a ≡ limit → L t ⊎ MeetsStored
  unfolding Rules.binary_beside Rules.beside_residual
  beside_met op p t (fails e) a g h q =
      inl (met t (fails e) g (sym (resolving.nothing_read G s.resolution (fails e) a h) ∙ q))
  beside_met op p t (answers z) a g h q =
      inr (resolves_met (Rules.binary_of_parts s op p z) a (Rules.beside_residual s.store op p (answers z))
      (parts_met op p z) (λ r e. beside_is_stored s.store op p (answers z) r e) h q)

  left_met : (op : BinaryOperator) (x : Answer) (t : Term) (a : Answer) → Rules.Then x (Rules.AfterLeft G s op t) a → a ≡ limit →
      (x ≡ limit) ⊎ (L t ⊎ MeetsStored)
  left_met op (fails e) t a r q = inl (sym r ∙ q)
  left_met op (answers p) t a (y, g, h) q = inr (beside_met op p t y a g h q)

  -- an extended `has`
  abbrev LimitStored : Answer → Type 0
  LimitStored b = b ≡ limit → MeetsStored

  step_met : (z : Operators.Walk) → operands.AllStep s AnyValue AnyValue AnyTerm NotLimit (no_limits s) z →
      resolving.StopsWith G LimitStored z
  step_met (Operators.walks_on v) h = tt
  step_met (Operators.stops b) h = λ q. absurd (never b h q)

  read_met : s.resolution ≡ deep → (r : Term) → IsStored s.store r → (x : Answer) → G r x
      → (l : Text) (ls : List Text) →
      resolving.ReadStopsWith G LimitStored x l ls
  read_met d r i (fails e) g l ls = λ q. (r, d, i, met r (fails e) g q)
  read_met d r i (answers (value v)) g l ls = tt
  read_met d r i (answers (residual z)) g l ls = λ q. absurd (answers≢limit _ q)

  walks_met : s.resolution ≡ deep → (v : Represented) (k : Text) (ks : List Text) (a : Answer) →
      Rules.Walks G s.store v k ks a → LimitStored a
  walks_met d v k ks a h =
      resolving.walks G LimitStored s.store
      (λ u l q. absurd (never _ (operands.last_all s AnyValue AnyValue AnyTerm NotLimit (no_limits s) u l) q))
      (λ u l m ls e. step_met _ (operands.step_in_all s AnyValue AnyValue AnyTerm NotLimit (no_limits s) u l m ls))
      (read_met d) ks v k a h

  path_met : (r : Resolution) → s.resolution ≡ r → (x : Answer) (k : Text) (ks : List Text) (a : Answer) →
      Rules.AtPath G r s.store x k ks a → a ≡ limit → (x ≡ limit) ⊎ MeetsStored
  path_met shallow d x k ks a e q =
      inl (on_part_met (λ v. Operators.path_answer s.store v k ks) (λ r. extended_has r k ks)
      (λ v. never _ (operands.path_all s AnyValue AnyValue AnyTerm NotLimit (no_limits s) ks v k)) x (sym e ∙ q))
  path_met deep d (fails e) k ks a h q = inl (sym h ∙ q)
  path_met deep d (answers (value v)) k ks a h q = inr (walks_met d v k ks a h q)
  path_met deep d (answers (residual r)) k ks a h q = absurd (part_met _ a h q)

  has_fields_met : (o : Option Fields) (b : Bool) (r : Term) (k : Text) → Rules.has_in_fields o b r k ≡ limit → ⊥
  unfolding Rules.has_in_fields
  has_fields_met None b r k q = answers≢limit _ q
  has_fields_met (Some fs) true r k q = answers≢limit _ q
  has_fields_met (Some fs) false r k q = answers≢limit _ q

  has_met : (k : Text) (x : Answer) → Rules.has_part s k x ≡ limit → x ≡ limit
  unfolding Rules.has_part
  has_met k (fails e) q = q
  has_met k (answers (value v)) q =
      absurd (never _ (operands.has_all s AnyValue AnyValue AnyTerm NotLimit (no_limits s) v k) q)
  has_met k (answers (residual r)) q = absurd (has_fields_met (Rules.fields_of_record r) (is_projectable r) r k q)

  annotated_met : (o : Option Text) (r : Term) (t : Text) → Rules.is_annotated o r t ≡ limit → ⊥
  unfolding Rules.is_annotated
  annotated_met None r t q = answers≢limit _ q
  annotated_met (Some u) r t q = answers≢limit _ q

  is_met : (t : Text) (x : Answer) → Rules.is_part t x ≡ limit → x ≡ limit
  unfolding Rules.is_part
  is_met t (fails e) q = q
  is_met t (answers (value v)) q =
      absurd (never _ (operands.is_all s AnyValue AnyValue AnyTerm NotLimit (no_limits s) t v) q)
  is_met t (answers (residual r)) q = absurd (annotated_met (Rules.entity_type_of_residual r) r t q)

  key_met : (k : Text) (ks : List Text) (a : Answer) → a ≡ fails (Operators.key_is_missing k ks) → a ≡ limit → ⊥
  key_met k ks a e q =
      operands.record_key_all s AnyValue AnyValue AnyTerm NotLimit (no_limits s) k ks (fails_inj _ _ (sym e ∙ q))

  projects_met : (t r : Term) (fs : Fields) (k : Text) (part : Term) (a : Answer) → G t (answers (residual r)) →
      Rules.fields_of_record r ≡ Some fs → Operators.term_at k fs ≡ Some part → (b : Bool) → is_projectable r ≡ b →
      Rules.Projects G b r k part a → a ≡ limit → MeetsProjected t k
  projects_met t r fs k part a g e f true p h q =
      record {
        whole = r;
        fields = fs;
        part = part;
        answered_whole = g;
        is_record = e;
        is_part = f;
        projectable = p;
        meets = met part a h q;
      }
  projects_met t r fs k part a g e f false p h q = absurd (part_met _ a h q)

  at_key_met : (t r : Term) (fs : Fields) (k : Text) (a : Answer) → G t (answers (residual r)) →
      Rules.fields_of_record r ≡ Some fs → (o : Option Term) → Operators.term_at k fs ≡ o → Rules.AtKey G o fs r k a →
      a ≡ limit → MeetsProjected t k
  at_key_met t r fs k a g e None f h q = absurd (key_met k (Operators.field_names fs) a h q)
  at_key_met t r fs k a g e (Some part) f h q = projects_met t r fs k part a g e f (is_projectable r) refl h q

  at_fields_met : (t r : Term) (k : Text) (a : Answer) → G t (answers (residual r)) → (o : Option Fields) →
      Rules.fields_of_record r ≡ o → Rules.AtFields G o r k a → a ≡ limit → MeetsProjected t k
  at_fields_met t r k a g None e h q = absurd (part_met _ a h q)
  at_fields_met t r k a g (Some fs) e h q = at_key_met t r fs k a g e (Operators.term_at k fs) refl h q

  attribute_met : (t : Term) (x : Answer) (k : Text) (a : Answer) → G t x → Rules.Then x (Rules.AtAttribute G s k) a → a ≡ limit →
      (x ≡ limit) ⊎ (MeetsProjected t k ⊎ MeetsStored)
  attribute_met t (fails e) k a g r q = inl (sym r ∙ q)
  attribute_met t (answers (value v)) k a g r q =
      inr (inr (resolves_met (Operators.attribute_answer s v k) a (Operators.attribute_residual s.store v k)
      (never _ (operands.attribute_all s AnyValue AnyValue AnyTerm NotLimit (no_limits s) v k tt))
      (λ z e. attribute_is_stored s.store v k z e) r q))
  attribute_met t (answers (residual z)) k a g r q =
      inr (inl (at_fields_met t z k a g (Rules.fields_of_record z) refl r q))

  then_met : (p : PartialValue) (r : Result (List PartialValue) Failure) → Rules.part_then p r ≡ Err recursion_limit →
      r ≡ Err recursion_limit
  unfolding Rules.part_then
  then_met p (Err e) q = q
  then_met p (Ok ps) q = absurd (ok_isn't _ (p ∷ ps) recursion_limit _ refl q)

  each_met : (ts : Terms) (r : Result (List PartialValue) Failure) → Rules.Parts G ts r → r ≡ Err recursion_limit →
      MeetsEach ts
  each_met no_terms r h q = absurd (ok_isn't _ [] recursion_limit r h q)
  each_met (one_term t ts) r (x, g, h) q = by x g h (each_met ts)
    where
      by : (y : Answer) → G t y → Rules.AfterPart G y (Rules.Parts G ts) r →
          ((z : Result (List PartialValue) Failure) → Rules.Parts G ts z → z ≡ Err recursion_limit → MeetsEach ts) →
          L t ⊎ MeetsEach ts
      by (fails e) j k rest = inl (met t (fails e) j (ap fails (err_inj _ e recursion_limit r k q)))
      by (answers p) j (z, k, l) rest = inr (rest z k (then_met p z (sym l ∙ q)))

  field_then_met : (k : Text) (p : PartialValue) (r : Result (List (Text × PartialValue)) Failure) →
      Rules.field_part_then k p r ≡ Err recursion_limit → r ≡ Err recursion_limit
  unfolding Rules.field_part_then
  field_then_met k p (Err e) q = q
  field_then_met k p (Ok ps) q = absurd (ok_isn't _ ((k, p) ∷ ps) recursion_limit _ refl q)

  each_at_met : (fs : Fields) (r : Result (List (Text × PartialValue)) Failure) → Rules.FieldParts G fs r →
      r ≡ Err recursion_limit → MeetsEachAt fs
  each_at_met no_fields r h q = absurd (ok_isn't _ [] recursion_limit r h q)
  each_at_met (one_field k t fs) r (x, g, h) q = by x g h (each_at_met fs)
    where
      by : (y : Answer) → G t y → Rules.AfterFieldPart G k y (Rules.FieldParts G fs) r →
          ((z : Result (List (Text × PartialValue)) Failure) → Rules.FieldParts G fs z → z ≡ Err recursion_limit →
          MeetsEachAt fs) → L t ⊎ MeetsEachAt fs
      by (fails e) j l rest = inl (met t (fails e) j (ap fails (err_inj _ e recursion_limit r l q)))
      by (answers p) j (z, l, m) rest = inr (rest z l (field_then_met k p z (sym m ∙ q)))

  counts_met : (b : Bool) (n : ℕ) (f : Text) (vs : List Represented) (a : Answer) → Rules.Counts calls b n f vs a →
      a ≡ limit → ⊥
  unfolding failure_kind
  counts_met true n f vs a r q = answered f vs (subst (calls f vs) q r)
  counts_met false n f vs a r q = meaning_not_limit _ _ refl (fails_inj _ _ (sym r ∙ q))

  looks_met : (o : Option ℕ) (f : Text) (vs : List Represented) (a : Answer) → Rules.LooksUp calls o f vs a →
      a ≡ limit → ⊥
  unfolding failure_kind
  looks_met None f vs a r q = meaning_not_limit _ _ refl (fails_inj _ _ (sym r ∙ q))
  looks_met (Some n) f vs a r q = counts_met (length vs == n) n f vs a r q

  values_met : (o : Option (List Represented)) (f : Text) (ps : List PartialValue) (a : Answer) →
      Rules.AfterValues calls s.extensions.arity o f ps a → a ≡ limit → ⊥
  values_met None f ps a r q = part_met _ a r q
  values_met (Some vs) f ps a r q = looks_met (s.extensions.arity f) f vs a r q

  arguments_met : (f : Text) (r : Result (List PartialValue) Failure) (a : Answer) →
      Rules.AfterArguments calls s.extensions.arity f r a → a ≡ limit → r ≡ Err recursion_limit
  arguments_met f (Err e) a h q = ap Err (fails_inj e recursion_limit (sym h ∙ q))
  arguments_met f (Ok ps) a h q = absurd (values_met (Rules.values_of_parts ps) f ps a h q)

  set_parts_met : (o : Option (List Represented)) (ps : List PartialValue) → Rules.set_of_parts o ps ≡ limit → ⊥
  unfolding Rules.set_of_parts
  set_parts_met None ps q = answers≢limit _ q
  set_parts_met (Some vs) ps q = answers≢limit _ q

  set_met : (r : Result (List PartialValue) Failure) → Rules.set_answer r ≡ limit → r ≡ Err recursion_limit
  unfolding Rules.set_answer
  set_met (Err e) q = ap Err (fails_inj e recursion_limit q)
  set_met (Ok ps) q = absurd (set_parts_met (Rules.values_of_parts ps) ps q)

  record_parts_met : (o : Option (List (Text × Represented))) (ps : List (Text × PartialValue)) →
      Rules.record_of_parts o ps ≡ limit → ⊥
  unfolding Rules.record_of_parts
  record_parts_met None ps q = answers≢limit _ q
  record_parts_met (Some vs) ps q = answers≢limit _ q

  record_met : (r : Result (List (Text × PartialValue)) Failure) → Rules.record_answer r ≡ limit →
      r ≡ Err recursion_limit
  unfolding Rules.record_answer
  record_met (Err e) q = ap Err (fails_inj e recursion_limit q)
  record_met (Ok ps) q = absurd (record_parts_met (Rules.values_of_field_parts ps) ps q)

  left_then : {A B C : Type 0} → (A → C) → A ⊎ B → C ⊎ B
  left_then f (inl a) = inl (f a)
  left_then f (inr b) = inr b

  slot_met : (i : Slot) (o : Option EntityName) (a : Answer) → a ≡ Operators.slot_answer i o → a ≡ limit → ⊥
  slot_met i o a e q =
      never _ (operands.slot_all s AnyValue AnyValue AnyTerm NotLimit (no_limits s) i o) (sym e ∙ q)

  pub rule_met : (t : Term) (a : Answer) → Rules.Rule s calls G t a → a ≡ limit → PartMeets t
  rule_met (literal l) a r q = part_met _ a r q
  rule_met (variable v) a r q = part_met _ a r q
  rule_met (slot i) a r q = slot_met i (s.slots i) a r q
  rule_met (unknown n t) a r q =
      never _ (operands.unknown_all s AnyValue AnyValue AnyTerm NotLimit (no_limits s) n t (λ e. tt)) (sym r ∙ q)
  rule_met (if_then_else c t e) a (x, g, h) q = left_then (met c x g) (guard_met x t e a h q)
  rule_met (both t u) a (x, g, h) q = left_then (met t x g) (and_met x u a h q)
  rule_met (either t u) a (x, g, h) q = left_then (met t x g) (or_met x u a h q)
  rule_met (unary op t) a (x, g, e) q =
      met t x g (on_part_met (Operators.unary_answer op) (unary op)
      (λ v. never _ (operands.unary_all s AnyValue AnyValue AnyTerm NotLimit (no_limits s) op v)) x (sym e ∙ q))
  rule_met (binary op t u) a (x, g, h) q = left_then (met t x g) (left_met op x u a h q)
  rule_met (call f ts) a (r, g, h) q = each_met ts r g (arguments_met f r a h q)
  rule_met (get_attribute t k) a (x, g, h) q = left_then (met t x g) (attribute_met t x k a g h q)
  rule_met (has_attribute t k) a (x, g, e) q = met t x g (has_met k x (sym e ∙ q))
  rule_met (extended_has t k ks) a (x, g, h) q = left_then (met t x g) (path_met s.resolution refl x k ks a h q)
  rule_met (like t p) a (x, g, e) q =
      met t x g (on_part_met (Operators.like_answer p) (λ r. like r p)
      (λ v. never _ (operands.like_all s AnyValue AnyValue AnyTerm NotLimit (no_limits s) p v)) x (sym e ∙ q))
  rule_met (is_of_type t m) a (x, g, e) q = met t x g (is_met m x (sym e ∙ q))
  rule_met (set_of ts) a (r, g, e) q = each_met ts r g (set_met r (sym e ∙ q))
  rule_met (record_of fs) a (r, g, e) q = each_at_met fs r g (record_met r (sym e ∙ q))
