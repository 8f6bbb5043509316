-- With one level less an expression has the same answer, or meets the limit.
use Rattle.std.specs.Prelude.{◌≡◌, ◌⊎◌, ℕ, zero, suc, ◌+◌, ◌-◌, ◌≤◌, Bool, true, false, List, [], ◌∷◌, Option, Some}
use Rattle.std.specs.Prelude.{None}
use Rattle.std.specs.Prelude.{Result, Err}
use Rattle.std.proofs.Common.{refl, subst, arith, inl, inr}
use Rattle.cedar_model.specs.Terms.{Text, BinaryOperator, Term, literal, variable, slot, unknown, if_then_else, both}
use Rattle.cedar_model.specs.Terms.{either, unary, binary, call, get_attribute, has_attribute, extended_has, like}
use Rattle.cedar_model.specs.Terms.{is_of_type, set_of, record_of, Terms, no_terms, one_term, Fields, no_fields}
use Rattle.cedar_model.specs.Terms.{one_field}
use Rattle.cedar_model.specs.Values.{Represented, abstract_value}
use Rattle.cedar_model.specs.Shapes.{is_projectable}
use Rattle.cedar_model.specs.Outcomes.{bool_of}
use Rattle.cedar_model.specs.Failures.{Failure, failure_kind, recursion_limit, PartialValue, value, residual, Answer}
use Rattle.cedar_model.specs.Failures.{answers, fails, limit}
use Rattle.cedar_model.specs.Settings.{Store, Resolution, shallow, deep, Setting}
use Rattle.cedar_model.specs.Operators.{term_at, Walk, walks_on, stops, walk_in, container_of, container_expected}
use Rattle.cedar_model.specs.Operators.{attribute_answer, attribute_residual}
use Rattle.cedar_model.proofs.Resolving.{unread}
use Rattle.cedar_model.specs.Rules

-- the same answer, or the limit
abbrev OrLimit : (Answer → Type 0) → Answer → Type 0
OrLimit P a = P a ⊎ P limit

abbrev OrStopped : {A : Type 0} → (Result A Failure → Type 0) → Result A Failure → Type 0
OrStopped P r = P r ⊎ P (Err recursion_limit)

or_map : {A B C D : Type 0} → (A → C) → (B → D) → A ⊎ B → C ⊎ D
or_map f g (inl a) = inl (f a)
or_map f g (inr b) = inr (g b)

module _ (s : Setting) (calls : Rules.StoredCalls) (G H : Rules.MayAnswer) (less : (t : Term) (x : Answer) → G t x →
    OrLimit (H t) x) where
  -- a part, and what follows from it
  through : (P : Answer → Answer → Type 0) (t : Term) (x a : Answer) → P limit limit → G t x → OrLimit (P x) a →
      OrLimit (λ b. (y : Answer) × H t y × P y b) a
  through P t x a stop g h = by (less t x g) h
    where
      by : OrLimit (H t) x → OrLimit (P x) a → OrLimit (λ b. (y : Answer) × H t y × P y b) a
      by (inl k) (inl j) = inl (x, k, j)
      by (inl k) (inr j) = inr (x, k, j)
      by (inr k) j = inr (limit, k, stop)

  less_takes : (b : Option Bool) (v : Represented) (t e : Term) (a : Answer) → Rules.TakesBranch G b v t e a →
      OrLimit (Rules.TakesBranch H b v t e) a
  less_takes None v t e a r = inl r
  less_takes (Some true) v t e a r = less t a r
  less_takes (Some false) v t e a r = less e a r

  -- the limit is handed up by best effort
  less_best : (b : Rules.Best) (Next Next' : Term → Answer → Type 0) (a : Answer) → ((t : Term) → Next t a →
      OrLimit (Next' t) a) → Rules.AfterBest b Next a → OrLimit (Rules.AfterBest b Next') a
  less_best (Rules.kept t) Next Next' a f r = f t r
  less_best (Rules.handed_up e) Next Next' a f r = inl r

  less_branches : (r t e : Term) (a : Answer) → Rules.KeepsBranches G r t e a →
      OrLimit (Rules.KeepsBranches H r t e) a
  unfolding Rules.best Rules.best_of_kind failure_kind
  less_branches r t e a (x, g, h) =
      through (λ y. Rules.AfterBest (Rules.best y t) (λ t' b. (z : Answer) × H e z ×
      Rules.AfterBest (Rules.best z e) (λ e' c. c ≡ answers (residual (if_then_else r t' e'))) b)) t x a refl g
      (less_best (Rules.best x t) _ _ a (λ t' (
        y,
        k,
        l,
      ). through (λ z. Rules.AfterBest (Rules.best z e) (λ e' c. c ≡ answers (residual (if_then_else r t' e'))))
      e y a refl k (inl l)) h)

  less_guard : (x : Answer) (t e : Term) (a : Answer) → Rules.Then x (Rules.AfterGuard G t e) a →
      OrLimit (Rules.Then x (Rules.AfterGuard H t e)) a
  less_guard (fails f) t e a r = inl r
  less_guard (answers (value v)) t e a r = less_takes (bool_of (abstract_value v)) v t e a r
  less_guard (answers (residual q)) t e a r = less_branches q t e a r

  less_right : (with_left : Term → Term) (t : Term) (a : Answer) → Rules.ReadsRight G with_left t a →
      OrLimit (Rules.ReadsRight H with_left t) a
  unfolding Rules.joined
  less_right with_left t a (x, g, e) = through (λ y b. b ≡ Rules.joined with_left y) t x a refl g (inl e)

  less_kept : (with_left : Term → Term) (t : Term) (a : Answer) → Rules.KeepsRight G with_left t a →
      OrLimit (Rules.KeepsRight H with_left t) a
  unfolding Rules.best Rules.best_of_kind failure_kind
  less_kept with_left t a (x, g, h) =
      through (λ y. Rules.AfterBest (Rules.best y t) (λ t' b. b ≡ answers (residual (with_left t')))) t x a refl g
      (inl h)

  less_and_bool : (b : Option Bool) (v : Represented) (t : Term) (a : Answer) → Rules.AndLeft G b v t a →
      OrLimit (Rules.AndLeft H b v t) a
  less_and_bool None v t a r = inl r
  less_and_bool (Some true) v t a r = less_right _ t a r
  less_and_bool (Some false) v t a r = inl r

  less_and : (x : Answer) (t : Term) (a : Answer) → Rules.Then x (Rules.AfterAndLeft G t) a → OrLimit (Rules.Then x (Rules.AfterAndLeft H t)) a
  less_and (fails e) t a r = inl r
  less_and (answers (value v)) t a r = less_and_bool (bool_of (abstract_value v)) v t a r
  less_and (answers (residual q)) t a r = less_kept (both q) t a r

  less_or_bool : (b : Option Bool) (v : Represented) (t : Term) (a : Answer) → Rules.OrLeft G b v t a →
      OrLimit (Rules.OrLeft H b v t) a
  less_or_bool None v t a r = inl r
  less_or_bool (Some true) v t a r = inl r
  less_or_bool (Some false) v t a r = less_right _ t a r

  less_or : (x : Answer) (t : Term) (a : Answer) → Rules.Then x (Rules.AfterOrLeft G t) a → OrLimit (Rules.Then x (Rules.AfterOrLeft H t)) a
  less_or (fails e) t a r = inl r
  less_or (answers (value v)) t a r = less_or_bool (bool_of (abstract_value v)) v t a r
  less_or (answers (residual q)) t a r = less_kept (either q) t a r

  less_resolves : (r : Resolution) (o : Option Term) (x a : Answer) → Rules.Resolves G r o x a →
      OrLimit (Rules.Resolves H r o x) a
  less_resolves shallow o x a h = inl h
  less_resolves deep None x a h = inl h
  less_resolves deep (Some t) x a h = less t a h

  less_left : (op : BinaryOperator) (x : Answer) (t : Term) (a : Answer) → Rules.Then x (Rules.AfterLeft G s op t) a →
      OrLimit (Rules.Then x (Rules.AfterLeft H s op t)) a
  unfolding Rules.binary_beside Rules.beside_residual
  less_left op (fails e) t a r = inl r
  less_left op (answers p) t a (y, g, h) =
      through (λ z. Rules.Resolves H s.resolution (Rules.beside_residual s.store op p z) (Rules.binary_beside s op p z))
      t y a (unread H s.resolution limit) g (less_resolves s.resolution (Rules.beside_residual s.store op p y)
      (Rules.binary_beside s op p y) a h)

  -- an extended `has`
  less_step : (z : Walk) (Next Next' : Represented → Answer → Type 0) (a : Answer) → ((v : Represented) → Next v a →
      OrLimit (Next' v) a) → Rules.AfterWalk G z Next a → OrLimit (Rules.AfterWalk H z Next') a
  less_step (walks_on v) Next Next' a f h = f v h
  less_step (stops b) Next Next' a f h = inl h

  less_stored : (x : Answer) (l : Text) (ls : List Text) (Next Next' : Represented → Answer → Type 0) (a : Answer) →
      ((v : Represented) → Next v a → OrLimit (Next' v) a) → Rules.AfterStored G x l ls Next a →
      OrLimit (Rules.AfterStored H x l ls Next') a
  less_stored (fails e) l ls Next Next' a f h = inl h
  less_stored (answers (value v)) l ls Next Next' a f h = f v h
  less_stored (answers (residual r)) l ls Next Next' a f h = inl h

  less_steps : (o : Option Term) (z : Walk) (l : Text) (ls : List Text) (Next Next' : Represented → Answer →
      Type 0) (a : Answer) → ((v : Represented) → Next v a → OrLimit (Next' v) a) → Rules.WalksOn G o z l ls Next a →
      OrLimit (Rules.WalksOn H o z l ls Next') a
  less_steps None z l ls Next Next' a f h = less_step z Next Next' a f h
  less_steps (Some t) z l ls Next Next' a f (x, g, h) =
      through (λ y. Rules.AfterStored H y l ls Next') t x a refl g (less_stored x l ls Next Next' a f h)

  less_walks : (store : Store) (ks : List Text) (v : Represented) (k : Text) (a : Answer) →
      Rules.Walks G store v k ks a → OrLimit (Rules.Walks H store v k ks) a
  less_walks store [] v k a h = inl h
  less_walks store (l ∷ ls) v k a h =
      less_steps (attribute_residual store v k) (walk_in store (container_of v) (container_expected v) k l ls) l ls
      (λ u. Rules.Walks G store u l ls) (λ u. Rules.Walks H store u l ls) a (λ u. less_walks store ls u l a) h

  less_path : (r : Resolution) (x : Answer) (k : Text) (ks : List Text) (a : Answer) →
      Rules.AtPath G r s.store x k ks a → OrLimit (Rules.AtPath H r s.store x k ks) a
  less_path shallow x k ks a h = inl h
  less_path deep (fails e) k ks a h = inl h
  less_path deep (answers (value v)) k ks a h = less_walks s.store ks v k a h
  less_path deep (answers (residual r)) k ks a h = inl h

  path_stops : (r : Resolution) (k : Text) (ks : List Text) → Rules.AtPath H r s.store limit k ks limit
  unfolding Rules.on_part
  path_stops shallow k ks = refl
  path_stops deep k ks = refl

  less_projects : (b : Bool) (r : Term) (k : Text) (part : Term) (a : Answer) → Rules.Projects G b r k part a →
      OrLimit (Rules.Projects H b r k part) a
  less_projects true r k part a h = less part a h
  less_projects false r k part a h = inl h

  less_at_key : (o : Option Term) (fs : Fields) (r : Term) (k : Text) (a : Answer) → Rules.AtKey G o fs r k a →
      OrLimit (Rules.AtKey H o fs r k) a
  less_at_key None fs r k a h = inl h
  less_at_key (Some part) fs r k a h = less_projects (is_projectable r) r k part a h

  less_at_fields : (o : Option Fields) (r : Term) (k : Text) (a : Answer) → Rules.AtFields G o r k a →
      OrLimit (Rules.AtFields H o r k) a
  less_at_fields None r k a h = inl h
  less_at_fields (Some fs) r k a h = less_at_key (term_at k fs) fs r k a h

  less_attribute : (x : Answer) (k : Text) (a : Answer) → Rules.Then x (Rules.AtAttribute G s k) a →
      OrLimit (Rules.Then x (Rules.AtAttribute H s k)) a
  less_attribute (fails e) k a r = inl r
  less_attribute (answers (value v)) k a r =
      less_resolves s.resolution (attribute_residual s.store v k) (attribute_answer s v k) a r
  less_attribute (answers (residual q)) k a r = less_at_fields (Rules.fields_of_record q) q k a r

  -- parts in order: the same answers, or the limit
  through_part : {A : Type 0} (P : Answer → Result A Failure →
      Type 0) (t : Term) (x : Answer) (r : Result A Failure) → P limit (Err recursion_limit) → G t x →
      OrStopped (P x) r → OrStopped (λ q. (y : Answer) × H t y × P y q) r
  through_part P t x r stop g h = by (less t x g) h
    where
      by : OrLimit (H t) x → OrStopped (P x) r → OrStopped (λ q. (y : Answer) × H t y × P y q) r
      by (inl k) (inl j) = inl (x, k, j)
      by (inl k) (inr j) = inr (x, k, j)
      by (inr k) j = inr (limit, k, stop)

  less_after : (Rest Rest' : Result (List PartialValue) Failure → Type 0) →
      ((r : Result (List PartialValue) Failure) → Rest r → OrStopped Rest' r) →
      (x : Answer) (r : Result (List PartialValue) Failure) → Rules.AfterPart G x Rest r →
      OrStopped (Rules.AfterPart H x Rest') r
  unfolding Rules.part_then
  less_after Rest Rest' f (fails e) r h = inl h
  less_after Rest Rest' f (answers p) r (q, h, e) =
      or_map (λ k. (q, k, e)) (λ k. (Err recursion_limit, k, refl)) (f q h)

  less_parts : (ts : Terms) (r : Result (List PartialValue) Failure) → Rules.Parts G ts r →
      OrStopped (Rules.Parts H ts) r
  less_parts no_terms r h = inl h
  less_parts (one_term t ts) r (x, g, h) =
      through_part (λ y. Rules.AfterPart H y (Rules.Parts H ts)) t x r refl g (less_after (Rules.Parts G ts)
      (Rules.Parts H ts) (less_parts ts) x r h)

  less_after_at : (k : Text) (Rest Rest' : Result (List (Text × PartialValue)) Failure → Type 0) →
      ((r : Result (List (Text × PartialValue)) Failure) → Rest r → OrStopped Rest' r) →
      (x : Answer) (r : Result (List (Text × PartialValue)) Failure) → Rules.AfterFieldPart G k x Rest r →
      OrStopped (Rules.AfterFieldPart H k x Rest') r
  unfolding Rules.field_part_then
  less_after_at k Rest Rest' f (fails e) r h = inl h
  less_after_at k Rest Rest' f (answers p) r (q, h, e) =
      or_map (λ j. (q, j, e)) (λ j. (Err recursion_limit, j, refl)) (f q h)

  less_field_parts : (fs : Fields) (r : Result (List (Text × PartialValue)) Failure) → Rules.FieldParts G fs r →
      OrStopped (Rules.FieldParts H fs) r
  less_field_parts no_fields r h = inl h
  less_field_parts (one_field k t fs) r (x, g, h) =
      through_part (λ y. Rules.AfterFieldPart H k y (Rules.FieldParts H fs)) t x r refl g
      (less_after_at k (Rules.FieldParts G fs) (Rules.FieldParts H fs) (less_field_parts fs) x r h)

  less_on_part : (f : Represented → Answer) (h : Term → Term) (t : Term) (x a : Answer) → G t x →
      a ≡ Rules.on_part f h x → OrLimit (λ b. (y : Answer) × H t y × (b ≡ Rules.on_part f h y)) a
  unfolding Rules.on_part
  less_on_part f h t x a g e = through (λ y b. b ≡ Rules.on_part f h y) t x a refl g (inl e)

  less_rule : (t : Term) (a : Answer) → Rules.Rule s calls G t a → OrLimit (Rules.Rule s calls H t) a
  unfolding Rules.has_part Rules.is_part Rules.set_answer Rules.record_answer
  less_rule (literal l) a r = inl r
  less_rule (variable v) a r = inl r
  less_rule (slot i) a r = inl r
  less_rule (unknown n t) a r = inl r
  less_rule (if_then_else c t e) a (x, g, h) =
      through (λ y. Rules.Then y (Rules.AfterGuard H t e)) c x a refl g (less_guard x t e a h)
  less_rule (both t u) a (x, g, h) = through (λ y. Rules.Then y (Rules.AfterAndLeft H u)) t x a refl g (less_and x u a h)
  less_rule (either t u) a (x, g, h) = through (λ y. Rules.Then y (Rules.AfterOrLeft H u)) t x a refl g (less_or x u a h)
  less_rule (unary op t) a (x, g, e) = less_on_part _ _ t x a g e
  less_rule (binary op t u) a (x, g, h) =
      through (λ y. Rules.Then y (Rules.AfterLeft H s op u)) t x a refl g (less_left op x u a h)
  less_rule (call f ts) a (r, g, h) =
      or_map (λ k. (r, k, h)) (λ k. (Err recursion_limit, k, refl)) (less_parts ts r g)
  less_rule (get_attribute t k) a (x, g, h) =
      through (λ y. Rules.Then y (Rules.AtAttribute H s k)) t x a refl g (less_attribute x k a h)
  less_rule (has_attribute t k) a (x, g, e) = through (λ y b. b ≡ Rules.has_part s k y) t x a refl g (inl e)
  less_rule (extended_has t k ks) a (x, g, h) =
      through (λ y. Rules.AtPath H s.resolution s.store y k ks) t x a (path_stops s.resolution k ks) g
      (less_path s.resolution x k ks a h)
  less_rule (like t p) a (x, g, e) = less_on_part _ _ t x a g e
  less_rule (is_of_type t m) a (x, g, e) = through (λ y b. b ≡ Rules.is_part m y) t x a refl g (inl e)
  less_rule (set_of ts) a (r, g, e) =
      or_map (λ k. (r, k, e)) (λ k. (Err recursion_limit, k, refl)) (less_parts ts r g)
  less_rule (record_of fs) a (r, g, e) =
      or_map (λ k. (r, k, e)) (λ k. (Err recursion_limit, k, refl)) (less_field_parts fs r g)

module _ (s : Setting) (calls : Rules.StoredCalls) where
  one_less : (n : ℕ) (t : Term) (a : Answer) → Rules.Runs s calls (suc n) t a → OrLimit (Rules.Runs s calls n t) a
  one_less zero t a r = inr refl
  one_less (suc n) t a r = less_rule s calls (Rules.Runs s calls (suc n)) (Rules.Runs s calls n) (one_less n) t a r

  fewer : (d n : ℕ) (t : Term) → Rules.Runs s calls (d + n) t limit → Rules.Runs s calls n t limit
  fewer zero n t r = let e : 0 + n ≡ n = omega arith in subst (λ k. Rules.Runs s calls k t limit) e r
  fewer (suc d) n t r =
      let e : suc d + n ≡ suc (d + n) = omega arith in
      fewer d n t (one (one_less (d + n) t limit (subst (λ k. Rules.Runs s calls k t limit) e r)))
    where
      one : OrLimit (Rules.Runs s calls (d + n) t) limit → Rules.Runs s calls (d + n) t limit
      one (inl k) = k
      one (inr k) = k

  -- where the limit is met, it is met with fewer levels too
  pub fewer_levels : (m n : ℕ) (t : Term) → m ≤ n → Rules.Exceeds s calls t n → Rules.Exceeds s calls t m
  fewer_levels m n t h r =
      let e : n ≡ (n - m) + m = omega arith in fewer (n - m) m t (subst (λ k. Rules.Exceeds s calls t k) e r)
