-- More levels keep an answer, and what is allowed is what the rules give over what is allowed.
use Rattle.std.specs.Prelude.{◌≡◌, ◌≢◌, ℕ, zero, suc, ◌+◌, ◌-◌, ◌≤◌, max, Bool, true, false, List, [], ◌∷◌, Option}
use Rattle.std.specs.Prelude.{Some, None, Result, Err}
use Rattle.std.proofs.Common.{ap, ◌∙◌, subst, arith}
use Rattle.cedar_model.specs.Terms.{Text, BinaryOperator, Term, literal, variable, slot, unknown, if_then_else, both}
use Rattle.cedar_model.specs.Terms.{either, unary, binary, call, get_attribute, has_attribute, extended_has, like}
use Rattle.cedar_model.specs.Terms.{is_of_type, set_of, record_of, Terms, no_terms, one_term, Fields, no_fields}
use Rattle.cedar_model.specs.Terms.{one_field}
use Rattle.cedar_model.specs.Values.{Represented, abstract_value}
use Rattle.cedar_model.specs.Shapes.{is_projectable}
use Rattle.cedar_model.specs.Outcomes.{bool_of}
use Rattle.cedar_model.specs.Failures.{Failure, failure_kind, recursion_limit, PartialValue, value, residual, Answer}
use Rattle.cedar_model.specs.Failures.{answers, fails, limit}
use Rattle.cedar_model.specs.Settings.{Store, Resolution, shallow, deep, Setting}
use Rattle.cedar_model.specs.Operators.{term_at, Walk, walks_on, stops, walk_in, container_of, container_expected}
use Rattle.cedar_model.specs.Operators.{attribute_answer, path_answer, attribute_residual}
use Rattle.cedar_model.proofs.Resolving.{nothing_read}
use Rattle.cedar_model.specs.Rules

module _ (p : PartialValue) where
  pub answers≢limit : answers p ≢ limit
  answers≢limit e = cc

-- what is kept of an answer by best effort was not the limit
pub best_not_limit : (x : Answer) (t : Term) (Next : Term → Answer → Type 0) (a : Answer)
    → Rules.AfterBest (Rules.best x t) Next a → a ≢ limit → x ≢ limit
unfolding Rules.best Rules.best_of_kind failure_kind
best_not_limit x t Next a r n e = n (subst (λ y. Rules.AfterBest (Rules.best y t) Next a) e r)

best_map : (b : Rules.Best) (Next Next' : Term → Answer → Type 0) (a : Answer) → ((t : Term) → Next t a → Next' t a)
    → Rules.AfterBest b Next a → Rules.AfterBest b Next' a
best_map (Rules.kept t) Next Next' a f r = f t r
best_map (Rules.handed_up e) Next Next' a f r = r

-- ---- a layer keeps an answer other than the limit, if the parts do

module _ (s : Setting) (calls : Rules.StoredCalls) (G H : Rules.MayAnswer)
    (keep : (t : Term) (x : Answer) → G t x → x ≢ limit → H t x) where
  keep_takes : (b : Option Bool) (v : Represented) (t e : Term) (a : Answer) → Rules.TakesBranch G b v t e a → a ≢ limit
      → Rules.TakesBranch H b v t e a
  keep_takes None v t e a r n = r
  keep_takes (Some true) v t e a r n = keep t a r n
  keep_takes (Some false) v t e a r n = keep e a r n

  keep_branches : (r t e : Term) (a : Answer) → Rules.KeepsBranches G r t e a → a ≢ limit
      → Rules.KeepsBranches H r t e a
  keep_branches r t e a (x, g, h) n = (
    x,
    keep t x g (best_not_limit x t _ a h n),
    best_map (Rules.best x t) _ _ a
        (λ t' (y, k, l). (y, keep e y k (best_not_limit y e _ a l n), l)) h,
  )

  keep_guard : (x : Answer) (t e : Term) (a : Answer) → Rules.Then x (Rules.AfterGuard G t e) a → a ≢ limit → (x ≢ limit)
      × Rules.Then x (Rules.AfterGuard H t e) a
  keep_guard (fails f) t e a r n = (λ q. n (r ∙ q), r)
  keep_guard (answers (value v)) t e a r n =
      (answers≢limit (value v), keep_takes (bool_of (abstract_value v)) v t e a r n)
  keep_guard (answers (residual q)) t e a r n = (answers≢limit (residual q), keep_branches q t e a r n)

  keep_right : (with_left : Term → Term) (t : Term) (a : Answer) → Rules.ReadsRight G with_left t a → a ≢ limit
      → Rules.ReadsRight H with_left t a
  unfolding Rules.joined
  keep_right with_left t a (x, g, e) n = (x, keep t x g (λ q. n (e ∙ ap (Rules.joined with_left) q)), e)

  keep_kept : (with_left : Term → Term) (t : Term) (a : Answer) → Rules.KeepsRight G with_left t a → a ≢ limit
      → Rules.KeepsRight H with_left t a
  keep_kept with_left t a (x, g, h) n = (x, keep t x g (best_not_limit x t _ a h n), h)

  keep_and_bool : (b : Option Bool) (v : Represented) (t : Term) (a : Answer) → Rules.AndLeft G b v t a → a ≢ limit
      → Rules.AndLeft H b v t a
  keep_and_bool None v t a r n = r
  keep_and_bool (Some true) v t a r n = keep_right _ t a r n
  keep_and_bool (Some false) v t a r n = r

  keep_and : (x : Answer) (t : Term) (a : Answer) → Rules.Then x (Rules.AfterAndLeft G t) a → a ≢ limit → (x ≢ limit)
      × Rules.Then x (Rules.AfterAndLeft H t) a
  keep_and (fails e) t a r n = (λ q. n (r ∙ q), r)
  keep_and (answers (value v)) t a r n =
      (answers≢limit (value v), keep_and_bool (bool_of (abstract_value v)) v t a r n)
  keep_and (answers (residual q)) t a r n = (answers≢limit (residual q), keep_kept (both q) t a r n)

  keep_or_bool : (b : Option Bool) (v : Represented) (t : Term) (a : Answer) → Rules.OrLeft G b v t a → a ≢ limit
      → Rules.OrLeft H b v t a
  keep_or_bool None v t a r n = r
  keep_or_bool (Some true) v t a r n = r
  keep_or_bool (Some false) v t a r n = keep_right _ t a r n

  keep_or : (x : Answer) (t : Term) (a : Answer) → Rules.Then x (Rules.AfterOrLeft G t) a → a ≢ limit → (x ≢ limit)
      × Rules.Then x (Rules.AfterOrLeft H t) a
  keep_or (fails e) t a r n = (λ q. n (r ∙ q), r)
  keep_or (answers (value v)) t a r n =
      (answers≢limit (value v), keep_or_bool (bool_of (abstract_value v)) v t a r n)
  keep_or (answers (residual q)) t a r n = (answers≢limit (residual q), keep_kept (either q) t a r n)

  keep_resolves : (r : Resolution) (o : Option Term) (x a : Answer) → Rules.Resolves G r o x a → a ≢ limit
      → Rules.Resolves H r o x a
  keep_resolves shallow o x a h n = h
  keep_resolves deep None x a h n = h
  keep_resolves deep (Some t) x a h n = keep t a h n

  keep_beside : (op : BinaryOperator) (p : PartialValue) (t : Term) (y a : Answer) → G t y
      → Rules.Resolves G s.resolution (Rules.beside_residual s.store op p y) (Rules.binary_beside s op p y) a
      → a ≢ limit → H t y
  unfolding Rules.binary_beside Rules.beside_residual
  keep_beside op p t (fails e) a g h n = keep t (fails e) g (λ q. n (nothing_read G s.resolution (fails e) a h ∙ q))
  keep_beside op p t (answers q) a g h n = keep t (answers q) g (answers≢limit q)

  keep_left : (op : BinaryOperator) (x : Answer) (t : Term) (a : Answer) → Rules.Then x (Rules.AfterLeft G s op t) a → a ≢ limit
      → (x ≢ limit) × Rules.Then x (Rules.AfterLeft H s op t) a
  keep_left op (fails e) t a r n = (λ q. n (r ∙ q), r)
  keep_left op (answers p) t a (y, g, e) n = (
    answers≢limit p,
    (
      y,
      keep_beside op p t y a g e n,
      keep_resolves s.resolution
          (Rules.beside_residual s.store op p y) (Rules.binary_beside s op p y) a e n,
    ),
  )

  keep_step : (z : Walk) (Next Next' : Represented → Answer → Type 0) (a : Answer)
      → ((v : Represented) → Next v a → Next' v a) → Rules.AfterWalk G z Next a → Rules.AfterWalk H z Next' a
  keep_step (walks_on v) Next Next' a f h = f v h
  keep_step (stops b) Next Next' a f h = h

  keep_stored : (x : Answer) (l : Text) (ls : List Text) (Next Next' : Represented → Answer → Type 0) (a : Answer)
      → ((v : Represented) → Next v a → Next' v a) → Rules.AfterStored G x l ls Next a → a ≢ limit → (x ≢ limit)
      × Rules.AfterStored H x l ls Next' a
  keep_stored (fails e) l ls Next Next' a f h n = (λ q. n (h ∙ q), h)
  keep_stored (answers (value v)) l ls Next Next' a f h n = (answers≢limit (value v), f v h)
  keep_stored (answers (residual r)) l ls Next Next' a f h n = (answers≢limit (residual r), h)

  keep_steps : (o : Option Term) (z : Walk) (l : Text) (ls : List Text) (Next Next' : Represented → Answer → Type 0)
      (a : Answer) → ((v : Represented) → Next v a → Next' v a) → Rules.WalksOn G o z l ls Next a → a ≢ limit
      → Rules.WalksOn H o z l ls Next' a
  keep_steps None z l ls Next Next' a f h n = keep_step z Next Next' a f h
  keep_steps (Some t) z l ls Next Next' a f (x, g, h) n =
      let k = keep_stored x l ls Next Next' a f h n in (x, keep t x g k.0, k.1)

  keep_walks : (store : Store) (ks : List Text) (v : Represented) (k : Text) (a : Answer) → Rules.Walks G store v k ks a
      → a ≢ limit → Rules.Walks H store v k ks a
  keep_walks store [] v k a h n = h
  keep_walks store (l ∷ ls) v k a h n =
      keep_steps (attribute_residual store v k) (walk_in store (container_of v) (container_expected v) k l ls) l ls
      (λ u. Rules.Walks G store u l ls) (λ u. Rules.Walks H store u l ls) a (λ u j. keep_walks store ls u l a j n) h n

  keep_path : (r : Resolution) (x : Answer) (k : Text) (ks : List Text) (a : Answer) → Rules.AtPath G r s.store x k ks a
      → a ≢ limit → (x ≢ limit) × Rules.AtPath H r s.store x k ks a
  unfolding Rules.on_part
  keep_path shallow x k ks a e n =
      (λ q. n (e ∙ ap (Rules.on_part (λ v. path_answer s.store v k ks) (λ r. extended_has r k ks)) q), e)
  keep_path deep (fails e) k ks a h n = (λ q. n (h ∙ q), h)
  keep_path deep (answers (value v)) k ks a h n = (answers≢limit (value v), keep_walks s.store ks v k a h n)
  keep_path deep (answers (residual r)) k ks a h n = (answers≢limit (residual r), h)

  keep_at_key : (o : Option Term) (fs : Fields) (r : Term) (k : Text) (a : Answer) → Rules.AtKey G o fs r k a
      → a ≢ limit → Rules.AtKey H o fs r k a
  keep_at_key None fs r k a h n = h
  keep_at_key (Some part) fs r k a h n = by (is_projectable r) h
    where
      by : (b : Bool) → Rules.Projects G b r k part a → Rules.Projects H b r k part a
      by true g = keep part a g n
      by false g = g

  keep_at_fields : (o : Option Fields) (r : Term) (k : Text) (a : Answer) → Rules.AtFields G o r k a → a ≢ limit
      → Rules.AtFields H o r k a
  keep_at_fields None r k a h n = h
  keep_at_fields (Some fs) r k a h n = keep_at_key (term_at k fs) fs r k a h n

  keep_attribute : (x : Answer) (k : Text) (a : Answer) → Rules.Then x (Rules.AtAttribute G s k) a → a ≢ limit → (x ≢ limit)
      × Rules.Then x (Rules.AtAttribute H s k) a
  keep_attribute (fails e) k a r n = (λ q. n (r ∙ q), r)
  keep_attribute (answers (value v)) k a r n = (
    answers≢limit (value v),
    keep_resolves s.resolution (attribute_residual s.store v k)
        (attribute_answer s v k) a r n,
  )
  keep_attribute (answers (residual q)) k a r n =
      (answers≢limit (residual q), keep_at_fields (Rules.fields_of_record q) q k a r n)

  keep_part : (rest rest' : Result (List PartialValue) Failure → Type 0)
      → ((r : Result (List PartialValue) Failure) → rest r → r ≢ Err recursion_limit → rest' r)
      → (x : Answer) (r : Result (List PartialValue) Failure) → Rules.AfterPart G x rest r → r ≢ Err recursion_limit
      → (x ≢ limit) × Rules.AfterPart H x rest' r
  unfolding Rules.part_then
  keep_part rest rest' f (fails e) r k n = (λ q. n (cc), k)
  keep_part rest rest' f (answers p) r (q, k, e) n =
      (answers≢limit p, (q, f q k (λ z. n (e ∙ ap (Rules.part_then p) z)), e))

  keep_parts : (ts : Terms) (r : Result (List PartialValue) Failure) → Rules.Parts G ts r → r ≢ Err recursion_limit
      → Rules.Parts H ts r
  keep_parts no_terms r h n = h
  keep_parts (one_term t ts) r (x, g, h) n =
      let k = keep_part (Rules.Parts G ts) (Rules.Parts H ts) (keep_parts ts) x r h n in
      (x, keep t x g k.0, k.1)

  keep_field_part : (rest rest' : Result (List (Text × PartialValue)) Failure → Type 0)
      → ((r : Result (List (Text × PartialValue)) Failure) → rest r → r ≢ Err recursion_limit → rest' r)
      → (l : Text) (x : Answer) (r : Result (List (Text × PartialValue)) Failure) → Rules.AfterFieldPart G l x rest r
      → r ≢ Err recursion_limit → (x ≢ limit) × Rules.AfterFieldPart H l x rest' r
  unfolding Rules.field_part_then
  keep_field_part rest rest' f l (fails e) r k n = (λ q. n (cc), k)
  keep_field_part rest rest' f l (answers p) r (q, k, e) n =
      (answers≢limit p, (q, f q k (λ z. n (e ∙ ap (Rules.field_part_then l p) z)), e))

  keep_field_parts : (fs : Fields) (r : Result (List (Text × PartialValue)) Failure) → Rules.FieldParts G fs r
      → r ≢ Err recursion_limit → Rules.FieldParts H fs r
  keep_field_parts no_fields r h n = h
  keep_field_parts (one_field l t fs) r (x, g, h) n =
      let k = keep_field_part (Rules.FieldParts G fs) (Rules.FieldParts H fs) (keep_field_parts fs) l x r h n in
      (x, keep t x g k.0, k.1)

  not_limit_on_part : (f : Represented → Answer) (h : Term → Term) (x a : Answer) → a ≡ Rules.on_part f h x → a ≢ limit
      → x ≢ limit
  unfolding Rules.on_part
  not_limit_on_part f h x a e n q = n (e ∙ ap (Rules.on_part f h) q)

  pub keep_rule : (t : Term) (a : Answer) → Rules.Rule s calls G t a → a ≢ limit → Rules.Rule s calls H t a
  unfolding Rules.has_part Rules.is_part Rules.set_answer Rules.record_answer
  keep_rule (literal l) a r n = r
  keep_rule (variable v) a r n = r
  keep_rule (slot i) a r n = r
  keep_rule (unknown m t) a r n = r
  keep_rule (if_then_else c t e) a (x, g, h) n = let k = keep_guard x t e a h n in (x, keep c x g k.0, k.1)
  keep_rule (both t u) a (x, g, h) n = let k = keep_and x u a h n in (x, keep t x g k.0, k.1)
  keep_rule (either t u) a (x, g, h) n = let k = keep_or x u a h n in (x, keep t x g k.0, k.1)
  keep_rule (unary op t) a (x, g, e) n = (x, keep t x g (not_limit_on_part _ _ x a e n), e)
  keep_rule (binary op t u) a (x, g, h) n = let k = keep_left op x u a h n in (x, keep t x g k.0, k.1)
  keep_rule (call f ts) a (r, g, h) n =
      (r, keep_parts ts r g (λ q. n (subst (λ z. Rules.AfterArguments calls s.extensions.arity f z a) q h)), h)
  keep_rule (get_attribute t k) a (x, g, h) n = let z = keep_attribute x k a h n in (x, keep t x g z.0, z.1)
  keep_rule (has_attribute t k) a (x, g, e) n = (x, keep t x g (λ q. n (e ∙ ap (Rules.has_part s k) q)), e)
  keep_rule (extended_has t k ks) a (x, g, h) n =
      let z = keep_path s.resolution x k ks a h n in (x, keep t x g z.0, z.1)
  keep_rule (like t p) a (x, g, e) n = (x, keep t x g (not_limit_on_part _ _ x a e n), e)
  keep_rule (is_of_type t m) a (x, g, e) n = (x, keep t x g (λ q. n (e ∙ ap (Rules.is_part m) q)), e)
  keep_rule (set_of ts) a (r, g, e) n = (r, keep_parts ts r g (λ q. n (e ∙ ap Rules.set_answer q)), e)
  keep_rule (record_of fs) a (r, g, e) n = (r, keep_field_parts fs r g (λ q. n (e ∙ ap Rules.record_answer q)), e)

-- ---- more levels

module _ (s : Setting) (calls : Rules.StoredCalls) where
  pub one_more : (n : ℕ) (t : Term) (a : Answer) → Rules.Runs s calls n t a → a ≢ limit → Rules.Runs s calls (suc n) t a
  one_more zero t a r ne = absurd (ne r)
  one_more (suc n) t a r ne =
      keep_rule s calls (Rules.Runs s calls n) (Rules.Runs s calls (suc n)) (one_more n) t a r ne

  some_more : (d n : ℕ) (t : Term) (a : Answer) → Rules.Runs s calls n t a → a ≢ limit → Rules.Runs s calls (d + n) t a
  some_more zero n t a r ne = let e : n ≡ 0 + n = omega arith in subst (λ m. Rules.Runs s calls m t a) e r
  some_more (suc d) n t a r ne =
      let e : suc (d + n) ≡ suc d + n = omega arith in
      subst (λ m. Rules.Runs s calls m t a) e (one_more (d + n) t a (some_more d n t a r ne) ne)

  pub more_levels : (n m : ℕ) (t : Term) (a : Answer) → n ≤ m → Rules.Runs s calls n t a → a ≢ limit
      → Rules.Runs s calls m t a
  more_levels n m t a h r ne =
      let e : (m - n) + n ≡ m = omega arith in
      subst (λ k. Rules.Runs s calls k t a) e (some_more (m - n) n t a r ne)

  -- what is allowed is what a layer gives
  pub allowed_by_rule : (t : Term) (a : Answer) → Rules.Allows s calls t a
      → Rules.Rule s calls (Rules.Allows s calls) t a
  allowed_by_rule t a (ne, zero, r) = absurd (ne r)
  allowed_by_rule t a (ne, suc n, r) =
      keep_rule s calls (Rules.Runs s calls n) (Rules.Allows s calls) (λ u x g m. (m, n, g)) t a r ne

  -- ---- and the other way: the parts' levels have a greatest

  -- an answer other than the limit, within n levels
  abbrev Within : ℕ → Term → Answer → Type 0
  Within n t a = (a ≢ limit) × Rules.Runs s calls n t a

  widen : (n m : ℕ) → n ≤ m → (t : Term) (a : Answer) → Within n t a → Within m t a
  widen n m h t a (ne, r) = (ne, more_levels n m t a h r ne)

  gather_takes : (b : Option Bool) (v : Represented) (t e : Term) (a : Answer)
      → Rules.TakesBranch (Rules.Allows s calls) b v t e a → (n : ℕ) × Rules.TakesBranch (Within n) b v t e a
  gather_takes None v t e a r = (0, r)
  gather_takes (Some true) v t e a (ne, n, r) = (n, (ne, r))
  gather_takes (Some false) v t e a (ne, n, r) = (n, (ne, r))

  gather_best : (b : Rules.Best) (Next : Term → Answer → Type 0) (Next' : ℕ → Term → Answer → Type 0) (a : Answer)
      → ((t : Term) → Next t a → (n : ℕ) × Next' n t a) → Rules.AfterBest b Next a → (n : ℕ)
      × Rules.AfterBest b (Next' n) a
  gather_best (Rules.kept t) Next Next' a f r = f t r
  gather_best (Rules.handed_up e) Next Next' a f r = (0, r)

  gather_branches : (r t e : Term) (a : Answer) → Rules.KeepsBranches (Rules.Allows s calls) r t e a → (n : ℕ)
      × Rules.KeepsBranches (Within n) r t e a
  gather_branches r t e a (x, (ne, n, g), h) =
      let k =
      gather_best (Rules.best x t) _
      (λ n t' b. (y : Answer) × Within n e y
      × Rules.AfterBest (Rules.best y e) (λ e' c. c ≡ answers (residual (if_then_else r t' e'))) b) a
      (λ t' (y, (ne', n', g'), h'). (n', (y, (ne', g'), h'))) h in (
        max n k.0,
        (
          x,
          widen n (max n k.0) (omega arith) t x (ne, g),
          best_map (Rules.best x t) _ _ a
              (λ t' (y, g', h'). (y, widen k.0 (max n k.0) (omega arith) e y g', h')) k.1,
        ),
      )

  gather_guard : (x : Answer) (t e : Term) (a : Answer) → Rules.Then x (Rules.AfterGuard (Rules.Allows s calls) t e) a → (n : ℕ)
      × Rules.Then x (Rules.AfterGuard (Within n) t e) a
  gather_guard (fails f) t e a r = (0, r)
  gather_guard (answers (value v)) t e a r = gather_takes (bool_of (abstract_value v)) v t e a r
  gather_guard (answers (residual q)) t e a r = gather_branches q t e a r

  gather_and_bool : (b : Option Bool) (v : Represented) (t : Term) (a : Answer)
      → Rules.AndLeft (Rules.Allows s calls) b v t a → (n : ℕ) × Rules.AndLeft (Within n) b v t a
  gather_and_bool None v t a r = (0, r)
  gather_and_bool (Some true) v t a (x, (ne, n, g), e) = (n, (x, (ne, g), e))
  gather_and_bool (Some false) v t a r = (0, r)

  gather_and : (x : Answer) (t : Term) (a : Answer) → Rules.Then x (Rules.AfterAndLeft (Rules.Allows s calls) t) a → (n : ℕ)
      × Rules.Then x (Rules.AfterAndLeft (Within n) t) a
  gather_and (fails e) t a r = (0, r)
  gather_and (answers (value v)) t a r = gather_and_bool (bool_of (abstract_value v)) v t a r
  gather_and (answers (residual q)) t a (x, (ne, n, g), h) = (n, (x, (ne, g), h))

  gather_or_bool : (b : Option Bool) (v : Represented) (t : Term) (a : Answer)
      → Rules.OrLeft (Rules.Allows s calls) b v t a → (n : ℕ) × Rules.OrLeft (Within n) b v t a
  gather_or_bool None v t a r = (0, r)
  gather_or_bool (Some true) v t a r = (0, r)
  gather_or_bool (Some false) v t a (x, (ne, n, g), e) = (n, (x, (ne, g), e))

  gather_or : (x : Answer) (t : Term) (a : Answer) → Rules.Then x (Rules.AfterOrLeft (Rules.Allows s calls) t) a → (n : ℕ)
      × Rules.Then x (Rules.AfterOrLeft (Within n) t) a
  gather_or (fails e) t a r = (0, r)
  gather_or (answers (value v)) t a r = gather_or_bool (bool_of (abstract_value v)) v t a r
  gather_or (answers (residual q)) t a (x, (ne, n, g), h) = (n, (x, (ne, g), h))

  gather_resolves : (r : Resolution) (o : Option Term) (x a : Answer) → Rules.Resolves (Rules.Allows s calls) r o x a
      → (n : ℕ) × Rules.Resolves (Within n) r o x a
  gather_resolves shallow o x a h = (0, h)
  gather_resolves deep None x a h = (0, h)
  gather_resolves deep (Some t) x a (ne, n, g) = (n, (ne, g))

  widen_resolves : (n m : ℕ) → n ≤ m → (r : Resolution) (o : Option Term) (x a : Answer)
      → Rules.Resolves (Within n) r o x a → Rules.Resolves (Within m) r o x a
  widen_resolves n m e shallow o x a h = h
  widen_resolves n m e deep None x a h = h
  widen_resolves n m e deep (Some t) x a h = widen n m e t a h

  gather_left : (op : BinaryOperator) (x : Answer) (t : Term) (a : Answer)
      → Rules.Then x (Rules.AfterLeft (Rules.Allows s calls) s op t) a → (n : ℕ) × Rules.Then x (Rules.AfterLeft (Within n) s op t) a
  gather_left op (fails e) t a r = (0, r)
  gather_left op (answers p) t a (y, (ne, n, g), h) =
      let k = gather_resolves s.resolution (Rules.beside_residual s.store op p y)
      (Rules.binary_beside s op p y) a h in (
        max n k.0,
        (
          y,
          widen n (max n k.0) (omega arith) t y (ne, g),
          widen_resolves k.0 (max n k.0)
              (omega arith) s.resolution (Rules.beside_residual s.store op p y) (Rules.binary_beside s op p y) a k.1,
        ),
      )

  gather_step : (z : Walk) (Next : Represented → Answer → Type 0) (Next' : ℕ → Represented → Answer → Type 0)
      (a : Answer) → ((v : Represented) → Next v a → (n : ℕ) × Next' n v a)
      → Rules.AfterWalk (Rules.Allows s calls) z Next a → (n : ℕ) × Rules.AfterWalk (Within n) z (Next' n) a
  gather_step (walks_on v) Next Next' a f h = f v h
  gather_step (stops b) Next Next' a f h = (0, h)

  gather_stored : (x : Answer) (l : Text) (ls : List Text) (Next : Represented → Answer → Type 0)
      (Next' : ℕ → Represented → Answer → Type 0) (a : Answer) → ((v : Represented) → Next v a → (n : ℕ) × Next' n v a)
      → Rules.AfterStored (Rules.Allows s calls) x l ls Next a → (n : ℕ)
      × Rules.AfterStored (Within n) x l ls (Next' n) a
  gather_stored (fails e) l ls Next Next' a f h = (0, h)
  gather_stored (answers (value v)) l ls Next Next' a f h = f v h
  gather_stored (answers (residual r)) l ls Next Next' a f h = (0, h)

  widen_stored : (n m : ℕ) (x : Answer) (l : Text) (ls : List Text) (Next Next' : Represented → Answer → Type 0)
      (a : Answer) → ((v : Represented) → Next v a → Next' v a) → Rules.AfterStored (Within n) x l ls Next a
      → Rules.AfterStored (Within m) x l ls Next' a
  widen_stored n m (fails e) l ls Next Next' a f h = h
  widen_stored n m (answers (value v)) l ls Next Next' a f h = f v h
  widen_stored n m (answers (residual r)) l ls Next Next' a f h = h

  gather_steps : (o : Option Term) (z : Walk) (l : Text) (ls : List Text) (Next : Represented → Answer → Type 0)
      (Next' : ℕ → Represented → Answer → Type 0) (a : Answer)
      → ((n m : ℕ) → n ≤ m → (v : Represented) → Next' n v a → Next' m v a)
      → ((v : Represented) → Next v a → (n : ℕ) × Next' n v a) → Rules.WalksOn (Rules.Allows s calls) o z l ls Next a
      → (n : ℕ) × Rules.WalksOn (Within n) o z l ls (Next' n) a
  gather_steps None z l ls Next Next' a w f h = gather_step z Next Next' a f h
  gather_steps (Some t) z l ls Next Next' a w f (x, (ne, n, g), h) =
      let k = gather_stored x l ls Next Next' a f h in (
        max n k.0,
        (
          x,
          widen n (max n k.0) (omega arith) t x (ne, g),
          widen_stored k.0 (max n k.0) x l ls (Next' k.0)
              (Next' (max n k.0)) a (w k.0 (max n k.0) (omega arith)) k.1,
        ),
      )

  widen_walks : (a : Answer) → a ≢ limit → (n m : ℕ) → n ≤ m → (ks : List Text) (v : Represented) (k : Text)
      → Rules.Walks (Within n) s.store v k ks a → Rules.Walks (Within m) s.store v k ks a
  widen_walks a na n m e ks v k h =
      keep_walks s calls (Within n) (Within m) (λ u y w _. widen n m e u y w) s.store ks v k a h na

  gather_walks : (a : Answer) → a ≢ limit → (ks : List Text) (v : Represented) (k : Text)
      → Rules.Walks (Rules.Allows s calls) s.store v k ks a → (n : ℕ) × Rules.Walks (Within n) s.store v k ks a
  gather_walks a na [] v k h = (0, h)
  gather_walks a na (l ∷ ls) v k h =
      gather_steps (attribute_residual s.store v k)
      (walk_in s.store (container_of v) (container_expected v) k l ls) l ls
      (λ u. Rules.Walks (Rules.Allows s calls) s.store u l ls) (λ n u. Rules.Walks (Within n) s.store u l ls) a
      (λ n m e u j. widen_walks a na n m e ls u l j) (λ u j. gather_walks a na ls u l j) h

  gather_path : (r : Resolution) (x : Answer) (k : Text) (ks : List Text) (a : Answer) → a ≢ limit
      → Rules.AtPath (Rules.Allows s calls) r s.store x k ks a → (n : ℕ) × Rules.AtPath (Within n) r s.store x k ks a
  gather_path shallow x k ks a na h = (0, h)
  gather_path deep (fails e) k ks a na h = (0, h)
  gather_path deep (answers (value v)) k ks a na h = gather_walks a na ks v k h
  gather_path deep (answers (residual r)) k ks a na h = (0, h)

  gather_projects : (b : Bool) (r : Term) (k : Text) (part : Term) (a : Answer)
      → Rules.Projects (Rules.Allows s calls) b r k part a → (n : ℕ) × Rules.Projects (Within n) b r k part a
  gather_projects true r k part a (ne, n, g) = (n, (ne, g))
  gather_projects false r k part a h = (0, h)

  gather_at_key : (o : Option Term) (fs : Fields) (r : Term) (k : Text) (a : Answer)
      → Rules.AtKey (Rules.Allows s calls) o fs r k a → (n : ℕ) × Rules.AtKey (Within n) o fs r k a
  gather_at_key None fs r k a h = (0, h)
  gather_at_key (Some part) fs r k a h = gather_projects (is_projectable r) r k part a h

  gather_at_fields : (o : Option Fields) (r : Term) (k : Text) (a : Answer)
      → Rules.AtFields (Rules.Allows s calls) o r k a → (n : ℕ) × Rules.AtFields (Within n) o r k a
  gather_at_fields None r k a h = (0, h)
  gather_at_fields (Some fs) r k a h = gather_at_key (term_at k fs) fs r k a h

  gather_attribute : (x : Answer) (k : Text) (a : Answer) → Rules.Then x (Rules.AtAttribute (Rules.Allows s calls) s k) a → (n : ℕ)
      × Rules.Then x (Rules.AtAttribute (Within n) s k) a
  gather_attribute (fails e) k a r = (0, r)
  gather_attribute (answers (value v)) k a r =
      gather_resolves s.resolution (attribute_residual s.store v k) (attribute_answer s v k) a r
  gather_attribute (answers (residual q)) k a r = gather_at_fields (Rules.fields_of_record q) q k a r

  -- both at the greater number of levels
  join_guard : (n m : ℕ) (x : Answer) (c t e : Term) (a : Answer) → a ≢ limit → Within n c x
      → Rules.Then x (Rules.AfterGuard (Within m) t e) a → (k : ℕ) × (y : Answer) × Rules.Runs s calls k c y
      × Rules.Then y (Rules.AfterGuard (Rules.Runs s calls k) t e) a
  join_guard n m x c t e a ne g h = (
    max n m,
    x,
    (widen n (max n m) (omega arith) c x g).1,
    (keep_guard s calls (Within m) (Rules.Runs s calls (max n m))
        (λ u y w _. (widen m (max n m) (omega arith) u y w).1) x t e a h ne).1,
  )

  gather_part : (Rest : Result (List PartialValue) Failure → Type 0)
      (Rest' : ℕ → Result (List PartialValue) Failure → Type 0)
      → ((r : Result (List PartialValue) Failure) → Rest r → (n : ℕ) × Rest' n r)
      → (x : Answer) (r : Result (List PartialValue) Failure) → Rules.AfterPart (Rules.Allows s calls) x Rest r
      → (n : ℕ) × Rules.AfterPart (Within n) x (Rest' n) r
  gather_part Rest Rest' f (fails e) r h = (0, h)
  gather_part Rest Rest' f (answers p) r (q, h, e) = let k = f q h in (k.0, (q, k.1, e))

  gather_field_part : (Rest : Result (List (Text × PartialValue)) Failure → Type 0)
      (Rest' : ℕ → Result (List (Text × PartialValue)) Failure → Type 0)
      → ((r : Result (List (Text × PartialValue)) Failure) → Rest r → (n : ℕ) × Rest' n r)
      → (l : Text) (x : Answer) (r : Result (List (Text × PartialValue)) Failure)
      → Rules.AfterFieldPart (Rules.Allows s calls) l x Rest r → (n : ℕ)
      × Rules.AfterFieldPart (Within n) l x (Rest' n) r
  gather_field_part Rest Rest' f l (fails e) r h = (0, h)
  gather_field_part Rest Rest' f l (answers p) r (q, h, e) = let k = f q h in (k.0, (q, k.1, e))

  -- the parts are widened as a whole: no part is the limit
  part_map : (G H : Rules.MayAnswer) (Rest Rest' : Result (List PartialValue) Failure → Type 0)
      → ((r : Result (List PartialValue) Failure) → Rest r → Rest' r)
      → (x : Answer) (r : Result (List PartialValue) Failure) → Rules.AfterPart G x Rest r → Rules.AfterPart H x Rest' r
  part_map G H Rest Rest' f (fails e) r h = h
  part_map G H Rest Rest' f (answers p) r (q, h, e) = (q, f q h, e)

  parts_map : (G H : Rules.MayAnswer) → ((t : Term) (x : Answer) → G t x → H t x)
      → (ts : Terms) (r : Result (List PartialValue) Failure) → Rules.Parts G ts r → Rules.Parts H ts r
  parts_map G H f no_terms r h = h
  parts_map G H f (one_term t ts) r (x, g, h) =
      (x, f t x g, part_map G H (Rules.Parts G ts) (Rules.Parts H ts) (parts_map G H f ts) x r h)

  field_part_map : (G H : Rules.MayAnswer) (Rest Rest' : Result (List (Text × PartialValue)) Failure → Type 0)
      → ((r : Result (List (Text × PartialValue)) Failure) → Rest r → Rest' r)
      → (l : Text) (x : Answer) (r : Result (List (Text × PartialValue)) Failure) → Rules.AfterFieldPart G l x Rest r
      → Rules.AfterFieldPart H l x Rest' r
  field_part_map G H Rest Rest' f l (fails e) r h = h
  field_part_map G H Rest Rest' f l (answers p) r (q, h, e) = (q, f q h, e)

  field_parts_map : (G H : Rules.MayAnswer) → ((t : Term) (x : Answer) → G t x → H t x)
      → (fs : Fields) (r : Result (List (Text × PartialValue)) Failure) → Rules.FieldParts G fs r
      → Rules.FieldParts H fs r
  field_parts_map G H f no_fields r h = h
  field_parts_map G H f (one_field l t fs) r (x, g, h) = (
    x,
    f t x g,
    field_part_map G H (Rules.FieldParts G fs) (Rules.FieldParts H fs)
        (field_parts_map G H f fs) l x r h,
  )

  gather_parts : (ts : Terms) (r : Result (List PartialValue) Failure) → Rules.Parts (Rules.Allows s calls) ts r
      → (n : ℕ) × Rules.Parts (Within n) ts r
  gather_parts no_terms r h = (0, h)
  gather_parts (one_term t ts) r (x, (ne, n, g), h) =
      let k =
      gather_part (Rules.Parts (Rules.Allows s calls) ts) (λ m. Rules.Parts (Within m) ts)
      (gather_parts ts) x r h in (
        max n k.0,
        (
          x,
          widen n (max n k.0) (omega arith) t x (ne, g),
          part_map (Within k.0) (Within (max n k.0))
              (Rules.Parts (Within k.0) ts) (Rules.Parts (Within (max n k.0)) ts)
              (parts_map (Within k.0) (Within (max n k.0)) (widen k.0 (max n k.0) (omega arith)) ts) x r k.1,
        ),
      )

  gather_field_parts : (fs : Fields) (r : Result (List (Text × PartialValue)) Failure)
      → Rules.FieldParts (Rules.Allows s calls) fs r → (n : ℕ) × Rules.FieldParts (Within n) fs r
  gather_field_parts no_fields r h = (0, h)
  gather_field_parts (one_field l t fs) r (x, (ne, n, g), h) =
      let k =
      gather_field_part (Rules.FieldParts (Rules.Allows s calls) fs) (λ m. Rules.FieldParts (Within m) fs)
      (gather_field_parts fs) l x r h in (
        max n k.0,
        (
          x,
          widen n (max n k.0) (omega arith) t x (ne, g),
          field_part_map (Within k.0) (Within (max n k.0))
              (Rules.FieldParts (Within k.0) fs) (Rules.FieldParts (Within (max n k.0)) fs)
              (field_parts_map (Within k.0) (Within (max n k.0)) (widen k.0 (max n k.0) (omega arith)) fs) l x r k.1,
        ),
      )

  forget : (n : ℕ) (t : Term) (a : Answer) → Within n t a → Rules.Runs s calls n t a
  forget n t a w = w.1

  -- a first part within n levels, and what follows it within m, are within the greater number
  both_within : (n m : ℕ) (t : Term) (a : Answer) → Within m t a → Rules.Runs s calls (max n m) t a
  both_within n m t a w = (widen m (max n m) (omega arith) t a w).1

  first_within : (n m : ℕ) (t : Term) (a : Answer) → a ≢ limit → Rules.Runs s calls n t a
      → Rules.Runs s calls (max n m) t a
  first_within n m t a ne r = more_levels n (max n m) t a (omega arith) r ne

  keeps : (n m : ℕ) (t : Term) (a : Answer) → Within m t a → a ≢ limit → Rules.Runs s calls (max n m) t a
  keeps n m t a w ne = both_within n m t a w

  gather : (t : Term) (a : Answer) → a ≢ limit → Rules.Rule s calls (Rules.Allows s calls) t a → (n : ℕ)
      × Rules.Rule s calls (Rules.Runs s calls n) t a
  gather (literal l) a na r = (0, r)
  gather (variable v) a na r = (0, r)
  gather (slot i) a na r = (0, r)
  gather (unknown m t) a na r = (0, r)
  gather (if_then_else c t e) a na (x, (ne, n, g), h) =
      let k = gather_guard x t e a h in (
        max n k.0,
        (
          x,
          first_within n k.0 c x ne g,
          (keep_guard s calls (Within k.0) (Rules.Runs s calls (max n k.0)) (keeps n k.0) x t e a k.1 na).1,
        ),
      )
  gather (both t u) a na (x, (ne, n, g), h) =
      let k = gather_and x u a h in (
        max n k.0,
        (
          x,
          first_within n k.0 t x ne g,
          (keep_and s calls (Within k.0) (Rules.Runs s calls (max n k.0)) (keeps n k.0) x u a k.1 na).1,
        ),
      )
  gather (either t u) a na (x, (ne, n, g), h) =
      let k = gather_or x u a h in (
        max n k.0,
        (
          x,
          first_within n k.0 t x ne g,
          (keep_or s calls (Within k.0) (Rules.Runs s calls (max n k.0)) (keeps n k.0) x u a k.1 na).1,
        ),
      )
  gather (unary op t) a na (x, (ne, n, g), e) = (n, (x, g, e))
  gather (binary op t u) a na (x, (ne, n, g), h) =
      let k = gather_left op x u a h in (
        max n k.0,
        (
          x,
          first_within n k.0 t x ne g,
          (keep_left s calls (Within k.0) (Rules.Runs s calls (max n k.0)) (keeps n k.0) op x u a k.1 na).1,
        ),
      )
  gather (call f ts) a na (r, g, h) =
      let k = gather_parts ts r g in
      (k.0, (r, parts_map (Within k.0) (Rules.Runs s calls k.0) (forget k.0) ts r k.1, h))
  gather (get_attribute t l) a na (x, (ne, n, g), h) =
      let k = gather_attribute x l a h in (
        max n k.0,
        (
          x,
          first_within n k.0 t x ne g,
          (keep_attribute s calls (Within k.0) (Rules.Runs s calls (max n k.0)) (keeps n k.0) x l a k.1 na).1,
        ),
      )
  gather (has_attribute t k) a na (x, (ne, n, g), e) = (n, (x, g, e))
  gather (extended_has t l ls) a na (x, (ne, n, g), h) =
      let k = gather_path s.resolution x l ls a na h in (
        max n k.0,
        (
          x,
          first_within n k.0 t x ne g,
          (keep_path s calls (Within k.0) (Rules.Runs s calls (max n k.0))
              (keeps n k.0) s.resolution x l ls a k.1 na).1,
        ),
      )
  gather (like t p) a na (x, (ne, n, g), e) = (n, (x, g, e))
  gather (is_of_type t m) a na (x, (ne, n, g), e) = (n, (x, g, e))
  gather (set_of ts) a na (r, g, e) =
      let k = gather_parts ts r g in
      (k.0, (r, parts_map (Within k.0) (Rules.Runs s calls k.0) (forget k.0) ts r k.1, e))
  gather (record_of fs) a na (r, g, e) =
      let k = gather_field_parts fs r g in
      (k.0, (r, field_parts_map (Within k.0) (Rules.Runs s calls k.0) (forget k.0) fs r k.1, e))

  pub rule_is_allowed : (t : Term) (a : Answer) → a ≢ limit → Rules.Rule s calls (Rules.Allows s calls) t a
      → Rules.Allows s calls t a
  rule_is_allowed t a ne r = let k = gather t a ne r in (ne, suc k.0, k.1)
