-- Where each stored function has one answer to the same arguments, so has each expression.
use Rattle.std.specs.Prelude.{◌≡◌, ℕ, zero, suc, ◌==◌, Bool, true, false, List, [], ◌∷◌, length, Option, Some, None, Result, Ok, Err}
use Rattle.std.proofs.Common.{sym, ap, ◌∙◌, subst}
use Rattle.cedar_model.specs.Terms.{Text, BinaryOperator, bool_literal, Term, literal, variable, slot, unknown, if_then_else, both, either}
use Rattle.cedar_model.specs.Terms.{unary, binary, call, get_attribute, has_attribute, extended_has, like, is_of_type}
use Rattle.cedar_model.specs.Terms.{set_of, record_of, Terms, no_terms, one_term, Fields, no_fields, one_field}
use Rattle.cedar_model.specs.Values.{Represented, abstract_value}
use Rattle.cedar_model.specs.Outcomes.{bool_of}
use Rattle.cedar_model.specs.Shapes.{is_projectable}
use Rattle.cedar_model.specs.Failures.{Failure, PartialValue, value, residual, Answer, answers, fails, answers_residual}
use Rattle.cedar_model.specs.Settings.{Resolution, shallow, deep, Setting}
use Rattle.cedar_model.specs.Policies.{Policy, ErrorHandling}
use Rattle.cedar_model.specs.Operators.{Walk, walks_on, stops, attribute_residual, attribute_answer, unary_answer, like_answer, container_of, container_expected, walk_in, term_at}
use Rattle.cedar_model.specs.Responses.{Row, decided, error_of, with_slots, with_error, row_of, RunOf}
use Rattle.cedar_model.specs.Rules
use Rattle.cedar_laws.specs.EqualRuns.{HaveOneAnswer}

-- two that are the same as a third
pub both_are : {A : Type 0} (a b c : A) → a ≡ c → b ≡ c → a ≡ b
both_are a b c h k = h ∙ sym k

-- goes on alike after best effort
best_one : (o : Rules.Best) (Next : Term → Answer → Type 0) → ((t : Term) (a b : Answer) → Next t a → Next t b → a ≡ b)
    → (a b : Answer) → Rules.AfterBest o Next a → Rules.AfterBest o Next b → a ≡ b
best_one (Rules.kept t) Next next a b h k = next t a b h k
best_one (Rules.handed_up e) Next next a b h k = both_are a b _ h k

module _ (s : Setting) (calls : Rules.StoredCalls) (one_call : HaveOneAnswer calls) (G : Rules.MayAnswer)
    (one : (t : Term) (a b : Answer) → G t a → G t b → a ≡ b) where
  -- what follows of the one answer of a part
  through : {A : Type 0} (t : Term) (F : Answer → A → Type 0) → ((x : Answer) (a b : A) → F x a → F x b → a ≡ b)
      → (a b : A) → ((x : Answer) × G t x × F x a) → ((y : Answer) × G t y × F y b) → a ≡ b
  through t F after a b (x, g, h) (y, j, k) = after y a b (subst (λ z. F z a) (one t x y g j) h) k

  by_part : (f : Answer → Answer) (t : Term) (a b : Answer) → ((x : Answer) × G t x × (a ≡ f x))
      → ((y : Answer) × G t y × (b ≡ f y)) → a ≡ b
  by_part f t a b (x, g, h) (y, j, k) = both_are a b (f y) (h ∙ ap f (one t x y g j)) k

  -- ---- guards and connectives

  takes_one : (o : Option Bool) (v : Represented) (t e : Term) (a b : Answer) → Rules.TakesBranch G o v t e a
      → Rules.TakesBranch G o v t e b → a ≡ b
  takes_one None v t e a b h k = both_are a b _ h k
  takes_one (Some true) v t e a b h k = one t a b h k
  takes_one (Some false) v t e a b h k = one e a b h k

  branches_one : (r t e : Term) (a b : Answer) → Rules.KeepsBranches G r t e a → Rules.KeepsBranches G r t e b → a ≡ b
  branches_one r t e a b h k =
      through t
      (λ x c. Rules.AfterBest (Rules.best x t) (λ t' d. (y : Answer) × G e y × Rules.AfterBest (Rules.best y e) (λ e' z. z ≡ answers_residual (if_then_else r t' e')) d) c)
      (λ x c d. best_one (Rules.best x t) _ (λ t' p q.
      through e (λ y z. Rules.AfterBest (Rules.best y e) (λ e' u. u ≡ answers_residual (if_then_else r t' e')) z)
      (λ y u w. best_one (Rules.best y e) _ (λ e' m n f g. both_are m n _ f g) u w) p q) c d) a b h k

  guard_one : (x : Answer) (t e : Term) (a b : Answer) → Rules.Then x (Rules.AfterGuard G t e) a → Rules.Then x (Rules.AfterGuard G t e) b → a ≡ b
  guard_one (fails f) t e a b h k = both_are a b _ h k
  guard_one (answers (value v)) t e a b h k = takes_one (bool_of (abstract_value v)) v t e a b h k
  guard_one (answers (residual r)) t e a b h k = branches_one r t e a b h k

  reads_one : (with_left : Term → Term) (t : Term) (a b : Answer) → Rules.ReadsRight G with_left t a
      → Rules.ReadsRight G with_left t b → a ≡ b
  reads_one with_left t a b h k =
      by_part (Rules.joined with_left) t a b h k

  right_one : (with_left : Term → Term) (t : Term) (a b : Answer) → Rules.KeepsRight G with_left t a
      → Rules.KeepsRight G with_left t b → a ≡ b
  right_one with_left t a b h k =
      through t (λ x c. Rules.AfterBest (Rules.best x t) (λ t' d. d ≡ answers_residual (with_left t')) c)
      (λ x c d. best_one (Rules.best x t) _ (λ t' p q f g. both_are p q _ f g) c d) a b h k

  and_left_one : (o : Option Bool) (v : Represented) (t : Term) (a b : Answer) → Rules.AndLeft G o v t a
      → Rules.AndLeft G o v t b → a ≡ b
  and_left_one None v t a b h k = both_are a b _ h k
  and_left_one (Some true) v t a b h k = reads_one (both (literal (bool_literal true))) t a b h k
  and_left_one (Some false) v t a b h k = both_are a b _ h k

  and_one : (x : Answer) (t : Term) (a b : Answer) → Rules.Then x (Rules.AfterAndLeft G t) a → Rules.Then x (Rules.AfterAndLeft G t) b → a ≡ b
  and_one (fails e) t a b h k = both_are a b _ h k
  and_one (answers (value v)) t a b h k = and_left_one (bool_of (abstract_value v)) v t a b h k
  and_one (answers (residual r)) t a b h k = right_one (both r) t a b h k

  or_left_one : (o : Option Bool) (v : Represented) (t : Term) (a b : Answer) → Rules.OrLeft G o v t a
      → Rules.OrLeft G o v t b → a ≡ b
  or_left_one None v t a b h k = both_are a b _ h k
  or_left_one (Some true) v t a b h k = both_are a b _ h k
  or_left_one (Some false) v t a b h k = reads_one (either (literal (bool_literal false))) t a b h k

  or_one : (x : Answer) (t : Term) (a b : Answer) → Rules.Then x (Rules.AfterOrLeft G t) a → Rules.Then x (Rules.AfterOrLeft G t) b → a ≡ b
  or_one (fails e) t a b h k = both_are a b _ h k
  or_one (answers (value v)) t a b h k = or_left_one (bool_of (abstract_value v)) v t a b h k
  or_one (answers (residual r)) t a b h k = right_one (either r) t a b h k

  -- ---- operators and attributes

  resolves_one : (q : Resolution) (o : Option Term) (stored a b : Answer) → Rules.Resolves G q o stored a
      → Rules.Resolves G q o stored b → a ≡ b
  resolves_one shallow o stored a b h k = both_are a b _ h k
  resolves_one deep None stored a b h k = both_are a b _ h k
  resolves_one deep (Some t) stored a b h k = one t a b h k

  left_one : (op : BinaryOperator) (x : Answer) (t : Term) (a b : Answer) → Rules.Then x (Rules.AfterLeft G s op t) a
      → Rules.Then x (Rules.AfterLeft G s op t) b → a ≡ b
  left_one op (fails e) t a b h k = both_are a b _ h k
  left_one op (answers p) t a b h k =
      through t (λ y c. Rules.Resolves G s.resolution (Rules.beside_residual s.store op p y) (Rules.binary_beside s op p y) c)
      (λ y c d. resolves_one s.resolution (Rules.beside_residual s.store op p y) (Rules.binary_beside s op p y) c d) a b h k

  projects_one : (p : Bool) (r : Term) (n : Text) (part : Term) (a b : Answer) → Rules.Projects G p r n part a
      → Rules.Projects G p r n part b → a ≡ b
  projects_one true r n part a b h k = one part a b h k
  projects_one false r n part a b h k = both_are a b _ h k

  key_one : (o : Option Term) (fs : Fields) (r : Term) (n : Text) (a b : Answer) → Rules.AtKey G o fs r n a
      → Rules.AtKey G o fs r n b → a ≡ b
  key_one None fs r n a b h k = both_are a b _ h k
  key_one (Some part) fs r n a b h k = projects_one (is_projectable r) r n part a b h k

  fields_one : (o : Option Fields) (r : Term) (n : Text) (a b : Answer) → Rules.AtFields G o r n a
      → Rules.AtFields G o r n b → a ≡ b
  fields_one None r n a b h k = both_are a b _ h k
  fields_one (Some fs) r n a b h k = key_one (term_at n fs) fs r n a b h k

  attribute_one : (x : Answer) (n : Text) (a b : Answer) → Rules.Then x (Rules.AtAttribute G s n) a → Rules.Then x (Rules.AtAttribute G s n) b → a ≡ b
  attribute_one (fails e) n a b h k = both_are a b _ h k
  attribute_one (answers (value v)) n a b h k =
      resolves_one s.resolution (attribute_residual s.store v n) (attribute_answer s v n) a b h k
  attribute_one (answers (residual r)) n a b h k = fields_one (Rules.fields_of_record r) r n a b h k

  -- ---- extended `has`

  walk_one : (w : Walk) (Next : Represented → Answer → Type 0)
      → ((v : Represented) (a b : Answer) → Next v a → Next v b → a ≡ b) → (a b : Answer) → Rules.AfterWalk G w Next a
      → Rules.AfterWalk G w Next b → a ≡ b
  walk_one (walks_on v) Next next a b h k = next v a b h k
  walk_one (stops z) Next next a b h k = both_are a b _ h k

  stored_one : (x : Answer) (l : Text) (ls : List Text) (Next : Represented → Answer → Type 0)
      → ((v : Represented) (a b : Answer) → Next v a → Next v b → a ≡ b) → (a b : Answer)
      → Rules.AfterStored G x l ls Next a → Rules.AfterStored G x l ls Next b → a ≡ b
  stored_one (fails e) l ls Next next a b h k = both_are a b _ h k
  stored_one (answers (value v)) l ls Next next a b h k = next v a b h k
  stored_one (answers (residual r)) l ls Next next a b h k = both_are a b _ h k

  walks_on_one : (o : Option Term) (w : Walk) (l : Text) (ls : List Text) (Next : Represented → Answer → Type 0)
      → ((v : Represented) (a b : Answer) → Next v a → Next v b → a ≡ b) → (a b : Answer)
      → Rules.WalksOn G o w l ls Next a → Rules.WalksOn G o w l ls Next b → a ≡ b
  walks_on_one None w l ls Next next a b h k = walk_one w Next next a b h k
  walks_on_one (Some t) w l ls Next next a b h k =
      through t (λ x c. Rules.AfterStored G x l ls Next c) (λ x c d. stored_one x l ls Next next c d) a b h k

  walks_one : (ks : List Text) (v : Represented) (n : Text) (a b : Answer) → Rules.Walks G s.store v n ks a
      → Rules.Walks G s.store v n ks b → a ≡ b
  walks_one [] v n a b h k = both_are a b _ h k
  walks_one (l ∷ ls) v n a b h k =
      walks_on_one (attribute_residual s.store v n) (walk_in s.store (container_of v) (container_expected v) n l ls) l ls
      (λ u c. Rules.Walks G s.store u l ls c) (λ u c d. walks_one ls u l c d) a b h k

  path_from_one : (x : Answer) (n : Text) (ks : List Text) (a b : Answer) → Rules.Then x (Rules.WalksFrom G s.store n ks) a
      → Rules.Then x (Rules.WalksFrom G s.store n ks) b → a ≡ b
  path_from_one (fails e) n ks a b h k = both_are a b _ h k
  path_from_one (answers (value v)) n ks a b h k = walks_one ks v n a b h k
  path_from_one (answers (residual r)) n ks a b h k = both_are a b _ h k

  path_one : (q : Resolution) (x : Answer) (n : Text) (ks : List Text) (a b : Answer) → Rules.AtPath G q s.store x n ks a
      → Rules.AtPath G q s.store x n ks b → a ≡ b
  path_one shallow x n ks a b h k = both_are a b _ h k
  path_one deep x n ks a b h k = path_from_one x n ks a b h k

  -- ---- parts in order

  after_part : (x : Answer) (Rest : Result (List PartialValue) Failure → Type 0)
      → ((r z : Result (List PartialValue) Failure) → Rest r → Rest z → r ≡ z) → (r z : Result (List PartialValue) Failure)
      → Rules.AfterPart G x Rest r → Rules.AfterPart G x Rest z → r ≡ z
  after_part (fails e) Rest rest r z h k = both_are r z _ h k
  after_part (answers p) Rest rest r z (m, g, h) (n, j, k) =
      both_are r z (Rules.part_then p n) (h ∙ ap (Rules.part_then p) (rest m n g j)) k

  parts_one : (ts : Terms) (r z : Result (List PartialValue) Failure) → Rules.Parts G ts r → Rules.Parts G ts z → r ≡ z
  parts_one no_terms r z h k = both_are r z _ h k
  parts_one (one_term t ts) r z h k =
      through t (λ x o. Rules.AfterPart G x (Rules.Parts G ts) o)
      (λ x o p. after_part x (Rules.Parts G ts) (parts_one ts) o p) r z h k

  after_field_part : (n : Text) (x : Answer) (Rest : Result (List (Text × PartialValue)) Failure → Type 0)
      → ((r z : Result (List (Text × PartialValue)) Failure) → Rest r → Rest z → r ≡ z)
      → (r z : Result (List (Text × PartialValue)) Failure) → Rules.AfterFieldPart G n x Rest r
      → Rules.AfterFieldPart G n x Rest z → r ≡ z
  after_field_part n (fails e) Rest rest r z h k = both_are r z _ h k
  after_field_part n (answers p) Rest rest r z (m, g, h) (q, j, k) =
      both_are r z (Rules.field_part_then n p q) (h ∙ ap (Rules.field_part_then n p) (rest m q g j)) k

  field_parts_one : (fs : Fields) (r z : Result (List (Text × PartialValue)) Failure) → Rules.FieldParts G fs r
      → Rules.FieldParts G fs z → r ≡ z
  field_parts_one no_fields r z h k = both_are r z _ h k
  field_parts_one (one_field n t fs) r z h k =
      through t (λ x o. Rules.AfterFieldPart G n x (Rules.FieldParts G fs) o)
      (λ x o p. after_field_part n x (Rules.FieldParts G fs) (field_parts_one fs) o p) r z h k

  -- ---- calls

  counts_one : (o : Bool) (n : ℕ) (f : Text) (vs : List Represented) (a b : Answer) → Rules.Counts calls o n f vs a
      → Rules.Counts calls o n f vs b → a ≡ b
  counts_one true n f vs a b h k = one_call f vs a b h k
  counts_one false n f vs a b h k = both_are a b _ h k

  looks_one : (o : Option ℕ) (f : Text) (vs : List Represented) (a b : Answer) → Rules.LooksUp calls o f vs a
      → Rules.LooksUp calls o f vs b → a ≡ b
  looks_one None f vs a b h k = both_are a b _ h k
  looks_one (Some n) f vs a b h k = counts_one (length vs == n) n f vs a b h k

  values_one : (o : Option (List Represented)) (f : Text) (ps : List PartialValue) (a b : Answer)
      → Rules.AfterValues calls s.extensions.arity o f ps a → Rules.AfterValues calls s.extensions.arity o f ps b → a ≡ b
  values_one None f ps a b h k = both_are a b _ h k
  values_one (Some vs) f ps a b h k = looks_one (s.extensions.arity f) f vs a b h k

  arguments_one : (r : Result (List PartialValue) Failure) (f : Text) (a b : Answer)
      → Rules.AfterArguments calls s.extensions.arity f r a → Rules.AfterArguments calls s.extensions.arity f r b → a ≡ b
  arguments_one (Err e) f a b h k = both_are a b _ h k
  arguments_one (Ok ps) f a b h k = values_one (Rules.values_of_parts ps) f ps a b h k

  -- ---- one layer

  pub rule_one : (t : Term) (a b : Answer) → Rules.Rule s calls G t a → Rules.Rule s calls G t b → a ≡ b
  rule_one (literal l) a b h k = both_are a b _ h k
  rule_one (variable v) a b h k = both_are a b _ h k
  rule_one (slot i) a b h k = both_are a b _ h k
  rule_one (unknown n t) a b h k = both_are a b _ h k
  rule_one (if_then_else c t e) a b h k =
      through c (λ x d. Rules.Then x (Rules.AfterGuard G t e) d) (λ x d f. guard_one x t e d f) a b h k
  rule_one (both t u) a b h k = through t (λ x d. Rules.Then x (Rules.AfterAndLeft G u) d) (λ x d e. and_one x u d e) a b h k
  rule_one (either t u) a b h k = through t (λ x d. Rules.Then x (Rules.AfterOrLeft G u) d) (λ x d e. or_one x u d e) a b h k
  rule_one (unary op t) a b h k = by_part (Rules.on_part (unary_answer op) (unary op)) t a b h k
  rule_one (binary op t u) a b h k = through t (λ x d. Rules.Then x (Rules.AfterLeft G s op u) d) (λ x d e. left_one op x u d e) a b h k
  rule_one (call f ts) a b (r, g, h) (z, j, k) =
      arguments_one z f a b (subst (λ o. Rules.AfterArguments calls s.extensions.arity f o a) (parts_one ts r z g j) h) k
  rule_one (get_attribute t n) a b h k =
      through t (λ x d. Rules.Then x (Rules.AtAttribute G s n) d) (λ x d e. attribute_one x n d e) a b h k
  rule_one (has_attribute t n) a b h k = by_part (Rules.has_part s n) t a b h k
  rule_one (extended_has t n ns) a b h k =
      through t (λ x d. Rules.AtPath G s.resolution s.store x n ns d) (λ x d e. path_one s.resolution x n ns d e) a b h k
  rule_one (like t p) a b h k = by_part (Rules.on_part (like_answer p) (λ r. like r p)) t a b h k
  rule_one (is_of_type t n) a b h k = by_part (Rules.is_part n) t a b h k
  rule_one (set_of ts) a b (r, g, h) (z, j, k) = both_are a b _ (h ∙ ap Rules.set_answer (parts_one ts r z g j)) k
  rule_one (record_of fs) a b (r, g, h) (z, j, k) =
      both_are a b _ (h ∙ ap Rules.record_answer (field_parts_one fs r z g j)) k

-- ---- levels and runs

module _ (calls : Rules.StoredCalls) (one_call : HaveOneAnswer calls) where
  pub one_answer : (s : Setting) (levels : ℕ) (t : Term) (a b : Answer) → Rules.Runs s calls levels t a
      → Rules.Runs s calls levels t b → a ≡ b
  one_answer s zero t a b h k = both_are a b _ h k
  one_answer s (suc n) t a b h k = rule_one s calls one_call (Rules.Runs s calls n) (one_answer s n) t a b h k

  pub runs_equal : (mode : ErrorHandling) (s : Setting) (levels : ℕ) (ps : List Policy) (rows others : List Row)
      (errors other_errors : List (Text × Failure)) → RunOf mode s calls levels ps rows errors
      → RunOf mode s calls levels ps others other_errors → (rows ≡ others) × (errors ≡ other_errors)
  runs_equal mode s levels [] rows others errors other_errors (e, f) (g, h) = (both_are rows others _ e g, both_are errors other_errors _ f h)
  runs_equal mode s levels (p ∷ ps) rows others errors other_errors (a, rest, later, r, found, j, e, f) (b, rest', later', r', found', j', e', f') =
      let same : a ≡ b = one_answer (with_slots s p.slots) levels p.condition a b r r' in
      let k = runs_equal mode s levels ps rest rest' later later' j j' in (
        e ∙ (λ i. row_of mode p (same i) ∷ k.0 i) ∙ sym e',
        f ∙ (λ i. with_error p.id (error_of (decided (same i))) (k.1 i)) ∙ sym f',
      )
