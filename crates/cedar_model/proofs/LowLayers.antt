-- What a layer of the rules answers is no higher than the expression and the bound, where its parts are so.
use Rattle.std.specs.Prelude.{◌≡◌, ℕ, suc, ◌+◌, ◌≤◌, max, Bool, true, false}
use Rattle.std.specs.Prelude.{List, Option, Some, None, Result, Ok, Err}
use Rattle.std.proofs.Common.{refl, subst, sym, arith}
use Rattle.cedar_model.specs.Terms.{Text, Literal, bool_literal}
use Rattle.cedar_model.specs.Terms.{UnaryOperator, BinaryOperator}
use Rattle.cedar_model.specs.Terms.{PatternPart, Term, literal, variable, slot, unknown, if_then_else}
use Rattle.cedar_model.specs.Terms.{both, either, unary, binary, call, get_attribute, has_attribute, extended_has}
use Rattle.cedar_model.specs.Terms.{like, is_of_type, set_of, record_of, Terms, no_terms, one_term, Fields}
use Rattle.cedar_model.specs.Terms.{no_fields, one_field}
use Rattle.cedar_model.specs.Values.{Represented}
use Rattle.cedar_model.specs.Values.{abstract_value}
use Rattle.cedar_model.specs.Shapes.{is_projectable, is_restricted}
use Rattle.cedar_model.specs.Outcomes.{bool_of}
use Rattle.cedar_model.specs.Failures.{Failure}
use Rattle.cedar_model.specs.Failures.{PartialValue, value, residual, Answer, answers}
use Rattle.cedar_model.specs.Failures.{fails}
use Rattle.cedar_model.specs.Settings.{Resolution, shallow, deep, Setting}
use Rattle.cedar_model.specs.Settings.{variable_part}
use Rattle.cedar_model.specs.Operators
use Rattle.cedar_model.specs.Rules
use Rattle.cedar_model.specs.Agreement.{height, greatest_height, greatest_height_at}
use Rattle.cedar_model.specs.Chains.{Mapping, substituted}
use Rattle.cedar_model.specs.Restricted.{IsGivenSound}
use Rattle.cedar_model.specs.Depth.{IsNoHigher, IsWithin}
use Rattle.cedar_model.proofs.Operands as operands
use Rattle.cedar_model.proofs.RecordParts.{projectable_part, restricted_part}
use Rattle.cedar_model.proofs.Resolving as resolving
use Rattle.cedar_model.proofs.Resolving.{IsStored, attribute_is_stored, beside_is_stored}
use Rattle.cedar_model.proofs.Heights as heights
use Rattle.cedar_model.proofs.Heights.{value_plain, positive, lower}
use Rattle.cedar_model.proofs.LowParts
use Rattle.cedar_model.proofs.LowParts.{AnyFailure, raise, by_equal, by_failure, low_bool, ResultLow, ResultLowAt, set_low, record_low, part_of_record, AnswersLow, EachAnswersLow, EachAnswersLowAt}
use Rattle.cedar_model.proofs.LowOperands.{unknown_low, mapped_below, facts, mapped_unknown, slot_low, variable_low, best_low, joined_low, on_part_low, beside_low, has_low, is_low, arguments_low}

module _ (m : Mapping) where
  abbrev h : Term → ℕ
  h t = height (substituted m t)

  abbrev Low : ℕ → Term → Type 0
  Low = LowParts.Low m

  abbrev LowValue : ℕ → Represented → Type 0
  LowValue = LowParts.LowValue m

  abbrev LowAnswer : ℕ → Answer → Type 0
  LowAnswer = LowParts.LowAnswer m

  abbrev LowPart : ℕ → PartialValue → Type 0
  LowPart = LowParts.LowPart m

  module _ (s : Setting) (calls : Rules.StoredCalls) (b : ℕ) (within : IsWithin s.map m)
      (sound : IsGivenSound calls s) (low : IsNoHigher calls s m b) where
    module _ (G : Rules.MayAnswer) where
      pub then_low : (n : ℕ) (p : PartialValue) (r : Result (List PartialValue) Failure) → LowPart n p → ResultLow m n r →
          ResultLow m n (Rules.part_then p r)
      unfolding Rules.part_then
      then_low n p (Err e) f g = tt
      then_low n p (Ok ps) f g = (f, g)

      pub after_low : (n : ℕ) (Rest : Result (List PartialValue) Failure → Type 0) →
          ((r : Result (List PartialValue) Failure) → Rest r → ResultLow m n r) →
          (x : Answer) (r : Result (List PartialValue) Failure) → LowAnswer n x → Rules.AfterPart G x Rest r →
          ResultLow m n r
      after_low n Rest f (fails e) r g k = subst (ResultLow m n) (sym k) tt
      after_low n Rest f (answers p) r g (q, k, e) = subst (ResultLow m n) (sym e) (then_low n p q g (f q k))

      pub parts_low : (n : ℕ) (ts : Terms) (r : Result (List PartialValue) Failure) → EachAnswersLow m G n ts →
          Rules.Parts G ts r → ResultLow m n r
      parts_low n no_terms r f g = subst (ResultLow m n) (sym g) tt
      parts_low n (one_term t ts) r (f, fs) (x, g, k) =
          after_low n (Rules.Parts G ts) (λ q j. parts_low n ts q fs j) x r (f x g) k

      pub field_then_low : (n : ℕ) (k : Text) (p : PartialValue) (r : Result (List (Text × PartialValue)) Failure) →
          LowPart n p → ResultLowAt m n r → ResultLowAt m n (Rules.field_part_then k p r)
      unfolding Rules.field_part_then
      field_then_low n k p (Err e) f g = tt
      field_then_low n k p (Ok ps) f g = (f, g)

      pub after_low_at : (n : ℕ) (l : Text) (Rest : Result (List (Text × PartialValue)) Failure → Type 0) →
          ((r : Result (List (Text × PartialValue)) Failure) → Rest r → ResultLowAt m n r) →
          (x : Answer) (r : Result (List (Text × PartialValue)) Failure) → LowAnswer n x →
          Rules.AfterFieldPart G l x Rest r → ResultLowAt m n r
      after_low_at n l Rest f (fails e) r g k = subst (ResultLowAt m n) (sym k) tt
      after_low_at n l Rest f (answers p) r g (q, k, e) =
          subst (ResultLowAt m n) (sym e) (field_then_low n l p q g (f q k))

      pub field_parts_low : (n : ℕ) (fs : Fields) (r : Result (List (Text × PartialValue)) Failure) →
          EachAnswersLowAt m G n fs → Rules.FieldParts G fs r → ResultLowAt m n r
      field_parts_low n no_fields r f g = subst (ResultLowAt m n) (sym g) tt
      field_parts_low n (one_field l t fs) r (f, gs) (x, g, k) =
          after_low_at n l (Rules.FieldParts G fs) (λ q j. field_parts_low n fs q gs j) x r (f x g) k

      module _ (ih : (t : Term) → AnswersLow m G (height t + b) t) (plain : (t : Term) → is_projectable t ≡ true →
          is_restricted t ≡ true → AnswersLow m G (h t) t) (read : s.resolution ≡ deep → (t : Term) → IsStored s.store t →
          AnswersLow m G b t) where
        -- a stored residual that is read, with a greater bound
        pub read_low : (n : ℕ) (o : Option Term) (x a : Answer) → b ≤ n → ((t : Term) → o ≡ Some t →
            IsStored s.store t) → LowAnswer n x → Rules.Resolves G s.resolution o x a → LowAnswer n a
        read_low n o x a e i f k =
            resolving.resolved G (LowAnswer n) s.resolution o x a f
            (λ t d j g. raise m b n e a (read d t (i t j) a g)) k

        -- the part's answer, with a greater bound
        pub part : (n : ℕ) (t : Term) → height t + b ≤ n → AnswersLow m G n t
        part n t e x g = raise m (height t + b) n e x (ih t x g)

        pub kept_term : (n : ℕ) (t : Term) → height t + b ≤ n → h t ≤ n
        kept_term n t e = lower (h t) (height t + b) n (heights.added m b low.mapped_low t) e

        pub each_part : (n : ℕ) (ts : Terms) → greatest_height ts + b ≤ n → EachAnswersLow m G n ts
        each_part n no_terms e = tt
        each_part n (one_term t ts) e = (part n t (omega arith), each_part n ts (omega arith))

        pub each_part_at : (n : ℕ) (fs : Fields) → greatest_height_at fs + b ≤ n → EachAnswersLowAt m G n fs
        each_part_at n no_fields e = tt
        each_part_at n (one_field k t fs) e = (part n t (omega arith), each_part_at n fs (omega arith))

        pub takes_low : (n : ℕ) (c : Option Bool) (v : Represented) (t e : Term) (a : Answer) → height t + b ≤ n →
            height e + b ≤ n → Rules.TakesBranch G c v t e a → LowAnswer (suc n) a
        takes_low n None v t e a p q r = by_failure m (suc n) a _ r
        takes_low n (Some true) v t e a p q r = part (suc n) t (omega arith) a r
        takes_low n (Some false) v t e a p q r = part (suc n) e (omega arith) a r

        pub branches_low : (n : ℕ) (r t e : Term) (a : Answer) → h r ≤ n → height t + b ≤ n → height e + b ≤ n →
            Rules.KeepsBranches G r t e a → LowAnswer (suc n) a
        unfolding substituted
        branches_low n r t e a f p q (x, g, k) =
            best_low m s calls b within sound low n x t _ a (LowAnswer (suc n) a) (part n t p x g) (kept_term n t p) k (λ t' ht (
              y,
              j,
              l,
            ). best_low m s calls b within sound low n y e _ a (LowAnswer (suc n) a) (part n e q y j) (kept_term n e q) l
            (λ e' he i. by_equal m (suc n) a _ i (
              omega arith,
              λ z. absurd (cc),
            )) (λ i j'. by_failure m (suc n) a i j')) (λ i j'. by_failure m (suc n) a i j')

        pub guard_low : (n : ℕ) (x : Answer) (t e : Term) (a : Answer) → LowAnswer n x → height t + b ≤ n →
            height e + b ≤ n → Rules.Then x (Rules.AfterGuard G t e) a → LowAnswer (suc n) a
        guard_low n (fails f) t e a g p q r = by_failure m (suc n) a f r
        guard_low n (answers (value v)) t e a g p q r = takes_low n (bool_of (abstract_value v)) v t e a p q r
        guard_low n (answers (residual z)) t e a g p q r = branches_low n z t e a g.0 p q r

        pub right_low : (n : ℕ) (f : Term → Term) → ((r : Term) → h r ≤ n → Low (suc n) (f r)) → (t : Term) (a : Answer) →
            height t + b ≤ n → Rules.ReadsRight G f t a → LowAnswer (suc n) a
        right_low n f k t a p (x, g, e) = by_equal m (suc n) a _ e (joined_low m s calls b within sound low n f k x (part n t p x g))

        pub kept_low : (n : ℕ) (f : Term → Term) → ((r : Term) → h r ≤ n → Low (suc n) (f r)) → (t : Term) (a : Answer) →
            height t + b ≤ n → Rules.KeepsRight G f t a → LowAnswer (suc n) a
        kept_low n f k t a p (x, g, l) =
            best_low m s calls b within sound low n x t _ a (LowAnswer (suc n) a) (part n t p x g) (kept_term n t p) l
            (λ u hu i. by_equal m (suc n) a _ i (k u hu)) (λ i j. by_failure m (suc n) a i j)

        pub both_beside : (n : ℕ) (q r : Term) → h q ≤ n → h r ≤ n → Low (suc n) (both q r)
        unfolding substituted
        both_beside n q r e f = (omega arith, λ p. absurd (cc))

        pub either_beside : (n : ℕ) (q r : Term) → h q ≤ n → h r ≤ n → Low (suc n) (either q r)
        unfolding substituted
        either_beside n q r e f = (omega arith, λ p. absurd (cc))

        pub literal_low : (n : ℕ) (l : Literal) → 1 ≤ n → h (literal l) ≤ n
        unfolding substituted
        literal_low n l e = e

        pub and_bool_low : (n : ℕ) (c : Option Bool) (v : Represented) (t : Term) (a : Answer) → 1 ≤ n →
            height t + b ≤ n → Rules.AndLeft G c v t a → LowAnswer (suc n) a
        and_bool_low n None v t a e p r = by_failure m (suc n) a _ r
        and_bool_low n (Some true) v t a e p r =
            right_low n _ (λ q f. both_beside n (literal (bool_literal true)) q (literal_low n _ e) f) t a p r
        and_bool_low n (Some false) v t a e p r = by_equal m (suc n) a _ r (low_bool m (suc n) false (omega arith))

        pub and_low : (n : ℕ) (x : Answer) (t : Term) (a : Answer) → 1 ≤ n → LowAnswer n x → height t + b ≤ n →
            Rules.Then x (Rules.AfterAndLeft G t) a → LowAnswer (suc n) a
        and_low n (fails f) t a e g p r = by_failure m (suc n) a f r
        and_low n (answers (value v)) t a e g p r = and_bool_low n (bool_of (abstract_value v)) v t a e p r
        and_low n (answers (residual z)) t a e g p r = kept_low n (both z) (λ q f. both_beside n z q g.0 f) t a p r

        pub or_bool_low : (n : ℕ) (c : Option Bool) (v : Represented) (t : Term) (a : Answer) → 1 ≤ n → height t + b ≤ n →
            Rules.OrLeft G c v t a → LowAnswer (suc n) a
        or_bool_low n None v t a e p r = by_failure m (suc n) a _ r
        or_bool_low n (Some true) v t a e p r = by_equal m (suc n) a _ r (low_bool m (suc n) true (omega arith))
        or_bool_low n (Some false) v t a e p r =
            right_low n _ (λ q f. either_beside n (literal (bool_literal false)) q (literal_low n _ e) f) t a p r

        pub or_low : (n : ℕ) (x : Answer) (t : Term) (a : Answer) → 1 ≤ n → LowAnswer n x → height t + b ≤ n →
            Rules.Then x (Rules.AfterOrLeft G t) a → LowAnswer (suc n) a
        or_low n (fails f) t a e g p r = by_failure m (suc n) a f r
        or_low n (answers (value v)) t a e g p r = or_bool_low n (bool_of (abstract_value v)) v t a e p r
        or_low n (answers (residual z)) t a e g p r =
            kept_low n (either z) (λ q f. either_beside n z q g.0 f) t a p r

        pub left_low : (n : ℕ) (op : BinaryOperator) (x : Answer) (t : Term) (a : Answer) → suc b ≤ n → LowAnswer n x →
            height t + b ≤ n → Rules.Then x (Rules.AfterLeft G s op t) a → LowAnswer (suc n) a
        left_low n op (fails f) t a e g p r = by_failure m (suc n) a f r
        left_low n op (answers q) t a e g p (y, k, r) =
            read_low (suc n) (Rules.beside_residual s.store op q y) _ a (omega arith)
            (λ u j. beside_is_stored s.store op q y u j) (beside_low m s calls b within sound low n e op q y g (part n t p y k)) r

        pub projects_low : (n : ℕ) (c : Bool) (r : Term) (k : Text) (u : Term) (a : Answer) → Low n r → h u ≤ n →
            (c ≡ true → (is_projectable u ≡ true) × (is_restricted u ≡ true)) → Rules.Projects G c r k u a →
            LowAnswer (suc n) a
        unfolding substituted
        projects_low n true r k u a e f g j =
            let z = g refl in raise m (h u) (suc n) (omega arith) a (plain u z.0 z.1 a j)
        projects_low n false r k u a (e, e') f g j = by_equal m (suc n) a _ j (omega arith, λ p. absurd (cc))

        pub at_key_low : (n : ℕ) (o : Option Term) (fs : Fields) (r : Term) (k : Text) (a : Answer) → Low n r →
            Rules.fields_of_record r ≡ Some fs → Operators.term_at k fs ≡ o → Rules.AtKey G o fs r k a →
            LowAnswer (suc n) a
        at_key_low n None fs r k a e f g j = by_failure m (suc n) a _ j
        at_key_low n (Some u) fs r k a e f g j =
            projects_low n (is_projectable r) r k u a e
            (let x = part_of_record m r k fs u f g in let y = e.0 in omega arith)
            (λ p. (projectable_part r fs k u f g p, restricted_part r fs k u f g (e.1 p))) j

        pub at_fields_low : (n : ℕ) (o : Option Fields) (r : Term) (k : Text) (a : Answer) → Low n r →
            Rules.fields_of_record r ≡ o → Rules.AtFields G o r k a → LowAnswer (suc n) a
        unfolding substituted
        at_fields_low n None r k a (e, e') f j = by_equal m (suc n) a _ j (omega arith, λ p. absurd (cc))
        at_fields_low n (Some fs) r k a e f j = at_key_low n (Operators.term_at k fs) fs r k a e f refl j

        pub attribute_low : (n : ℕ) (x : Answer) (k : Text) (a : Answer) → suc b ≤ n → LowAnswer n x →
            Rules.Then x (Rules.AtAttribute G s k) a → LowAnswer (suc n) a
        attribute_low n (fails f) k a e g j = by_failure m (suc n) a f j
        attribute_low n (answers (value v)) k a e g j =
            read_low (suc n) (Operators.attribute_residual s.store v k) _ a (omega arith)
            (λ u i. attribute_is_stored s.store v k u i) (operands.attribute_all s (LowValue n) (LowValue (suc n))
            (Low (suc n)) AnyFailure (facts m s calls b within sound low n e) v k g) j
        attribute_low n (answers (residual r)) k a e g j = at_fields_low n (Rules.fields_of_record r) r k a g refl j

        -- one level above a part or parts of this height
        pub above : (n k : ℕ) (a : Answer) → LowAnswer (suc n) a → k ≡ suc n → LowAnswer k a
        above n k a f e = subst (λ j. LowAnswer j a) (sym e) f

        pub unary_beside : (n : ℕ) (op : UnaryOperator) (r : Term) → h r ≤ n → Low (suc n) (unary op r)
        unfolding substituted
        unary_beside n op r e = (omega arith, λ p. absurd (cc))

        pub path_beside : (n : ℕ) (k : Text) (ks : List Text) (r : Term) → h r ≤ n → Low (suc n) (extended_has r k ks)
        unfolding substituted
        path_beside n k ks r e = (omega arith, λ p. absurd (cc))

        pub step_low : (n : ℕ) (e : suc b ≤ n) (z : Operators.Walk) → operands.AllStep s (LowValue n) (LowValue (suc n))
            (Low (suc n)) AnyFailure (facts m s calls b within sound low n e) z → resolving.StopsWith G (LowAnswer (suc n)) z
        step_low n e (Operators.walks_on v) f = tt
        step_low n e (Operators.stops a) f = f

        pub goes_low : (n : ℕ) → suc b ≤ n → (x : Answer) (l : Text) (ls : List Text) → LowAnswer b x →
            resolving.ReadStopsWith G (LowAnswer (suc n)) x l ls
        goes_low n e (fails f) l ls k = tt
        goes_low n e (answers (value v)) l ls k = tt
        goes_low n e (answers (residual r)) l ls k = let y = k.0 in path_beside n l ls r (omega arith)

        pub path_low : (n : ℕ) → suc b ≤ n → (d : Resolution) → s.resolution ≡ d →
            (x : Answer) (k : Text) (ks : List Text) (a : Answer) → LowAnswer n x →
            Rules.AtPath G d s.store x k ks a → LowAnswer (suc n) a
        path_low n e shallow d x k ks a f g =
            by_equal m (suc n) a _ g (on_part_low m s calls b within sound low n _ _ (λ v. operands.path_all s (LowValue n)
            (LowValue (suc n)) (Low (suc n)) AnyFailure (facts m s calls b within sound low n e) ks v k) (path_beside n k ks) x f)
        path_low n e deep d (fails j) k ks a f g = by_failure m (suc n) a j g
        path_low n e deep d (answers (value v)) k ks a f g =
            resolving.walks G (LowAnswer (suc n)) s.store (operands.last_all s (LowValue n) (LowValue (suc n))
            (Low (suc n)) AnyFailure (facts m s calls b within sound low n e)) (λ u i l ls j. step_low n e _ (operands.step_in_all s (LowValue n)
            (LowValue (suc n)) (Low (suc n)) AnyFailure (facts m s calls b within sound low n e) u i l ls))
            (λ t i x j l ls. goes_low n e x l ls (read d t i x j)) ks v k a g
        path_low n e deep d (answers (residual r)) k ks a f g = by_equal m (suc n) a _ g (path_beside n k ks r f.0)

        pub like_beside : (n : ℕ) (p : List PatternPart) (r : Term) → h r ≤ n → Low (suc n) (like r p)
        unfolding substituted
        like_beside n p r e = (omega arith, λ p. absurd (cc))

        pub rule_low : (t : Term) (a : Answer) → Rules.Rule s calls G t a → LowAnswer (height t + b) a
        unfolding substituted
        rule_low (literal l) a r = by_equal m _ a _ r (omega arith, λ p. refl)
        rule_low (variable v) a r =
            by_equal m _ a _ r (raise m (suc b) (1 + b) (omega arith) (answers (variable_part s.request v))
            (variable_low m s calls b within sound low v))
        rule_low (slot i) a r = by_equal m _ a _ r (slot_low m s calls b within sound low (1 + b) i (s.slots i) (omega arith))
        rule_low (unknown n t) a r =
            by_equal m _ a _ r (mapped_unknown m s calls b within sound low (1 + b) n t (λ v e. (
              let x = mapped_below m s calls b within sound low n v e in omega arith,
              value_plain v,
            )) (let x = unknown_low m s calls b within sound low n t in omega arith, λ p. refl))
        rule_low (if_then_else c t e) a (x, g, k) =
            let n = max (height c) (max (height t) (height e)) + b in
            above n _ a (guard_low n x t e a (part n c (omega arith) x g) (omega arith) (omega arith) k) (omega arith)
        rule_low (both t u) a (x, g, k) =
            let n = max (height t) (height u) + b in
            let i = positive t in
            above n _ a (and_low n x u a (omega arith) (part n t (omega arith) x g) (omega arith) k) (omega arith)
        rule_low (either t u) a (x, g, k) =
            let n = max (height t) (height u) + b in
            let i = positive t in
            above n _ a (or_low n x u a (omega arith) (part n t (omega arith) x g) (omega arith) k) (omega arith)
        rule_low (unary op t) a (x, g, e) =
            let n = height t + b in
            let i = positive t in
            above n _ a (by_equal m (suc n) a _ e (on_part_low m s calls b within sound low n _ _ (operands.unary_all s (LowValue n)
            (LowValue (suc n)) (Low (suc n)) AnyFailure (facts m s calls b within sound low n (omega arith)) op) (unary_beside n op) x
            (ih t x g))) (omega arith)
        rule_low (binary op t u) a (x, g, k) =
            let n = max (height t) (height u) + b in
            let i = positive t in
            above n _ a (left_low n op x u a (omega arith) (part n t (omega arith) x g) (omega arith) k) (omega arith)
        rule_low (call f ts) a (r, g, k) =
            let n = greatest_height ts + b in
            above n _ a (arguments_low m s calls b within sound low n (omega arith) f r a (parts_low n ts r (each_part n ts (omega arith)) g) k)
            (omega arith)
        rule_low (get_attribute t k) a (x, g, j) =
            let n = height t + b in
            let i = positive t in
            above n _ a (attribute_low n x k a (omega arith) (ih t x g) j) (omega arith)
        rule_low (has_attribute t k) a (x, g, e) =
            let n = height t + b in
            let i = positive t in
            above n _ a (by_equal m (suc n) a _ e (has_low m s calls b within sound low n (omega arith) k x (ih t x g))) (omega arith)
        rule_low (extended_has t k ks) a (x, g, e) =
            let n = height t + b in
            let i = positive t in
            above n _ a (path_low n (omega arith) s.resolution refl x k ks a (ih t x g) e) (omega arith)
        rule_low (like t p) a (x, g, e) =
            let n = height t + b in
            let i = positive t in
            above n _ a (by_equal m (suc n) a _ e (on_part_low m s calls b within sound low n _ _ (operands.like_all s (LowValue n)
            (LowValue (suc n)) (Low (suc n)) AnyFailure (facts m s calls b within sound low n (omega arith)) p) (like_beside n p) x
            (ih t x g))) (omega arith)
        rule_low (is_of_type t k) a (x, g, e) =
            let n = height t + b in
            let i = positive t in
            above n _ a (by_equal m (suc n) a _ e (is_low m s calls b within sound low n (omega arith) k x (ih t x g))) (omega arith)
        rule_low (set_of ts) a (r, g, e) =
            let n = greatest_height ts + b in
            above n _ a (by_equal m (suc n) a _ e (set_low m n r (parts_low n ts r (each_part n ts (omega arith)) g)))
            (omega arith)
        rule_low (record_of fs) a (r, g, e) =
            let n = greatest_height_at fs + b in
            above n _ a (by_equal m (suc n) a _ e
            (record_low m n r (field_parts_low n fs r (each_part_at n fs (omega arith)) g))) (omega arith)
