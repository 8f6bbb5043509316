-- What is given is no higher than the bound, and what operands answer no higher than they and the bound.
use Rattle.std.specs.Prelude.{◌≡◌, ℕ, suc, ◌≤◌, ◌==◌, Bool, true, false, cond}
use Rattle.std.specs.Prelude.{List, [], length, Option, Some, None, is_some, Result, Ok, Err}
use Rattle.std.proofs.Common.{refl, ap, arith}
use Rattle.cedar_model.specs.Terms.{Text, EntityName, Slot, Variable}
use Rattle.cedar_model.specs.Terms.{principal, action, resource, context, ValueType, BinaryOperator}
use Rattle.cedar_model.specs.Terms.{Term, unknown}
use Rattle.cedar_model.specs.Terms.{binary}
use Rattle.cedar_model.specs.Terms.{Fields}
use Rattle.cedar_model.specs.Values.{Represented, record_represented}
use Rattle.cedar_model.specs.Values.{abstract_value, expression_of}
use Rattle.cedar_model.specs.Shapes.{is_projectable}
use Rattle.cedar_model.specs.Outcomes.{bool_of, text_eq, value_type, type_eq}
use Rattle.cedar_model.specs.Failures.{Failure, FailureKind, of_meaning, of_residual, of_limit, of_memory}
use Rattle.cedar_model.specs.Failures.{failure_kind, PartialValue, value, residual, Answer, answers, answers_bool}
use Rattle.cedar_model.specs.Failures.{fails, wrong_type, part_expression}
use Rattle.cedar_model.specs.Settings.{Entry, known_entry, unknown_entry, ContextPart, absent_context, known_context}
use Rattle.cedar_model.specs.Settings.{residual_context, Setting}
use Rattle.cedar_model.specs.Settings.{missing_entity}
use Rattle.cedar_model.specs.Settings.{type_annotation, entry_part, context_value, variable_part}
use Rattle.cedar_model.specs.Operators
use Rattle.cedar_model.specs.Rules
use Rattle.cedar_model.specs.Agreement.{height}
use Rattle.cedar_model.specs.Chains.{Mapping, substituted}
use Rattle.cedar_model.specs.Restricted.{IsSoundPart, IsSoundContext, IsGivenSound}
use Rattle.cedar_model.specs.Depth.{IsNoHigher, IsContextNoHigher, IsWithin, substituted_height}
use Rattle.cedar_model.proofs.Operands as operands
use Rattle.cedar_model.proofs.Operands.{Facts}
use Rattle.cedar_model.proofs.Heights as heights
use Rattle.cedar_model.proofs.Heights.{sound_known, value_plain}
use Rattle.cedar_model.proofs.LowParts
use Rattle.cedar_model.proofs.LowParts.{AnyFailure, low_expression, by_equal, by_failure, low_bool, PartsLow, terms_low, ResultLow, field_low}

module _ (m : Mapping) where
  abbrev h : Term → ℕ
  h t = height (substituted m t)

  abbrev Low : ℕ → Term → Type 0
  Low = LowParts.Low m

  abbrev LowValue : ℕ → Represented → Type 0
  LowValue = LowParts.LowValue m

  abbrev LowAnswer : ℕ → Answer → Type 0
  LowAnswer = LowParts.LowAnswer m

  abbrev LowPart : ℕ → PartialValue → Type 0
  LowPart = LowParts.LowPart m

  module _ (s : Setting) (calls : Rules.StoredCalls) (b : ℕ) (within : IsWithin s.map m)
      (sound : IsGivenSound calls s) (low : IsNoHigher calls s m b) where
    pub given_low : (n : ℕ) (p : PartialValue) → b ≤ n → IsSoundPart p → substituted_height m p ≤ b → LowPart n p
    unfolding part_expression
    given_low n (value v) e f g = (omega arith, value_plain v)
    given_low n (residual r) e f g = (omega arith, λ p. f)

    pub unknown_low : (n : Text) (t : Option ValueType) → h (unknown n t) ≤ suc b
    unknown_low n t = heights.unknown_low m b low.mapped_low n t

    pub missing_low : (e : EntityName) → h (missing_entity e) ≤ suc b
    missing_low e = unknown_low _ _

    pub mapped_stays : (n : Text) (v : Represented) → s.map n ≡ Some v → h (expression_of v) ≡ height (expression_of v)
    mapped_stays n v e = ap height (heights.stays m (expression_of v) (sound_known v (sound.mapped_sound n v e)))

    pub mapped_below : (n : Text) (v : Represented) → s.map n ≡ Some v → h (expression_of v) ≤ b
    mapped_below n v e =
        let x = mapped_stays n v e in let y = low.mapped_low n v (within n v e) in omega arith

    pub facts : (n : ℕ) → suc b ≤ n → Facts s (LowValue n) (LowValue (suc n)) (Low (suc n)) AnyFailure
    unfolding substituted part_expression
    facts n e = record {
      literals = λ l. (omega arith, λ p. refl);
      errs = λ f k g. tt;
      fields = λ fs k v f g. (let x = f.0 in field_low m (suc n) k fs v (omega arith) g, value_plain v);
      stored =
          λ d x k p f. (
            λ g. given_low (suc n) p (omega arith) ((sound.stored_sound d x k p f).0 g)
                ((low.stored_low d x k p f).0 g),
            λ g. given_low (suc n) p (omega arith) ((sound.stored_sound d x k p f).1 g)
                ((low.stored_low d x k p f).1 g),
          );
      mapped = λ k v f. (let x = mapped_below k v f in omega arith, value_plain v);
      in_missing = λ d w f. (let x = f.0 in let y = missing_low d in omega arith, λ p. absurd (cc));
      tag_missing = λ d t. (let y = missing_low d in omega arith, λ p. absurd (cc));
      has_tag_missing = λ d t. (let y = missing_low d in omega arith, λ p. absurd (cc));
      attribute_missing = λ d k. (let y = missing_low d in omega arith, λ p. absurd (cc));
      has_missing = λ d k. (let y = missing_low d in omega arith, λ p. absurd (cc));
      path_missing = λ d k ks. (let y = missing_low d in omega arith, λ p. absurd (cc));
      path_stored =
          λ d x k l ls r f g. (
            let y : h r ≤ b = (low.stored_low d x k (residual r) f).0 g in omega arith,
            λ p. absurd (cc),
          );
    }

    -- ---- a leaf

    pub typed_low : (n : ℕ) (t : Option ValueType) (v : Represented) → LowValue n v →
        LowAnswer n (Operators.typed_value t v)
    unfolding Operators.typed_value
    typed_low n None v f = f
    typed_low n (Some t) v f = by (type_eq (value_type (abstract_value v)) t)
      where
        by : (c : Bool) → LowAnswer n (cond c (answers (value v)) (fails (wrong_type t [] (abstract_value v))))
        by true = f
        by false = tt

    pub mapped_unknown : (n : ℕ) (k : Text) (t : Option ValueType) → ((v : Represented) → s.map k ≡ Some v →
        LowValue n v) → Low n (unknown k t) → LowAnswer n (Operators.unknown_answer s.map k t)
    unfolding Operators.mapped
    mapped_unknown n k t f g = by (s.map k) refl
      where
        by : (o : Option Represented) → s.map k ≡ o → LowAnswer n (Operators.mapped o k t)
        by None e = g
        by (Some v) e = typed_low n t v (f v e)

    pub slot_low : (n : ℕ) (i : Slot) (o : Option EntityName) → 1 ≤ n → LowAnswer n (Operators.slot_answer i o)
    unfolding Operators.slot_answer substituted
    slot_low n i None e = tt
    slot_low n i (Some d) e = (e, λ p. refl)

    pub entry_low : (e : Entry) (name : Text) → LowPart (suc b) (entry_part e name)
    unfolding entry_part substituted
    entry_low (known_entry d) name = (omega arith, λ p. refl)
    entry_low (unknown_entry t) name = (unknown_low name (type_annotation t), λ p. refl)

    pub context_by : (c : ContextPart) → IsSoundContext c → IsContextNoHigher m b c → LowPart (suc b) (context_value c)
    unfolding context_value
    context_by absent_context f g = (unknown_low _ None, λ p. refl)
    context_by (known_context fs) f g = (omega arith, value_plain (record_represented fs))
    context_by (residual_context fs) f g = (omega arith, λ p. f)

    pub variable_low : (v : Variable) → LowPart (suc b) (variable_part s.request v)
    unfolding variable_part
    variable_low principal = entry_low s.request.principal_entry _
    variable_low action = entry_low s.request.action_entry _
    variable_low resource = entry_low s.request.resource_entry _
    variable_low context = context_by s.request.context_part sound.context_sound low.context_low

    -- ---- a layer

    -- goes on with the expression that is kept
    pub best_low : (n : ℕ) (x : Answer) (t : Term) (Next : Term → Answer → Type 0) (a : Answer) (C : Type 0) →
        LowAnswer n x → h t ≤ n → Rules.AfterBest (Rules.best x t) Next a → ((u : Term) → h u ≤ n → Next u a → C) →
        ((e : Failure) → a ≡ fails e → C) → C
    unfolding Rules.best Rules.best_of_kind
    best_low n (answers p) t Next a C f g k next stop = next (part_expression p) (low_expression m n p f).0 k
    best_low n (fails e) t Next a C f g k next stop = by (failure_kind e) k
      where
        by : (j : FailureKind) → Rules.AfterBest (Rules.best_of_kind j e t) Next a → C
        by (of_meaning k) j = next t g j
        by of_residual j = next t g j
        by of_limit j = stop e j
        by of_memory j = stop e j

    pub bool_or_low : (n : ℕ) (o : Option Bool) (v : Represented) → 1 ≤ n → LowAnswer n (Rules.bool_or_failure o v)
    unfolding Rules.bool_or_failure
    bool_or_low n None v e = tt
    bool_or_low n (Some c) v e = low_bool m n c e

    pub joined_low : (n : ℕ) (f : Term → Term) → ((r : Term) → h r ≤ n → Low (suc n) (f r)) → (x : Answer) →
        LowAnswer n x → LowAnswer (suc n) (Rules.joined f x)
    unfolding Rules.joined
    joined_low n f g (fails e) k = tt
    joined_low n f g (answers (value v)) k = bool_or_low (suc n) (bool_of (abstract_value v)) v (omega arith)
    joined_low n f g (answers (residual r)) k = g r k.0

    pub on_part_low : (n : ℕ) (f : Represented → Answer) (g : Term → Term) →
        ((v : Represented) → LowAnswer (suc n) (f v)) → ((r : Term) → h r ≤ n → Low (suc n) (g r)) → (x : Answer) →
        LowAnswer n x → LowAnswer (suc n) (Rules.on_part f g x)
    unfolding Rules.on_part
    on_part_low n f g j k (fails e) l = tt
    on_part_low n f g j k (answers (value v)) l = j v
    on_part_low n f g j k (answers (residual r)) l = k r l.0

    pub kept_binary_low : (n : ℕ) (op : BinaryOperator) (p q : PartialValue) → LowPart n p → LowPart n q →
        LowAnswer (suc n) (Rules.kept_binary op p q)
    unfolding substituted
    kept_binary_low n op p q e f = by (Rules.differ_by_type op p q)
      where
        by : (c : Bool) → LowAnswer (suc n) (cond c (answers_bool false)
            (answers (residual (binary op (part_expression p) (part_expression q)))))
        by true = low_bool m (suc n) false (omega arith)
        by false =
            let x = (low_expression m n p e).0 in let y = (low_expression m n q f).0 in (omega arith, λ g. absurd (cc))

    pub parts_binary_low : (n : ℕ) → suc b ≤ n → (op : BinaryOperator) (p q : PartialValue) → LowPart n p → LowPart n q →
        LowAnswer (suc n) (Rules.binary_of_parts s op p q)
    unfolding Rules.binary_of_parts
    parts_binary_low n e op (value v) (value w) f g =
        operands.binary_all s (LowValue n) (LowValue (suc n)) (Low (suc n)) AnyFailure (facts n e) op v w g
    parts_binary_low n e op (value v) (residual r) f g = kept_binary_low n op _ _ f g
    parts_binary_low n e op (residual r) (value w) f g = kept_binary_low n op _ _ f g
    parts_binary_low n e op (residual r) (residual q) f g = kept_binary_low n op _ _ f g

    pub beside_low : (n : ℕ) → suc b ≤ n → (op : BinaryOperator) (p : PartialValue) (y : Answer) → LowPart n p →
        LowAnswer n y → LowAnswer (suc n) (Rules.binary_beside s op p y)
    unfolding Rules.binary_beside
    beside_low n e op p (fails k) f g = tt
    beside_low n e op p (answers q) f g = parts_binary_low n e op p q f g

    pub has_fields_low : (n : ℕ) (o : Option Fields) (c : Bool) (r : Term) (k : Text) → h r ≤ n →
        LowAnswer (suc n) (Rules.has_in_fields o c r k)
    unfolding Rules.has_in_fields substituted
    has_fields_low n None c r k e = (omega arith, λ p. absurd (cc))
    has_fields_low n (Some fs) true r k e = low_bool m (suc n) (is_some (Operators.term_at k fs)) (omega arith)
    has_fields_low n (Some fs) false r k e = (omega arith, λ p. absurd (cc))

    pub has_low : (n : ℕ) → suc b ≤ n → (k : Text) (x : Answer) → LowAnswer n x → LowAnswer (suc n) (Rules.has_part s k x)
    unfolding Rules.has_part
    has_low n e k (fails f) g = tt
    has_low n e k (answers (value v)) g =
        operands.has_all s (LowValue n) (LowValue (suc n)) (Low (suc n)) AnyFailure (facts n e) v k
    has_low n e k (answers (residual r)) g = has_fields_low n (Rules.fields_of_record r) (is_projectable r) r k g.0

    pub annotated_low : (n : ℕ) (o : Option Text) (r : Term) (t : Text) → h r ≤ n →
        LowAnswer (suc n) (Rules.is_annotated o r t)
    unfolding Rules.is_annotated substituted
    annotated_low n None r t e = (omega arith, λ p. absurd (cc))
    annotated_low n (Some u) r t e = low_bool m (suc n) (text_eq u t) (omega arith)

    pub is_low : (n : ℕ) → suc b ≤ n → (t : Text) (x : Answer) → LowAnswer n x → LowAnswer (suc n) (Rules.is_part t x)
    unfolding Rules.is_part
    is_low n e t (fails f) g = tt
    is_low n e t (answers (value v)) g =
        operands.is_all s (LowValue n) (LowValue (suc n)) (Low (suc n)) AnyFailure (facts n e) t v
    is_low n e t (answers (residual r)) g = annotated_low n (Rules.entity_type_of_residual r) r t g.0

    pub call_answer_low : (n : ℕ) → b ≤ n → (f : Text) (vs : List Represented) (a : Answer) → calls f vs a → LowAnswer n a
    call_answer_low n e f vs (answers p) c =
        given_low n p e (sound.answers_sound f vs p c) (low.answers_low f vs p c)
    call_answer_low n e f vs (fails k) c = tt

    pub counts_low : (n : ℕ) → b ≤ n → (c : Bool) (k : ℕ) (f : Text) (vs : List Represented) (a : Answer) →
        Rules.Counts calls c k f vs a → LowAnswer n a
    counts_low n e true k f vs a r = call_answer_low n e f vs a r
    counts_low n e false k f vs a r = by_failure m n a _ r

    pub looks_low : (n : ℕ) → b ≤ n → (o : Option ℕ) (f : Text) (vs : List Represented) (a : Answer) →
        Rules.LooksUp calls o f vs a → LowAnswer n a
    looks_low n e None f vs a r = by_failure m n a _ r
    looks_low n e (Some k) f vs a r = counts_low n e (length vs == k) k f vs a r

    pub values_call_low : (n : ℕ) → b ≤ suc n →
        (o : Option (List Represented)) (f : Text) (ps : List PartialValue) (a : Answer) → PartsLow m n ps →
        Rules.AfterValues calls s.extensions.arity o f ps a → LowAnswer (suc n) a
    unfolding substituted
    values_call_low n e (Some vs) f ps a g r = looks_low (suc n) e (s.extensions.arity f) f vs a r
    values_call_low n e None f ps a g r =
        let x = (terms_low m n ps g).0 in by_equal m (suc n) a _ r (omega arith, λ p. absurd (cc))

    pub arguments_low : (n : ℕ) → b ≤ suc n → (f : Text) (r : Result (List PartialValue) Failure) (a : Answer) →
        ResultLow m n r → Rules.AfterArguments calls s.extensions.arity f r a → LowAnswer (suc n) a
    arguments_low n e f (Err k) a g r = by_failure m (suc n) a k r
    arguments_low n e f (Ok ps) a g r = values_call_low n e (Rules.values_of_parts ps) f ps a g r
