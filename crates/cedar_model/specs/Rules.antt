-- The residual rules: what an evaluator may answer to an expression. (Cedar's documentation has them under partial
-- evaluation, an experimental feature.) `Rule` is one layer, over what the parts may answer; `Runs` takes the layers a
-- given number of levels deep; `Allows` and `Exceeds` are read off the levels.
use Rattle.std.specs.Prelude.{◌≡◌, ◌≢◌, ℕ, zero, suc, ◌==◌, Bool, true, false, cond, not, List, [], ◌∷◌, length, map}
use Rattle.std.specs.Prelude.{Option, Some, None, Result, Ok, Err, is_some}
use Rattle.cedar_model.specs.Terms.{Text, EntityName, bool_literal, ValueType, bool_type, entity_type, BinaryOperator}
use Rattle.cedar_model.specs.Terms.{eq_operator, less_operator, less_eq_operator, add_operator, sub_operator}
use Rattle.cedar_model.specs.Terms.{mul_operator, in_operator, contains_operator, contains_all_operator}
use Rattle.cedar_model.specs.Terms.{contains_any_operator, get_tag_operator, has_tag_operator, Term, literal, variable}
use Rattle.cedar_model.specs.Terms.{slot, unknown, if_then_else, both, either, unary, binary, call, get_attribute}
use Rattle.cedar_model.specs.Terms.{has_attribute, extended_has, like, is_of_type, set_of, record_of, Terms, no_terms}
use Rattle.cedar_model.specs.Terms.{one_term, terms_of, Fields, no_fields, one_field, fields_of}
use Rattle.cedar_model.specs.Values.{Represented, plain_represented, set_represented, record_represented}
use Rattle.cedar_model.specs.Values.{abstract_value}
use Rattle.cedar_model.specs.Sets.{canonical_set, represented_fields_of}
use Rattle.cedar_model.specs.Shapes.{is_projectable}
use Rattle.cedar_model.specs.Outcomes.{bool_of, entity_of, text_eq}
use Rattle.cedar_model.specs.Failures.{FailureKind, of_meaning, of_residual, of_limit, of_memory, failure_kind, Failure}
use Rattle.cedar_model.specs.Failures.{function_is_missing, arguments_are_miscounted, out_of_memory, PartialValue}
use Rattle.cedar_model.specs.Failures.{value, residual, Answer, answers, fails, answers_value, answers_residual}
use Rattle.cedar_model.specs.Failures.{answers_bool, limit, part_expression, wrong_type}
use Rattle.cedar_model.specs.Settings.{Store, Resolution, shallow, deep, Setting, variable_part}
use Rattle.cedar_model.specs.Operators.{slot_answer, unknown_answer, unary_answer, like_answer, is_answer}
use Rattle.cedar_model.specs.Operators.{binary_answer, attribute_answer, has_answer, path_answer, term_at, field_names}
use Rattle.cedar_model.specs.Operators.{key_is_missing}
use Rattle.cedar_model.specs.Operators.{Walk, walks_on, stops, walk_in, last_in, container_of, container_expected}
use Rattle.cedar_model.specs.Operators.{attribute_residual, binary_residual}

-- what expressions may answer
abbrev pub MayAnswer : Type 1
MayAnswer = Term → Answer → Type 0

-- what a stored function may answer to arguments, besides running out of memory: that may come of any call, whatever
-- its arguments are, and `Meets` allows it; among the answers it would be a second one to equal arguments, so that no
-- function answered alike
abbrev pub StoredCalls : Type 1
StoredCalls = Text → List Represented → Answer → Type 0

abbrev pub bool_expected : Represented → Answer
bool_expected v = fails (wrong_type bool_type [] (abstract_value v))

-- ---- an error stays

-- an error is the answer; a value or a residual is gone on with
abbrev pub Then : Answer → (PartialValue → Answer → Type 0) → Answer → Type 0
Then (fails e) Next a = a ≡ fails e
Then (answers p) Next a = Next p a

-- a part is read, and what it answers gone on with
abbrev pub Reads : MayAnswer → Term → (PartialValue → Answer → Type 0) → Answer → Type 0
Reads May t Next a = (x : Answer) × May t x × Then x Next a

-- ---- best effort

-- an expression that is kept, or an error that is handed up
pub data Best : Type 0 where
  kept : Term → Best
  handed_up : Failure → Best

-- an error keeps the original; the recursion limit and running out of memory are handed up
unfoldable pub best_of_kind : FailureKind → Failure → Term → Best
best_of_kind (of_meaning k) e t = kept t
best_of_kind of_residual e t = kept t
best_of_kind of_limit e t = handed_up e
best_of_kind of_memory e t = handed_up e

unfoldable pub best : Answer → Term → Best
best (answers p) t = kept (part_expression p)
best (fails e) t = best_of_kind (failure_kind e) e t

-- goes on with the expression that is kept
abbrev pub AfterBest : Best → (Term → Answer → Type 0) → Answer → Type 0
AfterBest (kept t) Next a = Next t a
AfterBest (handed_up e) Next a = a ≡ fails e

-- ---- stored residuals

module _ (May : MayAnswer) where
  -- what a look-up answers: with shallow resolution what is stored, with deep resolution what the stored residual that
  -- is read answers, one level below
  abbrev pub Resolves : Resolution → Option Term → Answer → Answer → Type 0
  Resolves shallow o stored a = a ≡ stored
  Resolves deep None stored a = a ≡ stored
  Resolves deep (Some t) stored a = May t a

  -- after a stored residual that an extended `has` reads: an error is answered, a value is walked on, and a residual
  -- keeps the attributes after it
  abbrev pub AfterStored : Answer → Text → List Text → (Represented → Answer → Type 0) → Answer → Type 0
  AfterStored (fails e) l ls Next a = a ≡ fails e
  AfterStored (answers (value v)) l ls Next a = Next v a
  AfterStored (answers (residual r)) l ls Next a = a ≡ answers_residual (extended_has r l ls)

  abbrev pub AfterWalk : Walk → (Represented → Answer → Type 0) → Answer → Type 0
  AfterWalk (walks_on v) Next a = Next v a
  AfterWalk (stops b) Next a = a ≡ b

  -- a step that reads no stored residual, or one
  abbrev pub WalksOn : Option Term → Walk → Text → List Text → (Represented → Answer → Type 0) → Answer → Type 0
  WalksOn None step l ls Next a = AfterWalk step Next a
  WalksOn (Some t) step l ls Next a = (x : Answer) × May t x × AfterStored x l ls Next a

  -- an extended `has` on a value, with deep resolution: the last attribute is a presence check
  abbrev pub Walks : Store → Represented → Text → List Text → Answer → Type 0
  Walks store v k [] a = a ≡ last_in store (container_of v) (container_expected v) k
  Walks store v k (l ∷ ls) a =
      WalksOn (attribute_residual store v k) (walk_in store (container_of v) (container_expected v) k l ls) l ls
      (λ u. Walks store u l ls) a

  abbrev pub WalksFrom : Store → Text → List Text → PartialValue → Answer → Type 0
  WalksFrom store k ks (value v) a = Walks store v k ks a
  WalksFrom store k ks (residual r) a = a ≡ answers_residual (extended_has r k ks)

-- ---- guards and connectives

unfoldable pub bool_or_failure : Option Bool → Represented → Answer
bool_or_failure None v = bool_expected v
bool_or_failure (Some b) v = answers_bool b

-- the right side of `true && ..` and `false || ..`: a bool, or the residual beside the left side
unfoldable pub joined : (Term → Term) → Answer → Answer
joined with_left (fails e) = fails e
joined with_left (answers (value v)) = bool_or_failure (bool_of (abstract_value v)) v
joined with_left (answers (residual r)) = answers_residual (with_left r)

module _ (May : MayAnswer) where
  -- a guard that is a bool takes its branch alone
  abbrev pub TakesBranch : Option Bool → Represented → Term → Term → Answer → Type 0
  TakesBranch None v t e a = a ≡ bool_expected v
  TakesBranch (Some true) v t e a = May t a
  TakesBranch (Some false) v t e a = May e a

  -- both branches of a residual guard, each best effort
  abbrev pub KeepsBranches : Term → Term → Term → Answer → Type 0
  KeepsBranches r t e a =
      (x : Answer) × May t x × AfterBest (best x t)
      (λ t' b. (y : Answer) × May e y × AfterBest (best y e) (λ e' c. c ≡ answers_residual (if_then_else r t' e')) b) a

  abbrev pub AfterGuard : Term → Term → PartialValue → Answer → Type 0
  AfterGuard t e (value v) a = TakesBranch (bool_of (abstract_value v)) v t e a
  AfterGuard t e (residual r) a = KeepsBranches r t e a

  -- the right side is read, and joined to this left side
  abbrev pub ReadsRight : (Term → Term) → Term → Answer → Type 0
  ReadsRight with_left t a = (x : Answer) × May t x × (a ≡ joined with_left x)

  -- the right side beside a residual left side, best effort
  abbrev pub KeepsRight : (Term → Term) → Term → Answer → Type 0
  KeepsRight with_left t a =
      (x : Answer) × May t x × AfterBest (best x t) (λ t' b. b ≡ answers_residual (with_left t')) a

  abbrev pub AndLeft : Option Bool → Represented → Term → Answer → Type 0
  AndLeft None v t a = a ≡ bool_expected v
  AndLeft (Some true) v t a = ReadsRight (both (literal (bool_literal true))) t a
  AndLeft (Some false) v t a = a ≡ answers_bool false

  abbrev pub AfterAndLeft : Term → PartialValue → Answer → Type 0
  AfterAndLeft t (value v) a = AndLeft (bool_of (abstract_value v)) v t a
  AfterAndLeft t (residual r) a = KeepsRight (both r) t a

  abbrev pub OrLeft : Option Bool → Represented → Term → Answer → Type 0
  OrLeft None v t a = a ≡ bool_expected v
  OrLeft (Some true) v t a = a ≡ answers_bool true
  OrLeft (Some false) v t a = ReadsRight (either (literal (bool_literal false))) t a

  abbrev pub AfterOrLeft : Term → PartialValue → Answer → Type 0
  AfterOrLeft t (value v) a = OrLeft (bool_of (abstract_value v)) v t a
  AfterOrLeft t (residual r) a = KeepsRight (either r) t a

-- ---- operators beside residuals

-- the answer of a value, or the residual with the operator around it
unfoldable pub on_part : (Represented → Answer) → (Term → Term) → Answer → Answer
on_part f with_part (fails e) = fails e
on_part f with_part (answers (value v)) = f v
on_part f with_part (answers (residual r)) = answers_residual (with_part r)

-- the entity type of a part: of an entity, or an unknown's annotation
unfoldable pub annotated_type : Option ValueType → Option Text
annotated_type None = None
annotated_type (Some (entity_type t)) = Some t
annotated_type (Some t) = None

unfoldable pub entity_type_of_residual : Term → Option Text
entity_type_of_residual (unknown n t) = annotated_type t
entity_type_of_residual r = None

unfoldable pub type_of_entity : Option EntityName → Option Text
type_of_entity None = None
type_of_entity (Some e) = Some e.type_name

unfoldable pub entity_type_of : PartialValue → Option Text
entity_type_of (value v) = type_of_entity (entity_of (abstract_value v))
entity_type_of (residual r) = entity_type_of_residual r

unfoldable pub are_apart : Option Text → Option Text → Bool
are_apart (Some s) (Some t) = not (text_eq s t)
are_apart (Some s) None = false
are_apart None t = false

-- `==` is false where two entity types are apart
unfoldable pub differ_by_type : BinaryOperator → PartialValue → PartialValue → Bool
differ_by_type eq_operator p q = are_apart (entity_type_of p) (entity_type_of q)
differ_by_type less_operator p q = false
differ_by_type less_eq_operator p q = false
differ_by_type add_operator p q = false
differ_by_type sub_operator p q = false
differ_by_type mul_operator p q = false
differ_by_type in_operator p q = false
differ_by_type contains_operator p q = false
differ_by_type contains_all_operator p q = false
differ_by_type contains_any_operator p q = false
differ_by_type get_tag_operator p q = false
differ_by_type has_tag_operator p q = false

abbrev pub kept_binary : BinaryOperator → PartialValue → PartialValue → Answer
kept_binary op p q =
    cond (differ_by_type op p q) (answers_bool false)
    (answers_residual (binary op (part_expression p) (part_expression q)))

unfoldable pub binary_of_parts : Setting → BinaryOperator → PartialValue → PartialValue → Answer
binary_of_parts s op (value v) (value w) = binary_answer s op v w
binary_of_parts s op (value v) (residual r) = kept_binary op (value v) (residual r)
binary_of_parts s op (residual r) (value w) = kept_binary op (residual r) (value w)
binary_of_parts s op (residual r) (residual q) = kept_binary op (residual r) (residual q)

-- the right side, after a left side that did not err
unfoldable pub binary_beside : Setting → BinaryOperator → PartialValue → Answer → Answer
binary_beside s op p (fails e) = fails e
binary_beside s op p (answers q) = binary_of_parts s op p q

-- the stored residual that two operands read
unfoldable pub beside_residual : Store → BinaryOperator → PartialValue → Answer → Option Term
beside_residual store op p (fails e) = None
beside_residual store op (value v) (answers (value w)) = binary_residual store op v w
beside_residual store op (value v) (answers (residual r)) = None
beside_residual store op (residual r) (answers q) = None

module _ (May : MayAnswer) where
  -- the right side is read
  abbrev pub AfterLeft : Setting → BinaryOperator → Term → PartialValue → Answer → Type 0
  AfterLeft s op t p a =
      (y : Answer) × May t y
      × Resolves May s.resolution (beside_residual s.store op p y) (binary_beside s op p y) a

-- `is` on an unknown annotated with an entity type
unfoldable pub is_annotated : Option Text → Term → Text → Answer
is_annotated (Some u) r t = answers_bool (text_eq u t)
is_annotated None r t = answers_residual (is_of_type r t)

unfoldable pub is_part : Text → Answer → Answer
is_part t (fails e) = fails e
is_part t (answers (value v)) = is_answer t v
is_part t (answers (residual r)) = is_annotated (entity_type_of_residual r) r t

-- ---- records that are residuals

unfoldable pub fields_of_record : Term → Option Fields
fields_of_record (record_of fs) = Some fs
fields_of_record t = None

-- `has` on a projectable record is whether the key is there
unfoldable pub has_in_fields : Option Fields → Bool → Term → Text → Answer
has_in_fields None projectable r k = answers_residual (has_attribute r k)
has_in_fields (Some fs) false r k = answers_residual (has_attribute r k)
has_in_fields (Some fs) true r k = answers_bool (is_some (term_at k fs))

unfoldable pub has_part : Setting → Text → Answer → Answer
has_part s k (fails e) = fails e
has_part s k (answers (value v)) = has_answer s v k
has_part s k (answers (residual r)) = has_in_fields (fields_of_record r) (is_projectable r) r k

module _ (May : MayAnswer) where
  -- a part of a projectable record is interpreted again; another record keeps it
  abbrev pub Projects : Bool → Term → Text → Term → Answer → Type 0
  Projects true r k part a = May part a
  Projects false r k part a = a ≡ answers_residual (get_attribute r k)

  abbrev pub AtKey : Option Term → Fields → Term → Text → Answer → Type 0
  AtKey None fs r k a = a ≡ fails (key_is_missing k (field_names fs))
  AtKey (Some part) fs r k a = Projects (is_projectable r) r k part a

  abbrev pub AtFields : Option Fields → Term → Text → Answer → Type 0
  AtFields None r k a = a ≡ answers_residual (get_attribute r k)
  AtFields (Some fs) r k a = AtKey (term_at k fs) fs r k a

  abbrev pub AtAttribute : Setting → Text → PartialValue → Answer → Type 0
  AtAttribute s k (value v) a =
      Resolves May s.resolution (attribute_residual s.store v k) (attribute_answer s v k) a
  AtAttribute s k (residual r) a = AtFields (fields_of_record r) r k a

-- ---- extended `has`

module _ (May : MayAnswer) where
  abbrev pub AtPath : Resolution → Store → Answer → Text → List Text → Answer → Type 0
  AtPath shallow store x k ks a = a ≡ on_part (λ v. path_answer store v k ks) (λ r. extended_has r k ks) x
  AtPath deep store x k ks a = Then x (WalksFrom May store k ks) a

-- ---- parts in order: all their answers, or the first error

unfoldable pub part_then : PartialValue → Result (List PartialValue) Failure → Result (List PartialValue) Failure
part_then p (Err e) = Err e
part_then p (Ok ps) = Ok (p ∷ ps)

unfoldable pub field_part_then : Text → PartialValue → Result (List (Text × PartialValue)) Failure
    → Result (List (Text × PartialValue)) Failure
field_part_then k p (Err e) = Err e
field_part_then k p (Ok ps) = Ok ((k, p) ∷ ps)

module _ (May : MayAnswer) where
  abbrev pub AfterPart : Answer → (Result (List PartialValue) Failure → Type 0) → Result (List PartialValue) Failure
      → Type 0
  AfterPart (fails e) Rest r = r ≡ Err e
  AfterPart (answers p) Rest r = (rest : Result (List PartialValue) Failure) × Rest rest × (r ≡ part_then p rest)

  abbrev pub Parts : Terms → Result (List PartialValue) Failure → Type 0
  Parts no_terms r = r ≡ Ok []
  Parts (one_term t ts) r = (x : Answer) × May t x × AfterPart x (Parts ts) r

  abbrev pub AfterFieldPart : Text → Answer → (Result (List (Text × PartialValue)) Failure → Type 0)
      → Result (List (Text × PartialValue)) Failure → Type 0
  AfterFieldPart k (fails e) Rest r = r ≡ Err e
  AfterFieldPart k (answers p) Rest r =
      (rest : Result (List (Text × PartialValue)) Failure) × Rest rest × (r ≡ field_part_then k p rest)

  abbrev pub FieldParts : Fields → Result (List (Text × PartialValue)) Failure → Type 0
  FieldParts no_fields r = r ≡ Ok []
  FieldParts (one_field k t fs) r = (x : Answer) × May t x × AfterFieldPart k x (FieldParts fs) r

unfoldable pub add_value : PartialValue → Option (List Represented) → Option (List Represented)
add_value (value v) None = None
add_value (value v) (Some vs) = Some (v ∷ vs)
add_value (residual r) vs = None

-- the values, if all parts are values
unfoldable pub values_of_parts : List PartialValue → Option (List Represented)
values_of_parts [] = Some []
values_of_parts (p ∷ ps) = add_value p (values_of_parts ps)

unfoldable pub add_value_at : Text → PartialValue → Option (List (Text × Represented))
    → Option (List (Text × Represented))
add_value_at k (value v) None = None
add_value_at k (value v) (Some vs) = Some ((k, v) ∷ vs)
add_value_at k (residual r) vs = None

unfoldable pub values_of_field_parts : List (Text × PartialValue) → Option (List (Text × Represented))
values_of_field_parts [] = Some []
values_of_field_parts (p ∷ ps) = add_value_at p.0 p.1 (values_of_field_parts ps)

abbrev pub terms_of_parts : List PartialValue → Terms
terms_of_parts ps = terms_of (map part_expression ps)

abbrev pub fields_of_parts : List (Text × PartialValue) → Fields
fields_of_parts ps = fields_of (map (λ p. (p.0, part_expression p.1)) ps)

unfoldable pub set_of_parts : Option (List Represented) → List PartialValue → Answer
set_of_parts (Some vs) ps = answers_value (set_represented (canonical_set vs))
set_of_parts None ps = answers_residual (set_of (terms_of_parts ps))

-- a set: of values, or else of every part as an expression
unfoldable pub set_answer : Result (List PartialValue) Failure → Answer
set_answer (Err e) = fails e
set_answer (Ok ps) = set_of_parts (values_of_parts ps) ps

unfoldable pub record_of_parts : Option (List (Text × Represented)) → List (Text × PartialValue) → Answer
record_of_parts (Some vs) ps = answers_value (record_represented (represented_fields_of vs))
record_of_parts None ps = answers_residual (record_of (fields_of_parts ps))

unfoldable pub record_answer : Result (List (Text × PartialValue)) Failure → Answer
record_answer (Err e) = fails e
record_answer (Ok ps) = record_of_parts (values_of_field_parts ps) ps

-- ---- calls

module _ (Calls : StoredCalls) where
  -- a right count of arguments is handed to the function
  abbrev pub Counts : Bool → ℕ → Text → List Represented → Answer → Type 0
  Counts true n f vs a = Calls f vs a
  Counts false n f vs a = a ≡ fails (arguments_are_miscounted f n (length vs))

  abbrev pub LooksUp : Option ℕ → Text → List Represented → Answer → Type 0
  LooksUp None f vs a = a ≡ fails (function_is_missing f)
  LooksUp (Some n) f vs a = Counts (length vs == n) n f vs a

  -- a function is looked up only if all arguments are values
  abbrev pub AfterValues : (Text → Option ℕ) → Option (List Represented) → Text → List PartialValue → Answer → Type 0
  AfterValues arity (Some vs) f ps a = LooksUp (arity f) f vs a
  AfterValues arity None f ps a = a ≡ answers_residual (call f (terms_of_parts ps))

  abbrev pub AfterArguments : (Text → Option ℕ) → Text → Result (List PartialValue) Failure → Answer → Type 0
  AfterArguments arity f (Err e) a = a ≡ fails e
  AfterArguments arity f (Ok ps) a = AfterValues arity (values_of_parts ps) f ps a

-- ---- one layer

-- what an expression may answer, where `May` says what parts may answer
abbrev pub Rule : Setting → StoredCalls → MayAnswer → Term → Answer → Type 0
Rule s Calls May (literal l) a = a ≡ answers_value (plain_represented l)
Rule s Calls May (variable v) a = a ≡ answers (variable_part s.request v)
Rule s Calls May (slot i) a = a ≡ slot_answer i (s.slots i)
Rule s Calls May (unknown n t) a = a ≡ unknown_answer s.map n t
Rule s Calls May (if_then_else c t e) a = Reads May c (AfterGuard May t e) a
Rule s Calls May (both t u) a = Reads May t (AfterAndLeft May u) a
Rule s Calls May (either t u) a = Reads May t (AfterOrLeft May u) a
Rule s Calls May (unary op t) a = (x : Answer) × May t x × (a ≡ on_part (unary_answer op) (unary op) x)
Rule s Calls May (binary op t u) a = Reads May t (AfterLeft May s op u) a
Rule s Calls May (call f ts) a =
    (r : Result (List PartialValue) Failure) × Parts May ts r × AfterArguments Calls s.extensions.arity f r a
Rule s Calls May (get_attribute t k) a = Reads May t (AtAttribute May s k) a
Rule s Calls May (has_attribute t k) a = (x : Answer) × May t x × (a ≡ has_part s k x)
Rule s Calls May (extended_has t k ks) a =
    (x : Answer) × May t x × AtPath May s.resolution s.store x k ks a
Rule s Calls May (like t p) a = (x : Answer) × May t x × (a ≡ on_part (like_answer p) (λ r. like r p) x)
Rule s Calls May (is_of_type t n) a = (x : Answer) × May t x × (a ≡ is_part n x)
Rule s Calls May (set_of ts) a = (r : Result (List PartialValue) Failure) × Parts May ts r × (a ≡ set_answer r)
Rule s Calls May (record_of fs) a =
    (r : Result (List (Text × PartialValue)) Failure) × FieldParts May fs r × (a ≡ record_answer r)

-- ---- levels

-- what an expression may answer with this many levels left; with none the recursion limit is met
abbrev pub Runs : Setting → StoredCalls → ℕ → Term → Answer → Type 0
Runs s Calls zero t a = a ≡ limit
Runs s Calls (suc n) t a = Rule s Calls (Runs s Calls n) t a

-- some number of levels gives this answer, which is not the limit
abbrev pub Allows : Setting → StoredCalls → Term → Answer → Type 0
Allows s Calls t a = (a ≢ limit) × (n : ℕ) × Runs s Calls n t a

-- the expression needs more levels than these
abbrev pub Exceeds : Setting → StoredCalls → Term → ℕ → Type 0
Exceeds s Calls t n = Runs s Calls n t limit

-- an evaluation answers what is allowed, unless it finds no memory
abbrev pub Meets : (Answer → Type 0) → Answer → Type 0
Meets P a = a ≢ fails out_of_memory → P a
