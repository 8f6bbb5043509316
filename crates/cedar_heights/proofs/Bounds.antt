-- What is given is no higher than what is told of it.
use Rattle.std.proofs.Common.{◌≡◌, ◌∙◌, ℕ, ◌+◌, ◌≤◌, max, Bool, true, false, cond, if◌then◌else◌, List, [], ◌∷◌, ◌++◌}
use Rattle.std.proofs.Common.{map, Option, Some, None, ap, sym, subst, refl, arith}
use Rattle.std.proofs.lemmas.Option.{same_Some}
use Rattle.cedar_model.specs.Terms.{Text, EntityName, record_of}
use Rattle.cedar_model.specs.Values.{Represented, expressions_at}
use Rattle.cedar_model.specs.Outcomes.{text_eq, entity_eq}
use Rattle.cedar_model.specs.Failures.{PartialValue, part_expression}
use Rattle.cedar_model.specs.Settings.{ContextPart, absent_context, known_context, residual_context, StoredEntity}
use Rattle.cedar_model.specs.Settings.{part_at, names_of, Setting}
use Rattle.cedar_model.specs.Policies.{Effect, Policy}
use Rattle.cedar_model.specs.Responses.{Reported, reported_true, reported_false, reported_residual, Row, carried}
use Rattle.cedar_model.specs.Responses.{clause_of, truth}
use Rattle.cedar_model.specs.Terms.{both}
use Rattle.cedar_model.specs.Rules.{StoredCalls}
use Rattle.cedar_model.specs.Agreement.{height}
use Rattle.cedar_model.specs.Authorizations.{AreNoHigher}
use Rattle.cedar_model.specs.Chains.{Mapping, has_effect, is_true, is_false, is_residual, rows_of, rows_by}
use Rattle.cedar_model.specs.Chains.{all_residuals}
use Rattle.cedar_model.specs.Policies.{permit, forbid}
use Rattle.cedar_model.specs.Depth.{substituted_height, IsContextNoHigher, IsNoHigher}
use Rattle.cedar_model.proofs.Heights.{added}
use Rattle.cedar_names.specs.EqualityLaws.{text_eq-decides}
use Rattle.cedar_layers.specs.Stores.{Held, entity_name, entity_view, with_entity, with_entities, no_entities}
use Rattle.cedar_layers.specs.declared.policies.entities.Entity.{Entity}
use Rattle.cedar_heights.specs.Heights.{greatest_condition, found_height, greatest_under, facts_height, greatest_facts}
use Rattle.cedar_heights.specs.Limits.{context_height, MappedAreNoHigher, reported_height, greatest_reported}
use Rattle.cedar_heights.specs.Limits.{ValuesAddTheirHeight, ConditionsAreNoHigher, CarriedAreNoHigher}
use Rattle.cedar_heights.specs.Limits.{EntitiesAreNoHigher, EnoughIsDeepEnough, EnoughIsDeepEnoughForStep}

-- ---- values in place of unknowns

context_added : (m : Mapping) (n b : ℕ) → MappedAreNoHigher m b → (c : ContextPart) → context_height c ≤ n →
    IsContextNoHigher m (n + b) c
context_added m n b low absent_context h = tt
context_added m n b low (known_context fs) h = let k = added m b low (record_of (expressions_at fs)) in omega arith
context_added m n b low (residual_context fs) h = let k = added m b low (record_of fs) in omega arith

part_added : (m : Mapping) (n b : ℕ) → MappedAreNoHigher m b → (p : PartialValue) → height (part_expression p) ≤ n →
    substituted_height m p ≤ n + b
part_added m n b low p h = let k = added m b low (part_expression p) in omega arith

pub values_added : (calls : StoredCalls) → ValuesAddTheirHeight calls
values_added calls s m n b given low = record {
  context_low = context_added m n b low s.request.context_part given.context_low;
  stored_low = λ e x k p there. (
    λ at. part_added m n b low p ((given.stored_low e x k p there).0 at),
    λ at. part_added m n b low p ((given.stored_low e x k p there).1 at),
  );
  mapped_low = λ k v there. raised _ b (n + b) (low k v there) (omega arith);
  answers_low = λ f vs p called. part_added m n b low p (given.answers_low f vs p called);
}
  where
    raised : (k b n : ℕ) → k ≤ b → b ≤ n → k ≤ n
    raised k b n f g = omega arith

-- ---- conditions

raise : (ps : List Policy) (m n : ℕ) → m ≤ n → AreNoHigher ps m → AreNoHigher ps n
raise [] m n h low = tt
raise (p ∷ ps) m n h low = let k = low.0 in (omega arith, raise ps m n h low.1)

pub conditions_low : ConditionsAreNoHigher
conditions_low [] = tt
conditions_low (p ∷ ps) =
    let rest = greatest_condition ps in (
      omega arith,
      raise ps rest (max (height p.condition) rest) (omega arith)
          (conditions_low ps),
    )

-- ---- what is carried on

-- what each row reports as left has at most so many levels
abbrev AreLow : List Row → ℕ → Type 0
AreLow [] n = Unit {0}
AreLow (r ∷ rs) n = (reported_height r.reported ≤ n) × AreLow rs n

raise_rows : (rs : List Row) (m n : ℕ) → m ≤ n → AreLow rs m → AreLow rs n
raise_rows [] m n h low = tt
raise_rows (r ∷ rs) m n h low = let k = low.0 in (omega arith, raise_rows rs m n h low.1)

rows_low : (rs : List Row) → AreLow rs (greatest_reported rs)
rows_low [] = tt
rows_low (r ∷ rs) =
    let rest = greatest_reported rs in (
      omega arith,
      raise_rows rs rest (max (reported_height r.reported) rest)
          (omega arith) (rows_low rs),
    )

chosen_low : (a b : Bool) (r : Row) (rs : List Row) (n : ℕ) → reported_height r.reported ≤ n → AreLow rs n →
    AreLow (cond a (cond b (r ∷ rs) rs) rs) n
chosen_low true true r rs n h low = (h, low)
chosen_low true false r rs n h low = low
chosen_low false b r rs n h low = low

kept_low : (e : Effect) (such : Reported → Bool) (rs : List Row) (n : ℕ) → AreLow rs n → AreLow (rows_of e such rs) n
unfolding rows_of
kept_low e such [] n low = tt
kept_low e such (r ∷ rs) n low =
    chosen_low (has_effect e r.effect) (such r.reported) r (rows_of e such rs) n low.0 (kept_low e such rs n low.1)

joined_low : (rs ss : List Row) (n : ℕ) → AreLow rs n → AreLow ss n → AreLow (rs ++ ss) n
joined_low [] ss n low more = more
joined_low (r ∷ rs) ss n low more = (low.0, joined_low rs ss n low.1 more)

effect_low : (e : Effect) (rs : List Row) (n : ℕ) → AreLow rs n → AreLow (rows_by e rs) n
effect_low e rs n low =
    joined_low (rows_of e is_true rs) (rows_of e is_false rs ++ rows_of e is_residual rs) n
    (kept_low e is_true rs n low)
    (joined_low (rows_of e is_false rs) (rows_of e is_residual rs) n (kept_low e is_false rs n low)
    (kept_low e is_residual rs n low))

clause_low : (x : Reported) (n : ℕ) → reported_height x ≤ n →
    height (both (both (both truth truth) truth) (clause_of x)) ≤ max 3 n + 1
unfolding clause_of
clause_low reported_true n h = omega arith
clause_low (reported_false e) n h = omega arith
clause_low (reported_residual t) n h = omega arith

all_carried : (rs : List Row) (n : ℕ) → AreLow rs n → AreNoHigher (map carried rs) (max 3 n + 1)
all_carried [] n low = tt
all_carried (r ∷ rs) n low = (clause_low r.reported n low.0, all_carried rs n low.1)

pub carried_low : CarriedAreNoHigher
carried_low rows =
    let n = greatest_reported rows in
    all_carried (rows_by permit rows ++ rows_by forbid rows) n
    (joined_low (rows_by permit rows) (rows_by forbid rows) n (effect_low permit rows n (rows_low rows))
    (effect_low forbid rows n (rows_low rows)))

-- ---- levels that suffice

pub core_enough : (calls : StoredCalls) → EnoughIsDeepEnough calls
core_enough calls s ps given levels low unmapped fits = record {
  bound = given + 0;
  highest = greatest_condition ps;
  given = values_added calls s s.map given 0 low unmapped;
  conditions = conditions_low ps;
  fits = omega arith;
}

pub step_enough : (calls : StoredCalls) → EnoughIsDeepEnoughForStep calls
step_enough calls s m rows given mapped levels low below fits = record {
  bound = given + mapped;
  highest = max 3 (greatest_reported rows) + 1;
  given = values_added calls s m given mapped low below;
  conditions = carried_low rows;
  fits = fits;
}

-- ---- entities

-- a part that is there is no higher than the highest under the names
under_low : (ps all : List (Text × PartialValue)) (k : Text) (p : PartialValue) → part_at k ps ≡ Some p →
    part_at k all ≡ Some p → height (part_expression p) ≤ greatest_under (names_of ps) all
unfolding part_at
under_low [] all k p there is = absurd (cc)
under_low (q ∷ qs) all k p there is =
    at_test (text_eq k q.0) refl there (λ found. under_low qs all k p found is)
  where
    at_test : (b : Bool) → text_eq k q.0 ≡ b → cond b (Some q.1) (part_at k qs) ≡ Some p →
        (part_at k qs ≡ Some p → height (part_expression p) ≤ greatest_under (names_of qs) all) →
        height (part_expression p) ≤ greatest_under (names_of (q ∷ qs)) all
    at_test true same found rest =
        let key : k ≡ q.0 = (text_eq-decides k q.0).0 same in
        let here : found_height (part_at q.0 all) ≡ height (part_expression p) =
        ap found_height (subst (λ (t : Text). part_at t all ≡ Some p) key is) in
        omega arith
    at_test false other found rest = let h = rest found in omega arith

attribute_low : (x : StoredEntity) (k : Text) (p : PartialValue) → part_at k x.attributes ≡ Some p →
    height (part_expression p) ≤ facts_height x
attribute_low x k p is = let h = under_low x.attributes x.attributes k p is is in omega arith

tag_low : (x : StoredEntity) (k : Text) (p : PartialValue) → part_at k x.tags ≡ Some p →
    height (part_expression p) ≤ facts_height x
tag_low x k p is = let h = under_low x.tags x.tags k p is is in omega arith

-- what is held has at most so many levels
abbrev IsHeldLow : Held → ℕ → Type 0
IsHeldLow held n = (e : EntityName) (x : StoredEntity) → held e ≡ Some x → facts_height x ≤ n

one_held : (held : Held) (e : EntityName) (y x : StoredEntity) (n : ℕ) (b : Bool) → IsHeldLow held n →
    facts_height y ≤ n → (if b then Some y else held e) ≡ Some x → facts_height x ≤ n
one_held held e y x n true low h is = subst (λ (z : StoredEntity). facts_height z ≤ n) (same_Some y x is) h
one_held held e y x n false low h is = low e x is

each_held : (es : List Entity) (held : Held) (n : ℕ) → IsHeldLow held n → greatest_facts es ≤ n →
    IsHeldLow (with_entities held es) n
each_held [] held n low h = low
each_held (d ∷ ds) held n low h =
    each_held ds (with_entity held (entity_name d) (entity_view d)) n
    (λ e x is. one_held held e (entity_view d) x n (entity_eq e (entity_name d)) low (omega arith) is)
    (omega arith)

none_held : (n : ℕ) → IsHeldLow no_entities n
none_held n e x is = absurd (cc)

pub entities_low : EntitiesAreNoHigher
entities_low es is_partial e x k p there =
    let h = each_held es no_entities (greatest_facts es) (none_held (greatest_facts es)) (omega arith) e x there in (
      λ at. let a = attribute_low x k p at in omega arith,
      λ at. let a = tag_low x k p at in omega arith,
    )
