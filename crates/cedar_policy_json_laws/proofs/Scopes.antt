-- Scopes read back.
use Rattle.std.proofs.Common.{◌≡◌, ℕ, ◌+◌, Bool, true, false, true≢false, cond, ◌&&◌, is_some, List, [], ◌∷◌, ◌++◌, map, Option, Some, None, option_map, option_to_list, Ok, refl, sym, ap, ◌∙◌, codes}
use Rattle.std.specs.Prelude.{⊤}
use Rattle.json.specs.Json.{string}
use Rattle.json.specs.Value.{items_of}
use Rattle.cedar_model.specs.Terms.{Text, EntityName, Literal, bool_literal, long_literal, text_literal, entity_literal, Variable, principal, action, resource, context, Slot, principal_slot, resource_slot, BinaryOperator, eq_operator, in_operator}
use Rattle.cedar_model.specs.Terms.{Term, literal, variable, slot, both, binary, is_of_type, set_of, Terms, no_terms, one_term, terms_of}
use Rattle.cedar_model.specs.Agreement.{no_slots}
use Rattle.cedar_model.specs.World.{Slots}
use Rattle.cedar_names.specs.EqualityLaws.{variable_eq-decides}
use Rattle.cedar_json_writer.specs.Written.{written_uid}
use Rattle.cedar_policy_json_reader.specs.Leaves.{entity_of}
use Rattle.cedar_policy_json_reader.specs.Paths.{at_key, at_index}
use Rattle.cedar_policy_json_reader.specs.Refusals.{Said, under, before, both_said, made_of}
use Rattle.cedar_policy_json_reader.specs.Scopes.{entity_term, entity_said, entities_from, slot_at, target_said, place_said, set_of_terms, inside_said, typed, typed_inside, constraint_said, scope_said}
use Rattle.cedar_policy_json_reader.specs.Words.{is_name}
use Rattle.cedar_policy_json_writer.specs.Scopes.{Place, entity_place, slot_place, Scope, equal_to, inside, inside_any, of_type, of_type_inside, entity_in, are_entities, entities_in, literal_place, own_slot, linked_place, place_of, any_scope, listed_scope, inside_scope, operand_scope, compared_scope, tested_type, type_asked, place_asked, place_inside, typed_scope, scope_of}
use Rattle.cedar_policy_json_writer.specs.Scopes.{place_json, compared_json, scope_json, head_json, is_variable, takes_type, is_in}
use Rattle.cedar_policy_json_laws.specs.Policies.{IsReadablePlace, AreReadableEntities, IsReadableHead, IsReadableConstraint, linked_slot, linked_operand, linked_constraint, LinkedScopeReadsBack, ScopeReadsBack}
use Rattle.cedar_policy_json_laws.proofs.Leaves.{name_back}

-- ---- tests that hold

never : {A : Type 0} → false ≡ true → A
never e = absurd (true≢false (sym e))

both_hold : (a b : Bool) → (a && b) ≡ true → (a ≡ true) × (b ≡ true)
both_hold true b e = (refl, e)
both_hold false b e = never e

-- the variable is the one that is tested for
variable_is : (v : Variable) (t : Term) → is_variable v t ≡ true → t ≡ variable v
variable_is v (variable w) e = ap variable (sym ((variable_eq-decides v w).0 e))
variable_is v _ e = never e

operator_is : (op : BinaryOperator) → is_in op ≡ true → op ≡ in_operator
operator_is in_operator e = refl
operator_is _ e = never e

-- ---- entities and places

entity_back : (e : EntityName) → is_name e.type_name ≡ true → entity_said (written_uid e) ≡ Ok (entity_term e)
entity_back e h =
    ap (λ (s : Said Text). made_of entity_term (made_of entity_of (both_said (under (at_key (codes "type")) s) (Ok e.id)))) (name_back e.type_name h)

-- what is written of the place, beside an operator and alone, says this term
record PlaceSays (is_open : Bool) (v : Variable) (u : Term) (p : Place) : Type 0 where
  beside : (k : Text) → target_said is_open v (compared_json k p) ≡ Ok u
  alone : place_said is_open v (place_json p) ≡ Ok u

-- if there is a place, and it can be read
abbrev PlaceSaysIf : Bool → Variable → Term → Option Place → Type 0
PlaceSaysIf is_open v u None = ⊤
PlaceSaysIf is_open v u (Some p) = IsReadablePlace is_open p → PlaceSays is_open v u p

entity_says : (is_open : Bool) (v : Variable) (e : EntityName) → is_name e.type_name ≡ true → PlaceSays is_open v (entity_term e) (entity_place e)
entity_says is_open v e h = record {
  beside = λ k. ap (under (at_key (codes "entity"))) (entity_back e h);
  alone = ap (under (at_key (codes "entity"))) (entity_back e h);
}

literal_says : (is_open : Bool) (v : Variable) (l : Literal) → PlaceSaysIf is_open v (literal l) (literal_place l)
literal_says is_open v (entity_literal e) = λ h. entity_says is_open v e h
literal_says is_open v _ = tt

slot_says : (is_open : Bool) (v : Variable) (x : Slot) → PlaceSaysIf is_open v (slot x) (own_slot v x)
slot_says is_open principal principal_slot = λ h. record {
  beside = λ k. ap (λ (b : Bool). slot_at b principal (string (codes "?principal"))) h;
  alone = ap (λ (b : Bool). slot_at b principal (string (codes "?principal"))) h;
}
slot_says is_open principal resource_slot = tt
slot_says is_open action x = tt
slot_says is_open resource principal_slot = tt
slot_says is_open resource resource_slot = λ h. record {
  beside = λ k. ap (λ (b : Bool). slot_at b resource (string (codes "?resource"))) h;
  alone = ap (λ (b : Bool). slot_at b resource (string (codes "?resource"))) h;
}
slot_says is_open context x = tt

linked_says : (is_open : Bool) (v : Variable) (x : Slot) (o : Option EntityName) → PlaceSaysIf is_open v (linked_slot x o) (linked_place v x o)
linked_says is_open v x None = slot_says is_open v x
linked_says is_open v x (Some e) = λ h. entity_says is_open v e h

place_says : (is_open : Bool) (s : Slots) (v : Variable) (u : Term) → PlaceSaysIf is_open v (linked_operand s u) (place_of s v u)
place_says is_open s v (literal l) = literal_says is_open v l
place_says is_open s v (slot x) = linked_says is_open v x (s x)
place_says is_open s v _ = tt

-- ---- `==` and `in`

-- the operator is read
operator_read : (is_open : Bool) (v : Variable) (k : Text) (p : Place) → scope_said is_open v (compared_json k p) ≡ constraint_said is_open v (compared_json k p) k
operator_read is_open v k (entity_place e) = refl
operator_read is_open v k (slot_place x) = refl

equal_back : (is_open : Bool) (v : Variable) (u : Term) (o : Option Place) → PlaceSaysIf is_open v u o → IsReadableHead is_open (option_map equal_to o)
    → scope_said is_open v (head_json (option_map equal_to o)) ≡ Ok (binary eq_operator (variable v) u)
equal_back is_open v u None says h = absurd h
equal_back is_open v u (Some p) says h =
    operator_read is_open v (codes "==") p ∙ ap (made_of (binary eq_operator (variable v))) ((says h).beside (codes "=="))

-- no list stands there
not_a_list : (is_open : Bool) (v : Variable) (p : Place) → inside_said is_open v (compared_json (codes "in") p) ≡ target_said is_open v (compared_json (codes "in") p)
not_a_list is_open principal p = refl
not_a_list is_open action (entity_place e) = refl
not_a_list is_open action (slot_place x) = refl
not_a_list is_open resource p = refl
not_a_list is_open context p = refl

inside_back : (is_open : Bool) (v : Variable) (u : Term) (o : Option Place) → PlaceSaysIf is_open v u o → IsReadableHead is_open (option_map inside o)
    → scope_said is_open v (head_json (option_map inside o)) ≡ Ok (binary in_operator (variable v) u)
inside_back is_open v u None says h = absurd h
inside_back is_open v u (Some p) says h =
    operator_read is_open v (codes "in") p
    ∙ ap (made_of (binary in_operator (variable v))) (not_a_list is_open v p ∙ (says h).beside (codes "in"))

-- ---- `in` a set of entities

entities_back : (n : ℕ) (es : List EntityName) → AreReadableEntities es → entities_from n (items_of (map written_uid es)) ≡ Ok (map entity_term es)
entities_back n [] h = refl
entities_back n (e ∷ es) h = λ i. before (under (at_index n) (entity_back e h.0 i)) (entities_back (n + 1) es h.1 i)

literal_among : (l : Literal) (ts : Terms) → is_some (entity_in (literal l)) ≡ true → terms_of (map entity_term (entities_in ts)) ≡ ts
    → terms_of (map entity_term (option_to_list (entity_in (literal l)) ++ entities_in ts)) ≡ one_term (literal l) ts
literal_among (entity_literal e) ts h same = ap (one_term (entity_term e)) same
literal_among _ ts h same = never h

entity_among : (t : Term) (ts : Terms) → is_some (entity_in t) ≡ true → terms_of (map entity_term (entities_in ts)) ≡ ts
    → terms_of (map entity_term (option_to_list (entity_in t) ++ entities_in ts)) ≡ one_term t ts
entity_among (literal l) ts h same = literal_among l ts h same
entity_among _ ts h same = never h

-- a set of entities is the set of the entities in it
entities_are : (ts : Terms) → are_entities ts ≡ true → terms_of (map entity_term (entities_in ts)) ≡ ts
entities_are no_terms h = refl
entities_are (one_term t ts) h =
    let hold : (is_some (entity_in t) ≡ true) × (are_entities ts ≡ true) = both_hold (is_some (entity_in t)) (are_entities ts) h in
    entity_among t ts hold.0 (entities_are ts hold.1)

-- a scope that there is where a test holds
tested_head : (is_open b : Bool) (o : Option Scope) → IsReadableHead is_open (cond b o None) → (b ≡ true) × IsReadableHead is_open o
tested_head is_open true o h = (refl, h)
tested_head is_open false o h = absurd h

listed_back : (is_open : Bool) (ts : Terms) → IsReadableHead is_open (listed_scope action ts)
    → scope_said is_open action (head_json (listed_scope action ts)) ≡ Ok (binary in_operator (variable action) (set_of ts))
listed_back is_open ts h =
    let is : (are_entities ts ≡ true) × AreReadableEntities (entities_in ts) = tested_head is_open (are_entities ts) (Some (inside_any (entities_in ts))) h in
    ap (λ (b : Bool). scope_said is_open action (head_json (cond b (Some (inside_any (entities_in ts))) None))) is.0
    ∙ ap (λ (s : Said (List Term)). made_of (binary in_operator (variable action)) (under (at_key (codes "entities")) (made_of set_of_terms s))) (entities_back 0 (entities_in ts) is.1)
    ∙ ap (λ (us : Terms). Ok (binary in_operator (variable action) (set_of us))) (entities_are ts is.0)

set_back : (is_open : Bool) (v : Variable) (ts : Terms) → IsReadableHead is_open (listed_scope v ts)
    → scope_said is_open v (head_json (listed_scope v ts)) ≡ Ok (binary in_operator (variable v) (set_of ts))
set_back is_open principal ts h = absurd h
set_back is_open action ts h = listed_back is_open ts h
set_back is_open resource ts h = absurd h
set_back is_open context ts h = absurd h

-- ---- comparisons

in_back : (is_open : Bool) (s : Slots) (v : Variable) (u : Term) → IsReadableHead is_open (inside_scope s v u)
    → scope_said is_open v (head_json (inside_scope s v u)) ≡ Ok (binary in_operator (variable v) (linked_operand s u))
in_back is_open s v (set_of ts) h = set_back is_open v ts h
in_back is_open s v (literal l) h = inside_back is_open v (literal l) (literal_place l) (literal_says is_open v l) h
in_back is_open s v (slot x) h = inside_back is_open v (linked_slot x (s x)) (linked_place v x (s x)) (linked_says is_open v x (s x)) h
in_back is_open s v _ h = absurd h

operand_back : (is_open : Bool) (s : Slots) (v : Variable) (op : BinaryOperator) (u : Term) → IsReadableHead is_open (operand_scope s v op u)
    → scope_said is_open v (head_json (operand_scope s v op u)) ≡ Ok (binary op (variable v) (linked_operand s u))
operand_back is_open s v eq_operator u h = equal_back is_open v (linked_operand s u) (place_of s v u) (place_says is_open s v u) h
operand_back is_open s v in_operator u h = in_back is_open s v u h
operand_back is_open s v _ u h = absurd h

compared_back : (is_open : Bool) (s : Slots) (v : Variable) (op : BinaryOperator) (t u : Term) → IsReadableHead is_open (compared_scope s v op t u)
    → scope_said is_open v (head_json (compared_scope s v op t u)) ≡ Ok (binary op t (linked_operand s u))
compared_back is_open s v op t u h =
    let is : (is_variable v t ≡ true) × IsReadableHead is_open (operand_scope s v op u) = tested_head is_open (is_variable v t) (operand_scope s v op u) h in
    ap (λ (b : Bool). scope_said is_open v (head_json (cond b (operand_scope s v op u) None))) is.0
    ∙ operand_back is_open s v op u is.1
    ∙ ap (λ (x : Term). Ok (binary op x (linked_operand s u))) (sym (variable_is v t is.0))

-- ---- tests of the type

tested_name : (is_open b : Bool) (n : Text) → IsReadableHead is_open (option_map of_type (cond b (Some n) None)) → (b ≡ true) × (is_name n ≡ true)
tested_name is_open true n h = (refl, h)
tested_name is_open false n h = absurd h

type_back : (is_open : Bool) (v : Variable) (n : Text) → takes_type v ≡ true → is_name n ≡ true → scope_said is_open v (scope_json (of_type n)) ≡ Ok (typed v n)
type_back is_open principal n takes h = ap (λ (s : Said Text). made_of (typed principal) (under (at_key (codes "entity_type")) s)) (name_back n h)
type_back is_open action n takes h = never takes
type_back is_open resource n takes h = ap (λ (s : Said Text). made_of (typed resource) (under (at_key (codes "entity_type")) s)) (name_back n h)
type_back is_open context n takes h = never takes

is_back : (is_open : Bool) (v : Variable) (t : Term) (n : Text) → IsReadableHead is_open (option_map of_type (tested_type v t n))
    → scope_said is_open v (head_json (option_map of_type (tested_type v t n))) ≡ Ok (is_of_type t n)
is_back is_open v t n h =
    let is : ((takes_type v && is_variable v t) ≡ true) × (is_name n ≡ true) = tested_name is_open (takes_type v && is_variable v t) n h in
    let hold : (takes_type v ≡ true) × (is_variable v t ≡ true) = both_hold (takes_type v) (is_variable v t) is.0 in
    ap (λ (b : Bool). scope_said is_open v (head_json (option_map of_type (cond b (Some n) None)))) is.0
    ∙ type_back is_open v n hold.0 is.1
    ∙ ap (λ (x : Term). Ok (is_of_type x n)) (sym (variable_is v t hold.1))

-- ---- tests of the type with a place

type_and_place_back : (is_open : Bool) (v : Variable) (n : Text) (p : Place) (u : Term) → takes_type v ≡ true → is_name n ≡ true → place_said is_open v (place_json p) ≡ Ok u
    → scope_said is_open v (scope_json (of_type_inside n p)) ≡ Ok (typed_inside v (n, u))
type_and_place_back is_open principal n p u takes h there =
    λ i. made_of (typed_inside principal) (both_said (under (at_key (codes "entity_type")) (name_back n h i)) (under (at_key (codes "in")) (there i)))
type_and_place_back is_open action n p u takes h there = never takes
type_and_place_back is_open resource n p u takes h there =
    λ i. made_of (typed_inside resource) (both_said (under (at_key (codes "entity_type")) (name_back n h i)) (under (at_key (codes "in")) (there i)))
type_and_place_back is_open context n p u takes h there = never takes

typed_back : (is_open : Bool) (v : Variable) (n : Text) (u : Term) (o : Option Place) → PlaceSaysIf is_open v u o → takes_type v ≡ true → IsReadableHead is_open (typed_scope (Some n) o)
    → scope_said is_open v (head_json (typed_scope (Some n) o)) ≡ Ok (typed_inside v (n, u))
typed_back is_open v n u None says takes h = absurd h
typed_back is_open v n u (Some p) says takes h = type_and_place_back is_open v n p u takes h.0 (says h.1).alone

tested_typed : (is_open b c : Bool) (n : Text) (o : Option Place) → IsReadableHead is_open (typed_scope (cond b (Some n) None) (cond c o None))
    → (b ≡ true) × (c ≡ true) × IsReadableHead is_open (typed_scope (Some n) o)
tested_typed is_open true true n o h = (refl, refl, h)
tested_typed is_open true false n o h = absurd h
tested_typed is_open false c n o h = absurd h

is_in_back : (is_open : Bool) (s : Slots) (v : Variable) (t : Term) (n : Text) (op : BinaryOperator) (a u : Term) → IsReadableHead is_open (typed_scope (tested_type v t n) (place_asked s v op a u))
    → scope_said is_open v (head_json (typed_scope (tested_type v t n) (place_asked s v op a u))) ≡ Ok (both (is_of_type t n) (binary op a (linked_operand s u)))
is_in_back is_open s v t n op a u h =
    let is : ((takes_type v && is_variable v t) ≡ true) × ((is_in op && is_variable v a) ≡ true) × IsReadableHead is_open (typed_scope (Some n) (place_of s v u)) = tested_typed is_open (takes_type v && is_variable v t) (is_in op && is_variable v a) n (place_of s v u) h in
    let left : (takes_type v ≡ true) × (is_variable v t ≡ true) = both_hold (takes_type v) (is_variable v t) is.0 in
    let right : (is_in op ≡ true) × (is_variable v a ≡ true) = both_hold (is_in op) (is_variable v a) is.1 in
    (λ i. scope_said is_open v (head_json (typed_scope (cond (is.0 i) (Some n) None) (cond (is.1 i) (place_of s v u) None))))
    ∙ typed_back is_open v n (linked_operand s u) (place_of s v u) (place_says is_open s v u) left.0 is.2
    ∙ (λ i. Ok (both (is_of_type (sym (variable_is v t left.1) i) n) (binary (sym (operator_is op right.0) i) (sym (variable_is v a right.1) i) (linked_operand s u))))

-- without a place there is no such scope
no_place : (is_open : Bool) (o : Option Text) → IsReadableHead is_open (typed_scope o None) → ⊥
no_place is_open None h = h
no_place is_open (Some n) h = h

place_back : (is_open : Bool) (s : Slots) (v : Variable) (t : Term) (n : Text) (u : Term) → IsReadableHead is_open (typed_scope (tested_type v t n) (place_inside s v u))
    → scope_said is_open v (head_json (typed_scope (tested_type v t n) (place_inside s v u))) ≡ Ok (both (is_of_type t n) (linked_constraint s u))
place_back is_open s v t n (binary op a b) h = is_in_back is_open s v t n op a b h
place_back is_open s v t n _ h = absurd (no_place is_open (tested_type v t n) h)

both_back : (is_open : Bool) (s : Slots) (v : Variable) (t u : Term) → IsReadableHead is_open (typed_scope (type_asked v t) (place_inside s v u))
    → scope_said is_open v (head_json (typed_scope (type_asked v t) (place_inside s v u))) ≡ Ok (both t (linked_constraint s u))
both_back is_open s v (is_of_type t n) u h = place_back is_open s v t n u h
both_back is_open s v _ u h = absurd h

-- ---- all of them

any_back : (is_open : Bool) (v : Variable) (l : Literal) → IsReadableHead is_open (any_scope l) → scope_said is_open v (head_json (any_scope l)) ≡ Ok (literal l)
any_back is_open v (bool_literal true) h = refl
any_back is_open v (bool_literal false) h = absurd h
any_back is_open v (long_literal n) h = absurd h
any_back is_open v (text_literal t) h = absurd h
any_back is_open v (entity_literal e) h = absurd h

pub scope_back : (is_open : Bool) (s : Slots) (v : Variable) (t : Term) → IsReadableConstraint is_open s v t → scope_said is_open v (head_json (scope_of s v t)) ≡ Ok (linked_constraint s t)
scope_back is_open s v (literal l) h = any_back is_open v l h
scope_back is_open s v (both t u) h = both_back is_open s v t u h
scope_back is_open s v (binary op t u) h = compared_back is_open s v op t u h
scope_back is_open s v (is_of_type t n) h = is_back is_open v t n h
scope_back is_open s v _ h = absurd h

-- ---- where no slot is linked

operand_stays : (t : Term) → linked_operand no_slots t ≡ t
operand_stays (slot x) = refl
operand_stays _ = refl

pub constraint_stays : (t : Term) → linked_constraint no_slots t ≡ t
constraint_stays (binary op t u) = ap (binary op t) (operand_stays u)
constraint_stays (both t u) = ap (both t) (constraint_stays u)
constraint_stays _ = refl

pub linked_scope_reads_back : (v : Variable) (t : Term) → LinkedScopeReadsBack v t
linked_scope_reads_back v t is_open s h = scope_back is_open s v t h

pub scope_reads_back : (v : Variable) (t : Term) → ScopeReadsBack v t
scope_reads_back v t is_open h = scope_back is_open no_slots v t h ∙ ap (λ (u : Term). Ok u) (constraint_stays t)
