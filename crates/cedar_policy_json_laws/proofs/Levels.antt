-- Expressions read back, level by level.
use Rattle.std.proofs.Common.{◌≡◌, ℕ, zero, suc, ◌+◌, Bool, false, eq-eqb, List, [], ◌∷◌, Option, Some, None, Ok, refl, ap, ◌∙◌, codes}
use Rattle.std.specs.Prelude.{if◌then◌else◌, ◌==◌, bytes_eq}
use Rattle.json.specs.Json.{Json, string, array}
use Rattle.cedar_model.specs.Terms.{Text, Literal, bool_literal, long_literal, text_literal, entity_literal, Variable, principal, action, resource, context, ValueType, bool_type, long_type, string_type, set_type, record_type, entity_type, extension_type}
use Rattle.cedar_model.specs.Terms.{UnaryOperator, not_operator, neg_operator, is_empty_operator, BinaryOperator, eq_operator, less_operator, less_eq_operator, add_operator, sub_operator, mul_operator, in_operator, contains_operator, contains_all_operator, contains_any_operator, get_tag_operator, has_tag_operator}
use Rattle.cedar_model.specs.Terms.{Term, literal, variable, slot, unknown, if_then_else, both, either, unary, binary, call, get_attribute, has_attribute, extended_has, like, is_of_type, set_of, record_of, Terms, no_terms, one_term, Fields, no_fields, one_field, terms_of}
use Rattle.cedar_model.specs.World.{Slots}
use Rattle.cedar_functions.specs.Functions.{Knowledge, known_of}
use Rattle.cedar_functions.specs.declared.functions.Known.{Known}
use Rattle.cedar_functions.specs.declared.functions.Known.TheVariants as known
use Rattle.cedar_json_writer.specs.Written.{two_members}
use Rattle.cedar_policy_json_reader.specs.declared.errors.RefusalReason.TheVariants as reasons
use Rattle.cedar_policy_json_reader.specs.Expressions.{Reading, Around, level_said, expression_said, undoubled_said, by_two_part, by_unary, operator_said, items_said, members_said, item_count, call_said, called_on, call_by_known, unique_said, record_of_pairs}
use Rattle.cedar_policy_json_reader.specs.Leaves.{name_said, entity_of, long_said, kind_said, typed, one_attribute, first_and_rest, has_term}
use Rattle.cedar_policy_json_reader.specs.Names.{TwoPart, plain, conjunction, disjunction, two_part_term, two_part_named}
use Rattle.cedar_policy_json_reader.specs.Paths.{at_key, at_index}
use Rattle.cedar_policy_json_reader.specs.Refusals.{Said, refused, under, before, both_said, made_of, and_then}
use Rattle.cedar_json_reader.proofs.Longs.{long_read}
use Rattle.cedar_policy_json_writer.specs.Expressions.{expression_json, items_json, members_json, two_operands}
use Rattle.cedar_policy_json_writer.specs.Names.{binary_name}
use Rattle.cedar_policy_json_laws.specs.Back.{IsReadableLiteral, IsReadableType, IsNoOperator, MayBeCalled, count_of, pairs_of, AllAre, AllAreAt, AreInOrder, IsReadableOver, IsReadable, ExpressionReadsBack}
use Rattle.cedar_policy_json_laws.proofs.Leaves.{name_back, texts_back, pattern_back}

-- ---- names of operators

binary_back : (op : BinaryOperator) → two_part_named (binary_name op) ≡ Some (plain op)
binary_back eq_operator = refl
binary_back less_operator = refl
binary_back less_eq_operator = refl
binary_back add_operator = refl
binary_back sub_operator = refl
binary_back mul_operator = refl
binary_back in_operator = refl
binary_back contains_operator = refl
binary_back contains_all_operator = refl
binary_back contains_any_operator = refl
binary_back get_tag_operator = refl
binary_back has_tag_operator = refl

-- what is chosen where the test fails
otherwise : {T : Type 0} (b : Bool) (x y : T) → b ≡ false → (if b then x else y) ≡ y
otherwise b x y e = ap (λ (c : Bool). if c then x else y) e

-- ---- one level over parts that read back

module _ (links : Slots) (c : Around) (says : Reading) (P : Term → Type 0) (part : (t : Term) → P t → says (expression_json links t) ≡ Ok t) where
  two_back : (k : Text) (op : TwoPart) (t u : Term) → two_part_named k ≡ Some op → P t → P u
      → level_said c says (two_operands k (expression_json links t) (expression_json links u)) ≡ Ok (two_part_term op t u)
  two_back k op t u is h g =
      ap (λ (o : Option TwoPart). under (at_key k) (by_two_part o c says k (two_members (codes "left") (expression_json links t) (codes "right") (expression_json links u)))) is
      ∙ (λ i. under (at_key k) (made_of (λ p. two_part_term op p.0 p.1) (both_said (under (at_key (codes "left")) (part t h i)) (under (at_key (codes "right")) (part u g i)))))

  unary_back : (op : UnaryOperator) (t : Term) → P t → level_said c says (expression_json links (unary op t)) ≡ Ok (unary op t)
  unary_back not_operator t h = λ i. under (at_key (codes "!")) (made_of (unary not_operator) (under (at_key (codes "arg")) (part t h i)))
  unary_back neg_operator t h = λ i. under (at_key (codes "neg")) (made_of (unary neg_operator) (under (at_key (codes "arg")) (part t h i)))
  unary_back is_empty_operator t h = λ i. under (at_key (codes "isEmpty")) (made_of (unary is_empty_operator) (under (at_key (codes "arg")) (part t h i)))

  -- ---- leaves

  literal_back : (l : Literal) → IsReadableLiteral l → level_said c says (expression_json links (literal l)) ≡ Ok (literal l)
  literal_back (bool_literal b) h = refl
  literal_back (long_literal n) h = ap (λ o. under (at_key (codes "Value")) (made_of literal (long_said o))) (long_read n h)
  literal_back (text_literal t) h = refl
  literal_back (entity_literal e) h =
      ap (λ (s : Said Text). under (at_key (codes "Value")) (made_of literal (under (at_key (codes "__entity")) (made_of entity_literal (made_of entity_of (both_said (under (at_key (codes "type")) s) (Ok e.id)))))))
      (name_back e.type_name h)

  variable_back : (v : Variable) → level_said c says (expression_json links (variable v)) ≡ Ok (variable v)
  variable_back principal = refl
  variable_back action = refl
  variable_back resource = refl
  variable_back context = refl

  -- a type with a name
  named_back : (n kind m : Text) (ty : ValueType) → (h : name_said (string m) ≡ Ok m) → kind_said (string kind) m ≡ Ok ty
      → under (at_key (codes "Unknown")) (made_of typed (both_said (Ok n) (under (at_key (codes "type")) (and_then (kind_said (string kind)) (under (at_key (codes "name")) (name_said (string m))))))) ≡ Ok (unknown n (Some ty))
  named_back n kind m ty h is =
      ap (λ (s : Said Text). under (at_key (codes "Unknown")) (made_of typed (both_said (Ok n) (under (at_key (codes "type")) (and_then (kind_said (string kind)) (under (at_key (codes "name")) s)))))) h
      ∙ ap (λ (s : Said ValueType). under (at_key (codes "Unknown")) (made_of typed (both_said (Ok n) (under (at_key (codes "type")) s)))) is

  unknown_back : (n : Text) (t : Option ValueType) → IsReadableType t → level_said c says (expression_json links (unknown n t)) ≡ Ok (unknown n t)
  unknown_back n None h = refl
  unknown_back n (Some bool_type) h = refl
  unknown_back n (Some long_type) h = refl
  unknown_back n (Some string_type) h = refl
  unknown_back n (Some set_type) h = refl
  unknown_back n (Some record_type) h = refl
  unknown_back n (Some (entity_type m)) h = named_back n (codes "Entity") m (entity_type m) (name_back m h) refl
  unknown_back n (Some (extension_type m)) h = named_back n (codes "Extension") m (extension_type m) (name_back m h) refl

  -- ---- parts in order

  list_of : Terms → List Term
  list_of no_terms = []
  list_of (one_term t ts) = t ∷ list_of ts

  listed : (ts : Terms) → terms_of (list_of ts) ≡ ts
  unfolding list_of
  listed no_terms = refl
  listed (one_term t ts) = ap (one_term t) (listed ts)

  parts_back : (n : ℕ) (ts : Terms) → AllAre P ts → items_said says n (items_json links ts) ≡ Ok (list_of ts)
  unfolding list_of
  parts_back n no_terms h = refl
  parts_back n (one_term t ts) h = λ i. before (under (at_index n) (part t h.0 i)) (parts_back (n + 1) ts h.1 i)

  counted : (ts : Terms) → item_count (items_json links ts) ≡ count_of ts
  counted no_terms = refl
  counted (one_term t ts) = ap suc (counted ts)

  fields_back : (fs : Fields) → AllAreAt P fs → members_said says (members_json links fs) ≡ Ok (pairs_of fs)
  fields_back no_fields h = refl
  fields_back (one_field k t fs) h = λ i. before (made_of (λ (u : Term). (k, u)) (under (at_key k) (part t h.0 i))) (fields_back fs h.1 i)

  set_back : (ts : Terms) → AllAre P ts → level_said c says (expression_json links (set_of ts)) ≡ Ok (set_of ts)
  set_back ts h =
      ap (λ (s : Said (List Term)). under (at_key (codes "Set")) (made_of (λ us. set_of (terms_of us)) s)) (parts_back 0 ts h)
      ∙ ap (λ (us : Terms). Ok (set_of us)) (listed ts)

  record_back : (fs : Fields) → AreInOrder fs → AllAreAt P fs → level_said c says (expression_json links (record_of fs)) ≡ Ok (record_of fs)
  record_back fs o h =
      ap (λ (s : Said (List (Text × Term))). under (at_key (codes "Record")) (and_then record_of_pairs s)) (fields_back fs h)
      ∙ ap (λ (r : Option Text). under (at_key (codes "Record")) (unique_said r (pairs_of fs))) o.0
      ∙ ap (λ (gs : Fields). Ok (record_of gs)) o.1

  -- ---- calls

  -- no operator is found
  no_operator : (k : Text) (j : Json) → IsNoOperator k → operator_said c says k j ≡ call_said c.known says k j
  no_operator k j h =
      ap (λ (o : Option TwoPart). by_two_part o c says k j) h.no_two_part
      ∙ ap (λ (o : Option UnaryOperator). by_unary o c says k j) h.no_unary
      ∙ otherwise (bytes_eq k (codes "Value")) _ _ h.no_value
      ∙ otherwise (bytes_eq k (codes "Var")) _ _ h.no_variable
      ∙ otherwise (bytes_eq k (codes "Slot")) _ _ h.no_slot
      ∙ otherwise (bytes_eq k (codes "Unknown")) _ _ h.no_unknown
      ∙ otherwise (bytes_eq k (codes ".")) _ _ h.no_get
      ∙ otherwise (bytes_eq k (codes "has")) _ _ h.no_has
      ∙ otherwise (bytes_eq k (codes "like")) _ _ h.no_like
      ∙ otherwise (bytes_eq k (codes "is")) _ _ h.no_is
      ∙ otherwise (bytes_eq k (codes "if-then-else")) _ _ h.no_if
      ∙ otherwise (bytes_eq k (codes "Set")) _ _ h.no_set
      ∙ otherwise (bytes_eq k (codes "Record")) _ _ h.no_record

  -- the arguments
  given_back : (f : Text) (ts : Terms) → AllAre P ts → made_of (λ us. call f (terms_of us)) (items_said says 0 (items_json links ts)) ≡ Ok (call f ts)
  given_back f ts h =
      ap (λ (s : Said (List Term)). made_of (λ us. call f (terms_of us)) s) (parts_back 0 ts h)
      ∙ ap (λ (us : Terms). Ok (call f us)) (listed ts)

  called_back : (k : Known) (f : Text) (ts : Terms) → MayBeCalled k f (count_of ts) → AllAre P ts → call_by_known says f k (array (items_json links ts)) ≡ Ok (call f ts)
  called_back known.Any f ts may h =
      ap (λ (b : Bool). if b then called_on says f (Some (items_json links ts)) else refused reasons.UnknownOperator) may ∙ given_back f ts h
  called_back (known.Function s m) f ts may h =
      ap (λ (n : ℕ). if n == m then made_of (λ us. call f (terms_of us)) (items_said says 0 (items_json links ts)) else refused reasons.WrongArguments) (counted ts ∙ may)
      ∙ ap (λ (b : Bool). if b then made_of (λ us. call f (terms_of us)) (items_said says 0 (items_json links ts)) else refused reasons.WrongArguments) (eq-eqb m m refl)
      ∙ given_back f ts h
  called_back known.Nothing f ts may h = absurd may

  call_back : (f : Text) (ts : Terms) → IsNoOperator f → MayBeCalled (known_of c.known f) f (count_of ts) → AllAre P ts → level_said c says (expression_json links (call f ts)) ≡ Ok (call f ts)
  call_back f ts apart may h =
      ap (under (at_key f)) (no_operator f (array (items_json links ts)) apart ∙ called_back (known_of c.known f) f ts may h)

  -- ---- all kinds

  level_back : (t : Term) → IsReadableOver P c.known t → level_said c says (expression_json links t) ≡ Ok t
  level_back (literal l) h = literal_back l h
  level_back (variable v) h = variable_back v
  level_back (slot s) h = absurd h
  level_back (unknown n t) h = unknown_back n t h
  level_back (if_then_else x y z) h =
      λ i. under (at_key (codes "if-then-else")) (made_of (λ q. if_then_else q.0 q.1.0 q.1.1) (both_said (under (at_key (codes "if")) (part x h.0 i))
      (both_said (under (at_key (codes "then")) (part y h.1 i)) (under (at_key (codes "else")) (part z h.2 i)))))
  level_back (both t u) h = two_back (codes "&&") conjunction t u refl h.0 h.1
  level_back (either t u) h = two_back (codes "||") disjunction t u refl h.0 h.1
  level_back (unary op t) h = unary_back op t h
  level_back (binary op t u) h = two_back (binary_name op) (plain op) t u (binary_back op) h.0 h.1
  level_back (call f ts) h = call_back f ts h.0 h.1 h.2
  level_back (get_attribute t k) h =
      λ i. under (at_key (codes ".")) (made_of (λ q. get_attribute q.1 q.0) (both_said (Ok k) (under (at_key (codes "left")) (part t h i))))
  level_back (has_attribute t k) h =
      λ i. under (at_key (codes "has")) (made_of (λ q. has_term q.0 q.1) (both_said (Ok (one_attribute k)) (under (at_key (codes "left")) (part t h i))))
  level_back (extended_has t k ks) h =
      λ i. under (at_key (codes "has")) (made_of (λ q. has_term q.0 q.1) (both_said (under (at_key (codes "attr")) (and_then first_and_rest (texts_back 0 (k ∷ ks) i))) (under (at_key (codes "left")) (part t h i))))
  level_back (like t p) h =
      λ i. under (at_key (codes "like")) (made_of (λ q. like q.1 q.0) (both_said (under (at_key (codes "pattern")) (pattern_back 0 p h.1 i)) (under (at_key (codes "left")) (part t h.0 i))))
  level_back (is_of_type t n) h =
      λ i. under (at_key (codes "is")) (made_of (λ q. is_of_type q.1 q.0) (both_said (under (at_key (codes "entity_type")) (name_back n h.1 i)) (under (at_key (codes "left")) (part t h.0 i))))
  level_back (set_of ts) h = set_back ts h
  level_back (record_of fs) h = record_back fs h.0 h.1

-- ---- so many levels

reads_back : (links : Slots) (k : Knowledge) (n : ℕ) (t : Term) → IsReadable k n t → expression_said k n (expression_json links t) ≡ Ok t
unfolding expression_said
reads_back links k zero t h = absurd h
reads_back links k (suc n) t h =
    level_back links (record { known = k; left = Some (undoubled_said k n) }) (expression_said k n) (IsReadable k n) (reads_back links k n) t h

pub expression_reads_back : (t : Term) → ExpressionReadsBack t
expression_reads_back t links k n h = reads_back links k n t h
