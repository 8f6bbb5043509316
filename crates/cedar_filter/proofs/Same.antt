-- What is made simpler means the same, and is no higher: connective by connective, then the whole.
use Rattle.std.specs.Prelude.{ℤ, option_map}
use Rattle.std.specs.declared.cmp.Ordering.{Ordering}
use Rattle.std.specs.Ordering.{is_lt, is_le}
use Rattle.std.proofs.Common.{◌≡◌, ◌∙◌, ℕ, suc, max, ◌≤◌, Bool, true, false, cond, not, ◌&&◌, List, [], ◌∷◌, Option, Some, None, refl, sym, subst, arith}
use Rattle.std.proofs.lemmas.Bool.{and_parts}
use Rattle.cedar_model.specs.Terms.{Text, Literal, bool_literal, long_literal, text_literal, entity_literal}
use Rattle.cedar_model.specs.Terms.{UnaryOperator, not_operator, neg_operator, is_empty_operator, BinaryOperator}
use Rattle.cedar_model.specs.Terms.{eq_operator, less_operator, less_eq_operator, add_operator, sub_operator}
use Rattle.cedar_model.specs.Terms.{mul_operator, in_operator, contains_operator, contains_all_operator}
use Rattle.cedar_model.specs.Terms.{contains_any_operator, get_tag_operator, has_tag_operator, Term, literal, variable}
use Rattle.cedar_model.specs.Terms.{slot, unknown, if_then_else, both, either, unary, binary, call, get_attribute}
use Rattle.cedar_model.specs.Terms.{has_attribute, extended_has, like, is_of_type, set_of, record_of}
use Rattle.cedar_model.specs.Values.{AbstractValue, plain, set_value, record_value, extension_value}
use Rattle.cedar_model.specs.Outcomes.{Outcome, gives, errs, gives_bool, and_then, needing, bool_of, long_of}
use Rattle.cedar_model.specs.World.{World, Slots, Extensions, Functions}
use Rattle.cedar_model.specs.Meaning.{meaning, and_then_bool, unary_meaning, binary_meaning, has_meaning, has_path}
use Rattle.cedar_model.specs.Meaning.{order_of}
use Rattle.cedar_model.specs.Agreement.{height}
use Rattle.cedar_filter.specs.Simplifying.{known_literal, known_truth, truth_of, is_true, is_false}
use Rattle.cedar_filter.specs.Simplifying.{answers_bools, answers_one_bool, is_boolean, simpler_both, simpler_either}
use Rattle.cedar_filter.specs.Simplifying.{negated_part, or_else, truth_or, negated_truth, simpler_not, simpler_if}
use Rattle.cedar_filter.specs.Simplifying.{comparison_truth, known_long, longs_order, simpler_binary}
use Rattle.cedar_filter.specs.Simplifying.{simpler_unary, simplified}

-- ---- choices

by_choice : {A : Type 0} (P : A → Type 0) (c : Bool) (x y : A) → (c ≡ true → P x) → (c ≡ false → P y) → P (cond c x y)
by_choice P true x y f g = f refl
by_choice P false x y f g = g refl

-- ---- what is known

pub known_is : (t : Term) (l : Literal) → known_literal t ≡ Some l → t ≡ literal l
known_is (literal m) l is = cc
known_is t l is = absurd (cc)

true_is : (o : Option Literal) → is_true (truth_of o) ≡ true → o ≡ Some (bool_literal true)
true_is None is = absurd (cc)
true_is (Some (bool_literal b)) is = cc
true_is (Some (long_literal n)) is = absurd (cc)
true_is (Some (text_literal t)) is = absurd (cc)
true_is (Some (entity_literal e)) is = absurd (cc)

false_is : (o : Option Literal) → is_false (truth_of o) ≡ true → o ≡ Some (bool_literal false)
false_is None is = absurd (cc)
false_is (Some (bool_literal true)) is = absurd (cc)
false_is (Some (bool_literal false)) is = refl
false_is (Some (long_literal n)) is = absurd (cc)
false_is (Some (text_literal t)) is = absurd (cc)
false_is (Some (entity_literal e)) is = absurd (cc)

known_true : (t : Term) → is_true (known_truth t) ≡ true → t ≡ literal (bool_literal true)
known_true t is = known_is t (bool_literal true) (true_is (known_literal t) is)

known_false : (t : Term) → is_false (known_truth t) ≡ true → t ≡ literal (bool_literal false)
known_false t is = known_is t (bool_literal false) (false_is (known_literal t) is)

-- ---- outcomes that are booleans or errors

abbrev IsBool : Outcome → Type 0
IsBool o = and_then_bool o gives_bool ≡ o

then_is_bool : (o : Outcome) (next : AbstractValue → Outcome) → ((v : AbstractValue) → IsBool (next v)) → IsBool (and_then o next)
unfolding and_then
then_is_bool (gives v) next h = h v
then_is_bool (errs e) next h = refl

needing_is_bool : {A : Type 0} (o : Option A) (next : A → Outcome) → ((x : A) → IsBool (next x)) → IsBool (needing o next)
unfolding and_then needing
needing_is_bool None next h = refl
needing_is_bool (Some x) next h = h x

bool_is_bool : (b : Bool) → IsBool (gives_bool b)
unfolding and_then needing bool_of
bool_is_bool b = refl

bind_is_bool : (o : Outcome) (next : Bool → Outcome) → ((b : Bool) → IsBool (next b)) → IsBool (and_then_bool o next)
bind_is_bool o next h = then_is_bool o (λ v. needing (bool_of v) next) (λ v. needing_is_bool (bool_of v) next h)

choice_is_bool : (b : Bool) (x y : Outcome) → IsBool x → IsBool y → IsBool (cond b x y)
choice_is_bool true x y f g = f
choice_is_bool false x y f g = g

has_is_bool : (w : World) (v : AbstractValue) (k : Text) → IsBool (has_meaning w v k)
unfolding has_meaning and_then needing bool_of
has_is_bool w (plain (bool_literal b)) k = refl
has_is_bool w (plain (long_literal n)) k = refl
has_is_bool w (plain (text_literal t)) k = refl
has_is_bool w (plain (entity_literal e)) k = refl
has_is_bool w (set_value vs) k = refl
has_is_bool w (record_value fs) k = refl
has_is_bool w (extension_value t j) k = refl

path_is_bool : (w : World) (v : AbstractValue) (k : Text) (ks : List Text) → IsBool (has_path w v k ks)
unfolding has_path
path_is_bool w v k [] = has_is_bool w v k
path_is_bool w v k (l ∷ ls) =
    bind_is_bool _ _ (λ b. choice_is_bool b _ _ (then_is_bool _ _ (λ u. path_is_bool w u l ls)) (bool_is_bool false))

unary_is_bool : (op : UnaryOperator) (v : AbstractValue) → answers_one_bool op ≡ true → IsBool (unary_meaning op v)
unfolding unary_meaning
unary_is_bool not_operator v is = needing_is_bool _ _ (λ b. bool_is_bool (not b))
unary_is_bool neg_operator v is = absurd (cc)
unary_is_bool is_empty_operator v is = needing_is_bool _ _ (λ vs. bool_is_bool _)

binary_is_bool : (X : Extensions) (w : World) (op : BinaryOperator) (u v : AbstractValue) → answers_bools op ≡ true → IsBool (binary_meaning X w op u v)
unfolding binary_meaning
binary_is_bool X w eq_operator u v is = bool_is_bool _
binary_is_bool X w less_operator u v is = needing_is_bool _ _ (λ o. bool_is_bool _)
binary_is_bool X w less_eq_operator u v is = needing_is_bool _ _ (λ o. bool_is_bool _)
binary_is_bool X w add_operator u v is = absurd (cc)
binary_is_bool X w sub_operator u v is = absurd (cc)
binary_is_bool X w mul_operator u v is = absurd (cc)
binary_is_bool X w in_operator u v is = needing_is_bool _ _ (λ d. needing_is_bool _ _ (λ es. bool_is_bool _))
binary_is_bool X w contains_operator u v is = needing_is_bool _ _ (λ us. bool_is_bool _)
binary_is_bool X w contains_all_operator u v is =
    needing_is_bool _ _ (λ us. needing_is_bool _ _ (λ vs. bool_is_bool _))
binary_is_bool X w contains_any_operator u v is =
    needing_is_bool _ _ (λ us. needing_is_bool _ _ (λ vs. bool_is_bool _))
binary_is_bool X w get_tag_operator u v is = absurd (cc)
binary_is_bool X w has_tag_operator u v is =
    needing_is_bool _ _ (λ d. needing_is_bool _ _ (λ t. bool_is_bool _))

-- a boolean goes on as it is where it is behind a known truth
true_behind : (o : Option Bool) → needing o (λ t. cond t (gives_bool true) (gives_bool false)) ≡ needing o gives_bool
unfolding needing
true_behind None = refl
true_behind (Some true) = refl
true_behind (Some false) = refl

twice_negated : (o : Option Bool) →
    and_then (needing o (λ b. gives_bool (not b))) (λ v. needing (bool_of v) (λ b. gives_bool (not b))) ≡ needing o gives_bool
unfolding and_then needing bool_of
twice_negated None = refl
twice_negated (Some true) = refl
twice_negated (Some false) = refl

module _ (X : Extensions) (ans : Functions) (w : World) (slots : Slots) where
  abbrev M : Term → Outcome
  M t = meaning X ans w slots t

  literal_is_bool : (l : Literal) → is_boolean (literal l) ≡ true → IsBool (gives (plain l))
  unfolding and_then needing bool_of
  literal_is_bool (bool_literal b) is = refl
  literal_is_bool (long_literal n) is = absurd (cc)
  literal_is_bool (text_literal t) is = absurd (cc)
  literal_is_bool (entity_literal e) is = absurd (cc)

  shown_is_bool : (t : Term) → is_boolean t ≡ true → IsBool (M t)
  unfolding meaning
  shown_is_bool (literal l) is = literal_is_bool l is
  shown_is_bool (variable v) is = absurd (cc)
  shown_is_bool (slot s) is = absurd (cc)
  shown_is_bool (unknown n t) is = absurd (cc)
  shown_is_bool (if_then_else c a b) is =
      let parts = and_parts (is_boolean a) (is_boolean b) is in
      bind_is_bool (M c) _ (λ t. choice_is_bool t (M a) (M b) (shown_is_bool a parts.0) (shown_is_bool b parts.1))
  shown_is_bool (both a b) is =
      bind_is_bool (M a) _ (λ t. choice_is_bool t _ _ (bind_is_bool (M b) _ bool_is_bool) (bool_is_bool false))
  shown_is_bool (either a b) is =
      bind_is_bool (M a) _ (λ t. choice_is_bool t _ _ (bool_is_bool true) (bind_is_bool (M b) _ bool_is_bool))
  shown_is_bool (unary op a) is = then_is_bool (M a) _ (λ v. unary_is_bool op v is)
  shown_is_bool (binary op a b) is =
      then_is_bool (M a) _ (λ u. then_is_bool (M b) _ (λ v. binary_is_bool X w op u v is))
  shown_is_bool (call f ts) is = absurd (cc)
  shown_is_bool (get_attribute a k) is = absurd (cc)
  shown_is_bool (has_attribute a k) is = then_is_bool (M a) _ (λ v. has_is_bool w v k)
  shown_is_bool (extended_has a k ks) is = then_is_bool (M a) _ (λ v. path_is_bool w v k ks)
  shown_is_bool (like a p) is = then_is_bool (M a) _ (λ v. needing_is_bool _ _ (λ t. bool_is_bool _))
  shown_is_bool (is_of_type a t) is = then_is_bool (M a) _ (λ v. needing_is_bool _ _ (λ e. bool_is_bool _))
  shown_is_bool (set_of ts) is = absurd (cc)
  shown_is_bool (record_of fs) is = absurd (cc)

  -- ---- one connective means the same

  abbrev Same : Term → Term → Type 0
  Same s t = M s ≡ M t

  behind : (o : Outcome) → and_then_bool o (λ t. cond t (gives_bool true) (gives_bool false)) ≡ and_then_bool o gives_bool
  unfolding and_then
  behind (gives v) = true_behind (bool_of v)
  behind (errs e) = refl

  false_both : (a b : Term) → a ≡ literal (bool_literal false) → Same a (both a b)
  unfolding meaning and_then needing bool_of
  false_both a b is = subst (λ t. Same t (both t b)) (sym is) refl

  true_both : (a b : Term) → a ≡ literal (bool_literal true) → is_boolean b ≡ true → Same b (both a b)
  unfolding meaning and_then needing bool_of
  true_both a b is bool = subst (λ t. Same b (both t b)) (sym is) (sym (shown_is_bool b bool))

  both_true : (a b : Term) → b ≡ literal (bool_literal true) → is_boolean a ≡ true → Same a (both a b)
  unfolding meaning and_then needing bool_of
  both_true a b is bool =
      subst (λ t. Same a (both a t)) (sym is) (sym (shown_is_bool a bool) ∙ sym (behind (M a)))

  true_either : (a b : Term) → a ≡ literal (bool_literal true) → Same a (either a b)
  unfolding meaning and_then needing bool_of
  true_either a b is = subst (λ t. Same t (either t b)) (sym is) refl

  false_either : (a b : Term) → a ≡ literal (bool_literal false) → is_boolean b ≡ true → Same b (either a b)
  unfolding meaning and_then needing bool_of
  false_either a b is bool = subst (λ t. Same b (either t b)) (sym is) (sym (shown_is_bool b bool))

  either_false : (a b : Term) → b ≡ literal (bool_literal false) → is_boolean a ≡ true → Same a (either a b)
  unfolding meaning and_then needing bool_of
  either_false a b is bool =
      subst (λ t. Same a (either a t)) (sym is) (sym (shown_is_bool a bool) ∙ sym (behind (M a)))

  both_same : (a b : Term) → Same (simpler_both a b) (both a b)
  both_same a b =
      by_choice (λ t. Same t (both a b)) (is_false (known_truth a)) _ _
      (λ f. false_both a b (known_false a f))
      (λ _. by_choice (λ t. Same t (both a b)) (is_true (known_truth a) && is_boolean b) _ _
      (λ f. let parts = and_parts _ _ f in true_both a b (known_true a parts.0) parts.1)
      (λ _. by_choice (λ t. Same t (both a b)) (is_true (known_truth b) && is_boolean a) _ _
      (λ f. let parts = and_parts _ _ f in both_true a b (known_true b parts.0) parts.1)
      (λ _. refl)))

  either_same : (a b : Term) → Same (simpler_either a b) (either a b)
  either_same a b =
      by_choice (λ t. Same t (either a b)) (is_true (known_truth a)) _ _
      (λ f. true_either a b (known_true a f))
      (λ _. by_choice (λ t. Same t (either a b)) (is_false (known_truth a) && is_boolean b) _ _
      (λ f. let parts = and_parts _ _ f in false_either a b (known_false a parts.0) parts.1)
      (λ _. by_choice (λ t. Same t (either a b)) (is_false (known_truth b) && is_boolean a) _ _
      (λ f. let parts = and_parts _ _ f in either_false a b (known_false b parts.0) parts.1)
      (λ _. refl)))

  if_true : (c a b : Term) → c ≡ literal (bool_literal true) → Same a (if_then_else c a b)
  unfolding meaning and_then needing bool_of
  if_true c a b is = subst (λ t. Same a (if_then_else t a b)) (sym is) refl

  if_false : (c a b : Term) → c ≡ literal (bool_literal false) → Same b (if_then_else c a b)
  unfolding meaning and_then needing bool_of
  if_false c a b is = subst (λ t. Same b (if_then_else t a b)) (sym is) refl

  if_same : (c a b : Term) → Same (simpler_if c a b) (if_then_else c a b)
  if_same c a b =
      by_choice (λ t. Same t (if_then_else c a b)) (is_true (known_truth c)) _ _
      (λ f. if_true c a b (known_true c f))
      (λ _. by_choice (λ t. Same t (if_then_else c a b)) (is_false (known_truth c)) _ _
      (λ f. if_false c a b (known_false c f))
      (λ _. refl))

  -- two negations of a boolean
  twice : (o : Outcome) → and_then (and_then o (unary_meaning not_operator)) (unary_meaning not_operator) ≡ and_then_bool o gives_bool
  unfolding and_then unary_meaning
  twice (gives v) = twice_negated (bool_of v)
  twice (errs e) = refl

  double : (c : Term) → is_boolean c ≡ true → Same c (unary not_operator (unary not_operator c))
  unfolding meaning
  double c bool = sym (shown_is_bool c bool) ∙ sym (twice (M c))

  not_true : (b : Bool) → Same (literal (bool_literal (not b))) (unary not_operator (literal (bool_literal b)))
  unfolding meaning and_then needing bool_of unary_meaning
  not_true b = refl

  other_same : (a : Term) → Same (or_else (negated_part a) (unary not_operator a)) (unary not_operator a)
  other_same (unary not_operator c) = inner (is_boolean c) refl
    where
      inner : (b : Bool) → is_boolean c ≡ b →
          Same (or_else (cond b (Some c) None) (unary not_operator (unary not_operator c))) (unary not_operator (unary not_operator c))
      inner true is = double c is
      inner false is = refl
  other_same t = refl

  truth_is : (o : Option Literal) (b : Bool) → truth_of o ≡ Some b → o ≡ Some (bool_literal b)
  truth_is None b is = absurd (cc)
  truth_is (Some (bool_literal c)) b is = cc
  truth_is (Some (long_literal n)) b is = absurd (cc)
  truth_is (Some (text_literal t)) b is = absurd (cc)
  truth_is (Some (entity_literal e)) b is = absurd (cc)

  not_same : (a : Term) → Same (simpler_not a) (unary not_operator a)
  not_same a = by (known_truth a) refl
    where
      by : (o : Option Bool) → known_truth a ≡ o →
          Same (truth_or (negated_truth o) (or_else (negated_part a) (unary not_operator a))) (unary not_operator a)
      by None is = other_same a
      by (Some b) is =
          let known = known_is a (bool_literal b) (truth_is (known_literal a) b is) in
          subst (λ t. Same (literal (bool_literal (not b))) (unary not_operator t)) (sym known) (not_true b)

  -- ---- comparisons

  literals_same : (op : BinaryOperator) (l m : Literal) →
      Same (truth_or (comparison_truth op (Some l) (Some m)) (binary op (literal l) (literal m))) (binary op (literal l) (literal m))
  unfolding meaning and_then binary_meaning needing long_of order_of
  literals_same eq_operator l m = refl
  literals_same less_operator (bool_literal b) m = refl
  literals_same less_operator (long_literal i) (bool_literal b) = refl
  literals_same less_operator (long_literal i) (long_literal j) = refl
  literals_same less_operator (long_literal i) (text_literal t) = refl
  literals_same less_operator (long_literal i) (entity_literal e) = refl
  literals_same less_operator (text_literal t) m = refl
  literals_same less_operator (entity_literal e) m = refl
  literals_same less_eq_operator (bool_literal b) m = refl
  literals_same less_eq_operator (long_literal i) (bool_literal b) = refl
  literals_same less_eq_operator (long_literal i) (long_literal j) = refl
  literals_same less_eq_operator (long_literal i) (text_literal t) = refl
  literals_same less_eq_operator (long_literal i) (entity_literal e) = refl
  literals_same less_eq_operator (text_literal t) m = refl
  literals_same less_eq_operator (entity_literal e) m = refl
  literals_same add_operator l m = refl
  literals_same sub_operator l m = refl
  literals_same mul_operator l m = refl
  literals_same in_operator l m = refl
  literals_same contains_operator l m = refl
  literals_same contains_all_operator l m = refl
  literals_same contains_any_operator l m = refl
  literals_same get_tag_operator l m = refl
  literals_same has_tag_operator l m = refl

  first_unknown : (op : BinaryOperator) (m : Option Literal) → comparison_truth op None m ≡ None
  first_unknown eq_operator m = refl
  first_unknown less_operator m = refl
  first_unknown less_eq_operator m = refl
  first_unknown add_operator m = refl
  first_unknown sub_operator m = refl
  first_unknown mul_operator m = refl
  first_unknown in_operator m = refl
  first_unknown contains_operator m = refl
  first_unknown contains_all_operator m = refl
  first_unknown contains_any_operator m = refl
  first_unknown get_tag_operator m = refl
  first_unknown has_tag_operator m = refl

  no_order : (test : Ordering → Bool) (i : Option ℤ) → option_map test (longs_order i None) ≡ None
  no_order test None = refl
  no_order test (Some n) = refl

  second_unknown : (op : BinaryOperator) (l : Literal) → comparison_truth op (Some l) None ≡ None
  second_unknown eq_operator l = refl
  second_unknown less_operator l = no_order is_lt (known_long (Some l))
  second_unknown less_eq_operator l = no_order is_le (known_long (Some l))
  second_unknown add_operator l = refl
  second_unknown sub_operator l = refl
  second_unknown mul_operator l = refl
  second_unknown in_operator l = refl
  second_unknown contains_operator l = refl
  second_unknown contains_all_operator l = refl
  second_unknown contains_any_operator l = refl
  second_unknown get_tag_operator l = refl
  second_unknown has_tag_operator l = refl

  binary_same : (op : BinaryOperator) (a b : Term) → Same (simpler_binary op a b) (binary op a b)
  binary_same op a b = by (known_literal a) (known_literal b) refl refl
    where
      by : (l m : Option Literal) → known_literal a ≡ l → known_literal b ≡ m →
          Same (truth_or (comparison_truth op l m) (binary op a b)) (binary op a b)
      by None m f g = subst (λ o. Same (truth_or o (binary op a b)) (binary op a b)) (sym (first_unknown op m)) refl
      by (Some l) None f g = subst (λ o. Same (truth_or o (binary op a b)) (binary op a b)) (sym (second_unknown op l)) refl
      by (Some l) (Some m) f g =
          subst (λ s. Same (truth_or (comparison_truth op (Some l) (Some m)) (binary op s b)) (binary op s b)) (sym (known_is a l f))
          (subst (λ s. Same (truth_or (comparison_truth op (Some l) (Some m)) (binary op (literal l) s)) (binary op (literal l) s)) (sym (known_is b m g))
          (literals_same op l m))

  -- ---- the whole

  unary_same : (op : UnaryOperator) (a s : Term) → Same s a → Same (simpler_unary op a s) (unary op a)
  unfolding meaning
  unary_same not_operator a s same = not_same s ∙ (λ i. and_then (same i) (unary_meaning not_operator))
  unary_same neg_operator a s same = refl
  unary_same is_empty_operator a s same = refl

  pub means_the_same : (t : Term) → Same (simplified t) t
  unfolding meaning
  means_the_same (literal l) = refl
  means_the_same (variable v) = refl
  means_the_same (slot s) = refl
  means_the_same (unknown n t) = refl
  means_the_same (if_then_else c a b) =
      if_same (simplified c) (simplified a) (simplified b)
      ∙ (λ i. and_then_bool (means_the_same c i) (λ t. cond t (means_the_same a i) (means_the_same b i)))
  means_the_same (both a b) =
      both_same (simplified a) (simplified b)
      ∙ (λ i. and_then_bool (means_the_same a i) (λ t. cond t (and_then_bool (means_the_same b i) gives_bool) (gives_bool false)))
  means_the_same (either a b) =
      either_same (simplified a) (simplified b)
      ∙ (λ i. and_then_bool (means_the_same a i) (λ t. cond t (gives_bool true) (and_then_bool (means_the_same b i) gives_bool)))
  means_the_same (unary op a) = unary_same op a (simplified a) (means_the_same a)
  means_the_same (binary op a b) = binary_same op a b
  means_the_same (call f ts) = refl
  means_the_same (get_attribute a k) = refl
  means_the_same (has_attribute a k) = refl
  means_the_same (extended_has a k ks) = refl
  means_the_same (like a p) = refl
  means_the_same (is_of_type a t) = refl
  means_the_same (set_of ts) = refl
  means_the_same (record_of fs) = refl

-- ---- no higher

abbrev IsLow : ℕ → Term → Type 0
IsLow n t = height t ≤ n

both_low : (a b : Term) (m n : ℕ) → height a ≤ m → height b ≤ n → height (simpler_both a b) ≤ suc (max m n)
both_low a b m n f g =
    by_choice (IsLow (suc (max m n))) (is_false (known_truth a)) _ _ (λ _. omega arith)
    (λ _. by_choice (IsLow (suc (max m n))) (is_true (known_truth a) && is_boolean b) _ _ (λ _. omega arith)
    (λ _. by_choice (IsLow (suc (max m n))) (is_true (known_truth b) && is_boolean a) _ _ (λ _. omega arith) (λ _. omega arith)))

either_low : (a b : Term) (m n : ℕ) → height a ≤ m → height b ≤ n → height (simpler_either a b) ≤ suc (max m n)
either_low a b m n f g =
    by_choice (IsLow (suc (max m n))) (is_true (known_truth a)) _ _ (λ _. omega arith)
    (λ _. by_choice (IsLow (suc (max m n))) (is_false (known_truth a) && is_boolean b) _ _ (λ _. omega arith)
    (λ _. by_choice (IsLow (suc (max m n))) (is_false (known_truth b) && is_boolean a) _ _ (λ _. omega arith) (λ _. omega arith)))

if_low : (c a b : Term) (l m n : ℕ) → height c ≤ l → height a ≤ m → height b ≤ n → height (simpler_if c a b) ≤ suc (max l (max m n))
if_low c a b l m n e f g =
    by_choice (IsLow (suc (max l (max m n)))) (is_true (known_truth c)) _ _ (λ _. omega arith)
    (λ _. by_choice (IsLow (suc (max l (max m n)))) (is_false (known_truth c)) _ _ (λ _. omega arith) (λ _. omega arith))

truth_low : (o : Option Bool) (t : Term) (n : ℕ) → height t ≤ suc n → height (truth_or o t) ≤ suc n
truth_low None t n h = h
truth_low (Some b) t n h = omega arith

negated_low : (a : Term) (n : ℕ) → height a ≤ n → height (or_else (negated_part a) (unary not_operator a)) ≤ suc n
negated_low (unary not_operator c) n h = inner (is_boolean c)
  where
    inner : (b : Bool) → height (or_else (cond b (Some c) None) (unary not_operator (unary not_operator c))) ≤ suc n
    inner true = omega arith
    inner false = omega arith
negated_low t n h = omega arith

unary_low : (op : UnaryOperator) (a s : Term) → height s ≤ height a → height (simpler_unary op a s) ≤ suc (height a)
unary_low not_operator a s h = truth_low (negated_truth (known_truth s)) _ (height a) (negated_low s (height a) h)
unary_low neg_operator a s h = omega arith
unary_low is_empty_operator a s h = omega arith

pub is_no_higher : (t : Term) → height (simplified t) ≤ height t
is_no_higher (literal l) = omega arith
is_no_higher (variable v) = omega arith
is_no_higher (slot s) = omega arith
is_no_higher (unknown n t) = omega arith
is_no_higher (if_then_else c a b) =
    if_low (simplified c) (simplified a) (simplified b) (height c) (height a) (height b) (is_no_higher c) (is_no_higher a) (is_no_higher b)
is_no_higher (both a b) = both_low (simplified a) (simplified b) (height a) (height b) (is_no_higher a) (is_no_higher b)
is_no_higher (either a b) = either_low (simplified a) (simplified b) (height a) (height b) (is_no_higher a) (is_no_higher b)
is_no_higher (unary op a) = unary_low op a (simplified a) (is_no_higher a)
is_no_higher (binary op a b) =
    truth_low (comparison_truth op (known_literal a) (known_literal b)) (binary op a b) (max (height a) (height b)) (omega arith)
is_no_higher (call f ts) = omega arith
is_no_higher (get_attribute a k) = omega arith
is_no_higher (has_attribute a k) = omega arith
is_no_higher (extended_has a k ks) = omega arith
is_no_higher (like a p) = omega arith
is_no_higher (is_of_type a t) = omega arith
is_no_higher (set_of ts) = omega arith
is_no_higher (record_of fs) = omega arith
