-- What an expression means is of the kind that it shows.
use Rattle.std.proofs.Common.{◌≡◌, ℤ, Bool, true, false, cond, Option, None, Some, Result, Ok, Err, List, [], ◌∷◌, refl, sym, subst}
use Rattle.cedar_model.specs.Terms.{Text, EntityName, Variable, principal, action, resource, context}
use Rattle.cedar_model.specs.Terms.{bool_literal, long_literal, text_literal, entity_literal}
use Rattle.cedar_model.specs.Terms.{UnaryOperator, not_operator, neg_operator, is_empty_operator, BinaryOperator}
use Rattle.cedar_model.specs.Terms.{eq_operator, less_operator, less_eq_operator, add_operator, sub_operator}
use Rattle.cedar_model.specs.Terms.{mul_operator, in_operator, contains_operator, contains_all_operator}
use Rattle.cedar_model.specs.Terms.{contains_any_operator, get_tag_operator, has_tag_operator, Term, literal, variable}
use Rattle.cedar_model.specs.Terms.{slot, unknown, if_then_else, both, either, unary, binary, call, get_attribute}
use Rattle.cedar_model.specs.Terms.{has_attribute, extended_has, like, is_of_type, set_of, record_of}
use Rattle.cedar_model.specs.Values.{AbstractValue, plain, set_value, record_value, extension_value}
use Rattle.cedar_model.specs.Outcomes.{ErrorKind, Outcome, gives, errs, gives_bool, and_then, needing}
use Rattle.cedar_model.specs.World.{World, Slots, Extensions, Functions, variable_value}
use Rattle.cedar_model.specs.Meaning.{meaning, and_then_bool, and_then_all, slot_meaning, long_outcome, unary_meaning, binary_meaning, has_meaning, has_path, attribute_meaning}
use Rattle.cedar_unsatisfiable.specs.Kinds.{Kind, truth, number, entity, set, record_kind, literal_kind, kind_of, variable_kind, unary_kind, binary_kind, kind_shown, is_wrong}

-- a value that is meant is of the kind
abbrev pub Shows : Kind → Outcome → Type 0
Shows k o = (v : AbstractValue) → o ≡ gives v → kind_of v ≡ Some k

shows_value : (k : Kind) (u : AbstractValue) → kind_of u ≡ Some k → Shows k (gives u)
shows_value k u is v f =
    let same : u ≡ v = cc in
    subst (λ (x : AbstractValue). kind_of x ≡ Some k) same is

shows_error : (k : Kind) (e : ErrorKind) → Shows k (errs e)
shows_error k e v f = absurd (cc)

shows_bool : (b : Bool) → Shows truth (gives_bool b)
shows_bool b = shows_value truth (plain (bool_literal b)) refl

shows_then : (k : Kind) (o : Outcome) (next : AbstractValue → Outcome) → ((v : AbstractValue) → Shows k (next v)) → Shows k (and_then o next)
unfolding and_then
shows_then k (gives v) next f = f v
shows_then k (errs e) next f = shows_error k e

shows_needing : {A : Type 0} → (k : Kind) (q : Option A) (next : A → Outcome) → ((x : A) → Shows k (next x)) → Shows k (needing q next)
unfolding needing
shows_needing k None next f = shows_error k _
shows_needing k (Some x) next f = f x

shows_cond : (k : Kind) (b : Bool) (p q : Outcome) → Shows k p → Shows k q → Shows k (cond b p q)
shows_cond k true p q f g = f
shows_cond k false p q f g = g

shows_all : {A : Type 0} → (k : Kind) (r : Result A ErrorKind) (next : A → Outcome) → ((x : A) → Shows k (next x)) → Shows k (and_then_all r next)
unfolding and_then_all
shows_all k (Ok x) next f = f x
shows_all k (Err e) next f = shows_error k e

-- goes on with a boolean
shows_then_bool : (k : Kind) (o : Outcome) (next : Bool → Outcome) → ((b : Bool) → Shows k (next b)) → Shows k (and_then_bool o next)
shows_then_bool k o next f = shows_then k o _ (λ v. shows_needing k _ next f)

shows_long : (n : ℤ) → Shows number (long_outcome n)
shows_long n = shows_cond number _ _ _ (shows_value number (plain (long_literal n)) refl) (shows_error number _)

shows_slot : (o : Option EntityName) → Shows entity (slot_meaning o)
unfolding slot_meaning
shows_slot None = shows_error entity _
shows_slot (Some e) = shows_value entity (plain (entity_literal e)) refl

shows_has : (w : World) (v : AbstractValue) (k : Text) → Shows truth (has_meaning w v k)
unfolding has_meaning
shows_has w (plain (bool_literal b)) k = shows_error truth _
shows_has w (plain (long_literal n)) k = shows_error truth _
shows_has w (plain (text_literal t)) k = shows_error truth _
shows_has w (plain (entity_literal e)) k = shows_bool _
shows_has w (set_value vs) k = shows_error truth _
shows_has w (record_value fs) k = shows_bool _
shows_has w (extension_value t j) k = shows_error truth _

shows_path : (w : World) (v : AbstractValue) (k : Text) (ks : List Text) → Shows truth (has_path w v k ks)
unfolding has_path
shows_path w v k [] = shows_has w v k
shows_path w v k (l ∷ ls) =
    shows_then_bool truth (has_meaning w v k) _
    (λ b. shows_cond truth b _ _ (shows_then truth (attribute_meaning w v k) _ (λ u. shows_path w u l ls)) (shows_bool false))

shows_variable : (w : World) (x : Variable) → kind_of (variable_value w x) ≡ Some (variable_kind x)
unfolding variable_value
shows_variable w principal = refl
shows_variable w action = refl
shows_variable w resource = refl
shows_variable w context = refl

shows_unary : (op : UnaryOperator) (v : AbstractValue) → Shows (unary_kind op) (unary_meaning op v)
unfolding unary_meaning
shows_unary not_operator v = shows_needing truth _ _ (λ b. shows_bool _)
shows_unary neg_operator v = shows_needing number _ _ (λ n. shows_long _)
shows_unary is_empty_operator v = shows_needing truth _ _ (λ vs. shows_bool _)

-- the kind is shown, if one is
abbrev pub ShowsIf : Option Kind → Outcome → Type 0
ShowsIf None o = Unit {0}
ShowsIf (Some k) o = Shows k o

module _ (X : Extensions) (ans : Functions) (w : World) (slots : Slots) where
  abbrev M : Term → Outcome
  M t = meaning X ans w slots t

  shows_binary : (op : BinaryOperator) (a b : Term) → ShowsIf (binary_kind op) (M (binary op a b))
  unfolding meaning binary_meaning
  shows_binary eq_operator a b = shows_then truth (M a) _ (λ u. shows_then truth (M b) _ (λ v. shows_bool _))
  shows_binary less_operator a b =
      shows_then truth (M a) _ (λ u. shows_then truth (M b) _ (λ v. shows_needing truth _ _ (λ o. shows_bool _)))
  shows_binary less_eq_operator a b =
      shows_then truth (M a) _ (λ u. shows_then truth (M b) _ (λ v. shows_needing truth _ _ (λ o. shows_bool _)))
  shows_binary add_operator a b =
      shows_then number (M a) _ (λ u. shows_then number (M b) _
      (λ v. shows_needing number _ _ (λ m. shows_needing number _ _ (λ n. shows_long _))))
  shows_binary sub_operator a b =
      shows_then number (M a) _ (λ u. shows_then number (M b) _
      (λ v. shows_needing number _ _ (λ m. shows_needing number _ _ (λ n. shows_long _))))
  shows_binary mul_operator a b =
      shows_then number (M a) _ (λ u. shows_then number (M b) _
      (λ v. shows_needing number _ _ (λ m. shows_needing number _ _ (λ n. shows_long _))))
  shows_binary in_operator a b =
      shows_then truth (M a) _ (λ u. shows_then truth (M b) _
      (λ v. shows_needing truth _ _ (λ d. shows_needing truth _ _ (λ es. shows_bool _))))
  shows_binary contains_operator a b =
      shows_then truth (M a) _ (λ u. shows_then truth (M b) _ (λ v. shows_needing truth _ _ (λ us. shows_bool _)))
  shows_binary contains_all_operator a b =
      shows_then truth (M a) _ (λ u. shows_then truth (M b) _
      (λ v. shows_needing truth _ _ (λ us. shows_needing truth _ _ (λ vs. shows_bool _))))
  shows_binary contains_any_operator a b =
      shows_then truth (M a) _ (λ u. shows_then truth (M b) _
      (λ v. shows_needing truth _ _ (λ us. shows_needing truth _ _ (λ vs. shows_bool _))))
  shows_binary get_tag_operator a b = tt
  shows_binary has_tag_operator a b =
      shows_then truth (M a) _ (λ u. shows_then truth (M b) _
      (λ v. shows_needing truth _ _ (λ d. shows_needing truth _ _ (λ t. shows_bool _))))

  pub shown : (t : Term) → ShowsIf (kind_shown t) (M t)
  unfolding meaning
  shown (literal l) = shows_value (literal_kind l) (plain l) refl
  shown (variable x) = shows_value (variable_kind x) (variable_value w x) (shows_variable w x)
  shown (slot s) = shows_slot (slots s)
  shown (unknown n t) = tt
  shown (if_then_else c a b) = tt
  shown (both a b) =
      shows_then_bool truth (M a) _
      (λ t. shows_cond truth t _ _ (shows_then_bool truth (M b) gives_bool (λ u. shows_bool u)) (shows_bool false))
  shown (either a b) =
      shows_then_bool truth (M a) _
      (λ t. shows_cond truth t _ _ (shows_bool true) (shows_then_bool truth (M b) gives_bool (λ u. shows_bool u)))
  shown (unary op a) = shows_then (unary_kind op) (M a) _ (λ v. shows_unary op v)
  shown (binary op a b) = shows_binary op a b
  shown (call f ts) = tt
  shown (get_attribute a k) = tt
  shown (has_attribute a k) = shows_then truth (M a) _ (λ v. shows_has w v k)
  shown (extended_has a k ks) = shows_then truth (M a) _ (λ v. shows_path w v k ks)
  shown (like a p) = shows_then truth (M a) _ (λ v. shows_needing truth _ _ (λ t. shows_bool _))
  shown (is_of_type a t) = shows_then truth (M a) _ (λ v. shows_needing truth _ _ (λ e. shows_bool _))
  shown (set_of ts) = shows_all set _ _ (λ vs. shows_value set _ refl)
  shown (record_of fs) = shows_all record_kind _ _ (λ gs. shows_value record_kind _ refl)

  of_kind : (takes_it : Kind → Bool) (q : Option Kind) (o : Outcome) → ShowsIf q o → is_wrong takes_it q ≡ true
      → (v : AbstractValue) → o ≡ gives v → is_wrong takes_it (kind_of v) ≡ true
  of_kind takes_it None o shows wrong v f = absurd (cc)
  of_kind takes_it (Some k) o shows wrong v f =
      subst (λ (q : Option Kind). is_wrong takes_it q ≡ true) (sym (shows v f)) wrong

  -- the value of an expression that shows a kind which is not taken is of such a kind
  pub wrong_value : (takes_it : Kind → Bool) (t : Term) → is_wrong takes_it (kind_shown t) ≡ true
      → (v : AbstractValue) → M t ≡ gives v → is_wrong takes_it (kind_of v) ≡ true
  wrong_value takes_it t wrong = of_kind takes_it (kind_shown t) (M t) (shown t) wrong
