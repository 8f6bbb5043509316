-- What a row tells of an expression is what it means in each world that has the row.
use Rattle.std.specs.Prelude.{ℤ, ◌||◌, is_some}
use Rattle.std.specs.declared.cmp.Ordering.{Ordering}
use Rattle.std.specs.Ordering.{is_lt, is_le}
use Rattle.std.proofs.Common.{◌≡◌, ◌∙◌, Bool, true, false, cond, ◌&&◌, List, Option, Some, None, refl, sym, ap, subst}
use Rattle.cedar_model.specs.Terms.{Text, EntityName, bool_literal, long_literal, text_literal, entity_literal}
use Rattle.cedar_model.specs.Terms.{BinaryOperator, eq_operator, less_operator, less_eq_operator, add_operator}
use Rattle.cedar_model.specs.Terms.{sub_operator, mul_operator, in_operator, contains_operator, contains_all_operator}
use Rattle.cedar_model.specs.Terms.{contains_any_operator, get_tag_operator, has_tag_operator, Term, literal, variable}
use Rattle.cedar_model.specs.Terms.{slot, unknown, if_then_else, both, either, unary, binary, call, get_attribute}
use Rattle.cedar_model.specs.Terms.{has_attribute, extended_has, like, is_of_type, set_of, record_of}
use Rattle.cedar_model.specs.Values.{AbstractValue, plain, set_value, record_value, extension_value, abstract_value}
use Rattle.cedar_model.specs.Outcomes.{Outcome, gives, errs, gives_bool, and_then, needing, bool_of, long_of, text_of}
use Rattle.cedar_model.specs.Outcomes.{entity_of, elements_of, text_eq, entity_eq, type_error}
use Rattle.cedar_model.specs.Outcomes.{entity_attribute_does_not_exist}
use Rattle.cedar_model.specs.Meaning.{meaning, and_then_bool, binary_meaning, comparison, order_of}
use Rattle.cedar_model.specs.Meaning.{extension_order, in_meaning, some_entity, has_ancestor, attribute_meaning}
use Rattle.cedar_model.specs.Meaning.{entity_attribute, or_errs, has_meaning, entity_has, entities_of}
use Rattle.cedar_model.specs.Failures.{PartialValue, value, residual}
use Rattle.cedar_model.specs.Settings.{StoredEntity, part_at, is_among}
use Rattle.cedar_model.specs.World.{WorldEntity, World, Slots, Extensions, Functions}
use Rattle.cedar_model.specs.Agreement.{AgreesAt}
use Rattle.cedar_names.specs.EqualityLaws.{text_eq-decides, entity_eq-decides}
use Rattle.cedar_filter.specs.Simplifying.{longs_order}
use Rattle.cedar_filter.specs.Rows.{Told, tells, untold, told_then, told_needing, told_bool, tells_bool, is_extension}
use Rattle.cedar_filter.specs.Rows.{comparison_told, part_told, attribute_told, has_told, in_told, binary_told, told}
use Rattle.cedar_filter.specs.Rows.{HasRow, TellsTheMeaning}

-- ---- what is told is so

-- where something is told, it is this outcome
abbrev pub Follows : Told → Outcome → Type 0
Follows r m = (p : Outcome) → r ≡ tells p → m ≡ p

the_outcome : Outcome → Told → Outcome
the_outcome o (tells p) = p
the_outcome o untold = o

pub tells_follows : (o : Outcome) → Follows (tells o) o
unfolding the_outcome
tells_follows o p is = ap (the_outcome o) is

untold_follows : (m : Outcome) → Follows untold m
untold_follows m p is = absurd (cc)

then_follows : (r : Told) (m : Outcome) (next : AbstractValue → Told) (f : AbstractValue → Outcome) → Follows r m →
    ((v : AbstractValue) → Follows (next v) (f v)) → Follows (told_then r next) (and_then m f)
unfolding and_then
then_follows (tells (gives v)) m next f h g p is =
    subst (λ (o : Outcome). and_then o f ≡ p) (sym (h (gives v) refl)) (g v p is)
then_follows (tells (errs k)) m next f h g p is =
    subst (λ (o : Outcome). and_then o f ≡ p) (sym (h (errs k) refl)) (tells_follows (errs k) p is)
then_follows untold m next f h g p is = absurd (cc)

needing_follows : {A : Type 0} (q : Option A) (next : A → Told) (f : A → Outcome) → ((y : A) → Follows (next y) (f y)) →
    Follows (told_needing q next) (needing q f)
unfolding needing
needing_follows None next f g = tells_follows (errs type_error)
needing_follows (Some y) next f g = g y

pub bool_follows : (r : Told) (m : Outcome) (next : Bool → Told) (f : Bool → Outcome) → Follows r m →
    ((b : Bool) → Follows (next b) (f b)) → Follows (told_bool r next) (and_then_bool m f)
bool_follows r m next f h g =
    then_follows r m (λ v. told_needing (bool_of v) next) (λ v. needing (bool_of v) f) h
    (λ v. needing_follows (bool_of v) next f g)

choice_follows : (b : Bool) (r s : Told) (m o : Outcome) → Follows r m → Follows s o → Follows (cond b r s) (cond b m o)
choice_follows true r s m o g h = g
choice_follows false r s m o g h = h

-- told where the test holds
where_true : (b : Bool) (r : Told) (m : Outcome) → (b ≡ true → Follows r m) → Follows (cond b r untold) m
where_true true r m g = g refl
where_true false r m g = untold_follows m

where_false : (b : Bool) (r : Told) (m : Outcome) → (b ≡ false → Follows r m) → Follows (cond b untold r) m
where_false true r m g = untold_follows m
where_false false r m g = g refl

-- ---- comparisons

longs_alone : (i j : Option ℤ) → order_of i j None ≡ longs_order i j
unfolding order_of
longs_alone (Some m) (Some n) = refl
longs_alone (Some m) None = refl
longs_alone None (Some n) = refl
longs_alone None None = refl

no_extension : (X : Extensions) (u v : AbstractValue) → (is_extension u && is_extension v) ≡ false →
    extension_order X u v ≡ None
unfolding extension_order
no_extension X (plain l) v is = refl
no_extension X (set_value vs) v is = refl
no_extension X (record_value fs) v is = refl
no_extension X (extension_value t k) (plain l) is = refl
no_extension X (extension_value t k) (set_value vs) is = refl
no_extension X (extension_value t k) (record_value fs) is = refl
no_extension X (extension_value t k) (extension_value s j) is = absurd (cc)

comparison_follows : (X : Extensions) (test : Ordering → Bool) (u v : AbstractValue) →
    Follows (comparison_told test u v) (needing (comparison X u v) (λ o. gives_bool (test o)))
comparison_follows X test u v =
    where_false (is_extension u && is_extension v) _ _ (λ is.
    let same : comparison X u v ≡ longs_order (long_of u) (long_of v) =
    ap (order_of (long_of u) (long_of v)) (no_extension X u v is) ∙ longs_alone (long_of u) (long_of v) in
    subst (λ (q : Option Ordering). Follows (tells (needing (longs_order (long_of u) (long_of v)) (λ o. gives_bool (test o)))) (needing q (λ o. gives_bool (test o))))
    (sym same) (tells_follows _))

-- ---- the row

module _ (X : Extensions) (ans : Functions) (w : World) (slots : Slots) (n : Text) (e : EntityName) (x : StoredEntity) (h : HasRow X ans w n e x) where
  part_follows : (q : Option PartialValue) (a : Option AbstractValue) → AgreesAt X ans w q a →
      Follows (part_told q) (or_errs entity_attribute_does_not_exist a)
  unfolding or_errs
  part_follows None None agrees = tells_follows _
  part_follows None (Some u) agrees = absurd agrees
  part_follows (Some q) None agrees = absurd agrees
  part_follows (Some (value v)) (Some u) agrees = λ p is. ap gives (sym agrees) ∙ tells_follows (gives (abstract_value v)) p is
  part_follows (Some (residual t)) (Some u) agrees = untold_follows _

  here_follows : (q : Option PartialValue) (a : Option AbstractValue) → AgreesAt X ans w q a →
      Follows (tells_bool (is_some q)) (gives_bool (is_some a))
  here_follows None None agrees = tells_follows _
  here_follows None (Some u) agrees = absurd agrees
  here_follows (Some q) None agrees = absurd agrees
  here_follows (Some q) (Some u) agrees = tells_follows _

  -- the row is the world's entity
  of_row : (d : EntityName) → entity_eq d e ≡ true → w.store d ≡ Some h.row
  of_row d is = ap w.store ((entity_eq-decides d e).0 is) ∙ h.is_there

  attribute_follows : (v : AbstractValue) (k : Text) → Follows (attribute_told e x v k) (attribute_meaning w v k)
  unfolding attribute_meaning entity_attribute
  attribute_follows (plain (bool_literal b)) k = tells_follows _
  attribute_follows (plain (long_literal i)) k = tells_follows _
  attribute_follows (plain (text_literal t)) k = tells_follows _
  attribute_follows (plain (entity_literal d)) k =
      where_true (entity_eq d e) _ _ (λ is.
      subst (λ (o : Option WorldEntity). Follows (part_told (part_at k x.attributes)) (entity_attribute o k)) (sym (of_row d is))
      (part_follows (part_at k x.attributes) (h.row.attribute k) (h.facts_agree.attributes_agree k)))
  attribute_follows (set_value vs) k = tells_follows _
  attribute_follows (record_value fs) k = tells_follows _
  attribute_follows (extension_value t j) k = tells_follows _

  has_follows : (v : AbstractValue) (k : Text) → Follows (has_told e x v k) (has_meaning w v k)
  unfolding has_meaning entity_has
  has_follows (plain (bool_literal b)) k = tells_follows _
  has_follows (plain (long_literal i)) k = tells_follows _
  has_follows (plain (text_literal t)) k = tells_follows _
  has_follows (plain (entity_literal d)) k =
      where_true (entity_eq d e) _ _ (λ is.
      subst (λ (o : Option WorldEntity). Follows (tells_bool (is_some (part_at k x.attributes))) (gives_bool (entity_has o k))) (sym (of_row d is))
      (here_follows (part_at k x.attributes) (h.row.attribute k) (h.facts_agree.attributes_agree k)))
  has_follows (set_value vs) k = tells_follows _
  has_follows (record_value fs) k = tells_follows _
  has_follows (extension_value t j) k = tells_follows _

  ancestors_follow : (d : EntityName) (es : List EntityName) → entity_eq d e ≡ true →
      Follows (tells_bool (some_entity (λ a. entity_eq d a || is_among a x.ancestors) es)) (in_meaning w d es)
  unfolding has_ancestor
  ancestors_follow d es is =
      let same : (a : EntityName) → has_ancestor (w.store d) a ≡ is_among a x.ancestors =
      λ a. ap (λ o. has_ancestor o a) (of_row d is) ∙ h.facts_agree.ancestors_agree a in
      λ p told. (λ i. gives_bool (some_entity (λ a. entity_eq d a || same a i) es)) ∙ tells_follows _ p told

  in_follows : (u v : AbstractValue) →
      Follows (in_told e x u v) (needing (entity_of u) (λ d. needing (entities_of v) (in_meaning w d)))
  in_follows u v =
      needing_follows (entity_of u) _ _ (λ d. needing_follows (entities_of v) _ _ (λ es.
      where_true (entity_eq d e) _ _ (ancestors_follow d es)))

  binary_follows : (op : BinaryOperator) (u v : AbstractValue) → Follows (binary_told e x op u v) (binary_meaning X w op u v)
  unfolding binary_meaning
  binary_follows eq_operator u v = tells_follows _
  binary_follows less_operator u v = comparison_follows X is_lt u v
  binary_follows less_eq_operator u v = comparison_follows X is_le u v
  binary_follows add_operator u v = untold_follows _
  binary_follows sub_operator u v = untold_follows _
  binary_follows mul_operator u v = untold_follows _
  binary_follows in_operator u v = in_follows u v
  binary_follows contains_operator u v = needing_follows (elements_of u) _ _ (λ us. tells_follows _)
  binary_follows contains_all_operator u v = untold_follows _
  binary_follows contains_any_operator u v = untold_follows _
  binary_follows get_tag_operator u v = untold_follows _
  binary_follows has_tag_operator u v = untold_follows _

  text_follows : (m : Text) → Follows (cond (text_eq m n) (tells (gives (plain (entity_literal e)))) untold) (gives (w.sigma m))
  text_follows m =
      where_true (text_eq m n) _ _ (λ is p told.
      ap gives (ap w.sigma ((text_eq-decides m n).0 is) ∙ h.stands) ∙ tells_follows _ p told)

  pub follows : (t : Term) → Follows (told n e x t) (meaning X ans w slots t)
  unfolding meaning
  follows (literal l) = tells_follows _
  follows (variable v) = untold_follows _
  follows (slot s) = untold_follows _
  follows (unknown m t) = text_follows m
  follows (if_then_else c a b) = bool_follows _ _ _ _ (follows c) (λ t. choice_follows t _ _ _ _ (follows a) (follows b))
  follows (both a b) =
      bool_follows _ _ _ _ (follows a) (λ t. choice_follows t _ _ _ _ (bool_follows _ _ _ _ (follows b) (λ b. tells_follows _)) (tells_follows _))
  follows (either a b) =
      bool_follows _ _ _ _ (follows a) (λ t. choice_follows t _ _ _ _ (tells_follows _) (bool_follows _ _ _ _ (follows b) (λ b. tells_follows _)))
  follows (unary op a) = then_follows _ _ _ _ (follows a) (λ v. tells_follows _)
  follows (binary op a b) =
      then_follows _ _ _ _ (follows a) (λ u. then_follows _ _ _ _ (follows b) (λ v. binary_follows op u v))
  follows (call f ts) = untold_follows _
  follows (get_attribute a k) = then_follows _ _ _ _ (follows a) (λ v. attribute_follows v k)
  follows (has_attribute a k) = then_follows _ _ _ _ (follows a) (λ v. has_follows v k)
  follows (extended_has a k ks) = untold_follows _
  follows (like a p) = then_follows _ _ _ _ (follows a) (λ v. needing_follows (text_of v) _ _ (λ t. tells_follows _))
  follows (is_of_type a t) =
      then_follows _ _ _ _ (follows a) (λ v. needing_follows (entity_of v) _ _ (λ d. tells_follows _))
  follows (set_of ts) = untold_follows _
  follows (record_of fs) = untold_follows _

pub tells_the_meaning : TellsTheMeaning
tells_the_meaning X ans w slots n e x t o h told = follows X ans w slots n e x h t o told
