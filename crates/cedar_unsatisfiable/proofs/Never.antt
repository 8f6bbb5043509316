-- What shows that it is never true is true in no world.
use Rattle.std.proofs.Common.{◌≡◌, ◌≢◌, ◌∙◌, Bool, true, false, cond, ◌||◌, ◌⊎◌, inl, inr, Option, None, Some, Result, Ok, Err, refl, ap}
use Rattle.std.proofs.lemmas.Bool.{and_parts, or_cases}
use Rattle.cedar_model.specs.Terms.{Literal, bool_literal, long_literal, text_literal, entity_literal, Term, literal}
use Rattle.cedar_model.specs.Terms.{if_then_else, both, either, set_of, record_of}
use Rattle.cedar_model.specs.Values.{AbstractValue, AbstractFields, plain, set_value, record_value, extension_value}
use Rattle.cedar_model.specs.Sets.{abstract_set}
use Rattle.cedar_model.specs.Outcomes.{ErrorKind, Outcome, gives, errs, gives_bool, and_then, needing, bool_of}
use Rattle.cedar_model.specs.World.{World, Slots, Extensions, Functions}
use Rattle.cedar_model.specs.Meaning.{meaning, and_then_bool, and_then_all, meanings, field_meanings}
use Rattle.cedar_model.specs.Policies.{verdict, satisfied}
use Rattle.std.specs.Prelude.{List}
use Rattle.cedar_unsatisfiable.specs.Showing.{conjunct_clashes, clash, is_no_truth, shows_never, IsNeverTrue, IsNeverSatisfied}
use Rattle.cedar_unsatisfiable.proofs.Said.{pair_never}

-- ---- what a true connective is made of

true_bool : (v : AbstractValue) (b : Bool) → bool_of v ≡ Some b → v ≡ plain (bool_literal b)
unfolding bool_of
true_bool (plain (bool_literal c)) b is = cc
true_bool (plain (long_literal n)) b is = absurd (cc)
true_bool (plain (text_literal t)) b is = absurd (cc)
true_bool (plain (entity_literal e)) b is = absurd (cc)
true_bool (set_value vs) b is = absurd (cc)
true_bool (record_value fs) b is = absurd (cc)
true_bool (extension_value t k) b is = absurd (cc)

-- the test is a boolean, by which it goes on to `true`
abbrev Goes : Outcome → (Bool → Outcome) → Type 0
Goes o next = (b : Bool) × (o ≡ gives_bool b) × (next b ≡ gives_bool true)

goes_needing : (v : AbstractValue) (q : Option Bool) (next : Bool → Outcome) → bool_of v ≡ q → needing q next ≡ gives_bool true → Goes (gives v) next
unfolding needing
goes_needing v None next is h = absurd (cc)
goes_needing v (Some b) next is h = (b, ap gives (true_bool v b is), h)

goes : (o : Outcome) (next : Bool → Outcome) → and_then_bool o next ≡ gives_bool true → Goes o next
unfolding and_then
goes (gives v) next h = goes_needing v (bool_of v) next refl h
goes (errs e) next h = absurd (cc)

-- `&&`
both_true_by : (p q : Outcome) (b : Bool) → p ≡ gives_bool b → cond b (and_then_bool q gives_bool) (gives_bool false) ≡ gives_bool true →
    (p ≡ gives_bool true) × (q ≡ gives_bool true)
both_true_by p q true is h =
    let g = goes q gives_bool h in
    (is, g.1 ∙ g.2)
both_true_by p q false is h = absurd (cc)

both_true : (p q : Outcome) → and_then_bool p (λ t. cond t (and_then_bool q gives_bool) (gives_bool false)) ≡ gives_bool true →
    (p ≡ gives_bool true) × (q ≡ gives_bool true)
both_true p q h =
    let g = goes p (λ t. cond t (and_then_bool q gives_bool) (gives_bool false)) h in
    both_true_by p q g.0 g.1 g.2

-- `||`
either_true_by : (p q : Outcome) (b : Bool) → p ≡ gives_bool b → cond b (gives_bool true) (and_then_bool q gives_bool) ≡ gives_bool true →
    (p ≡ gives_bool true) ⊎ (q ≡ gives_bool true)
either_true_by p q true is h = inl is
either_true_by p q false is h =
    let g = goes q gives_bool h in
    inr (g.1 ∙ g.2)

either_true : (p q : Outcome) → and_then_bool p (λ t. cond t (gives_bool true) (and_then_bool q gives_bool)) ≡ gives_bool true →
    (p ≡ gives_bool true) ⊎ (q ≡ gives_bool true)
either_true p q h =
    let g = goes p (λ t. cond t (gives_bool true) (and_then_bool q gives_bool)) h in
    either_true_by p q g.0 g.1 g.2

-- `if`
chosen_true_by : (p q : Outcome) (b : Bool) → cond b p q ≡ gives_bool true → (p ≡ gives_bool true) ⊎ (q ≡ gives_bool true)
chosen_true_by p q true h = inl h
chosen_true_by p q false h = inr h

chosen_true : (o p q : Outcome) → and_then_bool o (λ t. cond t p q) ≡ gives_bool true → (p ≡ gives_bool true) ⊎ (q ≡ gives_bool true)
chosen_true o p q h =
    let g = goes o (λ t. cond t p q) h in
    chosen_true_by p q g.0 g.2

no_set : (r : Result (List AbstractValue) ErrorKind) → and_then_all r (λ vs. gives (set_value (abstract_set vs))) ≢ gives_bool true
unfolding and_then_all
no_set (Ok vs) h = cc
no_set (Err e) h = cc

no_record : (r : Result AbstractFields ErrorKind) → and_then_all r (λ gs. gives (record_value gs)) ≢ gives_bool true
unfolding and_then_all
no_record (Ok fs) h = cc
no_record (Err e) h = cc

no_literal : (l : Literal) → is_no_truth l ≡ true → gives (plain l) ≢ gives_bool true
no_literal (bool_literal true) is h = cc
no_literal (bool_literal false) is h = cc
no_literal (long_literal n) is h = cc
no_literal (text_literal t) is h = cc
no_literal (entity_literal e) is h = cc

by_one : {A B C : Type 0} → A ⊎ B → (A → C) → (B → C) → C
by_one (inl a) f g = f a
by_one (inr b) f g = g b

-- ---- conditions

module _ (X : Extensions) (ans : Functions) (w : World) (slots : Slots) where
  abbrev M : Term → Outcome
  M t = meaning X ans w slots t

  conjunct_never : (a b : Term) → conjunct_clashes a b ≡ true → M a ≡ gives_bool true → M b ≡ gives_bool true → ⊥
  unfolding meaning
  conjunct_never a (both x y) h f g =
      let parts = both_true (M x) (M y) g in
      by_one (or_cases (conjunct_clashes a x) (conjunct_clashes a y) h)
      (λ i. conjunct_never a x i f parts.0) (λ i. conjunct_never a y i f parts.1)
  conjunct_never a b h f g = pair_never X ans w slots a b h f g

  clash_never : (a b : Term) → clash a b ≡ true → M a ≡ gives_bool true → M b ≡ gives_bool true → ⊥
  unfolding meaning
  clash_never (both x y) b h f g =
      let parts = both_true (M x) (M y) f in
      by_one (or_cases (clash x b) (clash y b) h)
      (λ i. clash_never x b i parts.0 g) (λ i. clash_never y b i parts.1 g)
  clash_never a b h f g = conjunct_never a b h f g

  pub never : (t : Term) → shows_never t ≡ true → M t ≢ gives_bool true
  unfolding meaning
  never (literal l) h f = no_literal l h f
  never (if_then_else c a b) h f =
      let parts = and_parts (shows_never a) (shows_never b) h in
      by_one (chosen_true (M c) (M a) (M b) f) (never a parts.0) (never b parts.1)
  never (both a b) h f =
      let parts = both_true (M a) (M b) f in
      by_one (or_cases (shows_never a) (shows_never b || clash a b) h) (λ i. never a i parts.0)
      (λ i. by_one (or_cases (shows_never b) (clash a b) i) (λ j. never b j parts.1)
      (λ j. clash_never a b j parts.0 parts.1))
  never (either a b) h f =
      let parts = and_parts (shows_never a) (shows_never b) h in
      by_one (either_true (M a) (M b) f) (never a parts.0) (never b parts.1)
  never (set_of ts) h f = no_set (meanings X ans w slots ts) f
  never (record_of fs) h f = no_record (field_meanings X ans w slots fs) f
  never t h f = cc

satisfied_is : (o : Outcome) → verdict o ≡ satisfied → o ≡ gives_bool true
unfolding verdict
satisfied_is (gives (plain (bool_literal true))) h = refl
satisfied_is (gives (plain (bool_literal false))) h = absurd (cc)
satisfied_is (gives (plain (long_literal n))) h = absurd (cc)
satisfied_is (gives (plain (text_literal t))) h = absurd (cc)
satisfied_is (gives (plain (entity_literal e))) h = absurd (cc)
satisfied_is (gives (set_value vs)) h = absurd (cc)
satisfied_is (gives (record_value fs)) h = absurd (cc)
satisfied_is (gives (extension_value t k)) h = absurd (cc)
satisfied_is (errs e) h = absurd (cc)

pub never_true : (t : Term) → shows_never t ≡ true → IsNeverTrue t
never_true t h X ans w slots = never X ans w slots t h

-- the same of what means the same
pub never_satisfied : (s t : Term) →
    ((X : Extensions) (ans : Functions) (w : World) (slots : Slots) → meaning X ans w slots s ≡ meaning X ans w slots t) →
    shows_never s ≡ true → IsNeverSatisfied t
never_satisfied s t same h X ans w slots is =
    never X ans w slots s h (same X ans w slots ∙ satisfied_is (meaning X ans w slots t) is)
