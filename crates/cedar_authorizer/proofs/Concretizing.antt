-- The request that a map makes, part by part, and then with the values in its context.
use Rattle.std.proofs.Common.{◌≡◌, ◌≢◌, ℕ, Bool, true, false, cond, Option, Some, None, IfSome, option_map, Result, Ok, Err}
use Rattle.std.proofs.Common.{refl, ap, ◌∙◌, sym, subst, codes}
use Rattle.cedar_model.specs.Terms.{Text, EntityName}
use Rattle.cedar_model.specs.Values.{Represented, abstract_value}
use Rattle.cedar_model.specs.Outcomes.{entity_of, text_eq}
use Rattle.cedar_model.specs.Failures.{Failure}
use Rattle.cedar_model.specs.Settings.{Entry, known_entry, unknown_entry, ContextPart, RequestPart, Setting}
use Rattle.cedar_model.specs.Rules.{StoredCalls}
use Rattle.cedar_model.specs.Refusals.{Refusal, type_is_other, context_fails, typed_entry, entry_beside, entry_by}
use Rattle.cedar_model.specs.Refusals.{concrete_entry, unless_refused, concrete_request}
use Rattle.cedar_model.specs.Chains.{Mapping, with_context, SubstitutesTo}
use Rattle.cedar_model.proofs.Completions.{concrete_parts}
use Rattle.cedar_authorizer.specs.reauthorization.Concretizations.{IsWithValues, AfterMap, IsResidualNoHigher}
use Rattle.cedar_authorizer.proofs.Contexts.{low_mapped, context_evaluates_nothing}
use Rattle.cedar_model.proofs.Injections.{some_inj, err_inj, err_is_not_ok}

-- ---- one part, and then the others

module _ {A B : Type 0} (next : A → Result B Refusal) where
  -- where the part is made the others follow
  pub made_then : (x : A) (q : Result A Refusal) (o : Option (Result B Refusal)) → Ok x ≡ q
      → IfSome o (λ a. a ≡ next x) → IfSome o (λ a. a ≡ unless_refused q next)
  unfolding unless_refused
  made_then x q o e h = subst (λ y. IfSome o (λ a. a ≡ unless_refused y next)) e h

  -- where it is refused so is the whole
  pub refused_then : (q : Result A Refusal) (o : Option Refusal)
      → IfSome (option_map {U = Result A Refusal} Err o) (λ a. a ≡ q)
      → IfSome (option_map {U = Result B Refusal} Err o) (λ a. a ≡ unless_refused q next)
  unfolding unless_refused
  refused_then q None h = tt
  refused_then q (Some x) h = ap (λ y. unless_refused y next) h

-- ---- the values in the context

module _ (s : Setting) (calls : StoredCalls) (n : ℕ) (m : Mapping) where
  pub values_made : (old r new : RequestPart) (c : ContextPart) → r ≡ old → new ≡ with_context r c
      → SubstitutesTo s calls n m r.context_part (Ok c) → IsWithValues s calls n m old (Ok new)
  values_made old r new c e f h = (
    Ok c,
    subst (λ q. SubstitutesTo s calls n m q.context_part (Ok c)) e h,
    ap Ok (f ∙ ap (λ q. with_context q c) e),
  )

  pub values_refused : (old r : RequestPart) (o : Option Refusal) → r ≡ old
      → IfSome (option_map Err o) (SubstitutesTo s calls n m r.context_part)
      → IfSome (option_map Err o) (IsWithValues s calls n m old)
  values_refused old r None e h = tt
  values_refused old r (Some x) e h =
      (Err x, subst (λ q. SubstitutesTo s calls n m q.context_part (Err x)) e h, refl)

  -- after the map the values are put in
  pub then_values : (q : Result RequestPart Refusal) (r : RequestPart) (o : Option (Result RequestPart Refusal))
      → Ok r ≡ q → IfSome o (IsWithValues s calls n m r) → IfSome o (AfterMap s calls n m q)
  then_values q r o e h = subst (λ x. IfSome o (AfterMap s calls n m x)) e h

  pub then_refused : (q : Result RequestPart Refusal) (o : Option Refusal) → IfSome (option_map Err o) (λ a. a ≡ q)
      → IfSome (option_map Err o) (AfterMap s calls n m q)
  then_refused q None h = tt
  then_refused q (Some x) h = subst (λ y. AfterMap s calls n m y (Err x)) h refl

-- ---- the recursion limit, and what the map is never refused for

pub low_request : (m : Mapping) (n : ℕ) (r new : RequestPart) → Ok new ≡ concrete_request m r
    → IsResidualNoHigher m n r.context_part → IsResidualNoHigher m n new.context_part
low_request m n r new e h =
    low_mapped m n (m (codes "context")) r.context_part new.context_part (concrete_parts m r new (sym e)).context_is h

entry_evaluates_nothing : (name : Text) (o : Option Represented) (e : Entry) (f : Failure)
    → concrete_entry name o e ≢ Err (context_fails f)
unfolding concrete_entry entry_by entry_beside typed_entry
entry_evaluates_nothing name None e f h = err_is_not_ok (sym h)
entry_evaluates_nothing name (Some v) e f h = by (entity_of (abstract_value v)) e h
  where
    by_type : (b : Bool) (d : EntityName) (t : Text)
        → cond b (Ok (known_entry d)) (Err (type_is_other name t v)) ≡ Err (context_fails f) → ⊥
    by_type true d t h = err_is_not_ok (sym h)
    by_type false d t h = absurd (cc)

    by : (d : Option EntityName) (e : Entry) → entry_by name v d e ≡ Err (context_fails f) → ⊥
    by None e h = absurd (cc)
    by (Some d) (known_entry c) h = absurd (cc)
    by (Some d) (unknown_entry None) h = err_is_not_ok (sym h)
    by (Some d) (unknown_entry (Some t)) h = by_type (text_eq t d.type_name) d t h

unless_it : {A B : Type 0} (x : Result A Refusal) (next : A → Result B Refusal) (e : Refusal) → x ≢ Err e
    → ((y : A) → next y ≢ Err e) → unless_refused x next ≢ Err e
unfolding unless_refused
unless_it (Ok y) next e h k = k y
unless_it (Err z) next e h k = λ w. h (ap Err (err_inj w))

-- the map evaluates nothing
request_evaluates_nothing : (m : Mapping) (r : RequestPart) (f : Failure)
    → concrete_request m r ≢ Err (context_fails f)
request_evaluates_nothing m r f =
    unless_it _ _ _ (entry_evaluates_nothing _ _ _ f)
    (λ p. unless_it _ _ _ (entry_evaluates_nothing _ _ _ f)
    (λ a. unless_it _ _ _ (entry_evaluates_nothing _ _ _ f)
    (λ e. unless_it _ _ _ (context_evaluates_nothing _ _ f) (λ c w. err_is_not_ok (sym w)))))

pub map_refused : (f : Failure) (m : Mapping) (r : RequestPart) (o : Option Refusal)
    → IfSome (option_map Err o) (λ a. a ≡ concrete_request m r) → o ≢ Some (context_fails f)
map_refused f m r None h w = absurd (cc)
map_refused f m r (Some x) h w =
    request_evaluates_nothing m r f (sym h ∙ ap Err (some_inj w))
