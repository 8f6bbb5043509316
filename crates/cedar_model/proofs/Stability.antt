-- The four facts, of exact responses.
use Rattle.std.specs.Prelude.{◌≡◌, ◌||◌, List, [], ◌∷◌, ◌++◌, map}
use Rattle.std.proofs.Common.{refl, sym, ap, ◌∙◌}
use Rattle.cedar_model.specs.Terms.{Text}
use Rattle.cedar_model.specs.Outcomes.{text_eq, has_text}
use Rattle.cedar_model.specs.World.{World, Extensions, Functions}
use Rattle.cedar_model.specs.Policies.{Policy, Effect, permit, forbid, Judged, judged, judge_each, decision, reasons}
use Rattle.cedar_model.specs.Policies.{some_satisfied, ErrorHandling, skip, forbid_on_error, counting, counted_each}
use Rattle.cedar_model.specs.Reordering.{IsReordering, nothing, keeping, swapping, chaining}
use Rattle.cedar_model.specs.Authorizations.{Authorized, IsExactResponse}
use Rattle.cedar_model.specs.laws.Authorizations as AuthorizationLaws
use Rattle.cedar_model.specs.laws.Authorizations.{AgreeWhollyAs}
use Rattle.cedar_model.proofs.Counted
use Rattle.cedar_model.specs.lemmas.Sets.{or_swap}

map_reordered : {A B : Type 0} (f : A → B) {xs ys : List A} → IsReordering A xs ys
    → IsReordering B (map f xs) (map f ys)
map_reordered f nothing = nothing
map_reordered f (keeping x r) = keeping (f x) (map_reordered f r)
map_reordered f (swapping x y) = swapping (f x) (f y)
map_reordered f (chaining r s) = chaining (map_reordered f r) (map_reordered f s)

has_reordered : (t : Text) {xs ys : List Text} → IsReordering Text xs ys → has_text t xs ≡ has_text t ys
unfolding has_text
has_reordered t nothing = refl
has_reordered t (keeping x r) = ap (λ b. text_eq t x || b) (has_reordered t r)
has_reordered t (swapping {xs} x y) = or_swap (text_eq t x) (text_eq t y) (has_text t xs)
has_reordered t (chaining r s) = has_reordered t r ∙ has_reordered t s

map_with : {A B : Type 0} (f : A → B) (before after : List A) → map f (before ++ after) ≡ map f before ++ map f after
map_with f [] after = refl
map_with f (x ∷ before) after = ap (λ ys. f x ∷ ys) (map_with f before after)

module _ (X : Extensions) (ans : Functions) (w : World) where
  abbrev J : List Policy → List Judged
  J ps = judge_each X ans w ps

  abbrev each : ErrorHandling → List Policy → List Judged
  each mode ps = counted_each mode X ans w ps

  same : (mode : ErrorHandling) (ps qs : List Policy) (r q : Authorized) → IsExactResponse mode X ans w ps r
      → IsExactResponse mode X ans w qs q → decision (each mode ps) ≡ decision (each mode qs)
      → ((t : Text) → has_text t (reasons (each mode ps)) ≡ has_text t (reasons (each mode qs))) → AgreeWhollyAs q r
  same mode ps qs r q e f d h =
      (f.decision_is ∙ sym d ∙ sym e.decision_is, λ t. f.reasons_are t ∙ sym (h t) ∙ sym (e.reasons_are t))

  pub order_same : AuthorizationLaws.OrderChangesNoResponse X ans w
  order_same mode ps qs r q o e f =
      let z = Counted.order mode (J ps) (J qs) (map_reordered (judged X ans w) o) in
      same mode ps qs r q e f z.0 (λ t. has_reordered t z.1)

  with_one : (before after : List Policy) (p : Policy)
      → J (before ++ (p ∷ after)) ≡ J before ++ (judged X ans w p ∷ J after)
  with_one before after p = map_with (judged X ans w) before (p ∷ after)

  decides_with : (mode : ErrorHandling) (before after : List Policy) (p : Policy)
      → decision (each mode (before ++ (p ∷ after)))
      ≡ decision (counting mode (J before ++ (judged X ans w p ∷ J after)))
  decides_with mode before after p = ap (λ js. decision (counting mode js)) (with_one before after p)

  decides_without : (mode : ErrorHandling) (before after : List Policy)
      → decision (each mode (before ++ after)) ≡ decision (counting mode (J before ++ J after))
  decides_without mode before after =
      ap (λ js. decision (counting mode js)) (map_with (judged X ans w) before after)

  pub forbid_keeps : AuthorizationLaws.AddedForbidKeepsDeny X ans w
  forbid_keeps mode before after p r q h e f d =
      f.decision_is ∙ decides_with mode before after p
      ∙ Counted.forbids mode (J before) (J after) (judged X ans w p) h
      (sym (decides_without mode before after) ∙ sym e.decision_is ∙ d)

  pub permit_keeps : AuthorizationLaws.AddedPermitKeepsAllow X ans w
  permit_keeps mode before after p r q h e f d =
      f.decision_is ∙ decides_with mode before after p
      ∙ Counted.permits mode (J before) (J after) (judged X ans w p) h
      (sym (decides_without mode before after) ∙ sym e.decision_is ∙ d)

  without : (mode : ErrorHandling) (before after : List Policy) (p : Policy) (r q : Authorized)
      → IsExactResponse mode X ans w (before ++ after) r → IsExactResponse mode X ans w (before ++ (p ∷ after)) q
      → decision (counting mode (J before ++ (judged X ans w p ∷ J after)))
      ≡ decision (counting mode (J before ++ J after))
      → reasons (counting mode (J before ++ (judged X ans w p ∷ J after)))
      ≡ reasons (counting mode (J before ++ J after)) → AgreeWhollyAs q r
  without mode before after p r q e f d g =
      same mode (before ++ after) (before ++ (p ∷ after)) r q e f
      (decides_without mode before after ∙ sym d ∙ sym (decides_with mode before after p))
      (λ t. ap (λ js. has_text t (reasons (counting mode js))) (map_with (judged X ans w) before after)
      ∙ sym (ap (has_text t) g)
      ∙ sym (ap (λ js. has_text t (reasons (counting mode js))) (with_one before after p)))

  pub erring_same : AuthorizationLaws.ErringChangesNoResponse X ans w
  erring_same before after p r q h e f =
      let z = Counted.erring_skipped (J before) (J after) (judged X ans w p) h in
      without skip before after p r q e f z.0 z.1

  pub erring_permit_same : AuthorizationLaws.ErringPermitChangesNoResponse X ans w
  erring_permit_same mode before after p r q k h e f =
      let z = Counted.erring_permit mode (J before) (J after) (judged X ans w p) k h in
      without mode before after p r q e f z.0 z.1

  pub erring_forbid_alone : AuthorizationLaws.ErringForbidDecidesAlone X ans w
  erring_forbid_alone before after p r q k h e f n =
      let z = Counted.erring_forbid (J before) (J after) (judged X ans w p) k h
      (λ d. n (f.decision_is ∙ decides_with forbid_on_error before after p ∙ d
      ∙ sym (decides_without forbid_on_error before after) ∙ sym e.decision_is)) in
      (some_is forbid ∙ z.0, some_is permit ∙ z.1)
    where
      some_is : (effect : Effect) → some_satisfied effect (each forbid_on_error (before ++ after))
          ≡ some_satisfied effect (counting forbid_on_error (J before ++ J after))
      some_is effect =
          ap (λ js. some_satisfied effect (counting forbid_on_error js)) (map_with (judged X ans w) before after)
