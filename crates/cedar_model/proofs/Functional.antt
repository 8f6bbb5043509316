-- Stored functions that agree with one answer to equal arguments answer alike.
use Rattle.std.specs.Prelude.{◌≡◌, map, Option, Some}
use Rattle.std.proofs.Common.{refl, sym, ap, ◌∙◌, subst}
use Rattle.cedar_model.specs.Terms.{Text, ValueType, literal, variable, slot, unknown, if_then_else, both, either}
use Rattle.cedar_model.specs.Terms.{unary, binary, call, get_attribute, has_attribute, extended_has, like, is_of_type}
use Rattle.cedar_model.specs.Terms.{set_of, record_of}
use Rattle.cedar_model.specs.Values.{Represented, abstract_value}
use Rattle.cedar_model.specs.World.{FunctionAnswer, function_gives, function_errs, function_asks, Functions}
use Rattle.cedar_model.specs.Failures.{Failure, FailureKind, of_meaning, of_residual, of_limit, of_memory, failure_kind}
use Rattle.cedar_model.specs.Failures.{value, residual, Answer, answers, fails}
use Rattle.cedar_model.specs.Rules.{StoredCalls}
use Rattle.cedar_model.specs.Agreement.{failure_answer, function_answer, AgreesWithFunctions}
use Rattle.cedar_model.specs.Alike.{AreAlike, AreFunctional}
use Rattle.cedar_model.proofs.Injections.{some_inj}

-- what the answer is, by what it is seen as
abbrev IsSeen : Answer → FunctionAnswer → Type 0
IsSeen a (function_gives u) = (v : Represented) × (a ≡ answers (value v)) × (abstract_value v ≡ u)
IsSeen a (function_errs k) = (e : Failure) × (a ≡ fails e) × (failure_kind e ≡ of_meaning k)
IsSeen a (function_asks n t) = a ≡ answers (residual (unknown n t))

seen_failure : (e : Failure) (k : FailureKind) (b : FunctionAnswer) → failure_kind e ≡ k → failure_answer k ≡ Some b
    → IsSeen (fails e) b
unfolding failure_answer
seen_failure e (of_meaning j) (function_gives u) q h = absurd (cc)
seen_failure e (of_meaning j) (function_errs k) q h = (e, refl, let f : j ≡ k = cc in q ∙ ap of_meaning f)
seen_failure e (of_meaning j) (function_asks n t) q h = absurd (cc)
seen_failure e of_residual b q h = absurd (cc)
seen_failure e of_limit b q h = absurd (cc)
seen_failure e of_memory b q h = absurd (cc)

seen_value : (v : Represented) (b : FunctionAnswer) → function_gives (abstract_value v) ≡ b
    → IsSeen (answers (value v)) b
seen_value v (function_gives u) h = (v, refl, cc)
seen_value v (function_errs k) h = absurd (cc)
seen_value v (function_asks n t) h = absurd (cc)

seen_unknown : (n : Text) (t : Option ValueType) (b : FunctionAnswer) → function_asks n t ≡ b
    → IsSeen (answers (residual (unknown n t))) b
seen_unknown n t (function_gives u) h = absurd (cc)
seen_unknown n t (function_errs k) h = absurd (cc)
seen_unknown n t (function_asks m u) h =
    let p : n ≡ m = cc in
    let q : t ≡ u = cc in
    λ i. answers (residual (unknown (p i) (q i)))

seen : (a : Answer) (b : FunctionAnswer) → function_answer a ≡ Some b → IsSeen a b
unfolding function_answer
seen (answers (value v)) b h = seen_value v b (some_inj h)
seen (answers (residual (unknown n t))) b h = seen_unknown n t b (some_inj h)
seen (answers (residual (literal l))) b h = absurd (cc)
seen (answers (residual (variable v))) b h = absurd (cc)
seen (answers (residual (slot i))) b h = absurd (cc)
seen (answers (residual (if_then_else x y z))) b h = absurd (cc)
seen (answers (residual (both x y))) b h = absurd (cc)
seen (answers (residual (either x y))) b h = absurd (cc)
seen (answers (residual (unary op x))) b h = absurd (cc)
seen (answers (residual (binary op x y))) b h = absurd (cc)
seen (answers (residual (call g ts))) b h = absurd (cc)
seen (answers (residual (get_attribute x k))) b h = absurd (cc)
seen (answers (residual (has_attribute x k))) b h = absurd (cc)
seen (answers (residual (extended_has x k ks))) b h = absurd (cc)
seen (answers (residual (like x p))) b h = absurd (cc)
seen (answers (residual (is_of_type x t))) b h = absurd (cc)
seen (answers (residual (set_of ts))) b h = absurd (cc)
seen (answers (residual (record_of fs))) b h = absurd (cc)
seen (fails e) b h = seen_failure e (failure_kind e) b refl h

pub by_sides : (a b x y : Answer) → a ≡ x → b ≡ y → AreAlike x y → AreAlike a b
by_sides a b x y e f h = subst (λ z. AreAlike z b) (sym e) (subst (λ z. AreAlike x z) (sym f) h)

alike_by : (c : FunctionAnswer) (a b : Answer) → IsSeen a c → IsSeen b c → AreAlike a b
alike_by (function_gives u) a b (v, e, p) (v', e', p') = by_sides a b _ _ e e' (p ∙ sym p')
alike_by (function_errs k) a b (x, e, p) (x', e', p') = by_sides a b _ _ e e' (p ∙ sym p')
alike_by (function_asks n t) a b e e' = by_sides a b _ _ e e' refl

pub functional : (ans : Functions) (calls : StoredCalls) → AgreesWithFunctions ans calls → AreFunctional calls
functional ans calls agree f vs ws a b e g h =
    alike_by (ans f (map abstract_value vs)) a b (seen a _ (agree f vs a g))
    (seen b _ (subst (λ us. function_answer b ≡ Some (ans f us)) (sym e) (agree f ws b h)))
