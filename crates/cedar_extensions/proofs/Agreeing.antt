-- The functions of a world that agree with those of extensions.
use Rattle.std.proofs.Common.{◌≡◌, refl, sym, ap, subst, ◌∙◌, ℕ, Bool, true, false, true≢false, cond, List, [], ◌∷◌}
use Rattle.std.proofs.Common.{map, Option, Some, None, is_some, option_map}
use Rattle.std.specs.Option.{option_or}
use Rattle.std.specs.Prelude.{◌≢◌}
use Rattle.std.specs.Borrow.{Bor}
use Rattle.std.specs.List.{find, AllByRecursion}
use Rattle.cedar_model.specs.Terms.{Text, string_type, unknown}
use Rattle.cedar_model.specs.Values.{AbstractValue, Represented, abstract_value}
use Rattle.cedar_model.specs.Outcomes.{text_of}
use Rattle.cedar_model.specs.World.{FunctionAnswer, Functions}
use Rattle.cedar_model.specs.Failures.{value, Answer, answers, fails, answers_residual, wrong_type}
use Rattle.cedar_model.specs.Failures.{out_of_memory, failure_kind}
use Rattle.cedar_model.specs.Operators.{expecting}
use Rattle.cedar_model.specs.Agreement.{failure_answer, function_answer, IsFaithful}
use Rattle.cedar_values.specs.Sound.{Placed}
use Rattle.cedar_extensions.specs.declared.extensions.Extensions.{Extensions}
use Rattle.cedar_extensions.specs.declared.function.ExtensionFunction.{ExtensionFunction}
use Rattle.cedar_extensions.specs.Outcomes.{Returned, outcome, OnlyLawful, abstracts}
use Rattle.cedar_extensions.specs.Answers.{AnswersBy, AsksOf, returned_answer}
use Rattle.cedar_extensions.specs.Functions.{CanAnswer, AnswersAs, function_text, arity, function_among, has_name}
use Rattle.cedar_extensions.specs.Extension.{all_functions}
use Rattle.cedar_extensions.specs.Extensions.{extensions_in, has_standard, standard_of, func_of, HasNone}
use Rattle.cedar_extensions.specs.Extensions.{extensions_view, made_calls_of, calls_of}
use Rattle.cedar_extensions.specs.Standard.{standard_if, standard_arity, StandardAnswers, StandardFirst}
use Rattle.cedar_standard_functions.specs.Laws.{AreComputed, AreFaithful}
use Rattle.cedar_standard_functions.specs.Standard.{name_of, made_by, standard_named, standard_answers}
use Rattle.cedar_standard_functions.specs.Standard.{HaveStandard}
use Rattle.cedar_standard_functions.specs.StandardLaws.{are_found}
use Rattle.cedar_standard_functions.specs.declared.function.StandardFunction.{StandardFunction}
use Rattle.cedar_extensions.specs.StoredLaws.{lawful_outcome, outcome_model}
use Rattle.cedar_extensions.specs.Computations.{Computation, EachCallComesTo, Computes, EachComputes, unknown_of, unknown_made}
use Rattle.cedar_extensions.specs.Computations.{built_in_answers, answers_named, computed_answers}
use Rattle.cedar_extensions.specs.Computations.{ComputeByName, AreBuiltIn, AgreesWith, AreFaithfulBy}
use Rattle.cedar_extensions.specs.Computations.{standard_first, AnswerStandard, MadeAreFaithfulBy}

-- ---- one function

-- what calls come to is what the function computes
pub computes_by_calls : (n : ℕ) (post : Bor (List Placed) → Returned → Type 0) (c : Computation) → OnlyLawful n post
    → EachCallComesTo n post c → (vs : List Represented) (a : Answer) → AnswersBy n post vs a
    → function_answer a ≡ Some (c (map abstract_value vs))
computes_by_calls n post c lawful comes vs a h =
    let finds : returned_answer h.1 ≢ fails out_of_memory = λ e. h.6 (sym h.5 ∙ e) in
    let o : (o : FunctionAnswer) × (outcome h.1 ≡ Some o) = lawful_outcome h.1 (lawful h.0 h.1 h.2 h.4) finds in
    let same : o.0 ≡ c (abstracts h.0.now) = comes h.0 h.1 h.2 h.4 o.0 o.1 in
    ap function_answer (sym h.5) ∙ sym (outcome_model h.1) ∙ o.1
    ∙ ap (λ (x : FunctionAnswer). Some x) (same ∙ ap (λ (ws : List Represented). c (map abstract_value ws)) h.3)

asked_for : (o : Option Text) (v : AbstractValue) → function_answer (expecting o (wrong_type string_type [] v)
    (λ t. answers_residual (unknown t None))) ≡ Some (unknown_of o)
unfolding expecting function_answer failure_answer failure_kind
asked_for None v = refl
asked_for (Some t) v = refl

pub asks_computed : (vs : List Represented) (a : Answer) → AsksOf vs a
    → function_answer a ≡ Some (unknown_made (map abstract_value vs))
asks_computed [] a h = absurd h
asks_computed (v ∷ []) a h = ap function_answer h ∙ asked_for (text_of (abstract_value v)) (abstract_value v)
asks_computed (v ∷ (w ∷ vs)) a h = absurd h

asked_value : (o : Option Text) (v : AbstractValue) (w : Represented) → answers (value w)
    ≡ expecting o (wrong_type string_type [] v) (λ t. answers_residual (unknown t None)) → ⊥
unfolding expecting
asked_value None v w e = cc
asked_value (Some t) v w e = cc

-- the built-in answers no value
asks_no_value : (vs : List Represented) (w : Represented) → AsksOf vs (answers (value w)) → ⊥
asks_no_value [] w h = h
asks_no_value (v ∷ []) w h = asked_value (text_of (abstract_value v)) (abstract_value v) w h
asks_no_value (v ∷ (u ∷ vs)) w h = h

-- ---- standard functions

-- a call is one of a standard function, or there is none and it is one of another
standard_or : (o : Option StandardFunction) (Own P : Type 0) (vs : List Represented) (a : Answer)
    → StandardFirst o Own vs a → (o ≡ None → Own → P)
    → ((f : StandardFunction) → o ≡ Some f → StandardAnswers f vs a → P) → P
standard_or None Own P vs a h own standard = own refl h
standard_or (Some f) Own P vs a h own standard = standard f refl h

first_agrees : AreComputed → (o : Option StandardFunction) (Own : Type 0) (given : FunctionAnswer)
    (vs : List Represented) (a : Answer) → StandardFirst o Own vs a → (Own → function_answer a ≡ Some given)
    → function_answer a ≡ Some (standard_first o given (map abstract_value vs))
first_agrees computed None Own given vs a h own = own h
first_agrees computed (Some f) Own given vs a h own = ap function_answer h ∙ computed f (map abstract_value vs)

-- ---- extensions

module _ {X : Type 0} {F : X → Type 0} {g : _} where
  -- a name that the first function has finds it, and another name looks among the rest
  found_first : (n : Text) (h f : ExtensionFunction X F g) (fs : List (ExtensionFunction X F g)) → has_name n h ≡ true
      → function_among n (h ∷ fs) ≡ Some f → h ≡ f
  found_first n h f fs e found =
      let s : Some h ≡ Some f = sym (ap (λ (b : Bool). cond b (Some h) (find (has_name n) fs)) e) ∙ found in
      cc s

  found_later : (n : Text) (h f : ExtensionFunction X F g) (fs : List (ExtensionFunction X F g)) → has_name n h ≡ false
      → function_among n (h ∷ fs) ≡ Some f → function_among n fs ≡ Some f
  found_later n h f fs e found = sym (ap (λ (b : Bool). cond b (Some h) (find (has_name n) fs)) e) ∙ found

  by_name : (P : Type 0) (n : Text) (h f : ExtensionFunction X F g) (fs : List (ExtensionFunction X F g)) (b : Bool)
      → has_name n h ≡ b → function_among n (h ∷ fs) ≡ Some f → (has_name n h ≡ true → h ≡ f → P)
      → (has_name n h ≡ false → function_among n fs ≡ Some f → P) → P
  by_name P n h f fs true e found here later = here e (found_first n h f fs e found)
  by_name P n h f fs false e found here later = later e (found_later n h f fs e found)

  -- what holds of each function holds of the one that a name finds
  each_found : (P : ExtensionFunction X F g → Type 0) (n : Text) (fs : List (ExtensionFunction X F g))
      (f : ExtensionFunction X F g) → AllByRecursion P fs → function_among n fs ≡ Some f → P f
  each_found P n [] f all found = absurd (true≢false (sym (ap is_some found)))
  each_found P n (h ∷ fs) f all found =
      by_name (P f) n h f fs (has_name n h) refl found
      (λ named same. subst P same all.0)
      (λ other rest. each_found P n fs f all.1 rest)

  -- the function that a name finds computes what is under that name
  named_found : (n : Text) (fs : List (ExtensionFunction X F g)) (cs : List Computation) (f : ExtensionFunction X F g)
      → EachComputes fs cs → function_among n fs ≡ Some f → Computes f (answers_named (map function_text fs) cs n)
  named_found n [] cs f each found vs a can = absurd (true≢false (sym (ap is_some found)))
  named_found n (h ∷ fs) [] f each found vs a can = absurd each
  named_found n (h ∷ fs) (c ∷ cs) f each found vs a can =
      let xs : List AbstractValue = map abstract_value vs in
      let now : Bool → Option FunctionAnswer = λ b. Some (cond b (c xs) (answers_named (map function_text fs) cs n xs)) in
      by_name (function_answer a ≡ now (has_name n h)) n h f fs (has_name n h) refl found
      (λ named same. each.0 vs a (subst (λ z. CanAnswer z vs a) (sym same) can) ∙ ap now (sym named))
      (λ other rest. named_found n fs cs f each.1 rest vs a can ∙ ap now (sym other))

  module _ (x : Extensions X F g) where
    no_function : (n : Text) (f : _) → extensions_in x ≡ [] → func_of x n ≡ Some f → ⊥
    no_function n f none found =
        true≢false (sym (ap is_some (sym (ap (λ es. function_among n (all_functions es)) none) ∙ found)))

    not_there : has_standard x ≡ false → (n : Text) → standard_of x n ≡ None
    not_there e n = ap (λ b. standard_if b n) e

    is_there : has_standard x ≡ true → (n : Text) → standard_of x n ≡ standard_named n
    is_there e n = ap (λ b. standard_if b n) e

    -- without standard functions each call is one of a function that the caller made
    made_alone : has_standard x ≡ false → (n : Text) (vs : List Represented) (a : Answer) → calls_of x n vs a
        → made_calls_of x n vs a
    made_alone e n vs a h = subst (λ o. StandardFirst o (made_calls_of x n vs a) vs a) (not_there e n) h

    no_calls : HasNone x → (n : Text) (vs : List Represented) (a : Answer) → calls_of x n vs a → ⊥
    no_calls none n vs a h =
        let own : made_calls_of x n vs a = made_alone none.not_standard n vs a h in
        no_function n own.0 none.none_made own.1

    pub none_agree : HasNone x → (ans : Functions) → AgreesWith x ans
    none_agree none ans n vs a h = absurd (no_calls none n vs a h)

    pub none_faithful : HasNone x → (ans : Functions) → AreFaithfulBy x ans
    none_faithful none ans n vs v faithful h = absurd (no_calls none n vs (answers (value v)) h)

    pub by_name_agree : AreComputed → (ans : Functions) → ComputeByName x ans → AgreesWith x ans
    by_name_agree computed ans computes n vs a h =
        standard_or (standard_of x n) (made_calls_of x n vs a) (function_answer a ≡ Some (ans n (map abstract_value vs)))
        vs a h
        (λ none (f, found, can). computes.made n f none found vs a can)
        (λ f is answered. ap function_answer answered ∙ computed f (map abstract_value vs)
        ∙ ap (λ (o : FunctionAnswer). Some o) (sym (computes.standard n f is (map abstract_value vs))))

    pub computed_agree : AreComputed → (cs : List Computation) → EachComputes (all_functions (extensions_in x)) cs
        → AgreesWith x (computed_answers x cs)
    computed_agree computed cs each n vs a h =
        first_agrees computed (standard_of x n) (made_calls_of x n vs a) _ vs a h
        (λ (f, found, can). named_found n (all_functions (extensions_in x)) cs f each found vs a can)

    built_in : AreBuiltIn x → (n : Text) (vs : List Represented) (a : Answer) → calls_of x n vs a → AsksOf vs a
    built_in are n vs a h =
        let own : made_calls_of x n vs a = made_alone are.not_standard n vs a h in
        (each_found (λ f. AnswersAs f AsksOf) n (all_functions (extensions_in x)) own.0 are.all_ask own.1 vs a).0 own.2

    pub built_in_agree : AreBuiltIn x → AgreesWith x built_in_answers
    built_in_agree are n vs a h = asks_computed vs a (built_in are n vs a h)

    pub built_in_faithful : AreBuiltIn x → AreFaithfulBy x built_in_answers
    built_in_faithful are n vs v faithful h = absurd (asks_no_value vs v (built_in are n vs (answers (value v)) h))

    -- ---- the standard functions

    -- the standard functions are there, and `ans` answers what they compute
    have_standard : has_standard x ≡ true → (ans : Functions) → AnswerStandard ans → HaveStandard (extensions_view x) ans
    have_standard there ans answer f =
        record {
          takes = ap (λ o. option_or (option_map standard_arity o) (option_map arity (func_of x (name_of f))))
              (is_there there (name_of f) ∙ are_found f);
          computes = answer f;
        }

    pub standard_faithful : AreFaithful → (ans : Functions) → has_standard x ≡ true → AnswerStandard ans
        → MadeAreFaithfulBy x ans → AreFaithfulBy x ans
    standard_faithful law ans there answer made n vs v faithful h =
        standard_or (standard_of x n) (made_calls_of x n vs (answers (value v))) (IsFaithful (extensions_view x) ans v) vs
        (answers (value v)) h
        (λ none own. made n vs v faithful own)
        (λ f is answered. law (extensions_view x) ans (have_standard there ans answer) f (map abstract_value vs) v
        (sym answered))

    answer_standard : AnswerStandard standard_answers
    answer_standard f vs = ap (λ o. made_by o vs) (are_found f)

    pub available_agree : AreComputed → has_standard x ≡ true → extensions_in x ≡ [] → AgreesWith x standard_answers
    available_agree computed there none n vs a h =
        standard_or (standard_of x n) (made_calls_of x n vs a)
        (function_answer a ≡ Some (standard_answers n (map abstract_value vs))) vs a h
        (λ unknown own. absurd (no_function n own.0 none own.1))
        (λ f is answered. ap function_answer answered ∙ computed f (map abstract_value vs)
        ∙ ap (λ o. Some (made_by o (map abstract_value vs))) (sym (sym (is_there there n) ∙ is)))

    pub available_faithful : AreFaithful → has_standard x ≡ true → extensions_in x ≡ []
        → AreFaithfulBy x standard_answers
    available_faithful law there none =
        standard_faithful law standard_answers there answer_standard
        (λ n vs v faithful own. absurd (no_function n own.0 none own.1))
