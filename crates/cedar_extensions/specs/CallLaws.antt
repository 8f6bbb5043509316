-- What a look-up and a call of what is found answer, against the rule for calls.
use Rattle.std.specs.Prelude.{◌≡◌, ◌==◌, Bool, true, false, cond, List, [], ◌∷◌, length, Some, None, option_map, is_some}
use Rattle.std.specs.Option.{option_or}
use Rattle.std.specs.List.{find}
use Rattle.std.proofs.Common.{refl, sym, ap, subst, ◌∙◌, true≢false}
use Rattle.std.proofs.lemmas.Slice.Eq.{bytes_eq-Decides}
use Rattle.cedar_model.specs.Terms.{Text}
use Rattle.cedar_model.specs.Values.{Represented}
use Rattle.cedar_model.specs.Failures.{Answer, fails, function_is_missing, arguments_are_miscounted}
use Rattle.cedar_model.specs.Rules.{Counts, LooksUp}
use Rattle.cedar_extensions.specs.declared.extensions.Extensions.{Extensions}
use Rattle.cedar_extensions.specs.declared.function.ExtensionFunction.{ExtensionFunction}
use Rattle.cedar_extensions.specs.Functions.{arity, function_text, has_name, function_among, CanAnswer}
use Rattle.cedar_extensions.specs.Extensions.{extensions_view, has_standard, standard_of, func_of, made_calls_of}
use Rattle.cedar_extensions.specs.Extensions.{calls_of}
use Rattle.cedar_extensions.specs.Standard.{standard_if, standard_arity, StandardAnswers, StandardFirst, StandardAlone}
use Rattle.cedar_standard_functions.specs.Standard.{name_of}
use Rattle.cedar_standard_functions.specs.StandardLaws.{have_their_names}
use Rattle.cedar_standard_functions.specs.declared.function.StandardFunction.{StandardFunction}

-- the first element that passes a test passes it
passes_here : {A : Type 0} (p : A → Bool) (x y : A) (ys : List A) (b : Bool) → p y ≡ b → find p (y ∷ ys) ≡ Some x
    → (find p ys ≡ Some x → p x ≡ true) → p x ≡ true
passes_here p x y ys true is e later =
    let here : Some y ≡ Some x = sym (ap (λ (b : Bool). cond b (Some y) (find p ys)) is) ∙ e in
    let one : y ≡ x = cc here in
    sym (ap p one) ∙ is
passes_here p x y ys false is e later = later (sym (ap (λ (b : Bool). cond b (Some y) (find p ys)) is) ∙ e)

find_passes : {A : Type 0} (p : A → Bool) (x : A) (xs : List A) → find p xs ≡ Some x → p x ≡ true
find_passes p x [] e = absurd (true≢false (sym (ap is_some e)))
find_passes p x (y ∷ ys) e = passes_here p x y ys (p y) refl e (find_passes p x ys)

-- a function that is found by a name has it
pub found_by_name : {X : Type 0} {F : X → Type 0} {g : _} (n : Text) (f : ExtensionFunction X F g)
    (fs : List (ExtensionFunction X F g)) → function_among n fs ≡ Some f → function_text f ≡ n
found_by_name n f fs e = (bytes_eq-Decides (function_text f) n).0 (find_passes (has_name n) f fs e)

counts_so : {X : Type 0} {F : X → Type 0} {g : _} (x : Extensions X F g) (n : Text) (f : ExtensionFunction X F g)
    (vs : List Represented) (a : Answer) (b : Bool) → standard_of x n ≡ None → func_of x n ≡ Some f
    → function_text f ≡ n → Counts (λ _. CanAnswer f) b (arity f) (function_text f) vs a
    → Counts (calls_of x) b (arity f) n vs a
counts_so x n f vs a true none found named h =
    subst (λ o. StandardFirst o (made_calls_of x n vs a) vs a) (sym none) (f, found, h)
counts_so x n f vs a false none found named h = h
    ∙ ap (λ (t : Text). fails (arguments_are_miscounted t (arity f) (length vs))) named

-- what the function of a name answers is what the rule reads
pub looks_up_found : {X : Type 0} {F : X → Type 0} {g : _} (x : Extensions X F g) (n : Text)
    (f : ExtensionFunction X F g)
    (vs : List Represented) (a : Answer) → standard_of x n ≡ None → func_of x n ≡ Some f
    → LooksUp (λ _. CanAnswer f) (Some (arity f)) (function_text f) vs a
    → LooksUp (calls_of x) ((extensions_view x).arity n) n vs a
looks_up_found x n f vs a none found h =
    subst (λ s. LooksUp (calls_of x) (option_or (option_map standard_arity s) (option_map arity (func_of x n))) n vs a)
    (sym none)
    (subst (λ o. LooksUp (calls_of x) (option_map arity o) n vs a) (sym found)
    (counts_so x n f vs a (length vs == arity f) none found (found_by_name n f _ found) h))

standard_counts : {X : Type 0} {F : X → Type 0} {g : _} (x : Extensions X F g) (n : Text) (f : StandardFunction)
    (vs : List Represented) (a : Answer) (b : Bool) → standard_of x n ≡ Some f → name_of f ≡ n
    → Counts (λ _. StandardAnswers f) b (standard_arity f) (name_of f) vs a
    → Counts (calls_of x) b (standard_arity f) n vs a
standard_counts x n f vs a true is named h =
    subst (λ o. StandardFirst o (made_calls_of x n vs a) vs a) (sym is) h
standard_counts x n f vs a false is named h = h
    ∙ ap (λ (t : Text). fails (arguments_are_miscounted t (standard_arity f) (length vs))) named

standard_name : (b : Bool) (n : Text) (f : StandardFunction) → standard_if b n ≡ Some f → name_of f ≡ n
standard_name true n f is = have_their_names n f is
standard_name false n f is = absurd (true≢false (sym (ap is_some is)))

-- so is what a standard function answers
pub looks_up_standard : {X : Type 0} {F : X → Type 0} {g : _} (x : Extensions X F g) (n : Text) (f : StandardFunction)
    (vs : List Represented) (a : Answer) → standard_of x n ≡ Some f → StandardAlone f vs a
    → LooksUp (calls_of x) ((extensions_view x).arity n) n vs a
looks_up_standard x n f vs a is h =
    subst (λ s. LooksUp (calls_of x) (option_or (option_map standard_arity s) (option_map arity (func_of x n))) n vs a)
    (sym is)
    (standard_counts x n f vs a (length vs == standard_arity f) is (standard_name (has_standard x) n f is) h)

-- and that there is no function
pub looks_up_missing : {X : Type 0} {F : X → Type 0} {g : _} (x : Extensions X F g) (n : Text)
    (vs : List Represented) (a : Answer) → standard_of x n ≡ None → func_of x n ≡ None
    → a ≡ fails (function_is_missing n) → LooksUp (calls_of x) ((extensions_view x).arity n) n vs a
looks_up_missing x n vs a none missing h =
    subst (λ s. LooksUp (calls_of x) (option_or (option_map standard_arity s) (option_map arity (func_of x n))) n vs a)
    (sym none)
    (subst (λ o. LooksUp (calls_of x) (option_map arity o) n vs a) (sym missing) h)
