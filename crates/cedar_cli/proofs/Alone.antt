-- The standard extensions alone are, as plain data, those that the definitions name.
use Rattle.std.proofs.Common.{◌≡◌, refl, sym, ap, ◌∙◌, true, true≢false, List, [], ◌++◌, map, Option, None, is_some}
use Rattle.std.proofs.Common.{Some, option_map}
use Rattle.std.proofs.lemmas.List.{append-nil}
use Rattle.std.specs.Option.{option_or}
use mathlib.Core.HProp.{h_prop_ext}
use Rattle.cedar_model.specs.Terms.{Text}
use Rattle.cedar_model.specs.Values.{Represented}
use Rattle.cedar_model.specs.Failures.{Answer}
use Rattle.cedar_names.specs.Names.{name_text}
use Rattle.cedar_standard_functions.specs.Kinds.{overloaded}
use Rattle.cedar_standard_functions.specs.Standard.{standard_named}
use Rattle.cedar_extensions.specs.declared.extensions.Extensions.{Extensions}
use Rattle.cedar_extensions.specs.Extension.{all_functions, all_overloading_types}
use Rattle.cedar_extensions.specs.Extensions.{extensions_in, has_standard, made_calls_of, extensions_view, calls_of}
use Rattle.cedar_extensions.specs.Functions.{arity, function_among}
use Rattle.cedar_extensions.specs.Standard.{standard_if, standard_arity, overloaded_if, StandardFirst}
use Rattle.cedar_functions.specs.Functions.{these, signatures_of, signature_of, standard_signatures}
use Rattle.cedar_cli.specs.Standard.{standard_extensions, standard_calls, standard_knowledge}

or_none : {A : Type 0} (o : Option A) → option_or o None ≡ o
or_none None = refl
or_none (Some a) = refl

module _ {X : Type 0} {F : X → Type 0} {g : _} (x : Extensions X F g) (none : extensions_in x ≡ [])
    (there : has_standard x ≡ true) where
  -- no function was made
  none_made : (n : Text) (vs : List Represented) (a : Answer) → ¬ made_calls_of x n vs a
  none_made n vs a h =
      true≢false (sym (ap is_some (sym (ap (λ es. function_among n (all_functions es)) none) ∙ h.1)))

  no_call : (n : Text) (vs : List Represented) (a : Answer) → made_calls_of x n vs a ≡ ⊥
  no_call n vs a =
      h_prop_ext (λ h k. absurd (none_made n vs a h)) (λ h k. absurd h) (none_made n vs a) (λ h. absurd h)

  pub calls_alone : calls_of x ≡ standard_calls
  calls_alone = λ i n vs a. StandardFirst (standard_if (there i) n) (no_call n vs a i) vs a

  arity_alone : (n : Text) → (extensions_view x).arity n ≡ standard_extensions.arity n
  arity_alone n =
      (λ i. option_or (option_map standard_arity (standard_if (there i) n))
      (option_map arity (function_among n (all_functions (none i)))))
      ∙ or_none (option_map standard_arity (standard_named n))

  overloaded_alone : (extensions_view x).overloaded ≡ overloaded
  overloaded_alone =
      (λ i. overloaded_if (there i) ++ map name_text (all_overloading_types (none i))) ∙ append-nil overloaded

  pub view_alone : extensions_view x ≡ standard_extensions
  view_alone = λ i. record { arity = λ n. arity_alone n i; overloaded = overloaded_alone i }

  pub known_alone : these (signatures_of x) ≡ standard_knowledge
  known_alone =
      ap these
      ((λ i. standard_signatures (there i) ++ map signature_of (all_functions (none i)))
      ∙ append-nil (standard_signatures true))
