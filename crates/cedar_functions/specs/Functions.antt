-- What is known of functions.
use Rattle.std.specs.Prelude.{◌≡◌, ◌≢◌, ℕ, List, [], ◌∷◌, ◌++◌, map, codes, length, Option, Some, None, option_map, Bool, true, false, if◌then◌else◌}
use Rattle.std.specs.List.{find, flat_map}
use Rattle.std.specs.Rc.{rc_str_bytes}
use Rattle.std.specs.declared.alloc.Global.{Global}
use Rattle.std.specs.declared.rc.RcStr.{RcStr}
use Rattle.cedar_model.specs.Terms.{Text}
use Rattle.cedar_model.specs.Outcomes.{text_eq}
use Rattle.cedar_names.specs.declared.names.CallStyle.{CallStyle}
use Rattle.cedar_names.specs.declared.names.CallStyle.TheVariants.{FunctionStyle, MethodStyle}
use Rattle.cedar_extensions.specs.Extension.{all_functions}
use Rattle.cedar_extensions.specs.Extensions.{extensions_in, has_standard}
use Rattle.cedar_extensions.specs.Functions.{function_text, function_style, arity}
use Rattle.cedar_extensions.specs.declared.extensions.Extensions.{Extensions}
use Rattle.cedar_standard_functions.specs.Standard as standard
use Rattle.cedar_standard_functions.specs.declared.function.StandardFunction.{StandardFunction}
use Rattle.cedar_extensions.specs.declared.function.ExtensionFunction.{ExtensionFunction}
use Rattle.cedar_functions.specs.Distance.{IsNearest}
use Rattle.cedar_functions.specs.declared.functions.Function.{Function}
use Rattle.cedar_functions.specs.declared.functions.Functions.{Functions}
use Rattle.cedar_functions.specs.declared.functions.Known.{Known}
use Rattle.cedar_functions.specs.declared.functions.Known.TheVariants as known

-- what is known of a function: its name, how it is called, and with how many arguments
pub record Signature : Type 0 where
  pub name : Text
  pub style : CallStyle
  pub arguments : ℕ

-- what is known: all functions, or these
pub data Knowledge : Type 0 where
  any : Knowledge
  these : List Signature → Knowledge

-- what is known of a stored function
abbrev pub signature_of : {X : Type 0} {F : X → Type 0} {g : _} → ExtensionFunction X F g → Signature
signature_of f = record { name = function_text f; style = function_style f; arguments = arity f }

-- what is known of a standard function
abbrev pub standard_signature : StandardFunction → Signature
standard_signature f =
    record { name = standard.name_of f; style = standard.style_of f; arguments = length (standard.takes f) }

-- of all of them, if they are there
abbrev pub standard_signatures : Bool → List Signature
standard_signatures is_there = if is_there then map standard_signature standard.all_standard else []

-- what is known of the functions of extensions, the standard ones first
abbrev pub signatures_of : {X : Type 0} {F : X → Type 0} {g : _} → Extensions X F g → List Signature
signatures_of x =
    standard_signatures (has_standard x) ++ map signature_of (all_functions (extensions_in x))

abbrev pub signature_in : Function → Signature
signature_in f = record { name = rc_str_bytes f.name; style = f.style; arguments = f.arguments }

abbrev pub knowledge_in : Option (List Function) → Knowledge
knowledge_in None = any
knowledge_in (Some fs) = these (map signature_in fs)

-- what a value of `Functions` knows
abbrev pub knowledge : Functions → Knowledge
knowledge f = knowledge_in (option_map (λ v. v.items) f.known)

-- ---- looked up

abbrev pub has_name : Text → Signature → Bool
has_name n s = text_eq s.name n

abbrev pub what_is : Option Signature → Known
what_is None = known.Nothing
what_is (Some s) = known.Function s.style s.arguments

-- what is known of a name
abbrev pub known_of : Knowledge → Text → Known
known_of any n = known.Any
known_of (these ss) n = what_is (find (has_name n) ss)

-- a function may be called in this style with so many arguments
abbrev pub Fits : Known → CallStyle → ℕ → Type 0
Fits known.Any s n = Unit {0}
Fits (known.Function t m) s n = (t ≡ s) × (m ≡ n)
Fits known.Nothing s n = ⊥

-- the function of this name is known, is called in this style, and takes so many arguments
abbrev pub IsKnown : Knowledge → CallStyle → Text → ℕ → Type 0
IsKnown k s f n = Fits (known_of k f) s n

-- ---- the nearest name

-- the operators that are written as methods
abbrev pub operators : List Text
operators =
    codes "contains" ∷ codes "containsAll" ∷ codes "containsAny" ∷ codes "getTag" ∷ codes "hasTag" ∷ codes "isEmpty"
    ∷ []

-- which of them are called in this style
abbrev pub operators_of : CallStyle → List Text
operators_of FunctionStyle = []
operators_of MethodStyle = operators

abbrev pub is_style : CallStyle → CallStyle → Bool
is_style FunctionStyle FunctionStyle = true
is_style FunctionStyle MethodStyle = false
is_style MethodStyle FunctionStyle = false
is_style MethodStyle MethodStyle = true

-- the name of a function, if it is called in this style
abbrev pub name_of : Signature → CallStyle → List Text
name_of f s = if is_style f.style s then f.name ∷ [] else []

-- the names of the functions that are known to be called in this style
abbrev pub names_of : Knowledge → CallStyle → List Text
names_of any s = []
names_of (these fs) s = flat_map (λ f. name_of f s) fs

-- the nearest name that is called in this style, operators among them, if one is near
abbrev pub IsNearestName : Knowledge → CallStyle → Text → Option (RcStr Global) → Type 0
IsNearestName k s written o = IsNearest written (operators_of s ++ names_of k s) (option_map rc_str_bytes o)
