-- The standard extensions alone, as plain data.
use Rattle.std.specs.Prelude.{◌≡◌, true, [], option_map}
use Rattle.cedar_model.specs.World as world
use Rattle.cedar_model.specs.Rules.{StoredCalls}
use Rattle.cedar_standard_functions.specs.Kinds.{overloaded}
use Rattle.cedar_standard_functions.specs.Standard.{standard_named}
use Rattle.cedar_extensions.specs.declared.extensions.Extensions.{Extensions}
use Rattle.cedar_extensions.specs.Extensions.{extensions_in, has_standard}
use Rattle.cedar_extensions.specs.Standard.{standard_arity, StandardFirst}
use Rattle.cedar_functions.specs.Functions.{Knowledge, these, standard_signatures}

-- how many arguments each of their functions takes, and the types whose values `<` compares
abbrev pub standard_extensions : world.Extensions
standard_extensions =
    record { arity = λ n. option_map standard_arity (standard_named n); overloaded = overloaded }

-- what their functions may answer, besides running out of memory
abbrev pub standard_calls : StoredCalls
standard_calls n vs a = StandardFirst (standard_named n) ⊥ vs a

-- what is known of them where a text is read
abbrev pub standard_knowledge : Knowledge
standard_knowledge = these (standard_signatures true)

-- they are there, and no others
pub record IsStandardAlone {X : Type 0} {F : X → Type 0} {g : _} (x : Extensions X F g) : Type 0 where
  pub none_made : extensions_in x ≡ []
  pub standard : has_standard x ≡ true
