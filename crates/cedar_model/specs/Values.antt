-- Values: with their representations, as an evaluator holds them, and without, as their equality sees them.
use Rattle.std.specs.Prelude.{ℕ, List}
use Rattle.cedar_model.specs.Terms.{Text, Literal, Term, literal, call, set_of, record_of, Terms, no_terms, one_term}
use Rattle.cedar_model.specs.Terms.{Fields, no_fields, one_field}

-- a value as equality sees it; an extension value is its type's name and a key
mutual
  pub data AbstractValue : Type 0 where
    plain : Literal → AbstractValue
    set_value : AbstractValues → AbstractValue
    record_value : AbstractFields → AbstractValue
    extension_value : Text → List ℕ → AbstractValue

  -- the elements of a set, in order
  pub data AbstractValues : Type 0 where
    no_values : AbstractValues
    one_value : AbstractValue → AbstractValues → AbstractValues

  -- the values of a record under its keys, in order
  pub data AbstractFields : Type 0 where
    no_values_at : AbstractFields
    one_value_at : Text → AbstractValue → AbstractFields → AbstractFields

-- a value with its representation: an extension value also has the function and the arguments that it is written as
mutual
  pub data Represented : Type 0 where
    plain_represented : Literal → Represented
    set_represented : RepresentedValues → Represented
    record_represented : RepresentedFields → Represented
    extension_represented : Text → List ℕ → Text → Terms → Represented

  pub data RepresentedValues : Type 0 where
    no_represented : RepresentedValues
    one_represented : Represented → RepresentedValues → RepresentedValues

  pub data RepresentedFields : Type 0 where
    no_represented_at : RepresentedFields
    one_represented_at : Text → Represented → RepresentedFields → RepresentedFields

-- the value that is represented
abbrev mutual
  pub abstract_value : Represented → AbstractValue
  abstract_value (plain_represented l) = plain l
  abstract_value (set_represented vs) = set_value (abstract_values vs)
  abstract_value (record_represented fs) = record_value (abstract_fields fs)
  abstract_value (extension_represented t k f ts) = extension_value t k

  pub abstract_values : RepresentedValues → AbstractValues
  abstract_values no_represented = no_values
  abstract_values (one_represented v vs) = one_value (abstract_value v) (abstract_values vs)

  pub abstract_fields : RepresentedFields → AbstractFields
  abstract_fields no_represented_at = no_values_at
  abstract_fields (one_represented_at k v fs) = one_value_at k (abstract_value v) (abstract_fields fs)

-- the expression of a value: an extension value is written as the call of its representation
abbrev mutual
  pub expression_of : Represented → Term
  expression_of (plain_represented l) = literal l
  expression_of (set_represented vs) = set_of (expressions_of vs)
  expression_of (record_represented fs) = record_of (expressions_at fs)
  expression_of (extension_represented t k f ts) = call f ts

  pub expressions_of : RepresentedValues → Terms
  expressions_of no_represented = no_terms
  expressions_of (one_represented v vs) = one_term (expression_of v) (expressions_of vs)

  pub expressions_at : RepresentedFields → Fields
  expressions_at no_represented_at = no_fields
  expressions_at (one_represented_at k v fs) = one_field k (expression_of v) (expressions_at fs)
