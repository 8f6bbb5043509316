-- What the leaves' derived `hash` feeds a hasher, as plain data.
use Rattle.std.proofs.Common.{◌≡◌, suc, pos, List, [], ◌∷◌, ◌++◌, map, length, Option, None, Some, Global, refl, ap}
use Rattle.std.specs.declared.rc.RcStr.{RcStr}
use Rattle.std.specs.Rc.{rc_str_bytes}
use Rattle.std.specs.Hash as fed
use Rattle.std.specs.Hash.{HashWrites}
use Rattle.std.specs.List.{flat_map}
use Rattle.std.specs.Option.{option_map}
use Rattle.cedar_model.specs.lemmas.Codes.{variable_number, slot_number, unary_number, binary_number}
use Rattle.cedar_names.specs.declared.names.SlotId.{SlotId}
use Rattle.cedar_names.specs.declared.names.SlotId.TheVariants as slots
use Rattle.cedar_names.specs.declared.names.Var.{Var}
use Rattle.cedar_names.specs.declared.names.Var.TheVariants as variables
use Rattle.cedar_names.specs.declared.operators.UnaryOp.{UnaryOp}
use Rattle.cedar_names.specs.declared.operators.UnaryOp.TheVariants as unaries
use Rattle.cedar_names.specs.declared.operators.BinaryOp.{BinaryOp}
use Rattle.cedar_names.specs.declared.operators.BinaryOp.TheVariants as binaries
use Rattle.cedar_names.specs.declared.pattern.PatternElem.{PatternElem}
use Rattle.cedar_names.specs.declared.pattern.PatternElem.TheVariants as parts
use Rattle.cedar_names.specs.declared.types.«Type».{«Type» as RType}
use Rattle.cedar_names.specs.declared.types.«Type».TheVariants as types
use Rattle.cedar_names.specs.declared.types.Literal.{Literal}
use Rattle.cedar_names.specs.declared.types.Literal.TheVariants as literals
use Rattle.cedar_names.specs.contracts.names.SlotIdHash.TheImpl as derived_slot
use Rattle.cedar_names.specs.contracts.names.VarHash.TheImpl as derived_variable
use Rattle.cedar_names.specs.contracts.operators.UnaryOpHash.TheImpl as derived_unary
use Rattle.cedar_names.specs.contracts.operators.BinaryOpHash.TheImpl as derived_binary
use Rattle.cedar_names.specs.contracts.pattern.PatternElemHash.TheImpl as derived_part
use Rattle.cedar_names.specs.contracts.types.TypeHash.TheImpl as derived_type
use Rattle.cedar_names.specs.contracts.types.LiteralHash.TheImpl as derived_literal
use Rattle.cedar_names.specs.Leaves.{slot_view, variable_view, unary_view, binary_view, part_view, type_view, literal_view, texts_view}
use Rattle.cedar_names.specs.Hashing.{fed_literal, fed_type, fed_annotation, fed_part, fed_pattern, fed_texts}

pub slots_fed : (a : SlotId) → (derived_slot.ghosts).hash_input a ≡ fed.isize (pos (slot_number (slot_view a)))
slots_fed slots.Principal = refl
slots_fed slots.Resource = refl

pub variables_fed : (a : Var) → (derived_variable.ghosts).hash_input a ≡ fed.isize (pos (variable_number (variable_view a)))
variables_fed variables.Principal = refl
variables_fed variables.Action = refl
variables_fed variables.Resource = refl
variables_fed variables.Context = refl

pub unaries_fed : (a : UnaryOp) → (derived_unary.ghosts).hash_input a ≡ fed.isize (pos (unary_number (unary_view a)))
unaries_fed unaries.Not = refl
unaries_fed unaries.Neg = refl
unaries_fed unaries.IsEmpty = refl

pub binaries_fed : (a : BinaryOp) → (derived_binary.ghosts).hash_input a ≡ fed.isize (pos (binary_number (binary_view a)))
binaries_fed binaries.Eq = refl
binaries_fed binaries.Less = refl
binaries_fed binaries.LessEq = refl
binaries_fed binaries.Add = refl
binaries_fed binaries.Sub = refl
binaries_fed binaries.Mul = refl
binaries_fed binaries.In = refl
binaries_fed binaries.Contains = refl
binaries_fed binaries.ContainsAll = refl
binaries_fed binaries.ContainsAny = refl
binaries_fed binaries.GetTag = refl
binaries_fed binaries.HasTag = refl

pub literals_fed : (a : Literal) → (derived_literal.ghosts).hash_input a ≡ fed_literal (literal_view a)
literals_fed (literals.Bool x) = refl
literals_fed (literals.Long x) = refl
literals_fed (literals.String x) = refl
literals_fed (literals.EntityUID x) = refl

pub types_fed : (a : RType) → (derived_type.ghosts).hash_input a ≡ fed_type (type_view a)
types_fed types.Bool = refl
types_fed types.Long = refl
types_fed types.String = refl
types_fed types.Set = refl
types_fed types.Record = refl
types_fed (types.Entity x) = refl
types_fed (types.Extension x) = refl

pub annotations_fed : (a : Option RType) → fed.option (derived_type.ghosts).hash_input a ≡ fed_annotation (option_map type_view a)
annotations_fed None = refl
annotations_fed (Some t) = ap (λ w. fed.isize (pos 1) ++ w) (types_fed t)

-- a list of seen elements feeds as the list does
seen : {X Y : Type 0} (F : X → HashWrites) (G : Y → HashWrites) (f : X → Y) → ((x : X) → F x ≡ G (f x)) → (xs : List X) → flat_map F xs ≡ flat_map G (map f xs)
seen F G f e [] = refl
seen F G f e (x ∷ xs) = λ i. e x i ++ seen F G f e xs i

as_many : {X Y : Type 0} (f : X → Y) (xs : List X) → length xs ≡ length (map f xs)
as_many f [] = refl
as_many f (x ∷ xs) = ap suc (as_many f xs)

part_fed : (a : PatternElem) → (derived_part.ghosts).hash_input a ≡ fed_part (part_view a)
part_fed (parts.Char c) = refl
part_fed parts.Wildcard = refl

pub patterns_fed : (ps : List PatternElem) → fed.slice (derived_part.ghosts).hash_input ps ≡ fed_pattern (map part_view ps)
patterns_fed ps =
    λ i. fed.usize (as_many part_view ps i) ++ seen (derived_part.ghosts).hash_input fed_part part_view part_fed ps i

pub texts_fed : (ts : List (RcStr Global)) → fed.slice (λ s. fed.str (rc_str_bytes s)) ts ≡ fed_texts (texts_view ts)
texts_fed ts =
    λ i. fed.usize (as_many {X = RcStr Global} rc_str_bytes ts i) ++ seen {X = RcStr Global} (λ s. fed.str (rc_str_bytes s)) fed.str rc_str_bytes (λ s. refl) ts i

pub ruleset leaves = (slots_fed, variables_fed, unaries_fed, binaries_fed, literals_fed, types_fed, annotations_fed, patterns_fed, texts_fed)
