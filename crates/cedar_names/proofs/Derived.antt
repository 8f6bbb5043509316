-- What a derived `==` on a leaf of an expression says: that both sides stand for the same.
use Rattle.std.proofs.Common.{◌≡◌, ℕ, pos, int_eq, Bool, true, false, ◌&&◌, nat_eq, List, [], ◌∷◌, map, Option, None, Some, Global, refl, sym, ap, ◌∙◌}
use Rattle.std.specs.declared.rc.RcStr.{RcStr}
use Rattle.std.specs.Rc.{rc_str_bytes}
use Rattle.std.specs.Bool.{one_answer}
use Rattle.std.specs.Option.{option_eq, option_map}
use Rattle.std.specs.Cmp.Lexicographic.{pointwise}
use Rattle.std.proofs.lemmas.Bool.Decides.{Decides-eqb, Decides-int_eq}
use Rattle.std.proofs.Math.Bool.{and-true}
use Rattle.cedar_model.specs.Keys.{end_key, number_key, key_cmp, text_key}
use Rattle.cedar_model.specs.lemmas.Codes.{texts_key, type_key, pattern_key}
use Rattle.cedar_names.specs.declared.names.EntityUID.{EntityUID}
use Rattle.cedar_names.specs.declared.names.SlotId.{SlotId}
use Rattle.cedar_names.specs.declared.names.SlotId.TheVariants as slots
use Rattle.cedar_names.specs.declared.names.Var.{Var}
use Rattle.cedar_names.specs.declared.names.Var.TheVariants as variables
use Rattle.cedar_names.specs.declared.operators.UnaryOp.{UnaryOp}
use Rattle.cedar_names.specs.declared.operators.UnaryOp.TheVariants as unaries
use Rattle.cedar_names.specs.declared.operators.BinaryOp.{BinaryOp}
use Rattle.cedar_names.specs.declared.operators.BinaryOp.TheVariants as binaries
use Rattle.cedar_names.specs.declared.pattern.PatternElem.{PatternElem}
use Rattle.cedar_names.specs.declared.pattern.PatternElem.TheVariants as parts
use Rattle.cedar_names.specs.declared.types.«Type».{«Type» as RType}
use Rattle.cedar_names.specs.declared.types.«Type».TheVariants as types
use Rattle.cedar_names.specs.declared.types.Literal.{Literal}
use Rattle.cedar_names.specs.declared.types.Literal.TheVariants as literals
use Rattle.cedar_names.specs.contracts.names.EntityUIDPartialEq.TheImpl as derived_entity
use Rattle.cedar_names.specs.contracts.names.SlotIdPartialEq.TheImpl as derived_slot
use Rattle.cedar_names.specs.Names.{uid_name}
use Rattle.cedar_names.specs.contracts.names.VarPartialEq.TheImpl as derived_variable
use Rattle.cedar_names.specs.contracts.operators.UnaryOpPartialEq.TheImpl as derived_unary
use Rattle.cedar_names.specs.contracts.operators.BinaryOpPartialEq.TheImpl as derived_binary
use Rattle.cedar_names.specs.contracts.pattern.PatternElemPartialEq.TheImpl as derived_part
use Rattle.cedar_names.specs.contracts.types.TypePartialEq.TheImpl as derived_type
use Rattle.cedar_names.specs.contracts.types.LiteralPartialEq.TheImpl as derived_literal
use Rattle.cedar_names.specs.Leaves.{slot_view, variable_view, unary_view, binary_view, part_view, type_view, literal_view, texts_view}
use Rattle.cedar_model.specs.Outcomes.{entity_eq, type_eq}
use Rattle.cedar_names.specs.Equality.{key_eq, texts_eq, literal_eq, annotation_eq, variable_eq, slot_eq, unary_eq}
use Rattle.cedar_names.specs.Equality.{binary_eq, pattern_eq}
use Rattle.cedar_names.specs.EqualityLaws.{text_eq-key, entity_eq-key, type_eq-key}
use Rattle.cedar_names.proofs.Equality.{then_eq}

pub slots_equal : (a b : SlotId) → (derived_slot.ghosts).eq a b ≡ slot_eq (slot_view a) (slot_view b)
unfolding slot_eq
slots_equal slots.Principal slots.Principal = refl
slots_equal slots.Principal _ = refl
slots_equal slots.Resource slots.Resource = refl
slots_equal slots.Resource _ = refl

pub variables_equal : (a b : Var) → (derived_variable.ghosts).eq a b ≡ variable_eq (variable_view a) (variable_view b)
unfolding variable_eq
variables_equal variables.Principal variables.Principal = refl
variables_equal variables.Principal _ = refl
variables_equal variables.Action variables.Action = refl
variables_equal variables.Action _ = refl
variables_equal variables.Resource variables.Resource = refl
variables_equal variables.Resource _ = refl
variables_equal variables.Context variables.Context = refl
variables_equal variables.Context _ = refl

pub unaries_equal : (a b : UnaryOp) → (derived_unary.ghosts).eq a b ≡ unary_eq (unary_view a) (unary_view b)
unfolding unary_eq
unaries_equal unaries.Not unaries.Not = refl
unaries_equal unaries.Not _ = refl
unaries_equal unaries.Neg unaries.Neg = refl
unaries_equal unaries.Neg _ = refl
unaries_equal unaries.IsEmpty unaries.IsEmpty = refl
unaries_equal unaries.IsEmpty _ = refl

pub binaries_equal : (a b : BinaryOp) → (derived_binary.ghosts).eq a b ≡ binary_eq (binary_view a) (binary_view b)
unfolding binary_eq
binaries_equal binaries.Eq binaries.Eq = refl
binaries_equal binaries.Eq _ = refl
binaries_equal binaries.Less binaries.Less = refl
binaries_equal binaries.Less _ = refl
binaries_equal binaries.LessEq binaries.LessEq = refl
binaries_equal binaries.LessEq _ = refl
binaries_equal binaries.Add binaries.Add = refl
binaries_equal binaries.Add _ = refl
binaries_equal binaries.Sub binaries.Sub = refl
binaries_equal binaries.Sub _ = refl
binaries_equal binaries.Mul binaries.Mul = refl
binaries_equal binaries.Mul _ = refl
binaries_equal binaries.In binaries.In = refl
binaries_equal binaries.In _ = refl
binaries_equal binaries.Contains binaries.Contains = refl
binaries_equal binaries.Contains _ = refl
binaries_equal binaries.ContainsAll binaries.ContainsAll = refl
binaries_equal binaries.ContainsAll _ = refl
binaries_equal binaries.ContainsAny binaries.ContainsAny = refl
binaries_equal binaries.ContainsAny _ = refl
binaries_equal binaries.GetTag binaries.GetTag = refl
binaries_equal binaries.GetTag _ = refl
binaries_equal binaries.HasTag binaries.HasTag = refl
binaries_equal binaries.HasTag _ = refl

bools_equal : (a b : Bool) → (derived_literal.ghosts).eq (literals.Bool a) (literals.Bool b) ≡ literal_eq (literal_view (literals.Bool a)) (literal_view (literals.Bool b))
unfolding literal_eq
bools_equal true true = refl
bools_equal true false = refl
bools_equal false true = refl
bools_equal false false = refl

pub entities_equal : (a b : EntityUID) → (derived_entity.ghosts).eq a b ≡ entity_eq (uid_name a) (uid_name b)
entities_equal a b = refl

pub literals_equal : (a b : Literal) → (derived_literal.ghosts).eq a b ≡ literal_eq (literal_view a) (literal_view b)
unfolding literal_eq
literals_equal (literals.Bool x) (literals.Bool y) = bools_equal x y
literals_equal (literals.Bool x) _ = refl
literals_equal (literals.Long x) (literals.Long y) = refl
literals_equal (literals.Long x) _ = refl
literals_equal (literals.String x) (literals.String y) = sym (text_eq-key (rc_str_bytes x) (rc_str_bytes y))
literals_equal (literals.String x) _ = refl
literals_equal (literals.EntityUID x) (literals.EntityUID y) = sym (entity_eq-key (uid_name x.value) (uid_name y.value))
literals_equal (literals.EntityUID x) _ = refl

pub types_equal : (a b : RType) → (derived_type.ghosts).eq a b ≡ type_eq (type_view a) (type_view b)
unfolding type_eq
types_equal types.Bool types.Bool = refl
types_equal types.Bool _ = refl
types_equal types.Long types.Long = refl
types_equal types.Long _ = refl
types_equal types.String types.String = refl
types_equal types.String _ = refl
types_equal types.Set types.Set = refl
types_equal types.Set _ = refl
types_equal types.Record types.Record = refl
types_equal types.Record _ = refl
types_equal (types.Entity x) (types.Entity y) = refl
types_equal (types.Entity x) _ = refl
types_equal (types.Extension x) (types.Extension y) = refl
types_equal (types.Extension x) _ = refl

pub annotations_equal : (a b : Option RType) → option_eq (derived_type.ghosts).eq a b ≡ annotation_eq (option_map type_view a) (option_map type_view b)
unfolding annotation_eq
annotations_equal None None = refl
annotations_equal None (Some t) = refl
annotations_equal (Some s) None = refl
annotations_equal (Some s) (Some t) =
    types_equal s t
    ∙ sym (then_eq (key_cmp (type_key (type_view s)) (type_key (type_view t))) (key_cmp end_key end_key)
    ∙ and-true (key_eq (type_key (type_view s)) (type_key (type_view t)))
    ∙ type_eq-key (type_view s) (type_view t))

codes_equal : (x y : ℕ) → nat_eq x y ≡ int_eq (pos x) (pos y)
codes_equal x y =
    one_answer (nat_eq x y) (int_eq (pos x) (pos y)) (Decides-eqb x y) (λ e. pos_back ((Decides-int_eq (pos x) (pos y)).0 e), λ e. (Decides-int_eq (pos x) (pos y)).1 (ap pos e))
  where
    pos_back : {m n : ℕ} → pos m ≡ pos n → m ≡ n
    pos_back e = cc

pub patterns_equal : (ps qs : List PatternElem) → pointwise (derived_part.ghosts).eq ps qs ≡ pattern_eq (map part_view ps) (map part_view qs)
unfolding pattern_eq
patterns_equal [] [] = refl
patterns_equal [] (parts.Char d ∷ qs) = refl
patterns_equal [] (parts.Wildcard ∷ qs) = refl
patterns_equal (parts.Char c ∷ ps) [] = refl
patterns_equal (parts.Wildcard ∷ ps) [] = refl
patterns_equal (parts.Char c ∷ ps) (parts.Char d ∷ qs) =
    let rest = pointwise (derived_part.ghosts).eq ps qs in
    ap (λ b. b && rest) (codes_equal c d) ∙ ap (λ b. int_eq (pos c) (pos d) && b) (patterns_equal ps qs) ∙ sym (then_eq (key_cmp (number_key (pos c)) (number_key (pos d))) (key_cmp (pattern_key (map part_view ps)) (pattern_key (map part_view qs))))
patterns_equal (parts.Char c ∷ ps) (parts.Wildcard ∷ qs) = refl
patterns_equal (parts.Wildcard ∷ ps) (parts.Char d ∷ qs) = refl
patterns_equal (parts.Wildcard ∷ ps) (parts.Wildcard ∷ qs) = patterns_equal ps qs

pub texts_equal : (xs ys : List (RcStr Global)) → pointwise (λ x y. pointwise nat_eq (rc_str_bytes x) (rc_str_bytes y)) xs ys ≡ texts_eq (texts_view xs) (texts_view ys)
unfolding texts_eq
texts_equal [] [] = refl
texts_equal [] (t ∷ ts) = refl
texts_equal (s ∷ ss) [] = refl
texts_equal (s ∷ ss) (t ∷ ts) =
    let a = rc_str_bytes s in
    let b = rc_str_bytes t in
    (λ i. sym (text_eq-key a b) i && texts_equal ss ts i)
    ∙ sym (then_eq (key_cmp (text_key a) (text_key b))
    (key_cmp (texts_key (texts_view ss)) (texts_key (texts_view ts))))

pub ruleset leaves = (slots_equal, variables_equal, unaries_equal, binaries_equal, literals_equal, types_equal, annotations_equal, patterns_equal, texts_equal)
