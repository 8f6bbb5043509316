-- Values that are given under their names.
use Rattle.std.specs.Prelude.{◌≡◌, ℕ, List, [], ◌∷◌, map, Option, Some, codes}
use Rattle.std.specs.Borrow.{Bor}
use Rattle.std.specs.Ordering.{nat_cmp, match_ordering}
use Rattle.std.specs.Cmp.Lexicographic.{slice_cmp}
use Rattle.std.specs.Rc.{rc_str_bytes}
use Rattle.std.specs.declared.alloc.Global.{Global}
use Rattle.std.specs.declared.rc.RcStr.{RcStr}
use Rattle.cedar_model.specs.Terms.{Text}
use Rattle.cedar_model.specs.Values.{Represented, RepresentedFields, no_represented_at, one_represented_at}
use Rattle.cedar_model.specs.Refusals.{first_repeated}
use Rattle.cedar_expressions.specs.declared.errors.ExpressionConstructionError.TheVariants as constructions
use Rattle.cedar_values.specs.Sound.{Placed}
use Rattle.cedar_requests.specs.declared.errors.ContextCreationError.{ContextCreationError}
use Rattle.cedar_requests.specs.declared.errors.ContextCreationError.TheVariants as refusals

-- a name and its value
abbrev pub Named : Type 0
Named = Bor (List ℕ) × Placed

abbrev pub names_given : List Named → List Text
names_given = map (λ p. p.0.now)

-- the names of entries
abbrev pub entry_names : List (RcStr Global × Placed) → List Text
entry_names = map (λ p. rc_str_bytes p.0)

-- the fields with v under k, at its place in byte order
abbrev pub put_value : RepresentedFields → Text → Represented → RepresentedFields
put_value no_represented_at k v = one_represented_at k v no_represented_at
put_value (one_represented_at l w fs) k v =
    match_ordering (slice_cmp nat_cmp k l) (one_represented_at k v (one_represented_at l w fs))
    (one_represented_at l v fs) (one_represented_at l w (put_value fs k v))

-- the fields with these too
abbrev pub put_values : RepresentedFields → List Named → RepresentedFields
put_values fs [] = fs
put_values fs (p ∷ ps) = put_values (put_value fs p.0.now p.1.what) ps

-- the values under their names, in byte order of the names
abbrev pub values_in_order : List Named → RepresentedFields
values_in_order ps = put_values no_represented_at ps

-- the error names this name, which is a duplicate, in a context; or it is out of memory
abbrev pub IsRefusalOfName : Option Text → ContextCreationError → Type 0
IsRefusalOfName repeated (refusals.NotARecord e) = ⊥
IsRefusalOfName repeated (refusals.Evaluation e) = ⊥
IsRefusalOfName repeated (refusals.ExpressionConstruction (constructions.DuplicateKey key context)) =
    (repeated ≡ Some (rc_str_bytes key)) × (context.now ≡ codes "in context")
IsRefusalOfName repeated (refusals.ExpressionConstruction (constructions.Memory e)) = ⊥
IsRefusalOfName repeated (refusals.Memory e) = Unit {0}

-- why there is no context of these
abbrev pub IsRefusalOfNamed : List Named → ContextCreationError → Type 0
IsRefusalOfNamed ps = IsRefusalOfName (first_repeated (names_given ps))
