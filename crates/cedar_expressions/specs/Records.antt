-- The fields of a record, made of pairs of a key and a part.
use Rattle.std.specs.Prelude.{◌≡◌, List, [], ◌∷◌, map, Option}
use Rattle.std.specs.Ordering.{nat_cmp, match_ordering}
use Rattle.std.specs.Cmp.Lexicographic.{slice_cmp}
use Rattle.std.specs.Rc.{rc_str_bytes}
use Rattle.std.specs.declared.alloc.Global.{Global}
use Rattle.std.specs.declared.rc.RcStr.{RcStr}
use Rattle.cedar_model.specs.Terms.{Text, Term, Fields, no_fields, one_field}
use Rattle.cedar_expressions.specs.declared.expr.Expr.{Expr}
use Rattle.cedar_model.specs.Refusals.{first_repeated_after}
use Rattle.cedar_expressions.specs.View.{view}

-- the key, if it is among these
abbrev pub repeated_key : List Text → Text → Option Text
repeated_key ks k = first_repeated_after ks (k ∷ [])

-- the new keys are the old ones and k: of further keys the same are duplicates
abbrev pub HasOneMore : List Text → Text → List Text → Type 0
HasOneMore old k new = (more : List Text) → first_repeated_after old (k ∷ more) ≡ first_repeated_after new more

-- the fields with t under k, at its place in byte order
abbrev pub put_field : Fields → Text → Term → Fields
put_field no_fields k t = one_field k t no_fields
put_field (one_field l u fs) k t =
    match_ordering (slice_cmp nat_cmp k l) (one_field k t (one_field l u fs)) (one_field l t fs) (one_field l u (put_field fs k t))

-- the fields with these too
abbrev pub put_fields : Fields → List (Text × Term) → Fields
put_fields fs [] = fs
put_fields fs (p ∷ ps) = put_fields (put_field fs p.0 p.1) ps

-- the terms under their keys, in byte order of the keys
abbrev pub fields_in_order : List (Text × Term) → Fields
fields_in_order ps = put_fields no_fields ps

-- pairs of a key and an expression, as texts and terms
abbrev pub pairs_view : List (RcStr Global × Expr) → List (Text × Term)
pairs_view = map (λ p. (rc_str_bytes p.0, view p.1))

-- their keys
abbrev pub keys_view : List (RcStr Global × Expr) → List Text
keys_view = map (λ p. rc_str_bytes p.0)
