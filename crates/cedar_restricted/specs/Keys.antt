-- The keys of records, and what stands under them.
use Rattle.std.specs.Prelude.{List, [], ◌∷◌, map}
use Rattle.std.specs.Rc.{rc_str_bytes}
use Rattle.std.specs.declared.alloc.Global.{Global}
use Rattle.std.specs.declared.rc.RcStr.{RcStr}
use Rattle.cedar_model.specs.Terms.{Text, Terms, no_terms, one_term, Fields, no_fields, one_field}

abbrev pub texts_of : List (RcStr Global) → List Text
texts_of ks = map {B = Text} rc_str_bytes ks

-- the terms under these keys, in turn
abbrev pub fields_named : List Text → Terms → Fields
fields_named [] ts = no_fields
fields_named (k ∷ ks) no_terms = no_fields
fields_named (k ∷ ks) (one_term t ts) = one_field k t (fields_named ks ts)

-- each under its key
abbrev pub each_under : {A : Type 0} → List Text → List A → List (Text × A)
each_under [] xs = []
each_under (k ∷ ks) [] = []
each_under (k ∷ ks) (x ∷ xs) = (k, x) ∷ each_under ks xs
