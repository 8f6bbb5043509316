-- Keys: lists of texts, by which a thing is noted once.
use Rattle.std.specs.Prelude.{Bool, true, false, cond, ◌&&◌, ◌||◌, List, [], ◌∷◌, ◌++◌}
use Rattle.std.specs.List.{list_any}
use Rattle.std.specs.declared.alloc.Global.{Global}
use Rattle.std.specs.declared.rc.RcStr.{RcStr}
use Rattle.std.specs.declared.vec.Vec.{Vec}
use Rattle.cedar_model.specs.Terms.{Text}
use Rattle.cedar_model.specs.Outcomes.{text_eq}
use Rattle.cedar_names.specs.Leaves.{texts_view}

abbrev pub Key : Type 0
Key = List Text

-- the same texts
abbrev pub key_eq : Key → Key → Bool
key_eq [] [] = true
key_eq [] (l ∷ ls) = false
key_eq (k ∷ ks) [] = false
key_eq (k ∷ ks) (l ∷ ls) = text_eq k l && key_eq ks ls

-- what is noted, in order, and the keys by which each is noted once
pub record Sheet (A : Type 0) : Type 0 where
  pub has : Key → Bool
  pub items : List A

-- nothing is noted
abbrev pub nothing : (A : Type 0) → Sheet A
nothing A = record { has = λ k. false; items = [] }

-- these keys, and this one
abbrev pub with_key : (Key → Bool) → Key → Key → Bool
with_key f k l = f l || key_eq l k

-- the item is noted after the others, unless one of its key was
abbrev pub noted : {A : Type 0} → (A → Key) → Sheet A → A → Sheet A
noted key s x =
    cond (s.has (key x)) s (record { has = with_key s.has (key x); items = s.items ++ x ∷ [] })

-- each in turn
abbrev pub noted_each : {A : Type 0} → (A → Key) → Sheet A → List A → Sheet A
noted_each key s [] = s
noted_each key s (x ∷ xs) = noted_each key (noted key s x) xs

-- of these the first of each key
abbrev pub once : {A : Type 0} → (A → Key) → List A → List A
once key xs = (noted_each key (nothing _) xs).items

-- ---- for private clauses

-- the key is one of these
abbrev pub has_key : List (Vec (RcStr Global) Global) → Key → Bool
has_key vs k = list_any (λ v. key_eq k (texts_view v.items)) vs
