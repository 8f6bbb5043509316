-- What stands under the names of a record, and how many members it has.
use Rattle.std.proofs.Common.{◌≡◌, List, [], ◌∷◌, length, Option, Some, None, option_map, option_copied, is_some, Bor, cond, Bool, true, false, refl, ap, ◌∙◌, arith}
use Rattle.std.proofs.lemmas.Map.Text.{is_eq-slice_cmp}
use Rattle.std.specs.BTreeMap.{is_at}
use Rattle.std.specs.Cmp.Lexicographic.{slice_cmp}
use Rattle.std.specs.Map.{lookup}
use Rattle.std.specs.Ordering.{nat_cmp}
use Rattle.std.specs.Rc.{rc_str_bytes}
use Rattle.std.specs.declared.alloc.Global.{Global}
use Rattle.std.specs.declared.rc.RcStr.{RcStr}
use Rattle.cedar_model.specs.Terms.{Text}
use Rattle.cedar_model.specs.Operators.{represented_at}
use Rattle.cedar_model.specs.Outcomes.{text_of}
use Rattle.cedar_model.specs.Values.{Represented, abstract_value}
use Rattle.cedar_values.specs.Sound.{Placed, whats_at}
use Rattle.cedar_lints.specs.Paths.{holds_text, members_count}

found_or : (b : Bool) (v : Placed) (rest : Option Placed) (more : Option Represented)
    → option_map (λ (p : Placed). p.what) rest ≡ more → option_map (λ (p : Placed). p.what) (cond b (Some v) rest)
    ≡ cond b (Some v.what) more
found_or true v rest more e = refl
found_or false v rest more e = e

-- what a look-up by bytes finds
whats-lookup : (name : Text) (es : List (RcStr Global × Placed))
    → option_map (λ (p : Placed). p.what) (lookup (is_at (λ k. slice_cmp nat_cmp name (rc_str_bytes k))) es)
    ≡ represented_at name (whats_at es)
unfolding represented_at
whats-lookup name [] = refl
whats-lookup name (e ∷ es) =
    found_or _ e.1 _ _ (whats-lookup name es)
    ∙ ap (λ b. cond b (Some e.1.what) (represented_at name (whats_at es))) (is_eq-slice_cmp name (rc_str_bytes e.0))

-- a text that is read of a value is there
is_some_text : (o : Option (Bor (RcStr Global))) → is_some o ≡ is_some (option_map rc_str_bytes (option_copied o))
is_some_text None = refl
is_some_text (Some t) = refl

pub text_found : (name : Text) (es : List (RcStr Global × Placed)) (v : Bor Placed) (o : Option (Bor (RcStr Global)))
    (b : Bool)
    → Some v.now ≡ lookup (is_at (λ k. slice_cmp nat_cmp name (rc_str_bytes k))) es
    → option_map rc_str_bytes (option_copied o) ≡ text_of (abstract_value v.now.what) → b ≡ is_some o
    → b ≡ holds_text (represented_at name (whats_at es))
text_found name es v o b found text is =
    is ∙ is_some_text o ∙ ap is_some text
    ∙ ap holds_text (ap (option_map (λ (p : Placed). p.what)) found ∙ whats-lookup name es)

pub no_text : (name : Text) (es : List (RcStr Global × Placed)) → None
    ≡ lookup (is_at (λ k. slice_cmp nat_cmp name (rc_str_bytes k))) es
    → false ≡ holds_text (represented_at name (whats_at es))
no_text name es none = ap holds_text (ap (option_map (λ (p : Placed). p.what)) none ∙ whats-lookup name es)

pub members_count-whats : (es : List (RcStr Global × Placed)) → members_count (whats_at es) ≡ length es
members_count-whats [] = refl
members_count-whats (e ∷ es) = let k = members_count-whats es in omega arith

pub ruleset members = (members_count-whats)
