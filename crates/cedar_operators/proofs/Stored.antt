-- What is stored of an entity, and what records have, beside the rules.
use Rattle.std.proofs.Common.{◌≡◌, ◌≢◌, false, List, [], ◌∷◌, Option, Some, None, option_map, option_copied, is_some, Bor, length, arith, refl, sym, ap, ◌∙◌}
use Rattle.std.specs.Ordering.{nat_cmp}
use Rattle.std.specs.Cmp.Lexicographic.{slice_cmp}
use Rattle.std.specs.Map.{lookup}
use Rattle.std.specs.BTreeMap.{is_at}
use Rattle.std.specs.Rc.{rc_str_bytes}
use Rattle.std.specs.declared.alloc.Global.{Global}
use Rattle.std.specs.declared.rc.RcStr.{RcStr}
use Rattle.cedar_model.specs.Terms.{Text, literal, variable, slot, unknown, if_then_else, both, either, unary, binary, call}
use Rattle.cedar_model.specs.Terms.{get_attribute, has_attribute, extended_has, like, is_of_type, set_of, record_of}
use Rattle.cedar_model.specs.Values.{Represented}
use Rattle.cedar_model.specs.Failures.{Failure, out_of_memory, PartialValue, value, residual, Answer, answers, fails}
use Rattle.cedar_model.specs.Failures.{answers_bool}
use Rattle.cedar_model.specs.Settings.{Store}
use Rattle.cedar_model.specs.Operators.{represented_at, container_of, container_expected, last_in, walk_in, walk_to}
use Rattle.cedar_model.specs.Operators.{stored_attribute, mapped, path_answer, after_walk, walks_on, stops}
use Rattle.cedar_model.proofs.Injections.{is_some-option_map}
use Rattle.cedar_names.specs.Leaves.{texts_view}
use Rattle.cedar_values.specs.Sound.{Placed, whats_at}
use Rattle.cedar_operators.proofs.Keys.{whats-lookup}

-- without a map a stored attribute is answered as it is stored
pub stored_as_is : (p : PartialValue) (f : Failure) → stored_attribute (λ n. None) (Some p) f ≡ answers p
unfolding stored_attribute mapped
stored_as_is (value v) f = refl
stored_as_is (residual (literal l)) f = refl
stored_as_is (residual (variable v)) f = refl
stored_as_is (residual (slot s)) f = refl
stored_as_is (residual (unknown n t)) f = refl
stored_as_is (residual (if_then_else c a b)) f = refl
stored_as_is (residual (both a b)) f = refl
stored_as_is (residual (either a b)) f = refl
stored_as_is (residual (unary op a)) f = refl
stored_as_is (residual (binary op a b)) f = refl
stored_as_is (residual (call g ts)) f = refl
stored_as_is (residual (get_attribute e k)) f = refl
stored_as_is (residual (has_attribute e k)) f = refl
stored_as_is (residual (extended_has e k ks)) f = refl
stored_as_is (residual (like e p)) f = refl
stored_as_is (residual (is_of_type e t)) f = refl
stored_as_is (residual (set_of ts)) f = refl
stored_as_is (residual (record_of fs)) f = refl

-- ---- records

-- what a record's map has at a key
pub at_key : (name : Text) (es : List (RcStr Global × Placed)) (o : Option Placed) → o ≡ lookup (is_at (λ k. slice_cmp nat_cmp name (rc_str_bytes k))) es → option_map (λ (p : Placed). p.what) o ≡ represented_at name (whats_at es)
at_key name es o is = ap (option_map (λ (p : Placed). p.what)) is ∙ whats-lookup name es

pub is_at_key : (name : Text) (es : List (RcStr Global × Placed)) (r : Option (Bor Placed)) → option_copied r ≡ lookup (is_at (λ k. slice_cmp nat_cmp name (rc_str_bytes k))) es → is_some r ≡ is_some (represented_at name (whats_at es))
is_at_key name es r is =
    sym (is_some-option_map (λ (x : Bor Placed). x.now) r) ∙ sym (is_some-option_map (λ (p : Placed). p.what) (option_copied r)) ∙ ap is_some (at_key name es (option_copied r) is)

-- a step by a key that is there, and by one that is not
pub step_at_key : (name : Text) (es : List (RcStr Global × Placed)) (o : Option Placed) (v : Placed) → o ≡ lookup (is_at (λ k. slice_cmp nat_cmp name (rc_str_bytes k))) es → o ≡ Some v → walks_on v.what ≡ walk_to (represented_at name (whats_at es))
unfolding walk_to
step_at_key name es o v is some =
    ap walk_to (ap (option_map (λ (p : Placed). p.what)) (sym some) ∙ at_key name es o is)

pub step_at_no_key : (name : Text) (es : List (RcStr Global × Placed)) (o : Option Placed) → o ≡ lookup (is_at (λ k. slice_cmp nat_cmp name (rc_str_bytes k))) es → o ≡ None → stops (answers_bool false) ≡ walk_to (represented_at name (whats_at es))
unfolding walk_to
step_at_no_key name es o is none =
    ap walk_to (ap (option_map (λ (p : Placed). p.what)) (sym none) ∙ at_key name es o is)

-- ---- extended `has`

-- the last attribute is a presence check
pub path_ends : (store : Store) (v : Represented) (k : Text) → path_answer store v k [] ≡ last_in store (container_of v) (container_expected v) k
unfolding path_answer
path_ends store v k = refl

pub path_walks : (store : Store) (v u : Represented) (k l : Text) (ls : List Text) → (walks_on u ≢ stops (fails out_of_memory) → walks_on u ≡ walk_in store (container_of v) (container_expected v) k l ls) → path_answer store v k (l ∷ ls) ≡ path_answer store u l ls
unfolding path_answer after_walk
path_walks store v u k l ls is = ap (λ s. after_walk s (λ w. path_answer store w l ls)) (sym (is (λ e. cc)))

pub path_stops : (store : Store) (v : Represented) (k l : Text) (ls : List Text) (a : Answer) → (stops a ≢ stops (fails out_of_memory) → stops a ≡ walk_in store (container_of v) (container_expected v) k l ls) → a ≢ fails out_of_memory → a ≡ path_answer store v k (l ∷ ls)
unfolding path_answer after_walk
path_stops store v k l ls a is ok = ap (λ s. after_walk s (λ w. path_answer store w l ls)) (is (λ e. ok (cc)))

pub texts_of_none : (ts : List (RcStr Global)) → length ts ≡ 0 → texts_view ts ≡ []
texts_of_none [] h = refl
texts_of_none (t ∷ ts) h = absurd (omega arith)
