-- What an equation of options, results, booleans, outcomes or answers tells.
use Rattle.std.specs.Prelude.{◌≡◌, ◌≢◌, Bool, true, false, Option, Some, None, Result, Ok, Err, option_map, is_some}
use Rattle.std.proofs.Common.{refl, sym}
use Rattle.cedar_model.specs.Values.{AbstractValue, AbstractFields, record_value}
use Rattle.cedar_model.specs.Outcomes.{gives}
use Rattle.cedar_model.specs.Failures.{Failure, PartialValue, answers, fails}

pub some_inj : {A : Type 0} {x y : A} → Some x ≡ Some y → x ≡ y
some_inj e = cc

pub none_is_not_some : {A : Type 0} {x : A} → None ≡ Some x → ⊥
none_is_not_some e = cc

pub ok_inj : {A B : Type 0} {x y : A} → ◌≡◌ {A = Result A B} (Ok x) (Ok y) → x ≡ y
ok_inj e = cc

pub err_inj : {A B : Type 0} {x y : B} → ◌≡◌ {A = Result A B} (Err x) (Err y) → x ≡ y
err_inj e = cc

pub ok_is_not_err : {A B : Type 0} {x : A} {y : B} → ◌≡◌ {A = Result A B} (Ok x) (Err y) → ⊥
ok_is_not_err e = cc

pub err_is_not_ok : {A B : Type 0} {x : A} {y : B} → ◌≡◌ {A = Result A B} (Err y) (Ok x) → ⊥
err_is_not_ok e = cc

pub false_is_not_true : false ≡ true → ⊥
false_is_not_true e = cc

pub true_is_not_false : {b : Bool} → b ≡ true → b ≡ false → ⊥
true_is_not_false e f = cc

-- booleans that follow of each other are one
pub same_bools : (a b : Bool) → (a ≡ true → b ≡ true) → (b ≡ true → a ≡ true) → a ≡ b
same_bools true b f g = sym (f refl)
same_bools false true f g = g refl
same_bools false false f g = refl

pub is_some-option_map : {A B : Type 0} (f : A → B) (o : Option A) → is_some (option_map f o) ≡ is_some o
is_some-option_map f None = refl
is_some-option_map f (Some x) = refl

pub gives_inj : {u v : AbstractValue} → gives u ≡ gives v → u ≡ v
gives_inj e = cc

pub record_inj : {fs gs : AbstractFields} → record_value fs ≡ record_value gs → fs ≡ gs
record_inj e = cc

pub fails_inj : {d e : Failure} → fails d ≡ fails e → d ≡ e
fails_inj h = cc

pub answers_is_not_fails : (p : PartialValue) (e : Failure) → answers p ≢ fails e
answers_is_not_fails p e h = cc
