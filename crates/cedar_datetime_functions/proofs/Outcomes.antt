-- What comes after a number that may be missing: it is computed, asks nothing, and what it gives is such.
use Rattle.std.specs.Prelude.{◌≡◌, ◌≢◌, ℕ, ◌^◌, Bool, true, false, cond, nat_lt, List, Option, None, Some}
use Rattle.std.specs.Prelude.{ℤ, pos, negsuc, FitsSigned}
use Rattle.std.specs.Int.{w64}
use Rattle.std.proofs.Common.{refl, sym, subst, arith}
use Rattle.std.proofs.lemmas.Bool.{ltb-true}
use Rattle.cedar_model.specs.Terms.{Text, ValueType}
use Rattle.cedar_model.specs.Values.{Represented}
use Rattle.cedar_model.specs.World.{FunctionAnswer, function_asks}
use Rattle.cedar_model.specs.Failures.{Failure, failure_kind, function_has_failed, Answer, answers_value, value}
use Rattle.cedar_model.specs.Operators.{expecting}
use Rattle.cedar_model.specs.Agreement.{function_answer, failure_answer}
use Rattle.cedar_model.proofs.Injections.{answers_is_not_fails}
use Rattle.cedar_datetime.specs.Keys.{value_of_key}
use Rattle.cedar_datetime.specs.Operations.{in_64_bits}
use Rattle.cedar_datetime_functions.specs.Names.{datetime_name, beyond_64_bits, not_eight_bytes}
use Rattle.cedar_datetime_functions.specs.Numbers.{or_failed, of_number, made_of_number, of_numbers, made_of_numbers}
use Rattle.cedar_datetime_functions.specs.Numbers.{if_within, gives_number, made_if_within}

-- ---- what is computed

computes : (o : Option ℤ) (message : Text) (next : ℤ → Answer) (made : ℤ → FunctionAnswer)
    → ((z : ℤ) → function_answer (next z) ≡ Some (made z))
    → function_answer (expecting o (function_has_failed datetime_name message) next) ≡ Some (or_failed o made)
unfolding function_answer expecting or_failed failure_answer failure_kind
computes None message next made h = refl
computes (Some z) message next made h = h z

pub number_computes : (next : ℤ → Answer) (made : ℤ → FunctionAnswer)
    → ((z : ℤ) → function_answer (next z) ≡ Some (made z)) → (k : List ℕ)
    → function_answer (of_number next k) ≡ Some (made_of_number made k)
number_computes next made h k = computes (value_of_key k) not_eight_bytes next made h

pub numbers_compute : (next : ℤ → ℤ → Answer) (made : ℤ → ℤ → FunctionAnswer)
    → ((z d : ℤ) → function_answer (next z d) ≡ Some (made z d)) → (k l : List ℕ)
    → function_answer (of_numbers next k l) ≡ Some (made_of_numbers made k l)
numbers_compute next made h k l =
    number_computes (λ z. of_number (next z) l) (λ z. made_of_number (made z) l)
    (λ z. number_computes (next z) (made z) (h z) l) k

pub within_computes : (written_as : ℤ → Represented) (t : Text)
    → ((z : ℤ) → function_answer (answers_value (written_as z)) ≡ Some (gives_number t z)) → (o : Option ℤ)
    → function_answer (if_within written_as o) ≡ Some (made_if_within t o)
within_computes written_as t h o =
    computes o beyond_64_bits (λ n. answers_value (written_as n)) (gives_number t) h

-- ---- what is asked

asks : (o : Option ℤ) (made : ℤ → FunctionAnswer) (n : Text) (t : Option ValueType)
    → ((z : ℤ) → made z ≢ function_asks n t) → or_failed o made ≢ function_asks n t
unfolding or_failed
asks None made n t h e = absurd (cc)
asks (Some z) made n t h e = h z e

pub number_asks : (made : ℤ → FunctionAnswer)
    → ((z : ℤ) (n : Text) (t : Option ValueType) → made z ≢ function_asks n t)
    → (k : List ℕ) (n : Text) (t : Option ValueType) → made_of_number made k ≢ function_asks n t
number_asks made h k n t = asks (value_of_key k) made n t (λ z. h z n t)

pub numbers_ask : (made : ℤ → ℤ → FunctionAnswer)
    → ((z d : ℤ) (n : Text) (t : Option ValueType) → made z d ≢ function_asks n t)
    → (k l : List ℕ) (n : Text) (t : Option ValueType) → made_of_numbers made k l ≢ function_asks n t
numbers_ask made h k l n t =
    asks (value_of_key k) (λ z. made_of_number (made z) l) n t (λ z. number_asks (made z) (h z) l n t)

pub given_asks : (type_name : Text) (z : ℤ) (n : Text) (t : Option ValueType)
    → gives_number type_name z ≢ function_asks n t
given_asks type_name z n t e = cc

pub within_asks : (type_name : Text) (o : Option ℤ) (n : Text) (t : Option ValueType)
    → made_if_within type_name o ≢ function_asks n t
within_asks type_name o n t = asks o (gives_number type_name) n t (λ z. given_asks type_name z n t)

-- ---- what is given

gives : (o : Option ℤ) (e : Failure) (next : ℤ → Answer) (Such : Represented → Type 0)
    → ((z : ℤ) → o ≡ Some z → (v : Represented) → next z ≡ answers_value v → Such v)
    → (v : Represented) → expecting o e next ≡ answers_value v → Such v
unfolding expecting
gives None e next Such h v given = absurd (answers_is_not_fails (value v) e (sym given))
gives (Some z) e next Such h v given = h z refl v given

pub number_gives : (next : ℤ → Answer) (Such : Represented → Type 0)
    → ((z : ℤ) (v : Represented) → next z ≡ answers_value v → Such v)
    → (k : List ℕ) (v : Represented) → of_number next k ≡ answers_value v → Such v
number_gives next Such h k =
    gives (value_of_key k) (function_has_failed datetime_name not_eight_bytes) next Such (λ z _. h z)

pub numbers_give : (next : ℤ → ℤ → Answer) (Such : Represented → Type 0)
    → ((z d : ℤ) (v : Represented) → next z d ≡ answers_value v → Such v)
    → (k l : List ℕ) (v : Represented) → of_numbers next k l ≡ answers_value v → Such v
numbers_give next Such h k l =
    number_gives (λ z. of_number (next z) l) Such (λ z. number_gives (next z) Such (h z) l) k

same_values : (v w : Represented) → answers_value v ≡ answers_value w → v ≡ w
same_values v w e = cc

pub value_gives : (Such : Represented → Type 0) (v : Represented) → Such v
    → (w : Represented) → answers_value v ≡ answers_value w → Such w
value_gives Such v h w e = subst Such (same_values v w e) h

-- a number that passes the test of 64 bits fits them
tested : (z n : ℤ) (b : Bool) → (b ≡ true → FitsSigned w64 z) → cond b (Some z) None ≡ Some n → FitsSigned w64 n
tested z n true h e =
    let same : z ≡ n = cc in
    subst (FitsSigned w64) same (h refl)
tested z n false h e = absurd (cc)

fits : (z n : ℤ) → in_64_bits z ≡ Some n → FitsSigned w64 n
fits (pos m) n e =
    tested (pos m) n (nat_lt m (2 ^ 63)) (λ small. record { sfits = omega (arith, ltb-true m (2 ^ 63) small) }) e
fits (negsuc m) n e =
    tested (negsuc m) n (nat_lt m (2 ^ 63)) (λ small. record { sfits = omega (arith, ltb-true m (2 ^ 63) small) }) e

pub within_gives : (written_as : ℤ → Represented) (Such : Represented → Type 0)
    → ((n : ℤ) → FitsSigned w64 n → Such (written_as n))
    → (z : ℤ) (v : Represented) → if_within written_as (in_64_bits z) ≡ answers_value v → Such v
within_gives written_as Such h z =
    gives (in_64_bits z) (function_has_failed datetime_name beyond_64_bits) (λ n. answers_value (written_as n)) Such
    (λ n e. value_gives Such (written_as n) (h n (fits z n e)))
