-- Errors read back as their kinds and what they say.
use Rattle.std.proofs.Common.{◌≡◌, ℕ, ◌+◌, Bool, true, false, true≢false, ◌||◌, List, [], ◌∷◌, Ok, refl, sym, ap, ◌∙◌, subst}
use Rattle.json.specs.Json.{Json}
use Rattle.json.specs.Value.{items_of}
use Rattle.cedar_model.specs.Terms.{Text}
use Rattle.cedar_model.specs.Chains.{is_limit, has_limit}
use Rattle.cedar_model.specs.Failures.{Failure, failure_kind, entity_is_missing, entity_attribute_is_missing, record_attribute_is_missing, function_is_missing, type_is_wrong, arguments_are_miscounted, binary_overflow, unary_overflow, slot_is_unlinked, function_has_failed, residual_is_left, recursion_limit, out_of_memory, memory_is_wrapped}
use Rattle.cedar_policy_json_reader.specs.Paths.{at_index}
use Rattle.cedar_response_json.specs.Errors.{IsErrorJson, AreEachError, AreErrorsJson, kind_word}
use Rattle.cedar_response_json_reader.specs.Errors.{error_said, errors_from, errors_said, told_failure}
use Rattle.cedar_response_json_reader.specs.Refusals.{before, under}
use Rattle.cedar_relays.specs.Travels.{IsToldOf, AreToldOf, KeepsLimit}

-- what is read of the JSON of errors: they are told, each in turn
pub record Back (es : List (Text × Failure)) (k : ℕ) (js : List Json) : Type 0 where
  pub errors : List (Text × Failure)
  pub told : AreToldOf es errors
  pub read : errors_from k (items_of js) ≡ Ok errors

one_back : (e : Text × Failure) (j : Json) (h : IsErrorJson e j) → error_said j ≡ Ok (e.0, told_failure (kind_word e.1) h.0)
one_back e j h = ap error_said h.2

pub back : (es : List (Text × Failure)) (k : ℕ) (js : List Json) → AreEachError es js → Back es k js
back [] k [] h = record { errors = []; told = tt; read = refl }
back [] k (j ∷ js) h = absurd h
back (e ∷ es) k [] h = absurd h
back (e ∷ es) k (j ∷ js) h =
    let more = back es (k + 1) js h.1 in
    record {
      errors = (e.0, told_failure (kind_word e.1) h.0.0) ∷ more.errors;
      told = ((h.0.0, h.0.1, refl), more.told);
      read = λ i. before (under (at_index k) (one_back e j h.0 i)) (more.read i);
    }

-- ---- the recursion limit

one_kept : (f : Failure) (message : Text) → is_limit (failure_kind f) ≡ true → is_limit (failure_kind (told_failure (kind_word f) message)) ≡ true
unfolding is_limit failure_kind
one_kept (entity_is_missing e) m h = absurd (true≢false (sym h))
one_kept (entity_attribute_is_missing e k was other available total) m h = absurd (true≢false (sym h))
one_kept (record_attribute_is_missing k available total) m h = absurd (true≢false (sym h))
one_kept (function_is_missing f) m h = absurd (true≢false (sym h))
one_kept (type_is_wrong expected others actual) m h = absurd (true≢false (sym h))
one_kept (arguments_are_miscounted f expected actual) m h = absurd (true≢false (sym h))
one_kept (binary_overflow op v w) m h = absurd (true≢false (sym h))
one_kept (unary_overflow op v) m h = absurd (true≢false (sym h))
one_kept (slot_is_unlinked s) m h = absurd (true≢false (sym h))
one_kept (function_has_failed extension message) m h = absurd (true≢false (sym h))
one_kept (residual_is_left u) m h = absurd (true≢false (sym h))
one_kept recursion_limit m h = refl
one_kept out_of_memory m h = absurd (true≢false (sym h))
one_kept memory_is_wrapped m h = absurd (true≢false (sym h))

either_kept : (a b c d : Bool) → (a ≡ true → c ≡ true) → (b ≡ true → d ≡ true) → a || b ≡ true → c || d ≡ true
either_kept true b c d f g h = ap (λ (x : Bool). x || d) (f refl)
either_kept false b true d f g h = refl
either_kept false b false d f g h = g h

pub limit_kept : (es ts : List (Text × Failure)) → AreToldOf es ts → KeepsLimit es ts
unfolding has_limit
limit_kept [] [] h is = is
limit_kept [] (t ∷ ts) h is = absurd h
limit_kept (e ∷ es) [] h is = absurd h
limit_kept (e ∷ es) (t ∷ ts) h is =
    either_kept (is_limit (failure_kind e.1)) (has_limit es) (is_limit (failure_kind t.1)) (has_limit ts)
    (λ l. subst (λ (u : Text × Failure). is_limit (failure_kind u.1) ≡ true) (sym h.0.2) (one_kept e.1 h.0.0 l))
    (limit_kept es ts h.1) is
