-- The order of values between kinds, and inside sets and records.
use Rattle.std.proofs.Common.{refl, arith}
use Rattle.cedar_model.specs.Terms.{bool_literal, long_literal, text_literal, entity_literal}
use Rattle.cedar_model.specs.Values.{plain, set_value, record_value, extension_value}
use Rattle.cedar_model.specs.laws.Kinds.{kind_rank, KindsComeInOrder, SetsAreOrdered, RecordsAreOrdered}

pub in_order : KindsComeInOrder
unfolding kind_rank
in_order (plain (bool_literal x)) (plain (bool_literal y)) h = absurd (omega arith)
in_order (plain (bool_literal x)) (plain (long_literal y)) h = refl
in_order (plain (bool_literal x)) (plain (text_literal y)) h = refl
in_order (plain (bool_literal x)) (plain (entity_literal y)) h = refl
in_order (plain (bool_literal x)) (set_value y) h = refl
in_order (plain (bool_literal x)) (record_value y) h = refl
in_order (plain (bool_literal x)) (extension_value y y') h = refl
in_order (plain (long_literal x)) (plain (bool_literal y)) h = absurd (omega arith)
in_order (plain (long_literal x)) (plain (long_literal y)) h = absurd (omega arith)
in_order (plain (long_literal x)) (plain (text_literal y)) h = refl
in_order (plain (long_literal x)) (plain (entity_literal y)) h = refl
in_order (plain (long_literal x)) (set_value y) h = refl
in_order (plain (long_literal x)) (record_value y) h = refl
in_order (plain (long_literal x)) (extension_value y y') h = refl
in_order (plain (text_literal x)) (plain (bool_literal y)) h = absurd (omega arith)
in_order (plain (text_literal x)) (plain (long_literal y)) h = absurd (omega arith)
in_order (plain (text_literal x)) (plain (text_literal y)) h = absurd (omega arith)
in_order (plain (text_literal x)) (plain (entity_literal y)) h = refl
in_order (plain (text_literal x)) (set_value y) h = refl
in_order (plain (text_literal x)) (record_value y) h = refl
in_order (plain (text_literal x)) (extension_value y y') h = refl
in_order (plain (entity_literal x)) (plain (bool_literal y)) h = absurd (omega arith)
in_order (plain (entity_literal x)) (plain (long_literal y)) h = absurd (omega arith)
in_order (plain (entity_literal x)) (plain (text_literal y)) h = absurd (omega arith)
in_order (plain (entity_literal x)) (plain (entity_literal y)) h = absurd (omega arith)
in_order (plain (entity_literal x)) (set_value y) h = refl
in_order (plain (entity_literal x)) (record_value y) h = refl
in_order (plain (entity_literal x)) (extension_value y y') h = refl
in_order (set_value x) (plain (bool_literal y)) h = absurd (omega arith)
in_order (set_value x) (plain (long_literal y)) h = absurd (omega arith)
in_order (set_value x) (plain (text_literal y)) h = absurd (omega arith)
in_order (set_value x) (plain (entity_literal y)) h = absurd (omega arith)
in_order (set_value x) (set_value y) h = absurd (omega arith)
in_order (set_value x) (record_value y) h = refl
in_order (set_value x) (extension_value y y') h = refl
in_order (record_value x) (plain (bool_literal y)) h = absurd (omega arith)
in_order (record_value x) (plain (long_literal y)) h = absurd (omega arith)
in_order (record_value x) (plain (text_literal y)) h = absurd (omega arith)
in_order (record_value x) (plain (entity_literal y)) h = absurd (omega arith)
in_order (record_value x) (set_value y) h = absurd (omega arith)
in_order (record_value x) (record_value y) h = absurd (omega arith)
in_order (record_value x) (extension_value y y') h = refl
in_order (extension_value x x') (plain (bool_literal y)) h = absurd (omega arith)
in_order (extension_value x x') (plain (long_literal y)) h = absurd (omega arith)
in_order (extension_value x x') (plain (text_literal y)) h = absurd (omega arith)
in_order (extension_value x x') (plain (entity_literal y)) h = absurd (omega arith)
in_order (extension_value x x') (set_value y) h = absurd (omega arith)
in_order (extension_value x x') (record_value y) h = absurd (omega arith)
in_order (extension_value x x') (extension_value y y') h = absurd (omega arith)

pub sets_in_order : SetsAreOrdered
sets_in_order = (λ b bs. refl, λ a b vs bs. refl)

pub records_in_order : RecordsAreOrdered
records_in_order = (λ k v fs. refl, λ k l u v fs gs. refl)
