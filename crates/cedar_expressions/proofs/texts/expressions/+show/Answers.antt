use Rattle.std.proofs.Common.{◌≡◌, true, false, [], ◌∷◌, refl, ap, sym, ◌∙◌, codes, rules, arith}
use Rattle.std.proofs.lemmas.Grind.{common_steps}
use Rattle.std.proofs.Output.{has_written_append, has_written_of_eq, writes_in_calls_nil}
use Rattle.std.specs.Rc.{rc_str_bytes}
use Rattle.cedar_expressions.specs.View.{fields_view}
use Rattle.cedar_names.specs.Texts.{is_spent, quoted}
use Rattle.cedar_expressions.proofs.Levels.{kind_view-Lit, kind_view-Var, kind_view-Slot, kind_view-Unknown, kind_view-And, kind_view-Or, kind_view-UnaryApp, kind_view-ExtensionFunctionApp, kind_view-GetAttr, kind_view-HasAttr, kind_view-ExtHasAttr, kind_view-Like, kind_view-Is, kind_view-Set, kind_view-Record}
use Rattle.cedar_expressions.proofs.Loops.{parts_left, parts_end, fields_left, fields_end, terms_view-drop}
use Rattle.cedar_expressions.proofs.texts.expressions.+show.Goals as goal

pub show_parts-parts-preserved : goal.show_parts-parts-preserved
show_parts-parts-preserved g t c = λ plain.
    let (done, wrote, whole) = c.parts.invariant plain in
    let step = c.show_next.ensures wrote.plain (search rules) in
    let next = terms_view-drop c.args.parts.now c.parts.part-index c.part-item.result c.parts-test.true c.part-item.is in
    let room : is_spent c.parts.left ≡ false = sym c.is_spent.ensures ∙ c.if-is_spent.false in
    (_, has_written_append _ _ _ _ _ _ wrote step, rw c.one_less-left.ensures (parts_left c.args.bound c.parts.left c.parts.is_first _ _ _ done _ next room whole))

pub show_parts-returns-then-is_spent : goal.show_parts-returns-then-is_spent
show_parts-returns-then-is_spent g t c = λ plain ok.
    let (done, wrote, whole) = c.parts.invariant plain in
    let step = c.write_more.ensures wrote.plain ok in
    let next = terms_view-drop c.args.parts.now c.parts.part-index c.part-item.result c.parts-test.true c.part-item.is in
    let spent : is_spent c.parts.left ≡ true = sym c.is_spent.ensures ∙ c.if-is_spent.true in
    has_written_of_eq _ _ _ _ _ (parts_end c.args.bound c.parts.left c.parts.is_first _ _ _ done _ next spent whole) (has_written_append _ _ _ _ _ _ wrote step)

pub show_fields-fields-init : goal.show_fields-fields-init
show_fields-fields-init g t c =
    let same = c.into_iter-key-iterator.ensures.into_iter_gives ∙ c.iter-key-items.ensures.rest in
    λ plain. ([], record { wrote = writes_in_calls_nil _ _; plain = plain }, rw same)

pub show_fields-fields-preserved : goal.show_fields-fields-preserved
show_fields-fields-preserved g t c = λ plain.
    let (done, wrote, whole) = c.fields.invariant plain in
    let step = c.show_next_field.ensures wrote.plain (search rules) in
    let next : c.fields.key-iterator ≡ (c.in-Some.key.now, c.in-Some.part.now) ∷ c.next.new.self = grind (arith, common_steps) in
    let room : is_spent c.fields.left ≡ false = sym c.is_spent.ensures ∙ c.if-is_spent.false in
    (_, has_written_append _ _ _ _ _ _ wrote step, rw c.one_less-left.ensures (fields_left c.args.bound c.fields.left c.fields.is_first _ _ _ _ done _ (ap fields_view next) room whole))

pub show_fields-returns-then-is_spent : goal.show_fields-returns-then-is_spent
show_fields-returns-then-is_spent g t c = λ plain ok.
    let (done, wrote, whole) = c.fields.invariant plain in
    let step = c.write_more.ensures wrote.plain ok in
    let next : c.fields.key-iterator ≡ (c.in-Some.key.now, c.in-Some.part.now) ∷ c.next.new.self = grind (arith, common_steps) in
    let spent : is_spent c.fields.left ≡ true = sym c.is_spent.ensures ∙ c.if-is_spent.true in
    has_written_of_eq _ _ _ _ _ (fields_end c.args.bound c.fields.left c.fields.is_first _ _ _ _ done _ (ap fields_view next) spent whole) (has_written_append _ _ _ _ _ _ wrote step)

pub show-returns-in-Lit : goal.show-returns-in-Lit
show-returns-in-Lit g t c = grind (arith, kind_view-Lit)

pub show-returns-in-Var : goal.show-returns-in-Var
show-returns-in-Var g t c = grind (arith, kind_view-Var)

pub show-returns-in-Slot : goal.show-returns-in-Slot
show-returns-in-Slot g t c = grind (arith, kind_view-Slot)

pub show-returns-in-Unknown : goal.show-returns-in-Unknown
show-returns-in-Unknown g t c = grind (arith, kind_view-Unknown)

pub show-returns-in-And : goal.show-returns-in-And
show-returns-in-And g t c = grind (arith, kind_view-And)

pub show-returns-in-Or : goal.show-returns-in-Or
show-returns-in-Or g t c = grind (arith, kind_view-Or)

pub show-returns-in-UnaryApp : goal.show-returns-in-UnaryApp
show-returns-in-UnaryApp g t c = grind (arith, kind_view-UnaryApp)

pub show-returns-in-ExtensionFunctionApp : goal.show-returns-in-ExtensionFunctionApp
show-returns-in-ExtensionFunctionApp g t c = grind (arith, kind_view-ExtensionFunctionApp)

pub show-returns-in-GetAttr : goal.show-returns-in-GetAttr
show-returns-in-GetAttr g t c = grind (arith, kind_view-GetAttr)

pub show-returns-in-HasAttr : goal.show-returns-in-HasAttr
show-returns-in-HasAttr g t c = grind (arith, kind_view-HasAttr)

pub show-returns-in-ExtHasAttr : goal.show-returns-in-ExtHasAttr
show-returns-in-ExtHasAttr g t c = grind (arith, kind_view-ExtHasAttr)

pub show-returns-in-Like : goal.show-returns-in-Like
show-returns-in-Like g t c = grind (arith, kind_view-Like)

pub show-returns-in-Is : goal.show-returns-in-Is
show-returns-in-Is g t c = grind (arith, kind_view-Is)

pub show-returns-in-Set : goal.show-returns-in-Set
show-returns-in-Set g t c = grind (arith, kind_view-Set)

pub show-returns-in-Record : goal.show-returns-in-Record
show-returns-in-Record g t c = grind (arith, kind_view-Record)

pub show_enclosed-returns : goal.show_enclosed-returns
show_enclosed-returns g t c = λ plain ok.
    let first = c.in_ok-write_str.ensures.writes plain refl in
    let then = c.in_ok-show.ensures first.plain refl in
    has_written_append _ _ (codes "(") _ _ _ first (has_written_append _ _ _ _ _ _ then (c.write_str-2.ensures.writes then.plain ok))

pub show_if-returns : goal.show_if-returns
show_if-returns g t c = λ plain ok.
    let one = c.in_ok-write_str.ensures.writes plain refl in
    let test = c.in_ok-show_part.ensures one.plain refl in
    let two = c.in_ok-write_str-2.ensures.writes test.plain refl in
    let yes = c.in_ok-show_part-2.ensures two.plain refl in
    let three = c.in_ok-write_str-3.ensures.writes yes.plain refl in
    let no = c.show_part-3.ensures three.plain ok in
    has_written_append _ _ (codes "if ") _ _ _ one (has_written_append _ _ _ _ _ _ test (has_written_append _ _ (codes " then ") _ _ _ two (has_written_append _ _ _ _ _ _ yes (has_written_append _ _ (codes " else ") _ _ _ three no))))

pub show_pair-returns : goal.show_pair-returns
show_pair-returns g t c = λ plain ok.
    let left = c.in_ok-show_part.ensures plain refl in
    let between = c.in_ok-write_str.ensures.writes left.plain refl in
    has_written_append _ _ _ _ _ _ left (has_written_append _ _ _ _ _ _ between (c.show_part-2.ensures between.plain ok))

pub show_unary-returns : goal.show_unary-returns
show_unary-returns g t c = λ plain ok.
    let before = c.in_ok-write_str.ensures.writes plain refl in
    let part = c.in_ok-show_part.ensures before.plain refl in
    let after = c.write_str-2.ensures.writes part.plain ok in
    has_written_append _ _ _ _ _ _ (has_written_of_eq _ _ _ _ _ c.before_part.ensures before) (has_written_append _ _ _ _ _ _ part (has_written_of_eq _ _ _ _ _ c.after_part.ensures after))

pub show_method-returns : goal.show_method-returns
show_method-returns g t c = λ plain ok.
    let left = c.in_ok-show_part.ensures plain refl in
    let between = c.in_ok-write_str.ensures.writes left.plain refl in
    let right = c.in_ok-show.ensures between.plain refl in
    has_written_append _ _ _ _ _ _ left (has_written_append _ _ _ _ _ _ between (has_written_append _ _ _ _ _ _ right (c.write_str-2.ensures.writes right.plain ok)))

pub show_call-returns : goal.show_call-returns
show_call-returns g t c = λ plain ok.
    let name = c.in_ok-fmt.ensures.writes plain refl in
    let start = c.in_ok-write_str.ensures.writes name.plain refl in
    let parts = c.in_ok-show_parts.ensures start.plain refl in
    has_written_append _ _ _ _ _ _ name (has_written_append _ _ (codes "(") _ _ _ start (has_written_append _ _ _ _ _ _ parts (c.write_str-2.ensures.writes parts.plain ok)))

pub show_attribute-returns : goal.show_attribute-returns
show_attribute-returns g t c = λ plain ok.
    let part = c.in_ok-show_part.ensures plain refl in
    has_written_append _ _ _ _ _ _ part (c.write_attribute.ensures part.plain ok)

pub show_has-returns : goal.show_has-returns
show_has-returns g t c = λ plain ok.
    let part = c.in_ok-show_part.ensures plain refl in
    has_written_append _ _ _ _ _ _ part (c.write_has.ensures part.plain ok)

pub show_extended_has-returns : goal.show_extended_has-returns
show_extended_has-returns g t c = λ plain ok.
    let part = c.in_ok-show_part.ensures plain refl in
    has_written_append _ _ _ _ _ _ part (c.write_extended_has.ensures part.plain ok)

pub show_like-returns : goal.show_like-returns
show_like-returns g t c = λ plain ok.
    let part = c.in_ok-show_part.ensures plain refl in
    has_written_append _ _ _ _ _ _ part (c.write_like.ensures part.plain ok)

pub show_is-returns : goal.show_is-returns
show_is-returns g t c = λ plain ok.
    let part = c.in_ok-show_part.ensures plain refl in
    has_written_append _ _ _ _ _ _ part (c.write_is.ensures part.plain ok)

pub show_set-returns : goal.show_set-returns
show_set-returns g t c = λ plain ok.
    let start = c.in_ok-write_str.ensures.writes plain refl in
    let parts = c.in_ok-show_parts.ensures start.plain refl in
    has_written_append _ _ (codes "[") _ _ _ start (has_written_append _ _ _ _ _ _ parts (c.write_str-2.ensures.writes parts.plain ok))

pub show_record-returns : goal.show_record-returns
show_record-returns g t c = λ plain ok.
    let start = c.in_ok-write_str.ensures.writes plain refl in
    let fields = c.in_ok-show_fields.ensures start.plain refl in
    has_written_append _ _ (codes "{") _ _ _ start (has_written_append _ _ _ _ _ _ fields (c.write_str-2.ensures.writes fields.plain ok))

pub show_next-returns : goal.show_next-returns
show_next-returns g t c = λ plain ok.
    let start = c.in_ok-write_str.ensures.writes plain refl in
    has_written_append _ _ _ _ _ _ (has_written_of_eq _ _ _ _ _ c.separator.ensures start) (c.show.ensures start.plain ok)

pub show_next_field-returns : goal.show_next_field-returns
show_next_field-returns g t c = λ plain ok.
    let start = c.in_ok-write_str.ensures.writes plain refl in
    let key = c.in_ok-write_quoted.ensures start.plain refl in
    let colon = c.in_ok-write_str-2.ensures.writes key.plain refl in
    has_written_append _ _ _ _ _ _ (has_written_of_eq _ _ _ _ _ c.separator.ensures start) (has_written_append _ _ (quoted (rc_str_bytes c.args.key.now)) _ _ _ (has_written_of_eq _ _ _ _ _ (ap quoted c.as_str.ensures.value) key) (has_written_append _ _ (codes ": ") _ _ _ colon (c.show.ensures colon.plain ok)))
