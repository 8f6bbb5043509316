use Rattle.std.proofs.Common.{◌≡◌, [], ◌∷◌, refl, ap, ◌∙◌, codes, rules, arith}
use Rattle.std.proofs.lemmas.Grind.{common_steps}
use Rattle.std.proofs.Output.{has_written_append, has_written_of_eq, writes_in_calls_nil}
use Rattle.std.specs.Rc.{rc_str_bytes}
use Rattle.cedar_expressions.specs.View.{view, fields_view}
use Rattle.cedar_layers.specs.Policies.{slots_view}
use Rattle.cedar_text_printer.specs.Names.{key_text}
use Rattle.cedar_text_printer.specs.Texts.{written_part}
use Rattle.cedar_expressions.proofs.Levels.{kind_view-Lit, kind_view-Var, kind_view-Slot, kind_view-Unknown, kind_view-And, kind_view-Or, kind_view-UnaryApp, kind_view-ExtensionFunctionApp, kind_view-GetAttr, kind_view-HasAttr, kind_view-ExtHasAttr, kind_view-Like, kind_view-Is, kind_view-Set, kind_view-Record}
use Rattle.cedar_expressions.proofs.Loops.{terms_view-drop}
use Rattle.cedar_text_printer.proofs.Loops.{parts_left, fields_left}
use Rattle.cedar_text_printer.proofs.expressions.writing.+write.Goals as goal

pub write_expr-returns-in-Lit : goal.write_expr-returns-in-Lit
write_expr-returns-in-Lit g t c = grind (arith, kind_view-Lit)

pub write_expr-returns-in-Var : goal.write_expr-returns-in-Var
write_expr-returns-in-Var g t c = grind (arith, kind_view-Var)

pub write_expr-returns-in-Slot : goal.write_expr-returns-in-Slot
write_expr-returns-in-Slot g t c = grind (arith, kind_view-Slot)

pub write_expr-returns-in-Unknown : goal.write_expr-returns-in-Unknown
write_expr-returns-in-Unknown g t c = grind (arith, kind_view-Unknown)

pub write_expr-returns-in-And : goal.write_expr-returns-in-And
write_expr-returns-in-And g t c = grind (arith, kind_view-And)

pub write_expr-returns-in-Or : goal.write_expr-returns-in-Or
write_expr-returns-in-Or g t c = grind (arith, kind_view-Or)

pub write_expr-returns-in-UnaryApp : goal.write_expr-returns-in-UnaryApp
write_expr-returns-in-UnaryApp g t c = grind (arith, kind_view-UnaryApp)

pub write_expr-returns-in-ExtensionFunctionApp : goal.write_expr-returns-in-ExtensionFunctionApp
write_expr-returns-in-ExtensionFunctionApp g t c = grind (arith, kind_view-ExtensionFunctionApp)

pub write_expr-returns-in-GetAttr : goal.write_expr-returns-in-GetAttr
write_expr-returns-in-GetAttr g t c = grind (arith, kind_view-GetAttr)

pub write_expr-returns-in-HasAttr : goal.write_expr-returns-in-HasAttr
write_expr-returns-in-HasAttr g t c = grind (arith, kind_view-HasAttr)

pub write_expr-returns-in-ExtHasAttr : goal.write_expr-returns-in-ExtHasAttr
write_expr-returns-in-ExtHasAttr g t c = grind (arith, kind_view-ExtHasAttr)

pub write_expr-returns-in-Like : goal.write_expr-returns-in-Like
write_expr-returns-in-Like g t c = grind (arith, kind_view-Like)

pub write_expr-returns-in-Is : goal.write_expr-returns-in-Is
write_expr-returns-in-Is g t c = grind (arith, kind_view-Is)

pub write_expr-returns-in-Set : goal.write_expr-returns-in-Set
write_expr-returns-in-Set g t c = grind (arith, kind_view-Set)

pub write_expr-returns-in-Record : goal.write_expr-returns-in-Record
write_expr-returns-in-Record g t c = grind (arith, kind_view-Record)

pub write_bracketed-returns : goal.write_bracketed-returns
write_bracketed-returns g t c = λ plain ok.
    let first = c.in_ok-write_str.ensures.writes plain refl in
    let then = c.in_ok-write_expr.ensures first.plain refl in
    has_written_append _ _ (codes "(") _ _ _ first (has_written_append _ _ _ _ _ _ then (c.write_str-2.ensures.writes then.plain ok))

pub write_if-returns : goal.write_if-returns
write_if-returns g t c = λ plain ok.
    let one = c.in_ok-write_str.ensures.writes plain refl in
    let test = c.in_ok-write_expr.ensures one.plain refl in
    let two = c.in_ok-write_str-2.ensures.writes test.plain refl in
    let yes = c.in_ok-write_expr-2.ensures two.plain refl in
    let three = c.in_ok-write_str-3.ensures.writes yes.plain refl in
    let no = c.write_expr-3.ensures three.plain ok in
    has_written_append _ _ (codes "if ") _ _ _ one (has_written_append _ _ _ _ _ _ test (has_written_append _ _ (codes " then ") _ _ _ two (has_written_append _ _ _ _ _ _ yes (has_written_append _ _ (codes " else ") _ _ _ three no))))

pub write_pair-returns : goal.write_pair-returns
write_pair-returns g t c = λ plain ok.
    let left = c.in_ok-write_part.ensures plain refl in
    let between = c.in_ok-write_str.ensures.writes left.plain refl in
    has_written_append _ _ _ _ _ _ left (has_written_append _ _ _ _ _ _ between (c.write_part-2.ensures between.plain ok))

pub write_unary-returns : goal.write_unary-returns
write_unary-returns g t c = λ plain ok.
    let before = c.in_ok-write_str.ensures.writes plain refl in
    let part = c.in_ok-write_part.ensures before.plain refl in
    let after = c.write_str-2.ensures.writes part.plain ok in
    has_written_append _ _ _ _ _ _ (has_written_of_eq _ _ _ _ _ c.before_part.ensures before) (has_written_append _ _ _ _ _ _ (has_written_of_eq _ _ _ _ _ (ap (λ n. written_part (slots_view c.args.slots.now) n 1 (view c.args.arg.now)) c.lowest_level.ensures) part) (has_written_of_eq _ _ _ _ _ c.after_part.ensures after))

pub write_binary-returns : goal.write_binary-returns
write_binary-returns g t c = λ plain ok.
    let pair = c.in_ok-write_pair.ensures plain refl in
    let after = c.write_str.ensures.writes pair.plain ok in
    has_written_append _ _ _ _ _ _ (rw (c.left_level.ensures, c.between_parts.ensures, c.right_level.ensures) at pair) (has_written_of_eq _ _ _ _ _ c.after_parts.ensures after)

pub write_function-returns : goal.write_function-returns
write_function-returns g t c = λ plain ok.
    let name = c.in_ok-fmt.ensures.writes plain refl in
    let start = c.in_ok-write_str.ensures.writes name.plain refl in
    let parts = c.in_ok-write_parts.ensures start.plain refl in
    has_written_append _ _ _ _ _ _ name (has_written_append _ _ (codes "(") _ _ _ start (has_written_append _ _ _ _ _ _ parts (c.write_str-2.ensures.writes parts.plain ok)))

pub write_get-returns : goal.write_get-returns
write_get-returns g t c = λ plain ok.
    let part = c.in_ok-write_part.ensures plain refl in
    has_written_append _ _ _ _ _ _ part (c.write_attribute.ensures part.plain ok)

pub write_test-returns : goal.write_test-returns
write_test-returns g t c = λ plain ok.
    let part = c.in_ok-write_part.ensures plain refl in
    has_written_append _ _ _ _ _ _ part (c.write_has.ensures part.plain ok)

pub write_path_test-returns : goal.write_path_test-returns
write_path_test-returns g t c = λ plain ok.
    let part = c.in_ok-write_part.ensures plain refl in
    has_written_append _ _ _ _ _ _ part (c.write_path.ensures part.plain ok)

pub write_match-returns : goal.write_match-returns
write_match-returns g t c = λ plain ok.
    let part = c.in_ok-write_part.ensures plain refl in
    has_written_append _ _ _ _ _ _ part (c.write_like.ensures part.plain ok)

pub write_type_test-returns : goal.write_type_test-returns
write_type_test-returns g t c = λ plain ok.
    let part = c.in_ok-write_part.ensures plain refl in
    has_written_append _ _ _ _ _ _ part (c.write_is.ensures part.plain ok)

pub write_set-returns : goal.write_set-returns
write_set-returns g t c = λ plain ok.
    let start = c.in_ok-write_str.ensures.writes plain refl in
    let parts = c.in_ok-write_parts.ensures start.plain refl in
    has_written_append _ _ (codes "[") _ _ _ start (has_written_append _ _ _ _ _ _ parts (c.write_str-2.ensures.writes parts.plain ok))

pub write_record-returns : goal.write_record-returns
write_record-returns g t c = λ plain ok.
    let start = c.in_ok-write_str.ensures.writes plain refl in
    let parts = c.in_ok-write_fields.ensures start.plain refl in
    has_written_append _ _ (codes "{") _ _ _ start (has_written_append _ _ _ _ _ _ parts (c.write_str-2.ensures.writes parts.plain ok))

pub write_next-returns : goal.write_next-returns
write_next-returns g t c = λ plain ok.
    let start = c.in_ok-write_str.ensures.writes plain refl in
    has_written_append _ _ _ _ _ _ (has_written_of_eq _ _ _ _ _ c.separator.ensures start) (c.write_expr.ensures start.plain ok)

pub write_next_field-returns : goal.write_next_field-returns
write_next_field-returns g t c = λ plain ok.
    let start = c.in_ok-write_str.ensures.writes plain refl in
    let key = c.in_ok-write_key.ensures start.plain refl in
    let colon = c.in_ok-write_str-2.ensures.writes key.plain refl in
    has_written_append _ _ _ _ _ _ (has_written_of_eq _ _ _ _ _ c.separator.ensures start) (has_written_append _ _ (key_text (rc_str_bytes c.args.key.now)) _ _ _ key (has_written_append _ _ (codes ": ") _ _ _ colon (c.write_expr.ensures colon.plain ok)))

pub write_fields-fields-init : goal.write_fields-fields-init
write_fields-fields-init g t c =
    let same = c.into_iter-key-iterator.ensures.into_iter_gives ∙ c.iter-key-items.ensures.rest in
    λ plain. ([], record { wrote = writes_in_calls_nil _ _; plain = plain }, rw same)

pub write_fields-fields-preserved : goal.write_fields-fields-preserved
write_fields-fields-preserved g t c = λ plain.
    let (done, wrote, whole) = c.fields.invariant plain in
    let step = c.write_next_field.ensures wrote.plain (search rules) in
    let next : c.fields.key-iterator ≡ (c.in-Some.key.now, c.in-Some.part.now) ∷ c.next.new.self = grind (arith, common_steps) in
    (_, has_written_append _ _ _ _ _ _ wrote step, fields_left _ c.fields.is_first _ _ _ _ done _ (ap fields_view next) whole)

pub write_parts-parts-preserved : goal.write_parts-parts-preserved
write_parts-parts-preserved g t c = λ plain.
    let (done, wrote, whole) = c.parts.invariant plain in
    let step = c.write_next.ensures wrote.plain (search rules) in
    let next = terms_view-drop c.args.parts.now c.parts.i c.index-parts-i.result c.parts-test.true c.index-parts-i.is in
    (_, has_written_append _ _ _ _ _ _ wrote step, parts_left _ c.parts.is_first _ _ _ done _ next whole)
