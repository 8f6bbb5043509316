use Rattle.std.proofs.Common.{◌≡◌, true, false, [], ◌∷◌, ap, sym, ◌∙◌, rules, arith}
use Rattle.std.proofs.lemmas.Grind.{common_steps}
use Rattle.std.proofs.Output.{has_written_append, has_written_of_eq, writes_in_calls_nil}
use Rattle.cedar_model.specs.Values.{expressions_at}
use Rattle.cedar_values.specs.Sound.{whats_at}
use Rattle.cedar_names.specs.Texts.{is_spent}
use Rattle.cedar_values.proofs.Order.{size-Record}
use Rattle.cedar_expressions.proofs.Loops.{parts_left, parts_end, fields_left, fields_end}
use Rattle.cedar_values.proofs.Loops.{expressions_of-drop}
use Rattle.cedar_values.proofs.value.texts.+show.Goals as goal

pub show_kind-show_record-requires : goal.show_kind-show_record-requires
show_kind-show_record-requires g t c κs within =
    (rw c.deref.ensures (omega (arith, size-Record _ _ c.in-Record.is)), within)

pub show_elements-elements-preserved : goal.show_elements-elements-preserved
show_elements-elements-preserved g t c = λ plain.
    let (done, wrote, whole) = c.elements.invariant plain in
    let step = c.show_next.ensures wrote.plain (search rules) in
    let next = expressions_of-drop c.args.elements.now c.elements.element-index c.element-item.result c.elements-test.true c.element-item.is in
    let room : is_spent c.elements.left ≡ false = sym c.is_spent.ensures ∙ c.if-is_spent.false in
    (_, has_written_append _ _ _ _ _ _ wrote step, rw c.one_less-left.ensures (parts_left c.args.bound c.elements.left c.elements.is_first _ _ _ done _ next room whole))

pub show_elements-returns-then-is_spent : goal.show_elements-returns-then-is_spent
show_elements-returns-then-is_spent g t c = λ plain ok.
    let (done, wrote, whole) = c.elements.invariant plain in
    let step = c.write_more.ensures wrote.plain ok in
    let next = expressions_of-drop c.args.elements.now c.elements.element-index c.element-item.result c.elements-test.true c.element-item.is in
    let spent : is_spent c.elements.left ≡ true = sym c.is_spent.ensures ∙ c.if-is_spent.true in
    has_written_of_eq _ _ _ _ _ (parts_end c.args.bound c.elements.left c.elements.is_first _ _ _ done _ next spent whole) (has_written_append _ _ _ _ _ _ wrote step)

pub show_entries-entries-init : goal.show_entries-entries-init
show_entries-entries-init g t c =
    let same = c.into_iter-key-iterator.ensures.into_iter_gives ∙ c.iter-key-items.ensures.rest in
    λ plain. ([], record { wrote = writes_in_calls_nil _ _; plain = plain }, rw same)

pub show_entries-entries-preserved : goal.show_entries-entries-preserved
show_entries-entries-preserved g t c = λ plain.
    let (done, wrote, whole) = c.entries.invariant plain in
    let step = c.show_next_entry.ensures wrote.plain (search rules) in
    let next : c.entries.key-iterator ≡ (c.in-Some.key.now, c.in-Some.value.now) ∷ c.next.new.self = grind (arith, common_steps) in
    let room : is_spent c.entries.left ≡ false = sym c.is_spent.ensures ∙ c.if-is_spent.false in
    (_, has_written_append _ _ _ _ _ _ wrote step, rw c.one_less-left.ensures (fields_left c.args.bound c.entries.left c.entries.is_first _ _ _ _ done _ (ap (λ fs. expressions_at (whats_at fs)) next) room whole))

pub show_entries-returns-then-is_spent : goal.show_entries-returns-then-is_spent
show_entries-returns-then-is_spent g t c = λ plain ok.
    let (done, wrote, whole) = c.entries.invariant plain in
    let step = c.write_more.ensures wrote.plain ok in
    let next : c.entries.key-iterator ≡ (c.in-Some.key.now, c.in-Some.value.now) ∷ c.next.new.self = grind (arith, common_steps) in
    let spent : is_spent c.entries.left ≡ true = sym c.is_spent.ensures ∙ c.if-is_spent.true in
    has_written_of_eq _ _ _ _ _ (fields_end c.args.bound c.entries.left c.entries.is_first _ _ _ _ done _ (ap (λ fs. expressions_at (whats_at fs)) next) spent whole) (has_written_append _ _ _ _ _ _ wrote step)
