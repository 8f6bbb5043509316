use Rattle.std.proofs.Common.{◌≡◌, true, false, [], ◌∷◌, ap, sym, ◌∙◌, rules, arith}
use Rattle.std.proofs.lemmas.Grind.{common_steps}
use Rattle.std.proofs.Output.{has_written_append, has_written_of_eq, writes_in_calls_nil}
use Rattle.cedar_model.specs.Values.{expressions_at}
use Rattle.cedar_values.specs.Sound.{whats_at}
use Rattle.cedar_names.specs.Texts.{is_spent}
use Rattle.cedar_expressions.proofs.Loops.{fields_left, fields_end}
use Rattle.cedar_requests.proofs.context.texts.show_values.Goals as goal

pub values-init : goal.values-init
values-init g c =
    let same = c.into_iter-name-iterator.ensures.into_iter_gives ∙ c.iter-name-items.ensures.rest in
    λ plain. ([], record { wrote = writes_in_calls_nil _ _; plain = plain }, rw same)

pub values-preserved : goal.values-preserved
values-preserved g c = λ plain.
    let (done, wrote, whole) = c.values.invariant plain in
    let step = c.show_next.ensures wrote.plain (search rules) in
    let next : c.values.name-iterator
    ≡ (c.in-Some.name.now, c.in-Some.value.now) ∷ c.next.new.self = grind (arith, common_steps) in
    let room : is_spent c.values.left ≡ false = sym c.is_spent.ensures ∙ c.if-is_spent.false in (
      _,
      has_written_append _ _ _ _ _ _ wrote step,
      rw c.one_less-left.ensures (fields_left c.args.bound c.values.left c.values.is_first _ _ _ _ done _
          (ap (λ fs. expressions_at (whats_at fs)) next) room whole),
    )

pub returns-then-is_spent : goal.returns-then-is_spent
returns-then-is_spent g c = λ plain ok.
    let (done, wrote, whole) = c.values.invariant plain in
    let step = c.write_more.ensures wrote.plain ok in
    let next : c.values.name-iterator
    ≡ (c.in-Some.name.now, c.in-Some.value.now) ∷ c.next.new.self = grind (arith, common_steps) in
    let spent : is_spent c.values.left ≡ true = sym c.is_spent.ensures ∙ c.if-is_spent.true in
    has_written_of_eq _ _ _ _ _ (fields_end c.args.bound c.values.left c.values.is_first _ _ _ _ done _
    (ap (λ fs. expressions_at (whats_at fs)) next) spent whole) (has_written_append _ _ _ _ _ _ wrote step)
