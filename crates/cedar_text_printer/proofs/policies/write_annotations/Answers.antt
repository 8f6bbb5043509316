use Rattle.std.proofs.Common.{◌≡◌, [], ◌∷◌, ◌∙◌, rules, arith}
use Rattle.std.proofs.lemmas.Grind.{common_steps}
use Rattle.std.proofs.Output.{has_written_append, has_written_of_eq, writes_in_calls_nil}
use Rattle.cedar_text_printer.proofs.Loops.{annotations_left, annotations_end}
use Rattle.cedar_text_printer.proofs.policies.write_annotations.Goals as goal

pub annotations-init : goal.annotations-init
annotations-init g c =
    let same = c.into_iter-key-iterator.ensures.into_iter_gives ∙ c.iter-key-items.ensures.rest in
    λ plain. ([], record { wrote = writes_in_calls_nil _ _; plain = plain }, rw same)

pub annotations-preserved : goal.annotations-preserved
annotations-preserved g c = λ plain.
    let (done, wrote, whole) = c.annotations.invariant plain in
    let step = c.write_annotation.ensures wrote.plain (search rules) in
    let next : c.annotations.key-iterator ≡ (c.in-Some.key.now, c.in-Some.value.now) ∷ c.next.new.self = grind (arith, common_steps) in
    (_, has_written_append _ _ _ _ _ _ wrote step, annotations_left _ _ _ _ done _ next whole)

pub returns : goal.returns
returns g c = λ plain ok.
    let (done, wrote, whole) = c.annotations.invariant plain in
    let end : c.annotations.key-iterator ≡ [] = grind (arith, common_steps) in
    has_written_of_eq _ _ _ _ _ (annotations_end _ done _ end whole) wrote
