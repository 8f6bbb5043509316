use Rattle.cedar_interpreter.proofs.evaluation.Evaluation.resume_extended_has_stored.Goals as goal

pub returns : goal.returns
returns g c =
    c.answer_result_in.ensures _ (rw (c.taken_out-part.ensures, c.deref_mut.ensures.value) at c.extended_has_of_part.ensures)
