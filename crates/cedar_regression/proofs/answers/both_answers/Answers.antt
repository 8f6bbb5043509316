use Rattle.cedar_regression.proofs.answers.both_answers.Goals as goal

pub returns-clause-answered : goal.returns-clause-answered
returns-clause-answered g c =
    record { old_is = c.in_ok-old.ensures.answered; new_is = c.in_ok-new.ensures.answered }
