use Rattle.std.proofs.Common.{subst, sym, ◌∙◌}
use Rattle.cedar_authorizer.specs.responses.Rows.{six_rows, rows_in, located_view}
use Rattle.cedar_authorizer.specs.responses.Readers.{AreAmong}
use Rattle.cedar_authorizer.proofs.Rows.{chosen_rows, chosen_among}
use Rattle.cedar_authorizer.proofs.responses.partial_response.PartialResponse.choose_policies.Goals as goal

pub returns-clause-rows : goal.returns-clause-rows
returns-clause-rows c =
    let k = c.args.kinds in
    (λ i. rows_in (six_rows (c.entries_if.ensures i) (c.entries_if-2.ensures i) (c.entries_if-3.ensures i) (c.entries_if-4.ensures i) (c.entries_if-5.ensures i) (c.entries_if-6.ensures i)))
    ∙ chosen_rows c.args.self.now k.true_permits k.false_permits k.residual_permits k.true_forbids k.false_forbids k.residual_forbids

pub returns-clause-located : goal.returns-clause-located
returns-clause-located c =
    let k = c.args.kinds in
    subst (λ ls. AreAmong ls (located_view c.args.self.now))
    (sym (λ i. six_rows (c.entries_if.ensures i) (c.entries_if-2.ensures i) (c.entries_if-3.ensures i) (c.entries_if-4.ensures i) (c.entries_if-5.ensures i) (c.entries_if-6.ensures i)))
    (chosen_among c.args.self.now k.true_permits k.false_permits k.residual_permits k.true_forbids k.false_forbids k.residual_forbids)
