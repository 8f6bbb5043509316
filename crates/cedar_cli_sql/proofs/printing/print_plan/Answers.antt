use Rattle.std.proofs.Common.{◌≡◌, string_bytes}
use Rattle.cedar_cli.specs.declared.decisions.Printed.{Printed}
use Rattle.cedar_cli_sql.specs.Planned.{IsPrintedOf, sql_line}
use Rattle.cedar_cli_sql.proofs.Composed.{both_ok}
use Rattle.cedar_cli_sql.proofs.printing.print_plan.Goals as goal

pub returns : goal.returns
returns c =
    let table = c.args.table.now in
    let is_candidates = c.args.is_candidates in
    let term = c.in_ok-term.term in
    both_ok (λ (p : Printed). string_bytes p.output ≡ sql_line table is_candidates term) (λ (p : Printed). p.status ≡ 0)
    (IsPrintedOf table is_candidates c.args.plan.now)
    (λ p o s. record { term = term; term_is = c.in_ok-term.ensures; output_is = o; status_is = s })
    c.print_term-printed.result c.print_term-printed.ensures.output c.print_term-printed.ensures.status
