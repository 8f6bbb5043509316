use Rattle.std.proofs.Common.{subst, List, map, ap, ◌∙◌, string_bytes, cond}
use Rattle.cedar_extensions.specs.Extensions.{extensions_view, calls_of}
use Rattle.cedar_model.specs.Terms.{Text}
use Rattle.cedar_expectations.specs.Compared.{status_of, is_any_different}
use Rattle.cedar_regression.specs.Compared.{AreComparedOver}
use Rattle.cedar_log.specs.Reading.{asked_of}
use Rattle.cedar_regression.proofs.Lines.{each_asks}
use Rattle.cedar_regression.proofs.comparisons.compare_text.Goals as goal

pub returns : goal.returns
returns g c =
    let x = c.args.extensions.now in
    let of = c.in_ok-all.ensures in
    let all = c.in_ok-all.all in
    subst (λ (ls : List Text). AreComparedOver (extensions_view x) (calls_of x) c.args.old.now c.args.new.now
    c.args.entities.now c.args.asked.now c.args.way ls c.print_all.result)
    (each_asks c.deref.result.now ∙ ap (map asked_of) (ap (map (λ l. l.now)) c.deref.ensures.value ∙ c.in_ok-lines.ensures))
    (record {
      comparisons = of.comparisons;
      each = of.each;
      output_is = ap string_bytes c.print_all.ensures.output ∙ of.output_is;
      status_is = c.print_all.ensures.status ∙ ap (λ r. status_of r all.is_any_different) of.refused_is
          ∙ ap (status_of _) of.different_is;
    })
