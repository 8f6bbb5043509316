-- Each finding in turn, and then those that say the same.
use Rattle.std.proofs.Common.{◌∙◌, ap, subst, ◌++◌}
use Rattle.cedar_model.specs.Terms.{Text}
use Rattle.cedar_cli.specs.declared.asked.Source.{Source}
use Rattle.cedar_cli.specs.Strict.{AreFindings, AreAlike, never, erring, late}
use Rattle.cedar_cli.proofs.strictness.all_warnings.Goals as goal

pub returns : goal.returns
returns c =
    let parsed = c.args.parsed.now in
    let (first, nevers, put) = c.in_ok-push_findings.ensures in
    let (second, errings, then) = c.in_ok-push_findings-2.ensures in
    let (third, lates, next) = c.in_ok-push_findings-3.ensures in
    let (fourth, alikes, last) = c.in_ok-push_alike.ensures in
    record {
      never_told = first;
      erring_told = second;
      late_told = third;
      alike_told = fourth;
      never_are = subst (λ (s : Source). AreFindings never s parsed first) c.in_ok-places.ensures nevers;
      erring_are = subst (λ (s : Source). AreFindings erring s parsed second) c.in_ok-places.ensures errings;
      late_are = subst (λ (s : Source). AreFindings late s parsed third) c.in_ok-places.ensures lates;
      alike_are = subst (λ (s : Source). AreAlike s parsed fourth) c.in_ok-places.ensures alikes;
      whole = last ∙ ap (λ (t : Text). t ++ fourth) (next ∙ ap (λ (t : Text). t ++ third)
          (then ∙ ap (λ (t : Text). t ++ second) (put ∙ ap (λ (t : Text). t ++ first) c.new-warnings.ensures.bytes)));
    }
