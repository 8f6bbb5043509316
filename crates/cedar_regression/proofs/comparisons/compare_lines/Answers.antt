use Rattle.std.proofs.Common.{◌+◌, map, drop, ap}
use Rattle.std.proofs.lemmas.List.{drop_all}
use Rattle.cedar_extensions.specs.Extensions.{extensions_view, calls_of}
use Rattle.cedar_log.specs.Reading.{asked_of}
use Rattle.cedar_expectations.proofs.Comparing.{none_yet, one_more, all_each}
use Rattle.cedar_regression.specs.Compared.{IsLineOver}
use Rattle.cedar_regression.proofs.Lines.{next_line}
use Rattle.cedar_regression.proofs.comparisons.compare_lines.Goals as goal

pub lines-init : goal.lines-init
lines-init g c =
    let x = c.args.extensions.now in
    none_yet
    (IsLineOver (extensions_view x) (calls_of x) c.args.old.now c.args.new.now c.args.entities.now c.args.asked.now c.args.way)
    (map (λ t. asked_of t.now) c.args.lines.now) _ c.none-all.ensures.output c.none-all.ensures.refused c.none-all.ensures.different

pub lines-preserved : goal.lines-preserved
lines-preserved g c =
    let x = c.args.extensions.now in
    let lines = c.args.lines.now in
    let i = c.lines.i in
    one_more
    (IsLineOver (extensions_view x) (calls_of x) c.args.old.now c.args.new.now c.args.entities.now c.args.asked.now c.args.way)
    (map (λ t. asked_of t.now) lines) _ (map (λ t. asked_of t.now) (drop i lines)) (map (λ t. asked_of t.now) (drop (i + 1) lines)) (i + 1)
    c.in_ok-one.one c.lines.all c.put.new.self
    (next_line lines i _ c.lines-test.true)
    c.lines.invariant c.in_ok-one.ensures c.in_ok-put.ensures.output c.in_ok-put.ensures.refused
    c.in_ok-put.ensures.different

pub returns : goal.returns
returns g c =
    let x = c.args.extensions.now in
    let so_far = c.lines.invariant in
    record {
      comparisons = so_far.done;
      each = all_each
          (IsLineOver (extensions_view x) (calls_of x) c.args.old.now c.args.new.now c.args.entities.now c.args.asked.now c.args.way)
          (map (λ t. asked_of t.now) c.args.lines.now) _ _ c.lines.all
          (ap (map (λ t. asked_of t.now)) (drop_all c.lines.i c.args.lines.now c.lines-test.false)) so_far;
      output_is = so_far.output_is;
      refused_is = so_far.refused_is;
      different_is = so_far.different_is;
    }
