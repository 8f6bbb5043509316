use Rattle.std.proofs.Common.{◌≤◌, ◌+◌, map, length, ap, arith}
use Rattle.std.specs.Str.{chars}
use Rattle.cedar_names.specs.Leaves.{part_view}
use Rattle.cedar_names.proofs.Matching.{skips, goes_on, smaller}
use Rattle.cedar_names.proofs.pattern.matching.matches_parts.Goals as goal

pub walk-smaller-in-Wildcard : goal.walk-smaller-in-Wildcard
walk-smaller-in-Wildcard c =
    let e = ap length c.in-Wildcard.ensures in
    let h : length (map part_view c.in-Wildcard.next_parts.now) + 1 ≤ length (map part_view c.walk.more.now) = omega (arith, e, c.walk.invariant.parts_fit) in
    omega (arith, e, smaller (length (map part_view c.in-Wildcard.next_parts.now)) (length (map part_view c.walk.more.now)) (length (chars c.walk.rest.now)) (length (chars c.walk.from.now)) (length (chars c.args.text.now)) (length (map part_view c.args.elems.now)) h c.walk.invariant.rest_fits)

pub walk-preserved-in-Wildcard : goal.walk-preserved-in-Wildcard
walk-preserved-in-Wildcard c =
    let w = c.walk.invariant in
    let e = ap length c.in-Wildcard.ensures in
    record {
      rest_text = w.rest_text;
      from_text = w.rest_text;
      walk = skips (map part_view c.in-Wildcard.next_parts.now) c.in-Wildcard.ensures w.walk;
      parts_fit = omega arith;
      more_fits = omega (arith, e, w.parts_fit, w.more_fits);
      rest_fits = w.rest_fits;
      from_fits = w.rest_fits;
    }

pub walk-preserved-in-Same : goal.walk-preserved-in-Same
walk-preserved-in-Same c =
    let w = c.walk.invariant in
    let s = c.in-Same.ensures.0 in
    record {
      rest_text = c.in-Same.ensures.1;
      from_text = w.from_text;
      walk = goes_on s.0 (map part_view c.in-Same.next_parts.now) (chars c.in-Same.next_rest.now) s.1.0 s.1.1 w.walk;
      parts_fit = omega (arith, ap length s.1.0, w.parts_fit);
      more_fits = w.more_fits;
      rest_fits = omega (arith, ap length s.1.1, w.rest_fits);
      from_fits = w.from_fits;
    }
