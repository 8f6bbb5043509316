use Rattle.std.proofs.Common.{rules, sym}
use Rattle.cedar_extensions.proofs.Collecting.{collects_put, comes_again}
use Rattle.cedar_extensions.proofs.util.collect_no_duplicates.Goals as goal

pub returns-in-Some-remove_entry-clause-duplicate : goal.returns-in-Some-remove_entry-clause-duplicate
returns-in-Some-remove_entry-clause-duplicate g c =
    comes_again g.met.K.Eq.laws g.I.Iterator.next_gives c.args.pairs c.pairs.key-iterator c.next.new.self
    c.pairs.map.entries c.in-Some.key c.in-Some.value c.in-Some-remove_entry.first c.pairs.invariant.2
    c.in-Some.ensures.steps (sym c.in-Some-remove_entry.ensures.key)

pub pairs-preserved-in-Ok-2 : goal.pairs-preserved-in-Ok-2
pairs-preserved-in-Ok-2 g c = (
  search rules,
  search rules,
  collects_put g.met.K.Eq.laws g.I.Iterator.next_gives c.args.pairs c.pairs.key-iterator
      c.next.new.self c.pairs.map.entries c.remove_entry.new.self.entries c.insert.new.self.entries c.in-Some.key
      c.in-Some.value c.in-Ok.field-0 c.pairs.invariant.2 c.in-Some.ensures.steps c.in-None-remove_entry.ensures.value
      c.in-None-remove_entry.ensures.unchanged c.in-Ok.ensures.old c.in-Ok.ensures.entries,
)
