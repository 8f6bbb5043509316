use Rattle.std.proofs.Common.{rules, ℕ, ◌+◌, map, ap, arith}
use Rattle.std.proofs.lemmas.List.{drop_all}
use Rattle.cedar_template_links.specs.Links.{link_view}
use Rattle.cedar_template_links.specs.LinkFiles.{written_view, AreUnread}
use Rattle.cedar_template_links.proofs.FileTexts.{read_here, all_read, among_these}
use Rattle.cedar_template_links.proofs.files.put_parsed.Goals as goal

pub links-preserved : goal.links-preserved
links-preserved c =
    let l = c.links in (
      ap (λ (n : ℕ). n + 1) l.invariant.0,
      read_here c.args.all.now l.link-index (map link_view l.read.items) _ (omega arith) l.invariant.1 c.in_ok-put_one_parsed.ensures.read,
    )

pub returns-in_err-put_one_parsed-clause-refused : goal.returns-in_err-put_one_parsed-clause-refused
returns-in_err-put_one_parsed-clause-refused c =
    let h : AreUnread (map written_view c.args.all.now) c.in_err-put_one_parsed.field-0.0 =
    among_these c.args.all.now c.links.link-index c.in_err-put_one_parsed.field-0.0 (omega arith) c.in_err-put_one_parsed.ensures.refused in
    search rules

pub returns-clause-read : goal.returns-clause-read
returns-clause-read c =
    all_read _ _ _ (ap (map written_view) (drop_all c.links.link-index c.args.all.now c.links-test.false)) c.links.invariant.1
