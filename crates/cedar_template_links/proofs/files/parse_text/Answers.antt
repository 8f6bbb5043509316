use Rattle.std.proofs.Common.{refl}
use Rattle.cedar_names.specs.Names.{uid_name}
use Rattle.cedar_template_links.specs.LinkFiles.{IsTextOf, text_of}
use Rattle.cedar_template_links.proofs.files.parse_text.Goals as goal

pub returns-in-Ok-clause-read : goal.returns-in-Ok-clause-read
returns-in-Ok-clause-read c =
    let h : IsTextOf c.in-Some.text.now (uid_name c.in-Ok.uid) = text_of c.in-Ok.ensures.ok refl in
    rw c.in-Some.is h
