use Rattle.std.proofs.Common.{refl, ◌++◌, codes, ap, ◌∙◌, append_assoc, string_bytes}
use Rattle.cedar_cli.proofs.decisions.push_name_line.Goals as goal

pub returns : goal.returns
returns c =
    let before = string_bytes c.args.lines.now in
    let (told, visible, put) = c.in_ok-push_visible_name.ensures in (
      codes "  " ++ (told ++ codes "\n"),
      record { told = told; visible = visible; is_line = refl },
      c.in_ok-push_str-2.ensures.bytes ∙ ap (λ l. l ++ codes "\n") put
          ∙ ap (λ l. (l ++ told) ++ codes "\n") c.in_ok-push_str.ensures.bytes
          ∙ append_assoc (before ++ codes "  ") told (codes "\n")
          ∙ append_assoc before (codes "  ") (told ++ codes "\n"),
    )
