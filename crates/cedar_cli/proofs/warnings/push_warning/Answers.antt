use Rattle.std.proofs.Common.{refl, ◌++◌, codes, ap, ◌∙◌, append_assoc, string_bytes}
use Rattle.cedar_model.specs.Terms.{Text}
use Rattle.cedar_cli.proofs.warnings.push_warning.Goals as goal

pub returns : goal.returns
returns c =
    let before : Text = string_bytes c.args.warnings.now in
    let (told, visible, put) = c.in_ok-push_visible.ensures in (
      codes "warning: " ++ (told ++ codes "\n"),
      record { told = told; visible = visible; line_is = refl },
      c.in_ok-push_str-2.ensures.bytes ∙ ap (λ (l : Text). l ++ codes "\n") put
          ∙ ap (λ (l : Text). (l ++ told) ++ codes "\n") c.in_ok-push_str.ensures.bytes
          ∙ append_assoc (before ++ codes "warning: ") told (codes "\n")
          ∙ append_assoc before (codes "warning: ") (told ++ codes "\n"),
    )
