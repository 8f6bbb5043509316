-- Its start, its place, what it says, and its end.
use Rattle.std.proofs.Common.{◌++◌, codes, refl, ap, ◌∙◌, subst, string_bytes}
use Rattle.cedar_model.specs.Terms.{Text}
use Rattle.cedar_cli.specs.Visible.{IsVisible}
use Rattle.cedar_cli.specs.Explained.{start_of, place_text}
use Rattle.cedar_cli.proofs.Explaining.{line_put}
use Rattle.cedar_cli.proofs.explanations.push_told_line.Goals as goal

pub returns : goal.returns
returns c =
    let before : Text = string_bytes c.args.output.now in
    let start : Text = start_of c.args.line.now.kind in
    let place : Text = place_text c.args.places.now.source.text.now c.args.line.now.place in
    let (told, visible, put) = c.in_ok-push_visible.ensures in (
      start ++ (place ++ (told ++ codes "\n")),
      record {
        told = told;
        visible = subst (λ (t : Text). IsVisible t told) c.as_str.ensures.value visible;
        line_is = refl;
      },
      c.in_ok-push_str-2.ensures.bytes ∙ ap (λ (l : Text). l ++ codes "\n") put
          ∙ ap (λ (l : Text). (l ++ told) ++ codes "\n") c.in_ok-push_place_of.ensures
          ∙ ap (λ (l : Text). ((l ++ place) ++ told) ++ codes "\n") c.in_ok-push_str.ensures.bytes
          ∙ ap (λ (s : Text). (((before ++ s) ++ place) ++ told) ++ codes "\n") c.start_of.ensures
          ∙ line_put before start place told,
    )
