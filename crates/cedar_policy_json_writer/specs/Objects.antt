-- Objects of a few members in Cedar's JSON.
use Rattle.std.specs.Prelude.{[], ◌∷◌, codes}
use Rattle.json.specs.Json.{Json}
use Rattle.cedar_model.specs.Terms.{Text}
use Rattle.cedar_json_writer.specs.Texts.{object_of}
use Rattle.cedar_json_writer.specs.Written.{sole_member, two_members}

abbrev pub three_members : Text → Json → Text → Json → Text → Json → Json
three_members k j l i m h = object_of ((k, j) ∷ (l, i) ∷ (m, h) ∷ [])

-- an operator on what stands at `left` and at this key
abbrev pub operation : Text → Json → Text → Json → Json
operation op left k right = sole_member op (two_members (codes "left") left k right)
