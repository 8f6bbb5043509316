-- What a token is to the layout, and what stands before it.
use Rattle.std.specs.Prelude.{ℕ, Bool, true, false, not, ◌&&◌, ◌==◌, if◌then◌else◌}
use Rattle.cedar_text_lexer.specs.declared.tokens.Kind.{Kind}
use Rattle.cedar_text_lexer.specs.declared.tokens.Kind.TheVariants as kind
use Rattle.cedar_text_formatter.specs.declared.roles.Role.{Role}
use Rattle.cedar_text_formatter.specs.declared.roles.Role.TheVariants as role

-- the token opens a bracket
abbrev pub opens : Kind → Bool
opens kind.OpenParen = true
opens kind.OpenBracket = true
opens kind.OpenBrace = true
opens _ = false

-- the token closes a bracket
abbrev pub closes : Kind → Bool
closes kind.CloseParen = true
closes kind.CloseBracket = true
closes kind.CloseBrace = true
closes _ = false

-- a part of a condition begins with it: `&&`, `||`, `then` or `else`
abbrev pub is_connective : Kind → Bool
is_connective kind.And = true
is_connective kind.Or = true
is_connective kind.Then = true
is_connective kind.Else = true
is_connective _ = false

-- nothing stands before this token on its line but what it belongs to: `,`, `;`, `:`, `::` and `.`
abbrev pub is_joined : Kind → Bool
is_joined kind.Comma = true
is_joined kind.Semicolon = true
is_joined kind.Colon = true
is_joined kind.Colons = true
is_joined kind.Dot = true
is_joined _ = false

-- an operand ends with it, so that a `-` behind it is between two operands
abbrev pub ends_operand : Role → Bool
ends_operand role.Name = true
ends_operand role.Operand = true
ends_operand role.Close = true
ends_operand _ = false

-- what follows stands right behind it
abbrev pub holds_next : Role → Bool
holds_next role.At = true
holds_next role.Open = true
holds_next role.Joint = true
holds_next role.Sign = true
holds_next _ = false

abbrev pub is_at : Role → Bool
is_at role.At = true
is_at _ = false

abbrev pub is_key : Role → Bool
is_key role.Key = true
is_key _ = false

abbrev pub is_name : Role → Bool
is_name role.Name = true
is_name _ = false

abbrev pub is_start : Role → Bool
is_start role.Start = true
is_start _ = false

abbrev pub is_end : Role → Bool
is_end role.End = true
is_end _ = false

-- a line begins behind it, right inside a scope or a clause
abbrev pub parts : Role → Bool
parts role.Block = true
parts role.Comma = true
parts _ = false

-- a bracket: that of a scope or a clause where none is open, unless an annotation's key stands before it
abbrev pub bracket_role : Role → ℕ → Role
bracket_role before depth = if (depth == 0) && not (is_key before) then role.Block else role.Open

-- a `-`: between two operands, or before its only one
abbrev pub minus_role : Role → Role
minus_role before = if ends_operand before then role.Other else role.Sign

-- what a token is behind this one, so many brackets deep, unless it is the key behind an `@`
abbrev pub role_of : Role → ℕ → Kind → Role
role_of before depth kind.At = role.At
role_of before depth kind.OpenParen = bracket_role before depth
role_of before depth kind.OpenBracket = bracket_role before depth
role_of before depth kind.OpenBrace = bracket_role before depth
role_of before depth kind.CloseParen = role.Close
role_of before depth kind.CloseBracket = role.Close
role_of before depth kind.CloseBrace = role.Close
role_of before depth kind.Comma = role.Comma
role_of before depth kind.Semicolon = role.End
role_of before depth kind.Dot = role.Joint
role_of before depth kind.Colons = role.Joint
role_of before depth kind.Bang = role.Sign
role_of before depth kind.Minus = minus_role before
role_of before depth kind.Identifier = role.Name
role_of before depth kind.Principal = role.Name
role_of before depth kind.Action = role.Name
role_of before depth kind.Resource = role.Name
role_of before depth kind.Context = role.Name
role_of before depth kind.Permit = role.Name
role_of before depth kind.Forbid = role.Name
role_of before depth kind.When = role.Name
role_of before depth kind.Unless = role.Name
role_of before depth kind.Cedar = role.Name
role_of before depth kind.Number = role.Operand
role_of before depth kind.Text = role.Operand
role_of before depth kind.True = role.Operand
role_of before depth kind.False = role.Operand
role_of before depth kind.PrincipalSlot = role.Operand
role_of before depth kind.ResourceSlot = role.Operand
role_of before depth kind.OtherSlot = role.Operand
role_of before depth _ = role.Other
