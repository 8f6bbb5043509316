-- What kinds of tokens may stand for.
use Rattle.std.specs.Prelude.{Bool, true, false}
use Rattle.cedar_text_lexer.specs.declared.errors.Expected.{Expected}
use Rattle.cedar_text_lexer.specs.declared.errors.Expected.TheVariants as wanted
use Rattle.cedar_text_lexer.specs.declared.tokens.Kind.{Kind}
use Rattle.cedar_text_lexer.specs.declared.tokens.Kind.TheVariants as kind

-- a word that may name an attribute
abbrev pub is_identifier : Kind → Bool
is_identifier kind.Identifier = true
is_identifier kind.Principal = true
is_identifier kind.Action = true
is_identifier kind.Resource = true
is_identifier kind.Context = true
is_identifier kind.Permit = true
is_identifier kind.Forbid = true
is_identifier kind.When = true
is_identifier kind.Unless = true
is_identifier kind.Cedar = true
is_identifier _ = false

-- a word that may stand in the name of a type, a namespace or a function: each of these but `__cedar`
abbrev pub is_name : Kind → Bool
is_name kind.Identifier = true
is_name kind.Principal = true
is_name kind.Action = true
is_name kind.Resource = true
is_name kind.Context = true
is_name kind.Permit = true
is_name kind.Forbid = true
is_name kind.When = true
is_name kind.Unless = true
is_name _ = false

-- what was expected, where such a token stands in place of a name: `__cedar` should have been another
abbrev pub name_for : Expected → Kind → Expected
name_for what kind.Cedar = wanted.OtherName
name_for what _ = what

-- a word that stands for itself alone
abbrev pub is_reserved : Kind → Bool
is_reserved kind.If = true
is_reserved kind.Then = true
is_reserved kind.Else = true
is_reserved kind.True = true
is_reserved kind.False = true
is_reserved kind.In = true
is_reserved kind.Has = true
is_reserved kind.Like = true
is_reserved kind.Is = true
is_reserved _ = false

-- what was expected where such a token was found: one that can't be read should have been another
abbrev pub what_for : Expected → Kind → Expected
what_for what kind.UnclosedText = wanted.Quote
what_for what kind.Unreadable = wanted.Token
what_for what kind.OtherSlot = wanted.Slot
what_for what _ = what
